-- Who leads in the first term of a full run is whom the IDs that nodes are given elect.
use Rattle.std.proofs.Common.{◌≡◌, ℕ, ◌+◌, ◌<◌, ◌⊎◌, inl, inr, true, false, List, [], ◌++◌, Some, length}
use Rattle.std.proofs.Common.{sym, ◌∙◌, ap, arith}
use Rattle.std.specs.Prelude.{slice_get}
use Rattle.std.proofs.lemmas.Option.{slice_get-get_or, slice_get_within, get_or_from_slice_get}
use Rattle.ira_event.specs.declared.event.Event.{Event}
use Rattle.ira_event.specs.Messages.{drawn}
use Rattle.ira_order.specs.Run.{is_initiator as starts}
use Rattle.ira_election.specs.Draws.{Starts}
use Rattle.ira_election.specs.Tables.{Are, DrawFrom}
use Rattle.ira_election.proofs.FirstTerm.{first_leaders_are_elected}
use Rattle.ira_ring_setup.specs.FullRunLaws.{FullRunsElectByDraws}
use Rattle.ira_ring_setup.specs.Run.{Run}
use Rattle.ira_ring_setup.specs.Setup.{Setup, KeepsRules, is_initiator}
use Rattle.ira_ring_setup.specs.ShownEnd.{IsLoneRun}
use Rattle.ira_ring_setup.proofs.GoingOn.{lone_runs}
use Rattle.ira_ring_setup.proofs.Places.{get_within}

module _ (s : Setup) (lone : Run) (keeps : KeepsRules s) (full : IsLoneRun s lone) where
  starter : (j : ℕ) → j < length lone.logs → starts (slice_get lone.logs j) ≡ is_initiator s j
  starter j lj =
      let l = get_within lone.logs j lj in
      ap starts l.1 ∙ full.logs.of_setup.kinds j l.0 l.1

  initiators : Are (length lone.logs) s.initiators (Starts lone.logs 1)
  initiators = record {
    count = keeps.lists.0 ∙ sym full.logs.of_setup.number;
    so = λ j is.
        (let lj : j < length lone.logs = omega (
          arith,
          slice_get_within s.initiators j true is,
          keeps.lists.0,
          full.logs.of_setup.number,
        ) in
        (lj, inr (starter j lj ∙ get_or_from_slice_get s.initiators j true false is)));
    all = λ j is. by_start j is.0 is.1;
  }
    where
      by_start : (j : ℕ) → j < length lone.logs → (1 < 1) ⊎ (starts (slice_get lone.logs j) ≡ true)
          → slice_get s.initiators j ≡ Some true
      by_start j lj (inl never) = absurd (omega arith)
      by_start j lj (inr is) =
          slice_get-get_or s.initiators j false (omega (arith, keeps.lists.0, full.logs.of_setup.number))
          ∙ ap Some (sym (starter j lj) ∙ is)

  given : DrawFrom lone.logs s.draws
  given = record {
    count = keeps.lists.1 ∙ sym full.logs.of_setup.number;
    first = λ j ids at.
        (let lj : j < s.nodes = omega (arith, slice_get_within s.draws j ids at, keeps.lists.1) in
        let w = full.logs.full.draws j lj in (
          w.0,
          sym (get_or_from_slice_get s.draws j ids [] at) ∙ w.1
              ∙ ap (λ (es : List Event). drawn es ++ w.0)
              (full.logs.events j (omega (arith, full.logs.of_setup.number))),
        ));
  }

pub full_runs_elect_by_draws : FullRunsElectByDraws
full_runs_elect_by_draws s lone keeps full i events last id rounds state is_in leads first room =
    let runs = lone_runs s lone full in
    first_leaders_are_elected lone.logs full.logs.of_setup.ring runs.matches runs.local i events last id state is_in
    leads first s.initiators s.draws rounds (initiators s lone keeps full) (given s lone keeps full) room
