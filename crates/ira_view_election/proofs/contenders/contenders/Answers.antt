use Rattle.std.proofs.Common.{◌≡◌, ◌-◌, List, Some, inl, inr, length, map, subst, sym}
use Rattle.std.specs.Prelude.{Contains, slice_get}
use Rattle.std.proofs.lemmas.Option.{get_or_from_slice_get, slice_get_within}
use Rattle.ira_view_moment.specs.Rounds.{AreRounds, DrawnRound, drawn}
use Rattle.ira_view_moment.specs.declared.rounds.Round.{Round}
use Rattle.ira_view_moment.proofs.Added.{kept_at}
use Rattle.ira_view_election.proofs.Outdrawn.{names_are}
use Rattle.ira_view_election.proofs.contenders.contenders.Goals as goal

pub returns-then-len-from : goal.returns-then-len-from
returns-then-len-from g c =
    let logs = c.args.logs.now in
    let rounds = c.as_slice-rounds.result.now in
    let last = c.in-Some.last.now in
    let k = length rounds - 1 in
    let at : slice_get rounds k ≡ Some last = sym c.in-Some.ensures.value in
    let contains = subst (λ (r : Round g.row.R.Denot). Contains (map drawn rounds) (drawn r))
    (get_or_from_slice_get rounds k last last at) (kept_at rounds k last (slice_get_within rounds k last at)) in
    λ cut of_cut is. (let are = subst (λ (rs : List DrawnRound). AreRounds logs cut rs) (sym c.as_slice-rounds.ensures) is in
    inr (names_are logs cut c.args.moment.now (map drawn rounds) of_cut are (drawn last) contains
    (c.is_past.ensures c.if-not-is_past.true) c.in_ok-places-in-Some.places.items
    (c.in_ok-places-in-Some.ensures cut are)))

pub returns : goal.returns
returns g c = λ cut of_cut is. inl c.new.ensures.items
