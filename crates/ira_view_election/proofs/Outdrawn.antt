-- Who is outdrawn, by the rounds.
use Rattle.std.proofs.Common.{◌≡◌, ◌∙◌, ℕ, ◌<◌, ◌≤◌, inl, inr, Bool, false, List, [], ◌∷◌, Some, map, refl, sym, subst}
use Rattle.std.proofs.Common.{ap, arith, take}
use Rattle.std.specs.Prelude.{◌&&◌, ◌||◌, Contains, nat_eq, nat_lt, slice_get, slice_index}
use Rattle.std.specs.List.{list_any}
use Rattle.std.proofs.lemmas.Bool.{and_from, and_parts, both_ways, cases_lt, false_from_ne_true}
use Rattle.std.proofs.lemmas.Bool.Decides.{nat_tests}
use Rattle.std.proofs.lemmas.List.Folds.{Any-from_list_any, list_any-from_Any}
use Rattle.std.proofs.lemmas.Option.{slice_get_cases, slice_get_within}
use Rattle.ira_election.specs.Draws.{DrewWithin, IsContender, Starts}
use Rattle.ira_event.specs.Log.{Log}
use Rattle.ira_node.specs.declared.node_state.NodeState.{NodeState}
use Rattle.ira_node.specs.NodeState.{first_state}
use Rattle.ira_safety.specs.OneLeader.{IsIn}
use Rattle.ira_view_election.specs.Contenders.{AreContenders, drew_less, is_outdrawn}
use Rattle.ira_view_moment.specs.Moment.{IsMoment, Moment}
use Rattle.ira_view_moment.specs.declared.node_progress.NodeProgress.{NodeProgress}
use Rattle.ira_view_moment.specs.Rounds.{AreRounds, DrawnRound, drawn}
use Rattle.ira_view_moment.specs.Those.{AreThosePlaces}
use Rattle.ira_view_moment.specs.declared.rounds.Round.{Round}
use Rattle.ira_view_moment.proofs.Progress.{one_end}

any_drawn : {A : Type 0} (p : DrawnRound → Bool) (rounds : List (Round A))
    → list_any p (map drawn rounds) ≡ list_any (λ r. p (drawn r)) rounds
any_drawn p [] = refl
any_drawn p (r ∷ rounds) = ap (λ b. p (drawn r) || b) (any_drawn p rounds)

module _ {A : Type 0} {logs : List Log} {cut : List ℕ} (rounds : List (Round A))
    (is : AreRounds logs cut (map drawn rounds)) (term i : ℕ) where
  abbrev outdraws : DrawnRound → Bool
  outdraws r = nat_eq r.term term && drew_less i r

  abbrev less_than : DrawnRound → ℕ × ℕ → Bool
  less_than r d = nat_eq d.0 i && nat_lt d.1 r.greatest

  pub to_contender : Starts logs term i × (is_outdrawn rounds term i ≡ false) → IsContender logs cut term i
  to_contender h = record {
    starts = h.0;
    not_outdrawn = λ j round id other mine theirs. elim (cases_lt id other) [
      | inr most ↦ most
      | inl less ↦
          let q = is.all i term round id mine in
          let r : DrawnRound = q.0 in
          let of = is.each r q.1 in
          let here = λ (k x : ℕ) (w : DrewWithin logs cut k term round x).
          subst (λ (n : ℕ). DrewWithin logs cut k r.term n x) (sym q.3)
          (subst (λ (t : ℕ). DrewWithin logs cut k t round x) (sym q.2) w) in
          let own = (of.draws.those (i, id)).1 (here i id mine) in
          let high = of.none_greater j other (here j other theirs) in
          let most = and_from (nat_eq i i) (nat_lt id r.greatest) (grind (arith, nat_tests))
          (grind (arith, nat_tests, less, high)) in
          let there = list_any-from_Any (less_than r) r.draws (own.0, (i, id), own.1, own.2, most) in
          let now = and_from (nat_eq r.term term) (drew_less i r) (grind (arith, nat_tests, q.2)) there in
          let out = list_any-from_Any outdraws (map drawn rounds) (q.1.0, r, q.1.1, q.1.2, now) in
          absurd (both_ways _ h.1 (sym (any_drawn outdraws rounds) ∙ out))
    ];
  }

  pub from_contender : IsContender logs cut term i → Starts logs term i × (is_outdrawn rounds term i ≡ false)
  from_contender c = (
    c.starts,
    false_from_ne_true _ (λ yes.
        (let o = Any-from_list_any outdraws (map drawn rounds) (any_drawn outdraws rounds ∙ yes) in
        let r : DrawnRound = o.1 in
        let of = is.each r (o.0, o.2, o.3) in
        let both = and_parts (nat_eq r.term term) (drew_less i r) o.4 in
        let d = Any-from_list_any (less_than r) r.draws both.1 in
        let own = and_parts (nat_eq d.1.0 i) (nat_lt d.1.1 r.greatest) d.4 in
        let term_is : r.term ≡ term = grind (arith, nat_tests, both.0) in
        let node_is : d.1.0 ≡ i = grind (arith, nat_tests, own.0) in
        let here = λ (k x : ℕ) (w : DrewWithin logs cut k r.term r.number x).
        subst (λ (t : ℕ). DrewWithin logs cut k t r.number x) term_is w in
        let mine = subst (λ k. DrewWithin logs cut k term r.number d.1.1) node_is
        (here d.1.0 d.1.1 ((of.draws.those d.1).0 (d.0, d.2, d.3))) in
        let low = c.not_outdrawn of.somebody.0 r.number d.1.1 r.greatest mine
        (here of.somebody.0 r.greatest of.somebody.1) in
        let less : d.1.1 < r.greatest = grind (arith, nat_tests, own.1) in
        omega (arith, low, less))),
  )

-- the states of a moment are those at its cut
pub state_at : (logs : List Log) (cut : List ℕ) (m : Moment) → IsMoment logs cut m → (i : ℕ) (state : NodeState)
    → IsIn logs i (slice_index cut i) state → (p : NodeProgress) × (slice_get m.nodes i ≡ Some p) × (p.state ≡ state)
state_at logs cut m is i state is_in = elim (slice_get_cases m.nodes i).1 [
  | inl found ↦
      let p = is.nodes i is_in.log found.0 is_in.at found.2 in (
        found.0,
        found.2,
        one_end is_in.log.nodes (first_state is_in.log.initiator)
            (take (slice_index cut i) is_in.log.events) found.0.state state p.state is_in.reached,
      )
  | inr past ↦ absurd (omega (arith, past.0, is.places, slice_get_within logs i is_in.log is_in.at))
]

-- the contenders of the term of some round, where no node is past it
pub names_are : (logs : List Log) (cut : List ℕ) (m : Moment) (rounds : List DrawnRound) → IsMoment logs cut m
    → AreRounds logs cut rounds → (last : DrawnRound) → Contains rounds last
    → ((i : ℕ) (p : NodeProgress) → slice_get m.nodes i ≡ Some p → p.state.term ≤ last.term) → (places : List ℕ)
    → AreThosePlaces (IsContender logs cut last.term) places → AreContenders logs cut places
names_are logs cut m rounds of_cut is last contains low places those =
    let of = is.each last contains in
    record {
      term = last.term;
      drawn = (of.somebody.0, last.number, last.greatest, of.somebody.1);
      latest = λ i state is_in.
          (let p = state_at logs cut m of_cut i state is_in in
          subst (λ (s : NodeState). s.term ≤ last.term) p.2 (low i p.0 p.1));
      those = those;
    }
