-- In the first term the draws of a node are, in their order, those of its rounds.
use Rattle.std.proofs.Common.{◌≡◌, ℕ, zero, suc, ◌+◌, ◌≤◌, ◌⊎◌, inl, inr, List, [], ◌∷◌, ◌++◌, Some, length, take}
use Rattle.std.proofs.Common.{refl, sym, ◌∙◌, subst, ap, arith, add-one, length-append}
use Rattle.std.specs.Prelude.{slice_get}
use Rattle.std.proofs.lemmas.List.{take_more}
use Rattle.std.proofs.lemmas.List.Elements.{filter_map-append}
use Rattle.std.proofs.lemmas.Option.{slice_get_cases, slice_get_within, get_or_from_slice_get}
use Rattle.ira_event.specs.declared.event.Event.{Event}
use Rattle.ira_event.specs.declared.event.Event.TheVariants.{Draw, Sent, Got, Yield}
use Rattle.ira_event.specs.Log.{Log}
use Rattle.ira_event.specs.Messages.{drawn, drawing}
use Rattle.ira_node.specs.declared.node_state.NodeState.{NodeState}
use Rattle.ira_node.specs.declared.phase.Phase.TheVariants.{Choosing, Active, Passive}
use Rattle.ira_node.specs.NodeStep.{NodeStep, sends, draws, passes, gives_in, purges, meets, ties, wins, yields}
use Rattle.ira_node.specs.NodeStep.{restarts, comes_home}
use Rattle.ira_order.specs.Ring.{log_of, numbered}
use Rattle.ira_order.specs.Run.{is_initiator}
use Rattle.ira_safety.proofs.Steps.{phase_is, term_is}
use Rattle.ira_election.specs.Draws.{FirstTermInOrder}
use Rattle.ira_election.proofs.Going.{IsCutOfRuns, st, course, st_first}
use Rattle.ira_election.proofs.Draws.{positive, first_is, state_is, whole_said}

-- so many draws have brought a node to its round of the first term
record IsCounted (s : NodeState) (k : ℕ) : Type 0 where
  chooses : s.term ≡ 1 → (x : ℕ) → s.phase ≡ Choosing x → k + 1 ≡ x
  active : s.term ≡ 1 → (x y : ℕ) → s.phase ≡ Active x y → k ≡ x

draws_in : Event → ℕ
draws_in e = length (drawn (e ∷ []))

counted_on : (n : ℕ) (s : NodeState) (e : Event) (t : NodeState) (k : ℕ) → 1 ≤ s.term → NodeStep n s e t
    → IsCounted s k → IsCounted t (k + draws_in e)
unfolding draws_in
counted_on n s e t k pos (sends l runs o ee et) c = record {
  chooses = λ now x is. omega (arith, ap draws_in ee, c.chooses (sym (term_is t _ et) ∙ now) x (sym (phase_is t _ et) ∙ is));
  active = λ now x y is.
      omega (arith, ap draws_in ee, c.active (sym (term_is t _ et) ∙ now) x y (sym (phase_is t _ et) ∙ is));
}
counted_on n s e t k pos (draws term round id es ee lo hi et) c = record {
  chooses = λ now x is. (let z = sym (phase_is t _ et) ∙ is in absurd cc);
  active = λ now x y is.
      (let z : Active round id ≡ Active x y = sym (phase_is t _ et) ∙ is in
      let rx : round ≡ x = cc in
      omega (
        arith,
        ap draws_in ee,
        rx,
        c.chooses (term_is s _ es ∙ sym (term_is t _ et) ∙ now) round (phase_is s _ es),
      ));
}
counted_on n s e t k pos (passes term m es ee h et) c = record {
  chooses = λ now x is. (let z = sym (phase_is t _ et) ∙ is in absurd cc);
  active = λ now x y is. (let z = sym (phase_is t _ et) ∙ is in absurd cc);
}
counted_on n s e t k pos (gives_in term round id m es ee g h et) c = record {
  chooses = λ now x is. (let z = sym (phase_is t _ et) ∙ is in absurd cc);
  active = λ now x y is. (let z = sym (phase_is t _ et) ∙ is in absurd cc);
}
counted_on n s e t k pos (purges term round id m es ee g et) c = record {
  chooses = λ now x is.
      omega (arith, ap draws_in ee, c.chooses (sym (term_is t _ et) ∙ now) x (sym (phase_is t _ et) ∙ is));
  active = λ now x y is.
      omega (arith, ap draws_in ee, c.active (sym (term_is t _ et) ∙ now) x y (sym (phase_is t _ et) ∙ is));
}
counted_on n s e t k pos (meets term round id m es ee g h j et) c = record {
  chooses = λ now x is. (let z = sym (phase_is t _ et) ∙ is in absurd cc);
  active = λ now x y is.
      omega (
        arith,
        ap draws_in ee,
        c.active (term_is s _ es ∙ sym (term_is t _ et) ∙ now) x y
            (phase_is s _ es ∙ sym (phase_is t _ et) ∙ is),
      );
}
counted_on n s e t k pos (ties term round id m es ee g h d j et) c = record {
  chooses = λ now x is.
      (let z : Choosing (round + 1) ≡ Choosing x = sym (phase_is t _ et) ∙ is in
      let rx : round + 1 ≡ x = cc in
      omega (
        arith,
        ap draws_in ee,
        rx,
        c.active (term_is s _ es ∙ sym (term_is t _ et) ∙ now) round id (phase_is s _ es),
      ));
  active = λ now x y is. (let z = sym (phase_is t _ et) ∙ is in absurd cc);
}
counted_on n s e t k pos (wins term round id m es ee g h d et) c = record {
  chooses = λ now x is. (let z = sym (phase_is t _ et) ∙ is in absurd cc);
  active = λ now x y is. (let z = sym (phase_is t _ et) ∙ is in absurd cc);
}
counted_on n s e t k pos (yields l ee low et) c = record {
  chooses = λ now x is. (let z = sym (phase_is t _ et) ∙ is in absurd cc);
  active = λ now x y is. (let z = sym (phase_is t _ et) ∙ is in absurd cc);
}
counted_on n s e t k pos (restarts term h es ee below low et) c = record {
  chooses = λ now x is. absurd (omega (arith, term_is t _ et, term_is s _ es, now, pos));
  active = λ now x y is. absurd (omega (arith, term_is t _ et, term_is s _ es, now, pos));
}
counted_on n s e t k pos (comes_home term es ee low et) c = record {
  chooses = λ now x is. absurd (omega (arith, term_is t _ et, term_is s _ es, now, pos));
  active = λ now x y is. absurd (omega (arith, term_is t _ et, term_is s _ es, now, pos));
}

drawn_more : (es : List Event) (a : ℕ) (e : Event) → slice_get es a ≡ Some e
    → length (drawn (take (suc a) es)) ≡ length (drawn (take a es)) + draws_in e
unfolding draws_in
drawn_more es a e at =
    let whole : take (suc a) es ≡ take a es ++ e ∷ [] = ap (λ (x : ℕ). take x es) (sym (add-one a))
    ∙ take_more es a e (slice_get_within es a e at)
    ∙ ap (λ (x : Event). take a es ++ x ∷ []) (get_or_from_slice_get es a e e at) in
    ap (λ (xs : List Event). length (drawn xs)) whole
    ∙ ap length (filter_map-append drawing (take a es) (e ∷ []))
    ∙ length-append (drawn (take a es)) (drawn (e ∷ []))

at_drawn : (es : List Event) (a id : ℕ) → slice_get es a ≡ Some (Draw id)
    → slice_get (drawn es) (length (drawn (take a es))) ≡ Some id
at_drawn [] a id at = cc
at_drawn (e ∷ es) zero id at =
    let is : e ≡ Draw id = cc in
    ap (λ (x : Event). slice_get (drawn (x ∷ es)) 0) is
at_drawn (Draw d ∷ es) (suc a) id at = at_drawn es a id at
at_drawn (Sent m ∷ es) (suc a) id at = at_drawn es a id at
at_drawn (Got m ∷ es) (suc a) id at = at_drawn es a id at
at_drawn (Yield ∷ es) (suc a) id at = at_drawn es a id at

module _ {logs : List Log} {cut : ℕ → ℕ} (r : IsCutOfRuns logs cut) (j : ℕ) where
  counted : (a : ℕ) → IsCounted (st r j a) (length (drawn (take a (log_of logs j))))
  counted zero = record {
    chooses = λ now x is.
        by_first x (first_is (is_initiator (slice_get logs j)) (Choosing x)
        (ap (λ (s : NodeState). s.phase) (sym (st_first r j)) ∙ is));
    active = λ now x y is.
        absurd (not_first x y (first_is (is_initiator (slice_get logs j)) (Active x y)
        (ap (λ (s : NodeState). s.phase) (sym (st_first r j)) ∙ is)));
  }
    where
      by_first : (x : ℕ) → (Choosing x ≡ Choosing 1) ⊎ (Choosing x ≡ Passive) → 0 + 1 ≡ x
      by_first x (inl e) = (let q : x ≡ 1 = cc in omega arith)
      by_first x (inr e) = (let z : ⊥ = cc in absurd z)

      not_first : (x y : ℕ) → (Active x y ≡ Choosing 1) ⊎ (Active x y ≡ Passive) → ⊥
      not_first x y (inl e) = cc
      not_first x y (inr e) = cc
  counted (suc a) = elim (slice_get_cases (log_of logs j) a).1 [
    | inl more ↦
        subst (IsCounted (st r j (suc a))) (sym (drawn_more (log_of logs j) a more.0 more.2))
        (counted_on (length logs) (st r j a) more.0 (st r j (suc a)) (length (drawn (take a (log_of logs j))))
        (positive r j a) ((course r j).steps a more.0 more.2) (counted a))
    | inr end ↦
        subst (λ (s : NodeState). IsCounted s (length (drawn (take (suc a) (log_of logs j)))))
        (sym ((course r j).ends a end.0))
        (subst (λ (es : List Event). IsCounted (st r j a) (length (drawn es))) (same_take a (log_of logs j) end.0)
        (counted a))
  ]
    where
      same_take : (a : ℕ) (es : List Event) → length es ≤ a → take a es ≡ take (suc a) es
      same_take zero [] low = refl
      same_take zero (e ∷ es) low = absurd (omega arith)
      same_take (suc a) [] low = refl
      same_take (suc a) (e ∷ es) low = ap (λ (xs : List Event). e ∷ xs) (same_take a es (omega arith))

pub first_term_in_order : FirstTermInOrder
first_term_in_order logs are matches local j round id drew =
    let r = whole_said logs are matches local in
    let a : ℕ = drew.events in
    let is = state_is r j a drew.state drew.is_in in
    let c = counted r j a in
    let k : ℕ = length (drawn (take a (log_of logs j))) in
    let up : suc k ≡ round = omega (
      arith,
      c.chooses (ap (λ (s : NodeState). s.term) (sym is) ∙ drew.term_is) round
          (ap (λ (s : NodeState). s.phase) (sym is) ∙ drew.chooses),
    ) in
    subst (λ (x : ℕ). numbered (drawn (log_of logs j)) x ≡ Some id) up (at_drawn (log_of logs j) a id drew.draws)
