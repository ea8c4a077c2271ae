use Rattle.std.proofs.Common.{◌≡◌, ◌∙◌, ◌+◌, ℕ, ◌<◌, inl, inr, List, Option, Some, None, length, refl, sym, ap, subst}
use Rattle.std.proofs.Common.{slice_set, rules, arith}
use Rattle.std.specs.Prelude.{slice_get}
use Rattle.std.proofs.lemmas.Bool.{cases_eq, cases_lt}
use Rattle.std.proofs.lemmas.Option.{same_Some, slice_get_read, slice_get_within}
use Rattle.ira_cert.specs.Queues.{HasList}
use Rattle.ira_cert.proofs.QueueHeads.{slice_get-set_same, slice_get-set_other}
use Rattle.ira_par.specs.CandidateTable.{CandidateTable, IsListAt}
use Rattle.ira_par.proofs.CaseTables.{below_at}
use Rattle.ira_par.proofs.tables.list_candidates.Goals as goal

-- one place more has nothing
one_cleared : (queues : List (Option (List ℕ))) (place : ℕ) → place < length queues
    → ((i : ℕ) → i < place → slice_get queues i ≡ Some None)
    → (i : ℕ) → i < place + 1 → slice_get (slice_set queues place None) i ≡ Some None
one_cleared queues place within so_far i l = elim (cases_eq place i) [
  | inl same ↦ subst (λ (j : ℕ). slice_get (slice_set queues place None) j ≡ Some None) same
      (slice_get-set_same queues place None within)
  | inr other ↦ slice_get-set_other queues place i None other ∙ so_far i (omega (arith, l, other))
]

module _ (tables : List CandidateTable) (queues : List (Option (List ℕ))) (n : ℕ) (table : CandidateTable)
    (at : slice_get tables n ≡ Some table) (within : table.place < length queues) where
  -- one table more is listed
  abbrev listed : List (Option (List ℕ))
  listed = slice_set queues table.place (Some table.positions)

  here : slice_get listed table.place ≡ Some (Some table.positions)
  here = slice_get-set_same queues table.place (Some table.positions) within

  kept : (i : ℕ) → HasList queues i → HasList listed i
  kept i has = elim (cases_eq table.place i) [
    | inl same ↦ (
      table.positions,
      subst (λ (j : ℕ). slice_get listed j ≡ Some (Some table.positions)) same here,
    )
    | inr other ↦ (has.0, slice_get-set_other queues table.place i (Some table.positions) other ∙ has.1)
  ]

  one_asked : ((k : ℕ) (t : CandidateTable) → k < n → slice_get tables k ≡ Some t → HasList queues t.place)
      → (k : ℕ) (t : CandidateTable) → k < n + 1 → slice_get tables k ≡ Some t → HasList listed t.place
  one_asked so_far k t l t_at = elim (cases_lt k n) [
    | inl below ↦ kept t.place (so_far k t below t_at)
    | inr top ↦
        let same : n ≡ k = omega (arith, top, l) in
        let is : table ≡ t = same_Some table t (sym at ∙ ap (λ (j : ℕ). slice_get tables j) same ∙ t_at) in (
          table.positions,
          subst (λ (u : CandidateTable). slice_get listed u.place ≡ Some (Some table.positions)) is here,
        )
  ]

  one_list : ((i : ℕ) (xs : List ℕ) → slice_get queues i ≡ Some (Some xs) → IsListAt tables i xs)
      → (i : ℕ) (xs : List ℕ) → slice_get listed i ≡ Some (Some xs) → IsListAt tables i xs
  one_list so_far i xs list = elim (cases_eq table.place i) [
    | inl same ↦
        let there = subst (λ (j : ℕ). slice_get listed j ≡ Some (Some table.positions)) same here in
        let positions : table.positions ≡ xs = same_Some _ _ (same_Some _ _ (sym there ∙ list)) in (
          n,
          at ∙ ap (λ (p : ℕ). Some (record { place = p; positions = table.positions })) same
              ∙ ap (λ (ys : List ℕ). Some (record { place = i; positions = ys })) positions,
        )
    | inr other ↦ so_far i xs (sym (slice_get-set_other queues table.place i (Some table.positions) other) ∙ list)
  ]

pub loop-place-preserved : goal.loop-place-preserved
loop-place-preserved g c = one_cleared c.loop-place.queues c.loop-place.place
    (omega (arith, c.loop-place-test.true, c.loop-place.auto.queues)) c.loop-place.invariant

pub loop-n-init : goal.loop-n-init
loop-n-init g c = record {
  asked = λ k table l at. absurd (omega (arith, l));
  lists = λ i positions at.
      let within = slice_get_within c.loop-place.queues i (Some positions) at in
      let none = c.loop-place.invariant i (omega (
        arith,
        within,
        c.loop-place.auto.queues,
        c.loop-place-test.false,
      )) in
      absurd (let e = sym none ∙ at in cc);
}

pub loop-n-preserved : goal.loop-n-preserved
loop-n-preserved g c =
    let queues : List (Option (List ℕ)) = c.loop-n.queues in
    let tables : List CandidateTable = c.args.tables.now in
    let n = c.loop-n.n in
    let table : CandidateTable = c.index-tables-n.result in
    let at : slice_get tables n ≡ Some table =
    slice_get_read c.args.tables.now _ n table refl (search rules) c.index-tables-n.is in
    let within : table.place < length queues =
    omega (
      arith,
      below_at (length c.args.queues.now) tables table.place table.positions c.requires (n, at),
      c.loop-n.auto.queues,
    ) in
    let same : slice_set queues c.from.result (Some c.queue.result) ≡ listed tables queues n table at within =
    ap (λ (p : ℕ). slice_set queues p (Some c.queue.result)) (c.from.ensures ∙ c.place.ensures)
    ∙ ap (λ (ps : List ℕ). slice_set queues table.place (Some ps)) c.queue.ensures in
    record {
      asked = subst (λ (fs : List (Option (List ℕ))). (k : ℕ) (t : CandidateTable) → k < n + 1
          → slice_get tables k ≡ Some t → HasList fs t.place) (sym same)
          (one_asked tables queues n table at within c.loop-n.invariant.asked);
      lists = subst (λ (fs : List (Option (List ℕ))). (i : ℕ) (xs : List ℕ) → slice_get fs i ≡ Some (Some xs)
          → IsListAt tables i xs) (sym same)
          (one_list tables queues n table at within c.loop-n.invariant.lists);
    }

pub returns : goal.returns
returns g c = λ logs case are. record {
  asked = λ i asked.
      let h = are.asked i asked in
      let table : CandidateTable = record { place = i; positions = h.0 } in
      c.loop-n.invariant.asked h.1.0 table (omega (
        arith,
        slice_get_within c.args.tables.now h.1.0 table h.1.1,
        c.loop-n-test.false,
        c.loop-n.auto.n-end,
      )) h.1.1;
  lists = λ i positions at. are.lists i positions (c.loop-n.invariant.lists i positions at);
}
