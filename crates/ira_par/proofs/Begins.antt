-- Where ranges begin.
use Rattle.std.proofs.Common.{◌≡◌, ℕ, zero, suc, ◌+◌, ◌-◌, ◌^◌, ◌<◌, ◌≤◌, List, length, get_or, inl, inr}
use Rattle.std.proofs.Common.{refl, ap, ◌∙◌, subst, arith, add-one, length-append}
use Rattle.std.proofs.lemmas.Bool.{cases_lt}
use Rattle.std.proofs.lemmas.List.{get_or_append_left, get_or-append_right, get_or_default}
use Rattle.ira_par.specs.Halves.{halfway, halved, begin_of}
use Rattle.ira_par.proofs.Halves.{twice, some_range}

halfway_within : (from to : ℕ) → from ≤ to → (from ≤ halfway from to) × (halfway from to ≤ to)
halfway_within from to order = (omega arith, omega arith)

-- with which step part r begins; past the last one, the end
abbrev pub begin_at : ℕ → ℕ → ℕ → ℕ → ℕ
begin_at depth from to r = get_or (halved depth from to) r to

count : (depth from to : ℕ) → length (halved depth from to) ≡ 2 ^ depth
count zero from to = refl
count (suc depth) from to =
    omega (
      arith,
      length-append (halved depth from (halfway from to)) (halved depth (halfway from to) to),
      count depth from (halfway from to),
      count depth (halfway from to) to,
      twice depth,
    )

module _ (depth from to r : ℕ) where
  -- in the left half
  pub begin_left : r < 2 ^ depth → begin_at (suc depth) from to r ≡ begin_at depth from (halfway from to) r
  begin_left l =
      let xs : List ℕ = halved depth from (halfway from to) in
      let within : r < length xs = omega (arith, l, count depth from (halfway from to)) in
      get_or_append_left xs (halved depth (halfway from to) to) to r within
      ∙ get_or_default xs r to (halfway from to) within

  -- in the right half
  begin_right : 2 ^ depth ≤ r → begin_at (suc depth) from to r ≡ begin_at depth (halfway from to) to (r - 2 ^ depth)
  begin_right l =
      get_or-append_right (halved depth from (halfway from to)) (halved depth (halfway from to) to) (2 ^ depth) r to
      (count depth from (halfway from to)) l

-- of one halving more
module _ (depth less from to r : ℕ) (more : suc less ≡ depth) where
  pub begin_in_left : r < 2 ^ less → begin_at depth from to r ≡ begin_at less from (halfway from to) r
  begin_in_left l =
      subst (λ (d : ℕ). begin_at d from to r ≡ begin_at less from (halfway from to) r) more (begin_left less from to r l)

  pub begin_in_right : 2 ^ less ≤ r → begin_at depth from to r ≡ begin_at less (halfway from to) to (r - 2 ^ less)
  begin_in_right l =
      subst (λ (d : ℕ). begin_at d from to r ≡ begin_at less (halfway from to) to (r - 2 ^ less)) more
      (begin_right less from to r l)

first : (depth from to : ℕ) → begin_at depth from to 0 ≡ from
first zero from to = refl
first (suc depth) from to = begin_left depth from to 0 (some_range depth) ∙ first depth from (halfway from to)

last : (depth from to : ℕ) → begin_at depth from to (2 ^ depth) ≡ to
last zero from to = refl
last (suc depth) from to =
    let halves = twice depth in
    let rest : 2 ^ suc depth - 2 ^ depth ≡ 2 ^ depth = omega (arith, halves) in
    begin_right depth from to (2 ^ suc depth) (omega (arith, halves))
    ∙ ap (λ (r : ℕ). begin_at depth (halfway from to) to r) rest ∙ last depth (halfway from to) to

within : (depth from to r : ℕ) → from ≤ to → (from ≤ begin_at depth from to r) × (begin_at depth from to r ≤ to)
within zero from to zero order = (omega arith, order)
within zero from to (suc r) order = (order, omega arith)
within (suc depth) from to r order =
    let middle = halfway_within from to order in
    elim (cases_lt r (2 ^ depth)) [
      | inl l ↦
          let h = within depth from (halfway from to) r middle.0 in
          let is = begin_left depth from to r l in
          (omega (arith, h.0, is), omega (arith, h.1, is, middle.1))
      | inr l ↦
          let h = within depth (halfway from to) to (r - 2 ^ depth) middle.1 in
          let is = begin_right depth from to r l in
          (omega (arith, h.0, is, middle.0), omega (arith, h.1, is))
    ]

rise : (depth from to r : ℕ) → from ≤ to → begin_at depth from to r ≤ begin_at depth from to (r + 1)
rise zero from to r order = rw add-one (within zero from to r order).1
rise (suc depth) from to r order =
    let middle = halfway_within from to order in
    elim (cases_lt (r + 1) (2 ^ depth)) [
      | inl l ↦
          omega (
            arith,
            begin_left depth from to r (omega (arith, l)),
            begin_left depth from to (r + 1) l,
            rise depth from (halfway from to) r middle.0,
          )
      | inr far ↦ elim (cases_lt r (2 ^ depth)) [
        | inl l ↦
            omega (
              arith,
              begin_left depth from to r l,
              (within depth from (halfway from to) r middle.0).1,
              begin_right depth from to (r + 1) far,
              (within depth (halfway from to) to (r + 1 - 2 ^ depth) middle.1).0,
            )
        | inr l ↦
            let next : r + 1 - 2 ^ depth ≡ r - 2 ^ depth + 1 = omega (arith, l) in
            let is = begin_right depth from to (r + 1) far
            ∙ ap (λ (k : ℕ). begin_at depth (halfway from to) to k) next in
            omega (
              arith,
              begin_right depth from to r l,
              is,
              rise depth (halfway from to) to (r - 2 ^ depth) middle.1,
            )
      ]
    ]

module _ (count depth : ℕ) where
  -- the first range begins with the first step
  pub begin_first : begin_of count depth 0 ≡ 0
  begin_first = first depth 0 count

  -- the last one ends after the last step
  pub begin_last : begin_of count depth (2 ^ depth) ≡ count
  begin_last = last depth 0 count

  pub begins_rise : (r : ℕ) → begin_of count depth r ≤ begin_of count depth (r + 1)
  begins_rise r = rise depth 0 count r (omega arith)

  pub begin_within : (r : ℕ) → begin_of count depth r ≤ count
  begin_within r = (within depth 0 count r (omega arith)).1
