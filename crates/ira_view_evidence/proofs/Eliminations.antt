-- The eliminations that the first steps of a sound section make, put together.
use Rattle.std.proofs.Common.{◌≡◌, ℕ, ◌+◌, ◌<◌, ◌≤◌, inl, inr, List, [], ◌∷◌, ◌++◌, Some, get_or, length, slice_get}
use Rattle.std.proofs.Common.{take, refl, sym, ◌∙◌, ap, subst, arith}
use Rattle.std.proofs.Math.Seq.{take-append_seam}
use Rattle.std.proofs.lemmas.Bool.{cases_eq, cases_lt}
use Rattle.std.proofs.lemmas.List.{length-append, take-append-le, take_more}
use Rattle.std.proofs.lemmas.Option.{same_Some, get_or_from_slice_get, slice_get-get_or, slice_get_within}
use Rattle.ira_event.specs.Log.{Log}
use Rattle.ira_pred.specs.Case.{Conjunct}
use Rattle.ira_order.specs.Before.{Before, own}
use Rattle.ira_order.proofs.Acyclic.{before_earlier}
use Rattle.ira_cert_text.specs.declared.cert_step.CertStep.{CertStep}
use Rattle.ira_cert_text.specs.Certificate.{Section}
use Rattle.ira_cert.specs.Conjuncts.{CandidatesOf, HasDifferentPlaces}
use Rattle.ira_cert.specs.Front.{made}
use Rattle.ira_cert.specs.SoundSection.{AreSoundSteps, IsSoundSection, IsSoundStep}
use Rattle.ira_cert.proofs.Made.{made_own, made_other}
use Rattle.ira_cert.proofs.NoCut.{rising_le}
use Rattle.ira_cert.proofs.OneList.{one_list}
use Rattle.ira_view_evidence.specs.declared.elimination.Elimination.{Elimination}
use Rattle.ira_view_evidence.specs.Absence.{ShowsAbsence}
use Rattle.ira_view_evidence.specs.Elimination.{AreEliminations, AreOfSteps, IsAdded, IsCandidate, IsEliminated, IsElimination}
use Rattle.ira_view_evidence.specs.Elimination.{IsFurther, ending, of_step}
use Rattle.ira_order.proofs.Pushed.{pushed_cases, pushed_last, pushed_old}

-- lists with one more at their ends that are one have one last member, and are one before it
last_pushed : {X : Type 0} → (xs ys : List X) (x y : X) → xs ++ x ∷ [] ≡ ys ++ y ∷ [] → (xs ≡ ys) × (x ≡ y)
last_pushed [] [] x y e = (refl, cc)
last_pushed [] (b ∷ []) x y e = absurd cc
last_pushed [] (b ∷ (c ∷ ys)) x y e = absurd cc
last_pushed (a ∷ []) [] x y e = absurd cc
last_pushed (a ∷ (c ∷ xs)) [] x y e = absurd cc
last_pushed (a ∷ xs) (b ∷ ys) x y e =
    let rest : xs ++ x ∷ [] ≡ ys ++ y ∷ [] = cc in
    let h = last_pushed xs ys x y rest in
    let first : a ≡ b = cc in
    (rw (first, h.0), h.1)

-- a state that is eliminated stays so
eliminated_more : (all : List Elimination) (e : Elimination) (i p : ℕ) → IsEliminated all i p
    → IsEliminated (all ++ e ∷ []) i p
eliminated_more all e i p h = (h.0, h.1, pushed_old all e h.1 h.0 h.2, h.3, h.4, h.5)

-- where each is one after those before it, so is each with one more
each_more : (logs : List Log) (case : List Conjunct) (all : List Elimination) (e : Elimination)
    → AreEliminations logs case all → IsElimination logs case all e → AreEliminations logs case (all ++ e ∷ [])
each_more logs case all e before here h x at = elim (pushed_cases all e x h at) [
  | inl old ↦
      let within : h < length all = slice_get_within all h x old in
      let same : take h (all ++ e ∷ []) ≡ take h all = take-append-le h all (e ∷ []) (omega arith) in
      subst (λ (xs : List Elimination). IsElimination logs case xs x) (sym same) (before h x old)
  | inr new ↦
      let same : take h (all ++ e ∷ []) ≡ all =
      ap (λ (n : ℕ). take n (all ++ e ∷ [])) new.0 ∙ take-append_seam all (e ∷ []) in
      subst (λ (xs : List Elimination). IsElimination logs case xs x) (sym same)
      (subst (λ (y : Elimination). IsElimination logs case all y) new.1 here)
]

-- those before the last one, and that one
before_last : (logs : List Log) (case : List Conjunct) (before : List Elimination) (e : Elimination)
    → AreEliminations logs case (before ++ e ∷ []) → AreEliminations logs case before × IsElimination logs case before e
before_last logs case before e all =
    let seam : take (length before) (before ++ e ∷ []) ≡ before = take-append_seam before (e ∷ []) in (
      (λ h x at.
          let within : h < length before = slice_get_within before h x at in
          let same : take h (before ++ e ∷ []) ≡ take h before = take-append-le h before (e ∷ []) (omega arith) in
          subst (λ (xs : List Elimination). IsElimination logs case xs x) same (all h x (pushed_old before e x h at))),
      subst (λ (xs : List Elimination). IsElimination logs case xs e) seam
          (all (length before) e (pushed_last before e)),
    )

-- of a node this is the last candidate that these steps eliminate, and the run's first one is no later
pub record IsLastMade (logs : List Log) (case : List Conjunct) (steps : List CertStep) (e : Elimination) : Type 0 where
  pub positions : List ℕ
  pub are : CandidatesOf logs case e.node positions
  pub rank : ℕ
  pub last : made steps e.node ≡ rank + 1
  pub at : slice_get positions rank ≡ Some e.last
  pub run : e.first ≤ e.last

-- the eliminations take away the candidates that these steps do
pub record AreSoFar (logs : List Log) (case : List Conjunct) (steps : List CertStep) (all : List Elimination)
    : Type 0 where
  pub each : AreEliminations logs case all
  pub covered :
      (i x p : ℕ) (positions : List ℕ) → CandidatesOf logs case i positions → x < made steps i
      → slice_get positions x ≡ Some p → IsEliminated all i p
  pub last : (before : List Elimination) (e : Elimination) → all ≡ before ++ e ∷ [] → IsLastMade logs case steps e

-- before the first step
pub none_so_far : (logs : List Log) (case : List Conjunct) → AreSoFar logs case [] []
none_so_far logs case = record {
  each = λ h e at. absurd cc;
  covered = λ i x p positions are less at. absurd (omega (arith, less));
  last = λ before e same. absurd (let none : length {A = Elimination} [] ≡ length (before ++ e ∷ []) = ap length same in
      omega (arith, none, length-append before (e ∷ [])));
}

module _ (logs : List Log) (case : List Conjunct) (differ : HasDifferentPlaces case) (steps : List CertStep) (k : ℕ)
    (s : CertStep) (at : slice_get steps k ≡ Some s) (sound : IsSoundStep logs case (take k steps) s)
    (all : List Elimination) (so_far : AreSoFar logs case (take k steps) all) where
  -- a candidate of the other node before its first one left is eliminated
  earlier_gone : (q : ℕ) → IsCandidate logs case s.other q → q < s.other_pos → IsEliminated all s.other q
  earlier_gone q cand l =
      let positions : List ℕ = cand.0 in
      let same : sound.other_front.0 ≡ positions =
      one_list logs case s.other sound.other_front.0 positions differ sound.other_front.1 cand.1 in
      let front : slice_get positions (made (take k steps) s.other) ≡ Some s.other_pos =
      subst (λ (xs : List ℕ). slice_get xs (made (take k steps) s.other)
      ≡ Some s.other_pos) same sound.other_front.2 in
      let here : slice_get positions cand.2.0 ≡ Some q =
      slice_get-get_or positions cand.2.0 q cand.2.1 ∙ ap Some cand.2.2 in
      elim (cases_lt cand.2.0 (made (take k steps) s.other)) [
        | inl sooner ↦ so_far.covered s.other cand.2.0 q positions cand.1 sooner here
        | inr later ↦ absurd (let no = rising_le positions (made (take k steps) s.other) cand.2.0 s.other_pos q
            cand.1.candidates_are.rising front here later in omega arith)
      ]

  -- how many states of its node are eliminated before it
  abbrev m : ℕ
  m = made (take k steps) s.node

  more : made (take (k + 1) steps) s.node ≡ m + 1
  more = made_own steps k s at

  asked_other : IsCandidate logs case s.other s.other_pos
  asked_other =
      let n : ℕ = made (take k steps) s.other in
      let front = sound.other_front in (
        front.0,
        front.1,
        (
          n,
          slice_get_within front.0 n s.other_pos front.2,
          get_or_from_slice_get front.0 n s.other_pos s.other_pos front.2,
        ),
      )

  asked_own : IsCandidate logs case s.node s.pos
  asked_own =
      let front = sound.front in (
        front.0,
        front.1,
        (m, slice_get_within front.0 m s.pos front.2, get_or_from_slice_get front.0 m s.pos s.pos front.2),
      )

  -- the step makes an elimination of its own
  own_elimination : IsElimination logs case all (of_step s)
  own_elimination = record {
    differ = sound.differ;
    first = asked_own;
    last = asked_own;
    run = omega arith;
    over = sound.happened_before;
    each = λ p cand first last.
        let same : s.pos ≡ p = omega arith in
        subst (λ (q : ℕ). Before logs s.node (q + 1) s.other s.other_pos) same sound.happened_before;
    asked = asked_other;
    earlier = earlier_gone;
  }

  -- a candidate that the steps before and this one eliminate
  made_cases : (new : List Elimination) → ((i p : ℕ) → IsEliminated all i p → IsEliminated new i p)
      → IsEliminated new s.node s.pos → (i x p : ℕ) (positions : List ℕ) → CandidatesOf logs case i positions
      → x < made (take (k + 1) steps) i → slice_get positions x ≡ Some p → IsEliminated new i p
  made_cases new kept here i x p positions are l at_x = elim (cases_eq s.node i) [
    | inl same ↦
        let are_own : CandidatesOf logs case s.node positions =
        subst (λ (j : ℕ). CandidatesOf logs case j positions) (sym same) are in
        let below : x < m + 1 = (let e : made (take (k + 1) steps) i
        ≡ made (take (k + 1) steps) s.node = ap (λ (j : ℕ). made (take (k + 1) steps) j) (sym same) in
        omega (arith, more, e)) in
        elim (cases_lt x m) [
          | inl sooner ↦ (let e : made (take k steps) i ≡ m = ap (λ (j : ℕ). made (take k steps) j) (sym same) in
              kept i p (so_far.covered i x p positions are (omega (arith, e)) at_x))
          | inr later ↦
              let last : x ≡ m = omega arith in
              let one : sound.front.0 ≡ positions =
              one_list logs case s.node sound.front.0 positions differ sound.front.1 are_own in
              let front : slice_get positions m ≡ Some s.pos =
              subst (λ (xs : List ℕ). slice_get xs m ≡ Some s.pos) one sound.front.2 in
              let is : s.pos ≡ p = same_Some s.pos p (sym front ∙ ap (λ (n : ℕ). slice_get positions n) (sym last)
              ∙ at_x) in
              subst (λ (j : ℕ). IsEliminated new j p) same (subst (λ (q : ℕ). IsEliminated new s.node q) is here)
        ]
    | inr other ↦ (let e = made_other steps k s i at other in
        kept i p (so_far.covered i x p positions are (omega (arith, e)) at_x))
  ]

  -- as one of its own
  next_own : AreSoFar logs case (take (k + 1) steps) (all ++ of_step s ∷ [])
  next_own = record {
    each = each_more logs case all (of_step s) so_far.each own_elimination;
    covered = made_cases (all ++ of_step s ∷ []) (λ i p h. eliminated_more all (of_step s) i p h)
        (length all, of_step s, pushed_last all (of_step s), refl, omega arith, omega arith);
    last = λ before e same.
        let is : of_step s ≡ e = (last_pushed all before (of_step s) e same).1 in
        subst (λ (x : Elimination). IsLastMade logs case (take (k + 1) steps) x) is
        (record {
          positions = sound.front.0;
          are = sound.front.1;
          rank = m;
          last = more;
          at = sound.front.2;
          run = omega arith;
        });
  }

  module _ (new : List Elimination) (further : IsFurther all s new) where
    abbrev before : List Elimination
    before = further.before

    abbrev e : Elimination
    e = further.last

    abbrev e' : Elimination
    e' = ending e s.pos

    was : IsLastMade logs case (take k steps) e
    was = so_far.last before e further.old_is

    parts : AreEliminations logs case before × IsElimination logs case before e
    parts = before_last logs case before e
        (subst (λ (xs : List Elimination). AreEliminations logs case xs) further.old_is so_far.each)

    -- the run ends later than before
    later : e.last ≤ s.pos
    later =
        let node : e.node ≡ s.node = further.goes_on.0 in
        let are : CandidatesOf logs case s.node was.positions =
        subst (λ (j : ℕ). CandidatesOf logs case j was.positions) node was.are in
        let one : sound.front.0 ≡ was.positions =
        one_list logs case s.node sound.front.0 was.positions differ sound.front.1 are in
        let front : slice_get was.positions m ≡ Some s.pos =
        subst (λ (xs : List ℕ). slice_get xs m ≡ Some s.pos) one sound.front.2 in
        let rank : m ≡ was.rank + 1 = ap (λ (j : ℕ). made (take k steps) j) (sym node) ∙ was.last in
        rising_le was.positions was.rank m e.last s.pos was.are.candidates_are.rising was.at front (omega (arith, rank))

    over : Before logs e.node (s.pos + 1) e.other e.other_pos
    over =
        subst (λ (j : ℕ). Before logs j (s.pos + 1) e.other e.other_pos) (sym further.goes_on.0)
        (subst (λ (j : ℕ). Before logs s.node (s.pos + 1) j e.other_pos) (sym further.goes_on.1)
        (subst (λ (q : ℕ). Before logs s.node (s.pos + 1) s.other q) (sym further.goes_on.2) sound.happened_before))

    longer : IsElimination logs case before e'
    longer = record {
      differ = parts.1.differ;
      first = parts.1.first;
      last = subst (λ (i : ℕ). IsCandidate logs case i s.pos) (sym further.goes_on.0) asked_own;
      run = omega (arith, parts.1.run, later);
      over = over;
      each = λ p cand first last.
          before_earlier logs e.node (p + 1) (s.pos + 1) e.other e.other_pos (omega arith) (omega arith) over;
      asked = parts.1.asked;
      earlier = parts.1.earlier;
    }

    kept : (i p : ℕ) → IsEliminated all i p → IsEliminated (before ++ e' ∷ []) i p
    kept i p h = elim (pushed_cases before e h.1 h.0
        (sym (ap (λ (xs : List Elimination). slice_get xs h.0) further.old_is) ∙ h.2)) [
          | inl old ↦ (h.0, h.1, pushed_old before e' h.1 h.0 old, h.3, h.4, h.5)
          | inr last ↦
              let node : e.node ≡ i = ap (λ (x : Elimination). x.node) last.1 ∙ h.3 in
              let first : e.first ≡ h.1.first = ap (λ (x : Elimination). x.first) last.1 in
              let end : e.last ≡ h.1.last = ap (λ (x : Elimination). x.last) last.1 in (
                length before,
                e',
                pushed_last before e',
                node,
                omega (arith, first, h.4),
                omega (arith, end, later, h.5),
              )
        ]

    here : IsEliminated (before ++ e' ∷ []) s.node s.pos
    here = (length before, e', pushed_last before e', further.goes_on.0, omega (arith, was.run, later), omega arith)

    longer_run : AreSoFar logs case (take (k + 1) steps) (before ++ e' ∷ [])
    longer_run = record {
      each = each_more logs case before e' parts.0 longer;
      covered = made_cases (before ++ e' ∷ []) kept here;
      last = λ sooner x same.
          let is : e' ≡ x = (last_pushed before sooner e' x same).1 in
          let node : s.node ≡ e.node = sym further.goes_on.0 in
          subst (λ (y : Elimination). IsLastMade logs case (take (k + 1) steps) y) is
          (record {
            positions = sound.front.0;
            are = subst (λ (j : ℕ). CandidatesOf logs case j sound.front.0) node sound.front.1;
            rank = m;
            last = ap (λ (j : ℕ). made (take (k + 1) steps) j) (sym node) ∙ more;
            at = sound.front.2;
            run = omega (arith, was.run, later);
          });
    }

    next_further : AreSoFar logs case (take (k + 1) steps) new
    next_further = subst (λ (xs : List Elimination). AreSoFar logs case (take (k + 1) steps) xs) (sym further.new_is)
        longer_run

  -- with the step added
  pub next_so_far : (new : List Elimination) → IsAdded all s new → AreSoFar logs case (take (k + 1) steps) new
  next_so_far new added = elim added [
    | inl one ↦ subst (λ (xs : List Elimination). AreSoFar logs case (take (k + 1) steps) xs) (sym one.0) next_own
    | inr further ↦ next_further new further
  ]

-- after all steps of a sound section they are an absence
pub all_absent : (logs : List Log) (case : List Conjunct) (section : Section) (all : List Elimination)
    → HasDifferentPlaces case → IsSoundSection logs case section → AreSoFar logs case section.steps all
    → ShowsAbsence logs case all section.spent
all_absent logs case section all differ sound so_far =
    let gone = sound.spent in
    record {
      eliminations = so_far.each;
      asked = (gone.1.formula, gone.1.asked);
      spent = λ p cand.
          let one : gone.0 ≡ cand.0 = one_list logs case section.spent gone.0 cand.0 differ gone.1 cand.1 in
          let here : slice_get cand.0 cand.2.0 ≡ Some p =
          slice_get-get_or cand.0 cand.2.0 p cand.2.1 ∙ ap Some cand.2.2 in
          let number : made section.steps section.spent ≡ length cand.0 = gone.2 ∙ ap length one in
          so_far.covered section.spent cand.2.0 p cand.0 cand.1 (omega (arith, number, cand.2.1)) here;
    }

-- the same where the step is read from a list that is these steps
pub next_read : (logs : List Log) (case : List Conjunct) (differ : HasDifferentPlaces case) (steps read : List CertStep)
    (same : read ≡ steps) (k : ℕ) (d : CertStep) (within : k
    < length read) (sound : AreSoundSteps logs case steps) (all new : List Elimination)
    → AreSoFar logs case (take k steps) all → IsAdded all (get_or read k d) new
    → AreSoFar logs case (take (k + 1) steps) new
next_read logs case differ steps read same k d within sound all new so_far added =
    let s : CertStep = get_or read k d in
    let at : slice_get steps k ≡ Some s =
    sym (ap (λ (xs : List CertStep). slice_get xs k) same) ∙ slice_get-get_or read k d within in
    next_so_far logs case differ steps k s at (sound k s at) all so_far new added

-- of the steps that are read too
pub steps_read : (steps read : List CertStep) (same : read ≡ steps) (k : ℕ) (d : CertStep) (within : k < length read)
    (all new : List Elimination) → AreOfSteps (take k steps) all → IsAdded all (get_or read k d) new
    → AreOfSteps (take (k + 1) steps) new
steps_read steps read same k d within all new so_far added =
    let whole : take (k + 1) read ≡ take k read ++ get_or read k d ∷ [] = take_more read k d within in
    subst (λ (xs : List CertStep). AreOfSteps (take (k + 1) xs) new) same
    (rw whole (AreOfSteps.added (take k read) (get_or read k d) all new
    (subst (λ (xs : List CertStep). AreOfSteps (take k xs) all) (sym same) so_far) added))
