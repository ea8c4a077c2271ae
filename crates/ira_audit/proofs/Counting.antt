-- What is kept of cases while they are decided, with their steps counted.
use Rattle.std.proofs.Common.{◌≡◌, ◌<◌, ℕ, ◌+◌, ◌^◌, Vec, Bool, true, false, List, [], ◌∷◌, ◌++◌, Option, Some}
use Rattle.std.proofs.Common.{None, MatchOption, length, map, refl, sym, ap, ◌∙◌, subst, inl, inr, arith}
use denote.RawPtr.{null_ptr}
use Rattle.std.specs.List.{enumerate_from, flat_map}
use Rattle.std.specs.Prelude.{IsFalse, IsTrue}
use Rattle.std.proofs.lemmas.List.{map-append}
use Rattle.std.proofs.lemmas.List.Elements.{Contains-append_left, Contains-push, Contains-push_cases}
use Rattle.ira_event.specs.Log.{Log}
use Rattle.ira_pred.specs.Case.{Conjunct}
use Rattle.ira_cert_text.specs.Certificate.{Section, Certificate}
use Rattle.ira_cert_text.specs.CertDraft.{IsDraft}
use Rattle.ira_cert_text.specs.CertText.{IsCertText, cert_text}
use Rattle.ira_cert_text.specs.declared.cert_draft.CertDraft.{CertDraft}
use Rattle.ira_elim.specs.Decided.{IsDecided}
use Rattle.ira_elim.specs.Found.{IsAbsence}
use Rattle.ira_elim.specs.LeastCut.{IsLeastCut}
use Rattle.ira_elim.specs.declared.decided.Decided.{Decided}
use Rattle.ira_elim.specs.declared.decided.Decided.TheVariants as decided
use Rattle.ira_elim.specs.declared.found.Found.{Found}
use Rattle.ira_elim.specs.declared.found.Found.TheVariants.{Absent, Present}
use Rattle.ira_audit.specs.Findings.{HasPresent}
use Rattle.ira_audit.specs.DecidedCases.{AreCounted, AreDecided, AreDrafted, AreOfCases, IsAdded, IsCertifying, counted}
use Rattle.ira_audit.specs.FindingsText.{case_line, decided_line, findings_text}
use Rattle.ira_audit.specs.declared.findings.Findings.{Findings}
use Rattle.ira_audit.specs.declared.findings.Findings.TheVariants.{Refused, Cases}
use Rattle.ira_audit.specs.declared.cases_draft.CasesDraft.{CasesDraft}
use Rattle.ira_audit.specs.declared.decided_cases.DecidedCases.{DecidedCases}

-- ---- what is kept of each case

-- one case more
pub cases_more : {A : Type 0} (found : List (Found A)) (next : Found A) (old new : List (Decided ℕ A)) (d : Decided ℕ A)
    → old ≡ map counted found → d ≡ counted next → new ≡ old ++ d ∷ [] → new ≡ map counted (found ++ next ∷ [])
cases_more found next old new d so_far is e =
    e ∙ ap (λ (ds : List (Decided ℕ _)). ds ++ d ∷ []) so_far
    ∙ ap (λ (x : Decided ℕ _). map counted found ++ x ∷ []) is ∙ sym (map-append counted found (next ∷ []))

-- the lines of cases with their steps counted are those of the cases
lines_from : {A : Type 0} (k : ℕ) (found : List (Found A))
    → flat_map decided_line (enumerate_from k (map counted found)) ≡ flat_map case_line (enumerate_from k found)
lines_from k [] = refl
lines_from k (f ∷ found) = ap (λ (t : List ℕ). case_line (k, f) ++ t) (lines_from (k + 1) found)

pub lines_are : {A : Type 0} (findings : Findings A) (nodes : ℕ) (cases : List (Decided ℕ A))
    → AreCounted findings nodes cases → flat_map decided_line (enumerate_from 0 cases) ≡ findings_text findings
lines_are (Refused r) nodes cases are = absurd are
lines_are (Cases n found) nodes cases are =
    ap (λ (ds : List (Decided ℕ _)). flat_map decided_line (enumerate_from 0 ds)) are.1 ∙ lines_from 0 found.items

-- ---- a certificate that is put together

absent_after : {A : Type 0} (found : List (Found A)) (s : Section) → HasPresent (found ++ Absent s ∷ [])
    → HasPresent found
absent_after found s has = elim (Contains-push_cases found (Absent s) (Present has.0) has.1) [
  | inl there ↦ (has.0, there)
  | inr here ↦ absurd (let never : Absent s ≡ Present has.0 = here in cc)
]

map_push : {A : Type 0} (sections : List Section) (s : Section)
    → ◌≡◌ {A = List (Found A)} (map Absent sections ++ Absent s ∷ []) (map Absent (sections ++ s ∷ []))
map_push [] s = refl
map_push {A} (x ∷ xs) s = ap (λ (fs : List (Found A)). Absent x ∷ fs) (map_push xs s)

module _ {A Z : Type 0} (nodes : ℕ) (certify : Bool) where
  pub none_yet : (certificate : Option (CertDraft Z))
      → (IsTrue certify → (draft : CertDraft Z) × (certificate ≡ Some draft) × IsDraft nodes draft [])
      → IsCertifying {A = A} nodes certify [] true certificate
  none_yet certificate begins = record {
    absent = (λ never. absurd cc, λ has. absurd (let l = has.1.1 in omega (arith, l)));
    sections_are = λ yes all. (let d = begins yes in (d.0, [], d.1, d.2, refl));
  }

  module _ (found : List (Found A)) (are_absent : Bool) (certificate : Option (CertDraft Z))
      (so_far : IsCertifying nodes certify found are_absent certificate) where
    -- a case that is absent
    pub absent_more : (s : Section) (new : Option (CertDraft Z))
        → ((draft : CertDraft Z) (sections : List Section) → certificate ≡ Some draft → IsDraft nodes draft sections
        → (more : CertDraft Z) × (new ≡ Some more) × IsDraft nodes more (sections ++ s ∷ []))
        → IsCertifying nodes certify (found ++ Absent s ∷ []) are_absent new
    absent_more s new goes_on = record {
      absent = (
        λ some. (let has = so_far.absent.0 some in
            (has.0, Contains-append_left found (Absent s ∷ []) (Present has.0) has.1)),
        λ has. so_far.absent.1 (absent_after found s has),
      );
      sections_are = λ yes all.
          let old = so_far.sections_are yes all in
          let more = goes_on old.0 old.1 old.2 old.3 in (
            more.0,
            old.1 ++ s ∷ [],
            more.1,
            more.2,
            ap (λ (fs : List (Found A)). fs ++ Absent s ∷ []) old.4 ∙ map_push old.1 s,
          );
    }

    -- a case that is present
    pub present_more : (cut : List ℕ) (new : Option (CertDraft Z))
        → IsCertifying nodes certify (found ++ Present cut ∷ []) false new
    present_more cut new = record {
      absent = (λ _. (cut, Contains-push found (Present cut)), λ _. refl);
      sections_are = λ yes all. absurd (let never : false ≡ true = all in cc);
    }

-- ---- a case that was decided

module _ {A Z : Type 0} (logs : List Log) (case : List Conjunct) (nodes : ℕ) (certify : Bool) (found : List (Found A))
    (are_absent : Bool) (old : Option (CertDraft Z))
    (so_far : IsCertifying nodes certify found are_absent old) where
  -- absent, and there is no certificate
  pub added_uncertified : (new : Option (CertDraft Z)) (steps spent : ℕ) → old ≡ None
      → IsDecided {A = A} (λ n taken. n ≡ length taken) logs case (decided.Absent steps spent)
      → IsAdded logs case nodes certify found (decided.Absent steps spent) are_absent new
  added_uncertified new steps spent none is =
      let section : Section = record { steps = is.0; spent = spent } in (
        Absent section,
        is.2,
        ap (λ (n : ℕ). decided.Absent n spent) is.1,
        absent_more nodes certify found are_absent old so_far section new (λ draft sections there drafted.
            absurd (let never : None ≡ Some draft = sym none ∙ there in cc)),
      )

  -- absent, and its section goes into the certificate
  pub added_certified : (new : Option (CertDraft Z)) (before draft : CertDraft Z) (steps : Section) (count : ℕ)
      → old ≡ Some before → new ≡ Some draft → IsAbsence logs case steps → count ≡ length steps.steps
      → ((n : ℕ) (sections : List Section) → IsDraft n before sections → IsDraft n draft (sections ++ steps ∷ []))
      → IsAdded logs case nodes certify found (decided.Absent count steps.spent) are_absent new
  added_certified new before draft section count there now absence is_count adds = (
    Absent section,
    absence,
    ap (λ (n : ℕ). decided.Absent n section.spent) is_count,
    absent_more nodes certify found are_absent old so_far section new (λ d sections is drafted.
        (let same : before ≡ d = (let e : Some before ≡ Some d = sym there ∙ is in cc) in
        (draft, now, adds nodes sections (subst (λ (x : CertDraft Z). IsDraft nodes x sections) (sym same) drafted)))),
  )

  pub added_present : (new : Option (CertDraft Z)) (cut : List ℕ) → IsLeastCut logs case cut
      → IsAdded logs case nodes certify found (decided.Present cut) false new
  added_present new cut least =
      (Present cut, least, refl, present_more nodes certify found are_absent old so_far cut new)

-- ---- what is kept at the end

pub decided_of : {A : Type 0} (certify : Bool) (nodes : ℕ) (found : List (Found A)) (findings : Findings A)
    (draft : CasesDraft A) (d : DecidedCases A) → AreDrafted nodes certify found draft → AreOfCases nodes found findings
    → d.nodes ≡ draft.nodes → d.cases.items ≡ draft.cases.items → d.are_absent ≡ draft.are_absent
    → ((x : CertDraft A) (c : Certificate) → draft.certificate ≡ Some x → IsDraft c.nodes x c.sections
    → MatchOption d.certificate (¬ (IsCertText (cert_text c) c)) (λ t. (t.bytes ≡ cert_text c)
    × IsCertText (cert_text c) c))
    → AreDecided certify findings d
decided_of certify nodes found (Refused r) draft d h of nodes_are cases_are absent_is whole = absurd of
decided_of {A} certify nodes found (Cases n list) draft d h of nodes_are cases_are absent_is whole = record {
  cases = (
    nodes_are ∙ h.nodes_are ∙ sym of.0,
    cases_are ∙ h.cases_are ∙ ap (λ (fs : List (Found A)). map counted fs) (sym of.1),
  );
  absent = (
    λ some. subst HasPresent (sym of.1) (h.certifying.absent.0 (subst IsFalse absent_is some)),
    λ has. subst IsFalse (sym absent_is) (h.certifying.absent.1 (subst HasPresent of.1 has)),
  );
  certificate = λ yes all.
      let made = h.certifying.sections_are yes (subst IsTrue absent_is all) in
      let c : Certificate = record { nodes = nodes; sections = made.1 } in
      (c, (sym of.0, of.1 ∙ made.4), whole made.0 c made.2 made.3);
}

-- a list of what is found, in memory
pub list_of : {X Z : Type 0} → Z → (xs : List X) → length xs < 2 ^ 63 → (list : Vec X Z) × (list.items ≡ xs)
list_of alloc xs few = (
  record {
    ptr = null_ptr;
    len = length xs;
    cap = length xs;
    alloc = alloc;
    items = xs;
    ok = (refl, omega arith);
    small = few;
  },
  refl,
)
