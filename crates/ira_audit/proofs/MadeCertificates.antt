-- Certificates of what was found: there is one where each case is absent, and it is accepted.
use Rattle.std.proofs.Common.{◌≡◌, ◌↔◌, ℕ, zero, suc, Bool, true, false, List, [], ◌∷◌, ◌++◌, Option, Some, Result, Ok}
use Rattle.std.proofs.Common.{Err, IfErr, map, length, refl, sym, subst, ap, ◌∙◌}
use Rattle.std.specs.List.{AllZip, list_any}
use Rattle.std.specs.Prelude.{Contains, IsFalse, not, slice_get}
use Rattle.std.proofs.lemmas.List.Elements.{Contains-append_right, Contains-append_left, Contains-push}
use Rattle.std.proofs.lemmas.List.Folds.{list_any_at}
use Rattle.std.proofs.lemmas.Option.{slice_get_read}
use Rattle.ira_event.specs.declared.out_of_memory.OutOfMemory.{OutOfMemory}
use Rattle.ira_event.specs.Log.{Log}
use Rattle.ira_pred.specs.Case.{Conjunct}
use Rattle.ira_cert_text.specs.Certificate.{Section, Certificate}
use Rattle.ira_cert_text.specs.CertText.{IsCertText}
use Rattle.ira_cert.specs.SoundSection.{IsSoundSection}
use Rattle.ira_elim.specs.declared.found.Found.{Found}
use Rattle.ira_elim.specs.declared.found.Found.TheVariants.{Absent, Present}
use Rattle.ira_elim.specs.Found.{IsFound}
use Rattle.ira_audit.specs.declared.answer.Answer.TheVariants.{Yes}
use Rattle.ira_audit.specs.declared.findings.Findings.{Findings}
use Rattle.ira_audit.specs.declared.findings.Findings.TheVariants.{Refused, Cases}
use Rattle.ira_audit.specs.CheckAnswer.{AreSound, IsCheckAnswer, yes}
use Rattle.ira_audit.specs.Findings.{AreFindings, HasPresent, IsCertificateOf, MakeNoCertificate, is_present}

-- what was found of cases that are all absent are sound sections
all_sound : {A : Type 0} (logs : List Log) (cases : List (List Conjunct)) (found : List (Found A))
    (sections : List Section) → found ≡ map Absent sections
    → AllZip (IsFound logs) cases found → AreSound logs cases sections
all_sound logs [] [] [] is h = tt
all_sound logs [] [] (s ∷ sections) is h = absurd cc
all_sound logs [] (f ∷ found) sections is h = absurd h
all_sound logs (c ∷ cases) [] sections is h = absurd h
all_sound logs (c ∷ cases) (f ∷ found) [] is h = absurd cc
all_sound logs (c ∷ cases) (Absent t ∷ found) (s ∷ sections) is h =
    let same : t ≡ s = cc in
    let after : found ≡ map Absent sections = cc in
    (subst (IsSoundSection logs c) same h.0.sound, all_sound logs cases found sections after h.1)
all_sound logs (c ∷ cases) (Present cut ∷ found) (s ∷ sections) is h = absurd cc

-- the certificate of findings is accepted where it has a text
pub accepted : {A : Type 0} (texts : List (List ℕ)) (question text : List ℕ) (findings : Findings A) (c : Certificate)
    → AreFindings texts question findings → IsCertificateOf findings c → IsCertText text c
    → IsCheckAnswer texts question text Yes
accepted texts question text (Refused r) c h of is = absurd of
accepted texts question text (Cases nodes found) c h of is =
    yes h.0 h.1 c h.2 is (of.0 ∙ h.3) (all_sound h.0 h.1.cases found.items c.sections of.1 h.4) refl

-- where each case is absent, none is present
absent_or_present : {A : Type 0} (found : List (Found A)) (sections : List Section) (cut : List ℕ)
    → found ≡ map Absent sections → Contains found (Present cut) → ⊥
absent_or_present found sections cut is has =
    none_at found sections has.0 cut is (slice_get_read found (length found) has.0 (Present cut) refl has.1 (sym has.2))
  where
    none_at : {A : Type 0} (found : List (Found A)) (sections : List Section) (i : ℕ) (cut : List ℕ)
        → found ≡ map Absent sections → slice_get found i ≡ Some (Present cut) → ⊥
    none_at [] sections i cut is at = absurd cc
    none_at (f ∷ found) [] i cut is at = absurd cc
    none_at (f ∷ found) (s ∷ sections) zero cut is at = absurd cc
    none_at (f ∷ found) (s ∷ sections) (suc i) cut is at = none_at found sections i cut (cc) at

-- the sections are one list
one_sections : {A : Type 0} (xs ys : List Section) → ◌≡◌ {A = List (Found A)} (map Absent xs) (map Absent ys) → xs ≡ ys
one_sections [] [] e = refl
one_sections [] (y ∷ ys) e = absurd cc
one_sections (x ∷ xs) [] e = absurd cc
one_sections {A} (x ∷ xs) (y ∷ ys) e =
    let here : x ≡ y = cc in
    let after : ◌≡◌ {A = List (Found A)} (map Absent xs) (map Absent ys) = cc in
    let rest = one_sections {A = A} xs ys after in
    cc

some_certificate : (c d : Certificate) → ◌≡◌ {A = Result (Option Certificate) OutOfMemory} (Ok (Some c)) (Ok (Some d))
    → c ≡ d
some_certificate c d e = cc

-- the certificate is the one of the findings
pub made_exactly : {A : Type 0} (findings : Findings A) (made : Certificate) → IsCertificateOf findings made
    → (c : Certificate)
    → ◌≡◌ {A = Result (Option Certificate) OutOfMemory} (Ok (Some made)) (Ok (Some c)) ↔ IsCertificateOf findings c
made_exactly (Refused r) made is c = absurd is
made_exactly {A} (Cases nodes found) made is c = (
  λ e. subst (IsCertificateOf (Cases nodes found)) (some_certificate made c e) is,
  λ h. (
      let size : made.nodes ≡ c.nodes = is.0 ∙ sym h.0 in
      let sections : made.sections ≡ c.sections = one_sections {A = A} made.sections c.sections (sym is.1 ∙ h.1) in
      ap {B = Result (Option Certificate) OutOfMemory} (λ n.
      Ok (Some (record { nodes = n; sections = made.sections }))) size
      ∙ ap {B = Result (Option Certificate) OutOfMemory} (λ s.
      Ok (Some (record { nodes = c.nodes; sections = s }))) sections
      ),
)

-- where there is one, the findings don't make none
pub made_or_none : {A : Type 0} (findings : Findings A) (made : Certificate) → IsCertificateOf findings made
    → MakeNoCertificate findings → ⊥
made_or_none (Refused r) made is none = is
made_or_none (Cases nodes found) made is none = absent_or_present found.items made.sections none.0 is.1 none.1

-- a case that is looked for among the findings is found
pub present_among : {A : Type 0} (found : List (Found A)) → list_any is_present found ≡ true → HasPresent found
present_among [] e = absurd cc
present_among (Absent s ∷ found) e =
    let after = present_among found e in
    (after.0, Contains-append_right (Absent s ∷ []) found _ after.1)
present_among (Present cut ∷ found) e =
    (cut, Contains-append_left (Present cut ∷ []) found _ (Contains-push [] (Present cut)))

-- where none is found, none is present
pub none_among : {A : Type 0} (found : List (Found A)) → list_any is_present found ≡ false → HasPresent found → ⊥
none_among found e has =
    let met : list_any is_present found ≡ true =
    list_any_at is_present found has.1.0 (Present has.0) has.1.1 (ap is_present has.1.2) in
    cc

-- a case that is present at some place is among the findings
pub present_at : {A : Type 0} (found before after : List (Found A)) (f : Found A) (cut : List ℕ)
    → found ≡ before ++ (f ∷ after) → f ≡ Present cut → HasPresent found
present_at found before after f cut is present =
    let here : Contains (before ++ (f ∷ after)) f =
    Contains-append_right before (f ∷ after) f (Contains-append_left (f ∷ []) after f (Contains-push [] f)) in
    (cut, subst (Contains found) present (subst (λ xs. Contains xs f) (sym is) here))

-- what holds anyway holds where it is refused
pub refused_anyway : {T E P : Type 0} (r : Result T E) → P → IfErr r (λ _. P)
refused_anyway (Ok x) holds = tt
refused_anyway (Err e) holds = holds

-- not each case is absent exactly where one is present
pub absent_exactly : {A : Type 0} (found : List (Found A)) (some : Bool) → some ≡ list_any is_present found
    → IsFalse (not some) ↔ HasPresent found
absent_exactly found true is = (λ _. present_among found (sym is), λ _. refl)
absent_exactly found false is = (λ all. absurd cc, λ has. absurd (none_among found (sym is) has))
