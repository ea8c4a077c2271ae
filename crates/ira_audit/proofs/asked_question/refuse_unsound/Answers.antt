use Rattle.std.proofs.Common.{◌≡◌, ◌<◌, ℕ, zero, suc, List, [], ◌∷◌, Option, Some, length, slice_get, take}
use Rattle.std.proofs.Common.{inr, refl, subst, arith}
use Rattle.std.specs.List.{AllZip}
use Rattle.std.proofs.lemmas.List.{take_all}
use Rattle.ira_event.specs.Log.{Log}
use Rattle.ira_pred.specs.Case.{Conjunct}
use Rattle.ira_cert_text.specs.Certificate.{Section}
use Rattle.ira_cert.specs.SoundSection.{IsSoundSection}
use Rattle.ira_par.specs.declared.unsound_section.UnsoundSection.{UnsoundSection}
use Rattle.ira_par.specs.Sections.{AreSoundBefore, IsFirstUnsoundSection, IsFound}
use Rattle.ira_audit.specs.CheckAnswer.{AreSound}
use Rattle.ira_audit.proofs.asked_question.refuse_unsound.Goals as goal

-- what ties the first n members of two lists, by their numbers
zipped_before : {X Y : Type 0} (R : X → Y → Type 0) (n : ℕ) (xs : List X) (ys : List Y) → length ys ≡ length xs
    → ((k : ℕ) (x : X) (y : Y) → k < n → slice_get xs k ≡ Some x → slice_get ys k ≡ Some y → R x y)
    → AllZip R (take n xs) (take n ys)
zipped_before R zero xs ys e each = tt
zipped_before R (suc n) [] [] e each = tt
zipped_before R (suc n) [] (y ∷ ys) e each = absurd (omega (arith, e))
zipped_before R (suc n) (x ∷ xs) [] e each = absurd (omega (arith, e))
zipped_before R (suc n) (x ∷ xs) (y ∷ ys) e each = (
  each 0 x y (omega arith) refl refl,
  zipped_before R n xs ys (omega (arith, e)) (λ k a b l. each (suc k) a b (omega (arith, l))),
)

sound_before : (n : ℕ) (logs : List Log) (cases : List (List Conjunct)) (sections : List Section)
    → length sections ≡ length cases → AreSoundBefore n logs cases sections
    → AreSound logs (take n cases) (take n sections)
sound_before n logs cases sections number before = zipped_before (IsSoundSection logs) n cases sections number before

all_sound : (logs : List Log) (cases : List (List Conjunct)) (sections : List Section) → length sections ≡ length cases
    → AreSoundBefore (length sections) logs cases sections → AreSound logs cases sections
all_sound logs cases sections number before =
    let h = sound_before (length sections) logs cases sections number before in
    subst (λ (cs : List (List Conjunct)). AreSound logs cs sections)
    (take_all (length sections) cases (omega (arith, number)))
    (subst (λ (ss : List Section). AreSound logs (take (length sections) cases) ss)
    (take_all (length sections) sections (omega arith)) h)

pub returns-in-None : goal.returns-in-None
returns-in-None c = λ logs cases sections number found.
    all_sound logs cases sections number
    (subst (λ (f : Option UnsoundSection). IsFound logs cases sections f) c.in-None.is found)

pub returns-in-Some : goal.returns-in-Some
returns-in-Some c = λ logs cases sections number found.
    let unsound = c.in-Some.unsound in
    let first : IsFirstUnsoundSection logs cases sections unsound.section unsound.fault =
    subst (λ (f : Option UnsoundSection). IsFound logs cases sections f) c.in-Some.is found in
    inr (
      number,
      unsound.section,
      unsound.fault,
      refl,
      record {
        before = sound_before unsound.section logs cases sections number first.before;
        case = first.case;
        case_at = first.case_at;
        section = first.section;
        section_at = first.section_at;
        fault = first.is_fault;
      },
    )
