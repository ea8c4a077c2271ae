-- Whether findings make a certificate is one thing.
use Rattle.std.proofs.Common.{◌≡◌, ℕ, List, [], Some, arith, length, refl, sym}
use Rattle.std.specs.Prelude.{Contains, slice_get}
use Rattle.std.specs.List.{AllZip}
use Rattle.std.proofs.lemmas.Option.{get_or_from_slice_get, slice_get_read, slice_get_within}
use Rattle.std.proofs.lemmas.Slice.Zip.{AllZip-long}
use Rattle.ira_event.specs.Log.{Log}
use Rattle.ira_pred.specs.Case.{Conjunct}
use Rattle.ira_pred.specs.Question.{IsQuestion, QuestionCases}
use Rattle.ira_elim.specs.Found.{IsFound}
use Rattle.ira_elim.specs.LeastCut.{IsLeastCut}
use Rattle.ira_elim.specs.declared.found.Found.{Found}
use Rattle.ira_elim.specs.declared.found.Found.TheVariants.{Absent, Present}
use Rattle.ira_audit.proofs.NeverMet.{absent_more}
use Rattle.ira_audit.proofs.OnePosed.{one_posed, posed_or_not}
use Rattle.ira_audit.proofs.Places.{different_places}
use Rattle.ira_audit.proofs.Zipped.{partner_at, zipped_at}
use Rattle.ira_audit.specs.Findings.{AreFindings, HasPresent, MakeNoCertificate}
use Rattle.ira_audit.specs.declared.findings.Findings.{Findings}
use Rattle.ira_audit.specs.declared.findings.Findings.TheVariants.{Cases, Refused}
use Rattle.ira_view_election.proofs.Nexts.{one_at}

-- what stands at a place of a list is among it
pub contained : {X : Type 0} (xs : List X) (k : ℕ) (x : X) → slice_get xs k ≡ Some x → Contains xs x
contained xs k x at = (k, slice_get_within xs k x at, get_or_from_slice_get xs k x x at)

module _ {A B : Type 0} (logs : List Log) (asked : QuestionCases) (valid : IsQuestion asked) (found : List (Found A))
    (other : List (Found B)) (are : AllZip (IsFound logs) asked.cases found)
    (also : AllZip (IsFound logs) asked.cases other) where
  -- a case that has a least cut isn't absent
  present_too : (k : ℕ) (case : List Conjunct) (cut : List ℕ) (f : Found B) → slice_get asked.cases k ≡ Some case
      → IsLeastCut logs case cut → slice_get other k ≡ Some f → IsFound logs case f → HasPresent other
  present_too k case cut (Present least) at is stands f_is = (least, contained other k (Present least) stands)
  present_too k case cut (Absent section) at is stands f_is =
      absurd (absent_more logs [] case section (different_places asked valid k case at)
      (λ none c has consistent. absurd (omega (arith, has.1))) f_is case cut (0, omega arith, refl) is.consistent
      is.meets)

  some_present : HasPresent found → HasPresent other
  some_present has =
      let k = has.1.0 in
      let at = slice_get_read found (length found) k (Present has.0) refl has.1.1 (sym has.1.2) in
      let case = one_at asked.cases k (omega (arith, has.1.1, AllZip-long (IsFound logs) asked.cases found are)) in
      let f = partner_at asked.cases other k case.0 (IsFound logs) also case.1 in
      present_too k case.0 has.0 f.0 case.1
      (zipped_at (IsFound logs) asked.cases found k case.0 (Present has.0) are case.1 at) f.1
      (zipped_at (IsFound logs) asked.cases other k case.0 f.0 also case.1 f.1)

pub make_none : {A B : Type 0} (texts : List (List ℕ)) (question : List ℕ) (f : Findings A) (g : Findings B)
    → AreFindings texts question f → AreFindings texts question g → MakeNoCertificate f → MakeNoCertificate g
make_none texts question f (Refused s) h k none = tt
make_none texts question (Refused r) (Cases nodes found) h k none =
    absurd (posed_or_not texts question r k.0 k.1 h k.2)
make_none texts question (Cases n found) (Cases nodes other) h k none =
    let same = one_posed texts question k.0 h.0 k.1 h.1 k.2 h.2 in
    let also = rw (same.0, same.1) at k.4 in
    some_present h.0 h.1 h.2.question_is.valid found.items other.items h.4 also none
