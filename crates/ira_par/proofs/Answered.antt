-- A call that answers the verdict on a case's candidates answers yes exactly for a sound section, and no exactly for
-- its fault.
use Rattle.std.proofs.Common.{◌≡◌, ◌↔◌, List, inl, inr, Ok, Err, Result, IfOk, refl, sym, subst}
use Rattle.ira_event.specs.Log.{Log}
use Rattle.ira_event.specs.Result.{UnlessErr}
use Rattle.ira_event.specs.declared.out_of_memory.OutOfMemory.{OutOfMemory}
use Rattle.ira_pred.specs.Case.{Conjunct}
use Rattle.ira_cert_text.specs.Certificate.{Section}
use Rattle.ira_cert.specs.declared.verdict.Verdict.{Verdict}
use Rattle.ira_cert.specs.Conjuncts.{HasDifferentPlaces}
use Rattle.ira_cert.specs.Verdict.{IsVerdict}
use Rattle.ira_cert.proofs.Exactly.{exactly}

module _ (asked logs : List Log) (same : asked ≡ logs) (case : List Conjunct) (differ : HasDifferentPlaces case)
    (Are : List Log → List Conjunct → Type 0) (are : Are logs case) (section : Section) where
  pub answered : (result : Result Verdict OutOfMemory)
      → IfOk result (λ verdict. (other : List Conjunct) → HasDifferentPlaces other → Are asked other
      → IsVerdict asked other section verdict) → (b : Verdict)
      → UnlessErr result (record {}) ((result ≡ Ok b) ↔ IsVerdict logs case section b)
  answered (Err e) h b = inl refl
  answered (Ok a) h b =
      let given : Are asked case = subst (λ (ls : List Log). Are ls case) (sym same) are in
      inr (exactly logs case section a b differ
      (subst (λ (ls : List Log). IsVerdict ls case section a) same (h case differ given)))
