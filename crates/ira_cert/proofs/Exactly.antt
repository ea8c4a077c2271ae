-- A call that answers a section's verdict answers yes exactly for a sound section, and no exactly for its fault.
use Rattle.std.proofs.Common.{◌≡◌, ◌↔◌, ◌<◌, List, Ok, Result, ap, subst, AllPairs, arith}
use Rattle.ira_event.specs.declared.out_of_memory.OutOfMemory.{OutOfMemory}
use Rattle.ira_event.specs.Log.{Log}
use Rattle.ira_pred.specs.Case.{Conjunct}
use Rattle.ira_cert_text.specs.Certificate.{Section}
use Rattle.ira_cert.specs.declared.verdict.Verdict.{Verdict}
use Rattle.ira_cert.specs.Conjuncts.{HasDifferentPlaces}
use Rattle.ira_cert.specs.Verdict.{IsVerdict}
use Rattle.ira_cert.proofs.OneVerdict.{one_verdict}

-- rising places differ
pub rising_differ : (case : List Conjunct) → AllPairs (λ c d. c.place < d.place) case → HasDifferentPlaces case
rising_differ case rising i j d l within same = let h = rising i j d l within in omega (arith, h, same)

same_answer : (a b : Verdict) → ◌≡◌ {A = Result Verdict OutOfMemory} (Ok a) (Ok b) → a ≡ b
same_answer a b e = cc

pub exactly : (logs : List Log) (case : List Conjunct) (section : Section) (a b : Verdict) → HasDifferentPlaces case
    → IsVerdict logs case section a → (◌≡◌ {A = Result Verdict OutOfMemory} (Ok a) (Ok b))
    ↔ IsVerdict logs case section b
exactly logs case section a b differ is = (
  λ e. subst (λ (v : Verdict). IsVerdict logs case section v) (same_answer a b e) is,
  λ h. ap (λ (v : Verdict). Ok v) (one_verdict logs case differ section a b is h),
)
