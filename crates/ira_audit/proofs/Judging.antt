-- What texts that were judged by a definition of answers have been answered.
use Rattle.std.proofs.Common.{◌≡◌, ◌≢◌, ◌↔◌, ℕ, List, IfOk, Result, Ok, Err, inl, inr, refl, subst, ap}
use Rattle.ira_event.specs.Result.{UnlessErr}
use Rattle.ira_event.specs.declared.out_of_memory.OutOfMemory.{OutOfMemory}
use Rattle.ira_event.specs.Log as log
use Rattle.ira_event.specs.Logs.{AreLogs}
use Rattle.ira_event.proofs.Unless.{ok_same}
use Rattle.ira_order.specs.declared.match_fault.MatchFault.{MatchFault}
use Rattle.ira_order.specs.declared.order_fault.OrderFault.{OrderFault}
use Rattle.ira_order.specs.declared.order_fault.OrderFault.TheVariants as order
use Rattle.ira_order.specs.Circle.{HasCircle}
use Rattle.ira_order.specs.MatchFault.{IsMatchFault}
use Rattle.ira_order.specs.Ordered.{IsOrdered}
use Rattle.ira_audit.specs.declared.reason.Reason.{Reason}
use Rattle.ira_audit.specs.declared.reason.Reason.TheVariants.{Log, Heads, Match, Circle, Replay, Question, QuestionSize}
use Rattle.ira_audit.specs.declared.reason.Reason.TheVariants.{Certificate, CertificateSize, Sections, Section}
use Rattle.ira_audit.specs.declared.answer.Answer.{Answer}
use Rattle.ira_audit.specs.declared.answer.Answer.TheVariants.{Yes, No}
use Rattle.ira_audit.specs.declared.judged.Judged.{Judged}
use Rattle.ira_audit.specs.declared.judged.Judged.TheVariants.{Refused, NoRing}
use Rattle.ira_audit.specs.Judged.{IsJudged}
use Rattle.ira_audit.specs.LogTexts.{AreLogTexts}
use Rattle.ira_audit.specs.Refusal.{IsLogsReason}
use Rattle.ira_audit.specs.RefusedLogs.{AreRefused, IsReasonOf, RefusedLogs}
use Rattle.ira_audit.specs.ReplayedLogs.{IsSearched}
use Rattle.ira_audit.specs.RingAnswer.{IsRingAnswer, unmatched, circled, stopped}
use Rattle.ira_audit.specs.TextRuns.{AreTextsOfRuns, AreTextsWithoutRun, IsOfRing}
use Rattle.ira_audit.proofs.OneAnswer.{one_logs_answer}
use Rattle.ira_audit.proofs.TextRuns.{no_means_no_run, yes_means_runs}

-- what is right is what is said, where one thing alone is right
pub said_exactly : {X : Type 0} (P : X → Type 0) → ((x y : X) → P x → P y → x ≡ y) → (x : X) → P x → (y : X)
    → (x ≡ y) ↔ P y
said_exactly P one x h y = (λ e. subst P e h, λ k. one x y h k)

-- the same of a result
pub exactly_unless : {X : Type 0} (P Q : X → Type 0) → ((x y : X) → P x → P y → x ≡ y) → (r : Result X OutOfMemory)
    → IfOk r (λ x. P x × Q x) → (y : X) → UnlessErr {T = X} {E = OutOfMemory} r (record {}) ((r ≡ Ok y) ↔ P y)
exactly_unless P Q one (Ok x) h y = inr (λ e. subst P (ok_same x y e) h.0, λ k. ap Ok (one x y h.0 k))
exactly_unless P Q one (Err e) h y = inl refl

pub ok_holds : {X : Type 0} (P Q : X → Type 0) (r : Result X OutOfMemory) → IfOk r (λ x. P x × Q x) → (x : X)
    → r ≡ Ok x → P x
ok_holds P Q (Ok y) h x e = subst P (ok_same y x e) h.0
ok_holds P Q (Err f) h x e = absurd cc

pub ok_also : {X : Type 0} (P Q : X → Type 0) (r : Result X OutOfMemory) → IfOk r (λ x. P x × Q x) → IfOk r Q
ok_also P Q (Ok x) h = h.1
ok_also P Q (Err f) h = tt

-- ---- texts of several logs

-- what a search for an order gave
pub searched : {V : Type 0} (logs : List log.Log) (items : V → List ℕ) (r : Result V OrderFault)
    → IfOk r (λ v. IsOrdered (record { logs = logs; schedule = items v }))
    → ((f : MatchFault) → (r ≡ Err (order.Match f)) ↔ IsMatchFault logs f)
    → (r ≢ Err order.OutOfMemory → (r ≡ Err order.Circle) ↔ HasCircle logs)
    → IsSearched logs r
searched logs items (Ok v) ok matching circle = (ok.matches, items v, ok.order)
searched logs items (Err (order.Match f)) ok matching circle = (matching f).0 refl
searched logs items (Err order.Circle) ok matching circle = (circle (λ e. cc)).0 refl
searched logs items (Err order.OutOfMemory) ok matching circle = tt

-- the reason against the logs is the one against their texts
reason_of_texts : (texts : List (List ℕ)) (logs : List log.Log) (r : Reason) → AreLogTexts texts logs → AreLogs logs
    → IsReasonOf logs r → IsLogsReason texts r
reason_of_texts texts logs (Match f) are ring h = (unmatched logs f are ring h refl, tt)
reason_of_texts texts logs Circle are ring h = (circled logs are ring h refl, tt)
reason_of_texts texts logs (Replay place position fault) are ring h =
    (stopped logs place (record { position = position; fault = fault }) are ring h.0 h.1 refl, tt)
reason_of_texts texts logs (Log number f) are ring h = absurd h
reason_of_texts texts logs (Heads f) are ring h = absurd h
reason_of_texts texts logs (Question f) are ring h = absurd h
reason_of_texts texts logs QuestionSize are ring h = absurd h
reason_of_texts texts logs (Certificate f) are ring h = absurd h
reason_of_texts texts logs CertificateSize are ring h = absurd h
reason_of_texts texts logs (Sections wanted found) are ring h = absurd h
reason_of_texts texts logs (Section case f) are ring h = absurd h

pub refused_reason : (texts : List (List ℕ)) (refused : RefusedLogs) → AreLogTexts texts refused.logs
    → AreRefused refused → IsLogsReason texts refused.reason
refused_reason texts refused are h = reason_of_texts texts refused.logs refused.reason are h.ring h.reason

module _ {A : Type 0} (texts : List (List ℕ)) (j : Judged A) (is : IsJudged texts j) where
  pub refused_judged : (refused : RefusedLogs) → j ≡ Refused refused → IsLogsReason texts refused.reason
  refused_judged refused e = let h = subst (IsJudged texts) e is in refused_reason texts refused h.0 h.1

  pub no_ring_judged : (r : Reason) → j ≡ NoRing r → IsLogsReason texts r
  no_ring_judged r e = let h = subst (IsJudged texts) e is in (h.0, h.2)

-- what the answer of the texts says of them
module _ (texts : List (List ℕ)) (x : Answer) (is : IsRingAnswer texts x) where
  pub answer_exactly : (a : Answer) → (x ≡ a) ↔ IsRingAnswer texts a
  answer_exactly a = said_exactly (IsRingAnswer texts) (one_logs_answer texts) x is a

  pub answer_of_runs : x ≡ Yes → AreTextsOfRuns texts
  answer_of_runs e = yes_means_runs texts (subst (IsRingAnswer texts) e is)

  pub answer_without_run : (r : Reason) → IsOfRing r → x ≡ No r → AreTextsWithoutRun texts
  answer_without_run r of e = no_means_no_run texts r (subst (IsRingAnswer texts) e is) of
