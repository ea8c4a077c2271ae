-- What is found of a question that was looked at.
use Rattle.std.proofs.Common.{◌≡◌, ◌↔◌, ℕ, List, IfOk, Result, Ok, Err, inl, inr, refl, subst, ap}
use Rattle.ira_event.specs.Result.{UnlessErr}
use Rattle.ira_event.specs.declared.out_of_memory.OutOfMemory.{OutOfMemory}
use Rattle.ira_audit.specs.declared.reason.Reason.{Reason}
use Rattle.ira_audit.specs.declared.findings.Findings.{Findings}
use Rattle.ira_audit.specs.declared.findings.Findings.TheVariants.{Refused, Cases}
use Rattle.ira_audit.specs.AskedQuestion.{AreFoundOf, AskedQuestion}
use Rattle.ira_audit.specs.Findings.{AreFindings, AreReportable}
use Rattle.ira_audit.specs.QuestionFitsLogs.{QuestionFitsLogs, WhyNoQuestion}
use Rattle.ira_audit.proofs.OnePosed.{one_reason, posed_or_not}

-- what is found, or why the question isn't posed
abbrev pub IsDecided : {A : Type 0} → List (List ℕ) → List ℕ → Result (Findings A) OutOfMemory → Type 0
IsDecided texts question d = IfOk d (λ findings. AreFindings texts question findings × AreReportable findings)

reason_same : {A : Type 0} (r s : Reason) → ◌≡◌ {A = Result (Findings A) OutOfMemory} (Ok (Refused r)) (Ok (Refused s))
    → r ≡ s
reason_same r s e = cc

module _ {A : Type 0} (texts : List (List ℕ)) (question : List ℕ) where
  -- what is found for a question that is posed
  pub found_asked : (asked : AskedQuestion) → QuestionFitsLogs texts question asked.logs asked.question
      → (findings : Findings A) → AreFoundOf asked findings → AreFindings texts question findings × AreReportable findings
  found_asked asked posed (Refused r) h = absurd h
  found_asked asked posed (Cases nodes found) h = ((asked.logs, asked.question, posed, h.0, h.1), tt)

  pub posed_decided : (asked : AskedQuestion) → QuestionFitsLogs texts question asked.logs asked.question
      → (d : Result (Findings A) OutOfMemory) → IfOk d (AreFoundOf asked) → IsDecided texts question d
  posed_decided asked posed (Ok findings) h = found_asked asked posed findings h
  posed_decided asked posed (Err e) h = tt

  -- findings are a refusal by exactly the reason that there is
  refused_exactly : (findings : Findings A) → AreFindings texts question findings → (r : Reason)
      → ◌≡◌ {A = Result (Findings A) OutOfMemory} (Ok findings) (Ok (Refused r)) ↔ WhyNoQuestion texts question r
  refused_exactly (Refused s) h r = (
    λ e. subst (WhyNoQuestion texts question) (reason_same {A = A} s r e) h,
    λ k. ap {B = Result (Findings A) OutOfMemory} (λ x. Ok (Refused x)) (one_reason texts question s r h k),
  )
  refused_exactly (Cases nodes found) h r = (λ e. absurd cc, λ k. absurd (posed_or_not texts question r h.0 h.1 k h.2))

  pub decided_refused : (d : Result (Findings A) OutOfMemory) → IsDecided texts question d → (r : Reason)
      → UnlessErr {T = Findings A} {E = OutOfMemory} d (record {})
      ((d ≡ Ok (Refused r)) ↔ WhyNoQuestion texts question r)
  decided_refused (Ok findings) h r = inr (refused_exactly findings h.0 r)
  decided_refused (Err e) h r = inl refl

  pub decided_found : (d : Result (Findings A) OutOfMemory) → IsDecided texts question d
      → IfOk d (AreFindings texts question)
  decided_found (Ok findings) h = h.0
  decided_found (Err e) h = tt

  pub decided_reportable : (d : Result (Findings A) OutOfMemory) → IsDecided texts question d → IfOk d AreReportable
  decided_reportable (Ok findings) h = h.1
  decided_reportable (Err e) h = tt
