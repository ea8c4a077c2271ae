-- What a yes says: that nothing which was asked was ever met, and that no two nodes led at once.
use Rattle.std.specs.Prelude.{◌≡◌, ◌≢◌, ℕ, ◌<◌, ◌≤◌, List, Some, length, slice_get, slice_index, take, Contains}
use Rattle.ira_event.specs.Log.{Log}
use Rattle.ira_event.specs.Logs.{AreLogs}
use Rattle.ira_pred.specs.Formula.{leader}
use Rattle.ira_pred.specs.Case.{Conjunct}
use Rattle.ira_pred.specs.Question.{QuestionCases}
use Rattle.ira_pred.specs.QuestionText.{IsQuestionText}
use Rattle.ira_pred.specs.Pairs.{pairs_asked}
use Rattle.ira_order.specs.Circle.{HasOrder}
use Rattle.ira_order.specs.Cut.{IsConsistentCut}
use Rattle.ira_order.specs.Order.{IsOrder, occurrences}
use Rattle.ira_order.specs.RunsOfLogs.{EveryOrderIsRun}
use Rattle.ira_cand.specs.HoldsAt.{HoldsAt}
use Rattle.ira_cand.specs.Meets.{Meets}
use Rattle.ira_cert_text.specs.Certificate.{Certificate}
use Rattle.ira_cert_text.specs.CertText.{IsCertText}
use Rattle.ira_audit.specs.declared.answer.Answer.TheVariants.{Yes}
use Rattle.ira_audit.specs.LogTexts.{AreLogTexts}
use Rattle.ira_audit.specs.CheckAnswer.{AreSound, IsCheckAnswer}
use Rattle.ira_audit.specs.RingAnswer.{IsRingAnswer}

-- no consistent cut of the logs meets any of the cases
abbrev pub NoCutMeetsAny : List Log → List (List Conjunct) → Type 0
NoCutMeetsAny logs cases = (case : List Conjunct) (cut : List ℕ) → Contains cases case → IsConsistentCut logs cut
    → ¬ (Meets logs case cut)

-- the texts are those of a ring's logs, which have an order, and each order of them is a run of the ring; the question
-- asks some cases of that ring; the certificate is for that ring and has a sound section for each case; and no
-- consistent
-- cut of the logs meets any of the cases
pub record NoCaseIsMet (texts : List (List ℕ)) (question certificate : List ℕ) : Type 0 where
  pub logs : List Log
  pub logs_are : AreLogTexts texts logs
  pub ring : AreLogs logs
  pub order : HasOrder logs
  pub runs : EveryOrderIsRun logs
  pub asked : QuestionCases
  pub question_is : IsQuestionText question asked
  pub asked_of_ring : asked.nodes ≡ length logs
  pub certified : Certificate
  pub certificate_is : IsCertText certificate certified
  pub certified_for_ring : certified.nodes ≡ length logs
  pub sound : AreSound logs asked.cases certified.sections
  pub never : NoCutMeetsAny logs asked.cases

-- after a yes with a question and a certificate this holds
abbrev pub YesMeansNoCaseIsMet : Type 0
YesMeansNoCaseIsMet =
    (texts : List (List ℕ)) (question certificate : List ℕ) → IsCheckAnswer texts question certificate Yes
    → NoCaseIsMet texts question certificate

-- the cut says how many events each node has made after t places of the order
pub record IsCutAfter (logs : List Log) (order : List ℕ) (t : ℕ) (cut : List ℕ) : Type 0 where
  pub within : t ≤ length order
  pub places : length cut ≡ length logs
  pub made : (i : ℕ) → i < length logs → slice_index cut i ≡ occurrences (take t order) i

-- after a yes no order of the logs meets an asked case at any of its moments
abbrev pub NoMomentMeetsAny : Type 0
NoMomentMeetsAny =
    (texts : List (List ℕ)) (question certificate : List ℕ) (logs : List Log) (asked : QuestionCases)
    → IsCheckAnswer texts question certificate Yes → AreLogTexts texts logs → IsQuestionText question asked
    → (order cut : List ℕ) (t : ℕ) (case : List Conjunct) → IsOrder logs order → IsCutAfter logs order t cut
    → Contains asked.cases case → ¬ (Meets logs case cut)

-- the node is a leader at the cut
abbrev pub LeadsAtCut : List Log → List ℕ → ℕ → Type 0
LeadsAtCut logs cut i = (log : Log) × (slice_get logs i ≡ Some log) × HoldsAt log leader (slice_index cut i)

-- after a yes no consistent cut has two nodes that lead
abbrev pub NeverTwoLeaders : Type 0
NeverTwoLeaders =
    (texts : List (List ℕ)) (logs : List Log) → IsRingAnswer texts Yes → AreLogTexts texts logs
    → (cut : List ℕ) (i j : ℕ) → IsConsistentCut logs cut → i ≢ j → LeadsAtCut logs cut i
    → ¬ (LeadsAtCut logs cut j)

-- so none meets a case of the question of all pairs
abbrev pub NoCutMeetsAPair : Type 0
NoCutMeetsAPair =
    (texts : List (List ℕ)) (logs : List Log) → IsRingAnswer texts Yes → AreLogTexts texts logs
    → NoCutMeetsAny logs (pairs_asked (length logs)).cases

-- where there is a yes with a question and a certificate, there is one without
abbrev pub YesWithoutQuestion : Type 0
YesWithoutQuestion =
    (texts : List (List ℕ)) (question certificate : List ℕ) → IsCheckAnswer texts question certificate Yes
    → IsRingAnswer texts Yes
