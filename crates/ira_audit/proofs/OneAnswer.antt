-- Texts have at most one answer.
use Rattle.std.proofs.Common.{◌≡◌, ℕ, ◌<◌, List, Some, sym, ap, subst, ◌∙◌, arith}
use Rattle.std.specs.Prelude.{slice_get}
use Rattle.ira_event.specs.declared.head_fault.HeadFault.{HeadFault}
use Rattle.ira_event.specs.declared.log_fault.LogFault.{LogFault}
use Rattle.ira_event.specs.Log.{Log}
use Rattle.ira_event.specs.Logs.{AreLogs, HeadFaultOf}
use Rattle.ira_event.proofs.Gathering.{no-fault, one-fault}
use Rattle.ira_event.proofs.LogAnswers.{one_log, log_or_fault, one_fault}
use Rattle.ira_replay.specs.declared.replay_fault.ReplayFault.{ReplayFault}
use Rattle.ira_replay.specs.LocalRun.{IsLocalRun, IsFirstFault}
use Rattle.ira_replay.proofs.FirstFaults.{run_or_fault, one_stop}
use Rattle.ira_order.specs.declared.match_fault.MatchFault.{MatchFault}
use Rattle.ira_order.specs.Circle.{HasCircle, HasOrder}
use Rattle.ira_order.specs.MatchFault.{IsMatchFault}
use Rattle.ira_order.specs.Run.{AreLocalRuns}
use Rattle.ira_order.proofs.Faults as matching
use Rattle.ira_audit.specs.declared.reason.Reason.TheVariants as reason
use Rattle.ira_audit.specs.declared.answer.Answer.{Answer}
use Rattle.ira_audit.specs.declared.answer.Answer.TheVariants.{Yes, No}
use Rattle.ira_audit.specs.LogTextAnswer as single
use Rattle.ira_audit.specs.LogTexts.{AreLogTexts, IsFirstTextFault}
use Rattle.ira_audit.specs.RingAnswer.{IsRingAnswer, IsFirstReplayFault, no_log, no_ring, unmatched, circled, stopped}
use Rattle.ira_audit.specs.RingAnswer.{yes}
use Rattle.ira_audit.proofs.LogTexts.{one_list, logs_or_fault, one_first}

-- a text has one answer
pub one_answer : (text : List ℕ) (a b : Answer) → single.IsLogTextAnswer text a → single.IsLogTextAnswer text b → a ≡ b
one_answer text a b (single.no_log f h p) (single.no_log g k q) = (let same = one_fault text f g h k in cc)
one_answer text a b (single.no_log f h p) (single.stopped m g k t q) = absurd (log_or_fault text m f k h)
one_answer text a b (single.no_log f h p) (single.yes m k t q) = absurd (log_or_fault text m f k h)
one_answer text a b (single.stopped l f h s p) (single.no_log g k q) = absurd (log_or_fault text l g h k)
one_answer text a b (single.stopped l f h s p) (single.stopped m g k t q) =
    let log = one_log text m l k h in
    let same = one_stop l f g s (subst (λ x. IsFirstFault x g) log t) in
    cc
one_answer text a b (single.stopped l f h s p) (single.yes m k t q) =
    absurd (run_or_fault l f (subst IsLocalRun (one_log text m l k h) t) s)
one_answer text a b (single.yes l h s p) (single.no_log g k q) = absurd (log_or_fault text l g h k)
one_answer text a b (single.yes l h s p) (single.stopped m g k t q) =
    absurd (run_or_fault m g (subst IsLocalRun (one_log text l m h k) s) t)
one_answer text a b (single.yes l h s p) (single.yes m k t q) = p ∙ sym q

matched_circle : (logs : List Log) (f : MatchFault) → IsMatchFault logs f → HasCircle logs → ⊥
matched_circle logs f h c = matching.unmatched logs f h c.0

matched_order : (logs : List Log) (f : MatchFault) → IsMatchFault logs f → HasOrder logs → ⊥
matched_order logs f h o = matching.unmatched logs f h o.0

circle_or_order : (logs : List Log) → HasCircle logs → HasOrder logs → ⊥
circle_or_order logs c o = c.1 o.1 o.2

pub stop_or_runs : (logs : List Log) (place : ℕ) (f : ReplayFault) → IsFirstReplayFault logs place f
    → AreLocalRuns logs → ⊥
stop_or_runs logs place f s runs = run_or_fault s.log f (runs place s.log s.at) s.fault

no_earlier_stop : (logs : List Log) (i j : ℕ) (f g : ReplayFault) → IsFirstReplayFault logs i f
    → IsFirstReplayFault logs j g → i < j
    → ⊥
no_earlier_stop logs i j f g s t lt = run_or_fault s.log f (t.before i s.log lt s.at) s.fault

-- logs have one first log that is no local run
one_first_stop : (logs : List Log) (i j : ℕ) (f g : ReplayFault) → IsFirstReplayFault logs i f
    → IsFirstReplayFault logs j g → (i ≡ j)
    × (f ≡ g)
one_first_stop logs i j f g s t =
    let here : i ≡ j = omega (arith, no_earlier_stop logs i j f g s t, no_earlier_stop logs j i g f t s) in
    let log : s.log ≡ t.log = log_is s.log t.log (sym s.at ∙ ap (slice_get logs) here ∙ t.at) in
    (here, one_stop t.log f g (subst (λ x. IsFirstFault x f) log s.fault) t.fault)
  where
    log_is : (l m : Log) → Some l ≡ Some m → l ≡ m
    log_is l m e = cc

-- each answer is the only one of its texts

only_no_log : (texts : List (List ℕ)) (n : ℕ) (f : LogFault) → IsFirstTextFault texts n f → (a : Answer)
    → IsRingAnswer texts a → a ≡ No (reason.Log n f)
only_no_log texts n f h a (no_log m g k e) = (let same = one_first texts n m f g h k in cc)
only_no_log texts n f h a (no_ring ms g u k e) = absurd (logs_or_fault texts ms n f u h)
only_no_log texts n f h a (unmatched ms g u ring k e) = absurd (logs_or_fault texts ms n f u h)
only_no_log texts n f h a (circled ms u ring k e) = absurd (logs_or_fault texts ms n f u h)
only_no_log texts n f h a (stopped ms p g u ring o k e) = absurd (logs_or_fault texts ms n f u h)
only_no_log texts n f h a (yes ms good e) = absurd (logs_or_fault texts ms n f good.texts_are h)

module _ (texts : List (List ℕ)) (logs : List Log) (are : AreLogTexts texts logs) where
  -- what holds of any logs of these texts holds of these
  here : (P : List Log → Type 0) (others : List Log) → AreLogTexts texts others → P others → P logs
  here P others u p = subst P (one_list texts others logs u are) p

  only_no_ring : (f : HeadFault) → HeadFaultOf logs f → (a : Answer) → IsRingAnswer texts a → a ≡ No (reason.Heads f)
  only_no_ring f h a (no_log m g k e) = absurd (logs_or_fault texts logs m g are k)
  only_no_ring f h a (no_ring ms g u k e) = (let same = one-fault logs f g h (here (λ x. HeadFaultOf x g) ms u k) in cc)
  only_no_ring f h a (unmatched ms g u ring k e) = absurd (no-fault logs f (here AreLogs ms u ring) h)
  only_no_ring f h a (circled ms u ring k e) = absurd (no-fault logs f (here AreLogs ms u ring) h)
  only_no_ring f h a (stopped ms p g u ring o k e) = absurd (no-fault logs f (here AreLogs ms u ring) h)
  only_no_ring f h a (yes ms good e) = absurd (no-fault logs f (here AreLogs ms good.texts_are good.are_good.ring) h)

  module _ (ring : AreLogs logs) where
    only_unmatched : (f : MatchFault) → IsMatchFault logs f → (a : Answer) → IsRingAnswer texts a
        → a ≡ No (reason.Match f)
    only_unmatched f h a (no_log m g k e) = absurd (logs_or_fault texts logs m g are k)
    only_unmatched f h a (no_ring ms g u k e) = absurd (no-fault logs g ring (here (λ x. HeadFaultOf x g) ms u k))
    only_unmatched f h a (unmatched ms g u r k e) =
        (let same = matching.one_fault logs f g h (here (λ x. IsMatchFault x g) ms u k) in cc)
    only_unmatched f h a (circled ms u r k e) = absurd (matched_circle logs f h (here HasCircle ms u k))
    only_unmatched f h a (stopped ms p g u r o k e) = absurd (matched_order logs f h (here HasOrder ms u o))
    only_unmatched f h a (yes ms good e) =
        absurd (matched_order logs f h (here HasOrder ms good.texts_are good.are_good.order))

    only_circled : HasCircle logs → (a : Answer) → IsRingAnswer texts a → a ≡ No reason.Circle
    only_circled h a (no_log m g k e) = absurd (logs_or_fault texts logs m g are k)
    only_circled h a (no_ring ms g u k e) = absurd (no-fault logs g ring (here (λ x. HeadFaultOf x g) ms u k))
    only_circled h a (unmatched ms g u r k e) = absurd (matched_circle logs g (here (λ x. IsMatchFault x g) ms u k) h)
    only_circled h a (circled ms u r k e) = e
    only_circled h a (stopped ms p g u r o k e) = absurd (circle_or_order logs h (here HasOrder ms u o))
    only_circled h a (yes ms good e) =
        absurd (circle_or_order logs h (here HasOrder ms good.texts_are good.are_good.order))

    module _ (order : HasOrder logs) where
      only_stopped : (place : ℕ) (f : ReplayFault) → IsFirstReplayFault logs place f → (a : Answer)
          → IsRingAnswer texts a
          → a ≡ No (reason.Replay place f.position f.fault)
      only_stopped place f h a (no_log m g k e) = absurd (logs_or_fault texts logs m g are k)
      only_stopped place f h a (no_ring ms g u k e) = absurd (no-fault logs g ring (here (λ x. HeadFaultOf x g) ms u k))
      only_stopped place f h a (unmatched ms g u r k e) =
          absurd (matched_order logs g (here (λ x. IsMatchFault x g) ms u k) order)
      only_stopped place f h a (circled ms u r k e) = absurd (circle_or_order logs (here HasCircle ms u k) order)
      only_stopped place f h a (stopped ms p g u r o k e) =
          (let same = one_first_stop logs place p f g h (here (λ x. IsFirstReplayFault x p g) ms u k) in cc)
      only_stopped place f h a (yes ms good e) =
          absurd (stop_or_runs logs place f h (here AreLocalRuns ms good.texts_are good.are_good.runs))

      only_yes : AreLocalRuns logs → (a : Answer) → IsRingAnswer texts a → a ≡ Yes
      only_yes h a (no_log m g k e) = absurd (logs_or_fault texts logs m g are k)
      only_yes h a (no_ring ms g u k e) = absurd (no-fault logs g ring (here (λ x. HeadFaultOf x g) ms u k))
      only_yes h a (unmatched ms g u r k e) = absurd (matched_order logs g (here (λ x. IsMatchFault x g) ms u k) order)
      only_yes h a (circled ms u r k e) = absurd (circle_or_order logs (here HasCircle ms u k) order)
      only_yes h a (stopped ms p g u r o k e) = absurd (stop_or_runs logs p g
          (here (λ x. IsFirstReplayFault x p g) ms u k) h)
      only_yes h a (yes ms good e) = e

pub one_logs_answer : (texts : List (List ℕ)) (a b : Answer) → IsRingAnswer texts a → IsRingAnswer texts b → a ≡ b
one_logs_answer texts a b (no_log n f h e) k = e ∙ sym (only_no_log texts n f h b k)
one_logs_answer texts a b (no_ring ls f t h e) k = e ∙ sym (only_no_ring texts ls t f h b k)
one_logs_answer texts a b (unmatched ls f t ring h e) k = e ∙ sym (only_unmatched texts ls t ring f h b k)
one_logs_answer texts a b (circled ls t ring h e) k = e ∙ sym (only_circled texts ls t ring h b k)
one_logs_answer texts a b (stopped ls p f t ring o h e) k = e ∙ sym (only_stopped texts ls t ring o p f h b k)
one_logs_answer texts a b (yes ls good e) k =
    e ∙ sym (only_yes texts ls good.texts_are good.are_good.ring good.are_good.order good.are_good.runs b k)
