-- What a yes says: that no consistent cut of the logs meets any case.
use Rattle.std.proofs.Common.{◌≡◌, ℕ, List, [], ◌∷◌, ◌++◌, inl, inr, length, refl, sym, subst, arith}
use Rattle.std.specs.Prelude.{slice_index}
use Rattle.std.proofs.lemmas.List.Elements.{Contains-push_cases}
use Rattle.std.proofs.lemmas.Option.{slice_get_read}
use Rattle.ira_event.specs.Log.{Log}
use Rattle.ira_event.specs.Logs.{AreLogs}
use Rattle.ira_pred.specs.Case.{Conjunct}
use Rattle.ira_pred.specs.Formula.{leader}
use Rattle.ira_pred.specs.Question.{QuestionCases}
use Rattle.ira_pred.specs.QuestionText.{IsQuestionText}
use Rattle.ira_pred.proofs.PairCases.{All-pairs}
use Rattle.ira_pred.proofs.QuestionTexts.{one_question}
use Rattle.ira_node.specs.declared.phase.Phase.TheVariants.{Leader}
use Rattle.ira_node.specs.NodeState.{first_state}
use Rattle.ira_replay.proofs.Reached.{states_are_reached}
use Rattle.ira_order.specs.Circle.{HasOrder}
use Rattle.ira_order.proofs.Cuts.{moment_cut}
use Rattle.ira_order.proofs.RunsOfLogs.{every_order_is_run}
use Rattle.ira_cert_text.specs.Certificate.{Section}
use Rattle.ira_cert.specs.Conjuncts.{HasDifferentPlaces}
use Rattle.ira_cert.specs.SoundSection.{IsSoundSection}
use Rattle.ira_cert.proofs.NoCut.{sound_leaves_no_cut}
use Rattle.ira_cand.specs.Meets.{Meets}
use Rattle.ira_elim.specs.Found.{IsAbsence}
use Rattle.ira_safety.specs.OneLeader.{Leads}
use Rattle.ira_safety.proofs.Leaders.{one_leader_at_a_cut}
use Rattle.ira_audit.specs.declared.answer.Answer.{Answer}
use Rattle.ira_audit.specs.declared.answer.Answer.TheVariants.{Yes}
use Rattle.ira_audit.specs.LogTexts.{AreLogTexts}
use Rattle.ira_audit.specs.CheckAnswer.{AreSound, IsCheckAnswer, not_posed, no_certificate, other_size, other_number}
use Rattle.ira_audit.specs.CheckAnswer.{unsound, yes}
use Rattle.ira_audit.specs.QuestionFitsLogs.{QuestionFitsLogs}
use Rattle.ira_audit.specs.GoodLogs.{AreGood, AreGoodLogs}
use Rattle.ira_audit.specs.RingAnswer.{IsRingAnswer, no_log, no_ring, unmatched, circled, stopped, yes as logs_yes}
use Rattle.ira_audit.specs.Never.{LeadsAtCut, NeverTwoLeaders, NoCaseIsMet, NoCutMeetsAPair, NoCutMeetsAny}
use Rattle.ira_audit.specs.Never.{NoMomentMeetsAny, YesMeansNoCaseIsMet, YesWithoutQuestion}
use Rattle.ira_audit.proofs.LogTexts.{one_list}
use Rattle.ira_audit.proofs.Places.{different_places}
use Rattle.ira_audit.proofs.Zipped.{zipped_at, partner_at}

-- where each section is sound for its case, no case is met
no_cut : (texts : List (List ℕ)) (question : List ℕ) (logs : List Log) (asked : QuestionCases) (sections : List Section)
    → QuestionFitsLogs texts question logs asked → AreSound logs asked.cases sections → NoCutMeetsAny logs asked.cases
no_cut texts question logs asked sections posed sound = λ case cut has consistent.
    let at = slice_get_read asked.cases (length asked.cases) has.0 case refl has.1 (sym has.2) in
    let section = partner_at asked.cases sections has.0 case (IsSoundSection logs) sound at in
    sound_leaves_no_cut logs case section.0 cut (different_places asked posed.question_is.valid has.0 case at)
    (zipped_at (IsSoundSection logs) asked.cases sections has.0 case section.0 sound at section.1) consistent

-- one case more that is absent
pub absent_more : (logs : List Log) (cases : List (List Conjunct)) (case : List Conjunct) (section : Section)
    → HasDifferentPlaces case → NoCutMeetsAny logs cases → IsAbsence logs case section
    → NoCutMeetsAny logs (cases ++ case ∷ [])
absent_more logs cases case section differ never is = λ other cut has consistent.
    elim (Contains-push_cases cases case other has) [
      | inl old ↦ never other cut old consistent
      | inr new ↦ subst (λ x. ¬ (Meets logs x cut)) new
          (sound_leaves_no_cut logs case section cut differ is.sound consistent)
    ]

-- the texts are answered yes
pub yes_never : (texts : List (List ℕ)) (question certificate : List ℕ) (a : Answer)
    → IsCheckAnswer texts question certificate a → a ≡ Yes → NoCaseIsMet texts question certificate
yes_never texts question certificate a (not_posed r h e) is = absurd cc
yes_never texts question certificate a (no_certificate logs asked f p h e) is = absurd cc
yes_never texts question certificate a (other_size logs asked c p t other e) is = absurd cc
yes_never texts question certificate a (other_number logs asked c p t size other e) is = absurd cc
yes_never texts question certificate a (unsound logs asked c i f p t size number h e) is = absurd cc
yes_never texts question certificate a (yes logs asked c p t size sound e) is =
    let good = p.logs_are.are_good in
    record {
      logs = logs;
      logs_are = p.logs_are.texts_are;
      ring = good.ring;
      order = good.order;
      runs = every_order_is_run logs good.ring good.order.0 good.runs;
      asked = asked;
      question_is = p.question_is;
      asked_of_ring = p.ring;
      certified = c;
      certificate_is = t;
      certified_for_ring = size;
      sound = sound;
      never = no_cut texts question logs asked c.sections p sound;
    }

pub no_case : YesMeansNoCaseIsMet
no_case texts question certificate h = yes_never texts question certificate Yes h refl

-- ---- moments

module _ (texts : List (List ℕ)) (question certificate : List ℕ) (logs : List Log) (asked : QuestionCases)
    (never : NoCaseIsMet texts question certificate) (logs_are : AreLogTexts texts logs)
    (question_is : IsQuestionText question asked) where
  same_logs : never.logs ≡ logs
  same_logs = one_list texts never.logs logs never.logs_are logs_are

  same_question : never.asked ≡ asked
  same_question = one_question question never.asked asked never.question_is question_is

  no_cut_meets : NoCutMeetsAny logs asked.cases
  no_cut_meets =
      subst (λ (q : QuestionCases). NoCutMeetsAny logs q.cases) same_question
      (subst (λ ls. NoCutMeetsAny ls never.asked.cases) same_logs never.never)

pub no_moment : NoMomentMeetsAny
no_moment texts question certificate logs asked yes_is logs_are question_is order cut t case is moment has meets =
    let never = no_case texts question certificate yes_is in
    let same = same_logs texts question certificate logs asked never logs_are question_is in
    let ring = subst AreLogs same never.ring in
    let matches = (subst HasOrder same never.order).0 in
    let consistent = moment_cut logs order cut t ring.ring.0 matches is moment.within moment.places moment.made in
    no_cut_meets texts question certificate logs asked never logs_are question_is case cut has consistent meets

-- ---- leaders

-- there is a yes without the question
yes_good : (texts : List (List ℕ)) (question certificate : List ℕ) (a : Answer)
    → IsCheckAnswer texts question certificate a → a ≡ Yes → (logs : List Log) × AreGoodLogs texts logs
yes_good texts question certificate a (not_posed r h e) is = absurd cc
yes_good texts question certificate a (no_certificate logs asked f p h e) is = absurd cc
yes_good texts question certificate a (other_size logs asked c p t other e) is = absurd cc
yes_good texts question certificate a (other_number logs asked c p t size other e) is = absurd cc
yes_good texts question certificate a (unsound logs asked c i f p t size number h e) is = absurd cc
yes_good texts question certificate a (yes logs asked c p t size sound e) is = (logs, p.logs_are)

pub yes_without_question : YesWithoutQuestion
yes_without_question texts question certificate yes_is =
    let good = yes_good texts question certificate Yes yes_is refl in
    logs_yes good.0 good.1 refl

-- the logs of a yes
good_logs : (texts : List (List ℕ)) (logs : List Log) (a : Answer) → IsRingAnswer texts a → a ≡ Yes
    → AreLogTexts texts logs → AreGood logs
good_logs texts logs a (no_log number f h e) is texts_are = absurd cc
good_logs texts logs a (no_ring ls f t h e) is texts_are = absurd cc
good_logs texts logs a (unmatched ls f t r h e) is texts_are = absurd cc
good_logs texts logs a (circled ls t r h e) is texts_are = absurd cc
good_logs texts logs a (stopped ls place f t r o h e) is texts_are = absurd cc
good_logs texts logs a (logs_yes ls good e) is texts_are =
    subst AreGood (one_list texts ls logs good.texts_are texts_are) good.are_good

leads_there : (logs : List Log) (cut : List ℕ) (i : ℕ) → LeadsAtCut logs cut i → Leads logs i (slice_index cut i)
leads_there logs cut i (log, at, holds) =
    let phase : holds.state.phase ≡ Leader holds.holds.0 holds.holds.1 = holds.holds.2 in
    record {
      state = holds.state;
      is_in = record {
        log = log;
        at = at;
        reached = ((states_are_reached log.nodes (first_state log.initiator) log.events holds.states holds.states_are
            (slice_index cut i) holds.state).0 holds.at).1;
      };
      leads = rw phase tt;
    }

pub no_two_leaders : NeverTwoLeaders
no_two_leaders texts logs yes_is texts_are cut i j consistent other one two =
    let good = good_logs texts logs Yes yes_is refl texts_are in
    other (one_leader_at_a_cut logs cut good.ring good.order.0 good.runs consistent i j (leads_there logs cut i one)
    (leads_there logs cut j two))

pub no_cut_meets_a_pair : NoCutMeetsAPair
no_cut_meets_a_pair texts logs yes_is texts_are case cut has consistent =
    let none = All-pairs (λ c. ¬ (Meets logs c cut)) (length logs)
    (λ i j lower below met. no_two_leaders texts logs yes_is texts_are cut i j consistent (omega arith)
    (met 0 (record { place = i; formula = leader }) (omega arith))
    (met 1 (record { place = i; formula = leader }) (omega arith))) in
    subst (λ c. ¬ (Meets logs c cut)) has.2 (none has.0 case has.1)
