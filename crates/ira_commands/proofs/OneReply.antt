-- What is given determines a reply, to the byte.
use Rattle.std.proofs.Common.{◌≡◌, ◌∙◌, ◌++◌, ◌<◌, ℕ, Bool, true, false, List, [], ◌∷◌, ap, ap₂, refl, subst, sym, length, arith, get_or}
use Rattle.std.specs.Prelude.{IsTrue, codes, slice_index}
use Rattle.std.specs.List.{AllZip}
use Rattle.std.proofs.lemmas.List.{same_lists}
use Rattle.std.proofs.lemmas.Option.{same_Some, slice_get-get_or}
use Rattle.ira_event.specs.Log.{Log}
use Rattle.ira_event.specs.Logs.{AreLogs}
use Rattle.ira_event.proofs.Gathering.{no-fault}
use Rattle.ira_order.proofs.Faults.{one_fault, unmatched}
use Rattle.ira_order.specs.declared.match_fault.MatchFault.{MatchFault}
use Rattle.ira_order.specs.MatchFault.{IsMatchFault}
use Rattle.ira_order.specs.Matching.{Matches}
use Rattle.ira_audit.proofs.LogTexts.{logs_or_fault, one_list}
use Rattle.ira_audit.proofs.OneAnswer.{one_logs_answer}
use Rattle.ira_audit.proofs.OneAuditAnswer.{one_audit_answer}
use Rattle.ira_audit.specs.LogTexts.{AreLogTexts}
use Rattle.ira_audit.specs.Refusal.{IsRingReason, IsTextOrHeadsReason}
use Rattle.ira_audit.specs.RingAnswer as ring
use Rattle.ira_audit.specs.declared.answer.Answer.{Answer}
use Rattle.ira_audit.specs.declared.answer.Answer.TheVariants as answer
use Rattle.ira_audit.specs.declared.reason.Reason.{Reason}
use Rattle.ira_audit.specs.declared.reason.Reason.TheVariants.{Circle, Match, Replay}
use Rattle.ira_mend.proofs.OneReason.{left_texts_are_one, no_reason_against_a_ring, recorded_reasons_are_one}
use Rattle.ira_mend.specs.Beginning.{begun}
use Rattle.ira_mend.specs.Mended.{AreMended, HasDifference, IsGreatestOf}
use Rattle.ira_mend.specs.RecordedLogs.{SaysLost}
use Rattle.ira_view.specs.Status.{answer_status}
use Rattle.ira_view.specs.ViewText.{IsAnswerText}
use Rattle.ira_view.specs.declared.form.Form.{Form}
use Rattle.ira_view.specs.declared.form.Form.TheVariants as forms
use Rattle.ira_commands.specs.Laws.{CheckingHasOneReply, JudgingHasOneReply, MendingHasOneReply, UpgradingHasOneReply}
use Rattle.ira_commands.specs.Mend.{TellsMended, differ, mended, no_ring}
use Rattle.ira_commands.specs.Reply.{Reply, Reports, ReportsAs, printed}
use Rattle.ira_commands.specs.Upgrade as upgrade

-- ---- an answer

one_text : (form : Form) (a : Answer) (s t : List ℕ) → IsAnswerText form a s → IsAnswerText form a t → s ≡ t
one_text forms.Json a s t h k = h.ends ∙ ap (λ line. line ++ codes "\n") (h.compact ∙ sym k.compact) ∙ sym k.ends
one_text forms.Words a s t h k = h ∙ sym k

one_report : (form : Form) (a b : Reply) (x y : Answer) → x ≡ y → ReportsAs form x a → ReportsAs form y b → a ≡ b
one_report form a b x y same h k =
    let there = subst (λ z. ReportsAs form z b) (sym same) k in
    h.2 ∙ ap (printed (answer_status x)) (one_text form x h.0 there.0 h.1 there.1) ∙ sym there.2

pub judging_has_one_reply : JudgingHasOneReply
judging_has_one_reply form texts a b h k =
    one_report form a b h.answer k.answer (one_logs_answer texts h.answer k.answer h.judged k.judged) h.told k.told

pub checking_has_one_reply : CheckingHasOneReply
checking_has_one_reply form question certificate texts a b h k =
    one_report form a b h.answer k.answer
    (one_audit_answer texts question certificate h.answer k.answer h.judged k.judged) h.told k.told

-- ---- upgraded logs

reason_is : (r q : Reason) → answer.No r ≡ answer.No q → r ≡ q
reason_is r q e = cc

-- the texts of a ring's logs have no reason of a text or of heads
no_reason : (texts : List (List ℕ)) (logs : List Log) (r : Reason) → AreLogTexts texts logs → AreLogs logs
    → IsRingReason texts r → ⊥
no_reason texts logs r are is (ring.no_log n f first e, of, may) = logs_or_fault texts logs n f are first
no_reason texts logs r are is (ring.no_ring others f those fault e, of, may) =
    no-fault others f (subst AreLogs (one_list texts logs others are those) is) fault
no_reason texts logs r are is (ring.unmatched others f those ring fault e, of, may) =
    subst IsTextOrHeadsReason (reason_is r (Match f) e) of
no_reason texts logs r are is (ring.circled others those ring circle e, of, may) =
    subst IsTextOrHeadsReason (reason_is r Circle e) of
no_reason texts logs r are is (ring.stopped others place f those ring order fault e, of, may) =
    subst IsTextOrHeadsReason (reason_is r (Replay place f.position f.fault) e) of
no_reason texts logs r are is (ring.yes others good e, of, may) = absurd cc

pub upgrading_has_one_reply : UpgradingHasOneReply
upgrading_has_one_reply texts a b (upgrade.of_ring logs are is told) (upgrade.of_ring others those ring told') =
    told ∙ sym (subst (λ ls. upgrade.TellsUpgraded ls b) (one_list texts others logs those are) told')
upgrading_has_one_reply texts a b (upgrade.of_ring logs are is told) (upgrade.no_ring r why told') =
    absurd (no_reason texts logs r are is why)
upgrading_has_one_reply texts a b (upgrade.no_ring r why told) (upgrade.of_ring logs are is told') =
    absurd (no_reason texts logs r are is why)
upgrading_has_one_reply texts a b (upgrade.no_ring r why told) (upgrade.no_ring q that told') =
    let same = one_logs_answer texts (answer.No r) (answer.No q) why.0 that.0 in
    told ∙ sym (subst (λ x. Reports x b) (sym same) told')

-- ---- mended logs

one_bool : (x y : Bool) → (IsTrue x → IsTrue y) → (IsTrue y → IsTrue x) → x ≡ y
one_bool true true f g = refl
one_bool true false f g = sym (f refl)
one_bool false true f g = g refl
one_bool false false f g = refl

one_lost : (texts : List (List ℕ)) (xs ys : List Bool) → AllZip SaysLost texts xs → AllZip SaysLost texts ys → xs ≡ ys
one_lost [] [] [] h k = refl
one_lost [] [] (y ∷ ys) h k = absurd k
one_lost [] (x ∷ xs) ys h k = absurd h
one_lost (t ∷ ts) [] ys h k = absurd h
one_lost (t ∷ ts) (x ∷ xs) [] h k = absurd k
one_lost (t ∷ ts) (x ∷ xs) (y ∷ ys) h k =
    ap₂ ◌∷◌ (one_bool x y (λ p. k.0.1 (h.0.0 p)) (λ p. h.0.1 (k.0.0 p))) (one_lost ts xs ys h.1 k.1)

at_greatest : (logs xs : List Log) (h : IsGreatestOf logs xs) (i : ℕ) (d : Log) → i < length xs
    → get_or xs i d ≡ begun (get_or logs i d) (slice_index h.cut i)
at_greatest logs xs h i d l =
    same_Some _ _ (sym (slice_get-get_or xs i d l)
    ∙ h.begun.each i (get_or logs i d) (slice_get-get_or logs i d (omega (arith, l, h.begun.places))))

one_greatest : (logs xs ys : List Log) → IsGreatestOf logs xs → IsGreatestOf logs ys → xs ≡ ys
one_greatest logs xs ys h k = same_lists xs ys (h.begun.places ∙ sym k.begun.places) (λ i d l.
    let within : i < length logs = omega (arith, l, h.begun.places) in
    let low = k.greatest.greatest h.cut h.greatest.consistent i within in
    let high = h.greatest.greatest k.cut k.greatest.consistent i within in
    let same : slice_index h.cut i ≡ slice_index k.cut i = omega (arith, low, high) in
    at_greatest logs xs h i d l ∙ ap (begun (get_or logs i d)) same
    ∙ sym (at_greatest logs ys k i d (omega (arith, within, k.begun.places))))

mended_or_not : (logs kept : List Log) (f : MatchFault) → AreMended logs kept → HasDifference logs f → ⊥
mended_or_not logs kept f h k =
    let same = one_greatest logs kept k.beginnings h.greatest k.greatest in
    unmatched k.beginnings f k.fault (subst Matches same h.matches)

one_difference : (logs : List Log) (f g : MatchFault) → HasDifference logs f → HasDifference logs g → f ≡ g
one_difference logs f g h k =
    let same = one_greatest logs h.beginnings k.beginnings h.greatest k.greatest in
    one_fault k.beginnings f g (subst (λ ls. IsMatchFault ls f) same h.fault) k.fault

one_said : (a b : Reply) (r q : Reason) → r ≡ q → Reports (answer.No r) a → Reports (answer.No q) b → a ≡ b
one_said a b r q same h k = h ∙ sym (subst (λ x. Reports (answer.No x) b) (sym same) k)

pub mending_has_one_reply : MendingHasOneReply
mending_has_one_reply guess texts a b (mended logs kept lost left is says are told)
    (mended others kept' lost' left' is' says' are' told') =
    let logs_are = left_texts_are_one guess texts others logs left' left in
    let there = subst (λ ls. AreMended ls kept') logs_are are' in
    let kept_are = one_greatest logs kept' kept there.greatest are.greatest in
    told ∙ sym (subst (λ ls. TellsMended ls kept lost b) logs_are (subst (λ ks. TellsMended others ks lost b) kept_are
    (subst (λ x. TellsMended others kept' x b) (one_lost texts lost' lost says' says) told')))
mending_has_one_reply guess texts a b (mended logs kept lost left is says are told) (differ others f left' is' differs told') =
    let there = subst (λ ls. HasDifference ls f) (left_texts_are_one guess texts others logs left' left) differs in
    absurd (mended_or_not logs kept f are there)
mending_has_one_reply guess texts a b (differ others f left' is' differs told) (mended logs kept lost left is says are told') =
    let there = subst (λ ls. HasDifference ls f) (left_texts_are_one guess texts others logs left' left) differs in
    absurd (mended_or_not logs kept f are there)
mending_has_one_reply guess texts a b (differ logs f left is differs told) (differ others g left' is' differs' told') =
    let there = subst (λ ls. HasDifference ls g) (left_texts_are_one guess texts others logs left' left) differs' in
    one_said a b (Match f) (Match g) (ap Match (one_difference logs f g differs there)) told told'
mending_has_one_reply guess texts a b (mended logs kept lost left is says are told) (no_ring r why told') =
    absurd (no_reason_against_a_ring guess texts logs r left is why)
mending_has_one_reply guess texts a b (no_ring r why told) (mended logs kept lost left is says are told') =
    absurd (no_reason_against_a_ring guess texts logs r left is why)
mending_has_one_reply guess texts a b (differ logs f left is differs told) (no_ring r why told') =
    absurd (no_reason_against_a_ring guess texts logs r left is why)
mending_has_one_reply guess texts a b (no_ring r why told) (differ logs f left is differs told') =
    absurd (no_reason_against_a_ring guess texts logs r left is why)
mending_has_one_reply guess texts a b (no_ring r why told) (no_ring q that told') =
    one_said a b r q (recorded_reasons_are_one guess texts r q why that) told told'
