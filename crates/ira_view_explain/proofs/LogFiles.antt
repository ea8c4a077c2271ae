-- Files that have logs, and what is answered where they don't.
use Rattle.std.proofs.Common.{◌≡◌, ◌∙◌, ℕ, zero, suc, List, [], ◌∷◌, None, Some, ap, map, inl, inr, refl, subst, sym}
use Rattle.std.specs.Prelude.{option_map, slice_get}
use Rattle.std.proofs.lemmas.Option.{slice_get-map}
use Rattle.ira_event.proofs.LogAnswers.{log_or_fault}
use Rattle.ira_event.specs.declared.log_fault.LogFault.{LogFault}
use Rattle.ira_event.specs.Log.{Log}
use Rattle.ira_event.specs.LogText.{IsLogText}
use Rattle.ira_event.specs.LogTextFault.{LogTextFault, OpeningFault, no_head}
use Rattle.ira_audit.specs.declared.answer.Answer.{Answer}
use Rattle.ira_audit.specs.declared.answer.Answer.TheVariants.{No}
use Rattle.ira_audit.specs.declared.reason.Reason.TheVariants as reason
use Rattle.ira_audit.specs.LogTexts.{AreLogTexts, IsFirstTextFault}
use Rattle.ira_audit.specs.RingAnswer.{IsRingAnswer, circled, no_log, no_ring, stopped, unmatched, yes}
use Rattle.ira_view_page.specs.declared.named_text.NamedText.{NamedText}
use Rattle.ira_view_explain.specs.HeadsTold.{AreLogFiles}

-- the text of each is a log's
log_of_file : (files : List NamedText) (logs : List Log) (i : ℕ) (file : NamedText)
    → AreLogTexts (map (λ (f : NamedText). f.text.now) files) logs → slice_get files i ≡ Some file
    → (log : Log) × IsLogText file.text.now log
log_of_file [] logs i file are at = absurd cc
log_of_file (f ∷ fs) [] i file are at = absurd are
log_of_file (f ∷ fs) (l ∷ ls) zero file are at =
    (let same : f ≡ file = cc in (l, subst (λ (x : NamedText). IsLogText x.text.now l) same are.0))
log_of_file (f ∷ fs) (l ∷ ls) (suc i) file are at = log_of_file fs ls i file are.1 at

-- so it can be opened
pub opened : (files : List NamedText) (i : ℕ) (file : NamedText) (f : LogFault) → AreLogFiles files
    → slice_get files i ≡ Some file → ¬ (OpeningFault file.text.now f)
opened files i file f are at fault =
    let log = log_of_file files are.0 i file are.1 at in
    log_or_fault file.text.now log.0 f log.1 (fault_of fault)
  where
    fault_of : OpeningFault file.text.now f → LogTextFault file.text.now f
    fault_of (inl long) = inl long
    fault_of (inr short) = inr (short.0, no_head short.1 short.2)

-- a text that is no log's is the text of a file
text_fault : (texts : List (List ℕ)) (number : ℕ) (f : LogFault) (a : Answer) → a ≡ No (reason.Log number f)
    → IsRingAnswer texts a → IsFirstTextFault texts number f
text_fault texts number f a is (no_log m g first e) =
    let same : No (reason.Log m g) ≡ No (reason.Log number f) = sym e ∙ is in
    let m_is : m ≡ number = cc in
    let g_is : g ≡ f = cc in
    subst (λ (k : ℕ). IsFirstTextFault texts k f) m_is (subst (λ (h : LogFault). IsFirstTextFault texts m h) g_is first)
text_fault texts number f a is (no_ring logs g are h e) = absurd cc
text_fault texts number f a is (unmatched logs g are ring h e) = absurd cc
text_fault texts number f a is (circled logs are ring h e) = absurd cc
text_fault texts number f a is (stopped logs p g are ring o h e) = absurd cc
text_fault texts number f a is (yes logs good e) = absurd cc

pub file_there : (files : List NamedText) (number : ℕ) (f : LogFault)
    → IsRingAnswer (map (λ (x : NamedText). x.text.now) files) (No (reason.Log number f))
    → slice_get files number ≡ None → ⊥
file_there files number f answer missing =
    let first = text_fault (map (λ (x : NamedText). x.text.now) files) number f _ refl answer in
    let none : slice_get (map (λ (x : NamedText). x.text.now) files) number ≡ None =
    slice_get-map (λ (x : NamedText). x.text.now) files number ∙ ap (option_map _) missing in
    let there : slice_get (map (λ (x : NamedText). x.text.now) files) number ≡ Some first.text = first.at in
    absurd cc

-- and the fault is that of its text
pub file_fault : (files : List NamedText) (number : ℕ) (f : LogFault) (file : NamedText)
    → IsRingAnswer (map (λ (x : NamedText). x.text.now) files) (No (reason.Log number f))
    → slice_get files number ≡ Some file → LogTextFault file.text.now f
file_fault files number f file answer at =
    let first = text_fault (map (λ (x : NamedText). x.text.now) files) number f _ refl answer in
    let there : slice_get (map (λ (x : NamedText). x.text.now) files) number ≡ Some file.text.now =
    slice_get-map (λ (x : NamedText). x.text.now) files number ∙ ap (option_map _) at in
    let same : first.text ≡ file.text.now = (let found = first.at in cc) in
    subst (λ (text : List ℕ). LogTextFault text f) same first.fault
