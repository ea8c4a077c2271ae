-- What is left of logs that break off.
use Rattle.std.proofs.Common.{◌≡◌, ◌∙◌, ℕ, List, Err, Result, length}
use Rattle.std.proofs.lemmas.List.{length-map}
use Rattle.ira_event.specs.Log.{Log}
use Rattle.ira_mend.proofs.RecordedTexts.{left_length}
use Rattle.ira_audit.specs.Refusal.{MatchRefusal}
use Rattle.ira_audit.specs.declared.reason.Reason.{Reason}
use Rattle.ira_audit.specs.declared.refusal.Refusal.{Refusal}
use Rattle.ira_audit.specs.declared.refusal.Refusal.TheVariants.{No, OutOfMemory}
use Rattle.ira_view_page.specs.declared.named_text.NamedText.{NamedText}
use Rattle.ira_view.specs.Texts.{texts_of}
use Rattle.ira_commands.specs.Begun.{AreBegunLogs}

-- as many logs begin as there are files
pub begun_length : (files : List NamedText) (begun : List Log) → AreBegunLogs (texts_of files) begun
    → length begun ≡ length files
begun_length files begun h =
    h.greatest.begun.places ∙ left_length 0 _ _ (texts_of files) h.logs h.left.each
    ∙ length-map files (λ (f : NamedText). f.text.now)

-- a refusal is one of whatever value
pub refused_too : {T U : Type 0} (r : Refusal) (P : T → Type 0) (P' : U → Type 0) (Q : Reason → Type 0)
    → MatchRefusal {T = T} (Err r) P Q → MatchRefusal {T = U} (Err r) P' Q
refused_too (No reason) P P' Q h = h
refused_too OutOfMemory P P' Q h = h
