use Rattle.std.proofs.Common.{◌≡◌, map, take}
use Rattle.ira_event.specs.Sink.{Memory}
use Rattle.ira_view_page.specs.declared.named_text.NamedText.{NamedText}
use Rattle.ira_commands.proofs.begun.name_texts.Given as goal

abbrev pub invariant-loop-place : goal.invariant-loop-place
invariant-loop-place g l = record {
  names : map (λ (f : NamedText). f.name.now) l.named.items ≡ map (λ (f : NamedText). f.name.now) (take l.place l.files);
  texts : map (λ (f : NamedText). f.text.now) l.named.items ≡ map (λ (m : Memory). m.bytes) (take l.place l.texts);
}
