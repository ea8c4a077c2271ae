use Rattle.std.proofs.Common.{◌∙◌, refl}
use Rattle.ira_view_page.proofs.Adding.{holds}
use Rattle.ira_view_page.proofs.named_text.NamedText.quoted_line.Goals as goal

pub returns-clause-quoted : goal.returns-clause-quoted
returns-clause-quoted g c = record {
  file_is = c.in_ok-from_str.ensures.ok;
  number_is = refl;
  bytes = c.line.result.now;
  bytes_are = c.line.ensures;
  text_is = c.into_string.ensures.text ∙ holds _ c.new-text.ensures c.quote.ensures c.in_ok-finish.ensures;
}
