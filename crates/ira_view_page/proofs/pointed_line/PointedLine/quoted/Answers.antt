use Rattle.std.proofs.Common.{◌∙◌, ap, refl, sym}
use Rattle.ira_view_page.proofs.Adding.{holds}
use Rattle.ira_view_page.specs.declared.pointed_line.PointedLine.{PointedLine}
use Rattle.ira_view_page.proofs.pointed_line.PointedLine.quoted.Goals as goal

pub returns : goal.returns
returns g c =
    let quoted = c.in_ok-line.ensures.quoted in
    rw (← c.self.view_is) (record {
      quoted = record {
        file_is = quoted.file_is;
        number_is = quoted.number_is;
        bytes = quoted.bytes;
        bytes_are = quoted.bytes_are;
        text_is = quoted.text_is;
      };
      carets = _;
      carets_are = refl;
      byte = c.saturating_add.ensures;
      remark = refl;
      words_are = c.into_string.ensures.text ∙ holds _ c.new-words.ensures c.print.ensures c.in_ok-finish.ensures
          ∙ ap (λ (p : PointedLine). p.beside.text) (sym c.self.view_is);
    })
