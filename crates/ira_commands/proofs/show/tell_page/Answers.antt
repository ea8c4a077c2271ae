use Rattle.std.proofs.Common.{◌∙◌, ◌++◌, List, ap, append_assoc, ℕ}
use Rattle.ira_view.specs.ShownRing.{IsPageOf}
use Rattle.ira_commands.proofs.Outputs.{front, lines_after}
use Rattle.ira_commands.specs.Reply.{printed}
use Rattle.ira_commands.proofs.show.tell_page.Goals as goal

pub returns : goal.returns
returns g c =
    let d = c.args.differences.now in
    let page = c.in_ok-page.page in
    let before = c.args.text.bytes in
    let begin = c.in-Ok.ensures.took ∙ ap (λ (b : List ℕ). before ++ front b) c.bytes.ensures.text in
    let text = c.in-Ok-write.ensures.text.took ∙ ap (λ (b : List ℕ). b ++ page) begin
    ∙ append_assoc before (front d) page in (
      _,
      (
        front d ++ page,
        lines_after d (IsPageOf c.args.ring.now) page c.bytes.ensures.printable c.in_ok-page.ensures
            c.in-Ok-write.ensures.printable,
        text,
      ),
      c.printed.ensures,
    )
