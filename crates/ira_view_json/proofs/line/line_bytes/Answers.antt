use Rattle.std.proofs.Common.{◌≡◌, ◌∙◌, ◌++◌, [], ap, refl, rules, subst, sym}
use Rattle.std.specs.Prelude.{codes}
use Rattle.std.specs.Str.{IsUtf8}
use Rattle.std.proofs.lemmas.Str.{IsUtf8-append}
use Rattle.json.specs.Print.{print}
use Rattle.json.specs.Tree.{json_tokens}
use Rattle.ira_view_page.proofs.Printables.{printable_is_text}
use Rattle.ira_view_json.specs.View.{view}
use Rattle.ira_view_json.proofs.LineTexts.{written_line}
use Rattle.ira_view_json.proofs.line.line_bytes.Goals as goal

pub returns-clause-line : goal.returns-clause-line
returns-clause-line g c =
    let tokens = c.write.new.writer.tokens in
    let value = view c.args.value.now in
    let none : c.write.new.writer.before ≡ [] = search rules in
    written_line value tokens c.push.new.self.items
    (c.in_ok-write.ensures.tokens ∙ ap (λ ts. ts ++ json_tokens value) c.new-writer.ensures.tokens)
    c.into_inner-line.ensures.reads_back
    (c.in_ok-push.ensures.items
    ∙ ap (λ line. line ++ codes "\n") (c.into_inner-line.ensures.items ∙ ap (λ before. before ++ print tokens) none))

pub returns-clause-utf8 : goal.returns-clause-utf8
returns-clause-utf8 g c =
    let text = print c.write.new.writer.tokens in
    let none : c.write.new.writer.before ≡ [] = search rules in
    let line : c.push.new.self.items ≡ text ++ codes "\n" =
    c.in_ok-push.ensures.items
    ∙ ap (λ line. line ++ codes "\n") (c.into_inner-line.ensures.items ∙ ap (λ before. before ++ text) none) in
    subst IsUtf8 (sym line)
    (IsUtf8-append text (codes "\n") c.into_inner-line.ensures.utf8 (printable_is_text (codes "\n") refl))
