use Rattle.std.proofs.Common.{◌≡◌, ℕ, ◌+◌, ◌-◌, List, drop, length, subst, arith}
use Rattle.std.proofs.lemmas.List.{length-drop}
use Rattle.std.specs.Prelude.{IfSome}
use Rattle.ira_view_page.specs.Lines.{IsLastLine}
use Rattle.ira_view_page.proofs.LastLine.{after_last, only_line, where_whole}
use Rattle.ira_view_page.proofs.page.Page.column.Goals as goal

pub returns-in-Some : goal.returns-in-Some
returns-in-Some g c =
    let text = c.deref.result.now in let feed = c.in-Some.feed in let last = c.in-Some.ensures in
    let Ends : List ℕ → Type 0 = λ t. (line : List ℕ) × IsLastLine t line × (c.len.result - feed - 1 ≡ length line) in
    let ends : Ends text = (
      drop (feed + 1) text,
      after_last text feed last.0 last.1 last.2,
      omega (arith, length-drop (feed + 1) text, c.len.ensures, c.deref.ensures.len),
    ) in
    subst (λ self. IfSome self Ends) c.self.view_is
    (where_whole c.self.inside.is_whole c.self.inside.text.items Ends (subst Ends c.deref.ensures.value ends))

pub returns-in-None : goal.returns-in-None
returns-in-None g c =
    let text = c.deref.result.now in
    let Ends : List ℕ → Type 0 = λ t. (line : List ℕ) × IsLastLine t line × (c.len-in-None.result ≡ length line) in
    let ends : Ends text =
    (text, only_line text c.in-None.ensures, omega (arith, c.len-in-None.ensures, c.deref.ensures.len)) in
    subst (λ self. IfSome self Ends) c.self.view_is
    (where_whole c.self.inside.is_whole c.self.inside.text.items Ends (subst Ends c.deref.ensures.value ends))
