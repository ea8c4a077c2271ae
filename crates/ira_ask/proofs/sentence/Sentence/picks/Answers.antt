use Rattle.std.proofs.Common.{rules, ◌≡◌, Some, sym, ap, ◌∙◌, subst}
use Rattle.ira_ask.specs.Reading.{Spells, texts}
use Rattle.ira_ask.proofs.Lines.{spelled_alike}
use Rattle.ira_ask.proofs.sentence.Sentence.picks.Goals as goal

pub returns-in-Some-Some : goal.returns-in-Some-Some
returns-in-Some-Some c s h p =
    let same : c.in-Some-Some.any.now ≡ c.in-Some-Some.other.now = search rules in
    spelled_alike c.in-Some-Some.any.now s.any s.other (subst (λ t. Spells t s.any)
    (ap texts c.in-Some-Some.is-0) h.any)
    (subst (λ t. Spells t s.other) (ap texts c.in-Some-Some.is-1 ∙ ap Some (sym same)) h.other)
