use Rattle.std.proofs.Common.{sym, ◌∙◌}
use Rattle.ira_ask.proofs.Taking.{front_and_rest, no_split, split_part_is, whole_part}
use Rattle.ira_ask.proofs.parts.split_part.Goals as goal

pub returns-in_default : goal.returns-in_default
returns-in_default c = whole_part c.args.text.now (sym c.first_comma.ensures ∙ c.in_default.is)

pub returns-in_err-left : goal.returns-in_err-left
returns-in_err-left c =
    rw c.from_residual.ensures (no_split c.args.text.now c.split_at.result.0.now c.split_at.result.1.now c.in-Some.end
    (sym c.first_comma.ensures ∙ c.in-Some.is) c.split_at.ensures.front
    (front_and_rest c.args.text.now _ _ c.in-Some.end c.split_at.ensures.front c.split_at.ensures.back)
    c.in_err-left.ensures)

pub returns : goal.returns
returns c =
    split_part_is c.args.text.now c.split_at.result.0.now c.split_at.result.1.now c.in_ok-left.left.now c.in-Some.end
    (sym c.first_comma.ensures ∙ c.in-Some.is) c.split_at.ensures.front
    (front_and_rest c.args.text.now _ _ c.in-Some.end c.split_at.ensures.front c.split_at.ensures.back)
    c.in_ok-left.ensures
