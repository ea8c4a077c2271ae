use Rattle.std.proofs.Common.{◌∙◌}
use Rattle.std.specs.Prelude.{codes}
use Rattle.std.proofs.lemmas.Result.{IfOk-weaker}
use Rattle.ira_view_json.specs.Members.{with_number}
use Rattle.ira_view_json.specs.ShownAnswer.{with_totals}
use Rattle.ira_view_json.proofs.Putting.{◌&◌, given, held, puts_by}
use Rattle.ira_view_json.proofs.moment_answer.shown_value.Goals as goal

pub returns : goal.returns
returns g c =
    let end = c.args.end.now in
    IfOk-weaker c.finish.result _ _ (λ value is. record {
      end = end;
      is_end = c.requires;
      leaders = c.in_ok-leaders.leaders.items;
      are_leaders = c.in_ok-leaders.ensures;
      is = is;
    })
    (given c.finish.result
    (held c.of-object.ensures
    (c.number.ensures
    & puts_by (with_number (codes "nodes")) (c.get.ensures.value ∙ c.size.ensures.value) c.number-2.ensures
    & puts_by (with_totals end) c.deref.ensures.value c.totals.ensures & c.named.ensures & c.moment.ensures
    & c.number-3.ensures & c.words.ensures))
    c.finish.ensures)
