use Rattle.std.proofs.Common.{◌≡◌, ◌≤◌, ◌<◌, ◌∙◌, ap, length, rules, sym}
use Rattle.std.specs.Cmp.Lexicographic.{slice_cmp}
use Rattle.std.specs.Ordering.{nat_cmp}
use Rattle.std.proofs.lemmas.List.{get_or_default}
use Rattle.ira_view_json.specs.View.{members_view}
use Rattle.ira_view_json.proofs.Entries.{put_after, put_before, put_last, put_there}
use Rattle.ira_view_json.proofs.object.put.Goals as goal

pub returns-in-Less : goal.returns-in-Less
returns-in-Less g c =
    let there : c.loop-at.at < length c.loop-at.members.items = search rules in
    ap members_view c.in_ok-insert-in-Less.ensures.items
    ∙ sym (put_before c.args.key c.args.value c.loop-at.members.items c.loop-at.at c.index.result.now
    there c.index.ensures (sym c.in-Less.ensures))
    ∙ c.loop-at.invariant.belongs

pub returns-in-Equal : goal.returns-in-Equal
returns-in-Equal g c =
    let there : c.loop-at.at < length c.loop-at.members.items = search rules in
    let e = c.index_mut.result.now in
    let same : c.index.result.now ≡ e =
    c.index.ensures ∙ get_or_default c.loop-at.members.items c.loop-at.at c.index.result.now e there
    ∙ sym c.index_mut.ensures.value in
    sym (put_there c.args.key c.args.value c.loop-at.members.items c.loop-at.at e there c.index_mut.ensures.value
    (ap (λ x. slice_cmp nat_cmp c.args.key.now x.0.now) (sym same) ∙ sym c.in-Equal.ensures))
    ∙ c.loop-at.invariant.belongs

pub loop-at-preserved : goal.loop-at-preserved
loop-at-preserved g c =
    let there : c.loop-at.at < length c.loop-at.members.items = search rules in
    record {
      same = c.loop-at.invariant.same;
      belongs =
          put_after c.args.key c.args.value c.loop-at.members.items c.loop-at.at c.index.result.now
          there c.index.ensures (sym c.in-Greater.ensures)
          ∙ c.loop-at.invariant.belongs;
    }

pub returns : goal.returns
returns g c =
    let all : length c.loop-at.members.items ≤ c.loop-at.at = search rules in
    ap members_view c.in_ok-push.ensures.items
    ∙ sym (put_last c.args.key c.args.value c.loop-at.members.items c.loop-at.at all)
    ∙ c.loop-at.invariant.belongs
