use Rattle.std.proofs.Common.{◌≡◌, ◌∙◌, ◌+◌, ◌<◌, ◌∷◌, [], ◌++◌, OnOk, ap, append_assoc, arith, drop, length}
use Rattle.std.proofs.Common.{rules, subst, sym}
use Rattle.ira_event.proofs.Rest.{drop-at}
use Rattle.json.specs.Json.{object}
use Rattle.json.specs.Token.{key}
use Rattle.json.specs.Tree.{items_tokens, json_tokens, members_tokens}
use Rattle.ira_view_json.specs.View.{items_view, members_view, view}
use Rattle.ira_view_json.proofs.Views.{item_smaller, member_smaller, view-Object}
use Rattle.ira_view_json.proofs.value.+write.Goals as goal

pub Value::write-write_members-requires : goal.Value::write-write_members-requires
Value::write-write_members-requires g t c =
    let is : view c.args.self.now ≡ object (members_view c.deref-in-Object.result.now) =
    ap view c.in-Object.is ∙ view-Object c.in-Object.members
    ∙ ap (λ ms. object (members_view ms)) (sym c.deref-in-Object.ensures.value) in
    let smaller : length (members_tokens (members_view c.deref-in-Object.result.now))
    < length (json_tokens (view c.args.self.now)) = omega (arith, ap (λ j. length (json_tokens j)) is) in
    search rules

pub Value::write-returns-in-Object-clause-tokens :
    goal.Value::write-returns-in-Object-clause-tokens
Value::write-returns-in-Object-clause-tokens g t c =
    let is : view c.args.self.now ≡ object (members_view c.deref-in-Object.result.now) =
    ap view c.in-Object.is ∙ view-Object c.in-Object.members
    ∙ ap (λ ms. object (members_view ms)) (sym c.deref-in-Object.ensures.value) in
    subst
    (λ j. OnOk c.write_members.result (c.write_members.new.writer.tokens ≡ c.args.writer.now.tokens ++ json_tokens j))
    (sym is) c.write_members.ensures.tokens

pub write_items-write-requires : goal.write_items-write-requires
write_items-write-requires g t c =
    let xs = c.args.items.now in
    let x = c.item-item.result in
    let smaller : length (json_tokens (view x)) < length (items_tokens (items_view xs)) =
    subst (λ y. length (json_tokens (view y)) < length (items_tokens (items_view xs))) (sym c.item-item.is)
    (item_smaller xs c.loop-item.item-index x c.loop-item-test.true) in
    search rules

pub write_members-write-requires : goal.write_members-write-requires
write_members-write-requires g t c =
    let xs = c.args.members.now in
    let x = c.member-item.result in
    let smaller : length (json_tokens (view x.1)) < length (members_tokens (members_view xs)) =
    subst (λ y. length (json_tokens (view y.1)) < length (members_tokens (members_view xs))) (sym c.member-item.is)
    (member_smaller xs c.loop-member.member-index x c.loop-member-test.true) in
    search rules

pub write_members-loop-member-preserved : goal.write_members-loop-member-preserved
write_members-loop-member-preserved g t c =
    let l = c.loop-member in
    let xs = c.args.members.now in
    let x = c.member-item.result in
    let later = members_view (drop (l.member-index + 1) xs) in
    let left = ap (λ ys. members_tokens (members_view ys))
    (drop-at xs l.member-index x x c.loop-member-test.true c.member-item.is) in
    let mine = json_tokens (view x.1) in
    record {
      tokens =
          ap (λ ts. ts ++ members_tokens later)
          (c.in_ok-write.ensures.tokens ∙ ap (λ ts. ts ++ mine) c.in_ok-key.ensures.ok)
          ∙ append_assoc _ mine _ ∙ append_assoc l.writer.tokens (key x.0.now ∷ []) _
          ∙ ap (λ ts. l.writer.tokens ++ ts) (sym left) ∙ l.invariant.tokens;
      before = c.in_ok-write.ensures.before ∙ c.in_ok-key.ensures.room.0 ∙ l.invariant.before;
    }
