use Rattle.std.proofs.Common.{◌≡◌, ◌++◌, drop, length}
use Rattle.json.specs.Json.{array, object}
use Rattle.json.specs.Tree.{items_tokens, json_tokens, members_tokens}
use Rattle.ira_view_json.specs.View.{items_view, members_view, view}
use Rattle.ira_view_json.proofs.value.+write.Given as goal

-- how many tokens are written
abbrev pub decreases-Value::write : goal.decreases-Value::write
decreases-Value::write g l = length (json_tokens (view l.self.now))

abbrev pub decreases-write_items : goal.decreases-write_items
decreases-write_items g l = length (items_tokens (items_view l.items.now))

abbrev pub decreases-write_members : goal.decreases-write_members
decreases-write_members g l = length (members_tokens (members_view l.members.now))

-- the tokens so far, and those of what is left, are those of all
abbrev pub invariant-write_items-loop-item : goal.invariant-write_items-loop-item
invariant-write_items-loop-item g l = record {
  tokens :
      l.writer.tokens ++ items_tokens (items_view (drop l.item-index l.items))
      ≡ l.fn.writer.tokens ++ json_tokens (array (items_view l.items));
  before : l.writer.before ≡ l.fn.writer.before;
}

abbrev pub invariant-write_members-loop-member : goal.invariant-write_members-loop-member
invariant-write_members-loop-member g l = record {
  tokens :
      l.writer.tokens ++ members_tokens (members_view (drop l.member-index l.members))
      ≡ l.fn.writer.tokens ++ json_tokens (object (members_view l.members));
  before : l.writer.before ≡ l.fn.writer.before;
}
