use Rattle.std.proofs.Common.{◌≡◌, drop, take}
use Rattle.ira_view_json.specs.Members.{put}
use Rattle.ira_view_json.specs.View.{members_view, view}
use Rattle.ira_view_json.proofs.Entries.{onto}
use Rattle.ira_view_json.proofs.object.put.Given as goal

-- the value belongs after the entries so far
abbrev pub invariant-loop-at : goal.invariant-loop-at
invariant-loop-at g l =
    let entries = l.members.items in
    record {
      same : l.members ≡ l.fn.members;
      belongs :
          onto (take l.at entries) (put l.key (view l.value) (members_view (drop l.at entries)))
          ≡ put l.key (view l.value) (members_view l.fn.members.items);
    }
