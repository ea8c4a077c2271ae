use Rattle.std.specs.Prelude.{List, codes, ℕ}
use Rattle.ira_view_json.specs.Members.{naturals, put}
use Rattle.ira_view_json.proofs.Putting.{◌&◌, known, puts_by}
use Rattle.ira_view_json.proofs.object.Object.moment.Goals as goal

pub returns-in-AtCut : goal.returns-in-AtCut
returns-in-AtCut g c =
    rw c.in-AtCut.is (puts_by (λ (cut : List ℕ). put (codes "cut") (naturals cut)) c.deref.ensures.value
    (known _ c.list_value.ensures c.value.ensures))

pub returns-in-OfCase : goal.returns-in-OfCase
returns-in-OfCase g c =
    rw c.in-OfCase.is (c.number.ensures & puts_by (λ (cut : List ℕ). put (codes "cut") (naturals cut))
    c.deref-in-OfCase.ensures.value (known _ c.list_value-in-OfCase.ensures c.value-in-OfCase.ensures))
