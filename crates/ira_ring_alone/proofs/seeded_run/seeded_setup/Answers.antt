use Rattle.std.proofs.Common.{refl}
use Rattle.ira_ring_alone.proofs.Seeded.{made_seeded}
use Rattle.ira_ring_alone.proofs.seeded_run.seeded_setup.Goals as goal

pub returns : goal.returns
returns g c =
    made_seeded (λ v. v.items) c.args.nodes c.args.seed c.args.k c.args.cap c.args.terms c.args.initiators.now
    c.in_ok-to_vec.field-0.items c.in_ok-draw_lists.field-0.items _ refl
    (c.in_ok-to_vec.ensures.items_if_clones_equal (λ x y h. h)) c.in_ok-draw_lists.ensures.number
    c.in_ok-draw_lists.ensures.lists
