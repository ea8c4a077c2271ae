use Rattle.ira_ring_setup.proofs.Setups.{seen_ids}
use Rattle.ira_ring_setup.proofs.setup.Setup.gives_ids.Goals as goal

pub returns : goal.returns
returns g c = seen_ids (λ v. v.items) _ _ _ _ _ _ _ c.self.view_is c.requires
    (rw c.deref.ensures.value at c.give_ids.ensures)
