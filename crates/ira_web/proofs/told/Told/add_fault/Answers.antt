use Rattle.std.proofs.Common.{◌∙◌, ◌++◌, ◌∷◌, [], ap, ℕ}
use Rattle.ira_commands.specs.CommandFault.{command_fault_text}
use Rattle.ira_web.proofs.Written.{adds_part, grown}
use Rattle.ira_web.proofs.told.Told.add_fault.Goals as goal

pub returns : goal.returns
returns g c =
    let old = c.args.self.now in let took = c.in-Ok.ensures.took in let line = command_fault_text c.in-Some.fault in
    let size = grown c.bytes-began.result.now c.bytes.result.now old.text.bytes _ line c.bytes-began.ensures c.bytes.ensures
    took in
    rw c.in-Some.is (adds_part line old (record { text = c.write.new.err; sizes = c.push.new.self }) took
    (c.in_ok-push.ensures.items ∙ ap (λ (n : ℕ). old.sizes.items ++ n ∷ []) size))
