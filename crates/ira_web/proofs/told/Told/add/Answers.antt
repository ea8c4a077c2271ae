use Rattle.std.proofs.Common.{◌+◌, ◌∷◌, [], arith, refl}
use Rattle.ira_commands.proofs.Served.{if_ok}
use Rattle.ira_commands.specs.Reply.{fault_text, file_texts}
use Rattle.ira_web.specs.declared.told.Told.{Told}
use Rattle.ira_web.proofs.Written.{adds_both, adds_reply}
use Rattle.ira_web.proofs.told.Told.add.Goals as goal

pub overflow_add-count : goal.overflow_add-count
overflow_add-count g c = omega (arith, c.count.ensures.bound)

pub returns : goal.returns
returns g c =
    let reply = c.args.reply.now in let out = rw c.out.ensures at c.in_ok-add_out.ensures in
    let fault = fault_text reply.fault in let files = file_texts reply.files in
    let begun : Told _ = record { text = c.args.self.now.text; sizes = c.push.new.self } in
    let line = rw c.fault.ensures at c.in_ok-add_fault.ensures in
    let number = rw c.files-files.ensures at c.count.ensures.number in
    if_ok c.add_files.result (λ _ added.
    let two = adds_both (out.0 ∷ []) (fault ∷ []) begun c.add_out.new.self c.add_fault.new.self out.2 line in
    let all = adds_both (out.0 ∷ fault ∷ []) files begun c.add_fault.new.self c.add_files.new.self two added in (
      out.0 ∷ fault ∷ files,
      (out.0, out.1, refl),
      adds_reply (2 + c.count.result) (out.0 ∷ fault ∷ files) c.args.self.now begun c.add_files.new.self (omega (arith, number)) refl c.in_ok-push.ensures.items all,
    )) (rw c.files-files.ensures at c.add_files.ensures)
