use Rattle.std.proofs.Common.{◌∙◌, ◌++◌, ◌∷◌, [], ap, ℕ}
use Rattle.ira_web.proofs.Written.{adds_part, grown}
use Rattle.ira_web.proofs.told.Told.add_out.Goals as goal

pub returns : goal.returns
returns g c =
    let old = c.args.self.now in let wrote = c.in-Ok.ensures in let took = wrote.2.took in
    let size = grown c.bytes-began.result.now c.bytes.result.now old.text.bytes _ wrote.0 c.bytes-began.ensures c.bytes.ensures
    took in (
      wrote.0,
      wrote.1,
      adds_part wrote.0 old (record { text = c.write.new.sink; sizes = c.push.new.self }) took
          (c.in_ok-push.ensures.items ∙ ap (λ (n : ℕ). old.sizes.items ++ n ∷ []) size),
    )
