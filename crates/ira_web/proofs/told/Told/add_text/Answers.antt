use Rattle.ira_web.proofs.Written.{adds_part}
use Rattle.ira_web.proofs.told.Told.add_text.Goals as goal

pub returns : goal.returns
returns g c = adds_part c.args.text.now c.args.self.now (record { text = c.write_bytes.new.sink; sizes = c.push.new.self })
    c.in-Ok.ensures.took c.in_ok-push.ensures.items
