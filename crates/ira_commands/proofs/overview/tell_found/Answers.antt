use Rattle.std.proofs.Common.{refl}
use Rattle.ira_view.specs.Texts.{texts_of}
use Rattle.ira_commands.proofs.overview.tell_found.Goals as goal

pub returns : goal.returns
returns g c = λ certificate. record {
  each = (
    c.in_ok-decided.ensures (texts_of c.args.files.logs.now) c.requires,
    ((c.args.files, (record { names_are = refl; texts_are = refl }, (refl, refl)), c.in_ok-explain_asked.ensures), tt),
  );
}
