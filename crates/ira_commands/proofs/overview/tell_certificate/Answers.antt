use Rattle.std.proofs.Common.{refl}
use Rattle.ira_view.specs.Texts.{texts_of}
use Rattle.ira_commands.proofs.overview.tell_certificate.Goals as goal

pub returns : goal.returns
returns g c = record {
  each = (
    c.in_ok-checked.ensures (texts_of c.args.files.logs.now) c.requires,
    (
      (
        c.args.files,
        c.args.certificate.now,
        (record { names_are = refl; texts_are = refl }, (refl, refl)),
        (refl, refl),
        c.in_ok-explain_certificate.ensures,
      ),
      tt,
    ),
  );
}
