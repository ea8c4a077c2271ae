use Rattle.std.proofs.Common.{Err, ap, refl}
use Rattle.ira_main.specs.CertFile.KeepsCertificate.{kept, unwritten}
use Rattle.ira_main.proofs.cert_file.keep.Goals as goal

pub returns-in-Ok : goal.returns-in-Ok
returns-in-Ok g c = kept (c.if-not-readable.ensures.0 refl) c.in-Ok.ensures refl

pub returns-in-Err : goal.returns-in-Err
returns-in-Err g c = unwritten _ (c.if-not-readable.ensures.0 refl) c.in-Err.ensures
    (ap (λ x. Err x) c.cannot_write.ensures)
