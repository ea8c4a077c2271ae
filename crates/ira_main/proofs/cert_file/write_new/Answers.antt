use Rattle.std.proofs.Common.{refl, rules}
use Rattle.ira_main_files.specs.Shelf.MakesFile.{unwritten, written}
use Rattle.ira_main_files.specs.Shelf.WritesFile.{unmade, stopped, closed}
use Rattle.ira_main_files.specs.declared.shelf_fault.ShelfFault.TheVariants.{Device}
use Rattle.ira_main.proofs.cert_file.write_new.Goals as goal

pub returns-in_err-file : goal.returns-in_err-file
returns-in_err-file g c =
    let fault = c.in_err-file.field-0.0 in
    unwritten fault (unmade fault c.in_err-file.ensures.made refl) (search rules)

pub returns-in_err-write_cert : goal.returns-in_err-write_cert
returns-in_err-write_cert g c =
    unwritten Device (stopped _ _ c.in_ok-file.ensures.made c.in_err-write_cert.ensures refl) (search rules)

pub returns-in_err-file-2 : goal.returns-in_err-file-2
returns-in_err-file-2 g c = unwritten _
    (closed _ _ _ c.in_ok-file.ensures.made c.in_ok-write_cert.ensures c.in_err-file-2.ensures.closed) (search rules)

pub returns : goal.returns
returns g c = written _ _
    (closed _ _ _ c.in_ok-file.ensures.made c.in_ok-write_cert.ensures c.in_ok-file-2.ensures.closed)
    c.keep.ensures.kept
