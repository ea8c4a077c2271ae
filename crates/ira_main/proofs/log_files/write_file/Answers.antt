use Rattle.std.proofs.Common.{◌≡◌, inl, rules}
use Rattle.ira_main_files.specs.FileName.{log_name}
use Rattle.ira_main_files.specs.Shelf.WritesFile.{closed, stopped, unmade}
use Rattle.ira_main.proofs.log_files.write_file.Goals as goal

pub returns-in_err-file : goal.returns-in_err-file
returns-in_err-file g c =
    let named : c.as_str.result.now ≡ log_name c.args.folder.now c.args.log.now.place = search rules in
    inl (unmade _ (rw named at c.in_err-file.ensures.made) (search rules))

pub returns-in_err-write_log : goal.returns-in_err-write_log
returns-in_err-write_log g c =
    let named : c.as_str.result.now ≡ log_name c.args.folder.now c.args.log.now.place = search rules in
    inl (stopped _ _ (rw named at c.in_ok-file.ensures.made) c.in_err-write_log.ensures (search rules))

pub returns : goal.returns
returns g c =
    let named : c.as_str.result.now ≡ log_name c.args.folder.now c.args.log.now.place = search rules in
    inl (closed _ _ _ (rw named at c.in_ok-file.ensures.made) c.in_ok-write_log.ensures c.close.ensures.closed)
