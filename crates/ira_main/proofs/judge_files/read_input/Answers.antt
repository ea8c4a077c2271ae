use Rattle.std.proofs.Common.{rules}
use Rattle.ira_main.proofs.GivenFiles.{input_failed}
use Rattle.ira_main.proofs.judge_files.read_input.Goals as goal

pub returns-in-Ok-clause-text : goal.returns-in-Ok-clause-text
returns-in-Ok-clause-text g c = c.in-Ok.ensures.text

pub returns-in_ok-given-in-Err-clause-text : goal.returns-in_ok-given-in-Err-clause-text
returns-in_ok-given-in-Err-clause-text g c =
    let failed = input_failed c.fill.result c.in-Err.field-0 c.in-Err.is (search rules) c.fill.ensures.device
    c.fill.ensures.found in (failed.0, failed.1, search rules)
