use Rattle.ira_main.proofs.cert_file.keep_cert.Goals as goal

pub returns : goal.returns
returns g c = (
  c.keep-outcome.result,
  c.keep-outcome.ensures,
  c.report_outcome.ensures.number,
  c.report_outcome.ensures.reported,
)
