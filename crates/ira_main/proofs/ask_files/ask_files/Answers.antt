use Rattle.ira_main.proofs.ask_files.ask_files.Goals as goal

pub returns-in_ok-ask_sentence-in-Ok : goal.returns-in_ok-ask_sentence-in-Ok
returns-in_ok-ask_sentence-in-Ok g c = (
  c.in-Ok.nodes,
  rw c.in-Ok.is at c.in_ok-nodes.ensures,
  rw c.as_bytes.ensures.value at c.in_ok-ask_sentence-in-Ok.ensures,
)
