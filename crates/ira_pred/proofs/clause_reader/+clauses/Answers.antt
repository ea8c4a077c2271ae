use Rattle.std.proofs.Common.{◌≡◌, arith}
use Rattle.ira_pred.specs.ClauseScan.{atom_at, clause_at}
use Rattle.ira_pred.proofs.ClauseTexts.{clause_at_zero, clause_at_flat, clause_at_negated, clause_at_joined}
use Rattle.ira_pred.proofs.clause_reader.+clauses.Goals as goal
use Rattle.ira_pred.proofs.clause_reader.+clauses.Goals.{scan_clause-then-depth-gt0+in_default+in_default-skip_word}
use Rattle.ira_pred.proofs.clause_reader.+clauses.Goals.{scan_clause-else-depth-gt0}

pub scan_clause-returns-in-Some : goal.scan_clause-returns-in-Some
scan_clause-returns-in-Some g t c =
    rw (clause_at_negated c.args.depth c.args.text.now c.in-Some.rest.now c.if-depth-gt0.true c.in-Some.ensures)
    c.scan_negated.ensures

pub scan_clause-returns-in-Some-skip_word : goal.scan_clause-returns-in-Some-skip_word
scan_clause-returns-in-Some-skip_word g t c =
    rw (clause_at_joined c.args.depth c.args.text.now c.in-Some-skip_word.rest.now c.if-depth-gt0.true
    c.in_default.ensures c.in-Some-skip_word.ensures) c.scan_joined.ensures

pub scan_clause-returns : goal.scan_clause-returns
scan_clause-returns g t c =
    let flat : clause_at c.args.depth c.args.text.now ≡ atom_at c.args.text.now =
    elim c.if-depth-gt0.branch [
      | scan_clause-then-depth-gt0+in_default+in_default-skip_word w ↦
          clause_at_flat c.args.depth c.args.text.now w.in_default.ensures w.in_default-skip_word.ensures
      | scan_clause-else-depth-gt0 w ↦ clause_at_zero c.args.depth c.args.text.now (omega (arith, w.if-depth-gt0.false))
    ] in
    rw flat c.scan_atom.ensures
