use Rattle.ira_mend.proofs.MendedRuns.{cuts_kept, dont_differ, pasts_kept}
use Rattle.ira_mend.proofs.laws.mending_keeps_whole_pasts.Goals as goal

pub returns-clause-pasts : goal.returns-clause-pasts
returns-clause-pasts c = λ whole left mended cut matches are is. pasts_kept whole left mended cut are is matches

pub returns-clause-cuts : goal.returns-clause-cuts
returns-clause-cuts c = λ whole left mended cut matches consistent are is.
    cuts_kept whole left mended cut are is matches consistent

pub returns-clause-differ : goal.returns-clause-differ
returns-clause-differ c = dont_differ
