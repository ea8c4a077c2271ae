use Rattle.std.proofs.Common.{rules}
use Rattle.ira_par.proofs.CaseTables.{tables_if_found, below_if_found}
use Rattle.ira_par.proofs.tables.profiled_tables.Goals as goal

pub returns-clause-tables : goal.returns-clause-tables
returns-clause-tables g c =
    tables_if_found c.args.profiles.now c.args.case.now _ (λ n table found. search rules) (λ all.
    all.items) c.find_all.result c.find_all.ensures.count c.find_all.ensures.each

pub returns-clause-places : goal.returns-clause-places
returns-clause-places g c =
    below_if_found c.args.profiles.now c.args.case.now _ (λ n table found. search rules) (λ all.
    all.items) c.find_all.result c.requires.places c.find_all.ensures.each
