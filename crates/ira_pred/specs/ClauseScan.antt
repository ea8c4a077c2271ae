-- Helpers, no definitions: how a clause is scanned from the front. The grammar doesn't rest on it, and
-- proofs tie both.
use Rattle.std.specs.Option.{option_map}
use Rattle.std.specs.Prelude.{ℕ, zero, suc, Bool, true, false, List, Option, Some, None, codes, nat_le, if◌then◌else◌}
use Rattle.ira_pred.specs.Limits.{MAX_NUMBER}
use Rattle.ira_event.specs.Scan.{kept_at, after_word, ◌>>=◌, then_or}
use Rattle.ira_pred.specs.declared.rel.Rel.{Rel}
use Rattle.ira_pred.specs.declared.rel.Rel.TheVariants.{Less, Equal, Greater}
use Rattle.ira_pred.specs.Formula.{Formula, always, leader, active, passive, choosing, yielding, owes, round, id, term}
use Rattle.ira_pred.specs.Formula.{both, either, negated}

-- the sign of a comparison and the space after it, and what follows them
abbrev pub rel_at : List ℕ → Option (Rel × List ℕ)
rel_at text =
    then_or (after_word (codes "< ") text) (λ r. Some (Less, r))
    (then_or (after_word (codes "= ") text) (λ r. Some (Equal, r))
    (then_or (after_word (codes "> ") text) (λ r. Some (Greater, r)) None))

-- a number that an atom may hold, and what follows it
abbrev pub limited_at : List ℕ → Option (ℕ × List ℕ)
limited_at text = kept_at text >>= (λ n. if nat_le n.0 MAX_NUMBER then Some n else None)

-- a comparison, put into a formula, and what follows it
abbrev pub comparison_at : (Rel → ℕ → Formula) → List ℕ → Option (Formula × List ℕ)
comparison_at f text = rel_at text >>= (λ rel. option_map (λ n. (f rel.0 n.0, n.1)) (limited_at rel.1))

-- a clause without parentheses, and what follows it
abbrev pub atom_at : List ℕ → Option (Formula × List ℕ)
atom_at text =
    then_or (after_word (codes "true") text) (λ r. Some (always, r))
    (then_or (after_word (codes "leader") text) (λ r. Some (leader, r))
    (then_or (after_word (codes "active") text) (λ r. Some (active, r))
    (then_or (after_word (codes "passive") text) (λ r. Some (passive, r))
    (then_or (after_word (codes "choosing") text) (λ r. Some (choosing, r))
    (then_or (after_word (codes "yielding") text) (λ r. Some (yielding, r))
    (then_or (after_word (codes "owes") text) (λ r. Some (owes, r))
    (then_or (after_word (codes "round ") text) (comparison_at round)
    (then_or (after_word (codes "id ") text) (comparison_at id)
    (then_or (after_word (codes "term ") text) (comparison_at term) None)))))))))

-- the word between two clauses, true for `and`, and what follows it
abbrev pub joint_at : List ℕ → Option (Bool × List ℕ)
joint_at text =
    then_or (after_word (codes " and ") text) (λ r. Some (true, r))
    (then_or (after_word (codes " or ") text) (λ r. Some (false, r)) None)

-- two formulas with the word between them
abbrev pub joined : Bool → Formula → Formula → Formula
joined true a b = both a b
joined false a b = either a b

-- what stands after `(not `, scanned by `inner`, its `)`, and what follows it
abbrev pub negated_at : (List ℕ → Option (Formula × List ℕ)) → List ℕ → Option (Formula × List ℕ)
negated_at inner text = inner text >>= (λ a. option_map (λ r. (negated a.0, r)) (after_word (codes ")") a.1))

-- what stands after `(`: two clauses scanned by `inner`, the word between them, the `)`, and what follows it
abbrev pub joined_at : (List ℕ → Option (Formula × List ℕ)) → List ℕ → Option (Formula × List ℕ)
joined_at inner text =
    inner text >>= (λ a. joint_at a.1 >>= (λ w.
    inner w.1 >>= (λ b. option_map (λ r. (joined w.0 a.0 b.0, r)) (after_word (codes ")") b.1))))

-- a clause that is nested no deeper than this, and what follows it
abbrev pub clause_at : ℕ → List ℕ → Option (Formula × List ℕ)
clause_at zero text = atom_at text
clause_at (suc d) text =
    then_or (after_word (codes "(not ") text) (negated_at (clause_at d))
    (then_or (after_word (codes "(") text) (joined_at (clause_at d)) (atom_at text))
