-- An upgraded log has the candidates of the old one.
use Rattle.std.proofs.Common.{ℕ, List}
use Rattle.ira_event.specs.Log.{Log}
use Rattle.ira_event.specs.Upgrade.{upgraded}
use Rattle.ira_pred.specs.Formula.{Formula}
use Rattle.ira_cand.specs.HoldsAt.{HoldsAt}
use Rattle.ira_cand.specs.Candidates.{AreCandidates}

holds_upgraded : (log : Log) (f : Formula) (p : ℕ) → HoldsAt log f p → HoldsAt (upgraded log) f p
holds_upgraded log f p h =
    record { states = h.states; states_are = h.states_are; state = h.state; at = h.at; holds = h.holds }

held_before : (log : Log) (f : Formula) (p : ℕ) → HoldsAt (upgraded log) f p → HoldsAt log f p
held_before log f p h = record {
  states = h.states;
  states_are = h.states_are;
  state = h.state;
  at = h.at;
  holds = h.holds;
}

pub candidates_upgraded : (log : Log) (f : Formula) (ps : List ℕ) → AreCandidates log f ps
    → AreCandidates (upgraded log) f ps
candidates_upgraded log f ps c = record {
  rising = c.rising;
  members = λ p. (λ h. holds_upgraded log f p ((c.members p).0 h), λ h. (c.members p).1 (held_before log f p h));
}

pub old_candidates : (log : Log) (f : Formula) (ps : List ℕ) → AreCandidates (upgraded log) f ps
    → AreCandidates log f ps
old_candidates log f ps c = record {
  rising = c.rising;
  members = λ p. (λ h. held_before log f p ((c.members p).0 h), λ h. (c.members p).1 (holds_upgraded log f p h));
}
