use Rattle.std.proofs.Common.{◌≡◌, ◌==◌, ◌∙◌, [], ap, Bool, inl, inr, length, List, MatchBool, not, subst, ℕ}
use Rattle.std.proofs.lemmas.Bool.Decides.{eqb_tells}
use Rattle.std.proofs.lemmas.List.{nil_from_length}
use Rattle.ira_event.specs.Log.{Log}
use Rattle.ira_commands.specs.Expected.{LeadOthers}
use Rattle.ira_commands.specs.RingLeaders.{AreDifferencesOf}
use Rattle.ira_commands.specs.declared.ring_leaders.RingLeaders.{RingLeaders}
use Rattle.ira_commands.proofs.expected.Expected.lead_others.Goals as goal

-- others lead just where there are lines
others_by : (logs : List Log) (leaders : RingLeaders) (lines : List ℕ) (none : Bool) → none ≡ (length lines == 0)
    → AreDifferencesOf logs leaders lines
    → MatchBool (not none) (LeadOthers logs leaders) (AreDifferencesOf logs leaders [])
others_by logs leaders lines none is are = elim (eqb_tells (length lines) 0) [
  | inl (t, same) ↦ rw (is ∙ t) (subst (AreDifferencesOf logs leaders) (nil_from_length lines same) are)
  | inr (f, other) ↦ rw (is ∙ f) (inl (lines, are, λ none. other (ap length none)))
]

pub returns-in-Some : goal.returns-in-Some
returns-in-Some g c =
    others_by c.args.logs.now c.args.self.now.leaders _ c.is_empty.result (rw c.bytes.ensures.text at c.is_empty.ensures)
    (rw c.in-Some.is at c.in_ok-lines.ensures)

pub returns-in-None : goal.returns-in-None
returns-in-None g c = inr (rw c.in-None.is at c.in_ok-lines.ensures)
