-- The worked logs of two nodes.
use Rattle.std.proofs.Common.{◌≡◌, ℕ, zero, suc, ◌<◌, ◌≤◌, inr, Bool, true, false, Some, List, [], ◌∷◌, ◌++◌, length}
use Rattle.std.proofs.Common.{refl, subst, arith, lit≤, lit<}
use Rattle.std.specs.Prelude.{slice_get}
use Rattle.std.specs.List.{list_all}
use Rattle.ira_event.specs.declared.msg.Msg.{Msg}
use Rattle.ira_event.specs.declared.load.Load.TheVariants.{Reset}
use Rattle.ira_event.specs.declared.event.Event.{Event}
use Rattle.ira_event.specs.Event.{is_event, is_of_version}
use Rattle.ira_event.specs.Log.{Log, IsLog}
use Rattle.ira_event.specs.Logs.{AreLogs, EachLog}
use Rattle.ira_event.specs.Version.{IsVersion}
use Rattle.ira_node.specs.declared.node_state.NodeState.{NodeState}
use Rattle.ira_node.specs.declared.phase.Phase.TheVariants.{Choosing, Active, Passive, Leader, Yielding}
use Rattle.ira_node.specs.NodeState.{free, owing}
use Rattle.ira_node.specs.NodeStep.{sends, draws, passes, gives_in, purges, wins, yields, restarts, comes_home}
use Rattle.ira_order.specs.Matching.{Matches}
use Rattle.ira_replay.specs.LocalRun.{LeadsTo, IsLocalRun}
use Rattle.ira_safety.specs.OneLeader.{Leads}
use Rattle.ira_safety.specs.TwoNodes.{hopped, elected, passing, giving_in, winning, log_of_two, one_elected}
use Rattle.ira_safety.specs.TwoNodes.{both_elected, elected_in_turn, OneMayLead, TwoMayLeadUnmatched, TwoMayLeadInTurn}

-- ---- two logs

pub both : (a b : Log) (P : ℕ → Log → Type 0) → P 0 a → P 1 b → EachLog (a ∷ b ∷ []) P
both a b P p q zero log at = (let same : a ≡ log = cc in subst (P 0) same p)
both a b P p q (suc zero) log at = (let same : b ≡ log = cc in subst (P 1) same q)
both a b P p q (suc (suc i)) log at = cc

is_log : (version place : ℕ) (initiator : Bool) (events : List Event) → IsVersion version → place < 2
    → length events ≤ 10 → list_all is_event events ≡ true → list_all (is_of_version version) events ≡ true
    → IsLog (log_of_two version place initiator events)
is_log version place initiator events known low few numbers held = record {
  version = known;
  size = (lit≤ tt, lit≤ tt);
  fits = λ _. omega arith;
  place = low;
  count = omega arith;
  numbers = numbers;
  held = held;
}

are_logs : (version : ℕ) (start other : Bool) (first second : List Event) → IsLog (log_of_two version 0 start first)
    → IsLog (log_of_two version 1 other second)
    → AreLogs (log_of_two version 0 start first ∷ log_of_two version 1 other second ∷ [])
are_logs version start other first second p q =
    let a = log_of_two version 0 start first in
    let b = log_of_two version 1 other second in
    record {
      ring = (lit≤ tt, lit≤ tt);
      sizes = both a b (λ i log. log.nodes ≡ 2) refl refl;
      places = both a b (λ i log. log.place ≡ i) refl refl;
      valid = both a b (λ i log. IsLog log) p q;
      version = version;
      versions = both a b (λ i log. log.version ≡ version) refl refl;
    }

-- ---- their steps

abbrev clean : ℕ → ℕ → Msg
clean id hop = record { round = 1; id = id; hop = hop; dirty = false }

elected_leads : LeadsTo 2 (free 1 (Choosing 1)) elected (free 1 (Leader 1 1))
elected_leads = (
  owing 1 (Active 1 1) (hopped 1 1),
  draws 1 1 1 refl refl (lit≤ tt) (lit≤ tt) refl,
  (
    free 1 (Active 1 1),
    sends (hopped 1 1) (λ l. l) refl refl refl,
    (free 1 (Leader 1 1), wins 1 1 1 (clean 1 2) refl refl (refl, refl) refl refl refl, refl),
  ),
)

passing_leads : LeadsTo 2 (free 1 Passive) passing (free 1 Passive)
passing_leads = (
  owing 1 Passive (hopped 1 2),
  passes 1 (clean 1 1) refl refl (lit< tt) refl,
  (free 1 Passive, sends (hopped 1 2) (λ l. l) refl refl refl, refl),
)

on : (n : ℕ) (s : NodeState) (first rest : List Event) (t u : NodeState) → LeadsTo n s first t → LeadsTo n t rest u
    → LeadsTo n s (first ++ rest) u
on n s [] rest t u h k = subst (λ x. LeadsTo n x rest u) h k
on n s (e ∷ es) rest t u h k = (h.0, h.1, on n h.0 es rest t u h.2 k)

giving_in_leads : LeadsTo 2 (free 1 (Choosing 1)) (elected ++ giving_in) (free 2 Passive)
giving_in_leads = on 2 (free 1 (Choosing 1)) elected giving_in (free 1 (Leader 1 1)) (free 2 Passive) elected_leads (
  owing 1 Yielding (Reset 1),
  yields tt refl (lit< tt) refl,
  (
    free 1 Yielding,
    sends (Reset 1) (λ l. l) refl refl refl,
    (
      free 2 (Choosing 1),
      comes_home 1 refl refl (lit< tt) refl,
      (
        owing 2 (Active 1 1) (hopped 1 1),
        draws 2 1 1 refl refl (lit≤ tt) (lit≤ tt) refl,
        (
          free 2 (Active 1 1),
          sends (hopped 1 1) (λ l. l) refl refl refl,
          (
            owing 2 Passive (hopped 2 2),
            gives_in 2 1 1 (clean 2 1) refl refl (inr (refl, lit< tt)) (lit< tt) refl,
            (free 2 Passive, sends (hopped 2 2) (λ l. l) refl refl refl, refl),
          ),
        ),
      ),
    ),
  ),
)

winning_leads : LeadsTo 2 (free 1 Passive) (passing ++ winning) (free 2 (Leader 1 2))
winning_leads = on 2 (free 1 Passive) passing winning (free 1 Passive) (free 2 (Leader 1 2)) passing_leads (
  owing 2 (Choosing 1) (Reset 2),
  restarts 1 1 refl refl (lit< tt) (lit< tt) refl,
  (
    free 2 (Choosing 1),
    sends (Reset 2) (λ l. l) refl refl refl,
    (
      owing 2 (Active 1 2) (hopped 2 1),
      draws 2 1 2 refl refl (lit≤ tt) (lit≤ tt) refl,
      (
        free 2 (Active 1 2),
        sends (hopped 2 1) (λ l. l) refl refl refl,
        (
          free 2 (Active 1 2),
          purges 2 1 2 (clean 1 1) refl refl (inr (refl, lit< tt)) refl,
          (free 2 (Leader 1 2), wins 2 1 2 (clean 2 2) refl refl (refl, refl) refl refl refl, refl),
        ),
      ),
    ),
  ),
)

elected_is_leader : (logs : List Log) (version place : ℕ)
    → slice_get logs place ≡ Some (log_of_two version place true elected) → Leads logs place 3
elected_is_leader logs version place at =
    record {
      state = free 1 (Leader 1 1);
      is_in = record { log = log_of_two version place true elected; at = at; reached = elected_leads };
      leads = tt;
    }

-- ---- the examples

elected_log : (place : ℕ) → place < 2 → IsLog (log_of_two 1 place true elected)
elected_log place low = is_log 1 place true elected (lit≤ tt, lit≤ tt) low (lit≤ tt) refl refl

pub one_may_lead : OneMayLead
one_may_lead = (
  are_logs 1 true false elected passing (elected_log 0 (lit< tt))
      (is_log 1 1 false passing (lit≤ tt, lit≤ tt) (lit< tt) (lit≤ tt) refl refl),
  matches,
  both (log_of_two 1 0 true elected) (log_of_two 1 1 false passing) (λ i log. IsLocalRun log) (
    free 1 (Leader 1 1),
    elected_leads,
  ) (free 1 Passive, passing_leads),
  elected_is_leader one_elected 1 0 refl,
)
  where
    matches : Matches one_elected
    matches zero l k m h = h
    matches (suc zero) l k m h = h
    matches (suc (suc i)) l k m h = absurd (omega arith)

pub two_may_lead_unmatched : TwoMayLeadUnmatched
two_may_lead_unmatched = (
  are_logs 1 true true elected elected (elected_log 0 (lit< tt)) (elected_log 1 (lit< tt)),
  both (log_of_two 1 0 true elected) (log_of_two 1 1 true elected) (λ i log. IsLocalRun log) (
    free 1 (Leader 1 1),
    elected_leads,
  ) (free 1 (Leader 1 1), elected_leads),
  elected_is_leader both_elected 1 0 refl,
  elected_is_leader both_elected 1 1 refl,
)

pub two_may_lead_in_turn : TwoMayLeadInTurn
two_may_lead_in_turn = (
  are_logs 2 true false (elected ++ giving_in) (passing ++ winning)
      (is_log 2 0 true (elected ++ giving_in) (lit≤ tt, lit≤ tt) (lit< tt) (lit≤ tt) refl refl)
      (is_log 2 1 false (passing ++ winning) (lit≤ tt, lit≤ tt) (lit< tt) (lit≤ tt) refl refl),
  matches,
  both (log_of_two 2 0 true (elected ++ giving_in)) (log_of_two 2 1 false (passing ++ winning)) (λ i log.
      IsLocalRun log) (free 2 Passive, giving_in_leads) (free 2 (Leader 1 2), winning_leads),
  record {
    state = free 1 (Leader 1 1);
    is_in = record { log = log_of_two 2 0 true (elected ++ giving_in); at = refl; reached = elected_leads };
    leads =
        tt;
  },
  record {
    state = free 2 (Leader 1 2);
    is_in = record { log = log_of_two 2 1 false (passing ++ winning); at = refl; reached = winning_leads };
    leads =
        tt;
  },
)
  where
    matches : Matches elected_in_turn
    matches zero l k m h = h
    matches (suc zero) l k m h = h
    matches (suc (suc i)) l k m h = absurd (omega arith)
