-- Logs of which the same nodes begin and draw the same have the same leader.
use Rattle.std.proofs.Common.{◌≡◌, ◌≢◌, ℕ, zero, suc, ◌+◌, ◌-◌, ◌<◌, ◌≤◌, inl, inr, List, sym, ◌∙◌, subst, arith}
use Rattle.std.proofs.lemmas.Bool.{cases_eq, cases_lt}
use Rattle.ira_event.specs.Log.{Log}
use Rattle.ira_event.specs.Logs.{AreLogs}
use Rattle.ira_node.specs.declared.node_state.NodeState.{NodeState}
use Rattle.ira_node.specs.declared.phase.Phase.TheVariants.{Leader}
use Rattle.ira_order.specs.Matching.{Matches}
use Rattle.ira_order.specs.Run.{AreLocalRuns}
use Rattle.ira_safety.specs.OneLeader.{IsIn}
use Rattle.ira_election.specs.Draws.{Drew, Starts, DrawsDecide}
use Rattle.ira_election.proofs.Draws.{one_draw_in_a_round, the_greatest_go_on, the_greatest_leads, all_the_greatest_go_on}
use Rattle.ira_election.proofs.Draws.{all_who_start_draw, only_who_start_draw, rounds_count_from_one}

-- logs in which a node leads
pub record Elected (logs : List Log) : Type 0 where
  pub are : AreLogs logs
  pub matches : Matches logs
  pub local : AreLocalRuns logs
  pub i : ℕ
  pub events : ℕ
  pub last : ℕ
  pub id : ℕ
  pub state : NodeState
  pub is_in : IsIn logs i events state
  pub leads : state.phase ≡ Leader last id

abbrev pub Draws : (logs : List Log) → Elected logs → ℕ → ℕ → ℕ → Type 0
Draws logs el j round id = Drew logs j el.state.term round id

-- who draws in a round draws in each one before
pub draws_before : (logs : List Log) (el : Elected logs) (j d round id : ℕ) → 1 ≤ round → Draws logs el j (round + d) id
    → (before : ℕ) × Draws logs el j round before
draws_before logs el j zero round id one drew = (id, subst (λ (k : ℕ). Draws logs el j k id) (omega arith) drew)
draws_before logs el j (suc d) round id one drew =
    let b = the_greatest_go_on logs el.are el.matches el.local j el.state.term (round + d) id (omega arith)
    (subst (λ (k : ℕ). Draws logs el j k id) (omega arith) drew) in
    draws_before logs el j d round b.0 one b.1

-- the leader's draw, and that of each other one there
pub leader_drew : (logs : List Log) (el : Elected logs) → Draws logs el el.i el.last el.id
    × ((j other : ℕ) → j ≢ el.i → Draws logs el j el.last other → other < el.id)
leader_drew logs el =
    the_greatest_leads logs el.are el.matches el.local el.i el.events el.last el.id el.state el.is_in el.leads

-- the same draw in all rounds up to the leader's of either
same_draw : (ls ms : List Log) (x : Elected ls) (y : Elected ms)
    → ((j : ℕ) → Starts ls x.state.term j → Starts ms y.state.term j)
    → ((j : ℕ) → Starts ms y.state.term j → Starts ls x.state.term j)
    → ((j round d e : ℕ) → Draws ls x j round d → Draws ms y j round e → d ≡ e)
    → (r : ℕ) → r < x.last → r < y.last
    → ((j d : ℕ) → Draws ls x j (r + 1) d → Draws ms y j (r + 1) d)
    × ((j d : ℕ) → Draws ms y j (r + 1) d → Draws ls x j (r + 1) d)
same_draw ls ms x y to from alike zero lx ly = (
  λ j d drew.
      (let s = to j (only_who_start_draw ls x.are x.matches x.local j x.state.term (0 + 1) d drew) in
      let f = all_who_start_draw ms y.are y.matches y.local y.i y.events y.last y.id y.state y.is_in y.leads j s in
      let there : Draws ms y j (0 + 1) f.0 = f.1 in
      subst (λ (k : ℕ). Draws ms y j (0 + 1) k) (sym (alike j (0 + 1) d f.0 drew there)) there),
  λ j d drew.
      (let s = from j (only_who_start_draw ms y.are y.matches y.local j y.state.term (0 + 1) d drew) in
      let f = all_who_start_draw ls x.are x.matches x.local x.i x.events x.last x.id x.state x.is_in x.leads j s in
      let there : Draws ls x j (0 + 1) f.0 = f.1 in
      subst (λ (k : ℕ). Draws ls x j (0 + 1) k) (alike j (0 + 1) f.0 d there drew) there),
)
same_draw ls ms x y to from alike (suc r) lx ly =
    let before = same_draw ls ms x y to from alike r (omega arith) (omega arith) in (
      λ j d drew.
          (let b = the_greatest_go_on ls x.are x.matches x.local j x.state.term (r + 1) d (omega arith)
          (subst (λ (k : ℕ). Draws ls x j k d) (omega arith) drew) in
          let f = all_the_greatest_go_on ms y.are y.matches y.local y.i y.events y.last y.id y.state y.is_in y.leads j
          (r + 1) b.0 (omega arith) (before.0 j b.0 b.1) (λ k o h. b.2 k o (before.1 k o h)) in
          let there : Draws ms y j (suc r + 1) f.0 =
          subst (λ (k : ℕ). Draws ms y j k f.0) (omega arith) f.1 in
          subst (λ (k : ℕ). Draws ms y j (suc r + 1) k) (sym (alike j (suc r + 1) d f.0 drew there)) there),
      λ j d drew.
          (let b = the_greatest_go_on ms y.are y.matches y.local j y.state.term (r + 1) d (omega arith)
          (subst (λ (k : ℕ). Draws ms y j k d) (omega arith) drew) in
          let f = all_the_greatest_go_on ls x.are x.matches x.local x.i x.events x.last x.id x.state x.is_in x.leads j
          (r + 1) b.0 (omega arith) (before.1 j b.0 b.1) (λ k o h. b.2 k o (before.0 k o h)) in
          let there : Draws ls x j (suc r + 1) f.0 =
          subst (λ (k : ℕ). Draws ls x j k f.0) (omega arith) f.1 in
          subst (λ (k : ℕ). Draws ls x j (suc r + 1) k) (alike j (suc r + 1) f.0 d there drew) there),
    )

pub leader_round : (logs : List Log) (el : Elected logs) → 1 ≤ el.last
leader_round logs el =
    rounds_count_from_one logs el.are el.matches el.local el.i el.state.term el.last el.id (leader_drew logs el).0

-- where the one's leader is of no later round than the other's: the other's is that node, in that round
one_leader : (ls ms : List Log) (x : Elected ls) (y : Elected ms)
    → ((j : ℕ) → Starts ls x.state.term j → Starts ms y.state.term j)
    → ((j : ℕ) → Starts ms y.state.term j → Starts ls x.state.term j)
    → ((j round d e : ℕ) → Draws ls x j round d → Draws ms y j round e → d ≡ e) → x.last ≤ y.last
    → (x.i ≡ y.i) × (x.last ≡ y.last) × (x.id ≡ y.id)
one_leader ls ms x y to from alike low =
    let one = leader_round ls x in
    let l = leader_drew ls x in
    let m = leader_drew ms y in
    let same0 = same_draw ls ms x y to from alike (x.last - 1) (omega arith) (omega arith) in
    let up : x.last - 1 + 1 ≡ x.last = omega arith in
    let there : (j d : ℕ) → Draws ls x j x.last d → Draws ms y j x.last d = λ j d drew.
    subst (λ (k : ℕ). Draws ms y j k d) up (same0.0 j d (subst (λ (k : ℕ). Draws ls x j k d) (sym up) drew)) in
    let back : (j d : ℕ) → Draws ms y j x.last d → Draws ls x j x.last d = λ j d drew.
    subst (λ (k : ℕ). Draws ls x j k d) up (same0.1 j d (subst (λ (k : ℕ). Draws ms y j k d) (sym up) drew)) in
    elim (cases_lt x.last y.last) [
      | inl less ↦
          -- the other's leader went on from that round, so another node drew the same there, and nobody a greater ID
          let next = draws_before ms y y.i (y.last - (x.last + 1)) (x.last + 1) y.id (omega arith)
          (subst (λ (k : ℕ). Draws ms y y.i k y.id) (omega arith) m.0) in
          let b = the_greatest_go_on ms y.are y.matches y.local y.i y.state.term x.last next.0 one next.1 in
          let most = b.2 x.i x.id (there x.i x.id l.0) in
          absurd (elim (cases_eq y.i x.i) [
            | inr ne ↦ omega (arith, l.1 y.i b.0 ne (back y.i b.0 b.1), most)
            | inl e ↦
                omega (
                  arith,
                  l.1 b.3.0 b.0 (λ q. b.3.1 (q ∙ sym e)) (back b.3.0 b.0 b.3.2),
                  most,
                )
          ])
      | inr ge ↦
          let same : y.last ≡ x.last = omega arith in
          let its : Draws ms y y.i x.last y.id = subst (λ (k : ℕ). Draws ms y y.i k y.id) same m.0 in
          elim (cases_eq y.i x.i) [
            | inr ne ↦
                let own : Draws ms y x.i y.last x.id =
                subst (λ (k : ℕ). Draws ms y x.i k x.id) (sym same) (there x.i x.id l.0) in
                absurd (omega (arith, l.1 y.i y.id ne (back y.i y.id its), m.1 x.i x.id (λ q. ne (sym q)) own))
            | inl e ↦ (
              sym e,
              sym same,
              one_draw_in_a_round ls x.are x.matches x.local x.i x.state.term x.last x.id y.id l.0
                  (subst (λ (k : ℕ). Draws ls x k x.last y.id) e (back y.i y.id its)),
            )
          ]
    ]

pub draws_decide : DrawsDecide
draws_decide ls ms are_a matches_a local_a are_b matches_b local_b i a x d k b y e state other in_a leads_a in_b leads_b
    starts alike =
    let el : Elected ls = record {
      are = are_a;
      matches = matches_a;
      local = local_a;
      i = i;
      events = a;
      last = x;
      id = d;
      state = state;
      is_in = in_a;
      leads = leads_a;
    } in
    let fl : Elected ms = record {
      are = are_b;
      matches = matches_b;
      local = local_b;
      i = k;
      events = b;
      last = y;
      id = e;
      state = other;
      is_in = in_b;
      leads = leads_b;
    } in
    elim (cases_lt y x) [
      | inr low ↦ one_leader ls ms el fl (λ j s. (starts j).0 s) (λ j s. (starts j).1 s) alike low
      | inl more ↦
          let w = one_leader ms ls fl el (λ j s. (starts j).1 s) (λ j s. (starts j).0 s)
          (λ j r p q h g. sym (alike j r q p g h)) (omega arith) in
          (sym w.0, sym w.1, sym w.2)
    ]
