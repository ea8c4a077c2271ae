-- Who leads is decided by what the nodes draw: of logs, and at their consistent cuts.
use Rattle.std.proofs.Common.{◌≡◌, ℕ, zero, suc, ◌+◌, ◌<◌, ◌≤◌, ◌⊎◌, inl, inr, Bool, true, false, List, [], ◌∷◌}
use Rattle.std.proofs.Common.{Option, Some, None, length, take, refl, sym, ◌∙◌, subst, ap, arith, add-one}
use Rattle.std.specs.Prelude.{slice_get, slice_index}
use Rattle.std.specs.List.{cons_option, filter_map}
use Rattle.std.proofs.lemmas.Bool.{cases_eq, cases_lt}
use Rattle.std.proofs.lemmas.Option.{slice_get_cases, slice_get_within}
use Rattle.ira_event.specs.declared.event.Event.{Event}
use Rattle.ira_event.specs.declared.event.Event.TheVariants.{Draw}
use Rattle.ira_event.specs.Log.{Log}
use Rattle.ira_event.specs.Logs.{AreLogs}
use Rattle.ira_node.specs.declared.node_state.NodeState.{NodeState}
use Rattle.ira_node.specs.declared.phase.Phase.{Phase}
use Rattle.ira_node.specs.declared.phase.Phase.TheVariants.{Choosing, Active, Passive, Leader, Yielding}
use Rattle.ira_node.specs.NodeState.{first_state}
use Rattle.ira_node.specs.NodeStep.{NodeStep, sends, draws, passes, gives_in, purges, meets, ties, wins, yields}
use Rattle.ira_node.specs.NodeStep.{restarts, comes_home}
use Rattle.ira_replay.proofs.Reached.{same_next}
use Rattle.ira_replay.proofs.Alike.{leads_prefix}
use Rattle.ira_order.specs.Matching.{Matches}
use Rattle.ira_order.specs.Ring.{log_of, next}
use Rattle.ira_order.specs.Run.{Configuration, RingStep, AreLocalRuns, event_of, is_initiator, opening}
use Rattle.ira_order.proofs.RunsOfLogs.{event_yes, event_no}
use Rattle.ira_safety.specs.OneLeader.{IsIn}
use Rattle.ira_safety.specs.Reaches.{Reaches}
use Rattle.ira_safety.proofs.Course.{log_reached, first_term, term_kept}
use Rattle.ira_safety.proofs.Steps.{IsStill, phase_is, term_is}
use Rattle.ira_election.specs.Draws.{Drew, OneDrawInARound, TheGreatestGoOn, TheGreatestLeads, NobodyDrawsLate}
use Rattle.ira_election.specs.Draws.{AllTheGreatestGoOn, AllWhoStartDraw, OnlyWhoStartDraw, RoundsCountFromOne}
use Rattle.ira_election.specs.Draws.{DrewWithin, IsStillIn, IsTermPast, TheGreatestAreStillIn, still_active, still_leads}
use Rattle.ira_election.specs.Draws.{still_chooses, drew_next}
use Rattle.ira_election.proofs.Election.{phase_in, phases_of, messages_of, of_term}
use Rattle.ira_election.proofs.Drawn.{IsTold, IsSaid, HasBefore, chooses_later, told_said, said_on}
use Rattle.ira_election.proofs.Turns.{none_of}
use Rattle.ira_election.proofs.Queues.{phase_before, phase_now}
use Rattle.ira_election.proofs.Keeps.{IsSound, stays_sound}
use Rattle.ira_election.proofs.Beginning.{all_or_one, initiator_or, begins_on, begins_sound, no_run, first_queue}
use Rattle.ira_election.proofs.Going.{IsCutOfRuns, st, course, st_first, more_of, more_yes, more_no}
use Rattle.ira_election.proofs.AnOrder.{comes_to, whole_logs}
use Rattle.ira_election.proofs.Onwards.{Goes, IsGoing, IsEnded, going_ended, ended_on, goes_active, goes_leader}
use Rattle.ira_election.proofs.Onwards.{goes_chooses, goes_on}
use Rattle.ira_election.proofs.History.{Was, Drawn, Led, Begins, Tells, tells_on, in_now, not_still}
use Rattle.ira_election.proofs.Cuts.{runs_to}

-- ---- of one node

pub first_is : (b : Bool) (p : Phase) → (first_state b).phase ≡ p → (p ≡ Choosing 1) ⊎ (p ≡ Passive)
first_is true p is = inl (sym is)
first_is false p is = inr (sym is)

first_in : (term : ℕ) (b : Bool) (p : Phase) → phase_in term (first_state b) ≡ p → (p ≡ Choosing 1) ⊎ (p ≡ Passive)
first_in term b p is = elim (cases_lt (first_state b).term term) [
  | inl early ↦ inl (sym is ∙ phase_before term (first_state b) early)
  | inr now ↦ first_is b p (sym (phase_now term (first_state b) now) ∙ is)
]

-- a node that draws is active with the ID then
pub by_draw : (n : ℕ) (s : NodeState) (e : Event) (t : NodeState) (x y : ℕ) → NodeStep n s e t → e ≡ Draw y
    → s.phase ≡ Choosing x → (t.term ≡ s.term) × (t.phase ≡ Active x y)
by_draw n s e t x y (draws term round id es ee lo hi et) is from =
    let same : Draw id ≡ Draw y = sym ee ∙ is in
    let iy : id ≡ y = cc in
    let both : Choosing round ≡ Choosing x = sym (phase_is s _ es) ∙ from in
    let rx : round ≡ x = cc in (
      term_is t _ et ∙ sym (term_is s _ es),
      phase_is t _ et ∙ ap (λ (u : ℕ). Active u id) rx ∙ ap (λ (u : ℕ). Active x u) iy,
    )
by_draw n s e t x y (sends l runs o ee et) is from = (let z = sym ee ∙ is in absurd cc)
by_draw n s e t x y (passes term m es ee h et) is from = (let z = sym ee ∙ is in absurd cc)
by_draw n s e t x y (gives_in term round id m es ee g h et) is from = (let z = sym ee ∙ is in absurd cc)
by_draw n s e t x y (purges term round id m es ee g et) is from = (let z = sym ee ∙ is in absurd cc)
by_draw n s e t x y (meets term round id m es ee g h k et) is from = (let z = sym ee ∙ is in absurd cc)
by_draw n s e t x y (ties term round id m es ee g h k j et) is from = (let z = sym ee ∙ is in absurd cc)
by_draw n s e t x y (wins term round id m es ee g h k et) is from = (let z = sym ee ∙ is in absurd cc)
by_draw n s e t x y (yields l ee low et) is from = (let z = sym ee ∙ is in absurd cc)
by_draw n s e t x y (restarts term h es ee below low et) is from = (let z = sym ee ∙ is in absurd cc)
by_draw n s e t x y (comes_home term es ee low et) is from = (let z = sym ee ∙ is in absurd cc)

-- a node that is active was so, in its term, or drew
pub data From (s : NodeState) (e : Event) (t : NodeState) (x y : ℕ) : Type 0 where
  from_same : t.term ≡ s.term → s.phase ≡ Active x y → From s e t x y
  from_draw : t.term ≡ s.term → s.phase ≡ Choosing x → e ≡ Draw y → From s e t x y

from_of : (n : ℕ) (s : NodeState) (e : Event) (t : NodeState) (x y : ℕ) → NodeStep n s e t → t.phase ≡ Active x y
    → From s e t x y
from_of n s e t x y (sends l runs o ee et) is = from_same (term_is t _ et) (sym (phase_is t _ et) ∙ is)
from_of n s e t x y (draws term round id es ee lo hi et) is =
    let both : Active round id ≡ Active x y = sym (phase_is t _ et) ∙ is in
    let rx : round ≡ x = cc in
    let iy : id ≡ y = cc in
    from_draw (term_is t _ et ∙ sym (term_is s _ es)) (phase_is s _ es ∙ ap Choosing rx) (ee ∙ ap Draw iy)
from_of n s e t x y (passes term m es ee h et) is = (let z = sym (phase_is t _ et) ∙ is in absurd cc)
from_of n s e t x y (gives_in term round id m es ee g h et) is = (let z = sym (phase_is t _ et) ∙ is in absurd cc)
from_of n s e t x y (purges term round id m es ee g et) is = from_same (term_is t _ et) (sym (phase_is t _ et) ∙ is)
from_of n s e t x y (meets term round id m es ee g h k et) is =
    from_same (term_is t _ et ∙ sym (term_is s _ es)) (phase_is s _ es ∙ sym (phase_is t _ et) ∙ is)
from_of n s e t x y (ties term round id m es ee g h k j et) is = (let z = sym (phase_is t _ et) ∙ is in absurd cc)
from_of n s e t x y (wins term round id m es ee g h k et) is = (let z = sym (phase_is t _ et) ∙ is in absurd cc)
from_of n s e t x y (yields l ee low et) is = (let z = sym (phase_is t _ et) ∙ is in absurd cc)
from_of n s e t x y (restarts term h es ee below low et) is = (let z = sym (phase_is t _ et) ∙ is in absurd cc)
from_of n s e t x y (comes_home term es ee low et) is = (let z = sym (phase_is t _ et) ∙ is in absurd cc)

get_taken : (k : ℕ) (es : List Event) (a : ℕ) (e : Event) → slice_get (take k es) a ≡ Some e → slice_get es a ≡ Some e
get_taken zero es a e is = cc
get_taken (suc k) [] a e is = is
get_taken (suc k) (x ∷ es) zero e is = is
get_taken (suc k) (x ∷ es) (suc a) e is = get_taken k es a e is

few_taken : (k : ℕ) (es : List Event) (a : ℕ) (e : Event) → slice_get (take k es) a ≡ Some e → a < k
few_taken zero es a e is = cc
few_taken (suc k) [] a e is = cc
few_taken (suc k) (x ∷ es) zero e is = omega arith
few_taken (suc k) (x ∷ es) (suc a) e is = omega (arith, few_taken k es a e is)

length_taken : (k : ℕ) (es : List Event) → k ≤ length es → length (take k es) ≡ k
length_taken zero es low = refl
length_taken (suc k) [] low = absurd (omega arith)
length_taken (suc k) (x ∷ es) low = omega (arith, length_taken k es (omega arith))

-- ---- of logs, up to a cut

module _ {logs : List Log} {cut : ℕ → ℕ} (r : IsCutOfRuns logs cut) where
  abbrev n : ℕ
  n = length logs

  abbrev starts : ℕ → Bool
  starts i = is_initiator (slice_get logs i)

  pub positive : (i a : ℕ) → 1 ≤ (st r i a).term
  positive i a = omega (
    arith,
    first_term n (log_of logs i) (st r i) (course r i),
    term_kept n (log_of logs i) (st r i) (course r i) 0 a (omega arith),
  )

  -- the state after more events than there are is that after them all
  within : (i a : ℕ) → (b : ℕ) × (b ≤ length (log_of logs i)) × (st r i a ≡ st r i b)
  within i zero = (0, omega arith, refl)
  within i (suc a) = elim (cases_lt a (length (log_of logs i))) [
    | inl more ↦ (suc a, omega arith, refl)
    | inr end ↦
        let w = within i a in
        (w.0, w.1, (course r i).ends a end ∙ w.2)
  ]

  none_yet : (term i : ℕ) (p : Phase) → Was r term (λ j. 0) i p → (p ≡ Choosing 1) ⊎ (p ≡ Passive)
  none_yet term i p w =
      first_is (starts i) p (ap (λ (s : NodeState). s.phase) (sym (st_first r i))
      ∙ subst (λ (a : ℕ). (st r i a).phase ≡ p) (omega (arith, w.1)) w.3)

  not_active : (x y : ℕ) (p : Phase) → p ≡ Active x y → (p ≡ Choosing 1) ⊎ (p ≡ Passive) → ⊥
  not_active x y p is (inl e) = (let z = sym e ∙ is in cc)
  not_active x y p is (inr e) = (let z = sym e ∙ is in cc)

  not_leader : (x y : ℕ) (p : Phase) → p ≡ Leader x y → (p ≡ Choosing 1) ⊎ (p ≡ Passive) → ⊥
  not_leader x y p is (inl e) = (let z = sym e ∙ is in cc)
  not_leader x y p is (inr e) = (let z = sym e ∙ is in cc)

  not_later : (x : ℕ) (p : Phase) → p ≡ Choosing (x + 1) → 1 ≤ x → (p ≡ Choosing 1) ⊎ (p ≡ Passive) → ⊥
  not_later x p is one (inl e) =
      (let z : Choosing (x + 1) ≡ Choosing 1 = sym is ∙ e in let up : x + 1 ≡ 1 = cc in omega arith)
  not_later x p is one (inr e) = (let z = sym e ∙ is in cc)

  begins_told : (term : ℕ)
      → IsTold n (phases_of term (opening logs)) (messages_of n term (opening logs)) (Drawn r term (λ j. 0)) (Led r
      term (λ j. 0))
  begins_told term = record {
    active = λ i x y li is. absurd (not_active x y (Active x y) refl (first_in term (starts i) (Active x y) is));
    stands = λ i x y li w. absurd (not_active x y (Active x y) refl (none_yet term i (Active x y) w));
    one = λ i x y z li w v. absurd (not_active x y (Active x y) refl (none_yet term i (Active x y) w));
    chooses = λ i x li one is.
        absurd (not_later x (Choosing (x + 1)) refl one (first_in term (starts i) (Choosing (x + 1)) is));
    before = λ i x y li one w.
        absurd (not_active (x + 1) y (Active (x + 1) y) refl (none_yet term i (Active (x + 1) y) w));
    met = λ j m lj is dirt.
        absurd (none_of m (messages_of n term (opening logs) j)
        (ap (of_term term ((opening logs).state (next n j)).term) (first_queue starts j)) is);
    passed = λ j m b k lj is lb at low.
        absurd (none_of m (messages_of n term (opening logs) j)
        (ap (of_term term ((opening logs).state (next n j)).term) (first_queue starts j)) is);
    led = λ i x y li w. absurd (not_leader x y (Leader x y) refl (none_yet term i (Leader x y) w));
    leader = λ i x y li is. absurd (not_leader x y (Leader x y) refl (first_in term (starts i) (Leader x y) is));
  }

  begins_going : (term : ℕ)
      → IsGoing n (phases_of term (opening logs)) (messages_of n term (opening logs)) (Drawn r term (λ j. 0)) (Led r
      term (λ j. 0)) (Begins r term (Choosing 1)) (Begins r term Passive)
  begins_going term = record {
    free = λ i x y li is best. absurd (not_active x y (Active x y) refl (first_in term (starts i) (Active x y) is));
    goes = λ i x y li w best. absurd (not_active x y (Active x y) refl (none_yet term i (Active x y) w));
    positive = λ i x li is. elim (first_in term (starts i) (Choosing x) is) [
      | inl e ↦ (let q : x ≡ 1 = cc in omega arith)
      | inr e ↦ (let z : ⊥ = cc in absurd z)
    ];
    rounds = λ i x y li w. absurd (not_active x y (Active x y) refl (none_yet term i (Active x y) w));
    still = λ i x y li w. absurd (not_leader x y (Leader x y) refl (none_yet term i (Leader x y) w));
    begun = λ i li chooses. inl chooses;
    never = λ i li passive.
        (passive, λ x y w. not_active x y (Active x y) refl (none_yet term i (Active x y) w));
  }

  -- ---- along a run

  -- node j has had (at j) of its first (fin j) events, and these are left of the run
  record IsAlong (fin : ℕ → ℕ) (rest : List (ℕ × Event)) (c : Configuration) (at : ℕ → ℕ) : Type 0 where
    states : (j : ℕ) → j < n → c.state j ≡ st r j (at j)
    few : (j : ℕ) → j < n → at j ≤ fin j
    left : (j a : ℕ) → j < n
        → slice_get (take (fin j) (log_of logs j)) (at j + a) ≡ slice_get (filter_map (event_of j) rest) a

  along_on : (fin : ℕ → ℕ) (i : ℕ) (e : Event) (rest : List (ℕ × Event)) (c d : Configuration) (at : ℕ → ℕ)
      → RingStep n i e c d → IsAlong fin ((i, e) ∷ rest) c at
      → (d.state i ≡ st r i (suc (at i))) × IsAlong fin rest d (more_of at i)
  along_on fin i e rest c d at step along = (
    comes,
    record {
      states = λ j lj. elim (cases_eq j i) [
        | inl same ↦ subst (λ (k : ℕ). d.state k ≡ st r k (more_of at i k)) (sym same)
            (comes ∙ ap (st r i) (sym (more_yes at i ∙ add-one (at i))))
        | inr ne ↦ step.others j lj ne ∙ along.states j lj ∙ ap (st r j) (sym (more_no at i j ne))
      ];
      few = λ j lj. elim (cases_eq j i) [
        | inl same ↦ subst (λ (k : ℕ). more_of at i k ≤ fin k) (sym same)
            (omega (arith, more_yes at i, few_taken (fin i) (log_of logs i) (at i) e is_taken))
        | inr ne ↦ omega (arith, more_no at i j ne, along.few j lj)
      ];
      left = λ j a lj. elim (cases_eq j i) [
        | inl same ↦ subst (λ (k : ℕ). slice_get (take (fin k) (log_of logs k)) (more_of at i k + a)
            ≡ slice_get (filter_map (event_of k) rest) a) (sym same)
            (ap (slice_get (take (fin i) (log_of logs i))) (omega (arith, more_yes at i))
            ∙ along.left i (suc a) step.place
            ∙ ap (λ (o : Option Event). slice_get (cons_option o (filter_map (event_of i) rest)) (suc a))
            (event_yes i i e refl))
        | inr ne ↦ ap (λ (k : ℕ). slice_get (take (fin j) (log_of logs j)) (k + a)) (more_no at i j ne)
            ∙ along.left j a lj
            ∙ ap (λ (o : Option Event). slice_get (cons_option o (filter_map (event_of j) rest)) a)
            (event_no i j e (λ q. ne (sym q)))
      ];
    },
  )
    where
      is_taken : slice_get (take (fin i) (log_of logs i)) (at i) ≡ Some e
      is_taken = ap (slice_get (take (fin i) (log_of logs i))) (omega arith)
          ∙ along.left i 0 step.place
          ∙ ap (λ (o : Option Event). slice_get (cons_option o (filter_map (event_of i) rest)) 0) (event_yes i i e refl)

      is_next : slice_get (log_of logs i) (at i) ≡ Some e
      is_next = get_taken (fin i) (log_of logs i) (at i) e is_taken

      comes : d.state i ≡ st r i (suc (at i))
      comes = same_next n (st r i (at i)) e (d.state i) (st r i (suc (at i)))
          (subst (λ (s : NodeState). NodeStep n s e (d.state i)) (along.states i step.place) step.node)
          ((course r i).steps (at i) e is_next)

  -- where it comes to
  record Arrives (term : ℕ) (fin : ℕ → ℕ) (d : Configuration) : Type 0 where
    at : ℕ → ℕ
    tells : Tells r term d at
    far : (j : ℕ) → j < n → fin j ≤ at j
    few : (j : ℕ) → j < n → at j ≤ fin j

  arrives : (term : ℕ) (fin : ℕ → ℕ) (rest : List (ℕ × Event)) (c d : Configuration) (at : ℕ → ℕ)
      → ((j : ℕ) → j < n → fin j ≤ length (log_of logs j)) → Reaches n c rest d → IsSound n c
      → IsAlong fin rest c at → Tells r term c at → Arrives term fin d
  arrives term fin [] c d at fits reaches sound along tells = record {
    at = at;
    tells = subst (λ (x : Configuration). Tells r term x at) (sym reaches) tells;
    far = λ j lj. elim (slice_get_cases (take (fin j) (log_of logs j)) (at j + 0)).1 [
      | inl more ↦ (let z : Some more.0 ≡ None = sym more.2 ∙ along.left j 0 lj in absurd cc)
      | inr end ↦ omega (arith, end.0, length_taken (fin j) (log_of logs j) (fits j lj))
    ];
    few = along.few;
  }
  arrives term fin (x ∷ rest) c d at fits reaches sound along tells =
      let b = reaches.0 in
      let on = along_on fin x.0 x.1 rest c b at reaches.1 along in
      arrives term fin rest b d (more_of at x.0) fits reaches.2 (stays_sound n x.0 x.1 c b r.two reaches.1 sound) on.1
      (tells_on r term x.0 x.1 c b at reaches.1 sound on.0 tells)

  -- ---- at the cut

  at_cut : (term k : ℕ) → 1 ≤ term → k < n → starts k ≡ true
      → (d : Configuration) × Arrives term cut d × ((j : ℕ) → j < n → d.state j ≡ st r j (cut j))
  at_cut term k one lk is =
      let w = comes_to r in (
        w.1,
        arrives term cut w.0 (opening logs) w.1 (λ j. 0) r.fits w.3.reaches (begins_sound n starts)
            (record {
              states = λ j lj. sym (st_first r j);
              few = λ j lj. omega arith;
              left = λ j a lj. ap (slice_get (take (cut j) (log_of logs j))) (omega arith)
                  ∙ ap (λ (x : ℕ). slice_get (take x (log_of logs j)) a) (sym (w.4 j lj))
                  ∙ ap (λ (es : List Event). slice_get es a) (sym (w.3.events j lj));
            })
            (inl (record {
              on = begins_on n term starts k one lk is;
              told = begins_told term;
              going = begins_going term;
            })),
        λ j lj. w.3.states j lj ∙ ap (st r j) (w.4 j lj),
      )

  -- without an initiator no node has an event
  no_events : ((i : ℕ) → i < n → starts i ≡ false) → (j : ℕ) → j < n → cut j ≡ 0
  no_events none j lj =
      let w = comes_to r in
      let empty : w.0 ≡ [] = no_run n starts w.0 w.1 none w.3.reaches in
      let taken : take (w.2 j) (log_of logs j) ≡ [] = sym (w.3.events j lj) ∙ ap (filter_map (event_of j)) empty in
      omega (
        arith,
        w.4 j lj,
        ap length taken,
        length_taken (w.2 j) (log_of logs j) (omega (arith, w.4 j lj, r.fits j lj)),
      )

  some_start : ((i : ℕ) → i < n → starts i ≡ false) ⊎ ((k : ℕ) × (k < n) × (starts k ≡ true))
  some_start = all_or_one (λ i. starts i ≡ false) (λ i. starts i ≡ true) n (λ i li. initiator_or (starts i))

  -- what is known of a term of whole logs
  record Known (term : ℕ) : Type 0 where
    said : IsSaid n (Drawn r term cut) (Led r term cut)
    ended : IsEnded n (Drawn r term cut) (Led r term cut) (Begins r term (Choosing 1)) (Begins r term Passive)

  known : (term : ℕ) → 1 ≤ term → ((j : ℕ) → j < n → cut j ≡ length (log_of logs j)) → Known term
  known term one whole = elim some_start [
    | inr k ↦
        let w = at_cut term k.0 one k.1 k.2 in
        let to : (j : ℕ) (p : Phase) → j < n → Was r term w.1.at j p → Was r term cut j p = λ j p lj h.
        (let b = within j h.0 in (
          b.0,
          omega (arith, b.1, whole j lj),
          ap (λ (s : NodeState). s.term) (sym b.2) ∙ h.2,
          ap (λ (s : NodeState). s.phase) (sym b.2) ∙ h.3,
        )) in
        let from : (j : ℕ) (p : Phase) → j < n → Was r term cut j p → Was r term w.1.at j p = λ j p lj h.
        (h.0, omega (arith, h.1, w.1.far j lj), h.2, h.3) in
        let is = by_tells w.0 w.1.at w.1.tells in
        record {
          said = said_on (λ j x y lj h. to j (Active x y) lj h) (λ j x y lj h. from j (Active x y) lj h)
              (λ j x y lj h. from j (Leader x y) lj h) is.0;
          ended = ended_on (λ j x y lj h. to j (Active x y) lj h) (λ j x y lj h. from j (Active x y) lj h)
              (λ j x y lj h. from j (Leader x y) lj h) is.1;
        }
    | inl none ↦
        let empty : (j : ℕ) (p : Phase) → j < n → Was r term cut j p → Was r term (λ k. 0) j p = λ j p lj h.
        (h.0, omega (arith, h.1, no_events none j lj), h.2, h.3) in
        let none_drew : (j x y : ℕ) → j < n → Drawn r term cut j x y → ⊥ = λ j x y lj w.
        not_active x y (Active x y) refl (none_yet term j (Active x y) (empty j (Active x y) lj w)) in
        let none_led : (j x y : ℕ) → j < n → Led r term cut j x y → ⊥ = λ j x y lj w.
        not_leader x y (Leader x y) refl (none_yet term j (Leader x y) (empty j (Leader x y) lj w)) in
        record {
          said = record {
            one = λ i x y z li w v. absurd (none_drew i x y li w);
            before = λ i x y li low w. absurd (none_drew i (x + 1) y li w);
            led = λ i x y li w. absurd (none_led i x y li w);
          };
          ended = record {
            next = λ i x y li w j u e lj low drew best. absurd (none_led i x y li w);
            all = λ i x y li w j lj s. absurd (none_led i x y li w);
            none = λ j x y lj no drew. none_drew j x y lj drew;
            rounds = λ j x y lj drew. absurd (none_drew j x y lj drew);
          };
        }
  ]
    where
      by_tells : (d : Configuration) (at : ℕ → ℕ) → Tells r term d at
          → IsSaid n (Drawn r term at) (Led r term at) × IsEnded n (Drawn r term at) (Led r term at)
          (Begins r term (Choosing 1)) (Begins r term Passive)
      by_tells d at (inl now) = (told_said now.told, going_ended now.on.orderly now.going)
      by_tells d at (inr w) = (w.said, w.ended)

  said : (term : ℕ) → 1 ≤ term → ((j : ℕ) → j < n → cut j ≡ length (log_of logs j))
      → IsSaid n (Drawn r term cut) (Led r term cut)
  said term one whole = (known term one whole).said

  -- ---- what was drawn, in the logs' words

  pub state_is : (i a : ℕ) (s : NodeState) → IsIn logs i a s → s ≡ st r i a
  state_is i a s is = log_reached (slice_get logs i) (r.local i) is.log a s is.at is.reached

  drew_was_by : (term i x y : ℕ) (at : ℕ → ℕ) (drew : Drew logs i term x y) → drew.events < at i
      → Drawn r term at i x y
  drew_was_by term i x y at drew low =
      let a = drew.events in
      let is : drew.state ≡ st r i a = state_is i a drew.state drew.is_in in
      let step = by_draw n (st r i a) (Draw y) (st r i (suc a)) x y ((course r i).steps a (Draw y) drew.draws) refl
      (ap (λ (s : NodeState). s.phase) (sym is) ∙ drew.chooses) in (
        suc a,
        omega (arith, low),
        step.0 ∙ ap (λ (s : NodeState). s.term) (sym is) ∙ drew.term_is,
        step.1,
      )

  drew_was : (term i x y : ℕ) → Drew logs i term x y → Drawn r term (λ j. length (log_of logs j)) i x y
  drew_was term i x y drew = drew_was_by term i x y (λ j. length (log_of logs j)) drew
      (slice_get_within (log_of logs i) drew.events (Draw y) drew.draws)

  -- what the logs say of a node's state
  reads : (i a : ℕ) → i < n → (s : NodeState) × IsIn logs i a s × (s ≡ st r i a)
  reads i a li = elim (slice_get_cases logs i).1 [
    | inl more ↦
        let log = more.0 in
        let local = r.local i log more.2 in
        let reached = leads_prefix log.nodes (first_state log.initiator) log.events local.0 a local.1 in
        let is_in : IsIn logs i a reached.0 = record { log = log; at = more.2; reached = reached.1 } in
        (reached.0, is_in, state_is i a reached.0 is_in)
    | inr end ↦ absurd (omega (arith, end.0))
  ]

  was_drew_by : (term i x y : ℕ) (at : ℕ → ℕ) → i < n → Drawn r term at i x y
      → (drew : Drew logs i term x y) × (drew.events < at i)
  was_drew_by term i x y at li w = (let h = back w.0 w.2 w.3 in (h.0, omega (arith, h.1, w.1)))
    where
      back : (a : ℕ) → (st r i a).term ≡ term → (st r i a).phase ≡ Active x y
          → (drew : Drew logs i term x y) × (drew.events < a)
      back zero now is = absurd (not_active x y (Active x y) refl (none_yet term i (Active x y)
          (0, omega arith, now, is)))
      back (suc a) now is = elim (slice_get_cases (log_of logs i) a).1 [
        | inr end ↦
            let same : st r i (suc a) ≡ st r i a = (course r i).ends a end.0 in
            let h = back a (ap (λ (s : NodeState). s.term) (sym same) ∙ now)
            (ap (λ (s : NodeState). s.phase) (sym same) ∙ is) in
            (h.0, omega (arith, h.1))
        | inl more ↦ by_step more.0 more.2 (back a)
            (from_of n (st r i a) more.0 (st r i (suc a)) x y ((course r i).steps a more.0 more.2) is)
      ]
        where
          by_step : (e : Event) → slice_get (log_of logs i) a ≡ Some e
              → ((st r i a).term ≡ term → (st r i a).phase ≡ Active x y
              → (drew : Drew logs i term x y) × (drew.events < a))
              → From (st r i a) e (st r i (suc a)) x y → (drew : Drew logs i term x y) × (drew.events < suc a)
          by_step e is_at again (from_same same active) =
              (let h = again (sym same ∙ now) active in (h.0, omega (arith, h.1)))
          by_step e is_at again (from_draw same chooses is_draw) =
              let s = reads i a li in (
                record {
                  events = a;
                  state = s.0;
                  is_in = s.1;
                  term_is = ap (λ (s : NodeState). s.term) s.2 ∙ sym same ∙ now;
                  chooses = ap (λ (s : NodeState). s.phase) s.2 ∙ chooses;
                  draws = is_at ∙ ap Some is_draw;
                },
                omega arith,
              )

  was_drew : (term i x y : ℕ) → i < n → Drawn r term (λ j. length (log_of logs j)) i x y → Drew logs i term x y
  was_drew term i x y li w = (was_drew_by term i x y (λ j. length (log_of logs j)) li w).0

  drew_place : (term i x y : ℕ) → Drew logs i term x y → i < n
  drew_place term i x y drew = slice_get_within logs i drew.is_in.log drew.is_in.at

  drew_term : (term i x y : ℕ) → Drew logs i term x y → 1 ≤ term
  drew_term term i x y drew = omega (
    arith,
    positive i drew.events,
    ap (λ (s : NodeState). s.term) (state_is i drew.events drew.state drew.is_in),
    drew.term_is,
  )

  -- ---- nobody draws late

  late : (i j round other : ℕ) → 1 ≤ round → i < n → j < n → (st r i (cut i)).phase ≡ Choosing (round + 1)
      → ((st r i (cut i)).term ≤ (st r j (cut j)).term)
      × ((st r j (cut j)).term ≡ (st r i (cut i)).term → (st r j (cut j)).phase ≡ Choosing other → round < other)
  late i j round other one li lj is = elim some_start [
    | inl none ↦
        let home : st r i (cut i) ≡ first_state (starts i) = ap (st r i) (no_events none i li) ∙ st_first r i in
        absurd (not_later round (Choosing (round + 1)) refl one
        (first_is (starts i) (Choosing (round + 1)) (ap (λ (s : NodeState). s.phase) (sym home) ∙ is)))
    | inr k ↦
        let term : ℕ = (st r i (cut i)).term in
        let w = at_cut term k.0 (positive i (cut i)) k.1 k.2 in
        subst (λ (s : NodeState). (term ≤ s.term) × (s.term ≡ term → s.phase ≡ Choosing other → round < other))
        (w.2 j lj) (by_tells term w.0 w.1.at (ap (λ (s : NodeState). s.term) (w.2 i li))
        (ap (λ (s : NodeState). s.phase) (w.2 i li) ∙ is) w.1.tells)
  ]
    where
      by_tells : (term : ℕ) (d : Configuration) (at : ℕ → ℕ) → (d.state i).term ≡ term
          → (d.state i).phase ≡ Choosing (round + 1) → Tells r term d at
          → (term ≤ (d.state j).term) × ((d.state j).term ≡ term → (d.state j).phase ≡ Choosing other → round < other)
      by_tells term d at now chooses (inr w) = absurd (elim (cases_eq i w.y) [
        | inl q ↦ (let z : Yielding ≡ Choosing (round + 1) = not_still term (d.state i) Yielding (Choosing (round + 1))
            (subst (λ (k : ℕ). IsStill term Yielding (d.state k)) (sym q) w.past.own) now chooses in cc)
        | inr ne ↦ (let z : Passive ≡ Choosing (round + 1) = not_still term (d.state i) Passive (Choosing (round + 1))
            (w.past.others i li ne) now chooses in cc)
      ])
      by_tells term d at now chooses (inl on) =
          let before : HasBefore n (phases_of term d) (Drawn r term at) i round =
          on.told.chooses i round li one (in_now term (d.state i) (Choosing (round + 1)) now chooses) in
          let later : (x : ℕ) → phases_of term d j ≡ Choosing x → round < x = λ x is.
          elim (before.settled.all j lj) [
            | inl passive ↦ (let z = sym passive ∙ is in absurd cc)
            | inr drew ↦ chooses_later x (on.told.stands j round before.id lj drew) is
          ] in (
            elim (cases_lt (d.state j).term term) [
              | inr low ↦ low
              | inl early ↦ absurd (omega (arith, later 1 (phase_before term (d.state j) early)))
            ],
            λ same choosing. later other (in_now term (d.state j) (Choosing other) same choosing),
          )

-- ---- who is still in it

module _ {logs : List Log} {cut : List ℕ} (r : IsCutOfRuns logs (slice_index cut)) (i term round id : ℕ)
    (drew : DrewWithin logs cut i term round id)
    (best : (j other : ℕ) → DrewWithin logs cut j term round other → other ≤ id) where
  abbrev Is : NodeState → Type 0
  Is s = IsTermPast logs cut term ⊎ ((s.term ≡ term) × IsStillIn logs cut i term round id s.phase)

  li : i < length logs
  li = drew_place r term i round id drew.drew

  -- the state at the cut is that of the term, or of a later one
  not_before : term ≤ (st r i (slice_index cut i)).term
  not_before = omega (
    arith,
    term_kept (length logs) (log_of logs i) (st r i) (course r i) drew.drew.events (slice_index cut i)
        (omega (arith, drew.within)),
    ap (λ (s : NodeState). s.term) (state_is r i drew.drew.events drew.drew.state drew.drew.is_in),
    drew.drew.term_is,
  )

  by_tells : (d : Configuration) (at : ℕ → ℕ) → Tells r term d at → ((j : ℕ) → j < length logs → slice_index cut j ≤ at j)
      → ((j : ℕ) → j < length logs → at j ≤ slice_index cut j)
      → ((j : ℕ) → j < length logs → d.state j ≡ st r j (slice_index cut j)) → Is (st r i (slice_index cut i))
  by_tells d at (inr past) far few states =
      let y = past.y in
      let s = reads r y (slice_index cut y) past.past.place in
      let same : d.state y ≡ s.0 = states y past.past.place ∙ sym s.2 in
      inl (record {
        j = y;
        state = s.0;
        is_in = s.1;
        past = subst (λ (x : NodeState). IsStill term Yielding x) same past.past.own;
      })
  by_tells d at (inl now) far few states = inr (
    is_now,
    by_goes
        (now.going.goes i round id li (to i round id li (drew_was_by r term i round id (slice_index cut) drew.drew
        drew.within)) (λ k e lk h. (let w = was_drew_by r term k round e (slice_index cut) lk (from k round e lk h) in
        best k e (record { drew = w.0; within = w.1 })))),
  )
    where
      to : (j x y : ℕ) → j < length logs → Drawn r term (slice_index cut) j x y → Drawn r term at j x y
      to j x y lj h = (h.0, omega (arith, h.1, far j lj), h.2, h.3)

      from : (j x y : ℕ) → j < length logs → Drawn r term at j x y → Drawn r term (slice_index cut) j x y
      from j x y lj h = (h.0, omega (arith, h.1, few j lj), h.2, h.3)

      is_now : (st r i (slice_index cut i)).term ≡ term
      is_now = omega (
        arith,
        not_before,
        now.on.within.terms i li,
        ap (λ (s : NodeState). s.term) (states i li),
      )

      there : (p : Phase) → phases_of term d i ≡ p → (st r i (slice_index cut i)).phase ≡ p
      there p is = sym (phase_now term (st r i (slice_index cut i)) (omega (arith, is_now)))
          ∙ ap (phase_in term) (sym (states i li)) ∙ is

      by_goes : Goes (phases_of term d) (Drawn r term at) i round id
          → IsStillIn logs cut i term round id (st r i (slice_index cut i)).phase
      by_goes (goes_active is) = still_active (there (Active round id) is)
      by_goes (goes_leader is) = still_leads (there (Leader round id) is)
      by_goes (goes_chooses is) = still_chooses (there (Choosing (round + 1)) is)
      by_goes (goes_on e h) =
          (let w = was_drew_by r term i (round + 1) e (slice_index cut) li (from i (round + 1) e li h) in
          drew_next e (record { drew = w.0; within = w.1 }))

  still_in : Is (st r i (slice_index cut i))
  still_in = elim (some_start r) [
    | inl none ↦ absurd (omega (arith, no_events r none i li, drew.within))
    | inr k ↦
        let w = at_cut r term k.0 (drew_term r term i round id drew.drew) k.1 k.2 in
        by_tells w.0 w.1.at w.1.tells w.1.far w.1.few w.2
  ]

-- ---- the laws

pub the_greatest_are_still_in : TheGreatestAreStillIn
the_greatest_are_still_in logs cut are matches local consistent i term round id state drew best is_in =
    let r = runs_to logs cut are matches local consistent in
    subst (λ (s : NodeState). IsTermPast logs cut term ⊎ ((s.term ≡ term)
    × IsStillIn logs cut i term round id s.phase)) (sym (state_is r i (slice_index cut i) state is_in))
    (still_in r i term round id drew best)

pub whole_said : (logs : List Log) → AreLogs logs → Matches logs → AreLocalRuns logs
    → IsCutOfRuns logs (λ k. length (log_of logs k))
whole_said logs are matches local = whole_logs logs are.ring.0 are.sizes matches local

pub one_draw_in_a_round : OneDrawInARound
one_draw_in_a_round logs are matches local i term round id other drew also =
    let r = whole_said logs are matches local in
    (said r term (drew_term r term i round id drew) (λ j lj. refl)).one i round id other
    (drew_place r term i round id drew) (drew_was r term i round id drew) (drew_was r term i round other also)

pub the_greatest_go_on : TheGreatestGoOn
the_greatest_go_on logs are matches local i term round id one drew =
    let r = whole_said logs are matches local in
    let li = drew_place r term i (round + 1) id drew in
    let b = (said r term (drew_term r term i (round + 1) id drew) (λ j lj. refl)).before i round id li one
    (drew_was r term i (round + 1) id drew) in (
      b.0,
      was_drew r term i round b.0 li b.1,
      (λ j other h. b.2 j other (drew_place r term j round other h) (drew_was r term j round other h)),
      (b.3.0, b.3.2, was_drew r term b.3.0 round b.0 b.3.1 b.3.3),
    )

pub the_greatest_leads : TheGreatestLeads
the_greatest_leads logs are matches local i events round id state is_in leads =
    let r = whole_said logs are matches local in
    let li = slice_get_within logs i is_in.log is_in.at in
    let there : state ≡ st r i events = state_is r i events state is_in in
    let w = within r i events in
    let is : state ≡ st r i w.0 = there ∙ w.2 in
    let term : ℕ = state.term in
    let one : 1 ≤ term = omega (arith, positive r i events, ap (λ (s : NodeState). s.term) there) in
    let b = (said r term one (λ j lj. refl)).led i round id li (
      w.0,
      w.1,
      ap (λ (s : NodeState). s.term) (sym is),
      ap (λ (s : NodeState). s.phase) (sym is) ∙ leads,
    ) in (
      was_drew r term i round id li b.0,
      λ j other ne h. b.1 j other (drew_place r term j round other h) ne (drew_was r term j round other h),
    )

pub nobody_draws_late : NobodyDrawsLate
nobody_draws_late logs cut are matches local consistent i j round other a b one in_a in_b chooses =
    let r = runs_to logs cut are matches local consistent in
    let a_is = state_is r i (slice_index cut i) a in_a in
    let b_is = state_is r j (slice_index cut j) b in_b in
    let w = late r i j round other one (slice_get_within logs i in_a.log in_a.at)
    (slice_get_within logs j in_b.log in_b.at) (ap (λ (s : NodeState). s.phase) (sym a_is) ∙ chooses) in
    subst (λ (x : NodeState). (x.term ≤ b.term) × (b.term ≡ x.term → b.phase ≡ Choosing other → round < other))
    (sym a_is) (subst (λ (y : NodeState). ((st r i (slice_index cut i)).term ≤ y.term)
    × (y.term ≡ (st r i (slice_index cut i)).term → y.phase ≡ Choosing other → round < other)) (sym b_is) w)

starts_chooses : (term : ℕ) (b : Bool) → (1 < term) ⊎ (b ≡ true) → phase_in term (first_state b) ≡ Choosing 1
starts_chooses term b (inl later) = phase_before term (first_state b) (omega (arith, first_of b))
  where
    first_of : (b : Bool) → (first_state b).term ≡ 1
    first_of true = refl
    first_of false = refl
starts_chooses term b (inr is) = subst (λ (c : Bool). phase_in term (first_state c) ≡ Choosing 1) (sym is)
    (elim (cases_lt 1 term) [
      | inl low ↦ phase_before term (first_state true) low
      | inr now ↦ phase_now term (first_state true) now
    ])

-- the leader in the logs' words
led_is : (logs : List Log) (are : AreLogs logs) (matches : Matches logs) (local : AreLocalRuns logs)
    (i events round id : ℕ) (state : NodeState) → IsIn logs i events state → state.phase ≡ Leader round id
    → (i < length logs) × (1 ≤ state.term) × Led (whole_said logs are matches local) state.term (λ k. length
    (log_of logs k)) i round id
led_is logs are matches local i events round id state is_in leads =
    let r = whole_said logs are matches local in
    let there : state ≡ st r i events = state_is r i events state is_in in
    let w = within r i events in
    let is : state ≡ st r i w.0 = there ∙ w.2 in (
      slice_get_within logs i is_in.log is_in.at,
      omega (arith, positive r i events, ap (λ (s : NodeState). s.term) there),
      (w.0, w.1, ap (λ (s : NodeState). s.term) (sym is), ap (λ (s : NodeState). s.phase) (sym is) ∙ leads),
    )

pub all_the_greatest_go_on : AllTheGreatestGoOn
all_the_greatest_go_on logs are matches local i events last id state is_in leads j round most low drew best =
    let r = whole_said logs are matches local in
    let w = led_is logs are matches local i events last id state is_in leads in
    let lj = drew_place r state.term j round most drew in
    let next = (known r state.term w.1 (λ k lk. refl)).ended.next i last id w.0 w.2 j round most lj low
    (drew_was r state.term j round most drew)
    (λ k other lk h. best k other (was_drew r state.term k round other lk h)) in
    (next.0, was_drew r state.term j (round + 1) next.0 lj next.1)

pub all_who_start_draw : AllWhoStartDraw
all_who_start_draw logs are matches local i events last id state is_in leads j starts =
    let r = whole_said logs are matches local in
    let w = led_is logs are matches local i events last id state is_in leads in
    let first = (known r state.term w.1 (λ k lk. refl)).ended.all i last id w.0 w.2 j starts.0
    (starts_chooses state.term (is_initiator (slice_get logs j)) starts.1) in
    (first.0, was_drew r state.term j 1 first.0 starts.0 first.1)

pub only_who_start_draw : OnlyWhoStartDraw
only_who_start_draw logs are matches local j term round id drew =
    let r = whole_said logs are matches local in
    let lj = drew_place r term j round id drew in
    let know = known r term (drew_term r term j round id drew) (λ k lk. refl) in (
      lj,
      elim (cases_lt 1 term) [
        | inl later ↦ inl later
        | inr now ↦ elim (initiator_or (is_initiator (slice_get logs j))) [
          | inr is ↦ inr is
          | inl isnt ↦ absurd (know.ended.none j round id lj
              (subst (λ (c : Bool). phase_in term (first_state c) ≡ Passive) (sym isnt)
              (phase_now term (first_state false) now)) (drew_was r term j round id drew))
        ]
      ],
    )

pub rounds_count_from_one : RoundsCountFromOne
rounds_count_from_one logs are matches local j term round id drew =
    let r = whole_said logs are matches local in
    (known r term (drew_term r term j round id drew) (λ k lk. refl)).ended.rounds j round id
    (drew_place r term j round id drew) (drew_was r term j round id drew)
