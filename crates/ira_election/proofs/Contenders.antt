-- However logs go on from a cut, who leads in a term is one of its contenders.
use Rattle.std.proofs.Common.{◌≡◌, ◌≢◌, ◌∙◌, ℕ, zero, suc, ◌+◌, ◌-◌, ◌<◌, ◌≤◌, inl, inr, List, [], ◌∷◌, Some, get_or}
use Rattle.std.proofs.Common.{take, refl, sym, subst, ap, arith}
use Rattle.std.specs.Prelude.{slice_get, slice_index}
use Rattle.std.proofs.lemmas.Bool.{cases_eq, cases_order}
use Rattle.std.proofs.lemmas.List.{take-take}
use Rattle.std.proofs.lemmas.Option.{slice_get-get_or, slice_get_within}
use Rattle.ira_event.specs.declared.event.Event.{Event}
use Rattle.ira_event.specs.Log.{Log}
use Rattle.ira_event.specs.Logs.{AreLogs}
use Rattle.ira_order.specs.Ring.{log_of}
use Rattle.ira_election.specs.Draws.{Drew, DrewWithin, GoesOn, OnlyContendersLead, Starts}
use Rattle.ira_election.proofs.Decided.{Draws, Elected, draws_before, leader_drew}
use Rattle.ira_election.proofs.Draws.{one_draw_in_a_round, only_who_start_draw, rounds_count_from_one, the_greatest_go_on}

taken : (events : List Event) (k cut : ℕ) → k < cut → slice_get (take cut events) k ≡ slice_get events k
taken events k zero less = absurd (omega (arith, less))
taken [] k (suc cut) less = refl
taken (e ∷ events) zero (suc cut) less = refl
taken (e ∷ events) (suc k) (suc cut) less = taken events k cut (omega (arith, less))

module _ {logs : List Log} {cut : List ℕ} {more : List Log} (are : AreLogs logs) (goes : GoesOn logs cut more)
    (are_more : AreLogs more) where
  drew_on : (i term round id : ℕ) → DrewWithin logs cut i term round id → Drew more i term round id
  drew_on i term round id w =
      let d = w.drew in
      let log : Log = d.is_in.log in
      let c : ℕ = slice_index cut i in
      let k : ℕ = d.events in
      let on : Log = get_or more i log in
      let at : slice_get more i ≡ Some on = slice_get-get_or more i log
      (omega (arith, slice_get_within logs i log d.is_in.at, goes.nodes)) in
      let same : take c on.events ≡ take c log.events = rw (at, d.is_in.at) at (goes.events i) in
      let start : on.initiator ≡ log.initiator = rw (at, d.is_in.at) at (goes.start i) in
      let begin : take k on.events ≡ take k log.events =
      sym (take-take k c on.events (omega (arith, w.within))) ∙ ap (λ (es : List Event). take k es) same
      ∙ take-take k c log.events (omega (arith, w.within)) in
      let nodes : on.nodes ≡ log.nodes = are_more.sizes i on at ∙ goes.nodes ∙ sym (are.sizes i log d.is_in.at) in
      record {
        events = k;
        state = d.state;
        is_in = record { log = on; at = at; reached = rw (nodes, start, begin) d.is_in.reached };
        term_is = d.term_is;
        chooses = d.chooses;
        draws = sym (taken (log_of more i) k c w.within) ∙ ap (λ (es : List Event). slice_get es k) (goes.events i)
            ∙ taken (log_of logs i) k c w.within ∙ d.draws;
      }

  starts_back : (i term : ℕ) → Starts more term i → Starts logs term i
  starts_back i term s = (
    omega (arith, s.0, goes.nodes),
    elim s.1 [ inl later ↦ inl later | inr is ↦ inr (sym (goes.start i) ∙ is) ],
  )

module _ (logs : List Log) (el : Elected logs) where
  abbrev D : ℕ → ℕ → ℕ → Type 0
  D = Draws logs el

  one : (j round a b : ℕ) → D j round a → D j round b → a ≡ b
  one j round a b = one_draw_in_a_round logs el.are el.matches el.local j el.state.term round a b

  -- before a round in which the leader drew nobody drew more than it, and another node the same
  went_on : (r later a b : ℕ) → r < later → D el.i r a → D el.i later b
      → ((j other : ℕ) → D j r other → other ≤ a) × ((k : ℕ) × (k ≢ el.i) × D k r a)
  went_on r later a b less own on =
      let next = draws_before logs el el.i (later - (r + 1)) (r + 1) b (omega arith)
      (subst (λ (x : ℕ). D el.i x b) (omega (arith, less)) on) in
      let first = rounds_count_from_one logs el.are el.matches el.local el.i el.state.term r a own in
      let g = the_greatest_go_on logs el.are el.matches el.local el.i el.state.term r next.0 first next.1 in
      let same : g.0 ≡ a = one el.i r g.0 a g.1 own in
      (rw same at g.2, rw same at g.3)

  -- a leader drew in no round less than another
  not_beaten : (j round id other : ℕ) → D el.i round id → D j round other → other ≤ id
  not_beaten j round id other mine theirs =
      let l = leader_drew logs el in
      elim (cases_order round el.last) [
        | inl now ↦
            let same : el.id ≡ id = one el.i el.last el.id id l.0 (rw now at mine) in
            elim (cases_eq j el.i) [
              | inl own ↦ omega (arith, one j round other id theirs (rw own mine))
              | inr ne ↦ (let less = l.1 j other ne (rw now at theirs) in omega (arith, less, same))
            ]
        | inr (inl early) ↦ (went_on round el.last id el.id early mine l.0).0 j other theirs
        | inr (inr late) ↦
            let k = (went_on el.last round el.id id late l.0 mine).1 in
            let less = l.1 k.0 el.id k.1 k.2 in
            absurd (omega (arith, less))
      ]

pub only_contenders_lead : OnlyContendersLead
only_contenders_lead logs more cut are goes are_more matches local i events round id state is_in leads =
    let el : Elected more = record {
      are = are_more;
      matches = matches;
      local = local;
      i = i;
      events = events;
      last = round;
      id = id;
      state = state;
      is_in = is_in;
      leads = leads;
    } in
    record {
      starts = starts_back are goes are_more i state.term
          (only_who_start_draw more are_more matches local i state.term round id (leader_drew more el).0);
      not_outdrawn = λ j r a b mine theirs. not_beaten more el j r a b (drew_on are goes are_more i state.term r a mine)
          (drew_on are goes are_more j state.term r b theirs);
    }
