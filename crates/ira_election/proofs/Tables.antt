-- Who leads is whom the table of draws elects.
use Rattle.std.proofs.Common.{◌≡◌, ◌≢◌, ℕ, zero, suc, ◌+◌, ◌-◌, ◌<◌, ◌≤◌, cond, Bool, true, false, inl, inr, List}
use Rattle.std.proofs.Common.{[], ◌∷◌, Some, length, refl, sym, ◌∙◌, subst, ap, arith}
use Rattle.std.specs.Prelude.{slice_get}
use Rattle.std.proofs.lemmas.Bool.{cases_eq, cases_lt, eq-eqb, ne_eqb}
use Rattle.ira_event.specs.Log.{Log}
use Rattle.ira_election.specs.Draws.{Drew}
use Rattle.ira_election.specs.Rounds.{how_many, drawn_by, with_id, elects_nobody}
use Rattle.ira_election.specs.Tables.{on, Elects, Are, LeadersAreElected, TablesElectOne, ElectedIsSomebody}
use Rattle.ira_election.specs.Ways.{greatest, tied}
use Rattle.ira_election.proofs.Decided.{Elected, draws_before, leader_drew, leader_round}
use Rattle.ira_election.proofs.Draws.{the_greatest_go_on, all_the_greatest_go_on, all_who_start_draw}
use Rattle.ira_election.proofs.Draws.{only_who_start_draw, one_draw_in_a_round}
use Rattle.ira_election.proofs.Rounds.{length_with, how_many_with}

-- ---- rows

-- who goes on was in it and drew the ID
with_was : (id : ℕ) (those : List Bool) (row : List ℕ) (j : ℕ) → slice_get (with_id id those row) j ≡ Some true
    → (slice_get those j ≡ Some true) × (slice_get row j ≡ Some id)
with_was id [] row j is = cc
with_was id (b ∷ bs) [] j is = cc
with_was id (true ∷ bs) (d ∷ row) zero is = elim (cases_eq d id) [
  | inl e ↦ (refl, ap Some e)
  | inr ne ↦ (let z : Some false ≡ Some true = ap Some (sym (ne_eqb d id ne)) ∙ is in absurd cc)
]
with_was id (false ∷ bs) (d ∷ row) zero is = (let z : Some false ≡ Some true = is in absurd cc)
with_was id (true ∷ bs) (d ∷ row) (suc j) is = with_was id bs row j is
with_was id (false ∷ bs) (d ∷ row) (suc j) is = with_was id bs row j is

was_with : (id : ℕ) (those : List Bool) (row : List ℕ) (j : ℕ) → slice_get those j ≡ Some true
    → slice_get row j ≡ Some id → slice_get (with_id id those row) j ≡ Some true
was_with id [] row j is at = cc
was_with id (b ∷ bs) [] j is at = cc
was_with id (true ∷ bs) (d ∷ row) zero is at =
    let e : d ≡ id = cc in
    ap Some (eq-eqb d id e)
was_with id (false ∷ bs) (d ∷ row) zero is at = (let z : Some false ≡ Some true = is in absurd cc)
was_with id (true ∷ bs) (d ∷ row) (suc j) is at = was_with id bs row j is at
was_with id (false ∷ bs) (d ∷ row) (suc j) is at = was_with id bs row j is at

-- what one of them drew is at most the greatest
at_most_greatest : (those : List Bool) (row : List ℕ) (j id : ℕ) → slice_get those j ≡ Some true
    → slice_get row j ≡ Some id → id ≤ greatest (drawn_by those row)
at_most_greatest [] row j id is at = cc
at_most_greatest (b ∷ bs) [] j id is at = cc
at_most_greatest (true ∷ bs) (d ∷ row) zero id is at = (let e : d ≡ id = cc in omega arith)
at_most_greatest (false ∷ bs) (d ∷ row) zero id is at = (let z : Some false ≡ Some true = is in absurd cc)
at_most_greatest (true ∷ bs) (d ∷ row) (suc j) id is at = omega (arith, at_most_greatest bs row j id is at)
at_most_greatest (false ∷ bs) (d ∷ row) (suc j) id is at = at_most_greatest bs row j id is at

-- one of them drew it
pub record HasGreatest (those : List Bool) (row : List ℕ) : Type 0 where
  pub j : ℕ
  pub among : slice_get those j ≡ Some true
  pub drew : slice_get row j ≡ Some (greatest (drawn_by those row))

has_greatest : (those : List Bool) (row : List ℕ) (k id : ℕ) → slice_get those k ≡ Some true
    → slice_get row k ≡ Some id → HasGreatest those row
has_greatest [] row k id is at = cc
has_greatest (b ∷ bs) [] k id is at = cc
has_greatest (false ∷ bs) (d ∷ row) zero id is at = (let z : Some false ≡ Some true = is in absurd cc)
has_greatest (false ∷ bs) (d ∷ row) (suc k) id is at =
    let w = has_greatest bs row k id is at in
    record { j = suc w.j; among = w.among; drew = w.drew }
has_greatest (true ∷ bs) (d ∷ row) zero id is at = first (drawn_by bs row) refl
  where
    first : (ds : List ℕ) → drawn_by bs row ≡ ds → HasGreatest (true ∷ bs) (d ∷ row)
    first ds e = elim (cases_lt d (greatest (drawn_by bs row))) [
      | inr ge ↦ record { j = 0; among = refl; drew = ap Some (omega arith) }
      | inl low ↦
          let w = some_there bs row low in
          record { j = suc w.j; among = w.among; drew = w.drew ∙ ap Some (omega arith) }
    ]
      where
        some_there : (bs : List Bool) (row : List ℕ) → d < greatest (drawn_by bs row) → HasGreatest bs row
        some_there [] row low = absurd (omega arith)
        some_there (b ∷ bs) [] low = absurd (omega arith)
        some_there (false ∷ bs) (x ∷ row) low =
            let w = some_there bs row low in
            record { j = suc w.j; among = w.among; drew = w.drew }
        some_there (true ∷ bs) (x ∷ row) low = elim (cases_lt x (greatest (drawn_by bs row))) [
          | inr ge ↦ record { j = 0; among = refl; drew = ap Some (omega arith) }
          | inl less ↦
              let w = some_there bs row (omega arith) in
              record { j = suc w.j; among = w.among; drew = w.drew ∙ ap Some (omega arith) }
        ]
has_greatest (true ∷ bs) (d ∷ row) (suc k) id is at = elim (cases_lt d (greatest (drawn_by bs row))) [
  | inr ge ↦ record { j = 0; among = refl; drew = ap Some (omega arith) }
  | inl low ↦
      let w = has_greatest bs row k id is at in
      record { j = suc w.j; among = w.among; drew = w.drew ∙ ap Some (omega arith) }
]

-- ---- how many

none_so : (those : List Bool) → ((j : ℕ) → slice_get those j ≡ Some true → ⊥) → how_many those ≡ 0
none_so [] h = refl
none_so (true ∷ bs) h = absurd (h 0 refl)
none_so (false ∷ bs) h = none_so bs (λ j is. h (suc j) is)

one_so : (those : List Bool) (i : ℕ) → slice_get those i ≡ Some true
    → ((j : ℕ) → slice_get those j ≡ Some true → j ≡ i) → how_many those ≡ 1
one_so [] i is only = cc
one_so (true ∷ bs) zero is only = omega (arith, none_so bs (λ j at. omega (arith, only (suc j) at)))
one_so (false ∷ bs) zero is only = (let z : Some false ≡ Some true = is in absurd cc)
one_so (true ∷ bs) (suc i) is only = absurd (omega (arith, only 0 refl))
one_so (false ∷ bs) (suc i) is only = one_so bs i is (λ j at. omega (arith, only (suc j) at))

some_so : (those : List Bool) (i : ℕ) → slice_get those i ≡ Some true → 1 ≤ how_many those
some_so [] i is = cc
some_so (true ∷ bs) i is = omega arith
some_so (false ∷ bs) zero is = (let z : Some false ≡ Some true = is in absurd cc)
some_so (false ∷ bs) (suc i) is = some_so bs i is

two_so : (those : List Bool) (i j : ℕ) → slice_get those i ≡ Some true → slice_get those j ≡ Some true → i ≢ j
    → 2 ≤ how_many those
two_so [] i j a b ne = cc
two_so (false ∷ bs) zero j a b ne = (let z : Some false ≡ Some true = a in absurd cc)
two_so (false ∷ bs) (suc i) zero a b ne = (let z : Some false ≡ Some true = b in absurd cc)
two_so (false ∷ bs) (suc i) (suc j) a b ne = two_so bs i j a b (λ e. ne (omega arith))
two_so (true ∷ bs) zero zero a b ne = absurd (ne refl)
two_so (true ∷ bs) zero (suc j) a b ne = omega (arith, some_so bs j b)
two_so (true ∷ bs) (suc i) zero a b ne = omega (arith, some_so bs i a)
two_so (true ∷ bs) (suc i) (suc j) a b ne = omega (arith, two_so bs i j a b (λ e. ne (omega arith)))

-- ---- rounds

module _ (logs : List Log) (el : Elected logs) where
  abbrev Draws : ℕ → ℕ → ℕ → Type 0
  Draws j round id = Drew logs j el.state.term round id

  abbrev InRound : ℕ → ℕ → Type 0
  InRound round j = (id : ℕ) × Draws j round id

  one : (j round id other : ℕ) → Draws j round id → Draws j round other → id ≡ other
  one j round id other x y = one_draw_in_a_round logs el.are el.matches el.local j el.state.term round id other x y

  module _ (round : ℕ) (pos : 1 ≤ round) (those : List Bool) (row : List ℕ) (are : Are (length logs) those (InRound round))
      (wide : length row ≡ length logs) (ids : (j id : ℕ) → Draws j round id → slice_get row j ≡ Some id) where
    same : length row ≡ length those
    same = wide ∙ sym are.count

    -- of a node that drew nobody has a greater one than the greatest
    low : (j id : ℕ) → Draws j round id → id ≤ greatest (drawn_by those row)
    low j id drew = at_most_greatest those row j id (are.all j (id, drew)) (ids j id drew)

    -- who goes on in the table drew the greatest
    drew_top : (j : ℕ) → slice_get (on those row) j ≡ Some true → Draws j round (greatest (drawn_by those row))
    drew_top j is =
        let w = with_was (greatest (drawn_by those row)) those row j is in
        let d = are.so j w.0 in
        let q : Some d.0 ≡ Some (greatest (drawn_by those row)) = sym (ids j d.0 d.1) ∙ w.1 in
        let e : d.0 ≡ greatest (drawn_by those row) = cc in
        subst (λ (x : ℕ). Draws j round x) e d.1

    top_drew : (j id : ℕ) → Draws j round id → ((k other : ℕ) → Draws k round other → other ≤ id)
        → slice_get (on those row) j ≡ Some true
    top_drew j id drew most =
        let g = has_greatest those row j id (are.all j (id, drew)) (ids j id drew) in
        let d = are.so g.j g.among in
        let q : Some d.0 ≡ Some (greatest (drawn_by those row)) = sym (ids g.j d.0 d.1) ∙ g.drew in
        let e : d.0 ≡ greatest (drawn_by those row) = cc in
        let is : id ≡ greatest (drawn_by those row) = omega (arith, most g.j d.0 d.1, low j id drew) in
        was_with (greatest (drawn_by those row)) those row j (are.all j (id, drew)) (ids j id drew ∙ ap Some is)

    count : how_many (on those row) ≡ tied (drawn_by those row)
    count = how_many_with (greatest (drawn_by those row)) those row

    -- in a round before the leader's
    goes_on : round < el.last → Are (length logs) (on those row) (InRound (round + 1))
    goes_on less = record {
      count = length_with (greatest (drawn_by those row)) those row same ∙ are.count;
      so = λ j is.
          all_the_greatest_go_on logs el.are el.matches el.local el.i el.events el.last el.id el.state el.is_in el.leads
          j round (greatest (drawn_by those row)) less (drew_top j is) (λ k other h. low k other h);
      all = λ j next.
          (let b = the_greatest_go_on logs el.are el.matches el.local j el.state.term round next.0 pos next.1 in
          top_drew j b.0 b.1 b.2);
    }

    ties : round < el.last → tied (drawn_by those row) ≢ 1
    ties less e =
        let next = draws_before logs el el.i (el.last - (round + 1)) (round + 1) el.id (omega arith)
        (subst (λ (k : ℕ). Draws el.i k el.id) (omega arith) (leader_drew logs el).0) in
        let b = the_greatest_go_on logs el.are el.matches el.local el.i el.state.term round next.0 pos next.1 in
        omega (
          arith,
          e,
          count,
          two_so (on those row) b.3.0 el.i
              (top_drew b.3.0 b.0 b.3.2 b.2)
              (top_drew el.i b.0 b.1 b.2) b.3.1,
        )

    -- in the leader's
    module _ (here : round ≡ el.last) where
      led : Draws el.i round el.id
      led = subst (λ (k : ℕ). Draws el.i k el.id) (sym here) (leader_drew logs el).0

      less_there : (j other : ℕ) → j ≢ el.i → Draws j round other → other < el.id
      less_there j other ne drew =
          (leader_drew logs el).1 j other ne (subst (λ (k : ℕ). Draws j k other) here drew)

      most_there : (k other : ℕ) → Draws k round other → other ≤ el.id
      most_there k other drew = elim (cases_eq k el.i) [
        | inr ne ↦ omega (arith, less_there k other ne drew)
        | inl e ↦ omega (arith, one el.i round el.id other led (subst (λ (x : ℕ). Draws x round other) e drew))
      ]

      elected : slice_get (on those row) el.i ≡ Some true
      elected = top_drew el.i el.id led most_there

      alone : tied (drawn_by those row) ≡ 1
      alone = sym count ∙ one_so (on those row) el.i elected (λ j is. elim (cases_eq j el.i) [
        | inl e ↦ e
        | inr ne ↦ absurd (omega (
          arith,
          less_there j (greatest (drawn_by those row)) ne (drew_top j is),
          low el.i el.id led,
        ))
      ])

  -- from a round on, by the rows that are left
  from : (left round : ℕ) (those : List Bool) (rows : List (List ℕ)) → 1 ≤ round → round + left ≡ el.last
      → Are (length logs) those (InRound round) → left < length rows
      → ((r : ℕ) (row : List ℕ) → slice_get rows r ≡ Some row → length row ≡ length logs)
      → ((j r id : ℕ) (row : List ℕ) → slice_get rows r ≡ Some row → Draws j (round + r) id → slice_get row j ≡ Some id)
      → Elects those rows el.i
  from left round those [] pos sum are room wide ids = absurd (omega arith)
  from zero round those (row ∷ rows) pos sum are room wide ids =
      let here : round ≡ el.last = omega arith in
      let first : (j id : ℕ) → Draws j round id → slice_get row j ≡ Some id = λ j id drew.
      ids j 0 id row refl (subst (λ (k : ℕ). Draws j k id) (omega arith) drew) in
      inl (
        alone round pos those row are (wide 0 row refl) first here,
        elected round pos those row are (wide 0 row refl) first here,
      )
  from (suc left) round those (row ∷ rows) pos sum are room wide ids =
      let less : round < el.last = omega arith in
      let first : (j id : ℕ) → Draws j round id → slice_get row j ≡ Some id = λ j id drew.
      ids j 0 id row refl (subst (λ (k : ℕ). Draws j k id) (omega arith) drew) in
      inr (
        ties round pos those row are (wide 0 row refl) first less,
        from left (round + 1) (on those row) rows (omega arith) (omega arith)
            (goes_on round pos those row are (wide 0 row refl) first less) (omega (arith, room))
            (λ r x at. wide (suc r) x at)
            (λ j r id x at drew. ids j (suc r) id x at (subst (λ (k : ℕ). Draws j k id) (omega arith) drew)),
      )

-- ---- the laws

pub leaders_are_elected : LeadersAreElected
leaders_are_elected logs are matches local i events last id state is_in leads those rows starters table room =
    let el : Elected logs = record {
      are = are;
      matches = matches;
      local = local;
      i = i;
      events = events;
      last = last;
      id = id;
      state = state;
      is_in = is_in;
      leads = leads;
    } in
    let one = leader_round logs el in
    from logs el (last - 1) 1 those rows (omega arith) (omega arith)
    (record {
      count = starters.count;
      so = λ j is.
          all_who_start_draw logs are matches local i events last id state is_in leads j (starters.so j is);
      all = λ j drew. starters.all j (only_who_start_draw logs are matches local j state.term 1 drew.0 drew.1);
    })
    (omega arith) table.wide
    (λ j r d row at drew. table.ids j r d row at (subst (λ (k : ℕ). Drew logs j state.term k d) (omega arith) drew))

pub tables_elect_one : TablesElectOne
tables_elect_one those [] i j a b = absurd a
tables_elect_one those (row ∷ rows) i j (inl a) (inl b) = elim (cases_eq i j) [
  | inl same ↦ same
  | inr ne ↦ absurd (omega (
    arith,
    two_so (on those row) i j a.1 b.1 ne,
    how_many_with (greatest (drawn_by those row)) those row,
    a.0,
  ))
]
tables_elect_one those (row ∷ rows) i j (inl a) (inr b) = absurd (b.0 a.0)
tables_elect_one those (row ∷ rows) i j (inr a) (inl b) = absurd (a.0 b.0)
tables_elect_one those (row ∷ rows) i j (inr a) (inr b) = tables_elect_one (on those row) rows i j a.1 b.1

pub elected_is_somebody : ElectedIsSomebody
elected_is_somebody those [] i a = absurd a
elected_is_somebody those (row ∷ rows) i (inl a) =
    ap (λ (b : Bool). cond b 0 (elects_nobody (on those row) rows)) (eq-eqb (tied (drawn_by those row)) 1 a.0)
elected_is_somebody those (row ∷ rows) i (inr a) =
    ap (λ (b : Bool). cond b 0 (elects_nobody (on those row) rows)) (ne_eqb (tied (drawn_by those row)) 1 a.0)
    ∙ elected_is_somebody (on those row) rows i a.1
