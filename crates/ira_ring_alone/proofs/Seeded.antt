-- Setups whose nodes draw from a seed.
use Rattle.std.proofs.Common.{◌≡◌, ℕ, zero, suc, ◌<◌, ◌≤◌, Bool, true, false, List, [], ◌∷◌, ◌++◌, Some, All, length}
use Rattle.std.proofs.Common.{get_or, refl, sym, ◌∙◌, subst, ap, arith}
use Rattle.std.specs.Prelude.{map, slice_get, IfSome}
use Rattle.std.specs.List.{list_any}
use Rattle.std.proofs.lemmas.List.{get_or-map, length-map}
use Rattle.std.proofs.lemmas.List.FromFn.{length-map-range_with_len, get_or-map-range_with_len}
use Rattle.rand_core.specs.Steps.{first_words}
use Rattle.rand_pcg.specs.Lcg.{Lcg}
use Rattle.rand_pcg.specs.Pcg.{pcg32}
use Rattle.ira_event.specs.Limits.{MAX_NUMBER, MAX_RECORDS}
use Rattle.ira_event.specs.RingSize.{IsRingSize}
use Rattle.ira_ring_setup.specs.declared.node_end.NodeEnd.{NodeEnd}
use Rattle.ira_ring_setup.specs.declared.node_end.NodeEnd.TheVariants.{Leader, Stopped, DrawsSpent, LogFull, NoStep, Quiet}
use Rattle.ira_ring_setup.specs.NodeEnd.{is_draws_spent}
use Rattle.ira_ring_setup.specs.Setup.{Setup, node_draws, HasInitiator, KeepsRules}
use Rattle.ira_ring_setup.specs.Draws.{draws, generator, id_of_word}
use Rattle.ira_ring_setup.specs.Run.{Run}
use Rattle.ira_ring_setup.specs.FullRun.{BeginsWith}
use Rattle.ira_ring_setup.specs.ShownEnd.{IsLoneRun}
use Rattle.ira_ring_alone.specs.SeededRun.{seeded, IsSeeded}
use Rattle.ira_ring_setup.proofs.Drawing.{draws_of}
use Rattle.ira_ring_setup.proofs.MoreDraws.{with_draws, lone_run_still}

-- ---- the setup, as the code makes it and as it is defined

rows_drawn : {V : Type 0} (see : V → List ℕ) (f : ℕ → List ℕ) (rows : List V)
    → ((place : ℕ) → IfSome (slice_get rows place) (λ v. see v ≡ f place)) → (i : ℕ) → i < length rows
    → get_or (map see rows) i [] ≡ f i
rows_drawn {V} see f [] each i l = absurd (omega arith)
rows_drawn {V} see f (r ∷ rows) each zero l = each 0
rows_drawn {V} see f (r ∷ rows) each (suc i) l =
    rows_drawn see (λ j. f (suc j)) rows (λ j. each (suc j)) i (omega arith)

pub made_seeded : {V : Type 0} (see : V
    → List ℕ) (n seed k cap terms : ℕ) (kinds held : List Bool) (rows : List V) (s : Setup)
    → record { nodes = n; initiators = held; draws = map see rows; cap = cap; terms = terms } ≡ s
    → held ≡ kinds → length rows ≡ n → ((place : ℕ) → IfSome (slice_get rows place) (λ v. see v ≡ draws n seed place k))
    → IsSeeded n kinds seed k cap terms s
made_seeded {V} see n seed k cap terms kinds held rows s is same many each =
    subst (IsSeeded n kinds seed k cap terms) is record {
      nodes = refl;
      initiators = same;
      many = length-map rows see ∙ many;
      draws = λ i l. rows_drawn see (λ place. draws n seed place k) rows each i (omega (arith, many));
      limit = refl;
      last = refl;
    }

pub seeded_is : (n : ℕ) (kinds : List Bool) (seed k cap terms : ℕ)
    → IsSeeded n kinds seed k cap terms (seeded n kinds seed k cap terms)
seeded_is n kinds seed k cap terms = record {
  nodes = refl;
  initiators = refl;
  many = length-map-range_with_len (λ place. draws n seed place k) 0 n;
  draws = λ i l. get_or-map-range_with_len (λ place. draws n seed place k) 0 n i i [] l (omega arith);
  limit = refl;
  last = refl;
}

-- ---- the rules hold of both, or of neither

ids_drawn : (n : ℕ) (words : List ℕ) → 1 ≤ n → All (λ d. (1 ≤ d) × (d ≤ n)) (map (id_of_word n) words)
ids_drawn n words some i d l =
    let is : get_or (map (id_of_word n) words) i d ≡ id_of_word n (get_or words i 0) =
    get_or-map (id_of_word n) words i 0 d (omega (arith, length-map words (id_of_word n))) in
    subst (λ (x : ℕ). (1 ≤ x) × (x ≤ n)) (sym is) (omega arith, omega arith)

pub same_rules : (n : ℕ) (kinds : List Bool) (seed k m cap terms : ℕ) (s t : Setup)
    → IsSeeded n kinds seed k cap terms s → IsSeeded n kinds seed m cap terms t → KeepsRules s → KeepsRules t
same_rules n kinds seed k m cap terms s t a b rules =
    let size : t.nodes ≡ s.nodes = b.nodes ∙ sym a.nodes in
    let same : t.initiators ≡ s.initiators = b.initiators ∙ sym a.initiators in
    let P : List Bool → Type 0 = λ xs. get_or xs rules.initiator.0 false ≡ true in
    let R : ℕ → List ℕ → Type 0 = λ x ids. All (λ d. (1 ≤ d) × (d ≤ x)) ids in
    record {
      size = subst IsRingSize (sym size) rules.size;
      lists = (ap length same ∙ rules.lists.0 ∙ sym size, b.many ∙ sym b.nodes);
      initiator = (rules.initiator.0, omega (arith, rules.initiator.1, size), subst P (sym same) rules.initiator.2);
      ids = λ i l. subst (λ (x : ℕ). R x (node_draws t i)) (sym b.nodes)
          (subst (R n) (sym (b.draws i (omega (arith, b.nodes))))
          (ids_drawn n _ (omega (arith, a.nodes, rules.size.0))));
      cap = (omega (arith, rules.cap.0, a.limit, b.limit), omega (arith, rules.cap.1, a.limit, b.limit));
      terms = (omega (arith, rules.terms.0, a.last, b.last), omega (arith, rules.terms.1, a.last, b.last));
    }

-- the rules, where they hold of all but the draws
pub keeps_all : (n : ℕ) (kinds : List Bool) (seed k cap terms : ℕ) → IsRingSize n → length kinds ≡ n
    → HasInitiator (seeded n kinds seed k cap terms) → (1 ≤ cap) × (cap ≤ MAX_RECORDS) → (1 ≤ terms)
    × (terms ≤ MAX_NUMBER) → KeepsRules (seeded n kinds seed k cap terms)
keeps_all n kinds seed k cap terms size many some within last =
    let is : IsSeeded n kinds seed k cap terms (seeded n kinds seed k cap terms) = seeded_is n kinds seed k cap terms in
    record {
      size = size;
      lists = (many, is.many);
      initiator = some;
      ids = λ i l. subst (All (λ d. (1 ≤ d) × (d ≤ n))) (sym (is.draws i l)) (ids_drawn n _ (omega (arith, size.0)));
      cap = within;
      terms = last;
    }

-- ---- more draws begin with fewer

begins : (n k m : ℕ) (g : Lcg) → k ≤ m → BeginsWith (draws_of n m g) (draws_of n k g)
unfolding first_words
begins n zero m g l = (draws_of n m g, refl)
begins n (suc k) zero g l = absurd (omega arith)
begins n (suc k) (suc m) g l =
    let rest = begins n k m (pcg32 g).1 (omega arith) in
    (rest.0, ap (λ (ids : List ℕ). id_of_word n (pcg32 g).0 ∷ ids) rest.1)

more : (n : ℕ) (kinds : List Bool) (seed k m cap terms : ℕ) (s t : Setup) → IsSeeded n kinds seed k cap terms s
    → IsSeeded n kinds seed m cap terms t → k ≤ m → (i : ℕ) → i < s.nodes → BeginsWith (node_draws t i) (node_draws s i)
more n kinds seed k m cap terms s t a b l i here =
    let within : i < n = omega (arith, a.nodes) in
    let rest = begins n k m (generator seed i) l in
    (rest.0, b.draws i within ∙ rest.1 ∙ ap (λ (ids : List ℕ). ids ++ rest.0) (sym (a.draws i within)))

-- ---- a run of the one is a run of the other

none_spent : (ends : List NodeEnd) (i : ℕ) → list_any is_draws_spent ends ≡ false → slice_get ends i ≡ Some DrawsSpent
    → ⊥
none_spent [] i none at = cc
none_spent (DrawsSpent ∷ ends) i none at = cc
none_spent (Leader ∷ ends) zero none at = cc
none_spent (Stopped ∷ ends) zero none at = cc
none_spent (LogFull ∷ ends) zero none at = cc
none_spent (NoStep m ∷ ends) zero none at = cc
none_spent (Quiet ∷ ends) zero none at = cc
none_spent (Leader ∷ ends) (suc i) none at = none_spent ends i none at
none_spent (Stopped ∷ ends) (suc i) none at = none_spent ends i none at
none_spent (LogFull ∷ ends) (suc i) none at = none_spent ends i none at
none_spent (NoStep m ∷ ends) (suc i) none at = none_spent ends i none at
none_spent (Quiet ∷ ends) (suc i) none at = none_spent ends i none at

same_but_draws : (n : ℕ) (kinds : List Bool) (seed k m cap terms : ℕ) (s t : Setup)
    → IsSeeded n kinds seed k cap terms s → IsSeeded n kinds seed m cap terms t → with_draws s t.draws ≡ t
same_but_draws n kinds seed k m cap terms s t a b =
    ap (λ (x : ℕ). record { nodes = x; initiators = s.initiators; draws = t.draws; cap = s.cap; terms = s.terms })
    (a.nodes ∙ sym b.nodes)
    ∙ ap (λ (x : List Bool). record { nodes = t.nodes; initiators = x; draws = t.draws; cap = s.cap; terms = s.terms })
    (a.initiators ∙ sym b.initiators)
    ∙ ap (λ (x : ℕ). record { nodes = t.nodes; initiators = t.initiators; draws = t.draws; cap = x; terms = s.terms })
    (a.limit ∙ sym b.limit)
    ∙ ap (λ (x : ℕ). record { nodes = t.nodes; initiators = t.initiators; draws = t.draws; cap = t.cap; terms = x })
    (a.last ∙ sym b.last)

-- where nobody lacked a draw
pub lone_of_more : (n : ℕ) (kinds : List Bool) (seed k m cap terms : ℕ) (s t : Setup) (run : Run)
    → IsSeeded n kinds seed k cap terms s → IsSeeded n kinds seed m cap terms t → k ≤ m
    → list_any is_draws_spent run.ends ≡ false → IsLoneRun s run → IsLoneRun t run
lone_of_more n kinds seed k m cap terms s t run a b l none lone =
    subst (λ (x : Setup). IsLoneRun x run) (same_but_draws n kinds seed k m cap terms s t a b)
    (lone_run_still s t.draws (more n kinds seed k m cap terms s t a b l) run (λ i here at.
    absurd (none_spent run.ends i none at)) lone)

-- where the draws are the same
pub lone_of_same : (n : ℕ) (kinds : List Bool) (seed k cap terms : ℕ) (s t : Setup) (run : Run)
    → IsSeeded n kinds seed k cap terms s → IsSeeded n kinds seed k cap terms t → IsLoneRun s run → IsLoneRun t run
lone_of_same n kinds seed k cap terms s t run a b lone =
    subst (λ (x : Setup). IsLoneRun x run) (same_but_draws n kinds seed k k cap terms s t a b)
    (lone_run_still s t.draws (more n kinds seed k k cap terms s t a b (omega arith)) run (λ i here at.
    b.draws i (omega (arith, a.nodes)) ∙ sym (a.draws i (omega (arith, a.nodes)))) lone)
