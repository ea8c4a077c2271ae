-- Lists of draws, as the code holds them and as a setup is seen.
use Rattle.std.proofs.Common.{◌≡◌, ℕ, ◌<◌, ◌≤◌, ◌↔◌, Bool, false, List, [], ◌∷◌, All, IsTrue, length, get_or, sym, ap}
use Rattle.std.proofs.Common.{◌∙◌, subst, arith}
use Rattle.std.specs.Prelude.{map}
use Rattle.std.proofs.lemmas.List.{get_or-map, get_or_read, length-map}
use Rattle.ira_ring_setup.specs.Setup.{Setup, is_initiator, node_draws, IsForEachNode, GivesIds}

-- what holds of each row holds of each list that is seen of it, and the other way round
rows_seen : {V : Type 0} (see : V → List ℕ) (P : List ℕ → Type 0) (n : ℕ) (rows : List V) → length rows ≡ n
    → All (λ row. P (see row)) rows → (i : ℕ) → i < n → P (get_or (map see rows) i [])
rows_seen {V} see P n [] many all i l = absurd (omega arith)
rows_seen {V} see P n (r ∷ rows) many all i l =
    let within : i < length (r ∷ rows) = omega arith in
    rw (get_or-map see (r ∷ rows) i r [] within) (all i r within)

seen_rows : {V : Type 0} (see : V → List ℕ) (P : List ℕ → Type 0) (n : ℕ) (rows : List V) → length rows ≡ n
    → ((i : ℕ) → i < n → P (get_or (map see rows) i [])) → All (λ row. P (see row)) rows
seen_rows {V} see P n rows many each k d l = subst P (get_or-map see rows k d [] l) (each k (omega arith))

-- each row holds IDs exactly where the setup gives IDs
seen : {V : Type 0} (see : V → List ℕ) (n : ℕ) (kinds : List Bool) (rows : List V) (most terms : ℕ)
    (stopped_for_quiet : Bool)
    → IsForEachNode (record { nodes = n; initiators = kinds; draws = map see rows; cap = most; terms = terms })
    → (IsTrue stopped_for_quiet ↔ All (λ row. All (λ d. (1 ≤ d) × (d ≤ n)) (see row)) rows)
    → IsTrue stopped_for_quiet
    ↔ GivesIds (record { nodes = n; initiators = kinds; draws = map see rows; cap = most; terms = terms })
seen {V} see n kinds rows most terms stopped_for_quiet lists is =
    let P : List ℕ → Type 0 = λ ids. All (λ d. (1 ≤ d) × (d ≤ n)) ids in
    let many : length rows ≡ n = omega (arith, length-map rows see, lists.1) in (
      λ y. rows_seen see P n rows many (is.0 y),
      λ gives. is.1 (seen_rows see P n rows many gives),
    )

pub seen_ids : {V : Type 0} (see : V
    → List ℕ) (n : ℕ) (kinds : List Bool) (rows : List V) (most terms : ℕ) (stopped_for_quiet : Bool) (s : Setup)
    → record { nodes = n; initiators = kinds; draws = map see rows; cap = most; terms = terms } ≡ s → IsForEachNode s
    → (IsTrue stopped_for_quiet ↔ All (λ row. All (λ d. (1 ≤ d) × (d ≤ n)) (see row)) rows)
    → IsTrue stopped_for_quiet ↔ GivesIds s
seen_ids {V} see n kinds rows most terms stopped_for_quiet s is lists each =
    let P : Setup → Type 0 = λ x. IsForEachNode x → IsTrue stopped_for_quiet ↔ GivesIds x in
    subst P is (λ h. seen see n kinds rows most terms stopped_for_quiet h each) lists

-- what the code reads of a setup for a place
pub read_setup : {V : Type 0} (see : V
    → List ℕ) (n : ℕ) (kinds : List Bool) (rows : List V) (most terms : ℕ) (s : Setup) (i : ℕ) (kind : Bool) (row : V)
    → record { nodes = n; initiators = kinds; draws = map see rows; cap = most; terms = terms } ≡ s → IsForEachNode s
    → i < s.nodes
    → kind ≡ get_or kinds i kind → row ≡ get_or rows i row → (kind ≡ is_initiator s i) × (see row ≡ node_draws s i)
read_setup {V} see n kinds rows most terms s i kind row view lists l kind_is row_is =
    let nodes : n ≡ s.nodes = ap (λ (x : Setup). x.nodes) view in
    let kinds_are : length kinds ≡ s.nodes = ap (λ (x : Setup). length x.initiators) view ∙ lists.0 in
    let rows_are : length rows ≡ s.nodes =
    sym (length-map rows see) ∙ ap (λ (x : Setup). length x.draws) view ∙ lists.1 in (
      get_or_read kinds i kind (omega arith) kind_is false ∙ ap (λ (x : Setup). is_initiator x i) view,
      ap see row_is ∙ sym (get_or-map see rows i row [] (omega arith)) ∙ ap (λ (x : Setup). node_draws x i) view,
    )
