-- The nodes of a lone run before the first event.
use Rattle.std.proofs.Common.{◌≡◌, ℕ, ◌+◌, ◌<◌, Bool, false, inl, inr, List, [], ◌∷◌, ◌++◌, length, get_or, refl, sym}
use Rattle.std.proofs.Common.{◌∙◌, subst, ap, arith}
use Rattle.std.specs.Prelude.{map}
use Rattle.std.proofs.Math.Seq.{get_or-append_seam}
use Rattle.std.proofs.lemmas.List.{get_or_append_left, get_or_read, get_or-map, length-map}
use Rattle.ira_node.specs.NodeState.{first_state}
use Rattle.std.proofs.lemmas.Bool.{cases_eq}
use Rattle.ira_ring_setup.specs.Setup.{Setup, is_initiator, node_draws, KeepsRules}
use Rattle.ira_event.specs.Messages.{drawn}
use Rattle.ira_ring_setup.specs.FullRun.{opening_of}
use Rattle.ira_ring_alone.specs.LoneNode.{LoneNode}
use Rattle.ira_ring_alone.specs.LoneRing.{idle, node_at, IsReached}

abbrev pub first_node : Setup → ℕ → LoneNode
first_node s i = record { state = first_state (is_initiator s i); ids = node_draws s i; input = []; events = [] }

-- they are where the empty run leads
pub started : (s : Setup) (nodes : List LoneNode) → length nodes ≡ s.nodes
    → ((i : ℕ) → i < s.nodes → node_at nodes i ≡ first_node s i) → IsReached s nodes
started s nodes many each = record {
  many = many;
  run = [];
  point = opening_of s;
  walk = refl;
  states = λ i l. sym (ap (λ (x : LoneNode). x.state) (each i l));
  links = λ i l. sym (ap (λ (x : LoneNode). x.input) (each i l));
  events = λ i l. sym (ap (λ (x : LoneNode). x.events) (each i l));
  draws = λ i l. sym (ap (λ (x : LoneNode). drawn x.events ++ x.ids) (each i l));
}

-- one item more, of which the fact holds
pub each_more : {X : Type 0} (P : ℕ → X → Type 0) (d : X) (xs : List X) (x : X) (i : ℕ) → length xs ≡ i
    → ((j : ℕ) → j < i → P j (get_or xs j d)) → P i x → (j : ℕ) → j < i + 1 → P j (get_or (xs ++ x ∷ []) j d)
each_more {X} P d xs x i many each here j l = elim (cases_eq j i) [
  | inl e ↦
      let last : get_or (xs ++ x ∷ []) i d ≡ x =
      ap (λ (k : ℕ). get_or (xs ++ x ∷ []) k d) (sym many) ∙ get_or-append_seam xs x [] d in
      let Q : ℕ → Type 0 = λ k. P k (get_or (xs ++ x ∷ []) k d) in
      subst Q (sym e) (subst (P i) (sym last) here)
  | inr ne ↦ subst (P j) (sym (get_or_append_left xs (x ∷ []) d j (omega arith))) (each j (omega arith))
]

-- the node that the code makes of what it reads
made_of : {V : Type 0} (see : V
    → List ℕ) (n : ℕ) (kinds : List Bool) (rows : List V) (most terms i : ℕ) (node : LoneNode) (kind : Bool) (row : V)
    → i < length kinds → i < length rows
    → kind ≡ get_or kinds i kind → row ≡ get_or rows i row
    → node ≡ record { state = first_state kind; ids = see row; input = []; events = [] }
    → node ≡ first_node (record { nodes = n; initiators = kinds; draws = map see rows; cap = most; terms = terms }) i
made_of {V} see n kinds rows most terms i node kind row l m kind_is row_is is =
    let k : kind ≡ get_or kinds i false = get_or_read kinds i kind l kind_is false in
    let r : see row ≡ get_or (map see rows) i [] = ap see row_is ∙ sym (get_or-map see rows i row [] m) in
    is
    ∙ ap (λ (x : Bool). record { state = first_state x; ids = see row; input = []; events = [] }) k
    ∙ ap (λ (x : List ℕ). record { state = first_state (get_or kinds i false); ids = x; input = []; events = [] }) r

pub first_more : {V : Type 0} (see : V
    → List ℕ) (n : ℕ) (kinds : List Bool) (rows : List V) (most terms : ℕ) (s : Setup) (i : ℕ) (nodes : List LoneNode)
    (node : LoneNode) (kind : Bool) (row : V)
    → record { nodes = n; initiators = kinds; draws = map see rows; cap = most; terms = terms } ≡ s → KeepsRules s
    → i < n
    → kind ≡ get_or kinds i kind → row ≡ get_or rows i row
    → node ≡ record { state = first_state kind; ids = see row; input = []; events = [] }
    → length nodes ≡ i → ((j : ℕ) → j < i → node_at nodes j ≡ first_node s j) → (j : ℕ) → j < i + 1
    → node_at (nodes ++ node ∷ []) j ≡ first_node s j
first_more {V} see n kinds rows most terms s i nodes node kind row view rules l kind_is row_is is many each =
    let kinds_are : length kinds ≡ n = ap (λ (x : Setup). length x.initiators) view ∙ rules.lists.0
    ∙ sym (ap (λ (x : Setup). x.nodes) view) in
    let rows_are : length rows ≡ n = sym (length-map rows see) ∙ ap (λ (x : Setup). length x.draws) view ∙ rules.lists.1
    ∙ sym (ap (λ (x : Setup). x.nodes) view) in
    let P : Setup → Type 0 = λ x. node ≡ first_node x i in
    let here : node ≡ first_node s i =
    subst P view (made_of see n kinds rows most terms i node kind row (omega arith) (omega arith) kind_is row_is is)
    in
    each_more (λ j x. x ≡ first_node s j) idle nodes node i many each here
