-- Rounds of draws, told in advance: a table has a row for each round, and in it an ID for each node.
use Rattle.std.specs.Prelude.{ℕ, zero, suc, ◌*◌, ◌^◌, ◌≤◌, ◌==◌, Bool, true, false, cond, List, [], ◌∷◌, length}
use Rattle.ira_election.specs.Ways.{over_draws, greatest, tied}

-- how many nodes are still in it
abbrev pub how_many : List Bool → ℕ
how_many [] = 0
how_many (true ∷ bs) = suc (how_many bs)
how_many (false ∷ bs) = how_many bs

-- what they draw, of a row
abbrev pub drawn_by : List Bool → List ℕ → List ℕ
drawn_by [] row = []
drawn_by (b ∷ bs) [] = []
drawn_by (true ∷ bs) (d ∷ row) = d ∷ drawn_by bs row
drawn_by (false ∷ bs) (d ∷ row) = drawn_by bs row

-- which of them drew this ID, and so go on where it is the greatest
abbrev pub with_id : ℕ → List Bool → List ℕ → List Bool
with_id id [] row = []
with_id id (b ∷ bs) [] = []
with_id id (true ∷ bs) (d ∷ row) = (d == id) ∷ with_id id bs row
with_id id (false ∷ bs) (d ∷ row) = false ∷ with_id id bs row

-- 1 where no round elects, and 0 where one does: where one node of those still in it has the greatest
abbrev pub elects_nobody : List Bool → List (List ℕ) → ℕ
elects_nobody those [] = 1
elects_nobody those (row ∷ rows) =
    cond (tied (drawn_by those row) == 1) 0 (elects_nobody (with_id (greatest (drawn_by those row)) those row) rows)

-- the sum of w over all tables of so many rows of k IDs of 1 to n
abbrev pub over_tables : ℕ → ℕ → ℕ → (List (List ℕ) → ℕ) → ℕ
over_tables n k zero w = w []
over_tables n k (suc rounds) w = over_draws n k (λ row. over_tables n k rounds (λ rows. w (row ∷ rows)))

-- of all tables at most one in 2^rounds elects nobody, where no more nodes are in it than there are IDs
abbrev pub FewElectNobody : Type 0
FewElectNobody =
    (n rounds : ℕ) (those : List Bool) → 1 ≤ how_many those → how_many those ≤ n
    → 2 ^ rounds * over_tables n (length those) rounds (elects_nobody those)
    ≤ over_tables n (length those) rounds (λ rows. 1)
