-- Of all ways to draw so many rounds few elect nobody.
use Rattle.std.proofs.Common.{◌≡◌, ℕ, zero, suc, ◌+◌, ◌*◌, ◌^◌, ◌<◌, ◌≤◌, ◌==◌, Bool, cond, inl, inr, true, false, List, []}
use Rattle.std.proofs.Common.{◌∷◌, length, refl, sym, ◌∙◌, subst, ap, arith}
use Rattle.std.specs.Prelude.{max}
use Rattle.std.proofs.Math.Nat.{pow-zero, pow-succ', mul-add, mul-le-mul_left, mul_assoc, mul_comm}
use Rattle.std.proofs.lemmas.Bool.{cases_eq, cases_lt, eq-eqb, ne_eqb}
use Rattle.std.proofs.lemmas.List.Sums.{count_by-le-length}
use Rattle.ira_election.specs.Ways.{total, over_draws, greatest, tied, elects}
use Rattle.ira_election.specs.Rounds.{how_many, drawn_by, with_id, elects_nobody, over_tables, FewElectNobody}
use Rattle.ira_election.proofs.Ways.{total_same, total_most, total_of, over_same, over_add, over_none, ways_to_draw}
use Rattle.ira_election.proofs.Ways.{at_least_half_elect, tops, tops_here, tops_other}

-- ---- sums

one_mul : (a : ℕ) → 1 * a ≡ a
one_mul a = omega arith

mul_one : (a : ℕ) → a * 1 ≡ a
mul_one a = omega arith

mul_swap : (a b c : ℕ) → a * (b * c) ≡ b * (a * c)
mul_swap a b c = sym (mul_assoc a b c) ∙ ap (λ (x : ℕ). x * c) (mul_comm a b) ∙ mul_assoc b a c

total_times : (n c : ℕ) (f : ℕ → ℕ) → total n (λ d. c * f d) ≡ c * total n f
total_times zero c f = sym (mul_zero c)
  where
    mul_zero : (c : ℕ) → c * 0 ≡ 0
    mul_zero c = omega arith
total_times (suc n) c f = omega (arith, total_times n c f, mul-add c (total n f) (f (suc n)))

over_times : (n k c : ℕ) (w : List ℕ → ℕ) → over_draws n k (λ ds. c * w ds) ≡ c * over_draws n k w
over_times n zero c w = refl
over_times n (suc k) c w =
    total_same n (λ d. over_draws n k (λ ds. c * w (d ∷ ds))) (λ d. c * over_draws n k (λ ds. w (d ∷ ds)))
    (λ d one low. over_times n k c (λ ds. w (d ∷ ds)))
    ∙ total_times n c (λ d. over_draws n k (λ ds. w (d ∷ ds)))

over_most : (n k : ℕ) (w v : List ℕ → ℕ) → ((ds : List ℕ) → length ds ≡ k → w ds ≤ v ds)
    → over_draws n k w ≤ over_draws n k v
over_most n zero w v h = h [] refl
over_most n (suc k) w v h =
    total_most n (λ d. over_draws n k (λ ds. w (d ∷ ds))) (λ d. over_draws n k (λ ds. v (d ∷ ds))) (λ d one low.
    over_most n k (λ ds. w (d ∷ ds)) (λ ds. v (d ∷ ds)) (λ ds is. h (d ∷ ds) (omega (arith, is))))

tables_none : (n k rounds : ℕ) → over_tables n k rounds (λ rows. 0) ≡ 0
tables_none n k zero = refl
tables_none n k (suc rounds) =
    over_same n k (λ row. over_tables n k rounds (λ rows. 0)) (λ row. 0) (λ row is. tables_none n k rounds)
    ∙ over_none n k

tables_cond : (n k rounds : ℕ) (b : Bool) (w : List (List ℕ) → ℕ)
    → over_tables n k rounds (λ rows. cond b 0 (w rows)) ≡ cond b 0 (over_tables n k rounds w)
tables_cond n k rounds true w = tables_none n k rounds
tables_cond n k rounds false w = refl

tables_more : (n k rounds : ℕ)
    → over_tables n k (suc rounds) (λ rows. 1) ≡ over_tables n k rounds (λ rows. 1) * n ^ k
tables_more n k rounds =
    let c : ℕ = over_tables n k rounds (λ rows. 1) in
    over_same n k (λ row. c) (λ row. c * 1) (λ row is. sym (mul_one c))
    ∙ over_times n k c (λ row. 1)
    ∙ ap (λ (x : ℕ). c * x) (ways_to_draw n k)

-- ---- those still in it

outs : List Bool → ℕ
outs [] = 0
outs (true ∷ bs) = outs bs
outs (false ∷ bs) = suc (outs bs)

-- what the others draw doesn't matter
over_those : (n : ℕ) (those : List Bool) (w : List ℕ → ℕ)
    → over_draws n (length those) (λ row. w (drawn_by those row)) ≡ n ^ outs those * over_draws n (how_many those) w
unfolding outs
over_those n [] w = sym (ap (λ (x : ℕ). x * w []) (pow-zero n) ∙ one_mul (w []))
over_those n (true ∷ bs) w =
    total_same n (λ d. over_draws n (length bs) (λ row. w (d ∷ drawn_by bs row)))
    (λ d. n ^ outs bs * over_draws n (how_many bs) (λ ds. w (d ∷ ds)))
    (λ d one low. over_those n bs (λ ds. w (d ∷ ds)))
    ∙ total_times n (n ^ outs bs) (λ d. over_draws n (how_many bs) (λ ds. w (d ∷ ds)))
over_those n (false ∷ bs) w =
    total_same n (λ d. over_draws n (length bs) (λ row. w (drawn_by bs row)))
    (λ d. n ^ outs bs * over_draws n (how_many bs) w) (λ d one low. over_those n bs w)
    ∙ total_of n (n ^ outs bs * over_draws n (how_many bs) w)
    ∙ sym (mul_assoc n (n ^ outs bs) (over_draws n (how_many bs) w))
    ∙ ap (λ (x : ℕ). x * over_draws n (how_many bs) w) (sym (pow-succ' n (outs bs)))

all_power : (n : ℕ) (those : List Bool) → n ^ outs those * n ^ how_many those ≡ n ^ length those
all_power n those =
    ap (λ (x : ℕ). n ^ outs those * x) (sym (ways_to_draw n (how_many those)))
    ∙ sym (over_those n those (λ ds. 1)) ∙ ways_to_draw n (length those)

length_drawn : (those : List Bool) (row : List ℕ) → length row ≡ length those
    → length (drawn_by those row) ≡ how_many those
length_drawn [] row e = refl
length_drawn (b ∷ bs) [] e = absurd (omega (arith, e))
length_drawn (true ∷ bs) (d ∷ row) e = omega (arith, length_drawn bs row (omega (arith, e)))
length_drawn (false ∷ bs) (d ∷ row) e = length_drawn bs row (omega (arith, e))

pub length_with : (id : ℕ) (those : List Bool) (row : List ℕ) → length row ≡ length those
    → length (with_id id those row) ≡ length those
length_with id [] row e = refl
length_with id (b ∷ bs) [] e = absurd (omega (arith, e))
length_with id (true ∷ bs) (d ∷ row) e = omega (arith, length_with id bs row (omega (arith, e)))
length_with id (false ∷ bs) (d ∷ row) e = omega (arith, length_with id bs row (omega (arith, e)))

-- as many go on as drew the ID
pub how_many_with : (id : ℕ) (those : List Bool) (row : List ℕ)
    → how_many (with_id id those row) ≡ tops id (drawn_by those row)
how_many_with id [] row = refl
how_many_with id (b ∷ bs) [] = refl
how_many_with id (false ∷ bs) (d ∷ row) = how_many_with id bs row
how_many_with id (true ∷ bs) (d ∷ row) = elim (cases_eq d id) [
  | inl same ↦
      ap (λ (b : Bool). how_many (b ∷ with_id id bs row)) (eq-eqb d id same)
      ∙ ap (λ (x : ℕ). suc x) (how_many_with id bs row)
      ∙ sym (tops_here id d (drawn_by bs row) same)
  | inr ne ↦
      ap (λ (b : Bool). how_many (b ∷ with_id id bs row)) (ne_eqb d id ne)
      ∙ how_many_with id bs row
      ∙ sym (tops_other id d (drawn_by bs row) ne)
]

some_tied : (ds : List ℕ) → 1 ≤ length ds → 1 ≤ tied ds
some_tied [] some = absurd (omega arith)
some_tied (d ∷ ds) some = elim (cases_lt d (greatest ds)) [
  | inr ge ↦ omega (arith, tops_here (max d (greatest ds)) d ds (omega arith))
  | inl low ↦
      let top : max d (greatest ds) ≡ greatest ds = omega arith in
      subst (λ (x : ℕ). 1 ≤ tops x (d ∷ ds)) (sym top)
      (omega (arith, tops_other (greatest ds) d ds (λ e. omega arith), some_tied ds (longer ds low)))
]
  where
    longer : (ds : List ℕ) → d < greatest ds → 1 ≤ length ds
    longer [] l = absurd (omega arith)
    longer (x ∷ xs) l = omega arith

-- ---- one round

abbrev loses : List ℕ → ℕ
loses ds = cond (tied ds == 1) 0 1

half_lose : (n k : ℕ) → 1 ≤ k → k ≤ n → 2 * over_draws n k loses ≤ n ^ k
half_lose n k one low =
    omega (arith, both, over_add n k elects loses, ways_to_draw n k, at_least_half_elect n k one low)
  where
    either : (b : Bool) → cond {A = ℕ} b 1 0 + cond {A = ℕ} b 0 1 ≡ 1
    either true = omega arith
    either false = omega arith

    both : over_draws n k (λ ds. elects ds + loses ds) ≡ over_draws n k (λ ds. 1)
    both = over_same n k (λ ds. elects ds + loses ds) (λ ds. 1) (λ ds is. either (tied ds == 1))

cond_most : (b : Bool) (c x m : ℕ) → (b ≡ false → c * x ≤ m) → c * cond {A = ℕ} b 0 x ≤ m * cond {A = ℕ} b 0 1
cond_most true c x m h = omega arith
cond_most false c x m h = omega (arith, h refl)

pub few_elect_nobody : FewElectNobody
few_elect_nobody n zero those one low = omega (arith, pow-zero 2)
few_elect_nobody n (suc rounds) those one low =
    let k : ℕ = length those in
    let m : ℕ = over_tables n k rounds (λ rows. 1) in
    let c : ℕ = 2 ^ rounds in
    let inner : List ℕ → ℕ = λ row. over_tables n k rounds (λ rows. elects_nobody those (row ∷ rows)) in
    let lost : ℕ = over_draws n (how_many those) loses in
    let rows_most : over_draws n k (λ row. c * inner row) ≤ over_draws n k (λ row. m * loses (drawn_by those row)) =
    over_most n k (λ row. c * inner row) (λ row. m * loses (drawn_by those row)) (λ row is.
    let next : List Bool = with_id (greatest (drawn_by those row)) those row in
    let same : length next ≡ k = length_with (greatest (drawn_by those row)) those row is in
    let count : how_many next ≡ tied (drawn_by those row) =
    how_many_with (greatest (drawn_by those row)) those row in
    let some = some_tied (drawn_by those row) (omega (arith, length_drawn those row is, one)) in
    let most = count_by-le-length (λ (d : ℕ). d == greatest (drawn_by those row)) (drawn_by those row) in
    let before : c * over_tables n k rounds (elects_nobody next) ≤ m =
    subst (λ (x : ℕ). c * over_tables n x rounds (elects_nobody next) ≤ over_tables n x rounds (λ rows. 1)) same
    (few_elect_nobody n rounds next (omega (arith, count, some))
    (omega (arith, count, most, length_drawn those row is, low))) in
    subst (λ (x : ℕ). c * x ≤ m * loses (drawn_by those row))
    (sym (tables_cond n k rounds (tied (drawn_by those row) == 1) (elects_nobody next)))
    (cond_most (tied (drawn_by those row) == 1) c (over_tables n k rounds (elects_nobody next)) m (λ e. before))) in
    let sum : over_draws n k (λ row. m * loses (drawn_by those row)) ≡ m * (n ^ outs those * lost) =
    over_times n k m (λ row. loses (drawn_by those row)) ∙ ap (λ (x : ℕ). m * x) (over_those n those loses) in
    let half : m * (n ^ outs those * (2 * lost)) ≤ m * n ^ k =
    subst (λ (x : ℕ). m * (n ^ outs those * (2 * lost)) ≤ m * x) (all_power n those)
    (mul-le-mul_left m (mul-le-mul_left (n ^ outs those) (half_lose n (how_many those) one low))) in
    let two : m * (n ^ outs those * (2 * lost)) ≡ 2 * (m * (n ^ outs those * lost)) =
    ap (λ (x : ℕ). m * x) (mul_swap (n ^ outs those) 2 lost) ∙ mul_swap m 2 (n ^ outs those * lost) in
    let whole : 2 ^ suc rounds * over_draws n k inner ≡ 2 * over_draws n k (λ row. c * inner row) =
    ap (λ (x : ℕ). x * over_draws n k inner) (pow-succ' 2 rounds) ∙ mul_assoc 2 c (over_draws n k inner)
    ∙ ap (λ (x : ℕ). 2 * x) (sym (over_times n k c inner)) in
    omega (arith, whole, rows_most, sum, half, two, tables_more n k rounds)
