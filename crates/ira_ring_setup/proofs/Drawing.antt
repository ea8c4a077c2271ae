-- The draws of a node, one word of its generator after the other.
use Rattle.std.proofs.Common.{◌≡◌, ℕ, zero, suc, ◌+◌, ◌-◌, ◌<◌, List, [], ◌∷◌, ◌++◌, length, sym, ap, subst, ◌∙◌}
use Rattle.std.proofs.Common.{append_assoc, arith}
use Rattle.std.specs.Prelude.{map, slice_get, IfSome}
use Rattle.std.proofs.lemmas.List.{append-nil}
use Rattle.rand_core.specs.Steps.{first_words}
use Rattle.rand_pcg.specs.Lcg.{Lcg}
use Rattle.rand_pcg.specs.Pcg.{pcg32}
use Rattle.ira_ring_setup.specs.Draws.{id_of_word}

-- the draws of the next m words of a generator
abbrev pub draws_of : ℕ → ℕ → Lcg → List ℕ
draws_of n m g = map (id_of_word n) (first_words pcg32 m g)

-- one word more is drawn
pub draws-more : (n k i : ℕ) (g h : Lcg) (list longer all : List ℕ) (w : ℕ) → i < k → (w, h) ≡ pcg32 g
    → longer ≡ list ++ id_of_word n w ∷ [] → list ++ draws_of n (k - i) g ≡ all
    → longer ++ draws_of n (k - (i + 1)) h ≡ all
unfolding first_words
draws-more n k i g h list longer all w lt word more so_far =
    let split : k - i ≡ suc (k - (i + 1)) = omega arith in
    let then : list ++ id_of_word n (pcg32 g).0 ∷ draws_of n (k - (i + 1)) (pcg32 g).1 ≡ all =
    subst (λ (m : ℕ). list ++ draws_of n m g ≡ all) split so_far in
    ap (λ xs. xs ++ draws_of n (k - (i + 1)) h) more
    ∙ append_assoc list (id_of_word n w ∷ []) (draws_of n (k - (i + 1)) h)
    ∙ ap (λ (x : ℕ × Lcg). list ++ id_of_word n x.0 ∷ draws_of n (k - (i + 1)) x.1) word ∙ then

-- no word is left to draw
pub draws-all : (n m : ℕ) (g : Lcg) (list all : List ℕ) → m ≡ 0 → list ++ draws_of n m g ≡ all → list ≡ all
unfolding first_words
draws-all n m g list all none so_far =
    let then : list ++ draws_of n 0 g ≡ all = subst (λ (x : ℕ). list ++ draws_of n x g ≡ all) none so_far in
    sym (append-nil list) ∙ then

-- a fact of each member, and of one more after them
pub each-push : {X : Type 0} (xs : List X) (P : ℕ → X → Type 0) (x : X) → ((i : ℕ) → IfSome (slice_get xs i) (P i))
    → P (length xs) x → (i : ℕ) → IfSome (slice_get (xs ++ x ∷ []) i) (P i)
each-push [] P x e q zero = q
each-push [] P x e q (suc i) = tt
each-push (y ∷ ys) P x e q zero = e 0
each-push (y ∷ ys) P x e q (suc i) = each-push ys (λ j. P (suc j)) x (λ j. e (suc j)) q i
