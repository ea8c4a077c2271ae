-- Lists that begin with others.
use Rattle.std.proofs.Common.{◌≡◌, ℕ, suc, ◌≤◌, List, [], ◌∷◌, ◌++◌, length, Some, refl, ◌∙◌, ap, append-nil}
use Rattle.std.proofs.Common.{length-append, arith}
use Rattle.std.specs.Prelude.{slice_get}
use Rattle.std.proofs.lemmas.List.{append_cancel_left}
use Rattle.std.proofs.lemmas.List.Elements.{filter_map-append}
use Rattle.ira_event.specs.declared.event.Event.{Event}
use Rattle.ira_order.specs.Matching.{sending, sent}
use Rattle.ira_ring_setup.specs.FullRun.{BeginsWith}

-- of two beginnings of one list, equal but for their last items, the last items are equal, too
pub next_same : {X : Type 0} (xs ys zs : List X) (x y : X) → xs ++ x ∷ ys ≡ xs ++ y ∷ zs → x ≡ y
next_same xs ys zs x y h =
    let k : x ∷ ys ≡ y ∷ zs = append_cancel_left xs (x ∷ ys) (y ∷ zs) h in
    cc

-- a list that is no longer than its beginning is that beginning
no_longer : {X : Type 0} (xs ys rest : List X) → xs ≡ ys ++ rest → length xs ≤ length ys → xs ≡ ys
no_longer xs ys [] is few = is ∙ append-nil ys
no_longer xs ys (x ∷ rest) is few = absurd (omega (arith, ap length is, length-append ys (x ∷ rest)))

-- lists that begin with each other are the same
pub begin_each_other : {X : Type 0} (xs ys : List X) → BeginsWith xs ys → BeginsWith ys xs → xs ≡ ys
begin_each_other xs ys h k = no_longer xs ys h.0 h.1 (omega (arith, ap length k.1, length-append xs k.0))

-- the loads that the first of some events send are the first that all of them send
pub sends_begin : (es fs : List Event) → BeginsWith es fs → BeginsWith (sent es) (sent fs)
sends_begin es fs h = (sent h.0, ap sent h.1 ∙ filter_map-append sending fs h.0)

-- lists of one length with the same items are the same
pub same_items : {X : Type 0} (xs ys : List X) → length xs ≡ length ys
    → ((i : ℕ) (x y : X) → slice_get xs i ≡ Some x → slice_get ys i ≡ Some y → x ≡ y) → xs ≡ ys
same_items [] [] many each = refl
same_items [] (y ∷ ys) many each = absurd (omega arith)
same_items (x ∷ xs) [] many each = absurd (omega arith)
same_items (x ∷ xs) (y ∷ ys) many each =
    let head : x ≡ y = each 0 x y refl refl in
    let rest : xs ≡ ys = same_items xs ys (omega arith) (λ i a b. each (suc i) a b) in
    cc
