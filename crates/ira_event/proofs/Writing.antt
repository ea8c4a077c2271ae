-- Texts that are written in several turns.
use Rattle.std.proofs.Common.{◌≡◌, ℕ, List, [], ◌++◌, Option, Some, None, Result, Ok, Err, refl, sym, ◌∙◌, ap, subst}
use Rattle.std.proofs.Common.{append_assoc}
use Rattle.std.proofs.lemmas.List.{append-nil}
use Rattle.std.specs.Io.KnownBytes.{Appends}
use Rattle.ira_event.specs.Sink.{SinkState, Wrote, Takes, StopsIn, one_more}

-- nothing more is taken
pub Appends-nothing : (t : Option (List ℕ)) → Appends t t []
Appends-nothing None = tt
Appends-nothing (Some xs) = sym (append-nil xs)

-- what is taken in two turns
pub Appends-append : (t u v : Option (List ℕ)) (x y : List ℕ) → Appends t u x → Appends u v y → Appends t v (x ++ y)
Appends-append None u v x y p q = tt
Appends-append (Some xs) None v x y p q = absurd p
Appends-append (Some xs) (Some ys) None x y p q = absurd q
Appends-append (Some xs) (Some ys) (Some zs) x y p q = q ∙ ap (λ w. w ++ y) p ∙ append_assoc xs x y

-- a text is written in two turns
pub Takes-append : (s t u : SinkState) (a b : List ℕ) → Takes a s t → Takes b t u → Takes (a ++ b) s u
Takes-append s t u a b p q = record {
  took = Appends-append s.taken t.taken u.taken a b p.took q.took;
  same = q.same ∙ p.same;
}

pub Takes-StopsIn : (s t u : SinkState) (a b : List ℕ) → Takes a s t → StopsIn b t u → StopsIn (a ++ b) s u
Takes-StopsIn s t u a b p q = record {
  front = a ++ q.front;
  back = q.back;
  parts = append_assoc a q.front q.back ∙ ap (λ w. a ++ w) q.parts;
  took = Appends-append s.taken t.taken u.taken a q.front p.took q.took;
  failed = q.failed ∙ ap one_more p.same;
}

-- a failure in the first part is one of the whole
pub StopsIn-append : (s t : SinkState) (a b : List ℕ) → StopsIn a s t → StopsIn (a ++ b) s t
StopsIn-append s t a b p = record {
  front = p.front;
  back = p.back ++ b;
  parts = sym (append_assoc p.front p.back b) ∙ ap (λ w. w ++ b) p.parts;
  took = p.took;
  failed = p.failed;
}

pub Wrote-then : {T E : Type 0} (r : Result T E) (s t u : SinkState) (a b : List ℕ) → Takes a s t → Wrote r b t u
    → Wrote r (a ++ b) s u
Wrote-then (Ok _) s t u a b p q = Takes-append s t u a b p q
Wrote-then (Err _) s t u a b p q = Takes-StopsIn s t u a b p q

-- a writer has written a front of its text, and this rest is left
pub record HasWritten (text rest : List ℕ) (old new : SinkState) : Type 0 where
  pub front : List ℕ
  pub parts : front ++ rest ≡ text
  pub takes : Takes front old new

pub HasWritten-start : (text : List ℕ) (s : SinkState) → HasWritten text text s s
HasWritten-start text s =
    record { front = []; parts = refl; takes = record { took = Appends-nothing s.taken; same = refl } }

-- a piece more is written
pub HasWritten-more : (text left piece rest : List ℕ) (s t u : SinkState) → HasWritten text left s t
    → piece ++ rest ≡ left → Takes piece t u → HasWritten text rest s u
HasWritten-more text left piece rest s t u p e q = record {
  front = p.front ++ piece;
  parts = append_assoc p.front piece rest ∙ ap (λ w. p.front ++ w) e ∙ p.parts;
  takes = Takes-append s t u p.front piece p.takes q;
}

-- the sink fails in the next piece
pub HasWritten-stops : {T E : Type 0} (r : Result T E) (y : E) → r ≡ Err y
    → (text left piece rest : List ℕ) (s t u : SinkState) → HasWritten text left s t → piece ++ rest ≡ left
    → StopsIn piece t u → Wrote r text s u
HasWritten-stops r y is text left piece rest s t u p e q =
    rw is (subst (λ (x : List ℕ). StopsIn x s u) (ap (λ w. p.front ++ w) e
    ∙ p.parts) (Takes-StopsIn s t u p.front (piece ++ rest) p.takes (StopsIn-append t u piece rest q)))

-- the last piece is written, or the sink fails in it
pub HasWritten-last : {T E : Type 0} (r : Result T E) (text left piece : List ℕ) (s t u : SinkState)
    → HasWritten text left s t → piece ≡ left → Wrote r piece t u → Wrote r text s u
HasWritten-last r text left piece s t u p e q =
    subst (λ (x : List ℕ). Wrote r x s u) (ap (λ w. p.front ++ w) e
    ∙ p.parts) (Wrote-then r s t u p.front piece p.takes q)

pub ruleset writes = (Takes-append, Takes-StopsIn, StopsIn-append, Wrote-then)
