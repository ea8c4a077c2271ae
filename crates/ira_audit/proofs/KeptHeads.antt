-- Logs of which the heads alone are kept, since there are too many of them for one ring.
use Rattle.std.proofs.Common.{◌≡◌, ℕ, zero, suc, ◌≤◌, inl, inr, List, [], ◌∷◌, ◌++◌, Some}
use Rattle.std.proofs.Common.{length, map, refl, sym, ap, ◌∙◌, arith, length-append}
use Rattle.std.specs.Prelude.{Contains, slice_get}
use Rattle.std.proofs.lemmas.List.{length-map, map-append}
use Rattle.std.proofs.lemmas.List.Elements.{Contains-append_left, Contains-append_right}
use Rattle.std.proofs.lemmas.Option.{get_or_from_slice_get, slice_get_read, slice_get_within}
use Rattle.ira_event.specs.declared.head_fault.HeadFault.{HeadFault}
use Rattle.ira_event.specs.declared.log_head.LogHead.{LogHead}
use Rattle.ira_event.specs.Log.{Log}
use Rattle.ira_event.specs.Logs.{AreLogs, EachLog, HasNumber, HasVersion, HeadFaultOf, IsFirstOther, wrong_number}
use Rattle.ira_event.specs.Logs.{wrong_size, wrong_place, wrong_version}
use Rattle.ira_event.specs.LogText.{head_of}
use Rattle.ira_audit.specs.RingAudit.{StandFor}

-- ---- logs with the same heads

pub same_number : (xs ys : List Log) → map head_of xs ≡ map head_of ys → length xs ≡ length ys
same_number xs ys e = sym (length-map xs head_of) ∙ ap (λ (hs : List LogHead). length hs) e ∙ length-map ys head_of

-- the log of the other list that has the same head
other_at : (xs ys : List Log) (i : ℕ) (x : Log) → map head_of xs ≡ map head_of ys → slice_get xs i ≡ Some x → (y : Log)
    × (slice_get ys i ≡ Some y) × (head_of x ≡ head_of y)
other_at [] ys i x e at = absurd cc
other_at (a ∷ xs) [] i x e at = absurd cc
other_at (a ∷ xs) (b ∷ ys) zero x e at =
    (b, refl, (let heads : head_of a ≡ head_of b = cc in let here : a ≡ x = cc in ap head_of (sym here) ∙ heads))
other_at (a ∷ xs) (b ∷ ys) (suc i) x e at =
    (let rest : map head_of xs ≡ map head_of ys = cc in other_at xs ys i x rest at)

module _ (xs ys : List Log) (e : map head_of xs ≡ map head_of ys) where
  nodes_of : (x y : Log) → head_of x ≡ head_of y → x.nodes ≡ y.nodes
  nodes_of x y h = ap (λ (a : LogHead). a.nodes) h

  number_of : (n : ℕ) → HasNumber ys n → HasNumber xs n
  number_of n h =
      let o = other_at ys xs 0 h.first (sym e) h.is_first in
      record {
        first = o.0;
        is_first = o.1;
        names = sym (nodes_of h.first o.0 o.2) ∙ h.names;
        number = same_number xs ys e ∙ h.number;
      }

  version_of : (v : ℕ) → HasVersion ys v → HasVersion xs v
  version_of v h =
      let o = other_at ys xs 0 h.first (sym e) h.is_first in
      record { first = o.0; is_first = o.1; names = sym (ap (λ (a : LogHead). a.version) o.2) ∙ h.names }

  -- what holds by the head
  module _ (P : ℕ → Log → Type 0) (by_head : (i : ℕ) (a b : Log) → head_of a ≡ head_of b → P i a → P i b) where
    each_of : EachLog ys P → EachLog xs P
    each_of h i x at = let o = other_at xs ys i x e at in by_head i o.0 x (sym o.2) (h i o.0 o.1)

    first_other_of : (i : ℕ) → IsFirstOther ys P i → IsFirstOther xs P i
    first_other_of i h =
        let o = other_at ys xs i h.log (sym e) h.at in
        record {
          log = o.0;
          at = o.1;
          other = λ p. h.other (by_head i o.0 h.log (sym o.2) p);
          least = λ j before l at. (let b = other_at xs ys j before e at in
              by_head j b.0 before (sym b.2) (h.least j b.0 l b.1));
        }

names_nodes : (n i : ℕ) (a b : Log) → head_of a ≡ head_of b → a.nodes ≡ n → b.nodes ≡ n
names_nodes n i a b e h = sym (ap (λ (x : LogHead). x.nodes) e) ∙ h

names_place : (i : ℕ) (a b : Log) → head_of a ≡ head_of b → a.place ≡ i → b.place ≡ i
names_place i a b e h = sym (ap (λ (x : LogHead). x.place) e) ∙ h

names_version : (v i : ℕ) (a b : Log) → head_of a ≡ head_of b → a.version ≡ v → b.version ≡ v
names_version v i a b e h = sym (ap (λ (x : LogHead). x.version) e) ∙ h

-- a fault of the heads is one of all logs that have them
pub fault_of_heads : (xs ys : List Log) (f : HeadFault) → map head_of xs ≡ map head_of ys → HeadFaultOf ys f
    → HeadFaultOf xs f
fault_of_heads xs ys f e (wrong_number none is) = wrong_number (λ n h. none n (number_of ys xs (sym e) n h)) is
fault_of_heads xs ys f e (wrong_size n i number other is) =
    wrong_size n i (number_of xs ys e n number)
    (first_other_of xs ys e (λ _ log. log.nodes ≡ n) (names_nodes n) i other) is
fault_of_heads xs ys f e (wrong_place n i number sizes other is) =
    wrong_place n i (number_of xs ys e n number) (each_of xs ys e (λ _ log. log.nodes ≡ n) (names_nodes n) sizes)
    (first_other_of xs ys e (λ j log. log.place ≡ j) names_place i other) is
fault_of_heads xs ys f e (wrong_version n v i number sizes places version other is) =
    wrong_version n v i (number_of xs ys e n number) (each_of xs ys e (λ _ log. log.nodes ≡ n) (names_nodes n) sizes)
    (each_of xs ys e (λ j log. log.place ≡ j) names_place places) (version_of xs ys e v version)
    (first_other_of xs ys e (λ _ log. log.version ≡ v) (names_version v) i other) is

-- ---- what is kept of logs

pub as_many : (kept logs : List Log) → StandFor kept logs → length kept ≡ length logs
as_many kept logs (inl same) = ap (λ (ls : List Log). length ls) same
as_many kept logs (inr heads) = same_number kept logs heads.0

same_heads : (kept logs : List Log) → StandFor kept logs → map head_of kept ≡ map head_of logs
same_heads kept logs (inl same) = ap (λ (ls : List Log). map head_of ls) same
same_heads kept logs (inr heads) = heads.0

pub fault_stands : (kept logs : List Log) (f : HeadFault) → StandFor kept logs → HeadFaultOf kept f → HeadFaultOf logs f
fault_stands kept logs f stand h = fault_of_heads logs kept f (sym (same_heads kept logs stand)) h

-- logs of a ring are all kept
pub ring_stands : (kept logs : List Log) → StandFor kept logs → AreLogs kept → kept ≡ logs
ring_stands kept logs (inl same) ring = same
ring_stands kept logs (inr heads) ring =
    let many = heads.1 in
    let at = slice_get_read logs (length logs) many.1.0 many.0 refl many.1.1 (sym many.1.2) in
    let o = other_at logs kept many.1.0 many.0 (sym heads.0) at in
    let names : o.0.nodes ≡ length kept = ring.sizes many.1.0 o.0 o.1 in
    let nodes : many.0.nodes ≡ o.0.nodes = ap (λ (x : LogHead). x.nodes) o.2 in
    absurd (omega (arith, names, nodes, many.2, same_number kept logs heads.0))

pub stand_both : (k1 l1 k2 l2 : List Log) → StandFor k1 l1 → StandFor k2 l2 → StandFor (k1 ++ k2) (l1 ++ l2)
stand_both k1 l1 k2 l2 (inl a) (inl b) = inl (ap (λ (ls : List Log). ls ++ k2) a ∙ ap (λ (ls : List Log). l1 ++ ls) b)
stand_both k1 l1 k2 l2 (inl a) (inr b) = inr (
  map-append head_of k1 k2 ∙ ap (λ (ls : List Log). map head_of ls ++ map head_of k2) a
      ∙ ap (λ (hs : List LogHead). map head_of l1 ++ hs) b.0 ∙ sym (map-append head_of l1 l2),
  (b.1.0, Contains-append_right l1 l2 b.1.0 b.1.1, omega (arith, b.1.2, length-append l1 l2)),
)
stand_both k1 l1 k2 l2 (inr a) b = inr (
  map-append head_of k1 k2 ∙ ap (λ (hs : List LogHead). hs ++ map head_of k2) a.0
      ∙ ap (λ (hs : List LogHead). map head_of l1 ++ hs) (same_heads k2 l2 b) ∙ sym (map-append head_of l1 l2),
  (a.1.0, Contains-append_left l1 l2 a.1.0 a.1.1, omega (arith, a.1.2, length-append l1 l2)),
)

-- one log more, of which the head is kept where there are as many as the first one names
pub stand_head : (kept logs : List Log) (head log first : Log) → StandFor kept logs → head_of head ≡ head_of log
    → slice_get kept 0 ≡ Some first → first.nodes ≤ length kept → StandFor (kept ++ head ∷ []) (logs ++ log ∷ [])
stand_head kept logs head log first stand is at many =
    let heads = same_heads kept logs stand in
    let o = other_at kept logs 0 first heads at in
    let nodes : first.nodes ≡ o.0.nodes = ap (λ (x : LogHead). x.nodes) o.2 in
    inr (
      map-append head_of kept (head ∷ []) ∙ ap (λ (hs : List LogHead). hs ++ head_of head ∷ []) heads
          ∙ ap (λ (h : LogHead). map head_of logs ++ h ∷ []) is ∙ sym (map-append head_of logs (log ∷ [])),
      (
        o.0,
        Contains-append_left logs (log ∷ []) o.0 (contained logs 0 o.0 o.1),
        omega (arith, nodes, many, as_many kept logs stand, length-append logs (log ∷ [])),
      ),
    )
  where
    contained : (xs : List Log) (i : ℕ) (x : Log) → slice_get xs i ≡ Some x → Contains xs x
    contained xs i x at = (i, slice_get_within xs i x at, get_or_from_slice_get xs i x x at)
