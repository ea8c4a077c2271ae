-- A head that is read is spelled so and stands at the front, and a head of the grammar that stands there is read.
use Rattle.std.proofs.Common.{◌≡◌, ℕ, Bool, true, false, List, ◌++◌, Option, Some, None, refl, sym, ap, subst, ◌∙◌}
use Rattle.std.proofs.Common.{arith, append_assoc}
use Rattle.std.specs.Prelude.{codes}
use Rattle.std.specs.Option.{option_map}
use Rattle.std.proofs.lemmas.Option.{same_Some}
use Rattle.ira_event.specs.Scan.{kept, after_word, or}
use Rattle.ira_event.specs.LogScan.{start_at, head_at}
use Rattle.ira_event.specs.LogText.{IsHead, start_word}
use Rattle.ira_event.specs.LogTextFault.{BeginsWithHead}
use Rattle.ira_event.specs.LogHead.{AreInRange}
use Rattle.ira_event.specs.declared.log_head.LogHead.{LogHead}
use Rattle.ira_event.specs.declared.log_head.HeadLines.{HeadLines}
use Rattle.ira_event.proofs.RecordLines.{bind_some, word-takes, Kept, kept-takes, kept-again}

start-again : (b : Bool) (rest : List ℕ) → start_at (start_word b ++ codes "\n" ++ rest) ≡ Some (b, rest)
start-again true rest = refl
start-again false rest = refl

start-cases : (text : List ℕ) (x : Bool × List ℕ) (initiator passive : Option (List ℕ))
    → after_word (codes "initiator\n") text ≡ initiator → after_word (codes "passive\n") text ≡ passive
    → or (option_map (λ rest. (true, rest)) initiator) (option_map (λ rest. (false, rest)) passive) ≡ Some x
    → text ≡ start_word x.0 ++ codes "\n" ++ x.1
start-cases text x (Some rest) passive c d e =
    subst (λ (x : Bool × List ℕ). text ≡ start_word x.0 ++ codes "\n"
    ++ x.1) (same_Some _ _ e) (word-takes (codes "initiator\n") text rest c)
start-cases text x None (Some rest) c d e =
    subst (λ (x : Bool × List ℕ). text ≡ start_word x.0 ++ codes "\n"
    ++ x.1) (same_Some _ _ e) (word-takes (codes "passive\n") text rest d)
start-cases text x None None c d e = absurd cc

start-takes : (text : List ℕ) (x : Bool × List ℕ) → start_at text ≡ Some x → text ≡ start_word x.0 ++ codes "\n" ++ x.1
start-takes text x e = start-cases text x (after_word (codes "initiator\n") text) (after_word (codes "passive\n") text)
    refl refl e

abbrev kept_head : LogHead → HeadLines
kept_head head = record {
  version = kept head.version;
  nodes = kept head.nodes;
  place = kept head.place;
  initiator = head.initiator;
}

pub head-again : (lines : List ℕ) (head : LogHead) (rest : List ℕ) → IsHead lines head
    → head_at (lines ++ rest) ≡ Some (kept_head head, rest)
unfolding head_at
head-again lines head rest h =
    let after_place = codes "\nstart " ++ (start_word head.initiator ++ codes "\n" ++ rest) in
    let after_nodes = codes "\nplace " ++ (h.place_text ++ after_place) in
    let after_version = codes "\nnodes " ++ (h.nodes_text ++ after_nodes) in
    let regrouped : lines ++ rest ≡ codes "irlog " ++ (h.version_text ++ after_version) =
    ap (λ w. w ++ rest) h.parts ∙ simp append_assoc in
    ap head_at regrouped
    ∙ rw (
      kept-again h.version_text head.version after_version h.version_is refl,
      kept-again h.nodes_text head.nodes after_nodes h.nodes_is refl,
      kept-again h.place_text head.place after_place h.place_is refl,
      start-again head.initiator rest,
    ) refl

-- the head that was taken from the front
pub record HeadScanned (text : List ℕ) (lines : HeadLines) (rest : List ℕ) : Type 0 where
  pub front : List ℕ
  pub version : ℕ
  pub nodes : ℕ
  pub place : ℕ
  pub head_is : IsHead front (record { version = version; nodes = nodes; place = place; initiator = lines.initiator })
  pub version_kept : lines.version ≡ kept version
  pub nodes_kept : lines.nodes ≡ kept nodes
  pub place_kept : lines.place ≡ kept place
  pub parts : text ≡ front ++ rest

head_parts : (text a v b c d f rest version nodes place : List ℕ) (s : Bool) → text ≡ codes "irlog " ++ v
    → v ≡ version ++ a → a ≡ codes "\nnodes " ++ b → b ≡ nodes ++ c → c ≡ codes "\nplace " ++ d → d ≡ place ++ f
    → f ≡ codes "\nstart " ++ (start_word s ++ codes "\n" ++ rest)
    → text ≡ (codes "irlog " ++ version ++ codes "\nnodes " ++ nodes ++ codes "\nplace " ++ place ++ codes "\nstart "
    ++ start_word s ++ codes "\n") ++ rest
head_parts text a v b c d f rest version nodes place s p z q r t u y =
    p ∙ ap (λ w. codes "irlog " ++ w) (z
    ∙ ap (λ w. version ++ w) (q
    ∙ ap (λ w. codes "\nnodes " ++ w) (r
    ∙ ap (λ w. nodes ++ w) (t ∙ ap (λ w. codes "\nplace " ++ w) (u ∙ ap (λ w. place ++ w) y))))) ∙ simp append_assoc

head_built : (text : List ℕ) (lines : HeadLines) (rest : List ℕ) (v a d e : List ℕ) (z n p : ℕ × List ℕ) (s : Bool
    × List ℕ)
    → text ≡ codes "irlog " ++ v → Kept v z → z.1 ≡ codes "\nnodes " ++ a → Kept a n → n.1 ≡ codes "\nplace " ++ d
    → Kept d p → p.1 ≡ codes "\nstart " ++ e → e ≡ start_word s.0 ++ codes "\n" ++ s.1
    → record { version = z.0; nodes = n.0; place = p.0; initiator = s.0 } ≡ lines → s.1 ≡ rest
    → HeadScanned text lines rest
head_built text lines rest v a d e z n p s w1 k0 w2 k1 w3 k2 w4 st one two =
    let H : HeadLines → Type 0 = λ l. HeadScanned text l rest in
    subst H one (record {
      front = codes "irlog " ++ k0.text ++ codes "\nnodes " ++ k1.text ++ codes "\nplace " ++ k2.text
          ++ codes "\nstart " ++ start_word s.0 ++ codes "\n";
      version = k0.n;
      nodes = k1.n;
      place = k2.n;
      head_is = record {
        version_text = k0.text;
        nodes_text = k1.text;
        place_text = k2.text;
        version_is = k0.is;
        nodes_is = k1.is;
        place_is = k2.is;
        parts = refl;
      };
      version_kept = k0.kept_is;
      nodes_kept = k1.kept_is;
      place_kept = k2.kept_is;
      parts = head_parts text z.1 v a n.1 d p.1 rest k0.text k1.text k2.text s.0 w1 k0.parts w2 k1.parts w3 k2.parts (w4
          ∙ ap (λ w. codes "\nstart " ++ w) (st ∙ ap (λ w. start_word s.0 ++ codes "\n" ++ w) two));
    })

pub head-takes : (text : List ℕ) (lines : HeadLines) (rest : List ℕ) → head_at text ≡ Some (lines, rest)
    → HeadScanned text lines rest
unfolding head_at
head-takes text lines rest e =
    let v = bind_some _ _ _ e in
    let z = bind_some _ _ _ v.2 in
    let a = bind_some _ _ _ z.2 in
    let n = bind_some _ _ _ a.2 in
    let d = bind_some _ _ _ n.2 in
    let p = bind_some _ _ _ d.2 in
    let f = bind_some _ _ _ p.2 in
    let s = bind_some _ _ _ f.2 in
    let x = same_Some _ _ s.2 in
    head_built text lines rest v.0 a.0 d.0 f.0 z.0 n.0 p.0 s.0
    (word-takes (codes "irlog ") text v.0 v.1) (kept-takes v.0 z.0 z.1) (word-takes (codes "\nnodes ") z.0.1 a.0 a.1)
    (kept-takes a.0 n.0 n.1)
    (word-takes (codes "\nplace ") n.0.1 d.0 d.1) (kept-takes d.0 p.0 p.1) (word-takes (codes "\nstart ") p.0.1 f.0 f.1)
    (start-takes f.0 s.0 s.1)
    (ap (λ (q : HeadLines × List ℕ). q.0) x) (ap (λ (q : HeadLines × List ℕ). q.1) x)

-- the lines of a head
abbrev pub lines_of : LogHead → HeadLines
lines_of head = record { version = head.version; nodes = head.nodes; place = head.place; initiator = head.initiator }

-- the head that these lines say
abbrev pub head_says : HeadLines → LogHead
head_says lines = record {
  version = lines.version;
  nodes = lines.nodes;
  place = lines.place;
  initiator = lines.initiator;
}

-- a text that begins with a head is read so
pub begins-again : (text : List ℕ) (head : LogHead) (rest : List ℕ) → BeginsWithHead text head rest
    → head_at text ≡ Some (lines_of head, rest)
begins-again text head rest h =
    let v : kept head.version ≡ head.version = omega (arith, h.version.1) in
    let n : kept head.nodes ≡ head.nodes = omega (arith, h.size.1) in
    let p : kept head.place ≡ head.place = omega (arith, h.size.1, h.in_ring) in
    ap head_at h.parts ∙ head-again h.lines head rest h.lines_are ∙ rw (v, n, p) refl

pub no_head : (text : List ℕ) → head_at text ≡ None → (head : LogHead) (rest : List ℕ) → BeginsWithHead text head rest
    → ⊥
no_head text e head rest h = let k = begins-again text head rest h in cc

pub head_out_of_range : (text : List ℕ) (lines : HeadLines) (after : List ℕ) → head_at text ≡ Some (lines, after)
    → ¬ (AreInRange lines)
    → (head : LogHead) (rest : List ℕ) → BeginsWithHead text head rest → ⊥
head_out_of_range text lines after e bad head rest h =
    let q = same_Some _ _ (sym e ∙ begins-again text head rest h) in
    let same : lines_of head ≡ lines = sym (ap (λ (x : HeadLines × List ℕ). x.0) q) in
    bad (subst AreInRange same (h.version, h.size, h.fits, h.in_ring))

head_same : (front : List ℕ) (version nodes place v n p : ℕ) (initiator : Bool) → v ≡ version → n ≡ nodes → p ≡ place
    → IsHead front (record { version = version; nodes = nodes; place = place; initiator = initiator })
    → IsHead front (record { version = v; nodes = n; place = p; initiator = initiator })
head_same front version nodes place v n p initiator a b c h = rw (a, b, c) h

pub head_found : (text : List ℕ) (lines : HeadLines) (rest : List ℕ) → head_at text ≡ Some (lines, rest)
    → AreInRange lines → BeginsWithHead text (head_says lines) rest
head_found text lines rest e good =
    let t = head-takes text lines rest e in
    let v : lines.version ≡ t.version = omega (arith, t.version_kept, good.0.1) in
    let n : lines.nodes ≡ t.nodes = omega (arith, t.nodes_kept, good.1.1) in
    let p : lines.place ≡ t.place = omega (arith, t.place_kept, good.3, good.1.1) in
    record {
      lines = t.front;
      lines_are = head_same t.front t.version t.nodes t.place lines.version lines.nodes lines.place lines.initiator v n
          p t.head_is;
      version = good.0;
      size = good.1;
      fits = good.2;
      in_ring = good.3;
      parts = t.parts;
    }
