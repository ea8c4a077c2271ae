-- A head that is read is spelled so and stands at the front, and a head of the grammar that stands there is read.
use Rattle.std.proofs.Common.{◌≡◌, ℕ, List, ◌++◌, Some, None, refl, sym, ap, subst, ◌∙◌, arith, append_assoc, ◌+◌}
use Rattle.std.specs.Prelude.{codes}
use Rattle.std.proofs.lemmas.Option.{same_Some}
use Rattle.ira_event.specs.RingSize.{IsRingSize}
use Rattle.ira_event.specs.Numeral.{IsNumeral}
use Rattle.ira_event.specs.Scan.{kept}
use Rattle.ira_event.proofs.RecordLines.{bind_some, word-takes, number_line-takes, number_line-again}
use Rattle.ira_cert_text.specs.CertScan.{head_at}
use Rattle.ira_cert_text.specs.CertTextFault.{BeginsWithCertHead}

-- a text that begins with a head is read so
pub begins-again : (text : List ℕ) (nodes : ℕ) (rest : List ℕ) → BeginsWithCertHead text nodes rest
    → head_at text ≡ Some (nodes, rest)
begins-again text nodes rest h =
    let number = h.head_is.0 in
    let same : kept nodes ≡ nodes = omega (arith, h.size.1) in
    let regrouped : text ≡ codes "ircert 1\n" ++ (codes "nodes " ++ (number ++ codes "\n" ++ rest)) =
    h.parts ∙ ap (λ w. w ++ rest) h.head_is.1 ∙ simp append_assoc in
    ap head_at regrouped ∙ number_line-again number nodes rest h.head_is.2 ∙ ap (λ n. Some (n, rest)) same

pub no_head : (text : List ℕ) → head_at text ≡ None → (nodes : ℕ) (rest : List ℕ) → BeginsWithCertHead text nodes rest
    → ⊥
no_head text e nodes rest h = let k = begins-again text nodes rest h in cc

pub head_out_of_range : (text : List ℕ) (n : ℕ) (after : List ℕ) → head_at text ≡ Some (n, after) → ¬ (IsRingSize n)
    → (nodes : ℕ) (rest : List ℕ) → BeginsWithCertHead text nodes rest → ⊥
head_out_of_range text n after e bad nodes rest h =
    let same : n ≡ nodes = ap (λ (x : ℕ × List ℕ). x.0) (same_Some _ _ (sym e ∙ begins-again text nodes rest h)) in
    bad (subst IsRingSize (sym same) h.size)

pub head_found : (text : List ℕ) (n : ℕ) (rest : List ℕ) → head_at text ≡ Some (n, rest) → IsRingSize n
    → BeginsWithCertHead text n rest
head_found text n rest e good =
    let v = bind_some _ _ _ e in
    let a = bind_some _ _ _ v.2 in
    let t = number_line-takes a.0 (n, rest) a.2 in
    let same : t.1 ≡ n = omega (arith, t.4, good.1) in
    record {
      head = codes "ircert 1\n" ++ codes "nodes " ++ t.0 ++ codes "\n";
      head_is = (t.0, refl, subst (λ m. IsNumeral t.0 m) same t.3);
      size = good;
      parts = word-takes (codes "ircert 1\n") text v.0 v.1
          ∙ ap (λ w. codes "ircert 1\n" ++ w) (word-takes (codes "nodes ") v.0 a.0 a.1
          ∙ ap (λ w. codes "nodes " ++ w) t.2) ∙ simp append_assoc;
    }

-- a text begins with one head
pub heads_same : (text : List ℕ) (n m : ℕ) (r s : List ℕ) → BeginsWithCertHead text n r → BeginsWithCertHead text m s
    → (n ≡ m) × (r ≡ s)
heads_same text n m r s a b =
    let e = same_Some _ _ (sym (begins-again text n r a) ∙ begins-again text m s b) in
    (ap (λ (x : ℕ × List ℕ). x.0) e, ap (λ (x : ℕ × List ℕ). x.1) e)
