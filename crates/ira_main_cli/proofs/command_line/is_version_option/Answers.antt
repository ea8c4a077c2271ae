use Rattle.std.proofs.Common.{◌≡◌, ◌∙◌, ◌<◌, ◌≤◌, Bool, true, List, [], ◌∷◌, inl, inr, ap, arith, codes, get_or, length}
use Rattle.std.proofs.Common.{map, sym}
use Rattle.std.specs.Borrow.{Bor}
use Rattle.std.specs.Str.{bytes_eq}
use Rattle.std.proofs.lemmas.Slice.Eq.{bytes_eq-Decides}
use Rattle.clap.specs.Words.{Text}
use Rattle.ira_main_cli.proofs.command_line.is_version_option.Goals as goal

-- one word alone is that text exactly where the test says so
one : (ws : List (Bor Text)) (d : Bor Text) (t : Text) (same : Bool) → 1 ≤ length ws → length ws < 2
    → same ≡ bytes_eq (get_or ws 0 d).now t
    → (same ≡ true → map (λ w. w.now) ws ≡ t ∷ []) × (map (λ w. w.now) ws ≡ t ∷ [] → same ≡ true)
one [] d t same some few is = absurd (omega arith)
one (w ∷ []) d t same some few is = (
  λ yes. ap (λ x. x ∷ []) ((bytes_eq-Decides w.now t).0 (sym is ∙ yes)),
  λ whole.
      let it : w.now ≡ t = cc in
      is ∙ (bytes_eq-Decides w.now t).1 it,
)
one (w ∷ x ∷ ws) d t same some few is = absurd (omega arith)

pub returns-then-eq : goal.returns-then-eq
returns-then-eq c =
    let words = c.args.words.now in
    let long = one words _ (codes "--version") _ c.in-len1.len_at_least c.in-len1.len_below c.eq.ensures in
    (λ yes. inl (long.0 c.if-eq.true), λ asks. c.if-eq.true)

pub returns-else-eq : goal.returns-else-eq
returns-else-eq c =
    let words = c.args.words.now in
    let long = one words _ (codes "--version") _ c.in-len1.len_at_least c.in-len1.len_below c.eq.ensures in
    let short = one words _ (codes "-V") _ c.in-len1.len_at_least c.in-len1.len_below c.eq-else-eq.ensures in (
      λ yes. inr (short.0 yes),
      λ asks. elim asks [
        | inl is ↦
            let bad = sym c.if-eq.false ∙ long.1 is in
            cc
        | inr is ↦ short.1 is
      ],
    )
