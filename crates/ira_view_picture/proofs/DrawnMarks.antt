-- Marks, event by event.
use Rattle.std.proofs.Common.{◌≡◌, ℕ, ◌+◌, ◌≤◌, inl, inr, List, [], ◌∷◌, ◌++◌, length, sym, ◌∙◌, ap, subst, arith}
use Rattle.std.specs.Prelude.{slice_index}
use Rattle.std.proofs.lemmas.Bool.{cases_eq}
use Rattle.std.proofs.lemmas.Option.{slice_get_within}
use Rattle.ira_event.specs.Log.{Log}
use Rattle.ira_order.proofs.Pushed.{pushed_cases, pushed_last, pushed_old}
use Rattle.ira_view_picture.specs.declared.mark.Mark.{Mark}
use Rattle.ira_view_picture.specs.declared.window.Window.{Window}
use Rattle.ira_view_picture.specs.Lane.{AreMarks, IsMark}
use Rattle.ira_view_picture.specs.Window.{IsIn}

pub no_marks : (log : Log) (columns : List ℕ) (w : Window) → AreMarks log columns w 0 []
no_marks log columns w = record {
  each = λ k m at. absurd cc;
  all = λ a less. absurd (omega (arith, less));
  rise = λ k h x y less at there. absurd cc;
}

module _ (log : Log) (columns : List ℕ) (w : Window) (n : ℕ) (marks : List Mark)
    (are : AreMarks log columns w n marks) where
  -- an event more that isn't drawn
  pub marks_over : ¬ (IsIn w (slice_index columns n)) → AreMarks log columns w (n + 1) marks
  marks_over out = record {
    each = λ k m at. (let old = are.each k m at in (old.0, old.1, omega (arith, old.2)));
    all = λ a less. elim (cases_eq a n) [
      | inl same ↦ λ within. absurd (out (subst (λ b. IsIn w (slice_index columns b)) same within))
      | inr ne ↦ are.all a (omega (arith, less, ne))
    ];
    rise = are.rise;
  }

  -- and one that is
  pub marks_more : (m : Mark) → IsMark log columns m → IsIn w m.column → m.position ≡ n + 1
      → AreMarks log columns w (n + 1) (marks ++ m ∷ [])
  marks_more m is within here = record {
    each = λ k x at. elim (pushed_cases marks m x k at) [
      | inl old ↦ (let o = are.each k x old in (o.0, o.1, omega (arith, o.2)))
      | inr new ↦ subst (λ y. IsMark log columns y × IsIn w y.column × (y.position ≤ n + 1)) new.1 (
        is,
        within,
        omega (arith, here),
      )
    ];
    all = λ a less. elim (cases_eq a n) [
      | inl same ↦ λ drawn. (length marks, m, pushed_last marks m, omega (arith, here, same))
      | inr ne ↦ λ drawn. (let old = are.all a (omega (arith, less, ne)) drawn in
          (old.0, old.1, pushed_old marks m old.1 old.0 old.2, old.3))
    ];
    rise = λ k h x y less at there. elim (pushed_cases marks m y h there) [
      | inl old_y ↦ elim (pushed_cases marks m x k at) [
        | inl old_x ↦ are.rise k h x y less old_x old_y
        | inr new_x ↦ absurd (omega (arith, less, new_x.0, slice_get_within marks h y old_y))
      ]
      | inr new_y ↦ elim (pushed_cases marks m x k at) [
        | inl old_x ↦ (let few = (are.each k x old_x).2 in
            let last : y.position ≡ n + 1 = ap (λ (z : Mark). z.position) (sym new_y.1) ∙ here in
            omega (arith, few, last))
        | inr new_x ↦ absurd (omega (arith, less, new_x.0, new_y.0))
      ]
    ];
  }
