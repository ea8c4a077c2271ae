-- What is known of a node before the window, event by event.
use Rattle.std.proofs.Common.{◌≡◌, ℕ, ◌+◌, ◌<◌, ◌≤◌, inl, inr, List, length, subst, arith}
use Rattle.std.specs.Prelude.{slice_index}
use Rattle.std.proofs.lemmas.Bool.{cases_eq}
use Rattle.ira_event.specs.Log.{Log}
use Rattle.ira_order.specs.FaultyEvent.{Rises}
use Rattle.ira_view_picture.specs.declared.after.After.{After}
use Rattle.ira_view_picture.specs.declared.window.Window.{Window}
use Rattle.ira_view_picture.specs.Lane.{IsKnown, IsStart}
use Rattle.ira_view_picture.proofs.Rising.{rises_at}

pub start_none : (log : Log) (columns : List ℕ) (w : Window) (start : After) → IsKnown log 0 start
    → IsStart log columns w 0 start
start_none log columns w start known = record {
  number = 0;
  within = omega arith;
  left = λ a less. absurd (omega (arith, less));
  known = known;
}

module _ (log : Log) (columns : List ℕ) (w : Window) (n : ℕ) where
  -- an event that isn't left of the window
  pub start_over : (start : After) → IsStart log columns w n start → w.first ≤ slice_index columns n
      → IsStart log columns w (n + 1) start
  start_over start is right = record {
    number = is.number;
    within = omega (arith, is.within);
    left = λ a less. elim (cases_eq a n) [
      | inl same ↦ (
        λ left. absurd (let here : slice_index columns n < w.first =
            subst (λ b. slice_index columns b < w.first) same left in omega (arith, here, right)),
        λ few. absurd (omega (arith, few, same, is.within)),
      )
      | inr other ↦ is.left a (omega (arith, less, other))
    ];
    known = is.known;
  }

  -- and one that is
  pub start_more : (start : After) → Rises (λ c. c) columns → n < length columns → slice_index columns n < w.first
      → IsKnown log (n + 1) start → IsStart log columns w (n + 1) start
  start_more start rise within here known = record {
    number = n + 1;
    within = omega arith;
    left = λ a less. (
      λ left. less,
      λ few. elim (cases_eq a n) [
        | inl same ↦ subst (λ b. slice_index columns b < w.first) (let back : n ≡ a = omega (arith, same) in back) here
        | inr other ↦ omega (arith, rises_at columns rise a n (omega (arith, less, other)) within, here)
      ],
    );
    known = known;
  }
