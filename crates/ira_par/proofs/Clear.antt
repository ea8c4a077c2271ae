-- Ranges in which nothing is found.
use Rattle.std.proofs.Common.{◌≡◌, ℕ, ◌+◌, inl, inr, List, Some, None, slice_get, sym, ap, ◌∙◌, subst, arith}
use Rattle.std.proofs.lemmas.Bool.{cases_lt}
use Rattle.std.proofs.lemmas.Option.{same_Some}
use Rattle.ira_event.specs.Log.{Log}
use Rattle.ira_par.specs.Share.{AreClear}
use Rattle.ira_par.specs.Task.{Task, IsFoundFor}

-- one section more
pub clear_more : (logs : List Log) (depth r k : ℕ) (tasks : List Task) → AreClear logs depth r k tasks → (task : Task)
    → slice_get tasks k ≡ Some task → IsFoundFor logs depth r task None → AreClear logs depth r (k + 1) tasks
clear_more logs depth r k tasks clear task at none = λ j other l other_at. elim (cases_lt j k) [
  | inl below ↦ clear j other below other_at
  | inr top ↦
      let same : k ≡ j = omega (arith, top, l) in
      let is : task ≡ other = same_Some task other (sym at ∙ ap (λ (i : ℕ). slice_get tasks i) same ∙ other_at) in
      subst (λ (t : Task). IsFoundFor logs depth r t None) is none
]
