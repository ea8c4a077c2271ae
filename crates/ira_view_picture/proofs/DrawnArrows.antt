-- Arrows, link by link and number by number.
use Rattle.std.proofs.Common.{◌≡◌, ℕ, ◌+◌, ◌<◌, ◌≤◌, inl, inr, List, [], ◌∷◌, ◌++◌, Option, Some, None, length, refl}
use Rattle.std.proofs.Common.{sym, ◌∙◌, ap, subst, arith}
use Rattle.std.specs.Prelude.{slice_get, slice_index}
use Rattle.std.specs.Option.{option_map}
use Rattle.std.proofs.lemmas.Bool.{cases_eq, cases_lt}
use Rattle.std.proofs.lemmas.List.{get_or_append_left, get_or_push, length_push}
use Rattle.std.proofs.lemmas.Option.{slice_get_within}
use Rattle.ira_event.specs.Log.{Log}
use Rattle.ira_order.specs.Matching.{got, sent}
use Rattle.ira_order.specs.Ring.{log_of, next, numbered}
use Rattle.ira_order.proofs.Pairing.{numbered-past}
use Rattle.ira_view_evidence.specs.declared.exchange.Exchange.{Exchange}
use Rattle.ira_order.proofs.Pushed.{pushed_cases, pushed_last, pushed_old}
use Rattle.ira_view_picture.specs.declared.arrow.Arrow.{Arrow}
use Rattle.ira_view_picture.specs.declared.window.Window.{Window}
use Rattle.ira_view_picture.specs.Arrow.{AreArrows, AreArrowsBefore, IsArrow, IsBefore, IsBetween, IsDrawn, IsReceipt}
use Rattle.ira_view_picture.specs.Arrow.{IsReceivedAt, IsSending, IsSentAt, column_of}
use Rattle.ira_view_picture.proofs.OnePlace.{one_receipt, one_received_at, one_sending, one_sent_at}

-- no part of a link's sending and receipt of a number is drawn
abbrev pub IsUndrawn : List Log → List (List ℕ) → Window → ℕ → ℕ → Type 0
IsUndrawn logs table w link k =
    (s r : Option Exchange) → IsSending logs link k s → IsReceipt logs link k r
    → ¬ (IsBetween w (option_map (column_of table) s) (option_map (column_of table) r))

-- it is drawn where the columns of its sending and receipt are
module _ (logs : List Log) (table : List (List ℕ)) (w : Window) (link k : ℕ) (from to : Option ℕ)
    (sent_at : IsSentAt logs table link k from) (received_at : IsReceivedAt logs table link k to) where
  pub ends_undrawn : ¬ (IsBetween w from to) → IsUndrawn logs table w link k
  ends_undrawn out s r is_s is_r between =
      let from_is : option_map (column_of table) s ≡ from = sym (one_sent_at logs table link k from s sent_at is_s) in
      let to_is : option_map (column_of table) r ≡ to = sym (one_received_at logs table link k to r received_at is_r) in
      out (subst (λ o. IsBetween w from o) to_is (subst (λ o. IsBetween w o (option_map (column_of table) r)) from_is
      between))

  pub ends_drawn : (a : Arrow) → a.link ≡ link → IsArrow logs table k a → IsBetween w from to → IsDrawn w a
  ends_drawn a same is between =
      let s_here : IsSending logs link k is.sending = subst (λ i. IsSending logs i k is.sending) same is.is_sending in
      let r_here : IsReceipt logs link k is.receipt = subst (λ i. IsReceipt logs i k is.receipt) same is.is_receipt in
      let from_is : from ≡ a.sent = one_sent_at logs table link k from is.sending sent_at s_here ∙ sym is.sent in
      let to_is : to ≡ a.received =
      one_received_at logs table link k to is.receipt received_at r_here ∙ sym is.received in
      subst (λ o. IsBetween w a.sent o) to_is (subst (λ o. IsBetween w o to) from_is between)

-- where a link has neither, nothing is drawn
pub nothing_undrawn : (logs : List Log) (table : List (List ℕ)) (w : Window) (link k : ℕ)
    → numbered (sent (log_of logs link)) k ≡ None → numbered (got (log_of logs (next (length logs) link))) k ≡ None
    → IsUndrawn logs table w link k
nothing_undrawn logs table w link k no_sent no_got s r is_s is_r between =
    let from : option_map (column_of table) s ≡ None = one_sending logs table link k s None is_s no_sent in
    let to : option_map (column_of table) r ≡ None = one_receipt logs table link k r None is_r no_got in
    let none : IsBetween w None None =
    subst (λ o. IsBetween w None o) to (subst (λ o. IsBetween w o (option_map (column_of table) r)) from between) in
    none

pub no_arrows : (logs : List Log) (table : List (List ℕ)) (w : Window) → AreArrowsBefore logs table w 0 1 []
no_arrows logs table w = record {
  numbers = [];
  count = refl;
  each = λ j a at. absurd cc;
  all = λ i h s r within first before is_s is_r between. elim before [
    | inl less ↦ absurd (omega (arith, less))
    | inr same ↦ absurd (omega (arith, first, same.1))
  ];
  once = λ i j a b less at there. absurd cc;
}

module _ (logs : List Log) (table : List (List ℕ)) (w : Window) (link k : ℕ) (arrows : List Arrow)
    (before : AreArrowsBefore logs table w link k arrows) where
  -- a number more, of which nothing is drawn
  pub arrows_over : IsUndrawn logs table w link k → AreArrowsBefore logs table w link (k + 1) arrows
  arrows_over out = record {
    numbers = before.numbers;
    count = before.count;
    each = λ j a at. (let old = before.each j a at in (
      old.0,
      old.1,
      elim old.2 [
        | inl less ↦ inl less
        | inr same ↦ inr (same.0, omega (arith, same.1))
      ],
    ));
    all = λ i h s r within first there is_s is_r between. elim there [
      | inl less ↦ before.all i h s r within first (inl less) is_s is_r between
      | inr same ↦ elim (cases_eq h k) [
        | inl here ↦ absurd (out s r
            (subst (λ x. IsSending logs link x s) here (subst (λ x. IsSending logs x h s) same.0 is_s))
            (subst (λ x. IsReceipt logs link x r) here (subst (λ x. IsReceipt logs x h r) same.0 is_r)) between)
        | inr other ↦ before.all i h s r within first (inr (same.0, omega (arith, same.1, other))) is_s is_r between
      ]
    ];
    once = before.once;
  }

  -- and one of which something is
  pub arrows_more : (a : Arrow) → a.link ≡ link → IsArrow logs table k a → IsDrawn w a
      → AreArrowsBefore logs table w link (k + 1) (arrows ++ a ∷ [])
  arrows_more a on_link is drawn =
      let numbers : List ℕ = before.numbers ++ k ∷ [] in
      let stays : (j : ℕ) (x : Arrow) → slice_get arrows j ≡ Some x
      → slice_index before.numbers j ≡ slice_index numbers j =
      λ j x at. sym (get_or_append_left before.numbers (k ∷ []) 0 j
      (omega (arith, before.count, slice_get_within arrows j x at))) in
      let last : (j : ℕ) → j ≡ length arrows → k ≡ slice_index numbers j =
      λ j end. sym (get_or_push before.numbers k 0 j (before.count ∙ sym end)) in
      record {
        numbers = numbers;
        count = omega (arith, before.count, length_push before.numbers k, length_push arrows a);
        each = λ j x at. elim (pushed_cases arrows a x j at) [
          | inl old ↦
              let was = before.each j x old in
              subst (λ n. IsArrow logs table n x × IsDrawn w x × IsBefore x.link n link (k + 1)) (stays j x old) (
                was.0,
                was.1,
                elim was.2 [ inl less ↦ inl less | inr same ↦ inr (same.0, omega (arith, same.1)) ],
              )
          | inr new ↦
              subst (λ n. IsArrow logs table n x × IsDrawn w x × IsBefore x.link n link (k + 1)) (last j new.0)
              (subst (λ y. IsArrow logs table k y × IsDrawn w y × IsBefore y.link k link (k + 1)) new.1 (
                is,
                drawn,
                inr (on_link, omega arith),
              ))
        ];
        all = λ i h s r within first there is_s is_r between.
            let lifted : ((j : ℕ) × (x : Arrow) × (slice_get arrows j ≡ Some x) × (x.link ≡ i)
            × (slice_index before.numbers j ≡ h)) → (j : ℕ) × (x : Arrow)
            × (slice_get (arrows ++ a ∷ []) j ≡ Some x) × (x.link ≡ i) × (slice_index numbers j ≡ h) =
            λ old. (
              old.0,
              old.1,
              pushed_old arrows a old.1 old.0 old.2,
              old.3,
              sym (stays old.0 old.1 old.2) ∙ old.4,
            ) in
            elim there [
              | inl less ↦ lifted (before.all i h s r within first (inl less) is_s is_r between)
              | inr same ↦ elim (cases_eq h k) [
                | inl here ↦ (
                  length arrows,
                  a,
                  pushed_last arrows a,
                  on_link ∙ sym same.0,
                  sym (last (length arrows) refl) ∙ sym here,
                )
                | inr other ↦ lifted (before.all i h s r within first (inr (same.0, omega (arith, same.1, other))) is_s
                    is_r between)
              ]
            ];
        once = λ i j x y less at there. elim (pushed_cases arrows a y j there) [
          | inl old_y ↦ elim (pushed_cases arrows a x i at) [
            | inl old_x ↦
                subst (λ n. IsBefore x.link n y.link (slice_index numbers j)) (stays i x old_x)
                (subst (λ n. IsBefore x.link (slice_index before.numbers i) y.link n) (stays j y old_y)
                (before.once i j x y less old_x old_y))
            | inr new_x ↦ absurd (omega (arith, less, new_x.0, slice_get_within arrows j y old_y))
          ]
          | inr new_y ↦ elim (pushed_cases arrows a x i at) [
            | inl old_x ↦
                let link_y : link ≡ y.link = sym on_link ∙ ap (λ (z : Arrow). z.link) new_y.1 in
                subst (λ n. IsBefore x.link n y.link (slice_index numbers j)) (stays i x old_x)
                (subst (λ n. IsBefore x.link (slice_index before.numbers i) y.link n) (last j new_y.0)
                (subst (λ l. IsBefore x.link (slice_index before.numbers i) l k) link_y (before.each i x old_x).2))
            | inr new_x ↦ absurd (omega (arith, less, new_x.0, new_y.0))
          ]
        ];
      }

-- after the last number of a link comes the first one of the next link
pub arrows_onward : (logs : List Log) (table : List (List ℕ)) (w : Window) (link k : ℕ) (arrows : List Arrow)
    → AreArrowsBefore logs table w link k arrows → ((h : ℕ) → k ≤ h → IsUndrawn logs table w link h)
    → AreArrowsBefore logs table w (link + 1) 1 arrows
arrows_onward logs table w link k arrows before none = record {
  numbers = before.numbers;
  count = before.count;
  each = λ j a at. (let old = before.each j a at in (
    old.0,
    old.1,
    elim old.2 [
      | inl less ↦ inl (omega (arith, less))
      | inr same ↦ inl (omega (arith, same.0))
    ],
  ));
  all = λ i h s r within first there is_s is_r between. elim there [
    | inl less ↦ elim (cases_eq i link) [
      | inl same ↦ elim (cases_lt h k) [
        | inl few ↦ before.all i h s r within first (inr (same, few)) is_s is_r between
        | inr many ↦ absurd (none h many s r (subst (λ x. IsSending logs x h s) same is_s)
            (subst (λ x. IsReceipt logs x h r) same is_r) between)
      ]
      | inr other ↦ before.all i h s r within first (inl (omega (arith, less, other))) is_s is_r between
    ]
    | inr same ↦ absurd (omega (arith, first, same.1))
  ];
  once = before.once;
}

pub no_further : (logs : List Log) (table : List (List ℕ)) (w : Window) (link h : ℕ)
    → length (sent (log_of logs link)) < h → length (got (log_of logs (next (length logs) link))) < h
    → IsUndrawn logs table w link h
no_further logs table w link h few_sent few_got =
    nothing_undrawn logs table w link h (numbered-past (sent (log_of logs link)) h few_sent)
    (numbered-past (got (log_of logs (next (length logs) link))) h few_got)

-- after the last link they are all
pub all_arrows : (logs : List Log) (table : List (List ℕ)) (w : Window) (arrows : List Arrow)
    → AreArrowsBefore logs table w (length logs) 1 arrows → AreArrows logs table w arrows
all_arrows logs table w arrows before = record {
  numbers = before.numbers;
  each = λ j a at. (let old = before.each j a at in (old.0, old.1));
  all = λ link k s r within first is_s is_r between. before.all link k s r within first (inl within) is_s is_r between;
  once = before.once;
}
