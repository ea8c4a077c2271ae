use Rattle.std.proofs.Common.{◌≡◌, ◌∙◌, ◌⊎◌, Bool, ap, arith, false, inl, inr, not, refl, rules, sym, true}
use Rattle.ira_event.specs.LogText.{log_text}
use Rattle.ira_mend.specs.RecordedLogs.{empty_log}
use Rattle.ira_mend.proofs.RecordedTexts.{begins_with_none}
use Rattle.ira_mend.proofs.recorded_log.lost_log.Goals as goal

either : (guess start : Bool) → (start ≡ guess) ⊎ (start ≡ not guess)
either true true = inl refl
either true false = inr refl
either false true = inr refl
either false false = inl refl

pub returns-then-branch-2 : goal.returns-then-branch-2
returns-then-branch-2 g c = λ bad.
    let ring = c.args.ring in
    let number = c.args.number in
    let guess = c.args.guess in
    let guessed : c.empty_log-guessed.result ≡ empty_log ring number guess = search rules in
    let other : c.empty_log-other.result ≡ empty_log ring number (not guess) = search rules in
    let some = c.in_ok-begins-2.ensures.0 c.if-branch-2.true in
    record {
      in_ring = omega arith;
      start = not guess;
      empty = other;
      piece = record { rest = some.0; parts = some.1; within = begins_with_none c.args.text.now bad };
      guessed = λ cut.
          let yes : c.in_ok-begins.field-0 ≡ true =
          c.in_ok-begins.ensures.1 (cut.rest, cut.parts ∙ ap log_text (sym guessed)) in
          let no : c.in_ok-begins.field-0 ≡ false = c.if-branch.false in
          cc;
    }

pub returns : goal.returns
returns g c = λ bad log lost.
    let ring = c.args.ring in
    let number = c.args.number in
    let guess = c.args.guess in
    let guessed : c.empty_log-guessed.result ≡ empty_log ring number guess = search rules in
    let other : c.empty_log-other.result ≡ empty_log ring number (not guess) = search rules in
    elim (either guess lost.start) [
      | inl same ↦
          let log_is = lost.empty ∙ ap (empty_log ring number) same ∙ sym guessed in
          let yes : c.in_ok-begins.field-0 ≡ true =
          c.in_ok-begins.ensures.1 (lost.piece.rest, lost.piece.parts ∙ ap log_text log_is) in
          let no : c.in_ok-begins.field-0 ≡ false = c.if-branch.false in
          cc
      | inr same ↦
          let log_is = lost.empty ∙ ap (empty_log ring number) same ∙ sym other in
          let yes : c.in_ok-begins-2.field-0 ≡ true =
          c.in_ok-begins-2.ensures.1 (lost.piece.rest, lost.piece.parts ∙ ap log_text log_is) in
          let no : c.in_ok-begins-2.field-0 ≡ false = c.if-branch-2.false in
          cc
    ]
