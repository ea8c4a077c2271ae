use Rattle.std.proofs.Common.{◌≡◌, ◌∙◌, ◌++◌, ◌<◌, ◌≤◌, List, Some, [], ◌∷◌, ap, arith, length, refl, subst, sym, ℕ}
use Rattle.std.specs.Prelude.{codes, decimal}
use Rattle.std.specs.List.{enumerate_from}
use Rattle.std.proofs.lemmas.Bool.Decides.{nat_tests}
use Rattle.std.proofs.lemmas.List.{nil_from_length}
use Rattle.std.proofs.lemmas.List.FromFn.{length-enumerate_from}
use Rattle.ira_view_page.specs.Parts.{none}
use Rattle.ira_view_page.proofs.Adding.{◌&◌, added_as, element_at, finished, holds, nothing_added}
use Rattle.ira_view_page.proofs.Parts.{parts_all, parts_more}
use Rattle.ira_view_show.proofs.Lines.{ok_then}
use Rattle.ira_view_show.specs.Reasons.{AreReasons, AreReasonsBelow, IsReasonAt, below_rule}
use Rattle.ira_view_show.proofs.reasons.explain_leads.Goals as goal

-- the rule stands above lines, where there are any
below_some : (n : ℕ) (lines : List ℕ) → 0 < length lines
    → codes "\n" ++ codes "  A node leads once its own pair, its round and its ID, is back with hop N and clean. N is "
    ++ decimal n ++ codes ".\n" ++ lines
    ≡ below_rule n lines
below_some n [] some = absurd (omega (arith, some))
below_some n (b ∷ bs) some = refl

pub loop-place-init : goal.loop-place-init
loop-place-init g c = ([], none, rw c.new-reasons.ensures (nothing_added (Some [])))

pub loop-place-preserved : goal.loop-place-preserved
loop-place-preserved g c =
    let so = c.loop-place.invariant in
    let reason = c.print_reason_at.ensures in
    let nodes = c.args.moment.now.nodes in
    let place = c.loop-place.place in
    let IsPart = IsReasonAt c.args.files.now c.args.logs.now c.args.rounds.now c.args.named.now in (
      so.0 ++ reason.2,
      parts_more IsPart (enumerate_from 0 nodes) place (place, reason.0) so.0 reason.2 (so.0 ++ reason.2)
          (element_at nodes place reason.0 reason.1) so.1 reason.3 refl,
      so.2 & reason.4,
    )

pub returns-then-is_empty : goal.returns-then-is_empty
returns-then-is_empty g c =
    let nodes = c.args.moment.now.nodes in
    let so = c.loop-place.invariant in
    let lines = c.in_ok-reasons.reasons in
    let past : length (enumerate_from 0 nodes) ≤ c.loop-place.place =
    omega (arith, length-enumerate_from 0 nodes, c.loop-place-test.false, c.size-place-end.ensures.value) in
    let all = parts_all (IsReasonAt c.args.files.now c.args.logs.now c.args.rounds.now c.args.named.now) (enumerate_from 0 nodes)
    c.loop-place.place so.0 past so.1 in
    let whole : lines ≡ so.0 = holds lines refl so.2 c.in_ok-reasons.ensures in
    let empty : length lines ≡ 0 = grind (arith, nat_tests, c.is_empty.ensures, c.if-is_empty.true) in
    record {
      reasons = lines;
      are = subst (λ (t : List ℕ). AreReasons c.args.files.now c.args.logs.now c.args.moment.now c.args.rounds.now c.args.named.now t)
          (sym whole) all;
      text_is = subst (λ (t : List ℕ). t ≡ below_rule (length c.args.logs.now) t) (sym (nil_from_length lines empty)) refl;
    }

pub returns : goal.returns
returns g c =
    let nodes = c.args.moment.now.nodes in
    let so = c.loop-place.invariant in
    let lines = c.in_ok-reasons.reasons in
    let past : length (enumerate_from 0 nodes) ≤ c.loop-place.place =
    omega (arith, length-enumerate_from 0 nodes, c.loop-place-test.false, c.size-place-end.ensures.value) in
    let all = parts_all (IsReasonAt c.args.files.now c.args.logs.now c.args.rounds.now c.args.named.now) (enumerate_from 0 nodes)
    c.loop-place.place so.0 past so.1 in
    let whole : lines ≡ so.0 = holds lines refl so.2 c.in_ok-reasons.ensures in
    let some : 0 < length lines = grind (arith, nat_tests, c.is_empty.ensures, c.if-is_empty.false) in
    let n = length c.args.logs.now in
    let added = c.after_answer-page.ensures & c.words.ensures & c.number.ensures & c.words-2.ensures & c.words-3.ensures in
    let size : c.size.result ≡ n = c.size.ensures.value ∙ c.requires in
    let text = ap (λ m. codes "\n"
    ++ codes "  A node leads once its own pair, its round and its ID, is back with hop N and clean. N is " ++ decimal m
    ++ codes ".\n" ++ c.as_str.result.now) size
    ∙ ap (λ (t : List ℕ). codes "\n"
    ++ codes "  A node leads once its own pair, its round and its ID, is back with hop N and clean. N is " ++ decimal n
    ++ codes ".\n" ++ t) c.as_str.ensures.text ∙ below_some n lines some in
    ok_then (λ t. t ≡ below_rule n lines) (AreReasonsBelow c.args.files.now c.args.logs.now c.args.moment.now c.args.rounds.now c.args.named.now)
    c.finish-2.result (λ t is. record {
      reasons = lines;
      are = subst (λ (t : List ℕ). AreReasons c.args.files.now c.args.logs.now c.args.moment.now c.args.rounds.now c.args.named.now t)
          (sym whole) all;
      text_is = is;
    }) (finished c.finish-2.result refl (added_as text added) c.finish-2.ensures)
