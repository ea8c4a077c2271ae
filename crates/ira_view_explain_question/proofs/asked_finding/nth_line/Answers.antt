use Rattle.std.proofs.Common.{◌≡◌, ◌∙◌, ◌+◌, arith, inl, inr, refl, subst, sym}
use Rattle.std.specs.Cmp.Lexicographic.{bytes_decides}
use Rattle.ira_view_page.specs.Lines.{IsLine}
use Rattle.ira_view_explain_question.specs.SaidLines.{none, other, said}
use Rattle.ira_view_explain_question.proofs.TextLines.{line_next, line_there, past_whole}
use Rattle.ira_view_explain_question.proofs.asked_finding.nth_line.Goals as goal
use Rattle.ira_view_explain_question.proofs.asked_finding.nth_line.Goals.{then-eq, else-eq}

pub loop-init : goal.loop-init
loop-init c = record {
  from = c.from_line-rest.ensures (omega arith);
  said = none;
  few = c.requires;
  counted = refl;
  end = c.whole_lines-end.ensures;
}

pub loop-preserved : goal.loop-preserved
loop-preserved c =
    let text = c.args.file.now.text.now in
    let word = c.args.word.now in
    let before = c.loop.invariant in
    let number = c.loop.number in
    let line = c.in-Some.line.now in
    let parts = c.in-Some.ensures in
    let here = line_there text number c.loop.rest.now line c.in-Some.after.now before.from parts.0 parts.1 in
    record {
      from = line_next text number c.loop.rest.now line c.in-Some.after.now before.from parts.0 parts.1;
      said = elim c.if-eq.branch [
        | then-eq w ↦
            (let same : line ≡ word = (bytes_decides line word).0 (sym c.eq.ensures ∙ w.if-eq.true) in
            rw w.found-is (said number c.loop.found before.said (subst (IsLine text number) same here)))
        | else-eq w ↦
            (let no = sym c.eq.ensures ∙ w.if-eq.false in
            rw w.found-is (other number c.loop.found line before.said here (λ same.
            let yes = (bytes_decides line word).1 same in cc)))
      ];
      few = elim c.if-eq.branch [
        | then-eq w ↦ omega (arith, w.found-is, before.few, c.if-found-k.false)
        | else-eq w ↦ omega (arith, w.found-is, before.few)
      ];
      counted = omega (arith, before.counted);
      end = before.end;
    }

pub returns-in_default-clause-nth : goal.returns-in_default-clause-nth
returns-in_default-clause-nth c =
    let before = c.loop.invariant in (
      c.loop.found,
      before.said,
      inr (
        before.few,
        past_whole c.args.file.now.text.now c.loop.number c.loop.rest.now before.from
            c.in_default.ensures,
      ),
    )

pub returns-then-found-k-clause-nth : goal.returns-then-found-k-clause-nth
returns-then-found-k-clause-nth c =
    let text = c.args.file.now.text.now in
    let word = c.args.word.now in
    let before = c.loop.invariant in
    let number = c.loop.number in
    let line = c.in-Some.line.now in
    let parts = c.in-Some.ensures in
    let here = line_there text number c.loop.rest.now line c.in-Some.after.now before.from parts.0 parts.1 in
    elim c.if-eq.branch [
      | then-eq w ↦
          (let same : line ≡ word = (bytes_decides line word).0 (sym c.eq.ensures ∙ w.if-eq.true) in
          let last : c.loop.found + 1 ≡ c.args.k = omega (arith, w.found-is, c.if-found-k.true) in
          (c.loop.found, before.said, inl (last, subst (IsLine text number) same here)))
      | else-eq w ↦ absurd (omega (arith, before.few, w.found-is, c.if-found-k.true))
    ]
