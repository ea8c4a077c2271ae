use Rattle.std.proofs.Common.{◌≡◌, ◌∙◌, ◌++◌, ℕ, List, [], Some, ap, arith, length, min, refl, subst, sym, take}
use Rattle.std.specs.Prelude.{slice_index_or}
use Rattle.std.specs.List.{AllZip}
use Rattle.std.proofs.lemmas.List.{take_all}
use Rattle.std.proofs.lemmas.Option.{slice_get-get_or}
use Rattle.std.proofs.lemmas.Slice.Zip.{AllZip-long}
use Rattle.ira_elim.specs.Found.{IsFound}
use Rattle.ira_audit.proofs.Zipped.{zipped_at}
use Rattle.ira_audit.specs.AskedQuestion.{AskedQuestion}
use Rattle.ira_view_page.proofs.Adding.{◌&◌, holds, nothing_added}
use Rattle.ira_view_page.specs.Counts.{counts}
use Rattle.ira_view_page.specs.Parts.{AreParts, none}
use Rattle.ira_view_explain_question.specs.ChosenCases.{chosen_cases, rest_text}
use Rattle.ira_view_explain_question.specs.ExplainedCase.{IsCaseOf, TellsCaseOf}
use Rattle.ira_view_explain_question.proofs.Explained.{listed_within, zipped_next}
use Rattle.ira_view_page.proofs.Parts.{part_more}
use Rattle.ira_view_explain_question.proofs.explain.explain_cases.Goals as goal
use Rattle.ira_view_show.proofs.Lines.{take_shown}

pub loop-number-init : goal.loop-number-init
loop-number-init g c = record {
  cases = rw c.new-cases.ensures.items tt;
  lines = [];
  told = none;
  added = nothing_added c.new-page.result;
}

pub case-case-requires : goal.case-case-requires
case-case-requires g c =
    let asked = c.args.ring.now.asked.now in
    let here = listed_within c.deref.result.now c.in_ok-chosen.chosen.items c.min.result c.loop-number.number-index
    (length c.args.found.now) c.deref.ensures.value c.in_ok-chosen.ensures.within c.loop-number-test.true in
    omega (arith, here, AllZip-long (IsFound asked.logs) asked.question.cases c.args.found.now c.requires)

pub offset_bounds-found-number : goal.offset_bounds-found-number
offset_bounds-found-number g c =
    let here = listed_within c.deref.result.now c.in_ok-chosen.chosen.items c.min.result c.loop-number.number-index
    (length c.args.found.now) c.deref.ensures.value c.in_ok-chosen.ensures.within c.loop-number-test.true in
    omega (arith, here)

pub bounds-found-number : goal.bounds-found-number
bounds-found-number g c =
    listed_within c.deref.result.now c.in_ok-chosen.chosen.items c.min.result c.loop-number.number-index
    (length c.args.found.now) c.deref.ensures.value c.in_ok-chosen.ensures.within c.loop-number-test.true

pub print-requires : goal.print-requires
print-requires g c =
    let asked = c.args.ring.now.asked.now in
    let found = c.args.found.now in
    let number = slice_index_or (take c.min.result c.deref.result.now) c.loop-number.number-index 0 in
    let case = c.case-case.result.case.now in
    let here = listed_within c.deref.result.now c.in_ok-chosen.chosen.items c.min.result c.loop-number.number-index
    (length found) c.deref.ensures.value c.in_ok-chosen.ensures.within c.loop-number-test.true in
    let at = slice_get-get_or found number _ here ∙ ap Some (sym c.index-found-number.is) in
    subst (λ (a : AskedQuestion). IsFound a.logs case c.index-found-number.result) (sym c.case-case.ensures.asked)
    (zipped_at (IsFound asked.logs) asked.question.cases found number case c.index-found-number.result c.requires
    c.case-case.ensures.case at)

pub loop-number-preserved : goal.loop-number-preserved
loop-number-preserved g c =
    let asked = c.args.ring.now.asked.now in
    let files = c.args.ring.now.files in
    let found = c.args.found.now in
    let told = take c.min.result c.deref.result.now in
    let i = c.loop-number.number-index in
    let number = slice_index_or told i 0 in
    let value = c.in_ok-asked_case.field-0 in
    let so_far = c.loop-number.invariant in
    let here = listed_within c.deref.result.now c.in_ok-chosen.chosen.items c.min.result i (length found)
    c.deref.ensures.value c.in_ok-chosen.ensures.within c.loop-number-test.true in
    let at = slice_get-get_or found number _ here ∙ ap Some (sym c.index-found-number.is) in
    let printed = rw (c.case-case.ensures.files, c.case-case.ensures.asked, c.case-case.ensures.number) at
    c.in_ok-print.ensures in
    let is_case : IsCaseOf files.question.now asked number value = (
      c.case-case.result.case.now,
      c.case-case.ensures.case,
      rw (c.case-case.ensures.files, c.case-case.ensures.asked, c.case-case.ensures.number) at
          c.in_ok-asked_case.ensures,
    ) in
    record {
      cases = rw c.in_ok-push.ensures.items (zipped_next (IsCaseOf files.question.now asked) told i value
          c.loop-number.cases.items c.loop-number-test.true so_far.cases is_case);
      lines = so_far.lines ++ printed.0;
      told = part_more (TellsCaseOf files asked found) told i number 0 so_far.lines printed.0
          c.loop-number-test.true refl so_far.told (c.index-found-number.result, at, printed.1);
      added = so_far.added & printed.2;
    }

pub returns : goal.returns
returns g c =
    let asked = c.args.ring.now.asked.now in
    let files = c.args.ring.now.files in
    let all = chosen_cases c.args.named c.args.found.now in
    let i = c.loop-number.number-index in
    let told = take c.min.result c.deref.result.now in
    let so_far = c.loop-number.invariant in
    let value = c.deref.ensures.value ∙ c.in_ok-chosen.ensures.value in
    let first : c.min.result ≡ min (length c.deref.result.now) 8 =
    omega (arith, c.min.ensures, c.len.ensures, c.deref.ensures.len) in
    let same : take i told ≡ take 8 all =
    take_all i told c.loop-number-test.false ∙ take_shown c.deref.result.now c.min.result 8 first ∙ ap (take 8) value in
    let count : c.len-2.result ≡ length all = omega (arith, c.len-2.ensures, c.deref.ensures.len, ap length value) in
    let page = holds c.in_ok-finish.field-0 c.new-page.ensures (so_far.added & c.print_rest.ensures)
    c.in_ok-finish.ensures in
    record {
      ring = ap Some (c.of.ensures ∙ ap counts c.logs.ensures.value);
      state_before = refl;
      evidence = c.new.ensures.items;
      hints = c.new-2.ensures.items;
      cases = subst (λ (ns : List ℕ). AllZip (IsCaseOf files.question.now asked) ns c.loop-number.cases.items) same
          so_far.cases;
      lines = so_far.lines;
      told = subst (λ (ns : List ℕ). AreParts (TellsCaseOf files asked c.args.found.now) ns so_far.lines) same
          so_far.told;
      page = page ∙ ap (λ n. so_far.lines ++ rest_text c.args.named n (length asked.question.cases)) count;
    }
