use Rattle.std.proofs.Common.{◌≡◌, ◌⊎◌, ◌∙◌, [], append-nil, false, inl, inr, rules, subst, sym}
use Rattle.ira_main.proofs.Folders.{judged_tellable, none_below, some_below}
use Rattle.ira_main.specs.FolderText.{IsFolderText, is_no}
use Rattle.ira_main.specs.Judge.{has_reasons}
use Rattle.ira_main.proofs.folder_answer.tell_read.Goals as goal
use Rattle.ira_main.proofs.folder_answer.tell_read.Goals.{then-not-has_reasons-via-then-not-has_reasons}
use Rattle.ira_main.proofs.folder_answer.tell_read.Goals.{then-not-has_reasons-via-else-not-has_reasons+then-not-is_no}

pub judge_as_expected-requires : goal.judge_as_expected-requires
judge_as_expected-requires g c = let r = c.requires in (r.0, c.in_ok-judged.ensures r.0 r.1.0)

pub told-requires : goal.told-requires
told-requires g c =
    let r = c.requires in
    judged_tellable _ _ r.0 _ (c.in_ok-answer.ensures r.0 (c.in_ok-judged.ensures r.0 r.1.0))

pub returns-then-not-has_reasons : goal.returns-then-not-has_reasons
returns-then-not-has_reasons g c = λ texts found.
    let told = c.in_ok-told.ensures in
    let none : (has_reasons c.args.asked.detail ≡ false) ⊎ (is_no c.in_ok-told.told.answer ≡ false) =
    elim c.then-not-has_reasons.branch [
      | then-not-has_reasons-via-then-not-has_reasons w ↦ inl (sym c.has_reasons.ensures ∙ w.if-not-has_reasons.true)
      | then-not-has_reasons-via-else-not-has_reasons+then-not-is_no w ↦ inr (sym w.is_no.ensures ∙ w.if-not-is_no.true)
    ] in
    record {
      asked = _;
      asked_is = rw c.deref.ensures.value at c.expected_by-expected.ensures;
      judged = _;
      judged_is = c.in_ok-answer.ensures texts (c.in_ok-judged.ensures texts found.0);
      answer_is = told.0;
      line = c.in_ok-told.told.text.bytes;
      line_is = subst (λ answer. IsFolderText c.args.asked.form c.args.folder.now answer c.in_ok-told.told.text.bytes)
          (sym told.0) told.1;
      why = [];
      why_is = none_below _ _ _ _ _ _ _ none;
      text_is = sym (append-nil _);
    }

pub add_reasons-requires : goal.add_reasons-requires
add_reasons-requires g c =
    let r = c.requires in
    let judged = c.in_ok-judged.ensures r.0 r.1.0 in
    let many = r.2 in
    let kept = r.1.1 (search rules) in (r.0, judged, search rules, search rules)

pub returns : goal.returns
returns g c = λ texts found.
    let told = c.in_ok-told.ensures in
    let judged = c.in_ok-judged.ensures texts found.0 in
    let kept = found.1 (search rules) in
    let below = c.in_ok-add_reasons.ensures texts judged (search rules) in
    record {
      asked = _;
      asked_is = rw c.deref.ensures.value at c.expected_by-expected.ensures;
      judged = _;
      judged_is = c.in_ok-answer.ensures texts judged;
      answer_is = told.0;
      line = c.in_ok-told.told.text.bytes;
      line_is = subst (λ answer. IsFolderText c.args.asked.form c.args.folder.now answer c.in_ok-told.told.text.bytes)
          (sym told.0) told.1;
      why = below.0;
      why_is = some_below _ _ c.args.asked.detail _ _ _ _ _ (search rules) (search rules)
          (rw (c.asked_of-command.ensures, c.deref-2.ensures.value) at below.1);
      text_is = below.2;
    }
