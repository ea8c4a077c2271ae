use Rattle.std.proofs.Common.{◌≡◌, ◌∙◌, Err, List, [], ◌∷◌, Ok, Result, ℕ, ap, inl, inr, map, refl, subst, sym}
use Rattle.ira_main_cli.specs.Request.{IsMadeOf, IsVersionLine}
use Rattle.ira_main.specs.Serve.CommandOutcome.{asked, decided, drawn, each, guided, judged, mended, pairs, recorded, refused, shown}
use Rattle.ira_main.specs.Serve.CommandOutcome.{upgraded, explained as explained_of_logs}
use Rattle.ira_main.specs.Serve.Serves.{explained, with_words, without_words}
use Rattle.ira_main.proofs.Delivering.{told, told_and_kept, told_and_recorded}
use Rattle.ira_main.proofs.program.serve_without_wait.Goals as goal

none_of_none : {X Y : Type 0} (f : X → Y) (xs : List X) → map f xs ≡ [] → xs ≡ []
none_of_none f [] e = refl
none_of_none f (x ∷ xs) e = cc

-- words that begin with one are some
some_words : (words others : List (List ℕ)) (word : List ℕ) → words ≡ word ∷ others → words ≡ [] → ⊥
some_words words others word first none = cc

words_of_version : (words : List (List ℕ)) → IsVersionLine words → words ≡ [] → ⊥
words_of_version words (inl (inl is)) none = cc
words_of_version words (inl (inr is)) none = cc
words_of_version words (inr line) none = some_words _ _ _ line.first none

never_both : {X Y : Type 0} (x : X) (y : Y) → ◌≡◌ {A = Result X Y} (Ok x) (Err y) → ⊥
never_both x y both = cc

pub returns-in-Err-clause-served : goal.returns-in-Err-clause-served
returns-in-Err-clause-served g c =
    with_words (λ none. never_both _ _ (sym (c.read_words.ensures.none (none_of_none _ _ none)) ∙ c.in-Err.is)) refl
    (refused _ c.in-Err.ensures.refused refl refl (ap (λ f. Err f) c.into.ensures))

pub returns-in-OneLog-clause-served : goal.returns-in-OneLog-clause-served
returns-in-OneLog-clause-served g c =
    let made = subst (IsMadeOf (map (λ w. w.now) c.args.words.now)) c.in-OneLog.is c.in-Ok.ensures.made in
    without_words made refl (told _ _ _ _ _ _ c.judge_input.ensures.judged c.deliver.ensures)

pub returns-in-Logs-clause-served : goal.returns-in-Logs-clause-served
returns-in-Logs-clause-served g c =
    let made = subst (IsMadeOf (map (λ w. w.now) c.args.words.now)) c.in-Logs.is c.in-Ok.ensures.made in
    with_words (some_words _ _ _ made.line.first) refl (judged _ made refl
    (rw c.of_json.ensures at c.answer_logs.ensures))

pub returns-in-Each-clause-served : goal.returns-in-Each-clause-served
returns-in-Each-clause-served g c =
    let made = subst (IsMadeOf (map (λ w. w.now) c.args.words.now)) c.in-Each.is c.in-Ok.ensures.made in
    with_words (some_words _ _ _ made.first) refl (each _ made refl
    (rw (c.of_json-in-Each.ensures, c.deref.ensures.value) at c.judge_each.ensures))

pub returns-in-OneLog-answer-clause-served : goal.returns-in-OneLog-answer-clause-served
returns-in-OneLog-answer-clause-served g c =
    let made = subst (IsMadeOf (map (λ w. w.now) c.args.words.now)) c.in-Explain.is c.in-Ok.ensures.made in
    explained _ made c.in-OneLog-answer.is refl (told _ _ _ _ _ _
    (rw c.of_json-form.ensures at c.explain_input.ensures.judged) c.deliver-in-OneLog-answer.ensures)

pub returns-in-Logs-answer-clause-served : goal.returns-in-Logs-answer-clause-served
returns-in-Logs-answer-clause-served g c =
    let made = subst (IsMadeOf (map (λ w. w.now) c.args.words.now)) c.in-Explain.is c.in-Ok.ensures.made in
    with_words (some_words _ _ _ made.first) refl (explained_of_logs _ made refl
    (rw c.in-Logs-answer.is (rw c.of_json-form.ensures at c.answer_logs-in-Logs-answer.ensures)))

pub returns-in-Findings-clause-served : goal.returns-in-Findings-clause-served
returns-in-Findings-clause-served g c =
    let made = subst (IsMadeOf (map (λ w. w.now) c.args.words.now)) c.in-Explain.is c.in-Ok.ensures.made in
    with_words (some_words _ _ _ made.first) refl (explained_of_logs _ made refl
    (rw c.in-Findings.is (told _ _ _ _ _ _
    (rw (c.asking-inputs.ensures, c.of_json-form.ensures) at c.answer_files.ensures) c.deliver-in-Findings.ensures)))

pub returns-in-Explain-clause-served : goal.returns-in-Explain-clause-served
returns-in-Explain-clause-served g c =
    let made = subst (IsMadeOf (map (λ w. w.now) c.args.words.now)) c.in-Explain.is c.in-Ok.ensures.made in
    with_words (some_words _ _ _ made.first) refl (explained_of_logs _ made refl
    (rw c.in-Certificate.is (told _ _ _ _ _ _
    (rw c.of_json-form.ensures at c.answer_files-in-Certificate.ensures) c.deliver-in-Certificate.ensures)))

pub returns-in-Show-clause-served : goal.returns-in-Show-clause-served
returns-in-Show-clause-served g c =
    let made = subst (IsMadeOf (map (λ w. w.now) c.args.words.now)) c.in-Show.is c.in-Ok.ensures.made in
    with_words (some_words _ _ _ made.first) refl (shown _ made refl (told _ _ _ _ _ _ c.show_files.ensures
    c.deliver-in-Show.ensures))

pub returns-in-Draw-clause-served : goal.returns-in-Draw-clause-served
returns-in-Draw-clause-served g c =
    let made = subst (IsMadeOf (map (λ w. w.now) c.args.words.now)) c.in-Draw.is c.in-Ok.ensures.made in
    with_words (some_words _ _ _ made.first) refl (drawn _ made (told_and_kept _ _ _ _ _ _ _ _ _ _ c.draw_files-reply.ensures
    c.deliver_and_keep.ensures))

pub returns-in-Check-clause-served : goal.returns-in-Check-clause-served
returns-in-Check-clause-served g c =
    let made = subst (IsMadeOf (map (λ w. w.now) c.args.words.now)) c.in-Check.is c.in-Ok.ensures.made in
    (made, record { input_is = refl; shelf_is = refl; out_is = refl })

pub returns-in-Decide-clause-served : goal.returns-in-Decide-clause-served
returns-in-Decide-clause-served g c =
    let made = subst (IsMadeOf (map (λ w. w.now) c.args.words.now)) c.in-Decide.is c.in-Ok.ensures.made in
    with_words (some_words _ _ _ made.first) refl (decided _ made (told_and_kept _ _ _ _ _ _ _ _ _ _
    (rw (c.asking-inputs-in-Decide.ensures, c.is_some.ensures, c.is_brief.ensures, c.of_json-in-Decide.ensures) at c.answer_files-reply.ensures)
    c.deliver_and_keep-in-Decide.ensures))

pub returns-in-Pairs-clause-served : goal.returns-in-Pairs-clause-served
returns-in-Pairs-clause-served g c =
    let made = subst (IsMadeOf (map (λ w. w.now) c.args.words.now)) c.in-Pairs.is c.in-Ok.ensures.made in
    with_words (some_words _ _ _ made.first) refl (pairs _ made refl (told _ _ _ _ _ _ c.pairs.ensures
    c.deliver-in-Pairs.ensures))

pub returns-in-Ask-clause-served : goal.returns-in-Ask-clause-served
returns-in-Ask-clause-served g c =
    let made = subst (IsMadeOf (map (λ w. w.now) c.args.words.now)) c.in-Ask.is c.in-Ok.ensures.made in
    with_words (some_words _ _ _ made.first) refl (asked _ made refl (told _ _ _ _ _ _ c.ask_files.ensures
    c.deliver-in-Ask.ensures))

pub returns-then-ring-clause-served : goal.returns-then-ring-clause-served
returns-then-ring-clause-served g c =
    let made = subst (IsMadeOf (map (λ w. w.now) c.args.words.now)) c.in-Run.is c.in-Ok.ensures.made in
    with_words (some_words _ _ _ made.first) refl (recorded _ made (told_and_recorded _ _ _ _ _ _ _ _ _ _ c.record_run_alone-reply.ensures
    c.record_and_deliver.ensures))

pub returns-in-Upgrade-clause-served : goal.returns-in-Upgrade-clause-served
returns-in-Upgrade-clause-served g c =
    let made = subst (IsMadeOf (map (λ w. w.now) c.args.words.now)) c.in-Upgrade.is c.in-Ok.ensures.made in
    with_words (some_words _ _ _ made.first) refl (upgraded _ made (told_and_recorded _ _ _ _ _ _ _ _ _ _ c.upgrade_files-reply.ensures
    c.record_and_deliver-in-Upgrade.ensures))

pub returns-in-Mend-clause-served : goal.returns-in-Mend-clause-served
returns-in-Mend-clause-served g c =
    let made = subst (IsMadeOf (map (λ w. w.now) c.args.words.now)) c.in-Mend.is c.in-Ok.ensures.made in
    with_words (some_words _ _ _ made.first) refl (mended _ made (told_and_recorded _ _ _ _ _ _ _ _ _ _ c.mend_files-reply.ensures
    c.record_and_deliver-in-Mend.ensures))

pub returns-in-Guide-clause-served : goal.returns-in-Guide-clause-served
returns-in-Guide-clause-served g c =
    let made = subst (IsMadeOf (map (λ w. w.now) c.args.words.now)) c.in-Guide.is c.in-Ok.ensures.made in
    with_words (some_words _ _ _ made.first) refl (guided _ made refl c.print_guide.ensures)
