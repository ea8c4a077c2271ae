use Rattle.std.proofs.Common.{◌∙◌, ◌++◌, ◌∷◌, [], List, ap, map, refl, subst, sym}
use Rattle.ira_view.specs.Texts.{texts_of}
use Rattle.ira_view.specs.declared.form.Form.TheVariants.{Words}
use Rattle.ira_commands.proofs.Overviews.{answers_both, lists_both}
use Rattle.ira_commands.specs.Overview.{AreAnswers, given_in, overview_commands, question_commands, ring_commands}
use Rattle.ira_commands.specs.Reply.{Reply}
use Rattle.ira_commands.specs.declared.logs_command.LogsCommand.TheVariants.{Answer, Explain}
use Rattle.ira_commands.proofs.overview.answer_overview.Goals as goal

pub returns : goal.returns
returns g c =
    let files = c.args.files in let texts = texts_of files.logs.now in let overview = c.args.overview in
    let given = given_in files c.args.certificate.now in
    let logs = c.in_ok-answer.answer ∷ c.in_ok-explained.explained ∷ [] in
    let asked = c.in_ok-add_question.ensures in
    let shown = c.in_ok-show_overview.ensures (map (λ file. file.name.now) files.logs.now) texts
    (record { names_are = refl; texts_are = refl }) in
    let ring = c.in_ok-show_overview.field-0.0 ∷ c.in_ok-show_overview.field-0.1 ∷ [] in
    let begun = c.in_ok-add_both.ensures ∙ ap (λ (rs : List Reply). rs ++ logs) c.new-replies.ensures.items in
    let all = lists_both logs _ _ asked.replies ring (asked.added ∙ ap (λ (rs : List Reply). rs ++ asked.replies) begun)
    c.in_ok-add_both-2.ensures in
    let first : AreAnswers _ (Answer Words ∷ Explain Words ∷ []) given logs = record {
      each = (
        c.in_ok-answer.ensures texts c.requires,
        ((files.logs.now, record { names_are = refl; texts_are = refl }, c.in_ok-explained.ensures), tt),
      );
    } in
    let last : AreAnswers _ (ring_commands overview.columns overview.moment) given ring =
    record { each = (shown.0, (shown.1, tt)) } in
    subst (AreAnswers _ (overview_commands overview) given) (sym all) (answers_both _ _ _ given logs _ first
    (answers_both _ (question_commands overview.question) _ given asked.replies ring asked.answers last))
