use Rattle.ira_audit.proofs.NeverMet.{no_case}
use Rattle.std.proofs.Common.{subst}
use Rattle.ira_audit.specs.CheckAnswer.{IsCheckAnswer}
use Rattle.ira_audit.specs.declared.answer.Answer.{Answer}
use Rattle.ira_view.specs.Texts.{texts_of}
use Rattle.ira_commands.proofs.Served.{if_ok}
use Rattle.ira_commands.proofs.explain_question.explain_certificate.Goals as goal

pub returns : goal.returns
returns g c =
    let texts = texts_of c.args.files.logs.now in
    let question = c.args.files.question.now.text.now in
    let certificate = c.args.certificate.now.text.now in
    let judged = c.in_ok-view.ensures.answer in
    if_ok c.tell_view.result (λ reply told. record {
      answer = c.in_ok-view.view.answer;
      judged = judged;
      never = λ e. no_case texts question certificate
          (subst (λ (a : Answer). IsCheckAnswer texts question certificate a) e judged);
      told = (c.in_ok-view.view.explanation, c.args.judged.now, c.requires, c.in_ok-view.ensures.explained, told);
    }) c.tell_view.ensures
