use Rattle.std.proofs.Common.{◌++◌, ◌∷◌, []}
use Rattle.ira_commands.proofs.Overviews.{answers_both, lists_both}
use Rattle.ira_commands.proofs.Served.{if_ok}
use Rattle.ira_commands.specs.Overview.{check_commands, found_commands, given_in}
use Rattle.ira_commands.proofs.overview.add_question.Goals as goal

pub returns-in_ok-tell_found-in-Decided : goal.returns-in_ok-tell_found-in-Decided
returns-in_ok-tell_found-in-Decided g c = rw c.in-Decided.is (if_ok c.add_both.result (λ _ added. record {
  replies = _;
  answers = c.in_ok-tell_found-in-Decided.ensures c.args.certificate.now;
  added = added;
}) c.add_both.ensures)

pub returns-in_ok-add_both-in-Certified-2 : goal.returns-in_ok-add_both-in-Certified-2
returns-in_ok-add_both-in-Certified-2 g c =
    let given = given_in c.args.files c.args.certificate.now in
    let found = c.in_ok-tell_found-in-Certified.field-0.0 ∷ c.in_ok-tell_found-in-Certified.field-0.1 ∷ [] in
    let checked = c.in_ok-tell_certificate-in-Certified.field-0.0 ∷ c.in_ok-tell_certificate-in-Certified.field-0.1 ∷ [] in
    rw c.in-Certified.is (record {
      replies = found ++ checked;
      answers = answers_both _ found_commands check_commands given found checked
          (c.in_ok-tell_found-in-Certified.ensures c.args.certificate.now) c.in_ok-tell_certificate-in-Certified.ensures;
      added = lists_both _ _ _ found checked c.in_ok-add_both-in-Certified.ensures c.in_ok-add_both-in-Certified-2.ensures;
    })
