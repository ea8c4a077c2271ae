use Rattle.std.proofs.Common.{◌≡◌, None, Option, Some, ap, refl, subst}
use Rattle.std.specs.Borrow.{Bor}
use Rattle.std.specs.Option.{option_copied, option_map}
use Rattle.ira_audit.proofs.TextRuns.{yes_runs}
use Rattle.ira_view_election.specs.Election.{Standing, standing_of}
use Rattle.ira_view_election.specs.declared.election.Election.{Election}
use Rattle.ira_view.specs.Texts.{texts_of}
use Rattle.ira_view.specs.ViewText.{IsViewText}
use Rattle.ira_commands.proofs.explain.write_explained.Goals as goal

-- how an election stands that is lent
lent : {A : Type 0} (borrowed : Option (Bor (Election A))) (election : Option (Election A))
    → option_copied borrowed ≡ election
    → option_map (λ e. standing_of e.now) borrowed ≡ option_map standing_of election
lent (Some e) election is = ap (option_map standing_of) is
lent None election is = ap (option_map standing_of) is

pub returns-clause-text : goal.returns-clause-text
returns-clause-text g c =
    let view = c.in_ok-ring.ring.view in
    let wrote = c.in-Ok.ensures in
    let standing = option_map standing_of c.in_ok-ring.ring.election in
    let is = subst (λ (known : Option Standing). IsViewText c.args.form view.answer view.explanation known wrote.0)
    (lent c.as_ref.result c.in_ok-ring.ring.election c.as_ref.ensures.value) wrote.1 in (
      wrote.0,
      record {
        judged = c.in_ok-ring.ensures.answer;
        runs = yes_runs (texts_of c.args.logs.now) view.answer c.in_ok-ring.ensures.answer;
        told = (view.explanation, standing, c.args.judged.now, c.requires, c.in_ok-ring.ensures.explained, (wrote.0, is, refl));
      },
      wrote.2.took,
    )
