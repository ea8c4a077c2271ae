use Rattle.std.proofs.Common.{◌∙◌, ℕ, List, ap, rules}
use Rattle.ira_commands.specs.Decide.PrintsDecided.{absent, certified, no_certificate, past_limits}
use Rattle.ira_commands.specs.Reply.{Reply, printed, with_files}
use Rattle.ira_commands.specs.Reply.MadeFiles.{one_text}
use Rattle.ira_view.specs.declared.status.Status.TheVariants.{Yes}
use Rattle.ira_commands.proofs.decide.tell_decided.Goals as goal

pub returns-then-not-are_absent : goal.returns-then-not-are_absent
returns-then-not-are_absent g c = λ findings is.
    no_certificate (is.absent.0 (search rules))
    (_, c.in_ok-lines.ensures c.args.certify findings is, c.printed.ensures)

pub returns-then-not-certify : goal.returns-then-not-certify
returns-then-not-certify g c = λ findings is.
    absent (search rules) (λ none. let no = is.absent.1 none in cc)
    (_, c.in_ok-lines.ensures c.args.certify findings is, c.printed-then-not-certify.ensures)

pub returns-in-Some : goal.returns-in-Some
returns-in-Some g c = λ findings is.
    let lines = c.in_ok-lines.ensures c.args.certify findings is in
    let made = rw c.in-Some.is at (is.certificate (search rules) (search rules)) in
    let text = made.2.0 in
    certified (search rules) made.0 _ made.1 made.2.1 lines (c.with_files.ensures
    ∙ ap (λ (reply : Reply). with_files reply (one_text c.in-Some.text.bytes)) c.printed-in-Some.ensures
    ∙ ap (λ (file : List ℕ). with_files (printed Yes c.in_ok-lines.lines.bytes) (one_text file)) text)

pub returns : goal.returns
returns g c = λ findings is.
    let lines = c.in_ok-lines.ensures c.args.certify findings is in
    let made = rw c.in-None.is at (is.certificate (search rules) (search rules)) in
    past_limits (search rules) made.0 _ made.1 made.2 lines c.refused_after.ensures
