use Rattle.std.proofs.Common.{◌≡◌, ◌∙◌, IfErr, IfOk, drop, map, subst, sym}
use Rattle.std.proofs.lemmas.Result.{err_from_is_err_and}
use Rattle.clap.proofs.TakesLemmas.{passed_up}
use Rattle.clap.specs.Words.{found_of, kind_of, rows_of}
use Rattle.clap.specs.declared.error.kind.ErrorKind.TheVariants as kind
use Rattle.ira_main_cli.specs.CommandLine.{IsOneOf, commands}
use Rattle.ira_main_cli.specs.Request.{AreAcceptedWords, Asks, GoTogether, GoTogetherAfter}
use Rattle.ira_main_cli.specs.declared.options_fault.OptionsFault.TheVariants as options
use Rattle.ira_main_cli.proofs.Requests.{accepted, are_met, begin, found_rows, made, named, out_of_memory, together}
use Rattle.ira_main_cli.proofs.command_line.request_of_words.Goals as goal
use Rattle.ira_main_cli.proofs.command_line.request_of_words.Goals.{in-Some-Some, in_default, in_default-via-in-Some+in_default, in_default-via-in_default}

pub returns-in_err-matches-clause-refused : goal.returns-in_err-matches-clause-refused
returns-in_err-matches-clause-refused c =
    let words = map (λ w. w.now) c.args.words.now in
    passed_up c.from_residual-in_err-matches.result c.in_err-matches.field-0.0
    (λ e. AreAcceptedWords words → GoTogether words → kind_of e ≡ kind.OutOfMemory)
    c.from_residual-in_err-matches.ensures.1
    (λ accepted once. out_of_memory _ words c.in_err-matches.field-0.0 c.in_ok-command.ensures
    c.in_err-matches.ensures.kinds accepted)

pub returns-in-Ok-clause-made : goal.returns-in-Ok-clause-made
returns-in-Ok-clause-made c =
    let words = map (λ w. w.now) c.args.words.now in
    let others = map (λ w. w.now) (drop 1 c.args.words.now) in
    let parse = c.in_ok-matches.ensures in
    let are = accepted _ words _ c.in_ok-command.ensures parse.kinds parse.matches in
    elim c.match-first.branch [
      | in-Some-Some w ↦
          (let name = w.in-Some-Some.name.now in
          let rows = rows_of (found_of w.in-Some-Some.found.now) in
          let first = begin c.args.words.now name w.in-Some-Some.ensures.value in
          let asks = subst (λ r. IfOk r (Asks name.now rows)) (sym w.asked-is ∙ c.in-Ok.is)
          w.found_request-asked.ensures.asked in
          let one = named name.now rows c.in-Ok.request asks in
          made words name.now others rows c.in-Ok.request are.0 first
          (found_rows _ words name.now others rows are.1 first one w.in-Some-Some.ensures'.rows) asks)
      | in_default w ↦
          (let other = sym w.asked-is ∙ c.in-Ok.is in
          cc)
    ]

pub returns-in_err-error-in-Err-clause-refused : goal.returns-in_err-error-in-Err-clause-refused
returns-in_err-error-in-Err-clause-refused c =
    let failed = c.from_residual-in_err-error-in-Err in
    let why = err_from_is_err_and failed.result failed.ensures.1 in
    rw why.1 (λ are go. why.2)

pub returns-clause-refused : goal.returns-clause-refused
returns-clause-refused c = λ are go.
    let words = map (λ w. w.now) c.args.words.now in
    let others = map (λ w. w.now) (drop 1 c.args.words.now) in
    let parse = c.in_ok-matches.ensures in
    let has = (accepted _ words _ c.in_ok-command.ensures parse.kinds parse.matches).1 in
    let none = are_met c.in_ok-matches.matches c.args.words.now has go in
    c.in_ok-error-in-Err.ensures.kind ∙ c.kind.ensures (elim c.match-first.branch [
      | in-Some-Some w ↦
          (let name = w.in-Some-Some.name.now in
          let rows = rows_of (found_of w.in-Some-Some.found.now) in
          let first = begin c.args.words.now name w.in-Some-Some.ensures.value in
          let refused = subst (λ r. IfErr r (λ why. IsOneOf name.now commands → GoTogetherAfter name.now rows
          → why ≡ options.OutOfMemory)) (sym w.asked-is ∙ c.in-Err.is) w.found_request-asked.ensures.refused in
          let both = together _ words name.now others rows has first w.in-Some-Some.ensures'.rows go in
          refused both.0 both.1)
      | in_default w ↦ elim w.in_default.branch [
        | in_default-via-in-Some+in_default w' ↦ absurd (none.1 w'.in_default.ensures'.rows)
        | in_default-via-in_default w' ↦ absurd (none.0 w'.in_default.ensures.value)
      ]
    ])
