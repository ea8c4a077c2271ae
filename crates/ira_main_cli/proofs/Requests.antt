-- What words ask for, by what a parse found of them.
use Rattle.std.proofs.Common.{◌≡◌, ◌≢◌, ◌∙◌, ◌⊎◌, inl, inr, Option, None, Some, List, [], ◌∷◌, ◌++◌, codes, refl, sym, ap, subst, true}
use Rattle.std.proofs.Common.{drop, map}
use Rattle.std.specs.Borrow.{Bor}
use Rattle.std.specs.Prelude.{is_some, option_map, slice_get}
use Rattle.clap.specs.Faults.{fault_of, is_simple_and_free}
use Rattle.clap.specs.Kinds.{HasKind}
use Rattle.clap.specs.Simple.{App, HasMatchesOf, built_leaf, subcommand_rows_of}
use Rattle.clap.specs.Values.{kind_of}
use Rattle.clap.specs.Walk.{Row, Text, all_of, first_of, rows_after}
use Rattle.clap.specs.declared.error.Error.{Error}
use Rattle.clap.specs.declared.error.kind.ErrorKind.TheVariants as kind
use Rattle.clap.specs.declared.parser.matches.ArgMatches.{ArgMatches}
use Rattle.ira_main_cli.specs.CommandLine.{IsOneOf, commands, ira_app, logs_app}
use Rattle.ira_main_cli.specs.Asked.{HasLogs, HasSource, MayNameLogs, NamesLogs, NamesNoQuestion}
use Rattle.ira_main_cli.specs.Request.{AreAcceptedWords, Asks, GoTogether, GoTogetherAfter, IsCommandLine, IsLogsLine}
use Rattle.ira_main_cli.specs.Request.{IsMadeOf, found_after}
use Rattle.ira_main_cli.specs.declared.logs_request.LogsRequest.{LogsRequest}
use Rattle.ira_main_cli.specs.declared.question_source.QuestionSource.{QuestionSource}
use Rattle.ira_main_cli.specs.declared.question_source.QuestionSource.TheVariants as source
use Rattle.ira_main_cli.specs.declared.request.Request.{Request}
use Rattle.ira_main_cli.specs.declared.request.Request.TheVariants.{OneLog, Logs, Each, Explain, Show, Draw, Check, Decide}
use Rattle.ira_main_cli.specs.declared.request.Request.TheVariants.{Ask, Pairs, Run, Upgrade, Mend, Guide, Version}
use Rattle.ira_main_cli.proofs.Entered.{found}
use Rattle.ira_main_cli.proofs.GivenNames.{dashes_rows, of_files, words_rows}

-- words that are read have no fault, and this is found of them
pub accepted : (a : App) (words : List Text) (m : ArgMatches) → a ≡ ira_app
    → (is_simple_and_free a ≡ true → fault_of a words ≡ []) → HasMatchesOf a words m
    → AreAcceptedWords words × HasMatchesOf ira_app words m
accepted a words m is none found = (
  subst (λ (x : App). fault_of x words ≡ []) is (none (ap is_simple_and_free is)),
  subst (λ x. HasMatchesOf x words m) is found,
)

-- the words from the first on
pub begin : (words : List (Bor Text)) (first : Bor Text) → Some first ≡ slice_get words 0
    → map (λ w. w.now) words ≡ first.now ∷ map (λ w. w.now) (drop 1 words)
begin [] first is = cc
begin (w ∷ words) first is =
    let same : first ≡ w = cc in
    ap (λ (x : Bor Text). x.now ∷ map (λ w. w.now) words) (sym same)

-- what the parser hands on is found of the words after the name of a command
pub found_rows : (m : ArgMatches) (words : List Text) (name : Text) (others : List Text) (rows : List Row)
    → HasMatchesOf ira_app words m → words ≡ name ∷ others → IsOneOf name commands
    → Some rows ≡ option_map (λ p. p.1) (subcommand_rows_of m) → rows ≡ found_after name others
found_rows m words name others rows has first one is =
    let all : Some rows ≡ Some (found_after name others) =
    is ∙ ap (option_map (λ p. p.1)) (found m name others (subst (λ ws. HasMatchesOf ira_app ws m) first has) one) in
    cc

-- so that goes together where the words do
pub together : (m : ArgMatches) (words : List Text) (name : Text) (others : List Text) (rows : List Row)
    → HasMatchesOf ira_app words m → words ≡ name ∷ others
    → Some rows ≡ option_map (λ p. p.1) (subcommand_rows_of m) → GoTogether words
    → IsOneOf name commands × GoTogetherAfter name rows
together m words name others rows has first is go =
    let same : name ∷ others ≡ go.0 ∷ go.1 = sym first ∙ go.2 in
    let begins : go.0 ≡ name = cc in
    let goes : go.1 ≡ others = cc in
    let one : IsOneOf name commands = subst (λ n. IsOneOf n commands) begins go.3 in
    let after : found_after go.0 go.1 ≡ rows =
    ap (λ n. found_after n go.1) begins ∙ ap (found_after name) goes
    ∙ sym (found_rows m words name others rows has first one is) in
    (one, subst (GoTogetherAfter name) after (subst (λ n. GoTogetherAfter n (found_after go.0 go.1)) begins go.4))

-- there is a first word then, and the parser enters a command
pub are_met : (m : ArgMatches) (words : List (Bor Text)) → HasMatchesOf ira_app (map (λ w. w.now) words) m
    → GoTogether (map (λ w. w.now) words) → (None ≢ slice_get words 0)
    × (None ≢ option_map (λ p. p.1) (subcommand_rows_of m))
are_met m [] has go =
    let none = go.2 in
    cc
are_met m (w ∷ words) has go = (
  λ none. cc,
  λ none.
      let met = found m go.0 go.1 (subst (λ ws. HasMatchesOf ira_app ws m) go.2 has) go.3 in
      let bad = none ∙ ap (option_map (λ p. p.1)) met in
      cc,
)

-- and where words without one are refused all the same, memory has run out
pub out_of_memory : (a : App) (words : List Text) (e : Error) → a ≡ ira_app
    → (is_simple_and_free a ≡ true → HasKind (fault_of a words) e) → fault_of ira_app words ≡ []
    → kind_of e ≡ kind.OutOfMemory
out_of_memory a words e is fails none =
    let Fails : App → Type 0 = λ x. HasKind (fault_of x words) e in
    elim (subst (λ k. HasKind k e) none (subst Fails is (fails (ap is_simple_and_free is)))) [
      | inl h ↦ h
      | inr h ↦ absurd h
    ]

logs_line : (words : List Text) (request : LogsRequest) → IsCommandLine words (Logs request) → IsLogsLine words request
logs_line words request line =
    let rows = rows_after (built_leaf logs_app.top).rules [] in
    let here : HasLogs (rows line.others) request.logs =
    subst (λ n. HasLogs (found_after n line.others) request.logs) line.asked.0 line.asked.1.logs in
    record {
      line = line;
      plain = λ are. of_files request.logs line.others
          (subst (λ found. HasLogs found request.logs) (words_rows line.others are) here);
      marked = λ front back are apart. of_files request.logs (front ++ back)
          (subst (λ found. HasLogs found request.logs) (ap rows apart ∙ dashes_rows front back are) here);
    }

-- the name of a command that is asked for is one
pub named : (name : Text) (rows : List Row) (request : Request) → Asks name rows request → IsOneOf name commands
named name rows OneLog asks = absurd asks
named name rows (Logs logs) asks = inl asks.0
named name rows (Each each) (inl logs) = inl logs.0
named name rows (Each each) (inr explain) = inr (inl explain.0)
named name rows (Explain explain) asks = inr (inl asks.0)
named name rows (Show request) asks = inr (inr (inl asks.0))
named name rows (Draw request) asks = inr (inr (inr (inl asks.0)))
named name rows (Check request) asks = inr (inr (inr (inr (inl asks.0))))
named name rows (Decide request) asks = inr (inr (inr (inr (inr (inl asks.0)))))
named name rows (Pairs request) asks = inr (inr (inr (inr (inr (inr (inl asks.0))))))
named name rows (Ask request) asks = inr (inr (inr (inr (inr (inr (inr (inl asks.0)))))))
named name rows (Run request) asks = inr (inr (inr (inr (inr (inr (inr (inr (inl asks.0))))))))
named name rows (Upgrade request) asks = inr (inr (inr (inr (inr (inr (inr (inr (inr (inl asks.0)))))))))
named name rows (Mend request) asks = inr (inr (inr (inr (inr (inr (inr (inr (inr (inr (inl asks.0))))))))))
named name rows (Guide request) asks = inr (inr (inr (inr (inr (inr (inr (inr (inr (inr (inr (inl asks.0)))))))))))
named name rows Version is = inr (inr (inr (inr (inr (inr (inr (inr (inr (inr (inr (inr (inl is))))))))))))

pub made : (words : List Text) (name : Text) (others : List Text) (rows : List Row) (request : Request)
    → AreAcceptedWords words → words ≡ name ∷ others → rows ≡ found_after name others → Asks name rows request
    → IsMadeOf words request
made words name others rows request are first is asks =
    go request (record {
      accepted = are;
      name = name;
      others = others;
      first = first;
      asked = subst (λ found. Asks name found request) is asks;
    })
  where
    go : (asked : Request) → IsCommandLine words asked → IsMadeOf words asked
    go OneLog line = absurd line.asked
    go (Logs logs) line = logs_line words logs line
    go Version line = inr line
    go other line = line

-- logs that are named are not named twice
pub named_once : (rows : List Row) → NamesLogs rows → MayNameLogs rows
named_once rows names = (one (first_of (codes "dir") rows) (all_of (codes "LOG") rows) names.0, names.1)
  where
    one : (folder : Option Text) (files : Option (List Text)) → is_some folder ≢ is_some files
        → (folder ≡ None) ⊎ (files ≡ None)
    one None files differ = inl refl
    one (Some folder) None differ = inr refl
    one (Some folder) (Some files) differ = absurd (differ refl)

-- what a question comes from is given
pub not_both : (rows : List Row) (question : QuestionSource) → HasSource rows question → NamesNoQuestion rows → ⊥
not_both rows (source.File name) has none = let e = sym none.0 ∙ has.0 in cc
not_both rows (source.Sentence sentence) has none = let e = sym none.1 ∙ has.0 in cc
