-- What is said of the arguments and commands that the table is made into.
use Rattle.std.proofs.Common.{◌≡◌, ◌∙◌, ℕ, ◌+◌, ◌<◌, Bool, true, false, not, ◌&&◌, List, [], ◌∷◌, refl, sym, ap}
use Rattle.std.proofs.Common.{ap₂, get_or, is_some, length, take}
use Rattle.std.proofs.lemmas.List.Sums.{fold_more}
use Rattle.std.specs.Prelude.{fold}
use Rattle.clap.proofs.SimpleLemmas.{is_false, plain_fields}
use Rattle.clap.specs.Walk.{Rule, is_empty}
use Rattle.clap.specs.Words.{AddsArg, AddsSubcommand, App, Text, app_of, new_app, rule_of, with_rule, with_subcommand}
use Rattle.clap.specs.declared.builder.arg.Arg.{Arg}
use Rattle.clap.specs.declared.builder.command.Command.{Command}
use Rattle.ira_main_cli.specs.Argument.{rule_of_argument, rule_of_form, with_need}
use Rattle.ira_main_cli.specs.CommandEntry.{app_of_entry, with_entry}
use Rattle.ira_main_cli.specs.CommandLine.{commands, ira_app, ira_top}
use Rattle.ira_main_cli.specs.declared.argument.Argument.{Argument}
use Rattle.ira_main_cli.specs.declared.argument.ArgumentForm.{ArgumentForm}
use Rattle.ira_main_cli.specs.declared.argument.ArgumentForm.TheVariants.{Flag, Value, Word, Files}
use Rattle.ira_main_cli.specs.declared.argument.Need.{Need}
use Rattle.ira_main_cli.specs.declared.argument.Need.TheVariants.{Optional, Required, Default}
use Rattle.ira_main_cli.specs.declared.command_entry.CommandEntry.{CommandEntry}

last_true : (a b : Bool) → (a && b) ≡ true → b ≡ true
last_true true b e = e
last_true false b e = cc

last_false : (a b c d e f g h i last : Bool)
    → (a && (b && (c && (d && (e && (f && (g && (h && (i && not last))))))))) ≡ true → last ≡ false
last_false a b c d e f g h i last all =
    is_false last (last_true i _ (last_true h _ (last_true g _ (last_true f _ (last_true e _ (last_true d _ (last_true c _
    (last_true b _ (last_true a _ all)))))))))

formed : (form : ArgumentForm) (name : List ℕ) → (rule_of_form form name).is_simple ≡ true
formed Flag name = refl
formed (Value value parser) name = refl
formed (Word parser) name = refl
formed Files name = refl

simple : (form : ArgumentForm) (need : Need) (name : List ℕ) → (with_need need (rule_of_form form name)).is_simple ≡ true
simple form Optional name = formed form name
simple form Required name = formed form name
simple form (Default value) name = formed form name

-- an argument that is made of one of the table isn't global
pub local : (a : Arg) (argument : Argument) → rule_of a ≡ rule_of_argument argument → a.global ≡ false
local a argument is =
    last_false (is_empty a.overrides.items) (is_empty a.default_vals_ifs.items) (is_empty a.groups.items)
    (not (is_some a.val_delim)) (not (is_some a.terminator)) (not a.allow_hyphen_values)
    (not a.allow_negative_numbers) (not a.require_equals) (not a.last) a.global
    (ap (λ (r : Rule). r.is_simple) is ∙ simple argument.1 argument.2 argument.0.now)

-- what is made of arguments of the table stays plain
stays_plain : (app : App) (arguments : List Argument)
    → (fold (λ a x. with_rule a (rule_of_argument x)) app arguments).top.is_plain ≡ app.top.is_plain
stays_plain app [] = refl
stays_plain app (x ∷ rest) = stays_plain (with_rule app (rule_of_argument x)) rest

abbrev with_argument : App → Argument → App
with_argument app argument = with_rule app (rule_of_argument argument)

pub adds_argument : (name : Text) (xs : List Argument) (i : ℕ) (d : Argument) (old new : Command) (a : Arg)
    → app_of old ≡ fold with_argument (new_app name) (take i xs) → i < length xs
    → rule_of a ≡ rule_of_argument (get_or xs i d) → AddsArg old a new
    → app_of new ≡ fold with_argument (new_app name) (take (i + 1) xs)
adds_argument name xs i d old new a is lt its adds =
    adds.shape (local a (get_or xs i d) its) ∙ ap₂ with_rule is its
    ∙ sym (fold_more with_argument (new_app name) xs i d lt)

pub adds_entry : (app : App) (xs : List CommandEntry) (i : ℕ) (d : CommandEntry) (old sub new : Command)
    → app_of old ≡ fold with_entry app (take i xs) → i < length xs → app_of sub ≡ app_of_entry (get_or xs i d)
    → AddsSubcommand old sub new → app_of new ≡ fold with_entry app (take (i + 1) xs)
adds_entry app xs i d old sub new is lt its adds =
    let entry = get_or xs i d in
    let plain = ap (λ (a : App). a.top.is_plain) its ∙ stays_plain (new_app entry.name.now) entry.arguments.now in
    adds.shape (plain_fields sub plain).globals ∙ ap₂ with_subcommand is (ap (λ (a : App). a.top) its)
    ∙ sym (fold_more with_entry app xs i d lt)

-- the program's command line, with all its commands
pub with_all : (top app : App) → top ≡ ira_top → app ≡ fold (λ a command. with_subcommand a command.top) top commands
    → app ≡ ira_app
with_all top app is has = has ∙ ap (λ (t : App). fold (λ a command. with_subcommand a command.top) t commands) is
