-- An option or a name of a command, as the parser of words reads it.
use Rattle.std.specs.Prelude.{ℕ, List}
use Rattle.clap.specs.Words.{Rule}
use Rattle.ira_main_cli.specs.CommandLine.{default_to, files_rule, flag_rule, option_rule, required, word_rule}
use Rattle.ira_main_cli.specs.declared.argument.Argument.{Argument}
use Rattle.ira_main_cli.specs.declared.argument.ArgumentForm.{ArgumentForm}
use Rattle.ira_main_cli.specs.declared.argument.ArgumentForm.TheVariants.{Flag, Value, Word, Files}
use Rattle.ira_main_cli.specs.declared.argument.Need.{Need}
use Rattle.ira_main_cli.specs.declared.argument.Need.TheVariants.{Optional, Required, Default}

abbrev pub rule_of_form : ArgumentForm → List ℕ → Rule
rule_of_form Flag name = flag_rule name
rule_of_form (Value value parser) name = option_rule parser name
rule_of_form (Word parser) name = word_rule parser name
rule_of_form Files name = files_rule name

abbrev pub with_need : Need → Rule → Rule
with_need Optional rule = rule
with_need Required rule = required rule
with_need (Default value) rule = default_to value.now rule

abbrev pub rule_of_argument : Argument → Rule
rule_of_argument argument = with_need argument.2 (rule_of_form argument.1 argument.0.now)
