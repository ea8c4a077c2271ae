-- What is said on how to use the program.
use Rattle.std.specs.Prelude.{ℕ, List}
use Rattle.ira_main.specs.declared.guide.TheConstants.{COMMANDS_GUIDE, LOGS_GUIDE, QUESTIONS_GUIDE}
use Rattle.ira_main_cli.specs.declared.guide_topic.GuideTopic.{GuideTopic}
use Rattle.ira_main_cli.specs.declared.guide_topic.GuideTopic.TheVariants.{Commands, Logs, Questions}

-- the text on a topic, which is one for people
abbrev pub guide_text : GuideTopic → List ℕ
guide_text Commands = COMMANDS_GUIDE.now
guide_text Questions = QUESTIONS_GUIDE.now
guide_text Logs = LOGS_GUIDE.now
