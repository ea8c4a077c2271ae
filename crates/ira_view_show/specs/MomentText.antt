-- Pages on a moment.
use Rattle.std.specs.Prelude.{◌≡◌, ℕ, List, ◌++◌, Bool, true, false, codes}
use Rattle.ira_event.specs.Log.{Log}
use Rattle.ira_view_moment.specs.Moment.{IsMoment, Moment, whole_cut}
use Rattle.ira_view_moment.specs.Rounds.{AreRounds, DrawnRound}
use Rattle.ira_view_moment.specs.declared.chosen_moment.ChosenMoment.{ChosenMoment}
use Rattle.ira_view_moment.specs.declared.chosen_moment.ChosenMoment.TheVariants.{AtEnd, AtCut, OfCase, Unmet}
use Rattle.ira_view_election.specs.Contenders.{NamesContenders}
use Rattle.ira_view_election.specs.ElectionAt.{Stands}
use Rattle.ira_view_election.specs.Election.{Standing, standing_text}
use Rattle.ira_view_show.specs.Heading.{heading_text}
use Rattle.ira_view_show.specs.NodeLines.{nodes_text}
use Rattle.ira_view_show.specs.RoundLines.{rounds_text}
use Rattle.ira_view_show.specs.Summary.{summary_text}
use Rattle.ira_view_show.specs.Way.{way_text}

-- an empty line, rounds, nodes, an empty line, what is on its way, an empty line, and how the election stands
abbrev pub tables_text : Bool → List Log → Moment → List DrawnRound → Standing → List ℕ
tables_text has_all logs m rounds standing =
    codes "\n" ++ rounds_text rounds ++ nodes_text has_all logs m.nodes ++ codes "\n" ++ way_text m.links ++ codes "\n"
    ++ standing_text standing

-- below an empty line and a first line, the text has the tables of the moment of the cut, with the rounds in which nodes
-- drew by then, and with how the election stands
pub record TellsMoment (logs : List Log) (cut : List ℕ) (has_all : Bool) (first : Moment → List ℕ) (text : List ℕ)
    : Type 0 where
  pub moment : Moment
  pub of_cut : IsMoment logs cut moment
  pub rounds : List DrawnRound
  pub drawn : AreRounds logs cut rounds
  pub standing : Standing
  pub stands : Stands moment standing
  pub names : NamesContenders logs cut standing
  pub lines : text ≡ codes "\n" ++ first moment ++ tables_text has_all logs moment rounds standing

-- the text is the page of the moment: at the end of the logs with a summary, else with which moment it is and with how
-- many events each log has in all; where there is no moment that alone
abbrev pub TellsChosen : {A : Type 0} → List Log → ChosenMoment A → List ℕ → Type 0
TellsChosen logs AtEnd text = TellsMoment logs (whole_cut logs) false summary_text text
TellsChosen logs (AtCut cut) text = TellsMoment logs cut.items true (λ _. heading_text (AtCut cut)) text
TellsChosen logs (OfCase question number cut) text =
    TellsMoment logs cut.items true (λ _. heading_text (OfCase question number cut)) text
TellsChosen {A} logs (Unmet case) text = text ≡ codes "\n" ++ heading_text {A = A} (Unmet case)
