-- The line above a moment, where it isn't the end of the logs.
use Rattle.std.specs.Prelude.{List, [], ◌++◌, Option, Some, None, ℕ, codes, decimal, slice_index_or}
use Rattle.std.specs.List.{flat_map}
use Rattle.ira_view_moment.specs.declared.chosen_moment.ChosenMoment.{ChosenMoment}
use Rattle.ira_view_moment.specs.declared.chosen_moment.ChosenMoment.TheVariants.{AtEnd, AtCut, OfCase, Unmet}
use Rattle.ira_view_show.specs.Asked.{case_text, position_text}

-- that no moment meets any case, or the one case
abbrev pub no_moment_words : Option ℕ → List ℕ
no_moment_words None = codes "No moment meets any case."
no_moment_words (Some number) = codes "No moment meets case " ++ decimal number ++ codes "."

-- which moment it is; nothing of the end of the logs
abbrev pub heading_words : {A : Type 0} → ChosenMoment A → List ℕ
heading_words AtEnd = []
heading_words (AtCut cut) = codes "At the cut" ++ flat_map position_text cut.items ++ codes ":"
heading_words (OfCase question number cut) =
    codes "The first moment of case " ++ decimal number ++ codes " ("
    ++ case_text (slice_index_or question.cases number [])
    ++ codes "):"
heading_words (Unmet case) = no_moment_words case

abbrev pub heading_text : {A : Type 0} → ChosenMoment A → List ℕ
heading_text moment = heading_words moment ++ codes "\n"
