-- The lines that are written of a run's ends.
use Rattle.std.specs.Prelude.{ℕ, List, ◌++◌, length, codes, decimal}
use Rattle.std.specs.List.{flat_map, zip}
use Rattle.ira_event.specs.Log.{Log}
use Rattle.ira_ring_setup.specs.declared.node_end.NodeEnd.{NodeEnd}
use Rattle.ira_ring_setup.specs.declared.node_end.NodeEnd.TheVariants.{Leader, Stopped, DrawsSpent, LogFull, NoStep, Quiet}
use Rattle.ira_ring_setup.specs.Run.{Run}

-- an end in words
abbrev pub end_words : NodeEnd → List ℕ
end_words Leader = codes "leader"
end_words Stopped = codes "stopped"
end_words DrawsSpent = codes "draws spent"
end_words LogFull = codes "log full"
end_words (NoStep l) = codes "no step"
end_words Quiet = codes "quiet"

-- the line of a node, from its log and its end
abbrev pub end_text : Log × NodeEnd → List ℕ
end_text part =
    codes "node " ++ decimal part.0.place ++ codes ": " ++ end_words part.1 ++ codes ", "
    ++ decimal (length part.0.events)
    ++ codes " events\n"

-- the lines of all nodes
abbrev pub ends_text : Run → List ℕ
ends_text run = flat_map end_text (zip run.logs run.ends)
