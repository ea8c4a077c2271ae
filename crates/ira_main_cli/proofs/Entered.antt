-- Where the first of the words is the name of a command, the parser enters it there, and finds of the others what goes
-- with it.
use Rattle.std.proofs.Common.{◌≡◌, ◌∙◌, inl, inr, List, [], ◌∷◌, ◌++◌, Some, refl, sym, ap, subst, codes, append_assoc}
use Rattle.std.specs.Prelude.{find, fold, option_map}
use Rattle.std.proofs.lemmas.List.{append-nil}
use Rattle.clap.specs.Simple.{HasMatchesOf, Shape, built, entered, label_of, names_of, rows_at, subcommand_of}
use Rattle.clap.specs.Simple.{subcommand_rows_of}
use Rattle.clap.specs.Walk.{Names, Text, Walk, answers_to, nothing_held, rows_after, walk_from, walked}
use Rattle.clap.specs.declared.parser.matches.ArgMatches.{ArgMatches}
use Rattle.ira_main_cli.specs.CommandLine.{IsOneOf, commands, ira_app, rules_named}
use Rattle.ira_main_cli.specs.Request.{found_after}

abbrev top : Shape
top = (built ira_app).top

abbrev names : Names
names = names_of (built ira_app)

-- once a command is met, the walk keeps the words after it
stays : (w : Walk) (n : Text) (ws rest : List Text)
    → (fold (walked top.rules names) (record w { stopped = Some (n, ws) }) rest).stopped ≡ Some (n, ws ++ rest)
unfolding walked
stays w n ws [] = ap (λ (l : List Text). Some (n, l)) (sym (append-nil ws))
stays w n ws (x ∷ rest) =
    stays w n (ws ++ x ∷ []) rest ∙ ap (λ (l : List Text). Some (n, l)) (append_assoc ws (x ∷ []) rest)

abbrev Enters : Text → Type 0
Enters w = (rest : List Text) → subcommand_of ira_app (w ∷ rest) ≡ Some (w, found_after w rest)

-- the walk stops at a word, and enters a command of this shape there
met : (w : Text) (s : Shape) → walked top.rules names (walk_from nothing_held) w
    ≡ record (walk_from nothing_held) { stopped = Some (w, []) }
    → find (λ x. answers_to w (label_of x)) (built ira_app).subs ≡ Some s → s.name ≡ w → s.rules ≡ rules_named w
    → Enters w
met w s stops is named rules rest =
    let stopped : (fold (walked top.rules names) (walk_from nothing_held) (w ∷ rest)).stopped ≡ Some (w, rest) =
    ap (λ (x : Walk). (fold (walked top.rules names) x rest).stopped) stops ∙ stays (walk_from nothing_held) w [] rest in
    ap (λ o. entered (built ira_app) o) stopped ∙ ap (option_map (λ x. rows_at x rest)) is
    ∙ ap (λ n. Some (n, rows_after s.rules [] rest)) named ∙ ap (λ rs. Some (w, rows_after rs [] rest)) rules

enters : (w : Text) → IsOneOf w commands → Enters w
unfolding walked
enters w (inl e) = subst Enters (sym e) (met (codes "logs") _ refl refl refl refl)
enters w (inr (inl e)) = subst Enters (sym e) (met (codes "explain") _ refl refl refl refl)
enters w (inr (inr (inl e))) = subst Enters (sym e) (met (codes "show") _ refl refl refl refl)
enters w (inr (inr (inr (inl e)))) = subst Enters (sym e) (met (codes "draw") _ refl refl refl refl)
enters w (inr (inr (inr (inr (inl e))))) = subst Enters (sym e) (met (codes "check") _ refl refl refl refl)
enters w (inr (inr (inr (inr (inr (inl e)))))) = subst Enters (sym e) (met (codes "decide") _ refl refl refl refl)
enters w (inr (inr (inr (inr (inr (inr (inl e))))))) = subst Enters (sym e) (met (codes "pairs") _ refl refl refl refl)
enters w (inr (inr (inr (inr (inr (inr (inr (inl e)))))))) = subst Enters (sym e) (met (codes "ask") _ refl refl refl refl)
enters w (inr (inr (inr (inr (inr (inr (inr (inr (inl e))))))))) = subst Enters (sym e) (met (codes "run") _ refl refl refl refl)
enters w (inr (inr (inr (inr (inr (inr (inr (inr (inr (inl e)))))))))) = subst Enters (sym e) (met (codes "upgrade") _ refl refl refl refl)
enters w (inr (inr (inr (inr (inr (inr (inr (inr (inr (inr (inl e))))))))))) = subst Enters (sym e) (met (codes "mend") _ refl refl refl refl)
enters w (inr (inr (inr (inr (inr (inr (inr (inr (inr (inr (inr (inl e)))))))))))) = subst Enters (sym e) (met (codes "guide") _ refl refl refl refl)
enters w (inr (inr (inr (inr (inr (inr (inr (inr (inr (inr (inr (inr (inl e))))))))))))) = subst Enters (sym e) (met (codes "version") _ refl refl refl refl)
enters w (inr (inr (inr (inr (inr (inr (inr (inr (inr (inr (inr (inr (inr x))))))))))))) = absurd x

-- what a parse of such words found
pub found : (m : ArgMatches) (w : Text) (rest : List Text) → HasMatchesOf ira_app (w ∷ rest) m → IsOneOf w commands
    → subcommand_rows_of m ≡ Some (w, found_after w rest)
found m w rest has one = (has refl).1 ∙ enters w one rest
