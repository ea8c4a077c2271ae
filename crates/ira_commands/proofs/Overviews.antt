-- Replies of several commands.
use Rattle.std.proofs.Common.{◌≡◌, ◌∙◌, List, [], ◌++◌, ◌∷◌, ap, append_assoc}
use Rattle.std.specs.List.{AllZip}
use Rattle.ira_commands.specs.Answers.{Answers}
use Rattle.ira_commands.specs.Given.{Given}
use Rattle.ira_commands.specs.Overview.{AreAnswers}
use Rattle.ira_commands.specs.Reply.{Reply}
use Rattle.ira_commands.specs.declared.logs_command.LogsCommand.{LogsCommand}

zip_append : {X Y : Type 0} (R : X → Y → Type 0) (xs us : List X) (ys vs : List Y) → AllZip R xs ys → AllZip R us vs
    → AllZip R (xs ++ us) (ys ++ vs)
zip_append R [] us [] vs p q = q
zip_append R [] us (y ∷ ys) vs p q = absurd p
zip_append R (x ∷ xs) us [] vs p q = absurd p
zip_append R (x ∷ xs) us (y ∷ ys) vs p q = (p.0, zip_append R xs us ys vs p.1 q)

-- some items come after others, and then more
pub lists_both : (old mid new rs ss : List Reply) → mid ≡ old ++ rs → new ≡ mid ++ ss → new ≡ old ++ (rs ++ ss)
lists_both old mid new rs ss p q = q ∙ ap (λ (items : List Reply). items ++ ss) p ∙ append_assoc old rs ss

-- some, and then others
pub answers_both : (A : Type 0) (cs ds : List LogsCommand) (given : Given) (rs ss : List Reply) → AreAnswers A cs given rs
    → AreAnswers A ds given ss → AreAnswers A (cs ++ ds) given (rs ++ ss)
answers_both A cs ds given rs ss p q =
    record { each = zip_append (λ command. Answers A command given) cs ds rs ss p.each q.each }
