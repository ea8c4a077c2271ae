-- The rule of a link, over what its queue holds and what each pass knows.
use Rattle.std.specs.Prelude.{◌≡◌, ℕ, true, ◌≤◌, List, ◌++◌, length}
use Rattle.std.specs.List.{AllPass}
use mathlib.Core.Option.{some}
use lib.ListN.{get_elem?}
use Rattle.ira_links.specs.Limits.{MAX_FRAMES}
use Rattle.ira_links.specs.declared.frame.Frame.{Frame}
use Rattle.ira_links.specs.declared.rule.Known.{Known}
use Rattle.ira_links.specs.Frame.{is_frame}

-- a pass that may put is the writer's and knows what was put; one that may take is the reader's and
-- knows what was taken; a spent pass may do neither. One pass may be both: before the ends are parted,
-- and after they are joined
pub record Knows (writer reader : ℕ) (put taken : List Frame) (pass : ℕ) (v : Known) : Type 0 where
  pub puts : v.puts ≡ true → (pass ≡ writer) × (v.put ≡ put)
  pub takes : v.takes ≡ true → (pass ≡ reader) × (v.taken ≡ taken)

-- what was put is what was taken and then what the queue holds; the frames' numbers are within the limits;
-- and the passes know what was put and taken
pub record IsInOrder (queue : List Frame) (views : List Known) : Type 0 where
  pub writer : ℕ
  pub reader : ℕ
  pub put : List Frame
  pub taken : List Frame
  pub parts : put ≡ taken ++ queue
  pub numbers : AllPass is_frame put
  pub count : length put ≤ MAX_FRAMES
  pub passes : (pass : ℕ) (v : Known) → get_elem? views pass ≡ some v
      → Knows writer reader put taken pass v
