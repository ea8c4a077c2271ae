-- What the holder of a pass may do and has done.
use Rattle.std.specs.Prelude.{◌≡◌, ℕ, ◌≤◌, Bool, true, false, List, [], length}
use Rattle.crossbeam_channel.specs.Claims.{Pass, view}
use Rattle.ira_links.specs.Limits.{MAX_FRAMES}
use Rattle.ira_links.specs.declared.frame.Frame.{Frame}
use Rattle.ira_links.specs.declared.rule.Known.{Known}

-- it may put, it may take; these were put, these were taken
abbrev pub known : Bool → Bool → List Frame → List Frame → Known
known puts takes put taken = record { puts = puts; takes = takes; put = put; taken = taken }

-- the writing end has put these
abbrev pub writer : List Frame → Known
writer put = known true false put []

-- the reading end has taken these
abbrev pub reader : List Frame → Known
reader taken = known false true [] taken

-- the pass of a writing end that has put so many frames
pub record IsWriter (pass : Pass Frame Known) (puts : ℕ) : Type 0 where
  pub knows : view pass ≡ writer (view pass).put
  pub count : puts ≡ length (view pass).put
  pub most : puts ≤ MAX_FRAMES

-- the pass of a reading end that has taken so many frames
pub record IsReader (pass : Pass Frame Known) (takes : ℕ) : Type 0 where
  pub knows : view pass ≡ reader (view pass).taken
  pub count : takes ≡ length (view pass).taken
  pub most : takes ≤ MAX_FRAMES
