-- What contracts see of an end of a link.
use Rattle.std.specs.Prelude.{List}
use Rattle.atomic_table.specs.Seated.{TableId}
use Rattle.atomic_table.specs.declared.badge.Badge.{Badge}
use Rattle.crossbeam_channel.specs.declared.flavors.array.Key.{Key}
use Rattle.crossbeam_channel.specs.Claims.{Pass}
use Rattle.ira_links.specs.declared.frame.Frame.{Frame}
use Rattle.ira_links.specs.declared.rule.Known.{Known}

-- which link it is
pub record LinkName : Type 0 where
  pub table : TableId
  pub key : Badge (Key Frame)

-- the link of an end, and the frames that passed the end, the first one first
pub record LinkEnd : Type 0 where
  pub link : LinkName
  pub frames : List Frame

-- the link that a pass belongs to
abbrev pub name_of : Pass Frame Known → LinkName
name_of p = record { table = p.table_id; key = p.me.0.of }
