-- The two sides of a link: what its writer sends, and what its reader receives.
use Rattle.std.specs.Prelude.{Option}
use Rattle.ira_event.specs.declared.event.Event.{Event}
use Rattle.ira_event.specs.declared.load.Load.{Load}
use Rattle.ira_order.specs.Matching.{sending, receipt}
use Rattle.ira_view_evidence.specs.declared.exchange.LinkSide.{LinkSide}
use Rattle.ira_view_evidence.specs.declared.exchange.LinkSide.TheVariants.{Sendings, Receipts}

-- the load of an event that is on this side
abbrev pub load_on : LinkSide → Event → Option Load
load_on Sendings = sending
load_on Receipts = receipt
