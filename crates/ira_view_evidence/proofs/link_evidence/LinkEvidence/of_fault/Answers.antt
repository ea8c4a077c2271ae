use Rattle.std.proofs.Common.{refl, subst}
use Rattle.ira_order.specs.MatchFault.{IsMatchFault}
use Rattle.ira_view_evidence.proofs.Sides.{missing_side, other_found, other_side}
use Rattle.ira_view_evidence.proofs.link_evidence.LinkEvidence.of_fault.Goals as goal

pub known_receipt-requires : goal.known_receipt-requires
known_receipt-requires g c =
    let side = missing_side c.args.logs.now c.in-NoSending.link c.in-NoSending.k
    (subst (IsMatchFault c.args.logs.now) c.in-NoSending.is c.requires) in
    record { link = side.0; known = (side.1.0, side.1.1) }

pub known_receipt-requires-in-Differs : goal.known_receipt-requires-in-Differs
known_receipt-requires-in-Differs g c =
    let side = other_side c.args.logs.now c.in-Differs.link c.in-Differs.k
    (subst (IsMatchFault c.args.logs.now) c.in-Differs.is c.requires) in
    record { link = side.0; known = (side.1.0, side.1.2) }

pub nth_sending-requires : goal.nth_sending-requires
nth_sending-requires g c =
    (other_side c.args.logs.now c.in-Differs.link c.in-Differs.k
    (subst (IsMatchFault c.args.logs.now) c.in-Differs.is c.requires)).0

pub returns-in-NoSending : goal.returns-in-NoSending
returns-in-NoSending g c = rw c.in-NoSending.is (c.known_receipt.ensures, refl)

pub returns-in-Differs : goal.returns-in-Differs
returns-in-Differs g c =
    let side = other_side c.args.logs.now c.in-Differs.link c.in-Differs.k
    (subst (IsMatchFault c.args.logs.now) c.in-Differs.is c.requires) in
    rw c.in-Differs.is (
      c.known_receipt-in-Differs.ensures,
      other_found c.args.logs.now c.in-Differs.link c.in-Differs.k _ _ side.1 c.known_receipt-in-Differs.ensures
          c.nth_sending.ensures,
    )
