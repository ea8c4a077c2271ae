use Rattle.std.proofs.Common.{ap, refl}
use Rattle.ira_view_page.proofs.Adding.{◌&◌, added_as}
use Rattle.ira_view_explain_question.specs.CaseFinding.{eliminations_text}
use Rattle.ira_view_explain_question.proofs.Told.{absence_shown}
use Rattle.ira_view_explain_question.proofs.case_finding.CaseFinding.print.Goals as goal

pub print_spent-requires : goal.print_spent-requires
print_spent-requires g c =
    let case = c.args.case.now in
    (absence_shown case.ring.now.asked.now.logs case.case.now c.requires.0 c.in-Absent.absence
    (rw c.in-Absent.is at c.requires.1)).asked

pub print_eliminations-requires : goal.print_eliminations-requires
print_eliminations-requires g c =
    let case = c.args.case.now in (
      c.in-Absent.absence.spent,
      rw c.deref.ensures.value (absence_shown case.ring.now.asked.now.logs case.case.now c.requires.0
          c.in-Absent.absence (rw c.in-Absent.is at c.requires.1)),
    )

pub returns-in-Absent : goal.returns-in-Absent
returns-in-Absent g c =
    let ring = c.args.case.now.ring.now in
    let lines = ap (eliminations_text ring.files.logs.now ring.asked.now.logs) c.deref.ensures.value in
    rw c.in-Absent.is (
      _,
      record { clause = c.print_spent.ensures.0; is_asked = c.print_spent.ensures.1; is = refl },
      c.print_spent.ensures.2 & added_as lines c.print_eliminations.ensures,
    )
