use Rattle.ira_view_explain_question.proofs.case_finding.CaseFinding.find.Goals as goal

pub returns-in_ok-of_section-in-Absent : goal.returns-in_ok-of_section-in-Absent
returns-in_ok-of_section-in-Absent g c =
    let case = c.args.case.now in
    let absence = rw c.in-Absent.is at c.requires in
    let of_section = c.in_ok-of_section-in-Absent.ensures in
    rw c.in-Absent.is (record {
      shows = of_section.absence case.ring.now.asked.now.logs case.case.now case.different absence.sound;
      steps = of_section.steps;
      spent = of_section.spent;
    })
