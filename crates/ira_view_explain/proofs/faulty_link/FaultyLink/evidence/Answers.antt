use Rattle.std.proofs.Common.{◌∙◌, [], ◌∷◌, refl, sym}
use Rattle.std.proofs.lemmas.List.{append-nil}
use Rattle.ira_view_page.specs.declared.evidence.Evidence.TheVariants.{OtherFaulty}
use Rattle.ira_view_explain.specs.Refused.{AreSidesTold}
use Rattle.ira_view_explain.proofs.faulty_link.FaultyLink.evidence.Goals as goal
use Rattle.ira_view_explain.proofs.faulty_link.FaultyLink.evidence.Goals.{
  in-Some+in_ok-record+in_ok-push,
  in_default,
  in-Some-other+in-Some-event_at+in_ok-record-3+in_ok-push-3,
  in-Some-other+in_default-event_at,
  in_default-other,
}

pub returns : goal.returns
returns g c =
    let link = c.args.self.now in
    let all = c.push-2.new.self.items in
    let sides : AreSidesTold c.args.ring.now.files.now link.sending link.receipt all = elim c.match-self.branch [
      | in-Some+in_ok-record+in_ok-push w ↦
          rw (c.in_ok-push-2.ensures.items, w.told-is, w.in_ok-push.ensures.items, c.new-told.ensures.items)
          (rw w.in-Some.is (
            w.in_ok-record.field-0,
            c.in_ok-record-2.field-0,
            refl,
            rw w.in-Some.is at w.in_ok-record.ensures,
            c.in_ok-record-2.ensures,
          ))
      | in_default w ↦
          rw (c.in_ok-push-2.ensures.items, w.told-is, c.new-told.ensures.items, w.in_default.is)
          (c.in_ok-record-2.field-0, refl, c.in_ok-record-2.ensures)
    ] in
    elim c.match-self-2.branch [
      | in-Some-other+in-Some-event_at+in_ok-record-3+in_ok-push-3 w ↦ (
        all,
        OtherFaulty w.in_ok-record-3.field-0 w.in-Some-other.field-0.fault link.came_before ∷ [],
        rw w.told-is (rw w.in-Some-other.is at w.in_ok-push-3.ensures.items),
        sides,
        rw (w.in-Some-other.is, sym (rw w.in-Some-other.is at w.event_at.ensures) ∙ w.in-Some-event_at.is)
            (w.in_ok-record-3.field-0, refl, rw w.in-Some-other.is at w.in_ok-record-3.ensures),
      )
      | in-Some-other+in_default-event_at w ↦ (
        all,
        [],
        rw w.told-is (sym (append-nil all)),
        sides,
        rw (w.in-Some-other.is, sym (rw w.in-Some-other.is at w.event_at.ensures) ∙ w.in_default-event_at.is) refl,
      )
      | in_default-other w ↦ (all, [], rw w.told-is (sym (append-nil all)), sides, rw w.in_default-other.is refl)
    ]
