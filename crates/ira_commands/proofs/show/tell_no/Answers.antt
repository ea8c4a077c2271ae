use Rattle.std.proofs.Common.{◌≡◌, ◌∙◌, ap, false, length, refl, sym, true}
use Rattle.std.proofs.lemmas.List.{length-map}
use Rattle.std.proofs.lemmas.Slice.Zip.{AllZip-long}
use Rattle.ira_event.specs.LogText.{IsLogText}
use Rattle.ira_audit.proofs.Judging.{no_ring_judged, refused_judged, refused_reason}
use Rattle.ira_view_page.specs.declared.named_text.NamedText.{NamedText}
use Rattle.ira_view.specs.Texts.{texts_of}
use Rattle.ira_commands.proofs.LeftLogs.{begun_length}
use Rattle.ira_commands.proofs.Served.{if_ok}
use Rattle.ira_commands.proofs.Shown.{left_needs, page_needs, told_left}
use Rattle.ira_commands.specs.Show.{ShowsLeft}
use Rattle.ira_commands.specs.Show.ShowsLogs.{no_ring, no_run}
use Rattle.ira_commands.specs.Show.ShowsNoRing.{alone, left}
use Rattle.ira_commands.proofs.show.tell_no.Goals.{then-not-shows_left-via-else-not-shows_left+then-not-breaks_off}
use Rattle.ira_commands.proofs.show.tell_no.Goals.{then-not-shows_left-via-then-not-shows_left}
use Rattle.ira_commands.proofs.show.tell_no.Goals as goal

-- refused logs

pub tell_refused-requires-clause-reason : goal.tell_refused-requires-clause-reason
tell_refused-requires-clause-reason g c =
    let j = c.requires.judged in
    let why = refused_judged j.0 c.args.judged.now j.1 c.in-Refused.refused c.in-Refused.is in
    (rw c.reason-reason.ensures.value why.1, rw c.in-Refused.is c.reason-reason.ensures.value)

pub tell_refused-requires-clause-files : goal.tell_refused-requires-clause-files
tell_refused-requires-clause-files g c = λ page.
    let are = c.requires.files (page_needs c.args.form c.args.moment.now page) in
    let texts = rw c.in-Refused.is at are in
    let files = c.args.files.now in (
      are,
      sym (length-map files (λ (f : NamedText). f.text.now))
          ∙ sym (AllZip-long IsLogText (texts_of files) c.in-Refused.refused.logs texts.0)
          ∙ sym (ap length c.logs-logs.ensures.value),
    )

pub returns-in-Refused : goal.returns-in-Refused
returns-in-Refused g c = λ question names texts judged are.
    let is = rw c.in-Refused.is at judged in
    let reason = refused_reason texts c.in-Refused.refused is.0 is.1 in
    if_ok c.tell_refused.result (λ reply told. no_run c.in-Refused.refused is.0 is.1 reason
    (rw (c.in-Refused.is, c.reason-reason.ensures.value, c.logs-logs.ensures.value) at told))
    (c.tell_refused.ensures names texts (λ page. are (page_needs c.args.form c.args.moment.now page)))

-- logs of no ring

pub of_answer_as-requires : goal.of_answer_as-requires
of_answer_as-requires g c =
    let j = c.requires.judged in (no_ring_judged j.0 c.args.judged.now j.1 c.in-NoRing.reason c.in-NoRing.is).1

pub returns-then-not-shows_left : goal.returns-then-not-shows_left
returns-then-not-shows_left g c = λ question names texts judged are.
    let r = c.in-NoRing.reason in
    let is = rw c.in-NoRing.is at judged in
    let hidden : ShowsLeft c.args.form c.args.moment.now r → ⊥ = elim c.then-not-shows_left.branch [
      | then-not-shows_left-via-then-not-shows_left w ↦ λ shows.
          (let off : true ≡ false = sym shows.0 ∙ sym c.shows_left.ensures ∙ w.if-not-shows_left.true in cc)
      | then-not-shows_left-via-else-not-shows_left+then-not-breaks_off w ↦ λ shows.
          (let on = w.breaks_off.ensures.1 shows.1 in let off = w.if-not-breaks_off.true in cc)
    ] in
    if_ok c.of_answer_as.result (λ reply told. no_ring r is (alone (λ shows. absurd (hidden shows)) told))
    (rw c.of_answer.ensures at c.of_answer_as.ensures)

pub tell_left-requires-clause-reason : goal.tell_left-requires-clause-reason
tell_left-requires-clause-reason g c =
    let j = c.requires.judged in (no_ring_judged j.0 c.args.judged.now j.1 c.in-NoRing.reason c.in-NoRing.is).1

pub tell_left-requires-clause-places : goal.tell_left-requires-clause-places
tell_left-requires-clause-places g c = begun_length c.args.files.now c.in-Ok.begun c.in-Ok.ensures

pub returns-in-Lines : goal.returns-in-Lines
returns-in-Lines g c = λ question names texts judged are.
    let r = c.in-NoRing.reason in
    let is = rw c.in-NoRing.is at judged in
    let shows : ShowsLeft c.args.form c.args.moment.now r =
    (sym c.shows_left.ensures ∙ c.if-not-shows_left.false, c.breaks_off.ensures.0 c.if-not-breaks_off.false) in
    let files = are (left_needs c.args.form c.args.moment.now shows.0) in
    let begun = rw files.texts_are at c.in-Ok.ensures in
    if_ok c.tell_left.result (λ reply told. no_ring r is (left c.in-Ok.begun shows begun (rw c.in-Lines.is told)))
    c.tell_left.ensures

pub tell_refused-requires-in_default : goal.tell_refused-requires-in_default
tell_refused-requires-in_default g c =
    let j = c.requires.judged in
    let why = no_ring_judged j.0 c.args.judged.now j.1 c.in-NoRing.reason c.in-NoRing.is in
    record {
      reason = (why.1, rw c.in-NoRing.is refl);
      files = λ page. (
        c.requires.files (page_needs c.args.form c.args.moment.now page),
        sym (begun_length c.args.files.now c.in-Ok.begun c.in-Ok.ensures),
      );
    }

pub returns-in-Ok : goal.returns-in-Ok
returns-in-Ok g c = λ question names texts judged are.
    let r = c.in-NoRing.reason in
    let is = rw c.in-NoRing.is at judged in
    let shows : ShowsLeft c.args.form c.args.moment.now r =
    (sym c.shows_left.ensures ∙ c.if-not-shows_left.false, c.breaks_off.ensures.0 c.if-not-breaks_off.false) in
    let files = are (left_needs c.args.form c.args.moment.now shows.0) in
    let begun = rw files.texts_are at c.in-Ok.ensures in
    if_ok c.tell_refused-in_default.result (λ reply told. no_ring r is (left c.in-Ok.begun shows begun
    (told_left _ c.args.form names texts r c.in-Ok.begun reply c.in_default.not-Lines (rw c.in-NoRing.is at told))))
    (c.tell_refused-in_default.ensures names texts (λ page. are (page_needs c.args.form c.args.moment.now page)))

pub returns-in-Err-No : goal.returns-in-Err-No
returns-in-Err-No g c = λ question names texts judged are.
    let r = c.in-NoRing.reason in
    let is = rw c.in-NoRing.is at judged in
    let why = (rw c.in-Err-No.field-0-is at c.in-Err-No.ensures).0 in
    if_ok c.of_answer_as-in-Err-No.result (λ reply told. no_ring r is (alone (λ shows. (
      _,
      rw (are (left_needs c.args.form c.args.moment.now shows.0)).texts_are at why,
    )) told)) (rw c.of_answer-in-Err-No.ensures at c.of_answer_as-in-Err-No.ensures)
