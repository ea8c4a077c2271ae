use Rattle.std.proofs.Common.{◌∙◌, ◌++◌, List, ℕ, ap, append_assoc, length, refl, subst, sym}
use Rattle.std.proofs.lemmas.List.{length-map}
use Rattle.ira_event.specs.LogText.{log_text}
use Rattle.ira_event.specs.Sink.{Memory}
use Rattle.ira_audit.specs.Judged.{IsJudged}
use Rattle.ira_view_page.specs.declared.named_text.NamedText.{NamedText}
use Rattle.ira_view.specs.Texts.{AreFiles, texts_of}
use Rattle.ira_commands.proofs.LeftLogs.{begun_length}
use Rattle.ira_commands.proofs.Served.{if_ok}
use Rattle.ira_commands.specs.Begun.{bytes_of, names_of}
use Rattle.ira_commands.specs.Explain.{begun_heading}
use Rattle.ira_commands.specs.Explain.ExplainsBegun.{begun, no_ring}
use Rattle.ira_commands.proofs.explain.write_begun.Goals as goal

pub write_no_ring-requires : goal.write_no_ring-requires
write_no_ring-requires g c = (rw c.in-Err-No.field-0-is at c.in-Err-No.ensures).1

pub returns-in-Err-No : goal.returns-in-Err-No
returns-in-Err-No g c =
    let why = rw c.in-Err-No.field-0-is at c.in-Err-No.ensures in
    if_ok c.write_no_ring.result (λ done wrote. (wrote.0, no_ring c.in-Err-No.reason why.0 wrote.1, wrote.2))
    c.write_no_ring.ensures

pub name_texts-requires : goal.name_texts-requires
name_texts-requires g c =
    ap length c.deref.ensures.value ∙ sym (length-map c.in_ok-texts.texts.items (λ (m : Memory). m.bytes))
    ∙ ap length c.in_ok-texts.ensures ∙ length-map _ log_text ∙ begun_length c.args.logs.now _ c.in-Ok.ensures

pub write_explained-requires : goal.write_explained-requires
write_explained-requires g c =
    subst (λ (fs : List NamedText). IsJudged (texts_of fs) c.in_ok-judged.judged)
    (c.deref-2.ensures.value ∙ sym c.deref-3.ensures.value)
    (c.in_ok-judged.ensures (texts_of c.deref-2.result.now) c.in_ok-take_texts.ensures)

pub returns : goal.returns
returns g c =
    let wrote = c.in_ok-write_explained.ensures.text in
    let named = subst (AreFiles (names_of c.args.logs.now) (bytes_of c.deref.result.now)) (sym c.deref-3.ensures.value)
    c.in_ok-named.ensures in (
      begun_heading ++ wrote.0,
      begun c.deref-3.result.now c.in_ok-write_explained.field-0 wrote.0 (
        bytes_of c.deref.result.now,
        (_, c.in-Ok.ensures, ap bytes_of c.deref.ensures.value ∙ c.in_ok-texts.ensures),
        named,
      ) wrote.1 refl,
      wrote.2 ∙ ap (λ (t : List ℕ). t ++ wrote.0) c.in-Ok-write_bytes.ensures.took
          ∙ append_assoc c.args.text.now.bytes begun_heading wrote.0,
    )
