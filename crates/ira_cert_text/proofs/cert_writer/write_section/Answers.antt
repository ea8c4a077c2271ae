use Rattle.std.proofs.Common.{◌++◌, ℕ, List, refl, ap, ◌∙◌}
use Rattle.std.specs.List.{flat_map}
use Rattle.std.specs.Prelude.{codes, decimal}
use Rattle.std.proofs.lemmas.Result.{err_from_is_err_and}
use Rattle.ira_event.proofs.Writing.{HasWritten-start, HasWritten-more, HasWritten-stops, HasWritten-last}
use Rattle.ira_cert_text.specs.Certificate.{Section}
use Rattle.ira_cert_text.specs.CertText.{step_text, section_text}
use Rattle.ira_cert_text.proofs.cert_writer.write_section.Goals as goal

abbrev spent_text : ℕ → List ℕ
spent_text n = codes "spent " ++ decimal n ++ codes "\n"

-- what follows the first line of a section
abbrev body_text : Section → List ℕ
body_text s = flat_map step_text s.steps ++ spent_text s.spent

pub returns-in_err-write_bytes : goal.returns-in_err-write_bytes
returns-in_err-write_bytes g c =
    let stop = err_from_is_err_and c.from_residual.result c.from_residual.ensures.1 in
    let s = c.args.section.now in
    HasWritten-stops _ _ stop.1 (section_text s) (section_text s) (codes "section\n") (body_text s) _ _ _
    (HasWritten-start (section_text s) _) refl c.in_err-write_bytes.ensures

pub returns-in_err-write_steps : goal.returns-in_err-write_steps
returns-in_err-write_steps g c =
    let stop = err_from_is_err_and c.from_residual-in_err-write_steps.result
    c.from_residual-in_err-write_steps.ensures.1 in
    let s = c.args.section.now in
    let steps = c.deref.ensures.value ∙ ap (λ (x : Section). x.steps) c.section.view_is in
    HasWritten-stops _ _ stop.1 (section_text s) (body_text s) (flat_map step_text c.deref.result.now)
    (spent_text s.spent) _ _ _
    (HasWritten-more (section_text s) (section_text s) (codes "section\n") (body_text s) _ _ _
    (HasWritten-start (section_text s) _) refl c.in_ok-write_bytes.ensures)
    (ap (λ x. flat_map step_text x ++ spent_text s.spent) steps) c.in_err-write_steps.ensures

pub returns : goal.returns
returns g c =
    let s = c.args.section.now in
    let steps = c.deref.ensures.value ∙ ap (λ (x : Section). x.steps) c.section.view_is in
    let spent = c.spent_line.ensures ∙ ap (λ (x : Section). spent_text x.spent) c.section.view_is in
    HasWritten-last _ (section_text s) (spent_text s.spent) c.spent_line.result _ _ _
    (HasWritten-more (section_text s) (body_text s) (flat_map step_text c.deref.result.now) (spent_text s.spent) _ _ _
    (HasWritten-more (section_text s) (section_text s) (codes "section\n") (body_text s) _ _ _
    (HasWritten-start (section_text s) _) refl c.in_ok-write_bytes.ensures)
    (ap (λ x. flat_map step_text x ++ spent_text s.spent) steps) c.in_ok-write_steps.ensures) spent c.write.ensures
