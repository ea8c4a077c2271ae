use Rattle.std.proofs.Common.{◌≡◌, ◌++◌, ℕ, List, refl, sym, ap, ◌∙◌, append_assoc}
use Rattle.std.specs.List.{flat_map}
use Rattle.std.specs.Prelude.{codes, decimal}
use Rattle.std.proofs.lemmas.Result.{err_from_is_err_and}
use Rattle.ira_event.proofs.Writing.{HasWritten-start, HasWritten-more, HasWritten-stops, HasWritten-last}
use Rattle.ira_cert_text.specs.Certificate.{Section, Certificate}
use Rattle.ira_cert_text.specs.CertText.{section_text, cert_text}
use Rattle.ira_cert_text.proofs.cert_writer.write_cert.Goals as goal

abbrev head_text : ℕ → List ℕ
head_text n = codes "ircert 1\n" ++ codes "nodes " ++ decimal n ++ codes "\n"

-- what follows the head of a certificate's text
abbrev body_text : Certificate → List ℕ
body_text x = flat_map section_text x.sections ++ codes "end\n"

head-then-body : (x : Certificate) (line : List ℕ) (nodes : ℕ) (sections : List Section) → line ≡ head_text nodes
    → record { nodes = nodes; sections = sections } ≡ x → line ++ body_text x ≡ cert_text x
head-then-body x line nodes sections is view =
    sym (append_assoc line (flat_map section_text x.sections) (codes "end\n"))
    ∙ ap (λ w. w ++ flat_map section_text x.sections ++ codes "end\n") (is
    ∙ ap (λ (y : Certificate). head_text y.nodes) view)

pub returns-in_err-write : goal.returns-in_err-write
returns-in_err-write g c =
    let stop = err_from_is_err_and c.from_residual.result c.from_residual.ensures.1 in
    let x = c.args.certificate.now in
    let whole = head-then-body x c.head.result c.certificate.inside.nodes c.certificate.inside.sections.items
    c.head.ensures.text c.certificate.view_is in
    HasWritten-stops _ _ stop.1 (cert_text x) (cert_text x) c.head.result (body_text x) _ _ _
    (HasWritten-start (cert_text x) _) whole c.in_err-write.ensures

pub returns-in_err-write_sections : goal.returns-in_err-write_sections
returns-in_err-write_sections g c =
    let stop = err_from_is_err_and c.from_residual-in_err-write_sections.result
    c.from_residual-in_err-write_sections.ensures.1 in
    let x = c.args.certificate.now in
    let whole = head-then-body x c.head.result c.certificate.inside.nodes c.certificate.inside.sections.items
    c.head.ensures.text c.certificate.view_is in
    let sections = c.deref.ensures.value ∙ ap (λ (y : Certificate). y.sections) c.certificate.view_is in
    HasWritten-stops _ _ stop.1 (cert_text x) (body_text x) (flat_map section_text c.deref.result.now) (codes "end\n") _
    _ _
    (HasWritten-more (cert_text x) (cert_text x) c.head.result (body_text x) _ _ _ (HasWritten-start (cert_text x) _)
    whole c.in_ok-write.ensures)
    (ap (λ ys. flat_map section_text ys ++ codes "end\n") sections) c.in_err-write_sections.ensures

pub returns : goal.returns
returns g c =
    let x = c.args.certificate.now in
    let whole = head-then-body x c.head.result c.certificate.inside.nodes c.certificate.inside.sections.items
    c.head.ensures.text c.certificate.view_is in
    let sections = c.deref.ensures.value ∙ ap (λ (y : Certificate). y.sections) c.certificate.view_is in
    HasWritten-last _ (cert_text x) (codes "end\n") (codes "end\n") _ _ _
    (HasWritten-more (cert_text x) (body_text x) (flat_map section_text c.deref.result.now) (codes "end\n") _ _ _
    (HasWritten-more (cert_text x) (cert_text x) c.head.result (body_text x) _ _ _ (HasWritten-start (cert_text x) _)
    whole c.in_ok-write.ensures)
    (ap (λ ys. flat_map section_text ys ++ codes "end\n") sections) c.in_ok-write_sections.ensures) refl
    c.write_bytes.ensures
