use Rattle.std.proofs.Common.{◌≡◌, ℕ, ◌∷◌, [], None, Some, inl, inr, subst, sym, ◌∙◌, arith, length-append, rules}
use Rattle.ira_cert_text.specs.Certificate.{IsSection}
use Rattle.ira_cert_text.proofs.Drafts.{all_last, past_more}
use Rattle.ira_cert_text.proofs.cert_draft.CertDraft.add.Goals as goal
use Rattle.ira_cert_text.proofs.cert_draft.CertDraft.add.Goals.{then-self-ge-MAX_SECTIONS-via-then-self-ge-MAX_SECTIONS}
use Rattle.ira_cert_text.proofs.cert_draft.CertDraft.add.Goals.{
  then-self-ge-MAX_SECTIONS-via-else-self-ge-MAX_SECTIONS+then-not-is_in_range,
}

pub returns-in_default : goal.returns-in_default
returns-in_default g c = λ nodes sections is.
    let none : c.args.self.now.text ≡ None = search rules in
    (is.0, rw c.take.ensures.after (past_more nodes sections c.args.section.now (rw none at is.1)))

pub returns-then-self-ge-MAX_SECTIONS : goal.returns-then-self-ge-MAX_SECTIONS
returns-then-self-ge-MAX_SECTIONS g c = λ nodes sections is.
    let text : c.args.self.now.text ≡ Some c.in-Some.text = search rules in
    let within = rw text at is.1 in
    let s = c.args.section.now in (
      is.0,
      rw c.take.ensures.after (elim c.then-self-ge-MAX_SECTIONS.branch [
        | then-self-ge-MAX_SECTIONS-via-then-self-ge-MAX_SECTIONS w ↦
            inl (omega (arith, w.if-self-ge-MAX_SECTIONS.true, within.count_is, length-append sections (s ∷ [])))
        | then-self-ge-MAX_SECTIONS-via-else-self-ge-MAX_SECTIONS+then-not-is_in_range w ↦
            inr (inl (λ all. (let never = w.if-not-is_in_range.ensures.1
            (subst (λ (n : ℕ). IsSection n s) (sym (w.get.ensures.value ∙ is.0))
            (all_last (IsSection nodes) sections s all)) in cc)))
      ]),
    )
