-- What a text is answered, for whole texts.
use Rattle.std.proofs.Common.{◌≡◌, ◌≤◌, ℕ, List, ◌++◌, ◌⊎◌, Result, Ok, Err, length, refl, sym, ap, subst, ◌∙◌, arith}
use Rattle.std.proofs.Common.{inl, inr, append_assoc}
use Rattle.std.specs.Prelude.{codes}
use Rattle.ira_event.specs.Limits.{MAX_TEXT}
use Rattle.ira_cert_text.specs.declared.cert_fault.CertFault.{CertFault}
use Rattle.ira_cert_text.specs.declared.cert_fault.CertFault.TheVariants.{OutOfMemory, Head}
use Rattle.ira_cert_text.specs.CertAnswer.{AnswersCertificates, AnswersFaults}
use Rattle.ira_cert_text.specs.Certificate.{Section, Certificate}
use Rattle.ira_cert_text.specs.CertLines.{LinesLeft}
use Rattle.ira_cert_text.specs.CertText.{IsCertText}
use Rattle.ira_cert_text.specs.CertTextFault.{BeginsWithCertHead, BeginsWithSections, SectionsFault, CertLinesFault}
use Rattle.ira_cert_text.specs.CertTextFault.{no_head, past_head, CertTextFault}
use Rattle.ira_cert_text.proofs.Heads.{heads_same}
use Rattle.ira_cert_text.proofs.CertTexts.{sections_faults_same, sections_fault_not_all, all_sections_same}

-- the text of a certificate is a head and all its sections
head_of : (text : List ℕ) (c : Certificate) (h : IsCertText text c)
    → BeginsWithCertHead text c.nodes (h.sections ++ codes "end\n")
head_of text c h = record {
  head = h.head;
  head_is = h.head_is;
  size = h.valid.size;
  parts = h.parts ∙ append_assoc h.head h.sections (codes "end\n");
}

sections_of : (text : List ℕ) (c : Certificate) (h : IsCertText text c)
    → BeginsWithSections c.nodes (h.sections ++ codes "end\n") c.sections (codes "end\n")
sections_of text c h = record {
  front = h.sections;
  sections_are = h.sections_are;
  count = h.valid.count;
  valid = h.valid.sections;
  parts = refl;
}

abbrev pub certificate_of : ℕ → List Section → Certificate
certificate_of nodes sections = record { nodes = nodes; sections = sections }

parts_same : (n m : ℕ) (ss ts : List Section) → n ≡ m → ss ≡ ts → certificate_of n ss ≡ certificate_of m ts
parts_same n m ss ts a b = cc

pub one_certificate : (text : List ℕ) (a b : Certificate) → IsCertText text a → IsCertText text b → a ≡ b
one_certificate text a b h k =
    let s = heads_same text a.nodes b.nodes _ _ (head_of text a h) (head_of text b k) in
    let its = subst (λ n. BeginsWithSections n (k.sections ++ codes "end\n") a.sections (codes "end\n")) s.0
    (subst (λ t. BeginsWithSections a.nodes t a.sections (codes "end\n")) s.1 (sections_of text a h)) in
    parts_same a.nodes b.nodes a.sections b.sections s.0
    (all_sections_same b.nodes k.valid.size.1 _ a.sections b.sections its (sections_of text b k))

lines_or_fault : (text : List ℕ) (c : Certificate) (f : CertFault) → IsCertText text c → CertLinesFault text f → ⊥
lines_or_fault text c f h (no_head none_there is) = none_there _ _ (head_of text c h)
lines_or_fault text c f h (past_head n rest b sf) =
    let s = heads_same text n c.nodes rest _ b (head_of text c h) in
    sections_fault_not_all c.nodes h.valid.size.1 _ c.sections f
    (subst (λ t. SectionsFault c.nodes t f) s.1 (subst (λ m. SectionsFault m rest f) s.0 sf)) (sections_of text c h)

pub certificate_or_fault : (text : List ℕ) (c : Certificate) (f : CertFault) → IsCertText text c → CertTextFault text f
    → ⊥
certificate_or_fault text c f h (inl long) = omega (arith, h.short, long.0)
certificate_or_fault text c f h (inr lines) = lines_or_fault text c f h lines.1

lines_faults_same : (text : List ℕ) (f g : CertFault) → CertLinesFault text f → CertLinesFault text g → f ≡ g
lines_faults_same text f g (no_head a p) (no_head b q) = p ∙ sym q
lines_faults_same text f g (no_head a p) (past_head n rest b sf) = absurd (a n rest b)
lines_faults_same text f g (past_head n rest b sf) (no_head a p) = absurd (a n rest b)
lines_faults_same text f g (past_head n rest b sf) (past_head m rest' c sg) =
    let s = heads_same text n m rest rest' b c in
    sections_faults_same m c.size.1 rest' f g
    (subst (λ t. SectionsFault m t f) s.1 (subst (λ x. SectionsFault x rest f) s.0 sf)) sg

pub one_fault : (text : List ℕ) (f g : CertFault) → CertTextFault text f → CertTextFault text g → f ≡ g
one_fault text f g (inl a) (inl b) = a.1 ∙ sym b.1
one_fault text f g (inl a) (inr b) = absurd (omega (arith, a.0, b.0))
one_fault text f g (inr a) (inl b) = absurd (omega (arith, a.0, b.0))
one_fault text f g (inr a) (inr b) = lines_faults_same text f g a.1 b.1

-- ---- a reader that answers by the grammar answers exactly

abbrev pub CertificateRead : Result Certificate CertFault → List ℕ → Type 0
CertificateRead (Ok c) text = IsCertText text c
CertificateRead (Err f) text = (f ≡ OutOfMemory) ⊎ CertTextFault text f

pub certificate_read : (text : List ℕ) (nodes : ℕ) (rest : List ℕ) (sections : List Section) → length text ≤ MAX_TEXT
    → BeginsWithCertHead text nodes rest → BeginsWithSections nodes rest sections (codes "end\n")
    → IsCertText text (certificate_of nodes sections)
certificate_read text nodes rest sections short a b = record {
  head = a.head;
  sections = b.front;
  head_is = a.head_is;
  sections_are = b.sections_are;
  parts = a.parts ∙ ap (λ w. a.head ++ w) b.parts ∙ sym (append_assoc a.head b.front (codes "end\n"));
  short = short;
  valid = record { size = a.size; count = b.count; sections = b.valid };
}

pub lines_refused : (text : List ℕ) (nodes : ℕ) (rest : List ℕ) (f : CertFault) → length text ≤ MAX_TEXT
    → BeginsWithCertHead text nodes rest → (f ≡ OutOfMemory) ⊎ SectionsFault nodes rest f → CertificateRead (Err f) text
lines_refused text nodes rest f short b (inl e) = inl e
lines_refused text nodes rest f short b (inr h) = inr (inr (short, past_head nodes rest b h))

ok_is : (a b : Certificate) → ◌≡◌ {A = Result Certificate CertFault} (Ok a) (Ok b) → a ≡ b
ok_is a b e = cc

pub err_is : (f g : CertFault) → ◌≡◌ {A = Result Certificate CertFault} (Err f) (Err g) → f ≡ g
err_is f g e = cc

pub exactly_ok : (r : Result Certificate CertFault) (text : List ℕ) → CertificateRead r text
    → AnswersCertificates r text
exactly_ok (Ok x) text h c =
    inr (λ e. subst (IsCertText text) (ok_is x c e) h, λ k. ap Ok (one_certificate text x c h k))
exactly_ok (Err f) text (inl e) c = inl (ap Err e)
exactly_ok (Err f) text (inr h) c = inr (λ e. absurd cc, λ k. absurd (certificate_or_fault text c f k h))

pub exactly_err : (r : Result Certificate CertFault) (text : List ℕ) → CertificateRead r text → AnswersFaults r text
exactly_err (Ok x) text h f = inr (λ e. absurd cc, λ k. absurd (certificate_or_fault text x f h k))
exactly_err (Err g) text (inl e) f = inl (ap Err e)
exactly_err (Err g) text (inr h) f =
    inr (λ e. subst (CertTextFault text) (err_is g f e) h, λ k. ap Err (one_fault text g f h k))

pub sections_read : (text : List ℕ) (nodes n : ℕ) (rest : List ℕ) (left : LinesLeft) (sections : List Section)
    → length text ≤ MAX_TEXT → BeginsWithCertHead text nodes rest → n ≡ nodes
    → left ≡ record { rest = rest; number = 3 } → BeginsWithSections n left.rest sections (codes "end\n")
    → IsCertText text (certificate_of nodes sections)
sections_read text nodes n rest left sections short a same is b =
    certificate_read text nodes rest sections short a
    (subst (λ m. BeginsWithSections m rest sections (codes "end\n")) same
    (subst (λ (x : LinesLeft). BeginsWithSections n x.rest sections (codes "end\n")) is b))

pub sections_not_read : (text : List ℕ) (nodes n : ℕ) (rest : List ℕ) (left : LinesLeft) (f : CertFault)
    → length text ≤ MAX_TEXT → BeginsWithCertHead text nodes rest → n ≡ nodes
    → left ≡ record { rest = rest; number = 3 } → (f ≡ OutOfMemory) ⊎ SectionsFault n left.rest f
    → CertificateRead (Err f) text
sections_not_read text nodes n rest left f short a same is b =
    lines_refused text nodes rest f short a (subst (λ m. (f ≡ OutOfMemory)
    ⊎ SectionsFault m rest f) same (subst (λ (x : LinesLeft). (f ≡ OutOfMemory) ⊎ SectionsFault n x.rest f) is b))

pub head_not_read : (text : List ℕ) → length text ≤ MAX_TEXT
    → ((nodes : ℕ) (rest : List ℕ) → ¬ (BeginsWithCertHead text nodes rest)) → CertificateRead (Err Head) text
head_not_read text short none = inr (inr (short, no_head none refl))
