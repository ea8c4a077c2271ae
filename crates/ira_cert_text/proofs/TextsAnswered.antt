-- Each text is a certificate's or has a fault.
use Rattle.std.proofs.Common.{◌≡◌, ◌≤◌, ◌<◌, ℕ, ◌+◌, zero, suc, Bool, true, false, List, [], ◌∷◌, ◌++◌, ◌⊎◌, length}
use Rattle.std.proofs.Common.{take, Option, Some, None, Result, Ok, Err, refl, arith, inl, inr, nat_eq}
use Rattle.std.specs.Prelude.{codes, position}
use Rattle.std.proofs.lemmas.Bool.{cases_lt, cases_eq}
use Rattle.ira_event.specs.Limits.{MAX_NODES, MAX_RECORDS, MAX_TEXT}
use Rattle.ira_event.specs.RingSize.{IsRingSize}
use Rattle.ira_event.specs.Scan.{after_word}
use Rattle.ira_event.proofs.LogReading.{line_end_at}
use Rattle.ira_event.proofs.RecordLines.{word-takes}
use Rattle.ira_event.proofs.TextsAnswered.{Decided, begins_decided}
use Rattle.ira_cert_text.specs.declared.cert_fault.CertFault.{CertFault}
use Rattle.ira_cert_text.specs.declared.cert_fault.CertFault.TheVariants as fault
use Rattle.ira_cert_text.specs.declared.cert_line.SpelledLine.{SpelledLine}
use Rattle.ira_cert_text.specs.declared.cert_line.SpelledLine.TheVariants as spelled
use Rattle.ira_cert_text.specs.declared.cert_line.SpelledStep.{SpelledStep}
use Rattle.ira_cert_text.specs.declared.cert_lines.SectionLine.{SectionLine}
use Rattle.ira_cert_text.specs.declared.cert_lines.SectionLine.TheVariants.{Step, Spent}
use Rattle.ira_cert_text.specs.declared.cert_step.CertStep.{CertStep}
use Rattle.ira_cert_text.specs.Limits.{MAX_SECTIONS, MAX_STEPS}
use Rattle.ira_cert_text.specs.Certificate.{Section, Certificate, IsStep}
use Rattle.ira_cert_text.specs.CertLaws.{EachTextHasAnAnswer}
use Rattle.ira_cert_text.specs.CertLines.{LinesLeft, ReadsOutside, ReadsInside, HasSteps, ReadsSection}
use Rattle.ira_cert_text.specs.CertScan.{as_step, section_line_at, head_at}
use Rattle.ira_cert_text.specs.CertText.{IsCertText}
use Rattle.ira_cert_text.specs.CertTextFault.{RestOutsideFault, RestInsideFault, BeginsWithCertHead, BeginsWithSections}
use Rattle.ira_cert_text.specs.CertTextFault.{SectionsFault, no_head, past_head, CertTextFault}
use Rattle.ira_cert_text.proofs.CertAnswers.{certificate_of, certificate_read}
use Rattle.ira_cert_text.proofs.Heads as heads
use Rattle.ira_cert_text.proofs.Reading as reading
use Rattle.ira_cert_text.proofs.Reading.{HasSections}

abbrev left_of : List ℕ → ℕ → LinesLeft
left_of rest k = record { rest = rest; number = k }

-- a step is in range, or it isn't
step_decided : (nodes : ℕ) (s : CertStep) → Decided (IsStep nodes s)
step_decided nodes s = elim (cases_lt s.node nodes) [
  | inr a ↦ inr (λ h. omega (arith, h.node, a))
  | inl a ↦ elim (cases_lt MAX_RECORDS s.pos) [
    | inl b ↦ inr (λ h. omega (arith, h.pos, b))
    | inr b ↦ elim (cases_lt s.other nodes) [
      | inr c ↦ inr (λ h. omega (arith, h.other, c))
      | inl c ↦ elim (cases_lt MAX_RECORDS s.other_pos) [
        | inl d ↦ inr (λ h. omega (arith, h.other_pos, d))
        | inr d ↦ inl (record { node = a; pos = b; other = c; other_pos = d })
      ]
    ]
  ]
]

-- ---- a line of a section

-- reading on in a section gives something
abbrev ReadsNextLine : ℕ → List ℕ → ℕ → ℕ → Type 0
ReadsNextLine nodes rest k steps = (new : LinesLeft) × (r : Result SectionLine CertFault)
    × ReadsInside nodes steps (left_of rest k) new r

module _ (nodes : ℕ) (small : nodes ≤ 255) (rest : List ℕ) (k steps : ℕ) where
  refused : (f : CertFault) → RestInsideFault nodes k steps rest f → ReadsNextLine nodes rest k steps
  refused f h = (left_of rest k, Err f, h)

  at_step : (s : SpelledStep) (after : List ℕ) → section_line_at rest ≡ Some (spelled.Step s, after)
      → ReadsNextLine nodes rest k steps
  at_step s after read = elim (cases_eq steps MAX_STEPS) [
    | inl full ↦ refused fault.TooMany (reading.fault_too_many_steps nodes k steps rest s after read full)
    | inr room ↦ elim (step_decided nodes (as_step s)) [
      | inl good ↦ (
        left_of after (k + 1),
        Ok (Step (as_step s)),
        reading.goes_on_step nodes k steps rest s (as_step s) after (left_of after (k + 1)) read small room refl good
            refl,
      )
      | inr bad ↦ refused (fault.Range k) (reading.fault_step_range nodes k steps rest s after read small room bad)
    ]
  ]

  at_spent : (n : ℕ) (after : List ℕ) → section_line_at rest ≡ Some (spelled.Spent n, after)
      → ReadsNextLine nodes rest k steps
  at_spent n after read = elim (cases_lt n nodes) [
    | inl good ↦ (
      left_of after (k + 1),
      Ok (Spent n),
      reading.goes_on_spent nodes k steps rest n n after (left_of after (k + 1)) read small refl good refl,
    )
    | inr bad ↦ refused (fault.Range k)
        (reading.fault_spent_range nodes k steps rest n after read (λ h. omega (arith, h, bad)))
  ]

  at_other_line : (i : ℕ) → section_line_at rest ≡ None → position (λ c. nat_eq c 10) rest ≡ Some i
      → ReadsNextLine nodes rest k steps
  at_other_line i unread e =
      let feed = line_end_at rest i e in
      elim (cases_eq steps MAX_STEPS) [
        | inr few ↦ refused (fault.Line k)
            (reading.fault_inside_line nodes k steps rest (take i rest) feed unread (λ many begins. few many))
        | inl many ↦ elim (begins_decided (codes "drop ") (take i rest)) [
          | inl begins ↦ refused fault.TooMany
              (reading.fault_unread_too_many nodes k steps rest (take i rest) feed begins many)
          | inr other ↦ refused (fault.Line k)
              (reading.fault_inside_line nodes k steps rest (take i rest) feed unread (λ _ begins. other begins))
        ]
      ]

  at_no_line : (end : Option ℕ) → section_line_at rest ≡ None → position (λ c. nat_eq c 10) rest ≡ end
      → ReadsNextLine nodes rest k steps
  at_no_line (Some i) unread e = at_other_line i unread e
  at_no_line None unread e = refused fault.Cut (reading.fault_inside_cut nodes k steps rest e)

  goes_on : (line : Option (SpelledLine × List ℕ)) → section_line_at rest ≡ line → ReadsNextLine nodes rest k steps
  goes_on (Some (spelled.Step s, after)) read = at_step s after read
  goes_on (Some (spelled.Spent n, after)) read = at_spent n after read
  goes_on None unread = at_no_line (position (λ c. nat_eq c 10) rest) unread refl

-- ---- a section

-- reading a section gives one, or there is a fault after some steps
abbrev SectionAnswered : ℕ → LinesLeft → Type 0
SectionAnswered nodes old =
    ((new : LinesLeft) × (s : Section) × ReadsSection nodes old new (Ok s))
    ⊎ ((f : CertFault) × (steps : List CertStep) × (before : LinesLeft) × HasSteps nodes old steps before
    × RestInsideFault nodes before.number (length steps) before.rest f)

-- from step to step, for so many bytes at most
from_step : (bytes nodes : ℕ) (small : nodes ≤ 255) (entry old : LinesLeft) (steps : List CertStep)
    → length old.rest < bytes → HasSteps nodes entry steps old → SectionAnswered nodes entry
from_step zero nodes small entry old steps short h = absurd (omega arith)
from_step (suc bytes) nodes small entry old steps short h =
    let next = goes_on nodes small old.rest old.number (length steps) (section_line_at old.rest) refl in
    elim next.1 as (λ r. ReadsInside nodes (length steps) old next.0 r → SectionAnswered nodes entry) [
      | Ok (Step s) ↦ λ r.
          from_step bytes nodes small entry next.0 (steps ++ s
          ∷ []) (omega (arith, reading.line_shorter old next.0 r.0 r.1, short))
          (reading.more_steps nodes entry old next.0 steps s r.0 h r.1 r.2 r.3 r.4)
      | Ok (Spent n) ↦ λ r. inl (next.0, record { steps = steps; spent = n }, (old, r.0, h, r.1, r.2, r.3))
      | Err f ↦ λ r. inr (f, steps, old, h, r)
    ] next.2

section_answered : (nodes : ℕ) (small : nodes ≤ 255) (old : LinesLeft) → SectionAnswered nodes old
section_answered nodes small old =
    from_step (suc (length old.rest)) nodes small old old [] (omega arith) (reading.no_steps nodes old)

-- ---- outside a section

-- reading on outside a section gives something
abbrev Opens : List ℕ → ℕ → ℕ → Type 0
Opens rest k sections = (new : LinesLeft) × (r : Result Bool CertFault) × ReadsOutside sections (left_of rest k) new r

module _ (rest : List ℕ) (k sections : ℕ) where
  not_outside : (f : CertFault) → RestOutsideFault k sections rest f → Opens rest k sections
  not_outside f h = (left_of rest k, Err f, h)

  at_section : (after : List ℕ) → after_word (codes "section\n") rest ≡ Some after → Opens rest k sections
  at_section after e = elim (cases_eq sections MAX_SECTIONS) [
    | inl full ↦ not_outside fault.TooMany (reading.fault_too_many_sections k sections rest after e full)
    | inr room ↦ (
      left_of after (k + 1),
      Ok true,
      (record { rest = word-takes (codes "section\n") rest after e; number = refl }, room),
    )
  ]

  at_end : (after : List ℕ) → after_word (codes "end\n") rest ≡ Some after → Opens rest k sections
  at_end [] e = (left_of rest k, Ok false, word-takes (codes "end\n") rest [] e)
  at_end (x ∷ xs) e = not_outside fault.Trailing (reading.fault_trailing k sections rest (x ∷ xs) e (λ none. absurd cc))

  at_neither : (end : Option ℕ) → after_word (codes "section\n") rest ≡ None → after_word (codes "end\n") rest ≡ None
      → position (λ c. nat_eq c 10) rest ≡ end → Opens rest k sections
  at_neither (Some i) a b e = not_outside (fault.Line k) (reading.fault_outside_line k sections rest i a b e)
  at_neither None a b e = not_outside fault.Cut (reading.fault_outside_cut k sections rest e)

  opens : (section end : Option (List ℕ)) → after_word (codes "section\n") rest ≡ section
      → after_word (codes "end\n") rest ≡ end → Opens rest k sections
  opens (Some after) end a b = at_section after a
  opens None (Some after) a b = at_end after b
  opens None None a b = at_neither (position (λ c. nat_eq c 10) rest) a b refl

-- ---- what stands after a head

abbrev SectionsAnswered : ℕ → List ℕ → Type 0
SectionsAnswered nodes text = ((sections : List Section) × BeginsWithSections nodes text sections (codes "end\n"))
    ⊎ ((f : CertFault) × SectionsFault nodes text f)

-- from section to section, for so many bytes at most
from_section : (bytes nodes : ℕ) (small : nodes ≤ 255) (text : List ℕ) (ss : List Section) (left : LinesLeft)
    → length left.rest < bytes → HasSections nodes text ss left → SectionsAnswered nodes text
from_section zero nodes small text ss left short h = absurd (omega arith)
from_section (suc bytes) nodes small text ss left short h =
    let next = opens left.rest left.number (length ss) (after_word (codes "section\n") left.rest)
    (after_word (codes "end\n") left.rest) refl refl in
    elim next.1 as (λ r. ReadsOutside (length ss) left next.0 r → SectionsAnswered nodes text) [
      | Ok true ↦ λ r. elim (section_answered nodes small next.0) [
        | inl (new, s, is) ↦
            from_section bytes nodes small text (ss ++ s
            ∷ []) new (omega (
              arith,
              reading.section_shorter nodes (length ss) true s left next.0 new r refl is,
              short,
            ))
            (reading.more_sections nodes text ss s left next.0 new h r.0 r.1 is)
        | inr (f, steps, before, has, due) ↦
            inr (f, reading.fault_in_section nodes text ss left next.0 before steps f h r.0 r.1 has due)
      ]
      | Ok false ↦ λ r. inl (ss, reading.all_sections nodes text ss left h r)
      | Err f ↦ λ r. inr (f, reading.fault_outside nodes text ss left f h r)
    ] next.2

sections_answered : (nodes : ℕ) (small : nodes ≤ 255) (text : List ℕ) → SectionsAnswered nodes text
sections_answered nodes small text =
    from_section (suc (length text)) nodes small text [] (left_of text 3) (omega arith)
    (reading.no_sections nodes text (left_of text 3) refl refl)

-- ---- whole texts

size_decided : (nodes : ℕ) → Decided (IsRingSize nodes)
size_decided nodes = elim (cases_lt nodes 2) [
  | inl few ↦ inr (λ h. omega (arith, h.0, few))
  | inr two ↦ elim (cases_lt MAX_NODES nodes) [
    | inl many ↦ inr (λ h. omega (arith, h.1, many))
    | inr small ↦ inl (two, small)
  ]
]

abbrev Answered : List ℕ → Type 0
Answered text = ((c : Certificate) × IsCertText text c) ⊎ ((f : CertFault) × CertTextFault text f)

no_head_there : (text : List ℕ) → length text ≤ MAX_TEXT
    → ((nodes : ℕ) (rest : List ℕ) → ¬ (BeginsWithCertHead text nodes rest)) → Answered text
no_head_there text short none = inr (fault.Head, inr (short, no_head none refl))

head_there : (text : List ℕ) (nodes : ℕ) (rest : List ℕ) → length text ≤ MAX_TEXT → BeginsWithCertHead text nodes rest
    → SectionsAnswered nodes rest → Answered text
head_there text nodes rest short b (inl r) =
    inl (certificate_of nodes r.0, certificate_read text nodes rest r.0 short b r.1)
head_there text nodes rest short b (inr r) = inr (r.0, inr (short, past_head nodes rest b r.1))

by_head : (text : List ℕ) (head : Option (ℕ × List ℕ)) → length text ≤ MAX_TEXT → head_at text ≡ head → Answered text
by_head text None short e = no_head_there text short (heads.no_head text e)
by_head text (Some (nodes, rest)) short e = elim (size_decided nodes) [
  | inl good ↦ head_there text nodes rest short (heads.head_found text nodes rest e good)
      (sections_answered nodes (omega (arith, good.1)) rest)
  | inr bad ↦ no_head_there text short (heads.head_out_of_range text nodes rest e bad)
]

pub each_answered : EachTextHasAnAnswer
each_answered text = elim (cases_lt MAX_TEXT (length text)) [
  | inl long ↦ inr (fault.TooLong, inl (long, refl))
  | inr short ↦ by_head text (head_at text) short refl
]
