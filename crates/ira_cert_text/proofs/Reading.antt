-- What the reader of a certificate's text found, line by line.
use Rattle.std.proofs.Common.{◌≡◌, ◌≢◌, ◌≤◌, ◌<◌, ℕ, ◌+◌, suc, List, [], ◌∷◌, ◌++◌, length, take, Some, None, Ok, Err}
use Rattle.std.proofs.Common.{Bool, true, ◌⊎◌, refl, sym, ap, subst, ◌∙◌, arith, inl, inr, nat_eq, append_assoc}
use Rattle.std.proofs.Common.{length-append}
use Rattle.std.specs.Prelude.{codes, position}
use Rattle.std.proofs.lemmas.List.{append-nil}
use Rattle.std.proofs.lemmas.List.Elements.{All-push, All-nil}
use Rattle.std.proofs.lemmas.List.Sums.{sum_by_push}
use Rattle.ira_event.specs.NextLine.{cut, at_line}
use Rattle.ira_event.specs.Scan.{after_word}
use Rattle.ira_event.proofs.LogReading.{no_line_end, FirstFeed, line_end_at}
use Rattle.ira_event.proofs.RecordLines.{word-takes, word-again}
use Rattle.ira_cert_text.specs.declared.cert_fault.CertFault.{CertFault}
use Rattle.ira_cert_text.specs.declared.cert_fault.CertFault.TheVariants as fault
use Rattle.ira_cert_text.specs.declared.cert_line.SpelledStep.{SpelledStep}
use Rattle.ira_cert_text.specs.declared.cert_line.SpelledLine.TheVariants as spelled
use Rattle.ira_cert_text.specs.declared.cert_line.SpelledLine.{SpelledLine}
use Rattle.ira_cert_text.specs.declared.cert_lines.SectionLine.TheVariants.{Step, Spent}
use Rattle.ira_cert_text.specs.declared.cert_lines.SectionLine.{SectionLine}
use Rattle.ira_cert_text.specs.declared.cert_step.CertStep.{CertStep}
use Rattle.ira_cert_text.specs.Limits.{MAX_SECTIONS, MAX_STEPS}
use Rattle.ira_cert_text.specs.Certificate.{Section, IsStep, IsSection}
use Rattle.ira_cert_text.specs.CertLines.{LinesLeft, ReadsLine, ReadsOutside, ReadsInside, HasSteps, ReadsSection}
use Rattle.ira_cert_text.specs.CertScan.{as_step, section_line_at}
use Rattle.ira_cert_text.specs.CertText.{IsStepLine, AreStepLines, IsSpentLine, IsSectionText, AreSectionTexts}
use Rattle.ira_cert_text.specs.CertTextFault.{BeginsAsStep, too_many_sections, no_section_or_end, trailing}
use Rattle.ira_cert_text.specs.CertTextFault.{too_many_steps, no_step_or_spent, step_range, spent_range}
use Rattle.ira_cert_text.specs.CertTextFault.{RestOutsideFault, RestInsideFault, BeginsWithSections, lines_of}
use Rattle.ira_cert_text.specs.CertTextFault.{SectionsFault, outside, inside}
use Rattle.ira_cert_text.proofs.Lines.{step_kept_same, step_of_kept, step-again, spent-again, line-takes}

-- ---- outside a section

module _ (k sections : ℕ) (text : List ℕ) where
  pub fault_too_many_sections : (after : List ℕ) → after_word (codes "section\n") text ≡ Some after
      → sections ≡ MAX_SECTIONS → RestOutsideFault k sections text fault.TooMany
  fault_too_many_sections after e many =
      at_line (codes "section") after (word-takes (codes "section\n") text after e) refl
      (too_many_sections refl many refl)

  pub fault_trailing : (after : List ℕ) → after_word (codes "end\n") text ≡ Some after → after ≢ []
      → RestOutsideFault k sections text fault.Trailing
  fault_trailing after e more =
      at_line (codes "end") after (word-takes (codes "end\n") text after e) refl (trailing refl more refl)

  pub fault_outside_cut : position (λ c. nat_eq c 10) text ≡ None → RestOutsideFault k sections text fault.Cut
  fault_outside_cut e = cut (no_line_end text e) refl

  no_word : (word line more : List ℕ) → after_word (word ++ codes "\n") text ≡ None → text ≡ line ++ codes "\n" ++ more
      → line ≡ word → ⊥
  no_word word line more none parts is =
      let t : text ≡ (word ++ codes "\n") ++ more = parts ∙ ap (λ w. w ++ codes "\n" ++ more) is in
      let read = sym none ∙ ap (after_word (word ++ codes "\n")) t ∙ word-again (word ++ codes "\n") more in
      absurd cc

  pub fault_outside_line : (i : ℕ) → after_word (codes "section\n") text ≡ None → after_word (codes "end\n") text ≡ None
      → position (λ c. nat_eq c 10) text ≡ Some i → RestOutsideFault k sections text (fault.Line k)
  fault_outside_line i no_section no_end e =
      let f = line_end_at text i e in
      at_line (take i text) f.more f.parts f.whole
      (no_section_or_end (no_word (codes "section") (take i text) f.more no_section f.parts)
      (no_word (codes "end") (take i text) f.more no_end f.parts) refl)

-- ---- in a section

module _ (nodes k steps : ℕ) (text : List ℕ) where
  abbrev Due : CertFault → Type 0
  Due f = RestInsideFault nodes k steps text f

  pub fault_inside_cut : position (λ c. nat_eq c 10) text ≡ None → Due fault.Cut
  fault_inside_cut e = cut (no_line_end text e) refl

  pub fault_unread_too_many : (line : List ℕ) → FirstFeed text line → BeginsAsStep line → steps ≡ MAX_STEPS
      → Due fault.TooMany
  fault_unread_too_many line f begins many = at_line line f.more f.parts f.whole (too_many_steps begins many refl)

  pub fault_inside_line : (line : List ℕ) → FirstFeed text line → section_line_at text ≡ None
      → (steps ≡ MAX_STEPS → ¬ (BeginsAsStep line)) → Due (fault.Line k)
  fault_inside_line line f unread few = at_line line f.more f.parts f.whole (no_step_or_spent few
      (λ s h. let x = sym (step-again line s f.more h) ∙ ap section_line_at (sym f.parts) ∙ unread in absurd cc)
      (λ n h. let x = sym (spent-again line n f.more h) ∙ ap section_line_at (sym f.parts) ∙ unread in absurd cc) refl)

  pub fault_too_many_steps : (s : SpelledStep) (after : List ℕ) → section_line_at text ≡ Some (spelled.Step s, after)
      → steps ≡ MAX_STEPS → Due fault.TooMany
  fault_too_many_steps s after read many =
      let f = line-takes text (spelled.Step s, after) read in
      let h = f.says.1 in
      at_line f.line after f.parts f.whole
      (too_many_steps (
        h.node ++ codes " " ++ h.pos ++ codes " by " ++ h.other ++ codes " " ++ h.other_pos,
        h.parts,
      ) many refl)

  pub fault_step_range : (s : SpelledStep) (after : List ℕ) → section_line_at text ≡ Some (spelled.Step s, after)
      → nodes ≤ 255 → steps ≢ MAX_STEPS → ¬ (IsStep nodes (as_step s)) → Due (fault.Range k)
  fault_step_range s after read small few bad =
      let f = line-takes text (spelled.Step s, after) read in
      let its : ¬ (IsStep nodes f.says.0) =
      λ good. bad (subst (IsStep nodes) (sym (step_kept_same nodes f.says.0 small good)
      ∙ ap as_step (sym f.says.2)) good) in
      at_line f.line after f.parts f.whole (step_range f.says.0 f.says.1 few its refl)

  pub fault_spent_range : (n : ℕ) (after : List ℕ) → section_line_at text ≡ Some (spelled.Spent n, after)
      → ¬ (n < nodes) → Due (fault.Range k)
  fault_spent_range n after read bad =
      let f = line-takes text (spelled.Spent n, after) read in
      let at_least : nodes ≤ f.says.0 = omega (arith, f.says.2, bad) in
      at_line f.line after f.parts f.whole (spent_range f.says.0 f.says.1 at_least refl)

  pub reads_step : (s : SpelledStep) (after : List ℕ) → section_line_at text ≡ Some (spelled.Step s, after)
      → nodes ≤ 255 → IsStep nodes (as_step s)
      → (line : List ℕ) × (text ≡ line ++ codes "\n" ++ after) × IsStepLine line (as_step s)
  reads_step s after read small good =
      let f = line-takes text (spelled.Step s, after) read in
      let its : IsStep nodes f.says.0 =
      step_of_kept nodes f.says.0 small (subst (λ x. IsStep nodes (as_step x)) f.says.2 good) in (
        f.line,
        f.parts,
        subst (IsStepLine f.line) (sym (ap as_step f.says.2 ∙ step_kept_same nodes f.says.0 small its))
            f.says.1,
      )

  pub reads_spent : (n : ℕ) (after : List ℕ) → section_line_at text ≡ Some (spelled.Spent n, after) → nodes ≤ 255
      → n < nodes
      → (line : List ℕ) × (text ≡ line ++ codes "\n" ++ after) × IsSpentLine line n
  reads_spent n after read small good =
      let f = line-takes text (spelled.Spent n, after) read in
      let same : f.says.0 ≡ n = omega (arith, f.says.2, good, small) in
      (f.line, f.parts, subst (IsSpentLine f.line) same f.says.1)

  pub line_at_shorter : (x : SpelledLine) (after : List ℕ) → section_line_at text ≡ Some (x, after)
      → length after + 1 ≤ length text
  line_at_shorter x after read =
      let f = line-takes text (x, after) read in
      omega (arith, ap length f.parts, length-append (f.line ++ codes "\n") after, length-append f.line (codes "\n"))

  pub goes_on_step : (s : SpelledStep) (step : CertStep) (after : List ℕ) (new : LinesLeft)
      → section_line_at text ≡ Some (spelled.Step s, after) → nodes ≤ 255 → steps ≢ MAX_STEPS → step ≡ as_step s
      → IsStep nodes (as_step s) → new ≡ record { rest = after; number = k + 1 }
      → ReadsInside nodes steps (record { rest = text; number = k }) new (Ok (Step step))
  goes_on_step s step after new read small few same good is =
      let r = reads_step s after read small good in (
        r.0,
        record {
          rest = r.1 ∙ ap (λ (x : LinesLeft). r.0 ++ codes "\n" ++ x.rest) (sym is);
          number = ap (λ (x : LinesLeft). x.number) is;
        },
        subst (IsStepLine r.0) (sym same) r.2,
        few,
        subst (IsStep nodes) (sym same) good,
      )

  pub goes_on_spent : (n p : ℕ) (after : List ℕ) (new : LinesLeft)
      → section_line_at text ≡ Some (spelled.Spent n, after) → nodes ≤ 255 → p ≡ n → n < nodes
      → new ≡ record { rest = after; number = k + 1 }
      → ReadsInside nodes steps (record { rest = text; number = k }) new (Ok (Spent p))
  goes_on_spent n p after new read small same good is =
      let r = reads_spent n after read small good in (
        r.0,
        record {
          rest = r.1 ∙ ap (λ (x : LinesLeft). r.0 ++ codes "\n" ++ x.rest) (sym is);
          number = ap (λ (x : LinesLeft). x.number) is;
        },
        subst (IsSpentLine r.0) (sym same) r.2,
        omega (arith, same, good),
      )

-- ---- line by line

pub line_shorter : (old new : LinesLeft) (line : List ℕ) → ReadsLine old new line
    → suc (length new.rest) ≤ length old.rest
line_shorter old new line r =
    omega (arith, ap length r.rest, length-append (line ++ codes "\n") new.rest, length-append line (codes "\n"))

pub no_steps : (nodes : ℕ) (old : LinesLeft) → HasSteps nodes old [] old
no_steps nodes old = (
  record {
    lines = [];
    steps_are = refl;
    count = omega arith;
    valid = All-nil (IsStep nodes);
    parts = refl;
  },
  omega arith,
)

lines-push : (lines line : List ℕ) (ss : List CertStep) (s : CertStep) → AreStepLines lines ss → IsStepLine line s
    → AreStepLines (lines ++ line ++ codes "\n") (ss ++ s ∷ [])
lines-push lines line [] s h is =
    (line, [], ap (λ w. w ++ line ++ codes "\n") h ∙ sym (append-nil (line ++ codes "\n")), is, refl)
lines-push lines line (x ∷ xs) s h is = (
  h.0,
  h.1 ++ line ++ codes "\n",
  ap (λ w. w ++ line ++ codes "\n") h.2 ∙ simp append_assoc,
  h.3,
  lines-push h.1 line xs s h.4 is,
)

pub more_steps : (nodes : ℕ) (entry old new : LinesLeft) (ss : List CertStep) (s : CertStep) (line : List ℕ)
    → HasSteps nodes entry ss old → ReadsLine old new line → IsStepLine line s → length ss ≢ MAX_STEPS → IsStep nodes s
    → HasSteps nodes entry (ss ++ s ∷ []) new
more_steps nodes entry old new ss s line h r is few good = (
  record {
    lines = h.0.lines ++ line ++ codes "\n";
    steps_are = lines-push h.0.lines line ss s h.0.steps_are is;
    count = omega (arith, length-append ss (s ∷ []), h.0.count, few);
    valid = All-push (IsStep nodes) ss s h.0.valid good;
    parts = h.0.parts ∙ ap (λ w. h.0.lines ++ w) r.rest ∙ simp append_assoc;
  },
  omega (arith, length-append ss (s ∷ []), h.1, r.number),
)

-- ---- section by section

-- these sections were read
abbrev pub HasSections : ℕ → List ℕ → List Section → LinesLeft → Type 0
HasSections nodes text sections left = BeginsWithSections nodes text sections left.rest
    × (left.number ≡ 2 + lines_of sections + 1)

pub no_sections : (nodes : ℕ) (text : List ℕ) (left : LinesLeft) → left.rest ≡ text → left.number ≡ 3
    → HasSections nodes text [] left
no_sections nodes text left rest three = (
  record {
    front = [];
    sections_are = refl;
    count = omega arith;
    valid = All-nil (IsSection nodes);
    parts = sym rest;
  },
  three,
)

sections-push : (front first : List ℕ) (ss : List Section) (s : Section) → AreSectionTexts front ss
    → IsSectionText first s → AreSectionTexts (front ++ first) (ss ++ s ∷ [])
sections-push front first [] s h is = (first, [], ap (λ w. w ++ first) h ∙ sym (append-nil first), is, refl)
sections-push front first (x ∷ xs) s h is =
    (h.0, h.1 ++ first, ap (λ w. w ++ first) h.2 ∙ append_assoc h.0 h.1 first, h.3, sections-push h.1 first xs s h.4 is)

lines_of_more : (ss : List Section) (s : Section) → lines_of (ss ++ s ∷ []) ≡ lines_of ss + (1 + length s.steps + 1)
lines_of_more ss s = sum_by_push (λ x. 1 + length x.steps + 1) ss s

-- one more section was read, from its first line on
pub more_sections : (nodes : ℕ) (text : List ℕ) (ss : List Section) (s : Section) (old mid new : LinesLeft)
    → HasSections nodes text ss old → ReadsLine old mid (codes "section") → length ss ≢ MAX_SECTIONS
    → ReadsSection nodes mid new (Ok s) → HasSections nodes text (ss ++ s ∷ []) new
more_sections nodes text ss s old mid new h r few (before, line, b, q, is, good) = (
  record {
    front = h.0.front ++ (codes "section\n" ++ b.0.lines ++ line ++ codes "\n");
    sections_are = sections-push h.0.front (codes "section\n" ++ b.0.lines ++ line
        ++ codes "\n") ss s h.0.sections_are (record {
          steps = b.0.lines;
          spent = line;
          steps_are = b.0.steps_are;
          spent_is = is;
          parts = refl;
        });
    count = omega (arith, length-append ss (s ∷ []), h.0.count, few);
    valid = All-push (IsSection nodes) ss s h.0.valid (record { count = b.0.count; spent = good; steps = b.0.valid });
    parts = h.0.parts ∙ ap (λ w. h.0.front ++ w) (r.rest
        ∙ ap (λ w. codes "section\n" ++ w) (b.0.parts ∙ ap (λ w. b.0.lines ++ w) q.rest)) ∙ simp append_assoc;
  },
  omega (arith, lines_of_more ss s, h.1, r.number, b.1, q.number),
)

pub fault_in_section : (nodes : ℕ) (text : List ℕ) (ss : List Section) (old mid before : LinesLeft)
    (steps : List CertStep) (f : CertFault) → HasSections nodes text ss old → ReadsLine old mid (codes "section")
    → length ss ≢ MAX_SECTIONS → HasSteps nodes mid steps before
    → RestInsideFault nodes before.number (length steps) before.rest f → SectionsFault nodes text f
fault_in_section nodes text ss old mid before steps f h r few b d =
    let number : before.number ≡ 2 + lines_of ss + 1 + length steps + 1 = omega (arith, h.1, r.number, b.1) in
    inside ss steps mid.rest before.rest (subst (λ w. BeginsWithSections nodes text ss w) r.rest h.0)
    (omega (arith, h.0.count, few)) b.0
    (subst (λ k. RestInsideFault nodes k (length steps) before.rest f) number d)

pub fault_outside : (nodes : ℕ) (text : List ℕ) (ss : List Section) (old : LinesLeft) (f : CertFault)
    → HasSections nodes text ss old → RestOutsideFault old.number (length ss) old.rest f → SectionsFault nodes text f
fault_outside nodes text ss old f h d =
    outside ss old.rest h.0 (subst (λ k. RestOutsideFault k (length ss) old.rest f) h.1 d)

pub all_sections : (nodes : ℕ) (text : List ℕ) (ss : List Section) (old : LinesLeft) → HasSections nodes text ss old
    → old.rest ≡ codes "end\n" → BeginsWithSections nodes text ss (codes "end\n")
all_sections nodes text ss old h e = subst (BeginsWithSections nodes text ss) e h.0

-- ---- what the reader's calls answered

pub step_was_read : (nodes n : ℕ) (entry old new : LinesLeft) (ss zs : List CertStep) (l : SectionLine) (s : CertStep)
    → HasSteps nodes entry ss old → n ≡ length ss → ReadsInside nodes n old new (Ok l) → l ≡ Step s → zs ≡ ss ++ s ∷ []
    → HasSteps nodes entry zs new
step_was_read nodes n entry old new ss zs l s h count read is pushed =
    let r = subst (λ x. ReadsInside nodes n old new (Ok x)) is read in
    subst (λ xs. HasSteps nodes entry xs new) (sym pushed)
    (more_steps nodes entry old new ss s r.0 h r.1 r.2 (λ many. r.3 (count ∙ many)) r.4)

pub steps_refused : (nodes n : ℕ) (entry old new : LinesLeft) (ss : List CertStep) (f : CertFault)
    → HasSteps nodes entry ss old → n ≡ length ss → ReadsInside nodes n old new (Err f)
    → ReadsSection nodes entry new (Err f)
steps_refused nodes n entry old new ss f h count d =
    inr (ss, old, h, subst (λ m. RestInsideFault nodes old.number m old.rest f) count d)

pub section_was_read : (nodes n : ℕ) (text : List ℕ) (ss zs : List Section) (b : Bool) (s : Section)
    (old mid new : LinesLeft) → HasSections nodes text ss old → n ≡ length ss → ReadsOutside n old mid (Ok b) → b ≡ true
    → ReadsSection nodes mid new (Ok s) → zs ≡ ss ++ s ∷ [] → HasSections nodes text zs new
section_was_read nodes n text ss zs b s old mid new h count read is section pushed =
    let r = subst (λ x. ReadsOutside n old mid (Ok x)) is read in
    subst (λ xs. HasSections nodes text xs new) (sym pushed)
    (more_sections nodes text ss s old mid new h r.0 (λ many. r.1 (count ∙ many)) section)

pub section_refused : (nodes n : ℕ) (text : List ℕ) (ss : List Section) (b : Bool) (f : CertFault)
    (old mid new : LinesLeft) → HasSections nodes text ss old → n ≡ length ss → ReadsOutside n old mid (Ok b) → b ≡ true
    → ReadsSection nodes mid new (Err f) → (f ≡ fault.OutOfMemory) ⊎ SectionsFault nodes text f
section_refused nodes n text ss b f old mid new h count read is (inl e) = inl e
section_refused nodes n text ss b f old mid new h count read is (inr (steps, before, has, d)) =
    let r = subst (λ x. ReadsOutside n old mid (Ok x)) is read in
    inr (fault_in_section nodes text ss old mid before steps f h r.0 (λ many. r.1 (count ∙ many)) has d)

pub sections_refused : (nodes n : ℕ) (text : List ℕ) (ss : List Section) (f : CertFault) (old mid : LinesLeft)
    → HasSections nodes text ss old → n ≡ length ss → ReadsOutside n old mid (Err f) → (f ≡ fault.OutOfMemory)
    ⊎ SectionsFault nodes text f
sections_refused nodes n text ss f old mid h count d =
    inr (fault_outside nodes text ss old f h (subst (λ m. RestOutsideFault old.number m old.rest f) count d))

pub section_shorter : (nodes n : ℕ) (b : Bool) (s : Section) (old mid new : LinesLeft) → ReadsOutside n old mid (Ok b)
    → b ≡ true → ReadsSection nodes mid new (Ok s) → suc (length new.rest) ≤ length old.rest
section_shorter nodes n b s old mid new read is (before, line, h, q, spent, good) =
    let r = subst (λ x. ReadsOutside n old mid (Ok x)) is read in
    omega (
      arith,
      line_shorter old mid (codes "section") r.0,
      line_shorter before new line q,
      ap length h.0.parts,
      length-append h.0.lines before.rest,
    )
