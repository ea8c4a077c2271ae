-- How far the events of a ring were told.
use Rattle.std.proofs.Common.{◌≡◌, ◌∙◌, ℕ, ◌+◌, Bool, true, false, List, [], ◌∷◌, ◌++◌, Option, Some, Result, Ok, Err}
use Rattle.std.proofs.Common.{ap, append-nil, append_assoc, arith, inl, inr, length, refl, subst, sym}
use Rattle.std.specs.Prelude.{All, OnOk, ◌&&◌}
use Rattle.std.proofs.lemmas.List.{length-append, length_push, map-append}
use Rattle.std.proofs.lemmas.List.Elements.{All-nil, All-push}
use Rattle.ira_event.specs.Log.{Log}
use Rattle.ira_event.specs.Sink.{SinkState, Takes}
use Rattle.ira_event.proofs.Writing.{Appends-nothing, Takes-append}
use Rattle.ira_view_page.specs.Page.{Added}
use Rattle.ira_view_page.specs.Printable.{IsPrintable}
use Rattle.ira_view_trail.specs.declared.state_step.StateStep.{StateStep}
use Rattle.ira_view_trail.specs.declared.trail_step.TrailStep.{TrailStep}
use Rattle.ira_view_trail.specs.Trail.{IsTrail}
use Rattle.ira_view_page.proofs.Printables.{printable_append}
use Rattle.ira_view_show.specs.EventsText.{AreEventLines, IsEventLine, TellsEvents, between_text, more, none, trail_of}
use Rattle.ira_view_show.specs.Showed.{GoesOn, TookPage}
use Rattle.ira_view_show.specs.declared.event_line.EventColumns.{EventColumns}

module _ (logs : List Log) (cut here : List ℕ) (columns : EventColumns) where
  -- these steps were told, all of which are in the cut
  pub record AreInside (steps : List TrailStep) (number : ℕ) (text : List ℕ) : Type 0 where
    pub inside : List StateStep
    pub steps_are : steps ≡ trail_of inside
    pub in_cut : All (λ walked. walked.step.in_cut ≡ true) inside
    pub number_is : number ≡ length inside
    pub lines : AreEventLines logs columns 1 inside text

  -- these steps were told, and not all of them are in the cut
  pub record AreOutside (steps : List TrailStep) (number : ℕ) (text : List ℕ) : Type 0 where
    pub inside : List StateStep
    pub first : StateStep
    pub outside : List StateStep
    pub steps_are : steps ≡ trail_of (inside ++ first ∷ outside)
    pub in_cut : All (λ walked. walked.step.in_cut ≡ true) inside
    pub not_in_cut : first.step.in_cut ≡ false
    pub number_is : number ≡ length (inside ++ first ∷ outside)
    pub before : List ℕ
    pub after : List ℕ
    pub are_before : AreEventLines logs columns 1 inside before
    pub are_after : AreEventLines logs columns (1 + length inside) (first ∷ outside) after
    pub is : text ≡ before ++ here ++ after

  abbrev pub AreTold : Bool → List TrailStep → ℕ → List ℕ → Type 0
  AreTold true = AreInside
  AreTold false = AreOutside

  pub none_told : AreTold true [] 0 []
  none_told = record {
    inside = [];
    steps_are = refl;
    in_cut = All-nil (λ (walked : StateStep). walked.step.in_cut ≡ true);
    number_is = refl;
    lines = none;
  }

  -- the trail of one step more
  trail_more : (steps : List StateStep) (w : StateStep) → trail_of (steps ++ w ∷ []) ≡ trail_of steps ++ w.step ∷ []
  trail_more steps w = map-append (λ (walked : StateStep). walked.step) steps (w ∷ [])

  -- one more that is in the cut
  pub told_inside : {steps : List TrailStep} {number : ℕ} {text : List ℕ} (w : StateStep) (line : List ℕ)
      → AreTold true steps number text → w.step.in_cut ≡ true → IsEventLine logs columns (number + 1) w line
      → AreTold true (steps ++ w.step ∷ []) (number + 1) (text ++ line)
  told_inside {steps} {number} {text} w line told is_in is_line =
      let count : number + 1 ≡ 1 + length told.inside = omega (arith, told.number_is) in
      record {
        inside = told.inside ++ w ∷ [];
        steps_are = ap (λ s. s ++ w.step ∷ []) told.steps_are ∙ sym (trail_more told.inside w);
        in_cut = All-push (λ (walked : StateStep). walked.step.in_cut ≡ true) told.inside w told.in_cut is_in;
        number_is = omega (arith, told.number_is, length_push told.inside w);
        lines = more w line told.lines (subst (λ n. IsEventLine logs columns n w line) count is_line);
      }

  -- the first that isn't
  pub told_first : {steps : List TrailStep} {number : ℕ} {text : List ℕ} (w : StateStep) (line : List ℕ)
      → AreTold true steps number text → w.step.in_cut ≡ false → IsEventLine logs columns (number + 1) w line
      → AreTold false (steps ++ w.step ∷ []) (number + 1) (text ++ here ++ line)
  told_first {steps} {number} {text} w line told is_out is_line =
      let count : number + 1 ≡ 1 + length told.inside + 0 = omega (arith, told.number_is) in
      record {
        inside = told.inside;
        first = w;
        outside = [];
        steps_are = ap (λ s. s ++ w.step ∷ []) told.steps_are ∙ sym (trail_more told.inside w);
        in_cut = told.in_cut;
        not_in_cut = is_out;
        number_is = omega (arith, told.number_is, length_push told.inside w);
        before = text;
        after = line;
        are_before = told.lines;
        are_after = more w line none (subst (λ n. IsEventLine logs columns n w line) count is_line);
        is = refl;
      }

  -- one more after that
  pub told_outside : {steps : List TrailStep} {number : ℕ} {text : List ℕ} (w : StateStep) (line : List ℕ)
      → AreTold false steps number text → IsEventLine logs columns (number + 1) w line
      → AreTold false (steps ++ w.step ∷ []) (number + 1) (text ++ line)
  told_outside {steps} {number} {text} w line told is_line =
      let all = told.inside ++ told.first ∷ told.outside in
      let same : all ++ w ∷ [] ≡ told.inside ++ (told.first ∷ told.outside ++ w ∷ []) =
      append_assoc told.inside (told.first ∷ told.outside) (w ∷ []) in
      let count : number + 1 ≡ 1 + length told.inside + length (told.first ∷ told.outside) =
      omega (arith, told.number_is, length-append told.inside (told.first ∷ told.outside)) in
      record {
        inside = told.inside;
        first = told.first;
        outside = told.outside ++ w ∷ [];
        steps_are = ap (λ s. s ++ w.step ∷ []) told.steps_are ∙ sym (trail_more all w) ∙ ap trail_of same;
        in_cut = told.in_cut;
        not_in_cut = told.not_in_cut;
        number_is = omega (arith, told.number_is, length_push all w, ap length same);
        before = told.before;
        after = told.after ++ line;
        are_before = told.are_before;
        are_after = more w line told.are_after (subst (λ n. IsEventLine logs columns n w line) count is_line);
        is = ap (λ t. t ++ line) told.is ∙ append_assoc (told.before ++ here) told.after line;
      }

  -- the steps are a trail
  pub all_inside : {steps : List TrailStep} {number : ℕ} {text : List ℕ} → AreTold true steps number text
      → IsTrail logs cut steps → TellsEvents logs cut here (text ++ here)
  all_inside {text = text} told trail = record {
    columns = columns;
    inside = told.inside;
    outside = [];
    trail = subst (IsTrail logs cut) (told.steps_are ∙ sym (ap trail_of (append-nil told.inside))) trail;
    in_cut = told.in_cut;
    not_in_cut = λ first others e. cc;
    before = text;
    after = [];
    are_before = told.lines;
    are_after = none;
    is = sym (append-nil (text ++ here));
  }

  pub all_outside : {steps : List TrailStep} {number : ℕ} {text : List ℕ} → AreTold false steps number text
      → IsTrail logs cut steps → TellsEvents logs cut here text
  all_outside told trail = record {
    columns = columns;
    inside = told.inside;
    outside = told.first ∷ told.outside;
    trail = subst (IsTrail logs cut) told.steps_are trail;
    in_cut = told.in_cut;
    not_in_cut = λ first others e.
        let same : told.first ≡ first = cc in
        subst (λ (w : StateStep). w.step.in_cut ≡ false) same told.not_in_cut;
    before = told.before;
    after = told.after;
    are_before = told.are_before;
    are_after = told.are_after;
    is = told.is;
  }

-- what was on a page and then this text went to the sink, but for what is on the page now
pub record IsPrinted (heading page : Option (List ℕ)) (text : List ℕ) (s t : SinkState) : Type 0 where
  pub taken : List ℕ
  pub printable : IsPrintable taken
  pub took : Takes taken s t
  pub whole : (rest : List ℕ) → page ≡ Some rest → (front : List ℕ) × (heading ≡ Some front)
      × (front ++ text ≡ taken ++ rest)

pub none_printed : (heading : Option (List ℕ)) (s : SinkState) → IsPrinted heading heading [] s s
none_printed heading s = record {
  taken = [];
  printable = refl;
  took = record { took = Appends-nothing s.taken; same = refl };
  whole = λ rest e. (rest, e, append-nil rest);
}

pub printed_more : {heading page next : Option (List ℕ)} {text : List ℕ} {s t : SinkState} (others : List ℕ)
    → IsPrinted heading page text s t → Added page others next → IsPrinted heading next (text ++ others) s t
printed_more {heading} {page} {next} {text} others so_far added = record {
  taken = so_far.taken;
  printable = so_far.printable;
  took = so_far.took;
  whole = λ rest e.
      let a = added.ends rest e in
      let w = so_far.whole a.0 a.1 in (
        w.0,
        w.1,
        sym (append_assoc w.0 text others) ∙ ap (λ (x : List ℕ). x ++ others) w.2
            ∙ append_assoc so_far.taken a.0 others
            ∙ ap (λ (x : List ℕ). so_far.taken ++ x) (sym a.2),
      );
}

pub printed_as : {heading page : Option (List ℕ)} {a b : List ℕ} {s t : SinkState} → a ≡ b
    → IsPrinted heading page a s t → IsPrinted heading page b s t
printed_as {heading} {page} {s = s} {t = t} same p = subst (λ (x : List ℕ). IsPrinted heading page x s t) same p

-- the page was written
pub all_printed : {heading page : Option (List ℕ)} {text : List ℕ} {s t u : SinkState}
    → IsPrinted heading page text s t → TookPage page t u
    → (front : List ℕ) × (heading ≡ Some front) × IsPrintable (front ++ text) × Takes (front ++ text) s u
all_printed {heading} {page} {text} {s} {t} {u} so_far took =
    let w = so_far.whole took.0 took.1 in (
      w.0,
      w.1,
      subst IsPrintable (sym w.2) (printable_append so_far.taken took.0 so_far.printable took.2),
      subst (λ (x : List ℕ). Takes x s u) (sym w.2) (Takes-append s t u so_far.taken took.0 so_far.took took.3),
    )

pub printed_block : {heading page next : Option (List ℕ)} {text : List ℕ} {s t u : SinkState}
    → IsPrinted heading page text s t → GoesOn page (Ok next) t u → IsPrinted heading next text s u
printed_block {heading} {page} {next} {text} {s} {t} {u} so_far (inl same) =
    rw same.0 (rw same.1 so_far)
printed_block {heading} {page} {next} {text} {s} {t} {u} so_far (inr wrote) =
    let took = wrote.1 in
    let w = so_far.whole took.0 took.1 in
    record {
      taken = so_far.taken ++ took.0;
      printable = printable_append so_far.taken took.0 so_far.printable took.2;
      took = Takes-append s t u so_far.taken took.0 so_far.took took.3;
      whole = λ rest e.
          let none : rest ≡ [] = cc in
          (w.0, w.1, w.2 ∙ sym (ap (λ (x : List ℕ). so_far.taken ++ took.0 ++ x) none ∙ append-nil (so_far.taken ++ took.0)));
    }

module _ (logs : List Log) (cut here : List ℕ) (columns : EventColumns) (heading : Option (List ℕ)) where
  -- these steps were told, and the text of that was printed
  pub record IsTold (is_inside : Bool) (steps : List TrailStep) (number : ℕ) (page : Option (List ℕ)) (s t : SinkState)
      : Type 0 where
    pub text : List ℕ
    pub told : AreTold logs cut here columns is_inside steps number text
    pub printed : IsPrinted heading page text s t

  -- one more step
  pub step_told : (is_inside in_cut : Bool) (steps : List TrailStep) (number : ℕ) (page mid next : Option (List ℕ))
      (s t : SinkState) (w : StateStep) (line : List ℕ) → w.step.in_cut ≡ in_cut
      → IsTold is_inside steps number page s t → IsEventLine logs columns (number + 1) w line
      → Added page (between_text is_inside in_cut here) mid → Added mid line next
      → IsTold (is_inside && in_cut) (steps ++ w.step ∷ []) (number + 1) next s t
  step_told true true steps number page mid next s t w line is told is_line between added = record {
    text = told.text ++ line;
    told = told_inside logs cut here columns w line told.told is is_line;
    printed = printed_as (ap (λ (x : List ℕ). x ++ line) (append-nil told.text))
        (printed_more line (printed_more [] told.printed between) added);
  }
  step_told true false steps number page mid next s t w line is told is_line between added = record {
    text = told.text ++ here ++ line;
    told = told_first logs cut here columns w line told.told is is_line;
    printed = printed_more line (printed_more here told.printed between) added;
  }
  step_told false in_cut steps number page mid next s t w line is told is_line between added = record {
    text = told.text ++ line;
    told = told_outside logs cut here columns w line told.told is_line;
    printed = printed_as (ap (λ (x : List ℕ). x ++ line) (append-nil told.text))
        (printed_more line (printed_more [] told.printed between) added);
  }

  -- the steps are a trail, and the page was written
  pub all_told : (is_inside : Bool) (steps : List TrailStep) (number : ℕ) (page last : Option (List ℕ))
      (s t u : SinkState) → IsTold is_inside steps number page s t → IsTrail logs cut steps
      → Added page (between_text is_inside false here) last → TookPage last t u
      → (front : List ℕ) × (events : List ℕ) × (heading ≡ Some front) × TellsEvents logs cut here events
      × IsPrintable (front ++ events) × Takes (front ++ events) s u
  all_told true steps number page last s t u told trail between took =
      let all = all_printed (printed_more here told.printed between) took in
      (all.0, told.text ++ here, all.1, all_inside logs cut here columns told.told trail, all.2, all.3)
  all_told false steps number page last s t u told trail between took =
      let all = all_printed (printed_as (append-nil told.text) (printed_more [] told.printed between)) took in
      (all.0, told.text, all.1, all_outside logs cut here columns told.told trail, all.2, all.3)

-- where all went well
pub ok_so : {T E : Type 0} {P Q : Type 0} (r : Result T E) → (P → Q) → OnOk r P → OnOk r Q
ok_so (Ok v) so h = so h
ok_so (Err e) so h = tt
