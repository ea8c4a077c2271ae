-- Records of a text that is no log's, read one by one.
use Rattle.std.proofs.Common.{◌≡◌, ◌≢◌, ◌∙◌, ◌≤◌, ℕ, List, Option, None, Some, Result, Ok, Err, ap, inl, inr, length}
use Rattle.std.proofs.Common.{refl, subst, sym}
use Rattle.ira_event.specs.declared.event.Event.{Event}
use Rattle.ira_event.specs.declared.log_fault.LogFault.{LogFault}
use Rattle.ira_event.specs.declared.log_fault.LogFault.TheVariants.{Count, Trailing}
use Rattle.ira_event.specs.declared.log_head.LogHead.{LogHead}
use Rattle.ira_event.specs.Limits.{MAX_TEXT}
use Rattle.ira_event.specs.LogTextFault.{AreAllRecords, BeginsWithHead, BeginsWithRecords, LogTextFault, OpeningFault}
use Rattle.ira_event.specs.LogTextFault.{RecordsFault, RestFault, past_head}
use Rattle.ira_event.specs.Records.{HasRead, ReadsOn, RecordsLeft}
use Rattle.ira_event.proofs.LogAnswers.{log_or_fault, log_read, one_fault, opening_fault}
use Rattle.ira_event.proofs.LogReading.{after_all, after_fault}
use Rattle.ira_view_explain.specs.TextTold.{IsFaultAfter}

-- what can't be opened has no other fault
pub opened_not : (text : List ℕ) (f g : LogFault) → OpeningFault text g → LogTextFault text f
    → ¬ (OpeningFault text f) → ⊥
opened_not text f g opening fault not =
    not (subst (OpeningFault text) (one_fault text g f (opening_fault text g opening) fault) opening)

-- what stops the reading of records is the text's fault
pub fault_after : (text : List ℕ) (head : LogHead) (body : List ℕ) (events : List Event) (old new : RecordsLeft)
    (r : Result (Option Event) LogFault) (f : LogFault) → length text ≤ MAX_TEXT → BeginsWithHead text head body
    → HasRead body events old → old.version ≡ head.version → ReadsOn old new r → ((e : Event) → r ≢ Ok (Some e))
    → LogTextFault text f → IsFaultAfter text new.count f
fault_after text head body events old new (Ok (Some e)) f short begins read version reads other fault =
    absurd (other e refl)
fault_after text head body events old new (Ok None) f short begins read version reads other fault =
    let all = subst (λ (v : ℕ). AreAllRecords v body events) version (after_all body events old read reads.0) in
    absurd (log_or_fault text _ f (log_read text head body events begins all) fault)
fault_after text head body events old new (Err g) f short begins read version reads other fault =
    let stopped = subst (λ (v : ℕ). RecordsFault v body g) version (after_fault body events old g read reads.0) in
    let same : g ≡ f = one_fault text g f (inr (short, past_head head body begins stopped)) fault in
    let count : old.count ≡ new.count = sym (ap (λ (l : RecordsLeft). l.count) reads.1) in
    record {
      head = head;
      body = body;
      begins = begins;
      events = events;
      rest = old.rest;
      records = subst (λ (v : ℕ). BeginsWithRecords v body events old.rest) version read.0;
      count_is = read.1 ∙ count;
      fault = subst (λ (h : LogFault). RestFault head.version new.count old.rest h) same
          (subst (λ (n : ℕ). RestFault head.version n old.rest g) count
          (subst (λ (v : ℕ). RestFault v old.count old.rest g) version reads.0));
    }

-- a wrong count is no fault of what can't be opened, nor is what follows the end line
pub count_opened : (text : List ℕ) → ¬ (OpeningFault text Count)
count_opened text (inl long) = absurd (let e = long.1 in cc)
count_opened text (inr none) = absurd (let e = none.2 in cc)

pub trailing_opened : (text : List ℕ) → ¬ (OpeningFault text Trailing)
trailing_opened text (inl long) = absurd (let e = long.1 in cc)
trailing_opened text (inr none) = absurd (let e = none.2 in cc)
