-- The upgrade of a log is a log; upgraded logs are those of a ring, or have the head fault of the old ones.
use Rattle.std.proofs.Common.{◌≡◌, ◌↔◌, ℕ, zero, suc, Bool, true, false, ◌||◌, List, [], ◌∷◌, length, Some}
use Rattle.std.proofs.Common.{slice_get, not, refl, sym, ap, subst, ◌∙◌, arith}
use Rattle.std.specs.Prelude.{map}
use Rattle.std.specs.List.{list_all}
use Rattle.std.proofs.lemmas.Option.{same_Some}
use Rattle.ira_event.specs.declared.event.Event.{Event}
use Rattle.ira_event.specs.declared.head_fault.HeadFault.{HeadFault}
use Rattle.ira_event.specs.Event.{is_later, is_of_version}
use Rattle.ira_event.specs.Log.{Log, IsLog}
use Rattle.ira_event.specs.Logs.{EachLog, AreLogs, HasNumber, IsFirstOther, HeadFaultOf, wrong_number}
use Rattle.ira_event.specs.Logs.{wrong_size, wrong_place, wrong_version}
use Rattle.ira_event.specs.RingSize.{IsRingSize}
use Rattle.ira_event.specs.Upgrade.{upgraded}

or_true : (b : Bool) → (b || true) ≡ true
or_true true = refl
or_true false = refl

-- a log of version 2 may have any events
pub all_held : (events : List Event) → list_all (is_of_version 2) events ≡ true
all_held [] = refl
all_held (e ∷ es) = rw (or_true (not (is_later e)), all_held es) refl

pub upgraded_is_log : (log : Log) → IsLog log → IsLog (upgraded log)
upgraded_is_log log valid = record {
  version = (omega arith, omega arith);
  size = valid.size;
  fits = λ first. omega (arith, first);
  place = valid.place;
  count = valid.count;
  numbers = valid.numbers;
  held = all_held log.events;
}

-- ---- logs of a ring, and their head faults

-- there are as many upgraded logs
pub upgraded_count : (logs : List Log) → length (map upgraded logs) ≡ length logs
upgraded_count [] = refl
upgraded_count (log ∷ logs) = ap suc (upgraded_count logs)

-- each log stands upgraded at its place
pub upgraded_at : (logs : List Log) (i : ℕ) (log : Log) → slice_get logs i ≡ Some log
    → slice_get (map upgraded logs) i ≡ Some (upgraded log)
upgraded_at [] i log at = absurd cc
upgraded_at (l ∷ ls) zero log at = ap (λ x. Some (upgraded x)) (same_Some l log at)
upgraded_at (l ∷ ls) (suc i) log at = upgraded_at ls i log at

-- and each upgraded log is one of those
pub old_at : (logs : List Log) (i : ℕ) (new : Log) → slice_get (map upgraded logs) i ≡ Some new → (log : Log)
    × (slice_get logs i ≡ Some log) × (upgraded log ≡ new)
old_at [] i new at = absurd cc
old_at (l ∷ ls) zero new at = (l, refl, same_Some (upgraded l) new at)
old_at (l ∷ ls) (suc i) new at = old_at ls i new at

-- a fact of each log, as one of each upgraded log
pub each_upgraded : (logs : List Log) (P Q : ℕ → Log → Type 0) → ((i : ℕ) (log : Log) → P i log → Q i (upgraded log))
    → EachLog logs P → EachLog (map upgraded logs) Q
each_upgraded logs P Q next each i new at =
    let o = old_at logs i new at in
    subst (λ l. Q i l) o.2 (next i o.0 (each i o.0 o.1))

-- the upgraded logs of a ring are logs of a ring
pub are_upgraded_logs : (logs : List Log) → AreLogs logs → AreLogs (map upgraded logs)
are_upgraded_logs logs are = record {
  ring = subst IsRingSize (sym (upgraded_count logs)) are.ring;
  sizes = each_upgraded logs _ _ (λ i log e. e ∙ sym (upgraded_count logs)) are.sizes;
  places = each_upgraded logs _ _ (λ i log e. e) are.places;
  valid = each_upgraded logs _ _ (λ i log v. upgraded_is_log log v) are.valid;
  version = 2;
  versions = each_upgraded logs _ _ (λ i log e. refl) are.versions;
}

number_upgraded : (logs : List Log) (nodes : ℕ) → HasNumber logs nodes → HasNumber (map upgraded logs) nodes
number_upgraded logs nodes h = record {
  first = upgraded h.first;
  is_first = upgraded_at logs 0 h.first h.is_first;
  names = h.names;
  number = upgraded_count logs ∙ h.number;
}

old_number : (logs : List Log) (nodes : ℕ) → HasNumber (map upgraded logs) nodes → HasNumber logs nodes
old_number logs nodes h =
    let o = old_at logs 0 h.first h.is_first in
    record {
      first = o.0;
      is_first = o.1;
      names = ap (λ (l : Log). l.nodes) o.2 ∙ h.names;
      number = sym (upgraded_count logs) ∙ h.number;
    }

-- the first log of which a fact doesn't hold, where it is a fact of the upgraded log alike
first_upgraded : (logs : List Log) (P : ℕ → Log → Type 0) (i : ℕ) → ((j : ℕ) (log : Log) → P j log ↔ P j (upgraded log))
    → IsFirstOther logs P i → IsFirstOther (map upgraded logs) P i
first_upgraded logs P i same h = record {
  log = upgraded h.log;
  at = upgraded_at logs i h.log h.at;
  other = λ p. h.other ((same i h.log).1 p);
  least = λ j before lt at.
      let o = old_at logs j before at in
      subst (λ l. P j l) o.2 ((same j o.0).0 (h.least j o.0 lt o.1));
}

-- upgraded logs have the head fault of the old ones, where these are of one version
pub head_fault_upgraded : (logs : List Log) (version : ℕ) (f : HeadFault)
    → EachLog logs (λ _ log. log.version ≡ version) → HeadFaultOf logs f → HeadFaultOf (map upgraded logs) f
head_fault_upgraded logs version f one (wrong_number none e) =
    wrong_number (λ nodes h. none nodes (old_number logs nodes h)) e
head_fault_upgraded logs version f one (wrong_size nodes i number first e) =
    wrong_size nodes i (number_upgraded logs nodes number) (first_upgraded logs _ i (λ j log. (λ h. h, λ h. h)) first) e
head_fault_upgraded logs version f one (wrong_place nodes i number sizes first e) =
    wrong_place nodes i (number_upgraded logs nodes number) (each_upgraded logs _ _ (λ j log h. h) sizes)
    (first_upgraded logs _ i (λ j log. (λ h. h, λ h. h)) first) e
head_fault_upgraded logs version f one (wrong_version nodes v i number sizes places has first e) =
    absurd (first.other (one i first.log first.at ∙ sym (one 0 has.first has.is_first) ∙ has.names))
