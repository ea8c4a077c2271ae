-- Texts and the logs whose texts they are.
use Rattle.std.proofs.Common.{Bor, true, false, Option, None, map, length, slice_index_or, ◌≡◌, ℕ, zero, suc, ◌+◌, ◌<◌}
use Rattle.std.proofs.Common.{◌≤◌, List, [], ◌∷◌, ◌++◌, Some, take, refl, sym, ap, subst, ◌∙◌, arith}
use Rattle.std.specs.Prelude.{slice_get}
use Rattle.std.proofs.lemmas.List.{take-append-le, take_more, take_all, length-map}
use Rattle.std.proofs.lemmas.Option.{slice_get_within, get_or_from_slice_get, same_Some}
use Rattle.ira_event.specs.declared.log_fault.LogFault.{LogFault}
use Rattle.ira_event.specs.Log.{Log}
use Rattle.ira_event.specs.LogText.{IsLogText}
use Rattle.ira_event.specs.LogTextFault.{LogTextFault}
use Rattle.ira_event.proofs.LogAnswers.{one_log, log_or_fault, one_fault}
use Rattle.std.specs.Option.{is_some}
use Rattle.ira_audit.specs.LogTexts.{AreLogTexts, IsFirstTextFault}
use Rattle.ira_audit.specs.RingAudit.{AreKept}

-- a beginning of a list has the list's members
pub taken : {X : Type 0} (xs : List X) (i n : ℕ) → i < n → slice_get (take n xs) i ≡ slice_get xs i
taken [] i zero lt = refl
taken [] i (suc n) lt = refl
taken (x ∷ xs) i zero lt = absurd (omega (arith, lt))
taken (x ∷ xs) zero (suc n) lt = refl
taken (x ∷ xs) (suc i) (suc n) lt = taken xs i n (omega (arith, lt))

-- texts are those of one list of logs
pub one_list : (texts : List (List ℕ)) (logs others : List Log) → AreLogTexts texts logs → AreLogTexts texts others
    → logs ≡ others
one_list [] [] [] a b = refl
one_list [] [] (m ∷ ms) a b = absurd b
one_list [] (l ∷ ls) ms a b = absurd a
one_list (t ∷ ts) [] ms a b = absurd a
one_list (t ∷ ts) (l ∷ ls) [] a b = absurd b
one_list (t ∷ ts) (l ∷ ls) (m ∷ ms) a b = (let here = one_log t l m a.0 b.0 in let rest = one_list ts ls ms a.1 b.1 in
    cc)

-- each of the texts is a log's
log_at : (texts : List (List ℕ)) (logs : List Log) (i : ℕ) (text : List ℕ) → AreLogTexts texts logs
    → slice_get texts i ≡ Some text → (log : Log) × IsLogText text log
log_at [] logs i text a e = absurd cc
log_at (t ∷ ts) [] i text a e = absurd a
log_at (t ∷ ts) (l ∷ ls) zero text a e = (l, subst (λ x. IsLogText x l) (same_Some t text e) a.0)
log_at (t ∷ ts) (l ∷ ls) (suc i) text a e = log_at ts ls i text a.1 e

-- the texts of logs have no fault
pub logs_or_fault : (texts : List (List ℕ)) (logs : List Log) (i : ℕ) (f : LogFault) → AreLogTexts texts logs
    → IsFirstTextFault texts i f → ⊥
logs_or_fault texts logs i f a h = (let l = log_at texts logs i h.text a h.at in log_or_fault h.text l.0 f l.1 h.fault)

no_earlier : (texts : List (List ℕ)) (i j : ℕ) (f g : LogFault) → IsFirstTextFault texts i f
    → IsFirstTextFault texts j g → i < j → ⊥
no_earlier texts i j f g h k lt =
    let l = log_at (take j texts) k.before i h.text k.before_are (taken texts i j lt ∙ h.at) in
    log_or_fault h.text l.0 f l.1 h.fault

-- texts have one first fault
pub one_first : (texts : List (List ℕ)) (i j : ℕ) (f g : LogFault) → IsFirstTextFault texts i f
    → IsFirstTextFault texts j g → (i ≡ j) × (f ≡ g)
one_first texts i j f g h k =
    let here : i ≡ j = omega (arith, no_earlier texts i j f g h k, no_earlier texts j i g f k h) in
    let text : h.text ≡ k.text = same_Some _ _ (sym h.at ∙ ap (slice_get texts) here ∙ k.at) in
    (here, one_fault k.text f g (subst (λ x. LogTextFault x f) text h.fault) k.fault)

-- a member of a list is a member of a longer one
member : {X : Type 0} (xs ys : List X) (i : ℕ) (x : X) → slice_get xs i ≡ Some x → slice_get (xs ++ ys) i ≡ Some x
member [] ys i x e = absurd cc
member (y ∷ xs) ys zero x e = e
member (y ∷ xs) ys (suc i) x e = member xs ys i x e

-- one text more, and its log
pub one_more : (texts : List (List ℕ)) (logs : List Log) (text : List ℕ) (log : Log) → AreLogTexts texts logs
    → IsLogText text log → AreLogTexts (texts ++ text ∷ []) (logs ++ log ∷ [])
one_more [] [] text log a is = (is, tt)
one_more [] (l ∷ ls) text log a is = absurd a
one_more (t ∷ ts) [] text log a is = absurd a
one_more (t ∷ ts) (l ∷ ls) text log a is = (a.0, one_more ts ls text log a.1 is)

-- the text after those of some logs
next_at : (texts : List (List ℕ)) (logs : List Log) (text : List ℕ) → AreLogTexts texts logs
    → slice_get (texts ++ text ∷ []) (length logs) ≡ Some text
next_at [] [] text a = refl
next_at [] (l ∷ ls) text a = absurd a
next_at (t ∷ ts) [] text a = absurd a
next_at (t ∷ ts) (l ∷ ls) text a = next_at ts ls text a.1

before_next : (texts : List (List ℕ)) (logs : List Log) (text : List ℕ) → AreLogTexts texts logs
    → AreLogTexts (take (length logs) (texts ++ text ∷ [])) logs
before_next [] [] text a = tt
before_next [] (l ∷ ls) text a = absurd a
before_next (t ∷ ts) [] text a = absurd a
before_next (t ∷ ts) (l ∷ ls) text a = (a.0, before_next ts ls text a.1)

-- the text that a place of the list of borrowed texts lends
pub lent : (texts : List (Bor (List ℕ))) (i : ℕ) (d : Bor (List ℕ)) → i < length texts
    → slice_get (map (λ t. t.now) texts) i ≡ Some (slice_index_or texts i d).now
lent [] i d lt = absurd (omega (arith, lt))
lent (t ∷ ts) zero d lt = refl
lent (t ∷ ts) (suc i) d lt = lent ts i d (omega (arith, lt))

-- ---- what is kept of texts that are taken one by one

-- one text more, which is a log's
pub keeps_log : (texts : List (List ℕ)) (logs : List Log) (fault : Option LogFault) (text : List ℕ) (log : Log)
    → false ≡ is_some fault → AreKept texts logs fault → IsLogText text log
    → AreKept (texts ++ text ∷ []) (logs ++ log ∷ []) fault
keeps_log texts logs None text log none kept is = one_more texts logs text log kept is
keeps_log texts logs (Some f) text log none kept is = absurd cc

-- one text more, which is none
pub keeps_fault : (texts : List (List ℕ)) (logs : List Log) (fault : Option LogFault) (text : List ℕ) (f : LogFault)
    → false ≡ is_some fault → AreKept texts logs fault → LogTextFault text f
    → AreKept (texts ++ text ∷ []) logs (Some f)
keeps_fault texts logs None text f none kept h =
    (before_next texts logs text kept, (text, next_at texts logs text kept, h))
keeps_fault texts logs (Some g) text f none kept h = absurd cc

-- more texts, after one that is no log's
pub keeps_first : (texts more : List (List ℕ)) (logs : List Log) (fault : Option LogFault) → true ≡ is_some fault
    → AreKept texts logs fault → AreKept (texts ++ more) logs fault
keeps_first texts more logs None some kept = absurd cc
keeps_first texts more logs (Some f) some kept =
    let there = slice_get_within texts (length logs) kept.1.0 kept.1.1 in (
      subst (λ front. AreLogTexts front logs) (sym (take-append-le (length logs) texts more (omega (arith, there))))
          kept.0,
      (kept.1.0, member texts more (length logs) kept.1.0 kept.1.1, kept.1.2),
    )

-- more texts, after those of logs
keeps_both : (texts more : List (List ℕ)) (logs others : List Log) (fault : Option LogFault) → AreLogTexts texts logs
    → AreKept more others fault → AreKept (texts ++ more) (logs ++ others) fault
keeps_both [] more [] others fault kept next = next
keeps_both [] more (l ∷ ls) others fault kept next = absurd kept
keeps_both (t ∷ ts) more [] others fault kept next = absurd kept
keeps_both (t ∷ ts) more (l ∷ ls) others None kept next = (kept.0, keeps_both ts more ls others None kept.1 next)
keeps_both (t ∷ ts) more (l ∷ ls) others (Some f) kept next =
    let rest = keeps_both ts more ls others (Some f) kept.1 next in ((kept.0, rest.0), rest.1)

pub keeps_all : (texts more : List (List ℕ)) (logs others : List Log) (fault next : Option LogFault)
    → false ≡ is_some fault → AreKept texts logs fault → AreKept more others next
    → AreKept (texts ++ more) (logs ++ others) next
keeps_all texts more logs others None next none kept both = keeps_both texts more logs others next kept both
keeps_all texts more logs others (Some f) next none kept both = absurd cc

-- the text after those of the logs is the first that is no log's
pub first_fault : (texts : List (List ℕ)) (logs : List Log) (f : LogFault) → AreKept texts logs (Some f)
    → IsFirstTextFault texts (length logs) f
first_fault texts logs f kept = record {
  before = logs;
  before_are = kept.0;
  text = kept.1.0;
  at = kept.1.1;
  fault = kept.1.2;
}

-- the members up to the next one, and that
pub next_taken : {X : Type 0} (xs : List X) (i : ℕ) (x : X) → slice_get xs i ≡ Some x
    → take i xs ++ x ∷ [] ≡ take (i + 1) xs
next_taken xs i x at =
    let here = get_or_from_slice_get xs i x x at in
    sym (take_more xs i x (slice_get_within xs i x at) ∙ ap (λ y. take i xs ++ y ∷ []) here)

-- all of the borrowed texts
pub all_taken : (texts : List (Bor (List ℕ))) (i : ℕ) → length texts ≤ i
    → take i (map (λ t. t.now) texts) ≡ map (λ t. t.now) texts
all_taken texts i most = take_all i (map (λ t. t.now) texts)
    (omega (arith, most, length-map texts (λ (t : Bor (List ℕ)). t.now)))
