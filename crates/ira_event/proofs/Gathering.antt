-- Logs have at most one head fault, found log by log.
use Rattle.std.proofs.Common.{◌≡◌, ◌↔◌, ℕ, ◌+◌, ◌<◌, List, [], ◌∷◌, length, Some, Result, Ok, Err, slice_get, refl, sym}
use Rattle.std.proofs.Common.{◌∙◌, ap, subst, arith}
use Rattle.ira_event.specs.declared.head_fault.HeadFault.{HeadFault}
use Rattle.ira_event.specs.Log.{Log, IsLog}
use Rattle.ira_event.specs.Logs.{EachLog, AreLogs, HasNumber, HasVersion, IsFirstOther, HeadFaultOf, wrong_number}
use Rattle.ira_event.specs.Logs.{wrong_size, wrong_place, wrong_version}
use Rattle.ira_event.specs.RingSize.{IsRingSize}
use borrow.Author.Count.{below_more}

-- a fact of the logs below i, and of log i, is one of the logs below i + 1
pub below-more : (logs : List Log) (P : ℕ → Log → Type 0) (i : ℕ) (log : Log) → slice_get logs i ≡ Some log → P i log
    → ((j : ℕ) (before : Log) → j < i → slice_get logs j ≡ Some before → P j before) → (j : ℕ) (before : Log)
    → j < i + 1 → slice_get logs j ≡ Some before → P j before
below-more logs P i log at here below j before under is =
    below_more (λ k. (b : Log) → slice_get logs k ≡ Some b
    → P k b) i (λ k lt b e. below k b lt e) (λ b e. let same : log ≡ b = cc in
    subst (λ (x : Log). P i x) same here) j under before is

-- the first log of which a fact doesn't hold is one log
pub first-one : (logs : List Log) (P : ℕ → Log → Type 0) (i j : ℕ) → IsFirstOther logs P i → IsFirstOther logs P j
    → ¬ (i < j)
first-one logs P i j a b lt = a.other (b.least i a.log lt a.at)

pub first-same : (logs : List Log) (P : ℕ → Log → Type 0) (i j : ℕ) → IsFirstOther logs P i → IsFirstOther logs P j
    → i ≡ j
first-same logs P i j a b = omega (arith, first-one logs P i j a b, first-one logs P j i b a)

-- as many logs as log 0 names is one number
pub number-same : (logs : List Log) (m n : ℕ) → HasNumber logs m → HasNumber logs n → m ≡ n
number-same logs m n a b = sym a.number ∙ b.number

-- the logs of a ring are as many as log 0 names
pub AreLogs-number : (logs : List Log) → AreLogs logs → HasNumber logs (length logs)
AreLogs-number [] a = absurd (omega (arith, a.ring.0))
AreLogs-number (log ∷ logs) a = record { first = log; is_first = refl; names = a.sizes 0 log refl; number = refl }

-- the version of log 0 is one number
pub version-same : (logs : List Log) (m n : ℕ) → HasVersion logs m → HasVersion logs n → m ≡ n
version-same logs m n a b = let p = a.is_first in let q = b.is_first in let same : a.first ≡ b.first = cc in
    sym a.names ∙ ap (λ (x : Log). x.version) same ∙ b.names

-- gathered logs have no fault
pub no-fault : (logs : List Log) (f : HeadFault) → AreLogs logs → ¬ (HeadFaultOf logs f)
no-fault logs f a (wrong_number none e) = none _ (AreLogs-number logs a)
no-fault logs f a (wrong_size n i h o e) = o.other (a.sizes i o.log o.at ∙ h.number)
no-fault logs f a (wrong_place n i h all o e) = o.other (a.places i o.log o.at)
no-fault logs f a (wrong_version n v i h all places first o e) =
    o.other (a.versions i o.log o.at ∙ sym (a.versions 0 first.first first.is_first) ∙ first.names)

-- a list of logs has one fault at most
pub one-fault : (logs : List Log) (f g : HeadFault) → HeadFaultOf logs f → HeadFaultOf logs g → f ≡ g
one-fault logs f g (wrong_number a e) (wrong_number b d) = cc
one-fault logs f g (wrong_number a e) (wrong_size n j h o d) = absurd (a n h)
one-fault logs f g (wrong_number a e) (wrong_place n j h all o d) = absurd (a n h)
one-fault logs f g (wrong_size m i k p e) (wrong_number b d) = absurd (b m k)
one-fault logs f g (wrong_size m i k p e) (wrong_size n j h o d) =
    let same = first-same logs (λ _ log. log.nodes ≡ m) i j p
    (subst (λ (x : ℕ). IsFirstOther logs (λ _ log. log.nodes ≡ x) j) (number-same logs n m h k) o) in
    cc
one-fault logs f g (wrong_size m i k p e) (wrong_place n j h all o d) =
    absurd (p.other (all i p.log p.at ∙ number-same logs n m h k))
one-fault logs f g (wrong_place m i k each p e) (wrong_number b d) = absurd (b m k)
one-fault logs f g (wrong_place m i k each p e) (wrong_size n j h o d) =
    absurd (o.other (each j o.log o.at ∙ number-same logs m n k h))
one-fault logs f g (wrong_place m i k each p e) (wrong_place n j h all o d) =
    let same = first-same logs (λ q log. log.place ≡ q) i j p o in
    cc
one-fault logs f g (wrong_number a e) (wrong_version n v j h sizes places first o d) = absurd (a n h)
one-fault logs f g (wrong_size m i k p e) (wrong_version n v j h sizes places first o d) =
    absurd (p.other (sizes i p.log p.at ∙ number-same logs n m h k))
one-fault logs f g (wrong_place m i k each p e) (wrong_version n v j h sizes places first o d) =
    absurd (p.other (places i p.log p.at))
one-fault logs f g (wrong_version m w i k sizes places first p e) (wrong_number b d) = absurd (b m k)
one-fault logs f g (wrong_version m w i k sizes places first p e) (wrong_size n j h o d) =
    absurd (o.other (sizes j o.log o.at ∙ number-same logs m n k h))
one-fault logs f g (wrong_version m w i k sizes places first p e) (wrong_place n j h all o d) =
    absurd (o.other (places j o.log o.at))
one-fault logs f g (wrong_version m w i k sizes places first p e) (wrong_version n v j h sizes' places' first' o d) =
    let same = first-same logs (λ _ log. log.version
    ≡ w) i j p (subst (λ (x : ℕ). IsFirstOther logs (λ _ log. log.version ≡ x) j)
    (version-same logs v w first' first) o) in
    cc

-- a call that answers a fault of the logs answers each fault of theirs, and no gathered logs
pub answers-fault : {T : Type 0} (r : Result T HeadFault) (logs : List Log) (f : HeadFault) → r ≡ Err f
    → HeadFaultOf logs f → (g : HeadFault) → (r ≡ Err g) ↔ HeadFaultOf logs g
answers-fault r logs f e h g = (
  λ d. let same : f ≡ g = cc in subst (λ (x : HeadFault). HeadFaultOf logs x) same h,
  λ k. e ∙ ap Err (one-fault logs f g h k),
)

pub answers-no-logs : {T : Type 0} (r : Result T HeadFault) (logs : List Log) (f : HeadFault) → r ≡ Err f
    → HeadFaultOf logs f → (x : T) (gathered : List Log) → (r ≡ Ok x) ↔ ((gathered ≡ logs) × AreLogs gathered)
answers-no-logs r logs f e h x gathered =
    (λ d. cc, λ p. absurd (no-fault logs f (subst (λ (y : List Log). AreLogs y) p.0 p.1) h))

-- what gathering has looked at makes the logs those of one ring
pub logs-built : (logs : List Log) (n version : ℕ) → IsRingSize n → HasNumber logs n
    → EachLog logs (λ _ log. log.nodes ≡ n) → EachLog logs (λ i log. log.place ≡ i) → EachLog logs (λ _ log. IsLog log)
    → EachLog logs (λ _ log. log.version ≡ version) → AreLogs logs
logs-built logs n version ring h sizes places valid versions = record {
  ring = (omega (arith, h.number, ring.0), omega (arith, h.number, ring.1));
  sizes = λ i log at. sizes i log at ∙ sym h.number;
  places = places;
  valid = valid;
  version = version;
  versions = versions;
}
