-- Receipts and sendings, as lists of messages.
use Rattle.std.proofs.Common.{◌≡◌, ◌≢◌, ℕ, zero, suc, ◌+◌, ◌<◌, ◌≤◌, List, [], ◌∷◌, ◌++◌, length, refl, sym, ◌∙◌, ap}
use Rattle.std.proofs.Common.{arith, Some, None, append-nil, append_assoc, length-append, subst}
use Rattle.ira_event.specs.declared.load.Load.{Load}
use Rattle.ira_event.specs.declared.event.Event.{Event}
use Rattle.ira_event.specs.declared.event.Event.TheVariants.{Draw, Sent, Got, Yield}
use Rattle.ira_order.specs.declared.match_fault.MatchFault.TheVariants.{NoSending, Differs}
use Rattle.ira_order.specs.Ring.{numbered}
use Rattle.ira_order.specs.Matching.{sent, got, IsPaired}
use Rattle.ira_order.specs.MatchFault.{HasNoSending, HasOther, IsLinkFault}

-- a member of a beginning is that member of the whole
pub numbered-append : (xs ys : List Load) (k : ℕ) → k ≤ length xs → numbered (xs ++ ys) k ≡ numbered xs k
numbered-append xs ys zero h = refl
numbered-append [] ys (suc k) h = absurd (omega arith)
numbered-append (x ∷ xs) ys (suc zero) h = refl
numbered-append (x ∷ xs) ys (suc (suc k)) h = numbered-append xs ys (suc k) (omega arith)

-- the member after a beginning
pub numbered-after : (xs ys : List Load) (y : Load) → numbered (xs ++ (y ∷ ys)) (suc (length xs)) ≡ Some y
numbered-after [] ys y = refl
numbered-after (x ∷ xs) ys y = numbered-after xs ys y

pub numbered-past : (xs : List Load) (k : ℕ) → length xs < k → numbered xs k ≡ None
numbered-past xs zero h = refl
numbered-past [] (suc k) h = refl
numbered-past (x ∷ xs) (suc zero) h = absurd (omega arith)
numbered-past (x ∷ xs) (suc (suc k)) h = numbered-past xs (suc k) (omega arith)

pub numbered-within : (xs : List Load) (k : ℕ) (m : Load) → numbered xs k ≡ Some m → k ≤ length xs
numbered-within xs zero m h = omega arith
numbered-within [] (suc k) m h = cc
numbered-within (x ∷ xs) (suc zero) m h = omega arith
numbered-within (x ∷ xs) (suc (suc k)) m h = omega (arith, numbered-within xs (suc k) m h)

-- receipts and sendings that begin alike are paired
pub paired_below : (from to : List Event) (begin gots sents : List Load) → got to ≡ begin ++ gots
    → sent from ≡ begin ++ sents → (k : ℕ) → k ≤ length begin → IsPaired from to k
paired_below from to begin gots sents g s k h m p =
    let below : numbered begin k ≡ Some m =
    sym (numbered-append begin gots k h) ∙ sym (ap (λ (x : List Load). numbered x k) g) ∙ p in
    ap (λ (x : List Load). numbered x k) s ∙ numbered-append begin sents k h ∙ below

-- where what was received begins what was sent, each receipt is paired
pub all_begun : (writer reader : List Event) (rest : List Load) → got reader ++ rest ≡ sent writer → (k : ℕ)
    → IsPaired writer reader k
all_begun writer reader rest s k m p =
    paired_below writer reader (got reader) [] rest (sym (append-nil (got reader))) (sym s) k
    (numbered-within (got reader) k m p) m p

pub no_sending : (from to : List Event) (begin gots : List Load) (m : Load) → got to ≡ begin ++ (m ∷ gots)
    → sent from ≡ begin → HasNoSending from to (suc (length begin))
no_sending from to begin gots m g s = (
  m,
  ap (λ (x : List Load). numbered x (suc (length begin))) g ∙ numbered-after begin gots m,
  ap (λ (x : List Load). numbered x (suc (length begin))) s ∙ numbered-past begin (suc (length begin)) (omega arith),
)

pub has_other : (from to : List Event) (begin gots sents : List Load) (m n : Load) → got to ≡ begin ++ (m ∷ gots)
    → sent from ≡ begin ++ (n ∷ sents) → m ≢ n → HasOther from to (suc (length begin))
has_other from to begin gots sents m n g s d = (
  m,
  n,
  ap (λ (x : List Load). numbered x (suc (length begin))) g ∙ numbered-after begin gots m,
  ap (λ (x : List Load). numbered x (suc (length begin))) s ∙ numbered-after begin sents n,
  d,
)

-- the receipts so far have their sendings, and what is left of the two logs begins after them
pub record PairedSoFar (writer reader ahead left : List Event) (k : ℕ) : Type 0 where
  pub messages : List Load
  pub receipts : got reader ≡ messages ++ got left
  pub sendings : sent writer ≡ messages ++ sent ahead
  pub count : k ≡ length messages

pub paired_at_first : (writer reader : List Event) → PairedSoFar writer reader writer reader 0
paired_at_first writer reader = record { messages = []; receipts = refl; sendings = refl; count = refl }

-- an event that is no receipt
pub paired_over : (writer reader ahead left : List Event) (e : Event) (k : ℕ) → ((m : Load) → e ≡ Got m → ⊥)
    → PairedSoFar writer reader ahead (e ∷ left) k → PairedSoFar writer reader ahead left k
paired_over writer reader ahead left (Draw id) k never p =
    record { messages = p.messages; receipts = p.receipts; sendings = p.sendings; count = p.count }
paired_over writer reader ahead left Yield k never p =
    record { messages = p.messages; receipts = p.receipts; sendings = p.sendings; count = p.count }
paired_over writer reader ahead left (Sent m) k never p =
    record { messages = p.messages; receipts = p.receipts; sendings = p.sendings; count = p.count }
paired_over writer reader ahead left (Got m) k never p = absurd (never m refl)

-- a receipt and its sending
pub paired_more : (writer reader ahead ahead' left left' : List Event) (m n : Load) (k : ℕ)
    → PairedSoFar writer reader ahead left k → got left ≡ m ∷ got left' → sent ahead ≡ n ∷ sent ahead' → n ≡ m
    → PairedSoFar writer reader ahead' left' (k + 1)
paired_more writer reader ahead ahead' left left' m n k p taken found same = record {
  messages = p.messages ++ m ∷ [];
  receipts = p.receipts ∙ ap (λ (x : List Load). p.messages ++ x) taken
      ∙ sym (append_assoc p.messages (m ∷ []) (got left'));
  sendings = p.sendings ∙ ap (λ (x : List Load). p.messages ++ x) (found ∙ ap (λ (x : Load). x ∷ sent ahead') same)
      ∙ sym (append_assoc p.messages (m ∷ []) (sent ahead'));
  count = omega (arith, p.count, length-append p.messages (m ∷ []));
}

-- every receipt was looked at
pub paired_all : (writer reader ahead left : List Event) (k : ℕ) → PairedSoFar writer reader ahead left k
    → got left ≡ [] → (h : ℕ) → IsPaired writer reader h
paired_all writer reader ahead left k p none h m is =
    let begun : got reader ≡ p.messages ++ [] = p.receipts ∙ ap (λ (x : List Load). p.messages ++ x) none in
    let all : got reader ≡ p.messages = begun ∙ append-nil p.messages in
    paired_below writer reader p.messages [] (sent ahead) begun p.sendings h
    (rw all at (numbered-within (got reader) h m is)) m is

-- the first fault of a link: no sending
pub missing_at : (link : ℕ) (writer reader ahead left left' : List Event) (m : Load) (k : ℕ)
    → PairedSoFar writer reader ahead left k → got left ≡ m ∷ got left' → sent ahead ≡ []
    → IsLinkFault link writer reader (NoSending link (k + 1))
missing_at link writer reader ahead left left' m k p taken none =
    let r : got reader ≡ p.messages ++ (m ∷ got left') = p.receipts ∙ ap (λ (x : List Load). p.messages ++ x) taken in
    let s : sent writer ≡ p.messages =
    p.sendings ∙ ap (λ (x : List Load). p.messages ++ x) none ∙ append-nil p.messages in
    let number : suc (length p.messages) ≡ k + 1 = omega (arith, p.count) in (
      refl,
      λ h b. paired_below writer reader p.messages _ (sent ahead) p.receipts p.sendings h (omega (arith, p.count)),
      (let P : ℕ → Type 0 = HasNoSending writer reader in
          subst P number (no_sending writer reader p.messages (got left') m r s)),
    )

-- the first fault of a link: another message
pub other_at : (link : ℕ) (writer reader ahead ahead' left left' : List Event) (m n : Load) (k : ℕ)
    → PairedSoFar writer reader ahead left k → got left ≡ m ∷ got left' → sent ahead ≡ n ∷ sent ahead' → n ≢ m
    → IsLinkFault link writer reader (Differs link (k + 1))
other_at link writer reader ahead ahead' left left' m n k p taken found differ =
    let r : got reader ≡ p.messages ++ (m ∷ got left') = p.receipts ∙ ap (λ (x : List Load). p.messages ++ x) taken in
    let s : sent writer ≡ p.messages ++ (n ∷ sent ahead') =
    p.sendings ∙ ap (λ (x : List Load). p.messages ++ x) found in
    let number : suc (length p.messages) ≡ k + 1 = omega (arith, p.count) in (
      refl,
      λ h b. paired_below writer reader p.messages _ (sent ahead) p.receipts p.sendings h (omega (arith, p.count)),
      (let P : ℕ → Type 0 = HasOther writer reader in
          subst P number (has_other writer reader p.messages (got left') (sent ahead') m n r s (λ q. differ (sym q)))),
    )
