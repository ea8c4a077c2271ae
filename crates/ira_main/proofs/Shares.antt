-- Files that are read in shares: of each share some were read, and the logs are put together in their order, once the
-- others of the share were read too.
use Rattle.std.proofs.Common.{◌≡◌, ◌∙◌, ℕ, zero, suc, ◌+◌, ◌*◌, ◌<◌, ◌≤◌, Bool, List, [], ◌∷◌, ◌++◌, IfOk, None, Result, ap}
use Rattle.std.proofs.Common.{append-nil, append_assoc, arith, drop, get_or, length, refl, subst, sym, take}
use Rattle.std.proofs.Math.Nat.{suc-mul}
use Rattle.std.proofs.lemmas.List.{drop-drop, length-drop, take-append-drop}
use Rattle.ira_main_files.specs.Shelf.{Reading}
use Rattle.ira_main.proofs.FilesRead.{reads_more, stops_back, stops_front}
use Rattle.ira_main.specs.FilesRead.{HasFound, HasRead, HasTakenFiles, Stops}
use Rattle.ira_main.specs.declared.file_fault.FileFault.{FileFault}
use Rattle.ira_main.specs.declared.read_files.FilesShare.{FilesShare}
use Rattle.ira_main.specs.declared.read_files.FoundLogs.{FoundLogs}

-- of the share of these names some files were read
abbrev pub IsShare : {S A E : Type 0} → Reading S → S → Bool → List (List ℕ) → Result (FilesShare A) E → Type 0
IsShare reads shelf keep names share = IfOk share (λ share. HasRead reads shelf keep names share.read share.logs)

-- what stands after a chunk is what stands after as many names as it has
rest : (size : ℕ) (names : List (List ℕ)) → drop (length (take size names)) names ≡ drop size names
rest zero names = refl
rest (suc size) [] = refl
rest (suc size) (n ∷ ns) = rest size ns

pub after_chunk : (size k : ℕ) (names : List (List ℕ))
    → drop (k + length (take size (drop k names))) names ≡ drop size (drop k names)
after_chunk size k names = sym (drop-drop (length (take size (drop k names))) k names) ∙ rest size (drop k names)

taken_within : (size : ℕ) (names : List (List ℕ)) → length (take size names) ≤ length names
taken_within zero names = omega arith
taken_within (suc size) [] = omega arith
taken_within (suc size) (n ∷ ns) = let on = taken_within size ns in omega (arith, on)

pub chunk_within : (size k : ℕ) (names : List (List ℕ)) → k ≤ length names
    → k + length (take size (drop k names)) ≤ length names
chunk_within size k names within =
    let few = taken_within size (drop k names) in
    let left = length-drop k names in
    omega (arith, few, left, within)

-- these came of chunks of the names, in their order
abbrev pub AreShares : {R : Type 0} → (List (List ℕ) → R → Type 0) → ℕ → List (List ℕ) → List R → Type 0
AreShares Came size names [] = names ≡ []
AreShares Came size names (share ∷ shares) = Came (take size names) share
    × AreShares Came size (drop size names) shares

pub chunk_shares : {R : Type 0} (Came : List (List ℕ) → R → Type 0) (size : ℕ) (names : List (List ℕ))
    (shares : List R) → length names ≤ length shares * size
    → ((n : ℕ) (d : R) → n < length shares → Came (take size (drop (n * size) names)) (get_or shares n d))
    → AreShares Came size names shares
chunk_shares Came size [] [] few each = refl
chunk_shares Came size (n ∷ ns) [] few each = absurd (omega (arith, few))
chunk_shares Came size names (share ∷ shares) few each =
    let none : 0 * size ≡ 0 = omega arith in
    let first = subst (λ k. Came (take size (drop k names)) share) none (each 0 share (omega arith)) in
    let fewer : length (drop size names) ≤ length shares * size =
    omega (arith, few, suc-mul (length shares) size, length-drop size names) in (
      first,
      chunk_shares Came size (drop size names) shares fewer (λ n d lt.
          let at : suc n * size ≡ size + n * size = omega (arith, suc-mul n size) in
          let rest = ap (λ k. drop k names) at ∙ sym (drop-drop (n * size) size names) in
          subst (λ ns. Came (take size ns) (get_or shares n d)) rest (each (suc n) d (omega (arith, lt)))),
    )

-- the files of all names but those left were read and their texts taken; the others' shares are left
pub record IsGathering {A S R : Type 0} (reads : Reading S) (keep : Bool) (Came : List (List ℕ) → R → Type 0) (size : ℕ)
    (names left : List (List ℕ)) (shelf : S) (logs : FoundLogs A) (shares : List R) : Type 0 where
  pub done : List (List ℕ)
  pub parts : done ++ left ≡ names
  pub taken : HasTakenFiles reads shelf keep done logs
  pub others : AreShares Came size left shares

module _ {A S R : Type 0} (reads : Reading S) (keep : Bool) (Came : List (List ℕ) → R → Type 0) (size : ℕ)
    (names : List (List ℕ)) (shelf : S) where
  pub gathering_none : (logs : FoundLogs A) (shares : List R) → HasFound keep logs [] → AreShares Came size names shares
      → IsGathering reads keep Came size names names shelf logs shares
  gathering_none logs shares none are = record { done = []; parts = refl; taken = ([], none, tt); others = are }

  module _ (left : List (List ℕ)) (old : FoundLogs A) (share : R) (shares others : List R)
      (h : IsGathering reads keep Came size names left shelf old shares) (first : shares ≡ share ∷ others) where
    -- what the next share is of
    pub next_came : Came (take size left) share
    next_came = (subst (AreShares Came size left) first h.others).0

    both : h.done ++ (take size left ++ drop size left) ≡ names
    both = ap (λ (ns : List (List ℕ)). h.done ++ ns) (take-append-drop size left) ∙ h.parts

    -- one share more
    pub gathering_next : (next new : FoundLogs A) → HasTakenFiles reads shelf keep (take size left) next
        → ((keep : Bool) (before texts : List (List ℕ)) → HasFound keep old before → HasFound keep next texts
        → HasFound keep new (before ++ texts))
        → IsGathering reads keep Came size names (drop size left) shelf new others
    gathering_next next new taken appends = record {
      done = h.done ++ take size left;
      parts = append_assoc h.done (take size left) (drop size left) ∙ both;
      taken = (
        h.taken.0 ++ taken.0,
        appends keep h.taken.0 taken.0 h.taken.1 taken.1,
        reads_more reads shelf h.done h.taken.0 (take size left) taken.0 None h.taken.2 taken.2,
      );
      others = (subst (AreShares Came size left) first h.others).1;
    }

    -- a share that is at fault
    pub gathering_fault : (fault : FileFault A) → Stops reads shelf (take size left) fault → Stops reads shelf names fault
    gathering_fault fault stop =
        subst (λ (ns : List (List ℕ)). Stops reads shelf ns fault) both
        (stops_back reads shelf fault h.done h.taken.0 (take size left ++ drop size left) h.taken.2
        (stops_front reads shelf fault (take size left) (drop size left) stop))

  -- all shares
  pub gathered : (left : List (List ℕ)) (logs : FoundLogs A) (shares : List R)
      → IsGathering reads keep Came size names left shelf logs shares → length shares ≡ 0
      → HasTakenFiles reads shelf keep names logs
  gathered left logs [] h none =
      subst (λ (ns : List (List ℕ)). HasTakenFiles reads shelf keep ns logs) (sym (append-nil h.done)
      ∙ ap (λ (ns : List (List ℕ)). h.done ++ ns) (sym h.others) ∙ h.parts) h.taken
  gathered left logs (share ∷ shares) h none = absurd (omega (arith, none))
