-- Where a value is put among members.
use Rattle.std.proofs.Common.{◌≡◌, ◌∙◌, ◌+◌, ◌<◌, ◌≤◌, ◌++◌, ◌∷◌, [], ℕ, Bor, Equal, Greater, Less, List, ap, drop}
use Rattle.std.proofs.Common.{get_or, length, refl, set, sym, take}
use Rattle.std.proofs.lemmas.List.{drop-set, drop_all, take-append-drop, take-set, take_all, take_more}
use Rattle.ira_event.proofs.Rest.{drop-at}
use Rattle.std.specs.Ordering.{nat_cmp}
use Rattle.std.specs.Cmp.Lexicographic.{slice_cmp}
use Rattle.json.specs.Json.{Members, member}
use Rattle.ira_view_json.specs.Members.{put}
use Rattle.ira_view_json.specs.View.{members_view, view}
use Rattle.ira_view_json.specs.declared.value.Value.{Value}

abbrev pub Entries : Type 0 → Type 0
Entries A = List (Bor (List ℕ) × Value A)

-- members, after those of entries
abbrev pub onto : {A : Type 0} → Entries A → Members → Members
onto [] ms = ms
onto (e ∷ es) ms = member e.0.now (view e.1) (onto es ms)

pub onto_view : {A : Type 0} (es fs : Entries A) → onto es (members_view fs) ≡ members_view (es ++ fs)
onto_view [] fs = refl
onto_view (e ∷ es) fs = ap (member e.0.now (view e.1)) (onto_view es fs)

pub onto_more : {A : Type 0} (es : Entries A) (e : Bor (List ℕ) × Value A) (ms : Members)
    → onto (es ++ e ∷ []) ms ≡ onto es (member e.0.now (view e.1) ms)
onto_more [] e ms = refl
onto_more (f ∷ es) e ms = ap (member f.0.now (view f.1)) (onto_more es e ms)

-- Of these entries the one at this place is e.
module _ {A : Type 0} (key : Bor (List ℕ)) (value : Value A) (es : Entries A) (at : ℕ) (e : Bor (List ℕ) × Value A)
    (there : at < length es) (is : e ≡ get_or es at e) where
  begins : drop at es ≡ e ∷ drop (at + 1) es
  begins = drop-at es at e e there is

  -- a value that belongs in front of it
  pub put_before : slice_cmp nat_cmp key.now e.0.now ≡ Less
      → onto (take at es) (put key.now (view value) (members_view (drop at es)))
      ≡ members_view (take at es ++ (key, value) ∷ drop at es)
  put_before less = rw begins (rw less (onto_view (take at es) ((key, value) ∷ e ∷ drop (at + 1) es)))

  -- in its place
  pub put_there : slice_cmp nat_cmp key.now e.0.now ≡ Equal
      → onto (take at es) (put key.now (view value) (members_view (drop at es)))
      ≡ members_view (set es at (e.0, value))
  put_there equal =
      let parts : take at es ++ (e.0, value) ∷ drop (at + 1) es ≡ set es at (e.0, value) =
      ap (λ xs. xs ++ (e.0, value) ∷ drop (at + 1) es) (sym (take-set es at (e.0, value)))
      ∙ ap (λ xs. take at (set es at (e.0, value)) ++ xs) (sym (drop-set es at (e.0, value) there))
      ∙ take-append-drop at (set es at (e.0, value)) in
      rw begins (rw equal (onto_view (take at es) ((e.0, value) ∷ drop (at + 1) es))) ∙ ap members_view parts

  -- further back
  pub put_after : slice_cmp nat_cmp key.now e.0.now ≡ Greater
      → onto (take (at + 1) es) (put key.now (view value) (members_view (drop (at + 1) es)))
      ≡ onto (take at es) (put key.now (view value) (members_view (drop at es)))
  put_after greater =
      let rest = put key.now (view value) (members_view (drop (at + 1) es)) in
      ap (λ xs. onto xs rest) (take_more es at e there ∙ ap (λ x. take at es ++ x ∷ []) (sym is))
      ∙ onto_more (take at es) e rest ∙ rw begins (rw greater refl)

-- after all of them
pub put_last : {A : Type 0} (key : Bor (List ℕ)) (value : Value A) (es : Entries A) (at : ℕ) → length es ≤ at
    → onto (take at es) (put key.now (view value) (members_view (drop at es)))
    ≡ members_view (es ++ (key, value) ∷ [])
put_last key value es at all =
    rw (take_all at es all) (rw (drop_all at es all) (onto_view es ((key, value) ∷ [])))
