-- Lists of values, and the lines of cases.
use Rattle.std.proofs.Common.{◌≡◌, ◌∙◌, ℕ, ◌+◌, ◌<◌, ◌≤◌, false, List, [], ◌∷◌, ◌++◌, Vec, ap, get_or, length, map}
use Rattle.std.proofs.Common.{refl, sym, take}
use Rattle.std.specs.Prelude.{◌==◌, codes, Some, slice_get}
use Rattle.std.specs.Option.{option_map}
use Rattle.std.proofs.lemmas.Option.{same_Some, slice_get-get_or}
use Rattle.std.proofs.lemmas.List.{map-append, take_all, take_more}
use Rattle.json.specs.Json.{Json, Members, array}
use Rattle.json.specs.Value.{items_of}
use Rattle.ira_view_json.specs.Members.{put}
use Rattle.ira_view_json.specs.View.{view}
use Rattle.ira_view_json.specs.declared.value.Value.{Array, Value}
use Rattle.ira_pred.specs.Case.{Conjunct}
use Rattle.ira_pred.specs.Formula.{Formula}
use Rattle.ira_view_page.specs.declared.evidence.Evidence.{Evidence}
use Rattle.ira_view_json.specs.EvidenceValue.{evidence_value}
use Rattle.ira_view_json.specs.ExplainedValue.{with_evidence}
use Rattle.ira_view_json.proofs.Views.{view-Array}

-- a value more for an element more
pub list_more : {X A : Type 0} (f : X → Json) (values : List (Value A)) (v : Value A) (xs : List X) (i : ℕ) (x : X)
    → i < length xs → x ≡ get_or xs i x → map view values ≡ map f (take i xs) → view v ≡ f x
    → map view (values ++ v ∷ []) ≡ map f (take (i + 1) xs)
list_more f values v xs i x there at same is =
    map-append view values (v ∷ []) ∙ ap (λ ys. ys ++ view v ∷ []) same
    ∙ ap (λ y. map f (take i xs) ++ y ∷ []) (is ∙ ap f at)
    ∙ sym (map-append f (take i xs) (get_or xs i x ∷ [])) ∙ ap (map f) (sym (take_more xs i x there))

-- the list of all of them
pub list_whole : {X A : Type 0} (f : X → Json) (list : Vec (Value A) A) (xs : List X) (i : ℕ) → length xs ≤ i
    → map view list.items ≡ map f (take i xs) → view (Array list) ≡ array (items_of (map f xs))
list_whole f list xs i all same =
    view-Array list ∙ ap (λ values. array (items_of values)) (same ∙ ap (map f) (take_all i xs all))

-- what a case asks of a node, in its parts
pub read_conjunct : (case : List Conjunct) (n place : ℕ) (formula : Formula) → n < length case
    → option_map (λ c. c.place) (slice_get case n) ≡ Some place
    → option_map (λ c. c.formula) (slice_get case n) ≡ Some formula
    → (x : Conjunct) → x ≡ record { place = place; formula = formula } → x ≡ get_or case n x
read_conjunct case n place formula within p f x is =
    let at : slice_get case n ≡ Some (get_or case n x) = slice_get-get_or case n x within in
    let make : ℕ → Formula → Conjunct = λ a b. record { place = a; formula = b } in
    let a : (get_or case n x).place ≡ place = same_Some _ _ (sym (ap (option_map (λ (c : Conjunct). c.place)) at) ∙ p) in
    let b : (get_or case n x).formula ≡ formula =
    same_Some _ _ (sym (ap (option_map (λ (c : Conjunct). c.formula)) at) ∙ f) in
    is ∙ sym (ap (λ m. make m (get_or case n x).formula) a ∙ ap (λ g. make place g) b)

-- what is there is told
pub some_evidence : {A : Type 0} (evidence : List (Evidence A)) (members : Members) → (length evidence == 0) ≡ false
    → put (codes "evidence") (array (items_of (map evidence_value evidence))) members ≡ with_evidence evidence members
some_evidence [] ms none = absurd cc
some_evidence (e ∷ es) ms some = refl
