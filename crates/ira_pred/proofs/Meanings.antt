-- A formula holds of a state exactly where its test gives true.
use Rattle.std.proofs.Common.{◌≡◌, ◌↔◌, IsTrue, ℕ, Bool, true, false, not, ◌&&◌, ◌||◌, ◌⊎◌, Option, Some, None, refl}
use Rattle.std.proofs.Common.{ap, arith, inl, inr}
use Rattle.std.proofs.lemmas.Bool.Decides.{nat_tests}
use Rattle.ira_event.specs.declared.load.Load.{Load}
use Rattle.ira_node.specs.declared.phase.Phase.{Phase}
use Rattle.ira_node.specs.declared.phase.Phase.TheVariants.{Choosing, Active, Passive, Leader, Yielding}
use Rattle.ira_node.specs.declared.node_state.NodeState.{NodeState}
use Rattle.ira_pred.specs.declared.rel.Rel.{Rel}
use Rattle.ira_pred.specs.declared.rel.Rel.TheVariants.{Less, Equal, Greater}
use Rattle.ira_pred.specs.Clause.{Compares, HasRound, HasId, Holds}
use Rattle.ira_pred.specs.ClauseAnswer.{compare_test, compare_some_test, round_of, id_of, holds_test, is_leader}
use Rattle.ira_pred.specs.ClauseAnswer.{is_active, is_passive, is_choosing, is_yielding, is_owing}
use Rattle.ira_pred.specs.Formula.{Formula, always, leader, active, passive, choosing, yielding, owes, round, id, term}
use Rattle.ira_pred.specs.Formula.{both, either, negated}

pub compare_exactly : (rel : Rel) (x n : ℕ) → IsTrue (compare_test rel x n) ↔ Compares rel x n
compare_exactly Less x n = (λ t. grind (arith, nat_tests), λ h. grind (arith, nat_tests))
compare_exactly Equal x n = (λ t. grind (arith, nat_tests), λ h. grind (arith, nat_tests))
compare_exactly Greater x n = (λ t. grind (arith, nat_tests), λ h. grind (arith, nat_tests))

round_found : (phase : Phase) (r : ℕ) → HasRound phase r → round_of phase ≡ Some r
round_found phase r (inl e) = ap round_of e
round_found phase r (inr (inl h)) = ap round_of h.1
round_found phase r (inr (inr h)) = ap round_of h.1

id_found : (phase : Phase) (i : ℕ) → HasId phase i → id_of phase ≡ Some i
id_found phase i (inl h) = ap id_of h.1
id_found phase i (inr h) = ap id_of h.1

found : (o : Option ℕ) (rel : Rel) (r n : ℕ) → o ≡ Some r → Compares rel r n → IsTrue (compare_some_test o rel n)
found o rel r n is h = rw is ((compare_exactly rel r n).1 h)

-- the round compares so with the number where the function says so
pub round_exactly : (phase : Phase) (rel : Rel) (n : ℕ)
    → IsTrue (compare_some_test (round_of phase) rel n) ↔ ((r : ℕ) × HasRound phase r × Compares rel r n)
round_exactly (Choosing r) rel n =
    (λ t. (r, inl refl, (compare_exactly rel r n).0 t), λ h. found _ rel h.0 n (round_found (Choosing r) h.0 h.1) h.2)
round_exactly (Active r i) rel n = (
  λ t. (r, inr (inl (i, refl)), (compare_exactly rel r n).0 t),
  λ h. found _ rel h.0 n (round_found (Active r i) h.0 h.1) h.2,
)
round_exactly Passive rel n = (λ t. absurd cc, λ h. found _ rel h.0 n (round_found Passive h.0 h.1) h.2)
round_exactly (Leader r i) rel n = (
  λ t. (r, inr (inr (i, refl)), (compare_exactly rel r n).0 t),
  λ h. found _ rel h.0 n (round_found (Leader r i) h.0 h.1) h.2,
)
round_exactly Yielding rel n = (λ t. absurd cc, λ h. found _ rel h.0 n (round_found Yielding h.0 h.1) h.2)

-- the ID compares so with the number where the function says so
pub id_exactly : (phase : Phase) (rel : Rel) (n : ℕ)
    → IsTrue (compare_some_test (id_of phase) rel n) ↔ ((i : ℕ) × HasId phase i × Compares rel i n)
id_exactly (Choosing r) rel n = (λ t. absurd cc, λ h. found _ rel h.0 n (id_found (Choosing r) h.0 h.1) h.2)
id_exactly (Active r i) rel n =
    (λ t. (i, inl (r, refl), (compare_exactly rel i n).0 t), λ h. found _ rel h.0 n (id_found (Active r i) h.0 h.1) h.2)
id_exactly Passive rel n = (λ t. absurd cc, λ h. found _ rel h.0 n (id_found Passive h.0 h.1) h.2)
id_exactly (Leader r i) rel n =
    (λ t. (i, inr (r, refl), (compare_exactly rel i n).0 t), λ h. found _ rel h.0 n (id_found (Leader r i) h.0 h.1) h.2)
id_exactly Yielding rel n = (λ t. absurd cc, λ h. found _ rel h.0 n (id_found Yielding h.0 h.1) h.2)

-- ---- the phase, the debt and the connectives

leads : (phase : Phase) → IsTrue (is_leader phase) ↔ ((r : ℕ) × (i : ℕ) × (phase ≡ Leader r i))
leads (Choosing r) = (λ t. absurd cc, λ h. ap is_leader h.2)
leads (Active r i) = (λ t. absurd cc, λ h. ap is_leader h.2)
leads Passive = (λ t. absurd cc, λ h. ap is_leader h.2)
leads (Leader r i) = (λ t. (r, i, refl), λ h. refl)
leads Yielding = (λ t. absurd cc, λ h. ap is_leader h.2)

takes_part : (phase : Phase) → IsTrue (is_active phase) ↔ ((r : ℕ) × (i : ℕ) × (phase ≡ Active r i))
takes_part (Choosing r) = (λ t. absurd cc, λ h. ap is_active h.2)
takes_part (Active r i) = (λ t. (r, i, refl), λ h. refl)
takes_part Passive = (λ t. absurd cc, λ h. ap is_active h.2)
takes_part (Leader r i) = (λ t. absurd cc, λ h. ap is_active h.2)
takes_part Yielding = (λ t. absurd cc, λ h. ap is_active h.2)

passes : (phase : Phase) → IsTrue (is_passive phase) ↔ (phase ≡ Passive)
passes (Choosing r) = (λ t. absurd cc, λ h. ap is_passive h)
passes (Active r i) = (λ t. absurd cc, λ h. ap is_passive h)
passes Passive = (λ t. refl, λ h. refl)
passes (Leader r i) = (λ t. absurd cc, λ h. ap is_passive h)
passes Yielding = (λ t. absurd cc, λ h. ap is_passive h)

chooses : (phase : Phase) → IsTrue (is_choosing phase) ↔ ((r : ℕ) × (phase ≡ Choosing r))
chooses (Choosing r) = (λ t. (r, refl), λ h. refl)
chooses (Active r i) = (λ t. absurd cc, λ h. ap is_choosing h.1)
chooses Passive = (λ t. absurd cc, λ h. ap is_choosing h.1)
chooses (Leader r i) = (λ t. absurd cc, λ h. ap is_choosing h.1)
chooses Yielding = (λ t. absurd cc, λ h. ap is_choosing h.1)

yielded : (phase : Phase) → IsTrue (is_yielding phase) ↔ (phase ≡ Yielding)
yielded (Choosing r) = (λ t. absurd cc, λ h. ap is_yielding h)
yielded (Active r i) = (λ t. absurd cc, λ h. ap is_yielding h)
yielded Passive = (λ t. absurd cc, λ h. ap is_yielding h)
yielded (Leader r i) = (λ t. absurd cc, λ h. ap is_yielding h)
yielded Yielding = (λ t. refl, λ h. refl)

owing_something : (o : Option Load) → IsTrue (is_owing o) ↔ ((l : Load) × (o ≡ Some l))
owing_something None = (λ t. absurd cc, λ h. ap is_owing h.1)
owing_something (Some m) = (λ t. (m, refl), λ h. refl)

and_exactly : (a b : Bool) (P Q : Type 0) → IsTrue a ↔ P → IsTrue b ↔ Q → IsTrue (a && b) ↔ (P × Q)
and_exactly true b P Q p q = (λ t. (p.0 refl, q.0 t), λ h. q.1 h.1)
and_exactly false b P Q p q = (λ t. absurd cc, λ h. p.1 h.0)

or_exactly : (a b : Bool) (P Q : Type 0) → IsTrue a ↔ P → IsTrue b ↔ Q → IsTrue (a || b) ↔ (P ⊎ Q)
or_exactly true b P Q p q = (λ t. inl (p.0 refl), λ h. refl)
or_exactly false b P Q p q =
    (λ t. inr (q.0 t), elim [ inl h ↦ absurd (let t : false ≡ true = p.1 h in cc) | inr h ↦ q.1 h ])

not_exactly : (a : Bool) (P : Type 0) → IsTrue a ↔ P → IsTrue (not a) ↔ (¬ P)
not_exactly true P p = (λ t. absurd cc, λ h. absurd (h (p.0 refl)))
not_exactly false P p = (λ t h. (let k : false ≡ true = p.1 h in cc), λ h. refl)

pub holds_exactly : (f : Formula) (s : NodeState) → IsTrue (holds_test f s) ↔ Holds f s
holds_exactly always s = (λ t. tt, λ h. refl)
holds_exactly leader s = leads s.phase
holds_exactly active s = takes_part s.phase
holds_exactly passive s = passes s.phase
holds_exactly choosing s = chooses s.phase
holds_exactly yielding s = yielded s.phase
holds_exactly owes s = owing_something s.owed
holds_exactly (round rel n) s = round_exactly s.phase rel n
holds_exactly (id rel n) s = id_exactly s.phase rel n
holds_exactly (term rel n) s = compare_exactly rel s.term n
holds_exactly (both a b) s = and_exactly _ _ _ _ (holds_exactly a s) (holds_exactly b s)
holds_exactly (either a b) s = or_exactly _ _ _ _ (holds_exactly a s) (holds_exactly b s)
holds_exactly (negated a) s = not_exactly _ _ (holds_exactly a s)
