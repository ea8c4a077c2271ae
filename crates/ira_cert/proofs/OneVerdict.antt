-- A section of a case with different places has one verdict at most.
use Rattle.std.proofs.Common.{◌≡◌, ◌≢◌, ℕ, ◌+◌, ◌<◌, ◌⊎◌, inl, inr, List, length, slice_get, take, refl, sym, ◌∙◌, ap}
use Rattle.std.proofs.Common.{subst, arith}
use Rattle.std.proofs.lemmas.Bool.{cases_order}
use Rattle.std.proofs.lemmas.Option.{same_Some, slice_get_within}
use Rattle.ira_event.specs.Log.{Log}
use Rattle.ira_pred.specs.Case.{Conjunct}
use Rattle.ira_order.specs.Before.{Before}
use Rattle.ira_cert_text.specs.declared.cert_step.CertStep.{CertStep}
use Rattle.ira_cert_text.specs.Certificate.{Section}
use Rattle.ira_cert.specs.declared.unsound.Unsound.{Unsound}
use Rattle.ira_cert.specs.declared.unsound.Unsound.TheVariants.{NotAsked, SameNode, NodeSpent, NotFront, NotBefore}
use Rattle.ira_cert.specs.declared.section_fault.SectionFault.{SectionFault}
use Rattle.ira_cert.specs.declared.section_fault.SectionFault.TheVariants.{Step}
use Rattle.ira_cert.specs.declared.verdict.Verdict.{Verdict}
use Rattle.ira_cert.specs.declared.verdict.Verdict.TheVariants.{Yes, No}
use Rattle.ira_cert.specs.Conjuncts.{IsAsked, HasDifferentPlaces}
use Rattle.ira_cert.specs.Front.{made, IsFront, IsSpent}
use Rattle.ira_cert.specs.SoundSection.{IsSoundStep, AreSoundSteps, IsSoundSection}
use Rattle.ira_cert.specs.SectionFault.{HasFront, WhyUnsound, not_asked, same_node, node_spent, not_front, not_before}
use Rattle.ira_cert.specs.SectionFault.{IsFirstUnsoundStep, IsSectionFault, unsound, not_spent}
use Rattle.ira_cert.specs.Verdict.{IsVerdict}
use Rattle.ira_cert.proofs.OneList.{one_list}
use Rattle.ira_cert.proofs.Prefixes.{sound_below}

module _ (logs : List Log) (case : List Conjunct) (differ : HasDifferentPlaces case) (before : List CertStep) where
  asked_from_front : (i p : ℕ) → IsFront logs case before i p → IsAsked case i
  asked_from_front i p h = (h.1.formula, h.1.asked)

  -- a node has no candidate left, or a first one
  pub front_unspent : (i p : ℕ) → IsFront logs case before i p → ¬ (IsSpent logs case before i)
  front_unspent i p front spent =
      let same : front.0 ≡ spent.0 = one_list logs case i front.0 spent.0 differ front.1 spent.1 in
      let within : made before i < length front.0 = slice_get_within front.0 (made before i) p front.2 in
      let e : length front.0 ≡ length spent.0 = ap (λ (xs : List ℕ). length xs) same in
      omega (arith, spent.2)

  module _ (s : CertStep) where
    -- of each reason: where it holds, no other does
    only_not_asked : (why : Unsound) → ¬ (IsAsked case s.node) ⊎ ¬ (IsAsked case s.other)
        → WhyUnsound logs case before s why → why ≡ NotAsked
    only_not_asked why none (not_asked _ e) = e
    only_not_asked why none (same_node a same e) =
        elim none [ inl isnt ↦ absurd (isnt a) | inr isnt ↦ absurd (isnt (subst (IsAsked case) same a)) ]
    only_not_asked why none (node_spent a b _ _ e) =
        elim none [ inl isnt ↦ absurd (isnt a) | inr isnt ↦ absurd (isnt b) ]
    only_not_asked why none (not_front _ a b _ e) =
        elim none [
          | inl isnt ↦ absurd (isnt (asked_from_front s.node a.0 a.1))
          | inr isnt ↦ absurd (isnt (asked_from_front s.other b.0 b.1))
        ]
    only_not_asked why none (not_before _ a b _ e) =
        elim none [
          | inl isnt ↦ absurd (isnt (asked_from_front s.node s.pos a))
          | inr isnt ↦ absurd (isnt (asked_from_front s.other s.other_pos b))
        ]

    only_same_node : (why : Unsound) → IsAsked case s.node → s.node ≡ s.other → WhyUnsound logs case before s why
        → why ≡ SameNode
    only_same_node why a same (not_asked none e) =
        elim none [ inl isnt ↦ absurd (isnt a) | inr isnt ↦ absurd (isnt (subst (IsAsked case) same a)) ]
    only_same_node why a same (same_node _ _ e) = e
    only_same_node why a same (node_spent _ _ apart _ e) = absurd (apart same)
    only_same_node why a same (not_front apart _ _ _ e) = absurd (apart same)
    only_same_node why a same (not_before apart _ _ _ e) = absurd (apart same)

    only_node_spent : (why : Unsound) → IsAsked case s.node → IsAsked case s.other → s.node ≢ s.other
        → IsSpent logs case before s.node ⊎ IsSpent logs case before s.other → WhyUnsound logs case before s why
        → why ≡ NodeSpent
    only_node_spent why a b apart spent (not_asked none e) =
        elim none [ inl isnt ↦ absurd (isnt a) | inr isnt ↦ absurd (isnt b) ]
    only_node_spent why a b apart spent (same_node _ same e) = absurd (apart same)
    only_node_spent why a b apart spent (node_spent _ _ _ _ e) = e
    only_node_spent why a b apart spent (not_front _ f g _ e) =
        elim spent [
          | inl h ↦ absurd (front_unspent s.node f.0 f.1 h)
          | inr h ↦ absurd (front_unspent s.other g.0 g.1 h)
        ]
    only_node_spent why a b apart spent (not_before _ f g _ e) =
        elim spent [
          | inl h ↦ absurd (front_unspent s.node s.pos f h)
          | inr h ↦ absurd (front_unspent s.other s.other_pos g h)
        ]

    only_not_front : (why : Unsound) → s.node ≢ s.other → HasFront logs case before s.node
        → HasFront logs case before s.other → ¬ (IsFront logs case before s.node s.pos)
        ⊎ ¬ (IsFront logs case before s.other s.other_pos) → WhyUnsound logs case before s why → why ≡ NotFront
    only_not_front why apart a b wrong (not_asked none e) =
        elim none [
          | inl isnt ↦ absurd (isnt (asked_from_front s.node a.0 a.1))
          | inr isnt ↦ absurd (isnt (asked_from_front s.other b.0 b.1))
        ]
    only_not_front why apart a b wrong (same_node _ same e) = absurd (apart same)
    only_not_front why apart a b wrong (node_spent _ _ _ spent e) =
        elim spent [
          | inl h ↦ absurd (front_unspent s.node a.0 a.1 h)
          | inr h ↦ absurd (front_unspent s.other b.0 b.1 h)
        ]
    only_not_front why apart a b wrong (not_front _ _ _ _ e) = e
    only_not_front why apart a b wrong (not_before _ f g _ e) =
        elim wrong [ inl isnt ↦ absurd (isnt f) | inr isnt ↦ absurd (isnt g) ]

    -- of a step with the right queues
    only_not_before : (why : Unsound) → s.node ≢ s.other → IsFront logs case before s.node s.pos
        → IsFront logs case before s.other s.other_pos → WhyUnsound logs case before s why → (why ≡ NotBefore)
        × ¬ (Before logs s.node (s.pos + 1) s.other s.other_pos)
    only_not_before why apart a b (not_asked none e) =
        elim none [
          | inl isnt ↦ absurd (isnt (asked_from_front s.node s.pos a))
          | inr isnt ↦ absurd (isnt (asked_from_front s.other s.other_pos b))
        ]
    only_not_before why apart a b (same_node _ same e) = absurd (apart same)
    only_not_before why apart a b (node_spent _ _ _ spent e) =
        elim spent [
          | inl h ↦ absurd (front_unspent s.node s.pos a h)
          | inr h ↦ absurd (front_unspent s.other s.other_pos b h)
        ]
    only_not_before why apart a b (not_front _ _ _ wrong e) =
        elim wrong [ inl isnt ↦ absurd (isnt a) | inr isnt ↦ absurd (isnt b) ]
    only_not_before why apart a b (not_before _ _ _ not e) = (e, not)

    one_why : (v w : Unsound) → WhyUnsound logs case before s v → WhyUnsound logs case before s w → v ≡ w
    one_why v w (not_asked none e) h = e ∙ sym (only_not_asked w none h)
    one_why v w (same_node a same e) h = e ∙ sym (only_same_node w a same h)
    one_why v w (node_spent a b apart spent e) h = e ∙ sym (only_node_spent w a b apart spent h)
    one_why v w (not_front apart a b wrong e) h = e ∙ sym (only_not_front w apart a b wrong h)
    one_why v w (not_before apart a b not e) h = e ∙ sym (only_not_before w apart a b h).0

    sound_or_not : (why : Unsound) → IsSoundStep logs case before s → ¬ (WhyUnsound logs case before s why)
    sound_or_not why sound h =
        (only_not_before why sound.differ sound.front sound.other_front h).1 sound.happened_before

module _ (logs : List Log) (case : List Conjunct) (differ : HasDifferentPlaces case) where
  -- a step that isn't sound isn't followed by another first one
  first_is_first : (steps : List CertStep) (j k : ℕ) (v w : Unsound) → j < k → IsFirstUnsoundStep logs case steps j v
      → ¬ (IsFirstUnsoundStep logs case steps k w)
  first_is_first steps j k v w l first other =
      sound_or_not logs case differ (take j steps) first.step v
      (sound_below logs case steps k other.before j first.step l first.at) first.reason

  one_first : (steps : List CertStep) (j k : ℕ) (v w : Unsound) → IsFirstUnsoundStep logs case steps j v
      → IsFirstUnsoundStep logs case steps k w → Step j v ≡ Step k w
  one_first steps j k v w first other = elim (cases_order j k) [
    | inl same ↦
        let step : first.step ≡ other.step =
        same_Some first.step other.step (sym first.at ∙ ap (λ (n : ℕ). slice_get steps n) same ∙ other.at) in
        let there : WhyUnsound logs case (take k steps) other.step v =
        subst (λ (n : ℕ). WhyUnsound logs case (take n steps) other.step v) same
        (subst (λ (u : CertStep). WhyUnsound logs case (take j steps) u v) step first.reason) in
        let reason : v ≡ w = one_why logs case differ (take k steps) other.step v w there other.reason in
        ap (λ (n : ℕ). Step n v) same ∙ ap (λ (u : Unsound). Step k u) reason
    | inr apart ↦ elim apart [
      | inl l ↦ absurd (first_is_first steps j k v w l first other)
      | inr l ↦ absurd (first_is_first steps k j w v l other first)
    ]
  ]

  -- where all steps are sound, none is the first that isn't
  none_first : (steps : List CertStep) (k : ℕ) (why : Unsound) → AreSoundSteps logs case steps
      → ¬ (IsFirstUnsoundStep logs case steps k why)
  none_first steps k why sound first =
      sound_or_not logs case differ (take k steps) first.step why (sound k first.step first.at) first.reason

  one_fault : (section : Section) (f g : SectionFault) → IsSectionFault logs case section f
      → IsSectionFault logs case section g → f ≡ g
  one_fault section f g (unsound j v first e) (unsound k w other e') =
      e ∙ one_first section.steps j k v w first other ∙ sym e'
  one_fault section f g (unsound k why first _) (not_spent all _ _) = absurd (none_first section.steps k why all first)
  one_fault section f g (not_spent all _ _) (unsound k why first _) = absurd (none_first section.steps k why all first)
  one_fault section f g (not_spent _ _ e) (not_spent _ _ e') = e ∙ sym e'

  sound_has_no_fault : (section : Section) (f : SectionFault) → IsSoundSection logs case section
      → ¬ (IsSectionFault logs case section f)
  sound_has_no_fault section f sound (unsound k why first e) = none_first section.steps k why sound.steps first
  sound_has_no_fault section f sound (not_spent _ isnt e) = isnt sound.spent

  pub one_verdict : (section : Section) (a b : Verdict) → IsVerdict logs case section a → IsVerdict logs case section b
      → a ≡ b
  one_verdict section Yes Yes h k = refl
  one_verdict section Yes (No g) h k = absurd (sound_has_no_fault section g h k)
  one_verdict section (No f) Yes h k = absurd (sound_has_no_fault section f k h)
  one_verdict section (No f) (No g) h k = ap (λ (x : SectionFault). No x) (one_fault section f g h k)
