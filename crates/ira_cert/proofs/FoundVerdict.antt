-- Where happened-before is decided, a section of a case that asks each node of the logs for one thing at most
-- has a verdict.
use Rattle.std.proofs.Common.{◌≡◌, ◌≢◌, ℕ, zero, suc, ◌+◌, ◌≤◌, ◌⊎◌, inl, inr, List, [], ◌∷◌, length, take, refl, sym}
use Rattle.std.proofs.Common.{ap, subst, arith}
use Rattle.std.proofs.lemmas.Bool.{cases_eq}
use Rattle.std.proofs.lemmas.List.{take_all}
use Rattle.std.proofs.lemmas.Option.{slice_get_cases}
use Rattle.ira_event.specs.Log.{Log}
use Rattle.ira_pred.specs.Case.{Conjunct}
use Rattle.ira_order.specs.Before.{Before}
use Rattle.ira_order.specs.Circle.{HasOrder}
use Rattle.ira_order.proofs.HasCounts.{before_decided}
use Rattle.ira_cert_text.specs.declared.cert_step.CertStep.{CertStep}
use Rattle.ira_cert_text.specs.Certificate.{Section}
use Rattle.ira_cert.specs.declared.unsound.Unsound.{Unsound}
use Rattle.ira_cert.specs.declared.unsound.Unsound.TheVariants.{NotAsked, SameNode, NodeSpent, NotFront, NotBefore}
use Rattle.ira_cert.specs.declared.section_fault.SectionFault.TheVariants.{Step, NotSpent}
use Rattle.ira_cert.specs.declared.verdict.Verdict.{Verdict}
use Rattle.ira_cert.specs.declared.verdict.Verdict.TheVariants.{Yes, No}
use Rattle.ira_cert.specs.Conjuncts.{IsAsked, HasDifferentPlaces, HasPlacesOf}
use Rattle.ira_cert.specs.Front.{made, IsFront, IsSpent}
use Rattle.ira_cert.specs.SoundSection.{IsSoundStep, AreSoundSteps}
use Rattle.ira_cert.specs.SectionFault.{WhyUnsound, not_asked, same_node, node_spent, not_front, not_before}
use Rattle.ira_cert.specs.SectionFault.{IsFirstUnsoundStep, unsound, not_spent}
use Rattle.ira_cert.specs.Verdict.{IsVerdict}
use Rattle.ira_cert.proofs.QueueHeads.{one_front}
use Rattle.ira_cert.proofs.Made.{step_at}
use Rattle.ira_cert.proofs.OneList.{one_list}
use Rattle.ira_cert.proofs.Prefixes.{sound_more}
use Rattle.ira_cert.proofs.SomeVerdict.{candidates_at, enough}

-- the first conjunct of a longer case is another one, or this one
pub asked_after : (c : Conjunct) (case : List Conjunct) (i : ℕ) → c.place ≢ i → IsAsked (c ∷ case) i → IsAsked case i
asked_after c case i other (f, (zero, within, is)) = absurd (other (ap (λ (x : Conjunct). x.place) is))
asked_after c case i other (f, (suc k, within, is)) = (f, (k, omega (arith, within), is))

pub is_asked : (case : List Conjunct) (i : ℕ) → IsAsked case i ⊎ ¬ (IsAsked case i)
is_asked [] i = inr (λ asked. omega (arith, asked.1.1))
is_asked (c ∷ case) i = elim (cases_eq c.place i) [
  | inl here ↦ inl (c.formula, (0, omega arith, ap (λ (p : ℕ). record { place = p; formula = c.formula }) here))
  | inr other ↦ elim (is_asked case i) [
    | inl h ↦ inl (h.0, (suc h.1.0, omega (arith, h.1.1), h.1.2))
    | inr none ↦ inr (λ asked. none (asked_after c case i other asked))
  ]
]

module _ (logs : List Log) (case : List Conjunct)
    (places : HasPlacesOf logs case)
    (differ : HasDifferentPlaces case)
    (decided : (i a j b : ℕ) → Before logs i a j b ⊎ ¬ (Before logs i a j b)) where
  -- a position is its node's front, or another is
  is_front : (before : List CertStep) (i p q : ℕ) → IsFront logs case before i p → IsFront logs case before i q
      ⊎ ¬ (IsFront logs case before i q)
  is_front before i p q front = elim (cases_eq p q) [
    | inl same ↦ inl (subst (IsFront logs case before i) same front)
    | inr other ↦ inr (λ is. other (one_front logs case before i p q differ front is))
  ]

  -- a step after sound ones is sound, or there is a reason
  judged : (steps : List CertStep) (k : ℕ) (s : CertStep) → k ≤ length steps → AreSoundSteps logs case (take k steps)
      → IsSoundStep logs case (take k steps) s ⊎ ((why : Unsound) × WhyUnsound logs case (take k steps) s why)
  judged steps k s l sound = elim (is_asked case s.node) [
    | inr isnt ↦ inr (NotAsked, not_asked (inl isnt) refl)
    | inl asked ↦ elim (is_asked case s.other) [
      | inr isnt ↦ inr (NotAsked, not_asked (inr isnt) refl)
      | inl other_asked ↦ elim (cases_eq s.node s.other) [
        | inl same ↦ inr (SameNode, same_node asked same refl)
        | inr apart ↦
            let c = enough logs case (candidates_at logs case places) steps k l sound s.node asked in
            let d = enough logs case (candidates_at logs case places) steps k l sound s.other other_asked in
            elim (slice_get_cases c.0 (made (take k steps) s.node)).1 [
              | inr past ↦ inr (
                NodeSpent,
                node_spent asked other_asked apart (inl (c.0, c.1, omega (arith, c.2, past.0))) refl,
              )
              | inl first ↦ elim (slice_get_cases d.0 (made (take k steps) s.other)).1 [
                | inr past ↦ inr (
                  NodeSpent,
                  node_spent asked other_asked apart (inr (d.0, d.1, omega (arith, d.2, past.0))) refl,
                )
                | inl other_first ↦ at_queues steps k s apart first.0 other_first.0 (c.0, c.1, first.2) (
                  d.0,
                  d.1,
                  other_first.2,
                )
              ]
            ]
      ]
    ]
  ]
    where
      at_queues : (steps : List CertStep) (k : ℕ) (s : CertStep) → s.node ≢ s.other → (p q : ℕ)
          → IsFront logs case (take k steps) s.node p → IsFront logs case (take k steps) s.other q
          → IsSoundStep logs case (take k steps) s ⊎ ((why : Unsound) × WhyUnsound logs case (take k steps) s why)
      at_queues steps k s apart p q first other_first = elim (is_front (take k steps) s.node p s.pos first) [
        | inr isnt ↦ inr (NotFront, not_front apart (p, first) (q, other_first) (inl isnt) refl)
        | inl front ↦ elim (is_front (take k steps) s.other q s.other_pos other_first) [
          | inr isnt ↦ inr (NotFront, not_front apart (p, first) (q, other_first) (inr isnt) refl)
          | inl other_front ↦ elim (decided s.node (s.pos + 1) s.other s.other_pos) [
            | inr isnt ↦ inr (NotBefore, not_before apart front other_front isnt refl)
            | inl before ↦ inl (record {
              differ = apart;
              front = front;
              other_front = other_front;
              happened_before = before;
            })
          ]
        ]
      ]

  -- the first steps are sound, or one of them is the first that isn't
  sound_or_not : (steps : List CertStep) (k : ℕ) → k ≤ length steps → AreSoundSteps logs case (take k steps)
      ⊎ ((i : ℕ) × (why : Unsound) × IsFirstUnsoundStep logs case steps i why)
  sound_or_not steps zero l = inl (λ j s at. cc)
  sound_or_not steps (suc k) l = elim (sound_or_not steps k (omega arith)) [
    | inr first ↦ inr first
    | inl sound ↦
        let s = step_at steps k (omega arith) in
        elim (judged steps k s.0 (omega arith) sound) [
          | inl next ↦ inl (subst (λ (n : ℕ). AreSoundSteps logs case (take n steps)) {x = k + 1} {y = suc k}
              (omega arith) (sound_more logs case steps k s.0 s.1 sound next))
          | inr why ↦ inr (k, why.0, record { before = sound; step = s.0; at = s.1; reason = why.1 })
        ]
  ]

  -- a node is spent after sound steps or isn't
  is_spent : (steps : List CertStep) → AreSoundSteps logs case steps → (i : ℕ) → IsSpent logs case steps i
      ⊎ ¬ (IsSpent logs case steps i)
  is_spent steps sound i = elim (is_asked case i) [
    | inr isnt ↦ inr (λ spent. isnt (spent.1.formula, spent.1.asked))
    | inl asked ↦
        let whole : take (length steps) steps ≡ steps = take_all (length steps) steps (omega arith) in
        let c = enough logs case (candidates_at logs case places) steps (length steps) (omega arith)
        (subst (AreSoundSteps logs case) (sym whole) sound) i asked in
        elim (cases_eq (made steps i) (length c.0)) [
          | inl all ↦ inl (c.0, c.1, all)
          | inr other ↦ inr (λ spent.
              other (subst (λ (xs : List ℕ). made steps i
              ≡ length xs) (one_list logs case i spent.0 c.0 differ spent.1 c.1) spent.2))
        ]
  ]

  found_verdict : (section : Section) → (a : Verdict) × IsVerdict logs case section a
  found_verdict section = elim (sound_or_not section.steps (length section.steps) (omega arith)) [
    | inr first ↦ (No (Step first.0 first.1), unsound first.0 first.1 first.2 refl)
    | inl sound ↦
        let whole : take (length section.steps) section.steps ≡ section.steps =
        take_all (length section.steps) section.steps (omega arith) in
        let all : AreSoundSteps logs case section.steps = subst (AreSoundSteps logs case) whole sound in
        elim (is_spent section.steps all section.spent) [
          | inl spent ↦ (Yes, record { steps = all; spent = spent })
          | inr isnt ↦ (No (NotSpent section.spent), not_spent all isnt refl)
        ]
  ]

-- logs that have an order decide it
pub verdict_of_ordered : (logs : List Log) (case : List Conjunct) (section : Section) → HasOrder logs
    → HasDifferentPlaces case → HasPlacesOf logs case → (a : Verdict) × IsVerdict logs case section a
verdict_of_ordered logs case section order differ places =
    found_verdict logs case places differ (before_decided logs order.1 order.2 order.0) section
