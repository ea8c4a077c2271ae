-- Walks of a setup: one step more, what each node has done, and what the links hold.
use Rattle.std.proofs.Common.{◌≡◌, ◌≢◌, ℕ, ◌<◌, ◌≤◌, inl, inr, List, [], ◌∷◌, ◌++◌, Option, refl, sym, ◌∙◌, subst, ap}
use Rattle.std.proofs.Common.{append-nil, append_assoc}
use Rattle.std.specs.List.{cons_option}
use Rattle.std.proofs.lemmas.List.Elements.{filter_map-append}
use Rattle.ira_event.specs.declared.event.Event.{Event}
use Rattle.ira_event.specs.declared.event.Event.TheVariants.{Draw, Sent, Got, Yield}
use Rattle.ira_event.specs.declared.load.Load.{Load}
use Rattle.ira_node.specs.declared.node_state.NodeState.{NodeState}
use Rattle.ira_node.specs.NodeStep.{NodeStep}
use Rattle.ira_replay.specs.LocalRun.{LeadsTo}
use Rattle.ira_order.specs.Ring.{prev}
use Rattle.ira_order.specs.Run.{Configuration, LinkStep, RingStep, Chains, event_of}
use Rattle.std.proofs.lemmas.Bool.{cases_eq}
use Rattle.ira_order.proofs.Converse.{Balanced, balanced_step}
use Rattle.ira_order.proofs.RunsOfLogs.{event_yes, event_no}
use Rattle.ira_ring_setup.specs.Setup.{Setup}
use Rattle.ira_ring_setup.specs.FullRun.{events_at, CanStep, Walks}

-- ---- one step more

pub walk_more : (s : Setup) (past : List (ℕ × Event)) (c : Configuration) (run : List (ℕ × Event)) (d : Configuration)
    (i : ℕ) (e : Event) (b : Configuration)
    → Walks s past c run d → CanStep s (past ++ run) d i → RingStep s.nodes i e d b
    → Walks s past c (run ++ (i, e) ∷ []) b
walk_more s past c [] d i e b walk can step =
    let P : Configuration → Type 0 = λ x. CanStep s (past ++ []) x i in
    let Q : Configuration → Type 0 = λ x. RingStep s.nodes i e x b in
    let R : List (ℕ × Event) → Type 0 = λ xs. CanStep s xs c i in
    (subst R (append-nil past) (subst P walk can), (b, subst Q walk step, refl))
walk_more s past c (x ∷ run) d i e b walk can step =
    let R : List (ℕ × Event) → Type 0 = λ xs. CanStep s xs d i in
    let here : CanStep s ((past ++ x ∷ []) ++ run) d i = subst R (sym (append_assoc past (x ∷ []) run)) can in
    (walk.0, (walk.1.0, walk.1.1, walk_more s (past ++ x ∷ []) walk.1.0 run d i e b walk.1.2 here step))

-- ---- the events of one node

pub own_more : (past : List (ℕ × Event)) (i j : ℕ) (e : Event) → i ≡ j
    → events_at (past ++ (i, e) ∷ []) j ≡ events_at past j ++ e ∷ []
own_more past i j e same =
    filter_map-append (event_of j) past ((i, e) ∷ [])
    ∙ ap (λ (o : Option Event). events_at past j ++ cons_option o []) (event_yes i j e same)

pub other_more : (past : List (ℕ × Event)) (i j : ℕ) (e : Event) → i ≢ j
    → events_at (past ++ (i, e) ∷ []) j ≡ events_at past j
other_more past i j e ne =
    filter_map-append (event_of j) past ((i, e) ∷ [])
    ∙ ap (λ (o : Option Event). events_at past j ++ cons_option o []) (event_no i j e ne)
    ∙ append-nil (events_at past j)

pub own_first : (x : ℕ × Event) (run : List (ℕ × Event)) (j : ℕ) → x.0 ≡ j
    → events_at (x ∷ run) j ≡ x.1 ∷ events_at run j
own_first x run j same = ap (λ (o : Option Event). cons_option o (events_at run j)) (event_yes x.0 j x.1 same)

pub other_first : (x : ℕ × Event) (run : List (ℕ × Event)) (j : ℕ) → x.0 ≢ j → events_at (x ∷ run) j ≡ events_at run j
other_first x run j ne = ap (λ (o : Option Event). cons_option o (events_at run j)) (event_no x.0 j x.1 ne)

-- ---- where a walk leads

-- the events of a node lead it to its last state
pub walk_leads : (s : Setup) (past : List (ℕ × Event)) (c : Configuration) (run : List (ℕ × Event)) (d : Configuration)
    (i : ℕ) → i < s.nodes → Walks s past c run d
    → LeadsTo s.nodes (c.state i) (events_at run i) (d.state i)
walk_leads s past c [] d i l walk = ap (λ (x : Configuration). x.state i) walk
walk_leads s past c (x ∷ run) d i l walk =
    let b : Configuration = walk.1.0 in
    let rest : LeadsTo s.nodes (walk.1.0.state i) (events_at run i) (d.state i) =
    walk_leads s (past ++ x ∷ []) walk.1.0 run d i l walk.1.2 in
    let Q : List Event → Type 0 = λ es. LeadsTo s.nodes (c.state i) es (d.state i) in
    elim (cases_eq x.0 i) [
      | inl e ↦
          let P : ℕ → Type 0 = λ j. NodeStep s.nodes (c.state j) x.1 (walk.1.0.state j) in
          subst Q (sym (own_first x run i e)) (walk.1.0.state i, subst P e walk.1.1.node, rest)
      | inr ne ↦
          let P : NodeState → Type 0 = λ t. LeadsTo s.nodes t (events_at run i) (d.state i) in
          subst Q (sym (other_first x run i ne)) (subst P (walk.1.1.others i l (λ q. ne (sym q))) rest)
    ]

-- on each link, what was received and what it holds is what was sent
pub walk_balanced : (s : Setup) (past : List (ℕ × Event)) (c : Configuration) (run : List (ℕ × Event))
    (d : Configuration) → 2 ≤ s.nodes → Balanced s.nodes (events_at past) c.link → Walks s past c run d
    → Balanced s.nodes (events_at (past ++ run)) d.link
walk_balanced s past c [] d two balanced walk =
    let P : List (ℕ × Event) → Type 0 = λ xs. Balanced s.nodes (events_at xs) c.link in
    let Q : Configuration → Type 0 = λ x. Balanced s.nodes (events_at (past ++ [])) x.link in
    subst Q (sym walk) (subst P (sym (append-nil past)) balanced)
walk_balanced s past c (x ∷ run) d two balanced walk =
    let P : List (ℕ × Event) → Type 0 = λ xs. Balanced s.nodes (events_at xs) d.link in
    let step : Balanced s.nodes (events_at (past ++ x ∷ [])) (walk.1.0.link) =
    balanced_step s.nodes x.0 (events_at past) (events_at (past ++ x ∷ [])) c.link walk.1.0.link two walk.1.1.place
    (λ j ne. other_more past x.0 j x.1 (λ q. ne (sym q))) balanced x.1 (own_more past x.0 x.0 x.1 refl) walk.1.1.links
    in
    subst P (append_assoc past (x ∷ []) run) (walk_balanced s (past ++ x ∷ []) walk.1.0 run d two step walk.1.2)

-- a walk chains ring steps
pub walk_chains : (s : Setup) (past : List (ℕ × Event)) (c : Configuration) (run : List (ℕ × Event)) (d : Configuration)
    → Walks s past c run d → Chains s.nodes c run
walk_chains s past c [] d walk = tt
walk_chains s past c (x ∷ run) d walk = (walk.1.0, walk.1.1, walk_chains s (past ++ x ∷ []) walk.1.0 run d walk.1.2)

-- ---- the same steps from a configuration that is the same in the ring

pub links_from : (n i : ℕ) (e : Event) (old other new : ℕ → List Load) → i < n → prev n i < n
    → ((j : ℕ) → j < n → other j ≡ old j) → LinkStep n i e old new → LinkStep n i e other new
links_from n i (Draw id) old other new l p same step = λ j lj. step j lj ∙ sym (same j lj)
links_from n i Yield old other new l p same step = λ j lj. step j lj ∙ sym (same j lj)
links_from n i (Sent m) old other new l p same step =
    (step.0 ∙ ap (λ (x : List Load). x ++ m ∷ []) (sym (same i l)), λ j lj ne. step.1 j lj ne ∙ sym (same j lj))
links_from n i (Got m) old other new l p same step =
    (same (prev n i) p ∙ step.0, λ j lj ne. step.1 j lj ne ∙ sym (same j lj))

pub chains_from : (n : ℕ) (c d : Configuration) (run : List (ℕ × Event)) → ((i : ℕ) → i < n → prev n i < n)
    → ((i : ℕ) → i < n → d.state i ≡ c.state i) → ((i : ℕ) → i < n → d.link i ≡ c.link i) → Chains n c run
    → Chains n d run
chains_from n c d [] below states links chain = tt
chains_from n c d (x ∷ run) below states links chain =
    let P : NodeState → Type 0 = λ t. NodeStep n t x.1 (chain.0.state x.0) in (
      chain.0,
      record {
        place = chain.1.place;
        node = subst P (sym (states x.0 chain.1.place)) chain.1.node;
        others = λ j lj ne. chain.1.others j lj ne ∙ sym (states j lj);
        links = links_from n x.0 x.1 c.link d.link chain.0.link chain.1.place (below x.0 chain.1.place) links
            chain.1.links;
      },
      chain.2,
    )
