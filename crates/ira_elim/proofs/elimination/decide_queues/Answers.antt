use Rattle.std.proofs.Common.{◌≡◌, ℕ, List, [], ◌∷◌, ◌++◌, Option, Some, Contains, length, slice_get, drop, refl, sym}
use Rattle.std.proofs.Common.{◌∙◌, ap, subst, arith, length-append, length-set}
use Rattle.std.proofs.lemmas.List.{take_at}
use Rattle.std.proofs.lemmas.Option.{slice_get_within}
use Rattle.ira_event.specs.Log.{Log}
use Rattle.ira_cert_text.specs.declared.cert_step.CertStep.{CertStep}
use Rattle.ira_cert.proofs.QueueHeads.{all_left, one_fewer}
use Rattle.ira_cert.specs.Queues.{HasList}
use Rattle.ira_elim.specs.Elimination.{AreCounted, ArePlaces, AreStands, AreWithin, HasEliminations, IsElimination}
use Rattle.ira_elim.specs.Elimination.{IsFirstLeft}
use Rattle.ira_elim.specs.LeastCut.{IsLeastCut}
use Rattle.ira_elim.specs.PairSet.{Has}
use Rattle.ira_elim.specs.CandidateClock.{CandidateClock, AreInLogs, AreNearest, AreStanding, HasRuledOut}
use Rattle.ira_elim.specs.CandidateClock.{IsCandidateClock, RulesOut}
use Rattle.ira_elim.proofs.NewEliminations.{all_again, own_first, own_list, still_left}
use Rattle.ira_elim.proofs.Places.{none_left}
use Rattle.ira_elim.proofs.Present.{present}
use Rattle.ira_elim.proofs.Standing.{adds, has_all, has_ruled_out, in_logs, stand_is, standing, stands_again}
use Rattle.ira_elim.proofs.Steps.{absent, none_made, one_fewer-length, made_more, total, total_less}
use Rattle.ira_elim.proofs.Within.{within, places_stay}
use Rattle.ira_elim.proofs.elimination.decide_queues.Goals as goal

pub first_spent-requires : goal.first_spent-requires
first_spent-requires g c =
    let listed = subst (λ (fs : List (Option (List ℕ))). ArePlaces fs c.in_ok-asked.asked.items) c.deref.ensures.value
    c.in_ok-asked.ensures in
    subst (λ (fs : List (Option (List ℕ))). ArePlaces fs c.deref-3.result.now) (sym c.deref-2.ensures.value)
    (subst (ArePlaces c.args.queues.items) (sym c.deref-3.ensures.value) listed)

pub returns-in-Some : goal.returns-in-Some
returns-in-Some g c = λ case differ queues_are.
    let logs = (g.C.HappenedBefore.logs_of c.args.ordered.now) in
    let queues = c.args.queues.items in
    let empty = subst (λ (fs : List (Option (List ℕ))). slice_get fs c.in-Some.spent
    ≡ Some (Some [])) c.deref-2.ensures.value c.in-Some.ensures in (
      [],
      c.requires.none,
      absent logs case queues queues [] c.in-Some.spent queues_are
          (none_made logs case [] queues queues_are refl) (omega arith) empty,
    )

pub nearest_places-requires : goal.nearest_places-requires
nearest_places-requires g c =
    let logs = (g.C.HappenedBefore.logs_of c.args.ordered.now) in
    let some = c.requires.queues in
    let listed = subst (λ (fs : List (Option (List ℕ))). ArePlaces fs c.in_ok-asked.asked.items) c.deref.ensures.value
    c.in_ok-asked.ensures in
    let queues = c.args.queues.items in
    let inside = within logs some.0 [] queues (all_left logs some.0 queues some.2) in
    let left = subst (λ (fs : List (Option (List ℕ))). (i : ℕ) → HasList fs i → (p : ℕ)
    × IsFirstLeft fs i p) c.deref-2.ensures.value c.in_default.ensures in
    let nodes : c.get-nodes.result ≡ length logs =
    c.get-nodes.ensures.value ∙ c.size.ensures.value ∙ ap (λ (ls : List Log). length ls) c.logs.ensures in
    λ i member.
    let first = left i ((listed i).0 (subst (λ (xs : List ℕ). Contains xs i) c.deref-4.ensures.value member)) in
    omega (arith, (inside i first.0 first.1).0, nodes)

pub all_stands-requires-clause-within : goal.all_stands-requires-clause-within
all_stands-requires-clause-within g c =
    let logs = (g.C.HappenedBefore.logs_of c.args.ordered.now) in
    let some = c.requires.queues in
    subst (AreWithin logs) (sym c.deref-5.ensures.value)
    (within logs some.0 [] c.args.queues.items (all_left logs some.0 c.args.queues.items some.2))

pub eliminating_pairs-requires : goal.eliminating_pairs-requires
eliminating_pairs-requires g c =
    let logs = (g.C.HappenedBefore.logs_of c.args.ordered.now) in
    let some = c.requires.queues in
    let listed = subst (λ (fs : List (Option (List ℕ))). ArePlaces fs c.in_ok-asked.asked.items) c.deref.ensures.value
    c.in_ok-asked.ensures in
    let queues = c.args.queues.items in let stands = c.in_ok-stands.stands.items in
    let inside = within logs some.0 [] queues (all_left logs some.0 queues some.2) in
    let left = subst (λ (fs : List (Option (List ℕ))). (i : ℕ) → HasList fs i → (p : ℕ)
    × IsFirstLeft fs i p) c.deref-2.ensures.value c.in_default.ensures in
    let are = subst (λ (fs : List (Option (List ℕ))). AreStands logs fs stands) c.deref-5.ensures.value
    c.in_ok-stands.ensures.stands in
    let nodes : length stands ≡ length logs =
    c.in_ok-stands.ensures.count
    ∙ (c.get-nodes.ensures.value ∙ c.size.ensures.value ∙ ap (λ (ls : List Log). length ls) c.logs.ensures) in
    subst (λ (ss : List CandidateClock). AreStanding ss c.deref-7.result.now) (sym c.deref-6.ensures.value)
    (subst (AreStanding stands) (sym c.deref-7.ensures.value)
    (standing logs queues stands inside are c.in_ok-asked.asked.items listed left nodes))

pub steps-init : goal.steps-init
steps-init g c =
    let logs = (g.C.HappenedBefore.logs_of c.args.ordered.now) in
    let some = c.requires.queues in
    let listed = subst (λ (fs : List (Option (List ℕ))). ArePlaces fs c.in_ok-asked.asked.items) c.deref.ensures.value
    c.in_ok-asked.ensures in
    let queues = c.args.queues.items in let stands = c.in_ok-stands.stands.items in
    let inside = within logs some.0 [] queues (all_left logs some.0 queues some.2) in
    let left = subst (λ (fs : List (Option (List ℕ))). (i : ℕ) → HasList fs i → (p : ℕ)
    × IsFirstLeft fs i p) c.deref-2.ensures.value c.in_default.ensures in
    let are = subst (λ (fs : List (Option (List ℕ))). AreStands logs fs stands) c.deref-5.ensures.value
    c.in_ok-stands.ensures.stands in
    let nodes : length stands ≡ length logs =
    c.in_ok-stands.ensures.count
    ∙ (c.get-nodes.ensures.value ∙ c.size.ensures.value ∙ ap (λ (ls : List Log). length ls) c.logs.ensures) in
    let asked = c.deref-7.ensures.value in
    let known = rw (c.deref-6.ensures.value, asked) at c.in_ok-pairs.ensures in
    let counted = subst (λ (fs : List (Option (List ℕ))). AreCounted fs stands) c.deref-5.ensures.value
    c.in_ok-stands.ensures.counted in (
      [],
      record {
        has = c.requires.none;
        made = λ case differ queues_are. none_made logs case [] queues queues_are refl;
        count = omega arith;
        places = c.requires.places;
        left = left;
        nodes = nodes;
        stands = are;
        pairs = has_all logs queues stands inside are counted c.in_ok-asked.asked.items c.in_ok-pairs.pairs listed known;
      },
    )

pub next_step-requires-clause-within : goal.next_step-requires-clause-within
next_step-requires-clause-within g c =
    let logs = (g.C.HappenedBefore.logs_of c.args.ordered.now) in
    let some = c.requires.queues in
    let queues = c.steps.queues.items in let so_far = c.steps.invariant.1 in
    let made = so_far.made some.0 some.1 some.2 in
    let inside = within logs some.0 c.steps.invariant.0 queues made.queues_after in
    let seen = c.deref-in-steps.ensures.value in
    subst (AreWithin logs) (sym seen) inside

pub next_step-requires-clause-stands : goal.next_step-requires-clause-stands
next_step-requires-clause-stands g c =
    let logs = (g.C.HappenedBefore.logs_of c.args.ordered.now) in
    let some = c.requires.queues in
    let queues = c.steps.queues.items in let so_far = c.steps.invariant.1 in
    let made = so_far.made some.0 some.1 some.2 in
    let inside = within logs some.0 c.steps.invariant.0 queues made.queues_after in
    let seen = c.deref-in-steps.ensures.value in
    subst (λ (fs : List (Option (List ℕ))). AreStands logs fs c.steps.stands.items) (sym seen) so_far.stands

pub next_step-requires-clause-pairs : goal.next_step-requires-clause-pairs
next_step-requires-clause-pairs g c =
    let logs = (g.C.HappenedBefore.logs_of c.args.ordered.now) in
    let some = c.requires.queues in
    let queues = c.steps.queues.items in let so_far = c.steps.invariant.1 in
    let made = so_far.made some.0 some.1 some.2 in
    let inside = within logs some.0 c.steps.invariant.0 queues made.queues_after in
    let seen = c.deref-in-steps.ensures.value in
    subst (λ (fs : List (Option (List ℕ))). HasEliminations logs fs c.steps.pairs) (sym seen) so_far.pairs

pub eliminate-requires : goal.eliminate-requires
eliminate-requires g c =
    let logs = (g.C.HappenedBefore.logs_of c.args.ordered.now) in
    let some = c.requires.queues in
    let queues = c.steps.queues.items in let so_far = c.steps.invariant.1 in
    let made = so_far.made some.0 some.1 some.2 in
    let inside = within logs some.0 c.steps.invariant.0 queues made.queues_after in
    let seen = c.deref-in-steps.ensures.value in
    let s = c.in-Some-next_step.step in let stands = c.next_step.new.stands.items in
    let is : IsElimination logs queues s =
    subst (λ (fs : List (Option (List ℕ))). IsElimination logs fs s) seen c.in-Some-next_step.ensures.step in
    let are : AreStands logs queues stands =
    subst (λ (fs : List (Option (List ℕ))). AreStands logs fs stands) seen c.next_step.ensures.stands in
    let at : slice_get c.deref_mut.result.now s.node ≡ Some (Some is.front.0) =
    ap (λ (fs : List (Option (List ℕ))). slice_get fs s.node) c.deref_mut.ensures.value ∙ is.front.1 in
    slice_get_within c.deref_mut.result.now s.node (Some is.front.0) at

pub returns-in_default-front : goal.returns-in_default-front
returns-in_default-front g c = λ case differ queues_are.
    let logs = (g.C.HappenedBefore.logs_of c.args.ordered.now) in
    let some = c.requires.queues in
    let queues = c.steps.queues.items in let so_far = c.steps.invariant.1 in
    let made = so_far.made some.0 some.1 some.2 in
    let inside = within logs some.0 c.steps.invariant.0 queues made.queues_after in
    let seen = c.deref-in-steps.ensures.value in
    let s = c.in-Some-next_step.step in let stands = c.next_step.new.stands.items in
    let is : IsElimination logs queues s =
    subst (λ (fs : List (Option (List ℕ))). IsElimination logs fs s) seen c.in-Some-next_step.ensures.step in
    let are : AreStands logs queues stands =
    subst (λ (fs : List (Option (List ℕ))). AreStands logs fs stands) seen c.next_step.ensures.stands in
    let left = take_at c.eliminate.new.queues (drop (length c.eliminate.new.queues) queues) c.steps.queues.len
    (c.eliminate.auto.queues ∙ c.deref_mut.ensures.len) ∙ c.eliminate.ensures
    ∙ ap (λ (fs : List (Option (List ℕ))). one_fewer fs s.node) c.deref_mut.ensures.value in
    let pushed : c.steps.invariant.0 ++ s ∷ [] ≡ c.steps.invariant.0 ++ s ∷ [] = refl in
    let viewed_left = c.deref-in-Some-next_step.ensures.value in
    let own = own_list logs some.0 c.steps.invariant.0 queues _ made.queues_after s is left in
    let none = subst (λ (fs : List (Option (List ℕ))). (p : ℕ) → IsFirstLeft fs s.node p
    → ⊥) viewed_left c.in_default-front.ensures in (
      c.steps.invariant.0 ++ s ∷ [],
      c.in_ok-take.ensures c.steps.invariant.0 so_far.has,
      absent logs case c.args.queues.items _ (c.steps.invariant.0 ++ s ∷ []) s.node queues_are
          (made_more logs case c.steps.invariant.0 (c.steps.invariant.0 ++ s
          ∷ []) queues _ s differ (so_far.made case differ queues_are) is pushed left)
          (omega (
            arith,
            total_less queues s.node s.pos is.front,
            ap total left,
            length-append c.steps.invariant.0 (s ∷ []),
            so_far.count,
          ))
          (none_left _ s.node none (drop 1 is.front.0, own)),
    )

pub advance-requires-clause-asked : goal.advance-requires-clause-asked
advance-requires-clause-asked g c =
    let logs = (g.C.HappenedBefore.logs_of c.args.ordered.now) in
    let some = c.requires.queues in
    let queues = c.steps.queues.items in let so_far = c.steps.invariant.1 in
    let made = so_far.made some.0 some.1 some.2 in
    let inside = within logs some.0 c.steps.invariant.0 queues made.queues_after in
    let seen = c.deref-in-steps.ensures.value in
    let s = c.in-Some-next_step.step in let stands = c.next_step.new.stands.items in
    let is : IsElimination logs queues s =
    subst (λ (fs : List (Option (List ℕ))). IsElimination logs fs s) seen c.in-Some-next_step.ensures.step in
    let are : AreStands logs queues stands =
    subst (λ (fs : List (Option (List ℕ))). AreStands logs fs stands) seen c.next_step.ensures.stands in
    let listed = subst (λ (fs : List (Option (List ℕ))). ArePlaces fs c.in_ok-asked.asked.items) c.deref.ensures.value
    c.in_ok-asked.ensures in
    let places = places_stay logs some.0 c.steps.invariant.0 queues made.queues_after c.args.queues.items
    c.in_ok-asked.asked.items some.2 listed in
    let nodes : length stands ≡ length logs = c.next_step.ensures.nodes ∙ so_far.nodes in
    let asked = c.deref-in-Some-next_step-2.ensures.value in (
      subst (AreStanding stands) (sym asked)
          (standing logs queues stands inside are c.in_ok-asked.asked.items places so_far.left nodes),
      subst (AreInLogs logs stands) (sym asked)
          (in_logs logs queues stands inside are c.in_ok-asked.asked.items places so_far.left),
    )

pub advance-requires-clause-nearest : goal.advance-requires-clause-nearest
advance-requires-clause-nearest g c =
    let logs = (g.C.HappenedBefore.logs_of c.args.ordered.now) in
    let nodes : c.get-nodes.result ≡ length logs =
    c.get-nodes.ensures.value ∙ c.size.ensures.value ∙ ap (λ (ls : List Log). length ls) c.logs.ensures in
    let asked : c.deref-4.result.now ≡ c.deref-in-Some-next_step-2.result.now =
    c.deref-4.ensures.value ∙ sym c.deref-in-Some-next_step-2.ensures.value in
    subst (AreNearest (length logs) c.deref-in-Some-next_step-2.result.now) (sym c.deref-in-Some-next_step-3.ensures.value)
    (subst (λ (xs : List ℕ). AreNearest (length logs) xs c.in_ok-nearest.nearest.items) asked
    (subst (λ (n : ℕ). AreNearest n c.deref-4.result.now c.in_ok-nearest.nearest.items) nodes c.in_ok-nearest.ensures))

pub advance-requires-clause-all : goal.advance-requires-clause-all
advance-requires-clause-all g c =
    let logs = (g.C.HappenedBefore.logs_of c.args.ordered.now) in
    let some = c.requires.queues in
    let queues = c.steps.queues.items in let so_far = c.steps.invariant.1 in
    let made = so_far.made some.0 some.1 some.2 in
    let inside = within logs some.0 c.steps.invariant.0 queues made.queues_after in
    let seen = c.deref-in-steps.ensures.value in
    let s = c.in-Some-next_step.step in let stands = c.next_step.new.stands.items in
    let is : IsElimination logs queues s =
    subst (λ (fs : List (Option (List ℕ))). IsElimination logs fs s) seen c.in-Some-next_step.ensures.step in
    let are : AreStands logs queues stands =
    subst (λ (fs : List (Option (List ℕ))). AreStands logs fs stands) seen c.next_step.ensures.stands in
    let listed = subst (λ (fs : List (Option (List ℕ))). ArePlaces fs c.in_ok-asked.asked.items) c.deref.ensures.value
    c.in_ok-asked.ensures in
    let places = places_stay logs some.0 c.steps.invariant.0 queues made.queues_after c.args.queues.items
    c.in_ok-asked.asked.items some.2 listed in
    let pairs = subst (λ (fs : List (Option (List ℕ))). HasEliminations logs fs c.next_step.new.pairs) seen
    c.next_step.ensures.pairs in
    subst (λ (xs : List ℕ). HasRuledOut logs stands xs c.next_step.new.pairs)
    (sym c.deref-in-Some-next_step-2.ensures.value)
    (has_ruled_out logs queues stands inside are c.in_ok-asked.asked.items c.next_step.new.pairs places so_far.left pairs)

pub advance-requires-clause-node : goal.advance-requires-clause-node
advance-requires-clause-node g c =
    let logs = (g.C.HappenedBefore.logs_of c.args.ordered.now) in
    let some = c.requires.queues in
    let queues = c.steps.queues.items in let so_far = c.steps.invariant.1 in
    let made = so_far.made some.0 some.1 some.2 in
    let inside = within logs some.0 c.steps.invariant.0 queues made.queues_after in
    let seen = c.deref-in-steps.ensures.value in
    let s = c.in-Some-next_step.step in let stands = c.next_step.new.stands.items in
    let is : IsElimination logs queues s =
    subst (λ (fs : List (Option (List ℕ))). IsElimination logs fs s) seen c.in-Some-next_step.ensures.step in
    let are : AreStands logs queues stands =
    subst (λ (fs : List (Option (List ℕ))). AreStands logs fs stands) seen c.next_step.ensures.stands in
    let listed = subst (λ (fs : List (Option (List ℕ))). ArePlaces fs c.in_ok-asked.asked.items) c.deref.ensures.value
    c.in_ok-asked.ensures in
    let places = places_stay logs some.0 c.steps.invariant.0 queues made.queues_after c.args.queues.items
    c.in_ok-asked.asked.items some.2 listed in
    subst (λ (xs : List ℕ). Contains xs s.node) (sym c.deref-in-Some-next_step-2.ensures.value)
    ((places s.node).1 (is.front.0, is.front.1))

pub advance-requires-clause-place : goal.advance-requires-clause-place
advance-requires-clause-place g c =
    let logs = (g.C.HappenedBefore.logs_of c.args.ordered.now) in
    let some = c.requires.queues in
    let queues = c.steps.queues.items in let so_far = c.steps.invariant.1 in
    let made = so_far.made some.0 some.1 some.2 in
    let inside = within logs some.0 c.steps.invariant.0 queues made.queues_after in
    let seen = c.deref-in-steps.ensures.value in
    let s = c.in-Some-next_step.step in let stands = c.next_step.new.stands.items in
    let is : IsElimination logs queues s =
    subst (λ (fs : List (Option (List ℕ))). IsElimination logs fs s) seen c.in-Some-next_step.ensures.step in
    let are : AreStands logs queues stands =
    subst (λ (fs : List (Option (List ℕ))). AreStands logs fs stands) seen c.next_step.ensures.stands in
    (inside s.node s.pos is.front).0

pub advance-requires-clause-position : goal.advance-requires-clause-position
advance-requires-clause-position g c =
    let logs = (g.C.HappenedBefore.logs_of c.args.ordered.now) in
    let some = c.requires.queues in
    let queues = c.steps.queues.items in let so_far = c.steps.invariant.1 in
    let made = so_far.made some.0 some.1 some.2 in
    let inside = within logs some.0 c.steps.invariant.0 queues made.queues_after in
    let seen = c.deref-in-steps.ensures.value in
    let s = c.in-Some-next_step.step in let stands = c.next_step.new.stands.items in
    let is : IsElimination logs queues s =
    subst (λ (fs : List (Option (List ℕ))). IsElimination logs fs s) seen c.in-Some-next_step.ensures.step in
    let are : AreStands logs queues stands =
    subst (λ (fs : List (Option (List ℕ))). AreStands logs fs stands) seen c.next_step.ensures.stands in
    let left = take_at c.eliminate.new.queues (drop (length c.eliminate.new.queues) queues) c.steps.queues.len
    (c.eliminate.auto.queues ∙ c.deref_mut.ensures.len) ∙ c.eliminate.ensures
    ∙ ap (λ (fs : List (Option (List ℕ))). one_fewer fs s.node) c.deref_mut.ensures.value in
    let pushed : c.steps.invariant.0 ++ s ∷ [] ≡ c.steps.invariant.0 ++ s ∷ [] = refl in
    let next = made_more logs some.0 c.steps.invariant.0 (c.steps.invariant.0 ++ s
    ∷ []) queues _ s some.1 made is pushed left in
    let first = subst (λ (fs : List (Option (List ℕ))). IsFirstLeft fs s.node c.in-Some-front.position)
    c.deref-in-Some-next_step.ensures.value c.in-Some-front.ensures in
    (within logs some.0 (c.steps.invariant.0 ++ s ∷ []) _ next.queues_after s.node c.in-Some-front.position first).1

pub advance-requires-clause-stand : goal.advance-requires-clause-stand
advance-requires-clause-stand g c = λ t at.
    let logs = (g.C.HappenedBefore.logs_of c.args.ordered.now) in
    let some = c.requires.queues in
    let queues = c.steps.queues.items in let so_far = c.steps.invariant.1 in
    let made = so_far.made some.0 some.1 some.2 in
    let inside = within logs some.0 c.steps.invariant.0 queues made.queues_after in
    let seen = c.deref-in-steps.ensures.value in
    let s = c.in-Some-next_step.step in let stands = c.next_step.new.stands.items in
    let is : IsElimination logs queues s =
    subst (λ (fs : List (Option (List ℕ))). IsElimination logs fs s) seen c.in-Some-next_step.ensures.step in
    let are : AreStands logs queues stands =
    subst (λ (fs : List (Option (List ℕ))). AreStands logs fs stands) seen c.next_step.ensures.stands in
    let left = take_at c.eliminate.new.queues (drop (length c.eliminate.new.queues) queues) c.steps.queues.len
    (c.eliminate.auto.queues ∙ c.deref_mut.ensures.len) ∙ c.eliminate.ensures
    ∙ ap (λ (fs : List (Option (List ℕ))). one_fewer fs s.node) c.deref_mut.ensures.value in
    let pushed : c.steps.invariant.0 ++ s ∷ [] ≡ c.steps.invariant.0 ++ s ∷ [] = refl in
    let first = subst (λ (fs : List (Option (List ℕ))). IsFirstLeft fs s.node c.in-Some-front.position)
    c.deref-in-Some-next_step.ensures.value c.in-Some-front.ensures in
    let stand = stand_is logs queues stands inside are s.node s.pos t is.front at in
    let onward = own_first logs some.0 c.steps.invariant.0 queues _ made.queues_after s is left
    c.in-Some-front.position first
    in (
      omega (arith, stand.position, onward),
      subst (λ (n : ℕ). IsCandidateClock logs s.node n t) (sym stand.position) stand,
    )

pub steps-smaller : goal.steps-smaller
steps-smaller g c =
    let logs = (g.C.HappenedBefore.logs_of c.args.ordered.now) in
    let some = c.requires.queues in
    let queues = c.steps.queues.items in let so_far = c.steps.invariant.1 in
    let made = so_far.made some.0 some.1 some.2 in
    let inside = within logs some.0 c.steps.invariant.0 queues made.queues_after in
    let seen = c.deref-in-steps.ensures.value in
    let s = c.in-Some-next_step.step in let stands = c.next_step.new.stands.items in
    let is : IsElimination logs queues s =
    subst (λ (fs : List (Option (List ℕ))). IsElimination logs fs s) seen c.in-Some-next_step.ensures.step in
    let are : AreStands logs queues stands =
    subst (λ (fs : List (Option (List ℕ))). AreStands logs fs stands) seen c.next_step.ensures.stands in
    let left = take_at c.eliminate.new.queues (drop (length c.eliminate.new.queues) queues) c.steps.queues.len
    (c.eliminate.auto.queues ∙ c.deref_mut.ensures.len) ∙ c.eliminate.ensures
    ∙ ap (λ (fs : List (Option (List ℕ))). one_fewer fs s.node) c.deref_mut.ensures.value in
    let pushed : c.steps.invariant.0 ++ s ∷ [] ≡ c.steps.invariant.0 ++ s ∷ [] = refl in
    omega (arith, total_less queues s.node s.pos is.front, ap total left)

pub steps-preserved : goal.steps-preserved
steps-preserved g c =
    let logs = (g.C.HappenedBefore.logs_of c.args.ordered.now) in
    let some = c.requires.queues in
    let queues = c.steps.queues.items in let so_far = c.steps.invariant.1 in
    let made = so_far.made some.0 some.1 some.2 in
    let inside = within logs some.0 c.steps.invariant.0 queues made.queues_after in
    let seen = c.deref-in-steps.ensures.value in
    let s = c.in-Some-next_step.step in let stands = c.next_step.new.stands.items in
    let is : IsElimination logs queues s =
    subst (λ (fs : List (Option (List ℕ))). IsElimination logs fs s) seen c.in-Some-next_step.ensures.step in
    let are : AreStands logs queues stands =
    subst (λ (fs : List (Option (List ℕ))). AreStands logs fs stands) seen c.next_step.ensures.stands in
    let left = take_at c.eliminate.new.queues (drop (length c.eliminate.new.queues) queues) c.steps.queues.len
    (c.eliminate.auto.queues ∙ c.deref_mut.ensures.len) ∙ c.eliminate.ensures
    ∙ ap (λ (fs : List (Option (List ℕ))). one_fewer fs s.node) c.deref_mut.ensures.value in
    let pushed : c.steps.invariant.0 ++ s ∷ [] ≡ c.steps.invariant.0 ++ s ∷ [] = refl in
    let next = made_more logs some.0 c.steps.invariant.0 (c.steps.invariant.0 ++ s
    ∷ []) queues _ s some.1 made is pushed left in
    let first = subst (λ (fs : List (Option (List ℕ))). IsFirstLeft fs s.node c.in-Some-front.position)
    c.deref-in-Some-next_step.ensures.value c.in-Some-front.ensures in
    let listed = subst (λ (fs : List (Option (List ℕ))). ArePlaces fs c.in_ok-asked.asked.items) c.deref.ensures.value
    c.in_ok-asked.ensures in
    let nodes : length stands ≡ length logs = c.next_step.ensures.nodes ∙ so_far.nodes in
    let moved = c.advance.ensures.moved in
    let set = moved.1 in
    let again = stands_again logs queues stands inside are some.0 c.steps.invariant.0 made.queues_after s is
    _ left
    _ moved.0 set c.in-Some-front.position first moved.2 in
    let old = subst (λ (fs : List (Option (List ℕ))). HasEliminations logs fs c.next_step.new.pairs) seen
    c.next_step.ensures.pairs in
    let places = places_stay logs some.0 (c.steps.invariant.0 ++ s
    ∷ []) _ next.queues_after c.args.queues.items c.in_ok-asked.asked.items some.2 listed in
    let added = subst (λ (xs : List ℕ). (i : ℕ) → Contains xs i
    → RulesOut logs stands s.node c.in-Some-front.position i → Has c.advance.new.pairs i s.node)
    c.deref-in-Some-next_step-2.ensures.value c.advance.ensures.added in (
      c.steps.invariant.0 ++ s ∷ [],
      record {
        has = c.in_ok-take.ensures c.steps.invariant.0 so_far.has;
        made = λ case differ queues_are.
            made_more logs case c.steps.invariant.0 (c.steps.invariant.0 ++ s
            ∷ []) queues _ s differ (so_far.made case differ queues_are) is pushed left;
        count = omega (
          arith,
          total_less queues s.node s.pos is.front,
          ap total left,
          length-append c.steps.invariant.0 (s ∷ []),
          so_far.count,
        );
        places = omega (
          arith,
          ap (λ (fs : List (Option (List ℕ))). length fs) left,
          one_fewer-length queues s.node,
          so_far.places,
        );
        left = still_left logs some.0 c.steps.invariant.0 queues _ made.queues_after s is left so_far.left
            c.in-Some-front.position first;
        nodes = ap (λ (ss : List CandidateClock). length ss) set ∙ length-set stands s.node moved.0 ∙ nodes;
        stands = again;
        pairs =
            all_again logs some.0 c.steps.invariant.0 queues _ made.queues_after s is left c.next_step.new.pairs
            c.advance.new.pairs old c.advance.ensures.kept
            (adds logs some.0 c.steps.invariant.0 queues _ made.queues_after s is left stands inside are
            c.in_ok-asked.asked.items c.advance.new.pairs c.in-Some-front.position places first added);
      },
    )

pub all_stands-requires-2-clause-within : goal.all_stands-requires-2-clause-within
all_stands-requires-2-clause-within g c =
    let logs = (g.C.HappenedBefore.logs_of c.args.ordered.now) in
    let some = c.requires.queues in
    let queues = c.steps.queues.items in let so_far = c.steps.invariant.1 in
    let made = so_far.made some.0 some.1 some.2 in
    let inside = within logs some.0 c.steps.invariant.0 queues made.queues_after in
    subst (AreWithin logs) (sym c.deref-8.ensures.value) inside

pub least_cut-requires-clause-nodes : goal.least_cut-requires-clause-nodes
least_cut-requires-clause-nodes g c =
    sym (ap (λ (ss : List CandidateClock). length ss) c.deref-9.ensures.value ∙ c.in_ok-counted.ensures.count)

pub least_cut-requires-clause-standing : goal.least_cut-requires-clause-standing
least_cut-requires-clause-standing g c =
    let logs = (g.C.HappenedBefore.logs_of c.args.ordered.now) in
    let some = c.requires.queues in
    let queues = c.steps.queues.items in let so_far = c.steps.invariant.1 in
    let counted = c.in_ok-counted.counted.items in
    let are = subst (λ (fs : List (Option (List ℕ))). AreStands logs fs counted) c.deref-8.ensures.value
    c.in_ok-counted.ensures.stands in
    let listed = subst (λ (fs : List (Option (List ℕ))). ArePlaces fs c.in_ok-asked.asked.items) c.deref.ensures.value
    c.in_ok-asked.ensures in
    let made = so_far.made some.0 some.1 some.2 in
    let inside = within logs some.0 c.steps.invariant.0 queues made.queues_after in
    let places = places_stay logs some.0 c.steps.invariant.0 queues made.queues_after c.args.queues.items
    c.in_ok-asked.asked.items some.2 listed in
    let nodes : length counted ≡ length logs =
    c.in_ok-counted.ensures.count
    ∙ (c.get-nodes.ensures.value ∙ c.size.ensures.value ∙ ap (λ (ls : List Log). length ls) c.logs.ensures) in
    subst (λ (ss : List CandidateClock). AreStanding ss c.deref-10.result.now) (sym c.deref-9.ensures.value)
    (subst (AreStanding counted) (sym c.deref-10.ensures.value)
    (standing logs queues counted inside are c.in_ok-asked.asked.items places so_far.left nodes))

pub returns : goal.returns
returns g c = λ case differ queues_are.
    let logs = (g.C.HappenedBefore.logs_of c.args.ordered.now) in
    let some = c.requires.queues in
    let queues = c.steps.queues.items in let so_far = c.steps.invariant.1 in
    let counted = c.in_ok-counted.counted.items in
    let are = subst (λ (fs : List (Option (List ℕ))). AreStands logs fs counted) c.deref-8.ensures.value
    c.in_ok-counted.ensures.stands in
    let listed = subst (λ (fs : List (Option (List ℕ))). ArePlaces fs c.in_ok-asked.asked.items) c.deref.ensures.value
    c.in_ok-asked.ensures in
    let made = so_far.made case differ queues_are in
    let inside = within logs case c.steps.invariant.0 queues made.queues_after in
    let places = places_stay logs case c.steps.invariant.0 queues made.queues_after c.args.queues.items
    c.in_ok-asked.asked.items queues_are listed in
    let fresh = subst (λ (fs : List (Option (List ℕ))). AreCounted fs counted) c.deref-8.ensures.value
    c.in_ok-counted.ensures.counted in
    let greatest =
    c.in_ok-cut.ensures logs queues (c.get-nodes.ensures.value ∙ c.size.ensures.value
    ∙ ap (λ (ls : List Log). length ls) c.logs.ensures)
    (subst (ArePlaces queues) (sym c.deref-10.ensures.value) places) so_far.left inside
    (subst (AreStands logs queues) (sym c.deref-9.ensures.value) are)
    (subst (AreCounted queues) (sym c.deref-9.ensures.value) fresh) in
    let none = subst (λ (fs : List (Option (List ℕ))). (s : CertStep) → IsElimination logs fs s
    → ⊥) c.deref-in-steps.ensures.value c.in_default-next_step.ensures.step in
    subst (IsLeastCut logs case) (sym c.of_positions.ensures)
    (present logs case c.steps.invariant.0 queues differ made c.in_ok-cut.cut.items greatest none so_far.left)
