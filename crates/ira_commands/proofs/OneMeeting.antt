-- Whether an election is as expected when the logs end is one thing.
use Rattle.std.proofs.Common.{◌≡◌, ◌<◌, ◌++◌, ◌⊎◌, ℕ, Bool, List, [], ◌∷◌, arith, false, inl, inr, length, refl, subst, sym, take, true, ◌∙◌}
use Rattle.std.specs.Prelude.{slice_index}
use Rattle.std.proofs.lemmas.Option.{slice_get_within}
use Rattle.ira_event.specs.Log.{Log}
use Rattle.ira_view_election.proofs.Nexts.{one_at}
use Rattle.ira_view_election.specs.Election.{Standing, goes_on, over}
use Rattle.ira_view_election.specs.ElectionAt.{SomeNodeLeads, Stands}
use Rattle.ira_view_moment.specs.Moment.{IsMoment, LeadsAt, Moment, whole_cut}
use Rattle.ira_view_moment.proofs.Progress.{one_end}
use Rattle.ira_view.specs.Status.{IsLeadsStatus}
use Rattle.ira_view.specs.declared.status.Status.{Status}
use Rattle.ira_view.specs.declared.status.Status.TheVariants.{Refused}
use Rattle.ira_commands.specs.Expected.{AreLinesOn, AreLinesOver}
use Rattle.ira_commands.specs.Laws.{counted_status}
use Rattle.ira_commands.specs.Reply.{Reply}
use Rattle.ira_commands.specs.RingLeaders.{AreDifferencesOf, AreNoPlaces}
use Rattle.ira_commands.specs.declared.expected.Expected.{Expected}
use Rattle.ira_commands.specs.declared.ring_leaders.RingLeaders.{RingLeaders}
use Rattle.ira_commands.specs.declared.ring_leaders.RingLeaders.TheVariants.{Any, NotAsked, Places}

abbrev pub counted : Reply → Status
counted reply = counted_status reply.fault reply.status

module _ (logs : List Log) (cut : List ℕ) (m n : Moment) (is : IsMoment logs cut m) (also : IsMoment logs cut n) where
  -- a node that leads at a moment of a cut leads at each of it
  leads_too : (i : ℕ) → LeadsAt m i → LeadsAt n i
  leads_too i leads =
      let here : i < length m.nodes = slice_get_within m.nodes i leads.progress leads.at in
      let log = one_at logs i (omega (arith, here, is.places)) in
      let other = one_at n.nodes i (omega (arith, here, is.places, also.places)) in
      let same = one_end log.0.nodes _ (take (slice_index cut i) log.0.events) leads.progress.state other.0.state
      (is.nodes i log.0 leads.progress log.1 leads.at).state (also.nodes i log.0 other.0 log.1 other.1).state in
      record { progress = other.0; at = other.1; leads = rw same at leads.leads }

  some_leads : SomeNodeLeads m → SomeNodeLeads n
  some_leads leads = (leads.0, leads_too leads.0 leads.1)

  over_too : (standing : Standing) → SomeNodeLeads m → Stands n standing → standing ≡ over
  over_too over leads stands = refl
  over_too (goes_on next contenders) leads stands = absurd (stands.0 (some_leads leads))

-- where there are no lines by some, there are none by all
none_over : (logs : List Log) (is_over : Bool) (lines others : List ℕ) → AreLinesOver logs is_over lines
    → AreLinesOver logs is_over others → lines ≡ [] → others ≡ []
none_over logs false lines others h k none = k
none_over logs true lines others h k none =
    let leads = subst (Stands h.stands.moment) (h.none.0 none) h.stands.stands in
    k.none.1 (over_too logs (whole_cut logs) h.stands.moment k.stands.moment h.stands.of_cut k.stands.of_cut k.standing
    leads k.stands.stands)

none_differ : (logs : List Log) (leaders : RingLeaders) (lines others : List ℕ) → AreDifferencesOf logs leaders lines
    → AreDifferencesOf logs leaders others → lines ≡ [] → others ≡ []
none_differ logs NotAsked lines others h k none = k
none_differ logs Any lines others h k none =
    k.none.1 (some_leads logs (whole_cut logs) h.moment k.moment h.is_end k.is_end (h.none.0 none))
none_differ logs (Places places) lines others h k none = k.none.1 (λ i here.
    let lead = h.none.0 none i (omega (arith, here, h.is_end.places, k.is_end.places)) in (
      λ leads. lead.0 (leads_too logs (whole_cut logs) k.moment h.moment k.is_end h.is_end i leads),
      λ named. leads_too logs (whole_cut logs) h.moment k.moment h.is_end k.is_end i (lead.1 named),
    ))

no_parts : (xs ys : List ℕ) → xs ++ ys ≡ [] → (xs ≡ []) × (ys ≡ [])
no_parts [] ys none = (refl, none)
no_parts (x ∷ xs) ys none = absurd cc

no_lines : (logs : List Log) (expected : Expected) (first differences others more : List ℕ)
    → AreLinesOn logs expected first differences → AreLinesOn logs expected others more → first ++ differences ≡ []
    → others ++ more ≡ []
no_lines logs expected first differences others more h k none =
    let parts = no_parts first differences none in
    rw (none_over logs expected.is_over first others h.0 k.0 parts.0)
    (none_differ logs expected.leaders differences more h.1 k.1 parts.1)

-- lines on who leads are of nodes of the ring
all_places : (logs : List Log) (leaders : RingLeaders) (lines : List ℕ) → AreDifferencesOf logs leaders lines
    → ¬ (AreNoPlaces logs leaders)
all_places logs NotAsked lines are none = none
all_places logs Any lines are none = none
all_places logs (Places places) lines are none = none are.places

-- two statuses that say whether something is so are one, where both say it of the same
pub one_of_two : (P Q : Type 0) (x y s t : Status) → (P → Q) → (Q → P) → (P × (s ≡ x)) ⊎ (¬ P × (s ≡ y))
    → (Q × (t ≡ x)) ⊎ (¬ Q × (t ≡ y)) → s ≡ t
one_of_two P Q x y s t there back (inl h) (inl k) = h.1 ∙ sym k.1
one_of_two P Q x y s t there back (inl h) (inr k) = absurd (k.0 (there h.0))
one_of_two P Q x y s t there back (inr h) (inl k) = absurd (h.0 (back k.0))
one_of_two P Q x y s t there back (inr h) (inr k) = h.1 ∙ sym k.1

-- the status says whether it is so; or one of those who are to lead is none of the ring, which is refused
abbrev pub SaysMet : List Log → Expected → Reply → Type 0
SaysMet logs expected reply =
    ((over differences : List ℕ) × AreLinesOn logs expected over differences
    × IsLeadsStatus (over ++ differences) (counted reply))
    ⊎ (AreNoPlaces logs expected.leaders × (counted reply ≡ Refused))

pub one_met : (logs : List Log) (expected : Expected) (a b : Reply) → SaysMet logs expected a → SaysMet logs expected b
    → counted a ≡ counted b
one_met logs expected a b (inl h) (inl k) = one_of_two (h.0 ++ h.1 ≡ []) (k.0 ++ k.1 ≡ []) _ _ (counted a) (counted b)
    (no_lines logs expected h.0 h.1 k.0 k.1 h.2 k.2) (no_lines logs expected k.0 k.1 h.0 h.1 k.2 h.2) h.3 k.3
one_met logs expected a b (inl h) (inr k) = absurd (all_places logs expected.leaders h.1 h.2.1 k.0)
one_met logs expected a b (inr h) (inl k) = absurd (all_places logs expected.leaders k.1 k.2.1 h.0)
one_met logs expected a b (inr h) (inr k) = h.1 ∙ sym k.1
