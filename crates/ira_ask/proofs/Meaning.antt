-- A cut meets a case of a sentence's question exactly where the sentence holds of it.
use Rattle.std.proofs.Common.{◌≡◌, ◌≢◌, ◌<◌, ℕ, List, [], Option, Some, None, refl, sym, ap}
use Rattle.std.proofs.Common.{subst, ◌∙◌, arith, inl, inr, slice_get}
use Rattle.std.specs.Prelude.{All, Contains, ◌↔◌, slice_index}
use Rattle.std.proofs.lemmas.Option.{same_Some}
use Rattle.std.proofs.lemmas.List.Elements.{All-nil, All-cons, All-head, All-contains}
use Rattle.ira_event.specs.Log.{Log}
use Rattle.ira_node.specs.NodeState.{first_state}
use Rattle.ira_pred.specs.Case.{Conjunct}
use Rattle.ira_pred.specs.Clause.{Holds}
use Rattle.ira_pred.specs.Formula.{Formula, both}
use Rattle.ira_pred.specs.Question.{QuestionCases}
use Rattle.ira_replay.proofs.Reached.{one_list}
use Rattle.ira_cand.specs.HoldsAt.{HoldsAt}
use Rattle.ira_cand.specs.Meets.{Meets}
use Rattle.ira_ask.specs.declared.picks.Picks.{Picks}
use Rattle.ira_ask.specs.declared.places.Places.{Places}
use Rattle.ira_ask.specs.Asked.{asked, case_of, own, placed, together, wanted}
use Rattle.ira_ask.specs.Choices.{PicksOf, choices}
use Rattle.ira_ask.specs.Laws.{HoldsAtCut}
use Rattle.ira_ask.specs.SentenceAnswer.{IsAsked, asks_node, asks_parts}
use Rattle.ira_ask.specs.SentenceText.{IsSentenceText}
use Rattle.ira_ask.specs.Sentence.{HasWanted, IsPicked, Parts, PartsSay, Says, Sentence, of_node, of_parts}
use Rattle.ira_ask.proofs.Lists.{All-flat_numbers, each_flat_number, Contains-mapped, Contains-of_map}
use Rattle.ira_ask.proofs.Nodes.{node_means, one_said}
use Rattle.ira_ask.proofs.Picking.{MayPick, choices_may, own-any, own-other, own-rest, is_or_not, find}

-- ---- two formulas at a place

holds_both : (log : Log) (f g : Formula) (p : ℕ) → HoldsAt log f p → HoldsAt log g p → HoldsAt log (both f g) p
holds_both log f g p h k =
    let same = one_list log.nodes (first_state log.initiator) log.events h.states k.states h.states_are k.states_are in
    let e : Some h.state ≡ Some k.state = sym h.at ∙ ap (λ ts. slice_get ts p) same ∙ k.at in
    record {
      states = h.states;
      states_are = h.states_are;
      state = h.state;
      at = h.at;
      holds = (h.holds, subst (Holds g) (sym (same_Some h.state k.state e)) k.holds);
    }

at_both : (logs : List Log) (cut : List ℕ) (f g : Formula) (p : ℕ) → HoldsAtCut logs cut f p → HoldsAtCut logs cut g p
    → HoldsAtCut logs cut (both f g) p
at_both logs cut f g p h k =
    let same : k.0 ≡ h.0 = same_Some k.0 h.0 (sym k.1 ∙ h.1) in
    (h.0, h.1, holds_both h.0 f g _ h.2 (subst (λ (l : Log). HoldsAt l g (slice_index cut p)) same k.2))

at_first : (logs : List Log) (cut : List ℕ) (f g : Formula) (p : ℕ) → HoldsAtCut logs cut (both f g) p
    → HoldsAtCut logs cut f p
at_first logs cut f g p h = (
  h.0,
  h.1,
  record {
    states = h.2.states;
    states_are = h.2.states_are;
    state = h.2.state;
    at = h.2.at;
    holds = h.2.holds.0;
  },
)

at_second : (logs : List Log) (cut : List ℕ) (f g : Formula) (p : ℕ) → HoldsAtCut logs cut (both f g) p
    → HoldsAtCut logs cut g p
at_second logs cut f g p h = (
  h.0,
  h.1,
  record {
    states = h.2.states;
    states_are = h.2.states_are;
    state = h.2.state;
    at = h.2.at;
    holds = h.2.holds.1;
  },
)

both_wanted : (logs : List Log) (cut : List ℕ) (a b : Option Formula) (p : ℕ) → HasWanted (HoldsAtCut logs cut) a p
    → HasWanted (HoldsAtCut logs cut) b p → HasWanted (HoldsAtCut logs cut) (together a b) p
both_wanted logs cut None b p h k = k
both_wanted logs cut (Some f) None p h k = h
both_wanted logs cut (Some f) (Some g) p h k = at_both logs cut f g p h k

own_wanted : (logs : List Log) (cut : List ℕ) (a b : Option Formula) (p : ℕ)
    → HasWanted (HoldsAtCut logs cut) (together a b) p → HasWanted (HoldsAtCut logs cut) a p
own_wanted logs cut None b p h = tt
own_wanted logs cut (Some f) None p h = h
own_wanted logs cut (Some f) (Some g) p h = at_first logs cut f g p h

all_wanted : (logs : List Log) (cut : List ℕ) (a b : Option Formula) (p : ℕ)
    → HasWanted (HoldsAtCut logs cut) (together a b) p → HasWanted (HoldsAtCut logs cut) b p
all_wanted logs cut None b p h = h
all_wanted logs cut (Some f) None p h = tt
all_wanted logs cut (Some f) (Some g) p h = at_second logs cut f g p h

-- ---- a case

placed-holds : (At : Formula → ℕ → Type 0) (p : ℕ) (o : Option Formula) → All (λ c. At c.formula c.place) (placed p o)
    → HasWanted At o p
placed-holds At p None h = tt
placed-holds At p (Some f) h = All-head (λ c. At c.formula c.place) (record { place = p; formula = f }) [] h

holds-placed : (At : Formula → ℕ → Type 0) (p : ℕ) (o : Option Formula) → HasWanted At o p
    → All (λ c. At c.formula c.place) (placed p o)
holds-placed At p None h = All-nil (λ c. At c.formula c.place)
holds-placed At p (Some f) h =
    All-cons (λ c. At c.formula c.place) (record { place = p; formula = f }) [] h (All-nil (λ c. At c.formula c.place))

case_wants : (At : Formula → ℕ → Type 0) (n : ℕ) (s : Parts) (c : Places)
    → All (λ x. At x.formula x.place) (case_of n s c) → (p : ℕ) → p < n → HasWanted At (wanted s c p) p
case_wants At n s c h p low =
    placed-holds At p (wanted s c p)
    (each_flat_number (λ x. At x.formula x.place) (λ q. placed q (wanted s c q)) 0 n h p (omega arith) (omega
    (arith, low)))

wants_case : (At : Formula → ℕ → Type 0) (n : ℕ) (s : Parts) (c : Places)
    → ((p : ℕ) → p < n → HasWanted At (wanted s c p) p) → All (λ x. At x.formula x.place) (case_of n s c)
wants_case At n s c h =
    All-flat_numbers (λ x. At x.formula x.place) (λ q. placed q (wanted s c q)) 0 n (λ p from low.
    holds-placed At p (wanted s c p) (h p (omega (arith, low))))

-- ---- a sentence

picked-holds : (n : ℕ) (At : Formula → ℕ → Type 0) (Any : Formula → ℕ → Type 0) (o : Option Formula) (i : Option ℕ)
    → IsPicked n Any o i → ((k : ℕ) → k < n → i ≡ Some k → HasWanted At o k) → IsPicked n At o i
picked-holds n At Any None None h k = tt
picked-holds n At Any (Some f) (Some i) h k = (h.0, k i h.0 refl)
picked-holds n At Any None (Some i) h k = absurd h
picked-holds n At Any (Some f) None h k = absurd h

holds-picked : (n : ℕ) (At : Formula → ℕ → Type 0) (o : Option Formula) (i : Option ℕ) (k : ℕ) → IsPicked n At o i
    → i ≡ Some k → HasWanted At o k
holds-picked n At None i k h e = tt
holds-picked n At (Some f) None k h e = absurd h
holds-picked n At (Some f) (Some i) k h e = subst (At f) (same_Some i k e) h.1

pub case_says : (n : ℕ) (s : Parts) (c : Places) (logs : List Log) (cut : List ℕ) → MayPick n s.any s.other c
    → Meets logs (case_of n s c) cut → PartsSay n (HoldsAtCut logs cut) s
case_says n s c logs cut may h =
    let At = HoldsAtCut logs cut in
    let each : (p : ℕ) → p < n → HasWanted At (wanted s c p) p = case_wants At n s c h in
    let mine : (p : ℕ) → p < n → HasWanted At (own s c p) p = λ p low. own_wanted logs cut (own s c p) s.all p
    (each p low) in
    record {
      picked = c;
      any = picked-holds n At _ s.any c.any may.any_is (λ k low e. subst (λ o. HasWanted At o k) (own-any s c k e)
          (mine k low));
      other = picked-holds n At _ s.other c.other may.other_is (λ k low e.
          subst (λ o. HasWanted At o k) (own-other s c k (λ d. may.different k d e) e) (mine k low));
      different = may.different;
      each_other = λ p low d e. subst (λ o. HasWanted At o p) (own-rest s c p d e) (mine p low);
      all = λ p low. all_wanted logs cut (own s c p) s.all p (each p low);
    }

own_holds : (n : ℕ) (At : Formula → ℕ → Type 0) (s : Parts) (c : Places) (p : ℕ) → IsPicked n At s.any c.any
    → IsPicked n At s.other c.other → (c.any ≢ Some p → c.other ≢ Some p → HasWanted At s.each_other p)
    → HasWanted At (own s c p) p
own_holds n At s c p any other rest =
    elim (is_or_not c.any p) [
      | inl e ↦ subst (λ o. HasWanted At o p) (sym (own-any s c p e)) (holds-picked n At s.any c.any p any e)
      | inr d ↦ elim (is_or_not c.other p) [
        | inl e ↦ subst (λ o. HasWanted At o p) (sym (own-other s c p d e))
            (holds-picked n At s.other c.other p other e)
        | inr e ↦ subst (λ o. HasWanted At o p) (sym (own-rest s c p d e)) (rest d e)
      ]
    ]

pub says_case : (n : ℕ) (s : Parts) (picks : Picks) (logs : List Log) (cut : List ℕ) → PicksOf s.any s.other picks
    → PartsSay n (HoldsAtCut logs cut) s
    → (c : Places) × Contains (choices n picks) c × Meets logs (case_of n s c) cut
says_case n s picks logs cut of says =
    let At = HoldsAtCut logs cut in
    let found = find n At s.any s.other says.picked.any says.picked.other picks of says.any says.other says.different in
    let c = found.choice in (
      c,
      found.among,
      wants_case At n s c (λ p low.
          both_wanted logs cut (own s c p) s.all p (own_holds n At s c p found.any_is found.other_is (λ d e.
          let apart = found.same p d e in says.each_other p low apart.0 apart.1)) (says.all p low)),
    )

pub question_means : (n : ℕ) (s : Parts) (picks : Picks) (logs : List Log) (cut : List ℕ)
    → PicksOf s.any s.other picks
    → ((case : List Conjunct) × Contains (asked n s picks).cases case × Meets logs case cut)
    ↔ PartsSay n (HoldsAtCut logs cut) s
question_means n s picks logs cut of = (
  λ h. let is = Contains-of_map (case_of n s) (choices n picks) h.0 h.1 in
      let may = All-contains (MayPick n s.any s.other) (choices n picks) is.0
      (choices_may n s.any s.other picks of) is.1 in
      case_says n s is.0 logs cut may (subst (λ case. Meets logs case cut) is.2 h.2),
  λ says. let found = says_case n s picks logs cut of says in
      (case_of n s found.0, Contains-mapped (case_of n s) (choices n picks) found.0 found.1, found.2),
)

pub question_of_sentence : (n : ℕ) (text : List ℕ) (s : Sentence) (q : QuestionCases) (logs : List Log) (cut : List ℕ)
    → IsSentenceText text s → IsAsked n text q
    → ((case : List Conjunct) × Contains q.cases case × Meets logs case cut) ↔ Says n (HoldsAtCut logs cut) s
question_of_sentence n text s q logs cut is (asks_parts h) =
    subst (λ (t : Sentence). ((case : List Conjunct) × Contains q.cases case × Meets logs case cut)
    ↔ Says n (HoldsAtCut logs cut) t) (one_said text (of_parts h.sentence) s h.text_is is)
    (subst (λ (p : QuestionCases). ((case : List Conjunct) × Contains p.cases case × Meets logs case cut)
    ↔ PartsSay n (HoldsAtCut logs cut) h.sentence) (sym h.is)
    (question_means n h.sentence h.picks logs cut h.picks_are))
question_of_sentence n text s q logs cut is (asks_node p f short said low e) =
    subst (λ (t : Sentence). ((case : List Conjunct) × Contains q.cases case × Meets logs case cut)
    ↔ Says n (HoldsAtCut logs cut) t) (one_said text (of_node p f) s said is)
    (subst (λ (x : QuestionCases). ((case : List Conjunct) × Contains x.cases case × Meets logs case cut)
    ↔ Says n (HoldsAtCut logs cut) (of_node p f)) (sym e) (node_means n p f logs cut low))
