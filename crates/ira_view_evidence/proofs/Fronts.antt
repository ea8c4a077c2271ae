-- Lists that begin with others, and what stands after them.
use Rattle.std.proofs.Common.{◌≡◌, ℕ, ◌≤◌, List, [], ◌∷◌, ◌++◌, ◌∙◌, length, length-drop, take, drop, ◌-◌, refl, sym, ap, arith}
use Rattle.std.proofs.lemmas.List.{take-append-drop, length-take-le, take_all}
use Rattle.std.proofs.Math.Seq.{drop-append_seam}
use Rattle.ira_event.specs.declared.load.Load.{Load}
use Rattle.ira_view_evidence.specs.LinkCause.{BeginsWith, GoesOn, IsTwice}

-- what stands after a front of this length
pub drop_front : (n : ℕ) (loads front after : List Load) → length front ≡ n → loads ≡ front ++ after
    → drop n loads ≡ after
drop_front n loads front after l e = ap (drop n) e ∙ (ap (λ (k : ℕ). drop k (front ++ after)) (sym l)
    ∙ drop-append_seam front after)

-- what is left after so many
pub whole_rest : (loads : List Load) (n : ℕ) → take (length loads - n) (drop n loads) ≡ drop n loads
whole_rest loads n = take_all (length loads - n) (drop n loads) (omega (arith, length-drop n loads))

pub goes_from : (skipped passed : ℕ) (sent received : List Load) → skipped ≤ length sent → passed ≤ length received
    → BeginsWith (drop skipped sent) (drop passed received) → GoesOn skipped passed sent received
goes_from skipped passed sent received s p h = (
  take skipped sent,
  take passed received,
  length-take-le skipped sent s,
  length-take-le passed received p,
  record {
    after = drop skipped sent;
    rest = drop passed received;
    sent_is = sym (take-append-drop skipped sent);
    received_is = sym (take-append-drop passed received);
    goes_on = h;
  },
)

pub goes_to : (skipped passed : ℕ) (sent received : List Load) → GoesOn skipped passed sent received
    → BeginsWith (drop skipped sent) (drop passed received)
goes_to skipped passed sent received g =
    let r = g.4 in
    let e : drop skipped sent ≡ r.after = drop_front skipped sent g.0 r.after g.2 r.sent_is in
    let f : drop passed received ≡ r.rest = drop_front passed received g.1 r.rest g.3 r.received_is in
    (r.goes_on.0, e ∙ (r.goes_on.1 ∙ ap (λ (x : List Load). x ++ r.goes_on.0) (sym f)))

-- what was sent and received after so many, by their fronts
goes_after : (n m : ℕ) (sent received these those after rest : List Load) → length these ≡ n → length those ≡ m
    → sent ≡ these ++ after → received ≡ those ++ rest → GoesOn n m sent received → BeginsWith after rest
goes_after n m sent received these those after rest l k e f g =
    let h = goes_to n m sent received g in (
      h.0,
      sym (drop_front n sent these after l e)
          ∙ (h.1 ∙ ap (λ (z : List Load). z ++ h.0) (drop_front m received those rest k f)),
    )

pub twice_from : (load : Load) (before front rest sent received : List Load) → before ≡ front ++ load ∷ []
    → received ≡ load ∷ rest → GoesOn 0 1 sent received → IsTwice before sent received
twice_from load before front rest sent received e f g = (
  load,
  front,
  e,
  record {
    after = sent;
    rest = rest;
    sent_is = refl;
    received_is = f;
    goes_on = goes_after 0 1 sent received [] (load ∷ []) sent rest refl refl refl f g;
  },
)

pub twice_goes : (before sent received : List Load) → IsTwice before sent received → GoesOn 0 1 sent received
twice_goes before sent received h = ([], h.0 ∷ [], refl, refl, h.3)
