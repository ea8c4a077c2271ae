-- A case that asks nodes of the logs alone has its candidates, place by place.
use Rattle.std.proofs.Common.{◌≡◌, ℕ, zero, suc, inl, inr, List, [], ◌∷◌, ◌++◌, Option, Some, None}
use Rattle.std.proofs.Common.{length, refl, sym, arith}
use Rattle.std.proofs.lemmas.List.{length_push}
use Rattle.ira_event.specs.Log.{Log}
use Rattle.ira_pred.specs.Case.{Conjunct}
use Rattle.ira_cert.specs.Conjuncts.{HasPlacesOf}
use Rattle.ira_cert.specs.Queues.{AreQueues}
use Rattle.ira_cert.proofs.CaseQueues.{AllFound, IsFound, found_more, found_all}
use Rattle.ira_cert.proofs.SomeVerdict.{candidates_at}
use Rattle.ira_cert.proofs.FoundVerdict.{is_asked}

-- what is found at the first n places
queues_below : (logs : List Log) (case : List Conjunct) (places : HasPlacesOf logs case) (n : ℕ)
    → (queues : List (Option (List ℕ))) × (length queues ≡ n) × AllFound (IsFound logs case) queues
queues_below logs case places zero = ([], refl, λ i found at. cc)
queues_below logs case places (suc n) =
    let below = queues_below logs case places n in
    elim (is_asked case n) [
      | inl asked ↦
          let c = candidates_at logs case places n asked in (
            below.0 ++ Some c.0 ∷ [],
            omega (arith, length_push below.0 (Some c.0), below.1),
            found_more (IsFound logs case) below.0 n (Some c.0) (sym below.1) below.2 c.1,
          )
      | inr none ↦ (
        below.0 ++ None ∷ [],
        omega (arith, length_push below.0 None, below.1),
        found_more (IsFound logs case) below.0 n None (sym below.1) below.2 none,
      )
    ]

pub some_queues : (logs : List Log) (case : List Conjunct) → HasPlacesOf logs case → (queues : List (Option (List ℕ)))
    × AreQueues logs case queues
some_queues logs case places = let found = queues_below logs case places (length logs) in
    (found.0, found_all logs case found.0 places found.1 found.2)
