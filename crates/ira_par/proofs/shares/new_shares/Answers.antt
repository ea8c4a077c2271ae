use Rattle.std.proofs.Common.{◌≡◌, ◌++◌, ◌∷◌, [], inl, inr, List, All, get_or, length, sym, subst, rules, arith}
use Rattle.std.proofs.lemmas.Bool.{cases_lt}
use Rattle.std.proofs.lemmas.Grind.{common_steps}
use Rattle.ira_par.specs.Share.{Share}
use Rattle.ira_par.proofs.shares.new_shares.Goals as goal

all_pushed : (P : Share → Type 0) (shares : List Share) (share : Share) → All P shares → P share
    → All P (shares ++ share ∷ [])
all_pushed P shares share all holds k d l = elim (cases_lt k (length shares)) [
  | inl below ↦
      let same : get_or (shares ++ share ∷ []) k d ≡ get_or shares k d = grind (arith, common_steps) in
      subst P (sym same) (all k d below)
  | inr top ↦
      let same : get_or (shares ++ share ∷ []) k d ≡ share = grind (arith, common_steps) in subst P (sym same) holds
]

pub loop-preserved : goal.loop-preserved
loop-preserved g c = record {
  count = search rules;
  room = subst (λ (shares : List Share). All (λ share. share.places ≡ c.args.places) shares)
      (sym c.in_ok-push.ensures.items)
      (all_pushed (λ share. share.places ≡ c.args.places) c.loop.shares.items c.in_ok-new.field-0
      c.loop.invariant.room c.in_ok-new.ensures);
}
