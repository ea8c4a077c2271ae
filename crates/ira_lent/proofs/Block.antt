-- The room that `take` gave, if it gave one, and a block for a type in it. Assumes `Logic`.
use Rattle.std.proofs.Common.{◌≡◌, ℕ, ◌^◌, ◌<◌, ◌≤◌, ◌%◌, [], ◌∷◌, ◌++◌, Option, Some, None, refl, sym, ap, subst, ◌∙◌, arith}
use seplogic.Ra.Ura.{Ura}
use mir.Syntax.{Ty, Width, w8, w16, w32, w64, w128}
use mir.Val.{Val, vcons, vnil, of_list, bytes}
use base.Logic.{ent, sep, wand, emp, via, fst∗}
use contract.Monad.{fact, fact_i}
use prog.Memory.{size, align, capped}
use prog.Align.{Dv, align_w, align-bytes}
use prog.Capped.{capped_is, capped_small}
use types.Logic.{Logic, sem}
use types.Kit.{‵, raw, ◌$◌, ◌∵◌, !, qed, done, move, drop, use0, fsplit, fpick, feq_l}
use types.Match.{live}
use denote.RattleType.{RattleType}
use denote.RawPtr.{block_ptr}
use denote.Shadow.{pure_l}
use denote.Steps.{only}
use Rattle.std.specs.contracts.option.Option as option
use Rattle.linked_list_allocator.proofs.Nodes.{retypes}
use Rattle.linked_list_allocator.proofs.Values.{sized_val, sized_own, sized_told}
use Rattle.ira_lent.specs.Room.{lies_free}
use Rattle.ira_lent.specs.contracts.room.Room as room

abbrev pub Room : RattleType
Room = room.the_row

abbrev pub Taken : RattleType
Taken = option.the_row Room

-- how it lies in the machine
abbrev pub taken_val : Room.Denot → Val
taken_val r = live 1 (vcons (sized_val r.start r.size) vnil)

pub by_option : {A : Type 0} {X : Type 1} (o : Option A) → (o ≡ None → X) → ((a : A) → o ≡ Some a → X) → X
by_option None none some = none refl
by_option (Some a) none some = some a refl

module _ {M : Type 1} {𝓤 : Ura M} (𝓛 : Logic 𝓤) where
  pub none_taken : (v : Val) → ent 𝓤 (sem 𝓛 (Taken.own_val None (v ∷ []))) (fact 𝓤 (v ≡ live 0 vnil))
  none_taken v =
      qed 𝓛 (‵ (Taken.own_val None (v ∷ [])) ∷ []) ∵ fpick ! (λ fields. fsplit ! $ feq_l ! (λ tagged. fpick ! (λ parts. fsplit ! $ feq_l ! (λ joined. drop ! $
      use0 𝓛 (raw (fact 𝓤 (v ≡ live 0 vnil))) (fact_i 𝓤 (v ≡ live 0 vnil) (emp 𝓤) (ap only tagged ∙ (λ i. live 0 (of_list (joined i))))) $ done !))))

  pub some_taken : (r : Room.Denot) (v : Val) → ent 𝓤 (sem 𝓛 (Taken.own_val (Some r) (v ∷ [])))
      (sep 𝓤 (fact 𝓤 ((v ≡ taken_val r) × (r.size < 2 ^ 64))) (sem 𝓛 (lies_free r.size r.start)))
  some_taken r v =
      qed 𝓛 (‵ (Taken.own_val (Some r) (v ∷ [])) ∷ []) ∵ fpick ! (λ fields. fsplit ! $ feq_l ! (λ tagged. fpick ! (λ parts. fsplit ! $ feq_l ! (λ joined. fsplit ! $
      move ! (1 ∷ []) $ drop ! $ fsplit ! $ pure_l ! (sized_own r.start r.size parts.0) (λ told.
      let is = sized_told r.start r.size parts.0 told in
      let at : v ≡ taken_val r = ap only tagged ∙ (λ i. live 1 (of_list (joined i))) ∙ (λ i. live 1 (of_list (is.0 i ++ []))) in
      use0 𝓛 (raw (fact 𝓤 ((v ≡ taken_val r) × (r.size < 2 ^ 64)))) (fact_i 𝓤 ((v ≡ taken_val r) × (r.size < 2 ^ 64)) (emp 𝓤) (at, is.1)) $ done !)))))

  in_units : (w : Width) → Dv (bytes w) 16
  in_units w8 = tt
  in_units w16 = tt
  in_units w32 = tt
  in_units w64 = tt
  in_units w128 = tt

  -- room for a type of n bytes, aligned to a
  pub makes_block : (τ : Ty) (n a b o m : ℕ) → capped (size τ) ≡ n → capped (align τ) ≡ a → n ≤ m → m % 16 ≡ 0 → n < 2 ^ 63
      → ent 𝓤 (sem 𝓛 (lies_free m (block_ptr b o))) (𝓛.H.room τ b o)
  makes_block τ n a b o m sized aligned fits even small =
      let short : size τ < 2 ^ 63 = capped_small (size τ) (subst (λ (k : ℕ). k < 2 ^ 63) (sym sized) small) in
      let exact : size τ ≡ n = sym (capped_is (size τ) (omega (arith, short))) ∙ sized in
      via 𝓤 _ (retypes 𝓛 b τ o m even (subst (λ (k : ℕ). k ≤ m) (sym exact) fits) (subst (λ (k : ℕ). Dv k 16) (sym (align-bytes τ)) (in_units (align_w τ))))
      (fst∗ 𝓤 (𝓛.H.room τ b o) (wand 𝓤 (𝓛.H.room τ b o) (sem 𝓛 (lies_free m (block_ptr b o)))))
