-- It gives the block back to the heap, which it came from. Assumes `Logic`.
use Rattle.test_refusing.proofs.Steps.{◌≡◌, ℕ, ◌+◌, ◌++◌, [], ◌∷◌, refl, w64, proved, Al, α, token, Gives, at_gives}
use Rattle.test_refusing.proofs.Steps.{Gives-goes, Gives-Gives, owned_block, Args, Fn, a_type, dnil, dcons, vunit, vint}
use Rattle.test_refusing.proofs.Steps.{inst_fn, sem, never, fst∗, ftrue, flft, size, align, capped, up, ◌⊑◌, ⊑_trans}
use Rattle.test_refusing.proofs.Steps.{fact, tables, ‵, raw, prop, ◌⊛◌, later, given, ◌$◌, ◌∵◌, !, qed, done, move, keep}
use Rattle.test_refusing.proofs.Steps.{use1, use3, split, split3, join, fsplit, fjoin, feq_i, learn, await, regoal}
use Rattle.test_refusing.proofs.Steps.{suffices, enter, of_opd, unit_lit, addr, stop, fld, no_more, and_then, returns}
use Rattle.test_refusing.proofs.Steps.{alloc_all, pass_all, free_all, look_at, get, through, sets, lands_as, usize}
use Rattle.test_refusing.proofs.Steps.{RawPtr, RefOf, yes, unhide, bounded, param, uint_vals, uint_Tells, owns, Ptr}
use Rattle.test_refusing.proofs.Steps.{block_ptr, null_ptr, in_a_block, rawptr_vals, rawptr_Tells, shr_vals, Slot, plain}
use Rattle.test_refusing.proofs.Steps.{types_at, heard, nothing, calls_at, Ended, framed, Stays, stay_dropped}
use Rattle.test_refusing.proofs.Steps.{Goes-dropped, walk_of, ends_at}
use prog.Wp.{WpFn}
use Rattle.test_refusing.specs.contracts.refusing.Refusing as refusing
use Rattle.test_refusing.specs.contracts.refusing.RefusingAllocator.deallocate as f
use Rattle.test_refusing.proofs.refusing.RefusingAllocator.deallocate.Statement.{statement}
use Rattle.test_refusing.proofs.refusing.RefusingAllocator.deallocate.Code as code

module _ (Z : Al) where
  abbrev args : Args
  args = bounded (a_type ∷ []) (Z.row, tt) (dcons Z.d (dcons Z.drops dnil))

  abbrev here : Fn
  here = inst_fn args code.function

  abbrev ended : Ended
  ended = f.ended Z.row Z.g Z.d Z.drops

  abbrev self : Slot 2
  self = RefOf (0 ∷ []) tt (plain (λ _. refusing.the_row (param 0 Z.row))) (λ _. tt)

  abbrev stayed : Stays ended.signature.params ended.kept
  stayed = (
    stay_dropped self yes,
    (
      stay_dropped (plain (λ _. RawPtr)) yes,
      (stay_dropped (plain (λ _. usize)) yes, (stay_dropped (plain (λ _. usize)) yes, tt)),
    ),
  )

pub deallocate_spec : {M : Type 1} → statement M
deallocate_spec 𝓤 𝓛 𝓜 𝓡 wired Y L g d d' met _ =
    let Z : Al = record { row = Y; laws = L; g = g; d = d; drops = d' } in
    let c = f.clauses Y g d d' 𝓛 𝓜.mem 𝓡.returns in let W = walk_of 𝓛 (ended Z) (stayed Z) c in
    let 𝓣 = tables 𝓤 𝓛.H 𝓜 𝓡 𝓡.env in
    let number = Goes-dropped 𝓛 2 (plain (λ _. usize)) yes (λ κs x w. refl) in
    proved 𝓛 (ended Z) (stayed Z) c 𝓜 𝓡 (
      Goes-dropped 𝓛 2 (self Z) yes (λ κs x w. refl),
      (Goes-dropped 𝓛 2 (plain (λ _. RawPtr)) yes (λ κs x w. refl), (number, (number, tt))),
    )
    (f.Key.name (args Z)) (here Z) (code.unfolded 𝓤 𝓛.H 𝓜 𝓡 wired (Y, tt) d d')
    (λ κs. (shr_vals, (rawptr_vals, (uint_vals w64, (uint_vals w64, tt))))) (λ κs.
    ((λ r vs s. s.0), (rawptr_Tells, (uint_Tells w64, (uint_Tells w64, tt))))) (λ κs qs bounds a τ are.
    let κ = κs.0 in let q = qs.0 in let r = a.0 in let n = a.1.1.0 in let al = a.1.1.1.0 in
    let y : Ptr → W.Ghost = λ p. (
      (
        κs,
        qs,
        bounds,
        (r, (p, (n, (al, tt)))),
        (shr_vals r, (rawptr_vals p, (uint_vals w64 n, (uint_vals w64 al, tt)))),
      ),
      τ,
    ) in
    let Said = (capped (size τ) ≡ n) × (capped (align τ) ≡ al) in
    let h = r.now.heap in let at_heap : ℕ × ℕ = (r.ref_ptr.0, r.ref_ptr.1 + up (align (α Z)) (up 8 0 + 8)) in
    let other = ‵ (flft κs.1.0 qs.1.0) ⊛ ‵ ftrue in
    qed 𝓛 (((‵ (flft κ q) ⊛ other) ⊛ ‵ (owns (types_at (ended Z).signature.params κs) a (y a.1.0).0.4))
    ∷ (raw (fact 𝓤 (κs.1.0 ⊑ Y.lives)) ⊛ raw (fact 𝓤 Said) ⊛ ‵ (owned_block (token Z h) τ a.1.0)) ∷ []) ∵
    move ! (1 ∷ []) $ split3 ! $ heard ! _ (λ lives. heard ! _ (λ said.
    in_a_block ! a.1.0 (owned_block (token Z h) τ) (fst∗ 𝓤 (never 𝓤) (sem 𝓛 (token Z h τ null_ptr))) (λ b o e.
    regoal ! (λ p. prop (WpFn 𝓤 𝓛.H 𝓣.C 𝓣.Λ (here Z) (shr_vals r
    ++ (rawptr_vals p ++ (vint w64 n ∷ vint w64 al ∷ []))) (W.post (y p)))) e refl $
    fsplit ! $ move ! (2 ∷ []) $ split ! $ split ! $ move ! (2 ∷ []) $ fsplit ! $ fsplit ! $ move ! (1
    ∷ []) $ unhide ! $ fsplit ! $ fsplit ! $ move ! (1 ∷ []) $ fsplit ! $
    keep ! (8 ∷ 9 ∷ 0 ∷ 6 ∷ 7 ∷ []) $
    -- [the block; the right to free it; the heap; the token of `&self`; the other token]
    enter ! _ _ _ _ _ $ alloc_all ! (λ l. pass_all ! refl (
      (tt, tt),
      ((tt, tt), ((tt, record { fits = are.1.1.0.1 }), ((tt, record { fits = are.1.1.1.0.1 }), tt))),
    ) $
    sets ! (addr ! (through ! refl (fld ! refl (stop !)))) refl (tt, tt) $
    move ! (2 ∷ 3 ∷ []) $ join ! $ move ! (1 ∷ 2 ∷ 0 ∷ []) $
    use3 𝓛 (raw _) (Gives-goes Z 𝓛 𝓜.mem 𝓡.returns κ q at_heap h (⊑_trans κ κs.1.0 Y.lives bounds.0 lives) b o n al τ
    said.0 said.1 are.1.1.0.1 are.1.1.1.0.1) $
    calls_at ! (framed 𝓤 𝓛.H 𝓜 𝓣) (Gives Z 𝓛 𝓜.mem 𝓡.returns) (met.deallocate d')
    (at_gives Z 𝓛 𝓜.mem 𝓡.returns κ q at_heap h b o n al τ)
    (and_then ! (get ! refl) (and_then ! (get ! refl) (and_then ! (get ! refl) (and_then ! (get ! refl) (no_more !)))))
    (λ v.
    use1 𝓛 (later (given (v ≡ vunit) (‵ (flft κ q)))) (Gives-Gives Z 𝓛 𝓜.mem 𝓡.returns κ q at_heap h b o n al τ v) $
    await ! tt $ learn ! (λ u.
    lands_as ! u refl (tt, tt) $ sets ! (of_opd ! (unit_lit !)) refl (
      tt,
      tt,
    ) $ returns ! (look_at ! 0 refl) $ free_all ! refl $
    suffices ! _ (ends_at 𝓛 (ended Z) (stayed Z) c (y (block_ptr b o)) vunit tt (tt, (tt, (tt, (tt, tt)))) (
      tt,
      (tt, (tt, (tt, tt))),
    )) $
    nothing ! $ feq_i ! _ (vunit ∷ []) _ refl $ nothing ! $ nothing ! $ fjoin ! $ nothing ! $ fjoin ! $ nothing ! $
    fjoin ! $ nothing ! $ fjoin ! $ join ! $
    move ! (2 ∷ 3 ∷ []) $ join ! $ join ! $ done !)))))))
