-- It refuses where the plan says so, and else answers what the heap answers. Assumes `Logic`.
use Rattle.test_refusing.proofs.Steps.{◌≡◌, ℕ, ◌+◌, Bool, true, false, [], ◌∷◌, Ok, Err, refl, ap, w64, proved, Al, α}
use Rattle.test_refusing.proofs.Steps.{token, Answer, answer_val, Answer-typed, Answer-Ok, Answer-err, Takes, at_takes}
use Rattle.test_refusing.proofs.Steps.{Answered, Takes-goes, Takes-gives, answers, block_if_ok, after, Ura, Args, Fn}
use Rattle.test_refusing.proofs.Steps.{a_type, dnil, dcons, Val, vptr, vbool, inst_fn, SProp, ent, id⊢, Lft, Share}
use Rattle.test_refusing.proofs.Steps.{ftrue, flft, Memory, size, align, capped, up, ◌⊑◌, fact, Routine, Logic, sem}
use Rattle.test_refusing.proofs.Steps.{⊑_trans, Fun, tables, Sq, ‵, prop, raw, ⋆, ◌⊛◌, some, later, given, at_ret, ◌$◌}
use Rattle.test_refusing.proofs.Steps.{◌∵◌, !, qed, done, move, keep, use0, use1, use2, split, join, fsplit, fjoin}
use Rattle.test_refusing.proofs.Steps.{feq_i, feq_l, pick, learn, await, suffices, updating, at_once, check, show, fsep}
use Rattle.test_refusing.proofs.Steps.{guard, agg, enter, lit, addr, stop, fld, no_more, and_then, first, branches}
use Rattle.test_refusing.proofs.Steps.{skips, exec, returns, returns_within, alloc_all, pass_all, free_all, look_at, get}
use Rattle.test_refusing.proofs.Steps.{through, sets, lands_as, env, bool, usize, RefOf, yes, hidden_shr, unhide}
use Rattle.test_refusing.proofs.Steps.{bounded, param, uint_vals, uint_Tells, owns, block_ptr, shr_vals, Slot, plain}
use Rattle.test_refusing.proofs.Steps.{types_at, heard, nothing, only, calls_at, Ended, triple_of, Contract, framed}
use Rattle.test_refusing.proofs.Steps.{Stays, stay_dropped, Goes-dropped, walk_of, ends_at}
use Rattle.test_refusing.specs.contracts.refusing.Plan as plan
use Rattle.test_refusing.specs.contracts.refusing.Plan.refuses as asks
use Rattle.test_refusing.proofs.refusing.Plan.refuses.Met as asks_met
use Rattle.test_refusing.specs.contracts.refusing.Refusing as refusing
use Rattle.test_refusing.specs.contracts.refusing.RefusingAllocator.allocate as f
use Rattle.test_refusing.proofs.refusing.RefusingAllocator.allocate.Statement.{statement}
use Rattle.test_refusing.proofs.refusing.RefusingAllocator.allocate.Code as code

module _ (Z : Al) where
  abbrev args : Args
  args = bounded (a_type ∷ []) (Z.row, tt) (dcons Z.d (dcons Z.drops dnil))

  abbrev here : Fn
  here = inst_fn args code.function

  abbrev ended : Ended
  ended = f.ended Z.row Z.g Z.d Z.drops

  abbrev self : Slot 2
  self = RefOf (0 ∷ []) tt (plain (λ _. refusing.the_row (param 0 Z.row))) (λ _. tt)

  abbrev stayed : Stays ended.signature.params ended.kept
  stayed = (stay_dropped self yes, (stay_dropped (plain (λ _. usize)) yes, (stay_dropped (plain (λ _. usize)) yes, tt)))

module _ {M : Type 1} {𝓤 : Ura M} (𝓛 : Logic 𝓤) (at_mem : Memory → SProp 𝓤) (run : Routine
    → Fun 𝓤) (κ : Lft) (q : Share) (p : ℕ × ℕ) (x : plan.the_row.Denot) where
  abbrev Asks : Contract 𝓤
  Asks = triple_of 𝓛 asks.signature (asks.spec 𝓛 at_mem run)

  abbrev at_asks : Asks.Ghost
  at_asks = (((κ, tt), (q, tt), tt, (record { ref_ptr = p; now = x }, tt), (vptr p.0 p.1 ∷ [], tt)), tt)

  asks-goes : ent 𝓤 (⋆ 𝓛 (‵ (hidden_shr plan.the_row κ x p.0 p.1) ∷ ‵ (flft κ q) ∷ [])) (Asks.pre at_asks)
  asks-goes =
      qed 𝓛 (‵ (hidden_shr plan.the_row κ x p.0 p.1) ∷ ‵ (flft κ q) ∷ []) ∵
      feq_i ! _ (vptr p.0 p.1 ∷ []) _ refl $ fjoin ! $ nothing ! $ move ! (1 ∷ 0 ∷ []) $ fjoin ! $ nothing ! $ move ! (2
      ∷ 0 ∷ []) $ join ! $ join ! $ nothing ! $ move ! (1 ∷ []) $ done !

  asks-gives : (v : Val) → ent 𝓤 (Asks.post at_asks v)
      (⋆ 𝓛 (later (some (λ (z : Bool). given (v ≡ vbool z) (‵ (flft κ q)))) ∷ []))
  asks-gives v =
      qed 𝓛 (raw (Asks.post at_asks v) ∷ []) ∵ updating ! $
      use1 𝓛 (later (some (λ (z : Bool). ((‵ (flft κ q) ⊛ ‵ ftrue) ⊛ ‵ (bool.own_val z (v ∷ []))) ⊛ some
      (λ (ws : Unit {0} × Unit {0}). ‵ (fsep ftrue ftrue) ⊛ ‵ ftrue)))) (id⊢ 𝓤 _) $
      await ! tt $ pick ! (λ z.
      split ! $ split ! $ split ! $ move ! (2 ∷ []) $ feq_l ! (λ e.
      at_once ! $ show ! (λ (y : Bool). guard 𝓤 (v ≡ vbool y) (sem 𝓛 (flft κ q))) z $ check ! (ap only e) $ keep !
      (0 ∷ []) $ done !))

pub allocate_spec : {M : Type 1} → statement M
allocate_spec 𝓤 𝓛 𝓜 𝓡 wired Y L g d d' met _ =
    let Z : Al = record { row = Y; laws = L; g = g; d = d; drops = d' } in
    let c = f.clauses Y g d d' 𝓛 𝓜.mem 𝓡.returns in let W = walk_of 𝓛 (ended Z) (stayed Z) c in
    let 𝓣 = tables 𝓤 𝓛.H 𝓜 𝓡 𝓡.env in
    let number = Goes-dropped 𝓛 2 (plain (λ _. usize)) yes (λ κs x w. refl) in
    proved 𝓛 (ended Z) (stayed Z) c 𝓜 𝓡 (Goes-dropped 𝓛 2 (self Z) yes (λ κs x w. refl), (number, (number, tt)))
    (f.Key.name (args Z)) (here Z) (code.unfolded 𝓤 𝓛.H 𝓜 𝓡 wired (Y, tt) d d')
    (λ κs. (shr_vals, (uint_vals w64, (uint_vals w64, tt)))) (λ κs.
    ((λ r vs s. s.0), (uint_Tells w64, (uint_Tells w64, tt)))) (λ κs qs bounds a τ are.
    let κ = κs.0 in let q = qs.0 in let r = a.0 in let n = a.1.0 in let al = a.1.1.0 in
    let y : W.Ghost = ((κs, qs, bounds, a, (shr_vals r, (uint_vals w64 n, (uint_vals w64 al, tt)))), τ) in
    let Said = (capped (size τ) ≡ n) × (capped (align τ) ≡ al) in
    let h = r.now.heap in let b = r.ref_ptr.0 in let at_plan = r.ref_ptr.1 + up 8 0 in
    let at_heap = r.ref_ptr.1 + up (align (α Z)) (up 8 0 + 8) in
    let other = ‵ (flft κs.1.0 qs.1.0) ⊛ ‵ ftrue in
    let out : (v : Val) (res : Answer.Denot)
    → Sq 𝓛 (‵ (Answer.own_val res (v ∷ [])) ∷ ‵ (block_if_ok (token Z h) τ res) ∷ ‵ (flft κ q) ∷ other
    ∷ []) (prop (W.post y v)) = λ v res.
    suffices ! _ (ends_at 𝓛 (ended Z) (stayed Z) c y v res (tt, (tt, (tt, tt))) (tt, (tt, (tt, tt)))) $
    nothing ! $ nothing ! $ fjoin ! $ nothing ! $ fjoin ! $ nothing ! $ fjoin ! $ join ! $ move ! (2 ∷ 3
    ∷ []) $ join ! $ join ! $ done ! in
    qed 𝓛 (((‵ (flft κ q) ⊛ other) ⊛ ‵ (owns (types_at (ended Z).signature.params κs) a y.0.4))
    ∷ (raw (fact 𝓤 (κs.1.0 ⊑ Y.lives)) ⊛ raw (fact 𝓤 Said)) ∷ []) ∵
    move ! (1 ∷ []) $ split ! $ heard ! _ (λ lives. heard ! _ (λ said.
    split ! $ split ! $ move ! (2 ∷ []) $ fsplit ! $ fsplit ! $ move ! (1
    ∷ []) $ unhide ! $ fsplit ! $ fsplit ! $ move ! (1 ∷ []) $ fsplit !
    $ keep ! (2 ∷ 6 ∷ 0 ∷ 7 ∷ []) $
    -- [the plan; the token of `&self`; the heap; the other token]
    enter ! _ _ _ _ _ $ alloc_all ! (λ l. pass_all ! refl (
      (tt, tt),
      ((tt, record { fits = are.1.0.1 }), ((tt, record { fits = are.1.1.0.1 }), tt)),
    ) $
    sets ! (addr ! (through ! refl (fld ! refl (stop !)))) refl (tt, tt) $
    use2 𝓛 (raw _) (asks-goes 𝓛 𝓜.mem 𝓡.returns κ q (b, at_plan) r.now.plan) $
    calls_at ! (framed 𝓤 𝓛.H 𝓜 𝓣) (Asks 𝓛 𝓜.mem 𝓡.returns κ q (b, at_plan) r.now.plan)
    (asks_met.met 𝓤 𝓛 𝓜 𝓡 (code.calls-test_refusing::refusing::Plan::refuses 𝓡.env wired))
    (at_asks 𝓛 𝓜.mem 𝓡.returns κ q (b, at_plan) r.now.plan)
    (and_then ! (get ! refl) (no_more !)) (λ v.
    use1 𝓛 (later (some (λ (z : Bool). given (v ≡ vbool z) (‵ (flft κ q)))))
    (asks-gives 𝓛 𝓜.mem 𝓡.returns κ q (b, at_plan) r.now.plan v) $ await ! tt $ pick ! (λ z. learn ! (λ e.
    lands_as ! e refl (tt, tt) $
    first ! $ branches ! (get ! refl)
    (λ yes. sets ! (agg ! (no_more !)) refl (tt, tt) $
    sets ! (agg ! (and_then ! (lit ! tt) (and_then ! (get ! refl) (no_more !)))) refl (Answer-typed false 0 0) $
    returns_within ! (W.post y) refl (look_at ! 0 refl) $ free_all ! refl $ keep ! (0 ∷ 2 ∷ []) $
    nothing ! $ use0 𝓛 (‵ (Answer.own_val (Err (record {})) (answer_val false 0 0 ∷ []))) (Answer-err 𝓛) $ out
    (answer_val false 0 0) (Err (record {})))
    (λ no. skips ! $ exec ! 𝓣.C 𝓣.Λ (env (here Z).locals l) (after 3 (here Z).body) (at_ret _ (W.post y)) $
    sets ! (addr ! (through ! refl (fld ! refl (stop !)))) refl (tt, tt) $ move ! (1 ∷ 0 ∷ []) $
    use2 𝓛 (raw _) (Takes-goes Z 𝓛 𝓜.mem 𝓡.returns κ q (
      b,
      at_heap,
    ) h (⊑_trans κ κs.1.0 Y.lives bounds.0 lives) n al τ said.0 said.1 are.1.0.1 are.1.1.0.1) $
    calls_at ! (framed 𝓤 𝓛.H 𝓜 𝓣) (Takes Z 𝓛 𝓜.mem 𝓡.returns) (met.allocate d')
    (at_takes Z 𝓛 𝓜.mem 𝓡.returns κ q (b, at_heap) h n al τ)
    (and_then ! (get ! refl) (and_then ! (get ! refl) (and_then ! (get ! refl) (no_more !)))) (λ w.
    use1 𝓛 (later (raw (Answered Z 𝓛 𝓜.mem 𝓡.returns h τ w) ⊛ ‵ (flft κ q)))
    (Takes-gives Z 𝓛 𝓜.mem 𝓡.returns κ q (b, at_heap) h n al τ w) $ await ! tt $ split ! $
    answers Z ! 𝓜.mem 𝓡.returns h τ w
    (λ b o e. fjoin ! $ lands_as ! e refl (Answer-typed true b o) $ returns ! (look_at ! 0 refl) $ free_all ! refl $
    use0 𝓛 (‵ (Answer.own_val (Ok (block_ptr b o)) (answer_val true b o ∷ []))) (Answer-Ok 𝓛 b o) $ out
    (answer_val true b o) (Ok (block_ptr b o)))
    (λ e. lands_as ! e refl (Answer-typed false 0 0) $ returns ! (look_at ! 0 refl) $ free_all ! refl $
    nothing ! $ use0 𝓛 (‵ (Answer.own_val (Err (record {})) (answer_val false 0 0 ∷ []))) (Answer-err 𝓛) $ out
    (answer_val false 0 0) (Err (record {}))))))))))))
