-- The room that `take` gave is handed out as room for the type that is asked for. Assumes `Logic`.
use Rattle.std.proofs.Common.{◌≡◌, ◌^◌, ◌<◌, ◌≤◌, ◌%◌, IfSome, true, false, [], ◌∷◌, Ok, Err, refl, subst, ◌∙◌, lit<, w64}
use mir.Val.{Val, vnil}
use base.Fml.{ftrue, froom}
use base.Logic.{id⊢}
use contract.Monad.{fact}
use contract.Running.{tables}
use prog.Memory.{size, align, capped}
use prog.Wp.{Wp, after_seq}
use types.Kit.{Sq, Post, any_q, post, ‵, raw, prop, at_ret, ◌⊛◌, some, later, ◌$◌, ◌∵◌, !, qed, done, move, drop, use0, use1, split, join, fjoin, pick, await, rewrite, suffices, group}
use types.Match.{live, vrt, in_variant}
use types.Part.{agg, whole, sub}
use types.Run.{enter, of_opd, lit, fld, stop, first, switches_on, exec, no_more, and_then, returns}
use types.ByLocal.{alloc_all, pass_all, free_all, look_at, get, get_in, get_tag, sets, sets_last, lands_as, env}
use denote.Builtin.{usize, RefOf}
use denote.Exit.{yes}
use denote.Plain.{uint_vals, uint_Tells}
use denote.RawPtr.{block_ptr, in_a_block}
use denote.Ref.{shr_vals}
use denote.Signature.{Slot, plain}
use denote.Steps.{nothing, heard}
use denote.Triple.Call.{calls_at}
use denote.Triple.Clauses.{lasts}
use denote.Triple.Entry.{alive, on_entry}
use denote.Triple.Spec.{triple_of}
use denote.Triple.Table.{framed}
use denote.Triple.Walked.{Stays, walk_of, stay_dropped, Goes-dropped, ends_at}
use Rattle.std.specs.Allocator.{block_if_ok}
use Rattle.std.proofs.alloc.Calls.{Answer, answer_val, Answer-typed, Answer-Ok, Answer-err}
use Rattle.std.proofs.VecSteps.Shapes.{after, head, arm_body}
use Rattle.std.proofs.raw_atomic.Walks.{proved}
use Rattle.ira_lent.specs.Room.{lies_free}
use Rattle.ira_lent.proofs.Block.{Room, Taken, taken_val, by_option, none_taken, some_taken, makes_block}
use Rattle.ira_lent.specs.contracts.lent.Lent as lent
use Rattle.ira_lent.specs.contracts.lent.Lent.take as g
use Rattle.ira_lent.proofs.lent.Lent.take.Met.{met}
use Rattle.ira_lent.specs.contracts.lent.LentAllocator.allocate as f
use Rattle.ira_lent.proofs.lent.LentAllocator.allocate.Statement.{statement}
use Rattle.ira_lent.proofs.lent.LentAllocator.allocate.Code as code

abbrev shared : Slot 1
shared = RefOf (0 ∷ []) tt (plain (λ _. lent.the_row)) (λ _. tt)

abbrev stayed : Stays f.ended.signature.params f.ended.kept
stayed = (stay_dropped shared yes, (stay_dropped _ yes, (stay_dropped _ yes, tt)))

pub allocate_spec : {M : Type 1} → statement M
allocate_spec 𝓤 𝓛 𝓜 𝓡 wired =
    let c = f.clauses 𝓛 𝓜.mem 𝓡.returns in let W = walk_of 𝓛 f.ended stayed c in let 𝓣 = tables 𝓤 𝓛.H 𝓜 𝓡 𝓡.env in
    let goes = Goes-dropped 𝓛 1 (plain (λ _. usize)) yes (λ κs x w. refl) in
    proved 𝓛 f.ended stayed c 𝓜 𝓡 (Goes-dropped 𝓛 1 shared yes (λ κs x w. refl), (goes, (goes, tt)))
    f.Key.name code.function (code.unfolded 𝓤 𝓛.H 𝓜 𝓡 wired)
    (λ κs. (shr_vals, (uint_vals w64, (uint_vals w64, tt)))) (λ κs. ((λ x vs s. s.0), (uint_Tells w64, (uint_Tells w64, tt)))) (λ κs qs bounds a τ are.
    let n = a.1.0 in let al = a.1.1.0 in
    let y : W.Ghost = ((κs, qs, bounds, a, (shr_vals a.0, (uint_vals w64 n, (uint_vals w64 al, tt)))), τ) in let vss = y.0.4 in
    let G = triple_of 𝓛 g.signature (g.spec 𝓛 𝓜.mem 𝓡.returns) in let z : G.Ghost = ((κs, qs, bounds, a, vss), tt) in
    let Fits : Room.Denot → Type 0 = λ r. (n ≤ r.size) × (r.size % 16 ≡ 0) × (n < 2 ^ 63) × (al ≤ 16) in
    let out : (v : Val) (res : Answer.Denot) → Sq 𝓛 (‵ (Answer.own_val res (v ∷ [])) ∷ ‵ (block_if_ok (λ _ _. ftrue) τ res) ∷ raw (alive 𝓛 f.signature κs qs) ∷ []) (prop (W.post y v)) = λ v res.
    suffices ! _ (ends_at 𝓛 f.ended stayed c y v res (tt, (tt, (tt, tt))) (tt, (tt, (tt, tt)))) $
    nothing ! $ nothing ! $ join ! $ nothing ! $ join ! $ nothing ! $ join ! $ move ! (3 ∷ 0 ∷ 1 ∷ 2 ∷ []) $ group ! 3 $ done ! in
    let Asked : Type 0 = (capped (size τ) ≡ n) × (capped (align τ) ≡ al) in
    qed 𝓛 (raw (on_entry 𝓛 f.signature κs qs a vss) ∷ raw (fact 𝓤 Asked) ∷ []) ∵
    move ! (1 ∷ []) $ heard ! Asked (λ asked. nothing ! $ move ! (1 ∷ 0 ∷ []) $ join ! $ use1 𝓛 (raw (G.pre z)) (id⊢ 𝓤 _) $
    enter ! _ _ _ _ _ $ alloc_all ! (λ l. pass_all ! refl ((tt, tt), ((tt, record { fits = are.1.0.1 }), ((tt, record { fits = are.1.1.0.1 }), tt))) $
    calls_at ! (framed 𝓤 𝓛.H 𝓜 𝓣) G (met 𝓤 𝓛 𝓜 𝓡 (code.calls-ira_lent::lent::Lent::take 𝓡.env wired)) z
    (and_then ! (get ! refl) (and_then ! (get ! refl) (and_then ! (get ! refl) (no_more !)))) (λ v.
    let E = env code.Mir.locals l in
    let onward : Post 𝓤 𝓛.H = any_q (after_seq 𝓤 𝓛.H (Wp 𝓤 𝓛.H 𝓣.C 𝓣.Λ E (after 2 (code.function).body) (post 𝓤 𝓛.H (at_ret E (W.post y)))) (post 𝓤 𝓛.H (at_ret E (W.post y)))) in
    use1 𝓛 (later (some (λ (x : Taken.Denot). (raw (alive 𝓛 f.signature κs qs) ⊛ ‵ (Taken.own_val x (v ∷ []))) ⊛
    some (λ (ws : Unit {0} × (Unit {0} × (Unit {0} × Unit {0}))). ‵ (lasts g.ended κs a ws) ⊛ raw (fact 𝓤 (IfSome x Fits)))))) (id⊢ 𝓤 _) $
    await ! tt $ pick ! (λ x. split ! $ move ! (1 ∷ []) $ pick ! (λ ws. split ! $ drop ! $ heard ! (IfSome x Fits) (λ fits. split ! $ move ! (1 ∷ []) $
    -- [what was taken; the token]
    by_option x
    (λ is. rewrite ! 0 (λ (o : Taken.Denot). ‵ (Taken.own_val o (v ∷ []))) is refl $
    use1 𝓛 (raw (fact 𝓤 (v ≡ live 0 vnil))) (none_taken 𝓛 v) $ heard ! (v ≡ live 0 vnil) (λ e.
    lands_as ! e refl (tt, (record { fits = lit< tt }, tt)) $
    first ! $ switches_on ! (get_tag ! (vrt ! refl (fld ! refl (stop !))) (whole !)) $ exec ! 𝓣.C 𝓣.Λ E (arm_body 1 (head (after 1 (code.function).body))) onward $
    sets ! (agg ! (no_more !)) refl (tt, tt) $
    sets_last ! (agg ! (and_then ! (lit ! tt) (and_then ! (get ! refl) (no_more !)))) refl (Answer-typed false 0 0) $
    exec ! 𝓣.C 𝓣.Λ E (after 2 (code.function).body) (at_ret E (W.post y)) $
    sets ! (of_opd ! (get ! refl)) refl (Answer-typed false 0 0) $ returns ! (look_at ! 0 refl) $ free_all ! refl $
    -- [the token]
    nothing ! $ use0 𝓛 (‵ (Answer.own_val (Err (record {})) (answer_val false 0 0 ∷ []))) (Answer-err 𝓛) $ out (answer_val false 0 0) (Err (record {}))))
    (λ r is. let Fit : Fits r = subst (λ (o : Taken.Denot). IfSome o Fits) is fits in
    let Is : Type 0 = (v ≡ taken_val r) × (r.size < 2 ^ 64) in
    rewrite ! 0 (λ (o : Taken.Denot). ‵ (Taken.own_val o (v ∷ []))) is refl $
    use1 𝓛 (raw (fact 𝓤 Is) ⊛ ‵ (lies_free r.size r.start)) (some_taken 𝓛 r v) $ split ! $ heard ! Is (λ taken.
    in_a_block ! r.start (λ p. lies_free r.size p) (id⊢ 𝓤 _) (λ b o at.
    use1 𝓛 (‵ (froom τ b o)) (makes_block 𝓛 τ n al b o r.size asked.0 asked.1 Fit.0 Fit.1 Fit.2) $
    lands_as ! (taken.0 ∙ (λ i. taken_val (record { start = at i; size = r.size }))) refl (tt, (record { fits = lit< tt }, ((tt, (record { fits = taken.1 }, tt)), tt))) $
    first ! $ switches_on ! (get_tag ! (vrt ! refl (fld ! refl (stop !))) (whole !)) $ exec ! 𝓣.C 𝓣.Λ E (arm_body 0 (head (after 1 (code.function).body))) onward $
    sets ! (of_opd ! (get_in ! (vrt ! refl (fld ! refl (fld ! refl (stop !)))) (sub ! 0 refl (in_variant ! 1 0 refl refl (whole !))))) refl (tt, tt) $
    sets_last ! (agg ! (and_then ! (lit ! tt) (and_then ! (get ! refl) (no_more !)))) refl (Answer-typed true b o) $
    exec ! 𝓣.C 𝓣.Λ E (after 2 (code.function).body) (at_ret E (W.post y)) $
    sets ! (of_opd ! (get ! refl)) refl (Answer-typed true b o) $ returns ! (look_at ! 0 refl) $ free_all ! refl $
    -- [the block; the token]
    nothing ! $ move ! (1 ∷ 0 ∷ []) $ fjoin ! $
    use0 𝓛 (‵ (Answer.own_val (Ok (block_ptr b o)) (answer_val true b o ∷ []))) (Answer-Ok 𝓛 b o) $ out (answer_val true b o) (Ok (block_ptr b o))))))))))))
