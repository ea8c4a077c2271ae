-- The room is cut at the pointer that is moved on. Assumes `Logic`.
use Rattle.std.proofs.Common.{◌≡◌, ◌+◌, ◌-◌, ◌^◌, ◌<◌, ◌≤◌, ◌%◌, MatchOption, List, [], ◌∷◌, ◌++◌, refl, sym, ap, ◌∙◌, arith, lit<, nltb→le, ltb→lt, w64, Some, None}
use mir.Syntax.{offset}
use mir.Val.{Val, vint, vptr, vcons, vnil, op2_val}
use base.Logic.{id⊢, via}
use contract.Monad.{fact}
use contract.Running.{tables}
use prog.Wp.{WpFn}
use types.Kit.{Sq, ‵, raw, prop, at_ret, ◌⊛◌, ◌$◌, ◌∵◌, !, qed, done, move, keep, drop, use0, use1, use2, split, join, fsplit, fjoin, regoal, suffices}
use types.Match.{live}
use types.Part.{agg, whole, sub}
use types.Run.{enter, of_opd, lit, bin, fld, stop, first, blocks, branches, skips, exec, no_more, and_then, returns, returns_within}
use types.ByLocal.{alloc_all, pass_all, free_all, look_at, get, get_in, sets, sets_last, is, env}
use denote.Builtin.{usize}
use denote.Exit.{yes}
use denote.RattleType.{RattleType, owns}
use denote.RawPtr.{Ptr, block_ptr, in_a_block, ◌+ₚ◌}
use denote.Signature.{plain, types_at}
use denote.Steps.{nothing, heard}
use denote.Struct.Tuple.{Tuple}
use denote.Triple.Entry.{alive}
use denote.Triple.Walked.{Stays, walk_of, says, stay_dropped, Goes-dropped, ends_at}
use Rattle.std.proofs.option.Made.{Some-of, none_of}
use Rattle.std.proofs.alloc.Calls.{Goes-blank}
use Rattle.std.proofs.raw_atomic.Walks.{proved_at}
use Rattle.std_alloc.proofs.Pairs.{pair_of, pair_val}
use Rattle.linked_list_allocator.proofs.Nodes.{cuts, resized}
use Rattle.linked_list_allocator.proofs.Values.{sized_val, sized_own, sized_told, sized_made}
use Rattle.std.specs.contracts.option.Option as option
use Rattle.ira_lent.specs.Room.{lies_free}
use Rattle.ira_lent.specs.contracts.room.Room as room
use Rattle.ira_lent.specs.contracts.room.Room.cut as f
use Rattle.ira_lent.proofs.room.Room.cut.Statement.{statement}
use Rattle.ira_lent.proofs.room.Room.cut.Code as code

abbrev stayed : Stays f.ended.signature.params f.ended.kept
stayed = (stay_dropped _ yes, (stay_dropped _ yes, tt))

abbrev Room : RattleType
Room = room.the_row

abbrev Found : RattleType
Found = Tuple (option.the_row Room ∷ Room ∷ [])

pub cut_spec : {M : Type 1} → statement M
cut_spec 𝓤 𝓛 𝓜 𝓡 wired =
    let c = f.clauses 𝓛 𝓜.mem 𝓡.returns in let W = walk_of 𝓛 f.ended stayed c in let 𝓣 = tables 𝓤 𝓛.H 𝓜 𝓡 𝓡.env in
    proved_at 𝓛 f.ended stayed c 𝓜 𝓡
    (Goes-blank 𝓛 0 (plain (λ _. Room)) yes (λ κs x w. tt), (Goes-dropped 𝓛 0 (plain (λ _. usize)) yes (λ κs x w. refl), tt))
    f.Key.name code.function (code.unfolded 𝓤 𝓛.H 𝓜 𝓡 wired) (λ z are.
    let all = z.0.3.0 in let n = all.size in let k = z.0.3.1.0 in
    let Said : Found.Denot → Type 0 = λ found. MatchOption found.0 ((n < k) × (found.1.start ≡ all.start) × (found.1.size ≡ n))
    (λ front. (k ≤ n) × (front.start ≡ all.start) × (front.size ≡ k) × (found.1.start ≡ all.start +ₚ k)
    × (found.1.size ≡ n - k)) in
    let told = sized_told all.start n z.0.4.0 are.0.0 in
    let room_at : Ptr → _ → Room.Denot = λ p m. record { start = p; size = m } in
    let out : (found : Found.Denot) (v : Val) → Said found → Sq 𝓛 (‵ (Found.own_val found (v ∷ [])) ∷ []) (prop (W.post z v)) = λ found v said.
    suffices ! _ (ends_at 𝓛 f.ended stayed c z v found (tt, (tt, tt)) (tt, (tt, tt))) $ says ! said $
    nothing ! $ nothing ! $ join ! $ nothing ! $ join ! $ nothing ! $ done ! in
    qed 𝓛 ((raw (alive 𝓛 f.signature z.0.0 z.0.1) ⊛ ‵ (owns (types_at f.signature.params z.0.0) z.0.3 z.0.4)) ∷ (raw (fact 𝓤 (k % 16 ≡ 0)) ⊛ raw (fact 𝓤 (k < 2 ^ 63))) ∷ []) ∵
    split ! $ drop ! $ fsplit ! $ fsplit ! $ drop ! $
    -- [the room; the size that is asked for; what is required of it]
    keep ! (2 ∷ 0 ∷ []) $ split ! $ heard ! (k % 16 ≡ 0) (λ even. heard ! (k < 2 ^ 63) (λ small.
    in_a_block ! all.start (λ p. lies_free n p) (id⊢ 𝓤 _) (λ b o e.
    let at = block_ptr b o in
    regoal ! (λ (us : List Val). prop (WpFn 𝓤 𝓛.H 𝓣.C 𝓣.Λ code.function us (W.post z)))
    ((λ i. told.0 i ++ (are.1.0.0 i ++ [])) ∙ (λ i. sized_val (e i) n ∷ vint w64 k ∷ [])) refl $
    enter ! 𝓣.C 𝓣.Λ code.function (sized_val at n ∷ vint w64 k ∷ []) (W.post z) $
    alloc_all ! (λ l. pass_all ! refl ((tt, (tt, (record { fits = told.1 }, tt))), ((tt, record { fits = are.1.0.1 }), tt)) $
    sets ! (of_opd ! (get_in ! (fld ! refl (stop !)) (sub ! 0 refl (whole !)))) refl (tt, tt) $
    sets ! (of_opd ! (get_in ! (fld ! refl (stop !)) (sub ! 1 refl (whole !)))) refl (tt, record { fits = told.1 }) $
    sets ! (bin ! (get ! refl) (get ! refl) tt) refl (tt, tt) $
    first ! $ branches ! (get ! refl)
    (λ less.
    sets ! (agg ! (and_then ! (lit ! tt) (no_more !))) refl (tt, (record { fits = lit< tt }, tt)) $
    sets ! (agg ! (and_then ! (get ! refl) (and_then ! (get ! refl) (no_more !)))) refl (tt, (tt, (record { fits = told.1 }, tt))) $
    sets ! (agg ! (and_then ! (get ! refl) (and_then ! (get ! refl) (no_more !)))) refl (tt, ((record { fits = lit< tt }, tt), ((tt, (record { fits = told.1 }, tt)), tt))) $
    returns_within ! (W.post z) refl (look_at ! 0 refl) $ free_all ! refl $
    -- [the room]
    use0 𝓛 (‵ (sized_own at n (sized_val at n ∷ []))) (sized_made 𝓛 at n told.1) $ fjoin ! $
    use0 𝓛 (‵ ((option.the_row Room).own_val None (live 0 vnil ∷ []))) (none_of 𝓛 Room) $
    use2 𝓛 (‵ (Found.own_val (None, room_at at n) (pair_val (live 0 vnil) (sized_val at n) ∷ [])))
    (pair_of 𝓛 (option.the_row Room) Room None (room_at at n) (live 0 vnil) (sized_val at n)) $
    out (None, room_at at n) _ (ltb→lt n k less, sym e, refl))
    (λ more. let enough : k ≤ n = nltb→le n k more in let next = block_ptr b (o + k) in
    let left : n - k < 2 ^ 64 = omega (arith, told.1) in
    let moved : op2_val offset (vptr b o) (vint w64 k) ≡ vptr b (o + k) = ap (vptr b) (omega arith) in
    let E = env code.Mir.locals l in
    skips ! $ exec ! 𝓣.C 𝓣.Λ E code.Mir.t-5 (at_ret E (W.post z)) $
    first ! $ blocks ! $ sets_last ! (is ! (bin ! (get ! refl) (get ! refl) tt) moved) refl (tt, tt) $
    exec ! 𝓣.C 𝓣.Λ E code.Mir.t-6 (at_ret E (W.post z)) $
    sets ! (of_opd ! (get ! refl)) refl (tt, tt) $
    sets ! (bin ! (get ! refl) (get ! refl) enough) refl (tt, record { fits = left }) $
    sets ! (agg ! (and_then ! (get ! refl) (and_then ! (get ! refl) (no_more !)))) refl (tt, (tt, (record { fits = left }, tt))) $
    sets ! (agg ! (and_then ! (get ! refl) (and_then ! (get ! refl) (no_more !)))) refl (tt, (tt, (record { fits = are.1.0.1 }, tt))) $
    sets ! (agg ! (and_then ! (lit ! tt) (and_then ! (get ! refl) (no_more !)))) refl (tt, (record { fits = lit< tt }, ((tt, (record { fits = are.1.0.1 }, tt)), tt))) $
    sets ! (agg ! (and_then ! (get ! refl) (and_then ! (get ! refl) (no_more !)))) refl
    (tt, ((record { fits = lit< tt }, ((tt, (record { fits = are.1.0.1 }, tt)), tt)), ((tt, (record { fits = left }, tt)), tt))) $
    returns ! (look_at ! 0 refl) $ free_all ! refl $
    -- [the room]
    use1 𝓛 (‵ (lies_free k at) ⊛ ‵ (lies_free (n - k) next)) (via 𝓤 _ (resized 𝓛 b o n (k + (n - k)) (omega (arith, enough))) (cuts 𝓛 b o k (n - k) even)) $
    split ! $ use0 𝓛 (‵ (sized_own at k (sized_val at k ∷ []))) (sized_made 𝓛 at k are.1.0.1) $ fjoin ! $
    use1 𝓛 (‵ ((option.the_row Room).own_val (Some (room_at at k)) (live 1 (vcons (sized_val at k) vnil) ∷ []))) (Some-of 𝓛 Room (room_at at k) (sized_val at k)) $
    move ! (1 ∷ []) $ use0 𝓛 (‵ (sized_own next (n - k) (sized_val next (n - k) ∷ []))) (sized_made 𝓛 next (n - k) left) $ fjoin ! $ move ! (1 ∷ 0 ∷ []) $
    use2 𝓛 (‵ (Found.own_val (Some (room_at at k), room_at next (n - k)) (pair_val (live 1 (vcons (sized_val at k) vnil)) (sized_val next (n - k)) ∷ [])))
    (pair_of 𝓛 (option.the_row Room) Room (Some (room_at at k)) (room_at next (n - k)) (live 1 (vcons (sized_val at k) vnil)) (sized_val next (n - k))) $
    out (Some (room_at at k), room_at next (n - k)) _ (enough, sym e, refl, ap (λ (p : Ptr). p +ₚ k) (sym e), refl)))))))
