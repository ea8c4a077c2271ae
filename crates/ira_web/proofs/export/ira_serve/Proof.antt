-- The room is taken over, and then passed on with the request. Assumes `Logic`.
use Rattle.std.proofs.Common.{◌≡◌, ℕ, ◌^◌, List, [], ◌∷◌, refl, ap, w32, w64}
use mir.Val.{Val, vint}
use base.Logic.{id⊢}
use base.Fml.{ftrue}
use contract.Monad.{fact}
use contract.Running.{tables}
use types.Kit.{‵, raw, ◌⊛◌, some, later, ◌$◌, ◌∵◌, !, qed, done, move, drop, use0, use1, split, join, fsplit, fjoin, feq_i, flt_i, pick, await, suffices}
use types.Part.{agg, look_in, sub, whole}
use types.Run.{enter, addr, from, fld, hop, stop, no_more, and_then, returns}
use types.ByLocal.{alloc_all, pass_all, free_all, look_at, get, get_in, sets, lands_as}
use denote.Builtin.{u8, u32, u64, usize, SliceRefOf, SliceRefMutOf}
use denote.Exit.{yes, left}
use denote.Laws.{Is, shows}
use denote.Plain.{uint_vals, uint_Tells, uint_Lawful}
use denote.RattleType.{owns}
use denote.RawPtr.{RawPtr, ptr_val, rawptr_vals, rawptr_Tells}
use denote.Shadow.{pure_l}
use denote.Signature.{Slot, plain, types_at}
use denote.Slice.{shr_slice_vals, mut_slice_vals}
use denote.Steps.{nothing, heard, peeks, only}
use denote.Triple.Call.{calls_at}
use denote.Triple.Clauses.{Lasts, lasts}
use denote.Triple.Entry.{alive}
use denote.Triple.Spec.{triple_of}
use denote.Triple.Table.{framed}
use denote.Triple.Walked.{Stay, Stays, walk_of, says, stay_dropped, Goes-dropped, ends_at}
use Rattle.std.proofs.raw_atomic.Walks.{proved}
use Rattle.linked_list_allocator.proofs.Values.{ptr_typed, sized_val, sized_own, sized_told, sized_made, sized_typed}
use Rattle.ira_lent.specs.Room.{lies_free}
use Rattle.ira_lent.specs.contracts.room.Room as room
use Rattle.ira_lent.specs.contracts.room.Room.from_raw_parts as g
use Rattle.ira_lent.proofs.room.Room.from_raw_parts.Met.{met as takes}
use Rattle.ira_web.specs.Serves.{MayBeServed}
use Rattle.ira_web.specs.contracts.export.serve_in as h
use Rattle.ira_web.proofs.export.serve_in.Met.{met as answers}
use Rattle.ira_web.specs.contracts.export.ira_serve as f
use Rattle.ira_web.proofs.export.ira_serve.Statement.{statement}
use Rattle.ira_web.proofs.export.ira_serve.Code as code

abbrev values : Slot 5
values = SliceRefOf (0 ∷ []) tt (plain (λ _. u64)) (λ _. tt)

abbrev bytes : Slot 5
bytes = SliceRefOf (1 ∷ []) tt (plain (λ _. u8)) (λ _. tt)

abbrev lengths : Slot 5
lengths = SliceRefOf (2 ∷ []) tt (plain (λ _. usize)) (λ _. tt)

abbrev out : Slot 5
out = SliceRefMutOf (3 ∷ []) tt (plain (λ _. u8)) (λ _. tt)

abbrev sizes : Slot 5
sizes = SliceRefMutOf (4 ∷ []) tt (plain (λ _. usize)) (λ _. tt)

-- it is passed on, and its last items are known
abbrev passed : (slot : Slot 5) → Stay slot yes
passed slot = record { fit = λ κs x ws. Unit {0}; has = λ κs x ws vs. left ((slot.row κs).exit yes) x ws }

abbrev stayed : Stays f.ended.signature.params f.ended.kept
stayed = (
  stay_dropped (plain (λ _. RawPtr)) yes,
  (
    stay_dropped (plain (λ _. usize)) yes,
    (stay_dropped values yes, (stay_dropped bytes yes, (stay_dropped lengths yes, (passed out, (passed sizes, tt))))),
  ),
)

pub ira_serve_spec : {M : Type 1} → statement M
ira_serve_spec 𝓤 𝓛 𝓜 𝓡 wired =
    let c = f.clauses 𝓛 𝓜.mem 𝓡.returns in let W = walk_of 𝓛 f.ended stayed c in
    let 𝓣 = tables 𝓤 𝓛.H 𝓜 𝓡 𝓡.env in
    proved 𝓛 f.ended stayed c 𝓜 𝓡 (
      Goes-dropped 𝓛 5 (plain (λ _. RawPtr)) yes (λ κs x w. refl),
      (
        Goes-dropped 𝓛 5 (plain (λ _. usize)) yes (λ κs x w. refl),
        (
          Goes-dropped 𝓛 5 values yes (λ κs x w. refl),
          (
            Goes-dropped 𝓛 5 bytes yes (λ κs x w. refl),
            (
              Goes-dropped 𝓛 5 lengths yes (λ κs x w. refl),
              (λ κs x w vs ok. 𝓛.laws.⇛_intro _, (λ κs x w vs ok. 𝓛.laws.⇛_intro _, tt)),
            ),
          ),
        ),
      ),
    )
    f.Key.name code.function (code.unfolded 𝓤 𝓛.H 𝓜 𝓡 wired)
    (λ κs. (rawptr_vals, (uint_vals w64, (shr_slice_vals, (shr_slice_vals, (shr_slice_vals, (mut_slice_vals, (mut_slice_vals, tt))))))))
    (λ κs. (rawptr_Tells, (uint_Tells w64, ((λ x vs p. p.0.0), ((λ x vs p. p.0.0), ((λ x vs p. p.0.0), ((λ x vs p. p.0.0), ((λ x vs p. p.0.0), tt)))))))) (λ κs qs bounds a n are.
    let start = a.0 in let size = a.1.0 in let slices = a.1.1 in let fits = are.1.0.1 in let within = are.1.1 in
    let y : W.Ghost = (
      (
        κs,
        qs,
        bounds,
        a,
        (
          rawptr_vals start,
          (
            uint_vals w64 size,
            (shr_slice_vals slices.0, (shr_slice_vals slices.1.0, (shr_slice_vals slices.1.1.0, (mut_slice_vals slices.1.1.1.0, (mut_slice_vals slices.1.1.1.1.0, tt))))),
          ),
        ),
      ),
      n,
    ) in
    let G = triple_of 𝓛 g.signature (g.spec 𝓛 𝓜.mem 𝓡.returns) in
    let H = triple_of 𝓛 h.signature (h.spec 𝓛 𝓜.mem 𝓡.returns) in
    let z : G.Ghost = ((tt, tt, tt, (start, (size, tt)), (rawptr_vals start, (uint_vals w64 size, tt))), tt) in
    qed 𝓛 ((raw (alive 𝓛 f.signature κs qs) ⊛ ‵ (owns (types_at f.signature.params κs) a y.0.4)) ∷ ‵ (lies_free size start) ∷ []) ∵
    split ! $ move ! (1 ∷ []) $ fsplit ! $ drop ! $ fsplit ! $ drop ! $
    -- [what the slices own; the tokens; the room]
    enter ! _ _ _ _ _ $ alloc_all ! (λ l. pass_all ! refl (
      ptr_typed start,
      (
        (tt, record { fits = fits }),
        (
          (tt, (tt, (record { fits = within.0.0.1.0 }, tt))),
          (
            (tt, (tt, (record { fits = within.1.0.0.1.0 }, tt))),
            (
              (tt, (tt, (record { fits = within.1.1.0.0.1.0 }, tt))),
              ((tt, (tt, (record { fits = within.1.1.1.0.0.1.0 }, tt))), ((tt, (tt, (record { fits = within.1.1.1.1.0.0.1.0 }, tt))), tt)),
            ),
          ),
        ),
      ),
    ) $
    nothing ! $ flt_i ! size (2 ^ 64) fits $ feq_i ! (List Val) (vint w64 size ∷ []) (vint w64 size ∷ []) refl $ fjoin ! $ fjoin ! $
    feq_i ! (List Val) (ptr_val start ∷ []) (ptr_val start ∷ []) refl $ fjoin ! $ nothing ! $ join ! $ move ! (0 ∷ 3 ∷ []) $ join ! $
    use1 𝓛 (raw (G.pre z)) (id⊢ 𝓤 _) $
    calls_at ! (framed 𝓤 𝓛.H 𝓜 𝓣) G (takes 𝓤 𝓛 𝓜 𝓡 (code.calls-ira_lent::room::Room::from_raw_parts 𝓡.env wired)) z
    (and_then ! (get ! refl) (and_then ! (get ! refl) (no_more !))) (λ v.
    use1 𝓛 (later (some (λ (m : room.the_row.Denot). (‵ ftrue ⊛ ‵ (room.the_row.own_val m (v ∷ []))) ⊛
    some (λ (ws : Lasts g.ended tt z.0.3). ‵ (lasts g.ended tt z.0.3 ws) ⊛ raw (fact 𝓤 (m.size ≡ size)))))) (id⊢ 𝓤 _) $
    await ! tt $ pick ! (λ m. split ! $ move ! (1 ∷ []) $ pick ! (λ ws. split ! $ drop ! $ drop ! $ split ! $ drop ! $
    fsplit ! $ pure_l ! (sized_own m.start m.size (v ∷ [])) (λ told.
    let is = sized_told m.start m.size (v ∷ []) told in
    lands_as ! (ap only is.0) refl (sized_typed m.start m.size is.1) $
    -- [the room; what the slices own; the tokens]
    sets ! (addr ! (from ! (fld ! refl (hop ! (look_in ! 15 (sub ! 0 refl (whole !))) (stop !))))) refl (tt, tt) $
    sets ! (agg ! (and_then ! (get ! refl) (and_then ! (get_in ! (fld ! refl (stop !)) (sub ! 1 refl (whole !))) (no_more !)))) refl
    (tt, (tt, (record { fits = within.1.1.1.0.0.1.0 }, tt))) $
    sets ! (addr ! (from ! (fld ! refl (hop ! (look_in ! 13 (sub ! 0 refl (whole !))) (stop !))))) refl (tt, tt) $
    sets ! (agg ! (and_then ! (get ! refl) (and_then ! (get_in ! (fld ! refl (stop !)) (sub ! 1 refl (whole !))) (no_more !)))) refl
    (tt, (tt, (record { fits = within.1.1.1.1.0.0.1.0 }, tt))) $
    let x : H.Ghost = (
      (
        κs,
        qs,
        bounds,
        (m, slices),
        (
          sized_val m.start m.size ∷ [],
          (
            shr_slice_vals slices.0,
            (
              shr_slice_vals slices.1.0,
              (shr_slice_vals slices.1.1.0, (mut_slice_vals slices.1.1.1.0, (mut_slice_vals slices.1.1.1.1.0, tt))),
            ),
          ),
        ),
      ),
      tt,
    ) in
    let Answered : Lasts h.ended κs x.0.3 → ℕ → Type 0 = λ ws' r. MayBeServed slices.0.now slices.1.1.0.now slices.1.0.now ws'.1.1.1.1.0 ws'.1.1.1.1.1.0 r in
    use0 𝓛 (‵ (sized_own m.start m.size (sized_val m.start m.size ∷ []))) (sized_made 𝓛 m.start m.size is.1) $ fjoin ! $ fjoin ! $
    move ! (1 ∷ 0 ∷ []) $ join ! $ nothing ! $ move ! (1 ∷ 0 ∷ []) $ join ! $ use1 𝓛 (raw (H.pre x)) (id⊢ 𝓤 _) $
    calls_at ! (framed 𝓤 𝓛.H 𝓜 𝓣) H (answers 𝓤 𝓛 𝓜 𝓡 (code.calls-ira_web::export::serve_in 𝓡.env wired)) x
    (and_then ! (get ! refl) (and_then ! (get ! refl) (and_then ! (get ! refl) (and_then ! (get ! refl) (and_then ! (get ! refl) (and_then ! (get ! refl) (no_more !))))))) (λ w.
    use1 𝓛 (later (some (λ (r : ℕ). (raw (alive 𝓛 f.signature κs qs) ⊛ ‵ (u32.own_val r (w ∷ []))) ⊛
    some (λ (ws' : Lasts h.ended κs x.0.3). ‵ (lasts h.ended κs x.0.3 ws') ⊛ raw (fact 𝓤 (Answered ws' r)))))) (id⊢ 𝓤 _) $
    await ! tt $ pick ! (λ r. split ! $ move ! (1 ∷ []) $ pick ! (λ ws'. split ! $ move ! (1 ∷ []) $ heard ! (Answered ws' r) (λ served.
    -- [the last items; the tokens and the number]
    move ! (1 ∷ []) $ split ! $ move ! (1 ∷ []) $ peeks ! u32 (Is u32) (shows 𝓛 u32) r (w ∷ []) (λ stands.
    lands_as ! refl refl ((uint_Lawful 𝓛 w32).typed r _ stands).0 $ returns ! (look_at ! 0 refl) $ free_all ! refl $
    -- [the number; the tokens; the last items]
    suffices ! _ (ends_at 𝓛 f.ended stayed c y w r (tt, ws') (tt, (tt, (tt, (tt, (tt, (tt, (tt, tt)))))))) $ says ! served $
    move ! (2 ∷ []) $ nothing ! $ fjoin ! $ move ! (2 ∷ 0 ∷ 1 ∷ []) $ done !)))))))))))
