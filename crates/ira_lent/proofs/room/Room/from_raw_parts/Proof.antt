-- The room comes with the pointer. Assumes `Logic`.
use Rattle.std.proofs.Common.{[], ◌∷◌, refl, w64}
use types.Kit.{‵, raw, ◌$◌, ◌∵◌, !, qed, done, drop, use0, join, fjoin, suffices}
use types.Part.{agg}
use types.Run.{enter, no_more, and_then, returns}
use types.ByLocal.{alloc_all, pass_all, free_all, look_at, get, sets}
use denote.Builtin.{usize}
use denote.Exit.{yes}
use denote.Plain.{uint_vals, uint_Tells}
use denote.RawPtr.{RawPtr, rawptr_vals, rawptr_Tells}
use denote.Signature.{plain}
use denote.Steps.{nothing}
use denote.Triple.Entry.{on_entry}
use denote.Triple.Walked.{Stays, walk_of, says, stay_dropped, Goes-dropped, ends_at}
use Rattle.std.proofs.raw_atomic.Walks.{proved}
use Rattle.linked_list_allocator.proofs.Values.{ptr_typed, sized_val, sized_own, sized_made}
use Rattle.std_alloc.proofs.ResultValues.{and_tt}
use Rattle.ira_lent.specs.Room.{lies_free}
use Rattle.ira_lent.specs.contracts.room.Room as room
use Rattle.ira_lent.specs.contracts.room.Room.from_raw_parts as f
use Rattle.ira_lent.proofs.room.Room.from_raw_parts.Statement.{statement}
use Rattle.ira_lent.proofs.room.Room.from_raw_parts.Code as code

abbrev stayed : Stays f.ended.signature.params f.ended.kept
stayed = (stay_dropped _ yes, (stay_dropped _ yes, tt))

pub from_raw_parts_spec : {M : Type 1} → statement M
from_raw_parts_spec 𝓤 𝓛 𝓜 𝓡 wired =
    let c = f.clauses 𝓛 𝓜.mem 𝓡.returns in let W = walk_of 𝓛 f.ended stayed c in
    proved 𝓛 f.ended stayed c 𝓜 𝓡
    (Goes-dropped 𝓛 0 (plain (λ _. RawPtr)) yes (λ κs x w. refl), (Goes-dropped 𝓛 0 (plain (λ _. usize)) yes (λ κs x w. refl), tt))
    f.Key.name code.function (code.unfolded 𝓤 𝓛.H 𝓜 𝓡 wired)
    (λ κs. (rawptr_vals, (uint_vals w64, tt))) (λ κs. (rawptr_Tells, (uint_Tells w64, tt))) (λ κs qs bounds a m are.
    let start = a.0 in let n = a.1.0 in let fits = are.1.0.1 in
    let y : W.Ghost = ((κs, qs, bounds, a, (rawptr_vals start, (uint_vals w64 n, tt))), m) in
    let taken : room.the_row.Denot = record { start = start; size = n } in
    qed 𝓛 (raw (on_entry 𝓛 f.signature κs qs a y.0.4) ∷ ‵ (lies_free n start) ∷ []) ∵ drop ! $
    enter ! _ _ _ _ _ $ alloc_all ! (λ l. pass_all ! refl (ptr_typed start, ((tt, record { fits = fits }), tt)) $
    sets ! (agg ! (and_then ! (get ! refl) (and_then ! (get ! refl) (no_more !)))) refl
    (and_tt _ (ptr_typed start).0, ((ptr_typed start).1, (record { fits = fits }, tt))) $
    returns ! (look_at ! 0 refl) $ free_all ! refl $
    -- [the room]
    suffices ! _ (ends_at 𝓛 f.ended stayed c y (sized_val start n) taken (tt, (tt, tt)) (tt, (tt, tt))) $ says ! refl $
    use0 𝓛 (‵ (sized_own start n (sized_val start n ∷ []))) (sized_made 𝓛 start n fits) $ fjoin ! $
    nothing ! $ nothing ! $ join ! $ nothing ! $ join ! $ nothing ! $ done !))
