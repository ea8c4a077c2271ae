-- What the threads of a ring gave back, while their links are settled and their parts are collected.
use Rattle.std.proofs.Common.{◌≡◌, ◌≢◌, ℕ, suc, ◌+◌, ◌<◌, ◌⊎◌, List, [], ◌∷◌, ◌++◌, map, length, set, replicate, Option}
use Rattle.std.proofs.Common.{Some, None, inl, inr, refl, sym, ap, ◌∙◌, subst, arith, append_assoc, length-append}
use Rattle.std.specs.Prelude.{Result, Ok, IfOk, slice_get, option_map}
use Rattle.std.specs.List.{zip}
use Rattle.std.proofs.lemmas.List.{append-nil, length-map, length-replicate, map-append}
use Rattle.std.proofs.lemmas.Bool.{cases_eq}
use Rattle.std.proofs.lemmas.Option.{none-some, some_pair_parts, slice_get-map}
use Rattle.std.proofs.Math.Seq.{set-append_seam}
use mathlib.Core.List.{IsPrefix}
use Rattle.ira_event.specs.Log.{Log}
use Rattle.ira_links.specs.declared.frame.Frame.{Frame}
use Rattle.ira_links.specs.LinkEnd.{LinkName, LinkEnd}
use Rattle.ira_ring_setup.specs.declared.node_end.NodeEnd.{NodeEnd}
use Rattle.ira_ring_setup.specs.declared.run_fault.RunFault.{RunFault}
use Rattle.ira_ring_setup.specs.Terms.{version_of}
use Rattle.ira_ring_setup.specs.Setup.{Setup}
use Rattle.ira_ring_setup.specs.Run.{Run}
use Rattle.ira_ring_setup.specs.declared.node_end.NodeEnd.TheVariants.{Stopped}
use Rattle.ira_ring_setup.specs.Collector.{KeepsPart, PartFaultOf, HasNoEnd, AreParts}
use Rattle.ira_ring_threads.specs.FinishedNode.{FinishedNode, AreFinishedOnPlaces, AreOfOneRing, FramesPass}
use Rattle.ira_ring_threads.specs.FinishedNode.{FramesPassRoundRing}
use Rattle.ira_ring_setup.proofs.Collecting.{AreOfVersion, member-replicate, keeps-part, no-stranger, get-after}
use Rattle.ira_ring_setup.proofs.Places.{get_map}
use Rattle.ira_ring_threads.proofs.FinishedNodes.{passed_more, place_count}

-- the part of a node, as a collector takes it
abbrev pub part_of : FinishedNode → Option (Log × NodeEnd)
part_of finished = Some (finished.log, finished.end)

-- the parts of these, and nothing yet of m more
abbrev pub taken_of : List FinishedNode → ℕ → List (Option (Log × NodeEnd))
taken_of finished_nodes m = map part_of finished_nodes ++ replicate m None

-- lists with the same members are the same
same_members : {X : Type 0} (xs ys : List X) → length xs ≡ length ys → ((i : ℕ) → slice_get xs i ≡ slice_get ys i)
    → xs ≡ ys
same_members [] [] many each = refl
same_members [] (y ∷ ys) many each = absurd (omega arith)
same_members (x ∷ xs) [] many each = absurd (omega arith)
same_members (x ∷ xs) (y ∷ ys) many each =
    let head = each 0 in
    let x_is : x ≡ y = cc in
    let rest : xs ≡ ys = same_members xs ys (omega arith) (λ i. each (suc i)) in
    cc

-- what a collector has taken when it took one part more
set_part : (old new : List (Option (Log × NodeEnd))) (place : ℕ) (part : Log × NodeEnd) → place < length old
    → KeepsPart old place part new → new ≡ set old place (Some part)
set_part old new place part within kept =
    let put = keeps-part old place part within in
    same_members new (set old place (Some part)) (kept.number ∙ sym put.number) (λ i.
    let cases : (i ≡ place) ⊎ ((i < place) ⊎ (place < i)) = grind arith in
    let others : i ≢ place → slice_get new i ≡ slice_get (set old place (Some part)) i =
    λ ne. kept.others i ne ∙ sym (put.others i ne) in
    elim cases [
      | inl e ↦ ap (λ k. slice_get new k) e ∙ kept.at ∙ sym put.at
          ∙ ap (λ k. slice_get (set old place (Some part)) k) (sym e)
      | inr apart ↦ elim apart [
        | inl lt ↦ others (λ e. absurd (omega arith))
        | inr gt ↦ others (λ e. absurd (omega arith))
      ]
    ])

-- the next part is taken
pub taken_more : (past : List FinishedNode) (m place : ℕ) (finished : FinishedNode)
    (old new : List (Option (Log × NodeEnd))) → place ≡ length past → old ≡ taken_of past (suc m)
    → KeepsPart old place (finished.log, finished.end) new → new ≡ taken_of (past ++ finished ∷ []) m
taken_more past m place finished old new at is kept =
    let front : length (map part_of past) ≡ length past = length-map past part_of in
    let many : length old ≡ length (map part_of past) + suc m =
    ap length is ∙ length-append (map part_of past) (replicate (suc m) None)
    ∙ ap (λ k. length (map part_of past) + k) (length-replicate (suc m) None) in
    let here : place ≡ length (map part_of past) = at ∙ sym front in
    set_part old new place (finished.log, finished.end) (omega (arith, many, here)) kept
    ∙ ap (λ xs. set xs place (part_of finished)) is
    ∙ ap (λ k. set (taken_of past (suc m)) k (part_of finished)) here
    ∙ set-append_seam (map part_of past) None (replicate m None) (part_of finished)
    ∙ sym (ap (λ xs. xs ++ replicate m None) (map-append part_of past (finished ∷ []))
    ∙ append_assoc (map part_of past) (part_of finished ∷ []) (replicate m None))

-- a collector takes it
pub takes : (past : List FinishedNode) (m n place : ℕ) (log : Log) (taken : List (Option (Log × NodeEnd)))
    (f : RunFault) → place ≡ length past → place < n → length taken ≡ n → log.nodes ≡ n → log.place ≡ place
    → AreOfVersion log.version taken → taken ≡ taken_of past (suc m) → ¬ (PartFaultOf taken place log f)
takes past m n place log taken f at within many nodes place_is versions is fault =
    let size : log.nodes ≡ length taken = nodes ∙ sym many in
    let fits = no-stranger taken place log (omega (arith, many, within)) size place_is versions in
    let front : place ≡ length (map part_of past) = at ∙ sym (length-map past part_of) in
    let free : slice_get taken place ≡ Some None =
    ap (λ xs. slice_get xs place) is ∙ ap (λ k. slice_get (taken_of past (suc m)) k) front
    ∙ get-after (map part_of past) None (replicate m None) in
    elim fault [
      | inl stranger ↦ fits stranger.0
      | inr double ↦ let was = double.1.1 in absurd cc
    ]

-- logs that were taken are of this version, and so is that of one part more
of_version_more : (version : ℕ) (old new : List (Option (Log × NodeEnd))) (place : ℕ) (part : Log × NodeEnd)
    → KeepsPart old place part new → part.0.version ≡ version → AreOfVersion version old → AreOfVersion version new
of_version_more version old new place part kept here versions i log end there = elim (cases_eq i place) [
  | inl e ↦
      let is : Some (Some part) ≡ Some (Some (log, end)) = sym kept.at ∙ ap (λ k. slice_get new k) (sym e) ∙ there in
      let same : part.0 ≡ log = (some_pair_parts part.0 log part.1 end cc).0 in
      ap (λ (x : Log). x.version) (sym same) ∙ here
  | inr ne ↦ versions i log end (sym (kept.others i ne) ∙ there)
]

-- where none was taken, none is of another version
none_taken : (version m : ℕ) (taken : List (Option (Log × NodeEnd))) → taken ≡ replicate m None
    → AreOfVersion version taken
none_taken version m taken none i log end there =
    absurd (none-some (log, end)
    (member-replicate m i None (Some (log, end)) (ap (λ xs. slice_get xs i) (sym none) ∙ there)))

-- the first of all and those after it were settled but for the first link, and these are left
pub record Settling (n : ℕ) (all left : List FinishedNode) (first last : LinkEnd)
    (taken : List (Option (Log × NodeEnd))) : Type 0 where
  pub setup : Setup
  pub head : FinishedNode
  pub past : List FinishedNode
  pub nodes : setup.nodes ≡ n
  pub parts : all ≡ (head ∷ past) ++ left
  pub place : AreFinishedOnPlaces setup (length (head ∷ past)) last.link left n first.link
  pub first_is : first.frames ≡ head.input.frames
  pub passed : FramesPass head.output.frames past last.frames
  pub taken_is : taken ≡ taken_of (head ∷ past) (length left)
  pub versions : AreOfVersion (version_of setup.nodes setup.terms) taken

-- the first of them, as the code holds it
pub first_held : (all rest : List FinishedNode) (seen held : FinishedNode) → all ≡ seen ∷ rest → held ≡ seen
    → all ≡ held ∷ rest
first_held all rest seen held is same = is ∙ ap (λ (d : FinishedNode). d ∷ rest) (sym same)

pub settling_first : (n : ℕ) (all left : List FinishedNode) (head : FinishedNode)
    (old new : List (Option (Log × NodeEnd))) → all ≡ head ∷ left → AreOfOneRing n all → old ≡ replicate n None
    → KeepsPart old head.place (head.log, head.end) new → Settling n all left head.input head.output new
settling_first n all left head old new parts ring none kept =
    let s = ring.0 in
    let link = ring.2.0 in
    let P : ℕ × List FinishedNode → Type 0 = λ z. AreFinishedOnPlaces s 0 link z.1 z.0 link in
    let here : AreFinishedOnPlaces s 0 link (head ∷ left) n link = subst P (λ j. (ring.1 j, parts j)) ring.2.1 in
    let many : n ≡ suc (length left) = omega (arith, place_count s 0 n link link (head ∷ left) here) in
    let Q : LinkName → Type 0 = λ l. AreFinishedOnPlaces s 1 head.output.link left n l in
    record {
      setup = s;
      head = head;
      past = [];
      nodes = ring.1;
      parts = parts;
      place = subst Q (sym here.0.input) here.1;
      first_is = refl;
      passed = refl;
      taken_is = taken_more [] (length left) head.place head old new here.0.place (none
          ∙ ap (λ k. replicate k None) many) kept;
      versions = of_version_more (version_of s.nodes s.terms) old new head.place (
        head.log,
        head.end,
      ) kept here.0.recorded.version (none_taken (version_of s.nodes s.terms) n old none);
    }

pub settling_more : (n : ℕ) (all left rest : List FinishedNode) (finished : FinishedNode) (first last : LinkEnd)
    (old new : List (Option (Log × NodeEnd))) → left ≡ finished ∷ rest → Settling n all left first last old
    → IsPrefix finished.input.frames last.frames → KeepsPart old finished.place (finished.log, finished.end) new
    → Settling n all rest first finished.output new
settling_more n all left rest finished first last old new is was took kept =
    let P : List FinishedNode → Type 0 =
    λ ds. AreFinishedOnPlaces was.setup (length (was.head ∷ was.past)) last.link ds n first.link in
    let here : AreFinishedOnPlaces was.setup (length (was.head ∷ was.past)) last.link (finished ∷ rest) n first.link =
    subst P is was.place in
    let longer : length (was.head ∷ was.past) + 1 ≡ length (was.head ∷ was.past ++ finished ∷ []) =
    omega (arith, length-append was.past (finished ∷ [])) in
    record {
      setup = was.setup;
      head = was.head;
      past = was.past ++ finished ∷ [];
      nodes = was.nodes;
      parts = was.parts ∙ ap (λ ds. (was.head ∷ was.past) ++ ds) is
          ∙ sym (append_assoc (was.head ∷ was.past) (finished ∷ []) rest);
      place = subst (λ (k : ℕ). AreFinishedOnPlaces was.setup k finished.output.link rest n first.link) longer here.1;
      first_is = was.first_is;
      passed = passed_more was.head.output.frames last.frames was.past finished was.passed took;
      taken_is = taken_more (was.head ∷ was.past) (length rest) finished.place finished old new here.0.place
          (was.taken_is ∙ ap (λ ds. taken_of (was.head ∷ was.past) (length ds)) is) kept;
      versions = of_version_more (version_of was.setup.nodes was.setup.terms) old new finished.place (
        finished.log,
        finished.end,
      ) kept here.0.recorded.version was.versions;
    }

-- the next part can be taken
pub settling_takes : (n : ℕ) (all left rest : List FinishedNode) (finished : FinishedNode) (first last : LinkEnd)
    (taken : List (Option (Log × NodeEnd))) (f : RunFault) → left ≡ finished ∷ rest → length taken ≡ n
    → Settling n all left first last taken → ¬ (PartFaultOf taken finished.place finished.log f)
settling_takes n all left rest finished first last taken f is many was =
    let P : List FinishedNode → Type 0 =
    λ ds. AreFinishedOnPlaces was.setup (length (was.head ∷ was.past)) last.link ds n first.link in
    let here : AreFinishedOnPlaces was.setup (length (was.head ∷ was.past)) last.link (finished ∷ rest) n first.link =
    subst P is was.place in
    let count = place_count was.setup (length (was.head ∷ was.past)) n last.link first.link (finished ∷ rest) here in
    takes (was.head ∷ was.past) (length rest) n finished.place finished.log taken f here.0.place
    (omega (arith, count, here.0.place)) many (here.0.recorded.nodes ∙ was.nodes) (here.0.recorded.place
    ∙ sym here.0.place) (λ i log end there. was.versions i log end there
    ∙ sym here.0.recorded.version) (was.taken_is ∙ ap (λ ds. taken_of (was.head ∷ was.past) (length ds)) is)

-- the first part can be taken
pub first_takes : (n : ℕ) (all left : List FinishedNode) (head : FinishedNode) (taken : List (Option (Log × NodeEnd)))
    (f : RunFault) → all ≡ head ∷ left → AreOfOneRing n all → taken ≡ replicate n None
    → ¬ (PartFaultOf taken head.place head.log f)
first_takes n all left head taken f parts ring none =
    let s = ring.0 in
    let link = ring.2.0 in
    let P : ℕ × List FinishedNode → Type 0 = λ z. AreFinishedOnPlaces s 0 link z.1 z.0 link in
    let here : AreFinishedOnPlaces s 0 link (head ∷ left) n link = subst P (λ j. (ring.1 j, parts j)) ring.2.1 in
    let many : n ≡ suc (length left) = omega (arith, place_count s 0 n link link (head ∷ left) here) in
    takes [] (length left) n head.place head.log taken f here.0.place (omega (arith, many, here.0.place))
    (ap length none ∙ length-replicate n None) (here.0.recorded.nodes ∙ ring.1) (here.0.recorded.place
    ∙ sym here.0.place) (none_taken head.log.version n taken none) (none ∙ ap (λ k. replicate k None) many)

-- all parts were taken
pub settled_round : (n : ℕ) (all left : List FinishedNode) (first last : LinkEnd)
    (taken : List (Option (Log × NodeEnd))) → left ≡ [] → Settling n all left first last taken
    → IsPrefix first.frames last.frames → FramesPassRoundRing all
settled_round n all left first last taken is was took =
    let whole : all ≡ was.head ∷ was.past =
    was.parts ∙ ap (λ ds. (was.head ∷ was.past) ++ ds) is ∙ append-nil (was.head ∷ was.past) in
    let P : List Frame → Type 0 = λ fs. IsPrefix fs last.frames in
    subst FramesPassRoundRing (sym whole) (last.frames, (subst P was.first_is took, was.passed))

pub settled_taken : (n : ℕ) (all left : List FinishedNode) (first last : LinkEnd)
    (taken : List (Option (Log × NodeEnd))) → left ≡ [] → Settling n all left first last taken → taken ≡ map part_of all
settled_taken n all left first last taken is was =
    let whole : all ≡ was.head ∷ was.past =
    was.parts ∙ ap (λ ds. (was.head ∷ was.past) ++ ds) is ∙ append-nil (was.head ∷ was.past) in
    was.taken_is ∙ ap (λ ds. taken_of (was.head ∷ was.past) (length ds)) is
    ∙ append-nil (map part_of (was.head ∷ was.past)) ∙ ap (λ ds. map part_of ds) (sym whole)

-- the run of the parts has their logs and their ends
parts_are : (logs : List Log) (ends : List NodeEnd) (finished_nodes : List FinishedNode)
    → length logs ≡ length finished_nodes → length ends ≡ length finished_nodes
    → map part_of finished_nodes ≡ map (λ part. Some part) (zip logs ends)
    → (logs ≡ map (λ finished. finished.log) finished_nodes) × (ends ≡ map (λ finished. finished.end) finished_nodes)
parts_are [] [] [] l e same = (refl, refl)
parts_are [] [] (d ∷ ds) l e same = absurd (omega arith)
parts_are [] (x ∷ xs) [] l e same = absurd (omega arith)
parts_are [] (x ∷ xs) (d ∷ ds) l e same = absurd (omega arith)
parts_are (log ∷ logs) [] [] l e same = absurd (omega arith)
parts_are (log ∷ logs) [] (d ∷ ds) l e same = absurd (omega arith)
parts_are (log ∷ logs) (x ∷ xs) [] l e same = absurd (omega arith)
parts_are (log ∷ logs) (x ∷ xs) (d ∷ ds) l e same =
    let rest : map part_of ds ≡ map (λ part. Some part) (zip logs xs) = cc in
    let tails = parts_are logs xs ds (omega arith) (omega arith) rest in
    let heads : part_of d ≡ Some (log, x) = cc in
    let head_is = some_pair_parts d.log log d.end x heads in
    let log_is : log ≡ d.log = sym head_is.0 in
    let end_is : x ≡ d.end = sym head_is.1 in (
      ap (λ (z : Log × List Log). z.0 ∷ z.1) (λ j. (log_is j, tails.0 j)),
      ap (λ (z : NodeEnd × List NodeEnd). z.0 ∷ z.1) (λ j. (end_is j, tails.1 j)),
    )

pub settled_run : (finished_nodes : List FinishedNode) (run : Run) (taken : List (Option (Log × NodeEnd)))
    → taken ≡ map part_of finished_nodes → AreParts taken run
    → (run.logs ≡ map (λ finished. finished.log) finished_nodes)
    × (run.ends ≡ map (λ finished. finished.end) finished_nodes)
settled_run finished_nodes run taken is parts =
    let many : length taken ≡ length finished_nodes = ap length is ∙ length-map finished_nodes part_of in
    parts_are run.logs run.ends finished_nodes (parts.logs ∙ many) (parts.ends ∙ many) (sym is ∙ parts.parts)

-- a collector that has finished has a run, where not every end is `Stopped`
pub finishes : (finished_nodes : List FinishedNode) (taken : List (Option (Log × NodeEnd)))
    → taken ≡ map part_of finished_nodes
    → (((i : ℕ) (d : FinishedNode) → slice_get finished_nodes i ≡ Some d → d.end ≡ Stopped) → ⊥) → ¬ (HasNoEnd taken)
finishes finished_nodes taken is some (inl missing) =
    let there : slice_get (map part_of finished_nodes) missing.0 ≡ Some None =
    ap (λ xs. slice_get xs missing.0) (sym is) ∙ missing.1 in
    let p = get_map part_of finished_nodes missing.0 None there in
    (let e : ◌≡◌ {A = Option (Log × NodeEnd)} (Some (p.0.log, p.0.end)) None = p.2 in cc)
finishes finished_nodes taken is some (inr stopped) = some (λ i d at.
    stopped i d.log d.end (ap (λ xs. slice_get xs i) is ∙ slice_get-map part_of finished_nodes i
    ∙ ap (option_map part_of) at))

-- what a result tells
pub ok_of : {X E : Type 0} (r : Result X E) (x : X) (P : X → Type 0) → r ≡ Ok x → IfOk r P → P x
ok_of r x P is h = subst (λ r. IfOk r P) is h
