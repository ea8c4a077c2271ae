-- What the threads of a ring give back, one after the other.
use Rattle.std.proofs.Common.{◌≡◌, ℕ, zero, suc, ◌+◌, ◌-◌, List, [], ◌∷◌, ◌++◌, map, length, Some, refl, sym, ap, ◌∙◌}
use Rattle.std.proofs.Common.{subst, arith}
use Rattle.std.specs.Prelude.{slice_get}
use mathlib.Core.List.{IsPrefix}
use Rattle.ira_links.specs.declared.frame.Frame.{Frame}
use Rattle.ira_links.specs.LinkEnd.{LinkName}
use Rattle.ira_order.specs.Ring.{prev}
use Rattle.ira_ring_setup.specs.Setup.{Setup, is_initiator, node_draws}
use Rattle.ira_ring_threads.specs.NodeTask.{NodeTask, AreTasksOfPlaces}
use Rattle.ira_ring_threads.specs.TaskPromise.{TaskPromise, promise_of}
use Rattle.ira_ring_threads.specs.FinishedNode.{FinishedNode, KeepsPromise, KeepPromises, AreFinishedOnPlaces, FramesPass}
use Rattle.ira_ring_threads.specs.FinishedNode.{FramesPassRoundRing}
use Rattle.ira_ring_setup.specs.Recording.{IsRecorded}

-- one of each more
pub finished_more : (promises : List TaskPromise) (finished_nodes : List FinishedNode) (promise : TaskPromise)
    (finished : FinishedNode) → KeepPromises promises finished_nodes → KeepsPromise promise finished
    → KeepPromises (promises ++ promise ∷ []) (finished_nodes ++ finished ∷ [])
finished_more [] [] promise finished h k = (k, tt)
finished_more [] (x ∷ xs) promise finished h k = absurd h
finished_more (d ∷ ds) [] promise finished h k = absurd h
finished_more (d ∷ ds) (x ∷ xs) promise finished h k = (h.0, finished_more ds xs promise finished h.1 k)

-- what a promise asks for, of the place and of the links that it turned out to be for
moved : (s : Setup) (task : NodeTask) (k : ℕ) (a : LinkName) (finished : FinishedNode) → task.place ≡ k → task.input ≡ a
    → KeepsPromise (promise_of s task) finished
    → KeepsPromise (record { setup = s; place = k; input = a; output = finished.output.link }) finished
moved s task k a finished place input h =
    let P : ℕ → Type 0 = λ i.
    IsRecorded s.nodes i (is_initiator s i) (node_draws s i) s.cap s.terms finished.log finished.end in
    record {
      place = h.place ∙ place;
      recorded = subst P place h.recorded;
      input = h.input ∙ input;
      output = refl;
      put = h.put;
      taken = h.taken;
    }

-- what was finished by those who had tasks that follow one another
pub finished_on_places : (s : Setup) (most k m : ℕ) (a b : LinkName) (tasks : List NodeTask)
    (finished_nodes : List FinishedNode) → AreTasksOfPlaces most k a tasks m b
    → KeepPromises (map (promise_of s) tasks) finished_nodes → AreFinishedOnPlaces s k a finished_nodes m b
finished_on_places s most k m a b [] [] seated h = seated
finished_on_places s most k m a b [] (x ∷ xs) seated h = absurd h
finished_on_places s most k m a b (q ∷ qs) [] seated h = absurd h
finished_on_places s most k m a b (q ∷ qs) (x ∷ xs) seated h =
    let P : LinkName → Type 0 = λ l. AreFinishedOnPlaces s (k + 1) l xs m b in (
      moved s q k a x seated.0 seated.2 h.0,
      subst P (sym h.0.output) (finished_on_places s most (k + 1) m q.output b qs xs seated.3 h.1),
    )

pub place_count : (s : Setup) (k m : ℕ) (a b : LinkName) (finished_nodes : List FinishedNode)
    → AreFinishedOnPlaces s k a finished_nodes m b → k + length finished_nodes ≡ m
place_count s k m a b [] h = omega (arith, h.0)
place_count s k m a b (x ∷ xs) h = omega (arith, place_count s (k + 1) m x.output.link b xs h.1)

-- the one of a place
pub finished_at : (s : Setup) (k m : ℕ) (a b : LinkName) (finished_nodes : List FinishedNode) (i : ℕ)
    (finished : FinishedNode) → AreFinishedOnPlaces s k a finished_nodes m b
    → slice_get finished_nodes i ≡ Some finished → (promise : TaskPromise) × (promise.setup ≡ s)
    × (promise.place ≡ k + i) × KeepsPromise promise finished
finished_at s k m a b [] i finished h at = absurd cc
finished_at s k m a b (x ∷ xs) zero finished h at =
    let is : x ≡ finished = cc in
    let P : FinishedNode → Type 0 = λ d. (promise : TaskPromise) × (promise.setup ≡ s) × (promise.place ≡ k + 0)
    × KeepsPromise promise d in
    subst P is (record { setup = s; place = k; input = a; output = x.output.link }, refl, omega arith, h.0)
finished_at s k m a b (x ∷ xs) (suc i) finished h at =
    let rest = finished_at s (k + 1) m x.output.link b xs i finished h.1 at in
    (rest.0, rest.1, omega (arith, rest.2), rest.3)

-- one more took what begins the frames that the last one put
pub passed_more : (before last : List Frame) (finished_nodes : List FinishedNode) (finished : FinishedNode)
    → FramesPass before finished_nodes last → IsPrefix finished.input.frames last
    → FramesPass before (finished_nodes ++ finished ∷ []) finished.output.frames
passed_more before last [] finished h took = let P : List Frame → Type 0 = λ fs. IsPrefix finished.input.frames fs in
    (subst P (sym h) took, refl)
passed_more before last (x ∷ xs) finished h took = (h.0, passed_more x.output.frames last xs finished h.1 took)

-- from one to the next
passed_next : (before after : List Frame) (finished_nodes : List FinishedNode) (i : ℕ) (p d : FinishedNode)
    → FramesPass before finished_nodes after → slice_get finished_nodes i ≡ Some p
    → slice_get finished_nodes (suc i) ≡ Some d → IsPrefix d.input.frames p.output.frames
passed_next before after [] i p d h at next = absurd cc
passed_next before after (x ∷ []) zero p d h at next = absurd cc
passed_next before after (x ∷ y ∷ ys) zero p d h at next =
    let x_is : x ≡ p = cc in
    let y_is : y ≡ d = cc in
    let P : FinishedNode × FinishedNode → Type 0 = λ z. IsPrefix z.1.input.frames z.0.output.frames in
    subst P (λ j. (x_is j, y_is j)) h.1.0
passed_next before after (x ∷ xs) (suc i) p d h at next = passed_next x.output.frames after xs i p d h.1 at next

-- what the last one put
passed_last : (before after : List Frame) (x : FinishedNode) (xs : List FinishedNode) (p : FinishedNode)
    → FramesPass before (x ∷ xs) after → slice_get (x ∷ xs) (length xs) ≡ Some p → p.output.frames ≡ after
passed_last before after x [] p h at =
    let is : x ≡ p = cc in
    ap (λ (d : FinishedNode). d.output.frames) (sym is) ∙ h.1
passed_last before after x (y ∷ ys) p h at = passed_last x.output.frames after y ys p h.1 at

-- round the ring
pub passed_at : (n : ℕ) (finished_nodes : List FinishedNode) (i : ℕ) (p d : FinishedNode) → n ≡ length finished_nodes
    → FramesPassRoundRing finished_nodes → slice_get finished_nodes i ≡ Some d
    → slice_get finished_nodes (prev n i) ≡ Some p → IsPrefix d.input.frames p.output.frames
passed_at n [] i p d many h at before = absurd cc
passed_at n (x ∷ xs) zero p d many h at before =
    let is : x ≡ d = cc in
    let one : n - 1 ≡ length xs = omega (arith, many) in
    let end : slice_get (x ∷ xs) (length xs) ≡ Some p = subst (λ (k : ℕ). slice_get (x ∷ xs) k ≡ Some p) one before in
    let P : FinishedNode × List Frame → Type 0 = λ z. IsPrefix z.0.input.frames z.1 in
    let put : h.0 ≡ p.output.frames = sym (passed_last h.0 h.0 x xs p h.1 end) in
    subst P (λ j. (is j, put j)) h.1.0
passed_at n (x ∷ xs) (suc i) p d many h at before = passed_next h.0 h.0 (x ∷ xs) i p d h.1 before at
