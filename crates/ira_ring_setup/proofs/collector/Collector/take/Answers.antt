use Rattle.std.proofs.Common.{◌≡◌, ◌<◌, ℕ, Bool, inr, List, Option, Some, refl, sym, ap, ◌∙◌, arith, length}
use Rattle.std.proofs.Common.{slice_index_or}
use Rattle.std.specs.List.{list_all}
use Rattle.std.proofs.lemmas.Option.{slice_get_read}
use Rattle.std.proofs.lemmas.Bool.Decides.{nat_tests}
use Rattle.ira_event.specs.Log.{Log}
use Rattle.ira_ring_setup.specs.Collector.{AreTaken, IsStranger, has_version}
use Rattle.ira_ring_setup.specs.declared.node_end.NodeEnd.{NodeEnd}
use Rattle.ira_ring_setup.proofs.Collecting.{AreOfVersion, all-of-version, some-other-version, answers-stranger, some-of}
use Rattle.ira_ring_setup.proofs.Collecting.{none-of, AreTaken-more, keeps-part, no-stranger, answers-double, answers-taken}
use Rattle.ira_ring_setup.proofs.collector.Collector.take.Goals as goal

-- the part fits a place of the ring, and the parts that were taken
fits-place : (n place : ℕ) (log : Log) (taken : List (Option (Log × NodeEnd))) → AreTaken n taken → place < n
    → log.nodes ≡ n → log.place ≡ place → AreOfVersion log.version taken → ¬ (IsStranger taken place log)
fits-place n place log taken old within nodes at versions =
    no-stranger taken place log (omega (arith, old.places)) (nodes ∙ sym old.places) at versions

-- whether all parts that were taken are of the log's version, as it was read
read-versions : (version read_version : ℕ) (taken read : List (Option (Log × NodeEnd))) (r : Bool)
    → read_version ≡ version → read ≡ taken → r ≡ list_all (has_version read_version) read
    → list_all (has_version version) taken ≡ r
read-versions version read_version taken read r version_is read_is is =
    ap (λ v. list_all (has_version v) taken) (sym version_is)
    ∙ ap (λ xs. list_all (has_version read_version) xs) (sym read_is) ∙ sym is

pub returns-then-not-are_of_version-clause-err : goal.returns-then-not-are_of_version-clause-err
returns-then-not-are_of_version-clause-err g c =
    let taken = c.self.inside.taken.items in
    let versions = read-versions c.args.part.log.version c.version.result taken c.deref.result.now
    c.are_of_version.result c.version.ensures.value c.deref.ensures.value c.are_of_version.ensures in
    let other = some-other-version c.args.part.log taken (versions ∙ c.if-not-are_of_version.true) in
    λ f. rw (← c.self.view_is) (answers-stranger taken c.args.part.place c.args.part.log (inr (inr (inr other))) f)

pub returns-then-is_some-clause-err : goal.returns-then-is_some-clause-err
returns-then-is_some-clause-err g c =
    let taken = c.self.inside.taken.items in
    let old = c.self.invariant.0 in
    let nodes : c.args.part.log.nodes ≡ c.self.inside.nodes = grind (arith, nat_tests) in
    let place : c.args.part.log.place ≡ c.args.part.place = grind (arith, nat_tests) in
    let within : c.args.part.place < c.self.inside.nodes = omega arith in
    let versions = read-versions c.args.part.log.version c.version.result taken c.deref.result.now
    c.are_of_version.result c.version.ensures.value c.deref.ensures.value c.are_of_version.ensures in
    let alike = all-of-version c.args.part.log.version taken (versions ∙ c.if-not-are_of_version.false) in
    let fits = fits-place c.self.inside.nodes c.args.part.place c.args.part.log taken old within nodes place alike in
    let read : c.index.result.now ≡ slice_index_or taken c.args.part.place c.index.result.now =
    c.index.ensures ∙ ap (λ i. slice_index_or taken i c.index.result.now) c.from-at.ensures in
    let at = slice_get_read taken (length taken) c.args.part.place c.index.result.now refl (omega arith) read in
    let part = some-of c.index.result.now (sym c.is_some.ensures ∙ c.if-is_some.true) in
    λ f. rw (← c.self.view_is) (answers-double taken c.args.part.place c.args.part.log fits (
      part.0,
      at ∙ ap Some part.1,
    ) f)

pub invariant_of-self : goal.invariant_of-self
invariant_of-self g c =
    let taken = c.self.inside.taken.items in
    let old = c.self.invariant.0 in
    let nodes : c.args.part.log.nodes ≡ c.self.inside.nodes = grind (arith, nat_tests) in
    let place : c.args.part.log.place ≡ c.from-at.result = grind (arith, nat_tests) in
    let versions = read-versions c.args.part.log.version c.version.result taken c.deref.result.now
    c.are_of_version.result c.version.ensures.value c.deref.ensures.value c.are_of_version.ensures in
    let alike = all-of-version c.args.part.log.version taken (versions ∙ c.if-not-are_of_version.false) in (
      AreTaken-more c.self.inside.nodes taken c.from-at.result c.args.part.log c.args.part.end old nodes place
          c.place.ensures.valid alike,
      c.self.invariant.1,
      c.self.invariant.2,
      c.self.invariant.3,
      c.self.invariant.4,
    )

pub returns-clause-ok : goal.returns-clause-ok
returns-clause-ok g c =
    let taken = c.self.inside.taken.items in
    let old = c.self.invariant.0 in
    let within : c.args.part.place < length taken = omega (arith, old.places) in
    rw (← c.self.view_is, c.from-at.ensures) (keeps-part taken c.args.part.place (
      c.args.part.log,
      c.args.part.end,
    ) within)

pub returns-clause-err : goal.returns-clause-err
returns-clause-err g c =
    let taken = c.self.inside.taken.items in
    let old = c.self.invariant.0 in
    let nodes : c.args.part.log.nodes ≡ c.self.inside.nodes = grind (arith, nat_tests) in
    let place : c.args.part.log.place ≡ c.args.part.place = grind (arith, nat_tests) in
    let within : c.args.part.place < c.self.inside.nodes = omega arith in
    let versions = read-versions c.args.part.log.version c.version.result taken c.deref.result.now
    c.are_of_version.result c.version.ensures.value c.deref.ensures.value c.are_of_version.ensures in
    let alike = all-of-version c.args.part.log.version taken (versions ∙ c.if-not-are_of_version.false) in
    let fits = fits-place c.self.inside.nodes c.args.part.place c.args.part.log taken old within nodes place alike in
    let read : c.index.result.now ≡ slice_index_or taken c.args.part.place c.index.result.now =
    c.index.ensures ∙ ap (λ i. slice_index_or taken i c.index.result.now) c.from-at.ensures in
    let at = slice_get_read taken (length taken) c.args.part.place c.index.result.now refl (omega arith) read in
    let free = none-of c.index.result.now (sym c.is_some.ensures ∙ c.if-is_some.false) in
    λ f. rw (← c.self.view_is) (answers-taken tt taken c.args.part.place c.args.part.log fits (at ∙ ap Some free) f)
