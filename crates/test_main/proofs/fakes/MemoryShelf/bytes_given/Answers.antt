use Rattle.std.proofs.Common.{◌≡◌, ◌≢◌, ℕ, List, [], All, Bor, slice_index_or, refl, sym, ◌∙◌}
use Rattle.std.specs.Cmp.Lexicographic.{bytes_decides}
use Rattle.std.proofs.lemmas.List.Elements.{All-nil}
use Rattle.test_main.proofs.FirstFiles.{first_of_all, none_of_more}
use Rattle.test_main.proofs.fakes.MemoryShelf.bytes_given.Goals as goal

blank : Bor (List ℕ) × Bor (List ℕ)
blank = (record { ref_ptr = (0, 0); now = [] }, record { ref_ptr = (0, 0); now = [] })

pub loop-i-init : goal.loop-i-init
loop-i-init c = All-nil (λ file. file.name ≢ c.args.name.now)

pub returns-then-eq : goal.returns-then-eq
unfolding blank
returns-then-eq c =
    let same : (slice_index_or c.self.inside.files.now c.loop-i.i blank).0.now ≡ c.args.name.now =
    (bytes_decides (slice_index_or c.self.inside.files.now c.loop-i.i blank).0.now c.args.name.now).0 (sym c.eq.ensures
    ∙ c.if-eq.true) in
    rw (← c.self.view_is) (first_of_all _ c.self.inside.files.now c.loop-i.i blank c.args.name.now c.loop-i-test.true
    (rw (← c.self.view_is) at c.loop-i.invariant) (slice_index_or c.self.inside.files.now c.loop-i.i blank).1.now
    (rw same refl))

pub loop-i-preserved : goal.loop-i-preserved
unfolding blank
loop-i-preserved c =
    let other : (slice_index_or c.self.inside.files.now c.loop-i.i blank).0.now ≢ c.args.name.now = λ same.
    let yes = (bytes_decides (slice_index_or c.self.inside.files.now c.loop-i.i blank).0.now c.args.name.now).1 same in
    let no = sym c.eq.ensures ∙ c.if-eq.false in
    cc in
    rw (← c.self.view_is) (none_of_more _ c.self.inside.files.now c.loop-i.i blank c.args.name.now c.loop-i-test.true
    (rw (← c.self.view_is) at c.loop-i.invariant) other)
