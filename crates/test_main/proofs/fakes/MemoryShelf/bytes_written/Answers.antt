use Rattle.std.proofs.Common.{◌≡◌, ◌≢◌, ◌<◌, ◌≤◌, All, length, string_bytes, take, arith, refl, sym, ◌∙◌}
use Rattle.std.specs.Cmp.Lexicographic.{bytes_decides}
use Rattle.std.proofs.lemmas.List.{length-map, take_all}
use Rattle.std.proofs.lemmas.List.Elements.{All-nil}
use Rattle.test_main.proofs.FirstFiles.{first_of_all, none_of_more}
use Rattle.test_main.proofs.fakes.MemoryShelf.bytes_written.Goals as goal

pub loop-i-init : goal.loop-i-init
loop-i-init c = All-nil (λ file. file.name ≢ c.args.name.now)

pub returns-then-eq : goal.returns-then-eq
returns-then-eq c =
    let l : c.loop-i.i < length c.self.inside.written.items =
    omega (arith, c.loop-i-test.true, c.len-i-end.ensures, c.self.inside.written.ok.0) in
    let same : string_bytes c.index-file.result.now.name ≡ c.args.name.now =
    sym c.as_str.ensures.value
    ∙ (bytes_decides c.as_str.result.now c.args.name.now).0 (sym c.eq.ensures ∙ c.if-eq.true) in
    rw (← c.self.view_is) (first_of_all _ c.self.inside.written.items c.loop-i.i c.index-file.result.now c.args.name.now
    l
    (rw (← c.self.view_is) at c.loop-i.invariant) c.as_slice.result.now
    (rw (← c.index-file.ensures, c.as_slice.ensures.value, same) refl))

pub loop-i-preserved : goal.loop-i-preserved
loop-i-preserved c =
    let l : c.loop-i.i < length c.self.inside.written.items =
    omega (arith, c.loop-i-test.true, c.len-i-end.ensures, c.self.inside.written.ok.0) in
    let other : string_bytes c.index-file.result.now.name ≢ c.args.name.now = λ same.
    let yes = (bytes_decides c.as_str.result.now c.args.name.now).1 (c.as_str.ensures.value ∙ same) in
    let no = sym c.eq.ensures ∙ c.if-eq.false in
    cc in
    rw (← c.self.view_is) (none_of_more _ c.self.inside.written.items c.loop-i.i c.index-file.result.now c.args.name.now
    l
    (rw (← c.self.view_is) at c.loop-i.invariant) (rw (← c.index-file.ensures) other))

pub returns : goal.returns
returns c =
    let all : length c.args.self.now.written ≡ length c.self.inside.written.items =
    rw (← c.self.view_is) (length-map c.self.inside.written.items _) in
    let few : length c.args.self.now.written ≤ c.loop-i.i =
    omega (arith, all, c.loop-i-test.false, c.len-i-end.ensures, c.self.inside.written.ok.0) in
    rw (take_all c.loop-i.i c.args.self.now.written few) at c.loop-i.invariant
