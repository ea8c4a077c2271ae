use Rattle.std.proofs.Common.{◌≡◌, ℕ, ◌+◌, ◌*◌, ◌<◌, ◌^◌, ◌∙◌, get_or, length, refl, w64, rules, arith}
use Rattle.std.specs.Int.{trailing_zeros}
use Rattle.std.proofs.lemmas.Nat.Bits.{bit_at-trailing_zeros}
use Rattle.std.proofs.lemmas.List.{get_or_default}
use Rattle.ira_elim.proofs.PairSet.{least}
use Rattle.ira_elim.proofs.pair_set.PairSet.first.Goals as goal

pub overflow_cast-result-then-filled-ne0 : goal.overflow_cast-result-then-filled-ne0
overflow_cast-result-then-filled-ne0 g c =
    let words = c.self.inside.words.items in let i = c.loop-i.i in
    let f : ℕ = get_or c.self.inside.filled i 0 in
    let w : ℕ = 64 * i + trailing_zeros w64 f in
    let some : 0 < f = omega (arith, c.if-filled-ne0.true) in
    let fits : f < 2 ^ 64 = search rules in
    let low = bit_at-trailing_zeros w64 f some fits in
    let within : w < length words = omega (arith, low.0, c.loop-i-test.true, c.self.invariant.places) in
    let there : c.index.result.now ≡ get_or words w 0 =
    c.index.ensures ∙ get_or_default words w c.index.result.now 0 within in
    let found = least words c.self.inside.filled c.self.invariant i f w c.index.result.now c.loop-i-test.true refl refl
    there some fits (search rules) in
    omega (arith, found.1)

pub returns-then-filled-ne0 : goal.returns-then-filled-ne0
returns-then-filled-ne0 g c =
    let words = c.self.inside.words.items in let i = c.loop-i.i in
    let f : ℕ = get_or c.self.inside.filled i 0 in
    let w : ℕ = 64 * i + trailing_zeros w64 f in
    let some : 0 < f = omega (arith, c.if-filled-ne0.true) in
    let fits : f < 2 ^ 64 = search rules in
    let low = bit_at-trailing_zeros w64 f some fits in
    let within : w < length words = omega (arith, low.0, c.loop-i-test.true, c.self.invariant.places) in
    let there : c.index.result.now ≡ get_or words w 0 =
    c.index.ensures ∙ get_or_default words w c.index.result.now 0 within in
    rw (← c.self.view_is) (least words c.self.inside.filled c.self.invariant i f w c.index.result.now c.loop-i-test.true
    refl refl there some fits (search rules))
