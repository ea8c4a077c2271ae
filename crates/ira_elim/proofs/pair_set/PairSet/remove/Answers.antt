use Rattle.std.proofs.Common.{◌≡◌, ◌<◌, ◌∙◌, ◌*◌, ◌%◌, ◌^◌, bit_and, get_or, get_or-set_same, length, sym, w64, arith}
use Rattle.std.specs.Int.{bit_not}
use Rattle.std.proofs.lemmas.List.{get_or_default}
use Rattle.ira_elim.specs.PairSet.{Has, word_of}
use Rattle.ira_elim.proofs.PairSet.{one_fewer, one_fewer-sum, one_fewer-words, word_emptied}
use Rattle.ira_elim.proofs.pair_set.PairSet.remove.Goals as goal

pub invariant_of-self : goal.invariant_of-self
invariant_of-self g c =
    let words = c.self.inside.words.items in let w = c.word_of-w.result in
    let within : w < length words = omega (arith, c.word_of-w.ensures.within, c.self.invariant.places) in
    let word : c.index_mut.result.now ≡ get_or words w 0 =
    c.index_mut.ensures.value ∙ get_or_default words w c.index_mut.result.now 0 within in
    let has : Has words c.args.a c.args.b = rw c.self.view_is c.requires in
    let cleared = bit_and c.index_mut.result.now (bit_not w64 (1 * 2 ^ (c.args.b % 64) % 2 ^ 64)) in
    let zero : cleared ≡ 0 = sym (c.index.ensures ∙ get_or-set_same words w cleared c.index.result.now within)
    ∙ c.if-index-eq0.true in
    rw (word, c.word_of-w.ensures.value)
    (word_emptied words c.self.inside.filled c.self.invariant (word_of c.args.a c.args.b) (c.args.b % 64) has.2.0
    has.2.1 (rw (word, c.word_of-w.ensures.value) at zero))

pub invariant_of-self-else-index-eq0 : goal.invariant_of-self-else-index-eq0
invariant_of-self-else-index-eq0 g c =
    let words = c.self.inside.words.items in let w = c.word_of-w.result in
    let within : w < length words = omega (arith, c.word_of-w.ensures.within, c.self.invariant.places) in
    let word : c.index_mut.result.now ≡ get_or words w 0 =
    c.index_mut.ensures.value ∙ get_or_default words w c.index_mut.result.now 0 within in
    let has : Has words c.args.a c.args.b = rw c.self.view_is c.requires in
    let cleared = bit_and c.index_mut.result.now (bit_not w64 (1 * 2 ^ (c.args.b % 64) % 2 ^ 64)) in
    let same : c.index.result.now ≡ cleared =
    c.index.ensures ∙ get_or-set_same words w cleared c.index.result.now within in
    let some : 0 < cleared = omega (arith, same, c.if-index-eq0.false) in
    rw (word, c.word_of-w.ensures.value)
    (one_fewer-words words c.self.inside.filled c.self.invariant (word_of c.args.a c.args.b) (c.args.b % 64) has.2.0
    has.2.1 has.2.2 (rw (word, c.word_of-w.ensures.value) at some))

pub returns-then-index-eq0-clause-others : goal.returns-then-index-eq0-clause-others
returns-then-index-eq0-clause-others g c =
    let words = c.self.inside.words.items in let w = c.word_of-w.result in
    let within : w < length words = omega (arith, c.word_of-w.ensures.within, c.self.invariant.places) in
    let word : c.index_mut.result.now ≡ get_or words w 0 =
    c.index_mut.ensures.value ∙ get_or_default words w c.index_mut.result.now 0 within in
    let has : Has words c.args.a c.args.b = rw c.self.view_is c.requires in
    rw (
      word,
      c.word_of-w.ensures.value,
      ← c.self.view_is,
    ) (one_fewer words c.self.inside.filled c.self.invariant c.args.a c.args.b has.0 has.1)

pub returns-then-index-eq0-clause-fewer : goal.returns-then-index-eq0-clause-fewer
returns-then-index-eq0-clause-fewer g c =
    let words = c.self.inside.words.items in let w = c.word_of-w.result in
    let within : w < length words = omega (arith, c.word_of-w.ensures.within, c.self.invariant.places) in
    let word : c.index_mut.result.now ≡ get_or words w 0 =
    c.index_mut.ensures.value ∙ get_or_default words w c.index_mut.result.now 0 within in
    let has : Has words c.args.a c.args.b = rw c.self.view_is c.requires in
    rw (
      word,
      c.word_of-w.ensures.value,
      ← c.self.view_is,
    ) (one_fewer-sum words c.self.inside.filled c.self.invariant (word_of c.args.a c.args.b)
    (c.args.b % 64) has.2.0 has.2.1 has.2.2)

pub returns-else-index-eq0-clause-others : goal.returns-else-index-eq0-clause-others
returns-else-index-eq0-clause-others g c =
    let words = c.self.inside.words.items in let w = c.word_of-w.result in
    let within : w < length words = omega (arith, c.word_of-w.ensures.within, c.self.invariant.places) in
    let word : c.index_mut.result.now ≡ get_or words w 0 =
    c.index_mut.ensures.value ∙ get_or_default words w c.index_mut.result.now 0 within in
    let has : Has words c.args.a c.args.b = rw c.self.view_is c.requires in
    rw (
      word,
      c.word_of-w.ensures.value,
      ← c.self.view_is,
    ) (one_fewer words c.self.inside.filled c.self.invariant c.args.a c.args.b has.0 has.1)

pub returns-else-index-eq0-clause-fewer : goal.returns-else-index-eq0-clause-fewer
returns-else-index-eq0-clause-fewer g c =
    let words = c.self.inside.words.items in let w = c.word_of-w.result in
    let within : w < length words = omega (arith, c.word_of-w.ensures.within, c.self.invariant.places) in
    let word : c.index_mut.result.now ≡ get_or words w 0 =
    c.index_mut.ensures.value ∙ get_or_default words w c.index_mut.result.now 0 within in
    let has : Has words c.args.a c.args.b = rw c.self.view_is c.requires in
    rw (
      word,
      c.word_of-w.ensures.value,
      ← c.self.view_is,
    ) (one_fewer-sum words c.self.inside.filled c.self.invariant (word_of c.args.a c.args.b)
    (c.args.b % 64) has.2.0 has.2.1 has.2.2)
