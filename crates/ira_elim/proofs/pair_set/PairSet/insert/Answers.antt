use Rattle.std.proofs.Common.{◌≡◌, ◌<◌, ◌%◌, ◌∙◌, get_or, arith}
use Rattle.std.proofs.lemmas.List.{get_or_default}
use Rattle.ira_elim.specs.PairSet.{word_of}
use Rattle.ira_elim.proofs.PairSet.{word_below, bit_below, one_more, one_more-words}
use Rattle.ira_elim.proofs.pair_set.PairSet.insert.Goals as goal

pub invariant_of-self : goal.invariant_of-self
invariant_of-self g c =
    let words = c.self.inside.words.items in let w = c.word_of-w.result in
    let a : c.args.a < 256 = omega (arith, c.ranges.a.fits) in
    let b : c.args.b < 256 = omega (arith, c.ranges.b.fits) in
    let word : c.index_mut.result.now ≡ get_or words w 0 =
    c.index_mut.ensures.value
    ∙ get_or_default words w c.index_mut.result.now 0
    (omega (arith, c.word_of-w.ensures.within, c.self.invariant.places)) in
    rw (word, c.word_of-w.ensures.value)
    (one_more-words words c.self.inside.filled c.self.invariant (word_of c.args.a c.args.b) (c.args.b % 64)
    (word_below c.args.a c.args.b a b) (bit_below c.args.b))

pub returns : goal.returns
returns g c =
    let words = c.self.inside.words.items in let w = c.word_of-w.result in
    let a : c.args.a < 256 = omega (arith, c.ranges.a.fits) in
    let b : c.args.b < 256 = omega (arith, c.ranges.b.fits) in
    let word : c.index_mut.result.now ≡ get_or words w 0 =
    c.index_mut.ensures.value
    ∙ get_or_default words w c.index_mut.result.now 0
    (omega (arith, c.word_of-w.ensures.within, c.self.invariant.places)) in
    rw (
      word,
      c.word_of-w.ensures.value,
      ← c.self.view_is,
    ) (one_more words c.self.inside.filled c.self.invariant c.args.a c.args.b a b)
