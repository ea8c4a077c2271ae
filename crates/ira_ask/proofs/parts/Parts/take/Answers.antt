use Rattle.std.proofs.Common.{◌≡◌, ◌++◌, ◌∙◌, Some, None, refl, sym, ap, subst, arith, inr}
use Rattle.ira_event.specs.Scan.{after_word}
use Rattle.ira_ask.specs.Reading.{Comes, IsClauseText, LacksClause, TakesPart, fits, texts}
use Rattle.ira_ask.specs.SentenceText.{word_of}
use Rattle.ira_ask.proofs.Taking.{no_clause_of_word, no_part_of_word, no_word, part_fits, part_taken, word_comes}
use Rattle.ira_ask.proofs.parts.Parts.take.Goals as goal

pub returns-in_default : goal.returns-in_default
returns-in_default g c =
    let is : c.args.self.now ≡ None = cc (c.self.view_is, ap texts c.in_default.is) in
    (refl, subst (λ l. ¬ (Comes c.args.part l)) (sym is) (λ none. none))

pub returns-in_default-skip_word : goal.returns-in_default-skip_word
returns-in_default-skip_word g c =
    let is : c.args.self.now ≡ Some c.in-Some.text.now = cc (c.self.view_is, ap texts c.in-Some.is) in (
      refl,
      subst (λ l. ¬ (Comes c.args.part l)) (sym is)
          (λ comes. no_word c.word.result.now c.in-Some.text.now comes.0 c.in_default-skip_word.ensures
          (comes.1 ∙ ap (λ w. w ++ comes.0) (sym c.word.ensures.text))),
    )

pub returns-in_default-split_part : goal.returns-in_default-split_part
returns-in_default-split_part g c =
    let is : c.args.self.now ≡ Some c.in-Some.text.now = cc (c.self.view_is, ap texts c.in-Some.is) in
    let word = subst (λ w. after_word w c.in-Some.text.now ≡ Some c.in-Some-skip_word.text.now) c.word.ensures.text
    c.in-Some-skip_word.ensures in
    inr (
      refl,
      subst (LacksClause c.args.part) (sym is) (
        word_comes c.args.part c.in-Some.text.now c.in-Some-skip_word.text.now word,
        no_part_of_word (word_of c.args.part) c.in-Some.text.now c.in-Some-skip_word.text.now word
            c.in_default-split_part.ensures,
      ),
    )

pub is_clause-requires : goal.is_clause-requires
is_clause-requires g c =
    let is : c.args.self.now ≡ Some c.in-Some.text.now = cc (c.self.view_is, ap texts c.in-Some.is) in
    let fit = part_fits c.word.result.now c.in-Some.text.now c.in-Some-skip_word.text.now c.in-Some-split_part.clause.now
    (texts c.in-Some-split_part.left) c.in-Some-skip_word.ensures c.in-Some-split_part.ensures
    (subst fits is c.requires) in
    omega (arith, fit.0)

pub returns-then-not-branch : goal.returns-then-not-branch
returns-then-not-branch g c =
    let is : c.args.self.now ≡ Some c.in-Some.text.now = cc (c.self.view_is, ap texts c.in-Some.is) in
    let word = subst (λ w. after_word w c.in-Some.text.now ≡ Some c.in-Some-skip_word.text.now) c.word.ensures.text
    c.in-Some-skip_word.ensures in
    let none : ¬ (IsClauseText c.in-Some-split_part.clause.now) =
    λ k. let t = c.in_ok-is_clause.ensures.1 k in let f = c.if-not-branch.true in cc (t, f) in
    inr (
      refl,
      subst (LacksClause c.args.part) (sym is) (
        word_comes c.args.part c.in-Some.text.now c.in-Some-skip_word.text.now word,
        no_clause_of_word (word_of c.args.part) c.in-Some.text.now c.in-Some-skip_word.text.now
            c.in-Some-split_part.clause.now
            (texts c.in-Some-split_part.left) word c.in-Some-split_part.ensures none,
      ),
    )

pub returns : goal.returns
returns g c =
    let is : c.args.self.now ≡ Some c.in-Some.text.now = cc (c.self.view_is, ap texts c.in-Some.is) in
    let left = texts c.in-Some-split_part.left in
    let word = subst (λ w. after_word w c.in-Some.text.now ≡ Some c.in-Some-skip_word.text.now) c.word.ensures.text
    c.in-Some-skip_word.ensures in
    subst (λ l. TakesPart c.args.part l left (Some c.in-Some-split_part.clause.now)) (sym is)
    (part_taken c.args.part c.in-Some.text.now c.in-Some-skip_word.text.now c.in-Some-split_part.clause.now left
    word c.in-Some-split_part.ensures (subst fits is c.requires) (c.in_ok-is_clause.ensures.0 c.if-not-branch.false))
