use Rattle.std.proofs.Common.{◌≡◌, ◌<◌, ◌^◌, ◌∙◌, Bool, ℕ, List, [], ◌∷◌, ◌++◌, Err, Ok, Result, ap, false, lit<, map, refl}
use Rattle.std.proofs.Common.{subst, sym, true}
use Rattle.std.proofs.lemmas.Iterator.Consumers.{YieldsList-end, YieldsList-turn}
use Rattle.std.proofs.lemmas.Iterator.Splits.{YieldsList-from_str_split}
use Rattle.std.proofs.lemmas.List.{map-append}
use Rattle.std.specs.Prelude.{if◌then◌else◌, is_err, is_ok}
use Rattle.std.specs.Str.Parse.{IsNumeral, digits_value, without_leading_plus}
use Rattle.clap.specs.Walk.{Text}
use Rattle.ira_main_cli.specs.Options.{AreNumbers, IsNumber, WritesNumber}
use Rattle.ira_main_cli.proofs.command_line.numbers.Goals as goal

-- one more number, by one more text
more_numbers : (ns : List ℕ) (ts : List Text) (n : ℕ) (t : Text) → AreNumbers ns ts → IsNumber n t
    → AreNumbers (ns ++ n ∷ []) (ts ++ t ∷ [])
more_numbers [] [] n t are is = (is, tt)
more_numbers (m ∷ ns) (u ∷ ts) n t are is = (are.0, more_numbers ns ts n t are.1 is)
more_numbers [] (u ∷ ts) n t are is = absurd are
more_numbers (m ∷ ns) [] n t are is = absurd are

ok_of : {X E : Type 0} (r : Result X E) → is_err r ≡ false → is_ok r ≡ true
ok_of (Ok x) e = refl
ok_of (Err f) e = cc

-- what writes a number is read as one
is_read : (t : Text) → WritesNumber t → IsNumeral 10 (without_leading_plus t)
    × (digits_value 10 (without_leading_plus t) < 2 ^ 64)
is_read t writes = (writes.1.0, subst (λ (k : ℕ). k < 2 ^ 64) (sym writes.1.1) writes.2)

pub loop-part-preserved : goal.loop-part-preserved
loop-part-preserved c =
    let ns = c.loop-part.numbers.items in
    let n = c.in-Ok.number in
    let is : IsNumber n c.in-Some.part.now = (c.in-Ok.ensures.value.0.0.0, sym c.in-Ok.ensures.value.0.1) in
    let ok : is_ok c.push.result ≡ true = ok_of c.push.result (sym c.is_err.ensures.value ∙ c.if-is_err.false) in
    let items : c.push.new.self.items ≡ ns ++ n ∷ [] = c.push.ensures.items
    ∙ ap (λ (b : Bool). if b then ns ++ n ∷ [] else ns) ok in
    let texts = map-append (λ p. p.now) c.loop-part.yielded (c.in-Some.part ∷ []) in
    let more = more_numbers ns (map (λ p. p.now) c.loop-part.yielded) n c.in-Some.part.now
    c.loop-part.invariant.written is in
    record {
      can_next = tt;
      is_finite = tt;
      written = subst (λ xs. AreNumbers xs (map (λ p. p.now) (c.loop-part.yielded ++ c.in-Some.part ∷ [])))
          (sym items) (subst (AreNumbers (ns ++ n ∷ [])) (sym texts) more);
    }

pub returns-in-Err-clause-refused : goal.returns-in-Err-clause-refused
returns-in-Err-clause-refused c = λ writes.
    let text = c.split-part-items.ensures in
    let same = c.into_iter-part-iterator.ensures.into_iter_gives in
    let turn = YieldsList-turn (YieldsList-from_str_split 44 c.args.text.now (lit< tt) (cc (same, text.text))
    (cc (same, text.has_more)) (cc (same, text.pattern)))
    c.loop-part.yielded _ c.loop-part.yielded_by _ _ c.in-Some.part c.in-Some.is c.next.ensures.steps in
    let here : WritesNumber c.in-Some.part.now = subst WritesNumber (sym turn.1) (writes _ _ turn.0) in
    absurd (c.in-Err.ensures.value.0 (is_read c.in-Some.part.now here))

pub returns-clause-read : goal.returns-clause-read
returns-clause-read c =
    let text = c.split-part-items.ensures in
    let same = c.into_iter-part-iterator.ensures.into_iter_gives in
    let end = YieldsList-end (YieldsList-from_str_split 44 c.args.text.now (lit< tt) (cc (same, text.text))
    (cc (same, text.has_more)) (cc (same, text.pattern)))
    c.loop-part.yielded _ c.loop-part.yielded_by _ _ c.in-None.is c.next.ensures.steps in
    subst (AreNumbers c.loop-part.numbers.items) end.0 c.loop-part.invariant.written
