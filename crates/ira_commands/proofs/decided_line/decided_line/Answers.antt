use Rattle.std.proofs.Common.{◌≡◌, ◌∙◌, ◌++◌, ℕ, List, [], ◌∷◌, Some, ap, arith, length, refl, subst, take}
use Rattle.std.proofs.lemmas.List.{take_all}
use Rattle.std.proofs.lemmas.Option.{slice_get_read}
use Rattle.ira_audit.proofs.LogTexts.{next_taken}
use Rattle.ira_elim.specs.declared.decided.Decided.{Decided}
use Rattle.ira_elim.specs.declared.decided.Decided.TheVariants.{Absent, Present}
use Rattle.ira_commands.proofs.Served.{if_ok}
use Rattle.ira_commands.specs.DecidedLine.{AreAbsent}
use Rattle.ira_commands.specs.DecidedLine.IsDecidedLine.{absent, present}
use Rattle.ira_commands.proofs.decided_line.decided_line.Goals as goal

-- one more that isn't present
absent_more : {A : Type 0} (cases : List (Decided ℕ A)) (more : Decided ℕ A) → ((cut : List ℕ) → more ≡ Present cut → ⊥)
    → AreAbsent cases → AreAbsent (cases ++ more ∷ [])
absent_more [] (Absent steps spent) other are = tt
absent_more [] (Present cut) other are = absurd (other cut refl)
absent_more (Absent s n ∷ cases) more other are = absent_more cases more other are
absent_more (Present cut ∷ cases) more other are = absurd are

pub loop-number-preserved : goal.loop-number-preserved
loop-number-preserved g c =
    let cases = c.args.decided.now in
    let i = c.loop-number.number in
    let at = slice_get_read cases (length cases) i _ refl c.loop-number-test.true c.index-decided-number.is in
    subst AreAbsent (next_taken cases i _ at) (absent_more (take i cases) _ (λ cut is. cc) c.loop-number.invariant)

pub returns-in-Present : goal.returns-in-Present
returns-in-Present g c =
    let cases = c.args.decided.now in
    let i = c.loop-number.number in
    let at = slice_get_read cases (length cases) i _ refl c.loop-number-test.true c.index-decided-number.is in
    if_ok c.present_line.result (λ line is. present i _ is.0 c.loop-number.invariant
    (at ∙ ap (λ (d : Decided ℕ _). Some d) c.in-Present.is) is.1) c.present_line.ensures

pub returns : goal.returns
returns g c =
    let cases = c.args.decided.now in
    let all = take_all c.loop-number.number cases (omega (arith, c.loop-number-test.false)) in
    if_ok c.absent_line.result (λ line is. absent (subst AreAbsent all c.loop-number.invariant) is) c.absent_line.ensures
