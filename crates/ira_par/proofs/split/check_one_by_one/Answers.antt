use Rattle.std.proofs.Common.{◌≡◌, ℕ, List, length, refl, sym, subst, rules, arith}
use Rattle.std.proofs.lemmas.Option.{slice_get_read}
use Rattle.ira_event.specs.Log.{Log}
use Rattle.ira_cert.specs.declared.verdict.Verdict.{Verdict}
use Rattle.ira_cert.specs.declared.verdict.Verdict.TheVariants.{Yes}
use Rattle.ira_cert.specs.Queues.{AreQueues}
use Rattle.ira_cert.specs.SoundSection.{IsSoundSection}
use Rattle.ira_cert.specs.Verdict.{IsVerdict}
use Rattle.ira_par.specs.Sections.{AreSoundBefore}
use Rattle.ira_par.proofs.Found.{sound_more}
use Rattle.ira_par.proofs.split.check_one_by_one.Goals as goal

pub loop-section-preserved : goal.loop-section-preserved
loop-section-preserved g c =
    let logs = g.C.HappenedBefore.logs_of c.args.ordered.now in
    let case = c.index-cases-section.result in
    let section = c.index-sections-section.result in
    let case_at = slice_get_read c.args.cases.now _ c.loop-section.section case refl (search rules)
    c.index-cases-section.is in
    let section_at = slice_get_read c.args.sections.now (length c.args.cases.now) c.loop-section.section section
    (sym c.requires.number) (search rules) c.index-sections-section.is in
    let queues : AreQueues logs case c.in_ok-queues.queues.items =
    subst (λ (ls : List Log). AreQueues ls case c.in_ok-queues.queues.items) (sym c.requires.order)
    c.in_ok-queues.ensures.queues in
    let verdict : IsVerdict logs case section Yes =
    subst (λ (v : Verdict). IsVerdict logs case section v) c.in_default.is
    (c.check_queues.ensures case c.in_ok-queues.ensures.different queues) in
    sound_more c.args.profiles.now c.args.cases.now c.args.sections.now c.loop-section.section case section case_at
    section_at c.loop-section.invariant
    (subst (λ (ls : List Log). IsSoundSection ls case section) c.requires.order verdict)

pub returns : goal.returns
returns g c =
    let end : c.loop-section.section ≡ length c.args.sections.now =
    omega (arith, c.loop-section-test.false, c.loop-section.auto.section-end, c.requires.number) in
    subst (λ (n : ℕ). AreSoundBefore n c.args.profiles.now c.args.cases.now c.args.sections.now) end
    c.loop-section.invariant
