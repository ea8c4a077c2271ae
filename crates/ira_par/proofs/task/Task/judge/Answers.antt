use Rattle.std.proofs.Common.{◌≡◌, ◌∙◌, ◌+◌, ◌^◌, ℕ, List, Some, Ok, length, take, sym, ap, subst, arith}
use Rattle.ira_pred.specs.Case.{Conjunct}
use Rattle.ira_cert_text.specs.Certificate.{Section}
use Rattle.ira_cert_text.specs.declared.cert_step.CertStep.{CertStep}
use Rattle.ira_cert.specs.declared.section_fault.SectionFault.TheVariants.{NotSpent}
use Rattle.ira_cert.specs.Conjuncts.{HasDifferentPlaces}
use Rattle.ira_cert.specs.QueueHead.{IsQueueHead}
use Rattle.ira_cert.specs.Queues.{AreQueues}
use Rattle.ira_cert.specs.QueuesAfter.{AreQueuesAfter}
use Rattle.ira_cert.specs.SectionFault.{IsFirstUnsoundStep}
use Rattle.ira_cert.specs.SoundSection.{AreSoundSteps}
use Rattle.ira_par.specs.Halves.{begin_of}
use Rattle.ira_par.specs.CandidateTable.{CandidateTable, AreBelow, AreTables}
use Rattle.ira_par.specs.Task.{Task, IsFoundInRange}
use Rattle.ira_par.proofs.Begins.{begin_within, begins_rise}
use Rattle.ira_par.proofs.Halves.{shifted}
use Rattle.ira_par.proofs.Verdicts.{before_range, step_found, none_found, spent_found, unspent_found}
use Rattle.ira_par.proofs.task.Task.judge.Goals as goal
use Rattle.ira_par.proofs.task.Task.judge.Goals.{After-make_steps, After-left_at}

pub list_candidates-requires : goal.list_candidates-requires
list_candidates-requires g c =
    let logs = g.C.HappenedBefore.logs_of c.args.ordered.now in
    let tables : c.as_slice.result.now ≡ c.args.self.now.tables =
    c.as_slice.ensures.value ∙ ap (λ (t : Task). t.tables) c.self.view_is in
    subst (λ (ts : List CandidateTable). AreBelow (length c.args.queues.now) ts) (sym tables)
    (subst (λ (n : ℕ). AreBelow n c.args.self.now.tables) (sym c.requires.room) c.requires.places)

pub overflow_add-number : goal.overflow_add-number
overflow_add-number g c = omega (arith, c.requires.number, (shifted c.args.depth c.requires.depth).0)

pub overflow_add-is_last : goal.overflow_add-is_last
overflow_add-is_last g c = omega (arith, c.requires.number, (shifted c.args.depth c.requires.depth).0)

pub make_steps-requires-clause-range : goal.make_steps-requires-clause-range
make_steps-requires-clause-range g c =
    let steps = length c.as_slice-steps.result.now in (
      omega (arith, c.begin_of-from.ensures, c.begin_of-to.ensures, begins_rise steps c.args.depth c.args.number),
      omega (
        arith,
        c.begin_of-to.ensures,
        begin_within steps c.args.depth (c.args.number + 1),
      ),
    )

-- the steps are the section's
steps_are : (g : _) (c : After-make_steps g) → c.as_slice-steps.result.now ≡ c.args.self.now.section.steps
steps_are g c = c.as_slice-steps.ensures.value
    ∙ ap (λ (s : Section). s.steps) (c.section.view_is ∙ ap (λ (t : Task). t.section) c.self.view_is)

-- those before a range
before_are : (g : _) (c : After-make_steps g) (r n : ℕ)
    → n ≡ begin_of (length c.as_slice-steps.result.now) c.args.depth r
    → take n c.as_slice-steps.result.now ≡ before_range c.args.self.now.section c.args.depth r
before_are g c r n e = ap (λ (k : ℕ). take k c.as_slice-steps.result.now) e
    ∙ ap (λ (ss : List CertStep). take (begin_of (length ss) c.args.depth r) ss) (steps_are g c)

module _ (g : _) (c : After-make_steps g) (case : List Conjunct)
    (are : AreTables (g.C.HappenedBefore.logs_of c.args.ordered.now) case c.args.self.now.tables) where
  -- what is made of the candidates
  listed : AreQueues (g.C.HappenedBefore.logs_of c.args.ordered.now) case c.list_candidates.new.queues
  listed =
      let tables : c.as_slice.result.now ≡ c.args.self.now.tables =
      c.as_slice.ensures.value ∙ ap (λ (t : Task). t.tables) c.self.view_is in
      c.list_candidates.ensures (g.C.HappenedBefore.logs_of c.args.ordered.now) case
      (subst (λ (ts : List CandidateTable). AreTables (g.C.HappenedBefore.logs_of c.args.ordered.now) case ts)
      (sym tables) are)

  given : AreSoundSteps (g.C.HappenedBefore.logs_of c.args.ordered.now) case
      (before_range c.args.self.now.section c.args.depth c.args.number)
      → AreSoundSteps (g.C.HappenedBefore.logs_of c.args.ordered.now) case
      (take c.begin_of-from.result c.as_slice-steps.result.now)
  given sound = subst (λ (ss : List CertStep). AreSoundSteps (g.C.HappenedBefore.logs_of c.args.ordered.now) case ss)
      (sym (before_are g c c.args.number c.begin_of-from.result c.begin_of-from.ensures)) sound

pub returns-in-Err : goal.returns-in-Err
returns-in-Err g c = λ case differ are.
    let logs = g.C.HappenedBefore.logs_of c.args.ordered.now in
    let at = (goal.at.returns-in-Err g c).After-make_steps in
    step_found logs case c.args.self.now.section c.args.depth c.args.number c.in-Err.fault (λ sound.
    let h = c.in-Err.ensures case differ (listed g at case are) (given g at case are sound) in (
      h.0,
      h.1,
      h.2,
      subst (λ (ss : List CertStep). IsFirstUnsoundStep logs case ss h.0 h.1) (steps_are g at) h.3,
    ))

-- where none is unsound, those up to the end of the range are sound, and leave this
sound_on : (g : _) (c : After-make_steps g) → c.make_steps.result ≡ Ok _ → (case : List Conjunct)
    → HasDifferentPlaces case
    → AreTables (g.C.HappenedBefore.logs_of c.args.ordered.now) case c.args.self.now.tables
    → AreSoundSteps (g.C.HappenedBefore.logs_of c.args.ordered.now) case
    (before_range c.args.self.now.section c.args.depth c.args.number)
    → AreSoundSteps (g.C.HappenedBefore.logs_of c.args.ordered.now) case
    (before_range c.args.self.now.section c.args.depth (c.args.number + 1))
    × AreQueuesAfter (g.C.HappenedBefore.logs_of c.args.ordered.now) case
    (before_range c.args.self.now.section c.args.depth (c.args.number + 1)) c.make_steps.new.queues
sound_on g c is case differ are sound =
    let logs = g.C.HappenedBefore.logs_of c.args.ordered.now in
    subst (λ (ss : List CertStep). AreSoundSteps logs case ss × AreQueuesAfter logs case ss c.make_steps.new.queues)
    (before_are g c (c.args.number + 1) c.begin_of-to.result c.begin_of-to.ensures)
    (rw is at c.make_steps.ensures case differ (listed g c case are) (given g c case are sound))

pub returns-then-not-is_last : goal.returns-then-not-is_last
returns-then-not-is_last g c = λ case differ are.
    let logs = g.C.HappenedBefore.logs_of c.args.ordered.now in
    let depth = c.args.depth in let r = c.args.number in
    let steps : c.as_slice-steps.result.now ≡ c.args.self.now.section.steps =
    c.as_slice-steps.ensures.value
    ∙ ap (λ (s : Section). s.steps) (c.section.view_is ∙ ap (λ (t : Task). t.section) c.self.view_is) in
    let empty : before_range c.args.self.now.section depth r ≡ before_range c.args.self.now.section depth (r + 1) =
    subst (λ (ss : List CertStep). take (begin_of (length ss) depth r) ss ≡ take (begin_of (length ss) depth (r + 1)) ss)
    steps (ap (λ (n : ℕ). take n c.as_slice-steps.result.now)
    (sym c.begin_of-from.ensures ∙ c.if-from-to.true ∙ c.begin_of-to.ensures)) in
    none_found logs case c.args.self.now.section depth r
    (subst (λ (ss : List CertStep). AreSoundSteps logs case ss) empty)
    (omega (arith, c.requires.number, c.range_count.ensures, c.if-not-is_last.true))

pub returns-then-not-is_last-2 : goal.returns-then-not-is_last-2
returns-then-not-is_last-2 g c = λ case differ are.
    let at = (goal.at.returns-then-not-is_last-2 g c).After-make_steps in
    none_found (g.C.HappenedBefore.logs_of c.args.ordered.now) case c.args.self.now.section c.args.depth c.args.number
    (λ sound. (sound_on g at c.in_default.is case differ are sound).0)
    (omega (arith, c.requires.number, c.if-not-is_last-2.true, c.range_count.ensures))

-- what is left of the node that should be spent
left : (g : _) (c : After-left_at g) (case : List Conjunct) (before : List CertStep)
    → AreQueuesAfter (g.C.HappenedBefore.logs_of c.args.ordered.now) case before c.make_steps.new.queues
    → IsQueueHead (g.C.HappenedBefore.logs_of c.args.ordered.now) case before c.args.self.now.section.spent
    c.left_at.result
left g c case before after =
    let logs = g.C.HappenedBefore.logs_of c.args.ordered.now in
    let spent : c.section.inside.spent ≡ c.args.self.now.section.spent =
    ap (λ (s : Section). s.spent) (c.section.view_is ∙ ap (λ (t : Task). t.section) c.self.view_is) in
    subst (λ (p : ℕ). IsQueueHead logs case before p c.left_at.result) spent
    (c.left_at.ensures.left logs case before after)

pub returns-in_default-left_at : goal.returns-in_default-left_at
returns-in_default-left_at g c = λ case differ are.
    let logs = g.C.HappenedBefore.logs_of c.args.ordered.now in
    let at = (goal.at.returns-in_default-left_at g c).After-left_at in
    let judged = (goal.at.returns-in_default-left_at g c).After-make_steps in
    let section = c.args.self.now.section in
    let spent : c.section.inside.spent ≡ section.spent =
    ap (λ (s : Section). s.spent) (c.section.view_is ∙ ap (λ (t : Task). t.section) c.self.view_is) in
    let last : c.args.number + 1 ≡ 2 ^ c.args.depth =
    omega (arith, c.requires.number, c.range_count.ensures, c.if-not-is_last-2.false) in
    subst (λ (p : ℕ). IsFoundInRange logs case section c.args.depth c.args.number (Some (NotSpent p))) (sym spent)
    (unspent_found logs case section c.args.depth c.args.number
    (λ sound. (sound_on g judged c.in_default.is case differ are sound).0) last c.left_at.result
    (λ sound. left g at case _ (sound_on g judged c.in_default.is case differ are sound).1) differ c.in_default-left_at.not-Spent)

pub returns : goal.returns
returns g c = λ case differ are.
    let logs = g.C.HappenedBefore.logs_of c.args.ordered.now in
    let at = (goal.at.returns g c).After-left_at in
    let judged = (goal.at.returns g c).After-make_steps in
    let last : c.args.number + 1 ≡ 2 ^ c.args.depth =
    omega (arith, c.requires.number, c.range_count.ensures, c.if-not-is_last-2.false) in
    spent_found logs case c.args.self.now.section c.args.depth c.args.number
    (λ sound. (sound_on g judged c.in_default.is case differ are sound).0) last c.left_at.result
    (λ sound. left g at case _ (sound_on g judged c.in_default.is case differ are sound).1) c.in-Spent.is
