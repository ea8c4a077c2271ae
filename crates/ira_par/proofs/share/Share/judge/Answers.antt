use Rattle.std.proofs.Common.{◌≡◌, ◌+◌, ℕ, Option, Some, None, false, is_some, length, refl, sym, ap, subst, rules, arith}
use Rattle.std.proofs.lemmas.Option.{slice_get_read}
use Rattle.ira_cert.specs.declared.section_fault.SectionFault.{SectionFault}
use Rattle.ira_par.specs.declared.unsound_section.UnsoundSection.{UnsoundSection}
use Rattle.ira_par.specs.Share.{IsFoundBy}
use Rattle.ira_par.specs.Task.{IsFoundFor}
use Rattle.ira_par.proofs.Clear.{clear_more}
use Rattle.ira_par.proofs.share.Share.judge.Goals as goal
use Rattle.ira_par.proofs.share.Share.judge.Goals.{in-Some, in_default}

nothing : (found : Option UnsoundSection) → false ≡ is_some found → found ≡ None
nothing None e = refl
nothing (Some unsound) e = cc

pub loop-section-preserved : goal.loop-section-preserved
loop-section-preserved g c =
    let logs = g.C.HappenedBefore.logs_of c.args.ordered.now in let tasks = c.args.tasks.now in
    let k = c.loop-section.section in
    let task = c.index-tasks-section.result in
    let at = slice_get_read tasks _ k task refl (search rules) c.index-tasks-section.is in
    let none = nothing c.loop-section.self-inside.found c.if-is_some.ensures in
    let clear : IsFoundBy logs c.args.depth c.args.number k tasks None =
    subst (λ (f : Option UnsoundSection). IsFoundBy logs c.args.depth c.args.number k tasks f) none
    c.loop-section.invariant.found in
    elim c.match-judge.branch [
      | in-Some w ↦
          let kept : c.match-judge.self-inside.queues.len ≡ c.loop-section.self-inside.queues.len =
          ap (λ s. s.queues.len) w.self-inside-is in
          record {
            places = omega (
              arith,
              c.match-judge.self-inside.queues.ok.0,
              kept,
              c.loop-section.self-inside.queues.ok.0,
              c.loop-section.invariant.places,
            );
            found = subst (λ s. IsFoundBy logs c.args.depth c.args.number (k + 1) tasks s.found)
                (sym w.self-inside-is) (
                  clear,
                  (
                    task,
                    at,
                    subst (λ (f : Option SectionFault). IsFoundFor logs c.args.depth c.args.number task
                        f) w.in-Some.is c.judge.ensures,
                  ),
                );
          }
      | in_default w ↦
          let kept : c.match-judge.self-inside.queues.len ≡ c.loop-section.self-inside.queues.len =
          ap (λ s. s.queues.len) w.self-inside-is in
          record {
            places = omega (
              arith,
              c.match-judge.self-inside.queues.ok.0,
              kept,
              c.loop-section.self-inside.queues.ok.0,
              c.loop-section.invariant.places,
            );
            found = subst (λ s. IsFoundBy logs c.args.depth c.args.number (k + 1) tasks s.found) (sym w.self-inside-is)
                (subst (λ (f : Option UnsoundSection). IsFoundBy logs c.args.depth c.args.number (k + 1) tasks f)
                (sym none)
                (clear_more logs c.args.depth c.args.number k tasks clear task at
                (subst (λ (f : Option SectionFault). IsFoundFor logs c.args.depth c.args.number task f)
                w.in_default.is c.judge.ensures)));
          }
    ]

pub returns : goal.returns
returns g c =
    let end : c.loop-section.section ≡ length c.args.tasks.now =
    omega (arith, c.loop-section-test.false, c.loop-section.auto.section-end) in
    subst (λ (n : ℕ). IsFoundBy (g.C.HappenedBefore.logs_of c.args.ordered.now) c.args.depth c.args.number n
    c.args.tasks.now c.loop-section.self-inside.found) end c.loop-section.invariant.found
