use Rattle.std.proofs.Common.{◌≡◌, Err, arith, length, refl, rules}
use Rattle.ira_view_moment.specs.CutFault.{IsCutFault}
use Rattle.ira_view_moment.proofs.Lacking.{all_held, faulty, first_of_all}
use Rattle.ira_view_moment.proofs.cuts.check_cut.Goals as goal

pub returns-in_err-check_receipts-clause-ok : goal.returns-in_err-check_receipts-clause-ok
returns-in_err-check_receipts-clause-ok g c =
    let is : c.from_residual.result ≡ Err c.in_err-check_receipts.field-0.0 = search rules in
    let fault : IsCutFault c.args.logs.now c.args.cut.now c.in_err-check_receipts.field-0.0 =
    first_of_all c.args.logs.now c.args.cut.now c.loop-reader.reader c.in_err-check_receipts.field-0.0
    c.loop-reader.invariant.cut c.loop-reader.invariant.holds c.in_err-check_receipts.ensures.err in
    faulty c.args.logs.now c.args.cut.now c.from_residual.result c.in_err-check_receipts.field-0.0 is fault

pub returns-in_err-check_receipts-clause-fault : goal.returns-in_err-check_receipts-clause-fault
returns-in_err-check_receipts-clause-fault g c =
    let is : c.from_residual.result ≡ Err c.in_err-check_receipts.field-0.0 = search rules in
    let fault : IsCutFault c.args.logs.now c.args.cut.now c.in_err-check_receipts.field-0.0 =
    first_of_all c.args.logs.now c.args.cut.now c.loop-reader.reader c.in_err-check_receipts.field-0.0
    c.loop-reader.invariant.cut c.loop-reader.invariant.holds c.in_err-check_receipts.ensures.err in
    rw is fault

pub returns-clause-ok : goal.returns-clause-ok
returns-clause-ok g c =
    let all : length c.args.logs.now ≡ c.get-reader-end.result =
    omega (arith, c.get-reader-end.ensures.value, c.size.ensures.value) in (
      λ _. all_held c.args.logs.now c.args.cut.now c.loop-reader.invariant.cut (λ j l.
          c.loop-reader.invariant.holds j (omega (
            arith,
            all,
            c.loop-reader-test.false,
            c.loop-reader.auto.reader-end,
          ))),
      λ _. refl,
    )
