use Rattle.std.proofs.Common.{leb, rules}
use Rattle.std.proofs.lemmas.List.Sorted.{IsPartitionPoint-from_clause}
use Rattle.ira_order.proofs.Receipts.{numbers_rise, numbers_point}
use Rattle.ira_order.proofs.receipt_numbers.received_by.Goals as goal

pub returns : goal.returns
returns c = λ events are.
    let numbers = c.args.numbers.now in
    let rises = numbers_rise events c.args.b numbers are in
    let point = IsPartitionPoint-from_clause (λ number.
    leb number c.args.b) _ _ c.partition_point.ensures.partitioned rises (λ a r q k. search rules) in
    numbers_point events c.args.b numbers are c.partition_point.result c.partition_point.ensures.bound point
