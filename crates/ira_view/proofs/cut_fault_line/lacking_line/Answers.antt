use Rattle.std.proofs.Common.{◌≡◌, ◌∙◌, ◌++◌, List, append_assoc, codes, decimal, ℕ}
use Rattle.ira_view.proofs.cut_fault_line.lacking_line.Goals as goal

-- five texts that are put after one another
joined : (a b c d e : List ℕ) → (((a ++ b) ++ c) ++ d) ++ e ≡ a ++ (b ++ (c ++ (d ++ e)))
joined a b c d e =
    append_assoc ((a ++ b) ++ c) d e ∙ append_assoc (a ++ b) c (d ++ e) ∙ append_assoc a b (c ++ (d ++ e))

pub returns : goal.returns
returns c =
    let sending = c.args.sending in
    let parts = joined (codes "event ") (decimal sending.position) (codes " of node ") (decimal sending.place)
    (codes ", the sending that it receives, is not\n") in
    rw (
      c.add-3.ensures.text,
      c.add_number-2.ensures.text,
      c.from.ensures,
      c.add-2.ensures.text,
      c.add_number.ensures.text,
      c.add.ensures.text,
      c.new-line.ensures,
    ) parts
