use Rattle.std.proofs.Common.{◌≡◌, ◌∙◌, ◌++◌, ◌∷◌, [], ℕ, Err, List, ap, rules, subst, sym}
use Rattle.ira_view_page.specs.declared.show_fault.ShowFault.TheVariants.{OutOfMemory}
use Rattle.ira_view_json.specs.Line.{AreLines, Gathers}
use Rattle.ira_view_json.specs.View.{view}
use Rattle.ira_view_json.proofs.Gathering.{one_gathered, one_written}
use Rattle.ira_view_json.proofs.LinesWritten.{add_line, none_wrote}
use Rattle.ira_view_json.proofs.line_block.LineBlock.add.Goals as goal

pub returns-in_err-clone-clause-wrote : goal.returns-in_err-clone-clause-wrote
returns-in_err-clone-clause-wrote g c =
    let r = c.from_residual.result in
    let is : r ≡ Err OutOfMemory = search rules in
    none_wrote r (g.W.Sink.state c.args.sink.now) is

pub returns-in_err-line-clause-wrote : goal.returns-in_err-line-clause-wrote
returns-in_err-line-clause-wrote g c =
    let r = c.from_residual-in_err-line.result in
    let is : r ≡ Err OutOfMemory = search rules in
    none_wrote r (g.W.Sink.state c.args.sink.now) is

pub invariant_of-self-then-len-lt-BLOCK : goal.invariant_of-self-then-len-lt-BLOCK
invariant_of-self-then-len-lt-BLOCK g c =
    let text = c.self.inside.text.items in
    let line = c.in_ok-line.line.items in
    let added : c.extend_from_slice.new.self.items ≡ text ++ line = search rules in
    subst AreLines (sym added)
    (add_line text line (view c.args.value.now) c.self.invariant c.in_ok-line.ensures.line)

pub invariant_of-self-2 : goal.invariant_of-self-2
invariant_of-self-2 g c =
    let text = c.self.inside.text.items in
    let line = c.in_ok-line.line.items in
    let added : c.extend_from_slice.new.self.items ≡ text ++ line = search rules in
    subst AreLines (sym added)
    (add_line text line (view c.args.value.now) c.self.invariant c.in_ok-line.ensures.line)

pub returns-then-len-lt-BLOCK-clause-gathered : goal.returns-then-len-lt-BLOCK-clause-gathered
returns-then-len-lt-BLOCK-clause-gathered g c =
    let value = view c.args.value.now in
    let text = c.self.inside.text.items in
    let line = c.in_ok-line.line.items in
    let s = g.W.Sink.state c.args.sink.now in
    let added : c.extend_from_slice.new.self.items ≡ text ++ line = search rules in
    subst (λ (block : List ℕ). Gathers (value ∷ []) block c.extend_from_slice.new.self.items s s) c.self.view_is
    (subst (λ (all : List ℕ). Gathers (value ∷ []) text all s s) (sym added)
    (one_gathered value text line s c.in_ok-line.ensures.line))

pub returns-clause-gathered : goal.returns-clause-gathered
returns-clause-gathered g c =
    let line = c.in_ok-line.line.items in
    let added : c.extend_from_slice.new.self.items ≡ c.self.inside.text.items ++ line = search rules in
    one_written c.flush.result (view c.args.value.now) c.args.self.now line c.extend_from_slice.new.self.items
    c.flush.new.self (g.W.Sink.state c.args.sink.now) (g.W.Sink.state c.flush.new.sink) c.in_ok-line.ensures.line
    (added ∙ ap (λ (block : List ℕ). block ++ line) c.self.view_is) c.flush.ensures.all
