-- A node whose events version 1 has never owes a reset.
use Rattle.std.proofs.Common.{◌≡◌, ℕ, Bool, true, false, not, ◌∙◌, refl, sym, ap}
use Rattle.ira_event.specs.declared.load.Load.{Load}
use Rattle.ira_event.specs.declared.event.Event.{Event}
use Rattle.ira_event.specs.declared.event.Event.TheVariants.{Sent}
use Rattle.ira_event.specs.Event.{is_reset, is_later}
use Rattle.ira_node.specs.declared.node_state.NodeState.{NodeState}
use Rattle.ira_node.specs.NodeStep.{NodeStep, sends, draws, passes, gives_in, purges, meets, ties, wins, yields}
use Rattle.ira_node.specs.NodeStep.{restarts, comes_home}
use Rattle.ira_node.specs.Plain.{is_plain}
use Rattle.ira_node.proofs.Inversions.{sending_owes}

pub owes_no_reset : (n : ℕ) (s : NodeState) (e : Event) (t : NodeState) → is_later e ≡ false → NodeStep n s e t
    → is_plain t.owed ≡ true
owes_no_reset n s e t first (sends l runs o ee et) = rw et refl
owes_no_reset n s e t first (draws term round id es ee lo hi et) = rw et refl
owes_no_reset n s e t first (passes term m es ee h et) = rw et refl
owes_no_reset n s e t first (gives_in term round id m es ee g h et) = rw et refl
owes_no_reset n s e t first (purges term round id m es ee g et) = rw (et, es) refl
owes_no_reset n s e t first (meets term round id m es ee g h k et) = rw et refl
owes_no_reset n s e t first (ties term round id m es ee g h d k et) = rw et refl
owes_no_reset n s e t first (wins term round id m es ee g h d et) = rw et refl
owes_no_reset n s e t first (yields l ee low et) = let other = sym first ∙ ap is_later ee in absurd cc
owes_no_reset n s e t first (restarts term h es ee below low et) = let other = sym first ∙ ap is_later ee in absurd cc
owes_no_reset n s e t first (comes_home term es ee low et) = let other = sym first ∙ ap is_later ee in absurd cc

none_of : (b : Bool) → not b ≡ true → b ≡ false
none_of true h = absurd cc
none_of false h = refl

pub sends_no_reset : (n : ℕ) (s : NodeState) (l : Load) (t : NodeState) → is_plain s.owed ≡ true
    → NodeStep n s (Sent l) t → is_reset l ≡ false
sends_no_reset n s l t plain step = none_of (is_reset l) (sym (ap is_plain (sending_owes n s t l step)) ∙ plain)
