use Rattle.ira_elim.proofs.Places.{AreListed, AreAllBelow}
use Rattle.ira_elim.proofs.elimination.asked_places.Given as goal

abbrev pub invariant-loop-place : goal.invariant-loop-place
invariant-loop-place g l = record {
  listed : AreListed l.queues l.asked.items;
  all : AreAllBelow l.queues l.place l.asked.items;
}
