-- What an answer says of runs of the ring.
use Rattle.std.proofs.Common.{◌≡◌, ℕ, List, refl, subst}
use Rattle.ira_event.specs.Log as log
use Rattle.ira_order.proofs.RunsOfLogs.{every_order_is_run, unmatched_no_run, circled_no_run, faulty_no_run}
use Rattle.ira_audit.specs.declared.reason.Reason.{Reason}
use Rattle.ira_audit.specs.declared.reason.Reason.TheVariants.{Log, Heads}
use Rattle.ira_audit.specs.declared.answer.Answer.{Answer}
use Rattle.ira_audit.specs.declared.answer.Answer.TheVariants.{Yes, No}
use Rattle.ira_audit.specs.GoodLogs.{AreGoodLogs}
use Rattle.ira_audit.specs.RingAnswer.{IsRingAnswer, no_log, no_ring, unmatched, circled, stopped, yes}
use Rattle.ira_audit.specs.TextRuns.{AreTextsOfRuns, AreTextsWithoutRun, IsOfRing, NoMeansNoRun, YesMeansRuns}

-- texts of good logs
pub good_runs : (texts : List (List ℕ)) (logs : List log.Log) → AreGoodLogs texts logs → AreTextsOfRuns texts
good_runs texts logs good = record {
  logs = logs;
  texts_are = good.texts_are;
  ring = good.are_good.ring;
  order = good.are_good.order;
  runs = every_order_is_run logs good.are_good.ring good.are_good.order.0 good.are_good.runs;
}

-- texts that are answered yes
pub yes_runs : (texts : List (List ℕ)) (a : Answer) → IsRingAnswer texts a → a ≡ Yes → AreTextsOfRuns texts
yes_runs texts a (no_log n f h e) is = absurd cc
yes_runs texts a (no_ring logs f t h e) is = absurd cc
yes_runs texts a (unmatched logs f t ring h e) is = absurd cc
yes_runs texts a (circled logs t ring h e) is = absurd cc
yes_runs texts a (stopped logs p f t ring o h e) is = absurd cc
yes_runs texts a (yes logs good e) is = good_runs texts logs good

pub yes_means_runs : YesMeansRuns
yes_means_runs texts h = yes_runs texts Yes h refl

-- texts of a ring's logs that are answered no
no_without_run : (texts : List (List ℕ)) (a : Answer) (r : Reason) → IsRingAnswer texts a → a ≡ No r → IsOfRing r
    → AreTextsWithoutRun texts
no_without_run texts a r (no_log n f h e) is of = let same : r ≡ Log n f = cc in absurd (subst IsOfRing same of)
no_without_run texts a r (no_ring logs f t h e) is of = let same : r ≡ Heads f = cc in absurd (subst IsOfRing same of)
no_without_run texts a r (unmatched logs f t ring h e) is of = record {
  logs = logs;
  texts_are = t;
  ring = ring;
  none = unmatched_no_run logs f ring h;
}
no_without_run texts a r (circled logs t ring h e) is of = record {
  logs = logs;
  texts_are = t;
  ring = ring;
  none = circled_no_run logs ring h;
}
no_without_run texts a r (stopped logs p f t ring o h e) is of = record {
  logs = logs;
  texts_are = t;
  ring = ring;
  none = faulty_no_run logs p h.log f ring h.at h.fault;
}
no_without_run texts a r (yes logs good e) is of = absurd cc

pub no_means_no_run : NoMeansNoRun
no_means_no_run texts r h of = no_without_run texts (No r) r h refl of
