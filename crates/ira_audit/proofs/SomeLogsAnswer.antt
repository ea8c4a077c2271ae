-- A text has an answer, where it is asked whether it is a log's; texts have one, where it is asked whether they
-- are those of a ring's logs.
use Rattle.std.proofs.Common.{◌≡◌, ℕ, zero, suc, ◌⊎◌, inl, inr, List, [], ◌∷◌, refl, subst}
use Rattle.ira_event.specs.declared.log_fault.LogFault.{LogFault}
use Rattle.ira_event.specs.Log.{Log, IsLog}
use Rattle.ira_event.specs.Logs.{EachLog}
use Rattle.ira_event.proofs.TextsAnswered.{each_answered}
use Rattle.ira_replay.specs.declared.replay_fault.ReplayFault.{ReplayFault}
use Rattle.ira_replay.specs.LocalRun.{IsLocalRun}
use Rattle.ira_order.specs.Run.{AreLocalRuns}
use Rattle.ira_event.proofs.HeadsAnswered.{each_or_first, ring_or_fault}
use Rattle.ira_replay.proofs.FirstFaults.{run_or_stop, is_run}
use Rattle.ira_order.proofs.MatchAnswered.{match_or_fault}
use Rattle.ira_order.proofs.OrderOrCircle.{order_or_circle}
use Rattle.ira_audit.specs.declared.reason.Reason.{Reason}
use Rattle.ira_audit.specs.declared.reason.Reason.TheVariants as reason
use Rattle.ira_audit.specs.declared.answer.Answer.{Answer}
use Rattle.ira_audit.specs.declared.answer.Answer.TheVariants.{Yes, No}
use Rattle.ira_audit.specs.LogTextAnswer as single
use Rattle.ira_audit.specs.GoodLogs.{AreGoodLogs}
use Rattle.ira_audit.specs.LogTexts.{AreLogTexts, IsFirstTextFault}
use Rattle.ira_audit.specs.RingAnswer.{IsFirstReplayFault, IsRingAnswer, no_log, no_ring, unmatched, circled, stopped}
use Rattle.ira_audit.specs.RingAnswer.{yes}

-- ---- texts are those of logs, or one is the first that isn't

logs_or_fault : (texts : List (List ℕ)) → ((logs : List Log) × AreLogTexts texts logs)
    ⊎ ((i : ℕ) × (f : LogFault) × IsFirstTextFault texts i f)
logs_or_fault [] = inl ([], tt)
logs_or_fault (text ∷ texts) = elim (each_answered text) [
  | inr h ↦ inr (0, h.0, record { before = []; before_are = tt; text = text; at = refl; fault = h.1 })
  | inl log ↦ elim (logs_or_fault texts) [
    | inl logs ↦ inl (log.0 ∷ logs.0, (log.1, logs.1))
    | inr h ↦ inr (
      suc h.0,
      h.1,
      record {
        before = log.0 ∷ h.2.before;
        before_are = (log.1, h.2.before_are);
        text = h.2.text;
        at = h.2.at;
        fault = h.2.fault;
      },
    )
  ]
]

all_valid : (texts : List (List ℕ)) (logs : List Log) → AreLogTexts texts logs → EachLog logs (λ i log. IsLog log)
all_valid [] [] are i log at = absurd cc
all_valid [] (l ∷ logs) are i log at = absurd are
all_valid (t ∷ texts) [] are i log at = absurd are
all_valid (t ∷ texts) (l ∷ logs) are zero log at = (let same : l ≡ log = cc in subst IsLog same are.0.valid)
all_valid (t ∷ texts) (l ∷ logs) are (suc i) log at = all_valid texts logs are.1 i log at

-- ---- logs are local runs, or one is the first that stops

runs_or_stop : (logs : List Log) → AreLocalRuns logs
    ⊎ ((place : ℕ) × (f : ReplayFault) × IsFirstReplayFault logs place f)
runs_or_stop logs = elim (each_or_first logs (λ i log. IsLocalRun log) (λ i log. is_run log)) [
  | inl runs ↦ inl runs
  | inr o ↦ elim (run_or_stop o.1.log) [
    | inl run ↦ absurd (o.1.other run)
    | inr stop ↦ inr (
      o.0,
      stop.0,
      record { before = λ i earlier lt at. o.1.least i earlier lt at; log = o.1.log; at = o.1.at; fault = stop.1 },
    )
  ]
]

-- ---- the answer

-- of one text
pub some_answer : (text : List ℕ) → (a : Answer) × single.IsLogTextAnswer text a
some_answer text = elim (each_answered text) [
  | inr h ↦ (No (reason.Log 0 h.0), single.no_log h.0 h.1 refl)
  | inl log ↦ elim (run_or_stop log.0) [
    | inr stop ↦ (
      No (reason.Replay log.0.place stop.0.position stop.0.fault),
      single.stopped log.0 stop.0 log.1 stop.1 refl,
    )
    | inl run ↦ (Yes, single.yes log.0 log.1 run refl)
  ]
]

-- there is a reason against the texts, or they are those of good logs
pub bad_or_good : (texts : List (List ℕ)) → ((r : Reason) × IsRingAnswer texts (No r))
    ⊎ ((logs : List Log) × AreGoodLogs texts logs)
bad_or_good texts = elim (logs_or_fault texts) [
  | inr h ↦ inl (reason.Log h.0 h.1, no_log h.0 h.1 h.2 refl)
  | inl logs ↦ elim (ring_or_fault logs.0 (all_valid texts logs.0 logs.1)) [
    | inr h ↦ inl (reason.Heads h.0, no_ring logs.0 h.0 logs.1 h.1 refl)
    | inl ring ↦ elim (match_or_fault logs.0) [
      | inr h ↦ inl (reason.Match h.0, unmatched logs.0 h.0 logs.1 ring h.1 refl)
      | inl matches ↦ elim (order_or_circle logs.0 ring matches) [
        | inr h ↦ inl (reason.Circle, circled logs.0 logs.1 ring h refl)
        | inl order ↦ elim (runs_or_stop logs.0) [
          | inr h ↦ inl (reason.Replay h.0 h.1.position h.1.fault, stopped logs.0 h.0 h.1 logs.1 ring order h.2 refl)
          | inl runs ↦ inr (
            logs.0,
            record { texts_are = logs.1; are_good = record { ring = ring; order = order; runs = runs } },
          )
        ]
      ]
    ]
  ]
]

pub some_logs_answer : (texts : List (List ℕ)) → (a : Answer) × IsRingAnswer texts a
some_logs_answer texts = elim (bad_or_good texts) [
  | inl bad ↦ (No bad.0, bad.1)
  | inr good ↦ (Yes, yes good.0 good.1 refl)
]
