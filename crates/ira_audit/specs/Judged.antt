-- What texts that should be those of a ring's logs are judged to be.
use Rattle.std.specs.Prelude.{ℕ, List}
use Rattle.ira_audit.specs.declared.judged.Judged.{Judged}
use Rattle.ira_audit.specs.declared.judged.Judged.TheVariants.{Good, Refused, NoRing}
use Rattle.ira_audit.specs.GoodLogs.{AreGoodLogs}
use Rattle.ira_audit.specs.LogTexts.{AreLogTexts}
use Rattle.ira_audit.specs.Refusal.{IsRingReason}
use Rattle.ira_audit.specs.RefusedLogs.{AreRefused}

-- the texts are those of these good logs, or of these refused ones, or this is why they are those of no ring's logs
abbrev pub IsJudged : {A : Type 0} → List (List ℕ) → Judged A → Type 0
IsJudged texts (Good logs) = AreGoodLogs texts logs
IsJudged texts (Refused refused) = AreLogTexts texts refused.logs × AreRefused refused
IsJudged texts (NoRing reason) = IsRingReason texts reason
