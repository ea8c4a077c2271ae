-- The logs of the nodes of a lone run.
use Rattle.std.proofs.Common.{◌≡◌, ℕ, ◌+◌, ◌<◌, Bool, true, false, inl, inr, List, [], ◌∷◌, ◌++◌, drop, length, get_or}
use Rattle.std.proofs.Common.{sym, ◌∙◌, subst, ap, arith}
use Rattle.std.specs.List.{list_all}
use Rattle.std.specs.Prelude.{map}
use Rattle.std.proofs.lemmas.List.{drop_all, drop_more, get_or_read}
use Rattle.std.proofs.lemmas.Option.{get_or_from_slice_get, slice_get_within}
use Rattle.ira_event.specs.declared.event.Event.{Event}
use Rattle.ira_event.specs.Event.{is_event, is_of_version}
use Rattle.ira_event.specs.Log.{Log, IsLog}
use Rattle.std.proofs.lemmas.Bool.{cases_lt}
use Rattle.ira_ring_setup.specs.Setup.{Setup, is_initiator, KeepsRules}
use Rattle.ira_ring_setup.specs.Terms.{version_of}
use Rattle.ira_ring_alone.specs.LoneNode.{LoneNode}
use Rattle.ira_ring_alone.specs.LoneRing.{idle, node_at, IsReached, AreLogsOfNodes}
use Rattle.ira_ring_alone.proofs.LoneStarts.{each_more}
use Rattle.ira_ring_setup.proofs.FullRuns.{no_log}
use Rattle.ira_ring_setup.proofs.LogVersions.{is_version, fits_version}
use Rattle.ira_ring_setup.proofs.Recordable.{run_recordable, run_of_version, run_within}

-- the log of node i
abbrev pub log_at : Setup → List LoneNode → ℕ → Log
log_at s nodes i = record {
  version = version_of s.nodes s.terms;
  nodes = s.nodes;
  place = i;
  initiator = is_initiator s i;
  events = (node_at nodes i).events;
}

pub is_log : (s : Setup) (nodes : List LoneNode) (i : ℕ) → KeepsRules s → IsReached s nodes → i < s.nodes
    → IsLog (log_at s nodes i)
is_log s nodes i rules reached l =
    let P : List Event → Type 0 = λ es. list_all is_event es ≡ true in
    let Q : List Event → Type 0 = λ es. list_all (is_of_version (version_of s.nodes s.terms)) es ≡ true in
    record {
      version = is_version s.nodes s.terms;
      size = rules.size;
      fits = fits_version s.nodes s.terms;
      place = l;
      count = omega (
        arith,
        rules.cap.1,
        run_within s reached.run reached.point i reached.walk,
        ap length (reached.events i l),
      );
      numbers = subst P (reached.events i l) (run_recordable s reached.run reached.point i rules reached.walk);
      held = subst Q (reached.events i l) (run_of_version s reached.run reached.point i rules reached.walk);
    }

-- the first of the nodes left
pub first_left : (nodes : List LoneNode) (place : ℕ) (node : LoneNode) (rest : List LoneNode)
    → node ∷ rest ≡ drop place nodes → (place < length nodes) × (node ≡ node_at nodes place)
    × (rest ≡ drop (place + 1) nodes)
first_left nodes place node rest is = elim (cases_lt place (length nodes)) [
  | inl l ↦
      let both : node ∷ rest ≡ node_at nodes place ∷ drop (place + 1) nodes = is ∙ drop_more nodes place idle l in
      (l, cc, cc)
  | inr past ↦ (let none : node ∷ rest ≡ [] = is ∙ drop_all place nodes past in absurd (some_left node rest none))
]
  where
    some_left : (x : LoneNode) (xs : List LoneNode) → x ∷ xs ≡ [] → ⊥
    some_left x xs h = cc

-- the log that the code makes of what it reads
made_log : {V : Type 0} (see : V
    → List ℕ) (n : ℕ) (kinds : List Bool) (rows : List V) (most terms : ℕ) (nodes : List LoneNode) (place j : ℕ)
    (node : LoneNode) (kind : Bool)
    → place < length kinds → j ≡ place → kind ≡ get_or kinds j kind → node ≡ node_at nodes place
    → record { version = version_of n terms; nodes = n; place = place; initiator = kind; events = node.events }
    ≡ log_at (record { nodes = n; initiators = kinds; draws = map see rows; cap = most; terms = terms }) nodes place
made_log {V} see n kinds rows most terms nodes place j node kind l is kind_is node_is =
    let k : kind ≡ get_or kinds place false =
    get_or_read kinds place kind l (kind_is ∙ ap (λ (x : ℕ). get_or kinds x kind) is) false in
    ap (λ (x : Bool). record {
      version = version_of n terms;
      nodes = n;
      place = place;
      initiator = x;
      events = node.events;
    }) k
    ∙ ap (λ (x : LoneNode). record {
      version = version_of n terms;
      nodes = n;
      place = place;
      initiator = get_or kinds place false;
      events = x.events;
    }) node_is

pub log_is : {V : Type 0} (see : V
    → List ℕ) (n : ℕ) (kinds : List Bool) (rows : List V) (most terms : ℕ) (s : Setup) (nodes : List LoneNode)
    (place j : ℕ) (node : LoneNode) (kind : Bool)
    → record { nodes = n; initiators = kinds; draws = map see rows; cap = most; terms = terms } ≡ s → KeepsRules s
    → IsReached s nodes → place < length nodes → j ≡ place → kind ≡ get_or kinds j kind → node ≡ node_at nodes place
    → record { version = version_of n terms; nodes = n; place = place; initiator = kind; events = node.events }
    ≡ log_at s nodes place
log_is {V} see n kinds rows most terms s nodes place j node kind view rules reached l is kind_is node_is =
    let kinds_are : length kinds ≡ length s.initiators = ap (λ (x : Setup). length x.initiators) view in
    let P : Setup → Type 0 = λ x. record {
      version = version_of n terms;
      nodes = n;
      place = place;
      initiator = kind;
      events = node.events;
    } ≡ log_at x nodes place in
    subst P view (made_log see n kinds rows most terms nodes place j node kind
    (omega (arith, kinds_are, rules.lists.0, reached.many)) is kind_is node_is)

-- one log more
pub logs_more : (s : Setup) (nodes : List LoneNode) (logs : List Log) (log : Log) (place : ℕ)
    → log ≡ log_at s nodes place → length logs ≡ place → ((j : ℕ) → j < place → get_or logs j no_log ≡ log_at s nodes j)
    → (j : ℕ) → j < place + 1 → get_or (logs ++ log ∷ []) j no_log ≡ log_at s nodes j
logs_more s nodes logs log place is many each =
    each_more (λ j x. x ≡ log_at s nodes j) no_log logs log place many each is

pub all_logs : (s : Setup) (nodes : List LoneNode) (logs : List Log) → length logs ≡ length nodes
    → ((j : ℕ) → j < length nodes → get_or logs j no_log ≡ log_at s nodes j) → AreLogsOfNodes s nodes logs
all_logs s nodes logs many each = (
  many,
  λ i log at. sym (get_or_from_slice_get logs i log no_log at) ∙ each i (omega (arith, slice_get_within logs i log at)),
)
