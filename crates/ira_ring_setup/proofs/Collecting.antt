-- Parts that are collected place by place.
use Rattle.std.proofs.Common.{◌≡◌, ◌≢◌, ℕ, zero, suc, ◌<◌, Bool, true, false, List, [], ◌∷◌, ◌++◌, length, replicate}
use Rattle.std.proofs.Common.{set, Option, Some, None, Result, Ok, Err, inl, inr, refl, sym, ap, subst, ◌∙◌, arith}
use Rattle.std.proofs.Common.{append_assoc, length-set}
use Rattle.std.specs.Prelude.{◌⊎◌, ◌&&◌, nat_eq, slice_get, map, is_some}
use Rattle.std.specs.List.{zip, list_all}
use Rattle.std.proofs.lemmas.Bool.{cases_eq}
use Rattle.std.proofs.lemmas.Bool.Decides.{nat_tests}
use Rattle.std.proofs.lemmas.List.{append-nil, length-replicate, map-append}
use Rattle.std.proofs.lemmas.Option.{none-some, same_Some, some_pair_parts}
use Rattle.ira_event.specs.Log.{Log, IsLog}
use Rattle.ira_event.specs.Logs.{AreLogs}
use Rattle.ira_event.specs.RingSize.{IsRingSize}
use Rattle.ira_event.proofs.Numerals.{and_parts}
use Rattle.ira_ring_setup.specs.declared.node_end.NodeEnd.{NodeEnd}
use Rattle.ira_ring_setup.specs.declared.node_end.NodeEnd.TheVariants.{Leader, Stopped, DrawsSpent, LogFull, NoStep, Quiet}
use Rattle.ira_ring_setup.specs.declared.run_fault.RunFault.{RunFault}
use Rattle.ira_ring_setup.specs.declared.run_fault.RunFault.TheVariants.{NoEnd, Stranger, Double}
use Rattle.ira_ring_setup.specs.Collector.{AreTaken, HasOtherVersion, IsStranger, IsTaken, IsMissing, PartFaultOf, KeepsPart}
use Rattle.ira_ring_setup.specs.Collector.{HasNoEnd, FinishFaultOf, AreParts, has_version}
use Rattle.ira_ring_setup.specs.NodeEnd.{is_stopped}
use Rattle.ira_ring_setup.proofs.Places.{get_within}

-- Members of lists.

-- a member of a list of copies
pub member-replicate : {X : Type 0} (n i : ℕ) (x y : X) → slice_get (replicate n x) i ≡ Some y → x ≡ y
member-replicate zero i x y p = absurd cc
member-replicate (suc n) zero x y p = cc
member-replicate (suc n) (suc i) x y p = member-replicate n i x y p

get-set-same : {X : Type 0} (xs : List X) (i : ℕ) (x : X) → i < length xs → slice_get (set xs i x) i ≡ Some x
get-set-same [] i x lt = absurd (omega arith)
get-set-same (y ∷ xs) zero x lt = refl
get-set-same (y ∷ xs) (suc i) x lt = get-set-same xs i x (omega arith)

get-set-other : {X : Type 0} (xs : List X) (i j : ℕ) (x : X) → j ≢ i → slice_get (set xs i x) j ≡ slice_get xs j
get-set-other [] i j x ne = refl
get-set-other (y ∷ xs) zero zero x ne = absurd (ne refl)
get-set-other (y ∷ xs) zero (suc j) x ne = refl
get-set-other (y ∷ xs) (suc i) zero x ne = refl
get-set-other (y ∷ xs) (suc i) (suc j) x ne = get-set-other xs i j x (λ e. ne (ap suc e))

-- a member of a list in which one was put is that one, or stood there before
get-set-cases : {X : Type 0} (xs : List X) (i j : ℕ) (x y : X) → slice_get (set xs i x) j ≡ Some y → ((j ≡ i) × (x ≡ y))
    ⊎ (slice_get xs j ≡ Some y)
get-set-cases [] i j x y p = inr p
get-set-cases (z ∷ xs) zero zero x y p = inl (refl, cc)
get-set-cases (z ∷ xs) zero (suc j) x y p = inr p
get-set-cases (z ∷ xs) (suc i) zero x y p = inr p
get-set-cases (z ∷ xs) (suc i) (suc j) x y p =
    elim (get-set-cases xs i j x y p) [ inl q ↦ inl (ap suc q.0, q.1) | inr q ↦ inr q ]

pub get-after : {X : Type 0} (xs : List X) (x : X) (ys : List X) → slice_get (xs ++ x ∷ ys) (length xs) ≡ Some x
get-after [] x ys = refl
get-after (y ∷ xs) x ys = get-after xs x ys

pub some-of : {X : Type 0} (o : Option X) → is_some o ≡ true → (x : X) × (o ≡ Some x)
some-of (Some x) e = (x, refl)
some-of None e = absurd cc

pub none-of : {X : Type 0} (o : Option X) → is_some o ≡ false → o ≡ None
none-of (Some x) e = absurd cc
none-of None e = refl

pub none-by : {X : Type 0} (o : Option X) → ((x : X) → o ≡ Some x → ⊥) → o ≡ None
none-by (Some x) h = absurd (h x refl)
none-by None h = refl

-- one pair more, after as many on both sides
pub zip-push : {A B : Type 0} (xs : List A) (ys : List B) (x : A) (y : B) → length xs ≡ length ys
    → zip (xs ++ x ∷ []) (ys ++ y ∷ []) ≡ zip xs ys ++ (x, y) ∷ []
zip-push [] [] x y same = refl
zip-push [] (b ∷ ys) x y same = absurd (omega arith)
zip-push (a ∷ xs) [] x y same = absurd (omega arith)
zip-push (a ∷ xs) (b ∷ ys) x y same = ap (λ r. (a, b) ∷ r) (zip-push xs ys x y (omega arith))

-- The parts of a run.

-- the logs and the ends as parts that were taken
abbrev pub parts_of : List Log → List NodeEnd → List (Option (Log × NodeEnd))
parts_of logs ends = map (λ part. Some part) (zip logs ends)

length-parts : (logs : List Log) (ends : List NodeEnd) → length logs ≡ length ends
    → length (parts_of logs ends) ≡ length logs
length-parts [] ends same = refl
length-parts (log ∷ logs) [] same = absurd (omega arith)
length-parts (log ∷ logs) (end ∷ ends) same = ap suc (length-parts logs ends (omega arith))

-- one part more
pub parts-more : (logs longer_logs : List Log) (ends longer_ends : List NodeEnd) (log : Log) (end : NodeEnd)
    (rest others taken : List (Option (Log × NodeEnd))) → length logs ≡ length ends → longer_logs ≡ logs ++ log ∷ []
    → longer_ends ≡ ends ++ end ∷ [] → rest ≡ Some (log, end) ∷ others → taken ≡ parts_of logs ends ++ rest
    → taken ≡ parts_of longer_logs longer_ends ++ others
parts-more logs longer_logs ends longer_ends log end rest others taken same l e r parts =
    let longer : parts_of longer_logs longer_ends ≡ parts_of logs ends ++ Some (log, end) ∷ [] =
    ap (λ xs. parts_of xs longer_ends) l ∙ ap (λ ys. parts_of (logs ++ log ∷ []) ys) e
    ∙ ap (λ zs. map (λ part. Some part) zs) (zip-push logs ends log end same)
    ∙ map-append (λ part. Some part) (zip logs ends) ((log, end) ∷ []) in
    parts ∙ ap (λ xs. parts_of logs ends ++ xs) r
    ∙ sym (append_assoc (parts_of logs ends) (Some (log, end) ∷ []) others) ∙ ap (λ xs. xs ++ others) (sym longer)

-- no part is left
pub parts-whole : (logs : List Log) (ends : List NodeEnd) (rest taken : List (Option (Log × NodeEnd))) → length rest ≡ 0
    → taken ≡ parts_of logs ends ++ rest → taken ≡ parts_of logs ends
parts-whole logs ends [] taken none parts = parts ∙ append-nil (parts_of logs ends)
parts-whole logs ends (part ∷ rest) taken none parts = absurd (omega arith)

-- a place without a part after those that were taken
pub missing-after : (taken front rest others : List (Option (Log × NodeEnd))) → rest ≡ None ∷ others
    → taken ≡ front ++ rest → HasNoEnd taken
missing-after taken front rest others r parts =
    inl (
      length front,
      ap (λ xs. slice_get xs (length front)) (parts ∙ ap (λ xs. front ++ xs) r)
          ∙ get-after front None others,
    )

no-missing : (logs : List Log) (ends : List NodeEnd) (i : ℕ) → ¬ (IsMissing (parts_of logs ends) i)
no-missing [] ends i p = absurd cc
no-missing (log ∷ logs) [] i p = absurd cc
no-missing (log ∷ logs) (end ∷ ends) zero p = absurd cc
no-missing (log ∷ logs) (end ∷ ends) (suc i) p = no-missing logs ends i p

get-parts : (logs : List Log) (ends : List NodeEnd) (i : ℕ) (log : Log) → length logs ≡ length ends
    → slice_get logs i ≡ Some log → (end : NodeEnd) × (slice_get (parts_of logs ends) i ≡ Some (Some (log, end)))
get-parts [] ends i log same p = absurd cc
get-parts (l ∷ logs) [] i log same p = absurd (omega arith)
get-parts (l ∷ logs) (e ∷ ends) zero log same p =
    let l_is : l ≡ log = cc in
    (e, ap (λ x. Some (Some (x, e))) l_is)
get-parts (l ∷ logs) (e ∷ ends) (suc i) log same p = get-parts logs ends i log (omega arith) p

-- Ends.

stopped-is : (end : NodeEnd) → is_stopped end ≡ true → end ≡ Stopped
stopped-is Leader e = absurd cc
stopped-is Stopped e = refl
stopped-is DrawsSpent e = absurd cc
stopped-is LogFull e = absurd cc
stopped-is (NoStep m) e = absurd cc
stopped-is Quiet e = absurd cc

-- every end is `Stopped`
pub each-stopped : (logs : List Log) (ends : List NodeEnd) → list_all is_stopped ends ≡ true
    → (i : ℕ) (log : Log) (end : NodeEnd) → slice_get (parts_of logs ends) i ≡ Some (Some (log, end)) → end ≡ Stopped
each-stopped [] ends all i log end p = absurd cc
each-stopped (l ∷ logs) [] all i log end p = absurd cc
each-stopped (l ∷ logs) (e ∷ ends) all zero log end p =
    let e_is : e ≡ end = (some_pair_parts l log e end (same_Some (Some (l, e)) (Some (log, end)) p)).1 in
    sym e_is ∙ stopped-is e (and_parts (is_stopped e) (list_all is_stopped ends) all).0
each-stopped (l ∷ logs) (e ∷ ends) all (suc i) log end p =
    each-stopped logs ends (and_parts (is_stopped e) (list_all is_stopped ends) all).1 i log end p

all-stopped : (logs : List Log) (ends : List NodeEnd) → length logs ≡ length ends
    → ((i : ℕ) (log : Log) (end : NodeEnd) → slice_get (parts_of logs ends) i ≡ Some (Some (log, end)) → end ≡ Stopped)
    → list_all is_stopped ends ≡ true
all-stopped logs [] same each = refl
all-stopped [] (e ∷ ends) same each = absurd (omega arith)
all-stopped (l ∷ logs) (e ∷ ends) same each =
    rw (each 0 l e refl) (all-stopped logs ends (omega arith) (λ i. each (suc i)))

-- parts of which one isn't `Stopped` are a run
pub run-has-end : (logs : List Log) (ends : List NodeEnd) → length logs ≡ length ends → list_all is_stopped ends ≡ false
    → ¬ (HasNoEnd (parts_of logs ends))
run-has-end logs ends same goes_on h =
    elim h [
      | inl missing ↦ no-missing logs ends missing.0 missing.1
      | inr each ↦ let all = all-stopped logs ends same each in absurd cc
    ]

-- Versions.

-- each log that was taken is of this version
abbrev pub AreOfVersion : ℕ → List (Option (Log × NodeEnd)) → Type 0
AreOfVersion version taken = (i : ℕ) (log : Log) (end : NodeEnd) → slice_get taken i ≡ Some (Some (log, end))
    → log.version ≡ version

-- so it is where one of this version is put to those that were
version-after : (taken : List (Option (Log × NodeEnd))) (i : ℕ) (log : Log) (end : NodeEnd)
    → AreOfVersion log.version taken → (j : ℕ) (other : Log) (last : NodeEnd)
    → slice_get (set taken i (Some (log, end))) j ≡ Some (Some (other, last)) → other.version ≡ log.version
version-after taken i log end versions j other last p =
    elim (get-set-cases taken i j (Some (log, end)) (Some (other, last)) p) [
      | inl q ↦ let same : log ≡ other = (some_pair_parts log other end last q.1).0 in
          ap (λ (x : Log). x.version) (sym same)
      | inr q ↦ versions j other last q
    ]

pub all-of-version : (version : ℕ) (taken : List (Option (Log × NodeEnd))) → list_all (has_version version) taken ≡ true
    → AreOfVersion version taken
all-of-version version [] all i log end p = absurd cc
all-of-version version (part ∷ taken) all zero log end p =
    let is : part ≡ Some (log, end) = same_Some part (Some (log, end)) p in
    let here : nat_eq log.version version ≡ true =
    sym (ap (has_version version) is)
    ∙ (and_parts (has_version version part) (list_all (has_version version) taken) all).0 in
    grind (arith, nat_tests)
all-of-version version (part ∷ taken) all (suc i) log end p =
    all-of-version version taken (and_parts (has_version version part) (list_all (has_version version) taken) all).1 i
    log end p

-- a log that was taken is of another version
pub some-other-version : (log : Log) (taken : List (Option (Log × NodeEnd)))
    → list_all (has_version log.version) taken ≡ false → HasOtherVersion taken log
some-other-version log [] none = absurd cc
some-other-version log (None ∷ taken) none =
    let rest = some-other-version log taken none in
    (suc rest.0, rest.1, rest.2, rest.3, rest.4)
some-other-version log (Some part ∷ taken) none = elim (cases_eq part.0.version log.version) [
  | inl e ↦
      let same : nat_eq part.0.version log.version ≡ true = grind (arith, nat_tests) in
      let rest = some-other-version log taken
      (subst (λ (b : Bool). (b && list_all (has_version log.version) taken) ≡ false) same none) in
      (suc rest.0, rest.1, rest.2, rest.3, rest.4)
  | inr ne ↦ (0, part.0, part.1, refl, ne)
]

-- Collectors.

-- nothing was taken
pub AreTaken-none : (n : ℕ) (taken : List (Option (Log × NodeEnd))) → IsRingSize n → taken ≡ replicate n None
    → AreTaken n taken
AreTaken-none n taken ring none = record {
  ring = ring;
  places = ap length none ∙ length-replicate n None;
  fit = λ i log end p. absurd (none-some (
    log,
    end,
  ) (member-replicate n i None (Some (log, end)) (ap (λ xs. slice_get xs i) (sym none) ∙ p)));
  alike = λ i j log other end last p q.
      absurd (none-some (log, end)
      (member-replicate n i None (Some (log, end)) (ap (λ xs. slice_get xs i) (sym none) ∙ p)));
}

-- one part more, of the same version, is taken
pub AreTaken-more : (n : ℕ) (taken : List (Option (Log × NodeEnd))) (i : ℕ) (log : Log) (end : NodeEnd)
    → AreTaken n taken → log.nodes ≡ n → log.place ≡ i → IsLog log → AreOfVersion log.version taken
    → AreTaken n (set taken i (Some (log, end)))
AreTaken-more n taken i log end old nodes place valid versions = record {
  ring = old.ring;
  places = length-set taken i (Some (log, end)) ∙ old.places;
  fit = λ j other last p. elim (get-set-cases taken i j (Some (log, end)) (Some (other, last)) p) [
    | inl q ↦ let same : log ≡ other = (some_pair_parts log other end last q.1).0 in (
      ap (λ (x : Log). x.nodes) (sym same) ∙ nodes,
      ap (λ (x : Log). x.place) (sym same) ∙ place ∙ sym q.0,
      subst IsLog same valid,
    )
    | inr q ↦ old.fit j other last q
  ];
  alike = λ j k other another last latest p q. version-after taken i log end versions j other last p
      ∙ sym (version-after taken i log end versions k another latest q);
}

pub keeps-part : (taken : List (Option (Log × NodeEnd))) (i : ℕ) (part : Log × NodeEnd) → i < length taken
    → KeepsPart taken i part (set taken i (Some part))
keeps-part taken i part within = record {
  number = length-set taken i (Some part);
  at = get-set-same taken i (Some part) within;
  others = λ j ne. get-set-other taken i j (Some part) ne;
}

-- a log of the ring, of its place and of the version of those that were taken is no stranger's
pub no-stranger : (taken : List (Option (Log × NodeEnd))) (place : ℕ) (log : Log) → place < length taken
    → log.nodes ≡ length taken → log.place ≡ place → AreOfVersion log.version taken → ¬ (IsStranger taken place log)
no-stranger taken place log within nodes at versions h = elim h [
  | inl past ↦ absurd (omega arith)
  | inr other ↦ elim other [
    | inl ne ↦ ne nodes
    | inr left ↦ elim left [ inl ne ↦ ne at | inr q ↦ q.4 (versions q.0 q.1 q.2 q.3) ]
  ]
]

-- the answer where the part is a stranger's
pub answers-stranger : {T : Type 0} (taken : List (Option (Log × NodeEnd))) (place : ℕ) (log : Log)
    → IsStranger taken place log → (f : RunFault)
    → (◌≡◌ {A = Result T RunFault} (Err Stranger) (Err f) → PartFaultOf taken place log f)
    × (PartFaultOf taken place log f → ◌≡◌ {A = Result T RunFault} (Err Stranger) (Err f))
answers-stranger taken place log is f =
    (λ e. inl (is, cc), λ h. elim h [ inl q ↦ ap Err (sym q.1) | inr q ↦ absurd (q.0 is) ])

-- the answer where a part of the place was taken
pub answers-double : {T : Type 0} (taken : List (Option (Log × NodeEnd))) (place : ℕ) (log : Log)
    → ¬ (IsStranger taken place log) → IsTaken taken place → (f : RunFault)
    → (◌≡◌ {A = Result T RunFault} (Err Double) (Err f) → PartFaultOf taken place log f)
    × (PartFaultOf taken place log f → ◌≡◌ {A = Result T RunFault} (Err Double) (Err f))
answers-double taken place log fits was f =
    (λ e. inr (fits, was, cc), λ h. elim h [ inl q ↦ absurd (fits q.0) | inr q ↦ ap Err (sym q.2) ])

-- the answer where no part of the place was taken
pub answers-taken : {T : Type 0} (r : T) (taken : List (Option (Log × NodeEnd))) (place : ℕ) (log : Log)
    → ¬ (IsStranger taken place log) → slice_get taken place ≡ Some None → (f : RunFault)
    → (◌≡◌ {A = Result T RunFault} (Ok r) (Err f) → PartFaultOf taken place log f)
    × (PartFaultOf taken place log f → ◌≡◌ {A = Result T RunFault} (Ok r) (Err f))
answers-taken r taken place log fits free f =
    (λ e. absurd cc, λ h. elim h [ inl q ↦ absurd (fits q.0) | inr q ↦ let at = q.1.1 in absurd cc ])

-- the answer where there is no run
pub answers-no-end : {T : Type 0} (taken : List (Option (Log × NodeEnd))) → HasNoEnd taken → (f : RunFault)
    → (◌≡◌ {A = Result T RunFault} (Err NoEnd) (Err f) → FinishFaultOf taken f)
    × (FinishFaultOf taken f → ◌≡◌ {A = Result T RunFault} (Err NoEnd) (Err f))
answers-no-end taken none f = (λ e. (none, cc), λ h. ap Err (sym h.1))

-- the answer where there is one
pub answers-run : {T : Type 0} (r : T) (taken : List (Option (Log × NodeEnd))) → ¬ (HasNoEnd taken) → (f : RunFault)
    → (◌≡◌ {A = Result T RunFault} (Ok r) (Err f) → FinishFaultOf taken f)
    × (FinishFaultOf taken f → ◌≡◌ {A = Result T RunFault} (Ok r) (Err f))
answers-run r taken some f = (λ e. absurd cc, λ h. absurd (some h.0))

-- the logs of all parts are those of the ring
pub parts-are-logs : (n : ℕ) (taken : List (Option (Log × NodeEnd))) (logs : List Log) (ends : List NodeEnd)
    → length logs ≡ length ends → taken ≡ parts_of logs ends → AreTaken n taken → AreLogs logs
parts-are-logs n taken logs ends same parts old =
    let number : length logs ≡ n = sym (length-parts logs ends same) ∙ ap length (sym parts) ∙ old.places in
    let first = get_within logs 0 (omega (arith, number, old.ring.0)) in
    let one : Log = first.0 in
    record {
      ring = subst IsRingSize (sym number) old.ring;
      sizes = λ i log at. let p = get-parts logs ends i log same at in
          (old.fit i log p.0 (rw parts p.1)).0 ∙ sym number;
      places = λ i log at. let p = get-parts logs ends i log same at in (old.fit i log p.0 (rw parts p.1)).1;
      valid = λ i log at. let p = get-parts logs ends i log same at in (old.fit i log p.0 (rw parts p.1)).2;
      version = one.version;
      versions = λ i log at.
          let p = get-parts logs ends i log same at in
          let q = get-parts logs ends 0 one same first.1 in
          old.alike i 0 log one p.0 q.0 (ap (λ xs. slice_get xs i) parts ∙ p.1) (ap (λ xs. slice_get xs 0) parts ∙ q.1);
    }

-- they are the run's
pub run-of-parts : (taken : List (Option (Log × NodeEnd))) (logs : List Log) (ends : List NodeEnd)
    → length logs ≡ length ends → taken ≡ parts_of logs ends → AreParts taken (record { logs = logs; ends = ends })
run-of-parts taken logs ends same parts = record {
  logs = sym (length-parts logs ends same) ∙ ap length (sym parts);
  ends = sym same ∙ sym (length-parts logs ends same) ∙ ap length (sym parts);
  parts = parts;
}
