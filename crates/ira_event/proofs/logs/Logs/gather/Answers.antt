use Rattle.std.proofs.Common.{◌≡◌, ℕ, List, Ok, sym, ◌∙◌, ap, subst}
use Rattle.std.proofs.lemmas.Result.{err_from_is_err_and}
use Rattle.ira_event.specs.Log.{Log, IsLog}
use Rattle.ira_event.specs.Logs.{AreLogs, EachLog, HasNumber, HasVersion, IsFirstOther, wrong_number, wrong_size}
use Rattle.ira_event.specs.Logs.{wrong_place, wrong_version}
use Rattle.ira_event.proofs.Gathering.{answers-fault, answers-no-logs, logs-built, no-fault}
use Rattle.ira_event.proofs.logs.Logs.gather.Goals as goal

pub returns-in_err-size-clause-ok : goal.returns-in_err-size-clause-ok
returns-in_err-size-clause-ok g c = λ gathered.
    let p = err_from_is_err_and c.from_residual.result c.from_residual.ensures.1 in
    let none : (n : ℕ) → ¬ (HasNumber c.args.logs.items n) =
    subst (λ (x : List Log). (n : ℕ) → ¬ (HasNumber x n)) c.deref.ensures.value c.in_err-size.ensures.1 in
    answers-no-logs c.from_residual.result c.args.logs.items p.0 p.1 (wrong_number none (p.2 ∙ c.in_err-size.ensures.0))
    gathered gathered

pub returns-in_err-size-clause-err : goal.returns-in_err-size-clause-err
returns-in_err-size-clause-err g c =
    let p = err_from_is_err_and c.from_residual.result c.from_residual.ensures.1 in
    let none : (n : ℕ) → ¬ (HasNumber c.args.logs.items n) =
    subst (λ (x : List Log). (n : ℕ) → ¬ (HasNumber x n)) c.deref.ensures.value c.in_err-size.ensures.1 in
    answers-fault c.from_residual.result c.args.logs.items p.0 p.1 (wrong_number none (p.2 ∙ c.in_err-size.ensures.0))

pub returns-in_err-check_sizes-clause-ok : goal.returns-in_err-check_sizes-clause-ok
returns-in_err-check_sizes-clause-ok g c = λ gathered.
    let p = err_from_is_err_and c.from_residual-in_err-check_sizes.result c.from_residual-in_err-check_sizes.ensures.1
    in
    let number : HasNumber c.args.logs.items c.in_ok-size.size =
    subst (λ (x : List Log). HasNumber x c.in_ok-size.size) c.deref.ensures.value c.in_ok-size.ensures.1 in
    let found = c.in_err-check_sizes.ensures.err in
    let first : IsFirstOther c.args.logs.items (λ _ log. log.nodes ≡ c.in_ok-size.size) found.0 =
    subst (λ (x : List Log). IsFirstOther x (λ _ log. log.nodes ≡ c.in_ok-size.size) found.0)
    c.deref-2.ensures.value found.2 in
    answers-no-logs c.from_residual-in_err-check_sizes.result c.args.logs.items p.0 p.1
    (wrong_size c.in_ok-size.size found.0 number first (p.2 ∙ found.1)) gathered gathered

pub returns-in_err-check_sizes-clause-err : goal.returns-in_err-check_sizes-clause-err
returns-in_err-check_sizes-clause-err g c =
    let p = err_from_is_err_and c.from_residual-in_err-check_sizes.result c.from_residual-in_err-check_sizes.ensures.1
    in
    let number : HasNumber c.args.logs.items c.in_ok-size.size =
    subst (λ (x : List Log). HasNumber x c.in_ok-size.size) c.deref.ensures.value c.in_ok-size.ensures.1 in
    let found = c.in_err-check_sizes.ensures.err in
    let first : IsFirstOther c.args.logs.items (λ _ log. log.nodes ≡ c.in_ok-size.size) found.0 =
    subst (λ (x : List Log). IsFirstOther x (λ _ log. log.nodes ≡ c.in_ok-size.size) found.0)
    c.deref-2.ensures.value found.2 in
    answers-fault c.from_residual-in_err-check_sizes.result c.args.logs.items p.0 p.1
    (wrong_size c.in_ok-size.size found.0 number first (p.2 ∙ found.1))

pub returns-in_err-check_places-clause-ok : goal.returns-in_err-check_places-clause-ok
returns-in_err-check_places-clause-ok g c = λ gathered.
    let p = err_from_is_err_and c.from_residual-in_err-check_places.result c.from_residual-in_err-check_places.ensures.1
    in
    let number : HasNumber c.args.logs.items c.in_ok-size.size =
    subst (λ (x : List Log). HasNumber x c.in_ok-size.size) c.deref.ensures.value c.in_ok-size.ensures.1 in
    let sizes : EachLog c.args.logs.items (λ _ log. log.nodes ≡ c.in_ok-size.size) =
    subst (λ (x : List Log). EachLog x (λ _ log. log.nodes ≡ c.in_ok-size.size)) c.deref-2.ensures.value
    c.in_ok-check_sizes.ensures.ok in
    let found = c.in_err-check_places.ensures.err in
    let first : IsFirstOther c.args.logs.items (λ i log. log.place ≡ i) found.0 =
    subst (λ (x : List Log). IsFirstOther x (λ i log. log.place ≡ i) found.0) c.deref-3.ensures.value found.2 in
    answers-no-logs c.from_residual-in_err-check_places.result c.args.logs.items p.0 p.1
    (wrong_place c.in_ok-size.size found.0 number sizes first (p.2 ∙ found.1)) gathered gathered

pub returns-in_err-check_places-clause-err : goal.returns-in_err-check_places-clause-err
returns-in_err-check_places-clause-err g c =
    let p = err_from_is_err_and c.from_residual-in_err-check_places.result c.from_residual-in_err-check_places.ensures.1
    in
    let number : HasNumber c.args.logs.items c.in_ok-size.size =
    subst (λ (x : List Log). HasNumber x c.in_ok-size.size) c.deref.ensures.value c.in_ok-size.ensures.1 in
    let sizes : EachLog c.args.logs.items (λ _ log. log.nodes ≡ c.in_ok-size.size) =
    subst (λ (x : List Log). EachLog x (λ _ log. log.nodes ≡ c.in_ok-size.size)) c.deref-2.ensures.value
    c.in_ok-check_sizes.ensures.ok in
    let found = c.in_err-check_places.ensures.err in
    let first : IsFirstOther c.args.logs.items (λ i log. log.place ≡ i) found.0 =
    subst (λ (x : List Log). IsFirstOther x (λ i log. log.place ≡ i) found.0) c.deref-3.ensures.value found.2 in
    answers-fault c.from_residual-in_err-check_places.result c.args.logs.items p.0 p.1
    (wrong_place c.in_ok-size.size found.0 number sizes first (p.2 ∙ found.1))

pub returns-in_err-check_versions-clause-ok : goal.returns-in_err-check_versions-clause-ok
returns-in_err-check_versions-clause-ok g c = λ gathered.
    let p = err_from_is_err_and c.from_residual-in_err-check_versions.result
    c.from_residual-in_err-check_versions.ensures.1 in
    let number : HasNumber c.args.logs.items c.in_ok-size.size =
    subst (λ (x : List Log). HasNumber x c.in_ok-size.size) c.deref.ensures.value c.in_ok-size.ensures.1 in
    let sizes : EachLog c.args.logs.items (λ _ log. log.nodes ≡ c.in_ok-size.size) =
    subst (λ (x : List Log). EachLog x (λ _ log. log.nodes ≡ c.in_ok-size.size)) c.deref-2.ensures.value
    c.in_ok-check_sizes.ensures.ok in
    let places : EachLog c.args.logs.items (λ i log. log.place ≡ i) =
    subst (λ (x : List Log). EachLog x (λ i log. log.place ≡ i)) c.deref-3.ensures.value
    c.in_ok-check_places.ensures.ok in
    let found = c.in_err-check_versions.ensures.err in
    let one : HasVersion c.args.logs.items found.0 =
    subst (λ (x : List Log). HasVersion x found.0) c.deref-4.ensures.value found.3 in
    let first : IsFirstOther c.args.logs.items (λ _ log. log.version ≡ found.0) found.1 =
    subst (λ (x : List Log). IsFirstOther x (λ _ log. log.version ≡ found.0) found.1) c.deref-4.ensures.value
    found.4 in
    answers-no-logs c.from_residual-in_err-check_versions.result c.args.logs.items p.0 p.1
    (wrong_version c.in_ok-size.size found.0 found.1 number sizes places one first (p.2 ∙ found.2)) gathered
    gathered

pub returns-in_err-check_versions-clause-err : goal.returns-in_err-check_versions-clause-err
returns-in_err-check_versions-clause-err g c =
    let p = err_from_is_err_and c.from_residual-in_err-check_versions.result
    c.from_residual-in_err-check_versions.ensures.1 in
    let number : HasNumber c.args.logs.items c.in_ok-size.size =
    subst (λ (x : List Log). HasNumber x c.in_ok-size.size) c.deref.ensures.value c.in_ok-size.ensures.1 in
    let sizes : EachLog c.args.logs.items (λ _ log. log.nodes ≡ c.in_ok-size.size) =
    subst (λ (x : List Log). EachLog x (λ _ log. log.nodes ≡ c.in_ok-size.size)) c.deref-2.ensures.value
    c.in_ok-check_sizes.ensures.ok in
    let places : EachLog c.args.logs.items (λ i log. log.place ≡ i) =
    subst (λ (x : List Log). EachLog x (λ i log. log.place ≡ i)) c.deref-3.ensures.value
    c.in_ok-check_places.ensures.ok in
    let found = c.in_err-check_versions.ensures.err in
    let one : HasVersion c.args.logs.items found.0 =
    subst (λ (x : List Log). HasVersion x found.0) c.deref-4.ensures.value found.3 in
    let first : IsFirstOther c.args.logs.items (λ _ log. log.version ≡ found.0) found.1 =
    subst (λ (x : List Log). IsFirstOther x (λ _ log. log.version ≡ found.0) found.1) c.deref-4.ensures.value
    found.4 in
    answers-fault c.from_residual-in_err-check_versions.result c.args.logs.items p.0 p.1
    (wrong_version c.in_ok-size.size found.0 found.1 number sizes places one first (p.2 ∙ found.2))

pub invariant_of-result : goal.invariant_of-result
invariant_of-result g c =
    let number : HasNumber c.args.logs.items c.in_ok-size.size =
    subst (λ (x : List Log). HasNumber x c.in_ok-size.size) c.deref.ensures.value c.in_ok-size.ensures.1 in
    let sizes : EachLog c.args.logs.items (λ _ log. log.nodes ≡ c.in_ok-size.size) =
    subst (λ (x : List Log). EachLog x (λ _ log. log.nodes ≡ c.in_ok-size.size)) c.deref-2.ensures.value
    c.in_ok-check_sizes.ensures.ok in
    let places : EachLog c.args.logs.items (λ i log. log.place ≡ i) =
    subst (λ (x : List Log). EachLog x (λ i log. log.place ≡ i)) c.deref-3.ensures.value
    c.in_ok-check_places.ensures.ok in
    let valid : EachLog c.args.logs.items (λ _ log. IsLog log) =
    subst (λ (x : List Log). EachLog x (λ _ log. IsLog log)) c.deref-3.ensures.value
    c.in_ok-check_places.ensures.valid in
    let found = c.in_ok-check_versions.ensures.ok in
    let versions : EachLog c.args.logs.items (λ _ log. log.version ≡ found.0) =
    subst (λ (x : List Log). EachLog x (λ _ log. log.version ≡ found.0)) c.deref-4.ensures.value found.2 in (
      sym number.number,
      logs-built c.args.logs.items c.in_ok-size.size found.0 c.in_ok-size.ensures.0 number sizes
          places valid versions,
    )

pub returns-clause-ok : goal.returns-clause-ok
returns-clause-ok g c = λ gathered.
    let logs : AreLogs c.args.logs.items = (invariant_of-result g c).1 in (
      λ e. let same : c.args.logs.items ≡ gathered = cc in
          (sym same, subst (λ (x : List Log). AreLogs x) same logs),
      λ h. ap Ok (sym h.0),
    )

pub returns-clause-err : goal.returns-clause-err
returns-clause-err g c = λ f. (λ e. absurd cc, λ h. absurd (no-fault c.args.logs.items f (invariant_of-result g c).1 h))
