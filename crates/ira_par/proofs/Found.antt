-- What batches of sections say of all of them.
use Rattle.std.proofs.Common.{◌≡◌, ℕ, ◌+◌, ◌-◌, ◌<◌, ◌≤◌, inl, inr, List, [], ◌∷◌, ◌++◌, Some, Option, None, length}
use Rattle.std.proofs.Common.{slice_get, sym, ap, ◌∙◌, subst, arith}
use Rattle.std.proofs.lemmas.Bool.{cases_lt}
use Rattle.std.proofs.lemmas.Option.{same_Some, slice_get_cases, slice_get_within}
use Rattle.ira_order.proofs.Pushed.{found_in_push}
use Rattle.ira_event.specs.Log.{Log}
use Rattle.ira_pred.specs.Case.{Conjunct}
use Rattle.ira_cert_text.specs.Certificate.{Section}
use Rattle.ira_cert.specs.declared.section_fault.SectionFault.{SectionFault}
use Rattle.ira_cert.specs.declared.verdict.Verdict.TheVariants.{Yes, No}
use Rattle.ira_cert.specs.SoundSection.{IsSoundSection}
use Rattle.ira_par.specs.Task.{Task, IsTaskOf, AreTasksOf, IsVerdictOf, AreYes, IsFoundIn}
use Rattle.ira_par.specs.declared.unsound_section.UnsoundSection.{UnsoundSection}
use Rattle.ira_par.specs.Sections.{AreSoundBefore, IsFirstUnsoundSection}

-- the only task of a batch
pub only_task : (tasks : List Task) (task other : Task) (k : ℕ) → tasks ≡ [] ++ task ∷ []
    → slice_get tasks k ≡ Some other → task ≡ other
only_task tasks task other k is at =
    elim (found_in_push [] task k other (ap (λ (ts : List Task). slice_get ts k) (sym is) ∙ at)) [
      | inl none ↦ absurd cc
      | inr last ↦ last.1
    ]

pub first_task : (tasks : List Task) (task : Task) → tasks ≡ [] ++ task ∷ [] → slice_get tasks 0 ≡ Some task
first_task tasks task is = ap (λ (ts : List Task). slice_get ts 0) is

-- what is found of a batch of one section
module _ (logs : List Log) (tasks : List Task) (task : Task) (is : tasks ≡ [] ++ task
    ∷ []) (found : Option UnsoundSection) (h : IsFoundIn logs tasks found) where
  pub one_yes : found ≡ None → IsVerdictOf logs task Yes
  one_yes e =
      let all : AreYes logs (length tasks) tasks = subst (λ (f : Option UnsoundSection). IsFoundIn logs tasks f) e h in
      let at = first_task tasks task is in
      all 0 task (slice_get_within tasks 0 task at) at

  pub one_no : (unsound : UnsoundSection) → found ≡ Some unsound → IsVerdictOf logs task (No unsound.fault)
  one_no unsound e =
      let no : IsFoundIn logs tasks (Some unsound) =
      subst (λ (f : Option UnsoundSection). IsFoundIn logs tasks f) e h in
      subst (λ (t : Task). IsVerdictOf logs t (No unsound.fault))
      (sym (only_task tasks task no.1.0 unsound.section is no.1.1)) no.1.2

module _ (logs : List Log) (cases : List (List Conjunct)) (sections : List Section) where
  -- one more is sound
  pub sound_more : (n : ℕ) (case : List Conjunct) (section : Section) → slice_get cases n ≡ Some case
      → slice_get sections n ≡ Some section → AreSoundBefore n logs cases sections → IsSoundSection logs case section
      → AreSoundBefore (n + 1) logs cases sections
  sound_more n case section case_at section_at before sound k other there l at there_at = elim (cases_lt k n) [
    | inl below ↦ before k other there below at there_at
    | inr top ↦
        let same : n ≡ k = omega (arith, top, l) in
        let case_is : case ≡ other = same_Some case other (sym case_at ∙ ap (λ (j : ℕ). slice_get cases j) same ∙ at) in
        let section_is : section ≡ there =
        same_Some section there (sym section_at ∙ ap (λ (j : ℕ). slice_get sections j) same ∙ there_at) in
        subst (λ (s : Section). IsSoundSection logs other s) section_is
        (subst (λ (c : List Conjunct). IsSoundSection logs c section) case_is sound)
  ]

  -- the first sections of a batch are sound
  pub batch_sound : (first n : ℕ) (tasks : List Task) → n ≤ length tasks → AreTasksOf logs cases sections first tasks
      → ((j : ℕ) (task : Task) → j < n → slice_get tasks j ≡ Some task → IsVerdictOf logs task Yes)
      → AreSoundBefore first logs cases sections → AreSoundBefore (first + n) logs cases sections
  batch_sound first n tasks within are sound before k case section l at there = elim (cases_lt k first) [
    | inl below ↦ before k case section below at there
    | inr past ↦
        let number : k - first < n = omega (arith, past, l) in
        elim (slice_get_cases tasks (k - first)).1 [
          | inl h ↦
              let is = are (k - first) h.0 h.2 in
              let same : first + (k - first) ≡ k = omega (arith, past) in
              let case_is : is.case ≡ case =
              same_Some is.case case (sym is.case_at ∙ ap (λ (j : ℕ). slice_get cases j) same ∙ at) in
              let section_is : h.0.section ≡ section =
              same_Some h.0.section section (sym is.section_at ∙ ap (λ (j : ℕ). slice_get sections j) same
              ∙ there) in
              subst (λ (s : Section). IsSoundSection logs case s) section_is
              (subst (λ (c : List Conjunct). IsSoundSection logs c h.0.section) case_is
              (sound (k - first) h.0 number h.2 is.case is.different is.tables))
          | inr h ↦ absurd (omega (arith, h.0, number, within))
        ]
  ]

  -- the first of a batch that isn't sound
  pub first_of_all : (first j : ℕ) (fault : SectionFault) (tasks : List Task) (task : Task)
      → slice_get tasks j ≡ Some task → AreTasksOf logs cases sections first tasks → IsVerdictOf logs task (No fault)
      → AreSoundBefore (first + j) logs cases sections → IsFirstUnsoundSection logs cases sections (first + j) fault
  first_of_all first j fault tasks task at are verdict before =
      let is = are j task at in
      record {
        before = before;
        case = is.case;
        case_at = is.case_at;
        section = task.section;
        section_at = is.section_at;
        is_fault = verdict is.case is.different is.tables;
      }

  -- a batch with the next section
  pub tasks_more : (first : ℕ) (tasks more : List Task) (task : Task) → more ≡ tasks ++ task ∷ []
      → AreTasksOf logs cases sections first tasks → IsTaskOf logs cases sections (first + length tasks) task
      → AreTasksOf logs cases sections first more
  tasks_more first tasks more task pushed are is k other at =
      elim (found_in_push tasks task k other (ap (λ (ts : List Task). slice_get ts k) (sym pushed) ∙ at)) [
        | inl there ↦ are k other there
        | inr last ↦ subst (λ (t : Task). IsTaskOf logs cases sections (first + k) t) last.1
            (subst (λ (j : ℕ). IsTaskOf logs cases sections (first + j) task) last.0 is)
      ]
