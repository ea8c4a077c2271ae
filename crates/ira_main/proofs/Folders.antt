-- What comes of some folders, one after another.
use Rattle.std.proofs.Common.{◌≡◌, ◌∙◌, ◌⊎◌, ◌<◌, ◌+◌, ℕ, Bool, false, true, zero, suc, Some, List, [], ◌∷◌, ◌++◌, ap}
use Rattle.std.proofs.Common.{◌≤◌, Err, Ok, Result, append-nil, append_assoc, arith, drop, inl, inr, length, min, refl, subst, sym, take}
use Rattle.std.proofs.Math.Seq.{take-add}
use Rattle.std.proofs.lemmas.List.{length-take, take_all, take_more}
use Rattle.std.specs.Borrow.{Bor}
use Rattle.std.specs.List.{AllZip, filter_map}
use Rattle.std.specs.Prelude.{⊤, IfOk, slice_get, slice_index_or}
use Rattle.ira_event.proofs.Writing.{Appends-nothing, Takes-StopsIn}
use Rattle.ira_event.specs.Sink.{SinkState, Takes}
use Rattle.ira_audit.specs.Report.{IsReportable}
use Rattle.ira_commands.specs.declared.expected.Expected.{Expected}
use Rattle.ira_main.specs.Each.{AreTold, FolderTelling, IsBelow, IsExplained, IsUntold, Summing, TellsEach}
use Rattle.ira_main.specs.Each.TellsEach.{no_memory, stopped, stopped_summing}
use Rattle.ira_main.specs.Judge.{asked_of, has_reasons}
use Rattle.ira_main_cli.specs.declared.folder_detail.FolderDetail.{FolderDetail}
use Rattle.ira_main_cli.specs.declared.folder_detail.FolderDetail.TheVariants.{Line, Reasons}
use Rattle.ira_main.specs.JudgedFolder.{IsJudgedOf}
use Rattle.ira_main.specs.JudgedFolder.IsJudgedOf.{good, no}
use Rattle.ira_main.specs.Outcome.{Outcome}
use Rattle.ira_main.specs.ProgramFault.{show_fault}
use Rattle.ira_view.specs.ViewText.{WroteText}
use Rattle.ira_view_json.specs.declared.run_features.RunFeatures.{RunFeatures}
use Rattle.ira_view.specs.declared.form.Form.{Form}
use Rattle.ira_view_page.specs.declared.show_fault.ShowFault.{ShowFault}
use Rattle.ira_view_page.specs.declared.show_fault.ShowFault.TheVariants.{OutOfMemory, WrongColumns, Write}
use Rattle.ira_main.specs.FolderText.{FolderAnswer, features_of}
use Rattle.ira_main.specs.declared.judged_folder.JudgedFolder.{JudgedFolder}

-- what came of the first
at_first : {X T E : Type 0} (R : X → T → Type 0) (x : X) (y : Result T E)
    → IfOk y (λ t. (x' : X) → Some x ≡ Some x' → R x' t) → IfOk y (R x)
at_first R x (Ok t) came = came x refl
at_first R x (Err e) came = tt

-- what came of each, by its number
pub zipped_each : {X T E : Type 0} (R : X → T → Type 0) (xs : List X) (ys : List (Result T E)) → length ys ≡ length xs
    → ((i : ℕ) (d : Result T E) → i < length xs
    → IfOk (slice_index_or ys i d) (λ t. (x : X) → slice_get xs i ≡ Some x → R x t))
    → AllZip (λ x y. IfOk y (R x)) xs ys
zipped_each R [] [] same each = tt
zipped_each R [] (y ∷ ys) same each = absurd (omega (arith, same))
zipped_each R (x ∷ xs) [] same each = absurd (omega (arith, same))
zipped_each R (x ∷ xs) (y ∷ ys) same each = (
  at_first R x y (each 0 y (omega arith)),
  zipped_each R xs ys (omega (arith, same)) (λ i d lt. each (suc i) d (omega (arith, lt))),
)

-- what came of those left, the first of which comes next
pub zipped_next : {X Y : Type 0} (R : X → Y → Type 0) (xs : List X) (n : ℕ) (y : Y) (ys : List Y)
    → AllZip R (drop n xs) (y ∷ ys)
    → (n < length xs) × ((d : X) → R (slice_index_or xs n d) y) × AllZip R (drop (n + 1) xs) ys
zipped_next R [] zero y ys are = absurd are
zipped_next R [] (suc n) y ys are = absurd are
zipped_next R (x ∷ xs) zero y ys are = (omega arith, λ d. are.0, are.1)
zipped_next R (x ∷ xs) (suc n) y ys are =
    let on = zipped_next R xs n y ys are in
    let more : suc (n + 1) ≡ suc n + 1 = omega arith in
    (omega (arith, on.0), on.1, subst (λ (k : ℕ). AllZip R (drop k (x ∷ xs)) ys) more on.2)

-- what is told of some folders and of more
told_both : (Told : FolderTelling) (folders more : List (Bor (List ℕ))) (answers others : List FolderAnswer)
    (text rest : List ℕ) → AreTold Told folders answers text → AreTold Told more others rest
    → AreTold Told (folders ++ more) (answers ++ others) (text ++ rest)
told_both Told [] more [] others text rest are is = subst (AreTold Told more others) (sym (ap (λ t. t ++ rest) are)) is
told_both Told [] more (a ∷ answers) others text rest are is = absurd are
told_both Told (f ∷ folders) more [] others text rest are is = absurd are
told_both Told (f ∷ folders) more (a ∷ answers) others text rest are is = (
  are.0,
  are.1 ++ rest,
  ap (λ t. t ++ rest) are.2 ∙ append_assoc are.0 are.1 rest,
  are.3,
  told_both Told folders more answers others are.1 rest are.4 is,
)

-- what is told of one folder more, by its number
pub told_more : (Told : FolderTelling) (folders : List (Bor (List ℕ))) (n : ℕ) (d : Bor (List ℕ))
    (answers : List FolderAnswer) (answer : FolderAnswer) (text line : List ℕ) → n < length folders
    → AreTold Told (take n folders) answers text → Told (slice_index_or folders n d) answer line
    → AreTold Told (take (n + 1) folders) (answers ++ answer ∷ []) (text ++ line)
told_more Told folders n d answers answer text line few are is =
    rw (take_more folders n d few) (told_both Told (take n folders) (slice_index_or folders n d ∷ []) answers
    (answer ∷ []) text line are (line, [], sym (append-nil line), is, refl))

-- each folder that is told of has an answer
told_many : (Told : FolderTelling) (folders : List (Bor (List ℕ))) (answers : List FolderAnswer) (text : List ℕ)
    → AreTold Told folders answers text → length answers ≡ length folders
told_many Told [] [] text are = refl
told_many Told [] (a ∷ answers) text are = absurd are
told_many Told (f ∷ folders) [] text are = absurd are
told_many Told (f ∷ folders) (a ∷ answers) text are = ap suc (told_many Told folders answers are.1 are.4)

-- nothing was told yet
pub told_none : (Told : FolderTelling) (folders : List (Bor (List ℕ))) (out : SinkState)
    → (first : ℕ) × (text : List ℕ) × AreTold Told (take first folders) [] text × Takes text out out
told_none Told folders out = (0, [], refl, record { took = Appends-nothing out.taken; same = refl })

module _ (Told : FolderTelling) (folders : List (Bor (List ℕ))) (answers : List FolderAnswer) (text : List ℕ) (first : ℕ)
    (are : AreTold Told (take first folders) answers text) where
  many : length answers ≡ min first (length folders)
  many = told_many Told _ _ _ are ∙ length-take first folders

  -- some more folders after the first ones, of which there are as many as answers
  pub told_next : (size : ℕ) (more : List FolderAnswer) (rest : List ℕ) → length answers < length folders
      → AreTold Told (take size (drop (length answers) folders)) more rest
      → AreTold Told (take (first + size) folders) (answers ++ more) (text ++ rest)
  told_next size more rest few is =
      let here : length answers ≡ first = omega (arith, many, few) in
      let those = subst (λ (n : ℕ). AreTold Told (take size (drop n folders)) more rest) here is in
      let both = told_both Told (take first folders) (take size (drop first folders)) answers more text rest are those in
      subst (λ (fs : List (Bor (List ℕ))). AreTold Told fs (answers ++ more) (text ++ rest))
      (sym (take-add first size folders)) both

  -- there are no more
  pub told_whole : length folders ≤ length answers → AreTold Told folders answers text
  told_whole all =
      let whole : take first folders ≡ folders = take_all first folders (omega (arith, many, all)) in
      subst (λ (fs : List (Bor (List ℕ))). AreTold Told fs answers text) whole are

  -- the output stopped within the next ones, or there was no memory for them
  pub stops_next : {A : Type 0} {Sums : Summing} (size here : ℕ) (some : List (Bor (List ℕ)))
      (out out' out'' : SinkState) (f : ShowFault) (outcome : Outcome A) → here ≡ length answers → length answers < length folders
      → some ≡ take size (drop here folders) → Takes text out out' → IsUntold Told some out' out'' f
      → outcome ≡ Err (show_fault f) → TellsEach Told Sums folders out out'' outcome
  stops_next {Sums = Sums} size here some out out' out'' f outcome same few are_some took stops is =
      stops_by f (subst (λ (fs : List (Bor (List ℕ))). IsUntold Told fs out' out'' f)
      (are_some ∙ ap (λ (n : ℕ). take size (drop n folders)) same) stops) is
    where
      stops_by : (f : ShowFault) → IsUntold Told (take size (drop (length answers) folders)) out' out'' f
          → outcome ≡ Err (show_fault f) → TellsEach Told Sums folders out out'' outcome
      stops_by Write stops is =
          stopped (first + size) (answers ++ stops.0) (text ++ stops.1) (told_next size stops.0 stops.1 few stops.2)
          (Takes-StopsIn _ _ _ _ _ took stops.3) is
      stops_by OutOfMemory same is = no_memory first answers text are (subst (Takes text out) (sym same) took) is
      stops_by WrongColumns stops is = absurd stops

  -- the output stopped within the sum, or there was no memory for it
  pub stops_summing : {A : Type 0} {Sums : Summing} (runs : List RunFeatures) (out out' out'' : SinkState) (f : ShowFault)
      (outcome : Outcome A) → runs ≡ filter_map features_of answers → length folders ≤ length answers → Takes text out out'
      → WroteText {T = ⊤} (Sums runs) (Err f) out' out'' → outcome ≡ Err (show_fault f)
      → TellsEach Told Sums folders out out'' outcome
  stops_summing {Sums = Sums} runs out out' out'' Write outcome are_runs all took stops is =
      stopped_summing answers text stops.0 (told_whole all)
      (subst (λ (those : List RunFeatures). Sums those stops.0) are_runs stops.1) (Takes-StopsIn _ _ _ _ _ took stops.2) is
  stops_summing runs out out' out'' OutOfMemory outcome are_runs all took same is =
      no_memory first answers text are (subst (Takes text out) (sym same) took) is
  stops_summing runs out out' out'' WrongColumns outcome are_runs all took stops is = absurd stops

  -- as many more as there is room for
  pub more_told : (size : ℕ) (more : List FolderAnswer) (rest : List ℕ)
      → AreTold Told (take size (drop (length answers) folders)) more rest
      → length more ≡ min size (length (drop (length answers) folders))
  more_told size more rest is = told_many Told _ _ _ is ∙ length-take size (drop (length answers) folders)

-- an answer that was given can be told
pub judged_tellable : (expected : Expected) (is_summed : Bool) (texts : List (List ℕ)) (judged : JudgedFolder)
    → IsJudgedOf expected is_summed texts judged → IsReportable judged.answer
judged_tellable expected is_summed texts judged (good logs unmet features are runs is had same) =
    subst (λ (j : JudgedFolder). IsReportable j.answer) (sym same) tt
judged_tellable expected is_summed texts judged (no reason is same) =
    subst (λ (j : JudgedFolder). IsReportable j.answer) (sym same) is.1

-- nothing stands below the line of a folder where no reasons are due
pub none_below : (A : Type 0) (form : Form) (asked : Expected) (names texts : List (List ℕ)) (due is_no : Bool)
    → (due ≡ false) ⊎ (is_no ≡ false) → IsBelow A form due is_no asked names texts []
none_below A form asked names texts false is_no why = refl
none_below A form asked names texts true false why = refl
none_below A form asked names texts true true (inl why) = cc
none_below A form asked names texts true true (inr why) = cc

-- but what is explained does, below that of a no where they are
pub some_below : (A : Type 0) (form : Form) (detail : FolderDetail) (asked : Expected) (names texts : List (List ℕ))
    (is_no : Bool) (why : List ℕ) → has_reasons detail ≡ true → is_no ≡ true
    → IsExplained A (asked_of detail form asked.is_over asked.leaders) names texts why
    → IsBelow A form (has_reasons detail) is_no asked names texts why
some_below A form Line asked names texts is_no why due says is = cc
some_below A form Reasons asked names texts true why due says is = is
some_below A form Reasons asked names texts false why due says is = cc
