-- How replies reach the output and the shelf.
use Rattle.std.proofs.Common.{◌≡◌, ℕ, List, Option, None, Some, Ok, Err, inl, inr, refl, subst}
use Rattle.std.specs.Borrow.{Bor}
use Rattle.std.specs.Prelude.{◌≢◌, codes}
use Rattle.ira_event.specs.Sink.{SinkState}
use Rattle.ira_commands.specs.Reply.{MadeFiles, Reply}
use Rattle.ira_commands.specs.Reply.MadeFiles.{logs_of, no_files, one_text}
use Rattle.ira_commands.specs.declared.command_fault.CommandFault.{CommandFault}
use Rattle.ira_main_files.specs.Shelf.{Writing}
use Rattle.ira_main.specs.Delivery.{Answered, KeepsReply, KeepsResult, KeepsText, PrintsFile, PrintsReply, PrintsResult, RecordsResult}
use Rattle.ira_main.specs.Delivery.{Tells, TellsAndKeeps, TellsAndRecords, outcome_of}
use Rattle.ira_main.specs.Delivery.KeepsReply.{kept, printed, shown, unprinted, unwritten}
use Rattle.ira_main.specs.FilesRead.{Gives}
use Rattle.ira_main.specs.Outcome.{Outcome}
use Rattle.ira_main.specs.declared.file_fault.FileFault.{FileFault}
use Rattle.ira_main.specs.declared.program_fault.ProgramFault.{ProgramFault}
use Rattle.ira_view.specs.declared.status.Status.{Status}

-- a reply that ends with a status isn't refused
ended : {B : Type 0} (status s : Status) (fault : Option CommandFault) → ◌≡◌ {A = Outcome B} (Ok s) (outcome_of status fault)
    → (fault ≡ None) × (s ≡ status)
ended status s None e = (refl, cc)
ended status s (Some f) e = absurd cc

module _ {B S : Type 0} (writes : Writing S) (reply : Reply) (out out' : SinkState) where
  -- a reply that was printed, and is refused, makes no file; nor does one that wasn't printed whole
  pub none_kept : (name : Option (Bor (List ℕ))) (old : S) (f : ProgramFault B) → PrintsReply reply out out' (Err f)
      → KeepsReply writes name reply old old out out' (Err f)
  none_kept name old f (Ok v, took, is) =
      printed (λ file text one.
      let e = subst (λ (fault : Option CommandFault). ◌≡◌ {A = Outcome B} (Err f) (outcome_of reply.status fault)) one.fine is
      in cc) refl (Ok v, took, is)
  none_kept name old f (Err why, took, is) = unprinted why took refl is

  -- where no name is given nothing is made
  pub nothing_kept : (name : Option (Bor (List ℕ))) (old : S) (outcome : Outcome B) → name ≡ None
      → PrintsReply reply out out' outcome → KeepsReply writes name reply old old out out' outcome
  nothing_kept name old outcome none told = printed (λ file text is. let n = is.named in cc) refl told

  -- where the output stands for a name, what is printed
  pub file_shown : (name : Option (Bor (List ℕ))) (file : Bor (List ℕ)) (old : S) (outcome : Outcome B) → name ≡ Some file
      → file.now ≡ codes "-" → PrintsFile reply out out' outcome
      → KeepsReply writes name reply old old out out' outcome
  file_shown name file old outcome named dash (inl (text, fine, made, prints)) =
      shown file text (record { named = named; fine = fine; made = made }) dash refl prints
  file_shown name file old outcome named dash (inr (none, told)) =
      printed (λ f text is. none text is.fine is.made) refl told

  -- with a name, what comes of its text, if there is one
  pub text_kept : (name : Option (Bor (List ℕ))) (file : Bor (List ℕ)) (files : MadeFiles) (old new : S) (status : Status)
      → name ≡ Some file → file.now ≢ codes "-" → reply.files ≡ files → PrintsReply {A = B} reply out out' (Ok status)
      → KeepsText {A = B} writes file files old new (Ok tt) → KeepsReply {A = B} writes name reply old new out out' (Ok status)
  text_kept name file (one_text text) old new status named other is (Ok v, took, end) wrote =
      let ends = ended reply.status status reply.fault end in
      kept file text (record { named = named; fine = ends.0; made = is }) other took wrote (let e = ends.1 in cc)
  text_kept name file no_files old new status named other is told wrote =
      printed (λ f t one. let m = one.made in cc) wrote.0 told
  text_kept name file (logs_of logs) old new status named other is told wrote =
      printed (λ f t one. let m = one.made in cc) wrote.0 told
  text_kept name file (one_text text) old new status named other is (Err why, took, end) wrote = absurd cc

  pub text_unkept : (name : Option (Bor (List ℕ))) (file : Bor (List ℕ)) (files : MadeFiles) (old new : S)
      (status : Status) (f : ProgramFault B) → name ≡ Some file → file.now ≢ codes "-" → reply.files ≡ files
      → PrintsReply {A = B} reply out out' (Ok status) → KeepsText writes file files old new (Err f)
      → KeepsReply writes name reply old new out out' (Err f)
  text_unkept name file (one_text text) old new status f named other is (Ok v, took, end) wrote =
      let ends = ended reply.status status reply.fault end in
      unwritten file text wrote.0 (record { named = named; fine = ends.0; made = is }) other took wrote.1
      (let e = wrote.2 in cc)
  text_unkept name file (one_text text) old new status f named other is (Err why, took, end) wrote = absurd cc
  text_unkept name file no_files old new status f named other is told wrote = absurd (let e = wrote.1 in cc)
  text_unkept name file (logs_of logs) old new status f named other is told wrote = absurd (let e = wrote.1 in cc)

module _ {A : Type 0} (IsReply : Reply → Type 0) (IsFault : FileFault A → Type 0) (out out' : SinkState)
    (outcome : Outcome A) where
  -- such a reply is told, or such a fault
  pub told : (r : Answered A) → Gives r IsReply IsFault → PrintsResult r out out' outcome
      → Tells IsReply IsFault out out' outcome
  told (Ok (Ok reply)) is done = inl (reply, is, done)
  told (Ok (Err fault)) is same = inr (same.0, inl (fault, is, same.1))
  told (Err full) is same = inr (same.0, inr same.1)

  module _ {S : Type 0} (writes : Writing S) (old new : S) where
    pub told_and_kept : (name : Option (Bor (List ℕ))) (r : Answered A) → Gives r IsReply IsFault
        → KeepsResult writes name r old new out out' outcome
        → TellsAndKeeps writes name IsReply IsFault old new out out' outcome
    told_and_kept name (Ok (Ok reply)) is done = inl (reply, is, done)
    told_and_kept name (Ok (Err fault)) is same = inr (same.0, (same.1, inl (fault, is, same.2)))
    told_and_kept name (Err full) is same = inr (same.0, (same.1, inr same.2))

    pub told_and_recorded : (folder : Bor (List ℕ)) (r : Answered A) → Gives r IsReply IsFault
        → RecordsResult writes folder r old new out out' outcome
        → TellsAndRecords writes folder IsReply IsFault old new out out' outcome
    told_and_recorded folder (Ok (Ok reply)) is done = inl (reply, is, done)
    told_and_recorded folder (Ok (Err fault)) is same = inr (same.0, (same.1, inl (fault, is, same.2)))
    told_and_recorded folder (Err full) is same = inr (same.0, (same.1, inr same.2))
