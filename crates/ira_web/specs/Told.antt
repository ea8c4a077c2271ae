-- What is told of what comes of a request.
use Rattle.std.specs.Prelude.{◌≡◌, ◌⊎◌, ◌<◌, ℕ, List, [], ◌++◌, ◌∷◌, length, map, take}
use Rattle.std.specs.List.{AllZip, flat_map}
use Rattle.ira_commands.specs.Output.{IsPrinted}
use Rattle.ira_commands.specs.Reply.{Reply, fault_text, file_texts}
use Rattle.ira_view.specs.declared.status.Status.{Status}
use Rattle.ira_web.specs.declared.told.Told.{Told}

-- the parts of a reply: what is printed on standard output, what on standard error, and each file that is made
abbrev pub AreParts : Reply → List (List ℕ) → Type 0
AreParts reply parts = (out : List ℕ) × IsPrinted reply.out out
    × (parts ≡ out ∷ fault_text reply.fault ∷ file_texts reply.files)

-- a status, and the parts of each reply
pub record ToldReplies : Type 0 where
  pub status : Status
  pub parts : List (List (List ℕ))

-- those of replies; the status is that of the first
abbrev pub TellsReplies : List Reply → ToldReplies → Type 0
TellsReplies [] told = ⊥
TellsReplies (first ∷ more) told = (told.status ≡ first.status) × AllZip AreParts (first ∷ more) told.parts

-- a list begins with these
abbrev pub Begins : {X : Type 0} → List X → List X → Type 0
Begins front all = take (length front) all ≡ front

-- the parts of all replies, one after another
abbrev pub told_bytes : List (List (List ℕ)) → List ℕ
told_bytes replies = flat_map (λ parts. flat_map (λ part. part) parts) replies

-- how many parts each reply has, and how many bytes each of them is
abbrev pub told_sizes : List (List (List ℕ)) → List ℕ
told_sizes replies = flat_map (λ parts. length parts ∷ map length parts) replies

-- bytes begin with the parts, and lengths with their sizes
abbrev pub IsTold : List (List (List ℕ)) → List ℕ → List ℕ → Type 0
IsTold replies bytes lengths = Begins (told_bytes replies) bytes × Begins (told_sizes replies) lengths

-- there are fewer bytes than the parts have, or too few lengths for their sizes
abbrev pub HasNoRoom : List (List (List ℕ)) → List ℕ → List ℕ → Type 0
HasNoRoom replies bytes lengths =
    (length bytes < length (told_bytes replies)) ⊎ (length lengths < length (told_sizes replies))

-- ---- Helpers, no definitions.

-- a value of the program holds these parts
abbrev pub Holds : {A : Type 0} → List (List (List ℕ)) → Told A → Type 0
Holds replies told = (told.text.bytes ≡ told_bytes replies) × (told.sizes.items ≡ told_sizes replies)

-- these parts were added, without their number
abbrev pub Adds : {A : Type 0} → List (List ℕ) → Told A → Told A → Type 0
Adds parts old new = (new.text.bytes ≡ old.text.bytes ++ flat_map (λ part. part) parts)
    × (new.sizes.items ≡ old.sizes.items ++ map length parts)

-- their number was added, and then these
abbrev pub AddsReply : {A : Type 0} → List (List ℕ) → Told A → Told A → Type 0
AddsReply parts old new = (new.text.bytes ≡ old.text.bytes ++ flat_map (λ part. part) parts)
    × (new.sizes.items ≡ old.sizes.items ++ length parts ∷ map length parts)
