-- What is written of replies.
use Rattle.std.proofs.Common.{◌≡◌, ◌∙◌, ◌-◌, ℕ, List, [], ◌++◌, ◌∷◌, Some, ap, append_assoc, arith, length, map, rules, sym}
use Rattle.std.proofs.lemmas.Grind.{flat_map-append}
use Rattle.std.proofs.lemmas.List.{append-nil, flat_map_more, length-append, map-append}
use Rattle.std.specs.List.{AllZip, flat_map, slice_get}
use Rattle.ira_commands.specs.Reply.{Reply}
use Rattle.ira_view.specs.declared.status.Status.{Status}
use Rattle.ira_web.specs.Told.{Adds, AddsReply, AreParts, Holds, TellsReplies}
use Rattle.ira_web.specs.declared.told.Told.{Told}

-- the length of what was written behind a text
pub grown : (before after old all more : List ℕ) → before ≡ old → after ≡ all → all ≡ old ++ more
    → length after - length before ≡ length more
grown before after old all more p q r = omega (arith, ap length p, ap length q, ap length r, length-append old more)

-- nothing was added
pub adds_none : {A : Type 0} (told : Told A) → Adds [] told told
adds_none told = (sym (append-nil told.text.bytes), sym (append-nil told.sizes.items))

-- a part was
pub adds_part : {A : Type 0} (part : List ℕ) (old new : Told A) → new.text.bytes ≡ old.text.bytes ++ part
    → new.sizes.items ≡ old.sizes.items ++ length part ∷ [] → Adds (part ∷ []) old new
adds_part part old new text sizes = (text ∙ ap (λ (t : List ℕ). old.text.bytes ++ t) (sym (append-nil part)), sizes)

-- and then others
pub adds_both : {A : Type 0} (ps qs : List (List ℕ)) (a b c : Told A) → Adds ps a b → Adds qs b c → Adds (ps ++ qs) a c
adds_both ps qs a b c p q = (
  q.0 ∙ ap (λ (t : List ℕ). t ++ flat_map (λ part. part) qs) p.0
      ∙ append_assoc a.text.bytes (flat_map (λ part. part) ps) (flat_map (λ part. part) qs)
      ∙ ap (λ (t : List ℕ). a.text.bytes ++ t) (sym (flat_map-append (λ (part : List ℕ). part) ps qs)),
  q.1 ∙ ap (λ (t : List ℕ). t ++ map length qs) p.1 ∙ append_assoc a.sizes.items (map length ps) (map length qs)
      ∙ ap (λ (t : List ℕ). a.sizes.items ++ t) (sym (map-append length ps qs)),
)

-- their number was, and then they
pub adds_reply : {A : Type 0} (n : ℕ) (parts : List (List ℕ)) (old begun new : Told A) → n ≡ length parts
    → begun.text.bytes ≡ old.text.bytes → begun.sizes.items ≡ old.sizes.items ++ n ∷ [] → Adds parts begun new
    → AddsReply parts old new
adds_reply n parts old begun new is text sizes adds = (
  adds.0 ∙ ap (λ (t : List ℕ). t ++ flat_map (λ part. part) parts) text,
  adds.1 ∙ ap (λ (t : List ℕ). t ++ map length parts) sizes
      ∙ append_assoc old.sizes.items (n ∷ []) (map length parts)
      ∙ ap (λ (m : ℕ). old.sizes.items ++ m ∷ map length parts) is,
)

-- a reply was added to what is told
pub holds_more : {A : Type 0} (replies : List (List (List ℕ))) (parts : List (List ℕ)) (old new : Told A)
    → Holds replies old → AddsReply parts old new → Holds (replies ++ parts ∷ []) new
holds_more replies parts old new holds adds = (
  adds.0 ∙ ap (λ (t : List ℕ). t ++ flat_map (λ part. part) parts) holds.0
      ∙ flat_map_more (λ (ps : List (List ℕ)). flat_map (λ part. part) ps) [] replies parts,
  adds.1 ∙ ap (λ (t : List ℕ). t ++ length parts ∷ map length parts) holds.1
      ∙ flat_map_more (λ (ps : List (List ℕ)). length ps ∷ map length ps) [] replies parts,
)

-- the parts of replies, with the status of the first, are told of them
pub tells : (replies : List Reply) (first : Reply) (status : Status) (parts : List (List (List ℕ)))
    → slice_get replies 0 ≡ Some first → status ≡ first.status → AllZip AreParts replies parts
    → TellsReplies replies (record { status = status; parts = parts })
tells [] first status parts at is are = absurd (search rules)
tells (reply ∷ more) first status parts at is are = (search rules, are)
