-- Answers that are found stage by stage: at each stage something stands against the texts, which ends it,
-- or something is found, with which the next stage begins.
use Rattle.std.proofs.Common.{◌≡◌, ◌⊎◌, inl, inr, sym, ap, subst, ◌∙◌}
use Rattle.ira_audit.specs.declared.answer.Answer.{Answer}

-- the answer of a stage: what is said of the bad, or what the rest says after the good
abbrev pub Stage : {X Y : Type 0} → (X → Type 0) → (X → Answer) → (Y → Type 0) → (Y → Answer → Type 0) → Answer → Type 0
Stage {X} {Y} Bad said Good Rest a = ((x : X) × Bad x × (a ≡ said x)) ⊎ ((y : Y) × Good y × Rest y a)

-- a stage has one answer: what is bad is one, what is good is one, and never both
pub one_of_stage : {X Y : Type 0} (Bad : X → Type 0) (said : X → Answer) (Good : Y → Type 0) (Rest : Y → Answer
    → Type 0)
    → ((x z : X) → Bad x → Bad z → x ≡ z) → ((x : X) (y : Y) → Bad x → Good y → ⊥)
    → ((y z : Y) → Good y → Good z → y ≡ z)
    → ((y : Y) (a b : Answer) → Good y → Rest y a → Rest y b → a ≡ b)
    → (a b : Answer) → Stage Bad said Good Rest a → Stage Bad said Good Rest b → a ≡ b
one_of_stage Bad said Good Rest bads both goods rest a b (inl p) (inl q) =
    p.2 ∙ ap said (bads p.0 q.0 p.1 q.1) ∙ sym q.2
one_of_stage Bad said Good Rest bads both goods rest a b (inl p) (inr q) = absurd (both p.0 q.0 p.1 q.1)
one_of_stage Bad said Good Rest bads both goods rest a b (inr p) (inl q) = absurd (both q.0 p.0 q.1 p.1)
one_of_stage Bad said Good Rest bads both goods rest a b (inr p) (inr q) =
    rest p.0 a b p.1 p.2 (subst (λ y. Rest y b) (goods q.0 p.0 q.1 p.1) q.2)
