-- The text of a certificate that is made section by section.
use Rattle.std.specs.Prelude.{◌≡◌, ◌<◌, ◌≤◌, ◌⊎◌, ℕ, List, ◌++◌, All, MatchOption, length, codes, decimal}
use Rattle.std.specs.List.{flat_map}
use Rattle.ira_event.specs.Limits.{MAX_TEXT}
use Rattle.ira_event.specs.RingSize.{IsRingSize}
use Rattle.ira_cert_text.specs.Certificate.{Section, IsSection}
use Rattle.ira_cert_text.specs.CertText.{section_text}
use Rattle.ira_cert_text.specs.Limits.{MAX_SECTIONS}
use Rattle.ira_cert_text.specs.declared.cert_draft.CertDraft.{CertDraft}

-- the text of a certificate of these sections, without its last line
abbrev pub text_before_end : ℕ → List Section → List ℕ
text_before_end nodes sections =
    codes "ircert 1\n" ++ codes "nodes " ++ decimal nodes ++ codes "\n" ++ flat_map section_text sections

-- no certificate that begins with these sections keeps the limits
abbrev pub ArePastLimits : ℕ → List Section → Type 0
ArePastLimits nodes sections =
    (MAX_SECTIONS < length sections) ⊎ ¬ (All (IsSection nodes) sections)
    ⊎ (MAX_TEXT < length (text_before_end nodes sections))

-- these many sections keep the limits so far, and this is their text
pub record AreWithinLimits (nodes count : ℕ) (sections : List Section) (text : List ℕ) : Type 0 where
  pub size : IsRingSize nodes
  pub text_is : text ≡ text_before_end nodes sections
  pub count_is : count ≡ length sections
  pub few : count ≤ MAX_SECTIONS
  pub in_range : All (IsSection nodes) sections
  pub short : length text ≤ MAX_TEXT

-- it is the draft of a certificate of a ring of so many nodes, and these are the sections that were added
abbrev pub IsDraft : {A : Type 0} → ℕ → CertDraft A → List Section → Type 0
IsDraft nodes draft sections =
    (draft.nodes ≡ nodes)
    × MatchOption draft.text (ArePastLimits nodes sections) (λ t. AreWithinLimits nodes draft.count sections t.bytes)
