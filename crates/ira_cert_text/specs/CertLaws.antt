-- What holds of certificates and their texts, whoever reads or writes them.
use Rattle.std.specs.Prelude.{◌≡◌, ◌↔◌, ◌⊎◌, ◌≤◌, ℕ, List, length}
use Rattle.ira_event.specs.Limits.{MAX_TEXT}
use Rattle.ira_cert_text.specs.Certificate.{Certificate, IsCertificate}
use Rattle.ira_cert_text.specs.declared.cert_fault.CertFault.{CertFault}
use Rattle.ira_cert_text.specs.declared.cert_fault.CertFault.TheVariants.{OutOfMemory}
use Rattle.ira_cert_text.specs.CertText.{IsCertText, cert_text}
use Rattle.ira_cert_text.specs.CertTextFault.{CertTextFault}

-- each certificate within the limits has one text, the one written out
abbrev pub EachCertificateHasOneText : Type 0
EachCertificateHasOneText =
    (text : List ℕ) (c : Certificate)
    → IsCertText text c ↔ (IsCertificate c × (length (cert_text c) ≤ MAX_TEXT) × (text ≡ cert_text c))

-- no text belongs to two certificates
abbrev pub NoTextIsTwoCertificates : Type 0
NoTextIsTwoCertificates = (text : List ℕ) (a b : Certificate) → IsCertText text a → IsCertText text b → a ≡ b

-- the text of a certificate has no fault
abbrev pub NoCertTextHasFaults : Type 0
NoCertTextHasFaults = (text : List ℕ) (c : Certificate) (f : CertFault) → IsCertText text c → ¬ (CertTextFault text f)

-- no text has two faults
abbrev pub NoTextHasTwoFaults : Type 0
NoTextHasTwoFaults = (text : List ℕ) (f g : CertFault) → CertTextFault text f → CertTextFault text g → f ≡ g

-- each text is a certificate's or has a fault
abbrev pub EachTextHasAnAnswer : Type 0
EachTextHasAnAnswer =
    (text : List ℕ) → ((c : Certificate) × IsCertText text c) ⊎ ((f : CertFault) × CertTextFault text f)

-- to be out of memory is no fault of a text
abbrev pub NoTextIsOutOfMemory : Type 0
NoTextIsOutOfMemory = (text : List ℕ) → ¬ (CertTextFault text OutOfMemory)
