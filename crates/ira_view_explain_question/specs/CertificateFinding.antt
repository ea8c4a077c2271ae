-- What a text shows that is no certificate's.
use Rattle.std.specs.Prelude.{◌≡◌, ℕ, List, codes}
use Rattle.ira_cert_text.specs.declared.cert_fault.CertFault.{CertFault}
use Rattle.ira_cert_text.specs.declared.cert_fault.CertFault.TheVariants as fault
use Rattle.ira_view_page.specs.Beside.{due, note}
use Rattle.ira_view_page.specs.TextStop.{IsCutStop, IsWholeLine}
use Rattle.ira_view_page.specs.declared.text_stop.TextStop.{TextStop}
use Rattle.ira_view_page.specs.declared.text_stop.TextStop.TheVariants.{TooLong}
use Rattle.ira_view_explain_question.specs.AskedFinding.{IsHeadStop, IsTrailingStop, last_line}

-- where a text with this fault shows it
abbrev pub IsCertificateStop : List ℕ → CertFault → TextStop → Type 0
IsCertificateStop text fault.TooLong stop = stop ≡ TooLong
IsCertificateStop text fault.Head stop = IsHeadStop text (codes "ircert 1") (due (codes "`ircert 1`")) stop
IsCertificateStop text (fault.Line number) stop =
    IsWholeLine text number (note (codes "outside a section `section` or `end` is due, inside one")) stop
IsCertificateStop text (fault.Range number) stop =
    IsWholeLine text number (note (codes "NODE and OTHER are below N, POS and OTHERPOS at most 100,000")) stop
IsCertificateStop text fault.TooMany stop =
    IsWholeLine text 1 (note (codes "a certificate has at most 32,385 sections, of 1,000,000 steps each")) stop
IsCertificateStop text fault.Cut stop = IsCutStop text last_line stop
IsCertificateStop text fault.Trailing stop = IsTrailingStop text stop
IsCertificateStop text fault.OutOfMemory stop = ⊥
