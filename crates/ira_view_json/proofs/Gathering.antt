-- Lines that are put together before they are written.
use Rattle.std.proofs.Common.{◌≡◌, ◌∙◌, ℕ, List, [], ◌∷◌, ◌++◌, Result, Ok, Err, ap, append-nil, append_assoc, refl, subst, sym}
use Rattle.std.specs.Prelude.{OnOk}
use Rattle.json.specs.Json.{Json}
use Rattle.ira_event.specs.Sink.{SinkState, Takes}
use Rattle.ira_event.proofs.Writing.{Appends-nothing, Takes-append}
use Rattle.ira_view_page.specs.declared.show_fault.ShowFault.{ShowFault}
use Rattle.ira_view_json.specs.Line.{Gathers, IsLineOf, TookLines, WroteLines}
use Rattle.ira_view_json.proofs.LineTexts.{lines_append, no_lines, one_line}

nothing_taken : (s : SinkState) → Takes [] s s
nothing_taken s = record { took = Appends-nothing s.taken; same = refl }

pub none_gathered : (block : List ℕ) (s : SinkState) → Gathers [] block block s s
none_gathered block s = record {
  text = [];
  lines = no_lines;
  written = [];
  took = nothing_taken s;
  parts = sym (append-nil block);
}

-- a line was put to the others
pub one_gathered : (value : Json) (block line : List ℕ) (s : SinkState) → IsLineOf value line
    → Gathers (value ∷ []) block (block ++ line) s s
one_gathered value block line s is = record {
  text = line;
  lines = one_line value line is;
  written = [];
  took = nothing_taken s;
  parts = refl;
}

-- a line was put to the others, and then all were written
pub one_written : {T : Type 0} (r : Result T ShowFault) (value : Json) (block line all new : List ℕ) (s t : SinkState)
    → IsLineOf value line → all ≡ block ++ line → OnOk r ((new ≡ []) × Takes all s t)
    → OnOk r (Gathers (value ∷ []) block new s t)
one_written (Ok v) value block line all new s t is same wrote = record {
  text = line;
  lines = one_line value line is;
  written = all;
  took = wrote.1;
  parts = ap (λ w. all ++ w) wrote.0 ∙ append-nil all ∙ same;
}
one_written (Err f) value block line all new s t is same wrote = tt

-- more of them
pub gathered_more : {xs ys : List Json} {a b c : List ℕ} {s t u : SinkState} → Gathers xs a b s t → Gathers ys b c t u
    → Gathers (xs ++ ys) a c s u
gathered_more {xs} {ys} {a} {b} {c} {s} {t} {u} p q = record {
  text = p.text ++ q.text;
  lines = lines_append xs ys p.text q.text p.lines q.lines;
  written = p.written ++ q.written;
  took = Takes-append s t u p.written q.written p.took q.took;
  parts = append_assoc p.written q.written c ∙ ap (λ w. p.written ++ w) q.parts
      ∙ sym (append_assoc p.written b q.text) ∙ ap (λ w. w ++ q.text) p.parts ∙ append_assoc a p.text q.text;
}

-- and then all were written
pub all_gathered : {T : Type 0} (Are : List Json → Type 0) (r : Result T ShowFault) (values : List Json)
    (block new : List ℕ) (s t u : SinkState) → Are values → Gathers values [] block s t
    → OnOk r ((new ≡ []) × Takes block t u) → OnOk r (TookLines Are s u)
all_gathered Are (Ok v) values block new s t u are p wrote = record {
  values = values;
  are = are;
  text = p.text;
  lines = p.lines;
  took = subst (λ w. Takes w s u) p.parts (Takes-append s t u p.written block p.took wrote.1);
}
all_gathered Are (Err f) values block new s t u are p wrote = tt

-- lines that were taken are some
pub any_took : {T : Type 0} (Are : List Json → Type 0) (r : Result T ShowFault) (s t : SinkState)
    → ((values : List Json) → Are values) → WroteLines r s t → OnOk r (TookLines Are s t)
any_took Are (Ok v) s t any wrote = record {
  values = wrote.1.0;
  are = any wrote.1.0;
  text = wrote.0;
  lines = wrote.1.1;
  took = wrote.2;
}
any_took Are (Err f) s t any wrote = tt
