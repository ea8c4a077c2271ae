-- The parts that were read are those of the text.
use Rattle.std.proofs.Common.{◌≡◌, ◌≢◌, ◌≤◌, ◌⊎◌, ℕ, List, [], ◌++◌, length, Option, Some, None, refl, sym, ap, subst}
use Rattle.std.proofs.Common.{◌∙◌, append_assoc, inl, inr}
use Rattle.std.specs.Prelude.{codes}
use Rattle.std.proofs.lemmas.List.{append_cancel_right, append-nil}
use Rattle.ira_pred.specs.Formula.{Formula}
use Rattle.ira_ask.specs.declared.sentence_fault.SentenceFault.{SentenceFault}
use Rattle.ira_ask.specs.declared.sentence_fault.SentenceFault.TheVariants.{NoClause, NoPart, OutOfMemory}
use Rattle.ira_ask.specs.declared.sentence_part.SentencePart.{SentencePart}
use Rattle.ira_ask.specs.declared.sentence_part.SentencePart.TheVariants.{Any, Other, EachOther, All}
use Rattle.ira_ask.specs.Reading.{Comes, HasRead, LacksClause, Spells, TakesPart, fits, left_text}
use Rattle.ira_ask.specs.Sentence.{Parts}
use Rattle.ira_ask.specs.SentenceText.{ArePartsOfSentence, IsTextOfParts, MayBeClause, MayFollow, StopsAt, last_part}
use Rattle.ira_ask.specs.SentenceText.{no_clause, no_part, parts_text, sentence_text, word_of}

-- ---- a part that may be there

record IsTaken (part : SentencePart) (old new clause : Option (List ℕ)) : Type 0 where
  pub formula : Option Formula
  pub spelled : Spells clause formula
  pub text_is : left_text old ≡ parts_text (word_of part) formula ++ left_text new
  pub same : formula ≡ None → new ≡ old
  pub none : formula ≡ None → ¬ (Comes part old)
  pub part_fits : fits clause
  pub left_fits : fits old → fits new

taken : (part : SentencePart) (old new clause : Option (List ℕ)) → TakesPart part old new clause
    → IsTaken part old new clause
taken part old new None h = record {
  formula = None;
  spelled = tt;
  text_is = ap left_text (sym h.0);
  same = λ e. h.0;
  none = λ e. h.1;
  part_fits = tt;
  left_fits = λ k. subst fits (sym h.0) k;
}
taken part old new (Some clause) h = record {
  formula = Some h.0;
  spelled = (h.1, h.2);
  text_is = h.3;
  same = λ e. absurd cc;
  none = λ e. absurd cc;
  part_fits = h.4;
  left_fits = λ k. h.5;
}

pub clause-of : (part : Option (List ℕ)) (f : Option Formula) → Spells part f → MayBeClause f
clause-of None None h = tt
clause-of (Some t) (Some f) h = h.0
clause-of None (Some f) h = absurd h
clause-of (Some t) None h = absurd h

some-of : (t : List ℕ) (f : Option Formula) → Spells (Some t) f → f ≢ None
some-of t None h = absurd h
some-of t (Some f) h = λ e. cc

-- ---- before the last part

text_before : (text rest : List ℕ) (s : Parts) → text ++ codes ", " ≡ sentence_text s ++ (rest ++ codes ", ")
    → text ≡ sentence_text s ++ rest
text_before text rest s e =
    append_cancel_right text (sentence_text s ++ rest) (codes ", ")
    (e ∙ sym (append_assoc (sentence_text s) rest (codes ", ")))

-- the text begins with these parts
record Begins (text : List ℕ) (left : Option (List ℕ)) (s : Parts) : Type 0 where
  pub parts : ArePartsOfSentence s
  pub text_is : text ++ codes ", " ≡ sentence_text s ++ left_text left

-- it goes on as no sentence does, or memory ran out
failed : (text : List ℕ) (left : Option (List ℕ)) (s : Parts) (part : SentencePart) (f : SentenceFault)
    → Begins text left s → MayFollow s part → (f ≡ OutOfMemory) ⊎ ((f ≡ NoClause part) × LacksClause part left)
    → (f ≡ OutOfMemory) ⊎ StopsAt text f
failed text left s part f h may (inl none) = inl none
failed text None s part f h may (inr none) = absurd none.1.0
failed text (Some rest) s part f h may (inr none) = inr (record {
  before = s;
  rest = rest;
  parts = h.parts;
  text_is = text_before text rest s h.text_is;
  stop = no_clause part may none.1.0 none.1.1 none.0;
})

abbrev nothing : Parts
nothing = record { any = None; other = None; each_other = None; all = None }

begins_bare : (text : List ℕ) → Begins text (Some text) nothing
begins_bare text = record {
  parts = record { others = λ e. (refl, refl); any_is = tt; other_is = tt; each_other_is = tt; all_is = tt };
  text_is = refl;
}

pub any_failed : (text : List ℕ) (left : Option (List ℕ)) (f : SentenceFault) → left ≡ Some text
    → (f ≡ OutOfMemory) ⊎ ((f ≡ NoClause Any) × LacksClause Any left) → (f ≡ OutOfMemory) ⊎ StopsAt text f
any_failed text left f is h =
    failed text left nothing Any f (subst (λ l. Begins text l nothing) (sym is) (begins_bare text)) (refl, refl) h

first-due : (left : Option (List ℕ)) (part : SentencePart) → ¬ (Comes Any left) → MayFollow nothing part
    → Comes part left → part ≡ All
first-due left Any none may comes = absurd (none comes)
first-due left Other none may comes = absurd (may.1 refl)
first-due left EachOther none may comes = absurd (may.1 refl)
first-due left All none may comes = refl

pub none_read : (text : List ℕ) (left : Option (List ℕ)) → length text ≤ 65536
    → TakesPart Any (Some text) left None → HasRead text left None None None
none_read text left short h = record {
  sentence = nothing;
  any_is = tt;
  other_is = tt;
  each_other_is = tt;
  all_is = refl;
  parts = (begins_bare text).parts;
  text_is = ap left_text (sym h.0);
  short = subst fits (sym h.0) short;
  any_fits = tt;
  other_fits = tt;
  each_other_fits = tt;
  last = λ part. first-due left part (subst (λ l. ¬ (Comes Any l)) (sym h.0) h.1);
}

joined : (a o e l : List ℕ) (x y z t : List ℕ) → t ≡ a ++ x → x ≡ o ++ y → y ≡ e ++ z → t ≡ (a ++ o ++ e ++ []) ++ z
joined a o e l x y z t p q r =
    p ∙ ap (λ w. a ++ w) (q ∙ ap (λ w. o ++ w) r) ∙ simp (append_assoc, append-nil)

-- the parts that pick nodes
abbrev picking : Option Formula → Option Formula → Option Formula → Parts
picking any other each = record { any = any; other = other; each_other = each; all = None }

begins_picking : (text clause : List ℕ) (any other each : Option Formula) (v1 v2 v3 : Option (List ℕ))
    → Spells (Some clause) any → MayBeClause other → MayBeClause each
    → text ++ codes ", " ≡ parts_text (codes "any ") any ++ left_text v1
    → left_text v1 ≡ parts_text (codes "other ") other ++ left_text v2
    → left_text v2 ≡ parts_text (codes "each other ") each ++ left_text v3
    → Begins text v3 (picking any other each)
begins_picking text clause any other each v1 v2 v3 h k l p q r = record {
  parts = record {
    others = λ none. absurd (some-of clause any h none);
    any_is = clause-of (Some clause) any h;
    other_is = k;
    each_other_is = l;
    all_is = tt;
  };
  text_is = joined (parts_text (codes "any ") any) (parts_text (codes "other ") other)
      (parts_text (codes "each other ") each) [] (left_text v1) (left_text v2) (left_text v3) (text ++ codes ", ") p q r;
}

pub other_failed : (text any : List ℕ) (v1 : Option (List ℕ)) (f : SentenceFault)
    → TakesPart Any (Some text) v1 (Some any)
    → (f ≡ OutOfMemory) ⊎ ((f ≡ NoClause Other) × LacksClause Other v1) → (f ≡ OutOfMemory) ⊎ StopsAt text f
other_failed text any v1 f p h =
    let a = taken Any (Some text) v1 (Some any) p in
    failed text v1 (picking a.formula None None) Other f
    (begins_picking text any a.formula None None v1 v1 v1 a.spelled tt tt a.text_is refl refl)
    (refl, some-of any a.formula a.spelled, refl, refl) h

pub each_failed : (text any : List ℕ) (other v1 v2 : Option (List ℕ)) (f : SentenceFault)
    → TakesPart Any (Some text) v1 (Some any) → TakesPart Other v1 v2 other
    → (f ≡ OutOfMemory) ⊎ ((f ≡ NoClause EachOther) × LacksClause EachOther v2) → (f ≡ OutOfMemory) ⊎ StopsAt text f
each_failed text any other v1 v2 f p q h =
    let a = taken Any (Some text) v1 (Some any) p in
    let o = taken Other v1 v2 other q in
    failed text v2 (picking a.formula o.formula None) EachOther f
    (begins_picking text any a.formula o.formula None v1 v2 v2 a.spelled (clause-of other o.formula o.spelled) tt
    a.text_is o.text_is refl)
    (refl, some-of any a.formula a.spelled, refl) h

later-due : (any other each : Option Formula) (v1 v2 v3 : Option (List ℕ)) (part : SentencePart) → any ≢ None
    → (other ≡ None → (v2 ≡ v1) × ¬ (Comes Other v1)) → (each ≡ None → (v3 ≡ v2) × ¬ (Comes EachOther v2))
    → MayFollow (picking any other each) part → Comes part v3 → part ≡ All
later-due any other each v1 v2 v3 Any some h k may comes = absurd (some may.1)
later-due any other each v1 v2 v3 Other some h k may comes =
    absurd ((h may.2).1 (subst (Comes Other) ((k may.3).0 ∙ (h may.2).0) comes))
later-due any other each v1 v2 v3 EachOther some h k may comes =
    absurd ((k may.2).1 (subst (Comes EachOther) (k may.2).0 comes))
later-due any other each v1 v2 v3 All some h k may comes = refl

pub some_read : (text any : List ℕ) (other each v1 v2 v3 : Option (List ℕ)) → length text ≤ 65536
    → TakesPart Any (Some text) v1 (Some any) → TakesPart Other v1 v2 other → TakesPart EachOther v2 v3 each
    → HasRead text v3 (Some any) other each
some_read text any other each v1 v2 v3 short p q r =
    let a = taken Any (Some text) v1 (Some any) p in
    let o = taken Other v1 v2 other q in
    let e = taken EachOther v2 v3 each r in
    let so_far = begins_picking text any a.formula o.formula e.formula v1 v2 v3 a.spelled
    (clause-of other o.formula o.spelled) (clause-of each e.formula e.spelled) a.text_is o.text_is e.text_is in
    record {
      sentence = picking a.formula o.formula e.formula;
      any_is = a.spelled;
      other_is = o.spelled;
      each_other_is = e.spelled;
      all_is = refl;
      parts = so_far.parts;
      text_is = so_far.text_is;
      short = e.left_fits (o.left_fits (a.left_fits short));
      any_fits = a.part_fits;
      other_fits = o.part_fits;
      each_other_fits = e.part_fits;
      last = λ part. later-due a.formula o.formula e.formula v1 v2 v3 part (some-of any a.formula a.spelled)
          (λ none. (o.same none, o.none none)) (λ none. (e.same none, e.none none));
    }

-- ---- after it

-- all parts were read
pub record AreRead (text : List ℕ) (left any other each_other all : Option (List ℕ)) : Type 0 where
  pub sentence : Parts
  pub any_is : Spells any sentence.any
  pub other_is : Spells other sentence.other
  pub each_other_is : Spells each_other sentence.each_other
  pub all_is : Spells all sentence.all
  pub parts : ArePartsOfSentence sentence
  pub text_is : text ++ codes ", " ≡ sentence_text sentence ++ left_text left
  pub ends : (part : SentencePart) → MayFollow sentence part → ¬ (Comes part left)
  pub all_fits : fits all

spelled-on : (s : Parts) (f : Option Formula) (t x y : List ℕ) → s.all ≡ None → t ≡ sentence_text s ++ x
    → x ≡ parts_text (codes "all ") f ++ y
    → t ≡ sentence_text (record { any = s.any; other = s.other; each_other = s.each_other; all = f }) ++ y
spelled-on s f t x y none e k =
    let a = parts_text (codes "any ") s.any in
    let o = parts_text (codes "other ") s.other in
    let r = parts_text (codes "each other ") s.each_other in
    e ∙ ap (λ l. (a ++ o ++ r ++ parts_text (codes "all ") l) ++ x) none ∙ ap (λ w. (a ++ o ++ r ++ []) ++ w) k
    ∙ regroup a o r (parts_text (codes "all ") f) y
  where
    regroup : (a o r l y : List ℕ) → (a ++ o ++ r ++ []) ++ (l ++ y) ≡ (a ++ o ++ r ++ l) ++ y
    regroup a o r l y = simp (append_assoc, append-nil)

-- what may follow these now might have before `all`
before-all : (s : Parts) (f : Option Formula) (part : SentencePart) → s.all ≡ None
    → MayFollow (record { any = s.any; other = s.other; each_other = s.each_other; all = f }) part
    → (f ≡ None) × MayFollow s part
before-all s f Any none may = (may.0, (none, may.1))
before-all s f Other none may = (may.0, (none, may.1, may.2, may.3))
before-all s f EachOther none may = (may.0, (none, may.1, may.2))
before-all s f All none may = (may, none)

pub all_failed : (text : List ℕ) (v any other each : Option (List ℕ)) (f : SentenceFault)
    → HasRead text v any other each → (f ≡ OutOfMemory) ⊎ ((f ≡ NoClause All) × LacksClause All v)
    → (f ≡ OutOfMemory) ⊎ StopsAt text f
all_failed text v any other each f h k =
    failed text v h.sentence All f (record { parts = h.parts; text_is = h.text_is }) h.all_is k

pub last_read : (text : List ℕ) (v w any other each all : Option (List ℕ)) → HasRead text v any other each
    → TakesPart All v w all → AreRead text w any other each all
last_read text v w any other each all h k =
    let l = taken All v w all k in
    let s = h.sentence in
    record {
      sentence = record { any = s.any; other = s.other; each_other = s.each_other; all = l.formula };
      any_is = h.any_is;
      other_is = h.other_is;
      each_other_is = h.each_other_is;
      all_is = l.spelled;
      parts = record {
        others = h.parts.others;
        any_is = h.parts.any_is;
        other_is = h.parts.other_is;
        each_other_is = h.parts.each_other_is;
        all_is = clause-of all l.formula l.spelled;
      };
      text_is = spelled-on s l.formula (text ++ codes ", ") (left_text v) (left_text w) h.all_is h.text_is l.text_is;
      ends = λ part may comes.
          let before = before-all s l.formula part h.all_is may in
          let came = subst (Comes part) (l.same before.0) comes in
          l.none before.0 (subst (λ p. Comes p v) (h.last part before.1 came) came);
      all_fits = l.part_fits;
    }

pub stops : (text rest : List ℕ) (left any other each all : Option (List ℕ)) (last : Option SentencePart)
    → left ≡ Some rest → (h : AreRead text left any other each all) → last ≡ last_part h.sentence
    → StopsAt text (NoPart last)
stops text rest left any other each all last e h is = record {
  before = h.sentence;
  rest = rest;
  parts = h.parts;
  text_is = text_before text rest h.sentence (h.text_is ∙ ap (λ l. sentence_text h.sentence ++ left_text l) e);
  stop = no_part (subst (λ l. (part : SentencePart) → MayFollow h.sentence part → ¬ (Comes part l)) e h.ends)
      (ap NoPart is);
}

pub read_whole : (text : List ℕ) (left any other each all : Option (List ℕ)) → left ≡ None
    → (h : AreRead text left any other each all) → IsTextOfParts text h.sentence
read_whole text left any other each all e h = record {
  parts = h.parts;
  spelled = h.text_is ∙ ap (λ l. sentence_text h.sentence ++ left_text l) e ∙ append-nil (sentence_text h.sentence);
}
