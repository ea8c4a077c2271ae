-- A line that is read is spelled so and stands at the front, and a line of the grammar that stands there is read.
use Rattle.std.proofs.Common.{◌≡◌, ℕ, Bool, true, false, cond, List, [], ◌∷◌, ◌++◌, length, take, drop, Option, Some}
use Rattle.std.proofs.Common.{None, refl, sym, ap, subst, ◌∙◌, arith, inl, inr, nat_eq, nat_lt, ◌<◌, append_assoc}
use Rattle.std.proofs.lemmas.Bool.Decides.{nat_tests}
use Rattle.std.specs.Prelude.{codes}
use Rattle.std.specs.Cmp.Lexicographic.{pointwise, bytes_decides}
use Rattle.std.specs.Option.{option_map}
use Rattle.std.proofs.lemmas.List.{take_at, drop_at, take-append-drop, append_cancel_left}
use Rattle.std.proofs.lemmas.Option.{same_Some}
use Rattle.ira_event.specs.Scan.{number_at, kept_at, kept, after_word, ◌>>=◌, or, then_or}
use Rattle.ira_event.specs.LogScan.{bit_at, message_at, reset_at, load_at, number_line, line_at}
use Rattle.ira_event.specs.Numeral.{IsNumeral}
use Rattle.ira_event.specs.LogText.{IsMessage, IsLoad, IsRecord, IsEnd, bit_word}
use Rattle.ira_event.specs.LogTextFault.{BeginsAsRecord}
use Rattle.ira_event.specs.Event.{is_of_version}
use Rattle.ira_event.specs.NextLine.{HasNoLineFeed}
use Rattle.ira_event.specs.declared.msg.Msg.{Msg}
use Rattle.ira_event.specs.declared.load.Load.{Load}
use Rattle.ira_event.specs.declared.load.Load.TheVariants.{Msg as Sends, Reset}
use Rattle.ira_event.specs.declared.event.Event.{Event}
use Rattle.ira_event.specs.declared.event.Event.TheVariants.{Draw, Sent, Got, Yield}
use Rattle.ira_event.specs.declared.log_line.LogLine.{LogLine}
use Rattle.ira_event.specs.declared.log_line.LogLine.TheVariants.{Record, End}
use Rattle.ira_event.proofs.Pieces.{Lacks, Lacks-append, split_same, first_differs}
use Rattle.ira_event.proofs.Numerals.{NoDigit, number-takes, number-again, numeral_same, Lacks-numeral}

-- the value of a step that did not fail
pub bind_some : {A B : Type 0} (r : Option A) (f : A → Option B) (y : B) → (r >>= f) ≡ Some y → (x : A) × (r ≡ Some x)
    × (f x ≡ Some y)
bind_some (Some x) f y e = (x, refl, e)
bind_some None f y e = absurd cc

pub map_some : {A B : Type 0} (r : Option A) (f : A → B) (y : B) → option_map f r ≡ Some y → (x : A) × (r ≡ Some x)
    × (f x ≡ y)
map_some (Some x) f y e = (x, refl, cc)
map_some None f y e = absurd cc

-- a word that is passed stood at the front
word-cases : (word bs rest : List ℕ) (b : Bool) → pointwise nat_eq (take (length word) bs) word ≡ b
    → cond b (Some (drop (length word) bs)) None ≡ Some rest → bs ≡ word ++ rest
word-cases word bs rest true t e =
    let front = (bytes_decides (take (length word) bs) word).0 t in
    let back : drop (length word) bs ≡ rest = cc in
    sym (take-append-drop (length word) bs) ∙ ap (λ w. w ++ drop (length word) bs) front ∙ ap (λ w. word ++ w) back
word-cases word bs rest false t e = absurd cc

pub word-takes : (word bs rest : List ℕ) → after_word word bs ≡ Some rest → bs ≡ word ++ rest
word-takes word bs rest e = word-cases word bs rest (pointwise nat_eq (take (length word) bs) word) refl e

pub word-again : (word rest : List ℕ) → after_word word (word ++ rest) ≡ Some rest
word-again word rest =
    let t : pointwise nat_eq (take (length word) (word ++ rest)) word ≡ true =
    (bytes_decides _ _).1 (take_at word rest (length word) refl) in
    rw t (ap Some (drop_at word rest (length word) refl))

-- a number as it is kept
pub record Kept (bs : List ℕ) (p : ℕ × List ℕ) : Type 0 where
  pub n : ℕ
  pub text : List ℕ
  pub parts : bs ≡ text ++ p.1
  pub is : IsNumeral text n
  pub kept_is : p.0 ≡ kept n

pub kept-takes : (bs : List ℕ) (p : ℕ × List ℕ) → kept_at bs ≡ Some p → Kept bs p
kept-takes bs p e =
    let m = map_some (number_at bs) (λ q. (kept q.0, q.1)) p e in
    let t = number-takes bs m.0 m.1 in
    let one : kept m.0.0 ≡ p.0 = ap (λ (q : ℕ × List ℕ). q.0) m.2 in
    let two : m.0.1 ≡ p.1 = ap (λ (q : ℕ × List ℕ). q.1) m.2 in
    record { n = m.0.0; text = t.text; parts = t.parts ∙ ap (λ w. t.text ++ w) two; is = t.is; kept_is = sym one }

pub kept-again : (text : List ℕ) (n : ℕ) (rest : List ℕ) → IsNumeral text n → NoDigit rest
    → kept_at (text ++ rest) ≡ Some (kept n, rest)
kept-again text n rest h s = ap (λ o. option_map (λ q. (kept q.0, q.1)) o) (number-again text n rest h s)

-- ---- a message

abbrev pub kept_message : Msg → Msg
kept_message m = record { round = kept m.round; id = kept m.id; hop = kept m.hop; dirty = m.dirty }

bit-again : (b : Bool) (rest : List ℕ) → bit_at (codes " " ++ bit_word b ++ codes "\n" ++ rest) ≡ Some (b, rest)
bit-again true rest = refl
bit-again false rest = refl

bit-cases : (bs : List ℕ) (x : Bool × List ℕ) (clean dirty : Option (List ℕ)) → after_word (codes " clean\n") bs ≡ clean
    → after_word (codes " dirty\n") bs ≡ dirty
    → or (option_map (λ rest. (false, rest)) clean) (option_map (λ rest. (true, rest)) dirty) ≡ Some x
    → bs ≡ codes " " ++ bit_word x.0 ++ codes "\n" ++ x.1
bit-cases bs x (Some rest) dirty c d e =
    subst (λ (x : Bool × List ℕ). bs ≡ codes " " ++ bit_word x.0 ++ codes "\n"
    ++ x.1) (same_Some _ _ e) (word-takes (codes " clean\n") bs rest c)
bit-cases bs x None (Some rest) c d e =
    subst (λ (x : Bool × List ℕ). bs ≡ codes " " ++ bit_word x.0 ++ codes "\n"
    ++ x.1) (same_Some _ _ e) (word-takes (codes " dirty\n") bs rest d)
bit-cases bs x None None c d e = absurd cc

bit-takes : (bs : List ℕ) (x : Bool × List ℕ) → bit_at bs ≡ Some x → bs ≡ codes " " ++ bit_word x.0 ++ codes "\n" ++ x.1
bit-takes bs x e = bit-cases bs x (after_word (codes " clean\n") bs) (after_word (codes " dirty\n") bs) refl refl e

pub message-again : (text : List ℕ) (m : Msg) (rest : List ℕ) → IsMessage text m
    → message_at (text ++ codes "\n" ++ rest) ≡ Some (kept_message m, rest)
unfolding message_at
message-again text m rest h =
    let after_hop = codes " " ++ bit_word m.dirty ++ codes "\n" ++ rest in
    let after_id = codes " " ++ (h.hop ++ after_hop) in
    let after_round = codes " " ++ (h.id ++ after_id) in
    let regrouped : text ++ codes "\n" ++ rest ≡ h.round ++ after_round =
    ap (λ w. w ++ codes "\n" ++ rest) h.parts ∙ simp append_assoc in
    ap message_at regrouped ∙ rw (
      kept-again h.round m.round after_round h.round_is refl,
      kept-again h.id m.id after_id h.id_is refl,
      kept-again h.hop m.hop after_hop h.hop_is refl,
      bit-again m.dirty rest,
    ) refl

-- the message that was taken from the front, with its line's end
pub record Message (bs : List ℕ) (p : Msg × List ℕ) : Type 0 where
  pub m : Msg
  pub text : List ℕ
  pub parts : bs ≡ text ++ codes "\n" ++ p.1
  pub is : IsMessage text m
  pub kept_is : p.0 ≡ kept_message m

message_parts : (bs a b c d f rest round id hop : List ℕ) (dirty : Bool) → bs ≡ round ++ a → a ≡ codes " " ++ b
    → b ≡ id ++ c → c ≡ codes " " ++ d → d ≡ hop ++ f → f ≡ codes " " ++ bit_word dirty ++ codes "\n" ++ rest
    → bs ≡ (round ++ codes " " ++ id ++ codes " " ++ hop ++ codes " " ++ bit_word dirty) ++ codes "\n" ++ rest
message_parts bs a b c d f rest round id hop dirty p q r s t u =
    p ∙ ap (λ w. round ++ w) (q
    ∙ ap (λ w. codes " " ++ w) (r ∙ ap (λ w. id ++ w) (s ∙ ap (λ w. codes " " ++ w) (t ∙ ap (λ w. hop ++ w) u))))
    ∙ simp append_assoc

message_kept : (r i h r' i' h' : ℕ) (dirty : Bool) (m : Msg) → record { round = r; id = i; hop = h; dirty = dirty } ≡ m
    → r ≡ kept r' → i ≡ kept i' → h ≡ kept h'
    → m ≡ kept_message (record { round = r'; id = i'; hop = h'; dirty = dirty })
message_kept r i h r' i' h' dirty m e p q s = cc

message-built : (bs : List ℕ) (p : Msg × List ℕ) (a c f : ℕ × List ℕ) (b d : List ℕ) (g : Bool × List ℕ) → Kept bs a
    → a.1 ≡ codes " " ++ b → Kept b c → c.1 ≡ codes " " ++ d → Kept d f
    → f.1 ≡ codes " " ++ bit_word g.0 ++ codes "\n" ++ g.1
    → record { round = a.0; id = c.0; hop = f.0; dirty = g.0 } ≡ p.0 → g.1 ≡ p.1 → Message bs p
message-built bs p a c f b d g round sp1 id sp2 hop end one two = record {
  m = record { round = round.n; id = id.n; hop = hop.n; dirty = g.0 };
  text = round.text ++ codes " " ++ id.text ++ codes " " ++ hop.text ++ codes " " ++ bit_word g.0;
  parts = message_parts bs a.1 b c.1 d f.1 p.1 round.text id.text hop.text g.0 round.parts sp1 id.parts sp2 hop.parts
      (end ∙ ap (λ w. codes " " ++ bit_word g.0 ++ codes "\n" ++ w) two);
  is = record {
    round = round.text;
    id = id.text;
    hop = hop.text;
    parts = refl;
    round_is = round.is;
    id_is = id.is;
    hop_is = hop.is;
  };
  kept_is = message_kept a.0 c.0 f.0 round.n id.n hop.n g.0 p.0 one round.kept_is id.kept_is hop.kept_is;
}

pub message-takes : (bs : List ℕ) (p : Msg × List ℕ) → message_at bs ≡ Some p → Message bs p
unfolding message_at
message-takes bs p e =
    let a = bind_some _ _ _ e in
    let b = bind_some _ _ _ a.2 in
    let c = bind_some _ _ _ b.2 in
    let d = bind_some _ _ _ c.2 in
    let f = bind_some _ _ _ d.2 in
    let g = bind_some _ _ _ f.2 in
    let x = same_Some _ _ g.2 in
    message-built bs p a.0 c.0 f.0 b.0 d.0 g.0 (kept-takes bs a.0 a.1) (word-takes (codes " ") a.0.1 b.0 b.1)
    (kept-takes b.0 c.0 c.1) (word-takes (codes " ") c.0.1 d.0 d.1) (kept-takes d.0 f.0 f.1)
    (bit-takes f.0.1 g.0 g.1)
    (ap (λ (q : Msg × List ℕ). q.0) x) (ap (λ (q : Msg × List ℕ). q.1) x)

-- ---- lines have no line feed

bit_is_one_line : (b : Bool) → Lacks 10 (bit_word b)
bit_is_one_line true = refl
bit_is_one_line false = refl

pub message_is_one_line : (text : List ℕ) (m : Msg) → IsMessage text m → HasNoLineFeed text
message_is_one_line text m h =
    let space : Lacks 10 (codes " ") = refl in
    let r = Lacks-numeral 10 h.round m.round (omega arith) h.round_is in
    let i = Lacks-numeral 10 h.id m.id (omega arith) h.id_is in
    let p = Lacks-numeral 10 h.hop m.hop (omega arith) h.hop_is in
    let a = Lacks-append 10 h.round (codes " ") r space in
    let b = Lacks-append 10 (h.round ++ codes " ") h.id a i in
    let c = Lacks-append 10 (h.round ++ codes " " ++ h.id) (codes " ") b space in
    let d = Lacks-append 10 (h.round ++ codes " " ++ h.id ++ codes " ") h.hop c p in
    let e = Lacks-append 10 (h.round ++ codes " " ++ h.id ++ codes " " ++ h.hop) (codes " ") d space in
    let f = Lacks-append 10 (h.round ++ codes " " ++ h.id ++ codes " " ++ h.hop
    ++ codes " ") (bit_word m.dirty) e (bit_is_one_line m.dirty) in
    subst (λ t. HasNoLineFeed t) (sym h.parts) f

word_is_one_line : (word text line : List ℕ) → Lacks 10 word → Lacks 10 text → line ≡ word ++ text → HasNoLineFeed line
word_is_one_line word text line h k e = subst (λ t. HasNoLineFeed t) (sym e) (Lacks-append 10 word text h k)

pub load_is_one_line : (text : List ℕ) (l : Load) → IsLoad text l → HasNoLineFeed text
load_is_one_line text (Sends m) h = message_is_one_line text m h
load_is_one_line text (Reset n) h =
    word_is_one_line (codes "reset ") h.0 text refl (Lacks-numeral 10 h.0 n (omega arith) h.2) h.1

pub record_is_one_line : (line : List ℕ) (e : Event) → IsRecord line e → HasNoLineFeed line
record_is_one_line line (Draw d) h =
    word_is_one_line (codes "draw ") h.0 line refl (Lacks-numeral 10 h.0 d (omega arith) h.2) h.1
record_is_one_line line (Sent l) h = word_is_one_line (codes "send ") h.0 line refl (load_is_one_line h.0 l h.2) h.1
record_is_one_line line (Got l) h = word_is_one_line (codes "recv ") h.0 line refl (load_is_one_line h.0 l h.2) h.1
record_is_one_line line Yield h = subst (λ t. HasNoLineFeed t) (sym h) refl

pub end_is_one_line : (line : List ℕ) (n : ℕ) → IsEnd line n → HasNoLineFeed line
end_is_one_line line n h = word_is_one_line (codes "end ") h.0 line refl (Lacks-numeral 10 h.0 n (omega arith) h.2) h.1

-- ---- lines from the front

-- a load as it is kept
abbrev pub kept_load : Load → Load
kept_load (Sends m) = Sends (kept_message m)
kept_load (Reset h) = Reset (kept h)

-- what a line says, as it is kept
abbrev pub kept_event : Event → Event
kept_event (Draw d) = Draw (kept d)
kept_event (Sent l) = Sent (kept_load l)
kept_event (Got l) = Got (kept_load l)
kept_event Yield = Yield

abbrev pub Says : List ℕ → LogLine → Type 0
Says text (Record e) = (e' : Event) × IsRecord text e' × (e ≡ kept_event e')
Says text (End n) = (n' : ℕ) × IsEnd text n' × (n ≡ kept n')

-- the line that stands at the front
pub record FirstLine (bs : List ℕ) (p : LogLine × List ℕ) : Type 0 where
  pub text : List ℕ
  pub parts : bs ≡ text ++ codes "\n" ++ p.1
  pub whole : HasNoLineFeed text
  pub says : Says text p.0

pub number_line-takes : (bs : List ℕ) (p : ℕ × List ℕ) → number_line bs ≡ Some p → (text : List ℕ) × (n : ℕ)
    × (bs ≡ text ++ codes "\n" ++ p.1) × IsNumeral text n × (p.0 ≡ kept n)
number_line-takes bs p e =
    let a = bind_some (kept_at bs) (λ n. after_word (codes "\n") n.1 >>= (λ rest. Some (n.0, rest))) p e in
    let b = bind_some (after_word (codes "\n") a.0.1) (λ rest. Some (a.0.0, rest)) p a.2 in
    let k = kept-takes bs a.0 a.1 in
    let w = word-takes (codes "\n") a.0.1 b.0 b.1 in
    let x = same_Some _ _ b.2 in (
      k.text,
      k.n,
      k.parts ∙ ap (λ w. k.text ++ w) w ∙ ap (λ (q : ℕ × List ℕ). k.text ++ (codes "\n" ++ q.1)) x
          ∙ sym (append_assoc k.text (codes "\n") p.1),
      k.is,
      sym (ap (λ (q : ℕ × List ℕ). q.0) x) ∙ k.kept_is,
    )

pub number_line-again : (text : List ℕ) (n : ℕ) (rest : List ℕ) → IsNumeral text n
    → number_line (text ++ codes "\n" ++ rest) ≡ Some (kept n, rest)
number_line-again text n rest h =
    ap number_line (append_assoc text (codes "\n") rest) ∙ rw (kept-again text n (codes "\n" ++ rest) h refl) refl

past_word : (word bs text rest : List ℕ) (after : List ℕ) → after_word word bs ≡ Some after
    → after ≡ text ++ codes "\n" ++ rest → bs ≡ (word ++ text) ++ codes "\n" ++ rest
past_word word bs text rest after e p = word-takes word bs after e ∙ ap (λ w. word ++ w) p ∙ simp append_assoc

-- ---- a load

-- no message begins as a reset does
no_message : (text : List ℕ) → message_at (codes "reset " ++ text) ≡ None
unfolding message_at
no_message text = refl

pub load-again : (text : List ℕ) (l : Load) (rest : List ℕ) → IsLoad text l
    → load_at (text ++ codes "\n" ++ rest) ≡ Some (kept_load l, rest)
load-again text (Sends m) rest h = rw (message-again text m rest h) refl
load-again text (Reset n) rest h =
    let regrouped : text ++ codes "\n" ++ rest ≡ codes "reset " ++ (h.0 ++ codes "\n" ++ rest) =
    ap (λ w. w ++ codes "\n" ++ rest) h.1 ∙ simp append_assoc in
    let x = h.0 ++ codes "\n" ++ rest in
    let reset : reset_at (codes "reset " ++ x) ≡ Some (kept n, rest) =
    ap (λ o. o >>= number_line) (word-again (codes "reset ") x) ∙ number_line-again h.0 n rest h.2 in
    ap load_at regrouped
    ∙ ap (λ o. or (option_map (λ p. (Sends p.0, p.1)) o)
    (option_map (λ p. (Reset p.0, p.1)) (reset_at (codes "reset " ++ x)))) (no_message x)
    ∙ ap (λ o. option_map (λ p. (Reset p.0, p.1)) o) reset

-- the load that was taken from the front, with its line's end
pub record LoadScanned (bs : List ℕ) (p : Load × List ℕ) : Type 0 where
  pub l : Load
  pub text : List ℕ
  pub parts : bs ≡ text ++ codes "\n" ++ p.1
  pub is : IsLoad text l
  pub kept_is : p.0 ≡ kept_load l

message_taken : (bs : List ℕ) (p : Msg × List ℕ) → message_at bs ≡ Some p → LoadScanned bs (Sends p.0, p.1)
message_taken bs p e = let t = message-takes bs p e in
    record { l = Sends t.m; text = t.text; parts = t.parts; is = t.is; kept_is = ap Sends t.kept_is }

reset_taken : (bs : List ℕ) (p : ℕ × List ℕ) → reset_at bs ≡ Some p → LoadScanned bs (Reset p.0, p.1)
reset_taken bs p e =
    let a = bind_some (after_word (codes "reset ") bs) number_line p e in
    let t = number_line-takes a.0 p a.2 in
    record {
      l = Reset t.1;
      text = codes "reset " ++ t.0;
      parts = past_word (codes "reset ") bs t.0 p.1 a.0 a.1 t.2;
      is = (t.0, refl, t.3);
      kept_is = ap Reset t.4;
    }

load-cases : (bs : List ℕ) (p : Load × List ℕ) (a : Option (Msg × List ℕ)) (b : Option (ℕ × List ℕ)) → message_at bs ≡ a
    → reset_at bs ≡ b
    → or (option_map (λ p. (Sends p.0, p.1)) a) (option_map (λ p. (Reset p.0, p.1)) b) ≡ Some p → LoadScanned bs p
load-cases bs p (Some q) b ea eb e = subst (LoadScanned bs) (same_Some _ _ e) (message_taken bs q ea)
load-cases bs p None (Some q) ea eb e = subst (LoadScanned bs) (same_Some _ _ e) (reset_taken bs q eb)
load-cases bs p None None ea eb e = absurd cc

pub load-takes : (bs : List ℕ) (p : Load × List ℕ) → load_at bs ≡ Some p → LoadScanned bs p
load-takes bs p e = load-cases bs p (message_at bs) (reset_at bs) refl refl e

-- a load spells one thing
message_no_reset : (text : List ℕ) (m : Msg) (h : ℕ) → IsMessage text m → IsLoad text (Reset h) → ⊥
message_no_reset text m h a b =
    let read = message-again text m [] a in
    let regrouped : text ++ codes "\n" ++ [] ≡ codes "reset " ++ (b.0 ++ codes "\n" ++ []) =
    ap (λ w. w ++ codes "\n" ++ []) b.1 ∙ simp append_assoc in
    let none : message_at (text ++ codes "\n" ++ []) ≡ None =
    ap message_at regrouped ∙ no_message (b.0 ++ codes "\n" ++ []) in
    absurd cc

-- ---- a line

line-cases : (bs : List ℕ) (p : LogLine × List ℕ) (a b c d y : Option (List ℕ)) → after_word (codes "draw ") bs ≡ a
    → after_word (codes "send ") bs ≡ b → after_word (codes "recv ") bs ≡ c → after_word (codes "end ") bs ≡ d
    → after_word (codes "yield\n") bs ≡ y
    → then_or a (λ r. option_map (λ p. (Record (Draw p.0), p.1)) (number_line r))
    (then_or b (λ r. option_map (λ p. (Record (Sent p.0), p.1)) (load_at r))
    (then_or c (λ r. option_map (λ p. (Record (Got p.0), p.1)) (load_at r))
    (then_or d (λ r. option_map (λ p. (End p.0, p.1)) (number_line r)) (option_map (λ r. (Record Yield, r)) y))))
    ≡ Some p → FirstLine bs p
line-cases bs p (Some r) b c d y ea eb ec ed ey e =
    let m = map_some (number_line r) (λ p. (Record (Draw p.0), p.1)) p e in
    let t = number_line-takes r m.0 m.1 in
    subst (FirstLine bs) m.2 (record {
      text = codes "draw " ++ t.0;
      parts = past_word (codes "draw ") bs t.0 m.0.1 r ea t.2;
      whole =
          Lacks-append 10 (codes "draw ") t.0 refl (Lacks-numeral 10 t.0 t.1 (omega arith) t.3);
      says =
          (Draw t.1, (t.0, refl, t.3), ap Draw t.4);
    })
line-cases bs p None (Some r) c d y ea eb ec ed ey e =
    let m = map_some (load_at r) (λ p. (Record (Sent p.0), p.1)) p e in
    let t = load-takes r m.0 m.1 in
    subst (FirstLine bs) m.2 (record {
      text = codes "send " ++ t.text;
      parts = past_word (codes "send ") bs t.text m.0.1 r eb t.parts;
      whole =
          Lacks-append 10 (codes "send ") t.text refl (load_is_one_line t.text t.l t.is);
      says =
          (Sent t.l, (t.text, refl, t.is), ap Sent t.kept_is);
    })
line-cases bs p None None (Some r) d y ea eb ec ed ey e =
    let m = map_some (load_at r) (λ p. (Record (Got p.0), p.1)) p e in
    let t = load-takes r m.0 m.1 in
    subst (FirstLine bs) m.2 (record {
      text = codes "recv " ++ t.text;
      parts = past_word (codes "recv ") bs t.text m.0.1 r ec t.parts;
      whole =
          Lacks-append 10 (codes "recv ") t.text refl (load_is_one_line t.text t.l t.is);
      says =
          (Got t.l, (t.text, refl, t.is), ap Got t.kept_is);
    })
line-cases bs p None None None (Some r) y ea eb ec ed ey e =
    let m = map_some (number_line r) (λ p. (End p.0, p.1)) p e in
    let t = number_line-takes r m.0 m.1 in
    subst (FirstLine bs) m.2 (record {
      text = codes "end " ++ t.0;
      parts = past_word (codes "end ") bs t.0 m.0.1 r ed t.2;
      whole =
          Lacks-append 10 (codes "end ") t.0 refl (Lacks-numeral 10 t.0 t.1 (omega arith) t.3);
      says =
          (t.1, (t.0, refl, t.3), t.4);
    })
line-cases bs p None None None None (Some r) ea eb ec ed ey e =
    let here : FirstLine bs (Record Yield, r) =
    record {
      text = codes "yield";
      parts = word-takes (codes "yield\n") bs r ey;
      whole = refl;
      says = (Yield, refl, refl);
    } in
    subst (FirstLine bs) (same_Some _ _ e) here
line-cases bs p None None None None None ea eb ec ed ey e = absurd cc

pub line-takes : (bs : List ℕ) (p : LogLine × List ℕ) → line_at bs ≡ Some p → FirstLine bs p
unfolding line_at
line-takes bs p e = line-cases bs p _ _ _ _ _ refl refl refl refl refl e

pub record-again : (text : List ℕ) (e : Event) (rest : List ℕ) → IsRecord text e
    → line_at (text ++ codes "\n" ++ rest) ≡ Some (Record (kept_event e), rest)
unfolding line_at
record-again text (Draw d) rest h =
    ap line_at (ap (λ w. w ++ codes "\n" ++ rest) h.1) ∙ rw (number_line-again h.0 d rest h.2) refl
record-again text (Sent l) rest h =
    ap line_at (ap (λ w. w ++ codes "\n" ++ rest) h.1) ∙ rw (load-again h.0 l rest h.2) refl
record-again text (Got l) rest h =
    ap line_at (ap (λ w. w ++ codes "\n" ++ rest) h.1) ∙ rw (load-again h.0 l rest h.2) refl
record-again text Yield rest h = ap line_at (ap (λ w. w ++ codes "\n" ++ rest) h)

pub end-again : (text : List ℕ) (n : ℕ) (rest : List ℕ) → IsEnd text n
    → line_at (text ++ codes "\n" ++ rest) ≡ Some (End (kept n), rest)
unfolding line_at
end-again text n rest h =
    ap line_at (ap (λ w. w ++ codes "\n" ++ rest) h.1) ∙ rw (number_line-again h.0 n rest h.2) refl

-- ---- a line spells one thing

bit_same : (a b : Bool) → bit_word a ≡ bit_word b → a ≡ b
bit_same true true h = refl
bit_same false false h = refl
bit_same true false h = absurd (first_differs 100 99 _ _ refl h)
bit_same false true h = absurd (first_differs 99 100 _ _ refl h)

fields : (text r i h b : List ℕ) → text ≡ r ++ codes " " ++ i ++ codes " " ++ h ++ codes " " ++ b
    → text ≡ r ++ (32 ∷ (i ++ (32 ∷ (h ++ (32 ∷ b)))))
fields text r i h b e = e ∙ simp append_assoc

abbrev message_of : ℕ → ℕ → ℕ → Bool → Msg
message_of r i h b = record { round = r; id = i; hop = h; dirty = b }

message_parts_same : (r i h r' i' h' : ℕ) (b b' : Bool) → r ≡ r' → i ≡ i' → h ≡ h' → b ≡ b'
    → message_of r i h b ≡ message_of r' i' h' b'
message_parts_same r i h r' i' h' b b' p q u v = cc

message_of_fields : (m n : Msg) → m.round ≡ n.round → m.id ≡ n.id → m.hop ≡ n.hop → m.dirty ≡ n.dirty → m ≡ n
message_of_fields m n a b c d = message_parts_same m.round m.id m.hop n.round n.id n.hop m.dirty n.dirty a b c d

pub message_same : (text : List ℕ) (m n : Msg) → IsMessage text m → IsMessage text n → m ≡ n
message_same text m n h k =
    let e = sym (fields text h.round h.id h.hop (bit_word m.dirty) h.parts)
    ∙ fields text k.round k.id k.hop (bit_word n.dirty) k.parts in
    let r = split_same 32 h.round k.round _ _ (Lacks-numeral 32 h.round m.round (omega arith) h.round_is)
    (Lacks-numeral 32 k.round n.round (omega arith) k.round_is) e in
    let i = split_same 32 h.id k.id _ _ (Lacks-numeral 32 h.id m.id (omega arith) h.id_is)
    (Lacks-numeral 32 k.id n.id (omega arith) k.id_is) r.1 in
    let p = split_same 32 h.hop k.hop _ _ (Lacks-numeral 32 h.hop m.hop (omega arith) h.hop_is)
    (Lacks-numeral 32 k.hop n.hop (omega arith) k.hop_is) i.1 in
    message_of_fields m n
    (numeral_same k.round m.round n.round (subst (λ t. IsNumeral t m.round) r.0 h.round_is) k.round_is)
    (numeral_same k.id m.id n.id (subst (λ t. IsNumeral t m.id) i.0 h.id_is) k.id_is)
    (numeral_same k.hop m.hop n.hop (subst (λ t. IsNumeral t m.hop) p.0 h.hop_is) k.hop_is)
    (bit_same m.dirty n.dirty p.1)

pub load_same : (text : List ℕ) (a b : Load) → IsLoad text a → IsLoad text b → a ≡ b
load_same text (Sends m) (Sends n) h k = ap Sends (message_same text m n h k)
load_same text (Reset m) (Reset n) h k = let t : h.0 ≡ k.0 =
    append_cancel_left (codes "reset ") h.0 k.0 (sym h.1 ∙ k.1) in
    ap Reset (numeral_same k.0 m n (subst (λ t. IsNumeral t m) t h.2) k.2)
load_same text (Sends m) (Reset n) h k = absurd (message_no_reset text m n h k)
load_same text (Reset m) (Sends n) h k = absurd (message_no_reset text n m k h)

pub record_same : (line : List ℕ) (e f : Event) → IsRecord line e → IsRecord line f → e ≡ f
record_same line (Draw d) (Draw n) h k = let t : h.0 ≡ k.0 =
    append_cancel_left (codes "draw ") h.0 k.0 (sym h.1 ∙ k.1) in
    ap Draw (numeral_same k.0 d n (subst (λ t. IsNumeral t d) t h.2) k.2)
record_same line (Sent l) (Sent k') h k = let t : h.0 ≡ k.0 =
    append_cancel_left (codes "send ") h.0 k.0 (sym h.1 ∙ k.1) in
    ap Sent (load_same k.0 l k' (subst (λ t. IsLoad t l) t h.2) k.2)
record_same line (Got l) (Got k') h k = let t : h.0 ≡ k.0 =
    append_cancel_left (codes "recv ") h.0 k.0 (sym h.1 ∙ k.1) in
    ap Got (load_same k.0 l k' (subst (λ t. IsLoad t l) t h.2) k.2)
record_same line Yield Yield h k = refl
record_same line Yield (Draw n) h k = absurd (first_differs 121 100 _ _ refl (sym h ∙ k.1))
record_same line Yield (Sent n) h k = absurd (first_differs 121 115 _ _ refl (sym h ∙ k.1))
record_same line Yield (Got n) h k = absurd (first_differs 121 114 _ _ refl (sym h ∙ k.1))
record_same line (Draw d) Yield h k = absurd (first_differs 100 121 _ _ refl (sym h.1 ∙ k))
record_same line (Sent m) Yield h k = absurd (first_differs 115 121 _ _ refl (sym h.1 ∙ k))
record_same line (Got m) Yield h k = absurd (first_differs 114 121 _ _ refl (sym h.1 ∙ k))
record_same line (Draw d) (Sent n) h k = absurd (first_differs 100 115 _ _ refl (sym h.1 ∙ k.1))
record_same line (Draw d) (Got n) h k = absurd (first_differs 100 114 _ _ refl (sym h.1 ∙ k.1))
record_same line (Sent m) (Draw n) h k = absurd (first_differs 115 100 _ _ refl (sym h.1 ∙ k.1))
record_same line (Sent m) (Got n) h k = absurd (first_differs 115 114 _ _ refl (sym h.1 ∙ k.1))
record_same line (Got m) (Draw n) h k = absurd (first_differs 114 100 _ _ refl (sym h.1 ∙ k.1))
record_same line (Got m) (Sent n) h k = absurd (first_differs 114 115 _ _ refl (sym h.1 ∙ k.1))

pub end_same : (line : List ℕ) (m n : ℕ) → IsEnd line m → IsEnd line n → m ≡ n
end_same line m n h k = let t : h.0 ≡ k.0 = append_cancel_left (codes "end ") h.0 k.0 (sym h.1 ∙ k.1) in
    numeral_same k.0 m n (subst (λ t. IsNumeral t m) t h.2) k.2

later : (v : ℕ) → nat_lt 1 v ≡ true → 1 < v
later v h = grind (arith, nat_tests)

pub record_begins : (v : ℕ) (line : List ℕ) (e : Event) → is_of_version v e ≡ true → IsRecord line e
    → BeginsAsRecord v line
record_begins v line (Draw d) held h = inl (inl (h.0, h.1))
record_begins v line (Sent l) held h = inl (inr (inl (h.0, h.1)))
record_begins v line (Got l) held h = inl (inr (inr (h.0, h.1)))
record_begins v line Yield held h = inr (later v held, h)

-- an end line doesn't begin as a record does
pub end_no_record : (v : ℕ) (line : List ℕ) (n : ℕ) → IsEnd line n → BeginsAsRecord v line → ⊥
end_no_record v line n h (inl (inl k)) = first_differs 101 100 _ _ refl (sym h.1 ∙ k.1)
end_no_record v line n h (inl (inr (inl k))) = first_differs 101 115 _ _ refl (sym h.1 ∙ k.1)
end_no_record v line n h (inl (inr (inr k))) = first_differs 101 114 _ _ refl (sym h.1 ∙ k.1)
end_no_record v line n h (inr k) = first_differs 101 121 _ _ refl (sym h.1 ∙ k.1)

-- nor is it a record
pub end_is_no_record : (line : List ℕ) (n : ℕ) (e : Event) → IsEnd line n → IsRecord line e → ⊥
end_is_no_record line n (Draw d) h k = first_differs 101 100 _ _ refl (sym h.1 ∙ k.1)
end_is_no_record line n (Sent l) h k = first_differs 101 115 _ _ refl (sym h.1 ∙ k.1)
end_is_no_record line n (Got l) h k = first_differs 101 114 _ _ refl (sym h.1 ∙ k.1)
end_is_no_record line n Yield h k = first_differs 101 121 _ _ refl (sym h.1 ∙ k)
