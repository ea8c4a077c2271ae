-- Each step of a link keeps its rule.
use Rattle.std.proofs.Common.{◌≡◌, ◌≢◌, ℕ, zero, suc, ◌<◌, true, false, true≢false, List, [], ◌∷◌, ◌++◌, length}
use Rattle.std.proofs.Common.{length-append, set, sym, refl, ap, ◌∙◌, subst, ⊎_elim, append_assoc, arith}
use Rattle.std.specs.List.{All}
use Rattle.std.proofs.lemmas.List.Elements.{All-nil, All-push, All-head, All-drop, All-same}
use mathlib.Core.Option.{some, some-ne-none}
use lib.ListN.{get_elem?}
use Rattle.crossbeam_channel.specs.Fifo.{Pushes, Pops, Forks, Merges, Learns}
use Rattle.atomic_table.proofs.Lists.{at_set, at_snoc}
use Rattle.ira_links.specs.Limits.{MAX_FRAMES}
use Rattle.ira_links.specs.declared.frame.Frame.{Frame}
use Rattle.ira_links.specs.declared.rule.Known.{Known}
use Rattle.ira_links.specs.Frame.{is_frame}
use Rattle.ira_links.specs.Known.{known, writer, reader}
use Rattle.ira_links.specs.Rule.{Knows, IsInOrder}

abbrev IsInRange : Frame → Type 0
IsInRange x = is_frame x ≡ true

-- what stands in a list with one pass more, and not in the list, is the new pass
at_end : (views : List Known) (new v : Known) (pass : ℕ) → get_elem? views pass ≢ some v
    → get_elem? (views ++ new ∷ []) pass ≡ some v → pass ≡ length views
at_end [] new v zero absent at = refl
at_end [] new v (suc pass) absent at = absurd (some-ne-none v (sym at))
at_end (x ∷ xs) new v zero absent at = absurd (absent at)
at_end (x ∷ xs) new v (suc pass) absent at = ap suc (at_end xs new v pass absent at)

abbrev Each : (ℕ → Known → Type 0) → List Known → Type 0
Each P views = (pass : ℕ) (v : Known) → get_elem? views pass ≡ some v → P pass v

-- a fact holds of each pass after a change of one, if it holds of that one and of all others
each_set : (P : ℕ → Known → Type 0) (views : List Known) (pass : ℕ) (w : Known) → P pass w
    → ((j : ℕ) (v : Known) → j ≢ pass → get_elem? views j ≡ some v → P j v) → Each P (set views pass w)
each_set P views pass w mine others j v at =
    ⊎_elim (λ (x : (j ≡ pass) × (w ≡ v)). subst (λ (y : ℕ × Known). P y.0 y.1) (λ i. (sym x.0 i, x.1 i)) mine)
    (λ (x : (j ≢ pass) × (get_elem? views j ≡ some v)). others j v x.0 x.1) (at_set views pass j w v at)

-- the channel is made
pub begins : IsInOrder [] (known true true [] [] ∷ [])
begins = record {
  writer = 0;
  reader = 0;
  put = [];
  taken = [];
  parts = refl;
  numbers = All-nil IsInRange;
  count = omega arith;
  passes = each_set (Knows 0 0 [] []) (known true true [] []
      ∷ []) 0 (known true true [] []) (record { puts = λ _. (refl, refl); takes = λ _. (refl, refl) })
      (λ j v other at. absurd (other (at_end [] _ v j (λ x. some-ne-none v (sym x)) at)));
}

-- a frame is put
pub puts : (n pass : ℕ) (v : Known) (x : Frame) → v.puts ≡ true → length v.put < MAX_FRAMES → is_frame x ≡ true
    → Pushes IsInOrder n pass v x (λ w. w ≡ record v { put = v.put ++ x ∷ [] })
puts n pass v x may room sound queue views _ rule at = let w : Known = record v { put = v.put ++ x ∷ [] } in
    let mine = rule.passes pass v at in
    let few : length rule.put < MAX_FRAMES =
    subst (λ (l : List Frame). length l < MAX_FRAMES) (mine.puts may).1 room in (
      w,
      record {
        writer = rule.writer;
        reader = rule.reader;
        put = rule.put ++ x ∷ [];
        taken = rule.taken;
        parts = ap (λ l. l ++ x ∷ []) rule.parts ∙ append_assoc rule.taken queue (x ∷ []);
        numbers = All-push IsInRange rule.put x rule.numbers sound;
        count = omega (arith, length-append rule.put (x ∷ []));
        passes = each_set (Knows rule.writer rule.reader (rule.put ++ x ∷ []) rule.taken) views pass w
            (record { puts = λ _. ((mine.puts may).0, ap (λ l. l ++ x ∷ []) (mine.puts may).1); takes = mine.takes })
            (λ j u other e. record {
              puts = λ p.
                  absurd (other (((rule.passes j u e).puts p).0 ∙ sym (mine.puts may).0));
              takes =
                  (rule.passes j u e).takes;
            });
      },
      refl,
    )

-- the numbers of the frame after these are in range
after_in_range : (taken queue : List Frame) (x : Frame) → All IsInRange (taken ++ x ∷ queue) → IsInRange x
after_in_range [] queue x all = All-head IsInRange x queue all
after_in_range (y ∷ ys) queue x all = after_in_range ys queue x (All-drop IsInRange 1 (y ∷ (ys ++ x ∷ queue)) all)

-- a frame is taken
pub takes : (pass : ℕ) (v : Known) → v.takes ≡ true
    → Pops IsInOrder pass v (λ x w. (w ≡ record v { taken = v.taken ++ x ∷ [] }) × (is_frame x ≡ true)
    × (length v.taken < MAX_FRAMES))
takes pass v may x queue views rule at = let w : Known = record v { taken = v.taken ++ x ∷ [] } in
    let mine = rule.passes pass v at in
    let few : length rule.taken < MAX_FRAMES =
    omega (arith, ap length rule.parts, length-append rule.taken (x ∷ queue), rule.count) in (
      w,
      record {
        writer = rule.writer;
        reader = rule.reader;
        put = rule.put;
        taken = rule.taken ++ x ∷ [];
        parts = rule.parts ∙ sym (append_assoc rule.taken (x ∷ []) queue);
        numbers = rule.numbers;
        count = rule.count;
        passes = each_set (Knows rule.writer rule.reader rule.put (rule.taken ++ x ∷ [])) views pass w
            (record { puts = mine.puts; takes = λ _. ((mine.takes may).0, ap (λ l. l ++ x ∷ []) (mine.takes may).1) })
            (λ j u other e. record {
              puts = (rule.passes j u e).puts;
              takes = λ p. absurd (other (((rule.passes j u e).takes p).0 ∙ sym (mine.takes may).0));
            });
      },
      (
        refl,
        after_in_range rule.taken queue x
            (All-same IsInRange (rule.taken ++ x ∷ queue) rule.put (sym rule.parts) rule.numbers),
        subst (λ (l : List Frame). length l < MAX_FRAMES) (sym (mine.takes may).1) few,
      ),
    )

-- the reader's pass is split off
pub forks : (pass : ℕ) (v : Known) → v.puts ≡ true → v.takes ≡ true
    → Forks IsInOrder pass v (writer v.put) (reader v.taken)
forks pass v a b queue views rule at = let new : Known = reader v.taken in let mine = rule.passes pass v at in
    let vs : List Known = set views pass (writer v.put) in
    let Writes : ℕ → Known → Type 0 = λ j u. (u.puts ≡ true → (j ≡ rule.writer) × (u.put ≡ rule.put))
    × (u.takes ≢ true) in
    let writes : Each Writes vs =
    each_set Writes views pass (writer v.put) ((λ _. mine.puts a), λ p. true≢false (sym p))
    (λ j u other e. ((rule.passes j u e).puts, λ p. other (((rule.passes j u e).takes p).0 ∙ sym (mine.takes b).0))) in
    record {
      writer = rule.writer;
      reader = length vs;
      put = rule.put;
      taken = rule.taken;
      parts = rule.parts;
      numbers = rule.numbers;
      count = rule.count;
      passes = λ j u e. ⊎_elim (λ x. record { puts = (writes j u x).0; takes = λ p. absurd ((writes j u x).1 p) })
          (λ (is : new ≡ u). record {
            puts = λ p. absurd (true≢false (sym (ap (λ (y : Known). y.puts) is ∙ p)));
            takes = λ p. (
              at_end vs new u j (λ x. (writes j u x).1 p) e,
              ap (λ (y : Known). y.taken) (sym is) ∙ (mine.takes b).1,
            );
          })
          (at_snoc vs new u j e);
    }

-- the two passes are joined
pub merges : (pass : ℕ) (v : Known) (other : ℕ) (u : Known) → v.puts ≡ true → u.takes ≡ true
    → Merges IsInOrder pass v other u (known true true v.put u.taken) (known false false [] [])
merges pass v other u a b queue views rule at two at' = let both : Known = known true true v.put u.taken in
    let mine = rule.passes pass v at in let vs : List Known = set views pass both in
    let was : get_elem? views other ≡ some u =
    ⊎_elim (λ x. absurd (two x.0)) (λ x. x.1) (at_set views pass other both u at') in
    let theirs = (rule.passes other u was).takes b in
    let Now : ℕ → Known → Type 0 = λ j y. j ≢ other → Knows rule.writer pass rule.put rule.taken j y in
    let now : Each Now vs = each_set Now views pass both (λ _.
    record { puts = λ _. mine.puts a; takes = λ _. (refl, theirs.1) })
    (λ j y _ e apart. record {
      puts = (rule.passes j y e).puts;
      takes = λ p. absurd (apart (((rule.passes j y e).takes p).0 ∙ sym theirs.0));
    }) in
    record {
      writer = rule.writer;
      reader = pass;
      put = rule.put;
      taken = rule.taken;
      parts = rule.parts;
      numbers = rule.numbers;
      count = rule.count;
      passes = each_set (Knows rule.writer pass rule.put rule.taken) vs other (known false false [] [])
          (record { puts = λ p. absurd (true≢false (sym p)); takes = λ p. absurd (true≢false (sym p)) }) (λ j y apart e.
          now j y e apart);
    }

-- a pass that has done both knows what the queue holds
pub remains : (pass : ℕ) (v : Known) → v.puts ≡ true → v.takes ≡ true
    → Learns IsInOrder pass v (λ queue. v.taken ++ queue ≡ v.put)
remains pass v a b queue views rule at = let mine = rule.passes pass v at in
    ap (λ l. l ++ queue) (mine.takes b).1 ∙ sym rule.parts ∙ sym (mine.puts a).1
