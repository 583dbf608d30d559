-- Parts of which one gave way to one or two texts that have other characters in place of some of its own.
use Rattle.std.proofs.Common.{◌≡◌, ℕ, ◌+◌, ◌-◌, ◌≤◌, List, [], ◌++◌, length, get_or, take, drop, sym, ◌∙◌, ap, subst, arith, append_assoc, length-append}
use Rattle.std.proofs.lemmas.List.{length-take, length-drop, take_rest, get_or_read}
use Rattle.line_tree.specs.Text.{TextView, replaced}
use Rattle.line_tree.specs.Parts.{after_break, joined, HaveHeight}
use Rattle.line_tree.specs.Places.{before_break, part_of, PartHoldsPlace, AddsTexts}
use Rattle.line_tree.proofs.Seams.{join_prefix, join_suffix, regroup, HaveHeight-append, HaveHeight-take, HaveHeight-drop, height_of}
use Rattle.line_tree.proofs.PartPlaces.{split_there}

pub length-replaced : (from to : ℕ) (lines cs : List ℕ) → from ≤ to → to ≤ length cs → length (replaced from to lines cs) ≡ length cs - (to - from) + length lines
length-replaced from to lines cs order within =
    omega (arith, length-append (take from cs) (lines ++ drop to cs), length-append lines (drop to cs), length-take from cs, length-drop to cs)

-- a later place in the same part
later_place : (parts : List TextView) (from to index start breaks : ℕ) (v : TextView) → PartHoldsPlace parts from index start breaks → v ≡ get_or parts index v → from ≤ to → to - start ≤ length v.characters
    → PartHoldsPlace parts to index start breaks
later_place parts from to index start breaks v p e order within =
    let there : part_of parts index ≡ v = sym (get_or_read parts index v p.is.in_range e _) in
    record {
      is = p.is;
      starts = omega (arith, p.starts);
      ends = omega (arith, p.starts, ap (λ (w : TextView). length w.characters) there);
    }

-- the part with other characters in place of some leaves a text that fits, where the whole does
pub part_fits_too : (parts : List TextView) (from to index start breaks n : ℕ) (v : TextView) → PartHoldsPlace parts from index start breaks → v ≡ get_or parts index v → from ≤ to
    → length v.characters - (to - start - (from - start)) + n ≤ length (joined parts) - (to - from) + n
part_fits_too parts from to index start breaks n v p e order =
    omega (arith, p.starts, (split_there parts from index start breaks v p e).3)

-- What holds of the new parts.
pub record Edited (parts : List TextView) (height from to : ℕ) (lines : List ℕ) (new : List TextView) : Type 0 where
  pub same : HaveHeight height new
  pub whole : joined new ≡ replaced from to lines (joined parts)

pub edited : (parts : List TextView) (height from to index start breaks : ℕ) (lines : List ℕ) (v : TextView) (none before after new : List TextView)
    → HaveHeight height parts → PartHoldsPlace parts from index start breaks → v ≡ get_or parts index v → from ≤ to → to - start ≤ length v.characters
    → none ≡ [] → before ≡ none ++ take index parts → AddsTexts v.height (replaced (from - start) (to - start) lines v.characters) before after
    → new ≡ after ++ take (length parts - (index + 1)) (drop (index + 1) parts) → Edited parts height from to lines new
edited parts height from to index start breaks lines v none before after new all p e order within none_is before_is adds new_is =
    let first = take index parts in
    let last = drop (index + 1) parts in
    let texts = adds.texts in
    let a = take (from - start) v.characters in
    let b = drop (to - start) v.characters in
    let one = split_there parts from index start breaks v p e in
    let other = split_there parts to index start breaks v (later_place parts from to index start breaks v p e order within) e in
    let are : new ≡ (first ++ texts) ++ last =
    new_is ∙ ap (λ r. after ++ r) (take_rest parts (index + 1)) ∙ ap (λ r. r ++ last) (adds.added ∙ ap (λ r. r ++ texts) (before_is ∙ ap (λ r. r ++ first) none_is)) in
    let height_is : v.height ≡ height = height_of height parts index v p.is.in_range e all in
    record {
      same = subst (HaveHeight height) (sym are)
          (HaveHeight-append height (first ++ texts) last
          (HaveHeight-append height first texts (HaveHeight-take height index parts all) (subst (λ h. HaveHeight h texts) height_is adds.same)) (HaveHeight-drop height (index + 1) parts all));
      whole =
          ap joined (are ∙ append_assoc first texts last)
          ∙ join_prefix first (texts ++ last) (omega (arith, adds.some, length-append texts last))
          ∙ ap (λ r. before_break first ++ r) (join_suffix texts last adds.some ∙ ap (λ r. r ++ after_break last) adds.joins ∙ regroup a lines b (after_break last))
          ∙ sym (append_assoc (before_break first) a (lines ++ (b ++ after_break last)))
          ∙ ap (λ r. r ++ (lines ++ (b ++ after_break last))) (sym one.0)
          ∙ ap (λ r. take from (joined parts) ++ (lines ++ r)) (sym other.1);
    }
