-- Reading one line: what was scanned so far.
use Rattle.std.proofs.Common.{◌≡◌, ℕ, ◌-◌, ◌+◌, ◌<◌, ◌≤◌, ◌⊎◌, inl, inr, Bool, true, false, List, [], ◌∷◌, ◌++◌, length, take, drop, Option, Some, None, IfSome, Vec, MatchBool, refl, sym, ap, subst, ◌∙◌, append_assoc, arith}
use Rattle.std.specs.declared.alloc.Global.{Global}
use Rattle.std.proofs.lemmas.List.{drop-drop, drop-take, take-take, take-append-drop, length-take, length-drop, length-append, append-nil, take_all, nil_from_length}
use Rattle.cm_outside.specs.Lines.{HasNoBreak}
use Rattle.cm_outside.specs.declared.line_reader.Filled.TheVariants.{More, Ended, Failing, Past}
use Rattle.cm_outside.specs.declared.reading.Reading.{Reading}
use Rattle.cm_outside.specs.declared.reading.Reading.TheVariants.{Line, TooLong, End, Failed, Budget}
use Rattle.cm_outside.specs.Progress.{Progress, pending, left_of, IsNextLine, Reads, Advances, TakesOf, AskedLate, ReadsLate, read_room}
use Rattle.cm_outside.specs.Filling.{IsLineOrTooLong, SameCounts, CutsLine, TakesRest, Fills, FillsFrom}
use Rattle.cm_outside.proofs.Breaks.{take_prefix}

take_sum : (m n : ℕ) (xs : List ℕ) → take (m + n) xs ≡ take m xs ++ take n (drop m xs)
take_sum m n xs = sym (take-append-drop m (take (m + n) xs)) ∙ ap (λ a. a ++ drop m (take (m + n) xs)) (take-take m (m + n) xs (omega arith)) ∙ ap (λ b. take m xs ++ b) (drop-take m n xs)

no_break_append : (p q : List ℕ) → HasNoBreak p → HasNoBreak q → HasNoBreak (p ++ q)
no_break_append [] q h k = k
no_break_append (x ∷ p) q h k = (h.0, no_break_append p q h.1 k)

-- ---- what the source has left

pub then_takes : (old now new : Progress) (told now_told new_told : Option (List ℕ)) → old.taken ≤ now.taken → now.taken ≤ new.taken
    → IfSome told (λ i. TakesOf old now i now_told) → IfSome now_told (λ i. TakesOf now new i new_told) → IfSome told (λ i. TakesOf old new i new_told)
then_takes old now new None now_told new_told a b first second = tt
then_takes old now new (Some input) now_told new_told a b first second =
    let next : TakesOf now new (left_of old now input) new_told = subst (λ t. IfSome t (λ i. TakesOf now new i new_told)) first.left second in
    let total : (now.taken - old.taken) + (new.taken - now.taken) ≡ new.taken - old.taken = omega arith in
    record {
      fits = omega (arith, first.fits, next.fits, length-drop (now.taken - old.taken) input);
      left = next.left ∙ ap Some (drop-drop (new.taken - now.taken) (now.taken - old.taken) input ∙ ap (λ n. drop n input) total);
    }

same_takes : (old now new : Progress) (told t : Option (List ℕ)) → new.taken ≡ now.taken → IfSome told (λ i. TakesOf old now i t) → IfSome told (λ i. TakesOf old new i t)
same_takes old now new None t e h = tt
same_takes old now new (Some input) t e h = record { fits = omega (arith, h.fits); left = h.left ∙ ap (λ n. Some (drop (n - old.taken) input)) (sym e) }

-- ---- the loop

pub record Scanned (kept : List ℕ) (old now : Progress) (told now_told : Option (List ℕ)) : Type 0 where
  pub part : List ℕ
  pub one : HasNoBreak part
  pub prefix : kept ≡ take 1048577 part
  pub len : length part + length now.rest ≡ length old.rest + (now.taken - old.taken)
  pub limit : now.limit ≡ old.limit
  pub later : old.taken ≤ now.taken
  pub within : now.taken ≤ now.limit
  pub goes_on : now.ended ≡ false
  pub start : old.ended ≡ false
  pub left : IfSome told (λ input. TakesOf old now input now_told)
  pub bytes : IfSome told (λ input. part ++ now.rest ≡ pending old now input)

pub begins : (old : Progress) (told : Option (List ℕ)) → old.taken ≤ old.limit → old.ended ≡ false → Scanned [] old old told told
begins old told within start = record {
  part = [];
  one = tt;
  prefix = refl;
  len = omega arith;
  limit = refl;
  later = omega arith;
  within = within;
  goes_on = start;
  start = start;
  left = left told;
  bytes = bytes told;
} where
  none : old.taken - old.taken ≡ 0
  none = omega arith

  left : (o : Option (List ℕ)) → IfSome o (λ i. TakesOf old old i o)
  left None = tt
  left (Some input) = record { fits = omega arith; left = ap (λ n. Some (drop n input)) (sym none) }

  bytes : (o : Option (List ℕ)) → IfSome o (λ i. [] ++ old.rest ≡ pending old old i)
  bytes None = tt
  bytes (Some input) = sym (append-nil old.rest) ∙ ap (λ n. old.rest ++ take n input) (sym none)

pub cut_none : (kept new_kept : List ℕ) (old now new : Progress) (told t : Option (List ℕ)) → Scanned kept old now told t → SameCounts now new → TakesRest kept new_kept now.rest new.rest → Scanned new_kept old new told t
cut_none kept new_kept old now new told t s same cut = record {
  part = s.part ++ now.rest;
  one = no_break_append s.part now.rest s.one cut.one;
  prefix = cut.kept ∙ ap (λ k. take 1048577 (k ++ now.rest)) s.prefix ∙ take_prefix 1048577 s.part now.rest;
  len = omega (arith, s.len, length-append s.part now.rest, ap length cut.none, same.taken);
  limit = same.limit ∙ s.limit;
  later = omega (arith, s.later, same.taken);
  within = omega (arith, s.within, same.taken, same.limit);
  goes_on = same.ended ∙ s.goes_on;
  start = s.start;
  left = same_takes old now new told t same.taken s.left;
  bytes = bytes told s.bytes;
} where
  bytes : (o : Option (List ℕ)) → IfSome o (λ i. s.part ++ now.rest ≡ pending old now i) → IfSome o (λ i. (s.part ++ now.rest) ++ new.rest ≡ pending old new i)
  bytes None h = tt
  bytes (Some input) h = ap (λ r. (s.part ++ now.rest) ++ r) cut.none ∙ append-nil (s.part ++ now.rest) ∙ h ∙ ap (λ n. old.rest ++ take (n - old.taken) input) (sym same.taken)

pub filled : (kept : List ℕ) (old now new : Progress) (told t u : Option (List ℕ)) → Scanned kept old now told t → now.rest ≡ [] → new.limit ≡ now.limit → Fills More now new
    → IfSome t (λ i. TakesOf now new i u) → IfSome t (FillsFrom More now new) → Scanned kept old new told u
filled kept old now new told t u s empty limit fills takes from = record {
  part = s.part;
  one = s.one;
  prefix = s.prefix;
  len = omega (arith, s.len, ap length empty, fills.0, fills.3, s.later);
  limit = limit ∙ s.limit;
  later = omega (arith, s.later, fills.0);
  within = omega (arith, fills.1, limit);
  goes_on = fills.2 ∙ s.goes_on;
  start = s.start;
  left = then_takes old now new told t u s.later (omega (arith, fills.0)) s.left takes;
  bytes = bytes told s.left s.bytes;
} where
  total : (now.taken - old.taken) + (new.taken - now.taken) ≡ new.taken - old.taken
  total = omega (arith, s.later, fills.0)

  bytes : (o : Option (List ℕ)) → IfSome o (λ i. TakesOf old now i t) → IfSome o (λ i. s.part ++ now.rest ≡ pending old now i) → IfSome o (λ i. s.part ++ new.rest ≡ pending old new i)
  bytes None l h = tt
  bytes (Some input) l h =
      let more : new.rest ≡ take (new.taken - now.taken) (left_of old now input) = subst (λ o. IfSome o (FillsFrom More now new)) l.left from in
      let before : s.part ≡ old.rest ++ take (now.taken - old.taken) input = sym (append-nil s.part) ∙ ap (λ r. s.part ++ r) (sym empty) ∙ h in
      ap (λ p. p ++ new.rest) before ∙ append_assoc old.rest (take (now.taken - old.taken) input) new.rest
      ∙ ap (λ r. old.rest ++ r) (ap (λ r. take (now.taken - old.taken) input ++ r) more ∙ sym (take_sum (now.taken - old.taken) (new.taken - now.taken) input) ∙ ap (λ n. take n input) total)

-- ---- the exits

when_true : (P Q : Type 0) (b : Bool) → b ≡ true → MatchBool b P Q → P
when_true P Q true e p = p
when_true P Q false e q = absurd (let f : ⊥ = cc in f)

when_false : (P Q : Type 0) (b : Bool) → b ≡ false → MatchBool b P Q → Q
when_false P Q true e p = absurd (let f : ⊥ = cc in f)
when_false P Q false e q = q

-- all that stood ready was scanned
pub rest_scanned : (kept new_kept : List ℕ) (old now new : Progress) (told t : Option (List ℕ)) (b : Bool) → Scanned kept old now told t → SameCounts now new
    → MatchBool b (CutsLine kept new_kept now.rest new.rest) (TakesRest kept new_kept now.rest new.rest) → b ≡ false → Scanned new_kept old new told t × (new.rest ≡ []) × HasNoBreak now.rest
rest_scanned kept new_kept old now new told t b s same cut e =
    let c = when_false _ _ b e cut in (cut_none kept new_kept old now new told t s same c, c.none, c.one)

answered : (r : Reading) (kept : Vec ℕ Global) (line : List ℕ) (old new : Progress) (input : List ℕ) → kept.items ≡ take 1048577 line → IsLineOrTooLong r kept → IsNextLine line old new input → Reads r old new input
answered (Line bytes) kept line old new input prefix is next =
    let short : length line ≤ 1048577 = omega (arith, is.0, ap length prefix, length-take 1048577 line) in
    let same : bytes.items ≡ line = ap (λ (v : Vec ℕ Global). v.items) is.1 ∙ prefix ∙ take_all 1048577 line short in
    (omega (arith, is.0, ap (λ (v : Vec ℕ Global). length v.items) is.1), subst (λ l. IsNextLine l old new input) (sym same) next)
answered TooLong kept line old new input prefix is next = (line, omega (arith, is, ap length prefix, length-take 1048577 line), next)
answered End kept line old new input prefix is next = absurd is
answered Failed kept line old new input prefix is next = absurd is
answered Budget kept line old new input prefix is next = absurd is

pub at_break : (r : Reading) (kept : List ℕ) (new_kept : Vec ℕ Global) (old now new : Progress) (told t : Option (List ℕ)) (b : Bool) → Scanned kept old now told t → SameCounts now new
    → MatchBool b (CutsLine kept new_kept.items now.rest new.rest) (TakesRest kept new_kept.items now.rest new.rest) → b ≡ true → IsLineOrTooLong r new_kept → IfSome told (Reads r old new)
at_break r kept new_kept old now new told t b s same either e is = reads told s.bytes where
  reads : (o : Option (List ℕ)) → IfSome o (λ i. s.part ++ now.rest ≡ pending old now i) → IfSome o (Reads r old new)
  reads None h = tt
  reads (Some input) h =
      let cut = when_true _ _ b e either in
      let prefix : new_kept.items ≡ take 1048577 (s.part ++ cut.part) = cut.kept ∙ ap (λ k. take 1048577 (k ++ cut.part)) s.prefix ∙ take_prefix 1048577 s.part cut.part in
      let bytes : pending old new input ≡ (s.part ++ cut.part) ++ 10 ∷ new.rest = ap (λ n. old.rest ++ take (n - old.taken) input) same.taken ∙ sym h ∙ ap (λ r. s.part ++ r) cut.bytes ∙ sym (append_assoc s.part cut.part (10 ∷ new.rest)) in
      answered r new_kept (s.part ++ cut.part) old new input prefix is
      (record { start = s.start; one = no_break_append s.part cut.part s.one cut.one; place = inl (record { bytes = bytes; goes_on = same.ended ∙ s.goes_on }) })

pub same_left : (old now new : Progress) (kept : List ℕ) (told t : Option (List ℕ)) → Scanned kept old now told t → SameCounts now new → IfSome told (λ i. TakesOf old new i t)
same_left old now new kept told t s same = same_takes old now new told t same.taken s.left

pub at_end : (r : Reading) (kept : Vec ℕ Global) (old now new : Progress) (told t : Option (List ℕ)) → Scanned kept.items old now told t → now.rest ≡ [] → Fills Ended now new
    → IfSome t (FillsFrom Ended now new) → 0 < length kept.items → IsLineOrTooLong r kept → IfSome told (Reads r old new)
at_end r kept old now new told t s empty fills from some is = reads told s.left s.bytes where
  reads : (o : Option (List ℕ)) → IfSome o (λ i. TakesOf old now i t) → IfSome o (λ i. s.part ++ now.rest ≡ pending old now i) → IfSome o (Reads r old new)
  reads None l h = tt
  reads (Some input) l h =
      let no_left : left_of old now input ≡ [] = subst (λ o. IfSome o (FillsFrom Ended now new)) l.left from in
      let bytes : pending old new input ≡ s.part = ap (λ n. old.rest ++ take (n - old.taken) input) fills.0 ∙ sym h ∙ ap (λ r. s.part ++ r) empty ∙ append-nil s.part in
      answered r kept s.part old new input s.prefix is (record {
        start = s.start;
        one = s.one;
        place = inr (record {
          bytes = bytes;
          some = omega (arith, some, ap length s.prefix, length-take 1048577 s.part);
          no_rest = fills.2;
          no_left = ap (λ n. drop (n - old.taken) input) fills.0 ∙ no_left;
          ended = fills.1;
        });
      })

pub at_nothing : (kept : List ℕ) (old now new : Progress) (told t : Option (List ℕ)) → Scanned kept old now told t → now.rest ≡ [] → Fills Ended now new
    → IfSome t (FillsFrom Ended now new) → length kept ≡ 0 → IfSome told (Reads End old new)
at_nothing kept old now new told t s empty fills from none = reads told s.left s.bytes where
  reads : (o : Option (List ℕ)) → IfSome o (λ i. TakesOf old now i t) → IfSome o (λ i. s.part ++ now.rest ≡ pending old now i) → IfSome o (Reads End old new)
  reads None l h = tt
  reads (Some input) l h = λ _.
      let no_left : left_of old now input ≡ [] = subst (λ o. IfSome o (FillsFrom Ended now new)) l.left from in
      let no_part : length s.part ≡ 0 = omega (arith, none, ap length s.prefix, length-take 1048577 s.part) in
      let lengths : length s.part + length now.rest ≡ length old.rest + length (take (now.taken - old.taken) input) = sym (length-append s.part now.rest) ∙ ap length h ∙ length-append old.rest (take (now.taken - old.taken) input) in
      let no_rest : length old.rest ≡ 0 = omega (arith, lengths, no_part, ap length empty) in
      let no_input : length input ≡ 0 = omega (arith, lengths, no_part, ap length empty, ap length no_left, length-take (now.taken - old.taken) input, length-drop (now.taken - old.taken) input) in
      (nil_from_length old.rest no_rest, nil_from_length input no_input)

pub at_failure : (kept : List ℕ) (old now new : Progress) (told t : Option (List ℕ)) → Scanned kept old now told t → now.rest ≡ [] → Fills Failing now new → IfSome told (Reads Failed old new)
at_failure kept old now new told t s empty fills = reads told s.bytes where
  reads : (o : Option (List ℕ)) → IfSome o (λ i. s.part ++ now.rest ≡ pending old now i) → IfSome o (Reads Failed old new)
  reads None h = tt
  reads (Some input) h =
      let bytes : s.part ≡ pending old new input = sym (append-nil s.part) ∙ ap (λ r. s.part ++ r) (sym empty) ∙ h ∙ ap (λ n. old.rest ++ take (n - old.taken) input) (sym fills.0) in
      (subst HasNoBreak bytes s.one, s.start)

pub at_budget : (kept : List ℕ) (old now new : Progress) (told t : Option (List ℕ)) → Scanned kept old now told t → now.rest ≡ [] → Fills Past now new → IfSome told (Reads Budget old new)
at_budget kept old now new told t s empty fills = reads told s.bytes where
  reads : (o : Option (List ℕ)) → IfSome o (λ i. s.part ++ now.rest ≡ pending old now i) → IfSome o (Reads Budget old new)
  reads None h = tt
  reads (Some input) h =
      let full : now.taken ≡ old.limit = fills.0 ∙ s.limit in
      let bytes : s.part ≡ old.rest ++ take (old.limit - old.taken) input = sym (append-nil s.part) ∙ ap (λ r. s.part ++ r) (sym empty) ∙ h ∙ ap (λ n. old.rest ++ take (n - old.taken) input) full in
      (subst HasNoBreak bytes s.one, s.start)

pub end_advances : (r : Reading) (kept : List ℕ) (old now new : Progress) (told t : Option (List ℕ)) → Scanned kept old now told t → now.rest ≡ [] → Fills Ended now new → new.limit ≡ now.limit → 0 < length kept → Advances r old new
end_advances (Line bytes) kept old now new told t s empty fills limit some = omega (arith, some, s.len, s.limit, s.later, s.within, ap length s.prefix, length-take 1048577 s.part, ap length empty, fills.0, ap length fills.2, limit)
end_advances TooLong kept old now new told t s empty fills limit some = omega (arith, some, s.len, s.limit, s.later, s.within, ap length s.prefix, length-take 1048577 s.part, ap length empty, fills.0, ap length fills.2, limit)
end_advances End kept old now new told t s empty fills limit some = tt
end_advances Failed kept old now new told t s empty fills limit some = tt
end_advances Budget kept old now new told t s empty fills limit some = tt

-- ---- when a read is made

-- nothing was read yet, and what stood ready first stands so still; or the source was last read where no whole line was left
abbrev pub Late : {S : Type 0} → (given asked : S → ℕ) → (old now : Progress) → (source source_now : S) → Option (List ℕ) → Type 0
Late given asked old now source source_now told = ((now.rest ≡ old.rest) × (source_now ≡ source)) ⊎ AskedLate given asked old source source_now told

-- before the next read
pub late_before : {S : Type 0} (given asked : S → ℕ) (old now : Progress) (source source_now : S) (told : Option (List ℕ)) → Late given asked old now source source_now told → ReadsLate given asked old source source_now told
late_before given asked old now source source_now told (inl h) = inl h.1
late_before given asked old now source source_now told (inr h) = inr h

-- all that stood ready has no break, so a read is made
first_without : {S : Type 0} (given asked : S → ℕ) (old now : Progress) (source source_now : S) (told : Option (List ℕ)) → Late given asked old now source source_now told → HasNoBreak now.rest → HasNoBreak old.rest
first_without given asked old now source source_now told (inl h) one = subst HasNoBreak h.0 one
first_without given asked old now source source_now told (inr h) one = h.ready

-- what a read finds and leaves
pub record IsRead {S : Type 0} (given asked : S → ℕ) (old now : Progress) (source source_now source_new : S) : Type 0 where
  pub counted : given source_now + old.taken ≡ given source + now.taken
  pub last : asked source_new ≡ given source_now
  pub once : given source_new ≤ asked source_new + read_room

pub late_after : {S : Type 0} (given asked : S → ℕ) (kept : List ℕ) (old first now : Progress) (source source_now source_new : S) (told t : Option (List ℕ)) → Scanned kept old now told t × (now.rest ≡ []) × HasNoBreak first.rest
    → Late given asked old first source source_now told → IsRead given asked old now source source_now source_new → AskedLate given asked old source source_new told
late_after given asked kept old first now source source_now source_new told t s late read = record {
  ready = first_without given asked old first source source_now told late s.2;
  taken = at told s.0.bytes;
  within = read.once;
} where
  count : asked source_new - given source ≡ now.taken - old.taken
  count = omega (arith, read.counted, read.last, s.0.later)

  at : (o : Option (List ℕ)) → IfSome o (λ i. s.0.part ++ now.rest ≡ pending old now i) → IfSome o (λ i. HasNoBreak (old.rest ++ take (asked source_new - given source) i))
  at None h = tt
  at (Some input) h = subst HasNoBreak (sym (append-nil s.0.part) ∙ ap (λ r. s.0.part ++ r) (sym s.1) ∙ h ∙ ap (λ n. old.rest ++ take n input) (sym count)) s.0.one
