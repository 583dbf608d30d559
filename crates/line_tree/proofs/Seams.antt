-- Two texts that are put together: the characters, the heights and the numbers of the parts.
use Rattle.std.proofs.Common.{◌≡◌, ℕ, zero, suc, ◌+◌, ◌-◌, ◌<◌, ◌≤◌, max, ◌⊎◌, inl, inr, List, [], ◌∷◌, ◌++◌, length, get_or, take, drop, refl, sym, ◌∙◌, ap, subst, arith, append_assoc, length-append}
use Rattle.std.proofs.Math.Nat.{eq-or-lt_of_le}
use Rattle.std.proofs.lemmas.List.{append-nil, take_more, take_all, length-take, length-drop, take-append-drop, take_rest}
use Rattle.line_tree.specs.Text.{TextView}
use Rattle.line_tree.specs.Parts.{after_break, joined, HaveHeight}
use Rattle.line_tree.specs.Places.{before_break, AddsTexts, AddsBoth, IsLevel}

after_break-append : (xs ys : List TextView) → after_break (xs ++ ys) ≡ after_break xs ++ after_break ys
after_break-append [] ys = refl
after_break-append (x ∷ xs) ys =
    ap (λ r. 10 ∷ (x.characters ++ r)) (after_break-append xs ys) ∙ ap (λ r. 10 ∷ r) (sym (append_assoc x.characters (after_break xs) (after_break ys)))

-- parts after parts
pub join_suffix : (xs ys : List TextView) → 0 < length xs → joined (xs ++ ys) ≡ joined xs ++ after_break ys
join_suffix [] ys h = absurd (omega arith)
join_suffix (x ∷ xs) ys h = ap (λ r. x.characters ++ r) (after_break-append xs ys) ∙ sym (append_assoc x.characters (after_break xs) (after_break ys))

pub after_break-some : (ys : List TextView) → 0 < length ys → after_break ys ≡ 10 ∷ joined ys
after_break-some [] h = absurd (omega arith)
after_break-some (y ∷ ys) h = refl

pub join_two : (xs ys : List TextView) → 0 < length xs → 0 < length ys → joined (xs ++ ys) ≡ joined xs ++ 10 ∷ joined ys
join_two xs ys h k = join_suffix xs ys h ∙ ap (λ r. joined xs ++ r) (after_break-some ys k)

pub join_prefix : (xs ys : List TextView) → 0 < length ys → joined (xs ++ ys) ≡ before_break xs ++ joined ys
join_prefix [] ys h = refl
join_prefix (x ∷ xs) ys h =
    ap (λ r. x.characters ++ r) (after_break-some (xs ++ ys) (omega (arith, length-append xs ys)) ∙ ap (λ r. 10 ∷ r) (join_prefix xs ys h))
    ∙ sym (append_assoc x.characters (10 ∷ before_break xs) (joined ys))

pub two_joined : (a b : TextView) → joined (a ∷ b ∷ []) ≡ a.characters ++ 10 ∷ b.characters
two_joined a b = ap (λ r. a.characters ++ 10 ∷ r) (append-nil b.characters)

pub one_joined : (a : TextView) → joined (a ∷ []) ≡ a.characters
one_joined a = append-nil a.characters

pub regroup : (l b f a : List ℕ) → (l ++ (b ++ f)) ++ a ≡ l ++ (b ++ (f ++ a))
regroup l b f a = append_assoc l (b ++ f) a ∙ ap (λ r. l ++ r) (append_assoc b f a)

-- what stands between two lists of parts takes the place of the last part of one and the first of the other
pub glue_joined : (prefix pieces suffix : List TextView) (last first : TextView) (between : List ℕ) → 0 < length pieces → joined pieces ≡ last.characters ++ (between ++ first.characters)
    → joined ((prefix ++ pieces) ++ suffix) ≡ joined (prefix ++ last ∷ []) ++ (between ++ joined (first ∷ suffix))
glue_joined prefix pieces suffix last first between some e =
    let rest = between ++ (first.characters ++ after_break suffix) in
    ap joined (append_assoc prefix pieces suffix)
    ∙ join_prefix prefix (pieces ++ suffix) (omega (arith, some, length-append pieces suffix))
    ∙ ap (λ r. before_break prefix ++ r) (join_suffix pieces suffix some ∙ ap (λ r. r ++ after_break suffix) e ∙ regroup last.characters between first.characters (after_break suffix))
    ∙ sym (append_assoc (before_break prefix) last.characters rest)
    ∙ ap (λ r. (before_break prefix ++ r) ++ rest) (sym (one_joined last))
    ∙ ap (λ r. r ++ rest) (sym (join_prefix prefix (last ∷ []) (omega arith)))

pub HaveHeight-append : (h : ℕ) (xs ys : List TextView) → HaveHeight h xs → HaveHeight h ys → HaveHeight h (xs ++ ys)
HaveHeight-append h [] ys a b = b
HaveHeight-append h (x ∷ xs) ys a b = (a.0, HaveHeight-append h xs ys a.1 b)

pub HaveHeight-take : (h n : ℕ) (xs : List TextView) → HaveHeight h xs → HaveHeight h (take n xs)
HaveHeight-take h zero xs a = tt
HaveHeight-take h (suc n) [] a = tt
HaveHeight-take h (suc n) (x ∷ xs) a = (a.0, HaveHeight-take h n xs a.1)

pub HaveHeight-drop : (h n : ℕ) (xs : List TextView) → HaveHeight h xs → HaveHeight h (drop n xs)
HaveHeight-drop h zero xs a = a
HaveHeight-drop h (suc n) [] a = tt
HaveHeight-drop h (suc n) (x ∷ xs) a = HaveHeight-drop h n xs a.1

pub height_of : (h : ℕ) (vs : List TextView) (i : ℕ) (v : TextView) → i < length vs → v ≡ get_or vs i v → HaveHeight h vs → v.height ≡ h
height_of h [] i v l e k = absurd (omega arith)
height_of h (w ∷ ws) zero v l e k = ap (λ (x : TextView). x.height) e ∙ k.0
height_of h (w ∷ ws) (suc i) v l e k = height_of h ws i v (omega arith) e k.1

single_at : (i : ℕ) (v text : TextView) → i < length (text ∷ []) → v ≡ get_or (text ∷ []) i v → v ≡ text
single_at zero v text l e = e
single_at (suc i) v text l e = absurd (omega arith)

-- what is known of one side: v is its part at i
pub record Side (text : TextView) (height : ℕ) (parts : List TextView) (v : TextView) : Type 0 where
  pub prefix : HaveHeight (height - 1) (take (length parts - 1) parts)
  pub suffix : HaveHeight (height - 1) (drop 1 parts)
  pub not_higher : v.height ≤ height - 1
  pub same : text.height ≡ height → v.height ≡ height - 1
  pub falls : v.height ≤ text.height
  pub falls_more : text.height ≡ height → v.height < text.height

pub side : (text : TextView) (height : ℕ) (parts : List TextView) (i : ℕ) (v : TextView) → 0 < height → text.height ≤ height → IsLevel text height parts → i < length parts → v ≡ get_or parts i v → Side text height parts v
side text height parts i v pos le level l e = sided (eq-or-lt_of_le le) where
  sided : (text.height ≡ height) ⊎ (text.height < height) → Side text height parts v
  sided (inl same) =
      let lower = level.lower same in
      let h : lower.0 ≡ height - 1 = omega (arith, lower.1) in
      let all : HaveHeight (height - 1) parts = subst (λ n. HaveHeight n parts) h lower.2 in
      let at = height_of (height - 1) parts i v l e all in
      record {
        prefix = HaveHeight-take (height - 1) (length parts - 1) parts all;
        suffix = HaveHeight-drop (height - 1) 1 parts all;
        not_higher = omega (arith, at);
        same = λ _. at;
        falls = omega (arith, at, same);
        falls_more = λ _. omega (arith, at, same, pos);
      }
  sided (inr lower) =
      let alone = level.alone lower in
      let it : v ≡ text = single_at i v text (subst (λ ps. i < length ps) alone l) (subst (λ ps. v ≡ get_or ps i v) alone e) in
      let height_is : v.height ≡ text.height = ap (λ (x : TextView). x.height) it in
      record {
        prefix = subst (λ ps. HaveHeight (height - 1) (take (length ps - 1) ps)) (sym alone) tt;
        suffix = subst (λ ps. HaveHeight (height - 1) (drop 1 ps)) (sym alone) tt;
        not_higher = omega (arith, height_is, lower);
        same = λ s. absurd (omega (arith, s, lower));
        falls = omega (arith, height_is);
        falls_more = λ s. absurd (omega (arith, s, lower));
      }

pub split_parts : (parts : List TextView) (k : ℕ) → 0 < k → k < length parts → joined parts ≡ joined (take k parts) ++ 10 ∷ joined (drop k parts)
split_parts parts k pos l =
    ap joined (sym (take-append-drop k parts))
    ∙ join_two (take k parts) (drop k parts) (omega (arith, length-take k parts)) (omega (arith, length-drop k parts))

pub part_lengths : (parts : List TextView) (k : ℕ) → 0 < k → k < length parts → length (joined parts) ≡ length (joined (take k parts)) + 1 + length (joined (drop k parts))
part_lengths parts k pos l =
    ap length (split_parts parts k pos l) ∙ omega (arith, length-append (joined (take k parts)) (10 ∷ joined (drop k parts)))

pub adds_two : (h : ℕ) (cs : List ℕ) (old mid new : List TextView) (f b : TextView) → f.height ≡ h → b.height ≡ h → cs ≡ f.characters ++ 10 ∷ b.characters
    → mid ≡ old ++ f ∷ [] → new ≡ mid ++ b ∷ [] → AddsTexts h cs old new
adds_two h cs old mid new f b fh bh e one two = record {
  texts = f ∷ b ∷ [];
  added = two ∙ ap (λ r. r ++ b ∷ []) one ∙ append_assoc old (f ∷ []) (b ∷ []);
  some = omega arith;
  few = omega arith;
  same = (fh, (bh, tt));
  joins = two_joined f b ∙ sym e;
}

-- What holds where the last part of one text and the first part of another are put together.
pub record Seam (left right : TextView) (height : ℕ) (lefts rights : List TextView) (last first : TextView) : Type 0 where
  pub prefix : HaveHeight (height - 1) (take (length lefts - 1) lefts)
  pub suffix : HaveHeight (height - 1) (drop 1 rights)
  pub middle : max last.height first.height ≡ height - 1
  pub falls : last.height + first.height < left.height + right.height
  pub short : length last.characters + length first.characters ≤ length left.characters + length right.characters
  pub whole : (pieces : List TextView) (between : List ℕ) → 0 < length pieces → joined pieces ≡ last.characters ++ (between ++ first.characters)
      → joined ((take (length lefts - 1) lefts ++ pieces) ++ drop 1 rights) ≡ left.characters ++ (between ++ right.characters)

all_but_last : (xs : List TextView) (last : TextView) → 0 < length xs → last ≡ get_or xs (length xs - 1) last → take (length xs - 1) xs ++ last ∷ [] ≡ xs
all_but_last xs last some e =
    ap (λ v. take (length xs - 1) xs ++ v ∷ []) e
    ∙ sym (take_more xs (length xs - 1) last (omega arith))
    ∙ take_all (length xs - 1 + 1) xs (omega arith)

all_but_first : (xs : List TextView) (first : TextView) → 0 < length xs → first ≡ get_or xs 0 first → first ∷ drop 1 xs ≡ xs
all_but_first [] first some e = absurd (omega arith)
all_but_first (x ∷ xs) first some e = ap (λ v. v ∷ xs) e

last_short : (prefix : List TextView) (last : TextView) → length last.characters ≤ length (joined (prefix ++ last ∷ []))
last_short prefix last =
    omega (arith, ap length (join_prefix prefix (last ∷ []) (omega arith)), length-append (before_break prefix) (joined (last ∷ [])), ap length (one_joined last))

first_short : (first : TextView) (suffix : List TextView) → length first.characters ≤ length (joined (first ∷ suffix))
first_short first suffix = omega (arith, length-append first.characters (after_break suffix))

higher_is : (a b h : ℕ) → h ≡ max a b → (a ≡ h) ⊎ (b ≡ h)
higher_is a b h is = cases (eq-or-lt_of_le (let le : a ≤ h = omega arith in le))
  where
    cases : (a ≡ h) ⊎ (a < h) → (a ≡ h) ⊎ (b ≡ h)
    cases (inl e) = inl e
    cases (inr l) = inr (omega arith)

middle_is : (a b h x y : ℕ) → h ≡ max a b → (a ≡ h → x ≡ h - 1) → (b ≡ h → y ≡ h - 1) → x ≤ h - 1 → y ≤ h - 1 → max x y ≡ h - 1
middle_is a b h x y is one two lx ly = cases (higher_is a b h is)
  where
    cases : (a ≡ h) ⊎ (b ≡ h) → max x y ≡ h - 1
    cases (inl e) = omega (arith, one e)
    cases (inr e) = omega (arith, two e)

sum_falls : (a b h x y : ℕ) → h ≡ max a b → x ≤ a → y ≤ b → (a ≡ h → x < a) → (b ≡ h → y < b) → x + y < a + b
sum_falls a b h x y is lx ly one two = cases (higher_is a b h is)
  where
    cases : (a ≡ h) ⊎ (b ≡ h) → x + y < a + b
    cases (inl e) = omega (arith, one e)
    cases (inr e) = omega (arith, two e)

pub seam : (left right : TextView) (height : ℕ) (lefts rights : List TextView) (last first : TextView) → height ≡ max left.height right.height → 0 < height
    → IsLevel left height lefts → IsLevel right height rights → last ≡ get_or lefts (length lefts - 1) last → first ≡ get_or rights 0 first
    → Seam left right height lefts rights last first
seam left right height lefts rights last first is pos one two last_is first_is =
    let l = side left height lefts (length lefts - 1) last pos (omega arith) one (omega (arith, one.some)) last_is in
    let r = side right height rights 0 first pos (omega arith) two (two.some) first_is in
    let prefix = take (length lefts - 1) lefts in
    let suffix = drop 1 rights in
    let left_is : joined (prefix ++ last ∷ []) ≡ left.characters = ap joined (all_but_last lefts last one.some last_is) ∙ one.joins in
    let right_is : joined (first ∷ suffix) ≡ right.characters = ap joined (all_but_first rights first two.some first_is) ∙ two.joins in
    record {
      prefix = l.prefix;
      suffix = r.suffix;
      middle = middle_is left.height right.height height last.height first.height is l.same r.same l.not_higher r.not_higher;
      falls = sum_falls left.height right.height height last.height first.height is l.falls r.falls l.falls_more r.falls_more;
      short = omega (arith, last_short prefix last, first_short first suffix, ap length left_is, ap length right_is);
      whole = λ pieces between some e.
          glue_joined prefix pieces suffix last first between some e ∙ ap (λ cs. cs ++ (between ++ joined (first ∷ suffix))) left_is ∙ ap (λ cs. left.characters ++ (between ++ cs)) right_is;
    }

-- The parts of the new text: those before the seam, the pieces at it, and those after it.
pub record Sewn (left : TextView) (between : List ℕ) (right : TextView) (height : ℕ) (new : List TextView) : Type 0 where
  pub same : HaveHeight (height - 1) new
  pub whole : joined new ≡ left.characters ++ (between ++ right.characters)

pub sewn : (left : TextView) (between : List ℕ) (right : TextView) (height : ℕ) (lefts rights : List TextView) (last first : TextView) (start before after new : List TextView)
    → Seam left right height lefts rights last first
    → start ≡ [] → before ≡ start ++ take (length lefts - 1) lefts → AddsBoth last between first before after
    → new ≡ after ++ take (length rights - 1) (drop 1 rights) → Sewn left between right height new
sewn left between right height lefts rights last first start before after new s start_is before_is adds new_is =
    let e : new ≡ (take (length lefts - 1) lefts ++ adds.texts) ++ drop 1 rights =
    new_is ∙ ap (λ r. after ++ r) (take_rest rights 1) ∙ ap (λ r. r ++ drop 1 rights) (adds.added ∙ ap (λ r. r ++ adds.texts) (before_is ∙ ap (λ r. r ++ take (length lefts - 1) lefts) start_is)) in
    record {
      same = subst (λ r. HaveHeight (height - 1) r) (sym e)
          (HaveHeight-append (height - 1) (take (length lefts - 1) lefts ++ adds.texts) (drop 1 rights)
          (HaveHeight-append (height - 1) (take (length lefts - 1) lefts) adds.texts s.prefix (subst (λ n. HaveHeight n adds.texts) s.middle adds.same)) s.suffix);
      whole = ap joined e ∙ s.whole adds.texts between adds.some adds.joins;
    }

pub adds_same : (h k : ℕ) (cs ds : List ℕ) (old new : List TextView) → h ≡ k → cs ≡ ds → AddsTexts h cs old new → AddsTexts k ds old new
adds_same h k cs ds old new e f adds = record {
  texts = adds.texts;
  added = adds.added;
  some = adds.some;
  few = adds.few;
  same = subst (λ n. HaveHeight n adds.texts) e adds.same;
  joins = adds.joins ∙ f;
}
