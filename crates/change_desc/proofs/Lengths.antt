-- Composing and mapping sets, and then looking at lengths alone, is composing and mapping their lengths.
use Rattle.std.proofs.Common.{◌≡◌, ℕ, zero, suc, ◌+◌, Bool, true, false, cond, ◌&&◌, List, [], ◌∷◌, ◌++◌, map, replicate, length, refl, ap, ◌∙◌, length-append}
use Rattle.std.proofs.lemmas.List.{map-append}
use Rattle.change_desc.specs.declared.section.Section.{Section}
use Rattle.change_desc.specs.declared.section.Section.TheVariants.{Keep, Replace}
use Rattle.change_desc.specs.Sections.{Texts, spelled, counted, is_blank, kind, joins, joined, put, normal, measured, lengths}
use Rattle.change_desc.specs.Columns.{Row, last, next, Fate, stays, leaves, follows, Origin, old, new, more, in_front, times, mores, spell, along_old, along_new}
use Rattle.change_desc.specs.Pieces.{Piece, single, stretch, Open, closed, add, gather, sections}
use Rattle.change_desc.specs.Compose.{is_cut_new, is_cut_old, between, in_gap, composed, compose}
use Rattle.change_desc.specs.Map.{ordered, inserted, character, text_size, mapped, map_over}

-- what the lemmas ask of texts
pub record Sizes {T C : Type 0} (X : Texts T C) : Type 0 where
  pub size-none : X.size X.none ≡ 0
  pub size-join : (t u : T) → X.size (X.join t u) ≡ X.size t + X.size u
  pub size-one : (c : C) → X.size (X.one c) ≡ 1
  pub length-chars : (t : T) → length (X.chars t) ≡ X.size t

pub spelled_sizes : {C : Type 0} → Sizes (spelled {C = C})
spelled_sizes = record { size-none = refl; size-join = length-append; size-one = λ c. refl; length-chars = λ t. refl }

module _ {T C : Type 0} (X : Texts T C) (S : Sizes X) where
  pub kind-measured : (x : Section T) → kind counted (measured X x) ≡ kind X x
  kind-measured (Keep n) = refl
  kind-measured (Replace zero t) = refl
  kind-measured (Replace (suc n) t) = refl

  pub is_blank-measured : (x : Section T) → is_blank counted (measured X x) ≡ is_blank X x
  is_blank-measured (Keep n) = refl
  is_blank-measured (Replace n t) = refl

  joined-measured : (x y : Section T) → measured X (joined X x y) ≡ joined counted (measured X x) (measured X y)
  joined-measured (Keep m) (Keep n) = refl
  joined-measured (Keep m) (Replace n u) = refl
  joined-measured (Replace m t) (Keep n) = refl
  joined-measured (Replace m t) (Replace n u) = rw (S.size-join t u) refl

  put-lengths : (x : Section T) (s : List (Section T)) → lengths X (put X x s) ≡ put counted (measured X x) (lengths X s)
  put-lengths x [] = refl
  put-lengths x (y ∷ s) = rw (kind-measured x, kind-measured y, ← (joined-measured x y)) (cases (joins (kind X x) (kind X y)))
    where
      cases : (b : Bool) → lengths X (cond b (joined X x y ∷ s) (x ∷ y ∷ s)) ≡ cond b (measured X (joined X x y) ∷ lengths X s) (measured X x ∷ measured X y ∷ lengths X s)
      cases true = refl
      cases false = refl

  pub normal-lengths : (s : List (Section T)) → lengths X (normal X s) ≡ normal counted (lengths X s)
  normal-lengths [] = refl
  normal-lengths (x ∷ s) = rw (is_blank-measured x, ← (normal-lengths s), ← (put-lengths x (normal X s))) (cases (is_blank X x))
    where
      cases : (b : Bool) → lengths X (cond b (normal X s) (put X x (normal X s))) ≡ cond b (lengths X (normal X s)) (lengths X (put X x (normal X s)))
      cases true = refl
      cases false = refl

  -- pieces
  abbrev piece_length : Piece T → Piece ℕ
  piece_length (single x) = single (measured X x)
  piece_length (stretch b n t) = stretch b n (X.size t)

  abbrev open_length : Open T → Open ℕ
  open_length o = record { count = o.count; text = X.size o.text; rest = lengths X o.rest }

  add-lengths : (p : Piece T) (o : Open T) → open_length (add X p o) ≡ add counted (piece_length p) (open_length o)
  add-lengths (single x) o = rw (is_blank-measured x) (cases (is_blank X x))
    where
      cases : (b : Bool) → open_length (cond b o (record { count = 0; text = X.none; rest = x ∷ closed X o })) ≡
          cond b (open_length o) (record { count = 0; text = 0; rest = measured X x ∷ closed counted (open_length o) })
      cases true = refl
      cases false = rw S.size-none refl
  add-lengths (stretch true n t) o = rw (S.size-none, S.size-join t o.text) refl
  add-lengths (stretch false n t) o = rw (S.size-join t o.text) refl

  pub gather-lengths : (ps : List (Piece T)) → open_length (gather X ps) ≡ gather counted (map piece_length ps)
  gather-lengths [] = rw S.size-none refl
  gather-lengths (p ∷ ps) = add-lengths p (gather X ps) ∙ ap (add counted (piece_length p)) (gather-lengths ps)

  sections-lengths : (ps : List (Piece T)) → lengths X (sections X ps) ≡ sections counted (map piece_length ps)
  sections-lengths ps = normal-lengths (closed X (gather X ps)) ∙ ap (λ o. normal counted (closed counted o)) (gather-lengths ps)

  -- rows
  abbrev fate_length : Fate T → Fate ℕ
  fate_length stays = stays
  fate_length (leaves t) = leaves (X.size t)
  fate_length follows = follows

  abbrev row_old_length : Row T (Fate T) → Row ℕ (Fate ℕ)
  row_old_length (last t) = last (X.size t)
  row_old_length (next t y s) = next (X.size t) (fate_length y) (row_old_length s)

  abbrev origin_length : Origin C → Origin (Unit {0})
  origin_length old = old
  origin_length (new n c) = new n tt
  origin_length (more c) = more tt

  abbrev row_new_length : Row ℕ (Origin C) → Row ℕ (Origin (Unit {0}))
  row_new_length (last n) = last n
  row_new_length (next n x r) = next n (origin_length x) (row_new_length r)

  old-times : (n : ℕ) (y : Fate T) (s : Row T (Fate T)) → row_old_length (times X n y s) ≡ times counted n (fate_length y) (row_old_length s)
  old-times zero y s = refl
  old-times (suc n) y s = rw (S.size-none, old-times n y s) refl

  old-in_front : (t : T) (s : Row T (Fate T)) → row_old_length (in_front X t s) ≡ in_front counted (X.size t) (row_old_length s)
  old-in_front t (last u) = rw (S.size-join t u) refl
  old-in_front t (next u y s) = rw (S.size-join t u) refl

  pub along_old-lengths : (s : List (Section T)) → row_old_length (along_old X s) ≡ along_old counted (lengths X s)
  along_old-lengths [] = rw S.size-none refl
  along_old-lengths (Keep n ∷ s) = old-times n stays (along_old X s) ∙ ap (times counted n stays) (along_old-lengths s)
  along_old-lengths (Replace zero t ∷ s) = old-in_front t (along_old X s) ∙ ap (in_front counted (X.size t)) (along_old-lengths s)
  along_old-lengths (Replace (suc n) t ∷ s) =
      rw (S.size-none, old-times n follows (along_old X s), along_old-lengths s) refl

  new-times : (n : ℕ) (r : Row ℕ (Origin C)) → row_new_length (times counted n old r) ≡ times counted n old (row_new_length r)
  new-times zero r = refl
  new-times (suc n) r = ap (next 0 old) (new-times n r)

  new-mores : (cs : List C) (r : Row ℕ (Origin C)) → row_new_length (mores X cs r) ≡ mores counted (replicate (length cs) tt) (row_new_length r)
  new-mores [] r = refl
  new-mores (c ∷ cs) r = ap (next 0 (more tt)) (new-mores cs r)

  new-spell : (n : ℕ) (cs : List C) (r : Row ℕ (Origin C)) → row_new_length (spell X n cs r) ≡ spell counted n (replicate (length cs) tt) (row_new_length r)
  new-spell n [] (last m) = refl
  new-spell n [] (next m x r) = refl
  new-spell n (c ∷ cs) r = ap (next 0 (new n tt)) (new-mores cs r)

  along_new-lengths : (s : List (Section T)) → row_new_length (along_new X s) ≡ along_new counted (lengths X s)
  along_new-lengths [] = refl
  along_new-lengths (Keep n ∷ s) = new-times n (along_new X s) ∙ ap (times counted n old) (along_new-lengths s)
  along_new-lengths (Replace n t ∷ s) =
      new-spell n (X.chars t) (along_new X s) ∙ rw (S.length-chars t, along_new-lengths s) refl

  -- compose
  cut_new-lengths : (x : Origin C) → is_cut_new (origin_length x) ≡ is_cut_new x
  cut_new-lengths old = refl
  cut_new-lengths (new n c) = refl
  cut_new-lengths (more c) = refl

  cut_old-lengths : (y : Fate T) → is_cut_old (fate_length y) ≡ is_cut_old y
  cut_old-lengths stays = refl
  cut_old-lengths (leaves t) = refl
  cut_old-lengths follows = refl

  between-lengths : (b : Bool) (x : Origin C) (y : Fate T) → piece_length (between X b x y) ≡ between counted b (origin_length x) (fate_length y)
  between-lengths b old stays = refl
  between-lengths b old (leaves t) = refl
  between-lengths b old follows = rw S.size-none refl
  between-lengths b (new n c) stays = rw (S.size-one c) refl
  between-lengths b (new n c) (leaves t) = refl
  between-lengths b (new n c) follows = rw S.size-none refl
  between-lengths b (more c) stays = rw (S.size-one c) refl
  between-lengths b (more c) (leaves t) = refl
  between-lengths b (more c) follows = rw S.size-none refl

  gap-lengths : (b : Bool) (n : ℕ) (t : T) → map piece_length (in_gap X b n t) ≡ in_gap counted b n (X.size t)
  gap-lengths true n t = rw S.size-none refl
  gap-lengths false n t = refl

  composed-lengths : (r : Row ℕ (Origin C)) (s : Row T (Fate T)) → map piece_length (composed X r s) ≡ composed counted (row_new_length r) (row_old_length s)
  composed-lengths (last n) (last t) = gap-lengths true n t
  composed-lengths (last n) (next t y s) = refl
  composed-lengths (next n x r) (last t) = refl
  composed-lengths (next n x r) (next t y s) =
      rw (
        cut_new-lengths x,
        cut_old-lengths y,
        map-append piece_length (in_gap X (is_cut_new x && is_cut_old y) n t) (between X (is_cut_new x && is_cut_old y) x y ∷ composed X r s),
        gap-lengths (is_cut_new x && is_cut_old y) n t,
        composed-lengths r s,
        between-lengths (is_cut_new x && is_cut_old y) x y,
      ) refl

  pub compose-lengths : (a b : List (Section T)) → lengths X (compose X a b) ≡ compose counted (lengths X a) (lengths X b)
  compose-lengths a b =
      sections-lengths (composed X (along_new X a) (along_old X b)) ∙
      rw (composed-lengths (along_new X a) (along_old X b), along_new-lengths a, along_old-lengths b) refl

  -- map
  inserted-lengths : (j : T) (y : Fate T) → map piece_length (inserted X j y) ≡ inserted counted (X.size j) (fate_length y)
  inserted-lengths j stays = refl
  inserted-lengths j (leaves t) = refl
  inserted-lengths j follows = refl

  character-lengths : (x : Fate ℕ) (y : Fate T) → map piece_length (character X x y) ≡ character counted x (fate_length y)
  character-lengths stays stays = refl
  character-lengths stays (leaves t) = rw S.size-none refl
  character-lengths stays follows = rw S.size-none refl
  character-lengths (leaves n) y = refl
  character-lengths follows y = refl

  ordered-lengths : (b : Bool) (ps qs : List (Piece T)) → map piece_length (ordered b ps qs) ≡ ordered b (map piece_length ps) (map piece_length qs)
  ordered-lengths true ps qs = map-append piece_length qs ps
  ordered-lengths false ps qs = map-append piece_length ps qs

  mapped-lengths : (b : Bool) (r : Row ℕ (Fate ℕ)) (s : Row T (Fate T)) → map piece_length (mapped X b r s) ≡ mapped counted b r (row_old_length s)
  mapped-lengths b (last i) (last j) = ordered-lengths b (single (Keep i) ∷ []) (single (Replace 0 j) ∷ [])
  mapped-lengths b (last i) (next j y s) = refl
  mapped-lengths b (next i x r) (last j) = refl
  mapped-lengths b (next i x r) (next j y s) =
      let here : List (Piece T) = ordered b (single (Keep (i + text_size x)) ∷ []) (inserted X j y) in
      rw (
        map-append piece_length here (character X x y ++ mapped X b r s),
        map-append piece_length (character X x y) (mapped X b r s),
        ordered-lengths b (single (Keep (i + text_size x)) ∷ []) (inserted X j y),
        inserted-lengths j y,
        character-lengths x y,
        mapped-lengths b r s,
      ) refl

  pub map_over-lengths : (b : List (Section T)) (a : List (Section ℕ)) (before : Bool) → lengths X (map_over X b a before) ≡ map_over counted (lengths X b) a before
  map_over-lengths b a before =
      sections-lengths (mapped X before (along_old counted a) (along_old X b)) ∙
      rw (mapped-lengths before (along_old counted a) (along_old X b), along_old-lengths b) refl
