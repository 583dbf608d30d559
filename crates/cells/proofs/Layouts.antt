-- The cells of one cluster by its kind, and of what is left of a text.
use Rattle.std.proofs.Common.{◌≡◌, ℕ, suc, ◌+◌, ◌-◌, ◌%◌, ◌<◌, Bool, true, false, List, [], ◌∷◌, ◌++◌, map, length, replicate, if◌then◌else◌, refl, sym, ◌∙◌, append_assoc, arith, length-append, append-nil, add-zero}
use Rattle.std.proofs.Math.Nat.{mod-mod, add-mod, mod-eq_of_lt}
use Rattle.std.specs.List.{list_any, list_all}
use Rattle.std.specs.Str.{chars, IsUtf8}
use Rattle.std.specs.Prelude.{encode_utf8_all, String}
use Rattle.std.specs.String.{string_bytes}
use Rattle.std.proofs.lemmas.Str.{chars-encodes, encodes-chars, encodes_same, scalars-chars, IsUtf8-string_bytes}
use lib.Utf8.{scalars, scalar}
use Rattle.std.proofs.lemmas.Bool.{and_parts}
use Rattle.unicode_segmentation.specs.Grapheme.{graphemes, is_grapheme_break}
use Rattle.unicode_segmentation.specs.Segments.{Rule, cut, segments, prepend}
use Rattle.unicode_width.specs.Width.{str_width}
use Rattle.cells.specs.Layout.{Shown, blank, clusters, cluster_cells, dot, is_control, is_tab, lay, cells_of, wide, further, rests}

pub cluster_cells-tab : (tab column : ℕ) (g : List ℕ) → column < tab → is_tab g ≡ true → cluster_cells tab column g ≡ replicate (tab - column) blank
unfolding cluster_cells
cluster_cells-tab tab column g below t = rw (t, mod-eq_of_lt below) refl

pub cluster_cells-dots : (tab column : ℕ) (g : List ℕ) → is_tab g ≡ false → list_any is_control g ≡ true → cluster_cells tab column g ≡ replicate (length g) dot
unfolding cluster_cells
cluster_cells-dots tab column g t d = rw (t, d) refl

pub cluster_cells-wide : (tab column : ℕ) (g : List ℕ) → is_tab g ≡ false → list_any is_control g ≡ false → cluster_cells tab column g ≡ wide g (str_width false g)
unfolding cluster_cells
cluster_cells-wide tab column g t d = rw (t, d) refl

-- only the place between two tab stops counts
pub cluster_cells-mod : (tab at : ℕ) (g : List ℕ) → cluster_cells tab (at % tab) g ≡ cluster_cells tab at g
unfolding cluster_cells
cluster_cells-mod tab at g = rw (mod-mod at tab) refl

-- a character put before pieces of characters
prepend_scalars : (c : ℕ) (ps : List (List ℕ)) → scalar c ≡ true → list_all scalars ps ≡ true → list_all scalars (prepend (c ∷ []) ps) ≡ true
prepend_scalars c [] one all = rw one refl
prepend_scalars c (p ∷ ps) one all = rw one all

put_scalars : (b : Bool) (c : ℕ) (ps : List (List ℕ)) → scalar c ≡ true → list_all scalars ps ≡ true → list_all scalars (if b then (c ∷ []) ∷ ps else prepend (c ∷ []) ps) ≡ true
put_scalars true c ps one all = rw one all
put_scalars false c ps one all = prepend_scalars c ps one all

-- every piece of a text of characters is one
pub scalars-cut : (rule : Rule) (before cs after : List ℕ) → scalars cs ≡ true → list_all scalars (cut rule before cs after) ≡ true
unfolding cut
scalars-cut rule before [] after all = refl
scalars-cut rule before (c ∷ cs) after all =
    put_scalars (rule (c ∷ before) (cs ++ after)) c (cut rule (c ∷ before) cs after) (and_parts _ _ all).0
    (scalars-cut rule (c ∷ before) cs after (and_parts _ _ all).1)

-- pieces of characters come back from their bytes
pub chars-encoded : (ps : List (List ℕ)) → list_all scalars ps ≡ true → map chars (map encode_utf8_all ps) ≡ ps
chars-encoded [] all = refl
chars-encoded (p ∷ ps) all = rw (chars-encodes p (and_parts (scalars p) (list_all scalars ps) all).0, chars-encoded ps (and_parts (scalars p) (list_all scalars ps) all).1) refl

-- one cluster further
pub lay_step : (tab start : ℕ) (done : List Shown) (g : List ℕ) (gs : List (List ℕ)) (all : List Shown) (column : ℕ) → column ≡ (start % tab + length done % tab) % tab → done ++ lay tab (start + length done) (g ∷ gs) ≡ all → (done ++ cluster_cells tab column g) ++ lay tab (start + length (done ++ cluster_cells tab column g)) gs ≡ all
unfolding lay
lay_step tab start done g gs all column at goes =
    let same : cluster_cells tab column g ≡ cluster_cells tab (start + length done) g =
    rw (at, ← add-mod start (length done) tab) (cluster_cells-mod tab (start + length done) g) in
    let place : start + length (done ++ cluster_cells tab (start + length done) g) ≡ start + length done + length (cluster_cells tab (start + length done) g) =
    omega (arith, length-append done (cluster_cells tab (start + length done) g)) in
    rw (same, place) (append_assoc done _ _ ∙ goes)

-- the clusters of a text, as the characters of the pieces that the bytes are cut into
pub clusters-bytes : (bytes : List ℕ) → IsUtf8 bytes → map chars (graphemes true bytes) ≡ clusters (chars bytes)
unfolding segments clusters
clusters-bytes bytes spelled = chars-encoded _ (scalars-cut (is_grapheme_break true) [] (chars bytes) [] (scalars-chars bytes spelled))

-- what stands in the row, and what is still to come, make up the whole
abbrev pub IsLaid : (tab start : ℕ) (text : List ℕ) (done : List Shown) (left : List (List ℕ)) → Type 0
IsLaid tab start text done left = done ++ lay tab (start + length done) (map chars left) ≡ cells_of tab start text

pub begins : (tab start : ℕ) (bytes : List ℕ) (done : List Shown) (left : List (List ℕ)) → done ≡ [] → IsUtf8 bytes → left ≡ graphemes true bytes → IsLaid tab start (chars bytes) done left
begins tab start bytes done left empty spelled all =
    rw (empty, all, clusters-bytes bytes spelled, add-zero start) refl

pub goes_on : (tab start : ℕ) (text : List ℕ) (done more : List Shown) (g : List ℕ) (left rest : List (List ℕ)) (len column : ℕ) → left ≡ g ∷ rest → len ≡ length done → column ≡ (start % tab + len % tab) % tab → more ≡ done ++ cluster_cells tab column (chars g) → IsLaid tab start text done left → IsLaid tab start text more rest
goes_on tab start text done more g left rest len column taken long at adds laid =
    rw adds (lay_step tab start done (chars g) (map chars rest) _ column (rw long at at) (rw taken at laid))

pub ends : (tab start : ℕ) (text : List ℕ) (done : List Shown) (left : List (List ℕ)) → left ≡ [] → IsLaid tab start text done left → done ≡ cells_of tab start text
unfolding lay
ends tab start text done left none laid = sym (append-nil done) ∙ (rw none at laid)

-- a further column put in the row
pub rests_step : (done new all : List Shown) (before width : ℕ) → before < width → new ≡ done ++ further before (width - 1 - before) ∷ [] → done ++ rests before (width - before) ≡ all → new ++ rests (before + 1) (width - (before + 1)) ≡ all
rests_step done new all before width inside adds goes =
    let one : width - before ≡ suc (width - 1 - before) = omega arith in
    let less : width - (before + 1) ≡ width - 1 - before = omega arith in
    rw (adds, less) (append_assoc done _ _ ∙ (rw one at goes))

-- the text that the bytes of characters spell
pub chars-from_bytes : {Z : Type 0} (s : String Z) (cs : List ℕ) → string_bytes s ≡ encode_utf8_all cs → chars (string_bytes s) ≡ cs
chars-from_bytes s cs is = encodes_same _ _ (encodes-chars (string_bytes s) (IsUtf8-string_bytes s) ∙ is)
