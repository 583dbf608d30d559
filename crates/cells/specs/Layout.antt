-- The cells that a text takes, from a column on (clusters: Unicode Standard Annex 29; columns: Annex 11).
use Rattle.std.specs.Prelude.{ℕ, ◌+◌, ◌-◌, zero, suc, ◌%◌, ◌==◌, Bool, true, false, ◌||◌, ◌&&◌, nat_lt, nat_le, List, [], ◌∷◌, ◌++◌, length, replicate, Option, Some, None, if◌then◌else◌}
use Rattle.std.specs.Int.{is_in_range}
use Rattle.std.specs.List.{list_any}
use Rattle.unicode_segmentation.specs.Grapheme.{is_grapheme_break}
use Rattle.unicode_segmentation.specs.Segments.{cut}
use Rattle.unicode_width.specs.Width.{str_width}

-- what one cell shows: nothing, the first column of a cluster that has so many after it, or a further column of one, with
-- how many of its columns stand before and after it
pub data Shown : Type 0 where
  blank : Shown
  first : List ℕ → ℕ → Shown
  further : ℕ → ℕ → Shown

-- Clusters: the extended grapheme clusters of a list of characters.
unfoldable pub clusters : List ℕ → List (List ℕ)
clusters text = cut (is_grapheme_break true) [] text []

-- Control characters: U+0000 to U+001F and U+007F to U+009F.
abbrev pub is_control : ℕ → Bool
is_control c = nat_lt c 0x20 || is_in_range 0x7F 0x9F c

abbrev pub is_tab : List ℕ → Bool
is_tab (c ∷ []) = c == 9
is_tab cluster = false

-- the further columns of a cluster, of which so many stand before the first of these
abbrev pub rests : ℕ → ℕ → List Shown
rests before zero = []
rests before (suc more) = further before more ∷ rests (before + 1) more

-- a cluster that is so many columns wide
abbrev pub wide : List ℕ → ℕ → List Shown
wide cluster width = if width == 0 then [] else first cluster (width - 1) ∷ rests 1 (width - 1)

-- a control character is shown as a point in one column
abbrev pub dot : Shown
dot = first (46 ∷ []) 0

-- The cells of a cluster that begins in column `at`: a tab fills blanks up to the next multiple of `tab`, each control character
-- shows as a point, and any other cluster has its width's cells, none where that is 0.
unfoldable pub cluster_cells : ℕ → ℕ → List ℕ → List Shown
cluster_cells tab at cluster =
    if is_tab cluster then replicate (tab - at % tab) blank
    else if list_any is_control cluster then replicate (length cluster) dot
    else wide cluster (str_width false cluster)

-- the cells of clusters, of which each begins where the one before ended
unfoldable pub lay : ℕ → ℕ → List (List ℕ) → List Shown
lay tab at [] = []
lay tab at (cluster ∷ clusters) =
    let cells = cluster_cells tab at cluster in
    cells ++ lay tab (at + length cells) clusters

-- the cells of a text that begins in column `start`
abbrev pub cells_of : ℕ → ℕ → List ℕ → List Shown
cells_of tab start text = lay tab start (clusters text)

-- whether a cell in column `offset` of a window of `cols` columns shows a cluster of which the window's edges cut nothing
abbrev pub is_whole : ℕ → ℕ → Shown → Bool
is_whole cols offset blank = true
is_whole cols offset (first cluster after) = nat_lt (offset + after) cols
is_whole cols offset (further before after) = nat_le before offset && nat_lt (offset + after) cols

abbrev pub is_blank : Shown → Bool
is_blank blank = true
is_blank shown = false

-- the cluster that begins in the cell
abbrev pub cluster_of : Shown → Option (List ℕ)
cluster_of (first cluster after) = Some cluster
cluster_of shown = None
