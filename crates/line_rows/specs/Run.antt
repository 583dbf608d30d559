-- The runs of a row, as a reply has them.
use Rattle.std.specs.Prelude.{ℕ, Bool, ◌&&◌, List, [], ◌∷◌, ◌++◌, if◌then◌else◌}
use Rattle.cells.specs.Layout.{Shown, blank, first, further, is_blank}
use Rattle.pieces.specs.Styles.{is_plain, same_style}
use Rattle.decoration.specs.declared.style.Style.{Style}
use Rattle.line_rows.specs.declared.rows.StyledCell.{StyledCell}

-- a part of a row in one style: its characters, and the style
pub record RunView : Type 0 where
  pub text : List ℕ
  pub style : Style

-- what a cell adds to a text: a blank is a space
abbrev pub cell_text : Shown → List ℕ
cell_text blank = 32 ∷ []
cell_text (first cluster after) = cluster
cell_text (further before after) = []

-- a blank without style
abbrev pub is_bare : StyledCell → Bool
is_bare c = is_blank c.cell && is_plain c.style

abbrev pub onto_kept : StyledCell → List StyledCell → List StyledCell
onto_kept c [] = if is_bare c then [] else c ∷ []
onto_kept c (kept ∷ more) = c ∷ kept ∷ more

-- the cells up to the last one that isn't a blank without style
unfoldable pub trimmed : List StyledCell → List StyledCell
trimmed [] = []
trimmed (c ∷ cs) = onto_kept c (trimmed cs)

abbrev pub run_of : StyledCell → RunView
run_of c = record { text = cell_text c.cell; style = c.style }

-- a run with the text of a further cell
abbrev pub longer : RunView → StyledCell → RunView
longer run c = record { text = run.text ++ cell_text c.cell; style = run.style }

-- from left to right, each cell is part of the run before it where the styles are equal, and else begins a run
unfoldable pub joined_from : RunView → List StyledCell → List RunView
joined_from run [] = run ∷ []
joined_from run (c ∷ cs) = if same_style c.style run.style then joined_from (longer run c) cs else run ∷ joined_from (run_of c) cs

abbrev pub joined : List StyledCell → List RunView
joined [] = []
joined (c ∷ cs) = joined_from (run_of c) cs

-- Runs: the cells up to the last one that isn't a blank without style, cut where the style changes.
abbrev pub runs_of : List StyledCell → List RunView
runs_of cells = joined (trimmed cells)
