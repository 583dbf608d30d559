-- The bytes of a frame, by the items of its rows.
use Rattle.std.proofs.Common.{◌≡◌, ℕ, ◌+◌, List, [], ◌∷◌, ◌++◌, map, refl, ap}
use Rattle.std.specs.Prelude.{codes}
use Rattle.std.specs.Global.{Vec}
use Rattle.line_rows.specs.Run.{RunView}
use Rattle.line_rows.specs.declared.cursor.Cursor.{Cursor}
use Rattle.term_bytes.specs.Frame as vectors
use Rattle.term_bytes.specs.Frame.{place, row, start}
use Rattle.session.specs.Frames.{bytes_of, items_of, rows_from}

rows_same : (number : ℕ) (rows : List (Vec RunView)) → vectors.rows_from number rows ≡ rows_from number (map items_of rows)
rows_same number [] = refl
rows_same number (runs ∷ rows) = ap (λ (rest : List ℕ). place number 1 ++ row runs.items ++ rest) (rows_same (number + 1) rows)

pub frame_same : (rows : List (Vec RunView)) (cursor : Cursor) → vectors.frame rows cursor.row cursor.column ≡ bytes_of (map items_of rows) cursor
frame_same rows cursor = ap (λ (body : List ℕ). start ++ codes "H" ++ body ++ place (cursor.row + 1) (cursor.column + 1)) (rows_same 1 rows)
