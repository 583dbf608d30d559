use Rattle.std.proofs.Common.{◌≡◌, ◌∙◌, map, refl}
use Rattle.std.proofs.lemmas.Result.{IfOk-weaker}
use Rattle.line_rows.specs.Run.{runs_of}
use Rattle.screen.specs.Screen.{row_cells}
use Rattle.session.specs.Frames.{bytes_of, items_of}
use Rattle.session.proofs.Framed.{frame_same}
use Rattle.session.proofs.frames.screen_frame.Goals as goal

pub returns : goal.returns
returns c =
    let same : bytes_of (map items_of c.as_slice.result.now) c.cursor.result ≡ bytes_of (map runs_of (map row_cells c.args.screen.now.rows)) c.args.screen.now.cursor =
    rw (c.as_slice.ensures.value, c.in_ok-runs.ensures, c.rows.ensures, c.cursor.ensures) refl in
    IfOk-weaker c.frame.result _ _ (λ text is. is ∙ frame_same c.as_slice.result.now c.cursor.result ∙ same) c.frame.ensures.bytes
