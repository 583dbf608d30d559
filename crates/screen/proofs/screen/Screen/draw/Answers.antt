use Rattle.std.proofs.Common.{List, map, ap, ◌∙◌, arith}
use Rattle.screen.specs.Screen.{RowKey, row_cells, shown_view}
use Rattle.screen.proofs.Changes.{rendered_is}
use Rattle.screen.proofs.Heads.{cursor_is, shows_place}
use Rattle.screen.proofs.Kept.{changed_rows}
use Rattle.screen.proofs.screen.Screen.draw.Goals as goal

pub cursor_at-cursor-requires : goal.cursor_at-cursor-requires
cursor_at-cursor-requires g c = shows_place (shown_view c.args.view.now) c.in_ok-place.place c.in_ok-place.ensures.value c.requires.shows

pub returns-clause-cursor : goal.returns-clause-cursor
returns-clause-cursor g c = c.cursor_at-cursor.ensures ∙ cursor_is (shown_view c.args.view.now) c.in_ok-place.place c.in_ok-place.ensures.value

pub returns-clause-rendered : goal.returns-clause-rendered
returns-clause-rendered g c =
    ap (λ (ks : List RowKey). map row_cells ks) c.in_ok-rows.ensures.rows ∙ rendered_is (shown_view c.args.view.now) _ _

pub returns-clause-most : goal.returns-clause-most
returns-clause-most g c =
    let v = shown_view c.args.view.now in
    omega (arith, c.in_ok-rows.ensures.bound, changed_rows c.as_slice.result.now v v.window.top v.window.rows)

pub returns-in_err-rows-clause-most : goal.returns-in_err-rows-clause-most
returns-in_err-rows-clause-most g c =
    let v = shown_view c.args.view.now in
    omega (arith, c.in_err-rows.ensures.bound, changed_rows c.as_slice.result.now v v.window.top v.window.rows)
