use Rattle.std.proofs.Common.{ℕ, List, length, arith, sym, ap, ◌∙◌}
use Rattle.std.proofs.lemmas.List.{drop_all}
use Rattle.cells.specs.Layout.{cells_of}
use Rattle.line_rows.proofs.Windows.{drop_item}
use Rattle.line_rows.proofs.ColumnSteps.{column_step, column_here, column_end}
use Rattle.line_rows.proofs.columns.column_of.Goals as goal

pub returns-then-not-is_before : goal.returns-then-not-is_before
returns-then-not-is_before c =
    column_here c.args.tab c.args.pos c.loop-piece.column c.columns_of-width.result c.max.result c.piece-item.result _ _ _
    (drop_item c.args.pieces.now.pieces c.loop-piece.piece-index c.piece-item.result (omega (arith, ap length c.list-piece-items.ensures.value)) (rw c.list-piece-items.ensures.value at c.piece-item.is))
    (c.columns_of-width.ensures.value ∙ ap (λ (t : List ℕ). length (cells_of c.args.tab c.loop-piece.column t)) c.text.ensures) c.max.ensures
    (sym c.is_before.ensures ∙ c.if-not-is_before.true) c.loop-piece.invariant.rest

pub loop-piece-preserved : goal.loop-piece-preserved
loop-piece-preserved c = record {
  bound = omega (arith, c.columns_of-width.ensures.bound, c.loop-piece.invariant.bound);
  rest = column_step c.args.tab c.args.pos c.loop-piece.column c.columns_of-width.result c.piece-item.result _ _ _
      (drop_item c.args.pieces.now.pieces c.loop-piece.piece-index c.piece-item.result (omega (arith, ap length c.list-piece-items.ensures.value)) (rw c.list-piece-items.ensures.value at c.piece-item.is))
      (c.columns_of-width.ensures.value ∙ ap (λ (t : List ℕ). length (cells_of c.args.tab c.loop-piece.column t)) c.text.ensures)
      (sym c.is_before.ensures ∙ c.if-not-is_before.false) c.loop-piece.invariant.rest;
}

pub returns : goal.returns
returns c =
    column_end c.args.tab c.args.pos c.loop-piece.column _ _
    (drop_all c.loop-piece.piece-index c.args.pieces.now.pieces (omega (arith, ap length c.list-piece-items.ensures.value))) c.loop-piece.invariant.rest
