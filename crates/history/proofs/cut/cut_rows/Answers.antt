use Rattle.std.proofs.Common.{◌≡◌, ◌++◌, ap, sym, ◌∙◌, arith}
use Rattle.std.proofs.lemmas.Result.{IfOk-weaker}
use Rattle.history.specs.Items.{keep_selects, most_selects}
use Rattle.history.proofs.Cuts.{rows-kept}
use Rattle.history.proofs.cut.cut_rows.Goals as goal

pub returns-then-rows_fit : goal.returns-then-rows_fit
returns-then-rows_fit c =
    let kept = c.loop-item.kept.items in
    let rest = c.loop-item.rest in
    let room : c.loop-item.room ≡ most_selects = let h = c.if-room-eq-MOST_SELECTS.true in omega (arith, h) in
    let whole = sym (rows-kept rest (c.rows_fit.ensures c.if-rows_fit.true)) ∙ ap (λ n. keep_selects n rest) (sym room) in
    IfOk-weaker c.with_all.result (λ all. all ≡ kept ++ c.in_ok-share.field-0) (λ all. all ≡ keep_selects most_selects c.args.items.now)
    (λ all e. e ∙ (ap (λ xs. kept ++ xs) (c.in_ok-share.ensures ∙ whole) ∙ c.loop-item.invariant)) c.with_all.ensures
