use Rattle.std.proofs.Common.{◌≡◌, true, false, sym, ◌∙◌, arith}
use Rattle.std.proofs.lemmas.List.{length-replicate}
use Rattle.std.specs.List.{list_any}
use Rattle.std.specs.Str.{chars}
use Rattle.cells.specs.Layout.{is_control, is_tab}
use Rattle.cells.proofs.Layouts.{cluster_cells-tab, cluster_cells-dots, cluster_cells-wide}
use Rattle.cells.proofs.Widths.{length-chars, length-wide}
use Rattle.cells.proofs.columns.cluster_columns.Goals as goal

pub returns-then-is_tab-clause-value : goal.returns-then-is_tab-clause-value
returns-then-is_tab-clause-value c =
    let tab : is_tab (chars c.args.cluster.now) ≡ true = sym c.is_tab.ensures.value ∙ c.if-is_tab.true in
    rw (cluster_cells-tab c.args.tab c.args.column _ c.requires.inside tab) (sym (length-replicate _ _))

pub returns-then-has_control-clause-value : goal.returns-then-has_control-clause-value
returns-then-has_control-clause-value c =
    let text : is_tab (chars c.args.cluster.now) ≡ false = sym c.is_tab.ensures.value ∙ c.if-is_tab.false in
    let control : list_any is_control (chars c.args.cluster.now) ≡ true = sym c.has_control.ensures ∙ c.if-has_control.true in
    rw (cluster_cells-dots c.args.tab c.args.column _ text control) (c.char_count.ensures ∙ sym (length-replicate _ _))

pub returns-then-has_control-clause-bound : goal.returns-then-has_control-clause-bound
returns-then-has_control-clause-bound c = omega (arith, c.char_count.ensures, length-chars c.args.cluster.now c.utf8.cluster)

pub returns-else-has_control-clause-value : goal.returns-else-has_control-clause-value
returns-else-has_control-clause-value c =
    let text : is_tab (chars c.args.cluster.now) ≡ false = sym c.is_tab.ensures.value ∙ c.if-is_tab.false in
    let plain : list_any is_control (chars c.args.cluster.now) ≡ false = sym c.has_control.ensures ∙ c.if-has_control.false in
    rw (cluster_cells-wide c.args.tab c.args.column _ text plain) (c.width.ensures.value ∙ sym (length-wide _ _))
