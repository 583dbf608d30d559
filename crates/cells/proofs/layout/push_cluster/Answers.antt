use Rattle.std.proofs.Common.{◌≡◌, true, false, sym, ◌∙◌}
use Rattle.std.specs.List.{list_any}
use Rattle.std.specs.Str.{chars}
use Rattle.cells.specs.Layout.{is_control, is_tab}
use Rattle.cells.proofs.Layouts.{cluster_cells-tab, cluster_cells-dots, cluster_cells-wide}
use Rattle.cells.proofs.layout.push_cluster.Goals as goal

pub returns-then-is_tab : goal.returns-then-is_tab
returns-then-is_tab c =
    let tab : is_tab (chars c.args.cluster.now) ≡ true = sym c.is_tab.ensures.value ∙ c.if-is_tab.true in
    rw (cluster_cells-tab c.args.tab c.args.column _ c.requires tab) c.push_blanks.ensures

pub returns-then-has_control : goal.returns-then-has_control
returns-then-has_control c =
    let text : is_tab (chars c.args.cluster.now) ≡ false = sym c.is_tab.ensures.value ∙ c.if-is_tab.false in
    let control : list_any is_control (chars c.args.cluster.now) ≡ true = sym c.has_control.ensures ∙ c.if-has_control.true in
    rw (cluster_cells-dots c.args.tab c.args.column _ text control, ← c.char_count.ensures) c.push_dots.ensures

pub returns-else-has_control : goal.returns-else-has_control
returns-else-has_control c =
    let text : is_tab (chars c.args.cluster.now) ≡ false = sym c.is_tab.ensures.value ∙ c.if-is_tab.false in
    let plain : list_any is_control (chars c.args.cluster.now) ≡ false = sym c.has_control.ensures ∙ c.if-has_control.false in
    rw (cluster_cells-wide c.args.tab c.args.column _ text plain, ← c.width.ensures.value) c.push_wide.ensures
