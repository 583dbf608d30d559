-- Where a window is moved to show the main range's head.
use Rattle.std.specs.Prelude.{min}
use Rattle.std.specs.Option.{option_map_or}
use Rattle.viewport.specs.Window.{Window}
use Rattle.viewport.specs.Reveal.{revealed}
use Rattle.screen.specs.declared.head.HeadPlace.{HeadPlace}
use Rattle.screen.specs.Screen.{ViewView}
use Rattle.screen.specs.Head.{head_place}

-- a window moved to show a place: its block and the columns of the piece that stands there, as far as the window is wide
abbrev pub moved_to : Window → HeadPlace → Window
moved_to w p = revealed w p.number p.column (min p.width w.cols)

-- Revealed: the view's window, moved as little as it takes to show the place of the main range's head.
abbrev pub revealed_window : ViewView → Window
revealed_window v = option_map_or (moved_to v.window) (head_place v) v.window
