-- A widget as plain data (Reference Manual: Decoration.widget).
use Rattle.std.specs.Prelude.{ℕ, List, ℤ, pos, negsuc, ◌≡◌, ◌≤ℤ◌}
use Rattle.decoration.specs.declared.style.Style.{Style}
use Rattle.decoration.specs.declared.widget_error.WidgetError.{WidgetError}
use Rattle.decoration.specs.declared.widget_error.WidgetError.TheVariants.{BadSide, NoMemory}

pub record WidgetView : Type 0 where
  pub text : List ℕ
  pub style : Style
  pub side : ℤ

-- a side that a widget may have: from -10000 to 10000
abbrev pub IsSide : ℤ → Type 0
IsSide side = (negsuc 9999 ≤ℤ side) × (side ≤ℤ pos 10000)

-- why no widget of this side was made: it is none that a widget may have, or it is one and there was no memory
abbrev pub IsWidgetFault : ℤ → WidgetError → Type 0
IsWidgetFault side (BadSide given) = (given ≡ side) × (¬ (IsSide side))
IsWidgetFault side NoMemory = IsSide side
