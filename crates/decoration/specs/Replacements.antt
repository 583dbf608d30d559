-- A replacement as plain data (Reference Manual: Decoration.replace).
use Rattle.std.specs.Prelude.{ℕ, List}
use Rattle.decoration.specs.declared.style.Style.{Style}
use Rattle.decoration.specs.declared.inclusive.Inclusive.{Inclusive}

pub record ReplacementView : Type 0 where
  pub text : List ℕ
  pub style : Style
  pub inclusive : Inclusive
