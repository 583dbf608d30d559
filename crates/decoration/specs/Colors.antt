-- The numbers of the eight colours of a terminal (ECMA-48, select graphic rendition).
use Rattle.std.specs.Prelude.{ℕ}
use Rattle.decoration.specs.declared.color.Color.{Color}
use Rattle.decoration.specs.declared.color.Color.TheVariants.{Black, Red, Green, Yellow, Blue, Magenta, Cyan, White}

abbrev pub number_of : Color → ℕ
number_of Black = 0
number_of Red = 1
number_of Green = 2
number_of Yellow = 3
number_of Blue = 4
number_of Magenta = 5
number_of Cyan = 6
number_of White = 7
