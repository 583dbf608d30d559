-- Whether layers have a decoration other than a mark: one that stands for what it covers.
use Rattle.std.specs.Prelude.{Bool, List}
use Rattle.std.specs.List.{list_any}
use Rattle.range_set.specs.declared.ranged.Ranged.{Ranged}
use Rattle.range_set.specs.Points.{stands}
use Rattle.decoration.specs.declared.deco.Deco.{Deco}
use Rattle.decoration.specs.Sides.{deco_rules}

-- the set has a decoration that stands for what it covers: any other than a mark
abbrev pub has_point : List (Ranged Deco) → Bool
has_point set = list_any (stands deco_rules) set

-- Points: some layer has a decoration that stands for what it covers.
abbrev pub has_points : List (List (Ranged Deco)) → Bool
has_points layers = list_any has_point layers
