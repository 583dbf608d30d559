-- The words that a script writes for a choice among a few.
use Rattle.std.specs.Prelude.{ℕ, List, Option, Some, None, Result, if◌then◌else◌, codes, option_and_then}
use Rattle.std.specs.Str.{bytes_eq}
use Rattle.serde_json.specs.Data.{Data}
use Rattle.serde_json.specs.Find.{as_str}
use Rattle.change_desc.specs.declared.map_mode.MapMode.{MapMode}
use Rattle.change_desc.specs.declared.map_mode.MapMode.TheVariants.{Simple, TrackDel, TrackBefore, TrackAfter}
use Rattle.script.specs.declared.refusal.Refusal.{Refusal}
use Rattle.script.specs.declared.map_request.MapOp.{MapOp}
use Rattle.script.specs.declared.map_request.MapOp.TheVariants.{Of, Compose, Map, MapBefore, Invert, Filter}
use Rattle.script.specs.Reading.{or_bad}

-- how `map` puts two sets together
abbrev pub op_named : List ℕ → Option MapOp
op_named word =
    if bytes_eq word (codes "of") then Some Of
    else (if bytes_eq word (codes "compose") then Some Compose
    else (if bytes_eq word (codes "map") then Some Map
    else (if bytes_eq word (codes "mapBefore") then Some MapBefore
    else (if bytes_eq word (codes "invert") then Some Invert
    else (if bytes_eq word (codes "filter") then Some Filter else None)))))

-- what a mapped position keeps track of (Reference Manual: MapMode)
abbrev pub mode_named : List ℕ → Option MapMode
mode_named word =
    if bytes_eq word (codes "simple") then Some Simple
    else (if bytes_eq word (codes "trackDel") then Some TrackDel
    else (if bytes_eq word (codes "trackBefore") then Some TrackBefore
    else (if bytes_eq word (codes "trackAfter") then Some TrackAfter else None)))

unfoldable pub op_at : List ℕ → Data → Result MapOp Refusal
op_at name d = or_bad name (option_and_then op_named (as_str d))

unfoldable pub mode_at : List ℕ → Data → Result MapMode Refusal
mode_at name d = or_bad name (option_and_then mode_named (as_str d))
