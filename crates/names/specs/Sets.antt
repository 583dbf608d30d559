-- Values as they are written, and the values that they are.
use Rattle.std.specs.Prelude.{ℕ, ◌+◌, List, [], ◌∷◌, ℤ, pos, negsuc, int_le, ◌&&◌, Option, Some, None, Result, Ok, Err, if◌then◌else◌, option_and_then}
use Rattle.decoration.specs.declared.deco.Deco.{Deco}
use Rattle.decoration.specs.declared.deco.Deco.TheVariants as decos
use Rattle.decoration.specs.declared.deco_error.DecoError.{DecoError}
use Rattle.decoration.specs.declared.deco_error.DecoError.TheVariants as deco_errors
use Rattle.decoration.specs.declared.kind.Kind.{Kind}
use Rattle.decoration.specs.declared.kind.Kind.TheVariants as kinds
use Rattle.decoration.specs.Places.{place_fault}
use Rattle.decoration.specs.Sides.{deco_rules}
use Rattle.range_set.specs.declared.ranged.Ranged.{Ranged}
use Rattle.range_set.specs.declared.range_error.RangeError.{RangeError}
use Rattle.range_set.specs.declared.range_error.RangeError.TheVariants as range_errors
use Rattle.range_set.specs.Order.{first_fault}
use Rattle.values.specs.declared.val.Val.{Val}
use Rattle.values.specs.declared.val.Val.TheVariants as vals
use Rattle.requests.specs.declared.written.Written.{Written}
use Rattle.requests.specs.declared.written.Written.TheVariants.{Plain, Ranges}
use Rattle.requests.specs.declared.written_deco.WrittenDeco.{WrittenDeco}
use Rattle.script.specs.declared.declaration_refusal.DeclarationRefusal.{DeclarationRefusal}
use Rattle.script.specs.declared.declaration_refusal.DeclarationRefusal.TheVariants.{Reversed, NotSorted, EmptyMark, NotEmpty, BadReplace, BadSide, NotLineStart}
use Rattle.script.specs.declared.refusal.Refusal.{Refusal}
use Rattle.script.specs.declared.refusal.Refusal.TheVariants.{Declaration}
use Rattle.script.specs.Reading.{◌>>=◌}

-- the decoration that is written, without what its kind has no use for
abbrev pub deco_of : WrittenDeco → Kind → Deco
deco_of w kinds.Mark = decos.Mark (record { style = w.style; inclusive = w.inclusive })
deco_of w kinds.Widget = decos.Widget (record { text = w.text; style = w.style; side = w.side })
deco_of w kinds.Replace = decos.Replace (record { text = w.text; style = w.style; inclusive = w.inclusive })
deco_of w kinds.Line = decos.Line w.style

-- it, at its range
abbrev pub range_of : WrittenDeco → Ranged Deco
range_of w = record { from = w.from; to = w.to; value = deco_of w w.kind }

-- a refusal of the decoration at this place of a list
abbrev pub deco_refusal : ℕ → DecoError → DeclarationRefusal
deco_refusal index (deco_errors.Reversed i) = Reversed index
deco_refusal index deco_errors.EmptyMark = EmptyMark
deco_refusal index deco_errors.NotEmpty = NotEmpty
deco_refusal index deco_errors.BadReplace = BadReplace
deco_refusal index (deco_errors.NotLineStart place) = NotLineStart place

-- a widget's side lies from -10000 to 10000
abbrev pub side_fault : Kind → ℤ → Option DeclarationRefusal
side_fault kinds.Widget side = if int_le (negsuc 9999) side && int_le side (pos 10000) then None else Some (BadSide side)
side_fault kind side = None

-- what a decoration is refused as by itself: its ends come before its side
abbrev pub fault_after : ℕ → Option DecoError → WrittenDeco → Option DeclarationRefusal
fault_after index None w = side_fault w.kind w.side
fault_after index (Some e) w = Some (deco_refusal index e)

abbrev pub own_fault : ℕ → WrittenDeco → Option DeclarationRefusal
own_fault index w = fault_after index (place_fault w.kind w.from w.to) w

-- a decoration before others, unless it is refused by itself
abbrev pub prefix_of : Option DeclarationRefusal → Ranged Deco → List (Ranged Deco) × Option DeclarationRefusal → List (Ranged Deco) × Option DeclarationRefusal
prefix_of (Some e) range rest = ([], Some e)
prefix_of None range rest = (range ∷ rest.0, rest.1)

-- the ranges before the first decoration that is refused by itself, and what it is refused as; the first one has this index
abbrev pub sound_prefix : ℕ → List WrittenDeco → List (Ranged Deco) × Option DeclarationRefusal
sound_prefix index [] = ([], None)
sound_prefix index (w ∷ ws) = prefix_of (own_fault index w) (range_of w) (sound_prefix (index + 1) ws)

-- the fault of a list of ranges, of which each ends no earlier than it starts
abbrev pub range_refusal : RangeError → Option DeclarationRefusal
range_refusal (range_errors.Reversed index) = Some (Reversed index)
range_refusal (range_errors.NotSorted index) = Some (NotSorted index)
range_refusal range_errors.NoMemory = None

-- ranges, unless one of them is refused, or what comes after them is
abbrev pub unless_refused : List (Ranged Deco) → Option DeclarationRefusal → Option DeclarationRefusal → Result (List (Ranged Deco)) Refusal
unless_refused ranges (Some fault) after = Err (Declaration fault)
unless_refused ranges None (Some e) = Err (Declaration e)
unless_refused ranges None None = Ok ranges

-- the set of decorations that are written; the first one that is refused by itself, or belongs before the one before it, is
-- refused
abbrev pub set_of : List WrittenDeco → Result (List (Ranged Deco)) Refusal
set_of ws = let made = sound_prefix 0 ws in unless_refused made.0 (option_and_then range_refusal (first_fault deco_rules made.0)) made.1

-- the value that is written
abbrev pub value_of : Written → Result Val Refusal
value_of (Plain p) = Ok (vals.Plain p)
value_of (Ranges ws) = set_of ws >>= λ ranges. Ok (vals.Ranges ranges)
