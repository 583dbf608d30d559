-- Values of facets and fields as a script writes them: plain data, or decorations at ranges.
use Rattle.std.specs.Prelude.{ℕ, List, [], ◌∷◌, false, pos, is_some, Result, Ok, if◌then◌else◌, codes}
use Rattle.serde_json.specs.Data.{Data}
use Rattle.serde_json.specs.Find.{as_object}
use Rattle.decoration.specs.declared.inclusive.Inclusive.{Inclusive}
use Rattle.script.specs.declared.refusal.Refusal.{Refusal}
use Rattle.script.specs.Reading.{◌>>=◌, required_as, number_member, defaulted, text_at, number_at, side_at, flag_at, members_at, only, list_of}
use Rattle.script.specs.Values.{value_at}
use Rattle.requests.specs.declared.written_deco.WrittenDeco.{WrittenDeco}
use Rattle.requests.specs.declared.written.Written.{Written}
use Rattle.requests.specs.declared.written.Written.TheVariants.{Plain, Ranges}
use Rattle.requests.specs.Words.{kind_at}
use Rattle.requests.specs.Styles.{style_of, no_style}

-- which ends are inclusive: {inclusiveStart, inclusiveEnd (default false)}
unfoldable pub inclusive_of : Data → Result Inclusive Refusal
inclusive_of d = do
  start ← defaulted (codes "inclusiveStart") flag_at false d
  end ← defaulted (codes "inclusiveEnd") flag_at false d
  Ok (record { start = start; end = end })

-- a decoration, whatever its kind: {kind, from, to (default from), style (default none), text (default ""), side (default 0),
-- inclusiveStart, inclusiveEnd}
unfoldable pub deco_of : List ℕ → Data → Result WrittenDeco Refusal
deco_of name d = do
  members ← members_at name d
  kind ← required_as (codes "kind") kind_at d
  from ← number_member (codes "from") d
  to ← defaulted (codes "to") number_at from d
  style ← defaulted (codes "style") style_of no_style d
  text ← defaulted (codes "text") text_at [] d
  side ← defaulted (codes "side") side_at (pos 0) d
  inclusive ← inclusive_of d
  known ← only (codes "kind" ∷ codes "from" ∷ codes "to" ∷ codes "style" ∷ codes "text" ∷ codes "side" ∷ codes "inclusiveStart" ∷ codes "inclusiveEnd" ∷ []) members
  Ok (record { kind = kind; from = from; to = to; style = style; text = text; side = side; inclusive = inclusive })

-- a set of decorations: {ranges}
unfoldable pub ranges_of : List ℕ → Data → Result (List WrittenDeco) Refusal
ranges_of name d = do
  members ← members_at name d
  ranges ← required_as (codes "ranges") (list_of deco_of) d
  known ← only (codes "ranges" ∷ []) members
  Ok ranges

-- a value: an object is a set of decorations, anything else plain data
unfoldable pub written_of : List ℕ → Data → Result Written Refusal
written_of name d =
    if is_some (as_object d) then ranges_of name d >>= (λ ranges. Ok (Ranges ranges))
    else (value_at name d >>= λ plain. Ok (Plain plain))
