-- What `map` makes of two lists of changes (Reference Manual: ChangeSet.compose, map, invert, ChangeDesc.mapPos).
use Rattle.std.specs.Prelude.{ℕ, List, length, Option, Some, None, Result, Ok, nat_le, if◌then◌else◌, true, false, codes}
use Rattle.line_tree.specs.Text.{cut}
use Rattle.change_desc.specs.declared.section.Section.{Section}
use Rattle.change_desc.specs.Sections.{spelled, counted, old_size, new_size, lengths, apply, invert}
use Rattle.change_desc.specs.Positions.{map_pos, is_negative}
use Rattle.change_desc.specs.Compose.{compose}
use Rattle.change_desc.specs.Map.{map_over}
use Rattle.change_desc.specs.Filter.{filter_kept}
use Rattle.script.specs.declared.refusal.Refusal.{Refusal}
use Rattle.script.specs.declared.map_request.MapOp.{MapOp}
use Rattle.script.specs.declared.map_request.MapOp.TheVariants.{Of, Compose, Map, MapBefore, Invert, Filter}
use Rattle.script.specs.declared.map_request.MapPlace.{MapPlace}
use Rattle.script.specs.declared.map_request.MapParts.{MapParts}
use Rattle.replies.specs.declared.mapped.MappedParts.{MappedParts}
use Rattle.replies.specs.declared.mapped.MappedPlace.{MappedPlace}
use Rattle.replies.specs.declared.mapped.MappedPlace.TheVariants.{NotAsked, Deleted, At}
use Rattle.script.specs.Reading.{◌>>=◌, bad}
use Rattle.mapping.specs.Changes.{set_of}

-- the length of the text that the second set is over: that of the document, or of the text that the first one gives
abbrev pub second_len : MapOp → List (Section (List ℕ)) → List ℕ → ℕ
second_len Compose a doc = new_size spelled a
second_len _ a doc = length doc

-- the set that is answered; `ranges` are the protected ones
abbrev pub answered_set : MapOp → List (ℕ × ℕ) → List (Section (List ℕ)) → List (Section (List ℕ)) → List ℕ → List (Section (List ℕ))
answered_set Of ranges a b doc = a
answered_set Compose ranges a b doc = compose spelled a b
answered_set Map ranges a b doc = map_over spelled b (lengths spelled a) false
answered_set MapBefore ranges a b doc = map_over spelled b (lengths spelled a) true
answered_set Invert ranges a b doc = invert a doc
answered_set Filter ranges a b doc = filter_kept spelled ranges a

-- The text that is answered with a set: the set applied to the document, or to the text that the first set gives where
-- the set is over that. The inverse of a set leads back to the document.
abbrev pub answered_text : MapOp → List (Section (List ℕ)) → List (Section (List ℕ)) → List ℕ → List ℕ
answered_text Of set a doc = apply set doc
answered_text Compose set a doc = apply set doc
answered_text Map set a doc = apply set (apply a doc)
answered_text MapBefore set a doc = apply set (apply a doc)
answered_text Invert set a doc = doc
answered_text Filter set a doc = apply set doc

abbrev pub place_at : Option ℕ → MappedPlace
place_at None = Deleted
place_at (Some pos) = At pos

abbrev pub mapped_at : MapPlace → Option ℕ → List (Section (List ℕ)) → Result MappedPlace Refusal
mapped_at place None set = Ok NotAsked
mapped_at place (Some pos) set = if nat_le pos (old_size set)
    then Ok (place_at (map_pos counted (lengths spelled set) pos (is_negative place.side) place.mode))
    else bad (codes "pos")

-- where the position that is asked for goes; one past the length of the text that the set is over is refused
unfoldable pub mapped_place : MapPlace → List (Section (List ℕ)) → Result MappedPlace Refusal
mapped_place place set = mapped_at place place.pos set

-- both sets, the second one over the text that it refers to, or the first refusal
unfoldable pub both_sets : MapParts → Result (List (Section (List ℕ)) × List (Section (List ℕ))) Refusal
both_sets request = do
  a ← set_of request.sets.a (length (cut request.sets.doc))
  b ← set_of request.sets.b (second_len request.op a (cut request.sets.doc))
  Ok (a, b)

-- the set that is answered, and its text
unfoldable pub answer_of : MapParts → Result (List (Section (List ℕ)) × List ℕ) Refusal
answer_of request = both_sets request >>= λ sets.
    let set = answered_set request.op request.protect sets.0 sets.1 (cut request.sets.doc) in
    Ok (set, answered_text request.op set sets.0 (cut request.sets.doc))

abbrev pub parts_of : List (Section (List ℕ)) → List ℕ → MappedPlace → MappedParts
parts_of set text place = record { set = set; text = text; place = place }

abbrev pub with_place : MapPlace → List (Section (List ℕ)) → List ℕ → Result MappedParts Refusal
with_place place set text = mapped_place place set >>= λ found. Ok (parts_of set text found)

-- what is answered to `map`
unfoldable pub mapped : MapParts → Result MappedParts Refusal
mapped request = answer_of request >>= λ answer. with_place request.place answer.0 answer.1
