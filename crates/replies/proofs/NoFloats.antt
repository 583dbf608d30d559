-- A reply has no number with a fraction.
use Rattle.std.proofs.Common.{◌≡◌, ℕ, List, [], ◌∷◌, false, ◌||◌, map, refl, ap}
use Rattle.serde_json.specs.Data.{object, array, string, member, no_members}
use Rattle.serde_json.specs.View.{items_of}
use Rattle.serde_json.specs.Written.{has_float, items_have_float}
use Rattle.std.specs.Prelude.{codes, encode_utf8_all, pos, negsuc}
use Rattle.change_desc.specs.declared.section.Section.{Section}
use Rattle.change_desc.specs.declared.section.Section.TheVariants.{Keep, Replace}
use Rattle.selection.specs.declared.range.Range.{Range}
use Rattle.replies.specs.declared.mapped.MappedPlace.{MappedPlace}
use Rattle.replies.specs.declared.mapped.MappedPlace.TheVariants.{NotAsked, Deleted, At}
use Rattle.script.specs.declared.declaration_refusal.DeclarationRefusal.{DeclarationRefusal}
use Rattle.script.specs.declared.declaration_refusal.DeclarationRefusal.TheVariants.{Reversed, NotSorted, EmptyMark, NotEmpty, BadReplace, BadSide, NotLineStart, UnknownRule, StaticFacet, WrongShape, BadInverse, InverseTaken, TooMany}
use Rattle.script.specs.declared.extension_refusal.ExtensionRefusal.{ExtensionRefusal}
use Rattle.script.specs.declared.extension_refusal.ExtensionRefusal.TheVariants.{DuplicateCompartment, CompartmentLoop, Cycle}
use Rattle.script.specs.declared.file_refusal.FileRefusal.{FileRefusal}
use Rattle.script.specs.declared.file_refusal.FileRefusal.TheVariants.{FileMissing, FileNotUtf8}
use Rattle.script.specs.declared.window_refusal.WindowRefusal.{WindowRefusal}
use Rattle.script.specs.declared.window_refusal.WindowRefusal.TheVariants.{BadRows, BadCols}
use Rattle.script.specs.declared.refusal.Refusal.{Refusal}
use Rattle.script.specs.declared.refusal.Refusal.TheVariants.{LineTooLong, NotUtf8, NotJson, NotCommand, BadValue, UnknownName, NameTaken, NoSession, BadRange, LengthMismatch, TooLong, NoRanges, BadMain, SelectionOutside, UnknownEffect, UnknownCompartment, Declaration, Extensions, File, Window, Stale, Ahead}
use Rattle.replies.specs.declared.answer.Answer.{Answer}
use Rattle.replies.specs.declared.answer.Answer.TheVariants.{Nothing, Length, Done, Bytes, Text, Selection, Value, Mapped, Screen, Summary, Version, Message, Client, Authority}
use Rattle.replies.specs.declared.answer.Reply.{Reply}
use Rattle.replies.specs.declared.answer.Reply.TheVariants.{Ok, No}
use Rattle.replies.specs.declared.shown.ShownRange.{ShownRange}
use Rattle.replies.specs.declared.shown.Shown.{Shown}
use Rattle.replies.specs.declared.shown.Shown.TheVariants.{Plain, Ranges, Layers, History, Absent}
use Rattle.replies.specs.declared.shown_screen.ShownRun.{ShownRun}
use Rattle.cm_plain.specs.Datum as plain
use Rattle.cm_plain.specs.Plain.{datum_of}
use Rattle.replies.specs.Refusals.{declaration_data, extension_data, file_data, window_data, refusal_data}
use Rattle.replies.specs.Shown.{plain_data, plain_items, shown_range, shown_ranges, shown_data}
use Rattle.replies.specs.Screens.{run_data, row_data}
use Rattle.replies.specs.Replies.{section_data, range_data, with_place, answer_data, reply_data}

sections_have_none : (sections : List (Section (List ℕ))) → items_have_float (items_of (map section_data sections)) ≡ false
sections_have_none [] = refl
sections_have_none (Keep n ∷ sections) = sections_have_none sections
sections_have_none (Replace n text ∷ sections) = sections_have_none sections

ranges_have_none : (ranges : List Range) → items_have_float (items_of (map range_data ranges)) ≡ false
ranges_have_none [] = refl
ranges_have_none (r ∷ ranges) = ranges_have_none ranges

mapped_has_none : (place : MappedPlace) (sections : List (Section (List ℕ))) (text : List ℕ)
    → has_float (object (with_place place (member (codes "sections") (array (items_of (map section_data sections))) (member (codes "text") (string text) no_members)))) ≡ false
mapped_has_none NotAsked sections text = ap (λ b. b || false) (sections_have_none sections)
mapped_has_none Deleted sections text = ap (λ b. b || false) (sections_have_none sections)
mapped_has_none (At n) sections text = ap (λ b. b || false) (sections_have_none sections)

declaration_has_none : (refusal : DeclarationRefusal) → has_float (declaration_data refusal) ≡ false
declaration_has_none (Reversed index) = refl
declaration_has_none (NotSorted index) = refl
declaration_has_none EmptyMark = refl
declaration_has_none NotEmpty = refl
declaration_has_none BadReplace = refl
declaration_has_none (BadSide (pos n)) = refl
declaration_has_none (BadSide (negsuc n)) = refl
declaration_has_none (NotLineStart place) = refl
declaration_has_none (UnknownRule sort n) = refl
declaration_has_none (StaticFacet facet) = refl
declaration_has_none (WrongShape id) = refl
declaration_has_none (BadInverse effect back) = refl
declaration_has_none (InverseTaken effect) = refl
declaration_has_none (TooMany kind) = refl

texts_have_none : (texts : List (List ℕ)) → items_have_float (items_of (map (λ text. string (encode_utf8_all text)) texts)) ≡ false
texts_have_none [] = refl
texts_have_none (text ∷ texts) = texts_have_none texts

extension_has_none : (refusal : ExtensionRefusal) → has_float (extension_data refusal) ≡ false
extension_has_none (DuplicateCompartment compartment first second) = refl
extension_has_none (CompartmentLoop path) = ap (λ b. b || false) (texts_have_none path)
extension_has_none (Cycle members) = ap (λ b. b || false) (texts_have_none members)

file_has_none : (refusal : FileRefusal) → has_float (file_data refusal) ≡ false
file_has_none (FileMissing name) = refl
file_has_none (FileNotUtf8 name) = refl

window_has_none : (refusal : WindowRefusal) → has_float (window_data refusal) ≡ false
window_has_none (BadRows n) = refl
window_has_none (BadCols n) = refl

refusal_has_none : (refusal : Refusal) → has_float (refusal_data refusal) ≡ false
refusal_has_none LineTooLong = refl
refusal_has_none NotUtf8 = refl
refusal_has_none NotJson = refl
refusal_has_none (NotCommand field) = refl
refusal_has_none (BadValue field) = refl
refusal_has_none (UnknownName name) = refl
refusal_has_none (NameTaken name) = refl
refusal_has_none NoSession = refl
refusal_has_none (BadRange index from to len) = refl
refusal_has_none (LengthMismatch want have) = refl
refusal_has_none (TooLong len most) = refl
refusal_has_none NoRanges = refl
refusal_has_none (BadMain main count) = refl
refusal_has_none (SelectionOutside at len) = refl
refusal_has_none (UnknownEffect id) = refl
refusal_has_none (UnknownCompartment id) = refl
refusal_has_none (Declaration refusal) = declaration_has_none refusal
refusal_has_none (Extensions refusal) = extension_has_none refusal
refusal_has_none (File refusal) = file_has_none refusal
refusal_has_none (Window refusal) = window_has_none refusal
refusal_has_none (Stale version) = refl
refusal_has_none (Ahead from version) = refl

mutual
  plain_has_none : (d : plain.Datum) → has_float (plain_data d) ≡ false
  plain_has_none plain.unit = refl
  plain_has_none (plain.boolean b) = refl
  plain_has_none (plain.number (pos n)) = refl
  plain_has_none (plain.number (negsuc n)) = refl
  plain_has_none (plain.text s) = refl
  plain_has_none (plain.list ds) = items_have_none ds

  items_have_none : (ds : plain.Data) → items_have_float (plain_items ds) ≡ false
  items_have_none plain.no_data = refl
  items_have_none (plain.datum d ds) = rw (plain_has_none d) (items_have_none ds)

shown_ranges_have_none : (ranges : List ShownRange) → items_have_float (items_of (map shown_range ranges)) ≡ false
shown_ranges_have_none [] = refl
shown_ranges_have_none (r ∷ ranges) = shown_ranges_have_none ranges

sets_have_none : (sets : List (List ShownRange)) → items_have_float (items_of (map shown_ranges sets)) ≡ false
sets_have_none [] = refl
sets_have_none (set ∷ sets) = rw (shown_ranges_have_none set) (sets_have_none sets)

shown_has_none : (shown : Shown) → has_float (shown_data shown) ≡ false
shown_has_none (Plain p) = plain_has_none (datum_of p)
shown_has_none (Ranges ranges) = shown_ranges_have_none ranges
shown_has_none (Layers sets) = sets_have_none sets
shown_has_none (History done undone) = refl
shown_has_none Absent = refl

runs_have_none : (runs : List ShownRun) → items_have_float (items_of (map run_data runs)) ≡ false
runs_have_none [] = refl
runs_have_none (r ∷ runs) = runs_have_none runs

rows_have_none : (rows : List (List ShownRun)) → items_have_float (items_of (map row_data rows)) ≡ false
rows_have_none [] = refl
rows_have_none (row ∷ rows) = rw (runs_have_none row) (rows_have_none rows)

answer_has_none : (answer : Answer) → has_float (answer_data answer) ≡ false
answer_has_none Nothing = refl
answer_has_none (Length len) = refl
answer_has_none (Done done len) = refl
answer_has_none (Bytes count) = refl
answer_has_none (Text text) = refl
answer_has_none (Selection selection) = ap (λ b. b || false) (ranges_have_none selection.ranges)
answer_has_none (Mapped m) = mapped_has_none m.place m.set _
answer_has_none (Value shown) = shown_has_none shown
answer_has_none (Screen screen) = ap (λ b. b || false) (rows_have_none screen.rows)
answer_has_none (Summary summary) = refl
answer_has_none (Version version) = refl
answer_has_none (Message n) = refl
answer_has_none (Client pending text version) = refl
answer_has_none (Authority text version) = refl

-- no reply has one
pub reply_has_none : (reply : Reply) → has_float (reply_data reply) ≡ false
reply_has_none (Ok answer) = ap (λ b. b || false) (answer_has_none answer)
reply_has_none (No refusal) = ap (λ b. b || false) (refusal_has_none refusal)
