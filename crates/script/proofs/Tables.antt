-- Each object of a script is accepted exactly where its fields all fit and it has no other member.
use Rattle.std.proofs.Common.{◌≡◌, ℕ, List, [], ◌∷◌, true, false, Result, Ok, Err, is_ok, pos, codes, bytes_eq, refl}
use Rattle.serde_json.specs.Data.{Data, null, boolean, number, string, array, object, no_items, item}
use Rattle.change_desc.specs.declared.map_mode.MapMode.TheVariants.{Simple}
use Rattle.script.specs.declared.refusal.Refusal.{Refusal}
use Rattle.script.specs.declared.command.Command.TheVariants.{Update, Text, Selection, Map}
use Rattle.script.specs.Reading.{◌>>=◌, text_at, number_at, side_at, flag_at, item_at, no_item_at, list_of}
use Rattle.script.specs.Values.{value_at}
use Rattle.script.specs.Words.{op_at, mode_at}
use Rattle.script.specs.Command.{change_of, range_of, selected_of, main_of, first_selection_of, given_selection_of, annotation_of, notes_of, flags_of, spec_of, update_of, start_of, no_fields_of, text_of, selection_of, map_sets_of, map_place_of, map_op_of, map_request_of, map_of, command_named}
use Rattle.script.specs.Lines.{line_command}
use Rattle.script.specs.Accepted.{ReadsExactly, is_accepted, is_list_of, is_pair_of, is_command, is_line}
use Rattle.script.specs.Tables.{change_fields, selection_fields, annotation_fields, notes_fields, flags_fields, spec_fields, start_fields, map_fields, commands}
use Rattle.script.proofs.Accepting.{Reads, on, end, link, need, need_number, need_text, have, have_or_none, last, accepts, made, bare, list, either, line-exactly}

pub change-exactly : (name : List ℕ) → ReadsExactly (change_of name) (is_accepted change_fields)
unfolding change_of
change-exactly name d = accepts change_fields name d _ λ members.
    on (need_number (codes "from") d) λ from.
    on (have (codes "to") number_at from d) λ to.
    on (have (codes "insert") text_at [] d) λ insert.
    last change_fields members _ d

pub changes-exactly : (name : List ℕ) → ReadsExactly (list_of change_of name) (is_list_of (is_accepted change_fields))
changes-exactly name = list change_of (is_accepted change_fields) name (change-exactly name)

-- a range is a list of two numbers
blocked : {A B : Type 0} (read : Result A Refusal) (next : A → Result B Refusal) → ((x : A) → is_ok (next x) ≡ false) → is_ok (read >>= next) ≡ false
blocked (Ok x) next h = h x
blocked (Err r) next h = refl

pub range-exactly : (name : List ℕ) → ReadsExactly (range_of name) (is_pair_of (λ d. is_ok (number_at name d)))
unfolding range_of item_at no_item_at
range-exactly name null = refl
range-exactly name (boolean b) = refl
range-exactly name (number n) = refl
range-exactly name (string s) = refl
range-exactly name (array no_items) = refl
range-exactly name (array (item a no_items)) = blocked (number_at name a) _ (λ from. refl)
range-exactly name (array (item a (item b no_items))) = link (number_at name a) _ _ _ refl (λ from. made (number_at name b) (λ to. (from, to)) _ refl)
range-exactly name (array (item a (item b (item c ds)))) = blocked (number_at name a) _ (λ from. blocked (number_at name b) _ (λ to. refl))
range-exactly name (object ms) = refl

pub selected-exactly : (name : List ℕ) → ReadsExactly (selected_of name) (is_pair_of (λ d. is_ok (number_at name d)))
unfolding selected_of
selected-exactly name d = made (range_of name d) _ _ (range-exactly name d)

pub annotation-exactly : (name : List ℕ) → ReadsExactly (annotation_of name) (is_accepted annotation_fields)
unfolding annotation_of
annotation-exactly name d = accepts annotation_fields name d _ λ members.
    on (need_text (codes "type") d) λ kind.
    on (need (codes "value") value_at d) λ value.
    last annotation_fields members _ d

-- the parts that more than one object has
pub first_selection-reads : (d : Data) → Reads d selection_fields true (first_selection_of d)
unfolding first_selection_of main_of
first_selection-reads d =
    on (have (codes "selection") (list_of selected_of) (record { anchor = 0; head = 0 } ∷ []) d) λ ranges.
    on (have (codes "main") number_at 0 d) λ main.
    end d _

pub given_selection-reads : (d : Data) → Reads d selection_fields true (given_selection_of d)
unfolding given_selection_of main_of
given_selection-reads d =
    on (have_or_none (codes "selection") (list_of selected_of) d) λ ranges.
    on (have (codes "main") number_at 0 d) λ main.
    end d _

pub notes-reads : (d : Data) → Reads d notes_fields true (notes_of d)
unfolding notes_of
notes-reads d =
    on (have (codes "annotations") (list_of annotation_of) [] d) λ annotations.
    on (have_or_none (codes "userEvent") text_at d) λ event.
    end d _

pub flags-reads : (d : Data) → Reads d flags_fields true (flags_of d)
unfolding flags_of
flags-reads d =
    on (have (codes "sequential") flag_at false d) λ sequential.
    on (have (codes "filter") flag_at true d) λ filter.
    end d _

pub spec-exactly : (name : List ℕ) → ReadsExactly (spec_of name) (is_accepted spec_fields)
unfolding spec_of
spec-exactly name d = accepts spec_fields name d _ λ members.
    on (have (codes "changes") (list_of change_of) [] d) λ changes.
    on (given_selection-reads d) λ selection.
    on (notes-reads d) λ notes.
    on (flags-reads d) λ flags.
    last spec_fields members _ d

pub start-exactly : ReadsExactly start_of (is_accepted start_fields)
unfolding start_of
start-exactly d = accepts start_fields (codes "start") d _ λ members.
    on (have (codes "doc") text_at [] d) λ doc.
    on (first_selection-reads d) λ selection.
    last start_fields members _ d

pub no_fields-exactly : (name : List ℕ) → ReadsExactly (no_fields_of name) (is_accepted [])
unfolding no_fields_of
no_fields-exactly name = bare name

pub map_request-exactly : ReadsExactly map_request_of (is_accepted map_fields)
unfolding map_request_of map_sets_of map_op_of map_place_of
map_request-exactly d = accepts map_fields (codes "map") d _ λ members.
    on (on (need_text (codes "doc") d) λ doc.
    on (need (codes "a") (list_of change_of) d) λ a.
    on (have (codes "b") (list_of change_of) [] d) λ b.
    end d _) λ sets.
    on (on (need (codes "op") op_at d) λ op.
    on (have (codes "protect") (list_of range_of) [] d) λ protect.
    end d _) λ how.
    on (on (have_or_none (codes "pos") number_at d) λ at.
    on (have (codes "side") side_at (pos 1) d) λ side.
    on (have (codes "mode") mode_at Simple d) λ mode.
    end d _) λ place.
    last map_fields members _ d

pub command-exactly : (name : List ℕ) → ReadsExactly (command_named name) (is_command commands name)
unfolding command_named update_of text_of selection_of map_of
command-exactly name d =
    either (bytes_eq name (codes "start")) _ _ _ _ (start-exactly d)
    (either (bytes_eq name (codes "update")) _ _ _ _ (made (list_of spec_of (codes "update") d) Update _ (list spec_of (is_accepted spec_fields) (codes "update") (spec-exactly (codes "update")) d))
    (either (bytes_eq name (codes "text")) _ _ _ _ (made (no_fields_of (codes "text") d) (λ known. Text) _ (no_fields-exactly (codes "text") d))
    (either (bytes_eq name (codes "selection")) _ _ _ _ (made (no_fields_of (codes "selection") d) (λ known. Selection) _ (no_fields-exactly (codes "selection") d))
    (either (bytes_eq name (codes "map")) _ _ _ _ (made (map_request_of d) Map _ (map_request-exactly d)) refl))))

-- a line is a command exactly where it is one of these
pub lines-exactly : (line : List ℕ) → is_ok (line_command command_named line) ≡ is_line (is_command commands) line
lines-exactly = line-exactly command_named (is_command commands) command-exactly
