-- The first draws, the texts of the first three transactions, and lines of each kind of transaction.
use Rattle.std.specs.Prelude.{◌≡◌, [], ◌∷◌, codes, refl}
use Rattle.std.specs.Fmt.{digits}
use Rattle.workload.specs.Draws.{draws}
use Rattle.workload.specs.Edits.{after, made_text, next_edit}
use Rattle.workload.specs.MadeLines.{beginning, edit_line}
use Rattle.workload.specs.declared.edit.Edit.TheVariants.{Insert, Delete, Mark}

pub first_draws : draws 9 1 ≡ 16838 ∷ 5758 ∷ 10113 ∷ 17515 ∷ 31051 ∷ 5627 ∷ 23010 ∷ 7419 ∷ 16212 ∷ []
first_draws = refl

pub first_edit : next_edit beginning ≡ Insert 0 7 10113
first_edit = refl

pub first_text : made_text 7 10113 ≡ codes "zabcdef"
first_text = refl

pub second_edit : next_edit (after beginning) ≡ Insert 3 4 5627
second_edit = refl

pub second_text : made_text 4 5627 ≡ codes "lmno"
second_text = refl

pub third_edit : next_edit (after (after beginning)) ≡ Insert 0 4 16212
third_edit = refl

pub third_text : made_text 4 16212 ≡ codes "opqr"
third_text = refl

-- the longest texts end with LF
pub longest_text : made_text 8 0 ≡ codes "abcdefg\n"
longest_text = refl

-- the lines of the first transaction, of a deletion, of a mark, and of a text that ends with LF
pub line_of_insertion : edit_line 100 (Insert 0 7 10113) ≡ codes "{\"update\":[{\"changes\":[{\"from\":0,\"insert\":\"zabcdef\"}],\"annotations\":[{\"type\":\"time\",\"value\":100}]}]}"
unfolding digits
line_of_insertion = refl

pub line_of_deletion : edit_line 500 (Delete 17 21) ≡ codes "{\"update\":[{\"changes\":[{\"from\":17,\"to\":21}],\"annotations\":[{\"type\":\"time\",\"value\":500}]}]}"
unfolding digits
line_of_deletion = refl

pub line_of_mark : edit_line 700 (Mark 6 13) ≡ codes "{\"update\":[{\"effects\":[{\"effect\":\"mark\",\"value\":[6,13]}]}]}"
unfolding digits
line_of_mark = refl

pub line_of_text_with_break : edit_line 800 (Insert 11 8 10311) ≡ codes "{\"update\":[{\"changes\":[{\"from\":11,\"insert\":\"pqrstuv\\n\"}],\"annotations\":[{\"type\":\"time\",\"value\":800}]}]}"
unfolding digits
line_of_text_with_break = refl
