-- An edit's line is the JSON text of a tree.
use Rattle.std.proofs.Common.{◌≡◌, ℕ, List, [], ◌∷◌, ◌++◌, refl, append_assoc, codes}
use Rattle.std.specs.Fmt.{decimal}
use Rattle.json.specs.Json.{Json, number, string, array, object, no_items, item, no_members, member}
use Rattle.json.specs.Print.{print, print_from, escape_byte}
use Rattle.json.specs.Tree.{json_tokens}
use Rattle.workload.specs.Edits.{made_text}
use Rattle.workload.specs.MadeLines.{edit_line, written_text, delete_line, mark_line}
use Rattle.workload.specs.declared.edit.Edit.{Edit}
use Rattle.workload.specs.declared.edit.Edit.TheVariants.{Insert, Delete, Mark}
use Rattle.made_requests.proofs.Texts.{escape_made}

-- a list of one value
abbrev pub list_tree : Json → Json
list_tree j = array (item j no_items)

-- an update of one spec
abbrev pub update_tree : Json → Json
update_tree spec = object (member (codes "update") (list_tree spec) no_members)

-- the annotation of the time
abbrev pub time_tree : ℕ → Json
time_tree time = object (member (codes "type") (string (codes "time")) (member (codes "value") (number (decimal time)) no_members))

-- the spec that makes one change, at a time
abbrev pub changing_tree : Json → ℕ → Json
changing_tree change time = object (member (codes "changes") (list_tree change) (member (codes "annotations") (list_tree (time_tree time)) no_members))

abbrev pub insertion_tree : ℕ → List ℕ → Json
insertion_tree at text = object (member (codes "from") (number (decimal at)) (member (codes "insert") (string text) no_members))

abbrev pub deletion_tree : ℕ → ℕ → Json
deletion_tree from to = object (member (codes "from") (number (decimal from)) (member (codes "to") (number (decimal to)) no_members))

-- the effect `mark`
abbrev pub effect_tree : ℕ → ℕ → Json
effect_tree from to = object (member (codes "effect") (string (codes "mark"))
    (member (codes "value") (array (item (number (decimal from)) (item (number (decimal to)) no_items))) no_members))

abbrev pub marking_tree : ℕ → ℕ → Json
marking_tree from to = object (member (codes "effects") (list_tree (effect_tree from to)) no_members)

-- what an edit's line says
abbrev pub tree_of : ℕ → Edit → Json
tree_of time (Insert at size letter) = update_tree (changing_tree (insertion_tree at (made_text size letter)) time)
tree_of time (Delete from to) = update_tree (changing_tree (deletion_tree from to) time)
tree_of time (Mark from to) = update_tree (marking_tree from to)

delete_print : (time from to : ℕ) → print (json_tokens (update_tree (changing_tree (deletion_tree from to) time))) ≡ delete_line time from to
unfolding print_from escape_byte
delete_print time from to = refl

mark_print : (from to : ℕ) → print (json_tokens (update_tree (marking_tree from to))) ≡ mark_line from to
unfolding print_from escape_byte
mark_print from to = refl

-- five parts of a line, however they were put together
regroup : (start digits middle text end : List ℕ) → start ++ (digits ++ (middle ++ ((text ++ 34 ∷ []) ++ end))) ≡ ((start ++ digits) ++ middle) ++ text ++ (34 ∷ end)
regroup start digits middle text end = simp append_assoc

insert_print : (time at size letter : ℕ) → print (json_tokens (update_tree (changing_tree (insertion_tree at (made_text size letter)) time))) ≡ edit_line time (Insert at size letter)
unfolding print_from escape_byte
insert_print time at size letter =
    rw (escape_made size letter) (regroup (codes "{\"update\":[{\"changes\":[{\"from\":") (decimal at) (codes ",\"insert\":\"") (written_text size letter)
    (codes "}],\"annotations\":[{\"type\":\"time\",\"value\":" ++ decimal time ++ codes "}]}]}"))

pub tree_print : (time : ℕ) (edit : Edit) → print (json_tokens (tree_of time edit)) ≡ edit_line time edit
tree_print time (Insert at size letter) = insert_print time at size letter
tree_print time (Delete from to) = delete_print time from to
tree_print time (Mark from to) = mark_print from to
