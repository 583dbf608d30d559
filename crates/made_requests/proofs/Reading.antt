-- What is read from an edit's line, as a value.
use Rattle.std.proofs.Common.{◌≡◌, ℕ, ◌^◌, ◌<◌, ◌≤◌, List, [], Option, Some, option_and_then, refl, sym, ap, ◌∙◌, arith, append-nil, codes}
use Rattle.json.specs.Json as json
use Rattle.json.specs.Print.{print}
use Rattle.json.specs.Token.{Token}
use Rattle.json.specs.Tree as tree
use Rattle.json.proofs.Printed.Decimals.{IsNumber-decimal}
use Rattle.json.proofs.Printed.Tokens.{tokens-print}
use Rattle.json.proofs.Printed.Trees.{value-json_tokens, ArePrintable-json_tokens}
use Rattle.serde_json.specs.Data.{Data, unsigned, number, string, array, object, no_items, item, no_members, member}
use Rattle.serde_json.specs.Read.{read, of_json, max_depth}
use Rattle.serde_json.proofs.Numbers.{number_of-decimal}
use Rattle.workload.specs.Edits.{made_text}
use Rattle.workload.specs.MadeLines.{edit_line}
use Rattle.workload.specs.declared.edit.Edit.{Edit}
use Rattle.workload.specs.declared.edit.Edit.TheVariants.{Insert, Delete, Mark}
use Rattle.made_requests.proofs.Trees.{changing_tree, deletion_tree, insertion_tree, marking_tree, time_tree, tree_of, tree_print, update_tree}

-- what was read of a whole text, as a value
abbrev whole : Option (json.Json × List Token) → Option Data
whole found = option_and_then of_json (option_and_then (λ p. json.if_last p.0 p.1) found)

-- the text of a tree is read as the tree is
read_print : (j : json.Json) → tree.HasNumbers j → tree.depth j ≤ 127 → read (print (tree.json_tokens j)) ≡ of_json j
read_print j numbers shallow =
    ap whole (ap (json.value max_depth) (tokens-print (tree.json_tokens j) (ArePrintable-json_tokens j numbers) ∙ sym (append-nil _)) ∙ value-json_tokens j max_depth [] shallow)

-- a list of one value
abbrev pub list_data : Data → Data
list_data d = array (item d no_items)

-- an update of one spec
abbrev pub update_data : Data → Data
update_data spec = object (member (codes "update") (list_data spec) no_members)

-- the annotation of the time
abbrev pub time_data : ℕ → Data
time_data time = object (member (codes "type") (string (codes "time")) (member (codes "value") (number (unsigned time)) no_members))

-- the spec that makes one change, at a time, with its members in order
abbrev pub changing_data : Data → ℕ → Data
changing_data change time = object (member (codes "annotations") (list_data (time_data time)) (member (codes "changes") (list_data change) no_members))

abbrev pub insertion_data : ℕ → List ℕ → Data
insertion_data at text = object (member (codes "from") (number (unsigned at)) (member (codes "insert") (string text) no_members))

abbrev pub deletion_data : ℕ → ℕ → Data
deletion_data from to = object (member (codes "from") (number (unsigned from)) (member (codes "to") (number (unsigned to)) no_members))

-- the effect `mark`
abbrev pub effect_data : ℕ → ℕ → Data
effect_data from to = object (member (codes "effect") (string (codes "mark"))
    (member (codes "value") (array (item (number (unsigned from)) (item (number (unsigned to)) no_items))) no_members))

abbrev pub marking_data : ℕ → ℕ → Data
marking_data from to = object (member (codes "effects") (list_data (effect_data from to)) no_members)

-- what an edit's line says, with its members in order
abbrev pub data_of : ℕ → Edit → Data
data_of time (Insert at size letter) = update_data (changing_data (insertion_data at (made_text size letter)) time)
data_of time (Delete from to) = update_data (changing_data (deletion_data from to) time)
data_of time (Mark from to) = update_data (marking_data from to)

of_insertion : (at time : ℕ) (text : List ℕ) → at < 2 ^ 64 → time < 2 ^ 64 → of_json (update_tree (changing_tree (insertion_tree at text) time)) ≡ Some (update_data (changing_data (insertion_data at text) time))
of_insertion at time text small soon = rw (number_of-decimal at small, number_of-decimal time soon) refl

of_deletion : (from to time : ℕ) → from < 2 ^ 64 → to < 2 ^ 64 → time < 2 ^ 64 → of_json (update_tree (changing_tree (deletion_tree from to) time)) ≡ Some (update_data (changing_data (deletion_data from to) time))
of_deletion from to time a b soon = rw (number_of-decimal from a, number_of-decimal to b, number_of-decimal time soon) refl

of_marking : (from to : ℕ) → from < 2 ^ 64 → to < 2 ^ 64 → of_json (update_tree (marking_tree from to)) ≡ Some (update_data (marking_data from to))
of_marking from to a b = rw (number_of-decimal from a, number_of-decimal to b) refl

-- the time of an update is a number
note_numbers : (time : ℕ) → time < 2 ^ 64 → tree.HasNumbers (time_tree time)
note_numbers time h = (tt, (IsNumber-decimal time h, tt))

changing_numbers : (change : json.Json) (time : ℕ) → tree.HasNumbers change → time < 2 ^ 64 → tree.HasNumbers (update_tree (changing_tree change time))
changing_numbers change time numbers soon = ((((numbers, tt), ((note_numbers time soon, tt), tt)), tt), tt)

marking_numbers : (from to : ℕ) → from < 2 ^ 64 → to < 2 ^ 64 → tree.HasNumbers (update_tree (marking_tree from to))
marking_numbers from to a b = (((((tt, ((IsNumber-decimal from a, (IsNumber-decimal to b, tt)), tt)), tt), tt), tt), tt)

-- the positions of an edit fit 32 bits, and its size fits 8
abbrev pub Fits : Edit → Type 0
Fits (Insert at size letter) = (at < 2 ^ 32) × (size < 2 ^ 8)
Fits (Delete from to) = (from < 2 ^ 32) × (to < 2 ^ 32)
Fits (Mark from to) = (from < 2 ^ 32) × (to < 2 ^ 32)

-- what is read from the line
pub read_line : (time : ℕ) (edit : Edit) → time < 2 ^ 32 → Fits edit → read (edit_line time edit) ≡ Some (data_of time edit)
read_line time (Insert at size letter) soon fits =
    ap read (sym (tree_print time (Insert at size letter)))
    ∙ (read_print (tree_of time (Insert at size letter)) (changing_numbers (insertion_tree at (made_text size letter)) time (IsNumber-decimal at (omega arith), (tt, tt)) (omega arith)) (omega arith)
    ∙ of_insertion at time (made_text size letter) (omega arith) (omega arith))
read_line time (Delete from to) soon fits =
    ap read (sym (tree_print time (Delete from to)))
    ∙ (read_print (tree_of time (Delete from to)) (changing_numbers (deletion_tree from to) time (IsNumber-decimal from (omega arith), (IsNumber-decimal to (omega arith), tt)) (omega arith)) (omega arith)
    ∙ of_deletion from to time (omega arith) (omega arith) (omega arith))
read_line time (Mark from to) soon fits =
    ap read (sym (tree_print time (Mark from to)))
    ∙ (read_print (tree_of time (Mark from to)) (marking_numbers from to (omega arith) (omega arith)) (omega arith) ∙ of_marking from to (omega arith) (omega arith))
