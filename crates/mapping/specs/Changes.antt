-- A list of changes of a script line as a set of changes over a document (Reference Manual: ChangeSet.of).
use Rattle.std.specs.Prelude.{ℕ, List, option_and_then, Result}
use Rattle.line_tree.specs.Text.{max_len}
use Rattle.change_desc.specs.declared.section.Section.{Section}
use Rattle.change_desc.specs.Sections.{spelled}
use Rattle.change_desc.specs.Of.{of}
use Rattle.change_set.specs.declared.change.Change.{Change}
use Rattle.change_set.specs.Changes.{as_sets}
use Rattle.change_set.specs.Refusals.{refusal}
use Rattle.script.specs.declared.refusal.Refusal.{Refusal}
use Rattle.script.specs.Refused.{changes_refusal, unless}

-- the set that a list of changes of a document of this length makes, or its first refusal
unfoldable pub set_of : List Change → ℕ → Result (List (Section (List ℕ))) Refusal
set_of changes len = unless (option_and_then changes_refusal (refusal len max_len changes)) (of spelled len (as_sets len changes))
