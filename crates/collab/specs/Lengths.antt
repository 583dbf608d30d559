-- Texts that are too long.
use Rattle.std.specs.Prelude.{ℕ, cond, ltb, List, [], ◌∷◌, length, Option, Some, None}
use Rattle.line_tree.specs.Text.{max_len}
use Rattle.change_desc.specs.Sections.{apply}
use Rattle.collab.specs.declared.error.CollabError.{CollabError}
use Rattle.collab.specs.declared.error.CollabError.TheVariants.{TooLong}
use Rattle.collab.specs.declared.update.Update.{Update}

-- the lengths of a text after each of some updates in turn
abbrev pub lengths_after : (text : List ℕ) → List Update → List ℕ
lengths_after text [] = []
lengths_after text (u ∷ us) = length (apply u.changes text) ∷ lengths_after (apply u.changes text) us

-- the lengths of a text with none, then some, then all of some updates applied in turn
abbrev pub lengths_with : (text : List ℕ) → List Update → List ℕ
lengths_with text us = length text ∷ lengths_after text us

-- the first of some lengths that is past the limit
abbrev pub too_long : List ℕ → Option CollabError
too_long [] = None
too_long (n ∷ ns) = cond (ltb max_len n) (Some (TooLong n max_len)) (too_long ns)
