-- What a builder of texts has put together. For private clauses.
use Rattle.std.specs.Prelude.{ℕ, List, [], ◌∷◌, ◌++◌}
use Rattle.line_tree.specs.Text.{line_feed}
use Rattle.line_tree.specs.declared.builder.Done.{Done}
use Rattle.line_tree.specs.declared.builder.Done.TheVariants.{Nothing, Open, Ended}

-- the characters before the last lines
abbrev pub characters_of : Done → List ℕ
characters_of Nothing = []
characters_of (Open text) = text.characters
characters_of (Ended text) = text.characters ++ line_feed ∷ []
