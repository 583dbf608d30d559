-- The command that `clap` is given, and what it finds in the words.
use Rattle.std.specs.Prelude.{ℕ, ◌==◌, List, [], ◌∷◌, Option, Some, None, option_map, codes, if◌then◌else◌, Bool, true, false}
use Rattle.std.specs.Option.{option_and_then}
use Rattle.std.specs.Str.{bytes_eq, chars}
use Rattle.std.specs.Str.Parse.{digits_value}
use Rattle.clap.specs.Simple.{App, Shape, new_rule, new_shape}
use Rattle.clap.specs.Walk.{Row, Rule, Text, first_of}
use Rattle.clap.specs.declared.builder.value_parser.ValueParser.{ValueParser}
use Rattle.clap.specs.declared.builder.value_parser.ValueParser.TheVariants as parser
use Rattle.viewport.specs.declared.viewport.TheConstants.{MAX_SIZE}
use Rattle.workload.specs.MadeLines.{max_transactions}
use Rattle.words.specs.Words.{Invocation, Replay, Collab, Edit, Make, is_number}

-- whether a text begins with this byte
abbrev pub begins_with : ℕ → Text → Bool
begins_with byte [] = false
begins_with byte (b ∷ bs) = b == byte

-- an argument that has to be given, with a value that this parser takes
abbrev pub argument : Text → ValueParser → Rule
argument id takes = record (new_rule id) { required = true; parser = Some takes }

-- a subcommand with these arguments
abbrev pub form : Text → List Rule → Shape
form name arguments = record (new_shape name) { rules = arguments }

-- one of the four forms has to be given, and the program's name isn't among the words; there is no help
abbrev pub command : App
command = record {
  top = record (new_shape (codes "ccm")) {
    is_leaf = false;
    no_binary_name = true;
    disable_help_flag = true;
    disable_help_subcommand = true;
    subcommand_required = true;
  };
  subs = form (codes "replay") []
      ∷ form (codes "collab") []
      ∷ form (codes "edit")
      (argument (codes "FILE") parser.NonEmptyString
      ∷ argument (codes "ROWS") (parser.Unsigned 1 MAX_SIZE)
      ∷ argument (codes "COLS") (parser.Unsigned 1 MAX_SIZE)
      ∷ [])
      ∷ form (codes "make") (argument (codes "N") (parser.Unsigned 1 max_transactions) ∷ [])
      ∷ [];
}

-- the number that a text of 1 to `places` decimal digits writes
abbrev pub written : (places : ℕ) → Text → Option ℕ
written places text = if is_number places text then Some (digits_value 10 text) else None

-- the number that was given for an argument
abbrev pub number_in : (places : ℕ) → (id : Text) → List Row → Option ℕ
number_in places id rows = option_and_then (written places) (first_of id rows)

-- what `edit` with these arguments asks for
abbrev pub edit_in : List Row → Option Invocation
edit_in rows = option_and_then (λ file. option_and_then (λ r. option_map (λ c. Edit (chars file) r c) (number_in 3 (codes "COLS") rows)) (number_in 3 (codes "ROWS") rows)) (first_of (codes "FILE") rows)

-- what a subcommand with these arguments asks for
abbrev pub form_in : Text → List Row → Option Invocation
form_in name rows =
    if bytes_eq name (codes "replay") then Some Replay
    else (if bytes_eq name (codes "collab") then Some Collab
    else (if bytes_eq name (codes "edit") then edit_in rows
    else (if bytes_eq name (codes "make") then option_map Make (number_in 7 (codes "N") rows)
    else None)))

-- what the subcommand that was met asks for
abbrev pub found : Option (Text × List Row) → Option Invocation
found met = option_and_then (λ p. form_in p.0 p.1) met
