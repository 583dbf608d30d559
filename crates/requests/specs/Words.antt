-- The words that a script writes for precedences, for kinds of decorations, and for commands and moves of the editor.
use Rattle.std.specs.Prelude.{ℕ, List, Option, Some, None, Result, if◌then◌else◌, codes, option_and_then}
use Rattle.std.specs.Str.{bytes_eq}
use Rattle.serde_json.specs.Data.{Data}
use Rattle.serde_json.specs.Find.{as_str}
use Rattle.decoration.specs.declared.kind.Kind.{Kind}
use Rattle.decoration.specs.declared.kind.Kind.TheVariants.{Mark, Widget, Replace, Line}
use Rattle.ext_tree.specs.declared.precedence.Precedence.{Precedence}
use Rattle.ext_tree.specs.declared.precedence.Precedence.TheVariants.{Highest, High, Default, Low, Lowest}
use Rattle.term_keys.specs.declared.key.Move.{Move}
use Rattle.term_keys.specs.declared.key.Move.TheVariants.{Left, Right, Up, Down, LineStart, LineEnd, DocStart, DocEnd}
use Rattle.script.specs.declared.refusal.Refusal.{Refusal}
use Rattle.script.specs.Reading.{or_bad}
use Rattle.requests.specs.declared.do_request.EditorCommand.{EditorCommand}
use Rattle.requests.specs.declared.do_request.EditorCommand.TheVariants as commands

-- how early an extension stands (Reference Manual: Prec)
abbrev pub precedence_named : List ℕ → Option Precedence
precedence_named word =
    if bytes_eq word (codes "highest") then Some Highest
    else (if bytes_eq word (codes "high") then Some High
    else (if bytes_eq word (codes "default") then Some Default
    else (if bytes_eq word (codes "low") then Some Low
    else (if bytes_eq word (codes "lowest") then Some Lowest else None))))

-- what a decoration does (Reference Manual: Decoration)
abbrev pub kind_named : List ℕ → Option Kind
kind_named word =
    if bytes_eq word (codes "mark") then Some Mark
    else (if bytes_eq word (codes "widget") then Some Widget
    else (if bytes_eq word (codes "replace") then Some Replace
    else (if bytes_eq word (codes "line") then Some Line else None)))

-- a command of the editor (Reference Manual: StateCommand)
abbrev pub command_named : List ℕ → Option EditorCommand
command_named word =
    if bytes_eq word (codes "insert") then Some commands.Insert
    else (if bytes_eq word (codes "newline") then Some commands.Newline
    else (if bytes_eq word (codes "deleteBack") then Some commands.DeleteBack
    else (if bytes_eq word (codes "deleteForward") then Some commands.DeleteForward
    else (if bytes_eq word (codes "move") then Some commands.Move
    else (if bytes_eq word (codes "selectAll") then Some commands.SelectAll
    else (if bytes_eq word (codes "undo") then Some commands.Undo
    else (if bytes_eq word (codes "redo") then Some commands.Redo
    else (if bytes_eq word (codes "undoSelection") then Some commands.UndoSelection
    else (if bytes_eq word (codes "redoSelection") then Some commands.RedoSelection else None)))))))))

-- where a cursor is moved
abbrev pub move_named : List ℕ → Option Move
move_named word =
    if bytes_eq word (codes "left") then Some Left
    else (if bytes_eq word (codes "right") then Some Right
    else (if bytes_eq word (codes "up") then Some Up
    else (if bytes_eq word (codes "down") then Some Down
    else (if bytes_eq word (codes "lineStart") then Some LineStart
    else (if bytes_eq word (codes "lineEnd") then Some LineEnd
    else (if bytes_eq word (codes "docStart") then Some DocStart
    else (if bytes_eq word (codes "docEnd") then Some DocEnd else None)))))))

unfoldable pub precedence_at : List ℕ → Data → Result Precedence Refusal
precedence_at name d = or_bad name (option_and_then precedence_named (as_str d))

unfoldable pub kind_at : List ℕ → Data → Result Kind Refusal
kind_at name d = or_bad name (option_and_then kind_named (as_str d))

unfoldable pub command_at : List ℕ → Data → Result EditorCommand Refusal
command_at name d = or_bad name (option_and_then command_named (as_str d))

unfoldable pub move_at : List ℕ → Data → Result Move Refusal
move_at name d = or_bad name (option_and_then move_named (as_str d))
