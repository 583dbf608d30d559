-- A refusal as it is written: its code and its values by name, in byte order of the names.
use Rattle.std.specs.Prelude.{codes, encode_utf8_all}
use Rattle.serde_json.specs.Data.{Data, number, string, object, no_members, member}
use Rattle.serde_json.specs.Find.{of_integer}
use Rattle.script.specs.declared.declaration_refusal.DeclarationRefusal.{DeclarationRefusal}
use Rattle.script.specs.declared.declaration_refusal.DeclarationRefusal.TheVariants.{Reversed, NotSorted, EmptyMark, NotEmpty, BadReplace, BadSide, NotLineStart, UnknownRule, StaticFacet, WrongShape, BadInverse, InverseTaken, TooMany}
use Rattle.script.specs.declared.extension_refusal.ExtensionRefusal.{ExtensionRefusal}
use Rattle.script.specs.declared.extension_refusal.ExtensionRefusal.TheVariants.{DuplicateCompartment, CompartmentLoop, Cycle}
use Rattle.script.specs.declared.file_refusal.FileRefusal.{FileRefusal}
use Rattle.script.specs.declared.file_refusal.FileRefusal.TheVariants.{FileMissing, FileNotUtf8}
use Rattle.script.specs.declared.window_refusal.WindowRefusal.{WindowRefusal}
use Rattle.script.specs.declared.window_refusal.WindowRefusal.TheVariants.{BadRows, BadCols}
use Rattle.script.specs.declared.refusal.Refusal.{Refusal}
use Rattle.script.specs.declared.refusal.Refusal.TheVariants.{LineTooLong, NotUtf8, NotJson, NotCommand, BadValue, UnknownName, NameTaken, NoSession, BadRange, LengthMismatch, TooLong, NoRanges, BadMain, SelectionOutside, UnknownEffect, UnknownCompartment, Declaration, Extensions, File, Window, Stale, Ahead}
use Rattle.replies.specs.Objects.{coded, text_member, texts_data, whole}

-- a refusal of a declaration
abbrev pub declaration_data : DeclarationRefusal → Data
declaration_data (Reversed index) = coded (codes "Reversed") (member (codes "index") (whole index) no_members)
declaration_data (NotSorted index) = coded (codes "NotSorted") (member (codes "index") (whole index) no_members)
declaration_data EmptyMark = coded (codes "EmptyMark") no_members
declaration_data NotEmpty = coded (codes "NotEmpty") no_members
declaration_data BadReplace = coded (codes "BadReplace") no_members
declaration_data (BadSide side) = coded (codes "BadSide") (member (codes "side") (number (of_integer side)) no_members)
declaration_data (NotLineStart place) = coded (codes "NotLineStart") (member (codes "pos") (whole place) no_members)
declaration_data (UnknownRule sort n) = coded (codes "UnknownRule") (member (codes "number") (whole n) (text_member (codes "sort") sort no_members))
declaration_data (StaticFacet facet) = coded (codes "StaticFacet") (text_member (codes "facet") facet no_members)
declaration_data (WrongShape id) = coded (codes "WrongShape") (text_member (codes "id") id no_members)
declaration_data (BadInverse effect back) = object (text_member (codes "back") back (member (codes "code") (string (codes "BadInverse")) (text_member (codes "effect") effect no_members)))
declaration_data (InverseTaken effect) = coded (codes "InverseTaken") (text_member (codes "effect") effect no_members)
declaration_data (TooMany kind) = coded (codes "TooMany") (text_member (codes "kind") kind no_members)

-- a refusal of extensions
abbrev pub extension_data : ExtensionRefusal → Data
extension_data (DuplicateCompartment compartment first second) =
    coded (codes "DuplicateCompartment") (text_member (codes "compartment") compartment (text_member (codes "first") first (text_member (codes "second") second no_members)))
extension_data (CompartmentLoop path) = coded (codes "CompartmentLoop") (member (codes "path") (texts_data path) no_members)
extension_data (Cycle members) = coded (codes "Cycle") (member (codes "members") (texts_data members) no_members)

-- a refusal of a file
abbrev pub file_data : FileRefusal → Data
file_data (FileMissing name) = coded (codes "FileMissing") (text_member (codes "name") name no_members)
file_data (FileNotUtf8 name) = coded (codes "FileNotUtf8") (text_member (codes "name") name no_members)

-- a refusal of a window's size
abbrev pub window_data : WindowRefusal → Data
window_data (BadRows n) = coded (codes "BadRows") (member (codes "n") (whole n) no_members)
window_data (BadCols n) = coded (codes "BadCols") (member (codes "n") (whole n) no_members)

-- a refusal
abbrev pub refusal_data : Refusal → Data
refusal_data LineTooLong = coded (codes "LineTooLong") no_members
refusal_data NotUtf8 = coded (codes "NotUtf8") no_members
refusal_data NotJson = coded (codes "NotJson") no_members
refusal_data (NotCommand field) = coded (codes "NotCommand") (member (codes "field") (string (encode_utf8_all field)) no_members)
refusal_data (BadValue field) = coded (codes "BadValue") (member (codes "field") (string (encode_utf8_all field)) no_members)
refusal_data (UnknownName name) = coded (codes "UnknownName") (member (codes "name") (string (encode_utf8_all name)) no_members)
refusal_data (NameTaken name) = coded (codes "NameTaken") (member (codes "name") (string (encode_utf8_all name)) no_members)
refusal_data NoSession = coded (codes "NoSession") no_members
refusal_data (BadRange index from to len) = coded (codes "BadRange")
    (member (codes "from") (whole from) (member (codes "index") (whole index) (member (codes "len") (whole len) (member (codes "to") (whole to) no_members))))
refusal_data (LengthMismatch want have) = coded (codes "LengthMismatch") (member (codes "have") (whole have) (member (codes "want") (whole want) no_members))
refusal_data (TooLong len most) = coded (codes "TooLong") (member (codes "len") (whole len) (member (codes "max") (whole most) no_members))
refusal_data NoRanges = coded (codes "NoRanges") no_members
refusal_data (BadMain main count) = coded (codes "BadMain") (member (codes "count") (whole count) (member (codes "main") (whole main) no_members))
refusal_data (SelectionOutside at len) = coded (codes "SelectionOutside") (member (codes "len") (whole len) (member (codes "pos") (whole at) no_members))
refusal_data (UnknownEffect id) = coded (codes "UnknownEffect") (member (codes "id") (whole id) no_members)
refusal_data (UnknownCompartment id) = coded (codes "UnknownCompartment") (member (codes "id") (whole id) no_members)
refusal_data (Declaration refusal) = declaration_data refusal
refusal_data (Extensions refusal) = extension_data refusal
refusal_data (File refusal) = file_data refusal
refusal_data (Window refusal) = window_data refusal
refusal_data (Stale version) = coded (codes "Stale") (member (codes "version") (whole version) no_members)
refusal_data (Ahead from version) = coded (codes "Ahead") (member (codes "from") (whole from) (member (codes "version") (whole version) no_members))
