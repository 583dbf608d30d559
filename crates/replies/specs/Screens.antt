-- What a window shows as it is written.
use Rattle.std.specs.Prelude.{List, map, codes, encode_utf8_all}
use Rattle.serde_json.specs.Data.{Data, string, array, object, no_items, item, no_members, member}
use Rattle.serde_json.specs.View.{items_of}
use Rattle.replies.specs.declared.shown_screen.ShownCursor.{ShownCursor}
use Rattle.replies.specs.declared.shown_screen.ShownRun.{ShownRun}
use Rattle.replies.specs.declared.shown_screen.ShownScreen.{ShownScreen}
use Rattle.replies.specs.Objects.{whole}

-- a part of a row in one style: [text, codes]
abbrev pub run_data : ShownRun → Data
run_data r = array (item (string (encode_utf8_all r.text)) (item (string (encode_utf8_all r.codes)) no_items))

-- a row: its runs from the first column on
abbrev pub row_data : List ShownRun → Data
row_data runs = array (items_of (map run_data runs))

-- the cursor: [row, column]
abbrev pub cursor_data : ShownCursor → Data
cursor_data c = array (item (whole c.row) (item (whole c.column) no_items))

-- what a window shows
abbrev pub screen_data : ShownScreen → Data
screen_data s = object (member (codes "cursor") (cursor_data s.cursor) (member (codes "rows") (array (items_of (map row_data s.rows))) no_members))
