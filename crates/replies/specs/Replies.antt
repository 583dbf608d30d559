-- What is written in reply to a line: {"ok": the answer} or {"no": the refusal}, as compact JSON and a line feed.
use Rattle.std.specs.Prelude.{ℕ, Bool, List, [], ◌∷◌, ◌++◌, map, codes, encode_utf8_all}
use Rattle.serde_json.specs.Data.{Data, null, boolean, string, array, object, Items, no_items, item, Members, no_members, member}
use Rattle.serde_json.specs.View.{items_of}
use Rattle.serde_json.specs.Written.{compact_text}
use Rattle.change_desc.specs.declared.section.Section.{Section}
use Rattle.change_desc.specs.declared.section.Section.TheVariants.{Keep, Replace}
use Rattle.selection.specs.Selections.{SelectionView}
use Rattle.selection.specs.declared.range.Range.{Range}
use Rattle.replies.specs.declared.mapped.MappedPlace.{MappedPlace}
use Rattle.replies.specs.declared.mapped.MappedPlace.TheVariants.{NotAsked, Deleted, At}
use Rattle.replies.specs.declared.mapped.MappedParts.{MappedParts}
use Rattle.replies.specs.declared.answer.Answer.{Answer}
use Rattle.replies.specs.declared.answer.Answer.TheVariants.{Nothing, Length, Done, Bytes, Text, Selection, Value, Mapped, Screen, Summary as Counted, Version, Message, Client, Authority}
use Rattle.replies.specs.declared.answer.Summary.{Summary}
use Rattle.replies.specs.declared.answer.Reply.{Reply}
use Rattle.replies.specs.declared.answer.Reply.TheVariants.{Ok, No}
use Rattle.replies.specs.Objects.{single, whole}
use Rattle.replies.specs.Refusals.{refusal_data}
use Rattle.replies.specs.Shown.{shown_data}
use Rattle.replies.specs.Screens.{screen_data}

-- a section of a set of changes: n where n characters are kept, [n, text] where n characters give way to a text
abbrev pub section_data : Section (List ℕ) → Data
section_data (Keep n) = whole n
section_data (Replace n text) = array (item (whole n) (item (string (encode_utf8_all text)) no_items))

abbrev pub sections_data : List (Section (List ℕ)) → Items
sections_data sections = items_of (map section_data sections)

-- a range of a selection: [anchor, head]
abbrev pub range_data : Range → Data
range_data r = array (item (whole r.anchor) (item (whole r.head) no_items))

-- a selection: its ranges, and which of them is the main one
abbrev pub selection_data : SelectionView → Data
selection_data s = object (member (codes "main") (whole s.main) (member (codes "ranges") (array (items_of (map range_data s.ranges))) no_members))

-- where a position went, if one was asked for
abbrev pub with_place : MappedPlace → Members → Members
with_place NotAsked ms = ms
with_place Deleted ms = member (codes "pos") null ms
with_place (At n) ms = member (codes "pos") (whole n) ms

-- what `map` made
abbrev pub mapped_data : MappedParts → Data
mapped_data m = object (with_place m.place (member (codes "sections") (array (sections_data m.set)) (member (codes "text") (string (encode_utf8_all m.text)) no_members)))

-- a client: how many of its updates are not confirmed, its text, and its version
abbrev pub client_data : (pending : ℕ) → (text : List ℕ) → (version : ℕ) → Data
client_data pending text version = object
    (member (codes "pending") (whole pending) (member (codes "text") (string (encode_utf8_all text)) (member (codes "version") (whole version) no_members)))

-- an authority: its text, and its version
abbrev pub authority_data : (text : List ℕ) → (version : ℕ) → Data
authority_data text version = object (member (codes "text") (string (encode_utf8_all text)) (member (codes "version") (whole version) no_members))

-- the counts of a session
abbrev pub summary_data : Summary → Data
summary_data s = object
    (member (codes "length") (whole s.length) (member (codes "lines") (whole s.lines) (member (codes "rows") (whole s.rows) (member (codes "transactions") (whole s.transactions) no_members))))

-- whether a command did anything, and the length of the document after it
abbrev pub done_data : (done : Bool) → (length : ℕ) → Data
done_data done length = object (member (codes "done") (boolean done) (member (codes "length") (whole length) no_members))

-- an answer
abbrev pub answer_data : Answer → Data
answer_data Nothing = object no_members
answer_data (Length len) = single (codes "length") (whole len)
answer_data (Done done len) = done_data done len
answer_data (Bytes count) = single (codes "bytes") (whole count)
answer_data (Text text) = string (encode_utf8_all text)
answer_data (Selection selection) = selection_data selection
answer_data (Value shown) = shown_data shown
answer_data (Mapped mapped) = mapped_data mapped
answer_data (Screen screen) = screen_data screen
answer_data (Counted summary) = summary_data summary
answer_data (Version version) = single (codes "version") (whole version)
answer_data (Message n) = single (codes "message") (whole n)
answer_data (Client pending text version) = client_data pending text version
answer_data (Authority text version) = authority_data text version

abbrev pub reply_data : Reply → Data
reply_data (Ok answer) = single (codes "ok") (answer_data answer)
reply_data (No refusal) = single (codes "no") (refusal_data refusal)

-- compact JSON, and a line feed
unfoldable pub reply_text : Reply → List ℕ
reply_text reply = compact_text (reply_data reply) ++ 10 ∷ []
