-- Each object of a session's script is read exactly where its fields all fit and it has no other member.
use Rattle.std.proofs.Common.{◌≡◌, ℕ, List, [], ◌∷◌, Bool, true, false, Option, Some, None, Result, Ok, Err, is_ok, is_some, ◌||◌, if◌then◌else◌, pos, codes, bytes_eq, refl, sym, ap, ◌∙◌}
use Rattle.serde_json.specs.Data.{Data}
use Rattle.serde_json.specs.Find.{get, as_object}
use Rattle.term_keys.specs.declared.key.Move.TheVariants.{Left}
use Rattle.script.specs.declared.refusal.Refusal.{Refusal}
use Rattle.script.specs.Reading.{◌>>=◌, text_at, number_at, side_at, integer_at, flag_at, list_of}
use Rattle.script.specs.Values.{value_at}
use Rattle.script.specs.Command.{change_of, no_fields_of, map_request_of}
use Rattle.script.specs.Lines.{line_command}
use Rattle.script.specs.Accepted.{needs, ReadsExactly, is_accepted, is_command, is_line}
use Rattle.script.proofs.Accepting.{on, end, need, need_number, need_text, have, have_or_none, last, accepts, refused_without, refused_with, made, list, either, line-exactly}
use Rattle.script.proofs.Tables.{first_selection-reads, given_selection-reads, notes-reads, flags-reads, no_fields-exactly, map_request-exactly}
use Rattle.requests.specs.declared.declaration.Declaration.{Declaration}
use Rattle.requests.specs.declared.declaration.Declaration.TheVariants as declare
use Rattle.requests.specs.declared.request.Request.{Request}
use Rattle.requests.specs.declared.request.Request.TheVariants.{Start, Open, Save, Update, Do, Text, Selection, Get, Map, View, Screen, Summary}
use Rattle.requests.specs.declared.written.Written.TheVariants.{Plain, Ranges}
use Rattle.requests.specs.Words.{precedence_at, kind_at, command_at, move_at}
use Rattle.requests.specs.Styles.{color_at, style_of, no_style}
use Rattle.requests.specs.Written.{inclusive_of, deco_of, ranges_of, written_of}
use Rattle.requests.specs.Declarations.{effect_of, inverse_of, facet_rules_of, facet_of, provided_of, field_rules_of, field_names_of, field_of, compartment_of, input_of, compute_of, from_of, init_of, group_of, prec_of, slot_of}
use Rattle.requests.specs.Effects.{content_of, kind_effect_of, reconfigure_of, root_of, append_of, named_effect_of}
use Rattle.requests.specs.Requests.{spec_of, new_state_of, open_of, do_of, view_of, text_alone_of, declares, declared_or, request_named}
use Rattle.requests.specs.Tables.{style_fields, deco_fields, ranges_fields, is_written, effect_fields, inverse_fields, facet_fields, provided_fields, field_fields, compartment_fields, input_fields, compute_fields, from_fields, init_fields, group_fields, prec_fields, slot_fields, content_fields, kind_effect_fields, reconfigure_fields, root_fields, append_fields, is_effect, spec_fields, new_state_fields, open_fields, do_fields, view_fields, requests}

-- ---- values

pub style-exactly : (name : List ℕ) → ReadsExactly (style_of name) (is_accepted style_fields)
unfolding style_of
style-exactly name d = accepts style_fields name d _ λ members.
    on (have_or_none (codes "fg") color_at d) λ fg.
    on (have_or_none (codes "bg") color_at d) λ bg.
    on (have (codes "bold") flag_at false d) λ bold.
    on (have (codes "underline") flag_at false d) λ underline.
    on (have (codes "reverse") flag_at false d) λ reverse.
    last style_fields members _ d

pub deco-exactly : (name : List ℕ) → ReadsExactly (deco_of name) (is_accepted deco_fields)
unfolding deco_of inclusive_of
deco-exactly name d = accepts deco_fields name d _ λ members.
    on (need (codes "kind") kind_at d) λ kind.
    on (need_number (codes "from") d) λ from.
    on (have (codes "to") number_at from d) λ to.
    on (have (codes "style") style_of no_style d) λ style.
    on (have (codes "text") text_at [] d) λ text.
    on (have (codes "side") side_at (pos 0) d) λ side.
    on (on (have (codes "inclusiveStart") flag_at false d) λ start.
    on (have (codes "inclusiveEnd") flag_at false d) λ stop.
    end d _) λ inclusive.
    last deco_fields members _ d

pub ranges-exactly : (name : List ℕ) → ReadsExactly (ranges_of name) (is_accepted ranges_fields)
unfolding ranges_of
ranges-exactly name d = accepts ranges_fields name d _ λ members.
    on (need (codes "ranges") (list_of deco_of) d) λ ranges.
    last ranges_fields members _ d

pub written-exactly : (name : List ℕ) → ReadsExactly (written_of name) (is_written name)
unfolding written_of
written-exactly name d =
    either (is_some (as_object d)) _ _ _ _ (made (ranges_of name d) Ranges _ (ranges-exactly name d)) (made (value_at name d) Plain _ refl)

-- ---- declarations

pub effect-exactly : (name : List ℕ) → ReadsExactly (effect_of name) (is_accepted effect_fields)
unfolding effect_of
effect-exactly command d = accepts effect_fields command d _ λ members.
    on (need_text (codes "name") d) λ name.
    on (have_or_none (codes "map") number_at d) λ map.
    last effect_fields members _ d

pub inverse-exactly : (name : List ℕ) → ReadsExactly (inverse_of name) (is_accepted inverse_fields)
unfolding inverse_of
inverse-exactly command d = accepts inverse_fields command d _ λ members.
    on (need_text (codes "effect") d) λ effect.
    on (need_text (codes "back") d) λ back.
    last inverse_fields members _ d

pub facet-exactly : (name : List ℕ) → ReadsExactly (facet_of name) (is_accepted facet_fields)
unfolding facet_of facet_rules_of
facet-exactly command d = accepts facet_fields command d _ λ members.
    on (need_text (codes "name") d) λ name.
    on (on (need_number (codes "combine") d) λ combine.
    on (have (codes "compareInput") number_at 1 d) λ compare_input.
    on (have (codes "compare") number_at 1 d) λ compare.
    on (have (codes "static") flag_at false d) λ is_static.
    end d _) λ def.
    on (have (codes "enables") (list_of text_at) [] d) λ enables.
    last facet_fields members _ d

pub provided-exactly : (name : List ℕ) → ReadsExactly (provided_of name) (is_accepted provided_fields)
unfolding provided_of
provided-exactly name d = accepts provided_fields name d _ λ members.
    on (need_text (codes "facet") d) λ facet.
    on (have (codes "rule") number_at 4 d) λ rule.
    last provided_fields members _ d

pub field-exactly : (name : List ℕ) → ReadsExactly (field_of name) (is_accepted field_fields)
unfolding field_of field_rules_of field_names_of
field-exactly command d = accepts field_fields command d _ λ members.
    on (need_text (codes "name") d) λ name.
    on (on (need_number (codes "create") d) λ create.
    on (need_number (codes "update") d) λ update.
    on (have (codes "compare") number_at 1 d) λ compare.
    end d _) λ rules.
    on (on (have (codes "reads") (list_of text_at) [] d) λ reads.
    on (have (codes "listens") (list_of text_at) [] d) λ listens.
    on (have (codes "provides") (list_of provided_of) [] d) λ provides.
    end d _) λ names.
    last field_fields members _ d

pub compartment-exactly : (name : List ℕ) → ReadsExactly (compartment_of name) (is_accepted compartment_fields)
unfolding compartment_of
compartment-exactly command d = accepts compartment_fields command d _ λ members.
    on (need_text (codes "name") d) λ name.
    last compartment_fields members _ d

pub input-exactly : (name : List ℕ) → ReadsExactly (input_of name) (is_accepted input_fields)
unfolding input_of
input-exactly command d = accepts input_fields command d _ λ members.
    on (need_text (codes "name") d) λ name.
    on (need_text (codes "facet") d) λ facet.
    on (need (codes "value") written_of d) λ value.
    last input_fields members _ d

pub compute-exactly : (name : List ℕ) → ReadsExactly (compute_of name) (is_accepted compute_fields)
unfolding compute_of
compute-exactly command d = accepts compute_fields command d _ λ members.
    on (need_text (codes "name") d) λ name.
    on (need_text (codes "facet") d) λ facet.
    on (need_number (codes "rule") d) λ rule.
    on (need (codes "deps") (list_of text_at) d) λ deps.
    on (have (codes "many") flag_at false d) λ many.
    last compute_fields members _ d

pub from-exactly : (name : List ℕ) → ReadsExactly (from_of name) (is_accepted from_fields)
unfolding from_of
from-exactly command d = accepts from_fields command d _ λ members.
    on (need_text (codes "name") d) λ name.
    on (need_text (codes "facet") d) λ facet.
    on (need_text (codes "field") d) λ field.
    on (have (codes "rule") number_at 4 d) λ rule.
    last from_fields members _ d

pub init-exactly : (name : List ℕ) → ReadsExactly (init_of name) (is_accepted init_fields)
unfolding init_of
init-exactly command d = accepts init_fields command d _ λ members.
    on (need_text (codes "name") d) λ name.
    on (need_text (codes "field") d) λ field.
    on (need (codes "value") written_of d) λ value.
    last init_fields members _ d

pub group-exactly : (name : List ℕ) → ReadsExactly (group_of name) (is_accepted group_fields)
unfolding group_of
group-exactly command d = accepts group_fields command d _ λ members.
    on (need_text (codes "name") d) λ name.
    on (need (codes "of") (list_of text_at) d) λ of.
    last group_fields members _ d

pub prec-exactly : (name : List ℕ) → ReadsExactly (prec_of name) (is_accepted prec_fields)
unfolding prec_of
prec-exactly command d = accepts prec_fields command d _ λ members.
    on (need_text (codes "name") d) λ name.
    on (need (codes "at") precedence_at d) λ at.
    on (need_text (codes "of") d) λ of.
    last prec_fields members _ d

pub slot-exactly : (name : List ℕ) → ReadsExactly (slot_of name) (is_accepted slot_fields)
unfolding slot_of
slot-exactly command d = accepts slot_fields command d _ λ members.
    on (need_text (codes "name") d) λ name.
    on (need_text (codes "compartment") d) λ compartment.
    on (need_text (codes "of") d) λ of.
    last slot_fields members _ d

-- ---- effects

pub content-exactly : (name : List ℕ) → ReadsExactly (content_of name) (is_accepted content_fields)
unfolding content_of
content-exactly name d = accepts content_fields name d _ λ members.
    on (need_text (codes "compartment") d) λ compartment.
    on (need_text (codes "to") d) λ to.
    last content_fields members _ d

pub kind_effect-exactly : (name : List ℕ) → ReadsExactly (kind_effect_of name) (is_accepted kind_effect_fields)
unfolding kind_effect_of
kind_effect-exactly name d = accepts kind_effect_fields name d _ λ members.
    on (need_text (codes "effect") d) λ effect.
    on (need (codes "value") value_at d) λ value.
    last kind_effect_fields members _ d

pub reconfigure-exactly : (name : List ℕ) → ReadsExactly (reconfigure_of name) (is_accepted reconfigure_fields)
unfolding reconfigure_of
reconfigure-exactly name d = accepts reconfigure_fields name d _ λ members.
    on (need (codes "reconfigure") content_of d) λ content.
    last reconfigure_fields members _ d

pub root-exactly : (name : List ℕ) → ReadsExactly (root_of name) (is_accepted root_fields)
unfolding root_of
root-exactly name d = accepts root_fields name d _ λ members.
    on (need (codes "root") (list_of text_at) d) λ nodes.
    last root_fields members _ d

pub append-exactly : (name : List ℕ) → ReadsExactly (append_of name) (is_accepted append_fields)
unfolding append_of
append-exactly name d = accepts append_fields name d _ λ members.
    on (need_text (codes "append") d) λ node.
    last append_fields members _ d

-- a form that is chosen where a member is there, or another: at most one of them accepts
chosen : (o : Option Data) (x y z : Bool) → ((found : Data) → o ≡ Some found → y ≡ false) → (o ≡ None → x ≡ false) → (o ≡ None → z ≡ y) → (if is_some o then x else z) ≡ (x || y)
chosen (Some found) x y z other missing rest = at x y (other found refl) where
  at : (x y : Bool) → y ≡ false → x ≡ (x || y)
  at true y h = refl
  at false y h = sym h
chosen None x y z other missing rest = rest refl ∙ ap (λ b. b || y) (sym (missing refl))

neither : {a b : Bool} → a ≡ false → b ≡ false → (a || b) ≡ false
neither {a = true} e h = e
neither {a = false} e h = h

pub named_effect-exactly : (name : List ℕ) → ReadsExactly (named_effect_of name) is_effect
unfolding named_effect_of
named_effect-exactly name d =
    either (is_some (get (codes "effect") d)) _ _ _ _ (kind_effect-exactly name d)
    (either (is_some (get (codes "reconfigure") d)) _ _ _ _ (reconfigure-exactly name d)
    (either (is_some (get (codes "root") d)) _ _ _ _ (root-exactly name d)
    (either (is_some (get (codes "append") d)) _ _ _ _ (append-exactly name d) (kind_effect-exactly name d))))
    ∙ chosen (get (codes "effect") d) (is_accepted kind_effect_fields d) _ _
    (λ found h. neither (refused_with reconfigure_fields (codes "effect") found d refl h)
    (neither (refused_with root_fields (codes "effect") found d refl h)
    (neither (refused_with append_fields (codes "effect") found d refl h) refl)))
    no_kind
    λ no_effect. chosen (get (codes "reconfigure") d) (is_accepted reconfigure_fields d) _ _
    (λ found h. neither (refused_with root_fields (codes "reconfigure") found d refl h)
    (neither (refused_with append_fields (codes "reconfigure") found d refl h) refl))
    (refused_without (codes "reconfigure") content_of [] d)
    λ no_content. chosen (get (codes "root") d) (is_accepted root_fields d) _ _
    (λ found h. neither (refused_with append_fields (codes "root") found d refl h) refl)
    (refused_without (codes "root") (list_of text_at) [] d)
    λ no_root. chosen (get (codes "append") d) (is_accepted append_fields d) false _
    (λ found h. refl)
    (refused_without (codes "append") text_at [] d)
    λ no_append. no_kind no_effect where
      no_kind : get (codes "effect") d ≡ None → is_accepted kind_effect_fields d ≡ false
      no_kind = refused_without (codes "effect") text_at (needs (codes "value") value_at ∷ []) d

-- ---- other commands

pub spec-exactly : (name : List ℕ) → ReadsExactly (spec_of name) (is_accepted spec_fields)
unfolding spec_of
spec-exactly name d = accepts spec_fields name d _ λ members.
    on (have (codes "changes") (list_of change_of) [] d) λ changes.
    on (given_selection-reads d) λ selection.
    on (have (codes "effects") (list_of named_effect_of) [] d) λ effects.
    on (notes-reads d) λ notes.
    on (flags-reads d) λ flags.
    last spec_fields members _ d

pub new_state-exactly : (name : List ℕ) → ReadsExactly (new_state_of name) (is_accepted new_state_fields)
unfolding new_state_of
new_state-exactly command d = accepts new_state_fields command d _ λ members.
    on (have (codes "doc") text_at [] d) λ doc.
    on (first_selection-reads d) λ selection.
    on (have (codes "extensions") (list_of text_at) [] d) λ extensions.
    last new_state_fields members _ d

pub open-exactly : (name : List ℕ) → ReadsExactly (open_of name) (is_accepted open_fields)
unfolding open_of
open-exactly command d = accepts open_fields command d _ λ members.
    on (need_text (codes "file") d) λ file.
    on (have (codes "extensions") (list_of text_at) [] d) λ extensions.
    last open_fields members _ d

pub do-exactly : (name : List ℕ) → ReadsExactly (do_of name) (is_accepted do_fields)
unfolding do_of
do-exactly name d = accepts do_fields name d _ λ members.
    on (need (codes "command") command_at d) λ command.
    on (have (codes "text") text_at [] d) λ text.
    on (have (codes "move") move_at Left d) λ direction.
    on (have (codes "extend") flag_at false d) λ extend.
    on (have_or_none (codes "time") integer_at d) λ time.
    last do_fields members _ d

pub view-exactly : (name : List ℕ) → ReadsExactly (view_of name) (is_accepted view_fields)
unfolding view_of
view-exactly command d = accepts view_fields command d _ λ members.
    on (need_number (codes "rows") d) λ rows.
    on (need_number (codes "cols") d) λ cols.
    last view_fields members _ d

pub text_alone-exactly : (field name : List ℕ) → ReadsExactly (text_alone_of field name) (is_accepted (needs field text_at ∷ []))
unfolding text_alone_of
text_alone-exactly field command d = accepts (needs field text_at ∷ []) command d _ λ members.
    on (need_text field d) λ text.
    last (needs field text_at ∷ []) members _ d

-- ---- the command of a name

-- a command that declares, or others
declares-exactly : {A : Type 0} (b : Bool) (make : A → Declaration) (read : Result A Refusal) (others : Result (Option Declaration) Refusal) (other : Result Request Refusal) (x y : Bool) → is_ok read ≡ x → is_ok (others >>= λ o. declared_or o other) ≡ y
    → is_ok ((if b then declares make read else others) >>= λ o. declared_or o other) ≡ (if b then x else y)
declares-exactly true make (Ok a) others other x y e h = e
declares-exactly true make (Err r) others other x y e h = e
declares-exactly false make read others other x y e h = h

pub request-exactly : (name : List ℕ) → ReadsExactly (request_named name) (is_command requests name)
unfolding request_named
request-exactly name d =
    declares-exactly (bytes_eq name (codes "effect")) declare.Effect (effect_of name d) _ _ _ _ (effect-exactly name d)
    (declares-exactly (bytes_eq name (codes "inverse")) declare.Inverse (inverse_of name d) _ _ _ _ (inverse-exactly name d)
    (declares-exactly (bytes_eq name (codes "facet")) declare.Facet (facet_of name d) _ _ _ _ (facet-exactly name d)
    (declares-exactly (bytes_eq name (codes "field")) declare.Field (field_of name d) _ _ _ _ (field-exactly name d)
    (declares-exactly (bytes_eq name (codes "compartment")) declare.Compartment (compartment_of name d) _ _ _ _ (compartment-exactly name d)
    (declares-exactly (bytes_eq name (codes "input")) declare.Input (input_of name d) _ _ _ _ (input-exactly name d)
    (declares-exactly (bytes_eq name (codes "compute")) declare.Compute (compute_of name d) _ _ _ _ (compute-exactly name d)
    (declares-exactly (bytes_eq name (codes "from")) declare.From (from_of name d) _ _ _ _ (from-exactly name d)
    (declares-exactly (bytes_eq name (codes "init")) declare.Init (init_of name d) _ _ _ _ (init-exactly name d)
    (declares-exactly (bytes_eq name (codes "group")) declare.Group (group_of name d) _ _ _ _ (group-exactly name d)
    (declares-exactly (bytes_eq name (codes "prec")) declare.Prec (prec_of name d) _ _ _ _ (prec-exactly name d)
    (declares-exactly (bytes_eq name (codes "slot")) declare.Slot (slot_of name d) _ _ _ _ (slot-exactly name d)
    (either (bytes_eq name (codes "start")) _ _ _ _ (made (new_state_of name d) Start _ (new_state-exactly name d))
    (either (bytes_eq name (codes "open")) _ _ _ _ (made (open_of name d) Open _ (open-exactly name d))
    (either (bytes_eq name (codes "save")) _ _ _ _ (made (text_alone_of (codes "file") name d) Save _ (text_alone-exactly (codes "file") name d))
    (either (bytes_eq name (codes "update")) _ _ _ _ (made (list_of spec_of name d) Update _ (list spec_of (is_accepted spec_fields) name (spec-exactly name) d))
    (either (bytes_eq name (codes "do")) _ _ _ _ (made (do_of name d) Do _ (do-exactly name d))
    (either (bytes_eq name (codes "text")) _ _ _ _ (made (no_fields_of name d) (λ known. Text) _ (no_fields-exactly name d))
    (either (bytes_eq name (codes "selection")) _ _ _ _ (made (no_fields_of name d) (λ known. Selection) _ (no_fields-exactly name d))
    (either (bytes_eq name (codes "get")) _ _ _ _ (made (text_alone_of (codes "name") name d) Get _ (text_alone-exactly (codes "name") name d))
    (either (bytes_eq name (codes "map")) _ _ _ _ (made (map_request_of d) Map _ (map_request-exactly d))
    (either (bytes_eq name (codes "view")) _ _ _ _ (made (view_of name d) View _ (view-exactly name d))
    (either (bytes_eq name (codes "screen")) _ _ _ _ (made (no_fields_of name d) (λ known. Screen) _ (no_fields-exactly name d))
    (either (bytes_eq name (codes "summary")) _ _ _ _ (made (no_fields_of name d) (λ known. Summary) _ (no_fields-exactly name d)) refl)))))))))))))))))))))))

-- a line asks for something exactly where it is one of these
pub lines-exactly : (line : List ℕ) → is_ok (line_command request_named line) ≡ is_line (is_command requests) line
lines-exactly = line-exactly request_named (is_command requests) request-exactly
