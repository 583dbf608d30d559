use Rattle.std.proofs.Common.{◌≡◌, ◌≤◌, ◌+◌, ◌∙◌, [], List, true, false, Option, Some, get_or, map, ap, subst, sym}
use Rattle.std.specs.Option.{option_map, unwrap_or}
use Rattle.std.specs.List.{list_any}
use Rattle.configuration.specs.declared.vertex.Vertex.TheVariants.{Facet}
use Rattle.values.specs.declared.val.Val.{Val}
use Rattle.facet_slots.specs.Setups.{InputNode, PresentFacet}
use Rattle.facet_slots.specs.FacetValues.{node_outputs}
use Rattle.facet_slots.specs.Keeping.{held_inputs}
use Rattle.facet_slots.specs.Found.{facet_of}
use Rattle.facet_slots.specs.Flags.{same_nodes}
use Rattle.facet_slots.specs.Nexts.{facet_next_calls, input_flagged, IsNextFacet}
use Rattle.facet_slots.specs.Lent.{facet_in, flags_in, scene_in, setup_of, values_in}
use Rattle.facet_slots.proofs.Nexting.{kept_fit}
use Rattle.facet_slots.proofs.Sharing.{facet-still, parts-are}
use Rattle.facet_slots.proofs.step.known_facet.Goals as goal

pub next_facet-requires-clause-kept_fit : goal.next_facet-requires-clause-kept_fit
next_facet-requires-clause-kept_fit g c =
    let is : (held_inputs c.args.old.now.shelf.inputs (Facet c.args.place)) ≡ map (node_outputs g.M.Meanings.rules (scene_in c.args.old.now) (values_in c.args.old.now)) (facet_in c.args.old_setup.now c.args.was.now c.args.place).inputs =
    c.requires.kept.inputs_kept c.args.place ∙ ap (λ (o : Option PresentFacet). unwrap_or (option_map (λ (d : PresentFacet). map (node_outputs g.M.Meanings.rules (scene_in c.args.old.now) (values_in c.args.old.now)) d.inputs) o) []) c.requires.was in
    rw (c.facet_was-before.ensures.kept, is, ← c.requires.same_combine)
    (kept_fit g.M.Meanings.rules g.met.M.Meanings.lawful c.args.was.now.combine (scene_in c.args.old.now) c.requires.old_scene (values_in c.args.old.now) c.known.ensures (facet_in c.args.old_setup.now c.args.was.now c.args.place).inputs (c.requires.old_lawful.facets c.args.place (facet_in c.args.old_setup.now c.args.was.now c.args.place) c.requires.was).inputs)

pub returns-else-is_still-clause-next : goal.returns-else-is_still-clause-next
returns-else-is_still-clause-next g c = rw (← c.facet_was-before.ensures.was, ← c.facet_was-before.ensures.kept, c.in-Some.ensures, ← c.as_slice-node_defs.ensures, ← c.inputs-nodes.ensures) c.next_facet.ensures.next

pub returns-else-is_still-clause-cost : goal.returns-else-is_still-clause-cost
returns-else-is_still-clause-cost g c =
    let paid : c.next_facet.new.calls ≤ c.args.calls.now + facet_next_calls g.M.Meanings.rules (scene_in c.args.draft.now.kept) c.args.draft.now.moved (flags_in c.args.draft.now.kept) (values_in c.args.draft.now.kept) (Some (facet_in c.args.old_setup.now c.args.was.now c.args.place)) c.facet_was-before.result.kept.now (facet_of c.args.facet.now c.as_slice-node_defs.result.now c.inputs-nodes.result.now) =
    subst (λ (w : PresentFacet). c.next_facet.new.calls ≤ c.args.calls.now + facet_next_calls g.M.Meanings.rules (scene_in c.args.draft.now.kept) c.args.draft.now.moved (flags_in c.args.draft.now.kept) (values_in c.args.draft.now.kept) (Some w) c.facet_was-before.result.kept.now (facet_of c.args.facet.now c.as_slice-node_defs.result.now c.inputs-nodes.result.now)) c.facet_was-before.ensures.was c.next_facet.ensures.cost in
    rw (← c.facet_was-before.ensures.kept, ← c.as_slice-node_defs.ensures, ← c.inputs-nodes.ensures) paid

pub returns-then-is_still-clause-next : goal.returns-then-is_still-clause-next
returns-then-is_still-clause-next g c =
    let rules = g.M.Meanings.rules in
    let draft = c.args.draft.now in
    let was : PresentFacet = facet_in c.args.old_setup.now c.args.was.now c.args.place in
    let facet : PresentFacet = facet_in c.args.setup.now c.args.facet.now c.args.place in
    let value : Val = c.in-Some.value.now in
    let kept : List (List Val) = held_inputs c.args.old.now.shelf.inputs (Facet c.args.place) in
    let is : kept ≡ map (node_outputs rules (scene_in c.args.old.now) (values_in c.args.old.now)) was.inputs =
    c.requires.kept.inputs_kept c.args.place ∙ ap (λ (o : Option PresentFacet). unwrap_or (option_map (λ (d : PresentFacet). map (node_outputs rules (scene_in c.args.old.now) (values_in c.args.old.now)) d.inputs) o) []) c.requires.was in
    let same : same_nodes was.inputs facet.inputs ≡ true =
    subst (λ (xs : List InputNode). same_nodes xs facet.inputs ≡ true) (ap (λ (w : PresentFacet). w.inputs) c.facet_was-before.ensures.was) (rw (← c.as_slice-node_defs.ensures, ← c.inputs-nodes.ensures) (c.is_still.ensures.nodes c.if-is_still.true)) in
    let quiet : list_any (input_flagged draft.moved (flags_in draft.kept)) facet.inputs ≡ false = rw (← c.as_slice-node_defs.ensures, ← c.inputs-nodes.ensures) (c.is_still.ensures.flags c.if-is_still.true) in
    let still : IsNextFacet rules (scene_in draft.kept) draft.moved (flags_in draft.kept) (values_in draft.kept) (Some was) kept (Some value) facet value false kept =
    rw is
    (facet-still rules (scene_in draft.kept) (scene_in c.args.old.now) draft.moved (flags_in draft.kept) (values_in draft.kept) (values_in c.args.old.now) (setup_of c.args.old_setup.now).defs.node_defs
    (get_or (setup_of c.args.old_setup.now).config.inputs c.args.place []) c.args.was.now facet value same quiet) in
    let next : IsNextFacet rules (scene_in draft.kept) draft.moved (flags_in draft.kept) (values_in draft.kept) (Some was) kept (values_in c.args.old.now (Facet c.args.place)) facet value false kept =
    subst (λ (o : Option Val). IsNextFacet rules (scene_in draft.kept) draft.moved (flags_in draft.kept) (values_in draft.kept) (Some was) kept o facet value false kept) (sym c.in-Some.ensures) still in
    parts-are (λ x flag inputs. IsNextFacet rules (scene_in draft.kept) draft.moved (flags_in draft.kept) (values_in draft.kept) (Some was) kept (values_in c.args.old.now (Facet c.args.place)) facet x flag inputs)
    value kept next c.still_facet.result c.still_facet.ensures.value c.still_facet.ensures.flag c.still_facet.ensures.inputs
