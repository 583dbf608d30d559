use Rattle.std.proofs.Common.{◌≡◌, ℕ, subst}
use Rattle.std.specs.Option.{option_map}
use Rattle.configuration.specs.declared.vertex.Vertex.TheVariants.{Facet}
use Rattle.facet_slots.specs.FacetValues.{facet_value}
use Rattle.facet_slots.specs.Setups.{facet_at}
use Rattle.facet_slots.specs.Keeping.{held}
use Rattle.facet_slots.specs.Lawful.{FacetsFit}
use Rattle.facet_slots.specs.Lent.{defs_of, scene_in}
use Rattle.facet_slots.specs.Slotted.{Slotted, plain}
use Rattle.facet_slots.proofs.Fitting.{facets-fit}
use Rattle.facet_slots.proofs.slots.Slots.known.Goals as goal

pub returns-clause-combined : goal.returns-clause-combined
returns-clause-combined g c =
    subst (λ (v : Slotted). (f : ℕ) → (plain v).values (Facet f) ≡ option_map (facet_value g.M.Meanings.rules v.scene (plain v).values) (facet_at v.setup f)) c.self.view_is c.self.invariant.kept.combined

pub returns-clause-facets : goal.returns-clause-facets
returns-clause-facets g c =
    subst (λ (v : Slotted). FacetsFit g.M.Meanings.rules v.setup (plain v).values) c.self.view_is
    (facets-fit g.M.Meanings.rules g.met.M.Meanings.lawful (record { defs = defs_of c.self.inside.defs.value; config = c.self.inside.config.value }) (scene_in c.self.inside.kept.value) (held c.self.inside.kept.value.shelf.facets c.self.inside.kept.value.shelf.fields) c.self.invariant.lawful c.self.invariant.is_scene c.self.invariant.in_range c.self.invariant.kept.combined)
