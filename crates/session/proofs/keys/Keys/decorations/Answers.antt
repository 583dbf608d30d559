use Rattle.std.proofs.Common.{◌≡◌, ℕ, false, ap, refl, subst}
use Rattle.facet_slots.specs.Slotted.{plain}
use Rattle.registry.specs.Predeclared.{combined_by}
use Rattle.registry.specs.declared.predeclared.TheConstants.{DECORATIONS}
use Rattle.typed_keys.specs.Keys.{FacetKeyView}
use Rattle.typed_keys.specs.Read.{layers_in}
use Rattle.session.specs.Views.{facet_in}
use Rattle.session.proofs.Knowing.{knows-facet}
use Rattle.session.proofs.keys.Keys.decorations.Goals as goal

pub layers-requires : goal.layers-requires
layers-requires g c =
    record { known = knows-facet g.M.Meanings.rules c.args.state.now.setup.defs c.known.ensures.predeclared DECORATIONS (combined_by 6 false) refl c.self.inside.decorations c.self.invariant.decorations }

pub returns : goal.returns
returns g c =
    subst (λ (id : ℕ). c.layers.result.now ≡ layers_in (facet_in (plain c.args.state.now) id)) (ap (λ (k : FacetKeyView). k.id) c.self.invariant.decorations) c.layers.ensures
