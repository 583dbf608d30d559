use Rattle.std.proofs.Common.{◌≡◌, ℕ, false, IfOk, ap, refl, subst}
use Rattle.facet_slots.specs.Slotted.{plain}
use Rattle.registry.specs.Predeclared.{combined_by}
use Rattle.registry.specs.declared.predeclared.TheConstants.{READ_ONLY}
use Rattle.typed_keys.specs.Keys.{FacetKeyView}
use Rattle.typed_keys.specs.Read.{truth_in}
use Rattle.session.specs.Views.{facet_in}
use Rattle.session.proofs.Knowing.{knows-facet}
use Rattle.session.proofs.keys.Keys.read_only.Goals as goal

pub get-requires : goal.get-requires
get-requires g c =
    record { known = knows-facet g.M.Meanings.rules c.args.state.now.setup.defs c.known.ensures.predeclared READ_ONLY (combined_by 13 false) refl c.self.inside.read_only c.self.invariant.read_only }

pub returns : goal.returns
returns g c =
    subst (λ (id : ℕ). IfOk c.get.result (λ found. found ≡ truth_in (facet_in (plain c.args.state.now) id))) (ap (λ (k : FacetKeyView). k.id) c.self.invariant.read_only) c.get.ensures
