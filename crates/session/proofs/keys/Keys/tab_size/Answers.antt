use Rattle.std.proofs.Common.{◌≡◌, ◌∙◌, ℕ, false, ap, refl, subst}
use Rattle.facet_slots.specs.Slotted.{plain}
use Rattle.registry.specs.Predeclared.{combined_by}
use Rattle.registry.specs.declared.predeclared.TheConstants.{TAB_SIZE}
use Rattle.typed_keys.specs.Keys.{FacetKeyView}
use Rattle.session.specs.Views.{facet_in, tab_in}
use Rattle.session.proofs.Knowing.{knows-facet}
use Rattle.session.proofs.keys.Keys.tab_size.Goals as goal

pub get-requires : goal.get-requires
get-requires g c =
    record { known = knows-facet g.M.Meanings.rules c.args.state.now.setup.defs c.known.ensures.predeclared TAB_SIZE (combined_by 7 false) refl c.self.inside.tab_size c.self.invariant.tab_size }

pub returns-clause-value : goal.returns-clause-value
returns-clause-value g c =
    subst (λ (id : ℕ). c.columns.result ≡ tab_in (facet_in (plain c.args.state.now) id)) (ap (λ (k : FacetKeyView). k.id) c.self.invariant.tab_size)
    (c.columns.ensures.value ∙ c.in_ok-size.ensures)
