use Rattle.std.proofs.Common.{sym, subst}
use Rattle.cm_plain.specs.Form.{layers}
use Rattle.typed_keys.specs.Keys.{FacetKeyView, KnowsFacet}
use Rattle.typed_keys.proofs.Known.{facet-of}
use Rattle.typed_keys.proofs.facet_key.FacetKey+I+Layers.layers.Goals as goal

pub layers_of-requires : goal.layers_of-requires
layers_of-requires g c =
    let known = subst (λ (k : FacetKeyView). KnowsFacet g.L.Lookup.rules (g.L.Lookup.facet_def c.args.lookup.now k.id) k) (sym c.self.view_is) c.requires.known in
    facet-of g.L.Lookup.rules _ _ layers c.facet.result.now known c.self.invariant c.facet.ensures.fits
