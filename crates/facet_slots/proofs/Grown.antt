-- Definitions that grow twice have grown, and a configuration stays resolved.
use Rattle.std.proofs.Common.{◌≡◌, ◌∙◌, List, ◌++◌, drop, length, sym, ap}
use Rattle.std.proofs.Math.Seq.{drop-append_seam}
use Rattle.std.proofs.lemmas.List.{append_assoc}
use Rattle.values.specs.declared.val.Val.{Val}
use Rattle.values.specs.Views.{TransactionView}
use Rattle.facet_slots.specs.Setups.{Definitions, Setup}
use Rattle.facet_slots.specs.Stepping.{Transition, Enter, Update}
use Rattle.facet_slots.specs.Agreement.{Extends, IsGrown, Follows}
use Rattle.facet_slots.specs.Resolving.{IsResolved, IsResolvedOver}
use Rattle.facet_slots.proofs.Growing.{grown-agree, grown-continued}
use Rattle.facet_slots.proofs.Resolved.{resolved-formed}

extends-of : {X : Type 0} (a r c : List X) → c ≡ a ++ r → Extends a c
extends-of a r c e = e ∙ ap (λ xs. a ++ xs) (sym (ap (drop (length a)) e ∙ drop-append_seam a r))

extends-twice : {X : Type 0} (a b c : List X) → Extends a b → Extends b c → Extends a c
extends-twice a b c e f =
    extends-of a (drop (length a) b ++ drop (length b) c) c (f ∙ ap (λ xs. xs ++ drop (length b) c) e ∙ append_assoc a (drop (length a) b) (drop (length b) c))

pub grown-twice : (a b c : Definitions) → IsGrown a b → IsGrown b c → IsGrown a c
grown-twice a b c p q = record {
  facets = extends-twice a.facets b.facets c.facets p.facets q.facets;
  fields = extends-twice a.fields b.fields c.fields p.fields q.fields;
  node_defs = extends-twice a.node_defs b.node_defs c.node_defs p.node_defs q.node_defs;
}

-- a configuration that was resolved stays so over definitions that have grown
pub resolved-grown : (setup : Setup) (defs : Definitions) → IsResolved setup → IsGrown setup.defs defs → IsResolved (record { defs = defs; config = setup.config })
resolved-grown setup defs is grown = record {
  defs = is.defs;
  over = record { tree = is.over.tree; base = is.over.base; config = is.over.config; defined = is.over.defined; reads = is.over.reads };
  grown = grown-twice is.defs setup.defs defs is.grown grown;
}

-- entering a configuration over definitions that have grown
pub enter-follows : (old new : Setup) → IsResolved old → IsGrown old.defs new.defs → Follows Enter old new
enter-follows old new is grown = record {
  agree = grown-agree old new (resolved-formed old is) grown;
  continued = λ t same. absurd (no-update t same);
}
  where
    no-update : (t : TransactionView) → Enter ≡ Update t → ⊥
    no-update t e = cc

-- a transaction in a configuration that stands over definitions that have grown
pub update-follows : (t : TransactionView) (setup : Setup) (defs : Definitions) → IsResolved setup → IsGrown setup.defs defs → Follows (Update t) setup (record { defs = defs; config = setup.config })
update-follows t setup defs is grown = record {
  agree = grown-agree setup (record { defs = defs; config = setup.config }) (resolved-formed setup is) grown;
  continued = λ u same. grown-continued setup.defs defs setup.config (resolved-formed setup is) grown;
}
