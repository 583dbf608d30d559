-- The keys by which a session reads its states.
use Rattle.std.specs.Prelude.{◌≡◌, false}
use Rattle.registry.specs.Predeclared.{combined_by, history_def}
use Rattle.registry.specs.declared.predeclared.TheConstants.{READ_ONLY, TAB_SIZE, DECORATIONS, HISTORY}
use Rattle.typed_keys.specs.Keys.{FacetKeyView, FieldKeyView, facet_key, field_key}
use Rattle.values.specs.Rules.{Rules}

pub record KeysView : Type 0 where
  pub read_only : FacetKeyView
  pub tab_size : FacetKeyView
  pub decorations : FacetKeyView
  pub history : FieldKeyView

-- they are of what is declared from the start
pub record AreKeys (rules : Rules) (k : KeysView) : Type 0 where
  pub read_only : k.read_only ≡ facet_key rules READ_ONLY (combined_by 13 false)
  pub tab_size : k.tab_size ≡ facet_key rules TAB_SIZE (combined_by 7 false)
  pub decorations : k.decorations ≡ facet_key rules DECORATIONS (combined_by 6 false)
  pub history : k.history ≡ field_key rules HISTORY history_def
