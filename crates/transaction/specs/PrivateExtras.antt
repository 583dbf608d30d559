-- What a draft has beside its changes. Private.
use Rattle.std.specs.Prelude.{ℕ, ◌&&◌, List, ◌++◌, option_map}
use Rattle.std.specs.Option.{option_or}
use Rattle.change_desc.specs.declared.section.Section.{Section}
use Rattle.selection.specs.Selections.{moved_selection}
use Rattle.transaction.specs.declared.draft.Draft.{Draft}
use Rattle.transaction.specs.declared.effect_kinds.EffectKinds.{EffectKinds}
use Rattle.transaction.specs.declared.extras.Extras.{Extras}
use Rattle.transaction.specs.Effects.{ValueMap, moved_effects}
use Rattle.transaction.specs.Merging.{Changes}

-- a draft in two parts, and of two parts
abbrev pub extras_of : {V : Type 0} → Draft V → Extras V
extras_of d = record { selection = d.selection; effects = d.effects; annotations = d.annotations; filter = d.filter }

abbrev pub draft_of : {V : Type 0} → Changes → Extras V → Draft V
draft_of changes e = record { changes = changes; selection = e.selection; effects = e.effects; annotations = e.annotations; filter = e.filter }

-- after further changes
abbrev pub moved_extras : {V : Type 0} → EffectKinds → ValueMap V → List (Section ℕ) → Extras V → Extras V
moved_extras kinds map_value over e =
    record {
      selection = option_map (moved_selection over) e.selection;
      effects = moved_effects kinds map_value over e.effects;
      annotations = e.annotations;
      filter = e.filter;
    }

-- one after the other
abbrev pub both_extras : {V : Type 0} → Extras V → Extras V → Extras V
both_extras a b =
    record {
      selection = option_or b.selection a.selection;
      effects = a.effects ++ b.effects;
      annotations = a.annotations ++ b.annotations;
      filter = a.filter && b.filter;
    }
