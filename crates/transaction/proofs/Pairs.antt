-- Effects whose kinds have no pair.
use Rattle.std.proofs.Common.{◌≡◌, ℕ, Bool, true, false, ◌||◌, List, [], ◌∷◌, ◌++◌, Option, Some, None, filter_map, refl, ap, ◌∙◌}
use Rattle.std.specs.Prelude.{is_some, reverse}
use Rattle.std.specs.List.{list_any}
use Rattle.std.proofs.lemmas.List.{reverse-append}
use Rattle.std.proofs.lemmas.List.Elements.{filter_map-append}
use Rattle.change_desc.specs.declared.section.Section.{Section}
use Rattle.cm_plain.specs.declared.plain.Plain.{Plain}
use Rattle.transaction.specs.declared.effect.Effect.{Effect}
use Rattle.transaction.specs.declared.effect.Effect.TheVariants.{Kind, Reconfigure, Root, Append}
use Rattle.transaction.specs.Effects.{map_of}
use Rattle.transaction.specs.Inverted.{inverted_effect, inverted_over, paired}
use Rattle.transaction.specs.PrivatePairs.{has_pair}

both-false : (a b : Bool) → (a || b) ≡ false → (a ≡ false) × (b ≡ false)
both-false true b h = cc
both-false false b h = (refl, h)

module _ {V : Type 0} (plain : V → Option Plain) (kinds pairs : List (Option ℕ)) (back : List (Section ℕ)) where
  unpaired : (pair : Option ℕ) (value : Option Plain) → is_some pair ≡ false → paired plain kinds pairs back pair value ≡ None
  unpaired None value h = refl
  unpaired (Some n) value h = cc

  none : (e : Effect V) → has_pair pairs e ≡ false → inverted_effect plain kinds pairs back e ≡ None
  none (Kind id value) h = unpaired (map_of pairs id) (plain value) h
  none (Reconfigure compartment to) h = refl
  none (Root ids) h = refl
  none (Append id) h = refl

  last-none : (xs : List (Effect V)) (e : Effect V) → has_pair pairs e ≡ false → filter_map (inverted_effect plain kinds pairs back) xs ≡ [] →
      filter_map (inverted_effect plain kinds pairs back) (xs ++ e ∷ []) ≡ []
  last-none xs e h k = filter_map-append (inverted_effect plain kinds pairs back) xs (e ∷ []) ∙ rw (k, none e h) refl

  pub none-inverted : (es : List (Effect V)) → list_any (has_pair pairs) es ≡ false → inverted_over plain kinds pairs back es ≡ []
  none-inverted [] h = refl
  none-inverted (e ∷ es) h =
      let p : (has_pair pairs e ≡ false) × (list_any (has_pair pairs) es ≡ false) = both-false (has_pair pairs e) (list_any (has_pair pairs) es) h in
      ap (filter_map (inverted_effect plain kinds pairs back)) (reverse-append (e ∷ []) es) ∙ last-none (reverse es) e p.0 (none-inverted es p.1)
