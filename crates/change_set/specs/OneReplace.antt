-- What private clauses say of a set that replaces one range alone.
use Rattle.std.specs.Prelude.{◌≡◌, ℕ, ◌+◌, ◌-◌, ◌≤◌, List, [], ◌∷◌, length}
use Rattle.line_tree.specs.Text.{replaced}
use Rattle.change_desc.specs.Sections.{Sections, spelled, apply, lengths, old_size, new_size}
use Rattle.change_desc.specs.Ranges.{replaced as replaced_ranges}
use Rattle.change_desc.specs.declared.changed_range.ChangedRange.{ChangedRange}
use Rattle.change_set.specs.Texts.{written}

pub record IsOnly (s : Sections) (from to : ℕ) (text : List ℕ) : Type 0 where
  pub order : from ≤ to
  pub within : to ≤ old_size s
  pub size : old_size s - (to - from) + length text ≡ new_size spelled s
  pub texts : written s ≡ text
  pub gives : (doc : List ℕ) → old_size s ≡ length doc → apply s doc ≡ replaced from to text doc
  pub range : replaced_ranges (lengths spelled s) ≡ record { from_a = from; to_a = to; from_b = from; to_b = from + length text } ∷ []
