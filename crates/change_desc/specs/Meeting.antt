-- Whether replaced ranges of two descriptions of one text meet.
use Rattle.std.specs.Prelude.{ℕ, ◌≤◌, Bool, List, [], ◌∷◌}
use Rattle.std.specs.List.{list_any}
use Rattle.change_desc.specs.declared.changed_range.ChangedRange.{ChangedRange}
use Rattle.change_desc.specs.Ranges.{meets}

-- Some meet: some range of the one list and some of the other overlap or touch.
abbrev pub some_meet : List ChangedRange → List ChangedRange → Bool
some_meet qs rs = list_any (λ (q : ChangedRange). list_any (meets q.from_a q.to_a) rs) qs

-- each begins at n or after, and no earlier than the one before it
abbrev pub BeginAfter : ℕ → List ChangedRange → Type 0
BeginAfter n [] = Unit {0}
BeginAfter n (r ∷ rs) = (n ≤ r.from_a) × BeginAfter r.from_a rs

-- the first of them, if there is one, doesn't end before a place
abbrev pub EndsAtOrAfter : ℕ → List ChangedRange → Type 0
EndsAtOrAfter place [] = Unit {0}
EndsAtOrAfter place (r ∷ rs) = place ≤ r.to_a
