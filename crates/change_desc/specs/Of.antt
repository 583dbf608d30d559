-- Of: a list of changes of one text as one set (manual: ChangeSet.of).
use Rattle.std.specs.Prelude.{ℕ, ◌-◌, false, List, [], ◌∷◌, fold}
use Rattle.change_desc.specs.declared.section.Section.{Section}
use Rattle.change_desc.specs.declared.section.Section.TheVariants.{Keep, Replace}
use Rattle.change_desc.specs.Sections.{Texts, normal, lengths}
use Rattle.change_desc.specs.Compose.{compose}
use Rattle.change_desc.specs.Map.{map_over}

-- A change of a list of changes: a range to replace by a text (manual: ChangeSpec).
abbrev pub span : {T C : Type 0} → Texts T C → (len from to : ℕ) → T → List (Section T)
span X len from to t = normal X (Keep from ∷ Replace (to - from) t ∷ Keep (len - to) ∷ [])

-- Each change moves over those before it and is put after them.
abbrev pub then_also : {T C : Type 0} → Texts T C → (total change : List (Section T)) → List (Section T)
then_also X total c = compose X total (map_over X c (lengths X total) false)

-- Of: the changes of a list, each over the text that all start in, from the set that keeps all (manual: ChangeSet.of).
abbrev pub of : {T C : Type 0} → Texts T C → ℕ → List (List (Section T)) → List (Section T)
of X len changes = fold (then_also X) (normal X (Keep len ∷ [])) changes
