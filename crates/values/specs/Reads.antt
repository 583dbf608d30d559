-- How what a rule reads is kept, and what each of these forms shows. Private clauses alone speak of the forms.
use Rattle.std.specs.Prelude.{[], ◌∷◌, None, Some, option_map}
use Rattle.values.specs.declared.deps.Reads.{Reads}
use Rattle.values.specs.declared.deps.Reads.TheVariants as reads
use Rattle.values.specs.Views.{DepsView}

-- the document, the selection and the values that a form shows
abbrev pub reads_shown : Reads → DepsView
reads_shown reads.Nothing = record { document = None; selection = None; values = [] }
reads_shown (reads.Document t) = record { document = Some t.characters; selection = None; values = [] }
reads_shown (reads.Value v) = record { document = None; selection = None; values = v ∷ [] }
reads_shown (reads.Parts p) = record {
  document = option_map (λ t. t.characters) p.value.document;
  selection = p.value.selection;
  values = p.value.values.items;
}
