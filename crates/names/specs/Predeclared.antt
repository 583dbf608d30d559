-- The names that are taken from the start: those of what is predeclared, and of the document and the selection.
use Rattle.std.specs.Prelude.{[], ◌∷◌, codes}
use Rattle.names.specs.declared.named.Named.TheVariants.{Doc, Selection, Effect, Facet, Field}
use Rattle.names.specs.Names.{NameList}

abbrev pub predeclared_names : NameList
predeclared_names =
    (codes "doc", Doc)
    ∷ (codes "selection", Selection)
    ∷ (codes "saveSeparator", Facet 0)
    ∷ (codes "allowMultipleSelections", Facet 1)
    ∷ (codes "tabSize", Facet 2)
    ∷ (codes "readOnly", Facet 3)
    ∷ (codes "changeFilter", Facet 4)
    ∷ (codes "transactionFilter", Facet 5)
    ∷ (codes "transactionExtender", Facet 6)
    ∷ (codes "decorations", Facet 7)
    ∷ (codes "historyConfig", Facet 8)
    ∷ (codes "filterData", Facet 9)
    ∷ (codes "note", Effect 0)
    ∷ (codes "history", Field 0 0)
    ∷ []
