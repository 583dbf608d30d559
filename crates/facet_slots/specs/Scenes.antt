-- What rules are shown of a document, a selection and values (Reference Manual, Facet.compute).
use Rattle.std.specs.Prelude.{ℕ, ◌≤◌, List, [], ◌∷◌, Bool, true, false, cond, length, map, Option, None, Some, IfSome}
use Rattle.line_tree.specs.Text.{max_len}
use Rattle.selection.specs.Selections.{SelectionView, IsSelection, LieIn}
use Rattle.configuration.specs.declared.dependency.Dependency.{Dependency}
use Rattle.configuration.specs.declared.dependency.Dependency.TheVariants as dependency
use Rattle.configuration.specs.declared.vertex.Vertex.{Vertex}
use Rattle.configuration.specs.declared.vertex.Vertex.TheVariants.{Facet, Field}
use Rattle.values.specs.declared.val.Val.{Val}
use Rattle.values.specs.InRange.{IsInRange}
use Rattle.values.specs.Views.{DepsView}

-- a document with a selection of it
pub record SceneView : Type 0 where
  pub document : List ℕ
  pub selection : SelectionView

-- no document is too long, and the selection is one of it
pub record IsScene (scene : SceneView) : Type 0 where
  pub short : length scene.document ≤ max_len
  pub is_selection : IsSelection scene.selection
  pub inside : LieIn (length scene.document) scene.selection.ranges

-- Values: of each facet and field, none for an absent field and for an id that is not known.
abbrev pub Values : Type 0
Values = Vertex → Option Val

-- in range: each number of each value lies in the range of its type
abbrev pub IsEachInRange : Values → Type 0
IsEachInRange values = (v : Vertex) → IfSome (values v) IsInRange

abbrev pub reads_document : List Dependency → Bool
reads_document [] = false
reads_document (dependency.Doc ∷ reads) = true
reads_document (dependency.Selection ∷ reads) = reads_document reads
reads_document (dependency.Facet f ∷ reads) = reads_document reads
reads_document (dependency.Field f ∷ reads) = reads_document reads

abbrev pub reads_selection : List Dependency → Bool
reads_selection [] = false
reads_selection (dependency.Doc ∷ reads) = reads_selection reads
reads_selection (dependency.Selection ∷ reads) = true
reads_selection (dependency.Facet f ∷ reads) = reads_selection reads
reads_selection (dependency.Field f ∷ reads) = reads_selection reads

-- the facets and fields that are declared, in their order
abbrev pub vertices_of : List Dependency → List Vertex
vertices_of [] = []
vertices_of (dependency.Doc ∷ reads) = vertices_of reads
vertices_of (dependency.Selection ∷ reads) = vertices_of reads
vertices_of (dependency.Facet f ∷ reads) = Facet f ∷ vertices_of reads
vertices_of (dependency.Field f ∷ reads) = Field f ∷ vertices_of reads

-- Shown: what a rule that declares these dependencies reads, and nothing else.
abbrev pub shown : SceneView → Values → List Dependency → DepsView
shown scene values reads =
    record {
      document = cond (reads_document reads) (Some scene.document) None;
      selection = cond (reads_selection reads) (Some scene.selection) None;
      values = map values (vertices_of reads);
    }
