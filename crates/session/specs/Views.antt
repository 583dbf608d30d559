-- What a window and a command see of a state.
use Rattle.std.specs.Prelude.{ℕ, ℤ, pos, Option, option_map}
use Rattle.std.specs.Option.{unwrap_or}
use Rattle.cm_plain.specs.declared.plain.Plain.TheVariants as plain
use Rattle.cm_plain.specs.Form.{Form, numbers}
use Rattle.configuration.specs.declared.vertex.Vertex.TheVariants.{Facet, Field}
use Rattle.commands.specs.Editing.{SceneView}
use Rattle.facet_slots.specs.Stepping.{State}
use Rattle.registry.specs.declared.predeclared.TheConstants.{READ_ONLY, TAB_SIZE, DECORATIONS, HISTORY}
use Rattle.screen.specs.Screen.{ViewView}
use Rattle.typed_keys.specs.Read.{truth_in, layers_in, history_in}
use Rattle.values.specs.declared.val.Val.{Val}
use Rattle.values.specs.declared.val.Val.TheVariants as val
use Rattle.values.specs.Reading.{nothing}
use Rattle.viewport.specs.Window.{Window}

-- the value of a facet
abbrev pub facet_in : State → ℕ → Val
facet_in s id = unwrap_or (s.values (Facet id)) nothing

-- tab sizes from 1 to 16, as the values that carry them; what is no tab size carries 4
abbrev pub tab_form : Form
tab_form = numbers (pos 1) (pos 16)

abbrev pub of_tab : ℕ → Val
of_tab n = val.Plain (plain.Int (pos n))

abbrev pub tab_in : Val → ℕ
tab_in (val.Plain (plain.Int (pos n))) = n
tab_in v = 4

-- View: the document with its selection and decorations, by the tab size, in a window
abbrev pub view_of : State → Window → ViewView
view_of s window =
    record {
      text = s.scene.document;
      selection = s.scene.selection;
      layers = layers_in (facet_in s DECORATIONS);
      tab = tab_in (facet_in s TAB_SIZE);
      window = window;
    }

-- Scene: what a command sees, at a time, if it is said
abbrev pub scene_of : State → Option ℤ → SceneView
scene_of s time =
    record {
      document = s.scene.document;
      selection = s.scene.selection;
      read_only = truth_in (facet_in s READ_ONLY);
      history = option_map history_in (s.values (Field HISTORY));
      time = time;
    }
