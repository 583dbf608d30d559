use Rattle.std.proofs.Common.{◌∙◌, ◌≡◌, inl, ap, subst, sym}
use Rattle.std.proofs.lemmas.Result.{IfOk-weaker}
use Rattle.change_desc.specs.Sections.{lengths, spelled}
use Rattle.selection.specs.Selections.{moved_selection}
use Rattle.values.specs.Transactions.{shown}
use Rattle.values.specs.Views.{TransactionView}
use Rattle.facet_slots.specs.Making.{IsMade}
use Rattle.facet_slots.specs.Scenes.{SceneView}
use Rattle.slot_cases.proofs.Made.{transaction-from}
use Rattle.slot_cases.proofs.transactions.viewed.Goals as goal

pub new-requires : goal.new-requires
new-requires c =
    let start = c.in_ok-start.ensures in
    transaction-from (shown c.args.changes c.in_ok-start.start c.args.end c.args.is_given c.args.notes) c.args.slots.now.scene (ap (λ (s : SceneView). s.document) start) (ap (λ (s : SceneView). s.selection) start) c.known.ensures.is_scene
    c.requires.starts c.requires.document c.requires.short c.requires.is_selection c.requires.inside c.known-2.ensures.effects c.known-2.ensures.inverted c.known-2.ensures.annotations

pub returns : goal.returns
returns c =
    let start = c.in_ok-start.ensures in
    let selection = ap (λ (s : SceneView). s.selection) start in
    let made = shown c.args.changes c.in_ok-start.start c.args.end c.args.is_given c.args.notes in
    IfOk-weaker c.new.result (λ (t : TransactionView). t ≡ made) (IsMade c.args.slots.now.scene)
    (λ (t : TransactionView) (same : t ≡ made). subst (IsMade c.args.slots.now.scene) (sym same) (record {
      is = transaction-from made c.args.slots.now.scene (ap (λ (s : SceneView). s.document) start) selection c.known.ensures.is_scene
          c.requires.starts c.requires.document c.requires.short c.requires.is_selection c.requires.inside c.known-2.ensures.effects c.known-2.ensures.inverted c.known-2.ensures.annotations;
      start = ap (λ (s : SceneView). s.document) start;
      start_selection = selection;
      selection = λ given. inl (c.requires.moved given ∙ ap (moved_selection (lengths spelled c.args.changes)) (sym selection));
    }))
    c.new.ensures
