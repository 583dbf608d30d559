use Rattle.filters.specs.Starts.{start_of}
use Rattle.filters.proofs.ShownViews.{is-transaction}
use Rattle.filters.proofs.view.shown_from.Goals as goal

pub new-requires : goal.new-requires
new-requires c =
    rw (
      c.in_ok-before.ensures.document,
      c.in_ok-before.ensures.selection,
      c.in_ok-after.ensures.document,
      c.in_ok-after.ensures.selection,
      c.is_some-is_given.ensures,
      c.in_ok-notes.ensures.effects,
      c.in_ok-notes.ensures.inverted,
      c.in_ok-notes.ensures.annotations,
      c.deref.ensures,
      c.into_inner-draft.ensures,
    )
    (is-transaction (start_of c.args.start.now) c.args.inverted c.args.draft.value c.requires.start c.requires.draft
    (rw c.in_ok-before.ensures.selection at c.known-2.ensures)
    (rw (c.in_ok-after.ensures.selection, c.deref.ensures) at c.known-3.ensures)
    (rw (c.in_ok-after.ensures.selection, c.deref.ensures) at c.in_ok-after.ensures.inside)
    (rw (c.in_ok-notes.ensures.effects, c.into_inner-draft.ensures) at c.known.ensures.effects)
    (rw c.in_ok-notes.ensures.inverted at c.known.ensures.inverted)
    (rw (c.in_ok-notes.ensures.annotations, c.into_inner-draft.ensures) at c.known.ensures.annotations))
