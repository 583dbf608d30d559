use Rattle.std.proofs.Common.{Some, sym, ap, ◌∙◌, true≢false}
use Rattle.names.specs.Names.{name_of}
use Rattle.names.proofs.Entries.{is_here, is_later, is_nowhere}
use Rattle.names.proofs.names.Names.name_of.Goals as goal
use Rattle.names.proofs.names.Names.name_of.Goals.{in-Some+else-has_id, in-None}

pub returns-then-has_id : goal.returns-then-has_id
returns-then-has_id c =
    ap Some c.as_slice.ensures.value
    ∙ sym (is_here c.args.sort c.args.id c.self.inside.entries.entries c.loop-place.place (c.in-Some.name.now, c.in-Some.thing.now) (sym c.in-Some.ensures.entry) (sym c.if-has_id.ensures))
    ∙ sym c.loop-place.invariant ∙ ap (name_of c.args.sort c.args.id) c.self.view_is

pub loop-place-preserved : goal.loop-place-preserved
loop-place-preserved c =
    elim c.match-get_index.branch [
      | in-Some+else-has_id w ↦
          c.loop-place.invariant
          ∙ is_later c.args.sort c.args.id c.self.inside.entries.entries c.loop-place.place (w.in-Some.name.now, w.in-Some.thing.now) (sym w.in-Some.ensures.entry) (sym w.if-has_id.ensures)
      | in-None w ↦ absurd (true≢false (sym (w.in-None.ensures.found.1 (rw c.len-place-end.ensures.len at c.loop-place-test.true))))
    ]

pub returns : goal.returns
returns c =
    sym (is_nowhere c.args.sort c.args.id c.self.inside.entries.entries c.loop-place.place (rw c.len-place-end.ensures.len at c.loop-place-test.false))
    ∙ sym c.loop-place.invariant ∙ ap (name_of c.args.sort c.args.id) c.self.view_is
