use Rattle.std.proofs.Common.{sym, ap, ◌∙◌, arith}
use Rattle.kept_effects.specs.MappedValues.{moved_effects}
use Rattle.history.proofs.Moved.{after-fits, changes-fit, is_moved, own-old, selection-inside, too-long}
use Rattle.history.proofs.item.ChangeItem.over.Goals as goal

pub mapped_len-len-requires : goal.mapped_len-len-requires
mapped_len-len-requires c = sym (own-old c.args.over.now c.args.self.now c.in_ok-own.own c.in_ok-own.ensures c.requires.starts)

pub returns-then-len-from : goal.returns-then-len-from
returns-then-len-from c =
    too-long c.args.over.now c.args.self.now c.in_ok-own.own c.in_ok-own.ensures c.requires.starts c.mapped_len-len.result c.mapped_len-len.ensures
    (omega (arith, c.if-len-from.true, c.from.ensures))

pub map-requires-clause-fits : goal.map-requires-clause-fits
map-requires-clause-fits c =
    changes-fit c.args.over.now c.args.self.now c.in_ok-own.own c.in_ok-own.ensures c.requires.starts c.mapped_len-len.result c.mapped_len-len.ensures
    (omega (arith, c.if-len-from.false, c.from.ensures))

pub map-requires-2-clause-meet : goal.map-requires-2-clause-meet
map-requires-2-clause-meet c = own-old c.args.over.now c.args.self.now c.in_ok-own.own c.in_ok-own.ensures c.requires.starts

pub map-requires-2-clause-fits : goal.map-requires-2-clause-fits
map-requires-2-clause-fits c =
    after-fits c.args.over.now c.args.self.now c.in_ok-own.own c.in_ok-own.ensures c.requires.starts c.mapped_len-len.result c.mapped_len-len.ensures
    (omega (arith, c.if-len-from.false, c.from.ensures))

pub map-requires-3 : goal.map-requires-3
map-requires-3 c =
    selection-inside c.args.over.now c.args.self.now c.in_ok-own.own c.in_ok-own.ensures c.requires.starts c.in_ok-after.after c.in_ok-after.ensures c.requires.inside

pub returns : goal.returns
returns c =
    is_moved c.args.over.now c.args.self.now c.in_ok-own.own c.in_ok-own.ensures c.requires.starts c.mapped_len-len.result _ c.mapped_len-len.ensures
    (omega (arith, c.if-len-from.false, c.from.ensures)) c.in_ok-changes.ensures.mapped c.in_ok-after.ensures c.in_ok-selection.ensures.selection
    (c.in_ok-effects.ensures ∙ ap (moved_effects c.in_ok-after.after) c.as_slice.ensures)
