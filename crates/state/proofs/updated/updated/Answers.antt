use Rattle.std.proofs.Common.{inr, rules}
use Rattle.std.specs.Prelude.{option_map}
use Rattle.std.specs.Rc.{rc_value}
use Rattle.facet_slots.specs.Slotted.{plain}
use Rattle.state.proofs.Steps.{new-defs, paid-found, specs-refused, step-is, step-paid}
use Rattle.state.proofs.updated.updated.Goals as goal

pub returns-in_err-draft-clause-refused : goal.returns-in_err-draft-clause-refused
returns-in_err-draft-clause-refused g c =
    search (rules, specs-refused g.M.Meanings.rules c.args.registry.now (plain c.args.slots.now) c.args.specs.items)

pub returns-in_err-slots-clause-paid : goal.returns-in_err-slots-clause-paid
returns-in_err-slots-clause-paid g c =
    let d = c.args.registry.now in
    let old = plain c.args.slots.now in
    let specs = c.args.specs.items in
    let draft = c.in_ok-draft.draft.value in
    let comes = c.in_ok-draft.ensures.draft in
    let config = option_map rc_value c.in_ok-config.config in
    let effects = c.in_ok-config.ensures.config in
    inr (_, paid-found g.M.Meanings.rules d old specs draft comes config (rw c.deref.ensures at effects) c.args.calls.now c.after_draft.new.calls c.in_err-slots.ensures.cost)

pub returns-clause-updated : goal.returns-clause-updated
returns-clause-updated g c =
    let d = c.args.registry.now in
    let old = plain c.args.slots.now in
    let specs = c.args.specs.items in
    let draft = c.in_ok-draft.draft.value in
    let comes = c.in_ok-draft.ensures.draft in
    let config = option_map rc_value c.in_ok-config.config in
    let effects = c.in_ok-config.ensures.config in
    let found = c.in_ok-config.ensures.found in
    step-is g.M.Meanings.rules d old specs draft comes config (rw c.deref.ensures at effects) (plain c.in_ok-slots.slots) c.in_ok-slots.ensures.state (rw c.deref.ensures at found)

pub returns-clause-defs : goal.returns-clause-defs
returns-clause-defs g c =
    let d = c.args.registry.now in
    let old = plain c.args.slots.now in
    let specs = c.args.specs.items in
    let draft = c.in_ok-draft.draft.value in
    let comes = c.in_ok-draft.ensures.draft in
    let config = option_map rc_value c.in_ok-config.config in
    let effects = c.in_ok-config.ensures.config in
    new-defs g.M.Meanings.rules d old specs draft comes config (rw c.deref.ensures at effects) (plain c.in_ok-slots.slots) c.in_ok-slots.ensures.state

pub returns-clause-cost : goal.returns-clause-cost
returns-clause-cost g c =
    let d = c.args.registry.now in
    let old = plain c.args.slots.now in
    let specs = c.args.specs.items in
    let draft = c.in_ok-draft.draft.value in
    let comes = c.in_ok-draft.ensures.draft in
    let config = option_map rc_value c.in_ok-config.config in
    let effects = c.in_ok-config.ensures.config in
    step-paid g.M.Meanings.rules d old specs draft comes config (rw c.deref.ensures at effects) (plain c.in_ok-slots.slots) c.in_ok-slots.ensures.state c.args.calls.now c.after_draft.new.calls c.in_ok-slots.ensures.cost

pub returns-clause-paid : goal.returns-clause-paid
returns-clause-paid g c =
    let d = c.args.registry.now in
    let old = plain c.args.slots.now in
    let specs = c.args.specs.items in
    let draft = c.in_ok-draft.draft.value in
    let comes = c.in_ok-draft.ensures.draft in
    let config = option_map rc_value c.in_ok-config.config in
    let effects = c.in_ok-config.ensures.config in
    inr (_, paid-found g.M.Meanings.rules d old specs draft comes config (rw c.deref.ensures at effects) c.args.calls.now c.after_draft.new.calls c.in_ok-slots.ensures.cost)
