use Rattle.std.proofs.Common.{◌≡◌, ◌≢◌, Option, rules, subst}
use Rattle.std.specs.Prelude.{Ok}
use Rattle.requests.specs.declared.do_request.DoRequest.{DoRequest}
use Rattle.term_keys.specs.declared.key.Key.TheVariants.{Save}
use Rattle.session.specs.Keyed.{after_command, command_of}
use Rattle.session.specs.PrivateEditing.{ShownAs}
use Rattle.session.specs.State.{plain_session}
use Rattle.session.proofs.Pressed.{command_pressed}
use Rattle.session.proofs.session.Session.key.Goals as goal

pub returns-in-Ok-command_key-clause-answered : goal.returns-in-Ok-command_key-clause-answered
returns-in-Ok-command_key-clause-answered g c =
    let is : c.in-Ok.command ≡ command_of c.args.key c.args.time = search (rules, c.in-Ok.ensures, c.ranges.time) in
    let other : c.args.key ≢ Save = search (rules, c.if-eq.ensures, c.eq.ensures) in
    command_pressed g.M.Meanings.rules c.args.file.now c.args.key c.args.time c.args.self.now c.command_key.new.self (g.D.Store.files c.args.store.now) c.in-Ok-command_key.frame other
    (subst (λ (command : Option DoRequest). ShownAs (after_command g.M.Meanings.rules (plain_session c.args.self.now) command) c.args.self.now c.command_key.new.self (Ok c.in-Ok-command_key.frame)) is c.in-Ok-command_key.ensures)
