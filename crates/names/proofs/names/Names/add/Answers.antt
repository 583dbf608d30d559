use Rattle.std.proofs.Common.{◌≡◌, None, ap, ◌∙◌}
use Rattle.names.specs.Names.{meaning_of, with_name}
use Rattle.names.proofs.Entries.{added, seen}
use Rattle.names.proofs.names.Names.add.Goals as goal

pub returns-clause-added : goal.returns-clause-added
returns-clause-added c =
    let es = c.self.inside.entries.entries in
    let key = c.in_ok-name.name in
    let is : key.items ≡ c.args.name.now = c.in_ok-name.ensures.items ∙ c.chars.ensures.value in
    let before = seen es in
    let free : meaning_of key.items before ≡ None = ap (λ n. meaning_of n before) is ∙ ap (meaning_of c.args.name.now) c.self.view_is ∙ c.requires in
    ap seen c.in_ok-insert.ensures.entries ∙ added key c.args.thing es free ∙ ap (λ n. with_name before n c.args.thing) is
    ∙ ap (λ ns. with_name ns c.args.name.now c.args.thing) c.self.view_is
