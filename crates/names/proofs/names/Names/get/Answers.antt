use Rattle.std.proofs.Common.{ap, ◌∙◌}
use Rattle.std.specs.Map.{lookup}
use Rattle.std.specs.Str.{bytes_eq}
use Rattle.names.specs.Names.{meaning_of}
use Rattle.names.proofs.Entries.{Key, looked_up}
use Rattle.names.proofs.names.Names.get.Goals as goal

pub returns : goal.returns
returns c =
    let es = c.self.inside.entries.entries in
    c.copied.ensures ∙ c.get.ensures.value ∙ ap (λ n. lookup (λ (k : Key). bytes_eq n k.items) es) c.chars.ensures.value ∙ looked_up c.args.name.now es
    ∙ ap (meaning_of c.args.name.now) c.self.view_is
