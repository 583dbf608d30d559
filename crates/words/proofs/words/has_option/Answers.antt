use Rattle.std.proofs.Common.{◌∙◌, rules, tests}
use Rattle.std.proofs.lemmas.Iterator.{YieldsList-from_slice}
use Rattle.std.proofs.lemmas.Iterator.Search.{any_from_yields_List}
use Rattle.clap.proofs.WalkLemmas.{list_any-map}
use Rattle.words.specs.PrivateCommand.{begins_with}
use Rattle.words.proofs.words.has_option.Goals as goal

pub returns : goal.returns
returns g c =
    any_from_yields_List (λ word. begins_with 45 (g.T.AsStr.text word)) _ _ _ c.any.ensures.ran (YieldsList-from_slice c.args.words.now c.iter.ensures.rest) (λ x b q k. search (rules, tests))
    ∙ list_any-map (begins_with 45) g.T.AsStr.text c.args.words.now
