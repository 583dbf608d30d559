use Rattle.std.proofs.Common.{◌≡◌, take, Some}
use Rattle.values.specs.Updating.{line_of, with_ranges}
use Rattle.shipped_rules.proofs.marking.with_text_lines.Given as goal

abbrev pub invariant-loop-effect : goal.invariant-loop-effect
invariant-loop-effect l = l.all ≡ with_ranges (line_of (Some l.text.characters)) l.fn.set (take l.effect-index l.effects)
