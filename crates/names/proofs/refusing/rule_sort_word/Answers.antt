-- Each word is the characters of its text.
use Rattle.std.specs.Str.{chars}
use Rattle.names.proofs.refusing.rule_sort_word.Goals as goal

pub returns-in-Combine : goal.returns-in-Combine
unfolding chars
returns-in-Combine c = rw c.in-Combine.is c.of_text.ensures

pub returns-in-Compare : goal.returns-in-Compare
unfolding chars
returns-in-Compare c = rw c.in-Compare.is c.of_text-in-Compare.ensures

pub returns-in-Compute : goal.returns-in-Compute
unfolding chars
returns-in-Compute c = rw c.in-Compute.is c.of_text-in-Compute.ensures

pub returns-in-ComputeN : goal.returns-in-ComputeN
unfolding chars
returns-in-ComputeN c = rw c.in-ComputeN.is c.of_text-in-ComputeN.ensures

pub returns-in-Create : goal.returns-in-Create
unfolding chars
returns-in-Create c = rw c.in-Create.is c.of_text-in-Create.ensures

pub returns-in-Update : goal.returns-in-Update
unfolding chars
returns-in-Update c = rw c.in-Update.is c.of_text-in-Update.ensures

pub returns-in-EffectMap : goal.returns-in-EffectMap
unfolding chars
returns-in-EffectMap c = rw c.in-EffectMap.is c.of_text-in-EffectMap.ensures
