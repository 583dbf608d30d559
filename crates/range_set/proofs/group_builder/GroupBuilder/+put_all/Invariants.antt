use Rattle.range_set.proofs.group_builder.GroupBuilder.+put_all.Given as goal

abbrev pub decreases-put_all : goal.decreases-put_all
decreases-put_all g l = l.chunks.len
