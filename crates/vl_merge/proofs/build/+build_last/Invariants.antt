use Rattle.vl_merge.proofs.build.+build_last.Given as goal

abbrev pub decreases-build_last : goal.decreases-build_last
decreases-build_last g l = l.count
