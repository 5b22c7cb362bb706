use Rattle.vl_space.proofs.kept.Collecting.seal.Goals as goal

pub seal-requires : goal.seal-requires
seal-requires c = c.requires c.in-Some.tally c.in-Some.is
