use Rattle.std.proofs.Common.{refl}
use Rattle.vl_version.specs.declared.levels.look.Look.TheVariants.{Exactly}
use Rattle.vl_version.specs.levels.LevelsLooked.{AreInOrder, tables_of}
use Rattle.vl_version.proofs.looking.LookSteps.{looked_up}
use Rattle.vl_version.proofs.levels.Levels.exact.Goals as goal

pub returns-clause-answers : goal.returns-clause-answers
returns-clause-answers g c = λ files reads.
    let self = c.args.self.now in
    looked_up g.H.HeldFile.bytes (Exactly c.args.version) c.args.key.now (tables_of self) (AreInOrder self) _ _
    c.look.result c.look.result refl (c.look.ensures.answers files reads)
