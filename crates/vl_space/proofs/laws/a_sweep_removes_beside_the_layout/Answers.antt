use Rattle.std.specs.Prelude.{refl}
use Rattle.vl_disk.specs.declared.name.Name.TheVariants.{Table}
use Rattle.vl_space.proofs.laws.a_sweep_removes_beside_the_layout.Goals as goal
use Rattle.vl_space.specs.laws.SweepHolds.{adopting_leaves_so, removed_holds, removing_leaves, taken_holds, taken_opens_again}
use Rattle.vl_space.specs.laws.SweepHolds.{taking_leaves}

pub returns-clause-removing : goal.returns-clause-removing
returns-clause-removing c b l h disk now name base tidy holds out during =
    removing_leaves b l h name out base tidy disk holds now during

pub returns-clause-removed : goal.returns-clause-removed
returns-clause-removed c b l h disk name base tidy holds out = removed_holds b l h name out base tidy disk holds

pub returns-clause-adopting : goal.returns-clause-adopting
returns-clause-adopting c b l h disk now name file base tidy holds out during =
    adopting_leaves_so b l h name out base tidy disk holds file now during

pub returns-clause-taking : goal.returns-clause-taking
returns-clause-taking c b l h disk now name file base tidy holds out during =
    taking_leaves b l h name out base tidy disk holds file now during

pub returns-clause-taken : goal.returns-clause-taken
returns-clause-taken c b l h disk name file base tidy holds out lawful =
    taken_holds b l h name out base tidy disk holds file lawful

pub returns-clause-stopped : goal.returns-clause-stopped
returns-clause-stopped c b l h disk n file base tidy holds out lawful =
    taken_opens_again b l h (Table n) out base tidy disk holds file n refl lawful
