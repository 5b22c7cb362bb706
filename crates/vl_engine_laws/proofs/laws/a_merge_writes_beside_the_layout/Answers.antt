use Rattle.vl_engine_laws.specs.laws.InstallBeside.{adopted_holds, adopting_leaves, adopting_opens_again, creating_leaves}
use Rattle.vl_engine_laws.specs.laws.InstallBeside.{creating_opens_again, drawn_holds, lending_leaves, lending_opens_again}
use Rattle.vl_engine_laws.specs.laws.InstallBeside.{lent_holds, tables_below}
use Rattle.vl_engine_laws.proofs.laws.a_merge_writes_beside_the_layout.Goals as goal
use Rattle.vl_disk.specs.DiskState.{created, without}
use Rattle.vl_disk.specs.declared.name.Name.TheVariants.{Table}
use Rattle.vl_engine_model.specs.Sources.{tables}

pub returns-clause-making : goal.returns-clause-making
returns-clause-making c b l h disk now n base tidy holds apart numbered during = (
  creating_leaves b l h disk n base tidy holds apart numbered now during,
  creating_opens_again b l h disk n base tidy holds apart numbered now during,
)

pub returns-clause-lending : goal.returns-clause-lending
returns-clause-lending c b l h disk now n base tidy holds apart numbered during = (
  lending_leaves b l h disk n base tidy holds apart numbered now during,
  lending_opens_again b l h disk n base tidy holds apart numbered now during,
)

pub returns-clause-lent : goal.returns-clause-lent
returns-clause-lent c b l h disk base tidy holds numbered =
    drawn_holds b l (without (Table l.next_table) (created (Table l.next_table) disk))
    (lent_holds b l h disk l.next_table base tidy holds
    (tables_below l.next_table (tables l) tidy.files.stocked.tables_drawn) numbered)

pub returns-clause-adopting : goal.returns-clause-adopting
returns-clause-adopting c b l h disk now n bytes base tidy holds apart numbered during = (
  adopting_leaves b l h disk n base tidy holds apart bytes numbered now during,
  adopting_opens_again b l h disk n base tidy holds apart bytes numbered now during,
)

pub returns-clause-adopted : goal.returns-clause-adopted
returns-clause-adopted c b l h disk n bytes base tidy holds apart numbered =
    adopted_holds b l h disk n base tidy holds apart bytes numbered
