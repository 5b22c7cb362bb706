use Rattle.std.proofs.Common.{◌∙◌, ap}
use Rattle.std.specs.Option.{is_some}
use Rattle.vl_replay_laws.specs.laws.Names.Lookups.{same_use}
use Rattle.vl_replay_laws.proofs.open.is_taken.Goals as goal

pub returns : goal.returns
returns g c = c.is_some.ensures ∙ ap is_some c.place.ensures ∙ same_use c.args.name.now c.args.opens.now
