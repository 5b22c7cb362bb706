use Rattle.vl_sequence.specs.laws.LeaseLaws as leases
use Rattle.vl_sequence.proofs.laws.leases_rise.Goals as goal

pub returns-clause-rise : goal.returns-clause-rise
returns-clause-rise c h key = leases.leases_rise key h

pub returns-clause-below : goal.returns-clause-below
returns-clause-below c h key = leases.leases_below key h
