use Rattle.vl_oracle.proofs.LiveLaws.{find-free_ticket, taken-below_free}
use Rattle.vl_oracle.proofs.laws.free_ticket_is_the_least.Goals as goal

pub returns-clause-free : goal.returns-clause-free
returns-clause-free c = find-free_ticket

pub returns-clause-below : goal.returns-clause-below
returns-clause-below c = taken-below_free
