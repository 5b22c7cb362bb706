use Rattle.std.proofs.Common.{ap, ◌∙◌}
use Rattle.vl_oracle.specs.LiveTickets.{floor_of}
use Rattle.vl_oracle.proofs.Tickets.{floor-least}
use Rattle.vl_oracle.proofs.oracle.Oracle.floor.Goals as goal

pub returns : goal.returns
returns c = c.unwrap_or.ensures ∙ floor-least _ _ c.least.result c.self.invariant c.least.ensures ∙ ap floor_of c.self.view_is
