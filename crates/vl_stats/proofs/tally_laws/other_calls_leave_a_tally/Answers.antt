use Rattle.std.proofs.Common.{Bool, true, false}
use Rattle.std.specs.Prelude.{nat_le, length, if◌then◌else◌}
use Rattle.vl_model.specs.History.{last_number}
use Rattle.vl_model.specs.Limits.{max_live}
use Rattle.vl_engine_model.specs.Ruling.{Ruling, leaving}
use Rattle.vl_engine_model.specs.Rulings.Begin.{BeginAnswer, Begun, TooMany, begun}
use Rattle.vl_engine_model.specs.Tickets.{free_ticket, tickets_of}
use Rattle.vl_stats.specs.Tallies.{IsTally, Tallied}
use Rattle.vl_stats.proofs.tally_laws.other_calls_leave_a_tally.Goals as goal

either : (tally : Tallied) (b : Bool) (r s : Ruling BeginAnswer) → IsTally tally r.layout → IsTally tally s.layout
    → IsTally tally (if b then r else s).layout
either tally true r s one other = one
either tally false r s one other = other

pub returns-clause-begin : goal.returns-clause-begin
returns-clause-begin c l h tally is =
    either tally (nat_le max_live (length l.live)) (leaving TooMany h l)
    (leaving (Begun (free_ticket (tickets_of l.live)) (last_number h)) h (begun l (free_ticket (tickets_of l.live)) (last_number h)))
    is (record { logs = is.logs; live = is.live })
