use Rattle.std.proofs.Common.{◌≤◌, List, sym, ap, subst, ◌∙◌, arith}
use Rattle.vl_model.specs.Conflicts.{Named}
use Rattle.vl_model.specs.History.{last_number}
use Rattle.vl_conflict.specs.Recent.{Remembers}
use Rattle.vl_conflict.specs.laws.RecentLaws.{nothing_yet}
use Rattle.vl_oracle.specs.LiveTickets.{LiveTickets, floor_of}
use Rattle.vl_front.proofs.Pruning.{AreAbove}
use Rattle.vl_front.proofs.front.Front.new.Goals as goal

pub returns-clause-knows : goal.returns-clause-knows
returns-clause-knows c h last =
    let floor = ap floor_of c.new.ensures in
    let le : last_number h ≤ floor_of c.new.result = omega arith in
    record {
      last = ap (λ (live : LiveTickets). live.last) c.new.ensures ∙ sym last;
      remembers = subst (λ (named : List Named). Remembers (floor_of c.new.result) h named) (sym c.new-2.ensures)
          (nothing_yet h (floor_of c.new.result) le);
    }

pub returns-clause-pruned : goal.returns-clause-pruned
returns-clause-pruned c = subst (AreAbove (floor_of c.new.result)) (sym c.new-2.ensures) tt
