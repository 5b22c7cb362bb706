use Rattle.std.proofs.Common.{ℕ, List, ap, subst, sym, ◌∙◌, arith}
use Rattle.std.specs.List.{filter}
use Rattle.vl_conflict.specs.Notes.{is_above_floor}
use Rattle.vl_conflict.specs.Recent.{Remembers}
use Rattle.vl_model.specs.Conflicts.{Named}
use Rattle.vl_oracle.specs.LiveTickets.{LiveTickets, floor_of}
use Rattle.vl_front.proofs.Pruning.{AreAbove, above_only}
use Rattle.vl_front.proofs.front.Front.end.Goals as goal

pub returns-clause-knows : goal.returns-clause-knows
returns-clause-knows c h knows = record {
  last = ap (λ (live : LiveTickets). live.last) c.end.ensures.ended ∙ knows.last;
  remembers =
      subst (λ (n : ℕ). Remembers n h c.prune.new.self.named) c.floor.ensures
      (c.prune.ensures.remembers h (floor_of c.args.self.now.oracle) knows.remembers
      (omega (arith, c.end.ensures.floor, c.floor.ensures)));
}

pub returns-clause-pruned : goal.returns-clause-pruned
returns-clause-pruned c =
    let named = c.args.self.now.recent.named in
    subst (λ (kept : List Named). AreAbove (floor_of c.end.new.self) kept) (sym c.prune.ensures.named)
    (subst (λ (n : ℕ). AreAbove n (filter (is_above_floor c.floor.result) named)) c.floor.ensures (above_only c.floor.result named))
