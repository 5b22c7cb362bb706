use Rattle.std.specs.Prelude.{◌≡◌, ◌+◌, None}
use Rattle.std.specs.VecDeque.{deque_capacity, deque_len}
use Rattle.vl_disk.specs.Faults.{HasCause}
use Rattle.vl_space.specs.laws.There.Swept.{HasGone}
use Rattle.vl_space.specs.Sweeping.{PinsStay, up_to}
use Rattle.vl_engine.proofs.engine.Engine.sweep_up_to.Given as goal

abbrev pub invariant-loop-file : goal.invariant-loop-file
invariant-loop-file g l = record {
  gone : HasGone g.D.Watched g.D.Writer.Writer l.bound l.fn.self.removing.stock.trash.items l.self.removing.stock.trash.items
      l.fn.self.disk l.self.disk l.count;
  core : l.self.core ≡ l.fn.self.core;
  running : l.fn.self.core.front.halted ≡ None;
  merging : l.self.merging ≡ l.fn.self.merging;
  collecting : l.self.collecting ≡ l.fn.self.collecting;
  in_use : l.self.removing.stock.in_use ≡ l.fn.self.removing.stock.in_use;
  capacity : deque_capacity l.self.removing.stock.trash ≡ deque_capacity l.fn.self.removing.stock.trash;
  pins : PinsStay l.fn.self.core.back.epoch l.fn.self.removing.pins l.self.removing.pins;
  bound : l.bound ≡ up_to l.fn.least l.fn.self.core.back.epoch l.fn.self.removing.pins;
  cause : HasCause (g.D.Watched.faults l.fn.self.disk) (g.D.Watched.faults l.self.disk) ⊥;
  fits : l.count + deque_len l.self.removing.stock.trash ≡ deque_len l.fn.self.removing.stock.trash;
}

abbrev pub decreases-loop-file : goal.decreases-loop-file
decreases-loop-file g l = deque_len l.self.removing.stock.trash
