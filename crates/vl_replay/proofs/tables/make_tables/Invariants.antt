use Rattle.std.specs.Prelude.{◌≡◌, ◌-◌, ◌^◌, None}
use Rattle.vl_engine_model.specs.declared.job.Job.{Job}
use Rattle.vl_replay_laws.specs.Drawn.{IsPlanned}
use Rattle.vl_replay.specs.Rounds.{HasLent, MergesSurely}
use Rattle.vl_script_model.specs.Sequential.{State}
use Rattle.vl_space.specs.Removing.{Removes}
use Rattle.vl_replay.proofs.CarryingRemoved.{LeavesDrawn}
use Rattle.vl_replay.proofs.CarryingTables.{SoFar}
use Rattle.vl_steps.specs.Merging.{FitsReaders}
use Rattle.vl_version.specs.Bases.{Fits}
use Rattle.vl_replay.proofs.tables.make_tables.Given as goal

abbrev pub invariant-tables : goal.invariant-tables
invariant-tables g l = record {
  lent : HasLent g.D.Watched g.D.Writer.Writer l.engine.disk l.engine.merging l.job;
  collecting : l.engine.collecting ≡ l.fn.engine.collecting;
  logs : l.engine.core.version.behind.logs ≡ l.fn.engine.core.version.behind.logs;
  base : l.job.base ≡ l.fn.job.base;
  inputs : l.job.inputs ≡ l.fn.job.inputs;
  fits : FitsReaders g.D.Held.HeldFile.bytes l.fn.job → Fits g.D.Held.HeldFile.bytes l.job.base.version l.reader.looks;
  steady : g.D.Watched.faults l.engine.disk ≡ g.D.Watched.faults l.fn.engine.disk;
  sure : g.D.Watched.gives_steady l.fn.engine.disk
      → MergesSurely g.D.Watched g.D.Reader.Reader.faults l.engine.disk l.reader;
  running : l.fn.engine.core.front.halted ≡ None → l.engine.core.front.halted ≡ None;
  so_far : (s : State) (j : Job)
      → IsPlanned g.D.Writer.Writer g.D.Held.HeldFile.bytes
      (g.D.Watched.told l.fn.engine.disk) l.fn.engine.core l.fn.engine.merging l.fn.job s j
      → SoFar g.D.Watched g.D.Writer.Writer g.D.Held.HeldFile.bytes l.fn.engine.disk l.engine.disk l.engine.core l.engine.merging l.job
      l.reader s j;
  removes : (s : State) (j : Job)
      → IsPlanned g.D.Writer.Writer g.D.Held.HeldFile.bytes
      (g.D.Watched.told l.fn.engine.disk) l.fn.engine.core l.fn.engine.merging l.fn.job s j
      → Removes l.fn.engine.core l.fn.engine.removing s.store.layout
      → LeavesDrawn (Removes l.engine.core l.engine.removing) l.engine.core s.store.layout;
}

abbrev pub decreases-tables : goal.decreases-tables
decreases-tables g l = 2 ^ 32 - l.engine.core.back.state.next_table
