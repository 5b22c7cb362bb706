use Rattle.std.specs.Prelude.{◌≡◌, Some}
use Rattle.vl_compact.specs.Reading.{IsSure}
use Rattle.vl_table.specs.declared.block_reader.BlockReader.{BlockReader}
use Rattle.vl_compact.specs.Progress.{HasRead}
use Rattle.vl_engine.proofs.Whole.{IsMaking}
use Rattle.vl_steps.specs.Merging.{FitsReaders, HasMerge}
use Rattle.vl_engine_laws.specs.Lent.{StandsOpen}
use Rattle.vl_engine_laws.specs.Represents.{Represents}
use Rattle.vl_engine_laws.specs.MayStep.{Fits}
use Rattle.vl_space.specs.Removing.{Removes}
use Rattle.vl_disk.specs.Performs.{GoesOnTelling}
use Rattle.vl_engine.proofs.Refusing.{Draws}
use Rattle.vl_engine.specs.Refusals.{KeepsAllBelow, LendsFrom, moment}
use Rattle.vl_version.specs.Bases as bases
use Rattle.vl_engine.specs.UnderWay.{IsUnderWay}
use Rattle.vl_engine_model.specs.declared.job.OpenJob.{OpenJob}
use Rattle.vl_engine_model.specs.declared.layout.Layout.{Layout}
use Rattle.vl_model.specs.History.{History}
use Rattle.vl_engine.proofs.engine.Engine.carry_out.Given as goal

abbrev pub invariant-making : goal.invariant-making
invariant-making g l = record {
  way : IsUnderWay g.D.Watched g.D.Writer.Writer l.self.disk l.self.core.front.halted l.self.merging l.job;
  makes : (h : History) (x : Layout) (o : OpenJob)
      → Represents g.D.Held.HeldFile.bytes l.fn.self.core (g.D.Watched.told l.fn.self.disk) h x
      → StandsOpen g.D.Held.HeldFile.bytes l.fn.self.core l.fn.self.merging h x → Fits (g.D.Watched.told l.fn.self.disk) l.fn.self.core h x
      → x.job ≡ Some o → HasMerge g.D.Writer.Writer g.D.Held.HeldFile.bytes l.fn.job o.job
      → FitsReaders g.D.Held.HeldFile.bytes l.fn.job
      → IsMaking g.D.Watched g.D.Writer.Writer g.D.Held.HeldFile.bytes l.fn.self.disk l.self.disk l.self.core l.self.merging l.job
      l.reader h x o.job;
  removes : (h : History) (x : Layout) (o : OpenJob)
      → Represents g.D.Held.HeldFile.bytes l.fn.self.core (g.D.Watched.told l.fn.self.disk) h x
      → StandsOpen g.D.Held.HeldFile.bytes l.fn.self.core l.fn.self.merging h x → Fits (g.D.Watched.told l.fn.self.disk) l.fn.self.core h x
      → x.job ≡ Some o → HasMerge g.D.Writer.Writer g.D.Held.HeldFile.bytes l.fn.job o.job
      → FitsReaders g.D.Held.HeldFile.bytes l.fn.job → Removes l.fn.self.core l.fn.self.removing x
      → (m : IsMaking g.D.Watched g.D.Writer.Writer g.D.Held.HeldFile.bytes l.fn.self.disk l.self.disk l.self.core l.self.merging l.job
      l.reader h x o.job) × Removes l.self.core l.self.removing m.stays.layout;
  pins : l.self.removing.pins ≡ l.fn.self.removing.pins;
  collecting : l.self.collecting ≡ l.fn.self.collecting;
  logs : l.self.core.version.behind.logs ≡ l.fn.self.core.version.behind.logs;
  draws : Draws g.D.Watched (moment l.fn.self.core l.fn.self.merging l.fn.self.disk) (moment l.self.core l.self.merging l.self.disk)
      l.counter;
  lends : LendsFrom l.fn.self.core.back.state.next_table l.fn.self.merging l.self.merging;
  files : KeepsAllBelow l.fn.self.core.back.state.next_table (g.D.Watched.told l.fn.self.disk) (g.D.Watched.told l.self.disk);
  tells : GoesOnTelling (g.D.Watched.told l.fn.self.disk) (g.D.Watched.told l.self.disk);
  base : l.job.base ≡ l.fn.job.base;
  inputs : l.job.inputs ≡ l.fn.job.inputs;
  looks : FitsReaders g.D.Held.HeldFile.bytes l.fn.job
      → bases.Fits g.D.Held.HeldFile.bytes l.fn.job.base.version l.reader.looks;
  gives : g.D.Watched.gives_steady l.fn.self.disk → g.D.Watched.gives_steady l.self.disk;
  sure : g.D.Watched.gives_steady l.fn.self.disk → IsSure (λ (r : BlockReader _). g.D.Reader.Reader.faults r.reader)
      g.D.Reader.Reader.faults l.reader;
  read : HasRead g.D.Held.HeldFile.bytes l.fn.job → HasRead g.D.Held.HeldFile.bytes l.job;
}
