use Rattle.std.specs.Prelude.{◌≡◌, ◌+◌, ◌≤◌, length, true}
use Rattle.vl_compact.specs.Progress.{HasRead}
use Rattle.vl_version.specs.Bases as bases
use Rattle.vlstore.specs.Handing.{IsUnderWayIn}
use Rattle.vlstore.specs.Knowing.{GoesOn}
use Rattle.vlstore.specs.Merging.{Did, IsChange}
use Rattle.vlstore.proofs.session.Session.carry_out.Given as goal

abbrev pub invariant-making : goal.invariant-making
invariant-making g l = record {
  on : GoesOn l.fn.self l.self;
  changes : l.fn.self.tells ≡ true → Did IsChange l.fn.self l.self;
  way : IsUnderWayIn l.self g.D.Writer.Writer g.D.Held.HeldFile.bytes l.job;
  took : l.fn.self.tells ≡ true → l.counter + length l.fn.self.own ≤ length l.self.own;
  base : l.job.base ≡ l.fn.job.base;
  inputs : l.job.inputs ≡ l.fn.job.inputs;
  fits : l.self.tells ≡ true → bases.Fits g.D.Held.HeldFile.bytes l.job.base.version l.reader.looks;
  read : HasRead g.D.Held.HeldFile.bytes l.fn.job → HasRead g.D.Held.HeldFile.bytes l.job;
}
