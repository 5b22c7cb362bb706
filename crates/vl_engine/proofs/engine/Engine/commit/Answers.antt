use Rattle.std.proofs.Common.{ap, refl, sym, ◌∙◌}
use Rattle.std.specs.Prelude.{[]}
use Rattle.vl_steps.specs.laws.Committing.{carries_unwritten, decides_leaving}
use Rattle.vl_steps.specs.laws.Fitted.{written_by}
use Rattle.vl_steps.specs.laws.Ruled.{carries_by, carries_refused_by, decides_by, failed_by, files_by, no_conflict_by}
use Rattle.vl_steps.specs.laws.Ruled.{ruling_so, stands_by, stops_by, unwritten_here}
use Rattle.vl_engine_laws.specs.laws.Untouched.{alone}
use Rattle.vl_engine.proofs.engine.Engine.commit.Goals as goal
use Rattle.vl_engine_laws.specs.Represents.{Fronts, StandsFor, file_of}
use Rattle.vl_engine_laws.specs.MayStep.{Fits}
use Rattle.vl_front.specs.declared.decision.Decision.TheVariants as decisions
use Rattle.vl_engine_model.specs.Ruling.{ended}
use Rattle.vl_engine_model.specs.Rulings.Commit as answers
use Rattle.vl_steps.specs.laws.Steady.{commit_steady, same_steady}
use Rattle.vl_steps.specs.laws.Untold.{commit_untold}
use Rattle.vl_engine.proofs.WriteRemoved.{removes_by, stock_by}
use Rattle.vl_space.specs.Removing.{Removes}
use Rattle.vl_engine_model.specs.declared.layout.Layout.{Layout}
use Rattle.vl_model.specs.declared.counter.Counter.TheVariants as counters
use Rattle.vl_version.specs.declared.version.Version.{Version}

pub returns-in_default-clause-carries : goal.returns-in_default-clause-carries
returns-in_default-clause-carries g c h l reads is lives notes =
    let core = c.args.self.now.core in
    let disk = c.args.self.now.disk in
    carries_unwritten g.D.Held.HeldFile.bytes core core h l c.args.txn.ticket c.args.txn.number reads c.args.txn.writes refl
    g.D.Watched disk disk (unwritten_here g.D.Watched disk core)
    (record { only_now = g.met.D.Disk.only_now; counts_now = g.met.D.Disk.counts_now }) is

pub returns-in-Halted-clause-decides : goal.returns-in-Halted-clause-decides
returns-in-Halted-clause-decides g c h l reads is lives notes =
    decides_leaving (Fronts c.forget.new.self.core) h l _ _ (answers.Halted (file_of c.in-Halted.name)) (ended c.args.txn.ticket l)
    (ruling_so c.args.self.now.core h l is c.args.txn.ticket c.args.txn.number reads c.args.txn.writes
    (decisions.Halted c.in-Halted.name) lives
    (λ floor remembers below. sym c.in-Halted.is ∙ c.in-Ok.ensures.decided h floor reads remembers below notes))
    (c.forget.ensures.decides h l is)

pub returns-in-Halted-clause-stands : goal.returns-in-Halted-clause-stands
returns-in-Halted-clause-stands g c h l reads is lives notes =
    decides_leaving (StandsFor g.D.Held.HeldFile.bytes c.forget.new.self.core) h l _ _
    (answers.Halted (file_of c.in-Halted.name)) (ended c.args.txn.ticket l)
    (ruling_so c.args.self.now.core h l is.fronts c.args.txn.ticket c.args.txn.number reads c.args.txn.writes
    (decisions.Halted c.in-Halted.name) lives
    (λ floor remembers below. sym c.in-Halted.is ∙ c.in-Ok.ensures.decided h floor reads remembers below notes))
    (c.forget.ensures.stands h l is)

pub returns-in-Halted-clause-fits : goal.returns-in-Halted-clause-fits
returns-in-Halted-clause-fits g c h l reads is fits lives notes =
    decides_leaving (Fits (g.D.Watched.told c.forget.new.self.disk) c.forget.new.self.core) h l _ _
    (answers.Halted (file_of c.in-Halted.name)) (ended c.args.txn.ticket l)
    (ruling_so c.args.self.now.core h l is.fronts c.args.txn.ticket c.args.txn.number reads c.args.txn.writes
    (decisions.Halted c.in-Halted.name) lives
    (λ floor remembers below. sym c.in-Halted.is ∙ c.in-Ok.ensures.decided h floor reads remembers below notes))
    (c.forget.ensures.fits h l fits)

pub returns-in-Halted-clause-carries : goal.returns-in-Halted-clause-carries
returns-in-Halted-clause-carries g c h l reads is lives notes =
    carries_refused_by g.D.Watched (record { only_now = g.met.D.Disk.only_now; counts_now = g.met.D.Disk.counts_now })
    g.D.Held.HeldFile.bytes c.args.self.now.disk c.forget.new.self.disk c.args.self.now.core c.forget.new.self.core h l
    c.args.txn.ticket c.args.txn.number reads c.args.txn.writes c.forget.ensures.back
    (answers.Halted (file_of c.in-Halted.name)) (ended c.args.txn.ticket l)
    (ruling_so c.args.self.now.core h l is.stands.fronts c.args.txn.ticket c.args.txn.number reads c.args.txn.writes
    (decisions.Halted c.in-Halted.name) lives
    (λ floor remembers below. sym c.in-Halted.is ∙ c.in-Ok.ensures.decided h floor reads remembers below notes))
    c.forget.ensures.disk is (c.forget.ensures.represents h l is)

pub returns-in-Nothing-clause-decides : goal.returns-in-Nothing-clause-decides
returns-in-Nothing-clause-decides g c h l reads is lives notes =
    decides_leaving (Fronts c.forget-in-Nothing.new.self.core) h l _ _ answers.Nothing (ended c.args.txn.ticket l)
    (ruling_so c.args.self.now.core h l is c.args.txn.ticket c.args.txn.number reads c.args.txn.writes decisions.Nothing lives
    (λ floor remembers below. sym c.in-Nothing.is ∙ c.in-Ok.ensures.decided h floor reads remembers below notes))
    (c.forget-in-Nothing.ensures.decides h l is)

pub returns-in-Nothing-clause-stands : goal.returns-in-Nothing-clause-stands
returns-in-Nothing-clause-stands g c h l reads is lives notes =
    decides_leaving (StandsFor g.D.Held.HeldFile.bytes c.forget-in-Nothing.new.self.core) h l _ _ answers.Nothing (ended c.args.txn.ticket l)
    (ruling_so c.args.self.now.core h l is.fronts c.args.txn.ticket c.args.txn.number reads c.args.txn.writes decisions.Nothing lives
    (λ floor remembers below. sym c.in-Nothing.is ∙ c.in-Ok.ensures.decided h floor reads remembers below notes))
    (c.forget-in-Nothing.ensures.stands h l is)

pub returns-in-Nothing-clause-fits : goal.returns-in-Nothing-clause-fits
returns-in-Nothing-clause-fits g c h l reads is fits lives notes =
    decides_leaving (Fits (g.D.Watched.told c.forget-in-Nothing.new.self.disk) c.forget-in-Nothing.new.self.core) h l _ _
    answers.Nothing (ended c.args.txn.ticket l)
    (ruling_so c.args.self.now.core h l is.fronts c.args.txn.ticket c.args.txn.number reads c.args.txn.writes decisions.Nothing lives
    (λ floor remembers below. sym c.in-Nothing.is ∙ c.in-Ok.ensures.decided h floor reads remembers below notes))
    (c.forget-in-Nothing.ensures.fits h l fits)

pub returns-in-Nothing-clause-carries : goal.returns-in-Nothing-clause-carries
returns-in-Nothing-clause-carries g c h l reads is lives notes =
    carries_refused_by g.D.Watched (record { only_now = g.met.D.Disk.only_now; counts_now = g.met.D.Disk.counts_now })
    g.D.Held.HeldFile.bytes c.args.self.now.disk c.forget-in-Nothing.new.self.disk c.args.self.now.core c.forget-in-Nothing.new.self.core h l
    c.args.txn.ticket c.args.txn.number reads c.args.txn.writes c.forget-in-Nothing.ensures.back answers.Nothing (ended c.args.txn.ticket l)
    (ruling_so c.args.self.now.core h l is.stands.fronts c.args.txn.ticket c.args.txn.number reads c.args.txn.writes decisions.Nothing lives
    (λ floor remembers below. sym c.in-Nothing.is ∙ c.in-Ok.ensures.decided h floor reads remembers below notes))
    c.forget-in-Nothing.ensures.disk is (c.forget-in-Nothing.ensures.represents h l is)

pub returns-in-Exhausted-clause-decides : goal.returns-in-Exhausted-clause-decides
returns-in-Exhausted-clause-decides g c h l reads is lives notes =
    decides_leaving (Fronts c.args.self.now.core) h l _ _ (answers.Exhausted counters.Commit) l
    (ruling_so c.args.self.now.core h l is c.args.txn.ticket c.args.txn.number reads c.args.txn.writes decisions.Exhausted lives
    (λ floor remembers below. sym c.in-Exhausted.is ∙ c.in-Ok.ensures.decided h floor reads remembers below notes))
    is

pub returns-in-Exhausted-clause-stands : goal.returns-in-Exhausted-clause-stands
returns-in-Exhausted-clause-stands g c h l reads is lives notes =
    decides_leaving (StandsFor g.D.Held.HeldFile.bytes c.args.self.now.core) h l _ _ (answers.Exhausted counters.Commit) l
    (ruling_so c.args.self.now.core h l is.fronts c.args.txn.ticket c.args.txn.number reads c.args.txn.writes decisions.Exhausted lives
    (λ floor remembers below. sym c.in-Exhausted.is ∙ c.in-Ok.ensures.decided h floor reads remembers below notes))
    is

pub returns-in-Exhausted-clause-fits : goal.returns-in-Exhausted-clause-fits
returns-in-Exhausted-clause-fits g c h l reads is fits lives notes =
    decides_leaving (Fits (g.D.Watched.told c.args.self.now.disk) c.args.self.now.core) h l _ _ (answers.Exhausted counters.Commit) l
    (ruling_so c.args.self.now.core h l is.fronts c.args.txn.ticket c.args.txn.number reads c.args.txn.writes decisions.Exhausted lives
    (λ floor remembers below. sym c.in-Exhausted.is ∙ c.in-Ok.ensures.decided h floor reads remembers below notes))
    fits

pub returns-in-Exhausted-clause-carries : goal.returns-in-Exhausted-clause-carries
returns-in-Exhausted-clause-carries g c h l reads is lives notes =
    carries_refused_by g.D.Watched (record { only_now = g.met.D.Disk.only_now; counts_now = g.met.D.Disk.counts_now })
    g.D.Held.HeldFile.bytes c.args.self.now.disk c.args.self.now.disk c.args.self.now.core c.args.self.now.core h l
    c.args.txn.ticket c.args.txn.number reads c.args.txn.writes refl (answers.Exhausted counters.Commit) l
    (ruling_so c.args.self.now.core h l is.stands.fronts c.args.txn.ticket c.args.txn.number reads c.args.txn.writes
    decisions.Exhausted lives
    (λ floor remembers below. sym c.in-Exhausted.is ∙ c.in-Ok.ensures.decided h floor reads remembers below notes))
    refl is is

pub returns-in-Conflict-clause-decides : goal.returns-in-Conflict-clause-decides
returns-in-Conflict-clause-decides g c h l reads is lives notes =
    decides_leaving (Fronts c.forget-in-Conflict.new.self.core) h l _ _
    (answers.Conflict c.in-Conflict.key c.in-Conflict.number) (ended c.args.txn.ticket l)
    (ruling_so c.args.self.now.core h l is c.args.txn.ticket c.args.txn.number reads c.args.txn.writes
    (decisions.Conflict c.in-Conflict.key c.in-Conflict.number) lives
    (λ floor remembers below. sym c.in-Conflict.is ∙ c.in-Ok.ensures.decided h floor reads remembers below notes))
    (c.forget-in-Conflict.ensures.decides h l is)

pub returns-in-Conflict-clause-stands : goal.returns-in-Conflict-clause-stands
returns-in-Conflict-clause-stands g c h l reads is lives notes =
    decides_leaving (StandsFor g.D.Held.HeldFile.bytes c.forget-in-Conflict.new.self.core) h l _ _
    (answers.Conflict c.in-Conflict.key c.in-Conflict.number) (ended c.args.txn.ticket l)
    (ruling_so c.args.self.now.core h l is.fronts c.args.txn.ticket c.args.txn.number reads c.args.txn.writes
    (decisions.Conflict c.in-Conflict.key c.in-Conflict.number) lives
    (λ floor remembers below. sym c.in-Conflict.is ∙ c.in-Ok.ensures.decided h floor reads remembers below notes))
    (c.forget-in-Conflict.ensures.stands h l is)

pub returns-in-Conflict-clause-fits : goal.returns-in-Conflict-clause-fits
returns-in-Conflict-clause-fits g c h l reads is fits lives notes =
    decides_leaving (Fits (g.D.Watched.told c.forget-in-Conflict.new.self.disk) c.forget-in-Conflict.new.self.core) h l _ _
    (answers.Conflict c.in-Conflict.key c.in-Conflict.number) (ended c.args.txn.ticket l)
    (ruling_so c.args.self.now.core h l is.fronts c.args.txn.ticket c.args.txn.number reads c.args.txn.writes
    (decisions.Conflict c.in-Conflict.key c.in-Conflict.number) lives
    (λ floor remembers below. sym c.in-Conflict.is ∙ c.in-Ok.ensures.decided h floor reads remembers below notes))
    (c.forget-in-Conflict.ensures.fits h l fits)

pub returns-in-Conflict-clause-carries : goal.returns-in-Conflict-clause-carries
returns-in-Conflict-clause-carries g c h l reads is lives notes =
    carries_refused_by g.D.Watched (record { only_now = g.met.D.Disk.only_now; counts_now = g.met.D.Disk.counts_now })
    g.D.Held.HeldFile.bytes c.args.self.now.disk c.forget-in-Conflict.new.self.disk c.args.self.now.core c.forget-in-Conflict.new.self.core h l
    c.args.txn.ticket c.args.txn.number reads c.args.txn.writes c.forget-in-Conflict.ensures.back
    (answers.Conflict c.in-Conflict.key c.in-Conflict.number) (ended c.args.txn.ticket l)
    (ruling_so c.args.self.now.core h l is.stands.fronts c.args.txn.ticket c.args.txn.number reads c.args.txn.writes
    (decisions.Conflict c.in-Conflict.key c.in-Conflict.number) lives
    (λ floor remembers below. sym c.in-Conflict.is ∙ c.in-Ok.ensures.decided h floor reads remembers below notes))
    c.forget-in-Conflict.ensures.disk is (c.forget-in-Conflict.ensures.represents h l is)

pub returns-in-Full-clause-decides : goal.returns-in-Full-clause-decides
returns-in-Full-clause-decides g c h l reads is lives notes =
    decides_leaving (Fronts c.args.self.now.core) h l _ _ (answers.Full c.in-Full.length c.in-Full.frame) l
    (ruling_so c.args.self.now.core h l is c.args.txn.ticket c.args.txn.number reads c.args.txn.writes
    (decisions.Full c.in-Full.length c.in-Full.frame) lives
    (λ floor remembers below. sym c.in-Full.is ∙ c.in-Ok.ensures.decided h floor reads remembers below notes))
    is

pub returns-in-Full-clause-stands : goal.returns-in-Full-clause-stands
returns-in-Full-clause-stands g c h l reads is lives notes =
    decides_leaving (StandsFor g.D.Held.HeldFile.bytes c.args.self.now.core) h l _ _ (answers.Full c.in-Full.length c.in-Full.frame) l
    (ruling_so c.args.self.now.core h l is.fronts c.args.txn.ticket c.args.txn.number reads c.args.txn.writes
    (decisions.Full c.in-Full.length c.in-Full.frame) lives
    (λ floor remembers below. sym c.in-Full.is ∙ c.in-Ok.ensures.decided h floor reads remembers below notes))
    is

pub returns-in-Full-clause-fits : goal.returns-in-Full-clause-fits
returns-in-Full-clause-fits g c h l reads is fits lives notes =
    decides_leaving (Fits (g.D.Watched.told c.args.self.now.disk) c.args.self.now.core) h l _ _
    (answers.Full c.in-Full.length c.in-Full.frame) l
    (ruling_so c.args.self.now.core h l is.fronts c.args.txn.ticket c.args.txn.number reads c.args.txn.writes
    (decisions.Full c.in-Full.length c.in-Full.frame) lives
    (λ floor remembers below. sym c.in-Full.is ∙ c.in-Ok.ensures.decided h floor reads remembers below notes))
    fits

pub returns-in-Full-clause-carries : goal.returns-in-Full-clause-carries
returns-in-Full-clause-carries g c h l reads is lives notes =
    carries_refused_by g.D.Watched (record { only_now = g.met.D.Disk.only_now; counts_now = g.met.D.Disk.counts_now })
    g.D.Held.HeldFile.bytes c.args.self.now.disk c.args.self.now.disk c.args.self.now.core c.args.self.now.core h l
    c.args.txn.ticket c.args.txn.number reads c.args.txn.writes refl (answers.Full c.in-Full.length c.in-Full.frame) l
    (ruling_so c.args.self.now.core h l is.stands.fronts c.args.txn.ticket c.args.txn.number reads c.args.txn.writes
    (decisions.Full c.in-Full.length c.in-Full.frame) lives
    (λ floor remembers below. sym c.in-Full.is ∙ c.in-Ok.ensures.decided h floor reads remembers below notes))
    refl is is

pub returns-in-Write-clause-decides : goal.returns-in-Write-clause-decides
returns-in-Write-clause-decides g c h l reads is lives notes =
    decides_by g.D.Watched (record { only_now = g.met.D.Disk.only_now; counts_now = g.met.D.Disk.counts_now })
    g.D.Held.HeldFile.bytes c.args.self.now.disk c.write.new.self.disk c.args.self.now.core c.write.new.self.core h l
    c.args.txn.ticket c.args.txn.number reads c.args.txn.writes c.write.ensures.steps
    (ruling_so c.args.self.now.core h l is c.args.txn.ticket c.args.txn.number reads c.args.txn.writes decisions.Write lives
    (λ floor remembers below. sym c.in-Write.is ∙ c.in-Ok.ensures.decided h floor reads remembers below notes))
    c.write.result c.write.ensures.as_written is

pub returns-in-Write-clause-stands : goal.returns-in-Write-clause-stands
returns-in-Write-clause-stands g c h l reads is lives notes =
    stands_by g.D.Watched (record { only_now = g.met.D.Disk.only_now; counts_now = g.met.D.Disk.counts_now })
    g.D.Held.HeldFile.bytes c.args.self.now.disk c.write.new.self.disk c.args.self.now.core c.write.new.self.core h l
    c.args.txn.ticket c.args.txn.number reads c.args.txn.writes c.write.ensures.steps
    (ruling_so c.args.self.now.core h l is.fronts c.args.txn.ticket c.args.txn.number reads c.args.txn.writes decisions.Write lives
    (λ floor remembers below. sym c.in-Write.is ∙ c.in-Ok.ensures.decided h floor reads remembers below notes))
    c.write.result c.write.ensures.as_written is

pub returns-in-Write-clause-fits : goal.returns-in-Write-clause-fits
returns-in-Write-clause-fits g c h l reads is fits lives notes =
    written_by g.D.Watched g.D.Held.HeldFile.bytes c.args.self.now.disk c.write.new.self.disk c.args.self.now.core
    c.write.new.self.core h l c.args.txn.ticket c.args.txn.number reads c.args.txn.writes c.write.ensures.steps
    (ruling_so c.args.self.now.core h l is.fronts c.args.txn.ticket c.args.txn.number reads c.args.txn.writes decisions.Write lives
    (λ floor remembers below. sym c.in-Write.is ∙ c.in-Ok.ensures.decided h floor reads remembers below notes))
    c.args.self.now.ready is fits c.write.result c.write.ensures.as_written

pub returns-in-Write-clause-carries : goal.returns-in-Write-clause-carries
returns-in-Write-clause-carries g c h l reads is lives notes =
    carries_by g.D.Watched (record { only_now = g.met.D.Disk.only_now; counts_now = g.met.D.Disk.counts_now })
    g.D.Held.HeldFile.bytes c.args.self.now.disk c.write.new.self.disk c.args.self.now.core c.write.new.self.core h l
    c.args.txn.ticket c.args.txn.number reads c.args.txn.writes c.write.ensures.steps
    (ruling_so c.args.self.now.core h l is.stands.fronts c.args.txn.ticket c.args.txn.number reads c.args.txn.writes decisions.Write lives
    (λ floor remembers below. sym c.in-Write.is ∙ c.in-Ok.ensures.decided h floor reads remembers below notes))
    c.write.result c.write.ensures.as_written is

pub returns-in-Write-clause-explained : goal.returns-in-Write-clause-explained
returns-in-Write-clause-explained g c h l reads number is lives sees said =
    c.reads_without_conflict_stay_explained.ensures h c.args.txn.number reads sees.version.readable
    (no_conflict_by g.D.Watched (record { only_now = g.met.D.Disk.only_now; counts_now = g.met.D.Disk.counts_now })
    g.D.Held.HeldFile.bytes c.args.self.now.disk c.write.new.self.disk c.args.self.now.core c.write.new.self.core h l
    c.args.txn.ticket c.args.txn.number reads c.args.txn.writes c.write.ensures.steps
    (ruling_so c.args.self.now.core h l is c.args.txn.ticket c.args.txn.number reads c.args.txn.writes decisions.Write lives
    (λ floor remembers below. sym c.in-Write.is ∙ c.in-Ok.ensures.decided h floor reads remembers below sees.notes)))
    sees.explained

pub returns-in-Write-clause-failed : goal.returns-in-Write-clause-failed
returns-in-Write-clause-failed g c h l reads is lives notes stopped =
    failed_by g.D.Watched (record { only_now = g.met.D.Disk.only_now; counts_now = g.met.D.Disk.counts_now })
    g.D.Held.HeldFile.bytes c.args.self.now.disk c.write.new.self.disk c.args.self.now.core c.write.new.self.core h l
    c.args.txn.ticket c.args.txn.number reads c.args.txn.writes c.write.ensures.steps
    (ruling_so c.args.self.now.core h l is c.args.txn.ticket c.args.txn.number reads c.args.txn.writes decisions.Write lives
    (λ floor remembers below. sym c.in-Write.is ∙ c.in-Ok.ensures.decided h floor reads remembers below notes))
    c.write.result c.write.ensures.as_written is stopped

pub returns-in-Write-clause-stopped : goal.returns-in-Write-clause-stopped
returns-in-Write-clause-stopped g c h l is clean failed =
    stops_by g.D.Watched (record { only_now = g.met.D.Disk.only_now; counts_now = g.met.D.Disk.counts_now })
    g.D.Held.HeldFile.bytes c.args.self.now.disk c.write.new.self.disk c.args.self.now.core c.write.new.self.core h l
    c.args.txn.ticket c.args.txn.number [] c.args.txn.writes c.write.ensures.steps
    c.write.result c.write.ensures.as_written is clean failed

pub returns-in-Write-clause-files : goal.returns-in-Write-clause-files
returns-in-Write-clause-files g c =
    files_by g.D.Watched (record { only_now = g.met.D.Disk.only_now; counts_now = g.met.D.Disk.counts_now })
    c.args.self.now.disk c.write.new.self.disk c.args.self.now.core c.write.new.self.core c.args.txn.ticket c.args.txn.writes
    c.write.result c.write.ensures.as_written

-- ---- the disk is left alone

pub returns-in_default-clause-untouched : goal.returns-in_default-clause-untouched
returns-in_default-clause-untouched g c leaves = alone g.D.Watched _ _ refl

pub returns-in-Halted-clause-untouched : goal.returns-in-Halted-clause-untouched
returns-in-Halted-clause-untouched g c leaves = alone g.D.Watched _ _ c.forget.ensures.disk

pub returns-in-Nothing-clause-untouched : goal.returns-in-Nothing-clause-untouched
returns-in-Nothing-clause-untouched g c leaves = alone g.D.Watched _ _ c.forget-in-Nothing.ensures.disk

pub returns-in-Exhausted-clause-untouched : goal.returns-in-Exhausted-clause-untouched
returns-in-Exhausted-clause-untouched g c leaves = alone g.D.Watched _ _ refl

pub returns-in-Conflict-clause-untouched : goal.returns-in-Conflict-clause-untouched
returns-in-Conflict-clause-untouched g c leaves = alone g.D.Watched _ _ c.forget-in-Conflict.ensures.disk

pub returns-in-Full-clause-untouched : goal.returns-in-Full-clause-untouched
returns-in-Full-clause-untouched g c leaves = alone g.D.Watched _ _ refl

pub returns-in-Write-clause-untold : goal.returns-in-Write-clause-untold
returns-in-Write-clause-untold g c =
    commit_untold g.D.Watched c.args.self.now.core c.write.new.self.core c.args.self.now.disk c.write.new.self.disk
    c.args.txn.ticket c.args.txn.writes c.write.result c.write.ensures.as_written

pub returns-in-Halted-clause-steady : goal.returns-in-Halted-clause-steady
returns-in-Halted-clause-steady g c gives = same_steady g.D.Watched _ _ c.forget.ensures.disk gives

pub returns-in-Nothing-clause-steady : goal.returns-in-Nothing-clause-steady
returns-in-Nothing-clause-steady g c gives = same_steady g.D.Watched _ _ c.forget-in-Nothing.ensures.disk gives

pub returns-in-Conflict-clause-steady : goal.returns-in-Conflict-clause-steady
returns-in-Conflict-clause-steady g c gives = same_steady g.D.Watched _ _ c.forget-in-Conflict.ensures.disk gives

pub returns-in-Write-clause-steady : goal.returns-in-Write-clause-steady
returns-in-Write-clause-steady g c gives =
    commit_steady g.D.Watched c.args.self.now.core c.write.new.self.core c.args.self.now.disk c.write.new.self.disk
    c.args.txn.ticket c.args.txn.writes c.write.result c.write.ensures.as_written gives

-- ---- which files can go

pub returns-in-Halted-clause-removes : goal.returns-in-Halted-clause-removes
returns-in-Halted-clause-removes g c h l reads is removes lives notes =
    decides_leaving (λ _ (k : Layout). Removes c.forget.new.self.core c.forget.new.self.removing k) h l _ _
    (answers.Halted (file_of c.in-Halted.name)) (ended c.args.txn.ticket l)
    (ruling_so c.args.self.now.core h l is c.args.txn.ticket c.args.txn.number reads c.args.txn.writes
    (decisions.Halted c.in-Halted.name) lives
    (λ floor remembers below. sym c.in-Halted.is ∙ c.in-Ok.ensures.decided h floor reads remembers below notes))
    (c.forget.ensures.removes l removes)

pub returns-in-Nothing-clause-removes : goal.returns-in-Nothing-clause-removes
returns-in-Nothing-clause-removes g c h l reads is removes lives notes =
    decides_leaving (λ _ (k : Layout). Removes c.forget-in-Nothing.new.self.core c.forget-in-Nothing.new.self.removing k) h l _ _
    answers.Nothing (ended c.args.txn.ticket l)
    (ruling_so c.args.self.now.core h l is c.args.txn.ticket c.args.txn.number reads c.args.txn.writes
    decisions.Nothing lives
    (λ floor remembers below. sym c.in-Nothing.is ∙ c.in-Ok.ensures.decided h floor reads remembers below notes))
    (c.forget-in-Nothing.ensures.removes l removes)

pub returns-in-Exhausted-clause-removes : goal.returns-in-Exhausted-clause-removes
returns-in-Exhausted-clause-removes g c h l reads is removes lives notes =
    decides_leaving (λ _ (k : Layout). Removes c.args.self.now.core c.args.self.now.removing k) h l _ _
    (answers.Exhausted counters.Commit) l
    (ruling_so c.args.self.now.core h l is c.args.txn.ticket c.args.txn.number reads c.args.txn.writes
    decisions.Exhausted lives
    (λ floor remembers below. sym c.in-Exhausted.is ∙ c.in-Ok.ensures.decided h floor reads remembers below notes))
    removes

pub returns-in-Conflict-clause-removes : goal.returns-in-Conflict-clause-removes
returns-in-Conflict-clause-removes g c h l reads is removes lives notes =
    decides_leaving (λ _ (k : Layout). Removes c.forget-in-Conflict.new.self.core c.forget-in-Conflict.new.self.removing k) h l _ _
    (answers.Conflict c.in-Conflict.key c.in-Conflict.number) (ended c.args.txn.ticket l)
    (ruling_so c.args.self.now.core h l is c.args.txn.ticket c.args.txn.number reads c.args.txn.writes
    (decisions.Conflict c.in-Conflict.key c.in-Conflict.number) lives
    (λ floor remembers below. sym c.in-Conflict.is ∙ c.in-Ok.ensures.decided h floor reads remembers below notes))
    (c.forget-in-Conflict.ensures.removes l removes)

pub returns-in-Full-clause-removes : goal.returns-in-Full-clause-removes
returns-in-Full-clause-removes g c h l reads is removes lives notes =
    decides_leaving (λ _ (k : Layout). Removes c.args.self.now.core c.args.self.now.removing k) h l _ _
    (answers.Full c.in-Full.length c.in-Full.frame) l
    (ruling_so c.args.self.now.core h l is c.args.txn.ticket c.args.txn.number reads c.args.txn.writes
    (decisions.Full c.in-Full.length c.in-Full.frame) lives
    (λ floor remembers below. sym c.in-Full.is ∙ c.in-Ok.ensures.decided h floor reads remembers below notes))
    removes

pub returns-in-Write-clause-removes : goal.returns-in-Write-clause-removes
returns-in-Write-clause-removes g c h l reads is removes lives notes =
    removes_by g.D.Watched g.D.Held.HeldFile.bytes c.args.self.now.disk c.write.new.self.disk c.args.self.now.core
    c.write.new.self.core h l c.args.txn.ticket c.args.txn.number reads c.args.txn.writes c.write.ensures.steps
    (λ i. (c.write.ensures.logs i).items) c.args.self.now.removing c.write.new.self.removing is removes
    (ruling_so c.args.self.now.core h l is c.args.txn.ticket c.args.txn.number reads c.args.txn.writes decisions.Write lives
    (λ floor remembers below. sym c.in-Write.is ∙ c.in-Ok.ensures.decided h floor reads remembers below notes))
    c.write.result c.write.ensures.as_written c.write.ensures.removing

pub returns-in-Write-clause-stock : goal.returns-in-Write-clause-stock
returns-in-Write-clause-stock g c =
    stock_by c.args.txn.ticket c.args.self.now.removing c.write.new.self.removing c.write.result c.write.ensures.removing

-- ---- the runs in memory

pub returns-in-Halted-clause-runs : goal.returns-in-Halted-clause-runs
returns-in-Halted-clause-runs g c = ap (λ (v : Version g.row.D-Held.Denot). v.active.lengths) c.forget.ensures.version

pub returns-in-Nothing-clause-runs : goal.returns-in-Nothing-clause-runs
returns-in-Nothing-clause-runs g c = ap (λ (v : Version g.row.D-Held.Denot). v.active.lengths) c.forget-in-Nothing.ensures.version

pub returns-in-Conflict-clause-runs : goal.returns-in-Conflict-clause-runs
returns-in-Conflict-clause-runs g c = ap (λ (v : Version g.row.D-Held.Denot). v.active.lengths) c.forget-in-Conflict.ensures.version

-- ---- what is forgotten

pub returns-in-Halted-clause-pruned : goal.returns-in-Halted-clause-pruned
returns-in-Halted-clause-pruned g c none = c.forget.ensures.pruned

pub returns-in-Nothing-clause-pruned : goal.returns-in-Nothing-clause-pruned
returns-in-Nothing-clause-pruned g c none = c.forget-in-Nothing.ensures.pruned

pub returns-in-Conflict-clause-pruned : goal.returns-in-Conflict-clause-pruned
returns-in-Conflict-clause-pruned g c none = c.forget-in-Conflict.ensures.pruned
