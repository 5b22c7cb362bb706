-- An install is answered as its ruling has it, and carried out so.
use Rattle.std.proofs.Common.{ap, sym, ◌∙◌, refl, subst}
use Rattle.std.specs.Prelude.{Err, Ok}
use Rattle.vl_space.specs.Collecting.{Collects}
use Rattle.vl_engine_model.specs.Store.Things.{Step}
use Rattle.vl_script_model.specs.declared.fails.Halt.TheVariants as why
use Rattle.vl_script.specs.declared.answer.Answer.TheVariants as answers
use Rattle.vl_replay.proofs.Merges.Installing.{back_so, handed_so, line_carries, line_leaves, line_makes, line_merges, line_named}
use Rattle.vl_replay.proofs.Merges.Installing.{answer_as, install_answer, line_sound, no_merge, unknown_carries}
use Rattle.vl_replay.proofs.Merges.Installing.{unknown_install, unknown_step, unplanned, was_planned}
use Rattle.vl_space.specs.Removing.{Removes}
use Rattle.vl_engine_model.specs.declared.layout.Layout.{Layout}
use Rattle.vl_steps.specs.laws.Steady.{same_steady}
use Rattle.vl_replay.proofs.replayer.merge.install.Goals as goal

-- ---- none waits under this name

pub returns-in_default-clause-makes : goal.returns-in_default-clause-makes
returns-in_default-clause-makes g c s stands =
    let bytes = g.D.Held.HeldFile.bytes in
    let (still, apart) = unplanned c.as_slice.result.now c.args.planned.now c.take_planned.new.planned c.in_default.ensures in
    unknown_install bytes (g.D.Watched.told c.args.served.now.engine.disk) c.args.served.now.engine.core c.args.served.now.opens.items
    s stands.serves c.args.name
    (unknown_step s c.args.name
    (no_merge s c.args.name g.D.Writer.Writer bytes c.args.planned.now stands.merges.waits
    (λ p there named. apart p there (named ∙ sym c.as_slice.ensures))))

pub returns-in_default-clause-carries : goal.returns-in_default-clause-carries
returns-in_default-clause-carries g c s stands =
    let bytes = g.D.Held.HeldFile.bytes in
    let (still, apart) = unplanned c.as_slice.result.now c.args.planned.now c.take_planned.new.planned c.in_default.ensures in
    unknown_carries g.D.Watched (record { only_now = g.met.D.Disk.only_now; counts_now = g.met.D.Disk.counts_now }) bytes
    c.args.served.now.engine.core
    c.args.served.now.opens.items c.args.served.now.engine.disk s stands.serves c.args.name
    (unknown_step s c.args.name
    (no_merge s c.args.name g.D.Writer.Writer bytes c.args.planned.now stands.merges.waits
    (λ p there named. apart p there (named ∙ sym c.as_slice.ensures))))

pub returns-in_default-clause-collects : goal.returns-in_default-clause-collects
returns-in_default-clause-collects g c s stands collected =
    let bytes = g.D.Held.HeldFile.bytes in
    let (still, apart) = unplanned c.as_slice.result.now c.args.planned.now c.take_planned.new.planned c.in_default.ensures in
    subst (λ (x : Step). Collects c.args.served.now.engine.core c.args.served.now.engine.collecting x.state.layout)
    (sym (unknown_step s c.args.name
    (no_merge s c.args.name g.D.Writer.Writer bytes c.args.planned.now stands.merges.waits
    (λ p there named. apart p there (named ∙ sym c.as_slice.ensures)))))
    collected

pub returns-in_default-clause-handed : goal.returns-in_default-clause-handed
returns-in_default-clause-handed g c p is =
    let (still, apart) = unplanned c.as_slice.result.now c.args.planned.now c.take_planned.new.planned c.in_default.ensures in
    c.requires p (sym still ∙ is)

-- ---- the one that waits has it

pub install-requires : goal.install-requires
install-requires g c =
    handed_so g.D.Watched g.D.Writer.Writer c.args.served.now.engine.disk c.args.served.now.engine.core.front.halted
    c.args.served.now.engine.merging c.as_slice.result.now c.args.planned.now c.take_planned.new.planned c.in-Some.job
    (was_planned c.as_slice.result.now c.args.planned.now c.take_planned.new.planned c.in-Some.job c.in-Some.ensures) c.requires

pub abandon-requires : goal.abandon-requires
abandon-requires g c =
    back_so g.D.Watched g.D.Writer.Writer c.args.served.now.engine.disk c.install.new.self.disk c.install.new.self.core.front.halted
    c.args.served.now.engine.merging c.install.new.self.merging c.as_slice.result.now c.args.planned.now c.take_planned.new.planned
    c.in-Some.job c.in-Err-NoMemory.job
    (was_planned c.as_slice.result.now c.args.planned.now c.take_planned.new.planned c.in-Some.job c.in-Some.ensures) c.requires
    (rw c.in-Err-NoMemory.field-0-is at c.in-Err-NoMemory.ensures.handed)
    ((rw c.in-Err-NoMemory.field-0-is at c.in-Err-NoMemory.ensures.untouched) tt).told

pub returns-in-Ok-clause-makes : goal.returns-in-Ok-clause-makes
returns-in-Ok-clause-makes g c s stands =
    line_makes g.D.Watched g.D.Writer.Writer g.D.Held.HeldFile.bytes c.args.served.now.engine.core c.install.new.self.core
    c.args.served.now.engine.disk c.install.new.self.disk c.args.served.now.engine.merging c.install.new.self.merging c.in-Some.job
    (record { only_now = g.met.D.Disk.only_now; counts_now = g.met.D.Disk.counts_now }) c.args.served.now.engine.lent
    c.args.served.now.opens.items s stands.serves c.as_slice.result.now c.args.name c.as_slice.ensures c.args.planned.now
    c.take_planned.new.planned stands.merges c.requires c.in-Some.ensures c.install.result
    (record {
      decides = c.install.ensures.stands;
      carries = c.install.ensures.carries;
      fits = c.install.ensures.fits;
      untouched = c.install.ensures.untouched;
      files = c.install.ensures.files;
      stopped = c.install.ensures.stopped;
      failed = c.install.ensures.failed;
      unraced = c.install.ensures.unraced;
      meanwhile = c.install.ensures.meanwhile;
      leaves = c.install.ensures.leaves;
      within = c.install.ensures.within;
    })
    (Ok answers.Done) (ap install_answer c.in-Ok.is)

pub returns-in-Ok-clause-merges : goal.returns-in-Ok-clause-merges
returns-in-Ok-clause-merges g c s stands =
    line_merges g.D.Watched g.D.Writer.Writer g.D.Held.HeldFile.bytes c.args.served.now.engine.core c.install.new.self.core
    c.args.served.now.engine.disk c.install.new.self.disk c.args.served.now.engine.merging c.install.new.self.merging c.in-Some.job
    (record { only_now = g.met.D.Disk.only_now; counts_now = g.met.D.Disk.counts_now }) c.args.served.now.engine.lent
    c.args.served.now.opens.items s stands.serves c.as_slice.result.now c.args.name c.as_slice.ensures c.args.planned.now
    c.take_planned.new.planned stands.merges c.requires c.in-Some.ensures c.install.result
    (record {
      decides = c.install.ensures.stands;
      carries = c.install.ensures.carries;
      fits = c.install.ensures.fits;
      untouched = c.install.ensures.untouched;
      files = c.install.ensures.files;
      stopped = c.install.ensures.stopped;
      failed = c.install.ensures.failed;
      unraced = c.install.ensures.unraced;
      meanwhile = c.install.ensures.meanwhile;
      leaves = c.install.ensures.leaves;
      within = c.install.ensures.within;
    })
    (Ok answers.Done) (ap install_answer c.in-Ok.is)

pub returns-in-Ok-clause-collects : goal.returns-in-Ok-clause-collects
returns-in-Ok-clause-collects g c s stands collected =
    line_leaves g.D.Watched g.D.Writer.Writer g.D.Held.HeldFile.bytes c.args.served.now.engine.core c.install.new.self.core
    c.args.served.now.engine.disk c.install.new.self.disk c.args.served.now.engine.merging c.install.new.self.merging c.in-Some.job
    (record { only_now = g.met.D.Disk.only_now; counts_now = g.met.D.Disk.counts_now }) c.args.served.now.engine.lent
    c.args.served.now.opens.items s stands.serves c.as_slice.result.now c.args.name c.as_slice.ensures c.args.planned.now
    c.take_planned.new.planned stands.merges c.requires c.in-Some.ensures c.install.result
    (record {
      decides = c.install.ensures.stands;
      carries = c.install.ensures.carries;
      fits = c.install.ensures.fits;
      untouched = c.install.ensures.untouched;
      files = c.install.ensures.files;
      stopped = c.install.ensures.stopped;
      failed = c.install.ensures.failed;
      unraced = c.install.ensures.unraced;
      meanwhile = c.install.ensures.meanwhile;
      leaves = c.install.ensures.leaves;
      within = c.install.ensures.within;
    })
    (Collects c.args.served.now.engine.core c.args.served.now.engine.collecting)
    (Collects c.install.new.self.core c.install.new.self.collecting) c.install.ensures.collects collected
    (Ok answers.Done) (ap install_answer c.in-Ok.is)

pub returns-in-Ok-clause-removes : goal.returns-in-Ok-clause-removes
returns-in-Ok-clause-removes g c s stands collected removes =
    line_leaves g.D.Watched g.D.Writer.Writer g.D.Held.HeldFile.bytes c.args.served.now.engine.core c.install.new.self.core
    c.args.served.now.engine.disk c.install.new.self.disk c.args.served.now.engine.merging c.install.new.self.merging c.in-Some.job
    (record { only_now = g.met.D.Disk.only_now; counts_now = g.met.D.Disk.counts_now }) c.args.served.now.engine.lent
    c.args.served.now.opens.items s stands.serves c.as_slice.result.now c.args.name c.as_slice.ensures c.args.planned.now
    c.take_planned.new.planned stands.merges c.requires c.in-Some.ensures c.install.result
    (record {
      decides = c.install.ensures.stands;
      carries = c.install.ensures.carries;
      fits = c.install.ensures.fits;
      untouched = c.install.ensures.untouched;
      files = c.install.ensures.files;
      stopped = c.install.ensures.stopped;
      failed = c.install.ensures.failed;
      unraced = c.install.ensures.unraced;
      meanwhile = c.install.ensures.meanwhile;
      leaves = c.install.ensures.leaves;
      within = c.install.ensures.within;
    })
    (λ (l : Layout). Collects c.args.served.now.engine.core c.args.served.now.engine.collecting l
    × Removes c.args.served.now.engine.core c.args.served.now.engine.removing l)
    (Removes c.install.new.self.core c.install.new.self.removing)
    (λ state h l o told stands is files has lent both. c.install.ensures.removes state h l o told stands is files has lent both.0 both.1)
    (collected, removes)
    (Ok answers.Done) (ap install_answer c.in-Ok.is)

pub returns-in-Ok-clause-carries : goal.returns-in-Ok-clause-carries
returns-in-Ok-clause-carries g c s stands =
    line_carries g.D.Watched g.D.Writer.Writer g.D.Held.HeldFile.bytes c.args.served.now.engine.core c.install.new.self.core
    c.args.served.now.engine.disk c.install.new.self.disk c.args.served.now.engine.merging c.install.new.self.merging c.in-Some.job
    (record { only_now = g.met.D.Disk.only_now; counts_now = g.met.D.Disk.counts_now }) c.args.served.now.engine.lent
    c.args.served.now.opens.items s stands.serves c.as_slice.result.now c.args.name c.as_slice.ensures c.args.planned.now
    c.take_planned.new.planned stands.merges c.requires c.in-Some.ensures c.install.result
    (record {
      decides = c.install.ensures.stands;
      carries = c.install.ensures.carries;
      fits = c.install.ensures.fits;
      untouched = c.install.ensures.untouched;
      files = c.install.ensures.files;
      stopped = c.install.ensures.stopped;
      failed = c.install.ensures.failed;
      unraced = c.install.ensures.unraced;
      meanwhile = c.install.ensures.meanwhile;
      leaves = c.install.ensures.leaves;
      within = c.install.ensures.within;
    })
    (Ok answers.Done) (ap install_answer c.in-Ok.is) c.install.new.self.disk refl

pub returns-in-Err-Raced-clause-makes : goal.returns-in-Err-Raced-clause-makes
returns-in-Err-Raced-clause-makes g c s stands =
    line_makes g.D.Watched g.D.Writer.Writer g.D.Held.HeldFile.bytes c.args.served.now.engine.core c.install.new.self.core
    c.args.served.now.engine.disk c.install.new.self.disk c.args.served.now.engine.merging c.install.new.self.merging c.in-Some.job
    (record { only_now = g.met.D.Disk.only_now; counts_now = g.met.D.Disk.counts_now }) c.args.served.now.engine.lent
    c.args.served.now.opens.items s stands.serves c.as_slice.result.now c.args.name c.as_slice.ensures c.args.planned.now
    c.take_planned.new.planned stands.merges c.requires c.in-Some.ensures c.install.result
    (record {
      decides = c.install.ensures.stands;
      carries = c.install.ensures.carries;
      fits = c.install.ensures.fits;
      untouched = c.install.ensures.untouched;
      files = c.install.ensures.files;
      stopped = c.install.ensures.stopped;
      failed = c.install.ensures.failed;
      unraced = c.install.ensures.unraced;
      meanwhile = c.install.ensures.meanwhile;
      leaves = c.install.ensures.leaves;
      within = c.install.ensures.within;
    })
    (Ok (answers.Raced c.in-Err-Raced.key)) (answer_as c.install.result c.in-Err-Raced.field-0 _ c.in-Err-Raced.is c.in-Err-Raced.field-0-is)

pub returns-in-Err-Raced-clause-merges : goal.returns-in-Err-Raced-clause-merges
returns-in-Err-Raced-clause-merges g c s stands =
    line_merges g.D.Watched g.D.Writer.Writer g.D.Held.HeldFile.bytes c.args.served.now.engine.core c.install.new.self.core
    c.args.served.now.engine.disk c.install.new.self.disk c.args.served.now.engine.merging c.install.new.self.merging c.in-Some.job
    (record { only_now = g.met.D.Disk.only_now; counts_now = g.met.D.Disk.counts_now }) c.args.served.now.engine.lent
    c.args.served.now.opens.items s stands.serves c.as_slice.result.now c.args.name c.as_slice.ensures c.args.planned.now
    c.take_planned.new.planned stands.merges c.requires c.in-Some.ensures c.install.result
    (record {
      decides = c.install.ensures.stands;
      carries = c.install.ensures.carries;
      fits = c.install.ensures.fits;
      untouched = c.install.ensures.untouched;
      files = c.install.ensures.files;
      stopped = c.install.ensures.stopped;
      failed = c.install.ensures.failed;
      unraced = c.install.ensures.unraced;
      meanwhile = c.install.ensures.meanwhile;
      leaves = c.install.ensures.leaves;
      within = c.install.ensures.within;
    })
    (Ok (answers.Raced c.in-Err-Raced.key)) (answer_as c.install.result c.in-Err-Raced.field-0 _ c.in-Err-Raced.is c.in-Err-Raced.field-0-is)

pub returns-in-Err-Raced-clause-collects : goal.returns-in-Err-Raced-clause-collects
returns-in-Err-Raced-clause-collects g c s stands collected =
    line_leaves g.D.Watched g.D.Writer.Writer g.D.Held.HeldFile.bytes c.args.served.now.engine.core c.install.new.self.core
    c.args.served.now.engine.disk c.install.new.self.disk c.args.served.now.engine.merging c.install.new.self.merging c.in-Some.job
    (record { only_now = g.met.D.Disk.only_now; counts_now = g.met.D.Disk.counts_now }) c.args.served.now.engine.lent
    c.args.served.now.opens.items s stands.serves c.as_slice.result.now c.args.name c.as_slice.ensures c.args.planned.now
    c.take_planned.new.planned stands.merges c.requires c.in-Some.ensures c.install.result
    (record {
      decides = c.install.ensures.stands;
      carries = c.install.ensures.carries;
      fits = c.install.ensures.fits;
      untouched = c.install.ensures.untouched;
      files = c.install.ensures.files;
      stopped = c.install.ensures.stopped;
      failed = c.install.ensures.failed;
      unraced = c.install.ensures.unraced;
      meanwhile = c.install.ensures.meanwhile;
      leaves = c.install.ensures.leaves;
      within = c.install.ensures.within;
    })
    (Collects c.args.served.now.engine.core c.args.served.now.engine.collecting)
    (Collects c.install.new.self.core c.install.new.self.collecting) c.install.ensures.collects collected
    (Ok (answers.Raced c.in-Err-Raced.key)) (answer_as c.install.result c.in-Err-Raced.field-0 _ c.in-Err-Raced.is c.in-Err-Raced.field-0-is)

pub returns-in-Err-Raced-clause-removes : goal.returns-in-Err-Raced-clause-removes
returns-in-Err-Raced-clause-removes g c s stands collected removes =
    line_leaves g.D.Watched g.D.Writer.Writer g.D.Held.HeldFile.bytes c.args.served.now.engine.core c.install.new.self.core
    c.args.served.now.engine.disk c.install.new.self.disk c.args.served.now.engine.merging c.install.new.self.merging c.in-Some.job
    (record { only_now = g.met.D.Disk.only_now; counts_now = g.met.D.Disk.counts_now }) c.args.served.now.engine.lent
    c.args.served.now.opens.items s stands.serves c.as_slice.result.now c.args.name c.as_slice.ensures c.args.planned.now
    c.take_planned.new.planned stands.merges c.requires c.in-Some.ensures c.install.result
    (record {
      decides = c.install.ensures.stands;
      carries = c.install.ensures.carries;
      fits = c.install.ensures.fits;
      untouched = c.install.ensures.untouched;
      files = c.install.ensures.files;
      stopped = c.install.ensures.stopped;
      failed = c.install.ensures.failed;
      unraced = c.install.ensures.unraced;
      meanwhile = c.install.ensures.meanwhile;
      leaves = c.install.ensures.leaves;
      within = c.install.ensures.within;
    })
    (λ (l : Layout). Collects c.args.served.now.engine.core c.args.served.now.engine.collecting l
    × Removes c.args.served.now.engine.core c.args.served.now.engine.removing l)
    (Removes c.install.new.self.core c.install.new.self.removing)
    (λ state h l o told stands is files has lent both. c.install.ensures.removes state h l o told stands is files has lent both.0 both.1)
    (collected, removes)
    (Ok (answers.Raced c.in-Err-Raced.key)) (answer_as c.install.result c.in-Err-Raced.field-0 _ c.in-Err-Raced.is c.in-Err-Raced.field-0-is)

pub returns-in-Err-Raced-clause-carries : goal.returns-in-Err-Raced-clause-carries
returns-in-Err-Raced-clause-carries g c s stands =
    line_carries g.D.Watched g.D.Writer.Writer g.D.Held.HeldFile.bytes c.args.served.now.engine.core c.install.new.self.core
    c.args.served.now.engine.disk c.install.new.self.disk c.args.served.now.engine.merging c.install.new.self.merging c.in-Some.job
    (record { only_now = g.met.D.Disk.only_now; counts_now = g.met.D.Disk.counts_now }) c.args.served.now.engine.lent
    c.args.served.now.opens.items s stands.serves c.as_slice.result.now c.args.name c.as_slice.ensures c.args.planned.now
    c.take_planned.new.planned stands.merges c.requires c.in-Some.ensures c.install.result
    (record {
      decides = c.install.ensures.stands;
      carries = c.install.ensures.carries;
      fits = c.install.ensures.fits;
      untouched = c.install.ensures.untouched;
      files = c.install.ensures.files;
      stopped = c.install.ensures.stopped;
      failed = c.install.ensures.failed;
      unraced = c.install.ensures.unraced;
      meanwhile = c.install.ensures.meanwhile;
      leaves = c.install.ensures.leaves;
      within = c.install.ensures.within;
    })
    (Ok (answers.Raced c.in-Err-Raced.key))
    (answer_as c.install.result c.in-Err-Raced.field-0 _ c.in-Err-Raced.is c.in-Err-Raced.field-0-is) c.install.new.self.disk refl

pub returns-in-Err-Exhausted-clause-makes : goal.returns-in-Err-Exhausted-clause-makes
returns-in-Err-Exhausted-clause-makes g c s stands =
    line_makes g.D.Watched g.D.Writer.Writer g.D.Held.HeldFile.bytes c.args.served.now.engine.core c.install.new.self.core
    c.args.served.now.engine.disk c.install.new.self.disk c.args.served.now.engine.merging c.install.new.self.merging c.in-Some.job
    (record { only_now = g.met.D.Disk.only_now; counts_now = g.met.D.Disk.counts_now }) c.args.served.now.engine.lent
    c.args.served.now.opens.items s stands.serves c.as_slice.result.now c.args.name c.as_slice.ensures c.args.planned.now
    c.take_planned.new.planned stands.merges c.requires c.in-Some.ensures c.install.result
    (record {
      decides = c.install.ensures.stands;
      carries = c.install.ensures.carries;
      fits = c.install.ensures.fits;
      untouched = c.install.ensures.untouched;
      files = c.install.ensures.files;
      stopped = c.install.ensures.stopped;
      failed = c.install.ensures.failed;
      unraced = c.install.ensures.unraced;
      meanwhile = c.install.ensures.meanwhile;
      leaves = c.install.ensures.leaves;
      within = c.install.ensures.within;
    })
    (Ok (answers.Exhausted c.in-Err-Exhausted.counter))
    (answer_as c.install.result c.in-Err-Exhausted.field-0 _ c.in-Err-Exhausted.is c.in-Err-Exhausted.field-0-is)

pub returns-in-Err-Exhausted-clause-merges : goal.returns-in-Err-Exhausted-clause-merges
returns-in-Err-Exhausted-clause-merges g c s stands =
    line_merges g.D.Watched g.D.Writer.Writer g.D.Held.HeldFile.bytes c.args.served.now.engine.core c.install.new.self.core
    c.args.served.now.engine.disk c.install.new.self.disk c.args.served.now.engine.merging c.install.new.self.merging c.in-Some.job
    (record { only_now = g.met.D.Disk.only_now; counts_now = g.met.D.Disk.counts_now }) c.args.served.now.engine.lent
    c.args.served.now.opens.items s stands.serves c.as_slice.result.now c.args.name c.as_slice.ensures c.args.planned.now
    c.take_planned.new.planned stands.merges c.requires c.in-Some.ensures c.install.result
    (record {
      decides = c.install.ensures.stands;
      carries = c.install.ensures.carries;
      fits = c.install.ensures.fits;
      untouched = c.install.ensures.untouched;
      files = c.install.ensures.files;
      stopped = c.install.ensures.stopped;
      failed = c.install.ensures.failed;
      unraced = c.install.ensures.unraced;
      meanwhile = c.install.ensures.meanwhile;
      leaves = c.install.ensures.leaves;
      within = c.install.ensures.within;
    })
    (Ok (answers.Exhausted c.in-Err-Exhausted.counter))
    (answer_as c.install.result c.in-Err-Exhausted.field-0 _ c.in-Err-Exhausted.is c.in-Err-Exhausted.field-0-is)

pub returns-in-Err-Exhausted-clause-collects : goal.returns-in-Err-Exhausted-clause-collects
returns-in-Err-Exhausted-clause-collects g c s stands collected =
    line_leaves g.D.Watched g.D.Writer.Writer g.D.Held.HeldFile.bytes c.args.served.now.engine.core c.install.new.self.core
    c.args.served.now.engine.disk c.install.new.self.disk c.args.served.now.engine.merging c.install.new.self.merging c.in-Some.job
    (record { only_now = g.met.D.Disk.only_now; counts_now = g.met.D.Disk.counts_now }) c.args.served.now.engine.lent
    c.args.served.now.opens.items s stands.serves c.as_slice.result.now c.args.name c.as_slice.ensures c.args.planned.now
    c.take_planned.new.planned stands.merges c.requires c.in-Some.ensures c.install.result
    (record {
      decides = c.install.ensures.stands;
      carries = c.install.ensures.carries;
      fits = c.install.ensures.fits;
      untouched = c.install.ensures.untouched;
      files = c.install.ensures.files;
      stopped = c.install.ensures.stopped;
      failed = c.install.ensures.failed;
      unraced = c.install.ensures.unraced;
      meanwhile = c.install.ensures.meanwhile;
      leaves = c.install.ensures.leaves;
      within = c.install.ensures.within;
    })
    (Collects c.args.served.now.engine.core c.args.served.now.engine.collecting)
    (Collects c.install.new.self.core c.install.new.self.collecting) c.install.ensures.collects collected
    (Ok (answers.Exhausted c.in-Err-Exhausted.counter))
    (answer_as c.install.result c.in-Err-Exhausted.field-0 _ c.in-Err-Exhausted.is c.in-Err-Exhausted.field-0-is)

pub returns-in-Err-Exhausted-clause-removes : goal.returns-in-Err-Exhausted-clause-removes
returns-in-Err-Exhausted-clause-removes g c s stands collected removes =
    line_leaves g.D.Watched g.D.Writer.Writer g.D.Held.HeldFile.bytes c.args.served.now.engine.core c.install.new.self.core
    c.args.served.now.engine.disk c.install.new.self.disk c.args.served.now.engine.merging c.install.new.self.merging c.in-Some.job
    (record { only_now = g.met.D.Disk.only_now; counts_now = g.met.D.Disk.counts_now }) c.args.served.now.engine.lent
    c.args.served.now.opens.items s stands.serves c.as_slice.result.now c.args.name c.as_slice.ensures c.args.planned.now
    c.take_planned.new.planned stands.merges c.requires c.in-Some.ensures c.install.result
    (record {
      decides = c.install.ensures.stands;
      carries = c.install.ensures.carries;
      fits = c.install.ensures.fits;
      untouched = c.install.ensures.untouched;
      files = c.install.ensures.files;
      stopped = c.install.ensures.stopped;
      failed = c.install.ensures.failed;
      unraced = c.install.ensures.unraced;
      meanwhile = c.install.ensures.meanwhile;
      leaves = c.install.ensures.leaves;
      within = c.install.ensures.within;
    })
    (λ (l : Layout). Collects c.args.served.now.engine.core c.args.served.now.engine.collecting l
    × Removes c.args.served.now.engine.core c.args.served.now.engine.removing l)
    (Removes c.install.new.self.core c.install.new.self.removing)
    (λ state h l o told stands is files has lent both. c.install.ensures.removes state h l o told stands is files has lent both.0 both.1)
    (collected, removes)
    (Ok (answers.Exhausted c.in-Err-Exhausted.counter))
    (answer_as c.install.result c.in-Err-Exhausted.field-0 _ c.in-Err-Exhausted.is c.in-Err-Exhausted.field-0-is)

pub returns-in-Err-Exhausted-clause-carries : goal.returns-in-Err-Exhausted-clause-carries
returns-in-Err-Exhausted-clause-carries g c s stands =
    line_carries g.D.Watched g.D.Writer.Writer g.D.Held.HeldFile.bytes c.args.served.now.engine.core c.install.new.self.core
    c.args.served.now.engine.disk c.install.new.self.disk c.args.served.now.engine.merging c.install.new.self.merging c.in-Some.job
    (record { only_now = g.met.D.Disk.only_now; counts_now = g.met.D.Disk.counts_now }) c.args.served.now.engine.lent
    c.args.served.now.opens.items s stands.serves c.as_slice.result.now c.args.name c.as_slice.ensures c.args.planned.now
    c.take_planned.new.planned stands.merges c.requires c.in-Some.ensures c.install.result
    (record {
      decides = c.install.ensures.stands;
      carries = c.install.ensures.carries;
      fits = c.install.ensures.fits;
      untouched = c.install.ensures.untouched;
      files = c.install.ensures.files;
      stopped = c.install.ensures.stopped;
      failed = c.install.ensures.failed;
      unraced = c.install.ensures.unraced;
      meanwhile = c.install.ensures.meanwhile;
      leaves = c.install.ensures.leaves;
      within = c.install.ensures.within;
    })
    (Ok (answers.Exhausted c.in-Err-Exhausted.counter))
    (answer_as c.install.result c.in-Err-Exhausted.field-0 _ c.in-Err-Exhausted.is c.in-Err-Exhausted.field-0-is)
    c.install.new.self.disk refl

pub returns-in-Err-NoMemory-clause-carries : goal.returns-in-Err-NoMemory-clause-carries
returns-in-Err-NoMemory-clause-carries g c s stands =
    line_carries g.D.Watched g.D.Writer.Writer g.D.Held.HeldFile.bytes c.args.served.now.engine.core c.install.new.self.core
    c.args.served.now.engine.disk c.install.new.self.disk c.args.served.now.engine.merging c.install.new.self.merging c.in-Some.job
    (record { only_now = g.met.D.Disk.only_now; counts_now = g.met.D.Disk.counts_now }) c.args.served.now.engine.lent
    c.args.served.now.opens.items s stands.serves c.as_slice.result.now c.args.name c.as_slice.ensures c.args.planned.now
    c.take_planned.new.planned stands.merges c.requires c.in-Some.ensures c.install.result
    (record {
      decides = c.install.ensures.stands;
      carries = c.install.ensures.carries;
      fits = c.install.ensures.fits;
      untouched = c.install.ensures.untouched;
      files = c.install.ensures.files;
      stopped = c.install.ensures.stopped;
      failed = c.install.ensures.failed;
      unraced = c.install.ensures.unraced;
      meanwhile = c.install.ensures.meanwhile;
      leaves = c.install.ensures.leaves;
      within = c.install.ensures.within;
    })
    (Err why.NoMemory) (answer_as c.install.result c.in-Err-NoMemory.field-0 _ c.in-Err-NoMemory.is c.in-Err-NoMemory.field-0-is)
    c.abandon.new.self.disk c.abandon.ensures.disk

pub returns-in-Err-NoMemory-clause-steady : goal.returns-in-Err-NoMemory-clause-steady
returns-in-Err-NoMemory-clause-steady g c gives =
    same_steady g.D.Watched _ _ c.abandon.ensures.disk (c.install.ensures.steady gives)

pub returns-in-Err-Disk-clause-carries : goal.returns-in-Err-Disk-clause-carries
returns-in-Err-Disk-clause-carries g c s stands =
    line_carries g.D.Watched g.D.Writer.Writer g.D.Held.HeldFile.bytes c.args.served.now.engine.core c.install.new.self.core
    c.args.served.now.engine.disk c.install.new.self.disk c.args.served.now.engine.merging c.install.new.self.merging c.in-Some.job
    (record { only_now = g.met.D.Disk.only_now; counts_now = g.met.D.Disk.counts_now }) c.args.served.now.engine.lent
    c.args.served.now.opens.items s stands.serves c.as_slice.result.now c.args.name c.as_slice.ensures c.args.planned.now
    c.take_planned.new.planned stands.merges c.requires c.in-Some.ensures c.install.result
    (record {
      decides = c.install.ensures.stands;
      carries = c.install.ensures.carries;
      fits = c.install.ensures.fits;
      untouched = c.install.ensures.untouched;
      files = c.install.ensures.files;
      stopped = c.install.ensures.stopped;
      failed = c.install.ensures.failed;
      unraced = c.install.ensures.unraced;
      meanwhile = c.install.ensures.meanwhile;
      leaves = c.install.ensures.leaves;
      within = c.install.ensures.within;
    })
    (Err (why.Disk c.in-Err-Disk.file)) (answer_as c.install.result c.in-Err-Disk.field-0 _ c.in-Err-Disk.is c.in-Err-Disk.field-0-is)
    c.install.new.self.disk refl

pub returns-in-Err-Disk-clause-named : goal.returns-in-Err-Disk-clause-named
returns-in-Err-Disk-clause-named g c s file stands is =
    line_named g.D.Watched g.D.Writer.Writer g.D.Held.HeldFile.bytes c.args.served.now.engine.core c.install.new.self.core
    c.args.served.now.engine.disk c.install.new.self.disk c.args.served.now.engine.merging c.install.new.self.merging c.in-Some.job
    (record { only_now = g.met.D.Disk.only_now; counts_now = g.met.D.Disk.counts_now }) c.args.served.now.engine.lent
    c.args.served.now.opens.items s stands.serves c.as_slice.result.now c.args.name c.as_slice.ensures c.args.planned.now
    c.take_planned.new.planned stands.merges c.requires c.in-Some.ensures c.install.result
    (record {
      decides = c.install.ensures.stands;
      carries = c.install.ensures.carries;
      fits = c.install.ensures.fits;
      untouched = c.install.ensures.untouched;
      files = c.install.ensures.files;
      stopped = c.install.ensures.stopped;
      failed = c.install.ensures.failed;
      unraced = c.install.ensures.unraced;
      meanwhile = c.install.ensures.meanwhile;
      leaves = c.install.ensures.leaves;
      within = c.install.ensures.within;
    })
    file ((answer_as c.install.result c.in-Err-Disk.field-0 _ c.in-Err-Disk.is c.in-Err-Disk.field-0-is) ∙ is)

pub returns-clause-carries : goal.returns-clause-carries
returns-clause-carries g c s stands =
    line_carries g.D.Watched g.D.Writer.Writer g.D.Held.HeldFile.bytes c.args.served.now.engine.core c.install.new.self.core
    c.args.served.now.engine.disk c.install.new.self.disk c.args.served.now.engine.merging c.install.new.self.merging c.in-Some.job
    (record { only_now = g.met.D.Disk.only_now; counts_now = g.met.D.Disk.counts_now }) c.args.served.now.engine.lent
    c.args.served.now.opens.items s stands.serves c.as_slice.result.now c.args.name c.as_slice.ensures c.args.planned.now
    c.take_planned.new.planned stands.merges c.requires c.in-Some.ensures c.install.result
    (record {
      decides = c.install.ensures.stands;
      carries = c.install.ensures.carries;
      fits = c.install.ensures.fits;
      untouched = c.install.ensures.untouched;
      files = c.install.ensures.files;
      stopped = c.install.ensures.stopped;
      failed = c.install.ensures.failed;
      unraced = c.install.ensures.unraced;
      meanwhile = c.install.ensures.meanwhile;
      leaves = c.install.ensures.leaves;
      within = c.install.ensures.within;
    })
    (Err (why.Halted c.in-Err-Halted.file))
    (answer_as c.install.result c.in-Err-Halted.field-0 _ c.in-Err-Halted.is c.in-Err-Halted.field-0-is) c.install.new.self.disk refl

pub returns-clause-sound : goal.returns-clause-sound
returns-clause-sound g c s stands =
    line_sound g.D.Watched g.D.Writer.Writer g.D.Held.HeldFile.bytes c.args.served.now.engine.core c.install.new.self.core
    c.args.served.now.engine.disk c.install.new.self.disk c.args.served.now.engine.merging c.install.new.self.merging c.in-Some.job
    (record { only_now = g.met.D.Disk.only_now; counts_now = g.met.D.Disk.counts_now }) c.args.served.now.engine.lent
    c.args.served.now.opens.items s stands.serves c.as_slice.result.now c.args.name c.as_slice.ensures c.args.planned.now
    c.take_planned.new.planned stands.merges c.requires c.in-Some.ensures c.install.result
    (record {
      decides = c.install.ensures.stands;
      carries = c.install.ensures.carries;
      fits = c.install.ensures.fits;
      untouched = c.install.ensures.untouched;
      files = c.install.ensures.files;
      stopped = c.install.ensures.stopped;
      failed = c.install.ensures.failed;
      unraced = c.install.ensures.unraced;
      meanwhile = c.install.ensures.meanwhile;
      leaves = c.install.ensures.leaves;
      within = c.install.ensures.within;
    })
    (Err (why.Halted c.in-Err-Halted.file)) (answer_as c.install.result c.in-Err-Halted.field-0 _ c.in-Err-Halted.is c.in-Err-Halted.field-0-is)
