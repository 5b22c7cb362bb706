-- Each line's call makes the line's step.
use Rattle.std.proofs.Common.{◌≡◌, ap, false, refl, sym, subst, true}
use Rattle.std.specs.Prelude.{Option, None, Some, Result, Ok, Err, OnOk, Vec, is_ok}
use Rattle.vl_script_model.specs.laws.Texts.{ok_not_err}
use Rattle.vl_engine_laws.specs.Shown.{Shown}
use Rattle.vl_engine_model.specs.Store.Reading.{a_transaction, a_view, answer_of, answer_with_tag}
use Rattle.vl_engine_model.specs.Store.Things.{Step, thing_of}
use Rattle.vl_model.specs.Keys.{tagged, untagged}
use Rattle.vl_model.specs.declared.change.Change.TheVariants as changes
use Rattle.vl_script_model.specs.Durable.{CarriesOut}
use Rattle.vl_script_model.specs.Failing.{FailsAt, ReadsTables}
use Rattle.vl_replay_laws.specs.Replaying.{MakesStep, MergesIn}
use Rattle.vl_replay.specs.Served.{IsUnfailing, RemovesIn}
use Rattle.vl_script_model.specs.Sequential.{answer_to, history_of, state_after, step_to}
use Rattle.vl_script_model.specs.Stored.{IsStopped, IsStored}
use Rattle.vl_script_model.specs.laws.Growing.{batch_keeps, begin_keeps, get_at_keeps, get_keeps, scan_keeps, stats_keeps, write_keeps}
use Rattle.vl_script.specs.declared.answer.Answer.TheVariants as answers
use Rattle.vl_script.specs.declared.line.Line.{Line}
use Rattle.vl_script.specs.declared.line.Line.TheVariants as lines
use Rattle.vl_replay_laws.specs.laws.Disk.Carried.{quiet_carries}
use Rattle.vl_replay_laws.specs.laws.Merges.Keeping.{commit_keeps_work, flush_keeps_merges, flush_keeps_passes, get_at_keeps_work}
use Rattle.vl_replay_laws.specs.laws.Merges.Keeping.{get_keeps_work, keep_keeps_work, merges_kept, rotate_keeps_merges, rotate_keeps_passes}
use Rattle.vl_replay_laws.specs.laws.Merges.Keeping.{scan_keeps_work, transaction_keeps_work, view_keeps_work, write_keeps_work}
use Rattle.vl_replay.proofs.AsCalled.Lines.{named_answers}
use Rattle.vl_replay.proofs.AsCalled.Looking.{asks_back, asks_key, asks_rows}
use Rattle.vl_replay_laws.specs.Standing.{open_in}
use Rattle.vl_replay.specs.AsCalled.{AnswersLine}
use Rattle.vl_replay.proofs.Lines.Moves.{can_moved, merges_answered, move_tells}
use Rattle.vl_replay.proofs.Lines.Parts.{merging_of, passing_of, removing_of}
use Rattle.vl_replay_laws.specs.laws.Lines.Passed.{bare_no_pass, batch_keeps_merges, install_passes, plan_passes}
use Rattle.vl_replay_laws.specs.laws.Lines.Unmoved.{free_name, leaves_carries, taken_leaves, taken_makes, taken_step}
use Rattle.vl_replay_laws.specs.laws.Lines.Unmoved.{unanswered_carries, used_line}
use Rattle.vl_replay.proofs.Merges.Handing.{can_answered, can_same}
use Rattle.vl_replay_laws.specs.laws.Merges.Waiting.{merges_behind, on_ok_of}
use Rattle.vl_script_model.specs.laws.Halting.{err_reads_well, not_by_disk, out_not_by_disk, out_reads_well}
use Rattle.vl_replay_laws.specs.laws.Names.Halts.{by_the_reader, damage_is_read, no_cause, not_at, not_by_damage, not_by_read}
use Rattle.vl_replay_laws.specs.laws.Names.Halts.{less_sure, not_by_reader, reader_is_read}
use Rattle.vl_replay_laws.specs.laws.Passes.Picking.{pick_keeps_merges}
use Rattle.vl_replay_laws.specs.laws.Passes.Standing.{passes_behind}
use Rattle.vl_replay_laws.specs.laws.Passes.Stepping.{passes_stepped}
use Rattle.vl_engine_laws.specs.laws.Lasting.{flush_lasts, rotate_lasts}
use Rattle.vl_replay_laws.specs.declared.choice.Choice.TheVariants.{Due, LeadsInto}
use Rattle.vl_replay_laws.specs.Passing.{PassesIn, name_made}
use Rattle.vl_space.specs.Removing.{Removes}
use Rattle.vl_replay_laws.specs.laws.Lines.Sweeps.{batch_layout, sweep_keeps_merges, sweep_keeps_passes, sweep_lasts}
use Rattle.vl_replay_laws.specs.laws.Names.Quiet.{get_at_quiet, get_quiet, scan_quiet, write_quiet}
use Rattle.vl_replay_laws.specs.laws.Names.Unfailing.{same_reads}
use Rattle.vl_steps.specs.laws.Steady.{same_steady}
use Rattle.vl_replay.proofs.replayer.lines.carry_out.Goals as goal

-- ---- a name in use

pub returns-in_err-name-clause-carries : goal.returns-in_err-name-clause-carries
returns-in_err-name-clause-carries g c s stands =
    unanswered_carries g.D.Watched (record { only_now = g.met.D.Disk.only_now; counts_now = g.met.D.Disk.counts_now }) s
    c.args.served.now.engine.disk c.args.line c.from_residual.result c.from_residual.ensures.0
    (out_not_by_disk c.from_residual.result c.from_residual.ensures.1)

pub returns-in-Some-clause-makes : goal.returns-in-Some-clause-makes
returns-in-Some-clause-makes g c s stands =
    taken_makes s c.args.line c.in-Some.name (used_line s c.args.line c.in-Some.is (c.in_ok-name.ensures.used s stands))
    g.D.Held.HeldFile.bytes (g.D.Watched.told c.args.served.now.engine.disk) c.args.served.now.engine.core c.args.served.now.opens.items
    stands.serves

pub returns-in-Some-clause-merges : goal.returns-in-Some-clause-merges
returns-in-Some-clause-merges g c s stands =
    subst (λ (x : Step). MergesIn g.D.Writer.Writer g.D.Held.HeldFile.bytes c.args.served.now.engine.merging c.args.planned.now x.state)
    (sym (taken_step s c.args.line c.in-Some.name (used_line s c.args.line c.in-Some.is (c.in_ok-name.ensures.used s stands))))
    stands.merges

pub returns-in-Some-clause-passes : goal.returns-in-Some-clause-passes
returns-in-Some-clause-passes g c s stands =
    subst (λ (x : Step). PassesIn g.D.Held.HeldFile.bytes c.args.served.now.engine.core c.args.served.now.engine.collecting
    c.args.passing.now x.state)
    (sym (taken_step s c.args.line c.in-Some.name (used_line s c.args.line c.in-Some.is (c.in_ok-name.ensures.used s stands))))
    stands.passes

pub returns-in-Some-clause-carries : goal.returns-in-Some-clause-carries
returns-in-Some-clause-carries g c s stands =
    leaves_carries g.D.Watched (record { only_now = g.met.D.Disk.only_now; counts_now = g.met.D.Disk.counts_now }) s
    c.args.served.now.engine.disk
    (state_after s c.args.line) _ (taken_leaves s c.args.line c.in-Some.name
    (used_line s c.args.line c.in-Some.is (c.in_ok-name.ensures.used s stands)))

-- ---- each line

pub returns-in-Begin-clause-makes : goal.returns-in-Begin-clause-makes
returns-in-Begin-clause-makes g c s stands =
    subst (λ (line : Line). MakesStep g.D.Held.HeldFile.bytes (g.D.Watched.told c.begin.new.self.engine.disk)
    c.begin.new.self.engine.core
    c.begin.new.self.opens.items s (step_to s line) c.begin.result)
    (sym c.in-Begin.is) (c.begin.ensures.makes s stands.serves
    (free_name s c.args.line c.in_default.is (c.in_ok-name.ensures.used s stands) (ap name_made c.in-Begin.is)))

pub returns-in-Begin-clause-sound : goal.returns-in-Begin-clause-sound
returns-in-Begin-clause-sound g c s stands halts = absurd (not_by_read c.begin.result c.begin.ensures.fails halts)

pub returns-in-Begin-clause-undamaged : goal.returns-in-Begin-clause-undamaged
returns-in-Begin-clause-undamaged g c s stands halts = not_by_damage c.begin.result c.begin.ensures.fails halts

pub returns-in-Begin-clause-fault : goal.returns-in-Begin-clause-fault
returns-in-Begin-clause-fault g c s stands halts = absurd (not_by_reader c.begin.result c.begin.ensures.fails halts)

pub returns-in-Begin-clause-cause : goal.returns-in-Begin-clause-cause
returns-in-Begin-clause-cause g c = no_cause _ _ _ (ap (λ disk. g.D.Watched.faults disk) c.begin.ensures.disk)
    (not_by_disk c.begin.result c.begin.ensures.fails)

pub returns-in-Begin-clause-carries : goal.returns-in-Begin-clause-carries
returns-in-Begin-clause-carries g c s stands =
    subst (λ (line : Line). CarriesOut g.D.Watched IsStored Shown IsStopped c.args.served.now.engine.disk
    c.begin.new.self.engine.disk s (state_after s line) c.begin.result) (sym c.in-Begin.is)
    (quiet_carries g.D.Watched (record { only_now = g.met.D.Disk.only_now; counts_now = g.met.D.Disk.counts_now })
    g.D.Held.HeldFile.bytes
    (g.D.Watched.told c.begin.new.self.engine.disk) c.begin.new.self.engine.core c.begin.new.self.opens.items s
    (step_to s (lines.Begin c.in-Begin.name))
    (begin_keeps s.store c.in-Begin.name a_transaction (thing_of s.store c.in-Begin.name)) c.begin.result
    (c.begin.ensures.makes s stands.serves (free_name s c.args.line c.in_default.is (c.in_ok-name.ensures.used s stands)
    (ap name_made c.in-Begin.is))) (not_by_disk c.begin.result c.begin.ensures.fails) c.args.served.now.engine.disk
    c.begin.new.self.engine.disk
    c.begin.ensures.disk)

pub returns-in-View-clause-makes : goal.returns-in-View-clause-makes
returns-in-View-clause-makes g c s stands =
    subst (λ (line : Line). MakesStep g.D.Held.HeldFile.bytes (g.D.Watched.told c.view.new.self.engine.disk)
    c.view.new.self.engine.core c.view.new.self.opens.items
    s (step_to s line) c.view.result)
    (sym c.in-View.is) (c.view.ensures.makes s stands.serves
    (free_name s c.args.line c.in_default.is (c.in_ok-name.ensures.used s stands) (ap name_made c.in-View.is)))

pub returns-in-View-clause-sound : goal.returns-in-View-clause-sound
returns-in-View-clause-sound g c s stands halts = absurd (not_by_read c.view.result c.view.ensures.fails halts)

pub returns-in-View-clause-undamaged : goal.returns-in-View-clause-undamaged
returns-in-View-clause-undamaged g c s stands halts = not_by_damage c.view.result c.view.ensures.fails halts

pub returns-in-View-clause-fault : goal.returns-in-View-clause-fault
returns-in-View-clause-fault g c s stands halts = absurd (not_by_reader c.view.result c.view.ensures.fails halts)

pub returns-in-View-clause-cause : goal.returns-in-View-clause-cause
returns-in-View-clause-cause g c = no_cause _ _ _ (ap (λ disk. g.D.Watched.faults disk) c.view.ensures.disk)
    (not_by_disk c.view.result c.view.ensures.fails)

pub returns-in-View-clause-carries : goal.returns-in-View-clause-carries
returns-in-View-clause-carries g c s stands =
    subst (λ (line : Line). CarriesOut g.D.Watched IsStored Shown IsStopped c.args.served.now.engine.disk
    c.view.new.self.engine.disk s (state_after s line) c.view.result) (sym c.in-View.is)
    (quiet_carries g.D.Watched (record { only_now = g.met.D.Disk.only_now; counts_now = g.met.D.Disk.counts_now })
    g.D.Held.HeldFile.bytes
    (g.D.Watched.told c.view.new.self.engine.disk) c.view.new.self.engine.core c.view.new.self.opens.items s
    (step_to s (lines.View c.in-View.name)) (begin_keeps
    s.store c.in-View.name a_view (thing_of s.store c.in-View.name)) c.view.result
    (c.view.ensures.makes s stands.serves (free_name s c.args.line c.in_default.is (c.in_ok-name.ensures.used s stands)
    (ap name_made c.in-View.is))) (not_by_disk c.view.result c.view.ensures.fails) c.args.served.now.engine.disk
    c.view.new.self.engine.disk c.view.ensures.disk)

pub returns-in-Get-clause-makes : goal.returns-in-Get-clause-makes
returns-in-Get-clause-makes g c s stands =
    subst (λ (line : Line). MakesStep g.D.Held.HeldFile.bytes (g.D.Watched.told c.read.new.self.engine.disk)
    c.read.new.self.engine.core c.read.new.self.opens.items
    s (step_to s line) c.read.result)
    (sym c.in-Get.is) (c.read.ensures.makes s stands.serves)

pub returns-in-Get-clause-sound : goal.returns-in-Get-clause-sound
returns-in-Get-clause-sound g c s stands halts =
    subst (λ (line : Line). ReadsTables line s) (sym c.in-Get.is) (
      λ untabled. not_by_read c.read.result (c.read.ensures.near s stands.serves untabled) halts,
      asks_key g.D.Held.HeldFile.bytes _ (history_of s) s.store.layout (thing_of s.store c.in-Get.name) _ c.in-Get.name c.read.result halts
          (open_in c.args.served.now.opens.items c.in-Get.name) false c.in-Get.key (stands.serves.names.each c.in-Get.name) c.read.ensures.as_called,
    )

pub returns-in-Get-clause-undamaged : goal.returns-in-Get-clause-undamaged
returns-in-Get-clause-undamaged g c s stands = c.read.ensures.undamaged s stands.serves

pub returns-in-Get-clause-fault : goal.returns-in-Get-clause-fault
returns-in-Get-clause-fault g c s stands halts = by_the_reader g.D.Reader.Reader.faults g.D.Writer.Writer.faults
    (λ (u : IsUnfailing g.D.Watched g.D.Reader.Reader.faults c.args.served.now). u.reads)
    (c.read.ensures.fault halts)

pub returns-in-Get-clause-cause : goal.returns-in-Get-clause-cause
returns-in-Get-clause-cause g c = no_cause _ _ _ (ap (λ disk. g.D.Watched.faults disk) (ap (λ e. e.disk)
    c.read.ensures.engine)) c.read.ensures.not_the_disk

pub returns-in-Get-clause-carries : goal.returns-in-Get-clause-carries
returns-in-Get-clause-carries g c s stands =
    subst (λ (line : Line). CarriesOut g.D.Watched IsStored Shown IsStopped c.args.served.now.engine.disk
    c.read.new.self.engine.disk s (state_after s line) c.read.result) (sym c.in-Get.is)
    (quiet_carries g.D.Watched (record { only_now = g.met.D.Disk.only_now; counts_now = g.met.D.Disk.counts_now })
    g.D.Held.HeldFile.bytes
    (g.D.Watched.told c.read.new.self.engine.disk) c.read.new.self.engine.core c.read.new.self.opens.items s
    (step_to s (lines.Get c.in-Get.name c.in-Get.key))
    (get_keeps s.store c.in-Get.name answer_of c.in-Get.key (thing_of s.store c.in-Get.name)) c.read.result
    (c.read.ensures.makes s stands.serves) c.read.ensures.not_the_disk c.args.served.now.engine.disk
    c.read.new.self.engine.disk (ap (λ e. e.disk) c.read.ensures.engine))

pub returns-in-GetTagged-clause-makes : goal.returns-in-GetTagged-clause-makes
returns-in-GetTagged-clause-makes g c s stands =
    subst (λ (line : Line). MakesStep g.D.Held.HeldFile.bytes
    (g.D.Watched.told c.read-in-GetTagged.new.self.engine.disk) c.read-in-GetTagged.new.self.engine.core
    c.read-in-GetTagged.new.self.opens.items s (step_to s line) c.read-in-GetTagged.result)
    (sym c.in-GetTagged.is) (c.read-in-GetTagged.ensures.makes s stands.serves)

pub returns-in-GetTagged-clause-sound : goal.returns-in-GetTagged-clause-sound
returns-in-GetTagged-clause-sound g c s stands halts =
    subst (λ (line : Line). ReadsTables line s) (sym c.in-GetTagged.is) (
      λ untabled. not_by_read c.read-in-GetTagged.result (c.read-in-GetTagged.ensures.near s stands.serves untabled) halts,
      asks_key g.D.Held.HeldFile.bytes _ (history_of s) s.store.layout (thing_of s.store c.in-GetTagged.name) _ c.in-GetTagged.name c.read-in-GetTagged.result halts
          (open_in c.args.served.now.opens.items c.in-GetTagged.name) true c.in-GetTagged.key (stands.serves.names.each c.in-GetTagged.name) c.read-in-GetTagged.ensures.as_called,
    )

pub returns-in-GetTagged-clause-undamaged : goal.returns-in-GetTagged-clause-undamaged
returns-in-GetTagged-clause-undamaged g c s stands = c.read-in-GetTagged.ensures.undamaged s stands.serves

pub returns-in-GetTagged-clause-fault : goal.returns-in-GetTagged-clause-fault
returns-in-GetTagged-clause-fault g c s stands halts = by_the_reader g.D.Reader.Reader.faults g.D.Writer.Writer.faults
    (λ (u : IsUnfailing g.D.Watched g.D.Reader.Reader.faults c.args.served.now). u.reads)
    (c.read-in-GetTagged.ensures.fault halts)

pub returns-in-GetTagged-clause-cause : goal.returns-in-GetTagged-clause-cause
returns-in-GetTagged-clause-cause g c = no_cause _ _ _ (ap (λ disk. g.D.Watched.faults disk) (ap (λ e. e.disk)
    c.read-in-GetTagged.ensures.engine)) c.read-in-GetTagged.ensures.not_the_disk

pub returns-in-GetTagged-clause-carries : goal.returns-in-GetTagged-clause-carries
returns-in-GetTagged-clause-carries g c s stands =
    subst (λ (line : Line). CarriesOut g.D.Watched IsStored Shown IsStopped c.args.served.now.engine.disk
    c.read-in-GetTagged.new.self.engine.disk s (state_after s line) c.read-in-GetTagged.result) (sym c.in-GetTagged.is)
    (quiet_carries g.D.Watched (record { only_now = g.met.D.Disk.only_now; counts_now = g.met.D.Disk.counts_now })
    g.D.Held.HeldFile.bytes
    (g.D.Watched.told c.read-in-GetTagged.new.self.engine.disk) c.read-in-GetTagged.new.self.engine.core
    c.read-in-GetTagged.new.self.opens.items s (step_to s (lines.GetTagged
    c.in-GetTagged.name c.in-GetTagged.key)) (get_keeps s.store c.in-GetTagged.name answer_with_tag
    c.in-GetTagged.key (thing_of s.store c.in-GetTagged.name)) c.read-in-GetTagged.result
    (c.read-in-GetTagged.ensures.makes s stands.serves) c.read-in-GetTagged.ensures.not_the_disk
    c.args.served.now.engine.disk c.read-in-GetTagged.new.self.engine.disk (ap (λ e. e.disk) c.read-in-GetTagged.ensures.engine))

pub returns-in-GetAt-clause-makes : goal.returns-in-GetAt-clause-makes
returns-in-GetAt-clause-makes g c s stands =
    subst (λ (line : Line). MakesStep g.D.Held.HeldFile.bytes (g.D.Watched.told c.get_at.new.self.engine.disk) c.get_at.new.self.engine.core
    c.get_at.new.self.opens.items s (step_to s line) c.get_at.result)
    (sym c.in-GetAt.is) (c.get_at.ensures.makes s stands.serves)

pub returns-in-GetAt-clause-sound : goal.returns-in-GetAt-clause-sound
returns-in-GetAt-clause-sound g c s stands halts =
    let asks = asks_back g.D.Held.HeldFile.bytes _ (history_of s) s.store.layout (thing_of s.store c.in-GetAt.name) _ c.in-GetAt.name
    c.get_at.result halts (open_in c.args.served.now.opens.items c.in-GetAt.name) c.in-GetAt.key c.in-GetAt.number
    (stands.serves.names.each c.in-GetAt.name) c.get_at.ensures.as_called in
    subst (λ (line : Line). ReadsTables line s) (sym c.in-GetAt.is) (
      λ untabled. not_by_read c.get_at.result (c.get_at.ensures.near s stands.serves untabled) halts,
      asks.0,
      asks.1,
    )

pub returns-in-GetAt-clause-undamaged : goal.returns-in-GetAt-clause-undamaged
returns-in-GetAt-clause-undamaged g c s stands = c.get_at.ensures.undamaged s stands.serves

pub returns-in-GetAt-clause-fault : goal.returns-in-GetAt-clause-fault
returns-in-GetAt-clause-fault g c s stands halts = by_the_reader g.D.Reader.Reader.faults g.D.Writer.Writer.faults
    (λ (u : IsUnfailing g.D.Watched g.D.Reader.Reader.faults c.args.served.now). u.reads)
    (c.get_at.ensures.fault halts)

pub returns-in-GetAt-clause-cause : goal.returns-in-GetAt-clause-cause
returns-in-GetAt-clause-cause g c = no_cause _ _ _ (ap (λ disk. g.D.Watched.faults disk) (ap (λ e. e.disk)
    c.get_at.ensures.engine)) c.get_at.ensures.not_the_disk

pub returns-in-GetAt-clause-carries : goal.returns-in-GetAt-clause-carries
returns-in-GetAt-clause-carries g c s stands =
    subst (λ (line : Line). CarriesOut g.D.Watched IsStored Shown IsStopped c.args.served.now.engine.disk
    c.get_at.new.self.engine.disk s (state_after s line) c.get_at.result) (sym c.in-GetAt.is)
    (quiet_carries g.D.Watched (record { only_now = g.met.D.Disk.only_now; counts_now = g.met.D.Disk.counts_now })
    g.D.Held.HeldFile.bytes
    (g.D.Watched.told c.get_at.new.self.engine.disk) c.get_at.new.self.engine.core c.get_at.new.self.opens.items s (step_to s (lines.GetAt
    c.in-GetAt.name c.in-GetAt.key c.in-GetAt.number)) (get_at_keeps s.store c.in-GetAt.name c.in-GetAt.key
    c.in-GetAt.number (thing_of s.store c.in-GetAt.name)) c.get_at.result
    (c.get_at.ensures.makes s stands.serves) c.get_at.ensures.not_the_disk
    c.args.served.now.engine.disk c.get_at.new.self.engine.disk (ap (λ e. e.disk) c.get_at.ensures.engine))

pub returns-in-Set-clause-makes : goal.returns-in-Set-clause-makes
returns-in-Set-clause-makes g c s stands =
    subst (λ (line : Line). MakesStep g.D.Held.HeldFile.bytes (g.D.Watched.told c.write.new.self.engine.disk) c.write.new.self.engine.core
    c.write.new.self.opens.items s (step_to s line) c.write.result)
    (sym c.in-Set.is) (c.write.ensures.makes s stands.serves)

pub returns-in-Set-clause-sound : goal.returns-in-Set-clause-sound
returns-in-Set-clause-sound g c s stands halts = absurd (not_by_read c.write.result c.write.ensures.fails halts)

pub returns-in-Set-clause-undamaged : goal.returns-in-Set-clause-undamaged
returns-in-Set-clause-undamaged g c s stands halts = not_by_damage c.write.result c.write.ensures.fails halts

pub returns-in-Set-clause-fault : goal.returns-in-Set-clause-fault
returns-in-Set-clause-fault g c s stands halts = absurd (not_by_reader c.write.result c.write.ensures.fails halts)

pub returns-in-Set-clause-cause : goal.returns-in-Set-clause-cause
returns-in-Set-clause-cause g c = no_cause _ _ _ (ap (λ disk. g.D.Watched.faults disk) (ap (λ e. e.disk)
    c.write.ensures.engine)) (not_by_disk c.write.result c.write.ensures.fails)

pub returns-in-Set-clause-carries : goal.returns-in-Set-clause-carries
returns-in-Set-clause-carries g c s stands =
    subst (λ (line : Line). CarriesOut g.D.Watched IsStored Shown IsStopped c.args.served.now.engine.disk
    c.write.new.self.engine.disk s (state_after s line) c.write.result) (sym c.in-Set.is)
    (quiet_carries g.D.Watched (record { only_now = g.met.D.Disk.only_now; counts_now = g.met.D.Disk.counts_now })
    g.D.Held.HeldFile.bytes
    (g.D.Watched.told c.write.new.self.engine.disk) c.write.new.self.engine.core c.write.new.self.opens.items s
    (step_to s (lines.Set c.in-Set.name c.in-Set.key
    c.in-Set.value)) (write_keeps s.store c.in-Set.name c.in-Set.key (changes.Set (untagged c.in-Set.value))
    (thing_of s.store c.in-Set.name)) c.write.result
    (c.write.ensures.makes s stands.serves) (not_by_disk c.write.result c.write.ensures.fails)
    c.args.served.now.engine.disk c.write.new.self.engine.disk
    (ap (λ e. e.disk) c.write.ensures.engine))

pub returns-in-SetTagged-clause-makes : goal.returns-in-SetTagged-clause-makes
returns-in-SetTagged-clause-makes g c s stands =
    subst (λ (line : Line). MakesStep g.D.Held.HeldFile.bytes
    (g.D.Watched.told c.write-in-SetTagged.new.self.engine.disk) c.write-in-SetTagged.new.self.engine.core
    c.write-in-SetTagged.new.self.opens.items s (step_to s line) c.write-in-SetTagged.result)
    (sym c.in-SetTagged.is) (c.write-in-SetTagged.ensures.makes s stands.serves)

pub returns-in-SetTagged-clause-sound : goal.returns-in-SetTagged-clause-sound
returns-in-SetTagged-clause-sound g c s stands halts = absurd
    (not_by_read c.write-in-SetTagged.result c.write-in-SetTagged.ensures.fails halts)

pub returns-in-SetTagged-clause-undamaged : goal.returns-in-SetTagged-clause-undamaged
returns-in-SetTagged-clause-undamaged g c s stands halts = not_by_damage c.write-in-SetTagged.result
    c.write-in-SetTagged.ensures.fails halts

pub returns-in-SetTagged-clause-fault : goal.returns-in-SetTagged-clause-fault
returns-in-SetTagged-clause-fault g c s stands halts = absurd
    (not_by_reader c.write-in-SetTagged.result c.write-in-SetTagged.ensures.fails halts)

pub returns-in-SetTagged-clause-cause : goal.returns-in-SetTagged-clause-cause
returns-in-SetTagged-clause-cause g c = no_cause _ _ _ (ap (λ disk. g.D.Watched.faults disk) (ap (λ e. e.disk)
    c.write-in-SetTagged.ensures.engine)) (not_by_disk c.write-in-SetTagged.result c.write-in-SetTagged.ensures.fails)

pub returns-in-SetTagged-clause-carries : goal.returns-in-SetTagged-clause-carries
returns-in-SetTagged-clause-carries g c s stands =
    subst (λ (line : Line). CarriesOut g.D.Watched IsStored Shown IsStopped c.args.served.now.engine.disk
    c.write-in-SetTagged.new.self.engine.disk s (state_after s line) c.write-in-SetTagged.result) (sym c.in-SetTagged.is)
    (quiet_carries g.D.Watched (record { only_now = g.met.D.Disk.only_now; counts_now = g.met.D.Disk.counts_now })
    g.D.Held.HeldFile.bytes
    (g.D.Watched.told c.write-in-SetTagged.new.self.engine.disk) c.write-in-SetTagged.new.self.engine.core
    c.write-in-SetTagged.new.self.opens.items s (step_to s (lines.SetTagged
    c.in-SetTagged.name c.in-SetTagged.key c.in-SetTagged.value c.in-SetTagged.tag)) (write_keeps s.store
    c.in-SetTagged.name c.in-SetTagged.key (changes.Set (tagged c.in-SetTagged.value c.in-SetTagged.tag)) (thing_of
    s.store c.in-SetTagged.name)) c.write-in-SetTagged.result
    (c.write-in-SetTagged.ensures.makes s stands.serves)
    (not_by_disk c.write-in-SetTagged.result c.write-in-SetTagged.ensures.fails) c.args.served.now.engine.disk
    c.write-in-SetTagged.new.self.engine.disk (ap (λ e. e.disk) c.write-in-SetTagged.ensures.engine))

pub returns-in-Delete-clause-makes : goal.returns-in-Delete-clause-makes
returns-in-Delete-clause-makes g c s stands =
    subst (λ (line : Line). MakesStep g.D.Held.HeldFile.bytes (g.D.Watched.told c.write-in-Delete.new.self.engine.disk)
    c.write-in-Delete.new.self.engine.core
    c.write-in-Delete.new.self.opens.items s (step_to s line) c.write-in-Delete.result)
    (sym c.in-Delete.is) (c.write-in-Delete.ensures.makes s stands.serves)

pub returns-in-Delete-clause-sound : goal.returns-in-Delete-clause-sound
returns-in-Delete-clause-sound g c s stands halts = absurd (not_by_read c.write-in-Delete.result c.write-in-Delete.ensures.fails halts)

pub returns-in-Delete-clause-undamaged : goal.returns-in-Delete-clause-undamaged
returns-in-Delete-clause-undamaged g c s stands halts = not_by_damage c.write-in-Delete.result c.write-in-Delete.ensures.fails halts

pub returns-in-Delete-clause-fault : goal.returns-in-Delete-clause-fault
returns-in-Delete-clause-fault g c s stands halts = absurd (not_by_reader c.write-in-Delete.result c.write-in-Delete.ensures.fails halts)

pub returns-in-Delete-clause-cause : goal.returns-in-Delete-clause-cause
returns-in-Delete-clause-cause g c = no_cause _ _ _ (ap (λ disk. g.D.Watched.faults disk) (ap (λ e. e.disk)
    c.write-in-Delete.ensures.engine)) (not_by_disk c.write-in-Delete.result c.write-in-Delete.ensures.fails)

pub returns-in-Delete-clause-carries : goal.returns-in-Delete-clause-carries
returns-in-Delete-clause-carries g c s stands =
    subst (λ (line : Line). CarriesOut g.D.Watched IsStored Shown IsStopped c.args.served.now.engine.disk
    c.write-in-Delete.new.self.engine.disk s (state_after s line) c.write-in-Delete.result) (sym c.in-Delete.is)
    (quiet_carries g.D.Watched (record { only_now = g.met.D.Disk.only_now; counts_now = g.met.D.Disk.counts_now })
    g.D.Held.HeldFile.bytes
    (g.D.Watched.told c.write-in-Delete.new.self.engine.disk) c.write-in-Delete.new.self.engine.core
    c.write-in-Delete.new.self.opens.items s (step_to s (lines.Delete
    c.in-Delete.name c.in-Delete.key)) (write_keeps s.store c.in-Delete.name c.in-Delete.key changes.Delete (thing_of
    s.store c.in-Delete.name)) c.write-in-Delete.result
    (c.write-in-Delete.ensures.makes s stands.serves)
    (not_by_disk c.write-in-Delete.result c.write-in-Delete.ensures.fails) c.args.served.now.engine.disk
    c.write-in-Delete.new.self.engine.disk (ap (λ e. e.disk) c.write-in-Delete.ensures.engine))

pub returns-in-Scan-clause-makes : goal.returns-in-Scan-clause-makes
returns-in-Scan-clause-makes g c s stands =
    subst (λ (line : Line). MakesStep g.D.Held.HeldFile.bytes (g.D.Watched.told c.scan.new.self.engine.disk)
    c.scan.new.self.engine.core c.scan.new.self.opens.items
    s (step_to s line) c.scan.result)
    (sym c.in-Scan.is) (c.scan.ensures.makes s stands.serves)

pub returns-in-Scan-clause-sound : goal.returns-in-Scan-clause-sound
returns-in-Scan-clause-sound g c s stands halts =
    subst (λ (line : Line). ReadsTables line s) (sym c.in-Scan.is) (
      λ untabled. not_by_read c.scan.result (c.scan.ensures.near s stands.serves untabled) halts,
      asks_rows g.D.Held.HeldFile.bytes _ (history_of s) s.store.layout (thing_of s.store c.in-Scan.name) _ c.in-Scan.name c.scan.result halts
          (open_in c.args.served.now.opens.items c.in-Scan.name) c.in-Scan.low c.in-Scan.high (stands.serves.names.each c.in-Scan.name) c.scan.ensures.as_called,
    )

pub returns-in-Scan-clause-undamaged : goal.returns-in-Scan-clause-undamaged
returns-in-Scan-clause-undamaged g c s stands = c.scan.ensures.undamaged s stands.serves

pub returns-in-Scan-clause-fault : goal.returns-in-Scan-clause-fault
returns-in-Scan-clause-fault g c s stands halts = by_the_reader g.D.Reader.Reader.faults g.D.Writer.Writer.faults
    (λ (u : IsUnfailing g.D.Watched g.D.Reader.Reader.faults c.args.served.now). u.reads)
    (c.scan.ensures.fault halts)

pub returns-in-Scan-clause-cause : goal.returns-in-Scan-clause-cause
returns-in-Scan-clause-cause g c = no_cause _ _ _ (ap (λ disk. g.D.Watched.faults disk) (ap (λ e. e.disk)
    c.scan.ensures.engine)) c.scan.ensures.not_the_disk

pub returns-in-Scan-clause-carries : goal.returns-in-Scan-clause-carries
returns-in-Scan-clause-carries g c s stands =
    subst (λ (line : Line). CarriesOut g.D.Watched IsStored Shown IsStopped c.args.served.now.engine.disk
    c.scan.new.self.engine.disk s (state_after s line) c.scan.result) (sym c.in-Scan.is)
    (quiet_carries g.D.Watched (record { only_now = g.met.D.Disk.only_now; counts_now = g.met.D.Disk.counts_now })
    g.D.Held.HeldFile.bytes
    (g.D.Watched.told c.scan.new.self.engine.disk) c.scan.new.self.engine.core c.scan.new.self.opens.items s
    (step_to s (lines.Scan c.in-Scan.name c.in-Scan.low
    c.in-Scan.high c.in-Scan.limit c.in-Scan.way)) (scan_keeps s.store c.in-Scan.way c.in-Scan.name c.in-Scan.low
    c.in-Scan.high c.in-Scan.limit (thing_of s.store c.in-Scan.name)) c.scan.result
    (c.scan.ensures.makes s stands.serves) c.scan.ensures.not_the_disk c.args.served.now.engine.disk
    c.scan.new.self.engine.disk (ap (λ e. e.disk) c.scan.ensures.engine))

pub returns-in-Commit-clause-makes : goal.returns-in-Commit-clause-makes
returns-in-Commit-clause-makes g c s stands =
    subst (λ (line : Line). MakesStep g.D.Held.HeldFile.bytes (g.D.Watched.told c.commit.new.self.engine.disk) c.commit.new.self.engine.core
    c.commit.new.self.opens.items s (step_to s line) c.commit.result)
    (sym c.in-Commit.is) (c.commit.ensures.makes s stands.serves)

pub returns-in-Commit-clause-carries : goal.returns-in-Commit-clause-carries
returns-in-Commit-clause-carries g c s stands =
    subst (λ (line : Line). CarriesOut g.D.Watched IsStored Shown IsStopped c.args.served.now.engine.disk
    c.commit.new.self.engine.disk s (state_after s line) c.commit.result)
    (sym c.in-Commit.is) (c.commit.ensures.carries s stands.serves)

pub returns-in-Drop-clause-makes : goal.returns-in-Drop-clause-makes
returns-in-Drop-clause-makes g c s stands =
    subst (λ (line : Line). MakesStep g.D.Held.HeldFile.bytes (g.D.Watched.told c.end.new.served.engine.disk)
    c.end.new.served.engine.core c.end.new.served.opens.items s
    (step_to s line) (Ok c.end.result))
    (sym c.in-Drop.is) (c.end.ensures.makes s stands)

pub returns-in-Drop-clause-cause : goal.returns-in-Drop-clause-cause
returns-in-Drop-clause-cause g c = no_cause _ _ _ (ap (λ disk. g.D.Watched.faults disk) c.end.ensures.disk) (λ halts. halts)

pub returns-in-Drop-clause-carries : goal.returns-in-Drop-clause-carries
returns-in-Drop-clause-carries g c s stands =
    subst (λ (line : Line). CarriesOut g.D.Watched IsStored Shown IsStopped c.args.served.now.engine.disk
    c.end.new.served.engine.disk s (state_after s line) (Ok c.end.result)) (sym c.in-Drop.is) (c.end.ensures.carries s stands)

pub returns-in-Begin-clause-named : goal.returns-in-Begin-clause-named
returns-in-Begin-clause-named g c s file stands is = not_at c.begin.result (not_by_disk c.begin.result c.begin.ensures.fails) file is

pub returns-in-View-clause-named : goal.returns-in-View-clause-named
returns-in-View-clause-named g c s file stands is = not_at c.view.result (not_by_disk c.view.result c.view.ensures.fails) file is

pub returns-in-Get-clause-named : goal.returns-in-Get-clause-named
returns-in-Get-clause-named g c s file stands is = not_at c.read.result c.read.ensures.not_the_disk file is

pub returns-in-GetTagged-clause-named : goal.returns-in-GetTagged-clause-named
returns-in-GetTagged-clause-named g c s file stands is = not_at c.read-in-GetTagged.result
    c.read-in-GetTagged.ensures.not_the_disk file is

pub returns-in-GetAt-clause-named : goal.returns-in-GetAt-clause-named
returns-in-GetAt-clause-named g c s file stands is = not_at c.get_at.result c.get_at.ensures.not_the_disk file is

pub returns-in-Set-clause-named : goal.returns-in-Set-clause-named
returns-in-Set-clause-named g c s file stands is = not_at c.write.result (not_by_disk c.write.result c.write.ensures.fails) file is

pub returns-in-SetTagged-clause-named : goal.returns-in-SetTagged-clause-named
returns-in-SetTagged-clause-named g c s file stands is = not_at c.write-in-SetTagged.result (not_by_disk
    c.write-in-SetTagged.result c.write-in-SetTagged.ensures.fails) file is

pub returns-in-Delete-clause-named : goal.returns-in-Delete-clause-named
returns-in-Delete-clause-named g c s file stands is = not_at c.write-in-Delete.result (not_by_disk
    c.write-in-Delete.result c.write-in-Delete.ensures.fails) file is

pub returns-in-Scan-clause-named : goal.returns-in-Scan-clause-named
returns-in-Scan-clause-named g c s file stands is = not_at c.scan.result c.scan.ensures.not_the_disk file is

pub returns-in-Commit-clause-named : goal.returns-in-Commit-clause-named
returns-in-Commit-clause-named g c s file stands is =
    subst (λ (line : Line). FailsAt c.args.served.now.engine.core.back.manifest.number line s file) (sym c.in-Commit.is)
    (c.commit.ensures.named s file stands.serves is)

-- ---- commits and steps on files

pub returns-in-Commit-clause-sound : goal.returns-in-Commit-clause-sound
returns-in-Commit-clause-sound g c s stands halts = absurd (c.commit.ensures.sound s stands.serves halts)

pub returns-in-Commit-clause-undamaged : goal.returns-in-Commit-clause-undamaged
returns-in-Commit-clause-undamaged g c s stands halts = c.commit.ensures.sound s stands.serves (damage_is_read c.commit.result halts)

pub returns-in-Commit-clause-fault : goal.returns-in-Commit-clause-fault
returns-in-Commit-clause-fault g c s stands halts = absurd (c.commit.ensures.sound s stands.serves (reader_is_read c.commit.result halts))

pub returns-in-Rotate-clause-makes : goal.returns-in-Rotate-clause-makes
returns-in-Rotate-clause-makes g c s stands =
    subst (λ (line : Line). MakesStep g.D.Held.HeldFile.bytes (g.D.Watched.told c.rotate.new.self.engine.disk)
    c.rotate.new.self.engine.core c.rotate.new.self.opens.items s (step_to s line) c.rotate.result)
    (sym c.in-Rotate.is) (c.rotate.ensures.makes s stands.serves)

pub returns-in-Rotate-clause-carries : goal.returns-in-Rotate-clause-carries
returns-in-Rotate-clause-carries g c s stands =
    subst (λ (line : Line). CarriesOut g.D.Watched IsStored Shown IsStopped c.args.served.now.engine.disk
    c.rotate.new.self.engine.disk s (state_after s line) c.rotate.result)
    (sym c.in-Rotate.is) (c.rotate.ensures.carries s stands.serves)

pub returns-in-Rotate-clause-sound : goal.returns-in-Rotate-clause-sound
returns-in-Rotate-clause-sound g c s stands halts = absurd (c.rotate.ensures.sound s stands.serves halts)

pub returns-in-Rotate-clause-undamaged : goal.returns-in-Rotate-clause-undamaged
returns-in-Rotate-clause-undamaged g c s stands halts = c.rotate.ensures.sound s stands.serves (damage_is_read c.rotate.result halts)

pub returns-in-Rotate-clause-fault : goal.returns-in-Rotate-clause-fault
returns-in-Rotate-clause-fault g c s stands halts = absurd (c.rotate.ensures.sound s stands.serves (reader_is_read c.rotate.result halts))

pub returns-in-Rotate-clause-named : goal.returns-in-Rotate-clause-named
returns-in-Rotate-clause-named g c s file stands is =
    subst (λ (line : Line). FailsAt c.args.served.now.engine.core.back.manifest.number line s file) (sym c.in-Rotate.is)
    (c.rotate.ensures.named s file stands.serves is)

pub returns-in-Flush-clause-makes : goal.returns-in-Flush-clause-makes
returns-in-Flush-clause-makes g c s stands =
    subst (λ (line : Line). MakesStep g.D.Held.HeldFile.bytes (g.D.Watched.told c.flush.new.self.engine.disk)
    c.flush.new.self.engine.core c.flush.new.self.opens.items s (step_to s line) c.flush.result)
    (sym c.in-Flush.is) (c.flush.ensures.makes s stands.serves)

pub returns-in-Flush-clause-carries : goal.returns-in-Flush-clause-carries
returns-in-Flush-clause-carries g c s stands =
    subst (λ (line : Line). CarriesOut g.D.Watched IsStored Shown IsStopped c.args.served.now.engine.disk
    c.flush.new.self.engine.disk s (state_after s line) c.flush.result)
    (sym c.in-Flush.is) (c.flush.ensures.carries s stands.serves)

pub returns-in-Flush-clause-sound : goal.returns-in-Flush-clause-sound
returns-in-Flush-clause-sound g c s stands halts = absurd (c.flush.ensures.sound s stands.serves halts)

pub returns-in-Flush-clause-undamaged : goal.returns-in-Flush-clause-undamaged
returns-in-Flush-clause-undamaged g c s stands halts = c.flush.ensures.sound s stands.serves (damage_is_read c.flush.result halts)

pub returns-in-Flush-clause-fault : goal.returns-in-Flush-clause-fault
returns-in-Flush-clause-fault g c s stands halts = absurd (c.flush.ensures.sound s stands.serves (reader_is_read c.flush.result halts))

pub returns-in-Flush-clause-named : goal.returns-in-Flush-clause-named
returns-in-Flush-clause-named g c s file stands is =
    subst (λ (line : Line). FailsAt c.args.served.now.engine.core.back.manifest.number line s file) (sym c.in-Flush.is)
    (c.flush.ensures.named s file stands.serves is)

pub returns-in-Keep-clause-makes : goal.returns-in-Keep-clause-makes
returns-in-Keep-clause-makes g c s stands =
    subst (λ (line : Line). MakesStep g.D.Held.HeldFile.bytes (g.D.Watched.told c.keep.new.self.engine.disk)
    c.keep.new.self.engine.core c.keep.new.self.opens.items s (step_to s line) c.keep.result)
    (sym c.in-Keep.is) (c.keep.ensures.makes s stands.serves)

pub returns-in-Keep-clause-carries : goal.returns-in-Keep-clause-carries
returns-in-Keep-clause-carries g c s stands =
    subst (λ (line : Line). CarriesOut g.D.Watched IsStored Shown IsStopped c.args.served.now.engine.disk
    c.keep.new.self.engine.disk s (state_after s line) c.keep.result)
    (sym c.in-Keep.is) (c.keep.ensures.carries s stands.serves)

pub returns-in-Keep-clause-sound : goal.returns-in-Keep-clause-sound
returns-in-Keep-clause-sound g c s stands halts = absurd (c.keep.ensures.sound s stands.serves halts)

pub returns-in-Keep-clause-undamaged : goal.returns-in-Keep-clause-undamaged
returns-in-Keep-clause-undamaged g c s stands halts = c.keep.ensures.sound s stands.serves (damage_is_read c.keep.result halts)

pub returns-in-Keep-clause-fault : goal.returns-in-Keep-clause-fault
returns-in-Keep-clause-fault g c s stands halts = absurd (c.keep.ensures.sound s stands.serves (reader_is_read c.keep.result halts))

pub returns-in-Keep-clause-named : goal.returns-in-Keep-clause-named
returns-in-Keep-clause-named g c s file stands is =
    subst (λ (line : Line). FailsAt c.args.served.now.engine.core.back.manifest.number line s file) (sym c.in-Keep.is)
    (c.keep.ensures.named file is)

-- ---- merges, which these lines leave alone

pub returns-in-Begin-clause-merges : goal.returns-in-Begin-clause-merges
returns-in-Begin-clause-merges g c s stands =
    subst (λ (line : Line). OnOk c.begin.result
    (MergesIn g.D.Writer.Writer g.D.Held.HeldFile.bytes c.begin.new.self.engine.merging c.args.planned.now
    (step_to s line).state)) (sym c.in-Begin.is)
    (on_ok_of c.begin.result _
    (merges_behind g.D.Writer.Writer g.D.Held.HeldFile.bytes c.args.served.now.engine.merging
    c.begin.new.self.engine.merging c.args.planned.now c.args.planned.now
    c.begin.ensures.merging refl s.store (step_to s (lines.Begin c.in-Begin.name))
    (merges_kept s.store _ (transaction_keeps_work s.store c.in-Begin.name)) stands.merges))

pub returns-in-Begin-clause-handed : goal.returns-in-Begin-clause-handed
returns-in-Begin-clause-handed g c =
    can_same g.D.Watched g.D.Writer.Writer c.args.served.now.engine.disk c.begin.new.self.engine.disk
    c.args.served.now.engine.merging c.begin.new.self.engine.merging c.args.planned.now
    c.begin.ensures.merging c.begin.result c.begin.ensures.disk c.requires.handed

pub returns-in-View-clause-merges : goal.returns-in-View-clause-merges
returns-in-View-clause-merges g c s stands =
    subst (λ (line : Line). OnOk c.view.result
    (MergesIn g.D.Writer.Writer g.D.Held.HeldFile.bytes c.view.new.self.engine.merging c.args.planned.now
    (step_to s line).state)) (sym c.in-View.is)
    (on_ok_of c.view.result _
    (merges_behind g.D.Writer.Writer g.D.Held.HeldFile.bytes c.args.served.now.engine.merging
    c.view.new.self.engine.merging c.args.planned.now c.args.planned.now
    c.view.ensures.merging refl s.store (step_to s (lines.View c.in-View.name))
    (merges_kept s.store _ (view_keeps_work s.store c.in-View.name)) stands.merges))

pub returns-in-View-clause-handed : goal.returns-in-View-clause-handed
returns-in-View-clause-handed g c =
    can_same g.D.Watched g.D.Writer.Writer c.args.served.now.engine.disk c.view.new.self.engine.disk
    c.args.served.now.engine.merging c.view.new.self.engine.merging c.args.planned.now
    c.view.ensures.merging c.view.result c.view.ensures.disk c.requires.handed

pub returns-in-Get-clause-merges : goal.returns-in-Get-clause-merges
returns-in-Get-clause-merges g c s stands =
    subst (λ (line : Line). OnOk c.read.result
    (MergesIn g.D.Writer.Writer g.D.Held.HeldFile.bytes c.read.new.self.engine.merging c.args.planned.now
    (step_to s line).state)) (sym c.in-Get.is)
    (on_ok_of c.read.result _
    (merges_behind g.D.Writer.Writer g.D.Held.HeldFile.bytes c.args.served.now.engine.merging
    c.read.new.self.engine.merging c.args.planned.now c.args.planned.now
    (ap (λ e. e.merging) c.read.ensures.engine) refl s.store (step_to s (lines.Get c.in-Get.name c.in-Get.key))
    (merges_kept s.store _ (get_keeps_work s.store c.in-Get.name answer_of c.in-Get.key (thing_of s.store c.in-Get.name) refl))
    stands.merges))

pub returns-in-Get-clause-handed : goal.returns-in-Get-clause-handed
returns-in-Get-clause-handed g c =
    can_same g.D.Watched g.D.Writer.Writer c.args.served.now.engine.disk c.read.new.self.engine.disk
    c.args.served.now.engine.merging c.read.new.self.engine.merging c.args.planned.now
    (ap (λ e. e.merging) c.read.ensures.engine) c.read.result (ap (λ e. e.disk) c.read.ensures.engine) c.requires.handed

pub returns-in-GetTagged-clause-merges : goal.returns-in-GetTagged-clause-merges
returns-in-GetTagged-clause-merges g c s stands =
    subst (λ (line : Line). OnOk c.read-in-GetTagged.result
    (MergesIn g.D.Writer.Writer g.D.Held.HeldFile.bytes c.read-in-GetTagged.new.self.engine.merging c.args.planned.now
    (step_to s line).state)) (sym c.in-GetTagged.is)
    (on_ok_of c.read-in-GetTagged.result _
    (merges_behind g.D.Writer.Writer g.D.Held.HeldFile.bytes c.args.served.now.engine.merging
    c.read-in-GetTagged.new.self.engine.merging c.args.planned.now c.args.planned.now
    (ap (λ e. e.merging) c.read-in-GetTagged.ensures.engine) refl s.store
    (step_to s (lines.GetTagged c.in-GetTagged.name c.in-GetTagged.key))
    (merges_kept s.store _ (get_keeps_work s.store c.in-GetTagged.name answer_with_tag c.in-GetTagged.key
    (thing_of s.store c.in-GetTagged.name) refl)) stands.merges))

pub returns-in-GetTagged-clause-handed : goal.returns-in-GetTagged-clause-handed
returns-in-GetTagged-clause-handed g c =
    can_same g.D.Watched g.D.Writer.Writer c.args.served.now.engine.disk c.read-in-GetTagged.new.self.engine.disk
    c.args.served.now.engine.merging c.read-in-GetTagged.new.self.engine.merging c.args.planned.now
    (ap (λ e. e.merging) c.read-in-GetTagged.ensures.engine) c.read-in-GetTagged.result
    (ap (λ e. e.disk) c.read-in-GetTagged.ensures.engine) c.requires.handed

pub returns-in-GetAt-clause-merges : goal.returns-in-GetAt-clause-merges
returns-in-GetAt-clause-merges g c s stands =
    subst (λ (line : Line). OnOk c.get_at.result
    (MergesIn g.D.Writer.Writer g.D.Held.HeldFile.bytes c.get_at.new.self.engine.merging c.args.planned.now
    (step_to s line).state)) (sym c.in-GetAt.is)
    (on_ok_of c.get_at.result _
    (merges_behind g.D.Writer.Writer g.D.Held.HeldFile.bytes c.args.served.now.engine.merging
    c.get_at.new.self.engine.merging c.args.planned.now c.args.planned.now
    (ap (λ e. e.merging) c.get_at.ensures.engine) refl s.store
    (step_to s (lines.GetAt c.in-GetAt.name c.in-GetAt.key c.in-GetAt.number))
    (merges_kept s.store _ (get_at_keeps_work s.store c.in-GetAt.name c.in-GetAt.key c.in-GetAt.number (thing_of s.store c.in-GetAt.name)))
    stands.merges))

pub returns-in-GetAt-clause-handed : goal.returns-in-GetAt-clause-handed
returns-in-GetAt-clause-handed g c =
    can_same g.D.Watched g.D.Writer.Writer c.args.served.now.engine.disk c.get_at.new.self.engine.disk
    c.args.served.now.engine.merging c.get_at.new.self.engine.merging c.args.planned.now
    (ap (λ e. e.merging) c.get_at.ensures.engine) c.get_at.result (ap (λ e. e.disk) c.get_at.ensures.engine) c.requires.handed

pub returns-in-Set-clause-merges : goal.returns-in-Set-clause-merges
returns-in-Set-clause-merges g c s stands =
    subst (λ (line : Line). OnOk c.write.result
    (MergesIn g.D.Writer.Writer g.D.Held.HeldFile.bytes c.write.new.self.engine.merging c.args.planned.now
    (step_to s line).state)) (sym c.in-Set.is)
    (on_ok_of c.write.result _
    (merges_behind g.D.Writer.Writer g.D.Held.HeldFile.bytes c.args.served.now.engine.merging
    c.write.new.self.engine.merging c.args.planned.now c.args.planned.now
    (ap (λ e. e.merging) c.write.ensures.engine) refl s.store
    (step_to s (lines.Set c.in-Set.name c.in-Set.key c.in-Set.value))
    (merges_kept s.store _ (write_keeps_work s.store c.in-Set.name c.in-Set.key (changes.Set (untagged c.in-Set.value))
    (thing_of s.store c.in-Set.name) refl)) stands.merges))

pub returns-in-Set-clause-handed : goal.returns-in-Set-clause-handed
returns-in-Set-clause-handed g c =
    can_same g.D.Watched g.D.Writer.Writer c.args.served.now.engine.disk c.write.new.self.engine.disk
    c.args.served.now.engine.merging c.write.new.self.engine.merging c.args.planned.now
    (ap (λ e. e.merging) c.write.ensures.engine) c.write.result (ap (λ e. e.disk) c.write.ensures.engine) c.requires.handed

pub returns-in-SetTagged-clause-merges : goal.returns-in-SetTagged-clause-merges
returns-in-SetTagged-clause-merges g c s stands =
    subst (λ (line : Line). OnOk c.write-in-SetTagged.result
    (MergesIn g.D.Writer.Writer g.D.Held.HeldFile.bytes c.write-in-SetTagged.new.self.engine.merging
    c.args.planned.now (step_to s line).state)) (sym c.in-SetTagged.is)
    (on_ok_of c.write-in-SetTagged.result _
    (merges_behind g.D.Writer.Writer g.D.Held.HeldFile.bytes c.args.served.now.engine.merging
    c.write-in-SetTagged.new.self.engine.merging c.args.planned.now c.args.planned.now
    (ap (λ e. e.merging) c.write-in-SetTagged.ensures.engine) refl s.store
    (step_to s (lines.SetTagged c.in-SetTagged.name c.in-SetTagged.key c.in-SetTagged.value c.in-SetTagged.tag))
    (merges_kept s.store _ (write_keeps_work s.store c.in-SetTagged.name c.in-SetTagged.key
    (changes.Set (tagged c.in-SetTagged.value c.in-SetTagged.tag)) (thing_of s.store c.in-SetTagged.name) refl)) stands.merges))

pub returns-in-SetTagged-clause-handed : goal.returns-in-SetTagged-clause-handed
returns-in-SetTagged-clause-handed g c =
    can_same g.D.Watched g.D.Writer.Writer c.args.served.now.engine.disk c.write-in-SetTagged.new.self.engine.disk
    c.args.served.now.engine.merging c.write-in-SetTagged.new.self.engine.merging c.args.planned.now
    (ap (λ e. e.merging) c.write-in-SetTagged.ensures.engine) c.write-in-SetTagged.result
    (ap (λ e. e.disk) c.write-in-SetTagged.ensures.engine) c.requires.handed

pub returns-in-Delete-clause-merges : goal.returns-in-Delete-clause-merges
returns-in-Delete-clause-merges g c s stands =
    subst (λ (line : Line). OnOk c.write-in-Delete.result
    (MergesIn g.D.Writer.Writer g.D.Held.HeldFile.bytes c.write-in-Delete.new.self.engine.merging c.args.planned.now
    (step_to s line).state)) (sym c.in-Delete.is)
    (on_ok_of c.write-in-Delete.result _
    (merges_behind g.D.Writer.Writer g.D.Held.HeldFile.bytes c.args.served.now.engine.merging
    c.write-in-Delete.new.self.engine.merging c.args.planned.now c.args.planned.now
    (ap (λ e. e.merging) c.write-in-Delete.ensures.engine) refl s.store
    (step_to s (lines.Delete c.in-Delete.name c.in-Delete.key))
    (merges_kept s.store _ (write_keeps_work s.store c.in-Delete.name c.in-Delete.key changes.Delete (thing_of s.store c.in-Delete.name)
    refl)) stands.merges))

pub returns-in-Delete-clause-handed : goal.returns-in-Delete-clause-handed
returns-in-Delete-clause-handed g c =
    can_same g.D.Watched g.D.Writer.Writer c.args.served.now.engine.disk c.write-in-Delete.new.self.engine.disk
    c.args.served.now.engine.merging c.write-in-Delete.new.self.engine.merging c.args.planned.now
    (ap (λ e. e.merging) c.write-in-Delete.ensures.engine) c.write-in-Delete.result
    (ap (λ e. e.disk) c.write-in-Delete.ensures.engine) c.requires.handed

pub returns-in-Scan-clause-merges : goal.returns-in-Scan-clause-merges
returns-in-Scan-clause-merges g c s stands =
    subst (λ (line : Line). OnOk c.scan.result
    (MergesIn g.D.Writer.Writer g.D.Held.HeldFile.bytes c.scan.new.self.engine.merging c.args.planned.now
    (step_to s line).state)) (sym c.in-Scan.is)
    (on_ok_of c.scan.result _
    (merges_behind g.D.Writer.Writer g.D.Held.HeldFile.bytes c.args.served.now.engine.merging
    c.scan.new.self.engine.merging c.args.planned.now c.args.planned.now
    (ap (λ e. e.merging) c.scan.ensures.engine) refl s.store
    (step_to s (lines.Scan c.in-Scan.name c.in-Scan.low c.in-Scan.high c.in-Scan.limit c.in-Scan.way))
    (merges_kept s.store _ (scan_keeps_work s.store c.in-Scan.way c.in-Scan.name c.in-Scan.low c.in-Scan.high c.in-Scan.limit
    (thing_of s.store c.in-Scan.name) refl)) stands.merges))

pub returns-in-Scan-clause-handed : goal.returns-in-Scan-clause-handed
returns-in-Scan-clause-handed g c =
    can_same g.D.Watched g.D.Writer.Writer c.args.served.now.engine.disk c.scan.new.self.engine.disk
    c.args.served.now.engine.merging c.scan.new.self.engine.merging c.args.planned.now
    (ap (λ e. e.merging) c.scan.ensures.engine) c.scan.result (ap (λ e. e.disk) c.scan.ensures.engine) c.requires.handed

pub returns-in-Commit-clause-merges : goal.returns-in-Commit-clause-merges
returns-in-Commit-clause-merges g c s stands =
    subst (λ (line : Line). OnOk c.commit.result
    (MergesIn g.D.Writer.Writer g.D.Held.HeldFile.bytes c.commit.new.self.engine.merging c.args.planned.now
    (step_to s line).state)) (sym c.in-Commit.is)
    (on_ok_of c.commit.result _
    (merges_behind g.D.Writer.Writer g.D.Held.HeldFile.bytes c.args.served.now.engine.merging
    c.commit.new.self.engine.merging c.args.planned.now c.args.planned.now
    c.commit.ensures.merging refl s.store (step_to s (lines.Commit c.in-Commit.name))
    (merges_kept s.store _ (commit_keeps_work s.store c.in-Commit.name (thing_of s.store c.in-Commit.name) refl)) stands.merges))

pub returns-in-Commit-clause-handed : goal.returns-in-Commit-clause-handed
returns-in-Commit-clause-handed g c =
    can_answered g.D.Watched g.D.Writer.Writer c.args.served.now.engine.disk c.commit.new.self.engine.disk
    c.args.served.now.engine.merging c.commit.new.self.engine.merging c.args.planned.now
    c.commit.ensures.merging c.commit.result c.commit.ensures.untold c.requires.handed

pub returns-in-Rotate-clause-merges : goal.returns-in-Rotate-clause-merges
returns-in-Rotate-clause-merges g c s stands =
    subst (λ (line : Line). OnOk c.rotate.result
    (MergesIn g.D.Writer.Writer g.D.Held.HeldFile.bytes c.rotate.new.self.engine.merging c.args.planned.now
    (step_to s line).state)) (sym c.in-Rotate.is)
    (on_ok_of c.rotate.result _
    (merges_behind g.D.Writer.Writer g.D.Held.HeldFile.bytes c.args.served.now.engine.merging
    c.rotate.new.self.engine.merging c.args.planned.now c.args.planned.now
    c.rotate.ensures.merging refl s.store (step_to s (lines.Rotate)) (rotate_keeps_merges s.store) stands.merges))

pub returns-in-Rotate-clause-handed : goal.returns-in-Rotate-clause-handed
returns-in-Rotate-clause-handed g c =
    can_answered g.D.Watched g.D.Writer.Writer c.args.served.now.engine.disk c.rotate.new.self.engine.disk
    c.args.served.now.engine.merging c.rotate.new.self.engine.merging c.args.planned.now
    c.rotate.ensures.merging c.rotate.result c.rotate.ensures.untold c.requires.handed

pub returns-in-Flush-clause-merges : goal.returns-in-Flush-clause-merges
returns-in-Flush-clause-merges g c s stands =
    subst (λ (line : Line). OnOk c.flush.result
    (MergesIn g.D.Writer.Writer g.D.Held.HeldFile.bytes c.flush.new.self.engine.merging c.args.planned.now
    (step_to s line).state)) (sym c.in-Flush.is)
    (on_ok_of c.flush.result _
    (merges_behind g.D.Writer.Writer g.D.Held.HeldFile.bytes c.args.served.now.engine.merging
    c.flush.new.self.engine.merging c.args.planned.now c.args.planned.now
    c.flush.ensures.merging refl s.store (step_to s (lines.Flush)) (flush_keeps_merges s.store) stands.merges))

pub returns-in-Flush-clause-handed : goal.returns-in-Flush-clause-handed
returns-in-Flush-clause-handed g c =
    can_answered g.D.Watched g.D.Writer.Writer c.args.served.now.engine.disk c.flush.new.self.engine.disk
    c.args.served.now.engine.merging c.flush.new.self.engine.merging c.args.planned.now
    c.flush.ensures.merging c.flush.result c.flush.ensures.untold c.requires.handed

pub returns-in-Keep-clause-merges : goal.returns-in-Keep-clause-merges
returns-in-Keep-clause-merges g c s stands =
    subst (λ (line : Line). OnOk c.keep.result
    (MergesIn g.D.Writer.Writer g.D.Held.HeldFile.bytes c.keep.new.self.engine.merging c.args.planned.now
    (step_to s line).state)) (sym c.in-Keep.is)
    (on_ok_of c.keep.result _
    (merges_behind g.D.Writer.Writer g.D.Held.HeldFile.bytes c.args.served.now.engine.merging
    c.keep.new.self.engine.merging c.args.planned.now c.args.planned.now
    c.keep.ensures.merging refl s.store (step_to s (lines.Keep c.in-Keep.versions))
    (merges_kept s.store _ (keep_keeps_work s.store c.in-Keep.versions)) stands.merges))

pub returns-in-Keep-clause-handed : goal.returns-in-Keep-clause-handed
returns-in-Keep-clause-handed g c =
    can_answered g.D.Watched g.D.Writer.Writer c.args.served.now.engine.disk c.keep.new.self.engine.disk
    c.args.served.now.engine.merging c.keep.new.self.engine.merging c.args.planned.now
    c.keep.ensures.merging c.keep.result c.keep.ensures.untold c.requires.handed

pub returns-in-Drop-clause-merges : goal.returns-in-Drop-clause-merges
returns-in-Drop-clause-merges g c s stands =
    subst (λ (line : Line). MergesIn g.D.Writer.Writer g.D.Held.HeldFile.bytes c.end.new.served.engine.merging
    c.end.new.planned (step_to s line).state) (sym c.in-Drop.is)
    (c.end.ensures.merges s stands)

-- ---- merges

pub returns-in-Plan-clause-makes : goal.returns-in-Plan-clause-makes
returns-in-Plan-clause-makes g c s stands =
    subst (λ (line : Line). MakesStep g.D.Held.HeldFile.bytes (g.D.Watched.told c.plan.new.served.engine.disk) c.plan.new.served.engine.core
    c.plan.new.served.opens.items s (step_to s line) c.plan.result) (sym c.in-Plan.is)
    (c.plan.ensures.makes s (merging_of stands) (free_name s c.args.line c.in_default.is (c.in_ok-name.ensures.used s stands)
    (ap name_made c.in-Plan.is)))

pub returns-in-Drain-clause-makes : goal.returns-in-Drain-clause-makes
returns-in-Drain-clause-makes g c s stands =
    subst (λ (line : Line). MakesStep g.D.Held.HeldFile.bytes (g.D.Watched.told c.plan-in-Drain.new.served.engine.disk)
    c.plan-in-Drain.new.served.engine.core c.plan-in-Drain.new.served.opens.items s (step_to s line) c.plan-in-Drain.result)
    (sym c.in-Drain.is)
    (c.plan-in-Drain.ensures.makes s (merging_of stands) (free_name s c.args.line c.in_default.is (c.in_ok-name.ensures.used s stands)
    (ap name_made c.in-Drain.is)))

pub returns-in-Plan-clause-merges : goal.returns-in-Plan-clause-merges
returns-in-Plan-clause-merges g c s stands =
    subst (λ (line : Line). OnOk c.plan.result
    (MergesIn g.D.Writer.Writer g.D.Held.HeldFile.bytes c.plan.new.served.engine.merging c.plan.new.planned
    (step_to s line).state)) (sym c.in-Plan.is)
    (c.plan.ensures.merges s (merging_of stands) (free_name s c.args.line c.in_default.is (c.in_ok-name.ensures.used s stands)
    (ap name_made c.in-Plan.is)))

pub returns-in-Drain-clause-merges : goal.returns-in-Drain-clause-merges
returns-in-Drain-clause-merges g c s stands =
    subst (λ (line : Line). OnOk c.plan-in-Drain.result
    (MergesIn g.D.Writer.Writer g.D.Held.HeldFile.bytes c.plan-in-Drain.new.served.engine.merging c.plan-in-Drain.new.planned
    (step_to s line).state)) (sym c.in-Drain.is)
    (c.plan-in-Drain.ensures.merges s (merging_of stands) (free_name s c.args.line c.in_default.is (c.in_ok-name.ensures.used s stands)
    (ap name_made c.in-Drain.is)))

pub returns-in-Plan-clause-carries : goal.returns-in-Plan-clause-carries
returns-in-Plan-clause-carries g c s stands =
    subst (λ (line : Line). CarriesOut g.D.Watched IsStored Shown IsStopped c.args.served.now.engine.disk
    c.plan.new.served.engine.disk s (state_after s line) c.plan.result) (sym c.in-Plan.is)
    (c.plan.ensures.carries s (merging_of stands) (free_name s c.args.line c.in_default.is (c.in_ok-name.ensures.used s stands)
    (ap name_made c.in-Plan.is)))

pub returns-in-Drain-clause-carries : goal.returns-in-Drain-clause-carries
returns-in-Drain-clause-carries g c s stands =
    subst (λ (line : Line). CarriesOut g.D.Watched IsStored Shown IsStopped c.args.served.now.engine.disk
    c.plan-in-Drain.new.served.engine.disk s (state_after s line) c.plan-in-Drain.result) (sym c.in-Drain.is)
    (c.plan-in-Drain.ensures.carries s (merging_of stands) (free_name s c.args.line c.in_default.is (c.in_ok-name.ensures.used s stands)
    (ap name_made c.in-Drain.is)))

pub returns-in-Plan-clause-named : goal.returns-in-Plan-clause-named
returns-in-Plan-clause-named g c s file stands is =
    subst (λ (line : Line). FailsAt c.args.served.now.engine.core.back.manifest.number line s file) (sym c.in-Plan.is)
    (c.plan.ensures.named s file (merging_of stands) (free_name s c.args.line c.in_default.is (c.in_ok-name.ensures.used s stands)
    (ap name_made c.in-Plan.is)) is)

pub returns-in-Drain-clause-named : goal.returns-in-Drain-clause-named
returns-in-Drain-clause-named g c s file stands is =
    subst (λ (line : Line). FailsAt c.args.served.now.engine.core.back.manifest.number line s file) (sym c.in-Drain.is)
    (c.plan-in-Drain.ensures.named s file (merging_of stands) (free_name s c.args.line c.in_default.is (c.in_ok-name.ensures.used s stands)
    (ap name_made c.in-Drain.is)) is)

pub returns-in-Plan-clause-sound : goal.returns-in-Plan-clause-sound
returns-in-Plan-clause-sound g c s stands halts =
    subst (λ (line : Line). ReadsTables line s) (sym c.in-Plan.is)
    (c.plan.ensures.sound s (merging_of stands) (free_name s c.args.line c.in_default.is (c.in_ok-name.ensures.used s stands)
    (ap name_made c.in-Plan.is)) halts)

pub returns-in-Drain-clause-sound : goal.returns-in-Drain-clause-sound
returns-in-Drain-clause-sound g c s stands halts =
    subst (λ (line : Line). ReadsTables line s) (sym c.in-Drain.is)
    (c.plan-in-Drain.ensures.sound s (merging_of stands) (free_name s c.args.line c.in_default.is (c.in_ok-name.ensures.used s stands)
    (ap name_made c.in-Drain.is)) halts)

pub returns-in-Plan-clause-undamaged : goal.returns-in-Plan-clause-undamaged
returns-in-Plan-clause-undamaged g c s stands =
    c.plan.ensures.undamaged s (merging_of stands) (free_name s c.args.line c.in_default.is (c.in_ok-name.ensures.used s stands)
    (ap name_made c.in-Plan.is))

pub returns-in-Drain-clause-undamaged : goal.returns-in-Drain-clause-undamaged
returns-in-Drain-clause-undamaged g c s stands =
    c.plan-in-Drain.ensures.undamaged s (merging_of stands) (free_name s c.args.line c.in_default.is (c.in_ok-name.ensures.used s stands)
    (ap name_made c.in-Drain.is))

pub returns-in-Plan-clause-fault : goal.returns-in-Plan-clause-fault
returns-in-Plan-clause-fault g c s stands halts = less_sure _
    (λ (u : IsUnfailing g.D.Watched g.D.Reader.Reader.faults c.args.served.now). u.gives)
    (c.plan.ensures.fault s (merging_of stands) halts)

pub returns-in-Drain-clause-fault : goal.returns-in-Drain-clause-fault
returns-in-Drain-clause-fault g c s stands halts = less_sure _
    (λ (u : IsUnfailing g.D.Watched g.D.Reader.Reader.faults c.args.served.now). u.gives)
    (c.plan-in-Drain.ensures.fault s (merging_of stands) halts)

pub returns-in-Install-clause-makes : goal.returns-in-Install-clause-makes
returns-in-Install-clause-makes g c s stands =
    subst (λ (line : Line). MakesStep g.D.Held.HeldFile.bytes (g.D.Watched.told c.install.new.served.engine.disk)
    c.install.new.served.engine.core
    c.install.new.served.opens.items s (step_to s line) c.install.result) (sym c.in-Install.is)
    (c.install.ensures.makes s (merging_of stands))

pub returns-in-Install-clause-merges : goal.returns-in-Install-clause-merges
returns-in-Install-clause-merges g c s stands =
    subst (λ (line : Line). OnOk c.install.result
    (MergesIn g.D.Writer.Writer g.D.Held.HeldFile.bytes c.install.new.served.engine.merging c.install.new.planned
    (step_to s line).state)) (sym c.in-Install.is)
    (c.install.ensures.merges s (merging_of stands))

pub returns-in-Install-clause-carries : goal.returns-in-Install-clause-carries
returns-in-Install-clause-carries g c s stands =
    subst (λ (line : Line). CarriesOut g.D.Watched IsStored Shown IsStopped c.args.served.now.engine.disk
    c.install.new.served.engine.disk s (state_after s line) c.install.result) (sym c.in-Install.is)
    (c.install.ensures.carries s (merging_of stands))

pub returns-in-Install-clause-named : goal.returns-in-Install-clause-named
returns-in-Install-clause-named g c s file stands is =
    subst (λ (line : Line). FailsAt c.args.served.now.engine.core.back.manifest.number line s file) (sym c.in-Install.is)
    (c.install.ensures.named s file (merging_of stands) is)

pub returns-in-Install-clause-sound : goal.returns-in-Install-clause-sound
returns-in-Install-clause-sound g c s stands halts = absurd (c.install.ensures.sound s (merging_of stands) halts)

pub returns-in-Install-clause-undamaged : goal.returns-in-Install-clause-undamaged
returns-in-Install-clause-undamaged g c s stands halts =
    c.install.ensures.sound s (merging_of stands) (damage_is_read c.install.result halts)

pub returns-in-Install-clause-fault : goal.returns-in-Install-clause-fault
returns-in-Install-clause-fault g c s stands halts =
    absurd (c.install.ensures.sound s (merging_of stands) (reader_is_read c.install.result halts))

pub returns-in-Plan-clause-passes : goal.returns-in-Plan-clause-passes
returns-in-Plan-clause-passes g c s stands =
    subst (λ (line : Line). OnOk c.plan.result (PassesIn g.D.Held.HeldFile.bytes c.plan.new.served.engine.core
    c.plan.new.served.engine.collecting c.args.passing.now
    (step_to s line).state)) (sym c.in-Plan.is)
    (on_ok_of c.plan.result _
    (plan_passes s.store c.in-Plan.name (bare_no_pass _ (free_name s c.args.line c.in_default.is (c.in_ok-name.ensures.used s stands)
    (ap name_made c.in-Plan.is))) g.D.Held.HeldFile.bytes c.args.served.now.engine.core c.plan.new.served.engine.core
    c.args.served.now.engine.collecting c.plan.new.served.engine.collecting c.args.passing.now c.plan.ensures.logs c.plan.ensures.collecting
    Due stands.passes))

pub returns-in-Drain-clause-passes : goal.returns-in-Drain-clause-passes
returns-in-Drain-clause-passes g c s stands =
    subst (λ (line : Line). OnOk c.plan-in-Drain.result (PassesIn g.D.Held.HeldFile.bytes c.plan-in-Drain.new.served.engine.core
    c.plan-in-Drain.new.served.engine.collecting c.args.passing.now
    (step_to s line).state)) (sym c.in-Drain.is)
    (on_ok_of c.plan-in-Drain.result _
    (plan_passes s.store c.in-Drain.name (bare_no_pass _ (free_name s c.args.line c.in_default.is (c.in_ok-name.ensures.used s stands)
    (ap name_made c.in-Drain.is))) g.D.Held.HeldFile.bytes c.args.served.now.engine.core c.plan-in-Drain.new.served.engine.core
    c.args.served.now.engine.collecting c.plan-in-Drain.new.served.engine.collecting c.args.passing.now
    c.plan-in-Drain.ensures.logs c.plan-in-Drain.ensures.collecting (LeadsInto c.in-Drain.segment) stands.passes))

pub returns-in-Install-clause-passes : goal.returns-in-Install-clause-passes
returns-in-Install-clause-passes g c s stands =
    subst (λ (line : Line). OnOk c.install.result (PassesIn g.D.Held.HeldFile.bytes c.install.new.served.engine.core
    c.install.new.served.engine.collecting c.args.passing.now
    (step_to s line).state)) (sym c.in-Install.is)
    (install_passes s.store c.in-Install.name g.D.Held.HeldFile.bytes c.args.served.now.engine.core c.install.new.served.engine.core
    c.args.served.now.engine.collecting c.install.new.served.engine.collecting c.args.passing.now c.install.result stands.serves.engine.tidy
    (c.install.ensures.collects s (merging_of stands) stands.passes.collects) stands.passes)

-- ---- passes, which these lines leave alone

pub returns-in-Begin-clause-passes : goal.returns-in-Begin-clause-passes
returns-in-Begin-clause-passes g c s stands =
    subst (λ (line : Line). OnOk c.begin.result
    (PassesIn g.D.Held.HeldFile.bytes c.begin.new.self.engine.core c.begin.new.self.engine.collecting c.args.passing.now
    (step_to s line).state)) (sym c.in-Begin.is)
    (on_ok_of c.begin.result _
    (passes_behind g.D.Held.HeldFile.bytes c.args.served.now.engine.core c.begin.new.self.engine.core
    c.args.served.now.engine.collecting c.begin.new.self.engine.collecting c.args.passing.now s.store
    (step_to s (lines.Begin c.in-Begin.name)) c.begin.ensures.logs c.begin.ensures.collecting
    (transaction_keeps_work s.store c.in-Begin.name) stands.passes))

pub returns-in-View-clause-passes : goal.returns-in-View-clause-passes
returns-in-View-clause-passes g c s stands =
    subst (λ (line : Line). OnOk c.view.result
    (PassesIn g.D.Held.HeldFile.bytes c.view.new.self.engine.core c.view.new.self.engine.collecting c.args.passing.now
    (step_to s line).state)) (sym c.in-View.is)
    (on_ok_of c.view.result _
    (passes_behind g.D.Held.HeldFile.bytes c.args.served.now.engine.core c.view.new.self.engine.core
    c.args.served.now.engine.collecting c.view.new.self.engine.collecting c.args.passing.now s.store
    (step_to s (lines.View c.in-View.name)) c.view.ensures.logs c.view.ensures.collecting
    (view_keeps_work s.store c.in-View.name) stands.passes))

pub returns-in-Get-clause-passes : goal.returns-in-Get-clause-passes
returns-in-Get-clause-passes g c s stands =
    subst (λ (line : Line). OnOk c.read.result
    (PassesIn g.D.Held.HeldFile.bytes c.read.new.self.engine.core c.read.new.self.engine.collecting c.args.passing.now
    (step_to s line).state)) (sym c.in-Get.is)
    (on_ok_of c.read.result _
    (passes_behind g.D.Held.HeldFile.bytes c.args.served.now.engine.core c.read.new.self.engine.core
    c.args.served.now.engine.collecting c.read.new.self.engine.collecting c.args.passing.now s.store
    (step_to s (lines.Get c.in-Get.name c.in-Get.key)) (ap (λ e. e.core.version.behind.logs) c.read.ensures.engine)
    (ap (λ e. e.collecting) c.read.ensures.engine)
    (get_keeps_work s.store c.in-Get.name answer_of c.in-Get.key (thing_of s.store c.in-Get.name) refl) stands.passes))

pub returns-in-GetTagged-clause-passes : goal.returns-in-GetTagged-clause-passes
returns-in-GetTagged-clause-passes g c s stands =
    subst (λ (line : Line). OnOk c.read-in-GetTagged.result
    (PassesIn g.D.Held.HeldFile.bytes c.read-in-GetTagged.new.self.engine.core c.read-in-GetTagged.new.self.engine.collecting
    c.args.passing.now
    (step_to s line).state)) (sym c.in-GetTagged.is)
    (on_ok_of c.read-in-GetTagged.result _
    (passes_behind g.D.Held.HeldFile.bytes c.args.served.now.engine.core c.read-in-GetTagged.new.self.engine.core
    c.args.served.now.engine.collecting c.read-in-GetTagged.new.self.engine.collecting c.args.passing.now s.store
    (step_to s (lines.GetTagged c.in-GetTagged.name c.in-GetTagged.key))
    (ap (λ e. e.core.version.behind.logs) c.read-in-GetTagged.ensures.engine) (ap (λ e. e.collecting) c.read-in-GetTagged.ensures.engine)
    (get_keeps_work s.store c.in-GetTagged.name answer_with_tag c.in-GetTagged.key
    (thing_of s.store c.in-GetTagged.name) refl) stands.passes))

pub returns-in-GetAt-clause-passes : goal.returns-in-GetAt-clause-passes
returns-in-GetAt-clause-passes g c s stands =
    subst (λ (line : Line). OnOk c.get_at.result
    (PassesIn g.D.Held.HeldFile.bytes c.get_at.new.self.engine.core c.get_at.new.self.engine.collecting c.args.passing.now
    (step_to s line).state)) (sym c.in-GetAt.is)
    (on_ok_of c.get_at.result _
    (passes_behind g.D.Held.HeldFile.bytes c.args.served.now.engine.core c.get_at.new.self.engine.core
    c.args.served.now.engine.collecting c.get_at.new.self.engine.collecting c.args.passing.now s.store
    (step_to s (lines.GetAt c.in-GetAt.name c.in-GetAt.key c.in-GetAt.number))
    (ap (λ e. e.core.version.behind.logs) c.get_at.ensures.engine) (ap (λ e. e.collecting) c.get_at.ensures.engine)
    (get_at_keeps_work s.store c.in-GetAt.name c.in-GetAt.key c.in-GetAt.number (thing_of s.store c.in-GetAt.name)) stands.passes))

pub returns-in-Set-clause-passes : goal.returns-in-Set-clause-passes
returns-in-Set-clause-passes g c s stands =
    subst (λ (line : Line). OnOk c.write.result
    (PassesIn g.D.Held.HeldFile.bytes c.write.new.self.engine.core c.write.new.self.engine.collecting c.args.passing.now
    (step_to s line).state)) (sym c.in-Set.is)
    (on_ok_of c.write.result _
    (passes_behind g.D.Held.HeldFile.bytes c.args.served.now.engine.core c.write.new.self.engine.core
    c.args.served.now.engine.collecting c.write.new.self.engine.collecting c.args.passing.now s.store
    (step_to s (lines.Set c.in-Set.name c.in-Set.key c.in-Set.value)) (ap (λ e. e.core.version.behind.logs) c.write.ensures.engine)
    (ap (λ e. e.collecting) c.write.ensures.engine)
    (write_keeps_work s.store c.in-Set.name c.in-Set.key (changes.Set (untagged c.in-Set.value))
    (thing_of s.store c.in-Set.name) refl) stands.passes))

pub returns-in-SetTagged-clause-passes : goal.returns-in-SetTagged-clause-passes
returns-in-SetTagged-clause-passes g c s stands =
    subst (λ (line : Line). OnOk c.write-in-SetTagged.result
    (PassesIn g.D.Held.HeldFile.bytes c.write-in-SetTagged.new.self.engine.core c.write-in-SetTagged.new.self.engine.collecting
    c.args.passing.now
    (step_to s line).state)) (sym c.in-SetTagged.is)
    (on_ok_of c.write-in-SetTagged.result _
    (passes_behind g.D.Held.HeldFile.bytes c.args.served.now.engine.core c.write-in-SetTagged.new.self.engine.core
    c.args.served.now.engine.collecting c.write-in-SetTagged.new.self.engine.collecting c.args.passing.now s.store
    (step_to s (lines.SetTagged c.in-SetTagged.name c.in-SetTagged.key c.in-SetTagged.value c.in-SetTagged.tag))
    (ap (λ e. e.core.version.behind.logs) c.write-in-SetTagged.ensures.engine) (ap (λ e. e.collecting) c.write-in-SetTagged.ensures.engine)
    (write_keeps_work s.store c.in-SetTagged.name c.in-SetTagged.key
    (changes.Set (tagged c.in-SetTagged.value c.in-SetTagged.tag)) (thing_of s.store c.in-SetTagged.name) refl) stands.passes))

pub returns-in-Delete-clause-passes : goal.returns-in-Delete-clause-passes
returns-in-Delete-clause-passes g c s stands =
    subst (λ (line : Line). OnOk c.write-in-Delete.result
    (PassesIn g.D.Held.HeldFile.bytes c.write-in-Delete.new.self.engine.core c.write-in-Delete.new.self.engine.collecting c.args.passing.now
    (step_to s line).state)) (sym c.in-Delete.is)
    (on_ok_of c.write-in-Delete.result _
    (passes_behind g.D.Held.HeldFile.bytes c.args.served.now.engine.core c.write-in-Delete.new.self.engine.core
    c.args.served.now.engine.collecting c.write-in-Delete.new.self.engine.collecting c.args.passing.now s.store
    (step_to s (lines.Delete c.in-Delete.name c.in-Delete.key)) (ap (λ e. e.core.version.behind.logs) c.write-in-Delete.ensures.engine)
    (ap (λ e. e.collecting) c.write-in-Delete.ensures.engine)
    (write_keeps_work s.store c.in-Delete.name c.in-Delete.key changes.Delete (thing_of s.store c.in-Delete.name) refl) stands.passes))

pub returns-in-Scan-clause-passes : goal.returns-in-Scan-clause-passes
returns-in-Scan-clause-passes g c s stands =
    subst (λ (line : Line). OnOk c.scan.result
    (PassesIn g.D.Held.HeldFile.bytes c.scan.new.self.engine.core c.scan.new.self.engine.collecting c.args.passing.now
    (step_to s line).state)) (sym c.in-Scan.is)
    (on_ok_of c.scan.result _
    (passes_behind g.D.Held.HeldFile.bytes c.args.served.now.engine.core c.scan.new.self.engine.core
    c.args.served.now.engine.collecting c.scan.new.self.engine.collecting c.args.passing.now s.store
    (step_to s (lines.Scan c.in-Scan.name c.in-Scan.low c.in-Scan.high c.in-Scan.limit c.in-Scan.way))
    (ap (λ e. e.core.version.behind.logs) c.scan.ensures.engine) (ap (λ e. e.collecting) c.scan.ensures.engine)
    (scan_keeps_work s.store c.in-Scan.way c.in-Scan.name c.in-Scan.low c.in-Scan.high c.in-Scan.limit
    (thing_of s.store c.in-Scan.name) refl) stands.passes))

pub returns-in-Commit-clause-passes : goal.returns-in-Commit-clause-passes
returns-in-Commit-clause-passes g c s stands =
    subst (λ (line : Line). OnOk c.commit.result
    (PassesIn g.D.Held.HeldFile.bytes c.commit.new.self.engine.core c.commit.new.self.engine.collecting c.args.passing.now
    (step_to s line).state)) (sym c.in-Commit.is)
    (on_ok_of c.commit.result _
    (passes_behind g.D.Held.HeldFile.bytes c.args.served.now.engine.core c.commit.new.self.engine.core
    c.args.served.now.engine.collecting c.commit.new.self.engine.collecting c.args.passing.now s.store
    (step_to s (lines.Commit c.in-Commit.name)) c.commit.ensures.logs c.commit.ensures.collecting
    (commit_keeps_work s.store c.in-Commit.name (thing_of s.store c.in-Commit.name) refl) stands.passes))

pub returns-in-Keep-clause-passes : goal.returns-in-Keep-clause-passes
returns-in-Keep-clause-passes g c s stands =
    subst (λ (line : Line). OnOk c.keep.result
    (PassesIn g.D.Held.HeldFile.bytes c.keep.new.self.engine.core c.keep.new.self.engine.collecting c.args.passing.now
    (step_to s line).state)) (sym c.in-Keep.is)
    (on_ok_of c.keep.result _
    (passes_behind g.D.Held.HeldFile.bytes c.args.served.now.engine.core c.keep.new.self.engine.core
    c.args.served.now.engine.collecting c.keep.new.self.engine.collecting c.args.passing.now s.store
    (step_to s (lines.Keep c.in-Keep.versions)) c.keep.ensures.logs c.keep.ensures.collecting
    (keep_keeps_work s.store c.in-Keep.versions) stands.passes))

pub returns-in-Drop-clause-passes : goal.returns-in-Drop-clause-passes
returns-in-Drop-clause-passes g c s stands =
    subst (λ (line : Line). PassesIn g.D.Held.HeldFile.bytes c.end.new.served.engine.core c.end.new.served.engine.collecting
    c.end.new.passing (step_to s line).state) (sym c.in-Drop.is)
    (c.end.ensures.passes s stands)

pub returns-in-Rotate-clause-passes : goal.returns-in-Rotate-clause-passes
returns-in-Rotate-clause-passes g c s stands =
    let bytes = g.D.Held.HeldFile.bytes in
    subst (λ (line : Line). OnOk c.rotate.result (PassesIn bytes c.rotate.new.self.engine.core c.rotate.new.self.engine.collecting
    c.args.passing.now (step_to s line).state))
    (sym c.in-Rotate.is)
    (passes_stepped bytes c.args.served.now.engine.core c.rotate.new.self.engine.core c.args.served.now.engine.collecting
    c.rotate.new.self.engine.collecting
    c.args.passing.now s.store (step_to s lines.Rotate) c.rotate.result (rotate_keeps_passes s.store)
    (λ log lasts. rotate_lasts bytes log s.store.layout (history_of s) lasts stands.serves.engine.tidy)
    (c.rotate.ensures.collects s stands.serves stands.passes.collects) stands.passes)

pub returns-in-Flush-clause-passes : goal.returns-in-Flush-clause-passes
returns-in-Flush-clause-passes g c s stands =
    let bytes = g.D.Held.HeldFile.bytes in
    subst (λ (line : Line). OnOk c.flush.result (PassesIn bytes c.flush.new.self.engine.core c.flush.new.self.engine.collecting
    c.args.passing.now (step_to s line).state))
    (sym c.in-Flush.is)
    (passes_stepped bytes c.args.served.now.engine.core c.flush.new.self.engine.core c.args.served.now.engine.collecting
    c.flush.new.self.engine.collecting
    c.args.passing.now s.store (step_to s lines.Flush) c.flush.result (flush_keeps_passes s.store)
    (λ log lasts. flush_lasts bytes log s.store.layout (history_of s) lasts stands.serves.engine.tidy)
    (c.flush.ensures.collects s stands.serves stands.passes.collects) stands.passes)

-- ---- lines of passes

pub returns-in-Stats-clause-makes : goal.returns-in-Stats-clause-makes
returns-in-Stats-clause-makes g c s stands =
    subst (λ (line : Line). MakesStep g.D.Held.HeldFile.bytes (g.D.Watched.told c.args.served.now.engine.disk) c.args.served.now.engine.core
    c.args.served.now.opens.items s (step_to s line) c.stats.result) (sym c.in-Stats.is)
    (c.stats.ensures.makes s c.args.passing.now (passing_of stands))

pub returns-in-Stats-clause-merges : goal.returns-in-Stats-clause-merges
returns-in-Stats-clause-merges g c s stands =
    subst (λ (line : Line). OnOk c.stats.result (MergesIn g.D.Writer.Writer g.D.Held.HeldFile.bytes c.args.served.now.engine.merging
    c.args.planned.now
    (step_to s line).state)) (sym c.in-Stats.is) (on_ok_of c.stats.result _ stands.merges)

pub returns-in-Stats-clause-passes : goal.returns-in-Stats-clause-passes
returns-in-Stats-clause-passes g c s stands =
    subst (λ (line : Line). OnOk c.stats.result (PassesIn g.D.Held.HeldFile.bytes c.args.served.now.engine.core
    c.args.served.now.engine.collecting c.args.passing.now
    (step_to s line).state)) (sym c.in-Stats.is) (on_ok_of c.stats.result _ stands.passes)

pub returns-in-Stats-clause-carries : goal.returns-in-Stats-clause-carries
returns-in-Stats-clause-carries g c s stands =
    subst (λ (line : Line). CarriesOut g.D.Watched IsStored Shown IsStopped c.args.served.now.engine.disk c.args.served.now.engine.disk
    s (state_after s line) c.stats.result) (sym c.in-Stats.is)
    (quiet_carries g.D.Watched (record { only_now = g.met.D.Disk.only_now; counts_now = g.met.D.Disk.counts_now })
    g.D.Held.HeldFile.bytes (g.D.Watched.told c.args.served.now.engine.disk) c.args.served.now.engine.core c.args.served.now.opens.items s
    (step_to s lines.Stats)
    (stats_keeps s.store (answer_to s lines.Stats)) c.stats.result
    (c.stats.ensures.makes s c.args.passing.now (passing_of stands)) (not_by_disk c.stats.result c.stats.ensures.fails)
    c.args.served.now.engine.disk c.args.served.now.engine.disk refl)

pub returns-in-Stats-clause-sound : goal.returns-in-Stats-clause-sound
returns-in-Stats-clause-sound g c s stands halts =
    absurd (not_by_read c.stats.result c.stats.ensures.fails halts)

pub returns-in-Stats-clause-undamaged : goal.returns-in-Stats-clause-undamaged
returns-in-Stats-clause-undamaged g c s stands halts =
    not_by_damage c.stats.result c.stats.ensures.fails halts

pub returns-in-Stats-clause-fault : goal.returns-in-Stats-clause-fault
returns-in-Stats-clause-fault g c s stands halts =
    absurd (not_by_reader c.stats.result c.stats.ensures.fails halts)

pub returns-in-Stats-clause-named : goal.returns-in-Stats-clause-named
returns-in-Stats-clause-named g c s file stands is =
    not_at c.stats.result (not_by_disk c.stats.result c.stats.ensures.fails) file is

pub returns-in-Stats-clause-cause : goal.returns-in-Stats-clause-cause
returns-in-Stats-clause-cause g c =
    no_cause _ _ _ refl (not_by_disk c.stats.result c.stats.ensures.fails)

pub returns-in-Stats-clause-handed : goal.returns-in-Stats-clause-handed
returns-in-Stats-clause-handed g c =
    on_ok_of c.stats.result _ c.requires.handed

pub returns-in-Pick-clause-makes : goal.returns-in-Pick-clause-makes
returns-in-Pick-clause-makes g c s stands =
    subst (λ (line : Line). MakesStep g.D.Held.HeldFile.bytes (g.D.Watched.told c.pick.new.served.engine.disk) c.pick.new.served.engine.core
    c.pick.new.served.opens.items s (step_to s line) c.pick.result) (sym c.in-Pick.is)
    (c.pick.ensures.makes s (passing_of stands) (free_name s c.args.line c.in_default.is (c.in_ok-name.ensures.used s stands)
    (ap name_made c.in-Pick.is)))

pub returns-in-Pick-clause-merges : goal.returns-in-Pick-clause-merges
returns-in-Pick-clause-merges g c s stands =
    subst (λ (line : Line). OnOk c.pick.result (MergesIn g.D.Writer.Writer g.D.Held.HeldFile.bytes c.pick.new.served.engine.merging
    c.args.planned.now
    (step_to s line).state)) (sym c.in-Pick.is)
    (on_ok_of c.pick.result _
    (merges_behind g.D.Writer.Writer g.D.Held.HeldFile.bytes c.args.served.now.engine.merging c.pick.new.served.engine.merging
    c.args.planned.now c.args.planned.now
    c.pick.ensures.merging refl s.store (step_to s (lines.Pick c.in-Pick.name c.in-Pick.percent))
    (pick_keeps_merges s c.in-Pick.name c.in-Pick.percent (free_name s c.args.line c.in_default.is (c.in_ok-name.ensures.used s stands)
    (ap name_made c.in-Pick.is))) stands.merges))

pub returns-in-Pick-clause-passes : goal.returns-in-Pick-clause-passes
returns-in-Pick-clause-passes g c s stands =
    subst (λ (line : Line). OnOk c.pick.result (PassesIn g.D.Held.HeldFile.bytes c.pick.new.served.engine.core
    c.pick.new.served.engine.collecting c.pick.new.passing
    (step_to s line).state)) (sym c.in-Pick.is) (c.pick.ensures.passes s (passing_of stands)
    (free_name s c.args.line c.in_default.is (c.in_ok-name.ensures.used s stands) (ap name_made c.in-Pick.is)))

pub returns-in-Pick-clause-carries : goal.returns-in-Pick-clause-carries
returns-in-Pick-clause-carries g c s stands =
    subst (λ (line : Line). CarriesOut g.D.Watched IsStored Shown IsStopped c.args.served.now.engine.disk c.pick.new.served.engine.disk
    s (state_after s line) c.pick.result) (sym c.in-Pick.is)
    (c.pick.ensures.carries s (passing_of stands) (free_name s c.args.line c.in_default.is (c.in_ok-name.ensures.used s stands)
    (ap name_made c.in-Pick.is)))

pub returns-in-Pick-clause-sound : goal.returns-in-Pick-clause-sound
returns-in-Pick-clause-sound g c s stands halts =
    absurd (not_by_read c.pick.result c.pick.ensures.fails halts)

pub returns-in-Pick-clause-undamaged : goal.returns-in-Pick-clause-undamaged
returns-in-Pick-clause-undamaged g c s stands halts =
    not_by_damage c.pick.result c.pick.ensures.fails halts

pub returns-in-Pick-clause-fault : goal.returns-in-Pick-clause-fault
returns-in-Pick-clause-fault g c s stands halts =
    absurd (not_by_reader c.pick.result c.pick.ensures.fails halts)

pub returns-in-Pick-clause-named : goal.returns-in-Pick-clause-named
returns-in-Pick-clause-named g c s file stands is =
    not_at c.pick.result (not_by_disk c.pick.result c.pick.ensures.fails) file is

pub returns-in-Pick-clause-cause : goal.returns-in-Pick-clause-cause
returns-in-Pick-clause-cause g c =
    no_cause _ _ _ (ap (λ disk. g.D.Watched.faults disk) c.pick.ensures.disk) (not_by_disk c.pick.result c.pick.ensures.fails)

pub returns-in-Pick-clause-handed : goal.returns-in-Pick-clause-handed
returns-in-Pick-clause-handed g c =
    can_same g.D.Watched g.D.Writer.Writer c.args.served.now.engine.disk c.pick.new.served.engine.disk c.args.served.now.engine.merging
    c.pick.new.served.engine.merging c.args.planned.now c.pick.ensures.merging c.pick.result c.pick.ensures.disk c.requires.handed

pub returns-in-Batch-clause-makes : goal.returns-in-Batch-clause-makes
returns-in-Batch-clause-makes g c s stands =
    subst (λ (line : Line). MakesStep g.D.Held.HeldFile.bytes (g.D.Watched.told c.args.served.now.engine.disk) c.args.served.now.engine.core
    c.args.served.now.opens.items s (step_to s line) c.batch.result) (sym c.in-Batch.is)
    (c.batch.ensures.makes s (passing_of stands))

pub returns-in-Batch-clause-merges : goal.returns-in-Batch-clause-merges
returns-in-Batch-clause-merges g c s stands =
    subst (λ (line : Line). OnOk c.batch.result (MergesIn g.D.Writer.Writer g.D.Held.HeldFile.bytes c.args.served.now.engine.merging
    c.args.planned.now
    (step_to s line).state)) (sym c.in-Batch.is)
    (on_ok_of c.batch.result _
    (merges_behind g.D.Writer.Writer g.D.Held.HeldFile.bytes c.args.served.now.engine.merging c.args.served.now.engine.merging
    c.args.planned.now c.args.planned.now
    refl refl s.store (step_to s (lines.Batch c.in-Batch.name))
    (batch_keeps_merges s.store c.in-Batch.name (thing_of s.store c.in-Batch.name) refl) stands.merges))

pub returns-in-Batch-clause-passes : goal.returns-in-Batch-clause-passes
returns-in-Batch-clause-passes g c s stands =
    subst (λ (line : Line). OnOk c.batch.result (PassesIn g.D.Held.HeldFile.bytes c.args.served.now.engine.core
    c.args.served.now.engine.collecting c.batch.new.passing
    (step_to s line).state)) (sym c.in-Batch.is) (c.batch.ensures.passes s (passing_of stands))

pub returns-in-Batch-clause-carries : goal.returns-in-Batch-clause-carries
returns-in-Batch-clause-carries g c s stands =
    subst (λ (line : Line). CarriesOut g.D.Watched IsStored Shown IsStopped c.args.served.now.engine.disk c.args.served.now.engine.disk
    s (state_after s line) c.batch.result) (sym c.in-Batch.is)
    (quiet_carries g.D.Watched (record { only_now = g.met.D.Disk.only_now; counts_now = g.met.D.Disk.counts_now })
    g.D.Held.HeldFile.bytes (g.D.Watched.told c.args.served.now.engine.disk) c.args.served.now.engine.core c.args.served.now.opens.items s
    (step_to s (lines.Batch c.in-Batch.name))
    (batch_keeps s.store c.in-Batch.name (thing_of s.store c.in-Batch.name)) c.batch.result
    (c.batch.ensures.makes s (passing_of stands)) c.batch.ensures.not_the_disk
    c.args.served.now.engine.disk c.args.served.now.engine.disk refl)

pub returns-in-Batch-clause-sound : goal.returns-in-Batch-clause-sound
returns-in-Batch-clause-sound g c s stands halts =
    subst (λ (line : Line). ReadsTables line s) (sym c.in-Batch.is) (c.batch.ensures.sound s (passing_of stands) halts)

pub returns-in-Batch-clause-undamaged : goal.returns-in-Batch-clause-undamaged
returns-in-Batch-clause-undamaged g c s stands =
    c.batch.ensures.undamaged s (passing_of stands)

pub returns-in-Batch-clause-fault : goal.returns-in-Batch-clause-fault
returns-in-Batch-clause-fault g c s stands halts =
    by_the_reader g.D.Reader.Reader.faults g.D.Writer.Writer.faults
    (λ (u : IsUnfailing g.D.Watched g.D.Reader.Reader.faults c.args.served.now). u.gives) (c.batch.ensures.fault halts)

pub returns-in-Batch-clause-cause : goal.returns-in-Batch-clause-cause
returns-in-Batch-clause-cause g c =
    no_cause _ _ _ refl c.batch.ensures.not_the_disk

pub returns-in-Batch-clause-named : goal.returns-in-Batch-clause-named
returns-in-Batch-clause-named g c s file stands is =
    not_at c.batch.result c.batch.ensures.not_the_disk file is

pub returns-in-Batch-clause-handed : goal.returns-in-Batch-clause-handed
returns-in-Batch-clause-handed g c =
    on_ok_of c.batch.result _ c.requires.handed

pub returns-in-Move-clause-makes : goal.returns-in-Move-clause-makes
returns-in-Move-clause-makes g c s stands =
    subst (λ (line : Line). MakesStep g.D.Held.HeldFile.bytes (g.D.Watched.told c.move_batch.new.served.engine.disk)
    c.move_batch.new.served.engine.core
    c.move_batch.new.served.opens.items s (step_to s line) c.move_batch.result) (sym c.in-Move.is)
    (c.move_batch.ensures.makes s (passing_of stands))

pub returns-in-Move-clause-merges : goal.returns-in-Move-clause-merges
returns-in-Move-clause-merges g c s stands =
    subst (λ (line : Line). OnOk c.move_batch.result
    (MergesIn g.D.Writer.Writer g.D.Held.HeldFile.bytes c.move_batch.new.served.engine.merging c.args.planned.now (step_to s line).state))
    (sym c.in-Move.is)
    (merges_answered g.D.Writer.Writer g.D.Held.HeldFile.bytes c.move_batch.result c.args.served.now.engine.merging
    c.move_batch.new.served.engine.merging c.args.planned.now
    s.store (step_to s (lines.Move c.in-Move.name)) (move_tells s.store c.in-Move.name (thing_of s.store c.in-Move.name) refl)
    (c.move_batch.ensures.opens s (passing_of stands)) stands.merges)

pub returns-in-Move-clause-passes : goal.returns-in-Move-clause-passes
returns-in-Move-clause-passes g c s stands =
    subst (λ (line : Line). OnOk c.move_batch.result
    (PassesIn g.D.Held.HeldFile.bytes c.move_batch.new.served.engine.core c.move_batch.new.served.engine.collecting c.move_batch.new.passing
    (step_to s line).state)) (sym c.in-Move.is)
    (c.move_batch.ensures.passes s (passing_of stands))

pub returns-in-Move-clause-carries : goal.returns-in-Move-clause-carries
returns-in-Move-clause-carries g c s stands =
    subst (λ (line : Line). CarriesOut g.D.Watched IsStored Shown IsStopped c.args.served.now.engine.disk
    c.move_batch.new.served.engine.disk
    s (state_after s line) c.move_batch.result) (sym c.in-Move.is) (c.move_batch.ensures.carries s (passing_of stands))

pub returns-in-Move-clause-sound : goal.returns-in-Move-clause-sound
returns-in-Move-clause-sound g c s stands halts =
    subst (λ (line : Line). ReadsTables line s) (sym c.in-Move.is) (c.move_batch.ensures.sound s (passing_of stands) halts)

pub returns-in-Move-clause-undamaged : goal.returns-in-Move-clause-undamaged
returns-in-Move-clause-undamaged g c s stands =
    c.move_batch.ensures.undamaged s (passing_of stands)

pub returns-in-Move-clause-fault : goal.returns-in-Move-clause-fault
returns-in-Move-clause-fault g c s stands halts =
    by_the_reader g.D.Reader.Reader.faults g.D.Writer.Writer.faults
    (λ (u : IsUnfailing g.D.Watched g.D.Reader.Reader.faults c.args.served.now). u.gives)
    (c.move_batch.ensures.fault s (passing_of stands) halts)

pub returns-in-Move-clause-named : goal.returns-in-Move-clause-named
returns-in-Move-clause-named g c s file stands is =
    subst (λ (line : Line). FailsAt c.args.served.now.engine.core.back.manifest.number line s file) (sym c.in-Move.is)
    (c.move_batch.ensures.named s file (passing_of stands) is)

pub returns-in-Move-clause-handed : goal.returns-in-Move-clause-handed
returns-in-Move-clause-handed g c =
    can_moved g.D.Watched g.D.Writer.Writer c.args.served.now.engine.disk c.move_batch.new.served.engine.disk
    c.args.served.now.engine.merging
    c.move_batch.new.served.engine.merging c.args.planned.now c.move_batch.ensures.merging c.move_batch.result c.move_batch.ensures.untold
    c.requires.handed

-- ---- what the engine keeps of which files can go

pub returns-in-Some-clause-removes : goal.returns-in-Some-clause-removes
returns-in-Some-clause-removes g c s stands =
    let engine = c.args.served.now.engine in
    subst (λ (x : Step). Removes engine.core engine.removing x.state.layout)
    (sym (taken_step s c.args.line c.in-Some.name (used_line s c.args.line c.in-Some.is (c.in_ok-name.ensures.used s stands))))
    stands.removes

pub returns-in-Begin-clause-removes : goal.returns-in-Begin-clause-removes
returns-in-Begin-clause-removes g c s stands =
    subst (λ (line : Line). OnOk c.begin.result (RemovesIn c.begin.new.self (step_to s line).state)) (sym c.in-Begin.is)
    (c.begin.ensures.removes s stands.serves (free_name s c.args.line c.in_default.is (c.in_ok-name.ensures.used s stands)
    (ap name_made c.in-Begin.is)) stands.removes)

pub returns-in-View-clause-removes : goal.returns-in-View-clause-removes
returns-in-View-clause-removes g c s stands =
    subst (λ (line : Line). OnOk c.view.result (RemovesIn c.view.new.self (step_to s line).state)) (sym c.in-View.is)
    (c.view.ensures.removes s stands.serves (free_name s c.args.line c.in_default.is (c.in_ok-name.ensures.used s stands)
    (ap name_made c.in-View.is)) stands.removes)

pub returns-in-Get-clause-removes : goal.returns-in-Get-clause-removes
returns-in-Get-clause-removes g c s stands =
    subst (λ (line : Line). OnOk c.read.result (RemovesIn c.read.new.self (step_to s line).state)) (sym c.in-Get.is)
    (on_ok_of c.read.result _
    (subst (λ (e : _). Removes e.core e.removing (step_to s (lines.Get c.in-Get.name c.in-Get.key)).state.layout) (sym
    c.read.ensures.engine)
    (subst (Removes c.args.served.now.engine.core c.args.served.now.engine.removing) (sym (get_quiet s.store c.in-Get.name answer_of
    c.in-Get.key (thing_of s.store c.in-Get.name)).layout) stands.removes)))

pub returns-in-GetTagged-clause-removes : goal.returns-in-GetTagged-clause-removes
returns-in-GetTagged-clause-removes g c s stands =
    subst (λ (line : Line). OnOk c.read-in-GetTagged.result (RemovesIn c.read-in-GetTagged.new.self (step_to s line).state)) (sym
    c.in-GetTagged.is)
    (on_ok_of c.read-in-GetTagged.result _
    (subst (λ (e : _). Removes e.core e.removing (step_to s (lines.GetTagged c.in-GetTagged.name c.in-GetTagged.key)).state.layout)
    (sym c.read-in-GetTagged.ensures.engine)
    (subst (Removes c.args.served.now.engine.core c.args.served.now.engine.removing) (sym (get_quiet s.store c.in-GetTagged.name
    answer_with_tag c.in-GetTagged.key (thing_of s.store c.in-GetTagged.name)).layout) stands.removes)))

pub returns-in-GetAt-clause-removes : goal.returns-in-GetAt-clause-removes
returns-in-GetAt-clause-removes g c s stands =
    subst (λ (line : Line). OnOk c.get_at.result (RemovesIn c.get_at.new.self (step_to s line).state)) (sym c.in-GetAt.is)
    (on_ok_of c.get_at.result _
    (subst (λ (e : _). Removes e.core e.removing (step_to s (lines.GetAt c.in-GetAt.name c.in-GetAt.key
    c.in-GetAt.number)).state.layout) (sym c.get_at.ensures.engine)
    (subst (Removes c.args.served.now.engine.core c.args.served.now.engine.removing) (sym (get_at_quiet s.store c.in-GetAt.name
    c.in-GetAt.key c.in-GetAt.number (thing_of s.store c.in-GetAt.name)).layout) stands.removes)))

pub returns-in-Set-clause-removes : goal.returns-in-Set-clause-removes
returns-in-Set-clause-removes g c s stands =
    subst (λ (line : Line). OnOk c.write.result (RemovesIn c.write.new.self (step_to s line).state)) (sym c.in-Set.is)
    (on_ok_of c.write.result _
    (subst (λ (e : _). Removes e.core e.removing (step_to s (lines.Set c.in-Set.name c.in-Set.key c.in-Set.value)).state.layout) (sym
    c.write.ensures.engine)
    (subst (Removes c.args.served.now.engine.core c.args.served.now.engine.removing) (sym (write_quiet s.store c.in-Set.name
    c.in-Set.key (changes.Set (untagged c.in-Set.value)) (thing_of s.store c.in-Set.name)).layout) stands.removes)))

pub returns-in-SetTagged-clause-removes : goal.returns-in-SetTagged-clause-removes
returns-in-SetTagged-clause-removes g c s stands =
    subst (λ (line : Line). OnOk c.write-in-SetTagged.result (RemovesIn c.write-in-SetTagged.new.self (step_to s line).state)) (sym
    c.in-SetTagged.is)
    (on_ok_of c.write-in-SetTagged.result _
    (subst (λ (e : _). Removes e.core e.removing (step_to s (lines.SetTagged c.in-SetTagged.name c.in-SetTagged.key
    c.in-SetTagged.value c.in-SetTagged.tag)).state.layout) (sym c.write-in-SetTagged.ensures.engine)
    (subst (Removes c.args.served.now.engine.core c.args.served.now.engine.removing) (sym (write_quiet s.store c.in-SetTagged.name
    c.in-SetTagged.key
    (changes.Set (tagged c.in-SetTagged.value c.in-SetTagged.tag)) (thing_of s.store c.in-SetTagged.name)).layout) stands.removes)))

pub returns-in-Delete-clause-removes : goal.returns-in-Delete-clause-removes
returns-in-Delete-clause-removes g c s stands =
    subst (λ (line : Line). OnOk c.write-in-Delete.result (RemovesIn c.write-in-Delete.new.self (step_to s line).state)) (sym
    c.in-Delete.is)
    (on_ok_of c.write-in-Delete.result _
    (subst (λ (e : _). Removes e.core e.removing (step_to s (lines.Delete c.in-Delete.name c.in-Delete.key)).state.layout) (sym
    c.write-in-Delete.ensures.engine)
    (subst (Removes c.args.served.now.engine.core c.args.served.now.engine.removing) (sym (write_quiet s.store c.in-Delete.name
    c.in-Delete.key changes.Delete (thing_of s.store c.in-Delete.name)).layout) stands.removes)))

pub returns-in-Scan-clause-removes : goal.returns-in-Scan-clause-removes
returns-in-Scan-clause-removes g c s stands =
    subst (λ (line : Line). OnOk c.scan.result (RemovesIn c.scan.new.self (step_to s line).state)) (sym c.in-Scan.is)
    (on_ok_of c.scan.result _
    (subst (λ (e : _). Removes e.core e.removing (step_to s (lines.Scan c.in-Scan.name c.in-Scan.low c.in-Scan.high c.in-Scan.limit
    c.in-Scan.way)).state.layout) (sym c.scan.ensures.engine)
    (subst (Removes c.args.served.now.engine.core c.args.served.now.engine.removing) (sym (scan_quiet s.store c.in-Scan.way
    c.in-Scan.name c.in-Scan.low c.in-Scan.high c.in-Scan.limit
    (thing_of s.store c.in-Scan.name)).layout) stands.removes)))

pub returns-in-Commit-clause-removes : goal.returns-in-Commit-clause-removes
returns-in-Commit-clause-removes g c s stands =
    subst (λ (line : Line). OnOk c.commit.result (RemovesIn c.commit.new.self (step_to s line).state)) (sym c.in-Commit.is)
    (c.commit.ensures.removes s stands.serves stands.removes)

pub returns-in-Keep-clause-removes : goal.returns-in-Keep-clause-removes
returns-in-Keep-clause-removes g c s stands =
    subst (λ (line : Line). OnOk c.keep.result (RemovesIn c.keep.new.self (step_to s line).state)) (sym c.in-Keep.is)
    (c.keep.ensures.removes s stands.serves stands.removes)

pub returns-in-Rotate-clause-removes : goal.returns-in-Rotate-clause-removes
returns-in-Rotate-clause-removes g c s stands =
    subst (λ (line : Line). OnOk c.rotate.result (RemovesIn c.rotate.new.self (step_to s line).state)) (sym c.in-Rotate.is)
    (c.rotate.ensures.removes s (removing_of stands))

pub returns-in-Flush-clause-removes : goal.returns-in-Flush-clause-removes
returns-in-Flush-clause-removes g c s stands =
    subst (λ (line : Line). OnOk c.flush.result (RemovesIn c.flush.new.self (step_to s line).state)) (sym c.in-Flush.is)
    (c.flush.ensures.removes s (removing_of stands) stands.passes.collects)

pub returns-in-Plan-clause-removes : goal.returns-in-Plan-clause-removes
returns-in-Plan-clause-removes g c s stands =
    subst (λ (line : Line). OnOk c.plan.result (RemovesIn c.plan.new.served (step_to s line).state)) (sym c.in-Plan.is)
    (c.plan.ensures.removes s (merging_of stands) (free_name s c.args.line c.in_default.is (c.in_ok-name.ensures.used s stands)
    (ap name_made c.in-Plan.is)) stands.removes)

pub returns-in-Drain-clause-removes : goal.returns-in-Drain-clause-removes
returns-in-Drain-clause-removes g c s stands =
    subst (λ (line : Line). OnOk c.plan-in-Drain.result (RemovesIn c.plan-in-Drain.new.served (step_to s line).state)) (sym c.in-Drain.is)
    (c.plan-in-Drain.ensures.removes s (merging_of stands) (free_name s c.args.line c.in_default.is (c.in_ok-name.ensures.used s stands)
    (ap name_made c.in-Drain.is)) stands.removes)

pub returns-in-Install-clause-removes : goal.returns-in-Install-clause-removes
returns-in-Install-clause-removes g c s stands =
    subst (λ (line : Line). OnOk c.install.result (RemovesIn c.install.new.served (step_to s line).state)) (sym c.in-Install.is)
    (c.install.ensures.removes s (merging_of stands) stands.passes.collects stands.removes)

pub returns-in-Pick-clause-removes : goal.returns-in-Pick-clause-removes
returns-in-Pick-clause-removes g c s stands =
    subst (λ (line : Line). OnOk c.pick.result (RemovesIn c.pick.new.served (step_to s line).state)) (sym c.in-Pick.is)
    (c.pick.ensures.removes s (passing_of stands) (free_name s c.args.line c.in_default.is (c.in_ok-name.ensures.used s stands)
    (ap name_made c.in-Pick.is)) stands.removes)

pub returns-in-Stats-clause-removes : goal.returns-in-Stats-clause-removes
returns-in-Stats-clause-removes g c s stands =
    subst (λ (line : Line). OnOk c.stats.result (RemovesIn c.args.served.now (step_to s line).state)) (sym c.in-Stats.is)
    (on_ok_of c.stats.result _ stands.removes)

pub returns-in-Batch-clause-removes : goal.returns-in-Batch-clause-removes
returns-in-Batch-clause-removes g c s stands =
    subst (λ (line : Line). OnOk c.batch.result (RemovesIn c.args.served.now (step_to s line).state)) (sym c.in-Batch.is)
    (on_ok_of c.batch.result _ (subst (Removes c.args.served.now.engine.core c.args.served.now.engine.removing)
    (sym (batch_layout s.store c.in-Batch.name (thing_of s.store c.in-Batch.name))) stands.removes))

pub returns-in-Move-clause-removes : goal.returns-in-Move-clause-removes
returns-in-Move-clause-removes g c s stands =
    subst (λ (line : Line). OnOk c.move_batch.result (RemovesIn c.move_batch.new.served (step_to s line).state)) (sym c.in-Move.is)
    (c.move_batch.ensures.removes s (passing_of stands) stands.removes)

pub returns-in-Drop-clause-removes : goal.returns-in-Drop-clause-removes
returns-in-Drop-clause-removes g c s stands =
    subst (λ (line : Line). RemovesIn c.end.new.served (step_to s line).state)
    (sym c.in-Drop.is) (c.end.ensures.removes s stands)

-- ---- sweeps

pub returns-in-Sweep-clause-makes : goal.returns-in-Sweep-clause-makes
returns-in-Sweep-clause-makes g c s stands =
    subst (λ (line : Line). MakesStep g.D.Held.HeldFile.bytes (g.D.Watched.told c.sweep.new.self.engine.disk)
    c.sweep.new.self.engine.core c.sweep.new.self.opens.items s (step_to s line) c.sweep.result)
    (sym c.in-Sweep.is) (c.sweep.ensures.makes s (removing_of stands))

pub returns-in-Sweep-clause-merges : goal.returns-in-Sweep-clause-merges
returns-in-Sweep-clause-merges g c s stands =
    subst (λ (line : Line). OnOk c.sweep.result
    (MergesIn g.D.Writer.Writer g.D.Held.HeldFile.bytes c.sweep.new.self.engine.merging c.args.planned.now
    (step_to s line).state)) (sym c.in-Sweep.is)
    (on_ok_of c.sweep.result _
    (merges_behind g.D.Writer.Writer g.D.Held.HeldFile.bytes c.args.served.now.engine.merging
    c.sweep.new.self.engine.merging c.args.planned.now c.args.planned.now
    c.sweep.ensures.merging refl s.store (step_to s lines.Sweep) (sweep_keeps_merges s.store) stands.merges))

pub returns-in-Sweep-clause-passes : goal.returns-in-Sweep-clause-passes
returns-in-Sweep-clause-passes g c s stands =
    let bytes = g.D.Held.HeldFile.bytes in
    subst (λ (line : Line). OnOk c.sweep.result (PassesIn bytes c.sweep.new.self.engine.core c.sweep.new.self.engine.collecting
    c.args.passing.now (step_to s line).state))
    (sym c.in-Sweep.is)
    (passes_stepped bytes c.args.served.now.engine.core c.sweep.new.self.engine.core c.args.served.now.engine.collecting
    c.sweep.new.self.engine.collecting
    c.args.passing.now s.store (step_to s lines.Sweep) c.sweep.result (sweep_keeps_passes s.store)
    (λ log lasts. sweep_lasts bytes log s.store.layout (history_of s) lasts)
    (c.sweep.ensures.collects s (removing_of stands) stands.passes.collects) stands.passes)

pub returns-in-Sweep-clause-removes : goal.returns-in-Sweep-clause-removes
returns-in-Sweep-clause-removes g c s stands =
    subst (λ (line : Line). OnOk c.sweep.result (RemovesIn c.sweep.new.self (step_to s line).state)) (sym c.in-Sweep.is)
    (c.sweep.ensures.removes s (removing_of stands))

pub returns-in-Sweep-clause-carries : goal.returns-in-Sweep-clause-carries
returns-in-Sweep-clause-carries g c s stands =
    subst (λ (line : Line). CarriesOut g.D.Watched IsStored Shown IsStopped c.args.served.now.engine.disk
    c.sweep.new.self.engine.disk s (state_after s line) c.sweep.result)
    (sym c.in-Sweep.is) (c.sweep.ensures.carries s (removing_of stands))

pub returns-in-Sweep-clause-sound : goal.returns-in-Sweep-clause-sound
returns-in-Sweep-clause-sound g c s stands halts = absurd (c.sweep.ensures.sound s (removing_of stands) halts)

pub returns-in-Sweep-clause-undamaged : goal.returns-in-Sweep-clause-undamaged
returns-in-Sweep-clause-undamaged g c s stands halts =
    c.sweep.ensures.sound s (removing_of stands) (damage_is_read c.sweep.result halts)

pub returns-in-Sweep-clause-fault : goal.returns-in-Sweep-clause-fault
returns-in-Sweep-clause-fault g c s stands halts =
    absurd (c.sweep.ensures.sound s (removing_of stands) (reader_is_read c.sweep.result halts))

pub returns-in-Sweep-clause-named : goal.returns-in-Sweep-clause-named
returns-in-Sweep-clause-named g c s file stands is =
    subst (λ (line : Line). FailsAt c.args.served.now.engine.core.back.manifest.number line s file) (sym c.in-Sweep.is)
    (c.sweep.ensures.named s file (removing_of stands) is)

pub returns-in-Sweep-clause-handed : goal.returns-in-Sweep-clause-handed
returns-in-Sweep-clause-handed g c =
    can_answered g.D.Watched g.D.Writer.Writer c.args.served.now.engine.disk c.sweep.new.self.engine.disk
    c.args.served.now.engine.merging c.sweep.new.self.engine.merging c.args.planned.now
    c.sweep.ensures.merging c.sweep.result c.sweep.ensures.untold c.requires.handed

-- ---- what a line is answered, whatever the disk holds

err_not_ok : {T E : Type 0} (r : Result T E) (why : E) (x : T) → r ≡ Err why → r ≡ Ok x → ⊥
err_not_ok r why x is same = cc

some_not_none : {T E : Type 0} (r : Result (Option T) E) (v : Option T) (x : T) → r ≡ Ok v → v ≡ Some x → r ≡ Ok None → ⊥
some_not_none r v x was is same = cc

pub returns-in_err-name-clause-as_called : goal.returns-in_err-name-clause-as_called
returns-in_err-name-clause-as_called g c =
    named_answers g.D.Watched g.D.Held.HeldFile.bytes g.D.Reader.Reader.faults g.D.Writer.Writer c.args.served.now c.args.served.now c.args.passing.now
    c.from_residual.result (err_reads_well c.from_residual.result c.from_residual.ensures.1)
    (λ idle. ok_not_err c.from_residual.result (ap is_ok idle) c.from_residual.ensures.0) c.args.line
    (λ none. err_not_ok c.name_in_use.result _ None c.in_err-name.was (c.name_in_use.ensures.unnamed none))

pub returns-in-Some-clause-as_called : goal.returns-in-Some-clause-as_called
returns-in-Some-clause-as_called g c =
    named_answers g.D.Watched g.D.Held.HeldFile.bytes g.D.Reader.Reader.faults g.D.Writer.Writer c.args.served.now c.args.served.now c.args.passing.now
    (Ok (answers.Taken c.in-Some.name)) tt (λ idle. cc) c.args.line
    (λ none. some_not_none c.name_in_use.result _ c.in-Some.name c.in_ok-name.was c.in-Some.is (c.name_in_use.ensures.unnamed none))

pub returns-in-Begin-clause-as_called : goal.returns-in-Begin-clause-as_called
returns-in-Begin-clause-as_called g c =
    subst (λ (line : Line). AnswersLine g.D.Watched g.D.Held.HeldFile.bytes g.D.Reader.Reader.faults g.D.Writer.Writer c.args.served.now
    c.begin.new.self c.args.passing.now line c.begin.result) (sym c.in-Begin.is)
    (out_reads_well c.begin.result c.begin.ensures.fails)

pub returns-in-View-clause-as_called : goal.returns-in-View-clause-as_called
returns-in-View-clause-as_called g c =
    subst (λ (line : Line). AnswersLine g.D.Watched g.D.Held.HeldFile.bytes g.D.Reader.Reader.faults g.D.Writer.Writer c.args.served.now
    c.view.new.self c.args.passing.now line c.view.result) (sym c.in-View.is)
    (out_reads_well c.view.result c.view.ensures.fails)

pub returns-in-Get-clause-as_called : goal.returns-in-Get-clause-as_called
returns-in-Get-clause-as_called g c =
    subst (λ (line : Line). AnswersLine g.D.Watched g.D.Held.HeldFile.bytes g.D.Reader.Reader.faults g.D.Writer.Writer c.args.served.now
    c.read.new.self c.args.passing.now line c.read.result) (sym c.in-Get.is)
    c.read.ensures.as_called

pub returns-in-GetTagged-clause-as_called : goal.returns-in-GetTagged-clause-as_called
returns-in-GetTagged-clause-as_called g c =
    subst (λ (line : Line). AnswersLine g.D.Watched g.D.Held.HeldFile.bytes g.D.Reader.Reader.faults g.D.Writer.Writer c.args.served.now
    c.read-in-GetTagged.new.self c.args.passing.now line c.read-in-GetTagged.result) (sym c.in-GetTagged.is)
    c.read-in-GetTagged.ensures.as_called

pub returns-in-GetAt-clause-as_called : goal.returns-in-GetAt-clause-as_called
returns-in-GetAt-clause-as_called g c =
    subst (λ (line : Line). AnswersLine g.D.Watched g.D.Held.HeldFile.bytes g.D.Reader.Reader.faults g.D.Writer.Writer c.args.served.now
    c.get_at.new.self c.args.passing.now line c.get_at.result) (sym c.in-GetAt.is)
    c.get_at.ensures.as_called

pub returns-in-Set-clause-as_called : goal.returns-in-Set-clause-as_called
returns-in-Set-clause-as_called g c =
    subst (λ (line : Line). AnswersLine g.D.Watched g.D.Held.HeldFile.bytes g.D.Reader.Reader.faults g.D.Writer.Writer c.args.served.now
    c.write.new.self c.args.passing.now line c.write.result) (sym c.in-Set.is)
    (out_reads_well c.write.result c.write.ensures.fails)

pub returns-in-SetTagged-clause-as_called : goal.returns-in-SetTagged-clause-as_called
returns-in-SetTagged-clause-as_called g c =
    subst (λ (line : Line). AnswersLine g.D.Watched g.D.Held.HeldFile.bytes g.D.Reader.Reader.faults g.D.Writer.Writer c.args.served.now
    c.write-in-SetTagged.new.self c.args.passing.now line c.write-in-SetTagged.result) (sym c.in-SetTagged.is)
    (out_reads_well c.write-in-SetTagged.result c.write-in-SetTagged.ensures.fails)

pub returns-in-Delete-clause-as_called : goal.returns-in-Delete-clause-as_called
returns-in-Delete-clause-as_called g c =
    subst (λ (line : Line). AnswersLine g.D.Watched g.D.Held.HeldFile.bytes g.D.Reader.Reader.faults g.D.Writer.Writer c.args.served.now
    c.write-in-Delete.new.self c.args.passing.now line c.write-in-Delete.result) (sym c.in-Delete.is)
    (out_reads_well c.write-in-Delete.result c.write-in-Delete.ensures.fails)

pub returns-in-Scan-clause-as_called : goal.returns-in-Scan-clause-as_called
returns-in-Scan-clause-as_called g c =
    subst (λ (line : Line). AnswersLine g.D.Watched g.D.Held.HeldFile.bytes g.D.Reader.Reader.faults g.D.Writer.Writer c.args.served.now
    c.scan.new.self c.args.passing.now line c.scan.result) (sym c.in-Scan.is)
    c.scan.ensures.as_called

pub returns-in-Commit-clause-as_called : goal.returns-in-Commit-clause-as_called
returns-in-Commit-clause-as_called g c =
    subst (λ (line : Line). AnswersLine g.D.Watched g.D.Held.HeldFile.bytes g.D.Reader.Reader.faults g.D.Writer.Writer c.args.served.now
    c.commit.new.self c.args.passing.now line c.commit.result) (sym c.in-Commit.is)
    c.commit.ensures.reads_well

pub returns-in-Rotate-clause-as_called : goal.returns-in-Rotate-clause-as_called
returns-in-Rotate-clause-as_called g c =
    subst (λ (line : Line). AnswersLine g.D.Watched g.D.Held.HeldFile.bytes g.D.Reader.Reader.faults g.D.Writer.Writer c.args.served.now
    c.rotate.new.self c.args.passing.now line c.rotate.result) (sym c.in-Rotate.is)
    c.rotate.ensures.reads_well

pub returns-in-Flush-clause-as_called : goal.returns-in-Flush-clause-as_called
returns-in-Flush-clause-as_called g c =
    subst (λ (line : Line). AnswersLine g.D.Watched g.D.Held.HeldFile.bytes g.D.Reader.Reader.faults g.D.Writer.Writer c.args.served.now
    c.flush.new.self c.args.passing.now line c.flush.result) (sym c.in-Flush.is)
    c.flush.ensures.reads_well

pub returns-in-Keep-clause-as_called : goal.returns-in-Keep-clause-as_called
returns-in-Keep-clause-as_called g c =
    subst (λ (line : Line). AnswersLine g.D.Watched g.D.Held.HeldFile.bytes g.D.Reader.Reader.faults g.D.Writer.Writer c.args.served.now
    c.keep.new.self c.args.passing.now line c.keep.result) (sym c.in-Keep.is)
    c.keep.ensures.reads_well

pub returns-in-Sweep-clause-as_called : goal.returns-in-Sweep-clause-as_called
returns-in-Sweep-clause-as_called g c =
    subst (λ (line : Line). AnswersLine g.D.Watched g.D.Held.HeldFile.bytes g.D.Reader.Reader.faults g.D.Writer.Writer c.args.served.now
    c.sweep.new.self c.args.passing.now line c.sweep.result) (sym c.in-Sweep.is)
    c.sweep.ensures.reads_well

pub returns-in-Install-clause-as_called : goal.returns-in-Install-clause-as_called
returns-in-Install-clause-as_called g c =
    subst (λ (line : Line). AnswersLine g.D.Watched g.D.Held.HeldFile.bytes g.D.Reader.Reader.faults g.D.Writer.Writer c.args.served.now
    c.install.new.served c.args.passing.now line c.install.result) (sym c.in-Install.is)
    c.install.ensures.reads_well

pub returns-in-Plan-clause-as_called : goal.returns-in-Plan-clause-as_called
returns-in-Plan-clause-as_called g c =
    subst (λ (line : Line). AnswersLine g.D.Watched g.D.Held.HeldFile.bytes g.D.Reader.Reader.faults g.D.Writer.Writer c.args.served.now
    c.plan.new.served c.args.passing.now line c.plan.result) (sym c.in-Plan.is)
    c.plan.ensures.as_called

pub returns-in-Drain-clause-as_called : goal.returns-in-Drain-clause-as_called
returns-in-Drain-clause-as_called g c =
    subst (λ (line : Line). AnswersLine g.D.Watched g.D.Held.HeldFile.bytes g.D.Reader.Reader.faults g.D.Writer.Writer c.args.served.now
    c.plan-in-Drain.new.served c.args.passing.now line c.plan-in-Drain.result) (sym c.in-Drain.is)
    c.plan-in-Drain.ensures.as_called

pub returns-in-Pick-clause-as_called : goal.returns-in-Pick-clause-as_called
returns-in-Pick-clause-as_called g c =
    subst (λ (line : Line). AnswersLine g.D.Watched g.D.Held.HeldFile.bytes g.D.Reader.Reader.faults g.D.Writer.Writer c.args.served.now
    c.pick.new.served c.args.passing.now line c.pick.result) (sym c.in-Pick.is)
    (out_reads_well c.pick.result c.pick.ensures.fails)

pub returns-in-Move-clause-as_called : goal.returns-in-Move-clause-as_called
returns-in-Move-clause-as_called g c =
    subst (λ (line : Line). AnswersLine g.D.Watched g.D.Held.HeldFile.bytes g.D.Reader.Reader.faults g.D.Writer.Writer c.args.served.now
    c.move_batch.new.served c.args.passing.now line c.move_batch.result) (sym c.in-Move.is)
    c.move_batch.ensures.as_called

pub returns-in-Drop-clause-as_called : goal.returns-in-Drop-clause-as_called
returns-in-Drop-clause-as_called g c =
    subst (λ (line : Line). AnswersLine g.D.Watched g.D.Held.HeldFile.bytes g.D.Reader.Reader.faults g.D.Writer.Writer c.args.served.now
    c.end.new.served c.args.passing.now line (Ok c.end.result)) (sym c.in-Drop.is)
    tt

pub returns-in-Stats-clause-as_called : goal.returns-in-Stats-clause-as_called
returns-in-Stats-clause-as_called g c =
    subst (λ (line : Line). AnswersLine g.D.Watched g.D.Held.HeldFile.bytes g.D.Reader.Reader.faults g.D.Writer.Writer c.args.served.now
    c.args.served.now c.args.passing.now line c.stats.result) (sym c.in-Stats.is)
    (out_reads_well c.stats.result c.stats.ensures.fails)

pub returns-in-Batch-clause-as_called : goal.returns-in-Batch-clause-as_called
returns-in-Batch-clause-as_called g c =
    subst (λ (line : Line). AnswersLine g.D.Watched g.D.Held.HeldFile.bytes g.D.Reader.Reader.faults g.D.Writer.Writer c.args.served.now
    c.args.served.now c.args.passing.now line c.batch.result) (sym c.in-Batch.is)
    c.batch.ensures.as_called

-- ---- where nothing was to fail beside the disk, nothing is

if_ok : {T E : Type 0} (r : Result T E) (P Q : Type 0) → (P → Q) → OnOk r P → OnOk r Q
if_ok (Ok x) P Q so p = so p
if_ok (Err e) P Q so p = tt

pub returns-in-Some-clause-sure : goal.returns-in-Some-clause-sure
returns-in-Some-clause-sure g c s stands was = was

pub returns-in-Begin-clause-sure : goal.returns-in-Begin-clause-sure
returns-in-Begin-clause-sure g c s stands was =
    if_ok c.begin.result _ _
    (λ reads. record {
      gives = same_steady g.D.Watched c.args.served.now.engine.disk c.begin.new.self.engine.disk c.begin.ensures.disk was.gives;
      reads = reads;
    })
    (c.begin.ensures.sure s stands.serves (free_name s c.args.line c.in_default.is (c.in_ok-name.ensures.used s stands)
    (ap name_made c.in-Begin.is)) was)

pub returns-in-View-clause-sure : goal.returns-in-View-clause-sure
returns-in-View-clause-sure g c s stands was =
    if_ok c.view.result _ _
    (λ reads. record {
      gives = same_steady g.D.Watched c.args.served.now.engine.disk c.view.new.self.engine.disk c.view.ensures.disk was.gives;
      reads = reads;
    })
    (c.view.ensures.sure s stands.serves (free_name s c.args.line c.in_default.is (c.in_ok-name.ensures.used s stands)
    (ap name_made c.in-View.is)) was)

pub returns-in-Get-clause-sure : goal.returns-in-Get-clause-sure
returns-in-Get-clause-sure g c s stands was = on_ok_of c.read.result _ (record {
  gives = same_steady g.D.Watched c.args.served.now.engine.disk c.read.new.self.engine.disk
      (ap (λ e. e.disk) c.read.ensures.engine) was.gives;
  reads = c.read.ensures.sure s stands.serves was.reads;
})

pub returns-in-GetTagged-clause-sure : goal.returns-in-GetTagged-clause-sure
returns-in-GetTagged-clause-sure g c s stands was = on_ok_of c.read-in-GetTagged.result _ (record {
  gives = same_steady g.D.Watched c.args.served.now.engine.disk c.read-in-GetTagged.new.self.engine.disk
      (ap (λ e. e.disk) c.read-in-GetTagged.ensures.engine) was.gives;
  reads = c.read-in-GetTagged.ensures.sure s stands.serves was.reads;
})

pub returns-in-GetAt-clause-sure : goal.returns-in-GetAt-clause-sure
returns-in-GetAt-clause-sure g c s stands was = on_ok_of c.get_at.result _ (record {
  gives = same_steady g.D.Watched c.args.served.now.engine.disk c.get_at.new.self.engine.disk
      (ap (λ e. e.disk) c.get_at.ensures.engine) was.gives;
  reads = c.get_at.ensures.sure s stands.serves was.reads;
})

pub returns-in-Set-clause-sure : goal.returns-in-Set-clause-sure
returns-in-Set-clause-sure g c s stands was = on_ok_of c.write.result _ (record {
  gives = same_steady g.D.Watched c.args.served.now.engine.disk c.write.new.self.engine.disk
      (ap (λ e. e.disk) c.write.ensures.engine) was.gives;
  reads = c.write.ensures.sure s stands.serves was.reads;
})

pub returns-in-SetTagged-clause-sure : goal.returns-in-SetTagged-clause-sure
returns-in-SetTagged-clause-sure g c s stands was = on_ok_of c.write-in-SetTagged.result _ (record {
  gives = same_steady g.D.Watched c.args.served.now.engine.disk c.write-in-SetTagged.new.self.engine.disk
      (ap (λ e. e.disk) c.write-in-SetTagged.ensures.engine) was.gives;
  reads = c.write-in-SetTagged.ensures.sure s stands.serves was.reads;
})

pub returns-in-Delete-clause-sure : goal.returns-in-Delete-clause-sure
returns-in-Delete-clause-sure g c s stands was = on_ok_of c.write-in-Delete.result _ (record {
  gives = same_steady g.D.Watched c.args.served.now.engine.disk c.write-in-Delete.new.self.engine.disk
      (ap (λ e. e.disk) c.write-in-Delete.ensures.engine) was.gives;
  reads = c.write-in-Delete.ensures.sure s stands.serves was.reads;
})

pub returns-in-Scan-clause-sure : goal.returns-in-Scan-clause-sure
returns-in-Scan-clause-sure g c s stands was = on_ok_of c.scan.result _ (record {
  gives = same_steady g.D.Watched c.args.served.now.engine.disk c.scan.new.self.engine.disk
      (ap (λ e. e.disk) c.scan.ensures.engine) was.gives;
  reads = c.scan.ensures.sure s stands.serves was.reads;
})

pub returns-in-Commit-clause-sure : goal.returns-in-Commit-clause-sure
returns-in-Commit-clause-sure g c s stands was =
    if_ok c.commit.result _ _ (λ reads. record { gives = c.commit.ensures.steady was.gives; reads = reads })
    (c.commit.ensures.sure s stands.serves was.reads)

pub returns-in-Drop-clause-sure : goal.returns-in-Drop-clause-sure
returns-in-Drop-clause-sure g c s stands was = record {
  gives = same_steady g.D.Watched c.args.served.now.engine.disk c.end.new.served.engine.disk c.end.ensures.disk was.gives;
  reads = c.end.ensures.sure s stands was.reads;
}

pub returns-in-Rotate-clause-sure : goal.returns-in-Rotate-clause-sure
returns-in-Rotate-clause-sure g c s stands was = on_ok_of c.rotate.result _ (record {
  gives = c.rotate.ensures.steady was.gives;
  reads = same_reads _ _ _ (ap (λ (opens : Vec _ _). opens.items) c.rotate.ensures.things) was.reads;
})

pub returns-in-Flush-clause-sure : goal.returns-in-Flush-clause-sure
returns-in-Flush-clause-sure g c s stands was = on_ok_of c.flush.result _ (record {
  gives = c.flush.ensures.steady was.gives;
  reads = same_reads _ _ _ (ap (λ (opens : Vec _ _). opens.items) c.flush.ensures.things) was.reads;
})

pub returns-in-Keep-clause-sure : goal.returns-in-Keep-clause-sure
returns-in-Keep-clause-sure g c s stands was = on_ok_of c.keep.result _ (record {
  gives = c.keep.ensures.steady was.gives;
  reads = same_reads _ _ _ (ap (λ (opens : Vec _ _). opens.items) c.keep.ensures.things) was.reads;
})

pub returns-in-Sweep-clause-sure : goal.returns-in-Sweep-clause-sure
returns-in-Sweep-clause-sure g c s stands was = on_ok_of c.sweep.result _ (record {
  gives = c.sweep.ensures.steady was.gives;
  reads = same_reads _ _ _ (ap (λ (opens : Vec _ _). opens.items) c.sweep.ensures.things) was.reads;
})

pub returns-in-Plan-clause-sure : goal.returns-in-Plan-clause-sure
returns-in-Plan-clause-sure g c s stands was = on_ok_of c.plan.result _ (record {
  gives = c.plan.ensures.steady was.gives;
  reads = same_reads _ _ _ (ap (λ (opens : Vec _ _). opens.items) c.plan.ensures.things) was.reads;
})

pub returns-in-Drain-clause-sure : goal.returns-in-Drain-clause-sure
returns-in-Drain-clause-sure g c s stands was = on_ok_of c.plan-in-Drain.result _ (record {
  gives = c.plan-in-Drain.ensures.steady was.gives;
  reads = same_reads _ _ _ (ap (λ (opens : Vec _ _). opens.items) c.plan-in-Drain.ensures.things) was.reads;
})

pub returns-in-Install-clause-sure : goal.returns-in-Install-clause-sure
returns-in-Install-clause-sure g c s stands was = on_ok_of c.install.result _ (record {
  gives = c.install.ensures.steady was.gives;
  reads = same_reads _ _ _ (ap (λ (opens : Vec _ _). opens.items) c.install.ensures.things) was.reads;
})

pub returns-in-Move-clause-sure : goal.returns-in-Move-clause-sure
returns-in-Move-clause-sure g c s stands was = on_ok_of c.move_batch.result _ (record {
  gives = c.move_batch.ensures.steady was.gives;
  reads = same_reads _ _ _ (ap (λ (opens : Vec _ _). opens.items) c.move_batch.ensures.things) was.reads;
})

pub returns-in-Pick-clause-sure : goal.returns-in-Pick-clause-sure
returns-in-Pick-clause-sure g c s stands was = on_ok_of c.pick.result _ (record {
  gives = same_steady g.D.Watched c.args.served.now.engine.disk c.pick.new.served.engine.disk c.pick.ensures.disk was.gives;
  reads = same_reads _ _ _ (ap (λ (opens : Vec _ _). opens.items) c.pick.ensures.things) was.reads;
})

pub returns-in-Stats-clause-sure : goal.returns-in-Stats-clause-sure
returns-in-Stats-clause-sure g c s stands was = on_ok_of c.stats.result _ was

pub returns-in-Batch-clause-sure : goal.returns-in-Batch-clause-sure
returns-in-Batch-clause-sure g c s stands was = on_ok_of c.batch.result _ was
