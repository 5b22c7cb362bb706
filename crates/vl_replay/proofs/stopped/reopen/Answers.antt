use Rattle.std.proofs.Common.{◌≡◌, inl, inr, refl, subst, sym, ◌∙◌, List, ℕ, true, false}
use Rattle.vl_disk.specs.Started.{started_read}
use Rattle.vl_engine_model.specs.Start.{layout_at_start}
use Rattle.vl_engine_laws.specs.Found.{recovered}
use Rattle.vl_mem.specs.CrashImage.{crash_image}
use Rattle.vl_mem.specs.StoppingDisk.{state_on}
use Rattle.vl_model.specs.History.{last_number}
use Rattle.vl_model.specs.Limits.{max_room}
use Rattle.vl_script_model.specs.Steps.{Finishes}
use Rattle.vl_script_model.specs.declared.ending.Ending.TheVariants.{Complete}
use Rattle.vl_replay.proofs.Trials.Reopening.{memory_line, only_memory}
use Rattle.vl_replay.proofs.Trials.TrialEnds.{not_by_disk}
use Rattle.vl_replay.proofs.stopped.reopen.Goals as goal

not_both : true ≡ false → ⊥
not_both e = cc

pub returns-in-Some-clause-reopens : goal.returns-in-Some-clause-reopens
returns-in-Some-clause-reopens g c h again =
    let image = crash_image c.args.outcome (state_on c.args.disk) in
    let l = layout_at_start max_room (recovered again.found again.shown) in
    let stands = c.in-Ok-open.ensures.stands (state_on c.in-Ok.disk) image again.found h refl
    (started_read image (state_on c.in-Ok.disk) c.in-Ok.ensures.started) again.shown in
    inl (subst (λ (line : List ℕ). Finishes g.K.Sink c.args.sink.now c.finish-in-Some.new.sink line Complete c.finish-in-Some.result)
    (c.deref.ensures.value ∙ c.in-Some.ensures h l stands c.in-Some.text refl) c.finish-in-Some.ensures)

-- an opening that failed otherwise than by the disk
pub returns-clause-reopens : goal.returns-clause-reopens
returns-clause-reopens g c h again =
    let image = crash_image c.args.outcome (state_on c.args.disk) in
    inr (memory_line g.K.Sink c.args.sink.now c.end_unopened.new.sink c.in-Err.field-0.why c.end_unopened.result c.end_unopened.ensures
    (only_memory image h (last_number h) c.in-Ok.disk c.in-Ok.ensures.started again c.in-Err.field-0.why c.in-Err.ensures.answer
    (λ failed. not_both (sym (c.is_fault.ensures.1 failed) ∙ c.if-is_fault.false))))

pub returns-clause-no_disk_fault : goal.returns-clause-no_disk_fault
returns-clause-no_disk_fault g c =
    not_by_disk g.K.Sink c.args.sink.now c.end_unopened.new.sink c.in-Err.field-0.why c.end_unopened.result c.end_unopened.ensures
    (λ failed. not_both (sym (c.is_fault.ensures.1 failed) ∙ c.if-is_fault.false))
