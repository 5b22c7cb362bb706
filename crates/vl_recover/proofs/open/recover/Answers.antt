use Rattle.vl_disk.specs.Faults.{NoneCounted}
use Rattle.vl_disk.specs.laws.Counting.{never_counted, none_counted}
use Rattle.std.proofs.Common.{List, [], ◌∷◌, ap, refl, subst, sym, ◌∙◌}
use Rattle.std.specs.Prelude.{All}
use Rattle.vl_manifest.specs.declared.edit.Edit.{Edit}
use Rattle.vl_manifest.specs.declared.manifest_log.ManifestLog.{ManifestLog}
use Rattle.vl_manifest.specs.Manifest.{manifest_bytes}
use Rattle.vl_recover.specs.laws.opening.OneFinding.{opened_not}
use Rattle.vl_recover.specs.repairing.PlanViews.{manifest_of, plan_view}
use Rattle.vl_recover.specs.opening.FoundTables.{all_found}
use Rattle.vl_recover.specs.opening.Results.{IsOneRun, recovery_by}
use Rattle.vl_recover.proofs.crash.IntactAfter.{intact_after, intact_throughout}
use Rattle.vl_recover.proofs.crash.Recovered.{as_long, fault_counted, fault_of, frame_failed, frame_is, goes_on_ready}
use Rattle.vl_recover.proofs.crash.Recovered.{calls_counted, calls_stopped, none_made, disk_repaired, repaired_again}
use Rattle.vl_recover.proofs.crash.Recovered.{repaired_faults, repaired_meanwhile, repaired_tells, repaired_through}
use Rattle.vl_recover.proofs.crash.Recovered.{sealed_held, opened_same, read_faults, refused_disk, still_tells, still_untold}
use Rattle.vl_recover.proofs.crash.Recovered.{store_held, unchanged_again, unchanged_meanwhile, unchanged_through}
use Rattle.vl_recover.proofs.opening.Unmoved.{call_as, no_call, reader_failed, then_call}
use Rattle.vl_seglog.specs.declared.active.ActiveLog.{ActiveLog}
use Rattle.vl_recover.proofs.open.recover.Goals as goal

-- it was refused, or there was no memory
pub returns-in-Err-clause-refused : goal.returns-in-Err-clause-refused
returns-in-Err-clause-refused g c refused =
    call_as g.D.Watched _ _ _ ⊥ (refused_disk _ (recovery_by c.in-Err.why) refused) (λ none. none) c.in-Err.ensures.no_change

pub returns-in-Err-clause-meanwhile : goal.returns-in-Err-clause-meanwhile
returns-in-Err-clause-meanwhile g c state read told is_read = unchanged_meanwhile g.D.Watched g.met.D.Disk.only_now _ _
    c.in-Err.ensures.no_change state told read

pub returns-in-Err-clause-through : goal.returns-in-Err-clause-through
returns-in-Err-clause-through g c state told may = unchanged_through g.D.Watched g.met.D.Disk.only_now _ _ c.in-Err.ensures.no_change
    state told

pub returns-in-Err-clause-again : goal.returns-in-Err-clause-again
returns-in-Err-clause-again g c state now told may ends = unchanged_again g.D.Watched g.met.D.Disk.only_now _ _ c.in-Err.ensures.no_change
    state told may now ends

pub returns-in-Err-clause-tells : goal.returns-in-Err-clause-tells
returns-in-Err-clause-tells g c state told = still_tells g.D.Watched g.met.D.Disk.only_now _ _ c.in-Err.ensures.no_change state told

-- there was no memory for the manifest
pub returns-in-Err-NoMemory-clause-refused : goal.returns-in-Err-NoMemory-clause-refused
returns-in-Err-NoMemory-clause-refused g c refused =
    let failed = ap manifest_of (rw c.in-Err-NoMemory.field-0-is at c.in-Err-NoMemory.is) in
    then_call g.D.Watched _ _ _ ⊥ c.in-Ok-prepare.ensures.no_change (c.repair.ensures.repaired.no_memory failed)

pub returns-in-Err-NoMemory-clause-meanwhile : goal.returns-in-Err-NoMemory-clause-meanwhile
returns-in-Err-NoMemory-clause-meanwhile g c state read told is_read =
    let failed = ap manifest_of (rw c.in-Err-NoMemory.field-0-is at c.in-Err-NoMemory.is) in
    unchanged_meanwhile g.D.Watched g.met.D.Disk.only_now _ _
    (then_call g.D.Watched _ _ _ ⊥ c.in-Ok-prepare.ensures.no_change (c.repair.ensures.repaired.no_memory failed)) state told read

pub returns-in-Err-NoMemory-clause-through : goal.returns-in-Err-NoMemory-clause-through
returns-in-Err-NoMemory-clause-through g c state told may =
    let failed = ap manifest_of (rw c.in-Err-NoMemory.field-0-is at c.in-Err-NoMemory.is) in
    unchanged_through g.D.Watched g.met.D.Disk.only_now _ _
    (then_call g.D.Watched _ _ _ ⊥ c.in-Ok-prepare.ensures.no_change (c.repair.ensures.repaired.no_memory failed)) state told

pub returns-in-Err-NoMemory-clause-again : goal.returns-in-Err-NoMemory-clause-again
returns-in-Err-NoMemory-clause-again g c state now told may ends =
    let failed = ap manifest_of (rw c.in-Err-NoMemory.field-0-is at c.in-Err-NoMemory.is) in
    unchanged_again g.D.Watched g.met.D.Disk.only_now _ _
    (then_call g.D.Watched _ _ _ ⊥ c.in-Ok-prepare.ensures.no_change (c.repair.ensures.repaired.no_memory failed)) state told may now ends

pub returns-in-Err-NoMemory-clause-tells : goal.returns-in-Err-NoMemory-clause-tells
returns-in-Err-NoMemory-clause-tells g c state told =
    repaired_tells g.D.Watched g.met.D.Disk.only_now _ _ c.in-Ok-prepare.ensures.no_change state told _ c.in-Ok-prepare.ready.0
    (manifest_of c.repair.result) c.repair.ensures.repaired

-- the disk failed
pub returns-clause-not_opened : goal.returns-clause-not_opened
returns-clause-not_opened g c state read told is_read not =
    let is = (c.in-Ok-prepare.ensures.answer state read told is_read).0 in
    absurd (opened_not read is.finds is.unused not)

pub returns-clause-meanwhile : goal.returns-clause-meanwhile
returns-clause-meanwhile g c state read told is_read =
    repaired_meanwhile g.D.Watched g.met.D.Disk.only_now _ _ c.in-Ok-prepare.ensures.no_change state told _ c.in-Ok-prepare.ready.0
    (manifest_of c.repair.result) c.repair.ensures.repaired
    (frame_failed c.in-Ok-prepare.ready.0 _ c.in-Err-Disk.name (manifest_of c.repair.result) c.in-Ok-prepare.ensures.edits
    (ap manifest_of (rw c.in-Err-Disk.field-0-is at c.in-Err-Disk.is)) c.repair.ensures.frame) read
    ((c.in-Ok-prepare.ensures.answer state read told is_read).0)

pub returns-clause-through : goal.returns-clause-through
returns-clause-through g c state told may =
    repaired_through g.D.Watched g.met.D.Disk.only_now _ _ c.in-Ok-prepare.ensures.no_change state told _ c.in-Ok-prepare.ready.0
    (manifest_of c.repair.result) c.repair.ensures.repaired
    (frame_failed c.in-Ok-prepare.ready.0 _ c.in-Err-Disk.name (manifest_of c.repair.result) c.in-Ok-prepare.ensures.edits
    (ap manifest_of (rw c.in-Err-Disk.field-0-is at c.in-Err-Disk.is)) c.repair.ensures.frame) g.met.D.Disk.lawful may
    (λ read is_read. (c.in-Ok-prepare.ensures.answer state read told is_read).0)

pub returns-clause-again : goal.returns-clause-again
returns-clause-again g c state now told may ends =
    repaired_again g.D.Watched g.met.D.Disk.only_now _ _ c.in-Ok-prepare.ensures.no_change state told _ c.in-Ok-prepare.ready.0
    (manifest_of c.repair.result) c.repair.ensures.repaired
    (frame_failed c.in-Ok-prepare.ready.0 _ c.in-Err-Disk.name (manifest_of c.repair.result) c.in-Ok-prepare.ensures.edits
    (ap manifest_of (rw c.in-Err-Disk.field-0-is at c.in-Err-Disk.is)) c.repair.ensures.frame) g.met.D.Disk.lawful may
    (λ read is_read. (c.in-Ok-prepare.ensures.answer state read told is_read).0) g.met.D.Disk.counts_now now ends

pub returns-clause-tells : goal.returns-clause-tells
returns-clause-tells g c state told =
    repaired_tells g.D.Watched g.met.D.Disk.only_now _ _ c.in-Ok-prepare.ensures.no_change state told _ c.in-Ok-prepare.ready.0
    (manifest_of c.repair.result) c.repair.ensures.repaired

pub returns-clause-cause : goal.returns-clause-cause
returns-clause-cause g c =
    let failed = ap manifest_of (rw c.in-Err-Disk.field-0-is at c.in-Err-Disk.is) in
    fault_counted _ _ _ _ (c.in-Ok-prepare.ensures.no_change.cause.steady (λ none. none)) c.in-Ok-prepare.ensures.fresh
    (fault_of g.D.Watched (plan_view c.in-Ok-prepare.ready.0.plan) _ _ (manifest_of c.repair.result) _ failed c.repair.ensures.repaired)

-- it was opened
pub returns-in-Ok-repair-clause-answer : goal.returns-in-Ok-repair-clause-answer
returns-in-Ok-repair-clause-answer g c state read told is_read =
    let is = (c.in-Ok-prepare.ensures.answer state read told is_read).0 in (
      is.finds,
      is.unused,
      c.opened.ensures.opened ∙ opened_same read c.in-Ok-prepare.ready.0 (all_found c.in-Ok-prepare.ready.1.levels) is
          (c.in-Ok-prepare.ensures.answer state read told is_read).1,
    )

pub returns-in-Ok-repair-clause-not_opened : goal.returns-in-Ok-repair-clause-not_opened
returns-in-Ok-repair-clause-not_opened g c state read told is_read not =
    let is = (c.in-Ok-prepare.ensures.answer state read told is_read).0 in
    absurd (opened_not read is.finds is.unused not)

pub returns-in-Ok-repair-clause-repaired : goal.returns-in-Ok-repair-clause-repaired
returns-in-Ok-repair-clause-repaired g c state read told is_read =
    let is = (c.in-Ok-prepare.ensures.answer state read told is_read).0 in
    rw c.opened.ensures.disk
    (disk_repaired g.D.Watched g.met.D.Disk.only_now _ _ c.in-Ok-prepare.ensures.no_change state told _ c.in-Ok-prepare.ready.0 _
    c.in-Ok-repair.ensures.repaired
    read is_read is (frame_is c.in-Ok-prepare.ready.0 _ c.in-Ok-prepare.ensures.edits c.in-Ok-repair.ensures.frame) is.finds)

pub returns-in-Ok-repair-clause-manifest : goal.returns-in-Ok-repair-clause-manifest
returns-in-Ok-repair-clause-manifest g c =
    as_long (plan_view c.in-Ok-prepare.ready.0.plan) c.in-Ok-prepare.ready.0.state c.opened.result.state _ c.opened.result.manifest
    (ap (λ (es : List Edit). manifest_bytes c.in-Ok-prepare.ready.0.plan.manifest (es ∷ [])) c.in-Ok-prepare.ensures.edits)
    c.in-Ok-repair.ensures.repaired.manifest c.opened.ensures.manifest c.opened.ensures.state

pub returns-in-Ok-repair-clause-held : goal.returns-in-Ok-repair-clause-held
returns-in-Ok-repair-clause-held g c state now read found told may is_read ends =
    let ended = rw c.opened.ensures.disk at ends in
    store_held g.D.Watched g.met.D.Disk.only_now _ _ c.in-Ok-prepare.ensures.no_change state told _ c.in-Ok-prepare.ready.0 _
    c.in-Ok-repair.ensures.repaired
    read is_read ((c.in-Ok-prepare.ensures.answer state read told is_read).0)
    (frame_is c.in-Ok-prepare.ready.0 _ c.in-Ok-prepare.ensures.edits c.in-Ok-repair.ensures.frame) found
    (g.met.D.Disk.lawful _ state told) may now ended
    c.opened.result.state c.opened.ensures.state

pub returns-in-Ok-repair-clause-calls : goal.returns-in-Ok-repair-clause-calls
returns-in-Ok-repair-clause-calls g c state read found strays told is_read are =
    rw c.opened.ensures.disk
    (calls_counted g.D.Watched g.met.D.Disk.only_now _ _ c.in-Ok-prepare.ensures.no_change state told _ c.in-Ok-prepare.ready.0 _
    c.in-Ok-repair.ensures.repaired
    read is_read ((c.in-Ok-prepare.ensures.answer state read told is_read).0)
    (frame_is c.in-Ok-prepare.ready.0 _ c.in-Ok-prepare.ensures.edits c.in-Ok-repair.ensures.frame) found strays are)

pub returns-in-Ok-repair-clause-meanwhile : goal.returns-in-Ok-repair-clause-meanwhile
returns-in-Ok-repair-clause-meanwhile g c state read told is_read =
    rw c.opened.ensures.disk
    (repaired_meanwhile g.D.Watched g.met.D.Disk.only_now _ _ c.in-Ok-prepare.ensures.no_change state told _ c.in-Ok-prepare.ready.0
    (manifest_of c.repair.result) c.repair.ensures.repaired
    (frame_is c.in-Ok-prepare.ready.0 _ c.in-Ok-prepare.ensures.edits c.in-Ok-repair.ensures.frame) read
    ((c.in-Ok-prepare.ensures.answer state read told is_read).0))

pub returns-in-Ok-repair-clause-through : goal.returns-in-Ok-repair-clause-through
returns-in-Ok-repair-clause-through g c state told may =
    rw c.opened.ensures.disk
    (repaired_through g.D.Watched g.met.D.Disk.only_now _ _ c.in-Ok-prepare.ensures.no_change state told _ c.in-Ok-prepare.ready.0
    (manifest_of c.repair.result) c.repair.ensures.repaired
    (frame_is c.in-Ok-prepare.ready.0 _ c.in-Ok-prepare.ensures.edits c.in-Ok-repair.ensures.frame) g.met.D.Disk.lawful may
    (λ read is_read. (c.in-Ok-prepare.ensures.answer state read told is_read).0))

pub returns-in-Ok-repair-clause-again : goal.returns-in-Ok-repair-clause-again
returns-in-Ok-repair-clause-again g c state now told may ends =
    let ended = rw c.opened.ensures.disk at ends in
    repaired_again g.D.Watched g.met.D.Disk.only_now _ _ c.in-Ok-prepare.ensures.no_change state told _ c.in-Ok-prepare.ready.0
    (manifest_of c.repair.result) c.repair.ensures.repaired
    (frame_is c.in-Ok-prepare.ready.0 _ c.in-Ok-prepare.ensures.edits c.in-Ok-repair.ensures.frame) g.met.D.Disk.lawful may
    (λ read is_read. (c.in-Ok-prepare.ensures.answer state read told is_read).0) g.met.D.Disk.counts_now now ended

pub returns-in-Ok-repair-clause-tells : goal.returns-in-Ok-repair-clause-tells
returns-in-Ok-repair-clause-tells g c state told =
    rw c.opened.ensures.disk
    (repaired_tells g.D.Watched g.met.D.Disk.only_now _ _ c.in-Ok-prepare.ensures.no_change state told _ c.in-Ok-prepare.ready.0
    (manifest_of c.repair.result) c.repair.ensures.repaired)

pub returns-in-Ok-repair-clause-untold : goal.returns-in-Ok-repair-clause-untold
returns-in-Ok-repair-clause-untold g c none =
    rw c.opened.ensures.disk
    (still_untold g.D.Watched _ _ c.in-Ok-prepare.ensures.no_change _ _ _ c.in-Ok-repair.ensures.repaired none)

pub returns-in-Ok-repair-clause-ready : goal.returns-in-Ok-repair-clause-ready
returns-in-Ok-repair-clause-ready g c =
    rw c.opened.ensures.disk
    (goes_on_ready g.D.Watched _ _ _ c.in-Ok-prepare.ensures.no_change c.in-Ok-prepare.ready.0 _ c.in-Ok-repair.ensures.repaired
    (λ state read told is_read. (c.in-Ok-prepare.ensures.answer state read told is_read).0)
    c.opened.result.active.number c.opened.result.manifest.number c.opened.result.state
    (ap (λ (a : ActiveLog). a.number) c.opened.ensures.active)
    (ap (λ (l : ManifestLog). l.number) c.opened.ensures.manifest
    ∙ ap (λ (l : ManifestLog). l.number) c.in-Ok-repair.ensures.repaired.manifest) c.opened.ensures.state)

pub returns-in-Ok-repair-clause-numbered : goal.returns-in-Ok-repair-clause-numbered
returns-in-Ok-repair-clause-numbered g c = rw c.opened.ensures.state c.in-Ok-prepare.ensures.numbered

-- what it holds
pub returns-in-Ok-repair-clause-tables : goal.returns-in-Ok-repair-clause-tables
returns-in-Ok-repair-clause-tables g c state read told is_read = rw c.opened.ensures.levels
    (c.in-Ok-prepare.ensures.tables state read told is_read)

pub returns-in-Ok-repair-clause-logs : goal.returns-in-Ok-repair-clause-logs
returns-in-Ok-repair-clause-logs g c state read found told is_read =
    sealed_held g.D.Watched g.D.Held.HeldFile.bytes _ _ c.in-Ok-prepare.ensures.no_change state told read is_read c.in-Ok-prepare.ready.0
    ((c.in-Ok-prepare.ensures.answer state read told is_read).0)
    found c.in-Ok-prepare.ready.1.sealed.items (λ finds. c.in-Ok-prepare.ensures.logs state read finds told is_read) _
    c.in-Ok-repair.ensures.held _ c.opened.ensures.sealed

pub returns-in-Ok-repair-clause-waiting : goal.returns-in-Ok-repair-clause-waiting
returns-in-Ok-repair-clause-waiting g c state read found told is_read =
    rw c.opened.ensures.waiting (c.in-Ok-prepare.ensures.waiting state read found told is_read)

pub returns-in-Ok-repair-clause-seven : goal.returns-in-Ok-repair-clause-seven
returns-in-Ok-repair-clause-seven g c = rw c.opened.ensures.levels c.in-Ok-prepare.ensures.seven

pub returns-in-Ok-repair-clause-runs : goal.returns-in-Ok-repair-clause-runs
returns-in-Ok-repair-clause-runs g c =
    subst (λ (v : _). All IsOneRun v.items) (sym c.opened.ensures.frozen) c.in-Ok-prepare.ensures.runs

pub opened-requires-clause-place : goal.opened-requires-clause-place
opened-requires-clause-place g c = c.in-Ok-prepare.ensures.place

-- where it failed
pub returns-in-Err-clause-at : goal.returns-in-Err-clause-at
returns-in-Err-clause-at g c state read told is_read =
    read_faults read (g.D.Watched.told c.args.disk) state _ _ told c.in-Err.ensures.no_change.calls c.in-Err.why c.in-Err.ensures.at

pub returns-clause-at : goal.returns-clause-at
returns-clause-at g c state read told is_read =
    let failed = ap manifest_of (rw c.in-Err-Disk.field-0-is at c.in-Err-Disk.is) in
    repaired_faults read state _ _ _ c.in-Ok-prepare.ensures.no_change.calls c.in-Ok-prepare.ready.0
    ((c.in-Ok-prepare.ensures.answer state read told is_read).0) (frame_failed c.in-Ok-prepare.ready.0 _ c.in-Err-Disk.name
    (manifest_of c.repair.result) c.in-Ok-prepare.ensures.edits (ap manifest_of (rw c.in-Err-Disk.field-0-is at c.in-Err-Disk.is))
    c.repair.ensures.frame) (manifest_of c.repair.result)
    c.in-Err-Disk.name failed c.repair.ensures.repaired.at

-- and how many calls it had made
pub returns-in-Err-clause-stopped : goal.returns-in-Err-clause-stopped
returns-in-Err-clause-stopped g c state read found strays told is_read are = none_made g.D.Watched _ _ _ _ c.in-Err.ensures.no_change

pub returns-in-Err-NoMemory-clause-stopped : goal.returns-in-Err-NoMemory-clause-stopped
returns-in-Err-NoMemory-clause-stopped g c state read found strays told is_read are =
    let failed = ap manifest_of (rw c.in-Err-NoMemory.field-0-is at c.in-Err-NoMemory.is) in
    none_made g.D.Watched _ _ _ _ (then_call g.D.Watched _ _ _ ⊥ c.in-Ok-prepare.ensures.no_change
    (c.repair.ensures.repaired.no_memory failed))

pub returns-clause-stopped : goal.returns-clause-stopped
returns-clause-stopped g c state read found strays told is_read are =
    let failed = ap manifest_of (rw c.in-Err-Disk.field-0-is at c.in-Err-Disk.is) in
    calls_stopped g.D.Watched g.met.D.Disk.only_now _ _ c.in-Ok-prepare.ensures.no_change state told _ c.in-Ok-prepare.ready.0
    (manifest_of c.repair.result) _ failed c.repair.ensures.repaired
    read is_read ((c.in-Ok-prepare.ensures.answer state read told is_read).0) found strays are

-- there was no memory for a reader
pub returns-in_default-clause-through : goal.returns-in_default-clause-through
returns-in_default-clause-through g c state told may =
    unchanged_through g.D.Watched g.met.D.Disk.only_now _ _ (no_call g.D.Watched c.args.disk) state told

-- what a crash leaves is intact: meanwhile,
pub returns-in_default-clause-stays_intact : goal.returns-in_default-clause-stays_intact
returns-in_default-clause-stays_intact g c state told may all =
    intact_throughout g.D.Watched _ _ state all (returns-in_default-clause-through g c state told may)

pub returns-in-Err-clause-stays_intact : goal.returns-in-Err-clause-stays_intact
returns-in-Err-clause-stays_intact g c state told may all =
    intact_throughout g.D.Watched _ _ state all (returns-in-Err-clause-through g c state told may)

pub returns-in-Err-NoMemory-clause-stays_intact : goal.returns-in-Err-NoMemory-clause-stays_intact
returns-in-Err-NoMemory-clause-stays_intact g c state told may all =
    intact_throughout g.D.Watched _ _ state all (returns-in-Err-NoMemory-clause-through g c state told may)

pub returns-clause-stays_intact : goal.returns-clause-stays_intact
returns-clause-stays_intact g c state told may all =
    intact_throughout g.D.Watched _ _ state all (returns-clause-through g c state told may)

pub returns-in-Ok-repair-clause-stays_intact : goal.returns-in-Ok-repair-clause-stays_intact
returns-in-Ok-repair-clause-stays_intact g c state told may all =
    intact_throughout g.D.Watched _ _ state all (returns-in-Ok-repair-clause-through g c state told may)

-- and behind the opening
pub returns-in-Ok-repair-clause-intact : goal.returns-in-Ok-repair-clause-intact
returns-in-Ok-repair-clause-intact g c state now read told may is_read whole ends =
    let ended = rw c.opened.ensures.disk at ends in
    let is = (c.in-Ok-prepare.ensures.answer state read told is_read).0 in
    intact_after read c.in-Ok-prepare.ready.0 is now
    (store_held g.D.Watched g.met.D.Disk.only_now _ _ c.in-Ok-prepare.ensures.no_change state told _ c.in-Ok-prepare.ready.0 _
    c.in-Ok-repair.ensures.repaired
    read is_read is (frame_is c.in-Ok-prepare.ready.0 _ c.in-Ok-prepare.ensures.edits c.in-Ok-repair.ensures.frame) is.finds
    (g.met.D.Disk.lawful _ state told) may now ended
    c.in-Ok-prepare.ready.0.state refl) whole

-- its reader counted a fault
pub returns-in-Err-clause-unmoved : goal.returns-in-Err-clause-unmoved
returns-in-Err-clause-unmoved g c some =
    call_as g.D.Watched _ _ _ ⊥ (reader_failed _ (recovery_by c.in-Err.why) some) (λ none. none) c.in-Err.ensures.no_change

pub returns-in-Err-NoMemory-clause-unmoved : goal.returns-in-Err-NoMemory-clause-unmoved
returns-in-Err-NoMemory-clause-unmoved g c some = absurd (c.in-Ok-prepare.ensures.fresh.none some)

pub returns-clause-unmoved : goal.returns-clause-unmoved
returns-clause-unmoved g c some = absurd (c.in-Ok-prepare.ensures.fresh.none some)

pub returns-in-Ok-repair-clause-unmoved : goal.returns-in-Ok-repair-clause-unmoved
returns-in-Ok-repair-clause-unmoved g c some = absurd (none_counted.none some)

pub returns-in_default-clause-unmoved : goal.returns-in_default-clause-unmoved
returns-in_default-clause-unmoved g c some = absurd (none_counted.none some)

-- which is answered
pub returns-in-Err-clause-read_fault : goal.returns-in-Err-clause-read_fault
returns-in-Err-clause-read_fault g c some = c.in-Err.ensures.read_fault some

pub returns-in-Err-NoMemory-clause-read_fault : goal.returns-in-Err-NoMemory-clause-read_fault
returns-in-Err-NoMemory-clause-read_fault g c some = absurd (c.in-Ok-prepare.ensures.fresh.none some)

pub returns-clause-read_fault : goal.returns-clause-read_fault
returns-clause-read_fault g c some = absurd (c.in-Ok-prepare.ensures.fresh.none some)

pub returns-in-Ok-repair-clause-read_fault : goal.returns-in-Ok-repair-clause-read_fault
returns-in-Ok-repair-clause-read_fault g c some = absurd (none_counted.none some)

pub returns-in_default-clause-read_fault : goal.returns-in_default-clause-read_fault
returns-in_default-clause-read_fault g c some = absurd (none_counted.none some)

-- ---- where no reader fails

pub returns-in-Err-clause-steady : goal.returns-in-Err-clause-steady
returns-in-Err-clause-steady g c sure =
    subst NoneCounted (sym (c.prepare.ensures.steady (c.in-Ok.ensures.faults.never_fails sure))) never_counted

pub returns-in-Err-NoMemory-clause-steady : goal.returns-in-Err-NoMemory-clause-steady
returns-in-Err-NoMemory-clause-steady g c sure = c.in-Ok-prepare.ensures.fresh

pub returns-clause-steady : goal.returns-clause-steady
returns-clause-steady g c sure = c.in-Ok-prepare.ensures.fresh

pub returns-in-Ok-repair-clause-steady : goal.returns-in-Ok-repair-clause-steady
returns-in-Ok-repair-clause-steady g c sure = none_counted

pub returns-in_default-clause-steady : goal.returns-in_default-clause-steady
returns-in_default-clause-steady g c sure = none_counted

pub prepare-requires : goal.prepare-requires
prepare-requires g c = record { fresh = c.in-Ok.ensures.faults.none }

pub returns-in-Ok-repair-clause-unread : goal.returns-in-Ok-repair-clause-unread
returns-in-Ok-repair-clause-unread g c state read told is_read none = none_counted

pub returns-in_default-clause-unread : goal.returns-in_default-clause-unread
returns-in_default-clause-unread g c state read told is_read none = none_counted

pub returns-in-Err-NoMemory-clause-unread : goal.returns-in-Err-NoMemory-clause-unread
returns-in-Err-NoMemory-clause-unread g c state read told is_read none = c.in-Ok-prepare.ensures.fresh

pub returns-clause-unread : goal.returns-clause-unread
returns-clause-unread g c state read told is_read none = c.in-Ok-prepare.ensures.fresh
