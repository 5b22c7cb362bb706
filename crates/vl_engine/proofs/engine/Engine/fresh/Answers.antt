use Rattle.std.proofs.Common.{arith, refl, subst, ◌≡◌, ◌∙◌}
use Rattle.vl_disk.specs.declared.name.Name.TheVariants as names
use Rattle.vl_disk.specs.laws.Counting.{new_count_since}
use Rattle.vl_engine_laws.specs.laws.Carrying.{IsWatched}
use Rattle.vl_steps.specs.laws.DrawFits.{fit_drawn, fit_told, is_new, lent_failed, lent_then, log_kept, more_then, same_itself}
use Rattle.vl_steps.specs.laws.DrawFits.{leaves_lending, leaves_ready}
use Rattle.vl_steps.specs.laws.Committing.{decides_short}
use Rattle.vl_steps.specs.laws.DrawFits.{lent_ready}
use Rattle.vl_engine.proofs.DrawRemoved.{lent_more_in, lent_same_in, removes_drawn, removes_roomier, stand_lent, there_drawn, there_roomier}
use Rattle.vl_space.specs.laws.Retired.Kept.{opens_lent}
use Rattle.vl_steps.specs.laws.Ruled.{looked_none}
use Rattle.vl_space.specs.laws.StillRemoved.{removes_halted}
use Rattle.vl_space.specs.laws.StillThere.{there_told}
use Rattle.vl_space.specs.Removing.{Removes}
use Rattle.vl_engine_laws.specs.Represents.{file_of}
use Rattle.vl_engine_model.specs.Rulings.Fresh.{fresh_ruling}
use Rattle.vl_engine_model.specs.declared.layout.Layout.{Layout}
use Rattle.vl_steps.specs.laws.Lending.{leaves_then}
use Rattle.vl_steps.specs.laws.DrawSteps.{carries_done, carries_exhausted, carries_failing, carries_short, decides_drawn}
use Rattle.vl_steps.specs.laws.DrawSteps.{decides_undrawn, stops_drawing, writes_err, writes_ok}
use Rattle.vl_steps.specs.laws.Drawing.{fits_drawn, leaves_numbers, opens_more, opens_same, runs, stands_drawn, stands_undrawn}
use Rattle.vl_steps.specs.laws.Fitting.{fit_halted}
use Rattle.vl_engine_laws.specs.laws.FlushKeeps.{kept_from}
use Rattle.vl_steps.specs.Drawing.{StopsDrawing, drawn_core}
use Rattle.vl_engine_laws.specs.Lent.{StandsOpen}
use Rattle.vl_engine_laws.specs.MayStep.{Fits}
use Rattle.vl_engine_model.specs.Decides.{no_effects}
use Rattle.vl_engine.proofs.engine.Engine.fresh.Goals as goal

pub returns-in-Some-clause-refused : goal.returns-in-Some-clause-refused
returns-in-Some-clause-refused g c = same_itself c.args.self.now.merging c.requires

pub returns-then-number-gt-MAX_FILE_NUMBER-clause-carries : goal.returns-then-number-gt-MAX_FILE_NUMBER-clause-carries
returns-then-number-gt-MAX_FILE_NUMBER-clause-carries g c h l is =
    let watched : IsWatched g.D.Watched = record { only_now = g.met.D.Disk.only_now; counts_now = g.met.D.Disk.counts_now } in
    carries_exhausted g.D.Watched watched g.D.Held.HeldFile.bytes c.args.self.now.core h l c.args.self.now.disk is c.in_default.is
    c.if-number-gt-MAX_FILE_NUMBER.true

pub returns-then-number-gt-MAX_FILE_NUMBER-clause-refused : goal.returns-then-number-gt-MAX_FILE_NUMBER-clause-refused
returns-then-number-gt-MAX_FILE_NUMBER-clause-refused g c = same_itself c.args.self.now.merging c.requires

pub returns-in_default-ready_fresh-clause-carries : goal.returns-in_default-ready_fresh-clause-carries
returns-in_default-ready_fresh-clause-carries g c h l is =
    let watched : IsWatched g.D.Watched = record { only_now = g.met.D.Disk.only_now; counts_now = g.met.D.Disk.counts_now } in
    carries_short g.D.Watched watched g.D.Held.HeldFile.bytes c.args.self.now.core h l c.args.self.now.disk is c.ready_fresh.new.disk
    c.ready_fresh.ensures.no_change

pub invariant_of-self-in-Ok-lend_new : goal.invariant_of-self-in-Ok-lend_new
invariant_of-self-in-Ok-lend_new g c =
    let core = c.args.self.now.core in
    let told = g.D.Watched.told in
    let ready = c.ready_fresh.ensures in
    let lends = c.in-Ok-lend_new.ensures.lends in
    let first = c.args.self.now.numbered in
    record {
      ready = fit_drawn core (told c.ready_fresh.new.disk) (told c.lend_new.new.disk) lends.performs.done
          (fit_told core (told c.args.self.now.disk) (told c.ready_fresh.new.disk) ready.no_change.told c.args.self.now.ready);
      numbered = (first.0, omega arith);
      lent = lent_then g.D.Watched c.args.self.now.disk c.ready_fresh.new.disk core.back.state.next_table c.args.self.now.merging
          c.ready_fresh.new.merging ready.elsewhere ready.no_change.told ready.merging c.args.self.now.lent c.lend_new.new.disk
          c.in-Ok-lend_new.writer lends c.note_lent.new.merging c.note_lent.ensures;
      known = c.args.self.now.known;
      pinned = c.args.self.now.pinned;
      there = λ running. there_drawn g.D.Watched g.D.Writer.Writer c.args.self.now.disk c.lend_new.new.disk core c.args.self.now.merging
          c.note_lent.new.merging c.args.self.now.removing.stock c.make_room_to_abandon.new.stock
          (λ none. lends.untold (ready.no_change.told ∙ none))
          (stand_lent core (told c.args.self.now.disk) (told c.ready_fresh.new.disk) (told c.lend_new.new.disk) ready.no_change.told
          lends.performs.done running c.args.self.now.ready)
          (leaves_then g.D.Watched core.back.state.next_table c.args.self.now.disk c.ready_fresh.new.disk c.lend_new.new.disk
          (leaves_ready g.D.Watched c.args.self.now.disk c.ready_fresh.new.disk core.back.state.next_table ready.elsewhere
          ready.no_change.told)
          (leaves_lending g.D.Watched c.ready_fresh.new.disk c.lend_new.new.disk core.back.state.next_table lends.elsewhere lends.files
          lends.untold)) c.args.self.now.lent
          (lent_more_in c.args.self.now.merging c.note_lent.new.merging core.back.state.next_table
          (more_then c.args.self.now.merging c.ready_fresh.new.merging c.note_lent.new.merging core.back.state.next_table ready.merging
          c.note_lent.ensures))
          (record {
            in_use = c.make_room_to_abandon.ensures.in_use;
            trash = c.make_room_to_abandon.ensures.trash;
            capacity = c.make_room_to_abandon.ensures.capacity;
          }) c.in-Ok.ensures.room (c.args.self.now.there running);
    }

pub returns-in-Ok-lend_new-clause-stands : goal.returns-in-Ok-lend_new-clause-stands
returns-in-Ok-lend_new-clause-stands g c h l is numbers =
    let core = c.args.self.now.core in
    let bytes = g.D.Held.HeldFile.bytes in
    let number = (numbers (runs core h l is.stands.fronts c.in_default.is)).next_table in
    decides_drawn core h l is.stands.fronts (StandsOpen bytes (drawn_core core) c.note_lent.new.merging) c.in_default.is numbers
    c.if-number-gt-MAX_FILE_NUMBER.false (record {
      stands = stands_drawn core h l bytes is.stands (drawn_core core) refl;
      opens = opens_more c.args.self.now.merging c.note_lent.new.merging l.job core.back.state.next_table l.next_table number
          (more_then c.args.self.now.merging c.ready_fresh.new.merging c.note_lent.new.merging core.back.state.next_table
          c.ready_fresh.ensures.merging c.note_lent.ensures) is.opens;
    })

pub returns-in-Ok-lend_new-clause-carries : goal.returns-in-Ok-lend_new-clause-carries
returns-in-Ok-lend_new-clause-carries g c h l is =
    let watched : IsWatched g.D.Watched = record { only_now = g.met.D.Disk.only_now; counts_now = g.met.D.Disk.counts_now } in
    let core = c.args.self.now.core in
    let lends = c.in-Ok-lend_new.ensures.lends in
    carries_done g.D.Watched watched g.D.Held.HeldFile.bytes core h l c.args.self.now.disk is c.in_default.is c.args.self.now.numbered.1
    c.if-number-gt-MAX_FILE_NUMBER.false (drawn_core core) c.lend_new.new.disk
    (writes_ok g.D.Watched core c.args.self.now.disk c.ready_fresh.new.disk c.lend_new.new.disk c.ready_fresh.ensures.no_change
    c.in-Ok-lend_new.writer lends) lends.performs.done refl

pub returns-in-Ok-lend_new-clause-fits : goal.returns-in-Ok-lend_new-clause-fits
returns-in-Ok-lend_new-clause-fits g c h l is fits =
    let core = c.args.self.now.core in
    let lends = c.in-Ok-lend_new.ensures.lends in
    decides_drawn core h l is (Fits (g.D.Watched.told c.lend_new.new.disk) (drawn_core core)) c.in_default.is
    (λ running. (fits.running running).numbers) c.if-number-gt-MAX_FILE_NUMBER.false
    (fits_drawn g.D.Watched core (drawn_core core) h l c.args.self.now.disk c.lend_new.new.disk (record {
      writes = writes_ok g.D.Watched core c.args.self.now.disk c.ready_fresh.new.disk c.lend_new.new.disk
          c.ready_fresh.ensures.no_change c.in-Ok-lend_new.writer lends;
      changed = lends.performs.done;
      core = refl;
    }) fits)

pub returns-in-Ok-lend_new-clause-merging : goal.returns-in-Ok-lend_new-clause-merging
returns-in-Ok-lend_new-clause-merging g c =
    more_then c.args.self.now.merging c.ready_fresh.new.merging c.note_lent.new.merging c.args.self.now.core.back.state.next_table
    c.ready_fresh.ensures.merging c.note_lent.ensures

pub returns-in-Ok-lend_new-clause-fresh : goal.returns-in-Ok-lend_new-clause-fresh
returns-in-Ok-lend_new-clause-fresh g c =
    is_new g.D.Watched c.args.self.now.disk c.args.self.now.core.back.state.next_table c.args.self.now.merging c.args.self.now.lent

pub returns-in-Ok-lend_new-clause-files : goal.returns-in-Ok-lend_new-clause-files
returns-in-Ok-lend_new-clause-files g c =
    kept_from (names.Table c.args.self.now.core.back.state.next_table) (g.D.Watched.told c.args.self.now.disk)
    (g.D.Watched.told c.ready_fresh.new.disk) (g.D.Watched.told c.lend_new.new.disk) c.ready_fresh.ensures.no_change.told
    c.in-Ok-lend_new.ensures.lends.files

pub invariant_of-self-in-Err : goal.invariant_of-self-in-Err
invariant_of-self-in-Err g c =
    let core = c.args.self.now.core in
    let told = g.D.Watched.told in
    let ready = c.ready_fresh.ensures in
    let lends = c.in-Err.ensures.lends in
    record {
      ready = fit_halted _ (names.Table core.back.state.next_table) refl (told c.lend_new.new.disk)
          (log_kept core (told c.ready_fresh.new.disk) (told c.lend_new.new.disk) lends.files lends.untold
          (fit_told core (told c.args.self.now.disk) (told c.ready_fresh.new.disk) ready.no_change.told c.args.self.now.ready));
      numbered = c.args.self.now.numbered;
      lent = lent_failed g.D.Watched c.args.self.now.disk c.ready_fresh.new.disk core.back.state.next_table c.args.self.now.merging
          c.ready_fresh.new.merging ready.elsewhere ready.no_change.told ready.merging c.args.self.now.lent c.lend_new.new.disk _ lends;
      known = c.args.self.now.known;
      pinned = c.args.self.now.pinned;
      there = λ running. absurd cc;
    }

pub returns-in-Err-clause-stands : goal.returns-in-Err-clause-stands
returns-in-Err-clause-stands g c h l is numbers =
    let core = c.args.self.now.core in
    let bytes = g.D.Held.HeldFile.bytes in
    decides_undrawn core h l is.stands.fronts (StandsOpen bytes _ c.ready_fresh.new.merging) (names.Table core.back.state.next_table)
    no_effects c.in_default.is (record {
      stands = stands_undrawn core h l bytes is.stands (names.Table core.back.state.next_table) _ refl;
      opens = opens_same c.args.self.now.merging c.ready_fresh.new.merging l.job c.ready_fresh.ensures.merging is.opens;
    })

pub returns-in-Err-clause-carries : goal.returns-in-Err-clause-carries
returns-in-Err-clause-carries g c h l is =
    let watched : IsWatched g.D.Watched = record { only_now = g.met.D.Disk.only_now; counts_now = g.met.D.Disk.counts_now } in
    let core = c.args.self.now.core in
    carries_failing g.D.Watched watched g.D.Held.HeldFile.bytes core h l c.args.self.now.disk is c.in_default.is c.args.self.now.numbered.1
    c.if-number-gt-MAX_FILE_NUMBER.false _ c.lend_new.new.disk
    (writes_err g.D.Watched core c.args.self.now.disk c.ready_fresh.new.disk c.lend_new.new.disk c.ready_fresh.ensures.no_change
    c.in-Err.field-0 c.in-Err.ensures.lends) no_effects refl

pub returns-in-Err-clause-files : goal.returns-in-Err-clause-files
returns-in-Err-clause-files g c =
    kept_from (names.Table c.args.self.now.core.back.state.next_table) (g.D.Watched.told c.args.self.now.disk)
    (g.D.Watched.told c.ready_fresh.new.disk) (g.D.Watched.told c.lend_new.new.disk) c.ready_fresh.ensures.no_change.told
    c.in-Err.ensures.lends.files

pub returns-in-Err-clause-stopped : goal.returns-in-Err-clause-stopped
returns-in-Err-clause-stopped g c name said =
    let core = c.args.self.now.core in
    let same : names.Table core.back.state.next_table ≡ name = cc in
    subst (StopsDrawing core.back.state.next_table (g.D.Watched.calls c.args.self.now.disk) (g.D.Watched.calls c.lend_new.new.disk)) same
    (stops_drawing g.D.Watched core c.args.self.now.disk c.lend_new.new.disk
    (writes_err g.D.Watched core c.args.self.now.disk c.ready_fresh.new.disk c.lend_new.new.disk c.ready_fresh.ensures.no_change
    c.in-Err.field-0 c.in-Err.ensures.lends))

pub returns-in-Ok-lend_new-clause-empty : goal.returns-in-Ok-lend_new-clause-empty
returns-in-Ok-lend_new-clause-empty g c state told =
    c.in-Ok-lend_new.ensures.file state (c.ready_fresh.ensures.no_change.told ∙ told)

pub returns-in-Err-clause-meanwhile : goal.returns-in-Err-clause-meanwhile
returns-in-Err-clause-meanwhile g c failed =
    writes_err g.D.Watched c.args.self.now.core c.args.self.now.disk c.ready_fresh.new.disk c.lend_new.new.disk
    c.ready_fresh.ensures.no_change c.in-Err.field-0 c.in-Err.ensures.lends

pub returns-in-Err-clause-leaves : goal.returns-in-Err-clause-leaves
returns-in-Err-clause-leaves g c h l now is within failed told =
    let watched : IsWatched g.D.Watched = record { only_now = g.met.D.Disk.only_now; counts_now = g.met.D.Disk.counts_now } in
    let core = c.args.self.now.core in
    leaves_numbers g.D.Watched watched g.D.Held.HeldFile.bytes core core h l c.args.self.now.disk c.lend_new.new.disk is
    (runs core h l is.stands.fronts c.in_default.is) c.args.self.now.numbered.1 c.if-number-gt-MAX_FILE_NUMBER.false
    (writes_err g.D.Watched core c.args.self.now.disk c.ready_fresh.new.disk c.lend_new.new.disk c.ready_fresh.ensures.no_change
    c.in-Err.field-0 c.in-Err.ensures.lends) within now told

pub returns-in-Ok-lend_new-clause-untold : goal.returns-in-Ok-lend_new-clause-untold
returns-in-Ok-lend_new-clause-untold g c none =
    c.in-Ok-lend_new.ensures.lends.untold (c.ready_fresh.ensures.no_change.told ∙ none)

pub returns-in-Ok-lend_new-clause-within : goal.returns-in-Ok-lend_new-clause-within
returns-in-Ok-lend_new-clause-within g c fine within = within

-- ---- which files can go

pub returns-in_default-make_room_to_abandon-clause-carries : goal.returns-in_default-make_room_to_abandon-clause-carries
returns-in_default-make_room_to_abandon-clause-carries g c h l is =
    let watched : IsWatched g.D.Watched = record { only_now = g.met.D.Disk.only_now; counts_now = g.met.D.Disk.counts_now } in
    carries_short g.D.Watched watched g.D.Held.HeldFile.bytes c.args.self.now.core h l c.args.self.now.disk is c.args.self.now.disk
    (looked_none g.D.Watched c.args.self.now.disk)

pub returns-in_default-make_room_to_abandon-clause-refused : goal.returns-in_default-make_room_to_abandon-clause-refused
returns-in_default-make_room_to_abandon-clause-refused g c = same_itself c.args.self.now.merging c.requires

pub returns-in_default-make_room_to_abandon-clause-removes : goal.returns-in_default-make_room_to_abandon-clause-removes
returns-in_default-make_room_to_abandon-clause-removes g c h l is numbers removes =
    let core = c.args.self.now.core in
    let after = (record c.args.self.now.removing { stock = c.make_room_to_abandon.new.stock }) in
    decides_short (λ _ (k : Layout). Removes core after k) h l (fresh_ruling l h) l
    (removes_roomier core l c.args.self.now.removing after refl removes (record {
      in_use = c.make_room_to_abandon.ensures.in_use;
      trash = c.make_room_to_abandon.ensures.trash;
      capacity = c.make_room_to_abandon.ensures.capacity;
    }))

pub returns-in_default-ready_fresh-clause-removes : goal.returns-in_default-ready_fresh-clause-removes
returns-in_default-ready_fresh-clause-removes g c h l is numbers removes =
    let core = c.args.self.now.core in
    let after = (record c.args.self.now.removing { stock = c.make_room_to_abandon.new.stock }) in
    decides_short (λ _ (k : Layout). Removes core after k) h l (fresh_ruling l h) l
    (removes_roomier core l c.args.self.now.removing after refl removes (record {
      in_use = c.make_room_to_abandon.ensures.in_use;
      trash = c.make_room_to_abandon.ensures.trash;
      capacity = c.make_room_to_abandon.ensures.capacity;
    }))

pub returns-in-Ok-lend_new-clause-removes : goal.returns-in-Ok-lend_new-clause-removes
returns-in-Ok-lend_new-clause-removes g c h l is numbers removes =
    let core = c.args.self.now.core in
    let after = (record c.args.self.now.removing { stock = c.make_room_to_abandon.new.stock }) in
    decides_drawn core h l is.stands.fronts (λ _ (k : Layout). Removes (drawn_core core) after k) c.in_default.is numbers
    c.if-number-gt-MAX_FILE_NUMBER.false
    (removes_drawn core l c.args.self.now.removing after refl removes (record {
      in_use = c.make_room_to_abandon.ensures.in_use;
      trash = c.make_room_to_abandon.ensures.trash;
      capacity = c.make_room_to_abandon.ensures.capacity;
    })
    c.args.self.now.merging (opens_lent c.args.self.now.merging l.job is.opens) c.in-Ok.ensures.room)

pub returns-in-Err-clause-removes : goal.returns-in-Err-clause-removes
returns-in-Err-clause-removes g c h l is numbers removes =
    let core = c.args.self.now.core in
    let after = (record c.args.self.now.removing { stock = c.make_room_to_abandon.new.stock }) in
    let name = names.Table core.back.state.next_table in
    decides_undrawn core h l is.stands.fronts (λ _ (k : Layout). Removes _ after k) name no_effects c.in_default.is
    (removes_halted _ after l (file_of name) removes.pins)

pub invariant_of-self-in_default-ready_fresh : goal.invariant_of-self-in_default-ready_fresh
invariant_of-self-in_default-ready_fresh g c =
    let before = c.args.self.now in
    let core = before.core in
    let next = core.back.state.next_table in
    let ready = c.ready_fresh.ensures in
    record {
      ready = fit_told core (g.D.Watched.told before.disk) (g.D.Watched.told c.ready_fresh.new.disk) ready.no_change.told before.ready;
      numbered = before.numbered;
      lent = lent_ready g.D.Watched before.disk c.ready_fresh.new.disk next before.merging c.ready_fresh.new.merging ready.elsewhere
          ready.no_change.told ready.merging before.lent;
      known = before.known;
      pinned = before.pinned;
      there = λ running. there_roomier g.D.Watched g.D.Writer.Writer c.ready_fresh.new.disk core c.ready_fresh.new.merging
          before.removing.stock c.make_room_to_abandon.new.stock (record {
            in_use = c.make_room_to_abandon.ensures.in_use;
            trash = c.make_room_to_abandon.ensures.trash;
            capacity = c.make_room_to_abandon.ensures.capacity;
          })
          (there_told g.D.Watched g.D.Writer.Writer before.disk c.ready_fresh.new.disk core core before.merging
          c.ready_fresh.new.merging before.removing.stock before.removing.stock refl refl (omega arith)
          (lent_same_in before.merging c.ready_fresh.new.merging ready.merging) refl ready.no_change.told
          (leaves_ready g.D.Watched before.disk c.ready_fresh.new.disk next ready.elsewhere ready.no_change.told)
          (before.there running));
    }

-- ---- what never fails

pub returns-in-Ok-lend_new-clause-writer : goal.returns-in-Ok-lend_new-clause-writer
returns-in-Ok-lend_new-clause-writer g c =
    new_count_since _ _ _ c.ready_fresh.ensures.no_change.time.steady c.in-Ok-lend_new.ensures.faults

pub returns-in-Ok-lend_new-clause-steady : goal.returns-in-Ok-lend_new-clause-steady
returns-in-Ok-lend_new-clause-steady g c gives =
    c.in-Ok-lend_new.ensures.lends.performs.time.steady (c.ready_fresh.ensures.no_change.time.steady gives)

pub returns-in-Err-clause-steady : goal.returns-in-Err-clause-steady
returns-in-Err-clause-steady g c gives =
    c.in-Err.ensures.lends.performs.time.steady (c.ready_fresh.ensures.no_change.time.steady gives)

pub returns-in_default-ready_fresh-clause-steady : goal.returns-in_default-ready_fresh-clause-steady
returns-in_default-ready_fresh-clause-steady g c gives = c.ready_fresh.ensures.no_change.time.steady gives
