use Rattle.std.proofs.Common.{refl, ap, subst, sym, ◌∙◌}
use Rattle.std.specs.Prelude.{All, List, max}
use Rattle.vl_disk.specs.Moments.{waits}
use Rattle.vl_disk.specs.laws.Counting.{none_counted}
use Rattle.vl_engine_laws.specs.laws.FitsAtStart.{opened_fits}
use Rattle.vl_engine_laws.specs.laws.Opened.{opened_back, opened_core, opened_fit, opened_numbered, opened_represents}
use Rattle.vl_engine_laws.specs.laws.Opened.{opened_stands, opening_through, opens_still}
use Rattle.vl_engine.proofs.OpenedRuns.{all_reversed, as_fault}
use Rattle.vl_engine.proofs.engine.Engine.open.Goals as goal
use Rattle.vl_engine_laws.specs.Found.{recovered}
use Rattle.vl_engine_laws.specs.Known.{are_known}
use Rattle.vl_space.specs.laws.OpenedThere.{opened_there}
use Rattle.vl_space.specs.laws.Readable.{begun_readable}
use Rattle.vl_space.specs.laws.StartRemoved.{removes_at_start}
use Rattle.vl_space.specs.laws.TallyBegun.{sealed_begun}
use Rattle.vl_space.specs.Collecting.{AreSealed}
use Rattle.vl_engine_model.specs.Start.{layout_at_start}
use Rattle.vl_seglog.specs.declared.sealed.SealedLog.{SealedLog}
use Rattle.vl_engine_laws.specs.Found.{AreLeveled}
use Rattle.vl_memtable.specs.Contents.{Contents}
use Rattle.vl_oracle.specs.LiveTickets.{LiveTickets}
use Rattle.vl_pins.specs.Same.{tickets_in}
use Rattle.vl_recover.specs.opening.Intact.{LeavesIntact}
use Rattle.vl_recover.specs.opening.Results.{IsOneRun}

-- ---- where there was no memory

pub returns-in_default-clause-through : goal.returns-in_default-clause-through
returns-in_default-clause-through g c state read h told durable is_read shown =
    opening_through g.D.Watched c.args.disk c.args.disk state durable read is_read h shown
    (opens_still g.D.Watched c.args.disk g.met.D.Disk.only_now state told)

pub returns-in_default-clause-as_of : goal.returns-in_default-clause-as_of
returns-in_default-clause-as_of g c state told may = opens_still g.D.Watched c.args.disk g.met.D.Disk.only_now state told

pub returns-in_default-clause-stays_intact : goal.returns-in_default-clause-stays_intact
returns-in_default-clause-stays_intact g c state told may intact =
    waits g.D.Watched LeavesIntact g.met.D.Disk.only_now c.args.disk state told intact

-- ---- where none was opened

pub returns-in-Err-clause-through : goal.returns-in-Err-clause-through
returns-in-Err-clause-through g c state read h told durable is_read shown =
    opening_through g.D.Watched c.args.disk c.in-Err.fail.disk state durable read is_read h shown
    (c.in-Err.ensures.through state told durable.may_open)

pub returns-in_default-clause-unmoved : goal.returns-in_default-clause-unmoved
returns-in_default-clause-unmoved g c some = absurd (none_counted.none some)

pub returns-in-Err-clause-unmoved : goal.returns-in-Err-clause-unmoved
returns-in-Err-clause-unmoved g c some =
    let still = c.in-Err.ensures.unmoved some in
    (still.told, still.calls)

-- ---- where one was

pub invariant_of-result : goal.invariant_of-result
invariant_of-result g c = record {
  ready = λ now told. opened_fit c.in-Ok-recover.parts c.args.room
      (record {
        version = c.new.result;
        front = c.new-2.result;
        back = record {
          manifest = c.in-Ok-recover.parts.manifest;
          state = c.in-Ok-recover.parts.state;
          next_log = c.max-next_log.result;
          epoch = 0;
          waiting = c.in-Ok-recover.parts.waiting;
        };
      })
      (record {
        last = c.new-2.ensures.oracle;
        knows = c.new-2.ensures.knows;
        log = c.new-2.ensures.log.0;
        room_is = c.new-2.ensures.log.1 ∙ c.in-Ok-recover.ensures.room;
        halted = c.new-2.ensures.log.2;
        state = refl;
        next_log = c.max-next_log.ensures ∙ ap (max c.in-Ok-recover.parts.state.next_log) c.saturating_add-above.ensures;
        manifest = refl;
        epoch = refl;
        waiting = refl;
        active = c.new.ensures.active;
        frozen = c.new.ensures.frozen;
        leveled = subst (AreLeveled c.in-Ok-recover.parts.levels.items) (sym c.new.ensures.levels) c.with_levels-leveled.ensures;
        logs = c.new.ensures.logs;
      }) now (g.met.D.Disk.lawful c.in-Ok-recover.parts.disk now told) (c.in-Ok-recover.ensures.ready now told);
  numbered = opened_numbered c.in-Ok-recover.parts c.args.room
      (record {
        version = c.new.result;
        front = c.new-2.result;
        back = record {
          manifest = c.in-Ok-recover.parts.manifest;
          state = c.in-Ok-recover.parts.state;
          next_log = c.max-next_log.result;
          epoch = 0;
          waiting = c.in-Ok-recover.parts.waiting;
        };
      })
      (record {
        last = c.new-2.ensures.oracle;
        knows = c.new-2.ensures.knows;
        log = c.new-2.ensures.log.0;
        room_is = c.new-2.ensures.log.1 ∙ c.in-Ok-recover.ensures.room;
        halted = c.new-2.ensures.log.2;
        state = refl;
        next_log = c.max-next_log.ensures ∙ ap (max c.in-Ok-recover.parts.state.next_log) c.saturating_add-above.ensures;
        manifest = refl;
        epoch = refl;
        waiting = refl;
        active = c.new.ensures.active;
        frozen = c.new.ensures.frozen;
        leveled = subst (AreLeveled c.in-Ok-recover.parts.levels.items) (sym c.new.ensures.levels) c.with_levels-leveled.ensures;
        logs = c.new.ensures.logs;
      }) c.in-Ok-recover.ensures.numbered;
  lent = λ o is. absurd cc;
  there = λ running. opened_there g.D.Watched g.D.Writer.Writer g.D.Held.HeldFile.bytes c.args.room c.args.disk
      c.in-Ok-recover.parts.disk
      (record {
        version = c.new.result;
        front = c.new-2.result;
        back = record {
          manifest = c.in-Ok-recover.parts.manifest;
          state = c.in-Ok-recover.parts.state;
          next_log = c.max-next_log.result;
          epoch = 0;
          waiting = c.in-Ok-recover.parts.waiting;
        };
      }) c.new-4.result c.in-Ok-recover.ensures.untold c.in-Ok-recover.ensures.repaired
      (λ state read found told is_read.
      let (other, unused, opened) = c.in-Ok-recover.ensures.answer state read told is_read in
      opened_core c.in-Ok-recover.parts c.args.room
      (record {
        version = c.new.result;
        front = c.new-2.result;
        back = record {
          manifest = c.in-Ok-recover.parts.manifest;
          state = c.in-Ok-recover.parts.state;
          next_log = c.max-next_log.result;
          epoch = 0;
          waiting = c.in-Ok-recover.parts.waiting;
        };
      })
      (record {
        last = c.new-2.ensures.oracle;
        knows = c.new-2.ensures.knows;
        log = c.new-2.ensures.log.0;
        room_is = c.new-2.ensures.log.1 ∙ c.in-Ok-recover.ensures.room;
        halted = c.new-2.ensures.log.2;
        state = refl;
        next_log = c.max-next_log.ensures ∙ ap (max c.in-Ok-recover.parts.state.next_log) c.saturating_add-above.ensures;
        manifest = refl;
        epoch = refl;
        waiting = refl;
        active = c.new.ensures.active;
        frozen = c.new.ensures.frozen;
        leveled = subst (AreLeveled c.in-Ok-recover.parts.levels.items) (sym c.new.ensures.levels) c.with_levels-leveled.ensures;
        logs = c.new.ensures.logs;
      }) read found other opened g.D.Held.HeldFile.bytes c.in-Ok-recover.ensures.active
      (c.in-Ok-recover.ensures.tables state read told is_read) (c.in-Ok-recover.ensures.logs state read found told is_read))
      c.new-4.ensures.in_use c.new-4.ensures.trash;
  known = ap (λ (held : Contents). are_known c.new-2.result.oracle.last held.entries) c.new.ensures.active;
  pinned = ap (λ (o : LiveTickets). tickets_in o.tickets) c.new-2.ensures.oracle
      ∙ sym (ap (λ (o : LiveTickets). tickets_in o.tickets) c.new-3.ensures.live);
}

pub returns-clause-unmoved : goal.returns-clause-unmoved
returns-clause-unmoved g c some = absurd (none_counted.none some)

pub returns-clause-core : goal.returns-clause-core
returns-clause-core g c state read found told is_read =
    let (other, unused, opened) = c.in-Ok-recover.ensures.answer state read told is_read in
    opened_core c.in-Ok-recover.parts c.args.room
    (record {
      version = c.new.result;
      front = c.new-2.result;
      back = record {
        manifest = c.in-Ok-recover.parts.manifest;
        state = c.in-Ok-recover.parts.state;
        next_log = c.max-next_log.result;
        epoch = 0;
        waiting = c.in-Ok-recover.parts.waiting;
      };
    })
    (record {
      last = c.new-2.ensures.oracle;
      knows = c.new-2.ensures.knows;
      log = c.new-2.ensures.log.0;
      room_is = c.new-2.ensures.log.1 ∙ c.in-Ok-recover.ensures.room;
      halted = c.new-2.ensures.log.2;
      state = refl;
      next_log = c.max-next_log.ensures ∙ ap (max c.in-Ok-recover.parts.state.next_log) c.saturating_add-above.ensures;
      manifest = refl;
      epoch = refl;
      waiting = refl;
      active = c.new.ensures.active;
      frozen = c.new.ensures.frozen;
      leveled = subst (AreLeveled c.in-Ok-recover.parts.levels.items) (sym c.new.ensures.levels) c.with_levels-leveled.ensures;
      logs = c.new.ensures.logs;
    }) read found other opened g.D.Held.HeldFile.bytes c.in-Ok-recover.ensures.active
    (c.in-Ok-recover.ensures.tables state read told is_read) (c.in-Ok-recover.ensures.logs state read found told is_read)

pub returns-clause-stands : goal.returns-clause-stands
returns-clause-stands g c state read found h told is_read shown =
    let (other, unused, opened) = c.in-Ok-recover.ensures.answer state read told is_read in
    opened_stands c.in-Ok-recover.parts c.args.room
    (record {
      version = c.new.result;
      front = c.new-2.result;
      back = record {
        manifest = c.in-Ok-recover.parts.manifest;
        state = c.in-Ok-recover.parts.state;
        next_log = c.max-next_log.result;
        epoch = 0;
        waiting = c.in-Ok-recover.parts.waiting;
      };
    })
    (record {
      last = c.new-2.ensures.oracle;
      knows = c.new-2.ensures.knows;
      log = c.new-2.ensures.log.0;
      room_is = c.new-2.ensures.log.1 ∙ c.in-Ok-recover.ensures.room;
      halted = c.new-2.ensures.log.2;
      state = refl;
      next_log = c.max-next_log.ensures ∙ ap (max c.in-Ok-recover.parts.state.next_log) c.saturating_add-above.ensures;
      manifest = refl;
      epoch = refl;
      waiting = refl;
      active = c.new.ensures.active;
      frozen = c.new.ensures.frozen;
      leveled = subst (AreLeveled c.in-Ok-recover.parts.levels.items) (sym c.new.ensures.levels) c.with_levels-leveled.ensures;
      logs = c.new.ensures.logs;
    }) read found other opened g.D.Held.HeldFile.bytes c.in-Ok-recover.ensures.active c.requires h shown
    (c.in-Ok-recover.ensures.tables state read told is_read) (c.in-Ok-recover.ensures.logs state read found told is_read)

pub returns-clause-back : goal.returns-clause-back
returns-clause-back g c state read found told is_read =
    let (other, unused, opened) = c.in-Ok-recover.ensures.answer state read told is_read in
    let (now, told_now) = c.in-Ok-recover.ensures.tells state told in
    opened_back c.in-Ok-recover.parts c.args.room
    (record {
      version = c.new.result;
      front = c.new-2.result;
      back = record {
        manifest = c.in-Ok-recover.parts.manifest;
        state = c.in-Ok-recover.parts.state;
        next_log = c.max-next_log.result;
        epoch = 0;
        waiting = c.in-Ok-recover.parts.waiting;
      };
    })
    (record {
      last = c.new-2.ensures.oracle;
      knows = c.new-2.ensures.knows;
      log = c.new-2.ensures.log.0;
      room_is = c.new-2.ensures.log.1 ∙ c.in-Ok-recover.ensures.room;
      halted = c.new-2.ensures.log.2;
      state = refl;
      next_log = c.max-next_log.ensures ∙ ap (max c.in-Ok-recover.parts.state.next_log) c.saturating_add-above.ensures;
      manifest = refl;
      epoch = refl;
      waiting = refl;
      active = c.new.ensures.active;
      frozen = c.new.ensures.frozen;
      leveled = subst (AreLeveled c.in-Ok-recover.parts.levels.items) (sym c.new.ensures.levels) c.with_levels-leveled.ensures;
      logs = c.new.ensures.logs;
    }) read found other opened now (g.met.D.Disk.lawful c.in-Ok-recover.parts.disk now told_now)
    (c.in-Ok-recover.ensures.ready now told_now).log c.in-Ok-recover.ensures.manifest
    (c.in-Ok-recover.ensures.waiting state read found told is_read)

pub returns-clause-represents : goal.returns-clause-represents
returns-clause-represents g c state read found h told may is_read shown =
    let (other, unused, opened) = c.in-Ok-recover.ensures.answer state read told is_read in
    opened_represents c.in-Ok-recover.parts c.args.room
    (record {
      version = c.new.result;
      front = c.new-2.result;
      back = record {
        manifest = c.in-Ok-recover.parts.manifest;
        state = c.in-Ok-recover.parts.state;
        next_log = c.max-next_log.result;
        epoch = 0;
        waiting = c.in-Ok-recover.parts.waiting;
      };
    })
    (record {
      last = c.new-2.ensures.oracle;
      knows = c.new-2.ensures.knows;
      log = c.new-2.ensures.log.0;
      room_is = c.new-2.ensures.log.1 ∙ c.in-Ok-recover.ensures.room;
      halted = c.new-2.ensures.log.2;
      state = refl;
      next_log = c.max-next_log.ensures ∙ ap (max c.in-Ok-recover.parts.state.next_log) c.saturating_add-above.ensures;
      manifest = refl;
      epoch = refl;
      waiting = refl;
      active = c.new.ensures.active;
      frozen = c.new.ensures.frozen;
      leveled = subst (AreLeveled c.in-Ok-recover.parts.levels.items) (sym c.new.ensures.levels) c.with_levels-leveled.ensures;
      logs = c.new.ensures.logs;
    }) read found other opened g.D.Held.HeldFile.bytes c.in-Ok-recover.ensures.active c.requires h shown state
    (g.D.Watched.told c.in-Ok-recover.parts.disk) (g.met.D.Disk.lawful c.args.disk state told) may is_read
    (λ now told_now. g.met.D.Disk.lawful c.in-Ok-recover.parts.disk now told_now)
    (c.in-Ok-recover.ensures.repaired state read told is_read)
    (returns-clause-back g c state read found told is_read) c.in-Ok-recover.ensures.manifest
    (returns-clause-stands g c state read found h told is_read shown)

pub returns-clause-fits : goal.returns-clause-fits
returns-clause-fits g c state read found h told is_read shown =
    opened_fits found h shown c.args.room state (g.D.Watched.told c.in-Ok-recover.parts.disk) _ is_read
    (c.in-Ok-recover.ensures.repaired state read told is_read) (returns-clause-back g c state read found told is_read)

pub returns-clause-through : goal.returns-clause-through
returns-clause-through g c state read h told durable is_read shown =
    opening_through g.D.Watched c.args.disk c.in-Ok-recover.parts.disk state durable read is_read h shown
    (c.in-Ok-recover.ensures.through state told durable.may_open)

pub returns-clause-answer : goal.returns-clause-answer
returns-clause-answer g c state read told is_read =
    let (found, unused, opened) = c.in-Ok-recover.ensures.answer state read told is_read in (found, unused)

pub returns-clause-collects : goal.returns-clause-collects
returns-clause-collects g c state read found h told is_read shown = record {
  tally = subst (λ (logs : List (SealedLog g.row.D-Held.Denot)). AreSealed logs (layout_at_start c.args.room (recovered found shown)))
      (sym c.new.ensures.logs)
      (sealed_begun g.D.Held.HeldFile.bytes found h shown c.args.room c.in-Ok-recover.parts.sealed.items
      (c.in-Ok-recover.ensures.logs state read found told is_read));
  passing = refl;
  readable = begun_readable found h shown c.args.room;
}

pub returns-clause-removes : goal.returns-clause-removes
returns-clause-removes g c state read found h told is_read shown =
    removes_at_start _ _ found h shown c.args.room
    (record {
      live = c.new-3.ensures.live;
      merge = c.new-3.ensures.merge;
      pass = c.new-3.ensures.pass;
      in_use = c.new-4.ensures.in_use;
      trash = c.new-4.ensures.trash;
    })
    (subst (λ (logs : List (SealedLog g.row.D-Held.Denot)). AreSealed logs (layout_at_start c.args.room (recovered found shown)))
    (sym c.new.ensures.logs)
    (sealed_begun g.D.Held.HeldFile.bytes found h shown c.args.room c.in-Ok-recover.parts.sealed.items
    (c.in-Ok-recover.ensures.logs state read found told is_read)))

-- ---- a fault of the reader

pub returns-in_default-clause-read_fault : goal.returns-in_default-clause-read_fault
returns-in_default-clause-read_fault g c some = absurd (none_counted.none some)

pub returns-in-Err-clause-read_fault : goal.returns-in-Err-clause-read_fault
returns-in-Err-clause-read_fault g c some = as_fault c.in-Err.fail.why (c.in-Err.ensures.read_fault some)

pub returns-clause-read_fault : goal.returns-clause-read_fault
returns-clause-read_fault g c some = absurd (none_counted.none some)

-- ---- the runs in memory

pub returns-clause-runs : goal.returns-clause-runs
returns-clause-runs g c =
    subst (All IsOneRun) (sym c.new.ensures.frozen) (all_reversed IsOneRun c.in-Ok-recover.parts.frozen.items c.in-Ok-recover.ensures.runs)

pub returns-clause-active : goal.returns-clause-active
returns-clause-active g c = c.new.ensures.active

pub returns-clause-pruned : goal.returns-clause-pruned
returns-clause-pruned g c = c.new-2.ensures.pruned

-- ---- where no reader fails

pub returns-in_default-clause-steady : goal.returns-in_default-clause-steady
returns-in_default-clause-steady g c sure = none_counted

pub returns-in-Err-clause-steady : goal.returns-in-Err-clause-steady
returns-in-Err-clause-steady g c sure = c.in-Err.ensures.steady sure

pub returns-clause-steady : goal.returns-clause-steady
returns-clause-steady g c sure = none_counted

pub returns-in_default-clause-unread : goal.returns-in_default-clause-unread
returns-in_default-clause-unread g c state read told is_read none = none_counted

pub returns-clause-unread : goal.returns-clause-unread
returns-clause-unread g c state read told is_read none = none_counted
