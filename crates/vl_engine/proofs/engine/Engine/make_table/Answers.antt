use Rattle.std.proofs.Common.{◌≡◌, Global, List, Vec, [], ap, arith, refl, sym, ◌++◌, ◌∙◌, ◌∷◌, ℕ}
use Rattle.vl_table.specs.declared.body.shape.TableShape.{TableShape}
use Rattle.vl_space.specs.laws.CollectLaws.{keeps_readied, leads_same}
use Rattle.vl_engine.proofs.Switching.{has_flushed}
use Rattle.std.specs.List.{filter}
use Rattle.vl_space.specs.laws.HeldLogs.{holds_needed}
use Rattle.vl_space.specs.Collecting.{points_in}
use Rattle.vl_version.specs.Needed.{head_of, is_kept}
use Rattle.vl_table.specs.declared.table.Table.{Table}
use Rattle.vl_version.specs.levels.LevelTables.{all_tables}
use Rattle.std.specs.Prelude.{None, Some}
use Rattle.vl_disk.specs.declared.name.Name.TheVariants as names
use Rattle.vl_engine_laws.specs.laws.FlushKeeps.{changed_by, failed_then, fit_flushed, fit_unflushed, kept_from, next_then}
use Rattle.vl_engine_laws.specs.laws.FlushKeeps.{still_told, stops_by, writes_by}
use Rattle.vl_steps.specs.laws.Lending.{leaves_then, leaves_written, still_lent}
use Rattle.vl_engine_laws.specs.Fit.{IsFitFor}
use Rattle.vl_engine_laws.specs.Known.{are_known}
use Rattle.vl_manifest.specs.declared.manifest_log.ManifestLog.{ManifestLog}
use Rattle.vl_manifest.specs.declared.state.ManifestState.{ManifestState}
use Rattle.vl_memtable.specs.Contents.{Contents}
use Rattle.vl_disk.specs.DiskState.{DiskState}
use Rattle.vl_space.specs.laws.Pinned.{same_beside}
use Rattle.vl_space.specs.laws.Retired.Changing.{has_some, no_logs, only_tables, stays_either, stays_itself, stays_readied}
use Rattle.vl_engine.proofs.Retired.Flushing.{switches_stock}
use Rattle.vl_space.specs.laws.Retired.Switched.{keeps_made, keeps_switch, made_stands, there_by}
use Rattle.vl_space.specs.laws.Retired.There.{from_use, still_but, there_quiet, there_used}
use Rattle.vl_space.specs.Removing.{numbers_left}
use Rattle.vl_space.specs.Retiring.{is_idle_log}
use Rattle.vl_pins.specs.Files.{kept_in, with_tables}
use Rattle.vl_pins.specs.declared.pins.Pins.{Pins}
use Rattle.vl_engine.proofs.engine.Engine.make_table.Goals as goal

pub write_and_switch-requires-clause-free : goal.write_and_switch-requires-clause-free
write_and_switch-requires-clause-free g c disk told =
    ((c.args.self.now.ready disk (sym c.in-Ok.ensures.no_change.told ∙ told)).steps c.requires.running).tables
    c.args.self.now.core.back.state.next_table (omega arith)

-- the other files

pub returns-in-Ok-write_and_switch-clause-files : goal.returns-in-Ok-write_and_switch-clause-files
returns-in-Ok-write_and_switch-clause-files g c =
    kept_from (names.Table c.args.self.now.core.back.state.next_table) (g.D.Watched.told c.args.self.now.disk)
    (g.D.Watched.told c.ready_flush.new.disk) (g.D.Watched.told c.write_and_switch.new.disk) c.in-Ok.ensures.no_change.told
    c.in-Ok-write_and_switch.ensures.files

pub returns-in-Err-clause-files : goal.returns-in-Err-clause-files
returns-in-Err-clause-files g c =
    kept_from (names.Table c.args.self.now.core.back.state.next_table) (g.D.Watched.told c.args.self.now.disk)
    (g.D.Watched.told c.ready_flush.new.disk) (g.D.Watched.told c.write_and_switch.new.disk) c.in-Ok.ensures.no_change.told
    c.in-Err.ensures.files

-- it is made

pub invariant_of-self-in-Ok-write_and_switch : goal.invariant_of-self-in-Ok-write_and_switch
invariant_of-self-in-Ok-write_and_switch g c =
    let core = c.args.self.now.core in
    let wrote = c.in-Ok-write_and_switch.ensures in
    let applied = c.apply_flush.ensures in
    let some = c.args.self.now.numbered in
    let next = ap (λ (s : ManifestState). s.next_table) applied.state
    ∙ next_then core.front.log.number core.back c.in-Ok.ready.staged.state c.requires.may.waits c.in-Ok.ensures.of.is.says in
    let next_log = applied.next_log in
    record {
      ready = still_told {P = IsFitFor core} (names.Table core.back.state.next_table) (g.D.Watched.told c.ready_flush.new.disk)
          (g.D.Watched.told c.write_and_switch.new.disk)
          (λ disk told. c.args.self.now.ready disk (sym c.in-Ok.ensures.no_change.told ∙ told)) wrote.files wrote.untold
          (λ disk now fit kept. fit_flushed core _ disk now fit kept refl c.requires.running
          (ap (λ (m : ManifestLog). m.number) applied.manifest ∙ wrote.number) applied.next_log next);
      numbered = (omega (arith, some, next_log), omega (arith, next));
      lent = still_lent g.D.Watched c.args.self.now.disk c.write_and_switch.new.disk core.back.state.next_table
          c.apply_flush.new.self.state.next_table c.args.self.now.merging (omega (arith, next))
          (leaves_then g.D.Watched core.back.state.next_table c.args.self.now.disk c.ready_flush.new.disk
          c.write_and_switch.new.disk c.in-Ok.ensures.lent
          (leaves_written g.D.Watched c.ready_flush.new.disk c.write_and_switch.new.disk core.back.manifest.number
          core.back.state.next_table wrote.files wrote.untold wrote.beside)) c.args.self.now.lent;
      known = ap (λ (m : Contents). are_known core.front.oracle.last m.entries)
          (c.with_table.ensures.active ∙ c.in-Ok.ensures.version.active) ∙ c.args.self.now.known;
      pinned = same_beside core.front.oracle c.args.self.now.removing.pins c.switch.new.self.pins c.args.self.now.pinned
          (ap (λ (p : Pins). p.live.tickets) (c.switch.ensures.pins ∙ c.make_room.ensures.pins));
      there = λ running.
          let stock = c.make_room.new.self.stock in
          let room = c.in-Ok-make_room.ensures.readied.room in
          let number = core.back.state.next_table in
          let old = c.args.self.now.disk in
          let new = c.write_and_switch.new.disk in
          let told = g.D.Watched.told in
          let quiet = c.in-Ok.ensures.no_change.told in
          let was = there_used g.D.Watched g.D.Writer.Writer old core c.args.self.now.merging c.args.self.now.removing.stock stock
          (stays_readied core c.args.self.now.removing.stock stock 1 c.lent_count-lent.result c.in-Ok-make_room.ensures.readied)
          (c.args.self.now.there c.requires.running) in
          let free = λ (state : DiskState) (is : told old ≡ Some state). ((c.args.self.now.ready state is).steps c.requires.running).tables
          number (omega arith) in
          let keeps = kept_from (names.Table number) (told old) (told c.ready_flush.new.disk) (told new) quiet wrote.files in
          there_by g.D.Watched g.D.Writer.Writer new _ c.args.self.now.merging c.switch.new.self.stock _ (numbers_left stock.trash.items)
          (c.switch.ensures.switched (kept_in room.in_use stock) (has_some stock room.in_use room.is_some))
          (keeps_switch g.D.Watched g.D.Writer.Writer new c.apply_flush.new.self.state.next_table core.front.log.number
          (numbers_left stock.trash.items) c.apply_flush.new.self.epoch []
          (is_idle_log c.head_of-head.result c.in-Ok-live_behind.behind.live) (with_tables (number ∷ []) (kept_in room.in_use stock))
          (keeps_made g.D.Watched g.D.Writer.Writer old new core.back.state.next_table c.apply_flush.new.self.state.next_table
          core.front.log.number number (kept_in room.in_use stock) (λ none. wrote.untold (quiet ∙ none))
          (λ from now was is name stands. still_but (names.Table number) (told old) (told new) from now keeps was is (free from was) name
          stands)
          (omega (arith, next))
          (leaves_then g.D.Watched core.back.state.next_table old c.ready_flush.new.disk new c.in-Ok.ensures.lent
          (leaves_written g.D.Watched c.ready_flush.new.disk new core.back.manifest.number number wrote.files wrote.untold wrote.beside))
          free (made_stands number _ _ _ (told c.ready_flush.new.disk) (told new) wrote.writes.done) was.waiting
          (λ state is. from_use core state stock room.in_use room.is_some (was.files state is))))
          was.distinct
          (let has = (c.switch.ensures.room c.lent_count-lent.result
          (no_logs stock 1 1 1 c.lent_count-lent.result c.lent_count-lent.result refl refl room)).trash in
          let count = c.lent_count-lent.ensures in
          omega (arith, has, count));
    }

pub returns-in-Ok-write_and_switch-clause-as_flushed : goal.returns-in-Ok-write_and_switch-clause-as_flushed
returns-in-Ok-write_and_switch-clause-as_flushed g c =
    let core = c.args.self.now.core in
    let ready = c.in-Ok.ready in
    let wrote = c.in-Ok-write_and_switch.ensures in
    let applied = c.apply_flush.ensures in (
      refl,
      record {
        staged = ready.staged;
        of = c.in-Ok.ensures.of;
        writes = writes_by g.D.Watched core ready.staged c.args.self.now.disk c.ready_flush.new.disk c.write_and_switch.new.disk _
            c.deref-2.ensures.value c.in-Ok.ensures.no_change _ wrote.writes;
        changed = changed_by g.D.Watched core ready.staged c.args.self.now.disk c.ready_flush.new.disk c.write_and_switch.new.disk _
            c.deref-2.ensures.value c.in-Ok.ensures.no_change _ wrote.writes;
        calls = wrote.writes.calls;
        table = c.of.result;
        held = record {
          shape = c.of.ensures.shape;
          held = λ state told. ap g.D.Held.HeldFile.bytes c.of.ensures.held ∙ wrote.held state told
              ∙ ap (λ (bs : List ℕ). Some bs) c.deref-2.ensures.value;
        };
        front = refl;
        back = record {
          number = ap (λ (m : ManifestLog). m.number) applied.manifest ∙ wrote.number;
          longer = ap (λ (m : ManifestLog). m.length) applied.manifest ∙ wrote.longer;
          state = applied.state;
          next_log = applied.next_log;
          waiting = applied.waiting;
          version = applied.version;
        };
        version = record {
          next = ready.version;
          is = c.in-Ok.ensures.version;
          active = c.with_table.ensures.active;
          frozen = c.with_table.ensures.frozen;
          newest = c.with_table.ensures.newest;
          deeper = c.with_table.ensures.deeper;
          idle = _;
          logs = c.with_table.ensures.logs;
        };
      },
    )

-- it failed

pub invariant_of-self-in-Err : goal.invariant_of-self-in-Err
invariant_of-self-in-Err g c =
    let core = c.args.self.now.core in
    let wrote = c.in-Err.ensures in
    record {
      ready = still_told {P = IsFitFor core} (names.Table core.back.state.next_table) (g.D.Watched.told c.ready_flush.new.disk)
          (g.D.Watched.told c.write_and_switch.new.disk)
          (λ disk told. c.args.self.now.ready disk (sym c.in-Ok.ensures.no_change.told ∙ told)) wrote.files wrote.untold
          (λ disk now fit kept. fit_unflushed core _ disk now fit kept refl c.in-Err.name refl);
      numbered = c.args.self.now.numbered;
      lent = still_lent g.D.Watched c.args.self.now.disk c.write_and_switch.new.disk core.back.state.next_table
          core.back.state.next_table c.args.self.now.merging (omega arith)
          (leaves_then g.D.Watched core.back.state.next_table c.args.self.now.disk c.ready_flush.new.disk
          c.write_and_switch.new.disk c.in-Ok.ensures.lent
          (leaves_written g.D.Watched c.ready_flush.new.disk c.write_and_switch.new.disk core.back.manifest.number
          core.back.state.next_table wrote.files wrote.untold wrote.beside)) c.args.self.now.lent;
      known = c.args.self.now.known;
      pinned = same_beside core.front.oracle c.args.self.now.removing.pins c.make_room.new.self.pins c.args.self.now.pinned
          (ap (λ (p : Pins). p.live.tickets) c.make_room.ensures.pins);
      there = λ running. absurd (let clash : Some c.in-Err.name ≡ None = running in cc);
    }

pub returns-in-Err-clause-cause : goal.returns-in-Err-clause-cause
returns-in-Err-clause-cause g c =
    failed_then _ _ _ _ c.in-Ok.ensures.no_change.cause c.in-Err.ensures.writes.cause refl

pub returns-in-Err-clause-as_flushed : goal.returns-in-Err-clause-as_flushed
returns-in-Err-clause-as_flushed g c =
    let core = c.args.self.now.core in
    let ready = c.in-Ok.ready in
    record {
      staged = ready.staged;
      of = c.in-Ok.ensures.of;
      writes = writes_by g.D.Watched core ready.staged c.args.self.now.disk c.ready_flush.new.disk c.write_and_switch.new.disk _
          c.deref-2.ensures.value c.in-Ok.ensures.no_change _ c.in-Err.ensures.writes;
      stops = stops_by g.D.Watched core ready.staged c.args.self.now.disk c.ready_flush.new.disk c.write_and_switch.new.disk _
          c.deref-2.ensures.value c.in-Ok.ensures.no_change c.in-Err.name c.in-Err.ensures.at;
      front = refl;
      epoch = refl;
      state = refl;
      version = refl;
    }

-- what is kept of live bytes

pub returns-in-Ok-write_and_switch-clause-collected : goal.returns-in-Ok-write_and_switch-clause-collected
returns-in-Ok-write_and_switch-clause-collected g c =
    let ready = c.in-Ok.ready in
    has_flushed g.D.Held.HeldFile.bytes c.args.self.now.core _ c.args.self.now.collecting c.live_behind.new.collecting
    c.switch-in-Ok-write_and_switch.new.self
    c.of.result (ready.version.levels.newest.items ++ all_tables ready.version.levels.deeper.items) c.in-Ok-live_behind.behind.live
    c.head_of-head.result c.in-Ok-live_behind.ensures.readied
    (leads_same c.live_behind.new.collecting.tally c.in-Ok-live_behind.behind.live _ _ (points_in (c.of.result ∷ [])) []
    (ap (λ (s : TableShape). s.footer.points.items ∷ []) (c.deref.ensures ∙ sym c.of.ensures.shape)) refl c.in-Ok-live_behind.ensures.live)
    (ap (λ (ts : List (Table g.row.D-Held.Denot)). ts ++ all_tables c.with_table.result.behind.levels.deeper.items)
    c.with_table.ensures.newest
    ∙ ap (λ (ls : Vec (List (Table g.row.D-Held.Denot)) Global).
    (c.of.result ∷ ready.version.levels.newest.items) ++ all_tables ls.items) c.with_table.ensures.deeper)
    c.head_of-head.ensures c.switch-in-Ok-write_and_switch.ensures.passing c.switch-in-Ok-write_and_switch.ensures.flush

pub returns-in-Err-clause-collected : goal.returns-in-Err-clause-collected
returns-in-Err-clause-collected g c =
    keeps_readied g.D.Held.HeldFile.bytes c.args.self.now.core c.args.self.now.collecting c.live_behind.new.collecting
    c.in-Ok-live_behind.ensures.readied

pub invariant_of-self-in_default-live_behind : goal.invariant_of-self-in_default-live_behind
invariant_of-self-in_default-live_behind g c =
    let core = c.args.self.now.core in
    record {
      ready = λ disk told. c.args.self.now.ready disk (sym c.in-Ok.ensures.no_change.told ∙ told);
      numbered = c.args.self.now.numbered;
      lent = still_lent g.D.Watched c.args.self.now.disk c.ready_flush.new.disk core.back.state.next_table core.back.state.next_table
          c.args.self.now.merging (omega arith) c.in-Ok.ensures.lent c.args.self.now.lent;
      known = c.args.self.now.known;
      pinned = c.args.self.now.pinned;
      there = λ running. there_quiet g.D.Watched g.D.Writer.Writer c.args.self.now.disk c.ready_flush.new.disk core
          c.args.self.now.merging c.args.self.now.removing.stock c.in-Ok.ensures.no_change.told c.in-Ok.ensures.lent
          (c.args.self.now.there running);
    }

pub invariant_of-self : goal.invariant_of-self
invariant_of-self g c =
    let core = c.args.self.now.core in
    record {
      ready = λ disk told. c.args.self.now.ready disk (sym c.ready_flush.ensures.no_change.told ∙ told);
      numbered = c.args.self.now.numbered;
      lent = still_lent g.D.Watched c.args.self.now.disk c.ready_flush.new.disk core.back.state.next_table core.back.state.next_table
          c.args.self.now.merging (omega arith) c.ready_flush.ensures.lent c.args.self.now.lent;
      known = c.args.self.now.known;
      pinned = c.args.self.now.pinned;
      there = λ running. there_quiet g.D.Watched g.D.Writer.Writer c.args.self.now.disk c.ready_flush.new.disk core
          c.args.self.now.merging c.args.self.now.removing.stock c.ready_flush.ensures.no_change.told c.ready_flush.ensures.lent
          (c.args.self.now.there running);
    }

pub invariant_of-self-in_default-make_room : goal.invariant_of-self-in_default-make_room
invariant_of-self-in_default-make_room g c =
    let core = c.args.self.now.core in
    record {
      ready = λ disk told. c.args.self.now.ready disk (sym c.in-Ok.ensures.no_change.told ∙ told);
      numbered = c.args.self.now.numbered;
      lent = still_lent g.D.Watched c.args.self.now.disk c.ready_flush.new.disk core.back.state.next_table core.back.state.next_table
          c.args.self.now.merging (omega arith) c.in-Ok.ensures.lent c.args.self.now.lent;
      known = c.args.self.now.known;
      pinned = same_beside core.front.oracle c.args.self.now.removing.pins c.make_room.new.self.pins c.args.self.now.pinned
          (ap (λ (p : Pins). p.live.tickets) c.make_room.ensures.pins);
      there = λ running. there_quiet g.D.Watched g.D.Writer.Writer c.args.self.now.disk c.ready_flush.new.disk core
          c.args.self.now.merging c.make_room.new.self.stock c.in-Ok.ensures.no_change.told c.in-Ok.ensures.lent
          (there_used g.D.Watched g.D.Writer.Writer c.args.self.now.disk core c.args.self.now.merging c.args.self.now.removing.stock
          c.make_room.new.self.stock (stays_either c.make_room.result core c.args.self.now.removing.stock c.make_room.new.self.stock 1
          c.lent_count-lent.result c.make_room.ensures.readied c.make_room.ensures.refused) (c.args.self.now.there running));
    }

pub write_and_switch-requires-clause-stands : goal.write_and_switch-requires-clause-stands
write_and_switch-requires-clause-stands g c disk told =
    ((c.args.self.now.ready disk (sym c.in-Ok.ensures.no_change.told ∙ told)).steps c.requires.running).manifest

pub switch-requires : goal.switch-requires
switch-requires g c = only_tables c.make_room.new.self.stock 1 1 1 c.lent_count-lent.result refl c.in-Ok-make_room.ensures.readied.room

pub returns-in_default-clause-retires : goal.returns-in_default-clause-retires
returns-in_default-clause-retires g c = stays_itself c.args.self.now.core c.args.self.now.removing.stock

pub returns-in_default-live_behind-clause-retires : goal.returns-in_default-live_behind-clause-retires
returns-in_default-live_behind-clause-retires g c = stays_itself c.args.self.now.core c.args.self.now.removing.stock

pub returns-in_default-make_room-clause-collected : goal.returns-in_default-make_room-clause-collected
returns-in_default-make_room-clause-collected g c =
    keeps_readied g.D.Held.HeldFile.bytes c.args.self.now.core c.args.self.now.collecting c.live_behind.new.collecting
    c.in-Ok-live_behind.ensures.readied

pub returns-in-Err-clause-retires : goal.returns-in-Err-clause-retires
returns-in-Err-clause-retires g c =
    stays_readied c.args.self.now.core c.args.self.now.removing.stock c.make_room.new.self.stock 1 c.lent_count-lent.result
    c.in-Ok-make_room.ensures.readied

pub returns-in-Ok-write_and_switch-clause-retires : goal.returns-in-Ok-write_and_switch-clause-retires
returns-in-Ok-write_and_switch-clause-retires g c =
    switches_stock c.args.self.now.core _ (c.args.self.now.core.back.state.next_table ∷ []) [] c.head_of-head.result
    c.apply_flush.new.self.epoch _ c.lent_count-lent.result c.in-Ok-live_behind.behind.live c.switch-in-Ok-write_and_switch.new.self.tally
    c.args.self.now.removing.stock c.make_room.new.self.stock c.switch.new.self.stock c.apply_flush.ensures.version
    c.head_of-head.ensures (c.switch-in-Ok-write_and_switch.ensures.live c.in-Ok-live_behind.ensures.readied.made)
    c.lent_count-lent.ensures c.in-Ok-make_room.ensures.readied c.switch.ensures.switched c.switch.ensures.room
    (holds_needed g.D.Held.HeldFile.bytes c.args.self.now.core
    (record c.args.self.now.core { version = c.with_table.result; back = c.apply_flush.new.self }) c.in-Ok.ready.version.logs.items
    (head_of c.args.self.now.core.front.log.number c.in-Ok.ready.version.frozen.items) c.head_of-head.result c.in-Ok-live_behind.behind.live
    c.switch-in-Ok-write_and_switch.new.self.tally c.in-Ok.ensures.version.logs
    (c.with_table.ensures.logs ∙ ap (λ idle. filter (is_kept idle
    (head_of c.args.self.now.core.front.log.number c.in-Ok.ready.version.frozen.items) c.with_table.result.behind.levels)
    c.in-Ok.ready.version.logs.items)
    (c.deref-in-Ok-write_and_switch.ensures.value ∙ c.in-Ok-live_behind.ensures.idle))
    (ap (head_of c.args.self.now.core.front.log.number) (sym c.with_table.ensures.frozen)) c.head_of-head.ensures
    (c.switch-in-Ok-write_and_switch.ensures.live c.in-Ok-live_behind.ensures.readied.made))
