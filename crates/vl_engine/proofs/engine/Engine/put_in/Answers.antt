use Rattle.std.proofs.Common.{ap, arith, refl, subst, sym, ◌∙◌}
use Rattle.vl_compact.specs.Laid.{AreLevelsOf}
use Rattle.vl_disk.specs.declared.name.Name.TheVariants as names
use Rattle.vl_steps.specs.laws.HandedIn.{made_given, may_take_all}
use Rattle.vl_space.specs.laws.HeldLogs.{holds_needed}
use Rattle.vl_engine_laws.specs.laws.InstallDiskEdits.{install_next}
use Rattle.vl_steps.specs.laws.Lending.{leaves_told, no_manifest, still_lent}
use Rattle.std.specs.List.{filter}
use Rattle.std.specs.Prelude.{None, length, map, ◌++◌}
use Rattle.vl_pins.specs.Files.{BecomesBy, HasRoom}
use Rattle.vl_pins.specs.declared.pins.Pins.{Pins}
use Rattle.vl_version.specs.Needed.{head_of, is_kept}
use Rattle.vl_engine.proofs.PutLeft.{free_of, off_left, put_into, room_put, there_others}
use Rattle.vl_engine.proofs.PutThere.{there_put}
use Rattle.vl_space.specs.Retiring.{LeavesFiles, is_idle_log, left_of, switching}
use Rattle.vl_space.specs.laws.Pinned.{same_beside}
use Rattle.vl_space.specs.laws.Retired.Changing.{stays_either, stays_itself, stays_readied}
use Rattle.vl_space.specs.laws.Retired.There.{there_quiet, there_used}
use Rattle.vl_engine.proofs.Switching.{has_put_in, readied_self}
use Rattle.vl_steps.specs.laws.PutIn.{fit_installed, fit_uninstalled, none_open, quiet_then}
use Rattle.vl_steps.specs.Installing.{InstallsAll, StopsInstalling}
use Rattle.vl_engine_laws.specs.Known.{are_known}
use Rattle.vl_steps.specs.Taking.{MayTakeAll}
use Rattle.vl_engine_model.specs.Levels.{replaced}
use Rattle.vl_engine.proofs.engine.Engine.put_in.Goals as goal

-- memory was wanting

pub invariant_of-self-in_default-ready_install : goal.invariant_of-self-in_default-ready_install
invariant_of-self-in_default-ready_install g c =
    let core = c.args.self.now.core in
    let wanted = c.ready_install.ensures in
    record {
      ready = λ disk told. c.args.self.now.ready disk (sym wanted.no_change.told ∙ told);
      numbered = c.args.self.now.numbered;
      lent = still_lent g.D.Watched c.args.self.now.disk c.ready_install.new.disk core.back.state.next_table core.back.state.next_table
          c.args.self.now.merging (omega arith)
          (leaves_told g.D.Watched c.args.self.now.disk c.ready_install.new.disk (names.Manifest core.back.manifest.number)
          (no_manifest core.back.manifest.number) wanted.no_change.told wanted.elsewhere core.back.state.next_table)
          c.args.self.now.lent;
      known = c.args.self.now.known;
      pinned = same_beside core.front.oracle c.args.self.now.removing.pins c.make_room.new.self.pins c.args.self.now.pinned
          (ap (λ (p : Pins). p.live.tickets) c.make_room.ensures.pins);
      there = λ running. there_quiet g.D.Watched g.D.Writer.Writer c.args.self.now.disk c.ready_install.new.disk core
          c.args.self.now.merging c.make_room.new.self.stock wanted.no_change.told
          (leaves_told g.D.Watched c.args.self.now.disk c.ready_install.new.disk (names.Manifest core.back.manifest.number)
          (no_manifest core.back.manifest.number) wanted.no_change.told wanted.elsewhere core.back.state.next_table)
          (there_used g.D.Watched g.D.Writer.Writer c.args.self.now.disk core c.args.self.now.merging c.args.self.now.removing.stock
          c.make_room.new.self.stock (stays_either c.make_room.result core c.args.self.now.removing.stock c.make_room.new.self.stock
          _ c.lent_count-lent.result c.make_room.ensures.readied c.make_room.ensures.refused) (c.args.self.now.there running));
    }

pub invariant_of-self-in_default-make_room : goal.invariant_of-self-in_default-make_room
invariant_of-self-in_default-make_room g c =
    let before = c.args.self.now in
    record {
      ready = before.ready;
      numbered = before.numbered;
      lent = before.lent;
      known = before.known;
      pinned = same_beside before.core.front.oracle before.removing.pins c.make_room.new.self.pins before.pinned
          (ap (λ (p : Pins). p.live.tickets) c.make_room.ensures.pins);
      there = λ running. there_used g.D.Watched g.D.Writer.Writer before.disk before.core before.merging before.removing.stock
          c.make_room.new.self.stock (stays_either c.make_room.result before.core before.removing.stock c.make_room.new.self.stock
          _ c.lent_count-lent.result c.make_room.ensures.readied c.make_room.ensures.refused) (before.there running);
    }

pub returns-in_default-clause-retires : goal.returns-in_default-clause-retires
returns-in_default-clause-retires g c = (refl, stays_itself c.args.self.now.core c.args.self.now.removing.stock)

-- what is asked before it is written

pub write_install-requires-clause-may : goal.write_install-requires-clause-may
write_install-requires-clause-may g c =
    let core = c.args.self.now.core in
    subst (λ ts. MayTakeAll g.D.Watched g.D.Writer.Writer c.ready_install.new.disk ts.items) (sym c.into_parts-made.ensures.made)
    (may_take_all g.D.Watched g.D.Writer.Writer c.args.self.now.disk c.ready_install.new.disk core.back.state.next_table
    core.back.manifest.number c.args.job c.in-Ok-ready_install.ensures.no_change.told c.in-Ok-ready_install.ensures.elsewhere
    core.front.halted
    c.args.self.now.merging c.args.self.now.lent c.requires.handed c.requires.running)

pub write_install-requires-clause-stands : goal.write_install-requires-clause-stands
write_install-requires-clause-stands g c disk told =
    ((c.args.self.now.ready disk (sym c.in-Ok-ready_install.ensures.no_change.told ∙ told)).steps c.requires.running).manifest

-- it is written

pub invariant_of-self-in-Ok-write_install : goal.invariant_of-self-in-Ok-write_install
invariant_of-self-in-Ok-write_install g c =
    let core = c.args.self.now.core in
    let ready = c.in-Ok-ready_install.ready in
    let wrote = c.in-Ok-write_install.ensures in
    let others = c.apply_install.ensures.others in
    let some = c.args.self.now.numbered in
    let next = ap (λ s. s.next_table) c.apply_install.ensures.state
    ∙ install_next _ core.back.state ready.staged.state c.in-Ok-ready_install.ensures.ready.staged.says in
    let next_log = ap (λ b. b.next_log) others in
    record {
      ready = fit_installed g.D.Watched g.D.Held.HeldFile.bytes g.D.Writer.Writer core _ c.ready_install.new.disk c.write_install.new.disk
          (λ disk told. c.args.self.now.ready disk (sym c.in-Ok-ready_install.ensures.no_change.told ∙ told)) c.args.job.made.items
          (made_given g.D.Watched g.D.Writer.Writer c.args.self.now.disk c.ready_install.new.disk core.back.state.next_table
          core.back.manifest.number c.args.job c.in-Ok-ready_install.ensures.no_change.told c.in-Ok-ready_install.ensures.elsewhere
          core.front.halted
          c.args.self.now.merging c.args.self.now.lent c.requires.handed)
          ready.staged.edits.frame.items ready.levels c.write_install.new.levels refl
          (subst (λ ts. InstallsAll g.D.Watched g.D.Held.HeldFile.bytes g.D.Writer.Writer ts.items core.back.manifest.number
          ready.staged.edits.frame.items c.ready_install.new.disk c.write_install.new.disk ready.levels c.write_install.new.levels)
          c.into_parts-made.ensures.made wrote.writes) c.requires.running (ap (λ b. b.manifest.number) others ∙ wrote.number) next_log next;
      numbered = (omega (arith, some, next_log), omega (arith, some, next));
      lent = none_open g.D.Watched c.write_install.new.disk c.apply_install.new.self.state.next_table;
      known = ap (λ m. are_known core.front.oracle.last m.entries)
          (c.with_levels.ensures.active ∙ c.in-Ok-ready_install.ensures.ready.version.active) ∙ c.args.self.now.known;
      pinned = same_beside core.front.oracle c.args.self.now.removing.pins c.switch.new.self.pins c.args.self.now.pinned
          (ap (λ (p : Pins). p.live.tickets) c.switch.ensures.pins ∙ ap (λ (p : Pins). p.live.tickets) c.make_room.ensures.pins);
      there = λ running.
          let made_room = there_used g.D.Watched g.D.Writer.Writer c.args.self.now.disk core c.args.self.now.merging
          c.args.self.now.removing.stock
          c.make_room.new.self.stock (stays_readied core c.args.self.now.removing.stock c.make_room.new.self.stock _ _
          c.in-Ok-make_room.ensures.readied) (c.args.self.now.there running) in
          there_put g.D.Watched g.D.Held.HeldFile.bytes c.args.self.now.disk c.ready_install.new.disk c.write_install.new.disk
          c.args.job.made.items core.back.manifest.number ready.staged.edits.frame.items ready.levels c.write_install.new.levels
          (subst (λ ts. InstallsAll g.D.Watched g.D.Held.HeldFile.bytes g.D.Writer.Writer ts.items core.back.manifest.number
          ready.staged.edits.frame.items c.ready_install.new.disk c.write_install.new.disk ready.levels c.write_install.new.levels)
          c.into_parts-made.ensures.made wrote.writes) c.in-Ok-ready_install.ensures.no_change.told c.in-Ok-ready_install.ensures.elsewhere
          core _ c.abandon_files.new.stock c.switch.new.self.stock refl next
          (free_of g.D.Watched c.args.self.now.disk c.ready_install.new.disk c.in-Ok-ready_install.ensures.no_change.told
          c.args.job.made.items
          (may_take_all g.D.Watched g.D.Writer.Writer c.args.self.now.disk c.ready_install.new.disk core.back.state.next_table
          core.back.manifest.number c.args.job c.in-Ok-ready_install.ensures.no_change.told c.in-Ok-ready_install.ensures.elsewhere
          core.front.halted c.args.self.now.merging c.args.self.now.lent c.requires.handed c.requires.running).each)
          (off_left g.D.Watched c.args.self.now.disk c.args.self.now.core c.args.self.now.merging c.args.job c.requires.handed c.new.result
          c.new.ensures.items c.make_room.new.self.stock c.abandon_files.new.stock
          (subst (λ ls. LeavesFiles (map left_of c.new.result.items ++ ls.items) c.make_room.new.self.stock c.abandon_files.new.stock)
          c.into_parts-made.ensures.leavings c.abandon_files.ensures) made_room) c.in-Ok-make_room.ensures.readied.room.in_use
          (c.abandon_files.ensures.in_use ∙ c.in-Ok-make_room.ensures.readied.room.is_some)
          c.apply_install.new.self.epoch c.deref-in-Ok-write_install-2.result.now
          (is_idle_log c.head_of-head.result c.args.live)
          (subst (λ ns. BecomesBy (switching c.apply_install.new.self.epoch ns c.deref-in-Ok-write_install-2.result.now
          (is_idle_log c.head_of-head.result c.args.live)) c.abandon_files.new.stock c.switch.new.self.stock)
          (c.deref-in-Ok-write_install.ensures.value ∙ c.in-Ok.ensures.added)
          c.switch.ensures.switched)
          (there_others g.D.Watched c.args.self.now.disk c.args.self.now.core c.args.self.now.merging c.args.job c.requires.handed
          c.new.result
          c.new.ensures.items c.make_room.new.self.stock c.abandon_files.new.stock
          (subst (λ ls. LeavesFiles (map left_of c.new.result.items ++ ls.items) c.make_room.new.self.stock c.abandon_files.new.stock)
          c.into_parts-made.ensures.leavings c.abandon_files.ensures) running c.args.self.now.lent made_room);
    }

pub returns-in-Ok-write_install-clause-as_installed : goal.returns-in-Ok-write_install-clause-as_installed
returns-in-Ok-write_install-clause-as_installed g c =
    let core = c.args.self.now.core in
    let bytes = g.D.Held.HeldFile.bytes in
    let ready = c.in-Ok-ready_install.ready in
    let wrote = c.in-Ok-write_install.ensures in
    let others = c.apply_install.ensures.others in
    record {
      ready = ready;
      is_ready = c.in-Ok-ready_install.ensures.ready;
      begun = c.ready_install.new.disk;
      unchanged = c.in-Ok-ready_install.ensures.no_change;
      levels = c.write_install.new.levels;
      writes = subst (λ ts. InstallsAll g.D.Watched bytes g.D.Writer.Writer ts.items core.back.manifest.number
          ready.staged.edits.frame.items c.ready_install.new.disk c.write_install.new.disk ready.levels c.write_install.new.levels)
          c.into_parts-made.ensures.made wrote.writes;
      front = refl;
      back = record {
        number = ap (λ b. b.manifest.number) others ∙ wrote.number;
        longer = ap (λ b. b.manifest.length) others ∙ wrote.longer;
        state = c.apply_install.ensures.state;
        next_log = ap (λ b. b.next_log) others;
        waiting = ap (λ b. b.waiting.items) others;
        version = c.apply_install.ensures.version;
      };
      active = c.with_levels.ensures.active;
      frozen = c.with_levels.ensures.frozen;
      idle = c.deref.result.now;
      logs = c.with_levels.ensures.logs
          ∙ ap (λ lv. filter (is_kept c.deref.result.now (head_of core.front.log.number ready.version.frozen.items) lv)
          ready.version.logs.items)
          (sym c.with_levels.ensures.levels);
      put = λ target inputs first ls new_ones are begins.
          subst (λ lv. AreLevelsOf bytes lv (replaced target inputs new_ones ls)) (sym c.with_levels.ensures.levels)
          (c.into_levels-levels.ensures target inputs first ls new_ones are begins);
    }

-- it failed

pub invariant_of-self-in-Err : goal.invariant_of-self-in-Err
invariant_of-self-in-Err g c =
    let core = c.args.self.now.core in
    let ready = c.in-Ok-ready_install.ready in
    let wrote = c.in-Err.ensures in
    record {
      ready = fit_uninstalled g.D.Watched g.D.Held.HeldFile.bytes g.D.Writer.Writer core _ c.ready_install.new.disk c.write_install.new.disk
          (λ disk told. c.args.self.now.ready disk (sym c.in-Ok-ready_install.ensures.no_change.told ∙ told)) c.args.job.made.items
          (made_given g.D.Watched g.D.Writer.Writer c.args.self.now.disk c.ready_install.new.disk core.back.state.next_table
          core.back.manifest.number c.args.job c.in-Ok-ready_install.ensures.no_change.told c.in-Ok-ready_install.ensures.elsewhere
          core.front.halted
          c.args.self.now.merging c.args.self.now.lent c.requires.handed)
          ready.staged.edits.frame.items ready.levels c.write_install.new.levels refl c.in-Err.name
          (subst (λ ts. StopsInstalling g.D.Watched g.D.Held.HeldFile.bytes g.D.Writer.Writer ts.items core.back.manifest.number
          ready.staged.edits.frame.items c.ready_install.new.disk c.write_install.new.disk ready.levels c.write_install.new.levels
          c.in-Err.name) c.into_parts-made.ensures.made wrote.stops) refl;
      numbered = c.args.self.now.numbered;
      lent = none_open g.D.Watched c.write_install.new.disk core.back.state.next_table;
      known = c.args.self.now.known;
      pinned = same_beside core.front.oracle c.args.self.now.removing.pins c.make_room.new.self.pins c.args.self.now.pinned
          (ap (λ (p : Pins). p.live.tickets) c.make_room.ensures.pins);
      there = λ running. absurd cc;
    }

pub returns-in-Err-clause-as_installed : goal.returns-in-Err-clause-as_installed
returns-in-Err-clause-as_installed g c =
    let core = c.args.self.now.core in
    let ready = c.in-Ok-ready_install.ready in
    let wrote = c.in-Err.ensures in
    record {
      ready = ready;
      is_ready = c.in-Ok-ready_install.ensures.ready;
      begun = c.ready_install.new.disk;
      unchanged = c.in-Ok-ready_install.ensures.no_change;
      levels = c.write_install.new.levels;
      stops = subst (λ ts. StopsInstalling g.D.Watched g.D.Held.HeldFile.bytes g.D.Writer.Writer ts.items core.back.manifest.number
          ready.staged.edits.frame.items c.ready_install.new.disk c.write_install.new.disk ready.levels c.write_install.new.levels
          c.in-Err.name) c.into_parts-made.ensures.made wrote.stops;
      front = refl;
      epoch = refl;
      state = refl;
      version = refl;
    }

pub returns-in-Err-clause-cause : goal.returns-in-Err-clause-cause
returns-in-Err-clause-cause g c =
    quiet_then _ _ _ _ (Unit {0}) c.in-Ok-ready_install.ensures.no_change.cause c.in-Err.ensures.cause (λ _. tt) (λ _. refl)

-- what is kept of live bytes

pub returns-in-Ok-write_install-clause-collected : goal.returns-in-Ok-write_install-clause-collected
returns-in-Ok-write_install-clause-collected g c =
    has_put_in g.D.Held.HeldFile.bytes g.D.Writer.Writer c.args.job c.args.self.now.core _ c.args.self.now.collecting
    c.args.self.now.collecting c.switch-in-Ok-write_install.new.self c.args.live c.head_of-head.result
    (readied_self g.D.Held.HeldFile.bytes c.args.self.now.core c.args.self.now.collecting c.requires.tallied) c.requires.live
    c.head_of-head.ensures c.switch-in-Ok-write_install.ensures.passing c.switch-in-Ok-write_install.ensures.install

pub switch-requires : goal.switch-requires
switch-requires g c =
    room_put g.D.Watched c.args.self.now.disk c.args.self.now.core c.args.self.now.merging c.args.job c.requires.handed c.new.result
    c.new.ensures.items c.make_room.new.self.stock c.abandon_files.new.stock
    (subst (λ ls. LeavesFiles (map left_of c.new.result.items ++ ls.items) c.make_room.new.self.stock c.abandon_files.new.stock)
    c.into_parts-made.ensures.leavings c.abandon_files.ensures)
    (length c.deref-in-Ok-write_install.result.now) c.lent_count-lent.result c.lent_count-lent.ensures
    (subst (λ n. HasRoom c.make_room.new.self.stock n 1 c.lent_count-lent.result)
    (let a = c.len-count.ensures in let b = c.in-Ok.changes.added.ok.0 in
    let d = ap length c.deref-in-Ok-write_install.ensures.value in omega (arith, a, b, d))
    c.in-Ok-make_room.ensures.readied.room)

pub returns-in-Ok-write_install-clause-cause : goal.returns-in-Ok-write_install-clause-cause
returns-in-Ok-write_install-clause-cause g c =
    quiet_then _ _ _ _ _ c.in-Ok-ready_install.ensures.no_change.cause c.in-Ok-write_install.ensures.cause (λ x. cc) (λ x. absurd x)

pub returns-in-Ok-write_install-clause-retires : goal.returns-in-Ok-write_install-clause-retires
returns-in-Ok-write_install-clause-retires g c = (
  c.switch.ensures.pins ∙ ap (λ (p : Pins). record p { merge = None }) c.make_room.ensures.pins,
  put_into g.D.Watched c.args.self.now.disk c.args.self.now.core c.args.self.now.merging c.args.job c.requires.handed c.new.result
      c.new.ensures.items c.make_room.new.self.stock c.abandon_files.new.stock
      (subst (λ ls. LeavesFiles (map left_of c.new.result.items ++ ls.items) c.make_room.new.self.stock c.abandon_files.new.stock)
      c.into_parts-made.ensures.leavings c.abandon_files.ensures)
      c.args.self.now.core _ c.deref-in-Ok-write_install.result.now c.deref-in-Ok-write_install-2.result.now c.head_of-head.result
      c.apply_install.new.self.epoch c.len-count.result c.lent_count-lent.result c.args.live c.switch-in-Ok-write_install.new.self.tally
      c.args.self.now.removing.stock c.switch.new.self.stock
      (c.deref-in-Ok-write_install.ensures.value ∙ c.in-Ok.ensures.added)
      (c.deref-in-Ok-write_install-2.ensures.value ∙ c.in-Ok.ensures.dropped)
      c.apply_install.ensures.version c.head_of-head.ensures
      (c.switch-in-Ok-write_install.ensures.live c.requires.tallied)
      (let a = c.len-count.ensures in let b = c.in-Ok.changes.added.ok.0 in
      let d = ap length c.deref-in-Ok-write_install.ensures.value in omega (arith, a, b, d)) c.lent_count-lent.ensures
      c.in-Ok-make_room.ensures.readied c.switch.ensures.switched
      (holds_needed g.D.Held.HeldFile.bytes c.args.self.now.core
      (record c.args.self.now.core { version = c.with_levels.result; back = c.apply_install.new.self })
      c.in-Ok-ready_install.ready.version.logs.items
      (head_of c.args.self.now.core.front.log.number c.in-Ok-ready_install.ready.version.frozen.items) c.head_of-head.result c.args.live
      c.switch-in-Ok-write_install.new.self.tally c.in-Ok-ready_install.ensures.ready.version.logs
      (c.with_levels.ensures.logs
      ∙ ap (λ lv. filter (is_kept c.deref.result.now
      (head_of c.args.self.now.core.front.log.number c.in-Ok-ready_install.ready.version.frozen.items) lv)
      c.in-Ok-ready_install.ready.version.logs.items) (sym c.with_levels.ensures.levels)
      ∙ ap (λ idle. filter (is_kept idle
      (head_of c.args.self.now.core.front.log.number c.in-Ok-ready_install.ready.version.frozen.items)
      c.with_levels.result.behind.levels) c.in-Ok-ready_install.ready.version.logs.items)
      (c.deref.ensures.value ∙ c.in-Ok.ensures.idle))
      (ap (head_of c.args.self.now.core.front.log.number) (sym c.with_levels.ensures.frozen)) c.head_of-head.ensures
      (c.switch-in-Ok-write_install.ensures.live c.requires.tallied)),
)
