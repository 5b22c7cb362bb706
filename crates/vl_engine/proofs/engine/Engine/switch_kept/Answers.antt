use Rattle.std.proofs.Common.{ap, arith, refl, sym, ◌∙◌, ℕ}
use Rattle.vl_disk.specs.DiskState.{appended}
use Rattle.vl_disk.specs.declared.name.Name.TheVariants as names
use Rattle.vl_steps.specs.laws.KeptBy.{files_in_part, files_switched, fit_by, same_after, same_by, staged_by, stops_by, writes_by}
use Rattle.vl_steps.specs.laws.Lending.{leaves_switch, leaves_then, leaves_told, no_manifest, still_lent}
use Rattle.vl_space.specs.laws.StillThere.{there_still, there_told}
use Rattle.vl_space.specs.laws.There.Kept.{same_stand}
use Rattle.vl_steps.specs.laws.Untold.{untold_by}
use Rattle.vl_manifest.specs.Switching.{switched}
use Rattle.vl_engine.proofs.engine.Engine.switch_kept.Goals as goal

-- there was no memory

pub invariant_of-self : goal.invariant_of-self
invariant_of-self g c =
    let before = c.args.self.now in
    let next = before.core.back.state.next_table in
    let leaves = leaves_told g.D.Watched before.disk c.stage.new.disk (names.Manifest before.core.back.manifest.number)
    (no_manifest before.core.back.manifest.number) c.in_default.ensures.no_change.told c.in_default.ensures.elsewhere next in
    record {
      ready = λ state told. before.ready state (sym c.in_default.ensures.no_change.told ∙ told);
      numbered = before.numbered;
      lent = still_lent g.D.Watched before.disk c.stage.new.disk next next before.merging (omega arith) leaves before.lent;
      known = before.known;
      pinned = before.pinned;
      there = λ running. there_told g.D.Watched g.D.Writer.Writer before.disk c.stage.new.disk before.core before.core
          before.merging before.merging before.removing.stock before.removing.stock refl refl (omega arith) refl refl
          c.in_default.ensures.no_change.told leaves (before.there running);
    }

-- it is written

pub invariant_of-self-in-Ok-switch : goal.invariant_of-self-in-Ok-switch
invariant_of-self-in-Ok-switch g c =
    let core = c.args.self.now.core in
    let told = g.D.Watched.told in
    record {
      ready = fit_by core _ refl (λ running. running) c.in-Ok-switch.ensures.number refl refl
          (switched core.back.manifest.number c.in-Ok.staged.frame.items) (told c.args.self.now.disk) (told c.stage.new.disk)
          (told c.switch.new.disk) c.in-Ok.ensures.no_change.told c.in-Ok-switch.ensures.switched.performs.done
          (files_switched core.back.manifest.number c.in-Ok.staged.frame.items) c.args.self.now.ready;
      numbered = c.args.self.now.numbered;
      lent = still_lent g.D.Watched c.args.self.now.disk c.switch.new.disk core.back.state.next_table core.back.state.next_table
          c.args.self.now.merging (omega arith)
          (leaves_then g.D.Watched core.back.state.next_table c.args.self.now.disk c.stage.new.disk c.switch.new.disk
          (leaves_told g.D.Watched c.args.self.now.disk c.stage.new.disk (names.Manifest core.back.manifest.number)
          (no_manifest core.back.manifest.number) c.in-Ok.ensures.no_change.told c.in-Ok.ensures.elsewhere
          core.back.state.next_table)
          (leaves_switch g.D.Watched c.stage.new.disk c.switch.new.disk core.back.manifest.number c.in-Ok.staged.frame.items _
          c.in-Ok-switch.ensures.switched core.back.state.next_table)) c.args.self.now.lent;
      known = c.args.self.now.known;
      pinned = c.args.self.now.pinned;
      there = λ running. there_still g.D.Watched g.D.Writer.Writer c.args.self.now.disk c.switch.new.disk core _
          c.args.self.now.merging c.args.self.now.merging c.args.self.now.removing.stock c.args.self.now.removing.stock
          refl refl (omega arith) refl refl
          (untold_by (switched core.back.manifest.number c.in-Ok.staged.frame.items) (told c.args.self.now.disk) (told c.stage.new.disk)
          (told c.switch.new.disk) c.in-Ok.ensures.no_change.told c.in-Ok-switch.ensures.switched.performs.done)
          (same_stand (told c.args.self.now.disk) (told c.switch.new.disk)
          (same_after (told c.args.self.now.disk) (told c.stage.new.disk) (told c.switch.new.disk) c.in-Ok.ensures.no_change.told
          (same_by (switched core.back.manifest.number c.in-Ok.staged.frame.items) (told c.stage.new.disk) (told c.switch.new.disk)
          (files_switched core.back.manifest.number c.in-Ok.staged.frame.items) c.in-Ok-switch.ensures.switched.performs.done)))
          (leaves_then g.D.Watched core.back.state.next_table c.args.self.now.disk c.stage.new.disk c.switch.new.disk
          (leaves_told g.D.Watched c.args.self.now.disk c.stage.new.disk (names.Manifest core.back.manifest.number)
          (no_manifest core.back.manifest.number) c.in-Ok.ensures.no_change.told c.in-Ok.ensures.elsewhere
          core.back.state.next_table)
          (leaves_switch g.D.Watched c.stage.new.disk c.switch.new.disk core.back.manifest.number c.in-Ok.staged.frame.items _
          c.in-Ok-switch.ensures.switched core.back.state.next_table)) (c.args.self.now.there running);
    }

pub returns-in-Ok-switch-clause-files : goal.returns-in-Ok-switch-clause-files
returns-in-Ok-switch-clause-files g c =
    let number = c.args.self.now.core.back.manifest.number in
    let told = g.D.Watched.told in
    same_after (told c.args.self.now.disk) (told c.stage.new.disk) (told c.switch.new.disk) c.in-Ok.ensures.no_change.told
    (same_by (switched number c.in-Ok.staged.frame.items) (told c.stage.new.disk) (told c.switch.new.disk)
    (files_switched number c.in-Ok.staged.frame.items) c.in-Ok-switch.ensures.switched.performs.done)

pub returns-in-Ok-switch-clause-as_kept : goal.returns-in-Ok-switch-clause-as_kept
returns-in-Ok-switch-clause-as_kept g c =
    let core = c.args.self.now.core in
    let wrote = c.in-Ok-switch.ensures in
    record {
      staged = c.in-Ok.staged;
      of = staged_by g.D.Watched core c.args.versions c.in-Ok.staged c.args.self.now.disk c.stage.new.disk c.switch.new.disk
          c.in-Ok.ensures.no_change c.next_since-since.result c.next_since-since.ensures c.in-Ok.ensures.staged;
      writes = writes_by g.D.Watched core c.args.versions c.in-Ok.staged c.args.self.now.disk c.stage.new.disk c.switch.new.disk
          c.in-Ok.ensures.no_change _ wrote.switched.performs;
      changed = wrote.switched.performs.done;
      calls = wrote.switched.performs.calls;
      front = refl;
      back = record {
        number = wrote.number;
        longer = wrote.longer;
        state = ap (λ (n : ℕ). record core.back.state { keep = c.args.versions; since = n }) c.next_since-since.ensures;
        next_log = refl;
        waiting = refl;
        epoch = refl;
      };
      version = refl;
    }

-- it failed

pub invariant_of-self-in-Err : goal.invariant_of-self-in-Err
invariant_of-self-in-Err g c =
    let core = c.args.self.now.core in
    let told = g.D.Watched.told in
    let (taken, within, changed) = c.in-Err.ensures.switched.failed in
    record {
      ready = fit_by core _ refl (λ running. absurd cc) c.in-Err.ensures.number refl refl
          (appended (names.Manifest core.back.manifest.number) c.in-Ok.staged.frame.items taken) (told c.args.self.now.disk)
          (told c.stage.new.disk) (told c.switch.new.disk) c.in-Ok.ensures.no_change.told changed
          (files_in_part core.back.manifest.number c.in-Ok.staged.frame.items taken) c.args.self.now.ready;
      numbered = c.args.self.now.numbered;
      lent = still_lent g.D.Watched c.args.self.now.disk c.switch.new.disk core.back.state.next_table core.back.state.next_table
          c.args.self.now.merging (omega arith)
          (leaves_then g.D.Watched core.back.state.next_table c.args.self.now.disk c.stage.new.disk c.switch.new.disk
          (leaves_told g.D.Watched c.args.self.now.disk c.stage.new.disk (names.Manifest core.back.manifest.number)
          (no_manifest core.back.manifest.number) c.in-Ok.ensures.no_change.told c.in-Ok.ensures.elsewhere
          core.back.state.next_table)
          (leaves_switch g.D.Watched c.stage.new.disk c.switch.new.disk core.back.manifest.number c.in-Ok.staged.frame.items _
          c.in-Err.ensures.switched core.back.state.next_table)) c.args.self.now.lent;
      known = c.args.self.now.known;
      pinned = c.args.self.now.pinned;
      there = λ running. absurd cc;
    }

pub returns-clause-files : goal.returns-clause-files
returns-clause-files g c =
    let number = c.args.self.now.core.back.manifest.number in
    let told = g.D.Watched.told in
    let (taken, within, changed) = c.in-Err.ensures.switched.failed in
    same_after (told c.args.self.now.disk) (told c.stage.new.disk) (told c.switch.new.disk) c.in-Ok.ensures.no_change.told
    (same_by (appended (names.Manifest number) c.in-Ok.staged.frame.items taken) (told c.stage.new.disk) (told c.switch.new.disk)
    (files_in_part number c.in-Ok.staged.frame.items taken) changed)

pub returns-clause-as_kept : goal.returns-clause-as_kept
returns-clause-as_kept g c =
    let core = c.args.self.now.core in
    let failed = c.in-Err.ensures.switched.performs in
    record {
      staged = c.in-Ok.staged;
      of = staged_by g.D.Watched core c.args.versions c.in-Ok.staged c.args.self.now.disk c.stage.new.disk c.switch.new.disk
          c.in-Ok.ensures.no_change c.next_since-since.result c.next_since-since.ensures c.in-Ok.ensures.staged;
      writes = writes_by g.D.Watched core c.args.versions c.in-Ok.staged c.args.self.now.disk c.stage.new.disk c.switch.new.disk
          c.in-Ok.ensures.no_change _ failed;
      stops = stops_by g.D.Watched core c.args.versions c.in-Ok.staged c.args.self.now.disk c.stage.new.disk c.switch.new.disk
          c.in-Ok.ensures.no_change _ failed;
      front = refl;
      state = refl;
      epoch = refl;
      version = refl;
    }
