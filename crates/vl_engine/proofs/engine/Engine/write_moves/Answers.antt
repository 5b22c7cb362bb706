use Rattle.std.proofs.Common.{◌≡◌, ◌+◌, ℕ, ap, arith, length, refl, subst, sym, ◌∙◌}
use Rattle.std.specs.Option.{ForSome}
use Rattle.std.specs.Prelude.{Option, List, true}
use Rattle.vl_engine_laws.specs.Fit.{IsFitFor}
use Rattle.vl_engine_laws.specs.Known.{are_known}
use Rattle.vl_disk.specs.Disk.{Stands}
use Rattle.vl_disk.specs.DiskState.{DiskState}
use Rattle.vl_disk.specs.declared.name.Name.TheVariants as names
use Rattle.vl_steps.specs.laws.Fitting.{fit_halted}
use Rattle.vl_engine_laws.specs.Writing.{written}
use Rattle.vl_steps.specs.laws.Filing.{files_written}
use Rattle.vl_steps.specs.laws.KeptBy.{same_after, same_by}
use Rattle.vl_steps.specs.laws.Lending.{leaves_then, still_lent}
use Rattle.vl_engine.proofs.MoveRemoved.{lent_noted}
use Rattle.vl_space.specs.laws.StillThere.{there_still, there_told}
use Rattle.vl_space.specs.laws.There.Kept.{same_stand}
use Rattle.vl_steps.specs.laws.Untold.{untold_by}
use Rattle.vl_steps.specs.laws.RelocatingWritten.{fit_moved, lent_moved, move_changed, move_handed, move_longer, move_stopped, notes_then}
use Rattle.vl_steps.specs.laws.RelocatingStaged.{staged_known}
use Rattle.vl_steps.specs.Relocating.{lengths_after}
use Rattle.vl_steps.specs.laws.RunLengths.{some_after}
use Rattle.vl_model.specs.declared.entry.Entry.{Entry}
use Rattle.vl_seglog.specs.declared.active.ActiveLog.{ActiveLog}
use Rattle.vl_version.specs.declared.version.Version.{Version}
use Rattle.vl_engine.proofs.engine.Engine.write_moves.Goals as goal

pub invariant_of-self : goal.invariant_of-self
invariant_of-self g c =
    let before = c.args.self.now in
    let next = before.core.back.state.next_table in
    record {
      ready = λ state told. before.ready state (sym c.in_default.ensures.no_change.told ∙ told);
      numbered = before.numbered;
      lent = still_lent g.D.Watched before.disk c.stage_move.new.disk next next before.merging (omega arith)
          (c.in_default.ensures.lent next) before.lent;
      known = before.known;
      pinned = before.pinned;
      there = λ running. there_told g.D.Watched g.D.Writer.Writer before.disk c.stage_move.new.disk before.core before.core
          before.merging before.merging before.removing.stock before.removing.stock refl refl (omega arith) refl refl
          c.in_default.ensures.no_change.told (c.in_default.ensures.lent next) (before.there running);
    }

pub invariant_of-self-in_default-append_durably : goal.invariant_of-self-in_default-append_durably
invariant_of-self-in_default-append_durably g c =
    let before = c.args.self.now in
    let next = before.core.back.state.next_table in
    record {
      ready = fit_halted _ (names.Log before.core.front.log.number) refl (g.D.Watched.told c.append_durably.new.disk)
          (subst (λ (n : ℕ). ForSome (g.D.Watched.told c.append_durably.new.disk) (Stands (names.Log n)))
          c.append_durably.ensures.number c.append_durably.ensures.stands);
      numbered = before.numbered;
      lent = still_lent g.D.Watched before.disk c.append_durably.new.disk next next before.merging (omega arith)
          (leaves_then g.D.Watched next before.disk c.stage_move.new.disk c.append_durably.new.disk (c.in-Ok.ensures.lent next)
          (c.append_durably.ensures.lent next)) before.lent;
      known = before.known;
      pinned = before.pinned;
      there = λ running. absurd cc;
    }

pub returns-in_default-append_durably-clause-as_written : goal.returns-in_default-append_durably-clause-as_written
returns-in_default-append_durably-clause-as_written g c =
    let front = c.args.self.now.core.front in
    let staged = c.in-Ok.staged.frame in
    let is = c.in-Ok.ensures.staged.frame in (
      record {
        hands = move_handed g.D.Watched front c.args.moved.now staged is c.args.self.now.disk c.stage_move.new.disk
            c.append_durably.new.disk c.in-Ok.ensures.no_change c.append_durably.ensures.time c.append_durably.ensures.tells;
        stopped = λ clean. move_stopped g.D.Watched front c.args.moved.now staged is c.stage_move.new.disk
            c.append_durably.new.disk (c.in_default-append_durably.ensures.stopped clean);
        core = refl;
      },
      refl,
    )

pub invariant_of-self-2 : goal.invariant_of-self-2
invariant_of-self-2 g c =
    let before = c.args.self.now in
    let next = before.core.back.state.next_table in
    record {
      ready = fit_moved before.core _ (before.core.back.epoch + 1) c.append_durably.ensures.number refl refl
          (names.Log before.core.front.log.number) c.in-Ok.staged.frame.frame.items _ _
          (subst (λ (told : Option DiskState). ForSome told (IsFitFor before.core)) (sym c.in-Ok.ensures.no_change.told) before.ready)
          (rw c.in-Ok-append_durably.is at c.append_durably.ensures.written);
      numbered = before.numbered;
      lent = lent_moved g.D.Watched before.disk c.append_durably.new.disk next before.merging c.note_moves.new.merging
          c.in-Ok.staged.notes.items
          (leaves_then g.D.Watched next before.disk c.stage_move.new.disk c.append_durably.new.disk (c.in-Ok.ensures.lent next)
          (c.append_durably.ensures.lent next)) c.note_moves.ensures before.lent;
      known = subst (λ (es : List Entry). are_known before.core.front.oracle.last es ≡ true)
          (sym (ap (λ (v : Version g.row.D-Held.Denot). v.active.entries) c.set_active.ensures ∙ c.in-Ok.ensures.staged.more))
          (staged_known before.core c.args.moved.now c.requires.may before.known);
      pinned = before.pinned;
      there = λ running. there_still g.D.Watched g.D.Writer.Writer before.disk c.append_durably.new.disk before.core _
          before.merging c.note_moves.new.merging before.removing.stock before.removing.stock
          (ap (λ (v : Version g.row.D-Held.Denot). v.behind) c.set_active.ensures) c.append_durably.ensures.number (omega arith)
          (lent_noted before.merging c.note_moves.new.merging c.in-Ok.staged.notes.items c.note_moves.ensures) refl
          (untold_by _ (g.D.Watched.told before.disk) (g.D.Watched.told c.stage_move.new.disk)
          (g.D.Watched.told c.append_durably.new.disk) c.in-Ok.ensures.no_change.told
          (rw c.in-Ok-append_durably.is at c.append_durably.ensures.written))
          (same_stand (g.D.Watched.told before.disk) (g.D.Watched.told c.append_durably.new.disk)
          (same_after (g.D.Watched.told before.disk) (g.D.Watched.told c.stage_move.new.disk)
          (g.D.Watched.told c.append_durably.new.disk) c.in-Ok.ensures.no_change.told
          (same_by (written (names.Log before.core.front.log.number) c.in-Ok.staged.frame.frame.items)
          (g.D.Watched.told c.stage_move.new.disk) (g.D.Watched.told c.append_durably.new.disk)
          (files_written (names.Log before.core.front.log.number) c.in-Ok.staged.frame.frame.items)
          (rw c.in-Ok-append_durably.is at c.append_durably.ensures.written))))
          (leaves_then g.D.Watched next before.disk c.stage_move.new.disk c.append_durably.new.disk (c.in-Ok.ensures.lent next)
          (c.append_durably.ensures.lent next)) (before.there running);
    }

pub returns-clause-as_written : goal.returns-clause-as_written
returns-clause-as_written g c =
    let core = c.args.self.now.core in
    let front = core.front in
    let moved = c.args.moved.now in
    let staged = c.in-Ok.staged.frame in
    let is = c.in-Ok.ensures.staged.frame in (
      c.in-Ok.ensures.staged.count,
      record {
        hands = move_handed g.D.Watched front moved staged is c.args.self.now.disk c.stage_move.new.disk
            c.append_durably.new.disk c.in-Ok.ensures.no_change c.append_durably.ensures.time c.append_durably.ensures.tells;
        changed = move_changed g.D.Watched front moved staged is c.stage_move.new.disk c.append_durably.new.disk
            (rw c.in-Ok-append_durably.is at c.append_durably.ensures.written);
        calls = rw c.in-Ok-append_durably.is at c.append_durably.ensures.calls;
        front = ap (λ (log : ActiveLog). record front { log = log })
            (move_longer g.D.Watched front moved staged is c.append_durably.new.log c.append_durably.ensures.number
            (rw c.in-Ok-append_durably.is at c.append_durably.ensures.longer));
        behind = ap (λ (v : Version g.row.D-Held.Denot). v.behind) c.set_active.ensures;
        more = ap (λ (v : Version g.row.D-Held.Denot). v.active.entries) c.set_active.ensures ∙ c.in-Ok.ensures.staged.more;
        back = refl;
      },
      notes_then c.args.self.now.merging c.note_moves.new.merging c.in-Ok.staged.notes.items _ c.in-Ok.ensures.staged.notes.are
          c.note_moves.ensures,
    )

-- the runs in memory
pub returns-clause-runs : goal.returns-clause-runs
returns-clause-runs g c =
    let old = c.args.self.now.core.version.active.lengths in
    ap (λ (v : Version g.row.D-Held.Denot). v.active.lengths) c.set_active.ensures ∙ c.in-Ok.ensures.lengths
    ∙ some_after (length c.args.moved.now) old c.requires.may.relocation.some
    ∙ ap (λ (n : ℕ). lengths_after n old) (sym c.in-Ok.ensures.staged.count)
