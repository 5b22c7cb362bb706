use Rattle.std.proofs.Common.{◌≤◌, arith, ap, length, sym, ◌∙◌}
use Rattle.vl_engine_laws.specs.MoveFacts.{move_length}
use Rattle.vl_engine_laws.specs.declared.kept.Core.{Core}
use Rattle.vl_steps.specs.Relocating.{lengths_after}
use Rattle.vl_steps.specs.laws.RelocatingWritten.{no_name, relocated_by, some_left}
use Rattle.vl_engine.proofs.engine.Engine.move_again.Goals as goal

pub returns-in-Ok-write_moves-clause-as_moved : goal.returns-in-Ok-write_moves-clause-as_moved
returns-in-Ok-write_moves-clause-as_moved g c =
    let moved = c.in-Ok.moved.items in
    let frame_is = c.in-Some-move_length.ensures ∙ ap move_length c.deref.ensures.value in
    let fits = c.has_room.ensures.0 c.if-not-has_room.false in
    let some : 1 ≤ length moved =
    some_left c.is_empty.result _ (length moved) c.is_empty.ensures c.if-is_empty.false (sym c.in-Ok.moved.ok.0) in
    relocated_by g.D.Watched g.D.Held.HeldFile.bytes (λ r. g.D.Reader.Reader.faults r) _ _ c.args.segment c.args.batch
    c.records_to_move.new.core c.in-Ok.ensures.same moved c.deref-2.result.now c.deref-2.ensures.value c.in-Ok-write_moves.count
    (record {
      running = no_name c.args.self.now.core.front.halted c.in_default.not-Some;
      finds = c.in-Ok.ensures.finds;
      well = c.in-Ok.ensures.steady;
    })
    some
    (omega (arith, c.if-self-ge-MAX_EPOCH.false))
    (omega (arith, fits, frame_is))
    c.in-Ok-write_moves.ensures.as_written

pub returns-in-Ok-write_moves-clause-runs : goal.returns-in-Ok-write_moves-clause-runs
returns-in-Ok-write_moves-clause-runs g c =
    c.in-Ok-write_moves.ensures.runs
    ∙ ap (λ (core : Core g.row.D-Held.Denot). lengths_after c.in-Ok-write_moves.count core.version.active.lengths) c.in-Ok.ensures.same
