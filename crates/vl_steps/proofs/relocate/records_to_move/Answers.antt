use Rattle.std.proofs.Common.{ap, subst, ◌∙◌, ℕ}
use Rattle.vl_collect.specs.Faults.{FailsLooking, MayWhere}
use Rattle.vl_steps.proofs.RelocatingFound.{finds_by, kept_by, may_move, passed_on}
use Rattle.vl_engine_model.specs.Relocation.{moved_of}
use Rattle.vl_table.specs.CursorParts.{MayFailOn, is_disk_fault}
use Rattle.vl_version.specs.Bases.{Fits}
use Rattle.vl_version.specs.Sources.{tables_in}
use Rattle.vl_version.specs.declared.version.Version.{Version}
use Rattle.vl_steps.proofs.relocate.records_to_move.Goals as goal

pub returns-in_err-found-clause-cause : goal.returns-in_err-found-clause-cause
returns-in_err-found-clause-cause g c =
    passed_on _ c.from_residual-in_err-found.result _ c.from_residual-in_err-found.ensures.1
    (subst (λ (v : Version g.row.H.Denot). FailsLooking is_disk_fault
    (MayWhere (Fits g.H.HeldFile.bytes v c.args.looks.now) (MayFailOn g.H.HeldFile.bytes (tables_in v)))
    (g.R.Reader.faults c.args.looks.now.reader) (g.R.Reader.faults c.still_moved.new.looks.reader) c.in_err-found.field-0.0)
    (c.new-sources.ensures ∙ c.in_ok-share.ensures.shared) c.in_err-found.ensures.cause)

pub returns-clause-finds : goal.returns-clause-finds
returns-clause-finds g c =
    finds_by g.H.HeldFile.bytes c.args.core.now c.new-sources.result c.args.segment c.args.batch.now c.args.looks.now
    c.in_ok-found.found.items c.only_new.result.items (c.new-sources.ensures ∙ c.in_ok-share.ensures.shared)
    (λ entries fits has. c.in_ok-found.ensures.moved entries fits has
    ∙ ap (λ (n : ℕ). moved_of entries c.args.segment n c.args.batch.now) c.last-last.ensures.last)
    c.in_ok-found.ensures.among
    (kept_by c.args.core.now c.share.new.self c.share.ensures.same c.active.result.now c.active.ensures c.last-last.result
    c.last-last.ensures.last c.in_ok-found.found.items c.only_new.result.items c.only_new.ensures)

pub returns-clause-may : goal.returns-clause-may
returns-clause-may g c =
    may_move c.args.core.now c.in_ok-found.found.items c.only_new.result.items c.in_ok-found.ensures.relocation
    (kept_by c.args.core.now c.share.new.self c.share.ensures.same c.active.result.now c.active.ensures c.last-last.result
    c.last-last.ensures.last c.in_ok-found.found.items c.only_new.result.items c.only_new.ensures)
