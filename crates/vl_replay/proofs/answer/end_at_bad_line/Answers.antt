use Rattle.std.proofs.Common.{◌≡◌, ◌≢◌, ◌+◌, ◌++◌, arith, ◌∷◌, [], ◌∙◌, ℕ, List, refl, ap, subst}
use Rattle.std.specs.Prelude.{codes}
use Rattle.std.specs.Fmt.{decimal}
use Rattle.vl_script_model.specs.Called.{IsApart}
use Rattle.vl_script_model.specs.Endings.{Evidence, bad_line, no_memory_line}
use Rattle.vl_script_model.specs.Steps.{Finishes}
use Rattle.vl_script_model.specs.declared.ending.Ending.{Ending}
use Rattle.vl_script_model.specs.declared.ending.Ending.TheVariants.{BadLine, NoMemory, ReaderFault}
use Rattle.vl_script_model.specs.laws.Ends.{finished, finish_counts, line_leaves_disk, or_cut, bad_line_stops, bad_line_text}
use Rattle.vl_replay.proofs.Runs.ReadingOn.{finishes_badly, finishes_otherwise}
use Rattle.vl_replay.proofs.answer.end_at_bad_line.Goals as goal

pub returns-in-Ok-clause-printed : goal.returns-in-Ok-clause-printed
returns-in-Ok-clause-printed g c script text left count next bad =
    let line : c.deref.result.now ≡ bad_line (script.before + 0 + 1) =
    c.deref.ensures.value ∙ bad_line_text c.args.answered script.before c.saturating_add.result
    c.print_bad_line.new.text.items count c.saturating_add.ensures
    (c.in-Ok.ensures ∙ ap (λ (l : List ℕ). ((l ++ codes "bad line ") ++ decimal c.saturating_add.result) ++ (10 ∷ []))
    c.new-line.ensures.items) in
    finished g.K.Sink c.args.sink.now c.finish.new.sink (Evidence ⊥ ⊥) script left BadLine c.finish.result
    (bad_line (script.before + 0 + 1)) refl
    (bad_line_stops (Evidence ⊥ ⊥) script text left next bad)
    (subst (λ (l : List ℕ). Finishes g.K.Sink c.args.sink.now c.finish.new.sink l BadLine c.finish.result) line c.finish.ensures)

pub returns-in-Ok-clause-sink_faults : goal.returns-in-Ok-clause-sink_faults
returns-in-Ok-clause-sink_faults g c = finish_counts g.K.Sink _ _ _ BadLine c.finish.result (λ e. cc) c.finish.ensures

pub returns-clause-printed : goal.returns-clause-printed
returns-clause-printed g c script text left count next bad =
    finished g.K.Sink c.args.sink.now c.finish-in-Err.new.sink (Evidence ⊥ ⊥) script left NoMemory
    c.finish-in-Err.result no_memory_line refl tt c.finish-in-Err.ensures

pub returns-clause-sink_faults : goal.returns-clause-sink_faults
returns-clause-sink_faults g c = finish_counts g.K.Sink _ _ _ NoMemory c.finish-in-Err.result (λ e. cc) c.finish-in-Err.ensures

pub returns-in-Ok-clause-whole : goal.returns-in-Ok-clause-whole
returns-in-Ok-clause-whole g c = (line_leaves_disk g.K.Sink _ _ _ BadLine c.finish.result (λ e. cc, λ e. cc) c.finish.ensures).0

pub returns-clause-whole : goal.returns-clause-whole
returns-clause-whole g c = (line_leaves_disk g.K.Sink _ _ _ NoMemory c.finish-in-Err.result (λ e. cc, λ e. cc) c.finish-in-Err.ensures).0

pub returns-in-Ok-clause-reads : goal.returns-in-Ok-clause-reads
returns-in-Ok-clause-reads g c =
    finishes_badly g.K.Sink c.args.sink.now c.finish.new.sink _ c.finish.result c.args.answered
    (λ before count.
    let same : before + 0 + 1 ≡ before + 1 = omega arith in
    c.deref.ensures.value ∙ bad_line_text c.args.answered before c.saturating_add.result c.print_bad_line.new.text.items
    count c.saturating_add.ensures
    (c.in-Ok.ensures ∙ ap (λ (l : List ℕ). ((l ++ codes "bad line ") ++ decimal c.saturating_add.result) ++ (10 ∷ []))
    c.new-line.ensures.items)
    ∙ ap bad_line same)
    c.finish.ensures

pub returns-clause-reads : goal.returns-clause-reads
returns-clause-reads g c =
    finishes_otherwise g.K.Sink c.args.sink.now c.finish-in-Err.new.sink no_memory_line NoMemory c.finish-in-Err.result
    (Unit {0}) ⊥ c.args.answered (λ e. cc, λ e. cc, λ name place e. cc, λ e. cc) c.finish-in-Err.ensures

pub returns-in-Ok-clause-readable : goal.returns-in-Ok-clause-readable
returns-in-Ok-clause-readable g c = or_cut g.K.Sink _ _ _ BadLine c.finish.result (λ (e : Ending). e ≢ ReaderFault)
    c.finish.ensures (λ e. cc) (λ e. cc)

pub returns-clause-readable : goal.returns-clause-readable
returns-clause-readable g c = or_cut g.K.Sink _ _ _ NoMemory c.finish-in-Err.result (λ (e : Ending). e ≢ ReaderFault)
    c.finish-in-Err.ensures (λ e. cc) (λ e. cc)

pub returns-in-Ok-clause-apart : goal.returns-in-Ok-clause-apart
returns-in-Ok-clause-apart g c = or_cut g.K.Sink _ _ _ BadLine c.finish.result IsApart c.finish.ensures tt tt

pub returns-clause-apart : goal.returns-clause-apart
returns-clause-apart g c = or_cut g.K.Sink _ _ _ NoMemory c.finish-in-Err.result IsApart c.finish-in-Err.ensures tt tt
