use Rattle.std.proofs.Common.{List, ap, ◌∙◌, ℕ}
use Rattle.std.specs.List.{filter}
use Rattle.std.specs.Prelude.{map}
use Rattle.vl_compact.specs.declared.files.Synced.{Synced}
use Rattle.vl_compact.specs.declared.inputs.Inputs.{Inputs}
use Rattle.vl_seglog.specs.declared.sealed.SealedLog.{SealedLog}
use Rattle.vl_space.specs.Collecting.{idle_in}
use Rattle.vl_table.specs.Tables.{number_of}
use Rattle.vl_table.specs.declared.table.Table.{Table}
use Rattle.vl_version.specs.Bases.{is_input}
use Rattle.vl_version.specs.declared.levels.Levels.{Levels}
use Rattle.vl_version.specs.levels.LevelsLooked.{tables_of}
use Rattle.vl_engine.proofs.engine.install.changes_of.Goals as goal

pub returns-clause-added : goal.returns-clause-added
returns-clause-added g c =
    c.in_ok-added.ensures ∙ ap (λ (ts : List (Synced g.row.W.Denot g.W.Writer)). map (λ t. t.number) ts) c.made.ensures

pub returns-clause-dropped : goal.returns-clause-dropped
returns-clause-dropped g c =
    c.in_ok-dropped.ensures
    ∙ ap (λ (ns : List ℕ). map number_of (filter (is_input ns) (tables_of c.levels.result.now)))
    (c.deref-2.ensures.value ∙ c.in_ok-inputs.ensures
    ∙ ap (λ (ts : List (Table g.row.H.Denot)). map number_of ts)
    (c.deref.ensures.value ∙ ap (λ (i : Inputs g.row.H.Denot). i.tables.items) c.inputs.ensures))
    ∙ ap (λ (ls : Levels g.row.H.Denot). map number_of
    (filter (is_input (map number_of c.args.job.now.inputs.tables.items)) (tables_of ls))) c.levels.ensures

pub returns-clause-idle : goal.returns-clause-idle
returns-clause-idle g c =
    c.in_ok-idle.ensures ∙ ap (λ (ls : List (SealedLog g.row.H.Denot)). idle_in c.args.live.now ls) c.logs.ensures
