use Rattle.std.proofs.Common.{List, ap, ◌∙◌, ℕ}
use Rattle.std.proofs.lemmas.Result.{IfOk-weaker}
use Rattle.std.specs.Borrow.{Bor}
use Rattle.std.specs.List.{filter}
use Rattle.std.specs.Prelude.{map}
use Rattle.vl_table.specs.declared.body.footer.Footer.{Footer}
use Rattle.vl_compact.specs.declared.files.Synced.{Synced}
use Rattle.vl_compact.specs.declared.inputs.Inputs.{Inputs}
use Rattle.vl_space.specs.laws.CollectLaws.{leads_same}
use Rattle.vl_space.proofs.kept.Collecting.live_installed.Goals as goal
use Rattle.vl_space.specs.Collecting.{points_in, points_made}
use Rattle.vl_table.specs.Tables.{number_of}
use Rattle.vl_table.specs.declared.table.Table.{Table}
use Rattle.vl_version.specs.Bases.{is_input}
use Rattle.vl_version.specs.declared.levels.Levels.{Levels}
use Rattle.vl_version.specs.levels.LevelsLooked.{tables_of}

pub returns-clause-live : goal.returns-clause-live
returns-clause-live g c =
    IfOk-weaker c.live_with.result _ _
    (λ live is. leads_same c.live_with.new.self.tally live
    (map (λ (f : Bor Footer). f.now.points.items) c.deref-3.result.now) (map (λ (f : Bor Footer). f.now.points.items) c.deref-4.result.now)
    _ _
    (ap (λ (fs : List (Bor Footer)). map (λ (f : Bor Footer). f.now.points.items) fs) c.deref-3.ensures.value
    ∙ c.in_ok-made.ensures ∙ ap (λ (ts : List (Synced g.row.W.Denot g.W.Writer)). points_made ts) c.made.ensures)
    (ap (λ (fs : List (Bor Footer)). map (λ (f : Bor Footer). f.now.points.items) fs) c.deref-4.ensures.value
    ∙ c.in_ok-dropped.ensures
    ∙ ap (λ (ns : List ℕ). points_in (filter (is_input ns) (tables_of c.levels.result.now)))
    (c.deref-2.ensures.value ∙ c.in_ok-inputs.ensures
    ∙ ap (λ (ts : List (Table g.row.H.Denot)). map number_of ts)
    (c.deref.ensures.value ∙ ap (λ (i : Inputs g.row.H.Denot). i.tables.items) c.inputs.ensures))
    ∙ ap (λ (ls : Levels g.row.H.Denot). points_in (filter (is_input (map number_of c.args.job.now.inputs.tables.items)) (tables_of ls)))
    c.levels.ensures) is)
    c.live_with.ensures.live
