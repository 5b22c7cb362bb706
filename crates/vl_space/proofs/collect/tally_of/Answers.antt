use Rattle.std.proofs.Common.{List, ap, ◌∙◌}
use Rattle.std.proofs.lemmas.Result.{IfOk-weaker}
use Rattle.std.specs.Borrow.{Bor}
use Rattle.std.specs.Prelude.{map}
use Rattle.vl_table.specs.declared.body.footer.Footer.{Footer}
use Rattle.vl_space.specs.laws.CollectLaws.{lengths_are_laid, points_are_laid}
use Rattle.vl_space.proofs.collect.tally_of.Goals as goal
use Rattle.vl_space.specs.Collecting.{lengths_in, points_in}
use Rattle.vl_seglog.specs.declared.sealed.SealedLog.{SealedLog}
use Rattle.vl_version.specs.declared.levels.Levels.{Levels}
use Rattle.vl_version.specs.levels.LevelsLooked.{tables_of}

pub returns : goal.returns
returns g c =
    let bytes = g.H.HeldFile.bytes in
    let core = c.args.core.now in
    IfOk-weaker c.new.result _ _
    (λ tally made h l is sealed. made l
    (ap (λ (fs : List (Bor Footer)). map (λ (f : Bor Footer). f.now.points.items) fs) c.deref.ensures.value
    ∙ c.in_ok-footers.ensures ∙ ap (λ (ls : Levels g.row.H.Denot). points_in (tables_of ls)) c.levels.ensures
    ∙ points_are_laid bytes core h l is)
    (c.in_ok-logs.ensures
    ∙ ap (λ (ls : List (SealedLog g.row.H.Denot)). lengths_in g.H.HeldFile.size ls) c.logs.ensures
    ∙ lengths_are_laid bytes core h l is g.H.HeldFile.size g.met.H.HeldFile.sized sealed))
    c.new.ensures
