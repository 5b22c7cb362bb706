use Rattle.std.specs.Option.{option_copied}
use Rattle.std.proofs.lemmas.Result.{IfOk-weaker}
use Rattle.std.proofs.Common.{List, ℕ, subst, sym}
use Rattle.vl_compact.proofs.PlaceLaws.{place_in_level}
use Rattle.vl_compact.specs.Laid.{AreTablesOf}
use Rattle.vl_compact.specs.Places.{IsPlace}
use Rattle.vl_engine_model.specs.Levels.{level_at, without}
use Rattle.vl_engine_model.specs.declared.job.Target.TheVariants.{Level}
use Rattle.vl_table.specs.declared.table.Table.{Table}
use Rattle.vl_compact.proofs.replace.into_level.Goals as goal

pub returns-clause-ready : goal.returns-clause-ready
returns-clause-ready g c =
    IfOk-weaker c.ready_at.result _ _
    (λ ready so ls are has.
    let n = c.args.level in
    let first = option_copied c.args.first in
    let ts = without c.args.inputs.now (level_at n ls) in
    let tables = c.in_ok-tables.ensures (level_at n ls) (c.level_at.ensures ls are) in
    let place = c.place_before-position.ensures ts
    (subst (λ (l : List (Table g.row.H.Denot)). AreTablesOf g.H.HeldFile.bytes l ts) (sym c.deref.ensures.value) tables) in
    so (Level n) first ls are
    (subst (λ (position : ℕ). IsPlace (Level n) c.args.inputs.now first ls n position) (sym place)
    (place_in_level n c.args.inputs.now first ls has)))
    c.ready_at.ensures.ready
