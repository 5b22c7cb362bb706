use Rattle.std.specs.Prelude.{Option}
use Rattle.std.specs.List.{filter}
use Rattle.std.proofs.Common.{List, [], ◌++◌, sym, subst}
use Rattle.vl_compact.specs.Laid.{AreTablesOf}
use Rattle.vl_engine_model.specs.Levels.{Range, meets}
use Rattle.vl_table.specs.declared.table.Table.{Table}
use Rattle.vl_compact.proofs.plan.with_next.Goals as goal

pub returns : goal.returns
returns g c = λ ts us are_t are_u.
    let first = c.in_ok-add_all.ensures [] ts
    (subst (λ (l : List (Table g.row.H.Denot)). AreTablesOf g.H.HeldFile.bytes l []) (sym c.new-all.ensures.items) tt) are_t in
    subst (λ (r : Option Range). AreTablesOf g.H.HeldFile.bytes c.add_meeting.new.all.items (ts ++ filter (meets r) us))
    (c.range_of.ensures ts are_t)
    (c.in_ok-add_meeting.ensures ts us first are_u)
