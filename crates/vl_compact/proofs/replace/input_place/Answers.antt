use Rattle.std.specs.List.{AllZip}
use Rattle.std.proofs.Common.{◌∙◌, List, sym, subst}
use Rattle.vl_compact.proofs.Finding.{in_deeper, in_front}
use Rattle.vl_compact.specs.Laid.{AreTablesOf, IsTableOf}
use Rattle.vl_table.specs.declared.table.Table.{Table}
use Rattle.vl_compact.proofs.replace.input_place.Goals as goal

pub returns-in-Some : goal.returns-in-Some
returns-in-Some g c = λ ls are.
    let levels = c.args.levels.now in
    in_front (IsTableOf g.H.HeldFile.bytes) c.args.inputs.now levels.newest.items levels.deeper.items ls c.in-Some.position are
    (λ ts some. sym c.in-Some.is ∙ c.input_among.ensures ts
    (subst (λ (l : List (Table g.row.H.Denot)). AreTablesOf g.H.HeldFile.bytes l ts) (sym c.newest.ensures) some))

pub returns : goal.returns
returns g c = λ ls are.
    let levels = c.args.levels.now in
    in_deeper (IsTableOf g.H.HeldFile.bytes) c.args.inputs.now levels.newest.items levels.deeper.items ls c.deeper_place.result are
    (λ ts some. sym c.in_default.is ∙ c.input_among.ensures ts
    (subst (λ (l : List (Table g.row.H.Denot)). AreTablesOf g.H.HeldFile.bytes l ts) (sym c.newest.ensures) some))
    (λ ds some. c.deeper_place.ensures ds
    (subst (λ (l : List (List (Table g.row.H.Denot))). AllZip (AreTablesOf g.H.HeldFile.bytes) l ds) (sym c.deeper.ensures) some))
