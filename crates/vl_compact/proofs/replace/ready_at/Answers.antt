use Rattle.std.specs.List.{AllZip}
use Rattle.std.proofs.Common.{◌∙◌, List, length, sym, subst}
use Rattle.vl_compact.proofs.Finding.{all_left, least_is, none_put}
use Rattle.vl_compact.proofs.Zips.{zip_length}
use Rattle.vl_compact.specs.Laid.{AreTablesOf, IsTableOf}
use Rattle.vl_engine_model.specs.Levels.{level_at, without}
use Rattle.vl_table.specs.declared.table.Table.{Table}
use Rattle.vl_compact.proofs.replace.ready_at.Goals as goal

pub returns-clause-ready : goal.returns-clause-ready
returns-clause-ready g c = λ target first ls are place.
    let bytes = g.H.HeldFile.bytes in
    let inputs = c.args.inputs.now in
    let levels = c.args.levels.now in
    let ts = without inputs (level_at c.args.level ls) in
    let tables : AreTablesOf bytes c.reserve.new.self.items ts =
    subst (λ (l : List (Table g.row.H.Denot)). AreTablesOf bytes l ts) (sym c.in_ok-reserve.ensures.items)
    (c.in_ok-tables.ensures (level_at c.args.level ls) (c.level_at.ensures ls are)) in
    record {
      place = place;
      others = all_left (IsTableOf bytes) inputs levels.newest.items c.in_ok-others.field-0.items levels.deeper.items
          c.in_ok-others_of_each.field-0.items ls are
          (λ us is. c.in_ok-others.ensures us
          (subst (λ (l : List (Table g.row.H.Denot)). AreTablesOf bytes l us) (sym c.newest.ensures) is))
          (λ ds is. c.in_ok-others_of_each.ensures ds
          (subst (λ (l : List (List (Table g.row.H.Denot))). AllZip (AreTablesOf bytes) l ds) (sym c.deeper.ensures) is));
      tables = subst (AreTablesOf bytes c.reserve.new.self.items) (sym (none_put c.args.position ts)) tables;
      next = least_is c.min-next.result c.args.position c.len.result (length ts) c.min-next.ensures
          (c.len.ensures ∙ c.reserve.new.self.ok.0 ∙ zip_length (IsTableOf bytes) c.reserve.new.self.items ts tables) place.within;
    }
