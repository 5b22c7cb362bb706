use Rattle.std.proofs.Common.{◌≡◌, ◌+◌, arith, length}
use Rattle.std.specs.Prelude.{vec_capacity, vec_len}
use Rattle.vl_compact.proofs.PutLaws.{next_is, next_there, put_next, room_less}
use Rattle.vl_compact.proofs.ready.ReadyLevels.put.Goals as goal
use Rattle.vl_engine_model.specs.Levels.{level_at, without}

pub returns-clause-put : goal.returns-clause-put
returns-clause-put g c = λ target inputs first ls new t are is.
    let bytes = g.H.HeldFile.bytes in
    let old = c.args.self.now in
    let ts = without inputs (level_at old.level ls) in
    let there = next_there bytes old.tables.items ts new old.position old.next are.place.within are.next are.tables in
    let at : c.min-next.result ≡ old.position + length new = omega
    (arith, c.min-next.ensures, c.len.ensures, old.tables.ok.0, are.next, there) in
    record {
      place = are.place;
      others = are.others;
      tables = put_next bytes old.tables.items c.insert.new.self.items c.args.table ts new t old.position
          c.min-next.result c.insert.result are.place.within at are.tables is
          (c.insert.ensures.succeeds (room_less (vec_len old.tables) (vec_capacity old.tables) c.requires)) c.insert.ensures.items;
      next = next_is bytes c.min-next.result old.position new t at;
    }
