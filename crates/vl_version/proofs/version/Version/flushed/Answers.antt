use Rattle.std.proofs.Common.{◌∙◌, ap, sym, subst, List, Vec, Global}
use Rattle.std.specs.List.{AllZip}
use Rattle.vl_seglog.specs.declared.sealed.SealedLog.{SealedLog}
use Rattle.vl_table.specs.declared.table.Table.{Table}
use Rattle.vl_version.specs.Oldest.{but_oldest}
use Rattle.vl_version.specs.Shared.{AreSameLevels, AreSameLogs, AreSameTables}
use Rattle.vl_version.specs.declared.behind.Behind.{Behind}
use Rattle.vl_version.proofs.version.Version.flushed.Goals as goal

pub returns : goal.returns
returns g c =
    let H = g.row.H.Denot in
    let bytes = g.H.HeldFile.bytes in
    let behind : Behind H = c.args.self.now.behind in
    let shared : AreSameLevels bytes behind.levels c.in_ok-levels.levels =
    subst (λ (b : Behind H). AreSameLevels bytes b.levels c.in_ok-levels.levels) c.as_ref-behind.ensures c.in_ok-levels.ensures in
    record {
      active = c.in_ok-share.ensures;
      frozen = c.in_ok-without_oldest.ensures
          ∙ ap but_oldest (c.deref.ensures.value ∙ ap (λ (b : Behind H). b.frozen.items) c.as_ref-behind.ensures);
      levels = record {
        newest = subst (λ (ts : List (Table H)). AreSameTables bytes behind.levels.newest.items ts)
            (sym c.make_room.ensures.newest) shared.newest;
        deeper = subst (λ (levels : Vec (List (Table H)) Global). AllZip (AreSameTables bytes) behind.levels.deeper.items levels.items)
            (sym c.make_room.ensures.deeper) shared.deeper;
      };
      room = c.in_ok-make_room.ensures.room;
      logs = subst (λ (logs : List (SealedLog H)). AreSameLogs bytes logs c.in_ok-share_logs.field-0.items)
          (c.deref-2.ensures.value ∙ ap (λ (b : Behind H). b.logs.items) c.as_ref-behind.ensures) c.in_ok-share_logs.ensures;
    }
