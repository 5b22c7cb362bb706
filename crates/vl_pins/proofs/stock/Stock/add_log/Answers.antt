use Rattle.std.proofs.Common.{refl, sym}
use Rattle.vl_pins.specs.Files.{log_sealed}
use Rattle.vl_pins.proofs.Becoming.{becomes}
use Rattle.vl_pins.proofs.stock.Stock.add_log.Goals as goal

pub returns-in-Some-clause-sealed : goal.returns-in-Some-clause-sealed
returns-in-Some-clause-sealed g c =
    becomes _ _ c.in-Some.in_use _ c.in-Some.is refl (log_sealed c.args.log) (λ i. record {
      tables = c.in-Some.in_use.tables.items;
      logs = sym c.push_reserved.ensures.items i;
      trash = c.args.self.now.trash.items;
    })
