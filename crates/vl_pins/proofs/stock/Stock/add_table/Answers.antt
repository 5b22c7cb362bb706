use Rattle.std.proofs.Common.{refl, sym, arith, ◌+◌, ◌∷◌, []}
use Rattle.vl_pins.specs.Files.{with_tables}
use Rattle.vl_pins.proofs.Becoming.{becomes, roomy}
use Rattle.vl_pins.proofs.stock.Stock.add_table.Goals as goal

pub returns-in-Some-clause-added : goal.returns-in-Some-clause-added
returns-in-Some-clause-added g c =
    becomes _ _ c.in-Some.in_use _ c.in-Some.is refl (with_tables (c.args.table ∷ [])) (λ i. record {
      tables = sym c.push_reserved.ensures.items i;
      logs = c.in-Some.in_use.logs.items;
      trash = c.args.self.now.trash.items;
    })

pub returns-in-Some-clause-room : goal.returns-in-Some-clause-room
returns-in-Some-clause-room g c = λ t l n.
    let longer = c.push_reserved.ensures.len in
    let same = c.push_reserved.ensures.capacity in
    roomy _ _ c.in-Some.in_use _ c.in-Some.is refl (t + 1) l n t l n
    (λ has. omega (arith, has, longer, same)) (λ has. has) (λ has. omega (arith, has, longer, same))
