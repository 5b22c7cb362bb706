use Rattle.std.proofs.Common.{refl, sym, ◌∙◌, true, false, arith, vec_len}
use Rattle.vl_disk.specs.declared.name.Name.TheVariants as names
use Rattle.vl_pins.specs.Files.{Kept, table_retired}
use Rattle.vl_pins.proofs.Becoming.{becomes, put_none, put_one, roomy}
use Rattle.vl_pins.proofs.stock.Stock.retire_table.Goals as goal

pub returns-then-take-clause-retired : goal.returns-then-take-clause-retired
returns-then-take-clause-retired g c =
    becomes _ _ c.in-Some.in_use _ c.in-Some.is refl (table_retired c.args.epoch c.args.table) (λ i. record {
      tables = sym c.take.ensures.numbers i;
      logs = c.in-Some.in_use.logs.items;
      trash = (put_one _ c.args.epoch (names.Table c.args.table) _ (sym c.take.ensures.was ∙ c.if-take.true)
          ∙ sym c.push_back_reserved.ensures.items) i;
    })

pub returns-then-take-clause-room : goal.returns-then-take-clause-room
returns-then-take-clause-room g c = λ t l n.
    let less = c.take.ensures.length in
    let fewer = c.take.ensures.fewer c.if-take.true in
    let same = c.take.ensures.capacity in
    let longer = c.push_back_reserved.ensures.len in
    let room = c.push_back_reserved.ensures.capacity in
    roomy _ _ c.in-Some.in_use _ c.in-Some.is refl t l n t l n
    (λ has. omega (arith, has, less, same)) (λ has. omega (arith, has, less, same)) (λ has. omega (arith, has, fewer, longer, room))

pub returns-else-take-clause-retired : goal.returns-else-take-clause-retired
returns-else-take-clause-retired g c =
    becomes _ _ c.in-Some.in_use _ c.in-Some.is refl (table_retired c.args.epoch c.args.table) (λ i. record {
      tables = sym c.take.ensures.numbers i;
      logs = c.in-Some.in_use.logs.items;
      trash = put_none _ c.args.epoch (names.Table c.args.table) c.args.self.now.trash.items
          (sym c.take.ensures.was ∙ c.if-take.false) i;
    })

pub returns-else-take-clause-room : goal.returns-else-take-clause-room
returns-else-take-clause-room g c = λ t l n.
    let less = c.take.ensures.length in
    let same = c.take.ensures.capacity in
    roomy _ _ c.in-Some.in_use _ c.in-Some.is refl t l n t l n
    (λ has. omega (arith, has, less, same)) (λ has. omega (arith, has, less, same)) (λ has. omega (arith, has, less))
