use Rattle.std.proofs.Common.{ap}
use Rattle.std.specs.VecDeque.{deque_items}
use Rattle.vl_pins.proofs.Taking.{if_none, takes_first}
use Rattle.vl_pins.proofs.stock.Stock.take_up_to.Goals as goal

pub returns-clause-taken : goal.returns-clause-taken
returns-clause-taken g c =
    let old = c.args.self.now.trash in
    takes_first c.args.bound c.remove.result old.items c.remove.new.self.items c.place_up_to-at.result old.len old.ok.0
    c.place_up_to-at.ensures.held c.place_up_to-at.ensures.free c.remove.ensures.value c.remove.ensures.items
    (if_none _ _ (λ e. ap deque_items e) c.remove.result c.remove.ensures.unchanged) c.remove.ensures.variant
