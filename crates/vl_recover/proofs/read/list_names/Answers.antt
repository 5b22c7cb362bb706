use Rattle.std.proofs.lemmas.List.Sorted.{All-permutation}
use Rattle.vl_disk.specs.Name.{IsNumbered}
use Rattle.vl_recover.proofs.opening.Naming.{lists_permuted}
use Rattle.vl_recover.proofs.read.list_names.Goals as goal

pub returns-in-Ok-clause-names : goal.returns-in-Ok-clause-names
returns-in-Ok-clause-names g c = λ state told.
    lists_permuted c.in-Ok.names.items c.in_order.result.items state c.in_order.ensures.same (c.in-Ok.ensures.names state told)

pub returns-in-Ok-clause-numbered : goal.returns-in-Ok-clause-numbered
returns-in-Ok-clause-numbered g c = All-permutation IsNumbered c.in-Ok.names.items c.in_order.result.items
    c.in_order.ensures.same c.in-Ok.ensures.numbered
