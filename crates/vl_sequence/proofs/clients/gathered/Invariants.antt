use Rattle.std.proofs.Common.{◌≡◌, ◌*◌, ◌^◌, ◌≤◌, List, ◌++◌, length, map}
use Rattle.std.specs.List.{AllByRecursion}
use Rattle.std.specs.Vec.Iter.{into_iter_items, into_iter_len}
use Rattle.vl_sequence.specs.Clients.{IsFew, IsLast, all_given, all_leases, shop_of}
use Rattle.vl_sequence.proofs.clients.gathered.Given as goal

abbrev pub invariant-loop-client : goal.invariant-loop-client
invariant-loop-client g l =
    AllByRecursion IsFew (into_iter_items l.client-iterator)
    × (into_iter_len l.client-iterator ≡ length (into_iter_items l.client-iterator))
    × ((met : List _) × (met ++ into_iter_items l.client-iterator ≡ l.fn.clients.items)
    × (l.shops.items ≡ map shop_of met) × (l.tally.given ≡ all_given met) × (l.tally.leases ≡ all_leases met)
    × IsLast l.last met × (all_given met ≤ length met * 2 ^ 32) × (all_leases met ≤ length met * 2 ^ 32))
