use Rattle.std.proofs.Common.{◌≡◌, ◌+◌, ◌*◌, ◌^◌, ◌≤◌, List, ◌++◌, length, map}
use Rattle.std.specs.List.{AllByRecursion}
use Rattle.std.specs.Vec.Iter.{into_iter_items, into_iter_len}
use Rattle.vl_drive.specs.Players.{IsFew, IsLast, all_commits, all_conflicts, shop_of}
use Rattle.vl_drive.proofs.clients.gathered.Given as goal

abbrev pub invariant-loop-player : goal.invariant-loop-player
invariant-loop-player g l =
    AllByRecursion IsFew (into_iter_items l.player-iterator)
    × (into_iter_len l.player-iterator ≡ length (into_iter_items l.player-iterator))
    × ((met : List _) × (met ++ into_iter_items l.player-iterator ≡ l.fn.players.items)
    × (l.shops.items ≡ map shop_of met) × (l.tally.commits ≡ all_commits met) × (l.tally.conflicts ≡ all_conflicts met)
    × IsLast l.trouble met × (all_commits met + all_conflicts met ≤ length met * 2 ^ 32))
