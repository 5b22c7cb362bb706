use Rattle.std.proofs.Common.{◌≡◌, All, vec_capacity}
use Rattle.std.specs.Vec.Iter.{into_iter_items}
use Rattle.vl_disk.specs.DiskState.{empty_disk}
use Rattle.vl_disk.specs.Name.{IsNumbered}
use Rattle.vl_mem.specs.Entry.{NoneFail}
use Rattle.vl_mem.specs.Event.{state_after}
use Rattle.vl_mem.specs.Kept.{IsKept, with_found}
use Rattle.vl_mem.proofs.mem_disk.MemDisk.started.Given as goal

abbrev pub invariant-loop-name : goal.invariant-loop-name
invariant-loop-name l = record {
  kept : IsKept l.entries l.events.items (vec_capacity l.events);
  rest : with_found (into_iter_items l.name-iterator) (state_after l.events.items) ≡ with_found l.fn.files.items empty_disk;
  failing : NoneFail l.entries;
  numbered : All (λ file. IsNumbered file.0) (into_iter_items l.name-iterator);
}
