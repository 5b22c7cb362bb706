-- A disk that tells nothing of its files tells nothing behind a run either.
use Rattle.std.proofs.Common.{◌≡◌, List, ℕ, ap, subst, ◌∙◌}
use Rattle.std.specs.Prelude.{None, Option}
use Rattle.std.specs.Option.{option_map}
use Rattle.vl_disk.specs.Disk.{IsChangedBy}
use Rattle.vl_disk.specs.DiskState.{DiskState}
use Rattle.vl_disk.specs.MadeFile.{TellsPart}
use Rattle.vl_disk.specs.declared.name.Name.{Name}

pub part_untold : (name : Name) (bytes : List ℕ) (old new : Option DiskState) → TellsPart name bytes old new → old ≡ None → new ≡ None
part_untold name bytes old new part none = subst (λ (o : Option DiskState). TellsPart name bytes o new) none part

pub changed_untold : (after : DiskState → DiskState) (old new : Option DiskState) → IsChangedBy after old new → old ≡ None → new ≡ None
changed_untold after old new changed none = changed ∙ ap (option_map after) none
