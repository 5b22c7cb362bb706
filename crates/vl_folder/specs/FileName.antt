-- The names of a store's files in its folder.
use Rattle.std.specs.Prelude.{ℕ, ◌-◌, List, ◌++◌, length, codes}
use Rattle.std.specs.Prelude.{replicate}
use Rattle.std.specs.Fmt.{decimal}
use Rattle.vl_disk.specs.declared.name.Name.{Name}
use Rattle.vl_disk.specs.declared.name.Name.TheVariants.{Log, Table, Manifest}
use Rattle.vl_disk.specs.Name.{file_number}

-- a number in decimal, with zeros before it up to ten digits
abbrev pub ten_digits : ℕ → List ℕ
ten_digits number = replicate (10 - length (decimal number)) 48 ++ decimal number

abbrev pub ending : Name → List ℕ
ending (Log _) = codes ".vlog"
ending (Table _) = codes ".vtab"
ending (Manifest _) = codes ".vman"

abbrev pub file_name : Name → List ℕ
file_name name = ten_digits (file_number name) ++ ending name
