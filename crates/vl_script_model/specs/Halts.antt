-- A line that wasn't answered.
use Rattle.std.specs.Prelude.{Result, Ok, Err}
use Rattle.vl_script_model.specs.declared.fails.Halt.{Halt}
use Rattle.vl_script_model.specs.declared.fails.Halt.TheVariants.{NoMemory, Disk, Read, Halted, Damaged}

-- the disk failed
abbrev pub HaltsByDisk : {T : Type 0} → Result T Halt → Type 0
HaltsByDisk (Ok answer) = ⊥
HaltsByDisk (Err NoMemory) = ⊥
HaltsByDisk (Err (Disk name)) = Unit {0}
HaltsByDisk (Err (Read name)) = ⊥
HaltsByDisk (Err (Halted name)) = ⊥
HaltsByDisk (Err (Damaged name place)) = ⊥

-- a read met damage, or its reader failed; or the engine was halted before
abbrev pub HaltsByRead : {T : Type 0} → Result T Halt → Type 0
HaltsByRead (Ok answer) = ⊥
HaltsByRead (Err NoMemory) = ⊥
HaltsByRead (Err (Disk name)) = ⊥
HaltsByRead (Err (Read name)) = Unit {0}
HaltsByRead (Err (Halted name)) = Unit {0}
HaltsByRead (Err (Damaged name place)) = Unit {0}

-- memory ran out, or it was a read as above: whatever it was, no call on the disk failed
abbrev pub HaltsBeside : {T : Type 0} → Result T Halt → Type 0
HaltsBeside (Ok answer) = ⊥
HaltsBeside (Err NoMemory) = Unit {0}
HaltsBeside (Err (Disk name)) = ⊥
HaltsBeside (Err (Read name)) = Unit {0}
HaltsBeside (Err (Halted name)) = Unit {0}
HaltsBeside (Err (Damaged name place)) = Unit {0}

-- a read met damage
abbrev pub HaltsByDamage : {T : Type 0} → Result T Halt → Type 0
HaltsByDamage (Ok answer) = ⊥
HaltsByDamage (Err NoMemory) = ⊥
HaltsByDamage (Err (Disk name)) = ⊥
HaltsByDamage (Err (Read name)) = ⊥
HaltsByDamage (Err (Halted name)) = ⊥
HaltsByDamage (Err (Damaged name place)) = Unit {0}

-- a read failed by its reader, or the engine was halted before
abbrev pub HaltsByReader : {T : Type 0} → Result T Halt → Type 0
HaltsByReader (Ok answer) = ⊥
HaltsByReader (Err NoMemory) = ⊥
HaltsByReader (Err (Disk name)) = ⊥
HaltsByReader (Err (Read name)) = Unit {0}
HaltsByReader (Err (Halted name)) = Unit {0}
HaltsByReader (Err (Damaged name place)) = ⊥

-- no read failed, and none met damage
abbrev pub ReadsWell : {T : Type 0} → Result T Halt → Type 0
ReadsWell (Ok answer) = Unit {0}
ReadsWell (Err NoMemory) = Unit {0}
ReadsWell (Err (Disk name)) = Unit {0}
ReadsWell (Err (Read name)) = ⊥
ReadsWell (Err (Halted name)) = Unit {0}
ReadsWell (Err (Damaged name place)) = ⊥
