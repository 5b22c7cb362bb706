-- Where memory ran out, no disk failed.
use Rattle.std.proofs.Common.{◌≡◌, Result, Ok, Err, sym, ◌∙◌, ap, subst}
use Rattle.std.specs.Prelude.{IfErr, IsErrAnd}
use Rattle.vl_script_model.specs.Halts.{HaltsBeside, HaltsByDisk, HaltsByRead, ReadsWell}
use Rattle.vl_script_model.specs.declared.fails.Halt.{Halt}
use Rattle.vl_script_model.specs.declared.fails.Halt.TheVariants as why

-- a line that is halted by nothing else isn't halted by the disk
pub not_by_disk : {T : Type 0} (result : Result T Halt) → IfErr result (λ halt. halt ≡ why.NoMemory) → HaltsByDisk result → ⊥
not_by_disk (Ok answer) out by = by
not_by_disk (Err why.NoMemory) out by = by
not_by_disk (Err (why.Disk name)) out by = cc
not_by_disk (Err (why.Read name)) out by = by
not_by_disk (Err (why.Halted name)) out by = by
not_by_disk (Err (why.Damaged name place)) out by = by

pub out_not_by_disk : {T : Type 0} (result : Result T Halt) → IsErrAnd result (λ halt. halt ≡ why.NoMemory) → HaltsByDisk result → ⊥
out_not_by_disk (Ok answer) out by = by
out_not_by_disk {T} (Err halt) out by = not_by_disk {T = T} (Err halt) out by

-- nor by a read
pub out_readable : {T : Type 0} (result : Result T Halt) → IsErrAnd result (λ halt. halt ≡ why.NoMemory) → HaltsByRead result → ⊥
out_readable (Ok answer) out by = by
out_readable (Err why.NoMemory) out by = by
out_readable (Err (why.Disk name)) out by = by
out_readable (Err (why.Read name)) out by = cc
out_readable (Err (why.Halted name)) out by = cc
out_readable (Err (why.Damaged name place)) out by = cc

-- a halt that is handed on is the same
pub by_disk_still : {T U : Type 0} (carried : Result U Halt) (result : Result T Halt) (halt : Halt) → carried ≡ Err halt
    → IsErrAnd result (λ other. other ≡ halt) → HaltsByDisk result → HaltsByDisk carried
by_disk_still carried (Ok answer) halt was is by = absurd by
by_disk_still {U = U} carried (Err why.NoMemory) halt was is by = absurd by
by_disk_still {U = U} carried (Err (why.Read name)) halt was is by = absurd by
by_disk_still {U = U} carried (Err (why.Halted name)) halt was is by = absurd by
by_disk_still {U = U} carried (Err (why.Damaged name place)) halt was is by = absurd by
by_disk_still {U = U} carried (Err (why.Disk name)) halt was is by = subst (λ (r : Result U Halt). HaltsByDisk r) (ap Err is ∙ sym was) tt

pub by_read_still : {T U : Type 0} (carried : Result U Halt) (result : Result T Halt) (halt : Halt) → carried ≡ Err halt
    → IsErrAnd result (λ other. other ≡ halt) → HaltsByRead result → HaltsByRead carried
by_read_still carried (Ok answer) halt was is by = absurd by
by_read_still carried (Err why.NoMemory) halt was is by = absurd by
by_read_still carried (Err (why.Disk name)) halt was is by = absurd by
by_read_still {U = U} carried (Err (why.Read name)) halt was is by = subst (λ (r : Result U Halt). HaltsByRead r) (ap Err is ∙ sym was) tt
by_read_still {U = U} carried (Err (why.Halted name)) halt was is by = subst (λ (r : Result U Halt). HaltsByRead r) (ap Err is ∙ sym was) tt
by_read_still {U = U} carried (Err (why.Damaged name place)) halt was is by = subst
    (λ (r : Result U Halt). HaltsByRead r) (ap Err is ∙ sym was) tt

pub beside_still : {T U : Type 0} (carried : Result U Halt) (result : Result T Halt) (halt : Halt) → carried ≡ Err halt
    → IsErrAnd result (λ other. other ≡ halt) → HaltsBeside result → HaltsBeside carried
beside_still carried (Ok answer) halt was is by = absurd by
beside_still {U = U} carried (Err why.NoMemory) halt was is by = subst (λ (r : Result U Halt). HaltsBeside r) (ap Err is ∙ sym was) tt
beside_still carried (Err (why.Disk name)) halt was is by = absurd by
beside_still {U = U} carried (Err (why.Read name)) halt was is by = subst (λ (r : Result U Halt). HaltsBeside r) (ap Err is ∙ sym was) tt
beside_still {U = U} carried (Err (why.Halted name)) halt was is by = subst (λ (r : Result U Halt). HaltsBeside r) (ap Err is ∙ sym was) tt
beside_still {U = U} carried (Err (why.Damaged name place)) halt was is by = subst
    (λ (r : Result U Halt). HaltsBeside r) (ap Err is ∙ sym was) tt

-- where a read failed, or memory ran out, the line was halted beside the disk
pub read_beside : {T : Type 0} (result : Result T Halt) → HaltsByRead result → HaltsBeside result
read_beside (Ok answer) by = by
read_beside (Err why.NoMemory) by = tt
read_beside (Err (why.Disk name)) by = by
read_beside (Err (why.Read name)) by = tt
read_beside (Err (why.Halted name)) by = tt
read_beside (Err (why.Damaged name place)) by = tt

pub out_beside : {T : Type 0} (result : Result T Halt) → result ≡ Err why.NoMemory → HaltsBeside result
out_beside {T} result out = subst (λ (r : Result T Halt). HaltsBeside r) (sym out) tt

-- nor does one then meet anything
pub out_reads_well : {T : Type 0} (result : Result T Halt) → IfErr result (λ halt. halt ≡ why.NoMemory) → ReadsWell result
out_reads_well (Ok answer) out = tt
out_reads_well (Err why.NoMemory) out = tt
out_reads_well (Err (why.Disk name)) out = tt
out_reads_well (Err (why.Read name)) out = absurd cc
out_reads_well (Err (why.Halted name)) out = tt
out_reads_well (Err (why.Damaged name place)) out = absurd cc

pub err_reads_well : {T : Type 0} (result : Result T Halt) → IsErrAnd result (λ halt. halt ≡ why.NoMemory) → ReadsWell result
err_reads_well (Ok answer) out = tt
err_reads_well {T} (Err halt) out = out_reads_well {T = T} (Err halt) out
