use Rattle.std.proofs.Common.{Option, Result, refl, subst}
use Rattle.vl_model.specs.declared.entry.Entry.{Entry}
use Rattle.vl_model.specs.Winners.{winner}
use Rattle.vl_version.specs.Answers.{Fills, IsAnswer, IsAstray, IsFound}
use Rattle.vl_version.specs.Faults.{Failed}
use Rattle.vl_version.specs.Over.{LooksOver}
use Rattle.vl_version.specs.Sources.{stored_in}
use Rattle.vl_disk.specs.declared.read_fault.ReadFault.{ReadFault}
use Rattle.vl_version.specs.declared.found.Found.{Found}
use Rattle.vl_reads.proofs.Seeing.{fault_met, found_led, sees_alone_still, undamaged, unfailed}
use Rattle.vl_reads.specs.laws.ReadLaws.{none_astray}
use Rattle.vl_reads.proofs.view.View.get_into.Goals as goal

pub returns-in-Ok-clause-value : goal.returns-in-Ok-clause-value
returns-in-Ok-clause-value g c h sees =
    let v = sees.version in
    found_led v.logs v.entries_of h c.args.self.now.number v.shows c.args.key.now c.args.out.now c.get_into-result.new.out c.in-Ok.found
    (c.in-Ok.ensures.answers sees.files v.entries_of v.logs sees.reader v.has)

pub returns-in-Err-Damaged-clause-sound : goal.returns-in-Err-Damaged-clause-sound
returns-in-Err-Damaged-clause-sound g c h sees =
    let v = sees.version in
    let found = winner v.entries_of c.args.key.now c.args.self.now.number in
    let good = IsFound v.logs found c.args.out.now c.get_into-result.new.out in
    let bad = IsAstray v.logs found in
    let fills = c.get_into-result.ensures.answers sees.files v.entries_of v.logs sees.reader v.has in
    let never = undamaged good bad
    (λ name place astray. none_astray v.logs v.entries_of h c.args.self.now.number v.shows c.args.key.now astray.0)
    c.in-Err-Damaged.field-0 (subst (IsAnswer good bad) c.in-Err-Damaged.is fills)
    c.in-Err-Damaged.name c.in-Err-Damaged.place (rw c.in-Err-Damaged.is at c.in-Err-Damaged.field-0-is) in
    λ _. never

pub returns-in-Ok-clause-still : goal.returns-in-Ok-clause-still
returns-in-Ok-clause-still g c h sees =
    sees_alone_still g.H.HeldFile.bytes c.args.self.now _ h sees refl refl refl (c.get_into-result.ensures.kept sees.files sees.reader)

pub returns-in-Err-Damaged-clause-still : goal.returns-in-Err-Damaged-clause-still
returns-in-Err-Damaged-clause-still g c h sees =
    sees_alone_still g.H.HeldFile.bytes c.args.self.now _ h sees refl refl refl (c.get_into-result.ensures.kept sees.files sees.reader)

pub returns-in-Err-Disk-clause-still : goal.returns-in-Err-Disk-clause-still
returns-in-Err-Disk-clause-still g c h sees =
    sees_alone_still g.H.HeldFile.bytes c.args.self.now _ h sees refl refl refl (c.get_into-result.ensures.kept sees.files sees.reader)

pub returns-in-Err-Disk-clause-near : goal.returns-in-Err-Disk-clause-near
returns-in-Err-Disk-clause-near g c alone failed =
    unfailed Found c.in-Err-Disk.field-0 c.in-Err-Disk.name (rw c.in-Err-Disk.is at c.in-Err-Disk.field-0-is)
    (subst (λ (r : Result Found ReadFault). Failed r → ⊥) c.in-Err-Disk.is (c.get_into-result.ensures.near alone.tables alone.near))

pub returns-in-Ok-clause-looks : goal.returns-in-Ok-clause-looks
returns-in-Ok-clause-looks g c files over = c.in-Ok.ensures.looks files over.reads over.tables over.logs

pub returns-in-Ok-clause-blocks : goal.returns-in-Ok-clause-blocks
returns-in-Ok-clause-blocks g c files reads = record { kept = c.get_into-result.ensures.kept files reads; told = reads.told }

pub returns-in-Err-Disk-clause-looks : goal.returns-in-Err-Disk-clause-looks
returns-in-Err-Disk-clause-looks g c files over =
    let v = c.args.self.now.version in
    fault_met (LooksOver g.H.HeldFile.bytes v c.args.key.now c.args.self.now.number
    (λ (winner : Option Entry). Fills (stored_in g.H.HeldFile.bytes v.behind.logs.items) winner c.args.out.now c.get_into-result.new.out))
    c.get_into-result.result c.in-Err-Disk.field-0 _ (c.get_into-result.ensures.looks files over.reads over.tables over.logs)
    c.in-Err-Disk.is (rw c.in-Err-Disk.is at c.in-Err-Disk.field-0-is)

pub returns-in-Err-Disk-clause-blocks : goal.returns-in-Err-Disk-clause-blocks
returns-in-Err-Disk-clause-blocks g c files reads = record { kept = c.get_into-result.ensures.kept files reads; told = reads.told }

pub returns-in-Err-Damaged-clause-looks : goal.returns-in-Err-Damaged-clause-looks
returns-in-Err-Damaged-clause-looks g c files over =
    let v = c.args.self.now.version in
    fault_met (LooksOver g.H.HeldFile.bytes v c.args.key.now c.args.self.now.number
    (λ (winner : Option Entry). Fills (stored_in g.H.HeldFile.bytes v.behind.logs.items) winner c.args.out.now c.get_into-result.new.out))
    c.get_into-result.result c.in-Err-Damaged.field-0 _ (c.get_into-result.ensures.looks files over.reads over.tables over.logs)
    c.in-Err-Damaged.is (rw c.in-Err-Damaged.is at c.in-Err-Damaged.field-0-is)

pub returns-in-Err-Damaged-clause-blocks : goal.returns-in-Err-Damaged-clause-blocks
returns-in-Err-Damaged-clause-blocks g c files reads = record { kept = c.get_into-result.ensures.kept files reads; told = reads.told }
