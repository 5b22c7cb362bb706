use Rattle.std.proofs.Common.{◌≡◌, subst}
use Rattle.vl_table.specs.Kept.{HasBlock}
use Rattle.vl_table.specs.declared.slot.BlockId.{BlockId}
use Rattle.vl_table.proofs.slot.Slot.entries.Goals as goal

pub returns-in-Some : goal.returns-in-Some
returns-in-Some c = λ id bytes es has.
    let same : id ≡ c.in-Some.id = let was = c.in-Some.is in let block = has.block in cc in
    c.entries_of.ensures bytes es (subst (λ (i : BlockId). HasBlock c.args.self.now i bytes es) same has)
