use Rattle.std.proofs.Common.{◌≡◌, ◌∙◌, ap, sym, subst, arith, true, List}
use Rattle.std.proofs.lemmas.List.{with_items_is}
use Rattle.std.specs.Vec.{with_items}
use Rattle.vl_table.specs.Kept.{has_block}
use Rattle.vl_table.specs.Used.{brought}
use Rattle.vl_table.specs.declared.block_reader.BlockReader.{BlockReader}
use Rattle.vl_table.specs.declared.slot.Slot.{Slot}
use Rattle.vl_table.proofs.AnswerSteps.{gives}
use Rattle.vl_table.proofs.KeptSteps.{block_is, brought-has, front-kept, loaded-kept, still-kept}
use Rattle.vl_table.proofs.block_reader.BlockReader.load_block.Goals as goal

pub returns-then-bring-clause-kept : goal.returns-then-bring-clause-kept
returns-then-bring-clause-kept g c = λ files kept file.
    let old = c.args.self.now in
    let slots = subst (λ (l : List Slot). brought c.args.id c.args.self.now.front
    l ≡ (c.bring.new.front, c.bring.new.others)) c.deref_mut.ensures.value c.bring.ensures.slots in
    let new : BlockReader g.row.R.Denot = record
    { reader = old.reader; front = c.bring.new.front; others = with_items old.others c.bring.new.others; last_key = tt } in
    still-kept files c.args.id old new c.bring.new.front c.bring.new.others kept slots
    (front-kept files c.args.id old new c.bring.new.front c.bring.new.others kept slots)
    (with_items_is old.others c.bring.new.others (omega (arith, c.bring.auto.others, c.deref_mut.ensures.len)))

pub returns-then-bring-clause-answers : goal.returns-then-bring-clause-answers
returns-then-bring-clause-answers g c = λ files kept file.
    let old = c.args.self.now in
    let slots = subst (λ (l : List Slot). brought c.args.id c.args.self.now.front
    l ≡ (c.bring.new.front, c.bring.new.others)) c.deref_mut.ensures.value c.bring.ensures.slots in
    gives _ c.args.id.number _ _ _ tt (λ bytes told.
    front-kept files c.args.id old old c.bring.new.front c.bring.new.others kept slots
    c.args.id (block_is c.args.id c.bring.new.front (sym c.bring.ensures.there ∙ c.if-bring.true)) bytes (file ∙ told))

pub returns-clause-kept : goal.returns-clause-kept
returns-clause-kept g c = λ files kept file.
    let old = c.args.self.now in
    let slots = subst (λ (l : List Slot). brought c.args.id c.args.self.now.front
    l ≡ (c.bring.new.front, c.bring.new.others)) c.deref_mut.ensures.value c.bring.ensures.slots in
    let new : BlockReader g.row.R.Denot = record
    { reader = c.load.new.reader; front = c.load.new.self; others = with_items old.others c.bring.new.others; last_key = tt } in
    still-kept files c.args.id old new c.bring.new.front c.bring.new.others kept slots
    (loaded-kept files _ _ _ c.args.id c.load.new.self c.load.result c.load.ensures.has c.load.ensures.empty file c.load.ensures.answers)
    (with_items_is old.others c.bring.new.others (omega (arith, c.bring.auto.others, c.deref_mut.ensures.len)))

pub returns-clause-hit : goal.returns-clause-hit
returns-clause-hit g c = λ among.
    let old = c.args.self.now in
    let slots = subst (λ (l : List Slot). brought c.args.id c.args.self.now.front
    l ≡ (c.bring.new.front, c.bring.new.others)) c.deref_mut.ensures.value c.bring.ensures.slots in
    let has : has_block c.args.id c.bring.new.front ≡ true =
    ap (λ (r : Slot × List Slot). has_block c.args.id r.0) (sym slots) ∙ brought-has c.args.id old.front old.others.items among in
    let none = c.if-bring.false in let there = c.bring.ensures.there in cc
