use Rattle.std.proofs.Common.{◌≡◌, length, refl, arith}
use Rattle.std.proofs.lemmas.List.{with_items_is}
use Rattle.vl_table.proofs.AnswerSteps.{and_then, gives}
use Rattle.vl_table.proofs.KeptSteps.{slot_has}
use Rattle.vl_table.proofs.slot.Slot.load.Goals as goal

pub returns-clause-answers : goal.returns-clause-answers
returns-clause-answers g c =
    let frame = c.fill_up.new.elements in
    let starts = c.fill_up-2.new.elements in
    let frames : length c.read_block.new.frame ≡ frame.len = omega (arith, c.read_block.auto.frame, c.deref_mut.ensures.len) in
    let places : length c.read_block.new.starts ≡ starts.len = omega
    (arith, c.read_block.auto.starts, c.deref_mut-2.ensures.len) in
    and_then _ _ _ c.args.id.number _ _ (λ bytes done. Unit {0}) _ _ (λ bytes damage. ⊥) _ c.in_ok-count.count _
    (λ bytes told read done x. (
      read.0,
      slot_has _ c.args.id bytes c.read_block.new.frame c.read_block.new.starts c.in_ok-count.count read.0 refl
          (with_items_is frame c.read_block.new.frame frames) (with_items_is starts c.read_block.new.starts places) refl read.1,
    ))
    (λ bytes told read damage none. absurd none)
    c.in_ok-count.ensures.answers
    (gives _ c.args.id.number _ _ _ tt (λ bytes told. tt))
