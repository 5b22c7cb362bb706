use Rattle.std.proofs.Common.{◌≡◌, length, arith}
use Rattle.std.proofs.lemmas.List.{with_items_is}
use Rattle.vl_table.proofs.AnswerSteps.{and_then, gives}
use Rattle.vl_table.proofs.OpenSteps.{opened}
use Rattle.vl_table.proofs.open_block.OpenBlock.load.Goals as goal

pub returns-clause-answers : goal.returns-clause-answers
returns-clause-answers g c =
    let frame = c.self.inside.frame in
    let starts = c.self.inside.starts in
    let frames : length c.read_block.new.frame ≡ frame.len = omega (arith, c.read_block.auto.frame, c.deref_mut.ensures.len) in
    let places : length c.read_block.new.starts ≡ starts.len = omega (arith, c.read_block.auto.starts, c.deref_mut-2.ensures.len) in
    and_then _ _ _ c.args.id.number _ _ (λ bytes done. Unit {0}) _ _ (λ bytes damage. ⊥) _ c.in_ok-count.count _
    (λ bytes told read done x.
    opened c.args.id bytes c.read_block.new.frame c.read_block.new.starts _ _ c.in_ok-count.count read.0
    (with_items_is frame c.read_block.new.frame frames) (with_items_is starts c.read_block.new.starts places) read.1)
    (λ bytes told read damage none. absurd none)
    c.in_ok-count.ensures.answers
    (gives _ c.args.id.number _ _ _ tt (λ bytes told. tt))
