use Rattle.std.proofs.Common.{◌≡◌, ◌++◌, ap, subst, ◌∙◌}
use Rattle.std.specs.Option.{ForSome}
use Rattle.std.specs.Prelude.{OnOk}
use Rattle.vl_compact.proofs.Pieces.{five, regroup}
use Rattle.vl_compact.proofs.fill.append_tail.Goals as goal

pub returns-clause-bytes : goal.returns-clause-bytes
returns-clause-bytes g c = λ given told.
    let a = c.deref.result.now in
    let b = c.deref-2.result.now in
    let d = c.deref-3.result.now in
    let e = c.deref-4.result.now in
    let tail = c.args.tail.now in
    subst (λ l. OnOk c.append.result (ForSome (g.W.Writer.file c.append.new.self.writer) (λ f. f.bytes ≡ l)))
    (regroup given a b d e tail.place
    ∙ ap (λ l. given ++ l) (five a tail.block.items b tail.index.items d tail.filter.items e tail.footer.items tail.place
    c.deref.ensures.value c.deref-2.ensures.value c.deref-3.ensures.value c.deref-4.ensures.value))
    (c.append.ensures.bytes ((given ++ (a ++ b)) ++ (d ++ e))
    (c.in_ok-append_behind-2.ensures.bytes (given ++ (a ++ b)) (c.in_ok-append_behind.ensures.bytes given told)))
