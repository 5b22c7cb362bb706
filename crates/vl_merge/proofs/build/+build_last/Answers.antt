use Rattle.std.proofs.Common.{arith}
use Rattle.vl_merge.proofs.BuildLaws.{halves_taken}
use Rattle.vl_merge.proofs.build.+build_last.Goals as goal

pub returns : goal.returns
returns g t c =
    halves_taken _ _ c.args.sources.now.items c.build_last.new.sources.items c.build_last-2.new.sources.items c.args.count
    c.in_ok-older.older c.in_ok-newer.newer c.in_ok-new-2.field-0.value c.in_ok-new.field-0.value
    (let none = c.if-count-eq0.false in let one = c.if-count-eq1.false in omega arith)
    c.in_ok-older.ensures c.in_ok-newer.ensures c.in_ok-new-2.ensures.ok c.in_ok-new.ensures.ok
