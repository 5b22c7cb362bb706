use Rattle.std.proofs.Common.{◌≡◌, ◌++◌, append_assoc, subst}
use Rattle.std.specs.Option.{ForSome}
use Rattle.std.specs.Prelude.{OnOk}
use Rattle.vl_compact.proofs.fill.append_behind.Goals as goal

pub returns-clause-bytes : goal.returns-clause-bytes
returns-clause-bytes g c = λ given told.
    subst (λ l. OnOk c.append-2.result (ForSome (g.W.Writer.file c.append-2.new.self.writer) (λ f. f.bytes ≡ l)))
    (append_assoc given c.args.one.now c.args.two.now)
    (c.append-2.ensures.bytes (given ++ c.args.one.now) (c.in_ok-append.ensures.bytes given told))
