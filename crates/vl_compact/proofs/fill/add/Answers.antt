use Rattle.std.proofs.Common.{[], ◌∷◌, ◌++◌}
use Rattle.vl_compact.proofs.Pieces.{more_out}
use Rattle.vl_compact.specs.laws.FirstTableLaws.{last-append}
use Rattle.vl_compact.proofs.fill.add.Goals as goal

pub returns-in-Ok-clause-added : goal.returns-in-Ok-clause-added
returns-in-Ok-clause-added g c = λ es written.
    more_out g.W.Writer c.args.lent.now c.append_some.new.lent c.add.new.self (es ++ c.args.entry.now ∷ []) written.given
    c.new-block.result.items c.add.new.out.items c.deref.result.now c.new-block.ensures.items c.deref.ensures.value
    c.append_some.ensures.number (c.in-Ok.ensures.added c.args.lent.now.number es written.given written.writing)
    (c.in_ok-append_some-in-Ok.ensures.bytes written.given written.file)

pub returns-in-Ok-clause-ends : goal.returns-in-Ok-clause-ends
returns-in-Ok-clause-ends g c = λ key is.
    let added = c.in-Ok.ensures.added is.number is.entries is.given is.writing in
    record {
      number = is.number;
      entries = is.entries ++ c.args.entry.now ∷ [];
      given = is.given ++ added.0;
      writing = added.2;
      last = last-append is.entries c.args.entry.now;
    }
