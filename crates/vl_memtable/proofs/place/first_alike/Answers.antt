use Rattle.std.proofs.Common.{ap, sym, arith}
use Rattle.vl_model.specs.Lookups.{if_exact, if_of_key}
use Rattle.vl_memtable.specs.laws.HeadLaws.{at_found, at_other, heads-length, past_all}
use Rattle.vl_memtable.proofs.place.first_alike.Goals as goal

pub returns-then-at-entries-clause-of_key : goal.returns-then-at-entries-clause-of_key
returns-then-at-entries-clause-of_key c =
    let sought = c.args.sought.now in
    ap (if_of_key sought.key.now) (sym (past_all sought.key.now sought.version sought.head c.requires.sought
    c.args.heads.now c.args.entries.now c.requires.heads c.place-at.result c.place-at.ensures (omega arith)))

pub returns-then-at-entries-clause-exact : goal.returns-then-at-entries-clause-exact
returns-then-at-entries-clause-exact c =
    let sought = c.args.sought.now in
    ap (if_exact sought.key.now sought.version) (sym (past_all sought.key.now sought.version sought.head c.requires.sought
    c.args.heads.now c.args.entries.now c.requires.heads c.place-at.result c.place-at.ensures (omega arith)))

pub returns-then-head-sought-clause-of_key : goal.returns-then-head-sought-clause-of_key
returns-then-head-sought-clause-of_key c =
    let sought = c.args.sought.now in
    sym (at_other sought.key.now sought.version sought.head c.requires.sought
    c.args.heads.now c.args.entries.now c.requires.heads c.place-at.result c.place-at.ensures (omega arith) c.if-head-sought.true).0

pub returns-then-head-sought-clause-exact : goal.returns-then-head-sought-clause-exact
returns-then-head-sought-clause-exact c =
    let sought = c.args.sought.now in
    sym (at_other sought.key.now sought.version sought.head c.requires.sought
    c.args.heads.now c.args.entries.now c.requires.heads c.place-at.result c.place-at.ensures (omega arith) c.if-head-sought.true).1

pub bounds-heads-at : goal.bounds-heads-at
bounds-heads-at c = omega (arith, heads-length c.args.heads.now c.args.entries.now c.requires.heads)

pub returns-clause-of_key : goal.returns-clause-of_key
returns-clause-of_key c =
    let sought = c.args.sought.now in
    ap (if_of_key sought.key.now) (sym (at_found sought.key.now sought.version sought.head c.requires.sought
    c.args.heads.now c.args.entries.now c.requires.heads c.place-at.result c.place-at.ensures c.index-entries-at.result
    (omega arith) c.index-entries-at.is))

pub returns-clause-exact : goal.returns-clause-exact
returns-clause-exact c =
    let sought = c.args.sought.now in
    ap (if_exact sought.key.now sought.version)
    (sym (at_found sought.key.now sought.version sought.head c.requires.sought
    c.args.heads.now c.args.entries.now c.requires.heads c.place-at.result c.place-at.ensures c.index-entries-at.result
    (omega arith) c.index-entries-at.is))
