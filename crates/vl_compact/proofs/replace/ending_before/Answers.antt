use Rattle.std.specs.Prelude.{Some}
use Rattle.std.proofs.Common.{◌+◌, ◌∙◌, sym, drop}
use Rattle.vl_compact.proofs.Finding.{before_end, before_first, before_here, before_next}
use Rattle.vl_compact.proofs.Zips.{zip_at, zip_end}
use Rattle.vl_compact.specs.Laid.{IsTableOf}
use Rattle.vl_compact.proofs.replace.ending_before.Goals as goal

pub loop-at-init : goal.loop-at-init
loop-at-init g c = λ ts are. before_first (Some c.args.key.now) ts

pub loop-at-preserved : goal.loop-at-preserved
loop-at-preserved g c = λ ts are.
    let i = c.loop-at.at in
    let at = zip_at (IsTableOf g.H.HeldFile.bytes) c.args.tables.now ts i c.index-tables-at.result are
    c.loop-at-test.true c.index-tables-at.is in
    before_next i c.args.key.now at.item (drop i ts) (drop (i + 1) ts) ts at.rest (c.loop-at.invariant ts are)
    (sym (c.ends_before.ensures at.item at.is) ∙ c.if-not-ends_before.false)

pub returns-then-not-ends_before : goal.returns-then-not-ends_before
returns-then-not-ends_before g c = λ ts are.
    let i = c.loop-at.at in
    let at = zip_at (IsTableOf g.H.HeldFile.bytes) c.args.tables.now ts i c.index-tables-at.result are
    c.loop-at-test.true c.index-tables-at.is in
    before_here i c.args.key.now at.item (drop i ts) (drop (i + 1) ts) ts at.rest (c.loop-at.invariant ts are)
    (sym (c.ends_before.ensures at.item at.is) ∙ c.if-not-ends_before.true)

pub returns : goal.returns
returns g c = λ ts are.
    let i = c.loop-at.at in
    before_end i c.args.key.now (drop i ts) ts (zip_end (IsTableOf g.H.HeldFile.bytes) c.args.tables.now ts i are c.loop-at-test.false)
    (c.loop-at.invariant ts are)
