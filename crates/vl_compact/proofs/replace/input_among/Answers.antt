use Rattle.std.proofs.Common.{◌+◌, ◌∙◌, sym, drop}
use Rattle.vl_compact.proofs.Finding.{index_end, index_first, index_here, index_next}
use Rattle.vl_compact.proofs.Zips.{zip_at, zip_end}
use Rattle.vl_compact.specs.Laid.{IsTableOf}
use Rattle.vl_compact.specs.Places.{index_of}
use Rattle.vl_compact.proofs.replace.input_among.Goals as goal

pub loop-at-init : goal.loop-at-init
loop-at-init g c = λ ts are. index_first (index_of c.args.inputs.now ts)

pub loop-at-preserved : goal.loop-at-preserved
loop-at-preserved g c = λ ts are.
    let i = c.loop-at.at in
    let at = zip_at (IsTableOf g.H.HeldFile.bytes) c.args.tables.now ts i c.index-tables-at.result are
    c.loop-at-test.true c.index-tables-at.is in
    c.loop-at.invariant ts are ∙ index_next c.args.inputs.now i at.item (drop i ts) (drop (i + 1) ts) at.rest
    (sym (c.is_input.ensures at.item at.is) ∙ c.if-is_input.false)

pub returns-then-is_input : goal.returns-then-is_input
returns-then-is_input g c = λ ts are.
    let i = c.loop-at.at in
    let at = zip_at (IsTableOf g.H.HeldFile.bytes) c.args.tables.now ts i c.index-tables-at.result are
    c.loop-at-test.true c.index-tables-at.is in
    index_here c.args.inputs.now i at.item (drop i ts) (drop (i + 1) ts) at.rest
    (sym (c.is_input.ensures at.item at.is) ∙ c.if-is_input.true) ∙ sym (c.loop-at.invariant ts are)

pub returns : goal.returns
returns g c = λ ts are.
    let i = c.loop-at.at in
    index_end c.args.inputs.now i (drop i ts) (zip_end (IsTableOf g.H.HeldFile.bytes) c.args.tables.now ts i are c.loop-at-test.false)
    ∙ sym (c.loop-at.invariant ts are)
