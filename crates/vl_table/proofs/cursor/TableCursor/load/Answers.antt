use Rattle.std.proofs.Common.{◌≡◌, ◌≤◌, ◌<◌, ◌∙◌, Option, Some, List, ap, arith, get_or, length, subst, sym}
use Rattle.std.specs.Prelude.{Result, Err}
use Rattle.std.specs.List.{slice_get}
use Rattle.std.specs.Result.{IfErr}
use Rattle.std.proofs.lemmas.Result.{err_from_is_err_and}
use Rattle.vl_model.specs.declared.entry.Entry.{Entry}
use Rattle.vl_model.specs.EntryOrder.{within}
use Rattle.vl_model.specs.laws.Places.{slice_get-lent}
use Rattle.vl_table.specs.declared.body.shape.TableShape.{TableShape}
use Rattle.vl_table.specs.CursorLeft.{unread}
use Rattle.vl_table.specs.CursorParts.{MayFailOn, StopsBefore, blocks_over, index_in}
use Rattle.vl_table.specs.Stretches.{on_way, stretch_of}
use Rattle.vl_disk.specs.declared.read_fault.ReadFault.{ReadFault}
use Rattle.vl_table.specs.declared.table.Table.{Table}
use Rattle.vl_table.proofs.CursorSteps.{block_taken, fails_at, stands_at, stops_before, whole_block}
use Rattle.vl_table.proofs.StretchSteps.{less_on}
use Rattle.vl_table.proofs.cursor.TableCursor.load.Goals as goal

pub returns-in_err-load-clause-may_fail : goal.returns-in_err-load-clause-may_fail
returns-in_err-load-clause-may_fail g c =
    let s = c.args.self.now in
    let t = c.in-Some.table.now in
    let shape = c.shape-shape.result.now in
    let here : slice_get s.tables.items s.table ≡ Some t =
    sym (slice_get-lent c.deref.result.now s.table (Some c.in-Some.table) c.in-Some.ensures.lookup
    ∙ ap (λ (l : List (Table g.row.H.Denot)). slice_get l s.table) c.deref.ensures.value) in
    let p = err_from_is_err_and c.from_residual.result c.from_residual.ensures.1 in
    let less = less_on s.way s.blocks c.args.rest c.args.at c.requires.next in
    let known : s.blocks.end ≤ length (index_in (Some t)) = subst
    (λ (o : Option (Table g.row.H.Denot)). s.blocks.end ≤ length (index_in o)) here s.named in
    let inside : c.args.at < length shape.blocks.items = omega
    (arith, known, less.1, ap (λ (h : TableShape). length h.blocks.items) c.shape-shape.ensures) in
    subst (λ (r : Result (Unit {0}) ReadFault). IfErr r (λ fault. MayFailOn g.H.HeldFile.bytes s.tables.items fault))
    (sym (p.1 ∙ ap Err p.2))
    (fails_at g.H.HeldFile.bytes s.tables.items s.table t shape c.held.result.now c.of-id.result c.index.result.now
    c.args.at _ _ _ c.in_err-load.field-0.0
    here c.shape-shape.ensures c.held.ensures c.of-id.ensures c.index.ensures inside c.in_err-load.ensures.answers)

pub returns-clause-read : goal.returns-clause-read
returns-clause-read g c =
    let s = c.args.self.now in
    let t = c.in-Some.table.now in
    let shape = c.shape-shape.result.now in
    let here : slice_get s.tables.items s.table ≡ Some t =
    sym (slice_get-lent c.deref.result.now s.table (Some c.in-Some.table) c.in-Some.ensures.lookup
    ∙ ap (λ (l : List (Table g.row.H.Denot)). slice_get l s.table) c.deref.ensures.value) in
    let block = c.index.result.now in
    let found = c.index.ensures in
    let others = blocks_over s.span s.way (on_way s.way (stretch_of s.later s.tables.items)) in
    record {
      block = (t, block);
      passed = λ rises. block_taken s.way s.tables.items s.table t s.blocks c.args.rest c.args.at block others here s.named c.requires.next
          (found ∙ ap (λ (h : TableShape). get_or h.blocks.items c.args.at block) c.shape-shape.ensures);
      entries = c.load.new.self;
      stood = stands_at g.H.HeldFile.bytes t shape c.held.result.now c.of-id.result block c.load.new.self
          c.shape-shape.ensures c.held.ensures c.of-id.ensures
          c.in_ok-load.ensures.answers.answer;
      taken = ap (λ (l : List Entry). within s.span (on_way s.way l)) (whole_block c.load.new.self c.len.result c.len.ensures.exact);
    }

pub returns-in_err-load-clause-stopped : goal.returns-in_err-load-clause-stopped
returns-in_err-load-clause-stopped g c =
    let s = c.args.self.now in
    let t = c.in-Some.table.now in
    let shape = c.shape-shape.result.now in
    let here : slice_get s.tables.items s.table ≡ Some t =
    sym (slice_get-lent c.deref.result.now s.table (Some c.in-Some.table) c.in-Some.ensures.lookup
    ∙ ap (λ (l : List (Table g.row.H.Denot)). slice_get l s.table) c.deref.ensures.value) in
    let block = c.index.result.now in
    let others = blocks_over s.span s.way (on_way s.way (stretch_of s.later s.tables.items)) in
    let first = block_taken s.way s.tables.items s.table t s.blocks c.args.rest c.args.at block others here s.named c.requires.next
    (c.index.ensures ∙ ap (λ (h : TableShape). get_or h.blocks.items c.args.at block) c.shape-shape.ensures) in
    let p = err_from_is_err_and c.from_residual.result c.from_residual.ensures.1 in
    subst (λ (r : Result (Unit {0}) ReadFault). IfErr r (λ fault. StopsBefore g.H.HeldFile.bytes (unread s) fault))
    (sym (p.1 ∙ ap Err p.2))
    (stops_before g.H.HeldFile.bytes (unread s) _ t shape c.held.result.now c.of-id.result block _ _ _
    c.in_err-load.field-0.0 first c.shape-shape.ensures
    c.held.ensures c.of-id.ensures c.in_err-load.ensures.answers)
