use Rattle.std.proofs.Common.{◌≡◌, ◌+◌, ℕ, List, ap, arith, drop, get_or, length, subst, sym, ◌∙◌}
use Rattle.std.proofs.lemmas.List.{drop_all, drop_more}
use Rattle.std.specs.Prelude.{Option}
use Rattle.vl_disk.specs.DiskState.{DiskState}
use Rattle.vl_recover.specs.opening.Finding.{IsReadTable}
use Rattle.vl_recover.specs.opening.FoundTables.{found_level, found_list, found_table}
use Rattle.vl_recover.specs.opening.HeldFiles.{AreReadTables}
use Rattle.vl_recover.specs.opening.OpenedTables.{last_before}
use Rattle.vl_recover.specs.opening.Opening.{FoundTable, NamedLevel}
use Rattle.vl_recover.proofs.opening.FaultNames.{handed_on}
use Rattle.vl_recover.proofs.opening.HandedCalls.{disk_fault_handed, fault_answered, no_fault_handed}
use Rattle.vl_recover.proofs.opening.Handing.{as_handed}
use Rattle.vl_recover.proofs.opening.NamingTables.{AreOpened, all_opened, found_more, held_more, next_refused}
use Rattle.vl_recover.proofs.opening.NamingTables.{no_held, not_next_handed, none_opened, one_opened, table_refused}
use Rattle.vl_recover.proofs.opening.Unmoved.{no_call, then_call}
use Rattle.vl_recover.proofs.tables.open_level.Goals as goal

pub loop-number-init : goal.loop-number-init
loop-number-init g c = record {
  still = no_call g.D.Watched c.args.disk.now;
  fresh = c.requires.fresh;
  steady = λ sure. sure;
  so_far = λ state read told is.
      subst (λ (ts : List _). AreOpened read c.args.is_deeper c.args.tables.now (found_list ts) c.args.tables.now)
      (sym c.new-opened.ensures.items)
      (none_opened read c.args.is_deeper c.args.tables.now);
  held = λ state read told is.
      subst (AreReadTables g.D.Held.HeldFile.bytes read) (sym c.new-opened.ensures.items) (no_held g.D.Held.HeldFile.bytes read);
}

pub loop-number-preserved : goal.loop-number-preserved
loop-number-preserved g c =
    let tables = c.args.tables.now in
    let deeper = c.args.is_deeper in
    let i = c.loop-number.number-index in
    let so = c.loop-number.invariant in
    record {
      still = then_call g.D.Watched c.args.disk.now c.loop-number.disk c.open_table.new.disk ⊥ so.still c.in_ok-table.ensures.no_change;
      fresh = c.in_ok-table.ensures.fresh;
      steady = λ sure. c.open_table.ensures.steady (so.steady sure);
      so_far = λ state read told is.
          subst (λ (ts : List FoundTable). AreOpened read deeper tables ts (drop (i + 1) tables))
          (found_more c.loop-number.opened.items c.in_ok-opened.opened.items c.in_ok-table.table c.in_ok-opened.ensures.more)
          (one_opened read deeper tables (found_level c.loop-number.opened) (get_or tables i 0) (drop (i + 1) tables)
          (found_table c.in_ok-table.table)
          (subst (AreOpened read deeper tables (found_level c.loop-number.opened))
          (drop_more tables i 0 c.loop-number-test.true) (so.so_far state read told is))
          (c.in_ok-table.ensures.answer state read (so.still.told ∙ told) is) c.in_ok-opened.ensures.next);
      held = λ state read told is.
          held_more g.D.Held.HeldFile.bytes read c.loop-number.opened.items c.in_ok-opened.opened.items
          c.in_ok-table.table (get_or tables i 0)
          c.in_ok-opened.ensures.more (c.in_ok-table.ensures.answer state read (so.still.told ∙ told) is).numbered
          (so.held state read told is) (c.in_ok-table.ensures.held state read (so.still.told ∙ told) is);
    }

pub returns-clause-answer : goal.returns-clause-answer
returns-clause-answer g c = λ state read told is.
    all_opened read c.args.is_deeper c.args.tables.now (found_level c.loop-number.opened)
    (subst (AreOpened read c.args.is_deeper c.args.tables.now (found_level c.loop-number.opened))
    (drop_all c.loop-number.number-index c.args.tables.now c.loop-number-test.false)
    (c.loop-number.invariant.so_far state read told is))

pub returns-in_err-table-clause-answer : goal.returns-in_err-table-clause-answer
returns-in_err-table-clause-answer g c = λ state read told is.
    let tables = c.args.tables.now in
    let i = c.loop-number.number-index in
    let so = c.loop-number.invariant in
    as_handed found_level (NamedLevel c.args.is_deeper read _ tables) c.from_residual.result c.in_err-table.field-0.0
    c.from_residual.ensures.0 c.from_residual.ensures.1
    (table_refused read c.args.is_deeper tables (found_level c.loop-number.opened) (get_or tables i 0) (drop (i + 1) tables)
    (subst (AreOpened read c.args.is_deeper tables (found_level c.loop-number.opened))
    (drop_more tables i 0 c.loop-number-test.true) (so.so_far state read told is))
    c.in_err-table.field-0.0 (c.in_err-table.ensures.answer state read (so.still.told ∙ told) is))

pub returns-in_err-opened-clause-answer : goal.returns-in_err-opened-clause-answer
returns-in_err-opened-clause-answer g c = λ state read told is.
    let tables = c.args.tables.now in
    let i = c.loop-number.number-index in
    let so = c.loop-number.invariant in
    as_handed found_level (NamedLevel c.args.is_deeper read _ tables) c.from_residual-in_err-opened.result c.in_err-opened.field-0.0
    c.from_residual-in_err-opened.ensures.0 c.from_residual-in_err-opened.ensures.1
    (next_refused read c.args.is_deeper tables (found_level c.loop-number.opened) (get_or tables i 0)
    (drop (i + 1) tables) (found_table c.in_ok-table.table)
    (subst (AreOpened read c.args.is_deeper tables (found_level c.loop-number.opened))
    (drop_more tables i 0 c.loop-number-test.true) (so.so_far state read told is))
    (c.in_ok-table.ensures.answer state read (so.still.told ∙ told) is)
    c.in_err-opened.field-0.0 c.in_err-opened.ensures.next)

pub returns-in_err-table-clause-at : goal.returns-in_err-table-clause-at
returns-in_err-table-clause-at g c =
    handed_on c.open_table.result c.in_err-table.field-0.0 c.from_residual.result (IsReadTable (g.D.Watched.told c.loop-number.disk))
    (IsReadTable (g.D.Watched.told c.args.disk.now)) c.in_err-table.was c.from_residual.ensures.0 c.from_residual.ensures.1
    (λ name is. subst (λ (told : Option DiskState). IsReadTable told name) c.loop-number.invariant.still.told is) c.open_table.ensures.at

pub returns-in_err-table-clause-no_change : goal.returns-in_err-table-clause-no_change
returns-in_err-table-clause-no_change g c =
    disk_fault_handed g.D.Watched c.args.disk.now c.loop-number.disk c.open_table.new.disk c.loop-number.invariant.still
    _ c.in_err-table.field-0.0 c.from_residual.result c.from_residual.ensures.0 c.from_residual.ensures.1 c.in_err-table.ensures.no_change

pub returns-in_err-opened-clause-no_change : goal.returns-in_err-opened-clause-no_change
returns-in_err-opened-clause-no_change g c =
    no_fault_handed g.D.Watched c.args.disk.now c.loop-number.disk c.open_table.new.disk c.loop-number.invariant.still _
    (not_next_handed (last_before c.args.is_deeper (found_level c.loop-number.opened)) (found_table c.in_ok-table.table) _
    c.in_err-opened.field-0.0 c.from_residual-in_err-opened.result c.from_residual-in_err-opened.ensures.0
    c.from_residual-in_err-opened.ensures.1
    c.in_err-opened.ensures.next)
    c.in_ok-table.ensures.no_change

pub returns-in_err-table-clause-unread : goal.returns-in_err-table-clause-unread
returns-in_err-table-clause-unread g c none =
    let within = c.loop-number-test.true in
    let empty : length c.args.tables.now ≡ 0 = ap (λ (ns : List ℕ). length ns) none in
    absurd (omega arith)

pub returns-in_err-opened-clause-unread : goal.returns-in_err-opened-clause-unread
returns-in_err-opened-clause-unread g c none = c.in_ok-table.ensures.fresh

pub returns-in_err-table-clause-read_fault : goal.returns-in_err-table-clause-read_fault
returns-in_err-table-clause-read_fault g c some =
    fault_answered c.in_err-table.field-0.0 c.from_residual.result c.from_residual.ensures.0 c.from_residual.ensures.1
    (c.in_err-table.ensures.read_fault some)
