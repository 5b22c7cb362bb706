use Rattle.std.proofs.Common.{◌+◌, ◌∙◌, ap, arith, length, refl, subst, sym, take, get_or, ◌∷◌, []}
use Rattle.std.proofs.lemmas.List.{take_all, take_more}
use Rattle.vl_space.specs.laws.Retired.Changing.{becomes_same, becomes_then, less_room, retired_more, tables_more, tables_none}
use Rattle.vl_space.specs.Retiring.{is_idle_log, retiring}
use Rattle.vl_pins.specs.Files.{BecomesBy, HasRoom, table_retired, tables_retired, with_tables}
use Rattle.vl_space.proofs.kept.Removing.switch.Goals as goal

pub loop-table-init : goal.loop-table-init
loop-table-init g c = record {
  pins = refl;
  becomes = becomes_same (with_tables []) c.args.self.now.stock tables_none;
  room = λ t n all has. less_room c.args.self.now.stock (length c.args.added.now) t n (omega (arith, all)) has;
}

pub add_table-requires : goal.add_table-requires
add_table-requires g c =
    let less = c.loop-table-test.true in
    c.loop-table.invariant.room 1 0 (omega (arith, less)) c.requires

pub loop-table-preserved : goal.loop-table-preserved
loop-table-preserved g c = record {
  pins = c.loop-table.invariant.pins;
  becomes = becomes_then (with_tables (take c.loop-table.table-index c.args.added.now)) (with_tables (_ ∷ []))
      (with_tables (take (c.loop-table.table-index + 1) c.args.added.now)) c.args.self.now.stock c.loop-table.self.stock
      c.add_table.new.self
      (λ kept. sym (tables_more (take c.loop-table.table-index c.args.added.now) _ kept)
      ∙ ap (λ ns. with_tables ns kept) (sym (take_more c.args.added.now c.loop-table.table-index 0 c.loop-table-test.true)))
      c.loop-table.invariant.becomes c.add_table.ensures.added;
  room = λ t n all has. c.add_table.ensures.room t 0 n (c.loop-table.invariant.room (t + 1) n (omega (arith, all)) has);
}

pub retire_table-requires : goal.retire_table-requires
retire_table-requires g c =
    c.loop-table-2.invariant.room 0 (c.loop-table.invariant.room 0 0 (omega arith) c.requires)

pub loop-table-2-preserved : goal.loop-table-2-preserved
loop-table-2-preserved g c = record {
  pins = c.loop-table-2.invariant.pins;
  becomes = becomes_then (tables_retired c.args.epoch (take c.loop-table-2.table-index c.args.dropped.now))
      (table_retired c.args.epoch _)
      (tables_retired c.args.epoch (take (c.loop-table-2.table-index + 1) c.args.dropped.now)) c.loop-table.self.stock
      c.loop-table-2.self.stock c.retire_table.new.self
      (λ kept. sym (retired_more c.args.epoch (take c.loop-table-2.table-index c.args.dropped.now) _ kept)
      ∙ ap (λ ns. tables_retired c.args.epoch ns kept)
      (sym (take_more c.args.dropped.now c.loop-table-2.table-index 0 c.loop-table-2-test.true)))
      c.loop-table-2.invariant.becomes c.retire_table.ensures.retired;
  room = λ n has. c.retire_table.ensures.room 0 0 n (c.loop-table-2.invariant.room n has);
}

pub retire_logs-requires : goal.retire_logs-requires
retire_logs-requires g c =
    c.loop-table-2.invariant.room 0 (c.loop-table.invariant.room 0 0 (omega arith) c.requires)

pub returns-clause-switched : goal.returns-clause-switched
returns-clause-switched g c = λ kept has.
    c.retire_logs.ensures.retired _
    (subst (λ ns. BecomesBy (tables_retired c.args.epoch ns) c.loop-table.self.stock c.loop-table-2.self.stock)
    (take_all c.loop-table-2.table-index c.args.dropped.now c.loop-table-2-test.false) c.loop-table-2.invariant.becomes _
    (subst (λ ns. BecomesBy (with_tables ns) c.args.self.now.stock c.loop-table.self.stock)
    (take_all c.loop-table.table-index c.args.added.now c.loop-table-test.false) c.loop-table.invariant.becomes kept has))

pub returns-clause-room : goal.returns-clause-room
returns-clause-room g c = λ n has.
    c.retire_logs.ensures.room n (c.loop-table-2.invariant.room n (c.loop-table.invariant.room 0 n (omega arith) has))
