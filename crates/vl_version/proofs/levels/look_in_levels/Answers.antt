use Rattle.std.specs.Prelude.{Ok, Err}
use Rattle.std.specs.Option.{option_map}
use Rattle.std.proofs.Common.{◌≡◌, ◌∙◌, ap, sym, subst, ◌+◌, suc, List, take, drop, get_or}
use Rattle.std.proofs.lemmas.List.{take_all}
use Rattle.std.proofs.lemmas.Result.{err_from_is_err_and}
use Rattle.vl_table.specs.body.Founds.{found_of}
use Rattle.vl_table.specs.declared.table.Table.{Table}
use Rattle.vl_version.specs.levels.LevelTables.{AreAllApart, AreAllRanged, AreApart, AreRanged, all_tables}
use Rattle.vl_version.specs.levels.LookedUp.{LooksOn, LooksThrough}
use Rattle.vl_version.proofs.looking.LooksSoFar.{fails_there, looks_on, stops_there}
use Rattle.vl_version.proofs.looking.Parts.{all_get, tables-next, tables-split}
use Rattle.vl_version.proofs.looking.ReadsOfSome.{read_level, read_on}
use Rattle.vl_version.proofs.levels.look_in_levels.Goals as goal

pub returns-in_err-best-clause-kept : goal.returns-in_err-best-clause-kept
returns-in_err-best-clause-kept g c = λ files reads.
    let i = c.loop-level.level-index in
    let ls = c.args.levels.now in
    let level = c.as_slice.result.now in
    let is = subst (λ (l : List (Table g.row.H.Denot)). l ≡ get_or ls i l) (sym c.as_slice.ensures) c.level-item.is in
    let now = read_on g.H.HeldFile.bytes files c.args.reader.now c.loop-level.reader (all_tables ls)
    (c.loop-level.invariant.so files reads).kept reads in
    c.look_in_level.ensures.kept files (read_level g.H.HeldFile.bytes files c.loop-level.reader ls i level c.loop-level-test.true is now)

pub returns-in_err-best-clause-answers : goal.returns-in_err-best-clause-answers
returns-in_err-best-clause-answers g c = λ files reads.
    let i = c.loop-level.level-index in
    let ls = c.args.levels.now in
    let level = c.as_slice.result.now in
    let is = subst (λ (l : List (Table g.row.H.Denot)). l ≡ get_or ls i l) (sym c.as_slice.ensures) c.level-item.is in
    let so = c.loop-level.invariant.so files reads in
    let now = read_on g.H.HeldFile.bytes files c.args.reader.now c.loop-level.reader (all_tables ls) so.kept reads in
    let p = err_from_is_err_and c.from_residual.result c.from_residual.ensures.1 in
    fails_there g.H.HeldFile.bytes files (AreAllApart ls) (AreAllApart ls × AreAllRanged ls) c.args.look c.args.key.now
    (option_map (found_of c.args.key.now) c.args.newer) (all_tables (take i ls)) level
    (g.R.Reader.faults c.args.reader.now.reader) (g.R.Reader.faults c.loop-level.reader.reader)
    (g.R.Reader.faults c.look_in_level.new.reader.reader)
    c.loop-level.reader c.loop-level.best so (all_tables (drop (suc i) ls)) (all_tables ls) (AreApart level)
    c.in_err-best.field-0.0 c.from_residual.result
    (tables-split ls i level c.loop-level-test.true is) (p.1 ∙ ap Err p.2)
    (λ apart. subst AreApart (sym is) (all_get AreApart ls i level apart c.loop-level-test.true))
    (c.in_err-best.ensures.answers files (read_level g.H.HeldFile.bytes files c.loop-level.reader ls i level c.loop-level-test.true is now))

pub loop-level-preserved : goal.loop-level-preserved
loop-level-preserved g c = record {
  steady = c.in_ok-best.ensures.cause.steady (λ none. none) ∙ c.loop-level.invariant.steady;
  so = λ files reads.
      let i = c.loop-level.level-index in
      let ls = c.args.levels.now in
      let level = c.as_slice.result.now in
      let is = subst (λ (l : List (Table g.row.H.Denot)). l ≡ get_or ls i l) (sym c.as_slice.ensures) c.level-item.is in
      let so = c.loop-level.invariant.so files reads in
      let now = read_on g.H.HeldFile.bytes files c.args.reader.now c.loop-level.reader (all_tables ls) so.kept reads in
      let at = read_level g.H.HeldFile.bytes files c.loop-level.reader ls i level c.loop-level-test.true is now in
      looks_on g.H.HeldFile.bytes files (AreAllApart ls) (AreAllApart ls × AreAllRanged ls) c.args.look c.args.key.now
      (option_map (found_of c.args.key.now) c.args.newer) (all_tables (take i ls)) level
      (g.R.Reader.faults c.args.reader.now.reader) (g.R.Reader.faults c.loop-level.reader.reader)
      (g.R.Reader.faults c.look_in_level.new.reader.reader)
      c.loop-level.reader c.loop-level.best so (all_tables (take (i + 1) ls)) (AreApart level) (AreApart level × AreRanged level)
      c.look_in_level.new.reader c.in_ok-best.best (tables-next ls i level c.loop-level-test.true is)
      (λ apart. subst AreApart (sym is) (all_get AreApart ls i level apart c.loop-level-test.true))
      (λ laid. (
        subst AreApart (sym is) (all_get AreApart ls i level laid.0 c.loop-level-test.true),
        subst AreRanged (sym is) (all_get AreRanged ls i level laid.1 c.loop-level-test.true),
      )) (c.look_in_level.ensures.kept files at) (c.in_ok-best.ensures.answers files at)
      (λ laid. c.in_ok-best.ensures.looks files at laid.0 laid.1);
}

pub returns-clause-kept : goal.returns-clause-kept
returns-clause-kept g c = λ files reads. (c.loop-level.invariant.so files reads).kept

pub returns-clause-answers : goal.returns-clause-answers
returns-clause-answers g c = λ files reads.
    subst (λ (l : List (List (Table g.row.H.Denot))). LooksOn g.H.HeldFile.bytes (all_tables l)
    (AreAllApart c.args.levels.now) c.args.look c.args.key.now
    (option_map (found_of c.args.key.now) c.args.newer) (g.R.Reader.faults c.args.reader.now.reader)
    (g.R.Reader.faults c.loop-level.reader.reader)
    (Ok c.loop-level.best))
    (take_all c.loop-level.level-index c.args.levels.now c.loop-level-test.false) (c.loop-level.invariant.so files reads).answer

pub returns-clause-looks : goal.returns-clause-looks
returns-clause-looks g c = λ files reads apart ranged.
    subst (λ (l : List (List (Table g.row.H.Denot))). LooksThrough g.H.HeldFile.bytes c.args.look c.args.key.now
    (option_map (found_of c.args.key.now) c.args.newer) (all_tables l) (option_map (found_of c.args.key.now) c.loop-level.best))
    (take_all c.loop-level.level-index c.args.levels.now c.loop-level-test.false)
    ((c.loop-level.invariant.so files reads).looks (apart, ranged))

pub returns-in_err-best-clause-looks : goal.returns-in_err-best-clause-looks
returns-in_err-best-clause-looks g c = λ files reads apart ranged.
    let i = c.loop-level.level-index in
    let ls = c.args.levels.now in
    let level = c.as_slice.result.now in
    let is = subst (λ (l : List (Table g.row.H.Denot)). l ≡ get_or ls i l) (sym c.as_slice.ensures) c.level-item.is in
    let so = c.loop-level.invariant.so files reads in
    let now = read_on g.H.HeldFile.bytes files c.args.reader.now c.loop-level.reader (all_tables ls) so.kept reads in
    let p = err_from_is_err_and c.from_residual.result c.from_residual.ensures.1 in
    stops_there g.H.HeldFile.bytes files (AreAllApart ls) (AreAllApart ls × AreAllRanged ls) c.args.look c.args.key.now
    (option_map (found_of c.args.key.now) c.args.newer) (all_tables (take i ls)) level
    (g.R.Reader.faults c.args.reader.now.reader) (g.R.Reader.faults c.loop-level.reader.reader)
    (g.R.Reader.faults c.look_in_level.new.reader.reader)
    c.loop-level.reader c.loop-level.best so (all_tables (drop (suc i) ls)) (all_tables ls)
    (AreApart level × AreRanged level) c.in_err-best.field-0.0
    c.from_residual.result (tables-split ls i level c.loop-level-test.true is) (p.1 ∙ ap Err p.2)
    (λ laid. (
      subst AreApart (sym is) (all_get AreApart ls i level laid.0 c.loop-level-test.true),
      subst AreRanged (sym is) (all_get AreRanged ls i level laid.1 c.loop-level-test.true),
    ))
    (λ laid. c.in_err-best.ensures.looks files
    (read_level g.H.HeldFile.bytes files c.loop-level.reader ls i level c.loop-level-test.true is now) laid.0 laid.1)
    (apart, ranged)
