use Rattle.std.specs.Prelude.{Ok, Err}
use Rattle.std.specs.Option.{option_map}
use Rattle.std.proofs.Common.{◌∙◌, ◌∷◌, [], ap, ◌+◌, suc, List, take, drop}
use Rattle.std.proofs.lemmas.List.{take_all}
use Rattle.std.proofs.lemmas.Result.{err_from_is_err_and}
use Rattle.std.proofs.Common.{subst}
use Rattle.vl_table.specs.body.Founds.{found_of}
use Rattle.vl_table.specs.declared.table.Table.{Table}
use Rattle.vl_version.specs.levels.LookedUp.{LooksOn, LooksThrough}
use Rattle.vl_version.proofs.looking.LooksSoFar.{fails_there, looks_on, stops_there}
use Rattle.vl_version.proofs.looking.Parts.{split_at, take_next}
use Rattle.vl_version.proofs.looking.ReadsOfSome.{read_at, read_on}
use Rattle.vl_version.proofs.levels.look_in_each.Goals as goal

pub returns-in_err-best-clause-kept : goal.returns-in_err-best-clause-kept
returns-in_err-best-clause-kept g c = λ files reads.
    let i = c.loop-table.table-index in
    let ts = c.args.tables.now in
    let now = read_on g.H.HeldFile.bytes files c.args.reader.now c.loop-table.reader ts
    (c.loop-table.invariant.so files reads).kept reads in
    c.look_in.ensures.kept files
    (read_at g.H.HeldFile.bytes files c.loop-table.reader ts i c.table-item.result c.loop-table-test.true c.table-item.is now)

pub returns-in_err-best-clause-answers : goal.returns-in_err-best-clause-answers
returns-in_err-best-clause-answers g c = λ files reads.
    let i = c.loop-table.table-index in
    let ts = c.args.tables.now in
    let t = c.table-item.result in
    let so = c.loop-table.invariant.so files reads in
    let now = read_on g.H.HeldFile.bytes files c.args.reader.now c.loop-table.reader ts so.kept reads in
    let p = err_from_is_err_and c.from_residual.result c.from_residual.ensures.1 in
    fails_there g.H.HeldFile.bytes files (Unit {0}) (Unit {0}) c.args.look c.args.key.now
    (option_map (found_of c.args.key.now) c.args.newer) (take i ts) (t ∷ [])
    (g.R.Reader.faults c.args.reader.now.reader) (g.R.Reader.faults c.loop-table.reader.reader)
    (g.R.Reader.faults c.look_in.new.reader.reader)
    c.loop-table.reader c.loop-table.best so (drop (suc i) ts) ts (Unit {0}) c.in_err-best.field-0.0 c.from_residual.result
    (split_at ts i t c.loop-table-test.true c.table-item.is) (p.1 ∙ ap Err p.2) (λ u. u)
    (c.in_err-best.ensures.answers files
    (read_at g.H.HeldFile.bytes files c.loop-table.reader ts i t c.loop-table-test.true c.table-item.is now))

pub loop-table-preserved : goal.loop-table-preserved
loop-table-preserved g c = record {
  steady = c.in_ok-best.ensures.cause.steady (λ none. none) ∙ c.loop-table.invariant.steady;
  so = λ files reads.
      let i = c.loop-table.table-index in
      let ts = c.args.tables.now in
      let t = c.table-item.result in
      let so = c.loop-table.invariant.so files reads in
      let now = read_on g.H.HeldFile.bytes files c.args.reader.now c.loop-table.reader ts so.kept reads in
      let at = read_at g.H.HeldFile.bytes files c.loop-table.reader ts i t c.loop-table-test.true c.table-item.is now in
      looks_on g.H.HeldFile.bytes files (Unit {0}) (Unit {0}) c.args.look c.args.key.now
      (option_map (found_of c.args.key.now) c.args.newer) (take i ts) (t ∷ [])
      (g.R.Reader.faults c.args.reader.now.reader) (g.R.Reader.faults c.loop-table.reader.reader)
      (g.R.Reader.faults c.look_in.new.reader.reader)
      c.loop-table.reader c.loop-table.best so (take (i + 1) ts) (Unit {0}) (Unit {0}) c.look_in.new.reader c.in_ok-best.best
      (take_next ts i t c.loop-table-test.true c.table-item.is) (λ u. u) (λ u. u) (c.look_in.ensures.kept files at)
      (c.in_ok-best.ensures.answers files at) (λ u. c.in_ok-best.ensures.looks files at);
}

pub returns-clause-kept : goal.returns-clause-kept
returns-clause-kept g c = λ files reads. (c.loop-table.invariant.so files reads).kept

pub returns-clause-answers : goal.returns-clause-answers
returns-clause-answers g c = λ files reads.
    subst (λ (l : List (Table g.row.H.Denot)). LooksOn g.H.HeldFile.bytes l (Unit {0}) c.args.look c.args.key.now
    (option_map (found_of c.args.key.now) c.args.newer)
    (g.R.Reader.faults c.args.reader.now.reader) (g.R.Reader.faults c.loop-table.reader.reader) (Ok c.loop-table.best))
    (take_all c.loop-table.table-index c.args.tables.now c.loop-table-test.false) (c.loop-table.invariant.so files reads).answer

pub returns-clause-looks : goal.returns-clause-looks
returns-clause-looks g c = λ files reads.
    subst (λ (l : List (Table g.row.H.Denot)). LooksThrough g.H.HeldFile.bytes c.args.look c.args.key.now
    (option_map (found_of c.args.key.now) c.args.newer) l (option_map (found_of c.args.key.now) c.loop-table.best))
    (take_all c.loop-table.table-index c.args.tables.now c.loop-table-test.false) ((c.loop-table.invariant.so files reads).looks tt)

pub returns-in_err-best-clause-looks : goal.returns-in_err-best-clause-looks
returns-in_err-best-clause-looks g c = λ files reads.
    let i = c.loop-table.table-index in
    let ts = c.args.tables.now in
    let t = c.table-item.result in
    let so = c.loop-table.invariant.so files reads in
    let now = read_on g.H.HeldFile.bytes files c.args.reader.now c.loop-table.reader ts so.kept reads in
    let p = err_from_is_err_and c.from_residual.result c.from_residual.ensures.1 in
    stops_there g.H.HeldFile.bytes files (Unit {0}) (Unit {0}) c.args.look c.args.key.now
    (option_map (found_of c.args.key.now) c.args.newer) (take i ts) (t ∷ [])
    (g.R.Reader.faults c.args.reader.now.reader) (g.R.Reader.faults c.loop-table.reader.reader)
    (g.R.Reader.faults c.look_in.new.reader.reader)
    c.loop-table.reader c.loop-table.best so (drop (suc i) ts) ts (Unit {0}) c.in_err-best.field-0.0 c.from_residual.result
    (split_at ts i t c.loop-table-test.true c.table-item.is) (p.1 ∙ ap Err p.2) (λ u. u)
    (λ u. c.in_err-best.ensures.looks files
    (read_at g.H.HeldFile.bytes files c.loop-table.reader ts i t c.loop-table-test.true c.table-item.is now)) tt
