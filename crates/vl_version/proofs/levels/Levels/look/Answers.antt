use Rattle.std.specs.Prelude.{Ok, Err, Option, Result}
use Rattle.std.specs.Option.{option_map}
use Rattle.std.proofs.Common.{◌∙◌, ◌++◌, ap, sym, subst, List}
use Rattle.std.proofs.lemmas.Result.{err_from_is_err_and}
use Rattle.vl_table.specs.body.Founds.{found_of}
use Rattle.vl_table.specs.declared.body.found.Found.{Found}
use Rattle.vl_disk.specs.declared.read_fault.ReadFault.{ReadFault}
use Rattle.vl_table.specs.KeptBlocks.{ReadsOf}
use Rattle.vl_table.specs.declared.table.Table.{Table}
use Rattle.vl_version.specs.levels.LevelTables.{AreAllApart, AreAllRanged, all_tables}
use Rattle.vl_version.specs.levels.LevelsLooked.{AreInOrder}
use Rattle.vl_version.specs.levels.LookedUp.{LooksInAll, LooksOn}
use Rattle.vl_version.proofs.looking.LookSteps.{fails_on, goes_on}
use Rattle.vl_version.proofs.looking.ReadsOfSome.{read_back, read_front, read_on}
use Rattle.vl_version.proofs.looking.Through.{in_all-append, in_all-front}
use Rattle.vl_version.proofs.levels.Levels.look.Goals as goal

pub returns-in_err-best-clause-kept : goal.returns-in_err-best-clause-kept
returns-in_err-best-clause-kept g c = λ files reads.
    let self = c.args.self.now in
    c.look_in_each.ensures.kept files
    (subst (ReadsOf g.H.HeldFile.bytes files c.args.reader.now) (sym c.deref.ensures.value)
    (read_front g.H.HeldFile.bytes files c.args.reader.now self.newest.items (all_tables self.deeper.items) reads))

pub returns-in_err-best-clause-answers : goal.returns-in_err-best-clause-answers
returns-in_err-best-clause-answers g c = λ files reads.
    let self = c.args.self.now in
    let bytes_of = g.H.HeldFile.bytes in
    let front = subst (ReadsOf bytes_of files c.args.reader.now) (sym c.deref.ensures.value)
    (read_front bytes_of files c.args.reader.now self.newest.items (all_tables self.deeper.items) reads) in
    let p = err_from_is_err_and c.from_residual.result c.from_residual.ensures.1 in
    let one = subst (λ (l : List (Table g.row.H.Denot)). LooksOn bytes_of l (Unit {0}) c.args.look c.args.key.now
    (option_map (found_of c.args.key.now) c.args.newer)
    (g.R.Reader.faults c.args.reader.now.reader) (g.R.Reader.faults c.look_in_each.new.reader.reader) (Err c.in_err-best.field-0.0))
    c.deref.ensures.value (c.in_err-best.ensures.answers files front) in
    subst (λ (r : Result (Option Found) ReadFault). LooksOn bytes_of
    (self.newest.items ++ all_tables self.deeper.items) (AreInOrder self) c.args.look
    c.args.key.now (option_map (found_of c.args.key.now) c.args.newer) (g.R.Reader.faults c.args.reader.now.reader)
    (g.R.Reader.faults c.look_in_each.new.reader.reader) r) (sym (p.1 ∙ ap Err p.2))
    (fails_on bytes_of c.args.look c.args.key.now self.newest.items (all_tables self.deeper.items) (Unit {0})
    (AreInOrder self) (option_map (found_of c.args.key.now) c.args.newer) _ _
    c.in_err-best.field-0.0 (λ lawful. tt) one)

pub returns-clause-kept : goal.returns-clause-kept
returns-clause-kept g c = λ files reads.
    let self = c.args.self.now in
    let bytes_of = g.H.HeldFile.bytes in
    let front = subst (ReadsOf bytes_of files c.args.reader.now) (sym c.deref.ensures.value)
    (read_front bytes_of files c.args.reader.now self.newest.items (all_tables self.deeper.items) reads) in
    c.look_in_levels.ensures.kept files
    (subst (λ (l : List (List (Table g.row.H.Denot))). ReadsOf bytes_of files c.look_in_each.new.reader (all_tables l))
    (sym c.deref-2.ensures.value)
    (read_on bytes_of files c.args.reader.now c.look_in_each.new.reader (all_tables self.deeper.items)
    (c.look_in_each.ensures.kept files front)
    (read_back bytes_of files c.args.reader.now self.newest.items (all_tables self.deeper.items) reads)))

pub returns-clause-answers : goal.returns-clause-answers
returns-clause-answers g c = λ files reads.
    let self = c.args.self.now in
    let bytes_of = g.H.HeldFile.bytes in
    let front = subst (ReadsOf bytes_of files c.args.reader.now) (sym c.deref.ensures.value)
    (read_front bytes_of files c.args.reader.now self.newest.items (all_tables self.deeper.items) reads) in
    let back = subst (λ (l : List (List (Table g.row.H.Denot))). ReadsOf bytes_of files c.look_in_each.new.reader
    (all_tables l)) (sym c.deref-2.ensures.value)
    (read_on bytes_of files c.args.reader.now c.look_in_each.new.reader (all_tables self.deeper.items)
    (c.look_in_each.ensures.kept files front)
    (read_back bytes_of files c.args.reader.now self.newest.items (all_tables self.deeper.items) reads)) in
    let one = subst (λ (l : List (Table g.row.H.Denot)). LooksOn bytes_of l (Unit {0}) c.args.look c.args.key.now
    (option_map (found_of c.args.key.now) c.args.newer)
    (g.R.Reader.faults c.args.reader.now.reader) (g.R.Reader.faults c.look_in_each.new.reader.reader) (Ok c.in_ok-best.best))
    c.deref.ensures.value (c.in_ok-best.ensures.answers files front) in
    let two = subst (λ (l : List (List (Table g.row.H.Denot))). LooksOn bytes_of (all_tables l) (AreAllApart l) c.args.look c.args.key.now
    (option_map (found_of c.args.key.now) c.in_ok-best.best)
    (g.R.Reader.faults c.look_in_each.new.reader.reader) (g.R.Reader.faults c.look_in_levels.new.reader.reader) c.look_in_levels.result)
    c.deref-2.ensures.value (c.look_in_levels.ensures.answers files back) in
    goes_on bytes_of c.args.look c.args.key.now self.newest.items (all_tables self.deeper.items) (Unit {0})
    (AreInOrder self) (AreInOrder self) (option_map (found_of c.args.key.now) c.args.newer) _ _ _
    c.in_ok-best.best c.look_in_levels.result (λ lawful. tt) (λ lawful. lawful) one two

pub returns-clause-looks : goal.returns-clause-looks
returns-clause-looks g c = λ files reads laid.
    let self = c.args.self.now in
    let bytes_of = g.H.HeldFile.bytes in
    let front = subst (ReadsOf bytes_of files c.args.reader.now) (sym c.deref.ensures.value)
    (read_front bytes_of files c.args.reader.now self.newest.items (all_tables self.deeper.items) reads) in
    let back = subst (λ (l : List (List (Table g.row.H.Denot))). ReadsOf bytes_of files c.look_in_each.new.reader
    (all_tables l)) (sym c.deref-2.ensures.value)
    (read_on bytes_of files c.args.reader.now c.look_in_each.new.reader (all_tables self.deeper.items)
    (c.look_in_each.ensures.kept files front)
    (read_back bytes_of files c.args.reader.now self.newest.items (all_tables self.deeper.items) reads)) in
    in_all-append bytes_of c.args.look c.args.key.now self.newest.items (all_tables self.deeper.items)
    (option_map (found_of c.args.key.now) c.args.newer) (option_map (found_of c.args.key.now) c.in_ok-best.best) c.look_in_levels.result
    (subst (λ (l : List (Table g.row.H.Denot)). LooksInAll bytes_of c.args.look c.args.key.now
    (option_map (found_of c.args.key.now) c.args.newer) l (Ok c.in_ok-best.best)) c.deref.ensures.value
    (c.in_ok-best.ensures.looks files front))
    (subst (λ (l : List (List (Table g.row.H.Denot))). AreAllApart l → AreAllRanged l → LooksInAll bytes_of c.args.look c.args.key.now
    (option_map (found_of c.args.key.now) c.in_ok-best.best) (all_tables l) c.look_in_levels.result)
    c.deref-2.ensures.value (c.look_in_levels.ensures.looks files back) laid.0 laid.1)

pub returns-in_err-best-clause-looks : goal.returns-in_err-best-clause-looks
returns-in_err-best-clause-looks g c = λ files reads laid.
    let self = c.args.self.now in
    let bytes_of = g.H.HeldFile.bytes in
    let front = subst (ReadsOf bytes_of files c.args.reader.now) (sym c.deref.ensures.value)
    (read_front bytes_of files c.args.reader.now self.newest.items (all_tables self.deeper.items) reads) in
    let p = err_from_is_err_and c.from_residual.result c.from_residual.ensures.1 in
    subst (λ (r : Result (Option Found) ReadFault). LooksInAll bytes_of c.args.look c.args.key.now
    (option_map (found_of c.args.key.now) c.args.newer) (self.newest.items ++ all_tables self.deeper.items) r)
    (sym (p.1 ∙ ap Err p.2))
    (in_all-front bytes_of c.args.look c.args.key.now self.newest.items (all_tables self.deeper.items)
    (option_map (found_of c.args.key.now) c.args.newer) c.in_err-best.field-0.0
    (subst (λ (l : List (Table g.row.H.Denot)). LooksInAll bytes_of c.args.look c.args.key.now
    (option_map (found_of c.args.key.now) c.args.newer) l (Err c.in_err-best.field-0.0))
    c.deref.ensures.value (c.in_err-best.ensures.looks files front)))
