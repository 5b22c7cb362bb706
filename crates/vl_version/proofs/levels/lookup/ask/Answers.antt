use Rattle.std.specs.Prelude.{ℕ, List, Option, Result}
use Rattle.std.specs.Option.{option_map}
use Rattle.std.proofs.Common.{◌≡◌, sym, subst}
use Rattle.vl_model.specs.declared.entry.Entry.{Entry}
use Rattle.vl_table.specs.body.Founds.{found_of}
use Rattle.vl_table.specs.declared.body.found.Found.{Found}
use Rattle.vl_table.specs.Answers.{Answers}
use Rattle.vl_table.specs.Meets.{LooksIn}
use Rattle.vl_table.specs.Seeks.{IsBadBlock}
use Rattle.vl_table.specs.Tables.{IsOf, number_of, shape_of}
use Rattle.vl_disk.specs.declared.read_fault.ReadFault.{ReadFault}
use Rattle.vl_table.specs.declared.table.Table.{Table}
use Rattle.vl_version.specs.levels.Looks.{makes, place_version, sought}
use Rattle.vl_version.specs.declared.levels.look.Look.{Look}
use Rattle.vl_version.proofs.levels.lookup.ask.Goals as goal

abbrev Answered : {H : Type 0} → (H → Option (List ℕ)) → Table H → List ℕ → (before now : ℕ)
    → Result (Option Found) ReadFault → Look → Type 0
Answered bytes_of t key before now r look =
    Answers {T = Option Found} before now (number_of t) (bytes_of t.held)
    (λ bytes found. (es : List Entry) → IsOf bytes_of t es → option_map (found_of key) found ≡ sought look key es)
    (IsBadBlock (shape_of t)) r

pub returns-in-UpTo-clause-answers : goal.returns-in-UpTo-clause-answers
returns-in-UpTo-clause-answers g c = λ files reads.
    subst (Answered g.H.HeldFile.bytes c.args.table.now c.args.key.now (g.R.Reader.faults c.args.reader.now.reader)
    (g.R.Reader.faults c.find.new.reader.reader) c.find.result)
    (sym c.in-UpTo.is) (c.find.ensures.answers files reads)

pub returns-in-UpTo-clause-looks : goal.returns-in-UpTo-clause-looks
returns-in-UpTo-clause-looks g c = λ files reads holds.
    subst (λ (look : Look). LooksIn g.H.HeldFile.bytes (makes look c.args.key.now) c.args.table.now c.args.key.now
    (place_version look) c.find.result)
    (sym c.in-UpTo.is) (c.find.ensures.looks files reads holds)

pub returns-in-Exactly-clause-answers : goal.returns-in-Exactly-clause-answers
returns-in-Exactly-clause-answers g c = λ files reads.
    subst (Answered g.H.HeldFile.bytes c.args.table.now c.args.key.now (g.R.Reader.faults c.args.reader.now.reader)
    (g.R.Reader.faults c.exact.new.reader.reader) c.exact.result)
    (sym c.in-Exactly.is) (c.exact.ensures.answers files reads)

pub returns-in-Exactly-clause-looks : goal.returns-in-Exactly-clause-looks
returns-in-Exactly-clause-looks g c = λ files reads holds.
    subst (λ (look : Look). LooksIn g.H.HeldFile.bytes (makes look c.args.key.now) c.args.table.now c.args.key.now
    (place_version look) c.exact.result)
    (sym c.in-Exactly.is) (c.exact.ensures.looks files reads holds)
