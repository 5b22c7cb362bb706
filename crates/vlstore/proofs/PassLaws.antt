-- The first batch of a pass: its records stand in the pass's log, and over a disk that never fails nothing but memory may be wanting.
use Rattle.std.specs.Prelude.{◌≡◌, ◌≤◌, ℕ, ◌+◌, List, [], ◌∷◌, Option, Some, Contains, length}
use Rattle.std.specs.List.{AllByRecursion, slice_get}
use Rattle.std.proofs.Common.{subst, sym, ◌∙◌, ⊎_elim, arith}
use Rattle.std.proofs.lemmas.List.Elements.{All-contains, All-from_recursion, Contains-get_or}
use Rattle.std.proofs.lemmas.Option.{get_or_from_slice_get, slice_get_within}
use Rattle.vl_disk.specs.laws.Counting.{none_rose}
use Rattle.vl_table.specs.body.Bytes.{table_bytes}
use Rattle.vl_collect.specs.Faults as found
use Rattle.vl_collect.specs.Faults.{Counts, FailsPassing, IsOfLog, IsOfLooks, IsTheirs, LacksMemory, MayWhere}
use Rattle.vl_collect.specs.Passing.{IsWholeFrom, TornBehind}
use Rattle.vl_disk.specs.declared.read_fault.ReadFault.TheVariants as faults
use Rattle.vl_disk.specs.declared.read_fault.ReadFault.{ReadFault}
use Rattle.vl_collect.specs.declared.pass.Pass.{Pass as ThePass}
use Rattle.vl_collect.specs.laws.StandingLaws.{given}
use Rattle.vl_engine_laws.specs.MoveFacts.{AreThere}
use Rattle.vl_disk.specs.Faults.{HasCause, NoneCounted}
use Rattle.vl_disk.specs.declared.name.Name.{Name as FileName}
use Rattle.vl_space.specs.Collecting.{GoesOver}
use Rattle.vl_engine_model.specs.Relocation.{Candidate, Pass, next_batch}
use Rattle.vl_engine_model.specs.Shown.{IsThere}
use Rattle.vl_engine_model.specs.Shows.{AreUpTo}
use Rattle.vl_model.specs.Cursors.{HasRisen, IsCounted}
use Rattle.vl_model.specs.declared.entry.Entry.{Entry}
use Rattle.vl_seglog.specs.Answers.{Failed as LogFailed}
use Rattle.vl_seglog.specs.Stored.{stored_at}
use Rattle.vl_seglog.specs.declared.sealed.SealedLog.{SealedLog}
use Rattle.vl_table.specs.CursorParts.{MayFailOn, is_disk_fault}
use Rattle.vl_table.specs.OfTables.{AreOf}
use Rattle.vl_table.specs.Tables.{IsOf, number_of, shape_of}
use Rattle.vl_table.specs.declared.block_reader.BlockReader.{BlockReader}
use Rattle.vl_table.specs.declared.table.Table.{Table}
use Rattle.vl_table.specs.laws.TrueBlocks.{no_bad_block}
use Rattle.vl_version.specs.Bases.{Fits}
use Rattle.vl_version.specs.Sources.{tables_in}
use Rattle.vl_version.specs.declared.base.Base.{Base}

-- ---- what a batch has

-- some number is at least each version
up_to_some : (es : List Entry) → (last : ℕ) × AreUpTo last es
up_to_some es = (bound es, all es)
  where
    bound : List Entry → ℕ
    bound [] = 0
    bound (e ∷ es) = e.version + bound es

    wider : (n m : ℕ) (es : List Entry) → n ≤ m → AreUpTo n es → AreUpTo m es
    wider n m [] le are = tt
    wider n m (e ∷ es) le are = (let here = are.0 in omega (arith, here, le), wider n m es le are.1)

    all : (es : List Entry) → AreUpTo (bound es) es
    all [] = tt
    all (e ∷ es) = (omega arith, wider (bound es) (e.version + bound es) es (omega arith) (all es))

module _ {H R : Type 0} (bytes : H → Option (List ℕ)) where
  -- What a pass gives stands in its log.
  pub given_there : (pass : ThePass (Base H R) H) (p : Pass) → GoesOver bytes pass p → (batch : List Candidate)
      → (next_batch p).0 ≡ Some batch → AreThere bytes pass.log batch
  given_there pass p goes batch is told tells =
      let (last, up_to) = up_to_some p.base in
      let found = given pass.log.format pass.log.number goes.told pass.at p last batch goes.left up_to is in
      subst (λ (bs : List ℕ). AllByRecursion (IsThere (stored_at pass.log.format bs) pass.log.number) batch)
      (some_same goes.told told (sym goes.tells ∙ tells))
      (subst (λ (n : ℕ). AllByRecursion (IsThere (stored_at pass.log.format goes.told) n) batch) (sym goes.segment) found.there)
    where
      some_same : (a b : List ℕ) → Some a ≡ Some b → a ≡ b
      some_same a b e = cc

-- ---- no damage

-- of a log whose frames reach to its end nothing is torn
whole_not_torn : {H : Type 0} (bytes : H → Option (List ℕ)) (log : SealedLog H) (place found : ℕ) (told : List ℕ)
    → bytes log.held ≡ Some told → IsWholeFrom bytes log place → TornBehind bytes log place found → ⊥
whole_not_torn bytes log place found told tells whole torn =
    let there = torn told tells in
    let at = there.ends (length told) (whole told tells) in
    omega (arith, at, there.torn.within)

here : {X : Type 0} (xs : List X) (i : ℕ) (x : X) → slice_get xs i ≡ Some x → Contains xs x
here xs i x at = subst (Contains xs) (get_or_from_slice_get xs i x x at) (Contains-get_or xs i x (slice_get_within xs i x at))

module _ {H : Type 0} (bytes : H → Option (List ℕ)) (ts : List (Table H)) where
  each_is : (tabled : List (List Entry)) (held : List (Table H)) → AreOf bytes held tabled
      → AllByRecursion (λ (t : Table H). (es : List Entry) × IsOf bytes t es) held
  each_is [] [] are = tt
  each_is [] (t ∷ held) are = absurd are
  each_is (es ∷ tabled) [] are = absurd are
  each_is (es ∷ tabled) (t ∷ held) are = ((es, are.0), each_is tabled held are.1)

  -- of true tables none is damaged
  pub none_bad : (tabled : List (List Entry)) → AreOf bytes ts tabled → (name : FileName) (place : ℕ)
      → MayFailOn bytes ts (faults.Damaged name place) → ⊥
  none_bad tabled are name place (i, t, there, named, bad) =
      let (es, of) = All-contains (λ (u : Table H). (es : List Entry) × IsOf bytes u es) ts t
      (All-from_recursion (λ (u : Table H). (es : List Entry) × IsOf bytes u es) ts (each_is tabled ts are)) (here ts i t there) in
      no_bad_block bytes t es place of (bad (table_bytes (shape_of t).format (number_of t) es) of.told)

-- ---- nothing but memory

pub none_risen : (before now : ℕ) → NoneCounted now → HasRisen before now → ⊥
none_risen before now none risen =
    none_rose before now none (record { later = risen.later; more = risen.rose; counts = risen.counts })

-- the only fault that there may be
abbrev pub IsMemory : ReadFault → Type 0
IsMemory fault = fault ≡ faults.NoMemory

module _ {H R : Type 0} (bytes : H → Option (List ℕ)) (pass : ThePass (Base H R) H) (p : Pass) (goes : GoesOver bytes pass p)
    (whole : IsWholeFrom bytes pass.log pass.at.place) (looks : BlockReader R) (fits : Fits bytes pass.base.version looks)
    (counts : Counts) (sources : NoneCounted counts.sources_after) (files : NoneCounted counts.files_after) where
  abbrev may : ReadFault → Type 0
  may = MayWhere (Fits bytes pass.base.version looks) (MayFailOn bytes (tables_in pass.base.version))

  abbrev bad : ℕ → Type 0
  bad = TornBehind bytes pass.log pass.at.place

  of_their_own : (fault : ReadFault)
      → IsTheirs (λ (f : ReadFault). is_disk_fault f) may counts.sources_before counts.sources_after fault → IsMemory fault
  of_their_own fault theirs = of theirs.told theirs.is (theirs.had fits) theirs.counted
    where
      of : (told : ReadFault) → fault ≡ told → MayFailOn bytes (tables_in pass.base.version) told
          → IsCounted (is_disk_fault told) counts.sources_before counts.sources_after → IsMemory fault
      of faults.NoMemory is had counted = is
      of (faults.Disk name) is had counted = absurd (none_risen counts.sources_before counts.sources_after sources counted)
      of (faults.Damaged name place) is had counted =
          absurd (none_bad bytes (tables_in pass.base.version) goes.base.had.tabled goes.base.had.tables name place had)

  of_the_log : (fault : ReadFault) → IsOfLog pass.log.number bad counts fault → IsMemory fault
  of_the_log fault its = of its.told its.is its.damage its.counted
    where
      of : (told : ReadFault) → fault ≡ told → found.IsThere bad told
          → HasCause counts.files_before counts.files_after (LogFailed (found.failing told)) → IsMemory fault
      of faults.NoMemory is there cause = is
      of (faults.Disk name) is there cause = absurd (none_rose counts.files_before counts.files_after files (cause.rose tt))
      of (faults.Damaged name place) is there cause =
          absurd (whole_not_torn bytes pass.log pass.at.place place goes.told goes.tells whole there)

  pub only_memory : (fault : ReadFault)
      → FailsPassing (λ (f : ReadFault). is_disk_fault f) may pass.log.number bad counts fault → IsMemory fault
  only_memory fault fails = ⊎_elim
      (λ (of : IsOfLooks (λ (f : ReadFault). is_disk_fault f) may counts fault). ⊎_elim
      (λ (lacks : LacksMemory counts.sources_before counts.sources_after fault). lacks.is)
      (λ (theirs : IsTheirs (λ (f : ReadFault). is_disk_fault f) may counts.sources_before counts.sources_after fault).
      of_their_own fault theirs)
      of.fails)
      (λ (of : IsOfLog pass.log.number bad counts fault). of_the_log fault of)
      fails
