-- A batch finds no damage: the pass's tables are true, and the frames of its log reach to its end.
use Rattle.std.specs.Prelude.{◌≡◌, ℕ, Bool, List, [], ◌∷◌, Option, Some, Err, Contains}
use Rattle.std.specs.List.{AllByRecursion, slice_get}
use Rattle.std.proofs.Common.{subst, ⊎_elim}
use Rattle.std.proofs.lemmas.List.Elements.{All-contains, All-from_recursion, Contains-get_or}
use Rattle.std.proofs.lemmas.Option.{get_or_from_slice_get, slice_get_within}
use Rattle.vl_table.specs.body.Bytes.{table_bytes}
use Rattle.vl_collect.specs.Faults as found
use Rattle.vl_collect.specs.Faults.{Counts, FailsPassing, IsOfLog, IsOfLooks, IsTheirs, LacksMemory, MayWhere}
use Rattle.vl_collect.specs.Passing.{TornBehind}
use Rattle.vl_disk.specs.declared.read_fault.ReadFault.TheVariants as faults
use Rattle.vl_disk.specs.declared.read_fault.ReadFault.{ReadFault}
use Rattle.vl_disk.specs.declared.name.Name.{Name as FileName}
use Rattle.vl_engine_model.specs.Store.Lines.{Name}
use Rattle.vl_engine_model.specs.Store.Things.{Thing}
use Rattle.vl_engine_model.specs.declared.layout.Layout.{Layout}
use Rattle.vl_model.specs.declared.entry.Entry.{Entry}
use Rattle.vl_table.specs.CursorParts.{MayFailOn}
use Rattle.vl_table.specs.OfTables.{AreOf}
use Rattle.vl_table.specs.Tables.{IsOf, number_of, shape_of}
use Rattle.vl_table.specs.declared.block_reader.BlockReader.{BlockReader}
use Rattle.vl_table.specs.declared.table.Table.{Table}
use Rattle.vl_table.specs.laws.TrueBlocks.{no_bad_block}
use Rattle.vl_version.specs.Bases.{Fits}
use Rattle.vl_version.specs.Sources.{tables_in}
use Rattle.vl_version.specs.declared.base.Base.{Base}
use Rattle.vl_script_model.specs.Halts.{HaltsByDamage}
use Rattle.vl_replay_laws.specs.Passing.{IsPassing, halt_at}
use Rattle.vl_replay_laws.specs.declared.passing.Passing.{Passing}
use Rattle.vl_script.specs.declared.answer.Answer.{Answer}
use Rattle.vl_replay_laws.specs.laws.Passes.Batching.{whole_not_torn}

here : {X : Type 0} (xs : List X) (i : ℕ) (x : X) → slice_get xs i ≡ Some x → Contains xs x
here xs i x at = subst (Contains xs) (get_or_from_slice_get xs i x x at) (Contains-get_or xs i x (slice_get_within xs i x at))

module _ {H : Type 0} (bytes : H → Option (List ℕ)) (ts : List (Table H)) where
  each_is : (tabled : List (List Entry)) (held : List (Table H)) → AreOf bytes held tabled
      → AllByRecursion (λ (t : Table H). (es : List Entry) × IsOf bytes t es) held
  each_is [] [] are = tt
  each_is [] (t ∷ held) are = absurd are
  each_is (es ∷ tabled) [] are = absurd are
  each_is (es ∷ tabled) (t ∷ held) are = ((es, are.0), each_is tabled held are.1)

  -- Of true tables none is damaged.
  sound_so : (tabled : List (List Entry)) → AreOf bytes ts tabled → (name : FileName) (place : ℕ) (told : ReadFault)
      → faults.Damaged name place ≡ told → MayFailOn bytes ts told → ⊥
  sound_so tabled are name place faults.NoMemory is may = absurd cc
  sound_so tabled are name place (faults.Disk n) is may = absurd cc
  sound_so tabled are name place (faults.Damaged n at) is (i, t, there, named, bad) =
      let (es, of) = All-contains (λ (u : Table H). (es : List Entry) × IsOf bytes u es) ts t
      (All-from_recursion (λ (u : Table H). (es : List Entry) × IsOf bytes u es) ts (each_is tabled ts are)) (here ts i t there) in
      no_bad_block bytes t es at of (bad (table_bytes (shape_of t).format (number_of t) es) of.told)

-- A log's damage is where it is said to be.
torn_so : (bad : ℕ → Type 0) → ((place : ℕ) → bad place → ⊥) → (name : FileName) (place : ℕ) (told : ReadFault)
    → faults.Damaged name place ≡ told → found.IsThere bad told → ⊥
torn_so bad none name place faults.NoMemory is there = absurd cc
torn_so bad none name place (faults.Disk n) is there = absurd cc
torn_so bad none name place (faults.Damaged n at) is there = none at there

module _ {H R : Type 0} (bytes : H → Option (List ℕ)) (passing : Passing (Base H R) H) (ts : List (Name × Thing)) (l : Layout)
    (going : IsPassing bytes passing ts l) (looks : BlockReader R) (fits : Fits bytes passing.pass.base.version looks)
    (is_read : ReadFault → Bool) (counts : Counts) where
  abbrev may : ReadFault → Type 0
  may = MayWhere (Fits bytes passing.pass.base.version looks) (MayFailOn bytes (tables_in passing.pass.base.version))

  abbrev bad : ℕ → Type 0
  bad = TornBehind bytes passing.pass.log passing.pass.at.place

  whole_so : (place : ℕ) → bad place → ⊥
  whole_so place torn =
      whole_not_torn bytes passing.pass.log passing.pass.at.place place going.goes.told going.goes.tells going.whole torn

  none_damaged : (name : FileName) (place : ℕ)
      → FailsPassing is_read may passing.pass.log.number bad counts (faults.Damaged name place) → ⊥
  none_damaged name place fails = ⊎_elim
      (λ (of : IsOfLooks is_read may counts (faults.Damaged name place)). ⊎_elim
      (λ (lacks : LacksMemory counts.sources_before counts.sources_after (faults.Damaged name place)).
      (let no : faults.Damaged name place ≡ faults.NoMemory = lacks.is in absurd cc))
      (λ (theirs : IsTheirs is_read may counts.sources_before counts.sources_after (faults.Damaged name place)).
      sound_so bytes (tables_in passing.pass.base.version) going.goes.base.had.tabled going.goes.base.had.tables name place theirs.told
      theirs.is (theirs.had fits))
      of.fails)
      (λ (of : IsOfLog passing.pass.log.number bad counts (faults.Damaged name place)).
      torn_so bad whole_so name place of.told of.is of.damage)
      fails

  -- So no line on the pass halts by damage.
  pub undamaged : (fault : ReadFault) → FailsPassing is_read may passing.pass.log.number bad counts fault
      → HaltsByDamage {T = Answer} (Err (halt_at fault)) → ⊥
  undamaged faults.NoMemory fails halts = halts
  undamaged (faults.Disk name) fails halts = halts
  undamaged (faults.Damaged name place) fails halts = none_damaged name place fails
