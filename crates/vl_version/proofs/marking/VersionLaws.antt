-- What memory and the tables of a version tell of all its sources.
use Rattle.std.specs.Prelude.{◌≡◌, ℕ, ◌-◌, ◌≤◌, Bool, true, false, ◌||◌, ◌++◌, IfErr, IfOk, MatchResult, List, Option}
use Rattle.std.specs.Prelude.{Some, None, Result, Ok, Err}
use Rattle.std.specs.List.{list_any}
use Rattle.std.specs.Option.{is_some, option_copied, option_map}
use Rattle.std.proofs.Common.{refl, ap, sym, subst, ◌∙◌, arith, cond, Bor}
use Rattle.vl_model.specs.Cutting.{joined}
use Rattle.vl_table.specs.body.Founds.{found_of}
use Rattle.vl_table.specs.declared.body.found.Found.{Found}
use Rattle.vl_disk.specs.Faults.{HasCause}
use Rattle.vl_merge.specs.Marked.{Marked, all_of, is_first_outside, outside_of}
use Rattle.vl_model.specs.Merging.{has_older}
use Rattle.vl_model.specs.Cursors.{IsCounted}
use Rattle.vl_model.specs.Winners.{counts, exact, winner}
use Rattle.vl_model.specs.declared.entry.Entry.{Entry}
use Rattle.vl_model.specs.laws.Exact.{exact-append}
use Rattle.vl_model.specs.Lookups.{or_else}
use Rattle.vl_table.specs.Answers.{Failed, IsAnswer}
use Rattle.vl_table.specs.CursorParts.{MayFailOn, is_disk_fault}
use Rattle.vl_table.specs.Kept.{Files}
use Rattle.vl_table.specs.KeptBlocks.{AreKept, ReadsOf}
use Rattle.vl_table.specs.OfTables.{AreOf}
use Rattle.vl_table.specs.declared.block_reader.BlockReader.{BlockReader}
use Rattle.vl_disk.specs.declared.read_fault.ReadFault.{ReadFault}
use Rattle.vl_disk.specs.declared.read_fault.ReadFault.TheVariants.{NoMemory, Disk, Damaged}
use Rattle.vl_version.specs.Bases.{Fits, HasSources, marked_sources, marked_tables}
use Rattle.vl_version.specs.Sources.{in_memory, tables_in}
use Rattle.vl_version.specs.declared.levels.Levels.{Levels}
use Rattle.vl_version.specs.declared.version.Version.{Version}
use Rattle.vl_version.specs.levels.LevelsLooked.{AreInOrder, tables_of}
use Rattle.vl_version.specs.levels.LookedUp.{LookedUp, NamesAsked}
use Rattle.vl_version.specs.levels.Marks.{Tells}
use Rattle.vl_version.proofs.marking.SourceLaws.{all-sources, first-sources, older-none, older-sources}
use Rattle.vl_version.proofs.marking.TellLaws.{fails_so, names_fail, says_too}

some-copied : (o : Option (Bor Entry)) → is_some o ≡ is_some (option_copied o)
some-copied None = refl
some-copied (Some e) = refl

or_either : {a : Bool} (b : Bool) → a ≡ true → true ≡ (a || b)
or_either b is = ap (λ (x : Bool). x || b) (sym is)

module _ {H R : Type 0} (bytes_of : H → Option (List ℕ)) (faults : R → ℕ) (version : Version H) where
  abbrev pub Told : {T : Type 0} → (List (List Entry) → T → Type 0) → BlockReader R → BlockReader R → Result T ReadFault → Type 0
  Told good old new r = Tells bytes_of faults (tables_in version) (AreInOrder version.behind.levels) good old new r

  -- ---- no table was asked

  no_failure : (now : ℕ) → HasCause now now ⊥
  no_failure now = record { later = omega arith; rose = λ failed. absurd failed; steady = λ steady. refl }

  pub held_told : {T : Type 0} (good : List (List Entry) → T → Type 0) (b : BlockReader R) (x : T)
      → ((ess : List (List Entry)) → good ess x)
      → Told good b b (Ok x)
  held_told good b x so = record {
    cause = no_failure (faults b.reader);
    kept = λ files reads. reads.kept;
    fault = λ files reads. tt;
    answer = λ files reads lawful ess are. so ess;
  }

  pub held_memory : {T : Type 0} (good : List (List Entry) → T → Type 0) (b : BlockReader R) (r : Result T ReadFault) → r ≡ Err NoMemory
      → Told good b b r
  held_memory {T} good b r is = subst (λ (s : Result T ReadFault). Told good b b s) (sym is) (record {
    cause = no_failure (faults b.reader);
    kept = λ files reads. reads.kept;
    fault = λ files reads. tt;
    answer = λ files reads lawful ess are. tt;
  })

  -- want of memory behind what was answered
  pub memory_wanted : {S T : Type 0} (good : List (List Entry) → S → Type 0) (other : List (List Entry) → T → Type 0)
      (old new : BlockReader R) (x : S)
      (r : Result T ReadFault) → r ≡ Err NoMemory → Told good old new (Ok x) → Told other old new r
  memory_wanted {S} {T} good other old new x r is told = subst (λ (s : Result T ReadFault). Told other old new s) (sym is) (record {
    cause = told.cause;
    kept = told.kept;
    fault = λ files reads. tt;
    answer = λ files reads lawful ess are. tt;
  })

  -- ---- the entry of a key and version

  abbrev pub TablesHave : List ℕ → ℕ → List (List Entry) → Option Found → Type 0
  TablesHave key number ess x = option_map (found_of key) x ≡ exact (joined ess) key number

  abbrev pub SourcesHave : List ℕ → ℕ → List (List Entry) → Option Entry → Type 0
  SourcesHave key number ess x = x ≡ exact (in_memory version ++ joined ess) key number

  module _ (key : List ℕ) (number : ℕ) where
    pub tables_told : (levels : Levels H) → levels ≡ version.behind.levels
        → (old new : BlockReader R) (r : Result (Option Found) ReadFault)
        → HasCause (faults old.reader) (faults new.reader) (Failed r)
        → ((files : Files) → ReadsOf bytes_of files old (tables_of levels) → AreKept files new)
        → ((files : Files) → ReadsOf bytes_of files old (tables_of levels)
        → LookedUp bytes_of (tables_of levels) (AreInOrder levels) (λ es. exact es key number) key (faults old.reader)
        (faults new.reader) r)
        → Told (TablesHave key number) old new r
    tables_told levels same old new r cause kept looks =
        subst (λ (l : Levels H). Tells bytes_of faults (tables_of l) (AreInOrder l) (TablesHave key number) old new r) same (record {
          cause = cause;
          kept = kept;
          fault = λ files reads. fault r (looks files reads).fault;
          answer = λ files reads lawful ess are. answer r ess ((looks files reads).answer lawful ess are);
        })
      where
        fault : (r : Result (Option Found) ReadFault) → NamesAsked bytes_of (tables_of levels) key r
            → IfErr r (MayFailOn bytes_of (tables_of levels))
        fault (Ok x) names = tt
        fault (Err e) names = names_fail bytes_of (tables_of levels) key e names

        answer : (r : Result (Option Found) ReadFault) (ess : List (List Entry))
            → IsAnswer (λ x. option_map (found_of key) x ≡ exact (joined ess) key number) (λ place. ⊥) r
            → IfOk r (TablesHave key number ess)
        answer (Ok x) ess is = is
        answer (Err e) ess is = tt

    -- memory has it
    pub held_first : (held : Option (Bor Entry)) → option_copied held ≡ exact (in_memory version) key number
        → (e : Entry) → option_copied held ≡ Some e
        → (ess : List (List Entry)) → SourcesHave key number ess (Some e)
    held_first held is e some ess =
        sym (exact-append key number (in_memory version) (joined ess)
        ∙ ap (λ (o : Option Entry). or_else o (exact (joined ess) key number)) (sym is ∙ some))

    -- memory hasn't got it, so it is what tables have
    pub tables_first : (held : Option (Bor Entry)) → option_copied held ≡ exact (in_memory version) key number → held ≡ None
        → (old new : BlockReader R) (x : Option Found) (y : Option Entry) → y ≡ option_map (found_of key) x
        → Told (TablesHave key number) old new (Ok x) → Told (SourcesHave key number) old new (Ok y)
    tables_first held is none old new x y same told =
        says_too bytes_of faults (tables_in version) (AreInOrder version.behind.levels) (TablesHave key number)
        (SourcesHave key number) old new x y
        (λ ess has. same ∙ has ∙ sym (exact-append key number (in_memory version) (joined ess)
        ∙ ap (λ (o : Option Entry). or_else o (exact (joined ess) key number)) (sym is ∙ ap option_copied none))) told

    pub tables_failed : (old new : BlockReader R) (e : ReadFault) (r : Result (Option Entry) ReadFault) → r ≡ Err e
        → Told (TablesHave key number) old new (Err e) → Told (SourcesHave key number) old new r
    tables_failed old new e r is told =
        fails_so bytes_of faults (tables_in version) (AreInOrder version.behind.levels) (TablesHave key number)
        (SourcesHave key number) old new e r is told

  -- ---- all sources are asked, but the inputs or behind these

  says_by : {T : Type 0} (good other : List (List Entry) → T → Type 0) (old new : BlockReader R) (r : Result T ReadFault)
      → ((ess : List (List Entry)) (x : T) → good ess x → other ess x) → Told good old new r → Told other old new r
  says_by {T} good other old new r says told = record {
    cause = told.cause;
    kept = told.kept;
    fault = told.fault;
    answer = λ files reads lawful ess are. by r ess (told.answer files reads lawful ess are);
  }
    where
      by : (r : Result T ReadFault) (ess : List (List Entry)) → IfOk r (good ess) → IfOk r (other ess)
      by (Ok x) ess is = says ess x is
      by (Err e) ess is = tt

  module _ (inputs key : List ℕ) (number : ℕ) where
    abbrev pub HasOlder : List (List Entry) → Bool → Type 0
    HasOlder ess found = found ≡ has_older (outside_of (marked_sources inputs version ess)) key number

    pub never_older : number ≡ 0 → (ess : List (List Entry)) → HasOlder ess false
    never_older zero ess =
        sym (ap (λ (n : ℕ). has_older (outside_of (marked_sources inputs version ess)) key n) zero
        ∙ older-none (outside_of (marked_sources inputs version ess)) key)

    pub held_older : (held : Option (Bor Entry)) (b : Bool)
        → option_copied held ≡ winner (in_memory version) key (number - 1) → b ≡ is_some held
        → b ≡ true → 1 ≤ number → (ess : List (List Entry)) → HasOlder ess true
    held_older held b is test some positive ess =
        or_either (list_any (counts key (number - 1)) (outside_of (marked_tables inputs (tables_in version) ess)))
        (ap is_some (sym is) ∙ sym (some-copied held) ∙ sym test ∙ some)
        ∙ sym (older-sources bytes_of inputs version ess key number positive)

    pub tables_older : (held : Option (Bor Entry)) (b : Bool)
        → option_copied held ≡ winner (in_memory version) key (number - 1) → b ≡ is_some held
        → b ≡ false → 1 ≤ number → (levels : Levels H) → levels ≡ version.behind.levels
        → (old new : BlockReader R) (r : Result Bool ReadFault)
        → Tells bytes_of faults (tables_of levels) (AreInOrder levels)
        (λ ess found. found ≡ list_any (counts key (number - 1)) (outside_of (marked_tables inputs (tables_of levels) ess))) old new r
        → Told HasOlder old new r
    tables_older held b is test none positive levels same old new r told =
        says_by (λ ess found. found ≡ list_any (counts key (number - 1))
        (outside_of (marked_tables inputs (tables_in version) ess))) HasOlder old new r
        (λ ess found has.
        has ∙ ap (λ (x : Bool). x || list_any (counts key (number - 1)) (outside_of (marked_tables inputs (tables_in version) ess)))
        (sym (ap is_some (sym is) ∙ sym (some-copied held) ∙ sym test ∙ none))
        ∙ sym (older-sources bytes_of inputs version ess key number positive))
        (subst (λ (l : Levels H). Tells bytes_of faults (tables_of l) (AreInOrder l)
        (λ ess found. found ≡ list_any (counts key (number - 1)) (outside_of (marked_tables inputs (tables_of l) ess)))
        old new r) same told)

    abbrev pub IsFirst : List (List Entry) → Bool → Type 0
    IsFirst ess found = found ≡ is_first_outside (marked_sources inputs version ess) key number

    pub held_outside : (held : Option (Bor Entry)) (b : Bool) → option_copied held ≡ exact (in_memory version) key number → b ≡ is_some held
        → b ≡ true → (ess : List (List Entry)) → IsFirst ess true
    held_outside held b is test some ess =
        sym (first-sources bytes_of inputs version ess key number
        ∙ ap (λ (x : Bool). cond x true (is_first_outside (marked_tables inputs (tables_in version) ess) key number))
        (ap is_some (sym is) ∙ sym (some-copied held) ∙ sym test ∙ some))

    pub tables_outside : (held : Option (Bor Entry)) (b : Bool)
        → option_copied held ≡ exact (in_memory version) key number → b ≡ is_some held
        → b ≡ false → (levels : Levels H) → levels ≡ version.behind.levels → (old new : BlockReader R) (r : Result Bool ReadFault)
        → Tells bytes_of faults (tables_of levels) (AreInOrder levels)
        (λ ess found. found ≡ is_first_outside (marked_tables inputs (tables_of levels) ess) key number) old new r
        → Told IsFirst old new r
    tables_outside held b is test none levels same old new r told =
        says_by (λ ess found. found ≡ is_first_outside (marked_tables inputs (tables_in version) ess) key number) IsFirst old new r
        (λ ess found has.
        has ∙ sym (first-sources bytes_of inputs version ess key number
        ∙ ap (λ (x : Bool). cond x true (is_first_outside (marked_tables inputs (tables_in version) ess) key number))
        (ap is_some (sym is) ∙ sym (some-copied held) ∙ sym test ∙ none)))
        (subst (λ (l : Levels H). Tells bytes_of faults (tables_of l) (AreInOrder l)
        (λ ess found. found ≡ is_first_outside (marked_tables inputs (tables_of l) ess) key number) old new r) same told)

  -- ---- what a merge is told

  module _ {T : Type 0} (good : List (List Entry) → T → Type 0) (old new : BlockReader R) (r : Result T ReadFault)
      (told : Told good old new r) where
    pub fits_on : Fits bytes_of version old → Fits bytes_of version new
    fits_on fits = (fits.0, record { kept = told.kept fits.0 fits.1; told = fits.1.told })

    pub fails_by : Fits bytes_of version old → IfErr r (MayFailOn bytes_of (tables_in version))
    fails_by fits = told.fault fits.0 fits.1

    pub is_counted : MatchResult r (λ x. faults new.reader ≡ faults old.reader)
        (λ fault. IsCounted (is_disk_fault fault) (faults old.reader) (faults new.reader))
    is_counted = by r told.cause
      where
        by : (r : Result T ReadFault) → HasCause (faults old.reader) (faults new.reader) (Failed r)
            → MatchResult r (λ x. faults new.reader ≡ faults old.reader)
            (λ fault. IsCounted (is_disk_fault fault) (faults old.reader) (faults new.reader))
        by (Ok x) cause = cause.steady (λ failed. failed)
        by (Err NoMemory) cause = cause.steady (λ failed. failed)
        by (Err (Disk name)) cause = let rose = cause.rose tt in record { later = rose.later; rose = rose.more; counts = rose.counts }
        by (Err (Damaged name place)) cause = cause.steady (λ failed. failed)

    -- where these are the entries of all sources
    pub told_of : (inputs : List ℕ) (ms : List Marked) (other : List Marked → T → Type 0) → Fits bytes_of version old
        → HasSources bytes_of version inputs ms
        → ((ess : List (List Entry)) (x : T) → AreOf bytes_of (tables_in version) ess → good ess x
        → other (marked_sources inputs version ess) x)
        → IfOk r (other ms)
    told_of inputs ms other fits has says =
        by r (told.answer fits.0 fits.1 has.in_order has.tabled has.tables)
      where
        by : (r : Result T ReadFault) → IfOk r (good has.tabled) → IfOk r (other ms)
        by (Ok x) is = subst (λ (l : List Marked). other l x) (sym has.entries) (says has.tabled x has.tables is)
        by (Err e) is = tt

  module _ (key : List ℕ) (number : ℕ) (old new : BlockReader R) where
    pub exact_found : (r : Result (Option Entry) ReadFault) → Told (SourcesHave key number) old new r
        → (inputs : List ℕ) (ms : List Marked)
        → Fits bytes_of version old → HasSources bytes_of version inputs ms → IfOk r (λ found. found ≡ exact (all_of ms) key number)
    exact_found r told inputs ms fits has =
        told_of (SourcesHave key number) old new r told inputs ms (λ ms found. found ≡ exact (all_of ms) key number) fits has
        (λ ess found are is. is ∙ sym (ap (λ (l : List Entry). exact l key number) (all-sources bytes_of inputs version ess are)))

    pub older_found : (inputs : List ℕ) (r : Result Bool ReadFault) → Told (HasOlder inputs key number) old new r → (ms : List Marked)
        → Fits bytes_of version old → HasSources bytes_of version inputs ms → IfOk r (λ found. found ≡ has_older (outside_of ms) key number)
    older_found inputs r told ms fits has =
        told_of (HasOlder inputs key number) old new r told inputs ms (λ ms found. found ≡ has_older (outside_of ms) key number) fits has
        (λ ess found are is. is)

    pub first_found : (inputs : List ℕ) (r : Result Bool ReadFault) → Told (IsFirst inputs key number) old new r → (ms : List Marked)
        → Fits bytes_of version old → HasSources bytes_of version inputs ms → IfOk r (λ found. found ≡ is_first_outside ms key number)
    first_found inputs r told ms fits has =
        told_of (IsFirst inputs key number) old new r told inputs ms (λ ms found. found ≡ is_first_outside ms key number) fits has
        (λ ess found are is. is)
