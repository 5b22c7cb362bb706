-- What the first mark among tables says of the entries of all sources.
use Rattle.std.specs.Prelude.{◌≡◌, ℕ, ◌-◌, ◌≤◌, Bool, true, false, ◌&&◌, ◌||◌, not, nat_le, nat_lt, List, [], ◌∷◌}
use Rattle.std.specs.Prelude.{◌++◌, Option, Some, None, Result, Ok, Err}
use Rattle.std.specs.List.{list_any}
use Rattle.std.specs.Option.{is_some}
use Rattle.std.specs.Ordering.{eq_by_cmp}
use Rattle.std.proofs.Common.{refl, ap, sym, ◌∙◌, arith, cond}
use Rattle.std.proofs.lemmas.Bool.Decides.{nat_tests}
use Rattle.std.proofs.lemmas.List.Folds.{list_any-append}
use Rattle.vl_merge.specs.Marked.{Marked, all_of, is_first_outside, outside_of, unless_marked}
use Rattle.vl_model.specs.Merging.{has_older}
use Rattle.vl_model.specs.Entries.{is_at}
use Rattle.vl_model.specs.Keys.{key_cmp}
use Rattle.vl_model.specs.Winners.{counts, exact, newest_of, only_if, winner}
use Rattle.vl_model.specs.declared.entry.Entry.{Entry}
use Rattle.vl_model.specs.Cutting.{joined}
use Rattle.vl_model.specs.laws.Exact.{exact-append}
use Rattle.vl_model.specs.Lookups.{or_else}
use Rattle.vl_table.specs.OfTables.{AreOf}
use Rattle.vl_table.specs.declared.block_reader.BlockReader.{BlockReader}
use Rattle.vl_disk.specs.declared.read_fault.ReadFault.{ReadFault}
use Rattle.vl_table.specs.declared.table.Table.{Table}
use Rattle.vl_version.specs.Bases.{is_input, marked_as, marked_sources, marked_tables}
use Rattle.vl_version.specs.Sources.{in_memory, tables_in}
use Rattle.vl_version.specs.levels.Looks.{sought}
use Rattle.vl_version.specs.levels.Marks.{Tells, TellsFirst, first_mark, mark_if, or_mark}
use Rattle.vl_version.specs.declared.levels.look.Look.{Look}
use Rattle.vl_version.specs.declared.levels.look.Look.TheVariants.{UpTo, Exactly}
use Rattle.vl_version.specs.declared.levels.mark.Asked.{Asked}
use Rattle.vl_version.specs.declared.version.Version.{Version}
use Rattle.vl_version.proofs.marking.TellLaws.{asks_next, fails_so, says_too}

-- ---- marked entries

pub all-append : (ms ns : List Marked) → all_of (ms ++ ns) ≡ all_of ms ++ all_of ns
all-append [] ns = refl
all-append (m ∷ ms) ns = ap (λ (es : List Entry). m.1 ∷ es) (all-append ms ns)

pub all-marked : (input : Bool) (es : List Entry) → all_of (marked_as input es) ≡ es
all-marked input [] = refl
all-marked input (e ∷ es) = ap (λ (fs : List Entry). e ∷ fs) (all-marked input es)

unless-append : (input : Bool) (e : Entry) (es fs : List Entry) → unless_marked input e (es ++ fs) ≡ unless_marked input e es ++ fs
unless-append true e es fs = refl
unless-append false e es fs = refl

pub outside-append : (ms ns : List Marked) → outside_of (ms ++ ns) ≡ outside_of ms ++ outside_of ns
outside-append [] ns = refl
outside-append (m ∷ ms) ns = ap (unless_marked m.0 m.1) (outside-append ms ns) ∙ unless-append m.0 m.1 (outside_of ms) (outside_of ns)

pub outside-inputs : (es : List Entry) → outside_of (marked_as true es) ≡ []
outside-inputs [] = refl
outside-inputs (e ∷ es) = outside-inputs es

pub outside-others : (es : List Entry) → outside_of (marked_as false es) ≡ es
outside-others [] = refl
outside-others (e ∷ es) = ap (λ (fs : List Entry). e ∷ fs) (outside-others es)

pub outside-next : (input : Bool) (es : List Entry) (ms : List Marked)
    → outside_of (marked_as input es ++ ms) ≡ cond input (outside_of ms) (es ++ outside_of ms)
outside-next true es ms = outside-append (marked_as true es) ms ∙ ap (λ (l : List Entry). l ++ outside_of ms) (outside-inputs es)
outside-next false es ms = outside-append (marked_as false es) ms ∙ ap (λ (l : List Entry). l ++ outside_of ms) (outside-others es)

-- ---- what a mark says

abbrev pub mark_says : Option Bool → Bool
mark_says None = false
mark_says (Some input) = not input

pub some-winner : (es : List Entry) (key : List ℕ) (number : ℕ) → is_some (winner es key number) ≡ list_any (counts key number) es
some-winner [] key number = refl
some-winner (e ∷ es) key number = by (counts key number e) (winner es key number) (some-winner es key number)
  where
    first : (b : Bool) (f : Entry) → is_some (cond b (Some e) (Some f)) ≡ true
    first true f = refl
    first false f = refl

    by : (b : Bool) (w : Option Entry) → is_some w ≡ list_any (counts key number) es
        → is_some (newest_of (only_if b e) w) ≡ (b || list_any (counts key number) es)
    by true None is = refl
    by true (Some f) is = first (nat_le f.version e.version) f
    by false w is = is

-- ---- the key at lower versions

lower : (m n : ℕ) → 1 ≤ n → nat_lt m n ≡ nat_le m (n - 1)
lower m n some = grind (arith, nat_tests)

not_lower : (m : ℕ) → nat_lt m 0 ≡ false
not_lower m = grind (arith, nat_tests)

both_false : (a b : Bool) → b ≡ false → (a && b) ≡ false
both_false true b is = is
both_false false b is = refl

pub older-counts : (es : List Entry) (key : List ℕ) (version : ℕ) → 1 ≤ version
    → has_older es key version ≡ list_any (counts key (version - 1)) es
older-counts [] key version some = refl
older-counts (e ∷ es) key version some =
    ap (λ (b : Bool). (eq_by_cmp key_cmp key e.key && b) || has_older es key version) (lower e.version version some)
    ∙ ap (λ (b : Bool). counts key (version - 1) e || b) (older-counts es key version some)

pub older-none : (es : List Entry) (key : List ℕ) → has_older es key 0 ≡ false
older-none [] key = refl
older-none (e ∷ es) key =
    ap (λ (b : Bool). b || has_older es key 0) (both_false (eq_by_cmp key_cmp key e.key) (nat_lt e.version 0) (not_lower e.version))
    ∙ older-none es key

-- ---- the first that has a key and version

pub first-marked : (input : Bool) (es : List Entry) (ms : List Marked) (key : List ℕ) (version : ℕ)
    → is_first_outside (marked_as input es ++ ms) key version
    ≡ cond (is_some (exact es key version)) (not input) (is_first_outside ms key version)
first-marked input [] ms key version = refl
first-marked input (e ∷ es) ms key version = by (is_at key version e) (first-marked input es ms key version)
  where
    by : (b : Bool) → is_first_outside (marked_as input es ++ ms) key version
        ≡ cond (is_some (exact es key version)) (not input) (is_first_outside ms key version)
        → cond b (not input) (is_first_outside (marked_as input es ++ ms) key version)
        ≡ cond (is_some (cond b (Some e) (exact es key version))) (not input) (is_first_outside ms key version)
    by true is = refl
    by false is = is

module _ {H : Type 0} (asked : Asked) where
  -- ---- the tables that aren't inputs

  abbrev Outside : List (Table H) → List (List Entry) → List Entry
  Outside ts ess = outside_of (marked_tables asked.inputs.now ts ess)

  module _ (outside : asked.outside ≡ true) where
    -- one of them has the key at a version of at most a number
    pub first-counts : (number : ℕ) → asked.look ≡ UpTo number → (ts : List (Table H)) (ess : List (List Entry))
        → is_some (first_mark asked ts ess) ≡ list_any (counts asked.key.now number) (Outside ts ess)
    first-counts number look [] ess = refl
    first-counts number look (t ∷ ts) [] = refl
    first-counts number look (t ∷ ts) (es ∷ ess) =
        ap (λ (b : Bool). is_some
        (or_mark (cond (b && is_input asked.inputs.now t) None
        (mark_if (is_input asked.inputs.now t) (sought asked.look asked.key.now es))) later)) outside
        ∙ ap (λ (l : Look). is_some
        (or_mark (cond (is_input asked.inputs.now t) None
        (mark_if (is_input asked.inputs.now t) (sought l asked.key.now es))) later)) look
        ∙ by (is_input asked.inputs.now t) (winner es asked.key.now number) (some-winner es asked.key.now number)
        (first-counts number look ts ess)
        ∙ sym (ap (list_any (counts asked.key.now number))
        (outside-next (is_input asked.inputs.now t) es (marked_tables asked.inputs.now ts ess)))
      where
        later : Option Bool
        later = first_mark asked ts ess

        by : (input : Bool) (w : Option Entry) → is_some w ≡ list_any (counts asked.key.now number) es
            → is_some later ≡ list_any (counts asked.key.now number) (Outside ts ess)
            → is_some (or_mark (cond input None (mark_if input w)) later)
            ≡ list_any (counts asked.key.now number) (cond input (Outside ts ess) (es ++ Outside ts ess))
        by true w is rest = rest
        by false None is rest =
            rest
            ∙ ap (λ (b : Bool). b || list_any (counts asked.key.now number) (Outside ts ess)) is
            ∙ sym (list_any-append (counts asked.key.now number) es (Outside ts ess))
        by false (Some f) is rest =
            ap (λ (b : Bool). b || list_any (counts asked.key.now number) (Outside ts ess)) is
            ∙ sym (list_any-append (counts asked.key.now number) es (Outside ts ess))

  module _ (version : ℕ) (look : asked.look ≡ Exactly version) where
    abbrev First : List (Table H) → List (List Entry) → Bool
    First ts ess = is_first_outside (marked_tables asked.inputs.now ts ess) asked.key.now version

    -- all are asked for a key and version
    pub first-says : asked.outside ≡ false → (ts : List (Table H)) (ess : List (List Entry))
        → First ts ess ≡ mark_says (first_mark asked ts ess)
    first-says all [] ess = refl
    first-says all (t ∷ ts) [] = refl
    first-says all (t ∷ ts) (es ∷ ess) =
        first-marked (is_input asked.inputs.now t) es (marked_tables asked.inputs.now ts ess) asked.key.now version
        ∙ by (is_input asked.inputs.now t) (exact es asked.key.now version) (first-says all ts ess)
        ∙ sym (ap (λ (b : Bool). mark_says
        (or_mark (cond (b && is_input asked.inputs.now t) None
        (mark_if (is_input asked.inputs.now t) (sought asked.look asked.key.now es))) later)) all
        ∙ ap (λ (l : Look). mark_says (or_mark (mark_if (is_input asked.inputs.now t) (sought l asked.key.now es)) later)) look)
      where
        later : Option Bool
        later = first_mark asked ts ess

        by : (input : Bool) (w : Option Entry) → First ts ess ≡ mark_says later
            → cond (is_some w) (not input) (First ts ess) ≡ mark_says (or_mark (mark_if input w) later)
        by input None rest = rest
        by input (Some e) rest = refl

    -- where no other table than the inputs has it, the first that has it is an input
    pub none-outside : asked.outside ≡ true → (ts : List (Table H)) (ess : List (List Entry))
        → first_mark asked ts ess ≡ None → First ts ess ≡ false
    none-outside outside [] ess none = refl
    none-outside outside (t ∷ ts) [] none = refl
    none-outside outside (t ∷ ts) (es ∷ ess) none =
        first-marked (is_input asked.inputs.now t) es (marked_tables asked.inputs.now ts ess) asked.key.now version
        ∙ by (is_input asked.inputs.now t) (exact es asked.key.now version)
        (sym (ap (λ (b : Bool). or_mark
        (cond (b && is_input asked.inputs.now t) None
        (mark_if (is_input asked.inputs.now t) (sought asked.look asked.key.now es))) later) outside
        ∙ ap (λ (l : Look). or_mark
        (cond (is_input asked.inputs.now t) None (mark_if (is_input asked.inputs.now t) (sought l asked.key.now es))) later) look)
        ∙ none)
        (none-outside outside ts ess)
      where
        later : Option Bool
        later = first_mark asked ts ess

        by : (input : Bool) (w : Option Entry) → or_mark (cond input None (mark_if input w)) later ≡ None
            → (later ≡ None → First ts ess ≡ false) → cond (is_some w) (not input) (First ts ess) ≡ false
        by true None is rest = rest is
        by true (Some e) is rest = refl
        by false None is rest = rest is
        by false (Some e) is rest = absurd cc

-- ---- all sources

module _ {H : Type 0} (bytes_of : H → Option (List ℕ)) (inputs : List ℕ) where
  all-tables : (ts : List (Table H)) (ess : List (List Entry)) → AreOf bytes_of ts ess → all_of (marked_tables inputs ts ess) ≡ joined ess
  all-tables [] [] are = refl
  all-tables [] (es ∷ ess) are = absurd are
  all-tables (t ∷ ts) [] are = absurd are
  all-tables (t ∷ ts) (es ∷ ess) are =
      all-append (marked_as (is_input inputs t) es) (marked_tables inputs ts ess)
      ∙ ap (λ (l : List Entry). l ++ all_of (marked_tables inputs ts ess)) (all-marked (is_input inputs t) es)
      ∙ ap (λ (l : List Entry). es ++ l) (all-tables ts ess are.1)

  module _ (version : Version H) (ess : List (List Entry)) where
    -- the entries of all sources are those in memory and those of the tables
    pub all-sources : AreOf bytes_of (tables_in version) ess → all_of (marked_sources inputs version ess) ≡ in_memory version ++ joined ess
    all-sources are =
        all-append (marked_as false (in_memory version)) (marked_tables inputs (tables_in version) ess)
        ∙ ap (λ (l : List Entry). l ++ all_of (marked_tables inputs (tables_in version) ess)) (all-marked false (in_memory version))
        ∙ ap (λ (l : List Entry). in_memory version ++ l) (all-tables (tables_in version) ess are)

    pub exact-sources : AreOf bytes_of (tables_in version) ess → (key : List ℕ) (number : ℕ)
        → exact (all_of (marked_sources inputs version ess)) key number
        ≡ or_else (exact (in_memory version) key number) (exact (joined ess) key number)
    exact-sources are key number =
        ap (λ (l : List Entry). exact l key number) (all-sources are) ∙ exact-append key number (in_memory version) (joined ess)

  module _ (version : Version H) (ess : List (List Entry)) where
    -- what is in memory is in no input
    pub outside-sources : outside_of (marked_sources inputs version ess)
        ≡ in_memory version ++ outside_of (marked_tables inputs (tables_in version) ess)
    outside-sources =
        outside-append (marked_as false (in_memory version)) (marked_tables inputs (tables_in version) ess)
        ∙ ap (λ (l : List Entry). l ++ outside_of (marked_tables inputs (tables_in version) ess)) (outside-others (in_memory version))

    pub older-sources : (key : List ℕ) (number : ℕ) → 1 ≤ number → has_older (outside_of (marked_sources inputs version ess)) key number
        ≡ (is_some (winner (in_memory version) key (number - 1))
        || list_any (counts key (number - 1)) (outside_of (marked_tables inputs (tables_in version) ess)))
    older-sources key number some =
        ap (λ (l : List Entry). has_older l key number) outside-sources
        ∙ older-counts (in_memory version ++ outside_of (marked_tables inputs (tables_in version) ess)) key number some
        ∙ list_any-append (counts key (number - 1)) (in_memory version) (outside_of (marked_tables inputs (tables_in version) ess))
        ∙ ap (λ (b : Bool). b || list_any (counts key (number - 1)) (outside_of (marked_tables inputs (tables_in version) ess)))
        (sym (some-winner (in_memory version) key (number - 1)))

    pub first-sources : (key : List ℕ) (number : ℕ) → is_first_outside (marked_sources inputs version ess) key number
        ≡ cond (is_some (exact (in_memory version) key number)) true
        (is_first_outside (marked_tables inputs (tables_in version) ess) key number)
    first-sources key number =
        first-marked false (in_memory version) (marked_tables inputs (tables_in version) ess) key number

-- ---- what is told

module _ {H R : Type 0} (bytes_of : H → Option (List ℕ)) (faults : R → ℕ) (ts : List (Table H)) (L : Type 0) where
  abbrev Marks : Asked → List (List Entry) → Option Bool → Type 0
  Marks asked ess found = found ≡ first_mark asked ts ess

  module _ (asked : Asked) (old new : BlockReader R) (outside : asked.outside ≡ true) where
    abbrev Counts : ℕ → List (List Entry) → Bool → Type 0
    Counts number ess found = found ≡ list_any (counts asked.key.now number) (outside_of (marked_tables asked.inputs.now ts ess))

    -- whether one of the other tables has the key at a version of at most a number
    pub outside_told : (number : ℕ) → asked.look ≡ UpTo number → (m : Option Bool) (b : Bool) → b ≡ is_some m
        → TellsFirst bytes_of faults asked ts L old new (Ok m) → Tells bytes_of faults ts L (Counts number) old new (Ok b)
    outside_told number look m b is told =
        says_too bytes_of faults ts L (Marks asked) (Counts number) old new m b
        (λ ess marks. is ∙ ap is_some marks ∙ first-counts asked outside number look ts ess) told

    pub outside_failed : (number : ℕ) (e : ReadFault) (r : Result Bool ReadFault) → r ≡ Err e
        → TellsFirst bytes_of faults asked ts L old new (Err e) → Tells bytes_of faults ts L (Counts number) old new r
    outside_failed number e r is told = fails_so bytes_of faults ts L (Marks asked) (Counts number) old new e r is told

  abbrev Says : List ℕ → List ℕ → ℕ → List (List Entry) → Bool → Type 0
  Says inputs key version ess found = found ≡ is_first_outside (marked_tables inputs ts ess) key version

  module _ (asked : Asked) (old new : BlockReader R) (version : ℕ) (look : asked.look ≡ Exactly version) where
    -- none of them has the key and version
    pub none_told : asked.outside ≡ true → (m : Option Bool) → m ≡ None → TellsFirst bytes_of faults asked ts L old new (Ok m)
        → Tells bytes_of faults ts L (Says asked.inputs.now asked.key.now version) old new (Ok false)
    none_told outside m none told =
        says_too bytes_of faults ts L (Marks asked) (Says asked.inputs.now asked.key.now version) old new m false
        (λ ess marks. sym (none-outside asked version look outside ts ess (sym marks ∙ none))) told

    pub ask_failed : (e : ReadFault) (r : Result Bool ReadFault) → r ≡ Err e → TellsFirst bytes_of faults asked ts L old new (Err e)
        → Tells bytes_of faults ts L (Says asked.inputs.now asked.key.now version) old new r
    ask_failed e r is told =
        fails_so bytes_of faults ts L (Marks asked) (Says asked.inputs.now asked.key.now version) old new e r is told

    -- all were asked behind these
    module _ (before : Asked) (first : BlockReader R) (x : Option Bool)
        (so_far : TellsFirst bytes_of faults before ts L first old (Ok x)) where
      abbrev Both : List (List Entry) → Option Bool → Type 0
      Both ess found = Marks before ess x × Marks asked ess found

      pub all_told : asked.outside ≡ false → (m : Option Bool) (b : Bool) → b ≡ mark_says m
          → TellsFirst bytes_of faults asked ts L old new (Ok m)
          → Tells bytes_of faults ts L (Says asked.inputs.now asked.key.now version) first new (Ok b)
      all_told all m b is told =
          says_too bytes_of faults ts L Both (Says asked.inputs.now asked.key.now version) first new m b
          (λ ess marks. is ∙ ap mark_says marks.1 ∙ sym (first-says asked version look all ts ess))
          (asks_next bytes_of faults ts L (Marks before) (Marks asked) first old new x (Ok m) so_far told)

      pub all_failed : (e : ReadFault) (r : Result Bool ReadFault) → r ≡ Err e → TellsFirst bytes_of faults asked ts L old new (Err e)
          → Tells bytes_of faults ts L (Says asked.inputs.now asked.key.now version) first new r
      all_failed e r is told =
          fails_so bytes_of faults ts L Both (Says asked.inputs.now asked.key.now version) first new e r is
          (asks_next bytes_of faults ts L (Marks before) (Marks asked) first old new x (Err e) so_far told)
