-- The tables that reads show lie in their levels as an engine's have to: no number stands twice, footers tell true ranges, and the
-- tables of a deeper level are apart.
use Rattle.std.specs.Prelude.{◌≡◌, ◌≢◌, ℕ, ◌-◌, ◌<◌, ◌==◌, ◌||◌, Bool, true, false, List, [], ◌∷◌, ◌++◌, map, Option}
use Rattle.std.specs.Prelude.{None, Some, Result, Ok, Err, refl}
use Rattle.std.specs.List.{AllByRecursion}
use Rattle.std.proofs.Common.{sym, ap, subst, ◌∙◌, cond, arith}
use Rattle.std.proofs.lemmas.Bool.Decides.{nat_tests}
use Rattle.std.proofs.lemmas.List.{length-map}
use Rattle.vl_model.specs.Cutting.{first_key, last_key}
use Rattle.vl_disk.specs.Crash.{Image}
use Rattle.vl_engine_laws.specs.Files.{HasTable, IsTableFile, found_levels, found_of}
use Rattle.vl_engine_laws.specs.Shown.{Shown, tables_among}
use Rattle.vl_engine_laws.specs.laws.BegunLaws.{names_are}
use Rattle.vl_engine_laws.specs.laws.FileLaws.{all_back, all_each, all_front}
use Rattle.vl_engine_model.specs.Levels.{level_at}
use Rattle.vl_engine_model.specs.Sources.{numbers_of}
use Rattle.vl_engine_model.specs.TidyLevels.{AreLevels, IsApart, IsDistinct, IsRanged, IsWide, Le}
use Rattle.vl_engine_model.specs.declared.table.Table.{Table}
use Rattle.vl_engine_model_laws.specs.laws.JobTables.{first_last}
use Rattle.vl_engine_model_laws.specs.laws.Outputs.{IsSorted, Lt, from_first, lt_le, lt_le_then, sorted_in_order, up_to_last}
use Rattle.vl_engine_model_laws.specs.laws.Pairs.{le_then}
use Rattle.vl_manifest.specs.Levels.{all_tables, is_in}
use Rattle.vl_manifest.specs.Manifest.{ManifestSays}
use Rattle.vl_manifest.specs.States.{fresh_state}
use Rattle.vl_manifest.specs.declared.state.ManifestState.{ManifestState}
use Rattle.vl_manifest.specs.laws.ManifestLaws.{says_in_range}
use Rattle.vl_manifest.specs.laws.StateLaws.{AreTables}
use Rattle.vl_manifest.specs.laws.TableLists.{AreOnce}
use Rattle.vl_model.specs.History.{History, last_number}
use Rattle.vl_model.specs.declared.entry.Entry.{Entry}
use Rattle.vl_recover.specs.laws.opening.OpeningLaws.{opened}
use Rattle.vl_recover.specs.laws.repairing.StageLaws.{ok_err, ok_same}
use Rattle.vl_recover.specs.opening.Answers.{Finds}
use Rattle.vl_recover.specs.opening.Opening.{Bare, FoundTable, Heading, Headless, IsAbove, Led, NamedLevel}
use Rattle.vl_recover.specs.opening.Opening.{NamedLevels, NewerFormat, Newest, NotAStore, Refusal, Says, key_before}
use Rattle.vl_recover.specs.opening.Opening.{of_manifest}
use Rattle.vl_recover.specs.opening.Opening as openings

-- ---- ranges

is_sorted : (t : Table) → IsTableFile t → IsSorted t.entries
is_sorted t is = subst IsSorted is.table.tabled.ordered (sorted_in_order t.entries)

both_all : (P Q : Entry → Type 0) (es : List Entry) → AllByRecursion P es → AllByRecursion Q es
    → AllByRecursion (λ (e : Entry). P e × Q e) es
both_all P Q [] a b = tt
both_all P Q (e ∷ es) a b = ((a.0, b.0), both_all P Q es a.1 b.1)

ranged : (t : Table) → IsTableFile t → IsRanged t
ranged t is =
    let sorted = is_sorted t is in
    subst IsRanged (sym is.laid)
    (both_all (λ (e : Entry). Le (first_key t.entries) e.key) (λ (e : Entry). Le e.key (last_key t.entries)) t.entries
    (from_first t.entries sorted) (up_to_last t.entries sorted))

wide : (t : Table) → IsTableFile t → IsWide t
wide t is = subst IsWide (sym is.laid) (first_last t.entries (is_sorted t is))

-- ---- deeper levels

above_all : (before : Option (List ℕ)) (t : Table) (us : List Table) → IsAbove before t.first → IsWide t
    → AllByRecursion (λ (u : Table). Lt t.last u.first) us → AllByRecursion (λ (u : Table). IsAbove before u.first) us
above_all None t [] here is above = tt
above_all None t (u ∷ us) here is above = (tt, above_all None t us here is above.1)
above_all (Some key) t us here is above =
    all_each (λ (u : Table). Lt t.last u.first) (λ (u : Table). Lt key u.first) us
    (λ u less. lt_le_then key t.first u.first here (le_then t.first t.last u.first is (lt_le t.last u.first less))) above

module _ (image : Image) where
  level_apart : (before : Option (List ℕ)) (ns : List ℕ) (ts : List Table) → AllByRecursion IsTableFile ts
      → NamedLevel true image before ns (Ok (map found_of ts))
      → AllByRecursion (λ (t : Table). IsAbove before t.first) ts × IsApart ts
  level_apart before [] [] files named = (tt, tt)
  level_apart before [] (t ∷ ts) files named = absurd cc
  level_apart before (n ∷ ns) [] files (t, named, (others, rest, e)) = absurd cc
  level_apart before (n ∷ ns) (u ∷ us) files (t, (stands, above), (others, rest, e)) =
      let same : found_of u ∷ map found_of us ≡ t ∷ others =
      ok_same {E = Refusal} (found_of u ∷ map found_of us) (t ∷ others) e in
      let first : found_of u ≡ t = cc in
      let rest_is : map found_of us ≡ others = cc in
      let here : IsAbove before u.first =
      subst (IsAbove before) (sym (ap (λ (x : Table). x.first) files.0.laid))
      (subst (λ (x : FoundTable). IsAbove before (openings.first_key x)) (sym first) above) in
      let later = level_apart (Some (last_key u.entries)) ns us files.1
      (subst (λ (x : FoundTable). NamedLevel true image (key_before true x) ns (Ok (map found_of us))) (sym first)
      (subst (λ (xs : List FoundTable). NamedLevel true image (key_before true t) ns (Ok xs)) (sym rest_is) rest)) in
      let above_it : AllByRecursion (λ (v : Table). Lt u.last v.first) us =
      subst (λ (key : List ℕ). AllByRecursion (λ (v : Table). Lt key v.first) us) (sym (ap (λ (x : Table). x.last) files.0.laid))
      later.0 in
      ((here, above_all before u us here (wide u files.0) above_it), (above_it, later.1))

  deeper_apart : (levels : List (List ℕ)) (ls : List (List Table)) → AllByRecursion IsTableFile (tables_among ls)
      → NamedLevels true image levels (Ok (found_levels ls)) → AllByRecursion IsApart ls
  deeper_apart [] [] files named = tt
  deeper_apart [] (ts ∷ ls) files named = absurd cc
  deeper_apart (ns ∷ levels) [] files (ts, named, (others, rest, e)) = absurd cc
  deeper_apart (ns ∷ levels) (us ∷ ls) files (ts, named, (others, rest, e)) =
      let same : map found_of us ∷ found_levels ls ≡ ts ∷ others =
      ok_same {E = Refusal} (map found_of us ∷ found_levels ls) (ts ∷ others) e in
      let first : map found_of us ≡ ts = cc in
      let rest_is : found_levels ls ≡ others = cc in (
        (level_apart None ns us (all_front IsTableFile us (tables_among ls) files)
            (subst (λ (xs : List FoundTable). NamedLevel true image None ns (Ok xs)) (sym first) named)).1,
        deeper_apart levels ls (all_back IsTableFile us (tables_among ls) files)
            (subst (λ (xs : List (List FoundTable)). NamedLevels true image levels (Ok xs)) (sym rest_is) rest),
      )

  -- of all levels below level 0
  abbrev pub AreDeeperApart : List (List Table) → Type 0
  AreDeeperApart [] = Unit {0}
  AreDeeperApart (ts ∷ levels) = AllByRecursion IsApart levels

  levels_apart : (levels : List (List ℕ)) (ls : List (List Table)) → AllByRecursion IsTableFile (tables_among ls)
      → NamedLevels false image levels (Ok (found_levels ls)) → AreDeeperApart ls
  levels_apart levels [] files named = tt
  levels_apart [] (us ∷ ls) files named = absurd cc
  levels_apart (ns ∷ levels) (us ∷ ls) files (ts, named, (others, rest, e)) =
      let same : map found_of us ∷ found_levels ls ≡ ts ∷ others =
      ok_same {E = Refusal} (map found_of us ∷ found_levels ls) (ts ∷ others) e in
      let rest_is : found_levels ls ≡ others = cc in
      deeper_apart levels ls (all_back IsTableFile us (tables_among ls) files)
      (subst (λ (xs : List (List FoundTable)). NamedLevels true image levels (Ok xs)) (sym rest_is) rest)

at_level : (levels : List (List Table)) → AllByRecursion IsApart levels → (n : ℕ) → IsApart (level_at n levels)
at_level [] all n = tt
at_level (ts ∷ levels) all n = by (at_level levels all.1 (n - 1)) (n == 0)
  where
    by : IsApart (level_at (n - 1) levels) → (b : Bool) → IsApart (cond b ts (level_at (n - 1) levels))
    by deeper true = all.0
    by deeper false = deeper

at_deeper : (image : Image) (levels : List (List Table)) → AreDeeperApart image levels → (n : ℕ) → 0 < n
    → IsApart (level_at n levels)
at_deeper image [] all n some = tt
at_deeper image (ts ∷ levels) all n some =
    let no : (n == 0) ≡ false = grind (arith, nat_tests, some) in
    subst IsApart (sym (ap (λ (b : Bool). cond b ts (level_at (n - 1) levels)) no)) (at_level levels all (n - 1))

-- ---- numbers

numbers-append : (ts us : List Table) → numbers_of (ts ++ us) ≡ numbers_of ts ++ numbers_of us
numbers-append [] us = refl
numbers-append (t ∷ ts) us = ap (λ (ns : List ℕ). t.number ∷ ns) (numbers-append ts us)

numbers_among : (levels : List (List Table)) → all_tables (map numbers_of levels) ≡ numbers_of (tables_among levels)
numbers_among [] = refl
numbers_among (ts ∷ levels) =
    ap (λ (ns : List ℕ). numbers_of ts ++ ns) (numbers_among levels) ∙ sym (numbers-append ts (tables_among levels))

none_either : (a b : Bool) → (a || b) ≡ false → (a ≡ false) × (b ≡ false)
none_either true b e = absurd (let no : true ≡ false = e in cc)
none_either false b e = (refl, e)

none_same : (n : ℕ) (ts : List Table) → is_in n (numbers_of ts) ≡ false → AllByRecursion (λ (u : Table). u.number ≢ n) ts
none_same n [] none = tt
none_same n (t ∷ ts) none =
    let parts = none_either (t.number == n) (is_in n (numbers_of ts)) none in (
      λ same. (let yes : (t.number == n) ≡ true = grind (arith, nat_tests, same) in
          let both : true ≡ false = sym yes ∙ parts.0 in
          absurd cc),
      none_same n ts parts.1,
    )

once_distinct : (ts : List Table) → AreOnce (numbers_of ts) → IsDistinct ts
once_distinct [] once = tt
once_distinct (t ∷ ts) once = (none_same t.number ts once.0, once_distinct ts once.1)

fresh_tables : AreTables fresh_state.levels
fresh_tables = record { seven = refl; once = tt; numbers = tt }

says_tables : (heading : Heading) (s : ManifestState) → Says heading (Ok s) → AreTables s.levels
says_tables Bare s says = subst (λ (x : ManifestState). AreTables x.levels) (sym (ok_same {E = Refusal} s fresh_state says)) fresh_tables
says_tables (Led number bytes) s (said, manifest, is) = by said manifest is
  where
    by : (said : Result ManifestState ℕ) → ManifestSays number bytes said → Ok s ≡ of_manifest number said → AreTables s.levels
    by (Ok t) manifest is = subst (λ (x : ManifestState). AreTables x.levels) (sym (ok_same {E = Refusal} s t is))
        (says_in_range number bytes t manifest).tables
    by (Err place) manifest is = absurd (ok_err s _ is)
says_tables Headless s says = absurd (ok_err s NotAStore says)
says_tables (Newest format) s says = absurd (ok_err s (NewerFormat format) says)

-- ---- all of it

module _ {read : Image} (found : Finds read) (h : History) (shown : Shown read h (last_number h)) (room : ℕ) where
  pub files_shown : AllByRecursion IsTableFile (tables_among shown.levels)
  files_shown = all_each (HasTable read) IsTableFile (tables_among shown.levels) (λ t has. has.is) shown.tables

  tables_said : AreTables (map numbers_of shown.levels)
  tables_said =
      let is = opened read found.opening found.opens in
      subst AreTables (names_are found h shown room) (says_tables is.heading found.opening.state is.says)

  pub apart_shown : AreDeeperApart read shown.levels
  apart_shown = levels_apart read shown.opening.state.levels shown.levels files_shown
      (subst (λ (ls : List (List FoundTable)). NamedLevels false read shown.opening.state.levels (Ok ls)) shown.found
      (opened read shown.opening shown.opens).levels)

  pub begun_levels : AreLevels shown.levels
  begun_levels = record {
    distinct = once_distinct (tables_among shown.levels) (subst AreOnce (numbers_among shown.levels) tables_said.once);
    ranged = all_each IsTableFile IsRanged (tables_among shown.levels) ranged files_shown;
    wide = all_each IsTableFile IsWide (tables_among shown.levels) wide files_shown;
    apart = at_deeper read shown.levels apart_shown;
    seven = sym (length-map shown.levels numbers_of) ∙ tables_said.seven;
  }
