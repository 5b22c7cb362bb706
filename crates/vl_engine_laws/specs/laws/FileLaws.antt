-- Images that have tables and logs: what an opening finds there, and which of the logs it is led into.
use Rattle.std.specs.Prelude.{◌≡◌, ℕ, ◌+◌, ◌-◌, ◌<◌, ◌==◌, Bool, true, false, if◌then◌else◌, List, [], ◌∷◌, ◌++◌, map}
use Rattle.std.specs.Prelude.{Option, None, Some, Ok, refl}
use Rattle.std.specs.FinMap.{get}
use Rattle.std.specs.List.{AllByRecursion, filter}
use Rattle.std.specs.Ordering.{is_lt}
use Rattle.std.proofs.Common.{sym, ap, subst, ◌∙◌, arith, inl, inr, ⊎_elim}
use Rattle.std.proofs.lemmas.Bool.Decides.{nat_tests}
use Rattle.vl_model.specs.Cutting.{last_key}
use Rattle.vl_disk.specs.Crash.{Image}
use Rattle.vl_disk.specs.declared.name.Name.TheVariants.{Log}
use Rattle.vl_engine_laws.specs.Files.{HasTable, bytes_of_table, found_levels, found_of}
use Rattle.vl_engine_laws.specs.Pointed.{bytes_of_log, segment_at}
use Rattle.vl_engine_laws.specs.Shown.{HasFramedAmong, tables_among}
use Rattle.vl_engine_laws.specs.laws.TableReads.{reads_table}
use Rattle.vl_engine_model.specs.Levels.{level_at}
use Rattle.vl_engine_model.specs.Sources.{numbers_of}
use Rattle.vl_engine_model.specs.TidyLevels.{IsApart}
use Rattle.vl_engine_model.specs.declared.segment.Segment.{Segment}
use Rattle.vl_engine_model.specs.declared.table.Table.{Table}
use Rattle.vl_model.specs.Keys.{key_cmp}
use Rattle.vl_recover.specs.opening.Opening.{IsAbove, IsAmong, IsNamed, NamedLevel, NamedLevels, NamedLogs, NamedTable}
use Rattle.vl_seglog.specs.LogReading.{HasHeader}
use Rattle.vl_seglog.specs.laws.LogReadingLaws.{reads_written}

-- ---- all of a list

pub all_more : {X : Type 0} (P : X → Type 0) (xs ys : List X) → AllByRecursion P xs → AllByRecursion P ys
    → AllByRecursion P (xs ++ ys)
all_more P [] ys some others = others
all_more P (x ∷ xs) ys some others = (some.0, all_more P xs ys some.1 others)

pub all_each : {X : Type 0} (P Q : X → Type 0) (xs : List X) → ((x : X) → P x → Q x) → AllByRecursion P xs → AllByRecursion Q xs
all_each P Q [] f all = tt
all_each P Q (x ∷ xs) f all = (f x all.0, all_each P Q xs f all.1)

pub all_front : {X : Type 0} (P : X → Type 0) (xs ys : List X) → AllByRecursion P (xs ++ ys) → AllByRecursion P xs
all_front P [] ys all = tt
all_front P (x ∷ xs) ys all = (all.0, all_front P xs ys all.1)

pub all_back : {X : Type 0} (P : X → Type 0) (xs ys : List X) → AllByRecursion P (xs ++ ys) → AllByRecursion P ys
all_back P [] ys all = all
all_back P (x ∷ xs) ys all = all_back P xs ys all.1

pub all_filtered : {X : Type 0} (P : X → Type 0) (p : X → Bool) (xs : List X) → AllByRecursion P xs → AllByRecursion P (filter p xs)
all_filtered P p [] all = tt
all_filtered P p (x ∷ xs) all = by (p x) (all_filtered P p xs all.1)
  where
    by : (b : Bool) → AllByRecursion P (filter p xs) → AllByRecursion P (if b then x ∷ filter p xs else filter p xs)
    by true later = (all.0, later)
    by false later = later

-- ---- one of some logs

pub segment_number : (ss : List Segment) (n : ℕ) (log : Segment) → segment_at ss n ≡ Some log → log.number ≡ n
segment_number [] n log at = absurd cc
segment_number (s ∷ ss) n log at = by (segment_number ss n log) (s.number == n) refl at
  where
    by : (segment_at ss n ≡ Some log → log.number ≡ n) → (b : Bool) → (s.number == n) ≡ b
        → (if b then Some s else segment_at ss n) ≡ Some log → log.number ≡ n
    by later true here is =
        let same : s ≡ log = cc in
        let number : s.number ≡ n = grind (arith, nat_tests, here) in
        sym (ap (λ (x : Segment). x.number) same) ∙ number
    by later false here is = later is

pub segment_all : (P : Segment → Type 0) (ss : List Segment) (n : ℕ) (log : Segment) → AllByRecursion P ss
    → segment_at ss n ≡ Some log → P log
segment_all P [] n log all at = absurd cc
segment_all P (s ∷ ss) n log all at = by (segment_all P ss n log all.1) (s.number == n) at
  where
    by : (segment_at ss n ≡ Some log → P log) → (b : Bool)
        → (if b then Some s else segment_at ss n) ≡ Some log → P log
    by later true is = let same : s ≡ log = cc in subst P same all.0
    by later false is = later is

-- ---- the stage of tables

level_deeper : (n : ℕ) (ts : List Table) (levels : List (List Table)) → level_at (n + 1) (ts ∷ levels) ≡ level_at n levels
level_deeper n ts levels =
    let some : (n + 1 == 0) ≡ false = grind (arith, nat_tests) in
    let less : n + 1 - 1 ≡ n = omega arith in
    ap (λ (b : Bool). if b then ts else level_at (n + 1 - 1) levels) some ∙ ap (λ (k : ℕ). level_at k levels) less

apart_deeper : (levels : List (List Table)) → ((n : ℕ) → IsApart (level_at n levels)) → AllByRecursion IsApart levels
apart_deeper [] each = tt
apart_deeper (ts ∷ levels) each =
    (each 0, apart_deeper levels (λ n. subst IsApart (level_deeper n ts levels) (each (n + 1))))

module _ (image : Image) where
  named_table : (before : Option (List ℕ)) (t : Table) → HasTable image t → IsAbove before t.first
      → NamedTable image before t.number (Ok (found_of t))
  named_table before t has above = (
    record {
      numbered = refl;
      bytes = bytes_of_table t;
      stands = has.stands;
      reads = reads_table t.format t.number t.entries has.is.first has.is.readable has.is.table;
    },
    subst (IsAbove before) (ap (λ (x : Table). x.first) has.is.laid) above,
  )

  -- of a level whose tables are apart
  named_apart : (before : Option (List ℕ)) (ts : List Table) → AllByRecursion (HasTable image) ts
      → AllByRecursion (λ (t : Table). IsAbove before t.first) ts → IsApart ts
      → NamedLevel true image before (numbers_of ts) (Ok (map found_of ts))
  named_apart before [] have above apart = refl
  named_apart before (t ∷ ts) have above apart = (
    found_of t,
    named_table before t have.0 above.0,
    (
      map found_of ts,
      named_apart (Some (last_key t.entries)) ts have.1
          (subst (λ (key : List ℕ). AllByRecursion (λ (u : Table). is_lt (key_cmp key u.first) ≡ true) ts)
          (ap (λ (x : Table). x.last) have.0.is.laid) apart.0) apart.1,
      refl,
    ),
  )

  all_above_none : (ts : List Table) → AllByRecursion (λ (t : Table). IsAbove None t.first) ts
  all_above_none [] = tt
  all_above_none (t ∷ ts) = (tt, all_above_none ts)

  named_newest : (ts : List Table) → AllByRecursion (HasTable image) ts
      → NamedLevel false image None (numbers_of ts) (Ok (map found_of ts))
  named_newest [] have = refl
  named_newest (t ∷ ts) have =
      (found_of t, named_table None t have.0 tt, (map found_of ts, named_newest ts have.1, refl))

  named_deeper : (levels : List (List Table)) → AllByRecursion (HasTable image) (tables_among levels)
      → AllByRecursion IsApart levels
      → NamedLevels true image (map numbers_of levels) (Ok (found_levels levels))
  named_deeper [] have apart = refl
  named_deeper (ts ∷ levels) have apart = (
    map found_of ts,
    named_apart None ts (all_front (HasTable image) ts (tables_among levels) have) (all_above_none ts) apart.0,
    (found_levels levels, named_deeper levels (all_back (HasTable image) ts (tables_among levels) have) apart.1, refl),
  )

  -- An image that has these tables is found with them.
  pub named_levels : (levels : List (List Table)) → AllByRecursion (HasTable image) (tables_among levels)
      → ((n : ℕ) → 0 < n → IsApart (level_at n levels))
      → NamedLevels false image (map numbers_of levels) (Ok (found_levels levels))
  named_levels [] have apart = refl
  named_levels (ts ∷ levels) have apart = (
    map found_of ts,
    named_newest ts (all_front (HasTable image) ts (tables_among levels) have),
    (
      found_levels levels,
      named_deeper levels (all_back (HasTable image) ts (tables_among levels) have)
          (apart_deeper levels (λ n. subst IsApart (level_deeper n ts levels) (apart (n + 1) (omega arith)))),
      refl,
    ),
  )

  -- ---- the stage of the logs that they lead into

  pub has_numbered : (ss : List Segment) (n : ℕ) → (has : HasFramedAmong image ss n)
      → get image (Log n) ≡ Some (bytes_of_log has.is.log)
  has_numbered ss n has =
      ap (λ (m : ℕ). get image (Log m)) (sym (segment_number ss n has.is.log has.is.at)) ∙ has.has.stands

  pub named_logs : (ss : List Segment) (ns : List ℕ) → ((n : ℕ) → IsAmong ns n → HasFramedAmong image ss n)
      → NamedLogs image ns (Ok tt)
  named_logs ss [] each = refl
  named_logs ss (n ∷ ns) each =
      let has = each n (inl refl) in
      let log = has.is.log in
      let read = reads_written log.format log.number has.has.is.readable log.frames has.has.is.have in (
        tt,
        (
          bytes_of_log log,
          has_numbered ss n has,
          (
            log.format,
            has.has.is.readable,
            subst (λ (m : ℕ). HasHeader log.format m (bytes_of_log log)) (segment_number ss n log has.is.at) read.header.1,
          ),
        ),
        named_logs ss ns (λ m among. each m (inr among)),
      )

-- ---- tables by their numbers

pub record IsTableAmong (P : Table → Type 0) (n : ℕ) : Type 0 where
  pub table : Table
  pub numbered : table.number ≡ n
  pub is : P table

level_named : (P : Table → Type 0) (ts : List Table) (n : ℕ) → AllByRecursion P ts → IsAmong (numbers_of ts) n → IsTableAmong P n
level_named P [] n all among = absurd among
level_named P (t ∷ ts) n all among = ⊎_elim
    (λ (same : t.number ≡ n). record { table = t; numbered = same; is = all.0 })
    (λ (later : IsAmong (numbers_of ts) n). level_named P ts n all.1 later)
    among

-- A table that the levels name is one of theirs.
pub named_among : (P : Table → Type 0) (levels : List (List Table)) (n : ℕ) → AllByRecursion P (tables_among levels)
    → IsNamed (map numbers_of levels) n → IsTableAmong P n
named_among P [] n all named = absurd named
named_among P (ts ∷ levels) n all named = ⊎_elim
    (λ (here : IsAmong (numbers_of ts) n). level_named P ts n (all_front P ts (tables_among levels) all) here)
    (λ (deeper : IsNamed (map numbers_of levels) n).
    named_among P levels n (all_back P ts (tables_among levels) all) deeper)
    named
