-- The files that an opening leaves in use stand behind it, whatever stood on the disk before.
use Rattle.std.specs.Prelude.{◌≡◌, ◌≢◌, ◌≤◌, ◌++◌, ℕ, nat_lt, suc, All, Bool, true, false, if◌then◌else◌, List, [], ◌∷◌}
use Rattle.std.specs.Prelude.{length, map, Contains, IsSome, Option, None, Some, Result, Ok, refl}
use Rattle.std.specs.FinMap.{get}
use Rattle.std.specs.List.{AllByRecursion, AllZip, filter}
use Rattle.std.specs.Option.{option_map}
use Rattle.std.proofs.Common.{sym, ap, subst, ◌∙◌, arith, inl, inr, ⊎_elim}
use Rattle.std.proofs.lemmas.List.Elements.{All-from_recursion}
use Rattle.vl_compact.specs.declared.files.Lent.{Lent}
use Rattle.vl_engine_laws.specs.Found.{IsCoreOf}
use Rattle.vl_engine_laws.specs.Laid.{by_level}
use Rattle.vl_engine_laws.specs.declared.kept.Core.{Core}
use Rattle.vl_engine_laws.specs.laws.StartLaws.{IsAsRead, before_from, before_read}
use Rattle.vl_disk.specs.Changes.{changed_elsewhere, changed_there}
use Rattle.vl_disk.specs.Crash.{Image}
use Rattle.vl_disk.specs.Disk.{Stands}
use Rattle.vl_disk.specs.DiskState.{DiskState, File, cut_to, lengthened, settled, shortened, synced_file, with_file, without}
use Rattle.vl_disk.specs.MadeFile.{made}
use Rattle.vl_disk.specs.Started.{IsRead}
use Rattle.vl_disk.specs.declared.name.Name.{Name}
use Rattle.vl_disk.specs.declared.name.Name.TheVariants.{Log, Manifest, Table}
use Rattle.vl_disk.specs.declared.watched.Watched.{Ghosts}
use Rattle.vl_disk.specs.declared.writer.Writer.{Ghosts as Writers}
use Rattle.vl_disk.specs.laws.NameMap.{get_inserted, get_inserted_other, get_removed_other, same_or_other}
use Rattle.vl_space.specs.Removing.{HasInUse, IsThere, IsWaiting, are_distinct, are_unused, is_none_of, logs_in_use, numbers_left}
use Rattle.vl_space.specs.Removing.{standing_names, tables_in_use}
use Rattle.vl_engine_model.specs.declared.segment.Segment.{Segment}
use Rattle.vl_model.specs.Formats.{log_format}
use Rattle.vl_pins.specs.declared.in_use.InUse.{InUse}
use Rattle.vl_pins.specs.declared.retired_file.RetiredFile.{RetiredFile}
use Rattle.vl_pins.specs.declared.stock.Stock.{Stock}
use Rattle.vl_recover.specs.crash.Meanwhile.{IsRepaired}
use Rattle.vl_recover.specs.laws.opening.OpeningLaws.{IsOpened, opened}
use Rattle.vl_recover.specs.laws.opening.ReadImage.{read_image}
use Rattle.vl_recover.specs.laws.repairing.RepairingStart.{led_stand}
use Rattle.vl_recover.specs.opening.Answers.{Finds, IsStrayName, logs_then}
use Rattle.vl_recover.specs.opening.FoundTables.{found_list}
use Rattle.vl_recover.specs.opening.HeldFiles.{IsHeldLog, IsReadLog, but_last}
use Rattle.vl_recover.specs.opening.Opening.{FoundTable, IsAmong, IsNamed, NamedLevel, NamedLevels, key_before, led_into}
use Rattle.vl_recover.specs.repairing.Repairing.{Cut, Headed, IsPlan, Kept, LastLog, NoLast, Plan, Rewritten}
use Rattle.vl_recover.specs.repairing.Repairing.{behind_last, behind_log, behind_strays, headed, plan_of, repaired, with_last}
use Rattle.vl_recover.specs.repairing.Repairing.{with_log, with_manifest}
use Rattle.vl_seglog.specs.Frames.{log_header}
use Rattle.vl_seglog.specs.declared.sealed.SealedLog.{SealedLog}
use Rattle.vl_table.specs.Tables.{number_of}
use Rattle.vl_table.specs.declared.table.Table.{Table as OpenTable}
use Rattle.vl_version.specs.levels.LevelTables.{all_tables}
use Rattle.vl_version.specs.levels.LevelsLooked.{tables_of}

-- ---- what stands is so behind a repairing, but for what it removes

changed_stands : (name : Name) (change : File → File) (other : Name) (disk : DiskState) → Stands other disk
    → Stands other (with_file name change disk)
changed_stands name change other disk stands = ⊎_elim
    (λ (same : other ≡ name).
    subst (λ (n : Name). IsSome (get (with_file name change disk).standing n)) (sym same)
    (subst IsSome (sym (changed_there name disk change)) (mapped (get disk.standing name)
    (subst (λ (n : Name). IsSome (get disk.standing n)) same stands))))
    (λ (apart : other ≢ name). subst IsSome (sym ((changed_elsewhere name disk change).standing other apart)) stands)
    (same_or_other other name)
  where
    mapped : (file : Option File) → IsSome file → IsSome (option_map change file)
    mapped None is = is
    mapped (Some file) is = refl

made_stands : (name : Name) (bytes : List ℕ) (other : Name) (disk : DiskState) → Stands other disk → Stands other (made name bytes disk)
made_stands name bytes other disk stands = ⊎_elim
    (λ (same : other ≡ name).
    subst (λ (n : Name). IsSome (get (made name bytes disk).standing n)) (sym same)
    (subst IsSome (sym (get_inserted disk.standing name (settled bytes))) refl))
    (λ (apart : other ≢ name). subst IsSome (sym (get_inserted_other disk.standing name (settled bytes) other apart)) stands)
    (same_or_other other name)

head_stands : (k : ℕ) (name : Name) (disk : DiskState) → Stands name disk → Stands name (behind_last (Headed k) disk)
head_stands k name disk stands =
    changed_stands (Log k) synced_file name (headed k disk)
    (changed_stands (Log k) (lengthened (log_header log_format k) (length (log_header log_format k))) name disk stands)

last_stands : (last : LastLog) (name : Name) (disk : DiskState) → Stands name disk → Stands name (behind_last last disk)
last_stands NoLast name disk stands = stands
last_stands (Kept k) name disk stands = changed_stands (Log k) synced_file name disk stands
last_stands (Cut k len) name disk stands =
    changed_stands (Log k) synced_file name (cut_to (Log k) len len disk)
    (changed_stands (Log k) (shortened len len) name disk stands)
last_stands (Headed k) name disk stands = head_stands k name disk stands
last_stands (Rewritten k) name disk stands = head_stands k name (cut_to (Log k) 0 0 disk)
    (changed_stands (Log k) (shortened 0 0) name disk stands)

log_stands : (log : Option ℕ) (name : Name) (disk : DiskState) → Stands name disk → Stands name (behind_log log disk)
log_stands None name disk stands = stands
log_stands (Some k) name disk stands = made_stands (Log k) (log_header log_format k) name disk stands

strays_leave : (names : List Name) (name : Name) (disk : DiskState) → ((other : Name) → Contains names other → name ≢ other)
    → Stands name disk → Stands name (behind_strays names disk)
strays_leave [] name disk apart stands = stands
strays_leave (other ∷ names) name disk apart stands =
    strays_leave names name (without other disk) (λ n (k, less, is). apart n (suc k, omega (arith, less), is))
    (subst IsSome (sym (get_removed_other disk.standing other name (apart other (0, omega arith, refl)))) stands)

read_stands : (read : Image) (start : DiskState) → IsRead read start → (name : Name) (bytes : List ℕ) → get read name ≡ Some bytes
    → Stands name start
read_stands read start is_read name bytes stands = by (get start.standing name) (sym stands ∙ is_read.each name)
  where
    by : (file : Option File) → Some bytes ≡ option_map (λ (f : File). f.bytes) file → IsSome file
    by None is = absurd (let no : Some bytes ≡ None = is in cc)
    by (Some file) is = refl

-- ---- numbers of what was found

ok_same : {A E : Type 0} (a b : A) → ◌≡◌ {A = Result A E} (Ok a) (Ok b) → a ≡ b
ok_same a b e = cc

zip_numbers : {A B : Type 0} (k : A → ℕ) (m : B → ℕ) (R : A → B → Type 0) (Q : ℕ → Type 0) → ((x : A) (y : B) → R x y → k x ≡ m y)
    → (xs : List A) (ys : List B) → AllZip R xs ys → AllByRecursion (λ (y : B). Q (m y)) ys → AllByRecursion (λ (x : A). Q (k x)) xs
zip_numbers k m R Q keys [] ys zip all = tt
zip_numbers k m R Q keys (x ∷ xs) [] zip all = absurd zip
zip_numbers k m R Q keys (x ∷ xs) (y ∷ ys) zip all =
    (subst Q (sym (keys x y zip.0)) all.0, zip_numbers k m R Q keys xs ys zip.1 all.1)

filtered : (keep : ℕ → Bool) (Q : ℕ → Type 0) (ns : List ℕ) → ((n : ℕ) → IsAmong ns n → Q n) → AllByRecursion Q (filter keep ns)
filtered keep Q [] each = tt
filtered keep Q (n ∷ ns) each = by (filtered keep Q ns (λ m among. each m (inr among))) (keep n)
  where
    by : AllByRecursion Q (filter keep ns) → (b : Bool) → AllByRecursion Q (if b then n ∷ filter keep ns else filter keep ns)
    by rest true = (each n (inl refl), rest)
    by rest false = rest

all_numbers : {A : Type 0} (k : A → ℕ) (Q : ℕ → Type 0) (xs ys : List A) → AllByRecursion (λ (x : A). Q (k x)) xs
    → AllByRecursion Q (map k ys) → AllByRecursion Q (map k (xs ++ ys))
all_numbers k Q [] ys first rest = rest
all_numbers k Q (x ∷ xs) ys first rest = (first.0, all_numbers k Q xs ys first.1 rest)

just_numbers : {A : Type 0} (k : A → ℕ) (Q : ℕ → Type 0) (xs : List A) → AllByRecursion (λ (x : A). Q (k x)) xs
    → AllByRecursion Q (map k xs)
just_numbers k Q [] all = tt
just_numbers k Q (x ∷ xs) all = (all.0, just_numbers k Q xs all.1)

-- the tables of levels
abbrev IsEach : (ℕ → Type 0) → List FoundTable → Type 0
IsEach Q ts = AllByRecursion (λ (t : FoundTable). Q t.number) ts

level_each : (image : Image) (Q : ℕ → Type 0) (deeper : Bool) (before : Option (List ℕ)) (ns : List ℕ) (ts : List FoundTable)
    → NamedLevel deeper image before ns (Ok ts)
    → ((n : ℕ) → IsAmong ns n → (bytes : List ℕ) → get image (Table n) ≡ Some bytes → Q n) → IsEach Q ts
level_each image Q deeper before [] ts is each = subst (IsEach Q) (sym (ok_same ts [] is)) tt
level_each image Q deeper before (m ∷ ns) ts (t, (stands, above), (others, rest, e)) each =
    subst (IsEach Q) (sym (ok_same ts (t ∷ others) e)) (
      subst Q (sym stands.numbered) (each m (inl refl) stands.bytes stands.stands),
      level_each image Q deeper (key_before deeper t) ns others rest (λ n among. each n (inr among)),
    )

levels_each : (image : Image) (Q : ℕ → Type 0) (deeper : Bool) (levels : List (List ℕ)) (found : List (List FoundTable))
    → NamedLevels deeper image levels (Ok found)
    → ((n : ℕ) → IsNamed levels n → (bytes : List ℕ) → get image (Table n) ≡ Some bytes → Q n) → AllByRecursion (IsEach Q) found
levels_each image Q deeper [] found is each = subst (AllByRecursion (IsEach Q)) (sym (ok_same found [] is)) tt
levels_each image Q deeper (ns ∷ levels) found (ts, level, (others, rest, e)) each =
    subst (AllByRecursion (IsEach Q)) (sym (ok_same found (ts ∷ others) e)) (
      level_each image Q deeper None ns ts level (λ n among. each n (inl among)),
      levels_each image Q true levels others rest (λ n named. each n (inr named)),
    )

tables_each : {H : Type 0} (Q : ℕ → Type 0) (levels : List (List (OpenTable H))) → AllByRecursion (IsEach Q) (map found_list levels)
    → AllByRecursion Q (map number_of (all_tables levels))
tables_each Q [] all = tt
tables_each {H} Q (ts ∷ levels) all =
    all_numbers number_of Q ts (all_tables levels) (by ts all.0) (tables_each Q levels all.1)
  where
    by : (us : List (OpenTable H)) → IsEach Q (found_list us) → AllByRecursion (λ (u : OpenTable H). Q (number_of u)) us
    by [] each = tt
    by (u ∷ us) each = (each.0, by us each.1)

-- ---- what stands behind an opening

module _ {read : Image} (found : Finds read) (start : DiskState) (is_read : IsRead read start) (plan : Plan) (is : IsPlan found plan)
  where
    abbrev planned : Plan
    planned = plan_of found plan.strays

    -- what was read and is no stray
    stays_there : (name : Name) (bytes : List ℕ) → get read name ≡ Some bytes → (IsStrayName found.opening name → ⊥)
        → Stands name (repaired plan start)
    stays_there name bytes stands needed = subst (λ (p : Plan). Stands name (repaired p start)) (sym is.is)
        (strays_leave plan.strays name (with_log planned start)
        (λ other among same. needed (subst (IsStrayName found.opening) (sym same) (((is.strays.all other).0 among).1)))
        (log_stands planned.log name (with_last planned start)
        (last_stands planned.last name (with_manifest planned start)
        (made_stands (Manifest planned.manifest) planned.piece name start (read_stands read start is_read name bytes stands)))))

    opening_is : IsOpened read found.opening
    opening_is = opened read found.opening found.opens

    module _ {H : Type 0} (bytes : H → Option (List ℕ)) (room : ℕ) (core : Core H) (has : IsCoreOf bytes found room core) where
      tables_there : AllByRecursion (λ (n : ℕ). Stands (Table n) (repaired plan start))
          (map number_of (tables_of core.version.behind.levels))
      tables_there = tables_each (λ (n : ℕ). Stands (Table n) (repaired plan start)) (by_level core.version.behind.levels)
          (subst (AllByRecursion (IsEach (λ (n : ℕ). Stands (Table n) (repaired plan start)))) (sym has.levels)
          (levels_each read (λ (n : ℕ). Stands (Table n) (repaired plan start)) false found.opening.state.levels found.opening.levels
          opening_is.levels
          (λ n named bytes stands. stays_there (Table n) bytes stands (λ stray. stray named))))

      logs_there : AllByRecursion (λ (n : ℕ). Stands (Log n) (repaired plan start))
          (map (λ (log : SealedLog H). log.number) core.version.behind.logs.items)
      logs_there = subst (λ (logs : List (SealedLog H)). AllByRecursion Q (map (λ (log : SealedLog H). log.number) logs))
          (sym has.sealed.split)
          (all_numbers (λ (log : SealedLog H). log.number) Q has.sealed.lower has.sealed.upper lower
          (just_numbers (λ (log : SealedLog H). log.number) Q has.sealed.upper upper))
        where
          Q : ℕ → Type 0
          Q n = Stands (Log n) (repaired plan start)

          led : (n : ℕ) → IsAmong (led_into found.opening.levels) n → Q n
          led n among =
              let (bytes, stands) = led_stand read (led_into found.opening.levels) opening_is.led n among in
              stays_there (Log n) bytes stands (λ stray. stray.1 among)

          lower : AllByRecursion (λ (log : SealedLog H). Q log.number) has.sealed.lower
          lower = zip_numbers (λ (log : SealedLog H). log.number) (λ (n : ℕ). n) (IsReadLog bytes read) Q (λ log n same. same.number_is)
              has.sealed.lower (filter (λ n. nat_lt n found.opening.state.head) (led_into found.opening.levels)) has.sealed.lower_are
              (filtered (λ n. nat_lt n found.opening.state.head) Q (led_into found.opening.levels) led)

          from_head : (ss : List Segment) → AllByRecursion (IsAsRead read) ss
              → AllByRecursion (λ (s : Segment). found.opening.state.head ≤ s.number) ss → AllByRecursion (λ (s : Segment). Q s.number) ss
          from_head [] are from = tt
          from_head (s ∷ ss) are from = (
            stays_there (Log s.number) are.0.bytes are.0.stands
                (λ stray. let low = stray.0 in let up = from.0 in omega (arith, low, up)),
            from_head ss are.1 from.1,
          )

          upper : AllByRecursion (λ (log : SealedLog H). Q log.number) has.sealed.upper
          upper = zip_numbers (λ (log : SealedLog H). log.number) (λ (s : Segment). s.number) (IsHeldLog bytes) Q
              (λ log s same. same.number_is) has.sealed.upper (but_last (logs_then found)) has.sealed.upper_are
              (from_head (but_last (logs_then found)) (before_read found) (before_from found))

      module _ {W : Type 0} {s : _} (stock : Stock (Lent W s)) (unkept : stock.in_use ≡ None) (empty : stock.trash.items ≡ []) where
        in_use_there : HasInUse core stock (repaired plan start)
        in_use_there = record {
          tables = subst (λ (o : Option InUse). All (λ n. Stands (Table n) (repaired plan start)) (tables_in_use core.version o))
              (sym unkept) (All-from_recursion (λ n. Stands (Table n) (repaired plan start))
              (map number_of (tables_of core.version.behind.levels)) tables_there);
          logs = subst (λ (o : Option InUse). All (λ n. Stands (Log n) (repaired plan start)) (logs_in_use core.version o))
              (sym unkept) (All-from_recursion (λ n. Stands (Log n) (repaired plan start))
              (map (λ (log : SealedLog H). log.number) core.version.behind.logs.items) logs_there);
          unused = λ i. are_unused core.front.log.number (tables_in_use core.version stock.in_use) (logs_in_use core.version stock.in_use)
              (standing_names (empty i));
          active = λ i. is_none_of core.front.log.number (unkept i);
        }

-- Nothing waits for its removal, and what is in use stands, where the disk tells it.
module _ {D H W : Type 0} (g : Ghosts D) (w : Writers W) (bytes : H → Option (List ℕ)) (room : ℕ) (old new : D) (core : Core H) {s : _}
    (stock : Stock (Lent W s)) where
  pub opened_there : (g.told old ≡ None → g.told new ≡ None)
      → ((state : DiskState) (read : Image) → g.told old ≡ Some state → IsRead read state → IsRepaired read state (g.told new))
      → ((state : DiskState) (read : Image) (found : Finds read) → g.told old ≡ Some state → IsRead read state
      → IsCoreOf bytes found room core)
      → stock.in_use ≡ None → stock.trash.items ≡ [] → IsThere g w new core None stock
  opened_there untold repaired_so core_so unkept empty = record {
    waiting = subst (All (IsWaiting g w new core.back.state.next_table)) (sym empty)
        (All-from_recursion (IsWaiting g w new core.back.state.next_table) [] tt);
    distinct = λ i. are_distinct (numbers_left (empty i));
    room =
        let none = ap (λ (files : List (RetiredFile (Lent W s))). length files) empty in
        let long = stock.trash.ok.0 in
        omega (arith, none, long);
    files = λ now told. by now told (g.told old) refl;
  }
    where
      by : (now : DiskState) → g.told new ≡ Some now → (o : Option DiskState) → g.told old ≡ o → HasInUse core stock now
      by now told None none = absurd (let no : None ≡ Some now = sym (untold none) ∙ told in cc)
      by now told (Some state) was =
          let (read, is_read) = read_image state in
          let done = repaired_so state read was is_read in
          let same : repaired done.repairing.plan state ≡ now = some_same (repaired done.repairing.plan state) now (sym done.told ∙ told) in
          subst (HasInUse core stock) same
          (in_use_there done.repairing.found state is_read done.repairing.plan done.repairing.is bytes room core
          (core_so state read done.repairing.found was is_read) stock unkept empty)
        where
          some_same : (a b : DiskState) → Some a ≡ Some b → a ≡ b
          some_same a b e = cc
