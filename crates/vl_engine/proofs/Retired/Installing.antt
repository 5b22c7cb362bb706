-- What an install leaves of the files in use and of those that wait is what its ruling leaves, where the tables were put in.
use Rattle.std.proofs.Common.{◌≡◌, ◌≢◌, ℕ, ◌+◌, ◌≤◌, ◌<◌, Bool, true, false, List, [], ◌∷◌, ◌++◌, length, map, cond, not, ◌&&◌, ◌||◌}
use Rattle.std.proofs.Common.{refl, ap, sym, ◌∙◌, subst, arith, append_assoc}
use Rattle.std.proofs.lemmas.Bool.Decides.{nat_tests}
use Rattle.std.specs.Prelude.{◌==◌, Option, None, Some}
use Rattle.std.specs.List.{AllByRecursion, AllZip, filter, flat_map, list_any}
use Rattle.std.specs.VecDeque.{deque_len, deque_capacity}
use Rattle.vl_compact.specs.Progress.{IsTableFile, made_of}
use Rattle.vl_compact.specs.declared.files.Lent.{Lent}
use Rattle.vl_compact.specs.declared.files.Synced.{Synced}
use Rattle.vl_compact.specs.declared.job.Job.{Job}
use Rattle.vl_engine_laws.specs.Laid.{IsTableOf}
use Rattle.vl_engine_laws.specs.Represents.{StandsFor}
use Rattle.vl_engine_laws.specs.declared.kept.Core.{Core}
use Rattle.vl_engine_laws.specs.laws.FileLaws.{all_filtered}
use Rattle.vl_engine_laws.specs.laws.LaidTables.{tables_are}
use Rattle.vl_disk.specs.declared.writer.Writer.{Ghosts as Writers}
use Rattle.vl_space.specs.laws.CollectLaws.{head_is_laid}
use Rattle.vl_space.specs.laws.Retired.Changing.{map-both, nothing_behind}
use Rattle.vl_engine.proofs.Retired.Flushing.{has_end, has_more}
use Rattle.vl_space.specs.laws.Retired.Laid.{Uses, aged_more, all_more, is_stock, just_retired, switch_logs, switch_retired}
use Rattle.vl_space.specs.laws.Retired.Laid.{switch_tables, switch_waits, uses_first, used_waits}
use Rattle.vl_space.specs.laws.Retired.Retiring.{all_there, all_weaker, gone_logs, gone_tables, has_filtered, same_either_way, tables_left}
use Rattle.vl_space.specs.laws.Retired.Retiring.{tables_logs, tables_wait}
use Rattle.vl_engine.proofs.Switching.{numbers_zip}
use Rattle.vl_space.specs.Collecting.{IsTallied, head_in}
use Rattle.vl_steps.specs.Merging.{HasAllMerge}
use Rattle.vl_space.specs.Pinning.{merge_pinned}
use Rattle.vl_space.specs.Removing.{IsStockOf, Removes, all_retired}
use Rattle.vl_engine_laws.specs.Lent.{lent_in}
use Rattle.vl_space.specs.Retiring.{InstallsInto, all_left, is_idle_log, retiring, switching, used_in}
use Rattle.vl_engine_laws.specs.declared.open.OpenMerge.{OpenMerge}
use Rattle.vl_space.specs.declared.kept.Removing.{Removing}
use Rattle.vl_engine_model.specs.Jobs.{AreDistinct, AreLent, Made, lent_numbers, loose, tables_made}
use Rattle.vl_engine_model.specs.Levels.{is_among, replaced}
use Rattle.vl_engine_model.specs.Merging.{outputs}
use Rattle.vl_engine_model.specs.Ruling.{is_idle, retired_at, switched}
use Rattle.vl_engine_model.specs.Rulings.Install.{installed, put_in}
use Rattle.vl_engine_model.specs.Sources.{head, log_of, numbers_of, rising, table_of, tables}
use Rattle.vl_engine_model.specs.Stock.{IsFalling}
use Rattle.vl_engine_model.specs.Tidy.{log_numbers, sealed}
use Rattle.vl_engine_model.specs.TidyLevels.{IsDistinct}
use Rattle.vl_engine_model.specs.declared.file_name.FileName.{FileName}
use Rattle.vl_engine_model.specs.declared.file_name.FileName.TheVariants as files
use Rattle.vl_engine_model.specs.declared.file_name.Retired.{Retired}
use Rattle.vl_engine_model.specs.declared.job.OpenJob.{OpenJob}
use Rattle.vl_engine_model.specs.declared.layout.Layout.{Layout}
use Rattle.vl_engine_model.specs.declared.segment.Segment.{Segment}
use Rattle.vl_engine_model.specs.declared.table.Table as laid
use Rattle.vl_engine_model_laws.specs.laws.Steps.{all_rising}
use Rattle.vl_engine_model_laws.specs.laws.Switches.{all_replaced}
use Rattle.vl_engine_model_laws.specs.laws.WellInstalled.{not_standing}
use Rattle.vl_model.specs.History.{History}
use Rattle.vl_model.specs.Numbers.{has}
use Rattle.vl_model.specs.declared.entry.Entry.{Entry}
use Rattle.vl_pins.specs.Files.{Has, Kept, gone_at, left_at, retired_of, tables_retired, with_tables}
use Rattle.vl_pins.specs.Pins.{ArePinsOf}
use Rattle.vl_pins.specs.declared.pins.Pins.{Pins}
use Rattle.vl_pins.specs.declared.retired_file.RetiredFile.{RetiredFile}
use Rattle.vl_pins.specs.declared.stock.Stock.{Stock}
use Rattle.vl_stats.specs.Tallies.{IsOfLayout, IsTally, Tallied}
use Rattle.vl_table.specs.Tables.{number_of}
use Rattle.vl_table.specs.declared.table.Table.{Table}
use Rattle.vl_version.specs.Bases.{is_input}
use Rattle.vl_version.specs.Sources.{tables_in}
use Rattle.vl_version.specs.declared.base.Base.{Base}
use Rattle.vl_version.specs.levels.LevelsLooked.{tables_of}

-- ---- numbers

-- those of the tables that a merge made
pub made_are : {W : Type 0} (w : Writers W) {s : _} (made : List (Synced W s)) (ess : List (List Entry)) → AllZip (IsTableFile w) made ess
    → numbers_of (tables_made (map (λ (t : Synced W s). t.number) made) ess) ≡ map (λ (t : Synced W s). t.number) made
made_are w [] [] zip = refl
made_are w [] (es ∷ ess) zip = absurd zip
made_are w (t ∷ made) [] zip = absurd zip
made_are w (t ∷ made) (es ∷ ess) zip = ap (λ (ns : List ℕ). t.number ∷ ns) (made_are w made ess zip.1)

-- those of a version's tables that are inputs
inputs_are : {H : Type 0} (bytes : H → Option (List ℕ)) (ns : List ℕ) (ts : List (Table H)) (us : List laid.Table)
    → AllZip (IsTableOf bytes) ts us → map number_of (filter (is_input ns) ts) ≡ numbers_of (filter (is_among ns) us)
inputs_are bytes ns [] [] zip = refl
inputs_are bytes ns [] (u ∷ us) zip = absurd zip
inputs_are bytes ns (t ∷ ts) [] zip = absurd zip
inputs_are bytes ns (t ∷ ts) (u ∷ us) zip =
    by (is_input ns t) (is_among ns u) (ap (λ (n : ℕ). list_any (λ (number : ℕ). number == n) ns) zip.0.number)
    (inputs_are bytes ns ts us zip.1)
  where
    by : (a b : Bool) → a ≡ b → map number_of (filter (is_input ns) ts) ≡ numbers_of (filter (is_among ns) us)
        → map number_of (cond a (t ∷ filter (is_input ns) ts) (filter (is_input ns) ts))
        ≡ numbers_of (cond b (u ∷ filter (is_among ns) us) (filter (is_among ns) us))
    by true true e later = ap (λ n. n ∷ map number_of (filter (is_input ns) ts)) zip.0.number ∙ ap (λ (ms : List ℕ). u.number ∷ ms) later
    by false false e later = later
    by true false e later = absurd (let clash : true ≡ false = e in cc)
    by false true e later = absurd (let clash : false ≡ true = e in cc)

-- the number of a table that isn't an input isn't among the inputs'
not_dropped : (inputs : List ℕ) (us : List laid.Table) (n : ℕ) → list_any (λ (m : ℕ). m == n) inputs ≡ false
    → has n (numbers_of (filter (is_among inputs) us)) ≡ false
not_dropped inputs [] n none = refl
not_dropped inputs (u ∷ us) n none = by (is_among inputs u) (u.number == n) refl refl (not_dropped inputs us n none)
  where
    by : (a b : Bool) → is_among inputs u ≡ a → (u.number == n) ≡ b → has n (numbers_of (filter (is_among inputs) us)) ≡ false
        → has n (numbers_of (cond a (u ∷ filter (is_among inputs) us) (filter (is_among inputs) us))) ≡ false
    by false b is other later = later
    by true false is other later = ap (λ c. c || has n (numbers_of (filter (is_among inputs) us))) other ∙ later
    by true true is other later =
        let e : u.number ≡ n = grind (arith, nat_tests, other) in
        absurd (let clash : true ≡ false = sym is ∙ ap (λ k. list_any (λ (m : ℕ). m == k) inputs) e ∙ none in cc)

-- nor is one that no table has
none_dropped : (inputs : List ℕ) (us : List laid.Table) (n : ℕ) → list_any (λ (t : laid.Table). n == t.number) us ≡ false
    → has n (numbers_of (filter (is_among inputs) us)) ≡ false
none_dropped inputs [] n none = refl
none_dropped inputs (u ∷ us) n none = by (n == u.number) (is_among inputs u) refl none (λ less. none_dropped inputs us n less)
  where
    by : (a b : Bool) → (n == u.number) ≡ a → (a || list_any (λ (t : laid.Table). n == t.number) us) ≡ false
        → (list_any (λ (t : laid.Table). n == t.number) us ≡ false → has n (numbers_of (filter (is_among inputs) us)) ≡ false)
        → has n (numbers_of (cond b (u ∷ filter (is_among inputs) us) (filter (is_among inputs) us))) ≡ false
    by true b is none later = absurd (let clash : true ≡ false = none in cc)
    by false true is none later =
        ap (λ c. c || has n (numbers_of (filter (is_among inputs) us))) (same_either_way u.number n ∙ is) ∙ later none
    by false false is none later = later none

distinct_numbers : (p : laid.Table → Bool) (ts : List laid.Table) → IsDistinct ts → AreDistinct (numbers_of (filter p ts))
distinct_numbers p [] distinct = tt
distinct_numbers p (t ∷ ts) distinct = by (p t) (off ts distinct.0) (distinct_numbers p ts distinct.1)
  where
    off : (us : List laid.Table) → AllByRecursion (λ (u : laid.Table). u.number ≢ t.number) us
        → has t.number (numbers_of (filter p us)) ≡ false
    off [] all = refl
    off (u ∷ us) all = keep (p u) (u.number == t.number) refl (off us all.1)
      where
        keep : (a b : Bool) → (u.number == t.number) ≡ b → has t.number (numbers_of (filter p us)) ≡ false
            → has t.number (numbers_of (cond a (u ∷ filter p us) (filter p us))) ≡ false
        keep false b is later = later
        keep true false is later = ap (λ c. c || has t.number (numbers_of (filter p us))) is ∙ later
        keep true true is later = absurd (all.0 (let e : u.number ≡ t.number = grind (arith, nat_tests, is) in e))

    by : (b : Bool) → has t.number (numbers_of (filter p ts)) ≡ false → AreDistinct (numbers_of (filter p ts))
        → AreDistinct (numbers_of (cond b (t ∷ filter p ts) (filter p ts)))
    by true none later = (none, later)
    by false none later = later

-- those that pass are among all
all_passed : (P : ℕ → Type 0) (p : laid.Table → Bool) (ts : List laid.Table) → AllByRecursion (λ (t : laid.Table). P t.number) ts
    → AllByRecursion P (numbers_of (filter p ts))
all_passed P p [] all = tt
all_passed P p (t ∷ ts) all = by (p t) (all_passed P p ts all.1)
  where
    by : (b : Bool) → AllByRecursion P (numbers_of (filter p ts)) → AllByRecursion P (numbers_of (cond b (t ∷ filter p ts) (filter p ts)))
    by true later = (all.0, later)
    by false later = later

all_numbers : (P : ℕ → Type 0) (ts : List laid.Table) → AllByRecursion P (numbers_of ts)
    → AllByRecursion (λ (t : laid.Table). P t.number) ts
all_numbers P [] all = tt
all_numbers P (t ∷ ts) all = (all.0, all_numbers P ts all.1)

has_back : (n : ℕ) (ns ms : List ℕ) → has n ms ≡ true → has n (ns ++ ms) ≡ true
has_back n [] ms is = is
has_back n (m ∷ ns) ms is = ap (λ b. (m == n) || b) (has_back n ns ms is) ∙ or_true (m == n)
  where
    or_true : (b : Bool) → (b || true) ≡ true
    or_true true = refl
    or_true false = refl

-- ---- what waits

retired_left : {W : Type 0} {s : _} (leavings : List (Lent W s))
    → all_retired (all_left leavings) ≡ loose (map (λ (f : Lent W s). f.number) leavings)
retired_left [] = refl
retired_left (f ∷ leavings) = ap (λ (rs : List Retired). retired_at 0 (files.Table f.number) ∷ rs) (retired_left leavings)

retired_tables : (L : Type 0) (version : ℕ) (ts : List laid.Table)
    → map (retired_of {L = L}) (gone_tables version (numbers_of ts)) ≡ map (retired_at version) (map table_of ts)
retired_tables L version [] = refl
retired_tables L version (t ∷ ts) = ap (λ rs. retired_at version (table_of t) ∷ rs) (retired_tables L version ts)

loose_aged : (version : ℕ) (ns : List ℕ) → AllByRecursion (λ (r : Retired). r.epoch ≤ version) (loose ns)
loose_aged version [] = tt
loose_aged version (n ∷ ns) = (omega arith, loose_aged version ns)

-- ---- it was put in

module _ {H R W : Type 0} (bytes : H → Option (List ℕ)) (w : Writers W) (size : H → ℕ)
    (sized : (held : H) (told : List ℕ) → bytes held ≡ Some told → length told ≡ size held) {s : _} (job : Job (Base H R) H W s)
    (before after : Core H) (was now : Removing (Lent W s)) (count : ℕ) (h : History) (l : Layout) (stands : StandsFor bytes before h l)
    (o : OpenJob) (open_is : l.job ≡ Some o) (all : HasAllMerge w bytes job o.job) (lent : AreLent o.lent (made_of job o.job))
    (removes : Removes before was l) (running : l.halted ≡ None)
    (t : Tallied) (tally : IsTally t (installed o.job (made_of job o.job) l))
    (after_stands : StandsFor bytes after h (installed o.job (made_of job o.job) l))
    (fits : length job.leavings.items ≤ count)
    (puts : InstallsInto job before after (Some t) was.stock now.stock count) where
  abbrev made_here : Made
  made_here = made_of job o.job

  abbrev first : Layout
  first = put_in o.job made_here l

  abbrev gone : List laid.Table
  gone = filter (is_among o.job.inputs) (tables l)

  abbrev kept : Kept (Lent W s)
  kept = used_in before was.stock

  abbrev added : List ℕ
  added = map (λ (x : Synced W s). x.number) job.made.items

  abbrev idle : ℕ → Bool
  idle = is_idle_log (head_in after) t.live

  uses : Uses kept l
  uses = uses_first bytes before h l stands size sized was.stock.trash.items was.stock.in_use (removes.stock running).in_use

  of : IsOfLayout t.live (head_in after) (installed o.job (made_of job o.job) l)
  of = record { live_is = tally.live; head_is = head_is_laid bytes after h (installed o.job (made_of job o.job) l) after_stands }

  numbers : numbers_of (made_of job o.job).tables ≡ map (λ (x : Synced W s). x.number) job.made.items
  numbers = made_are w job.made.items (outputs o.job) all.made

  dropped_are : map number_of (filter (is_input (map number_of job.inputs.tables.items)) (tables_of before.version.behind.levels))
      ≡ numbers_of (filter (is_among o.job.inputs) (tables l))
  dropped_are =
      ap (λ (ns : List ℕ). map number_of (filter (is_input ns) (tables_of before.version.behind.levels)))
      (numbers_zip bytes job.inputs.tables.items all.is.tables all.is.inputs ∙ sym all.is.numbers)
      ∙ inputs_are bytes o.job.inputs (tables_in before.version) (tables l) (tables_are bytes before.version l stands.has)

  version : before.back.epoch + 1 ≡ l.epoch + 1
  version = ap (λ k. k + 1) stands.fronts.version

  -- the leavings wait first
  left_items : puts.mid.trash.items ≡ puts.readied.trash.items ++ all_left job.leavings.items
  left_items = puts.left.left (let room = puts.is_ready.room.trash in omega (arith, room, fits))

  has_left : Has puts.mid (record (used_in before was.stock) { trash = (used_in before was.stock).trash ++ all_left job.leavings.items })
  has_left =
      let has = puts.is_ready.has in record {
        in_use = has.in_use;
        is_some = puts.left.in_use ∙ has.is_some;
        kept_are = (λ i. record {
          tables = (has.kept_are i).tables;
          logs = (has.kept_are i).logs;
          trash = (has.kept_are i).trash ++ all_left job.leavings.items;
        }) ∙ (λ i. record { tables = has.in_use.tables.items; logs = has.in_use.logs.items; trash = sym left_items i });
      }

  abbrev second : Kept (Lent W s)
  second = with_tables added (record kept { trash = kept.trash ++ all_left job.leavings.items })

  abbrev third : Kept (Lent W s)
  third = tables_retired (l.epoch + 1) (numbers_of gone) second

  third_logs : third.logs ≡ log_numbers (rising (sealed first))
  third_logs = tables_logs (l.epoch + 1) (numbers_of gone) second ∙ uses.logs

  falls : IsFalling (l.active ∷ l.frozen)
  falls = stands.tidy.files.stocked.falling

  -- ---- tables

  keeps : (n : ℕ) → has n second.tables ≡ true → has n (numbers_of gone) ≡ false → has n third.tables ≡ true
  keeps n here off =
      ap (has n) (tables_left (l.epoch + 1) (numbers_of gone) second)
      ∙ has_filtered (λ (m : ℕ). not (has m (numbers_of gone))) n second.tables
      ∙ ap (λ b. b && not (has n (numbers_of gone))) here ∙ ap not off

  made_kept : AllByRecursion (λ (x : laid.Table). has x.number third.tables ≡ true) made_here.tables
  made_kept =
      all_numbers (λ n. has n third.tables ≡ true) made_here.tables
      (both (numbers_of made_here.tables)
      (subst (λ ns. AllByRecursion (λ n. has n second.tables ≡ true) ns) (sym numbers)
      (all_weaker (λ n. has n added ≡ true) (λ n. has n second.tables ≡ true) (λ n is. has_back n kept.tables added is) added
      (all_there added)))
      (front (numbers_of made_here.tables) made_here.leavings lent.drawn))
    where
      front : (ns ms : List ℕ) → AllByRecursion (λ n. has n o.lent ≡ true) (ns ++ ms) → AllByRecursion (λ n. has n o.lent ≡ true) ns
      front [] ms all = tt
      front (n ∷ ns) ms all = (all.0, front ns ms all.1)

      both : (ns : List ℕ) → AllByRecursion (λ n. has n second.tables ≡ true) ns → AllByRecursion (λ n. has n o.lent ≡ true) ns
          → AllByRecursion (λ n. has n third.tables ≡ true) ns
      both [] a b = tt
      both (n ∷ ns) a b = (
        keeps n a.0 (none_dropped o.job.inputs (tables l) n (not_standing l stands.tidy.files n
            (ap (λ (j : Option OpenJob). has n (lent_numbers j)) open_is ∙ b.0))),
        both ns a.1 b.1,
      )

  tables_kept : AllByRecursion (λ (x : laid.Table). has x.number third.tables ≡ true) (tables (installed o.job (made_of job o.job) l))
  tables_kept =
      all_replaced (λ (x : laid.Table). has x.number third.tables ≡ true) o.job.inputs made_here.tables made_kept o.job.target l.levels
      (all_weaker (λ (x : laid.Table). has x.number kept.tables ≡ true)
      (λ (x : laid.Table). is_among o.job.inputs x ≡ false → has x.number third.tables ≡ true)
      (λ x is other. keeps x.number (has_more x.number kept.tables added is) (not_dropped o.job.inputs (tables l) x.number other))
      (tables l) uses.tables)

  third_waits : third.trash ≡ (kept.trash ++ all_left job.leavings.items) ++ gone_tables (l.epoch + 1) (numbers_of gone)
  third_waits =
      tables_wait (l.epoch + 1) (numbers_of gone) second
      (distinct_numbers (is_among o.job.inputs) (tables l) stands.tidy.levels.distinct)
      (all_passed (λ n. has n second.tables ≡ true) (is_among o.job.inputs) (tables l)
      (all_weaker (λ (x : laid.Table). has x.number kept.tables ≡ true) (λ (x : laid.Table). has x.number second.tables ≡ true)
      (λ x is. has_more x.number kept.tables added is) (tables l) uses.tables))

  abbrev idles : List Segment
  idles = rising (filter (is_idle first) first.flushed)

  all_wait : all_retired (retiring (l.epoch + 1) idle third).trash ≡ (installed o.job (made_of job o.job) l).retired
  all_wait =
      ap (all_retired {L = Lent W s}) (switch_waits first gone falls t.live (head_in after) of third third_logs
      ∙ ap (λ (rs : List (RetiredFile (Lent W s))). rs ++ gone_logs (l.epoch + 1) (log_numbers idles)) third_waits)
      ∙ map-both retired_of ((kept.trash ++ all_left job.leavings.items) ++ gone_tables (l.epoch + 1) (numbers_of gone))
      (gone_logs (l.epoch + 1) (log_numbers idles))
      ∙ ap (λ (rs : List Retired). rs ++ all_retired {L = Lent W s} (gone_logs (l.epoch + 1) (log_numbers idles)))
      (map-both retired_of (kept.trash ++ all_left job.leavings.items) (gone_tables (l.epoch + 1) (numbers_of gone))
      ∙ ap (λ (rs : List Retired). rs ++ all_retired {L = Lent W s} (gone_tables (l.epoch + 1) (numbers_of gone)))
      (map-both retired_of kept.trash (all_left job.leavings.items)
      ∙ ap (λ (rs : List Retired). rs ++ all_retired (all_left job.leavings.items))
      (ap (all_retired {L = Lent W s}) (used_waits before was.stock) ∙ (removes.stock running).trash)
      ∙ ap (λ (rs : List Retired). l.retired ++ rs) (retired_left job.leavings.items))
      ∙ ap (λ (rs : List Retired). first.retired ++ rs) (retired_tables (Lent W s) (l.epoch + 1) gone))
      ∙ ap (λ (rs : List Retired). (first.retired ++ map (retired_at (l.epoch + 1)) (map table_of gone)) ++ rs)
      (switch_retired first gone falls t.live (head_in after) of third third_logs)
      ∙ append_assoc first.retired (map (retired_at (l.epoch + 1)) (map table_of gone))
      (map (retired_at (l.epoch + 1)) (map log_of idles))
      ∙ ap (λ (rs : List Retired). first.retired ++ rs)
      (sym (map-both (retired_at (l.epoch + 1)) (map table_of gone) (map log_of idles)))

  pub installed_stock : IsStockOf after now.stock (installed o.job (made_of job o.job) l)
  installed_stock =
      is_stock after now.stock (installed o.job (made_of job o.job) l) (retiring (l.epoch + 1) idle third)
      (subst (λ (ns : List ℕ). Has now.stock (retiring (l.epoch + 1) idle (tables_retired (l.epoch + 1) ns second)))
      dropped_are
      (subst (λ v. Has now.stock (retiring v idle
      (tables_retired v (map number_of (filter (is_input (map number_of job.inputs.tables.items))
      (tables_of before.version.behind.levels))) second))) version
      (puts.switched (record kept { trash = kept.trash ++ all_left job.leavings.items }) has_left)))
      (record {
        tables = subst (λ ns. AllByRecursion (λ (x : laid.Table). has x.number ns ≡ true) (tables (installed o.job (made_of job o.job) l)))
            (sym (switch_tables first gone falls t.live (head_in after) of third third_logs)) tables_kept;
        logs = switch_logs first gone falls t.live (head_in after) of third third_logs;
      })
      all_wait
      (all_more (λ (r : Retired). r.epoch ≤ l.epoch + 1) first.retired
      (map (retired_at (l.epoch + 1)) (map table_of gone ++ map log_of idles))
      (all_more (λ (r : Retired). r.epoch ≤ l.epoch + 1) l.retired (loose made_here.leavings)
      (aged_more l.epoch (l.epoch + 1) (omega arith) l.retired (removes.stock running).aged)
      (loose_aged (l.epoch + 1) made_here.leavings))
      (just_retired (l.epoch + 1) (map table_of gone ++ map log_of idles)))
      (let small = now.stock.trash.small in omega (arith, small))

  pub installed_removes : now.pins ≡ (merge_pinned None was).pins → Removes after now (installed o.job (made_of job o.job) l)
  installed_removes pins = record {
    pins = subst (λ (p : Pins). ArePinsOf p (installed o.job (made_of job o.job) l)) (sym pins) (record {
      live = removes.pins.live;
      merge = refl;
      pass = removes.pins.pass;
      last = (let up = removes.pins.last in omega (arith, up));
    });
    stock = λ runs. installed_stock;
  }
