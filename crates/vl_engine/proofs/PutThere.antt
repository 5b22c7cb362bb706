-- Behind an install the files in use stand, and each retired one can be removed.
use Rattle.std.specs.Prelude.{◌≡◌, ◌≢◌, ◌≤◌, ◌<◌, ◌+◌, ◌++◌, ◌==◌, ◌||◌, ℕ, All, Bool, true, false, List, [], ◌∷◌, length, map}
use Rattle.std.specs.Prelude.{IsSome, IsTrue, Option, None, Some, is_some, refl}
use Rattle.std.specs.FinMap.{get}
use Rattle.std.specs.List.{AllByRecursion}
use Rattle.std.specs.Option.{ForSome, option_map}
use Rattle.std.specs.VecDeque.{deque_capacity, deque_len}
use Rattle.std.proofs.Common.{sym, ap, subst, ◌∙◌, arith, append_assoc}
use Rattle.std.proofs.lemmas.Bool.Decides.{nat_tests}
use Rattle.std.proofs.lemmas.List.Elements.{All-append, All-from_recursion, All-weaker, recursion_from_All}
use Rattle.vl_compact.specs.declared.files.Lent.{Lent}
use Rattle.vl_compact.specs.declared.files.Synced.{Synced}
use Rattle.vl_compact.specs.declared.ready.ReadyLevels.{ReadyLevels}
use Rattle.vl_engine_laws.specs.Carries.{HasSameFiles, StaysUntold}
use Rattle.vl_engine_laws.specs.declared.kept.Core.{Core}
use Rattle.vl_disk.specs.Disk.{IsFree, Stands}
use Rattle.vl_disk.specs.DiskState.{DiskState, File}
use Rattle.vl_disk.specs.Lending.{adopted}
use Rattle.vl_disk.specs.Spare.{SameSpareElsewhere}
use Rattle.vl_disk.specs.declared.name.Name.TheVariants.{Log, Manifest, Table}
use Rattle.vl_disk.specs.declared.name.Name.{Name}
use Rattle.vl_disk.specs.declared.watched.Watched.{Ghosts}
use Rattle.vl_disk.specs.declared.writer.Writer.{Ghosts as Writers}
use Rattle.vl_disk.specs.laws.NameMap.{get_inserted, get_inserted_other}
use Rattle.vl_steps.specs.laws.KeptBy.{files_switched}
use Rattle.vl_steps.specs.laws.Lending.{leaves_switch}
use Rattle.vl_steps.specs.laws.PutIn.{beside_same}
use Rattle.vl_space.specs.laws.Retired.Changing.{has_some}
use Rattle.vl_space.specs.laws.Retired.Switched.{Keeps, keeps_switch, more_tables, there_by}
use Rattle.vl_space.specs.laws.Retired.There.{NamesStand, Standing, from_use, waiting_stand}
use Rattle.vl_space.specs.laws.There.Kept.{not_free_stands, stands_not_free, told_before}
use Rattle.vl_steps.specs.Installing.{InstallsAll}
use Rattle.vl_space.specs.Removing.{HasInUse, IsLeft, IsThere, IsWaiting, are_unused, numbers_left, standing_names, with_number}
use Rattle.vl_space.specs.Retiring.{switching}
use Rattle.vl_steps.specs.Taking.{Takes, file_of_table, with_files}
use Rattle.vl_manifest.specs.Switching.{switched}
use Rattle.vl_model.specs.Numbers.{has}
use Rattle.vl_pins.specs.Files.{BecomesBy, Kept, kept_in, with_tables}
use Rattle.vl_pins.specs.declared.in_use.InUse.{InUse}
use Rattle.vl_pins.specs.declared.retired_file.RetiredFile.{RetiredFile}
use Rattle.vl_pins.specs.declared.stock.Stock.{Stock}

append_nil : {X : Type 0} (xs : List X) → xs ++ [] ≡ xs
append_nil [] = refl
append_nil (x ∷ xs) = ap (λ ys. x ∷ ys) (append_nil xs)

-- ---- files that are taken back

module _ {W : Type 0} (w : Writers W) {s : _} where
  abbrev NumbersOf : List (Synced W s) → List ℕ
  NumbersOf ts = map (λ (t : Synced W s). t.number) ts

  -- what stood stands, as a file that was taken back does
  stands_with : (ts : List (Synced W s)) (name : Name) (disk : DiskState) → Stands name disk → Stands name (with_files w ts disk)
  stands_with [] name disk stands = stands
  stands_with (t ∷ ts) name disk stands = stands_with ts name (adopted (Table t.number) (file_of_table w t) disk) (one name stands)
    where
      one : (name : Name) → Stands name disk → Stands name (adopted (Table t.number) (file_of_table w t) disk)
      one (Log m) is = subst IsSome (sym (get_inserted_other disk.standing (Table t.number) (file_of_table w t) (Log m) (λ e. cc))) is
      one (Manifest m) is =
          subst IsSome (sym (get_inserted_other disk.standing (Table t.number) (file_of_table w t) (Manifest m) (λ e. cc))) is
      one (Table m) is = by (m == t.number) refl
        where
          by : (b : Bool) → (m == t.number) ≡ b → Stands (Table m) (adopted (Table t.number) (file_of_table w t) disk)
          by true same =
              let e : m ≡ t.number = grind (arith, nat_tests, same) in
              subst (λ (k : ℕ). Stands (Table k) (adopted (Table t.number) (file_of_table w t) disk)) (sym e)
              (ap is_some (get_inserted disk.standing (Table t.number) (file_of_table w t)))
          by false other =
              subst IsSome (sym (get_inserted_other disk.standing (Table t.number) (file_of_table w t) (Table m)
              (λ e. apart other (let same : m ≡ t.number = cc in same)))) is
            where
              apart : (m == t.number) ≡ false → m ≡ t.number → ⊥
              apart off same = grind (arith, nat_tests, off, same)

  all_stand : (ts : List (Synced W s)) (disk : DiskState)
      → AllByRecursion (λ (n : ℕ). Stands (Table n) (with_files w ts disk)) (NumbersOf ts)
  all_stand [] disk = tt
  all_stand (t ∷ ts) disk =
      let next = adopted (Table t.number) (file_of_table w t) disk in (
        stands_with ts (Table t.number) next (ap is_some (get_inserted disk.standing (Table t.number) (file_of_table w t))),
        all_stand ts next,
      )

  -- a table of another number
  abbrev IsApart : ℕ → List (Synced W s) → Type 0
  IsApart n ts = AllByRecursion (λ (t : Synced W s). n ≢ t.number) ts

  named_apart : (n : ℕ) (ts : List (Synced W s)) → IsApart n ts → AllByRecursion (λ (t : Synced W s). Table n ≢ Table t.number) ts
  named_apart n [] apart = tt
  named_apart n (t ∷ ts) apart = ((λ e. apart.0 (let same : n ≡ t.number = cc in same)), named_apart n ts apart.1)

-- ---- an install

module _ {D H W : Type 0} {s : Writers W} (g : Ghosts D) (bytes : H → Option (List ℕ)) (old begun new : D)
    (made : List (Synced W s)) (manifest : ℕ) (frame : List ℕ) (levels put : ReadyLevels H)
    (writes : InstallsAll g bytes s made manifest frame begun new levels put) (told : g.told begun ≡ g.told old)
    (elsewhere : SameSpareElsewhere (Manifest manifest) (g.spare old) (g.spare begun)) where
  takes : Takes g s made begun writes.mid
  takes = subst (λ (ts : List (Synced W s)). Takes g s ts begun writes.mid)
      (sym (writes.took.made_are ∙ append_nil writes.took.front)) writes.took.takes

  abbrev numbers : List ℕ
  numbers = map (λ (t : Synced W s). t.number) made

  -- what is told then
  abbrev then_is : DiskState → DiskState
  then_is before = switched manifest frame (with_files s made before)

  some_is : (a b : DiskState) → Some a ≡ Some b → a ≡ b
  some_is a b e = cc

  told_then : (before now : DiskState) → g.told old ≡ Some before → g.told new ≡ Some now → then_is before ≡ now
  told_then before now was is =
      some_is (then_is before) now (sym (writes.switches.performs.done
      ∙ ap (option_map (switched manifest frame)) (takes.changed ∙ ap (option_map (with_files s made)) (told ∙ was))) ∙ is)

  untold : StaysUntold (g.told old) (g.told new)
  untold none = writes.switches.performs.done
      ∙ ap (option_map (switched manifest frame)) (takes.changed ∙ ap (option_map (with_files s made)) (told ∙ none))

  stands_switched : (name : Name) (disk : DiskState) → Stands name disk → Stands name (switched manifest frame disk)
  stands_switched name disk stands =
      not_free_stands (get (switched manifest frame disk).standing name)
      (λ (gone : get (switched manifest frame disk).standing name ≡ None).
      stands_not_free (get disk.standing name) stands ((files_switched manifest frame disk name).0.0 gone))

  stands_on : (before now : DiskState) → g.told old ≡ Some before → g.told new ≡ Some now → (name : Name) → Stands name before
      → Stands name now
  stands_on before now was is name stands =
      subst (Stands name) (told_then before now was is)
      (stands_switched name (with_files s made before) (stands_with s made name before stands))

  made_stand : (before now : DiskState) → g.told old ≡ Some before → g.told new ≡ Some now
      → AllByRecursion (λ (n : ℕ). Stands (Table n) now) numbers
  made_stand before now was is = of numbers (all_stand s made before)
    where
      of : (ns : List ℕ) → AllByRecursion (λ (n : ℕ). Stands (Table n) (with_files s made before)) ns
          → AllByRecursion (λ (n : ℕ). Stands (Table n) now) ns
      of [] all = tt
      of (n ∷ ns) all = (
        subst (Stands (Table n)) (told_then before now was is) (stands_switched (Table n) (with_files s made before) all.0),
        of ns all.1,
      )

  free_on : (n : ℕ) → IsApart s n made → ForSome (g.told old) (IsFree (Table n)) → ForSome (g.told new) (IsFree (Table n))
  free_on n apart free now is =
      let was = told_before (g.told old) (g.told new) now untold is in
      subst (IsFree (Table n)) (told_then was.0 now was.1 is)
      ((files_switched manifest frame (with_files s made was.0) (Table n)).0.1
      (beside_same s made (Table n) (named_apart s n made apart) was.0 ∙ free was.0 was.1))

  module _ (next : ℕ) where
    room_on : (n : ℕ) → n < next → IsApart s n made → (g.spare new (Table n)).adopt ≡ (g.spare old (Table n)).adopt
    room_on n drawn apart =
        (leaves_switch g writes.mid new manifest frame _ writes.switches next).room n drawn
        ∙ ap (λ (sp : _). sp.adopt) (takes.others n apart)
        ∙ ap (λ (sp : _). sp.adopt) (elsewhere (Table n) (λ e. cc))

    -- a retired file waits on, where none of these tables has its number
    one_waits : (file : RetiredFile (Lent W s)) → ((x : Lent W s) → file.lent ≡ Some x → IsApart s x.number made)
        → IsWaiting g s old next file → IsWaiting g s new next file
    one_waits file apart is = record {
      stands = λ none now told_now. let was = told_before (g.told old) (g.told new) now untold told_now in
          stands_on was.0 now was.1 told_now file.name (is.stands none was.0 was.1);
      left = λ x some. let left = is.left x some in record {
        lent = record {
          drawn = left.lent.drawn;
          room = subst IsTrue (sym (room_on x.number left.lent.drawn (apart x some))) left.lent.room;
          free = free_on x.number (apart x some) left.lent.free;
        };
        tells = λ now told_now. let was = told_before (g.told old) (g.told new) now untold told_now in left.tells was.0 was.1;
      };
      named = is.named;
    }

    each_waits : (trash : List (RetiredFile (Lent W s)))
        → AllByRecursion (λ (t : Synced W s). has t.number (numbers_left trash) ≡ false) made
        → AllByRecursion (IsWaiting g s old next) trash → AllByRecursion (IsWaiting g s new next) trash
    each_waits [] off all = tt
    each_waits (file ∷ trash) off all = (
      one_waits file (λ x some. here x some made off) all.0,
      each_waits trash (rest made off) all.1,
    )
      where
        parted : (o : Option (Lent W s)) → file.lent ≡ o → (n : ℕ) → has n (with_number file.lent (numbers_left trash)) ≡ false
            → has n (with_number o (numbers_left trash)) ≡ false
        parted o same n off = subst (λ (x : Option (Lent W s)). has n (with_number x (numbers_left trash)) ≡ false) same off

        either : (a b : Bool) → (a || b) ≡ false → (a ≡ false) × (b ≡ false)
        either true b is = absurd cc
        either false b is = (refl, is)

        here : (x : Lent W s) → file.lent ≡ Some x → (ts : List (Synced W s))
            → AllByRecursion (λ (t : Synced W s). has t.number (numbers_left (file ∷ trash)) ≡ false) ts → IsApart s x.number ts
        here x some [] off = tt
        here x some (t ∷ ts) off = (
          (let both = either (x.number == t.number) (has t.number (numbers_left trash)) (parted (Some x) some t.number off.0) in
              let other = both.0 in λ same. grind (arith, nat_tests, other, same)),
          here x some ts off.1,
        )

        less : (t : Synced W s) (o : Option (Lent W s)) → file.lent ≡ o → has t.number (with_number o (numbers_left trash)) ≡ false
            → has t.number (numbers_left trash) ≡ false
        less t None same off = off
        less t (Some x) same off = (either (x.number == t.number) (has t.number (numbers_left trash)) off).1

        rest : (ts : List (Synced W s)) → AllByRecursion (λ (t : Synced W s). has t.number (numbers_left (file ∷ trash)) ≡ false) ts
            → AllByRecursion (λ (t : Synced W s). has t.number (numbers_left trash) ≡ false) ts
        rest [] off = tt
        rest (t ∷ ts) off = (less t file.lent refl off.0, rest ts off.1)

  -- the names of retired files aren't those of tables that were free
  unused_on : (a : ℕ) (ns ts ls : List ℕ) (state : DiskState) (names : List Name) → AllByRecursion (λ (n : ℕ). IsFree (Table n) state) ns
      → NamesStand names state → are_unused a ts ls names ≡ true → are_unused a (ts ++ ns) ls names ≡ true
  unused_on a [] ts ls state names free stand is = ap (λ (xs : List ℕ). are_unused a xs ls names) (append_nil ts) ∙ is
  unused_on a (n ∷ ns) ts ls state names free stand is =
      ap (λ (xs : List ℕ). are_unused a xs ls names) (sym (append_assoc ts (n ∷ []) ns))
      ∙ unused_on a ns (ts ++ n ∷ []) ls state names free.1 stand (more_tables a n ts ls state free.0 names stand is)

  -- The tables came into use, others and idle logs are retired.
  module _ (core after : Core H) (mid now : Stock (Lent W s)) (log : after.front.log.number ≡ core.front.log.number)
      (next_is : after.back.state.next_table ≡ core.back.state.next_table)
      (free : ForSome (g.told old) (λ state. AllByRecursion (λ (n : ℕ). IsFree (Table n) state) numbers))
      (off : AllByRecursion (λ (t : Synced W s). has t.number (numbers_left mid.trash.items) ≡ false) made)
      (u : InUse) (some : mid.in_use ≡ Some u) (version : ℕ) (dropped : List ℕ) (idle : ℕ → Bool)
      (becomes : BecomesBy (switching version numbers dropped idle) mid now) where
    abbrev next : ℕ
    next = core.back.state.next_table

    abbrev kept : Kept (Lent W s)
    kept = kept_in u mid

    module _ (is : IsThere g s old core None mid) where
      keeps_added : Keeps g s new next core.front.log.number (numbers_left mid.trash.items) (with_tables numbers kept)
      keeps_added = record {
        waiting = All-from_recursion (IsWaiting g s new next) mid.trash.items (each_waits next mid.trash.items off
            (recursion_from_All (IsWaiting g s old next) mid.trash.items is.waiting));
        standing = λ state told_now.
            let was = told_before (g.told old) (g.told new) state untold told_now in
            let stood : Standing core.front.log.number kept was.0 = from_use core was.0 mid u some (is.files was.0 was.1) in
            let still = stands_on was.0 state was.1 told_now in record {
              tables = All-append (λ n. Stands (Table n) state) kept.tables numbers
                  (All-weaker (λ n. Stands (Table n) was.0) (λ n. Stands (Table n) state) (λ n. still (Table n)) kept.tables stood.tables)
                  (All-from_recursion (λ n. Stands (Table n) state) numbers (made_stand was.0 state was.1 told_now));
              logs = All-weaker (λ n. Stands (Log n) was.0) (λ n. Stands (Log n) state) (λ n. still (Log n)) kept.logs stood.logs;
              unused = unused_on core.front.log.number numbers kept.tables kept.logs was.0 (standing_names mid.trash.items)
                  (free was.0 was.1) (waiting_stand g s old next was.0 was.1 mid.trash.items is.waiting) stood.unused;
              off = stood.off;
            };
        left = refl;
      }

      pub there_put : IsThere g s new after None now
      there_put =
          there_by g s new after None now (switching version numbers dropped idle kept) (numbers_left mid.trash.items)
          (becomes kept (has_some mid u some))
          (subst (λ (n : ℕ). Keeps g s new n after.front.log.number (numbers_left mid.trash.items)
          (switching version numbers dropped idle kept)) (sym next_is)
          (subst (λ (n : ℕ). Keeps g s new next n (numbers_left mid.trash.items) (switching version numbers dropped idle kept)) (sym log)
          (keeps_switch g s new next core.front.log.number (numbers_left mid.trash.items) version dropped idle (with_tables numbers kept)
          keeps_added)))
          is.distinct
          (let small = now.trash.small.1 in omega (arith, small))
