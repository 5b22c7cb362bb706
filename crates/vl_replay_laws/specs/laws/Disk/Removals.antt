-- What a run of removals leaves of a disk: no log and no manifest comes or changes, also where the last one failed.
use Rattle.std.proofs.Common.{◌≡◌, ⊎_elim, ℕ, ◌+◌, ◌≤◌, List, [], ◌∷◌, ◌++◌, length, map, refl, ap, sym, ◌∙◌, subst, arith}
use Rattle.std.proofs.Common.{length-append}
use Rattle.std.proofs.lemmas.Bool.Decides.{nat_tests}
use Rattle.std.specs.Prelude.{◌≢◌, ◌||◌, Bool, true, false, suc, zero, Option, None, Some, IsSome, Result, Ok, Err}
use Rattle.std.specs.FinMap.{get, remove}
use Rattle.std.specs.List.{AllByRecursion, list_any}
use Rattle.std.specs.Option.{option_map}
use Rattle.vl_compact.specs.declared.files.Lent.{Lent}
use Rattle.vl_engine_laws.specs.Represents.{file_of}
use Rattle.vl_disk.specs.Chance.{GrowsByFrames}
use Rattle.vl_disk.specs.DiskState.{DiskState, File, without}
use Rattle.vl_disk.specs.Calls.{Removes as RemovesFile}
use Rattle.vl_disk.specs.Disk.{IsChangedBy}
use Rattle.vl_disk.specs.Faults.{after_calls, one_more}
use Rattle.vl_disk.specs.Lending.{Adopts, adopted}
use Rattle.vl_disk.specs.declared.errors.Failed.{Failed}
use Rattle.vl_disk.specs.declared.name.Name.{Name}
use Rattle.vl_disk.specs.declared.name.Name.TheVariants.{Table}
use Rattle.vl_disk.specs.declared.watched.Watched.{Ghosts}
use Rattle.vl_disk.specs.declared.writer.Writer.{Ghosts as Writers}
use Rattle.vl_disk.specs.laws.NameMap.{get_inserted_other, get_removed, get_removed_other, same_or_other}
use Rattle.vl_space.specs.Sweeping.{RemovesAll, RemovesOne, StopsRemoving, TakesIfLent}
use Rattle.vl_engine_model.specs.Rulings.Sweep.{is_same}
use Rattle.vl_engine_model.specs.Stock.{is_in}
use Rattle.vl_engine_model.specs.declared.file_name.FileName.{FileName}
use Rattle.vl_engine_model.specs.declared.file_name.FileName.TheVariants as files
use Rattle.vl_mem.specs.laws.CrashChance.{IsTornByPieces}
use Rattle.vl_pins.specs.declared.retired_file.RetiredFile.{RetiredFile}
use Rattle.vl_recover.specs.crash.Held.{AllSettled}
use Rattle.vl_script_model.specs.laws.TornSteps.{settled_torn}

-- ---- disks

-- no log and no manifest comes or changes
record OnlyLoses (old new : DiskState) : Type 0 where
  pub stood : (name : Name) (file : File) → GrowsByFrames name → get new.standing name ≡ Some file → get old.standing name ≡ Some file

loses_none : (disk : DiskState) → OnlyLoses disk disk
loses_none disk = record { stood = λ name file grows there. there }

loses_then : (old mid new : DiskState) → OnlyLoses old mid → OnlyLoses mid new → OnlyLoses old new
loses_then old mid new first second = record {
  stood = λ name file grows there. first.stood name file grows (second.stood name file
      grows there);
}

loses_one : (name : Name) (disk : DiskState) → OnlyLoses disk (without name disk)
loses_one name disk = record {
  stood = λ other file grows there. ⊎_elim
      (λ (same : other ≡ name). absurd (none_some file (sym (get_removed disk.standing name)
      ∙ ap (get (remove disk.standing name)) (sym same) ∙ there)))
      (λ (apart : other ≢ name). sym (get_removed_other disk.standing name other apart) ∙ there)
      (same_or_other other name);
}
  where
    none_some : (file : File) → None ≡ Some file → ⊥
    none_some file e = cc

loses_table : (n : ℕ) (f : File) (disk : DiskState) → OnlyLoses disk (adopted (Table n) f disk)
loses_table n f disk = record {
  stood = λ other file grows there. sym (get_inserted_other disk.standing (Table n) f other (apart other grows)) ∙ there;
}
  where
    apart : (other : Name) → GrowsByFrames other → other ≢ Table n
    apart other grows same = subst GrowsByFrames same grows

-- what isn't durable then is torn by pieces
loses_torn : (old new : DiskState) → AllSettled old → OnlyLoses old new → IsTornByPieces new
loses_torn old new settled loses = record {
  each = λ name file there grows loose.
      (settled_torn old settled).each name file (loses.stood name file grows there) grows loose;
}

-- ---- removals

false_true : false ≡ true → ⊥
false_true e = cc

calls_more : (n count : ℕ) → after_calls n (one_more count) ≡ one_more (after_calls n count)
calls_more zero count = refl
calls_more (suc n) count = ap one_more (calls_more n count)

module _ {D : Type 0} (g : Ghosts D) where
  -- the disk tells what it lost
  abbrev Tells : DiskState → D → Type 0
  Tells old new = (now : DiskState) × (g.told new ≡ Some now) × OnlyLoses old now

  changed : (name : Name) (mid new : D) (state : DiskState) → g.told mid ≡ Some state
      → IsChangedBy (without name) (g.told mid) (g.told new) → Tells state new
  changed name mid new state told is = (without name state, is ∙ ap (option_map (without name)) told, loses_one name state)

module _ {D W : Type 0} (g : Ghosts D) (w : Writers W) {k : Writers W} where
  -- what was lent is a table's file, which its writer tells
  abbrev pub IsReady : RetiredFile (Lent W k) → Type 0
  IsReady file = (lent : Lent W k) → file.lent ≡ Some lent → (file.name ≡ Table lent.number) × IsSome (w.file lent.writer)

  -- it was taken back, if it was lent
  took : (file : RetiredFile (Lent W k)) (old mid : D) (state : DiskState) → g.told old ≡ Some state → IsReady file
      → (o : Option (Lent W k)) → file.lent ≡ o → TakesIfLent g w o file.name old mid → Tells g state mid
  took file old mid state told ready None none takes = (state, ap g.told takes ∙ told, loses_none state)
  took file old mid state told ready (Some lent) some takes =
      let (named, tells) = ready lent some in
      of (w.file lent.writer) tells (subst (λ (n : Name). Adopts g n (w.file lent.writer) old mid) named takes)
    where
      of : (o : Option File) → IsSome o → Adopts g (Table lent.number) o old mid → Tells g state mid
      of None none adopts = absurd (false_true none)
      of (Some f) tells adopts = (
        adopted (Table lent.number) f state,
        adopts.adopted state told f refl,
        loses_table lent.number f state,
      )

  one_tells : (file : RetiredFile (Lent W k)) (old new : D) (result : Result (Unit {0}) Failed) → RemovesOne g w file old new result
      → IsReady file → (state : DiskState) → g.told old ≡ Some state → Tells g state new
  one_tells file old new result one ready state told =
      let (middle, told_mid, lost) = took file old one.mid state told ready file.lent refl one.takes in
      let (now, told_now, then) = by result one.removes middle told_mid in
      (now, told_now, loses_then state middle now lost then)
    where
      by : (result : Result (Unit {0}) Failed) → RemovesFile g file.name one.mid new result → (middle : DiskState)
          → g.told one.mid ≡ Some middle → Tells g middle new
      by (Ok done) removes middle told_mid = changed g file.name one.mid new middle told_mid removes.removed
      by (Err failed) removes middle told_mid = ⊎_elim
          (λ (same : g.told new ≡ g.told one.mid). (middle, same ∙ told_mid, loses_none middle))
          (λ (is : IsChangedBy (without file.name) (g.told one.mid) (g.told new)). changed g file.name one.mid new middle told_mid is)
          removes.failed

  all_tell : (fs : List (RetiredFile (Lent W k))) (old new : D) → RemovesAll g w fs old new → AllByRecursion IsReady fs
      → (state : DiskState) → g.told old ≡ Some state → Tells g state new
  all_tell [] old new all ready state told = (state, ap g.told all ∙ told, loses_none state)
  all_tell (file ∷ fs) old new all ready state told =
      let (middle, told_mid, lost) = one_tells file old all.0 (Ok tt) all.1 ready.0 state told in
      let (now, told_now, then) = all_tell fs all.0 new all.2 ready.1 middle told_mid in
      (now, told_now, loses_then state middle now lost then)

  -- one call for each
  taken_calls : (file : RetiredFile (Lent W k)) (old mid : D) (o : Option (Lent W k)) → TakesIfLent g w o file.name old mid
      → g.calls mid ≡ g.calls old
  taken_calls file old mid None takes = ap g.calls takes
  taken_calls file old mid (Some lent) takes = takes.calls

  one_call : (file : RetiredFile (Lent W k)) (old new : D) (result : Result (Unit {0}) Failed) → RemovesOne g w file old new result
      → g.calls new ≡ one_more (g.calls old)
  one_call file old new result one = one.removes.as_call.calls ∙ ap one_more (taken_calls file old one.mid file.lent one.takes)

  all_calls : (fs : List (RetiredFile (Lent W k))) (old new : D) → RemovesAll g w fs old new
      → g.calls new ≡ after_calls (length fs) (g.calls old)
  all_calls [] old new all = ap g.calls all
  all_calls (file ∷ fs) old new all = all_calls fs all.0 new all.2
      ∙ ap (after_calls (length fs)) (one_call file old all.0 (Ok tt) all.1) ∙ calls_more (length fs) (g.calls old)

  -- ---- it failed at one

  parts : (front back : List (RetiredFile (Lent W k))) → AllByRecursion IsReady (front ++ back)
      → AllByRecursion IsReady front × AllByRecursion IsReady back
  parts [] back all = (tt, all)
  parts (x ∷ front) back all = let rest = parts front back all.1 in ((all.0, rest.0), rest.1)

  module _ (fs : List (RetiredFile (Lent W k))) (old new : D) (name : Name) (stops : StopsRemoving g w fs old new name) where
    pub stops_torn : AllByRecursion IsReady fs → (state : DiskState) → g.told old ≡ Some state → AllSettled state
        → (now : DiskState) → g.told new ≡ Some now → IsTornByPieces now
    stops_torn ready state told settled now told_now =
        let split = parts stops.before (stops.at ∷ stops.behind) (subst (AllByRecursion IsReady) stops.files_are ready) in
        let (middle, told_mid, lost) = all_tell stops.before old stops.mid stops.went split.0 state told in
        let (then, told_then, last) = one_tells stops.at stops.mid new (Err stops.failed) stops.stops split.1.0 middle told_mid in
        subst IsTornByPieces (some_same then now (sym told_then ∙ told_now))
        (loses_torn state then settled (loses_then state middle then lost last))
      where
        some_same : (a b : DiskState) → Some a ≡ Some b → a ≡ b
        some_same a b e = cc

    -- so many calls were made, of one for each file
    pub stops_made : (made : ℕ) × (made ≤ length fs) × (1 ≤ length fs) × (g.calls new ≡ after_calls made (g.calls old))
    stops_made =
        let sum = ap length stops.files_are ∙ length-append stops.before (stops.at ∷ stops.behind) in (
          length stops.before + 1,
          omega (arith, sum),
          omega (arith, sum),
          one_call stops.at stops.mid new (Err stops.failed) stops.stops ∙ ap one_more (all_calls stops.before old stops.mid stops.went)
              ∙ one_behind (length stops.before) (g.calls old),
        )
      where
        one_behind : (n count : ℕ) → one_more (after_calls n count) ≡ after_calls (n + 1) count
        one_behind n count = ap (λ (m : ℕ). after_calls m count) (let e : suc n ≡ n + 1 = omega arith in e)

    -- and it is one of them
    pub stops_named : is_in (file_of name) (map (λ (file : RetiredFile (Lent W k)). file_of file.name) fs) ≡ true
    stops_named =
        ap (λ (n : Name). is_in (file_of n) (map (λ (file : RetiredFile (Lent W k)). file_of file.name) fs)) stops.name_is
        ∙ ap (λ (xs : List (RetiredFile (Lent W k))). is_in (file_of stops.at.name)
        (map (λ (file : RetiredFile (Lent W k)). file_of file.name) xs)) stops.files_are
        ∙ among stops.before
      where
        itself : (f : FileName) → is_same f f ≡ true
        itself (files.Log n) = grind (arith, nat_tests)
        itself (files.Table n) = grind (arith, nat_tests)
        itself (files.Manifest n) = grind (arith, nat_tests)

        or_true : (b : Bool) → (b || true) ≡ true
        or_true true = refl
        or_true false = refl

        among : (front : List (RetiredFile (Lent W k))) → is_in (file_of stops.at.name)
            (map (λ (file : RetiredFile (Lent W k)). file_of file.name) (front ++ stops.at ∷ stops.behind)) ≡ true
        among [] = ap (λ (b : Bool). b || list_any (is_same (file_of stops.at.name))
            (map (λ (file : RetiredFile (Lent W k)). file_of file.name) stops.behind)) (itself (file_of stops.at.name))
        among (x ∷ front) = ap (λ (b : Bool). is_same (file_of stops.at.name) (file_of x.name) || b) (among front)
            ∙ or_true (is_same (file_of stops.at.name) (file_of x.name))
