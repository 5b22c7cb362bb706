-- What a run of removals leaves of a disk, whatever it holds.
use Rattle.std.specs.Prelude.{◌≡◌, ◌≢◌, ◌++◌, ℕ, List, [], ◌∷◌, length, Option, None, Some, Result, Ok, Err, is_some}
use Rattle.std.specs.Prelude.{true, false, refl, zero, suc}
use Rattle.std.specs.FinMap.{get}
use Rattle.std.specs.List.{AllByRecursion}
use Rattle.std.specs.Option.{ForSome, option_map}
use Rattle.std.proofs.Common.{sym, subst, ap, ◌∙◌, ⊎_elim}
use Rattle.vl_back.specs.Writing.{IsKept}
use Rattle.vl_compact.specs.declared.files.Lent.{Lent}
use Rattle.vl_engine_laws.specs.Carries.{StaysUntold}
use Rattle.vl_disk.specs.Changes.{SameElsewhere}
use Rattle.vl_disk.specs.Disk.{IsFree}
use Rattle.vl_disk.specs.DiskState.{DiskState, File, without}
use Rattle.vl_disk.specs.Faults.{after_calls, one_more}
use Rattle.vl_disk.specs.Lending.{Adopts, adopted}
use Rattle.vl_disk.specs.declared.errors.Failed.{Failed}
use Rattle.vl_disk.specs.declared.name.Name.{Name}
use Rattle.vl_disk.specs.declared.watched.Watched.{Ghosts}
use Rattle.vl_disk.specs.declared.writer.Writer.{Ghosts as Writers}
use Rattle.vl_disk.specs.laws.NameMap.{same_or_other}
use Rattle.vl_space.specs.laws.There.Going.{Goes, one_goes}
use Rattle.vl_space.specs.laws.There.Kept.{told_before}
use Rattle.vl_space.specs.Sweeping.{AreFree, KeepsAllBut, RemovesAll, RemovesOne, StopsRemoving, TakesIfLent, names_of}
use Rattle.vl_pins.specs.declared.retired_file.RetiredFile.{RetiredFile}

false_true : false ≡ true → ⊥
false_true e = cc

kept_itself : (name : Name) (disk : DiskState) → IsKept name disk disk
kept_itself name disk = ((λ none. none, λ none. none), (λ none. none, λ none. none))

kept_then : (name : Name) (old mid new : DiskState) → IsKept name old mid → IsKept name mid new → IsKept name old new
kept_then name old mid new first second = (
  (λ none. first.0.0 (second.0.0 none), λ none. second.0.1 (first.0.1 none)),
  (λ none. first.1.0 (second.1.0 none), λ none. second.1.1 (first.1.1 none)),
)

kept_beside : (name other : Name) (old new : DiskState) → SameElsewhere name old new → other ≢ name → IsKept other old new
kept_beside name other old new same apart = (
  (λ none. sym (same.standing other apart) ∙ none, λ none. same.standing other apart ∙ none),
  (λ none. sym (same.removed other apart) ∙ none, λ none. same.removed other apart ∙ none),
)

calls_more : (n count : ℕ) → after_calls n (one_more count) ≡ one_more (after_calls n count)
calls_more zero count = refl
calls_more (suc n) count = ap one_more (calls_more n count)

module _ {D W : Type 0} (g : Ghosts D) (w : Writers W) {s : _} where
  -- the writers of those that were lent tell their files, where the disk tells its own
  abbrev pub Tell : D → List (RetiredFile (Lent W s)) → Type 0
  Tell disk files = AllByRecursion (λ (file : RetiredFile (Lent W s)).
      ForSome file.lent (λ (lent : Lent W s). ForSome (g.told disk) (λ _. is_some (w.file lent.writer) ≡ true))) files

  module _ (file : RetiredFile (Lent W s)) (files : List (RetiredFile (Lent W s))) (old mid : D) (tell : Tell old (file ∷ files))
      (result : Result (Unit {0}) Failed) (one : RemovesOne g w file old mid result) where
    pub first_goes : Goes g (is_some file.lent) file.name old mid
    first_goes = one_goes g w file old mid result tell.0 one

    pub tell_then : Tell mid files
    tell_then = weaker files tell.1
      where
        weaker : (fs : List (RetiredFile (Lent W s))) → Tell old fs → Tell mid fs
        weaker [] all = tt
        weaker (f ∷ fs) all = (
          λ lent some state told. let was = told_before (g.told old) (g.told mid) state first_goes.untold told in
              all.0 lent some was.0 was.1,
          weaker fs all.1,
        )

  -- ---- all of it went

  pub all_untold : (files : List (RetiredFile (Lent W s))) (old new : D) → Tell old files → RemovesAll g w files old new
      → StaysUntold (g.told old) (g.told new)
  all_untold [] old new tell all = λ none. ap g.told all ∙ none
  all_untold (file ∷ files) old new tell all = λ none. all_untold files all.0 new (tell_then file files old all.0 tell (Ok tt) all.1)
      all.2 ((first_goes file files old all.0 tell (Ok tt) all.1).untold none)

  pub all_kept : (files : List (RetiredFile (Lent W s))) (old new : D) → Tell old files → RemovesAll g w files old new
      → KeepsAllBut (names_of files) (g.told old) (g.told new)
  all_kept [] old new tell all before now was is name apart =
      subst (λ (d : DiskState). IsKept name before d) (some_is before now (sym was ∙ sym (ap g.told all) ∙ is)) (kept_itself name before)
    where
      some_is : (a b : DiskState) → Some a ≡ Some b → a ≡ b
      some_is a b e = cc
  all_kept (file ∷ files) old new tell all before now was is name apart =
      let then = tell_then file files old all.0 tell (Ok tt) all.1 in
      let between = told_before (g.told all.0) (g.told new) now (all_untold files all.0 new then all.2) is in
      kept_then name before between.0 now
      (kept_beside file.name name before between.0
      ((first_goes file files old all.0 tell (Ok tt) all.1).beside before between.0 was between.1) apart.0)
      (all_kept files all.0 new then all.2 between.0 now between.1 is name apart.1)

  -- what is told then, in which the other files are as they were
  one_told : (file : RetiredFile (Lent W s)) (files : List (RetiredFile (Lent W s))) (old new : D) → Tell old (file ∷ files)
      → RemovesOne g w file old new (Ok tt) → (state : DiskState) → g.told old ≡ Some state → (now : DiskState) × (g.told new ≡ Some now)
  one_told file files old new tell one state told = by file.lent refl one.takes
    where
      by : (o : Option (Lent W s)) → file.lent ≡ o → TakesIfLent g w o file.name old one.mid → (now : DiskState) × (g.told new ≡ Some now)
      by None none takes = (
        without file.name state,
        one.removes.removed
            ∙ ap (option_map (without file.name)) (ap g.told takes ∙ told),
      )
      by (Some lent) some takes = taken (w.file lent.writer) (tell.0 lent some state told) takes
        where
          taken : (o : Option File) → is_some o ≡ true → Adopts g file.name o old one.mid → (now : DiskState) × (g.told new ≡ Some now)
          taken None tells adopts = absurd (false_true tells)
          taken (Some f) tells adopts = (
            without file.name (adopted file.name f state),
            one.removes.removed
                ∙ ap (option_map (without file.name)) (adopts.adopted state told f refl),
          )

  pub all_told : (files : List (RetiredFile (Lent W s))) (old new : D) → Tell old files → RemovesAll g w files old new → (name : Name)
      → AllByRecursion (λ (file : RetiredFile (Lent W s)). name ≢ file.name) files → (state : DiskState) → g.told old ≡ Some state
      → (now : DiskState) × (g.told new ≡ Some now) × (get now.standing name ≡ get state.standing name)
  all_told [] old new tell all name apart state told = (state, ap g.told all ∙ told, refl)
  all_told (file ∷ files) old new tell all name apart state told =
      let mid = one_told file files old all.0 tell all.1 state told in
      let rest = all_told files all.0 new (tell_then file files old all.0 tell (Ok tt) all.1) all.2 name apart.1 mid.0 mid.1 in
      (rest.0, rest.1, rest.2 ∙ ((first_goes file files old all.0 tell (Ok tt) all.1).beside state mid.0 told mid.1).standing name apart.0)

  -- the file is gone, and what was gone stays so
  one_free : (file : RetiredFile (Lent W s)) (old new : D) → RemovesOne g w file old new (Ok tt) → ForSome (g.told new) (IsFree file.name)
  one_free file old new one = one.removes.free

  free_then : (file : RetiredFile (Lent W s)) (files : List (RetiredFile (Lent W s))) (old new : D) → Tell old (file ∷ files)
      → RemovesOne g w file old new (Ok tt) → (name : Name) → ForSome (g.told old) (IsFree name) → ForSome (g.told new) (IsFree name)
  free_then file files old new tell one name free now is =
      let goes = first_goes file files old new tell (Ok tt) one in
      let was = told_before (g.told old) (g.told new) now goes.untold is in
      ⊎_elim
      (λ (same : name ≡ file.name). ap (get now.standing) same ∙ one_free file old new one now is)
      (λ (apart : name ≢ file.name). (goes.beside was.0 now was.1 is).standing name apart ∙ free was.0 was.1)
      (same_or_other name file.name)

  free_after : (files : List (RetiredFile (Lent W s))) (old new : D) → Tell old files → RemovesAll g w files old new
      → (name : Name) → ForSome (g.told old) (IsFree name) → ForSome (g.told new) (IsFree name)
  free_after [] old new tell all name free = subst (λ (d : D). ForSome (g.told d) (IsFree name)) (sym all) free
  free_after (file ∷ files) old new tell all name free = free_after files all.0 new (tell_then file files old all.0 tell (Ok tt) all.1)
      all.2 name (free_then file files old all.0 tell all.1 name free)

  pub all_free : (files : List (RetiredFile (Lent W s))) (old new : D) → Tell old files → RemovesAll g w files old new
      → ForSome (g.told new) (AreFree (names_of files))
  all_free [] old new tell all now is = tt
  all_free (file ∷ files) old new tell all now is =
      let then = tell_then file files old all.0 tell (Ok tt) all.1 in
      (free_after files all.0 new then all.2 file.name (one_free file old all.0 all.1) now is, all_free files all.0 new then all.2 now is)

  -- one call for each
  taken_calls : (file : RetiredFile (Lent W s)) (old mid : D) (o : Option (Lent W s)) → TakesIfLent g w o file.name old mid
      → g.calls mid ≡ g.calls old
  taken_calls file old mid None takes = ap g.calls takes
  taken_calls file old mid (Some lent) takes = takes.calls

  one_call : (file : RetiredFile (Lent W s)) (old new : D) (result : Result (Unit {0}) Failed) → RemovesOne g w file old new result
      → g.calls new ≡ one_more (g.calls old)
  one_call file old new result one = one.removes.as_call.calls ∙ ap one_more (taken_calls file old one.mid file.lent one.takes)

  pub all_calls : (files : List (RetiredFile (Lent W s))) (old new : D) → RemovesAll g w files old new
      → g.calls new ≡ after_calls (length files) (g.calls old)
  all_calls [] old new all = ap g.calls all
  all_calls (file ∷ files) old new all = all_calls files all.0 new all.2
      ∙ ap (after_calls (length files)) (one_call file old all.0 (Ok tt) all.1) ∙ calls_more (length files) (g.calls old)

  -- ---- it failed at one

  tell_front : (xs ys : List (RetiredFile (Lent W s))) (disk : D) → Tell disk (xs ++ ys) → Tell disk xs × Tell disk ys
  tell_front [] ys disk tell = (tt, tell)
  tell_front (x ∷ xs) ys disk tell = let rest = tell_front xs ys disk tell.1 in ((tell.0, rest.0), rest.1)

  tell_after : (files others : List (RetiredFile (Lent W s))) (old new : D) → Tell old files → Tell old others
      → RemovesAll g w files old new → Tell new others
  tell_after [] others old new tell more all = subst (λ (d : D). Tell d others) (sym all) more
  tell_after (file ∷ files) others old new tell more all = tell_after files others all.0 new
      (tell_then file files old all.0 tell (Ok tt) all.1) (tell_then file others old all.0 (tell.0, more) (Ok tt) all.1) all.2

  front_apart : (xs ys : List (RetiredFile (Lent W s))) (name : Name)
      → AllByRecursion (λ (other : Name). name ≢ other) (names_of (xs ++ ys))
      → AllByRecursion (λ (other : Name). name ≢ other) (names_of xs) × AllByRecursion (λ (other : Name). name ≢ other) (names_of ys)
  front_apart [] ys name apart = (tt, apart)
  front_apart (x ∷ xs) ys name apart = let rest = front_apart xs ys name apart.1 in ((apart.0, rest.0), rest.1)

  module _ (files : List (RetiredFile (Lent W s))) (old new : D) (name : Name) (stops : StopsRemoving g w files old new name)
      (tell : Tell old files) where
    pub tell_parts : Tell old stops.before × Tell old (stops.at ∷ stops.behind)
    tell_parts = tell_front stops.before (stops.at ∷ stops.behind) old
        (subst (λ (fs : List (RetiredFile (Lent W s))). Tell old fs) stops.files_are tell)

    pub tell_mid : Tell stops.mid (stops.at ∷ stops.behind)
    tell_mid = tell_after stops.before (stops.at ∷ stops.behind) old stops.mid tell_parts.0 tell_parts.1 stops.went

    last_goes : Goes g (is_some stops.at.lent) stops.at.name stops.mid new
    last_goes = first_goes stops.at stops.behind stops.mid new tell_mid (Err stops.failed) stops.stops

    pub stops_untold : StaysUntold (g.told old) (g.told new)
    stops_untold none = last_goes.untold (all_untold stops.before old stops.mid tell_parts.0 stops.went none)

    pub stops_kept : KeepsAllBut (names_of files) (g.told old) (g.told new)
    stops_kept before now was is other apart =
        let parts = front_apart stops.before (stops.at ∷ stops.behind) other
        (subst (λ (fs : List (RetiredFile (Lent W s))). AllByRecursion (λ (n : Name). other ≢ n) (names_of fs)) stops.files_are apart) in
        let between = told_before (g.told stops.mid) (g.told new) now last_goes.untold is in
        kept_then other before between.0 now
        (all_kept stops.before old stops.mid tell_parts.0 stops.went before between.0 was between.1 other parts.0)
        (kept_beside stops.at.name other between.0 now (last_goes.beside between.0 now between.1 is) parts.1.0)
