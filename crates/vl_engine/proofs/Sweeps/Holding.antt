-- Over a disk that holds the layout: each file that goes leaves it held, and what a crash leaves meanwhile shows the history.
use Rattle.std.specs.Prelude.{◌≡◌, ◌≢◌, ◌++◌, ℕ, List, [], ◌∷◌, Option, None, Some, Ok, Err, is_some, true}
use Rattle.std.specs.Prelude.{false, refl}
use Rattle.std.specs.FinMap.{get}
use Rattle.std.specs.List.{AllByRecursion}
use Rattle.std.specs.Option.{ForSome, option_map}
use Rattle.std.proofs.Common.{sym, subst, ap, ◌∙◌, ⊎_elim}
use Rattle.vl_compact.specs.declared.files.Lent.{Lent}
use Rattle.vl_engine_laws.specs.Carries.{CrashesShow, Tells}
use Rattle.vl_engine_laws.specs.Held.{AreBegun, Base, Holds, HoldsBase, IsBase}
use Rattle.vl_engine_laws.specs.Pointed.{layout_logs}
use Rattle.vl_engine_laws.specs.Shown.{LeavesBetween}
use Rattle.vl_engine_laws.specs.laws.Carrying.{IsWatched}
use Rattle.vl_engine_laws.specs.laws.HeldLaws.{held_opens_again}
use Rattle.vl_engine_laws.specs.laws.IdleLaws.{idle_base, idle_goes, idle_leaves, without_idle}
use Rattle.vl_engine_laws.specs.laws.KeptLaws.{log_table}
use Rattle.vl_disk.specs.Changes.{without_elsewhere, without_removed}
use Rattle.vl_disk.specs.Crash.{Image, MayLeave, WhileRemoving, last_file}
use Rattle.vl_disk.specs.Disk.{IsChangedBy}
use Rattle.vl_disk.specs.DiskState.{DiskState, File, IsLawful, without}
use Rattle.vl_disk.specs.Lending.{Adopts, WhileAdopting, adopted}
use Rattle.vl_disk.specs.Moments.{HoldsThroughout, goes_by}
use Rattle.vl_disk.specs.declared.errors.Failed.{Failed}
use Rattle.vl_disk.specs.declared.name.Name.{Name}
use Rattle.vl_disk.specs.declared.name.Name.TheVariants.{Table}
use Rattle.vl_disk.specs.declared.watched.Watched.{Ghosts}
use Rattle.vl_disk.specs.declared.writer.Writer.{Ghosts as Writers}
use Rattle.vl_disk.specs.laws.NameMap.{get_inserted, get_inserted_other, get_removed_other, same_or_other}
use Rattle.vl_steps.specs.laws.Leaving.{manifest_held}
use Rattle.vl_space.specs.laws.Sweeps.Going.{Tell, tell_then}
use Rattle.vl_space.specs.Sweeping.{RemovesAll, RemovesOne, TakesIfLent}
use Rattle.vl_space.specs.laws.SweepHolds.{IsIdleLog, IsOutside, MayGo, adopting_leaves_so, base_now, removed_holds, removing_leaves}
use Rattle.vl_space.specs.laws.SweepHolds.{still_may, taken_holds, taken_opens_again, taking_leaves}
use Rattle.vl_engine_model.specs.Tidy.{IsTidy}
use Rattle.vl_engine_model.specs.declared.layout.Layout.{Layout}
use Rattle.vl_model.specs.History.{History}
use Rattle.vl_pins.specs.declared.retired_file.RetiredFile.{RetiredFile}
use Rattle.vl_recover.specs.crash.Starts.{MayOpen}
use Rattle.vl_recover.specs.laws.opening.HeldLaws.{held_state}
use Rattle.vl_recover.specs.opening.Opening.{Opening, Opens}

false_true : false ≡ true → ⊥
false_true e = cc

-- ---- tables that were begun

last_none : (file removed : Option File) → last_file file removed ≡ None → (file ≡ None) × (removed ≡ None)
last_none None removed none = (refl, none)
last_none (Some f) removed none = absurd (never none)
  where
    never : Some f ≡ None → ⊥
    never e = cc

begun_without : (name : Name) (from to : ℕ) (disk : DiskState) → AreBegun from to disk → AreBegun from to (without name disk)
begun_without name from to disk begun n least less nowhere = ⊎_elim
    (λ (same : Table n ≡ name).
    let none = last_none (get disk.standing name) (get disk.removed name)
    (sym (without_removed name disk) ∙ ap (get (without name disk).removed) (sym same) ∙ nowhere.never) in
    begun n least less (record { free = ap (get disk.standing) same ∙ none.0; never = ap (get disk.removed) same ∙ none.1 }))
    (λ (apart : Table n ≢ name). begun n least less (record {
      free = sym ((without_elsewhere name disk).standing (Table n) apart) ∙ nowhere.free;
      never = sym ((without_elsewhere name disk).removed (Table n) apart) ∙ nowhere.never;
    }))
    (same_or_other (Table n) name)

begun_adopted : (name : Name) (file : File) (from to : ℕ) (disk : DiskState) → AreBegun from to disk
    → AreBegun from to (adopted name file disk)
begun_adopted name file from to disk begun n least less nowhere = ⊎_elim
    (λ (same : Table n ≡ name). never (sym (get_inserted disk.standing name file)
    ∙ ap (get (adopted name file disk).standing) (sym same) ∙ nowhere.free))
    (λ (apart : Table n ≢ name). begun n least less (record {
      free = sym (get_inserted_other disk.standing name file (Table n) apart) ∙ nowhere.free;
      never = sym (get_removed_other disk.removed name (Table n) apart) ∙ nowhere.never;
    }))
    (same_or_other (Table n) name)
  where
    never : {f : File} → Some f ≡ None → ⊥
    never e = cc

-- ---- a disk that holds the layout

module _ {D : Type 0} (g : Ghosts D) (watched : IsWatched g)
    (lawful : (disk : D) (state : DiskState) → g.told disk ≡ Some state → IsLawful state) (first : Base) (l : Layout) (h : History)
    (tidy : IsTidy (layout_logs l) l h) (start : D) where
  -- a base of the layout with the same manifest
  pub record IsLikeFirst (b : Base) : Type 0 where
    pub is_base : IsBase b l h
    pub manifest : b.manifest ≡ first.manifest
    pub state : b.state ≡ first.state

  -- It still does, and from the start on each crash shows the history.
  pub record Kept (disk : D) : Type 0 where
    pub base : Base
    pub like : IsLikeFirst base
    pub state : DiskState
    pub told : g.told disk ≡ Some state
    pub holds : Holds base l state
    pub begun : AreBegun base.state.next_table l.next_table state
    pub shows : HoldsThroughout g start disk (LeavesBetween h h)

  module _ {W : Type 0} (w : Writers W) {s : _} where
    -- ---- one file

    module _ (file : RetiredFile (Lent W s)) (old : D) (kept : Kept old) (may : MayGo kept.base l file.name)
        (tell : ForSome file.lent (λ (lent : Lent W s). ForSome (g.told old) (λ _. is_some (w.file lent.writer) ≡ true))) where
      -- Where the disk stands while it goes: it was taken back before, if it was lent. Its removal may take a log from the base.
      record Between (mid : D) : Type 0 where
        state : DiskState
        told : g.told mid ≡ Some state
        shows : HoldsThroughout g start mid (LeavesBetween h h)
        leaves : (now : DiskState) → WhileRemoving file.name state now → LeavesBetween h h now
        base : Base
        like : IsLikeFirst base
        stood : HoldsBase base state
        holds : Holds base l (without file.name state)
        begun : AreBegun base.state.next_table l.next_table (without file.name state)
        opens : MayOpen state
        others : (name : Name) → name ≢ file.name → MayGo kept.base l name → MayGo base l name

      module _ (out : IsOutside kept.base l file.name) where
        between_stood : Between old
        between_stood = record {
          state = kept.state;
          told = kept.told;
          shows = kept.shows;
          leaves = removing_leaves kept.base l h file.name out kept.like.is_base tidy kept.state kept.holds;
          base = kept.base;
          like = kept.like;
          stood = kept.holds.base;
          holds = removed_holds kept.base l h file.name out kept.like.is_base tidy kept.state kept.holds;
          begun = begun_without file.name kept.base.state.next_table l.next_table kept.state kept.begun;
          opens = held_opens_again kept.base l h kept.like.is_base kept.state tidy.levels kept.holds;
          others = λ name apart other. other;
        }

        between_lent : (n : ℕ) → file.name ≡ Table n → (mid : D) (o : Option File) → is_some o ≡ true → Adopts g file.name o old mid
            → Between mid
        between_lent n is mid None some adopts = absurd (false_true some)
        between_lent n is mid (Some f) some adopts = let told_mid = adopts.adopted kept.state kept.told f refl in
            let whole = lawful mid (adopted file.name f kept.state) told_mid in
            record {
              state = adopted file.name f kept.state;
              told = told_mid;
              shows = goes_by g (LeavesBetween h h) start old mid kept.state (WhileAdopting file.name (Some f)) kept.told kept.shows
                  adopts.time
                  (adopting_leaves_so kept.base l h file.name out kept.like.is_base tidy kept.state kept.holds f);
              leaves = taking_leaves kept.base l h file.name out kept.like.is_base tidy kept.state kept.holds f;
              base = kept.base;
              like = kept.like;
              stood = base_now kept.base l h file.name out kept.like.is_base tidy kept.state kept.holds
                  (adopted file.name f kept.state) (record {
                    standing = get_inserted_other kept.state.standing file.name f;
                    removed = get_removed_other kept.state.removed file.name;
                  });
              holds = taken_holds kept.base l h file.name out kept.like.is_base tidy kept.state kept.holds f whole;
              begun = begun_without file.name kept.base.state.next_table l.next_table (adopted file.name f kept.state)
                  (begun_adopted file.name f kept.base.state.next_table l.next_table kept.state kept.begun);
              opens = taken_opens_again kept.base l h file.name out kept.like.is_base tidy kept.state kept.holds f n is whole;
              others = λ name apart other. other;
            }

        between_outside : ForSome file.lent (λ (lent : Lent W s). file.name ≡ Table lent.number) → (mid : D)
            → TakesIfLent g w file.lent file.name old mid → Between mid
        between_outside named mid takes = by file.lent refl takes
          where
            by : (o : Option (Lent W s)) → file.lent ≡ o → TakesIfLent g w o file.name old mid → Between mid
            by None none same = subst Between (sym same) between_stood
            by (Some lent) some adopts = between_lent lent.number (named lent some) mid (w.file lent.writer)
                (tell lent some kept.state kept.told) adopts

      module _ (log : IsIdleLog kept.base l file.name) where
        between_idle : Between old
        between_idle = record {
          state = kept.state;
          told = kept.told;
          shows = kept.shows;
          leaves = λ now during. idle_leaves log.number kept.base l h log.idle kept.like.is_base tidy kept.state kept.holds log.flushed
              now (subst (λ (name : Name). WhileRemoving name kept.state now) log.name_is during);
          base = without_idle log.number kept.base;
          like = record {
            is_base = idle_base log.number kept.base l h kept.like.is_base;
            manifest = kept.like.manifest;
            state = kept.like.state;
          };
          stood = record { has = kept.holds.base.has; above = kept.holds.base.above };
          holds = subst (λ (name : Name). Holds (without_idle log.number kept.base) l (without name kept.state)) (sym log.name_is)
              (idle_goes log.number kept.base l h log.idle kept.like.is_base tidy kept.state kept.holds log.flushed);
          begun = begun_without file.name kept.base.state.next_table l.next_table kept.state kept.begun;
          opens = held_opens_again kept.base l h kept.like.is_base kept.state tidy.levels kept.holds;
          others = λ name apart. still_may log.number kept.base l name (λ same. apart (same ∙ sym log.name_is));
        }

        between_passed : ForSome file.lent (λ (lent : Lent W s). file.name ≡ Table lent.number) → (mid : D)
            → TakesIfLent g w file.lent file.name old mid → Between mid
        between_passed named mid takes = by file.lent refl takes
          where
            by : (o : Option (Lent W s)) → file.lent ≡ o → TakesIfLent g w o file.name old mid → Between mid
            by None none same = subst Between (sym same) between_idle
            by (Some lent) some adopts = absurd (log_table log.number lent.number (sym log.name_is ∙ named lent some))

      between : ForSome file.lent (λ (lent : Lent W s). file.name ≡ Table lent.number) → (mid : D)
          → TakesIfLent g w file.lent file.name old mid
          → Between mid
      between named mid takes = ⊎_elim
          (λ (out : IsOutside kept.base l file.name). between_outside out named mid takes)
          (λ (log : IsIdleLog kept.base l file.name). between_passed log named mid takes)
          may

      module _ (named : ForSome file.lent (λ (lent : Lent W s). file.name ≡ Table lent.number)) (new : D) where
        pub goes_kept : RemovesOne g w file old new (Ok tt) → Kept new
        goes_kept one = let mid = between named one.mid one.takes in record {
          base = mid.base;
          like = mid.like;
          state = without file.name mid.state;
          told = one.removes.removed ∙ ap (option_map (without file.name)) mid.told;
          holds = mid.holds;
          begun = mid.begun;
          shows = goes_by g (LeavesBetween h h) start one.mid new mid.state (WhileRemoving file.name) mid.told mid.shows
              one.removes.as_call.time mid.leaves;
        }

        -- another one may go that could before
        pub goes_others : (one : RemovesOne g w file old new (Ok tt)) → (name : Name) → name ≢ file.name → MayGo kept.base l name
            → MayGo (goes_kept one).base l name
        unfolding goes_kept
        goes_others one = (between named one.mid one.takes).others

        -- where it failed
        module _ (failed : Failed) (one : RemovesOne g w file old new (Err failed)) where
          mid_there : Between one.mid
          mid_there = between named one.mid one.takes

          pub fails_shows : CrashesShow g start new h h
          fails_shows = goes_by g (LeavesBetween h h) start one.mid new mid_there.state (WhileRemoving file.name) mid_there.told
              mid_there.shows
              one.removes.as_call.time mid_there.leaves

          pub fails_opens : Tells g new MayOpen
          fails_opens = ⊎_elim
              (λ (same : g.told new ≡ g.told one.mid). (mid_there.state, same ∙ mid_there.told, mid_there.opens))
              (λ (changed : IsChangedBy (without file.name) (g.told one.mid) (g.told new)). (
                without file.name mid_there.state,
                changed ∙ ap (option_map (without file.name)) mid_there.told,
                held_opens_again mid_there.base l h mid_there.like.is_base (without file.name mid_there.state) tidy.levels mid_there.holds,
              ))
              one.removes.failed

          some_is : (x y : DiskState) → Some x ≡ Some y → x ≡ y
          some_is x y e = cc

          -- the manifest stands as it did,
          fails_base : (now : DiskState) → g.told new ≡ Some now → HoldsBase mid_there.base now
          fails_base now told = ⊎_elim
              (λ (same : g.told new ≡ g.told one.mid).
              subst (HoldsBase mid_there.base) (some_is mid_there.state now (sym mid_there.told ∙ sym same ∙ told)) mid_there.stood)
              (λ (changed : IsChangedBy (without file.name) (g.told one.mid) (g.told new)).
              subst (HoldsBase mid_there.base) (some_is (without file.name mid_there.state) now
              (sym (changed ∙ ap (option_map (without file.name)) mid_there.told) ∙ told)) mid_there.holds.base)
              one.removes.failed

          -- so that whatever a crash leaves opens with its state, if it opens
          pub fails_state : (now : DiskState) → g.told new ≡ Some now → (image : Image) (o : Opening) → MayLeave now image
              → Opens image (Ok o) → o.state ≡ first.state
          fails_state now told image o left opens =
              held_state mid_there.base.state now
              (manifest_held mid_there.base l h mid_there.like.is_base now (fails_base now told)) image o left opens ∙ mid_there.like.state

    -- ---- a run of them

    -- The files may go, no two have one name, and those that were lent are tables.
    abbrev pub AreFit : Base → List (RetiredFile (Lent W s)) → Type 0
    AreFit b [] = Unit {0}
    AreFit b (file ∷ files) = MayGo b l file.name × ForSome file.lent (λ (lent : Lent W s). file.name ≡ Table lent.number)
        × AllByRecursion (λ (other : RetiredFile (Lent W s)). other.name ≢ file.name) files × AreFit b files

    fit_then : (b then : Base) (name : Name) (files : List (RetiredFile (Lent W s)))
        → ((other : Name) → other ≢ name → MayGo b l other → MayGo then l other)
        → AllByRecursion (λ (other : RetiredFile (Lent W s)). other.name ≢ name) files → AreFit b files → AreFit then files
    fit_then b then name [] others apart fit = tt
    fit_then b then name (file ∷ files) others apart (may, named, distinct, rest) =
        (others file.name apart.0 may, named, distinct, fit_then b then name files others apart.1 rest)

    -- It holds the layout, and these files may go.
    pub record MayLose (disk : D) (files : List (RetiredFile (Lent W s))) : Type 0 where
      pub kept : Kept disk
      pub fit : AreFit kept.base files

    pub all_keep : (files others : List (RetiredFile (Lent W s))) (old new : D) → MayLose old (files ++ others) → Tell g w old files
        → RemovesAll g w files old new → MayLose new others
    all_keep [] others old new leaves tell all = subst (λ (d : D). MayLose d others) (sym all) leaves
    all_keep (file ∷ files) others old new leaves tell all =
        let (may, named, distinct, rest) = leaves.fit in
        all_keep files others all.0 new (record {
          kept = goes_kept file old leaves.kept may tell.0 named all.0 all.1;
          fit = fit_then leaves.kept.base (goes_kept file old leaves.kept may tell.0 named all.0 all.1).base file.name (files ++ others)
              (goes_others file old leaves.kept may tell.0 named all.0 all.1) distinct rest;
        }) (tell_then g w file files old all.0 tell (Ok tt) all.1) all.2
