-- What an opening gives, by what was prepared and how the repairing went.
use Rattle.std.proofs.Common.{◌≡◌, ℕ, ◌+◌, ◌≤◌, List, [], ◌∷◌, ◌++◌, length, map, refl, sym, ap, subst, ◌∙◌, arith}
use Rattle.std.specs.Prelude.{Option, None, Some, Result, Ok, Err, IfErr}
use Rattle.std.specs.Option.{ForSome, option_map}
use Rattle.vl_disk.specs.Calls.{ChangesNothing}
use Rattle.vl_disk.specs.Crash.{Image, Unchanged}
use Rattle.vl_disk.specs.DiskState.{DiskState, IsLawful}
use Rattle.vl_disk.specs.Faults.{HasCause, NoneCounted, Rose, after_calls}
use Rattle.vl_disk.specs.Moments.{HoldsThroughout, goes_by, waits}
use Rattle.vl_disk.specs.Started.{IsRead}
use Rattle.vl_disk.specs.declared.name.Name.{Name}
use Rattle.vl_disk.specs.declared.watched.Watched.{Ghosts}
use Rattle.vl_engine_model.specs.declared.segment.Segment.{Segment}
use Rattle.vl_frame.specs.Runs.{HasFrame}
use Rattle.vl_manifest.specs.Grammar.{edits_grammar}
use Rattle.vl_manifest.specs.Making.{HasItsFrame}
use Rattle.vl_manifest.specs.Manifest.{manifest_bytes}
use Rattle.vl_manifest.specs.declared.edit.Edit.{Edit}
use Rattle.vl_model.specs.Formats.{manifest_format}
use Rattle.vl_manifest.specs.States.{whole_edits}
use Rattle.vl_manifest.specs.declared.fails.IoFail.{IoFail}
use Rattle.vl_manifest.specs.declared.fails.IoFail.TheVariants.{Disk}
use Rattle.vl_manifest.specs.declared.manifest_log.ManifestLog.{ManifestLog}
use Rattle.vl_manifest.specs.declared.state.ManifestState.{ManifestState}
use Rattle.vl_recover.specs.crash.Alike.{OpensAsOf}
use Rattle.vl_recover.specs.opening.Answers.{Recovery, Faulted, NoMemory, Recovered, Refused, UsedUp, AreStrayNames}
use Rattle.vl_recover.specs.opening.Answers.{Finds, HeldLog, Opened, calls_to_open, held_log, logs_then, opened_from}
use Rattle.vl_recover.specs.repairing.Deciding.{IsPrepared, opened_by}
use Rattle.vl_recover.specs.opening.Finding.{IsFaultAt, IsReadName}
use Rattle.vl_recover.specs.crash.Held.{HoldsStore, view_of}
use Rattle.vl_recover.specs.crash.Meanwhile.{FaultsAt, IsAsLong, IsFaultName, IsMeanwhile, IsRepaired, Repairing}
use Rattle.vl_recover.specs.crash.Meanwhile.{as_before, at_repaired, at_repairing, at_read}
use Rattle.vl_recover.specs.repairing.Repairing.{Plan, WhileRepairing, calls_of_plan, repaired, with_last}
use Rattle.vl_seglog.specs.declared.sealed.SealedLog.{SealedLog}
use Rattle.vl_recover.proofs.repairs.RepairingLaws.{plan_calls}
use Rattle.vl_recover.proofs.crash.RepairingMayOpen.{repairing_may_open}
use Rattle.vl_recover.specs.laws.repairing.RepairingOpens.{repaired_holds, repairing_opens}
use Rattle.vl_recover.specs.laws.crash.OneName as one
use Rattle.vl_recover.specs.opening.Opening.{FoundTable, Opening}
use Rattle.vl_recover.specs.repairing.PlanViews.{plan_view}
use Rattle.vl_recover.specs.opening.HeldFiles.{AreHeldFound, AreHeldLogs, IsReadyToGoOn}
use Rattle.vl_recover.specs.opening.Plans.{active_log, new_state}
use Rattle.vl_recover.specs.repairing.Holding.{IsHeld, listed}
use Rattle.vl_recover.specs.laws.opening.ReadImage.{read_image}
use Rattle.vl_recover.specs.opening.Results.{FailsWithoutFault, HasFailed, IsDiskFault, frozen_log, recovery_by}
use Rattle.vl_recover.specs.crash.Starts.{MayOpen}
use Rattle.vl_recover.specs.repairing.Steps.{IsFailAt, MakesSome, Repairs}
use Rattle.vl_recover.specs.declared.fails.OpenError.{OpenError}
use Rattle.vl_recover.specs.declared.fails.OpenError.TheVariants as why
use Rattle.vl_recover.specs.declared.prepared.Prepared.{Prepared}
use Rattle.vl_recover.proofs.repairs.GoingOn.{going_on}
use Rattle.vl_recover.proofs.repairs.LastHeld.{logs_held}
use Rattle.vl_recover.specs.laws.opening.OneFinding.{as_many, same_calls, same_logs_then, same_opening}

some_same : (a b : DiskState) → Some a ≡ Some b → a ≡ b
some_same a b e = cc

-- what is opened is what reads give
pub opened_same : (read : Image) (prepared : Prepared) (levels : List (List FoundTable)) (is : IsPrepared read prepared)
    → levels ≡ is.finds.opening.levels → opened_by prepared levels ≡ opened_from is.finds
opened_same read prepared levels is same =
    ap (λ (n : ℕ). of n prepared.state prepared.plan.manifest levels (map frozen_log prepared.frozen.items) prepared.active) is.number
    ∙ ap (λ (s : ManifestState). of is.finds.opening.number s prepared.plan.manifest levels (map frozen_log prepared.frozen.items)
    prepared.active) is.state
    ∙ ap (λ (m : ℕ). of is.finds.opening.number new m levels (map frozen_log prepared.frozen.items) prepared.active)
    (ap (λ (p : Plan). p.manifest) is.plan.is)
    ∙ ap (λ (l : List (List FoundTable)). of is.finds.opening.number new (is.finds.greatest.manifest + 1) l
    (map frozen_log prepared.frozen.items) prepared.active) same
    ∙ ap (λ (logs : List HeldLog). of is.finds.opening.number new (is.finds.greatest.manifest + 1) is.finds.opening.levels logs
    prepared.active) is.frozen
    ∙ ap (λ (a : ℕ). of is.finds.opening.number new (is.finds.greatest.manifest + 1) is.finds.opening.levels
    (map held_log is.finds.opening.logs) a) is.active
  where
    new : ManifestState
    new = new_state is.finds.greatest is.finds.opening.state

    of : ℕ → ManifestState → ℕ → List (List FoundTable) → List HeldLog → ℕ → Opened
    of number state manifest levels frozen active =
        record { number = number; state = state; manifest = manifest; levels = levels; frozen = frozen; active = active }

-- the new manifest's frame isn't too long
abbrev pub HasFrameOf : Prepared → Type 0
HasFrameOf prepared = HasFrame (edits_grammar manifest_format) (whole_edits prepared.state)

pub has_frame : (read : Image) (prepared : Prepared) (is : IsPrepared read prepared) → HasFrameOf prepared
    → HasFrame (edits_grammar manifest_format) (whole_edits (new_state is.finds.greatest is.finds.opening.state))
has_frame read prepared is has = subst (λ (s : ManifestState). HasFrame (edits_grammar manifest_format) (whole_edits s)) is.state has

-- it is so where the manifest was made, and where the disk failed
pub frame_is : (prepared : Prepared) (edits : List Edit) → edits ≡ whole_edits prepared.state
    → HasFrame (edits_grammar manifest_format) edits → HasFrameOf prepared
frame_is prepared edits same has = subst (λ (es : List Edit). HasFrame (edits_grammar manifest_format) es) same has

pub frame_failed : (prepared : Prepared) (edits : List Edit) (name : Name) (result : Result ManifestLog IoFail)
    → edits ≡ whole_edits prepared.state
    → result ≡ Err (Disk name) → HasItsFrame edits result → HasFrameOf prepared
frame_failed prepared edits name result same is has =
    subst (λ (es : List Edit). HasFrame (edits_grammar manifest_format) es) same
    (subst (λ (r : Result ManifestLog IoFail). HasItsFrame edits r) is has)

-- the repairing that was prepared
abbrev pub repairing_of : (read : Image) (prepared : Prepared) → IsPrepared read prepared → HasFrameOf prepared → Repairing read
repairing_of read prepared is has = record {
  found = is.finds;
  unused = is.unused;
  has = has_frame read prepared is has;
  plan = plan_view prepared.plan;
  is = is.plan;
}

-- a refusal is no failure
pub refused_fine : (recovery_of : Recovery) → FailsWithoutFault recovery_of → HasFailed recovery_of → ⊥
refused_fine (Recovered opened) refused failed = refused
refused_fine (Refused why) refused failed = failed
refused_fine (UsedUp counter) refused failed = failed
refused_fine NoMemory refused failed = failed
refused_fine (Faulted name) refused failed = refused

pub refused_disk : (read_faults : ℕ) (recovery_of : Recovery) → FailsWithoutFault recovery_of → IsDiskFault read_faults recovery_of → ⊥
refused_disk n (Recovered opened) refused failed = refused
refused_disk n (Refused why) refused failed = failed
refused_disk n (UsedUp counter) refused failed = failed
refused_disk n NoMemory refused failed = failed
refused_disk n (Faulted name) refused failed = refused

-- a fault of the disk was counted where the reader had counted none
pub fault_counted : (before mid now read_faults : ℕ) → mid ≡ before → NoneCounted read_faults → HasCause mid now (Unit {0})
    → HasCause before now (NoneCounted read_faults)
fault_counted before mid now read_faults same none cause = record {
  later = (let later = cause.later in omega (arith, later, same));
  rose = λ _. subst (λ (n : ℕ). Rose n now) same (cause.rose tt);
  steady = λ not. absurd (not none);
}

-- a fault of the disk was counted while it was repaired
pub fault_of : {D : Type 0} (g : Ghosts D) (plan : Plan) (mid new : D) (result : Result ManifestLog IoFail) (name : Name)
    → result ≡ Err (Disk name)
    → Repairs g plan mid new result → HasCause (g.faults mid) (g.faults new) (Unit {0})
fault_of g plan mid new result name failed repairs = (subst (λ (r : Result ManifestLog IoFail). Repairs g plan mid new r) failed
    repairs).cause

-- where the disk failed while it was read
pub read_faults : (read : Image) (told : Option DiskState) (state : DiskState) (before now : ℕ) → told ≡ Some state → now ≡ before
    → (why : OpenError) → IsFaultAt told why → FaultsAt read state before now (recovery_by why)
read_faults read told state before now is same why.NotAStore at = tt
read_faults read told state before now is same (why.NewerFormat format) at = tt
read_faults read told state before now is same (why.Damaged name place) at = tt
read_faults read told state before now is same (why.Exhausted counter) at = tt
read_faults read told state before now is same why.NoMemory at = tt
read_faults read told state before now is same (why.Disk name) at = at_read (subst (λ (t : Option DiskState). IsReadName t name) is at) same

-- and while it was repaired
pub repaired_faults : (read : Image) (state : DiskState) (before begun now : ℕ) → begun ≡ before → (prepared : Prepared)
    → IsPrepared read prepared → HasFrameOf prepared
    → (result : Result ManifestLog IoFail) (name : Name) → result ≡ Err (Disk name)
    → IfErr result (IsFailAt (plan_view prepared.plan) begun now) → IsFaultName read state before now name
repaired_faults read state before begun now same prepared is has result name failed at =
    at_repaired (repairing_of read prepared is has)
    (subst (λ (n : ℕ). IsFailAt (plan_view prepared.plan) n now (Disk name)) same
    (subst (λ (r : Result ManifestLog IoFail). IfErr r (IsFailAt (plan_view prepared.plan) begun now)) failed at))

-- a disk that told nothing still doesn't, once it was repaired
pub still_untold : {D : Type 0} (g : Ghosts D) (old mid : D) {failed : Type 0} → ChangesNothing g old mid failed
    → (new : D) (plan : Plan) (log : ManifestLog) → Repairs g plan mid new (Ok log) → g.told old ≡ None → g.told new ≡ None
still_untold g old mid no_change new plan log repairs none = repairs.done ∙ ap (option_map (repaired plan)) (no_change.told ∙ none)

-- nothing was changed
module _ {D : Type 0} (g : Ghosts D) (only_now : (disk : D) (state other : DiskState) → g.told disk ≡ Some state
    → g.states_since disk (g.moment disk) other → other ≡ state)
    (old mid : D) {failed : Type 0} (no_change : ChangesNothing g old mid failed) (state : DiskState) (told : g.told old ≡ Some state) where
  pub still_tells : (now : DiskState) × (g.told mid ≡ Some now)
  still_tells = (state, no_change.told ∙ told)

  -- so it was all the time
  pub still_so : (P : DiskState → Type 0) → P state → HoldsThroughout g old mid P
  still_so P here =
      goes_by g P old old mid state Unchanged told (waits g P only_now old state told here) no_change.time
      (λ now same. subst P (sym same) here)

  pub unchanged_through : HoldsThroughout g old mid (OpensAsOf state)
  unchanged_through = still_so (OpensAsOf state) (one.as_before state)

  pub unchanged_meanwhile : (read : Image) → HoldsThroughout g old mid (IsMeanwhile read state)
  unchanged_meanwhile read = still_so (IsMeanwhile read state) (as_before refl)

  pub unchanged_again : MayOpen state → (now : DiskState) → g.told mid ≡ Some now → MayOpen now
  unchanged_again may now ends = subst MayOpen (some_same state now (sym (no_change.told ∙ told) ∙ ends)) may

  -- and then the store was repaired
  module _ (new : D) (prepared : Prepared) (result : Result ManifestLog IoFail) (repairs : Repairs g (plan_view prepared.plan) mid new
      result) where
    abbrev plan : Plan
    plan = plan_view prepared.plan

    pub repaired_tells : (now : DiskState) × (g.told new ≡ Some now)
    repaired_tells = repairs.tells state (no_change.told ∙ told)

    so_throughout : (P : DiskState → Type 0) → P state → ((now : DiskState) → WhileRepairing plan state now → P now)
        → HoldsThroughout g old new P
    so_throughout P here meanwhile = goes_by g P old mid new state (WhileRepairing plan) (no_change.told
        ∙ told) (still_so P here) repairs.time meanwhile

    pub repaired_meanwhile : HasFrameOf prepared → (read : Image) → IsPrepared read prepared
        → HoldsThroughout g old new (IsMeanwhile read state)
    repaired_meanwhile has read is = so_throughout (IsMeanwhile read state) (as_before refl)
        (λ now during. at_repairing (repairing_of read prepared is has) during)

    module _ (has : HasFrameOf prepared) (lawful : (disk : D) (s : DiskState) → g.told disk ≡ Some s → IsLawful s) (may : MayOpen state)
        (ready : (read : Image) → IsRead read state → IsPrepared read prepared) where
      pub repaired_through : HoldsThroughout g old new (OpensAsOf state)
      repaired_through =
          let (read, is_read) = read_image state in
          let is = ready read is_read in
          so_throughout (OpensAsOf state) (one.as_before state)
          (λ now during. repairing_opens state now is.finds plan (record {
            lawful = lawful old state told;
            may = may;
            is_read = is_read;
            left = is.unused;
            has = has_frame read prepared is has;
          }) is.plan during)

      -- a store may be opened on it again
      pub repaired_again : ((disk : D) (s : DiskState) (t : ℕ) → g.told disk ≡ Some s → t ≤ g.moment disk → g.states_since disk t s)
          → (now : DiskState) → g.told new ≡ Some now → MayOpen now
      repaired_again counts_now now ends =
          let (read, is_read) = read_image state in
          let is = ready read is_read in
          let all = repaired_meanwhile has read is in
          by (all.each now (counts_now new now (g.moment old) ends all.time.later)) read is_read
        where
          by : {read : Image} → IsMeanwhile read state now → (r : Image) → IsRead read state → MayOpen now
          by (as_before same) r is_read = subst MayOpen (sym same) may
          by (at_repairing m during) r is_read =
              repairing_may_open state now m.found m.plan
              (record { lawful = lawful old state told; may = may; is_read = is_read; left = m.unused; has = m.has }) m.is
              (lawful new now ends) during

  -- to the end
  module _ (new : D) (prepared : Prepared) (x : ManifestLog) (repairs : Repairs g (plan_view prepared.plan) mid new (Ok x))
      (read : Image) (is_read : IsRead read state) (is : IsPrepared read prepared) (has : HasFrameOf prepared) (found : Finds read) where
    abbrev done : Plan
    done = plan_view prepared.plan

    pub store_held : IsLawful state → MayOpen state → (now : DiskState) → g.told new ≡ Some now → (given : ManifestState)
        → given ≡ prepared.state
        → HoldsStore given (view_of found) (logs_then found) now
    store_held lawful may now ends given same =
        let now_is : repaired done state ≡ now = some_same (repaired done state) now (sym (repairs.done
        ∙ ap (option_map (repaired done)) (no_change.told ∙ told)) ∙ ends) in
        subst (λ (s : ManifestState). HoldsStore s (view_of found) (logs_then found) now) (sym (same ∙ is.state))
        (subst (λ (o : Opening). HoldsStore state_then (record { image = read; levels = o.levels }) (logs_then found) now)
        (same_opening read is.finds found)
        (subst (λ (logs : List Segment). HoldsStore state_then (view_of is.finds) logs now) (same_logs_then read is.finds found)
        (subst (λ (d : DiskState). HoldsStore state_then (view_of is.finds) (logs_then is.finds) d) now_is
        (repaired_holds state is.finds done (record {
          lawful = lawful;
          may = may;
          is_read = is_read;
          left = is.unused;
          has = has_frame read prepared is has;
        }) is.plan))))
      where
        state_then : ManifestState
        state_then = new_state is.finds.greatest is.finds.opening.state

    pub disk_repaired : IsRepaired read state (g.told new)
    disk_repaired = record {
      repairing = repairing_of read prepared is has;
      told = repairs.done ∙ ap (option_map (repaired done)) (no_change.told ∙ told);
    }

    pub calls_counted : (strays : List Name) → AreStrayNames read found.opening strays
        → g.calls new ≡ after_calls (calls_to_open found (length strays)) (g.calls old)
    calls_counted strays are =
        let many : length done.strays ≡ length strays = as_many read found.opening done.strays strays
        (subst (λ (o : Opening). AreStrayNames read o done.strays) (same_opening read is.finds found) is.plan.strays) are in
        repairs.calls
        ∙ ap (λ (n : ℕ). after_calls n (g.calls mid)) (plan_calls is.finds done is.plan ∙ ap (calls_to_open is.finds) many
        ∙ same_calls read is.finds found (length strays))
        ∙ ap (after_calls (calls_to_open found (length strays))) no_change.calls

  -- and where the disk failed or memory ran out
  module _ (new : D) (prepared : Prepared) (result : Result ManifestLog IoFail) (e : IoFail) (is_err : result ≡ Err e)
      (repairs : Repairs g (plan_view prepared.plan) mid new result) (read : Image) (is_read : IsRead read state)
      (is : IsPrepared read prepared) (found : Finds read) where
    pub calls_stopped : (strays : List Name) → AreStrayNames read found.opening strays
        → MakesSome (calls_to_open found (length strays)) (g.calls old) (g.calls new)
    calls_stopped strays are =
        let plan : Plan = plan_view prepared.plan in
        let many : length plan.strays ≡ length strays = as_many read found.opening plan.strays strays
        (subst (λ (o : Opening). AreStrayNames read o plan.strays) (same_opening read is.finds found) is.plan.strays) are in
        let counted : calls_of_plan plan ≡ calls_to_open found (length strays) =
        plan_calls is.finds plan is.plan ∙ ap (calls_to_open is.finds) many ∙ same_calls read is.finds found (length strays) in
        let stops : MakesSome (calls_of_plan plan) (g.calls mid) (g.calls new) =
        (subst (λ (r : Result ManifestLog IoFail). Repairs g plan mid new r) is_err repairs).stops in (
          stops.0,
          subst (λ (n : ℕ). stops.0 ≤ n) counted stops.1,
          stops.2 ∙ ap (after_calls stops.0) no_change.calls,
        )

-- none where nothing was changed
pub none_made : {D : Type 0} (g : Ghosts D) (old new : D) (failed : Type 0) (count : ℕ) → ChangesNothing g old new failed
    → MakesSome count (g.calls old) (g.calls new)
none_made g old new failed count no_change = (0, omega arith, no_change.calls)

-- the manifest is the one that was made
pub as_long : (plan : Plan) (state given : ManifestState) (log end : ManifestLog) → plan.piece ≡ manifest_bytes plan.manifest
    (whole_edits state ∷ [])
    → log ≡ record { number = plan.manifest; length = length plan.piece } → end ≡ log → given ≡ state → IsAsLong given end
as_long plan state given log end piece is same says =
    subst (λ (l : ManifestLog). IsAsLong given l) (sym (same ∙ is))
    (subst (λ (s : ManifestState). length plan.piece ≡ length (manifest_bytes plan.manifest (whole_edits s ∷ []))) (sym says)
    (ap length piece))

-- the disk is ready for steps on files
pub goes_on_ready : {D : Type 0} (g : Ghosts D) (old mid new : D) {failed : Type 0} → ChangesNothing g old mid failed
    → (prepared : Prepared) (x : ManifestLog)
    → Repairs g (plan_view prepared.plan) mid new (Ok x)
    → ((state : DiskState) (read : Image) → g.told old ≡ Some state → IsRead read state → IsPrepared read prepared)
    → (active manifest : ℕ) (given : ManifestState) → active ≡ prepared.active → manifest ≡ prepared.plan.manifest → given ≡ prepared.state
    → ForSome (g.told new) (IsReadyToGoOn active manifest given)
goes_on_ready g old mid new no_change prepared x repairs ready active manifest given active_is manifest_is given_is now ends = by
    (g.told old) refl
  where
    none_some : (d : DiskState) → None ≡ Some d → ⊥
    none_some d e = cc

    by : (told : Option DiskState) → g.told old ≡ told → IsReadyToGoOn active manifest given now
    by None told = absurd (none_some now (sym (repairs.done ∙ ap (option_map (repaired (plan_view prepared.plan))) (no_change.told
        ∙ told)) ∙ ends))
    by (Some state) told =
        let (read, is_read) = read_image state in
        let is = ready state read told is_read in
        let now_is : repaired (plan_view prepared.plan) state ≡ now = some_same (repaired (plan_view prepared.plan) state) now
        (sym (repairs.done ∙ ap (option_map (repaired (plan_view prepared.plan))) (no_change.told ∙ told)) ∙ ends) in
        subst (IsReadyToGoOn active manifest given) now_is
        (subst (λ (k : ℕ). IsReadyToGoOn k manifest given (repaired (plan_view prepared.plan) state)) (sym (active_is ∙ is.active))
        (subst (λ (m : ℕ). IsReadyToGoOn (active_log is.finds.greatest is.finds.opening.state is.finds.logs) m given
        (repaired (plan_view prepared.plan) state))
        (sym (manifest_is ∙ ap (λ (p : Plan). p.manifest) is.plan.is))
        (subst (λ (s : ManifestState). IsReadyToGoOn (active_log is.finds.greatest is.finds.opening.state is.finds.logs)
        (is.finds.greatest.manifest + 1) s
        (repaired (plan_view prepared.plan) state)) (sym (given_is ∙ is.state))
        (going_on is.finds state is_read (plan_view prepared.plan) is.plan))))

-- it holds its logs
pub sealed_held : {D H : Type 0} (g : Ghosts D) (bytes_of : H → Option (List ℕ)) (old mid : D) {failed : Type 0}
    → ChangesNothing g old mid failed
    → (state : DiskState) → g.told old ≡ Some state → (read : Image) → IsRead read state
    → (prepared : Prepared) (is : IsPrepared read prepared)
    → (found : Finds read) (sealed : List (SealedLog H))
    → ((finds : Finds read) → AreHeldFound bytes_of finds sealed) → (log : Option (SealedLog H))
    → ForSome (g.told mid) (λ disk. IsHeld bytes_of prepared.plan.hold log (with_last (plan_view prepared.plan) disk))
    → (all : List (SealedLog H)) → all ≡ sealed ++ listed log → AreHeldLogs bytes_of found all
sealed_held g bytes_of old mid no_change state told read is_read prepared is found sealed are log held all all_is =
    logs_held bytes_of read state is_read is.finds found (plan_view prepared.plan) is.plan sealed (are is.finds) prepared.plan.hold
    is.hold log
    (held state (no_change.told ∙ told)) all all_is
