-- What a flush keeps so that an engine may go on: the files that stand, and the numbers.
use Rattle.std.specs.Prelude.{◌≡◌, ◌≢◌, ◌≤◌, ◌<◌, ℕ, ◌+◌, ◌&&◌, not, Bool, true, false, List, [], ◌∷◌, length, Option}
use Rattle.std.specs.Prelude.{None, Some, Result, Ok, Err, IsErrAnd, IsErrOf, IsSome, refl}
use Rattle.std.specs.FinMap.{get}
use Rattle.std.specs.Option.{ForSome, option_map}
use Rattle.std.proofs.Common.{cond, sym, ap, subst, ◌∙◌, arith}
use Rattle.vl_back.specs.FlushEdits.{flush_switch, head_of, switch_of}
use Rattle.vl_back.specs.Writing.{IsKept, KeepsOthers, WhileWriting, written}
use Rattle.vl_back.specs.declared.back.Back.{Back}
use Rattle.vl_back.specs.declared.stage_fail.StageFail.TheVariants as why
use Rattle.vl_back.specs.declared.stage_fail.StageFail.{StageFail}
use Rattle.vl_back.specs.declared.flush.StagedFlush.{StagedFlush}
use Rattle.vl_disk.specs.Calls.{ChangesNothing}
use Rattle.vl_disk.specs.Disk.{IsChangedBy, Stands}
use Rattle.vl_disk.specs.DiskState.{DiskState, File}
use Rattle.vl_disk.specs.Faults.{HasCause, Rose}
use Rattle.vl_disk.specs.Moments.{Elapses}
use Rattle.vl_disk.specs.Performs.{Performs}
use Rattle.vl_disk.specs.declared.name.Name.TheVariants as names
use Rattle.vl_disk.specs.declared.name.Name.{Name}
use Rattle.vl_disk.specs.declared.watched.Watched.{Ghosts}
use Rattle.vl_engine_laws.specs.Fit.{IsFitFor, IsFitForSteps}
use Rattle.vl_engine_laws.specs.FlushFacts.{StopsFlushing, WritesFlush, flush_written}
use Rattle.vl_engine_laws.specs.declared.kept.Core.{Core}
use Rattle.vl_manifest.specs.Levels.{all_tables, is_in, put_at}
use Rattle.vl_manifest.specs.States.{all_applied, applied, are_next, as_draft, finish, flush_edits, given_if}
use Rattle.vl_manifest.specs.States.{is_file_number, is_head, next_state, then_applied, with_levels}
use Rattle.vl_manifest.specs.declared.edit.Edit.TheVariants.{Add, Head, Next}
use Rattle.vl_manifest.specs.declared.state.ManifestState.{ManifestState}
use Rattle.vl_manifest.specs.declared.version_builder.VersionBuilder.{VersionBuilder}
use Rattle.vl_manifest.specs.declared.waiting.Waiting.{Waiting}

-- ---- why it isn't staged

-- a fault that is handed on is lawful where the one that came was
pub handed_on : {A B : Type 0} (fail : StageFail) (result : Result B StageFail) → IsErrAnd result (λ f. f ≡ fail)
    → (IsErrOf {T = A} (Err fail) why.NotLawful → ⊥) → IsErrOf result why.NotLawful → ⊥
handed_on fail (Ok x) and never is = cc
handed_on {A} fail (Err f) and never is = never (ap of (sym and ∙ same f why.NotLawful is))
  where
    of : StageFail → Result A StageFail
    of f = Err f

    same : {B : Type 0} (a b : StageFail) → IsErrOf {T = B} (Err a) b → a ≡ b
    same a b e = cc

-- ---- the next table

module _ (table head covered log next : ℕ) (u : ManifestState) where
  third : (b : Bool) (d : VersionBuilder)
      → finish (then_applied (all_applied []) (given_if b (record d { head = Some (head, covered); next = Some (log, next) }))) ≡ Some u
      → u.next_table ≡ next
  third true d is = ap (λ (o : ManifestState). o.next_table) (sym (same _ u is))
    where
      same : (a b : ManifestState) → Some a ≡ Some b → a ≡ b
      same a b e = cc
  third false d is = absurd cc

  second : (b : Bool) (d : VersionBuilder)
      → finish (then_applied (all_applied (Next log next ∷ [])) (given_if b (record d { head = Some (head, covered) }))) ≡ Some u
      → u.next_table ≡ next
  second true d is = third (are_next log next) d is
  second false d is = absurd cc

  first : (o : Option VersionBuilder)
      → finish (then_applied (all_applied (Head head covered ∷ Next log next ∷ [])) o) ≡ Some u → u.next_table ≡ next
  first None is = absurd cc
  first (Some d) is = second (is_head head covered) d is

  -- behind a flush's switch it is the one that this says
  pub next_said : (s : ManifestState) → next_state (flush_edits table head covered log next) s ≡ Some u → u.next_table ≡ next
  next_said s is = first (applied (Add 0 0 table) (as_draft s)) is

pub next_then : (active : ℕ) (back : Back) (u : ManifestState) → 1 ≤ length back.waiting.items
    → next_state (flush_switch active back) back.state ≡ Some u → u.next_table ≡ back.state.next_table + 1
next_then active back u = by back.waiting.items
  where
    by : (ws : List Waiting) → 1 ≤ length ws → next_state (switch_of active ws back) back.state ≡ Some u
        → u.next_table ≡ back.state.next_table + 1
    by [] some is = absurd (omega (arith, some))
    by (w ∷ ws) some is = next_said back.state.next_table (head_of active ws) w.covered back.next_log (back.state.next_table + 1)
        u back.state is

-- ---- how many versions are kept

-- so many of the newest versions of a key as before, and since when it is
pub record KeepsAsMany (before after : ManifestState) : Type 0 where
  pub keep : after.keep ≡ before.keep
  pub since : after.since ≡ before.since

pub as_many : {before after : ManifestState} → after ≡ before → KeepsAsMany before after
as_many same = record { keep = ap (λ (s : ManifestState). s.keep) same; since = ap (λ (s : ManifestState). s.since) same }

module _ (table head covered log next : ℕ) (s u : ManifestState) where
  unkept : (levels : List (List ℕ)) (b : Bool)
      → finish (then_applied (all_applied []) (given_if b (record (with_levels (as_draft s) levels) {
        head = Some (head, covered);
        next = Some (log, next);
      }))) ≡ Some u → KeepsAsMany s u
  unkept levels true is = record {
    keep = ap (λ (o : ManifestState). o.keep) (sym (same _ u is));
    since = ap (λ (o : ManifestState). o.since) (sym (same _ u is));
  }
    where
      same : (a b : ManifestState) → Some a ≡ Some b → a ≡ b
      same a b e = cc
  unkept levels false is = absurd cc

  unkept_head : (levels : List (List ℕ)) (b : Bool)
      → finish (then_applied (all_applied (Next log next ∷ []))
      (given_if b (record (with_levels (as_draft s) levels) { head = Some (head, covered) }))) ≡ Some u → KeepsAsMany s u
  unkept_head levels true is = unkept levels (are_next log next) is
  unkept_head levels false is = absurd cc

  unkept_put : (o : Option (List (List ℕ)))
      → finish (then_applied (all_applied (Head head covered ∷ Next log next ∷ [])) (option_map (with_levels (as_draft s)) o)) ≡ Some u
      → KeepsAsMany s u
  unkept_put None is = absurd cc
  unkept_put (Some levels) is = unkept_head levels (is_head head covered) is

  unkept_add : (b : Bool)
      → finish (then_applied (all_applied (Head head covered ∷ Next log next ∷ []))
      (cond b (option_map (with_levels (as_draft s)) (put_at 0 0 table s.levels)) None)) ≡ Some u → KeepsAsMany s u
  unkept_add true is = unkept_put (put_at 0 0 table s.levels) is
  unkept_add false is = absurd cc

  -- a flush's switch leaves it so
  pub kept_said : next_state (flush_edits table head covered log next) s ≡ Some u → KeepsAsMany s u
  kept_said is = unkept_add (is_file_number table && not (is_in table (all_tables s.levels))) is

pub kept_flushed : (active : ℕ) (back : Back) (u after : ManifestState) → 1 ≤ length back.waiting.items
    → next_state (flush_switch active back) back.state ≡ Some u → after ≡ u → KeepsAsMany back.state after
kept_flushed active back u after some made is = subst (KeepsAsMany back.state) (sym is) (by back.waiting.items some made)
  where
    by : (ws : List Waiting) → 1 ≤ length ws → next_state (switch_of active ws back) back.state ≡ Some u
        → KeepsAsMany back.state u
    by [] some is = absurd (omega (arith, some))
    by (w ∷ ws) some is = kept_said back.state.next_table (head_of active ws) w.covered back.next_log (back.state.next_table + 1)
        back.state u is

-- ---- the files

table_log : (n m : ℕ) → names.Log m ≡ names.Table n → ⊥
table_log n m e = cc

table_manifest : (n m : ℕ) → names.Manifest m ≡ names.Table n → ⊥
table_manifest n m e = cc

table_other : (n m : ℕ) → n < m → names.Table m ≡ names.Table n → ⊥
table_other n m less e = let same : m ≡ n = cc in omega (arith, less, same)

-- a file that stood stands
pub stands_kept : (name : Name) (disk now : DiskState) → IsKept name disk now → Stands name disk → Stands name now
stands_kept name disk now kept stands = by (get now.standing name) refl
  where
    not_none : get disk.standing name ≡ None → ⊥
    not_none none = of (get disk.standing name) none stands
      where
        of : (o : Option File) → o ≡ None → IsSome o → ⊥
        of None is some = absurd cc
        of (Some f) is some = cc

    by : (o : Option File) → get now.standing name ≡ o → IsSome o
    by None is = absurd (not_none (kept.0.0 is))
    by (Some f) is = refl

module _ {H : Type 0} (before after : Core H) (disk now : DiskState) (fit : IsFitFor before disk)
    (kept : (other : Name) → other ≢ names.Table before.back.state.next_table → IsKept other disk now)
    (log : after.front.log ≡ before.front.log) where
  log_stands : Stands (names.Log after.front.log.number) now
  log_stands = subst (λ (n : ℕ). Stands (names.Log n) now) (sym (ap (λ x. x.number) log))
      (stands_kept (names.Log before.front.log.number) disk now
      (kept (names.Log before.front.log.number) (table_log before.back.state.next_table before.front.log.number)) fit.log)

  -- Behind a flush nothing stands under the numbers that are left,
  pub fit_flushed : before.front.halted ≡ None → after.back.manifest.number ≡ before.back.manifest.number
      → after.back.next_log ≡ before.back.next_log → after.back.state.next_table ≡ before.back.state.next_table + 1
      → IsFitFor after now
  fit_flushed running manifest next_log next_table = record {
    log = log_stands;
    steps = λ _. record {
      manifest = subst (λ (n : ℕ). Stands (names.Manifest n) now) (sym manifest)
          (stands_kept (names.Manifest before.back.manifest.number) disk now
          (kept (names.Manifest before.back.manifest.number)
          (table_manifest before.back.state.next_table before.back.manifest.number)) steps.manifest);
      logs = λ n from. (kept (names.Log n) (table_log before.back.state.next_table n)).0.1
          (steps.logs n (omega (arith, from, next_log)));
      tables = λ n from. (kept (names.Table n) (table_other before.back.state.next_table n (omega (arith, from, next_table)))).0.1
          (steps.tables n (omega (arith, from, next_table)));
    };
  }
    where
      steps : IsFitForSteps before.back disk
      steps = fit.steps running

  -- and where it failed the active log stands.
  pub fit_unflushed : (name : Name) → after.front.halted ≡ Some name → IsFitFor after now
  fit_unflushed name halted = record { log = log_stands; steps = λ running. absurd (halts halted running) }
    where
      halts : after.front.halted ≡ Some name → after.front.halted ≡ None → ⊥
      halts some none = cc

-- where what is told is as before, so are the files
pub kept_itself : (name : Name) (old new : Option DiskState) → new ≡ old → KeepsOthers name old new
kept_itself name old new same before now was is other apart =
    subst (λ (disk : DiskState). IsKept other before disk) (one before now (sym was ∙ sym same ∙ is))
    ((λ none. none, λ none. none), (λ none. none, λ none. none))
  where
    one : (a b : DiskState) → Some a ≡ Some b → a ≡ b
    one a b e = cc

-- and so they are kept from what was told before a call that changed nothing
pub kept_from : (name : Name) (old mid new : Option DiskState) → mid ≡ old → KeepsOthers name mid new → KeepsOthers name old new
kept_from name old mid new same kept = subst (λ (told : Option DiskState). KeepsOthers name told new) same kept

-- where nothing is told before, nothing is then
pub still_told : {P Q : DiskState → Type 0} (name : Name) (old new : Option DiskState) → ForSome old P → KeepsOthers name old new
    → (old ≡ None → new ≡ None)
    → ((disk now : DiskState) → P disk → ((other : Name) → other ≢ name → IsKept other disk now) → Q now) → ForSome new Q
still_told {P} {Q} name None new was keeps untold then now told = absurd (wrong (untold refl) told)
  where
    wrong : new ≡ None → new ≡ Some now → ⊥
    wrong none some = cc
still_told {P} {Q} name (Some disk) new was keeps untold then now told =
    then disk now (was disk refl) (λ other apart. keeps disk now refl told other apart)

-- ---- the calls

-- a fault that is counted behind calls that passed
pub failed_then : (before mid now : ℕ) (failed : Type 0) → HasCause before mid ⊥ → HasCause mid now failed → failed
    → HasCause before now (Unit {0})
failed_then before mid now failed quiet second fails =
    let same : mid ≡ before = quiet.steady (λ none. none) in
    record {
      later = let later = second.later in omega (arith, later, same);
      rose = λ _. subst (λ (n : ℕ). Rose n now) same (second.rose fails);
      steady = λ fine. absurd (fine tt);
    }

module _ {D H : Type 0} (g : Ghosts D) (core : Core H) (flush : StagedFlush) (old mid new : D) (bytes : List ℕ)
    (same : bytes ≡ flush.table.bytes.items) (quiet : ChangesNothing g old mid ⊥) where
  abbrev table : ℕ
  table = core.back.state.next_table

  abbrev manifest : ℕ
  manifest = core.back.manifest.number

  abbrev frame : List ℕ
  frame = flush.edits.frame.items

  -- a run by which a flush was written, under whichever name its bytes have
  abbrev pub writes_by : {T E : Type 0} (result : Result T E)
      → Performs g (written table bytes manifest frame) (WhileWriting table bytes manifest frame) 5 mid new result
      → WritesFlush g core flush old new
  writes_by result run = record {
    mid = mid;
    before = quiet;
    time = subst (λ (bs : List ℕ). Elapses g mid new (WhileWriting table bs manifest frame)) same run.time;
    tells = run.tells;
  }

  pub changed_by : {T E : Type 0} (x : T)
      → Performs {T = T} {E = E} g (written table bytes manifest frame) (WhileWriting table bytes manifest frame) 5 mid new (Ok x)
      → IsChangedBy (flush_written core flush) (g.told mid) (g.told new)
  changed_by x run =
      subst (λ (bs : List ℕ). IsChangedBy (written table bs manifest frame) (g.told mid) (g.told new)) same run.done

  pub stops_by : (name : Name) → StopsFlushing table manifest (g.calls mid) (g.calls new) name
      → StopsFlushing table manifest (g.calls old) (g.calls new) name
  stops_by name stops = subst (λ (n : ℕ). StopsFlushing table manifest n (g.calls new) name) quiet.calls stops
