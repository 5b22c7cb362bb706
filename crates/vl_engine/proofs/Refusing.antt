-- A merge that is carried out: what each exit of it is to the one that called it.
use Rattle.std.specs.Prelude.{◌≡◌, ℕ, ◌+◌, ◌<◌, ◌≤◌, List, [], ◌∷◌, ◌++◌, length, Option, None, Some, Result, Ok, Err, IsErrAnd}
use Rattle.std.specs.List.{AllByRecursion}
use Rattle.std.proofs.Common.{sym, ap, subst, ◌∙◌, append_assoc, arith, refl, inl, inr}
use Rattle.vl_back.specs.Writing.{IsKept, KeepsOthers}
use Rattle.vl_compact.specs.Progress.{FailsWith, KeepsAll, Leaves, Takes}
use Rattle.vl_compact.specs.Reading.{FailsReading, MayWhere, counts}
use Rattle.vl_compact.specs.Stops.{MayStopIn}
use Rattle.vl_compact.specs.declared.files.Lent.{Lent}
use Rattle.vl_compact.specs.declared.inputs.Inputs.{Inputs}
use Rattle.vl_compact.specs.declared.job.Job.{Job}
use Rattle.vl_compact.specs.declared.job_reader.JobReader.{JobReader}
use Rattle.vl_disk.specs.Calls.{ChangesNothing}
use Rattle.vl_disk.specs.DiskState.{DiskState}
use Rattle.vl_disk.specs.Faults.{HasCause, Rose, after_calls}
use Rattle.vl_disk.specs.Performs.{GoesOnTelling}
use Rattle.vl_disk.specs.laws.Performing.{calls_then, same_tells}
use Rattle.vl_disk.specs.declared.name.Name.TheVariants as names
use Rattle.vl_disk.specs.declared.name.Name.{Name}
use Rattle.vl_disk.specs.declared.read_fault.ReadFault.TheVariants as read
use Rattle.vl_disk.specs.declared.read_fault.ReadFault.{ReadFault}
use Rattle.vl_disk.specs.declared.watched.Watched.{Ghosts}
use Rattle.vl_disk.specs.declared.writer.Writer.{Ghosts as Writers}
use Rattle.vl_engine.specs.Refusals.{CarriesOutAs, FailsToMake, FailsToRead, HasDrawn, IsOutOfTables, KeepsAllBelow}
use Rattle.vl_engine.specs.Refusals.{IsLastDrawn, LeavesStore, LendsFrom, Moment, drawn_by, moved_in, of_read, of_step}
use Rattle.vl_engine.specs.declared.fails.MergeFail.TheVariants as merge
use Rattle.vl_engine.specs.declared.fails.MergeFail.{MergeFail}
use Rattle.vl_engine_laws.specs.Lent.{lent_in}
use Rattle.vl_engine_laws.specs.declared.kept.Core.{Core}
use Rattle.vl_engine_laws.specs.declared.open.OpenMerge.{OpenMerge}
use Rattle.vl_engine_laws.specs.laws.Untouched.{alone}
use Rattle.vl_model.specs.Conflicts.{Named}
use Rattle.vl_model.specs.Limits.{max_file_number}
use Rattle.vl_model.specs.declared.counter.Counter.TheVariants as counters
use Rattle.vl_model.specs.declared.counter.Counter.{Counter}
use Rattle.vl_steps.specs.Drawing.{DrawsCore, FreshLeavesDisk, IsLentMore, IsSameJob, IsSameMerge, MayDraw, StopsDrawing, WritesFresh}
use Rattle.vl_steps.specs.Drawing.{drawn_core}
use Rattle.vl_steps.specs.Installing.{InstallsUnraced}
use Rattle.vl_steps.specs.Merging.{FitsReaders}
use Rattle.vl_steps.specs.Stepping.{StepFailed}
use Rattle.vl_steps.specs.declared.fails.InstallFail.TheVariants as install
use Rattle.vl_steps.specs.declared.fails.InstallFail.{InstallFail}
use Rattle.vl_steps.specs.declared.fails.StepFail.TheVariants as step
use Rattle.vl_steps.specs.declared.fails.StepFail.{StepFail}
use Rattle.vl_table.specs.CursorParts.{MayFailOn, is_disk_fault}
use Rattle.vl_table.specs.declared.block_reader.BlockReader.{BlockReader}
use Rattle.vl_version.specs.Bases as bases
use Rattle.vl_version.specs.Sources.{tables_in}
use Rattle.vl_version.specs.declared.base.Base.{Base}

-- this is what was answered
abbrev pub IsAnswer : {T E : Type 0} → (was is : Result T E) → Type 0
IsAnswer was is = was ≡ is

-- ---- so many files were made

-- Just so many were, and a halted engine did nothing.
pub record Draws {D H : Type 0} (g : Ghosts D) (old new : Moment D H) (count : ℕ) : Type 0 where
  pub core : new.core ≡ drawn_by count old.core
  pub calls : g.calls new.disk ≡ after_calls count (g.calls old.disk)
  pub steady : g.faults new.disk ≡ g.faults old.disk
  pub idle : (name : Name) → old.core.front.halted ≡ Some name → (new.core ≡ old.core) × (new.disk ≡ old.disk)

abbrev with_next : {H : Type 0} → Core H → ℕ → Core H
with_next core next = record core { back = record core.back { state = record core.back.state { next_table = next } } }

drawn_none : {H : Type 0} (core : Core H) → core ≡ drawn_by 0 core
drawn_none core =
    let same : core.back.state.next_table ≡ core.back.state.next_table + 0 = omega arith in
    ap (with_next core) same

drawn_more : {H : Type 0} (before mid now : Core H) (n : ℕ) → mid ≡ drawn_by n before → now ≡ drawn_core mid
    → now ≡ drawn_by (n + 1) before
drawn_more {H} before mid now n so is =
    let next = before.back.state.next_table in
    let same : (next + n) + 1 ≡ next + (n + 1) = omega arith in
    is ∙ ap (λ (c : Core H). drawn_core c) so ∙ ap (with_next before) same

one_call : (n before mid now : ℕ) → mid ≡ after_calls n before → now ≡ after_calls 1 mid → now ≡ after_calls (n + 1) before
one_call n before mid now so is =
    let same : 1 + n ≡ n + 1 = omega arith in
    is ∙ ap (λ (k : ℕ). after_calls 1 k) so ∙ sym (calls_then 1 n before) ∙ ap (λ (k : ℕ). after_calls k before) same

-- what was lent was by an engine that isn't halted
pub none_lent : {P A E : Type 0} (file : A) (why : E) → Ok file ≡ Err why → P
none_lent file why is = absurd cc

module _ {D H : Type 0} (g : Ghosts D) where
  pub draws_none : (m : Moment D H) → Draws g m m 0
  draws_none m = record { core = drawn_none m.core; calls = refl; steady = refl; idle = λ name is. (refl, refl) }

  pub draws_more : {W : Type 0} {s : Writers W} (old mid new : Moment D H) (n : ℕ) (file : Lent W s) → Draws g old mid n
      → new.core ≡ drawn_core mid.core → g.calls new.disk ≡ after_calls 1 (g.calls mid.disk)
      → HasCause (g.faults mid.disk) (g.faults new.disk) ⊥
      → ((name : Name) → mid.core.front.halted ≡ Some name
      → IsAnswer {T = Lent W s} {E = StepFail} (Ok file) (Err (step.Halted name)))
      → Draws g old new (n + 1)
  draws_more old mid new n file so core calls cause halted = record {
    core = drawn_more old.core mid.core new.core n so.core core;
    calls = one_call n (g.calls old.disk) (g.calls mid.disk) (g.calls new.disk) so.calls calls;
    steady = cause.steady (λ no. no) ∙ so.steady;
    idle = λ name is.
        none_lent file (step.Halted name) (halted name (ap (λ (c : Core H). c.front.halted) so.core ∙ is));
  }

  pub has_drawn : (old new : Moment D H) (n : ℕ) → Draws g old new n → HasDrawn g old new
  has_drawn old new n so = record { count = n; core = so.core; calls = so.calls; steady = so.steady }

  pub leaves_store : (old new : Moment D H) → (new.core ≡ old.core) × (new.disk ≡ old.disk) → LeavesStore g old new
  leaves_store old new same = record { core = same.0; disk = alone g old.disk new.disk same.1 }

  -- as many numbers as there are leave none
  pub all_drawn : (old new : Moment D H) (n : ℕ) → 1 ≤ old.core.back.state.next_table → Draws g old new n → max_file_number ≤ n
      → IsOutOfTables old new counters.Table
  all_drawn old new n numbered so all = record {
    counter_is = refl;
    running = by old.core.front.halted so.idle;
    used = let next : new.core.back.state.next_table ≡ old.core.back.state.next_table + n =
        ap (λ (c : Core H). c.back.state.next_table) so.core in omega arith;
  }
    where
      never : new.core ≡ old.core → ⊥
      never same =
          let next : new.core.back.state.next_table ≡ old.core.back.state.next_table + n =
          ap (λ (c : Core H). c.back.state.next_table) so.core in
          let as_before : new.core.back.state.next_table ≡ old.core.back.state.next_table =
          ap (λ (c : Core H). c.back.state.next_table) same in
          absurd (omega arith)

      by : (o : Option Name) → ((name : Name) → o ≡ Some name → (new.core ≡ old.core) × (new.disk ≡ old.disk)) → o ≡ None
      by None idle = refl
      by (Some name) idle = absurd (never (idle name refl).0)

-- ---- what is lent

nothing_behind : (ns : List ℕ) → ns ≡ ns ++ []
nothing_behind [] = refl
nothing_behind (n ∷ ns) = ap (λ (l : List ℕ). n ∷ l) (nothing_behind ns)

above_more : (first n : ℕ) (ns : List ℕ) → AllByRecursion (λ (k : ℕ). first ≤ k) ns → first ≤ n
    → AllByRecursion (λ (k : ℕ). first ≤ k) (ns ++ n ∷ [])
above_more first n [] all is = (is, tt)
above_more first n (k ∷ ns) all is = (all.0, above_more first n ns all.1 is)

pub lends_none : (first : ℕ) (merging : Option OpenMerge) → LendsFrom first merging merging
lends_none first merging = record { moved = refl; more = []; lent = nothing_behind (lent_in merging); above = tt }

pub lends_more : (first number : ℕ) (old mid new : Option OpenMerge) → LendsFrom first old mid → IsLentMore mid new number
    → first ≤ number → LendsFrom first old new
lends_more first number old mid new so more is = record {
  moved = ap moved_in more.is_open ∙ more.moved ∙ sym (ap moved_in more.was_open) ∙ so.moved;
  more = so.more ++ number ∷ [];
  lent = ap lent_in more.is_open ∙ more.lent ∙ ap (λ (ns : List ℕ). ns ++ number ∷ []) (sym (ap lent_in more.was_open) ∙ so.lent)
      ∙ append_assoc (lent_in old) so.more (number ∷ []);
  above = above_more first number so.more so.above is;
}

pub lends_same : (first : ℕ) (old mid new : Option OpenMerge) → LendsFrom first old mid → IsSameMerge mid new → LendsFrom first old new
lends_same first old mid new so same = record {
  moved = ap moved_in same.is_open ∙ same.moved ∙ sym (ap moved_in same.was_open) ∙ so.moved;
  more = so.more;
  lent = ap lent_in same.is_open ∙ same.lent ∙ sym (ap lent_in same.was_open) ∙ so.lent;
  above = so.above;
}

-- what was given since has no number below
pub drawn_above : {H : Type 0} (before mid : Core H) (n number : ℕ) → mid ≡ drawn_by n before → number ≡ mid.back.state.next_table
    → before.back.state.next_table ≤ number
drawn_above {H} before mid n number so is =
    let next : mid.back.state.next_table ≡ before.back.state.next_table + n = ap (λ (c : Core H). c.back.state.next_table) so in
    omega arith

-- ---- which files come and go

some_same : {A : Type 0} (x y : A) → Some x ≡ Some y → x ≡ y
some_same x y is = cc

kept_here : (name : Name) (disk : DiskState) → IsKept name disk disk
kept_here name disk = ((λ (is : _). is, λ (is : _). is), (λ (is : _). is, λ (is : _). is))

kept_then : (name : Name) (old mid new : DiskState) → IsKept name old mid → IsKept name mid new → IsKept name old new
kept_then name old mid new one two = (
  (λ is. one.0.0 (two.0.0 is), λ is. two.0.1 (one.0.1 is)),
  (λ is. one.1.0 (two.1.0 is), λ is. two.1.1 (one.1.1 is)),
)

pub below_none : (first : ℕ) (old new : Option DiskState) → new ≡ old → KeepsAllBelow first old new
below_none first old new same before now was is name off =
    subst (λ (d : DiskState). IsKept name before d) (some_same before now (sym was ∙ sym same ∙ is)) (kept_here name before)

pub below_then : (first : ℕ) (old mid new : Option DiskState) → KeepsAllBelow first old mid → GoesOnTelling old mid
    → KeepsAllBelow first mid new → KeepsAllBelow first old new
below_then first old mid new one tells two before now was is name off =
    let between = tells before was in
    kept_then name before between.0 now (one before between.0 was between.1 name off) (two between.0 now between.1 is name off)

pub below_one : (first number : ℕ) (old new : Option DiskState) → KeepsOthers (names.Table number) old new → first ≤ number
    → KeepsAllBelow first old new
below_one first number old new others is before now was then name off = others before now was then name (off number is)

pub tells_then : (old mid new : Option DiskState) → GoesOnTelling old mid → GoesOnTelling mid new → GoesOnTelling old new
tells_then old mid new one two before was = let between = one before was in two between.0 between.1

-- ---- what was raced

-- a refusal for a race names one key
pub raced_by : {V H W : Type 0} {s : Writers W} (P : Named → Type 0) (key k : List ℕ) (n m : ℕ)
    → IsAnswer {T = Unit {0}} {E = InstallFail V H W s} (Err (install.Raced key n)) (Err (install.Raced k m)) → P (key, n) → P (k, m)
raced_by P key k n m is so =
    let same : key ≡ k = cc in
    let alike : n ≡ m = cc in
    subst (λ (x : List ℕ). P (x, m)) same (subst (λ (y : ℕ). P (key, y)) alike so)

-- where no deletion stands against it, it isn't raced
pub unraced : {D H R W P : Type 0} (g : Ghosts D) (bytes : H → Option (List ℕ)) (w : Writers W) {s : Writers W}
    (job : Job (Base H R) H W s) (old new : D) (before after : Core H) (result : Result (Unit {0}) (InstallFail (Base H R) H W s))
    (key : List ℕ) (n : ℕ) → InstallsUnraced g bytes w job old new before after result → result ≡ Err (install.Raced key n) → P
unraced {H = H} {R = R} {W = W} g bytes w {s} job old new before after result key n as_unraced is =
    let never : InstallsUnraced g bytes w job old new before after (Err (install.Raced key n)) =
    subst (λ (r : Result (Unit {0}) (InstallFail (Base H R) H W s)). InstallsUnraced g bytes w job old new before after r) is
    as_unraced in
    absurd never

-- ---- what is read, and with what

-- it merges what it merged while it reads on and takes room,
pub same_base : {V H W : Type 0} {s : Writers W} (first asked roomy : Job V H W s) → KeepsAll first asked → IsSameJob asked roomy
    → roomy.base ≡ first.base
same_base {V} {H} {W} {s} first asked roomy kept same =
    ap (λ (j : Job V H W s). j.base) same.same ∙ ap (λ (j : Job V H W s). j.base) kept

pub same_inputs : {V H W : Type 0} {s : Writers W} (first asked roomy : Job V H W s) → KeepsAll first asked → IsSameJob asked roomy
    → roomy.inputs ≡ first.inputs
same_inputs {V} {H} {W} {s} first asked roomy kept same =
    ap (λ (j : Job V H W s). j.inputs) same.same ∙ ap (λ (j : Job V H W s). j.inputs) kept

pub kept_inputs : {V H W : Type 0} {s : Writers W} (first asked : Job V H W s) → KeepsAll first asked → asked.inputs ≡ first.inputs
kept_inputs {V} {H} {W} {s} first asked kept = ap (λ (j : Job V H W s). j.inputs) kept

pub left_inputs : {V H W : Type 0} (w : Writers W) {s : Writers W} (file : Lent W s) (roomy last : Job V H W s)
    → Leaves w file roomy last → last.inputs ≡ roomy.inputs
left_inputs {V} {H} {W} w {s} file roomy last leaves = ap (λ (j : Job V H W s). j.inputs) leaves.kept

-- it stands behind the same key,
pub same_after : {V H W : Type 0} {s : Writers W} (first asked : Job V H W s) → KeepsAll first asked → asked.after ≡ first.after
same_after {V} {H} {W} {s} first asked kept = ap (λ (j : Job V H W s). j.after) kept

pub left_after : {V H W : Type 0} (w : Writers W) {s : Writers W} (file : Lent W s) (roomy last : Job V H W s)
    → Leaves w file roomy last → last.after ≡ roomy.after
left_after {V} {H} {W} w {s} file roomy last leaves = ap (λ (j : Job V H W s). j.after) leaves.kept

-- and where a table is made it merges the same
pub taken_base : {V H W : Type 0} (w : Writers W) {s : Writers W} (file : Lent W s) (roomy last : Job V H W s)
    → Takes w file roomy last → last.base ≡ roomy.base
taken_base {V} {H} {W} w {s} file roomy last takes = ap (λ (j : Job V H W s). j.base) takes.kept

pub taken_inputs : {V H W : Type 0} (w : Writers W) {s : Writers W} (file : Lent W s) (roomy last : Job V H W s)
    → Takes w file roomy last → last.inputs ≡ roomy.inputs
taken_inputs {V} {H} {W} w {s} file roomy last takes = ap (λ (j : Job V H W s). j.inputs) takes.kept

pub fits_at : {H R : Type 0} (bytes : H → Option (List ℕ)) (a b : Base H R) (reader : BlockReader R) → a ≡ b
    → bases.Fits bytes a.version reader → bases.Fits bytes b.version reader
fits_at {H} {R} bytes a b reader same fits = subst (λ (x : Base H R). bases.Fits bytes x.version reader) same fits

-- ---- files that weren't lent

-- one call alone was made
one_called : (called : Name) (front back : List Name) (name : Name) → called ∷ [] ≡ front ++ name ∷ back
    → (name ≡ called) × (front ≡ [])
one_called called [] back name is = (cc, refl)
one_called called (f ∷ fs) back name is = absurd (never fs is)
  where
    never : (xs : List Name) → called ∷ [] ≡ f ∷ (xs ++ name ∷ back) → ⊥
    never [] e = cc
    never (x ∷ xs) e = cc

-- what isn't answered by a halted engine wasn't by one
runs : (o : Option Name) → ((name : Name) → o ≡ Some name → ⊥) → o ≡ None
runs None never = refl
runs (Some name) never = absurd (never name refl)

pub halted_draw : {D H W : Type 0} (g : Ghosts D) {s : Writers W} (old mid new : Moment D H) (why : StepFail)
    (name : Name) → (mid.core ≡ old.core) × (mid.disk ≡ old.disk) → IsAnswer {T = Lent W s} (Err why) (Err (step.Halted name))
    → DrawsCore {W = W} mid.core new.core {g = s} (Err why)
    → (FreshLeavesDisk {W = W} {g = s} (Err why) → ChangesNothing g mid.disk new.disk ⊥) → LeavesStore g old new
halted_draw {D} g old mid new (step.Halted at) name same is core untouched = record {
  core = core.1 ∙ same.0;
  disk = subst (λ (d : D). ChangesNothing g d new.disk ⊥) same.1 (untouched tt);
}
halted_draw g old mid new (step.Exhausted counter) name same is core untouched = absurd cc
halted_draw g old mid new step.NoMemory name same is core untouched = absurd cc
halted_draw g old mid new (step.Disk at) name same is core untouched = absurd cc

-- a disk that tells goes on telling then
pub draw_tells : {D H W : Type 0} (g : Ghosts D) (s : Writers W) (core : Core H) (old new : D) (why : StepFail)
    → (FreshLeavesDisk {W = W} {g = s} (Err why) → ChangesNothing g old new ⊥)
    → (StepFailed {T = Lent W s} (Err why) → WritesFresh g core old new) → GoesOnTelling (g.told old) (g.told new)
draw_tells g s core old new (step.Halted at) untouched meanwhile = same_tells (g.told old) (g.told new) (untouched tt).told
draw_tells g s core old new (step.Exhausted counter) untouched meanwhile = same_tells (g.told old) (g.told new) (untouched tt).told
draw_tells g s core old new step.NoMemory untouched meanwhile = same_tells (g.told old) (g.told new) (untouched tt).told
draw_tells g s core old new (step.Disk at) untouched meanwhile =
    let writes = meanwhile tt in
    tells_then (g.told old) (g.told writes.mid) (g.told new) (same_tells (g.told old) (g.told writes.mid) writes.before.told) writes.tells

module _ {H R W : Type 0} (w : Writers W) (bytes : H → Option (List ℕ)) (faults_of : R → ℕ) {D : Type 0} (g : Ghosts D) {s : _}
    (job : Job (Base H R) H W s) (key : Option (List ℕ)) (old : Moment D H) where
  -- memory was wanting
  pub memory_exit : (new : Moment D H) (result : Result (Unit {0}) MergeFail) → IsErrAnd result (λ e. e ≡ merge.NoMemory)
      → HasDrawn g old new → CarriesOutAs w bytes faults_of g job key old new result
  memory_exit new (Ok done) is drawn = absurd is
  memory_exit new (Err e) is drawn =
      subst (λ (f : MergeFail). CarriesOutAs w bytes faults_of g job key old new (Err f)) (sym is) drawn

  -- it wasn't read, or a table not written
  pub read_exit : (new : Moment D H) (fault : ReadFault) (result : Result (Unit {0}) MergeFail)
      → IsErrAnd result (λ e. e ≡ of_read fault) → HasDrawn g old new
      → FailsToMake w bytes faults_of job key (IsLastDrawn new) fault
      → CarriesOutAs w bytes faults_of g job key old new result
  read_exit new fault (Ok done) is drawn why = absurd is
  read_exit new fault (Err e) is drawn why =
      subst (λ (f : MergeFail). CarriesOutAs w bytes faults_of g job key old new (Err f)) (sym is) (by fault why)
    where
      by : (f : ReadFault) → FailsToMake w bytes faults_of job key (IsLastDrawn new) f
          → CarriesOutAs w bytes faults_of g job key old new (Err (of_read f))
      by read.NoMemory so = drawn
      by (read.Disk name) so = inl (drawn, so)
      by (read.Damaged name place) so = (drawn, so)

  -- no file was lent
  pub step_exit : (mid new : Moment D H) (n : ℕ) → Draws g old mid n → (why : StepFail)
      → DrawsCore {W = W} mid.core new.core {g = s} (Err why)
      → ((name : Name) → mid.core.front.halted ≡ Some name → IsAnswer {T = Lent W s} (Err why) (Err (step.Halted name)))
      → ((counter : Counter) → IsAnswer {T = Lent W s} (Err why) (Err (step.Exhausted counter)) → counter ≡ counters.Table)
      → (StepFailed {T = Lent W s} (Err why) → MayDraw mid.core)
      → ((name : Name) → IsAnswer {T = Lent W s} (Err why) (Err (step.Disk name))
      → StopsDrawing mid.core.back.state.next_table (g.calls mid.disk) (g.calls new.disk) name)
      → HasCause (g.faults mid.disk) (g.faults new.disk) (StepFailed {T = Lent W s} (Err why))
      → (FreshLeavesDisk {W = W} {g = s} (Err why) → ChangesNothing g mid.disk new.disk ⊥)
      → (result : Result (Unit {0}) MergeFail) → IsErrAnd result (λ e. e ≡ of_step why)
      → CarriesOutAs w bytes faults_of g job key old new result
  step_exit mid new n so why core halts counted may stopped cause untouched (Ok done) is = absurd is
  step_exit mid new n so why core halts counted may stopped cause untouched (Err e) is =
      subst (λ (f : MergeFail). CarriesOutAs w bytes faults_of g job key old new (Err f)) (sym is)
      (by why core halts counted may stopped cause untouched)
    where
      running : mid.core.front.halted ≡ old.core.front.halted
      running = ap (λ (c : Core H). c.front.halted) so.core

      drawn : new.core ≡ mid.core → ChangesNothing g mid.disk new.disk ⊥ → HasDrawn g old new
      drawn same nothing = record {
        count = n;
        core = same ∙ so.core;
        calls = nothing.calls ∙ so.calls;
        steady = nothing.cause.steady (λ no. no) ∙ so.steady;
      }

      by : (f : StepFail) → DrawsCore {W = W} mid.core new.core {g = s} (Err f)
          → ((name : Name) → mid.core.front.halted ≡ Some name → IsAnswer {T = Lent W s} (Err f) (Err (step.Halted name)))
          → ((counter : Counter) → IsAnswer {T = Lent W s} (Err f) (Err (step.Exhausted counter)) → counter ≡ counters.Table)
          → (StepFailed {T = Lent W s} (Err f) → MayDraw mid.core)
          → ((name : Name) → IsAnswer {T = Lent W s} (Err f) (Err (step.Disk name))
          → StopsDrawing mid.core.back.state.next_table (g.calls mid.disk) (g.calls new.disk) name)
          → HasCause (g.faults mid.disk) (g.faults new.disk) (StepFailed {T = Lent W s} (Err f))
          → (FreshLeavesDisk {W = W} {g = s} (Err f) → ChangesNothing g mid.disk new.disk ⊥)
          → CarriesOutAs w bytes faults_of g job key old new (Err (of_step f))
      by (step.Halted name) did halt counter_is fits at rose nothing = sym running ∙ did.0
      by (step.Exhausted counter) did halt counter_is fits at rose nothing = (
        drawn did.1 (nothing tt),
        record {
          counter_is = counter_is counter refl;
          running = sym running ∙ runs mid.core.front.halted (λ name at. let no : IsAnswer {T = Lent W s} (Err (step.Exhausted counter))
              (Err (step.Halted name)) = halt name at in cc);
          used = subst (λ (c : Core H). max_file_number < c.back.state.next_table) (sym did.1) did.0;
        },
      )
      by step.NoMemory did halt counter_is fits at rose nothing = drawn did (nothing tt)
      by (step.Disk name) did halt counter_is fits at rose nothing =
          let failed = at name refl in
          let alone_is = one_called (names.Table mid.core.back.state.next_table) failed.front failed.back name failed.files_are in
          inr (record {
            count = n;
            running = sym running ∙ (fits tt).running;
            named = alone_is.0 ∙ ap (λ (c : Core H). names.Table c.back.state.next_table) so.core;
            core = did ∙ ap (λ (c : Core H). record c { front = record c.front { halted = Some name } }) so.core;
            calls = one_call n (g.calls old.disk) (g.calls mid.disk) (g.calls new.disk) so.calls
                (failed.calls ∙ ap (λ (ns : List Name). after_calls (length ns + 1) (g.calls mid.disk)) alone_is.1);
            rose = subst (λ (k : ℕ). Rose k (g.faults new.disk)) so.steady (rose.rose tt);
          })

  -- ---- reads and writes

  abbrev pub Reads : Base H R → Inputs H → Option (List ℕ) → JobReader R (BlockReader R) → JobReader R (BlockReader R) → ReadFault → Type 0
  Reads base inputs last before after fault = FailsReading is_disk_fault
      (MayWhere (bases.Fits bytes base.version before.looks) (MayFailOn bytes (tables_in base.version))) is_disk_fault
      (MayStopIn bytes last inputs.tables.items) (counts (λ (l : BlockReader R). faults_of l.reader) faults_of before after) fault

  -- it reads what it read before
  reads_alike : (base : Base H R) (inputs : Inputs H) (last : Option (List ℕ)) (before after : JobReader R (BlockReader R)) (fault : ReadFault)
      → base ≡ job.base → inputs ≡ job.inputs → last ≡ key → (FitsReaders bytes job → bases.Fits bytes job.base.version before.looks)
      → Reads base inputs last before after fault → FailsToRead w bytes faults_of job key fault
  reads_alike base inputs last before after fault same alike there fits why = record {
    before = before;
    after = after;
    cause =
        let so = subst (λ (k : Option (List ℕ)). Reads job.base job.inputs k before after fault) there
        (subst (λ (i : Inputs H). Reads job.base i last before after fault) alike
        (subst (λ (b : Base H R). Reads b inputs last before after fault) same why)) in
        elim so [
          | inl memory ↦ inl memory
          | inr rest ↦ elim rest [
            | inl sources ↦ inr (inl (record {
              had = λ readers. sources.had (fits readers);
              counted = sources.counted;
              steady = sources.steady;
            }))
            | inr files ↦ inr (inr files)
          ]
        ];
  }

  pub read_fails : (lent : ℕ → Type 0) (base : Base H R) (inputs : Inputs H) (last : Option (List ℕ)) (before after : JobReader R (BlockReader R)) (fault : ReadFault)
      → base ≡ job.base → inputs ≡ job.inputs → last ≡ key → (FitsReaders bytes job → bases.Fits bytes job.base.version before.looks)
      → Reads base inputs last before after fault → FailsToMake w bytes faults_of job key lent fault
  read_fails lent base inputs last before after fault same alike there fits why =
      inl (reads_alike base inputs last before after fault same alike there fits why)

  pub fill_fails : (lent : ℕ → Type 0) (room filled : Job (Base H R) H W s) (file : Lent W s) (before after : JobReader R (BlockReader R))
      (fault : ReadFault) → room.base ≡ job.base → room.inputs ≡ job.inputs → room.after ≡ key
      → (FitsReaders bytes job → bases.Fits bytes job.base.version before.looks)
      → lent file.number
      → FailsWith w (FailsReading is_disk_fault
      (MayWhere (bases.Fits bytes room.base.version before.looks) (MayFailOn bytes (tables_in room.base.version))) is_disk_fault
      (MayStopIn bytes room.after room.inputs.tables.items)) (counts (λ (l : BlockReader R). faults_of l.reader) faults_of before after) file room
      filled fault
      → FailsToMake w bytes faults_of job key lent fault
  fill_fails lent room filled file before after fault same alike there fits last why =
      elim why.2 [
        | inl reads ↦ inl (reads_alike room.base room.inputs room.after before after fault same alike there fits reads.0)
        | inr writes ↦ inr (record { file = file; is_lent = last; leaving = why.0; cause = writes.0 })
      ]
