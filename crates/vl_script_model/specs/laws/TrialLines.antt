-- Which lines are answered up to a stop, by the calls that are counted behind them.
use Rattle.std.proofs.Common.{◌≡◌, ℕ, zero, suc, min, ◌+◌, ◌-◌, ◌^◌, ◌<◌, ◌≤◌, Bool, true, false, cond, List, [], ◌∷◌}
use Rattle.std.proofs.Common.{length, take, Some, None, refl, sym, ◌∙◌, ap, subst, arith, zero-le}
use Rattle.std.specs.Prelude.{Option, nat_le}
use Rattle.std.specs.List.{AllByRecursion, slice_get}
use Rattle.std.proofs.lemmas.Bool.Decides.{nat_tests}
use Rattle.vl_disk.specs.Faults.{after_calls}
use Rattle.vl_engine_model.specs.Ruling.{Exhausted, Halted, Idle, Ruling, StepAnswer, Stepped, has_no_number, has_no_epoch, leaving}
use Rattle.vl_engine_model.specs.Rulings.Flush.{flush_of, flush_ruling, flush_unless}
use Rattle.vl_engine_model.specs.Rulings.Rotate.{rotate_of, rotate_ruling, rotate_unless}
use Rattle.vl_engine_model.specs.Sources.{oldest}
use Rattle.vl_engine_model.specs.Store.Dispatch.{step_told}
use Rattle.vl_engine_model.specs.declared.file_name.FileName.{FileName}
use Rattle.vl_engine_model.specs.declared.layout.Layout.{Layout}
use Rattle.vl_engine_model.specs.declared.segment.Segment.{Segment}
use Rattle.vl_model.specs.History.{History}
use Rattle.vl_model.specs.declared.counter.Counter.{Counter}
use Rattle.vl_model.specs.declared.counter.Counter.TheVariants as counter
use Rattle.vl_model.specs.declared.log_frame.LogFrame.{LogFrame}
use Rattle.vl_script.specs.Script.{line_of}
use Rattle.vl_script.specs.declared.line.Line.{Line}
use Rattle.vl_script.specs.declared.line.Line.TheVariants as lines
use Rattle.vl_script_model.specs.Exchanges.{Exchange, and_later, exchange_at, exchanges_from, last_state}
use Rattle.vl_script_model.specs.Sequential.{State, files_behind, history_of, state_after, step_to}
use Rattle.vl_script_model.specs.Trial.{at_stop, before_stop}
use Rattle.vl_script_model.specs.laws.DiskSteps.{exchange_after}

none_some : {X : Type 0} (x : X) → None ≡ Some x → ⊥
none_some x e = cc

some_same : {X : Type 0} (x y : X) → Some x ≡ Some y → x ≡ y
some_same x y e = cc

pub chosen_true : {A : Type 0} (b : Bool) (x y : A) → b ≡ true → cond b x y ≡ x
chosen_true true x y e = refl
chosen_true false x y e = absurd (cc)

pub chosen_false : {A : Type 0} (b : Bool) (x y : A) → b ≡ false → cond b x y ≡ y
chosen_false true x y e = absurd (cc)
chosen_false false x y e = refl

pub is_within : (a b : ℕ) → a ≤ b → nat_le a b ≡ true
is_within a b le = grind (arith, nat_tests)

pub is_past : (a b : ℕ) → b < a → nat_le a b ≡ false
is_past a b lt = grind (arith, nat_tests)

-- ---- the lines before a stop

module _ (stop : ℕ) where
  -- behind this line no more calls were made than pass
  abbrev pub Passes : Exchange → Type 0
  Passes e = e.after.calls ≤ stop

  before_one : (e : Exchange) (later : List Exchange) → Passes e → before_stop stop (e ∷ later) ≡ e ∷ before_stop stop later
  before_one e later passes = chosen_true (nat_le e.after.calls stop) (e ∷ before_stop stop later) [] (is_within e.after.calls stop passes)

  at_one : (e : Exchange) (later : List Exchange) → Passes e → at_stop stop (e ∷ later) ≡ at_stop stop later
  at_one e later passes = chosen_true (nat_le e.after.calls stop) (at_stop stop later) (Some e) (is_within e.after.calls stop passes)

  -- some first lines that pass are among them
  pub before_front : (es : List Exchange) (m : ℕ) → AllByRecursion Passes (take m es) → m ≤ length es
      → (take m (before_stop stop es) ≡ take m es) × (m ≤ length (before_stop stop es))
  before_front es zero all le = (refl, zero-le)
  before_front [] (suc m) all le = absurd (omega (arith, le))
  before_front (e ∷ es) (suc m) (passes, all) le =
      let later = before_front es m all (omega (arith, le)) in
      let one = before_one e es passes in (
        ap (take (suc m)) one ∙ ap (λ (xs : List Exchange). e ∷ xs) later.0,
        subst (λ (xs : List Exchange). suc m ≤ length xs) (sym one) (omega (arith, later.1)),
      )

  -- all lines, where each passes
  pub before_all : (es : List Exchange) → AllByRecursion Passes es → (before_stop stop es ≡ es) × (at_stop stop es ≡ None)
  before_all [] all = (refl, refl)
  before_all (e ∷ es) (passes, all) =
      let later = before_all es all in
      (before_one e es passes ∙ ap (λ (xs : List Exchange). e ∷ xs) later.0, at_one e es passes ∙ later.1)

  -- those up to the first that doesn't pass
  pub before_met : (es : List Exchange) (m : ℕ) (e : Exchange) → AllByRecursion Passes (take m es) → slice_get es m ≡ Some e
      → stop < e.after.calls → (before_stop stop es ≡ take m es) × (at_stop stop es ≡ Some e)
  before_met [] m e all is past = absurd (none_some e is)
  before_met (x ∷ es) zero e all is past =
      let same : x ≡ e = some_same x e is in
      let fails : nat_le x.after.calls stop ≡ false = is_past x.after.calls stop
      (subst (λ (y : Exchange). stop < y.after.calls) (sym same) past) in (
        chosen_false (nat_le x.after.calls stop) (x ∷ before_stop stop es) [] fails,
        chosen_false (nat_le x.after.calls stop) (at_stop stop es) (Some x) fails ∙ is,
      )
  before_met (x ∷ es) (suc m) e (passes, all) is past =
      let later = before_met es m e all is past in
      (before_one x es passes ∙ ap (λ (xs : List Exchange). x ∷ xs) later.0, at_one x es passes ∙ later.1)

  -- and a line that passes, behind first ones that do, is one of them
  pub before_get : (es : List Exchange) (m : ℕ) (e : Exchange) → AllByRecursion Passes (take (suc m) es) → slice_get es m ≡ Some e
      → slice_get (before_stop stop es) m ≡ Some e
  before_get [] m e all is = absurd (none_some e is)
  before_get (x ∷ es) zero e (passes, all) is = ap (λ (xs : List Exchange). slice_get xs 0) (before_one x es passes) ∙ is
  before_get (x ∷ es) (suc m) e (passes, all) is =
      ap (λ (xs : List Exchange). slice_get xs (suc m)) (before_one x es passes) ∙ before_get es m e all is

  -- so few calls were made behind the last of them
  pub last_within : (es : List Exchange) (s : State) → s.calls ≤ stop → AllByRecursion Passes es → (last_state s es).calls ≤ stop
  last_within [] s within all = within
  last_within (e ∷ es) s within (passes, all) = last_within es e.after passes all

  -- one more line that passes
  pub all_next : (es : List Exchange) (m : ℕ) (e : Exchange) → AllByRecursion Passes (take m es) → slice_get es m ≡ Some e → Passes e
      → AllByRecursion Passes (take (suc m) es)
  all_next [] m e all is passes = tt
  all_next (x ∷ es) zero e all is passes = (subst Passes (sym (some_same x e is)) passes, tt)
  all_next (x ∷ es) (suc m) e (first, all) is passes = (first, all_next es m e all is passes)

-- ---- the line behind some first ones

pub last_next : (es : List Exchange) (s : State) (m : ℕ) (e : Exchange) → slice_get es m ≡ Some e → last_state s (take (suc m) es) ≡ e.after
last_next [] s m e is = absurd (none_some e is)
last_next (x ∷ es) s zero e is = ap (λ (y : Exchange). y.after) (some_same x e is)
last_next (x ∷ es) s (suc m) e is = last_next es x.after m e is

pub none_next : (es : List Exchange) (m : ℕ) → slice_get es m ≡ None → take (suc m) es ≡ take m es
none_next [] zero is = refl
none_next [] (suc m) is = refl
none_next (x ∷ es) zero is = absurd (none_some x (sym is))
none_next (x ∷ es) (suc m) is = ap (λ (xs : List Exchange). x ∷ xs) (none_next es m is)

-- ---- the numbers that files have are few: each file takes a call at least, and the first one five more

-- how many changing calls are counted
pub calls_counted : (n count : ℕ) → count ≤ 2 ^ 64 - 1 → after_calls n count ≡ min (count + n) (2 ^ 64 - 1)
calls_counted zero count small = omega (arith, small)
calls_counted (suc n) count small = let so_far = calls_counted n count small in omega (arith, so_far, small)

-- a step that made a file takes a call at least
abbrev TakesOne : Ruling StepAnswer → Type 0
TakesOne r = (number : ℕ) → r.answer ≡ Stepped number → 1 ≤ r.calls

module _ (l : Layout) (h : History) where
  idle_one : TakesOne (leaving Idle h l)
  idle_one number is = absurd cc

  halted_one : (file : FileName) → TakesOne (leaving (Halted file) h l)
  halted_one file number is = absurd cc

  used_one : (c : Counter) → TakesOne (leaving (Exhausted c) h l)
  used_one c number is = absurd cc

  either_one : (b : Bool) (r s : Ruling StepAnswer) → TakesOne r → TakesOne s → TakesOne (cond b r s)
  either_one true r s here there = here
  either_one false r s here there = there

  rotate_one : TakesOne (rotate_ruling l h)
  rotate_one = by l.halted
    where
      of : (frames : List LogFrame) → TakesOne (rotate_of frames l h)
      of [] = idle_one
      of (f ∷ fs) =
          either_one (has_no_number l.next_log 1) (leaving (Exhausted counter.Log) h l) _ (used_one counter.Log)
          (either_one (has_no_epoch l) (leaving (Exhausted counter.Version) h l) _ (used_one counter.Version) (λ number is. omega arith))

      by : (o : Option FileName) → TakesOne (rotate_unless o l h)
      by (Some file) = halted_one file
      by None = of l.active.frames

  flush_one : TakesOne (flush_ruling l h)
  flush_one = by l.halted
    where
      of : (o : Option Segment) → TakesOne (flush_of l h o)
      of None = idle_one
      of (Some s) =
          either_one (has_no_number l.next_table 1) (leaving (Exhausted counter.Table) h l) _ (used_one counter.Table)
          (either_one (has_no_epoch l) (leaving (Exhausted counter.Version) h l) _ (used_one counter.Version) (λ number is. omega arith))

      by : (o : Option FileName) → TakesOne (flush_unless o l h)
      by (Some file) = halted_one file
      by None = of (oldest l.frozen)

-- so few files were made
abbrev pub HasFewFiles : State → Type 0
HasFewFiles s = s.files + 5 ≤ s.calls

module _ (stop : ℕ) (small : stop < 2 ^ 64 - 1) where
  few_kept : (files calls n : ℕ) → files + 5 ≤ calls → calls ≤ stop → files + 5 ≤ after_calls n calls
  few_kept files calls n few within = let counted = calls_counted n calls (omega (arith, within, small)) in omega
      (arith, counted, few, within, small)

  few_more : (files calls n made : ℕ) → made ≤ n → files + 5 ≤ calls → calls ≤ stop → after_calls n calls ≤ stop
      → (files + made) + 5 ≤ after_calls n calls
  few_more files calls n made enough few within passes =
      let counted = calls_counted n calls (omega (arith, within, small)) in omega (arith, counted, enough, few, within, passes, small)

  few_by : (files calls n : ℕ) (answer : StepAnswer) → ((number : ℕ) → answer ≡ Stepped number → 1 ≤ n) → files + 5 ≤ calls → calls ≤ stop
      → after_calls n calls ≤ stop → files_behind (step_told answer) files + 5 ≤ after_calls n calls
  few_by files calls n (Stepped number) one few within passes = few_more files calls n 1 (one number refl) few within passes
  few_by files calls n Idle one few within passes = few_kept files calls n few within
  few_by files calls n (Halted file) one few within passes = few_kept files calls n few within
  few_by files calls n (Exhausted c) one few within passes = few_kept files calls n few within

  few_after : (s : State) (line : Line) → HasFewFiles s → s.calls ≤ stop → (state_after s line).calls ≤ stop
      → HasFewFiles (state_after s line)
  few_after s (lines.Begin name) few within passes = few_kept s.files s.calls (step_to s (lines.Begin name)).calls few within
  few_after s (lines.View name) few within passes = few_kept s.files s.calls (step_to s (lines.View name)).calls few within
  few_after s (lines.Get name key) few within passes = few_kept s.files s.calls (step_to s (lines.Get name key)).calls few within
  few_after s (lines.GetTagged name key) few within passes = few_kept s.files s.calls
      (step_to s (lines.GetTagged name key)).calls few within
  few_after s (lines.Set name key value) few within passes = few_kept s.files s.calls
      (step_to s (lines.Set name key value)).calls few within
  few_after s (lines.SetTagged name key value tag) few within passes =
      few_kept s.files s.calls (step_to s (lines.SetTagged name key value tag)).calls few within
  few_after s (lines.Scan name low high limit way) few within passes =
      few_kept s.files s.calls (step_to s (lines.Scan name low high limit way)).calls few within
  few_after s (lines.Delete name key) few within passes = few_kept s.files s.calls (step_to s (lines.Delete name key)).calls few within
  few_after s (lines.Commit name) few within passes = few_kept s.files s.calls (step_to s (lines.Commit name)).calls few within
  few_after s (lines.Drop name) few within passes = few_kept s.files s.calls (step_to s (lines.Drop name)).calls few within
  few_after s lines.Rotate few within passes =
      let r = rotate_ruling s.store.layout (history_of s) in
      few_by s.files s.calls r.calls r.answer (rotate_one s.store.layout (history_of s)) few within passes
  few_after s lines.Flush few within passes =
      let r = flush_ruling s.store.layout (history_of s) in
      few_by s.files s.calls r.calls r.answer (flush_one s.store.layout (history_of s)) few within passes
  few_after s (lines.Keep versions) few within passes = few_kept s.files s.calls (step_to s (lines.Keep versions)).calls few within
  few_after s (lines.Plan name) few within passes =
      few_more s.files s.calls (step_to s (lines.Plan name)).calls (step_to s (lines.Plan name)).calls (omega arith) few within passes
  few_after s (lines.Drain name segment) few within passes =
      let made = (step_to s (lines.Drain name segment)).calls in
      few_more s.files s.calls made made (omega arith) few within passes
  few_after s (lines.Install name) few within passes = few_kept s.files s.calls (step_to s (lines.Install name)).calls few within
  few_after s (lines.GetAt name key number) few within passes =
      few_kept s.files s.calls (step_to s (lines.GetAt name key number)).calls few within
  few_after s lines.Sweep few within passes = few_kept s.files s.calls (step_to s lines.Sweep).calls few within
  few_after s lines.Stats few within passes = few_kept s.files s.calls (step_to s lines.Stats).calls few within
  few_after s (lines.Pick name percent) few within passes = few_kept s.files s.calls (step_to s (lines.Pick name percent)).calls few within
  few_after s (lines.Batch name) few within passes = few_kept s.files s.calls (step_to s (lines.Batch name)).calls few within
  few_after s (lines.Move name) few within passes = few_kept s.files s.calls (step_to s (lines.Move name)).calls few within

  few_exchange : (s : State) (text : List ℕ) (e : Exchange) → exchange_at s text ≡ Some e → HasFewFiles s → s.calls ≤ stop → Passes stop e
      → HasFewFiles e.after
  few_exchange s text e is few within passes =
      let line = exchange_after s (line_of text) e is in
      subst HasFewFiles (sym line.1) (few_after s line.0 few within (subst (λ (t : State). t.calls ≤ stop) line.1 passes))

  few_first : (s : State) (text : List ℕ) (texts : List (List ℕ)) (m : ℕ) (o : Option Exchange) → exchange_at s text ≡ o
      → ((after : State) → HasFewFiles after → after.calls ≤ stop → AllByRecursion (Passes stop) (take m (exchanges_from after texts))
      → HasFewFiles (last_state after (take m (exchanges_from after texts))))
      → HasFewFiles s → s.calls ≤ stop → AllByRecursion (Passes stop) (take (suc m) (and_later (λ e. exchanges_from e.after texts) o))
      → HasFewFiles (last_state s (take (suc m) (and_later (λ e. exchanges_from e.after texts) o)))
  few_first s text texts m None is later few within all = few
  few_first s text texts m (Some e) is later few within all =
      later e.after (few_exchange s text e is few within all.0) all.0 all.1

  -- Behind lines that pass few files were made.
  pub last_few : (texts : List (List ℕ)) (s : State) (m : ℕ) → HasFewFiles s → s.calls ≤ stop
      → AllByRecursion (Passes stop) (take m (exchanges_from s texts)) → HasFewFiles (last_state s (take m (exchanges_from s texts)))
  last_few [] s zero few within all = few
  last_few [] s (suc m) few within all = few
  last_few (text ∷ texts) s zero few within all = few
  last_few (text ∷ texts) s (suc m) few within all =
      few_first s text texts m (exchange_at s text) refl (λ after. last_few texts after m) few within all
