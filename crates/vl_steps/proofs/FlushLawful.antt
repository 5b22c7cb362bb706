-- Over what an engine represents a flush is refused for want of memory alone.
use Rattle.std.specs.Prelude.{◌≡◌, ◌≤◌, ◌<◌, ◌^◌, ◌+◌, ℕ, List, [], ◌∷◌, map, Option, None, Some, Result, Ok, Err, IsErrAnd, IsErrOf}
use Rattle.std.specs.List.{AllZip}
use Rattle.std.proofs.Common.{sym, ap, subst, ◌∙◌}
use Rattle.vl_back.specs.Deciding.{MayFlush}
use Rattle.vl_back.specs.FlushEdits.{flush_switch}
use Rattle.vl_back.specs.Tables.{AreSpellable}
use Rattle.vl_back.specs.declared.stage_fail.StageFail.TheVariants as why
use Rattle.vl_back.specs.declared.stage_fail.StageFail.{StageFail}
use Rattle.vl_disk.specs.DiskState.{DiskState}
use Rattle.vl_steps.specs.laws.FlushSteps.{numbers_held}
use Rattle.vl_steps.specs.laws.Flushed.{runs_on}
use Rattle.vl_engine_laws.specs.Laid.{IsMemtableOf}
use Rattle.vl_engine_laws.specs.Represents.{IsHeld, Represents}
use Rattle.vl_engine_laws.specs.declared.kept.Core.{Core}
use Rattle.vl_engine_laws.specs.laws.FlushApplies.{flush_applies, flush_spells}
use Rattle.vl_engine_laws.specs.laws.FlushLaws.{edits_of, flush_either}
use Rattle.vl_engine_laws.specs.laws.FlushRulings.{flush_waits}
use Rattle.vl_engine_laws.specs.laws.LaidFlush.{oldest_entries}
use Rattle.vl_engine_laws.specs.laws.WaitingLaws.{waiting_edits}
use Rattle.vl_engine_model.specs.Rulings.Flush.{flushed}
use Rattle.vl_engine_model.specs.Sources.{head, oldest}
use Rattle.vl_engine_model.specs.declared.layout.Layout.{Layout}
use Rattle.vl_engine_model.specs.declared.segment.Segment.{Segment}
use Rattle.vl_manifest.specs.States.{next_state}
use Rattle.vl_manifest.specs.declared.edit.Edit.{Edit}
use Rattle.vl_manifest.specs.declared.state.ManifestState.{ManifestState}
use Rattle.vl_memtable.specs.declared.frozen_log.FrozenLog.{FrozenLog}
use Rattle.vl_model.specs.History.{History}
use Rattle.vl_model.specs.Limits.{max_file_number}
use Rattle.vl_model.specs.Placement.{placed}
use Rattle.vl_model.specs.declared.entry.Entry.{Entry}
use Rattle.vl_version.specs.Oldest.{oldest_frozen}

-- ---- faults

err_same : {B : Type 0} (a b : StageFail) → IsErrOf {T = B} (Err a) b → a ≡ b
err_same a b e = cc

-- want of memory isn't a refusal
pub no_memory : {B : Type 0} (result : Result B StageFail) → IsErrAnd result (λ f. f ≡ why.NoMemory)
    → IsErrOf result why.NotLawful → ⊥
no_memory (Ok x) and is = cc
no_memory (Err f) and is = apart (sym and ∙ err_same f why.NotLawful is)
  where
    apart : why.NoMemory ≡ why.NotLawful → ⊥
    apart e = cc

abbrev err_of : (A : Type 0) → StageFail → Result A StageFail
err_of A e = Err e

-- the same failure, in another result
pub same_fault : {A B : Type 0} (e : StageFail) (result : Result B StageFail) → IsErrAnd result (λ f. f ≡ e)
    → (IsErrOf {T = A} (Err e) why.NotLawful → ⊥) → IsErrOf result why.NotLawful → ⊥
same_fault e (Ok x) and not is = cc
same_fault {A} e (Err f) and not is = not (ap (err_of A) (sym and ∙ err_same f why.NotLawful is))

-- ---- what is represented

some_frozen : (xs : List FrozenLog) (ys : List Segment) (s : Segment) → AllZip IsMemtableOf xs ys → oldest ys ≡ Some s
    → oldest_frozen xs ≡ None → ⊥
some_frozen [] [] s all waits none = cc
some_frozen [] (y ∷ ys) s all waits none = all
some_frozen (x ∷ xs) [] s all waits none = all
some_frozen (x ∷ []) (y ∷ ys) s all waits none = cc
some_frozen (x ∷ w ∷ xs) (y ∷ []) s all waits none = all.1
some_frozen (x ∷ w ∷ xs) (y ∷ z ∷ ys) s all waits none = some_frozen (w ∷ xs) (z ∷ ys) s all.1 waits none

module _ {H : Type 0} (bytes : H → Option (List ℕ)) (core : Core H) (told : Option DiskState) (h : History) (l : Layout)
    (is : Represents bytes core told h l) (none : core.front.halted ≡ None) (may : MayFlush core.back) where
  running : l.halted ≡ None
  running = runs_on core h l is.stands.fronts none

  held : IsHeld core.back told h l
  held = is.held running

  waits : (s : Segment) × (oldest l.frozen ≡ Some s)
  waits = flush_waits core.back l h running is.stands.fronts.version (numbers_held core.back held.base l held.back_is) may.waits

  -- a memtable is frozen
  pub oldest_there : oldest_frozen core.version.behind.frozen.items ≡ None → ⊥
  oldest_there gone = some_frozen core.version.behind.frozen.items l.frozen waits.0 is.stands.has.frozen waits.1 gone

  module _ (log : FrozenLog) (last : oldest_frozen core.version.behind.frozen.items ≡ Some log) where
    -- its table can be spelled
    pub oldest_spells : AreSpellable (map placed log.memtable.entries)
    oldest_spells = subst (λ (es : List Entry). AreSpellable (map placed es))
        (sym (oldest_entries bytes core.version l waits.0 log is.stands.has last waits.1))
        (flush_spells held.base l h waits.0 held.state held.is_base is.stands.tidy held.holds waits.1)

  -- and its switch applied
  pub switch_applies : 1 ≤ core.back.next_log → core.back.next_log < 2 ^ 32
      → (state : ManifestState) × (next_state (flush_switch core.front.log.number core.back) core.back.state ≡ Some state)
  switch_applies first fits =
      let table : core.back.state.next_table ≡ l.next_table = ap (λ (s : ManifestState). s.next_table) held.back_is.state in
      let applies = flush_applies held.base l h waits.0 held.state held.is_base is.stands.tidy held.holds waits.1
      held.back_is.next_table (subst (λ (n : ℕ). n ≤ max_file_number) table may.table)
      (subst (λ (n : ℕ). 1 ≤ n) held.back_is.next_log first) (subst (λ (n : ℕ). n < 2 ^ 32) held.back_is.next_log fits) in (
        applies.0,
        ap (λ (es : List Edit). next_state es core.back.state)
            (ap (λ (n : ℕ). flush_switch n core.back) is.stands.fronts.number
            ∙ waiting_edits core.back held.base l waits.0 held.back_is waits.1)
            ∙ ap (next_state (edits_of l waits.0)) held.back_is.state
            ∙ flush_either held.base.state l.next_table (head (flushed l waits.0)) (flushed l waits.0).covered l.next_log
            (l.next_table + 1) l.next_table
            ∙ applies.1,
      )
