-- What is so of a merge stays where room was made for its next table.
use Rattle.std.specs.Prelude.{◌≡◌, ℕ, Bool, List, length, take, drop, Option}
use Rattle.std.specs.List.{AllZip}
use Rattle.std.proofs.Common.{ap, sym, subst}
use Rattle.vl_compact.specs.Keys.{behind}
use Rattle.vl_compact.specs.Next.{IsFirstOf}
use Rattle.vl_compact.specs.Progress.{HasRead, IsNextOf, IsTableFile, left_behind}
use Rattle.vl_compact.specs.laws.ReadLaws.{next_alike, read_alike}
use Rattle.vl_compact.specs.declared.files.Synced.{Synced}
use Rattle.vl_compact.specs.declared.job.Job.{Job}
use Rattle.vl_compact.specs.declared.next.Next.{Next}
use Rattle.vl_disk.specs.declared.read_fault.ReadFault.{ReadFault}
use Rattle.vl_disk.specs.declared.writer.Writer.{Ghosts as Writers}
use Rattle.vl_engine_model.specs.Merging.{merged_entries, outputs}
use Rattle.vl_engine_model.specs.Tables.{cut_into_tables}
use Rattle.vl_engine_model.specs.declared.job.Job as laid_job
use Rattle.vl_model.specs.declared.entry.Entry.{Entry}
use Rattle.vl_steps.specs.Drawing.{IsSameJob}
use Rattle.vl_steps.specs.Merging.{HasMerge}
use Rattle.vl_version.specs.declared.base.Base.{Base}

-- as far as it has come
pub has_same : {H R W : Type 0} (writers : Writers W) (bytes : H → Option (List ℕ)) {k : _} (old new : Job (Base H R) H W k)
    (j : laid_job.Job) → IsSameJob old new → HasMerge writers bytes old j → HasMerge writers bytes new j
has_same {H} {R} {W} writers bytes {k} old new j same has =
    subst (λ (x : Job (Base H R) H W k). HasMerge writers bytes x j) (sym same.same) (record {
      is = record {
        tables = has.is.tables;
        inputs = has.is.inputs;
        numbers = has.is.numbers;
        base = has.is.base;
        entries = has.is.entries;
        target = has.is.target;
        floor = has.is.floor;
        keep = has.is.keep;
        some = has.is.some;
      };
      made = subst (λ (ts : List (Synced W k)). AllZip (IsTableFile writers) ts (take (length ts) (outputs j))) (sym same.made) has.made;
      others = subst (λ (ts : List (Synced W k)). drop (length ts) (outputs j) ≡ cut_into_tables (behind old.after (merged_entries j)))
          (sym same.made) has.others;
      needless_are = has.needless_are;
      ended = λ ended. subst (λ (ts : List (Synced W k)). length ts ≡ length (outputs j)) (sym same.made) (has.ended ended);
    })

module _ {V H W : Type 0} {k : _} (old new : Job V H W k) (same : IsSameJob old new) where
  -- up to where it has read its inputs,
  pub read_same : (bytes : H → Option (List ℕ)) → HasRead bytes old → HasRead bytes new
  read_same bytes read =
      read_alike bytes old new (ap (λ (j : Job V H W k). j.after) same.same) (ap (λ (j : Job V H W k). j.inputs) same.same)
      (ap (λ (j : Job V H W k). j.ended) same.same) read

  -- and what it goes on with.
  module _ {C : Type 0} (next : Next C) where
    pub next_same : (stands_to : C → (Entry → Bool) → Type 0) (may_fail : C → ReadFault → Type 0) (bytes : H → Option (List ℕ))
        → IsNextOf stands_to may_fail bytes old next → IsNextOf stands_to may_fail bytes new next
    next_same stands_to may_fail bytes is =
        next_alike bytes stands_to may_fail old new next (ap (λ (j : Job V H W k). j.after) same.same)
        (ap (λ (j : Job V H W k). j.inputs) same.same) (ap (λ (j : Job V H W k). j.ended) same.same) is

    pub first_same : (left : C → Option (List Entry)) (j : laid_job.Job) → IsFirstOf left j (left_behind j old.after) next
        → IsFirstOf left j (left_behind j new.after) next
    first_same left j first = subst (λ (o : Option (List ℕ)). IsFirstOf left j (left_behind j o) next)
        (sym (ap (λ (i : Job V H W k). i.after) same.same)) first
