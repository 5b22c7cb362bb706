-- The end of a merge by an install: the open merge is none then, but where it is handed back.
use Rattle.std.proofs.Common.{◌≡◌, ℕ, List, [], ◌∷◌, ◌++◌, refl, sym, ap, ◌∙◌, subst}
use Rattle.std.specs.Prelude.{Bool, true, false, if◌then◌else◌, Option, None, Some, Result, Ok, Err}
use Rattle.std.specs.Option.{ForSome}
use Rattle.vl_compact.specs.declared.job.Job as given
use Rattle.vl_engine_laws.specs.Represents.{file_of}
use Rattle.vl_disk.specs.declared.writer.Writer.{Ghosts as Writers}
use Rattle.vl_steps.specs.Installing.{HandsBack}
use Rattle.vl_steps.specs.Merging.{install_outcome}
use Rattle.vl_steps.specs.declared.fails.InstallFail.{InstallFail}
use Rattle.vl_steps.specs.declared.fails.InstallFail.TheVariants as fails
use Rattle.vl_engine_laws.specs.declared.open.OpenMerge.{OpenMerge}
use Rattle.vl_engine_model.specs.Jobs.{Made, job_ended}
use Rattle.vl_engine_model.specs.LockHistory.{IsOwn, last_layout, open_job}
use Rattle.vl_engine_model.specs.Ruling.{Ruling, halted_at, has_no_epoch}
use Rattle.vl_engine_model.specs.Rulings.Install.{InstallAnswer, install_checked, install_ruling, install_unless, moved_since, race}
use Rattle.vl_engine_model.specs.declared.file_name.FileName.{FileName}
use Rattle.vl_engine_model.specs.declared.job.Job.{Job}
use Rattle.vl_engine_model.specs.declared.layout.Layout.{Layout}
use Rattle.vl_engine_model.specs.declared.lock_history.LockEntry.{LockEntry}
use Rattle.vl_engine_model.specs.declared.lock_history.LockStep.TheVariants.{JobEnded}
use Rattle.vl_model.specs.Conflicts.{Named}
use Rattle.vl_model.specs.History.{History}
use Rattle.vlstore.specs.Entries.{install_entry}
use Rattle.vlstore.specs.Handing.{IsHandedInto, job_back}
use Rattle.vlstore.specs.Knowing.{Knows}
use Rattle.vlstore.specs.Lists.{layout_by}
use Rattle.vlstore.specs.Merges.{MergesBy, lent_in}
use Rattle.vl_engine_model.specs.laws.LockHistoryLaws.{none≢some}
use Rattle.vlstore.specs.declared.locked.Origin.{Origin}
use Rattle.vlstore.proofs.Drawing.{some_is}
use Rattle.vlstore.proofs.Lending.{merges_ended}
use Rattle.vl_turn.specs.Entries.{with_entry}
use Rattle.vl_version.specs.declared.base.Base.{Base}

-- ---- what a ruling leaves

module _ (l : Layout) (h : History) (job : Job) (made : Made) where
  abbrev EndsJob : Ruling InstallAnswer → Type 0
  EndsJob r = r.layout.job ≡ None

  either : (b : Bool) (r s : Ruling InstallAnswer) → EndsJob r → EndsJob s → EndsJob (if b then r else s)
  either true r s of_r of_s = of_r
  either false r s of_r of_s = of_s

  ends_checked : (raced : Option Named) → EndsJob (install_checked l h job made raced)
  ends_checked (Some named) = refl
  ends_checked None = either (has_no_epoch l) _ _ refl refl

  ends_unless : (halted : Option FileName) → EndsJob (install_unless halted l h job made)
  ends_unless (Some name) = refl
  ends_unless None = ends_checked (race job (moved_since l.job))

  pub ends : EndsJob (install_ruling l h job made)
  ends = ends_unless l.halted

-- ---- what the engine keeps

module _ (o : Origin) (list : List LockEntry) (merging next : Option OpenMerge) (is : MergesBy o list merging) (s : ℕ)
    (own : IsOwn s (open_job None list)) (job : Job) (made : Made) (h : History) where
  abbrev l : Layout
  l = layout_by o list

  ruled : next ≡ None → MergesBy o (list ++ record {
    session = s;
    step = JobEnded;
    layout = (install_ruling l h job made).layout;
  } ∷ []) next
  ruled none = merges_ended o list merging next is s (install_ruling l h job made).layout own none (ends l h job made)

  pub install_merges : {V H W : Type 0} {k : _} (asked : given.Job V H W k) (r : Result (Unit {0}) (InstallFail V H W k))
      → HandsBack asked merging next r → MergesBy o (with_entry list (install_entry job made s l h (install_outcome r))) next
  install_merges asked (Ok done) handed = ruled handed
  install_merges asked (Err (fails.Halted name)) handed = ruled handed
  install_merges asked (Err (fails.Raced key number)) handed = ruled handed
  install_merges asked (Err (fails.Exhausted counter)) handed = ruled handed
  install_merges asked (Err (fails.NoMemory back)) handed = subst (MergesBy o list) (sym handed.1) is
  install_merges asked (Err (fails.Disk name)) handed =
      merges_ended o list merging next is s (halted_at (file_of name) (job_ended made l)) own handed refl

-- where it is handed back, it is as it was
pub job_back_is : {V H W : Type 0} {k : _} (job : given.Job V H W k) (old new : Option OpenMerge)
    (r : Result (Unit {0}) (InstallFail V H W k)) → HandsBack job old new r → ForSome (job_back r) (λ back. back ≡ job)
job_back_is job old new (Ok done) handed = λ x at. absurd (none≢some x at)
job_back_is job old new (Err (fails.Halted name)) handed = λ x at. absurd (none≢some x at)
job_back_is job old new (Err (fails.Raced key number)) handed = λ x at. absurd (none≢some x at)
job_back_is job old new (Err (fails.Exhausted counter)) handed = λ x at. absurd (none≢some x at)
job_back_is job old new (Err (fails.NoMemory back)) handed = λ x at. sym (some_is back x at) ∙ handed.0
job_back_is job old new (Err (fails.Disk name)) handed = λ x at. absurd (none≢some x at)

-- and is the session's still
module _ {H R W : Type 0} (writers : Writers W) (bytes : H → Option (List ℕ)) {k : _} (v w : Knows) (origin : w.origin ≡ v.origin)
    (tells : w.tells ≡ v.tells) (session : w.session ≡ v.session) (job : given.Job (Base H R) H W k)
    (handed : IsHandedInto v writers bytes job) where
  still : w.own ≡ v.own → IsHandedInto w writers bytes job
  still own =
      let way = handed.under_way in record {
        under_way = record {
          planned = way.planned;
          own = ap (open_job None) own ∙ (way.own ∙ ap (λ (n : ℕ). Some (n, way.planned)) (sym session));
          lent = way.lent;
          lent_is = ap (λ (es : List LockEntry). lent_in (last_layout w.origin.layout es)) own
              ∙ (ap (λ (o : Origin). lent_in (last_layout o.layout v.own)) origin ∙ way.lent_is);
          drawn = way.drawn;
          distinct = way.distinct;
          tells = λ told. way.tells (sym tells ∙ told);
          leavings_tell = λ told. way.leavings_tell (sym tells ∙ told);
          has_merge = λ told. way.has_merge (sym tells ∙ told);
        };
        ended = handed.ended;
        has_all = λ told. handed.has_all (sym tells ∙ told);
      }

  pub handed_again : (planned : Job) (made : Made) (s : ℕ) (l : Layout) (h : History) (old new : Option OpenMerge)
      (r : Result (Unit {0}) (InstallFail (Base H R) H W k))
      → w.own ≡ with_entry v.own (install_entry planned made s l h (install_outcome r))
      → HandsBack job old new r → ForSome (job_back r) (IsHandedInto w writers bytes)
  handed_again planned made s l h old new (Ok done) own back = λ x at. absurd (none≢some x at)
  handed_again planned made s l h old new (Err (fails.Halted name)) own back = λ x at. absurd (none≢some x at)
  handed_again planned made s l h old new (Err (fails.Raced key number)) own back = λ x at. absurd (none≢some x at)
  handed_again planned made s l h old new (Err (fails.Exhausted counter)) own back = λ x at. absurd (none≢some x at)
  handed_again planned made s l h old new (Err (fails.NoMemory given_back)) own back = λ x at.
      subst (IsHandedInto w writers bytes) (sym back.0 ∙ some_is given_back x at) (still own)
  handed_again planned made s l h old new (Err (fails.Disk name)) own back = λ x at. absurd (none≢some x at)
