-- A merge that goes back to its session: it is the open one, and what an engine asks of it is so.
use Rattle.std.proofs.Common.{◌≡◌, ℕ, List, [], ◌∷◌, ◌++◌, length, map, refl, sym, ap, ◌∙◌, subst, arith}
use Rattle.std.proofs.lemmas.Bool.{false≢true}
use Rattle.std.proofs.lemmas.Bool.Decides.{nat_tests}
use Rattle.std.specs.Prelude.{Bool, true, false, ◌==◌, ◌||◌, is_some, take, Option, None, Some, Result, Ok, Err, IfOk, IsSome}
use Rattle.std.specs.List.{AllByRecursion, AllZip}
use Rattle.std.specs.Option.{ForSome, option_map}
use Rattle.vl_compact.specs.Progress.{IsTableFile, made_of}
use Rattle.vl_compact.specs.declared.files.Lent.{Lent}
use Rattle.vl_compact.specs.declared.files.Synced.{Synced}
use Rattle.vl_compact.specs.declared.job.Job as made
use Rattle.vl_disk.specs.DiskState.{new_file}
use Rattle.vl_disk.specs.declared.name.Name.{Name}
use Rattle.vl_disk.specs.declared.watched.Watched.{Ghosts}
use Rattle.vl_disk.specs.declared.writer.Writer.{Ghosts as Writers}
use Rattle.vl_steps.specs.Drawing.{IsNewTo, IsSameJob}
use Rattle.vl_steps.specs.Installing.{IsHandedIn, numbers_in}
use Rattle.vl_steps.specs.Merging.{HasMerge, fresh_outcome}
use Rattle.vl_steps.specs.laws.SameJobs.{has_same}
use Rattle.vl_engine.specs.UnderWay.{IsUnderWay}
use Rattle.vl_steps.specs.declared.fails.StepFail.{StepFail}
use Rattle.vl_engine_laws.specs.declared.open.OpenMerge.{OpenMerge}
use Rattle.vl_engine_model.specs.Decides.{Answered}
use Rattle.vl_engine_model.specs.Jobs.{AreDistinct, AreLent, tables_made}
use Rattle.vl_engine_model.specs.LockHistory.{HasOpen, IsLegal, last_layout, nothing_open, open_job}
use Rattle.vl_engine_model.specs.Merging.{outputs}
use Rattle.vl_engine_model.specs.Rulings.Fresh.{Drawn}
use Rattle.vl_engine_model.specs.Sources.{numbers_of}
use Rattle.vl_engine_model.specs.declared.job.Job.{Job}
use Rattle.vl_engine_model.specs.declared.job.OpenJob.{OpenJob}
use Rattle.vl_engine_model.specs.declared.layout.Layout.{Layout}
use Rattle.vl_engine_model.specs.declared.lock_history.LockEntry.{LockEntry}
use Rattle.vl_engine_model.specs.laws.LockHistoryLaws.{none≢some}
use Rattle.vl_engine_model.specs.laws.OwnThings.{open_job-is}
use Rattle.vl_model.specs.History.{History}
use Rattle.vl_model.specs.Numbers.{has}
use Rattle.vl_model.specs.declared.entry.Entry.{Entry}
use Rattle.vlstore.specs.Entries.{fresh_entry}
use Rattle.vlstore.specs.Handing.{IsHandedInto, IsLentTo, IsUnderWayIn}
use Rattle.vlstore.specs.Knowing.{Knows}
use Rattle.vlstore.specs.Lists.{layout_by}
use Rattle.vlstore.specs.Merges.{lent_in}
use Rattle.vlstore.specs.declared.locked.Origin.{Origin}
use Rattle.vlstore.proofs.Drawing.{IsLent, drawn_more, fresh_lent, fresh_own, some_is}
use Rattle.vlstore.proofs.Legal.{has as has_open}
use Rattle.vl_turn.specs.Entries.{with_entry}
use Rattle.vl_version.specs.declared.base.Base.{Base}

-- ---- what is open

-- what an engine keeps of the open merge, with these files lent to it
pub record HasLent (merging : Option OpenMerge) (lent : List ℕ) : Type 0 where
  pub merge : OpenMerge
  pub is_open : merging ≡ Some merge
  pub lent_is : merge.lent.items ≡ lent

pub lent_of : (merging : Option OpenMerge) (lent : List ℕ)
    → option_map (λ (m : OpenMerge). m.lent.items) merging ≡ Some lent → HasLent merging lent
lent_of None lent is = absurd (none≢some lent is)
lent_of (Some m) lent is = record { merge = m; is_open = refl; lent_is = some_is m.lent.items lent is }

-- the layout's job is this one, with these files lent to it
pub record HasJob (l : Layout) (job : Job) (lent : List ℕ) : Type 0 where
  pub open_job : OpenJob
  pub is_open : l.job ≡ Some open_job
  pub job_is : open_job.job ≡ job
  pub lent_is : open_job.lent ≡ lent

job_of : (l : Layout) (o : Option OpenJob) (job : Job) (lent : List ℕ) → l.job ≡ o
    → option_map (λ (j : OpenJob). j.job) o ≡ Some job → option_map (λ (j : OpenJob). j.lent) o ≡ Some lent → HasJob l job lent
job_of l None job lent at is lent_is = absurd (none≢some job is)
job_of l (Some j) job lent at is lent_is =
    record { open_job = j; is_open = at; job_is = some_is j.job job is; lent_is = some_is j.lent lent lent_is }

pub has_job : (o : Origin) (list : List LockEntry) (s : ℕ) (job : Job) (lent : List ℕ) → HasOpen nothing_open o.layout
    → IsLegal o.number list → open_job None list ≡ Some (s, job) → lent_in (layout_by o list) ≡ Some lent
    → HasJob (layout_by o list) job lent
has_job o list s job lent start legal is lent_is =
    job_of (layout_by o list) (layout_by o list).job job lent refl
    ((has_open o list start legal s).job
    ∙ ap (option_map (λ (x : ℕ × Job). x.1)) (open_job-is nothing_open list ∙ is)) lent_is

-- ---- what an engine asks

-- What is so where a disk told its bytes at first, is so where one like it tells them.
pub told_there : {X Y : Type 0} (o : Option X) (p : Option Y) (P : Type 0) → (o ≡ None → p ≡ None) → (is_some o ≡ true → P)
    → ForSome p (λ _. P)
told_there None p P alike all = λ y at. absurd (none≢some y (sym (alike refl) ∙ at))
told_there (Some x) p P alike all = λ y at. all refl

module _ {D H R W S : Type 0} (g : Ghosts D) (writers : Writers W) (bytes : H → Option (List ℕ)) (disk : D) (halted : Option Name)
    (merging : Option OpenMerge) {k : _} (job : made.Job (Base H R) H W k) (v : Knows) (told : Option S)
    (tells : v.tells ≡ is_some told) (alike : told ≡ None → g.told disk ≡ None) where
  pub under_way : (way : IsUnderWayIn v writers bytes job) → HasLent merging way.lent → IsUnderWay g writers disk halted merging job
  under_way way lent = record {
    merge = lent.merge;
    is_open = lent.is_open;
    drawn = subst (λ (ns : List ℕ). AllByRecursion (λ (n : ℕ). has n ns ≡ true) (numbers_in job)) (sym lent.lent_is) way.drawn;
    distinct = way.distinct;
    tells = λ running. told_there told (g.told disk) (AllByRecursion (λ (t : Synced W k). IsSome (writers.file t.writer)) job.made.items)
        alike (λ is. way.tells (tells ∙ is));
    leavings_tell = λ running. told_there told (g.told disk)
        (AllByRecursion (λ (f : Lent W k). IsSome (writers.file f.writer)) job.leavings.items) alike (λ is. way.leavings_tell (tells ∙ is));
  }

  pub handed_in : (given : IsHandedInto v writers bytes job) → HasLent merging given.under_way.lent
      → IsHandedIn g writers disk halted merging job
  handed_in given lent =
      let way = under_way given.under_way lent in record {
        ended = given.ended;
        merge = way.merge;
        is_open = way.is_open;
        drawn = way.drawn;
        distinct = way.distinct;
        tells = way.tells;
        leavings_tell = way.leavings_tell;
      }

-- ---- its files

-- a number among numbers that are all among others
among_lent : (n : ℕ) (lent ns : List ℕ) → AllByRecursion (λ (m : ℕ). has m lent ≡ true) ns → has n ns ≡ true → has n lent ≡ true
among_lent n lent [] all is = absurd (false≢true is)
among_lent n lent (x ∷ ns) all is = by_test (x == n) refl is (among_lent n lent ns all.1)
  where
    by_test : (b : Bool) → (x == n) ≡ b → (b || has n ns) ≡ true → (has n ns ≡ true → has n lent ≡ true) → has n lent ≡ true
    by_test true same is rest =
        let one : x ≡ n = grind (arith, nat_tests) in subst (λ (m : ℕ). has m lent ≡ true) one all.0
    by_test false other is rest = rest is

module _ {W : Type 0} (writers : Writers W) {k : _} where
  numbers_made : (ts : List (Synced W k)) (ess : List (List Entry)) → AllZip (IsTableFile writers) ts (take (length ts) ess)
      → map (λ (t : Synced W k). t.number) ts ≡ numbers_of (tables_made (map (λ (t : Synced W k). t.number) ts) ess)
  numbers_made [] ess all = refl
  numbers_made (t ∷ ts) [] all = absurd all
  numbers_made (t ∷ ts) (es ∷ ess) all = ap (λ (ns : List ℕ). t.number ∷ ns) (numbers_made ts ess all.1)

module _ {H R W : Type 0} (writers : Writers W) (bytes : H → Option (List ℕ)) {k : _} where
  -- the files of a merge are ones that were lent to the layout's job
  pub are_lent : (job : made.Job (Base H R) H W k) (v : Knows) (way : IsUnderWayIn v writers bytes job) (j : Job)
      → HasMerge writers bytes job j → (lent : List ℕ) → lent ≡ way.lent → AreLent lent (made_of job j)
  are_lent job v way j has_merge lent same = record {
    drawn = subst (λ (ns : List ℕ). AllByRecursion (λ (n : ℕ). has n lent ≡ true) (ns ++ left)) numbers
        (subst (λ (given : List ℕ). AllByRecursion (λ (n : ℕ). has n given ≡ true) (numbers_in job)) (sym same) way.drawn);
    distinct = subst (λ (ns : List ℕ). AreDistinct (ns ++ left)) numbers way.distinct;
  }
    where
      left : List ℕ
      left = map (λ (f : Lent W k). f.number) job.leavings.items

      numbers : map (λ (t : Synced W k). t.number) job.made.items ≡ numbers_of (made_of job j).tables
      numbers = numbers_made writers job.made.items (outputs j) has_merge.made

  numbers_same : (old new : made.Job (Base H R) H W k) → IsSameJob old new → numbers_in old ≡ numbers_in new
  numbers_same old new same =
      ap (λ (ts : List (Synced W k)). map (λ (t : Synced W k). t.number) ts ++ map (λ (f : Lent W k). f.number)
      old.leavings.items) (sym same.made)
      ∙ ap (λ (fs : List (Lent W k)). map (λ (t : Synced W k). t.number) new.made.items ++ map (λ (f : Lent W k). f.number) fs)
      (sym same.leavings)

  -- ---- a file more

  module _ (v w : Knows) (origin : w.origin ≡ v.origin) (tells : w.tells ≡ v.tells) (session : w.session ≡ v.session) (s : ℕ)
      (l : Layout) (h : History) (old new : made.Job (Base H R) H W k) (same : IsSameJob old new)
      (r : Result (Lent W k) StepFail) (now : w.own ≡ with_entry v.own (fresh_entry s l h (fresh_outcome r)))
      (way : IsUnderWayIn v writers bytes old) (lent_now : lent_in l ≡ Some way.lent) where
    lent : IsLent s l h v.origin.layout way.lent (with_entry v.own (fresh_entry s l h (fresh_outcome r))) (fresh_outcome r)
    lent = fresh_lent s l h v.origin.layout way.lent v.own way.lent_is lent_now (fresh_outcome r)

    now_lent : lent_in (last_layout w.origin.layout w.own) ≡ Some lent.then_lent
    now_lent =
        ap (λ (es : List LockEntry). lent_in (last_layout w.origin.layout es)) now
        ∙ (ap (λ (o : Origin). lent_in (last_layout o.layout (with_entry v.own (fresh_entry s l h (fresh_outcome r))))) origin ∙ lent.is)

    -- the merge is the session's as before, and what is lent to it is among what was
    pub fresh_under_way : IsUnderWayIn w writers bytes new
    fresh_under_way = record {
      planned = way.planned;
      own = ap (open_job None) now
          ∙ (fresh_own s l h v.own (fresh_outcome r) ∙ (way.own ∙ ap (λ (n : ℕ). Some (n, way.planned)) (sym session)));
      lent = lent.then_lent;
      lent_is = now_lent;
      drawn = subst (AllByRecursion (λ (n : ℕ). has n lent.then_lent ≡ true)) (numbers_same old new same)
          (drawn_more way.lent lent.then_lent (numbers_in old) lent.more way.drawn);
      distinct = subst AreDistinct (numbers_same old new same) way.distinct;
      tells = λ told. subst (AllByRecursion (λ (t : Synced W k). IsSome (writers.file t.writer))) (sym same.made)
          (way.tells (sym tells ∙ told));
      leavings_tell = λ told. subst (AllByRecursion (λ (f : Lent W k). IsSome (writers.file f.writer))) (sym same.leavings)
          (way.leavings_tell (sym tells ∙ told));
      has_merge = λ told. has_same writers bytes old new way.planned same (way.has_merge (sym tells ∙ told));
    }

    pub fresh_lent_to : (merging : Option OpenMerge) → HasLent merging way.lent → IfOk r (λ file. IsNewTo merging file.number)
        → IfOk r (IsLentTo w writers bytes new)
    fresh_lent_to merging open_merge is_new = of r lent.drawn is_new
      where
        of : (r : Result (Lent W k) StepFail)
            → ((n : ℕ) → fresh_outcome r ≡ Answered (Drawn n) → has n lent.then_lent ≡ true)
            → IfOk r (λ file. IsNewTo merging file.number) → IfOk r (IsLentTo w writers bytes new)
        of (Ok file) drawn is_new =
            let none : has file.number way.lent ≡ false =
            subst (λ (given : List ℕ). has file.number given ≡ false) open_merge.lent_is
            (is_new open_merge.merge open_merge.is_open) in
            record {
              lent = lent.then_lent;
              lent_is = now_lent;
              among = drawn file.number refl;
              other = λ among. false≢true (sym none ∙ among_lent file.number way.lent (numbers_in old) way.drawn
                  (subst (λ (ns : List ℕ). has file.number ns ≡ true) (sym (numbers_same old new same)) among));
            }
        of (Err why) drawn is_new = tt

-- a file that is lent is empty, where the disk tells its files
pub empty_told : {D W : Type 0} (writers : Writers W) {k : _} (told : Option D) (disk : D) → told ≡ Some disk
    → (r : Result (Lent W k) StepFail)
    → IfOk r (λ file. ForSome told (λ _. writers.file file.writer ≡ Some new_file))
    → IfOk r (λ file. writers.file file.writer ≡ Some new_file)
empty_told writers told disk is (Ok file) empty =
    empty disk is
empty_told writers told disk is (Err why) empty = tt
