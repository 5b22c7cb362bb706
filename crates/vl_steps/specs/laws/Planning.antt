-- What a plan and the end of a merge that is given up leave, in memory and on the disk.
use Rattle.std.specs.Prelude.{◌≡◌, ℕ, ◌+◌, Bool, false, true, if◌then◌else◌}
use Rattle.std.specs.Prelude.{◌&&◌, not, Result, Ok, Err, IfOk, is_some, List, [], ◌∷◌, ◌++◌, length, Option, None, Some, refl}
use Rattle.std.specs.Option.{ForSome, option_map}
use Rattle.std.proofs.Common.{sym, ap, subst, arith, inl, inr, ◌∙◌}
use Rattle.vl_compact.specs.Laid as compact
use Rattle.vl_compact.specs.Merges.{AreInputsOf, IsMerge, Merge, drain_in, plan_in}
use Rattle.vl_compact.specs.declared.inputs.Inputs.{Inputs}
use Rattle.vl_compact.specs.declared.job.Job.{Job as Merging}
use Rattle.vl_disk.specs.DiskState.{DiskState}
use Rattle.vl_engine_laws.specs.laws.TableFiles.{looks_told}
use Rattle.vl_steps.specs.laws.Committing.{decides_answered}
use Rattle.vl_disk.specs.declared.watched.Watched.{Ghosts}
use Rattle.vl_disk.specs.declared.writer.Writer.{Ghosts as Writers}
use Rattle.vl_engine_laws.specs.Lent.{AreLent as AreLentTo, Opens}
use Rattle.vl_steps.specs.Merging.{FitsReaders, IsJustOpen, IsMergeFor, IsMergeOf}
use Rattle.vl_engine_laws.specs.Lent.{StandsOpen}
use Rattle.vl_steps.specs.Planning.{IsChosen, PlansWhere, begins}
use Rattle.vl_engine_laws.specs.Pointed.{layout_logs}
use Rattle.vl_engine_laws.specs.Represents.{Represents, StandsFor}
use Rattle.vl_engine_laws.specs.MayStep.{Fits}
use Rattle.vl_engine_laws.specs.declared.kept.Core.{Core}
use Rattle.vl_engine_laws.specs.declared.open.OpenMerge.{OpenMerge}
use Rattle.vl_engine_laws.specs.laws.AsideLaws.{same_fits, same_represents, same_stands}
use Rattle.vl_engine_laws.specs.laws.PlanSources.{IsPart, inputs_part, none_part}
use Rattle.vl_steps.specs.laws.PlannedJobs.{job_is, levels_are}
use Rattle.vl_engine_model.specs.Decides.{Answered, Decides, as_before, no_effects}
use Rattle.vl_engine_model.specs.Jobs.{AreLent, Made, lent_numbers, loose}
use Rattle.vl_engine_model.specs.Levels.{due_from, first_into, has_point, inputs_at}
use Rattle.vl_engine_model.specs.Ruling.{Ruling, pin_of}
use Rattle.vl_engine_model.specs.Rulings.Abandon.{abandon_ruling}
use Rattle.vl_engine_model.specs.Rulings.Drain.{drain_of, drain_ruling, drain_unless}
use Rattle.vl_engine_model.specs.Rulings.Plan.{job_of, plan_of, plan_ruling, plan_unless, planned, with_job}
use Rattle.vl_engine_model.specs.Sources.{numbers_of, tables}
use Rattle.vl_engine_model.specs.Tidy.{IsRuledTidy, IsTidy}
use Rattle.vl_engine_model.specs.declared.job.Job.{Job}
use Rattle.vl_engine_model.specs.declared.job.OpenJob.{OpenJob}
use Rattle.vl_engine_model.specs.declared.job.Target.TheVariants.{InPlace, Level}
use Rattle.vl_engine_model.specs.declared.layout.Layout.{Layout}
use Rattle.vl_engine_model.specs.declared.table.Table as laid
use Rattle.vl_engine_model_laws.specs.laws.TidyRulings.{abandon_tidy, drain_tidy, plan_tidy}
use Rattle.vl_model.specs.History.{History}
use Rattle.vl_version.specs.Bases as bases
use Rattle.vl_version.specs.declared.base.Base.{Base}
use Rattle.vl_version.specs.declared.levels.Levels.{Levels}
use Rattle.vl_version.specs.declared.version.Version.{Version}

-- ---- what the ruling is

none_open : (merging : Option OpenMerge) (o : Option OpenJob) → is_some merging ≡ false → Opens merging o → o ≡ None
none_open None None none opens = refl
none_open None (Some o) none opens = absurd opens
none_open (Some m) o none opens = absurd cc

-- Where none is open one is planned just where there is one.
pub planned_where : {I J E : Type 0} (result : Result (Option J) E) (inputs : Option I) (there : Bool) (merging : Option OpenMerge)
    → is_some merging ≡ false → is_some inputs ≡ there → IfOk result (λ job. is_some job ≡ is_some inputs)
    → PlansWhere there merging result
planned_where (Ok job) inputs there merging none some begins = begins ∙ some ∙ sym (ap (λ (b : Bool). not b && there) none)
planned_where (Err why) inputs there merging none some begins = tt

-- What is chosen of the levels is chosen of the layout's.
merge_is : {H : Type 0} (bytes : H → Option (List ℕ)) (core : Core H) (h : History) (l : Layout) (levels : Levels H)
    (inputs : Option (Inputs H)) (choice : List (List laid.Table) → Option Merge) → levels ≡ core.version.behind.levels
    → ((ls : List (List laid.Table)) → compact.AreLevelsOf bytes levels ls → IsMerge bytes inputs (choice ls))
    → StandsFor bytes core h l → IsMerge bytes inputs (choice l.levels)
merge_is {H} bytes core h l levels inputs choice levels_is of is =
    of l.levels (subst (λ (x : Levels H). compact.AreLevelsOf bytes x l.levels) (sym levels_is)
    (levels_are bytes core.version l h is.has is.tidy))

-- The first table that leads into a segment is one of the tables.
into_part : (segment : ℕ) (ts : List laid.Table) (t : laid.Table) → first_into segment ts ≡ Some t → IsPart (t ∷ []) ts
into_part segment [] t is = absurd cc
into_part segment (u ∷ ts) t is = by (has_point segment u) is (into_part segment ts t)
  where
    by : (b : Bool) → (if b then Some u else first_into segment ts) ≡ Some t
        → (first_into segment ts ≡ Some t → IsPart (t ∷ []) ts) → IsPart (t ∷ []) (u ∷ ts)
    by true here later = let same : u ≡ t = cc in inr ([], ap (λ (x : laid.Table). x ∷ []) (sym same), none_part ts)
    by false there later = inl (later there)

-- While no merge is open the ruling begins what is chosen of the layout's levels: a merge of a level, or of a table.
module _ {H : Type 0} (bytes : H → Option (List ℕ)) (core : Core H) (merging : Option OpenMerge) (h : History) (l : Layout)
    (none : is_some merging ≡ false) (is : StandsOpen bytes core merging h l) (levels : Levels H)
    (levels_is : levels ≡ core.version.behind.levels) (inputs : Option (Inputs H)) where
  pub plan_chosen : ((ls : List (List laid.Table)) → compact.AreLevelsOf bytes levels ls → IsMerge bytes inputs (plan_in ls))
      → IsChosen bytes inputs h l (plan_ruling l h)
  plan_chosen of = record {
    merge = plan_in l.levels;
    inputs_are = merge_is bytes core h l levels inputs plan_in levels_is of is.stands;
    part = λ m same. part_of (due_from 0 l.levels) m same;
    ruled = begun (due_from 0 l.levels)
        ∙ sym (ap (λ (o : Option OpenJob). plan_unless o l h) (none_open merging l.job none is.opens));
    tidy = λ tidy. plan_tidy (layout_logs l) l h tidy;
  }
    where
      merge_at : Option ℕ → Option Merge
      merge_at d = option_map (λ n. record { tables = inputs_at n l.levels; target = Level (n + 1) }) d

      part_of : (d : Option ℕ) (m : Merge) → merge_at d ≡ Some m → IsPart m.tables (tables l)
      part_of None m same = absurd cc
      part_of (Some n) m same =
          let level : record { tables = inputs_at n l.levels; target = Level (n + 1) } ≡ m = cc in
          subst (λ (x : Merge). IsPart x.tables (tables l)) level (inputs_part n l.levels)

      begun : (d : Option ℕ) → begins l h (merge_at d) ≡ plan_of l h d
      begun None = refl
      begun (Some n) = refl

  pub drain_chosen : (segment : ℕ)
      → ((ls : List (List laid.Table)) → compact.AreLevelsOf bytes levels ls → IsMerge bytes inputs (drain_in segment ls))
      → IsChosen bytes inputs h l (drain_ruling l h segment)
  drain_chosen segment of = record {
    merge = drain_in segment l.levels;
    inputs_are = merge_is bytes core h l levels inputs (drain_in segment) levels_is of is.stands;
    part = λ m same. part_of (first_into segment (tables l)) refl m same;
    ruled = begun (first_into segment (tables l))
        ∙ sym (ap (λ (o : Option OpenJob). drain_unless o l h segment) (none_open merging l.job none is.opens));
    tidy = λ tidy. drain_tidy (layout_logs l) l h tidy segment;
  }
    where
      merge_of : Option laid.Table → Option Merge
      merge_of o = option_map (λ t. record { tables = t ∷ []; target = InPlace }) o

      part_of : (o : Option laid.Table) → first_into segment (tables l) ≡ o → (m : Merge) → merge_of o ≡ Some m
          → IsPart m.tables (tables l)
      part_of None first m same = absurd cc
      part_of (Some t) first m same =
          let alone : record { tables = t ∷ []; target = InPlace } ≡ m = cc in
          subst (λ (x : Merge). IsPart x.tables (tables l)) alone (into_part segment (tables l) t first)

      begun : (o : Option laid.Table) → begins l h (merge_of o) ≡ drain_of l h o
      begun None = refl
      begun (Some t) = refl

-- ---- what is begun of what was chosen

module _ {H : Type 0} (bytes : H → Option (List ℕ)) (h : History) (l : Layout) (ruling : Ruling (Option Job)) where
  pub record IsPlanned (inputs : Inputs H) : Type 0 where
    pub merge : Merge
    pub are : AreInputsOf bytes inputs merge
    pub part : IsPart merge.tables (tables l)
    pub ruled : planned l h (job_of l h merge.tables merge.target) ≡ ruling
    pub tidy : IsTidy (layout_logs l) l h → IsRuledTidy (layout_logs l) ruling

  pub is_planned : (inputs : Inputs H) → IsChosen bytes (Some inputs) h l ruling → IsPlanned inputs
  is_planned inputs chosen = by chosen.merge refl chosen.inputs_are chosen.ruled
    where
      by : (m : Option Merge) → chosen.merge ≡ m → IsMerge bytes (Some inputs) m → begins l h m ≡ ruling → IsPlanned inputs
      by None is none ruled = absurd none
      by (Some m) is are ruled = record { merge = m; are = are; part = chosen.part m is; ruled = ruled; tidy = chosen.tidy }

  -- The merge that begins with it does the ruling's job.
  pub merge_for : {R W : Type 0} (core : Core H) (inputs : Inputs H) (p : IsPlanned inputs) → StandsFor bytes core h l
      → (writers : Writers W) {g : _} (job : Merging (Base H R) H W g) → IsMergeOf core inputs job
      → IsMergeFor writers bytes job (job_of l h p.merge.tables p.merge.target)
  merge_for core inputs p is writers job of = job_is bytes core h l is writers job p.merge.tables p.merge.target p.part
      (subst (λ (i : Inputs H). compact.AreTablesOf bytes i.tables.items p.merge.tables) (sym of.inputs_are) p.are.tables)
      (ap (λ (i : Inputs H). i.target) of.inputs_are ∙ p.are.target) of.version of.floor of.keep

-- and readers that keep no block that doesn't stand fit its sources
pub fits_readers : {H R W : Type 0} (bytes : H → Option (List ℕ)) (core : Core H) (h : History) (l : Layout) (inputs : Inputs H) {g : _}
    (job : Merging (Base H R) H W g) → StandsFor bytes core h l → IsMergeOf core inputs job → ForSome (Some job) (FitsReaders bytes)
fits_readers {H} {R} {W} bytes core h l inputs {g} job is of other same reader kept =
    subst (λ (v : Version H). bases.Fits bytes v reader) (sym of.version ∙ ap (λ (j : Merging (Base H R) H W g). j.base.version) one)
    (looks_told bytes core h l is reader kept)
  where
    one : job ≡ other
    one = cc

-- ---- what it leaves

module _ {H : Type 0} (bytes : H → Option (List ℕ)) (core : Core H) (h : History) (l : Layout) (ruling : Ruling (Option Job))
    (inputs : Inputs H) (p : IsPlanned bytes h l ruling inputs) where
  abbrev pub job_begun : Job
  job_begun = job_of l h p.merge.tables p.merge.target

  abbrev open_one : OpenJob
  open_one = record { job = job_begun; pin = pin_of l; moved = []; lent = [] }

  pub decides_planned : (S : History → Layout → Type 0) → S h (with_job job_begun l)
      → Decides S h l ruling (as_before l l) (Answered ruling.answer) no_effects
  decides_planned S stands = subst (λ (r : Ruling (Option Job)). Decides S h l r (as_before l l) (Answered r.answer) no_effects) p.ruled
      (decides_answered S h l (planned l h job_begun) (as_before l l) (Some job_begun) no_effects refl refl stands)

  tidy_then : IsTidy (layout_logs l) l h → IsTidy (layout_logs l) (with_job job_begun l) h
  tidy_then tidy = subst (λ (r : Ruling (Option Job)). IsRuledTidy (layout_logs l) r) (sym p.ruled) (p.tidy tidy)

  pub stands_planned : (merging : Option OpenMerge) → IsJustOpen merging → StandsFor bytes core h l
      → StandsOpen bytes core merging h (with_job job_begun l)
  stands_planned merging begun is = record {
    stands = same_stands (Some open_one) l.retired h l bytes core (tidy_then is.tidy) is;
    opens = subst (λ (o : Option OpenMerge). Opens o (Some open_one)) (sym begun.is_open)
        (record { lent = begun.lent; moved = begun.moved });
  }

  pub represents_planned : (told : Option DiskState) → Represents bytes core told h l
      → Represents bytes core told h (with_job job_begun l)
  represents_planned told is = same_represents (Some open_one) l.retired h l bytes core told (tidy_then is.stands.tidy) is

  pub fits_planned : (told : Option DiskState) → Fits told core h l → Fits told core h (with_job job_begun l)
  fits_planned told fits = same_fits (Some open_one) l.retired h l core told fits

-- ---- what is lent

-- Nothing is lent yet to a merge that was just opened.
pub none_lent : {D : Type 0} (g : Ghosts D) (disk : D) (next : ℕ) (merging : Option OpenMerge) → IsJustOpen merging
    → AreLentTo g disk next merging
none_lent g disk next merging begun o is k d within =
    absurd (let none = empty (same (sym begun.is_open ∙ is)) in omega (arith, none, within))
  where
    same : Some begun.merge ≡ Some o → begun.merge ≡ o
    same e = cc

    empty : begun.merge ≡ o → length o.lent.items ≡ 0
    empty e = ap (λ (m : OpenMerge). length m.lent.items) (sym e) ∙ ap length begun.lent

-- ---- a merge that is given up

module _ {H : Type 0} (bytes : H → Option (List ℕ)) (core : Core H) (h : History) (l : Layout) (o : OpenJob) (made : Made)
    (opened : l.job ≡ Some o) (lent : AreLent o.lent made) where
  ended_tidy : IsTidy (layout_logs l) l h → IsTidy (layout_logs l) (abandon_ruling l h o.job made).layout h
  ended_tidy tidy =
      abandon_tidy (layout_logs l) l h tidy o.job made
      (subst (λ (job : Option OpenJob). AreLent (lent_numbers job) made) (sym opened) lent)

  pub stands_abandoned : (merging : Option OpenMerge) → merging ≡ None → StandsFor bytes core h l
      → StandsOpen bytes core merging h (abandon_ruling l h o.job made).layout
  stands_abandoned merging none is = record {
    stands = same_stands None (l.retired ++ loose (numbers_of made.tables ++ made.leavings)) h l bytes core (ended_tidy is.tidy) is;
    opens = subst (λ (o : Option OpenMerge). Opens o None) (sym none) tt;
  }

  pub represents_abandoned : (told : Option DiskState) → Represents bytes core told h l
      → Represents bytes core told h (abandon_ruling l h o.job made).layout
  represents_abandoned told is =
      same_represents None (l.retired ++ loose (numbers_of made.tables ++ made.leavings)) h l bytes core told
      (ended_tidy is.stands.tidy) is

pub fits_abandoned : {H : Type 0} (core : Core H) (h : History) (l : Layout) (job : Job) (made : Made)
    (told : Option DiskState) → Fits told core h l → Fits told core h (abandon_ruling l h job made).layout
fits_abandoned core h l job made told fits =
    same_fits None (l.retired ++ loose (numbers_of made.tables ++ made.leavings)) h l core told fits
