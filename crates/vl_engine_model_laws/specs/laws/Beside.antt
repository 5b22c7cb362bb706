-- The invariant of an open job: it holds when the job is made, and each ruling beside it keeps it.
use Rattle.std.proofs.Common.{◌≡◌, inl, inr, ⊎_elim, ℕ, ◌+◌, ◌-◌, min, ◌≤◌, ◌<◌, Bool, true, false, cond, not, ◌&&◌}
use Rattle.std.proofs.Common.{◌||◌, List, [], ◌∷◌, ◌++◌, refl, ap, sym, ◌∙◌, subst, arith, length-append}
use Rattle.std.proofs.lemmas.Bool.Decides.{nat_tests}
use Rattle.std.specs.Prelude.{Option, None, if◌then◌else◌, Some, ◌==◌}
use Rattle.std.specs.List.{AllZip, AllByRecursion, flat_map, list_any, filter}
use Rattle.vl_model.specs.Conflicts.{Named}
use Rattle.vl_model.specs.History.{History, last_number, with_commit}
use Rattle.vl_model.specs.Keys.{Writes}
use Rattle.vl_model.specs.Entries.{is_at}
use Rattle.vl_model.specs.Winners.{Logs}
use Rattle.vl_model.specs.declared.entry.Entry.{Entry}
use Rattle.vl_model.specs.declared.log_frame.Moved.{Moved}
use Rattle.vl_model.specs.Cutting.{joined}
use Rattle.vl_engine_model.specs.Levels.{is_among, in_front, level_at}
use Rattle.vl_engine_model.specs.Merging.{Sourced, if_so, inputs_of, outside_of, is_dropped, kept_from, kept, merged_entries, outputs}
use Rattle.vl_engine_model.specs.laws.OrderShows.{all-in_order}
use Rattle.vl_engine_model.specs.Ruling.{Ruling, has_no_epoch, pin_of, logged, ended}
use Rattle.vl_engine_model.specs.Rulings.Begin.{begun}
use Rattle.vl_engine_model.specs.Rulings.Commit.{commit_frame}
use Rattle.vl_engine_model.specs.Rulings.Flush.{flushed, flushed_table}
use Rattle.vl_engine_model.specs.Rulings.Install.{InstallAnswer, install_checked, install_unless, install_ruling, moved_since, race}
use Rattle.vl_engine_model.specs.Rulings.Pick.{with_pass}
use Rattle.vl_engine_model.specs.Rulings.Plan.{marked_as, sourced, job_of}
use Rattle.vl_engine_model.specs.Rulings.Relocate.{moves_at, relocated}
use Rattle.vl_engine_model.specs.Rulings.Rotate.{rotated}
use Rattle.vl_engine_model.specs.Rulings.Sweep.{without_files}
use Rattle.vl_engine_model.specs.laws.ShowsLaws.{is_at-itself}
use Rattle.vl_engine_model.specs.Sources.{tables, oldest, floor, least_number, numbers_of}
use Rattle.vl_engine_model.specs.laws.TableLaws.{cut-whole}
use Rattle.vl_engine_model.specs.declared.file_name.FileName.{FileName}
use Rattle.vl_engine_model.specs.declared.job.Job.{Job}
use Rattle.vl_engine_model.specs.declared.job.OpenJob.{OpenJob}
use Rattle.vl_engine_model.specs.declared.job.Target.{Target}
use Rattle.vl_engine_model.specs.declared.job.Target.TheVariants.{Level, InPlace}
use Rattle.vl_engine_model.specs.declared.layout.Layout.{Layout}
use Rattle.vl_engine_model.specs.declared.live.Live.{Live}
use Rattle.vl_engine_model.specs.declared.segment.Segment.{Segment}
use Rattle.vl_engine_model.specs.declared.table.Table.{Table}
use Rattle.vl_engine_model_laws.specs.laws.Gathered.{all_entries, IsShaped, IsClear, IsUntouched}
use Rattle.vl_engine_model_laws.specs.laws.Installs.{IsFit, install_ruling-shows}
use Rattle.vl_engine_model_laws.specs.laws.Justified.{same_inputs}
use Rattle.vl_engine_model_laws.specs.laws.Keeps.{in_memory, marked_tables, all_weaker, kept_committed, kept_relocated}
use Rattle.vl_engine_model_laws.specs.laws.Keeps.{kept_rotated, kept_flushed}
use Rattle.vl_engine_model_laws.specs.laws.Lists.{true_false, or_left, or_right}
use Rattle.vl_engine_model.specs.Shown.{ShowsRuled, ShowsLow, low_at, AreOf}
use Rattle.vl_engine_model.specs.Jobs.{Made, AreOutputs}
use Rattle.vl_engine_model.specs.Rulings.Fresh.{drawn}
use Rattle.vl_engine_model.specs.Rulings.Keep.{keeping}
use Rattle.vl_engine_model.specs.laws.FromLow.{past_low}
use Rattle.vl_engine_model.specs.laws.LowShows.{fits-planned, fits-keep}
use Rattle.vl_engine_model.specs.laws.RisingLaws.{all-put_by}
use Rattle.vl_model.specs.Versions.{versions}
use Rattle.vl_model.specs.laws.VersionLaws.{versions-stay}
use Rattle.vl_model.specs.laws.HistoryLaws.{with_commit-extends}
use Rattle.vl_model.specs.declared.change.Change.{Change}
use Rattle.std.specs.FinMap.{from_sorted}
use Rattle.vl_engine_model.specs.OpenJobs.{preceded_if, preceded, IsStillBehind, IsAccounted, IsKeptFor, IsFitted, IsRoomy}
use Rattle.vl_engine_model.specs.OpenJobs.{IsBesideAll, AreStanding, IsOpenWell}

-- ---- when it is made

still_itself : (newer : List Entry) (ss : List Sourced) → AllZip IsStillBehind (preceded newer ss) (preceded newer ss)
still_itself newer [] = tt
still_itself newer (s ∷ ss) = by s.0 (still_itself (s.1 ∷ newer) ss)
  where
    by : (b : Bool) → AllZip IsStillBehind (preceded (s.1 ∷ newer) ss) (preceded (s.1 ∷ newer) ss)
        → AllZip IsStillBehind (preceded_if b s.1 newer (preceded (s.1 ∷ newer) ss)) (preceded_if b s.1 newer (preceded (s.1 ∷ newer) ss))
    by true later = (record { same = refl; covers = λ key version there. there }, later)
    by false later = later

all_there : (es : List Entry) → AllByRecursion (λ (e : Entry). list_any (is_at e.key e.version) es ≡ true) es
all_there [] = tt
all_there (e ∷ es) = (
  or_left (is_at e.key e.version e) (list_any (is_at e.key e.version) es) (is_at-itself e),
  all_weaker (λ (f : Entry). list_any (is_at f.key f.version) es ≡ true) (λ (f : Entry). list_any (is_at f.key f.version) (e ∷ es) ≡ true)
      (λ f is. or_right (is_at f.key f.version e) (list_any (is_at f.key f.version) es) is) es (all_there es),
)

pub kept_at_first : (l : Layout) (h : History) (inputs : List Table) (target : Target)
    → IsKeptFor (job_of l h inputs target) [] (sourced l (numbers_of inputs))
kept_at_first l h inputs target = record {
  inputs = still_itself [] (sourced l (numbers_of inputs));
  outside =
      all_weaker (λ (e : Entry). list_any (is_at e.key e.version) (outside_of (sourced l (numbers_of inputs))) ≡ true)
      (IsAccounted (outside_of (sourced l (numbers_of inputs))) (floor l h) []) (λ e is. inl is)
      (outside_of (sourced l (numbers_of inputs))) (all_there (outside_of (sourced l (numbers_of inputs))));
}

least_is_least : (last : ℕ) (xs : List Live)
    → (least_number last xs ≤ last) × AllByRecursion (λ (x : Live). least_number last xs ≤ x.number) xs
least_is_least last [] = (omega arith, tt)
least_is_least last (x ∷ xs) =
    let later = least_is_least last xs in (
      (let less = later.0 in omega (arith, less)),
      ((omega arith), all_live_weaker (least_number last xs) (min x.number (least_number last xs)) (omega arith) xs later.1),
    )
  where
    all_live_weaker : (a b : ℕ) → b ≤ a → (ys : List Live) → AllByRecursion (λ (y : Live). a ≤ y.number) ys
        → AllByRecursion (λ (y : Live). b ≤ y.number) ys
    all_live_weaker a b less [] all = tt
    all_live_weaker a b less (y ∷ ys) all =
        ((let one = all.0 in omega (arith, less, one)), all_live_weaker a b less ys all.1)

numbers_given : (next : ℕ) (ts : List Table) → AllByRecursion (λ (t : Table). t.number < next) ts
    → AllByRecursion (λ n. n < next) (numbers_of ts)
numbers_given next [] all = tt
numbers_given next (t ∷ ts) all = (all.0, numbers_given next ts all.1)

pub open_at_first : (l : Layout) (h : History) (inputs : List Table) (target : Target)
    → AllByRecursion (λ (t : Table). t.number < l.next_table) inputs
    → AreStanding (tables l) (numbers_of inputs)
    → IsFitted l (job_of l h inputs target) target
    → IsRoomy l.levels (job_of l h inputs target) target
    → 1 ≤ l.keep → AreOf h (inputs_of (sourced l (numbers_of inputs)))
    → IsOpenWell l h (job_of l h inputs target) []
open_at_first l h inputs target given standing fitted roomy some of =
    let least = least_is_least (last_number h) l.live in
    record {
      kept = kept_at_first l h inputs target;
      last = least.0;
      live = least.1;
      given = numbers_given l.next_table
          inputs given;
      standing = standing;
      fitted = fitted;
      roomy = roomy;
      some = some;
      fits = fits-planned l.keep l.since
          (floor l h);
      of = of;
    }

-- ---- beside it

filtered_live : (floor_was ticket : ℕ) (xs : List Live) → AllByRecursion (λ (x : Live). floor_was ≤ x.number) xs
    → AllByRecursion (λ (x : Live). floor_was ≤ x.number) (filter (λ (x : Live). not (x.ticket == ticket)) xs)
filtered_live f ticket [] all = tt
filtered_live f ticket (x ∷ xs) all = elim (x.ticket == ticket) as
    (λ b. AllByRecursion (λ (y : Live). f ≤ y.number)
    (cond (not b) (x ∷ filter (λ (y : Live). not (y.ticket == ticket)) xs) (filter (λ (y : Live). not (y.ticket == ticket)) xs))) [
      | true ↦ filtered_live f ticket xs all.1
      | false ↦ (all.0, filtered_live f ticket xs all.1)
    ]

module _ (l : Layout) (h : History) (job : Job) (moved : List Named) (k : IsOpenWell l h job moved) where
  pub open_begun : (ticket : ℕ) → IsOpenWell (begun l ticket (last_number h)) h job moved
  open_begun ticket = record {
    kept = k.kept;
    last = k.last;
    live = all-put_by (λ (x : Live). x.ticket) (λ (x : Live). job.floor ≤ x.number)
        (record { ticket = ticket; number = last_number h; pin = pin_of l }) l.live k.last k.live;
    given = k.given;
    standing = k.standing;
    fitted = by job.target k.fitted;
    roomy = k.roomy;
    some = k.some;
    fits = k.fits;
    of = k.of;
  }
    where
      by : (target : Target) → IsFitted l job target → IsFitted (begun l ticket (last_number h)) job target
      by (Level n) fit = fit
      by InPlace fit = fit

  pub open_ended : (ticket : ℕ) → IsOpenWell (ended ticket l) h job moved
  open_ended ticket = record {
    kept = k.kept;
    last = k.last;
    live = filtered_live job.floor ticket l.live k.live;
    given = k.given;
    standing = k.standing;
    fitted = by job.target k.fitted;
    roomy = k.roomy;
    some = k.some;
    fits = k.fits;
    of = k.of;
  }
    where
      by : (target : Target) → IsFitted l job target → IsFitted (ended ticket l) job target
      by (Level n) fit = fit
      by InPlace fit = fit

  pub open_picked : (segment : ℕ) → IsOpenWell (with_pass segment l) h job moved
  open_picked segment = record {
    kept = k.kept;
    last = k.last;
    live = k.live;
    given = k.given;
    standing = k.standing;
    fitted = by job.target
        k.fitted;
    roomy = k.roomy;
    some = k.some;
    fits = k.fits;
    of = k.of;
  }
    where
      by : (target : Target) → IsFitted l job target → IsFitted (with_pass segment l) job target
      by (Level n) fit = fit
      by InPlace fit = fit

  pub open_swept : (gone : List FileName) → IsOpenWell (without_files gone l) h job moved
  open_swept gone = record {
    kept = k.kept;
    last = k.last;
    live = k.live;
    given = k.given;
    standing = k.standing;
    fitted = by job.target
        k.fitted;
    roomy = k.roomy;
    some = k.some;
    fits = k.fits;
    of = k.of;
  }
    where
      by : (target : Target) → IsFitted l job target → IsFitted (without_files gone l) job target
      by (Level n) fit = fit
      by InPlace fit = fit

  last_more : (writes : Writes) → last_number (with_commit h writes) ≡ last_number h + 1
  last_more writes = let both = length-append h.commits (writes ∷ []) in omega arith

  pub open_committed : (ticket : ℕ) (writes : List (List ℕ × Change))
      → IsOpenWell (logged (commit_frame h writes) (ended ticket l)) (with_commit h (from_sorted writes)) job moved
  open_committed ticket writes = record {
    kept = kept_committed l h ticket writes job moved k.last k.kept;
    last = (let more = last_more (from_sorted writes) in let low = k.last in omega (arith, more, low));
    live = filtered_live job.floor ticket l.live k.live;
    given = k.given;
    standing = k.standing;
    fitted = by job.target k.fitted;
    roomy = k.roomy;
    some = k.some;
    fits = k.fits;
    of =
        λ key n there. versions-stay h (with_commit h (from_sorted writes)) (with_commit-extends h (from_sorted writes))
        key n (k.of key n there);
  }
    where
      by : (target : Target) → IsFitted l job target
          → IsFitted (logged (commit_frame h writes) (ended ticket l)) job target
      by (Level n) fit = fit
      by InPlace fit = fit

  pub open_keeping : (v : ℕ) → l.since ≤ last_number h → IsOpenWell (keeping v h l) h job moved
  open_keeping v known = record {
    kept = k.kept;
    last = k.last;
    live = k.live;
    given = k.given;
    standing = k.standing;
    fitted = by job.target k.fitted;
    roomy = k.roomy;
    some = k.some;
    fits = fits-keep job.keep job.floor l.keep l.since v (last_number h) k.last known k.fits;
    of = k.of;
  }
    where
      by : (target : Target) → IsFitted l job target → IsFitted (keeping v h l) job target
      by (Level n) fit = fit
      by InPlace fit = fit

  by_drawn : (lent : List ℕ) (target : Target) → IsFitted l job target → IsFitted (drawn l) job target
  by_drawn lent (Level n) fit = fit
  by_drawn lent InPlace fit = fit

  pub open_drawn : IsOpenWell (drawn l) h job moved
  open_drawn = record {
    kept = k.kept;
    last = k.last;
    live = k.live;
    given = one_later job.inputs k.given;
    standing = k.standing;
    fitted = by_drawn [] job.target k.fitted;
    roomy = k.roomy;
    some = k.some;
    fits = k.fits;
    of = k.of;
  }
    where
      one_later : (ns : List ℕ) → AllByRecursion (λ (n : ℕ). n < l.next_table) ns
          → AllByRecursion (λ (n : ℕ). n < l.next_table + 1) ns
      one_later [] all = tt
      one_later (n ∷ ns) all = ((let less = all.0 in omega (arith, less)), one_later ns all.1)

  pub open_rotated : IsOpenWell (rotated l) h job moved
  open_rotated = record {
    kept = kept_rotated l job moved k.kept;
    last = k.last;
    live = k.live;
    given = k.given;
    standing = k.standing;
    fitted = by job.target k.fitted;
    roomy = k.roomy;
    some = k.some;
    fits = k.fits;
    of = k.of;
  }
    where
      by : (target : Target) → IsFitted l job target → IsFitted (rotated l) job target
      by (Level n) fit = fit
      by InPlace fit = fit

  pub open_relocated : (records : List Moved)
      → IsOpenWell (relocated l records) h job (moves_at (l.epoch + 1) records ++ moved)
  open_relocated records = record {
    kept = kept_relocated l records job moved k.kept;
    last = k.last;
    live = k.live;
    given = k.given;
    standing = k.standing;
    fitted = by job.target k.fitted;
    roomy = k.roomy;
    some = k.some;
    fits = k.fits;
    of = k.of;
  }
    where
      by : (target : Target) → IsFitted l job target → IsFitted (relocated l records) job target
      by (Level n) fit = fit
      by InPlace fit = fit

  -- a table in front of level 0
  module _ (t : Table) (other : is_among job.inputs t ≡ false) where
    I : List Entry
    I = inputs_of job.base

    shaped_behind : (key : List ℕ) (n : ℕ) (first : List Table) (deeper : List (List Table))
        → IsShaped job.keep (inputs_of job.base) (outside_of job.base) job.floor job.inputs key n (first ∷ deeper)
        → IsShaped job.keep (inputs_of job.base) (outside_of job.base) job.floor job.inputs key n ((t ∷ first) ∷ deeper)
    shaped_behind key n first [] shaped = absurd shaped
    shaped_behind key n first (second ∷ deeper) (inl here) = inl (
      here.0,
      record {
        parted = ((λ is. absurd (true_false (sym is ∙ other))), here.1.parted);
        apart = ⊎_elim
            (λ (u : IsUntouched job.keep (inputs_of job.base) (outside_of job.base) job.floor job.inputs key first
            × IsUntouched job.keep (inputs_of job.base) (outside_of job.base) job.floor job.inputs key second). inl
            (((λ is. absurd (true_false (sym is ∙ other))), u.0), u.1))
            (λ (c : IsClear job.keep (inputs_of job.base) (outside_of job.base) job.floor job.inputs key second). inr c)
            here.1.apart;
        idle = here.1.idle;
      },
    )
    shaped_behind key n first (second ∷ deeper) (inr there) = inr (there.0, ((other, there.1.0), there.1.1))

  pub open_flushed : (s : Segment) (level : List Table) (deeper : List (List Table))
      → oldest l.frozen ≡ Some s → l.levels ≡ level ∷ deeper
      → IsOpenWell (flushed l s) h job moved
  open_flushed s level deeper waits are = record {
    kept = kept_flushed l s job moved level deeper waits are k.given k.kept;
    last = k.last;
    live = k.live;
    given = later l.next_table job.inputs k.given;
    standing = subst (λ (ts : List Table). AreStanding ts job.inputs) (sym new)
        (all_numbers_weaker (λ (n : ℕ). list_any (λ (u : Table). n == u.number) (tables l) ≡ true)
        (λ (n : ℕ). list_any (λ (u : Table). n == u.number) (flushed_table l s ∷ tables l) ≡ true)
        (λ n is. or_right (n == l.next_table) (list_any (λ (u : Table). n == u.number) (tables l)) is) job.inputs k.standing);
    fitted = by job.target k.fitted;
    roomy = roomy_behind job.target k.roomy;
    some = k.some;
    fits = k.fits;
    of = k.of;
  }
    where
      new : tables (flushed l s) ≡ flushed_table l s ∷ tables l
      new =
          ap (λ (levels : List (List Table)). flat_map (λ ts. ts) (in_front (flushed_table l s) levels)) are
          ∙ ap (λ (levels : List (List Table)). flushed_table l s ∷ flat_map (λ ts. ts) levels) (sym are)

      all_numbers_weaker : (P Q : ℕ → Type 0) → ((n : ℕ) → P n → Q n) → (ns : List ℕ) → AllByRecursion P ns
          → AllByRecursion Q ns
      all_numbers_weaker P Q f [] all = tt
      all_numbers_weaker P Q f (n ∷ ns) all = (f n all.0, all_numbers_weaker P Q f ns all.1)

      -- the deeper levels are as they were
      roomy_front : (n : ℕ) (t : Table) → 0 < n → level_at n ((t ∷ level) ∷ deeper) ≡ level_at n (level ∷ deeper)
      roomy_front n t some = let apart : (n == 0) ≡ false = grind (arith, nat_tests, some) in
          ap (λ b. cond b (t ∷ level) (level_at (n - 1) deeper)) apart
          ∙ sym (ap (λ b. cond b level (level_at (n - 1) deeper)) apart)

      roomy_behind : (target : Target) → IsRoomy l.levels job target → IsRoomy (flushed l s).levels job target
      roomy_behind InPlace roomy = tt
      roomy_behind (Level n) roomy =
          subst (λ (levels : List (List Table)). IsRoomy (in_front (flushed_table l s) levels) job (Level n)) (sym are)
          (let was : IsRoomy (level ∷ deeper) job (Level n) = subst
          (λ (levels : List (List Table)). IsRoomy levels job (Level n)) are roomy in (
            was.0,
            (
              was.1.0,
              subst (AllByRecursion
                  (λ (u : Table). is_among job.inputs u ≡ false → IsBesideAll (inputs_of job.base) u))
                  (sym (roomy_front n (flushed_table l s) was.0)) was.1.1,
            ),
          ))

      later : (next : ℕ) (ns : List ℕ) → AllByRecursion (λ n. n < next) ns → AllByRecursion (λ n. n < next + 1) ns
      later next [] all = tt
      later next (n ∷ ns) all = ((let one = all.0 in omega (arith, one)), later next ns all.1)

      not_one : (next : ℕ) (ns : List ℕ) (t : Table) → t.number ≡ next → AllByRecursion (λ n. n < next) ns
          → is_among ns t ≡ false
      not_one next [] t is below = refl
      not_one next (n ∷ ns) t is below =
          let here : (n == t.number) ≡ false = let less = below.0 in grind (arith, nat_tests, is) in
          ap (λ b. b || is_among ns t) here ∙ not_one next ns t is below.1

      by : (target : Target) → IsFitted l job target → IsFitted (flushed l s) job target
      by (Level n) fit = λ key.
          subst (λ (levels : List (List Table)). IsShaped job.keep (inputs_of job.base) (outside_of job.base) job.floor
          job.inputs key n (in_front (flushed_table l s) levels)) (sym are)
          (shaped_behind (flushed_table l s) (not_one l.next_table job.inputs (flushed_table l s) refl k.given) key n level deeper
          (subst (IsShaped job.keep (inputs_of job.base) (outside_of job.base) job.floor job.inputs key n) are (fit key)))
      by InPlace fit = (
        flushed_table l s ∷ fit.0,
        fit.1,
        fit.2,
        ap (λ (levels : List (List Table)). flat_map (λ ts. ts) (in_front (flushed_table l s) levels)) are
            ∙ ap (λ (levels : List (List Table)). flushed_table l s ∷ flat_map (λ ts. ts) levels) (sym are)
            ∙ ap (λ (ts : List Table). flushed_table l s ∷ ts) fit.3,
        ((not_one l.next_table job.inputs (flushed_table l s) refl k.given, fit.4.0), fit.4.1),
      )

-- ---- what an install shows, from the engine's floor on

least_above : (low last : ℕ) (xs : List Live) → low ≤ last
    → AllByRecursion (λ (x : Live). low ≤ x.number) xs → low ≤ least_number last xs
least_above low last [] at all = at
least_above low last (x ∷ xs) at all =
    let later = least_above low last xs at all.1 in let one = all.0 in omega (arith, later, one)

-- Whatever an install of a job that is open well answers, and however much later it comes, the layout that it leaves shows
-- the history from where it could be read before.
pub open_installs : (logs : Logs) (l : Layout) (h : History) (o : OpenJob) → l.job ≡ Some o → (made : Made)
    → AreOutputs o.job made
    → IsOpenWell l h o.job o.moved → ShowsLow logs l h → ShowsRuled logs (low_at l h) (install_ruling l h o.job made)
open_installs logs l h o are made all k shows =
    install_ruling-shows logs l h (low_at l h) o are made all k.kept (by o.job.target k.fitted)
    (λ key number from. past_low o.job.keep k.some (inputs_of o.job.base) o.job.floor key (versions h key) (k.of key)
    (floor l h) l.keep l.since
    (least_above o.job.floor (last_number h) l.live k.last k.live) k.fits number from) shows
  where
    by : (target : Target) → IsFitted l o.job target → IsFit l o.job o.moved k.kept made all target
    by (Level n) fit = fit
    by InPlace fit = fit

-- an install leaves what lives, v and since, so that each key can be read from where it could before
module _ (logs : Logs) (l : Layout) (h : History) (job : Job) (made : Made) where
  abbrev KeepsLow : Ruling InstallAnswer → Type 0
  KeepsLow r = ShowsRuled logs (low_at l h) r → ShowsLow logs r.layout r.history

  low_either : (b : Bool) (x y : Ruling InstallAnswer) → KeepsLow x → KeepsLow y → KeepsLow (if b then x else y)
  low_either true x y one other = one
  low_either false x y one other = other

  low_checked : (o : Option Named) → KeepsLow (install_checked l h job made o)
  low_checked (Some named) = λ shown. shown
  low_checked None = low_either (has_no_epoch l) _ _ (λ shown. shown) (λ shown. shown)

  low_unless : (halted : Option FileName) → KeepsLow (install_unless halted l h job made)
  low_unless (Some name) = λ shown. shown
  low_unless None = low_checked (race job (moved_since l.job))

pub open_installs_low : (logs : Logs) (l : Layout) (h : History) (o : OpenJob) → l.job ≡ Some o
    → (made : Made) → AreOutputs o.job made
    → IsOpenWell l h o.job o.moved → ShowsLow logs l h
    → ShowsLow logs (install_ruling l h o.job made).layout (install_ruling l h o.job made).history
open_installs_low logs l h o are made all k shows =
    low_unless logs l h o.job made l.halted (open_installs logs l h o are made all k shows)

-- ---- what the outputs are made of

all_if_so : (Q : Entry → Type 0) (b : Bool) (e : Entry) (es : List Entry) → Q e → AllByRecursion Q es
    → AllByRecursion Q (if_so b e es)
all_if_so Q true e es here all = (here, all)
all_if_so Q false e es here all = all

pub all_kept_from : (Q : Entry → Type 0) (keep : ℕ) (I O : List Entry) (f : ℕ) (newer : List Entry) (ss : List Sourced)
    → AllByRecursion Q (inputs_of ss) → AllByRecursion Q (kept_from keep I O f newer ss)
all_kept_from Q keep I O f newer [] all = tt
all_kept_from Q keep I O f newer (s ∷ ss) all =
    by s.0 all (λ later. all_kept_from Q keep I O f (s.1 ∷ newer) ss later)
  where
    by : (b : Bool) → AllByRecursion Q (if_so b s.1 (inputs_of ss))
        → (AllByRecursion Q (inputs_of ss) → AllByRecursion Q (kept_from keep I O f (s.1 ∷ newer) ss))
        → AllByRecursion Q (if_so (b && not (is_dropped keep I O f newer s.1)) s.1 (kept_from keep I O f (s.1 ∷ newer) ss))
    by true all later =
        all_if_so Q (not (is_dropped keep I O f newer s.1)) s.1 (kept_from keep I O f (s.1 ∷ newer) ss) all.0 (later all.1)
    by false all later = later all

pub inputs_front : (Q : Entry → Type 0) (es : List Entry) (ss : List Sourced)
    → AllByRecursion Q (inputs_of ss) → AllByRecursion Q (inputs_of (marked_as false es ++ ss))
inputs_front Q [] ss all = all
inputs_front Q (e ∷ es) ss all = inputs_front Q es ss all

inputs_table : (Q : Entry → Type 0) (b : Bool) (es : List Entry) (ss : List Sourced) → AllByRecursion Q es
    → AllByRecursion Q (inputs_of ss) → AllByRecursion Q (inputs_of (marked_as b es ++ ss))
inputs_table Q b [] ss all later = later
inputs_table Q b (e ∷ es) ss all later =
    all_if_so Q b e (inputs_of (marked_as b es ++ ss)) all.0 (inputs_table Q b es ss all.1 later)

pub inputs_tables : (Q : Entry → Type 0) (inputs : List ℕ) (ts : List Table)
    → AllByRecursion Q (all_entries ts) → AllByRecursion Q (inputs_of (marked_tables inputs ts))
inputs_tables Q inputs [] all = tt
inputs_tables Q inputs (t ∷ ts) all =
    let both = split t.entries (all_entries ts) all in
    inputs_table Q (is_among inputs t) t.entries (marked_tables inputs ts) both.0 (inputs_tables Q inputs ts both.1)
  where
    split : (es fs : List Entry) → AllByRecursion Q (es ++ fs) → AllByRecursion Q es × AllByRecursion Q fs
    split [] fs all = (tt, all)
    split (e ∷ es) fs all = let both = split es fs all.1 in ((all.0, both.0), both.1)

-- What is so of all that the tables hold when a job is installed is so of its outputs.
pub outputs_from : (Q : Entry → Type 0) (l : Layout) (job : Job) (moved : List Named)
    → IsKeptFor job moved (sourced l job.inputs)
    → AllByRecursion Q (all_entries (tables l)) → AllByRecursion Q (joined (outputs job))
outputs_from Q l job moved k all =
    subst (AllByRecursion Q) (sym (cut-whole (merged_entries job)))
    (all-in_order Q (kept job)
    (all_kept_from Q job.keep (inputs_of job.base) (outside_of job.base) job.floor [] job.base
    (subst (AllByRecursion Q) (same_inputs job moved (sourced l job.inputs) k)
    (inputs_front Q (in_memory l) (marked_tables job.inputs (tables l)) (inputs_tables Q job.inputs (tables l) all)))))
