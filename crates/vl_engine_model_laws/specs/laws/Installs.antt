-- An install, whatever it answers and whenever it comes, shows what was shown.
use Rattle.std.proofs.Common.{◌≡◌, ℕ, ◌≤◌, Bool, true, false, cond, not, ◌&&◌, List, [], ◌∷◌, ◌++◌, map, refl, ap}
use Rattle.std.proofs.Common.{sym, ◌∙◌, subst, append_assoc}
use Rattle.std.specs.Prelude.{Option, Some, None, if◌then◌else◌}
use Rattle.std.specs.List.{AllZip, flat_map}
use Rattle.std.specs.Ordering.{eq_by_cmp}
use Rattle.vl_model.specs.Conflicts.{Named}
use Rattle.vl_model.specs.History.{History, last_number}
use Rattle.vl_model.specs.Keys.{key_cmp}
use Rattle.vl_model.specs.Winners.{Logs}
use Rattle.vl_model.specs.declared.counter.Counter.TheVariants as counter
use Rattle.vl_model.specs.declared.entry.Entry.{Entry}
use Rattle.vl_engine_model.specs.Levels.{is_among, replaced}
use Rattle.vl_engine_model.specs.Logs.{memtable}
use Rattle.vl_engine_model.specs.Merging.{Sourced, if_so, inputs_of, outside_of, is_dropped, kept_from, kept, merged_entries, outputs}
use Rattle.vl_engine_model.specs.laws.OrderShows.{all-in_order, shows_gathered}
use Rattle.vl_engine_model.specs.Ruling.{Ruling, leaving, has_no_epoch}
use Rattle.vl_engine_model.specs.Rulings.Install.{InstallAnswer, Exhausted, installed, install_checked, install_unless}
use Rattle.vl_engine_model.specs.Rulings.Install.{install_ruling, race, moved_since}
use Rattle.vl_engine_model.specs.Rulings.Plan.{marked_as, sourced}
use Rattle.vl_engine_model.specs.Shows.{Shows}
use Rattle.vl_engine_model.specs.Sources.{sources, tables}
use Rattle.vl_engine_model.specs.laws.TableLaws.{kept_inputs, plain-sourced, tables_made-entries, cut-whole}
use Rattle.vl_engine_model.specs.Jobs.{Made, AreOutputs, job_ended}
use Rattle.vl_engine_model.specs.declared.file_name.FileName.{FileName}
use Rattle.vl_engine_model.specs.declared.job.Job.{Job}
use Rattle.vl_engine_model.specs.declared.job.OpenJob.{OpenJob}
use Rattle.vl_engine_model.specs.declared.job.Target.{Target}
use Rattle.vl_engine_model.specs.declared.job.Target.TheVariants.{Level, InPlace}
use Rattle.vl_engine_model.specs.declared.layout.Layout.{Layout}
use Rattle.vl_engine_model.specs.declared.table.Table.{Table}
use Rattle.vl_engine_model_laws.specs.laws.Gathered.{all_entries, nothing_more, IsWithout, of-append, outside_left}
use Rattle.vl_engine_model_laws.specs.laws.Gathered.{outside_rest, outside_kept, marked-append, kept_of-append}
use Rattle.vl_engine_model_laws.specs.laws.Gathered.{kept_inputs-append, left_level, kept_level, left_is, kept_is, IsIdle}
use Rattle.vl_engine_model_laws.specs.laws.Gathered.{IsShaped, IsPlaced, levels_placed, in_place_placed}
use Rattle.vl_engine_model_laws.specs.laws.Justified.{marks_shown}
use Rattle.vl_engine_model_laws.specs.laws.Keeps.{marked_tables, in_memory}
use Rattle.vl_engine_model_laws.specs.laws.OpenJobs.{drops_at, head_mark, rest_preceded, marked_by, marks_now}
use Rattle.vl_engine_model.specs.Marks.{kept_of, IsPast}
use Rattle.vl_engine_model.specs.Shown.{of_key, Gathers, ShowsRuled}
use Rattle.vl_engine_model.specs.OpenJobs.{Preceded, preceded_if, preceded, IsStillBehind, IsKeptFor}

-- ---- what is kept is what the plan keeps

module _ (keep : ℕ) (I O : List Entry) (floor : ℕ) where
  kept_places : List Preceded → List Entry
  kept_places [] = []
  kept_places (p ∷ ps) = if_so (not (drops_at keep I O floor p)) p.entry (kept_places ps)

  kept_then : (newer : List Entry) (ss : List Sourced)
      → kept_from keep I O floor newer ss ≡ kept_places (preceded newer ss)
  unfolding kept_places
  kept_then newer [] = refl
  kept_then newer (s ∷ ss) = by s.0 (kept_then (s.1 ∷ newer) ss)
    where
      by : (b : Bool) → kept_from keep I O floor (s.1 ∷ newer) ss ≡ kept_places (preceded (s.1 ∷ newer) ss)
          → if_so (b && not (is_dropped keep I O floor newer s.1)) s.1 (kept_from keep I O floor (s.1 ∷ newer) ss)
          ≡ kept_places (preceded_if b s.1 newer (preceded (s.1 ∷ newer) ss))
      by true later = ap (if_so (not (is_dropped keep I O floor newer s.1)) s.1) later
      by false later = later

  kept_now : (newer : List Entry) (ps : List Preceded) (ss : List Sourced) → AllZip IsStillBehind ps (preceded newer ss)
      → kept_inputs (marked_by keep I O floor ps ss) ≡ kept_places ps
  unfolding kept_places
  kept_now newer [] [] zip = refl
  kept_now newer (p ∷ ps) [] zip = absurd zip
  kept_now newer ps (s ∷ ss) zip =
      by s.0 ps zip (λ (qs : List Preceded) (z : AllZip IsStillBehind qs (preceded (s.1 ∷ newer) ss)). kept_now (s.1 ∷ newer) qs ss z)
    where
      by : (b : Bool) (qs : List Preceded)
          → AllZip IsStillBehind qs (preceded_if b s.1 newer (preceded (s.1 ∷ newer) ss))
          → ((rs : List Preceded) → AllZip IsStillBehind rs (preceded (s.1 ∷ newer) ss)
          → kept_inputs (marked_by keep I O floor rs ss) ≡ kept_places rs)
          → if_so ((head_mark keep I O floor b qs s.1).input && (head_mark keep I O floor b qs s.1).kept)
          (head_mark keep I O floor b qs s.1).entry (kept_inputs (marked_by keep I O floor (rest_preceded b qs) ss))
          ≡ kept_places qs
      by false qs zip later = later qs zip
      by true [] zip later = absurd zip
      by true (q ∷ qs) zip later =
          ap (λ (e : Entry). if_so (not (drops_at keep I O floor q)) e (kept_inputs (marked_by keep I O floor qs ss))) zip.0.same
          ∙ ap (if_so (not (drops_at keep I O floor q)) q.entry) (later qs zip.1)

pub kept_is_kept : (job : Job) (moved : List Named) (now : List Sourced) → IsKeptFor job moved now
    → kept_inputs (marks_now job now) ≡ kept job
kept_is_kept job moved now k =
    let I = inputs_of job.base in
    let O = outside_of job.base in
    kept_now job.keep I O job.floor [] (preceded [] job.base) now k.inputs
    ∙ sym (kept_then job.keep I O job.floor [] job.base)

-- ---- the sources behind an install

made_entries : (job : Job) (made : Made) → AreOutputs job made → all_entries made.tables ≡ merged_entries job
made_entries job made all =
    ap all_entries all.tables ∙ tables_made-entries all.numbers (outputs job) all.enough
    ∙ cut-whole (merged_entries job)

module _ (l : Layout) (job : Job) (moved : List Named) (k : IsKeptFor job moved (sourced l job.inputs)) (made : Made)
    (all : AreOutputs job made) where
  abbrev pub left_tables : List Entry
  left_tables =
      left_level job.keep (inputs_of job.base) (outside_of job.base) job.floor job.inputs (preceded [] job.base) (tables l)

  front_left : kept_of (marks_now job (sourced l job.inputs)) ≡ in_memory l ++ left_level job.keep (inputs_of job.base)
      (outside_of job.base) job.floor job.inputs (preceded [] job.base) (tables l)
  front_left =
      let I = inputs_of job.base in
      let O = outside_of job.base in
      let ps = preceded [] job.base in
      let mem = marked_as false (in_memory l) in
      ap kept_of (marked-append job.keep I O job.floor job.inputs ps mem (marked_tables job.inputs (tables l)))
      ∙ kept_of-append job.keep I O job.floor job.inputs (marked_by job.keep I O job.floor ps mem)
      (marked_by job.keep I O job.floor
      (Rattle.vl_engine_model_laws.specs.laws.Gathered.rest_of job.keep I O job.floor job.inputs ps mem) (marked_tables job.inputs (tables l)))
      ∙ ap (λ (es : List Entry). es ++ kept_of
      (marked_by job.keep I O job.floor
      (Rattle.vl_engine_model_laws.specs.laws.Gathered.rest_of job.keep I O job.floor job.inputs ps mem)
      (marked_tables job.inputs (tables l)))) (outside_left job.keep I O job.floor job.inputs ps (in_memory l))
      ∙ ap (λ (qs : List Preceded). in_memory l ++ kept_of
      (marked_by job.keep I O job.floor qs (marked_tables job.inputs (tables l))))
      (outside_rest job.keep I O job.floor job.inputs ps (in_memory l))
      ∙ ap (λ (es : List Entry). in_memory l ++ es) (left_is job.keep I O job.floor job.inputs ps (tables l))

  front_kept : kept_level job.keep (inputs_of job.base) (outside_of job.base) job.floor job.inputs
      (preceded [] job.base) (tables l) ≡ kept job
  front_kept =
      let I = inputs_of job.base in
      let O = outside_of job.base in
      let ps = preceded [] job.base in
      let mem = marked_as false (in_memory l) in
      sym (ap kept_inputs (marked-append job.keep I O job.floor job.inputs ps mem (marked_tables job.inputs (tables l)))
      ∙ kept_inputs-append job.keep I O job.floor job.inputs (marked_by job.keep I O job.floor ps mem)
      (marked_by job.keep I O job.floor
      (Rattle.vl_engine_model_laws.specs.laws.Gathered.rest_of job.keep I O job.floor job.inputs ps mem) (marked_tables job.inputs (tables l)))
      ∙ ap (λ (es : List Entry). es ++ kept_inputs
      (marked_by job.keep I O job.floor
      (Rattle.vl_engine_model_laws.specs.laws.Gathered.rest_of job.keep I O job.floor job.inputs ps mem)
      (marked_tables job.inputs (tables l)))) (outside_kept job.keep I O job.floor job.inputs ps (in_memory l))
      ∙ ap (λ (qs : List Preceded). kept_inputs
      (marked_by job.keep I O job.floor qs (marked_tables job.inputs (tables l))))
      (outside_rest job.keep I O job.floor job.inputs ps (in_memory l))
      ∙ kept_is job.keep I O job.floor job.inputs ps (tables l))
      ∙ kept_is_kept job moved (sourced l job.inputs) k

  gone_in_order : (key : List ℕ)
      → IsWithout key (kept_level job.keep (inputs_of job.base) (outside_of job.base) job.floor job.inputs
      (preceded [] job.base) (tables l)) → IsWithout key (merged_entries job)
  gone_in_order key none =
      all-in_order (λ (e : Entry). eq_by_cmp key_cmp key e.key ≡ false) (kept job) (subst (IsWithout key) front_kept none)

  gathers : (key : List ℕ) (after : List Entry)
      → IsPlaced job.keep (inputs_of job.base) (outside_of job.base) job.floor job.inputs key made.tables
      (merged_entries job) (made_entries job made all)
      (left_level job.keep (inputs_of job.base) (outside_of job.base) job.floor job.inputs (preceded [] job.base) (tables l))
      (kept_level job.keep (inputs_of job.base) (outside_of job.base) job.floor job.inputs (preceded [] job.base) (tables l)) after
      → Gathers key (kept_of (marks_now job (sourced l job.inputs))) (kept job) (in_memory l ++ after)
  gathers key after p = record {
    front = of_key key (in_memory l) ++ p.front;
    behind = p.behind;
    apart =
        ap (of_key key) front_left
        ∙ of-append key (in_memory l)
        (left_level job.keep (inputs_of job.base) (outside_of job.base) job.floor job.inputs (preceded [] job.base) (tables l))
        ∙ ap (λ (es : List Entry). of_key key (in_memory l) ++ es) p.apart
        ∙ ap (λ (es : List Entry). of_key key (in_memory l) ++ (p.front ++ (of_key key es ++ p.behind))) front_kept
        ∙ sym (append_assoc (of_key key (in_memory l)) p.front (of_key key (kept job) ++ p.behind))
        ∙ sym (append_assoc (of_key key (in_memory l) ++ p.front) (of_key key (kept job)) p.behind);
    together = of-append key (in_memory l) after
        ∙ ap (λ (es : List Entry). of_key key (in_memory l) ++ es) p.together
        ∙ sym (append_assoc (of_key key (in_memory l)) p.front (of_key key (merged_entries job) ++ p.behind))
        ∙ sym (append_assoc (of_key key (in_memory l) ++ p.front) (of_key key (merged_entries job)) p.behind);
  }

  -- ---- shape

  -- where the inputs stand: in a level and the next one, or as one table
  abbrev pub IsFit : Target → Type 0
  IsFit (Level n) =
      (key : List ℕ) → IsShaped job.keep (inputs_of job.base) (outside_of job.base) job.floor job.inputs key n l.levels
  IsFit InPlace = (xs : List Table) × (t : Table) × (ys : List Table) × (tables l ≡ xs ++ t ∷ ys)
      × (IsIdle job.keep (inputs_of job.base) (outside_of job.base) job.floor job.inputs xs
      × ((is_among job.inputs t ≡ true) × IsIdle job.keep (inputs_of job.base) (outside_of job.base) job.floor job.inputs ys))

  flat_flat : (f : Table → List Table) (levels : List (List Table))
      → flat_map (λ ts. ts) (map (flat_map f) levels) ≡ flat_map f (flat_map (λ ts. ts) levels)
  flat_flat f [] = refl
  flat_flat f (ts ∷ deeper) =
      ap (λ (us : List Table). flat_map f ts ++ us) (flat_flat f deeper)
      ∙ sym (flat-append f ts (flat_map (λ us. us) deeper))
    where
      flat-append : (g : Table → List Table) (us vs : List Table)
          → flat_map g (us ++ vs) ≡ flat_map g us ++ flat_map g vs
      flat-append g [] vs = refl
      flat-append g (u ∷ us) vs =
          ap (λ (xs : List Table). g u ++ xs) (flat-append g us vs)
          ∙ sym (append_assoc (g u) (flat_map g us) (flat_map g vs))

  swap : Table → List Table
  swap t = if is_among job.inputs t then made.tables else t ∷ []

  idle_swap : (ts : List Table) → IsIdle job.keep (inputs_of job.base) (outside_of job.base) job.floor job.inputs ts
      → flat_map (λ t. if is_among job.inputs t then made.tables else t ∷ []) ts ≡ ts
  idle_swap [] idle = refl
  idle_swap (t ∷ ts) idle =
      ap (λ (b : Bool). cond b made.tables (t ∷ []) ++ flat_map (λ u. if is_among job.inputs u then made.tables else u ∷ []) ts) idle.0
      ∙ ap (λ (us : List Table). t ∷ us) (idle_swap ts idle.1)

  swapped : (xs : List Table) (t : Table) (ys : List Table)
      → IsIdle job.keep (inputs_of job.base) (outside_of job.base) job.floor job.inputs xs → is_among job.inputs t
      ≡ true
      → IsIdle job.keep (inputs_of job.base) (outside_of job.base) job.floor job.inputs ys
      → flat_map (λ u. if is_among job.inputs u then made.tables else u ∷ []) (xs ++ t ∷ ys) ≡ xs ++ (made.tables ++ ys)
  swapped [] t ys before is after =
      ap (λ (b : Bool). cond b made.tables (t ∷ []) ++ flat_map (λ u. if is_among job.inputs u then made.tables else u ∷ []) ys) is
      ∙ ap (λ (us : List Table). made.tables ++ us) (idle_swap ys after)
  swapped (x ∷ xs) t ys before is after =
      ap (λ (b : Bool). cond b made.tables (x ∷ []) ++ flat_map
      (λ u. if is_among job.inputs u then made.tables else u ∷ []) (xs ++ t ∷ ys)) before.0
      ∙ ap (λ (us : List Table). x ∷ us) (swapped xs t ys before.1 is after)

  fit_placed : (target : Target) → IsFit target → (key : List ℕ)
      → IsPlaced job.keep (inputs_of job.base) (outside_of job.base) job.floor job.inputs key made.tables
      (merged_entries job) (made_entries job made all)
      (left_level job.keep (inputs_of job.base) (outside_of job.base) job.floor job.inputs (preceded [] job.base) (tables l))
      (kept_level job.keep (inputs_of job.base) (outside_of job.base) job.floor job.inputs (preceded [] job.base) (tables l))
      (all_entries (flat_map (λ ts. ts) (replaced target job.inputs made.tables l.levels)))
  fit_placed (Level n) fit key =
      levels_placed job.keep (inputs_of job.base) (outside_of job.base) job.floor job.inputs key made.tables
      (merged_entries job) (made_entries job made all) n l.levels (preceded [] job.base) (fit key) (gone_in_order key)
  fit_placed InPlace fit key =
      let xs = fit.0 in
      let t = fit.1 in
      let ys = fit.2 in
      let I = inputs_of job.base in
      let O = outside_of job.base in
      let P : List Table → List Entry → Type 0 =
      λ ts after. IsPlaced job.keep I O job.floor job.inputs key made.tables (merged_entries job)
      (made_entries job made all) (left_level job.keep I O job.floor job.inputs (preceded [] job.base) ts)
      (kept_level job.keep I O job.floor job.inputs (preceded [] job.base) ts) after in
      let there : P (xs ++ t ∷ ys) (all_entries (xs ++ (made.tables ++ ys))) =
      in_place_placed job.keep I O job.floor job.inputs key made.tables (merged_entries job) (made_entries job made all)
      xs t ys (preceded [] job.base) fit.4.0 fit.4.1.0 fit.4.1.1 in
      let same : flat_map (λ ts. ts) (replaced InPlace job.inputs made.tables l.levels) ≡ xs ++ (made.tables ++ ys) =
      flat_flat (λ u. if is_among job.inputs u then made.tables else u ∷ []) l.levels
      ∙ ap (flat_map (λ u. if is_among job.inputs u then made.tables else u ∷ [])) fit.3
      ∙ swapped xs t ys fit.4.0 fit.4.1.0 fit.4.1.1 in
      subst (λ (ts : List Table). P ts (all_entries (flat_map (λ us. us) (replaced InPlace job.inputs made.tables l.levels)))) (sym fit.3)
      (subst (λ (ts : List Table). P (xs ++ t ∷ ys) (all_entries ts)) (sym same) there)

  pub installed_shows : (logs : Logs) (h : History) (from : List ℕ → ℕ) (to : ℕ) → IsFit job.target
      → ((key : List ℕ) (number : ℕ) → from key ≤ number → IsPast job.keep (inputs_of job.base) job.floor key number) → race job moved
      ≡ None
      → Shows logs (sources l) h from to → Shows logs (sources (installed job made l)) h from to
  installed_shows logs h from to fit past none shows =
      let now = sourced l job.inputs in
      let after = all_entries (flat_map (λ ts. ts) (replaced job.target job.inputs made.tables l.levels)) in
      let left : Shows logs (kept_of (marks_now job now)) h from to =
      marks_shown logs job moved now h from to past k none
      (subst (λ (es : List Entry). Shows logs es h from to) (sym (plain-sourced l job.inputs)) shows) in
      subst (λ (es : List Entry). Shows logs es h from to) (append_assoc (memtable l.active) (flat_map memtable l.frozen) after)
      (shows_gathered logs (kept_of (marks_now job now)) (kept job) (in_memory l ++ after)
      (λ key. gathers key after (fit_placed job.target fit key)) h from to left)

-- ---- the ruling

module _ (logs : Logs) (l : Layout) (h : History) (from : List ℕ → ℕ) (o : OpenJob) (are : l.job ≡ Some o) (made : Made)
    (all : AreOutputs o.job made)
    (k : IsKeptFor o.job o.moved (sourced l o.job.inputs)) (fit : IsFit l o.job o.moved k made all o.job.target)
    (past : (key : List ℕ) (number : ℕ) → from key ≤ number → IsPast o.job.keep (inputs_of o.job.base) o.job.floor key number)
    (shows : Shows logs (sources l) h from (last_number h)) where
  either : (b : Bool) (x y : Ruling InstallAnswer) → ShowsRuled logs from x → ShowsRuled logs from y
      → ShowsRuled logs from (if b then x else y)
  either true x y one other = one
  either false x y one other = other

  checked : (r : Option Named) → race o.job o.moved ≡ r → ShowsRuled logs from (install_checked l h o.job made r)
  checked (Some named) raced = shows
  checked None raced =
      either (has_no_epoch l) (leaving (Exhausted counter.Version) h (job_ended made l)) _ shows
      (installed_shows l o.job o.moved k made all logs h from (last_number h) fit past raced shows)

  unless : (halted : Option FileName) → ShowsRuled logs from (install_unless halted l h o.job made)
  unless (Some name) = shows
  unless None =
      subst (λ (moved : List Named). ShowsRuled logs from (install_checked l h o.job made (race o.job moved)))
      (sym (ap moved_since are)) (checked (race o.job o.moved) refl)

  -- Whatever an install answers, the layout that it leaves shows the history.
  pub install_ruling-shows : ShowsRuled logs from (install_ruling l h o.job made)
  install_ruling-shows = unless l.halted
