-- The tables that a job makes have true footers, lead only where its inputs lead, and are wide and apart.
use Rattle.std.proofs.Common.{◌≡◌, ℕ, ◌<◌, true, List, [], ◌∷◌, refl, sym, ◌∙◌, subst, arith}
use Rattle.std.proofs.lemmas.Bool.Decides.{nat_tests}
use Rattle.std.specs.Prelude.{◌==◌}
use Rattle.std.specs.List.{AllByRecursion, list_any}
use Rattle.vl_model.specs.declared.entry.Entry.{Entry}
use Rattle.vl_model.specs.Conflicts.{Named}
use Rattle.vl_model.specs.History.{History}
use Rattle.vl_model.specs.Cutting.{first_key, joined, last_key, points_of}
use Rattle.vl_model.specs.declared.point.Point.{Point}
use Rattle.vl_engine_model.specs.Jobs.{AreOutputs, Made, tables_made}
use Rattle.vl_engine_model.specs.Merging.{inputs_of, kept, merged_entries, outputs}
use Rattle.vl_engine_model.specs.OpenJobs.{IsOpenWell}
use Rattle.vl_engine_model.specs.Sources.{tables}
use Rattle.vl_engine_model.specs.Stock.{HasBytes, IsFooted, PointsDrawn, is_into, leads}
use Rattle.vl_engine_model.specs.Tables.{new_table}
use Rattle.vl_engine_model.specs.TidyLevels.{IsWide, Le}
use Rattle.vl_engine_model.specs.declared.job.Job.{Job}
use Rattle.vl_engine_model.specs.declared.layout.Layout.{Layout}
use Rattle.vl_engine_model.specs.declared.table.Table.{Table}
use Rattle.vl_engine_model.specs.laws.OrderShows.{all-in_order}
use Rattle.vl_engine_model.specs.laws.TableLaws.{cut-whole}
use Rattle.vl_engine_model_laws.specs.laws.Beside.{all_kept_from, outputs_from}
use Rattle.vl_engine_model_laws.specs.laws.Files.{all_both, all_weaker, leads-points, or_left, or_right, picked, seen_by}
use Rattle.vl_engine_model_laws.specs.laws.Gathered.{all_entries}
use Rattle.vl_engine_model_laws.specs.laws.Outputs.{IsCutWell, IsSorted, cut_well, from_first, of_first, of_last, sorted_in_order}
use Rattle.vl_engine_model_laws.specs.laws.Switches.{each_of}
use Rattle.vl_model.specs.Formats.{table_format}

-- ---- of the entries of all

pub all_tables : (Q : Entry → Type 0) (ts : List Table)
    → AllByRecursion (λ (t : Table). AllByRecursion Q t.entries) ts → AllByRecursion Q (all_entries ts)
all_tables Q [] all = tt
all_tables Q (t ∷ ts) all = all_both Q t.entries (all_entries ts) all.0 (all_tables Q ts all.1)

pub all_made : (P : List Entry → Type 0) (Q : Table → Type 0)
    → ((n : ℕ) (es : List Entry) → P es → Q (new_table table_format n es))
    → (ns : List ℕ) (ess : List (List Entry)) → AllByRecursion P ess → AllByRecursion Q (tables_made ns ess)
all_made P Q gives [] ess all = tt
all_made P Q gives (n ∷ ns) [] all = tt
all_made P Q gives (n ∷ ns) (es ∷ ess) all = (gives n es all.0, all_made P Q gives ns ess all.1)

-- what is so of the entries of a job's inputs is so of those of its outputs
pub outputs_of : (Q : Entry → Type 0) (job : Job) → AllByRecursion Q (inputs_of job.base)
    → AllByRecursion Q (joined (outputs job))
outputs_of Q job all =
    subst (AllByRecursion Q) (sym (cut-whole (merged_entries job)))
    (all-in_order Q (kept job)
    (all_kept_from Q job.keep (inputs_of job.base) (Rattle.vl_engine_model.specs.Merging.outside_of job.base) job.floor [] job.base all))

-- ---- where entries and points lead

module _ (W : ℕ → Type 0) where
  -- whatever log points lead into is one of these
  abbrev pub LeadWell : List Point → Type 0
  LeadWell ps = (n : ℕ) → leads n ps ≡ true → W n

  abbrev pub IsIntoWell : Entry → Type 0
  IsIntoWell e = (n : ℕ) → is_into n e ≡ true → W n

  entries_well : (es : List Entry) → ((n : ℕ) → list_any (is_into n) es ≡ true → W n) → AllByRecursion IsIntoWell es
  entries_well [] well = tt
  entries_well (e ∷ es) well = (
    (λ n is. well n (or_left (is_into n e) (list_any (is_into n) es) is)),
    entries_well es
        (λ n is. well n (or_right (is_into n e) (list_any (is_into n) es) is)),
  )

  pub entries_into : (es : List Entry) → LeadWell (points_of es) → AllByRecursion IsIntoWell es
  entries_into es well = entries_well es (λ n is. well n (leads-points n es ∙ is))

  pub points_into : (es : List Entry) → AllByRecursion IsIntoWell es → LeadWell (points_of es)
  points_into es all n is =
      let found = picked (λ (e : Entry). IsIntoWell e) (is_into n) es all (sym (leads-points n es) ∙ is) in found.2 n found.1

  pub each_point : (ps : List Point) → LeadWell ps → AllByRecursion (λ (p : Point). W p.segment) ps
  each_point [] well = tt
  each_point (p ∷ ps) well = (
    well p.segment (or_left (p.segment == p.segment) (leads p.segment ps) (grind (arith, nat_tests))),
    each_point ps (λ n is. well n (or_right (n == p.segment) (leads n ps) is)),
  )

  pub of_each_point : (ps : List Point) → AllByRecursion (λ (p : Point). W p.segment) ps → LeadWell ps
  of_each_point ps all n is =
      let found = picked (λ (p : Point). W p.segment) (λ (p : Point). n == p.segment) ps all is in
      let same : n ≡ found.0.segment = (let at = found.1 in grind (arith, nat_tests, at)) in
      subst W (sym same) found.2

-- ---- the tables of an open job

module _ (l : Layout) (h : History) (job : Job) (moved : List Named) (k : IsOpenWell l h job moved) (made : Made)
    (all : AreOutputs job made) where
  made_are : (Q : Table → Type 0) → AllByRecursion Q (tables_made all.numbers (outputs job))
      → AllByRecursion Q made.tables
  made_are Q these = subst (AllByRecursion Q) (sym all.tables) these

  -- what is so of each entry of the tables is so of each of theirs
  pub made_from : (Q : Entry → Type 0) → AllByRecursion (λ (t : Table). AllByRecursion Q t.entries) (tables l)
      → AllByRecursion (AllByRecursion Q) (outputs job)
  made_from Q each = each_of Q (outputs job) (outputs_from Q l job moved k.kept (all_tables Q (tables l) each))

  pub made_footed : AllByRecursion IsFooted (tables l) → AllByRecursion IsFooted made.tables
  made_footed footed = made_are IsFooted
      (all_made (AllByRecursion HasBytes) IsFooted (λ n es bytes. record { points = refl; bytes = bytes }) all.numbers (outputs job)
      (made_from HasBytes (all_weaker IsFooted (λ (t : Table). AllByRecursion HasBytes t.entries) (λ t is. is.bytes) (tables l) footed)))

  pub made_lead : (W : ℕ → Type 0) → AllByRecursion IsFooted (tables l)
      → AllByRecursion (λ (t : Table). LeadWell W t.points) (tables l)
      → AllByRecursion (λ (t : Table). LeadWell W t.points) made.tables
  made_lead W footed lead =
      made_are (λ (t : Table). LeadWell W t.points)
      (all_made (AllByRecursion (IsIntoWell W)) (λ (t : Table). LeadWell W t.points)
      (λ n es into. points_into W es into) all.numbers (outputs job)
      (made_from (IsIntoWell W) (both (tables l) footed lead)))
    where
      both : (ts : List Table) → AllByRecursion IsFooted ts
          → AllByRecursion (λ (t : Table). LeadWell W t.points) ts
          → AllByRecursion (λ (t : Table). AllByRecursion (IsIntoWell W) t.entries) ts
      both [] footed lead = tt
      both (t ∷ ts) footed lead =
          (entries_into W t.entries (subst (LeadWell W) footed.0.points lead.0), both ts footed.1 lead.1)

  -- a log into which they lead is one into which tables lead
  pub made_into : AllByRecursion IsFooted (tables l)
      → (n : ℕ) → AllByRecursion
      (λ (t : Table). leads n t.points ≡ true → list_any (λ (u : Table). leads n u.points) (tables l) ≡ true) made.tables
  made_into footed n =
      let W : ℕ → Type 0 = λ m. list_any (λ (u : Table). leads m u.points) (tables l) ≡ true in
      all_weaker (λ (t : Table). LeadWell W t.points) (λ (t : Table). leads n t.points ≡ true → W n) (λ t lead is. lead n is) made.tables
      (made_lead W footed (seen_by (λ (m : ℕ) (t : Table). leads m t.points) (tables l)))

  pub made_below : AllByRecursion IsFooted (tables l) → AllByRecursion (PointsDrawn l.next_log) (tables l)
      → AllByRecursion (PointsDrawn l.next_log) made.tables
  made_below footed drawn =
      let W : ℕ → Type 0 = λ n. n < l.next_log in
      all_weaker (λ (t : Table). LeadWell W t.points) (PointsDrawn l.next_log) (λ t lead. each_point W t.points lead) made.tables
      (made_lead W footed (all_weaker (PointsDrawn l.next_log) (λ (t : Table). LeadWell W t.points)
      (λ t is. of_each_point W t.points is) (tables l) drawn))

-- ---- in order

pub first_last : (es : List Entry) → IsSorted es → Le (first_key es) (last_key es)
first_last [] sorted = refl
first_last (e ∷ es) sorted = of_last (Le e.key) (e ∷ es) (omega arith) (from_first (e ∷ es) sorted)

cut_whole : (job : Job) → IsCutWell (outputs job)
cut_whole job = cut_well (merged_entries job) (sorted_in_order (kept job))

pub made_wide : (ns : List ℕ) (ess : List (List Entry)) → IsCutWell ess → AllByRecursion IsWide (tables_made ns ess)
made_wide [] ess well = tt
made_wide (n ∷ ns) [] well = tt
made_wide (n ∷ ns) (es ∷ ess) well = (first_last es well.1.1.0, made_wide ns ess well.1.1.1)

pub job_wide : (job : Job) (ns : List ℕ) → AllByRecursion IsWide (tables_made ns (outputs job))
job_wide job ns = made_wide ns (outputs job) (cut_whole job)

-- what is so of all keys is so of the first and the last one of each table
pub made_ends : (P : List ℕ → Type 0) (ns : List ℕ) (ess : List (List Entry)) → IsCutWell ess
    → AllByRecursion (AllByRecursion (λ (e : Entry). P e.key)) ess
    → AllByRecursion (λ (t : Table). P t.first × P t.last) (tables_made ns ess)
made_ends P [] ess well all = tt
made_ends P (n ∷ ns) [] well all = tt
made_ends P (n ∷ ns) (es ∷ ess) well all =
    ((of_first P es well.1.0 all.0, of_last P es well.1.0 all.0), made_ends P ns ess well.1.1.1 all.1)

pub job_ends : (P : List ℕ → Type 0) (job : Job) (ns : List ℕ)
    → AllByRecursion (λ (e : Entry). P e.key) (inputs_of job.base)
    → AllByRecursion (λ (t : Table). P t.first × P t.last) (tables_made ns (outputs job))
job_ends P job ns all =
    made_ends P ns (outputs job) (cut_whole job)
    (each_of (λ (e : Entry). P e.key) (outputs job) (outputs_of (λ (e : Entry). P e.key) job all))
