-- An install leaves sources that spare versions as they should.
use Rattle.std.proofs.Common.{◌≡◌, ◌⊎◌, inl, inr, ⊎_elim, ℕ, ◌≤◌, Bool, true, false, not, ◌&&◌, ◌||◌, List, [], ◌∷◌}
use Rattle.std.proofs.Common.{◌++◌, refl, ap, sym, ◌∙◌, subst, arith}
use Rattle.std.specs.Prelude.{if◌then◌else◌, Option, None, Some}
use Rattle.std.specs.List.{AllByRecursion, flat_map, list_any}
use Rattle.vl_engine_laws.specs.Spared.{IsSpared, IsWhole, Spares, SparesRuled, at_rest}
use Rattle.vl_engine_laws.specs.laws.InstallWhole.{whole_left}
use Rattle.vl_engine_model.specs.Merging.{gone_after, needless}
use Rattle.vl_engine_model_laws.specs.laws.Gone.{raised-kept, raised-reached}
use Rattle.vl_engine_laws.specs.laws.InstallSpared.{spared_left}
use Rattle.vl_engine_laws.specs.laws.InstallTables.{made_stand, others_stay}
use Rattle.vl_engine_laws.specs.laws.SparedLaws.{spared_later, whole_later}
use Rattle.vl_engine_model.specs.Jobs.{AreOutputs, Made}
use Rattle.vl_engine_model.specs.Levels.{due_from, is_among}
use Rattle.vl_engine_model.specs.Logs.{memtable}
use Rattle.vl_engine_model.specs.Marks.{kept_of}
use Rattle.vl_engine_model.specs.Merging.{Sourced, if_so, inputs_of, kept, merged_entries, outputs, outside_of}
use Rattle.vl_engine_model.specs.OpenJobs.{IsFitted, IsKeptFor, IsOpenWell, IsRoomy, Preceded, preceded}
use Rattle.vl_engine_model.specs.Ruling.{Ruling, has_no_number, has_no_epoch}
use Rattle.vl_engine_model.specs.Rulings.Abandon.{abandon_ruling}
use Rattle.vl_engine_model.specs.Rulings.Fresh.{fresh_ruling, fresh_unless}
use Rattle.vl_engine_model.specs.Rulings.Install.{install_checked, install_ruling, install_unless, installed, moved_since, race}
use Rattle.vl_engine_model.specs.Rulings.Plan.{marked_as, plan_of, plan_ruling, plan_unless, sourced}
use Rattle.vl_engine_model.specs.Sources.{behind_active, floor, least_number, sources, table_entries, tables}
use Rattle.vl_engine_model.specs.declared.file_name.FileName.{FileName}
use Rattle.vl_engine_model.specs.declared.job.Job.{Job}
use Rattle.vl_engine_model.specs.declared.job.OpenJob.{OpenJob}
use Rattle.vl_engine_model.specs.declared.layout.Layout.{Layout}
use Rattle.vl_engine_model.specs.declared.live.Live.{Live}
use Rattle.vl_engine_model.specs.declared.table.Table.{Table}
use Rattle.vl_engine_model.specs.laws.FromLow.{has-versions_in}
use Rattle.vl_engine_model.specs.laws.TableLaws.{cut-whole, kept_inputs, plain-sourced, tables_made-entries}
use Rattle.vl_engine_model_laws.specs.laws.Files.{any-append, any-flat_map, or_cases, or_left, or_right}
use Rattle.vl_engine_model_laws.specs.laws.Installs.{kept_is_kept}
use Rattle.vl_engine_model_laws.specs.laws.Lists.{any-in_order}
use Rattle.vl_engine_model_laws.specs.laws.OpenJobs.{drops_at, head_mark, marked_by, marks_now, rest_preceded}
use Rattle.vl_model.specs.Conflicts.{Named}
use Rattle.vl_model.specs.Entries.{in_order, is_at}
use Rattle.vl_model.specs.History.{History, last_number}
use Rattle.vl_model.specs.declared.entry.Entry.{Entry}

-- ---- what is left of the sources: what the inputs keep, and what is outside them

module _ (keep : ℕ) (I O : List Entry) (floor : ℕ) (p : Entry → Bool) where
  if_either : (b : Bool) (e : Entry) (es fs : List Entry) → (list_any p es ≡ true → list_any p fs ≡ true)
      → list_any p (if_so b e es) ≡ true → list_any p (if_so b e fs) ≡ true
  if_either true e es fs more there = ⊎_elim (λ (at : p e ≡ true). or_left (p e) (list_any p fs) at)
      (λ (later : list_any p es ≡ true). or_right (p e) (list_any p fs) (more later)) (or_cases (p e) (list_any p es) there)
  if_either false e es fs more there = more there

  if_later : (b : Bool) (e : Entry) (es : List Entry) → list_any p es ≡ true → list_any p (if_so b e es) ≡ true
  if_later true e es there = or_right (p e) (list_any p es) there
  if_later false e es there = there

  if_cases : (b : Bool) (e : Entry) (es : List Entry) → list_any p (if_so b e es) ≡ true
      → (list_any p (if_so b e []) ≡ true) ⊎ (list_any p es ≡ true)
  if_cases true e es there = ⊎_elim (λ (at : p e ≡ true). inl (or_left (p e) false at))
      (λ (later : list_any p es ≡ true). inr later) (or_cases (p e) (list_any p es) there)
  if_cases false e es there = inr there

  if_here : (b : Bool) (e : Entry) (es : List Entry) → list_any p (if_so b e []) ≡ true → list_any p (if_so b e es) ≡ true
  if_here true e es there = ⊎_elim (λ (at : p e ≡ true). or_left (p e) (list_any p es) at)
      (λ (none : false ≡ true). or_right (p e) (list_any p es) (absurd (no none))) (or_cases (p e) false there)
    where
      no : false ≡ true → ⊥
      no is = cc
  if_here false e es there = absurd (no there)
    where
      no : false ≡ true → ⊥
      no is = cc

  parts_of : (ps : List Preceded) (ss : List Sourced) → list_any p (kept_of (marked_by keep I O floor ps ss)) ≡ true
      → (list_any p (outside_of ss) ≡ true) ⊎ (list_any p (kept_inputs (marked_by keep I O floor ps ss)) ≡ true)
  parts_of ps [] there = inl there
  parts_of ps (s ∷ ss) there = by s.0 ps there (λ qs. parts_of qs ss)
    where
      of_input : (d : Bool) (qs : List Preceded)
          → list_any p (if_so d s.1 (kept_of (marked_by keep I O floor qs ss))) ≡ true
          → (list_any p (kept_of (marked_by keep I O floor qs ss)) ≡ true
          → (list_any p (outside_of ss) ≡ true) ⊎ (list_any p (kept_inputs (marked_by keep I O floor qs ss)) ≡ true))
          → (list_any p (outside_of ss) ≡ true)
          ⊎ (list_any p (if_so d s.1 (kept_inputs (marked_by keep I O floor qs ss))) ≡ true)
      of_input d qs at later = ⊎_elim
          (λ (here : list_any p (if_so d s.1 []) ≡ true).
          inr (if_here d s.1 (kept_inputs (marked_by keep I O floor qs ss)) here))
          (λ (behind : list_any p (kept_of (marked_by keep I O floor qs ss)) ≡ true). ⊎_elim
          (λ (out : list_any p (outside_of ss) ≡ true). inl out)
          (λ (kept : list_any p (kept_inputs (marked_by keep I O floor qs ss)) ≡ true).
          inr (if_later d s.1 (kept_inputs (marked_by keep I O floor qs ss)) kept))
          (later behind))
          (if_cases d s.1 (kept_of (marked_by keep I O floor qs ss)) at)

      by : (b : Bool) (qs : List Preceded)
          → list_any p (if_so (head_mark keep I O floor b qs s.1).kept (head_mark keep I O floor b qs s.1).entry
          (kept_of (marked_by keep I O floor (rest_preceded b qs) ss))) ≡ true
          → ((rs : List Preceded) → list_any p (kept_of (marked_by keep I O floor rs ss)) ≡ true
          → (list_any p (outside_of ss) ≡ true) ⊎ (list_any p (kept_inputs (marked_by keep I O floor rs ss)) ≡ true))
          → (list_any p (if_so (not b) s.1 (outside_of ss)) ≡ true)
          ⊎ (list_any p (if_so ((head_mark keep I O floor b qs s.1).input && (head_mark keep I O floor b qs s.1).kept)
          (head_mark keep I O floor b qs s.1).entry (kept_inputs (marked_by keep I O floor (rest_preceded b qs) ss))) ≡ true)
      by false qs at later = ⊎_elim
          (λ (here : p s.1 ≡ true). inl (or_left (p s.1) (list_any p (outside_of ss)) here))
          (λ (behind : list_any p (kept_of (marked_by keep I O floor qs ss)) ≡ true). ⊎_elim
          (λ (out : list_any p (outside_of ss) ≡ true). inl (or_right (p s.1) (list_any p (outside_of ss)) out))
          (λ (kept : list_any p (kept_inputs (marked_by keep I O floor qs ss)) ≡ true). inr kept)
          (later qs behind))
          (or_cases (p s.1) (list_any p (kept_of (marked_by keep I O floor qs ss))) at)
      by true [] at later = of_input true [] at (later [])
      by true (q ∷ qs) at later = of_input (not (drops_at keep I O floor q)) qs at (later qs)

-- ---- what is outside the inputs

outside_both : (ss ts : List Sourced) → outside_of (ss ++ ts) ≡ outside_of ss ++ outside_of ts
outside_both [] ts = refl
outside_both (s ∷ ss) ts = by s.0 (outside_both ss ts)
  where
    by : (b : Bool) → outside_of (ss ++ ts) ≡ outside_of ss ++ outside_of ts
        → if_so (not b) s.1 (outside_of (ss ++ ts)) ≡ if_so (not b) s.1 (outside_of ss) ++ outside_of ts
    by true later = later
    by false later = ap (λ (es : List Entry). s.1 ∷ es) later

outside_all : (es : List Entry) → outside_of (marked_as false es) ≡ es
outside_all [] = refl
outside_all (e ∷ es) = ap (λ (fs : List Entry). e ∷ fs) (outside_all es)

outside_none : (es : List Entry) → outside_of (marked_as true es) ≡ []
outside_none [] = refl
outside_none (e ∷ es) = outside_none es

module _ (inputs : List ℕ) (p : Entry → Bool) where
  -- a table that is no input has such an entry
  abbrev has_one : Table → Bool
  has_one t = list_any p t.entries

  outside_tables : (ts : List Table)
      → list_any p (outside_of (flat_map (λ (t : Table). marked_as (is_among inputs t) t.entries) ts))
      ≡ list_any (λ (t : Table). not (is_among inputs t) && has_one t) ts
  outside_tables [] = refl
  outside_tables (t ∷ ts) =
      ap (list_any p) (outside_both (marked_as (is_among inputs t) t.entries)
      (flat_map (λ (u : Table). marked_as (is_among inputs u) u.entries) ts))
      ∙ any-append p (outside_of (marked_as (is_among inputs t) t.entries))
      (outside_of (flat_map (λ (u : Table). marked_as (is_among inputs u) u.entries) ts))
      ∙ ap (λ b. list_any p (outside_of (marked_as (is_among inputs t) t.entries)) || b) (outside_tables ts)
      ∙ ap (λ b. b || list_any (λ (u : Table). not (is_among inputs u) && has_one u) ts) (one (is_among inputs t))
    where
      one : (b : Bool) → list_any p (outside_of (marked_as b t.entries)) ≡ (not b && list_any p t.entries)
      one true = ap (list_any p) (outside_none t.entries)
      one false = ap (list_any p) (outside_all t.entries)

-- ---- behind an install

module _ (l : Layout) (job : Job) (moved : List Named) (made : Made) (k : IsKeptFor job moved (sourced l job.inputs))
    (fitted : IsFitted l job job.target) (roomy : IsRoomy l.levels job job.target) (all : AreOutputs job made) where
  abbrev next : Layout
  next = installed job made l

  module _ (key : List ℕ) (n : ℕ) where
    abbrev p : Entry → Bool
    p = is_at key n

    abbrev memory : List Entry
    memory = flat_map memtable (l.active ∷ l.frozen)

    in_tables : list_any (λ (t : Table). list_any p t.entries) (tables next) ≡ true → list_any p (sources next) ≡ true
    in_tables there =
        any-append p (memtable l.active) (behind_active next)
        ∙ or_right (list_any p (memtable l.active)) (list_any p (behind_active next))
        (any-append p (flat_map memtable l.frozen) (flat_map table_entries (tables next))
        ∙ or_right (list_any p (flat_map memtable l.frozen)) (list_any p (flat_map table_entries (tables next)))
        (any-flat_map p table_entries (tables next) ∙ there))

    in_memory : list_any p memory ≡ true → list_any p (sources next) ≡ true
    in_memory there = any-append p (memtable l.active) (behind_active next) ∙ ⊎_elim
        (λ (at : list_any p (memtable l.active) ≡ true).
        or_left (list_any p (memtable l.active)) (list_any p (behind_active next)) at)
        (λ (frozen : list_any p (flat_map memtable l.frozen) ≡ true).
        or_right (list_any p (memtable l.active)) (list_any p (behind_active next))
        (any-append p (flat_map memtable l.frozen) (flat_map table_entries (tables next))
        ∙ or_left (list_any p (flat_map memtable l.frozen)) (list_any p (flat_map table_entries (tables next))) frozen))
        (or_cases (list_any p (memtable l.active)) (list_any p (flat_map memtable l.frozen))
        (sym (any-append p (memtable l.active) (flat_map memtable l.frozen)) ∙ there))

    made_entries : flat_map table_entries made.tables ≡ in_order (kept job)
    made_entries = ap (flat_map table_entries) all.tables ∙ tables_made-entries all.numbers (outputs job) all.enough
        ∙ cut-whole (merged_entries job)

    of_kept : list_any p (kept_inputs (marks_now job (sourced l job.inputs))) ≡ true → list_any p (sources next) ≡ true
    of_kept there = in_tables (made_stand (λ (t : Table). list_any p t.entries) l job made fitted roomy
        (sym (any-flat_map p table_entries made.tables) ∙ ap (list_any p) made_entries ∙ any-in_order key n (kept job)
        ∙ ap (list_any p) (sym (kept_is_kept job moved (sourced l job.inputs) k)) ∙ there))

    of_outside : list_any p (outside_of (sourced l job.inputs)) ≡ true → list_any p (sources next) ≡ true
    of_outside there = ⊎_elim
        (λ (at : list_any p (outside_of (marked_as false memory)) ≡ true).
        in_memory (ap (list_any p) (sym (outside_all memory)) ∙ at))
        (λ (at : list_any p (outside_of in_them) ≡ true).
        in_tables (others_stay (λ (t : Table). list_any p t.entries) l job made
        (sym (outside_tables job.inputs p (tables l)) ∙ at)))
        (or_cases (list_any p (outside_of (marked_as false memory))) (list_any p (outside_of in_them))
        (sym (ap (list_any p) (outside_both (marked_as false memory) in_them)
        ∙ any-append p (outside_of (marked_as false memory)) (outside_of in_them)) ∙ there))
      where
        in_them : List Sourced
        in_them = flat_map (λ (t : Table). marked_as (is_among job.inputs t) t.entries) (tables l)

    -- What is left of the sources by the job's marks stands behind the install.
    pub left_stands : list_any p (kept_of (marks_now job (sourced l job.inputs))) ≡ true → list_any p (sources next) ≡ true
    left_stands there = ⊎_elim (λ (out : list_any p (outside_of (sourced l job.inputs)) ≡ true). of_outside out)
        (λ (in_ones : list_any p (kept_inputs (marks_now job (sourced l job.inputs))) ≡ true). of_kept in_ones)
        (parts_of job.keep (inputs_of job.base) (outside_of job.base) job.floor p (preceded [] job.base)
        (sourced l job.inputs) there)

module _ (l : Layout) (h : History) (job : Job) (moved : List Named) (made : Made) (k : IsOpenWell l h job moved)
    (all : AreOutputs job made) where
  -- Whatever the floor is, if it isn't below the job's.
  pub spared_installed : (to floor : ℕ) → job.floor ≤ floor → IsSpared h (sources l) to floor l.keep l.since
      → IsSpared h (sources (installed job made l)) to floor l.keep l.since
  spared_installed to floor up spared =
      let left = kept_of (marks_now job (sourced l job.inputs)) in
      spared_later h h left (sources (installed job made l)) to to floor floor l.keep l.since (omega arith)
      (λ key n there. has-versions_in key n (sources (installed job made l))
      ∙ left_stands l job moved made k.kept k.fitted k.roomy all key n (sym (has-versions_in key n left) ∙ there))
      (λ key n le there missing. (le, there))
      (spared_left job moved (sourced l job.inputs) k.kept k.some h to floor l.keep l.since up k.fits
      (subst (λ (es : List Entry). IsSpared h es to floor l.keep l.since) (sym (plain-sourced l job.inputs)) spared))

  pub whole_installed : (to floor : ℕ) → job.floor ≤ floor → IsWhole h (sources l) to floor l.gone
      → IsWhole h (sources (installed job made l)) to floor (gone_after l.gone (needless job))
  whole_installed to floor up whole =
      let left = kept_of (marks_now job (sourced l job.inputs)) in
      let after = gone_after l.gone (needless job) in
      whole_later h h left (sources (installed job made l)) to to floor floor after after (omega arith) (omega arith)
      (λ key n there. has-versions_in key n (sources (installed job made l))
      ∙ left_stands l job moved made k.kept k.fitted k.roomy all key n (sym (has-versions_in key n left) ∙ there))
      (λ key n le there missing. (le, there))
      (whole_left job moved (sourced l job.inputs) k.kept k.some h to floor l.gone after up (raised-kept l.gone (needless job))
      (raised-reached l.gone (needless job))
      (subst (λ (es : List Entry). IsWhole h es to floor l.gone) (sym (plain-sourced l job.inputs)) whole))

  floor_up : job.floor ≤ floor l h
  floor_up = by l.live k.live
    where
      by : (xs : List Live) → AllByRecursion (λ (x : Live). job.floor ≤ x.number) xs → job.floor ≤ least_number (last_number h) xs
      by [] all = k.last
      by (x ∷ xs) all = let first = all.0 in let rest = by xs all.1 in omega (arith, first, rest)

  -- The sources behind an install spare versions as they should,
  pub spares_installed : Spares l h → Spares (installed job made l) h
  spares_installed spares = record {
    past = spared_installed (last_number h) (floor l h) floor_up spares.past;
    whole = whole_installed (last_number h) (floor l h) floor_up spares.whole;
  }

  -- and so they do where nothing lives.
  pub rest_spares_installed : Spares (at_rest l) h → Spares (at_rest (installed job made l)) h
  rest_spares_installed spares = record {
    past = spared_installed (last_number h) (last_number h) k.last spares.past;
    whole = whole_installed (last_number h) (last_number h) k.last spares.whole;
  }

-- ---- what rulings on jobs leave

either : {A : Type 0} (b : Bool) (x y : Ruling A) → SparesRuled x → SparesRuled y → SparesRuled (if b then x else y)
either true x y one other = one
either false x y one other = other

module _ (l : Layout) (h : History) (spared : Spares l h) where
  -- a plan,
  pub plan_spares : SparesRuled (plan_ruling l h)
  plan_spares = unless l.job
    where
      of : (o : Option ℕ) → SparesRuled (plan_of l h o)
      of None = spared
      of (Some level) = spared

      unless : (o : Option OpenJob) → SparesRuled (plan_unless o l h)
      unless (Some o) = spared
      unless None = of (due_from 0 l.levels)

  -- a fresh file,
  pub fresh_spares : SparesRuled (fresh_ruling l h)
  fresh_spares = unless l.halted
    where
      unless : (halted : Option FileName) → SparesRuled (fresh_unless halted l h)
      unless (Some name) = spared
      unless None = either (has_no_number l.next_table 1) _ _ spared spared

  -- an end without a switch,
  pub abandon_spares : (job : Job) (made : Made) → SparesRuled (abandon_ruling l h job made)
  abandon_spares job made = spared

  -- and one with it, whatever it answers.
  module _ (o : OpenJob) (made : Made) (k : IsOpenWell l h o.job o.moved) (all : AreOutputs o.job made) where
    pub install_spares : SparesRuled (install_ruling l h o.job made)
    install_spares = unless l.halted
      where
        checked : (raced : Option Named) → SparesRuled (install_checked l h o.job made raced)
        checked (Some named) = spared
        checked None = either (has_no_epoch l) _ _ spared (spares_installed l h o.job o.moved made k all spared)

        unless : (halted : Option FileName) → SparesRuled (install_unless halted l h o.job made)
        unless (Some name) = spared
        unless None = checked (race o.job (moved_since l.job))
