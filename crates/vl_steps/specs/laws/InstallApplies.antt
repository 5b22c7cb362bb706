-- What an install stages isn't refused: its switch can be applied to what the manifest says, and makes of it what the ruling
-- makes of the layout.
use Rattle.std.specs.Prelude.{◌≡◌, ◌⊎◌, ◌==◌, ◌&&◌, ◌||◌, ◌≤◌, ◌<◌, ◌^◌, ◌-◌, ℕ, max, Bool, true, false, not, nat_le}
use Rattle.std.specs.Prelude.{if◌then◌else◌, List, [], ◌∷◌, ◌++◌, length, map, Some, refl}
use Rattle.std.specs.List.{AllByRecursion, flat_map, list_any}
use Rattle.std.proofs.Common.{sym, ap, subst, ◌∙◌, arith, inl, inr, ⊎_elim}
use Rattle.std.proofs.lemmas.Bool.Decides.{nat_tests}
use Rattle.std.proofs.lemmas.Bool.{and_parts, cases_lt}
use Rattle.vl_back.specs.InstallEdits.{Replacing, install_switch, left_levels, left_tables}
use Rattle.vl_back.specs.InstallSays.{CanReplace, install_either, install_says, levels_then, replaced_state}
use Rattle.vl_disk.specs.DiskState.{DiskState, settled}
use Rattle.vl_disk.specs.declared.name.Name.TheVariants as names
use Rattle.vl_engine_laws.specs.Files.{HoldsTable, bytes_of_table}
use Rattle.vl_engine_laws.specs.Held.{Base, Holds, IsBase, frames_of}
use Rattle.vl_engine_laws.specs.Pointed.{layout_logs}
use Rattle.vl_engine_laws.specs.laws.HeldLaws.{base_says}
use Rattle.vl_steps.specs.laws.InstallPlaces.{IsPutAt, place, put_at_place}
use Rattle.vl_engine_model.specs.Jobs.{AreDistinct, AreLent, AreOutputs, Made, lent_numbers}
use Rattle.vl_engine_model.specs.Levels.{is_among, without}
use Rattle.vl_engine_model.specs.Merging.{drops_by_need, gone_after, if_so, inputs_of, is_below, is_needless}
use Rattle.vl_engine_model.specs.Merging.{is_needless_one, is_outdated, is_shadowed, needless, needless_from, outside_of}
use Rattle.vl_engine_model.specs.OpenJobs.{IsOpenWell}
use Rattle.vl_engine_model.specs.Rulings.Install.{installed}
use Rattle.vl_engine_model.specs.Sources.{numbers_of, tables}
use Rattle.vl_engine_model.specs.Tidy.{IsTidy}
use Rattle.vl_engine_model.specs.declared.job.Job.{Job}
use Rattle.vl_engine_model.specs.declared.job.OpenJob.{OpenJob}
use Rattle.vl_engine_model.specs.declared.layout.Layout.{Layout}
use Rattle.vl_engine_model.specs.declared.table.Table.{Table}
use Rattle.vl_engine_model_laws.specs.laws.Files.{all_parts}
use Rattle.vl_engine_model_laws.specs.laws.Gone.{raised-kept, raised-least}
use Rattle.vl_engine_model_laws.specs.laws.InstallTidy.{lent_here}
use Rattle.vl_engine_model_laws.specs.laws.WellInstalled.{not_standing}
use Rattle.vl_manifest.specs.Levels.{all_tables, is_in}
use Rattle.vl_manifest.specs.Manifest.{manifest_bytes}
use Rattle.vl_manifest.specs.States.{are_next, is_file_number, is_gone, next_state}
use Rattle.vl_manifest.specs.declared.edit.Edit.{Edit}
use Rattle.vl_manifest.specs.declared.state.ManifestState.{ManifestState}
use Rattle.vl_manifest.specs.laws.ManifestLaws.{says_in_range}
use Rattle.vl_manifest.specs.laws.StateLaws.{IsInRange, gone_passes}
use Rattle.vl_manifest.specs.laws.TableLists.{AreOnce}
use Rattle.vl_model.specs.Entries.{is_gone as is_deletion}
use Rattle.vl_model.specs.History.{History}
use Rattle.vl_model.specs.Limits.{max_commit_number}
use Rattle.vl_model.specs.Numbers.{has}
use Rattle.vl_model.specs.declared.entry.Entry.{Entry}

-- ---- the switch of a job

-- what its tables take the place of, and where
abbrev pub replacing : Layout → Job → Made → Replacing
replacing l job made = record {
  inputs = job.inputs;
  made = numbers_of made.tables;
  level = (place l job made.tables).0;
  position = (place l job made.tables).1;
  next_log = l.next_log;
  next_table = l.next_table;
  gone = gone_after l.gone (needless job);
}

-- the edits of its switch
abbrev pub edits_of : Base → Layout → Job → Made → List Edit
edits_of b l job made = install_switch (replacing l job made) b.state

-- ---- tables by their numbers

numbers_left : (inputs : List ℕ) (ts : List Table) → left_tables inputs (numbers_of ts) ≡ numbers_of (without inputs ts)
numbers_left inputs [] = refl
numbers_left inputs (t ∷ ts) = by (is_among inputs t) (numbers_left inputs ts)
  where
    by : (b : Bool) → left_tables inputs (numbers_of ts) ≡ numbers_of (without inputs ts)
        → (if not b then t.number ∷ left_tables inputs (numbers_of ts) else left_tables inputs (numbers_of ts))
        ≡ numbers_of (if not b then t ∷ without inputs ts else without inputs ts)
    by true later = later
    by false later = ap (λ (ns : List ℕ). t.number ∷ ns) later

pub levels_left : (inputs : List ℕ) (levels : List (List Table))
    → left_levels inputs (map numbers_of levels) ≡ map numbers_of (map (without inputs) levels)
levels_left inputs [] = refl
levels_left inputs (ts ∷ deeper) =
    ap (λ (ns : List ℕ). ns ∷ left_levels inputs (map numbers_of deeper)) (numbers_left inputs ts)
    ∙ ap (λ (ls : List (List ℕ)). numbers_of (without inputs ts) ∷ ls) (levels_left inputs deeper)

numbers_both : (ts us : List Table) → numbers_of (ts ++ us) ≡ numbers_of ts ++ numbers_of us
numbers_both [] us = refl
numbers_both (t ∷ ts) us = ap (λ (ns : List ℕ). t.number ∷ ns) (numbers_both ts us)

levels_with : (front : List (List Table)) (ts : List Table) (back : List (List Table))
    → map numbers_of (front ++ ts ∷ back) ≡ map numbers_of front ++ numbers_of ts ∷ map numbers_of back
levels_with [] ts back = refl
levels_with (us ∷ front) ts back = ap (λ (ls : List (List ℕ)). numbers_of us ∷ ls) (levels_with front ts back)

as_many : (levels : List (List Table)) → length (map numbers_of levels) ≡ length levels
as_many [] = refl
as_many (ts ∷ deeper) = let same = as_many deeper in omega (arith, same)

as_many_numbers : (ts : List Table) → length (numbers_of ts) ≡ length ts
as_many_numbers [] = refl
as_many_numbers (t ∷ ts) = let same = as_many_numbers ts in omega (arith, same)

numbers_in : (levels : List (List Table)) → all_tables (map numbers_of levels) ≡ numbers_of (flat_map (λ ts. ts) levels)
numbers_in [] = refl
numbers_in (ts ∷ deeper) = ap (λ (ns : List ℕ). numbers_of ts ++ ns) (numbers_in deeper)
    ∙ sym (numbers_both ts (flat_map (λ us. us) deeper))

no_number : (n : ℕ) (ts : List Table) → list_any (λ (t : Table). n == t.number) ts ≡ false → is_in n (numbers_of ts) ≡ false
no_number n [] none = refl
no_number n (t ∷ ts) none = by (n == t.number) refl (t.number == n) refl none (no_number n ts)
  where
    true_false : true ≡ false → ⊥
    true_false e = cc

    by : (a : Bool) → (n == t.number) ≡ a → (b : Bool) → (t.number == n) ≡ b
        → (a || list_any (λ (u : Table). n == u.number) ts) ≡ false
        → (list_any (λ (u : Table). n == u.number) ts ≡ false → is_in n (numbers_of ts) ≡ false)
        → (b || is_in n (numbers_of ts)) ≡ false
    by true is b at off later = absurd (true_false off)
    by false is true at off later = absurd (grind (arith, nat_tests, is, at))
    by false is false at off later = later off

front_once : (ns ms : List ℕ) → AreDistinct (ns ++ ms) → AreOnce ns
front_once [] ms distinct = tt
front_once (n ∷ ns) ms distinct = (none ns distinct.0, front_once ns ms distinct.1)
  where
    none : (ks : List ℕ) → has n (ks ++ ms) ≡ false → is_in n ks ≡ false
    none [] off = refl
    none (k ∷ ks) off = by (k == n) off (none ks)
      where
        by : (b : Bool) → (b || has n (ks ++ ms)) ≡ false → (has n (ks ++ ms) ≡ false → is_in n ks ≡ false)
            → (b || is_in n ks) ≡ false
        by true wrong later = absurd (let no : true ≡ false = wrong in cc)
        by false so later = later so

-- ---- what its merge drops for good

module _ (keep : ℕ) (I O : List Entry) (floor : ℕ) where
  low_if : (b : Bool) (e : Entry) (es : List Entry) → (b ≡ true → e.version ≤ floor)
      → AllByRecursion (λ (x : Entry). x.version ≤ floor) es → AllByRecursion (λ (x : Entry). x.version ≤ floor) (if_so b e es)
  low_if true e es low all = (low refl, all)
  low_if false e es low all = all

  low_needless : (newer : List Entry) (ss : List (Bool × Entry))
      → AllByRecursion (λ (e : Entry). e.version ≤ floor) (needless_from keep I O floor newer ss)
  low_needless newer [] = tt
  low_needless newer (s ∷ ss) = low_if (s.0 && drops_by_need keep I O floor newer s.1) s.1
      (needless_from keep I O floor (s.1 ∷ newer) ss)
      (λ dropped.
      let one = and_parts s.0 (drops_by_need keep I O floor newer s.1) dropped in
      let two = and_parts (not (is_shadowed newer s.1))
      (not (is_outdated keep I floor s.1) && is_needless keep O floor s.1) one.1 in
      let three = and_parts (not (is_outdated keep I floor s.1)) (is_needless keep O floor s.1) two.1 in
      let four = and_parts (keep == 1) (is_needless_one O floor s.1) three.1 in
      let five = and_parts (is_deletion s.1.body) (nat_le s.1.version floor && not (list_any (is_below s.1) O)) four.1 in
      let six = and_parts (nat_le s.1.version floor) (not (list_any (is_below s.1) O)) five.1 in
      let low = six.0 in
      let le : s.1.version ≤ floor = grind (arith, nat_tests, low) in le)
      (low_needless (s.1 ∷ newer) ss)

-- It is the greatest version of those, or what was dropped before.
pub gone_most : (gone : ℕ) (es : List Entry) → gone_after gone es ≡ max gone (gone_after 0 es)
gone_most gone [] = omega arith
gone_most gone (e ∷ es) = let later = gone_most gone es in omega (arith, later)

-- ---- the whole

module _ (b : Base) (l : Layout) (h : History) (disk : DiskState) (base : IsBase b l h) (tidy : IsTidy (layout_logs l) l h)
    (holds : Holds b l disk) (o : OpenJob) (is : l.job ≡ Some o) (made : Made) (lent : AreLent o.lent made)
    (all : AreOutputs o.job made) (stand : AllByRecursion (HoldsTable disk) made.tables)
    (next : are_next l.next_log l.next_table ≡ true) where
  abbrev pub r : Replacing
  r = replacing l o.job made

  open_well : IsOpenWell l h o.job o.moved
  open_well = tidy.job o is

  in_range : IsInRange b.state
  in_range = says_in_range b.manifest.number (manifest_bytes b.manifest.number (frames_of b)) b.state
      (base_says b l h base disk holds.base)

  pub put : IsPutAt o.job.inputs made.tables l.levels (installed o.job made l).levels r.level r.position
  put = put_at_place l o.job made.tables open_well.fitted open_well.roomy

  numbered : (ts : List Table) → AllByRecursion (HoldsTable disk) ts
      → AllByRecursion (λ (n : ℕ). is_file_number n ≡ true) (numbers_of ts)
  numbered [] held = tt
  numbered (t ∷ ts) held =
      let fits = holds.lawful.numbered (names.Table t.number) (settled (bytes_of_table t)) held.0.stands in
      (of t.number fits.0 fits.1, numbered ts held.1)
    where
      of : (n : ℕ) → 1 ≤ n → n ≤ 2 ^ 32 - 2 → is_file_number n ≡ true
      of n low high = grind (arith, nat_tests, low, high)

  none_stand : (ns : List ℕ) → AllByRecursion (λ n. has n (lent_numbers l.job) ≡ true) ns
      → AllByRecursion (λ (n : ℕ). is_in n (all_tables b.state.levels) ≡ false) ns
  none_stand [] drawn = tt
  none_stand (n ∷ ns) drawn = (
    ap (λ (ls : List (List ℕ)). is_in n (all_tables ls)) base.levels ∙ ap (is_in n) (numbers_in l.levels)
        ∙ no_number n (tables l) (not_standing l tidy.files n drawn.0),
    none_stand ns drawn.1,
  )

  gone_fits : (b.state.gone ≡ r.gone) ⊎ (is_gone r.gone ≡ true)
  gone_fits = ⊎_elim
      (λ (more : l.gone < r.gone).
      let floor_known = open_well.last in
      let last = tidy.last in
      let gone_known = subst (λ (n : ℕ). n ≤ max_commit_number) base.gone in_range.gone in
      inr (gone_passes r.gone (omega (arith, more)) (raised-least l.gone max_commit_number (needless o.job) gone_known
      (each_known (needless o.job) (omega (arith, floor_known, last))
      (low_needless o.job.keep (inputs_of o.job.base) (outside_of o.job.base) o.job.floor [] o.job.base)))))
      (λ (no_more : r.gone ≤ l.gone).
      let up = raised-kept l.gone (needless o.job) in
      let same : l.gone ≡ r.gone = omega (arith, up, no_more) in
      inl (base.gone ∙ same))
      (cases_lt l.gone r.gone)
    where
      each_known : (es : List Entry) → o.job.floor ≤ max_commit_number
          → AllByRecursion (λ (e : Entry). e.version ≤ o.job.floor) es
          → AllByRecursion (λ (e : Entry). e.version ≤ max_commit_number) es
      each_known [] known low = tt
      each_known (e ∷ es) known low = ((let le = low.0 in omega (arith, le, known)), each_known es known low.1)

  pub can : CanReplace r b.state
  can = record {
    once = in_range.tables.once;
    front = map numbers_of put.front;
    before = numbers_of put.before;
    behind = numbers_of put.behind;
    back = map numbers_of put.back;
    are = ap (left_levels o.job.inputs) base.levels ∙ levels_left o.job.inputs l.levels ∙ ap (map numbers_of) put.left
        ∙ levels_with put.front (put.before ++ put.behind) put.back
        ∙ ap (λ (ns : List ℕ). map numbers_of put.front ++ ns ∷ map numbers_of put.back) (numbers_both put.before put.behind);
    level = put.level_is ∙ sym (as_many put.front);
    position = put.position_is ∙ sym (as_many_numbers put.before);
    numbers = numbered made.tables stand;
    distinct = front_once (numbers_of made.tables) made.leavings lent.distinct;
    new = none_stand (numbers_of made.tables) (all_parts (λ n. has n (lent_numbers l.job) ≡ true) (numbers_of made.tables)
        made.leavings (lent_here l h o is made tidy.files tidy.levels open_well all lent).drawn).0;
    next = next;
    gone = gone_fits;
  }

  -- What the manifest says behind it.
  abbrev pub state : ManifestState
  state = replaced_state r (levels_then r b.state can) b.state

  pub install_applies : next_state (edits_of b l o.job made) b.state ≡ Some state
  install_applies = install_says r b.state can

  -- So it is with the number of the next table that was drawn by then.
  pub install_staged : (n : ℕ) → next_state (edits_of b l o.job made) (record b.state { next_table = n }) ≡ Some state
  install_staged n = install_either r b.state can n

  -- Its levels are those of the layout that the ruling leaves.
  pub levels_are : state.levels ≡ map numbers_of (installed o.job made l).levels
  unfolding can put
  levels_are = sym (ap (map numbers_of) put.put
      ∙ levels_with put.front (put.before ++ (made.tables ++ put.behind)) put.back
      ∙ ap (λ (ns : List ℕ). map numbers_of put.front ++ ns ∷ map numbers_of put.back)
      (numbers_both put.before (made.tables ++ put.behind)
      ∙ ap (λ (ns : List ℕ). numbers_of put.before ++ ns) (numbers_both made.tables put.behind)))
