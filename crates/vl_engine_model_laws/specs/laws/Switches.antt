-- So do a flush, an install and a sweep.
use Rattle.std.proofs.Common.{◌≡◌, ◌⊎◌, inl, inr, ⊎_elim, ℕ, ◌+◌, ◌<◌, Bool, true, false, cond, not, List, [], ◌∷◌}
use Rattle.std.proofs.Common.{◌++◌, map, refl, ap, sym, ◌∙◌, subst, arith}
use Rattle.std.proofs.lemmas.Bool.Decides.{nat_tests}
use Rattle.std.specs.Prelude.{Option, Some, None, nat_le, nat_lt, ◌==◌, length}
use Rattle.std.specs.List.{AllByRecursion, flat_map, list_any, filter}
use Rattle.std.specs.Ordering.{nat_cmp}
use Rattle.vl_model.specs.Frames.{frame_length}
use Rattle.vl_model.specs.Limits.{max_inline_bytes}
use Rattle.vl_model.specs.Placement.{placement, placed}
use Rattle.vl_model.specs.declared.change.Change.{Change}
use Rattle.vl_model.specs.declared.change.Change.TheVariants.{Set, Delete}
use Rattle.vl_model.specs.declared.entry.Entry.{Entry}
use Rattle.vl_model.specs.declared.entry.Body.{Body}
use Rattle.vl_model.specs.declared.entry.Body.TheVariants.{Inline, Gone, Far, Logged}
use Rattle.vl_model.specs.declared.log_frame.LogFrame.{LogFrame}
use Rattle.vl_model.specs.declared.pointer.Pointer.{Pointer}
use Rattle.vl_model.specs.Cutting.{points_of}
use Rattle.vl_model.specs.Cutting.{joined}
use Rattle.vl_model.specs.declared.point.Point.{Point}
use Rattle.vl_engine_model.specs.Levels.{is_among, in_front, replaced, without, at_level, in_key_order, is_before}
use Rattle.vl_engine_model.specs.Logs.{LogRecord, record_entry, logged_body, pointer_to, frame_entries, frame_records, logged_entries, memtable}
use Rattle.vl_engine_model.specs.laws.OrderShows.{all-in_order}
use Rattle.vl_engine_model.specs.Rulings.Flush.{flushed, flushed_table}
use Rattle.vl_engine_model.specs.Rulings.Sweep.{is_same, pins, without_files}
use Rattle.vl_engine_model.specs.Sources.{needed, tables, oldest, but_oldest, log_of, table_of, pointed_logs}
use Rattle.vl_engine_model.specs.declared.file_name.FileName.{FileName}
use Rattle.vl_engine_model.specs.declared.file_name.FileName.TheVariants.{Log, Table as TableFile, Manifest}
use Rattle.vl_engine_model.specs.declared.file_name.Retired.{Retired}
use Rattle.vl_engine_model.specs.declared.job.Target.{Target}
use Rattle.vl_engine_model.specs.declared.job.Target.TheVariants.{Level, InPlace}
use Rattle.vl_engine_model.specs.declared.layout.Layout.{Layout}
use Rattle.vl_engine_model.specs.declared.live.Pin.{Pin}
use Rattle.vl_engine_model.specs.declared.segment.Segment.{Segment}
use Rattle.vl_engine_model.specs.declared.table.Table.{Table}
use Rattle.vl_engine_model_laws.specs.laws.Files.{true_false, or_cases, or_left, or_right, any-append, any-map, all_weaker}
use Rattle.vl_engine_model_laws.specs.laws.Files.{all_both, all_parts, all_filtered, all_passed, same_file, itself}
use Rattle.vl_engine_model_laws.specs.laws.Files.{leads-points}
use Rattle.vl_engine_model_laws.specs.laws.Steps.{Gains, still_unneeded, drawn_later, needed_parts, in_tables, in_points}
use Rattle.vl_engine_model_laws.specs.laws.Steps.{in_logs, later_pins, nothing_more, stocked_switched}
use Rattle.vl_engine_model.specs.Stock.{is_in, leads, is_body_into, is_into, HasBytesAt, HasBytes, IsFooted, IsDrawn}
use Rattle.vl_engine_model.specs.Stock.{IsUnneeded, IsOff, IsPinned, IsFalling, IsStocked}
use Rattle.vl_model.specs.Keys.{value_length}
use Rattle.vl_model.specs.Formats.{record_head}

-- ---- a memtable's entries as a table's

-- the body leads nowhere but into this log
abbrev pub IsOwnAt : ℕ → Body → Type 0
IsOwnAt number (Inline value) = Unit {0}
IsOwnAt number Gone = Unit {0}
IsOwnAt number (Far pointer) = ⊥
IsOwnAt number (Logged value pointer) = (pointer.segment ≡ number) × (0 < pointer.length)

abbrev pub IsOwn : ℕ → Entry → Type 0
IsOwn number e = IsOwnAt number e.body

own_record : (number : ℕ) (r : LogRecord) (c : Change) (p : Pointer) → p.segment ≡ number → 0 < p.length
    → IsOwnAt number (logged_body c p)
own_record number r (Set value) p is some = (is, some)
own_record number r Delete p is some = tt

some_head : (format : ℕ) → 0 < record_head format
some_head format = elim (nat_le format 1) as (λ b. 0 < cond b 7 8) [ true ↦ omega arith | false ↦ omega arith ]

own_records : (format number : ℕ) (rs : List LogRecord)
    → AllByRecursion (IsOwn number) (map (record_entry format number) rs)
own_records format number [] = tt
own_records format number (r ∷ rs) = (
  own_record number r r.change (pointer_to format number r) refl
      (let some = some_head format in omega (arith, some)),
  own_records format number rs,
)

own_logged : (format number place : ℕ) (fs : List LogFrame)
    → AllByRecursion (IsOwn number) (logged_entries format number place fs)
own_logged format number place [] = tt
own_logged format number place (f ∷ fs) =
    all_both (IsOwn number) (logged_entries format number (place + frame_length format f) fs) (frame_entries format number place f)
    (own_logged format number (place + frame_length format f) fs) (own_records format number (frame_records format place f))

pub own_memtable : (s : Segment) → AllByRecursion (IsOwn s.number) (memtable s)
own_memtable s =
    all-in_order (IsOwn s.number) (logged_entries s.format s.number 16 s.frames) (own_logged s.format s.number 16 s.frames)

placed_body : (number : ℕ) (b : Body) → IsOwnAt number b
    → HasBytesAt (placement b) × ((n : ℕ) → is_body_into n (placement b) ≡ true → n ≡ number)
placed_body number (Inline value) own = (tt, λ n is. absurd (true_false (sym is)))
placed_body number Gone own = (tt, λ n is. absurd (true_false (sym is)))
placed_body number (Far pointer) own = absurd own
placed_body number (Logged value pointer) own =
    elim (nat_le (value_length value) max_inline_bytes) as
    (λ t. HasBytesAt (cond t (Inline value) (Far pointer))
    × ((n : ℕ) → is_body_into n (cond t (Inline value) (Far pointer)) ≡ true → n ≡ number)) [
      | true ↦ (tt, λ n is. absurd (true_false (sym is)))
      | false ↦ (own.1, λ n is. let e : n ≡ pointer.segment = grind (arith, nat_tests, is) in e ∙ own.0)
    ]

placed_bytes : (number : ℕ) (es : List Entry) → AllByRecursion (IsOwn number) es
    → AllByRecursion HasBytes (map placed es)
placed_bytes number [] own = tt
placed_bytes number (e ∷ es) own = ((placed_body number e.body own.0).0, placed_bytes number es own.1)

placed_into : (number n : ℕ) (es : List Entry) → AllByRecursion (IsOwn number) es
    → list_any (is_into n) (map placed es) ≡ true → n ≡ number
placed_into number n [] own there = absurd (true_false (sym there))
placed_into number n (e ∷ es) own there = ⊎_elim
    (λ (here : is_into n (placed e) ≡ true). (placed_body number e.body own.0).1 n here)
    (λ (later : list_any (is_into n) (map placed es) ≡ true). placed_into number n es own.1 later)
    (or_cases (is_into n (placed e)) (list_any (is_into n) (map placed es)) there)

-- ---- a flush

-- a file among a table's pointed logs is one that its entries lead into
pointed_into : (f : FileName) (t : Table) → t.points ≡ points_of t.entries → is_in f (pointed_logs t) ≡ true
    → (n : ℕ) × (f ≡ Log n) × (list_any (is_into n) t.entries ≡ true)
pointed_into (Log n) t are there = (
  n,
  refl,
  sym (leads-points n t.entries) ∙ ap (leads n) (sym are)
      ∙ sym (any-map (is_same (Log n)) (λ (p : Point). Log p.segment) t.points) ∙ there,
)
pointed_into (TableFile n) t are there = absurd (never t.points there)
  where
    never : (ps : List Point) → is_in (TableFile n) (map (λ (p : Point). Log p.segment) ps) ≡ true → ⊥
    never [] there = true_false (sym there)
    never (p ∷ ps) there = never ps there
pointed_into (Manifest n) t are there = absurd (never t.points there)
  where
    never : (ps : List Point) → is_in (Manifest n) (map (λ (p : Point). Log p.segment) ps) ≡ true → ⊥
    never [] there = true_false (sym there)
    never (p ∷ ps) there = never ps there

pub oldest_in : (f : FileName) (ss : List Segment) (s : Segment) → oldest ss ≡ Some s → is_same f (log_of s) ≡ true
    → is_in f (map log_of ss) ≡ true
oldest_in f [] s is same = absurd cc
oldest_in f (t ∷ []) s is same =
    or_left (is_same f (log_of t)) false (ap (λ (x : Segment). is_same f (log_of x)) (the_one t s is) ∙ same)
  where
    the_one : (a b : Segment) → Some a ≡ Some b → a ≡ b
    the_one a b e = cc
oldest_in f (t ∷ u ∷ us) s is same =
    or_right (is_same f (log_of t)) (is_in f (map log_of (u ∷ us))) (oldest_in f (u ∷ us) s is same)

but_oldest_in : (f : FileName) (ss : List Segment) → is_in f (map log_of (but_oldest ss)) ≡ true
    → is_in f (map log_of ss) ≡ true
but_oldest_in f [] there = there
but_oldest_in f (t ∷ []) there = absurd (true_false (sym there))
but_oldest_in f (t ∷ u ∷ us) there = ⊎_elim
    (λ (here : is_same f (log_of t) ≡ true). or_left (is_same f (log_of t)) (is_in f (map log_of (u ∷ us))) here)
    (λ (later : is_in f (map log_of (but_oldest (u ∷ us))) ≡ true). or_right (is_same f (log_of t))
    (is_in f (map log_of (u ∷ us))) (but_oldest_in f (u ∷ us) later))
    (or_cases (is_same f (log_of t)) (is_in f (map log_of (but_oldest (u ∷ us)))) there)

all_but_oldest : (P : Segment → Type 0) (ss : List Segment) → AllByRecursion P ss → AllByRecursion P (but_oldest ss)
all_but_oldest P [] all = tt
all_but_oldest P (t ∷ []) all = tt
all_but_oldest P (t ∷ u ∷ us) all = (all.0, all_but_oldest P (u ∷ us) all.1)

falling_but_oldest : (ss : List Segment) → IsFalling ss → IsFalling (but_oldest ss)
falling_but_oldest [] falling = tt
falling_but_oldest (t ∷ []) falling = tt
falling_but_oldest (t ∷ u ∷ us) falling =
    (all_but_oldest (λ (x : Segment). x.number < t.number) (u ∷ us) falling.0, falling_but_oldest (u ∷ us) falling.1)

of_oldest : (P : Segment → Type 0) (ss : List Segment) (s : Segment) → oldest ss ≡ Some s → AllByRecursion P ss → P s
of_oldest P [] s is all = absurd cc
of_oldest P (t ∷ []) s is all = subst P (the_one t s is) all.0
  where
    the_one : (a b : Segment) → Some a ≡ Some b → a ≡ b
    the_one a b e = cc
of_oldest P (t ∷ u ∷ us) s is all = of_oldest P (u ∷ us) s is all.1

new_table_gains : (next_log next_table : ℕ) (t : Table) (ts : List Table) (a s : Segment) (ss : List Segment)
    → t.number ≡ next_table → t.points ≡ points_of t.entries
    → ((n : ℕ) → list_any (is_into n) t.entries ≡ true → n ≡ s.number) → oldest ss ≡ Some s
    → Gains next_log next_table ((map table_of ts ++ flat_map pointed_logs ts) ++ map log_of (a ∷ ss))
    ((map table_of (t ∷ ts) ++ flat_map pointed_logs (t ∷ ts)) ++ map log_of (a ∷ but_oldest ss))
new_table_gains next_log next_table t ts a s ss numbered are into waits f there =
    let T = map table_of ts in
    let P = flat_map pointed_logs ts in
    let L = map log_of (a ∷ ss) in
    ⊎_elim
    (λ (one : is_in f (table_of t ∷ T) ≡ true). ⊎_elim
    (λ (here : is_same f (table_of t) ≡ true). inr
    (λ drawn. let less : t.number < next_table = subst (IsDrawn next_log next_table) (same_file f (table_of t) here)
    drawn in omega (arith, less, numbered)))
    (λ (later : is_in f T ≡ true). inl (in_tables f T P L later))
    (or_cases (is_same f (table_of t)) (is_in f T) one))
    (λ (other : (is_in f (pointed_logs t ++ P) ≡ true) ⊎ (is_in f (map log_of (a ∷ but_oldest ss)) ≡ true)). ⊎_elim
    (λ (two : is_in f (pointed_logs t ++ P) ≡ true). ⊎_elim
    (λ (here : is_in f (pointed_logs t) ≡ true).
    let to = pointed_into f t are here in
    let same : f ≡ log_of s = to.1 ∙ ap Log (into to.0 to.2) in
    inl (in_logs f T P L (or_right (is_same f (log_of a)) (is_in f (map log_of ss))
    (oldest_in f ss s waits (ap (is_same f) (sym same) ∙ itself f)))))
    (λ (later : is_in f P ≡ true). inl (in_points f T P L later))
    (or_cases (is_in f (pointed_logs t)) (is_in f P) (sym (any-append (is_same f) (pointed_logs t) P) ∙ two)))
    (λ (three : is_in f (map log_of (a ∷ but_oldest ss)) ≡ true). inl (in_logs f T P L (⊎_elim
    (λ (here : is_same f (log_of a) ≡ true). or_left (is_same f (log_of a)) (is_in f (map log_of ss)) here)
    (λ (later : is_in f (map log_of (but_oldest ss)) ≡ true). or_right (is_same f (log_of a)) (is_in f (map log_of ss))
    (but_oldest_in f ss later))
    (or_cases (is_same f (log_of a)) (is_in f (map log_of (but_oldest ss))) three))))
    other)
    (needed_parts f (table_of t ∷ T) (pointed_logs t ++ P) (map log_of (a ∷ but_oldest ss)) there)

pub early_pins : (v : ℕ) (rs : List Retired) (ps : List Pin) → AllByRecursion (IsPinned v rs) ps
    → AllByRecursion (λ (p : Pin). p.epoch < v + 1) ps
early_pins v rs ps all =
    all_weaker (IsPinned v rs) (λ (p : Pin). p.epoch < v + 1) (λ p is. let less = is.old in omega (arith, less)) ps all

-- the layout of a flush before files retire
abbrev pub flushing : Layout → Segment → Layout
flushing l s = record l {
  frozen = but_oldest l.frozen;
  flushed = s ∷ l.flushed;
  levels = in_front (flushed_table l s) l.levels;
  covered = Rattle.vl_engine_model.specs.Rulings.Flush.covered_by s.frames l.covered;
  next_table = l.next_table + 1;
  epoch = l.epoch + 1;
}

pub stocked_flushed : (l : Layout) (s : Segment) (level : List Table) (deeper : List (List Table)) → IsStocked l
    → oldest l.frozen ≡ Some s → l.levels ≡ level ∷ deeper → IsStocked (flushed l s)
stocked_flushed l s level deeper k waits are =
    let t = flushed_table l s in
    let new : tables (flushing l s) ≡ t ∷ tables l =
    ap (λ (levels : List (List Table)). flat_map (λ ts. ts) (in_front t levels)) are
    ∙ ap (λ (levels : List (List Table)). t ∷ flat_map (λ ts. ts) levels) (sym are) in
    let gains : Gains l.next_log l.next_table (needed l) (needed (flushing l s)) =
    subst (λ (ts : List Table). Gains l.next_log l.next_table (needed l)
    ((map table_of ts ++ flat_map pointed_logs ts) ++ map log_of (l.active ∷ but_oldest l.frozen))) (sym new)
    (new_table_gains l.next_log l.next_table t (tables l) l.active s l.frozen refl refl
    (λ n there. placed_into s.number n (memtable s) (own_memtable s) there) waits) in
    let stocked : IsStocked (flushing l s) = record {
      unneeded =
          still_unneeded l.next_log l.next_table (needed l) (needed (flushing l s)) gains l.retired k.unneeded k.retired_drawn;
      retired_drawn =
          all_weaker (λ (r : Retired). IsDrawn l.next_log l.next_table r.file)
          (λ (r : Retired). IsDrawn l.next_log (l.next_table + 1) r.file)
          (λ r is. drawn_later l.next_log l.next_table l.next_log (l.next_table + 1) (omega arith) (omega arith) r.file
          is) l.retired k.retired_drawn;
      pinned =
          subst (λ (rs : List Retired). AllByRecursion (IsPinned (l.epoch + 1) rs) (pins l))
          (nothing_more l.retired) (later_pins l k [] tt (pins l) k.pinned);
      tables_drawn = subst (AllByRecursion (λ (u : Table). u.number < l.next_table + 1)) (sym new) (
        omega arith,
        all_weaker (λ (u : Table). u.number < l.next_table) (λ (u : Table). u.number < l.next_table + 1)
            (λ u less. omega (arith, less)) (tables l) k.tables_drawn,
      );
      logs_drawn =
          (k.logs_drawn.0, all_but_oldest (λ (x : Segment). x.number < l.next_log) l.frozen k.logs_drawn.1);
      flushed_drawn =
          (of_oldest (λ (x : Segment). x.number < l.next_log) l.frozen s waits k.logs_drawn.1, k.flushed_drawn);
      falling =
          (all_but_oldest (λ (x : Segment). x.number < l.active.number) l.frozen k.falling.0, falling_but_oldest l.frozen k.falling.1);
      footed =
          subst (AllByRecursion IsFooted) (sym new)
          (record { points = refl; bytes = placed_bytes s.number (memtable s) (own_memtable s) }, k.footed);
    } in
    stocked_switched (flushing l s) stocked [] (early_pins l.epoch l.retired (pins l) k.pinned) tt

-- ---- an install

module _ (P : Table → Type 0) (inputs : List ℕ) (new : List Table) (made : AllByRecursion P new) where
  abbrev pub Stays : Table → Type 0
  Stays t = is_among inputs t ≡ false → P t

  all_without : (ts : List Table) → AllByRecursion (λ (t : Table). is_among inputs t ≡ false → P t) ts
      → AllByRecursion P (without inputs ts)
  all_without ts all =
      all_passed (λ (t : Table). is_among inputs t ≡ false → P t) P (λ t. not (is_among inputs t))
      (λ t stays is. stays (not_true (is_among inputs t) is)) ts all
    where
      not_true : (b : Bool) → not b ≡ true → b ≡ false
      not_true true h = absurd (true_false (sym h))
      not_true false h = refl

  all_in_key_order : (ts : List Table) → AllByRecursion P ts → AllByRecursion P (in_key_order new ts)
  all_in_key_order [] all = made
  all_in_key_order (t ∷ ts) all = elim (is_before t new) as (λ b. AllByRecursion P (cond b (t ∷ in_key_order new ts) (new ++ t ∷ ts))) [
    | true ↦ (all.0, all_in_key_order ts all.1)
    | false ↦ all_both P new (t ∷ ts) made all
  ]

  pub all_at_level : (n : ℕ) (levels : List (List Table)) → AllByRecursion P (flat_map (λ ts. ts) levels)
      → AllByRecursion P (flat_map (λ ts. ts) (at_level n (in_key_order new) levels))
  all_at_level n [] all = tt
  all_at_level n (ts ∷ deeper) all =
      let both = all_parts P ts (flat_map (λ xs. xs) deeper) all in
      elim (n == 0) as (λ b. AllByRecursion P
      (flat_map (λ xs. xs) (cond b (in_key_order new ts ∷ deeper)
      (ts ∷ at_level (Rattle.std.specs.Prelude.◌-◌ n 1) (in_key_order new) deeper)))) [
        | true ↦ all_both P (in_key_order new ts) (flat_map (λ xs. xs) deeper) (all_in_key_order ts both.0) both.1
        | false ↦ all_both P ts (flat_map (λ xs. xs)
            (at_level (Rattle.std.specs.Prelude.◌-◌ n 1) (in_key_order new) deeper)) both.0
            (all_at_level (Rattle.std.specs.Prelude.◌-◌ n 1) deeper both.1)
      ]

  all_levels_without : (levels : List (List Table))
      → AllByRecursion (λ (t : Table). is_among inputs t ≡ false → P t) (flat_map (λ ts. ts) levels)
      → AllByRecursion P (flat_map (λ ts. ts) (map (without inputs) levels))
  all_levels_without [] all = tt
  all_levels_without (ts ∷ deeper) all =
      let both = all_parts (λ (t : Table). is_among inputs t ≡ false → P t) ts (flat_map (λ xs. xs) deeper) all in
      all_both P (without inputs ts) (flat_map (λ xs. xs) (map (without inputs) deeper)) (all_without ts both.0)
      (all_levels_without deeper both.1)

  pub all_swapped : (ts : List Table) → AllByRecursion (λ (t : Table). is_among inputs t ≡ false → P t) ts
      → AllByRecursion P (flat_map (λ t. cond (is_among inputs t) new (t ∷ [])) ts)
  all_swapped [] all = tt
  all_swapped (t ∷ ts) all =
      all_both P (cond (is_among inputs t) new (t ∷ [])) (flat_map (λ u. cond (is_among inputs u) new (u ∷ [])) ts)
      (one (is_among inputs t) refl) (all_swapped ts all.1)
    where
      one : (b : Bool) → is_among inputs t ≡ b → AllByRecursion P (cond b new (t ∷ []))
      one true is = made
      one false is = (all.0 is, tt)

  all_in_place : (levels : List (List Table))
      → AllByRecursion (λ (t : Table). is_among inputs t ≡ false → P t) (flat_map (λ ts. ts) levels)
      → AllByRecursion P (flat_map (λ ts. ts) (map (flat_map (λ t. cond (is_among inputs t) new (t ∷ []))) levels))
  all_in_place [] all = tt
  all_in_place (ts ∷ deeper) all =
      let both = all_parts (λ (t : Table). is_among inputs t ≡ false → P t) ts (flat_map (λ xs. xs) deeper) all in
      all_both P (flat_map (λ t. cond (is_among inputs t) new (t ∷ [])) ts)
      (flat_map (λ xs. xs) (map (flat_map (λ t. cond (is_among inputs t) new (t ∷ []))) deeper))
      (all_swapped ts both.0) (all_in_place deeper both.1)

  -- what is so of the new tables and of all that isn't an input is so of what stands afterwards
  pub all_replaced : (target : Target) (levels : List (List Table))
      → AllByRecursion (λ (t : Table). is_among inputs t ≡ false → P t) (flat_map (λ ts. ts) levels)
      → AllByRecursion P (flat_map (λ ts. ts) (replaced target inputs new levels))
  all_replaced (Level n) levels all = all_at_level n (map (without inputs) levels) (all_levels_without levels all)
  all_replaced InPlace levels all = all_in_place levels all

-- where a test is passed, it is passed by some of all
pub seen : {X : Type 0} (p : X → Bool) (xs : List X) → AllByRecursion (λ (x : X). p x ≡ true → list_any p xs ≡ true) xs
seen p [] = tt
seen p (x ∷ xs) = (
  (λ is. or_left (p x) (list_any p xs) is),
  all_weaker (λ y. p y ≡ true → list_any p xs ≡ true)
      (λ y. p y ≡ true → list_any p (x ∷ xs) ≡ true) (λ y is at. or_right (p x) (list_any p xs) (is at)) xs (seen p xs),
)

pub each_of : (Q : Entry → Type 0) (ess : List (List Entry)) → AllByRecursion Q (joined ess)
    → AllByRecursion (AllByRecursion Q) ess
each_of Q [] all = tt
each_of Q (es ∷ ess) all = let both = all_parts Q es (joined ess) all in (both.0, each_of Q ess both.1)

-- ---- a sweep

pub stocked_swept : (l : Layout) (gone : List FileName) → IsStocked l → IsStocked (without_files gone l)
stocked_swept l gone k = record {
  unneeded =
      all_filtered (IsUnneeded (needed l)) (λ (r : Retired). not (list_any (is_same r.file) gone)) l.retired k.unneeded;
  retired_drawn =
      all_filtered (λ (r : Retired). IsDrawn l.next_log l.next_table r.file)
      (λ (r : Retired). not (list_any (is_same r.file) gone)) l.retired k.retired_drawn;
  pinned =
      all_weaker (IsPinned l.epoch l.retired)
      (IsPinned l.epoch (filter (λ (r : Retired). not (list_any (is_same r.file) gone)) l.retired))
      (λ p is. record {
        old = is.old;
        off = all_filtered (IsOff p)
            (λ (r : Retired). not (list_any (is_same r.file) gone)) l.retired is.off;
      }) (pins l) k.pinned;
  tables_drawn = k.tables_drawn;
  logs_drawn = k.logs_drawn;
  flushed_drawn = k.flushed_drawn;
  falling = k.falling;
  footed = k.footed;
}
