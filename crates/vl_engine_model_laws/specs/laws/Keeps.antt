-- A job is kept by whatever only adds sources in front: a commit, a rotation, a flush, a relocation.
use Rattle.std.proofs.Common.{◌≡◌, ◌⊎◌, inl, inr, ⊎_elim, ℕ, ◌+◌, ◌≤◌, ◌<◌, Bool, true, false, cond, ◌||◌, List, []}
use Rattle.std.proofs.Common.{◌∷◌, ◌++◌, map, refl, ap, sym, ◌∙◌, subst, arith, append_assoc}
use Rattle.std.proofs.lemmas.Bool.Decides.{nat_tests}
use Rattle.std.specs.Prelude.{Some, ◌==◌, is_some}
use Rattle.std.specs.List.{AllZip, AllByRecursion, flat_map, list_any}
use Rattle.std.specs.FinMap.{find}
use Rattle.std.specs.Ordering.{eq_by_cmp, is_eq}
use Rattle.vl_model.specs.Conflicts.{Named}
use Rattle.vl_model.specs.Frames.{record_length, moved_length}
use Rattle.vl_model.specs.History.{History, last_number}
use Rattle.vl_model.specs.Keys.{key_cmp}
use Rattle.vl_model.specs.Entries.{is_at, in_order}
use Rattle.vl_model.specs.Placement.{placed}
use Rattle.vl_model.specs.laws.WinnerLaws.{key_tied}
use Rattle.vl_model.specs.declared.change.Change.{Change}
use Rattle.vl_model.specs.declared.entry.Entry.{Entry}
use Rattle.vl_model.specs.declared.log_frame.LogFrame.{LogFrame}
use Rattle.vl_model.specs.declared.log_frame.LogFrame.TheVariants.{Relocated}
use Rattle.vl_model.specs.declared.log_frame.Moved.{Moved}
use Rattle.vl_engine_model.specs.laws.LayoutShows.{place_behind, logged_entries-more, added}
use Rattle.vl_engine_model.specs.Levels.{is_among, in_front}
use Rattle.vl_engine_model.specs.Logs.{record_entry, committed_records, relocated_records, logged_entries, memtable}
use Rattle.vl_engine_model.specs.Merging.{Sourced, outside_of}
use Rattle.vl_engine_model.specs.laws.OrderShows.{all-taken_in}
use Rattle.vl_engine_model.specs.Ruling.{logged, ended}
use Rattle.vl_engine_model.specs.Rulings.Commit.{commit_frame}
use Rattle.vl_engine_model.specs.Rulings.Flush.{flushed, flushed_table}
use Rattle.vl_engine_model.specs.Rulings.Plan.{marked_as, sourced}
use Rattle.vl_engine_model.specs.Rulings.Relocate.{moves_at, relocated}
use Rattle.vl_engine_model.specs.Rulings.Rotate.{rotated}
use Rattle.vl_engine_model.specs.laws.ShowsLaws.{all_parts, all_both}
use Rattle.vl_engine_model.specs.Sources.{tables, oldest, but_oldest}
use Rattle.vl_engine_model.specs.declared.job.Job.{Job}
use Rattle.vl_engine_model.specs.declared.layout.Layout.{Layout}
use Rattle.vl_engine_model.specs.declared.segment.Segment.{Segment}
use Rattle.vl_engine_model.specs.declared.table.Table.{Table}
use Rattle.vl_engine_model_laws.specs.laws.Lists.{or_cases, or_left, or_right, any-append, any-in_order}
use Rattle.vl_engine_model.specs.OpenJobs.{Preceded, preceded_if, preceded, Covers, IsStillBehind, IsAccounted, IsKeptFor}

-- ---- sources in front of the tables

abbrev pub behind : List Entry → List Entry → List Entry
behind newer [] = newer
behind newer (e ∷ es) = behind (e ∷ newer) es

preceded-front : (newer es : List Entry) (ss : List Sourced)
    → preceded newer (marked_as false es ++ ss) ≡ preceded (behind newer es) ss
preceded-front newer [] ss = refl
preceded-front newer (e ∷ es) ss = preceded-front (e ∷ newer) es ss

outside-front : (es : List Entry) (ss : List Sourced)
    → outside_of (marked_as false es ++ ss) ≡ es ++ outside_of ss
outside-front [] ss = refl
outside-front (e ∷ es) ss = ap (λ (xs : List Entry). e ∷ xs) (outside-front es ss)

or_around : (a b c : Bool) → (b || (a || c)) ≡ ((a || b) || c)
or_around true true c = refl
or_around true false c = refl
or_around false true c = refl
or_around false false c = refl

any-behind : (p : Entry → Bool) (newer es : List Entry)
    → list_any p (behind newer es) ≡ (list_any p es || list_any p newer)
any-behind p newer [] = refl
any-behind p newer (e ∷ es) = any-behind p (e ∷ newer) es ∙ or_around (p e) (list_any p es) (list_any p newer)

or_none : (a : Bool) → (a || false) ≡ a
or_none true = refl
or_none false = refl

covers-behind : (es fs : List Entry) → Covers es fs → Covers (behind [] es) (behind [] fs)
covers-behind es fs covers key version there =
    any-behind (is_at key version) [] fs ∙ or_left (list_any (is_at key version) fs) false
    (covers key version (sym (or_none (list_any (is_at key version) es)) ∙ sym (any-behind (is_at key version) [] es) ∙ there))

covers-more : (e : Entry) (es fs : List Entry) → Covers es fs → Covers (e ∷ es) (e ∷ fs)
covers-more e es fs covers key version there = ⊎_elim
    (λ (here : is_at key version e ≡ true). or_left (is_at key version e) (list_any (is_at key version) fs) here)
    (λ (later : list_any (is_at key version) es ≡ true). or_right (is_at key version e)
    (list_any (is_at key version) fs) (covers key version later))
    (or_cases (is_at key version e) (list_any (is_at key version) es) there)

still_more : (newer newer' : List Entry) → Covers newer newer' → (ss : List Sourced)
    → AllZip IsStillBehind (preceded newer ss) (preceded newer' ss)
still_more newer newer' covers [] = tt
still_more newer newer' covers (s ∷ ss) =
    by_test s.0 (still_more (s.1 ∷ newer) (s.1 ∷ newer') (covers-more s.1 newer newer' covers) ss)
  where
    by_test : (b : Bool)
        → AllZip IsStillBehind (preceded (s.1 ∷ newer) ss) (preceded (s.1 ∷ newer') ss)
        → AllZip IsStillBehind (preceded_if b s.1 newer (preceded (s.1 ∷ newer) ss)) (preceded_if b s.1 newer' (preceded (s.1 ∷ newer') ss))
    by_test true later = (record { same = refl; covers = covers }, later)
    by_test false later = later

still_then : (ps qs rs : List Preceded) → AllZip IsStillBehind ps qs → AllZip IsStillBehind qs rs
    → AllZip IsStillBehind ps rs
still_then [] [] [] a b = tt
still_then [] [] (r ∷ rs) a b = absurd b
still_then [] (q ∷ qs) rs a b = absurd a
still_then (p ∷ ps) [] rs a b = absurd a
still_then (p ∷ ps) (q ∷ qs) [] a b = absurd b
still_then (p ∷ ps) (q ∷ qs) (r ∷ rs) a b = (
  record { same = b.0.same ∙ a.0.same; covers = λ key version there. b.0.covers key version (a.0.covers key version there) },
  still_then ps qs rs a.1 b.1,
)

pub all_weaker : (P Q : Entry → Type 0) → ((e : Entry) → P e → Q e) → (es : List Entry)
    → AllByRecursion P es → AllByRecursion Q es
all_weaker P Q weaker [] all = tt
all_weaker P Q weaker (e ∷ es) all = (weaker e all.0, all_weaker P Q weaker es all.1)

module _ (job : Job) (moved moved' : List Named) (es fs : List Entry) (ts : List Sourced) where
  Then : Entry → Type 0
  Then = IsAccounted (outside_of job.base) job.floor moved

  -- other entries in front of the tables, of which each key and version that stood there does
  kept_again : IsKeptFor job moved (marked_as false es ++ ts) → Covers es fs
      → ((e : Entry) → IsAccounted (outside_of job.base) job.floor moved e → IsAccounted (outside_of job.base) job.floor moved' e)
      → (AllByRecursion (IsAccounted (outside_of job.base) job.floor moved) es
      → AllByRecursion (IsAccounted (outside_of job.base) job.floor moved') fs)
      → IsKeptFor job moved' (marked_as false fs ++ ts)
  kept_again k covers weaker front =
      let before : AllByRecursion (IsAccounted (outside_of job.base) job.floor moved) (es ++ outside_of ts) =
      subst (AllByRecursion (IsAccounted (outside_of job.base) job.floor moved)) (outside-front es ts) k.outside in
      let parts = all_parts (IsAccounted (outside_of job.base) job.floor moved) es (outside_of ts) before in
      record {
        inputs = subst (AllZip IsStillBehind (preceded [] job.base)) (sym (preceded-front [] fs ts))
            (still_then (preceded [] job.base) (preceded (behind [] es) ts) (preceded (behind [] fs) ts)
            (subst (AllZip IsStillBehind (preceded [] job.base)) (preceded-front [] es ts) k.inputs)
            (still_more (behind [] es) (behind [] fs) (covers-behind es fs covers) ts));
        outside =
            subst (AllByRecursion (IsAccounted (outside_of job.base) job.floor moved')) (sym (outside-front fs ts))
            (all_both (IsAccounted (outside_of job.base) job.floor moved') fs (outside_of ts) (front parts.0)
            (all_weaker (IsAccounted (outside_of job.base) job.floor moved)
            (IsAccounted (outside_of job.base) job.floor moved') weaker (outside_of ts) parts.1));
      }

-- ---- a frame more

-- the sources of the tables, each entry with whether an input has it
abbrev pub marked_tables : List ℕ → List Table → List Sourced
marked_tables inputs ts = flat_map (λ (t : Table). marked_as (is_among inputs t) t.entries) ts

-- the entries of all memtables, the newest first
abbrev pub in_memory : Layout → List Entry
in_memory l = flat_map memtable (l.active ∷ l.frozen)

pub covers_both : (es fs back : List Entry) → Covers es fs → Covers (es ++ back) (fs ++ back)
covers_both es fs back covers key version there =
    any-append (is_at key version) fs back ∙
    by_parts (or_cases (list_any (is_at key version) es) (list_any (is_at key version) back)
    (sym (any-append (is_at key version) es back) ∙ there))
  where
    by_parts : (list_any (is_at key version) es ≡ true) ⊎ (list_any (is_at key version) back ≡ true)
        → (list_any (is_at key version) fs || list_any (is_at key version) back) ≡ true
    by_parts (inl here) =
        or_left (list_any (is_at key version) fs) (list_any (is_at key version) back) (covers key version here)
    by_parts (inr later) = or_right (list_any (is_at key version) fs) (list_any (is_at key version) back) later

covers_in_order : (new old : List Entry) → Covers (in_order old) (in_order (new ++ old))
covers_in_order new old key version there =
    any-in_order key version (new ++ old) ∙ any-append (is_at key version) new old
    ∙ or_right (list_any (is_at key version) new) (list_any (is_at key version) old) (sym (any-in_order key version old) ∙ there)

module _ (l : Layout) (f : LogFrame) (job : Job) (moved moved' : List Named)
    (weaker : (e : Entry) → IsAccounted (outside_of job.base) job.floor moved e → IsAccounted (outside_of job.base) job.floor moved' e)
    (new : AllByRecursion (IsAccounted (outside_of job.base) job.floor moved') (added l f)) where
  old_entries : List Entry
  old_entries = logged_entries l.active.format l.active.number 16 l.active.frames

  memtable_logged : memtable (logged f l).active ≡ in_order (added l f ++ logged_entries l.active.format l.active.number 16 l.active.frames)
  memtable_logged = ap in_order (logged_entries-more l.active.format l.active.number 16 l.active.frames f)

  -- a frame more in the active log, of entries that are accounted for
  pub kept_logged : IsKeptFor job moved (sourced l job.inputs)
      → IsKeptFor job moved' (sourced (logged f l) job.inputs)
  kept_logged k =
      let back = flat_map memtable l.frozen in
      let old = logged_entries l.active.format l.active.number 16 l.active.frames in
      subst (λ (m : List Entry). IsKeptFor job moved'
      (marked_as false (m ++ back) ++ marked_tables job.inputs (tables l))) (sym memtable_logged)
      (kept_again job moved moved' (in_order old ++ back) (in_order (added l f ++ old) ++ back) (marked_tables job.inputs (tables l)) k
      (covers_both (in_order old) (in_order (added l f ++ old)) back (covers_in_order (added l f) old))
      weaker
      (λ all.
      let parts = all_parts (IsAccounted (outside_of job.base) job.floor moved) (in_order old) back all in
      all_both (IsAccounted (outside_of job.base) job.floor moved') (in_order (added l f ++ old)) back
      (all-taken_in (IsAccounted (outside_of job.base) job.floor moved') (added l f) old
      (all_both (IsAccounted (outside_of job.base) job.floor moved') (added l f) (in_order old) new
      (all_weaker (IsAccounted (outside_of job.base) job.floor moved)
      (IsAccounted (outside_of job.base) job.floor moved') weaker (in_order old) parts.0)))
      (all_weaker (IsAccounted (outside_of job.base) job.floor moved)
      (IsAccounted (outside_of job.base) job.floor moved') weaker back parts.1)))

-- ---- a commit

committed_accounted : (outside : List Entry) (floor : ℕ) (moved : List Named) (format segment place number : ℕ)
    (writes : List (List ℕ × Change))
    → floor < number
    → AllByRecursion (IsAccounted outside floor moved) (map (record_entry format segment) (committed_records format place number writes))
committed_accounted outside floor moved format segment place number [] above = tt
committed_accounted outside floor moved format segment place number (w ∷ ws) above =
    (inr (inl above), committed_accounted outside floor moved format segment (place + record_length format w.0 w.1) number ws above)

pub kept_committed : (l : Layout) (h : History) (ticket : ℕ) (writes : List (List ℕ × Change)) (job : Job) (moved : List Named)
    → job.floor ≤ last_number h → IsKeptFor job moved (sourced l job.inputs)
    → IsKeptFor job moved (sourced (logged (commit_frame h writes) (ended ticket l)) job.inputs)
kept_committed l h ticket writes job moved low k =
    kept_logged (ended ticket l) (commit_frame h writes) job moved moved (λ e a. a)
    (committed_accounted (outside_of job.base) job.floor moved l.active.format l.active.number
    (place_behind l.active.format 16 l.active.frames + 17) (last_number h + 1) writes (omega (arith, low)))
    k

-- ---- a relocation

find-front : (key : List ℕ) (xs ys : List Named) → is_some (find key_cmp key ys) ≡ true
    → is_some (find key_cmp key (xs ++ ys)) ≡ true
find-front key [] ys there = there
find-front key (x ∷ xs) ys there =
    elim (eq_by_cmp key_cmp key x.0) as (λ b. is_some (cond b (Some x.1) (find key_cmp key (xs ++ ys))) ≡ true) [
      | true ↦ refl
      | false ↦ find-front key xs ys there
    ]

find-first : (key : List ℕ) (number : ℕ) (xs : List Named)
    → is_some (find key_cmp key ((key, number) ∷ xs)) ≡ true
find-first key number xs = ap (λ b. is_some (cond b (Some number) (find key_cmp key xs))) (ap is_eq (key_tied key))

accounted-more : (outside : List Entry) (floor : ℕ) (xs ys : List Named) (e : Entry)
    → IsAccounted outside floor ys e → IsAccounted outside floor (xs ++ ys) e
accounted-more outside floor xs ys e (inl there) = inl there
accounted-more outside floor xs ys e (inr (inl above)) = inr (inl above)
accounted-more outside floor xs ys e (inr (inr was)) = inr (inr (find-front e.key xs ys was))

module _ (outside : List Entry) (floor : ℕ) (format segment number : ℕ) (moved : List Named) where
  one_more_noted : (x : List ℕ × ℕ) (xs : List Named) (e : Entry)
      → IsAccounted outside floor (xs ++ moved) e → IsAccounted outside floor (x ∷ xs ++ moved) e
  one_more_noted x xs e a = accounted-more outside floor (x ∷ []) (xs ++ moved) e a

  moved_accounted : (place : ℕ) (ms : List Moved)
      → AllByRecursion (IsAccounted outside floor (moves_at number ms ++ moved))
      (map (record_entry format segment) (relocated_records format place ms))
  moved_accounted place [] = tt
  moved_accounted place (m ∷ ms) = (
    inr (inr (find-first m.key number (moves_at number ms ++ moved))),
    all_weaker (IsAccounted outside floor (moves_at number ms ++ moved)) (IsAccounted outside floor (moves_at number (m ∷ ms) ++ moved))
        (λ e a. one_more_noted (m.key, number) (moves_at number ms) e a)
        (map (record_entry format segment) (relocated_records format (place + moved_length format m) ms))
        (moved_accounted (place + moved_length format m) ms),
  )

pub kept_relocated : (l : Layout) (records : List Moved) (job : Job) (moved : List Named)
    → IsKeptFor job moved (sourced l job.inputs)
    → IsKeptFor job (moves_at (l.epoch + 1) records ++ moved) (sourced (relocated l records) job.inputs)
kept_relocated l records job moved k =
    kept_logged l (Relocated records) job moved (moves_at (l.epoch + 1) records ++ moved)
    (λ e a. accounted-more (outside_of job.base) job.floor (moves_at (l.epoch + 1) records) moved e a)
    (moved_accounted (outside_of job.base) job.floor l.active.format l.active.number (l.epoch + 1) moved
    (place_behind l.active.format 16 l.active.frames + 9) records)
    k

-- ---- a rotation

pub kept_rotated : (l : Layout) (job : Job) (moved : List Named)
    → IsKeptFor job moved (sourced l job.inputs)
    → IsKeptFor job moved (sourced (rotated l) job.inputs)
kept_rotated l job moved k = k

-- ---- a flush

pub frozen_parts : (ss : List Segment) (s : Segment) → oldest ss ≡ Some s
    → flat_map memtable ss ≡ flat_map memtable (but_oldest ss) ++ memtable s
frozen_parts [] s is = absurd cc
frozen_parts (t ∷ []) s is = nothing_behind (memtable t) ∙ ap memtable (the_one t s is)
  where
    nothing_behind : (es : List Entry) → es ++ [] ≡ es
    nothing_behind [] = refl
    nothing_behind (e ∷ es) = ap (λ xs. e ∷ xs) (nothing_behind es)

    the_one : (a b : Segment) → Some a ≡ Some b → a ≡ b
    the_one a b e = cc
frozen_parts (t ∷ u ∷ us) s is =
    ap (λ es. memtable t ++ es) (frozen_parts (u ∷ us) s is)
    ∙ sym (append_assoc (memtable t) (flat_map memtable (but_oldest (u ∷ us))) (memtable s))

covers_back : (front es fs : List Entry) → Covers es fs → Covers (front ++ es) (front ++ fs)
covers_back [] es fs covers = covers
covers_back (e ∷ front) es fs covers = covers-more e (front ++ es) (front ++ fs) (covers_back front es fs covers)

covers_placed : (es : List Entry) → Covers es (map placed es)
covers_placed [] key version there = there
covers_placed (e ∷ es) key version there = ⊎_elim
    (λ (here : is_at key version e ≡ true). or_left (is_at key version (placed e)) (list_any (is_at key version) (map placed es)) here)
    (λ (later : list_any (is_at key version) es ≡ true). or_right (is_at key version (placed e))
    (list_any (is_at key version) (map placed es)) (covers_placed es key version later))
    (or_cases (is_at key version e) (list_any (is_at key version) es) there)

all_placed : (outside : List Entry) (floor : ℕ) (moved : List Named) (es : List Entry)
    → AllByRecursion (IsAccounted outside floor moved) es → AllByRecursion (IsAccounted outside floor moved) (map placed es)
all_placed outside floor moved [] all = tt
all_placed outside floor moved (e ∷ es) all = (all.0, all_placed outside floor moved es all.1)

-- a number that was given before is none that is still to be given
not_one : (next : ℕ) (numbers : List ℕ) (t : Table) → t.number ≡ next → AllByRecursion (λ n. n < next) numbers
    → is_among numbers t ≡ false
not_one next [] t is below = refl
not_one next (n ∷ ns) t is below =
    let here : (n == t.number) ≡ false = let less = below.0 in grind (arith, nat_tests, is) in
    ap (λ b. b || is_among ns t) here ∙ not_one next ns t is below.1

marked-append : (xs ys : List Entry) → marked_as false (xs ++ ys) ≡ marked_as false xs ++ marked_as false ys
marked-append [] ys = refl
marked-append (x ∷ xs) ys = ap (λ (ss : List Sourced). (false, x) ∷ ss) (marked-append xs ys)

sourced_append : (xs ys zs : List Sourced) → (xs ++ ys) ++ zs ≡ xs ++ (ys ++ zs)
sourced_append xs ys zs = append_assoc xs ys zs

pub kept_flushed : (l : Layout) (s : Segment) (job : Job) (moved : List Named) (level : List Table) (deeper : List (List Table))
    → oldest l.frozen ≡ Some s → l.levels ≡ level ∷ deeper
    → AllByRecursion (λ n. n < l.next_table) job.inputs
    → IsKeptFor job moved (sourced l job.inputs)
    → IsKeptFor job moved (sourced (flushed l s) job.inputs)
kept_flushed l s job moved level deeper waits are given k =
    let inputs = job.inputs in
    let active = memtable l.active in
    let front = flat_map memtable (but_oldest l.frozen) in
    let T : List Sourced = marked_tables inputs (flat_map (λ ts. ts) (level ∷ deeper)) in
    let new = flushed_table l s in
    let before : IsKeptFor job moved (marked_as false (active ++ (front ++ memtable s)) ++ T) =
    subst (λ (es : List Entry). IsKeptFor job moved (marked_as false (active ++ es) ++ T)) (frozen_parts l.frozen s waits)
    (subst (λ (levels : List (List Table)). IsKeptFor job moved
    (marked_as false (in_memory l) ++ marked_tables inputs (flat_map (λ ts. ts) levels))) are k) in
    let after : IsKeptFor job moved (marked_as false (active ++ (front ++ map placed (memtable s))) ++ T) =
    kept_again job moved moved (active ++ (front ++ memtable s)) (active ++ (front ++ map placed (memtable s))) T before
    (covers_back active (front ++ memtable s) (front ++ map placed (memtable s))
    (covers_back front (memtable s) (map placed (memtable s)) (covers_placed (memtable s))))
    (λ e a. a)
    (λ all.
    let P = IsAccounted (outside_of job.base) job.floor moved in
    let one = all_parts P active (front ++ memtable s) all in
    let two = all_parts P front (memtable s) one.1 in
    all_both P active (front ++ map placed (memtable s)) one.0
    (all_both P front (map placed (memtable s)) two.0 (all_placed (outside_of job.base) job.floor moved (memtable s) two.1))) in
    let parts : marked_as false (active ++ (front ++ map placed (memtable s))) ++ T ≡ marked_as false (active ++ front)
    ++ (marked_as false (map placed (memtable s)) ++ T) =
    ap (λ (es : List Entry). marked_as false es ++ T) (sym (append_assoc active front (map placed (memtable s))))
    ∙ ap (λ (ss : List Sourced). ss ++ T) (marked-append (active ++ front) (map placed (memtable s)))
    ∙ sourced_append (marked_as false (active ++ front)) (marked_as false (map placed (memtable s))) T in
    let there : IsKeptFor job moved
    (marked_as false (active ++ front) ++ (marked_as (is_among inputs new) (map placed (memtable s)) ++ T)) =
    subst (λ (b : Bool). IsKeptFor job moved
    (marked_as false (active ++ front) ++ (marked_as b (map placed (memtable s)) ++ T)))
    (sym (not_one l.next_table inputs new refl given))
    (subst (IsKeptFor job moved) parts after) in
    subst (λ (levels : List (List Table)). IsKeptFor job moved
    (marked_as false (active ++ front) ++ marked_tables inputs (flat_map (λ ts. ts) (in_front new levels)))) (sym are) there
