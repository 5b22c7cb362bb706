-- Records of a log that win exactly only get fewer, but for merges; and a relocation leaves none of its batch.
use Rattle.std.proofs.Common.{◌≡◌, ◌≢◌, ◌⊎◌, inl, inr, ℕ, ◌+◌, ◌≤◌, Bool, true, false, cond, ◌&&◌, ◌||◌, List, []}
use Rattle.std.proofs.Common.{◌∷◌, ◌++◌, map, refl, ap, sym, ◌∙◌, subst, arith, append_assoc}
use Rattle.std.proofs.lemmas.Bool.{and_from}
use Rattle.std.proofs.lemmas.Bool.Decides.{nat_tests}
use Rattle.std.specs.Prelude.{Option, Some, None, nat_le, ◌==◌, if◌then◌else◌}
use Rattle.std.specs.Option.{option_map}
use Rattle.std.specs.List.{AllByRecursion, flat_map, list_any, filter}
use Rattle.std.specs.Ordering.{eq_by_cmp}
use Rattle.vl_model.specs.Entries.{is_at, in_order}
use Rattle.vl_model.specs.Frames.{frame_length, moved_length}
use Rattle.vl_model.specs.Keys.{key_cmp, Stored, value_length}
use Rattle.vl_model.specs.Limits.{max_inline_bytes}
use Rattle.vl_model.specs.Placement.{placed, placement}
use Rattle.vl_model.specs.Winners.{exact, is_far_to, leads_to, wins_exactly}
use Rattle.vl_model.specs.declared.change.Change.{Change}
use Rattle.vl_model.specs.declared.change.Change.TheVariants.{Set, Delete}
use Rattle.vl_model.specs.declared.entry.Entry.{Entry}
use Rattle.vl_model.specs.declared.entry.Body.{Body}
use Rattle.vl_model.specs.declared.entry.Body.TheVariants.{Inline, Gone, Far, Logged}
use Rattle.vl_model.specs.declared.log_frame.LogFrame.{LogFrame}
use Rattle.vl_model.specs.declared.log_frame.LogFrame.TheVariants.{Relocated}
use Rattle.vl_model.specs.declared.log_frame.Moved.{Moved}
use Rattle.vl_model.specs.declared.pointer.Pointer.{Pointer}
use Rattle.vl_model.specs.laws.Exact.{exact-append, exact-in_order}
use Rattle.vl_model.specs.Lookups.{or_else}
use Rattle.vl_engine_model.specs.laws.LayoutShows.{place_behind, logged_entries-more, added}
use Rattle.vl_engine_model.specs.Levels.{in_front}
use Rattle.vl_engine_model.specs.Logs.{LogRecord, record_entry, logged_body, pointer_to, relocated_records, frame_records}
use Rattle.vl_engine_model.specs.Logs.{frame_entries, logged_entries, memtable}
use Rattle.vl_engine_model.specs.laws.OrderShows.{all-in_order}
use Rattle.vl_engine_model.specs.Relocation.{Candidate, valued, found_in, has_room, batch_with, taken_from, value_lengths, is_moved, moved_of}
use Rattle.vl_engine_model.specs.Ruling.{logged}
use Rattle.vl_engine_model.specs.Rulings.Flush.{flushed, flushed_table}
use Rattle.vl_engine_model.specs.Rulings.Relocate.{relocated}
use Rattle.vl_engine_model.specs.Rulings.Rotate.{rotated}
use Rattle.vl_engine_model.specs.Sources.{sources, behind_active, tables, table_entries, oldest, but_oldest}
use Rattle.vl_engine_model.specs.declared.layout.Layout.{Layout}
use Rattle.vl_engine_model.specs.declared.segment.Segment.{Segment}
use Rattle.vl_engine_model.specs.declared.table.Table.{Table}
use Rattle.vl_engine_model_laws.specs.Passes.{Shrinks, IsOutside, IsSettled, found_all}

true_false : true ≡ false → ⊥
true_false is = cc

or_cases : (a b : Bool) → (a || b) ≡ true → (a ≡ true) ⊎ (b ≡ true)
or_cases true b h = inl refl
or_cases false b h = inr h

is_not : (b : Bool) → (b ≡ true → ⊥) → b ≡ false
is_not true never = absurd (never refl)
is_not false never = refl

pub shrinks_then : (segment : ℕ) (a b c : List Entry) → Shrinks segment a b → Shrinks segment b c → Shrinks segment a c
shrinks_then segment a b c first second key version place wins =
    first key version place (second key version place wins)

module _ (key : List ℕ) (version : ℕ) where
  -- the entry that is found is one of all
  found_one : (P : Entry → Type 0) (es : List Entry) → AllByRecursion P es → (o : Option Entry)
      → exact es key version ≡ o
      → (e : Entry) → o ≡ Some e → P e
  found_one P [] all o is e some = absurd (let none : None ≡ Some e = is ∙ some in cc)
  found_one P (x ∷ xs) all o is e some =
      by_test (is_at key version x) refl (λ later. found_one P xs all.1 (exact xs key version) refl e later)
    where
      by_test : (b : Bool) → is_at key version x ≡ b → (exact xs key version ≡ Some e → P e) → P e
      by_test true at later =
          let same : Some x ≡ Some e = sym (ap (λ b. cond b (Some x) (exact xs key version)) at) ∙ is ∙ some in
          subst P (the_one x e same) all.0
        where
          the_one : (a b : Entry) → Some a ≡ Some b → a ≡ b
          the_one a b e = cc
      by_test false at later = later (sym (ap (λ b. cond b (Some x) (exact xs key version)) at) ∙ is ∙ some)

  -- where one is of the key and version, one is found
  is_found : (es : List Entry) → list_any (is_at key version) es ≡ true → (e : Entry) × (exact es key version ≡ Some e)
  is_found [] there = absurd (true_false (sym there))
  is_found (x ∷ xs) there = by_test (is_at key version x) refl (λ later. is_found xs later)
    where
      by_test : (b : Bool) → is_at key version x ≡ b
          → (list_any (is_at key version) xs ≡ true → (e : Entry) × (exact xs key version ≡ Some e))
          → (e : Entry) × (cond (is_at key version x) (Some x) (exact xs key version) ≡ Some e)
      by_test true at later = (x, ap (λ b. cond b (Some x) (exact xs key version)) at)
      by_test false at later =
          let rest = later (sym (ap (λ b. b || list_any (is_at key version) xs) at) ∙ there) in
          (rest.0, ap (λ b. cond b (Some x) (exact xs key version)) at ∙ rest.1)

-- ---- a frame more

outside_record : (segment : ℕ) (c : Change) (p : Pointer) (place : ℕ)
    → is_far_to segment place (logged_body c p) ≡ false
outside_record segment (Set value) p place = refl
outside_record segment Delete p place = refl

outside_records : (format segment number : ℕ) (rs : List LogRecord)
    → AllByRecursion (IsOutside segment) (map (record_entry format number) rs)
outside_records format segment number [] = tt
outside_records format segment number (r ∷ rs) =
    (outside_record segment r.change (pointer_to format number r), outside_records format segment number rs)

-- what is found behind a frame more is found in it, or was found before
pub exact_logged : (key : List ℕ) (version : ℕ) (l : Layout) (f : LogFrame)
    → exact (sources (logged f l)) key version ≡ or_else (exact (added l f) key version) (exact (sources l) key version)
exact_logged key version l f =
    let old = logged_entries l.active.format l.active.number 16 l.active.frames in
    let B = exact (behind_active l) key version in
    exact-append key version (memtable (logged f l).active) (behind_active l)
    ∙ ap (λ (es : List Entry). or_else (exact (in_order es) key version) B)
    (logged_entries-more l.active.format l.active.number 16 l.active.frames f)
    ∙ ap (λ (o : Option Entry). or_else o B)
    (exact-in_order key version (added l f ++ old) ∙ exact-append key version (added l f) old
    ∙ ap (or_else (exact (added l f) key version)) (sym (exact-in_order key version old)))
    ∙ assoc (exact (added l f) key version) (exact (in_order old) key version) B
    ∙ ap (or_else (exact (added l f) key version)) (sym (exact-append key version (memtable l.active) (behind_active l)))
  where
    assoc : (a b c : Option Entry) → or_else (or_else a b) c ≡ or_else a (or_else b c)
    assoc None b c = refl
    assoc (Some e) b c = refl

pub shrinks_logged : (segment : ℕ) (l : Layout) (f : LogFrame) → Shrinks segment (sources l) (sources (logged f l))
shrinks_logged segment l f key version place wins =
    by_found (exact (added l f) key version) refl (sym (ap (leads_to segment place) (exact_logged key version l f)) ∙ wins)
  where
    by_found : (o : Option Entry) → exact (added l f) key version ≡ o
        → leads_to segment place (or_else (exact (added l f) key version) (exact (sources l) key version)) ≡ true
        → wins_exactly (sources l) segment key version place ≡ true
    by_found None is wins =
        sym (ap (λ o. leads_to segment place (or_else o (exact (sources l) key version))) is) ∙ wins
    by_found (Some e) is wins =
        let out = found_one key version (IsOutside segment) (added l f)
        (outside_records l.active.format segment l.active.number
        (frame_records l.active.format (place_behind l.active.format 16 l.active.frames) f)) (Some e) is e refl in
        absurd (true_false (sym wins ∙ ap (λ o. leads_to segment place (or_else o (exact (sources l) key version))) is ∙ out place))

pub shrinks_rotated : (segment : ℕ) (l : Layout) → Shrinks segment (sources l) (sources (rotated l))
shrinks_rotated segment l key version place wins =
    sym (ap (λ (es : List Entry). wins_exactly es segment key version place) (Rattle.vl_engine_model.specs.laws.LayoutShows.sources-rotated l))
    ∙ wins

-- ---- a relocation

module _ (segment last : ℕ) (es : List Entry) where
  -- the record is of the key and version
  is_record : List ℕ → ℕ → Moved → Bool
  is_record key version m = eq_by_cmp key_cmp key m.key && (m.version == version)

  any_moved : (key : List ℕ) (version : ℕ) (batch : List Candidate)
      → AllByRecursion (λ (c : Candidate). is_moved es segment last c ≡ true
      → (eq_by_cmp key_cmp key c.moved.key && (c.moved.version == version)) ≡ true
      → list_any (λ (m : Moved). eq_by_cmp key_cmp key m.key && (m.version == version)) (moved_of es segment last batch) ≡ true) batch
  any_moved key version [] = tt
  any_moved key version (c ∷ cs) = (first, later cs (any_moved key version cs))
    where
      q : Moved → Bool
      q m = eq_by_cmp key_cmp key m.key && (m.version == version)

      first : is_moved es segment last c ≡ true
          → (eq_by_cmp key_cmp key c.moved.key && (c.moved.version == version)) ≡ true
          → list_any (λ (m : Moved). eq_by_cmp key_cmp key m.key && (m.version == version)) (moved_of es segment last (c ∷ cs))
          ≡ true
      first moves at =
          ap (λ b. list_any (λ (m : Moved). eq_by_cmp key_cmp key m.key && (m.version == version))
          (map (λ (x : Candidate). x.moved)
          (cond b (c ∷ filter (is_moved es segment last) cs) (filter (is_moved es segment last) cs)))) moves
          ∙ ap (λ b. b || list_any (λ (m : Moved). eq_by_cmp key_cmp key m.key && (m.version == version)) (moved_of es segment last cs)) at

      more : list_any (λ (m : Moved). eq_by_cmp key_cmp key m.key && (m.version == version)) (moved_of es segment last cs) ≡ true
          → list_any (λ (m : Moved). eq_by_cmp key_cmp key m.key && (m.version == version)) (moved_of es segment last (c ∷ cs))
          ≡ true
      more there = elim (is_moved es segment last c) as
          (λ b. list_any (λ (m : Moved). eq_by_cmp key_cmp key m.key && (m.version == version))
          (map (λ (x : Candidate). x.moved)
          (cond b (c ∷ filter (is_moved es segment last) cs) (filter (is_moved es segment last) cs))) ≡ true) [
            | true ↦ or_right (eq_by_cmp key_cmp key c.moved.key && (c.moved.version == version))
                (list_any (λ (m : Moved). eq_by_cmp key_cmp key m.key && (m.version == version)) (moved_of es segment last cs)) there
            | false ↦ there
          ]
        where
          or_right : (a b : Bool) → b ≡ true → (a || b) ≡ true
          or_right true b h = refl
          or_right false b h = h

      later : (xs : List Candidate)
          → AllByRecursion (λ (x : Candidate). is_moved es segment last x ≡ true
          → (eq_by_cmp key_cmp key x.moved.key && (x.moved.version == version)) ≡ true
          → list_any (λ (m : Moved). eq_by_cmp key_cmp key m.key && (m.version == version)) (moved_of es segment last cs) ≡ true) xs
          → AllByRecursion (λ (x : Candidate). is_moved es segment last x ≡ true
          → (eq_by_cmp key_cmp key x.moved.key && (x.moved.version == version)) ≡ true
          → list_any (λ (m : Moved). eq_by_cmp key_cmp key m.key && (m.version == version)) (moved_of es segment last (c ∷ cs)) ≡ true) xs
      later [] all = tt
      later (x ∷ xs) all = ((λ moves at. more (all.0 moves at)), later xs all.1)

  any_recorded : (format : ℕ) (key : List ℕ) (version number place : ℕ) (ms : List Moved)
      → list_any (is_at key version) (map (record_entry format number) (relocated_records format place ms))
      ≡ list_any (λ (m : Moved). eq_by_cmp key_cmp key m.key && (m.version == version)) ms
  any_recorded format key version number place [] = refl
  any_recorded format key version number place (m ∷ ms) =
      ap (λ b. (eq_by_cmp key_cmp key m.key && (m.version == version)) || b)
      (any_recorded format key version number (place + moved_length format m) ms)

tied : (key : List ℕ) (version : ℕ) → (eq_by_cmp key_cmp key key && (version == version)) ≡ true
tied key version =
    let same : (version == version) ≡ true = grind (arith, nat_tests) in
    and_from (eq_by_cmp key_cmp key key) (version == version)
    (ap Rattle.std.specs.Ordering.is_eq (Rattle.vl_model.specs.laws.WinnerLaws.key_tied key)) same

module _ (segment last : ℕ) (l : Layout) (batch : List Candidate) where
  ms : List Moved
  ms = moved_of (sources l) segment last batch

  one_settled : (c : Candidate)
      → (is_moved (sources l) segment last c ≡ true
      → list_any (λ (m : Moved). eq_by_cmp key_cmp c.moved.key m.key && (m.version == c.moved.version))
      (moved_of (sources l) segment last batch) ≡ true)
      → c.moved.version ≤ last
      → IsSettled segment (sources (relocated l (moved_of (sources l) segment last batch))) c
  one_settled c added_if low = is_not
      (wins_exactly (sources (relocated l (moved_of (sources l) segment last batch))) segment c.moved.key c.moved.version c.place) (λ wins.
      let f = Relocated (moved_of (sources l) segment last batch) in
      let before : wins_exactly (sources l) segment c.moved.key c.moved.version c.place ≡ true =
      shrinks_logged segment l f c.moved.key c.moved.version c.place wins in
      let le : nat_le c.moved.version last ≡ true = grind (arith, nat_tests) in
      let moves : is_moved (sources l) segment last c ≡ true =
      and_from (wins_exactly (sources l) segment c.moved.key c.moved.version c.place) (nat_le c.moved.version last) before le in
      let there = any_recorded segment last (sources l) l.active.format c.moved.key c.moved.version l.active.number
      (place_behind l.active.format 16 l.active.frames + 9) (moved_of (sources l) segment last batch) ∙ added_if moves in
      let found = is_found c.moved.key c.moved.version (added l f) there in
      let out = found_one c.moved.key c.moved.version (IsOutside segment) (added l f)
      (outside_records l.active.format segment l.active.number
      (frame_records l.active.format (place_behind l.active.format 16 l.active.frames) f)) (Some found.0) found.1 found.0 refl in
      true_false (sym wins ∙ ap (leads_to segment c.place) (exact_logged c.moved.key c.moved.version l f)
      ∙ ap (λ o. leads_to segment c.place (or_else o (exact (sources l) c.moved.key c.moved.version))) found.1 ∙ out c.place))

  -- Right behind a relocation no record of its batch wins exactly from inside the log.
  pub batch_settled : AllByRecursion (λ (c : Candidate). c.moved.version ≤ last) batch
      → AllByRecursion (IsSettled segment (sources (relocated l (moved_of (sources l) segment last batch)))) batch
  batch_settled low = each batch low (λ key version. any_moved segment last (sources l) key version batch)
    where
      each : (xs : List Candidate) → AllByRecursion (λ (c : Candidate). c.moved.version ≤ last) xs
          → ((key : List ℕ) (version : ℕ)
          → AllByRecursion (λ (c : Candidate). is_moved (sources l) segment last c ≡ true
          → (eq_by_cmp key_cmp key c.moved.key && (c.moved.version == version)) ≡ true
          → list_any (λ (m : Moved). eq_by_cmp key_cmp key m.key && (m.version == version))
          (moved_of (sources l) segment last batch) ≡ true) xs)
          → AllByRecursion (IsSettled segment (sources (relocated l (moved_of (sources l) segment last batch)))) xs
      each [] low any = tt
      each (c ∷ cs) low any = (
        one_settled c (λ moves. (any c.moved.key c.moved.version).0 moves (tied c.moved.key c.moved.version)) low.0,
        each cs low.1 (λ key version. (any key version).1),
      )

-- ---- what a pass gives

pub at_most_one : (base : List Entry) (segment : ℕ) (r : LogRecord)
    → (found_in base segment r ≡ []) ⊎ ((c : Candidate) × (found_in base segment r ≡ c ∷ []))
at_most_one base segment r = by (wins_exactly base segment r.key r.version r.place) r.change
  where
    by : (b : Bool) (change : Change)
        → ((if b then valued r change else []) ≡ []) ⊎ ((c : Candidate) × ((if b then valued r change else []) ≡ c ∷ []))
    by false change = inl refl
    by true (Set value) =
        inr (record { moved = record { key = r.key; version = r.version; value = value }; place = r.place }, refl)
    by true Delete = inl refl

-- A batch and what is left behind it are all that was left, each record once and in order.
pub taken_parts : (base : List Entry) (segment count bytes : ℕ) (rs : List LogRecord)
    → (taken_from base segment count bytes rs).0 ++ found_all base segment (taken_from base segment count bytes rs).1
    ≡ found_all base segment rs
taken_parts base segment count bytes [] = refl
taken_parts base segment count bytes (r ∷ rs) =
    by (found_in base segment r) (at_most_one base segment r) refl
    (taken_parts base segment count bytes rs)
    (λ more. taken_parts base segment (count + 1) (bytes + more) rs)
  where
    by : (found : List Candidate)
        → (found_in base segment r ≡ []) ⊎ ((c : Candidate) × (found_in base segment r ≡ c ∷ []))
        → found_in base segment r ≡ found
        → (taken_from base segment count bytes rs).0 ++ found_all base segment (taken_from base segment count bytes rs).1
        ≡ found_all base segment rs
        → ((more : ℕ) → (taken_from base segment (count + 1) (bytes + more) rs).0 ++ found_all base segment
        (taken_from base segment (count + 1) (bytes + more) rs).1 ≡ found_all base segment rs)
        → (taken_from base segment count bytes (r ∷ rs)).0 ++ found_all base segment (taken_from base segment count bytes (r ∷ rs)).1
        ≡ found_all base segment (r ∷ rs)
    by found (inl none) is passed with_it =
        subst (λ (f : List Candidate).
        (batch_with (has_room count bytes (value_lengths f)) f (taken_from base segment count bytes rs)
        (taken_from base segment (count + 1) (bytes + value_lengths f) rs) ([], r ∷ rs)).0
        ++ found_all base segment
        (batch_with (has_room count bytes (value_lengths f)) f (taken_from base segment count bytes rs)
        (taken_from base segment (count + 1) (bytes + value_lengths f) rs) ([], r ∷ rs)).1 ≡ f ++ found_all base
        segment rs) (sym none) passed
    by found (inr one) is passed with_it =
        subst (λ (f : List Candidate).
        (batch_with (has_room count bytes (value_lengths f)) f (taken_from base segment count bytes rs)
        (taken_from base segment (count + 1) (bytes + value_lengths f) rs) ([], r ∷ rs)).0
        ++ found_all base segment
        (batch_with (has_room count bytes (value_lengths f)) f (taken_from base segment count bytes rs)
        (taken_from base segment (count + 1) (bytes + value_lengths f) rs) ([], r ∷ rs)).1 ≡ f ++ found_all base segment rs) (sym one.1)
        (by_room (has_room count bytes (value_lengths (one.0 ∷ []))))
      where
        by_room : (b : Bool)
            → (batch_with b (one.0 ∷ []) (taken_from base segment count bytes rs)
            (taken_from base segment (count + 1) (bytes + value_lengths (one.0 ∷ [])) rs) ([], r ∷ rs)).0
            ++ found_all base segment
            (batch_with b (one.0 ∷ []) (taken_from base segment count bytes rs)
            (taken_from base segment (count + 1) (bytes + value_lengths (one.0 ∷ [])) rs) ([], r ∷ rs)).1 ≡
            (one.0 ∷ []) ++ found_all base segment rs
        by_room true = ap (λ (xs : List Candidate). one.0 ∷ xs) (with_it (value_lengths (one.0 ∷ [])))
        by_room false = ap (λ (f : List Candidate). f ++ found_all base segment rs) one.1

-- ---- a whole pass without a merge beside it

pub still_settled : (segment : ℕ) (before now : List Entry) (c : Candidate) → Shrinks segment before now
    → IsSettled segment before c → IsSettled segment now c
still_settled segment before now c shrinks settled =
    is_not (wins_exactly now segment c.moved.key c.moved.version c.place)
    (λ wins. true_false (sym (shrinks c.moved.key c.moved.version c.place wins) ∙ settled))

-- Where all that a pass found is settled, and nothing won anew, no record of the log that has a value wins exactly.
pub pass_settles : (segment : ℕ) (base now : List Entry) → Shrinks segment base now → (rs : List LogRecord)
    → AllByRecursion (IsSettled segment now) (found_all base segment rs)
    → AllByRecursion (λ (r : LogRecord). (value : Stored) → r.change ≡ Set value
    → wins_exactly now segment r.key r.version r.place ≡ false) rs
pass_settles segment base now shrinks [] all = tt
pass_settles segment base now shrinks (r ∷ rs) all =
    (one, pass_settles segment base now shrinks rs (later (found_in base segment r) all))
  where
    later : (found : List Candidate)
        → AllByRecursion (IsSettled segment now) (found ++ found_all base segment rs)
        → AllByRecursion (IsSettled segment now) (found_all base segment rs)
    later [] a = a
    later (c ∷ cs) a = later cs a.1

    one : (value : Stored) → r.change ≡ Set value → wins_exactly now segment r.key r.version r.place ≡ false
    one value is = by (wins_exactly base segment r.key r.version r.place) refl
      where
        by : (b : Bool) → wins_exactly base segment r.key r.version r.place ≡ b
            → wins_exactly now segment r.key r.version r.place ≡ false
        by false lost =
            is_not (wins_exactly now segment r.key r.version r.place)
            (λ wins. true_false (sym (shrinks r.key r.version r.place wins) ∙ lost))
        by true won =
            let c : Candidate = record { moved = record { key = r.key; version = r.version; value = value }; place = r.place } in
            let found : found_in base segment r ≡ c ∷ [] =
            ap (λ b. if b then valued r r.change else []) won ∙ ap (valued r) is in
            (subst (λ (f : List Candidate). AllByRecursion (IsSettled segment now) (f ++ found_all base segment rs)) found all).0

-- ---- a flush

abbrev pub IsOwnAt : ℕ → Body → Type 0
IsOwnAt number (Inline value) = Unit {0}
IsOwnAt number Gone = Unit {0}
IsOwnAt number (Far pointer) = ⊥
IsOwnAt number (Logged value pointer) = pointer.segment ≡ number

own_record : (number : ℕ) (c : Change) (p : Pointer) → p.segment ≡ number → IsOwnAt number (logged_body c p)
own_record number (Set value) p is = is
own_record number Delete p is = tt

own_records : (format number : ℕ) (rs : List LogRecord)
    → AllByRecursion (λ (e : Entry). IsOwnAt number e.body) (map (record_entry format number) rs)
own_records format number [] = tt
own_records format number (r ∷ rs) =
    (own_record number r.change (pointer_to format number r) refl, own_records format number rs)

own_both : (number : ℕ) (xs ys : List Entry) → AllByRecursion (λ (e : Entry). IsOwnAt number e.body) xs
    → AllByRecursion (λ (e : Entry). IsOwnAt number e.body) ys
    → AllByRecursion (λ (e : Entry). IsOwnAt number e.body) (xs ++ ys)
own_both number [] ys a b = b
own_both number (x ∷ xs) ys a b = (a.0, own_both number xs ys a.1 b)

own_logged : (format number place : ℕ) (fs : List LogFrame)
    → AllByRecursion (λ (e : Entry). IsOwnAt number e.body) (logged_entries format number place fs)
own_logged format number place [] = tt
own_logged format number place (f ∷ fs) =
    own_both number (logged_entries format number (place + frame_length format f) fs)
    (frame_entries format number place f) (own_logged format number (place + frame_length format f) fs)
    (own_records format number (frame_records format place f))

outside_placed : (segment number : ℕ) → number ≢ segment → (b : Body) → IsOwnAt number b → (place : ℕ)
    → is_far_to segment place (placement b) ≡ false
outside_placed segment number apart (Inline value) own place = refl
outside_placed segment number apart Gone own place = refl
outside_placed segment number apart (Far p) own place = absurd own
outside_placed segment number apart (Logged value p) own place =
    let other : (p.segment == segment) ≡ false = grind (arith, nat_tests, apart, own) in
    elim (nat_le (value_length value) max_inline_bytes) as (λ t. is_far_to segment place (cond t (Inline value) (Far p)) ≡ false) [
      | true ↦ refl
      | false ↦ ap (λ b. b && (p.place == place)) other
    ]

all_outside : (segment number : ℕ) → number ≢ segment → (es : List Entry)
    → AllByRecursion (λ (e : Entry). IsOwnAt number e.body) es
    → AllByRecursion (IsOutside segment) (map placed es)
all_outside segment number apart [] own = tt
all_outside segment number apart (e ∷ es) own =
    ((λ place. outside_placed segment number apart e.body own.0 place), all_outside segment number apart es own.1)

exact-placed : (key : List ℕ) (version : ℕ) (es : List Entry)
    → exact (map placed es) key version ≡ option_map placed (exact es key version)
exact-placed key version [] = refl
exact-placed key version (e ∷ es) = elim (is_at key version e) as
    (λ b. cond b (Some (placed e)) (exact (map placed es) key version) ≡ option_map placed (cond b (Some e) (exact es key version))) [
      | true ↦ refl
      | false ↦ exact-placed key version es
    ]

frozen_parts : (ss : List Segment) (s : Segment) → oldest ss ≡ Some s
    → flat_map memtable ss ≡ flat_map memtable (but_oldest ss) ++ memtable s
frozen_parts [] s is = absurd cc
frozen_parts (t ∷ []) s is = nothing_behind (memtable t) ∙ ap memtable (the_one t s is)
  where
    nothing_behind : (es : List Entry) → es ++ [] ≡ es
    nothing_behind [] = refl
    nothing_behind (e ∷ es) = ap (λ xs. e ∷ xs) (nothing_behind es)

    the_one : (a b : Segment) → Some a ≡ Some b → a ≡ b
    the_one a b e = cc
frozen_parts (t ∷ u ∷ us) s is =
    ap (λ es. memtable t ++ es) (frozen_parts (u ∷ us) s is)
    ∙ sym (append_assoc (memtable t) (flat_map memtable (but_oldest (u ∷ us))) (memtable s))

-- placed entries in place of a memtable's
placed_shrinks : (segment number : ℕ) → number ≢ segment → (front es back : List Entry)
    → AllByRecursion (λ (e : Entry). IsOwnAt number e.body) es
    → Shrinks segment (front ++ (es ++ back)) (front ++ (map placed es ++ back))
placed_shrinks segment number apart front es back own key version place wins =
    ap (leads_to segment place)
    (exact-append key version front (es ++ back) ∙ ap (or_else (exact front key version)) (exact-append key version es back))
    ∙ by (exact front key version) (exact es key version) refl
    (sym (ap (leads_to segment place)
    (exact-append key version front (map placed es ++ back)
    ∙ ap (or_else (exact front key version))
    (exact-append key version (map placed es) back ∙ ap (λ o. or_else o (exact back key version)) (exact-placed key version es)))) ∙ wins)
  where
    by : (f m : Option Entry) → exact es key version ≡ m
        → leads_to segment place (or_else f (or_else (option_map placed m) (exact back key version))) ≡ true
        → leads_to segment place (or_else f (or_else m (exact back key version))) ≡ true
    by (Some e) m is won = won
    by None None is won = won
    by None (Some e) is won =
        let out = found_one key version (IsOutside segment) (map placed es) (all_outside segment number apart es own)
        (Some (placed e)) (exact-placed key version es ∙ ap (option_map placed) is) (placed e) refl in
        absurd (true_false (sym won ∙ out place))

-- A flush of another log's memtable makes nothing win anew.
pub shrinks_flushed : (segment : ℕ) (l : Layout) (s : Segment) (level : List Table) (deeper : List (List Table)) → s.number ≢ segment
    → oldest l.frozen ≡ Some s → l.levels ≡ level ∷ deeper → Shrinks segment (sources l) (sources (flushed l s))
shrinks_flushed segment l s level deeper apart waits are =
    let active = memtable l.active in
    let front = flat_map memtable (but_oldest l.frozen) in
    let back = flat_map table_entries (tables l) in
    let before : sources l ≡ (active ++ front) ++ (memtable s ++ back) =
    ap (λ es. active ++ (es ++ back)) (frozen_parts l.frozen s waits)
    ∙ ap (λ es. active ++ es) (append_assoc front (memtable s) back)
    ∙ sym (append_assoc active front (memtable s ++ back)) in
    let after : sources (flushed l s) ≡ (active ++ front) ++ (map placed (memtable s) ++ back) =
    ap (λ (levels : List (List Table)). active
    ++ (front ++ flat_map table_entries (flat_map (λ ts. ts) (in_front (flushed_table l s) levels)))) are
    ∙ sym (ap (λ (levels : List (List Table)). active
    ++ (front ++ (map placed (memtable s) ++ flat_map table_entries (flat_map (λ ts. ts) levels)))) are)
    ∙ sym (append_assoc active front (map placed (memtable s) ++ back)) in
    λ key version place wins.
    ap (λ (es : List Entry). wins_exactly es segment key version place) before
    ∙ placed_shrinks segment s.number apart (active ++ front) (memtable s) back
    (all-in_order (λ (e : Entry). IsOwnAt s.number e.body) (logged_entries s.format s.number 16 s.frames)
    (own_logged s.format s.number 16 s.frames)) key version place
    (sym (ap (λ (es : List Entry). wins_exactly es segment key version place) after) ∙ wins)
