-- Logs and what is placed in them: behind a rotation, and behind a switch that retires some.
use Rattle.std.proofs.Common.{◌≡◌, ℕ, ◌+◌, ◌-◌, ◌<◌, Bool, true, false, cond, not, ◌&&◌, ◌||◌, List, [], ◌∷◌, ◌++◌}
use Rattle.std.proofs.Common.{map, length, refl, ap, sym, ◌∙◌, subst, arith, append_assoc}
use Rattle.std.proofs.lemmas.Bool.Decides.{nat_tests}
use Rattle.std.specs.Prelude.{Some, ◌==◌, nat_le, nat_lt}
use Rattle.std.specs.List.{AllByRecursion, filter, list_any}
use Rattle.vl_model.specs.Formats.{record_head}
use Rattle.vl_model.specs.Frames.{frame_length, record_length}
use Rattle.vl_model.specs.Keys.{value_length}
use Rattle.vl_model.specs.Limits.{max_inline_bytes}
use Rattle.vl_model.specs.Numbers.{has}
use Rattle.vl_model.specs.Placement.{placed, placement}
use Rattle.vl_model.specs.declared.change.Change.{Change}
use Rattle.vl_model.specs.declared.change.Change.TheVariants.{Set, Delete}
use Rattle.vl_model.specs.declared.entry.Entry.{Entry}
use Rattle.vl_model.specs.declared.entry.Body.{Body}
use Rattle.vl_model.specs.declared.entry.Body.TheVariants.{Inline, Gone, Far, Logged}
use Rattle.vl_model.specs.declared.log_frame.LogFrame.{LogFrame}
use Rattle.vl_engine_model.specs.Garbage.{live_bytes}
use Rattle.vl_engine_model.specs.Jobs.{AreDistinct}
use Rattle.vl_engine_model.specs.Logs.{LogRecord, frame_entries, frame_records, logged_body, logged_entries, memtable, record_entry}
use Rattle.vl_engine_model.specs.Ruling.{switched}
use Rattle.vl_engine_model.specs.Sources.{but_oldest, head, oldest, tables}
use Rattle.vl_engine_model.specs.Stock.{IsFooted, is_into, leads}
use Rattle.vl_engine_model.specs.Tidy.{IsPlacedAt, IsPlacedIn, format_of, log_numbers, sealed}
use Rattle.vl_engine_model.specs.declared.layout.Layout.{Layout}
use Rattle.vl_engine_model.specs.declared.segment.Segment.{Segment}
use Rattle.vl_engine_model.specs.declared.table.Table.{Table}
use Rattle.vl_engine_model.specs.laws.OrderShows.{all-in_order}
use Rattle.vl_engine_model_laws.specs.laws.Files.{all_both, leads-points, neither, none_live, or_false, or_left, or_right, seen_by, true_false}

-- ---- the oldest frozen log

pub frozen_split : (ss : List Segment) (s : Segment) → oldest ss ≡ Some s → ss ≡ but_oldest ss ++ s ∷ []
frozen_split [] s is = absurd cc
frozen_split (t ∷ []) s is = ap (λ (x : Segment). x ∷ []) (the_one t s is)
  where
    the_one : (a b : Segment) → Some a ≡ Some b → a ≡ b
    the_one a b e = cc
frozen_split (t ∷ u ∷ us) s is = ap (λ (xs : List Segment). t ∷ xs) (frozen_split (u ∷ us) s is)

-- it goes from the end of the frozen logs to the front of the flushed ones
pub sealed_same : (l : Layout) (s : Segment) → oldest l.frozen ≡ Some s
    → but_oldest l.frozen ++ s ∷ l.flushed ≡ sealed l
sealed_same l s waits =
    sym (append_assoc (but_oldest l.frozen) (s ∷ []) l.flushed)
    ∙ ap (λ (xs : List Segment). xs ++ l.flushed) (sym (frozen_split l.frozen s waits))

-- ---- numbers

has_fewer : (p : Segment → Bool) (n : ℕ) (xs ys : List Segment) → has n (log_numbers (xs ++ ys)) ≡ false
    → has n (log_numbers (xs ++ filter p ys)) ≡ false
has_fewer p n [] [] none = refl
has_fewer p n [] (y ∷ ys) none =
    let both = or_false (y.number == n) (has n (log_numbers ys)) none in
    elim (p y) as (λ b. has n (log_numbers (cond b (y ∷ filter p ys) (filter p ys))) ≡ false) [
      | true ↦ neither (y.number == n) (has n (log_numbers (filter p ys))) both.0 (has_fewer p n [] ys both.1)
      | false ↦ has_fewer p n [] ys both.1
    ]
has_fewer p n (x ∷ xs) ys none =
    let both = or_false (x.number == n) (has n (log_numbers (xs ++ ys))) none in
    neither (x.number == n) (has n (log_numbers (xs ++ filter p ys))) both.0 (has_fewer p n xs ys both.1)

pub distinct_fewer : (p : Segment → Bool) (xs ys : List Segment) → AreDistinct (log_numbers (xs ++ ys))
    → AreDistinct (log_numbers (xs ++ filter p ys))
distinct_fewer p [] [] distinct = tt
distinct_fewer p [] (y ∷ ys) distinct = elim (p y) as (λ b. AreDistinct (log_numbers (cond b (y ∷ filter p ys) (filter p ys)))) [
  | true ↦ (has_fewer p y.number [] ys distinct.0, distinct_fewer p [] ys distinct.1)
  | false ↦ distinct_fewer p [] ys distinct.1
]
distinct_fewer p (x ∷ xs) ys distinct = (has_fewer p x.number xs ys distinct.0, distinct_fewer p xs ys distinct.1)

pub none_drawn : (next : ℕ) (ss : List Segment) → AllByRecursion (λ (s : Segment). s.number < next) ss
    → has next (log_numbers ss) ≡ false
none_drawn next [] drawn = refl
none_drawn next (s ∷ ss) drawn =
    let apart : (s.number == next) ≡ false = let less = drawn.0 in grind (arith, nat_tests, less) in
    neither (s.number == next) (has next (log_numbers ss)) apart (none_drawn next ss drawn.1)

-- ---- formats

some_log : (ss : List Segment) (n f : ℕ) → format_of ss n ≡ Some f → has n (log_numbers ss) ≡ true
some_log [] n f is = absurd cc
some_log (s ∷ ss) n f is = by (s.number == n) is (some_log ss n f)
  where
    by : (b : Bool) → cond b (Some s.format) (format_of ss n) ≡ Some f
        → (format_of ss n ≡ Some f → has n (log_numbers ss) ≡ true) → (b || has n (log_numbers ss)) ≡ true
    by true is later = refl
    by false is later = later is

-- a log of another number in front
pub format_behind : (a : Segment) (ss : List Segment) (n f : ℕ) → has a.number (log_numbers ss) ≡ false
    → format_of ss n ≡ Some f → format_of (a ∷ ss) n ≡ Some f
format_behind a ss n f other is =
    let apart : (a.number == n) ≡ false = not_so (a.number == n) (λ at.
    let same : n ≡ a.number = grind (arith, nat_tests, at) in
    true_false (sym (subst (λ (m : ℕ). has m (log_numbers ss) ≡ true) same (some_log ss n f is)) ∙ other)) in
    ap (λ b. cond b (Some a.format) (format_of ss n)) apart ∙ is
  where
    not_so : (b : Bool) → (b ≡ true → ⊥) → b ≡ false
    not_so true never = absurd (never refl)
    not_so false never = refl

-- a log among others of which none in front has its number
pub format_there : (xs : List Segment) (s : Segment) (ys : List Segment)
    → AreDistinct (log_numbers (xs ++ s ∷ ys)) → format_of (xs ++ s ∷ ys) s.number ≡ Some s.format
format_there [] s ys distinct =
    let here : (s.number == s.number) ≡ true = grind (arith, nat_tests) in ap (λ b. cond b (Some s.format) (format_of ys s.number)) here
format_there (x ∷ xs) s ys distinct =
    format_behind x (xs ++ s ∷ ys) s.number s.format distinct.0 (format_there xs s ys distinct.1)

-- of a log that stays
pub format_stays : (q : ℕ → Bool) (xs ys : List Segment) (n f : ℕ) → q n ≡ false → format_of (xs ++ ys) n ≡ Some f
    → format_of (xs ++ filter (λ (s : Segment). not (q s.number)) ys) n ≡ Some f
format_stays q [] [] n f busy is = is
format_stays q [] (y ∷ ys) n f busy is = by (y.number == n) refl is (format_stays q [] ys n f busy)
  where
    by : (b : Bool) → (y.number == n) ≡ b → cond b (Some y.format) (format_of ys n) ≡ Some f
        → (format_of ys n ≡ Some f → format_of (filter (λ (s : Segment). not (q s.number)) ys) n ≡ Some f)
        → format_of (cond (not (q y.number)) (y ∷ filter (λ (s : Segment). not (q s.number)) ys)
        (filter (λ (s : Segment). not (q s.number)) ys)) n
        ≡ Some f
    by true at is later =
        let same : n ≡ y.number = grind (arith, nat_tests, at) in
        let stays : q y.number ≡ false = subst (λ (m : ℕ). q m ≡ false) same busy in
        ap (λ b. format_of (cond (not b) (y ∷ filter (λ (s : Segment). not (q s.number)) ys)
        (filter (λ (s : Segment). not (q s.number)) ys)) n) stays
        ∙ ap (λ b. cond b (Some y.format) (format_of (filter (λ (s : Segment). not (q s.number)) ys) n)) at ∙ is
    by false at is later = elim (q y.number) as
        (λ c. format_of (cond (not c) (y ∷ filter (λ (s : Segment). not (q s.number)) ys)
        (filter (λ (s : Segment). not (q s.number)) ys)) n ≡ Some f) [
          | true ↦ later is
          | false ↦ ap (λ b. cond b (Some y.format) (format_of (filter (λ (s : Segment). not (q s.number)) ys) n)) at ∙ later is
        ]
format_stays q (x ∷ xs) ys n f busy is = by (x.number == n) is (format_stays q xs ys n f busy)
  where
    by : (b : Bool) → cond b (Some x.format) (format_of (xs ++ ys) n) ≡ Some f
        → (format_of (xs ++ ys) n ≡ Some f → format_of (xs ++ filter (λ (s : Segment). not (q s.number)) ys) n ≡ Some f)
        → cond b (Some x.format) (format_of (xs ++ filter (λ (s : Segment). not (q s.number)) ys) n) ≡ Some f
    by true is later = is
    by false is later = later is

-- ---- what is placed

-- a body is placed in other logs, where each far one's log is there with its format
pub placed_so : (ss ts : List Segment) (key : List ℕ) (b : Body)
    → ((n f : ℕ) → is_into n (record { key = key; version = 0; body = b }) ≡ true → format_of ss n ≡ Some f → format_of ts n ≡ Some f)
    → IsPlacedAt ss key b → IsPlacedAt ts key b
placed_so ss ts key (Inline value) so at = at
placed_so ss ts key Gone so at = tt
placed_so ss ts key (Far p) so at = (at.0, so p.segment at.0 (grind (arith, nat_tests)) at.1, at.2)
placed_so ss ts key (Logged value p) so at = absurd at

pub all_placed_so : (ss ts : List Segment) (es : List Entry)
    → ((n f : ℕ) → list_any (is_into n) es ≡ true → format_of ss n ≡ Some f → format_of ts n ≡ Some f)
    → AllByRecursion (IsPlacedIn ss) es → AllByRecursion (IsPlacedIn ts) es
all_placed_so ss ts [] so all = tt
all_placed_so ss ts (e ∷ es) so all = (
  placed_so ss ts e.key e.body (λ n f is. so n f (or_left (is_into n e) (list_any (is_into n) es) is)) all.0,
  all_placed_so ss ts es (λ n f is. so n f (or_right (is_into n e) (list_any (is_into n) es) is)) all.1,
)

-- a log into which a table leads isn't idle
busy : (l : Layout) → AllByRecursion IsFooted (tables l) → (n : ℕ)
    → list_any (λ (t : Table). leads n t.points) (tables l) ≡ true
    → (nat_lt n (head l) && (live_bytes (tables l) n == 0)) ≡ false
busy l footed n there = by (live_bytes (tables l) n == 0) refl
  where
    by : (b : Bool) → (live_bytes (tables l) n == 0) ≡ b → (nat_lt n (head l) && b) ≡ false
    by true is = absurd (true_false (sym there ∙ none_live n (tables l) footed (grind (arith, nat_tests, is))))
    by false is = none (nat_lt n (head l))
      where
        none : (a : Bool) → (a && false) ≡ false
        none true = refl
        none false = refl

-- what is placed stays so where the logs retire that nothing leads into
pub switched_placed : (l : Layout) (dropped : List Table) → AllByRecursion IsFooted (tables l)
    → AllByRecursion (λ (t : Table). AllByRecursion (IsPlacedIn (sealed l)) t.entries) (tables l)
    → AllByRecursion (λ (t : Table). AllByRecursion (IsPlacedIn (sealed (switched dropped l))) t.entries) (tables l)
switched_placed l dropped footed placed_all =
    each (tables l) footed placed_all (seen_by (λ (n : ℕ) (t : Table). leads n t.points) (tables l))
  where
    each : (ts : List Table) → AllByRecursion IsFooted ts
        → AllByRecursion (λ (t : Table). AllByRecursion (IsPlacedIn (sealed l)) t.entries) ts
        → AllByRecursion (λ (t : Table). (n : ℕ) → leads n t.points ≡ true
        → list_any (λ (u : Table). leads n u.points) (tables l) ≡ true) ts
        → AllByRecursion (λ (t : Table). AllByRecursion (IsPlacedIn (sealed (switched dropped l))) t.entries) ts
    each [] foot all lead = tt
    each (t ∷ ts) foot all lead = (
      all_placed_so (sealed l) (sealed (switched dropped l)) t.entries
          (λ n f into is. format_stays (λ (m : ℕ). nat_lt m (head l) && (live_bytes (tables l) m == 0)) l.frozen l.flushed n f
          (busy l footed n (lead.0 n (ap (leads n) foot.0.points ∙ leads-points n t.entries ∙ into))) is) all.0,
      each ts foot.1 all.1 lead.1,
    )

-- ---- a memtable's entries

-- an entry of a log's memtable has its log's number, and its record's length
abbrev pub IsOfLog : (format number : ℕ) → List ℕ → Body → Type 0
IsOfLog format number key (Inline value) = ⊥
IsOfLog format number key Gone = Unit {0}
IsOfLog format number key (Far pointer) = ⊥
IsOfLog format number key (Logged value pointer) =
    (pointer.segment ≡ number) × (pointer.length ≡ record_length format key (Set value))

module _ (format number : ℕ) where
  abbrev pub IsInLog : Entry → Type 0
  IsInLog e = IsOfLog format number e.key e.body

  of_record : (r : LogRecord) (c : Change)
      → IsOfLog format number r.key (logged_body c (record { segment = number; place = r.place; length = record_length format r.key c }))
  of_record r (Set value) = (refl, refl)
  of_record r Delete = tt

  of_records : (rs : List LogRecord) → AllByRecursion IsInLog (map (record_entry format number) rs)
  of_records [] = tt
  of_records (r ∷ rs) = (of_record r r.change, of_records rs)

  of_logged : (place : ℕ) (fs : List LogFrame) → AllByRecursion IsInLog (logged_entries format number place fs)
  of_logged place [] = tt
  of_logged place (f ∷ fs) =
      all_both IsInLog (logged_entries format number (place + frame_length format f) fs) (frame_entries format number place f)
      (of_logged (place + frame_length format f) fs) (of_records (frame_records format place f))

  placed_body : (ss : List Segment) → format_of ss number ≡ Some format → (key : List ℕ) (b : Body)
      → IsOfLog format number key b → IsPlacedAt ss key (placement b)
  placed_body ss there key (Inline value) of = absurd of
  placed_body ss there key Gone of = tt
  placed_body ss there key (Far p) of = absurd of
  placed_body ss there key (Logged value p) of = by (nat_le (value_length value) max_inline_bytes) refl
    where
      by : (b : Bool) → nat_le (value_length value) max_inline_bytes ≡ b
          → IsPlacedAt ss key (cond b (Inline value) (Far p))
      by true is = is
      by false is =
          let long : max_inline_bytes < value_length value = grind (arith, nat_tests, is) in
          let whole : p.length ≡ record_head format + length key + length value.bytes = of.1 in
          let left : p.length - (record_head format + length key + 0) ≡ value_length value = omega (arith, whole) in
          let more : max_inline_bytes < p.length - (record_head format + length key + 0) = omega (arith, long, left) in
          (format, subst (λ (n : ℕ). format_of ss n ≡ Some format) (sym of.0) there, grind (arith, nat_tests, more))

  all_placed : (ss : List Segment) → format_of ss number ≡ Some format → (es : List Entry)
      → AllByRecursion IsInLog es → AllByRecursion (IsPlacedIn ss) (map placed es)
  all_placed ss there [] of = tt
  all_placed ss there (e ∷ es) of = (placed_body ss there e.key e.body of.0, all_placed ss there es of.1)

-- a flushed memtable's entries are placed in its log
pub memtable_placed : (ss : List Segment) (s : Segment) → format_of ss s.number ≡ Some s.format
    → AllByRecursion (IsPlacedIn ss) (map placed (memtable s))
memtable_placed ss s there = all_placed s.format s.number ss there (memtable s)
    (all-in_order (IsInLog s.format s.number) (logged_entries s.format s.number 16 s.frames) (of_logged s.format s.number 16 s.frames))
