-- Which readers read no table, and that a layout behind a step still has those that one reads.
use Rattle.std.proofs.Common.{◌≡◌, ◌≤◌, ℕ, ◌+◌, ◌==◌, ◌||◌, ◌&&◌, Bool, true, false, cond, not, List, [], ◌∷◌, ◌++◌, map, refl, ap, sym}
use Rattle.std.proofs.Common.{◌∙◌, arith}
use Rattle.std.proofs.lemmas.Bool.Decides.{nat_tests}
use Rattle.std.specs.Prelude.{None, Some, nat_lt}
use Rattle.std.specs.FinMap.{find}
use Rattle.std.specs.List.{AllByRecursion, filter}
use Rattle.std.specs.Ordering.{eq_by_cmp, nat_cmp}
use Rattle.vl_engine_model.specs.Rising.{put_by}
use Rattle.vl_engine_model.specs.Ruling.{ended, pin_of, retired_at}
use Rattle.vl_engine_model.specs.Rulings.Begin.{begun}
use Rattle.vl_space.specs.laws.Sweeps.Freed.{left_over}
use Rattle.vl_engine_model.specs.Rulings.Sweep.{is_held, job_pin, pass_pin, pins, swept, without_files}
use Rattle.vl_engine_model.specs.Sources.{tables}
use Rattle.vl_engine_model.specs.Stock.{AreOnce, IsPinned, files_of}
use Rattle.vl_engine_model.specs.Tickets.{tickets_of}
use Rattle.vl_engine_model.specs.declared.file_name.FileName.{FileName}
use Rattle.vl_engine_model.specs.declared.file_name.Retired.{Retired}
use Rattle.vl_engine_model.specs.declared.layout.Layout.{Layout}
use Rattle.vl_engine_model.specs.declared.live.Live.{Live}
use Rattle.vl_engine_model.specs.declared.live.Pin.{Pin}
use Rattle.vl_engine_model.specs.declared.table.Table.{Table}
use Rattle.vl_script_model.specs.Readers.{IsWithoutTables, is_table}
use Rattle.vl_replay_laws.specs.Standing.{ReadsNoTable, is_held_table, pins_at}

-- ---- lists

-- what passes a test passes this one
abbrev Implies : {X : Type 0} → (p q : X → Bool) → Type 0
Implies {X} p q = (x : X) → p x ≡ true → q x ≡ true

true_false : true ≡ false → ⊥
true_false e = cc

module _ {X : Type 0} where
  -- what fails the weaker test
  fails_too : (p q : X → Bool) → Implies p q → (x : X) → q x ≡ false → p x ≡ false
  fails_too p q so x fails = by (p x) refl
    where
      by : (b : Bool) → p x ≡ b → b ≡ false
      by true passes = absurd (true_false (sym (so x passes) ∙ fails))
      by false passes = refl

  without_head : (p : X → Bool) (x : X) (xs : List X) → p x ≡ false → filter p xs ≡ [] → filter p (x ∷ xs) ≡ []
  without_head p x xs fails none = ap (λ (b : Bool). cond b (x ∷ filter p xs) (filter p xs)) fails ∙ none

  -- none passes the stronger test
  none_stronger : (p q : X → Bool) → Implies p q → (xs : List X) → filter q xs ≡ [] → filter p xs ≡ []
  none_stronger p q so [] none = refl
  none_stronger p q so (x ∷ xs) none = by (q x) refl none (none_stronger p q so xs)
    where
      by : (b : Bool) → q x ≡ b → cond b (x ∷ filter q xs) (filter q xs) ≡ [] → (filter q xs ≡ [] → filter p xs ≡ [])
          → filter p (x ∷ xs) ≡ []
      by true passes none later = absurd cc
      by false fails none later = without_head p x xs (fails_too p q so x fails) (later none)

  -- none passes it, where all that pass it were left
  none_left : (p keep : X → Bool) → Implies p keep → (xs : List X) → filter p (filter keep xs) ≡ [] → filter p xs ≡ []
  none_left p keep so [] none = refl
  none_left p keep so (x ∷ xs) none = by (keep x) refl none (none_left p keep so xs)
    where
      head_out : (b : Bool) → cond b (x ∷ filter p (filter keep xs)) (filter p (filter keep xs)) ≡ []
          → (filter p (filter keep xs) ≡ [] → filter p xs ≡ []) → cond b (x ∷ filter p xs) (filter p xs) ≡ []
      head_out true none later = absurd cc
      head_out false none later = later none

      by : (b : Bool) → keep x ≡ b → filter p (cond b (x ∷ filter keep xs) (filter keep xs)) ≡ []
          → (filter p (filter keep xs) ≡ [] → filter p xs ≡ []) → filter p (x ∷ xs) ≡ []
      by true stays none later = head_out (p x) none later
      by false gone none later = without_head p x xs (fails_too p keep so x gone) (later none)

-- ---- what pins hold

-- what some of these pins hold they all hold
abbrev Covers : (ps qs : List Pin) → Type 0
Covers ps qs = (r : Retired) → is_held ps r ≡ true → is_held qs r ≡ true

more : (ps qs : List Pin) → Covers ps qs → Implies (is_held_table ps) (is_held_table qs)
more ps qs covers r held = by (is_table r.file) held
  where
    by : (b : Bool) → (b && is_held ps r) ≡ true → (b && is_held qs r) ≡ true
    by true held = covers r held
    by false held = held

held_table : (ps : List Pin) → Implies (is_held_table ps) (λ (r : Retired). is_table r.file)
held_table ps r held = by (is_table r.file) held
  where
    by : (b : Bool) → (b && is_held ps r) ≡ true → b ≡ true
    by true held = refl
    by false held = held

-- where no table was dropped, none stays for a reader
pub reads_none : (ticket : ℕ) (l : Layout) → IsWithoutTables l → ReadsNoTable ticket l
reads_none ticket l none = (
  none.0,
  none_stronger (is_held_table (pins_at ticket l.live)) (λ (r : Retired). is_table r.file) (held_table (pins_at ticket l.live))
      l.retired none.1,
)

-- ---- what begins and ends

module _ (ticket : ℕ) where
  -- one more, whatever its ticket
  covers_put : (x : Live) (xs : List Live) → Covers (pins_at ticket xs) (pins_at ticket (put_by (λ (y : Live). y.ticket) x xs))
  covers_put x [] r held = absurd cc
  covers_put x (y ∷ ys) r held = by (nat_lt y.ticket x.ticket) (covers_put x ys r)
    where
      behind : (b : Bool) (a : Live) (us vs : List Live) → (is_held (pins_at ticket us) r ≡ true → is_held (pins_at ticket vs) r ≡ true)
          → is_held (map (λ (z : Live). z.pin) (cond b (a ∷ filter (λ (z : Live). z.ticket == ticket) us)
          (filter (λ (z : Live). z.ticket == ticket) us))) r ≡ true
          → is_held (map (λ (z : Live). z.pin) (cond b (a ∷ filter (λ (z : Live). z.ticket == ticket) vs)
          (filter (λ (z : Live). z.ticket == ticket) vs))) r ≡ true
      behind true a us vs so held = or_so (nat_lt a.pin.epoch r.epoch) held
        where
          or_so : (t : Bool) → (t || is_held (pins_at ticket us) r) ≡ true → (t || is_held (pins_at ticket vs) r) ≡ true
          or_so true held = refl
          or_so false held = so held
      behind false a us vs so held = so held

      in_front : (b : Bool) (a : Live) (us : List Live) → is_held (pins_at ticket us) r ≡ true
          → is_held (map (λ (z : Live). z.pin) (cond b (a ∷ filter (λ (z : Live). z.ticket == ticket) us)
          (filter (λ (z : Live). z.ticket == ticket) us))) r ≡ true
      in_front true a us held = or_true (nat_lt a.pin.epoch r.epoch) held
        where
          or_true : (t : Bool) → is_held (pins_at ticket us) r ≡ true → (t || is_held (pins_at ticket us) r) ≡ true
          or_true true held = refl
          or_true false held = held
      in_front false a us held = held

      by : (b : Bool) → (is_held (pins_at ticket ys) r ≡ true → is_held (pins_at ticket (put_by (λ (z : Live). z.ticket) x ys)) r ≡ true)
          → is_held (pins_at ticket (cond b (y ∷ put_by (λ (z : Live). z.ticket) x ys) (x ∷ y ∷ ys))) r ≡ true
      by true later = behind (y.ticket == ticket) y ys (put_by (λ (z : Live). z.ticket) x ys) later held
      by false later = in_front (x.ticket == ticket) x (y ∷ ys) held

  pub reads_begun : (new number : ℕ) (l : Layout) → ReadsNoTable ticket (begun l new number) → ReadsNoTable ticket l
  reads_begun new number l none = (
    none.0,
    none_stronger (is_held_table (pins_at ticket l.live)) (is_held_table (pins_at ticket (begun l new number).live))
        (more (pins_at ticket l.live) (pins_at ticket (begun l new number).live)
        (covers_put (record { ticket = new; number = number; pin = pin_of l }) l.live)) l.retired none.1,
  )

  -- one that ends has another ticket
  pins_kept : (other : ℕ) → (ticket ≡ other → ⊥) → (xs : List Live)
      → pins_at ticket (filter (λ (x : Live). not (x.ticket == other)) xs) ≡ pins_at ticket xs
  pins_kept other apart [] = refl
  pins_kept other apart (x ∷ xs) = by (x.ticket == ticket) (x.ticket == other) refl refl (pins_kept other apart xs)
    where
      both : (x.ticket == ticket) ≡ true → (x.ticket == other) ≡ true → ⊥
      both here there =
          let a : x.ticket ≡ ticket = grind (arith, nat_tests, here) in
          let b : x.ticket ≡ other = grind (arith, nat_tests, there) in
          apart (sym a ∙ b)

      by : (b c : Bool) → (x.ticket == ticket) ≡ b → (x.ticket == other) ≡ c
          → pins_at ticket (filter (λ (y : Live). not (y.ticket == other)) xs) ≡ pins_at ticket xs
          → pins_at ticket (cond (not c) (x ∷ filter (λ (y : Live). not (y.ticket == other)) xs)
          (filter (λ (y : Live). not (y.ticket == other)) xs))
          ≡ map (λ (y : Live). y.pin) (cond b (x ∷ filter (λ (y : Live). y.ticket == ticket) xs)
          (filter (λ (y : Live). y.ticket == ticket) xs))
      by true true here there later = absurd (both here there)
      by true false here there later =
          ap (λ (b : Bool). map (λ (y : Live). y.pin) (cond b (x ∷ filter (λ (y : Live). y.ticket == ticket)
          (filter (λ (y : Live). not (y.ticket == other)) xs)) (filter (λ (y : Live). y.ticket == ticket)
          (filter (λ (y : Live). not (y.ticket == other)) xs)))) here
          ∙ ap (λ (ps : List Pin). x.pin ∷ ps) later
      by false true here there later = later
      by false false here there later =
          ap (λ (b : Bool). map (λ (y : Live). y.pin) (cond b (x ∷ filter (λ (y : Live). y.ticket == ticket)
          (filter (λ (y : Live). not (y.ticket == other)) xs)) (filter (λ (y : Live). y.ticket == ticket)
          (filter (λ (y : Live). not (y.ticket == other)) xs)))) here
          ∙ later

  pub reads_ended : (other : ℕ) → (ticket ≡ other → ⊥) → (l m : Layout) → m.live ≡ (ended other l).live → m.levels ≡ l.levels
      → m.retired ≡ l.retired → ReadsNoTable ticket m → ReadsNoTable ticket l
  reads_ended other apart l m live levels retired none = (
    ap (λ (ls : List (List Table)). tables (record l { levels = ls })) (sym levels) ∙ none.0,
    ap (λ (ps : List Pin). filter (is_held_table ps) l.retired) (sym (pins_kept other apart l.live) ∙ ap (pins_at ticket) (sym live))
        ∙ ap (filter (is_held_table (pins_at ticket m.live))) (sym retired) ∙ none.1,
  )

-- a layout whose tables and retired files are the same, and what lives
pub reads_same : (l m : Layout) → m.live ≡ l.live → tables m ≡ tables l → m.retired ≡ l.retired
    → (ticket : ℕ) → ReadsNoTable ticket m → ReadsNoTable ticket l
reads_same l m live same retired ticket none = (
  sym same ∙ none.0,
  ap (λ (xs : List Live). filter (is_held_table (pins_at ticket xs)) l.retired) (sym live)
      ∙ ap (filter (is_held_table (pins_at ticket m.live))) (sym retired) ∙ none.1,
)

-- ---- what is dropped

-- what lives was pinned at this epoch at most
abbrev pub ArePinnedUpTo : ℕ → List Live → Type 0
ArePinnedUpTo version live = AllByRecursion (λ (x : Live). x.pin.epoch ≤ version) live

-- A file that a step drops stays for all that lives.
pub held_then : (ticket number version : ℕ) (file : FileName) (xs : List Live) → ArePinnedUpTo version xs
    → find nat_cmp ticket (tickets_of xs) ≡ Some number → is_held (pins_at ticket xs) (retired_at (version + 1) file) ≡ true
held_then ticket number version file [] early found = absurd cc
held_then ticket number version file (x ∷ xs) early found = by (x.ticket == ticket) refl (held_then ticket number version file xs early.1)
  where
    before : nat_lt x.pin.epoch (version + 1) ≡ true
    before = let least = early.0 in grind (arith, nat_tests, least)

    untied : (x.ticket == ticket) ≡ false → eq_by_cmp nat_cmp ticket x.ticket ≡ false
    untied apart = grind (arith, nat_tests, apart)

    by : (b : Bool) → (x.ticket == ticket) ≡ b
        → (find nat_cmp ticket (tickets_of xs) ≡ Some number → is_held (pins_at ticket xs) (retired_at (version + 1) file) ≡ true)
        → is_held (map (λ (y : Live). y.pin) (cond b (x ∷ filter (λ (y : Live). y.ticket == ticket) xs)
        (filter (λ (y : Live). y.ticket == ticket) xs))) (retired_at (version + 1) file) ≡ true
    by true here later = ap (λ (b : Bool). b || is_held (pins_at ticket xs) (retired_at (version + 1) file)) before
    by false apart later = later
        (sym (ap (λ (b : Bool). cond b (Some x.number) (find nat_cmp ticket (tickets_of xs))) (untied apart)) ∙ found)

-- The pins of a layout are early.
pub pinned_up_to : (version : ℕ) (retired : List Retired) (live : List Live) (job pass : List Pin)
    → AllByRecursion (IsPinned version retired) (map (λ (x : Live). x.pin) live ++ job ++ pass) → ArePinnedUpTo version live
pinned_up_to version retired [] job pass all = tt
pinned_up_to version retired (x ∷ xs) job pass all = (all.0.old, pinned_up_to version retired xs job pass all.1)

-- ---- what a sweep leaves

-- what a ticket pins is pinned
covers_all : (ticket : ℕ) (xs : List Live) (job pass : List Pin)
    → Covers (pins_at ticket xs) (map (λ (x : Live). x.pin) xs ++ job ++ pass)
covers_all ticket [] job pass r held = absurd cc
covers_all ticket (x ∷ xs) job pass r held = by (x.ticket == ticket) held (covers_all ticket xs job pass r)
  where
    Rest : Type 0
    Rest = is_held (pins_at ticket xs) r ≡ true → is_held (map (λ (y : Live). y.pin) xs ++ job ++ pass) r ≡ true

    or_so : (t : Bool) → (t || is_held (pins_at ticket xs) r) ≡ true → Rest
        → (t || is_held (map (λ (y : Live). y.pin) xs ++ job ++ pass) r) ≡ true
    or_so true held later = refl
    or_so false held later = later held

    or_true : (t : Bool) → is_held (map (λ (y : Live). y.pin) xs ++ job ++ pass) r ≡ true
        → (t || is_held (map (λ (y : Live). y.pin) xs ++ job ++ pass) r) ≡ true
    or_true true held = refl
    or_true false held = held

    by : (b : Bool) → is_held (map (λ (y : Live). y.pin) (cond b (x ∷ filter (λ (y : Live). y.ticket == ticket) xs)
        (filter (λ (y : Live). y.ticket == ticket) xs))) r ≡ true → Rest
        → is_held (map (λ (y : Live). y.pin) (x ∷ xs) ++ job ++ pass) r ≡ true
    by true held later = or_so (nat_lt x.pin.epoch r.epoch) held later
    by false held later = or_true (nat_lt x.pin.epoch r.epoch) (later held)

-- What a sweep leaves has each table that a reader may read: no file that it removes stays for one.
pub reads_swept : (l : Layout) → AreOnce (files_of l.retired)
    → (ticket : ℕ) → ReadsNoTable ticket (without_files (swept None l) l) → ReadsNoTable ticket l
reads_swept l once ticket none = (
  none.0,
  none_left (is_held_table (pins_at ticket l.live)) (λ (r : Retired). not (goes r)) stays l.retired
      (ap (filter (is_held_table (pins_at ticket l.live))) (sym (left_over goes l.retired once)) ∙ none.1),
)
  where
    goes : Retired → Bool
    goes r = not (is_held (pins l) r) && true

    stays : Implies (is_held_table (pins_at ticket l.live)) (λ (r : Retired). not (goes r))
    stays r held = ap (λ (b : Bool). not (not b && true))
        (covers_all ticket l.live (job_pin l.job) (pass_pin l.pass) r (is_held_so (is_table r.file) held))
      where
        is_held_so : (b : Bool) → (b && is_held (pins_at ticket l.live) r) ≡ true → is_held (pins_at ticket l.live) r ≡ true
        is_held_so true held = held
        is_held_so false held = absurd cc
