-- One by one the files go that are ready.
use Rattle.std.specs.Prelude.{◌≡◌, ◌+◌, ◌++◌, not, ℕ, Bool, List, [], ◌∷◌, length, Option, Result, Ok, Err}
use Rattle.std.specs.Prelude.{if◌then◌else◌, is_some, true, false, refl}
use Rattle.std.specs.List.{AllByRecursion, filter}
use Rattle.std.specs.Option.{ForSome}
use Rattle.std.specs.VecDeque.{deque_capacity, deque_len}
use Rattle.std.proofs.Common.{sym, subst, ap, ◌∙◌, arith}
use Rattle.std.proofs.lemmas.List.Elements.{recursion_from_All}
use Rattle.vl_compact.specs.declared.files.Lent.{Lent}
use Rattle.vl_engine_laws.specs.Fit.{IsFitFor}
use Rattle.vl_engine_laws.specs.declared.kept.Core.{Core}
use Rattle.vl_disk.specs.declared.errors.Failed.{Failed}
use Rattle.vl_disk.specs.declared.watched.Watched.{Ghosts}
use Rattle.vl_disk.specs.declared.writer.Writer.{Ghosts as Writers}
use Rattle.vl_space.specs.laws.There.Going.{Goes, one_goes}
use Rattle.vl_space.specs.laws.There.Left.{fit_still, lent_still, there_on}
use Rattle.vl_engine_laws.specs.Lent.{AreLent}
use Rattle.vl_space.specs.Removing.{IsThere, IsWaiting}
use Rattle.vl_space.specs.Sweeping.{HasSwept, PinsStay, RemovesAll, RemovesOne, StopsRemoving, held, ready}
use Rattle.vl_engine_laws.specs.declared.open.OpenMerge.{OpenMerge}
use Rattle.vl_space.specs.declared.kept.Removing.{Removing}
use Rattle.vl_pins.specs.Files.{IsNoneTaken, IsTaken, is_up_to}
use Rattle.vl_pins.specs.declared.retired_file.RetiredFile.{RetiredFile}
use Rattle.vl_pins.specs.declared.stock.Stock.{Stock}

-- ---- lists

module _ {X : Type 0} (p : X → Bool) where
  filter_both : (xs ys : List X) → filter p (xs ++ ys) ≡ filter p xs ++ filter p ys
  filter_both [] ys = refl
  filter_both (x ∷ xs) ys = by (p x) (filter_both xs ys)
    where
      by : (b : Bool) → filter p (xs ++ ys) ≡ filter p xs ++ filter p ys
          → (if b then x ∷ filter p (xs ++ ys) else filter p (xs ++ ys)) ≡ (if b then x ∷ filter p xs else filter p xs) ++ filter p ys
      by true both = ap (λ (l : List X). x ∷ l) both
      by false both = both

  filter_yes : (x : X) (xs : List X) → p x ≡ true → filter p (x ∷ xs) ≡ x ∷ filter p xs
  filter_yes x xs is = ap (λ (b : Bool). if b then x ∷ filter p xs else filter p xs) is

  filter_no : (x : X) (xs : List X) → p x ≡ false → filter p (x ∷ xs) ≡ filter p xs
  filter_no x xs is = ap (λ (b : Bool). if b then x ∷ filter p xs else filter p xs) is

  -- where none is so, the others are all
  filter_others : (xs : List X) → filter p xs ≡ [] → filter (λ (x : X). not (p x)) xs ≡ xs
  filter_others [] none = refl
  filter_others (x ∷ xs) none = by (filter_others xs) (p x) refl none
    where
      by : (filter p xs ≡ [] → filter (λ (y : X). not (p y)) xs ≡ xs) → (b : Bool) → p x ≡ b
          → (if b then x ∷ filter p xs else filter p xs) ≡ []
          → (if not b then x ∷ filter (λ (y : X). not (p y)) xs else filter (λ (y : X). not (p y)) xs) ≡ x ∷ xs
      by rest true is none = absurd (never none)
        where
          never : x ∷ filter p xs ≡ [] → ⊥
          never e = cc
      by rest false is none = ap (λ (l : List X). x ∷ l) (rest none)

  nothing_behind : (xs : List X) → xs ++ [] ≡ xs
  nothing_behind [] = refl
  nothing_behind (x ∷ xs) = ap (λ (l : List X). x ∷ l) (nothing_behind xs)

  put_in : (xs : List X) (x : X) (ys : List X) → xs ++ x ∷ ys ≡ (xs ++ x ∷ []) ++ ys
  put_in [] x ys = refl
  put_in (z ∷ xs) x ys = ap (λ (l : List X). z ∷ l) (put_in xs x ys)

  length_put : (xs : List X) (x : X) → length (xs ++ x ∷ []) ≡ length xs + 1
  length_put [] x = refl
  length_put (z ∷ xs) x = omega (arith, length_put xs x)

-- ---- what is taken

module _ {L : Type 0} (bound : ℕ) where
  pub taken_ready : (old new : List (RetiredFile L)) (file : RetiredFile L) → IsTaken bound old new file
      → ready bound old ≡ file ∷ ready bound new
  taken_ready old new file is = ap (ready bound) is.old_are ∙ filter_both (is_up_to bound) is.before (file ∷ is.behind)
      ∙ ap (λ (l : List (RetiredFile L)). l ++ filter (is_up_to bound) (file ∷ is.behind)) is.held
      ∙ filter_yes (is_up_to bound) file is.behind is.free
      ∙ ap (λ (l : List (RetiredFile L)). file ∷ l ++ filter (is_up_to bound) is.behind) (sym is.held)
      ∙ ap (λ (l : List (RetiredFile L)). file ∷ l)
      (sym (filter_both (is_up_to bound) is.before is.behind) ∙ ap (ready bound) (sym is.new_are))

  pub taken_held : (old new : List (RetiredFile L)) (file : RetiredFile L) → IsTaken bound old new file
      → held bound old ≡ held bound new
  taken_held old new file is = ap (held bound) is.old_are ∙ filter_both other is.before (file ∷ is.behind)
      ∙ ap (λ (l : List (RetiredFile L)). filter other is.before ++ l) (filter_no other file is.behind (ap not is.free))
      ∙ sym (filter_both other is.before is.behind) ∙ ap (held bound) (sym is.new_are)
    where
      other : RetiredFile L → Bool
      other x = not (is_up_to bound x)

-- ---- what has gone

module _ {D W : Type 0} (g : Ghosts D) (w : Writers W) {s : _} where
  pub removes_more : (went : List (RetiredFile (Lent W s))) (file : RetiredFile (Lent W s)) (old mid new : D)
      → RemovesAll g w went old mid → RemovesOne g w file mid new (Ok tt) → RemovesAll g w (went ++ file ∷ []) old new
  removes_more [] file old mid new all one = (new, subst (λ (d : D). RemovesOne g w file d new (Ok tt)) all one, refl)
  removes_more (x ∷ went) file old mid new all one = (all.0, all.1, removes_more went file all.0 mid new all.2 one)

  -- These files went, and those that are still ready wait, as the others do.
  pub record HasGone (bound : ℕ) (before now : List (RetiredFile (Lent W s))) (old new : D) (count : ℕ) : Type 0 where
    pub went : List (RetiredFile (Lent W s))
    pub parts : ready bound before ≡ went ++ ready bound now
    pub others : held bound before ≡ held bound now
    pub removes : RemovesAll g w went old new
    pub counted : count ≡ length went

  pub none_gone : (bound : ℕ) (before : List (RetiredFile (Lent W s))) (disk : D) → HasGone bound before before disk disk 0
  none_gone bound before disk = record { went = []; parts = refl; others = refl; removes = refl; counted = refl }

  module _ (bound : ℕ) (before now : List (RetiredFile (Lent W s))) (old mid : D) (count : ℕ)
      (gone : HasGone bound before now old mid count) where
    pub more_gone : (later : List (RetiredFile (Lent W s))) (file : RetiredFile (Lent W s)) (new : D) → IsTaken bound now later file
        → RemovesOne g w file mid new (Ok tt) → HasGone bound before later old new (count + 1)
    more_gone later file new taken one = record {
      went = gone.went ++ file ∷ [];
      parts = gone.parts ∙ ap (λ (l : List (RetiredFile (Lent W s))). gone.went ++ l) (taken_ready bound now later file taken)
          ∙ put_in (is_up_to bound) gone.went file (ready bound later);
      others = gone.others ∙ taken_held bound now later file taken;
      removes = removes_more gone.went file old mid new gone.removes one;
      counted = ap (λ (n : ℕ). n + 1) gone.counted ∙ sym (length_put (is_up_to bound) gone.went file);
    }

    -- where none is ready any more all went
    pub all_went : filter (is_up_to bound) now ≡ [] → gone.went ≡ ready bound before
    all_went none = sym (gone.parts ∙ ap (λ (l : List (RetiredFile (Lent W s))). gone.went ++ l) none
        ∙ nothing_behind (is_up_to bound) gone.went)

    pub all_wait : filter (is_up_to bound) now ≡ [] → now ≡ held bound before
    all_wait none = sym (gone.others ∙ filter_others (is_up_to bound) now none)

    -- So the sweep has ended,
    pub has_swept : (version : ℕ) (kept left : Removing (Lent W s)) → kept.stock.trash.items ≡ before
        → IsNoneTaken bound now left.stock.trash.items → left.stock.in_use ≡ kept.stock.in_use
        → deque_capacity left.stock.trash ≡ deque_capacity kept.stock.trash → PinsStay version kept.pins left.pins
        → HasSwept g w bound version old mid kept left count
    has_swept version kept left is_before none in_use capacity pins = record {
      counted = gone.counted ∙ ap length (all_went none.held ∙ ap (ready bound) (sym is_before));
      removes = subst (λ (l : List (RetiredFile (Lent W s))). RemovesAll g w l old mid)
          (all_went none.held ∙ ap (ready bound) (sym is_before)) gone.removes;
      waiting = none.same ∙ all_wait none.held ∙ ap (held bound) (sym is_before);
      in_use = in_use;
      capacity = capacity;
      pins = pins;
    }

    -- or has failed at the next.
    pub stops_gone : (later : List (RetiredFile (Lent W s))) (file : RetiredFile (Lent W s)) (new : D) (failed : Failed)
        → IsTaken bound now later file → RemovesOne g w file mid new (Err failed)
        → StopsRemoving g w (ready bound before) old new file.name
    stops_gone later file new failed taken one = record {
      before = gone.went;
      at = file;
      behind = ready bound later;
      files_are = gone.parts ∙ ap (λ (l : List (RetiredFile (Lent W s))). gone.went ++ l) (taken_ready bound now later file taken);
      name_is = refl;
      mid = mid;
      went = gone.removes;
      failed = failed;
      stops = one;
    }

-- ---- what is kept then

at_place : {X : Type 0} (P : X → Type 0) (xs : List X) (x : X) (ys : List X) → AllByRecursion P (xs ++ x ∷ ys) → P x
at_place P [] x ys all = all.0
at_place P (z ∷ xs) x ys all = at_place P xs x ys all.1

module _ {D W H : Type 0} (g : Ghosts D) (w : Writers W) {s : _} (core : Core H) (merging : Option OpenMerge)
    (stock left : Stock (Lent W s)) (bound : ℕ) (file : RetiredFile (Lent W s))
    (taken : IsTaken bound stock.trash.items left.trash.items file) (old : D) (is : IsThere g w old core merging stock) where
  pub taken_waits : IsWaiting g w old core.back.state.next_table file
  taken_waits = at_place (IsWaiting g w old core.back.state.next_table) taken.before file taken.behind
      (subst (AllByRecursion (IsWaiting g w old core.back.state.next_table)) taken.old_are
      (recursion_from_All (IsWaiting g w old core.back.state.next_table) stock.trash.items is.waiting))

  module _ (in_use : left.in_use ≡ stock.in_use) (new : D) (result : Result (Unit {0}) Failed) (one : RemovesOne g w file old new result)
    where
      goes : Goes g (is_some file.lent) file.name old new
      goes = one_goes g w file old new result (λ lent some. (taken_waits.left lent some).tells) one

      pub taken_there : deque_len left.trash + 1 ≡ deque_len stock.trash → deque_capacity left.trash ≡ deque_capacity stock.trash
          → IsThere g w new core merging left
      taken_there len capacity = there_on g w core merging taken.before taken.behind file stock left taken.old_are taken.new_are in_use
          old new goes is (omega (arith, len)) capacity

      pub taken_lent : AreLent g old core.back.state.next_table merging → AreLent g new core.back.state.next_table merging
      taken_lent = lent_still g w core merging taken.before taken.behind file stock left taken.old_are taken.new_are in_use
          old new goes is

      pub taken_fit : ForSome (g.told old) (IsFitFor core) → ForSome (g.told new) (IsFitFor core)
      taken_fit = fit_still g w core merging taken.before taken.behind file stock left taken.old_are taken.new_are in_use
          old new goes is
