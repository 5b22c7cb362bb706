-- What the engine keeps is so behind the removal of a retired file.
use Rattle.std.specs.Prelude.{◌≡◌, ◌≢◌, ◌≤◌, ◌==◌, ◌&&◌, ◌||◌, ◌++◌, not, ℕ, All, Bool, IsTrue, List, [], ◌∷◌, map}
use Rattle.std.specs.Prelude.{Option, None, Some, is_some, true, false, refl}
use Rattle.std.specs.FinMap.{get}
use Rattle.std.specs.List.{AllByRecursion}
use Rattle.std.specs.Option.{ForSome}
use Rattle.std.specs.VecDeque.{deque_capacity, deque_len}
use Rattle.std.proofs.Common.{sym, subst, ap, ◌∙◌, arith}
use Rattle.std.proofs.lemmas.Bool.{eq-eqb, eqb-true}
use Rattle.std.proofs.lemmas.List.Elements.{All-from_recursion, recursion_from_All}
use Rattle.vl_compact.specs.declared.files.Lent.{Lent}
use Rattle.vl_engine_laws.specs.Fit.{IsFitFor}
use Rattle.vl_engine_laws.specs.Represents.{file_of}
use Rattle.vl_engine_laws.specs.declared.kept.Core.{Core}
use Rattle.vl_disk.specs.Disk.{IsFree, Stands}
use Rattle.vl_disk.specs.DiskState.{DiskState}
use Rattle.vl_disk.specs.declared.name.Name.{Name}
use Rattle.vl_disk.specs.declared.name.Name.TheVariants.{Log, Manifest, Table}
use Rattle.vl_disk.specs.declared.watched.Watched.{Ghosts}
use Rattle.vl_disk.specs.declared.writer.Writer.{Ghosts as Writers}
use Rattle.vl_space.specs.laws.There.Going.{Goes}
use Rattle.vl_space.specs.laws.There.Kept.{stands_not_free, told_before}
use Rattle.vl_engine_laws.specs.Lent.{AreLent, IsLent}
use Rattle.vl_space.specs.Removing.{HasInUse, IsThere, IsWaiting, are_distinct, are_unused, is_none_of, is_unused}
use Rattle.vl_engine_laws.specs.Lent.{lent_in}
use Rattle.vl_space.specs.Removing.{logs_in_use, numbers_left, standing_names, tables_in_use, with_number, with_standing}
use Rattle.vl_engine_laws.specs.declared.open.OpenMerge.{OpenMerge}
use Rattle.vl_engine_model.specs.Rulings.Sweep.{is_same}
use Rattle.vl_engine_model.specs.Stock.{is_in}
use Rattle.vl_model.specs.Numbers.{has}
use Rattle.vl_pins.specs.declared.retired_file.RetiredFile.{RetiredFile}
use Rattle.vl_pins.specs.declared.stock.Stock.{Stock}

-- ---- lists of names and of numbers

false_true : false ≡ true → ⊥
false_true e = cc

and_left : (a b : Bool) → (a && b) ≡ true → a ≡ true
and_left true b is = refl
and_left false b is = is

and_right : (a b : Bool) → (a && b) ≡ true → b ≡ true
and_right true b is = is
and_right false b is = absurd (never is)
  where
    never : false ≡ true → ⊥
    never e = cc

and_both : (a b : Bool) → a ≡ true → b ≡ true → (a && b) ≡ true
and_both true b a_is b_is = b_is
and_both false b a_is b_is = a_is

not_true : (a : Bool) → not a ≡ true → a ≡ true → ⊥
not_true true is was = cc
not_true false is was = cc

not_so : (a : Bool) → (a ≡ true → ⊥) → not a ≡ true
not_so true never = absurd (never refl)
not_so false never = refl

or_right : (a b : Bool) → b ≡ true → (a || b) ≡ true
or_right true b is = refl
or_right false b is = is

or_left : (a b : Bool) → a ≡ true → (a || b) ≡ true
or_left true b is = refl
or_left false b is = absurd (never is)
  where
    never : false ≡ true → ⊥
    never e = cc

or_then : (a b c : Bool) → (b ≡ true → c ≡ true) → (a || b) ≡ true → (a || c) ≡ true
or_then true b c then is = refl
or_then false b c then is = then is

-- what is among fewer is among more
has_between : (n m : ℕ) (xs ys : List ℕ) → has n (xs ++ ys) ≡ true → has n (xs ++ m ∷ ys) ≡ true
has_between n m [] ys is = or_right (m == n) (has n ys) is
has_between n m (x ∷ xs) ys is = or_then (x == n) (has n (xs ++ ys)) (has n (xs ++ m ∷ ys)) (has_between n m xs ys) is

has_at : (n : ℕ) (xs ys : List ℕ) → has n (xs ++ n ∷ ys) ≡ true
has_at n [] ys = or_left (n == n) (has n ys) (eq-eqb n n refl)
has_at n (x ∷ xs) ys = or_right (x == n) (has n (xs ++ n ∷ ys)) (has_at n xs ys)

distinct_without : (m : ℕ) (xs ys : List ℕ) → are_distinct (xs ++ m ∷ ys) ≡ true → are_distinct (xs ++ ys) ≡ true
distinct_without m [] ys is = and_right (not (has m ys)) (are_distinct ys) is
distinct_without m (x ∷ xs) ys is = and_both (not (has x (xs ++ ys))) (are_distinct (xs ++ ys))
    (not_so (has x (xs ++ ys)) (λ (there : has x (xs ++ ys) ≡ true). not_true (has x (xs ++ m ∷ ys))
    (and_left (not (has x (xs ++ m ∷ ys))) (are_distinct (xs ++ m ∷ ys)) is) (has_between x m xs ys there)))
    (distinct_without m xs ys (and_right (not (has x (xs ++ m ∷ ys))) (are_distinct (xs ++ m ∷ ys)) is))

-- the one between is none of the others
distinct_apart : (m : ℕ) (xs ys : List ℕ) → are_distinct (xs ++ m ∷ ys) ≡ true → has m (xs ++ ys) ≡ true → ⊥
distinct_apart m [] ys is there = not_true (has m ys) (and_left (not (has m ys)) (are_distinct ys) is) there
distinct_apart m (x ∷ xs) ys is there = by (distinct_apart m xs ys (and_right (not (has x (xs ++ m ∷ ys)))
    (are_distinct (xs ++ m ∷ ys)) is)) (x == m) refl there
  where
    by : (has m (xs ++ ys) ≡ true → ⊥) → (b : Bool) → (x == m) ≡ b → (b || has m (xs ++ ys)) ≡ true → ⊥
    by later true same there = not_true (has x (xs ++ m ∷ ys)) (and_left (not (has x (xs ++ m ∷ ys))) (are_distinct (xs ++ m ∷ ys)) is)
        (subst (λ (k : ℕ). has k (xs ++ m ∷ ys) ≡ true) (sym (eqb-true x m same)) (has_at m xs ys))
    by later false same there = later there

-- ---- names

abbrev pub IsNamed : Name → List Name → Bool
IsNamed n ns = is_in (file_of n) (map file_of ns)

same_named : (n : Name) → is_same (file_of n) (file_of n) ≡ true
same_named (Log n) = eq-eqb n n refl
same_named (Table n) = eq-eqb n n refl
same_named (Manifest n) = eq-eqb n n refl

same_name : (a b : Name) → is_same (file_of a) (file_of b) ≡ true → a ≡ b
same_name (Log a) (Log b) is = ap Log (eqb-true a b is)
same_name (Log a) (Table b) is = absurd (false_true is)
same_name (Log a) (Manifest b) is = absurd (false_true is)
same_name (Table a) (Log b) is = absurd (false_true is)
same_name (Table a) (Table b) is = ap Table (eqb-true a b is)
same_name (Table a) (Manifest b) is = absurd (false_true is)
same_name (Manifest a) (Log b) is = absurd (false_true is)
same_name (Manifest a) (Table b) is = absurd (false_true is)
same_name (Manifest a) (Manifest b) is = ap Manifest (eqb-true a b is)

named_between : (n m : Name) (xs ys : List Name) → IsNamed n (xs ++ ys) ≡ true → IsNamed n (xs ++ m ∷ ys) ≡ true
named_between n m [] ys is = or_right (is_same (file_of n) (file_of m)) (IsNamed n ys) is
named_between n m (x ∷ xs) ys is = or_then (is_same (file_of n) (file_of x)) (IsNamed n (xs ++ ys)) (IsNamed n (xs ++ m ∷ ys))
    (named_between n m xs ys) is

named_at : (n : Name) (xs ys : List Name) → IsNamed n (xs ++ n ∷ ys) ≡ true
named_at n [] ys = or_left (is_same (file_of n) (file_of n)) (IsNamed n ys) (same_named n)
named_at n (x ∷ xs) ys = or_right (is_same (file_of n) (file_of x)) (IsNamed n (xs ++ n ∷ ys)) (named_at n xs ys)

module _ (active : ℕ) (tables logs : List ℕ) where
  unused_head : (x : Name) (xs : List Name) → are_unused active tables logs (x ∷ xs) ≡ true → is_unused active tables logs x ≡ true
  unused_head x xs is = and_left (is_unused active tables logs x) (not (IsNamed x xs))
      (and_left (is_unused active tables logs x && not (IsNamed x xs)) (are_unused active tables logs xs) is)

  unused_once : (x : Name) (xs : List Name) → are_unused active tables logs (x ∷ xs) ≡ true → IsNamed x xs ≡ true → ⊥
  unused_once x xs is = not_true (IsNamed x xs) (and_right (is_unused active tables logs x) (not (IsNamed x xs))
      (and_left (is_unused active tables logs x && not (IsNamed x xs)) (are_unused active tables logs xs) is))

  unused_tail : (x : Name) (xs : List Name) → are_unused active tables logs (x ∷ xs) ≡ true → are_unused active tables logs xs ≡ true
  unused_tail x xs is = and_right (is_unused active tables logs x && not (IsNamed x xs)) (are_unused active tables logs xs) is

  unused_without : (n : Name) (xs ys : List Name) → are_unused active tables logs (xs ++ n ∷ ys) ≡ true
      → are_unused active tables logs (xs ++ ys) ≡ true
  unused_without n [] ys is = unused_tail n ys is
  unused_without n (x ∷ xs) ys is = and_both (is_unused active tables logs x && not (IsNamed x (xs ++ ys)))
      (are_unused active tables logs (xs ++ ys))
      (and_both (is_unused active tables logs x) (not (IsNamed x (xs ++ ys))) (unused_head x (xs ++ n ∷ ys) is)
      (not_so (IsNamed x (xs ++ ys)) (λ (there : IsNamed x (xs ++ ys) ≡ true).
      unused_once x (xs ++ n ∷ ys) is (named_between x n xs ys there))))
      (unused_without n xs ys (unused_tail x (xs ++ n ∷ ys) is))

  unused_at : (n : Name) (xs ys : List Name) → are_unused active tables logs (xs ++ n ∷ ys) ≡ true → is_unused active tables logs n ≡ true
  unused_at n [] ys is = unused_head n ys is
  unused_at n (x ∷ xs) ys is = unused_at n xs ys (unused_tail x (xs ++ n ∷ ys) is)

  unused_apart : (n : Name) (xs ys : List Name) → are_unused active tables logs (xs ++ n ∷ ys) ≡ true → IsNamed n (xs ++ ys) ≡ true → ⊥
  unused_apart n [] ys is there = unused_once n ys is there
  unused_apart n (x ∷ xs) ys is there = by (unused_apart n xs ys (unused_tail x (xs ++ n ∷ ys) is))
      (is_same (file_of n) (file_of x)) refl there
    where
      by : (IsNamed n (xs ++ ys) ≡ true → ⊥) → (b : Bool) → is_same (file_of n) (file_of x) ≡ b → (b || IsNamed n (xs ++ ys)) ≡ true → ⊥
      by later true same there = unused_once x (xs ++ n ∷ ys) is
          (subst (λ (k : Name). IsNamed k (xs ++ n ∷ ys) ≡ true) (same_name n x same) (named_at n xs ys))
      by later false same there = later there

-- ---- files that wait

module _ {W : Type 0} {s : _} where
  standing_apart : (name : Name) (lent : Option (Lent W s)) (xs ys : List Name)
      → with_standing name lent (xs ++ ys) ≡ with_standing name lent xs ++ ys
  standing_apart name None xs ys = refl
  standing_apart name (Some f) xs ys = refl

  number_apart : (lent : Option (Lent W s)) (xs ys : List ℕ) → with_number lent (xs ++ ys) ≡ with_number lent xs ++ ys
  number_apart None xs ys = refl
  number_apart (Some f) xs ys = refl

  pub standing_both : (xs ys : List (RetiredFile (Lent W s))) → standing_names (xs ++ ys) ≡ standing_names xs ++ standing_names ys
  standing_both [] ys = refl
  standing_both (x ∷ xs) ys = ap (with_standing x.name x.lent) (standing_both xs ys)
      ∙ standing_apart x.name x.lent (standing_names xs) (standing_names ys)

  pub numbers_both : (xs ys : List (RetiredFile (Lent W s))) → numbers_left (xs ++ ys) ≡ numbers_left xs ++ numbers_left ys
  numbers_both [] ys = refl
  numbers_both (x ∷ xs) ys = ap (with_number x.lent) (numbers_both xs ys) ∙ number_apart x.lent (numbers_left xs) (numbers_left ys)

  -- it is among those that stand, or that were lent
  record IsMember (all : List (RetiredFile (Lent W s))) (file : RetiredFile (Lent W s)) : Type 0 where
    standing : file.lent ≡ None → IsNamed file.name (standing_names all) ≡ true
    lent : (x : Lent W s) → file.lent ≡ Some x → has x.number (numbers_left all) ≡ true

  named_more : (n m : Name) (lent : Option (Lent W s)) (ns : List Name) → IsNamed n ns ≡ true → IsNamed n (with_standing m lent ns) ≡ true
  named_more n m None ns is = or_right (is_same (file_of n) (file_of m)) (IsNamed n ns) is
  named_more n m (Some f) ns is = is

  has_more : (n : ℕ) (lent : Option (Lent W s)) (ns : List ℕ) → has n ns ≡ true → has n (with_number lent ns) ≡ true
  has_more n None ns is = is
  has_more n (Some f) ns is = or_right (f.number == n) (has n ns) is

  member_here : (file : RetiredFile (Lent W s)) (files : List (RetiredFile (Lent W s))) → IsMember (file ∷ files) file
  member_here file files = record {
    standing = λ none. subst (λ (o : Option (Lent W s)). IsNamed file.name (with_standing file.name o (standing_names files)) ≡ true)
        (sym none) (named_at file.name [] (standing_names files));
    lent = λ x some. subst (λ (o : Option (Lent W s)). has x.number (with_number o (numbers_left files)) ≡ true)
        (sym some) (has_at x.number [] (numbers_left files));
  }

  members_more : (file : RetiredFile (Lent W s)) (all files : List (RetiredFile (Lent W s))) → AllByRecursion (IsMember all) files
      → AllByRecursion (IsMember (file ∷ all)) files
  members_more file all [] are = tt
  members_more file all (f ∷ files) are = (
    record {
      standing = λ none. named_more f.name file.name file.lent (standing_names all) (are.0.standing none);
      lent = λ x some. has_more x.number file.lent (numbers_left all) (are.0.lent x some);
    },
    members_more file all files are.1,
  )

  members : (files : List (RetiredFile (Lent W s))) → AllByRecursion (IsMember files) files
  members [] = tt
  members (f ∷ files) = (member_here f files, members_more f files files (members files))

all_without : {X : Type 0} (P : X → Type 0) (xs : List X) (x : X) (ys : List X) → AllByRecursion P (xs ++ x ∷ ys)
    → P x × AllByRecursion P (xs ++ ys)
all_without P [] x ys all = all
all_without P (z ∷ xs) x ys all = let rest = all_without P xs x ys all.1 in (rest.0, (all.0, rest.1))

all_of : {X : Type 0} (P Q R : X → Type 0) → ((x : X) → P x → Q x → R x) → (xs : List X) → AllByRecursion P xs → AllByRecursion Q xs
    → AllByRecursion R xs
all_of P Q R both [] p q = tt
all_of P Q R both (x ∷ xs) p q = (both x p.0 q.0, all_of P Q R both xs p.1 q.1)

-- ---- one goes

module _ {D W : Type 0} (g : Ghosts D) (w : Writers W) {s : _} {H : Type 0} (core : Core H) (merging : Option OpenMerge)
    (before behind : List (RetiredFile (Lent W s))) (file : RetiredFile (Lent W s)) (stock left : Stock (Lent W s))
    (stock_is : stock.trash.items ≡ before ++ file ∷ behind) (left_is : left.trash.items ≡ before ++ behind)
    (in_use : left.in_use ≡ stock.in_use) (old new : D) (goes : Goes g (is_some file.lent) file.name old new)
    (is : IsThere g w old core merging stock) where
  abbrev pub next : ℕ
  next = core.back.state.next_table

  waits : IsWaiting g w old next file × AllByRecursion (IsWaiting g w old next) (before ++ behind)
  waits = all_without (IsWaiting g w old next) before file behind (subst (AllByRecursion (IsWaiting g w old next)) stock_is
      (recursion_from_All (IsWaiting g w old next) stock.trash.items is.waiting))

  -- What stood under another name stands,
  stands_on : (name : Name) (was now : DiskState) → g.told old ≡ Some was → g.told new ≡ Some now → name ≢ file.name
      → Stands name was → Stands name now
  stands_on name was now is_was is_now apart stands =
      ap is_some ((goes.beside was now is_was is_now).standing name apart) ∙ stands

  -- and what stood isn't free: so a name that was free isn't that of a file that stood.
  free_apart : (name : Name) (was : DiskState) → g.told old ≡ Some was → IsFree name was → file.lent ≡ None → name ≢ file.name
  free_apart name was is_was free none same = stands_not_free (get was.standing file.name) (waits.0.stands none was is_was)
      (sym (ap (get was.standing) same) ∙ free)

  -- the name of one that was lent
  lent_name : (x : Lent W s) → file.lent ≡ Some x → file.name ≡ Table x.number
  lent_name x some = waits.0.named x some

  apart_table : (n m : ℕ) → (n ≡ m → ⊥) → Table n ≡ Table m → ⊥
  apart_table n m apart same = apart cc

  free_on : (name : Name) → (is_some file.lent ≡ true → name ≢ file.name) → ForSome (g.told old) (IsFree name)
      → ForSome (g.told new) (IsFree name)
  free_on name apart free now is_now = let was = told_before (g.told old) (g.told new) now goes.untold is_now in
      let other : name ≢ file.name = by was.0 was.1 file.lent refl in
      (goes.beside was.0 now was.1 is_now).standing name other ∙ free was.0 was.1
    where
      by : (was : DiskState) → g.told old ≡ Some was → (o : Option (Lent W s)) → file.lent ≡ o → name ≢ file.name
      by was is_was None none = free_apart name was is_was (free was is_was) none
      by was is_was (Some x) some = apart (ap is_some some)

  -- A file that was lent stays so, if it is another one.
  lent_on : (n : ℕ) → (is_some file.lent ≡ true → Table n ≢ file.name) → IsLent g old next n → IsLent g new next n
  lent_on n apart lent = record {
    drawn = lent.drawn;
    room = subst IsTrue (sym (goes.room n apart)) lent.room;
    free = free_on (Table n) apart lent.free;
  }

  -- ---- numbers of files that were lent

  numbers_at : (o : Option (Lent W s)) → file.lent ≡ o → numbers_left stock.trash.items
      ≡ numbers_left before ++ with_number o (numbers_left behind)
  numbers_at o is_o = ap numbers_left stock_is ∙ numbers_both before (file ∷ behind)
      ∙ ap (λ (x : Option (Lent W s)). numbers_left before ++ with_number x (numbers_left behind)) is_o

  numbers_now : numbers_left left.trash.items ≡ numbers_left before ++ numbers_left behind
  numbers_now = ap numbers_left left_is ∙ numbers_both before behind

  assoc : {X : Type 0} (xs ys zs : List X) → (xs ++ ys) ++ zs ≡ xs ++ (ys ++ zs)
  assoc [] ys zs = refl
  assoc (x ∷ xs) ys zs = ap (λ (l : List _). x ∷ l) (assoc xs ys zs)

  -- the numbers before it
  abbrev front : List ℕ
  front = lent_in merging ++ numbers_left before

  distinct_at : (x : Lent W s) → file.lent ≡ Some x → are_distinct (front ++ x.number ∷ numbers_left behind) ≡ true
  distinct_at x some = ap are_distinct (assoc (lent_in merging) (numbers_left before) (x.number ∷ numbers_left behind)
      ∙ ap (λ (ns : List ℕ). lent_in merging ++ ns) (sym (numbers_at (Some x) some))) ∙ is.distinct

  now_front : front ++ numbers_left behind ≡ lent_in merging ++ numbers_left left.trash.items
  now_front = assoc (lent_in merging) (numbers_left before) (numbers_left behind)
      ∙ ap (λ (ns : List ℕ). lent_in merging ++ ns) (sym numbers_now)

  -- none of the others has its number
  apart_from : (n : ℕ) → has n (front ++ numbers_left behind) ≡ true → is_some file.lent ≡ true → Table n ≢ file.name
  apart_from n there is_lent = by file.lent refl is_lent
    where
      by : (o : Option (Lent W s)) → file.lent ≡ o → is_some o ≡ true → Table n ≢ file.name
      by None none never = absurd (false_true never)
      by (Some x) some lent = λ (same : Table n ≡ file.name). distinct_apart x.number front (numbers_left behind) (distinct_at x some)
          (subst (λ (m : ℕ). has m (front ++ numbers_left behind) ≡ true) (number_is (same ∙ lent_name x some)) there)
        where
          number_is : Table n ≡ Table x.number → n ≡ x.number
          number_is e = cc

  has_in_front : (n : ℕ) (xs ys : List ℕ) → has n xs ≡ true → has n (xs ++ ys) ≡ true
  has_in_front n [] ys is = absurd (false_true is)
  has_in_front n (x ∷ xs) ys is = or_then (x == n) (has n xs) (has n (xs ++ ys)) (has_in_front n xs ys) is

  has_behind : (n : ℕ) (xs ys : List ℕ) → has n ys ≡ true → has n (xs ++ ys) ≡ true
  has_behind n [] ys is = is
  has_behind n (x ∷ xs) ys is = or_right (x == n) (has n (xs ++ ys)) (has_behind n xs ys is)

  -- ---- those that wait

  standing_at : file.lent ≡ None → standing_names stock.trash.items ≡ standing_names before ++ file.name ∷ standing_names behind
  standing_at none = ap standing_names stock_is ∙ standing_both before (file ∷ behind)
      ∙ ap (λ (x : Option (Lent W s)). standing_names before ++ with_standing file.name x (standing_names behind)) none

  standing_lent : (x : Lent W s) → file.lent ≡ Some x → standing_names stock.trash.items
      ≡ standing_names before ++ standing_names behind
  standing_lent x some = ap standing_names stock_is ∙ standing_both before (file ∷ behind)
      ∙ ap (λ (o : Option (Lent W s)). standing_names before ++ with_standing file.name o (standing_names behind)) some

  standing_now : standing_names left.trash.items ≡ standing_names before ++ standing_names behind
  standing_now = ap standing_names left_is ∙ standing_both before behind

  other_name : (f : RetiredFile (Lent W s)) (was : DiskState) → g.told old ≡ Some was → IsMember (before ++ behind) f → f.lent ≡ None
      → Stands f.name was → f.name ≢ file.name
  other_name f was is_was member none stands same = by file.lent refl
    where
      has_use : HasInUse core stock was
      has_use = is.files was is_was

      by : (o : Option (Lent W s)) → file.lent ≡ o → ⊥
      by None stood = unused_apart core.front.log.number (tables_in_use core.version stock.in_use) (logs_in_use core.version stock.in_use)
          file.name (standing_names before) (standing_names behind)
          (subst (λ (ns : List Name). are_unused core.front.log.number (tables_in_use core.version stock.in_use)
          (logs_in_use core.version stock.in_use) ns ≡ true) (standing_at stood) has_use.unused)
          (subst (λ (ns : List Name). IsNamed file.name ns ≡ true) (standing_both before behind)
          (subst (λ (n : Name). IsNamed n (standing_names (before ++ behind)) ≡ true) same (member.standing none)))
      by (Some x) some = stands_not_free (get was.standing f.name) stands
          (ap (get was.standing) (same ∙ lent_name x some) ∙ (waits.0.left x some).lent.free was is_was)

  waits_on : (f : RetiredFile (Lent W s)) → IsWaiting g w old next f → IsMember (before ++ behind) f → IsWaiting g w new next f
  waits_on f waiting member = record {
    stands = λ none now is_now. let was = told_before (g.told old) (g.told new) now goes.untold is_now in
        let stands = waiting.stands none was.0 was.1 in
        stands_on f.name was.0 now was.1 is_now (other_name f was.0 was.1 member none stands) stands;
    left = λ x some. let was = waiting.left x some in
        record {
          lent = lent_on x.number (apart_from x.number (subst (λ (ns : List ℕ). has x.number ns ≡ true)
              (sym (assoc (lent_in merging) (numbers_left before) (numbers_left behind)))
              (has_behind x.number (lent_in merging) (numbers_left before ++ numbers_left behind)
              (subst (λ (ns : List ℕ). has x.number ns ≡ true) (numbers_both before behind) (member.lent x some))))) was.lent;
          tells = λ now is_now. let told = told_before (g.told old) (g.told new) now goes.untold is_now in was.tells told.0 told.1;
        };
    named = waiting.named;
  }

  waiting_on : All (IsWaiting g w new next) left.trash.items
  waiting_on = subst (All (IsWaiting g w new next)) (sym left_is) (All-from_recursion (IsWaiting g w new next) (before ++ behind)
      (all_of (IsWaiting g w old next) (IsMember (before ++ behind)) (IsWaiting g w new next) waits_on (before ++ behind) waits.1
      (members (before ++ behind))))

  distinct_on : are_distinct (lent_in merging ++ numbers_left left.trash.items) ≡ true
  distinct_on = ap are_distinct (sym now_front) ∙ by file.lent refl
    where
      by : (o : Option (Lent W s)) → file.lent ≡ o → are_distinct (front ++ numbers_left behind) ≡ true
      by None none = ap are_distinct (assoc (lent_in merging) (numbers_left before) (numbers_left behind)
          ∙ ap (λ (ns : List ℕ). lent_in merging ++ ns) (sym (numbers_at None none))) ∙ is.distinct
      by (Some x) some = distinct_without x.number front (numbers_left behind) (distinct_at x some)

  -- ---- the files in use

  tables_apart : (n : ℕ) → has n (tables_in_use core.version stock.in_use) ≡ true → (was : DiskState) → g.told old ≡ Some was
      → Stands (Table n) was → Table n ≢ file.name
  tables_apart n there was is_was stands same = by file.lent refl
    where
      has_use : HasInUse core stock was
      has_use = is.files was is_was

      by : (o : Option (Lent W s)) → file.lent ≡ o → ⊥
      by None stood = not_true (has n (tables_in_use core.version stock.in_use))
          (subst (λ (name : Name). is_unused core.front.log.number (tables_in_use core.version stock.in_use)
          (logs_in_use core.version stock.in_use) name ≡ true) (sym same)
          (unused_at core.front.log.number (tables_in_use core.version stock.in_use) (logs_in_use core.version stock.in_use) file.name
          (standing_names before) (standing_names behind)
          (subst (λ (ns : List Name). are_unused core.front.log.number (tables_in_use core.version stock.in_use)
          (logs_in_use core.version stock.in_use) ns ≡ true) (standing_at stood) has_use.unused))) there
      by (Some x) some = stands_not_free (get was.standing (Table n)) stands
          (ap (get was.standing) (same ∙ lent_name x some) ∙ (waits.0.left x some).lent.free was is_was)

  log_apart : (n : ℕ) → (x : Lent W s) → file.lent ≡ Some x → Log n ≢ file.name
  log_apart n x some same = never (same ∙ lent_name x some)
    where
      never : Log n ≡ Table x.number → ⊥
      never e = cc

  logs_apart : (n : ℕ) → has n (logs_in_use core.version stock.in_use) ≡ true → (was : DiskState) → g.told old ≡ Some was
      → Log n ≢ file.name
  logs_apart n there was is_was same = by file.lent refl
    where
      has_use : HasInUse core stock was
      has_use = is.files was is_was

      by : (o : Option (Lent W s)) → file.lent ≡ o → ⊥
      by None stood = not_true (has n (logs_in_use core.version stock.in_use))
          (and_left (not (has n (logs_in_use core.version stock.in_use))) (not (n == core.front.log.number))
          (subst (λ (name : Name). is_unused core.front.log.number (tables_in_use core.version stock.in_use)
          (logs_in_use core.version stock.in_use) name ≡ true) (sym same)
          (unused_at core.front.log.number (tables_in_use core.version stock.in_use) (logs_in_use core.version stock.in_use) file.name
          (standing_names before) (standing_names behind)
          (subst (λ (ns : List Name). are_unused core.front.log.number (tables_in_use core.version stock.in_use)
          (logs_in_use core.version stock.in_use) ns ≡ true) (standing_at stood) has_use.unused)))) there
      by (Some x) some = log_apart n x some same

  active_apart : (was : DiskState) → g.told old ≡ Some was → Log core.front.log.number ≢ file.name
  active_apart was is_was same = by file.lent refl
    where
      active : ℕ
      active = core.front.log.number

      has_use : HasInUse core stock was
      has_use = is.files was is_was

      by : (o : Option (Lent W s)) → file.lent ≡ o → ⊥
      by None stood = not_true (active == active)
          (and_right (not (has active (logs_in_use core.version stock.in_use))) (not (active == active))
          (subst (λ (name : Name). is_unused active (tables_in_use core.version stock.in_use)
          (logs_in_use core.version stock.in_use) name ≡ true) (sym same)
          (unused_at active (tables_in_use core.version stock.in_use) (logs_in_use core.version stock.in_use) file.name
          (standing_names before) (standing_names behind)
          (subst (λ (ns : List Name). are_unused active (tables_in_use core.version stock.in_use)
          (logs_in_use core.version stock.in_use) ns ≡ true) (standing_at stood) has_use.unused)))) (eq-eqb active active refl)
      by (Some x) some = log_apart active x some same

  manifest_apart : (n : ℕ) (was : DiskState) → g.told old ≡ Some was → Manifest n ≢ file.name
  manifest_apart n was is_was same = by file.lent refl
    where
      has_use : HasInUse core stock was
      has_use = is.files was is_was

      by : (o : Option (Lent W s)) → file.lent ≡ o → ⊥
      by None stood = false_true (subst (λ (name : Name). is_unused core.front.log.number (tables_in_use core.version stock.in_use)
          (logs_in_use core.version stock.in_use) name ≡ true) (sym same)
          (unused_at core.front.log.number (tables_in_use core.version stock.in_use) (logs_in_use core.version stock.in_use) file.name
          (standing_names before) (standing_names behind)
          (subst (λ (ns : List Name). are_unused core.front.log.number (tables_in_use core.version stock.in_use)
          (logs_in_use core.version stock.in_use) ns ≡ true) (standing_at stood) has_use.unused)))
      by (Some x) some = never (same ∙ lent_name x some)
        where
          never : Manifest n ≡ Table x.number → ⊥
          never e = cc

  members_in : (ns : List ℕ) → AllByRecursion (λ (n : ℕ). has n ns ≡ true) ns
  members_in [] = tt
  members_in (n ∷ ns) = (has_at n [] ns, more n ns ns (members_in ns))
    where
      more : (m : ℕ) (all ms : List ℕ) → AllByRecursion (λ (n : ℕ). has n all ≡ true) ms
          → AllByRecursion (λ (n : ℕ). has n (m ∷ all) ≡ true) ms
      more m all [] are = tt
      more m all (k ∷ ms) are = (or_right (m == k) (has k all) are.0, more m all ms are.1)

  files_on : ForSome (g.told new) (HasInUse core left)
  files_on now is_now = let was = told_before (g.told old) (g.told new) now goes.untold is_now in
      let stood = is.files was.0 was.1 in
      record {
        tables = subst (λ (o : _). All (λ n. Stands (Table n) now) (tables_in_use core.version o)) (sym in_use)
            (All-from_recursion (λ n. Stands (Table n) now) (tables_in_use core.version stock.in_use)
            (all_of (λ n. Stands (Table n) was.0) (λ n. has n (tables_in_use core.version stock.in_use) ≡ true) (λ n. Stands (Table n) now)
            (λ n stands there. stands_on (Table n) was.0 now was.1 is_now (tables_apart n there was.0 was.1 stands) stands)
            (tables_in_use core.version stock.in_use)
            (recursion_from_All (λ n. Stands (Table n) was.0) (tables_in_use core.version stock.in_use) stood.tables)
            (members_in (tables_in_use core.version stock.in_use))));
        logs = subst (λ (o : _). All (λ n. Stands (Log n) now) (logs_in_use core.version o)) (sym in_use)
            (All-from_recursion (λ n. Stands (Log n) now) (logs_in_use core.version stock.in_use)
            (all_of (λ n. Stands (Log n) was.0) (λ n. has n (logs_in_use core.version stock.in_use) ≡ true) (λ n. Stands (Log n) now)
            (λ n stands there. stands_on (Log n) was.0 now was.1 is_now (logs_apart n there was.0 was.1) stands)
            (logs_in_use core.version stock.in_use)
            (recursion_from_All (λ n. Stands (Log n) was.0) (logs_in_use core.version stock.in_use) stood.logs)
            (members_in (logs_in_use core.version stock.in_use))));
        unused = subst (λ (o : _). are_unused core.front.log.number (tables_in_use core.version o) (logs_in_use core.version o)
            (standing_names left.trash.items) ≡ true) (sym in_use)
            (subst (λ (ns : List Name). are_unused core.front.log.number (tables_in_use core.version stock.in_use)
            (logs_in_use core.version stock.in_use) ns ≡ true) (sym standing_now) (by file.lent refl stood.unused));
        active = subst (λ (o : _). is_none_of core.front.log.number o ≡ true) (sym in_use) stood.active;
      }
    where
      by : (o : Option (Lent W s)) → file.lent ≡ o → are_unused core.front.log.number (tables_in_use core.version stock.in_use)
          (logs_in_use core.version stock.in_use) (standing_names stock.trash.items) ≡ true
          → are_unused core.front.log.number (tables_in_use core.version stock.in_use)
          (logs_in_use core.version stock.in_use) (standing_names before ++ standing_names behind) ≡ true
      by None none unused = unused_without core.front.log.number (tables_in_use core.version stock.in_use)
          (logs_in_use core.version stock.in_use) file.name (standing_names before) (standing_names behind)
          (subst (λ (ns : List Name). are_unused core.front.log.number (tables_in_use core.version stock.in_use)
          (logs_in_use core.version stock.in_use) ns ≡ true) (standing_at none) unused)
      by (Some x) some unused = subst (λ (ns : List Name). are_unused core.front.log.number (tables_in_use core.version stock.in_use)
          (logs_in_use core.version stock.in_use) ns ≡ true) (standing_lent x some) unused

  -- ---- all of it

  pub there_on : deque_len left.trash ≤ deque_len stock.trash → deque_capacity left.trash ≡ deque_capacity stock.trash
      → IsThere g w new core merging left
  there_on less capacity = record {
    waiting = waiting_on;
    distinct = distinct_on;
    room = let room = is.room in omega (arith, less, capacity, room);
    files = files_on;
  }

  -- The files that are lent to the open merge can be taken back,
  pub lent_still : AreLent g old next merging → AreLent g new next merging
  lent_still lent o some = All-from_recursion (IsLent g new next) o.lent.items
      (all_of (IsLent g old next) (λ n. has n o.lent.items ≡ true) (IsLent g new next)
      (λ n was there. lent_on n (apart_from n (has_in_front n front (numbers_left behind)
      (has_in_front n (lent_in merging) (numbers_left before)
      (subst (λ (m : Option OpenMerge). has n (lent_in m) ≡ true) (sym some) there)))) was)
      o.lent.items (recursion_from_All (IsLent g old next) o.lent.items (lent o some)) (members_in o.lent.items))

  -- and the next calls find what they ask.
  pub fit_still : ForSome (g.told old) (IsFitFor core) → ForSome (g.told new) (IsFitFor core)
  fit_still fit now is_now = let was = told_before (g.told old) (g.told new) now goes.untold is_now in
      let fits = fit was.0 was.1 in
      record {
        log = stands_on (Log core.front.log.number) was.0 now was.1 is_now (active_apart was.0 was.1) fits.log;
        steps = λ running. let steps = fits.steps running in
            record {
              manifest = stands_on (Manifest core.back.manifest.number) was.0 now was.1 is_now
                  (manifest_apart core.back.manifest.number was.0 was.1) steps.manifest;
              logs = λ n above. let other : Log n ≢ file.name = by_log n was.0 was.1 (steps.logs n above) file.lent refl in
                  (goes.beside was.0 now was.1 is_now).standing (Log n) other ∙ steps.logs n above;
              tables = λ n above. let other : Table n ≢ file.name = by_table n was.0 was.1 above (steps.tables n above) file.lent refl in
                  (goes.beside was.0 now was.1 is_now).standing (Table n) other ∙ steps.tables n above;
            };
      }
    where
      by_log : (n : ℕ) (was : DiskState) → g.told old ≡ Some was → IsFree (Log n) was → (o : Option (Lent W s)) → file.lent ≡ o
          → Log n ≢ file.name
      by_log n was is_was free None none = free_apart (Log n) was is_was free none
      by_log n was is_was free (Some x) some = log_apart n x some

      by_table : (n : ℕ) (was : DiskState) → g.told old ≡ Some was → next ≤ n → IsFree (Table n) was → (o : Option (Lent W s))
          → file.lent ≡ o → Table n ≢ file.name
      by_table n was is_was above free None none = free_apart (Table n) was is_was free none
      by_table n was is_was above free (Some x) some = λ (same : Table n ≡ file.name).
          let drawn = (waits.0.left x some).lent.drawn in
          let is_number : n ≡ x.number = number_is (same ∙ lent_name x some) in omega (arith, drawn, above, is_number)
        where
          number_is : Table n ≡ Table x.number → n ≡ x.number
          number_is e = cc
