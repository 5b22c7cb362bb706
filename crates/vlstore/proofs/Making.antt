-- A merge of a session that is made beside the lock: what `ready` and `fill` leave of it.
use Rattle.std.proofs.Common.{◌≡◌, ℕ, List, [], ◌∷◌, ◌++◌, map, refl, sym, ap, ◌∙◌, subst, arith}
use Rattle.std.proofs.lemmas.Bool.Decides.{nat_tests}
use Rattle.std.proofs.lemmas.List.{map-append}
use Rattle.std.specs.Prelude.{Bool, true, false, ◌==◌, ◌||◌, Option, None, Some, Err, IsSome}
use Rattle.std.specs.List.{AllByRecursion}
use Rattle.std.specs.Option.{ForSome}
use Rattle.vl_compact.specs.Keys.{all_named}
use Rattle.vl_compact.specs.Next.{IsFirstOf}
use Rattle.vl_compact.specs.Progress.{KeepsAll, Leaves, Takes, done_by, left_behind}
use Rattle.vl_compact.specs.declared.files.Lent.{Lent}
use Rattle.vl_compact.specs.declared.files.Synced.{Synced}
use Rattle.vl_compact.specs.declared.job.Job.{Job}
use Rattle.vl_compact.specs.declared.next.Next.{Next}
use Rattle.vl_disk.specs.declared.writer.Writer.{Ghosts as Writers}
use Rattle.vl_steps.specs.Installing.{numbers_in}
use Rattle.vl_steps.specs.Merging.{HasAllMerge, HasMerge}
use Rattle.vl_steps.specs.declared.fails.InstallFail.{InstallFail}
use Rattle.vl_steps.specs.declared.fails.InstallFail.TheVariants as fails
use Rattle.vl_engine_model.specs.Jobs.{AreDistinct}
use Rattle.vl_engine_model.specs.LockHistory.{last_layout, open_job}
use Rattle.vl_engine_model.specs.Merging.{needless}
use Rattle.vl_engine_model.specs.declared.job.Job as laid_job
use Rattle.vl_engine_model.specs.declared.lock_history.LockEntry.{LockEntry}
use Rattle.vl_model.specs.Entries.{in_order}
use Rattle.vl_model.specs.Numbers.{has}
use Rattle.vl_model.specs.declared.entry.Entry.{Entry}
use Rattle.vl_version.specs.declared.base.Base.{Base}
use Rattle.vlstore.specs.Handing.{IfHandedBack, IsHandedInto, IsLentTo, IsUnderWayIn, job_back}
use Rattle.vlstore.specs.Knowing.{GoesOn, Knows}
use Rattle.vlstore.specs.Merges.{lent_in}
use Rattle.vlstore.specs.declared.locked.Origin.{Origin}
use Rattle.vlstore.proofs.Drawing.{some_is}
use Rattle.vlstore.proofs.Stores.{nil_after, prefix_on}

-- ---- numbers

-- one more is put between some and others
put_in_all : (P : ℕ → Type 0) (ms ls : List ℕ) (n : ℕ) → AllByRecursion P (ms ++ ls) → P n → AllByRecursion P ((ms ++ n ∷ []) ++ ls)
put_in_all P [] ls n all is = (is, all)
put_in_all P (m ∷ ms) ls n all is = (all.0, put_in_all P ms ls n all.1 is)

all_more : {T : Type 0} (P : T → Type 0) (ts : List T) (t : T) → AllByRecursion P ts → P t → AllByRecursion P (ts ++ t ∷ [])
all_more P [] t all is = (is, tt)
all_more P (x ∷ ts) t all is = (all.0, all_more P ts t all.1 is)

off_still : (m n : ℕ) (ms ls : List ℕ) → (n == m) ≡ false → has m (ms ++ ls) ≡ false → has m ((ms ++ n ∷ []) ++ ls) ≡ false
off_still m n [] ls other off = ap (λ (b : Bool). b || has m ls) other ∙ off
off_still m n (k ∷ ms) ls other off = by (k == m) off (off_still m n ms ls other)
  where
    by : (b : Bool) → (b || has m (ms ++ ls)) ≡ false → (has m (ms ++ ls) ≡ false → has m ((ms ++ n ∷ []) ++ ls) ≡ false)
        → (b || has m ((ms ++ n ∷ []) ++ ls)) ≡ false
    by true off later = absurd (let no : true ≡ false = off in cc)
    by false off later = later off

put_in_distinct : (ms ls : List ℕ) (n : ℕ) → AreDistinct (ms ++ ls) → has n (ms ++ ls) ≡ false → AreDistinct ((ms ++ n ∷ []) ++ ls)
put_in_distinct [] ls n apart off = (off, apart)
put_in_distinct (m ∷ ms) ls n apart off = by (m == n) refl off (put_in_distinct ms ls n apart.1)
  where
    by : (b : Bool) → (m == n) ≡ b → (b || has n (ms ++ ls)) ≡ false
        → (has n (ms ++ ls) ≡ false → AreDistinct ((ms ++ n ∷ []) ++ ls))
        → (has m ((ms ++ n ∷ []) ++ ls) ≡ false) × AreDistinct ((ms ++ n ∷ []) ++ ls)
    by true same off later = absurd (let no : true ≡ false = off in cc)
    by false other off later =
        let turned : (n == m) ≡ false = grind (arith, nat_tests, other) in
        (off_still m n ms ls turned apart.0, later off)

nothing_behind : (ns : List ℕ) → ns ++ [] ≡ ns
nothing_behind [] = refl
nothing_behind (n ∷ ns) = ap (λ (l : List ℕ). n ∷ l) (nothing_behind ns)

together : (xs ys : List ℕ) (n : ℕ) → xs ++ (ys ++ n ∷ []) ≡ (xs ++ ys) ++ n ∷ []
together [] ys n = refl
together (x ∷ xs) ys n = ap (λ (l : List ℕ). x ∷ l) (together xs ys n)

-- what isn't true is false
is_off : (b : Bool) → (b ≡ true → ⊥) → b ≡ false
is_off true never = absurd (never refl)
is_off false never = refl

-- ---- what is so where there is none, or some

-- a call that refused left what it was asked on
pub still : {W H R : Type 0} (writers : Writers W) (bytes : H → Option (List ℕ)) {k : _} (old new : Job (Base H R) H W k)
    (j : laid_job.Job) → KeepsAll old new → new.needless.items ≡ old.needless.items → new.ended ≡ old.ended
    → HasMerge writers bytes old j → HasMerge writers bytes new j
still {R = R} writers bytes {k} old new j kept needless_is ended_is had =
    subst (λ (x : Job (Base _ R) _ _ k). HasMerge writers bytes x j) (sym kept) (record {
      is = record {
        tables = had.is.tables;
        inputs = had.is.inputs;
        numbers = had.is.numbers;
        base = had.is.base;
        entries = had.is.entries;
        target = had.is.target;
        floor = had.is.floor;
        keep = had.is.keep;
        some = had.is.some;
      };
      made = had.made;
      others = had.others;
      needless_are = needless_is ∙ (had.needless_are
          ∙ ap (λ (b : Bool). all_named (done_by b old.after (in_order (needless j)))) (sym ended_is));
      ended = λ ended. had.ended (sym ended_is ∙ ended);
    })

-- So did one whose file didn't become a table.
pub still_left : {W H R : Type 0} (writers : Writers W) (bytes : H → Option (List ℕ)) {k : _} (old new : Job (Base H R) H W k)
    (j : laid_job.Job) (file : Lent W k) → Leaves writers file old new → HasMerge writers bytes old j → HasMerge writers bytes new j
still_left {R = R} writers bytes {k} old new j file leaves had =
    subst (λ (x : Job (Base _ R) _ _ k). HasMerge writers bytes x j) (sym leaves.kept) (record {
      is = record {
        tables = had.is.tables;
        inputs = had.is.inputs;
        numbers = had.is.numbers;
        base = had.is.base;
        entries = had.is.entries;
        target = had.is.target;
        floor = had.is.floor;
        keep = had.is.keep;
        some = had.is.some;
      };
      made = had.made;
      others = had.others;
      needless_are = leaves.needless_are ∙ had.needless_are;
      ended = had.ended;
    })

module _ {W H R : Type 0} (writers : Writers W) (bytes : H → Option (List ℕ)) {k : _} (v : Knows) where
  -- ---- it reads on

  pub asked_way : (old new : Job (Base H R) H W k) (way : IsUnderWayIn v writers bytes old) → KeepsAll old new
      → (v.tells ≡ true → HasMerge writers bytes new way.planned) → IsUnderWayIn v writers bytes new
  asked_way old new way kept has_merge = record {
    planned = way.planned;
    own = way.own;
    lent = way.lent;
    lent_is = way.lent_is;
    drawn = subst (λ (j : Job (Base H R) H W k). AllByRecursion (λ (n : ℕ). has n way.lent ≡ true) (numbers_in j)) (sym kept) way.drawn;
    distinct = subst (λ (j : Job (Base H R) H W k). AreDistinct (numbers_in j)) (sym kept) way.distinct;
    tells = λ told. subst (λ (j : Job (Base H R) H W k). AllByRecursion (λ (t : Synced W k). IsSome (writers.file t.writer)) j.made.items)
        (sym kept) (way.tells told);
    leavings_tell = λ told. subst
        (λ (j : Job (Base H R) H W k). AllByRecursion (λ (f : Lent W k). IsSome (writers.file f.writer)) j.leavings.items)
        (sym kept) (way.leavings_tell told);
    has_merge = has_merge;
  }

  -- all of its tables are made
  pub all_made : (old new : Job (Base H R) H W k) (way : IsUnderWayIn v writers bytes old) → KeepsAll old new
      → (v.tells ≡ true → HasMerge writers bytes new way.planned) → new.ended ≡ true
      → (v.tells ≡ true → HasAllMerge writers bytes new way.planned) → IsHandedInto v writers bytes new
  unfolding asked_way
  all_made old new way kept has_merge ended has_all =
      record { under_way = asked_way old new way kept has_merge; ended = ended; has_all = has_all }

  -- ---- a file that was lent to it

  module _ (old new : Job (Base H R) H W k) (file : Lent W k) (way : IsUnderWayIn v writers bytes old)
      (lent_to : IsLentTo v writers bytes old file) where
    lent_is : lent_to.lent ≡ way.lent
    lent_is = some_is lent_to.lent way.lent (sym lent_to.lent_is ∙ way.lent_is)

    among : has file.number way.lent ≡ true
    among = subst (λ (ns : List ℕ). has file.number ns ≡ true) lent_is lent_to.among

    off : has file.number (numbers_in old) ≡ false
    off = is_off (has file.number (numbers_in old)) lent_to.other

    made : List ℕ
    made = map (λ (t : Synced W k). t.number) old.made.items

    left : List ℕ
    left = map (λ (f : Lent W k). f.number) old.leavings.items

    -- became a table,
    pub taken_way : Takes writers file old new → (v.tells ≡ true → IsSome (writers.file file.writer))
        → (v.tells ≡ true → HasMerge writers bytes new way.planned) → IsUnderWayIn v writers bytes new
    unfolding made left
    taken_way takes empty has_merge = record {
      planned = way.planned;
      own = way.own;
      lent = way.lent;
      lent_is = way.lent_is;
      drawn = numbers (AllByRecursion (λ (n : ℕ). has n way.lent ≡ true))
          (put_in_all (λ (n : ℕ). has n way.lent ≡ true) made left file.number way.drawn among);
      distinct = numbers AreDistinct (put_in_distinct made left file.number way.distinct off);
      tells = λ told. subst (λ (ts : List (Synced W k)). AllByRecursion (λ (t : Synced W k). IsSome (writers.file t.writer)) ts)
          (sym takes.made)
          (all_more (λ (t : Synced W k). IsSome (writers.file t.writer)) old.made.items takes.table (way.tells told)
          (takes.tells (empty told)));
      leavings_tell = λ told. subst (λ (fs : List (Lent W k)). AllByRecursion (λ (f : Lent W k). IsSome (writers.file f.writer)) fs)
          (sym left_are) (way.leavings_tell told);
      has_merge = has_merge;
    }
      where
        left_are : new.leavings.items ≡ old.leavings.items
        left_are = ap (λ l. l.items) takes.leavings

        numbers_are : numbers_in new ≡ (made ++ file.number ∷ []) ++ left
        numbers_are =
            ap (λ (fs : List (Lent W k)). map (λ (t : Synced W k). t.number) new.made.items ++ map (λ (f : Lent W k). f.number) fs) left_are
            ∙ ap (λ (ns : List ℕ). ns ++ left) (ap (λ (ts : List (Synced W k)). map (λ (t : Synced W k). t.number) ts) takes.made
            ∙ (map-append (λ (t : Synced W k). t.number) old.made.items (takes.table ∷ [])
            ∙ ap (λ (n : ℕ). made ++ n ∷ []) takes.number))

        numbers : (P : List ℕ → Type 0) → P ((made ++ file.number ∷ []) ++ left) → P (numbers_in new)
        numbers P is = subst P (sym numbers_are) is

    -- or didn't.
    pub left_way : Leaves writers file old new → (v.tells ≡ true → IsSome (writers.file file.writer)) → IsUnderWayIn v writers bytes new
    unfolding made left
    left_way leaves empty = record {
      planned = way.planned;
      own = way.own;
      lent = way.lent;
      lent_is = way.lent_is;
      drawn = subst (AllByRecursion (λ (n : ℕ). has n way.lent ≡ true)) (sym numbers_are)
          (all_more (λ (n : ℕ). has n way.lent ≡ true) (numbers_in old) file.number way.drawn among);
      distinct = subst AreDistinct (sym numbers_are) (subst AreDistinct (nothing_behind ((numbers_in old) ++ file.number ∷ []))
          (put_in_distinct (numbers_in old) [] file.number (subst AreDistinct (sym (nothing_behind (numbers_in old))) way.distinct)
          (ap (has file.number) (nothing_behind (numbers_in old)) ∙ off)));
      tells = λ told. subst (λ (ts : List (Synced W k)). AllByRecursion (λ (t : Synced W k). IsSome (writers.file t.writer)) ts)
          (sym made_are) (way.tells told);
      leavings_tell = λ told. subst (λ (fs : List (Lent W k)). AllByRecursion (λ (f : Lent W k). IsSome (writers.file f.writer)) fs)
          (sym leaves.left)
          (all_more (λ (f : Lent W k). IsSome (writers.file f.writer)) old.leavings.items leaves.leaving (way.leavings_tell told)
          (leaves.tells (empty told)));
      has_merge = λ told. still_left writers bytes old new way.planned file leaves (way.has_merge told);
    }
      where
        made_are : new.made.items ≡ old.made.items
        made_are = ap (λ (j : Job (Base H R) H W k). j.made.items) leaves.kept

        numbers_are : numbers_in new ≡ numbers_in old ++ file.number ∷ []
        numbers_are =
            (λ i. map (λ (t : Synced W k). t.number) (made_are i) ++ map (λ (f : Lent W k). f.number) (leaves.left i))
            ∙ ap (λ (ns : List ℕ). made ++ ns)
            (map-append (λ (f : Lent W k). f.number) old.leavings.items (leaves.leaving ∷ [])
            ∙ ap (λ (n : ℕ). left ++ n ∷ []) leaves.number)
            ∙ together made left file.number

  -- ---- other calls go on

  -- a call that keeps what is the session's own keeps it under way
  pub looked_way : (w : Knows) (job : Job (Base H R) H W k) → GoesOn v w → w.own ≡ v.own → IsUnderWayIn v writers bytes job
      → IsUnderWayIn w writers bytes job
  looked_way w job on own way = record {
    planned = way.planned;
    own = ap (open_job None) own ∙ (way.own ∙ ap (λ (n : ℕ). Some (n, way.planned)) (sym on.session));
    lent = way.lent;
    lent_is = ap (λ (es : List LockEntry). lent_in (last_layout w.origin.layout es)) own
        ∙ (ap (λ (o : Origin). lent_in (last_layout o.layout v.own)) on.origin ∙ way.lent_is);
    drawn = way.drawn;
    distinct = way.distinct;
    tells = λ told. way.tells (sym on.tells ∙ told);
    leavings_tell = λ told. way.leavings_tell (sym on.tells ∙ told);
    has_merge = λ told. way.has_merge (sym on.tells ∙ told);
  }

-- ---- what an install handed back

pub given_back : {W H R : Type 0} (v : Knows) (writers : Writers W) (bytes : H → Option (List ℕ)) {k : _}
    (fail : InstallFail (Base H R) H W k) → ForSome (job_back (Err fail)) (IsHandedInto v writers bytes)
    → IfHandedBack v writers bytes fail
given_back v writers bytes (fails.Halted name) again = tt
given_back v writers bytes (fails.Raced key number) again = tt
given_back v writers bytes (fails.Exhausted counter) again = tt
given_back v writers bytes (fails.NoMemory job) again = (again job refl).under_way
given_back v writers bytes (fails.Disk name) again = tt

-- ---- calls one after the other

pub on_and_on : (u v w : Knows) → GoesOn u v → GoesOn v w → GoesOn u w
on_and_on u v w first then = record {
  store = then.store ∙ first.store;
  origin = then.origin ∙ first.origin;
  tells = then.tells ∙ first.tells;
  session = then.session ∙ first.session;
  seen = prefix_on u.seen v.seen w.seen first.seen then.seen;
  own = prefix_on u.own v.own w.own first.own then.own;
}

-- nothing was done
pub on_same : (v : Knows) → GoesOn v v
on_same v = record {
  store = refl;
  origin = refl;
  tells = refl;
  session = refl;
  seen = ([], sym (nil_after v.seen));
  own = ([], sym (nil_after v.own));
}

-- What it goes on with is the first of the same merge, by whichever name that has.
pub first_planned : {C : Type 0} (left : C → Option (List Entry)) (i j : laid_job.Job) (after : Option (List ℕ)) (next : Next C)
    → i ≡ j → IsFirstOf left j (left_behind j after) next → IsFirstOf left i (left_behind i after) next
first_planned left i j after next same first =
    subst (λ (k : laid_job.Job). IsFirstOf left k (left_behind k after) next) (sym same) first
