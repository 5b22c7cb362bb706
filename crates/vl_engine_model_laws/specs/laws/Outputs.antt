-- The tables that a merge makes have true ranges, and each ends before those behind it begin.
use Rattle.std.proofs.Common.{◌≡◌, ◌⊎◌, inl, inr, ⊎_elim, ℕ, ◌+◌, ◌≤◌, ◌<◌, Bool, true, false, cond, not, ◌&&◌, List}
use Rattle.std.proofs.Common.{[], ◌∷◌, ◌++◌, map, refl, ap, sym, ◌∙◌, subst, arith, length}
use Rattle.std.proofs.lemmas.Bool.{and_parts}
use Rattle.std.specs.Prelude.{nat_le, if◌then◌else◌}
use Rattle.std.specs.List.{AllByRecursion}
use Rattle.std.specs.Cmp.Lexicographic.{nat_list_cmp_total}
use Rattle.std.specs.Ordering.{eq_by_cmp, is_eq, is_lt, nat_cmp, ordering_reverse, ordering_then}
use Rattle.std.specs.declared.cmp.Ordering.{Ordering}
use Rattle.std.specs.declared.cmp.Ordering.TheVariants.{Less, Equal, Greater}
use Rattle.vl_model.specs.Keys.{key_cmp}
use Rattle.vl_model.specs.Entries.{entry_cmp, by_order, put, in_order}
use Rattle.vl_model.specs.laws.WinnerLaws.{key_tied}
use Rattle.vl_model.specs.declared.entry.Entry.{Entry}
use Rattle.vl_model.specs.Cutting.{around, begun_length, entry_length, first_key, last_key, max_block_bytes}
use Rattle.vl_model.specs.Cutting.{joined}
use Rattle.vl_engine_model.specs.laws.TableLaws.{cut-whole}
use Rattle.vl_engine_model.specs.Merging.{kept, merged_entries, outputs}
use Rattle.vl_engine_model.specs.Jobs.{tables_made}
use Rattle.vl_engine_model.specs.Tables.{full_table_bytes, tables_from, cut_into_tables}
use Rattle.vl_engine_model.specs.declared.job.Job.{Job}
use Rattle.vl_engine_model.specs.declared.table.Table.{Table}
use Rattle.vl_engine_model.specs.TidyLevels.{Le, IsRanged, IsApart}
use Rattle.vl_engine_model_laws.specs.laws.Pairs.{le_then}
use Rattle.vl_model.specs.Formats.{table_format}

abbrev pub Lt : List ℕ → List ℕ → Type 0
Lt a b = is_lt (key_cmp a b) ≡ true

-- ---- the order of keys

less_is : (r : Ordering) → is_lt r ≡ true → r ≡ Less
less_is Less is = refl
less_is Equal is = absurd cc
less_is Greater is = absurd cc

pub lt_le : (a b : List ℕ) → Lt a b → Le a b
lt_le a b less = ap is_lt (nat_list_cmp_total.antisymm b a ∙ ap ordering_reverse (less_is (key_cmp a b) less))

pub le_lt : (a b c : List ℕ) → Le a b → Lt b c → Lt a c
le_lt a b c ab bc = by (key_cmp b a) refl
  where
    by : (r : Ordering) → key_cmp b a ≡ r → Lt a c
    by Less is = absurd (let no : true ≡ false = sym (ap is_lt is) ∙ ab in cc)
    by Equal is = ap is_lt (sym (nat_list_cmp_total.congr b a c is) ∙ less_is (key_cmp b c) bc)
    by Greater is =
        let turned : key_cmp a b ≡ Less = nat_list_cmp_total.antisymm a b ∙ ap ordering_reverse is in
        ap is_lt (nat_list_cmp_total.trans a b c turned (less_is (key_cmp b c) bc))

pub lt_le_then : (a b c : List ℕ) → Lt a b → Le b c → Lt a c
lt_le_then a b c ab bc = by (key_cmp b c) refl
  where
    by : (r : Ordering) → key_cmp b c ≡ r → Lt a c
    by Less is = ap is_lt (nat_list_cmp_total.trans a b c (less_is (key_cmp a b) ab) is)
    by Greater is =
        absurd (let turned : key_cmp c b ≡ Less = nat_list_cmp_total.antisymm c b
        ∙ ap ordering_reverse is in let no : true ≡ false = sym (ap is_lt turned) ∙ bc in cc)
    by Equal is =
        let other : key_cmp b a ≡ Greater =
        nat_list_cmp_total.antisymm b a ∙ ap ordering_reverse (less_is (key_cmp a b) ab) in
        let same : key_cmp c a ≡ Greater = sym (nat_list_cmp_total.congr b c a is) ∙ other in
        ap is_lt (nat_list_cmp_total.antisymm a c ∙ ap ordering_reverse same)

-- keys that don't tie and don't fall rise
le_apart : (a b : List ℕ) → Le a b → eq_by_cmp key_cmp a b ≡ false → Lt a b
le_apart a b ab apart = by (key_cmp a b) refl
  where
    by : (r : Ordering) → key_cmp a b ≡ r → Lt a b
    by Less is = ap is_lt is
    by Equal is = absurd (let no : true ≡ false = sym (ap is_eq is) ∙ apart in cc)
    by Greater is =
        absurd (let turned : key_cmp b a ≡ Less = nat_list_cmp_total.antisymm b a
        ∙ ap ordering_reverse is in let no : true ≡ false = sym (ap is_lt turned) ∙ ab in cc)

-- ---- entries in order

abbrev pub IsSorted : List Entry → Type 0
IsSorted [] = Unit {0}
IsSorted (e ∷ es) = AllByRecursion (λ (f : Entry). Le e.key f.key) es × IsSorted es

all_put : (P : Entry → Type 0) (e : Entry) (es : List Entry) → P e → AllByRecursion P es → AllByRecursion P (put e es)
all_put P e [] here all = (here, tt)
all_put P e (f ∷ fs) here all = elim (entry_cmp e f) as (λ r. AllByRecursion P (by_order r (e ∷ f ∷ fs) (e ∷ fs) (f ∷ put e fs))) [
  | Less ↦ (here, all)
  | Equal ↦ (here, all.1)
  | Greater ↦ (all.0, all_put P e fs here all.1)
]

pub all_weaker : (P Q : Entry → Type 0) → ((e : Entry) → P e → Q e) → (es : List Entry)
    → AllByRecursion P es → AllByRecursion Q es
all_weaker P Q f [] all = tt
all_weaker P Q f (e ∷ es) all = (f e all.0, all_weaker P Q f es all.1)

-- by the order of two entries that of their keys
key_up : (e f : Entry) (r s : Ordering) → key_cmp e.key f.key ≡ r
    → (ordering_then r s ≡ Less) ⊎ (ordering_then r s ≡ Equal) → Le e.key f.key
key_up e f Less s is one = ap is_lt (nat_list_cmp_total.antisymm f.key e.key ∙ ap ordering_reverse is)
key_up e f Equal s is one = ap is_lt (nat_list_cmp_total.antisymm f.key e.key ∙ ap ordering_reverse is)
key_up e f Greater s is one = absurd (⊎_elim (λ (a : Greater ≡ Less). cc) (λ (b : Greater ≡ Equal). cc) one)

key_down : (e f : Entry) (r s : Ordering) → key_cmp e.key f.key ≡ r → ordering_then r s ≡ Greater → Le f.key e.key
key_down e f Less s is one = absurd cc
key_down e f Equal s is one = ap is_lt is
key_down e f Greater s is one = ap is_lt is

sorted_put : (e : Entry) (es : List Entry) → IsSorted es → IsSorted (put e es)
sorted_put e [] sorted = (tt, tt)
sorted_put e (f ∷ fs) sorted = by (entry_cmp e f) refl (sorted_put e fs sorted.1)
  where
    by : (r : Ordering) → entry_cmp e f ≡ r → IsSorted (put e fs)
        → IsSorted (by_order r (e ∷ f ∷ fs) (e ∷ fs) (f ∷ put e fs))
    by Less is later =
        let up = key_up e f (key_cmp e.key f.key) (nat_cmp f.version e.version) refl (inl is) in (
          (
            up,
            all_weaker (λ (g : Entry). Le f.key g.key) (λ (g : Entry). Le e.key g.key)
                (λ g le. le_then e.key f.key g.key up le) fs sorted.0,
          ),
          sorted,
        )
    by Equal is later =
        let up = key_up e f (key_cmp e.key f.key) (nat_cmp f.version e.version) refl (inr is) in (
          all_weaker (λ (g : Entry). Le f.key g.key) (λ (g : Entry). Le e.key g.key)
              (λ g le. le_then e.key f.key g.key up le) fs sorted.0,
          sorted.1,
        )
    by Greater is later = (
      all_put (λ (g : Entry). Le f.key g.key) e fs
          (key_down e f (key_cmp e.key f.key) (nat_cmp f.version e.version) refl is) sorted.0,
      later,
    )

pub sorted_in_order : (es : List Entry) → IsSorted (in_order es)
sorted_in_order [] = tt
sorted_in_order (e ∷ es) = sorted_put e (in_order es) (sorted_in_order es)

-- ---- the cut

-- entries of each table are below those of later ones; none is empty, and each is in order
abbrev pub IsCutWell : List (List Entry) → Type 0
IsCutWell [] = Unit {0}
IsCutWell (es ∷ ess) =
    AllByRecursion (λ (e : Entry). AllByRecursion (λ (f : Entry). Lt e.key f.key) (joined ess)) es
    × ((1 ≤ length es) × (IsSorted es × IsCutWell ess))

all_both : (P : Entry → Type 0) (xs ys : List Entry) → AllByRecursion P xs → AllByRecursion P ys
    → AllByRecursion P (xs ++ ys)
all_both P [] ys a b = b
all_both P (x ∷ xs) ys a b = (a.0, all_both P xs ys a.1 b)

sorted_more : (xs : List Entry) (e : Entry) → IsSorted xs
    → AllByRecursion (λ (x : Entry). Le x.key e.key) xs → IsSorted (xs ++ e ∷ [])
sorted_more [] e sorted below = (tt, tt)
sorted_more (x ∷ xs) e sorted below =
    (all_both (λ (y : Entry). Le x.key y.key) xs (e ∷ []) sorted.0 (below.0, tt), sorted_more xs e sorted.1 below.1)

nothing_behind : (es : List Entry)
    → AllByRecursion (λ (e : Entry). AllByRecursion (λ (f : Entry). Lt e.key f.key) []) es
nothing_behind [] = tt
nothing_behind (e ∷ es) = (tt, nothing_behind es)

either : (b : Bool) (x y : List (List Entry)) → (b ≡ true → IsCutWell x) → IsCutWell y → IsCutWell (if b then x else y)
either true x y one other = one refl
either false x y one other = other

from_well : (table : List Entry) (key : List ℕ) (closed open_bytes : ℕ) (es : List Entry)
    → 1 ≤ length table → IsSorted table → AllByRecursion (λ (x : Entry). Le x.key key) table
    → AllByRecursion (λ (f : Entry). Le key f.key) es → IsSorted es
    → IsCutWell (tables_from table key closed open_bytes es)
from_well table key closed open_bytes [] some sorted below above rest = (nothing_behind table, (some, (sorted, tt)))
from_well table key closed open_bytes (e ∷ es) some sorted below above rest =
    let begun = from_well (e ∷ []) e.key 0 (begun_length table_format e) es (omega arith) (tt, tt)
    (ap is_lt (key_tied e.key), tt) rest.0 rest.1 in
    let lower : AllByRecursion (λ (x : Entry). Le x.key e.key) table =
    all_weaker (λ (x : Entry). Le x.key key) (λ (x : Entry). Le x.key e.key) (λ x le. le_then x.key key e.key le above.0) table below in
    let more : 1 ≤ length (table ++ e ∷ []) = omega (arith, some, Rattle.std.proofs.Common.length-append table (e ∷ [])) in
    let under : AllByRecursion (λ (x : Entry). Le x.key e.key) (table ++ e ∷ []) =
    all_both (λ (x : Entry). Le x.key e.key) table (e ∷ []) lower (ap is_lt (key_tied e.key), tt) in
    let longer = sorted_more table e sorted lower in
    let grown : List (List Entry) =
    tables_from (table ++ e ∷ []) e.key closed (open_bytes + entry_length table_format e) es in
    let next : List (List Entry) =
    tables_from (table ++ e ∷ []) e.key (closed + around open_bytes) (begun_length table_format e) es in
    let later : List (List Entry) = tables_from (e ∷ []) e.key 0 (begun_length table_format e) es in
    either (not (eq_by_cmp key_cmp key e.key) && nat_le full_table_bytes (closed + around open_bytes)) (table ∷ later)
    (if nat_le (open_bytes + entry_length table_format e) max_block_bytes then grown else next)
    (λ closes.
    let apart : eq_by_cmp key_cmp key e.key ≡ false =
    not_true (eq_by_cmp key_cmp key e.key)
    (and_parts (not (eq_by_cmp key_cmp key e.key)) (nat_le full_table_bytes (closed + around open_bytes)) closes).0 in
    let step : Lt key e.key = le_apart key e.key above.0 apart in (
      subst (λ (fs : List Entry). AllByRecursion (λ (x : Entry). AllByRecursion (λ (f : Entry). Lt x.key f.key) fs)
          table) (sym (cut-whole (e ∷ es)))
          (all_weaker (λ (x : Entry). Le x.key key) (λ (x : Entry). AllByRecursion (λ (f : Entry). Lt x.key f.key) (e ∷ es))
          (λ x le. (
            le_lt x.key key e.key le step,
            all_weaker (λ (f : Entry). Le e.key f.key)
                (λ (f : Entry). Lt x.key f.key) (λ f up. lt_le_then x.key e.key f.key (le_lt x.key key e.key le step) up) es
                rest.0,
          )) table below),
      (some, (sorted, begun)),
    ))
    (either' (nat_le (open_bytes + entry_length table_format e) max_block_bytes) grown next
    (from_well (table ++ e ∷ []) e.key closed (open_bytes + entry_length table_format e) es more longer under rest.0 rest.1)
    (from_well (table ++ e ∷ []) e.key (closed + around open_bytes) (begun_length table_format e) es more longer under rest.0 rest.1))
  where
    not_true : (b : Bool) → not b ≡ true → b ≡ false
    not_true true h = absurd cc
    not_true false h = refl

    either' : (b : Bool) (x y : List (List Entry)) → IsCutWell x → IsCutWell y → IsCutWell (if b then x else y)
    either' true x y one other = one
    either' false x y one other = other

pub cut_well : (es : List Entry) → IsSorted es → IsCutWell (cut_into_tables es)
cut_well [] sorted = tt
cut_well (e ∷ es) sorted =
    from_well (e ∷ []) e.key 0 (begun_length table_format e) es (omega arith) (tt, tt) (ap is_lt (key_tied e.key), tt) sorted.0 sorted.1

-- ---- the tables

pub of_first : (P : List ℕ → Type 0) (es : List Entry) → 1 ≤ length es
    → AllByRecursion (λ (e : Entry). P e.key) es → P (first_key es)
of_first P [] some all = absurd (omega (arith, some))
of_first P (e ∷ es) some all = all.0

pub of_last : (P : List ℕ → Type 0) (es : List Entry) → 1 ≤ length es
    → AllByRecursion (λ (e : Entry). P e.key) es → P (last_key es)
of_last P [] some all = absurd (omega (arith, some))
of_last P (e ∷ []) some all = all.0
of_last P (e ∷ f ∷ fs) some all = of_last P (f ∷ fs) (omega arith) all.1

pub up_to_last : (es : List Entry) → IsSorted es → AllByRecursion (λ (e : Entry). Le e.key (last_key es)) es
up_to_last [] sorted = tt
up_to_last (e ∷ []) sorted = (ap is_lt (key_tied e.key), tt)
up_to_last (e ∷ f ∷ fs) sorted = (of_last (Le e.key) (f ∷ fs) (omega arith) sorted.0, up_to_last (f ∷ fs) sorted.1)

pub from_first : (es : List Entry) → IsSorted es → AllByRecursion (λ (e : Entry). Le (first_key es) e.key) es
from_first [] sorted = tt
from_first (e ∷ es) sorted = (ap is_lt (key_tied e.key), sorted.0)

both_all : (P Q : Entry → Type 0) (es : List Entry) → AllByRecursion P es → AllByRecursion Q es
    → AllByRecursion (λ (e : Entry). P e × Q e) es
both_all P Q [] a b = tt
both_all P Q (e ∷ es) a b = ((a.0, b.0), both_all P Q es a.1 b.1)

pub made_ranged : (numbers : List ℕ) (ess : List (List Entry)) → IsCutWell ess
    → AllByRecursion IsRanged (tables_made numbers ess)
made_ranged [] ess well = tt
made_ranged (n ∷ ns) [] well = tt
made_ranged (n ∷ ns) (es ∷ ess) well = (
  both_all (λ (e : Entry). Le (first_key es) e.key) (λ (e : Entry). Le e.key (last_key es)) es
      (from_first es well.1.1.0) (up_to_last es well.1.1.0),
  made_ranged ns ess well.1.1.1,
)

all_joined : (P : List ℕ → Type 0) (numbers : List ℕ) (ess : List (List Entry)) → IsCutWell ess
    → AllByRecursion (λ (f : Entry). P f.key) (joined ess)
    → AllByRecursion (λ (u : Table). P u.first) (tables_made numbers ess)
all_joined P [] ess well all = tt
all_joined P (n ∷ ns) [] well all = tt
all_joined P (n ∷ ns) (es ∷ ess) well all =
    let both = split es (joined ess) all in
    (of_first P es well.1.0 both.0, all_joined P ns ess well.1.1.1 both.1)
  where
    split : (xs ys : List Entry) → AllByRecursion (λ (f : Entry). P f.key) (xs ++ ys)
        → AllByRecursion (λ (f : Entry). P f.key) xs × AllByRecursion (λ (f : Entry). P f.key) ys
    split [] ys all = (tt, all)
    split (x ∷ xs) ys all = let both = split xs ys all.1 in ((all.0, both.0), both.1)

pub made_apart : (numbers : List ℕ) (ess : List (List Entry)) → IsCutWell ess → IsApart (tables_made numbers ess)
made_apart [] ess well = tt
made_apart (n ∷ ns) [] well = tt
made_apart (n ∷ ns) (es ∷ ess) well = (
  all_joined (Lt (last_key es)) ns ess well.1.1.1
      (of_last (λ (k : List ℕ). AllByRecursion (λ (f : Entry). Lt k f.key) (joined ess)) es well.1.0 well.0),
  made_apart ns ess well.1.1.1,
)

-- The outputs of a job, whatever their numbers, are ranged and apart.
pub outputs_apart : (job : Job) (numbers : List ℕ)
    → AllByRecursion IsRanged (tables_made numbers (outputs job)) × IsApart (tables_made numbers (outputs job))
outputs_apart job numbers =
    let well = cut_well (merged_entries job) (sorted_in_order (kept job)) in
    (made_ranged numbers (outputs job) well, made_apart numbers (outputs job) well)
