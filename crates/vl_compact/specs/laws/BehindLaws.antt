-- A merge that goes on behind a key sees of its inputs, keeps and drops what one from the first entry on does behind that key.
use Rattle.std.proofs.Common.{◌≡◌, ℕ, ◌+◌, ◌≤◌, Bool, true, false, cond, not, ◌&&◌, List, [], ◌∷◌, ◌++◌, refl, ap}
use Rattle.std.proofs.Common.{sym, ◌∙◌, subst, arith, Option, Some, None}
use Rattle.std.proofs.lemmas.Cmp.{ranked}
use Rattle.std.proofs.lemmas.List.Elements.{filter-append}
use Rattle.std.specs.Cmp.{nat_cmp_total, upto}
use Rattle.std.specs.Prelude.{◌==◌, nat_le}
use Rattle.std.specs.Cmp.Lexicographic.{nat_list_cmp_total}
use Rattle.std.specs.List.{AllByRecursion, filter, flat_map}
use Rattle.std.specs.Ordering.{is_eq, is_gt, is_lt, ordering_then, ordering_reverse, nat_cmp, eq_by_cmp}
use Rattle.std.specs.declared.cmp.Ordering.{Ordering}
use Rattle.std.specs.declared.cmp.Ordering.TheVariants.{Less, Equal, Greater}
use Rattle.vl_engine_model.specs.Merging.{if_so, inputs_of, merged_entries, needless}
use Rattle.vl_engine_model.specs.Sources.{table_entries}
use Rattle.vl_engine_model.specs.declared.job.Job.{Job}
use Rattle.vl_engine_model.specs.declared.table.Table.{Table}
use Rattle.vl_model.specs.Merging.{IsAlong, IsFirst, merged, place}
use Rattle.vl_model.specs.Entries.{entry_cmp, in_order}
use Rattle.vl_model.specs.Keys.{key_cmp}
use Rattle.vl_model.specs.declared.entry.Entry.{Entry}
use Rattle.vl_model.specs.declared.way.Way.TheVariants.{Up}
use Rattle.vl_model.specs.laws.WinnerLaws.{key_exact}
use Rattle.vl_model.specs.EntryOrder.{within}
use Rattle.vl_model.specs.laws.OrderLaws.{entry_total}
use Rattle.vl_compact.specs.Keys.{span_behind}
use Rattle.vl_compact.specs.Walking.{Place, comes_again, seen_before, place_of, is_spent_alone, is_behind, walk, spent}
use Rattle.vl_compact.specs.laws.Repeats.{true_false}
use Rattle.vl_compact.specs.laws.WalkLaws.{keeps, taken, taken_new, walk-taken, spent-taken, merged_entries-walked, needless-spent}

-- ---- merged entries are in order

all-place : (P : Entry → Type 0) (e : Entry) (es : List Entry) → P e → AllByRecursion P es → AllByRecursion P (place Up e es)
all-place P e [] here all = (here, tt)
all-place P e (f ∷ fs) here all = elim (is_gt (entry_cmp e f)) as (λ b. AllByRecursion P (cond b (f ∷ place Up e fs) (e ∷ f ∷ fs))) [
  | true ↦ (all.0, all-place P e fs here all.1)
  | false ↦ (here, all)
]

first-all : (e f : Entry) (fs : List Entry) → is_gt (entry_cmp e f) ≡ false → IsFirst Up f fs → IsFirst Up e fs
first-all e f [] here first = tt
first-all e f (g ∷ fs) here first = (upto entry_total e f g here first.0, first-all e f fs here first.1)

not_after : (r : Ordering) → is_gt r ≡ true → is_gt (ordering_reverse r) ≡ false
not_after Less is = absurd cc
not_after Equal is = absurd cc
not_after Greater is = refl

along-place : (e : Entry) (es : List Entry) → IsAlong Up es → IsAlong Up (place Up e es)
along-place e [] are = (tt, tt)
along-place e (f ∷ fs) are = by (along-place e fs are.1) (is_gt (entry_cmp e f)) refl
  where
    by : IsAlong Up (place Up e fs) → (b : Bool) → is_gt (entry_cmp e f) ≡ b → IsAlong Up (cond b (f ∷ place Up e fs) (e ∷ f ∷ fs))
    by later true is =
        let behind : is_gt (entry_cmp f e) ≡ false = ap is_gt (entry_total.antisymm f e) ∙ not_after (entry_cmp e f) is in
        (all-place (λ g. is_gt (entry_cmp f g) ≡ false) e fs behind are.0, later)
    by later false is = ((is, first-all e f fs is are.0), are)

-- merged entries come as a way up goes through them
pub along-merged : (es : List Entry) → IsAlong Up (merged Up es)
along-merged [] = tt
along-merged (e ∷ es) = along-place e (merged Up es) (along-merged es)

-- ---- behind a key

pub not_greater : (r s : Ordering) → is_gt (ordering_then r s) ≡ false → is_gt r ≡ false
not_greater Less s is = refl
not_greater Equal s is = refl
not_greater Greater s is = is

pub is_less : (r : Ordering) → is_lt r ≡ true → r ≡ Less
is_less Less is = refl
is_less Equal is = absurd cc
is_less Greater is = absurd cc

-- what comes behind an entry that is behind a key is behind it too
pub behind_later : (at : Option (List ℕ)) (e f : Entry) → is_gt (entry_cmp e f) ≡ false → is_behind at e ≡ true → is_behind at f ≡ true
behind_later None e f later behind = refl
behind_later (Some key) e f later behind =
    by (key_cmp e.key f.key) refl (not_greater (key_cmp e.key f.key) (nat_cmp f.version e.version) later)
  where
    by : (r : Ordering) → key_cmp e.key f.key ≡ r → is_gt r ≡ false → is_lt (key_cmp key f.key) ≡ true
    by Less is up = ap is_lt (nat_list_cmp_total.trans key e.key f.key (is_less (key_cmp key e.key) behind) is)
    by Equal is up = ap (λ k. is_lt (key_cmp key k)) (sym (key_exact e.key f.key is)) ∙ behind
    by Greater is up = absurd (true_false up)

all_behind : (at : Option (List ℕ)) (e : Entry) (es : List Entry) → IsFirst Up e es → is_behind at e ≡ true
    → AllByRecursion (λ (f : Entry). is_behind at f ≡ true) es
all_behind at e [] first behind = tt
all_behind at e (f ∷ fs) first behind = (behind_later at e f first.0 behind, all_behind at e fs first.1 behind)

pub filter-all : (p : Entry → Bool) (es : List Entry) → AllByRecursion (λ (e : Entry). p e ≡ true) es → filter p es ≡ es
filter-all p [] all = refl
filter-all p (e ∷ es) all = ap (λ b. cond b (e ∷ filter p es) (filter p es)) all.0 ∙ ap (λ l. e ∷ l) (filter-all p es all.1)

-- ---- the inputs

-- those of some entries that are behind a key
abbrev back : Option (List ℕ) → List Entry → List Entry
back at es = filter (is_behind at) es

-- an entry is put at its place among those behind the key if it is behind it too
behind-place : (at : Option (List ℕ)) (e : Entry) (es : List Entry) → IsAlong Up es
    → back at (place Up e es) ≡ cond (is_behind at e) (place Up e (back at es)) (back at es)
behind-place at e [] along = refl
behind-place at e (f ∷ fs) along = by (behind-place at e fs along.1) (is_gt (entry_cmp e f)) refl
  where
    here : (b : Bool) → is_gt (entry_cmp e f) ≡ false → is_behind at e ≡ b
        → cond b (e ∷ back at (f ∷ fs)) (back at (f ∷ fs)) ≡ cond b (place Up e (back at (f ∷ fs))) (back at (f ∷ fs))
    here true up is =
        let behind = behind_later at e f up is in
        ap (λ b. e ∷ cond b (f ∷ back at fs) (back at fs)) behind
        ∙ sym (ap (λ b. cond b (f ∷ place Up e (back at fs)) (e ∷ f ∷ back at fs)) up)
        ∙ ap (λ b. place Up e (cond b (f ∷ back at fs) (back at fs))) (sym behind)
    here false up is = refl

    behind : (b c : Bool) → is_gt (entry_cmp e f) ≡ true
        → cond b (f ∷ cond c (place Up e (back at fs)) (back at fs)) (cond c (place Up e (back at fs)) (back at fs))
        ≡ cond c (place Up e (cond b (f ∷ back at fs) (back at fs))) (cond b (f ∷ back at fs) (back at fs))
    behind true true is = sym (ap (λ b. cond b (f ∷ place Up e (back at fs)) (e ∷ f ∷ back at fs)) is)
    behind true false is = refl
    behind false true is = refl
    behind false false is = refl

    by : back at (place Up e fs) ≡ cond (is_behind at e) (place Up e (back at fs)) (back at fs)
        → (b : Bool) → is_gt (entry_cmp e f) ≡ b
        → back at (cond b (f ∷ place Up e fs) (e ∷ f ∷ fs))
        ≡ cond (is_behind at e) (place Up e (back at (f ∷ fs))) (back at (f ∷ fs))
    by later true is = ap (λ l. cond (is_behind at f) (f ∷ l) l) later ∙ behind (is_behind at f) (is_behind at e) is
    by later false is = here (is_behind at e) is refl

-- the entries behind a key come merged as of all merged entries those behind it
pub merged-behind : (at : Option (List ℕ)) (es : List Entry)
    → merged Up (filter (is_behind at) es) ≡ filter (is_behind at) (merged Up es)
merged-behind at [] = refl
merged-behind at (e ∷ es) =
    by (is_behind at e) ∙ ap (λ l. cond (is_behind at e) (place Up e l) l) (merged-behind at es)
    ∙ sym (behind-place at e (merged Up es) (along-merged es))
  where
    by : (b : Bool) → merged Up (cond b (e ∷ back at es) (back at es))
        ≡ cond b (place Up e (merged Up (back at es))) (merged Up (back at es))
    by true = refl
    by false = refl

-- ---- what is taken of them

-- the last entry isn't behind the key
abbrev pub IsShort : Option (List ℕ) → Option Place → Type 0
IsShort at None = Unit {0}
IsShort None (Some p) = ⊥
IsShort (Some key) (Some p) = is_lt (key_cmp key p.key) ≡ false

-- so one that is behind it is of another key
short_apart : (at : Option (List ℕ)) (q : Place) (e : Entry) → IsShort at (Some q) → is_behind at e ≡ true
    → eq_by_cmp key_cmp q.key e.key ≡ false
short_apart None q e short behind = absurd short
short_apart (Some key) q e short behind = by (key_cmp q.key e.key) refl
  where
    by : (r : Ordering) → key_cmp q.key e.key ≡ r → is_eq r ≡ false
    by Less is = refl
    by Equal is =
        absurd (true_false (sym behind ∙ ap (λ k. is_lt (key_cmp key k)) (sym (key_exact q.key e.key is)) ∙ short))
    by Greater is = refl

module _ (p : ℕ → Entry → Bool) (floor : ℕ) where
  all_taken : (P : Entry → Type 0) (place : Option Place) (es : List Entry) → AllByRecursion P es
      → AllByRecursion P (taken p floor place es)
  all_taken P place [] all = tt
  all_taken P place (e ∷ es) all =
      by (comes_again place e) (p (seen_before place e) e) (all_taken P place es all.1)
      (all_taken P (Some (place_of floor place e)) es all.1)
    where
      by : (b c : Bool) → AllByRecursion P (taken p floor place es) → AllByRecursion P (taken p floor (Some (place_of floor place e)) es)
          → AllByRecursion P (cond b (taken p floor place es) (if_so c e (taken p floor (Some (place_of floor place e)) es)))
      by true c skipped goes = skipped
      by false true skipped goes = (all.0, goes)
      by false false skipped goes = goes

module _ (p : ℕ → Entry → Bool) (floor : ℕ) (at : Option (List ℕ)) where
  short_other : (place : Option Place) (e : Entry) → IsShort at place → is_behind at e ≡ true
      → (comes_again place e ≡ false) × (seen_before place e ≡ 0)
  short_other None e short behind = (refl, refl)
  short_other (Some q) e short behind =
      let apart = short_apart at q e short behind in
      (ap (λ b. b && (e.version == q.version)) apart, ap (λ b. cond b q.seen 0) apart)

  place_short : (place : Option Place) (e : Entry) → is_behind at e ≡ false → IsShort at (Some (place_of floor place e))
  place_short place e short = by at short
    where
      by : (at : Option (List ℕ)) → is_behind at e ≡ false → IsShort at (Some (place_of floor place e))
      by None short = absurd (true_false short)
      by (Some key) short = short

  back-if_so : (b : Bool) (e : Entry) (es : List Entry) → is_behind at e ≡ false → back at (if_so b e es) ≡ back at es
  back-if_so true e es short = ap (λ b. cond b (e ∷ back at es) (back at es)) short
  back-if_so false e es short = refl

  -- from where no version of its key was seen an entry is taken as the first of all
  taken_anew : (place : Option Place) (e : Entry) (es : List Entry) → seen_before place e ≡ 0
      → taken_new p floor place e es ≡ taken_new p floor None e es
  taken_anew place e es none = ap (λ m. if_so (p m e) e (taken p floor (Some (seen_so m)) es)) none
    where
      seen_so : ℕ → Place
      seen_so m = record { key = e.key; version = e.version; seen = m + (cond (nat_le e.version floor) 1 0) }

  pub taken-behind : (place : Option Place) (es : List Entry) → IsShort at place → IsAlong Up es
      → taken p floor None (filter (is_behind at) es) ≡ filter (is_behind at) (taken p floor place es)
  taken-behind place [] short along = refl
  taken-behind place (e ∷ es) short along =
      by (taken-behind place es short along.1) (λ s. taken-behind next es s along.1) (is_behind at e) refl
    where
      next : Option Place
      next = Some (place_of floor place e)

      skips : (b : Bool) → taken p floor None (back at es) ≡ back at (taken p floor place es)
          → taken p floor None (back at es) ≡ back at (taken p floor next es) → is_behind at e ≡ false
          → taken p floor None (back at es) ≡ back at (cond b (taken p floor place es) (taken_new p floor place e es))
      skips true skipped goes is = skipped
      skips false skipped goes is = goes ∙ sym (back-if_so (p (seen_before place e) e) e (taken p floor next es) is)

      by : taken p floor None (back at es) ≡ back at (taken p floor place es)
          → (IsShort at next → taken p floor None (back at es) ≡ back at (taken p floor next es))
          → (b : Bool) → is_behind at e ≡ b
          → taken p floor None (cond b (e ∷ back at es) (back at es)) ≡ back at (taken p floor place (e ∷ es))
      by skipped goes true is =
          let IsBehind : Entry → Type 0 = λ f. is_behind at f ≡ true in
          let other = short_other place e short is in
          let all : AllByRecursion IsBehind (e ∷ es) = (is, all_behind at e es along.0 is) in
          ap (λ l. taken p floor None (e ∷ l)) (filter-all (is_behind at) es all.1)
          ∙ sym (ap (λ b. cond b (taken p floor place es) (taken_new p floor place e es)) other.0 ∙ taken_anew place e es other.1)
          ∙ sym (filter-all (is_behind at) (taken p floor place (e ∷ es)) (all_taken p floor IsBehind place (e ∷ es) all))
      by skipped goes false is = skips (comes_again place e) skipped (goes (place_short place e is)) is

-- what is kept of the entries behind a key is of what is kept of all what is behind it
pub walk-behind : (j : Job) (at : Option (List ℕ)) (es : List Entry) → IsAlong Up es
    → walk j None (filter (is_behind at) es) ≡ filter (is_behind at) (walk j None es)
walk-behind j at es along =
    walk-taken j None (filter (is_behind at) es) ∙ taken-behind (keeps j) j.floor at None es tt along
    ∙ ap (filter (is_behind at)) (sym (walk-taken j None es))

-- and so are the deletions that are dropped as needless
pub spent-behind : (j : Job) (at : Option (List ℕ)) (es : List Entry) → IsAlong Up es
    → spent j None (filter (is_behind at) es) ≡ filter (is_behind at) (spent j None es)
spent-behind j at es along =
    spent-taken j None (filter (is_behind at) es) ∙ taken-behind (is_spent_alone j) j.floor at None es tt along
    ∙ ap (filter (is_behind at)) (sym (spent-taken j None es))

-- what is so of all entries is so of those that are kept of them, and of the deletions that are dropped as needless
pub all_walked : (P : Entry → Type 0) (j : Job) (at : Option Place) (es : List Entry) → AllByRecursion P es
    → AllByRecursion P (walk j at es)
all_walked P j at es all = subst (AllByRecursion P) (sym (walk-taken j at es)) (all_taken (keeps j) j.floor P at es all)

pub all_spent : (P : Entry → Type 0) (j : Job) (at : Option Place) (es : List Entry) → AllByRecursion P es
    → AllByRecursion P (spent j at es)
all_spent P j at es all = subst (AllByRecursion P) (sym (spent-taken j at es)) (all_taken (is_spent_alone j) j.floor P at es all)

-- ---- joined up

-- what a merge keeps behind a key is what is kept of the inputs' entries behind it as they come merged
pub merged_entries-behind : (j : Job) (at : Option (List ℕ)) → 1 ≤ j.keep
    → walk j None (merged Up (filter (is_behind at) (inputs_of j.base))) ≡ filter (is_behind at) (merged_entries j)
merged_entries-behind j at some =
    ap (walk j None) (merged-behind at (inputs_of j.base))
    ∙ walk-behind j at (merged Up (inputs_of j.base)) (along-merged (inputs_of j.base))
    ∙ ap (filter (is_behind at)) (sym (merged_entries-walked j some))

-- and so are the deletions that it drops as needless behind it
pub needless-behind : (j : Job) (at : Option (List ℕ)) → 1 ≤ j.keep
    → spent j None (merged Up (filter (is_behind at) (inputs_of j.base))) ≡ filter (is_behind at) (in_order (needless j))
needless-behind j at some =
    ap (spent j None) (merged-behind at (inputs_of j.base))
    ∙ spent-behind j at (merged Up (inputs_of j.base)) (along-merged (inputs_of j.base))
    ∙ ap (filter (is_behind at)) (sym (needless-spent j some))

-- ---- what a cursor gives

-- a key is from that one on exactly if it is greater than this one
pub from_next : (key q : List ℕ) → not (is_lt (key_cmp q (key ++ 0 ∷ []))) ≡ is_lt (key_cmp key q)
from_next [] [] = refl
from_next [] (b ∷ q) = by (nat_cmp b 0) refl
  where
    by : (r : Ordering) → nat_cmp b 0 ≡ r → not (is_lt (ordering_then r (key_cmp q []))) ≡ true
    by Less is = absurd (let less = ranked b 0 Less (sym is) in omega (arith, less))
    by Equal is = ends q
      where
        ends : (q : List ℕ) → not (is_lt (key_cmp q [])) ≡ true
        ends [] = refl
        ends (c ∷ q) = refl
    by Greater is = refl
from_next (a ∷ key) [] = refl
from_next (a ∷ key) (b ∷ q) =
    ap (λ r. not (is_lt (ordering_then r (key_cmp q (key ++ 0 ∷ []))))) (nat_cmp_total.antisymm b a)
    ∙ by (nat_cmp a b) (from_next key q)
  where
    by : (r : Ordering) → not (is_lt (key_cmp q (key ++ 0 ∷ []))) ≡ is_lt (key_cmp key q)
        → not (is_lt (ordering_then (ordering_reverse r) (key_cmp q (key ++ 0 ∷ [])))) ≡ is_lt (ordering_then r (key_cmp key q))
    by Less later = refl
    by Equal later = later
    by Greater later = refl

and_true : (b : Bool) → (b && true) ≡ b
and_true true = refl
and_true false = refl

-- the entries in that interval are those behind the key
pub within-behind : (at : Option (List ℕ)) (es : List Entry) → within (span_behind at) es ≡ filter (is_behind at) es
within-behind None es = refl
within-behind (Some key) [] = refl
within-behind (Some key) (e ∷ es) =
    ap (λ b. cond b (e ∷ within (span_behind (Some key)) es) (within (span_behind (Some key)) es))
    (and_true (not (is_lt (key_cmp e.key (key ++ 0 ∷ [])))) ∙ from_next key e.key)
    ∙ ap (λ l. cond (is_behind (Some key) e) (e ∷ l) l) (within-behind (Some key) es)

-- of tables end to end too
pub within-tables : (at : Option (List ℕ)) (ts : List Table)
    → flat_map (λ (t : Table). within (span_behind at) t.entries) ts ≡ filter (is_behind at) (flat_map table_entries ts)
within-tables at [] = refl
within-tables at (t ∷ ts) =
    ap (λ l. l ++ flat_map (λ (t : Table). within (span_behind at) t.entries) ts) (within-behind at t.entries)
    ∙ ap (λ l. filter (is_behind at) t.entries ++ l) (within-tables at ts)
    ∙ sym (filter-append (is_behind at) t.entries (flat_map table_entries ts))
