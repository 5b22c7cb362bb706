-- A merge keeps no entry twice: as many as it keeps stand in order. And the numbers that are drawn one behind the other differ.
use Rattle.std.proofs.Common.{◌≡◌, ℕ, zero, suc, ◌+◌, ◌<◌, ◌≤◌, ◌==◌, Bool, true, false, ◌&&◌}
use Rattle.std.proofs.Common.{◌||◌, not, List, [], ◌∷◌, ◌++◌, length, refl, ap, sym, ◌∙◌, subst, arith}
use Rattle.std.proofs.lemmas.Bool.Decides.{nat_tests}
use Rattle.std.proofs.lemmas.List.{append-nil}
use Rattle.std.specs.List.{AllByRecursion, list_any}
use Rattle.std.specs.Ordering.{eq_by_cmp}
use Rattle.std.specs.declared.cmp.Ordering.{Ordering}
use Rattle.std.specs.declared.cmp.Ordering.TheVariants.{Less, Equal, Greater}
use Rattle.std.proofs.lemmas.Slice.Eq.{bytes_eq-Decides}
use Rattle.std.proofs.lemmas.Map.Text.{is_eq-slice_cmp}
use Rattle.vl_engine_model.specs.Jobs.{AreDistinct, AreLent, tables_made}
use Rattle.vl_engine_model.specs.Merging.{Sourced, if_so, inputs_of, is_dropped, is_shadowed, kept, kept_from}
use Rattle.vl_engine_model.specs.Merging.{merged_entries, outside_of, outputs}
use Rattle.vl_engine_model.specs.Sources.{numbers_of}
use Rattle.vl_engine_model.specs.Store.Dispatch.{made_of}
use Rattle.vl_engine_model.specs.declared.job.Job.{Job}
use Rattle.vl_model.specs.Entries.{by_order, entry_cmp, in_order, is_at, put}
use Rattle.vl_model.specs.Keys.{key_cmp}
use Rattle.vl_model.specs.Numbers.{has}
use Rattle.vl_model.specs.declared.entry.Entry.{Entry}
use Rattle.vl_model.specs.laws.WinnerLaws.{entries_tied}
use Rattle.vl_replay_laws.specs.Drawn.{numbers_from}

true_false : true ≡ false → ⊥
true_false e = cc

-- ---- entries that are apart

-- it isn't of the key and version of this one
abbrev IsApart : Entry → Entry → Type 0
IsApart e f = is_at f.key f.version e ≡ false

own_key : (key : List ℕ) → eq_by_cmp key_cmp key key ≡ true
own_key key = is_eq-slice_cmp key key ∙ (bytes_eq-Decides key key).1 refl

both : (a b : Bool) → a ≡ true → b ≡ true → (a && b) ≡ true
both true true p q = refl
both true false p q = absurd cc
both false b p q = absurd cc

same_number : (a b : ℕ) → a ≡ b → (a == b) ≡ true
same_number a b e = grind (arith, nat_tests)

-- two that are tied aren't apart
tied : (e f : Entry) → entry_cmp e f ≡ Equal → is_at f.key f.version e ≡ true
tied e f is =
    let (key, version) = entries_tied e f is in
    both (eq_by_cmp key_cmp f.key e.key) (e.version == f.version)
    (subst (λ (k : List ℕ). eq_by_cmp key_cmp f.key k ≡ true) (sym key) (own_key f.key))
    (same_number e.version f.version (sym version))

-- one more stands in order
put_longer : (e : Entry) (es : List Entry) → AllByRecursion (IsApart e) es → length (put e es) ≡ suc (length es)
put_longer e [] apart = refl
put_longer e (f ∷ fs) apart = by (entry_cmp e f) refl (put_longer e fs apart.1)
  where
    by : (o : Ordering) → entry_cmp e f ≡ o → length (put e fs) ≡ suc (length fs)
        → length (by_order o (e ∷ f ∷ fs) (e ∷ fs) (f ∷ put e fs)) ≡ suc (suc (length fs))
    by Less is later = refl
    by Equal is later = absurd (true_false (sym (tied e f is) ∙ apart.0))
    by Greater is later = ap suc later

put_all : (P : Entry → Type 0) (e : Entry) (es : List Entry) → P e → AllByRecursion P es → AllByRecursion P (put e es)
put_all P e [] p all = (p, tt)
put_all P e (f ∷ fs) p all = by (entry_cmp e f) (put_all P e fs p all.1)
  where
    by : (o : Ordering) → AllByRecursion P (put e fs) → AllByRecursion P (by_order o (e ∷ f ∷ fs) (e ∷ fs) (f ∷ put e fs))
    by Less later = (p, all)
    by Equal later = (p, all.1)
    by Greater later = (all.0, later)

in_order_all : (P : Entry → Type 0) (es : List Entry) → AllByRecursion P es → AllByRecursion P (in_order es)
in_order_all P [] all = tt
in_order_all P (e ∷ es) all = put_all P e (in_order es) all.0 (in_order_all P es all.1)

-- ---- what is kept

-- what is of its key and version is found among these
abbrev Shadows : Entry → List Entry → Type 0
Shadows e newer = (f : Entry) → is_at f.key f.version e ≡ true → is_shadowed newer f ≡ true

or_right : (a b : Bool) → b ≡ true → (a || b) ≡ true
or_right true b is = refl
or_right false b is = is

first_shadows : (e : Entry) (newer : List Entry) → Shadows e (e ∷ newer)
first_shadows e newer f is = subst (λ (b : Bool). (b || list_any (is_at f.key f.version) newer) ≡ true) (sym is) refl

still_shadows : (e x : Entry) (newer : List Entry) → Shadows e newer → Shadows e (x ∷ newer)
still_shadows e x newer shadows f is = or_right (is_at f.key f.version x) (list_any (is_at f.key f.version) newer) (shadows f is)

module _ (keep : ℕ) (inputs outside : List Entry) (floor : ℕ) where
  not_shadowed : (shadowed rest input : Bool) → (input && not (shadowed || rest)) ≡ true → shadowed ≡ false
  not_shadowed true rest true is = absurd cc
  not_shadowed true rest false is = absurd cc
  not_shadowed false rest input is = refl

  apart_of : (e f : Entry) (newer : List Entry) → Shadows e newer → is_shadowed newer f ≡ false → IsApart e f
  apart_of e f newer shadows is = of (is_at f.key f.version e) refl
    where
      of : (b : Bool) → is_at f.key f.version e ≡ b → is_at f.key f.version e ≡ false
      of true at = absurd (true_false (sym (shadows f at) ∙ is))
      of false at = at

  -- what is kept is apart from what came before
  kept_apart : (e : Entry) (newer : List Entry) (ss : List Sourced) → Shadows e newer
      → AllByRecursion (IsApart e) (kept_from keep inputs outside floor newer ss)
  kept_apart e newer [] shadows = tt
  kept_apart e newer (s ∷ ss) shadows =
      by (s.0 && not (is_dropped keep inputs outside floor newer s.1)) refl
      (kept_apart e (s.1 ∷ newer) ss (still_shadows e s.1 newer shadows))
    where
      by : (b : Bool) → (s.0 && not (is_dropped keep inputs outside floor newer s.1)) ≡ b
          → AllByRecursion (IsApart e) (kept_from keep inputs outside floor (s.1 ∷ newer) ss)
          → AllByRecursion (IsApart e) (if_so b s.1 (kept_from keep inputs outside floor (s.1 ∷ newer) ss))
      by true is later = (apart_of e s.1 newer shadows (not_shadowed (is_shadowed newer s.1) _ s.0 is), later)
      by false is later = later

  -- and so as many stand in order
  kept_counted : (newer : List Entry) (ss : List Sourced)
      → length (in_order (kept_from keep inputs outside floor newer ss)) ≡ length (kept_from keep inputs outside floor newer ss)
  kept_counted newer [] = refl
  kept_counted newer (s ∷ ss) =
      by (s.0 && not (is_dropped keep inputs outside floor newer s.1)) (kept_counted (s.1 ∷ newer) ss)
      (in_order_all (IsApart s.1) (kept_from keep inputs outside floor (s.1 ∷ newer) ss)
      (kept_apart s.1 (s.1 ∷ newer) ss (first_shadows s.1 newer)))
    where
      by : (b : Bool) → length (in_order (kept_from keep inputs outside floor (s.1 ∷ newer) ss)) ≡ length
          (kept_from keep inputs outside floor (s.1 ∷ newer) ss)
          → AllByRecursion (IsApart s.1) (in_order (kept_from keep inputs outside floor (s.1 ∷ newer) ss))
          → length (in_order (if_so b s.1 (kept_from keep inputs outside floor (s.1 ∷ newer) ss)))
          ≡ length (if_so b s.1 (kept_from keep inputs outside floor (s.1 ∷ newer) ss))
      by true later apart = put_longer s.1 (in_order (kept_from keep inputs outside floor (s.1 ∷ newer) ss)) apart ∙ ap suc later
      by false later apart = later

pub kept_many : (job : Job) → length (merged_entries job) ≡ length (kept job)
kept_many job = kept_counted job.keep (inputs_of job.base) (outside_of job.base) job.floor [] job.base

-- ---- numbers

-- none of these is below the first
not_in : (number first n : ℕ) → number < first → has number (numbers_from first n) ≡ false
not_in number first zero less = refl
not_in number first (suc n) less = or_false (first == number) (has number (numbers_from (first + 1) n))
    (other first number less) (not_in number (first + 1) n (omega (arith, less)))
  where
    or_false : (a b : Bool) → a ≡ false → b ≡ false → (a || b) ≡ false
    or_false true b p q = absurd cc
    or_false false b p q = q

    other : (a b : ℕ) → b < a → (a == b) ≡ false
    other a b lt = grind (arith, nat_tests)

distinct_from : (first n : ℕ) → AreDistinct (numbers_from first n)
distinct_from first zero = tt
distinct_from first (suc n) = (not_in first (first + 1) n (omega arith), distinct_from (first + 1) n)

all_within : (first n : ℕ) → AllByRecursion (λ (k : ℕ). has k (numbers_from first n) ≡ true) (numbers_from first n)
all_within first zero = tt
all_within first (suc n) = (
  first_in (first == first) (has first (numbers_from (first + 1) n)) (same_number first first refl),
  weaker
      (numbers_from (first + 1) n) (all_within (first + 1) n),
)
  where
    first_in : (a b : Bool) → a ≡ true → (a || b) ≡ true
    first_in true b is = refl
    first_in false b is = absurd cc

    weaker : (ks : List ℕ) → AllByRecursion (λ (k : ℕ). has k (numbers_from (first + 1) n) ≡ true) ks
        → AllByRecursion (λ (k : ℕ). (first == k || has k (numbers_from (first + 1) n)) ≡ true) ks
    weaker [] all = tt
    weaker (k ∷ ks) all = (or_right (first == k) (has k (numbers_from (first + 1) n)) all.0, weaker ks all.1)

-- the tables have the numbers, so far as there are tables
numbers_made : (n first : ℕ) (output : List (List Entry)) → n ≤ length output
    → numbers_of (tables_made (numbers_from first n) output) ≡ numbers_from first n
numbers_made zero first output le = refl
numbers_made (suc n) first [] le = absurd (omega (arith, le))
numbers_made (suc n) first (es ∷ output) le = ap (λ (ns : List ℕ). first ∷ ns) (numbers_made n (first + 1) output (omega (arith, le)))

-- What was made of numbers that were lent is lent.
pub made_lent : (job : Job) (first n : ℕ) → n ≤ length (outputs job) → AreLent (numbers_from first n) (made_of job (numbers_from first n))
made_lent job first n le = record {
  drawn = subst (AllByRecursion (λ (k : ℕ). has k (numbers_from first n) ≡ true)) (sym made_is) (all_within first n);
  distinct = subst AreDistinct (sym made_is) (distinct_from first n);
}
  where
    made_is : numbers_of (tables_made (numbers_from first n) (outputs job)) ++ [] ≡ numbers_from first n
    made_is = append-nil (numbers_of (tables_made (numbers_from first n) (outputs job))) ∙ numbers_made n first (outputs job) le
