-- What a merge keeps is what is kept of its inputs' entries as they come, one after the other, and so are the deletions that it
-- drops as needless.
use Rattle.std.proofs.Common.{◌≡◌, ◌⊎◌, inl, inr, ℕ, ◌+◌, ◌<◌, ◌≤◌, Bool, true, false, cond, not, ◌&&◌, ◌||◌, List}
use Rattle.std.proofs.Common.{[], ◌∷◌, refl, ap, sym, ◌∙◌, arith, Option, Some, None}
use Rattle.std.specs.Prelude.{nat_le, max}
use Rattle.std.specs.Cmp.Lexicographic.{nat_list_cmp_total}
use Rattle.std.specs.List.{AllByRecursion, filter}
use Rattle.std.specs.Ordering.{is_eq, is_gt, eq_by_cmp}
use Rattle.std.specs.declared.cmp.Ordering.{Ordering}
use Rattle.std.specs.declared.cmp.Ordering.TheVariants.{Less, Equal, Greater}
use Rattle.vl_engine_model.specs.Merging.{Sourced, if_so, inputs_of, outside_of, is_shadowed, is_outdated, is_needless}
use Rattle.vl_engine_model.specs.Merging.{kept_from, merged_entries, needless, needless_from, gone_after}
use Rattle.vl_engine_model.specs.declared.job.Job.{Job}
use Rattle.vl_model.specs.Merging.{merged}
use Rattle.vl_model.specs.Entries.{entry_cmp, put, in_order, by_order}
use Rattle.vl_model.specs.Keys.{key_cmp}
use Rattle.vl_model.specs.declared.entry.Entry.{Entry}
use Rattle.vl_model.specs.declared.way.Way.TheVariants.{Up}
use Rattle.vl_model.specs.laws.WinnerLaws.{key_tied, entries_tied}
use Rattle.vl_model.specs.laws.OrderLaws.{IsBefore, IsRising, rising-in_order}
use Rattle.vl_compact.specs.Walking.{Place, comes_again, seen_before, place_of, is_hidden, is_old, is_spent}
use Rattle.vl_compact.specs.Walking.{is_let_go, is_spent_alone, walk, spent}
use Rattle.vl_compact.specs.laws.Chosen.{chosen, is_chosen, chosen-in_order, filter-same}
use Rattle.vl_compact.specs.laws.Counted.{is_above, one_if, count_above, above_parts, above_from, not_true, nat_le_is}
use Rattle.vl_compact.specs.laws.Counted.{le_nat, tied_keys, less_parts, keys_apart, none_from, outdated-counted}
use Rattle.vl_compact.specs.laws.Repeats.{true_false, is_again, once, once-merged}

-- ---- one walk for both

-- what is taken of entries as they come, by a test that is told how many versions up to the floor came of the key before
abbrev pub taken : (ℕ → Entry → Bool) → ℕ → Option Place → List Entry → List Entry
taken p floor at [] = []
taken p floor at (e ∷ es) =
    cond (comes_again at e) (taken p floor at es)
    (if_so (p (seen_before at e) e) e (taken p floor (Some (place_of floor at e)) es))

-- the same of one that doesn't come again, and of those behind it
abbrev pub taken_new : (ℕ → Entry → Bool) → ℕ → Option Place → Entry → List Entry → List Entry
taken_new p floor at e es = if_so (p (seen_before at e) e) e (taken p floor (Some (place_of floor at e)) es)

abbrev pub keeps : Job → ℕ → Entry → Bool
keeps j seen e = not (is_let_go j seen e)

pub walk-taken : (j : Job) (at : Option Place) (es : List Entry) → walk j at es ≡ taken (keeps j) j.floor at es
walk-taken j at [] = refl
walk-taken j at (e ∷ es) =
    let next : Place = place_of j.floor at e in
    ap (λ l. cond (comes_again at e) l (if_so (keeps j (seen_before at e) e) e (walk j (Some next) es))) (walk-taken j at es)
    ∙ ap (λ l. cond (comes_again at e) (taken (keeps j) j.floor at es) (if_so (keeps j (seen_before at e) e) e l))
    (walk-taken j (Some next) es)

pub spent-taken : (j : Job) (at : Option Place) (es : List Entry) → spent j at es ≡ taken (is_spent_alone j) j.floor at es
spent-taken j at [] = refl
spent-taken j at (e ∷ es) =
    let next : Place = place_of j.floor at e in
    let spends : Bool = is_spent_alone j (seen_before at e) e in
    ap (λ l. cond (comes_again at e) l (if_so spends e (spent j (Some next) es))) (spent-taken j at es)
    ∙ ap (λ l. cond (comes_again at e) (taken (is_spent_alone j) j.floor at es) (if_so spends e l)) (spent-taken j (Some next) es)

-- ---- none comes again

-- the same where none comes again
abbrev pub taken_once : (ℕ → Entry → Bool) → ℕ → Option Place → List Entry → List Entry
taken_once p floor at [] = []
taken_once p floor at (e ∷ es) = if_so (p (seen_before at e) e) e (taken_once p floor (Some (place_of floor at e)) es)

module _ (p : ℕ → Entry → Bool) (floor : ℕ) where
  taken-once : (at : Option Place) (last : Option Entry) (es : List Entry) → ((e : Entry) → comes_again at e ≡ is_again last e)
      → taken p floor at es ≡ taken_once p floor at (once last es)
  taken-once at last [] same = refl
  taken-once at last (e ∷ es) same =
      by (taken-once at last es same) (taken-once (Some (place_of floor at e)) (Some e) es (λ f. refl)) (is_again last e) refl
    where
      by : taken p floor at es ≡ taken_once p floor at (once last es)
          → taken p floor (Some (place_of floor at e)) es ≡ taken_once p floor (Some (place_of floor at e)) (once (Some e) es)
          → (b : Bool) → is_again last e ≡ b → taken p floor at (e ∷ es) ≡ taken_once p floor at (once last (e ∷ es))
      by skipped goes true is =
          ap (λ b. cond b (taken p floor at es) (taken_new p floor at e es)) (same e ∙ is)
          ∙ skipped ∙ sym (ap (λ b. taken_once p floor at (cond b (once last es) (e ∷ once (Some e) es))) is)
      by skipped goes false is =
          ap (λ b. cond b (taken p floor at es) (taken_new p floor at e es)) (same e ∙ is)
          ∙ ap (if_so (p (seen_before at e) e) e) goes
          ∙ sym (ap (λ b. taken_once p floor at (cond b (once last es) (e ∷ once (Some e) es))) is)

-- ---- by how many are above it

-- none of these is of a lower key than the last
abbrev IsUpTo : Option Place → List Entry → Type 0
IsUpTo None es = Unit {0}
IsUpTo (Some p) es = AllByRecursion (λ (e : Entry). is_gt (key_cmp p.key e.key) ≡ false) es

module _ (p : ℕ → Entry → Bool) (floor : ℕ) (n : Entry → ℕ) where
  abbrev AreCounted : Option Place → List Entry → List Entry → Type 0
  AreCounted at all es = AllByRecursion (λ (e : Entry). n e ≡ seen_before at e + count_above floor all e) es

  up_to_tail : (at : Option Place) (e : Entry) (es : List Entry) → IsUpTo at (e ∷ es) → IsUpTo at es
  up_to_tail None e es up = tt
  up_to_tail (Some q) e es up = up.1

  up_to_next : (at : Option Place) (e : Entry) (es : List Entry) → IsBefore e es → IsUpTo (Some (place_of floor at e)) es
  up_to_next at e [] before = tt
  up_to_next at e (f ∷ fs) before = (by (less_parts e f before.0), up_to_next at e fs before.1)
    where
      by : (key_cmp e.key f.key ≡ Less) ⊎ ((e.key ≡ f.key) × (f.version < e.version)) → is_gt (key_cmp e.key f.key) ≡ false
      by (inl lower) = ap is_gt lower
      by (inr same) = ap is_gt (ap (key_cmp e.key) (sym same.0) ∙ key_tied e.key)

  -- no version of a key was seen that is behind one that isn't below the last
  unseen : (at : Option Place) (e f : Entry) (es : List Entry) → IsUpTo at (e ∷ es) → key_cmp e.key f.key ≡ Less → seen_before at f ≡ 0
  unseen None e f es up lower = refl
  unseen (Some q) e f es up lower =
      ap (λ r. cond (is_eq r) q.seen 0) (by (key_cmp q.key e.key) refl up.0)
    where
      by : (r : Ordering) → key_cmp q.key e.key ≡ r → is_gt r ≡ false → key_cmp q.key f.key ≡ Less
      by Less is up = nat_list_cmp_total.trans q.key e.key f.key is lower
      by Equal is up = nat_list_cmp_total.congr q.key e.key f.key is ∙ lower
      by Greater is up = absurd (true_false up)

  seen_same : (at : Option Place) (e f : Entry) → e.key ≡ f.key → seen_before at e ≡ seen_before at f
  seen_same None e f keys = refl
  seen_same (Some q) e f keys = ap (λ k. cond (eq_by_cmp key_cmp q.key k) q.seen 0) keys

  abbrev seen_if : Option Place → Entry → Bool → ℕ
  seen_if at e b = cond b (seen_before at e + one_if (nat_le e.version floor)) 0

  -- what is seen before an entry behind another is one more than before exactly where the other is above it
  seen_next : (at : Option Place) (e f : Entry) (es : List Entry) → IsUpTo at (e ∷ es) → entry_cmp e f ≡ Less
      → seen_before (Some (place_of floor at e)) f ≡ seen_before at f + one_if (is_above floor f e)
  seen_next at e f es up less = by (less_parts e f less)
    where
      plain : (m k : ℕ) → m ≡ 0 → k ≡ 0 → 0 ≡ m + k
      plain m k one other = omega (arith, one, other)

      by : (key_cmp e.key f.key ≡ Less) ⊎ ((e.key ≡ f.key) × (f.version < e.version))
          → seen_if at e (eq_by_cmp key_cmp e.key f.key) ≡ seen_before at f + one_if (is_above floor f e)
      by (inl lower) =
          ap (λ r. seen_if at e (is_eq r)) lower
          ∙ plain (seen_before at f) (one_if (is_above floor f e)) (unseen at e f es up lower)
          (ap one_if (not_true (is_above floor f e) (λ is. keys_apart e.key f.key lower (sym (above_parts floor f e is).0))))
      by (inr same) =
          ap (seen_if at e) (tied_keys e.key f.key same.0)
          ∙ ap (λ m. m + one_if (nat_le e.version floor)) (seen_same at e f same.0)
          ∙ ap (λ b. seen_before at f + one_if b) (low (nat_le e.version floor) refl)
        where
          low : (b : Bool) → nat_le e.version floor ≡ b → nat_le e.version floor ≡ is_above floor f e
          low true is = is ∙ sym (above_from floor f e (sym same.0) (nat_le_is e.version floor is) same.1)
          low false is =
              let never : is_above floor f e ≡ true → ⊥ =
              λ above. true_false (sym (le_nat e.version floor (above_parts floor f e above).1) ∙ is) in
              is ∙ sym (not_true (is_above floor f e) never)

  counted_next : (at : Option Place) (e : Entry) (es fs : List Entry) → IsUpTo at (e ∷ es) → IsBefore e fs → AreCounted at (e ∷ es) fs
      → AreCounted (Some (place_of floor at e)) es fs
  counted_next at e es [] up before all = tt
  counted_next at e es (f ∷ fs) up before all = (
    (let here = all.0 in let next = seen_next at e f es up before.0 in omega (arith, here, next)),
    counted_next at e es fs up before.1 all.1,
  )

  taken-counted : (at : Option Place) (es : List Entry) → IsRising es → IsUpTo at es → AreCounted at es es
      → taken_once p floor at es ≡ filter (λ (e : Entry). p (n e) e) es
  taken-counted at [] rising up all = refl
  taken-counted at (e ∷ es) rising up all =
      let next : Option Place = Some (place_of floor at e) in
      ap (λ m. if_so (p m e) e (taken_once p floor next es)) here
      ∙ ap (if_so (p (n e) e) e)
      (taken-counted next es rising.1 (up_to_next at e es rising.0) (counted_next at e es es up rising.0 all.1))
      ∙ if_so_cond (p (n e) e) e (filter (λ (e : Entry). p (n e) e) es)
    where
      here : seen_before at e ≡ n e
      here = let counted = all.0 in let none = none_from floor e es rising.0 in omega (arith, counted, none)

      if_so_cond : (b : Bool) (e : Entry) (es : List Entry) → if_so b e es ≡ cond b (e ∷ es) es
      if_so_cond true e es = refl
      if_so_cond false e es = refl

from_none : (n : Entry → ℕ) (es : List Entry) → AllByRecursion (λ (e : Entry). n e ≡ 0 + n e) es
from_none n [] = tt
from_none n (e ∷ es) = (omega arith, from_none n es)

-- what is taken of merged entries are those of these in order that pass the test, told how many are above them
pub taken-merged : (p : ℕ → Entry → Bool) (floor : ℕ) (es : List Entry)
    → taken p floor None (merged Up es) ≡ filter (λ (e : Entry). p (count_above floor (in_order es) e) e) (in_order es)
taken-merged p floor es =
    let n : Entry → ℕ = count_above floor (in_order es) in
    taken-once p floor None None (merged Up es) (λ e. refl) ∙ ap (taken_once p floor None) (once-merged es)
    ∙ taken-counted p floor n None (in_order es) (rising-in_order es) tt (from_none n (in_order es))

-- ---- what is kept, and what is dropped as needless

everything : (P : Entry → Type 0) → ((e : Entry) → P e) → (es : List Entry) → AllByRecursion P es
everything P each [] = tt
everything P each (e ∷ es) = (each e, everything P each es)

same_filter : (p q : Entry → Bool) → ((e : Entry) → p e ≡ q e) → (es : List Entry) → filter p es ≡ filter q es
same_filter p q same es = filter-same p q es (everything (λ e. p e ≡ q e) same es)

not_or : (a b c : Bool) → not (a || (b || c)) ≡ (not a && not (b || c))
not_or true b c = refl
not_or false b c = refl

module _ (keep : ℕ) (inputs outside : List Entry) (floor : ℕ) where
  -- neither of the last two rules drops it
  abbrev pub stays : Entry → Bool
  stays e = not (is_outdated keep inputs floor e || is_needless keep outside floor e)

  -- the last of them alone does
  abbrev pub goes_by_need : Entry → Bool
  goes_by_need e = not (is_outdated keep inputs floor e) && is_needless keep outside floor e

  kept-chosen : (newer : List Entry) (ss : List Sourced)
      → kept_from keep inputs outside floor newer ss ≡ chosen stays newer ss
  kept-chosen newer [] = refl
  kept-chosen newer (s ∷ ss) =
      ap (λ b. if_so (s.0 && b) s.1 (kept_from keep inputs outside floor (s.1 ∷ newer) ss))
      (not_or (is_shadowed newer s.1) (is_outdated keep inputs floor s.1) (is_needless keep outside floor s.1))
      ∙ ap (if_so (s.0 && (not (is_shadowed newer s.1) && stays s.1)) s.1) (kept-chosen (s.1 ∷ newer) ss)

  needless-chosen : (newer : List Entry) (ss : List Sourced)
      → needless_from keep inputs outside floor newer ss ≡ chosen goes_by_need newer ss
  needless-chosen newer [] = refl
  needless-chosen newer (s ∷ ss) =
      ap (if_so (s.0 && (not (is_shadowed newer s.1) && goes_by_need s.1)) s.1) (needless-chosen (s.1 ∷ newer) ss)

module _ (j : Job) (some : 1 ≤ j.keep) where
  abbrev above : Entry → ℕ
  above e = count_above j.floor (in_order (inputs_of j.base)) e

  -- one above it is of a greater version of at most the floor, so it is of such a version itself
  low : (es : List Entry) (e : Entry) → 1 ≤ count_above j.floor es e → nat_le e.version j.floor ≡ true
  low [] e some = absurd (omega (arith, some))
  low (f ∷ fs) e some = by (low fs e) (is_above j.floor e f) refl some
    where
      by : (1 ≤ count_above j.floor fs e → nat_le e.version j.floor ≡ true) → (b : Bool) → is_above j.floor e f ≡ b
          → 1 ≤ one_if b + count_above j.floor fs e → nat_le e.version j.floor ≡ true
      by later true is some = let parts = above_parts j.floor e f is in le_nat e.version j.floor (omega (arith, parts.1, parts.2))
      by later false is some = later (omega (arith, some))

  -- it is outdated exactly where the walk finds it old
  outdated-old : (e : Entry) → is_outdated j.keep (inputs_of j.base) j.floor e ≡ is_old j (above e) e
  outdated-old e = outdated-counted j.keep j.floor (inputs_of j.base) e ∙ by (nat_le j.keep (above e)) refl
    where
      by : (b : Bool) → nat_le j.keep (above e) ≡ b → nat_le j.keep (above e) ≡ (nat_le e.version j.floor && nat_le j.keep (above e))
      by true is =
          let some_above : 1 ≤ above e = omega (arith, some, nat_le_is j.keep (above e) is) in
          sym (ap (λ b. b && nat_le j.keep (above e)) (low (in_order (inputs_of j.base)) e some_above))
      by false is = is ∙ sym (ap (λ b. nat_le e.version j.floor && b) is ∙ and_false (nat_le e.version j.floor))
        where
          and_false : (b : Bool) → (b && false) ≡ false
          and_false true = refl
          and_false false = refl

  abbrev job_stays : Entry → Bool
  job_stays = stays j.keep (inputs_of j.base) (outside_of j.base) j.floor

  abbrev job_goes_by_need : Entry → Bool
  job_goes_by_need = goes_by_need j.keep (inputs_of j.base) (outside_of j.base) j.floor

  kept_same : (e : Entry) → is_chosen job_stays [] j.base e ≡ keeps j (above e) e
  kept_same e =
      ap (λ b. not (is_hidden j e) && not (b || is_spent j e)) (outdated-old e)
      ∙ sym (not_or (is_hidden j e) (is_old j (above e) e) (is_spent j e))

  spent_same : (e : Entry) → is_chosen job_goes_by_need [] j.base e ≡ is_spent_alone j (above e) e
  spent_same e = ap (λ b. not (is_hidden j e) && (not b && is_spent j e)) (outdated-old e)

  -- what a merge keeps of its inputs is what is kept of their entries as they come merged
  pub merged_entries-walked : merged_entries j ≡ walk j None (merged Up (inputs_of j.base))
  merged_entries-walked =
      ap in_order (kept-chosen j.keep (inputs_of j.base) (outside_of j.base) j.floor [] j.base)
      ∙ chosen-in_order job_stays [] j.base
      ∙ same_filter (is_chosen job_stays [] j.base) (λ (e : Entry). keeps j (above e) e) kept_same (in_order (inputs_of j.base))
      ∙ sym (walk-taken j None (merged Up (inputs_of j.base)) ∙ taken-merged (keeps j) j.floor (inputs_of j.base))

  -- and so are the deletions that it drops as needless
  pub needless-spent : in_order (needless j) ≡ spent j None (merged Up (inputs_of j.base))
  needless-spent =
      ap in_order (needless-chosen j.keep (inputs_of j.base) (outside_of j.base) j.floor [] j.base)
      ∙ chosen-in_order job_goes_by_need [] j.base
      ∙ same_filter (is_chosen job_goes_by_need [] j.base) (λ (e : Entry). is_spent_alone j (above e) e) spent_same
      (in_order (inputs_of j.base))
      ∙ sym (spent-taken j None (merged Up (inputs_of j.base)) ∙ taken-merged (is_spent_alone j) j.floor (inputs_of j.base))

-- ---- the greatest version

module _ (gone : ℕ) where
  gone-put : (e : Entry) (es : List Entry) → gone_after gone (put e es) ≡ max e.version (gone_after gone es)
  gone-put e [] = refl
  gone-put e (f ∷ fs) = by (gone-put e fs) (entry_cmp e f) refl
    where
      twice : (a b c : ℕ) → a ≡ b → max a c ≡ max a (max b c)
      twice a b c same = omega (arith, same)

      swap : (a b c : ℕ) → max a (max b c) ≡ max b (max a c)
      swap a b c = omega arith

      by : gone_after gone (put e fs) ≡ max e.version (gone_after gone fs) → (r : Ordering) → entry_cmp e f ≡ r
          → gone_after gone (by_order r (e ∷ f ∷ fs) (e ∷ fs) (f ∷ put e fs)) ≡ max e.version (max f.version (gone_after gone fs))
      by later Less is = refl
      by later Equal is = twice e.version f.version (gone_after gone fs) (sym (entries_tied e f is).1)
      by later Greater is = ap (max f.version) later ∙ swap f.version e.version (gone_after gone fs)

  -- the greatest version of some entries is that of these in order
  pub gone-in_order : (es : List Entry) → gone_after gone (in_order es) ≡ gone_after gone es
  gone-in_order [] = refl
  gone-in_order (e ∷ es) = gone-put e (in_order es) ∙ ap (max e.version) (gone-in_order es)
