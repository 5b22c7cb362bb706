-- A look-up in a block halves.
use Rattle.std.specs.Prelude.{◌≡◌, ◌+◌, ◌<◌, ◌≤◌, ℕ, zero, suc, Bool, true, false, cond, List, [], ◌∷◌, Option, None}
use Rattle.std.specs.Prelude.{Some, get_or, length, slice_get}
use Rattle.std.specs.List.{AllByRecursion, prefix_len}
use Rattle.std.proofs.Common.{refl, ap, subst, ◌∙◌, arith}
use Rattle.vl_model.specs.declared.entry.Entry.{Entry}
use Rattle.vl_model.specs.Lookups.{IsParted, is_ahead}
use Rattle.vl_model.specs.laws.Lookup.{rising-parted}
use Rattle.vl_model.specs.laws.OrderLaws.{IsRising, before-all}
use Rattle.vl_table.specs.body.Blocks.{IsBlock, entries}
use Rattle.vl_table.specs.body.Entries.{IsEntry}
use Rattle.vl_table.specs.body.Lists.{AreOrdered}
use Rattle.vl_table.specs.body.Starts.{AreStarts, StartsAt}

-- the place is between these two
pub record Between (low high place : ℕ) : Type 0 where
  pub from : low ≤ place
  pub upto : place ≤ high

module _ {X : Type 0} (p : X → Bool) where
  -- where an element passes, all before it do, so it is within the first that pass
  pub passes-prefix : (xs : List X) (i : ℕ) (x : X) → IsParted p xs → slice_get xs i ≡ Some x → p x ≡ true → i + 1 ≤ prefix_len p xs
  passes-prefix [] i x parted at passes = absurd cc
  passes-prefix (y ∷ ys) zero x parted at passes = omega
      (arith, ap (λ (b : Bool). cond b (1 + prefix_len p ys) 0) (ap p (same y x at) ∙ passes))
    where
      same : (a b : X) → Some a ≡ Some b → a ≡ b
      same a b e = cc
  passes-prefix (y ∷ ys) (suc i) x parted at passes =
      omega (
        arith,
        passes-prefix ys i x parted.1 at passes,
        ap (λ (b : Bool). cond b (1 + prefix_len p ys) 0) (before ys i parted.0 at passes),
      )
    where
      before : (zs : List X) (i : ℕ) → AllByRecursion (λ later. p later ≡ true → p y ≡ true) zs
          → slice_get zs i ≡ Some x → p x ≡ true → p y ≡ true
      before [] i all at passes = absurd cc
      before (z ∷ zs) zero all at passes = all.0 (ap p (same z x at) ∙ passes)
        where
          same : (a b : X) → Some a ≡ Some b → a ≡ b
          same a b e = cc
      before (z ∷ zs) (suc i) all at passes = before zs i all.1 at passes

  pub fails-prefix : (xs : List X) (i : ℕ) (x : X) → slice_get xs i ≡ Some x → p x ≡ false → prefix_len p xs ≤ i
  fails-prefix [] i x at fails = absurd cc
  fails-prefix (y ∷ ys) zero x at fails = omega (arith, ap (λ (b : Bool). cond b (1 + prefix_len p ys) 0) (ap p (same y x at) ∙ fails))
    where
      same : (a b : X) → Some a ≡ Some b → a ≡ b
      same a b e = cc
  fails-prefix (y ∷ ys) (suc i) x at fails = by (p y) (fails-prefix ys i x at fails)
    where
      by : (b : Bool) → prefix_len p ys ≤ i → cond b (1 + prefix_len p ys) 0 ≤ suc i
      by true le = omega (arith, le)
      by false le = omega arith

  pub prefix-within : (xs : List X) → prefix_len p xs ≤ length xs
  prefix-within [] = omega arith
  prefix-within (y ∷ ys) = by (p y) (prefix-within ys)
    where
      by : (b : Bool) → prefix_len p ys ≤ length ys → cond b (1 + prefix_len p ys) 0 ≤ suc (length ys)
      by true le = omega (arith, le)
      by false le = omega arith

-- ---- where entries begin

pub starts-counted : (format : ℕ) (bytes places : List ℕ) (es : List Entry) → AreStarts format bytes places es → length places ≡ length es
starts-counted format bytes [] [] are = refl
starts-counted format bytes [] (e ∷ es) are = absurd are
starts-counted format bytes (p ∷ ps) [] are = absurd are
starts-counted format bytes (p ∷ ps) (e ∷ es) are = ap suc (starts-counted format bytes ps es are.1)

pub starts-at : (format : ℕ) (bytes places : List ℕ) (es : List Entry) (i d : ℕ) (e : Entry)
    → AreStarts format bytes places es → slice_get es i ≡ Some e
    → StartsAt format bytes (get_or places i d) e
starts-at format bytes [] [] i d e are at = absurd cc
starts-at format bytes [] (f ∷ fs) i d e are at = absurd are
starts-at format bytes (p ∷ ps) [] i d e are at = absurd cc
starts-at format bytes (p ∷ ps) (f ∷ fs) zero d e are at = subst (StartsAt format bytes p) (same f e at) are.0
  where
    same : (a b : Entry) → Some a ≡ Some b → a ≡ b
    same a b e = cc
starts-at format bytes (p ∷ ps) (f ∷ fs) (suc i) d e are at = starts-at format bytes ps fs i d e are.1 at

pub all-at : {X : Type 0} (P : X → Type 0) (xs : List X) (i : ℕ) (x : X) → AllByRecursion P xs → slice_get xs i ≡ Some x → P x
all-at P [] i x all at = absurd cc
all-at P (y ∷ ys) zero x all at = subst P (same y x at) all.0
  where
    same : {A : Type 0} (a b : A) → Some a ≡ Some b → a ≡ b
    same a b e = cc
all-at P (y ∷ ys) (suc i) x all at = all-at P ys i x all.1 at

pub some-at : {X : Type 0} (xs : List X) (i : ℕ) → i < length xs → (x : X) × (slice_get xs i ≡ Some x)
some-at [] i within = absurd (omega arith)
some-at (x ∷ xs) zero within = (x, refl)
some-at (x ∷ xs) (suc i) within = some-at xs i (omega arith)

pub at-within : {X : Type 0} (xs : List X) (i : ℕ) (x : X) → slice_get xs i ≡ Some x → i < length xs
at-within [] i x at = absurd cc
at-within (y ∷ ys) zero x at = omega arith
at-within (y ∷ ys) (suc i) x at = omega (arith, at-within ys i x at)

pub none_there : {X : Type 0} (o : Option X) → ((x : X) → o ≡ Some x → ⊥) → o ≡ None
none_there None none = refl
none_there (Some x) none = absurd (none x refl)

-- entries in the order of a block are in order
pub ordered-rising : (format : ℕ) (es : List Entry) → AreOrdered (entries format) es → IsRising es
ordered-rising format [] ordered = tt
ordered-rising format (e ∷ []) ordered = (tt, tt)
ordered-rising format (e ∷ f ∷ fs) ordered =
    let rest = ordered-rising format (f ∷ fs) ordered.1 in ((ordered.0, before-all e f fs ordered.0 rest.0), rest)

module _ (key : List ℕ) (version format : ℕ) (bytes places : List ℕ) (es : List Entry) (block : IsBlock format es)
    (are : AreStarts format bytes places es) where
  -- the entry with an index, and what is known of it
  pub record At (i : ℕ) : Type 0 where
    pub entry : Entry
    pub at : slice_get es i ≡ Some entry
    pub lawful : IsEntry format entry
    pub starts : StartsAt format bytes (get_or places i 0) entry

  pub entry_is : (i : ℕ) → i < length places → At i
  entry_is i within =
      let e = some-at es i (omega (arith, within, starts-counted format bytes places es are)) in
      record {
        entry = e.0;
        at = e.1;
        lawful = all-at (IsEntry format) es i e.0 block.each e.1;
        starts = starts-at format bytes places es i 0 e.0 are e.1;
      }

  pub goes_up : (low high i : ℕ) (e : At i) → Between low high (prefix_len (is_ahead key version) es) → is_ahead key version e.entry ≡ true
      → Between (i + 1) high (prefix_len (is_ahead key version) es)
  goes_up low high i e between ahead = record {
    from = passes-prefix (is_ahead key version) es i e.entry
        (rising-parted key version es (ordered-rising format es block.ordered)) e.at ahead;
    upto = between.upto;
  }

  pub goes_down : (low high i : ℕ) (e : At i) → Between low high (prefix_len (is_ahead key version) es)
      → is_ahead key version e.entry ≡ false
      → Between low i (prefix_len (is_ahead key version) es)
  goes_down low high i e between ahead = record { from = between.from; upto = fails-prefix (is_ahead key version) es i e.entry e.at ahead }
