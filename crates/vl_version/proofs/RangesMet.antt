-- A table whose range lies outside an interval has no entry in it, and the entries of tables that are apart rise.
use Rattle.std.specs.Prelude.{◌≡◌, ℕ, Bool, true, false, ◌&&◌, not, List, [], ◌∷◌, ◌++◌, Option, Some, None}
use Rattle.std.specs.List.{AllByRecursion}
use Rattle.std.specs.Cmp.Lexicographic.{nat_list_cmp_total}
use Rattle.std.specs.Ordering.{is_gt, is_lt, nat_cmp, ordering_then}
use Rattle.std.specs.declared.cmp.Ordering.{Ordering}
use Rattle.std.specs.declared.cmp.Ordering.TheVariants.{Less, Equal, Greater}
use Rattle.std.proofs.Common.{refl, ap, sym, subst, ◌∙◌, cond}
use Rattle.vl_model.specs.Cutting.{first_key, joined, last_key}
use Rattle.vl_model.specs.Entries.{entry_cmp}
use Rattle.vl_model.specs.Keys.{key_cmp}
use Rattle.vl_model.specs.Reads.{is_from, is_in_span, is_up_to}
use Rattle.vl_model.specs.laws.WinnerLaws.{key_tied}
use Rattle.vl_model.specs.declared.entry.Entry.{Entry}
use Rattle.vl_model.specs.declared.span.Span.{Span}
use Rattle.vl_model.specs.EntryOrder.{within}
use Rattle.vl_model.specs.laws.OrderLaws.{IsRising, all-append}
use Rattle.vl_table.specs.MayHold.{meets}
use Rattle.vl_table.specs.OfTables.{AreOf}
use Rattle.vl_table.specs.Tables.{IsOf, number_of, shape_of}
use Rattle.vl_table.specs.declared.table.Table.{Table}
use Rattle.vl_table.specs.laws.KeyRanges.{all_map, below_up_to, keys_up, up_to_below}
use Rattle.vl_table.specs.laws.RangeLaws.{first_is, in_order, last_is}
use Rattle.vl_version.specs.levels.LevelTables.{AreApart, footer_of}
use Rattle.vl_version.proofs.looking.LevelLaws.{apart_rest, later_above}

-- ---- keys

-- a key isn't above another
abbrev IsUpTo : List ℕ → List ℕ → Type 0
IsUpTo a b = is_gt (key_cmp a b) ≡ false

up_to_self : (key : List ℕ) → IsUpTo key key
up_to_self key = ap is_gt (key_tied key)

up_to_up_to : (a b c : List ℕ) → IsUpTo a b → IsUpTo b c → IsUpTo a c
up_to_up_to a b c first second = by (key_cmp a b) refl first
  where
    by : (r : Ordering) → key_cmp a b ≡ r → is_gt r ≡ false → IsUpTo a c
    by Less is le = ap is_gt (below_up_to a b c is second)
    by Equal is le = ap is_gt (nat_list_cmp_total.congr a b c is) ∙ second
    by Greater is le = absurd cc

-- the first key of entries in order is up to all of theirs,
up_from_first : (es : List Entry) → IsRising es → AllByRecursion (λ e. IsUpTo (first_key es) e.key) es
up_from_first [] rising = tt
up_from_first (e ∷ es) rising =
    (up_to_self e.key, all_map (λ f. entry_cmp e f ≡ Less) (λ f. IsUpTo e.key f.key) (λ f less. keys_up e f less) es rising.0)

-- and all are up to the last one
up_to_last : (es : List Entry) → IsRising es → AllByRecursion (λ e. IsUpTo e.key (last_key es)) es
up_to_last [] rising = tt
up_to_last (e ∷ []) rising = (up_to_self e.key, tt)
up_to_last (e ∷ f ∷ fs) rising =
    let rest = up_to_last (f ∷ fs) rising.1 in
    (up_to_up_to e.key f.key (last_key (f ∷ fs)) (keys_up e f rising.0.0) rest.0, rest)

-- ---- intervals

is_less : (r : Ordering) → is_lt r ≡ true → r ≡ Less
is_less Less is = refl
is_less Equal is = absurd cc
is_less Greater is = absurd cc

not_false : (b : Bool) → not b ≡ false → b ≡ true
not_false true is = refl
not_false false is = absurd cc

-- what is up to a key below an interval is below it
from_falls : (lo : Option (List ℕ)) (key last : List ℕ) → IsUpTo key last → is_from lo last ≡ false → is_from lo key ≡ false
from_falls None key last up below = absurd cc
from_falls (Some low) key last up below =
    ap (λ r. not (is_lt r)) (up_to_below key last low up (is_less (key_cmp last low) (not_false (is_lt (key_cmp last low)) below)))

-- what a key above an interval is up to is above it
up_to_rises : (hi : Option (List ℕ)) (closed : Bool) (first key : List ℕ) → IsUpTo first key → is_up_to hi closed first ≡ false
    → is_up_to hi closed key ≡ false
up_to_rises None closed first key up above = absurd cc
up_to_rises (Some high) true first key up above =
    ap (λ r. not (is_lt r)) (below_up_to high first key (is_less (key_cmp high first) (not_false (is_lt (key_cmp high first)) above)) up)
up_to_rises (Some high) false first key up above = by (key_cmp key high) refl
  where
    by : (r : Ordering) → key_cmp key high ≡ r → is_up_to (Some high) false key ≡ false
    by Less is = let less : key_cmp first high ≡ Less = up_to_below first key high up is in absurd cc
    by Equal is = ap is_lt is
    by Greater is = ap is_lt is

none_within : (span : Span) (es : List Entry) → AllByRecursion (λ e. is_in_span span e.key ≡ false) es → within span es ≡ []
none_within span [] none = refl
none_within span (e ∷ es) none =
    ap (λ b. cond b (e ∷ within span es) (within span es)) none.0 ∙ none_within span es none.1

and_none : (b : Bool) → (b && false) ≡ false
and_none true = refl
and_none false = refl

module _ {H : Type 0} (bytes_of : H → Option (List ℕ)) where
  pub meets_none : (span : Span) (t : Table H) (es : List Entry) → IsOf bytes_of t es → meets span (shape_of t) ≡ false
      → within span es ≡ []
  meets_none span t es is out = none_within span es (by (is_from span.lo (footer_of t).last) refl out)
    where
      rises : IsRising es
      rises = in_order (number_of t) (shape_of t) es is.shape

      last : (footer_of t).last ≡ last_key es
      last = last_is (number_of t) (shape_of t) es is.shape

      first : (footer_of t).first ≡ first_key es
      first = first_is (number_of t) (shape_of t) es is.shape

      by : (b : Bool) → is_from span.lo (footer_of t).last ≡ b → (b && is_up_to span.hi span.closed (footer_of t).first) ≡ false
          → AllByRecursion (λ e. is_in_span span e.key ≡ false) es
      by false below test =
          all_map (λ e. IsUpTo e.key (last_key es)) (λ e. is_in_span span e.key ≡ false)
          (λ e up. ap (λ b. b && is_up_to span.hi span.closed e.key)
          (from_falls span.lo e.key (last_key es) up (ap (is_from span.lo) (sym last) ∙ below)))
          es (up_to_last es rises)
      by true from above =
          all_map (λ e. IsUpTo (first_key es) e.key) (λ e. is_in_span span e.key ≡ false)
          (λ e up. ap (λ b. is_from span.lo e.key && b)
          (up_to_rises span.hi span.closed (first_key es) e.key up (ap (is_up_to span.hi span.closed) (sym first) ∙ above))
          ∙ and_none (is_from span.lo e.key))
          es (up_from_first es rises)

  -- ---- tables that are apart

  entry_before : (e f : Entry) → key_cmp e.key f.key ≡ Less → entry_cmp e f ≡ Less
  entry_before e f less = ap (λ r. ordering_then r (nat_cmp f.version e.version)) less

  rising_both : (key : List ℕ) (es fs : List Entry) → IsRising es → AllByRecursion (λ e. IsUpTo e.key key) es → IsRising fs
      → AllByRecursion (λ f. key_cmp key f.key ≡ Less) fs → IsRising (es ++ fs)
  rising_both key [] fs rising up behind above = behind
  rising_both key (e ∷ es) fs rising up behind above = (
    all-append (λ f. entry_cmp e f ≡ Less) es fs rising.0
        (all_map (λ f. key_cmp key f.key ≡ Less) (λ f. entry_cmp e f ≡ Less)
        (λ f less. entry_before e f (up_to_below e.key key f.key up.0 less)) fs above),
    rising_both key es fs rising.1 up.1 behind above,
  )

  -- their entries rise, end to end
  pub joined-rising : (ts : List (Table H)) (ess : List (List Entry)) → AreApart ts → AreOf bytes_of ts ess → IsRising (joined ess)
  joined-rising [] [] apart are = tt
  joined-rising [] (es ∷ ess) apart are = absurd are
  joined-rising (t ∷ ts) [] apart are = absurd are
  joined-rising (t ∷ ts) (es ∷ ess) apart are =
      let rises = in_order (number_of t) (shape_of t) es are.0.shape in
      let last = last_is (number_of t) (shape_of t) es are.0.shape in
      rising_both (footer_of t).last es (joined ess) rises
      (subst (λ (k : List ℕ). AllByRecursion (λ e. IsUpTo e.key k) es) (sym last) (up_to_last es rises))
      (joined-rising ts ess (apart_rest bytes_of t ts apart) are.1) (later_above bytes_of t ts ess apart are.1)
