-- Laws of winners: of what entry a winner is, and of entries in order that are cut to an interval, either way.
use Rattle.std.proofs.Common.{◌≡◌, ℕ, Bool, true, false, cond, ◌&&◌, List, [], ◌∷◌, reverse, refl, ap, sym, ◌∙◌, subst, arith}
use Rattle.std.proofs.lemmas.Bool.{and_parts}
use Rattle.std.proofs.lemmas.Bool.Decides.{nat_tests}
use Rattle.std.proofs.lemmas.List.{reverse-append}
use Rattle.std.specs.Prelude.{Option, Some, None, nat_le}
use Rattle.std.specs.List.{AllByRecursion}
use Rattle.std.specs.Ordering.{ordering_then, nat_cmp, eq_by_cmp}
use Rattle.std.specs.declared.cmp.Ordering.{Ordering}
use Rattle.std.specs.declared.cmp.Ordering.TheVariants.{Less, Equal, Greater}
use Rattle.vl_model.specs.Keys.{key_cmp}
use Rattle.vl_model.specs.Reads.{is_in_span}
use Rattle.vl_model.specs.Winners.{counts, newest_of, only_if, winner}
use Rattle.vl_model.specs.laws.WinnerLaws.{newest_of-assoc, same_key, key_tied, winner-append}
use Rattle.vl_model.specs.declared.entry.Entry.{Entry}
use Rattle.vl_model.specs.declared.span.Span.{Span}
use Rattle.vl_model.specs.declared.way.Way.{Way}
use Rattle.vl_model.specs.declared.way.Way.TheVariants.{Up, Down}
use Rattle.vl_model.specs.EntryOrder.{along, within}
use Rattle.vl_model.specs.laws.OrderLaws.{IsBefore, IsRising}

newest_of-none : (a : Option Entry) → newest_of a None ≡ a
newest_of-none None = refl
newest_of-none (Some e) = refl

module _ (key : List ℕ) (number : ℕ) where
  -- a winner counts for its key
  newest_counts : (e f : Entry) (b : Bool) (w : Option Entry) → counts key number f ≡ b
      → ((g : Entry) → w ≡ Some g → counts key number g ≡ true) → newest_of (only_if b f) w ≡ Some e
      → counts key number e ≡ true
  newest_counts e f false w is later win = later e win
  newest_counts e f true None is later win = let same : f ≡ e = cc in ap (counts key number) (sym same) ∙ is
  newest_counts e f true (Some g) is later win = by (nat_le g.version f.version) win
    where
      by : (b : Bool) → cond b (Some f) (Some g) ≡ Some e → counts key number e ≡ true
      by true win = let same : f ≡ e = cc in ap (counts key number) (sym same) ∙ is
      by false win = let same : g ≡ e = cc in ap (counts key number) (sym same) ∙ later g refl

  pub winner-counts : (es : List Entry) (e : Entry) → winner es key number ≡ Some e → counts key number e ≡ true
  winner-counts [] e win = absurd cc
  winner-counts (f ∷ es) e win =
      newest_counts e f (counts key number f) (winner es key number) refl (winner-counts es) win

  pub winner-key : (es : List Entry) (e : Entry) → winner es key number ≡ Some e → key ≡ e.key
  winner-key es e win = same_key key e.key (and_parts _ _ (winner-counts es e win)).0

  pub winner-version : (es : List Entry) (e : Entry) → winner es key number ≡ Some e → nat_le e.version number ≡ true
  winner-version es e win = (and_parts _ _ (winner-counts es e win)).1

  -- what holds of all entries holds of a winner
  newest_has : (P : Entry → Type 0) (e f : Entry) (b : Bool) (w : Option Entry) → P f
      → ((g : Entry) → w ≡ Some g → P g) → newest_of (only_if b f) w ≡ Some e → P e
  newest_has P e f false w here later win = later e win
  newest_has P e f true None here later win = let same : f ≡ e = cc in subst P same here
  newest_has P e f true (Some g) here later win = by (nat_le g.version f.version) win
    where
      by : (b : Bool) → cond b (Some f) (Some g) ≡ Some e → P e
      by true win = let same : f ≡ e = cc in subst P same here
      by false win = let same : g ≡ e = cc in subst P same (later g refl)

  pub winner-has : (P : Entry → Type 0) (es : List Entry) (e : Entry) → AllByRecursion P es → winner es key number ≡ Some e → P e
  winner-has P [] e all win = absurd cc
  winner-has P (f ∷ es) e all win =
      newest_has P e f (counts key number f) (winner es key number) all.0 (λ g. winner-has P es g all.1) win

  -- ---- of entries in order, back to front

  newer_test : (m n : ℕ) (r : Ordering) → r ≡ Equal → ordering_then r (nat_cmp n m) ≡ Less → nat_le m n ≡ false
  newer_test m n Less is less = absurd cc
  newer_test m n Equal is less = grind (arith, nat_tests)
  newer_test m n Greater is less = absurd cc

  -- an entry before all of these is newer than what they have of its key
  before_newest : (e : Entry) (es : List Entry) → key ≡ e.key → IsBefore e es
      → newest_of (winner es key number) (Some e) ≡ Some e
  before_newest e [] of_key before = refl
  before_newest e (f ∷ es) of_key before =
      newest_of-assoc (only_if (counts key number f) f) (winner es key number) (Some e)
      ∙ ap (newest_of (only_if (counts key number f) f)) (before_newest e es of_key before.1)
      ∙ by (eq_by_cmp key_cmp key f.key) refl
    where
      by : (b : Bool) → eq_by_cmp key_cmp key f.key ≡ b
          → newest_of (only_if (b && nat_le f.version number) f) (Some e) ≡ Some e
      by false is = refl
      by true is =
          let keys : key_cmp e.key f.key ≡ Equal = ap (key_cmp e.key) (sym (same_key key f.key is) ∙ of_key) ∙ key_tied e.key in
          let newer : nat_le e.version f.version ≡ false = newer_test e.version f.version (key_cmp e.key f.key) keys before.0 in
          elim (nat_le f.version number) as (λ b. newest_of (only_if b f) (Some e) ≡ Some e) [
            | true ↦ ap (λ b. cond b (Some f) (Some e)) newer
            | false ↦ refl
          ]

  newest_first : (e : Entry) (es : List Entry) → key ≡ e.key → IsBefore e es → newest_of (Some e) (winner es key number) ≡ Some e
  newest_first e es of_key before = by (winner es key number) refl (before_newest e es of_key before)
    where
      by : (w : Option Entry) → winner es key number ≡ w → newest_of w (Some e) ≡ Some e → newest_of (Some e) w ≡ Some e
      by None is win = refl
      by (Some f) is win = two (nat_le e.version f.version) (nat_le f.version e.version) refl refl win
        where
          two : (p q : Bool) → nat_le e.version f.version ≡ p → nat_le f.version e.version ≡ q
              → cond p (Some f) (Some e) ≡ Some e → cond q (Some e) (Some f) ≡ Some e
          two p true ef fe win = refl
          two true false ef fe win = win
          two false false ef fe win = absurd (grind (arith, nat_tests))

  pub winner-reverse : (es : List Entry) → IsRising es → winner (reverse es) key number ≡ winner es key number
  winner-reverse [] rising = refl
  winner-reverse (e ∷ es) rising =
      ap (λ l. winner l key number) (reverse-append (e ∷ []) es)
      ∙ winner-append key number (reverse es) (e ∷ [])
      ∙ ap (λ w. newest_of w (winner (e ∷ []) key number)) (winner-reverse es rising.1)
      ∙ by (eq_by_cmp key_cmp key e.key) (nat_le e.version number) refl
    where
      by : (a b : Bool) → eq_by_cmp key_cmp key e.key ≡ a
          → newest_of (winner es key number) (newest_of (only_if (a && b) e) None) ≡ newest_of (only_if (a && b) e) (winner es key number)
      by false b is = newest_of-none (winner es key number)
      by true false is = newest_of-none (winner es key number)
      by true true is =
          before_newest e es (same_key key e.key is) rising.0 ∙ sym (newest_first e es (same_key key e.key is) rising.0)

  -- ---- in an interval

  before-within : (span : Span) (e : Entry) (es : List Entry) → IsBefore e es → IsBefore e (within span es)
  before-within span e [] before = tt
  before-within span e (f ∷ es) before = by (is_in_span span f.key) (before-within span e es before.1)
    where
      by : (b : Bool) → IsBefore e (within span es) → IsBefore e (cond b (f ∷ within span es) (within span es))
      by true later = (before.0, later)
      by false later = later

  pub rising-within : (span : Span) (es : List Entry) → IsRising es → IsRising (within span es)
  rising-within span [] rising = tt
  rising-within span (e ∷ es) rising = by (is_in_span span e.key) (rising-within span es rising.1)
    where
      by : (b : Bool) → IsRising (within span es) → IsRising (cond b (e ∷ within span es) (within span es))
      by true later = (before-within span e es rising.0, later)
      by false later = later

  -- of entries that are cut to an interval the winner of a key, where that is inside
  pub winner-within : (span : Span) (es : List Entry)
      → winner (within span es) key number ≡ cond (is_in_span span key) (winner es key number) None
  winner-within span [] = none (is_in_span span key)
    where
      none : (b : Bool) → winner [] key number ≡ cond b (winner [] key number) None
      none true = refl
      none false = refl
  winner-within span (e ∷ es) = by (is_in_span span e.key) (eq_by_cmp key_cmp key e.key) refl refl (winner-within span es)
    where
      by : (a b : Bool) → is_in_span span e.key ≡ a → eq_by_cmp key_cmp key e.key ≡ b
          → winner (within span es) key number ≡ cond (is_in_span span key) (winner es key number) None
          → winner (cond a (e ∷ within span es) (within span es)) key number
          ≡ cond (is_in_span span key) (newest_of (only_if (b && nat_le e.version number) e) (winner es key number)) None
      by true true inside same later =
          ap (λ b. newest_of (only_if (b && nat_le e.version number) e) (winner (within span es) key number)) same
          ∙ ap (newest_of (only_if (nat_le e.version number) e)) (later ∙ ap (λ b. cond b (winner es key number) None) here)
          ∙ sym (ap (λ b. cond b (newest_of (only_if (nat_le e.version number) e) (winner es key number)) None) here)
        where
          here : is_in_span span key ≡ true
          here = ap (is_in_span span) (same_key key e.key same) ∙ inside
      by false true outside same later =
          later ∙ ap (λ b. cond b (winner es key number) None) here
          ∙ sym (ap (λ b. cond b (newest_of (only_if (nat_le e.version number) e) (winner es key number)) None) here)
        where
          here : is_in_span span key ≡ false
          here = ap (is_in_span span) (same_key key e.key same) ∙ outside
      by true false inside other later =
          ap (λ b. newest_of (only_if (b && nat_le e.version number) e) (winner (within span es) key number)) other ∙ later
      by false false outside other later = later

  pub winner-along : (way : Way) (es : List Entry) → IsRising es → winner (along way es) key number ≡ winner es key number
  winner-along Up es rising = refl
  winner-along Down es rising = winner-reverse es rising

  pub winner-cut : (span : Span) (way : Way) (es : List Entry) → IsRising es
      → winner (along way (within span es)) key number ≡ cond (is_in_span span key) (winner es key number) None
  winner-cut span way es rising = winner-along way (within span es) (rising-within span es rising) ∙ winner-within span es
