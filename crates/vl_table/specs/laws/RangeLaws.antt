-- A table that may not have a key hasn't got it.
use Rattle.std.specs.Prelude.{◌≡◌, ◌^◌, ◌*◌, ℕ, Bool, true, false, ◌&&◌, ◌||◌, not, nat_le, nat_lt, List, [], ◌∷◌, length}
use Rattle.std.specs.List.{AllByRecursion}
use Rattle.std.specs.Ordering.{eq_by_cmp, is_gt, is_lt}
use Rattle.std.specs.declared.cmp.Ordering.{Ordering}
use Rattle.std.specs.declared.cmp.Ordering.TheVariants.{Less, Equal, Greater}
use Rattle.std.proofs.Common.{cond, refl, ap, sym, subst, ◌∙◌}
use Rattle.vl_filter.specs.Filters.{filter_bytes, passes}
use Rattle.vl_filter.specs.Filters as filters
use Rattle.vl_filter.specs.laws.HeldLaws.{holds_all}
use Rattle.vl_model.specs.Keys.{key_cmp}
use Rattle.vl_model.specs.laws.WinnerLaws.{same_key}
use Rattle.vl_model.specs.declared.entry.Entry.{Entry}
use Rattle.vl_table.specs.body.Bytes.{filter_bits}
use Rattle.vl_model.specs.Cutting.{first_key, keys_of, last_key, with_key}
use Rattle.vl_table.specs.body.Footer.{Foot}
use Rattle.vl_table.specs.body.Shapes.{IsShapeOf}
use Rattle.vl_table.specs.declared.body.shape.TableShape.{TableShape}
use Rattle.vl_model.specs.Formats.{has_filter}
use Rattle.vl_model.specs.laws.OrderLaws.{IsRising, rising}
use Rattle.vl_table.specs.MayHold.{is_in_range, may_hold}
use Rattle.vl_table.specs.laws.KeyRanges.{HasNone, all_above, all_below, all_map, none_above, none_below}

-- ---- the filter

-- what holds of each key holds of each entry's
all_keys : (P : List ℕ → Type 0) (es : List Entry) → AllByRecursion P (keys_of es) → AllByRecursion (λ e. P e.key) es
all_keys P [] all = tt
all_keys P (e ∷ es) all = let both = parted e.key (keys_of es) all in (both.0, all_keys P es both.1)
  where
    by : (key k : List ℕ) (ks : List (List ℕ)) (t : Bool) → eq_by_cmp key_cmp key k ≡ t
        → AllByRecursion P (cond t (k ∷ ks) (key ∷ k ∷ ks)) → P key × AllByRecursion P (k ∷ ks)
    by key k ks true same all = (subst P (sym (same_key key k same)) all.0, all)
    by key k ks false same all = (all.0, all.1)

    parted : (key : List ℕ) (ks : List (List ℕ)) → AllByRecursion P (with_key key ks) → P key × AllByRecursion P ks
    parted key [] all = (all.0, tt)
    parted key (k ∷ ks) all = by key k ks (eq_by_cmp key_cmp key k) refl all

or_last : (a b : Bool) → b ≡ true → (a || b) ≡ true
or_last true b is = refl
or_last false b is = is

-- the filter of a table lets each of its keys pass
pub all_pass : (format : ℕ) (es : List Entry) → AllByRecursion (λ e. passes (filter_bits format es) e.key ≡ true) es
all_pass format es = by (has_filter format)
  where
    bits : List ℕ
    bits = filter_bytes (keys_of es)

    held : (key : List ℕ) → filters.may_hold (filter_bytes (keys_of es)) key ≡ true → passes (filter_bytes (keys_of es)) key ≡ true
    held key is =
        or_last (not (nat_le 8 (length (filter_bytes (keys_of es))) && nat_lt (8 * length (filter_bytes (keys_of es))) (2 ^ 32)))
        (filters.may_hold (filter_bytes (keys_of es)) key) is

    all_without : (fs : List Entry) → AllByRecursion (λ e. passes [] e.key ≡ true) fs
    all_without [] = tt
    all_without (f ∷ fs) = (refl, all_without fs)

    by : (t : Bool) → AllByRecursion (λ e. passes (cond t (filter_bytes (keys_of es)) []) e.key ≡ true) es
    by true =
        all_map (λ (e : Entry). filters.may_hold (filter_bytes (keys_of es)) e.key ≡ true)
        (λ (e : Entry). passes (filter_bytes (keys_of es)) e.key ≡ true) (λ e is. held e.key is) es
        (all_keys (λ key. filters.may_hold (filter_bytes (keys_of es)) key ≡ true) es (holds_all (keys_of es)))
    by false = all_without es

-- a key that it doesn't let pass is no entry's
none_passes : (bits key : List ℕ) (es : List Entry) → passes bits key ≡ false
    → AllByRecursion (λ e. passes bits e.key ≡ true) es → HasNone key es
none_passes bits key [] refused all = tt
none_passes bits key (e ∷ es) refused all = (by (eq_by_cmp key_cmp key e.key) refl, none_passes bits key es refused all.1)
  where
    by : (t : Bool) → eq_by_cmp key_cmp key e.key ≡ t → eq_by_cmp key_cmp key e.key ≡ false
    by false is = is
    by true is = let same : passes bits key ≡ true = ap (passes bits) (same_key key e.key is) ∙ all.0 in absurd cc

-- ---- one table

module _ (number : ℕ) where
  pub in_order : (t : TableShape) (es : List Entry) → IsShapeOf number es t → IsRising es
  in_order t es is = rising es is.table.tabled.ordered

  pub first_is : (t : TableShape) (es : List Entry) → IsShapeOf number es t → t.footer.first ≡ first_key es
  first_is t es is = ap (λ (f : Foot). f.head.first) is.foot

  pub last_is : (t : TableShape) (es : List Entry) → IsShapeOf number es t → t.footer.last ≡ last_key es
  last_is t es is = ap (λ (f : Foot). f.head.last) is.foot

  -- a key above the last one
  pub none_behind : (key : List ℕ) (t : TableShape) (es : List Entry) → IsShapeOf number es t
      → key_cmp key t.footer.last ≡ Greater → HasNone key es
  none_behind key t es is above =
      none_below key es (all_below key es (in_order t es is) (ap (key_cmp key) (sym (last_is t es is)) ∙ above))

  none_outside : (key : List ℕ) (t : TableShape) (es : List Entry) → IsShapeOf number es t → is_in_range key t ≡ false → HasNone key es
  none_outside key t es is outside = by (key_cmp key t.footer.first) (key_cmp key t.footer.last) refl refl outside
    where
      below : key_cmp key t.footer.first ≡ Less → HasNone key es
      below less = none_above key es (all_above key es (in_order t es is) (ap (key_cmp key) (sym (first_is t es is)) ∙ less))

      by : (r s : Ordering) → key_cmp key t.footer.first ≡ r → key_cmp key t.footer.last ≡ s
          → (not (is_lt r) && not (is_gt s)) ≡ false → HasNone key es
      by Less s first last test = below first
      by Equal Greater first last test = none_behind key t es is last
      by Greater Greater first last test = none_behind key t es is last
      by Equal Less first last test = absurd cc
      by Equal Equal first last test = absurd cc
      by Greater Less first last test = absurd cc
      by Greater Equal first last test = absurd cc

  -- where a table may not have a key it hasn't
  pub holds_none : (key : List ℕ) (t : TableShape) (es : List Entry) → IsShapeOf number es t → may_hold key t ≡ false → HasNone key es
  holds_none key t es is refused = by (is_in_range key t) refl refused
    where
      by : (b : Bool) → is_in_range key t ≡ b → (b && passes t.filter.items key) ≡ false → HasNone key es
      by false outside test = none_outside key t es is outside
      by true inside test =
          none_passes t.filter.items key es test
          (subst (λ (bits : List ℕ). AllByRecursion (λ e. passes bits e.key ≡ true) es) (sym is.filter) (all_pass t.format es))
