-- In a level of tables that are apart one table at most has a key.
use Rattle.std.specs.Prelude.{◌≡◌, ℕ, suc, ◌+◌, ◌<◌, ◌≤◌, Bool, true, false, List, [], ◌∷◌, ◌++◌, length, get_or, Option}
use Rattle.std.specs.List.{AllByRecursion, prefix_len}
use Rattle.std.specs.Cmp.Lexicographic.{nat_list_cmp_total}
use Rattle.std.specs.Ordering.{eq_by_cmp, is_gt}
use Rattle.std.specs.declared.cmp.Ordering.{Ordering}
use Rattle.std.specs.declared.cmp.Ordering.TheVariants.{Less, Equal, Greater}
use Rattle.std.proofs.Common.{refl, ap, sym, subst, ◌∙◌, append_assoc, arith, cond}
use Rattle.vl_model.specs.Keys.{key_cmp}
use Rattle.vl_model.specs.declared.entry.Entry.{Entry}
use Rattle.vl_model.specs.Cutting.{joined}
use Rattle.vl_model.specs.laws.OrderLaws.{all-append}
use Rattle.vl_model.specs.Lookups.{IsParted}
use Rattle.vl_table.specs.Tables.{IsOf, number_of, shape_of}
use Rattle.vl_table.specs.declared.table.Table.{Table}
use Rattle.vl_table.specs.laws.KeyRanges.{HasNone, above_turned, all_above, all_map, below_turned, none_above, of_last, up_to_below}
use Rattle.vl_table.specs.laws.RangeLaws.{first_is, in_order, last_is, none_behind}
use Rattle.vl_table.specs.OfTables.{AreOf}
use Rattle.vl_version.specs.levels.LevelTables.{AreApart, ends_before, footer_of}

greater : (r : Ordering) → is_gt r ≡ true → r ≡ Greater
greater Less is = absurd cc
greater Equal is = absurd cc
greater Greater is = refl

module _ {H : Type 0} (bytes_of : H → Option (List ℕ)) where
  -- ---- tables that are apart

  -- the next table's entries, its last one too, are above a table's last key
  next_above : (t u : Table H) (es : List Entry) → IsOf bytes_of u es → key_cmp (footer_of t).last (footer_of u).first ≡ Less
      → AllByRecursion (λ e. key_cmp (footer_of t).last e.key ≡ Less) es × (key_cmp (footer_of t).last (footer_of u).last ≡ Less)
  next_above t u es is less =
      let all = all_above (footer_of t).last es (in_order (number_of u) (shape_of u) es is.shape)
      (ap (key_cmp (footer_of t).last) (sym (first_is (number_of u) (shape_of u) es is.shape)) ∙ less) in (
        all,
        ap (key_cmp (footer_of t).last) (last_is (number_of u) (shape_of u) es is.shape)
            ∙ of_last (λ k. key_cmp (footer_of t).last k ≡ Less) es is.shape.table.tabled.some all,
      )

  -- so are those of all later ones
  pub later_above : (t : Table H) (ts : List (Table H)) (ess : List (List Entry)) → AreApart (t ∷ ts) → AreOf bytes_of ts ess
      → AllByRecursion (λ e. key_cmp (footer_of t).last e.key ≡ Less) (joined ess)
  later_above t [] [] apart are = tt
  later_above t [] (es ∷ ess) apart are = absurd are
  later_above t (u ∷ us) [] apart are = absurd are
  later_above t (u ∷ us) (es ∷ ess) apart are =
      let next = next_above t u es are.0 apart.0 in
      let later = later_above u us ess apart.1 are.1 in
      all-append (λ e. key_cmp (footer_of t).last e.key ≡ Less) es (joined ess) next.0
      (all_map (λ e. key_cmp (footer_of u).last e.key ≡ Less) (λ e. key_cmp (footer_of t).last e.key ≡ Less)
      (λ e less. nat_list_cmp_total.trans (footer_of t).last (footer_of u).last e.key next.1 less) (joined ess) later)

  later_ends : (t : Table H) (ts : List (Table H)) (ess : List (List Entry)) → AreApart (t ∷ ts) → AreOf bytes_of ts ess
      → AllByRecursion (λ (u : Table H). key_cmp (footer_of t).last (footer_of u).last ≡ Less) ts
  later_ends t [] [] apart are = tt
  later_ends t [] (es ∷ ess) apart are = absurd are
  later_ends t (u ∷ us) [] apart are = absurd are
  later_ends t (u ∷ us) (es ∷ ess) apart are =
      let next = next_above t u es are.0 apart.0 in (
        next.1,
        all_map (λ (v : Table H). key_cmp (footer_of u).last (footer_of v).last ≡ Less)
            (λ (v : Table H). key_cmp (footer_of t).last (footer_of v).last ≡ Less)
            (λ v less. nat_list_cmp_total.trans (footer_of t).last (footer_of u).last (footer_of v).last next.1 less) us
            (later_ends u us ess apart.1 are.1),
      )

  pub apart_rest : (t : Table H) (ts : List (Table H)) → AreApart (t ∷ ts) → AreApart ts
  apart_rest t [] apart = tt
  apart_rest t (u ∷ us) apart = apart.1

  module _ (key : List ℕ) where
    -- so a table may be found by halving
    pub level-parted : (ts : List (Table H)) (ess : List (List Entry)) → AreApart ts → AreOf bytes_of ts ess → IsParted (ends_before key) ts
    level-parted [] [] apart are = tt
    level-parted [] (es ∷ ess) apart are = absurd are
    level-parted (t ∷ ts) [] apart are = absurd are
    level-parted (t ∷ ts) (es ∷ ess) apart are = (
      all_map (λ (u : Table H). key_cmp (footer_of t).last (footer_of u).last ≡ Less)
          (λ (u : Table H). ends_before key u ≡ true → ends_before key t ≡ true)
          (λ u less ends. ap is_gt
          (above_turned (footer_of t).last key
          (nat_list_cmp_total.trans (footer_of t).last (footer_of u).last key less
          (below_turned key (footer_of u).last (greater (key_cmp key (footer_of u).last) ends)))))
          ts (later_ends t ts ess apart are.1),
      level-parted ts ess (apart_rest t ts apart) are.1,
    )

    -- the table at a position has the key, if one has
    pub record IsHere (ess : List (List Entry)) (t : Table H) : Type 0 where
      pub front : List Entry
      pub entries : List Entry
      pub back : List Entry
      pub split : joined ess ≡ front ++ (entries ++ back)
      pub is : IsOf bytes_of t entries
      pub before : HasNone key front
      pub behind : HasNone key back

    -- behind the tables that end before the key it is at most in the first one
    pub record IsCut (ts : List (Table H)) (ess : List (List Entry)) (at : ℕ) : Type 0 where
      pub past : length ts ≤ at → HasNone key (joined ess)
      pub here : (t : Table H) → at < length ts → t ≡ get_or ts at t → IsHere ess t

    one_more : (n : ℕ) → suc n ≡ 1 + n
    one_more n = omega arith

    pub level_cut : (ts : List (Table H)) (ess : List (List Entry)) → AreApart ts → AreOf bytes_of ts ess
        → IsCut ts ess (prefix_len (ends_before key) ts)
    level_cut [] [] apart are = record { past = λ past. tt; here = λ t within is. absurd (omega (arith, within)) }
    level_cut [] (es ∷ ess) apart are = absurd are
    level_cut (t ∷ ts) [] apart are = absurd are
    level_cut (t ∷ ts) (es ∷ ess) apart are = by (level_cut ts ess (apart_rest t ts apart) are.1) (ends_before key t) refl
      where
        count : ℕ
        count = prefix_len (ends_before key) ts

        by : IsCut ts ess count → (b : Bool) → ends_before key t ≡ b → IsCut (t ∷ ts) (es ∷ ess) (cond b (1 + count) 0)
        by later true ends =
            let none = none_behind (number_of t) key (shape_of t) es are.0.shape (greater (key_cmp key (footer_of t).last) ends) in
            record {
              past = λ past. all-append (λ e. eq_by_cmp key_cmp key e.key ≡ false) es (joined ess) none (later.past (omega (arith, past)));
              here = λ u within is.
                  let rest = later.here u (omega (arith, within)) (is ∙ ap (λ (n : ℕ). get_or (t ∷ ts) n u) (sym (one_more count))) in
                  record {
                    front = es ++ rest.front;
                    entries = rest.entries;
                    back = rest.back;
                    split = ap (λ (l : List Entry). es ++ l) rest.split ∙ sym (append_assoc es rest.front (rest.entries ++ rest.back));
                    is = rest.is;
                    before = all-append (λ e. eq_by_cmp key_cmp key e.key ≡ false) es rest.front none rest.before;
                    behind = rest.behind;
                  };
            }
        by later false ends = record {
          past = λ past. absurd (omega (arith, past));
          here = λ u within is. record {
            front = [];
            entries = es;
            back = joined ess;
            split = refl;
            is = subst (λ (v : Table H). IsOf bytes_of v es) (sym is) are.0;
            before = tt;
            behind = none_above key (joined ess) (all_map (λ e. key_cmp (footer_of t).last e.key ≡ Less) (λ e. key_cmp key e.key ≡ Less)
                (λ e less. up_to_below key (footer_of t).last e.key ends less) (joined ess) (later_above t ts ess apart are.1));
          };
        }
