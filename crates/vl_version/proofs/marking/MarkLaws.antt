-- The first table that has an entry, among more tables and in a level.
use Rattle.std.specs.Prelude.{◌≡◌, ℕ, suc, ◌+◌, ◌<◌, ◌≤◌, Bool, true, false, List, [], ◌∷◌, ◌++◌, length, get_or, Option, Some, None}
use Rattle.std.specs.List.{prefix_len}
use Rattle.std.specs.Ordering.{eq_by_cmp, is_gt}
use Rattle.std.specs.declared.cmp.Ordering.{Ordering}
use Rattle.std.specs.declared.cmp.Ordering.TheVariants.{Less, Equal, Greater}
use Rattle.std.proofs.Common.{refl, ap, sym, subst, ◌∙◌, arith, cond}
use Rattle.vl_model.specs.Keys.{key_cmp}
use Rattle.vl_model.specs.declared.entry.Entry.{Entry}
use Rattle.vl_model.specs.Cutting.{joined}
use Rattle.vl_table.specs.OfTables.{AreOf}
use Rattle.vl_table.specs.Tables.{IsOf, number_of, shape_of}
use Rattle.vl_table.specs.declared.table.Table.{Table}
use Rattle.vl_table.specs.laws.KeyRanges.{HasNone, all_map, none_above, up_to_below}
use Rattle.vl_table.specs.laws.RangeLaws.{none_behind}
use Rattle.vl_version.specs.Bases.{is_input}
use Rattle.vl_version.specs.levels.LevelTables.{AreApart, ends_before, footer_of}
use Rattle.vl_version.specs.levels.Looks.{sought}
use Rattle.vl_version.specs.levels.Marks.{first_mark, is_passed, mark_if, mark_of, or_mark}
use Rattle.vl_version.specs.declared.levels.mark.Asked.{Asked}
use Rattle.vl_version.proofs.looking.LevelLaws.{apart_rest, later_above}
use Rattle.vl_version.proofs.looking.LookLaws.{sought-none}
use Rattle.vl_version.proofs.looking.Parts.{all-back, all-front}

greater : (r : Ordering) → is_gt r ≡ true → r ≡ Greater
greater Less is = absurd cc
greater Equal is = absurd cc
greater Greater is = refl

or-assoc : (a b c : Option Bool) → or_mark a (or_mark b c) ≡ or_mark (or_mark a b) c
or-assoc None b c = refl
or-assoc (Some m) b c = refl

pub or-none : (a : Option Bool) → or_mark a None ≡ a
or-none None = refl
or-none (Some m) = refl

unmarked : (passed input : Bool) (found : Option Entry) → found ≡ None → cond passed None (mark_if input found) ≡ None
unmarked true input found none = refl
unmarked false input found none = ap (mark_if input) none

module _ {H : Type 0} (asked : Asked) where
  -- ---- more tables

  module _ (bytes_of : H → Option (List ℕ)) where
    -- the first of more tables is the first of the first ones, else of the others
    pub record AreParts (ts us : List (Table H)) (ess : List (List Entry)) : Type 0 where
      pub front : List (List Entry)
      pub back : List (List Entry)
      pub are : AreOf bytes_of ts front
      pub are_behind : AreOf bytes_of us back
      pub first : first_mark asked (ts ++ us) ess ≡ or_mark (first_mark asked ts front) (first_mark asked us back)

    pub parts_of : (ts us : List (Table H)) (ess : List (List Entry)) → AreOf bytes_of (ts ++ us) ess → AreParts ts us ess
    parts_of [] us ess are = record { front = []; back = ess; are = tt; are_behind = are; first = refl }
    parts_of (t ∷ ts) us [] are = absurd are
    parts_of (t ∷ ts) us (es ∷ ess) are =
        let rest = parts_of ts us ess are.1 in
        record {
          front = es ∷ rest.front;
          back = rest.back;
          are = (are.0, rest.are);
          are_behind = rest.are_behind;
          first = ap (or_mark (mark_of asked t es)) rest.first
              ∙ or-assoc (mark_of asked t es) (first_mark asked ts rest.front) (first_mark asked us rest.back);
        }

  -- ---- one table

  -- one that hasn't got the key
  pub mark-none : (t : Table H) (es : List Entry) → HasNone asked.key.now es → mark_of asked t es ≡ None
  mark-none t es none =
      unmarked (is_passed asked t) (is_input asked.inputs.now t) (sought asked.look asked.key.now es)
      (sought-none asked.look asked.key.now es none)

  marks-none : (bytes_of : H → Option (List ℕ)) (ts : List (Table H)) (ess : List (List Entry)) → AreOf bytes_of ts ess
      → HasNone asked.key.now (joined ess) → first_mark asked ts ess ≡ None
  marks-none bytes_of [] ess are none = refl
  marks-none bytes_of (t ∷ ts) [] are none = refl
  marks-none bytes_of (t ∷ ts) (es ∷ ess) are none =
      let other : Entry → Type 0 = λ (e : Entry). eq_by_cmp key_cmp asked.key.now e.key ≡ false in
      ap (λ (m : Option Bool). or_mark m (first_mark asked ts ess)) (mark-none t es (all-front other es (joined ess) none))
      ∙ marks-none bytes_of ts ess are.1 (all-back other es (joined ess) none)

  -- ---- a level whose tables are apart

  module _ (bytes_of : H → Option (List ℕ)) where
    -- the table at a position is the first, if one is
    pub record IsMarked (ts : List (Table H)) (ess : List (List Entry)) (t : Table H) : Type 0 where
      pub entries : List Entry
      pub is : IsOf bytes_of t entries
      pub first : first_mark asked ts ess ≡ mark_of asked t entries

    pub record IsMarkedAt (ts : List (Table H)) (ess : List (List Entry)) (at : ℕ) : Type 0 where
      pub past : length ts ≤ at → first_mark asked ts ess ≡ None
      pub here : (t : Table H) → at < length ts → t ≡ get_or ts at t → IsMarked ts ess t

    one_more : (n : ℕ) → suc n ≡ 1 + n
    one_more n = omega arith

    -- behind the tables that end before the key it is the first one
    pub level_marked : (ts : List (Table H)) (ess : List (List Entry)) → AreApart ts → AreOf bytes_of ts ess
        → IsMarkedAt ts ess (prefix_len (ends_before asked.key.now) ts)
    level_marked [] [] apart are = record { past = λ past. refl; here = λ t within is. absurd (omega (arith, within)) }
    level_marked [] (es ∷ ess) apart are = absurd are
    level_marked (t ∷ ts) [] apart are = absurd are
    level_marked (t ∷ ts) (es ∷ ess) apart are =
        by (level_marked ts ess (apart_rest bytes_of t ts apart) are.1) (ends_before asked.key.now t) refl
      where
        key : List ℕ
        key = asked.key.now

        count : ℕ
        count = prefix_len (ends_before key) ts

        by : IsMarkedAt ts ess count → (b : Bool) → ends_before key t ≡ b → IsMarkedAt (t ∷ ts) (es ∷ ess) (cond b (1 + count) 0)
        by later true ends =
            let none = mark-none t es
            (none_behind (number_of t) key (shape_of t) es are.0.shape (greater (key_cmp key (footer_of t).last) ends)) in
            let first = ap (λ (m : Option Bool). or_mark m (first_mark asked ts ess)) none in
            record {
              past = λ past. first ∙ later.past (omega (arith, past));
              here = λ u within is.
                  let rest = later.here u (omega (arith, within)) (is ∙ ap (λ (n : ℕ). get_or (t ∷ ts) n u) (sym (one_more count))) in
                  record { entries = rest.entries; is = rest.is; first = first ∙ rest.first };
            }
        by later false ends = record {
          past = λ past. absurd (omega (arith, past));
          here = λ u within is. record {
            entries = es;
            is = subst (λ (v : Table H). IsOf bytes_of v es) (sym is) are.0;
            first =
                ap (or_mark (mark_of asked t es)) (marks-none bytes_of ts ess are.1
                (none_above key (joined ess) (all_map (λ e. key_cmp (footer_of t).last e.key ≡ Less) (λ e. key_cmp key e.key ≡ Less)
                (λ e less. up_to_below key (footer_of t).last e.key ends less) (joined ess) (later_above bytes_of t ts ess apart are.1))))
                ∙ or-none (mark_of asked t es) ∙ ap (λ (v : Table H). mark_of asked v es) (sym is);
          };
        }
