-- A merge that has made its first tables goes on behind their last key: what it keeps behind that is cut into the other tables.
use Rattle.std.proofs.Common.{◌≡◌, ℕ, zero, suc, ◌+◌, ◌<◌, ◌≤◌, Bool, true, false, cond, not, List, [], ◌∷◌, ◌++◌}
use Rattle.std.proofs.Common.{length, take, drop, refl, ap, sym, ◌∙◌, subst, arith, append_assoc, Option, Some, None}
use Rattle.std.proofs.lemmas.List.{drop_at, drop-drop}
use Rattle.std.proofs.lemmas.List.Elements.{filter-append}
use Rattle.std.specs.Cmp.Lexicographic.{nat_list_cmp_total}
use Rattle.std.specs.List.{AllByRecursion, filter}
use Rattle.std.specs.Ordering.{is_lt}
use Rattle.std.specs.declared.cmp.Ordering.TheVariants.{Less}
use Rattle.vl_model.specs.Cutting.{joined, last_key}
use Rattle.vl_engine_model.specs.Merging.{kept, merged_entries}
use Rattle.vl_engine_model.specs.Tables.{cut_into_tables}
use Rattle.vl_engine_model.specs.declared.job.Job.{Job}
use Rattle.vl_engine_model.specs.laws.TableLaws.{cut-whole}
use Rattle.vl_model.specs.Entries.{entry_cmp}
use Rattle.vl_model.specs.Keys.{key_cmp}
use Rattle.vl_model.specs.declared.entry.Entry.{Entry}
use Rattle.vl_model.specs.EntryOrder.{IsInOrder}
use Rattle.vl_model.specs.laws.OrderLaws.{IsRising, in_order-again, in_order-rising, rising}
use Rattle.vl_compact.specs.FirstTable.{closes, first_table, table_and_rest}
use Rattle.vl_compact.specs.Keys.{is_past}
use Rattle.vl_compact.specs.Walking.{is_behind}
use Rattle.vl_compact.specs.laws.BehindLaws.{filter-all, is_less}
use Rattle.vl_compact.specs.laws.Chosen.{all-filter}
use Rattle.vl_compact.specs.laws.FirstTableLaws.{all_later, turned_all, cut-first, last-append, none-pass, rest-behind}
use Rattle.vl_compact.specs.laws.Repeats.{true_false}

-- ---- filters one after the other

-- what a merge keeps is in order
pub merged_entries-in_order : (j : Job) → IsInOrder (merged_entries j)
merged_entries-in_order j = in_order-again (kept j)

rising-filter : (p : Entry → Bool) (es : List Entry) → IsRising es → IsRising (filter p es)
rising-filter p [] up = tt
rising-filter p (e ∷ es) up = by (p e) (rising-filter p es up.1)
  where
    by : (b : Bool) → IsRising (filter p es) → IsRising (cond b (e ∷ filter p es) (filter p es))
    by true later = (all-filter (λ f. entry_cmp e f ≡ Less) p es up.0, later)
    by false later = later

-- what is behind a key, of entries in order, is in order
pub behind-in_order : (at : Option (List ℕ)) (es : List Entry) → IsInOrder es → IsInOrder (filter (is_behind at) es)
behind-in_order at es are = in_order-rising (filter (is_behind at) es) (rising-filter (is_behind at) es (rising es are))

-- where each that passes the first test passes the second, the second changes nothing
filter-twice : (p q : Entry → Bool) → ((e : Entry) → p e ≡ true → q e ≡ true) → (es : List Entry) → filter p (filter q es) ≡ filter p es
filter-twice p q goes [] = refl
filter-twice p q goes (e ∷ es) = by (q e) (p e) refl refl (filter-twice p q goes es)
  where
    by : (b c : Bool) → q e ≡ b → p e ≡ c → filter p (filter q es) ≡ filter p es
        → filter p (cond b (e ∷ filter q es) (filter q es)) ≡ filter p (e ∷ es)
    by true c of_q of_p later = ap (λ l. cond (p e) (e ∷ l) l) later
    by false true of_q of_p later = absurd (true_false (sym (goes e of_p) ∙ of_q))
    by false false of_q of_p later = later ∙ sym (ap (λ b. cond b (e ∷ filter p es) (filter p es)) of_p)

past_entry : (at : Option (List ℕ)) (e : Entry) → is_behind at e ≡ true → is_past at e.key ≡ true
past_entry None e behind = refl
past_entry (Some key) e behind = behind

-- what is behind a key that is behind another is behind that one
pub behind_further : (at : Option (List ℕ)) (key : List ℕ) (e : Entry) → is_past at key ≡ true → is_behind (Some key) e ≡ true
    → is_behind at e ≡ true
behind_further None key e past behind = refl
behind_further (Some first) key e past behind =
    ap is_lt (nat_list_cmp_total.trans first key e.key (is_less (key_cmp first key) past) (is_less (key_cmp key e.key) behind))

-- of those behind a key those behind a further one are all that are behind that
pub behind-further : (at : Option (List ℕ)) (key : List ℕ) (es : List Entry) → is_past at key ≡ true
    → filter (is_behind (Some key)) (filter (is_behind at) es) ≡ filter (is_behind (Some key)) es
behind-further at key es past =
    filter-twice (is_behind (Some key)) (is_behind at) (λ e behind. behind_further at key e past behind) es

all_passed : (p : Entry → Bool) (es : List Entry) → AllByRecursion (λ (e : Entry). p e ≡ true) (filter p es)
all_passed p [] = tt
all_passed p (e ∷ es) = by (p e) refl (all_passed p es)
  where
    by : (b : Bool) → p e ≡ b → AllByRecursion (λ (e : Entry). p e ≡ true) (filter p es)
        → AllByRecursion (λ (e : Entry). p e ≡ true) (cond b (e ∷ filter p es) (filter p es))
    by true is later = (is, later)
    by false is later = later

-- ---- in two parts

-- entries in order are those that aren't behind a key, and then those that are
pub parted-rising : (at : Option (List ℕ)) (es : List Entry) → IsRising es
    → filter (λ (e : Entry). not (is_behind at e)) es ++ filter (is_behind at) es ≡ es
parted-rising at [] up = refl
parted-rising at (e ∷ es) up = by (is_behind at e) refl (parted-rising at es up.1)
  where
    by : (b : Bool) → is_behind at e ≡ b
        → filter (λ (e : Entry). not (is_behind at e)) es ++ filter (is_behind at) es ≡ es
        → cond (not b) (e ∷ filter (λ (e : Entry). not (is_behind at e)) es) (filter (λ (e : Entry). not (is_behind at e)) es)
        ++ cond b (e ∷ filter (is_behind at) es) (filter (is_behind at) es) ≡ e ∷ es
    by true is later =
        let all = all_later at e es up.0 is in
        ap (λ l. l ++ e ∷ filter (is_behind at) es)
        (none-pass (λ (e : Entry). not (is_behind at e)) es (turned_all (is_behind at) true es all))
        ∙ ap (λ l. e ∷ l) (filter-all (is_behind at) es all)
    by false is later = ap (λ l. e ∷ l) later

-- of entries in order those up to a key that is behind another are those up to that one, and then of those behind that one those up
-- to the further one
pub up_to-further : (at : Option (List ℕ)) (key : List ℕ) (es : List Entry) → IsRising es → is_past at key ≡ true
    → filter (λ (e : Entry). not (is_behind (Some key) e)) es
    ≡ filter (λ (e : Entry). not (is_behind at e)) es ++ filter (λ (e : Entry). not (is_behind (Some key) e)) (filter (is_behind at) es)
up_to-further at key es up past =
    ap (filter p) (sym (parted-rising at es up)) ∙ filter-append p (filter q es) (filter (is_behind at) es)
    ∙ ap (λ l. l ++ filter p (filter (is_behind at) es)) (filter-all p (filter q es) (short (filter q es) (all_passed q es)))
  where
    p : Entry → Bool
    p e = not (is_behind (Some key) e)

    q : Entry → Bool
    q e = not (is_behind at e)

    short : (fs : List Entry) → AllByRecursion (λ (e : Entry). q e ≡ true) fs → AllByRecursion (λ (e : Entry). p e ≡ true) fs
    short [] all = tt
    short (f ∷ fs) all = (by (is_behind (Some key) f) refl, short fs all.1)
      where
        by : (b : Bool) → is_behind (Some key) f ≡ b → not b ≡ true
        by true is = absurd (true_false (sym all.0 ∙ ap not (behind_further at key f past is)))
        by false is = refl

-- ---- the next table

-- what is so of the key of each of some entries is so of their last key
last_has : (P : List ℕ → Type 0) (e : Entry) (es : List Entry) → AllByRecursion (λ (f : Entry). P f.key) (e ∷ es) → P (last_key (e ∷ es))
last_has P e [] all = all.0
last_has P e (f ∷ fs) all = last_has P f fs all.1

table_has : (P : List ℕ → Type 0) (table es : List Entry) → P (last_key table) → AllByRecursion (λ (f : Entry). P f.key) es
    → P (last_key (table_and_rest table es).0)
table_has P table [] here all = here
table_has P table (e ∷ es) here all =
    by (closes table e) (table_has P (table ++ e ∷ []) es (subst P (sym (last-append table e)) all.0) all.1)
  where
    by : (b : Bool) → P (last_key (table_and_rest (table ++ e ∷ []) es).0)
        → P (last_key (cond b (table, e ∷ es) (table_and_rest (table ++ e ∷ []) es)).0)
    by true later = here
    by false later = later

past_all : (at : Option (List ℕ)) (es : List Entry) → AllByRecursion (λ (e : Entry). is_behind at e ≡ true) es
    → AllByRecursion (λ (e : Entry). is_past at e.key ≡ true) es
past_all at [] all = tt
past_all at (e ∷ es) all = (past_entry at e all.0, past_all at es all.1)

module _ (es : List Entry) (at : Option (List ℕ)) (e : Entry) (left : List Entry) (is : filter (is_behind at) es ≡ e ∷ left) where
  -- the last key of the first table of what is behind a key is behind that key
  pub last_past : is_past at (last_key (first_table (e ∷ left)).0) ≡ true
  last_past =
      let all = past_all at (e ∷ left) (subst (AllByRecursion (λ (e : Entry). is_behind at e ≡ true)) is (all_passed (is_behind at) es)) in
      table_has (λ key. is_past at key ≡ true) (e ∷ []) left all.0 all.1

  -- and the rest is what is behind that last key
  pub rest_left : IsInOrder es → (first_table (e ∷ left)).1 ≡ filter (is_behind (Some (last_key (first_table (e ∷ left)).0))) es
  rest_left are =
      rest-behind e left (subst IsInOrder is (behind-in_order at es are))
      ∙ ap (filter (is_behind (Some (last_key (first_table (e ∷ left)).0)))) (sym is)
      ∙ behind-further at (last_key (first_table (e ∷ left)).0) es last_past

  module _ (n : ℕ) (are : IsInOrder es) (others : drop n (cut_into_tables es) ≡ cut_into_tables (filter (is_behind at) es)) where
    -- where the others are cut of what is behind a key, the next one is the first table of that
    pub output_there : drop n (cut_into_tables es) ≡ (first_table (e ∷ left)).0 ∷ cut_into_tables (first_table (e ∷ left)).1
    output_there = others ∙ ap cut_into_tables is ∙ cut-first e left

    -- and those after it are cut of what is behind its last key
    pub others_then : drop (n + 1) (cut_into_tables es)
        ≡ cut_into_tables (filter (is_behind (Some (last_key (first_table (e ∷ left)).0))) es)
    others_then =
        sym (drop-drop 1 n (cut_into_tables es)) ∙ ap (drop 1) output_there ∙ ap cut_into_tables (rest_left are)

    pub next_output : (drop n (cut_into_tables es) ≡ (first_table (e ∷ left)).0 ∷ drop (n + 1) (cut_into_tables es))
        × (drop (n + 1) (cut_into_tables es) ≡ cut_into_tables (filter (is_behind (Some (last_key (first_table (e ∷ left)).0))) es))
    next_output = (
      output_there ∙ ap (λ l. (first_table (e ∷ left)).0 ∷ cut_into_tables l) (rest_left are)
          ∙ ap (λ l. (first_table (e ∷ left)).0 ∷ l) (sym others_then),
      others_then,
    )

-- at first all is behind
pub others_first : (es : List Entry) → drop 0 (cut_into_tables es) ≡ cut_into_tables (filter (is_behind None) es)
others_first es = ap cut_into_tables (sym (filter-all (is_behind None) es (each es)))
  where
    each : (es : List Entry) → AllByRecursion (λ (e : Entry). is_behind None e ≡ true) es
    each [] = tt
    each (e ∷ es) = (refl, each es)

-- ---- whether one is missing

-- no table is left exactly where nothing is
pub none_left : (es : List Entry) → cut_into_tables es ≡ [] → es ≡ []
none_left [] none = refl
none_left (e ∷ es) none = absurd (some (sym (cut-first e es) ∙ none))
  where
    some : {t : List Entry} {ts : List (List Entry)} → t ∷ ts ≡ [] → ⊥
    some is = cc

-- so many tables are all where nothing is left
pub all_there : (n : ℕ) (es : List Entry) (at : Option (List ℕ)) → n ≤ length (cut_into_tables es)
    → drop n (cut_into_tables es) ≡ cut_into_tables (filter (is_behind at) es) → filter (is_behind at) es ≡ []
    → n ≡ length (cut_into_tables es)
all_there n es at within others none = counted n (cut_into_tables es) within (others ∙ ap cut_into_tables none)
  where
    counted : (n : ℕ) (ess : List (List Entry)) → n ≤ length ess → drop n ess ≡ [] → n ≡ length ess
    counted zero [] within is = refl
    counted zero (fs ∷ ess) within is = absurd (let no_such : fs ∷ ess ≡ [] = is in cc)
    counted (suc n) [] within is = absurd (omega (arith, within))
    counted (suc n) (fs ∷ ess) within is = let later = counted n ess (omega (arith, within)) is in omega (arith, later)

-- and one is missing where something is
pub one_missing : (n : ℕ) (es : List Entry) (at : Option (List ℕ)) (e : Entry) (left : List Entry)
    → drop n (cut_into_tables es) ≡ cut_into_tables (filter (is_behind at) es) → filter (is_behind at) es ≡ e ∷ left
    → n < length (cut_into_tables es)
one_missing n es at e left others some =
    counted n (cut_into_tables es) (first_table (e ∷ left)).0 (cut_into_tables (first_table (e ∷ left)).1)
    (others ∙ ap cut_into_tables some ∙ cut-first e left)
  where
    counted : (n : ℕ) (ess : List (List Entry)) (t : List Entry) (ts : List (List Entry)) → drop n ess ≡ t ∷ ts → n < length ess
    counted zero [] t ts is = absurd (let no_such : [] ≡ t ∷ ts = is in cc)
    counted zero (fs ∷ ess) t ts is = omega arith
    counted (suc n) [] t ts is = absurd (let no_such : [] ≡ t ∷ ts = is in cc)
    counted (suc n) (fs ∷ ess) t ts is = let later = counted n ess t ts is in omega (arith, later)

-- ---- by what the tables hold

-- the tables from one on are those of what they hold
cut-again : (n : ℕ) (es : List Entry) → drop n (cut_into_tables es) ≡ cut_into_tables (joined (drop n (cut_into_tables es)))
cut-again zero es = ap cut_into_tables (sym (cut-whole es))
cut-again (suc n) [] = refl
cut-again (suc n) (e ∷ es) =
    ap (drop (suc n)) (cut-first e es) ∙ cut-again n (first_table (e ∷ es)).1
    ∙ ap (λ l. cut_into_tables (joined l)) (sym (ap (drop (suc n)) (cut-first e es)))

joined-parts : (n : ℕ) (ess : List (List Entry)) → joined (take n ess) ++ joined (drop n ess) ≡ joined ess
joined-parts zero ess = refl
joined-parts (suc n) [] = refl
joined-parts (suc n) (es ∷ ess) = append_assoc es (joined (take n ess)) (joined (drop n ess)) ∙ ap (λ l. es ++ l) (joined-parts n ess)

behind_front : (front back other : List Entry) → front ++ back ≡ front ++ other → back ≡ other
behind_front front back other same =
    sym (drop_at front back (length front) refl) ∙ ap (drop (length front)) same ∙ drop_at front other (length front) refl

-- where so many first tables hold what isn't behind a key, the others are cut of what is
pub others_behind : (n : ℕ) (es : List Entry) (at : Option (List ℕ)) → IsInOrder es
    → joined (take n (cut_into_tables es)) ≡ filter (λ (e : Entry). not (is_behind at e)) es
    → drop n (cut_into_tables es) ≡ cut_into_tables (filter (is_behind at) es)
others_behind n es at are held =
    let others = joined (drop n (cut_into_tables es)) in
    let front = filter (λ (e : Entry). not (is_behind at e)) es in
    cut-again n es
    ∙ ap cut_into_tables (behind_front front others (filter (is_behind at) es)
    (ap (λ l. l ++ others) (sym held) ∙ joined-parts n (cut_into_tables es) ∙ cut-whole es ∙ sym (parted-rising at es (rising es are))))
