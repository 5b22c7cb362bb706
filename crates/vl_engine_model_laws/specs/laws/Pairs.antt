-- Tables by their keys and numbers, and the inputs that a pair of levels gives.
use Rattle.std.proofs.Common.{◌≡◌, ◌≢◌, ◌⊎◌, inl, inr, ⊎_elim, ℕ, Bool, true, false, cond, not, ◌&&◌, ◌||◌, List, []}
use Rattle.std.proofs.Common.{◌∷◌, ◌++◌, refl, ap, sym, ◌∙◌, subst, arith}
use Rattle.std.proofs.lemmas.Bool.{and_parts, and_from}
use Rattle.std.proofs.lemmas.Bool.Decides.{nat_tests}
use Rattle.std.specs.Prelude.{Some, ◌==◌}
use Rattle.std.specs.List.{AllByRecursion, list_any, filter}
use Rattle.std.specs.Cmp.Lexicographic.{nat_list_cmp_total}
use Rattle.std.specs.Ordering.{eq_by_cmp, is_lt, ordering_reverse}
use Rattle.std.specs.declared.cmp.Ordering.{Ordering}
use Rattle.std.specs.declared.cmp.Ordering.TheVariants.{Less, Equal, Greater}
use Rattle.vl_model.specs.Keys.{key_cmp}
use Rattle.vl_model.specs.laws.WinnerLaws.{same_key, key_tied}
use Rattle.vl_model.specs.declared.entry.Entry.{Entry}
use Rattle.vl_engine_model.specs.Levels.{is_among, lesser_key, greater_key, Range, meets}
use Rattle.vl_engine_model.specs.Sources.{numbers_of}
use Rattle.vl_engine_model.specs.TidyLevels.{Le, IsRanged, IsDistinct, IsApart}
use Rattle.vl_engine_model.specs.declared.table.Table.{Table}
use Rattle.vl_engine_model_laws.specs.laws.Gathered.{IsWithout, IsClear, IsUntouched, IsParted}
use Rattle.vl_engine_model_laws.specs.laws.Lists.{true_false, or_cases}

-- ---- the order of keys

pub le_then : (a b c : List ℕ) → Le a b → Le b c → Le a c
le_then a b c ab bc = by (key_cmp c a) refl (key_cmp c b) refl
  where
    by : (r : Ordering) → key_cmp c a ≡ r → (s : Ordering) → key_cmp c b ≡ s → is_lt (key_cmp c a) ≡ false
    by Equal is s other = ap is_lt is
    by Greater is s other = ap is_lt is
    by Less is Less other = absurd (true_false (sym (ap is_lt other) ∙ bc))
    by Less is Equal other =
        absurd (true_false (sym (ap is_lt (sym (nat_list_cmp_total.congr c b a other) ∙ is)) ∙ ab))
    by Less is Greater other =
        let turned : key_cmp b c ≡ Less = nat_list_cmp_total.antisymm b c ∙ ap ordering_reverse other in
        absurd (true_false (sym (ap is_lt (nat_list_cmp_total.trans b c a turned is)) ∙ ab))

pub lesser_left : (a b : List ℕ) → Le (lesser_key a b) a
lesser_left a b = by (is_lt (key_cmp b a)) refl
  where
    by : (t : Bool) → is_lt (key_cmp b a) ≡ t → is_lt (key_cmp a (cond t b a)) ≡ false
    by true is = turned (key_cmp b a) refl
      where
        turned : (r : Ordering) → key_cmp b a ≡ r → is_lt (key_cmp a b) ≡ false
        turned Less same = ap is_lt (nat_list_cmp_total.antisymm a b ∙ ap ordering_reverse same)
        turned Equal same = ap is_lt (nat_list_cmp_total.antisymm a b ∙ ap ordering_reverse same)
        turned Greater same = absurd (true_false (sym is ∙ ap is_lt same))
    by false is = ap is_lt (key_tied a)

pub lesser_right : (a b : List ℕ) → Le (lesser_key a b) b
lesser_right a b = by (is_lt (key_cmp b a)) refl
  where
    by : (t : Bool) → is_lt (key_cmp b a) ≡ t → is_lt (key_cmp b (cond t b a)) ≡ false
    by true is = ap is_lt (key_tied b)
    by false is = is

pub greater_left : (a b : List ℕ) → Le a (greater_key a b)
greater_left a b = by (is_lt (key_cmp a b)) refl
  where
    by : (t : Bool) → is_lt (key_cmp a b) ≡ t → is_lt (key_cmp (cond t b a) a) ≡ false
    by true is = turned (key_cmp a b) refl
      where
        turned : (r : Ordering) → key_cmp a b ≡ r → is_lt (key_cmp b a) ≡ false
        turned Less same = ap is_lt (nat_list_cmp_total.antisymm b a ∙ ap ordering_reverse same)
        turned Equal same = ap is_lt (nat_list_cmp_total.antisymm b a ∙ ap ordering_reverse same)
        turned Greater same = absurd (true_false (sym is ∙ ap is_lt same))
    by false is = ap is_lt (key_tied a)

pub greater_right : (a b : List ℕ) → Le b (greater_key a b)
greater_right a b = by (is_lt (key_cmp a b)) refl
  where
    by : (t : Bool) → is_lt (key_cmp a b) ≡ t → is_lt (key_cmp (cond t b a) b) ≡ false
    by true is = ap is_lt (key_tied b)
    by false is = is

-- ---- lists

module _ {X : Type 0} where
  pub all_parts : (P : X → Type 0) (xs ys : List X) → AllByRecursion P (xs ++ ys)
      → AllByRecursion P xs × AllByRecursion P ys
  all_parts P [] ys all = (tt, all)
  all_parts P (x ∷ xs) ys all = let both = all_parts P xs ys all.1 in ((all.0, both.0), both.1)

  pub all_both : (P : X → Type 0) (xs ys : List X) → AllByRecursion P xs → AllByRecursion P ys
      → AllByRecursion P (xs ++ ys)
  all_both P [] ys some others = others
  all_both P (x ∷ xs) ys some others = (some.0, all_both P xs ys some.1 others)

  pub all_weaker : (P Q : X → Type 0) → ((x : X) → P x → Q x) → (xs : List X) → AllByRecursion P xs
      → AllByRecursion Q xs
  all_weaker P Q f [] all = tt
  all_weaker P Q f (x ∷ xs) all = (f x all.0, all_weaker P Q f xs all.1)

  pub all_filtered : (P : X → Type 0) (p : X → Bool) (xs : List X) → AllByRecursion P xs
      → AllByRecursion P (filter p xs)
  all_filtered P p [] all = tt
  all_filtered P p (x ∷ xs) all = elim (p x) as (λ b. AllByRecursion P (cond b (x ∷ filter p xs) (filter p xs))) [
    | true ↦ (all.0, all_filtered P p xs all.1)
    | false ↦ all_filtered P p xs all.1
  ]

pub distinct_parts : (xs ys : List Table) → IsDistinct (xs ++ ys)
    → IsDistinct xs × (IsDistinct ys × AllByRecursion (λ (x : Table). AllByRecursion (λ (y : Table). y.number ≢ x.number) ys) xs)
distinct_parts [] ys d = (tt, (d, tt))
distinct_parts (x ∷ xs) ys d =
    let later = distinct_parts xs ys d.1 in
    let both = all_parts (λ (u : Table). u.number ≢ x.number) xs ys d.0 in
    ((both.0, later.0), (later.1.0, (both.1, later.1.1)))

-- each of the one list is of another number than each of the other
abbrev pub AreOther : List Table → List Table → Type 0
AreOther xs ys = AllByRecursion (λ (x : Table). AllByRecursion (λ (y : Table). y.number ≢ x.number) ys) xs

pub others_turned : (xs ys : List Table) → AreOther xs ys → AreOther ys xs
others_turned xs [] other = tt
others_turned xs (y ∷ ys) other = (heads xs other, others_turned xs ys (tails xs other))
  where
    heads : (zs : List Table)
        → AllByRecursion (λ (x : Table). AllByRecursion (λ (u : Table). u.number ≢ x.number) (y ∷ ys)) zs
        → AllByRecursion (λ (z : Table). z.number ≢ y.number) zs
    heads [] all = tt
    heads (z ∷ zs) all = ((λ same. all.0.0 (sym same)), heads zs all.1)

    tails : (zs : List Table)
        → AllByRecursion (λ (x : Table). AllByRecursion (λ (u : Table). u.number ≢ x.number) (y ∷ ys)) zs
        → AreOther zs ys
    tails [] all = tt
    tails (z ∷ zs) all = (all.0.1, tails zs all.1)

pub not_one_of : (u : Table) (ins : List Table) → AllByRecursion (λ (t : Table). t.number ≢ u.number) ins
    → is_among (numbers_of ins) u ≡ false
not_one_of u [] all = refl
not_one_of u (t ∷ ts) all =
    let here : (t.number == u.number) ≡ false = let apart = all.0 in grind (arith, nat_tests, apart) in
    ap (λ b. b || is_among (numbers_of ts) u) here ∙ not_one_of u ts all.1

-- a table of one of some numbers has the number of one of these
pub one_is : (u : Table) (P : Table → Type 0) (ins : List Table) → AllByRecursion P ins
    → is_among (numbers_of ins) u ≡ true
    → (t : Table) × (t.number ≡ u.number) × P t
one_is u P [] all is = absurd (true_false (sym is))
one_is u P (t ∷ ts) all is = ⊎_elim
    (λ (here : (t.number == u.number) ≡ true). let same : t.number ≡ u.number = grind (arith, nat_tests, here) in (t, same, all.0))
    (λ (later : is_among (numbers_of ts) u ≡ true). one_is u P ts all.1 later)
    (or_cases (t.number == u.number) (is_among (numbers_of ts) u) is)

pub one_itself : (P : Table → Type 0) (ins : List Table)
    → AllByRecursion (λ (t : Table). is_among (numbers_of ins) t ≡ true) ins
one_itself P [] = tt
one_itself P (t ∷ ts) =
    let here : (t.number == t.number) ≡ true = grind (arith, nat_tests) in (
      ap (λ b. b || is_among (numbers_of ts) t) here,
      all_weaker (λ (u : Table). is_among (numbers_of ts) u ≡ true)
          (λ (u : Table). is_among (numbers_of (t ∷ ts)) u ≡ true)
          (λ u is. or_right (t.number == u.number) (is_among (numbers_of ts) u) is) ts (one_itself P ts),
    )
  where
    or_right : (a b : Bool) → b ≡ true → (a || b) ≡ true
    or_right true b h = refl
    or_right false b h = h

-- ---- keys of tables

abbrev pub holds : List ℕ → Table → Bool
holds key t = list_any (λ (e : Entry). eq_by_cmp key_cmp key e.key) t.entries

pub not_held : (key : List ℕ) (es : List Entry)
    → list_any (λ (e : Entry). eq_by_cmp key_cmp key e.key) es ≡ false → IsWithout key es
not_held key [] none = tt
not_held key (e ∷ es) none = by (eq_by_cmp key_cmp key e.key) refl (λ later. not_held key es later)
  where
    by : (b : Bool) → eq_by_cmp key_cmp key e.key ≡ b
        → (list_any (λ (f : Entry). eq_by_cmp key_cmp key f.key) es ≡ false → IsWithout key es)
        → (eq_by_cmp key_cmp key e.key ≡ false) × IsWithout key es
    by true is later =
        absurd (true_false (sym (ap (λ b. b || list_any (λ (f : Entry). eq_by_cmp key_cmp key f.key) es) is) ∙ none))
    by false is later =
        (is, later (sym (ap (λ b. b || list_any (λ (f : Entry). eq_by_cmp key_cmp key f.key) es) is) ∙ none))

pub held_within : (key first last : List ℕ) (es : List Entry)
    → AllByRecursion (λ (e : Entry). Le first e.key × Le e.key last) es
    → list_any (λ (e : Entry). eq_by_cmp key_cmp key e.key) es ≡ true → Le first key × Le key last
held_within key first last [] all there = absurd (true_false (sym there))
held_within key first last (e ∷ es) all there = ⊎_elim
    (λ (here : eq_by_cmp key_cmp key e.key ≡ true). let same = same_key key e.key here in subst
    (λ (k : List ℕ). Le first k × Le k last) (sym same) all.0)
    (λ (later : list_any (λ (f : Entry). eq_by_cmp key_cmp key f.key) es ≡ true). held_within key first last es all.1 later)
    (or_cases (eq_by_cmp key_cmp key e.key) (list_any (λ (f : Entry). eq_by_cmp key_cmp key f.key) es) there)

-- of two tables of which one ends before the other begins not both hold a key
pub not_both : (key : List ℕ) (t u : Table) → IsRanged t → IsRanged u → is_lt (key_cmp t.last u.first) ≡ true
    → holds key t ≡ true → holds key u ≡ true → ⊥
not_both key t u rt ru before ht hu =
    let a = held_within key t.first t.last t.entries rt ht in
    let b = held_within key u.first u.last u.entries ru hu in
    true_false (sym before ∙ le_then u.first key t.last b.0 a.1)

-- a table that another holds the key of doesn't
pub without_by : (key : List ℕ) (u : Table) → (holds key u ≡ true → ⊥) → IsWithout key u.entries
without_by key u never = not_held key u.entries (is_not (holds key u) never)
  where
    is_not : (b : Bool) → (b ≡ true → ⊥) → b ≡ false
    is_not true never = absurd (never refl)
    is_not false never = refl

-- ---- inputs of a pair of levels

module _ (key : List ℕ) (keep : ℕ) (I O : List Entry) (floor : ℕ) (inputs : List ℕ) where
  C : List Table → Type 0
  C ts = IsClear keep I O floor inputs key ts

  -- in a level that doesn't overlap
  pub apart_parted : (ts : List Table) → IsApart ts → AllByRecursion IsRanged ts → IsParted keep I O floor inputs key ts
  apart_parted [] apart ranged = tt
  apart_parted (t ∷ ts) apart ranged = ((λ is. by (holds key t) refl), apart_parted ts apart.1 ranged.1)
    where
      clear : holds key t ≡ true → (us : List Table)
          → AllByRecursion (λ (u : Table). is_lt (key_cmp t.last u.first) ≡ true) us
          → AllByRecursion IsRanged us
          → IsClear keep I O floor inputs key us
      clear held [] before rs = tt
      clear held (u ∷ us) before rs =
          ((λ out. without_by key u (λ there. not_both key t u ranged.0 rs.0 before.0 held there)), clear held us before.1 rs.1)

      by : (b : Bool) → holds key t ≡ b → IsWithout key t.entries ⊎ IsClear keep I O floor inputs key ts
      by false is = inl (not_held key t.entries is)
      by true is = inr (clear is ts apart.0 ranged.1)

  -- where all are inputs
  pub all_parted : (ts : List Table) → AllByRecursion (λ (t : Table). is_among inputs t ≡ true) ts
      → IsParted keep I O floor inputs key ts × IsClear keep I O floor inputs key ts
  all_parted [] all = (tt, tt)
  all_parted (t ∷ ts) all =
      let later = all_parted ts all.1 in
      (((λ is. inr later.1), later.0), ((λ out. absurd (true_false (sym all.0 ∙ out))), later.1))

  -- where an input of the level holds the key, no other table of it does
  pub input_clear : (ts : List Table) → IsApart ts → AllByRecursion IsRanged ts
      → list_any (λ (t : Table). is_among inputs t && holds key t) ts ≡ true → IsClear keep I O floor inputs key ts
  input_clear [] apart ranged there = tt
  input_clear (t ∷ ts) apart ranged there =
      by (is_among inputs t && holds key t) refl (λ later. input_clear ts apart.1 ranged.1 later)
    where
      behind : holds key t ≡ true → (us : List Table)
          → AllByRecursion (λ (u : Table). is_lt (key_cmp t.last u.first) ≡ true) us
          → AllByRecursion IsRanged us
          → IsClear keep I O floor inputs key us
      behind held [] before rs = tt
      behind held (u ∷ us) before rs =
          ((λ out. without_by key u (λ there. not_both key t u ranged.0 rs.0 before.0 held there)), behind held us before.1 rs.1)

      never : (us : List Table) → AllByRecursion (λ (u : Table). is_lt (key_cmp t.last u.first) ≡ true) us
          → AllByRecursion IsRanged us
          → list_any (λ (u : Table). is_among inputs u && holds key u) us ≡ true → holds key t ≡ true → ⊥
      never [] before rs there held = true_false (sym there)
      never (u ∷ us) before rs there held = ⊎_elim
          (λ (here : (is_among inputs u && holds key u) ≡ true). not_both key t u ranged.0 rs.0 before.0 held
          (and_parts (is_among inputs u) (holds key u) here).1)
          (λ (later : list_any (λ (x : Table). is_among inputs x && holds key x) us ≡ true). never us before.1 rs.1 later held)
          (or_cases (is_among inputs u && holds key u) (list_any (λ (x : Table). is_among inputs x && holds key x) us) there)

      by : (b : Bool) → (is_among inputs t && holds key t) ≡ b
          → (list_any (λ (u : Table). is_among inputs u && holds key u) ts ≡ true → IsClear keep I O floor inputs key ts)
          → (is_among inputs t ≡ false → IsWithout key t.entries) × IsClear keep I O floor inputs key ts
      by true is later =
          let both = and_parts (is_among inputs t) (holds key t) is in
          ((λ out. absurd (true_false (sym both.0 ∙ out))), behind both.1 ts apart.0 ranged.1)
      by false is later =
          let rest : list_any (λ (u : Table). is_among inputs u && holds key u) ts ≡ true =
          sym (ap (λ b. b || list_any (λ (u : Table). is_among inputs u && holds key u) ts) is)
          ∙ there in
          ((λ out. without_by key t (λ held. never ts apart.0 ranged.1 rest held)), later rest)

  pub untouched_by : (ts : List Table)
      → list_any (λ (t : Table). is_among inputs t && holds key t) ts ≡ false
      → IsUntouched keep I O floor inputs key ts
  untouched_by [] none = tt
  untouched_by (t ∷ ts) none = by (is_among inputs t && holds key t) refl (λ later. untouched_by ts later)
    where
      out : (a b : Bool) → (a && b) ≡ false → a ≡ true → b ≡ false
      out true b is at = is
      out false b is at = absurd (true_false (sym at))

      by : (b : Bool) → (is_among inputs t && holds key t) ≡ b
          → (list_any (λ (u : Table). is_among inputs u && holds key u) ts ≡ false → IsUntouched keep I O floor inputs key ts)
          → (is_among inputs t ≡ true → IsWithout key t.entries) × IsUntouched keep I O floor inputs key ts
      by true is later =
          absurd (true_false (sym (ap (λ b. b || list_any (λ (u : Table). is_among inputs u && holds key u) ts) is) ∙ none))
      by false is later = (
        (λ input. not_held key t.entries (out (is_among inputs t) (holds key t) is input)),
        later
            (sym (ap (λ b. b || list_any (λ (u : Table). is_among inputs u && holds key u) ts) is) ∙ none),
      )

  -- where each input of the first level lies in a range, and each table of the second that meets it is an input
  pub record IsWithin (range : Range) (t : Table) : Type 0 where
    pub first : Le range.0 t.first
    pub last : Le t.last range.1

  pub range_clear : (range : Range) (ts us : List Table)
      → AllByRecursion (λ (t : Table). is_among inputs t ≡ true → IsWithin range t) ts → AllByRecursion IsRanged ts
      → AllByRecursion (λ (u : Table). meets (Some range) u ≡ true → is_among inputs u ≡ true) us → AllByRecursion IsRanged us
      → list_any (λ (t : Table). is_among inputs t && holds key t) ts ≡ true → IsClear keep I O floor inputs key us
  range_clear range [] us within rt met ru there = absurd (true_false (sym there))
  range_clear range (t ∷ ts) us within rt met ru there = ⊎_elim
      (λ (here : (is_among inputs t && holds key t) ≡ true).
      let both = and_parts (is_among inputs t) (holds key t) here in
      let keys = held_within key t.first t.last t.entries rt.0 both.1 in
      let w = within.0 both.0 in
      each us met ru (le_then range.0 t.first key w.first keys.0) (le_then key t.last range.1 keys.1 w.last))
      (λ (later : list_any (λ (x : Table). is_among inputs x && holds key x) ts ≡ true). range_clear range ts us within.1 rt.1 met ru later)
      (or_cases (is_among inputs t && holds key t) (list_any (λ (x : Table). is_among inputs x && holds key x) ts) there)
    where
      each : (vs : List Table)
          → AllByRecursion (λ (u : Table). meets (Some range) u ≡ true → is_among inputs u ≡ true) vs
          → AllByRecursion IsRanged vs
          → Le range.0 key → Le key range.1 → IsClear keep I O floor inputs key vs
      each [] met ru low high = tt
      each (u ∷ vs) met ru low high = (
        (λ out. without_by key u (λ held.
            let keys = held_within key u.first u.last u.entries ru.0 held in
            let one : not (is_lt (key_cmp u.last range.0)) ≡ true = ap not (le_then range.0 key u.last low keys.1) in
            let two : not (is_lt (key_cmp range.1 u.first)) ≡ true = ap not (le_then u.first key range.1 keys.0 high) in
            true_false (sym (met.0 (and_from (not (is_lt (key_cmp u.last range.0)))
            (not (is_lt (key_cmp range.1 u.first))) one two)) ∙ out))),
        each vs met.1 ru.1 low high,
      )
