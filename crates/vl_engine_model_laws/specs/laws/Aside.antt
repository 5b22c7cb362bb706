-- Of the level into which a merge goes each table that isn't an input lies on one side of all keys of the inputs.
use Rattle.std.proofs.Common.{◌≡◌, ◌≢◌, ◌⊎◌, inl, inr, ⊎_elim, ℕ, ◌<◌, Bool, true, false, cond, not, ◌&&◌, List, []}
use Rattle.std.proofs.Common.{◌∷◌, ◌++◌, refl, sym, ◌∙◌, subst}
use Rattle.std.specs.Prelude.{Option, Some}
use Rattle.std.specs.List.{AllByRecursion, filter}
use Rattle.std.specs.Ordering.{is_lt}
use Rattle.vl_model.specs.Keys.{key_cmp}
use Rattle.vl_model.specs.declared.entry.Entry.{Entry}
use Rattle.vl_engine_model.specs.Levels.{is_among, Range, range_of, meets, due_inputs, with_next}
use Rattle.vl_engine_model.specs.declared.table.Table.{Table}
use Rattle.vl_engine_model_laws.specs.laws.Lists.{true_false}
use Rattle.vl_engine_model_laws.specs.laws.Outputs.{Lt, le_lt, lt_le_then, lt_le}
use Rattle.vl_engine_model_laws.specs.laws.Planned.{only_one, all_given, within, met}
use Rattle.vl_engine_model.specs.Sources.{numbers_of}
use Rattle.vl_engine_model.specs.TidyLevels.{Le, IsRanged, IsDistinct, IsApart, IsWide}
use Rattle.vl_engine_model_laws.specs.laws.Pairs.{le_then, AreOther, others_turned, one_is}

all_both : (P : Table → Type 0) (xs ys : List Table) → AllByRecursion P xs → AllByRecursion P ys
    → AllByRecursion P (xs ++ ys)
all_both P [] ys a b = b
all_both P (x ∷ xs) ys a b = (a.0, all_both P xs ys a.1 b)

-- what is so of all and passes the test is so of what is left
passed : (P : Table → Type 0) (p : Table → Bool) (ts : List Table) → AllByRecursion P ts
    → AllByRecursion (λ (t : Table). (p t ≡ true) × P t) (filter p ts)
passed P p [] all = tt
passed P p (t ∷ ts) all = by (p t) refl (passed P p ts all.1)
  where
    by : (b : Bool) → p t ≡ b → AllByRecursion (λ (u : Table). (p u ≡ true) × P u) (filter p ts)
        → AllByRecursion (λ (u : Table). (p u ≡ true) × P u) (cond b (t ∷ filter p ts) (filter p ts))
    by true is later = ((is, all.0), later)
    by false is later = later

weaker : {X : Type 0} (P Q : X → Type 0) → ((x : X) → P x → Q x) → (xs : List X) → AllByRecursion P xs
    → AllByRecursion Q xs
weaker P Q f [] all = tt
weaker P Q f (x ∷ xs) all = (f x all.0, weaker P Q f xs all.1)

-- two tables of one level of which just one is an input are apart
abbrev pub IsPairApart : (Table → Bool) → Table → Table → Type 0
IsPairApart one u t = (one t ≡ one u) ⊎ (Lt t.last u.first ⊎ Lt u.last t.first)

pairs_apart : (one : Table → Bool) (ts : List Table) → IsApart ts
    → AllByRecursion (λ (u : Table). AllByRecursion (IsPairApart one u) ts) ts
pairs_apart one [] apart = tt
pairs_apart one (t ∷ ts) apart = (
  (inl refl, weaker (λ (u : Table). Lt t.last u.first) (IsPairApart one t) (λ u less. inr (inr less)) ts apart.0),
  heads ts apart.0 (pairs_apart one ts apart.1),
)
  where
    heads : (us : List Table) → AllByRecursion (λ (u : Table). Lt t.last u.first) us
        → AllByRecursion (λ (u : Table). AllByRecursion (IsPairApart one u) ts) us
        → AllByRecursion (λ (u : Table). AllByRecursion (IsPairApart one u) (t ∷ ts)) us
    heads [] before all = tt
    heads (u ∷ us) before all = ((inr (inl before.0), all.0), heads us before.1 all.1)

-- all keys of inputs among these tables are above a key, or below one
abbrev pub AreAbove : (Table → Bool) → List ℕ → List Table → Type 0
AreAbove one key ts =
    AllByRecursion (λ (t : Table). one t ≡ true → AllByRecursion (λ (e : Entry). Lt key e.key) t.entries) ts

abbrev pub AreBelow : (Table → Bool) → List ℕ → List Table → Type 0
AreBelow one key ts =
    AllByRecursion (λ (t : Table). one t ≡ true → AllByRecursion (λ (e : Entry). Lt e.key key) t.entries) ts

module _ (n : ℕ) (A B : List Table) (distinct_A : IsDistinct A) (distinct_B : IsDistinct B) (other : AreOther A B)
    (ranged_A : AllByRecursion IsRanged A) (ranged_B : AllByRecursion IsRanged B)
    (apart_A : 0 < n → IsApart A) (apart_B : IsApart B) (wide_B : AllByRecursion IsWide B)
    (range : Range) (is : range_of (due_inputs n A) ≡ Some range) where
  one : Table → Bool
  one t = is_among (numbers_of (with_next (due_inputs n A) B)) t

  -- an input of the second level meets the range
  inputs_meet : AllByRecursion
      (λ (t : Table). is_among (numbers_of (with_next (due_inputs n A) B)) t ≡ true → meets (range_of (due_inputs n A)) t ≡ true) B
  inputs_meet = each B (others_turned A B other) (only_one B distinct_B)
    where
      each : (ts : List Table)
          → AllByRecursion (λ (t : Table). AllByRecursion (λ (x : Table). x.number ≢ t.number) A) ts
          → AllByRecursion (λ (t : Table). AllByRecursion (λ (x : Table). x.number ≡ t.number → x ≡ t) B) ts
          → AllByRecursion (λ (t : Table). is_among (numbers_of (with_next (due_inputs n A) B)) t ≡ true
          → meets (range_of (due_inputs n A)) t ≡ true) ts
      each [] off uniq = tt
      each (t ∷ ts) off uniq = ((λ input. here input), each ts off.1 uniq.1)
        where
          here : is_among (numbers_of (with_next (due_inputs n A) B)) t ≡ true
              → meets (range_of (due_inputs n A)) t ≡ true
          here input =
              let V : Table → Type 0 = λ x. x.number ≡ t.number → meets (range_of (due_inputs n A)) t ≡ true in
              let left : AllByRecursion V (due_inputs n A) =
              weaker (λ (x : Table). x.number ≢ t.number) V (λ x apart same. absurd (apart same)) (due_inputs n A)
              (all_given (λ (x : Table). x.number ≢ t.number) n A off.0) in
              let right : AllByRecursion V (filter (meets (range_of (due_inputs n A))) B) = weaker
              (λ (x : Table). (meets (range_of (due_inputs n A)) x ≡ true) × (x.number ≡ t.number → x ≡ t)) V
              (λ x both same. subst (λ (y : Table). meets (range_of (due_inputs n A)) y ≡ true) (both.1 same) both.0)
              (filter (meets (range_of (due_inputs n A))) B)
              (passed (λ (x : Table). x.number ≡ t.number → x ≡ t) (meets (range_of (due_inputs n A))) B uniq.0) in
              let found = one_is t V (with_next (due_inputs n A) B)
              (all_both V (due_inputs n A) (filter (meets (range_of (due_inputs n A))) B) left right) input in
              found.2 found.1

  never_lt : (a b : List ℕ) → Lt a b → Le b a → ⊥
  never_lt a b less le = true_false (sym less ∙ le)

  one_side : (a b : Bool) → (not a && not b) ≡ false → (a ≡ true) ⊎ (b ≡ true)
  one_side true b h = inl refl
  one_side false true h = inr refl
  one_side false false h = absurd (true_false h)

  not_first : (a b : Bool) → (not a && not b) ≡ true → (a ≡ false) × (b ≡ false)
  not_first true b h = absurd (true_false (sym h))
  not_first false true h = absurd (true_false (sym h))
  not_first false false h = (refl, refl)

  -- all keys of inputs lie on one side of each other table of the second level
  abbrev pub IsBeside : Table → Type 0
  IsBeside u =
      (AreAbove (λ t. is_among (numbers_of (with_next (due_inputs n A) B)) t) u.last A
      × AreAbove (λ t. is_among (numbers_of (with_next (due_inputs n A) B)) t) u.last B)
      ⊎ (AreBelow (λ t. is_among (numbers_of (with_next (due_inputs n A) B)) t) u.first A
      × AreBelow (λ t. is_among (numbers_of (with_next (due_inputs n A) B)) t) u.first B)

  pub all_beside : AllByRecursion (λ (u : Table). is_among (numbers_of (with_next (due_inputs n A) B)) u ≡ false → IsBeside u) B
  all_beside =
      each B (subst (λ (o : Option Range). AllByRecursion
      (λ (u : Table). meets o u ≡ true → is_among (numbers_of (with_next (due_inputs n A) B)) u ≡ true) B) is
      (met n A B distinct_A other ranged_A ranged_B apart_A apart_B))
      (pairs_apart (λ t. is_among (numbers_of (with_next (due_inputs n A) B)) t) B apart_B) wide_B
    where
      F : Table → Bool
      F t = is_among (numbers_of (with_next (due_inputs n A) B)) t

      inside : AllByRecursion (λ (t : Table). is_among (numbers_of (with_next (due_inputs n A) B)) t ≡ true
          → Le range.0 t.first × Le t.last range.1) A
      inside = within n A B distinct_A other ranged_A ranged_B apart_A apart_B range is

      meet : AllByRecursion (λ (t : Table). is_among (numbers_of (with_next (due_inputs n A) B)) t ≡ true → meets (Some range) t ≡ true) B
      meet =
          subst (λ (o : Option Range). AllByRecursion
          (λ (t : Table). is_among (numbers_of (with_next (due_inputs n A) B)) t ≡ true → meets o t ≡ true) B) is inputs_meet

      above_first : (key : List ℕ) → Lt key range.0 → (ts : List Table)
          → AllByRecursion (λ (t : Table). is_among (numbers_of (with_next (due_inputs n A) B)) t ≡ true
          → Le range.0 t.first × Le t.last range.1) ts → AllByRecursion IsRanged ts
          → AreAbove (λ t. is_among (numbers_of (with_next (due_inputs n A) B)) t) key ts
      above_first key low [] w r = tt
      above_first key low (t ∷ ts) w r = (
        (λ input. weaker (λ (e : Entry). Le t.first e.key × Le e.key t.last) (λ (e : Entry). Lt key e.key)
            (λ e at. lt_le_then key range.0 e.key low (le_then range.0 t.first e.key (w.0 input).0 at.0)) t.entries r.0),
        above_first key low ts w.1 r.1,
      )

      below_first : (key : List ℕ) → Lt range.1 key → (ts : List Table)
          → AllByRecursion (λ (t : Table). is_among (numbers_of (with_next (due_inputs n A) B)) t ≡ true
          → Le range.0 t.first × Le t.last range.1) ts → AllByRecursion IsRanged ts
          → AreBelow (λ t. is_among (numbers_of (with_next (due_inputs n A) B)) t) key ts
      below_first key high [] w r = tt
      below_first key high (t ∷ ts) w r = (
        (λ input. weaker (λ (e : Entry). Le t.first e.key × Le e.key t.last) (λ (e : Entry). Lt e.key key)
            (λ e at. le_lt e.key range.1 key (le_then e.key t.last range.1 at.1 (w.0 input).1) high) t.entries r.0),
        below_first key high ts w.1 r.1,
      )

      above_second : (u : Table) → IsWide u → is_among (numbers_of (with_next (due_inputs n A) B)) u ≡ false
          → Lt u.last range.0 → (ts : List Table)
          → AllByRecursion (IsPairApart (λ t. is_among (numbers_of (with_next (due_inputs n A) B)) t) u) ts
          → AllByRecursion (λ (t : Table). is_among (numbers_of (with_next (due_inputs n A) B)) t ≡ true
          → meets (Some range) t ≡ true) ts → AllByRecursion IsRanged ts
          → AreAbove (λ t. is_among (numbers_of (with_next (due_inputs n A) B)) t) u.last ts
      above_second u wide out low [] pairs m r = tt
      above_second u wide out low (t ∷ ts) pairs m r = (
        (λ input. ⊎_elim
            (λ (same : is_among (numbers_of (with_next (due_inputs n A) B)) t ≡ is_among
            (numbers_of (with_next (due_inputs n A) B)) u). absurd (true_false (sym input ∙ same ∙ out)))
            (λ (apart : Lt t.last u.first ⊎ Lt u.last t.first). ⊎_elim
            (λ (before : Lt t.last u.first).
            let no = (not_first (is_lt (key_cmp t.last range.0)) (is_lt (key_cmp range.1 t.first)) (m.0 input)).0 in
            absurd (true_false (sym (lt_le_then t.last u.first range.0 before
            (le_then u.first u.last range.0 wide (lt_le u.last range.0 low))) ∙ no)))
            (λ (behind : Lt u.last t.first). weaker (λ (e : Entry). Le t.first e.key × Le e.key t.last)
            (λ (e : Entry). Lt u.last e.key) (λ e at. lt_le_then u.last t.first e.key behind at.0) t.entries r.0)
            apart)
            pairs.0),
        above_second u wide out low ts pairs.1 m.1 r.1,
      )

      below_second : (u : Table) → IsWide u → is_among (numbers_of (with_next (due_inputs n A) B)) u ≡ false
          → Lt range.1 u.first → (ts : List Table)
          → AllByRecursion (IsPairApart (λ t. is_among (numbers_of (with_next (due_inputs n A) B)) t) u) ts
          → AllByRecursion (λ (t : Table). is_among (numbers_of (with_next (due_inputs n A) B)) t ≡ true
          → meets (Some range) t ≡ true) ts → AllByRecursion IsRanged ts
          → AreBelow (λ t. is_among (numbers_of (with_next (due_inputs n A) B)) t) u.first ts
      below_second u wide out high [] pairs m r = tt
      below_second u wide out high (t ∷ ts) pairs m r = (
        (λ input. ⊎_elim
            (λ (same : is_among (numbers_of (with_next (due_inputs n A) B)) t ≡ is_among
            (numbers_of (with_next (due_inputs n A) B)) u). absurd (true_false (sym input ∙ same ∙ out)))
            (λ (apart : Lt t.last u.first ⊎ Lt u.last t.first). ⊎_elim
            (λ (before : Lt t.last u.first). weaker (λ (e : Entry). Le t.first e.key × Le e.key t.last)
            (λ (e : Entry). Lt e.key u.first) (λ e at. le_lt e.key t.last u.first at.1 before) t.entries r.0)
            (λ (behind : Lt u.last t.first).
            let no = (not_first (is_lt (key_cmp t.last range.0)) (is_lt (key_cmp range.1 t.first)) (m.0 input)).1 in
            absurd (true_false (sym (lt_le_then range.1 u.first t.first high
            (le_then u.first u.last t.first wide (lt_le u.last t.first behind))) ∙ no)))
            apart)
            pairs.0),
        below_second u wide out high ts pairs.1 m.1 r.1,
      )

      is_out : (b : Bool) → (b ≡ true → ⊥) → b ≡ false
      is_out true never = absurd (never refl)
      is_out false never = refl

      each : (us : List Table)
          → AllByRecursion (λ (u : Table). meets (Some range) u ≡ true → is_among (numbers_of (with_next (due_inputs n A) B)) u ≡ true) us
          → AllByRecursion (λ (u : Table). AllByRecursion
          (IsPairApart (λ t. is_among (numbers_of (with_next (due_inputs n A) B)) t) u) B) us → AllByRecursion IsWide us
          → AllByRecursion (λ (u : Table). is_among (numbers_of (with_next (due_inputs n A) B)) u ≡ false → IsBeside u) us
      each [] m pairs wide = tt
      each (u ∷ us) m pairs wide = (
        (λ out.
            let missed : meets (Some range) u ≡ false =
            is_out (meets (Some range) u) (λ at. true_false (sym (m.0 at) ∙ out)) in
            ⊎_elim
            (λ (low : is_lt (key_cmp u.last range.0) ≡ true). inl
            (above_first u.last low A inside ranged_A, above_second u wide.0 out low B pairs.0 meet ranged_B))
            (λ (high : is_lt (key_cmp range.1 u.first) ≡ true). inr
            (below_first u.first high A inside ranged_A, below_second u wide.0 out high B pairs.0 meet ranged_B))
            (one_side (is_lt (key_cmp u.last range.0)) (is_lt (key_cmp range.1 u.first)) missed)),
        each us m.1 pairs.1 wide.1,
      )
