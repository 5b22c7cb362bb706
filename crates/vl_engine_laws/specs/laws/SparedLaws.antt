-- From the entries a key can be read from the same number on as from the history, whatever merges dropped; and what keeps it so.
use Rattle.std.proofs.Common.{◌≡◌, ◌⊎◌, inl, inr, ⊎_elim, ℕ, zero, suc, ◌+◌, ◌≤◌, ◌<◌, Bool, true, false, cond, ◌||◌, List, [], ◌∷◌}
use Rattle.std.proofs.Common.{refl, sym, ◌∙◌, subst, arith}
use Rattle.std.proofs.lemmas.Bool.{and_parts}
use Rattle.std.proofs.lemmas.Bool.Decides.{nat_tests}
use Rattle.std.specs.Prelude.{Option, Some, None, nat_lt, ◌==◌}
use Rattle.std.specs.List.{AllByRecursion, list_any}
use Rattle.std.specs.Ordering.{eq_by_cmp}
use Rattle.vl_engine_model.specs.Shown.{AreOf, IsOf}
use Rattle.vl_engine_model.specs.Spared.{Passes}
use Rattle.vl_engine_model.specs.laws.FromLow.{has-versions_in}
use Rattle.vl_model.specs.History.{Extends, History, last_number}
use Rattle.vl_model.specs.Entries.{is_at}
use Rattle.vl_model.specs.Keys.{key_cmp}
use Rattle.vl_model.specs.Numbers.{AreAmong, greatest_below, has, low_of, nth_below, since_kept}
use Rattle.vl_model.specs.Versions.{low, versions, versions_in}
use Rattle.vl_model.specs.declared.entry.Entry.{Entry}
use Rattle.vl_model.specs.laws.NumberLaws.{AreRisen, nth-fewer_than, nth-risen}
use Rattle.vl_model.specs.laws.WinnerLaws.{same_key}
use Rattle.vl_model.specs.laws.VersionLaws.{versions-up}
use Rattle.vl_engine_laws.specs.Spared.{IsSpared, IsWhole}
use Rattle.vl_engine_model.specs.laws.LowStays.{low_same, older}

true_false : true ≡ false → ⊥
true_false is = cc

-- ---- the same number

-- The least number at which a key can be read is told by entries that have so much of its versions.
pub low_exact : (h : History) (es : List Entry) (to floor keep since : ℕ) (key : List ℕ) → floor ≤ to → AreOf h es
    → IsSpared h es to floor keep since → low_of (versions_in es key) floor keep since ≡ low h floor keep since key
low_exact h es to floor zero since key within of spared = refl
low_exact h es to floor (suc zero) since key within of spared = refl
low_exact h es to floor (suc (suc keep)) since key within of spared =
    low_same (versions h key) (versions_in es key) to floor (suc (suc keep)) since within (of key) (spared (omega arith) key)

-- Entries each of which is of a version of its key have among their versions only those.
pub are_of : (h : History) (es : List Entry) → AllByRecursion (IsOf h) es → AreOf h es
are_of h es all key n there = by es all (sym (has-versions_in key n es) ∙ there)
  where
    moved : (e : Entry) → is_at key n e ≡ true → IsOf h e → has n (versions h key) ≡ true
    moved e at is =
        let parts = and_parts (eq_by_cmp key_cmp key e.key) (e.version == n) at in
        let keys : key ≡ e.key = same_key key e.key parts.0 in
        let number : e.version ≡ n = grind (arith, nat_tests, parts.1) in
        subst (λ (k : List ℕ). has n (versions h k) ≡ true) (sym keys)
        (subst (λ (m : ℕ). has m (versions h e.key) ≡ true) number is)

    here : (e : Entry) (b : Bool) → is_at key n e ≡ b → IsOf h e → (rest : Bool) → (b || rest) ≡ true
        → (rest ≡ true → has n (versions h key) ≡ true) → has n (versions h key) ≡ true
    here e true at is rest either later = moved e at is
    here e false at is rest either later = later either

    by : (fs : List Entry) → AllByRecursion (IsOf h) fs → list_any (is_at key n) fs ≡ true → has n (versions h key) ≡ true
    by [] every is = absurd (true_false (sym is))
    by (f ∷ fs) every is = here f (is_at key n f) refl every.0 (list_any (is_at key n) fs) is (by fs every.1)

-- ---- what keeps it

pub passes_risen : (m : ℕ) (a b : Option ℕ) → AreRisen a b → Passes m a → Passes m b
passes_risen m None b r p = absurd p
passes_risen m (Some x) None r p = absurd r
passes_risen m (Some x) (Some y) r p = omega (arith, r, p)

-- A step that takes no version from the entries, and whose new versions stand in them, over a floor that isn't lower,
pub spared_later : (h h' : History) (es es' : List Entry) (to to' floor floor' keep since : ℕ) → floor ≤ floor'
    → ((key : List ℕ) → AreAmong (versions_in es key) (versions_in es' key))
    → ((key : List ℕ) (n : ℕ) → n ≤ to' → has n (versions h' key) ≡ true → has n (versions_in es' key) ≡ false
    → (n ≤ to) × (has n (versions h key) ≡ true))
    → IsSpared h es to floor keep since → IsSpared h' es' to' floor' keep since
spared_later h h' es es' to to' floor floor' keep since up stand old spared two key n le there missing =
    let was = old key n le there missing in
    ⊎_elim (λ (early : n ≤ since). inl early)
    (λ (p : Passes n (nth_below (versions_in es key) (floor + 1) keep)).
    inr (passes_risen n (nth_below (versions_in es key) (floor + 1) keep) (nth_below (versions_in es' key) (floor' + 1) keep)
    (nth-risen (versions_in es key) (versions_in es' key) (stand key) (floor + 1) (floor' + 1) keep (omega (arith, up))) p))
    (spared two key n was.0 was.1 (not_in (has n (versions_in es key)) refl))
  where
    not_in : (t : Bool) → has n (versions_in es key) ≡ t → has n (versions_in es key) ≡ false
    not_in true at = absurd (true_false (sym (stand key n at) ∙ missing))
    not_in false at = at

pub whole_later : (h h' : History) (es es' : List Entry) (to to' floor floor' gone gone' : ℕ) → floor ≤ floor' → gone ≤ gone'
    → ((key : List ℕ) → AreAmong (versions_in es key) (versions_in es' key))
    → ((key : List ℕ) (n : ℕ) → n ≤ to' → has n (versions h' key) ≡ true → has n (versions_in es' key) ≡ false
    → (n ≤ to) × (has n (versions h key) ≡ true))
    → IsWhole h es to floor gone → IsWhole h' es' to' floor' gone'
whole_later h h' es es' to to' floor floor' gone gone' up more stand old whole key n le there missing =
    let was = old key n le there missing in
    ⊎_elim (λ (early : n ≤ gone). inl (omega (arith, early, more)))
    (λ (p : Passes n (greatest_below (floor + 1) (versions_in es key))).
    inr (passes_risen n (greatest_below (floor + 1) (versions_in es key)) (greatest_below (floor' + 1) (versions_in es' key))
    (nth-risen (versions_in es key) (versions_in es' key) (stand key) (floor + 1) (floor' + 1) 1 (omega (arith, up))) p))
    (whole key n was.0 was.1 (not_in (has n (versions_in es key)) refl))
  where
    not_in : (t : Bool) → has n (versions_in es key) ≡ t → has n (versions_in es key) ≡ false
    not_in true at = absurd (true_false (sym (stand key n at) ∙ missing))
    not_in false at = at

-- a floor that isn't lower,
pub whole_up : (h : History) (es : List Entry) (to floor floor' gone : ℕ) → floor ≤ floor'
    → IsWhole h es to floor gone → IsWhole h es to floor' gone
whole_up h es to floor floor' gone up =
    whole_later h h es es to to floor floor' gone gone up (omega arith) (λ key n there. there) (λ key n le there missing. (le, there))

pub spared_up : (h : History) (es : List Entry) (to floor floor' keep since : ℕ) → floor ≤ floor'
    → IsSpared h es to floor keep since → IsSpared h es to floor' keep since
spared_up h es to floor floor' keep since up =
    spared_later h h es es to to floor floor' keep since up (λ key n there. there) (λ key n le there missing. (le, there))

-- a lesser number up to which it is asked,
pub spared_to : (h : History) (es : List Entry) (to to' floor keep since : ℕ) → to' ≤ to
    → IsSpared h es to floor keep since → IsSpared h es to' floor keep since
spared_to h es to to' floor keep since less spared two key n le there missing =
    spared two key n (omega (arith, le, less)) there missing

-- and a change of how many are kept: where there are more, it holds whatever there was before.
pub spared_raised : (h : History) (es : List Entry) (to floor keep since more : ℕ) → keep < more
    → IsSpared h es to floor more (since_kept (last_number h) keep since more)
spared_raised h es to floor keep since more is two key n le there missing =
    let up : nat_lt keep more ≡ true = grind (arith, nat_tests, is) in
    let last = versions-up h key n there in
    inl (subst (λ (t : Bool). n ≤ cond t (last_number h) since) (sym up) last)

pub spared_lowered : (h : History) (es : List Entry) (to floor keep since fewer : ℕ) → fewer ≤ keep
    → IsSpared h es to floor keep since → IsSpared h es to floor fewer (since_kept (last_number h) keep since fewer)
spared_lowered h es to floor keep since fewer is spared two key n le there missing =
    let down : nat_lt keep fewer ≡ false = grind (arith, nat_tests, is) in
    ⊎_elim (λ (old : n ≤ since). inl (subst (λ (t : Bool). n ≤ cond t (last_number h) since) (sym down) old))
    (λ (p : Passes n (nth_below (versions_in es key) (floor + 1) keep)).
    inr (passes_risen n (nth_below (versions_in es key) (floor + 1) keep) (nth_below (versions_in es key) (floor + 1) fewer)
    (nth-fewer_than (versions_in es key) (floor + 1) fewer keep is) p))
    (spared (omega (arith, two, is)) key n le there missing)

pub spared_keep : (h : History) (es : List Entry) (to floor keep since v : ℕ) → IsSpared h es to floor keep since
    → IsSpared h es to floor v (since_kept (last_number h) keep since v)
spared_keep h es to floor keep since v spared = by (nat_lt keep v) refl
  where
    by : (b : Bool) → nat_lt keep v ≡ b → IsSpared h es to floor v (since_kept (last_number h) keep since v)
    by true is = spared_raised h es to floor keep since v (grind (arith, nat_tests, is))
    by false is = spared_lowered h es to floor keep since v (grind (arith, nat_tests, is)) spared

-- ---- later commits

-- So it stays, up to a number of the earlier one, whatever is committed later;
pub spared_extends : (least most : History) → Extends least most → (es : List Entry) (to floor keep since : ℕ)
    → to ≤ last_number least → IsSpared least es to floor keep since → IsSpared most es to floor keep since
spared_extends least most e es to floor keep since le spared two key n up there missing =
    spared two key n up (older least most e key n (omega (arith, up, le)) there) missing

pub whole_extends : (least most : History) → Extends least most → (es : List Entry) (to floor gone : ℕ)
    → to ≤ last_number least → IsWhole least es to floor gone → IsWhole most es to floor gone
whole_extends least most e es to floor gone le whole key n up there missing =
    whole key n up (older least most e key n (omega (arith, up, le)) there) missing
