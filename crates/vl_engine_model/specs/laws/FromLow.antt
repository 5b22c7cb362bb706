-- From the least number on at which a key can be read, a merge that keeps so many versions may be seen.
use Rattle.std.proofs.Common.{◌≡◌, ◌⊎◌, ⊎_elim, ℕ, zero, suc, ◌+◌, ◌≤◌, ◌<◌, Bool, true, false, cond, ◌&&◌, ◌||◌}
use Rattle.std.proofs.Common.{List, [], ◌∷◌, map, refl, ap, sym, ◌∙◌, subst, arith}
use Rattle.std.proofs.lemmas.Bool.{and_parts, and_from, cases_lt}
use Rattle.std.proofs.lemmas.Bool.Decides.{nat_tests}
use Rattle.std.specs.Prelude.{min, Option, Some, None, nat_le, nat_lt, ◌==◌}
use Rattle.std.specs.List.{list_any, filter}
use Rattle.std.specs.Ordering.{eq_by_cmp}
use Rattle.vl_model.specs.Keys.{key_cmp}
use Rattle.vl_model.specs.Entries.{is_at}
use Rattle.vl_model.specs.Winners.{counts}
use Rattle.vl_model.specs.laws.WinnerLaws.{same_key}
use Rattle.vl_model.specs.declared.entry.Entry.{Entry}
use Rattle.vl_engine_model.specs.laws.MergeShows.{IsIn, members}
use Rattle.vl_engine_model.specs.laws.ShowsLaws.{is_at-itself}
use Rattle.vl_model.specs.Numbers.{has, greatest_below, next_below, nth_below, at_least, low_of, AreAmong}
use Rattle.vl_model.specs.laws.NumberLaws.{IsFound, AreRisen, greatest-found, greatest-reaches, nth-risen, nth-fewer_than}
use Rattle.vl_model.specs.laws.NumberLaws as laws
use Rattle.vl_model.specs.Versions.{versions_in}
use Rattle.vl_engine_model.specs.Merging.{is_outdated}
use Rattle.vl_engine_model.specs.laws.MergeShows.{picked, counts_parts}
use Rattle.vl_engine_model.specs.Marks.{IsPast}
use Rattle.vl_engine_model.specs.Spared.{Passes}

-- a version stands among those of a key exactly where an entry of both does
pub has-versions_in : (key : List ℕ) (version : ℕ) (es : List Entry)
    → has version (versions_in es key) ≡ list_any (is_at key version) es
has-versions_in key version [] = refl
has-versions_in key version (e ∷ es) =
    elim (eq_by_cmp key_cmp key e.key) as
    (λ b. has version (map (λ (x : Entry). x.version)
    (cond b (e ∷ filter (λ (x : Entry). eq_by_cmp key_cmp key x.key) es)
    (filter (λ (x : Entry). eq_by_cmp key_cmp key x.key) es))) ≡ ((b && (e.version == version)) || list_any (is_at key version) es)) [
      | true ↦ ap (λ b. (e.version == version) || b) (has-versions_in key version es)
      | false ↦ has-versions_in key version es
    ]

pub in_versions : (key : List ℕ) (es : List Entry) (f : Entry) → key ≡ f.key → IsIn es f
    → has f.version (versions_in es key) ≡ true
in_versions key es f keys within =
    has-versions_in key f.version es
    ∙ within (is_at key f.version) (ap (λ k. is_at k f.version f) keys ∙ is_at-itself f)

passes_next : (numbers : List ℕ) (m n : ℕ) (o : Option ℕ) → m < n → has n numbers ≡ true → Passes n o → Passes m (next_below numbers o)
passes_next numbers m n None less there p = absurd p
passes_next numbers m n (Some w) less there p = by_reached (greatest_below w numbers) (greatest-reaches n w numbers there p)
  where
    by_reached : (o : Option ℕ) → laws.Reaches n o → Passes m o
    by_reached None r = absurd r
    by_reached (Some k) r = omega (arith, less, r)

module _ (inputs : List Entry) (floor : ℕ) (key : List ℕ) where
  -- an entry above that counts, and from which one version less is asked
  pub next_above : (keep : ℕ) (e : Entry) → e.key ≡ key → is_outdated (suc keep) inputs floor e ≡ true
      → (f : Entry) × (f.key ≡ key) × (f.version ≤ floor) × (e.version < f.version)
      × (is_outdated keep inputs floor f ≡ true) × IsIn inputs f
  next_above keep e keys outdated =
      let f = picked (IsIn inputs)
      (λ (g : Entry). is_outdated keep inputs floor g && (counts e.key floor g && nat_lt e.version g.version)) inputs
      (members inputs) outdated in
      let both = and_parts (is_outdated keep inputs floor f.0) (counts e.key floor f.0 && nat_lt e.version f.0.version) f.1 in
      let rest = and_parts (counts e.key floor f.0) (nat_lt e.version f.0.version) both.1 in
      let parts = counts_parts e.key floor f.0 rest.0 in
      let less : e.version < f.0.version = grind (arith, nat_tests, rest.1) in
      (f.0, sym parts.0 ∙ keys, parts.1, less, both.0, f.2)

  -- what has so many greater versions among the inputs is below the one of them that is so many down from the floor
  pub outdated_passes : (keep : ℕ) (e : Entry) → e.key ≡ key → e.version ≤ floor → is_outdated keep inputs floor e ≡ true
      → Passes e.version (nth_below (versions_in inputs key) (floor + 1) keep)
  outdated_passes zero e keys up outdated = omega (arith, up)
  outdated_passes (suc keep) e keys up outdated =
      let f = next_above keep e keys outdated in
      passes_next (versions_in inputs key) e.version f.0.version (nth_below (versions_in inputs key) (floor + 1) keep)
      f.3 (in_versions key inputs f.0 (sym f.1) f.5)
      (outdated_passes keep f.0 f.1 f.2 f.4)

-- below the floor a number from low on is at least since and the v-th newest version, and v isn't 1
low_below : (numbers : List ℕ) (floor keep since number : ℕ) → low_of numbers floor keep since ≤ number → number < floor
    → ((keep == 1) ≡ false) × (at_least since (nth_below numbers (floor + 1) keep) ≤ number)
low_below numbers floor keep since number = by_one (keep == 1)
  where
    by_one : (b : Bool) → cond b floor (min floor (at_least since (nth_below numbers (floor + 1) keep))) ≤ number → number < floor
        → (b ≡ false) × (at_least since (nth_below numbers (floor + 1) keep) ≤ number)
    by_one true low less = absurd (omega (arith, low, less))
    by_one false low less = (refl, omega (arith, low, less))

since_low : (since : ℕ) (o : Option ℕ) → since ≤ at_least since o
since_low since None = omega arith
since_low since (Some w) = omega arith

found_low : (since : ℕ) (w : ℕ) (o : Option ℕ) → laws.Reaches w o → w ≤ at_least since o
found_low since w None r = absurd r
found_low since w (Some x) r = omega (arith, r)

then_reaches : (w : ℕ) (a b : Option ℕ) → laws.Reaches w a → AreRisen a b → laws.Reaches w b
then_reaches w None b p q = absurd p
then_reaches w (Some m) None p q = absurd q
then_reaches w (Some m) (Some n) p q = omega (arith, p, q)

-- A job that keeps at least as many versions as are kept now, or whose floor isn't above since, may be seen
-- from low at a floor that isn't below its own.
pub past_low : (keep : ℕ) → 1 ≤ keep → (inputs : List Entry) (floor : ℕ) (key : List ℕ) (numbers : List ℕ)
    → AreAmong (versions_in inputs key) numbers → (now v since : ℕ) → floor ≤ now → (v ≤ keep) ⊎ (floor ≤ since)
    → (number : ℕ) → low_of numbers now v since ≤ number → IsPast keep inputs floor key number
past_low zero some inputs floor key numbers among now v since up kept number low = absurd (omega (arith, some))
past_low (suc keep) some inputs floor key numbers among now v since up kept number low = record {
  outdates = λ e keys outdated. ⊎_elim (behind e keys outdated) (here e keys outdated) (cases_lt number floor);
  needs = λ one. ⊎_elim (λ (less : number < floor). absurd (not_one one less)) (λ (least : floor ≤ number). least) (cases_lt number floor);
}
  where
    below : number < floor → (((v == 1) ≡ false) × (at_least since (nth_below numbers (now + 1) v) ≤ number))
    below less = low_below numbers now v since number low (omega (arith, less, up))

    fewer : number < floor → v ≤ suc keep
    fewer less = ⊎_elim (λ (few : v ≤ suc keep). few)
        (λ (old : floor ≤ since). let b = (below less).1 in let s = since_low since (nth_below numbers (now + 1) v)
        in absurd (omega (arith, old, b, s, less))) kept

    not_one : suc keep ≡ 1 → number < floor → ⊥
    not_one one less = by_v v refl
      where
        by_v : (w : ℕ) → v ≡ w → ⊥
        by_v zero is = let b = subst (λ (k : ℕ). at_least since (nth_below numbers (now + 1) k) ≤ number) is
            (below less).1 in omega (arith, b, less, up)
        by_v (suc w) is = let few = fewer less in let other = (below less).0 in grind (arith, nat_tests, few, other, is, one)

    -- an entry of the key that counts there, and is newer
    there : (e f : Entry) → f.key ≡ key → f.version ≤ number → e.version < f.version → IsIn inputs f
        → list_any (λ (g : Entry). counts key number g && nat_lt e.version g.version) inputs ≡ true
    there e f keys counted less within =
        let tied : eq_by_cmp key_cmp key f.key ≡ true = ap (λ k. eq_by_cmp key_cmp k f.key) (sym keys)
        ∙ (and_parts (eq_by_cmp key_cmp f.key f.key) (f.version == f.version) (is_at-itself f)).0 in
        let low : nat_le f.version number ≡ true = grind (arith, nat_tests) in
        let more : nat_lt e.version f.version ≡ true = grind (arith, nat_tests) in
        within (λ (g : Entry). counts key number g && nat_lt e.version g.version)
        (and_from (counts key number f) (nat_lt e.version f.version)
        (and_from (eq_by_cmp key_cmp key f.key) (nat_le f.version number) tied low) more)

    here : (e : Entry) → e.key ≡ key → is_outdated (suc keep) inputs floor e ≡ true → floor ≤ number
        → list_any (λ (g : Entry). counts key number g && nat_lt e.version g.version) inputs ≡ true
    here e keys outdated least =
        let f = next_above inputs floor key keep e keys outdated in
        let up_f = f.2 in
        there e f.0 f.1 (omega (arith, up_f, least)) f.3 f.5

    behind : (e : Entry) → e.key ≡ key → is_outdated (suc keep) inputs floor e ≡ true → number < floor
        → list_any (λ (g : Entry). counts key number g && nat_lt e.version g.version) inputs ≡ true
    behind e keys outdated less =
        let f = next_above inputs floor key keep e keys outdated in
        let up_f = f.2 in
        let more = f.3 in
        by_found (nth_below (versions_in inputs key) (floor + 1) (suc keep))
        (outdated_passes inputs floor key (suc keep) e keys (omega (arith, up_f, more)) outdated)
        (found (nth_below (versions_in inputs key) (floor + 1) keep))
        (risen (nth_below (versions_in inputs key) (floor + 1) (suc keep)) (nth_below numbers (now + 1) (suc keep))
        (nth_below numbers (now + 1) v)
        (nth-risen (versions_in inputs key) numbers among (floor + 1) (now + 1) (suc keep) (omega (arith, up)))
        (nth-fewer_than numbers (now + 1) v (suc keep) (fewer less)))
      where
        risen : (a b c : Option ℕ) → AreRisen a b → AreRisen b c → AreRisen a c
        risen None b c p q = tt
        risen (Some m) b c p q = then_reaches m b c p q

        found : (o : Option ℕ) → (w : ℕ) → next_below (versions_in inputs key) o ≡ Some w → has w (versions_in inputs key) ≡ true
        found None w is = absurd cc
        found (Some bound) w is = (subst (IsFound bound (versions_in inputs key)) is (greatest-found bound (versions_in inputs key))).1

        by_found : (o : Option ℕ) → Passes e.version o → ((w : ℕ) → o ≡ Some w → has w (versions_in inputs key) ≡ true)
            → AreRisen o (nth_below numbers (now + 1) v)
            → list_any (λ (g : Entry). counts key number g && nat_lt e.version g.version) inputs ≡ true
        by_found None p has r = absurd p
        by_found (Some w) p has r =
            let g = picked (IsIn inputs) (is_at key w) inputs (members inputs) (sym (has-versions_in key w inputs) ∙ has w refl) in
            let both = and_parts (eq_by_cmp key_cmp key g.0.key) (g.0.version == w) g.1 in
            let version : g.0.version ≡ w = grind (arith, nat_tests, both.1) in
            let low = found_low since w (nth_below numbers (now + 1) v) r in
            let most = (below less).1 in
            there e g.0 (sym (same_key key g.0.key both.0)) (omega (arith, version, low, most)) (omega (arith, version, p)) g.2
