-- What an install drops of the sources spares versions as it should: those that it drops are passed by as many that it keeps,
-- or are at most the number since which more are kept.
use Rattle.std.proofs.Common.{◌≡◌, ◌⊎◌, inl, inr, ⊎_elim, ℕ, zero, suc, ◌+◌, ◌≤◌, Bool, true, false, not, ◌&&◌, ◌||◌}
use Rattle.std.proofs.Common.{List, [], ◌∷◌, refl, ap, sym, ◌∙◌, subst, arith}
use Rattle.std.proofs.lemmas.Bool.{and_parts}
use Rattle.std.proofs.lemmas.Bool.Decides.{nat_tests}
use Rattle.std.specs.Prelude.{Option, Some, None, nat_le, ◌==◌}
use Rattle.std.specs.List.{AllZip, list_any}
use Rattle.vl_engine_laws.specs.Spared.{IsSpared}
use Rattle.vl_engine_model.specs.laws.LowStays.{IsNear, near}
use Rattle.vl_engine_laws.specs.laws.SparedLaws.{passes_risen}
use Rattle.vl_engine_model.specs.Marks.{kept_of, plain}
use Rattle.vl_engine_model.specs.Merging.{Sourced, if_so, inputs_of, is_below, is_needless, is_needless_one, is_outdated, is_shadowed, outside_of}
use Rattle.vl_engine_model.specs.OpenJobs.{IsKeptFor, IsStillBehind, Preceded, preceded, preceded_if}
use Rattle.vl_engine_model.specs.Shown.{Fits}
use Rattle.vl_engine_model.specs.declared.job.Job.{Job}
use Rattle.vl_engine_model.specs.Spared.{Passes}
use Rattle.vl_engine_model.specs.laws.FromLow.{has-versions_in, next_above, outdated_passes}
use Rattle.vl_engine_model_laws.specs.laws.Justified.{same_inputs}
use Rattle.vl_engine_model_laws.specs.laws.Lists.{at_parts, or_cases, or_left, or_right, true_false}
use Rattle.vl_engine_model_laws.specs.laws.OpenJobs.{drops_at, head_mark, marked_by, marks_now, rest_preceded}
use Rattle.vl_model.specs.Conflicts.{Named}
use Rattle.vl_model.specs.Entries.{is_at, is_gone}
use Rattle.vl_model.specs.History.{History}
use Rattle.vl_model.specs.Numbers.{AreAmong, greatest_below, has, next_below, nth_below}
use Rattle.vl_model.specs.Versions.{versions_in}
use Rattle.vl_model.specs.declared.entry.Entry.{Entry}
use Rattle.vl_model.specs.laws.NumberLaws as laws
use Rattle.vl_model.specs.laws.NumberLaws.{AreRisen, IsFound, greatest-found, greatest-reaches, nth-fewer_than, nth-risen}

-- ---- why a version is missing

or_false : (a b : Bool) → (a || b) ≡ false → (a ≡ false) × (b ≡ false)
or_false true b none = absurd (true_false none)
or_false false b none = (refl, none)

module _ (keep : ℕ) (I O : List Entry) (floor : ℕ) (key : List ℕ) (version : ℕ) where
  -- An entry of it was dropped as outdated, or as needless.
  abbrev pub Went : Type 0
  Went = (e : Entry) × (is_at key version e ≡ true)
      × ((is_outdated keep I floor e ≡ true) ⊎ (is_needless keep O floor e ≡ true))

  abbrev Any : List Entry → Bool
  Any es = list_any (is_at key version) es

  -- the first of them isn't shadowed
  unshadowed : (newer : List Entry) (e : Entry) (q : Preceded) → IsStillBehind q (record { entry = e; newer = newer })
      → Any newer ≡ false → is_at key version e ≡ true → drops_at keep I O floor q ≡ true → Went
  unshadowed newer e q still none at drops = ⊎_elim
      (λ (shadowed : is_shadowed q.newer q.entry ≡ true).
      absurd (true_false (sym (still.covers q.entry.key q.entry.version shadowed)
      ∙ ap (λ (x : Entry). list_any (is_at x.key x.version) newer) (sym still.same)
      ∙ ap (λ (k : List ℕ). list_any (is_at k e.version) newer) parts.0
      ∙ ap (λ (v : ℕ). list_any (is_at key v) newer) parts.1 ∙ none)))
      (λ (rules : (is_outdated keep I floor q.entry || is_needless keep O floor q.entry) ≡ true). (
        q.entry,
        subst (λ (x : Entry). is_at key version x ≡ true) still.same at,
        or_cases (is_outdated keep I floor q.entry) (is_needless keep O floor q.entry) rules,
      ))
      (or_cases (is_shadowed q.newer q.entry) (is_outdated keep I floor q.entry || is_needless keep O floor q.entry) drops)
    where
      parts : (e.key ≡ key) × (e.version ≡ version)
      parts = at_parts key version e at

  pub went : (newer : List Entry) (ps : List Preceded) (ss : List Sourced) → AllZip IsStillBehind ps (preceded newer ss)
      → Any newer ≡ false → Any (plain ss) ≡ true → Any (kept_of (marked_by keep I O floor ps ss)) ≡ false → Went
  went newer ps [] zip none there gone = absurd (true_false (sym there))
  went newer ps (s ∷ ss) zip none there gone =
      by s.0 ps zip gone (λ (qs : List Preceded) (z : AllZip IsStillBehind qs (preceded (s.1 ∷ newer) ss)).
      went (s.1 ∷ newer) qs ss z)
    where
      -- it is another's
      other : (qs : List Preceded) → is_at key version s.1 ≡ false
          → Any (kept_of (marked_by keep I O floor qs ss)) ≡ false
          → (Any (s.1 ∷ newer) ≡ false → Any (plain ss) ≡ true → Any (kept_of (marked_by keep I O floor qs ss)) ≡ false
          → Went) → Went
      other qs off left later =
          later (ap (λ b. b || Any newer) off ∙ none) (sym (ap (λ b. b || Any (plain ss)) off) ∙ there) left

      of_input : (q : Preceded) (qs : List Preceded) → IsStillBehind q (record { entry = s.1; newer = newer })
          → (a d : Bool) → is_at key version s.1 ≡ a → drops_at keep I O floor q ≡ d
          → Any (if_so (not d) s.1 (kept_of (marked_by keep I O floor qs ss))) ≡ false
          → (Any (s.1 ∷ newer) ≡ false → Any (plain ss) ≡ true → Any (kept_of (marked_by keep I O floor qs ss)) ≡ false
          → Went) → Went
      of_input q qs still true true at drops left later = unshadowed newer s.1 q still none at drops
      of_input q qs still true false at drops left later =
          absurd (true_false (sym (ap (λ b. b || Any (kept_of (marked_by keep I O floor qs ss))) at) ∙ left))
      of_input q qs still false true at drops left later = other qs at left later
      of_input q qs still false false at drops left later =
          other qs at (sym (ap (λ b. b || Any (kept_of (marked_by keep I O floor qs ss))) at) ∙ left) later

      by : (b : Bool) (qs : List Preceded) → AllZip IsStillBehind qs (preceded_if b s.1 newer (preceded (s.1 ∷ newer) ss))
          → Any (if_so (head_mark keep I O floor b qs s.1).kept (head_mark keep I O floor b qs s.1).entry
          (kept_of (marked_by keep I O floor (rest_preceded b qs) ss))) ≡ false
          → ((rs : List Preceded) → AllZip IsStillBehind rs (preceded (s.1 ∷ newer) ss)
          → Any (s.1 ∷ newer) ≡ false → Any (plain ss) ≡ true → Any (kept_of (marked_by keep I O floor rs ss)) ≡ false → Went)
          → Went
      by false qs z left later =
          let parts = or_false (is_at key version s.1) (Any (kept_of (marked_by keep I O floor qs ss))) left in
          other qs parts.0 parts.1 (later qs z)
      by true [] z left later = absurd z
      by true (q ∷ qs) z left later =
          of_input q qs z.0 (is_at key version s.1) (drops_at keep I O floor q) refl refl left (later qs z.1)

-- ---- what is left, and what the inputs have, the sources have

any_if : (p : Entry → Bool) (b : Bool) (e : Entry) (es fs : List Entry) → (list_any p es ≡ true → list_any p fs ≡ true)
    → list_any p (if_so b e es) ≡ true → list_any p (e ∷ fs) ≡ true
any_if p true e es fs more there = ⊎_elim
    (λ (at : p e ≡ true). or_left (p e) (list_any p fs) at)
    (λ (later : list_any p es ≡ true). or_right (p e) (list_any p fs) (more later))
    (or_cases (p e) (list_any p es) there)
any_if p false e es fs more there = or_right (p e) (list_any p fs) (more there)

any_input : (p : Entry → Bool) (ss : List Sourced) → list_any p (inputs_of ss) ≡ true → list_any p (plain ss) ≡ true
any_input p [] there = there
any_input p (s ∷ ss) there = any_if p s.0 s.1 (inputs_of ss) (plain ss) (any_input p ss) there

module _ (keep : ℕ) (I O : List Entry) (floor : ℕ) where
  any_kept : (p : Entry → Bool) (ps : List Preceded) (ss : List Sourced)
      → list_any p (kept_of (marked_by keep I O floor ps ss)) ≡ true → list_any p (plain ss) ≡ true
  any_kept p ps [] there = there
  any_kept p ps (s ∷ ss) there = by s.0 ps there (λ qs. any_kept p qs ss)
    where
      by : (b : Bool) (qs : List Preceded)
          → list_any p (if_so (head_mark keep I O floor b qs s.1).kept (head_mark keep I O floor b qs s.1).entry
          (kept_of (marked_by keep I O floor (rest_preceded b qs) ss))) ≡ true
          → ((rs : List Preceded) → list_any p (kept_of (marked_by keep I O floor rs ss)) ≡ true → list_any p (plain ss) ≡ true)
          → list_any p (s.1 ∷ plain ss) ≡ true
      by false qs left later = any_if p true s.1 (kept_of (marked_by keep I O floor qs ss)) (plain ss) (later qs) left
      by true [] left later = any_if p true s.1 (kept_of (marked_by keep I O floor [] ss)) (plain ss) (later []) left
      by true (q ∷ qs) left later =
          any_if p (not (drops_at keep I O floor q)) s.1 (kept_of (marked_by keep I O floor qs ss)) (plain ss) (later qs) left

-- ---- of a job that is put in later than it was planned

module _ (job : Job) (moved : List Named) (now : List Sourced) (k : IsKeptFor job moved now) (some : 1 ≤ job.keep) where
  abbrev pub left : List Entry
  left = kept_of (marks_now job now)

  abbrev pub I : List Entry
  I = inputs_of job.base

  up_to_floor : (key : List ℕ) (n : ℕ) → 1 ≤ n → (e : Entry) → e.key ≡ key → is_outdated n I job.floor e ≡ true
      → e.version ≤ job.floor
  up_to_floor key zero least e keys outdated = absurd (omega (arith, least))
  up_to_floor key (suc n) least e keys outdated =
      let f = next_above I job.floor key n e keys outdated in
      let le = f.2 in
      let less = f.3 in
      omega (arith, le, less)

  gone_from : (key : List ℕ) (n : ℕ) → has n (versions_in (plain now) key) ≡ true → has n (versions_in left key) ≡ false
      → Went job.keep I (outside_of job.base) job.floor key n
  gone_from key n there missing =
      went job.keep I (outside_of job.base) job.floor key n [] (preceded [] job.base) now k.inputs refl
      (sym (has-versions_in key n (plain now)) ∙ there) (sym (has-versions_in key n left) ∙ missing)

  -- What is missing is at most the job's floor.
  pub gone_up_to : (key : List ℕ) (n : ℕ) → has n (versions_in (plain now) key) ≡ true → has n (versions_in left key) ≡ false
      → n ≤ job.floor
  gone_up_to key n there missing =
      let (e, at, why) = gone_from key n there missing in
      let parts = at_parts key n e at in
      let version = parts.1 in
      let up : e.version ≤ job.floor = ⊎_elim
      (λ (outdated : is_outdated job.keep I job.floor e ≡ true). up_to_floor key job.keep some e parts.0 outdated)
      (λ (needless : is_needless job.keep (outside_of job.base) job.floor e ≡ true).
      let one = and_parts (job.keep == 1) (is_needless_one (outside_of job.base) job.floor e) needless in
      let two = and_parts (is_gone e.body)
      (nat_le e.version job.floor && not (list_any (is_below e) (outside_of job.base))) one.1 in
      let three = and_parts (nat_le e.version job.floor) (not (list_any (is_below e) (outside_of job.base))) two.1 in
      let low = three.0 in
      let le : e.version ≤ job.floor = grind (arith, nat_tests, low) in le)
      why in
      omega (arith, up, version)

  module _ (floor v : ℕ) (up : job.floor ≤ floor) (two : 2 ≤ v) (few : v ≤ job.keep) (key : List ℕ) where
    all_below : ℕ → Option ℕ
    all_below i = nth_below (versions_in (plain now) key) (floor + 1) i

    inside : AreAmong (versions_in I key) (versions_in (plain now) key)
    inside n there =
        has-versions_in key n (plain now)
        ∙ any_input (is_at key n) now
        (subst (λ (es : List Entry). list_any (is_at key n) es ≡ true) (sym (same_inputs job moved now k))
        (sym (has-versions_in key n I) ∙ there))

    -- What is missing is passed by as many as are kept.
    lost : (n : ℕ) → has n (versions_in (plain now) key) ≡ true → has n (versions_in left key) ≡ false
        → Passes n (nth_below (versions_in (plain now) key) (floor + 1) v)
    lost n there missing =
        let (e, at, why) = gone_from key n there missing in
        let parts = at_parts key n e at in
        let all = versions_in (plain now) key in
        ⊎_elim
        (λ (outdated : is_outdated job.keep I job.floor e ≡ true).
        subst (λ (m : ℕ). Passes m (nth_below all (floor + 1) v)) parts.1
        (passes_risen e.version (nth_below all (floor + 1) job.keep) (nth_below all (floor + 1) v)
        (nth-fewer_than all (floor + 1) v job.keep few)
        (passes_risen e.version (nth_below (versions_in I key) (job.floor + 1) job.keep) (nth_below all (floor + 1) job.keep)
        (nth-risen (versions_in I key) all inside (job.floor + 1) (floor + 1) job.keep (omega (arith, up)))
        (outdated_passes I job.floor key job.keep e parts.0 (up_to_floor key job.keep some e parts.0 outdated) outdated))))
        (λ (needless : is_needless job.keep (outside_of job.base) job.floor e ≡ true).
        let one = (and_parts (job.keep == 1) (is_needless_one (outside_of job.base) job.floor e) needless).0 in
        let is : job.keep ≡ 1 = grind (arith, nat_tests, one) in
        absurd (omega (arith, is, few, two)))
        why

    -- Down to the one of them nothing is missing.
    same_nth : (i : ℕ) → i ≤ v
        → AreRisen (nth_below (versions_in (plain now) key) (floor + 1) i) (nth_below (versions_in left key) (floor + 1) i)
    same_nth zero le = omega arith
    same_nth (suc i) le =
        by_before (nth_below (versions_in (plain now) key) (floor + 1) i) (nth_below (versions_in left key) (floor + 1) i)
        (same_nth i (omega (arith, le))) (nth-fewer_than (versions_in (plain now) key) (floor + 1) (suc i) v le)
      where
        by_before : (a b : Option ℕ) → AreRisen a b
            → AreRisen (nth_below (versions_in (plain now) key) (floor + 1) v) (next_below (versions_in (plain now) key) a)
            → AreRisen (next_below (versions_in (plain now) key) a) (next_below (versions_in left key) b)
        by_before None b r s = tt
        by_before (Some w) None r s = absurd r
        by_before (Some w) (Some x) r s =
            by_next (greatest_below w (versions_in (plain now) key)) (greatest-found w (versions_in (plain now) key)) s
          where
            by_next : (o : Option ℕ) → IsFound w (versions_in (plain now) key) o
                → AreRisen (nth_below (versions_in (plain now) key) (floor + 1) v) o
                → AreRisen o (greatest_below x (versions_in left key))
            by_next None found t = tt
            by_next (Some m) found t = by_kept (has m (versions_in left key)) refl
              where
                never : (o : Option ℕ) → AreRisen o (Some m) → Passes m o → ⊥
                never None q p = p
                never (Some y) q p = omega (arith, q, p)

                by_kept : (c : Bool) → has m (versions_in left key) ≡ c → laws.Reaches m (greatest_below x (versions_in left key))
                by_kept true there = let less = found.0 in greatest-reaches m x (versions_in left key) there
                    (omega (arith, less, r))
                by_kept false missing =
                    absurd (never (nth_below (versions_in (plain now) key) (floor + 1) v) t (lost m found.1 missing))

  -- Where the job keeps at least as many versions as are kept now,
  pub spared_merged : (h : History) (to floor v since : ℕ) → job.floor ≤ floor → v ≤ job.keep
      → IsSpared h (plain now) to floor v since → IsSpared h left to floor v since
  spared_merged h to floor v since up few spared two key n le there missing = by (has n (versions_in (plain now) key)) refl
    where
      risen : AreRisen (nth_below (versions_in (plain now) key) (floor + 1) v) (nth_below (versions_in left key) (floor + 1) v)
      risen = same_nth floor v up two few key v (omega arith)

      by : (t : Bool) → has n (versions_in (plain now) key) ≡ t → (n ≤ since)
          ⊎ Passes n (nth_below (versions_in left key) (floor + 1) v)
      by true is = inr (passes_risen n (nth_below (versions_in (plain now) key) (floor + 1) v)
          (nth_below (versions_in left key) (floor + 1) v)
          risen (lost floor v up two few key n is missing))
      by false is = ⊎_elim (λ (old : n ≤ since). inl old)
          (λ (p : Passes n (nth_below (versions_in (plain now) key) (floor + 1) v)).
          inr (passes_risen n (nth_below (versions_in (plain now) key) (floor + 1) v)
          (nth_below (versions_in left key) (floor + 1) v)
          risen p))
          (spared two key n le there is)

  -- and where that was raised since, as its floor tells, what it leaves spares what the sources did.
  pub spared_raised_since : (h : History) (to floor v since : ℕ) → job.floor ≤ since
      → IsSpared h (plain now) to floor v since → IsSpared h left to floor v since
  spared_raised_since h to floor v since old spared two key n le there missing = by (has n (versions_in (plain now) key)) refl
    where
      among : AreAmong (versions_in left key) (versions_in (plain now) key)
      among m is = has-versions_in key m (plain now)
          ∙ any_kept job.keep I (outside_of job.base) job.floor (is_at key m) (preceded [] job.base) now
          (sym (has-versions_in key m left) ∙ is)

      early : (m : ℕ) → has m (versions_in (plain now) key) ≡ true → has m (versions_in left key) ≡ false → m ≤ since
      early m is gone = let up = gone_up_to key m is gone in omega (arith, up, old)

      by_near : (a b : Option ℕ) → Passes n a
          → IsNear (versions_in (plain now) key) (versions_in left key) floor floor v since (omega arith) among
          (λ m up is gone. inl (early m is gone)) a b
          → (n ≤ since) ⊎ Passes n b
      by_near None b p close = absurd p
      by_near (Some w) None p close = ⊎_elim (λ (was : w ≤ since). inl (omega (arith, was, p))) (λ (r : ⊥). absurd r) close
      by_near (Some w) (Some x) p close =
          ⊎_elim (λ (was : w ≤ since). inl (omega (arith, was, p))) (λ (r : w ≤ x). inr (omega (arith, r, p))) close

      by : (t : Bool) → has n (versions_in (plain now) key) ≡ t → (n ≤ since)
          ⊎ Passes n (nth_below (versions_in left key) (floor + 1) v)
      by true is = inl (early n is missing)
      by false is = ⊎_elim (λ (was : n ≤ since). inl was)
          (λ (p : Passes n (nth_below (versions_in (plain now) key) (floor + 1) v)).
          by_near (nth_below (versions_in (plain now) key) (floor + 1) v) (nth_below (versions_in left key) (floor + 1) v) p
          (near (versions_in (plain now) key) (versions_in left key) floor floor v since (omega arith) among
          (λ m up is gone. inl (early m is gone)) v (omega arith)))
          (spared two key n le there is)

  pub spared_left : (h : History) (to floor v since : ℕ) → job.floor ≤ floor → Fits job.keep job.floor v since
      → IsSpared h (plain now) to floor v since → IsSpared h left to floor v since
  spared_left h to floor v since up fits spared = ⊎_elim
      (λ (few : v ≤ job.keep). spared_merged h to floor v since up few spared)
      (λ (old : job.floor ≤ since). spared_raised_since h to floor v since old spared)
      fits
