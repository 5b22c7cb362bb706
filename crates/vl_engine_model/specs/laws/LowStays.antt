-- The least number at which a key can be read: the same by the versions that are left of it, and whatever is committed later.
use Rattle.std.proofs.Common.{◌≡◌, ◌⊎◌, inl, inr, ⊎_elim, ℕ, zero, suc, ◌+◌, ◌≤◌, Bool, true, false, cond, ◌||◌, List, [], ◌∷◌}
use Rattle.std.proofs.Common.{length, map, refl, ap, sym, ◌∙◌, subst, arith}
use Rattle.std.proofs.lemmas.Bool.Decides.{nat_tests}
use Rattle.std.specs.Prelude.{min, Option, Some, None, is_some, ◌==◌}
use Rattle.std.specs.List.{filter}
use Rattle.std.specs.FinMap.{get}
use Rattle.vl_engine_model.specs.Spared.{AreSpared, Passes}
use Rattle.vl_model.specs.History.{Extends, History, last_number}
use Rattle.vl_model.specs.Keys.{Writes}
use Rattle.vl_model.specs.Numbers.{AreAmong, at_least, greatest_below, has, low_of, next_below, nth_below}
use Rattle.vl_model.specs.Versions.{Numbered, low, naming, numbered, versions}
use Rattle.vl_model.specs.laws.NumberLaws as laws
use Rattle.vl_model.specs.laws.NumberLaws.{AreRisen, IsFound, greatest-found, greatest-reaches, nth-fewer_than, nth-risen}
use Rattle.vl_model.specs.laws.VersionLaws.{has-append, versions-extends_as, versions-stay}

true_false : true ≡ false → ⊥
true_false is = cc

-- ---- the same number

module _ (all left : List ℕ) (to floor keep since : ℕ) (within : floor ≤ to) (among : AreAmong left all)
    (spared : AreSpared all left to floor keep since) where
  -- at most since, or reached by the other
  abbrev pub IsNear : Option ℕ → Option ℕ → Type 0
  IsNear None o = Unit {0}
  IsNear (Some m) o = (m ≤ since) ⊎ laws.Reaches m o

  passed : (i : ℕ) → i ≤ keep → (m : ℕ) → Passes m (nth_below left (floor + 1) keep) → laws.Reaches m (nth_below left (floor + 1) i)
  passed i le m = by_parts (nth_below left (floor + 1) keep) (nth_below left (floor + 1) i) (nth-fewer_than left (floor + 1) i keep le)
    where
      by_parts : (a b : Option ℕ) → AreRisen a b → Passes m a → laws.Reaches m b
      by_parts None b r p = absurd p
      by_parts (Some x) None r p = absurd r
      by_parts (Some x) (Some y) r p = omega (arith, r, p)

  pub near : (i : ℕ) → i ≤ keep → IsNear (nth_below all (floor + 1) i) (nth_below left (floor + 1) i)
  near zero le = inr (omega arith)
  near (suc i) le = by_before (nth_below all (floor + 1) i) (nth_below left (floor + 1) i) (near i (omega (arith, le)))
      (passed (suc i) le) (nth-fewer_than all (floor + 1) 0 i (omega arith))
    where
      by_before : (a b : Option ℕ) → IsNear a b
          → ((m : ℕ) → Passes m (nth_below left (floor + 1) keep) → laws.Reaches m (next_below left b))
          → AreRisen a (Some (floor + 1)) → IsNear (next_below all a) (next_below left b)
      by_before None b n past up = tt
      by_before (Some w) b n past up = by_next (greatest_below w all) (greatest-found w all)
        where
          by_next : (o : Option ℕ) → IsFound w all o → IsNear o (next_below left b)
          by_next None found = tt
          by_next (Some m) found = ⊎_elim
              (λ (old : w ≤ since). let less = found.0 in inl (omega (arith, less, old)))
              (λ (r : laws.Reaches w b). by_left (has m left) refl b r past) n
            where
              by_left : (t : Bool) → has m left ≡ t → (c : Option ℕ) → laws.Reaches w c
                  → ((k : ℕ) → Passes k (nth_below left (floor + 1) keep) → laws.Reaches k (next_below left c))
                  → (m ≤ since) ⊎ laws.Reaches m (next_below left c)
              by_left t is None r p = absurd r
              by_left true there (Some x) r p = let less = found.0 in inr (greatest-reaches m x left there (omega (arith, less, r)))
              by_left false missing (Some x) r p =
                  let less = found.0 in
                  ⊎_elim (λ (old : m ≤ since). inl old)
                  (λ (q : Passes m (nth_below left (floor + 1) keep)). inr (p m q))
                  (spared m (omega (arith, less, up, within)) found.1 missing)

  near_least : (a b : Option ℕ) → IsNear a b → at_least since a ≤ at_least since b
  near_least None None n = omega arith
  near_least None (Some y) n = omega arith
  near_least (Some x) None n = ⊎_elim (λ (old : x ≤ since). omega (arith, old)) (λ (r : ⊥). absurd r) n
  near_least (Some x) (Some y) n = ⊎_elim (λ (old : x ≤ since). omega (arith, old)) (λ (r : x ≤ y). omega (arith, r)) n

  risen_least : (a b : Option ℕ) → AreRisen a b → at_least since a ≤ at_least since b
  risen_least None None r = omega arith
  risen_least None (Some n) r = omega arith
  risen_least (Some m) None r = absurd r
  risen_least (Some m) (Some n) r = omega (arith, r)

  -- what is left of the versions gives the same
  pub low_same : low_of left floor keep since ≡ low_of all floor keep since
  low_same =
      let le = risen_least (nth_below left (floor + 1) keep) (nth_below all (floor + 1) keep)
      (nth-risen left all among (floor + 1) (floor + 1) keep (omega arith)) in
      let ge = near_least (nth_below all (floor + 1) keep) (nth_below left (floor + 1) keep) (near keep (omega arith)) in
      let same : at_least since (nth_below left (floor + 1) keep) ≡ at_least since (nth_below all (floor + 1) keep)
      = omega (arith, le, ge) in
      ap (λ (x : ℕ). cond (keep == 1) floor (min floor x)) same

-- ---- later commits

-- none of these commits has a lower number than the first
numbered_least : (key : List ℕ) (number m : ℕ) (ws : List Writes) → has m (naming key (numbered number ws)) ≡ true → number ≤ m
numbered_least key number m [] there = absurd cc
numbered_least key number m (w ∷ ws) there =
    by_test (is_some (get w key)) (λ later. numbered_least key (number + 1) m ws later) there
  where
    here : (b : Bool) → (number == m) ≡ b → (has m (naming key (numbered (number + 1) ws)) ≡ true → number + 1 ≤ m)
        → (b || has m (naming key (numbered (number + 1) ws))) ≡ true → number ≤ m
    here true is later t = let same : number ≡ m = grind (arith, nat_tests) in omega (arith, same)
    here false is later t = let le = later t in omega (arith, le)

    by_test : (b : Bool) → (has m (naming key (numbered (number + 1) ws)) ≡ true → number + 1 ≤ m)
        → has m (map (λ (c : Numbered). c.0)
        (cond b ((number, w) ∷ filter (λ (c : Numbered). is_some (get c.1 key)) (numbered (number + 1) ws))
        (filter (λ (c : Numbered). is_some (get c.1 key)) (numbered (number + 1) ws)))) ≡ true → number ≤ m
    by_test true later t = here (number == m) refl later t
    by_test false later t = let le = later t in omega (arith, le)

-- up to an earlier history's last number a later one has the same versions
pub older : (least most : History) → Extends least most → (key : List ℕ) (n : ℕ) → n ≤ last_number least
    → has n (versions most key) ≡ true → has n (versions least key) ≡ true
older least most e key n le there = by_old (has n (versions least key)) refl
    (sym (has-append n (versions least key) (naming key (numbered (least.first + 1 + length least.commits) e.later)))
    ∙ subst (λ (ns : List ℕ). has n ns ≡ true) (versions-extends_as least most e key) there)
  where
    by_old : (b : Bool) → has n (versions least key) ≡ b
        → (has n (versions least key) || has n (naming key (numbered (least.first + 1 + length least.commits) e.later))) ≡ true
        → has n (versions least key) ≡ true
    by_old true is either = is
    by_old false is either =
        let more = numbered_least key (least.first + 1 + length least.commits) n e.later
        (ap (λ b. b || has n (naming key (numbered (least.first + 1 + length least.commits) e.later))) (sym is) ∙ either) in
        absurd (omega (arith, more, le))

-- The least number at which a key can be read stays, whatever is committed later, over a floor that the earlier history has.
pub low_stays : (least most : History) → Extends least most → (floor keep since : ℕ) (key : List ℕ) → floor ≤ last_number least
    → low most floor keep since key ≡ low least floor keep since key
low_stays least most e floor keep since key le =
    sym (low_same (versions most key) (versions least key) floor floor keep since (omega arith) (versions-stay least most e key)
    (λ n up there missing. absurd (true_false (sym (older least most e key n (omega (arith, up, le)) there) ∙ missing))))
