-- Where the tables that a merge made take the place of its inputs: a level, and a position in it once the inputs are gone.
use Rattle.std.specs.Prelude.{◌≡◌, ◌==◌, ◌<◌, ◌+◌, ◌-◌, ℕ, Bool, true, false, not, zero, suc, if◌then◌else◌, List, []}
use Rattle.std.specs.Prelude.{◌∷◌, ◌++◌, length, map, Option, None, Some, refl}
use Rattle.std.specs.List.{filter, flat_map}
use Rattle.std.specs.Option.{option_map}
use Rattle.std.proofs.Common.{sym, ap, subst, ◌∙◌, arith, append-nil}
use Rattle.std.proofs.lemmas.Bool.Decides.{nat_tests}
use Rattle.vl_compact.specs.Places.{count_before, found_at, index_of, place_from, place_of}
use Rattle.vl_engine_model.specs.Levels.{at_level, in_key_order, is_among, is_before, level_at, replaced, without}
use Rattle.vl_engine_model.specs.OpenJobs.{IsFitted, IsIdle, IsRoomy}
use Rattle.vl_engine_model.specs.Sources.{tables}
use Rattle.vl_engine_model.specs.declared.job.Job.{Job}
use Rattle.vl_engine_model.specs.declared.job.Target.TheVariants.{InPlace, Level}
use Rattle.vl_engine_model.specs.declared.job.Target.{Target}
use Rattle.vl_engine_model.specs.declared.layout.Layout.{Layout}
use Rattle.vl_engine_model.specs.declared.table.Table.{Table}

-- ---- the place

-- At a place of the levels without the inputs the new tables are put in.
pub record IsPutAt (inputs : List ℕ) (new : List Table) (levels after : List (List Table)) (level position : ℕ) : Type 0 where
  pub front : List (List Table)
  pub before : List Table
  pub behind : List Table
  pub back : List (List Table)
  pub left : map (without inputs) levels ≡ front ++ (before ++ behind) ∷ back
  pub put : after ≡ front ++ (before ++ (new ++ behind)) ∷ back
  pub level_is : level ≡ length front
  pub position_is : position ≡ length before

-- ---- in key order

-- the tables before the new ones, and those behind them
pub record IsCut (new ts : List Table) : Type 0 where
  pub before : List Table
  pub behind : List Table
  pub whole : ts ≡ before ++ behind
  pub count : count_before new ts ≡ length before
  pub put : in_key_order new ts ≡ before ++ (new ++ behind)

pub cut_at : (new ts : List Table) → IsCut new ts
cut_at new [] = record { before = []; behind = []; whole = refl; count = refl; put = sym (append-nil new) }
cut_at new (t ∷ ts) = by (is_before t new) refl (cut_at new ts)
  where
    by : (b : Bool) → is_before t new ≡ b → IsCut new ts → IsCut new (t ∷ ts)
    by true is later = record {
      before = t ∷ later.before;
      behind = later.behind;
      whole = ap (λ (us : List Table). t ∷ us) later.whole;
      count = ap (λ (b : Bool). if b then count_before new ts + 1 else 0) is
          ∙ (let same = later.count in omega (arith, same));
      put = ap (λ (b : Bool). if b then t ∷ in_key_order new ts else new ++ t ∷ ts) is
          ∙ ap (λ (us : List Table). t ∷ us) later.put;
    }
    by false is later = record {
      before = [];
      behind = t ∷ ts;
      whole = refl;
      count = ap (λ (b : Bool). if b then count_before new ts + 1 else 0) is;
      put = ap (λ (b : Bool). if b then t ∷ in_key_order new ts else new ++ t ∷ ts) is;
    }

module _ (inputs : List ℕ) (new : List Table) where
  pub level_put : (n : ℕ) (levels : List (List Table)) → n < length levels
      → IsPutAt inputs new levels (at_level n (in_key_order new) (map (without inputs) levels)) n
      (count_before new (without inputs (level_at n levels)))
  level_put n [] less = absurd (omega (arith, less))
  level_put n (ts ∷ deeper) less = by (n == 0) refl (level_put (n - 1) deeper)
    where
      rest : List (List Table)
      rest = map (without inputs) deeper

      by : (b : Bool) → (n == 0) ≡ b
          → (n - 1 < length deeper → IsPutAt inputs new deeper
          (at_level (n - 1) (in_key_order new) (map (without inputs) deeper)) (n - 1)
          (count_before new (without inputs (level_at (n - 1) deeper))))
          → IsPutAt inputs new (ts ∷ deeper)
          (if b then in_key_order new (without inputs ts) ∷ map (without inputs) deeper
          else without inputs ts ∷ at_level (n - 1) (in_key_order new) (map (without inputs) deeper)) n
          (count_before new (without inputs (if b then ts else level_at (n - 1) deeper)))
      by true is below =
          let cut = cut_at new (without inputs ts) in
          record {
            front = [];
            before = cut.before;
            behind = cut.behind;
            back = map (without inputs) deeper;
            left = ap (λ (us : List Table). us ∷ map (without inputs) deeper) cut.whole;
            put = ap (λ (us : List Table). us ∷ map (without inputs) deeper) cut.put;
            level_is = grind (arith, nat_tests, is);
            position_is = cut.count;
          }
      by false is below =
          let some : 0 < n = grind (arith, nat_tests, is) in
          let later = below (omega (arith, less, some)) in
          record {
            front = without inputs ts ∷ later.front;
            before = later.before;
            behind = later.behind;
            back = later.back;
            left = ap (λ (ls : List (List Table)). without inputs ts ∷ ls) later.left;
            put = ap (λ (ls : List (List Table)). without inputs ts ∷ ls) later.put;
            level_is = (let same = later.level_is in omega (arith, same, some));
            position_is = later.position_is;
          }

  -- ---- in place

  abbrev count : List Table → ℕ
  count ts = length (filter (is_among inputs) ts)

  abbrev swap : Table → List Table
  swap t = if is_among inputs t then new else t ∷ []

  count_append : (ts us : List Table) → count (ts ++ us) ≡ count ts + count us
  count_append [] us = omega arith
  count_append (t ∷ ts) us = by (is_among inputs t) (count_append ts us)
    where
      by : (b : Bool) → count (ts ++ us) ≡ count ts + count us
          → length (if b then t ∷ filter (is_among inputs) (ts ++ us) else filter (is_among inputs) (ts ++ us))
          ≡ length (if b then t ∷ filter (is_among inputs) ts else filter (is_among inputs) ts) + count us
      by true later = omega (arith, later)
      by false later = later

  -- Where none of them is an input nothing changes.
  pub record IsStill (ts : List Table) : Type 0 where
    pub left : without inputs ts ≡ ts
    pub put : flat_map (λ t. if is_among inputs t then new else t ∷ []) ts ≡ ts
    pub none : index_of inputs ts ≡ None

  still : (ts : List Table) → count ts ≡ 0 → IsStill ts
  still [] is = record { left = refl; put = refl; none = refl }
  still (t ∷ ts) none = by (is_among inputs t) refl none (still ts)
    where
      by : (b : Bool) → is_among inputs t ≡ b
          → length (if b then t ∷ filter (is_among inputs) ts else filter (is_among inputs) ts) ≡ 0
          → (count ts ≡ 0 → IsStill ts) → IsStill (t ∷ ts)
      by true is wrong later = absurd (omega (arith, wrong))
      by false is so later =
          let rest = later so in
          record {
            left = ap (λ (b : Bool). if not b then t ∷ without inputs ts else without inputs ts) is
                ∙ ap (λ (us : List Table). t ∷ us) rest.left;
            put = ap (λ (b : Bool). (if b then new else t ∷ [])
                ++ flat_map (λ u. if is_among inputs u then new else u ∷ []) ts) is
                ∙ ap (λ (us : List Table). t ∷ us) rest.put;
            none = ap (λ (b : Bool). if b then Some 0 else option_map (λ n. n + 1) (index_of inputs ts)) is
                ∙ ap (option_map (λ n. n + 1)) rest.none;
          }

  -- Where one of them is one it is found.
  pub record IsFoundIn (ts : List Table) : Type 0 where
    pub before : List Table
    pub behind : List Table
    pub left : without inputs ts ≡ before ++ behind
    pub put : flat_map (λ t. if is_among inputs t then new else t ∷ []) ts ≡ before ++ (new ++ behind)
    pub at : index_of inputs ts ≡ Some (length before)

  found_one : (ts : List Table) → count ts ≡ 1 → IsFoundIn ts
  found_one [] wrong = absurd (omega (arith, wrong))
  found_one (t ∷ ts) one = by (is_among inputs t) refl one (found_one ts)
    where
      by : (b : Bool) → is_among inputs t ≡ b
          → length (if b then t ∷ filter (is_among inputs) ts else filter (is_among inputs) ts) ≡ 1
          → (count ts ≡ 1 → IsFoundIn ts) → IsFoundIn (t ∷ ts)
      by true is so later =
          let rest = still ts (omega (arith, so)) in
          record {
            before = [];
            behind = ts;
            left = ap (λ (b : Bool). if not b then t ∷ without inputs ts else without inputs ts) is ∙ rest.left;
            put = ap (λ (b : Bool). (if b then new else t ∷ [])
                ++ flat_map (λ u. if is_among inputs u then new else u ∷ []) ts) is
                ∙ ap (λ (us : List Table). new ++ us) rest.put;
            at = ap (λ (b : Bool). if b then Some 0 else option_map (λ n. n + 1) (index_of inputs ts)) is;
          }
      by false is so later =
          let rest = later so in
          record {
            before = t ∷ rest.before;
            behind = rest.behind;
            left = ap (λ (b : Bool). if not b then t ∷ without inputs ts else without inputs ts) is
                ∙ ap (λ (us : List Table). t ∷ us) rest.left;
            put = ap (λ (b : Bool). (if b then new else t ∷ [])
                ++ flat_map (λ u. if is_among inputs u then new else u ∷ []) ts) is
                ∙ ap (λ (us : List Table). t ∷ us) rest.put;
            at = ap (λ (b : Bool). if b then Some 0 else option_map (λ n. n + 1) (index_of inputs ts)) is
                ∙ ap (option_map (λ n. n + 1)) rest.at ∙ ap (λ (n : ℕ). Some n) (omega arith);
          }

  pub record AreStill (levels : List (List Table)) : Type 0 where
    pub left : map (without inputs) levels ≡ levels
    pub put : map (flat_map (λ t. if is_among inputs t then new else t ∷ [])) levels ≡ levels

  all_still : (levels : List (List Table)) → count (flat_map (λ ts. ts) levels) ≡ 0 → AreStill levels
  all_still [] none = record { left = refl; put = refl }
  all_still (ts ∷ deeper) none =
      let parts = count_append ts (flat_map (λ us. us) deeper) in
      let here = still ts (omega (arith, parts, none)) in
      let rest = all_still deeper (omega (arith, parts, none)) in
      record {
        left = ap (λ (us : List Table). us ∷ map (without inputs) deeper) here.left
            ∙ ap (λ (ls : List (List Table)). ts ∷ ls) rest.left;
        put = ap (λ (us : List Table). us ∷ map (flat_map (λ t. if is_among inputs t then new else t ∷ [])) deeper) here.put
            ∙ ap (λ (ls : List (List Table)). ts ∷ ls) rest.put;
      }

  abbrev InPlaceFrom : ℕ → List (List Table) → Type 0
  InPlaceFrom first levels = (level : ℕ) × (place_from first inputs levels ≡ (first + level, (place_from first inputs levels).1))
      × IsPutAt inputs new levels (map (flat_map (λ t. if is_among inputs t then new else t ∷ [])) levels) level
      (place_from first inputs levels).1

  place_put : (first : ℕ) (levels : List (List Table)) → count (flat_map (λ ts. ts) levels) ≡ 1 → InPlaceFrom first levels
  place_put first [] wrong = absurd (omega (arith, wrong))
  place_put first (ts ∷ deeper) one = by (count ts) refl (place_put (first + 1) deeper)
    where
      parts : count (ts ++ flat_map (λ us. us) deeper) ≡ count ts + count (flat_map (λ us. us) deeper)
      parts = count_append ts (flat_map (λ us. us) deeper)

      by : (k : ℕ) → count ts ≡ k → (count (flat_map (λ us. us) deeper) ≡ 1 → InPlaceFrom (first + 1) deeper)
          → InPlaceFrom first (ts ∷ deeper)
      by zero is below =
          let here = still ts is in
          let sum = parts in
          let (level, place, at) = below (omega (arith, one, sum, is)) in
          let same : place_from first inputs (ts ∷ deeper) ≡ place_from (first + 1) inputs deeper =
          ap (λ (o : Option ℕ). found_at first o (place_from (first + 1) inputs deeper)) here.none in
          let up : first + 1 + level ≡ first + (level + 1) = omega arith in (
            level + 1,
            same ∙ place ∙ ap (λ (n : ℕ). (n, (place_from (first + 1) inputs deeper).1)) up
                ∙ ap (λ (p : ℕ × ℕ). (first + (level + 1), p.1)) (sym same),
            record {
              front = ts ∷ at.front;
              before = at.before;
              behind = at.behind;
              back = at.back;
              left = ap (λ (us : List Table). us ∷ map (without inputs) deeper) here.left
                  ∙ ap (λ (ls : List (List Table)). ts ∷ ls) at.left;
              put = ap (λ (us : List Table). us ∷ map (flat_map (λ t. if is_among inputs t then new else t ∷ [])) deeper) here.put
                  ∙ ap (λ (ls : List (List Table)). ts ∷ ls) at.put;
              level_is = (let is_level = at.level_is in omega (arith, is_level));
              position_is = ap (λ (p : ℕ × ℕ). p.1) same ∙ at.position_is;
            },
          )
      by (suc k) is below =
          let sum = parts in
          let none : k ≡ 0 = omega (arith, one, sum, is) in
          let here = found_one ts (omega (arith, is, none)) in
          let rest = all_still deeper (omega (arith, one, sum, is)) in
          let same : place_from first inputs (ts ∷ deeper) ≡ (first, length here.before) =
          ap (λ (o : Option ℕ). found_at first o (place_from (first + 1) inputs deeper)) here.at in
          let zero_more : first ≡ first + 0 = omega arith in (
            0,
            same ∙ ap (λ (n : ℕ). (n, length here.before)) zero_more ∙ ap (λ (p : ℕ × ℕ). (first + 0, p.1)) (sym same),
            record {
              front = [];
              before = here.before;
              behind = here.behind;
              back = deeper;
              left = ap (λ (us : List Table). us ∷ map (without inputs) deeper) here.left
                  ∙ ap (λ (ls : List (List Table)). (here.before ++ here.behind) ∷ ls) rest.left;
              put = ap (λ (us : List Table). us ∷ map (flat_map (λ t. if is_among inputs t then new else t ∷ [])) deeper) here.put
                  ∙ ap (λ (ls : List (List Table)). (here.before ++ (new ++ here.behind)) ∷ ls) rest.put;
              level_is = refl;
              position_is = ap (λ (p : ℕ × ℕ). p.1) same;
            },
          )

  idle_count : (ts : List Table) → IsIdle inputs ts → count ts ≡ 0
  idle_count [] idle = refl
  idle_count (t ∷ ts) idle =
      ap (λ (b : Bool). length (if b then t ∷ filter (is_among inputs) ts else filter (is_among inputs) ts)) idle.0
      ∙ idle_count ts idle.1

-- ---- of a job

module _ (l : Layout) (job : Job) (new : List Table) where
  abbrev pub place : ℕ × ℕ
  place = place_of job.target job.inputs new l.levels

  -- The tables of a job that is fitted are put in at its place.
  pub put_at_place : IsFitted l job job.target → IsRoomy l.levels job job.target
      → IsPutAt job.inputs new l.levels (replaced job.target job.inputs new l.levels) place.0 place.1
  put_at_place = by job.target
    where
      by : (target : Target) → IsFitted l job target → IsRoomy l.levels job target
          → IsPutAt job.inputs new l.levels (replaced target job.inputs new l.levels)
          (place_of target job.inputs new l.levels).0 (place_of target job.inputs new l.levels).1
      by (Level n) fitted roomy = level_put job.inputs new n l.levels roomy.1.0
      by InPlace (xs, t, ys, are, (before, (is, behind))) roomy =
          let sum = count_append job.inputs new xs (t ∷ ys) in
          let first = idle_count job.inputs new xs before in
          let last = idle_count job.inputs new ys behind in
          let one : length (filter (is_among job.inputs) (t ∷ ys)) ≡ 1 + length (filter (is_among job.inputs) ys) =
          ap (λ (b : Bool). length (if b then t ∷ filter (is_among job.inputs) ys else filter (is_among job.inputs) ys)) is
          ∙ omega arith in
          let all : length (filter (is_among job.inputs) (tables l)) ≡ 1 =
          ap (λ (ts : List Table). length (filter (is_among job.inputs) ts)) are ∙ omega (arith, sum, first, last, one) in
          let (level, found, at) = place_put job.inputs new 0 l.levels all in
          let same : level ≡ (place_from 0 job.inputs l.levels).0 =
          (let zero_more : level ≡ 0 + level = omega arith in zero_more ∙ sym (ap (λ (p : ℕ × ℕ). p.0) found)) in
          subst (λ (n : ℕ). IsPutAt job.inputs new l.levels (replaced InPlace job.inputs new l.levels) n
          (place_from 0 job.inputs l.levels).1) same at
