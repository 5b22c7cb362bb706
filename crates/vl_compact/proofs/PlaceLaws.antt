-- Where the tables that a merge makes are put among those that aren't its inputs.
use Rattle.std.specs.Prelude.{Bool, true, false, if◌then◌else◌, Option, Some, None, ◌==◌, not, map}
use Rattle.std.specs.List.{flat_map}
use Rattle.std.specs.Option.{option_map}
use Rattle.std.proofs.Common.{◌≡◌, ⊎_elim, inl, inr, ◌⊎◌, ℕ, ◌+◌, ◌-◌, ◌<◌, ◌≤◌, List, [], ◌∷◌, ◌++◌, zero, suc}
use Rattle.std.proofs.Common.{append-nil, length, refl, ap, sym, subst, ◌∙◌, arith}
use Rattle.std.proofs.lemmas.Bool.Decides.{nat_tests}
use Rattle.vl_engine_model.specs.Levels.{at_level, in_key_order, is_among, is_before, level_at, without}
use Rattle.vl_engine_model.specs.OpenJobs.{IsIdle}
use Rattle.vl_engine_model.specs.declared.job.Target.TheVariants.{InPlace, Level}
use Rattle.vl_engine_model.specs.declared.table.Table.{Table}
use Rattle.vl_compact.specs.Places.{HasPlace, IsPlace, count_before, ends_before, first_key, found_at, index_of}
use Rattle.vl_compact.specs.Places.{input_from, place_before, place_from, put_at, put_in}

-- ---- in key order

before_is : (t : Table) (new : List Table) → is_before t new ≡ ends_before (first_key new) t
before_is t [] = refl
before_is t (u ∷ us) = refl

key_order : (new ts : List Table) → in_key_order new ts ≡ put_at (place_before (first_key new) ts) new ts
key_order [] [] = refl
key_order (n ∷ ns) [] = sym (append-nil (n ∷ ns))
key_order new (t ∷ ts) =
    ap (λ (b : Bool). if b then t ∷ in_key_order new ts else new ++ t ∷ ts) (before_is t new)
    ∙ by (ends_before (first_key new) t) (key_order new ts)
  where
    by : (b : Bool) → in_key_order new ts ≡ put_at (place_before (first_key new) ts) new ts
        → (if b then t ∷ in_key_order new ts else new ++ t ∷ ts)
        ≡ put_at (if b then suc (place_before (first_key new) ts) else zero) new (t ∷ ts)
    by true rest = ap (λ l. t ∷ l) rest
    by false rest = refl

count_is : (new ts : List Table) → count_before new ts ≡ place_before (first_key new) ts
count_is new [] = refl
count_is new (t ∷ ts) =
    ap (λ (b : Bool). if b then count_before new ts + 1 else 0) (before_is t new) ∙ by (ends_before (first_key new) t) (count_is new ts)
  where
    by : (b : Bool) → count_before new ts ≡ place_before (first_key new) ts
        → (if b then count_before new ts + 1 else 0) ≡ (if b then suc (place_before (first_key new) ts) else 0)
    by true rest = omega (arith, rest)
    by false rest = refl

place_within : (first : Option (List ℕ)) (ts : List Table) → place_before first ts ≤ length ts
place_within first [] = omega arith
place_within first (t ∷ ts) = by (ends_before first t) (place_within first ts)
  where
    by : (b : Bool) → place_before first ts ≤ length ts → (if b then suc (place_before first ts) else zero) ≤ length (t ∷ ts)
    by true rest = omega (arith, rest)
    by false rest = omega arith

-- ---- in one level

not_first : (n : ℕ) → (suc n == 0) ≡ false
not_first n = grind (arith, nat_tests)

less_one : (n : ℕ) → suc n - 1 ≡ n
less_one n = omega arith

pub level_next : (n : ℕ) (l : List Table) (ls : List (List Table)) → level_at (suc n) (l ∷ ls) ≡ level_at n ls
level_next n l ls =
    ap (λ (b : Bool). if b then l else level_at (suc n - 1) ls) (not_first n) ∙ ap (λ (m : ℕ). level_at m ls) (less_one n)

pub next_level : (n : ℕ) (f : List Table → List Table) (l : List Table) (ls : List (List Table))
    → at_level (suc n) f (l ∷ ls) ≡ l ∷ at_level n f ls
next_level n f l ls =
    ap (λ (b : Bool). if b then f l ∷ ls else l ∷ at_level (suc n - 1) f ls) (not_first n)
    ∙ ap (λ (m : ℕ). l ∷ at_level m f ls) (less_one n)

pub at_same : (n : ℕ) (f g : List Table → List Table) (ls : List (List Table)) → f (level_at n ls) ≡ g (level_at n ls)
    → at_level n f ls ≡ at_level n g ls
at_same n f g [] same = refl
at_same n f g (l ∷ ls) same = by (n == 0) (at_same (n - 1) f g ls) same
  where
    by : (b : Bool) → (f (level_at (n - 1) ls) ≡ g (level_at (n - 1) ls) → at_level (n - 1) f ls ≡ at_level (n - 1) g ls)
        → f (if b then l else level_at (n - 1) ls) ≡ g (if b then l else level_at (n - 1) ls)
        → (if b then f l ∷ ls else l ∷ at_level (n - 1) f ls) ≡ (if b then g l ∷ ls else l ∷ at_level (n - 1) g ls)
    by true rest same = ap (λ k. k ∷ ls) same
    by false rest same = ap (λ ks. l ∷ ks) (rest same)

pub level_without : (inputs : List ℕ) (n : ℕ) (ls : List (List Table))
    → level_at n (map (without inputs) ls) ≡ without inputs (level_at n ls)
level_without inputs n [] = refl
level_without inputs n (l ∷ ls) = by (n == 0) (level_without inputs (n - 1) ls)
  where
    by : (b : Bool) → level_at (n - 1) (map (without inputs) ls) ≡ without inputs (level_at (n - 1) ls)
        → (if b then without inputs l else level_at (n - 1) (map (without inputs) ls))
        ≡ without inputs (if b then l else level_at (n - 1) ls)
    by true rest = refl
    by false rest = rest

-- into a level
pub place_in_level : (n : ℕ) (inputs : List ℕ) (first : Option (List ℕ)) (ls : List (List Table)) → HasPlace (Level n) inputs ls
    → IsPlace (Level n) inputs first ls n (place_before first (without inputs (level_at n ls)))
place_in_level n inputs first ls has = record {
  is = λ new is. ap (λ (m : ℕ). (n, m)) (count_is new (without inputs (level_at n ls))
      ∙ ap (λ (k : Option (List ℕ)). place_before k (without inputs (level_at n ls))) is);
  there = has;
  within = place_within first (without inputs (level_at n ls));
  puts = λ new is. at_same n (in_key_order new) (put_at (place_before first (without inputs (level_at n ls))) new) (map (without inputs) ls)
      (ap (in_key_order new) (level_without inputs n ls)
      ∙ key_order new (without inputs (level_at n ls))
      ∙ ap (λ (k : Option (List ℕ)). put_at (place_before k (without inputs (level_at n ls))) new (without inputs (level_at n ls))) is
      ∙ ap (put_at (place_before first (without inputs (level_at n ls))) new) (sym (level_without inputs n ls)));
}

-- ---- in place

module _ (inputs : List ℕ) where
  -- one of these tables is an input
  record HasOne (ts : List Table) : Type 0 where
    xs : List Table
    t : Table
    ys : List Table
    is : ts ≡ xs ++ t ∷ ys
    idle : IsIdle inputs xs
    among : is_among inputs t ≡ true
    others : IsIdle inputs ys

  idle_parts : (xs ys : List Table) → IsIdle inputs (xs ++ ys) → IsIdle inputs xs × IsIdle inputs ys
  idle_parts [] ys idle = (tt, idle)
  idle_parts (x ∷ xs) ys idle = let rest = idle_parts xs ys idle.1 in ((idle.0, rest.0), rest.1)

  -- it is among the first of them, or among the others
  one_of : (l rest xs ys : List Table) (t : Table) → l ++ rest ≡ xs ++ t ∷ ys → IsIdle inputs xs → is_among inputs t ≡ true
      → IsIdle inputs ys → (HasOne l × IsIdle inputs rest) ⊎ (IsIdle inputs l × HasOne rest)
  one_of [] rest xs ys t is idle among others =
      inr (tt, record { xs = xs; t = t; ys = ys; is = is; idle = idle; among = among; others = others })
  one_of (u ∷ l) rest [] ys t is idle among others =
      let same : t ≡ u = cc in
      let left : ys ≡ l ++ rest = cc in
      let parts = idle_parts l rest (subst (IsIdle inputs) left others) in
      inl (
        record {
          xs = [];
          t = u;
          ys = l;
          is = refl;
          idle = tt;
          among = subst (λ (v : Table). is_among inputs v ≡ true) same among;
          others = parts.0;
        },
        parts.1,
      )
  one_of (u ∷ l) rest (x ∷ xs) ys t is idle among others =
      let same : x ≡ u = cc in
      let left : l ++ rest ≡ xs ++ t ∷ ys = cc in
      let first : is_among inputs u ≡ false = subst (λ (v : Table). is_among inputs v ≡ false) same idle.0 in
      ⊎_elim
      (λ here. inl (more first here.0, here.1))
      (λ there. inr ((first, there.0), there.1))
      (one_of l rest xs ys t left idle.1 among others)
    where
      more : is_among inputs u ≡ false → HasOne l → HasOne (u ∷ l)
      more first one = record {
        xs = u ∷ one.xs;
        t = one.t;
        ys = one.ys;
        is = ap (λ (k : List Table). u ∷ k) one.is;
        idle = (first, one.idle);
        among = one.among;
        others = one.others;
      }

  idle_without : (ts : List Table) → IsIdle inputs ts → without inputs ts ≡ ts
  idle_without [] idle = refl
  idle_without (t ∷ ts) idle = ap (λ (b : Bool). if not b then t ∷ without inputs ts else without inputs ts) idle.0
      ∙ ap (λ l. t ∷ l) (idle_without ts idle.1)

  abbrev swapped : List Table → List Table → List Table
  swapped new ts = flat_map (λ t. if is_among inputs t then new else t ∷ []) ts

  idle_swapped : (new ts : List Table) → IsIdle inputs ts → swapped new ts ≡ ts
  idle_swapped new [] idle = refl
  idle_swapped new (t ∷ ts) idle = ap (λ (b : Bool). (if b then new else t ∷ []) ++ swapped new ts) idle.0
      ∙ ap (λ l. t ∷ l) (idle_swapped new ts idle.1)

  idle_place : (ts : List Table) → IsIdle inputs ts → index_of inputs ts ≡ None
  idle_place [] idle = refl
  idle_place (t ∷ ts) idle =
      ap (λ (b : Bool). if b then Some zero else option_map (λ n. n + 1) (index_of inputs ts)) idle.0
      ∙ ap (option_map (λ n. n + 1)) (idle_place ts idle.1)

  -- the place of the input in its level
  record PlaceOf (ts : List Table) : Type 0 where
    position : ℕ
    is : index_of inputs ts ≡ Some position
    within : position ≤ length (without inputs ts)
    puts : (new : List Table) → swapped new ts ≡ put_at position new (without inputs ts)

  one_place : (xs ys : List Table) (t : Table) → IsIdle inputs xs → is_among inputs t ≡ true → IsIdle inputs ys
      → PlaceOf (xs ++ t ∷ ys)
  one_place [] ys t idle among others = record {
    position = zero;
    is = ap (λ (b : Bool). if b then Some zero else option_map (λ n. n + 1) (index_of inputs ys)) among;
    within = omega arith;
    puts = λ new.
        ap (λ (b : Bool). (if b then new else t ∷ []) ++ swapped new ys) among ∙ ap (λ l. new ++ l) (idle_swapped new ys others)
        ∙ ap (λ l. new ++ l) (sym (idle_without ys others))
        ∙ sym (ap (λ (b : Bool). put_at zero new (if not b then t ∷ without inputs ys else without inputs ys)) among);
  }
  one_place (x ∷ xs) ys t idle among others =
      let rest = one_place xs ys t idle.1 among others in record {
        position = suc rest.position;
        is = ap (λ (b : Bool). if b then Some zero else option_map (λ n. n + 1) (index_of inputs (xs ++ t ∷ ys))) idle.0
            ∙ ap (option_map (λ n. n + 1)) rest.is ∙ ap Some (plus rest.position);
        within = subst (λ (l : List Table). suc rest.position ≤ length l)
            (sym (ap (λ (b : Bool). if not b then x ∷ without inputs (xs ++ t ∷ ys) else without inputs (xs ++ t ∷ ys)) idle.0))
            (one_more rest.position (length (without inputs (xs ++ t ∷ ys))) rest.within);
        puts = λ new.
            ap (λ (b : Bool). (if b then new else x ∷ []) ++ swapped new (xs ++ t ∷ ys)) idle.0
            ∙ ap (λ l. x ∷ l) (rest.puts new)
            ∙ sym (ap (λ (b : Bool). put_at (suc rest.position) new
            (if not b then x ∷ without inputs (xs ++ t ∷ ys) else without inputs (xs ++ t ∷ ys))) idle.0);
      }
    where
      plus : (n : ℕ) → n + 1 ≡ suc n
      plus n = omega arith

      one_more : (n m : ℕ) → n ≤ m → suc n ≤ suc m
      one_more n m le = omega (arith, le)

  one_placed : (ts : List Table) → HasOne ts → PlaceOf ts
  one_placed ts one = subst PlaceOf (sym one.is) (one_place one.xs one.ys one.t one.idle one.among one.others)

  -- ---- of all levels

  abbrev flat : List (List Table) → List Table
  flat ls = flat_map (λ level. level) ls

  all_swapped : (new : List Table) (ls : List (List Table)) → IsIdle inputs (flat ls) → map (swapped new) ls ≡ map (without inputs) ls
  all_swapped new [] idle = refl
  all_swapped new (l ∷ ls) idle =
      let parts = idle_parts l (flat ls) idle in
      ap (λ k. k ∷ map (swapped new) ls) (idle_swapped new l parts.0 ∙ sym (idle_without l parts.0))
      ∙ ap (λ ks. without inputs l ∷ ks) (all_swapped new ls parts.1)

  plus_none : (n : ℕ) → n ≡ n + zero
  plus_none n = omega arith

  plus_more : (n m : ℕ) → (n + 1) + m ≡ n + suc m
  plus_more n m = omega arith

  -- the first of the levels has this number
  record PlaceIn (first : ℕ) (ls : List (List Table)) : Type 0 where
    level : ℕ
    position : ℕ
    is : place_from first inputs ls ≡ (first + level, position)
    found : input_from first inputs ls ≡ (first + level, position)
    there : level < length ls
    within : position ≤ length (without inputs (level_at level ls))
    puts : (new : List Table) → map (swapped new) ls ≡ put_in level position new (map (without inputs) ls)

  place_in : (first : ℕ) (ls : List (List Table)) → HasOne (flat ls) → PlaceIn first ls
  place_in first [] one = absurd (none one.xs one.is)
    where
      none : (xs : List Table) → [] ≡ xs ++ one.t ∷ one.ys → ⊥
      none [] is = cc
      none (x ∷ xs) is = cc
  place_in first (l ∷ ls) one = ⊎_elim (λ here. first_level here.0 here.1)
      (λ there. later there.0 (place_in (first + 1) ls there.1))
      (one_of l (flat ls) one.xs one.ys one.t one.is one.idle one.among one.others)
    where
      first_level : HasOne l → IsIdle inputs (flat ls) → PlaceIn first (l ∷ ls)
      first_level one idle =
          let place = one_placed l one in record {
            level = zero;
            position = place.position;
            is = ap (λ (o : Option ℕ). found_at first o (place_from (first + 1) inputs ls)) place.is
                ∙ ap (λ (n : ℕ). (n, place.position)) (plus_none first);
            found = ap (λ (o : Option ℕ). found_at first o (input_from (first + 1) inputs ls)) place.is
                ∙ ap (λ (n : ℕ). (n, place.position)) (plus_none first);
            there = omega arith;
            within = place.within;
            puts = λ new. ap (λ k. k ∷ map (swapped new) ls) (place.puts new)
                ∙ ap (λ ks. put_at place.position new (without inputs l) ∷ ks) (all_swapped new ls idle);
          }

      later : IsIdle inputs l → PlaceIn (first + 1) ls → PlaceIn first (l ∷ ls)
      later idle place = record {
        level = suc place.level;
        position = place.position;
        is = ap (λ (o : Option ℕ). found_at first o (place_from (first + 1) inputs ls)) (idle_place l idle) ∙ place.is
            ∙ ap (λ (n : ℕ). (n, place.position)) (plus_more first place.level);
        found = ap (λ (o : Option ℕ). found_at first o (input_from (first + 1) inputs ls)) (idle_place l idle) ∙ place.found
            ∙ ap (λ (n : ℕ). (n, place.position)) (plus_more first place.level);
        there = omega (arith, place.there);
        within = subst (λ (ts : List Table). place.position ≤ length (without inputs ts)) (sym (level_next place.level l ls)) place.within;
        puts = λ new. ap (λ k. k ∷ map (swapped new) ls) (idle_swapped new l idle ∙ sym (idle_without l idle))
            ∙ ap (λ ks. without inputs l ∷ ks) (place.puts new)
            ∙ sym (next_level place.level (put_at place.position new) (without inputs l) (map (without inputs) ls));
      }

-- in the place of the one input
pub place_in_place : (inputs : List ℕ) (first : Option (List ℕ)) (ls : List (List Table)) → HasPlace InPlace inputs ls
    → (place : ℕ × ℕ) → place ≡ input_from 0 inputs ls → IsPlace InPlace inputs first ls place.0 place.1
place_in_place inputs first ls (xs, t, ys, is, so) place same =
    let found = place_in inputs 0 ls (record { xs = xs; t = t; ys = ys; is = is; idle = so.0; among = so.1.0; others = so.1.1 }) in
    subst (λ (p : ℕ × ℕ). IsPlace InPlace inputs first ls p.0 p.1)
    (sym (same ∙ found.found ∙ ap (λ (n : ℕ). (n, found.position)) (none found.level)))
    (record {
      is = λ new begins. found.is ∙ ap (λ (n : ℕ). (n, found.position)) (none found.level);
      there = found.there;
      within = found.within;
      puts = λ new begins. found.puts new;
    })
  where
    none : (n : ℕ) → 0 + n ≡ n
    none n = omega arith
