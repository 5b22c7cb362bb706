-- A tree whose halves are level is at most twice as deep as the logarithm of its nodes.
use Rattle.std.proofs.Common.{◌≡◌, ℕ, ◌+◌, ◌*◌, ◌/◌, ◌^◌, ◌<◌, ◌≤◌, max, Bool, true, false, cond, List, [], ◌∷◌, ◌++◌}
use Rattle.std.proofs.Common.{length, length-append, refl, ap, sym, subst, ◌∙◌, arith, is_some, zero, suc}
use Rattle.std.specs.Prelude.{nat_le}
use Rattle.std.proofs.lemmas.Bool.Decides.{nat_tests}
use Rattle.std.proofs.Math.Nat.{pow-suc}
use Rattle.std.proofs.Math.Pow.{pow_mono}
use Rattle.std.specs.List.{filter}
use Rattle.std.specs.FinMap.{put, find, is_sorted}
use Rattle.std.specs.FinMap.Entries.{length-put}
use Rattle.std.specs.Cmp.Lexicographic.{nat_list_cmp_total}
use Rattle.vl_model.specs.Keys.{key_cmp}
use Rattle.vl_model.specs.Conflicts.{Named}
use Rattle.vl_conflict.specs.Trees.{named, depth_of, height_of, IsWhole}
use Rattle.vl_conflict.specs.declared.tree.Tree.{Tree, Leaf, Fork'}
use Rattle.vl_conflict.specs.laws.OrderLaws.{as_T}

-- a whole tree's height is its depth
pub height-depth : (tree : Tree) → IsWhole tree → height_of tree ≡ depth_of tree
height-depth Leaf whole = refl
height-depth (Fork' p left key number least greatest height right) whole =
    let is = whole.2 in
    let l = height-depth left whole.4 in
    let r = height-depth right whole.5 in
    is ∙ ap (λ (n : ℕ). 1 + max n (height_of right)) l ∙ ap (λ (n : ℕ). 1 + max (depth_of left) n) r

two_more : (n : ℕ) → 2 ^ ((n + 2) / 2) ≡ 2 * 2 ^ (n / 2)
two_more n = let half : (n + 2) / 2 ≡ n / 2 + 1 = omega arith in ap (λ (m : ℕ). 2 ^ m) half ∙ double (n / 2)
  where
    double : (m : ℕ) → 2 ^ (m + 1) ≡ 2 * 2 ^ m
    double m = let more : m + 1 ≡ suc m = omega arith in ap (λ (k : ℕ). 2 ^ k) more ∙ omega (arith, pow-suc 2 m)

half_mono : (n m : ℕ) → n ≤ m → 2 ^ (n / 2) ≤ 2 ^ (m / 2)
half_mono n m le = let half : n / 2 ≤ m / 2 = omega arith in pow_mono half

-- each half has the nodes of a tree two levels lower
nodes_of_halves : (n l r more : ℕ) → n ≡ 1 + max l r → l ≤ r + 1 → r ≤ l + 1 → (a b : ℕ) → 2 ^ (l / 2) ≤ a + 1 → 2 ^ (r / 2) ≤ b + 1
    → more ≡ a + (b + 1) → 2 ^ (n / 2) ≤ more + 1
nodes_of_halves zero l r more is le ge a b left right sum = absurd (omega arith)
nodes_of_halves (suc zero) l r more is le ge a b left right sum = omega arith
nodes_of_halves (suc (suc k)) l r more is le ge a b left right sum =
    let of_left = half_mono k l (omega arith) in
    let of_right = half_mono k r (omega arith) in
    let two : 2 ^ (suc (suc k) / 2) ≡ 2 * 2 ^ (k / 2) = ap (λ (n : ℕ). 2 ^ (n / 2)) (two_behind k) ∙ two_more k in
    omega arith
  where
    two_behind : (k : ℕ) → suc (suc k) ≡ k + 2
    two_behind k = omega arith

many_nodes : (tree : Tree) → IsWhole tree → 2 ^ (height_of tree / 2) ≤ length (named tree) + 1
many_nodes Leaf whole = omega arith
many_nodes (Fork' p left key number least greatest height right) whole =
    nodes_of_halves height (height_of left) (height_of right)
    (length (named left ++ ((key, number) ∷ named right))) whole.2 whole.3.0 whole.3.1
    (length (named left)) (length (named right)) (many_nodes left whole.4) (many_nodes right whole.5)
    (omega (arith, length-append (named left) ((key, number) ∷ named right)))

pub whole-shallow : (tree : Tree) → IsWhole tree → 2 ^ (depth_of tree / 2) ≤ length (named tree) + 1
whole-shallow tree whole =
    let P : ℕ → Type 0 = λ n. 2 ^ (n / 2) ≤ length (named tree) + 1 in subst P (height-depth tree whole) (many_nodes tree whole)

-- a tree of fewer nodes than can be made has a height that can be counted
pub whole-low : (tree : Tree) → IsWhole tree → length (named tree) ≤ 2 ^ 62 → height_of tree ≤ 254
whole-low tree whole few = by (nat_le (height_of tree) 254) refl
  where
    high : 254 < height_of tree → ⊥
    high above = let least = half_mono 254 (height_of tree) (omega arith) in let most = many_nodes tree whole in omega arith

    by : (b : Bool) → nat_le (height_of tree) 254 ≡ b → height_of tree ≤ 254
    by true is = grind (arith, nat_tests)
    by false is = absurd (high (grind (arith, nat_tests)))

-- ---- how many keys there are

pub length-put-le : (key : List ℕ) (number : ℕ) (es : List Named) → is_sorted key_cmp es ≡ true
    → length (put key_cmp key number es) ≤ length es + 1
length-put-le key number es sorted =
    let P : ℕ → Type 0 = λ n. n ≤ length es + 1 in
    subst P (sym (length-put key_cmp nat_list_cmp_total key number es (as_T (is_sorted key_cmp es) sorted)))
    (by (is_some (find key_cmp key es)))
  where
    by : (b : Bool) → cond b (length es) (length es + 1) ≤ length es + 1
    by true = omega arith
    by false = omega arith

pub length-filter-le : (test : Named → Bool) (es : List Named) → length (filter test es) ≤ length es
length-filter-le test [] = omega arith
length-filter-le test (e ∷ es) =
    let later = length-filter-le test es in
    elim (test e) as (λ b. length (cond b (e ∷ filter test es) (filter test es)) ≤ length (e ∷ es)) [
      | true ↦ omega arith
      | false ↦ omega arith
    ]
