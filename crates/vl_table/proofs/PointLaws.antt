-- How a point finds its place among others, in a map and in a list, and that the order in which points are added makes no
-- difference.
use Rattle.std.specs.Prelude.{◌≡◌, ℕ, ◌+◌, ◌<◌, ◌≤◌, List, [], ◌∷◌, ◌++◌, ◌≢◌, ◌⊎◌, Bool, true, false, nat_lt, map, Option, None}
use Rattle.std.specs.BTreeMap.{insert_entry, is_at}
use Rattle.std.specs.Cmp.{nat_cmp_total}
use Rattle.std.specs.List.Sorted.{IsStrictlySortedBy}
use Rattle.std.specs.Map.{keys_of, lookup}
use Rattle.std.specs.Option.{unwrap_or}
use Rattle.std.specs.Ordering.{is_eq, match_ordering, nat_cmp}
use Rattle.std.specs.declared.cmp.Ordering.{Ordering}
use Rattle.std.specs.declared.cmp.Ordering.TheVariants.{Less, Equal, Greater}
use Rattle.std.proofs.Common.{inl, inr, ⊎_elim, refl, ap, sym, ◌∙◌, arith}
use Rattle.std.proofs.lemmas.Bool.{cases_eq}
use Rattle.std.proofs.lemmas.Bool.Decides.{nat_tests}
use Rattle.std.proofs.lemmas.Map.{lookup-none}
use Rattle.std.proofs.lemmas.Map.Entries.{lookup_head, lookup_tail, none_below_head}
use Rattle.std.proofs.lemmas.Map.Keys.{sorted_tail}
use Rattle.vl_model.specs.Entries.{by_order}
use Rattle.vl_model.specs.declared.entry.Entry.{Entry}
use Rattle.vl_model.specs.declared.entry.Body.{Body}
use Rattle.vl_model.specs.declared.entry.Body.TheVariants.{Inline, Gone, Far, Logged}
use Rattle.vl_model.specs.Cutting.{pointed, points_of, with_point}
use Rattle.vl_model.specs.declared.point.Point.{Point}
use Rattle.vl_table.specs.writer.PointSums.{point_of}

-- ---- one place

is_above : (m n : ℕ) → n < m → nat_cmp m n ≡ Greater
is_above m n less = grind (arith, nat_tests)

is_below : (m n : ℕ) → m < n → nat_cmp m n ≡ Less
is_below m n less = grind (arith, nat_tests)

is_same : (m n : ℕ) → m ≡ n → nat_cmp m n ≡ Equal
is_same m n same = grind (arith, nat_tests)

pub pointed-above : (segment bytes : ℕ) (p : Point) (ps : List Point) → p.segment < segment
    → pointed segment bytes (p ∷ ps) ≡ p ∷ pointed segment bytes ps
pointed-above segment bytes p ps less =
    ap (λ r. by_order r (record { segment = segment; bytes = bytes } ∷ p ∷ ps)
    (record { segment = p.segment; bytes = p.bytes + bytes } ∷ ps) (p ∷ pointed segment bytes ps)) (is_above segment p.segment less)

pub pointed-below : (segment bytes : ℕ) (p : Point) (ps : List Point) → segment < p.segment
    → pointed segment bytes (p ∷ ps) ≡ record { segment = segment; bytes = bytes } ∷ p ∷ ps
pointed-below segment bytes p ps less =
    ap (λ r. by_order r (record { segment = segment; bytes = bytes } ∷ p ∷ ps)
    (record { segment = p.segment; bytes = p.bytes + bytes } ∷ ps) (p ∷ pointed segment bytes ps)) (is_below segment p.segment less)

pub pointed-same : (segment bytes : ℕ) (p : Point) (ps : List Point) → segment ≡ p.segment
    → pointed segment bytes (p ∷ ps) ≡ record { segment = p.segment; bytes = p.bytes + bytes } ∷ ps
pointed-same segment bytes p ps same =
    ap (λ r. by_order r (record { segment = segment; bytes = bytes } ∷ p ∷ ps)
    (record { segment = p.segment; bytes = p.bytes + bytes } ∷ ps) (p ∷ pointed segment bytes ps)) (is_same segment p.segment same)

pub three_ways : (m n : ℕ) → (m < n) ⊎ ((m ≡ n) ⊎ (n < m))
three_ways m n = ⊎_elim (λ (e : m ≡ n). inr (inl e)) (λ (o : m ≢ n). apart (nat_lt m n) refl o) (cases_eq m n)
  where
    apart : (t : Bool) → nat_lt m n ≡ t → m ≢ n → (m < n) ⊎ ((m ≡ n) ⊎ (n < m))
    apart true is o = inl (grind (arith, nat_tests))
    apart false is o = inr (inr (grind (arith, nat_tests, o)))

-- ---- a map of sums

-- a sum that grows in a map grows among the points
pub points-insert : (segment bytes : ℕ) (es : List (ℕ × ℕ)) → IsStrictlySortedBy nat_cmp (keys_of es)
    → map point_of (insert_entry nat_cmp es segment (unwrap_or (lookup (is_at (nat_cmp segment)) es) 0 + bytes))
    ≡ pointed segment bytes (map point_of es)
points-insert segment bytes [] ordered = let none : 0 + bytes ≡ bytes = omega arith in ap
    (λ (n : ℕ). record { segment = segment; bytes = n } ∷ []) none
points-insert segment bytes (e ∷ es) ordered =
    by (points-insert segment bytes es (sorted_tail nat_cmp e.0 (keys_of es) ordered)) (nat_cmp segment e.0) refl
  where
    was : ℕ
    was = unwrap_or (lookup (is_at (nat_cmp segment)) es) 0 + bytes

    sum : ℕ
    sum = unwrap_or (lookup (is_at (nat_cmp segment)) (e ∷ es)) 0 + bytes

    none : unwrap_or {T = ℕ} None 0 + bytes ≡ bytes
    none = omega arith

    put : Ordering → ℕ → List Point
    put r n = map point_of (match_ordering r ((segment, n) ∷ e ∷ es) ((e.0, n) ∷ es) (e ∷ insert_entry nat_cmp es segment n))

    by : map point_of (insert_entry nat_cmp es segment was) ≡ pointed segment bytes (map point_of es)
        → (r : Ordering) → nat_cmp segment e.0 ≡ r → put (nat_cmp segment e.0) sum ≡ pointed segment bytes (map point_of (e ∷ es))
    by later Less is =
        let absent = lookup-none (is_at (nat_cmp segment)) (e ∷ es) (none_below_head nat_cmp_total segment e es ordered is) in
        ap (λ r. put r sum) is
        ∙ ap (λ (o : Option ℕ). put Less (unwrap_or o 0 + bytes)) absent
        ∙ ap (λ (n : ℕ). put Less n) none
        ∙ sym (ap (λ r. by_order r (record { segment = segment; bytes = bytes } ∷ map point_of (e ∷ es))
        (record { segment = e.0; bytes = e.1 + bytes } ∷ map point_of es) (point_of e ∷ pointed segment bytes (map point_of es))) is)
    by later Equal is =
        let found = lookup_head (is_at (nat_cmp segment)) e es (ap is_eq is) in
        ap (λ r. put r sum) is
        ∙ ap (λ (o : Option ℕ). put Equal (unwrap_or o 0 + bytes)) found
        ∙ sym (ap (λ r. by_order r (record { segment = segment; bytes = bytes } ∷ map point_of (e ∷ es))
        (record { segment = e.0; bytes = e.1 + bytes } ∷ map point_of es) (point_of e ∷ pointed segment bytes (map point_of es))) is)
    by later Greater is =
        let behind = lookup_tail (is_at (nat_cmp segment)) e es (ap is_eq is) in
        ap (λ r. put r sum) is
        ∙ ap (λ (o : Option ℕ). put Greater (unwrap_or o 0 + bytes)) behind
        ∙ ap (λ (l : List Point). point_of e ∷ l) later
        ∙ sym (ap (λ r. by_order r (record { segment = segment; bytes = bytes } ∷ map point_of (e ∷ es))
        (record { segment = e.0; bytes = e.1 + bytes } ∷ map point_of es) (point_of e ∷ pointed segment bytes (map point_of es))) is)

-- ---- the order makes no difference

-- a point of so many bytes
abbrev point : ℕ → ℕ → Point
point segment bytes = record { segment = segment; bytes = bytes }

added : (a b m n k : ℕ) → a ≡ b → (k + n) + m ≡ (k + m) + n
added a b m n k same = omega arith

merged : (a b m n : ℕ) (rest : List Point) → a ≡ b → point b (n + m) ∷ rest ≡ point a (m + n) ∷ rest
merged a b m n rest same = let back : b ≡ a = sym same in let sum : n + m ≡ m + n = omega arith in λ k. point (back k) (sum k) ∷ rest

-- the lower segment in front of the higher, or one point for both
pair : (a m b n : ℕ) (rest : List Point) → a ≤ b → (pointed b n rest ≡ point b n ∷ rest) → (pointed a m rest ≡ point a m ∷ rest)
    → (a < b) ⊎ (a ≡ b) → pointed a m (pointed b n rest) ≡ pointed b n (pointed a m rest)
pair a m b n rest le to_b to_a (inl less) =
    ap (pointed a m) to_b ∙ pointed-below a m (point b n) rest less
    ∙ sym (ap (pointed b n) to_a ∙ pointed-above b n (point a m) rest less ∙ ap (λ l. point a m ∷ l) to_b)
pair a m b n rest le to_b to_a (inr same) =
    ap (pointed a m) to_b ∙ pointed-same a m (point b n) rest same ∙ merged a b m n rest same
    ∙ sym (ap (pointed b n) to_a ∙ pointed-same b n (point a m) rest (sym same))

less_or_same : (m n : ℕ) → m ≤ n → (m < n) ⊎ (m ≡ n)
less_or_same m n le = ⊎_elim (λ (e : m ≡ n). inr e) (λ (o : m ≢ n). inl (omega (arith, o))) (cases_eq m n)

module _ (a m b n : ℕ) (le : a ≤ b) (p : Point) (ps : List Point) where
  lower : a < p.segment → (b < p.segment) ⊎ ((b ≡ p.segment) ⊎ (p.segment < b))
      → pointed a m (pointed b n (p ∷ ps)) ≡ pointed b n (pointed a m (p ∷ ps))
  lower below (inl b_below) = pair a m b n (p ∷ ps) le (pointed-below b n p ps b_below) (pointed-below a m p ps below) (less_or_same a b le)
  lower below (inr (inl b_same)) =
      ap (pointed a m) (pointed-same b n p ps b_same) ∙ pointed-below a m (point p.segment (p.bytes + n)) ps below
      ∙ sym (ap (pointed b n) (pointed-below a m p ps below) ∙ pointed-above b n (point a m) (p ∷ ps) (omega arith)
      ∙ ap (λ l. point a m ∷ l) (pointed-same b n p ps b_same))
  lower below (inr (inr b_above)) =
      ap (pointed a m) (pointed-above b n p ps b_above) ∙ pointed-below a m p (pointed b n ps) below
      ∙ sym (ap (pointed b n) (pointed-below a m p ps below) ∙ pointed-above b n (point a m) (p ∷ ps) (omega arith)
      ∙ ap (λ l. point a m ∷ l) (pointed-above b n p ps b_above))

  here : a ≡ p.segment → (b < p.segment) ⊎ ((b ≡ p.segment) ⊎ (p.segment < b))
      → pointed a m (pointed b n (p ∷ ps)) ≡ pointed b n (pointed a m (p ∷ ps))
  here same (inl b_below) = absurd (omega arith)
  here same (inr (inl b_same)) =
      ap (pointed a m) (pointed-same b n p ps b_same) ∙ pointed-same a m (point p.segment (p.bytes + n)) ps same
      ∙ ap (λ k. point p.segment k ∷ ps) (added a b m n p.bytes (same ∙ sym b_same))
      ∙ sym (ap (pointed b n) (pointed-same a m p ps same) ∙ pointed-same b n (point p.segment (p.bytes + m)) ps b_same)
  here same (inr (inr b_above)) =
      ap (pointed a m) (pointed-above b n p ps b_above) ∙ pointed-same a m p (pointed b n ps) same
      ∙ sym (ap (pointed b n) (pointed-same a m p ps same) ∙ pointed-above b n (point p.segment (p.bytes + m)) ps b_above)

  upper : p.segment < a → pointed a m (pointed b n ps) ≡ pointed b n (pointed a m ps)
      → pointed a m (pointed b n (p ∷ ps)) ≡ pointed b n (pointed a m (p ∷ ps))
  upper above later =
      ap (pointed a m) (pointed-above b n p ps (omega arith)) ∙ pointed-above a m p (pointed b n ps) above ∙ ap (λ l. p ∷ l) later
      ∙ sym (ap (pointed b n) (pointed-above a m p ps above) ∙ pointed-above b n p (pointed a m ps) (omega arith))

swap_le : (a m b n : ℕ) → a ≤ b → (ps : List Point) → pointed a m (pointed b n ps) ≡ pointed b n (pointed a m ps)
swap_le a m b n le [] = pair a m b n [] le refl refl (less_or_same a b le)
swap_le a m b n le (p ∷ ps) =
    ⊎_elim (λ (below : a < p.segment). lower a m b n le p ps below (three_ways b p.segment))
    (⊎_elim (λ (same : a ≡ p.segment). here a m b n le p ps same (three_ways b p.segment))
    (λ (above : p.segment < a). upper a m b n le p ps above (swap_le a m b n le ps)))
    (three_ways a p.segment)

pub pointed-swap : (a m b n : ℕ) (ps : List Point) → pointed a m (pointed b n ps) ≡ pointed b n (pointed a m ps)
pointed-swap a m b n ps =
    ⊎_elim (λ (less : a < b). swap_le a m b n (omega arith) ps)
    (⊎_elim (λ (same : a ≡ b). swap_le a m b n (omega arith) ps) (λ (more : b < a). sym (swap_le b n a m (omega arith) ps)))
    (three_ways a b)

with-swap : (x y : Body) (ps : List Point) → with_point x (with_point y ps) ≡ with_point y (with_point x ps)
with-swap (Inline v) y ps = refl
with-swap Gone y ps = refl
with-swap (Logged v p) y ps = refl
with-swap (Far p) (Inline v) ps = refl
with-swap (Far p) Gone ps = refl
with-swap (Far p) (Logged v q) ps = refl
with-swap (Far p) (Far q) ps = pointed-swap p.segment p.length q.segment q.length ps

-- one entry more behind the others
pub points_of-push : (es : List Entry) (e : Entry) → points_of (es ++ e ∷ []) ≡ with_point e.body (points_of es)
points_of-push [] e = refl
points_of-push (d ∷ es) e = ap (with_point d.body) (points_of-push es e) ∙ with-swap d.body e.body (points_of es)
