-- Each far body of a table leads into a log that a footer names.
use Rattle.std.specs.Prelude.{◌≡◌, ◌⊎◌, ℕ, ◌+◌, List, [], ◌∷◌, refl}
use Rattle.std.specs.FinMap.{nat_cmp-IsAntisymmetric}
use Rattle.std.specs.List.{AllByRecursion, flat_map}
use Rattle.std.specs.Ordering.{nat_cmp}
use Rattle.std.specs.declared.cmp.Ordering.TheVariants.{Equal, Greater, Less}
use Rattle.std.specs.declared.cmp.Ordering.{Ordering}
use Rattle.std.proofs.Common.{inl, inr, subst, sym}
use Rattle.vl_model.specs.Cutting.{pointed, points_of, with_point}
use Rattle.vl_model.specs.declared.point.Point.{Point}
use Rattle.vl_engine_laws.specs.Files.{found_levels}
use Rattle.vl_engine_laws.specs.Shown.{tables_among}
use Rattle.vl_engine_laws.specs.laws.FileLaws.{all_each, all_more}
use Rattle.vl_engine_laws.specs.laws.LedLaws.{AreFarTo, ArePointsTo, IsFarTo, points_led}
use Rattle.vl_engine_model.specs.Sources.{table_entries}
use Rattle.vl_engine_model.specs.declared.table.Table.{Table}
use Rattle.vl_model.specs.Entries.{by_order}
use Rattle.vl_model.specs.declared.entry.Body.TheVariants.{Far, Gone, Inline, Logged}
use Rattle.vl_model.specs.declared.entry.Body.{Body}
use Rattle.vl_model.specs.declared.entry.Entry.{Entry}
use Rattle.vl_recover.specs.opening.Opening.{IsAmong, led_into}

abbrev HasPoint : List Point → ℕ → Type 0
HasPoint [] n = ⊥
HasPoint (p ∷ ps) n = (p.segment ≡ n) ⊎ HasPoint ps n

far_more : (P Q : ℕ → Type 0) → ((n : ℕ) → P n → Q n) → (es : List Entry) → AreFarTo P es → AreFarTo Q es
far_more P Q more [] far = tt
far_more P Q more (e ∷ es) far = (by e.body far.0, far_more P Q more es far.1)
  where
    by : (body : Body) → IsFarTo P body → IsFarTo Q body
    by (Inline value) is = tt
    by Gone is = tt
    by (Far p) is = more p.segment is
    by (Logged value p) is = tt

-- ---- a table's points

pointed_has : (segment bytes : ℕ) (ps : List Point) → HasPoint (pointed segment bytes ps) segment
pointed_has segment bytes [] = inl refl
pointed_has segment bytes (p ∷ ps) = by (pointed_has segment bytes ps) (nat_cmp segment p.segment) refl
  where
    by : HasPoint (pointed segment bytes ps) segment → (r : Ordering) → nat_cmp segment p.segment ≡ r
        → HasPoint (by_order r (record { segment = segment; bytes = bytes } ∷ p ∷ ps)
        (record { segment = p.segment; bytes = p.bytes + bytes } ∷ ps) (p ∷ pointed segment bytes ps)) segment
    by later Less e = inl refl
    by later Equal e = inl (sym (nat_cmp-IsAntisymmetric segment p.segment e))
    by later Greater e = inr later

pointed_keeps : (segment bytes : ℕ) (ps : List Point) (n : ℕ) → HasPoint ps n → HasPoint (pointed segment bytes ps) n
pointed_keeps segment bytes [] n has = absurd has
pointed_keeps segment bytes (p ∷ ps) n has = by (pointed_keeps segment bytes ps n) (nat_cmp segment p.segment) has
  where
    by : (HasPoint ps n → HasPoint (pointed segment bytes ps) n) → (r : Ordering) → (p.segment ≡ n) ⊎ HasPoint ps n
        → HasPoint (by_order r (record { segment = segment; bytes = bytes } ∷ p ∷ ps)
        (record { segment = p.segment; bytes = p.bytes + bytes } ∷ ps) (p ∷ pointed segment bytes ps)) n
    by later Less is = inr is
    by later Equal (inl same) = inl same
    by later Equal (inr rest) = inr rest
    by later Greater (inl same) = inl same
    by later Greater (inr rest) = inr (later rest)

with_keeps : (body : Body) (ps : List Point) (n : ℕ) → HasPoint ps n → HasPoint (with_point body ps) n
with_keeps (Inline value) ps n has = has
with_keeps Gone ps n has = has
with_keeps (Far p) ps n has = pointed_keeps p.segment p.length ps n has
with_keeps (Logged value p) ps n has = has

with_has : (body : Body) (ps : List Point) → IsFarTo (HasPoint (with_point body ps)) body
with_has (Inline value) ps = tt
with_has Gone ps = tt
with_has (Far p) ps = pointed_has p.segment p.length ps
with_has (Logged value p) ps = tt

points_have : (es : List Entry) → AreFarTo (HasPoint (points_of es)) es
points_have [] = tt
points_have (e ∷ es) = (
  with_has e.body (points_of es),
  far_more (HasPoint (points_of es)) (HasPoint (points_of (e ∷ es)))
      (λ n has. with_keeps e.body (points_of es) n has) es (points_have es),
)

-- ---- all tables

point_in : (P : ℕ → Type 0) (ps : List Point) (n : ℕ) → ArePointsTo P ps → HasPoint ps n → P n
point_in P [] n all has = absurd has
point_in P (p ∷ ps) n all (inl same) = subst P same all.0
point_in P (p ∷ ps) n all (inr rest) = point_in P ps n all.1 rest

-- The far bodies of each table lead into logs that footers name,
pub each_led : (levels : List (List Table))
    → AllByRecursion (λ (t : Table). AreFarTo (IsAmong (led_into (found_levels levels))) t.entries) (tables_among levels)
each_led levels =
    let led = IsAmong (led_into (found_levels levels)) in
    all_each (λ (t : Table). ArePointsTo led (points_of t.entries)) (λ (t : Table). AreFarTo led t.entries) (tables_among levels)
    (λ t are. far_more (HasPoint (points_of t.entries)) led (λ n has. point_in led (points_of t.entries) n are has) t.entries
    (points_have t.entries)) (points_led levels)

flat : (P : ℕ → Type 0) (ts : List Table) → AllByRecursion (λ (t : Table). AreFarTo P t.entries) ts
    → AreFarTo P (flat_map table_entries ts)
flat P [] all = tt
flat P (t ∷ ts) all = all_more (λ (e : Entry). IsFarTo P e.body) t.entries (flat_map table_entries ts) all.0 (flat P ts all.1)

-- and so do those of all of them.
pub tables_led : (levels : List (List Table))
    → AreFarTo (IsAmong (led_into (found_levels levels))) (flat_map table_entries (tables_among levels))
tables_led levels = flat (IsAmong (led_into (found_levels levels))) (tables_among levels) (each_led levels)
