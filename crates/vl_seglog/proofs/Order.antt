-- Keys rise where each is below the next.
use Rattle.std.proofs.Common.{◌≡◌, ℕ, zero, suc, ◌+◌, ◌-◌, ◌<◌, ◌≤◌, Bool, true, false, List, [], ◌∷◌, length, drop}
use Rattle.std.proofs.Common.{get_or, map, refl, sym, ap, ◌∙◌, arith}
use Rattle.std.proofs.Math.Seq.{drop-cons}
use Rattle.std.proofs.lemmas.Bool.{and_parts, and_from}
use Rattle.std.proofs.lemmas.List.{length-drop}
use Rattle.std.specs.Cmp.{both_ways}
use Rattle.std.specs.Cmp.Lexicographic.{nat_list_cmp_total}
use Rattle.std.specs.FinMap.{is_sorted}
use Rattle.std.specs.FinMap.Entries.{below_all}
use Rattle.std.specs.Ordering.{is_lt}
use Rattle.std.specs.declared.cmp.Ordering.{Ordering}
use Rattle.std.specs.declared.cmp.Ordering.TheVariants.{Less, Equal, Greater}
use Rattle.vl_model.specs.Keys.{key_cmp}
use Rattle.vl_model.specs.declared.change.Change.{Change}
use Rattle.vl_seglog.specs.Reading.{write_of}
use Rattle.vl_seglog.specs.declared.frame.ReadRecord.{ReadRecord}

less : (r : Ordering) → is_lt r ≡ true → r ≡ Less
less Less e = refl
less Equal e = cc
less Greater e = cc

below_lower : (x y : List ℕ) (es : List (List ℕ × Change)) → is_lt (key_cmp x y) ≡ true → below_all key_cmp y es ≡ true
    → below_all key_cmp x es ≡ true
below_lower x y [] lt h = refl
below_lower x y (e ∷ es) lt h =
    let parts = and_parts (is_lt (key_cmp y e.0)) (below_all key_cmp y es) h in
    let here : is_lt (key_cmp x e.0) ≡ true = ap is_lt (nat_list_cmp_total.trans x y e.0 (less _ lt) (less _ parts.0)) in
    and_from (is_lt (key_cmp x e.0)) (below_all key_cmp x es) here (below_lower x y es lt parts.1)

goes_up : (e f : List ℕ × Change) (es : List (List ℕ × Change)) → is_lt (key_cmp e.0 f.0) ≡ true
    → is_sorted key_cmp (e ∷ f ∷ es) ≡ is_sorted key_cmp (f ∷ es)
goes_up e f es lt =
    both_ways (is_sorted key_cmp (e ∷ f ∷ es)) (is_sorted key_cmp (f ∷ es))
    (λ h. (and_parts (below_all key_cmp e.0 (f ∷ es)) (is_sorted key_cmp (f ∷ es)) h).1)
    (λ h. and_from (below_all key_cmp e.0 (f ∷ es)) (is_sorted key_cmp (f ∷ es))
    (and_from (is_lt (key_cmp e.0 f.0)) (below_all key_cmp e.0 es) lt
    (below_lower e.0 f.0 es lt (and_parts (below_all key_cmp f.0 es) (is_sorted key_cmp es) h).0)) h)

goes_down : (e f : List ℕ × Change) (es : List (List ℕ × Change)) → is_lt (key_cmp e.0 f.0) ≡ false → is_sorted key_cmp (e ∷ f ∷ es) ≡ false
goes_down e f es ge = rw ge refl

-- the records from the one before a place on
two_from : (ws : List ReadRecord) (i : ℕ) (a b : ReadRecord) → 1 ≤ i → i < length ws → a ≡ get_or ws (i - 1) a → b ≡ get_or ws i b
    → (drop (i - 1) ws ≡ a ∷ b ∷ drop (i + 1) ws) × (drop i ws ≡ b ∷ drop (i + 1) ws)
two_from ws zero a b some lt is_a is_b = absurd (omega arith)
two_from ws (suc j) a b some lt is_a is_b =
    let more : suc j + 1 ≡ suc (suc j) = omega arith in
    let next : drop (suc j) ws ≡ b ∷ drop (suc (suc j)) ws = drop-cons ws (suc j) b lt
    ∙ ap (λ (x : ReadRecord). x ∷ drop (suc (suc j)) ws) (sym is_b) in
    let before : suc j - 1 ≡ j = omega arith in
    let is_here : a ≡ get_or ws j a = is_a ∙ ap (λ (n : ℕ). get_or ws n a) before in
    let here : drop j ws ≡ a ∷ drop (suc j) ws = drop-cons ws j a (omega arith)
    ∙ ap (λ (x : ReadRecord). x ∷ drop (suc j) ws) (sym is_here) in
    rw (before, more) (here ∙ ap (λ (l : List ReadRecord). a ∷ l) next, next)

tested : (ws : List ReadRecord) (i : ℕ) (a b : ReadRecord) (t : Bool) → a ≡ get_or ws (i - 1) a → b ≡ get_or ws i b
    → is_lt (key_cmp (get_or ws (i - 1) a).key (get_or ws i b).key) ≡ t → is_lt (key_cmp a.key b.key) ≡ t
tested ws i a b t is_a is_b test =
    ap (λ (x : ReadRecord). is_lt (key_cmp x.key b.key)) is_a
    ∙ ap (λ (x : ReadRecord). is_lt (key_cmp (get_or ws (i - 1) a).key x.key)) is_b ∙ test

pub up_at : (ws : List ReadRecord) (i : ℕ) (a b : ReadRecord) → 1 ≤ i → i < length ws → a ≡ get_or ws (i - 1) a
    → b ≡ get_or ws i b → is_lt (key_cmp (get_or ws (i - 1) a).key (get_or ws i b).key) ≡ true
    → is_sorted key_cmp (map write_of ws) ≡ is_sorted key_cmp (map write_of (drop (i - 1) ws))
    → is_sorted key_cmp (map write_of ws) ≡ is_sorted key_cmp (map write_of (drop (i + 1 - 1) ws))
up_at ws i a b some lt is_a is_b up so_far =
    let two = two_from ws i a b some lt is_a is_b in
    let place : i + 1 - 1 ≡ i = omega arith in
    rw place (so_far ∙ ap (λ (l : List ReadRecord). is_sorted key_cmp (map write_of l)) two.0
    ∙ goes_up (write_of a) (write_of b) (map write_of (drop (i + 1) ws)) (tested ws i a b true is_a is_b up)
    ∙ ap (λ (l : List ReadRecord). is_sorted key_cmp (map write_of l)) (sym two.1))

pub down_at : (ws : List ReadRecord) (i : ℕ) (a b : ReadRecord) → 1 ≤ i → i < length ws → a ≡ get_or ws (i - 1) a
    → b ≡ get_or ws i b → is_lt (key_cmp (get_or ws (i - 1) a).key (get_or ws i b).key) ≡ false
    → is_sorted key_cmp (map write_of ws) ≡ is_sorted key_cmp (map write_of (drop (i - 1) ws)) → is_sorted key_cmp (map write_of ws) ≡ false
down_at ws i a b some lt is_a is_b down so_far =
    so_far ∙ ap (λ (l : List ReadRecord). is_sorted key_cmp (map write_of l)) (two_from ws i a b some lt is_a is_b).0
    ∙ goes_down (write_of a) (write_of b) (map write_of (drop (i + 1) ws)) (tested ws i a b false is_a is_b down)

few_rise : (ws : List ReadRecord) → length ws ≤ 1 → is_sorted key_cmp (map write_of ws) ≡ true
few_rise [] le = refl
few_rise (w ∷ []) le = refl
few_rise (w ∷ v ∷ ws) le = absurd (omega arith)

pub up_to_end : (ws : List ReadRecord) (i : ℕ) → length ws ≤ i
    → is_sorted key_cmp (map write_of ws) ≡ is_sorted key_cmp (map write_of (drop (i - 1) ws)) → is_sorted key_cmp (map write_of ws) ≡ true
up_to_end ws i le so_far = so_far ∙ few_rise (drop (i - 1) ws) (omega (arith, length-drop (i - 1) ws))
