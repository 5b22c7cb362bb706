-- What is visible of entries with one more in front.
use Rattle.std.proofs.Common.{◌≡◌, ℕ, Bool, true, false, cond, not, ◌&&◌, List, [], ◌∷◌, ◌++◌, refl, ap, sym, ◌∙◌, Option, Some, None}
use Rattle.std.proofs.lemmas.Bool.{and_parts}
use Rattle.std.specs.List.{AllByRecursion, filter, flat_map}
use Rattle.std.specs.Ordering.{is_eq, eq_by_cmp}
use Rattle.vl_model.specs.Keys.{key_cmp}
use Rattle.vl_model.specs.Winners.{counts, only_if, newest_of, winner}
use Rattle.vl_model.specs.laws.WinnerLaws.{newest_of-assoc, same_key, key_tied}
use Rattle.vl_model.specs.declared.entry.Entry.{Entry}
use Rattle.vl_merge.specs.Grouped.{is_without, is_joined, is_grouped}
use Rattle.vl_merge.specs.declared.hides.Hides.{Hides}
use Rattle.vl_merge.specs.Visible.{is_hidden, is_counted, keys_of, shown, visible}
use Rattle.vl_merge.specs.Held.{held_first}

-- ---- keys

abbrev pub is_key : List ℕ → List ℕ → Bool
is_key = eq_by_cmp key_cmp

pub key_same : (key : List ℕ) → is_key key key ≡ true
key_same key = ap is_eq (key_tied key)

pub key_turned : (k q : List ℕ) → is_key k q ≡ false → is_key q k ≡ false
key_turned k q apart = by (is_key q k) refl
  where
    by : (b : Bool) → is_key q k ≡ b → is_key q k ≡ false
    by true is = let same : is_key k q ≡ true = ap (λ x. is_key x q) (sym (same_key q k is)) ∙ key_same q in absurd (cc)
    by false is = is

-- the keys that aren't this one
abbrev pub others : List ℕ → List (List ℕ) → List (List ℕ)
others key keys = filter (λ k. not (is_key key k)) keys

others-again : (key : List ℕ) (keys : List (List ℕ)) → others key (others key keys) ≡ others key keys
others-again key [] = refl
others-again key (k ∷ ks) = by (others-again key ks) (is_key key k) refl
  where
    by : others key (others key ks) ≡ others key ks → (b : Bool) → is_key key k ≡ b
        → others key (cond (not (is_key key k)) (k ∷ others key ks) (others key ks)) ≡ cond (not (is_key key k))
        (k ∷ others key ks) (others key ks)
    by later true is = ap (λ b. others key (cond (not b) (k ∷ others key ks) (others key ks))) is ∙ later
        ∙ sym (ap (λ b. cond (not b) (k ∷ others key ks) (others key ks)) is)
    by later false is =
        ap (λ b. others key (cond (not b) (k ∷ others key ks) (others key ks))) is
        ∙ ap (λ b. cond (not b) (k ∷ others key (others key ks)) (others key (others key ks))) is ∙ ap (λ l. k ∷ l) later
        ∙ sym (ap (λ b. cond (not b) (k ∷ others key ks) (others key ks)) is)

-- none of the keys is this one
abbrev AreOthers : List ℕ → List (List ℕ) → Type 0
AreOthers key keys = AllByRecursion (λ k. is_key key k ≡ false) keys

all-filter : (P : List ℕ → Type 0) (test : List ℕ → Bool) (keys : List (List ℕ)) → AllByRecursion P keys
    → AllByRecursion P (filter test keys)
all-filter P test [] all = tt
all-filter P test (k ∷ ks) all = elim (test k) as (λ b. AllByRecursion P (cond b (k ∷ filter test ks) (filter test ks))) [
  | true ↦ (all.0, all-filter P test ks all.1)
  | false ↦ all-filter P test ks all.1
]

others-all : (key : List ℕ) (keys : List (List ℕ)) → AreOthers key keys → others key keys ≡ keys
others-all key [] are = refl
others-all key (k ∷ ks) are = ap (λ b. cond (not b) (k ∷ others key ks) (others key ks)) are.0 ∙ ap (λ l. k ∷ l) (others-all key ks are.1)

-- ---- what decides what is visible

abbrev pub keys_at : ℕ → List Entry → List (List ℕ)
keys_at number es = keys_of (filter (is_counted number) es)

module _ {X : Type 0} (f g : List ℕ → List X) where
  flat_map-on : (keys : List (List ℕ)) → AllByRecursion (λ k. f k ≡ g k) keys → flat_map f keys ≡ flat_map g keys
  flat_map-on [] same = refl
  flat_map-on (k ∷ ks) same = ap (λ l. l ++ flat_map f ks) same.0 ∙ ap (λ l. g k ++ l) (flat_map-on ks same.1)

all-of : (P : List ℕ → Type 0) → ((k : List ℕ) → P k) → (keys : List (List ℕ)) → AllByRecursion P keys
all-of P each [] = tt
all-of P each (k ∷ ks) = (each k, all-of P each ks)

-- the same keys with the same winners
visible-same : (hides : Hides) (number : ℕ) (es fs : List Entry) → keys_at number es ≡ keys_at number fs
    → ((key : List ℕ) → winner es key number ≡ winner fs key number)
    → visible hides number es ≡ visible hides number fs
visible-same hides number es fs keys winners =
    flat_map-on (λ k. shown hides (winner es k number)) (λ k. shown hides (winner fs k number)) (keys_at number es)
    (all-of (λ k. shown hides (winner es k number) ≡ shown hides (winner fs k number)) (λ k. ap (shown hides) (winners k)) (keys_at number es))
    ∙ ap (flat_map (λ k. shown hides (winner fs k number))) keys

counted-in : (number : ℕ) (e : Entry) (es : List Entry) → is_counted number e ≡ true
    → filter (is_counted number) (e ∷ es) ≡ e ∷ filter (is_counted number) es
counted-in number e es is = ap (λ b. cond b (e ∷ filter (is_counted number) es) (filter (is_counted number) es)) is

counted-out : (number : ℕ) (e : Entry) (es : List Entry) → is_counted number e ≡ false
    → filter (is_counted number) (e ∷ es) ≡ filter (is_counted number) es
counted-out number e es is = ap (λ b. cond b (e ∷ filter (is_counted number) es) (filter (is_counted number) es)) is

-- ---- one whose version is above the number

and_false : (a : Bool) → (a && false) ≡ false
and_false true = refl
and_false false = refl

pub winner-above : (number : ℕ) (e : Entry) (es : List Entry) (key : List ℕ) → is_counted number e ≡ false
    → winner (e ∷ es) key number ≡ winner es key number
winner-above number e es key above =
    ap (λ b. newest_of (only_if (is_key key e.key && b) e) (winner es key number)) above
    ∙ ap (λ b. newest_of (only_if b e) (winner es key number)) (and_false (is_key key e.key))

pub visible-above : (hides : Hides) (number : ℕ) (held : Option Entry) (e : Entry) (es : List Entry) → is_counted number e ≡ false
    → visible hides number (held_first held (e ∷ es)) ≡ visible hides number (held_first held es)
visible-above hides number None e es above =
    visible-same hides number (e ∷ es) es (ap keys_of (counted-out number e es above)) (λ key. winner-above number e es key above)
visible-above hides number (Some h) e es above =
    visible-same hides number (h ∷ e ∷ es) (h ∷ es)
    (ap (λ l. keys_of (cond (is_counted number h) (h ∷ l) l)) (counted-out number e es above))
    (λ key. ap (newest_of (only_if (counts key number h) h)) (winner-above number e es key above))

-- ---- two of one key

module _ (hides : Hides) (number : ℕ) (h e : Entry) (es : List Entry) (of_h : is_counted number h ≡ true) (of_e : is_counted number e ≡ true)
    (one_key : is_key h.key e.key ≡ true) where
  same : h.key ≡ e.key
  same = same_key h.key e.key one_key

  keys-one : (x : Entry) → x.key ≡ h.key → is_counted number x ≡ true → keys_at number (h ∷ e ∷ es) ≡ keys_at number (x ∷ es)
  keys-one x is of_x =
      let rest = keys_at number es in
      ap keys_of (counted-in number h (e ∷ es) of_h ∙ ap (λ l. h ∷ l) (counted-in number e es of_e))
      ∙ ap (λ b. h.key ∷ cond (not b) (e.key ∷ others h.key (others e.key rest)) (others h.key (others e.key rest))) one_key
      ∙ ap (λ k. h.key ∷ others h.key (others k rest)) (sym same) ∙ ap (λ l. h.key ∷ l) (others-again h.key rest)
      ∙ ap (λ k. k ∷ others k rest) (sym is)
      ∙ sym (ap keys_of (counted-in number x es of_x))

  winner-one : (x : Entry) → newest_of (Some h) (Some e) ≡ Some x → x.key ≡ h.key → is_counted number x ≡ true
      → (key : List ℕ) → winner (h ∷ e ∷ es) key number ≡ winner (x ∷ es) key number
  winner-one x newest is of_x key =
      ap (λ b. newest_of (only_if (is_key key h.key && b) h) (newest_of (only_if (counts key number e) e) w)) of_h
      ∙ ap (λ b. newest_of (only_if (is_key key h.key && true) h) (newest_of (only_if (is_key key e.key && b) e) w)) of_e
      ∙ ap (λ k. newest_of (only_if (is_key key h.key && true) h) (newest_of (only_if (is_key key k && true) e) w)) (sym same)
      ∙ by (is_key key h.key)
      ∙ ap (λ k. newest_of (only_if (is_key key k && true) x) w) (sym is)
      ∙ ap (λ b. newest_of (only_if (is_key key x.key && b) x) w) (sym of_x)
    where
      w : Option Entry
      w = winner es key number

      by : (b : Bool) → newest_of (only_if (b && true) h) (newest_of (only_if (b && true) e) (winner es key number)) ≡
          newest_of (only_if (b && true) x) (winner es key number)
      by true = sym (newest_of-assoc (Some h) (Some e) (winner es key number)) ∙ ap (λ y. newest_of y (winner es key number)) newest
      by false = refl

  pub visible-one : (x : Entry) → newest_of (Some h) (Some e) ≡ Some x → x.key ≡ h.key → is_counted number x ≡ true
      → visible hides number (h ∷ e ∷ es) ≡ visible hides number (x ∷ es)
  visible-one x newest is of_x = visible-same hides number (h ∷ e ∷ es) (x ∷ es) (keys-one x is of_x) (winner-one x newest is of_x)

-- ---- one in front of others of other keys

without-parts : (key : List ℕ) (e : Entry) (es : List Entry) → is_without key (e ∷ es) ≡ true
    → (is_key key e.key ≡ false) × (is_without key es ≡ true)
without-parts key e es is = by (is_key key e.key) refl
  where
    by : (b : Bool) → is_key key e.key ≡ b → (is_key key e.key ≡ false) × (is_without key es ≡ true)
    by true here = absurd (true_false (sym (ap (λ b. not b && is_without key es) here) ∙ is))
      where
        true_false : false ≡ true → ⊥
        true_false is = cc
    by false here = (here, sym (ap (λ b. not b && is_without key es) here) ∙ is)

pub winner-without : (number : ℕ) (key : List ℕ) (es : List Entry) → is_without key es ≡ true → winner es key number ≡ None
winner-without number key [] without = refl
winner-without number key (e ∷ es) without =
    let parts = without-parts key e es without in
    ap (λ b. newest_of (only_if (b && is_counted number e) e) (winner es key number)) parts.0 ∙ winner-without number key es parts.1

keys-without : (number : ℕ) (key : List ℕ) (es : List Entry) → is_without key es ≡ true → AreOthers key (keys_at number es)
keys-without number key [] without = tt
keys-without number key (e ∷ es) without =
    let parts = without-parts key e es without in
    let later = keys-without number key es parts.1 in
    elim (is_counted number e) as
    (λ b. AreOthers key (keys_of (cond b (e ∷ filter (is_counted number) es) (filter (is_counted number) es)))) [
      | true ↦ (parts.0, all-filter (λ k. is_key key k ≡ false) (λ k. not (is_key e.key k)) (keys_at number es) later)
      | false ↦ later
    ]

pub winner-front : (number : ℕ) (h : Entry) (rest : List Entry) → is_counted number h ≡ true → is_without h.key rest ≡ true
    → winner (h ∷ rest) h.key number ≡ Some h
winner-front number h rest of_h without =
    ap (λ w. newest_of (only_if (counts h.key number h) h) w) (winner-without number h.key rest without)
    ∙ ap (λ b. newest_of (only_if (b && is_counted number h) h) None) (key_same h.key)
    ∙ ap (λ b. newest_of (only_if b h) None) of_h

pub winner-other : (number : ℕ) (h : Entry) (rest : List Entry) (key : List ℕ) → is_key h.key key ≡ false
    → winner (h ∷ rest) key number ≡ winner rest key number
winner-other number h rest key apart =
    ap (λ b. newest_of (only_if (b && is_counted number h) h) (winner rest key number)) (key_turned h.key key apart)

pub visible-front : (hides : Hides) (number : ℕ) (h : Entry) (rest : List Entry) → is_counted number h ≡ true → is_without h.key rest ≡ true
    → visible hides number (h ∷ rest) ≡ shown hides (Some h) ++ visible hides number rest
visible-front hides number h rest of_h without =
    let keys = keys_at number rest in
    let are = keys-without number h.key rest without in
    ap (λ l. flat_map (λ k. shown hides (winner (h ∷ rest) k number)) (keys_of l)) (counted-in number h rest of_h)
    ∙ ap (λ l. shown hides (winner (h ∷ rest) h.key number) ++ flat_map (λ k. shown hides (winner (h ∷ rest) k number)) l) (others-all h.key keys are)
    ∙ ap (λ w. shown hides w ++ flat_map (λ k. shown hides (winner (h ∷ rest) k number)) keys) (winner-front number h rest of_h without)
    ∙ ap (λ l. shown hides (Some h) ++ l)
    (flat_map-on (λ k. shown hides (winner (h ∷ rest) k number)) (λ k. shown hides (winner rest k number)) keys (each keys are))
  where
    each : (keys : List (List ℕ)) → AreOthers h.key keys
        → AllByRecursion (λ k. shown hides (winner (h ∷ rest) k number) ≡ shown hides (winner rest k number)) keys
    each [] are = tt
    each (k ∷ ks) are = (ap (shown hides) (winner-other number h rest k are.0), each ks are.1)

-- ---- entries of one key stay together

pub grouped-parts : (e : Entry) (es : List Entry) → is_grouped (e ∷ es) ≡ true → (is_joined e.key es ≡ true) × (is_grouped es ≡ true)
grouped-parts e es is = and_parts (is_joined e.key es) (is_grouped es) is

joined-without : (key : List ℕ) (es : List Entry) → is_without key es ≡ true → is_joined key es ≡ true
joined-without key [] without = refl
joined-without key (e ∷ es) without =
    let parts = without-parts key e es without in ap (λ b. cond b true (is_without key es)) parts.0 ∙ parts.1

-- behind an entry of another key none of this key comes
pub without-behind : (h e : Entry) (es : List Entry) → is_joined h.key (e ∷ es) ≡ true → is_key h.key e.key ≡ false
    → is_without h.key (e ∷ es) ≡ true
without-behind h e es joined apart =
    ap (λ b. not b && is_without h.key es) apart ∙ sym (ap (λ b. cond b true (is_without h.key es)) apart) ∙ joined

-- where the second of them goes
pub grouped-skip : (held : Option Entry) (e : Entry) (es : List Entry) → is_grouped (held_first held (e ∷ es)) ≡ true
    → is_grouped (held_first held es) ≡ true
grouped-skip None e es is = (grouped-parts e es is).1
grouped-skip (Some h) e es is = by (is_key h.key e.key) refl
  where
    first : (is_joined h.key (e ∷ es) ≡ true) × (is_grouped (e ∷ es) ≡ true)
    first = grouped-parts h (e ∷ es) is

    second : (is_joined e.key es ≡ true) × (is_grouped es ≡ true)
    second = grouped-parts e es first.1

    joins : is_joined h.key es ≡ true → is_grouped (h ∷ es) ≡ true
    joins joined = ap (λ b. b && is_grouped es) joined ∙ second.1

    by : (b : Bool) → is_key h.key e.key ≡ b → is_grouped (h ∷ es) ≡ true
    by true one = joins (ap (λ k. is_joined k es) (same_key h.key e.key one) ∙ second.0)
    by false apart = joins (joined-without h.key es (without-parts h.key e es (without-behind h e es first.0 apart)).1)
