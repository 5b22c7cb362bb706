-- What is visible, key by key and in order.
use Rattle.std.proofs.Common.{◌≡◌, ℕ, Bool, true, false, cond, not, ◌&&◌, ◌||◌, List, [], ◌∷◌, ◌++◌, refl, ap, sym}
use Rattle.std.proofs.Common.{◌∙◌, subst, append-nil, Option, Some, None}
use Rattle.std.proofs.lemmas.Bool.{and_parts}
use Rattle.std.proofs.lemmas.List.Elements.{filter-append}
use Rattle.std.specs.Prelude.{nat_le}
use Rattle.std.specs.Option.{option_to_list}
use Rattle.std.specs.List.{AllByRecursion, filter, flat_map, list_any}
use Rattle.vl_model.specs.Entries.{is_gone}
use Rattle.vl_model.specs.Winners.{counts, only_if, newest_of, winner}
use Rattle.vl_model.specs.laws.WinnerLaws.{same_key}
use Rattle.vl_model.specs.declared.entry.Entry.{Entry}
use Rattle.vl_model.specs.declared.way.Way.{Way}
use Rattle.std.specs.Ordering.{is_gt}
use Rattle.vl_model.specs.Merging.{IsFirst, IsAlong}
use Rattle.vl_model.specs.Order.{way_cmp}
use Rattle.vl_merge.proofs.GroupLaws.{grouped-along}
use Rattle.vl_merge.specs.declared.hides.Hides.{Hides}
use Rattle.vl_merge.specs.Visible.{is_hidden, is_counted, keys_of, shown, visible}
use Rattle.vl_merge.specs.Held.{held_first, is_held_counted, held_with, held_after, passed_by, passed}
use Rattle.vl_merge.proofs.Passing.{is_key, keys_at, visible-front}
use Rattle.vl_merge.proofs.Steps.{passes}

-- ---- what a winner has, as all entries have it

abbrev HasIt : (Entry → Type 0) → Option Entry → Type 0
HasIt P None = Unit {0}
HasIt P (Some e) = P e

newest-has : (P : Entry → Type 0) (a b : Option Entry) → HasIt P a → HasIt P b → HasIt P (newest_of a b)
newest-has P None b of_a of_b = of_b
newest-has P (Some e) None of_a of_b = of_a
newest-has P (Some e) (Some f) of_a of_b = elim (nat_le f.version e.version) as (λ t. HasIt P (cond t (Some e) (Some f))) [
  | true ↦ of_a
  | false ↦ of_b
]

winner-has : (P : Entry → Type 0) (es : List Entry) (key : List ℕ) (number : ℕ)
    → AllByRecursion (λ e. counts key number e ≡ true → P e) es → HasIt P (winner es key number)
winner-has P [] key number all = tt
winner-has P (e ∷ es) key number all = newest-has P (only_if (counts key number e) e) (winner es key number)
    (by (counts key number e) refl) (winner-has P es key number all.1)
  where
    by : (b : Bool) → counts key number e ≡ b → HasIt P (only_if b e)
    by true is = all.0 is
    by false is = tt

shown-has : (hides : Hides) (P : Entry → Type 0) (w : Option Entry) → HasIt P w → AllByRecursion P (shown hides w)
shown-has hides P None has = tt
shown-has hides P (Some e) has = elim (is_hidden hides e) as (λ b. AllByRecursion P (cond b [] (e ∷ []))) [
  | true ↦ tt
  | false ↦ (has, tt)
]

all-join : (P : Entry → Type 0) (es fs : List Entry) → AllByRecursion P es → AllByRecursion P fs → AllByRecursion P (es ++ fs)
all-join P [] fs here there = there
all-join P (e ∷ es) fs here there = (here.0, all-join P es fs here.1 there)

all-weaker : (P Q : Entry → Type 0) (es : List Entry) → ((e : Entry) → P e → Q e) → AllByRecursion P es → AllByRecursion Q es
all-weaker P Q [] goes all = tt
all-weaker P Q (e ∷ es) goes all = (goes e all.0, all-weaker P Q es goes all.1)

all-each : (P : Entry → Type 0) (es : List Entry) → ((e : Entry) → P e) → AllByRecursion P es
all-each P [] each = tt
all-each P (e ∷ es) each = (each e, all-each P es each)

all-visible : (hides : Hides) (P : Entry → Type 0) (number : ℕ) (es : List Entry) → AllByRecursion P es → AllByRecursion P (visible hides number es)
all-visible hides P number es all = over (keys_at number es)
  where
    over : (keys : List (List ℕ)) → AllByRecursion P (flat_map (λ k. shown hides (winner es k number)) keys)
    over [] = tt
    over (k ∷ ks) =
        all-join P (shown hides (winner es k number)) (flat_map (λ k. shown hides (winner es k number)) ks)
        (shown-has hides P (winner es k number)
        (winner-has P es k number (all-weaker P (λ e. counts k number e ≡ true → P e) es (λ e has _. has) all)))
        (over ks)

-- ---- key by key

module _ (key : List ℕ) where
  of_key-all : (b : Bool) (es : List Entry) → AllByRecursion (λ e. is_key key e.key ≡ b) es
      → filter (λ (e : Entry). is_key key e.key) es ≡ cond b es []
  of_key-all true [] all = refl
  of_key-all false [] all = refl
  of_key-all true (e ∷ es) all = ap
      (λ b. cond b (e ∷ filter (λ (e : Entry). is_key key e.key) es) (filter (λ (e : Entry). is_key key e.key) es)) all.0
      ∙ ap (λ l. e ∷ l) (of_key-all true es all.1)
  of_key-all false (e ∷ es) all = ap
      (λ b. cond b (e ∷ filter (λ (e : Entry). is_key key e.key) es) (filter (λ (e : Entry). is_key key e.key) es)) all.0
      ∙ of_key-all false es all.1

  module _ (hides : Hides) (number : ℕ) (es : List Entry) where
    one-key : (k : List ℕ) → filter (λ (e : Entry). is_key key e.key) (shown hides (winner es k number)) ≡ cond (is_key key k)
        (shown hides (winner es k number)) []
    one-key k =
        of_key-all (is_key key k) (shown hides (winner es k number))
        (shown-has hides (λ e. is_key key e.key ≡ is_key key k) (winner es k number)
        (winner-has (λ e. is_key key e.key ≡ is_key key k) es k number
        (all-each (λ e. counts k number e ≡ true → is_key key e.key ≡ is_key key k) es
        (λ e of_k. ap (is_key key) (sym (same_key k e.key (and_parts (is_key k e.key) (is_counted number e) of_k).0))))))

    each-key : (keys : List (List ℕ))
        → filter (λ (e : Entry). is_key key e.key) (flat_map (λ k. shown hides (winner es k number)) keys) ≡ flat_map
        (λ k. cond (is_key key k) (shown hides (winner es k number)) []) keys
    each-key [] = refl
    each-key (k ∷ ks) =
        filter-append (λ (e : Entry). is_key key e.key) (shown hides (winner es k number)) (flat_map (λ k. shown hides (winner es k number)) ks)
        ∙ ap (λ l. l ++ filter (λ (e : Entry). is_key key e.key) (flat_map (λ k. shown hides (winner es k number)) ks)) (one-key k)
        ∙ ap (λ l. cond (is_key key k) (shown hides (winner es k number)) [] ++ l) (each-key ks)

  -- the keys of entries come once
  module _ (f : List ℕ → List Entry) where
    other-keys : (q : List ℕ) → is_key key q ≡ true → (keys : List (List ℕ))
        → flat_map (λ k. cond (is_key key k) (f k) []) (filter (λ k. not (is_key q k)) keys) ≡ []
    other-keys q one [] = refl
    other-keys q one (k ∷ ks) = by (other-keys q one ks) (is_key q k) refl
      where
        by : flat_map (λ k. cond (is_key key k) (f k) []) (filter (λ k. not (is_key q k)) ks) ≡ [] → (b : Bool) → is_key q k ≡ b
            → flat_map (λ k. cond (is_key key k) (f k) [])
            (cond (not b) (k ∷ filter (λ k. not (is_key q k)) ks) (filter (λ k. not (is_key q k)) ks)) ≡ []
        by later true is = later
        by later false is =
            ap (λ b. cond b (f k) [] ++ flat_map (λ k. cond (is_key key k) (f k) [])
            (filter (λ k. not (is_key q k)) ks)) (ap (λ x. is_key x k) (same_key key q one) ∙ is) ∙ later

    this-key : (q : List ℕ) → is_key key q ≡ false → (keys : List (List ℕ))
        → flat_map (λ k. cond (is_key key k) (f k) []) (filter (λ k. not (is_key q k)) keys) ≡ flat_map
        (λ k. cond (is_key key k) (f k) []) keys
    this-key q apart [] = refl
    this-key q apart (k ∷ ks) = by (this-key q apart ks) (is_key q k) refl
      where
        by : flat_map (λ k. cond (is_key key k) (f k) []) (filter (λ k. not (is_key q k)) ks) ≡ flat_map
            (λ k. cond (is_key key k) (f k) []) ks → (b : Bool) → is_key q k ≡ b
            → flat_map (λ k. cond (is_key key k) (f k) [])
            (cond (not b) (k ∷ filter (λ k. not (is_key q k)) ks) (filter (λ k. not (is_key q k)) ks)) ≡ cond
            (is_key key k) (f k) [] ++ flat_map (λ k. cond (is_key key k) (f k) []) ks
        by later true is =
            later ∙ sym (ap (λ b. cond b (f k) [] ++ flat_map (λ k. cond (is_key key k) (f k) []) ks)
            (ap (is_key key) (sym (same_key q k is)) ∙ apart))
        by later false is = ap (λ l. cond (is_key key k) (f k) [] ++ l) later

    once : (es : List Entry) → flat_map (λ k. cond (is_key key k) (f k) []) (keys_of es) ≡ cond
        (list_any (λ (e : Entry). is_key key e.key) es) (f key) []
    once [] = refl
    once (e ∷ es) = by (once es) (is_key key e.key) refl
      where
        by : flat_map (λ k. cond (is_key key k) (f k) []) (keys_of es) ≡ cond
            (list_any (λ (e : Entry). is_key key e.key) es) (f key) [] → (b : Bool) → is_key key e.key ≡ b
            → cond (is_key key e.key) (f e.key) [] ++ flat_map (λ k. cond (is_key key k) (f k) [])
            (filter (λ k. not (is_key e.key k)) (keys_of es))
            ≡ cond (is_key key e.key || list_any (λ (e : Entry). is_key key e.key) es) (f key) []
        by later true is =
            ap (λ l. cond (is_key key e.key) (f e.key) [] ++ l) (other-keys e.key is (keys_of es))
            ∙ append-nil (cond (is_key key e.key) (f e.key) [])
            ∙ ap (λ b. cond b (f e.key) []) is ∙ ap f (sym (same_key key e.key is))
            ∙ sym (ap (λ b. cond (b || list_any (λ (e : Entry). is_key key e.key) es) (f key) []) is)
        by later false is =
            ap (λ b. cond b (f e.key) [] ++ flat_map (λ k. cond (is_key key k) (f k) [])
            (filter (λ k. not (is_key e.key k)) (keys_of es))) is
            ∙ this-key e.key is (keys_of es) ∙ later
            ∙ sym (ap (λ b. cond (b || list_any (λ (e : Entry). is_key key e.key) es) (f key) []) is)

  -- a key of which no entry counts has no winner
  no-winner : (number : ℕ) (es : List Entry)
      → list_any (λ (e : Entry). is_key key e.key) (filter (is_counted number) es) ≡ false → winner es key number ≡ None
  no-winner number [] none = refl
  no-winner number (e ∷ es) none = by (λ h. no-winner number es h) (is_counted number e) (is_key key e.key) refl refl
    where
      by : (list_any (λ (e : Entry). is_key key e.key) (filter (is_counted number) es) ≡ false
          → winner es key number ≡ None) → (b c : Bool) → is_counted number e ≡ b → is_key key e.key ≡ c
          → winner (e ∷ es) key number ≡ None
      by later true true of_e one = absurd
          (true_false (sym (ap (λ b. b || list_any (λ (e : Entry). is_key key e.key) (filter (is_counted number) es)) one) ∙ told of_e))
        where
          true_false : true ≡ false → ⊥
          true_false is = cc

          told : is_counted number e ≡ true
              → (is_key key e.key || list_any (λ (e : Entry). is_key key e.key) (filter (is_counted number) es)) ≡ false
          told of_e = sym (ap (λ b. list_any (λ (e : Entry). is_key key e.key)
              (cond b (e ∷ filter (is_counted number) es) (filter (is_counted number) es))) of_e) ∙ none
      by later true false of_e one =
          ap (λ b. newest_of (only_if (b && is_counted number e) e) (winner es key number)) one
          ∙ later (sym (ap (λ b. b || list_any (λ (e : Entry). is_key key e.key) (filter (is_counted number) es)) one)
          ∙ sym (ap (λ b. list_any (λ (e : Entry). is_key key e.key)
          (cond b (e ∷ filter (is_counted number) es) (filter (is_counted number) es))) of_e) ∙ none)
      by later false c of_e one =
          ap (λ b. newest_of (only_if (is_key key e.key && b) e) (winner es key number)) of_e
          ∙ ap (λ b. newest_of (only_if b e) (winner es key number)) (and_false (is_key key e.key))
          ∙ later (sym (ap (λ b. list_any (λ (e : Entry). is_key key e.key)
          (cond b (e ∷ filter (is_counted number) es) (filter (is_counted number) es))) of_e) ∙ none)
        where
          and_false : (a : Bool) → (a && false) ≡ false
          and_false true = refl
          and_false false = refl

  pub visible-of_key : (hides : Hides) (number : ℕ) (es : List Entry)
      → filter (λ (e : Entry). is_key key e.key) (visible hides number es) ≡ shown hides (winner es key number)
  visible-of_key hides number es =
      each-key hides number es (keys_at number es) ∙ once (λ k. shown hides (winner es k number)) (filter (is_counted number) es)
      ∙ by (list_any (λ (e : Entry). is_key key e.key) (filter (is_counted number) es)) refl
    where
      by : (b : Bool) → list_any (λ (e : Entry). is_key key e.key) (filter (is_counted number) es) ≡ b
          → cond b (shown hides (winner es key number)) [] ≡ shown hides (winner es key number)
      by true is = refl
      by false is = sym (ap (shown hides) (no-winner number es is))

-- ---- in order

module _ (way : Way) where
  abbrev FirstOf : Option Entry → List Entry → Type 0
  FirstOf None es = Unit {0}
  FirstOf (Some w) es = IsFirst way w es

  along-join : (given : Option Entry) (es : List Entry) → FirstOf given es → IsAlong way es → IsAlong way (option_to_list given ++ es)
  along-join None es first along = along
  along-join (Some w) es first along = (first, along)

  module _ (hides : Hides) (number : ℕ) (e : Entry) (es : List Entry) where
    along-skip : (held : Option Entry) → IsAlong way (held_first held (e ∷ es)) → IsAlong way (held_first held es)
    along-skip None along = along.1
    along-skip (Some h) along = (along.0.1, along.1.1)

    abbrev Goes : Option Entry → Option Entry → Type 0
    Goes now given = IsAlong way (held_first now es) × FirstOf given (held_first now es)

    goes_with : (held : Option Entry) → IsAlong way (held_first held (e ∷ es)) → Goes (held_with held e) (passed_by hides held e)
    goes_with None along = (along, tt)
    goes_with (Some h) along = by (is_key h.key e.key) (nat_le e.version h.version) (is_hidden hides h)
      where
        by : (b c d : Bool) → Goes (cond b (cond c (Some h) (Some e)) (Some e)) (cond b None (cond d None (Some h)))
        by true true d = (along-skip (Some h) along, tt)
        by true false d = (along.1, tt)
        by false c true = (along.1, tt)
        by false c false = (along.1, along.0)

    goes : (held : Option Entry) → IsAlong way (held_first held (e ∷ es)) → Goes (held_after number held e) (passed hides number held e)
    goes held along = elim (is_counted number e) as (λ b. Goes (cond b (held_with held e) held) (cond b (passed_by hides held e) None)) [
      | true ↦ goes_with held along
      | false ↦ (along-skip held along, tt)
    ]

  first-visible : (hides : Hides) (number : ℕ) (given : Option Entry) (es : List Entry) → FirstOf given es → FirstOf given (visible hides number es)
  first-visible hides number None es first = tt
  first-visible hides number (Some w) es first = all-visible hides (λ f. is_gt (way_cmp way w f) ≡ false) number es first

  along-shown : (hides : Hides) (h : Entry) → IsAlong way (shown hides (Some h))
  along-shown hides h = elim (is_hidden hides h) as (λ b. IsAlong way (cond b [] (h ∷ []))) [
    | true ↦ tt
    | false ↦ (tt, tt)
  ]

  along-held : (hides : Hides) (number : ℕ) (es : List Entry) (held : Option Entry) → IsAlong way (held_first held es) → is_held_counted number held ≡ true
      → IsAlong way (visible hides number (held_first held es))
  along-held hides number [] None along counted = tt
  along-held hides number [] (Some h) along counted =
      subst (IsAlong way) (sym (visible-front hides number h [] counted refl ∙ append-nil (shown hides (Some h)))) (along-shown hides h)
  along-held hides number (e ∷ es) held along counted =
      let now = passes hides number held e es (grouped-along way (held_first held (e ∷ es)) along) counted in
      let on = goes hides number e es held along in
      subst (IsAlong way) (sym now.whole)
      (along-join (passed hides number held e) (visible hides number (held_first (held_after number held e) es))
      (first-visible hides number (passed hides number held e) (held_first (held_after number held e) es) on.1)
      (along-held hides number es (held_after number held e) on.0 now.counted))

  pub along-visible : (hides : Hides) (number : ℕ) (es : List Entry) → IsAlong way es → IsAlong way (visible hides number es)
  along-visible hides number es along = along-held hides number es None along refl
