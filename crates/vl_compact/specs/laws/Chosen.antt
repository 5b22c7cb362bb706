-- What is chosen of the inputs, source by source, and put in order is what is chosen of the inputs in order.
use Rattle.std.proofs.Common.{◌≡◌, Bool, true, false, cond, not, ◌&&◌, ◌||◌, List, [], ◌∷◌, refl, ap, sym, ◌∙◌}
use Rattle.std.specs.List.{AllByRecursion, filter}
use Rattle.std.specs.declared.cmp.Ordering.{Ordering}
use Rattle.std.specs.declared.cmp.Ordering.TheVariants.{Less, Equal, Greater}
use Rattle.vl_engine_model.specs.Merging.{Sourced, if_so, inputs_of, is_shadowed}
use Rattle.vl_engine_model.specs.laws.ShowsLaws.{is_at-itself}
use Rattle.vl_merge.specs.Marked.{is_first_outside}
use Rattle.vl_model.specs.Entries.{is_at, entry_cmp, put, in_order}
use Rattle.vl_model.specs.declared.entry.Entry.{Entry}
use Rattle.vl_model.specs.laws.OrderLaws.{entry_total, IsBefore, IsRising, rising-in_order, before-all, turned}
use Rattle.vl_model.specs.laws.OrderLaws.{put-less, put-equal, put-greater}
use Rattle.vl_compact.specs.laws.Repeats.{tied_at, not_at}

-- ---- filters of entries in order

pub all-filter : (P : Entry → Type 0) (p : Entry → Bool) (es : List Entry) → AllByRecursion P es → AllByRecursion P (filter p es)
all-filter P p [] all = tt
all-filter P p (e ∷ es) all = elim (p e) as (λ b. AllByRecursion P (cond b (e ∷ filter p es) (filter p es))) [
  | true ↦ (all.0, all-filter P p es all.1)
  | false ↦ all-filter P p es all.1
]

pub filter-same : (p q : Entry → Bool) (es : List Entry) → AllByRecursion (λ (e : Entry). p e ≡ q e) es → filter p es ≡ filter q es
filter-same p q [] all = refl
filter-same p q (e ∷ es) all =
    ap (λ b. cond b (e ∷ filter p es) (filter p es)) all.0 ∙ ap (λ l. cond (q e) (e ∷ l) l) (filter-same p q es all.1)

pub put-first : (e : Entry) (es : List Entry) → IsBefore e es → put e es ≡ e ∷ es
put-first e [] before = refl
put-first e (f ∷ fs) before = put-less e f fs before.0

less_tied : (r : Ordering) → r ≡ Less → r ≡ Equal → ⊥
less_tied r less tied = absurd (let no_such : Less ≡ Equal = sym less ∙ tied in cc)

greater_tied : (r : Ordering) → r ≡ Greater → r ≡ Equal → ⊥
greater_tied r greater tied = absurd (let no_such : Greater ≡ Equal = sym greater ∙ tied in cc)

-- Two tests that differ at one key and version alone, where entries that are put in later are left out by the second.
module _ (e : Entry) (p q : Entry → Bool)
    (apart : (f : Entry) → is_at f.key f.version e ≡ false → p f ≡ q f)
    (again : (f : Entry) → is_at f.key f.version e ≡ true → q f ≡ false) where
  apart_all : (es : List Entry) → IsBefore e es → AllByRecursion (λ (f : Entry). p f ≡ q f) es
  apart_all [] before = tt
  apart_all (f ∷ fs) before = (
    apart f (not_at f e (greater_tied (entry_cmp f e) (turned e f Less before.0))),
    apart_all fs before.1,
  )

  abbrev put_if : Bool → List Entry → List Entry
  put_if b es = cond b (put e es) es

  put_before : (b : Bool) (es : List Entry) → IsBefore e es → cond b (e ∷ es) es ≡ put_if b es
  put_before true es before = sym (put-first e es before)
  put_before false es before = refl

  put_behind : (b c : Bool) (f : Entry) (fs : List Entry) → entry_cmp e f ≡ Greater
      → cond c (f ∷ put_if b fs) (put_if b fs) ≡ put_if b (cond c (f ∷ fs) fs)
  put_behind true true f fs behind = sym (put-greater e f fs behind)
  put_behind false true f fs behind = refl
  put_behind b false f fs behind = refl

  front : (fs : List Entry) → IsBefore e fs → filter p (e ∷ fs) ≡ put_if (p e) (filter q fs)
  front fs before =
      ap (λ l. cond (p e) (e ∷ l) l) (filter-same p q fs (apart_all fs before))
      ∙ put_before (p e) (filter q fs) (all-filter (λ f. entry_cmp e f ≡ Less) q fs before)

  tied_before : (f : Entry) (es : List Entry) → entry_cmp e f ≡ Equal → IsBefore f es → IsBefore e es
  tied_before f [] tied before = tt
  tied_before f (g ∷ es) tied before =
      (entry_total.congr e f g tied ∙ before.0, tied_before f es tied before.1)

  pub filter-put : (es : List Entry) → IsRising es → filter p (put e es) ≡ put_if (p e) (filter q es)
  filter-put [] rising = refl
  filter-put (f ∷ fs) rising = by (filter-put fs rising.1) (entry_cmp e f) refl
    where
      by : filter p (put e fs) ≡ put_if (p e) (filter q fs) → (r : Ordering) → entry_cmp e f ≡ r
          → filter p (put e (f ∷ fs)) ≡ put_if (p e) (filter q (f ∷ fs))
      by later Less is =
          ap (filter p) (put-less e f fs is) ∙ front (f ∷ fs) (is, before-all e f fs is rising.0)
      by later Equal is =
          ap (filter p) (put-equal e f fs is) ∙ front fs (tied_before f fs is rising.0)
          ∙ sym (ap (λ b. put_if (p e) (cond b (f ∷ filter q fs) (filter q fs)))
          (again f (tied_at f e (turned e f Equal is))))
      by later Greater is =
          ap (filter p) (put-greater e f fs is)
          ∙ ap (λ b. cond b (f ∷ filter p (put e fs)) (filter p (put e fs)))
          (apart f (not_at f e (less_tied (entry_cmp f e) (turned e f Greater is))))
          ∙ ap (λ l. cond (q f) (f ∷ l) l) later ∙ put_behind (p e) (q f) f (filter q fs) is

-- ---- what is chosen of inputs

-- of the inputs' entries those that no newer source has and that pass a test, in the order of the sources
abbrev pub chosen : (Entry → Bool) → List Entry → List Sourced → List Entry
chosen q newer [] = []
chosen q newer (s ∷ ss) = if_so (s.0 && (not (is_shadowed newer s.1) && q s.1)) s.1 (chosen q (s.1 ∷ newer) ss)

-- the entry of its key and version that is the first of some sources is in none that are newer and is an input's, and it passes
abbrev pub is_chosen : (Entry → Bool) → List Entry → List Sourced → Entry → Bool
is_chosen q newer ss e = not (is_shadowed newer e) && (not (is_first_outside ss e.key e.version) && q e)

module _ (q : Entry → Bool) where
  and_false : (b : Bool) → (b && false) ≡ false
  and_false true = refl
  and_false false = refl

  -- an entry of another key and version is chosen whether one of the sources counts as newer or not
  chosen_apart : (newer : List Entry) (s : Sourced) (ss : List Sourced) (f : Entry) → is_at f.key f.version s.1 ≡ false
      → is_chosen q newer (s ∷ ss) f ≡ is_chosen q (s.1 ∷ newer) ss f
  chosen_apart newer s ss f off =
      ap (λ b. not (is_shadowed newer f) && (not (cond b (not s.0) (is_first_outside ss f.key f.version)) && q f)) off
      ∙ ap (λ b. not (b || is_shadowed newer f) && (not (is_first_outside ss f.key f.version) && q f)) (sym off)

  -- one of the key and version of a newer source isn't
  chosen_again : (newer : List Entry) (s : Sourced) (ss : List Sourced) (f : Entry) → is_at f.key f.version s.1 ≡ true
      → is_chosen q (s.1 ∷ newer) ss f ≡ false
  chosen_again newer s ss f on =
      ap (λ b. not (b || is_shadowed newer f) && (not (is_first_outside ss f.key f.version) && q f)) on

  -- nor is it where that newer source isn't an input
  chosen_outside : (newer : List Entry) (s : Sourced) (ss : List Sourced) (f : Entry) → s.0 ≡ false
      → is_at f.key f.version s.1 ≡ true → is_chosen q newer (s ∷ ss) f ≡ false
  chosen_outside newer s ss f out on =
      ap (λ b. not (is_shadowed newer f) && (not (cond b (not s.0) (is_first_outside ss f.key f.version)) && q f)) on
      ∙ ap (λ b. not (is_shadowed newer f) && (not (not b) && q f)) out ∙ and_false (not (is_shadowed newer f))

  chosen_here : (newer : List Entry) (s : Sourced) (ss : List Sourced) → s.0 ≡ true
      → is_chosen q newer (s ∷ ss) s.1 ≡ (not (is_shadowed newer s.1) && q s.1)
  chosen_here newer s ss input =
      ap (λ b. not (is_shadowed newer s.1) && (not (cond b (not s.0) (is_first_outside ss s.1.key s.1.version)) && q s.1))
      (is_at-itself s.1)
      ∙ ap (λ b. not (is_shadowed newer s.1) && (not (not b) && q s.1)) input

  same_all : (newer : List Entry) (s : Sourced) (ss : List Sourced) (es : List Entry) → s.0 ≡ false
      → AllByRecursion (λ (f : Entry). is_chosen q (s.1 ∷ newer) ss f ≡ is_chosen q newer (s ∷ ss) f) es
  same_all newer s ss [] out = tt
  same_all newer s ss (f ∷ fs) out = (by (is_at f.key f.version s.1) refl, same_all newer s ss fs out)
    where
      by : (b : Bool) → is_at f.key f.version s.1 ≡ b → is_chosen q (s.1 ∷ newer) ss f ≡ is_chosen q newer (s ∷ ss) f
      by true on = chosen_again newer s ss f on ∙ sym (chosen_outside newer s ss f out on)
      by false off = sym (chosen_apart newer s ss f off)

  -- what is chosen, in order, is what is chosen of the inputs in order
  pub chosen-in_order : (newer : List Entry) (ss : List Sourced)
      → in_order (chosen q newer ss) ≡ filter (is_chosen q newer ss) (in_order (inputs_of ss))
  chosen-in_order newer [] = refl
  chosen-in_order newer (s ∷ ss) = by (chosen-in_order (s.1 ∷ newer) ss) s.0 refl
    where
      passes : Bool
      passes = not (is_shadowed newer s.1) && q s.1

      within : Entry → Bool
      within = is_chosen q newer (s ∷ ss)

      without : Entry → Bool
      without = is_chosen q (s.1 ∷ newer) ss

      all : List Entry
      all = in_order (inputs_of ss)

      put_if_so : (c : Bool) (e : Entry) (es : List Entry) → in_order (if_so c e es) ≡ cond c (put e (in_order es)) (in_order es)
      put_if_so true e es = refl
      put_if_so false e es = refl

      by : in_order (chosen q (s.1 ∷ newer) ss) ≡ filter (is_chosen q (s.1 ∷ newer) ss) (in_order (inputs_of ss))
          → (b : Bool) → s.0 ≡ b
          → in_order (chosen q newer (s ∷ ss)) ≡ filter (is_chosen q newer (s ∷ ss)) (in_order (inputs_of (s ∷ ss)))
      by later true input =
          ap (λ b. in_order (if_so (b && passes) s.1 (chosen q (s.1 ∷ newer) ss))) input
          ∙ put_if_so passes s.1 (chosen q (s.1 ∷ newer) ss)
          ∙ ap (λ l. cond passes (put s.1 l) l) later
          ∙ ap (λ b. cond b (put s.1 (filter without all)) (filter without all)) (sym (chosen_here newer s ss input))
          ∙ sym (filter-put s.1 within without (chosen_apart newer s ss) (chosen_again newer s ss) all (rising-in_order (inputs_of ss)))
          ∙ ap (λ b. filter within (in_order (if_so b s.1 (inputs_of ss)))) (sym input)
      by later false out =
          ap (λ b. in_order (if_so (b && passes) s.1 (chosen q (s.1 ∷ newer) ss))) out ∙ later
          ∙ filter-same without within all (same_all newer s ss all out)
          ∙ ap (λ b. filter within (in_order (if_so b s.1 (inputs_of ss)))) (sym out)
