-- The race that a merge lost is found by its needless deletions in order: the first of their keys that was moved.
use Rattle.std.proofs.Common.{◌≡◌, ◌⊎◌, inl, inr, ℕ, ◌<◌, Bool, true, false, cond, List, [], ◌∷◌, map, refl, ap, sym}
use Rattle.std.proofs.Common.{◌∙◌, subst, Some, None, Option}
use Rattle.std.specs.Cmp.{upto}
use Rattle.std.specs.Cmp.Lexicographic.{nat_list_cmp_total}
use Rattle.std.specs.FinMap.{find, put as put_named}
use Rattle.std.specs.Ordering.{is_gt, ordering_reverse}
use Rattle.std.specs.declared.cmp.Ordering.{Ordering}
use Rattle.std.specs.declared.cmp.Ordering.TheVariants.{Less, Equal, Greater}
use Rattle.vl_engine_model.specs.Merging.{needless}
use Rattle.vl_engine_model.specs.Rulings.Install.{moved_among, race, with_move}
use Rattle.vl_engine_model.specs.declared.job.Job.{Job}
use Rattle.vl_model.specs.Conflicts.{Named, first_of}
use Rattle.vl_model.specs.Entries.{by_order, entry_cmp, in_order, put}
use Rattle.vl_model.specs.Keys.{key_cmp}
use Rattle.vl_model.specs.declared.entry.Entry.{Entry}
use Rattle.vl_model.specs.laws.WinnerLaws.{entries_tied, key_exact, key_tied}
use Rattle.vl_model.specs.laws.OrderLaws.{IsBefore, IsRising, put-less, put-equal, put-greater, rising-in_order, turned}
use Rattle.vl_compact.specs.Racing.{moved_or}
use Rattle.vl_compact.specs.laws.Counted.{less_parts}
use Rattle.vl_compact.specs.laws.Repeats.{true_false}

-- ---- the lesser of two keys that were moved

-- a key with the number of its move, if it was moved
abbrev pub named : List ℕ → Option ℕ → Option Named
named key None = None
named key (Some number) = Some (key, number)

-- the one of the lesser key; of two of one key the first
abbrev pub lesser : Option Named → Option Named → Option Named
lesser None other = other
lesser (Some x) None = Some x
lesser (Some x) (Some y) = cond (is_gt (key_cmp x.0 y.0)) (Some y) (Some x)

first-put : (key : List ℕ) (number : ℕ) (ns : List Named)
    → first_of (put_named key_cmp key number ns) ≡ lesser (Some (key, number)) (first_of ns)
first-put key number [] = refl
first-put key number (n ∷ ns) = by (key_cmp key n.0) refl
  where
    by : (r : Ordering) → key_cmp key n.0 ≡ r
        → first_of (by_order r ((key, number) ∷ n ∷ ns) ((n.0, number) ∷ ns) (n ∷ put_named key_cmp key number ns))
        ≡ cond (is_gt r) (Some n) (Some (key, number))
    by Less is = refl
    by Equal is = ap (λ k. Some (k, number)) (sym (key_exact key n.0 is))
    by Greater is = refl

first-with : (key : List ℕ) (o : Option ℕ) (ns : List Named) → first_of (with_move key o ns) ≡ lesser (named key o) (first_of ns)
first-with key None ns = refl
first-with key (Some number) ns = first-put key number ns

lesser-twice : (a b : Option Named) → lesser a (lesser a b) ≡ lesser a b
lesser-twice None b = refl
lesser-twice (Some x) None = ap (λ r. cond (is_gt r) (Some x) (Some x)) (key_tied x.0)
lesser-twice (Some x) (Some y) = by (is_gt (key_cmp x.0 y.0)) refl
  where
    by : (b : Bool) → is_gt (key_cmp x.0 y.0) ≡ b → lesser (Some x) (cond b (Some y) (Some x)) ≡ cond b (Some y) (Some x)
    by true is = ap (λ b. cond b (Some y) (Some x)) is
    by false is = ap (λ r. cond (is_gt r) (Some x) (Some x)) (key_tied x.0)

-- of two of which the first has the lesser key either may be asked first
lesser-swap : (x z : Named) (o : Option Named) → key_cmp x.0 z.0 ≡ Less
    → lesser (Some x) (lesser (Some z) o) ≡ lesser (Some z) (lesser (Some x) o)
lesser-swap x z o less = by o
  where
    abbreviated : key_cmp z.0 x.0 ≡ Greater
    abbreviated = nat_list_cmp_total.antisymm z.0 x.0 ∙ ap ordering_reverse less

    first : lesser (Some x) (Some z) ≡ Some x
    first = ap (λ r. cond (is_gt r) (Some z) (Some x)) less

    second : lesser (Some z) (Some x) ≡ Some x
    second = ap (λ r. cond (is_gt r) (Some x) (Some z)) abbreviated

    below : (y : Named) → is_gt (key_cmp z.0 y.0) ≡ false → is_gt (key_cmp x.0 y.0) ≡ false
    below y is = upto nat_list_cmp_total x.0 z.0 y.0 (ap is_gt less) is

    both : (y : Named) (b c : Bool) → is_gt (key_cmp z.0 y.0) ≡ b → is_gt (key_cmp x.0 y.0) ≡ c
        → lesser (Some x) (cond b (Some y) (Some z)) ≡ lesser (Some z) (cond c (Some y) (Some x))
    both y true true of_z of_x =
        ap (λ b. cond b (Some y) (Some x)) of_x ∙ sym (ap (λ b. cond b (Some y) (Some z)) of_z)
    both y true false of_z of_x = ap (λ b. cond b (Some y) (Some x)) of_x ∙ sym second
    both y false true of_z of_x = absurd (true_false (sym of_x ∙ below y of_z))
    both y false false of_z of_x = first ∙ sym second

    by : (o : Option Named) → lesser (Some x) (lesser (Some z) o) ≡ lesser (Some z) (lesser (Some x) o)
    by None = first ∙ sym second
    by (Some y) = both y (is_gt (key_cmp z.0 y.0)) (is_gt (key_cmp x.0 y.0)) refl refl

-- ---- of entries in order

module _ (moved : List Named) where
  abbrev move_of : List ℕ → Option Named
  move_of key = named key (find key_cmp key moved)

  abbrev least_of : List Entry → Option Named
  least_of es = first_of (moved_among moved es)

  least-more : (e : Entry) (es : List Entry) → least_of (e ∷ es) ≡ lesser (move_of e.key) (least_of es)
  least-more e es = first-with e.key (find key_cmp e.key moved) (moved_among moved es)

  -- of two entries of which one comes behind the other either may be asked first
  moves_swap : (e f : Entry) (o : Option Named) → entry_cmp f e ≡ Less
      → lesser (move_of f.key) (lesser (move_of e.key) o) ≡ lesser (move_of e.key) (lesser (move_of f.key) o)
  moves_swap e f o less = by (less_parts f e less)
    where
      lower : (m n : Option ℕ) → key_cmp f.key e.key ≡ Less
          → lesser (named f.key m) (lesser (named e.key n) o) ≡ lesser (named e.key n) (lesser (named f.key m) o)
      lower None n less = refl
      lower (Some m) None less = refl
      lower (Some m) (Some n) less = lesser-swap (f.key, m) (e.key, n) o less

      by : (key_cmp f.key e.key ≡ Less) ⊎ ((f.key ≡ e.key) × (e.version < f.version))
          → lesser (move_of f.key) (lesser (move_of e.key) o) ≡ lesser (move_of e.key) (lesser (move_of f.key) o)
      by (inl less) = lower (find key_cmp f.key moved) (find key_cmp e.key moved) less
      by (inr same) =
          ap (λ k. lesser (move_of k) (lesser (move_of e.key) o)) same.0
          ∙ ap (λ k. lesser (move_of e.key) (lesser (move_of k) o)) (sym same.0)

  least-put : (e : Entry) (es : List Entry) → least_of (put e es) ≡ lesser (move_of e.key) (least_of es)
  least-put e [] = least-more e []
  least-put e (f ∷ fs) = by (least-put e fs) (entry_cmp e f) refl
    where
      by : least_of (put e fs) ≡ lesser (move_of e.key) (least_of fs) → (r : Ordering) → entry_cmp e f ≡ r
          → least_of (put e (f ∷ fs)) ≡ lesser (move_of e.key) (least_of (f ∷ fs))
      by later Less is = ap least_of (put-less e f fs is) ∙ least-more e (f ∷ fs)
      by later Equal is =
          ap least_of (put-equal e f fs is) ∙ least-more e fs
          ∙ sym (lesser-twice (move_of e.key) (least_of fs))
          ∙ ap (λ k. lesser (move_of e.key) (lesser (move_of k) (least_of fs))) (entries_tied e f is).0
          ∙ ap (lesser (move_of e.key)) (sym (least-more f fs))
      by later Greater is =
          ap least_of (put-greater e f fs is) ∙ least-more f (put e fs) ∙ ap (lesser (move_of f.key)) later
          ∙ moves_swap e f (least_of fs) (turned e f Greater is)
          ∙ ap (lesser (move_of e.key)) (sym (least-more f fs))

  least-in_order : (es : List Entry) → least_of (in_order es) ≡ least_of es
  least-in_order [] = refl
  least-in_order (e ∷ es) =
      least-put e (in_order es) ∙ ap (lesser (move_of e.key)) (least-in_order es) ∙ sym (least-more e es)

  -- ---- key by key

  -- the key isn't above that of a move
  abbrev IsUpTo : List ℕ → Option Named → Type 0
  IsUpTo key None = Unit {0}
  IsUpTo key (Some y) = is_gt (key_cmp key y.0) ≡ false

  up_to_lesser : (key : List ℕ) (a b : Option Named) → IsUpTo key a → IsUpTo key b → IsUpTo key (lesser a b)
  up_to_lesser key None b of_a of_b = of_b
  up_to_lesser key (Some x) None of_a of_b = of_a
  up_to_lesser key (Some x) (Some y) of_a of_b = by (is_gt (key_cmp x.0 y.0))
    where
      by : (b : Bool) → IsUpTo key (cond b (Some y) (Some x))
      by true = of_b
      by false = of_a

  up_to_named : (key q : List ℕ) (o : Option ℕ) → is_gt (key_cmp key q) ≡ false → IsUpTo key (named q o)
  up_to_named key q None up = tt
  up_to_named key q (Some n) up = up

  up_to_least : (e : Entry) (es : List Entry) → IsBefore e es → IsUpTo e.key (least_of es)
  up_to_least e [] before = tt
  up_to_least e (f ∷ fs) before =
      subst (IsUpTo e.key) (sym (least-more f fs))
      (up_to_lesser e.key (move_of f.key) (least_of fs)
      (up_to_named e.key f.key (find key_cmp f.key moved) (by (less_parts e f before.0))) (up_to_least e fs before.1))
    where
      by : (key_cmp e.key f.key ≡ Less) ⊎ ((e.key ≡ f.key) × (f.version < e.version)) → is_gt (key_cmp e.key f.key) ≡ false
      by (inl lower) = ap is_gt lower
      by (inr same) = ap is_gt (ap (key_cmp e.key) (sym same.0) ∙ key_tied e.key)

  lesser-first : (key : List ℕ) (o : Option ℕ) (other : Option Named) → IsUpTo key other → lesser (named key o) other ≡ moved_or key o other
  lesser-first key None other up = refl
  lesser-first key (Some n) None up = refl
  lesser-first key (Some n) (Some y) up = ap (λ b. cond b (Some y) (Some (key, n))) up

  module _ (least : List Named → Option Named) (none : least [] ≡ None)
      (more : (n : Named) (ns : List Named) → least (n ∷ ns) ≡ moved_or n.0 (find key_cmp n.0 moved) (least ns)) where
    least-rising : (es : List Entry) → IsRising es → least_of es ≡ least (map (λ (e : Entry). (e.key, e.version)) es)
    least-rising [] up = sym none
    least-rising (e ∷ es) up =
        least-more e es ∙ lesser-first e.key (find key_cmp e.key moved) (least_of es) (up_to_least e es up.0)
        ∙ ap (moved_or e.key (find key_cmp e.key moved)) (least-rising es up.1)
        ∙ sym (more (e.key, e.version) (map (λ (e : Entry). (e.key, e.version)) es))

    -- the least key of a needless deletion that was moved is the first that was moved of these in order
    pub race-in_order : (j : Job) → race j moved ≡ least (map (λ (e : Entry). (e.key, e.version)) (in_order (needless j)))
    race-in_order j = sym (least-in_order (needless j)) ∙ least-rising (in_order (needless j)) (rising-in_order (needless j))
