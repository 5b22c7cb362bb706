-- Inputs that a merge has read whole, step by step, stand whole: each of their blocks, where their indexes are true.
use Rattle.std.proofs.Common.{◌≡◌, ◌⊎◌, inl, inr, ℕ, zero, suc, ◌+◌, ◌-◌, Bool, true, false, cond, not, ◌&&◌, ◌||◌, List, [], ◌∷◌, ◌++◌}
use Rattle.std.proofs.Common.{length, take, drop, refl, ap, sym, subst, ◌∙◌, arith, append_assoc, append-nil, Option, None, Some}
use Rattle.std.proofs.lemmas.Bool.{and_parts}
use Rattle.std.specs.Cmp.Lexicographic.{nat_list_cmp_total}
use Rattle.std.specs.List.{AllByRecursion, filter, list_all, list_any, prefix_len}
use Rattle.std.specs.Ordering.{is_lt, ordering_reverse}
use Rattle.std.specs.Prelude.{map, min}
use Rattle.std.specs.declared.cmp.Ordering.{Ordering}
use Rattle.std.specs.declared.cmp.Ordering.TheVariants.{Less, Equal, Greater}
use Rattle.vl_compact.specs.Keys.{span_behind}
use Rattle.vl_compact.specs.Stops.{AreReadWhole, HasTrueIndex, InputsReadBy, InputsReadTo, StandsWhole, last_of}
use Rattle.vl_compact.specs.Walking.{is_behind}
use Rattle.vl_compact.specs.laws.BehindLaws.{from_next, is_less, within-behind}
use Rattle.vl_model.specs.Keys.{key_cmp}
use Rattle.vl_model.specs.declared.entry.Entry.{Entry}
use Rattle.vl_model.specs.declared.way.Way.TheVariants.{Up}
use Rattle.vl_model.specs.laws.WinnerLaws.{key_exact}
use Rattle.vl_table.specs.CursorParts.{Block, StandsWith, blocks_over, index_of}
use Rattle.vl_table.specs.ReadTo.{OneHas}
use Rattle.vl_table.specs.SpanBlocks.{blocks_in, ends_before, ends_within, is_parted}
use Rattle.vl_table.specs.Stretches.{stretch_of}
use Rattle.vl_table.specs.Tables.{shape_of}
use Rattle.vl_table.specs.declared.body.index.BlockPlace.{BlockPlace}
use Rattle.vl_table.specs.declared.table.Table.{Table}

-- ---- lists

-- one of these is so
abbrev One : {X : Type 0} → (X → Type 0) → List X → Type 0
One P [] = ⊥
One P (x ∷ xs) = P x ⊎ One P xs

all_both : {X : Type 0} (P : X → Type 0) (xs ys : List X) → AllByRecursion P xs → AllByRecursion P ys → AllByRecursion P (xs ++ ys)
all_both P [] ys all more = more
all_both P (x ∷ xs) ys all more = (all.0, all_both P xs ys all.1 more)

all_front : {X : Type 0} (P : X → Type 0) (xs ys : List X) → AllByRecursion P (xs ++ ys) → AllByRecursion P xs
all_front P [] ys all = tt
all_front P (x ∷ xs) ys all = (all.0, all_front P xs ys all.1)

all_back : {X : Type 0} (P : X → Type 0) (xs ys : List X) → AllByRecursion P (xs ++ ys) → AllByRecursion P ys
all_back P [] ys all = all
all_back P (x ∷ xs) ys all = all_back P xs ys all.1

all_so : {X : Type 0} (P : X → Type 0) → ((x : X) → P x) → (xs : List X) → AllByRecursion P xs
all_so P so [] = tt
all_so P so (x ∷ xs) = (so x, all_so P so xs)

one_behind : {X : Type 0} (P : X → Type 0) (xs ys : List X) → One P ys → One P (xs ++ ys)
one_behind P [] ys one = one
one_behind P (x ∷ xs) ys one = inr (one_behind P xs ys one)

one_more : (n : ℕ) → 1 + n ≡ suc n
one_more n = omega arith

in_parts : {X : Type 0} (n : ℕ) (xs : List X) → take n xs ++ drop n xs ≡ xs
in_parts zero xs = refl
in_parts (suc n) [] = refl
in_parts (suc n) (x ∷ xs) = ap (λ l. x ∷ l) (in_parts n xs)

take_all : {X : Type 0} (xs : List X) → take (length xs) xs ≡ xs
take_all [] = refl
take_all (x ∷ xs) = ap (λ l. x ∷ l) (take_all xs)

length_rest : {X : Type 0} (n : ℕ) (xs : List X) → length (drop n xs) ≡ length xs - n
length_rest zero xs = omega arith
length_rest (suc n) [] = omega arith
length_rest (suc n) (x ∷ xs) = let later = length_rest n xs in omega (arith, later)

-- to the end
to_end : {X : Type 0} (n end : ℕ) (xs : List X) → end ≡ length xs → take (min (end + 1) (length xs) - n) (drop n xs) ≡ drop n xs
to_end n end xs is =
    let rest = length_rest n xs in
    let all : min (end + 1) (length xs) - n ≡ length (drop n xs) = omega (arith, is, rest) in
    ap (λ m. take m (drop n xs)) all ∙ take_all (drop n xs)

all_pass : {X : Type 0} (test : X → Bool) → ((x : X) → test x ≡ true) → (xs : List X) → prefix_len test xs ≡ length xs
all_pass test so [] = refl
all_pass test so (x ∷ xs) =
    let later = all_pass test so xs in
    ap (λ b. cond b (1 + prefix_len test xs) 0) (so x) ∙ omega (arith, later)

module _ {X : Type 0} (Stands : X → Type 0) where
  module _ (test : X → Bool) where
    -- those that pass the test stand
    abbrev Until : List X → Type 0
    Until xs = AllByRecursion (λ x. test x ≡ true → Stands x) xs

    weaker : (xs : List X) → AllByRecursion Stands xs → Until xs
    weaker [] all = tt
    weaker (x ∷ xs) all = (λ is. all.0, weaker xs all.1)

    vacuous : (xs : List X) → AllByRecursion (λ x. test x ≡ false) xs → Until xs
    vacuous [] all = tt
    vacuous (x ∷ xs) all = (λ is. absurd (let no : true ≡ false = sym is ∙ all.0 in cc), vacuous xs all.1)

    prefix_stands : (xs : List X) → Until xs → AllByRecursion Stands (take (prefix_len test xs) xs)
    prefix_stands [] until = tt
    prefix_stands (x ∷ xs) until = by (test x) refl (prefix_stands xs until.1)
      where
        by : (b : Bool) → test x ≡ b → AllByRecursion Stands (take (prefix_len test xs) xs)
            → AllByRecursion Stands (take (cond b (1 + prefix_len test xs) 0) (x ∷ xs))
        by true is later = subst (λ n. AllByRecursion Stands (take n (x ∷ xs))) (sym (one_more (prefix_len test xs))) (until.0 is, later)
        by false is later = tt

    all_fail : (xs : List X) → list_all (λ x. not (test x)) xs ≡ true → AllByRecursion (λ x. test x ≡ false) xs
    all_fail [] is = tt
    all_fail (x ∷ xs) is = by (test x) refl is (λ later. all_fail xs later)
      where
        by : (b : Bool) → test x ≡ b → (not b && list_all (λ y. not (test y)) xs) ≡ true
            → (list_all (λ y. not (test y)) xs ≡ true → AllByRecursion (λ y. test y ≡ false) xs)
            → (test x ≡ false) × AllByRecursion (λ y. test y ≡ false) xs
        by true same is later = absurd (let no : false ≡ true = is in cc)
        by false same is later = (same, later is)

    -- behind one that fails each does
    behind_fails : (front rest : List X) → is_parted test (front ++ rest) ≡ true → One (λ x. test x ≡ false) front
        → AllByRecursion (λ x. test x ≡ false) rest
    behind_fails [] rest parted one = absurd one
    behind_fails (x ∷ front) rest parted one = by (test x) refl parted one (λ on later. behind_fails front rest on later)
      where
        by : (b : Bool) → test x ≡ b
            → list_all (λ y. not (test y)) (drop (cond b (1 + prefix_len test (front ++ rest)) 0) (x ∷ (front ++ rest))) ≡ true
            → (test x ≡ false) ⊎ One (λ y. test y ≡ false) front
            → (is_parted test (front ++ rest) ≡ true → One (λ y. test y ≡ false) front → AllByRecursion (λ y. test y ≡ false) rest)
            → AllByRecursion (λ y. test y ≡ false) rest
        by true is parted (inl here) more = absurd (let no : true ≡ false = sym is ∙ here in cc)
        by true is parted (inr later) more =
            more (subst (λ n. list_all (λ y. not (test y)) (drop n (x ∷ (front ++ rest))) ≡ true)
            (one_more (prefix_len test (front ++ rest))) parted) later
        by false is parted one more = all_back (λ y. test y ≡ false) (x ∷ front) rest (all_fail (x ∷ (front ++ rest)) parted)

  -- from the first that fails one test on these stand
  module _ (test : X → Bool) (xs read rest : List X) (until : Until test xs) (parts : drop (prefix_len test xs) xs ≡ read ++ rest)
      (stood : AllByRecursion Stands read) where
    abbrev front : List X
    front = take (prefix_len test xs) xs ++ read

    split : xs ≡ front ++ rest
    split = sym (in_parts (prefix_len test xs) xs) ∙ ap (λ l. take (prefix_len test xs) xs ++ l) parts
        ∙ sym (append_assoc (take (prefix_len test xs) xs) read rest)

    front_stands : AllByRecursion Stands front
    front_stands = all_both Stands (take (prefix_len test xs) xs) read (prefix_stands test xs until) stood

    -- up to one that fails the next test: so each that passes that one does
    steps_on : (next : X → Bool) → (rest ≡ []) ⊎ One (λ x. next x ≡ false) read → is_parted next xs ≡ true → Until next xs
    steps_on next met parted =
        subst (Until next) (sym split) (all_both (λ x. next x ≡ true → Stands x) front rest (weaker next front front_stands) (by met))
      where
        by : (rest ≡ []) ⊎ One (λ x. next x ≡ false) read → Until next rest
        by (inl none) = subst (Until next) (sym none) tt
        by (inr one) = vacuous next rest (behind_fails next front rest (subst (λ l. is_parted next l ≡ true) split parted)
            (one_behind (λ x. next x ≡ false) (take (prefix_len test xs) xs) read one))

    -- or to the end: so all do
    ends_all : rest ≡ [] → AllByRecursion Stands xs
    ends_all none = subst (AllByRecursion Stands) (sym (split ∙ ap (λ l. front ++ l) none ∙ append-nil front)) front_stands

-- ---- keys

key_up : (k e l : List ℕ) → is_lt (key_cmp k e) ≡ true → is_lt (key_cmp l e) ≡ false → is_lt (key_cmp k l) ≡ true
key_up k e l behind up = by (key_cmp e l) refl
  where
    by : (r : Ordering) → key_cmp e l ≡ r → is_lt (key_cmp k l) ≡ true
    by Less is = ap is_lt (nat_list_cmp_total.trans k e l (is_less (key_cmp k e) behind) is)
    by Equal is = ap (λ x. is_lt (key_cmp k x)) (sym (key_exact e l is)) ∙ behind
    by Greater is = absurd (let no : true ≡ false = sym (ap is_lt (nat_list_cmp_total.antisymm l e ∙ ap ordering_reverse is)) ∙ up in cc)

any_where : (p q : Entry → Bool) (P : Entry → Type 0) (es : List Entry) → AllByRecursion P es → list_any p (filter q es) ≡ true
    → (e : Entry) × (p e ≡ true) × P e
any_where p q P [] all any = absurd (let no : false ≡ true = any in cc)
any_where p q P (e ∷ es) all any = by (q e) (p e) refl any (λ later. any_where p q P es all.1 later)
  where
    by : (b c : Bool) → p e ≡ c → list_any p (cond b (e ∷ filter q es) (filter q es)) ≡ true
        → (list_any p (filter q es) ≡ true → (f : Entry) × (p f ≡ true) × P f) → (f : Entry) × (p f ≡ true) × P f
    by true true is any later = (e, is, all.0)
    by true false is any later = later (sym (ap (λ c. c || list_any p (filter q es)) is) ∙ any)
    by false c is any later = later any

none_any : (es : List Entry) → list_any (λ e. false) es ≡ true → ⊥
none_any [] any = let no : false ≡ true = any in cc
none_any (e ∷ es) any = none_any es any

-- ---- one table

module _ {H : Type 0} (bytes_of : H → Option (List ℕ)) where
  module _ (t : Table H) where
    abbrev block : BlockPlace → Block H
    block p = (t, p)

    abbrev its : List (Block H)
    its = map block (index_of t)

    abbrev ends_at : Option (List ℕ) → Block H → Bool
    ends_at at b = ends_before (span_behind at) b.1

    abbrev Stands : Block H → Type 0
    Stands b = (es : List Entry) × StandsWith bytes_of b es

    abbrev IsTrue : Block H → Type 0
    IsTrue b = (es : List Entry) → StandsWith bytes_of b es → AllByRecursion (λ (e : Entry). is_lt (key_cmp b.1.last e.key) ≡ false) es

    prefix_map : (q : Block H → Bool) (ps : List BlockPlace)
        → prefix_len (λ p. q (t, p)) ps ≡ prefix_len q (map block ps)
    prefix_map q [] = refl
    prefix_map q (p ∷ ps) = ap (λ n. cond (q (t, p)) (1 + n) 0) (prefix_map q ps)

    drop_map : (n : ℕ) (ps : List BlockPlace) → map block (drop n ps) ≡ drop n (map block ps)
    drop_map zero ps = refl
    drop_map (suc n) [] = refl
    drop_map (suc n) (p ∷ ps) = drop_map n ps

    all_map : (q : Block H → Bool) (ps : List BlockPlace) → list_all q (map block ps) ≡ list_all (λ p. q (t, p)) ps
    all_map q [] = refl
    all_map q (p ∷ ps) = ap (λ b. q (t, p) && b) (all_map q ps)

    mapped : (P : Block H → Type 0) (ps : List BlockPlace) → AllByRecursion (λ p. P (t, p)) ps
        → AllByRecursion P (map block ps)
    mapped P [] all = tt
    mapped P (p ∷ ps) all = (all.0, mapped P ps all.1)

    unmapped : (P : Block H → Type 0) (ps : List BlockPlace) → AllByRecursion P (map block ps)
        → AllByRecursion (λ p. P (t, p)) ps
    unmapped P [] all = tt
    unmapped P (p ∷ ps) all = (all.0, unmapped P ps all.1)

    -- the blocks that may have keys behind a key are those from the first on that doesn't end before
    stretch_is : (at : Option (List ℕ)) → stretch_of (blocks_in (span_behind at) (shape_of t)) (index_of t)
        ≡ drop (prefix_len (ends_before (span_behind at)) (index_of t)) (index_of t)
    stretch_is None = to_end (prefix_len (ends_before (span_behind None)) (index_of t))
        (prefix_len (ends_within (span_behind None)) (index_of t)) (index_of t)
        (all_pass (ends_within (span_behind None)) (λ p. refl) (index_of t))
    stretch_is (Some key) = to_end (prefix_len (ends_before (span_behind (Some key))) (index_of t))
        (prefix_len (ends_within (span_behind (Some key))) (index_of t)) (index_of t)
        (all_pass (ends_within (span_behind (Some key))) (λ p. refl) (index_of t))

    blocks_behind : (at : Option (List ℕ)) → blocks_over (span_behind at) Up (t ∷ []) ≡ drop (prefix_len (ends_at at) its) its
    blocks_behind at =
        append-nil (map block (stretch_of (blocks_in (span_behind at) (shape_of t)) (index_of t)))
        ∙ ap (map block) (stretch_is at)
        ∙ drop_map (prefix_len (ends_before (span_behind at)) (index_of t)) (index_of t)
        ∙ ap (λ n. drop n its) (prefix_map (ends_at at) (index_of t))

    module _ (is : HasTrueIndex bytes_of t) where
      parted_at : (at : Option (List ℕ)) → is_parted (ends_at at) its ≡ true
      parted_at at =
          let both = and_parts (is_parted (ends_before (span_behind at)) (index_of t)) (is_parted (ends_within (span_behind at)) (index_of t))
          (is.rises at) in
          ap (λ n. list_all (λ b. not (ends_at at b)) (drop n its)) (sym (prefix_map (ends_at at) (index_of t)))
          ∙ ap (list_all (λ b. not (ends_at at b)))
          (sym (drop_map (prefix_len (ends_before (span_behind at)) (index_of t)) (index_of t)))
          ∙ all_map (λ b. not (ends_at at b)) (drop (prefix_len (ends_before (span_behind at)) (index_of t)) (index_of t))
          ∙ both.0

      -- a block that has an entry behind a key doesn't end before
      one_ends : (at : Option (List ℕ)) (key : List ℕ) (bs : List (Block H)) → AllByRecursion IsTrue bs
          → OneHas bytes_of (span_behind at) Up (is_behind (Some key)) bs → One (λ b. ends_at (Some key) b ≡ false) bs
      one_ends at key [] all has = absurd has
      one_ends at key (b ∷ bs) all (inl here) =
          let (e, behind, up) = any_where (is_behind (Some key)) (is_behind at)
          (λ (e : Entry). is_lt (key_cmp b.1.last e.key) ≡ false) here.0 (all.0 here.0 here.1)
          (ap (list_any (is_behind (Some key))) (sym (within-behind at here.0)) ∙ here.2) in
          inl (ap not (from_next key b.1.last ∙ key_up key e.key b.1.last behind up))
      one_ends at key (b ∷ bs) all (inr later) = inr (one_ends at key bs all.1 later)

      true_read : (at : Option (List ℕ)) (read rest : List (Block H)) → blocks_over (span_behind at) Up (t ∷ []) ≡ read ++ rest
          → AllByRecursion IsTrue read
      true_read at read rest parts =
          all_front IsTrue read rest (subst (AllByRecursion IsTrue) (sym (blocks_behind at) ∙ parts)
          (all_back IsTrue (take (prefix_len (ends_at at) its) its) (drop (prefix_len (ends_at at) its) its)
          (subst (AllByRecursion IsTrue) (sym (in_parts (prefix_len (ends_at at) its) its)) (mapped IsTrue (index_of t) is.keys))))

      abbrev Stood : Option (List ℕ) → Type 0
      Stood at = Until Stands (ends_at at) its

      begun : Stood None
      begun = vacuous Stands (ends_at None) its (all_so (λ b. ends_at None b ≡ false) (λ b. refl) its)

      one_step : (at : Option (List ℕ)) (key : List ℕ) → Stood at → InputsReadTo bytes_of at (is_behind (Some key)) (t ∷ [])
          → Stood (Some key)
      one_step at key stood to =
          let r = to.0 (ap (λ b. b && true) (is.rises at)) in
          steps_on Stands (ends_at at) its r.read r.rest stood (sym (blocks_behind at) ∙ r.parts) r.stood (ends_at (Some key))
          (elim r.met [
            | inl none ↦ inl none
            | inr has ↦ inr (one_ends at key r.read (true_read at r.read r.rest r.parts) has)
          ]) (parted_at (Some key))

      all_steps : (at : Option (List ℕ)) (keys : List (List ℕ)) → Stood at → InputsReadBy bytes_of at keys (t ∷ []) → Stood (last_of at keys)
      all_steps at [] stood read = stood
      all_steps at (key ∷ keys) stood read = all_steps (Some key) keys (one_step at key stood read.0) read.1

      none_has : (at : Option (List ℕ)) (bs : List (Block H)) → OneHas bytes_of (span_behind at) Up (λ e. false) bs → ⊥
      none_has at [] has = has
      none_has at (b ∷ bs) (inl here) =
          none_any (filter (is_behind at) here.0) (ap (list_any (λ e. false)) (sym (within-behind at here.0)) ∙ here.2)
      none_has at (b ∷ bs) (inr later) = none_has at bs later

      stands_whole : AreReadWhole bytes_of (t ∷ []) → StandsWhole bytes_of t
      stands_whole whole =
          let r = whole.rest.0 (ap (λ b. b && true) (is.rises whole.to)) in
          let stood : Stood whole.to = subst Stood (sym whole.on.ends) (all_steps None whole.on.keys begun whole.on.read) in
          unmapped Stands (index_of t)
          (ends_all Stands (ends_at whole.to) its r.read r.rest stood (sym (blocks_behind whole.to) ∙ r.parts) r.stood
          (elim r.met [
            | inl none ↦ none
            | inr has ↦ absurd (none_has whole.to r.read has)
          ]))

  -- ---- several

  heads : (t : Table H) (ts : List (Table H)) (at : Option (List ℕ)) (keys : List (List ℕ)) → InputsReadBy bytes_of at keys (t ∷ ts)
      → InputsReadBy bytes_of at keys (t ∷ [])
  heads t ts at [] read = tt
  heads t ts at (key ∷ keys) read = ((read.0.0, tt), heads t ts (Some key) keys read.1)

  tails : (t : Table H) (ts : List (Table H)) (at : Option (List ℕ)) (keys : List (List ℕ)) → InputsReadBy bytes_of at keys (t ∷ ts)
      → InputsReadBy bytes_of at keys ts
  tails t ts at [] read = tt
  tails t ts at (key ∷ keys) read = (read.0.1, tails t ts (Some key) keys read.1)

  -- Inputs that were read whole stand whole.
  pub all_stand : (ts : List (Table H)) → AreReadWhole bytes_of ts
      → AllByRecursion (λ t. HasTrueIndex bytes_of t → StandsWhole bytes_of t) ts
  all_stand [] whole = tt
  all_stand (t ∷ ts) whole = (
    λ is. stands_whole t is (record {
      to = whole.to;
      on = record { keys = whole.on.keys; ends = whole.on.ends; read = heads t ts None whole.on.keys whole.on.read };
      rest = (whole.rest.0, tt);
    }),
    all_stand ts (record {
      to = whole.to;
      on = record { keys = whole.on.keys; ends = whole.on.ends; read = tails t ts None whole.on.keys whole.on.read };
      rest = whole.rest.1;
    }),
  )
