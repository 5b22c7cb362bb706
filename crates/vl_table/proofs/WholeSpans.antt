-- A cursor over true tables has all their entries within its interval to give.
use Rattle.std.specs.Prelude.{◌≡◌, ◌+◌, ◌-◌, ◌≤◌, ◌&&◌, ℕ, zero, suc, min, not, Bool, true, false, List, [], ◌∷◌}
use Rattle.std.specs.Prelude.{◌++◌, Option, Some, None, drop, length, reverse, take}
use Rattle.std.specs.List.{AllByRecursion, prefix_len}
use Rattle.std.specs.Ordering.{is_lt}
use Rattle.std.specs.declared.cmp.Ordering.{Ordering}
use Rattle.std.specs.declared.cmp.Ordering.TheVariants.{Less, Equal, Greater}
use Rattle.std.proofs.Common.{cond, refl, ap, sym, subst, ◌∙◌, append_assoc, append-nil, arith}
use Rattle.std.proofs.lemmas.List.{reverse-append}
use Rattle.std.proofs.lemmas.List.Elements.{filter-append}
use Rattle.vl_model.specs.Entries.{entry_cmp}
use Rattle.vl_model.specs.Keys.{key_cmp}
use Rattle.vl_model.specs.Reads.{is_from, is_in_span, is_up_to}
use Rattle.vl_model.specs.declared.entry.Entry.{Entry}
use Rattle.vl_model.specs.declared.span.Span.{Span}
use Rattle.vl_model.specs.declared.way.Way.{Way}
use Rattle.vl_model.specs.declared.way.Way.TheVariants.{Up, Down}
use Rattle.vl_model.specs.Lookups.{IsParted}
use Rattle.vl_model.specs.EntryOrder.{within}
use Rattle.vl_model.specs.laws.LookupLaws.{all-back, all-front, rising-back, rising-front}
use Rattle.vl_model.specs.laws.OrderLaws.{IsBefore, IsRising}
use Rattle.vl_table.specs.body.Bytes.{block_places}
use Rattle.vl_model.specs.Cutting.{block_frame_length, first_key, joined, last_key}
use Rattle.vl_table.specs.declared.body.index.BlockPlace.{BlockPlace}
use Rattle.vl_table.specs.laws.Places.{length-block_places}
use Rattle.vl_table.specs.SpanBlocks.{blocks_of, ends_before, ends_within, rises_over}
use Rattle.vl_table.specs.Stretches.{on_way, stretch_of}
use Rattle.vl_table.specs.laws.KeyRanges.{all_map, below_up_to, keys_up, up_to_below}
use Rattle.vl_table.proofs.SpanParts.{parted_to}

-- ---- a test that passes of no key above one of which it fails

lt_less : (r : Ordering) → is_lt r ≡ true → r ≡ Less
lt_less Less is = refl
lt_less Equal is = absurd cc
lt_less Greater is = absurd cc

not_true : (b : Bool) → not b ≡ true → b ≡ false
not_true true is = absurd cc
not_true false is = refl

true_not : (b : Bool) → not b ≡ true → b ≡ true → ⊥
true_not true failed passed = cc
true_not false failed passed = cc

abbrev Falls : (List ℕ → Bool) → Type 0
Falls test = (e f : Entry) → entry_cmp e f ≡ Less → test f.key ≡ true → test e.key ≡ true

below_falls : (lo : Option (List ℕ)) → Falls (λ k. not (is_from lo k))
below_falls None e f less is = is
below_falls (Some low) e f less is =
    let f_low : is_lt (key_cmp f.key low) ≡ true = twice (is_lt (key_cmp f.key low)) is in
    ap (λ r. not (not (is_lt r))) (up_to_below e.key f.key low (keys_up e f less) (lt_less (key_cmp f.key low) f_low))
  where
    twice : (b : Bool) → not (not b) ≡ true → b ≡ true
    twice true is = refl
    twice false is = absurd cc

up_to_falls : (hi : Option (List ℕ)) (closed : Bool) → Falls (λ k. is_up_to hi closed k)
up_to_falls None closed e f less is = refl
up_to_falls (Some high) false e f less is =
    ap is_lt (up_to_below e.key f.key high (keys_up e f less) (lt_less (key_cmp f.key high) is))
up_to_falls (Some high) true e f less is = by (is_lt (key_cmp high e.key)) refl
  where
    by : (t : Bool) → is_lt (key_cmp high e.key) ≡ t → not (is_lt (key_cmp high e.key)) ≡ true
    by false at = ap not at
    by true at =
        let above : is_lt (key_cmp high f.key) ≡ true = ap is_lt
        (below_up_to high e.key f.key (lt_less (key_cmp high e.key) at) (keys_up e f less)) in
        absurd (true_not (is_lt (key_cmp high f.key)) is above)

-- ---- blocks of entries in order

module _ (test : List ℕ → Bool) (falls : Falls test) where
  -- where it passes of the last of some entries it passes of all
  all_up_to : (b : List Entry) → IsRising b → test (last_key b) ≡ true → AllByRecursion (λ e. test e.key ≡ true) b
  all_up_to [] rises is = tt
  all_up_to (e ∷ []) rises is = (is, tt)
  all_up_to (e ∷ f ∷ fs) rises is = let rest = all_up_to (f ∷ fs) rises.1 is in (falls e f rises.0.0 rest.0, rest)

  -- of what stands behind some entries it passes only where it does of their last
  all_behind : (b rest : List Entry) → 1 ≤ length b → IsRising (b ++ rest)
      → AllByRecursion (λ f. test f.key ≡ true → test (last_key b) ≡ true) rest
  all_behind [] rest some rises = absurd (omega arith)
  all_behind (e ∷ []) rest some rises = each rest rises.0
    where
      each : (fs : List Entry) → IsBefore e fs → AllByRecursion (λ f. test f.key ≡ true → test e.key ≡ true) fs
      each [] before = tt
      each (f ∷ fs) before = (falls e f before.0, each fs before.1)
  all_behind (e ∷ f ∷ fs) rest some rises = all_behind (f ∷ fs) rest (omega arith) rises.1

  of_last : (P : List ℕ → Type 0) (b : List Entry) → 1 ≤ length b → AllByRecursion (λ f. P f.key) b → P (last_key b)
  of_last P [] some all = absurd (omega arith)
  of_last P (e ∷ []) some all = all.0
  of_last P (e ∷ f ∷ fs) some all = of_last P (f ∷ fs) (omega arith) all.1

  of_blocks : (P : List ℕ → Type 0) (format at : ℕ) (bs : List (List Entry)) → AllByRecursion (λ b. 1 ≤ length b) bs
      → AllByRecursion (λ f. P f.key) (joined bs) → AllByRecursion (λ (p : BlockPlace). P p.last) (block_places format at bs)
  of_blocks P format at [] some all = tt
  of_blocks P format at (b ∷ bs) some all = (
    of_last P b some.0 (all-front (λ f. P f.key) b (joined bs) all),
    of_blocks P format (at + block_frame_length format b) bs some.1 (all-back (λ f. P f.key) b (joined bs) all),
  )

  index_parted : (format at : ℕ) (bs : List (List Entry)) → AllByRecursion (λ b. 1 ≤ length b) bs → IsRising (joined bs)
      → IsParted (λ (p : BlockPlace). test p.last) (block_places format at bs)
  index_parted format at [] some rises = tt
  index_parted format at (b ∷ bs) some rises = (
    of_blocks (λ k. test k ≡ true → test (last_key b) ≡ true) format (at + block_frame_length format b) bs some.1
        (all_behind b (joined bs) some.0 rises),
    index_parted format (at + block_frame_length format b) bs some.1 (rising-back b (joined bs) rises),
  )

pub index_rises : (span : Span) (format at : ℕ) (bs : List (List Entry)) → AllByRecursion (λ b. 1 ≤ length b) bs → IsRising (joined bs)
    → rises_over span (block_places format at bs) ≡ true
index_rises span format at bs some rises =
    both _ _ (parted_to (ends_before span) (block_places format at bs)
    (index_parted (λ k. not (is_from span.lo k)) (below_falls span.lo) format at bs some rises))
    (parted_to (ends_within span) (block_places format at bs)
    (index_parted (λ k. is_up_to span.hi span.closed k) (up_to_falls span.hi span.closed) format at bs some rises))
  where
    both : (a b : Bool) → a ≡ true → b ≡ true → a && b ≡ true
    both true b first second = second
    both false b first second = absurd cc

-- ---- blocks without keys of the interval

-- none of these has one
abbrev Outside : Span → List (List Entry) → Type 0
Outside span bs = AllByRecursion (λ b. within span b ≡ []) bs

none_within : (span : Span) (b : List Entry) → AllByRecursion (λ e. is_in_span span e.key ≡ false) b → within span b ≡ []
none_within span [] all = refl
none_within span (e ∷ b) all = ap (λ (t : Bool). cond t (e ∷ within span b) (within span b)) all.0 ∙ none_within span b all.1

short_out : (span : Span) (b : List Entry) → AllByRecursion (λ e. not (is_from span.lo e.key) ≡ true) b → within span b ≡ []
short_out span b all = none_within span b (each b all)
  where
    each : (b : List Entry) → AllByRecursion (λ e. not (is_from span.lo e.key) ≡ true) b
        → AllByRecursion (λ e. is_in_span span e.key ≡ false) b
    each [] all = tt
    each (e ∷ b) all = (ap (λ (t : Bool). t && is_up_to span.hi span.closed e.key) (not_true (is_from span.lo e.key) all.0), each b all.1)

past_out : (span : Span) (b : List Entry) → AllByRecursion (λ e. is_up_to span.hi span.closed e.key ≡ false) b → within span b ≡ []
past_out span b all = none_within span b (each b all)
  where
    and_false : (a : Bool) → a && false ≡ false
    and_false true = refl
    and_false false = refl

    each : (b : List Entry) → AllByRecursion (λ e. is_up_to span.hi span.closed e.key ≡ false) b
        → AllByRecursion (λ e. is_in_span span e.key ≡ false) b
    each [] all = tt
    each (e ∷ b) all = (ap (λ (t : Bool). is_from span.lo e.key && t) all.0 ∙ and_false (is_from span.lo e.key), each b all.1)

-- entries whose first one is above it
pub above_out : (span : Span) (es : List Entry) → IsRising es → is_up_to span.hi span.closed (first_key es) ≡ false → within span es ≡ []
above_out span [] rises is = refl
above_out span (e ∷ es) rises is =
    past_out span (e ∷ es) (
      is,
      all_map (λ f. entry_cmp e f ≡ Less) (λ f. is_up_to span.hi span.closed f.key ≡ false)
          (λ f less. fails (is_up_to span.hi span.closed f.key) (is_up_to span.hi span.closed e.key) is
          (up_to_falls span.hi span.closed e f less)) es rises.0,
    )
  where
    fails : (t b : Bool) → b ≡ false → (t ≡ true → b ≡ true) → t ≡ false
    fails true b is sends = let same = sends refl in cc
    fails false b is sends = refl

one_more : (n : ℕ) → 1 + n ≡ suc n
one_more n = omega arith

-- blocks that end before it
before_out : (span : Span) (format at : ℕ) (bs : List (List Entry)) → IsRising (joined bs)
    → Outside span (take (prefix_len (ends_before span) (block_places format at bs)) bs)
before_out span format at [] rises = tt
before_out span format at (b ∷ bs) rises =
    by (before_out span format (at + block_frame_length format b) bs (rising-back b (joined bs) rises))
    (not (is_from span.lo (last_key b))) refl
  where
    count : ℕ
    count = prefix_len (ends_before span) (block_places format (at + block_frame_length format b) bs)

    by : Outside span (take count bs) → (t : Bool) → not (is_from span.lo (last_key b)) ≡ t
        → Outside span (take (cond t (1 + count) 0) (b ∷ bs))
    by later true is =
        let here = short_out span b
        (all_up_to (λ k. not (is_from span.lo k)) (below_falls span.lo) b (rising-front b (joined bs) rises) is) in
        subst (λ (n : ℕ). Outside span (take n (b ∷ bs))) (sym (one_more count)) (here, later)
    by later false is = tt

each_out : (span : Span) (bs : List (List Entry)) → AllByRecursion (λ e. is_up_to span.hi span.closed e.key ≡ false)
    (joined bs) → Outside span bs
each_out span [] all = tt
each_out span (b ∷ bs) all =
    let front = all-front (λ e. is_up_to span.hi span.closed e.key ≡ false) b (joined bs) all in
    let back = all-back (λ e. is_up_to span.hi span.closed e.key ≡ false) b (joined bs) all in
    (past_out span b front, each_out span bs back)

-- blocks behind the first that ends above it
behind_out : (span : Span) (format at : ℕ) (bs : List (List Entry)) → AllByRecursion (λ b. 1 ≤ length b) bs → IsRising (joined bs)
    → Outside span (drop (prefix_len (ends_within span) (block_places format at bs) + 1) bs)
behind_out span format at [] some rises = subst (Outside span)
    (sym (nothing (prefix_len (ends_within span) (block_places format at []) + 1))) tt
  where
    nothing : (n : ℕ) → drop {A = List Entry} n [] ≡ []
    nothing zero = refl
    nothing (suc n) = refl
behind_out span format at (b ∷ bs) some rises =
    by (behind_out span format (at + block_frame_length format b) bs some.1 (rising-back b (joined bs) rises))
    (is_up_to span.hi span.closed (last_key b)) refl
  where
    count : ℕ
    count = prefix_len (ends_within span) (block_places format (at + block_frame_length format b) bs)

    two : (n : ℕ) → 1 + n + 1 ≡ suc (n + 1)
    two n = omega arith

    fails : (t : Bool) → (t ≡ true → is_up_to span.hi span.closed (last_key b) ≡ true)
        → is_up_to span.hi span.closed (last_key b) ≡ false → t ≡ false
    fails true sends is = let same = sends refl in cc
    fails false sends is = refl

    each : (fs : List Entry) → is_up_to span.hi span.closed (last_key b) ≡ false
        → AllByRecursion (λ f. is_up_to span.hi span.closed f.key ≡ true → is_up_to span.hi span.closed (last_key b) ≡ true) fs
        → AllByRecursion (λ f. is_up_to span.hi span.closed f.key ≡ false) fs
    each [] is all = tt
    each (f ∷ fs) is all = (fails (is_up_to span.hi span.closed f.key) all.0 is, each fs is all.1)

    by : Outside span (drop (count + 1) bs) → (t : Bool) → is_up_to span.hi span.closed (last_key b) ≡ t
        → Outside span (drop (cond t (1 + count) 0 + 1) (b ∷ bs))
    by later true is = subst (λ (n : ℕ). Outside span (drop n (b ∷ bs))) (sym (two count)) later
    by later false is =
        each_out span bs (each (joined bs) is
        (all_behind (λ k. is_up_to span.hi span.closed k) (up_to_falls span.hi span.closed) b (joined bs) some.0 rises))

-- ---- the blocks between

all_out : (span : Span) (bs : List (List Entry)) → Outside span bs → within span (joined bs) ≡ []
all_out span [] out = refl
all_out span (b ∷ bs) out = filter-append (λ e. is_in_span span e.key) b (joined bs) ∙ (λ i. out.0 i ++ all_out span bs out.1 i)

drop_out : (span : Span) (f : ℕ) (bs : List (List Entry)) → Outside span (take f bs)
    → within span (joined (drop f bs)) ≡ within span (joined bs)
drop_out span zero bs out = refl
drop_out span (suc f) [] out = refl
drop_out span (suc f) (b ∷ bs) out =
    drop_out span f bs out.1
    ∙ sym (filter-append (λ e. is_in_span span e.key) b (joined bs) ∙ ap (λ (l : List Entry). l ++ within span (joined bs)) out.0)

take_out : (span : Span) (n : ℕ) (bs : List (List Entry)) → Outside span (drop n bs)
    → within span (joined (take n bs)) ≡ within span (joined bs)
take_out span zero bs out = sym (all_out span bs out)
take_out span (suc n) [] out = refl
take_out span (suc n) (b ∷ bs) out =
    filter-append (λ e. is_in_span span e.key) b (joined (take n bs))
    ∙ ap (λ (l : List Entry). within span b ++ l) (take_out span n bs out)
    ∙ sym (filter-append (λ e. is_in_span span e.key) b (joined bs))

fewer_out : (span : Span) (f n : ℕ) (bs : List (List Entry)) → Outside span (take f bs) → Outside span (take f (take n bs))
fewer_out span zero n bs out = tt
fewer_out span (suc f) zero bs out = tt
fewer_out span (suc f) (suc n) [] out = tt
fewer_out span (suc f) (suc n) (b ∷ bs) out = (out.0, fewer_out span f n bs out.1)

-- a stretch is what a front has behind a shorter one
stretch_cut : (first end : ℕ) (bs : List (List Entry)) → take (end - first) (drop first bs) ≡ drop first (take end bs)
stretch_cut zero end bs = let same : end - 0 ≡ end = omega arith in ap (λ (n : ℕ). take n bs) same
stretch_cut (suc first) zero bs = let none : 0 - suc first ≡ 0 = omega arith in ap (λ (n : ℕ). take n (drop (suc first) bs)) none
stretch_cut (suc first) (suc end) [] = by (suc end - suc first)
  where
    by : (n : ℕ) → take {A = List Entry} n [] ≡ []
    by zero = refl
    by (suc n) = refl
stretch_cut (suc first) (suc end) (b ∷ bs) =
    let same : suc end - suc first ≡ end - first = omega arith in
    ap (λ (n : ℕ). take n (drop first bs)) same ∙ stretch_cut first end bs

at_most : (span : Span) (n count : ℕ) (bs : List (List Entry)) → count ≡ length bs → Outside span (drop n bs)
    → Outside span (drop (min n count) bs)
at_most span zero count bs is out = let same : min 0 count ≡ 0 = omega arith in subst (λ (m : ℕ). Outside span (drop m bs)) (sym same) out
at_most span (suc n) zero bs is out = let same : min (suc n) 0 ≡ 0 = omega arith in subst
    (λ (m : ℕ). Outside span (drop m bs)) (sym same) (nothing bs (sym is))
  where
    nothing : (bs : List (List Entry)) → length bs ≡ 0 → Outside span bs
    nothing [] none = tt
    nothing (b ∷ bs) none = absurd (omega arith)
at_most span (suc n) (suc count) [] is out = absurd (omega arith)
at_most span (suc n) (suc count) (b ∷ bs) is out =
    let same : min (suc n) (suc count) ≡ suc (min n count) = omega arith in
    subst (λ (m : ℕ). Outside span (drop m (b ∷ bs))) (sym same) (at_most span n count bs (omega arith) out)

pub span_blocks : (span : Span) (format at : ℕ) (bs : List (List Entry)) → AllByRecursion (λ b. 1 ≤ length b) bs → IsRising (joined bs)
    → within span (joined (stretch_of (blocks_of span (block_places format at bs)) bs)) ≡ within span (joined bs)
span_blocks span format at bs some rises =
    let ps = block_places format at bs in
    let first = prefix_len (ends_before span) ps in
    let end = min (prefix_len (ends_within span) ps + 1) (length ps) in
    ap (λ (l : List (List Entry)). within span (joined l)) (stretch_cut first end bs)
    ∙ drop_out span first (take end bs) (fewer_out span first end bs (before_out span format at bs rises))
    ∙ take_out span end bs (at_most span (prefix_len (ends_within span) ps + 1) (length ps) bs
    (length-block_places format at bs) (behind_out span format at bs some rises))

-- ---- both ways

within_reverse : (span : Span) (es : List Entry) → within span (reverse es) ≡ reverse (within span es)
within_reverse span [] = refl
within_reverse span (e ∷ es) =
    ap (within span) (reverse-append (e ∷ []) es)
    ∙ filter-append (λ f. is_in_span span f.key) (reverse es) (e ∷ [])
    ∙ ap (λ (l : List Entry). l ++ within span (e ∷ [])) (within_reverse span es)
    ∙ by (is_in_span span e.key)
  where
    by : (t : Bool) → reverse (within span es) ++ cond t (e ∷ []) [] ≡ reverse (cond t (e ∷ within span es) (within span es))
    by true = sym (reverse-append (e ∷ []) (within span es))
    by false = append-nil (reverse (within span es))

pub within_way : (span : Span) (way : Way) (es : List Entry) → within span (on_way way es) ≡ on_way way (within span es)
within_way span Up es = refl
within_way span Down es = within_reverse span es

-- of lists each as a way goes through it what is in the interval
abbrev pub flat : Span → Way → List (List Entry) → List Entry
flat span way [] = []
flat span way (c ∷ cs) = within span (on_way way c) ++ flat span way cs

flat-append : (span : Span) (way : Way) (cs ds : List (List Entry)) → flat span way (cs ++ ds) ≡ flat span way cs ++ flat span way ds
flat-append span way [] ds = refl
flat-append span way (c ∷ cs) ds =
    ap (λ (l : List Entry). within span (on_way way c) ++ l) (flat-append span way cs ds)
    ∙ sym (append_assoc (within span (on_way way c)) (flat span way cs) (flat span way ds))

pub flat_way : (span : Span) (way : Way) (cs : List (List Entry)) → flat span way (on_way way cs) ≡ within span (on_way way (joined cs))
flat_way span Up [] = refl
flat_way span Up (c ∷ cs) =
    ap (λ (l : List Entry). within span c ++ l) (flat_way span Up cs) ∙ sym (filter-append (λ e. is_in_span span e.key) c (joined cs))
flat_way span Down [] = refl
flat_way span Down (c ∷ cs) =
    ap (flat span Down) (reverse-append (c ∷ []) cs)
    ∙ flat-append span Down (reverse cs) (c ∷ [])
    ∙ (λ i. flat_way span Down cs i ++ append-nil (within span (reverse c)) i)
    ∙ sym (filter-append (λ e. is_in_span span e.key) (reverse (joined cs)) (reverse c))
    ∙ ap (within span) (sym (reverse-append c (joined cs)))
