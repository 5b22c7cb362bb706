-- Of entries that are lawful and in order there is a table, where it isn't longer than four bytes can say.
use Rattle.std.specs.Prelude.{◌≡◌, Bool, true, false, Some, None, suc, ◌+◌, ◌*◌, ◌≤◌, ◌<◌, ◌^◌, ℕ, List, [], ◌∷◌, length}
use Rattle.std.specs.List.{AllByRecursion, sum_by}
use Rattle.std.proofs.Common.{cond, ap, sym, subst, ⊎_elim, length-append, arith}
use Rattle.std.proofs.lemmas.List.Sums.{sum_by-cons}
use Rattle.vl_frame.specs.laws.Laws.{length-frame_bytes}
use Rattle.vl_frame.specs.declared.kinds.FrameKind.TheVariants as kinds
use Rattle.std.specs.Ordering.{eq_by_cmp}
use Rattle.vl_model.specs.Keys.{is_key_length, key_cmp}
use Rattle.vl_model.specs.declared.entry.Entry.{Entry}
use Rattle.vl_model.specs.declared.entry.Body.{Body}
use Rattle.vl_model.specs.declared.entry.Body.TheVariants.{Inline, Gone, Far, Logged}
use Rattle.vl_model.specs.laws.CuttingLaws.{blocks-whole, blocks-some}
use Rattle.vl_model.specs.Cutting.{joined, block_frame_length, blocks, entry_length, filter_frame_length, first_key}
use Rattle.vl_model.specs.Cutting.{keys_of, last_key, pointed, points_of, table_length, with_key, with_point}
use Rattle.vl_table.proofs.PointLaws.{pointed-above, pointed-below, pointed-same, three_ways}
use Rattle.vl_model.specs.declared.point.Point.{Point}
use Rattle.vl_model.specs.EntryOrder.{IsInOrder}
use Rattle.vl_model.specs.laws.OrderLaws.{IsRising, rising}
use Rattle.vl_table.specs.body.Blocks.{IsBlock, block_body, entries}
use Rattle.vl_table.specs.body.Entries.{IsBody, IsEntry}
use Rattle.vl_model.specs.Formats.{has_filter}
use Rattle.vl_table.specs.body.Footer.{IsFramePlace, IsPoint, footer_body, points}
use Rattle.vl_table.specs.body.Index.{IsPlace, index_body, places}
use Rattle.vl_table.specs.body.Lists.{AreOrdered, IsInFront}
use Rattle.vl_table.specs.declared.body.index.BlockPlace.{BlockPlace}
use Rattle.vl_table.specs.body.Bytes.{AreTabled, block_places, foot, filter_place, footer_place, greatest_version, index_place, IsTable}
use Rattle.vl_table.specs.laws.Lengths.{length-block_body, length-footer, length-index}
use Rattle.vl_model.specs.laws.LookupLaws.{all-back, all-front, rising-back, rising-front}
use Rattle.vl_table.specs.laws.Places.{length-block_places}

module _ (format : ℕ) where
  -- ---- blocks

  ordered-entries : (b : List Entry) → IsRising b → AreOrdered (entries format) b
  ordered-entries [] rising = tt
  ordered-entries (e ∷ []) rising = (tt, tt)
  ordered-entries (e ∷ f ∷ fs) rising = (rising.0.0, ordered-entries (f ∷ fs) rising.1)

  counted-entries : (b : List Entry) → length b ≤ sum_by (entry_length format) b
  counted-entries [] = omega arith
  counted-entries (e ∷ es) = omega (arith, sum_by-cons (entry_length format) e es, counted-entries es)

  lawful-block : (b : List Entry) → AllByRecursion (IsEntry format) b → IsRising b → block_frame_length format b < 2 ^ 32 → IsBlock format b
  lawful-block b each rising small = record {
    few = omega (arith, counted-entries b, small);
    each = each;
    ordered = ordered-entries b rising;
  }

  lawful-blocks : (bs : List (List Entry)) → AllByRecursion (IsEntry format) (joined bs) → IsRising (joined bs)
      → sum_by (block_frame_length format) bs < 2 ^ 32
      → AllByRecursion (IsBlock format) bs
  lawful-blocks [] each rising small = tt
  lawful-blocks (b ∷ bs) each rising small = (
    lawful-block b (all-front (IsEntry format) b (joined bs) each) (rising-front b (joined bs) rising)
        (omega (arith, small, sum_by-cons (block_frame_length format) b bs)),
    lawful-blocks bs (all-back (IsEntry format) b (joined bs) each) (rising-back b (joined bs) rising)
        (omega (arith, small, sum_by-cons (block_frame_length format) b bs)),
  )

  short-blocks : (bs : List (List Entry)) → sum_by (block_frame_length format) bs < 2 ^ 32
      → AllByRecursion (λ b. length (block_body format b) < 2 ^ 32) bs
  short-blocks [] small = tt
  short-blocks (b ∷ bs) small = (
    omega (arith, small, sum_by-cons (block_frame_length format) b bs, length-block_body format b),
    short-blocks bs (omega (arith, small, sum_by-cons (block_frame_length format) b bs)),
  )

  -- ---- the index

  last-lawful : (b : List Entry) → 1 ≤ length b → AllByRecursion (IsEntry format) b → is_key_length (length (last_key b)) ≡ true
  last-lawful [] some each = absurd (omega arith)
  last-lawful (e ∷ []) some each = each.0.key
  last-lawful (e ∷ f ∷ fs) some each = last-lawful (f ∷ fs) (omega arith) each.1

  lawful-places : (at : ℕ) (bs : List (List Entry)) → AllByRecursion (λ b. 1 ≤ length b) bs
      → AllByRecursion (IsEntry format) (joined bs) → at + sum_by (block_frame_length format) bs < 2 ^ 32
      → AllByRecursion IsPlace (block_places format at bs)
  lawful-places at [] some each small = tt
  lawful-places at (b ∷ bs) some each small = (
    record {
      place = omega (arith, small);
      size = omega (arith, small, sum_by-cons (block_frame_length format) b bs);
      last = last-lawful b some.0 (all-front (IsEntry format) b (joined bs) each);
    },
    lawful-places (at + block_frame_length format b) bs some.1 (all-back (IsEntry format) b (joined bs) each)
        (omega (arith, small, sum_by-cons (block_frame_length format) b bs)),
  )

  ordered-places : (ps : List BlockPlace) → AreOrdered places ps
  ordered-places [] = tt
  ordered-places (p ∷ []) = (tt, tt)
  ordered-places (p ∷ q ∷ ps) = (tt, ordered-places (q ∷ ps))

  counted-blocks : (bs : List (List Entry)) → length bs ≤ sum_by (block_frame_length format) bs
  counted-blocks [] = omega arith
  counted-blocks (b ∷ bs) = omega (arith, sum_by-cons (block_frame_length format) b bs, counted-blocks bs)

  counted-joined : (bs : List (List Entry)) → length (joined bs) ≤ sum_by (block_frame_length format) bs
  counted-joined [] = omega arith
  counted-joined (b ∷ bs) = omega
      (arith, length-append b (joined bs), counted-entries b, sum_by-cons (block_frame_length format) b bs, counted-joined bs)

  -- ---- the footer

  first-lawful : (es : List Entry) → 1 ≤ length es → AllByRecursion (IsEntry format) es → is_key_length (length (first_key es)) ≡ true
  first-lawful [] some each = absurd (omega arith)
  first-lawful (e ∷ es) some each = each.0.key

  greatest-lawful : (es : List Entry) → AllByRecursion (IsEntry format) es → greatest_version es < 2 ^ 64
  greatest-lawful [] each = omega arith
  greatest-lawful (e ∷ es) each = omega (arith, each.0.version, greatest-lawful es each.1)

  -- ---- points

  -- rising segments that have room, and sums of at most so many lengths
  pub record AreSums (n : ℕ) (ps : List Point) : Type 0 where
    pub each : AllByRecursion (λ (p : Point). (p.segment < 2 ^ 32) × (p.bytes ≤ n * 4294967296)) ps
    pub ordered : AreOrdered points ps

  more-each : (n : ℕ) (ps : List Point) → AllByRecursion (λ (p : Point). (p.segment < 2 ^ 32) × (p.bytes ≤ n * 4294967296)) ps
      → AllByRecursion (λ (p : Point). (p.segment < 2 ^ 32) × (p.bytes ≤ (n + 1) * 4294967296)) ps
  more-each n [] each = tt
  more-each n (p ∷ ps) each = ((each.0.0, omega (arith, each.0.1)), more-each n ps each.1)

  module _ (n segment bytes : ℕ) (fits : segment < 2 ^ 32) (few : bytes < 2 ^ 32) where
    pointed-each : (ps : List Point) → AllByRecursion (λ (p : Point). (p.segment < 2 ^ 32) × (p.bytes ≤ n * 4294967296)) ps
        → AllByRecursion (λ (p : Point). (p.segment < 2 ^ 32) × (p.bytes ≤ (n + 1) * 4294967296)) (pointed segment bytes ps)
    pointed-each [] each = ((fits, omega arith), tt)
    pointed-each (p ∷ ps) each =
        let P = λ (l : List Point). AllByRecursion (λ (q : Point). (q.segment < 2 ^ 32) × (q.bytes ≤ (n + 1) * 4294967296)) l in
        let rest = more-each n ps each.1 in
        let later = pointed-each ps each.1 in
        ⊎_elim (λ (below : segment < p.segment). subst P (sym (pointed-below segment bytes p ps below))
        ((fits, omega arith), ((each.0.0, omega (arith, each.0.1)), rest)))
        (⊎_elim (λ (same : segment ≡ p.segment). subst P (sym (pointed-same segment bytes p ps same))
        ((each.0.0, omega (arith, each.0.1)), rest))
        (λ (above : p.segment < segment). subst P (sym (pointed-above segment bytes p ps above))
        ((each.0.0, omega (arith, each.0.1)), later)))
        (three_ways segment p.segment)

    -- the first of them lies behind what lay in front of the others
    front : (d : Point) (ps : List Point) → d.segment < segment → IsInFront points d ps
        → IsInFront points d (pointed segment bytes ps)
    front d [] less before = less
    front d (p ∷ ps) less before =
        let P = λ (l : List Point). IsInFront points d l in
        ⊎_elim (λ (below : segment < p.segment). subst P (sym (pointed-below segment bytes p ps below)) less)
        (⊎_elim (λ (same : segment ≡ p.segment). subst P (sym (pointed-same segment bytes p ps same)) before)
        (λ (above : p.segment < segment). subst P (sym (pointed-above segment bytes p ps above)) before))
        (three_ways segment p.segment)

    merged-front : (p : Point) (sum : ℕ) (ps : List Point) → IsInFront points p ps
        → IsInFront points (record { segment = p.segment; bytes = sum }) ps
    merged-front p sum [] before = tt
    merged-front p sum (q ∷ ps) before = before

    pointed-ordered : (ps : List Point) → AreOrdered points ps → AreOrdered points (pointed segment bytes ps)
    pointed-ordered [] ordered = (tt, tt)
    pointed-ordered (p ∷ ps) ordered =
        let P = λ (l : List Point). AreOrdered points l in
        let later = pointed-ordered ps ordered.1 in
        ⊎_elim (λ (below : segment < p.segment). subst P (sym (pointed-below segment bytes p ps below)) (below, ordered))
        (⊎_elim (λ (same : segment ≡ p.segment). subst P (sym (pointed-same segment bytes p ps same))
        (merged-front p (p.bytes + bytes) ps ordered.0, ordered.1))
        (λ (above : p.segment < segment). subst P (sym (pointed-above segment bytes p ps above)) (front p ps above ordered.0, later)))
        (three_ways segment p.segment)

  with-sums : (n : ℕ) (body : Body) (ps : List Point) → IsBody format body → AreSums n ps → AreSums (n + 1) (with_point body ps)
  with-sums n (Inline v) ps lawful sums = record { each = more-each n ps sums.each; ordered = sums.ordered }
  with-sums n Gone ps lawful sums = record { each = more-each n ps sums.each; ordered = sums.ordered }
  with-sums n (Logged v p) ps lawful sums = absurd lawful
  with-sums n (Far p) ps lawful sums = record {
    each = pointed-each n p.segment p.length lawful.segment lawful.length ps sums.each;
    ordered = pointed-ordered n p.segment p.length lawful.segment lawful.length ps sums.ordered;
  }

  pub points-sums : (es : List Entry) → AllByRecursion (IsEntry format) es → AreSums (length es) (points_of es)
  points-sums [] each = record { each = tt; ordered = tt }
  points-sums (e ∷ es) each = subst (λ (n : ℕ). AreSums n (points_of (e ∷ es))) (one_more (length es))
      (with-sums (length es) e.body (points_of es) each.0.body (points-sums es each.1))
    where
      one_more : (n : ℕ) → n + 1 ≡ suc n
      one_more n = omega arith

  fitting : (n : ℕ) (ps : List Point) → n < 2 ^ 32
      → AllByRecursion (λ (p : Point). (p.segment < 2 ^ 32) × (p.bytes ≤ n * 4294967296)) ps
      → AllByRecursion IsPoint ps
  fitting n [] small each = tt
  fitting n (p ∷ ps) small each = (record { segment = each.0.0; bytes = omega (arith, small, each.0.1) }, fitting n ps small each.1)

  -- ---- the filter

  -- each entry takes eleven bytes at least
  entries-long : (b : List Entry) → 11 * length b ≤ sum_by (entry_length format) b
  entries-long [] = omega arith
  entries-long (e ∷ es) = omega (arith, sum_by-cons (entry_length format) e es, entries-long es)

  blocks-long : (bs : List (List Entry)) → 11 * length (joined bs) ≤ sum_by (block_frame_length format) bs
  blocks-long [] = omega arith
  blocks-long (b ∷ bs) = omega
      (arith, length-append b (joined bs), entries-long b, sum_by-cons (block_frame_length format) b bs, blocks-long bs)

  few-keys : (es : List Entry) → length (keys_of es) ≤ length es
  few-keys [] = omega arith
  few-keys (e ∷ es) = omega (arith, few-keys es, one_more e.key (keys_of es))
    where
      by : (t : Bool) (key k : List ℕ) (ks : List (List ℕ)) → length (cond t (k ∷ ks) (key ∷ k ∷ ks)) ≤ length (k ∷ ks) + 1
      by true key k ks = omega arith
      by false key k ks = omega arith

      one_more : (key : List ℕ) (ks : List (List ℕ)) → length (with_key key ks) ≤ length ks + 1
      one_more key [] = omega arith
      one_more key (k ∷ ks) = by (eq_by_cmp key_cmp key k) key k ks

  said-lawful : (t : Bool) (place size : ℕ) → place < 2 ^ 64 → size < 2 ^ 32
      → IsFramePlace t (cond t (Some (record { place = place; length = size })) None)
  said-lawful true place size fits few = (fits, few)
  said-lawful false place size fits few = tt

  -- ---- the whole

  pub has_table : (number : ℕ) (es : List Entry) → number < 2 ^ 32 → AreTabled format es → table_length format es < 2 ^ 32
      → IsTable format number es
  has_table number es numbered tabled small =
      let bs = blocks format es in
      let whole = blocks-whole format es in
      let each = subst (AllByRecursion (IsEntry format)) (sym whole) tabled.each in
      let ordered = rising (joined bs) (subst IsInOrder (sym whole) tabled.ordered) in
      let framed : sum_by (block_frame_length format) bs < 2 ^ 32 = omega (arith, small) in
      let counted : length es ≤ sum_by (block_frame_length format) bs = omega (arith, counted-joined bs, ap length whole) in
      let sums = points-sums es tabled.each in
      record {
        tabled = tabled;
        numbered = numbered;
        each = lawful-blocks bs each ordered framed;
        short = short-blocks bs framed;
        index = record {
          few = omega (arith, counted-blocks bs, length-block_places format 16 bs, framed);
          each = lawful-places 16 bs (blocks-some format es) each (omega (arith, small));
          ordered = ordered-places (block_places format 16 bs);
        };
        index_short = omega (
          arith,
          small,
          length-index format number bs,
          length-frame_bytes number
              (index_place format bs) kinds.Index (index_body (block_places format 16 bs)),
        );
        filter_short = λ some. omega (arith, small, blocks-long bs, ap length whole, few-keys es);
        head = record {
          filter = said-lawful (has_filter format) (filter_place format bs) (filter_frame_length format es)
              (omega (arith, small)) (omega (arith, small));
          index_place = omega (arith, small);
          index_length = omega (arith, small);
          count = omega (arith, counted, framed);
          greatest = greatest-lawful es tabled.each;
          first = first-lawful es tabled.some tabled.each;
          last = last-lawful es tabled.some tabled.each;
        };
        points = record {
          few = omega (arith, small);
          each = fitting (length es) (points_of es) (omega (arith, counted, framed)) sums.each;
          ordered = sums.ordered;
        };
        footer_short = omega (
          arith,
          small,
          length-footer format number es bs,
          length-frame_bytes number
              (footer_place format es bs) kinds.Footer (footer_body (foot format es bs)),
        );
        place = omega (arith, small);
      }
