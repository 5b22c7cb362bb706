-- What a cursor over true tables is told of their blocks.
use Rattle.std.specs.Prelude.{◌≡◌, ◌+◌, ◌-◌, ◌&&◌, ℕ, zero, suc, Bool, true, false, Option, Some, None, List, [], ◌∷◌}
use Rattle.std.specs.Prelude.{◌++◌, drop, length, map, reverse, take}
use Rattle.std.specs.List.{sum_by}
use Rattle.std.specs.Option.{option_and_then, option_map}
use Rattle.std.proofs.Common.{cond, refl, ap, sym, subst, ◌∙◌, append_assoc, arith}
use Rattle.std.proofs.lemmas.List.{reverse-append, take_all}
use Rattle.std.proofs.lemmas.List.Sums.{sum_by-cons}
use Rattle.vl_model.specs.Reads.{is_up_to}
use Rattle.vl_model.specs.declared.entry.Entry.{Entry}
use Rattle.vl_model.specs.declared.span.Span.{Span}
use Rattle.vl_model.specs.declared.way.Way.{Way}
use Rattle.vl_model.specs.declared.way.Way.TheVariants.{Up, Down}
use Rattle.vl_model.specs.EntryOrder.{IsInOrder, along, within}
use Rattle.vl_model.specs.laws.OrderLaws.{rising}
use Rattle.vl_table.specs.body.Bytes.{IsTable, block_places, table_bytes}
use Rattle.vl_model.specs.Cutting.{block_frame_length, blocks, joined, last_key}
use Rattle.vl_table.specs.declared.body.index.BlockPlace.{BlockPlace}
use Rattle.vl_model.specs.laws.CuttingLaws.{blocks-some, blocks-whole}
use Rattle.vl_table.specs.CursorParts.{Block, blocks_at, blocks_over, entries_told, index_of, rise_over}
use Rattle.vl_table.specs.OfTables.{AreOf}
use Rattle.vl_table.specs.SpanBlocks.{blocks_in, blocks_of, no_blocks, rises_over}
use Rattle.vl_table.specs.Standing.{standing_entries}
use Rattle.vl_table.specs.Stretches.{on_way, stretch_of}
use Rattle.vl_table.specs.Tables.{IsOf, number_of, shape_of}
use Rattle.vl_table.specs.declared.table.Table.{Table}
use Rattle.vl_table.specs.declared.stretch.Stretch.{Stretch}
use Rattle.vl_table.specs.laws.RangeLaws.{first_is, in_order}
use Rattle.vl_table.specs.laws.TrueBlocks.{block_stands}
use Rattle.vl_table.proofs.CursorSteps.{none_at}
use Rattle.vl_table.proofs.StandingBlocks.{standing-says}
use Rattle.vl_table.proofs.WholeSpans.{above_out, flat, flat_way, index_rises, span_blocks, within_way}

-- ---- what the bytes say of blocks

-- these blocks have these entries, as far as they stand
abbrev AreSaid : ℕ → ℕ → List ℕ → List BlockPlace → List (List Entry) → Type 0
AreSaid format number bytes [] [] = Unit {0}
AreSaid format number bytes [] (b ∷ bs) = ⊥
AreSaid format number bytes (p ∷ ps) [] = ⊥
AreSaid format number bytes (p ∷ ps) (b ∷ bs) = (standing_entries format number bytes p ≡ b) × AreSaid format number bytes ps bs

module _ (format number : ℕ) (bytes : List ℕ) where
  said_take : (n : ℕ) (ps : List BlockPlace) (bs : List (List Entry)) → AreSaid format number bytes ps bs
      → AreSaid format number bytes (take n ps) (take n bs)
  said_take zero ps bs said = tt
  said_take (suc n) [] [] said = tt
  said_take (suc n) [] (b ∷ bs) said = said
  said_take (suc n) (p ∷ ps) [] said = said
  said_take (suc n) (p ∷ ps) (b ∷ bs) said = (said.0, said_take n ps bs said.1)

  said_drop : (n : ℕ) (ps : List BlockPlace) (bs : List (List Entry)) → AreSaid format number bytes ps bs
      → AreSaid format number bytes (drop n ps) (drop n bs)
  said_drop zero ps bs said = said
  said_drop (suc n) [] [] said = tt
  said_drop (suc n) [] (b ∷ bs) said = absurd said
  said_drop (suc n) (p ∷ ps) [] said = absurd said
  said_drop (suc n) (p ∷ ps) (b ∷ bs) said = said_drop n ps bs said.1

  said_append : (ps qs : List BlockPlace) (bs cs : List (List Entry)) → AreSaid format number bytes ps bs
      → AreSaid format number bytes qs cs → AreSaid format number bytes (ps ++ qs) (bs ++ cs)
  said_append [] qs [] cs first second = second
  said_append [] qs (b ∷ bs) cs first second = absurd first
  said_append (p ∷ ps) qs [] cs first second = absurd first
  said_append (p ∷ ps) qs (b ∷ bs) cs first second = (first.0, said_append ps qs bs cs first.1 second)

  said_reverse : (ps : List BlockPlace) (bs : List (List Entry)) → AreSaid format number bytes ps bs
      → AreSaid format number bytes (reverse ps) (reverse bs)
  said_reverse [] [] said = tt
  said_reverse [] (b ∷ bs) said = absurd said
  said_reverse (p ∷ ps) [] said = absurd said
  said_reverse (p ∷ ps) (b ∷ bs) said =
      subst (λ (l : List BlockPlace). AreSaid format number bytes l (reverse (b ∷ bs))) (sym (reverse-append (p ∷ []) ps))
      (subst (λ (l : List (List Entry)). AreSaid format number bytes (reverse ps ++ p ∷ []) l) (sym (reverse-append (b ∷ []) bs))
      (said_append (reverse ps) (p ∷ []) (reverse bs) (b ∷ []) (said_reverse ps bs said.1) (said.0, tt)))

  said_way : (way : Way) (ps : List BlockPlace) (bs : List (List Entry)) → AreSaid format number bytes ps bs
      → AreSaid format number bytes (on_way way ps) (on_way way bs)
  said_way Up ps bs said = said
  said_way Down ps bs said = said_reverse ps bs said

-- those of a true table have its entries
said_all : (format number : ℕ) (es : List Entry) (at : ℕ) (front back : List (List Entry)) → IsTable format number es
    → blocks format es ≡ front ++ back
    → at ≡ 16 + sum_by (block_frame_length format) front → AreSaid format number (table_bytes format number es) (block_places format at back) back
said_all format number es at front [] is split here = tt
said_all format number es at front (b ∷ back) is split here =
    let p : BlockPlace = record { place = at; length = block_frame_length format b; last = last_key b } in
    let stands = block_stands format number es (length front) p is
    (record { front = front; block = b; back = back; split = split; counted = refl; place = here; length = refl; last = refl }) in (
      standing-says format number (table_bytes format number es) p b stands,
      said_all format number es (at + block_frame_length format b) (front ++ b ∷ []) back is
          (split ∙ sym (append_assoc front (b ∷ []) back)) (omega (arith, here, behind front b)),
    )
  where
    behind : (front : List (List Entry)) (b : List Entry)
        → sum_by (block_frame_length format) (front ++ b ∷ []) ≡ sum_by (block_frame_length format) front + block_frame_length format b
    behind [] b = omega (arith, sum_by-cons (block_frame_length format) b [])
    behind (a ∷ front) b = omega
        (arith, behind front b, sum_by-cons (block_frame_length format) a front, sum_by-cons (block_frame_length format) a (front ++ b ∷ []))

-- ---- tables

module _ {H : Type 0} (bytes_of : H → Option (List ℕ)) (span : Span) (way : Way) where
  -- in front of what is told of others
  told_front : (t : Table H) (bytes : List ℕ) (ps : List BlockPlace) (bs : List (List Entry)) (others : List (Block H))
      → bytes_of t.held ≡ Some bytes
      → AreSaid (shape_of t).format (number_of t) bytes ps bs
      → entries_told bytes_of span way (map (λ p. (t, p)) ps ++ others) ≡ option_map
      (λ later. flat span way bs ++ later) (entries_told bytes_of span way others)
  told_front t bytes [] [] others told said = same (entries_told bytes_of span way others)
    where
      same : (o : Option (List Entry)) → o ≡ option_map (λ (later : List Entry). later) o
      same None = refl
      same (Some later) = refl
  told_front t bytes [] (b ∷ bs) others told said = absurd said
  told_front t bytes (p ∷ ps) [] others told said = absurd said
  told_front t bytes (p ∷ ps) (b ∷ bs) others told said =
      ap (option_and_then (λ x. option_map
      (λ later. within span (on_way way (standing_entries (shape_of t).format (number_of t) x p)) ++ later)
      (entries_told bytes_of span way (map (λ q. (t, q)) ps ++ others)))) told
      ∙ (λ i. option_map (λ later. within span (on_way way (said.0 i)) ++ later) (told_front t bytes ps bs others told said.1 i))
      ∙ twice (entries_told bytes_of span way others)
    where
      twice : (o : Option (List Entry))
          → option_map (λ later. within span (on_way way b) ++ later) (option_map (λ later. flat span way bs ++ later) o)
          ≡ option_map (λ later. (within span (on_way way b) ++ flat span way bs) ++ later) o
      twice None = refl
      twice (Some later) = ap Some (sym (append_assoc (within span (on_way way b)) (flat span way bs) later))

  -- of one true table, of the blocks that its index names
  told_index : (t : Table H) (es : List Entry) (others : List (Block H)) → IsOf bytes_of t es
      → entries_told bytes_of span way (blocks_at way (Some t) (blocks_of span (index_of t)) ++ others)
      ≡ option_map (λ later. within span (on_way way es) ++ later) (entries_told bytes_of span way others)
  told_index t es others is =
      let s = shape_of t in
      let format = s.format in
      let bytes = table_bytes format (number_of t) es in
      let bs = blocks format es in
      let ps = block_places format 16 bs in
      let range = blocks_of span ps in
      let said = said_all format (number_of t) es 16 [] bs is.shape.table refl (omega arith) in
      let part = said_way format (number_of t) bytes way (stretch_of range ps) (stretch_of range bs)
      (said_take format (number_of t) bytes (range.end - range.first) (drop range.first ps) (drop range.first bs)
      (said_drop format (number_of t) bytes range.first ps bs said)) in
      let whole = blocks-whole format es in
      let rises = rising (joined bs) (subst IsInOrder (sym whole) is.shape.table.tabled.ordered) in
      let same : flat span way (on_way way (stretch_of range bs)) ≡ within span (on_way way es) =
      flat_way span way (stretch_of range bs) ∙ within_way span way (joined (stretch_of range bs))
      ∙ ap (on_way way) (span_blocks span format 16 bs (blocks-some format es) rises ∙ ap (within span) whole)
      ∙ sym (within_way span way es) in
      ap (λ (l : List BlockPlace). entries_told bytes_of span way
      (map (λ p. (t, p)) (on_way way (stretch_of (blocks_of span l) l)) ++ others)) is.shape.blocks
      ∙ told_front t bytes (on_way way (stretch_of range ps)) (on_way way (stretch_of range bs)) others is.told part
      ∙ ap (λ (l : List Entry). option_map (λ later. l ++ later) (entries_told bytes_of span way others)) same

  no_entries : (way : Way) → on_way {X = Entry} way [] ≡ []
  no_entries Up = refl
  no_entries Down = refl

  -- where it begins above the interval it has none to tell
  told_table : (t : Table H) (es : List Entry) (others : List (Block H)) → IsOf bytes_of t es
      → entries_told bytes_of span way (blocks_at way (Some t) (blocks_in span (shape_of t)) ++ others)
      ≡ option_map (λ later. within span (on_way way es) ++ later) (entries_told bytes_of span way others)
  told_table t es others is = by (is_up_to span.hi span.closed (shape_of t).footer.first) refl
    where
      same : (o : Option (List Entry)) → o ≡ option_map (λ (later : List Entry). later) o
      same None = refl
      same (Some later) = refl

      by : (b : Bool) → is_up_to span.hi span.closed (shape_of t).footer.first ≡ b
          → entries_told bytes_of span way (blocks_at way (Some t) (cond {A = Stretch} b (blocks_of span (index_of t)) no_blocks) ++ others)
          ≡ option_map (λ later. within span (on_way way es) ++ later) (entries_told bytes_of span way others)
      by true up = told_index t es others is
      by false up =
          let first = ap (is_up_to span.hi span.closed) (sym (first_is (number_of t) (shape_of t) es is.shape)) ∙ up in
          let none : within span (on_way way es) ≡ [] =
          within_way span way es ∙ ap (on_way way)
          (above_out span es (in_order (number_of t) (shape_of t) es is.shape) first) ∙ no_entries way in
          ap (λ (l : List (Block H)). entries_told bytes_of span way (l ++ others)) (none_at way (Some t) no_blocks (omega arith))
          ∙ same (entries_told bytes_of span way others)
          ∙ ap (λ (l : List Entry). option_map (λ later. l ++ later) (entries_told bytes_of span way others)) (sym none)

  told_tables : (ts : List (Table H)) (ess : List (List Entry)) → AreOf bytes_of ts ess
      → entries_told bytes_of span way (blocks_over span way ts) ≡ Some (flat span way ess)
  told_tables [] [] are = refl
  told_tables [] (es ∷ ess) are = absurd are
  told_tables (t ∷ ts) [] are = absurd are
  told_tables (t ∷ ts) (es ∷ ess) are =
      told_table t es (blocks_over span way ts) are.0
      ∙ ap (option_map (λ later. within span (on_way way es) ++ later)) (told_tables ts ess are.1)

  table_rises : (t : Table H) (es : List Entry) → IsOf bytes_of t es → rises_over span (index_of t) ≡ true
  table_rises t es is =
      let format = (shape_of t).format in
      let bs = blocks format es in
      let rises = rising (joined bs) (subst IsInOrder (sym (blocks-whole format es)) is.shape.table.tabled.ordered) in
      ap (rises_over span) is.shape.blocks ∙ index_rises span format 16 bs (blocks-some format es) rises

  tables_rise : (ts : List (Table H)) (ess : List (List Entry)) → AreOf bytes_of ts ess → rise_over span ts ≡ true
  tables_rise [] [] are = refl
  tables_rise [] (es ∷ ess) are = absurd are
  tables_rise (t ∷ ts) [] are = absurd are
  tables_rise (t ∷ ts) (es ∷ ess) are = both (rises_over span (index_of t)) (rise_over span ts) (table_rises t es are.0)
      (tables_rise ts ess are.1)
    where
      both : (a b : Bool) → a ≡ true → b ≡ true → a && b ≡ true
      both a b first second = λ i. and (first i) (second i)
        where
          and : Bool → Bool → Bool
          and a b = a && b

of_append : {H : Type 0} (bytes_of : H → Option (List ℕ)) (ts us : List (Table H)) (ess fss : List (List Entry))
    → AreOf bytes_of ts ess → AreOf bytes_of us fss
    → AreOf bytes_of (ts ++ us) (ess ++ fss)
of_append bytes_of [] us [] fss first second = second
of_append bytes_of [] us (es ∷ ess) fss first second = absurd first
of_append bytes_of (t ∷ ts) us [] fss first second = absurd first
of_append bytes_of (t ∷ ts) us (es ∷ ess) fss first second = (first.0, of_append bytes_of ts us ess fss first.1 second)

of_reverse : {H : Type 0} (bytes_of : H → Option (List ℕ)) (ts : List (Table H)) (ess : List (List Entry))
    → AreOf bytes_of ts ess → AreOf bytes_of (reverse ts) (reverse ess)
of_reverse bytes_of [] [] are = tt
of_reverse bytes_of [] (es ∷ ess) are = absurd are
of_reverse bytes_of (t ∷ ts) [] are = absurd are
of_reverse {H} bytes_of (t ∷ ts) (es ∷ ess) are =
    subst (λ (l : List (Table H)). AreOf bytes_of l (reverse (es ∷ ess))) (sym (reverse-append (t ∷ []) ts))
    (subst (λ (l : List (List Entry)). AreOf bytes_of (reverse ts ++ t ∷ []) l) (sym (reverse-append (es ∷ []) ess))
    (of_append bytes_of (reverse ts) (t ∷ []) (reverse ess) (es ∷ []) (of_reverse bytes_of ts ess are.1) (are.0, tt)))

of_way : {H : Type 0} (bytes_of : H → Option (List ℕ)) (way : Way) (ts : List (Table H)) (ess : List (List Entry))
    → AreOf bytes_of ts ess → AreOf bytes_of (on_way way ts) (on_way way ess)
of_way bytes_of Up ts ess are = are
of_way bytes_of Down ts ess are = of_reverse bytes_of ts ess are

along_way : (way : Way) (es : List Entry) → on_way way es ≡ along way es
along_way Up es = refl
along_way Down es = refl

-- ---- the whole

pub told_whole : {H : Type 0} (bytes_of : H → Option (List ℕ)) (span : Span) (way : Way) (ts : List (Table H))
    (ess : List (List Entry)) (count : ℕ) → count ≡ length ts
    → AreOf bytes_of ts ess
    → (rise_over span ts ≡ true)
    × (entries_told bytes_of span way (blocks_over span way (on_way way (stretch_of (record { first = 0; end = count }) ts)))
    ≡ Some (along way (within span (joined ess))))
told_whole bytes_of span way ts ess count is are = (
  tables_rise bytes_of span way ts ess are,
  ap (λ l. entries_told bytes_of span way (blocks_over span way (on_way way l))) (take_all (count - 0) ts (omega (arith, is)))
      ∙ told_tables bytes_of span way (on_way way ts) (on_way way ess) (of_way bytes_of way ts ess are)
      ∙ ap Some (flat_way span way ess ∙ within_way span way (joined ess) ∙ along_way way (within span (joined ess))),
)
