-- The blocks of a true table are in order.
use Rattle.std.specs.Prelude.{◌≡◌, ◌+◌, ℕ, List, [], ◌∷◌, ◌++◌, drop, length, Option}
use Rattle.std.specs.List.{AllZip, sum_by}
use Rattle.std.proofs.Common.{refl, ap, sym, subst, ◌∙◌, append_assoc, arith}
use Rattle.std.proofs.lemmas.List.Sums.{sum_by-append, sum_by-cons}
use Rattle.vl_frame.specs.laws.Laws.{one_frame}
use Rattle.vl_frame.specs.declared.kinds.FileKind.TheVariants as files
use Rattle.vl_frame.specs.declared.kinds.FrameKind.TheVariants as kinds
use Rattle.vl_model.specs.Cutting.{block_frame_length, blocks, joined, last_key}
use Rattle.vl_model.specs.declared.entry.Entry.{Entry}
use Rattle.vl_model.specs.laws.CuttingLaws.{blocks-whole}
use Rattle.vl_model.specs.laws.OrderLaws.{IsRising, rising}
use Rattle.vl_table.specs.BlockOrder.{BreaksAt, TableBreaksAt}
use Rattle.vl_table.specs.Kept.{StandsBlock}
use Rattle.vl_table.specs.Tables.{IsOf, shape_of}
use Rattle.vl_table.specs.body.Blocks.{SpellsBlock, entries}
use Rattle.vl_table.specs.body.Bytes.{IsTable, block_places, table_bytes}
use Rattle.vl_table.specs.body.Lists.{AreOrdered}
use Rattle.vl_table.specs.declared.body.index.BlockPlace.{BlockPlace}
use Rattle.vl_table.specs.declared.body.shape.TableShape.{TableShape}
use Rattle.vl_table.specs.declared.table.Table.{Table}
use Rattle.vl_table.specs.laws.BlockLaws.{one_block}
use Rattle.vl_table.specs.laws.TrueBlocks.{block_stands}

-- ---- entries in order

ordered-rising : (format : ℕ) (es : List Entry) → IsRising es → AreOrdered (entries format) es
ordered-rising format [] rising = tt
ordered-rising format (e ∷ []) rising = (tt, tt)
ordered-rising format (e ∷ f ∷ fs) rising = (rising.0.0, ordered-rising format (f ∷ fs) rising.1)

pub ordered-front : (format : ℕ) (es fs : List Entry) → AreOrdered (entries format) (es ++ fs) → AreOrdered (entries format) es
ordered-front format [] fs ordered = tt
ordered-front format (e ∷ []) fs ordered = (tt, tt)
ordered-front format (e ∷ f ∷ es) fs ordered = (ordered.0, ordered-front format (f ∷ es) fs ordered.1)

pub joined-both : (bs cs : List (List Entry)) → joined (bs ++ cs) ≡ joined bs ++ joined cs
joined-both [] cs = refl
joined-both (b ∷ bs) cs =
    ap (λ (l : List Entry). b ++ l) (joined-both bs cs) ∙ sym (append_assoc b (joined bs) (joined cs))

-- ---- blocks that stand

-- in the same bytes one block stands at most
pub one_stands : (format number : ℕ) (bytes : List ℕ) (place size : ℕ) (es fs : List Entry)
    → StandsBlock format number bytes place size es → StandsBlock format number bytes place size fs → es ≡ fs
one_stands format number bytes place size es fs one other =
    let body = one_frame files.Table number place (drop place bytes) kinds.Block kinds.Block one.body other.body one.frame.frame
    other.frame.frame in
    one_block format other.body es fs (subst (λ (l : List ℕ). SpellsBlock format l es) body.1 one.says) other.says

module _ (format number : ℕ) (bytes : List ℕ) where
  abbrev Stands : BlockPlace → List Entry → Type 0
  Stands p es = StandsBlock format number bytes p.place p.length es

  -- what stands at the first of some places are the first of all blocks
  same_so_far : (ps qs : List BlockPlace) (bs cs : List (List Entry)) → AllZip Stands (ps ++ qs) bs → AllZip Stands ps cs
      → (rest : List (List Entry)) × (bs ≡ cs ++ rest) × AllZip Stands qs rest
  same_so_far [] qs bs [] all first = (bs, refl, all)
  same_so_far [] qs bs (c ∷ cs) all first = absurd first
  same_so_far (p ∷ ps) qs [] cs all first = absurd all
  same_so_far (p ∷ ps) qs (b ∷ bs) [] all first = absurd first
  same_so_far (p ∷ ps) qs (b ∷ bs) (c ∷ cs) all first =
      let (rest, parts, later) = same_so_far ps qs bs cs all.1 first.1 in
      let same : b ≡ c = one_stands format number bytes p.place p.length b c all.0 first.0 in
      (rest, (λ i. same i ∷ parts i), later)

-- all blocks of a true table stand
module _ (format number : ℕ) (es : List Entry) (is : IsTable format number es) where
  abbrev end_of : List (List Entry) → ℕ
  end_of front = 16 + sum_by (block_frame_length format) front

  one_on : (front : List (List Entry)) (b : List Entry) → end_of (front ++ b ∷ []) ≡ end_of front + block_frame_length format b
  one_on front b =
      omega (
        arith,
        sum_by-append (block_frame_length format) front (b ∷ []),
        sum_by-cons (block_frame_length format) b [],
      )

  all_stand : (front back : List (List Entry)) → blocks format es ≡ front ++ back
      → AllZip (Stands format number (table_bytes format number es)) (block_places format (end_of front) back) back
  all_stand front [] parts = tt
  all_stand front (b ∷ back) parts =
      let p : BlockPlace = record { place = end_of front; length = block_frame_length format b; last = last_key b } in (
        block_stands format number es (length front) p is (record {
          front = front;
          block = b;
          back = back;
          split = parts;
          counted = refl;
          place = refl;
          length = refl;
          last = refl;
        }),
        subst (λ (n : ℕ). AllZip (Stands format number (table_bytes format number es)) (block_places format n back) back)
            (one_on front b)
            (all_stand (front ++ b ∷ []) back (parts ∙ sym (append_assoc front (b ∷ []) back))),
      )

-- a block behind others in a list of entries that is in order is in order behind them
in_order_there : (format : ℕ) (bs cs : List (List Entry)) (b : List Entry) (later : List (List Entry)) → bs ≡ cs ++ b ∷ later
    → AreOrdered (entries format) (joined bs) → AreOrdered (entries format) (joined cs ++ b)
in_order_there format bs cs b later parts ordered =
    ordered-front format (joined cs ++ b) (joined later)
    (subst (AreOrdered (entries format))
    (ap joined parts ∙ joined-both cs (b ∷ later) ∙ sym (append_assoc (joined cs) b (joined later))) ordered)

-- so the order of its blocks breaks nowhere
pub no_break : {H : Type 0} (bytes_of : H → Option (List ℕ)) (t : Table H) (es : List Entry) (place : ℕ) → IsOf bytes_of t es
    → TableBreaksAt bytes_of t place → ⊥
no_break bytes_of t es place is told =
    let s = shape_of t in
    let bytes = table_bytes s.format s.number es in
    let bs = blocks s.format es in
    let at : BreaksAt s bytes place = told bytes is.told in
    let all : AllZip (Stands s.format s.number bytes) s.blocks.items bs =
    subst (λ (ps : List BlockPlace). AllZip (Stands s.format s.number bytes) ps bs) (sym is.shape.blocks)
    (all_stand s.format s.number es is.shape.table [] bs refl) in
    let ordered : AreOrdered (entries s.format) (joined bs) =
    subst (AreOrdered (entries s.format)) (sym (blocks-whole s.format es))
    (ordered-rising s.format es (rising es is.shape.table.tabled.ordered)) in
    let (rest, parts, later) = same_so_far s.format s.number bytes at.before (at.block ∷ at.later) bs at.stood.each
    (subst (λ (ps : List BlockPlace). AllZip (Stands s.format s.number bytes) ps bs) at.parts all) at.stood.stand in
    here s bs at ordered rest parts later
  where
    here : (s : TableShape) {bytes : List ℕ} (bs : List (List Entry)) (at : BreaksAt s bytes place)
        → AreOrdered (entries s.format) (joined bs) → (rest : List (List Entry)) → bs ≡ at.stood.each ++ rest
        → AllZip (Stands s.format s.number bytes) (at.block ∷ at.later) rest → ⊥
    here s bs at ordered [] parts stand = stand
    here s bs at ordered (b ∷ rest) parts stand =
        at.breaks b stand.0 (subst (λ (l : List Entry). AreOrdered (entries s.format) (l ++ b)) at.stood.are
        (in_order_there s.format bs at.stood.each b rest parts ordered))
