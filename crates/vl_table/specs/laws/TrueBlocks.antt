-- The blocks of a true table stand where its index says.
use Rattle.std.specs.Prelude.{◌≡◌, ◌<◌, ◌≤◌, ◌^◌, ℕ, List, [], ◌∷◌, ◌++◌, length, drop, get_or, Option}
use Rattle.std.specs.List.{AllByRecursion}
use Rattle.std.proofs.Common.{refl, ap, sym, subst, ◌∙◌, arith}
use Rattle.std.proofs.lemmas.List.{take-append-drop}
use Rattle.vl_frame.specs.laws.Laws.{length-frame_bytes, one_frame}
use Rattle.vl_frame.specs.declared.kinds.FileKind.TheVariants as files
use Rattle.vl_frame.specs.declared.kinds.FrameKind.TheVariants as kinds
use Rattle.vl_model.specs.declared.entry.Entry.{Entry}
use Rattle.vl_model.specs.Cutting.{blocks, longest_body}
use Rattle.vl_table.specs.body.Blocks.{IsBlock, SpellsBlock, block_body}
use Rattle.vl_table.specs.laws.BlockLaws.{one_block}
use Rattle.vl_table.specs.declared.body.index.BlockPlace.{BlockPlace}
use Rattle.vl_table.specs.body.Bytes.{table_bytes, IsTable}
use Rattle.vl_table.specs.laws.Lengths.{bodies-fit, length-block}
use Rattle.vl_table.specs.Kept.{HasBlock, StandsBlock}
use Rattle.vl_table.specs.Tables.{IsOf, number_of, shape_of}
use Rattle.vl_table.specs.laws.TablePlaces.{BlockAt, block_at, block_bytes}
use Rattle.vl_table.specs.laws.Places.{length-block_places}
use Rattle.vl_table.specs.declared.slot.BlockId.{BlockId}
use Rattle.vl_table.specs.declared.slot.Slot.{Slot}
use Rattle.vl_table.specs.body.Shapes.{IsShapeOf}
use Rattle.vl_table.specs.declared.body.shape.TableShape.{TableShape}
use Rattle.vl_table.specs.declared.table.Table.{Table}
use Rattle.vl_table.specs.Seeks.{IsBadBlock}

all_at : {X : Type 0} (P : X → Type 0) (front : List X) (x : X) (back : List X) → AllByRecursion P (front ++ x ∷ back) → P x
all_at P [] x back all = all.0
all_at P (y ∷ front) x back all = all_at P front x back all.1

-- a block of a true table stands where the index says
pub block_stands : (format number : ℕ) (es : List Entry) (i : ℕ) (p : BlockPlace) → IsTable format number es
    → (b : BlockAt format 16 (blocks format es) i p)
    → StandsBlock format number (table_bytes format number es) p.place p.length b.block
block_stands format number es i p is b =
    let bytes = table_bytes format number es in
    let body = block_body format b.block in
    record {
      body = body;
      frame = record {
        frame = record {
          in_file = refl;
          short = all_at (λ c. length (block_body format c) < 2 ^ 32) b.front b.block b.back
              (subst (AllByRecursion (λ c. length (block_body format c) < 2 ^ 32)) b.split is.short);
          rest = drop p.length (drop p.place bytes);
          spelled = sym (take-append-drop p.length (drop p.place bytes))
              ∙ ap (λ (l : List ℕ). l ++ drop p.length (drop p.place bytes)) (block_bytes format number es (blocks format es) i p b);
        };
        sized = b.length ∙ sym (length-block format number p.place b.block) ∙ length-frame_bytes number p.place kinds.Block body;
      };
      says = record {
        short = all_at (λ c. length (block_body format c) ≤ longest_body) b.front b.block b.back
            (subst (AllByRecursion (λ c. length (block_body format c) ≤ longest_body)) b.split (bodies-fit format es is.tabled.each));
        lawful = all_at (IsBlock format) b.front b.block b.back (subst (AllByRecursion (IsBlock format)) b.split is.each);
        spelled = refl;
      };
    }

-- so it is what a slot has
pub block_is : (slot : Slot) (id : BlockId) (bytes : List ℕ) (es others : List Entry) → HasBlock slot id bytes es
    → StandsBlock id.format id.number bytes id.place id.length others → es ≡ others
block_is slot id bytes es others has stands =
    let one = one_frame files.Table id.number id.place (drop id.place bytes) kinds.Block kinds.Block has.has.stands.body
    stands.body has.has.stands.frame.frame stands.frame.frame in
    one_block id.format stands.body es others (subst (λ (l : List ℕ). SpellsBlock id.format l es) one.1 has.has.stands.says) stands.says

pub named_block : (number : ℕ) (s : TableShape) (es : List Entry) (i : ℕ) (p : BlockPlace) → IsShapeOf number es s
    → i < length s.blocks.items
    → p ≡ get_or s.blocks.items i p → BlockAt s.format 16 (blocks s.format es) i p
named_block number s es i p is within found =
    block_at s.format 16 (blocks s.format es) i p
    (omega (arith, within, ap length is.blocks, length-block_places s.format 16 (blocks s.format es)))
    (found ∙ ap (λ l. get_or l i p) is.blocks)

-- a true table has no bad block
pub no_bad_block : {H : Type 0} (bytes_of : H → Option (List ℕ)) (t : Table H) (es : List Entry) (damage : ℕ) → IsOf bytes_of t es
    → IsBadBlock (shape_of t) (table_bytes (shape_of t).format (number_of t) es) damage → ⊥
no_bad_block bytes_of t es damage is bad =
    let s = shape_of t in
    let b = named_block s.number s es bad.at bad.place is.shape bad.named bad.place_is in
    bad.none.0 b.block (block_stands s.format s.number es bad.at bad.place is.shape.table b)
