-- Where the blocks of a table stand.
use Rattle.std.specs.Prelude.{◌≡◌, ℕ, ◌+◌, List, [], ◌∷◌, ◌++◌, length}
use Rattle.std.specs.List.{sum_by}
use Rattle.std.proofs.Common.{refl, ap, sym, ◌∙◌, append_assoc, arith}
use Rattle.std.proofs.lemmas.List.Sums.{sum_by-cons}
use Rattle.vl_frame.specs.Frame.{frame_bytes}
use Rattle.vl_frame.specs.declared.kinds.FrameKind.TheVariants as kinds
use Rattle.vl_model.specs.declared.entry.Entry.{Entry}
use Rattle.vl_table.specs.body.Blocks.{block_body}
use Rattle.vl_table.specs.body.Bytes.{block_places, blocks_bytes}
use Rattle.vl_model.specs.Cutting.{block_frame_length}

pub length-block_places : (format at : ℕ) (bs : List (List Entry)) → length (block_places format at bs) ≡ length bs
length-block_places format at [] = refl
length-block_places format at (b ∷ bs) = omega (arith, length-block_places format (at + block_frame_length format b) bs)

pub blocks-split : (format number at : ℕ) (front : List (List Entry)) (b : List Entry) (back : List (List Entry))
    → blocks_bytes format number at (front ++ b ∷ back)
    ≡ blocks_bytes format number at front
    ++ (frame_bytes number (at + sum_by (block_frame_length format) front) kinds.Block (block_body format b)
    ++ blocks_bytes format number (at + sum_by (block_frame_length format) front + block_frame_length format b) back)
blocks-split format number at [] b back = ap
    (λ (n : ℕ). frame_bytes number n kinds.Block (block_body format b) ++ blocks_bytes format number
    (n + block_frame_length format b) back) (none at)
  where
    none : (n : ℕ) → n ≡ n + 0
    none n = omega arith
blocks-split format number at (a ∷ front) b back =
    let frame = frame_bytes number at kinds.Block (block_body format a) in
    let next = at + block_frame_length format a in
    let behind : ℕ → List ℕ = λ (n : ℕ). frame_bytes number n kinds.Block (block_body format b) ++ blocks_bytes format
    number (n + block_frame_length format b) back in
    let place : next + sum_by (block_frame_length format) front ≡ at + sum_by (block_frame_length format)
    (a ∷ front) = omega (arith, sum_by-cons (block_frame_length format) a front) in
    ap (λ (l : List ℕ). frame ++ l) (blocks-split format number next front b back)
    ∙ sym (append_assoc frame (blocks_bytes format number next front) (behind (next + sum_by (block_frame_length format) front)))
    ∙ ap (λ (n : ℕ). (frame ++ blocks_bytes format number next front) ++ behind n) place
