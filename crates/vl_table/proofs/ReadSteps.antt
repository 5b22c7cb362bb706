-- What was read of a block.
use Rattle.std.specs.Prelude.{◌≡◌, ℕ, Bool, true, List, ◌++◌, drop, length, take}
use Rattle.std.proofs.Common.{ap, sym, subst, ◌∙◌}
use Rattle.std.proofs.lemmas.List.{take_at}
use Rattle.vl_frame.specs.Frame.{frame_bytes}
use Rattle.vl_frame.specs.declared.kinds.FileKind.TheVariants as files
use Rattle.vl_frame.specs.declared.kinds.FrameKind.TheVariants as kinds
use Rattle.vl_frame.specs.laws.Laws.{length-frame_bytes, one_frame}
use Rattle.vl_model.specs.declared.entry.Entry.{Entry}
use Rattle.vl_table.specs.body.Blocks.{IsSomeBlock, SpellsBlock, SpellsWalked}
use Rattle.vl_table.specs.body.Starts.{AreStarts}
use Rattle.vl_table.specs.laws.WalkedLaws.{walked_block}
use Rattle.vl_table.specs.Begun.{FrameAt}
use Rattle.vl_table.specs.Kept.{HasFrame, StandsBlock}
use Rattle.vl_table.specs.declared.slot.BlockId.{BlockId}

-- the frame that was written to the front of a slice
module _ (id : BlockId) (bytes written old body : List ℕ) (size : ℕ) (sized : size ≡ id.length)
    (at : FrameAt id.number bytes id.place size kinds.Block body) (is : written ≡ frame_bytes id.number id.place kinds.Block body) where
  pub front_is : take id.length (written ++ drop id.length old) ≡ frame_bytes id.number id.place kinds.Block body
  front_is =
      take_at written (drop id.length old) id.length
      (ap length is ∙ length-frame_bytes id.number id.place kinds.Block body ∙ sym at.sized ∙ sized) ∙ is

  pub stands_at : FrameAt id.number bytes id.place id.length kinds.Block body
  stands_at = subst (λ (n : ℕ). FrameAt id.number bytes id.place n kinds.Block body) sized at

  pub has_frame : (said starts : List ℕ) (es : List Entry) → said ≡ body → SpellsBlock id.format said es
      → AreStarts id.format (drop 4 said) starts es
      → HasFrame id bytes (take id.length (written ++ drop id.length old)) starts es
  has_frame said starts es same says are = record {
    stands = record { body = body; frame = stands_at; says = subst (λ (b : List ℕ). SpellsBlock id.format b es) same says };
    framed = front_is;
    are = subst (λ (b : List ℕ). AreStarts id.format (drop 4 b) starts es) same are;
  }

  -- what was walked over is a block, where one that is known was tested before
  pub says_block : (known : Bool) (said : List ℕ) (es : List Entry) → said ≡ body → SpellsWalked known id.format said es
      → (known ≡ true → IsSomeBlock id.format body) → SpellsBlock id.format said es
  says_block known said es same walked before =
      walked_block known id.format said es walked (λ is. subst (IsSomeBlock id.format) (sym same) (before is))

  -- what isn't a block isn't one that stands there
  pub not_block : (said : List ℕ) → said ≡ body → ((es : List Entry) → SpellsBlock id.format said es → ⊥)
      → (es : List Entry) → StandsBlock id.format id.number bytes id.place id.length es → ⊥
  not_block said same none es stands =
      let one = one_frame files.Table id.number id.place (drop id.place bytes) kinds.Block kinds.Block body stands.body
      at.frame stands.frame.frame in
      none es (subst (λ (b : List ℕ). SpellsBlock id.format b es) (sym (same ∙ one.1)) stands.says)
