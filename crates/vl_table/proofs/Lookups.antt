-- A look-up finds in its blocks what it would find in all entries of the table.
use Rattle.std.proofs.Common.{◌≡◌, ℕ, suc, ◌+◌, ◌≤◌, Bool, true, false, cond, List, [], ◌∷◌, ◌++◌, length, drop, refl}
use Rattle.std.proofs.Common.{ap, sym, ◌∙◌, arith, Option}
use Rattle.std.specs.List.{AllByRecursion, prefix_len}
use Rattle.vl_model.specs.Winners.{winner, exact}
use Rattle.vl_model.specs.declared.entry.Entry.{Entry}
use Rattle.vl_model.specs.Cutting.{block_frame_length, blocks, last_key, joined}
use Rattle.vl_model.specs.laws.CuttingLaws.{blocks-whole}
use Rattle.vl_model.specs.EntryOrder.{IsInOrder}
use Rattle.vl_model.specs.laws.OrderLaws.{IsBefore, IsRising, rising}
use Rattle.vl_model.specs.laws.Lookup.{found_winner, rising-parted, found_exact}
use Rattle.vl_model.specs.Lookups.{is_ahead, if_of_key, if_exact, or_else, is_below, first_failing, IsParted, first_over}
use Rattle.vl_table.specs.declared.body.index.BlockPlace.{BlockPlace}
use Rattle.vl_table.specs.body.Bytes.{block_places}
use Rattle.vl_model.specs.laws.LookupLaws.{all-back, all-front, below-chain, first_failing-append, none_failing}
use Rattle.vl_model.specs.laws.LookupLaws.{rising-back, rising-front, below-ahead}

module _ (key : List ℕ) (version : ℕ) where
  -- where the last key of entries in order is below the key, they all come before its place
  pub last-ahead : (es : List Entry) → IsParted (is_ahead key version) es → is_below key (last_key es) ≡ true
      → AllByRecursion (λ e. is_ahead key version e ≡ true) es
  last-ahead [] parted below = tt
  last-ahead (e ∷ []) parted below = (below-ahead key version e below, tt)
  last-ahead (e ∷ f ∷ fs) parted below =
      let rest = last-ahead (f ∷ fs) parted.1 below in (parted.0.0 rest.0, rest)

  -- ---- blocks, one after the other

  pub first-joined : (bs : List (List Entry)) → first_failing (is_ahead key version) (joined bs) ≡ first_over key version bs
  first-joined [] = refl
  first-joined (b ∷ bs) =
      first_failing-append (is_ahead key version) b (joined bs)
      ∙ ap (or_else (first_failing (is_ahead key version) b)) (first-joined bs)

  -- a look-up may begin behind the blocks whose last key is below the key
  pub first-skipped : (format at : ℕ) (bs : List (List Entry)) → IsRising (joined bs)
      → first_over key version
      (drop (prefix_len (λ (p : BlockPlace). is_below key p.last) (block_places format at bs)) bs) ≡ first_over key version bs
  first-skipped format at [] rising = refl
  first-skipped format at (b ∷ bs) rising =
      by (first-skipped format (at + block_frame_length format b) bs (rising-back b (joined bs) rising)) (is_below key (last_key b)) refl
    where
      count : ℕ
      count = prefix_len (λ (p : BlockPlace). is_below key p.last) (block_places format (at + block_frame_length format b) bs)

      one_more : (n : ℕ) → suc n ≡ 1 + n
      one_more n = omega arith

      by : first_over key version (drop count bs) ≡ first_over key version bs → (t : Bool) → is_below key (last_key b) ≡ t
          → first_over key version (drop (cond t (1 + count) 0) (b ∷ bs)) ≡ first_over key version (b ∷ bs)
      by later true is =
          ap (λ (n : ℕ). first_over key version (drop n (b ∷ bs))) (sym (one_more count)) ∙ later
          ∙ ap (λ (o : Option Entry). or_else o (first_over key version bs)) (sym (none_failing (is_ahead key version) b
          (last-ahead b (rising-parted key version b (rising-front b (joined bs) rising)) is)))
      by later false is = refl

  -- ---- the index is in order

  -- keys of blocks behind a block are not below where its last isn't
  behind-last : (b rest : List Entry) → 1 ≤ length b → IsRising (b ++ rest)
      → AllByRecursion (λ f. is_below key f.key ≡ true → is_below key (last_key b) ≡ true) rest
  behind-last [] rest some rising = absurd (omega arith)
  behind-last (e ∷ []) rest some rising = all_chained rest rising.0
    where
      all_chained : (fs : List Entry) → IsBefore e fs → AllByRecursion (λ f. is_below key f.key ≡ true → is_below key e.key ≡ true) fs
      all_chained [] before = tt
      all_chained (f ∷ fs) before = (below-chain key e f before.0, all_chained fs before.1)
  behind-last (e ∷ f ∷ fs) rest some rising = behind-last (f ∷ fs) rest (omega arith) rising.1

  of_last : (P : List ℕ → Type 0) (b : List Entry) → 1 ≤ length b → AllByRecursion (λ f. P f.key) b → P (last_key b)
  of_last P [] some all = absurd (omega arith)
  of_last P (e ∷ []) some all = all.0
  of_last P (e ∷ f ∷ fs) some all = of_last P (f ∷ fs) (omega arith) all.1

  of_blocks : (P : List ℕ → Type 0) (format at : ℕ) (bs : List (List Entry)) → AllByRecursion (λ b. 1 ≤ length b) bs
      → AllByRecursion (λ f. P f.key) (joined bs) → AllByRecursion (λ (p : BlockPlace). P p.last) (block_places format at bs)
  of_blocks P format at [] some all = tt
  of_blocks P format at (b ∷ bs) some all = (
    of_last P b some.0 (all-front (λ f. P f.key) b (joined bs) all),
    of_blocks P format (at + block_frame_length format b) bs some.1 (all-back (λ f. P f.key) b (joined bs) all),
  )

  pub index-parted : (format at : ℕ) (bs : List (List Entry)) → AllByRecursion (λ b. 1 ≤ length b) bs → IsRising (joined bs)
      → IsParted (λ (p : BlockPlace). is_below key p.last) (block_places format at bs)
  index-parted format at [] some rising = tt
  index-parted format at (b ∷ bs) some rising = (
    of_blocks (λ k. is_below key k ≡ true → is_below key (last_key b) ≡ true) format (at + block_frame_length format b)
        bs some.1 (behind-last b (joined bs) some.0 rising),
    index-parted format (at + block_frame_length format b) bs some.1 (rising-back b (joined bs) rising),
  )

-- ---- the whole

-- what a look-up finds in all the blocks is what it finds in the entries
pub found-blocks : (format : ℕ) (key : List ℕ) (version : ℕ) (es : List Entry) → IsInOrder es
    → if_of_key key (first_over key version (blocks format es)) ≡ winner es key version
found-blocks format key version es ordered =
    found_winner key version es ordered (first_over key version (blocks format es))
    (sym (first-joined key version (blocks format es)) ∙ ap (first_failing (is_ahead key version)) (blocks-whole format es))

pub exact-blocks : (format : ℕ) (key : List ℕ) (version : ℕ) (es : List Entry) → IsInOrder es
    → if_exact key version (first_over key version (blocks format es)) ≡ exact es key version
exact-blocks format key version es ordered =
    found_exact key version es ordered (first_over key version (blocks format es))
    (sym (first-joined key version (blocks format es)) ∙ ap (first_failing (is_ahead key version)) (blocks-whole format es))
