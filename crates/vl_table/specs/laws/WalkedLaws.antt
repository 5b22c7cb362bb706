-- Entries are walked over as they are read, and those whose order was tested before are a block's.
use Rattle.std.specs.Prelude.{◌≡◌, ◌<◌, ◌≤◌, ◌^◌, ℕ, Bool, true, false, List, [], ◌∷◌, ◌++◌, length}
use Rattle.std.specs.declared.cmp.Ordering.{Ordering}
use Rattle.std.specs.declared.cmp.Ordering.TheVariants.{Less, Equal, Greater}
use Rattle.std.proofs.Common.{ap, refl, subst, sym, ◌∙◌}
use Rattle.byteorder.specs.Endian.{big_bytes}
use Rattle.vl_frame.specs.laws.NumberLaws.{one_number}
use Rattle.vl_model.specs.Entries.{entry_cmp}
use Rattle.vl_model.specs.declared.entry.Entry.{Entry}
use Rattle.vl_table.specs.body.Blocks.{IsSomeBlock, SpellsBlock, SpellsWalked, entries, walked}
use Rattle.vl_model.specs.Cutting.{longest_body}
use Rattle.vl_table.specs.body.Entries.{entry_bytes}
use Rattle.vl_table.specs.body.Lists.{AreOrdered, IsRun, items_bytes}
use Rattle.vl_table.specs.laws.ListLaws.{same_items}

module _ (tested : Bool) (format : ℕ) where
  pub walked_bytes : (es : List Entry) → items_bytes (walked tested format) es ≡ items_bytes (entries format) es
  walked_bytes [] = refl
  walked_bytes (e ∷ es) = ap (λ (l : List ℕ). entry_bytes format e ++ l) (walked_bytes es)

  -- what is in order is so where nobody looks
  walked_ordered : (es : List Entry) → AreOrdered (entries format) es → AreOrdered (walked tested format) es
  walked_ordered [] ordered = tt
  walked_ordered (a ∷ []) ordered = (tt, tt)
  walked_ordered (a ∷ b ∷ es) ordered = ((λ fresh. ordered.0), walked_ordered (b ∷ es) ordered.1)

  ordered_walked : tested ≡ false → (es : List Entry) → AreOrdered (walked tested format) es → AreOrdered (entries format) es
  ordered_walked fresh [] ordered = tt
  ordered_walked fresh (a ∷ []) ordered = (tt, tt)
  ordered_walked fresh (a ∷ b ∷ es) ordered = (ordered.0 fresh, ordered_walked fresh (b ∷ es) ordered.1)

  -- a body that begins with this count of entries
  module _ (count : ℕ) (body bytes : List ℕ) (begun : body ≡ big_bytes 4 count ++ bytes) (fits : count < 2 ^ 32) where
    pub walked_body : (es : List Entry) → length body ≤ longest_body → IsRun (walked tested format) bytes count es
        → SpellsWalked tested format body es
    walked_body es short run = record {
      short = short;
      few = subst (λ (n : ℕ). n < 2 ^ 32) (sym run.counted) fits;
      each = run.each;
      ordered = λ fresh. ordered_walked fresh es run.ordered;
      spelled = begun ∙ ap (λ (l : List ℕ). big_bytes 4 count ++ l) (run.spelled ∙ walked_bytes es)
          ∙ ap (λ (n : ℕ). big_bytes 4 n ++ items_bytes (entries format) es) (sym run.counted);
    }

    pub block_walked : (es : List Entry) → SpellsBlock format body es → IsRun (walked tested format) bytes count es
    block_walked es says =
        let one = one_number 4 count (length es) bytes (items_bytes (entries format) es) fits says.lawful.few
        (sym begun ∙ says.spelled) in
        record {
          counted = sym one.0;
          each = says.lawful.each;
          ordered = walked_ordered es says.lawful.ordered;
          spelled = one.1 ∙ sym (walked_bytes es);
        }

-- ---- a block that was tested before

-- order is decidable: what can't fail to be in order is
less : (o : Ordering) → ((o ≡ Less → ⊥) → ⊥) → o ≡ Less
less Less some = refl
less Equal some = absurd (some (λ e. cc))
less Greater some = absurd (some (λ e. cc))

ordered : (format : ℕ) (es : List Entry) → ((AreOrdered (entries format) es → ⊥) → ⊥) → AreOrdered (entries format) es
ordered format [] some = tt
ordered format (a ∷ []) some = (tt, tt)
ordered format (a ∷ b ∷ es) some = (
  less (entry_cmp a b) (λ none. some (λ are. none are.0)),
  ordered format (b ∷ es) (λ none. some (λ are. none are.1)),
)

module _ (tested : Bool) (format : ℕ) (body : List ℕ) (es : List Entry) (w : SpellsWalked tested format body es) where
  -- the body spells one list at most
  walked_one : (fs : List Entry) → SpellsBlock format body fs → es ≡ fs
  walked_one fs says =
      let one = one_number 4 (length es) (length fs) (items_bytes (entries format) es) (items_bytes (entries format) fs)
      w.few says.lawful.few (sym w.spelled ∙ says.spelled) in
      same_items (entries format) es fs w.each says.lawful.each one.0 one.1

  was_ordered : IsSomeBlock format body → AreOrdered (entries format) es
  was_ordered some =
      ordered format es
      (λ none. some (λ fs says. none (subst (AreOrdered (entries format)) (sym (walked_one fs says)) says.lawful.ordered)))

  is_ordered : (t : Bool) → tested ≡ t → (tested ≡ true → IsSomeBlock format body) → AreOrdered (entries format) es
  is_ordered true is before = was_ordered (before is)
  is_ordered false is before = w.ordered is

  -- what was walked over is a block, where one whose order wasn't looked at was tested before
  pub walked_block : (tested ≡ true → IsSomeBlock format body) → SpellsBlock format body es
  walked_block before = record {
    short = w.short;
    lawful = record { few = w.few; each = w.each; ordered = is_ordered tested refl before };
    spelled = w.spelled;
  }
