-- Items that are written one behind the other.
use Rattle.std.specs.Prelude.{◌≡◌, ◌+◌, ◌<◌, ℕ, suc, List, ◌∷◌, ◌++◌, length, drop, get_or}
use Rattle.std.proofs.Math.Seq.{drop-cons}
use Rattle.std.proofs.Common.{sym, ap, ◌∙◌, append_assoc, arith}
use Rattle.vl_table.specs.body.Lists.{Spelling, items_bytes}

drop_at : {Item : Type 0} (items : List Item) (i : ℕ) (a d : Item) → i < length items → a ≡ get_or items i d
    → drop i items ≡ a ∷ drop (i + 1) items
drop_at items i a d within is =
    drop-cons items i d within ∙ ap (λ x. x ∷ drop (suc i) items) (sym is) ∙ ap (λ n. a ∷ drop n items) (more i)
  where
    more : (n : ℕ) → suc n ≡ n + 1
    more n = omega arith

-- one item more is written
pub writes_one : {Item : Type 0} (S : Spelling Item) (items : List Item) (i : ℕ) (a d : Item) (old new all : List ℕ)
    → i < length items → a ≡ get_or items i d → new ≡ old ++ S.bytes a → old ++ items_bytes S (drop i items) ≡ all
    → new ++ items_bytes S (drop (i + 1) items) ≡ all
writes_one S items i a d old new all within is written so_far =
    ap (λ (l : List ℕ). l ++ items_bytes S (drop (i + 1) items)) written
    ∙ append_assoc old (S.bytes a) (items_bytes S (drop (i + 1) items))
    ∙ ap (λ l. old ++ items_bytes S l) (sym (drop_at items i a d within is)) ∙ so_far
