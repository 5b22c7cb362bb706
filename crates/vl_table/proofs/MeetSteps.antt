-- What a look-up meets, block by block.
use Rattle.std.specs.Prelude.{◌≡◌, ◌+◌, ◌<◌, ℕ, List, [], ◌∷◌, length, drop, get_or, Option, Some, None}
use Rattle.std.proofs.Common.{refl, sym, subst, ◌∙◌, ap}
use Rattle.std.proofs.lemmas.List.{drop_more}
use Rattle.vl_table.specs.declared.body.index.BlockPlace.{BlockPlace}
use Rattle.vl_model.specs.declared.entry.Entry.{Entry}
use Rattle.vl_model.specs.Lookups.{is_ahead, first_failing}
use Rattle.vl_table.specs.declared.body.shape.TableShape.{TableShape}
use Rattle.vl_table.specs.Kept.{StandsBlock}
use Rattle.vl_table.specs.Meets.{MeetsFirst, Meets, passed_over, Rises, Looks}

-- ---- block by block

-- what is met from a position on is met from the first one on
abbrev pub MetSoFar : TableShape → List ℕ → ℕ → List ℕ → (at : ℕ) → Type 0
MetSoFar t key version bytes at = Rises key t.blocks.items → (first : Option Entry)
    → Meets t.format t.number bytes key version (drop at t.blocks.items) first
    → Meets t.format t.number bytes key version (drop (passed_over key t.blocks.items) t.blocks.items) first

module _ (t : TableShape) (key : List ℕ) (version : ℕ) (bytes : List ℕ) where
  pub met_at_first : (at : ℕ) → (Rises key t.blocks.items → at ≡ passed_over key t.blocks.items) → MetSoFar t key version bytes at
  met_at_first at is rises first meets =
      subst (λ (n : ℕ). Meets t.format t.number bytes key version (drop n t.blocks.items) first) (is rises) meets

  -- none is left
  pub met_none : (makes : Option Entry → Option Entry) (at : ℕ) → MetSoFar t key version bytes at → drop at t.blocks.items ≡ []
      → makes None ≡ None → Looks makes t key version bytes None
  met_none makes at so none makes_none = record {
    met = λ rises. (
      None,
      so rises None (subst (λ (l : List BlockPlace). Meets t.format t.number bytes key version l None) (sym none) refl),
      sym makes_none,
    );
  }

  module _ (at : ℕ) (p : BlockPlace) (within : at < length t.blocks.items) (named : p ≡ get_or t.blocks.items at p)
      (es : List Entry) (stands : StandsBlock t.format t.number bytes p.place p.length es) where
    split : drop at t.blocks.items ≡ p ∷ drop (at + 1) t.blocks.items
    split = drop_more t.blocks.items at p within ∙ ap (λ (q : BlockPlace). q ∷ drop (at + 1) t.blocks.items) (sym named)

    meets : (first : Option Entry) → MeetsFirst (first_failing (is_ahead key version) es) first
        (Meets t.format t.number bytes key version (drop (at + 1) t.blocks.items) first)
        → Meets t.format t.number bytes key version (drop at t.blocks.items) first
    meets first is = subst (λ (l : List BlockPlace). Meets t.format t.number bytes key version l first) (sym split) (es, stands, is)

    -- the block has it
    pub met_here : (makes : Option Entry → Option Entry) (e : Entry) (found : Option Entry) → MetSoFar t key version bytes at
        → first_failing (is_ahead key version) es ≡ Some e → found ≡ makes (Some e) → Looks makes t key version bytes found
    met_here makes e found so first is = record {
      met = λ rises. (
        Some e,
        so rises (Some e) (meets (Some e)
            (subst (λ (o : Option Entry). MeetsFirst o (Some e)
            (Meets t.format t.number bytes key version (drop (at + 1) t.blocks.items) (Some e))) (sym first) refl)),
        is,
      );
    }

    -- it has none
    pub met_behind : MetSoFar t key version bytes at → first_failing (is_ahead key version) es ≡ None
        → MetSoFar t key version bytes (at + 1)
    met_behind so none rises first later =
        so rises first (meets first
        (subst (λ (o : Option Entry). MeetsFirst o first
        (Meets t.format t.number bytes key version (drop (at + 1) t.blocks.items) first)) (sym none) later))
