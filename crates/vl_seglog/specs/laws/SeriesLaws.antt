-- What the definition of a series says: it is spelled in one way.
use Rattle.std.specs.Prelude.{◌≡◌, List, [], ◌∷◌, length, refl}
use Rattle.std.specs.List.{AllByRecursion}
use Rattle.std.proofs.Common.{ap, ◌∙◌, arith}
use Rattle.vl_seglog.specs.Series.{Spelling, series_bytes}

module _ {Item : Type 0} (S : Spelling Item) where
  -- So many items one behind the other are spelled in one way.
  pub one_series : (items others : List Item) → AllByRecursion S.lawful items → AllByRecursion S.lawful others
      → length items ≡ length others → series_bytes S items ≡ series_bytes S others → items ≡ others
  one_series [] [] p q counts e = refl
  one_series [] (b ∷ others) p q counts e = absurd (omega arith)
  one_series (a ∷ items) [] p q counts e = absurd (omega arith)
  one_series (a ∷ items) (b ∷ others) p q counts e =
      let same = S.one a b (series_bytes S items) (series_bytes S others) p.0 q.0 e in
      ap (λ (x : Item). x ∷ items) same.0
      ∙ ap (λ (l : List Item). b ∷ l) (one_series items others p.1 q.1 (omega arith) same.1)
