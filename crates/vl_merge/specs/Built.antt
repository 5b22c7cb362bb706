-- A tree of sources as it is made: all of them in their order, nothing read, and no higher than it must be.
use Rattle.std.specs.Prelude.{◌≡◌, ℕ, ◌+◌, ◌^◌, ◌≤◌, max, List, [], ◌∷◌, ◌++◌, length}
use Rattle.vl_merge.specs.declared.lookahead.Lookahead.TheVariants.{Unread}
use Rattle.vl_merge.specs.declared.tree.Tree.{Tree, Nothing, Source, Two'}

module _ {C : Type 0} where
  -- its sources, the newest first
  abbrev pub leaves : Tree C → List C
  leaves Nothing = []
  leaves (Source c) = c ∷ []
  leaves (Two' p newer first q older second) = leaves newer ++ leaves older

  -- how many comparisons an entry costs at most
  abbrev pub height : Tree C → ℕ
  height Nothing = 0
  height (Source c) = 0
  height (Two' p newer first q older second) = max (height newer) (height older) + 1

  -- nothing is read ahead in it
  abbrev pub IsUnread : Tree C → Type 0
  IsUnread Nothing = Unit {0}
  IsUnread (Source c) = Unit {0}
  IsUnread (Two' p newer first q older second) =
      (first ≡ Unread) × (second ≡ Unread) × IsUnread newer × IsUnread older

  -- its height is a logarithm of the number of sources
  abbrev pub IsLow : Tree C → Type 0
  IsLow tree = (h : ℕ) → length (leaves tree) ≤ 2 ^ h → height tree ≤ h

  -- a tree of these sources
  pub record IsBuiltOf (sources : List C) (tree : Tree C) : Type 0 where
    pub leaves : leaves tree ≡ sources
    pub unread : IsUnread tree
    pub low : IsLow tree

  -- a tree of so many sources, taken off the end of a list
  pub record TakesOff (old new : List C) (count : ℕ) (tree : Tree C) : Type 0 where
    pub whole : old ≡ new ++ leaves tree
    pub number : length (leaves tree) ≡ count
    pub unread : IsUnread tree
    pub low : IsLow tree
