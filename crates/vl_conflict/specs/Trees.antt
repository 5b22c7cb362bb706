-- What a tree of notes has, in rising order of keys; what its parts know of themselves; and that it is balanced.
use Rattle.std.proofs.Common.{Bor}
use Rattle.std.specs.Prelude.{◌≡◌, ◌≤◌, ◌+◌, ◌-◌, ◌^◌, ℕ, max, min, true, List, [], ◌∷◌, ◌++◌, length, Option, Some, None}
use Rattle.std.specs.Option.{option_copied}
use Rattle.std.specs.FinMap.{is_sorted}
use Rattle.vl_model.specs.Keys.{key_cmp}
use Rattle.vl_model.specs.Conflicts.{Named}
use Rattle.vl_conflict.specs.declared.tree.Tree.{Tree, Leaf, Fork'}
use Rattle.vl_conflict.specs.declared.tree.Node.{Node}

-- its keys, each with its number
abbrev pub named : Tree → List Named
named Leaf = []
named (Fork' p left key number least greatest height right) = named left ++ (key, number) ∷ named right

-- how many nodes stand above one another in it at most
abbrev pub depth_of : Tree → ℕ
depth_of Leaf = 0
depth_of (Fork' p left key number least greatest height right) = 1 + max (depth_of left) (depth_of right)

-- ---- what a part knows of itself

abbrev pub least_of : Tree → ℕ
least_of Leaf = 2 ^ 64 - 1
least_of (Fork' p left key number least greatest height right) = least

abbrev pub greatest_of : Tree → ℕ
greatest_of Leaf = 0
greatest_of (Fork' p left key number least greatest height right) = greatest

abbrev pub height_of : Tree → ℕ
height_of Leaf = 0
height_of (Fork' p left key number least greatest height right) = height

abbrev pub least_among : ℕ → Tree → Tree → ℕ
least_among number left right = min number (min (least_of left) (least_of right))

abbrev pub greatest_among : ℕ → Tree → Tree → ℕ
greatest_among number left right = max number (max (greatest_of left) (greatest_of right))

abbrev pub highest : Tree → Tree → ℕ
highest left right = max (height_of left) (height_of right)

-- the heights of two halves differ by one at most
abbrev pub AreLevel : Tree → Tree → Type 0
AreLevel left right = (height_of left ≤ height_of right + 1) × (height_of right ≤ height_of left + 1)

-- by two at most
abbrev pub AreNearlyLevel : Tree → Tree → Type 0
AreNearlyLevel left right = (height_of left ≤ height_of right + 2) × (height_of right ≤ height_of left + 2)

-- a height can be counted, and one more
abbrev pub AreLow : Tree → Tree → Type 0
AreLow left right = (height_of left ≤ 254) × (height_of right ≤ 254)

-- a height after a step: as it was, or one more
abbrev pub IsGrown : ℕ → ℕ → Type 0
IsGrown old new = (old ≤ new) × (new ≤ old + 1)

-- Each part knows the least and the greatest number in it and its height, and its halves are level.
abbrev pub IsWhole : Tree → Type 0
IsWhole Leaf = Unit {0}
IsWhole (Fork' p left key number least greatest height right) =
    (least ≡ least_among number left right) × (greatest ≡ greatest_among number left right)
    × (height ≡ 1 + highest left right) × AreLevel left right × IsWhole left × IsWhole right

-- ---- the same of one node

abbrev pub node_named : Node → List Named
node_named n = named n.left ++ (n.key, n.number) ∷ named n.right

abbrev pub NodeWhole : Node → Type 0
NodeWhole n =
    (n.least ≡ least_among n.number n.left n.right) × (n.greatest ≡ greatest_among n.number n.left n.right)
    × (n.height ≡ 1 + highest n.left n.right) × AreLevel n.left n.right × IsWhole n.left × IsWhole n.right

-- a node with nothing below it
abbrev pub IsAlone : Node → Type 0
IsAlone n = (n.left ≡ Leaf) × (n.right ≡ Leaf) × (n.height ≡ 1) × NodeWhole n

-- what a node that was found notes
abbrev pub found_named : Option Node → Option Named
found_named None = None
found_named (Some n) = Some (n.key, n.number)

abbrev pub found : Option (Bor Node) → Option Named
found node = found_named (option_copied node)

-- a search tree beside room for more nodes, where so many nodes were ever made
pub record IsKept (tree : Tree) (room made : ℕ) : Type 0 where
  pub sorted : is_sorted key_cmp (named tree) ≡ true
  pub whole : IsWhole tree
  pub few : length (named tree) + room ≤ made
  pub most : made ≤ 2 ^ 62
