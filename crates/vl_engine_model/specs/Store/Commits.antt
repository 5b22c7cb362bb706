-- A history as plain lists, by which reads and conflicts compute.
use Rattle.std.specs.Prelude.{T, ℕ, ◌+◌, nat_le, is_some, List, [], ◌∷◌, ◌++◌, map, Option, None}
use Rattle.std.specs.List.{AllByRecursion, filter}
use Rattle.std.specs.Ordering.{nat_cmp}
use Rattle.std.specs.FinMap.{find, from_sorted, is_sorted}
use Rattle.vl_model.specs.Conflicts.{Named, named_from, is_overwritten, first_of}
use Rattle.vl_model.specs.History.{History, newer, value_left}
use Rattle.vl_model.specs.Keys.{Stored, Row, key_cmp}
use Rattle.vl_model.specs.Numbers.{low_of}
use Rattle.vl_model.specs.Reads.{Read, rows_written}
use Rattle.vl_model.specs.declared.change.Change.{Change}
use Rattle.vl_engine_model.specs.AtAnswer.{Beginning, AtAnswer, at_answer_by}

-- what is done to some keys, which rise
abbrev pub Changes : Type 0
Changes = List (List ℕ × Change)

-- the first number, what is known of the versions up to it, by rising numbers, and the commits behind
-- it
pub record Commits : Type 0 where
  pub first : ℕ
  pub base : List (ℕ × Changes)
  pub commits : List Changes

abbrev pub history_in : Commits → History
history_in p = record {
  first = p.first;
  base = from_sorted (map (λ (c : ℕ × Changes). (c.0, from_sorted c.1)) p.base);
  commits = map from_sorted p.commits;
}

abbrev pub with_changes : Commits → Changes → Commits
with_changes p changes = record p { commits = p.commits ++ changes ∷ [] }

-- these commits with their numbers, of which this is the first
abbrev pub numbered_changes : ℕ → List Changes → List (ℕ × Changes)
numbered_changes number [] = []
numbered_changes number (changes ∷ later) = (number, changes) ∷ numbered_changes (number + 1) later

-- all that is known of versions, by rising numbers
abbrev pub all_changes : Commits → List (ℕ × Changes)
all_changes p = filter (λ (c : ℕ × Changes). nat_le c.0 p.first) p.base ++ numbered_changes (p.first + 1) p.commits

-- those numbered_changes at most n
abbrev pub changes_up_to : Commits → ℕ → List (ℕ × Changes)
changes_up_to p n = filter (λ (c : ℕ × Changes). nat_le c.0 n) (all_changes p)

abbrev pub last_in : List (ℕ × Changes) → List ℕ → Option Change
last_in [] key = None
last_in (c ∷ cs) key = newer (find key_cmp key c.1) (last_in cs key)

-- what a key has at a number
abbrev pub value_in : Commits → ℕ → List ℕ → Option Stored
value_in p n key = value_left None (last_in (changes_up_to p n) key)

abbrev pub rows_after : List Row → List (ℕ × Changes) → List Row
rows_after rows [] = rows
rows_after rows (c ∷ cs) = rows_after (rows_written c.1 rows) cs

-- all that stands at a number, in key order
abbrev pub rows_in : Commits → ℕ → List Row
rows_in p n = rows_after [] (changes_up_to p n)

-- the numbers of a key's versions
abbrev pub known_versions : Commits → List ℕ → List ℕ
known_versions p key =
    map (λ (c : ℕ × Changes). c.0) (filter (λ (c : ℕ × Changes). is_some (find key_cmp key c.1)) (all_changes p))

-- the least number at which the key can be read
abbrev pub low_in : Commits → ℕ → ℕ → ℕ → List ℕ → ℕ
low_in p floor keep since key = low_of (known_versions p key) floor keep since

-- what a read at an older number is answered
abbrev pub at_answer_in : Commits → Beginning → ℕ → List ℕ → ℕ → AtAnswer
at_answer_in p b number key n =
    at_answer_by number (low_in p b.floor b.keep b.since key) (value_in p n key) key n

-- the least key that was read and overwritten since
abbrev pub conflict_in : Commits → ℕ → List Read → Option Named
conflict_in p number reads =
    first_of (filter (is_overwritten number reads) (named_from (p.first + 1) p.commits []))

-- its lists rise: the base by numbers, and each of its changes and commits by keys
pub record AreProper (p : Commits) : Type 0 where
  pub numbers : T (is_sorted nat_cmp (map (λ (c : ℕ × Changes). (c.0, from_sorted {R = key_cmp} c.1)) p.base))
  pub base : AllByRecursion (λ (c : ℕ × Changes). T (is_sorted key_cmp c.1)) p.base
  pub commits : AllByRecursion (λ (c : Changes). T (is_sorted key_cmp c)) p.commits
