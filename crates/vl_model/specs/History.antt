-- The accepted commits, oldest first, over a base: what each key has after each of them.
use Rattle.std.specs.Prelude.{◌≡◌, ◌+◌, ◌-◌, ℕ, min, nat_le, List, [], ◌∷◌, length, take, map, Option, Some, None, ◌++◌}
use Rattle.std.specs.Option.{option_map}
use Rattle.std.specs.List.{filter}
use Rattle.std.specs.Ordering.{nat_cmp}
use Rattle.std.specs.FinMap.{FinMap, get, insert, remove, entries, empty, from_sorted}
use Rattle.vl_model.specs.Keys.{Stored, Row, Pairs, Writes}
use Rattle.vl_model.specs.declared.change.Change.{Change}
use Rattle.vl_model.specs.declared.change.Change.TheVariants.{Set, Delete}

-- what is known of the versions up to a number: of each number, what was done to some keys
abbrev pub Past : Type 0
Past = FinMap nat_cmp Writes

-- The i-th commit, counted from 1, has the number first + i. Of a base versions above the first number
-- don't count.
pub record History : Type 0 where
  pub first : ℕ
  pub base : Past
  pub commits : List Writes

-- what stands at a number, as versions of that number
abbrev pub standing_at : ℕ → Pairs → Past
standing_at number pairs =
    from_sorted ((number, from_sorted (map (λ (row : Row). (row.0, Set row.1)) (entries pairs))) ∷ [])

-- the history of a new store
abbrev pub no_history : History
no_history = record { first = 0; base = empty; commits = [] }

-- the number of the last commit
abbrev pub last_number : History → ℕ
last_number h = h.first + length h.commits

-- the history with one more commit
abbrev pub with_commit : History → Writes → History
with_commit h writes = record { first = h.first; base = h.base; commits = h.commits ++ (writes ∷ []) }

-- a later history: the same base, and behind the same commits some more
pub record Extends (least most : History) : Type 0 where
  pub first : most.first ≡ least.first
  pub base : most.base ≡ least.base
  pub later : List Writes
  pub commits : most.commits ≡ least.commits ++ later

-- the commits numbered at most n
abbrev pub commits_up_to : History → ℕ → List Writes
commits_up_to h n = take (n - h.first) h.commits

-- the second where it is there, else the first
abbrev pub newer : {A : Type 0} → Option A → Option A → Option A
newer old None = old
newer old (Some x) = Some x

-- the number of the last of these commits that names the key, where the first of them has this
-- number
abbrev pub last_naming : ℕ → List Writes → List ℕ → Option ℕ
last_naming number [] key = None
last_naming number (writes ∷ later) key =
    newer (option_map (λ change. number) (get writes key)) (last_naming (number + 1) later key)

-- what the last of these commits that names the key does to it
abbrev pub last_change : List Writes → List ℕ → Option Change
last_change [] key = None
last_change (writes ∷ later) key = newer (get writes key) (last_change later key)

-- the value that a change leaves, over what the key had
abbrev pub value_left : Option Stored → Option Change → Option Stored
value_left old None = old
value_left old (Some (Set value)) = Some value
value_left old (Some Delete) = None

-- what is known of the versions numbered at most n, the least first
abbrev pub known_up_to : ℕ → Past → List Writes
known_up_to n past = map (λ (c : ℕ × Writes). c.1) (filter (λ (c : ℕ × Writes). nat_le c.0 n) (entries past))

-- what a base gives a key at a number
abbrev pub past_value : Past → ℕ → List ℕ → Option Stored
past_value past n key = value_left None (last_change (known_up_to n past) key)

-- What a key has at a number up to the last: the value of its greatest version that is at most the
-- number, in the base or a commit; none if that is a deletion or there is no such version
abbrev pub value_at : History → ℕ → List ℕ → Option Stored
value_at h n key =
    value_left (past_value h.base (min n h.first) key) (last_change (commits_up_to h n) key)

-- the pairs after one change
abbrev pub changed : Pairs → List ℕ → Change → Pairs
changed pairs key (Set value) = insert pairs key value
changed pairs key Delete = remove pairs key

-- the pairs after changes to different keys, in whatever order
abbrev pub changed_by : Pairs → List (List ℕ × Change) → Pairs
changed_by pairs [] = pairs
changed_by pairs (write ∷ others) = changed (changed_by pairs others) write.0 write.1

-- the pairs after these commits
abbrev pub pairs_after : Pairs → List Writes → Pairs
pairs_after pairs [] = pairs
pairs_after pairs (writes ∷ later) = pairs_after (changed_by pairs (entries writes)) later

-- all that stands at a number: each key that has a value, with it
abbrev pub contents_at : History → ℕ → Pairs
contents_at h n =
    pairs_after (pairs_after empty (known_up_to (min n h.first) h.base)) (commits_up_to h n)
