-- What a merge keeps of its inputs.
use Rattle.std.specs.Prelude.{ℕ, max, zero, suc, Bool, true, false, ◌&&◌, ◌||◌, ◌==◌, not, nat_le, nat_lt, List, [], ◌∷◌}
use Rattle.std.specs.List.{list_any}
use Rattle.std.specs.Ordering.{eq_by_cmp}
use Rattle.vl_model.specs.Keys.{key_cmp}
use Rattle.vl_model.specs.Entries.{is_at, is_gone, in_order}
use Rattle.vl_model.specs.Winners.{counts}
use Rattle.vl_model.specs.declared.entry.Entry.{Entry}
use Rattle.vl_engine_model.specs.Tables.{cut_into_tables}
use Rattle.vl_engine_model.specs.declared.job.Job.{Job}

-- an entry of the sources, and whether an input has it
abbrev pub Sourced : Type 0
Sourced = Bool × Entry

abbrev pub if_so : Bool → Entry → List Entry → List Entry
if_so true e es = e ∷ es
if_so false e es = es

abbrev pub inputs_of : List Sourced → List Entry
inputs_of [] = []
inputs_of (s ∷ ss) = if_so s.0 s.1 (inputs_of ss)

abbrev pub outside_of : List Sourced → List Entry
outside_of [] = []
outside_of (s ∷ ss) = if_so (not s.0) s.1 (outside_of ss)

-- a newer source, input or not, has its key and version
abbrev pub is_shadowed : List Entry → Entry → Bool
is_shadowed newer e = list_any (is_at e.key e.version) newer

-- The inputs have at least so many greater versions of its key that are at most the floor: one of them, and
-- above that one one less.
abbrev pub is_outdated : ℕ → List Entry → ℕ → Entry → Bool
is_outdated zero inputs floor e = true
is_outdated (suc keep) inputs floor e =
    list_any (λ (f : Entry). is_outdated keep inputs floor f && (counts e.key floor f && nat_lt e.version f.version)) inputs

-- it is of this key, and of a lower version
abbrev pub is_below : Entry → Entry → Bool
is_below e f = eq_by_cmp key_cmp e.key f.key && nat_lt f.version e.version

abbrev pub is_needless_one : List Entry → ℕ → Entry → Bool
is_needless_one outside floor e =
    is_gone e.body && (nat_le e.version floor && not (list_any (is_below e) outside))

-- where one version is kept alone: a deletion of a version of at most the floor, where nothing outside the
-- inputs has its key at a lower version
abbrev pub is_needless : ℕ → List Entry → ℕ → Entry → Bool
is_needless keep outside floor e = (keep == 1) && is_needless_one outside floor e

-- one of the three rules drops it from the inputs
abbrev pub is_dropped : ℕ → List Entry → List Entry → ℕ → List Entry → Entry → Bool
is_dropped keep inputs outside floor newer e =
    is_shadowed newer e || (is_outdated keep inputs floor e || is_needless keep outside floor e)

-- what is kept of inputs, in the order of the sources; those before these are `newer`
abbrev pub kept_from : ℕ → List Entry → List Entry → ℕ → List Entry → List Sourced → List Entry
kept_from keep inputs outside floor newer [] = []
kept_from keep inputs outside floor newer (s ∷ ss) =
    if_so (s.0 && not (is_dropped keep inputs outside floor newer s.1)) s.1 (kept_from keep inputs outside floor (s.1 ∷ newer) ss)

abbrev pub kept : Job → List Entry
kept job = kept_from job.keep (inputs_of job.base) (outside_of job.base) job.floor [] job.base

-- the entries that the merge keeps, in order
abbrev pub merged_entries : Job → List Entry
merged_entries job = in_order (kept job)

-- and the tables that they make
abbrev pub outputs : Job → List (List Entry)
outputs job = cut_into_tables (merged_entries job)

-- ---- deletions that the third rule drops

-- the third rule alone drops it
abbrev pub drops_by_need : ℕ → List Entry → List Entry → ℕ → List Entry → Entry → Bool
drops_by_need keep inputs outside floor newer e =
    not (is_shadowed newer e) && (not (is_outdated keep inputs floor e) && is_needless keep outside floor e)

abbrev pub needless_from : ℕ → List Entry → List Entry → ℕ → List Entry → List Sourced → List Entry
needless_from keep inputs outside floor newer [] = []
needless_from keep inputs outside floor newer (s ∷ ss) =
    if_so (s.0 && drops_by_need keep inputs outside floor newer s.1) s.1 (needless_from keep inputs outside floor (s.1 ∷ newer) ss)

-- the deletions that are dropped though the first two rules leave them
abbrev pub needless : Job → List Entry
needless job = needless_from job.keep (inputs_of job.base) (outside_of job.base) job.floor [] job.base

-- the greatest version of these, or this number where that is the greater
abbrev pub gone_after : ℕ → List Entry → ℕ
gone_after gone [] = gone
gone_after gone (e ∷ es) = max e.version (gone_after gone es)
