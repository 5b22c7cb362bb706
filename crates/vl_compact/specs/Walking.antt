-- What a merge does with the entries of its inputs as they come: keys rise, of one key versions fall, and of those of one key and
-- version the newest source's comes first.
use Rattle.std.specs.Prelude.{ℕ, ◌+◌, Bool, true, false, ◌&&◌, ◌||◌, not, nat_le, if◌then◌else◌, List, [], ◌∷◌, Option, Some, None}
use Rattle.std.specs.Ordering.{eq_by_cmp, is_lt}
use Rattle.vl_engine_model.specs.Merging.{if_so, is_needless, outside_of}
use Rattle.vl_engine_model.specs.declared.job.Job.{Job}
use Rattle.vl_merge.specs.Marked.{is_first_outside}
use Rattle.vl_model.specs.Entries.{is_at}
use Rattle.vl_model.specs.Keys.{key_cmp}
use Rattle.vl_model.specs.declared.entry.Entry.{Entry}

-- ---- where it is

-- the entry that came last, and how many different versions up to the floor came of its key
pub record Place : Type 0 where
  pub key : List ℕ
  pub version : ℕ
  pub seen : ℕ

-- the entry is of the key and version that came last
abbrev pub comes_again : Option Place → Entry → Bool
comes_again None e = false
comes_again (Some p) e = is_at p.key p.version e

-- how many versions up to the floor came of its key before
abbrev pub seen_before : Option Place → Entry → ℕ
seen_before None e = 0
seen_before (Some p) e = if eq_by_cmp key_cmp p.key e.key then p.seen else 0

abbrev pub place_of : ℕ → Option Place → Entry → Place
place_of floor at e = record {
  key = e.key;
  version = e.version;
  seen = seen_before at e + (if nat_le e.version floor then 1 else 0);
}

-- ---- what is dropped of those that don't come again

-- the first source that has its key and version isn't an input
abbrev pub is_hidden : Job → Entry → Bool
is_hidden j e = is_first_outside j.base e.key e.version

-- so many versions up to the floor came of its key that it isn't kept
abbrev pub is_old : Job → ℕ → Entry → Bool
is_old j seen e = nat_le e.version j.floor && nat_le j.keep seen

-- no source outside the inputs has its key at a lower version, and it is a deletion of a version of at most the floor, where one
-- version is kept alone
abbrev pub is_spent : Job → Entry → Bool
is_spent j e = is_needless j.keep (outside_of j.base) j.floor e

abbrev pub is_let_go : Job → ℕ → Entry → Bool
is_let_go j seen e = is_hidden j e || (is_old j seen e || is_spent j e)

-- the last of these reasons alone drops it
abbrev pub is_spent_alone : Job → ℕ → Entry → Bool
is_spent_alone j seen e = not (is_hidden j e) && (not (is_old j seen e) && is_spent j e)

-- ---- what is kept, and which deletions are dropped as needless

abbrev pub walk : Job → Option Place → List Entry → List Entry
walk j at [] = []
walk j at (e ∷ es) =
    if comes_again at e then walk j at es
    else if_so (not (is_let_go j (seen_before at e) e)) e (walk j (Some (place_of j.floor at e)) es)

abbrev pub spent : Job → Option Place → List Entry → List Entry
spent j at [] = []
spent j at (e ∷ es) =
    if comes_again at e then spent j at es
    else if_so (is_spent_alone j (seen_before at e) e) e (spent j (Some (place_of j.floor at e)) es)

-- ---- behind a key

-- the entry is of a greater key than this one; each is where there is none yet
abbrev pub is_behind : Option (List ℕ) → Entry → Bool
is_behind None e = true
is_behind (Some key) e = is_lt (key_cmp key e.key)
