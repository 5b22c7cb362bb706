-- What edits make of a manifest's state, frame by frame.
use Rattle.std.specs.Prelude.{ℕ, ◌+◌, ◌==◌, max, Bool, ◌&&◌, not, nat_le, if◌then◌else◌, List, [], ◌∷◌, ◌++◌, Option}
use Rattle.std.specs.Prelude.{None, Some, Result, Ok, Err}
use Rattle.std.specs.Option.{option_map}
use Rattle.vl_model.specs.Limits.{max_commit_number, max_file_number}
use Rattle.vl_frame.specs.Begins.{Placed}
use Rattle.vl_manifest.specs.declared.version_builder.VersionBuilder.{VersionBuilder}
use Rattle.vl_manifest.specs.declared.edit.Edit.{Edit}
use Rattle.vl_manifest.specs.declared.edit.Edit.TheVariants.{Add, Drop, Gone, Head, Keep, Next}
use Rattle.vl_manifest.specs.declared.state.ManifestState.{ManifestState}
use Rattle.vl_manifest.specs.Formats.{gone_format}
use Rattle.vl_manifest.specs.Levels.{all_tables, is_in, no_tables, put_at, taken_out}

-- ---- one edit

-- before the first frame: of each key one version is kept, and no deletion was dropped
abbrev pub first_draft : VersionBuilder
first_draft = record { levels = no_tables; head = None; next = None; keep = 1; since = 0; gone = 0 }

-- before a later one
abbrev pub as_draft : ManifestState → VersionBuilder
as_draft s = record {
  levels = s.levels;
  head = Some (s.head, s.covered);
  next = Some (s.next_log, s.next_table);
  keep = s.keep;
  since = s.since;
  gone = s.gone;
}

-- a number that a log and a table may have
abbrev pub is_file_number : ℕ → Bool
is_file_number n = nat_le 1 n && nat_le n max_file_number

-- a number of which no smaller one may be given: one above the last where none may be given
abbrev pub is_next_number : ℕ → Bool
is_next_number n = nat_le 1 n && nat_le n (max_file_number + 1)

-- a log, and commits up to a number; the number is 0 where no commit is in tables
abbrev pub is_head : ℕ → ℕ → Bool
is_head segment number = is_file_number segment && nat_le number max_commit_number

abbrev pub are_next : ℕ → ℕ → Bool
are_next log table = is_next_number log && is_next_number table

-- how many versions of a key may be kept at most
abbrev pub max_keep : ℕ
max_keep = 16

abbrev pub is_keep : ℕ → ℕ → Bool
is_keep versions since = (nat_le 1 versions && nat_le versions max_keep) && nat_le since max_commit_number

-- the version of a deletion
abbrev pub is_gone : ℕ → Bool
is_gone number = nat_le 1 number && nat_le number max_commit_number

abbrev pub given_if : Bool → VersionBuilder → Option VersionBuilder
given_if fits d = if fits then Some d else None

abbrev pub with_levels : VersionBuilder → List (List ℕ) → VersionBuilder
with_levels d levels = record d { levels = levels }

-- What an edit makes of a draft; none where it can't be applied: where a number is out of its range, the table is
-- added that stands in a list, or to no list or past its end, or one is dropped that stands in none.
abbrev pub applied : Edit → VersionBuilder → Option VersionBuilder
applied (Add level position table) d =
    if is_file_number table && not (is_in table (all_tables d.levels))
    then option_map (with_levels d) (put_at level position table d.levels) else None
applied (Drop table) d =
    given_if (is_in table (all_tables d.levels)) (with_levels d (taken_out table d.levels))
applied (Head segment number) d = given_if (is_head segment number) (record d { head = Some (segment, number) })
applied (Next log table) d = given_if (are_next log table) (record d { next = Some (log, table) })
applied (Keep versions since) d = given_if (is_keep versions since) (record d { keep = versions; since = since })
applied (Gone number) d = given_if (is_gone number) (record d { gone = number })

abbrev pub then_applied : (VersionBuilder → Option VersionBuilder) → Option VersionBuilder → Option VersionBuilder
then_applied f None = None
then_applied f (Some d) = f d

-- edits, one after the other, in the order in which they stand
abbrev pub all_applied : List Edit → VersionBuilder → Option VersionBuilder
all_applied [] d = Some d
all_applied (e ∷ es) d = then_applied (all_applied es) (applied e d)

-- ---- one frame

abbrev pub with_both : VersionBuilder → Option (ℕ × ℕ) → Option (ℕ × ℕ) → Option ManifestState
with_both d None next = None
with_both d (Some head) None = None
with_both d (Some head) (Some next) = Some (record {
  levels = d.levels;
  head = head.0;
  covered = head.1;
  next_log = next.0;
  next_table = next.1;
  keep = d.keep;
  since = d.since;
  gone = d.gone;
})

-- a draft to which a head and next numbers were given; others are no state
abbrev pub finished : VersionBuilder → Option ManifestState
finished d = with_both d d.head d.next

abbrev pub finish : Option VersionBuilder → Option ManifestState
finish None = None
finish (Some d) = finished d

-- The state that a first frame's edits make.
abbrev pub first_state : List Edit → Option ManifestState
first_state es = finish (all_applied es first_draft)

-- The state that a later frame's edits make of one.
abbrev pub next_state : List Edit → ManifestState → Option ManifestState
next_state es s = finish (all_applied es (as_draft s))

-- ---- all frames

abbrev pub state_then : ℕ → (ManifestState → Result ManifestState ℕ) → Option ManifestState
    → Result ManifestState ℕ
state_then place rest None = Err place
state_then place rest (Some s) = rest s

-- the state behind the later frames, or the place of the first of them that can't be applied
abbrev pub state_behind : ManifestState → List (Placed (List Edit)) → Result ManifestState ℕ
state_behind s [] = Ok s
state_behind s (f ∷ fs) = state_then f.place (λ t. state_behind t fs) (next_state f.item s)

-- The state that a manifest's frames make, of which there is at least one; or the place of the first
-- frame that can't be applied.
abbrev pub manifest_state : Placed (List Edit) → List (Placed (List Edit)) → Result ManifestState ℕ
manifest_state f fs = state_then f.place (λ s. state_behind s fs) (first_state f.item)

-- What a manifest of a format says, by what its frames make. In formats without Gone edits any deletion that tables
-- cover may have been dropped.
abbrev pub as_read : ℕ → ManifestState → ManifestState
as_read format s = if nat_le gone_format format then s else record s { gone = s.covered }

abbrev pub read_in : ℕ → Result ManifestState ℕ → Result ManifestState ℕ
read_in format (Ok s) = Ok (as_read format s)
read_in format (Err place) = Err place

-- ---- states to begin with

-- a store that has nothing yet
abbrev pub fresh_state : ManifestState
fresh_state = record {
  levels = no_tables;
  head = 1;
  covered = 0;
  next_log = 1;
  next_table = 1;
  keep = 1;
  since = 0;
  gone = 0;
}

-- the same, but with next numbers above the logs and tables that stand, the greatest of which are these
abbrev pub opened_state : ℕ → ℕ → ManifestState → ManifestState
opened_state log table s = record s {
  next_log = max s.next_log (log + 1);
  next_table = max s.next_table (table + 1);
}

-- an Add for each table of a level, its positions rising
abbrev pub level_adds : ℕ → ℕ → List ℕ → List Edit
level_adds level position [] = []
level_adds level position (table ∷ tables) = Add level position table ∷ level_adds level (position + 1) tables

abbrev pub adds_from : ℕ → List (List ℕ) → List Edit
adds_from level [] = []
adds_from level (tables ∷ levels) = level_adds level 0 tables ++ adds_from (level + 1) levels

-- a Keep, where it says more than is so without it
abbrev pub keep_edits : ℕ → ℕ → List Edit
keep_edits keep since = if keep == 1 && since == 0 then [] else Keep keep since ∷ []

-- likewise a Gone
abbrev pub gone_edits : ℕ → List Edit
gone_edits gone = if gone == 0 then [] else Gone gone ∷ []

-- what stands behind the Adds of a whole state
abbrev pub last_edits : ManifestState → List Edit
last_edits s = Head s.head s.covered ∷ Next s.next_log s.next_table ∷ (keep_edits s.keep s.since ++ gone_edits s.gone)

-- The whole state as a first frame: an Add for each table, Head, Next, and Keep and Gone where they are needed.
abbrev pub whole_edits : ManifestState → List Edit
whole_edits s = adds_from 0 s.levels ++ last_edits s

-- ---- the switch of a flush

-- its table in front of level 0, the next log that isn't flushed with the number that tables cover then, and the
-- least numbers that may still be given
abbrev pub flush_edits : ℕ → ℕ → ℕ → ℕ → ℕ → List Edit
flush_edits table head covered next_log next_table =
    Add 0 0 table ∷ Head head covered ∷ Next next_log next_table ∷ []
