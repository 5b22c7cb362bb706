-- How far a merge has gone through what its inputs have.
use Rattle.std.specs.Prelude.{◌≡◌, ℕ, Bool, true, false, List, [], ◌∷◌, ◌++◌, Option, Some, None, IfNone}
use Rattle.std.specs.Option.{option_map}
use Rattle.vl_compact.specs.Walking.{Place, is_hidden, is_old, is_spent, spent, walk}
use Rattle.vl_compact.specs.declared.last.Last.{Last}
use Rattle.vl_compact.specs.declared.rules.Fate.{Fate}
use Rattle.vl_compact.specs.declared.rules.Fate.TheVariants.{Kept, Dropped, Needless}
use Rattle.vl_compact.specs.declared.rules.Rules.{Rules}
use Rattle.vl_engine_model.specs.Merging.{if_so}
use Rattle.vl_engine_model.specs.declared.job.Job.{Job}
use Rattle.vl_model.specs.Merging.{IsAlong, IsFirst}
use Rattle.vl_model.specs.Conflicts.{Named}
use Rattle.vl_model.specs.declared.entry.Entry.{Entry}
use Rattle.vl_model.specs.declared.way.Way.TheVariants.{Up}
use Rattle.vl_compact.specs.Keys.{all_named, named_of}

abbrev pub place_at : Last → Place
place_at last = record { key = last.key; version = last.version; seen = last.seen }

abbrev pub place_in : Option Last → Option Place
place_in last = option_map place_at last

-- the rules are those of a layout's job
pub record AreRulesOf (rules : Rules) (j : Job) : Type 0 where
  pub inputs : rules.inputs.items ≡ j.inputs
  pub floor : rules.floor ≡ j.floor
  pub keep : rules.keep ≡ j.keep

-- ---- one entry

-- what becomes of an entry by whether it is old, hidden, and spent
abbrev pub fate_by : Bool → Bool → Bool → Fate
fate_by true hidden spent = Dropped
fate_by false true spent = Dropped
fate_by false false true = Needless
fate_by false false false = Kept

abbrev pub fate_of : Job → ℕ → Entry → Fate
fate_of j seen e = fate_by (is_old j seen e) (is_hidden j e) (is_spent j e)

abbrev pub is_kept : Fate → Bool
is_kept Kept = true
is_kept Dropped = false
is_kept Needless = false

-- a needless deletion, by its key and version
abbrev pub noted : Fate → Entry → List Named
noted Kept e = []
noted Dropped e = []
noted Needless e = named_of e ∷ []

-- One entry came. It is kept or not, and what is needless of it was found: whatever comes behind it.
pub record Passes (j : Job) (at now : Option Place) (e : Entry) (found found_now : List Named) (kept : Bool) : Type 0 where
  pub walked : (es : List Entry) → walk j at (e ∷ es) ≡ if_so kept e (walk j now es)
  pub found_are : (es : List Entry) → found ++ all_named (spent j at (e ∷ es)) ≡ found_now ++ all_named (spent j now es)

-- ---- many

-- how far it is: its place, what is left of its inputs, and the needless deletions that it found
pub record Stage : Type 0 where
  pub place : Option Place
  pub left : List Entry
  pub found : List Named

abbrev pub stage : Option Last → List Entry → List Named → Stage
stage last left found = record { place = place_in last; left = left; found = found }

abbrev pub with_entry : Option Entry → List Entry → List Entry
with_entry None es = es
with_entry (Some e) es = e ∷ es

-- From one stage to another it gave this entry, or nothing: no other is kept between them, and what is found and still to be
-- found stays.
pub record GoesOn (j : Job) (old new : Stage) (next : Option Entry) : Type 0 where
  pub kept : walk j old.place old.left ≡ with_entry next (walk j new.place new.left)
  pub found_are : old.found ++ all_named (spent j old.place old.left) ≡ new.found ++ all_named (spent j new.place new.left)
  pub along : IsAlong Up old.left → IsAlong Up (with_entry next new.left)
  pub from : (e : Entry) → IsFirst Up e old.left → IsFirst Up e (with_entry next new.left)

-- It gave the next entry that is kept; where there is none nothing is left.
pub record GivesNext (j : Job) (old : Stage) (last : Option Last) (left : Option (List Entry)) (found : List Named) (next : Option Entry)
    : Type 0 where
  pub rest : List Entry
  pub left_is : left ≡ Some rest
  pub goes : GoesOn j old (stage last rest found) next
  pub none : IfNone next (rest ≡ [])

-- It gave nothing so far.
pub record Walked (j : Job) (old : Stage) (last : Option Last) (left : Option (List Entry)) (found : List Named) : Type 0 where
  pub rest : List Entry
  pub left_is : left ≡ Some rest
  pub goes : GoesOn j old (stage last rest found) None
