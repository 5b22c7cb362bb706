-- Which versions of a key the sources of a store still have, whatever merges dropped.
use Rattle.std.specs.Prelude.{◌≤◌, ℕ, List, []}
use Rattle.vl_engine_model.specs.Ruling.{Ruling}
use Rattle.vl_engine_model.specs.Sources.{floor, sources}
use Rattle.vl_engine_model.specs.declared.layout.Layout.{Layout}
use Rattle.vl_model.specs.History.{History, last_number}
use Rattle.vl_model.specs.Versions.{versions, versions_in}
use Rattle.vl_model.specs.declared.entry.Entry.{Entry}
use Rattle.vl_engine_model.specs.Spared.{AreSpared}

-- What the entries have of each key's versions in the history is spared, where more than one version is kept: a version that
-- isn't left is at most since, or is passed by so many that are left and are at most the floor. The least number at which a key
-- can be read is then the same by these as by the history. Where one version is kept it is the floor,
-- whatever the entries have, and merges may drop a key's last version if that is a deletion.
abbrev pub IsSpared : History → List Entry → (to floor keep since : ℕ) → Type 0
IsSpared h es to floor keep since =
    2 ≤ keep → (key : List ℕ) → AreSpared (versions h key) (versions_in es key) to floor keep since

-- Of each key a version that isn't left is at most `gone`, or is passed by one that is left and is at most the floor: as of
-- kept versions, for one version, and with `gone` in the place of since. So it is whatever is kept. What counts of a key at a
-- number from the floor on is then its newest version there, if that is above `gone`.
abbrev pub IsWhole : History → List Entry → (to floor gone : ℕ) → Type 0
IsWhole h es to floor gone = (key : List ℕ) → AreSpared (versions h key) (versions_in es key) to floor 1 gone

-- Entries have both.
pub record HasVersions (h : History) (es : List Entry) (to floor keep since gone : ℕ) : Type 0 where
  pub past : IsSpared h es to floor keep since
  pub whole : IsWhole h es to floor gone

-- and with the sources of a layout
abbrev pub Spares : Layout → History → Type 0
Spares l h = HasVersions h (sources l) (last_number h) (floor l h) l.keep l.since l.gone

-- and with what a ruling leaves
abbrev pub SparesRuled : {A : Type 0} → Ruling A → Type 0
SparesRuled r = Spares r.layout r.history

-- A layout where nothing lives, so that its floor is the last number.
abbrev pub at_rest : Layout → Layout
at_rest l = record l { live = [] }
