-- What is so of a store at each line of a script: its lists rise, and no name stands for two things.
use Rattle.std.specs.Prelude.{◌≡◌, T, false, List, [], ◌∷◌}
use Rattle.std.specs.FinMap.{is_sorted}
use Rattle.std.specs.List.{AllByRecursion}
use Rattle.std.specs.Ordering.{eq_by_cmp}
use Rattle.vl_model.specs.Keys.{key_cmp}
use Rattle.vl_engine_model.specs.Store.Commits.{AreProper}
use Rattle.vl_engine_model.specs.Store.Lines.{Name}
use Rattle.vl_engine_model.specs.Store.Things.{Thing, ATransaction, AView, AJob, APass, State}

-- what a transaction wrote rises by keys
abbrev pub HasRisingWrites : Thing → Type 0
HasRisingWrites (ATransaction t b) = T (is_sorted key_cmp t.writes)
HasRisingWrites (AView v b) = Unit {0}
HasRisingWrites (AJob job made) = Unit {0}
HasRisingWrites (APass pass batch) = Unit {0}

abbrev pub AreNamedOnce : List (Name × Thing) → Type 0
AreNamedOnce [] = Unit {0}
AreNamedOnce (t ∷ ts) = AllByRecursion (λ (u : Name × Thing). eq_by_cmp key_cmp t.0 u.0 ≡ false) ts × AreNamedOnce ts

pub record IsProper (s : State) : Type 0 where
  pub commits : AreProper s.commits
  pub writes : AllByRecursion (λ (t : Name × Thing). HasRisingWrites t.1) s.things
  pub names : AreNamedOnce s.things
