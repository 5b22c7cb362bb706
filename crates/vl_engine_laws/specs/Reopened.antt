-- A history that is gone on with from one of its numbers, as a store that is opened again goes on with it.
use Rattle.std.specs.Prelude.{ℕ, nat_le, []}
use Rattle.std.specs.FinMap.{from_sorted}
use Rattle.std.specs.List.{filter}
use Rattle.vl_model.specs.History.{History, Past}
use Rattle.vl_model.specs.Versions.{Numbered, all_numbered}

-- all that is known of its versions up to a number
abbrev pub past_up_to : History → ℕ → Past
past_up_to h m = from_sorted (filter (λ (c : Numbered). nat_le c.0 m) (all_numbered h))

-- it begins with them, and has no commits yet
abbrev pub reopened : History → ℕ → History
reopened h m = record { first = m; base = past_up_to h m; commits = [] }
