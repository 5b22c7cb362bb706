-- Where the entries of a block begin, in the bytes behind their count.
use Rattle.std.specs.Prelude.{◌≡◌, ℕ, List, [], ◌∷◌, ◌++◌, drop}
use Rattle.vl_model.specs.declared.entry.Entry.{Entry}
use Rattle.vl_table.specs.body.Entries.{entry_bytes}

-- an entry is spelled from the place on
pub record StartsAt (format : ℕ) (bytes : List ℕ) (place : ℕ) (e : Entry) : Type 0 where
  pub rest : List ℕ
  pub spelled : drop place bytes ≡ entry_bytes format e ++ rest

-- these entries are, one from each place on
abbrev pub AreStarts : ℕ → List ℕ → (places : List ℕ) → List Entry → Type 0
AreStarts format bytes [] [] = Unit {0}
AreStarts format bytes [] (e ∷ es) = ⊥
AreStarts format bytes (p ∷ ps) [] = ⊥
AreStarts format bytes (p ∷ ps) (e ∷ es) = StartsAt format bytes p e × AreStarts format bytes ps es
