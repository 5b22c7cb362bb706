-- What opening tables answers, one behind the other.
use Rattle.std.specs.Prelude.{◌≡◌, ℕ, Bool, List, [], ◌∷◌, Option, None, Result, Ok, Err}
use Rattle.vl_disk.specs.Crash.{Image}
use Rattle.vl_disk.specs.declared.name.Name.TheVariants.{Table as table_file}
use Rattle.vl_recover.specs.declared.fails.OpenError.{OpenError}
use Rattle.vl_recover.specs.declared.fails.OpenError.TheVariants as why
use Rattle.vl_recover.specs.opening.FoundTables.{found_table}
use Rattle.vl_recover.specs.opening.Leading.{AnswersStage}
use Rattle.vl_recover.specs.opening.Opening.{FoundTable, IsAbove, IsBadTable, Refusal, StandsTable, first_key, key_before}
use Rattle.vl_table.specs.declared.table.Table.{Table}

-- ---- what is answered

abbrev pub mapped : {T A E : Type 0} → (T → A) → Result T E → Result A E
mapped f (Ok x) = Ok (f x)
mapped f (Err e) = Err e

-- It is what a stage gives, of which this is seen; for want of memory, and where the disk fails, it may give up.
abbrev pub AnswersAs : {T A : Type 0} → (T → A) → (Result A Refusal → Type 0) → Result T OpenError → Type 0
AnswersAs f stage result = AnswersStage stage (mapped f result)

-- The same of a stage that gives nothing but that it was passed.
abbrev pub AnswersDone : {T : Type 0} → (Result (Unit {0}) Refusal → Type 0) → Result T OpenError → Type 0
AnswersDone {T = T} stage result = AnswersAs (λ (x : T). tt) stage result

-- why the table wasn't opened: that is where it is damaged, or it is missing; or memory ran out, or the disk failed
abbrev pub IsNoTable : Image → ℕ → OpenError → Type 0
IsNoTable image number why.NotAStore = ⊥
IsNoTable image number (why.NewerFormat format) = ⊥
IsNoTable image number (why.Damaged name place) =
    ((before : Option (List ℕ)) → IsBadTable image before number place) × (name ≡ table_file number)
IsNoTable image number (why.Exhausted counter) = ⊥
IsNoTable image number why.NoMemory = Unit {0}
IsNoTable image number (why.Disk name) = Unit {0}

-- the table stands and reads so, or that is why not
abbrev pub IsTableFound : {H : Type 0} → Image → ℕ → Result (Table H) OpenError → Type 0
IsTableFound image number (Ok t) = StandsTable image number (found_table t)
IsTableFound image number (Err why) = IsNoTable image number why

-- ---- one behind the other

-- the key that the next table of a level has to be above
abbrev pub last_before : Bool → List FoundTable → Option (List ℕ)
last_before deeper [] = None
last_before deeper (t ∷ []) = key_before deeper t
last_before deeper (t ∷ u ∷ us) = last_before deeper (u ∷ us)

-- the table isn't above the key, which is its damage; or memory ran out
abbrev pub IsNotNext : Option (List ℕ) → FoundTable → OpenError → Type 0
IsNotNext before t why.NotAStore = ⊥
IsNotNext before t (why.NewerFormat format) = ⊥
IsNotNext before t (why.Damaged name place) =
    (IsAbove before (first_key t) → ⊥) × (place ≡ t.said.place) × (name ≡ table_file t.number)
IsNotNext before t (why.Exhausted counter) = ⊥
IsNotNext before t why.NoMemory = Unit {0}
IsNotNext before t (why.Disk name) = ⊥

-- the table is above the key, or that is why it isn't taken
abbrev pub IsNext : {T : Type 0} → Option (List ℕ) → FoundTable → Result T OpenError → Type 0
IsNext before t (Ok x) = IsAbove before (first_key t)
IsNext before t (Err why) = IsNotNext before t why
