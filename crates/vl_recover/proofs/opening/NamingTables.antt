-- Tables are opened one behind the other: what is said of the rest, behind those that were opened, is said of all.
use Rattle.std.specs.Prelude.{◌≡◌, ◌≤◌, ◌-◌, ℕ, suc, Bool, true, false, length, get_or, List, [], ◌∷◌, ◌++◌, map}
use Rattle.std.specs.Prelude.{Option, None, Some, Result, Ok, Err, IsErr, IsErrAnd, Vec, refl}
use Rattle.std.specs.FinMap.{get}
use Rattle.std.proofs.Common.{sym, ap, subst, ◌∙◌, inl, inr, append_assoc, append-nil, arith}
use Rattle.vl_disk.specs.Crash.{Image}
use Rattle.vl_disk.specs.declared.name.Name.TheVariants.{Table}
use Rattle.vl_disk.specs.declared.name.Name.{Name}
use Rattle.vl_recover.specs.declared.fails.OpenError.{OpenError}
use Rattle.vl_recover.specs.declared.fails.OpenError.TheVariants as why
use Rattle.std.specs.Global.{Global}
use Rattle.std.proofs.lemmas.List.{flat_map_more, map-append}
use Rattle.vl_table.specs.Tables.{number_of}
use Rattle.vl_table.specs.declared.table.Table.{Table as OpenTable}
use Rattle.vl_recover.specs.opening.Finding.{FailsAtDisk}
use Rattle.vl_recover.specs.opening.FoundTables.{found_level, found_list, found_table}
use Rattle.vl_recover.specs.opening.HeldFiles.{AreReadTables, tables_of}
use Rattle.vl_recover.specs.opening.Leading.{AnswersStage}
use Rattle.vl_recover.specs.opening.OpenedTables.{IsNoTable, IsNotNext, last_before}
use Rattle.vl_recover.specs.opening.Results.{IsDiskFault, recovery_by}
use Rattle.vl_recover.specs.opening.Opening.{Damaged, FoundTable, IsAbove, IsBadTable, NamedLevel, NamedLevels}
use Rattle.vl_recover.specs.opening.Opening.{NamedLog, NamedLogs, NamedTable, Refusal, StandsTable, first_key}
use Rattle.vl_recover.specs.opening.Opening.{key_before, last_key, not_above}

-- what a stage gives, behind what was there already
abbrev pub in_front : {A : Type 0} → List A → Result (List A) Refusal → Result (List A) Refusal
in_front front (Ok xs) = Ok (front ++ xs)
in_front front (Err e) = Err e

last_of : (deeper : Bool) (ts : List FoundTable) (t : FoundTable) → last_before deeper (ts ++ t ∷ []) ≡ key_before deeper t
last_of deeper [] t = refl
last_of deeper (u ∷ []) t = refl
last_of deeper (u ∷ v ∷ vs) t = last_of deeper (v ∷ vs) t

-- in level 0 no key counts
pub none_before : (ts : List FoundTable) → last_before false ts ≡ None
none_before [] = refl
none_before (t ∷ []) = refl
none_before (t ∷ u ∷ us) = none_before (u ∷ us)

module _ (image : Image) (deeper : Bool) where
  -- so much of a level was opened
  pub record AreOpened (all : List ℕ) (opened : List FoundTable) (rest : List ℕ) : Type 0 where
    pub goes_on : (r : Result (List FoundTable) Refusal) → NamedLevel deeper image (last_before deeper opened) rest r
        → NamedLevel deeper image None all (in_front opened r)

  in_none : (r : Result (List FoundTable) Refusal) → r ≡ in_front [] r
  in_none (Ok xs) = refl
  in_none (Err e) = refl

  pub none_opened : (all : List ℕ) → AreOpened all [] all
  none_opened all = record { goes_on = λ r is. subst (NamedLevel deeper image None all) (in_none r) is }

  -- one more
  with_first : (before : Option (List ℕ)) (n : ℕ) (rest : List ℕ) (t : FoundTable) → NamedTable image before n (Ok t)
      → (r : Result (List FoundTable) Refusal) → NamedLevel deeper image (key_before deeper t) rest r
      → NamedLevel deeper image before (n ∷ rest) (in_front (t ∷ []) r)
  with_first before n rest t named (Ok ts) is = (t, named, (ts, is, refl))
  with_first before n rest t named (Err e) is = inr (t, named, inl is)

  then_front : (front : List FoundTable) (t : FoundTable) (r : Result (List FoundTable) Refusal)
      → in_front front (in_front (t ∷ []) r) ≡ in_front (front ++ t ∷ []) r
  then_front front t (Ok ts) = ap (λ (l : List FoundTable). Ok l) (sym (append_assoc front (t ∷ []) ts))
  then_front front t (Err e) = refl

  pub one_opened : (all : List ℕ) (opened : List FoundTable) (n : ℕ) (rest : List ℕ) (t : FoundTable)
      → AreOpened all opened (n ∷ rest) → StandsTable image n t → IsAbove (last_before deeper opened) (first_key t)
      → AreOpened all (opened ++ t ∷ []) rest
  one_opened all opened n rest t so stands above = record {
    goes_on = λ r is. subst (NamedLevel deeper image None all) (then_front opened t r)
        (so.goes_on (in_front (t ∷ []) r) (with_first (last_before deeper opened) n rest t (stands, above) r
        (subst (λ (k : Option (List ℕ)). NamedLevel deeper image k rest r) (last_of deeper opened t) is)));
  }

  -- the next one is damaged
  pub next_damaged : (all : List ℕ) (opened : List FoundTable) (n : ℕ) (rest : List ℕ) (place : ℕ)
      → AreOpened all opened (n ∷ rest) → IsBadTable image (last_before deeper opened) n place
      → NamedLevel deeper image None all (Err (Damaged (Table n) place))
  next_damaged all opened n rest place so bad = so.goes_on (Err (Damaged (Table n) place)) (inl (place, bad, refl))

  -- or isn't opened
  pub table_refused : (all : List ℕ) (opened : List FoundTable) (n : ℕ) (rest : List ℕ) → AreOpened all opened (n ∷ rest)
      → (e : OpenError) → IsNoTable image n e → AnswersStage (NamedLevel deeper image None all) (Err e)
  table_refused all opened n rest so why.NotAStore is = absurd is
  table_refused all opened n rest so (why.NewerFormat format) is = absurd is
  table_refused all opened n rest so (why.Damaged name place) is =
      subst (λ (x : Name). NamedLevel deeper image None all (Err (Damaged x place))) (sym is.1)
      (next_damaged all opened n rest place so (is.0 (last_before deeper opened)))
  table_refused all opened n rest so (why.Exhausted counter) is = absurd is
  table_refused all opened n rest so why.NoMemory is = tt
  table_refused all opened n rest so (why.Disk name) is = tt

  -- or isn't behind the one before it
  pub next_refused : (all : List ℕ) (opened : List FoundTable) (n : ℕ) (rest : List ℕ) (t : FoundTable) → AreOpened all opened (n ∷ rest)
      → StandsTable image n t → (e : OpenError) → IsNotNext (last_before deeper opened) t e
      → AnswersStage (NamedLevel deeper image None all) (Err e)
  next_refused all opened n rest t so stands why.NotAStore is = absurd is
  next_refused all opened n rest t so stands (why.NewerFormat format) is = absurd is
  next_refused all opened n rest t so stands (why.Damaged name place) (low, at, named) =
      subst (λ (x : Name). NamedLevel deeper image None all (Err (Damaged x place)))
      (sym (named ∙ ap Table stands.numbered))
      (next_damaged all opened n rest place so (not_above t stands low (at ∙ stands.reads.place)))
  next_refused all opened n rest t so stands (why.Exhausted counter) is = absurd is
  next_refused all opened n rest t so stands why.NoMemory is = tt
  next_refused all opened n rest t so stands (why.Disk name) is = absurd is

  pub all_opened : (all : List ℕ) (opened : List FoundTable) → AreOpened all opened [] → NamedLevel deeper image None all (Ok opened)
  all_opened all opened so = subst (λ (l : List FoundTable). NamedLevel deeper image None all (Ok l))
      (append-nil opened) (so.goes_on (Ok []) refl)

-- memory may have run out behind it, but the disk didn't fail
no_disk_fault : (before : Option (List ℕ)) (t : FoundTable) (n : ℕ) (e : OpenError) → IsNotNext before t e
    → IsDiskFault n (recovery_by e) → ⊥
no_disk_fault before t n why.NotAStore is fault = fault
no_disk_fault before t n (why.NewerFormat format) is fault = fault
no_disk_fault before t n (why.Damaged name place) is fault = fault
no_disk_fault before t n (why.Exhausted counter) is fault = fault
no_disk_fault before t n why.NoMemory is fault = fault
no_disk_fault before t n (why.Disk name) is fault = is

false_true : false ≡ true → ⊥
false_true e = cc

pub not_next_handed : {B : Type 0} (before : Option (List ℕ)) (t : FoundTable) (n : ℕ) (e : OpenError) (result : Result B OpenError)
    → IsErr result → IsErrAnd result (λ f. f ≡ e) → IsNotNext before t e → FailsAtDisk n result → ⊥
not_next_handed before t n e (Ok x) failed same is fault = absurd (false_true failed)
not_next_handed before t n e (Err f) failed same is fault = no_disk_fault before t n f (subst (IsNotNext before t) (sym same) is) fault

-- ---- levels

module _ (image : Image) where
  -- so many levels were opened, and the next one is a deeper one or not
  pub record AreLevelsOpened (all : List (List ℕ)) (opened : List (List FoundTable)) (deeper : Bool) (rest : List (List ℕ)) : Type 0 where
    pub goes_on : (r : Result (List (List FoundTable)) Refusal) → NamedLevels deeper image rest r
        → NamedLevels false image all (in_front opened r)

  levels_none : (r : Result (List (List FoundTable)) Refusal) → r ≡ in_front [] r
  levels_none (Ok xs) = refl
  levels_none (Err e) = refl

  pub no_levels : (all : List (List ℕ)) → AreLevelsOpened all [] false all
  no_levels all = record { goes_on = λ r is. subst (NamedLevels false image all) (levels_none r) is }

  with_level : (deeper : Bool) (ns : List ℕ) (rest : List (List ℕ)) (ts : List FoundTable) → NamedLevel deeper image None ns (Ok ts)
      → (r : Result (List (List FoundTable)) Refusal) → NamedLevels true image rest r
      → NamedLevels deeper image (ns ∷ rest) (in_front (ts ∷ []) r)
  with_level deeper ns rest ts level (Ok others) is = (ts, level, (others, is, refl))
  with_level deeper ns rest ts level (Err e) is = inr (ts, level, inl is)

  levels_front : (front : List (List FoundTable)) (ts : List FoundTable) (r : Result (List (List FoundTable)) Refusal)
      → in_front front (in_front (ts ∷ []) r) ≡ in_front (front ++ ts ∷ []) r
  levels_front front ts (Ok others) = ap (λ (l : List (List FoundTable)). Ok l) (sym (append_assoc front (ts ∷ []) others))
  levels_front front ts (Err e) = refl

  pub one_level : (all : List (List ℕ)) (opened : List (List FoundTable)) (deeper : Bool) (ns : List ℕ)
      (rest : List (List ℕ)) (ts : List FoundTable)
      → AreLevelsOpened all opened deeper (ns ∷ rest) → NamedLevel deeper image None ns (Ok ts)
      → AreLevelsOpened all (opened ++ ts ∷ []) true rest
  one_level all opened deeper ns rest ts so level = record {
    goes_on = λ r is. subst (NamedLevels false image all) (levels_front opened ts r)
        (so.goes_on (in_front (ts ∷ []) r) (with_level deeper ns rest ts level r is));
  }

  -- the next one isn't opened
  pub level_refused : (all : List (List ℕ)) (opened : List (List FoundTable)) (deeper : Bool) (ns : List ℕ)
      (rest : List (List ℕ)) (why : Refusal)
      → AreLevelsOpened all opened deeper (ns ∷ rest) → NamedLevel deeper image None ns (Err why)
      → NamedLevels false image all (Err why)
  level_refused all opened deeper ns rest why so refused = so.goes_on (Err why) (inl refused)

  pub levels_opened : (all : List (List ℕ)) (opened : List (List FoundTable)) (deeper : Bool) → AreLevelsOpened all opened deeper []
      → NamedLevels false image all (Ok opened)
  levels_opened all opened deeper so =
      subst (λ (l : List (List FoundTable)). NamedLevels false image all (Ok l)) (append-nil opened) (so.goes_on (Ok []) refl)

  -- ---- the logs that they lead into

  -- so many logs were tested
  pub record AreTested (all rest : List ℕ) : Type 0 where
    pub goes_on : (r : Result (Unit {0}) Refusal) → NamedLogs image rest r → NamedLogs image all r

  pub none_tested : (all : List ℕ) → AreTested all all
  none_tested all = record { goes_on = λ r is. is }

  with_log : (n : ℕ) (rest : List ℕ) (r : Result (Unit {0}) Refusal) → NamedLog image n (Ok tt) → NamedLogs image rest r
      → NamedLogs image (n ∷ rest) r
  with_log n rest (Ok u) named is = (tt, named, is)
  with_log n rest (Err why) named is = inr (tt, named, is)

  pub one_tested : (all : List ℕ) (n : ℕ) (rest : List ℕ) → AreTested all (n ∷ rest) → NamedLog image n (Ok tt) → AreTested all rest
  one_tested all n rest so named = record { goes_on = λ r is. so.goes_on r (with_log n rest r named is) }

  pub log_refused : (all : List ℕ) (n : ℕ) (rest : List ℕ) (why : Refusal) → AreTested all (n ∷ rest) → NamedLog image n (Err why)
      → NamedLogs image all (Err why)
  log_refused all n rest why so refused = so.goes_on (Err why) (inl refused)

  pub all_tested : (all : List ℕ) → AreTested all [] → NamedLogs image all (Ok tt)
  all_tested all so = so.goes_on (Ok tt) refl

-- one table more, as it is found
pub found_more : {H : Type 0} (ts more : List (OpenTable H)) (t : OpenTable H) → more ≡ ts ++ t ∷ []
    → found_list ts ++ found_table t ∷ [] ≡ found_list more
found_more ts more t is = sym (map-append found_table ts (t ∷ [])) ∙ ap found_list (sym is)

pub levels_more : {H : Type 0} (ls more : List (Vec (OpenTable H) Global)) (l : Vec (OpenTable H) Global) → more ≡ ls ++ l ∷ []
    → map found_level ls ++ found_level l ∷ [] ≡ map found_level more
levels_more ls more l is = sym (map-append found_level ls (l ∷ [])) ∙ ap (map found_level) (sym is)

-- in a deeper level the last key of the last one
pub last_at : {H : Type 0} (ts : List (OpenTable H)) (d : OpenTable H) → 1 ≤ length ts
    → last_before true (found_list ts) ≡ Some (last_key (found_table (get_or ts (length ts - 1) d)))
last_at [] d some = absurd (omega (arith, some))
last_at (t ∷ []) d some = refl
last_at {H = H} (t ∷ u ∷ us) d some =
    let rest : length (u ∷ us) - 1 ≡ length us = omega arith in
    let all : length (t ∷ u ∷ us) - 1 ≡ suc (length us) = omega arith in
    last_at (u ∷ us) d (omega arith)
    ∙ ap (λ (k : ℕ). Some (last_key (found_table (get_or (u ∷ us) k d)))) rest
    ∙ sym (ap (λ (k : ℕ). Some (last_key (found_table (get_or (t ∷ u ∷ us) k d)))) all)

-- ---- they are held as reads give them

module _ {H : Type 0} (bytes_of : H → Option (List ℕ)) (image : Image) where
  pub no_held : AreReadTables bytes_of image []
  no_held = tt

  held_behind : (ts us : List (OpenTable H)) → AreReadTables bytes_of image ts → AreReadTables bytes_of image us
      → AreReadTables bytes_of image (ts ++ us)
  held_behind [] us first second = second
  held_behind (t ∷ ts) us first second = (first.0, held_behind ts us first.1 second)

  -- one table more
  pub held_more : (ts more : List (OpenTable H)) (t : OpenTable H) (number : ℕ) → more ≡ ts ++ t ∷ [] → number_of t ≡ number
      → AreReadTables bytes_of image ts → bytes_of t.held ≡ get image (Table number) → AreReadTables bytes_of image more
  held_more ts more t number is numbered so one =
      subst (AreReadTables bytes_of image) (sym is)
      (held_behind ts (t ∷ []) so (one ∙ ap (λ (n : ℕ). get image (Table n)) (sym numbered), tt))

  -- one level more
  pub level_held : (ls more : List (Vec (OpenTable H) Global)) (l : Vec (OpenTable H) Global) → more ≡ ls ++ l ∷ []
      → AreReadTables bytes_of image (tables_of ls) → AreReadTables bytes_of image l.items → AreReadTables bytes_of image (tables_of more)
  level_held ls more l is so one =
      subst (λ (xs : List (Vec (OpenTable H) Global)). AreReadTables bytes_of image (tables_of xs)) (sym is)
      (subst (AreReadTables bytes_of image) (flat_map_more (λ (level : Vec (OpenTable H) Global). level.items) [] ls l)
      (held_behind (tables_of ls) l.items so one))
