-- What cursors over tables have left, merged.
use Rattle.std.proofs.Common.{◌≡◌, ℕ, zero, suc, ◌<◌, Bool, true, false, ◌⊎◌, inl, inr, List, [], ◌∷◌, ◌++◌, length}
use Rattle.std.proofs.Common.{get_or, refl, ap, sym, subst, ◌∙◌, arith, Option, Some, append-nil}
use Rattle.std.specs.Prelude.{map, if◌then◌else◌, unwrap_or}
use Rattle.std.specs.List.{AllByRecursion, AllZip, filter, flat_map, slice_get}
use Rattle.std.specs.Ordering.{is_gt}
use Rattle.std.proofs.lemmas.List.Elements.{filter-append}
use Rattle.vl_model.specs.Cutting.{joined}
use Rattle.vl_compact.specs.Keys.{behind, span_behind}
use Rattle.vl_compact.specs.Laid.{AreTablesOf, IsTableOf}
use Rattle.vl_compact.specs.Lefts.{HasBehind}
use Rattle.vl_compact.specs.Walking.{is_behind}
use Rattle.vl_compact.specs.laws.BehindLaws.{within-behind}
use Rattle.vl_compact.specs.laws.Chosen.{all-filter}
use Rattle.vl_table.specs.declared.body.shape.TableShape.{TableShape}
use Rattle.vl_disk.specs.declared.name.Name.{Name}
use Rattle.vl_disk.specs.declared.name.Name.TheVariants.{Table as table_name}
use Rattle.vl_engine_model.specs.Sources.{table_entries}
use Rattle.vl_engine_model.specs.declared.table.Table as laid
use Rattle.vl_merge.specs.MergeOf.{OneMayFail}
use Rattle.vl_model.specs.Merging.{IsAlong, IsFirst}
use Rattle.vl_model.specs.Entries.{entry_cmp}
use Rattle.vl_model.specs.declared.entry.Entry.{Entry}
use Rattle.vl_model.specs.declared.way.Way.TheVariants.{Up}
use Rattle.vl_model.specs.EntryOrder.{within}
use Rattle.vl_model.specs.laws.OrderLaws.{IsBefore, IsRising, rising}
use Rattle.vl_table.specs.CursorParts.{MayFailOn}
use Rattle.vl_table.specs.Seeks.{IsBadBlock}
use Rattle.vl_table.specs.Tables.{AreSame, number_of, shape_of}
use Rattle.vl_disk.specs.declared.read_fault.ReadFault.{ReadFault}
use Rattle.vl_disk.specs.declared.read_fault.ReadFault.TheVariants.{NoMemory, Disk, Damaged}
use Rattle.vl_table.specs.declared.table.Table.{Table}

-- ---- one table

first_before : (e : Entry) (es : List Entry) → IsBefore e es → IsFirst Up e es
first_before e [] before = tt
first_before e (f ∷ fs) before = (ap is_gt before.0, first_before e fs before.1)

rising_along : (es : List Entry) → IsRising es → IsAlong Up es
rising_along [] up = tt
rising_along (e ∷ es) up = (first_before e es up.0, rising_along es up.1)

along_filter : (p : Entry → Bool) (es : List Entry) → IsAlong Up es → IsAlong Up (filter p es)
along_filter p [] along = tt
along_filter p (e ∷ es) along = by (p e) (along_filter p es along.1)
  where
    by : (b : Bool) → IsAlong Up (filter p es) → IsAlong Up (if b then e ∷ filter p es else filter p es)
    by true later = (all-filter (λ f. is_gt (entry_cmp e f) ≡ false) p es along.0, later)
    by false later = later

-- what is behind a key in the only table
pub one_left : (after : Option (List ℕ)) (es : List Entry) → within (span_behind after) (joined (es ∷ [])) ≡ behind after es
one_left after es = ap (within (span_behind after)) (append-nil es) ∙ within-behind after es

module _ {H : Type 0} (bytes : H → Option (List ℕ)) where
  along_of : (after : Option (List ℕ)) (table : Table H) (t : laid.Table) → IsTableOf bytes table t → IsAlong Up (behind after t.entries)
  along_of after table t is = along_filter (is_behind after) t.entries
      (rising_along t.entries (rising t.entries is.of.shape.table.tabled.ordered))

  pub all_along : (after : Option (List ℕ)) (tables : List (Table H)) (ts : List laid.Table) → AreTablesOf bytes tables ts
      → AllByRecursion (IsAlong Up) (map (λ (t : laid.Table). behind after t.entries) ts)
  all_along after [] [] are = tt
  all_along after [] (t ∷ ts) are = absurd are
  all_along after (table ∷ tables) [] are = absurd are
  all_along after (table ∷ tables) (t ∷ ts) are = (along_of after table t are.0, all_along after tables ts are.1)

  -- ---- faults

  pub only : (table t : Table H) (i : ℕ) → slice_get (table ∷ []) i ≡ Some t → Some table ≡ Some t
  only table t zero is = is
  only table t (suc i) is = absurd (none i is)
    where
      none : (i : ℕ) → slice_get [] i ≡ Some t → ⊥
      none zero is = cc
      none (suc i) is = cc

  -- a table that is shared fails as it does
  pub fails_shared : (size_of : H → ℕ) (name_of : H → Name) (table copy : Table H) → AreSame bytes size_of name_of table copy
      → (fault : ReadFault) → MayFailOn bytes (copy ∷ []) fault → MayFailOn bytes (table ∷ []) fault
  fails_shared size_of name_of table copy same NoMemory may = tt
  fails_shared size_of name_of table copy same (Disk name) may =
      let is : copy ≡ may.1 = ap (λ (o : Option (Table H)). unwrap_or o copy) (only copy may.1 may.0 may.2) in (
        0,
        table,
        refl,
        may.3 ∙ ap (λ (u : Table H). table_name (number_of u)) (sym is)
            ∙ ap (λ (s : TableShape). table_name s.number) same.shape,
      )
  fails_shared size_of name_of table copy same (Damaged name place) may =
      let is : copy ≡ may.1 = ap (λ (o : Option (Table H)). unwrap_or o copy) (only copy may.1 may.0 may.2) in (
        0,
        table,
        refl,
        may.3 ∙ ap (λ (u : Table H). table_name (number_of u)) (sym is) ∙ ap (λ (s : TableShape). table_name s.number) same.shape,
        λ all told. subst (λ (s : TableShape). IsBadBlock s all place) (ap (λ (u : Table H). shape_of u) (sym is) ∙ same.shape)
            (may.4 all (ap (λ (u : Table H). bytes u.held) (sym is) ∙ same.bytes ∙ told)),
      )

pub item_there : {A : Type 0} (xs : List A) (i : ℕ) (x : A) → i < length xs → x ≡ get_or xs i x → slice_get xs i ≡ Some x
item_there [] i x within is = absurd (omega arith)
item_there (a ∷ xs) zero x within is = ap (λ y. Some y) (sym is)
item_there (a ∷ xs) (suc i) x within is = item_there xs i x (omega arith) is

-- ---- several

module _ {C : Type 0} (left : C → Option (List Entry)) (after : Option (List ℕ)) where
  pub all_left : (cs : List C) (ts : List laid.Table) → AllZip (HasBehind left after) cs ts
      → map left cs ≡ map Some (map (λ (t : laid.Table). behind after t.entries) ts)
  all_left [] [] zip = refl
  all_left [] (t ∷ ts) zip = absurd zip
  all_left (c ∷ cs) [] zip = absurd zip
  all_left (c ∷ cs) (t ∷ ts) zip =
      ap (λ l. l ∷ map left cs) zip.0 ∙ ap (λ l. Some (behind after t.entries) ∷ l) (all_left cs ts zip.1)

pub behind_all : (after : Option (List ℕ)) (ts : List laid.Table)
    → flat_map (λ (es : List Entry). es) (map (λ (t : laid.Table). behind after t.entries) ts) ≡ behind after (flat_map table_entries ts)
behind_all after [] = refl
behind_all after (t ∷ ts) =
    ap (λ l. behind after t.entries ++ l) (behind_all after ts)
    ∙ sym (filter-append (is_behind after) t.entries (flat_map table_entries ts))

module _ {C F : Type 0} (may : C → F → Type 0) where
  pub one_more : (cs : List C) (c : C) (fault : F) → OneMayFail may (cs ++ c ∷ []) fault → OneMayFail may cs fault ⊎ may c fault
  one_more [] c fault (inl it) = inr it
  one_more [] c fault (inr none) = absurd none
  one_more (d ∷ cs) c fault (inl it) = inl (inl it)
  one_more (d ∷ cs) c fault (inr later) = by (one_more cs c fault later)
    where
      by : OneMayFail may cs fault ⊎ may c fault → (may d fault ⊎ OneMayFail may cs fault) ⊎ may c fault
      by (inl it) = inl (inr it)
      by (inr it) = inr it

  -- a fault of these cursors, or of one more, is on some tables where each of theirs is
  pub more_fails : (P : F → Type 0) (cs : List C) (c : C) (fault : F) → (OneMayFail may cs fault → P fault) → (may c fault → P fault)
      → OneMayFail may (cs ++ c ∷ []) fault → P fault
  more_fails P cs c fault there here fails = by (one_more cs c fault fails)
    where
      by : OneMayFail may cs fault ⊎ may c fault → P fault
      by (inl it) = there it
      by (inr it) = here it
