-- Inputs that are true tables are never damaged.
use Rattle.std.specs.Prelude.{◌≡◌, ℕ, zero, suc, List, [], ◌∷◌, Option, Some, None}
use Rattle.std.specs.List.{slice_get}
use Rattle.std.proofs.Common.{inl, inr, refl, subst}
use Rattle.vl_compact.specs.Laid.{AreTablesOf}
use Rattle.vl_compact.specs.Stops.{MayStopIn}
use Rattle.vl_disk.specs.declared.name.Name.{Name}
use Rattle.vl_disk.specs.declared.read_fault.ReadFault.TheVariants.{Damaged}
use Rattle.vl_engine_model.specs.declared.table.Table as laid
use Rattle.vl_model.specs.declared.entry.Entry.{Entry}
use Rattle.vl_table.specs.Tables.{IsOf}
use Rattle.vl_table.specs.declared.table.Table.{Table}
use Rattle.vl_table.specs.laws.TrueBlocks.{no_bad_block}
use Rattle.vl_table.specs.laws.TrueOrder.{no_break}

module _ {H : Type 0} (bytes : H → Option (List ℕ)) where
  is_true : (ts : List (Table H)) (ls : List laid.Table) (i : ℕ) (t : Table H) → AreTablesOf bytes ts ls → slice_get ts i ≡ Some t
      → (es : List Entry) × IsOf bytes t es
  is_true [] [] i t are found = absurd (let no : None ≡ Some t = found in cc)
  is_true [] (l ∷ ls) i t are found = absurd are
  is_true (x ∷ ts) [] i t are found = absurd are
  is_true (x ∷ ts) (l ∷ ls) zero t are found = (l.entries, subst (λ (y : Table H). IsOf bytes y l.entries) (some_same x t found) are.0.of)
    where
      some_same : (a b : Table H) → Some a ≡ Some b → a ≡ b
      some_same a b e = cc
  is_true (x ∷ ts) (l ∷ ls) (suc i) t are found = is_true ts ls i t are.1 found

  pub no_damage : (after : Option (List ℕ)) (ts : List (Table H)) (ls : List laid.Table) (name : Name) (place : ℕ)
      → AreTablesOf bytes ts ls → MayStopIn bytes after ts (Damaged name place) → ⊥
  no_damage after ts ls name place are (i, t, found, named, why) =
      let (es, is) = is_true ts ls i t are found in
      elim why [
        | inl stops ↦ no_bad_block bytes t es place is (stops.bad _ is.told)
        | inr breaks ↦ no_break bytes t es place is breaks
      ]
