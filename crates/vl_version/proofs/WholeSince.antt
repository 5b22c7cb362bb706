-- What stands of shared tables that have something newer stands of the tables themselves.
use Rattle.std.proofs.Common.{◌≡◌, Bool, true, false, cond, List, [], ◌∷◌, map, ℕ, ap, sym, ◌∙◌, subst, Option}
use Rattle.std.specs.List.{AllByRecursion, AllZip}
use Rattle.vl_model.specs.declared.entry.Entry.{Entry}
use Rattle.vl_model.specs.declared.span.Span.{Span}
use Rattle.vl_model.specs.declared.way.Way.{Way}
use Rattle.vl_model.specs.declared.way.Way.TheVariants.{Up}
use Rattle.vl_table.specs.MayHold.{meets}
use Rattle.vl_table.specs.ReadTo.{IsCopied, TablesReadTo}
use Rattle.vl_table.specs.Tables.{shape_of}
use Rattle.vl_table.specs.declared.table.Table.{Table}
use Rattle.vl_table.specs.laws.SharedBlocks.{read_alike}
use Rattle.vl_version.specs.Changes.{AreLevelsSince, AreReadSince, AreTablesSince, everywhere, nothing, tables_since}
use Rattle.vl_version.specs.Shared.{AreSameTables, IsSameTable}
use Rattle.vl_version.specs.Whole.{AllReadTo, EachReadTo, LevelsReadTo, MetReadTo, met_of}
use Rattle.vl_version.specs.declared.levels.Levels.{Levels}

module _ {H : Type 0} (bytes_of : H → Option (List ℕ)) where
  -- those of shared tables that meet an interval are shared of those that do
  met_shared : (span : Span) (ts cs : List (Table H)) → AreSameTables bytes_of ts cs → AllZip (IsCopied bytes_of) (met_of span ts) (met_of span cs)
  met_shared span [] [] same = tt
  met_shared span [] (c ∷ cs) same = absurd same
  met_shared span (t ∷ ts) [] same = absurd same
  met_shared span (t ∷ ts) (c ∷ cs) same =
      subst (λ (b : Bool). AllZip (IsCopied bytes_of) (cond (meets span (shape_of t)) (t ∷ met_of span ts) (met_of span ts))
      (cond b (c ∷ met_of span cs) (met_of span cs)))
      (sym (ap (λ s. meets span s) same.0.shape)) (by (met_shared span ts cs same.1) (meets span (shape_of t)))
    where
      by : AllZip (IsCopied bytes_of) (met_of span ts) (met_of span cs) → (b : Bool)
          → AllZip (IsCopied bytes_of) (cond b (t ∷ met_of span ts) (met_of span ts)) (cond b (c ∷ met_of span cs) (met_of span cs))
      by later true = (record { shape = same.0.shape; bytes = same.0.bytes }, later)
      by later false = later

  read_shared : (span : Span) (way : Way) (is_met : Entry → Bool) (ts cs : List (Table H)) → AreSameTables bytes_of ts cs
      → MetReadTo bytes_of span way is_met cs → MetReadTo bytes_of span way is_met ts
  read_shared span way is_met ts cs same to =
      read_alike bytes_of span way is_met (met_of span ts) (met_of span cs) (met_shared span ts cs same) to

  each_shared : (span : Span) (way : Way) (is_met : Entry → Bool) (ts cs : List (Table H)) → AreSameTables bytes_of ts cs
      → EachReadTo bytes_of span way is_met cs → EachReadTo bytes_of span way is_met ts
  each_shared span way is_met [] [] same each = tt
  each_shared span way is_met [] (c ∷ cs) same each = absurd same
  each_shared span way is_met (t ∷ ts) [] same each = absurd same
  each_shared span way is_met (t ∷ ts) (c ∷ cs) same each =
      (read_shared span way is_met (t ∷ []) (c ∷ []) (same.0, tt) each.0, each_shared span way is_met ts cs same.1 each.1)

  all_shared : (span : Span) (way : Way) (is_met : Entry → Bool) (since : ℕ) (levels copies : List (List (Table H)))
      → AllZip (AreTablesSince bytes_of since) levels copies
      → AllReadTo bytes_of span way is_met copies → AllReadTo bytes_of span way is_met (map (tables_since since) levels)
  all_shared span way is_met since [] [] same all = tt
  all_shared span way is_met since [] (c ∷ cs) same all = absurd same
  all_shared span way is_met since (l ∷ ls) [] same all = absurd same
  all_shared span way is_met since (l ∷ ls) (c ∷ cs) same all =
      (read_shared span way is_met (tables_since since l) c same.0 all.0, all_shared span way is_met since ls cs same.1 all.1)

  pub read_since : (since : ℕ) (levels copies : Levels H) → AreLevelsSince bytes_of since levels copies
      → LevelsReadTo bytes_of everywhere Up nothing copies → AreReadSince bytes_of since levels
  read_since since levels copies same to = record {
    newest = each_shared everywhere Up nothing (tables_since since levels.newest.items) copies.newest.items same.newest to.newest;
    deeper = all_shared everywhere Up nothing since levels.deeper.items copies.deeper.items same.deeper to.deeper;
  }
