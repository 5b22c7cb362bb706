-- Where there are no tables, and no entry in memory leads into a log, what counts of a key leads into none.
use Rattle.std.proofs.lemmas.List.{append-nil}
use Rattle.std.proofs.Common.{◌≡◌, ℕ, List, [], ◌∷◌, ◌++◌, Option, Some, None, refl, ap, sym, subst, ◌∙◌}
use Rattle.std.specs.Prelude.{IfSome, Ok}
use Rattle.std.specs.Option.{option_map}
use Rattle.vl_model.specs.Cutting.{joined}
use Rattle.vl_table.specs.body.Founds.{found_of}
use Rattle.vl_table.specs.declared.body.found.Found.{Found}
use Rattle.vl_model.specs.Winners.{newest_of, winner}
use Rattle.vl_model.specs.declared.entry.Entry.{Entry}
use Rattle.vl_table.specs.Kept.{Files}
use Rattle.vl_table.specs.KeptBlocks.{ReadsOf}
use Rattle.vl_table.specs.OfTables.{AreOf}
use Rattle.vl_table.specs.declared.block_reader.BlockReader.{BlockReader}
use Rattle.vl_table.specs.declared.table.Table.{Table}
use Rattle.vl_version.specs.Near.{AreNear, IsNearEntry}
use Rattle.vl_version.specs.Newest.{stand_in}
use Rattle.vl_version.specs.Sources.{held_entries, in_memory}
use Rattle.vl_version.specs.declared.behind.Behind.{Behind}
use Rattle.vl_version.specs.declared.levels.Levels.{Levels}
use Rattle.vl_version.specs.declared.levels.look.Look.TheVariants.{UpTo}
use Rattle.vl_version.specs.declared.version.Version.{Version}
use Rattle.vl_version.specs.laws.NoTables.{no_files, reads_of_none}
use Rattle.vl_version.specs.levels.LevelTables.{AreAllApart, all_tables}
use Rattle.vl_version.specs.levels.LevelsLooked.{AreInOrder, tables_of}
use Rattle.vl_version.specs.levels.LookedUp.{LooksOn}
use Rattle.vl_version.proofs.NewestLaws.{newest-behind}
use Rattle.vl_version.proofs.Winning.{winner-has}

-- what counts in memory is near, where all there is
pub near_winner : (es : List Entry) (key : List ℕ) (number : ℕ) → AreNear es → (o : Option Entry) → o ≡ winner es key number
    → IfSome o IsNearEntry
near_winner es key number near None is = tt
near_winner es key number near (Some e) is = winner-has key number IsNearEntry es e near (sym is)

none_newer : (held : Option Entry) → newest_of held None ≡ held
none_newer None = refl
none_newer (Some e) = refl

module _ {H : Type 0} where
  back_none : (xs ys : List (Table H)) → xs ++ ys ≡ [] → ys ≡ []
  back_none [] ys is = is
  back_none (x ∷ xs) ys is = absurd cc

  none_apart : (levels : List (List (Table H))) → all_tables levels ≡ [] → AreAllApart levels
  none_apart [] is = tt
  none_apart ([] ∷ levels) is = (tt, none_apart levels is)
  none_apart ((t ∷ ts) ∷ levels) is = absurd cc

  pub none_in_order : (levels : Levels H) → tables_of levels ≡ [] → AreInOrder levels
  none_in_order levels is = none_apart levels.deeper.items (back_none levels.newest.items (all_tables levels.deeper.items) is)

  -- what is in memory is near, also where what is behind is taken out
  pub near_behind : (version : Version H) (b : Behind H) → b ≡ version.behind → AreNear (in_memory version)
      → AreNear ((version.active.entries ++ held_entries b.frozen.items) ++ joined [])
  near_behind version b is near =
      subst (λ (c : Behind H). AreNear ((version.active.entries ++ held_entries c.frozen.items) ++ joined [])) (sym is)
      (subst AreNear (sym (append-nil (in_memory version))) near)

  module _ (bytes_of : H → Option (List ℕ)) where
    -- behind what memory has no tables add anything
    pub held_counts : {R : Type 0} (levels : Levels H) (key : List ℕ) (number : ℕ) (held : Option Entry) (newer found : Option Found)
        → newer ≡ stand_in held → (before now : ℕ) (b : BlockReader R) → tables_of levels ≡ []
        → ((files : Files) → ReadsOf bytes_of files b (tables_of levels)
        → LooksOn bytes_of (tables_of levels) (AreInOrder levels) (UpTo number) key (option_map (found_of key) newer) before now (Ok found))
        → newest_of held (option_map (found_of key) found) ≡ held
    held_counts levels key number held newer found stands before now b none answers =
        let on = answers no_files (subst (ReadsOf bytes_of no_files b) (sym none) (reads_of_none bytes_of b)) in
        let are : AreOf bytes_of (tables_of levels) [] = subst (λ (ts : List (Table H)). AreOf bytes_of ts []) (sym none) tt in
        ap (newest_of held) (on.answer (none_in_order levels none) [] are
        ∙ ap (λ (f : Option Found). newest_of (option_map (found_of key) f) None) stands)
        ∙ newest-behind key held None ∙ none_newer held
