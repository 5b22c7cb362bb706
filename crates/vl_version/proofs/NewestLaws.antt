-- What counts of a key over memory and tables, where tables are looked through behind what memory has.
use Rattle.std.proofs.Common.{◌≡◌, ℕ, Bool, true, false, cond, List, refl, ap, sym, ◌∙◌, arith}
use Rattle.std.proofs.lemmas.Bool.Decides.{nat_tests}
use Rattle.std.specs.Prelude.{nat_le, Option, Some, None, Ok}
use Rattle.std.specs.Option.{option_map}
use Rattle.vl_model.specs.Cutting.{joined}
use Rattle.vl_table.specs.body.Founds.{found_of}
use Rattle.vl_table.specs.declared.body.found.Found.{Found}
use Rattle.vl_model.specs.Winners.{Logs, newest_of, winner}
use Rattle.vl_model.specs.laws.WinnerLaws.{winner-append}
use Rattle.vl_model.specs.declared.entry.Entry.{Entry}
use Rattle.vl_version.specs.Newest.{stand_in}
use Rattle.vl_version.specs.Over.{held_winner}
use Rattle.vl_version.specs.Sources.{HasEntries, in_memory, tables_in}
use Rattle.vl_version.specs.declared.levels.look.Look.TheVariants.{UpTo}
use Rattle.vl_version.specs.declared.version.Version.{Version}
use Rattle.vl_version.specs.levels.LevelsLooked.{AreInOrder}
use Rattle.vl_version.specs.levels.LookedUp.{LooksOn}

same_version : (n : ℕ) → nat_le n n ≡ true
same_version n = grind (arith, nat_tests)

-- What is behind an entry's stand-in counts as it does behind the entry.
pub newest-behind : (key : List ℕ) (held w : Option Entry)
    → newest_of held (newest_of (option_map (found_of key) (stand_in held)) w) ≡ newest_of held w
newest-behind key None w = refl
newest-behind key (Some e) None = ap (λ b. cond b (Some e) (option_map (found_of key) (stand_in (Some e)))) (same_version e.version)
newest-behind key (Some e) (Some x) = by (nat_le x.version e.version) refl
  where
    by : (b : Bool) → nat_le x.version e.version ≡ b
        → newest_of (Some e) (newest_of (option_map (found_of key) (stand_in (Some e))) (Some x)) ≡ newest_of (Some e) (Some x)
    by true is =
        ap (λ b. newest_of (Some e) (cond b (option_map (found_of key) (stand_in (Some e))) (Some x))) is
        ∙ ap (λ b. cond b (Some e) (option_map (found_of key) (stand_in (Some e)))) (same_version e.version)
        ∙ sym (ap (λ b. cond b (Some e) (Some x)) is)
    by false is = ap (λ b. newest_of (Some e) (cond b (option_map (found_of key) (stand_in (Some e))) (Some x))) is

module _ {H : Type 0} (bytes_of : H → Option (List ℕ)) (version : Version H) (es : List Entry) (logs : Logs)
    (has : HasEntries bytes_of version es logs) (key : List ℕ) (number : ℕ) where
  -- what memory has, with what tables have above it, is the winner of all
  pub newest_wins : (found : Option Found) (before now : ℕ)
      → LooksOn bytes_of (tables_in version) (AreInOrder version.behind.levels) (UpTo number) key
      (option_map (found_of key) (stand_in (held_winner bytes_of version key number))) before now (Ok found)
      → newest_of (held_winner bytes_of version key number) (option_map (found_of key) found) ≡ winner es key number
  newest_wins found before now on =
      ap (newest_of (held_winner bytes_of version key number)) (on.answer has.in_order has.tabled has.tables)
      ∙ newest-behind key (held_winner bytes_of version key number) (winner (joined has.tabled) key number)
      ∙ sym (winner-append key number (in_memory version) (joined has.tabled))
      ∙ sym (ap (λ l. winner l key number) has.entries)
