-- What a disk gives never fails behind a sweep either, where that was so before.
use Rattle.std.specs.Prelude.{◌≡◌, ℕ, List, [], ◌∷◌, Option, None, Some, Result, Ok, Err}
use Rattle.std.proofs.Common.{subst, sym}
use Rattle.vl_compact.specs.declared.files.Lent.{Lent}
use Rattle.vl_disk.specs.declared.errors.Failed.{Failed}
use Rattle.vl_disk.specs.declared.name.Name.{Name}
use Rattle.vl_disk.specs.declared.watched.Watched.{Ghosts}
use Rattle.vl_disk.specs.declared.writer.Writer.{Ghosts as Writers}
use Rattle.vl_engine_laws.specs.declared.kept.Core.{Core}
use Rattle.vl_pins.specs.declared.retired_file.RetiredFile.{RetiredFile}
use Rattle.vl_space.specs.Sweeping.{RemovesAll, RemovesOne, SweepsAs, TakesIfLent, ready}
use Rattle.vl_space.specs.declared.fails.SweepFail.TheVariants as fails
use Rattle.vl_space.specs.declared.fails.SweepFail.{SweepFail}
use Rattle.vl_space.specs.declared.kept.Removing.{Removing}

same_steady : {D : Type 0} (g : Ghosts D) (old new : D) → new ≡ old → g.gives_steady old → g.gives_steady new
same_steady g old new same gives = subst g.gives_steady (sym same) gives

module _ {D W : Type 0} (g : Ghosts D) (w : Writers W) {s : _} where
  take_steady : (lent : Option (Lent W s)) (name : Name) (old new : D) → TakesIfLent g w lent name old new
      → g.gives_steady old → g.gives_steady new
  take_steady None name old new same gives = same_steady g old new same gives
  take_steady (Some file) name old new adopts gives = adopts.time.steady gives

  one_steady : (file : RetiredFile (Lent W s)) (old new : D) (result : Result (Unit {0}) Failed)
      → RemovesOne g w file old new result → g.gives_steady old → g.gives_steady new
  one_steady file old new result one gives =
      one.removes.as_call.time.steady (take_steady file.lent file.name old one.mid one.takes gives)

  all_steady : (files : List (RetiredFile (Lent W s))) (old new : D) → RemovesAll g w files old new
      → g.gives_steady old → g.gives_steady new
  all_steady [] old new all gives = same_steady g old new all gives
  all_steady (file ∷ files) old new all gives =
      all_steady files all.0 new all.2 (one_steady file old all.0 (Ok tt) all.1 gives)

  pub sweep_steady : {H : Type 0} (bound : ℕ) (old new : D) (core after : Core H) (before now : Removing (Lent W s))
      (result : Result ℕ SweepFail) → SweepsAs g w bound old new core after before now result
      → g.gives_steady old → g.gives_steady new
  sweep_steady bound old new core after before now (Ok count) did gives =
      all_steady (ready bound before.stock.trash.items) old new did.2.removes gives
  sweep_steady bound old new core after before now (Err (fails.Halted name)) did gives = same_steady g old new did.2 gives
  sweep_steady bound old new core after before now (Err (fails.Disk name)) did gives =
      let stops = did.2 in
      one_steady stops.at stops.mid new (Err stops.failed) stops.stops (all_steady stops.before old stops.mid stops.went gives)
