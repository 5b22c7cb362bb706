-- What of a state a line of merges asks, what one of passes does, and what a sweep.
use Rattle.std.proofs.Common.{ℕ, List}
use Rattle.std.specs.Prelude.{Option}
use Rattle.vl_disk.specs.declared.watched.Watched.{Ghosts}
use Rattle.vl_disk.specs.declared.writer.Writer.{Ghosts as Writers}
use Rattle.vl_version.specs.declared.base.Base.{Base}
use Rattle.vl_script_model.specs.Sequential.{State}
use Rattle.vl_replay.specs.Served.{StandsMerging, StandsPassing, StandsRemoving, StandsWith}
use Rattle.vl_replay.specs.declared.replayer.Served.{Served}
use Rattle.vl_replay_laws.specs.declared.passing.Passing.{Passing}
use Rattle.vl_replay_laws.specs.declared.planned.Planned.{Planned}

module _ {D Held Reader Writer : Type 0} {watched : _} {held : _} {cloned : _} {read : _} {write : _} {w : _}
    {g : Ghosts D} {writers : Writers Writer} {bytes : Held → Option (List ℕ)}
    {served : Served D Held Reader Writer watched held cloned read write} {planned : Option (Planned (Base Held Reader) Held Writer w)}
    {passing : Option (Passing (Base Held Reader) Held)} {s : State}
    (stands : StandsWith g writers bytes served planned passing s) where
  pub merging_of : StandsMerging g writers bytes served planned s
  merging_of = record { serves = stands.serves; merges = stands.merges }

  pub passing_of : StandsPassing g bytes served passing s
  passing_of = record { serves = stands.serves; opens = stands.merges.opens; passes = stands.passes }

  pub removing_of : StandsRemoving g bytes served s
  removing_of = record { serves = stands.serves; opens = stands.merges.opens; removes = stands.removes }
