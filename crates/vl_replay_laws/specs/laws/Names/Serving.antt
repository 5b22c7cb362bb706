-- What an engine is to a replayer behind one of its calls: it stands for a history and a layout, steps on files find what they ask,
-- and the disk holds the layout, where a store might be opened on it at first.
use Rattle.std.specs.Prelude.{◌≡◌, ℕ, Bool, IsTrue, List, Option, None}
use Rattle.vl_disk.specs.DiskState.{DiskState}
use Rattle.vl_engine_laws.specs.Represents as engine
use Rattle.vl_engine_laws.specs.MayStep.{Fits}
use Rattle.vl_engine_laws.specs.declared.kept.Core.{Core}
use Rattle.vl_engine_model.specs.Decides.{Decides, Effects, Otherwise, Outcome}
use Rattle.vl_engine_model.specs.Ruling.{Ruling}
use Rattle.vl_engine_model.specs.declared.layout.Layout.{Layout}
use Rattle.vl_model.specs.History.{History}
use Rattle.vl_replay_laws.specs.Replaying.{StandsIn}
use Rattle.vl_script_model.specs.Sequential.{State, history_of}
use Rattle.vl_replay_laws.specs.declared.open.Open.{Open}

pub record Serves {H : Type 0} (bytes : H → Option (List ℕ)) (seen : Option DiskState) (openable : Bool) (core : Core H)
    (h : History) (l : Layout) : Type 0 where
  pub stands : engine.StandsFor bytes core h l
  pub fits : Fits seen core h l
  pub held : IsTrue openable → l.halted ≡ None → engine.IsHeld core.back seen h l

module _ {H R : Type 0} (bytes : H → Option (List ℕ)) (seen : Option DiskState) (core : Core H) (os : List (Open H R)) (s : State)
    (stands : StandsIn bytes seen core os s) where
  -- so it is to a replayer
  pub serves : Serves bytes seen s.openable core (history_of s) s.store.layout
  serves = record { stands = stands.engine; fits = stands.fits; held = λ openable running. stands.held openable }

  -- whose engine represents the state then
  pub represents : IsTrue s.openable → engine.Represents bytes core seen (history_of s) s.store.layout
  represents openable = record { stands = stands.engine; held = λ running. stands.held openable }

-- What is decided of each is decided of all.
pub decides_all : {H A : Type 0} (bytes : H → Option (List ℕ)) (seen : Option DiskState) (openable : Bool) (core : Core H)
    (h : History) (l : Layout) (ruling : Ruling A) (otherwise : Otherwise) (outcome : Outcome A) (effects : Effects)
    → Decides (engine.StandsFor bytes core) h l ruling otherwise outcome effects
    → Decides (Fits seen core) h l ruling otherwise outcome effects
    → (IsTrue openable → Decides (engine.Represents bytes core seen) h l ruling otherwise outcome effects)
    → Decides (Serves bytes seen openable core) h l ruling otherwise outcome effects
decides_all bytes seen openable core h l ruling otherwise outcome effects stands fits represents = record {
  answered = λ a is. (
    (stands.answered a is).0,
    record {
      stands = (stands.answered a is).1;
      fits = (fits.answered a is).1;
      held = λ it. ((represents it).answered a is).1.held;
    },
  );
  did = stands.did;
  no_memory = λ is. (
    record {
      stands = (stands.no_memory is).0;
      fits = (fits.no_memory is).0;
      held = λ it. ((represents it).no_memory is).0.held;
    },
    (stands.no_memory is).1,
  );
  failed = λ name is. (
    (stands.failed name is).0,
    record {
      stands = (stands.failed name is).1;
      fits = (fits.failed name is).1;
      held = λ it. ((represents it).failed name is).1.held;
    },
  );
  damaged = λ name place is. (
    record {
      stands = (stands.damaged name place is).0;
      fits = (fits.damaged name place is).0;
      held = λ it. ((represents it).damaged name place is).0.held;
    },
    (stands.damaged name place is).1,
  );
}
