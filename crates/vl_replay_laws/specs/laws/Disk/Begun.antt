-- What a replayer stands for that was just opened, and what its disk holds, by what the engine's opening gave.
use Rattle.std.proofs.Common.{◌≡◌, ◌≤◌, ℕ, List, [], refl, ap, sym, ◌∙◌, subst, arith}
use Rattle.std.specs.Prelude.{IsTrue, None, Option, Some, length}
use Rattle.vl_disk.specs.DiskState.{DiskState}
use Rattle.vl_disk.specs.Faults.{after_calls}
use Rattle.vl_disk.specs.declared.watched.Watched.{Ghosts}
use Rattle.vl_engine_laws.specs.Found.{IsBackAtStart, recovered}
use Rattle.vl_engine_laws.specs.Represents as engine
use Rattle.vl_engine_laws.specs.MayStep.{Fits}
use Rattle.vl_engine_laws.specs.declared.kept.Core.{Core}
use Rattle.vl_space.specs.Collecting.{Collects}
use Rattle.vl_space.specs.declared.kept.Collecting.{Collecting}
use Rattle.vl_engine_model.specs.Relocation.{Candidate, Pass}
use Rattle.vl_engine_model.specs.Start.{layout_at_start}
use Rattle.vl_engine_model.specs.Store.Lines.{Name}
use Rattle.vl_engine_model.specs.Store.Things as store
use Rattle.vl_engine_model.specs.Store.Things.{APass, thing_in}
use Rattle.vl_engine_model.specs.declared.layout.Layout.{Layout}
use Rattle.vl_model.specs.History.{History}
use Rattle.vl_model.specs.Limits.{max_room}
use Rattle.vl_recover.specs.crash.Meanwhile.{IsRepaired}
use Rattle.vl_recover.specs.opening.Answers.{calls_to_open}
use Rattle.vl_script_model.specs.Durable.{HoldsState}
use Rattle.vl_replay_laws.specs.Passing.{PassesIn}
use Rattle.vl_replay_laws.specs.Replaying.{StandsIn}
use Rattle.vl_script_model.specs.Sequential.{State, history_of}
use Rattle.vl_replay_laws.specs.Standing.{Stand}
use Rattle.vl_script_model.specs.Start.{StartsIn, start_proper}
use Rattle.vl_script_model.specs.Stored.{IsStored}
use Rattle.vl_replay_laws.specs.declared.open.Open.{Open}
use Rattle.vl_script_model.specs.laws.Explained.{none_sound}
use Rattle.vl_script_model.specs.laws.HeldDisk.{stored_by}
use Rattle.vl_script_model.specs.laws.Recovering.{opened_numbered}

-- where no name stands for anything none does here
none_stand : {H R : Type 0} (bytes : H → Option (List ℕ)) (h : History) (l : Layout) → Stand {R = R} bytes [] [] h l
none_stand bytes h l = record { each = λ name. tt; once = tt; apart = λ name other x y is. absurd cc }

module _ {D H : Type 0} (g : Ghosts D) (bytes : H → Option (List ℕ)) (disk : D) (s : State) (starts : StartsIn g disk s)
    (core : Core H) (back : IsBackAtStart starts.found core.back) where
  abbrev its : Layout
  its = layout_at_start max_room (recovered starts.found starts.shown)

  -- the next log's number is above what the manifest gives
  next_within : core.back.state.next_log ≤ core.back.next_log
  next_within =
      let state = ap (λ (x : _). x.next_log) back.state in
      let next = back.next_log in
      omega (arith, state, next)

  -- It stands for the state in which a run begins.
  pub opened_stands : {R : Type 0} (opens : List (Open H R)) (seen : Option DiskState) → opens ≡ []
      → engine.StandsFor bytes core (history_of s) its → Fits seen core (history_of s) its
      → (IsTrue s.openable → engine.Represents bytes core seen (history_of s) its) → StandsIn bytes seen core opens s
  opened_stands {R} opens seen none stands fits represents = record {
    engine = subst (λ (l : Layout). engine.StandsFor bytes core (history_of s) l) (sym starts.layout) stands;
    names = subst (λ (os : List (Open H R)). Stand bytes os s.store.things (history_of s) s.store.layout) (sym none)
        (subst (λ (ts : List (Name × store.Thing)). Stand {R = R} bytes [] ts (history_of s) s.store.layout) (sym starts.things)
        (none_stand bytes (history_of s) s.store.layout));
    sound = none_sound s.store (start_proper s starts.proper starts.things) starts.things;
    held = λ openable. subst (engine.IsHeld core.back seen (history_of s)) (sym starts.layout) ((represents openable).held refl);
    running = ap (λ (l : Layout). l.halted) starts.layout;
    fits = subst (λ (l : Layout). Fits seen core (history_of s) l) (sym starts.layout) fits;
    within = next_within;
  }

  -- The disk behind it holds that state.
  pub opened_holds : (now : D) → IsTrue s.openable → engine.Represents bytes core (g.told now) (history_of s) its
      → IsRepaired starts.read starts.state (g.told now)
      → g.calls now ≡ after_calls (calls_to_open starts.found (length starts.strays)) (g.calls disk) → HoldsState g IsStored s now
  opened_holds now openable represents repaired calls =
      let log = starts.files.log in
      let next = starts.files.next.log in
      let table = starts.files.next.table in
      record {
        calls = calls ∙ sym starts.calls;
        there = stored_by bytes core (g.told now) s (history_of s) its starts.layout refl openable refl represents next_within
            (omega (arith, log, next)) table
            (λ state told. opened_numbered g disk s starts state (subst (IsRepaired starts.read starts.state) told repaired));
      }

  -- No pass is open.
  pub opened_passes : {R : Type 0} (collecting : Collecting) → Collects core collecting its
      → PassesIn {H = H} {R = R} bytes core collecting None s.store
  opened_passes collecting collects = record {
    collects = subst (Collects core collecting) (sym starts.layout) collects;
    is_open = (
      ap (λ (l : Layout). l.pass) starts.layout,
      λ name p batch there. absurd (none_there p batch
          (subst (λ (ts : List (Name × store.Thing)). thing_in ts name ≡ Some (APass p batch)) starts.things there)),
    );
  }
    where
      none_there : (p : Pass) (batch : Option (List Candidate)) → None ≡ Some (APass p batch) → ⊥
      none_there p batch e = cc
