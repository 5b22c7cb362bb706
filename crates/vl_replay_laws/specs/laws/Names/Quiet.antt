-- Lines that change only what names stand for.
use Rattle.std.proofs.Common.{◌≡◌, ℕ, Bool, true, false, cond, ◌&&◌, not, List, length, refl, ap, sym, ◌∙◌, subst}
use Rattle.std.specs.Prelude.{Option, None, Some, nat_le}
use Rattle.std.specs.FinMap.{find, put}
use Rattle.vl_disk.specs.DiskState.{DiskState}
use Rattle.vl_engine_laws.specs.Represents as engine
use Rattle.vl_engine_laws.specs.MayStep.{Fits}
use Rattle.vl_engine_laws.specs.declared.kept.Core.{Core}
use Rattle.vl_engine_model.specs.AtAnswer.{Beginning}
use Rattle.vl_engine_model.specs.Rulings.Commit.{Transaction as ATxn}
use Rattle.vl_engine_model.specs.Store.Commits.{Commits, history_in}
use Rattle.vl_engine_model.specs.Store.Lines.{Answer, Name}
use Rattle.vl_engine_model.specs.Store.Reading.{get_at_by, get_by, get_own, is_small_enough, scan_by, write_by}
use Rattle.vl_engine_model.specs.Store.Things as store
use Rattle.vl_engine_model.specs.Store.Things.{AJob, APass, ATransaction, AView, Step}
use Rattle.vl_engine_model.specs.declared.layout.Layout.{Layout}
use Rattle.vl_model.specs.Formats.{log_format}
use Rattle.vl_model.specs.Keys.{Stored, is_key_length, is_value_length, key_cmp, value_bytes}
use Rattle.vl_model.specs.Limits.{max_key_bytes}
use Rattle.vl_model.specs.declared.change.Change.{Change}
use Rattle.vl_model.specs.declared.way.Way.{Way}
use Rattle.vl_replay_laws.specs.Replaying.{StandsIn, state_by}
use Rattle.vl_script_model.specs.Sequential.{State, history_of}
use Rattle.vl_replay_laws.specs.Standing.{Stand}
use Rattle.vl_replay_laws.specs.declared.open.Open.{Open}
use Rattle.vl_script_model.specs.laws.Laws.{IsSound}

-- the commits and the layout stay
pub record IsQuiet (s : store.State) (x : Step) : Type 0 where
  pub commits : x.state.commits ≡ s.commits
  pub layout : x.state.layout ≡ s.layout

-- Then the engine stands for what it did.
pub quiet_stands : {H R : Type 0} (bytes : H → Option (List ℕ)) (seen : Option DiskState) (core : Core H)
    (os new : List (Open H R)) (s : State) (x : Step)
    → IsQuiet s.store x → StandsIn bytes seen core os s → Stand bytes new x.state.things (history_of s) s.store.layout
    → IsSound (state_by s x) → StandsIn bytes seen core new (state_by s x)
quiet_stands bytes seen core os new s x quiet stands names sound = record {
  engine = subst (λ (p : Commits). engine.StandsFor bytes core (history_in p) x.state.layout) (sym quiet.commits)
      (subst (engine.StandsFor bytes core (history_of s)) (sym quiet.layout) stands.engine);
  names = subst (λ (p : Commits). Stand bytes new x.state.things (history_in p) x.state.layout) (sym quiet.commits)
      (subst (Stand bytes new x.state.things (history_of s)) (sym quiet.layout) names);
  sound = sound;
  held = λ openable. subst (λ (p : Commits). engine.IsHeld core.back seen (history_in p) x.state.layout) (sym quiet.commits)
      (subst (engine.IsHeld core.back seen (history_of s)) (sym quiet.layout) (stands.held openable));
  running = ap (λ (l : Layout). l.halted) quiet.layout ∙ stands.running;
  fits = subst (λ (p : Commits). Fits seen core (history_in p) x.state.layout) (sym quiet.commits)
      (subst (Fits seen core (history_of s)) (sym quiet.layout) stands.fits);
  within = stands.within;
}

-- ---- which lines do

module _ (s : store.State) where
  quiet : (x : Step) → x.state.commits ≡ s.commits → x.state.layout ≡ s.layout → IsQuiet s x
  quiet x commits layout = record { commits = commits; layout = layout }

  either : (b : Bool) (x y : Step) → IsQuiet s x → IsQuiet s y → IsQuiet s (cond b x y)
  either true x y p q = p
  either false x y p q = q

  own_quiet : (name : Name) (tell : Option Stored → Answer) (t : ATxn) (b : Beginning) (key : List ℕ)
      (o : Option Change) → IsQuiet s (get_own s name tell t b key o)
  own_quiet name tell t b key (Some change) = quiet _ refl refl
  own_quiet name tell t b key None = quiet _ refl refl

  pub get_quiet : (name : Name) (tell : Option Stored → Answer) (key : List ℕ) (o : Option store.Thing)
      → IsQuiet s (get_by s name tell key o)
  get_quiet name tell key None = quiet _ refl refl
  get_quiet name tell key (Some (AJob job made)) = quiet _ refl refl
  get_quiet name tell key (Some (APass pass batch)) = quiet _ refl refl
  get_quiet name tell key (Some (AView v b)) = either (is_key_length (length key)) _ _ (quiet _ refl refl) (quiet _ refl refl)
  get_quiet name tell key (Some (ATransaction t b)) =
      either (is_key_length (length key)) _ _ (own_quiet name tell t b key (find key_cmp key t.writes)) (quiet _ refl refl)

  pub get_at_quiet : (name : Name) (key : List ℕ) (number : ℕ) (o : Option store.Thing) → IsQuiet s (get_at_by s name key number o)
  get_at_quiet name key number None = quiet _ refl refl
  get_at_quiet name key number (Some (AJob job made)) = quiet _ refl refl
  get_at_quiet name key number (Some (APass pass batch)) = quiet _ refl refl
  get_at_quiet name key number (Some (AView v b)) = quiet _ refl refl
  get_at_quiet name key number (Some (ATransaction t b)) = quiet _ refl refl

  pub scan_quiet : (way : Way) (name : Name) (low high : List ℕ) (limit : ℕ) (o : Option store.Thing)
      → IsQuiet s (scan_by s way name low high limit o)
  scan_quiet way name low high limit None = quiet _ refl refl
  scan_quiet way name low high limit (Some (AJob job made)) = quiet _ refl refl
  scan_quiet way name low high limit (Some (APass pass batch)) = quiet _ refl refl
  scan_quiet way name low high limit (Some (AView v b)) =
      either (nat_le (length low) max_key_bytes && nat_le (length high) max_key_bytes) _ _ (quiet _ refl refl) (quiet _ refl refl)
  scan_quiet way name low high limit (Some (ATransaction t b)) =
      either (nat_le (length low) max_key_bytes && nat_le (length high) max_key_bytes) _ _ (quiet _ refl refl) (quiet _ refl refl)

  pub write_quiet : (name : Name) (key : List ℕ) (change : Change) (o : Option store.Thing) → IsQuiet s (write_by s name key change o)
  write_quiet name key change None = quiet _ refl refl
  write_quiet name key change (Some (AJob job made)) = quiet _ refl refl
  write_quiet name key change (Some (APass pass batch)) = quiet _ refl refl
  write_quiet name key change (Some (AView v b)) = quiet _ refl refl
  write_quiet name key change (Some (ATransaction t b)) =
      either (not (is_key_length (length key) && is_value_length log_format (length (value_bytes change)))) _ _ (quiet _ refl refl)
      (either (is_small_enough (put key_cmp key change t.writes)) _ _ (quiet _ refl refl) (quiet _ refl refl))
