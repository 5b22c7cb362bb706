-- What making a merge's next table answers at each of its ends, as the ruling has it.
use Rattle.std.specs.Prelude.{◌≡◌, ◌≤◌, ◌<◌, ℕ, Bool, true, false, if◌then◌else◌, List, [], Option, None, Some, Ok, Err, refl}
use Rattle.std.proofs.Common.{sym, ap, subst, ◌∙◌, arith}
use Rattle.vl_disk.specs.Calls.{ChangesNothing}
use Rattle.vl_disk.specs.Disk.{IsChangedBy}
use Rattle.vl_disk.specs.Faults.{after_calls}
use Rattle.vl_disk.specs.Performs.{StopsAmong}
use Rattle.vl_disk.specs.declared.name.Name.TheVariants as names
use Rattle.vl_disk.specs.declared.name.Name.{Name}
use Rattle.vl_disk.specs.declared.watched.Watched.{Ghosts}
use Rattle.vl_engine_laws.specs.laws.Carrying.{IsWatched, carries_leaving, carries_no_memory, extends_itself}
use Rattle.vl_steps.specs.laws.Committing.{decides_answered, decides_failed, decides_leaving}
use Rattle.vl_steps.specs.laws.Drawing.{carries_drawn, carries_undrawn, drawn_ruling, is_drawn, is_exhausted, is_halted, runs}
use Rattle.vl_engine_laws.specs.Carries.{Carries}
use Rattle.vl_steps.specs.Drawing.{LendsNew, StopsDrawing, WritesFresh, drawn_core, lent_new}
use Rattle.vl_engine_laws.specs.Represents.{Fronts, Represents, file_of}
use Rattle.vl_engine_laws.specs.MayStep.{HasNumbers}
use Rattle.vl_engine_laws.specs.declared.kept.Core.{Core}
use Rattle.vl_engine_model.specs.Decides.{Answered, Decides, Effects, Failed, NoMemory, as_before, no_effects}
use Rattle.vl_engine_model.specs.Ruling.{Ruling, halted_at, has_no_number, leaving}
use Rattle.vl_engine_model.specs.Rulings.Fresh as ruling
use Rattle.vl_engine_model.specs.Rulings.Fresh.{Drawn, FreshAnswer, drawn, fresh_ruling, fresh_unless}
use Rattle.vl_engine_model.specs.declared.file_name.FileName.{FileName}
use Rattle.vl_engine_model.specs.declared.layout.Layout.{Layout}
use Rattle.vl_manifest.specs.declared.state.ManifestState.{ManifestState}
use Rattle.vl_model.specs.History.{Extends, History}
use Rattle.vl_model.specs.Limits.{max_file_number}
use Rattle.vl_model.specs.declared.counter.Counter.TheVariants as counter

-- ---- what was written

one_call : (before now : ℕ) → StopsAmong 1 before now → now ≡ after_calls 1 before
one_call before now (n, some, few, calls) =
    let is : n ≡ 1 = omega (arith, some, few) in
    subst (λ (k : ℕ). now ≡ after_calls k before) is calls

module _ {D H : Type 0} (g : Ghosts D) (core : Core H) (old mid new : D) (before : ChangesNothing g old mid ⊥) where
  abbrev pub writes_ok : {X E : Type 0} (x : X) → LendsNew {E = E} g (names.Table core.back.state.next_table) mid new (Ok x)
      → WritesFresh g core old new
  writes_ok x lends = record {
    mid = mid;
    before = before;
    time = lends.performs.time;
    tells = lends.performs.tells;
    calls = lends.performs.calls;
  }

  pub writes_err : {X E : Type 0} (e : E) → LendsNew {T = X} g (names.Table core.back.state.next_table) mid new (Err e)
      → WritesFresh g core old new
  writes_err e lends = record {
    mid = mid;
    before = before;
    time = lends.performs.time;
    tells = lends.performs.tells;
    calls = one_call (g.calls mid) (g.calls new) lends.performs.stops;
  }

-- the one changing call is on the table
pub stops_drawing : {D H : Type 0} (g : Ghosts D) (core : Core H) (old new : D) → WritesFresh g core old new
    → StopsDrawing core.back.state.next_table (g.calls old) (g.calls new) (names.Table core.back.state.next_table)
stops_drawing g core old new writes = record {
  front = [];
  back = [];
  files_are = refl;
  calls = writes.calls ∙ ap (after_calls 1) writes.before.calls;
}

-- ---- what is answered

fresh_history : (l : Layout) (h : History) → (fresh_ruling l h).history ≡ h
fresh_history l h = by l.halted
  where
    either : (b : Bool) → (if b then leaving (ruling.Exhausted counter.Table) h l else drawn_ruling l h).history ≡ h
    either true = refl
    either false = refl

    by : (o : Option FileName) → (fresh_unless o l h).history ≡ h
    by None = either (has_no_number l.next_table 1)
    by (Some name) = refl

pub fresh_extends : (l : Layout) (h : History) → Extends h (fresh_ruling l h).history
fresh_extends l h = subst (Extends h) (sym (fresh_history l h)) (extends_itself h)

module _ {H : Type 0} (core : Core H) (h : History) (l : Layout) (is : Fronts core h l) (S : History → Layout → Type 0) where
  -- it was halted,
  pub decides_halted : (name : Name) → core.front.halted ≡ Some name → S h l
      → Decides S h l (fresh_ruling l h) (as_before l l) (Answered (ruling.Halted (file_of name))) no_effects
  decides_halted name halted left_so =
      decides_leaving S h l (fresh_ruling l h) (as_before l l) (ruling.Halted (file_of name)) l
      (is_halted core h l is name halted) left_so

  -- it failed,
  pub decides_undrawn : (name : Name) (effects : Effects) → core.front.halted ≡ None → S h (halted_at (file_of name) l)
      → Decides S h l (fresh_ruling l h) (as_before l l) (Failed (file_of name)) effects
  decides_undrawn name effects running left_so =
      decides_failed S h l (fresh_ruling l h) l (file_of name) effects (runs core h l is running) left_so

  module _ (running : core.front.halted ≡ None) (numbers : l.halted ≡ None → HasNumbers core.back l) where
    -- no number is left,
    pub decides_exhausted : max_file_number < core.back.state.next_table → S h l
        → Decides S h l (fresh_ruling l h) (as_before l l) (Answered (ruling.Exhausted counter.Table)) no_effects
    decides_exhausted above left_so = decides_leaving S h l (fresh_ruling l h) (as_before l l) (ruling.Exhausted counter.Table) l
        (is_exhausted core h l is running (numbers (runs core h l is running)).next_table above) left_so

    -- or it was done.
    pub decides_drawn : core.back.state.next_table ≤ max_file_number → S h (drawn l)
        → Decides S h l (fresh_ruling l h) (as_before l l) (Answered (Drawn core.back.state.next_table))
        (record no_effects { calls = 1 })
    decides_drawn below left_so =
        let next_is = (numbers (runs core h l is running)).next_table in
        subst (λ (r : Ruling FreshAnswer).
        Decides S h l r (as_before l l) (Answered (Drawn core.back.state.next_table)) (record no_effects { calls = 1 }))
        (is_drawn core h l is running next_is below)
        (decides_answered S h l (drawn_ruling l h) (as_before l l) (Drawn core.back.state.next_table)
        (record no_effects { calls = 1 }) (ap Drawn next_is) refl left_so)

-- ---- over a disk that holds the layout

module _ {D H : Type 0} (g : Ghosts D) (watched : IsWatched g) (bytes : H → Option (List ℕ)) (core : Core H) (h : History) (l : Layout)
    (old : D) (is : Represents bytes core (g.told old) h l) where
  carries_left : (answer : FreshAnswer) → leaving answer h l ≡ fresh_ruling l h
      → Carries g bytes old old core h l (fresh_ruling l h) (as_before l l) (Answered answer) no_effects
  carries_left answer ruled =
      subst (λ (r : Ruling FreshAnswer). Carries g bytes old old core h l r (as_before l l) (Answered answer) no_effects) ruled
      (carries_leaving g watched bytes core core h l old answer l (as_before l l) is is)

  pub carries_halted : (name : Name) → core.front.halted ≡ Some name
      → Carries g bytes old old core h l (fresh_ruling l h) (as_before l l) (Answered (ruling.Halted (file_of name))) no_effects
  carries_halted name halted = carries_left (ruling.Halted (file_of name)) (is_halted core h l is.stands.fronts name halted)

  pub carries_short : (new : D) → ChangesNothing g old new ⊥
      → Carries g bytes old new core h l (fresh_ruling l h) (as_before l l) NoMemory no_effects
  carries_short new no_change =
      carries_no_memory g watched bytes core core h l old new ⊥ (fresh_ruling l h) l no_change (fresh_extends l h) refl is is.stands

  module _ (running : core.front.halted ≡ None) where
    next_now : core.back.state.next_table ≡ l.next_table
    next_now = ap (λ (s : ManifestState). s.next_table) (is.held (runs core h l is.stands.fronts running)).back_is.state

    pub carries_exhausted : max_file_number < core.back.state.next_table
        → Carries g bytes old old core h l (fresh_ruling l h) (as_before l l) (Answered (ruling.Exhausted counter.Table)) no_effects
    carries_exhausted above =
        carries_left (ruling.Exhausted counter.Table) (is_exhausted core h l is.stands.fronts running next_now above)

    module _ (first : 1 ≤ core.back.state.next_table) (fits : core.back.state.next_table ≤ max_file_number) (after : Core H) (new : D)
        (writes : WritesFresh g core old new) where
      ruled : drawn_ruling l h ≡ fresh_ruling l h
      ruled = is_drawn core h l is.stands.fronts running next_now fits

      pub carries_failing : (effects : Effects)
          → after ≡ record core { front = record core.front { halted = Some (names.Table core.back.state.next_table) } }
          → Carries g bytes old new after h l (fresh_ruling l h) (as_before l l)
          (Failed (file_of (names.Table core.back.state.next_table))) effects
      carries_failing effects left_so =
          subst (λ (r : Ruling FreshAnswer). Carries g bytes old new after h l r (as_before l l)
          (Failed (file_of (names.Table core.back.state.next_table))) effects) ruled
          (carries_undrawn g watched bytes core after h l old new is (runs core h l is.stands.fronts running) first fits writes
          effects left_so)

      pub carries_done : IsChangedBy (lent_new (names.Table core.back.state.next_table)) (g.told writes.mid) (g.told new)
          → after ≡ drawn_core core
          → Carries g bytes old new after h l (fresh_ruling l h) (as_before l l) (Answered (Drawn core.back.state.next_table))
          (record no_effects { calls = 1 })
      carries_done changed left_so =
          subst (λ (r : Ruling FreshAnswer). Carries g bytes old new after h l r (as_before l l)
          (Answered (Drawn core.back.state.next_table)) (record no_effects { calls = 1 })) ruled
          (carries_drawn g watched bytes core after h l old new is (runs core h l is.stands.fronts running) first fits writes
          changed left_so
          core.back.state.next_table refl)
