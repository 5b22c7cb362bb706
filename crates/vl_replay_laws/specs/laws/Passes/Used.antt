-- Whether a name is in use, and what a line is told whose name is.
use Rattle.std.proofs.Common.{◌≡◌, ℕ, Bool, true, false, ◌||◌, List, refl, ap, sym, ◌∙◌, subst}
use Rattle.std.specs.Prelude.{Option, None, Some, is_some}
use Rattle.std.specs.Option.{option_map_or}
use Rattle.std.specs.Str.{bytes_eq}
use Rattle.std.proofs.lemmas.Slice.Eq.{bytes_eq-Decides}
use Rattle.vl_disk.specs.declared.writer.Writer.{Ghosts as Writers}
use Rattle.vl_engine_model.specs.Relocation.{Candidate, Pass}
use Rattle.vl_engine_model.specs.Ruling.{Ruling}
use Rattle.vl_engine_model.specs.Rulings.Drain.{drain_ruling}
use Rattle.vl_engine_model.specs.Rulings.Plan.{plan_ruling}
use Rattle.vl_engine_model.specs.Store.Dispatch.{pick_as, plan_as}
use Rattle.vl_engine_model.specs.Store.Lines as store_lines
use Rattle.vl_engine_model.specs.Store.Lines.{Name}
use Rattle.vl_engine_model.specs.Store.Reading.{a_transaction, a_view, begin_as}
use Rattle.vl_engine_model.specs.Store.Things.{APass, Step, Thing, only, thing_in, thing_of}
use Rattle.vl_engine_model.specs.declared.job.Job.{Job}
use Rattle.vl_engine_model.specs.declared.layout.Layout.{Layout}
use Rattle.vl_model.specs.History.{History}
use Rattle.vl_version.specs.declared.base.Base.{Base}
use Rattle.vl_replay_laws.specs.Passing.{IsOpenPass, IsPassing, name_made}
use Rattle.vl_replay_laws.specs.Replaying.{Waits}
use Rattle.vl_script_model.specs.Sequential.{State, counted, history_of, step_to}
use Rattle.vl_replay_laws.specs.Standing.{Stand, open_in}
use Rattle.vl_replay_laws.specs.declared.open.Open.{Open}
use Rattle.vl_replay_laws.specs.declared.passing.Passing.{Passing}
use Rattle.vl_replay_laws.specs.declared.planned.Planned.{Planned}
use Rattle.vl_script.specs.declared.line.Line.{Line}
use Rattle.vl_script.specs.declared.line.Line.TheVariants as lines
use Rattle.vl_replay_laws.specs.laws.Merges.Waiting.{is_waiting, waiting_free, waiting_there}
use Rattle.vl_replay_laws.specs.laws.Names.BeginMaking.{bare_of, none_or_some, some_there}

true_false : true ≡ false → ⊥
true_false e = cc

-- ---- the pass that is open

module _ {H R : Type 0} (bytes : H → Option (List ℕ)) where
  -- it has this name
  abbrev pub is_open_as : Name → Option (Passing (Base H R) H) → Bool
  is_open_as name passing = option_map_or (λ (going : Passing (Base H R) H). bytes_eq name going.name) passing false

  module _ (ts : List (Name × Thing)) (l : Layout) (name : Name) where
    -- it stands for something
    pub open_there : (passing : Option (Passing (Base H R) H)) → IsOpenPass bytes passing ts l → is_open_as name passing ≡ true
        → is_some (thing_in ts name) ≡ true
    open_there None going is = absurd cc
    open_there (Some passing) going is =
        let same : name ≡ passing.name = (bytes_eq-Decides name passing.name).0 is in
        subst (λ (n : Name). is_some (thing_in ts n) ≡ true) (sym same) (ap is_some going.there)

    -- another name stands for no pass
    pub open_free : (passing : Option (Passing (Base H R) H)) → IsOpenPass bytes passing ts l → is_open_as name passing ≡ false
        → (p : Pass) (batch : Option (List Candidate)) → thing_in ts name ≡ Some (APass p batch) → ⊥
    open_free None (none, free) is p batch there = free name p batch there
    open_free (Some passing) going is p batch there =
        true_false (sym ((bytes_eq-Decides name passing.name).1 (going.only name p batch there)) ∙ is)

    -- so it is where it isn't that of the open one
    pub other_named : (passing : Option (Passing (Base H R) H)) → IsOpenPass bytes passing ts l
        → ((p : Passing (Base H R) H) → passing ≡ Some p → p.name ≡ name → ⊥)
        → (p : Pass) (batch : Option (List Candidate)) → thing_in ts name ≡ Some (APass p batch) → ⊥
    other_named None (none, free) other p batch there = free name p batch there
    other_named (Some passing) going other p batch there = other passing refl (sym (going.only name p batch there))

  -- it goes on as it is said of it
  pub going_as : (passing : Option (Passing (Base H R) H)) (p : Passing (Base H R) H) (ts : List (Name × Thing)) (l : Layout)
      → passing ≡ Some p → IsOpenPass bytes passing ts l → IsPassing bytes p ts l
  going_as passing p ts l is going = subst (λ (o : Option (Passing (Base H R) H)). IsOpenPass bytes o ts l) is going

-- the name as the call had it is its own, or it isn't
pub named_as : (q name own : Name) → q ≡ name → (test : Bool) → test ≡ bytes_eq q own → test ≡ true → own ≡ name
named_as q name own same test is it = sym ((bytes_eq-Decides q own).0 (sym is ∙ it)) ∙ same

pub open_named : {V H : Type 0} (passing : Option (Passing V H)) (going : Passing V H) → passing ≡ Some going → (q name : Name)
    → q ≡ name → (test : Bool) → test ≡ bytes_eq q going.name → test ≡ false
    → (p : Passing V H) → passing ≡ Some p → p.name ≡ name → ⊥
open_named passing going is q name same test test_is it p there named =
    true_false (sym ((bytes_eq-Decides q going.name).1
    (same ∙ sym named ∙ ap (λ (x : Passing _ _). x.name) (one p going (sym there ∙ is)))) ∙ sym test_is ∙ it)
  where
    one : {T : Type 0} (a b : T) → Some a ≡ Some b → a ≡ b
    one a b e = cc

-- ---- names in use

module _ {W H R S : Type 0} (w : Writers W) (bytes : H → Option (List ℕ)) {k : Writers W} (planned : Option (Planned (Base H R) H W k))
    (passing : Option (Passing (Base H R) H)) (os : List (Open H S)) (ts : List (Name × Thing)) (h : History) (l : Layout) (name : Name)
    (stand : Stand bytes os ts h l) (waits : Waits w bytes planned ts l) (going : IsOpenPass bytes passing ts l) where
  -- one of the three has it, or it stands for nothing
  pub used_is : (is_some (open_in os name) || (is_waiting w bytes {g = k} name planned || is_open_as {H = H} {R = R} bytes name passing))
      ≡ is_some (thing_in ts name)
  used_is = by (is_some (open_in os name)) refl (is_waiting w bytes {g = k} name planned) refl
      (is_open_as {H = H} {R = R} bytes name passing) refl
    where
      by : (a : Bool) → is_some (open_in os name) ≡ a → (b : Bool) → is_waiting w bytes {g = k} name planned ≡ b
          → (c : Bool) → is_open_as {H = H} {R = R} bytes name passing ≡ c → (a || (b || c)) ≡ is_some (thing_in ts name)
      by true reads b merges c passes = sym (some_there H S bytes h l (open_in os name) (thing_in ts name) reads (stand.each name))
      by false reads true merges c passes = sym (waiting_there w bytes {g = k} planned ts l name waits merges)
      by false reads false merges true passes = sym (open_there bytes ts l name passing going passes)
      by false reads false merges false passes = sym (ap is_some
          (bare_of bytes h l (open_in os name) (thing_in ts name) (none_or_some (open_in os name) reads) (stand.each name)
          (waiting_free w bytes {g = k} planned ts l name waits merges)
          (open_free bytes ts l name passing going passes)))

  -- so it is as a call had these names and its name
  pub tested : (slice : List (Open H S)) → slice ≡ os → (q : Name) → q ≡ name → (used : Bool)
      → used ≡ (is_some (open_in slice q) || (is_waiting w bytes {g = k} q planned || is_open_as {H = H} {R = R} bytes q passing))
      → used ≡ is_some (thing_in ts name)
  tested slice value q same used is =
      is ∙ ap (λ (xs : List (Open H S)). is_some (open_in xs q)
      || (is_waiting w bytes {g = k} q planned || is_open_as {H = H} {R = R} bytes q passing)) value
      ∙ ap (λ (n : Name). is_some (open_in os n)
      || (is_waiting w bytes {g = k} n planned || is_open_as {H = H} {R = R} bytes n passing)) same
      ∙ used_is

-- ---- a line whose name is in use

begins_taken : (s : State) (name : Name) (o : Option Thing) → is_some o ≡ true
    → (begin_as s.store name a_transaction o ≡ only (store_lines.Taken name) s.store)
    × (begin_as s.store name a_view o ≡ only (store_lines.Taken name) s.store)
begins_taken s name None is = absurd cc
begins_taken s name (Some x) is = (refl, refl)

plan_taken : (s : State) (name : Name) (r : Ruling (Option Job)) (o : Option Thing) → is_some o ≡ true
    → plan_as s.store name r o ≡ only (store_lines.Taken name) s.store
plan_taken s name r None is = absurd cc
plan_taken s name r (Some x) is = refl

pick_taken : (s : State) (name : Name) (percent : ℕ) (o : Option Thing) → is_some o ≡ true
    → pick_as s.store name percent o ≡ only (store_lines.Taken name) s.store
pick_taken s name percent None is = absurd cc
pick_taken s name percent (Some x) is = refl

some_same : (a b : Name) → Some a ≡ Some b → a ≡ b
some_same a b e = cc

none_some : (a : Name) → None ≡ Some a → ⊥
none_some a e = cc

-- It is told that, and nothing is done.
pub taken_line : (s : State) (line : Line) (name : Name) → name_made line ≡ Some name → is_some (thing_of s.store name) ≡ true
    → step_to s line ≡ only (store_lines.Taken name) s.store
taken_line s (lines.Begin n) name is used =
    subst (λ (q : Name). step_to s (lines.Begin q) ≡ only (store_lines.Taken name) s.store) (sym (some_same n name is))
    (begins_taken s name (thing_of s.store name) used).0
taken_line s (lines.View n) name is used =
    subst (λ (q : Name). step_to s (lines.View q) ≡ only (store_lines.Taken name) s.store) (sym (some_same n name is))
    (begins_taken s name (thing_of s.store name) used).1
taken_line s (lines.Plan n) name is used =
    subst (λ (q : Name). step_to s (lines.Plan q) ≡ only (store_lines.Taken name) s.store) (sym (some_same n name is))
    (ap (λ (x : Step). record x { answer = counted x.answer })
    (plan_taken s name (plan_ruling s.store.layout (history_of s)) (thing_of s.store name) used))
taken_line s (lines.Drain n segment) name is used =
    subst (λ (q : Name). step_to s (lines.Drain q segment) ≡ only (store_lines.Taken name) s.store) (sym (some_same n name is))
    (ap (λ (x : Step). record x { answer = counted x.answer })
    (plan_taken s name (drain_ruling s.store.layout (history_of s) segment) (thing_of s.store name) used))
taken_line s (lines.Pick n percent) name is used =
    subst (λ (q : Name). step_to s (lines.Pick q percent) ≡ only (store_lines.Taken name) s.store) (sym (some_same n name is))
    (pick_taken s name percent (thing_of s.store name) used)
taken_line s line name is used = absurd (none_some name is)
