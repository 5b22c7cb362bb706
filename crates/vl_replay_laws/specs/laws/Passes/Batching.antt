-- What a pass's name stands for, what its lines are told where it stands for none, and what a batch makes of a state.
use Rattle.std.proofs.Common.{◌≡◌, ⊎_elim, ℕ, ◌≤◌, ◌+◌, true, false, List, [], ◌∷◌, length, refl, ap, sym, ◌∙◌, subst, arith}
use Rattle.std.specs.Prelude.{Option, None, Some, Ok}
use Rattle.std.specs.List.{AllByRecursion}
use Rattle.std.specs.Str.{bytes_eq}
use Rattle.std.proofs.lemmas.Slice.Eq.{bytes_eq-Decides}
use Rattle.vl_collect.specs.Passing.{EndsAlike, IsWholeFrom, TornBehind}
use Rattle.vl_collect.specs.declared.pass.Pass.{Pass as ThePass}
use Rattle.vl_collect.specs.laws.StandingLaws.{given}
use Rattle.vl_engine_laws.specs.Lasts.{Lasts}
use Rattle.vl_engine_laws.specs.MoveFacts.{AreThere}
use Rattle.vl_engine_laws.specs.declared.kept.Core.{Core}
use Rattle.vl_disk.specs.DiskState.{DiskState}
use Rattle.vl_space.specs.Collecting.{GoesOver}
use Rattle.vl_space.specs.declared.kept.Collecting.{Collecting}
use Rattle.vl_engine_model.specs.Relocation.{Candidate, Pass, next_batch}
use Rattle.vl_engine_model.specs.Shown.{IsThere}
use Rattle.vl_engine_model.specs.Shows.{AreUpTo}
use Rattle.vl_engine_model.specs.Store.Dispatch.{batch_by, found_by, move_by}
use Rattle.vl_engine_model.specs.Store.Lines as store_lines
use Rattle.vl_engine_model.specs.Store.Lines.{Name}
use Rattle.vl_engine_model.specs.Store.Things as things
use Rattle.vl_engine_model.specs.Store.Things.{AJob, APass, ATransaction, AView, Step, Thing, named, only, thing_in, thing_of}
use Rattle.vl_engine_model.specs.declared.layout.Layout.{Layout}
use Rattle.vl_model.specs.History.{History}
use Rattle.vl_model.specs.declared.entry.Entry.{Entry}
use Rattle.vl_seglog.specs.Stored.{stored_at}
use Rattle.vl_seglog.specs.declared.sealed.SealedLog.{SealedLog}
use Rattle.vl_table.specs.Kept.{Files}
use Rattle.vl_table.specs.KeptBlocks.{AreKept}
use Rattle.vl_table.specs.declared.block_reader.BlockReader.{BlockReader}
use Rattle.vl_version.specs.Bases.{Fits}
use Rattle.vl_version.specs.declared.base.Base.{Base}
use Rattle.vl_replay_laws.specs.Passing.{IsOpenPass, IsPassing, Passes}
use Rattle.vl_replay_laws.specs.Replaying.{MakesStep, StandsIn, state_by}
use Rattle.vl_script_model.specs.Sequential.{IsPrinted, State, history_of}
use Rattle.vl_replay_laws.specs.Standing.{Corresponds, open_in}
use Rattle.vl_replay_laws.specs.declared.open.Open.{Open}
use Rattle.vl_replay_laws.specs.declared.open.Thing.{Thing as Reading}
use Rattle.vl_replay_laws.specs.declared.open.Thing.TheVariants.{Transaction, View}
use Rattle.vl_replay_laws.specs.declared.passing.Passing.{Passing}
use Rattle.vl_script_model.specs.laws.Laws.{IsSound, state_after-sound}
use Rattle.vl_script.specs.declared.answer.Answer.{Answer}
use Rattle.vl_script.specs.declared.line.Line.TheVariants as lines
use Rattle.vl_replay_laws.specs.laws.Merges.Planning.{IsBeside}
use Rattle.vl_replay_laws.specs.laws.Names.BeginMaking.{stands_as}
use Rattle.vl_replay_laws.specs.laws.Names.Lookups.{thing_beside, thing_put}
use Rattle.vl_replay_laws.specs.laws.Names.Serving.{serves}
use Rattle.vl_replay_laws.specs.laws.Names.Standings.{same_or_not}
use Rattle.vl_replay_laws.specs.laws.Passes.Standing.{names_with_work}

-- ---- a name that stands for no pass

abbrev pub IsNoPass : Option Thing → Type 0
IsNoPass o = (p : Pass) (batch : Option (List Candidate)) → o ≡ Some (APass p batch) → ⊥

module _ (s : things.State) (name : Name) where
  pub batch_unknown : (o : Option Thing) → IsNoPass o → batch_by s name o ≡ only (store_lines.Unknown name) s
  batch_unknown None none = refl
  batch_unknown (Some (ATransaction t b)) none = refl
  batch_unknown (Some (AView v b)) none = refl
  batch_unknown (Some (AJob job made)) none = refl
  batch_unknown (Some (APass p batch)) none = absurd (none p batch refl)

  pub move_unknown : (o : Option Thing) → IsNoPass o → move_by s name o ≡ only (store_lines.Unknown name) s
  move_unknown None none = refl
  move_unknown (Some (ATransaction t b)) none = refl
  move_unknown (Some (AView v b)) none = refl
  move_unknown (Some (AJob job made)) none = refl
  move_unknown (Some (APass p batch)) none = absurd (none p batch refl)

-- where it stands for a pass no reader has it
pub unread_pass : {H R : Type 0} (bytes : H → Option (List ℕ)) (h : History) (l : Layout) (o : Option (Reading H R)) (p : Pass)
    (batch : Option (List Candidate)) (y : Option Thing) → Corresponds bytes h l o y → y ≡ Some (APass p batch) → o ≡ None
unread_pass {H} {R} bytes h l o p batch y is same = of o (subst (Corresponds bytes h l o) same is)
  where
    of : (o : Option (Reading H R)) → Corresponds bytes h l o (Some (APass p batch)) → o ≡ None
    of None is = refl
    of (Some (Transaction txn)) is = absurd is
    of (Some (View view)) is = absurd is

-- ---- the open pass by its name

module _ {H R : Type 0} (bytes : H → Option (List ℕ)) (ts : List (Name × Thing)) (l : Layout) (passing : Option (Passing (Base H R) H))
    (is_open : IsOpenPass bytes passing ts l) (name q : Name) (same : q ≡ name) where
  -- none is open
  pub none_named : passing ≡ None → IsNoPass (thing_in ts name)
  none_named none = (subst (λ (o : Option (Passing (Base H R) H)). IsOpenPass bytes o ts l) none is_open).1 name

  module _ (going : Passing (Base H R) H) (is : passing ≡ Some going) where
    pub going_is : IsPassing bytes going ts l
    going_is = subst (λ (o : Option (Passing (Base H R) H)). IsOpenPass bytes o ts l) is is_open

    -- another one is
    pub other_named : bytes_eq q going.name ≡ false → IsNoPass (thing_in ts name)
    other_named apart p batch there =
        true_false (sym ((bytes_eq-Decides q going.name).1 (same ∙ going_is.only name p batch there)) ∙ apart)
      where
        true_false : true ≡ false → ⊥
        true_false e = cc

    -- it is the one
    pub own_name : bytes_eq q going.name ≡ true → name ≡ going.name
    own_name it = sym same ∙ (bytes_eq-Decides q going.name).0 it

    pub own_there : bytes_eq q going.name ≡ true → thing_in ts name ≡ Some (APass going_is.pass going.batch)
    own_there it = subst (λ (n : Name). thing_in ts n ≡ Some (APass going_is.pass going.batch)) (sym (own_name it)) going_is.there

-- ---- a batch

-- some number is at least each version
up_to_some : (es : List Entry) → (last : ℕ) × AreUpTo last es
up_to_some es = (bound es, all es)
  where
    bound : List Entry → ℕ
    bound [] = 0
    bound (e ∷ es) = e.version + bound es

    wider : (n m : ℕ) (es : List Entry) → n ≤ m → AreUpTo n es → AreUpTo m es
    wider n m [] le are = tt
    wider n m (e ∷ es) le are = (let here = are.0 in omega (arith, here, le), wider n m es le are.1)

    all : (es : List Entry) → AreUpTo (bound es) es
    all [] = tt
    all (e ∷ es) = (omega arith, wider (bound es) (e.version + bound es) es (omega arith) (all es))

module _ {H R : Type 0} (bytes : H → Option (List ℕ)) where
  -- What a pass gives stands in its log.
  pub given_there : (pass : ThePass (Base H R) H) (p : Pass) → GoesOver bytes pass p → (batch : List Candidate)
      → (next_batch p).0 ≡ Some batch → AreThere bytes pass.log batch
  given_there pass p goes batch is told tells =
      let (last, up_to) = up_to_some p.base in
      let found = given pass.log.format pass.log.number goes.told pass.at p last batch goes.left up_to is in
      subst (λ (bs : List ℕ). AllByRecursion (IsThere (stored_at pass.log.format bs) pass.log.number) batch)
      (some_same goes.told told (sym goes.tells ∙ tells))
      (subst (λ (n : ℕ). AllByRecursion (IsThere (stored_at pass.log.format goes.told) n) batch) (sym goes.segment) found.there)
    where
      some_same : (a b : List ℕ) → Some a ≡ Some b → a ≡ b
      some_same a b e = cc

module _ {H R : Type 0} (bytes : H → Option (List ℕ)) (seen : Option DiskState) (core : Core H) (os : List (Open H R)) (s : State)
    (stands : StandsIn bytes seen core os s) (name : Name) where
  abbrev h : History
  h = history_of s

  abbrev l : Layout
  l = s.store.layout

  abbrev batching : Step
  batching = batch_by s.store name (thing_of s.store name)

  abbrev its_step : Pass → Option (List Candidate) → Step
  its_step p batch = found_by s.store name (next_batch p) batch

  itself : IsBeside l l
  itself = record { live = refl; bare = λ ticket none. none }

  -- what the name stands for then
  abbrev then : Pass → Option (List Candidate) → Thing
  then p batch = APass (next_batch p).1 batch

  module _ (p : Pass) (there : thing_of s.store name ≡ Some (APass p None)) (batch : Option (List Candidate))
      (gives : batch ≡ (next_batch p).0) where
    step_is : batching ≡ its_step p batch
    step_is = ap (batch_by s.store name) there ∙ ap (its_step p) (sym gives)

    free : open_in os name ≡ None
    free = unread_pass bytes h l (open_in os name) p None (thing_of s.store name) (stands.names.each name) there

    things_are : (b : Option (List Candidate)) → (its_step p b).state.things ≡ named name (then p b) s.store.things
    things_are None = refl
    things_are (Some b) = refl

    layout_is : (b : Option (List Candidate)) → (its_step p b).state.layout ≡ l
    layout_is None = refl
    layout_is (Some b) = refl

    abbrev pub told_so : (b : Option (List Candidate)) → Answer → Type 0
    told_so b told = IsPrinted told (its_step p b).answer

    stands_then : (b : Option (List Candidate)) → IsSound (state_by s (its_step p b))
        → StandsIn bytes seen core os (state_by s (its_step p b))
    stands_then None sound =
        stands_as bytes seen seen core core os s stands refl os (its_step p None) (serves bytes seen core os s stands)
        (names_with_work bytes h l l itself os s.store.things stands.names name free (then p None) (λ reads. reads) tt) sound refl
    stands_then (Some b) sound =
        stands_as bytes seen seen core core os s stands refl os (its_step p (Some b)) (serves bytes seen core os s stands)
        (names_with_work bytes h l l itself os s.store.things stands.names name free (then p (Some b)) (λ reads. reads) tt) sound refl

    -- It is answered so,
    pub batch_makes : (told : Answer) → told_so batch told → MakesStep bytes seen core os s batching (Ok told)
    batch_makes told is =
        subst (λ (y : Step). MakesStep bytes seen core os s y (Ok told)) (sym step_is)
        (is, stands_then batch (subst (λ (y : Step). IsSound (state_by s y)) step_is (state_after-sound s (lines.Batch name) stands.sound)))

-- ---- the pass behind it

-- a log whose frames from one place on reach to its end: they do from the other, where they end alike,
pub still_whole : {H : Type 0} (bytes : H → Option (List ℕ)) (log : SealedLog H) (from to : ℕ) → EndsAlike bytes log from to
    → IsWholeFrom bytes log from → IsWholeFrom bytes log to
still_whole bytes log from to ends whole = λ told tells. ends told (length told) tells (whole told tells)

-- and nothing of it is torn
pub whole_not_torn : {H : Type 0} (bytes : H → Option (List ℕ)) (log : SealedLog H) (place found : ℕ) (told : List ℕ)
    → bytes log.held ≡ Some told → IsWholeFrom bytes log place → TornBehind bytes log place found → ⊥
whole_not_torn bytes log place found told tells whole torn =
    let there = torn told tells in
    let at = there.ends (length told) (whole told tells) in
    omega (arith, at, there.torn.within)

module _ {H R : Type 0} (bytes : H → Option (List ℕ)) (ts : List (Name × Thing)) (l : Layout) (name : Name)
    (old new : Passing (Base H R) H) (going : IsPassing bytes old ts l) (name_is : name ≡ old.name) (keeps_name : new.name ≡ old.name)
    (log : new.pass.log ≡ old.pass.log) (base : new.pass.base ≡ old.pass.base) where
  new_name : new.name ≡ name
  new_name = keeps_name ∙ sym name_is

  -- It goes on with what it gave.
  pub goes_on : (batch : Option (List Candidate)) → batch ≡ (next_batch going.pass).0 → new.batch ≡ batch
      → GoesOver bytes new.pass (next_batch going.pass).1 → IsWholeFrom bytes new.pass.log new.pass.at.place
      → IsPassing bytes new (named name (APass (next_batch going.pass).1 batch) ts) l
  goes_on batch gave is goes whole = record {
    pass = (next_batch going.pass).1;
    is_open = going.is_open;
    goes = goes;
    looks = subst (λ (v : Base H R). (reader : BlockReader R) → ((files : Files) → AreKept files reader) → Fits bytes v.version reader)
        (sym base) going.looks;
    there = subst (λ (n : Name). thing_in (named name (APass (next_batch going.pass).1 batch) ts) n
        ≡ Some (APass (next_batch going.pass).1 new.batch)) (sym new_name)
        (thing_put name (APass (next_batch going.pass).1 batch) ts
        ∙ ap (λ (b : Option (List Candidate)). Some (APass (next_batch going.pass).1 b)) (sym is));
    only = λ q p b e. ⊎_elim
        (λ (same : q ≡ name). same ∙ sym new_name)
        (λ (apart : q ≡ name → ⊥). going.only q p b (sym (thing_beside name q apart (APass (next_batch going.pass).1 batch) ts) ∙ e)
        ∙ sym keeps_name)
        (same_or_not q name);
    lasts = subst (λ (x : SealedLog H). Lasts bytes x l) (sym log) going.lasts;
    whole = whole;
    batch = λ cs e. subst (λ (x : SealedLog H). AreThere bytes x cs) (sym log)
        (given_there bytes old.pass going.pass going.goes cs (sym gave ∙ sym is ∙ e));
  }

-- so it is in the state behind the line
module _ {H R : Type 0} (bytes : H → Option (List ℕ)) (core : Core H) (collecting : Collecting) (s : things.State) (name : Name)
    (old new : Passing (Base H R) H) (before : Passes bytes core collecting (Some old) s.things s.layout) (name_is : name ≡ old.name)
    (none : old.batch ≡ None) (keeps_name : new.name ≡ old.name) (kept : new.pass ≡ record old.pass { at = new.pass.at }) where
  abbrev p : Pass
  p = before.is_open.pass

  whole_then : EndsAlike bytes old.pass.log old.pass.at.place new.pass.at.place → IsWholeFrom bytes new.pass.log new.pass.at.place
  whole_then ends =
      subst (λ (x : SealedLog H). IsWholeFrom bytes x new.pass.at.place) (sym (ap (λ (x : ThePass (Base H R) H). x.log) kept))
      (still_whole bytes old.pass.log old.pass.at.place new.pass.at.place ends before.is_open.whole)

  pub there_is : thing_of s name ≡ Some (APass p None)
  there_is = ap (thing_in s.things) name_is ∙ before.is_open.there ∙ ap (λ (b : Option (List Candidate)). Some (APass p b)) none

  pub passes_then : (batch : Option (List Candidate)) → new.batch ≡ batch → batch ≡ (next_batch p).0
      → GoesOver bytes new.pass (next_batch p).1 → EndsAlike bytes old.pass.log old.pass.at.place new.pass.at.place
      → Passes bytes core collecting (Some new) (batch_by s name (thing_of s name)).state.things
      (batch_by s name (thing_of s name)).state.layout
  passes_then batch is gave goes ends =
      subst (λ (y : Step). Passes bytes core collecting (Some new) y.state.things y.state.layout)
      (sym (ap (batch_by s name) there_is ∙ ap (found_by s name (next_batch p)) (sym gave))) (of batch is gave)
    where
      of : (batch : Option (List Candidate)) → new.batch ≡ batch → batch ≡ (next_batch p).0
          → Passes bytes core collecting (Some new) (found_by s name (next_batch p) batch).state.things
          (found_by s name (next_batch p) batch).state.layout
      of None is gave = record {
        collects = before.collects;
        is_open = goes_on bytes s.things s.layout name old new before.is_open name_is keeps_name
            (ap (λ (x : ThePass (Base H R) H). x.log) kept) (ap (λ (x : ThePass (Base H R) H). x.base) kept) None gave is goes
            (whole_then ends);
      }
      of (Some batch) is gave = record {
        collects = before.collects;
        is_open = goes_on bytes s.things s.layout name old new before.is_open name_is keeps_name
            (ap (λ (x : ThePass (Base H R) H). x.log) kept) (ap (λ (x : ThePass (Base H R) H). x.base) kept) (Some batch) gave is goes
            (whole_then ends);
      }
