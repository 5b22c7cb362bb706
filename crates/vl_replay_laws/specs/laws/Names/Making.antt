-- What a line's call makes, by what it found the name to stand for: the answers and states of the sequential store.
use Rattle.std.proofs.Common.{◌≡◌, ℕ, List, [], ◌∷◌, ◌++◌, refl, ap, sym, ◌∙◌, subst}
use Rattle.std.specs.Prelude.{Option, None, Some, Ok, Err, Result, IfOk, OnOk}
use Rattle.std.specs.Bool.{⊤}
use Rattle.vl_disk.specs.DiskState.{DiskState}
use Rattle.vl_reads.specs.Past.{beginning}
use Rattle.vl_reads.specs.Reading.{NotesNothing, OnlyReads, OnlyWrites}
use Rattle.vl_version.specs.LiesOver.{IsInMemory}
use Rattle.vl_engine_laws.specs.Represents.{IsLive}
use Rattle.vl_reads.specs.Sees.{Sees, SeesAlone, asked, asked_view}
use Rattle.vl_engine_laws.specs.declared.kept.Core.{Core}
use Rattle.vl_reads.specs.declared.txn.Txn.{Txn}
use Rattle.vl_reads.specs.declared.view.View.{View as EngineView}
use Rattle.vl_engine_model.specs.AtAnswer.{Beginning}
use Rattle.vl_engine_model.specs.Rulings.Commit.{Transaction as ATxn}
use Rattle.vl_engine_model.specs.Rulings.View.{View as LayoutView}
use Rattle.vl_engine_model.specs.Store.Lines as store_lines
use Rattle.vl_engine_model.specs.Store.Lines.{Name}
use Rattle.vl_engine_model.specs.Store.Reading.{write_by}
use Rattle.vl_engine_model.specs.Store.Things as store
use Rattle.vl_engine_model.specs.Store.Things.{AJob, APass, ATransaction, AView, Step, only, thing_in, thing_of}
use Rattle.vl_engine_model.specs.Relocation.{Candidate, Pass}
use Rattle.vl_engine_model.specs.declared.layout.Layout.{Layout}
use Rattle.vl_model.specs.History.{History}
use Rattle.vl_model.specs.Reads.{Read}
use Rattle.vl_model.specs.declared.change.Change.{Change}
use Rattle.vl_model.specs.declared.change.Change.TheVariants.{Delete as Deletes, Set as Sets}
use Rattle.vl_txn.specs.Refusals.{IsWritten}
use Rattle.vl_txn.specs.declared.set_fail.SetFail.{SetFail}
use Rattle.vl_replay_laws.specs.Replaying.{MakesStep, StandsIn, state_by}
use Rattle.vl_script_model.specs.Sequential.{IsPrinted, State, history_of}
use Rattle.vl_engine_model.specs.Jobs.{Made}
use Rattle.vl_engine_model.specs.declared.job.Job.{Job}
use Rattle.vl_replay_laws.specs.Standing.{Corresponds, IsTaken, IsTransaction, ReadsNoTable, Stand, open_in, write_answer}
use Rattle.vl_script_model.specs.declared.fails.Halt.{Halt}
use Rattle.vl_replay_laws.specs.declared.open.Open.{Open}
use Rattle.vl_replay_laws.specs.declared.open.Thing.{Thing}
use Rattle.vl_replay_laws.specs.declared.open.Thing.TheVariants.{Transaction, View}
use Rattle.vl_script_model.specs.laws.Laws.{IsSound, state_after-sound}
use Rattle.vl_script.specs.declared.answer.Answer.{Answer}
use Rattle.vl_script.specs.declared.answer.Answer.TheVariants as answers
use Rattle.vl_script.specs.declared.line.Line.TheVariants as lines
use Rattle.vl_replay_laws.specs.laws.Names.Quiet.{quiet_stands, write_quiet}
use Rattle.vl_replay_laws.specs.laws.Names.Reading.{its_transaction, its_view, named_again, no_reader, put_back, stand_alike}
use Rattle.vl_replay_laws.specs.laws.Names.Standings.{same_or_not}
use Rattle.vl_replay_laws.specs.laws.Names.Writing.{writes_so}
use Rattle.std.proofs.Common.{⊎_elim}

-- what an answer is told, and what holds behind it
pub both : {T : Type 0} (P : T → Type 0) (Q S : Type 0) (r : Result T Halt) → (Q → S) → IfOk r P → OnOk r Q → IfOk r (λ a. P a × S)
both P Q S (Ok a) weaker p q = (p, weaker q)
both P Q S (Err halt) weaker p q = tt

-- ---- what only its reader changed

module _ {H R : Type 0} (bytes : H → Option (List ℕ)) (h : History) (l : Layout) where
  pub view_only : (old new : EngineView H R) (y : Option store.Thing) → OnlyReads old new
      → (SeesAlone bytes old h → SeesAlone bytes new h) → Corresponds bytes h l (Some (View old)) y
      → Corresponds bytes h l (Some (View new)) y
  view_only old new None keeps still is = absurd is
  view_only old new (Some (ATransaction t b)) keeps still is = absurd is
  view_only old new (Some (store.AJob job made)) keeps still is = absurd is
  view_only old new (Some (store.APass pass batch)) keeps still is = absurd is
  view_only old new (Some (AView v b)) keeps still (same, sees, live, near, began) = (
    ap (λ (x : EngineView H R). asked_view x) keeps ∙ same,
    still sees,
    subst (λ (x : EngineView H R). IsLive l x.ticket x.number) (sym keeps) live,
    subst (λ (x : EngineView H R). ReadsNoTable x.ticket l → IsInMemory x.version) (sym keeps) near,
    ap (λ (x : EngineView H R). beginning x.past) keeps ∙ began,
  )

  pub txn_only : (old new : Txn H R) (t : ATxn) → NotesNothing old new → (Sees bytes old h t.reads → Sees bytes new h t.reads)
      → IsTransaction bytes old t h l → IsTransaction bytes new t h l
  txn_only old new t keeps still is = record {
    same = ap (λ (x : Txn H R). asked x t.reads) keeps ∙ is.same;
    sees = still is.sees;
    live = subst (λ (x : Txn H R). IsLive l x.ticket x.number) (sym keeps) is.live;
    near = subst (λ (x : Txn H R). ReadsNoTable x.ticket l → IsInMemory x.version) (sym keeps) is.near;
  }

  -- A name is put back for what stands for the same.
  pub back_again : (os left : List (Open H R)) (ts : List (Name × store.Thing)) (name : Name) (old new : Thing H R) (x : store.Thing)
      → Stand bytes os ts h l → IsTaken os left name (Some old) → thing_in ts name ≡ Some x → Corresponds bytes h l (Some new) (Some x)
      → Stand bytes (left ++ record { name = name; thing = new } ∷ []) ts h l
  back_again os left ts name old new x stand taken is there =
      stand_alike bytes h l (left ++ record { name = name; thing = new } ∷ []) (store.named name x ts) ts (named_again ts name x is)
      (put_back bytes h l os left ts name old new x x stand taken is refl there)

  -- Where the name stood for no reader, all stay.
  pub none_taken : (os left : List (Open H R)) (ts : List (Name × store.Thing)) (name : Name)
      → Stand bytes os ts h l → IsTaken os left name None → Stand bytes left ts h l
  none_taken os left ts name stand taken = record {
    each = λ q. subst (λ (o : Option (Thing H R)). Corresponds bytes h l o (thing_in ts q)) (sym (alike q)) (stand.each q);
    once = taken.once;
    apart = stand.apart;
  }
    where
      alike : (q : Name) → open_in left q ≡ open_in os q
      alike q = ⊎_elim
          (λ (same : q ≡ name). subst (λ (p : Name). open_in left p ≡ open_in os p) (sym same) (taken.none ∙ sym taken.found))
          (λ (apart : q ≡ name → ⊥). taken.others q apart)
          (same_or_not q name)

-- ---- steps

module _ {H R : Type 0} (bytes : H → Option (List ℕ)) (seen : Option DiskState) (core : Core H) (os : List (Open H R))
    (s : State) (stands : StandsIn bytes seen core os s) where
  abbrev h : History
  h = history_of s

  abbrev l : Layout
  l = s.store.layout

  abbrev ts : List (Name × store.Thing)
  ts = s.store.things

  -- a line that changes nothing
  pub only_stands : (new : List (Open H R)) (answer : store_lines.Answer) → Stand bytes new ts h l
      → StandsIn bytes seen core new (state_by s (only answer s.store))
  only_stands new answer names = record {
    engine = stands.engine;
    names = names;
    sound = stands.sound;
    held = stands.held;
    running = stands.running;
    fits = stands.fits;
    within = stands.within;
  }

  pub only_makes : (new : List (Open H R)) (x : Step) (told : Answer) (answer : store_lines.Answer) → x ≡ only answer s.store
      → IsPrinted told answer → Stand bytes new ts h l → MakesStep bytes seen core new s x (Ok told)
  only_makes new x told answer same is names =
      subst (λ (y : Step). MakesStep bytes seen core new s y (Ok told)) (sym same) (is, only_stands new answer names)

  module _ (left : List (Open H R)) (name : Name) where
    -- the name stands for no reader
    pub nothing_there : IsTaken os left name None → (P : Option store.Thing → Type 0) → P None
        → ((job : Job) (made : Made) → P (Some (AJob job made)))
        → ((pass : Pass) (batch : Option (List Candidate)) → P (Some (APass pass batch)))
        → P (thing_of s.store name)
    nothing_there taken P none merge passes =
        no_reader H R bytes h l P (thing_of s.store name)
        (subst (λ (o : Option (Thing H R)). Corresponds bytes h l o (thing_of s.store name)) taken.found
        (stands.names.each name)) none merge passes

    pub unknown_makes : IsTaken os left name None → (x : Option store.Thing → Step) → x None ≡ only (store_lines.Unknown name) s.store
        → ((job : Job) (made : Made) → x (Some (AJob job made)) ≡ only (store_lines.Unknown name) s.store)
        → ((pass : Pass) (batch : Option (List Candidate)) → x (Some (APass pass batch)) ≡ only (store_lines.Unknown name) s.store)
        → MakesStep bytes seen core left s (x (thing_of s.store name)) (Ok (answers.Unknown name))
    unknown_makes taken x is merge passes =
        only_makes left (x (thing_of s.store name)) (answers.Unknown name) (store_lines.Unknown name)
        (nothing_there taken (λ (o : Option store.Thing). x o ≡ only (store_lines.Unknown name) s.store) is merge passes) refl
        (none_taken bytes h l os left ts name stands.names taken)

    module _ (view : EngineView H R) (taken : IsTaken os left name (Some (View view))) where
      there_view : Corresponds bytes h l (Some (View view)) (thing_of s.store name)
      there_view = subst (λ (o : Option (Thing H R)). Corresponds bytes h l o (thing_of s.store name)) taken.found (stands.names.each name)

      -- the view that it stands for
      pub its : (b : Beginning) × (thing_of s.store name ≡ Some (AView (asked_view view) b)) × SeesAlone bytes view h
          × IsLive l view.ticket view.number
          × (ReadsNoTable view.ticket l → IsInMemory view.version) × (beginning view.past ≡ b)
      its = its_view bytes h l view (thing_of s.store name) there_view

      pub view_back : (new : EngineView H R) → OnlyReads view new → (SeesAlone bytes view h → SeesAlone bytes new h)
          → Stand bytes (left ++ record { name = name; thing = View new } ∷ []) ts h l
      view_back new keeps still =
          let (b, is, sees, live, near, began) = its in
          back_again bytes h l os left ts name (View view) (View new) (AView (asked_view view) b) stands.names taken is
          (subst (Corresponds bytes h l (Some (View new))) is (view_only bytes h l view new (thing_of s.store name) keeps still there_view))

      -- a view isn't written
      pub read_only_makes : (x : Option store.Thing → Step)
          → ((v : LayoutView) (b : Beginning) → x (Some (AView v b)) ≡ only store_lines.ReadOnly s.store)
          → MakesStep bytes seen core (left ++ record { name = name; thing = View view } ∷ []) s
          (x (thing_of s.store name)) (Ok answers.ReadOnly)
      read_only_makes x is =
          let (b, there, sees, live, near, began) = its in
          only_makes (left ++ record { name = name; thing = View view } ∷ []) (x (thing_of s.store name))
          answers.ReadOnly store_lines.ReadOnly
          (ap x there ∙ is (asked_view view) b) refl (view_back view refl (λ sees. sees))

    module _ (txn : Txn H R) (taken : IsTaken os left name (Some (Transaction txn))) where
      there_txn : Corresponds bytes h l (Some (Transaction txn)) (thing_of s.store name)
      there_txn = subst (λ (o : Option (Thing H R)). Corresponds bytes h l o (thing_of s.store name)) taken.found (stands.names.each name)

      -- the transaction that it stands for
      pub itself : (t : ATxn) × (b : Beginning) × (thing_of s.store name ≡ Some (ATransaction t b)) × IsTransaction bytes txn t h l
          × (beginning txn.past ≡ b)
      itself = its_transaction bytes h l txn (thing_of s.store name) there_txn

      pub txn_back : (new : Txn H R) → NotesNothing txn new → ((reads : List Read) → Sees bytes txn h reads → Sees bytes new h reads)
          → Stand bytes (left ++ record { name = name; thing = Transaction new } ∷ []) ts h l
      txn_back new keeps still =
          let (t, b, there, is, began) = itself in
          back_again bytes h l os left ts name (Transaction txn) (Transaction new) (ATransaction t b) stands.names taken there
          (txn_only bytes h l txn new t keeps (still t.reads) is, ap (λ (x : Txn H R). beginning x.past) keeps ∙ began)

      -- what a write leaves
      write_sound : (key : List ℕ) (change : Change) → IsSound (state_by s (write_by s.store name key change (thing_of s.store name)))
      write_sound key Deletes = state_after-sound s (lines.Delete name key) stands.sound
      write_sound key (Sets value) = state_after-sound s (lines.SetTagged name key value.bytes value.tag) stands.sound

      pub write_makes : (new : Txn H R) (key : List ℕ) (change : Change) → OnlyWrites txn new
          → ((k : History) (reads : List Read) → Sees bytes txn k reads → Sees bytes new k reads)
          → (result : Result ⊤ SetFail) → IsWritten txn.writes key change new.writes result
          → MakesStep bytes seen core (left ++ record { name = name; thing = Transaction new } ∷ []) s
          (write_by s.store name key change (thing_of s.store name)) (write_answer result)
      write_makes new key change keeps sees result written =
          let (t, b, there, is, began) = itself in
          let so = writes_so bytes s.store os left stands.names name txn new taken key change keeps t b there is began
          (sees h t.reads is.sees) result written in
          let behind : List (Open H R) = left ++ record { name = name; thing = Transaction new } ∷ [] in
          let x : Step = write_by s.store name key change (thing_of s.store name) in
          both (λ (answer : Answer). IsPrinted answer x.answer) (Stand bytes behind x.state.things h l)
          (StandsIn bytes seen core behind (state_by s x)) (write_answer result)
          (λ (names : Stand bytes behind x.state.things h l). quiet_stands bytes seen core os behind s x
          (write_quiet s.store name key change (thing_of s.store name)) stands names (write_sound key change))
          so.told so.names
