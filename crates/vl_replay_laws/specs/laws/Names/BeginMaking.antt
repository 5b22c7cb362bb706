-- What begins and ends make, which change what lives.
use Rattle.std.proofs.Common.{◌≡◌, ℕ, Bool, true, false, cond, List, [], ◌∷◌, ◌++◌, length, refl, ap, sym, ◌∙◌, subst}
use Rattle.std.specs.Prelude.{◌≤◌, Option, None, Some, Ok, nat_le}
use Rattle.std.specs.Option.{is_some}
use Rattle.vl_disk.specs.DiskState.{DiskState}
use Rattle.vl_reads.specs.Past.{beginning}
use Rattle.vl_version.specs.LiesOver.{IsInMemory}
use Rattle.vl_reads.specs.Sees.{IsNew, Sees, SeesAlone, asked_view}
use Rattle.vl_back.specs.declared.back.Back.{Back}
use Rattle.vl_engine_laws.specs.declared.kept.Core.{Core}
use Rattle.vl_reads.specs.declared.txn.Txn.{Txn}
use Rattle.vl_reads.specs.declared.view.View.{View as EngineView}
use Rattle.vl_engine_model.specs.AtAnswer.{Beginning, beginning_of}
use Rattle.vl_engine_model.specs.Decides.{Answered, Decides, as_before, no_effects}
use Rattle.vl_engine_model.specs.Ruling.{Ruling, ended, leaving, pin_of}
use Rattle.vl_engine_model.specs.Rulings.Begin as begin
use Rattle.vl_engine_model.specs.Rulings.Begin.{BeginAnswer, Begun, begin_ruling, begun}
use Rattle.vl_engine_model.specs.Rulings.Commit.{Transaction as ATxn}
use Rattle.vl_engine_model.specs.Sources.{tables}
use Rattle.vl_engine_model.specs.Store.Commits.{history_in}
use Rattle.vl_engine_model.specs.Store.Dispatch.{drop_by}
use Rattle.vl_engine_model.specs.Store.Lines as store_lines
use Rattle.vl_engine_model.specs.Store.Lines.{Name}
use Rattle.vl_engine_model.specs.Store.Reading.{a_transaction, a_view, begin_as, begun_by}
use Rattle.vl_engine_model.specs.Store.Things as store
use Rattle.vl_engine_model.specs.Relocation.{Candidate, Pass}
use Rattle.vl_engine_model.specs.Store.Things.{AJob, APass, ATransaction, AView, Step, named, only, thing_of, without_thing}
use Rattle.vl_engine_model.specs.Tickets.{free_ticket, tickets_of}
use Rattle.vl_engine_model.specs.laws.LowShows.{floor-begun}
use Rattle.vl_engine_model.specs.declared.layout.Layout.{Layout}
use Rattle.vl_model.specs.History.{History, last_number}
use Rattle.vl_model.specs.Limits.{max_live}
use Rattle.vl_replay_laws.specs.Replaying.{MakesStep, StandsIn, state_by}
use Rattle.vl_script_model.specs.Sequential.{IsPrinted, State, history_of}
use Rattle.vl_replay_laws.specs.Standing.{Corresponds, IsTaken, Stand, open_in, ticket_of}
use Rattle.vl_replay_laws.specs.declared.open.Open.{Open}
use Rattle.vl_replay_laws.specs.declared.open.Thing.{Thing}
use Rattle.vl_replay_laws.specs.declared.open.Thing.TheVariants.{Transaction, View}
use Rattle.vl_script_model.specs.laws.Laws.{IsSound, state_after-sound}
use Rattle.vl_script.specs.declared.answer.Answer.{Answer}
use Rattle.vl_script.specs.declared.answer.Answer.TheVariants as answers
use Rattle.vl_script.specs.declared.line.Line.TheVariants as lines
use Rattle.vl_script_model.specs.laws.Betweens.{extends_itself}
use Rattle.vl_replay_laws.specs.laws.Names.Ending.{begins_transaction, begins_view, ends_so}
use Rattle.vl_engine_model.specs.Jobs.{Made}
use Rattle.vl_engine_model.specs.declared.job.Job.{Job}
use Rattle.vl_replay_laws.specs.laws.Names.Making.{itself, its, none_taken, only_makes}
use Rattle.vl_replay_laws.specs.laws.Names.Reading.{no_reader}
use Rattle.vl_replay_laws.specs.laws.Names.Serving.{Serves}

begun_ticket : (a b n m : ℕ) → Begun a n ≡ Begun b m → a ≡ b
begun_ticket a b n m e = cc

begun_number : (a b n m : ℕ) → Begun a n ≡ Begun b m → n ≡ m
begun_number a b n m e = cc

-- what begins may read as far back as the layout had it before
begun_beginning : (l : Layout) (h : History) → beginning_of (begun l (free_ticket (tickets_of l.live)) (last_number h)) h ≡ beginning_of l h
begun_beginning l h =
    let ticket = free_ticket (tickets_of l.live) in
    ap (λ (f : ℕ). record { floor = f; keep = l.keep; since = l.since })
    (floor-begun l (begun l ticket (last_number h)) h (record { ticket = ticket; number = last_number h; pin = pin_of l }) refl refl)

pub none_or_some : {T : Type 0} (x : Option T) → is_some x ≡ false → x ≡ None
none_or_some None is = refl
none_or_some (Some y) is = absurd cc

module _ {H R : Type 0} (bytes : H → Option (List ℕ)) (seen now : Option DiskState) (before after : Core H)
    (os : List (Open H R)) (s : State)
    (stands : StandsIn bytes seen before os s) (back : after.back ≡ before.back) where
  abbrev h : History
  h = history_of s

  abbrev l : Layout
  l = s.store.layout

  -- what the engine is behind a step
  abbrev Serving : History → Layout → Type 0
  Serving = Serves bytes now s.openable after

  -- what a step that isn't halted leaves
  pub stands_as : (new : List (Open H R)) (x : Step) → Serving (history_in x.state.commits) x.state.layout
      → Stand bytes new x.state.things (history_in x.state.commits) x.state.layout → IsSound (state_by s x)
      → x.state.layout.halted ≡ l.halted → StandsIn bytes now after new (state_by s x)
  stands_as new x there names sound halted = record {
    engine = there.stands;
    names = names;
    sound = sound;
    held = λ openable. there.held openable (halted ∙ stands.running);
    running = halted ∙ stands.running;
    fits = there.fits;
    within = subst (λ (b : Back). b.state.next_log ≤ b.next_log) (sym back) stands.within;
  }

  -- one that changes nothing
  pub kept_makes : (new : List (Open H R)) (x : Step) (told : Answer) (answer : store_lines.Answer) → x ≡ only answer s.store
      → IsPrinted told answer → Serving h l → Stand bytes new s.store.things h l → MakesStep bytes now after new s x (Ok told)
  kept_makes new x told answer same is there names =
      subst (λ (y : Step). MakesStep bytes now after new s y (Ok told)) (sym same)
      (is, stands_as new (only answer s.store) there names stands.sound refl)

  module _ (name : Name) (thing : Beginning → ℕ → ℕ → store.Thing)
      (sound : IsSound (state_by s (begin_as s.store name thing (thing_of s.store name)))) where
    abbrev ticket : ℕ
    ticket = free_ticket (tickets_of l.live)

    abbrev by_room : Bool → Ruling BeginAnswer
    by_room full = cond full (leaving begin.TooMany h l) (leaving (Begun ticket (last_number h)) h (begun l ticket (last_number h)))

    abbrev by_ruling : Bool → Step
    by_ruling full = begun_by s.store name (thing (beginning_of (by_room full).layout h)) (by_room full) (by_room full).answer

    abbrev full : Bool
    full = nat_le max_live (length l.live)

    step_is : thing_of s.store name ≡ None → begin_as s.store name thing (thing_of s.store name) ≡ by_ruling full
    step_is free = ap (begin_as s.store name thing) free

    pub begin_makes : (free : thing_of s.store name ≡ None) (new : Thing H R) (own number : ℕ)
        → ((b : Beginning) → b ≡ beginning_of l h → own ≡ ticket → number ≡ last_number h
        → Stand bytes (os ++ record { name = name; thing = new } ∷ [])
        (named name (thing b ticket (last_number h)) s.store.things) h (begun l ticket (last_number h)))
        → Decides Serving h l (begin_ruling l h) (as_before l l) (Answered (Begun own number)) no_effects
        → MakesStep bytes now after (os ++ record { name = name; thing = new } ∷ []) s
        (begin_as s.store name thing (thing_of s.store name)) (Ok (answers.Number number))
    begin_makes free new own number names decides =
        let (is, there) = decides.answered (Begun own number) refl in
        subst (λ (y : Step). MakesStep bytes now after (os ++ record { name = name; thing = new } ∷ []) s y
        (Ok (answers.Number number))) (sym (step_is free))
        (of full is there (subst (λ (y : Step). IsSound (state_by s y)) (step_is free) sound))
      where
        of : (b : Bool) → Begun own number ≡ (by_room b).answer → Serving (by_room b).history (by_room b).layout
            → IsSound (state_by s (by_ruling b))
            → MakesStep bytes now after (os ++ record { name = name; thing = new } ∷ []) s (by_ruling b) (Ok (answers.Number number))
        of true is there sound = absurd cc
        of false is there sound = (
          ap store_lines.Number (begun_number own ticket number (last_number h) is),
          stands_as (os ++ record { name = name; thing = new } ∷ []) (by_ruling false) there
              (names (beginning_of (by_room false).layout h) (begun_beginning l h)
              (begun_ticket own ticket number (last_number h) is) (begun_number own ticket number (last_number h) is)) sound
              refl,
        )

    pub too_many_makes : (free : thing_of s.store name ≡ None)
        → Decides Serving h l (begin_ruling l h) (as_before l l) (Answered begin.TooMany) no_effects
        → MakesStep bytes now after os s (begin_as s.store name thing (thing_of s.store name)) (Ok answers.TooMany)
    too_many_makes free decides =
        let (is, there) = decides.answered begin.TooMany refl in
        subst (λ (y : Step). MakesStep bytes now after os s y (Ok answers.TooMany)) (sym (step_is free)) (of full is there)
      where
        of : (b : Bool) → begin.TooMany ≡ (by_room b).answer → Serving (by_room b).history (by_room b).layout
            → MakesStep bytes now after os s (by_ruling b) (Ok answers.TooMany)
        of true is there = (refl, stands_as os (only store_lines.TooMany s.store) there stands.names stands.sound refl)
        of false is there = absurd cc

  -- ---- begins of either kind

  pub transaction_makes : (name : Name) (bare : thing_of s.store name ≡ None) (free : open_in os name ≡ None)
      (txn : Txn H R) → IsNew txn → Sees bytes txn h []
      → (tables l ≡ [] → IsInMemory txn.version) → beginning txn.past ≡ beginning_of l h
      → Decides Serving h l (begin_ruling l h) (as_before l l) (Answered (Begun txn.ticket txn.number)) no_effects
      → MakesStep bytes now after (os ++ record { name = name; thing = Transaction txn } ∷ []) s
      (begin_as s.store name a_transaction (thing_of s.store name)) (Ok (answers.Number txn.number))
  transaction_makes name bare free txn new sees near began decides =
      begin_makes name a_transaction (state_after-sound s (lines.Begin name) stands.sound) bare (Transaction txn) txn.ticket txn.number
      (λ b is own number. begins_transaction bytes h l os s.store.things stands.names name free
      stands.engine.fronts.front.lived txn b own number new sees near (began ∙ sym is)) decides

  pub view_makes : (name : Name) (bare : thing_of s.store name ≡ None) (free : open_in os name ≡ None)
      (view : EngineView H R) → SeesAlone bytes view h
      → (tables l ≡ [] → IsInMemory view.version) → beginning view.past ≡ beginning_of l h
      → Decides Serving h l (begin_ruling l h) (as_before l l) (Answered (Begun view.ticket view.number)) no_effects
      → MakesStep bytes now after (os ++ record { name = name; thing = View view } ∷ []) s
      (begin_as s.store name a_view (thing_of s.store name)) (Ok (answers.Number view.number))
  view_makes name bare free view sees near began decides =
      begin_makes name a_view (state_after-sound s (lines.View name) stands.sound) bare (View view) view.ticket view.number
      (λ b is own number. begins_view bytes h l os s.store.things stands.names name free
      stands.engine.fronts.front.lived view b own number sees near (began ∙ sym is)) decides

  -- ---- ends

  module _ (left : List (Open H R)) (name : Name) where
    abbrev dropping : Step
    dropping = drop_by s.store name (thing_of s.store name)

    -- what has ended, whatever is told of it
    pub ended_stands : (thing : Thing H R) → IsTaken os left name (Some thing) → (x : store.Thing) → thing_of s.store name ≡ Some x
        → Serving h (ended (ticket_of x) l) → (answer : store_lines.Answer)
        → let y : Step = record { answer = answer; state = without_thing s.store (ended (ticket_of x) l) name; calls = 0 } in
        IsSound (state_by s y) → StandsIn bytes now after left (state_by s y)
    ended_stands thing taken x there on answer sound =
        let y : Step = record { answer = answer; state = without_thing s.store (ended (ticket_of x) l) name; calls = 0 } in
        stands_as left y on
        (ends_so bytes h h l (ended (ticket_of x) l) os left s.store.things stands.names name thing taken x there
        (extends_itself h) refl refl refl) sound refl

    pub view_ends : (view : EngineView H R) → IsTaken os left name (Some (View view)) → Serving h (ended view.ticket l)
        → MakesStep bytes now after left s dropping (Ok answers.Done)
    view_ends view taken on =
        let (b, there, sees, live, near, began) = its bytes seen before os s stands left name view taken in
        let same : dropping ≡ drop_by s.store name (Some (AView (asked_view view) b)) = ap (drop_by s.store name) there in
        subst (λ (y : Step). MakesStep bytes now after left s y (Ok answers.Done)) (sym same) (
          refl,
          ended_stands (View view) taken (AView (asked_view view) b) there on store_lines.Done
              (subst (λ (y : Step). IsSound (state_by s y)) same (state_after-sound s (lines.Drop name) stands.sound)),
        )

    pub transaction_ends : (txn : Txn H R) → IsTaken os left name (Some (Transaction txn)) → Serving h (ended txn.ticket l)
        → MakesStep bytes now after left s dropping (Ok answers.Done)
    transaction_ends txn taken on =
        let (t, b, there, is, began) = itself bytes seen before os s stands left name txn taken in
        let same : dropping ≡ drop_by s.store name (Some (ATransaction t b)) = ap (drop_by s.store name) there in
        subst (λ (y : Step). MakesStep bytes now after left s y (Ok answers.Done)) (sym same) (
          refl,
          ended_stands (Transaction txn) taken (ATransaction t b) there
              (subst (λ (u : ATxn). Serving h (ended u.ticket l)) is.same on) store_lines.Done
              (subst (λ (y : Step). IsSound (state_by s y)) same (state_after-sound s (lines.Drop name) stands.sound)),
        )

-- ---- a name that is in use

pub some_there : (H R : Type 0) (bytes : H → Option (List ℕ)) (h : History) (l : Layout) (x : Option (Thing H R)) (y : Option store.Thing)
    → is_some x ≡ true → Corresponds bytes h l x y → is_some y ≡ true
some_there H R bytes h l None y used is = absurd cc
some_there H R bytes h l (Some (Transaction txn)) None used is = absurd is
some_there H R bytes h l (Some (View view)) None used is = absurd is
some_there H R bytes h l (Some x) (Some z) used is = refl

-- a name that no reader has, no merge and no pass stands for nothing
pub bare_of : {H R : Type 0} (bytes : H → Option (List ℕ)) (h : History) (l : Layout) (o : Option (Thing H R))
    (y : Option store.Thing) → o ≡ None
    → Corresponds bytes h l o y → ((job : Job) (made : Made) → y ≡ Some (AJob job made) → ⊥)
    → ((pass : Pass) (batch : Option (List Candidate)) → y ≡ Some (APass pass batch) → ⊥) → y ≡ None
bare_of {H} {R} bytes h l o y none is no_merge no_pass =
    no_reader H R bytes h l (λ (z : Option store.Thing). y ≡ z → y ≡ None) y
    (subst (λ (x : Option (Thing H R)). Corresponds bytes h l x y) none is)
    (λ same. same) (λ job made same. absurd (no_merge job made same)) (λ pass batch same. absurd (no_pass pass batch same)) refl

-- it is told that it stands for nothing
pub unnamed_makes : {H R : Type 0} (bytes : H → Option (List ℕ)) (seen : Option DiskState) (core : Core H)
    (os : List (Open H R)) (s : State)
    (stands : StandsIn bytes seen core os s) (left : List (Open H R)) (name : Name) → IsTaken os left name None
    → ((job : Job) (made : Made) → thing_of s.store name ≡ Some (AJob job made) → ⊥)
    → ((pass : Pass) (batch : Option (List Candidate)) → thing_of s.store name ≡ Some (APass pass batch) → ⊥)
    → (x : Option store.Thing → Step) → x None ≡ only (store_lines.Unknown name) s.store
    → MakesStep bytes seen core left s (x (thing_of s.store name)) (Ok (answers.Unknown name))
unnamed_makes bytes seen core os s stands left name taken none no_pass x is =
    only_makes bytes seen core os s stands left (x (thing_of s.store name)) (answers.Unknown name) (store_lines.Unknown name)
    (ap x (bare_of bytes (history_of s) s.store.layout (open_in os name) (thing_of s.store name) taken.found
    (stands.names.each name) none no_pass) ∙ is) refl
    (none_taken bytes (history_of s) s.store.layout os left s.store.things name stands.names taken)

-- where a name stands for nothing no reader has it
pub unread_of : {H R : Type 0} (bytes : H → Option (List ℕ)) (h : History) (l : Layout) (o : Option (Thing H R)) (y : Option store.Thing)
    → Corresponds bytes h l o y → y ≡ None → o ≡ None
unread_of bytes h l None y is none = refl
unread_of bytes h l (Some (Transaction txn)) None is none = absurd is
unread_of bytes h l (Some (View view)) None is none = absurd is
unread_of bytes h l (Some thing) (Some z) is none = absurd cc
