-- What begins and what ends, and what a commit leaves of the others.
use Rattle.std.proofs.Common.{◌≡◌, ℕ, List, [], ◌∷◌, ◌++◌, length, refl, ap, sym, ◌∙◌, subst, arith}
use Rattle.std.specs.Prelude.{Option, None, Some}
use Rattle.std.specs.FinMap.{empty, entries, len-empty, len-entries}
use Rattle.vl_reads.specs.Past.{beginning}
use Rattle.vl_version.specs.LiesOver.{IsInMemory}
use Rattle.vl_engine_laws.specs.Represents.{IsLive}
use Rattle.vl_reads.specs.Sees.{IsNew, Sees, SeesAlone, ShowsAt}
use Rattle.vl_reads.specs.declared.past.Past.{Past}
use Rattle.vl_reads.specs.declared.txn.Txn.{Txn}
use Rattle.vl_reads.specs.declared.view.View.{View as EngineView}
use Rattle.vl_reads.specs.laws.PastLaws.{past_later}
use Rattle.vl_engine_laws.specs.laws.LiveLaws.{begun_lives, begun_was_free, lives_begun, lives_ended}
use Rattle.vl_reads.specs.laws.SeesLaws.{shows_at_later}
use Rattle.vl_engine_model.specs.AtAnswer.{Beginning}
use Rattle.vl_engine_model_laws.specs.Live.{IsLivedIn}
use Rattle.vl_engine_model.specs.Ruling.{ended}
use Rattle.vl_engine_model.specs.Rulings.Begin.{begun}
use Rattle.vl_engine_model.specs.Rulings.Commit.{Transaction as ATxn}
use Rattle.vl_engine_model.specs.Sources.{tables}
use Rattle.vl_engine_model.specs.Store.Lines.{Name}
use Rattle.vl_engine_model.specs.Store.Things as store
use Rattle.vl_engine_model.specs.Store.Things.{AJob, APass, ATransaction, AView, named, thing_in, without_name}
use Rattle.vl_engine_model.specs.Store.Commits.{Changes}
use Rattle.vl_engine_model.specs.Rulings.View.{View as LayoutView}
use Rattle.vl_engine_model.specs.declared.live.Live.{Live}
use Rattle.vl_model.specs.Keys.{Writes, key_cmp}
use Rattle.vl_model.specs.Reads.{Read}
use Rattle.vl_model.specs.declared.change.Change.{Change}
use Rattle.vl_version.specs.declared.version.Version.{Version}
use Rattle.vl_engine_model.specs.Tickets.{free_ticket, tickets_of}
use Rattle.vl_engine_model.specs.declared.layout.Layout.{Layout}
use Rattle.vl_model.specs.History.{Extends, History, last_number}
use Rattle.vl_model.specs.laws.ExplainedLaws.{explained-extends}
use Rattle.vl_script_model.specs.Readers.{IsReader}
use Rattle.vl_replay_laws.specs.Standing.{Corresponds, IsTaken, ReadsNoTable, Stand, open_in, ticket_of}
use Rattle.vl_replay_laws.specs.declared.open.Open.{Open}
use Rattle.vl_replay_laws.specs.declared.open.Thing.{Thing}
use Rattle.vl_replay_laws.specs.declared.open.Thing.TheVariants.{Transaction, View}
use Rattle.vl_script_model.specs.laws.Betweens.{extends_itself, last-extends}
use Rattle.vl_replay_laws.specs.laws.Names.Lookups.{taken_none}
use Rattle.vl_replay_laws.specs.laws.Names.Reading.{it_reads}
use Rattle.vl_replay_laws.specs.laws.Names.Standings.{stands_with, stands_without}
use Rattle.vl_replay_laws.specs.laws.Names.Untabled.{reads_begun, reads_ended}

-- nothing is written at first
pub no_entries : entries (empty {K = List ℕ} {X = Change} {R = key_cmp}) ≡ []
no_entries = none (entries (empty {K = List ℕ} {X = Change} {R = key_cmp}))
    (sym (len-entries (empty {K = List ℕ} {X = Change} {R = key_cmp})) ∙ len-empty key_cmp Change)
  where
    none : (xs : Changes) → length xs ≡ 0 → xs ≡ []
    none [] e = refl
    none (x ∷ xs) e = absurd (omega (arith, e))

-- a thing's ticket is live
live_of : {H R : Type 0} (bytes : H → Option (List ℕ)) (h : History) (l : Layout) (x : Option (Thing H R)) (y : store.Thing)
    → Corresponds bytes h l x (Some y) → IsReader y → (number : ℕ) × IsLive l (ticket_of y) number
live_of bytes h l None (ATransaction t b) is reads = absurd is
live_of bytes h l None (AView v b) is reads = absurd is
live_of bytes h l None (AJob job made) is reads = absurd reads
live_of bytes h l None (APass pass batch) is reads = absurd reads
live_of bytes h l (Some (Transaction txn)) (ATransaction t b) (is, began) reads =
    (txn.number, subst (λ (u : ATxn). IsLive l u.ticket txn.number) is.same is.live)
live_of bytes h l (Some (Transaction txn)) (AView v b) is reads = absurd is
live_of bytes h l (Some (Transaction txn)) (AJob job made) is reads = absurd is
live_of bytes h l (Some (Transaction txn)) (APass pass batch) is reads = absurd is
live_of bytes h l (Some (View view)) (AView v b) (same, sees, live, near, began) reads =
    (view.number, subst (λ (w : _). IsLive l w view.number) (ap (λ w. w.ticket) same) live)
live_of bytes h l (Some (View view)) (ATransaction t b) is reads = absurd is
live_of bytes h l (Some (View view)) (AJob job made) is reads = absurd is
live_of bytes h l (Some (View view)) (APass pass batch) is reads = absurd is

-- What is seen stays seen, whatever is committed later.
shows_later : {H : Type 0} (bytes : H → Option (List ℕ)) (version : Version H) (past : Past) (h k : History) (number : ℕ) → Extends h k
    → ShowsAt bytes version past h number → ShowsAt bytes version past k number
shows_later bytes version past h k number more shows =
    let longer = last-extends h k more in
    let first = more.first in
    record {
      entries_of = shows.entries_of;
      logs = shows.logs;
      has = shows.has;
      shows = shows_at_later shows.logs shows.entries_of h k number more shows.known shows.shows;
      readable = omega (arith, first, shows.readable);
      known = omega (arith, longer, shows.known);
      shows_past = past_later bytes version past number h k more shows.known shows.shows_past;
    }

sees_later : {H R : Type 0} (bytes : H → Option (List ℕ)) (txn : Txn H R) (h k : History) (reads : List Read) → Extends h k
    → Sees bytes txn h reads → Sees bytes txn k reads
sees_later bytes txn h k reads more sees = record {
  version = shows_later bytes txn.version txn.past h k txn.number more sees.version;
  files = sees.files;
  reader = sees.reader;
  notes = sees.notes;
  explained = explained-extends h k more txn.number sees.version.known reads sees.explained;
}

alone_later : {H R : Type 0} (bytes : H → Option (List ℕ)) (view : EngineView H R) (h k : History) → Extends h k
    → SeesAlone bytes view h → SeesAlone bytes view k
alone_later bytes view h k more sees = record {
  version = shows_later bytes view.version view.past h k view.number more sees.version;
  files = sees.files;
  reader = sees.reader;
}

module _ {H R : Type 0} (bytes : H → Option (List ℕ)) (h k : History) (l m : Layout) (more : Extends h k)
    -- what lives on
    (ticket_lives : ℕ → Type 0) (lives : (ticket number : ℕ) → ticket_lives ticket → IsLive l ticket number → IsLive m ticket number)
    -- has the tables still that it reads
    (bare : (ticket number : ℕ) → ticket_lives ticket → IsLive l ticket number → ReadsNoTable ticket m → ReadsNoTable ticket l) where
  pub still_stands : (x : Option (Thing H R)) (y : Option store.Thing)
      → ((z : store.Thing) → y ≡ Some z → IsReader z → ticket_lives (ticket_of z))
      → Corresponds bytes h l x y → Corresponds bytes k m x y
  still_stands None None on is = tt
  still_stands None (Some (ATransaction t b)) on is = absurd is
  still_stands None (Some (AView v b)) on is = absurd is
  still_stands None (Some (AJob job made)) on is = tt
  still_stands None (Some (APass pass batch)) on is = tt
  still_stands (Some (Transaction txn)) None on is = absurd is
  still_stands (Some (Transaction txn)) (Some (ATransaction t b)) on (is, began) =
      let goes_on = subst (λ (u : ATxn). ticket_lives u.ticket) (sym is.same) (on (ATransaction t b) refl tt) in (
        (record {
          same = is.same;
          sees = sees_later bytes txn h k t.reads more is.sees;
          live = lives txn.ticket txn.number goes_on is.live;
          near = λ none. is.near (bare txn.ticket txn.number goes_on is.live none);
        }),
        began,
      )
  still_stands (Some (Transaction txn)) (Some (AView v b)) on is = absurd is
  still_stands (Some (Transaction txn)) (Some (AJob job made)) on is = absurd is
  still_stands (Some (Transaction txn)) (Some (APass pass batch)) on is = absurd is
  still_stands (Some (View view)) None on is = absurd is
  still_stands (Some (View view)) (Some (AView v b)) on (same, sees, live, near, began) =
      let goes_on = subst (λ (w : LayoutView). ticket_lives w.ticket) (sym same) (on (AView v b) refl tt) in (
        same,
        alone_later bytes view h k more sees,
        lives view.ticket view.number goes_on live,
        λ none. near (bare view.ticket view.number goes_on live none),
        began,
      )
  still_stands (Some (View view)) (Some (ATransaction t b)) on is = absurd is
  still_stands (Some (View view)) (Some (AJob job made)) on is = absurd is
  still_stands (Some (View view)) (Some (APass pass batch)) on is = absurd is

-- ---- ends, also by a commit

module _ {H R : Type 0} (bytes : H → Option (List ℕ)) (h k : History) (l m : Layout) (os left : List (Open H R))
    (ts : List (Name × store.Thing))
    (stand : Stand bytes os ts h l) (name : Name) (thing : Thing H R) (taken : IsTaken os left name (Some thing))
    (x : store.Thing) (there : thing_in ts name ≡ Some x) (more : Extends h k)
    (live : m.live ≡ (ended (ticket_of x) l).live) (levels : m.levels ≡ l.levels) (retired : m.retired ≡ l.retired) where
  -- The name is free, and the others stand on.
  pub ends_so : Stand bytes left (without_name name ts) k m
  ends_so = stands_without bytes ts h k l m os left stand name (Some thing) taken
      (λ other apart y z at is. still_stands bytes h k l m more (λ (ticket : ℕ). ticket ≡ ticket_of x → ⊥)
      (λ ticket number differs lives. subst (λ (xs : List Live). IsLive (record m { live = xs }) ticket number)
      (sym live) (lives_ended l (ticket_of x) ticket number differs lives))
      (λ ticket number differs lives. reads_ended ticket (ticket_of x) differs l m live levels retired)
      y z (λ u found reads same. apart
      (stand.apart other name u x (at ∙ found) there reads (it_reads bytes h l os left ts name thing x stand taken there) same)) is)

-- ---- begins

module _ {H R : Type 0} (bytes : H → Option (List ℕ)) (h : History) (l : Layout) (os : List (Open H R)) (ts : List (Name × store.Thing))
    (stand : Stand bytes os ts h l) (name : Name) (free : open_in os name ≡ None) (lived : IsLivedIn l h) where
  abbrev ticket : ℕ
  ticket = free_ticket (tickets_of l.live)

  abbrev next : Layout
  next = begun l ticket (last_number h)

  -- The name stands for what began, and the others stand on.
  pub begins_so : (new : Thing H R) (x : store.Thing) → ticket_of x ≡ ticket → Corresponds bytes h next (Some new) (Some x)
      → Stand bytes (os ++ record { name = name; thing = new } ∷ []) (named name x ts) h next
  begins_so new x own there = stands_with bytes ts h h l next os os stand name None (taken_none name os stand.once free)
      (λ other apart y z at is. still_stands bytes h h l next (extends_itself h) (λ (t : ℕ). Unit {0})
      (λ t number on lives. lives_begun l h lived t number lives)
      (λ t number on lives. reads_begun t ticket (last_number h) l) y z (λ u found reads. tt) is)
      new x there
      (λ other y apart at reads same.
      let (number, lives) = live_of bytes h l (open_in os other) y
      (subst (Corresponds bytes h l (open_in os other)) at (stand.each other)) reads in
      begun_was_free l h lived number (subst (λ (t : ℕ). IsLive l t number) (sym same ∙ own) lives))

  pub begins_transaction : (txn : Txn H R) (b : Beginning) → txn.ticket ≡ ticket → txn.number ≡ last_number h
      → IsNew txn → Sees bytes txn h []
      → (tables l ≡ [] → IsInMemory txn.version) → beginning txn.past ≡ b
      → Stand bytes (os ++ record { name = name; thing = Transaction txn } ∷ [])
      (named name (ATransaction (record { ticket = ticket; number = last_number h; reads = []; writes = [] }) b) ts) h next
  begins_transaction txn b own number new sees near began = begins_so (Transaction txn) _ refl (
    (record {
      same = ap (λ (n : ℕ). record { ticket = n; number = txn.number; reads = []; writes = entries txn.writes }) own
          ∙ ap (λ (n : ℕ). record { ticket = ticket; number = n; reads = []; writes = entries txn.writes }) number
          ∙ ap (λ (w : Changes). record { ticket = ticket; number = last_number h; reads = []; writes = w })
          (ap (λ (w : Writes). entries w) new.writes ∙ no_entries);
      sees = sees;
      live = subst (λ (n : ℕ). IsLive next n txn.number) (sym own) (subst (IsLive next ticket) (sym number) (begun_lives l h lived));
      near = λ none. near none.0;
    }),
    began,
  )

  pub begins_view : (view : EngineView H R) (b : Beginning) → view.ticket ≡ ticket → view.number ≡ last_number h → SeesAlone bytes view h
      → (tables l ≡ [] → IsInMemory view.version) → beginning view.past ≡ b
      → Stand bytes (os ++ record { name = name; thing = View view } ∷ [])
      (named name (AView (record { ticket = ticket; number = last_number h }) b) ts) h next
  begins_view view b own number sees near began = begins_so (View view) _ refl (
    ap (λ (n : ℕ). record { ticket = n; number = view.number }) own ∙ ap (λ (n : ℕ). record { ticket = ticket; number = n }) number,
    sees,
    subst (λ (n : ℕ). IsLive next n view.number) (sym own) (subst (IsLive next ticket) (sym number) (begun_lives l h lived)),
    λ none. near none.0,
    began,
  )
