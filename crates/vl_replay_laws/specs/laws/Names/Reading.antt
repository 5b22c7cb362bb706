-- What is read through a name: it is answered as the store has it, and the name stands for the same then, with the read noted.
use Rattle.std.proofs.Common.{◌≡◌, ℕ, true, List, [], ◌∷◌, ◌++◌, length, refl, ap, sym, ◌∙◌, subst}
use Rattle.std.specs.Prelude.{Option, None, Some}
use Rattle.std.specs.FinMap.{find, get, get-entries}
use Rattle.std.specs.Option.{is_some}
use Rattle.vl_reads.specs.Past.{beginning}
use Rattle.vl_reads.specs.Reading.{OnlyNotes, value_under}
use Rattle.vl_version.specs.LiesOver.{IsInMemory}
use Rattle.vl_engine_laws.specs.Represents.{IsLive}
use Rattle.vl_reads.specs.Sees.{Sees, SeesAlone, asked, asked_view}
use Rattle.vl_reads.specs.declared.txn.Txn.{Txn}
use Rattle.vl_reads.specs.declared.view.View.{View as EngineView}
use Rattle.vl_engine_model.specs.AtAnswer.{Beginning}
use Rattle.vl_engine_model.specs.Rulings.Commit.{Transaction as ATxn}
use Rattle.vl_engine_model.specs.Store.Commits.{history_in, value_in}
use Rattle.vl_engine_model.specs.Store.Lines.{Answer, Invalid, Name}
use Rattle.vl_engine_model.specs.Store.Reading.{get_by, get_own}
use Rattle.vl_engine_model.specs.Store.Things as store
use Rattle.vl_engine_model.specs.Store.Things.{AJob, APass, ATransaction, AView, Step, named, only, thing_in}
use Rattle.vl_engine_model.specs.laws.CommitsLaws.{value_in-is}
use Rattle.vl_engine_model.specs.Store.Commits.{AreProper}
use Rattle.vl_engine_model.specs.declared.layout.Layout.{Layout}
use Rattle.vl_model.specs.History.{History, value_at, value_left}
use Rattle.vl_model.specs.Keys.{Stored, is_key_length, key_cmp}
use Rattle.vl_model.specs.Reads.{KeyRead, Read}
use Rattle.vl_model.specs.declared.change.Change.{Change}
use Rattle.vl_txn.specs.Reads.{with_get}
use Rattle.vl_replay_laws.specs.Standing.{Corresponds, IsTaken, IsTransaction, ReadsNoTable, Stand, open_in, ticket_of}
use Rattle.vl_engine_model.specs.Jobs.{Made}
use Rattle.vl_engine_model.specs.Relocation.{Candidate, Pass}
use Rattle.vl_engine_model.specs.declared.job.Job.{Job}
use Rattle.vl_script_model.specs.Readers.{IsReader}
use Rattle.vl_replay_laws.specs.declared.open.Open.{Open}
use Rattle.vl_replay_laws.specs.declared.open.Thing.{Thing}
use Rattle.vl_replay_laws.specs.declared.open.Thing.TheVariants.{Transaction, View}
use Rattle.vl_replay_laws.specs.laws.Names.Lookups.{on_false, on_true, thing_beside, thing_put}
use Rattle.vl_replay_laws.specs.laws.Names.Standings.{same_or_not, stands_with}
use Rattle.std.proofs.Common.{⊎_elim}

-- putting the same thing leaves the same
pub named_again : (ts : List (Name × store.Thing)) (name : Name) (x : store.Thing) → thing_in ts name ≡ Some x
    → (q : Name) → thing_in (named name x ts) q ≡ thing_in ts q
named_again ts name x is q = ⊎_elim
    (λ (same : q ≡ name). subst (λ (p : Name). thing_in (named name x ts) p ≡ thing_in ts p) (sym same) (thing_put name x ts ∙ sym is))
    (λ (apart : q ≡ name → ⊥). thing_beside name q apart x ts)
    (same_or_not q name)

-- ---- what a name stands for

module _ {H R : Type 0} (bytes : H → Option (List ℕ)) (h : History) (l : Layout) where
  pub its_transaction : (txn : Txn H R) (y : Option store.Thing) → Corresponds bytes h l (Some (Transaction txn)) y
      → (t : ATxn) × (b : Beginning) × (y ≡ Some (ATransaction t b)) × IsTransaction bytes txn t h l × (beginning txn.past ≡ b)
  its_transaction txn None is = absurd is
  its_transaction txn (Some (ATransaction t b)) (is, began) = (t, b, refl, is, began)
  its_transaction txn (Some (AView v b)) is = absurd is
  its_transaction txn (Some (AJob job made)) is = absurd is
  its_transaction txn (Some (APass pass batch)) is = absurd is

  pub its_view : (view : EngineView H R) (y : Option store.Thing) → Corresponds bytes h l (Some (View view)) y
      → (b : Beginning) × (y ≡ Some (AView (asked_view view) b)) × SeesAlone bytes view h × IsLive l view.ticket view.number
      × (ReadsNoTable view.ticket l → IsInMemory view.version) × (beginning view.past ≡ b)
  its_view view None is = absurd is
  its_view view (Some (AView v b))
      (same, sees, live, near, began) = (b, ap (λ (w : _). Some (AView w b)) (sym same), sees, live, near, began)
  its_view view (Some (ATransaction t b)) is = absurd is
  its_view view (Some (AJob job made)) is = absurd is
  its_view view (Some (APass pass batch)) is = absurd is

  -- the same things stand in another list that has them under the same names
  pub stand_alike : (os : List (Open H R)) (ts us : List (Name × store.Thing)) → ((q : Name) → thing_in ts q ≡ thing_in us q)
      → Stand bytes os ts h l → Stand bytes os us h l
  stand_alike os ts us alike stand = record {
    each = λ q. subst (Corresponds bytes h l (open_in os q)) (alike q) (stand.each q);
    once = stand.once;
    apart = λ a b x y at_a at_b reads_x reads_y same. stand.apart a b x y (alike a ∙ at_a) (alike b ∙ at_b) reads_x reads_y same;
  }

  -- what stands for a reader reads
  its_reader : (x : Thing H R) (y : store.Thing) → Corresponds bytes h l (Some x) (Some y) → IsReader y
  its_reader (Transaction txn) (ATransaction t b) is = tt
  its_reader (Transaction txn) (AView v b) is = tt
  its_reader (Transaction txn) (AJob job made) is = is
  its_reader (Transaction txn) (APass pass batch) is = is
  its_reader (View view) (ATransaction t b) is = tt
  its_reader (View view) (AView v b) is = tt
  its_reader (View view) (AJob job made) is = is
  its_reader (View view) (APass pass batch) is = is

  pub it_reads : (os left : List (Open H R)) (ts : List (Name × store.Thing)) (name : Name) (old : Thing H R) (x : store.Thing)
      → Stand bytes os ts h l → IsTaken os left name (Some old) → thing_in ts name ≡ Some x → IsReader x
  it_reads os left ts name old x stand taken is =
      its_reader old x (subst (Corresponds bytes h l (Some old)) is
      (subst (λ (o : Option (Thing H R)). Corresponds bytes h l o (thing_in ts name)) taken.found (stand.each name)))

  -- A name is put back, for the same ticket.
  pub put_back : (os left : List (Open H R)) (ts : List (Name × store.Thing)) (name : Name) (old new : Thing H R) (x y : store.Thing)
      → Stand bytes os ts h l → IsTaken os left name (Some old) → thing_in ts name ≡ Some x → ticket_of x ≡ ticket_of y
      → Corresponds bytes h l (Some new) (Some y)
      → Stand bytes (left ++ record { name = name; thing = new } ∷ []) (named name y ts) h l
  put_back os left ts name old new x y stand taken is ticket there =
      stands_with bytes ts h h l l os left stand name (Some old) taken (λ other apart a b at same. same) new y there
      (λ other z apart at reads same. apart
      (stand.apart other name z x at is reads (it_reads os left ts name old x stand taken is) (sym same ∙ sym ticket)))

-- nothing that reads, on both sides: what holds of nothing, of each merge and of each pass holds of it
pub no_reader : (H R : Type 0) (bytes : H → Option (List ℕ)) (h : History) (l : Layout)
    (P : Option store.Thing → Type 0) (y : Option store.Thing)
    → Corresponds {H = H} {R = R} bytes h l None y → P None → ((job : Job) (made : Made) → P (Some (AJob job made)))
    → ((pass : Pass) (batch : Option (List Candidate)) → P (Some (APass pass batch))) → P y
no_reader H R bytes h l P None is none merge passes = none
no_reader H R bytes h l P (Some (ATransaction t b)) is none merge passes = absurd is
no_reader H R bytes h l P (Some (AView v b)) is none merge passes = absurd is
no_reader H R bytes h l P (Some (AJob job made)) is none merge passes = merge job made
no_reader H R bytes h l P (Some (APass pass batch)) is none merge passes = passes pass batch

-- ---- a read of a key in a transaction

-- what it asks for then, with these reads
only_notes_asked : {H R : Type 0} (txn new : Txn H R) (reads : List Read) → OnlyNotes txn new → asked new reads ≡ asked txn reads
only_notes_asked txn new reads keeps = ap (λ (x : Txn _ _). asked x reads) keeps

module _ {H R : Type 0} (bytes : H → Option (List ℕ)) (s : store.State) (proper : AreProper s.commits) (os left : List (Open H R))
    (stand : Stand bytes os s.things (history_in s.commits) s.layout) (name : Name) (txn new : Txn H R)
    (taken : IsTaken os left name (Some (Transaction txn))) (key : List ℕ) (fits : is_key_length (length key) ≡ true)
    (keeps : OnlyNotes txn new) where
  abbrev h : History
  h = history_in s.commits

  abbrev reading : (Option Stored → Answer) → Step
  reading tell = get_by s name tell key (thing_in s.things name)

  -- how it is answered, and what the names stand for then
  pub record ReadsSo (tell : Option Stored → Answer) : Type 0 where
    pub answer : (reading tell).answer ≡ tell (value_under txn.writes h txn.number key)
    pub names : Stand bytes (left ++ record { name = name; thing = Transaction new } ∷ []) (reading tell).state.things h s.layout

  module _ (tell : Option Stored → Answer) (t : ATxn) (b : Beginning) (there : thing_in s.things name ≡ Some (ATransaction t b))
      (is : IsTransaction bytes txn t h s.layout) (began : beginning txn.past ≡ b)
      (sees : Sees bytes new h (with_get txn.writes t.reads key (value_at h txn.number key))) where
    -- the transaction's step by what it has written to the key
    by_own : (o : Option Change) → get txn.writes key ≡ o
        → let x = get_own s name tell t b key o in (x.answer ≡ tell (value_left (value_at h txn.number key) o))
        × Stand bytes (left ++ record { name = name; thing = Transaction new } ∷ []) x.state.things h s.layout
    by_own (Some change) own = (
      refl,
      stand_alike bytes h s.layout (left ++ record { name = name; thing = Transaction new } ∷ [])
          (named name (ATransaction t b) s.things) s.things
          (named_again s.things name (ATransaction t b) there)
          (put_back bytes h s.layout os left s.things name (Transaction txn) (Transaction new) (ATransaction t b)
          (ATransaction t b) stand taken there refl (
            (record {
              same = only_notes_asked txn new t.reads keeps ∙ is.same;
              sees = subst (Sees bytes new h)
                  (on_true (is_some (get txn.writes key)) t.reads
                  (t.reads ++ KeyRead key (value_at h txn.number key) ∷ []) (ap is_some own)) sees;
              live = subst (λ (x : Txn H R). IsLive s.layout x.ticket x.number) (sym keeps) is.live;
              near = subst (λ (x : Txn H R). ReadsNoTable x.ticket s.layout → IsInMemory x.version) (sym keeps) is.near;
            }),
            ap (λ (x : Txn H R). beginning x.past) keeps ∙ began,
          )),
    )
    by_own None own = (
      ap tell value,
      put_back bytes h s.layout os left s.things name (Transaction txn) (Transaction new) (ATransaction t b)
          (ATransaction noted b) stand taken there refl (
            (record {
              same = only_notes_asked txn new noted.reads keeps ∙ ap (λ (u : ATxn). record u { reads = noted.reads }) is.same;
              sees = subst (Sees bytes new h)
                  (on_false (is_some (get txn.writes key)) t.reads (t.reads ++ KeyRead key (value_at h txn.number key) ∷ [])
                  (ap is_some own)
                  ∙ ap (λ (v : Option Stored). t.reads ++ KeyRead key v ∷ []) (sym value)) sees;
              live = subst (λ (x : Txn H R). IsLive s.layout x.ticket x.number) (sym keeps) is.live;
              near = subst (λ (x : Txn H R). ReadsNoTable x.ticket s.layout → IsInMemory x.version) (sym keeps) is.near;
            }),
            ap (λ (x : Txn H R). beginning x.past) keeps ∙ began,
          ),
    )
      where
        -- the number is the transaction's
        value : value_in s.commits t.number key ≡ value_at h txn.number key
        value = value_in-is s.commits proper t.number key ∙ ap (λ (u : ATxn). value_at h u.number key) (sym is.same)

        noted : ATxn
        noted = record t { reads = t.reads ++ KeyRead key (value_in s.commits t.number key) ∷ [] }

    same_own : get txn.writes key ≡ find key_cmp key t.writes
    same_own = get-entries txn.writes key ∙ ap (λ (u : ATxn). find key_cmp key u.writes) is.same

    read_as : get_by s name tell key (Some (ATransaction t b)) ≡ get_own s name tell t b key (get txn.writes key)
    read_as = on_true (is_key_length (length key)) (get_own s name tell t b key (find key_cmp key t.writes)) (only Invalid s) fits
        ∙ ap (get_own s name tell t b key) (sym same_own)

    pub reads_so : ReadsSo tell
    reads_so =
        let step : reading tell ≡ get_own s name tell t b key (get txn.writes key) = ap (get_by s name tell key) there ∙ read_as in
        let (answer, names) = by_own (get txn.writes key) refl in
        record {
          answer = ap (λ (x : Step). x.answer) step ∙ answer;
          names = subst (λ (x : Step). Stand bytes (left ++ record { name = name; thing = Transaction new } ∷ [])
              x.state.things h s.layout) (sym step) names;
        }
