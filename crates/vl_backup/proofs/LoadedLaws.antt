-- Batches are read and become commits, one after the other.
use Rattle.std.specs.Prelude.{◌≡◌, ◌≢◌, ◌<◌, ◌^◌, ◌+◌, ℕ, Bool, true, false, nat_le, if◌then◌else◌, List, [], ◌∷◌, ◌++◌, length}
use Rattle.std.specs.Prelude.{Option, None, Some, Result, Ok, Err, ⊤, refl}
use Rattle.std.specs.FinMap.{from_sorted}
use Rattle.std.proofs.Common.{sym, ap, subst, ◌∙◌, append_assoc, append-nil, length-append, arith}
use Rattle.vl_backup.proofs.Calls.{lets_alone, may_open, shows_then}
use Rattle.vl_backup.proofs.Committing.{extends_up_to}
use Rattle.vl_stream.specs.laws.BatchLaws.{joined-more}
use Rattle.vl_stream.specs.Batches.{Write, joined}
use Rattle.vl_backup.specs.Fails.{stream_fail}
use Rattle.vl_stream.specs.Grammar.{stream_grammar}
use Rattle.vl_backup.specs.Loading.{BeginTo, BeginsStream, CommitsBatch, GoesOn}
use Rattle.vl_backup.specs.Loading.{IsLeftBy, IsOfBatch, IsOfStream, IsReadAs, IsReadTo}
use Rattle.vl_backup.specs.Loading.{Loads, LoadsOn, MayBegin, Parts, RefusesBatch, Works, loaded_layout, sealed_for, up_to}
use Rattle.vl_stream.specs.Loads.{loaded}
use Rattle.vl_stream.specs.Pieces.{Records}
use Rattle.vl_stream.specs.Reading.{GaveBatch, GaveHeader}
use Rattle.vl_stream.specs.Streams.{BeginWith, DamagedAt, Found, Holds, HoldsStream}
use Rattle.vl_stream.specs.Streams.{IsNoBackup, Whole, last_key, stream_format, stream_header}
use Rattle.vl_backup.specs.declared.fails.LoadFail.{LoadFail}
use Rattle.vl_backup.specs.declared.fails.LoadFail.TheVariants as fails
use Rattle.vl_stream.specs.declared.fail.StreamFail.{StreamFail}
use Rattle.vl_stream.specs.declared.fail.StreamFail.TheVariants as streams
use Rattle.vl_stream.specs.laws.LoadLaws.{loaded-append}
use Rattle.vl_disk.specs.declared.watched.Watched.{Ghosts}
use Rattle.vl_engine_laws.specs.Carries.{CrashesShow}
use Rattle.vl_engine_laws.specs.laws.Carrying.{IsWatched, extends_itself}
use Rattle.vl_engine_model.specs.Ruling.{logged}
use Rattle.vl_engine_model.specs.Rulings.Commit.{commit_frame}
use Rattle.vl_engine_model.specs.Rulings.Rotate.{rotated}
use Rattle.vl_engine_model.specs.declared.layout.Layout.{Layout}
use Rattle.vl_frame.specs.Header.{HasFormat}
use Rattle.vl_frame.specs.Runs.{item_frame}
use Rattle.vl_frame.specs.declared.kinds.FileKind.TheVariants.{Backup}
use Rattle.vl_model.specs.Frames.{frame_length}
use Rattle.vl_model.specs.History.{Extends, History, with_commit}
use Rattle.vl_model.specs.Keys.{Writes}
use Rattle.vl_model.specs.laws.HistoryLaws.{with_commit-extends}

-- ---- what was read

-- These batches were read of an input, up to a place of its stream. What the rest holds, the stream holds behind them.
pub record ReadSoFar (input : List ℕ) (left : Option (List ℕ)) (at : ℕ) (key : List ℕ) (count : ℕ)
    (done : List (List Write)) : Type 0 where
  pub since : ℕ
  pub fits : since < 2 ^ 64
  pub rest : List ℕ
  pub spelled : input ≡ stream_header since ++ rest
  pub now : List ℕ
  pub left_is : left ≡ Some now
  pub counted : count ≡ length (joined done)
  pub holds : (bs : List (List Write)) (found : Found) → Holds stream_grammar at key count now bs found
      → Holds stream_grammar 16 [] 0 rest (done ++ bs) found
  pub begins : (bs : List (List Write)) → BeginWith stream_grammar at key count now bs
      → BeginWith stream_grammar 16 [] 0 rest (done ++ bs)
  pub reaches : (bs : List (List Write)) (behind : List ℕ) → BeginTo at key count now bs behind
      → BeginTo 16 [] 0 rest (done ++ bs) behind

pub header_read : (input : List ℕ) (left : Option (List ℕ)) (at : ℕ) (key : List ℕ) (count : ℕ) → GaveHeader input left
    → at ≡ 16 → count ≡ 0 → key ≡ [] → ReadSoFar input left at key count []
header_read input left at key count gave place none no_key = record {
  since = gave.since;
  fits = gave.fits;
  rest = gave.gave.rest;
  spelled = gave.gave.spelled;
  now = gave.gave.rest;
  left_is = gave.gave.left_is;
  counted = none;
  holds = λ bs found holds. moved (λ (n : ℕ) (k : List ℕ) (c : ℕ). Holds stream_grammar n k c gave.gave.rest bs found) holds;
  begins = λ bs begins. moved (λ (n : ℕ) (k : List ℕ) (c : ℕ). BeginWith stream_grammar n k c gave.gave.rest bs) begins;
  reaches = λ bs behind begins. moved (λ (n : ℕ) (k : List ℕ) (c : ℕ). BeginTo n k c gave.gave.rest bs behind) begins;
}
  where
    moved : (P : ℕ → List ℕ → ℕ → Type 0) → P at key count → P 16 [] 0
    moved P p = subst (λ (n : ℕ). P n [] 0) place
        (subst (λ (k : List ℕ). P at k 0) no_key (subst (λ (c : ℕ). P at key c) none p))

pub batch_read : (input : List ℕ) (left left' : Option (List ℕ)) (at at' : ℕ) (key key' : List ℕ) (count count' : ℕ)
    (done : List (List Write)) (batch : List Write) → (r : ReadSoFar input left at key count done)
    → GaveBatch at key count r.now at' key' count' left' batch → ReadSoFar input left' at' key' count' (done ++ batch ∷ [])
batch_read input left left' at at' key key' count count' done batch r gave = record {
  since = r.since;
  fits = r.fits;
  rest = r.rest;
  spelled = r.spelled;
  now = gave.rest;
  left_is = gave.left_is;
  counted = gave.total_is ∙ ap (λ (n : ℕ). n + length batch) r.counted
      ∙ sym (length-append (joined done) batch) ∙ ap length (sym (joined-more done batch));
  holds = λ bs found holds.
      subst (λ (ds : List (List Write)). Holds stream_grammar 16 [] 0 r.rest ds found) (sym (append_assoc done (batch ∷ []) bs))
      (r.holds (batch ∷ bs) found (
        gave.rest,
        gave.stands,
        gave.above,
        moved (λ (n : ℕ) (k : List ℕ) (c : ℕ). Holds stream_grammar n k c gave.rest bs found) holds,
      ));
  begins = λ bs begins.
      subst (λ (ds : List (List Write)). BeginWith stream_grammar 16 [] 0 r.rest ds) (sym (append_assoc done (batch ∷ []) bs))
      (r.begins (batch ∷ bs) (
        gave.rest,
        gave.stands,
        gave.above,
        moved (λ (n : ℕ) (k : List ℕ) (c : ℕ). BeginWith stream_grammar n k c gave.rest bs) begins,
      ));
  reaches = λ bs behind begins.
      subst (λ (ds : List (List Write)). BeginTo 16 [] 0 r.rest ds behind) (sym (append_assoc done (batch ∷ []) bs))
      (r.reaches (batch ∷ bs) behind (
        gave.rest,
        gave.stands,
        gave.above,
        moved (λ (n : ℕ) (k : List ℕ) (c : ℕ). BeginTo n k c gave.rest bs behind) begins,
      ));
}
  where
    moved : (P : ℕ → List ℕ → ℕ → Type 0) → P at' key' count'
        → P (at + length (item_frame stream_grammar 0 at (Records batch))) (last_key key batch) (count + length batch)
    moved P p =
        subst (λ (n : ℕ). P n (last_key key batch) (count + length batch)) gave.next_is
        (subst (λ (k : List ℕ). P at' k (count + length batch)) gave.last_is (subst (λ (c : ℕ). P at' key' c) gave.total_is p))

holds_stream : (input : List ℕ) (left : Option (List ℕ)) (at : ℕ) (key : List ℕ) (count : ℕ) (done : List (List Write))
    (found : Found)
    → (r : ReadSoFar input left at key count done) → Holds stream_grammar at key count r.now [] found → HoldsStream input
    done found
holds_stream input left at key count done found r holds = record {
  since = r.since;
  fits = r.fits;
  rest = r.rest;
  spelled = r.spelled;
  holds = subst (λ (ds : List (List Write)). Holds stream_grammar 16 [] 0 r.rest ds found) (append-nil done)
      (r.holds [] found holds);
}

may_begin : (input : List ℕ) (bs : List (List Write)) → BeginsStream input bs → MayBegin input bs
may_begin input [] begins = tt
may_begin input (b ∷ bs) begins = begins

so_far : (input : List ℕ) (left : Option (List ℕ)) (at : ℕ) (key : List ℕ) (count : ℕ) (done : List (List Write))
    → ReadSoFar input left at key count done → MayBegin input done
so_far input left at key count done r = may_begin input done (record {
  since = r.since;
  rest = r.rest;
  spelled = r.spelled;
  begins = subst (λ (ds : List (List Write)). BeginWith stream_grammar 16 [] 0 r.rest ds) (append-nil done) (r.begins [] tt);
})

-- they were read, and no more
read_to : (input : List ℕ) (left : Option (List ℕ)) (at : ℕ) (key : List ℕ) (count : ℕ) (done : List (List Write))
    → ReadSoFar input left at key count done → IsReadTo input left done
read_to input left at key count done r = record {
  since = r.since;
  rest = r.rest;
  behind = r.now;
  spelled = r.spelled;
  begins = subst (λ (ds : List (List Write)). BeginTo 16 [] 0 r.rest ds r.now) (append-nil done) (r.reaches [] r.now refl);
  left_is = r.left_is;
}

-- ---- the layout

sealed-halted : (h : History) (batch : List Write) (l : Layout) → (sealed_for h batch l).halted ≡ l.halted
sealed-halted h batch l = by (nat_le (l.active.length + frame_length l.active.format (commit_frame h batch)) l.room)
  where
    by : (b : Bool) → (if b then l else rotated l).halted ≡ l.halted
    by true = refl
    by false = refl

-- it halts nothing
pub loaded-halted : (l : Layout) (h : History) (bs : List (List Write)) → (loaded_layout l h bs).halted ≡ l.halted
loaded-halted l h [] = refl
loaded-halted l h (b ∷ bs) =
    loaded-halted (logged (commit_frame h b) (sealed_for h b l)) (with_commit h (from_sorted b)) bs ∙ sealed-halted h b l

-- a batch more is one frame more
pub layout-more : (l : Layout) (h : History) (done : List (List Write)) (batch : List Write)
    → loaded_layout l h (done ++ batch ∷ [])
    ≡ logged (commit_frame (loaded h done) batch) (sealed_for (loaded h done) batch (loaded_layout l h done))
layout-more l h [] batch = refl
layout-more l h (b ∷ bs) batch = layout-more (logged (commit_frame h b) (sealed_for h b l)) (with_commit h (from_sorted b))
    bs batch

-- ---- what the engine went through

pub extends_then : (a b c : History) → Extends a b → Extends b c → Extends a c
extends_then a b c one two = record {
  first = two.first ∙ one.first;
  base = two.base ∙ one.base;
  later = one.later ++ two.later;
  commits = two.commits ∙ ap (λ (cs : List Writes). cs ++ two.later) one.commits ∙ append_assoc a.commits one.later two.later;
}

pub loaded-extends : (h : History) (bs : List (List Write)) → Extends h (loaded h bs)
loaded-extends h [] = extends_itself h
loaded-extends h (b ∷ bs) =
    extends_then h (with_commit h (from_sorted b)) (loaded (with_commit h (from_sorted b)) bs)
    (with_commit-extends h (from_sorted b)) (loaded-extends (with_commit h (from_sorted b)) bs)

loaded-more : (h : History) (done : List (List Write)) (batch : List Write)
    → loaded h (done ++ batch ∷ []) ≡ with_commit (loaded h done) (from_sorted batch)
loaded-more h done batch = loaded-append h done (batch ∷ [])

-- all of these became commits
abbrev pub Loaded : {D H : Type 0} → Ghosts D → (H → Option (List ℕ)) → (old new : Parts D H) → List (List Write) → Type 0
Loaded g bytes old new done = (h : History) (l : Layout) → Works g bytes old h l
    → GoesOn g bytes old new h l (loaded h done) (loaded h done) (λ (x : Layout). x ≡ loaded_layout l h done)

module _ {D H : Type 0} (g : Ghosts D) (watched : IsWatched g) (bytes : H → Option (List ℕ)) where
  pub none_loaded : (e : Parts D H) → Loaded g bytes e e []
  none_loaded e h l works = record {
    layout = l;
    works = works;
    live = refl;
    through = lets_alone g watched bytes e h l works;
    again = may_open g watched bytes e h l works;
    is = refl;
  }

  module _ (old mid new : Parts D H) (done : List (List Write)) (batch : List Write)
      (loaded_so : Loaded g bytes old mid done) where
    abbrev Commits : Result ⊤ LoadFail → Type 0
    Commits result = (k : History) (x : Layout) → Works g bytes mid k x → CommitsBatch g bytes mid new k x
        (sealed_for k batch x) batch result

    runs_on : (h : History) (l x : Layout) → x ≡ loaded_layout l h done → l.halted ≡ None → x.halted ≡ None
    runs_on h l x is running = ap (λ (y : Layout). y.halted) is ∙ loaded-halted l h done ∙ running

    -- one more
    pub one_more_loaded : (r : ⊤) → Commits (Ok r) → Loaded g bytes old new (done ++ batch ∷ [])
    one_more_loaded r commits h l works =
        let k = loaded h done in
        let next = with_commit k (from_sorted batch) in
        let x = loaded_so h l works in
        let y = commits k x.layout x.works in
        subst (λ (n : History). GoesOn g bytes old new h l n n (λ (z : Layout). z ≡ loaded_layout l h (done ++ batch ∷ [])))
        (sym (loaded-more h done batch))
        (record {
          layout = y.layout;
          works = y.works;
          live = y.live ∙ x.live;
          through = λ running. shows_then g old.disk mid.disk new.disk h k next (loaded-extends h done)
              (with_commit-extends k (from_sorted batch)) (x.through running) (y.through (runs_on h l x.layout x.is running));
          again = λ running. y.again (runs_on h l x.layout x.is running);
          is = y.is ∙ ap (λ (z : Layout). logged (commit_frame k batch) (sealed_for k batch z)) x.is ∙ sym
              (layout-more l h done batch);
        })

    -- the next was refused
    pub next_refused : (why : LoadFail) → Commits (Err why) → (h : History) (l : Layout) → Works g bytes old h l
        → LoadsOn g bytes old new h l done (batch ∷ []) (Err why)
    next_refused why commits h l works =
        let k = loaded h done in
        let next = with_commit k (from_sorted batch) in
        let x = loaded_so h l works in
        let y = commits k x.layout x.works in
        let at : Layout = loaded_layout l h done in
        subst (λ (n : History). GoesOn g bytes old new h l k (up_to why k n)
        (λ (z : Layout). RefusesBatch k batch why z × IsLeftBy why at (sealed_for k batch at) z))
        (sym (loaded-more h done batch))
        (record {
          layout = y.layout;
          works = y.works;
          live = y.live ∙ x.live;
          through = λ running. shows_then g old.disk mid.disk new.disk h k (up_to why k next) (loaded-extends h done)
              (extends_up_to why k next (with_commit-extends k (from_sorted batch))) (x.through running)
              (y.through (runs_on h l x.layout x.is running));
          again = λ running. y.again (runs_on h l x.layout x.is running);
          is = (y.is.0, subst (λ (z : Layout). IsLeftBy why z (sealed_for k batch z) y.layout) x.is y.is.1);
        })

  -- ---- how a load ends

  no_next : (why : LoadFail) (h : History) → IsOfStream why → up_to why h h ≡ h
  no_next fails.NotABackup h of = refl
  no_next (fails.NewerFormat format) h of = refl
  no_next (fails.Damaged place) h of = refl
  no_next fails.Read h of = refl
  no_next fails.NoMemory h of = refl
  no_next (fails.Full long frame) h of = absurd of
  no_next fails.TooMany h of = absurd of
  no_next (fails.Exhausted counter) h of = absurd of
  no_next (fails.Halted name) h of = absurd of
  no_next (fails.Disk name) h of = absurd of

  of_stream : (why : StreamFail) → IsOfStream (stream_fail why)
  of_stream streams.NotABackup = tt
  of_stream (streams.NewerFormat format) = tt
  of_stream (streams.Damaged place) = tt
  of_stream streams.Read = tt
  of_stream streams.NoMemory = tt

  stream_refused : (old new : Parts D H) (done : List (List Write)) (why : LoadFail) → IsOfStream why
      → Loaded g bytes old new done
      → (h : History) (l : Layout) → Works g bytes old h l → LoadsOn g bytes old new h l done [] (Err why)
  stream_refused old new done why of loaded_so h l works =
      let x = loaded_so h l works in
      let same : up_to why (loaded h done) (loaded h (done ++ [])) ≡ loaded h done =
      ap (λ (ds : List (List Write)). up_to why (loaded h done) (loaded h ds)) (append-nil done) ∙ no_next why
      (loaded h done) of in
      record {
        layout = x.layout;
        works = x.works;
        live = x.live;
        through = λ running. subst (λ (n : History). CrashesShow g old.disk new.disk h n) (sym same) (x.through running);
        again = x.again;
        is = (of, x.is);
      }

  -- the stream ended well
  pub ends_well : (left rest : Option (List ℕ)) (old new : Parts D H) (done : List (List Write)) (at : ℕ) (key : List ℕ)
      (count total : ℕ) (before : Option (List ℕ)) → Loaded g bytes old new done
      → ((input : List ℕ) → left ≡ Some input → ReadSoFar input before at key count done)
      → ((now : List ℕ) → before ≡ Some now → Holds stream_grammar at key count now [] Whole × (rest ≡ Some []))
      → total ≡ count → Loads g bytes left rest old new (Ok total)
  ends_well left rest old new done at key count total before loaded_so read ends same = record {
    done = done;
    next = [];
    few = omega arith;
    read = λ input told.
        let r = read input told in
        let e = ends r.now r.left_is in
        (holds_stream input before at key count done Whole r e.0, e.1, same ∙ r.counted);
    goes = λ h l works. loaded_so h l works;
  }

  -- no batch could be read behind these
  pub ends_unread : (left rest : Option (List ℕ)) (old new : Parts D H) (done : List (List Write)) (at : ℕ) (key : List ℕ)
      (count : ℕ) (before : Option (List ℕ)) (why : StreamFail) (said : LoadFail) → said ≡ stream_fail why → Loaded g bytes
      old new done
      → ((input : List ℕ) → left ≡ Some input → ReadSoFar input before at key count done)
      → ((now : List ℕ) (place : ℕ) → before ≡ Some now → why ≡ streams.Damaged place
      → Holds stream_grammar at key count now [] (DamagedAt place))
      → (why ≡ streams.NotABackup → ⊥) → ((format : ℕ) → why ≡ streams.NewerFormat format → ⊥)
      → Loads g bytes left rest old new (Err said)
  ends_unread left rest old new done at key count before why said is loaded_so read damaged no_header no_format =
      subst (λ (w : LoadFail). Loads g bytes left rest old new (Err w)) (sym is) (record {
        done = done;
        next = [];
        few = omega arith;
        read = λ input told. by why damaged no_header no_format input (read input told);
        goes = stream_refused old new done (stream_fail why) (of_stream why) loaded_so;
      })
    where
      by : (w : StreamFail) → ((now : List ℕ) (place : ℕ) → before ≡ Some now → w ≡ streams.Damaged place
          → Holds stream_grammar at key count now [] (DamagedAt place))
          → (w ≡ streams.NotABackup → ⊥) → ((format : ℕ) → w ≡ streams.NewerFormat format → ⊥)
          → (input : List ℕ) → ReadSoFar input before at key count done → IsReadAs input rest done [] (Err (stream_fail w))
      by streams.NotABackup damaged a b input r = absurd (a refl)
      by (streams.NewerFormat format) damaged a b input r = absurd (b format refl)
      by (streams.Damaged place) damaged a b input r =
          holds_stream input before at key count done (DamagedAt place) r (damaged r.now place r.left_is refl)
      by streams.Read damaged a b input r = so_far input before at key count done r
      by streams.NoMemory damaged a b input r =
          subst (MayBegin input) (sym (append-nil done)) (so_far input before at key count done r)

  -- its header could not
  pub ends_at_header : (left rest : Option (List ℕ)) (e : Parts D H) (why : StreamFail) (said : LoadFail)
      → said ≡ stream_fail why
      → ((input : List ℕ) → left ≡ Some input → why ≡ streams.NotABackup → IsNoBackup input)
      → ((input : List ℕ) (format : ℕ) → left ≡ Some input → why ≡ streams.NewerFormat format
      → HasFormat Backup input format × (format ≢ stream_format))
      → ((place : ℕ) → why ≡ streams.Damaged place → ⊥) → Loads g bytes left rest e e (Err said)
  ends_at_header left rest e why said is other newer sound =
      subst (λ (w : LoadFail). Loads g bytes left rest e e (Err w)) (sym is) (record {
        done = [];
        next = [];
        few = omega arith;
        read = λ input told. by why input (other input told) (λ format. newer input format told) sound;
        goes = stream_refused e e [] (stream_fail why) (of_stream why) (none_loaded e);
      })
    where
      by : (w : StreamFail) (input : List ℕ) → (w ≡ streams.NotABackup → IsNoBackup input)
          → ((format : ℕ) → w ≡ streams.NewerFormat format → HasFormat Backup input format × (format ≢ stream_format))
          → ((place : ℕ) → w ≡ streams.Damaged place → ⊥) → IsReadAs input rest [] [] (Err (stream_fail w))
      by streams.NotABackup input a b c = (a refl, refl)
      by (streams.NewerFormat format) input a b c = ((b format refl).0, (b format refl).1, refl)
      by (streams.Damaged place) input a b c = absurd (c place refl)
      by streams.Read input a b c = tt
      by streams.NoMemory input a b c = tt

  -- a batch was refused
  pub ends_refused : (left rest : Option (List ℕ)) (old mid new : Parts D H) (done : List (List Write)) (batch : List Write)
      (at : ℕ)
      (key : List ℕ) (count : ℕ) (why : LoadFail) → IsOfBatch (Err why) → Loaded g bytes old mid done
      → ((input : List ℕ) → left ≡ Some input → ReadSoFar input rest at key count (done ++ batch ∷ []))
      → ((k : History) (x : Layout) → Works g bytes mid k x → CommitsBatch g bytes mid new k x (sealed_for k batch x) batch
      (Err why))
      → Loads g bytes left rest old new (Err why)
  ends_refused left rest old mid new done batch at key count why of loaded_so read commits = record {
    done = done;
    next = batch ∷ [];
    few = omega arith;
    read = λ input told. by why of input (read_to input rest at key count (done ++ batch ∷ []) (read input told))
        (so_far input rest at key count (done ++ batch ∷ []) (read input told));
    goes = next_refused old mid new done batch loaded_so why commits;
  }
    where
      by : (w : LoadFail) → IsOfBatch (Err w) → (input : List ℕ) → IsReadTo input rest (done ++ batch ∷ [])
          → MayBegin input (done ++ batch ∷ []) → IsReadAs input rest done (batch ∷ []) (Err w)
      by (fails.Full long frame) of input to begins = to
      by fails.TooMany of input to begins = to
      by (fails.Exhausted counter) of input to begins = to
      by (fails.Halted name) of input to begins = to
      by (fails.Disk name) of input to begins = to
      by fails.NoMemory of input to begins = begins
      by fails.NotABackup of input to begins = absurd of
      by (fails.NewerFormat format) of input to begins = absurd of
      by (fails.Damaged place) of input to begins = absurd of
      by fails.Read of input to begins = absurd of
