-- A begin is answered as the ruling has it.
use Rattle.std.specs.Prelude.{◌≡◌, ◌≤◌, ◌+◌, ℕ, Bool, true, false, nat_le, if◌then◌else◌, List, length}
use Rattle.std.specs.Prelude.{IfOk, IsErrAnd, OnErr, Option, None, Result, Err, Ok}
use Rattle.std.proofs.Common.{sym, ap, subst, ◌∙◌, refl, arith, inl, inr, ⊎_elim}
use Rattle.std.proofs.lemmas.List.{length-map}
use Rattle.std.proofs.lemmas.Bool.Decides.{nat_tests}
use Rattle.vl_steps.specs.Answers.{begin_outcome, view_outcome}
use Rattle.vl_reads.specs.Changes.{ShowsChanges, TellsChanges}
use Rattle.vl_reads.specs.Past.{ShowsPast, beginning}
use Rattle.vl_engine.specs.Beginning.{past_now}
use Rattle.vl_engine.proofs.Lawful.{sources_lawful}
use Rattle.vl_engine_laws.specs.MayStep.{AreLogFiles}
use Rattle.vl_engine_laws.specs.Pointed.{layout_logs}
use Rattle.vl_disk.specs.DiskState.{DiskState}
use Rattle.vl_engine_laws.specs.Represents.{Fronts, Represents, StandsFor}
use Rattle.vl_manifest.specs.declared.state.ManifestState.{ManifestState}
use Rattle.vl_reads.specs.Sees.{SeesAlone, ShowsAt}
use Rattle.vl_engine_laws.specs.declared.kept.Core.{Core}
use Rattle.vl_reads.specs.declared.past.Past.{Past}
use Rattle.vl_reads.specs.declared.txn.Txn.{Txn}
use Rattle.vl_reads.specs.declared.view.View.{View}
use Rattle.vl_engine_laws.specs.laws.LaidLaws.{laid_entries}
use Rattle.vl_engine_laws.specs.laws.LiveLaws.{same_floor, same_free_ticket}
use Rattle.vl_engine_laws.specs.laws.SparedLaws.{are_of, low_exact}
use Rattle.vl_engine_laws.specs.laws.TableFiles.{file_in, reads_version}
use Rattle.vl_reads.specs.laws.SeesLaws.{shows_last}
use Rattle.vl_front.specs.declared.front.Front.{Front}
use Rattle.vl_engine_model.specs.AtAnswer.{Beginning, beginning_of}
use Rattle.vl_engine_model.specs.Decides.{Answered, Decides, NoMemory, as_before, no_effects}
use Rattle.vl_engine_model.specs.Ruling.{Ruling, leaving}
use Rattle.vl_engine_model.specs.Rulings.Begin.{BeginAnswer, Begun, TooMany, begin_ruling, begun}
use Rattle.vl_engine_model.specs.Shows.{Shows}
use Rattle.vl_engine_model.specs.Sources.{floor, sources}
use Rattle.vl_engine_model.specs.Spared.{AreSpared, Passes}
use Rattle.vl_engine_model.specs.Tickets.{free_ticket, tickets_of}
use Rattle.vl_engine_model.specs.declared.layout.Layout.{Layout}
use Rattle.vl_engine_model.specs.declared.live.Live.{Live}
use Rattle.vl_engine_model.specs.laws.LowShows.{floor-up}
use Rattle.vl_model.specs.History.{History, last_number}
use Rattle.vl_model.specs.Limits.{max_live}
use Rattle.vl_model.specs.Numbers.{low_of, nth_below}
use Rattle.vl_model.specs.Versions.{low, versions, versions_in}
use Rattle.vl_oracle.specs.LiveTickets.{LiveTickets}
use Rattle.vl_oracle.specs.LiveTickets as oracle
use Rattle.vl_oracle.specs.declared.begin_fail.BeginFail.{BeginFail}
use Rattle.vl_oracle.specs.declared.begin_fail.BeginFail.TheVariants as fails
use Rattle.vl_table.specs.Kept.{Files}
use Rattle.vl_table.specs.KeptBlocks.{AreKept, ReadsOf}
use Rattle.vl_version.specs.Sources.{tables_in}
use Rattle.vl_version.specs.declared.version.Version.{Version}

-- ---- by what is live

module _ (l : Layout) (h : History) where
  abbrev ticket_then : ℕ
  ticket_then = free_ticket (tickets_of l.live)

  abbrev by_live : Bool → Ruling BeginAnswer
  by_live full = if full then leaving TooMany h l
      else leaving (Begun (free_ticket (tickets_of l.live)) (last_number h)) h (begun l (free_ticket (tickets_of l.live)) (last_number h))

  pub ruled_begun : nat_le max_live (length l.live) ≡ false → begin_ruling l h ≡ by_live false
  ruled_begun room = ap by_live room

  pub ruled_full : nat_le max_live (length l.live) ≡ true → begin_ruling l h ≡ by_live true
  ruled_full full = ap by_live full

  -- ---- what stands then

  module _ (stands : History → Layout → Type 0) where
    -- it began
    pub decides_begun : nat_le max_live (length l.live) ≡ false → (ticket number : ℕ) → ticket ≡ free_ticket (tickets_of l.live)
        → number ≡ last_number h → stands h (begun l (free_ticket (tickets_of l.live)) (last_number h))
        → Decides stands h l (begin_ruling l h) (as_before l l) (Answered (Begun ticket number)) no_effects
    decides_begun room ticket number is_ticket is_number later =
        subst (λ (r : Ruling BeginAnswer). Decides stands h l r (as_before l l) (Answered (Begun ticket number)) no_effects)
        (sym (ruled_begun room)) (record {
          answered = λ a is. (answer a is, later);
          did = λ a is. refl;
          no_memory = λ is. cc;
          failed = λ name is. cc;
          damaged = λ name place is. cc;
        })
      where
        answer : (a : BeginAnswer) → Answered (Begun ticket number) ≡ Answered a
            → a ≡ Begun (free_ticket (tickets_of l.live)) (last_number h)
        answer a is = cc

    -- too many are live
    pub decides_full : nat_le max_live (length l.live) ≡ true → stands h l
        → Decides stands h l (begin_ruling l h) (as_before l l) (Answered TooMany) no_effects
    decides_full full now =
        subst (λ (r : Ruling BeginAnswer). Decides stands h l r (as_before l l) (Answered TooMany) no_effects)
        (sym (ruled_full full)) (record {
          answered = λ a is. (answer a is, now);
          did = λ a is. refl;
          no_memory = λ is. cc;
          failed = λ name is. cc;
          damaged = λ name place is. cc;
        })
      where
        answer : (a : BeginAnswer) → Answered TooMany ≡ Answered a → a ≡ TooMany
        answer a is = cc

    -- there was no memory
    pub decides_none : stands h l → Decides stands h l (begin_ruling l h) (as_before l l) NoMemory no_effects
    decides_none now = record {
      answered = λ a is. cc;
      did = λ a is. cc;
      no_memory = λ is. (now, refl);
      failed = λ name is. cc;
      damaged = λ name place is. cc;
    }

    -- it was refused
    pub decides_refused : (H R : Type 0) (why : BeginFail) → (why ≡ fails.TooMany → nat_le max_live (length l.live) ≡ true)
        → stands h l → Decides stands h l (begin_ruling l h) (as_before l l) (view_outcome {H = H} {R = R} (Err why)) no_effects
    decides_refused H R fails.TooMany full now = decides_full (full refl) now
    decides_refused H R fails.NoMemory full now = decides_none now

-- a transaction is refused as a view is
refused_alike : (H R : Type 0) (why : BeginFail) → view_outcome {H = H} {R = R} (Err why) ≡ begin_outcome {H = H} {R = R} (Err why)
refused_alike H R fails.TooMany = refl
refused_alike H R fails.NoMemory = refl

pub refused_so : {H R : Type 0} (result : Result (Txn H R) BeginFail) (why : BeginFail) → IsErrAnd result (λ e. e ≡ why)
    → view_outcome {H = H} {R = R} (Err why) ≡ begin_outcome result
refused_so (Ok txn) why is = absurd is
refused_so {H} {R} (Err e) why is = refused_alike H R why ∙ ap (λ (f : BeginFail). begin_outcome {H = H} {R = R} (Err f)) (sym is)

-- a transaction begins as the view does from which it is made
pub begun_alike : {H R : Type 0} (view : View H R) (txn : Txn H R) → txn.ticket ≡ view.ticket → txn.number ≡ view.number
    → view_outcome {H = H} {R = R} (Ok view) ≡ begin_outcome {H = H} {R = R} (Ok txn)
begun_alike view txn ticket number =
    ap (λ (n : ℕ). Answered (Begun n view.number)) (sym ticket) ∙ ap (λ (n : ℕ). Answered (Begun txn.ticket n)) (sym number)

-- ---- by the oracle

module _ {H : Type 0} (core : Core H) (h : History) (l : Layout) (is : Fronts core h l) where
  live_long : length core.front.oracle.tickets ≡ length l.live
  live_long = ap length is.front.live_are ∙ length-map l.live (λ (x : Live). (x.ticket, x.number))

  pub is_full : length core.front.oracle.tickets ≡ max_live → nat_le max_live (length l.live) ≡ true
  is_full full = let same = live_long in grind (arith, nat_tests, full, same)

  pub has_room : (length core.front.oracle.tickets ≡ max_live → ⊥) → nat_le max_live (length l.live) ≡ false
  has_room room =
      let same = live_long in
      let few = is.front.lived.few in
      let other : length l.live ≡ max_live → ⊥ = λ full. room (same ∙ full) in
      grind (arith, nat_tests, few, other)

  pub ticket_is : oracle.free_ticket core.front.oracle ≡ free_ticket (tickets_of l.live)
  ticket_is = same_free_ticket core.front.oracle.tickets ∙ ap free_ticket is.front.live_are

-- a begin leaves the last number
pub last_begun : (result : Result ℕ BeginFail) (before after : Front)
    → IfOk result (λ ticket. (ticket ≡ oracle.free_ticket before.oracle) × (after.oracle ≡ oracle.begun before.oracle))
    → OnErr result (after ≡ before) → after.oracle.last ≡ before.oracle.last
last_begun (Ok ticket) before after ok err = ap (λ (o : LiveTickets). o.last) ok.1
last_begun (Err why) before after ok err = ap (λ (f : Front). f.oracle.last) err

-- ---- how far back

-- What decides on it is the layout's.
pub began_as : {H : Type 0} (core : Core H) (h : History) (l : Layout) → Fronts core h l → (past : Past) → past ≡ past_now core
    → beginning past ≡ beginning_of l h
began_as core h l is past same =
    let floor_is = same_floor core.front.oracle l h is.front.last is.front.live_are is.front.lived in
    ap beginning same
    ∙ ap (λ (n : ℕ). record { floor = n; keep = core.back.state.keep; since = core.back.state.since }) floor_is
    ∙ ap (λ (n : ℕ). record { floor = floor l h; keep = n; since = core.back.state.since }) is.keep
    ∙ ap (λ (n : ℕ). record { floor = floor l h; keep = l.keep; since = n }) is.since

-- ---- which deletions are gone

-- What is kept of them is the layout's, unless the engine is halted.
pub gone_kept : {H : Type 0} (bytes : H → Option (List ℕ)) (core : Core H) (told : Option DiskState) (h : History) (l : Layout)
    → Represents bytes core told h l → l.halted ≡ None → core.back.state.gone ≡ l.gone
gone_kept bytes core told h l is going =
    let held = is.held going in ap (λ (s : ManifestState). s.gone) held.back_is.state ∙ held.is_base.gone

-- ---- what is seen

-- Sources that show the history up to its last number are seen there, through a reader that keeps no block of other files.
module _ {H : Type 0} (bytes : H → Option (List ℕ)) (core : Core H) (h : History) (l : Layout) (is : StandsFor bytes core h l) where
  module _ (past : Past) (same : past ≡ past_now core) where
    began : beginning past ≡ beginning_of l h
    began = began_as core h l is.fronts past same

    past_version : ShowsPast bytes core.version past (last_number h) h
    past_version = record {
      entries_of = sources l;
      logs = layout_logs l;
      has = laid_entries bytes core.version l is.has h is.tidy;
      shows = subst (λ (b : Beginning). Shows (layout_logs l) (sources l) h (λ key. low h b.floor b.keep b.since key) (last_number h))
          (sym began) is.tidy.shows;
      exact = λ key. subst
          (λ (b : Beginning). low_of (versions_in (sources l) key) b.floor b.keep b.since ≡ low h b.floor b.keep b.since key)
          (sym began) (low_exact h (sources l) (last_number h) (floor l h) l.keep l.since key (floor-up l h)
          (are_of h (sources l) is.tidy.versions) is.spared.past);
      floor = subst (λ (b : Beginning). b.floor ≤ last_number h) (sym began) (floor-up l h);
    }

    -- The sources lack no change above `gone`, where that is at least the layout's.
    whole_past : l.gone ≤ core.back.state.gone → (key : List ℕ)
        → AreSpared (versions h key) (versions_in (sources l) key) (last_number h) past.floor 1 past.gone
    whole_past up key n within there missing =
        let gone = ap (λ (p : Past). p.gone) same in
        ⊎_elim (λ (old : n ≤ l.gone). inl (omega (arith, old, up, gone)))
        (λ (p : Passes n (nth_below (versions_in (sources l) key) (floor l h + 1) 1)).
        inr (subst (λ (b : Beginning). Passes n (nth_below (versions_in (sources l) key) (b.floor + 1) 1)) (sym began) p))
        (is.spared.whole key n within there missing)

    told_version : AreLogFiles l → l.gone ≤ core.back.state.gone → ShowsChanges bytes core.version past (last_number h) h
    told_version files up = record {
      entries_of = sources l;
      logs = layout_logs l;
      has = laid_entries bytes core.version l is.has h is.tidy;
      shows = λ key. (shows_last (layout_logs l) l h is.tidy.shows).values key (last_number h) (omega arith) (omega arith);
      of = are_of h (sources l) is.tidy.versions;
      whole = whole_past up;
      floor = subst (λ (b : Beginning). b.floor ≤ last_number h) (sym began) (floor-up l h);
      lawful = sources_lawful bytes core.version l is.has files;
      known = omega arith;
    }

  pub tells_now : {R : Type 0} (view : View H R) → view.version ≡ core.version → view.number ≡ last_number h
      → view.past ≡ past_now core → AreLogFiles l → l.gone ≤ core.back.state.gone → TellsChanges bytes view h
  tells_now view same last past files up =
      subst (λ (v : Version H). ShowsChanges bytes v view.past view.number h) (sym same)
      (subst (λ (n : ℕ). ShowsChanges bytes core.version view.past n h) (sym last) (told_version view.past past files up))

  sees_version : (past : Past) → past ≡ past_now core → ShowsAt bytes core.version past h (last_number h)
  sees_version past same = record {
    entries_of = sources l;
    logs = layout_logs l;
    has = laid_entries bytes core.version l is.has h is.tidy;
    shows = shows_last (layout_logs l) l h is.tidy.shows;
    readable = omega arith;
    known = omega arith;
    shows_past = past_version past same;
  }

  pub sees_now : {R : Type 0} (view : View H R) → view.version ≡ core.version → view.number ≡ last_number h
      → view.past ≡ past_now core → ((files : Files) → AreKept files view.reader) → SeesAlone bytes view h
  sees_now view same last past kept = record {
    version = subst (λ (v : Version H). ShowsAt bytes v view.past h view.number) (sym same)
        (subst (ShowsAt bytes core.version view.past h) (sym last) (sees_version view.past past));
    files = file_in bytes (tables_in core.version);
    reader = subst (λ (v : Version H). ReadsOf bytes (file_in bytes (tables_in core.version)) view.reader (tables_in v)) (sym same)
        (reads_version bytes core h l is view.reader (kept (file_in bytes (tables_in core.version))));
  }
