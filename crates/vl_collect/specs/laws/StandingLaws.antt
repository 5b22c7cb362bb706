-- What a pass gives stands in its log, and goes on doing so.
use Rattle.std.proofs.Common.{◌≡◌, ℕ, zero, suc, ◌+◌, ◌≤◌, Bool, true, false, cond, List, [], ◌∷◌, ◌++◌, map, drop}
use Rattle.std.proofs.Common.{Some, refl, ap, sym, ◌∙◌, subst, arith}
use Rattle.std.proofs.Math.Seq.{drop-drop}
use Rattle.std.proofs.lemmas.Bool.{and_parts}
use Rattle.std.proofs.lemmas.Bool.Decides.{nat_tests}
use Rattle.std.proofs.lemmas.List.{drop_at}
use Rattle.std.specs.List.{AllByRecursion}
use Rattle.std.specs.Ordering.{eq_by_cmp}
use Rattle.std.specs.Prelude.{if◌then◌else◌, ◌==◌}
use Rattle.vl_collect.specs.Passing.{AreLeft, records_behind}
use Rattle.vl_collect.specs.Standing.{HaveOnly, IsGiven, start}
use Rattle.vl_collect.specs.declared.pass.At.{At}
use Rattle.vl_frame.specs.Runs.{HasFrame, ReadsAs, StandsAt, item_frame, run_bytes}
use Rattle.vl_frame.specs.laws.RunLaws as runs
use Rattle.vl_engine_model.specs.Logs.{LogRecord, committed_records, frame_records, records, records_from, relocated_records}
use Rattle.vl_engine_model.specs.Relocation.{Batched, Candidate, Pass, batch_with, found_in, has_room, if_any, next_batch, taken_from}
use Rattle.vl_engine_model.specs.Relocation.{value_lengths, valued}
use Rattle.vl_engine_model.specs.Shown.{IsThere}
use Rattle.vl_engine_model.specs.Shows.{AreUpTo}
use Rattle.vl_engine_model.specs.declared.segment.Segment.{Segment}
use Rattle.vl_model.specs.Entries.{is_at}
use Rattle.vl_model.specs.Frames.{frame_length, moved_length, record_length}
use Rattle.vl_model.specs.Keys.{Stored, key_cmp}
use Rattle.vl_model.specs.Winners.{Logs, exact, leads_to, wins_exactly}
use Rattle.vl_model.specs.declared.change.Change.{Change}
use Rattle.vl_model.specs.declared.change.Change.TheVariants.{Set, Delete}
use Rattle.vl_model.specs.declared.entry.Entry.{Entry}
use Rattle.vl_model.specs.declared.log_frame.LogFrame.{LogFrame}
use Rattle.vl_model.specs.declared.log_frame.LogFrame.TheVariants.{Committed, Relocated}
use Rattle.vl_model.specs.declared.log_frame.Moved.{Moved}
use Rattle.vl_seglog.specs.Frames.{frames_grammar, log_bytes, log_header}
use Rattle.vl_seglog.specs.Record.{IsSpelled}
use Rattle.vl_seglog.specs.Stored.{LeadToAll, frame_pointers, frame_writes, moved_pointers, moved_write, pointers_from, stored_at}
use Rattle.vl_seglog.specs.laws.FrameLaws.{length-item_frame}
use Rattle.vl_seglog.specs.laws.RecordLaws.{one_record}
use Rattle.vl_seglog.specs.laws.StoredLaws.{pointers_lead, stored_leads}

-- ---- lists

module _ {X : Type 0} (P : X → Type 0) where
  both : (xs ys : List X) → AllByRecursion P xs → AllByRecursion P ys → AllByRecursion P (xs ++ ys)
  both [] ys front back = back
  both (x ∷ xs) ys front back = (front.0, both xs ys front.1 back)

  but_first : (n : ℕ) (xs : List X) → AllByRecursion P xs → AllByRecursion P (drop n xs)
  but_first zero xs all = all
  but_first (suc n) [] all = tt
  but_first (suc n) (x ∷ xs) all = but_first n xs all.1

-- ---- what is taken

module _ (P : Candidate → Type 0) where
  with_found : (fits : Bool) (found : List Candidate) (passed with_it before : Batched) → AllByRecursion P found
      → AllByRecursion P passed.0 → AllByRecursion P with_it.0 → AllByRecursion P before.0
      → AllByRecursion P (batch_with fits found passed with_it before).0
  with_found fits [] passed with_it before here behind more ended = behind
  with_found true (c ∷ cs) passed with_it before here behind more ended = (here.0, more)
  with_found false (c ∷ cs) passed with_it before here behind more ended = ended

  module _ (base : List Entry) (segment : ℕ) where
    all_taken : (count bytes : ℕ) (rs : List LogRecord) → AllByRecursion (λ (r : LogRecord). AllByRecursion P (found_in base segment r)) rs
        → AllByRecursion P (taken_from base segment count bytes rs).0
    all_taken count bytes [] all = tt
    all_taken count bytes (r ∷ rs) all =
        let found = found_in base segment r in
        let more = value_lengths found in
        with_found (has_room count bytes more) found (taken_from base segment count bytes rs)
        (taken_from base segment (count + 1) (bytes + more) rs) ([], r ∷ rs) all.0 (all_taken count bytes rs all.1)
        (all_taken (count + 1) (bytes + more) rs all.1) tt

    -- a record that is found wins exactly, and sets its key
    one_found : (r : LogRecord)
        → (wins_exactly base segment r.key r.version r.place ≡ true → (value : Stored) → r.change ≡ Set value
        → P (record { moved = record { key = r.key; version = r.version; value = value }; place = r.place }))
        → AllByRecursion P (found_in base segment r)
    one_found r may = by (wins_exactly base segment r.key r.version r.place) r.change refl refl
      where
        by : (wins : Bool) (change : Change) → wins_exactly base segment r.key r.version r.place ≡ wins → r.change ≡ change
            → AllByRecursion P (if wins then valued r change else [])
        by false change wins is = tt
        by true Delete wins is = tt
        by true (Set value) wins is = (may wins value is, tt)

any_are : (cs batch : List Candidate) → if_any cs ≡ Some batch → cs ≡ batch
any_are [] batch is = absurd cc
any_are (c ∷ cs) batch is = cc

-- ---- where records stand

module _ (format number : ℕ) (bytes : List ℕ) where
  -- the record is spelled at its place
  abbrev Stands : LogRecord → Type 0
  Stands r = IsSpelled format (drop r.place bytes) r.key r.change

  committed_stand : (place version : ℕ) (writes : List (List ℕ × Change))
      → LeadToAll format number bytes (pointers_from format number place writes) writes
      → AllByRecursion Stands (committed_records format place version writes)
  committed_stand place version [] lead = tt
  committed_stand place version (w ∷ writes) lead =
      (lead.0.stands, committed_stand (place + record_length format w.0 w.1) version writes lead.1)

  relocated_stand : (place : ℕ) (moved : List Moved)
      → LeadToAll format number bytes (moved_pointers format number place moved) (map moved_write moved)
      → AllByRecursion Stands (relocated_records format place moved)
  relocated_stand place [] lead = tt
  relocated_stand place (m ∷ moved) lead = (lead.0.stands, relocated_stand (place + moved_length format m) moved lead.1)

  frame_stand : (place : ℕ) (f : LogFrame)
      → LeadToAll format number bytes (frame_pointers format number place f) (frame_writes f)
      → AllByRecursion Stands (frame_records format place f)
  frame_stand place (Committed version writes) lead = committed_stand (place + 17) version writes lead
  frame_stand place (Relocated moved) lead = relocated_stand (place + 9) moved lead

  records_stand : (place : ℕ) (rest : List ℕ) (frames : List LogFrame) → drop place bytes ≡ rest
      → ReadsAs (frames_grammar format) number place rest frames → AllByRecursion Stands (records_from format place frames)
  records_stand place rest [] here reads = tt
  records_stand place rest (f ∷ frames) here (after, stands, reads) =
      let G = frames_grammar format in
      let size = length-item_frame format number place f in
      let at : StandsAt G number place (drop place bytes) f after = subst
      (λ (l : List ℕ). StandsAt G number place l f after) (sym here) stands in
      let behind : drop (place + frame_length format f) bytes ≡ after = sym (drop-drop (frame_length format f) place bytes)
      ∙ ap (drop (frame_length format f)) at.spelled ∙ drop_at (item_frame G number place f) after (frame_length format f) size in
      both Stands (frame_records format place f) (records_from format (place + frame_length format f) frames)
      (frame_stand place f (pointers_lead format number place bytes f after at))
      (records_stand (place + frame_length format f) after frames behind
      (subst (λ (n : ℕ). ReadsAs G number (place + n) after frames) size reads))

  behind_stand : (at : At) (frames : List LogFrame) → ReadsAs (frames_grammar format) number at.place (drop at.place bytes) frames
      → AllByRecursion Stands (records_behind format at frames)
  behind_stand at [] reads = tt
  behind_stand at (f ∷ frames) (after, stands, reads) =
      let G = frames_grammar format in
      let size = length-item_frame format number at.place f in
      let behind : drop (at.place + frame_length format f) bytes ≡ after = sym (drop-drop (frame_length format f) at.place bytes)
      ∙ ap (drop (frame_length format f)) stands.spelled
      ∙ drop_at (item_frame G number at.place f) after (frame_length format f) size in
      both Stands (drop at.done (frame_records format at.place f)) (records_from format (at.place + frame_length format f) frames)
      (but_first Stands at.done (frame_records format at.place f)
      (frame_stand at.place f (pointers_lead format number at.place bytes f after stands)))
      (records_stand (at.place + frame_length format f) after frames behind
      (subst (λ (n : ℕ). ReadsAs G number (at.place + n) after frames) size reads))

  set_is : (a b : Stored) → Set a ≡ Set b → a ≡ b
  set_is a b is = cc

  -- where a record is spelled no other value of its key stands
  there : (segment : ℕ) (r : LogRecord) (value : Stored) → Stands r → r.change ≡ Set value
      → IsThere (stored_at format bytes) segment
      (record { moved = record { key = r.key; version = r.version; value = value }; place = r.place })
  there segment r value stands sets p other into place found =
      let leads = stored_leads format bytes p r.key other found in
      let one : IsSpelled format (drop r.place bytes) r.key (Set other) =
      subst (λ (n : ℕ). IsSpelled format (drop n bytes) r.key (Set other)) place leads.stands in
      set_is other value ((one_record format (drop r.place bytes) r.key r.key (Set other) r.change one stands).1 ∙ sets)

  all_there : (base : List Entry) (segment : ℕ) (rs : List LogRecord) → AllByRecursion Stands rs
      → AllByRecursion (λ (r : LogRecord). AllByRecursion (IsThere (stored_at format bytes) segment) (found_in base segment r)) rs
  all_there base segment [] all = tt
  all_there base segment (r ∷ rs) all = (
    one_found (IsThere (stored_at format bytes) segment) base segment r (λ wins value sets. there segment r value all.0 sets),
    all_there base segment rs all.1,
  )

-- ---- how new they are

module _ (last : ℕ) where
  abbrev IsUpTo : Candidate → Type 0
  IsUpTo c = c.moved.version ≤ last

  winner_up_to : (segment place : ℕ) (key : List ℕ) (version : ℕ) (es : List Entry) → AreUpTo last es
      → leads_to segment place (exact es key version) ≡ true → version ≤ last
  winner_up_to segment place key version [] all leads = absurd cc
  winner_up_to segment place key version (e ∷ es) all leads =
      by (is_at key version e) refl leads (winner_up_to segment place key version es all.1)
    where
      by : (here : Bool) → is_at key version e ≡ here → leads_to segment place (cond here (Some e) (exact es key version)) ≡ true
          → (leads_to segment place (exact es key version) ≡ true → version ≤ last) → version ≤ last
      by false is leads later = later leads
      by true is leads later =
          let same : e.version ≡ version = grind
          (arith, nat_tests, (and_parts (eq_by_cmp key_cmp key e.key) (e.version == version) is).1) in
          omega (arith, same, all.0)

  all_up_to : (base : List Entry) (segment : ℕ) (rs : List LogRecord) → AreUpTo last base
      → AllByRecursion (λ (r : LogRecord). AllByRecursion IsUpTo (found_in base segment r)) rs
  all_up_to base segment [] all = tt
  all_up_to base segment (r ∷ rs) all = (
    one_found IsUpTo base segment r (λ wins value sets. winner_up_to segment r.place r.key r.version base all wins),
    all_up_to base segment rs all,
  )

-- ---- of a batch

-- What a pass gives stands in the log that it goes over, and isn't newer than its base.
pub given : (format number : ℕ) (bytes : List ℕ) (at : At) (p : Pass) (last : ℕ) (batch : List Candidate)
    → AreLeft format number bytes at p.left → AreUpTo last p.base → (next_batch p).0 ≡ Some batch
    → IsGiven format bytes p.segment last batch
given format number bytes at p last batch left up_to is =
    let taken = any_are (taken_from p.base p.segment 0 0 p.left).0 batch is in
    let stand : AllByRecursion (Stands format number bytes) p.left =
    subst (λ (rs : List LogRecord). AllByRecursion (Stands format number bytes) rs) (sym left.are)
    (behind_stand format number bytes at left.frames left.reads) in
    record {
      there = subst (λ (cs : List Candidate). AllByRecursion (IsThere (stored_at format bytes) p.segment) cs) taken
          (all_taken (IsThere (stored_at format bytes) p.segment) p.base p.segment 0 0 p.left
          (all_there format number bytes p.base p.segment p.left stand));
      up_to = subst (λ (cs : List Candidate). AllByRecursion (IsUpTo last) cs) taken
          (all_taken (IsUpTo last) p.base p.segment 0 0 p.left (all_up_to last p.base p.segment p.left up_to));
    }

all_later : (last later : ℕ) (batch : List Candidate) → last ≤ later → AllByRecursion (IsUpTo last) batch
    → AllByRecursion (IsUpTo later) batch
all_later last later [] le all = tt
all_later last later (c ∷ cs) le all = (let here = all.0 in omega (arith, here, le), all_later last later cs le all.1)

-- It does so whatever is committed beside it.
pub given_later : (format : ℕ) (bytes : List ℕ) (segment last later : ℕ) (batch : List Candidate) → last ≤ later
    → IsGiven format bytes segment last batch → IsGiven format bytes segment later batch
given_later format bytes segment last later batch le given =
    record { there = given.there; up_to = all_later last later batch le given.up_to }

all_in_logs : (logs : Logs) (format : ℕ) (bytes : List ℕ) (segment : ℕ) (batch : List Candidate) → HaveOnly format bytes segment logs
    → AllByRecursion (IsThere (stored_at format bytes) segment) batch → AllByRecursion (IsThere logs segment) batch
all_in_logs logs format bytes segment [] only all = tt
all_in_logs logs format bytes segment (c ∷ cs) only all = (
  λ p value into place found. all.0 p value into place (only p c.moved.key value into found),
  all_in_logs logs format bytes segment cs only all.1,
)

-- In logs that have nothing else in the segment nothing else stands there.
pub there_in_logs : (logs : Logs) (format : ℕ) (bytes : List ℕ) (segment last : ℕ) (batch : List Candidate)
    → HaveOnly format bytes segment logs → IsGiven format bytes segment last batch → AllByRecursion (IsThere logs segment) batch
there_in_logs logs format bytes segment last batch only given = all_in_logs logs format bytes segment batch only given.there

-- Of a log that has its frames and nothing else all records are left at its start.
pub all_left : (s : Segment) → AllByRecursion (HasFrame (frames_grammar s.format)) s.frames
    → AreLeft s.format s.number (log_bytes s.format s.number s.frames) start (records s)
all_left s have =
    let G = frames_grammar s.format in
    let run = run_bytes G s.number 16 s.frames in
    let behind : drop 16 (log_bytes s.format s.number s.frames) ≡ run = drop_at (log_header s.format s.number) run 16 refl in
    record {
      frames = s.frames;
      reads = subst (λ (l : List ℕ). ReadsAs G s.number 16 l s.frames) (sym behind) (runs.reads_whole G s.number 16 s.frames have);
      are = from_start s.frames;
    }
  where
    from_start : (fs : List LogFrame) → records_from s.format 16 fs ≡ records_behind s.format start fs
    from_start [] = refl
    from_start (f ∷ fs) = refl
