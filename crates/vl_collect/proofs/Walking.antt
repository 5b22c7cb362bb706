-- How a pass goes over its log, frame by frame.
use Rattle.std.proofs.Common.{◌≡◌, ◌⊎◌, inl, inr, ℕ, zero, suc, ◌+◌, ◌<◌, ◌≤◌, List, [], ◌∷◌, ◌++◌, length, map}
use Rattle.std.proofs.Common.{drop, refl, ap, append_assoc, sym, ◌∙◌, subst, arith, length-append}
use Rattle.std.proofs.Math.Seq.{drop-drop, drop-nil}
use Rattle.std.proofs.lemmas.List.{drop_at, get_or-map, length-drop, length-map}
use Rattle.std.proofs.lemmas.List.Elements.{All-contains, All-map, All-nil, All-weaker}
use Rattle.std.proofs.lemmas.List.Sums.{sum_by-cons}
use Rattle.std.specs.List.{All, Contains, sum_by}
use Rattle.std.specs.Prelude.{IfNone, IfSome, Option, Some}
use Rattle.vl_collect.proofs.Outcomes.{ended, records_end}
use Rattle.vl_collect.specs.Batches.{IsOfOne, IsOldOrOf}
use Rattle.vl_collect.specs.Passing.{AreLeft, EndAt, FramesTo, IsRead, Walks, log_record, records_behind}
use Rattle.vl_collect.specs.Taking.{Passes, candidate_of, candidates, outcome, record_of, records_as}
use Rattle.vl_collect.specs.declared.batch.Found.{Found}
use Rattle.vl_collect.specs.declared.pass.At.{At}
use Rattle.vl_frame.specs.Runs.{Grammar, ReadsAs, StandsNone, item_frame, run_bytes}
use Rattle.vl_frame.specs.laws.RunLaws as runs
use Rattle.vl_engine_model.specs.Logs.{LogRecord, committed_records, frame_records, records_from, relocated_records}
use Rattle.vl_engine_model.specs.Relocation as layout
use Rattle.vl_engine_model.specs.Relocation.{Batched, Candidate}
use Rattle.vl_model.specs.Frames.{frame_length, moved_length, record_length}
use Rattle.vl_model.specs.declared.change.Change.{Change}
use Rattle.vl_model.specs.declared.log_frame.LogFrame.{LogFrame}
use Rattle.vl_seglog.specs.Frames.{frames_grammar}
use Rattle.vl_seglog.specs.Placed.{AreMovedFrom, AreRecordsFrom, IsFrameAt, RecordsLie, records_of}
use Rattle.vl_seglog.specs.Reading.{frame_of, moved_of, said_of, write_of}
use Rattle.vl_seglog.specs.Sealed.{IsFound, IsTorn}
use Rattle.vl_seglog.specs.declared.frame.Frame.{Frame}
use Rattle.vl_seglog.specs.declared.frame.ReadRecord.{ReadRecord}
use Rattle.vl_seglog.specs.declared.frame.Said.{Said}
use Rattle.vl_seglog.specs.declared.frame.Said.TheVariants as says
use Rattle.vl_seglog.specs.declared.sealed.SealedLog.{SealedLog}
use Rattle.vl_seglog.specs.laws.FrameLaws.{length-item_frame}

-- ---- the records of a frame

committed_are : (format log version place : ℕ) (rs : List ReadRecord) → AreRecordsFrom format log version place rs
    → records_as rs ≡ committed_records format place version (map write_of rs)
committed_are format log version place [] lie = refl
committed_are format log version place (r ∷ rs) (lies, others) =
    ap (λ (l : List LogRecord). record_of r ∷ l) (committed_are format log version (place + record_length format r.key r.change) rs others)
    ∙ ap (λ (v : ℕ). record { key = r.key; version = v; change = r.change; place = r.pointer.place }
    ∷ committed_records format (place + record_length format r.key r.change) version (map write_of rs)) lies.version_is
    ∙ ap (λ (p : _). record { key = r.key; version = version; change = r.change; place = p.place }
    ∷ committed_records format (place + record_length format r.key r.change) version (map write_of rs)) lies.pointer_is

moved_are : (format log place : ℕ) (rs : List ReadRecord) → AreMovedFrom format log place rs
    → records_as rs ≡ relocated_records format place (map moved_of rs)
moved_are format log place [] lie = refl
moved_are format log place (r ∷ rs) (lies, others) =
    let size : 8 + record_length format r.key r.change ≡ moved_length format (moved_of r) =
    ap (λ (c : Change). 8 + record_length format r.key c) lies.sets in
    ap (λ (l : List LogRecord). record_of r ∷ l) (moved_are format log (place + (8 + record_length format r.key r.change)) rs others)
    ∙ ap (λ (n : ℕ). record_of r ∷ relocated_records format (place + n) (map moved_of rs)) size
    ∙ ap (λ (p : _). record { key = r.key; version = r.version; change = r.change; place = p.place }
    ∷ relocated_records format (place + moved_length format (moved_of r)) (map moved_of rs)) lies.pointer_is
    ∙ ap (λ (c : Change). record { key = r.key; version = r.version; change = c; place = place + 8 }
    ∷ relocated_records format (place + moved_length format (moved_of r)) (map moved_of rs)) lies.sets

said_are : (format log place : ℕ) (s : Said) → RecordsLie format log (place + 5) s
    → records_as (records_of s) ≡ frame_records format place (said_of s)
said_are format log place (says.Commit c) lie =
    let at : place + 5 + 12 ≡ place + 17 = omega arith in
    committed_are format log c.number (place + 5 + 12) c.records.items lie
    ∙ ap (λ (n : ℕ). committed_records format n c.number (map write_of c.records.items)) at
said_are format log place (says.Moves rs) lie =
    let at : place + 5 + 4 ≡ place + 9 = omega arith in
    moved_are format log (place + 5 + 4) rs.items lie
    ∙ ap (λ (n : ℕ). relocated_records format n (map moved_of rs.items)) at

map_drop : (n : ℕ) (rs : List ReadRecord) → records_as (drop n rs) ≡ drop n (records_as rs)
map_drop n [] = ap records_as (drop-nil n) ∙ sym (drop-nil n)
map_drop zero (r ∷ rs) = refl
map_drop (suc n) (r ∷ rs) = map_drop n rs

abbrev with_change : ReadRecord → Change → LogRecord
with_change r c = record { key = r.key; version = r.version; change = c; place = r.pointer.place }

among_records : (rs : List ReadRecord) (r : ReadRecord) → Contains rs r → Contains (records_as rs) (record_of r)
among_records rs r c =
    let within = c.1 in
    let long = length-map rs record_of in
    (c.0, omega (arith, within, long), get_or-map record_of rs c.0 r (record_of r) within ∙ ap record_of c.2)

-- ---- what is left

module _ (format number : ℕ) (bytes : List ℕ) where
  -- beyond the end of the bytes no frame stands
  no_frames : (place : ℕ) (frames : List LogFrame) → ReadsAs (frames_grammar format) number place (drop place bytes) frames
      → length bytes ≤ place → frames ≡ []
  no_frames place [] reads behind = refl
  no_frames place (f ∷ fs) (rest, stands, others) behind =
      let frame = item_frame (frames_grammar format) number place f in
      absurd (omega (
        arith,
        behind,
        ap length stands.spelled,
        length-append frame rest,
        length-drop place bytes,
        runs.frame_is_some (frames_grammar format) number place f,
      ))

  torn_frames : (place : ℕ) (frames : List LogFrame) → ReadsAs (frames_grammar format) number place (drop place bytes) frames
      → StandsNone (frames_grammar format) number place (drop place bytes) → frames ≡ []
  torn_frames place [] reads none = refl
  torn_frames place (f ∷ fs) (rest, stands, others) none = absurd (none f rest stands)

  pub nothing_left : (at : At) (left : List LogRecord) → AreLeft format number bytes at left → length bytes ≤ at.place → left ≡ []
  nothing_left at left are behind = are.are ∙ ap (records_behind format at) (no_frames at.place are.frames are.reads behind)

  pub ends_torn : (place end : ℕ) → IsTorn format number place bytes → EndAt format number bytes place end → place ≡ end
  ends_torn place end torn ends =
      let none = torn_frames place ends.frames ends.reads torn.none in
      let is : end ≡ place + 0 = ends.is ∙ ap (λ (fs : List LogFrame). place + sum_by (frame_length format) fs) none in
      omega (arith, is)

  -- no frames lead from a place to itself
  pub stays : (place : ℕ) → FramesTo format number bytes place place
  stays place =
      let same : place ≡ place + 0 = omega arith in
      record { frames = []; have = tt; rest = drop place bytes; spelled = refl; is = same }

  abbrev Read : ℕ → Found → Type 0
  Read from x = IsRead format number bytes from (candidate_of x)

  -- where all that is new was read, and there was nothing, what there is was read
  pub as_given : (from : ℕ) (old now : List Found) → old ≡ [] → (All (Read from) old → All (Read from) now)
      → All (IsRead format number bytes from) (candidates now)
  as_given from old now none all =
      All-map (IsRead format number bytes from) candidate_of now (all (subst (All (Read from)) (sym none) (All-nil (Read from))))

  module _ (place : ℕ) (f : Frame) (found : IsFound format number place bytes (Some f)) (at : IsFrameAt format number place f) where
    abbrev G : Grammar LogFrame
    G = frames_grammar format

    spelled : drop place bytes ≡ item_frame G number place (frame_of f) ++ found.0
    spelled = found.1.spelled

    rest_is : drop (place + f.length) bytes ≡ found.0
    rest_is =
        let size : length (item_frame G number place (frame_of f)) ≡ f.length = length-item_frame format number place
        (frame_of f) ∙ sym at.length_is in
        sym (drop-drop f.length place bytes) ∙ ap (drop f.length) spelled
        ∙ drop_at (item_frame G number place (frame_of f)) found.0 f.length size

    pub frame_within : (place < length bytes) × (place + f.length ≤ length bytes)
    frame_within =
        let size : length (item_frame G number place (frame_of f)) ≡ f.length = length-item_frame format number place
        (frame_of f) ∙ sym at.length_is in
        let some = runs.frame_is_some G number place (frame_of f) in
        let sum = length-append (item_frame G number place (frame_of f)) found.0 in
        let all = ap length spelled in
        let left = length-drop place bytes in
        (omega (arith, size, some, sum, all, left), omega (arith, size, some, sum, all, left))

    -- behind the frame the others are read
    reads_on : (fs : List LogFrame) → ReadsAs G number place (drop place bytes) fs
        → (others : List LogFrame) × (fs ≡ frame_of f ∷ others) × ReadsAs G number (place + f.length) (drop (place + f.length) bytes) others
    reads_on [] none = absurd (none (frame_of f) found.0 found.1)
    reads_on (g ∷ fs) (rest, stands, reads) =
        let one = runs.one_item G number place (drop place bytes) g (frame_of f) rest found.0 stands found.1 in
        let size : length (item_frame G number place g) ≡ f.length =
        ap (λ (x : LogFrame). length (item_frame G number place x)) one.0
        ∙ length-item_frame format number place (frame_of f) ∙ sym at.length_is in (
          fs,
          ap (λ (x : LogFrame). x ∷ fs) one.0,
          subst (λ (n : ℕ). ReadsAs G number (place + n) (drop (place + f.length) bytes) fs) size
              (subst (λ (l : List ℕ). ReadsAs G number (place + length (item_frame G number place g)) l fs) (one.1 ∙ sym rest_is) reads),
        )

    pub ends_on : (end : ℕ) → EndAt format number bytes place end → EndAt format number bytes (place + f.length) end
    ends_on end ends =
        let on = reads_on ends.frames ends.reads in
        let is : end ≡ place + sum_by (frame_length format) (frame_of f ∷ on.0) =
        ends.is ∙ ap (λ (fs : List LogFrame). place + sum_by (frame_length format) fs) on.1 in
        record {
          frames = on.0;
          reads = on.2;
          is = omega (arith, is, at.length_is, sum_by-cons (frame_length format) (frame_of f) on.0);
        }

    -- what frames behind it lead to, it and they lead to
    pub leads_on : (to : ℕ) → FramesTo format number bytes (place + f.length) to → FramesTo format number bytes place to
    leads_on to run =
        let frame = item_frame G number place (frame_of f) in
        let others = run_bytes G number (place + f.length) run.frames in
        let size : length frame ≡ f.length = length-item_frame format number place (frame_of f) ∙ sym at.length_is in
        let all : run_bytes G number place (frame_of f ∷ run.frames) ≡ frame ++ others =
        ap (λ (n : ℕ). frame ++ run_bytes G number (place + n) run.frames) size in
        let long : length (run_bytes G number place (frame_of f ∷ run.frames)) ≡ length frame + length others =
        ap length all ∙ length-append frame others in
        let here = spelled ∙ ap (λ (l : List ℕ). frame ++ l) (sym rest_is ∙ run.spelled) ∙ sym (append_assoc frame others run.rest)
        ∙ ap (λ (l : List ℕ). l ++ run.rest) (sym all) in
        record {
          frames = frame_of f ∷ run.frames;
          have = (record { lawful = found.1.lawful; short = found.1.short }, run.have);
          rest = run.rest;
          spelled = here;
          is = omega (arith, run.is, size, long);
        }

    one_read : (from : ℕ) → FramesTo format number bytes from place → (recs : List ReadRecord) → recs ≡ records_of f.said
        → (x : Found) → IsOfOne recs x → Read from x
    one_read from lead recs are x one =
        let same : log_record (candidate_of x) ≡ record_of one.r =
        ap log_record one.is.is ∙ ap (with_change one.r) (sym one.is.sets) in
        let among : Contains (records_of f.said) one.r = subst (λ (rs : List ReadRecord). Contains rs one.r) are one.among in
        let there : Contains (records_as (records_of f.said)) (log_record (candidate_of x)) =
        subst (Contains (records_as (records_of f.said))) (sym same) (among_records (records_of f.said) one.r among) in
        let here = subst (λ (rs : List LogRecord). Contains rs (log_record (candidate_of x)))
        (said_are format number place f.said at.records) there in
        record { at = place; to = lead; frame = frame_of f; rest = found.0; stands = found.1; is = here }

    -- what was read before it, and is of its records, was read
    pub all_read : (from : ℕ) → FramesTo format number bytes from place → (recs : List ReadRecord) → recs ≡ records_of f.said
        → (old now : List Found) → All (Read from) old → All (IsOldOrOf old recs) now → All (Read from) now
    all_read from lead recs are old now before = All-weaker (IsOldOrOf old recs) (Read from) by now
      where
        by : (x : Found) → IsOldOrOf old recs x → Read from x
        by x (inl there) = All-contains (Read from) old x before there
        by x (inr one) = one_read from lead recs are x one

    abbrev behind_it : At
    behind_it = record { place = place + f.length; done = 0 }

    abbrev within_it : ℕ → At
    within_it done = record { place = place; done = done }

    drop_none : (fs : List LogFrame) (here : ℕ) → records_behind format (record { place = here; done = 0 }) fs ≡ records_from format here fs
    drop_none [] here = refl
    drop_none (g ∷ fs) here = refl

    -- what is left are its records that aren't passed, and what is left behind it
    pub record Splits (done : ℕ) (left : List LogRecord) : Type 0 where
      pub others : List LogRecord
      pub is : left ≡ records_as (drop done (records_of f.said)) ++ others
      pub behind : AreLeft format number bytes behind_it others
      pub within : (now : ℕ) → AreLeft format number bytes (within_it now) (records_as (drop now (records_of f.said)) ++ others)

    pub splits : (done : ℕ) (left : List LogRecord) → AreLeft format number bytes (within_it done) left → Splits done left
    splits done left are =
        let on = reads_on are.frames are.reads in
        let others = records_from format (place + f.length) on.0 in
        let recs = said_are format number place f.said at.records in
        let here : (n : ℕ) → records_as (drop n (records_of f.said)) ++ others ≡ records_behind format (within_it n) (frame_of f ∷ on.0) =
        λ n. ap (λ (l : List LogRecord). l ++ others) (map_drop n (records_of f.said) ∙ ap (drop n) recs)
        ∙ ap (λ (k : ℕ). drop n (frame_records format place (frame_of f)) ++ records_from format (place + k) on.0) at.length_is in
        record {
          others = others;
          is = are.are ∙ ap (records_behind format (within_it done)) on.1 ∙ sym (here done);
          behind = record { frames = on.0; reads = on.2; are = sym (drop_none on.0 (place + f.length)) };
          within = λ now. record {
            frames = are.frames;
            reads = are.reads;
            are = here now
                ∙ ap (records_behind format (within_it now)) (sym on.1);
          };
        }

-- ---- the walk

-- where nothing was taken there is no batch
pub not_any : (xs : List Found) (batch : Option (List Candidate)) (Over : Type 0) → batch ≡ layout.if_any (candidates xs)
    → (xs ≡ [] → Over) → IfNone batch Over
not_any xs batch Over is over = subst (λ (b : Option (List Candidate)). IfNone b Over) (sym is) (by xs over)
  where
    by : (ys : List Found) → (ys ≡ [] → Over) → IfNone (layout.if_any (candidates ys)) Over
    by [] all = all refl
    by (y ∷ ys) all = tt

-- and of what was taken it is
pub if_given : (xs : List Found) (batch : Option (List Candidate)) (P : List Candidate → Type 0)
    → batch ≡ layout.if_any (candidates xs) → P (candidates xs) → IfSome batch P
if_given xs batch P is holds = subst (λ (b : Option (List Candidate)). IfSome b P) (sym is) (by xs holds)
  where
    by : (ys : List Found) → P (candidates ys) → IfSome (layout.if_any (candidates ys)) P
    by [] all = tt
    by (y ∷ ys) all = all

module _ {H : Type 0} (bytes : H → Option (List ℕ)) where
  -- from the place on where a pass was a batch took more, and it is there now
  pub record Walked (log : SealedLog H) (p : layout.Pass) (taken more : List Found) (at : At) : Type 0 where
    pub told : List ℕ
    pub tells : bytes log.held ≡ Some told
    pub left : List LogRecord
    pub are : AreLeft log.format log.number told at left
    pub same : outcome p.base p.segment (candidates taken) p.left ≡ outcome p.base p.segment (candidates more) left

  module _ (log : SealedLog H) (p : layout.Pass) (taken more : List Found) (at : At) (walked : Walked log p taken more at) where
    -- it is at the end
    pub at_end : length walked.told ≤ at.place → Walks bytes log p taken more at
    at_end behind =
        let none = nothing_left log.format log.number walked.told at walked.left walked.are behind in
        let all = walked.same ∙ ap (outcome p.base p.segment (candidates more)) none ∙ ended p.base p.segment (candidates more) in
        record {
          told = walked.told;
          tells = walked.tells;
          left = subst (AreLeft log.format log.number walked.told at) (none ∙ sym (ap (λ (t : Batched). t.1) all)) walked.are;
          given = sym (ap (λ (t : Batched). t.0) all);
        }

    module _ (f : Frame) (found : IsFound log.format log.number at.place walked.told (Some f))
        (lies : IsFrameAt log.format log.number at.place f) (now : List Found) (done : ℕ)
        (passes : Passes p.base p.segment (candidates more) (records_as (drop at.done (records_of f.said)))
        (candidates now) (records_as (drop done (records_of f.said)))) where
      parts : Splits log.format log.number walked.told at.place f found lies at.done walked.left
      parts = splits log.format log.number walked.told at.place f found lies at.done walked.left walked.are

      on : outcome p.base p.segment (candidates taken) p.left
          ≡ outcome p.base p.segment (candidates now) (records_as (drop done (records_of f.said)) ++ parts.others)
      on = walked.same ∙ ap (outcome p.base p.segment (candidates more)) parts.is ∙ passes.same parts.others

      -- all of the frame's records are passed
      pub walks_on : length (records_of f.said) ≤ done → (next : ℕ) → next ≡ at.place + f.length
          → Walked log p taken now (record { place = next; done = 0 })
      walks_on all next is = record {
        told = walked.told;
        tells = walked.tells;
        left = parts.others;
        are = subst (λ (n : ℕ). AreLeft log.format log.number walked.told (record { place = n; done = 0 }) parts.others)
            (sym is) parts.behind;
        same = on ∙ ap (λ (l : List LogRecord). outcome p.base p.segment (candidates now) (l ++ parts.others))
            (records_end (records_of f.said) done all);
      }

      -- one of them has no room in the batch
      pub walks_to : done < length (records_of f.said) → Walks bytes log p taken now (record { place = at.place; done = done })
      walks_to some =
          let rest = records_as (drop done (records_of f.said)) in
          let stops : (rest ≡ []) ⊎
          ((others : List LogRecord) → outcome p.base p.segment (candidates now) (rest ++ others) ≡ (candidates now, rest ++ others))
          → outcome p.base p.segment (candidates now) (rest ++ parts.others) ≡ (candidates now, rest ++ parts.others) = by in
          let all = on ∙ stops passes.stops in
          record {
            told = walked.told;
            tells = walked.tells;
            left = subst (AreLeft log.format log.number walked.told (record { place = at.place; done = done }))
                (sym (ap (λ (t : Batched). t.1) all)) (parts.within done);
            given = sym (ap (λ (t : Batched). t.0) all);
          }
        where
          rest' : List LogRecord
          rest' = records_as (drop done (records_of f.said))

          by : (rest' ≡ []) ⊎ ((others : List LogRecord)
              → outcome p.base p.segment (candidates now) (rest' ++ others) ≡ (candidates now, rest' ++ others))
              → outcome p.base p.segment (candidates now) (rest' ++ parts.others) ≡ (candidates now, rest' ++ parts.others)
          by (inl none) =
              absurd (omega (
                arith,
                some,
                ap length none,
                length-map (drop done (records_of f.said)) record_of,
                length-drop done (records_of f.said),
              ))
          by (inr stop) = stop parts.others
