-- What is held of the last log behind its mending, and so what an opened store holds.
use Rattle.std.proofs.Common.{◌≡◌, ℕ, ◌+◌, List, [], ◌∷◌, ◌++◌, append_assoc, take, refl, sym, ap, subst, ◌∙◌}
use Rattle.std.specs.Prelude.{◌&&◌, ◌==◌, nat_lt, if◌then◌else◌, Bool, true, false, Option, None, Some, unwrap_or}
use Rattle.std.specs.FinMap.{get}
use Rattle.std.specs.List.{AllZip, filter}
use Rattle.std.specs.Option.{option_map}
use Rattle.std.proofs.lemmas.Bool.{true≢false}
use Rattle.vl_disk.specs.Changes.{changed_there}
use Rattle.vl_disk.specs.Crash.{Image}
use Rattle.vl_disk.specs.DiskState.{DiskState, File, cut_to, file_at, new_file, settled, shortened, synced_file}
use Rattle.vl_disk.specs.MadeFile.{made}
use Rattle.vl_disk.specs.Started.{IsRead}
use Rattle.vl_disk.specs.declared.name.Name.TheVariants.{Log, Manifest}
use Rattle.vl_disk.specs.laws.NameMap.{get_inserted_other}
use Rattle.vl_engine_model.specs.Logs.{new_segment}
use Rattle.vl_engine_model.specs.declared.segment.Segment.{Segment}
use Rattle.vl_manifest.specs.declared.state.ManifestState.{ManifestState}
use Rattle.vl_model.specs.declared.log_frame.LogFrame.{LogFrame}
use Rattle.vl_recover.specs.declared.plan.LogToHold.{LogToHold}
use Rattle.vl_recover.specs.laws.crash.AlikeLaws.{log_manifest}
use Rattle.vl_recover.specs.laws.opening.OneFinding.{same_logs_then, same_opening}
use Rattle.vl_recover.specs.laws.opening.OpeningLaws.{some_none, some_same}
use Rattle.vl_recover.specs.laws.repairing.LastLaws.{unkept_none, whole_bytes}
use Rattle.vl_recover.specs.opening.Answers.{Finds, and_made, as_segments, last_format}
use Rattle.vl_recover.specs.opening.Finding.{last_log, last_of}
use Rattle.vl_recover.specs.opening.HeldFiles.{AreHeldFound, AreHeldLogs, IsHeldLog, IsReadLog, but_last}
use Rattle.vl_recover.specs.opening.Opening.{IsNextLog, Opening, StandingLogs, led_into}
use Rattle.vl_recover.specs.opening.Plans.{log_behind, log_made, new_state}
use Rattle.vl_recover.specs.opening.Walk.{StandingLog, format_of, has_some, keeps_header}
use Rattle.vl_recover.specs.repairing.Holding.{IsHeld, hold_for, listed}
use Rattle.vl_recover.specs.repairing.Repairing.{Cut, Headed, IsPlan, Kept, LastLog, Plan, Rewritten, behind_last}
use Rattle.vl_recover.specs.repairing.Repairing.{plan_of, repairing_of, with_last}
use Rattle.vl_recover.specs.repairing.Repairing as repairing
use Rattle.vl_seglog.specs.Frames.{log_bytes}
use Rattle.vl_seglog.specs.LogReading.{end_of}
use Rattle.vl_seglog.specs.laws.LogReadingLaws.{reads_cut}
use Rattle.vl_seglog.specs.declared.sealed.SealedLog.{SealedLog}

cons_none : (f : LogFrame) (fs : List LogFrame) → f ∷ fs ≡ [] → ⊥
cons_none f fs e = cc

-- the last but one of segments, behind one more
but_last_behind : (s : Segment) (p : StandingLog) (ps : List StandingLog) (more : List Segment)
    → but_last (s ∷ (as_segments (p ∷ ps) ++ more)) ≡ s ∷ but_last (as_segments (p ∷ ps) ++ more)
but_last_behind s p [] more = refl
but_last_behind s p (q ∷ qs) more = refl

none_more : (s : Segment) (p : StandingLog) (ps : List StandingLog)
    → but_last (s ∷ as_segments (p ∷ ps)) ≡ s ∷ but_last (as_segments (p ∷ ps))
none_more s p [] = refl
none_more s p (q ∷ qs) = refl

module _ (read : Image) (start : DiskState) (is_read : IsRead read start) (manifest : ℕ) (piece : List ℕ) where
  abbrev first : DiskState
  first = made (Manifest manifest) piece start

  read_file : (bytes : List ℕ) (there : Option File) → Some bytes ≡ option_map (λ (file : File). file.bytes) there
      → (file : File) × (there ≡ Some file) × (bytes ≡ file.bytes)
  read_file bytes None e = absurd (some_none bytes e)
  read_file bytes (Some file) e = (file, refl, some_same bytes file.bytes e)

  -- A log that keeps its header has its frames behind it, and nothing else.
  last_bytes : (least : ℕ) (q : StandingLog) → IsNextLog read least q → keeps_header q.reading.header q.reading.frames ≡ true
      → (file_at (behind_last (repairing_of q) (made (Manifest manifest) piece start)) (Log q.number)).bytes
      ≡ log_bytes (format_of q.reading.header) q.number q.reading.frames
  last_bytes least q next keeps =
      by q.reading.header (keeps_header q.reading.header q.reading.frames) q.reading.whole (q.length == 0) refl keeps refl
    where
      file_is : (file : File) × (get start.standing (Log q.number) ≡ Some file) × (next.bytes ≡ file.bytes)
      file_is = read_file next.bytes (get start.standing (Log q.number)) (sym next.stands ∙ is_read.each (Log q.number))

      there : get first.standing (Log q.number) ≡ Some file_is.0
      there = get_inserted_other start.standing (Manifest manifest) (settled piece) (Log q.number) (log_manifest q.number manifest)
          ∙ file_is.1

      by : (header : Option ℕ) (keeping whole empty : Bool) → q.reading.header ≡ header → keeping ≡ true → q.reading.whole ≡ whole
          → (file_at (behind_last (if keeping then (if whole then Kept q.number else Cut q.number (end_of header q.reading.frames))
          else (if empty then Headed q.number else Rewritten q.number)) first) (Log q.number)).bytes
          ≡ log_bytes (format_of header) q.number q.reading.frames
      by (Some format) true true empty h k w =
          ap (λ (o : Option File). (unwrap_or o new_file).bytes) (changed_there (Log q.number) first synced_file
          ∙ ap (option_map synced_file) there)
          ∙ sym file_is.2 ∙ whole_bytes q.number next.bytes q.reading next.reads format h w
      by (Some format) true false empty h k w =
          let len : ℕ = end_of (Some format) q.reading.frames in
          ap (λ (o : Option File). (unwrap_or o new_file).bytes)
          (changed_there (Log q.number) (cut_to (Log q.number) len len first) synced_file
          ∙ ap (option_map synced_file) (changed_there (Log q.number) first (shortened len len)
          ∙ ap (option_map (shortened len len)) there))
          ∙ sym (ap (λ (b : List ℕ). take len b) file_is.2)
          ∙ reads_cut q.number next.bytes q.reading next.reads format h
      by None true whole empty h k w = absurd (true≢false (sym keeps ∙ ap (λ (o : Option ℕ). keeps_header o q.reading.frames) h))
      by header false whole empty h k w = absurd (true≢false (sym k))

  module _ {H : Type 0} (bytes_told : H → Option (List ℕ)) (s : ManifestState) where
    one_held : (least : ℕ) (q : StandingLog) → IsNextLog read least q → (upper : List (SealedLog H))
        → AllZip (IsHeldLog bytes_told) upper [] → (log : Option (SealedLog H))
        → IsHeld bytes_told (hold_for (Some (last_log q))) log (behind_last (repairing_of q) (made (Manifest manifest) piece start))
        → AllZip (IsHeldLog bytes_told) (upper ++ listed log) (but_last (as_segments (q ∷ []) ++ and_made (log_made s (q ∷ []))))
    one_held least q next (u ∷ us) zip log held = absurd zip
    one_held least q next [] zip log held =
        by q.reading.frames (keeps_header q.reading.header q.reading.frames) refl refl log held
      where
        disk : DiskState
        disk = behind_last (repairing_of q) (made (Manifest manifest) piece start)

        by : (frames : List LogFrame) (keeps : Bool) → q.reading.frames ≡ frames → keeps_header q.reading.header q.reading.frames ≡ keeps
            → (log : Option (SealedLog H))
            → IsHeld bytes_told (if keeps && has_some frames
            then Some (record { number = q.number; format = format_of q.reading.header }) else None) log
            (behind_last (repairing_of q) (made (Manifest manifest) piece start))
            → AllZip (IsHeldLog bytes_told) (listed log)
            (but_last ((new_segment (last_format q.reading.header frames) q.number frames ∷ []) ++ and_made (log_behind s frames)))
        by [] true f k None held = tt
        by [] true f k (Some log) held = absurd held
        by [] false f k None held = tt
        by [] false f k (Some log) held = absurd held
        by (g ∷ gs) false f k log held = absurd (cons_none g gs (sym f ∙ unkept_none q.number next.bytes q.reading next.reads k))
        by (g ∷ gs) true f k None held = absurd held
        by (g ∷ gs) true f k (Some log) held = (
          record {
            number_is = held.number_is;
            format_is = held.format_is;
            told = held.told ∙ ap Some (last_bytes least q next k
                ∙ ap (λ (fs : List LogFrame). log_bytes (format_of q.reading.header) q.number fs) f);
          },
          tt,
        )

    all_held : (least : ℕ) (logs : List StandingLog) → StandingLogs read least logs → (upper : List (SealedLog H))
        → AllZip (IsHeldLog bytes_told) upper (but_last (as_segments logs)) → (log : Option (SealedLog H))
        → IsHeld bytes_told (hold_for (option_map last_log (last_of logs))) log
        (behind_last (repairing.last_of logs) (made (Manifest manifest) piece start))
        → AllZip (IsHeldLog bytes_told) (upper ++ listed log) (but_last (as_segments logs ++ and_made (log_made s logs)))
    all_held least [] standing [] zip None held = tt
    all_held least [] standing [] zip (Some log) held = absurd held
    all_held least [] standing (u ∷ us) zip log held = absurd zip
    all_held least (q ∷ []) (next, rest) upper zip log held = one_held least q next upper zip log held
    all_held least (q ∷ p ∷ ps) (next, rest) upper zip log held =
        subst (λ (ss : List Segment). AllZip (IsHeldLog bytes_told) (upper ++ listed log) ss)
        (sym (but_last_behind (new_segment (format_of q.reading.header) q.number q.reading.frames) p ps (and_made (log_made s (p ∷ ps)))))
        (by upper (subst (λ (ss : List Segment). AllZip (IsHeldLog bytes_told) upper ss)
        (none_more (new_segment (format_of q.reading.header) q.number q.reading.frames) p ps) zip)
        (λ us others. all_held (q.number + 1) (p ∷ ps) rest us others log held))
      where
        by : (upper : List (SealedLog H))
            → AllZip (IsHeldLog bytes_told) upper (new_segment (format_of q.reading.header) q.number q.reading.frames ∷ but_last
            (as_segments (p ∷ ps)))
            → ((us : List (SealedLog H)) → AllZip (IsHeldLog bytes_told) us (but_last (as_segments (p ∷ ps)))
            → AllZip (IsHeldLog bytes_told) (us ++ listed log) (but_last (as_segments (p ∷ ps) ++ and_made (log_made s (p ∷ ps)))))
            → AllZip (IsHeldLog bytes_told) (upper ++ listed log)
            (new_segment (format_of q.reading.header) q.number q.reading.frames ∷ but_last (as_segments (p ∷ ps) ++ and_made
            (log_made s (p ∷ ps))))
        by [] zip onto = absurd zip
        by (u ∷ us) (one, others) onto = (one, onto us others)

-- An opened store holds its logs so.
module _ {H : Type 0} (bytes_told : H → Option (List ℕ)) (read : Image) where
  -- by any finding
  by_other : (a b : Finds read) (logs : List (SealedLog H)) → AreHeldLogs bytes_told a logs → AreHeldLogs bytes_told b logs
  by_other a b logs are = record {
    lower = are.lower;
    upper = are.upper;
    split = are.split;
    lower_are = subst (λ (o : Opening). AllZip (IsReadLog bytes_told read) are.lower
        (filter (λ n. nat_lt n o.state.head) (led_into o.levels))) (same_opening read a b) are.lower_are;
    upper_are = subst (λ (ss : List Segment). AllZip (IsHeldLog bytes_told) are.upper (but_last ss)) (same_logs_then read a b)
        are.upper_are;
  }

  pub logs_held : (start : DiskState) → IsRead read start → (found other : Finds read) (plan : Plan) → IsPlan found plan
      → (sealed : List (SealedLog H)) → AreHeldFound bytes_told found sealed
      → (hold : Option LogToHold) → hold ≡ hold_for (option_map last_log (last_of found.logs))
      → (log : Option (SealedLog H)) → IsHeld bytes_told hold log (with_last plan start)
      → (all : List (SealedLog H)) → all ≡ sealed ++ listed log → AreHeldLogs bytes_told other all
  logs_held start is_read found other plan is sealed are hold hold_is log held all all_is =
      by_other found other all (record {
        lower = are.lower;
        upper = are.upper ++ listed log;
        split = all_is ∙ ap (λ (ls : List (SealedLog H)). ls ++ listed log) are.split ∙ append_assoc are.lower are.upper (listed log);
        lower_are = are.lower_are;
        upper_are = all_held read start is_read (plan_of found plan.strays).manifest (plan_of found plan.strays).piece bytes_told
            (new_state found.greatest found.opening.state) found.opening.state.head found.logs found.standing are.upper are.upper_are log
            (subst (λ (p : Plan). IsHeld bytes_told (hold_for (option_map last_log (last_of found.logs))) log (with_last p start)) is.is
            (subst (λ (h : Option LogToHold). IsHeld bytes_told h log (with_last plan start)) hold_is held));
      })
