-- A log that was removed and had its header alone may come back in what a crash leaves. An opening passes over it.
use Rattle.std.specs.Prelude.{◌≡◌, ◌≢◌, ◌⊎◌, ℕ, ◌+◌, ◌-◌, ◌≤◌, ◌<◌, Bool, List, [], ◌∷◌, Option, None, Some, Result, Ok, Err}
use Rattle.std.specs.Prelude.{refl, suc, true, zero}
use Rattle.std.specs.FinMap.{get}
use Rattle.std.proofs.Common.{ap, arith, inl, inr, subst, sym, ◌∙◌, ⊎_elim}
use Rattle.std.proofs.lemmas.Bool.{cases_eq}
use Rattle.vl_disk.specs.Changes.{SameElsewhere}
use Rattle.vl_disk.specs.Crash.{Image, MayLeave, MayLeaveOne}
use Rattle.vl_disk.specs.DiskState.{DiskState, File, settled}
use Rattle.vl_disk.specs.declared.name.Name.{Name}
use Rattle.vl_disk.specs.declared.name.Name.TheVariants.{Log}
use Rattle.vl_disk.specs.laws.NameMap.{same_or_other}
use Rattle.vl_engine_model.specs.Logs.{new_segment}
use Rattle.vl_engine_model.specs.declared.segment.Segment.{Segment}
use Rattle.vl_model.specs.declared.log_frame.LogFrame.{LogFrame}
use Rattle.vl_recover.specs.crash.Held.{IsIdle, IsNowhere, IsPassedOver, log_as_held}
use Rattle.vl_recover.specs.crash.Starts.{OnlyIdleGone, WasIdle}
use Rattle.vl_recover.specs.laws.opening.OpeningLaws.{some_none, some_same}
use Rattle.vl_recover.specs.opening.Opening.{IsNextLog, StandingLogs}
use Rattle.vl_recover.specs.opening.Stages.{on_ok}
use Rattle.vl_recover.specs.opening.Walk.{LogDamage, StandingLog, counted_whole, filled, format_of, in_log, walked, walked_on, with_frames}
use Rattle.vl_seglog.specs.Frames.{log_bytes}
use Rattle.vl_seglog.specs.LogReading.{IsLogFormat}
use Rattle.vl_seglog.specs.laws.LogReadingLaws.{reads_written}

-- ---- a log that is passed over

-- what is nowhere is passed over
pub nowhere_passed : (disk : DiskState) (m : ℕ) → IsNowhere disk (Log m) → IsPassedOver disk m
nowhere_passed disk m nowhere = record {
  free = nowhere.free;
  idle = λ file was. absurd (some_none file (sym was ∙ nowhere.never));
}

pub passed_kept : (name : Name) (old now : DiskState) → SameElsewhere name old now → (m : ℕ) → Log m ≢ name
    → IsPassedOver old m → IsPassedOver now m
passed_kept name old now same m apart passed = record {
  free = same.standing (Log m) apart ∙ passed.free;
  idle = λ file was. passed.idle file (sym (same.removed (Log m) apart) ∙ was);
}

-- no log of this number is left, or one that has its header alone
abbrev pub IsLeftOut : Image → ℕ → Type 0
IsLeftOut image m = (get image (Log m) ≡ None)
    ⊎ ((format : ℕ) × IsLogFormat format × (get image (Log m) ≡ Some (log_bytes format m [])))

pub left_passed : (disk : DiskState) (image : Image) (m : ℕ) → IsPassedOver disk m → MayLeave disk image → IsLeftOut image m
left_passed disk image m passed may =
    of (get disk.removed (Log m)) passed.idle (get image (Log m))
    (subst (λ (o : Option File). MayLeaveOne o (get disk.removed (Log m)) (get image (Log m))) passed.free (may (Log m)))
  where
    back : (file : File) → IsIdle m file → (bytes : List ℕ) → MayLeaveOne None (Some file) (Some bytes)
        → (format : ℕ) × IsLogFormat format × (Some bytes ≡ Some (log_bytes format m []))
    back file (format, is_read, is) bytes one =
        let settled_one = subst (λ (f : File). MayLeaveOne None (Some f) (Some bytes)) is one in
        (format, is_read, ap Some (settled_one.whole refl))

    of : (removed : Option File) → ((file : File) → removed ≡ Some file → IsIdle m file) → (left : Option (List ℕ))
        → MayLeaveOne None removed left
        → (left ≡ None) ⊎ ((format : ℕ) × IsLogFormat format × (left ≡ Some (log_bytes format m [])))
    of removed idle None one = inl refl
    of None idle (Some bytes) one = absurd one
    of (Some file) idle (Some bytes) one = inr (back file (idle file refl) bytes one)

-- ---- logs beside which idle ones may stand

-- the log ends with its header
abbrev pub AddsNothing : StandingLog → Type 0
AddsNothing q = (q.reading.frames ≡ []) × (q.reading.whole ≡ true)

-- these are the others, with logs among them that add nothing, each in front of another
abbrev pub WithIdle : List StandingLog → List StandingLog → Type 0
WithIdle [] [] = Unit {0}
WithIdle [] (b ∷ ys) = ⊥
WithIdle (a ∷ xs) [] = ⊥
WithIdle (a ∷ xs) (b ∷ ys) = ((a ≡ b) × WithIdle xs ys) ⊎ (AddsNothing a × WithIdle xs (b ∷ ys))

-- They have the same logs with frames,
pub idle_filled : (xs ys : List StandingLog) → WithIdle xs ys → filled xs ≡ filled ys
idle_filled [] [] with = refl
idle_filled [] (b ∷ ys) with = absurd with
idle_filled (a ∷ xs) [] with = absurd with
idle_filled (a ∷ xs) (b ∷ ys) with = ⊎_elim
    (λ (same : (a ≡ b) × WithIdle xs ys).
    ap (λ (q : StandingLog). with_frames q.number q.reading.header q.reading.frames (filled xs)) same.0
    ∙ ap (with_frames b.number b.reading.header b.reading.frames) (idle_filled xs ys same.1))
    (λ (more : AddsNothing a × WithIdle xs (b ∷ ys)).
    ap (λ (fs : List LogFrame). with_frames a.number a.reading.header fs (filled xs)) more.0.0
    ∙ idle_filled xs (b ∷ ys) more.1)
    with

ok_each : {A B E : Type 0} (f g : A → Result B E) → ((a : A) → f a ≡ g a) → (r : Result A E) → on_ok f r ≡ on_ok g r
ok_each f g same (Ok a) = same a
ok_each f g same (Err e) = refl

-- a log that adds nothing counts nothing
nothing_counts : (q : StandingLog) → AddsNothing q → (n : ℕ) → in_log q.number (counted_whole n q.reading) ≡ Ok n
nothing_counts q (none, whole) n = by q.reading.frames none q.reading.whole whole
  where
    by : (frames : List LogFrame) → frames ≡ [] → (is_whole : Bool) → is_whole ≡ true
        → in_log q.number (counted_whole n (record { header = q.reading.header; frames = frames; whole = is_whole })) ≡ Ok n
    by frames none is_whole whole =
        ap (λ (fs : List LogFrame). in_log q.number
        (counted_whole n (record { header = q.reading.header; frames = fs; whole = is_whole }))) none
        ∙ ap (λ (w : Bool). in_log q.number
        (counted_whole n (record { header = q.reading.header; frames = []; whole = w }))) whole

walked_behind : (n : ℕ) (q : StandingLog) (xs ys : List StandingLog) → WithIdle xs ys → walked_on n q xs ≡ walked_on n q ys
walked_behind n q [] [] with = refl
walked_behind n q [] (b ∷ ys) with = absurd with
walked_behind n q (a ∷ xs) [] with = absurd with
walked_behind n q (a ∷ xs) (b ∷ ys) with =
    ok_each (λ (m : ℕ). walked_on m a xs) (λ (m : ℕ). walked_on m b ys)
    (λ m. ⊎_elim
    (λ (same : (a ≡ b) × WithIdle xs ys).
    walked_behind m a xs ys same.1 ∙ ap (λ (x : StandingLog). walked_on m x ys) same.0)
    (λ (more : AddsNothing a × WithIdle xs (b ∷ ys)).
    walked_behind m a xs (b ∷ ys) more.1
    ∙ ap (on_ok (λ (k : ℕ). walked_on k b ys)) (nothing_counts a more.0 m))
    with)
    (in_log q.number (counted_whole n q.reading))

-- and their commits go on to the same number.
pub idle_walked : (n : ℕ) (xs ys : List StandingLog) → WithIdle xs ys → walked n xs ≡ walked n ys
idle_walked n [] [] with = refl
idle_walked n [] (b ∷ ys) with = absurd with
idle_walked n (a ∷ xs) [] with = absurd with
idle_walked n (a ∷ xs) (b ∷ ys) with = ⊎_elim
    (λ (same : (a ≡ b) × WithIdle xs ys).
    walked_behind n a xs ys same.1 ∙ ap (λ (q : StandingLog). walked_on n q ys) same.0)
    (λ (more : AddsNothing a × WithIdle xs (b ∷ ys)).
    walked_behind n a xs (b ∷ ys) more.1
    ∙ ap (on_ok (λ (k : ℕ). walked_on k b ys)) (nothing_counts a more.0 n))
    with

-- ---- how they stand in an image

-- from a number on stand these logs, and beside them none but such as add nothing, each in front of one of them
pub record StandAmongIdle (image : Image) (least : ℕ) (logs : List StandingLog) : Type 0 where
  pub found : List StandingLog
  pub stand : StandingLogs image least found
  pub with_idle : WithIdle found logs

-- a log as it stands where it has its header alone
abbrev idle_log : (format m : ℕ) → StandingLog
idle_log format m = log_as_held (new_segment format m [])

module _ (image : Image) where
  -- where none has a number, the logs from the next on are those from it on
  stand_lower : (least : ℕ) (logs : List StandingLog) → get image (Log least) ≡ None → StandingLogs image (least + 1) logs
      → StandingLogs image least logs
  stand_lower least logs none stand = by logs stand
    where
      none_at : (m : ℕ) → m ≡ least → get image (Log m) ≡ None
      none_at m at = ap (λ (k : ℕ). get image (Log k)) at ∙ none

      by : (logs : List StandingLog) → StandingLogs image (least + 1) logs → StandingLogs image least logs
      by [] all = λ m from. ⊎_elim
          (λ (at : m ≡ least). none_at m at)
          (λ (other : m ≢ least). all m (omega (arith, from, other)))
          (cases_eq m least)
      by (q ∷ qs) (next, rest) = (
        record {
          from = (let from = next.from in omega (arith, from));
          between = λ m from less. ⊎_elim
              (λ (at : m ≡ least). none_at m at)
              (λ (other : m ≢ least). next.between m (omega (arith, from, other)) less)
              (cases_eq m least);
          bytes = next.bytes;
          stands = next.stands;
          length_is = next.length_is;
          reads = next.reads;
        },
        rest,
      )

  stand_down : (d least upto : ℕ) → least + d ≡ upto → ((m : ℕ) → least ≤ m → m < upto → IsLeftOut image m)
      → (b : StandingLog) (ys : List StandingLog) → StandAmongIdle image upto (b ∷ ys) → StandAmongIdle image least (b ∷ ys)
  stand_down zero least upto e each b ys among =
      subst (λ (k : ℕ). StandAmongIdle image k (b ∷ ys)) (omega (arith, e)) among
  stand_down (suc d) least upto e each b ys among =
      by (each least (omega arith) (omega (arith, e)))
      (stand_down d (least + 1) upto (omega (arith, e)) (λ m from less. each m (omega (arith, from)) less) b ys among)
    where
      by : IsLeftOut image least → StandAmongIdle image (least + 1) (b ∷ ys) → StandAmongIdle image least (b ∷ ys)
      by left more = ⊎_elim
          (λ (none : get image (Log least) ≡ None). record {
            found = more.found;
            stand = stand_lower least more.found none more.stand;
            with_idle = more.with_idle;
          })
          (λ (idle : (format : ℕ) × IsLogFormat format × (get image (Log least) ≡ Some (log_bytes format least []))). record {
            found = idle_log idle.0 least ∷ more.found;
            stand = (
              record {
                from = omega arith;
                between = λ m from less. absurd (omega (arith, from, less));
                bytes = log_bytes idle.0 least [];
                stands = idle.2;
                length_is = refl;
                reads = reads_written idle.0 least idle.1 [] tt;
              },
              more.stand,
            );
            with_idle = inr ((refl, refl), more.with_idle);
          })
          left

  -- A log stands in front of them, and what is left between adds nothing.
  pub stand_next : (least : ℕ) (q : StandingLog) (logs : List StandingLog) → least ≤ q.number → IsNextLog image q.number q
      → ((m : ℕ) → least ≤ m → m < q.number → IsLeftOut image m)
      → StandAmongIdle image (q.number + 1) logs → StandAmongIdle image least (q ∷ logs)
  stand_next least q logs from next each among =
      stand_down (q.number - least) least q.number (omega (arith, from)) each q logs (record {
        found = q ∷ among.found;
        stand = (next, among.stand);
        with_idle = inl (refl, among.with_idle);
      })

  -- none stands from a number on
  pub stand_none : (least : ℕ) → ((m : ℕ) → least ≤ m → get image (Log m) ≡ None) → StandAmongIdle image least []
  stand_none least none = record { found = []; stand = none; with_idle = tt }

-- ---- only idle logs were removed

-- None was removed where no log stands above.
pub none_gone : (least k : ℕ) (disk : DiskState) → OnlyIdleGone least disk → least ≤ k
    → ((m : ℕ) → k < m → get disk.standing (Log m) ≡ None) → get disk.removed (Log k) ≡ None
none_gone least k disk gone from none = by (get disk.removed (Log k)) refl
  where
    by : (removed : Option File) → get disk.removed (Log k) ≡ removed → get disk.removed (Log k) ≡ None
    by None is = is
    by (Some file) is = (let was = gone k file from is in absurd (was.stands (none was.above was.higher)))

-- So it stays where one name changes, if no log from that number on has it, or the file stands then.
pub gone_kept : (least : ℕ) (name : Name) (old now : DiskState) → SameElsewhere name old now
    → ((m : ℕ) → least ≤ m → Log m ≡ name → (get now.standing name ≢ None) × (get now.removed name ≡ None))
    → OnlyIdleGone least old → OnlyIdleGone least now
gone_kept least name old now same there gone m file from was = ⊎_elim
    (λ (e : Log m ≡ name). absurd (some_none file (sym was ∙ ap (get now.removed) e ∙ (there m from e).1)))
    (λ (apart : Log m ≢ name).
    let old_one = gone m file from (sym (same.removed (Log m) apart) ∙ was) in
    let higher = old_one.higher in
    record {
      idle = old_one.idle;
      above = old_one.above;
      higher = higher;
      stands = λ none. ⊎_elim
          (λ (e : Log old_one.above ≡ name). (there old_one.above (omega (arith, from, higher)) e).0
          (ap (get now.standing) (sym e) ∙ none))
          (λ (other : Log old_one.above ≢ name). old_one.stands (sym (same.standing (Log old_one.above) other) ∙ none))
          (same_or_other (Log old_one.above) name);
    })
    (same_or_other (Log m) name)
