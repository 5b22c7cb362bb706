-- What a flush's switch makes of the base: its state, its head, and the logs from there on.
use Rattle.std.specs.Prelude.{◌≡◌, ◌==◌, ℕ, ◌+◌, max, Bool, true, false, if◌then◌else◌, List, [], ◌∷◌, ◌++◌, length}
use Rattle.std.specs.Prelude.{map, Option, None, Some, Result, Ok, Err, refl}
use Rattle.std.specs.List.{filter}
use Rattle.std.proofs.Common.{sym, ap, subst, ◌∙◌, arith}
use Rattle.std.proofs.lemmas.Bool.Decides.{nat_tests}
use Rattle.vl_disk.specs.DiskState.{DiskState}
use Rattle.vl_engine_laws.specs.Files.{found_levels}
use Rattle.vl_engine_laws.specs.Held.{Base, IsBase}
use Rattle.vl_engine_laws.specs.Pointed.{IsFramedAmong}
use Rattle.vl_engine_laws.specs.Spared.{at_rest}
use Rattle.vl_engine_laws.specs.laws.SparedSteps.{spares_flushed}
use Rattle.vl_engine_laws.specs.laws.SwitchLaws.{switched_base}
use Rattle.vl_frame.specs.Runs.{item_frame}
use Rattle.vl_engine_model.specs.Levels.{in_front}
use Rattle.vl_engine_model.specs.Rulings.Flush.{covered_by, flushed, flushed_table}
use Rattle.vl_engine_model.specs.Sources.{but_oldest, head, number_or, numbers_of, oldest}
use Rattle.vl_engine_model.specs.Start.{has_frames, is_any, newest_first}
use Rattle.vl_engine_model.specs.Tidy.{sealed}
use Rattle.vl_engine_model.specs.declared.layout.Layout.{Layout}
use Rattle.vl_engine_model.specs.declared.segment.Segment.{Segment}
use Rattle.vl_engine_model.specs.declared.table.Table.{Table}
use Rattle.vl_manifest.specs.Grammar.{edits_grammar}
use Rattle.vl_manifest.specs.Manifest.{state_of}
use Rattle.vl_manifest.specs.States.{first_state, next_state, read_in, state_behind, state_then}
use Rattle.vl_manifest.specs.declared.edit.Edit.{Edit}
use Rattle.vl_manifest.specs.declared.state.ManifestState.{ManifestState}
use Rattle.vl_manifest.specs.laws.FlushLaws.{behind_more}
use Rattle.vl_frame.specs.Begins.{placed}
use Rattle.vl_model.specs.Formats.{manifest_format}
use Rattle.vl_model.specs.Frames.{frame_length}
use Rattle.vl_model.specs.History.{History, last_number}
use Rattle.vl_model.specs.declared.log_frame.LogFrame.{LogFrame}
use Rattle.vl_model.specs.declared.log_frame.LogFrame.TheVariants.{Committed, Relocated}
use Rattle.vl_recover.specs.crash.Held.{GoOn, HoldsLogs, log_as_held}
use Rattle.vl_recover.specs.laws.opening.ContentLaws.{whole_log}
use Rattle.vl_recover.specs.laws.repairing.StageLaws.{err_ok, ok_apart, ok_same}
use Rattle.vl_recover.specs.opening.Opening.{IsAmong, led_into}
use Rattle.vl_recover.specs.opening.Stages.{on_ok}
use Rattle.vl_recover.specs.opening.Walk.{LogDamage, StandingLog, counted, counted_whole, in_log, walked, walked_on}

-- ---- the logs behind the one that is flushed

-- from the first log with frames on, and behind it
abbrev pub from_framed : List Segment → List Segment
from_framed [] = []
from_framed (s ∷ ss) = if has_frames s then s ∷ ss else from_framed ss

abbrev pub past_framed : List Segment → List Segment
past_framed [] = []
past_framed (s ∷ ss) = if has_frames s then ss else past_framed ss

-- the logs that stand from the new head on before the active one
abbrev pub before_then : List Segment → List Segment
before_then ss = from_framed (past_framed ss)

-- the number of the first of these, else the active one's
abbrev pub first_number : List Segment → Segment → ℕ
first_number [] a = a.number
first_number (s ∷ ss) a = s.number

filter_from : (ss : List Segment) → filter has_frames (from_framed ss) ≡ filter has_frames ss
filter_from [] = refl
filter_from (s ∷ ss) = by (filter_from ss) (has_frames s) refl
  where
    by : filter has_frames (from_framed ss) ≡ filter has_frames ss → (b : Bool) → has_frames s ≡ b
        → filter has_frames (if b then s ∷ ss else from_framed ss) ≡ (if b then s ∷ filter has_frames ss else filter has_frames ss)
    by later true at = ap (λ (c : Bool). if c then s ∷ filter has_frames ss else filter has_frames ss) at
    by later false at = later

tail_same : (x y : Segment) (xs ys : List Segment) → x ∷ xs ≡ y ∷ ys → xs ≡ ys
tail_same x y xs ys e = cc

head_same : (x y : Segment) (xs ys : List Segment) → x ∷ xs ≡ y ∷ ys → x ≡ y
head_same x y xs ys e = cc

filter_past : (ss : List Segment) (s : Segment) (rest : List Segment) → filter has_frames ss ≡ s ∷ rest
    → filter has_frames (past_framed ss) ≡ rest
filter_past [] s rest is = absurd cc
filter_past (x ∷ ss) s rest is = by (filter_past ss s rest) (has_frames x) is
  where
    by : (filter has_frames ss ≡ s ∷ rest → filter has_frames (past_framed ss) ≡ rest)
        → (b : Bool) → (if b then x ∷ filter has_frames ss else filter has_frames ss) ≡ s ∷ rest
        → filter has_frames (if b then ss else past_framed ss) ≡ rest
    by later true one = tail_same x s (filter has_frames ss) rest one
    by later false one = later one

first_from : (ss : List Segment) (a : Segment) → first_number (from_framed ss) a ≡ first_number (filter has_frames ss) a
first_from [] a = refl
first_from (s ∷ ss) a = by (first_from ss a) (has_frames s)
  where
    by : first_number (from_framed ss) a ≡ first_number (filter has_frames ss) a
        → (b : Bool) → first_number (if b then s ∷ ss else from_framed ss) a
        ≡ first_number (if b then s ∷ filter has_frames ss else filter has_frames ss) a
    by later true = refl
    by later false = later

-- ---- the one that waits longest

oldest_last : (xs : List Segment) (s : Segment) → oldest (xs ++ s ∷ []) ≡ Some s
oldest_last [] s = refl
oldest_last (x ∷ []) s = refl
oldest_last (x ∷ y ∷ ys) s = oldest_last (y ∷ ys) s

but_oldest_last : (xs : List Segment) (s : Segment) → but_oldest (xs ++ s ∷ []) ≡ xs
but_oldest_last [] s = refl
but_oldest_last (x ∷ []) s = refl
but_oldest_last (x ∷ y ∷ ys) s = ap (λ (zs : List Segment). x ∷ zs) (but_oldest_last (y ∷ ys) s)

first_newest : (ss : List Segment) (a : Segment) → number_or a (oldest (newest_first ss)) ≡ first_number ss a
first_newest [] a = refl
first_newest (s ∷ ss) a = ap (number_or a) (oldest_last (newest_first ss) s)

-- it is the first of those with frames
oldest_is : (framed : List Segment) (s : Segment) → oldest (newest_first framed) ≡ Some s
    → (rest : List Segment) × (framed ≡ s ∷ rest)
oldest_is [] s is = absurd cc
oldest_is (x ∷ xs) s is = (xs, ap (λ (y : Segment). y ∷ xs) (some_same x s (sym (oldest_last (newest_first xs) x) ∙ is)))
  where
    some_same : (a b : Segment) → Some a ≡ Some b → a ≡ b
    some_same a b e = cc

-- ---- what is held

module _ (disk : DiskState) (a : Segment) where
  from_holds : (ss : List Segment) (least : ℕ) → HoldsLogs least (ss ++ a ∷ []) disk
      → HoldsLogs (first_number (from_framed ss) a) (from_framed ss ++ a ∷ []) disk
  from_holds [] least (up, between, readable, have, stands, rest) =
      (omega arith, λ m from less. absurd (omega (arith, from, less)), readable, have, stands, rest)
  from_holds (s ∷ ss) least (up, between, readable, have, stands, rest) = by (from_holds ss (s.number + 1) rest) (has_frames s)
    where
      by : HoldsLogs (first_number (from_framed ss) a) (from_framed ss ++ a ∷ []) disk → (b : Bool)
          → HoldsLogs (first_number (if b then s ∷ ss else from_framed ss) a)
          ((if b then s ∷ ss else from_framed ss) ++ a ∷ []) disk
      by later true = (omega arith, λ m from less. absurd (omega (arith, from, less)), readable, have, stands, rest)
      by later false = later

  past_holds : (ss : List Segment) (least : ℕ) → HoldsLogs least (ss ++ a ∷ []) disk
      → (k : ℕ) × HoldsLogs k (past_framed ss ++ a ∷ []) disk
  past_holds [] least holds = (least, holds)
  past_holds (s ∷ ss) least (up, between, readable, have, stands, rest) = by (past_holds ss (s.number + 1) rest) (has_frames s)
    where
      by : ((k : ℕ) × HoldsLogs k (past_framed ss ++ a ∷ []) disk) → (b : Bool)
          → (k : ℕ) × HoldsLogs k ((if b then ss else past_framed ss) ++ a ∷ []) disk
      by later true = (s.number + 1, rest)
      by later false = later

  -- From the new head on just the logs behind the flushed one are held.
  pub then_holds : (ss : List Segment) (least : ℕ) → HoldsLogs least (ss ++ a ∷ []) disk
      → HoldsLogs (first_number (before_then ss) a) (before_then ss ++ a ∷ []) disk
  then_holds ss least holds =
      let past = past_holds ss least holds in from_holds (past_framed ss) past.0 past.1

-- ---- commits go on

counted_covered : (format : ℕ) (fs : List LogFrame) (n place m : ℕ) → counted format n place fs ≡ Ok m → covered_by fs n ≡ m
counted_covered format [] n place m e = ok_same {E = ℕ} n m e
counted_covered format (Relocated records ∷ fs) n place m e =
    counted_covered format fs n (place + frame_length format (Relocated records)) m e
counted_covered format (Committed number writes ∷ fs) n place m e =
    by (λ k is. counted_covered format fs k (place + frame_length format (Committed number writes)) m is) (number == n + 1) refl e
  where
    by : ((k : ℕ) → counted format k (place + frame_length format (Committed number writes)) fs ≡ Ok m → covered_by fs k ≡ m)
        → (b : Bool) → (number == n + 1) ≡ b
        → on_ok (λ k. counted format k (place + frame_length format (Committed number writes)) fs)
        (if b then Ok number else Err place) ≡ Ok m
        → covered_by fs (max n number) ≡ m
    by rest true at is =
        let same : number ≡ n + 1 = grind (arith, nat_tests, at) in
        let top : max n number ≡ number = omega (arith, same) in
        ap (covered_by fs) top ∙ rest number is
    by rest false at is = absurd (err_ok place m is)

-- the walk over a log and more behind it, taken apart
walk_apart : (x : Segment) (p : StandingLog) (qs : List StandingLog) (n last : ℕ) → walked n (log_as_held x ∷ p ∷ qs) ≡ Ok last
    → (m : ℕ) × (counted x.format n 16 x.frames ≡ Ok m) × (walked m (p ∷ qs) ≡ Ok last)
walk_apart x p qs n last e =
    let (m, is, rest) = ok_apart (λ m. walked_on m p qs) (in_log x.number (counted_whole n (log_as_held x).reading)) last e in
    (m, inside (counted_whole n (log_as_held x).reading) m is (whole_log n (log_as_held x).reading refl), rest)
  where
    inside : (w : Result ℕ ℕ) (m : ℕ) → in_log x.number w ≡ Ok m → w ≡ counted x.format n 16 x.frames
        → counted x.format n 16 x.frames ≡ Ok m
    inside (Ok k) m is same = sym same ∙ ap (λ (j : ℕ). Ok j) (ok_same {E = LogDamage} k m is)
    inside (Err place) m is same = absurd (err_ok (record { log = x.number; place = place }) m is)

-- behind these logs stands another
some_then : (ss : List Segment) (a : Segment)
    → (p : StandingLog) × (qs : List StandingLog) × (map log_as_held (ss ++ a ∷ []) ≡ p ∷ qs)
some_then [] a = (log_as_held a, [], refl)
some_then (s ∷ ss) a = (log_as_held s, map log_as_held (ss ++ a ∷ []), refl)

walk_step : (x : Segment) (ss : List Segment) (a : Segment) (n last : ℕ) → GoOn n (x ∷ ss ++ a ∷ []) last
    → (m : ℕ) × (counted x.format n 16 x.frames ≡ Ok m) × GoOn m (ss ++ a ∷ []) last
walk_step x ss a n last e =
    let (p, qs, is) = some_then ss a in
    let (m, counts, rest) = walk_apart x p qs n last (subst (λ (l : List StandingLog). walked n (log_as_held x ∷ l) ≡ Ok last) is e) in
    (m, counts, subst (λ (l : List StandingLog). walked m l ≡ Ok last) (sym is) rest)

-- a log without frames counts nothing
none_counted : (format : ℕ) (fs : List LogFrame) (n m : ℕ) → is_any fs ≡ false → counted format n 16 fs ≡ Ok m → m ≡ n
none_counted format [] n m none counts = sym (ok_same {E = ℕ} n m counts)
none_counted format (f ∷ fs) n m none counts = absurd (let both : true ≡ false = none in cc)

module _ (a : Segment) (last : ℕ) where
  from_goes : (ss : List Segment) (n : ℕ) → GoOn n (ss ++ a ∷ []) last → GoOn n (from_framed ss ++ a ∷ []) last
  from_goes [] n e = e
  from_goes (s ∷ ss) n e = by (λ m is. from_goes ss m is) (has_frames s) refl
    where
      by : ((m : ℕ) → GoOn m (ss ++ a ∷ []) last → GoOn m (from_framed ss ++ a ∷ []) last) → (b : Bool) → has_frames s ≡ b
          → GoOn n ((if b then s ∷ ss else from_framed ss) ++ a ∷ []) last
      by rest true at = e
      by rest false at =
          let (m, counts, goes) = walk_step s ss a n last e in
          rest n (subst (λ (k : ℕ). GoOn k (ss ++ a ∷ []) last) (none_counted s.format s.frames n m at counts) goes)

  past_goes : (ss : List Segment) (n : ℕ) (s : Segment) (later : List Segment) → filter has_frames ss ≡ s ∷ later
      → GoOn n (ss ++ a ∷ []) last → GoOn (covered_by s.frames n) (past_framed ss ++ a ∷ []) last
  past_goes [] n s later is e = absurd cc
  past_goes (x ∷ ss) n s later is e = by (λ m. past_goes ss m s later) (has_frames x) refl is
    where
      by : ((m : ℕ) → filter has_frames ss ≡ s ∷ later → GoOn m (ss ++ a ∷ []) last
          → GoOn (covered_by s.frames m) (past_framed ss ++ a ∷ []) last)
          → (b : Bool) → has_frames x ≡ b → (if b then x ∷ filter has_frames ss else filter has_frames ss) ≡ s ∷ later
          → GoOn (covered_by s.frames n) ((if b then ss else past_framed ss) ++ a ∷ []) last
      by rest false at one =
          let (m, counts, goes) = walk_step x ss a n last e in
          rest n one (subst (λ (k : ℕ). GoOn k (ss ++ a ∷ []) last) (none_counted x.format x.frames n m at counts) goes)
      by rest true at one =
          let (m, counts, goes) = walk_step x ss a n last e in
          let first : x ≡ s = head_same x s (filter has_frames ss) later one in
          let covers : covered_by s.frames n ≡ m =
          ap (λ (y : Segment). covered_by y.frames n) (sym first) ∙ counted_covered x.format x.frames n 16 m counts in
          subst (λ (k : ℕ). GoOn k (ss ++ a ∷ []) last) (sym covers) goes

-- ---- the manifest

in_format : (r : Result ManifestState ℕ) → read_in manifest_format r ≡ r
in_format (Ok s) = refl
in_format (Err place) = refl

-- What a manifest's frames make is made on by one more.
pub state_more : (number : ℕ) (first : List Edit) (others : List (List Edit)) (f : List Edit) (t u : ManifestState)
    → state_of manifest_format number first others ≡ Ok t → next_state f t ≡ Some u
    → state_of manifest_format number first (others ++ f ∷ []) ≡ Ok u
state_more number first others f t u made one = by (first_state first) made
  where
    next : ℕ
    next = 16 + length (item_frame (edits_grammar manifest_format) number 16 first)

    by : (o : Option ManifestState)
        → read_in manifest_format (state_then 16 (λ (s : ManifestState).
        state_behind s (placed (edits_grammar manifest_format) number next others)) o) ≡ Ok t
        → read_in manifest_format (state_then 16 (λ (s : ManifestState).
        state_behind s (placed (edits_grammar manifest_format) number next (others ++ f ∷ []))) o) ≡ Ok u
    by None is = absurd (err_ok 16 t is)
    by (Some s) is =
        let before = state_behind s (placed (edits_grammar manifest_format) number next others) in
        let after = state_behind s (placed (edits_grammar manifest_format) number next (others ++ f ∷ [])) in
        in_format after ∙ behind_more manifest_format number next s t u others f (sym (in_format before) ∙ is) one

-- ---- the log that waits longest

module _ (b : Base) (l : Layout) (h : History) (s : Segment) (base : IsBase b l h) (waits : oldest l.frozen ≡ Some s) where
  -- It is the first of the logs with frames before the active one.
  pub first_framed : (rest : List Segment) × (filter has_frames b.before ≡ s ∷ rest)
  first_framed = oldest_is (filter has_frames b.before) s (ap oldest (sym base.frozen) ∙ waits)

  pub frozen_then : but_oldest l.frozen ≡ newest_first first_framed.0
  frozen_then = ap but_oldest base.frozen ∙ ap (λ (ss : List Segment). but_oldest (newest_first ss)) first_framed.1
      ∙ but_oldest_last (newest_first first_framed.0) s

  -- The new head is the least log that isn't flushed.
  pub head_then : first_number (before_then b.before) l.active ≡ head (flushed l s)
  head_then = first_from (past_framed b.before) l.active
      ∙ ap (λ (ss : List Segment). first_number ss l.active) (filter_past b.before s first_framed.0 first_framed.1)
      ∙ sym (first_newest first_framed.0 l.active)
      ∙ ap (λ (ss : List Segment). number_or l.active (oldest ss)) (sym frozen_then)

-- ---- the whole

module _ (b : Base) (l : Layout) (h : History) (s : Segment) (f : List Edit) (state : ManifestState) (base : IsBase b l h)
    (waits : oldest l.frozen ≡ Some s) (level : List Table) (deeper : List (List Table)) (are : l.levels ≡ level ∷ deeper)
    (makes : next_state f b.state ≡ Some state)
    (levels : state.levels ≡ (l.next_table ∷ numbers_of level) ∷ map numbers_of deeper)
    (covers : state.covered ≡ covered_by s.frames b.state.covered)
    (kept : state.keep ≡ b.state.keep) (since : state.since ≡ b.state.since) (gone : state.gone ≡ b.state.gone)
    (led : (n : ℕ) → IsAmong (led_into (found_levels (flushed l s).levels)) n → IsFramedAmong (sealed (flushed l s)) n) where
  abbrev pub flushed_base : Base
  flushed_base = switched_base b f state (before_then b.before)

  -- those with frames of the logs before the active one are s, and these
  abbrev waiting : (rest : List Segment) × (filter has_frames b.before ≡ s ∷ rest)
  waiting = first_framed b l h s base waits

  framed_then : filter has_frames (before_then b.before) ≡ waiting.0
  framed_then = filter_from (past_framed b.before) ∙ filter_past b.before s waiting.0 waiting.1

  pub flush_base : IsBase flushed_base (flushed l s) h
  flush_base = record {
    numbered = base.numbered;
    made = state_more b.manifest.number b.first b.others f b.state state base.made makes;
    levels = levels ∙ sym (ap (λ (ls : List (List Table)). map numbers_of (in_front (flushed_table l s) ls)) are);
    frozen = frozen_then b l h s base waits ∙ ap newest_first (sym framed_then);
    led = led;
    goes = subst (λ (n : ℕ). GoOn n (before_then b.before ++ l.active ∷ []) (last_number h)) (sym covers)
        (from_goes l.active (last_number h) (past_framed b.before) (covered_by s.frames b.state.covered)
        (past_goes l.active (last_number h) b.before b.state.covered s waiting.0 waiting.1 base.goes));
    keep = kept ∙ base.keep;
    since = since ∙ base.since;
    gone = gone ∙ base.gone;
    covered = covers ∙ ap (covered_by s.frames) base.covered;
    format = base.format;
    spared = spares_flushed (at_rest l) h s waits level deeper are base.spared;
  }
