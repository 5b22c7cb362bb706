-- What a pick comes to: why none is begun, and what the pass that is begun goes over.
use Rattle.std.specs.Prelude.{◌≡◌, ◌<◌, ℕ, ◌+◌, Bool, true, false, ◌==◌, ◌||◌, nat_lt, if◌then◌else◌, drop, List, []}
use Rattle.std.specs.Prelude.{◌∷◌, ◌++◌, length, map}
use Rattle.std.specs.Prelude.{Option, None, Some, Result, Ok, Err, IfErr, IfOk, refl}
use Rattle.std.specs.List.{AllByRecursion, filter, sum_by}
use Rattle.vl_collect.specs.Passing.{EndAt}
use Rattle.vl_model.specs.Frames.{frame_length}
use Rattle.vl_seglog.specs.laws.FrameLaws.{length-log_bytes}
use Rattle.std.specs.Option.{ForSome, option_map}
use Rattle.std.proofs.Common.{sym, ap, subst, ◌∙◌, arith}
use Rattle.std.proofs.lemmas.List.{drop_at}
use Rattle.vl_engine_laws.specs.Files.{IsLogFile}
use Rattle.vl_engine_laws.specs.Laid.{HasLayout, HasLog, IsLogOf}
use Rattle.vl_engine_laws.specs.Passing.{AreReadable}
use Rattle.vl_engine_laws.specs.Pointed.{bytes_of_log, layout_logs, segment_at}
use Rattle.vl_engine_laws.specs.Represents.{StandsFor}
use Rattle.vl_engine_laws.specs.declared.kept.Core.{Core}
use Rattle.vl_engine_laws.specs.laws.TableFiles.{looks_told}
use Rattle.vl_space.specs.laws.CollectLaws.{tallies_alike, tallies_made}
use Rattle.vl_steps.specs.laws.Committing.{decides_answered, decides_short}
use Rattle.vl_space.specs.laws.Tallying.{each_there}
use Rattle.vl_space.specs.Collecting.{BeginsOver, BeginsPass, Collects, FitsLooks, IsPicked, IsTallied, LacksLog, Tallies}
use Rattle.vl_space.specs.Collecting.{passed_in, pick_outcome}
use Rattle.vl_space.specs.declared.fails.PickFail.TheVariants as fails
use Rattle.vl_space.specs.declared.fails.PickFail.{PickFail}
use Rattle.vl_space.specs.declared.kept.Collecting.{Collecting}
use Rattle.vl_steps.specs.laws.PlannedJobs.{has_sources}
use Rattle.vl_frame.specs.Runs.{ReadsAs, run_bytes}
use Rattle.vl_frame.specs.laws.RunLaws.{reads_whole}
use Rattle.vl_engine_model.specs.Decides.{Decides, as_before, effects_of, no_effects}
use Rattle.vl_engine_model.specs.Garbage.{best, best_of, better_of, is_better, is_worth, stat_of}
use Rattle.vl_engine_model.specs.Jobs.{AreDistinct}
use Rattle.vl_engine_model.specs.Logs.{records, records_from}
use Rattle.vl_engine_model.specs.Marks.{plain}
use Rattle.vl_engine_model.specs.Merging.{Sourced}
use Rattle.vl_engine_model.specs.Rulings.Plan.{sourced}
use Rattle.vl_engine_model.specs.Relocation as layout
use Rattle.vl_engine_model.specs.Ruling.{Ruling, leaving}
use Rattle.vl_engine_model.specs.Rulings.Pick.{InvalidRequest, NoRewrite, PickAnswer, Picked, Rejected, pass_over, pick_best, pick_ruling}
use Rattle.vl_engine_model.specs.Rulings.Pick.{pick_unless, records_in, with_pass}
use Rattle.vl_engine_model.specs.Sources.{head, tables}
use Rattle.vl_engine_model.specs.Tidy.{IsTidy, log_numbers, sealed}
use Rattle.vl_engine_model_laws.specs.laws.TidyRulings.{pick_tidy}
use Rattle.vl_engine_model.specs.declared.job.OpenPass.{OpenPass}
use Rattle.vl_engine_model.specs.declared.layout.Layout.{Layout}
use Rattle.vl_engine_model.specs.declared.segment.Segment.{Segment}
use Rattle.vl_engine_model.specs.declared.segment.SegmentStat.{SegmentStat}
use Rattle.vl_engine_model.specs.declared.table.Table as laid
use Rattle.vl_engine_model.specs.laws.TableLaws.{plain-sourced}
use Rattle.vl_merge.specs.Marked.{all_of}
use Rattle.vl_model.specs.History.{History}
use Rattle.vl_model.specs.declared.entry.Entry.{Entry}
use Rattle.vl_seglog.specs.Frames.{frames_grammar, log_header}
use Rattle.vl_seglog.specs.declared.sealed.SealedLog.{SealedLog}
use Rattle.vl_collect.specs.declared.pass.Pass.{Pass}
use Rattle.vl_version.specs.Bases as bases
use Rattle.vl_version.specs.Bases.{HasSources}
use Rattle.vl_version.specs.Shared.{IsSameLog}
use Rattle.vl_version.specs.Sources.{log_in}
use Rattle.vl_version.specs.declared.base.Base.{Base}
use Rattle.vl_version.specs.declared.version.Version.{Version}

-- ---- what the ruling is

module _ (l : Layout) (h : History) (percent : ℕ) where
  abbrev IsUnfair : Bool
  IsUnfair = (percent == 0) || nat_lt 99 percent

  pub is_invalid : IsUnfair ≡ true → leaving InvalidRequest h l ≡ pick_ruling l h percent
  is_invalid unfair = sym (ap (λ (b : Bool). if b then leaving InvalidRequest h l else pick_unless l.pass l h percent) unfair)

  fair_is : IsUnfair ≡ false → pick_unless l.pass l h percent ≡ pick_ruling l h percent
  fair_is fair = sym (ap (λ (b : Bool). if b then leaving InvalidRequest h l else pick_unless l.pass l h percent) fair)

  pub is_rejected : IsUnfair ≡ false → (n : ℕ) → Some n ≡ option_map (λ (p : OpenPass). p.segment) l.pass
      → leaving (Rejected n) h l ≡ pick_ruling l h percent
  is_rejected fair n opened = by l.pass opened ∙ fair_is fair
    where
      by : (o : Option OpenPass) → Some n ≡ option_map (λ (p : OpenPass). p.segment) o
          → leaving (Rejected n) h l ≡ pick_unless o l h percent
      by None e = absurd cc
      by (Some p) e = ap (λ (k : ℕ). leaving (Rejected k) h l) (one e)
        where
          one : Some n ≡ Some p.segment → n ≡ p.segment
          one same = cc

  none_passed : None ≡ option_map (λ (p : OpenPass). p.segment) l.pass → l.pass ≡ None
  none_passed none = by l.pass none
    where
      by : (o : Option OpenPass) → None ≡ option_map (λ (p : OpenPass). p.segment) o → o ≡ None
      by None e = refl
      by (Some p) e = absurd cc

  pub is_best : IsUnfair ≡ false → None ≡ option_map (λ (p : OpenPass). p.segment) l.pass
      → pick_best l h (best l percent) ≡ pick_ruling l h percent
  is_best fair none = sym (ap (λ (o : Option OpenPass). pick_unless o l h percent) (none_passed none)) ∙ fair_is fair

-- ---- the segment that is picked

-- What is so of each of some is so of the best.
best_all : (P : SegmentStat → Type 0) (xs : List SegmentStat) → AllByRecursion P xs → (x : SegmentStat) → best_of xs ≡ Some x → P x
best_all P [] all x is = absurd cc
best_all P (y ∷ ys) all x is = by (best_of ys) refl is (λ z same. best_all P ys all.1 z same)
  where
    one : (a b : SegmentStat) → Some a ≡ Some b → a ≡ b
    one a b e = cc

    chosen : (z : SegmentStat) (b : Bool) → P y → P z → (if b then Some y else Some z) ≡ Some x → P x
    chosen z true here there e = subst P (one y x e) here
    chosen z false here there e = subst P (one z x e) there

    by : (o : Option SegmentStat) → best_of ys ≡ o → better_of y o ≡ Some x → ((z : SegmentStat) → best_of ys ≡ Some z → P z) → P x
    by None same e later = subst P (one y x e) all.0
    by (Some z) same e later = chosen z (is_better y z) all.0 (later z same) e

all_filtered : {X : Type 0} (P : X → Type 0) (q : X → Bool) (xs : List X) → AllByRecursion P xs → AllByRecursion P (filter q xs)
all_filtered P q [] all = tt
all_filtered P q (x ∷ xs) all = by (q x) (all_filtered P q xs all.1)
  where
    by : (b : Bool) → AllByRecursion P (filter q xs) → AllByRecursion P (if b then x ∷ filter q xs else filter q xs)
    by true later = (all.0, later)
    by false later = later

-- the log that has this number among those behind head
pub record IsLogAt (l : Layout) (n : ℕ) : Type 0 where
  pub log : Segment
  pub number : log.number ≡ n
  pub flushed : segment_at l.flushed log.number ≡ Some log
  pub at : segment_at (sealed l) log.number ≡ Some log

module _ (l : Layout) (distinct : AreDistinct (log_numbers (sealed l))) where
  abbrev So : Segment → Type 0
  So s = (segment_at l.flushed s.number ≡ Some s) × (segment_at (sealed l) s.number ≡ Some s)

  behind : (xs ys : List Segment) → AreDistinct (log_numbers (xs ++ ys)) → AreDistinct (log_numbers ys)
  behind [] ys all = all
  behind (x ∷ xs) ys all = behind xs ys all.1

  back : (P : Segment → Type 0) (xs ys : List Segment) → AllByRecursion P (xs ++ ys) → AllByRecursion P ys
  back P [] ys all = all
  back P (x ∷ xs) ys all = back P xs ys all.1

  both : (P Q : Segment → Type 0) (xs : List Segment) → AllByRecursion P xs → AllByRecursion Q xs
      → AllByRecursion (λ (s : Segment). P s × Q s) xs
  both P Q [] a b = tt
  both P Q (x ∷ xs) a b = ((a.0, b.0), both P Q xs a.1 b.1)

  all_so : AllByRecursion So l.flushed
  all_so = both (λ (s : Segment). segment_at l.flushed s.number ≡ Some s) (λ (s : Segment). segment_at (sealed l) s.number ≡ Some s)
      l.flushed (each_there l.flushed (behind l.frozen l.flushed distinct))
      (back (λ (s : Segment). segment_at (sealed l) s.number ≡ Some s) l.frozen l.flushed (each_there (sealed l) distinct))

  stats_so : (ts : List laid.Table) (ss : List Segment) → AllByRecursion So ss
      → AllByRecursion (λ (x : SegmentStat). IsLogAt l x.segment) (map (stat_of ts) ss)
  stats_so ts [] all = tt
  stats_so ts (s ∷ ss) all =
      (record { log = s; number = refl; flushed = all.0.0; at = all.0.1 }, stats_so ts ss all.1)

  pub best_at : (percent : ℕ) (x : SegmentStat) → best l percent ≡ Some x → IsLogAt l x.segment
  best_at percent x is =
      best_all (λ (y : SegmentStat). IsLogAt l y.segment)
      (filter (is_worth percent) (map (stat_of (tables l)) (filter (λ (s : Segment). nat_lt s.number (head l)) l.flushed)))
      (all_filtered (λ (y : SegmentStat). IsLogAt l y.segment) (is_worth percent)
      (map (stat_of (tables l)) (filter (λ (s : Segment). nat_lt s.number (head l)) l.flushed))
      (stats_so (tables l) (filter (λ (s : Segment). nat_lt s.number (head l)) l.flushed)
      (all_filtered So (λ (s : Segment). nat_lt s.number (head l)) l.flushed all_so))) x is

records_at : (n : ℕ) (ss : List Segment) (s : Segment) → segment_at ss n ≡ Some s → records_in n ss ≡ records s
records_at n [] s is = absurd cc
records_at n (t ∷ ss) s is = by (t.number == n) is (λ later. records_at n ss s later)
  where
    one : Some t ≡ Some s → t ≡ s
    one e = cc

    by : (b : Bool) → (if b then Some t else segment_at ss n) ≡ Some s → (segment_at ss n ≡ Some s → records_in n ss ≡ records s)
        → (if b then records t else records_in n ss) ≡ records s
    by true e later = ap records (one e)
    by false e later = later e

file_at : (n : ℕ) (ss : List Segment) (s : Segment) → segment_at ss n ≡ Some s → AllByRecursion IsLogFile ss → IsLogFile s
file_at n [] s is all = absurd cc
file_at n (t ∷ ss) s is all = by (t.number == n) is (λ later. file_at n ss s later all.1)
  where
    one : Some t ≡ Some s → t ≡ s
    one e = cc

    by : (b : Bool) → (if b then Some t else segment_at ss n) ≡ Some s → (segment_at ss n ≡ Some s → IsLogFile s) → IsLogFile s
    by true e later = subst IsLogFile (one e) all.0
    by false e later = later e

one_segment : (a b : Segment) → Some a ≡ Some b → a ≡ b
one_segment a b e = cc

-- ---- the pass

module _ {H : Type 0} (bytes : H → Option (List ℕ)) where
  below_in : (n k : ℕ) (logs : List (SealedLog H)) (log : SealedLog H) → log_in logs n ≡ Some log
      → AllByRecursion (λ (x : SealedLog H). x.number < k) logs → log.number < k
  below_in n k [] log is all = absurd cc
  below_in n k (x ∷ xs) log is all = by (x.number == n) is (λ later. below_in n k xs log later all.1)
    where
      one : Some x ≡ Some log → x ≡ log
      one e = cc

      by : (b : Bool) → (if b then Some x else log_in xs n) ≡ Some log → (log_in xs n ≡ Some log → log.number < k) → log.number < k
      by true e later = subst (λ (y : SealedLog H). y.number < k) (one e) all.0
      by false e later = later e

  all_plain : (ss : List Sourced) → all_of ss ≡ plain ss
  all_plain [] = refl
  all_plain (s ∷ ss) = ap (λ (es : List Entry). s.1 ∷ es) (all_plain ss)

  module _ {R : Type 0} (core : Core H) (h : History) (l : Layout) (is : StandsFor bytes core h l) (percent : ℕ) (x : SegmentStat)
      (picked : best l percent ≡ Some x) (pass : Pass (Base H R) H) (begins : BeginsOver bytes core x.segment pass) where
    at : IsLogAt l x.segment
    at = best_at l is.tidy.distinct.1 percent x picked

    has : HasLog bytes core.version.behind.logs.items at.log.number at.log
    has = is.has.logs at.log.number at.log at.at

    found : log_in core.version.behind.logs.items x.segment ≡ Some has.log
    found = subst (λ (n : ℕ). log_in core.version.behind.logs.items n ≡ Some has.log) at.number has.at

    same : IsSameLog bytes has.log pass.log
    same = begins.log is.has.told.rising has.log found

    log_is : IsLogOf bytes pass.log at.log
    log_is = record {
      number = same.number ∙ has.is.number;
      format = same.format ∙ has.is.format;
      told = same.bytes ∙ has.is.told;
    }

    reads_so : AllByRecursion IsLogFile l.flushed
        → ReadsAs (frames_grammar pass.log.format) pass.log.number 16 (drop 16 (bytes_of_log at.log)) at.log.frames
    reads_so files =
        let run = run_bytes (frames_grammar at.log.format) at.log.number 16 at.log.frames in
        let behind_header : drop 16 (bytes_of_log at.log) ≡ run = drop_at (log_header at.log.format at.log.number) run 16 refl in
        subst (λ (f : ℕ). ReadsAs (frames_grammar f) pass.log.number 16 (drop 16 (bytes_of_log at.log)) at.log.frames) (sym log_is.format)
        (subst (λ (n : ℕ). ReadsAs (frames_grammar at.log.format) n 16 (drop 16 (bytes_of_log at.log)) at.log.frames) (sym log_is.number)
        (subst (λ (bs : List ℕ). ReadsAs (frames_grammar at.log.format) at.log.number 16 bs at.log.frames) (sym behind_header)
        (reads_whole (frames_grammar at.log.format) at.log.number 16 at.log.frames
        (file_at at.log.number l.flushed at.log at.flushed files).have)))

    pub is_picked : AreReadable l → IsPicked bytes pass (with_pass x.segment l) (Picked (pass_over l x.segment))
    is_picked files = record {
      of = pass_over l x.segment;
      answer_is = refl;
      goes = begins.goes (pass_over l x.segment) (record {
        segment = begins.number_is;
        entries = record {
          inputs = [];
          marked = sourced l [];
          had = subst (λ (v : Version H). HasSources bytes v [] (sourced l [])) (sym begins.version)
              (has_sources bytes core.version l is.has []);
          are = all_plain (sourced l []) ∙ plain-sourced l [];
        };
        told = bytes_of_log at.log;
        tells = log_is.told;
        frames = at.log.frames;
        reads = reads_so files;
        left = subst (λ (n : ℕ). records_in n l.flushed ≡ records_from pass.log.format 16 at.log.frames) at.number
            (records_at at.log.number l.flushed at.log at.flushed
            ∙ ap (λ (f : ℕ). records_from f 16 at.log.frames) (sym log_is.format));
      });
      whole = λ told tells.
          let end : EndAt pass.log.format pass.log.number (bytes_of_log at.log) 16 (length (bytes_of_log at.log)) = record {
            frames = at.log.frames;
            reads = reads_so files;
            is = length-log_bytes at.log.format at.log.number at.log.frames
                ∙ ap (λ (f : ℕ). 16 + sum_by (frame_length f) at.log.frames) (sym log_is.format);
          } in
          subst (λ (bs : List ℕ). EndAt pass.log.format pass.log.number bs pass.at.place (length bs))
          (same_bytes (bytes_of_log at.log) told (sym log_is.told ∙ tells))
          (subst (λ (n : ℕ). EndAt pass.log.format pass.log.number (bytes_of_log at.log) n (length (bytes_of_log at.log)))
          (sym begins.start) end);
      lasts = record {
        still = λ s there. subst (IsLogOf bytes pass.log) (one s there) log_is;
        below = subst (λ (n : ℕ). n < l.active.number) (sym same.number)
            (below_in x.segment l.active.number core.version.behind.logs.items has.log found is.has.below);
      };
    }
      where
        same_bytes : (a b : List ℕ) → Some a ≡ Some b → a ≡ b
        same_bytes a b e = cc

        one : (s : Segment) → segment_at (sealed l) pass.log.number ≡ Some s → at.log ≡ s
        one s there = one_segment at.log s (sym at.at ∙ ap (segment_at (sealed l)) (sym log_is.number) ∙ there)

-- ---- what a pick came to

module _ (l : Layout) (h : History) (percent : ℕ) (fair : IsUnfair l h percent ≡ false)
    (none : None ≡ option_map (λ (p : OpenPass). p.segment) l.pass) where
  pub is_none : None ≡ option_map (λ (x : SegmentStat). x.segment) (best l percent) → leaving NoRewrite h l ≡ pick_ruling l h percent
  is_none picked = by (best l percent) picked ∙ is_best l h percent fair none
    where
      by : (o : Option SegmentStat) → None ≡ option_map (λ (x : SegmentStat). x.segment) o → leaving NoRewrite h l ≡ pick_best l h o
      by None e = refl
      by (Some x) e = absurd cc

  -- the segment that is picked
  pub record IsBest (n : ℕ) : Type 0 where
    pub stat : SegmentStat
    pub is : best l percent ≡ Some stat
    pub number : n ≡ stat.segment
    pub ruled : leaving (Picked (pass_over l n)) h (with_pass n l) ≡ pick_ruling l h percent

  pub is_some : (n : ℕ) → Some n ≡ option_map (λ (x : SegmentStat). x.segment) (best l percent) → IsBest n
  is_some n picked = by (best l percent) refl picked
    where
      one : (k : ℕ) → Some n ≡ Some k → n ≡ k
      one k e = cc

      by : (o : Option SegmentStat) → best l percent ≡ o → Some n ≡ option_map (λ (x : SegmentStat). x.segment) o → IsBest n
      by None is e = absurd cc
      by (Some x) is e = record {
        stat = x;
        is = is;
        number = one x.segment e;
        ruled = ap (λ (k : ℕ). leaving (Picked (pass_over l k)) h (with_pass k l)) (one x.segment e)
            ∙ sym (ap (pick_best l h) is) ∙ is_best l h percent fair none;
      }

  module _ {H : Type 0} (bytes : H → Option (List ℕ)) (core : Core H) (is : StandsFor bytes core h l) (n : ℕ) (b : IsBest n) where
    pub tidy_then : IsTidy (layout_logs l) (with_pass n l) h
    tidy_then = subst (λ (r : Ruling PickAnswer). IsTidy (layout_logs l) r.layout r.history) (sym b.ruled)
        (pick_tidy (layout_logs l) l h is.tidy percent)

    there : IsLogAt l n
    there = subst (IsLogAt l) (sym b.number) (best_at l is.tidy.distinct.1 percent b.stat b.is)

    had : HasLog bytes core.version.behind.logs.items n there.log
    had = subst (λ (k : ℕ). HasLog bytes core.version.behind.logs.items k there.log) there.number
        (is.has.logs there.log.number there.log there.at)

    -- A pass was begun over it, or memory was wanting.
    pub decides_begun : {P : Type 0} (S : History → Layout → Type 0) (result : Result P PickFail) → IfErr result (LacksLog core n)
        → ((pass : P) → result ≡ Ok pass → S h (with_pass n l)) → ((why : PickFail) → result ≡ Err why → S h l)
        → Decides S h l (pick_ruling l h percent) (as_before l l) (pick_outcome (pick_ruling l h percent).answer result) no_effects
    decides_begun S (Ok pass) lacks done kept =
        decides_answered S h l (pick_ruling l h percent) (as_before l l) (pick_ruling l h percent).answer no_effects refl
        (ap (λ (r : Ruling PickAnswer). effects_of r) b.ruled)
        (subst (λ (r : Ruling PickAnswer). S r.history r.layout) b.ruled (done pass refl))
    decides_begun S (Err fails.InvalidRequest) lacks done kept = absurd lacks
    decides_begun S (Err (fails.Rejected segment)) lacks done kept = absurd lacks
    decides_begun S (Err fails.NoRewrite) lacks done kept =
        absurd (no had.log (sym (lacks is.has.told.rising) ∙ had.at))
      where
        no : (log : SealedLog H) → None ≡ Some log → ⊥
        no log e = cc
    decides_begun S (Err fails.NoMemory) lacks done kept =
        decides_short S h l (pick_ruling l h percent) l (kept fails.NoMemory refl)

    pub picked_pass : {R : Type 0} (result : Result (Pass (Base H R) H) PickFail) → IfOk result (BeginsOver bytes core n) → AreReadable l
        → IfOk result (λ pass. IsPicked bytes pass (pick_ruling l h percent).layout (pick_ruling l h percent).answer)
    picked_pass {R} (Ok pass) begins files =
        subst (λ (r : Ruling PickAnswer). IsPicked bytes pass r.layout r.answer) b.ruled
        (subst (λ (k : ℕ). IsPicked bytes pass (with_pass k l) (Picked (pass_over l k))) (sym b.number)
        (is_picked bytes {R = R} core h l is percent b.stat b.is pass
        (subst (λ (k : ℕ). BeginsOver bytes core k pass) b.number begins) files))
    picked_pass (Err why) begins files = tt

    -- what is kept of where space comes back from
    pub collects_begun : {P : Type 0} (done : Core H) (was now : Collecting) → done ≡ core → IsTallied was.tally l
        → was.passing ≡ passed_in l → AreReadable l → (result : Result P PickFail) → BeginsPass was now n result
        → IfErr result (LacksLog core n)
        → Decides (λ k x. Collects done now x) h l (pick_ruling l h percent) (as_before l l)
        (pick_outcome (pick_ruling l h percent).answer result) no_effects
    collects_begun {P} done was now same tallied passing readable result begins lacks =
        decides_begun (λ k x. Collects done now x) result lacks (λ pass ok. after pass (subst (BeginsPass was now n) ok begins))
        (λ why err. before why (subst (BeginsPass was now n) err begins))
      where
        tallies : (x : Layout) → x.frozen ≡ l.frozen → x.flushed ≡ l.flushed → x.levels ≡ l.levels
            → Tallies done.version.behind.logs.items was.tally x
        tallies x a b c = tallies_alike done.version.behind.logs.items was.tally l x a b c
            (tallies_made done.version.behind.logs.items was.tally l tallied)

        after : (pass : P) → now ≡ record was { passing = Some n } → Collects done now (with_pass n l)
        after pass e = subst (λ (k : Collecting). Collects done k (with_pass n l)) (sym e)
            (record { tally = tallies (with_pass n l) refl refl refl; passing = refl; readable = readable })

        before : (why : PickFail) → now ≡ was → Collects done now l
        before why e = subst (λ (k : Collecting). Collects done k l) (sym e)
            (record { tally = tallies l refl refl refl; passing = passing; readable = readable })

pub pass_fits : {H R : Type 0} (bytes : H → Option (List ℕ)) (core : Core H) (h : History) (l : Layout) → StandsFor bytes core h l
    → (n : ℕ) (result : Result (Pass (Base H R) H) PickFail) → IfOk result (BeginsOver bytes core n) → IfOk result (FitsLooks bytes)
pass_fits {H} {R} bytes core h l is n (Ok pass) begins = λ reader kept.
    subst (λ (v : Version H). bases.Fits bytes v reader) (sym begins.version) (looks_told bytes core h l is reader kept)
pass_fits bytes core h l is n (Err why) begins = tt
