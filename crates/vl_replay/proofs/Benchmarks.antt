-- A benchmark: what its answers count as, its lines, and its disk.
use Rattle.std.proofs.Common.{◌≡◌, ◌≤◌, ◌+◌, ◌==◌, ⊎_elim, ℕ, zero, suc, Bool, true, false, refl, sym, ◌∙◌, ap, subst, arith}
use Rattle.std.proofs.Common.{List, [], ◌∷◌, ◌++◌, length, map, None, Some, Result, Ok, Err}
use Rattle.std.specs.Prelude.{IfErr, IsErrAnd, codes, drop, slice_get, if◌then◌else◌, ◌%◌}
use Rattle.std.specs.List.{AllByRecursion}
use Rattle.std.specs.FinMap.{empty, get-empty}
use Rattle.vl_disk.specs.laws.Counting.{never_counted}
use Rattle.vl_disk.specs.DiskState.{empty_disk}
use Rattle.vl_disk.specs.Faults.{HasCause, NoneCounted, Rose, after_calls, never}
use Rattle.vl_disk.specs.Name.{name_cmp}
use Rattle.vl_disk.specs.Started.{started_empty}
use Rattle.vl_engine.specs.Opening.{AnswersOpening, IsDiskFault, reader_faults, why_of}
use Rattle.vl_io.specs.declared.sink.Sink as sink
use Rattle.vl_engine_model.specs.Store.Lines as store
use Rattle.vl_engine_model.specs.Store.Reading.{rows_told}
use Rattle.vl_mem.specs.SureDisk.{calls_on, faults_on, never_fails, state_on}
use Rattle.vl_mem.specs.contracts.sure_disk.SureDiskWatched.TheImpl as memory
use Rattle.vl_mem.specs.declared.sure_disk.SureDisk.{SureDisk}
use Rattle.vl_model.specs.Keys.{Row}
use Rattle.vl_recover.specs.declared.fails.OpenError.{OpenError}
use Rattle.vl_recover.specs.declared.fails.OpenError.TheVariants as why
use Rattle.vl_recover.specs.declared.fails.OpenFail.{OpenFail}
use Rattle.vl_recover.specs.opening.Answers.{AnswersBy}
use Rattle.vl_recover.specs.opening.Results.{counted as counted_faults, recovery_by}
use Rattle.vl_script.specs.Generator.{batch_lines, bench_lines, is_deletion, key_from, lines_behind, next_number, pass_lines}
use Rattle.vl_script.specs.Generator.{round_lines, upkeep_lines, value_from}
use Rattle.vl_script.specs.Summary.{bytes_in, live_in, plus, summary_text}
use Rattle.vl_script.specs.Summary as script
use Rattle.vl_script.specs.declared.answer.Answer.{Answer}
use Rattle.vl_script.specs.declared.answer.Answer.TheVariants as answers
use Rattle.vl_script.specs.declared.answer.SegmentLine.{SegmentLine}
use Rattle.vl_script.specs.declared.line.Line.{Line}
use Rattle.vl_script.specs.declared.line.Line.TheVariants.{Delete, Flush, Install, Pick, Plan, Rotate, Set, Sweep}
use Rattle.vl_script.specs.declared.summary.Summary.{Summary}
use Rattle.vl_script_model.specs.Asking.{AsksForRow}
use Rattle.vl_script_model.specs.Endings.{no_memory_line}
use Rattle.vl_script_model.specs.Failing.{Beside, ByReader, ByWriter, ReaderFailed, beside}
use Rattle.vl_script_model.specs.Halts.{HaltsByDamage, HaltsByDisk, HaltsByReader}
use Rattle.vl_script_model.specs.Opening.{IsRefused}
use Rattle.vl_script_model.specs.Sequential.{IsPrinted, State, answer_to, as_printed, state_after, stat_of_line, segment_line, without_lengths}
use Rattle.vl_script_model.specs.Start.{StartsIn}
use Rattle.vl_script_model.specs.Steps.{Finishes}
use Rattle.vl_script_model.specs.Trial.{begun}
use Rattle.vl_script_model.specs.declared.ending.Ending.{Ending}
use Rattle.vl_script_model.specs.declared.ending.Ending.TheVariants.{Complete, NoMemory, WriteFault}
use Rattle.vl_script_model.specs.declared.fails.Halt.{Halt}
use Rattle.vl_script_model.specs.declared.fails.Halt.TheVariants as halts
use Rattle.vl_script_model.specs.declared.fails.Refusal.{Refusal}
use Rattle.vl_script_model.specs.declared.fails.Refusal.TheVariants as refusals
use Rattle.vl_script_model.specs.laws.Ends.{or_cut}
use Rattle.vl_script_model.specs.laws.Halting.{by_disk_still, out_not_by_disk}
use Rattle.vl_script_model.specs.laws.StartLaws.{empty_stay, finds_nothing, started_durable, starts_empty}
use Rattle.vl_replay.specs.Benchmark.{PrintsSummary, counted, exchanges_of, summed}
use Rattle.vl_replay.specs.Opened.{disk_behind}
use Rattle.vl_replay.specs.declared.replayer.Replayer.{Replayer}
use Rattle.vl_replay.proofs.Runs.Refusals.{opened_not_refused}

-- ---- what an answer counts as

rows_many : (rows : List Row) → length rows ≡ length (rows_told rows)
rows_many [] = refl
rows_many (row ∷ rows) = ap suc (rows_many rows)

segments_alike : (segments : List SegmentLine) → segments ≡ map segment_line (map stat_of_line segments)
segments_alike [] = refl
segments_alike (s ∷ segments) = ap (λ (rest : List SegmentLine). s ∷ rest) (segments_alike segments)

told_counts : (commits : Bool) (answer : Answer) (s : Summary) → script.counted commits answer s ≡ counted commits (as_printed answer) s
told_counts commits answers.Done s = refl
told_counts commits (answers.Number n) s = refl
told_counts commits (answers.Found value) s = refl
told_counts commits (answers.FoundTagged value) s = refl
told_counts commits answers.NoValue s = refl
told_counts commits (answers.Dropped least) s = refl
told_counts commits (answers.Rows rows) s = ap (λ (n : ℕ). record s { rows = plus s.rows n }) (rows_many rows.items)
told_counts commits (answers.Taken name) s = refl
told_counts commits (answers.Unknown name) s = refl
told_counts commits answers.ReadOnly s = refl
told_counts commits answers.Invalid s = refl
told_counts commits answers.TooBig s = refl
told_counts commits answers.TooMany s = refl
told_counts commits answers.Nothing s = refl
told_counts commits (answers.Conflict key number) s = refl
told_counts commits answers.Full s = refl
told_counts commits answers.Idle s = refl
told_counts commits (answers.Exhausted counter) s = refl
told_counts commits (answers.Raced key) s = refl
told_counts commits (answers.Rejected segment) s = refl
told_counts commits answers.NoRewrite s = refl
told_counts commits (answers.FoundRecords count) s = refl
told_counts commits answers.End s = refl
told_counts commits (answers.Moved count) s = refl
told_counts commits (answers.Removed count) s = refl
told_counts commits (answers.Segments segments) s =
    ap (λ (xs : List SegmentLine). record s { bytes = plus s.bytes (bytes_in xs); live = plus s.live (live_in xs) })
    (segments_alike segments.items)

-- the lengths of a log aren't counted
lengths_uncounted : (commits : Bool) (answer : store.Answer) (s : Summary) → counted commits (without_lengths answer) s ≡ counted commits answer s
lengths_uncounted commits (store.Full length frame) s = refl
lengths_uncounted commits answer s = refl

-- An answer that is told counts as the store's.
pub is_told_counts : (commits : Bool) (told : Answer) (answer : store.Answer) (s : Summary) → IsPrinted told answer
    → script.counted commits told s ≡ counted commits answer s
is_told_counts commits told answer s is =
    told_counts commits told s ∙ ap (λ (a : store.Answer). counted commits a s) is ∙ lengths_uncounted commits answer s

-- ---- each generated line asks for a row

abbrev pub Asks : List Line → Type 0
Asks lines = AllByRecursion AsksForRow lines

both : (one two : List Line) → Asks one → Asks two → Asks (one ++ two)
both [] two asks_one asks_two = asks_two
both (line ∷ one) two asks_one asks_two = (asks_one.0, both one two asks_one.1 asks_two)

chosen : (b : Bool) (one two : List Line) → Asks one → Asks two → Asks (if b then one else two)
chosen true one two asks_one asks_two = asks_one
chosen false one two asks_one asks_two = asks_two

batches_ask : (n : ℕ) → Asks (batch_lines n)
batches_ask zero = (tt, tt)
batches_ask (suc n) = (tt, (tt, batches_ask n))

pass_asks : (round : ℕ) → Asks (pass_lines round)
pass_asks round = chosen (round % 256 == 0) (Pick (codes "g") 30 ∷ batch_lines 8) [] (tt, batches_ask 8) tt

upkeep_asks : (round : ℕ) → Asks (upkeep_lines round)
upkeep_asks round = chosen (round % 64 == 0) (Rotate ∷ Flush ∷ Plan (codes "j") ∷ Install (codes "j") ∷ Sweep ∷ pass_lines round) []
    (tt, (tt, (tt, (tt, (tt, pass_asks round))))) tt

write_asks : (b : Bool) (one two : Line) → AsksForRow one → AsksForRow two → AsksForRow (if b then one else two)
write_asks true one two asks_one asks_two = asks_one
write_asks false one two asks_one asks_two = asks_two

round_asks : (round x : ℕ) → Asks (round_lines round x)
round_asks round x = (
  tt,
  (
    write_asks (is_deletion x) (Delete (codes "t") (key_from x)) (Set (codes "t") (key_from x) (value_from round x)) tt tt,
    (tt, upkeep_asks round),
  ),
)

behind_asks : (left round x : ℕ) → Asks (lines_behind left round x)
behind_asks zero round x = (tt, (omega arith, (tt, (tt, tt))))
behind_asks (suc n) round x =
    both (round_lines (round + 1) (next_number x)) (lines_behind n (round + 1) (next_number x))
    (round_asks (round + 1) (next_number x)) (behind_asks n (round + 1) (next_number x))

pub bench_asks : (seed count : ℕ) → Asks (bench_lines seed count)
bench_asks seed count = behind_asks count 0 seed

-- ---- the opening of an empty disk that never fails

module _ (disk : SureDisk) (is : state_on disk ≡ empty_disk) (none : calls_on disk ≡ 0) where
  pub told : memory.ghosts.told disk ≡ Some empty_disk
  told = ap Some is

  pub starts : StartsIn memory.ghosts disk begun
  starts = subst (λ (n : ℕ). StartsIn memory.ghosts disk (record begun { calls = after_calls 6 n })) none
      (starts_empty memory.ghosts disk empty_disk told (get-empty name_cmp) (get-empty name_cmp)
      (started_durable empty empty_disk started_empty empty_stay).may_open)

  -- no fault is counted
  never_rose : (now : SureDisk) → Rose (faults_on disk) (faults_on now) → ⊥
  never_rose now rose =
      let before = never_fails disk in
      let after = never_fails now in
      omega (arith, rose.more, before, after)

  -- where it isn't opened, memory ran out
  pub only_memory : {Held Reader Writer : Type 0} {watched : _} {held : _} {cloned : _} {read : _} {write : _}
      {R : Type 0} (faults : R → ℕ)
      (r : Result (Replayer SureDisk Held Reader Writer watched held cloned read write) (OpenFail SureDisk R))
      → NoneCounted (reader_faults faults r) → HasCause (faults_on disk) (faults_on (disk_behind r)) (IsDiskFault (reader_faults faults r) (why_of r))
      → AnswersOpening empty (why_of r) → IfErr r (λ fail. fail.why ≡ why.NoMemory)
  only_memory faults (Ok replayer) unread cause answers = tt
  only_memory faults (Err fail) unread cause answers = of fail.why cause answers
    where
      not_refused : (refusal : Refusal) → IsRefused empty refusal → ⊥
      not_refused = opened_not_refused empty finds_nothing refl

      of : (reason : OpenError) → HasCause (faults_on disk) (faults_on fail.disk) (IsDiskFault (counted_faults faults fail.reader) (Some reason))
          → AnswersBy empty (recovery_by reason) → reason ≡ why.NoMemory
      of why.NotAStore by answer = absurd (not_refused refusals.NotAStore answer)
      of (why.NewerFormat format) by answer = absurd (not_refused (refusals.NewerFormat format) answer)
      of (why.Damaged name place) by answer = absurd (not_refused (refusals.Damaged name place) answer)
      of (why.Exhausted counter) by answer = absurd (not_refused (refusals.Exhausted counter) answer)
      of why.NoMemory by answer = refl
      of (why.Disk name) by answer = absurd (never_rose fail.disk (by.rose unread))

-- ---- lines over a disk that never fails

-- no reader of the disk counts a fault, nor does what writes its files beside it
none_failed : {R W : Type 0} → ReaderFailed (beside (λ (reader : R). never) (λ (writer : W). never)) → ⊥
none_failed failed = (of failed.reader).none failed.some
  where
    of : {R W : Type 0} (x : Beside R W) → NoneCounted (beside (λ (reader : R). never) (λ (writer : W). never) x)
    of (ByReader reader) = never_counted
    of (ByWriter writer) = never_counted

-- so a line is given no answer only for want of memory
pub out_of_memory : {T R W : Type 0} (old new : SureDisk) (result : Result T Halt) → (HaltsByDamage result → ⊥)
    → (HaltsByReader result → ReaderFailed (beside (λ (reader : R). never) (λ (writer : W). never)))
    → HasCause (faults_on old) (faults_on new) (HaltsByDisk result) → IfErr result (λ halt. halt ≡ halts.NoMemory)
out_of_memory old new (Ok x) whole read cause = tt
out_of_memory old new (Err halts.NoMemory) whole read cause = refl
out_of_memory old new (Err (halts.Disk name)) whole read cause =
    let rose = cause.rose tt in
    let before = never_fails old in
    let after = never_fails new in
    absurd (omega (arith, rose.more, before, after))
out_of_memory old new (Err (halts.Read name)) whole read cause = absurd (none_failed (read tt))
out_of_memory old new (Err (halts.Halted name)) whole read cause = absurd (none_failed (read tt))
out_of_memory old new (Err (halts.Damaged name place)) whole read cause = absurd (whole tt)

-- ---- a halt that is handed on

err_is : {T : Type 0} (result : Result T Halt) (halt : Halt) → IsErrAnd result (λ other. other ≡ halt) → result ≡ Err halt
err_is (Ok x) halt is = absurd is
err_is (Err h) halt is = ap Err is

-- has the same cause, behind a count that stood
pub handed_on : {T U : Type 0} (before same now : ℕ) (carried : Result U Halt) (result : Result T Halt) (halt : Halt) → carried ≡ Err halt
    → IsErrAnd result (λ other. other ≡ halt) → same ≡ before → HasCause same now (HaltsByDisk carried)
    → HasCause before now (HaltsByDisk result)
handed_on {T} {U} before same now carried result halt was is stood cause =
    subst (λ (n : ℕ). HasCause n now (HaltsByDisk result)) stood (record {
      later = cause.later;
      rose = λ by. cause.rose (by_disk_still carried result halt was is by);
      steady = λ not. cause.steady (λ by. not (by_disk_still result carried halt (err_is result halt is)
          (subst (λ (r : Result U Halt). IsErrAnd r (λ other. other ≡ halt)) (sym was) refl) by));
    })

-- want of memory counts no fault
pub out_steady : {T : Type 0} (before now : ℕ) (result : Result T Halt) → IsErrAnd result (λ halt. halt ≡ halts.NoMemory) → now ≡ before
    → HasCause before now (HaltsByDisk result)
out_steady before now result out same = record {
  later = omega (arith, same);
  rose = λ by. absurd (out_not_by_disk result out by);
  steady = λ not. same;
}

-- ---- how it ends

-- with the summary or the line of want of memory put whole, or with the sink's fault
pub bench_ends : {K : Type 0} (k : sink.Ghosts K) (summary : Summary) (old new : K) (result : Ending) (P : Ending → Type 0)
    → PrintsSummary k summary old new result → P Complete → P NoMemory → P WriteFault → P result
bench_ends k summary old new result P prints whole out cut = ⊎_elim
    (λ (f : Finishes k old new (summary_text summary) Complete result).
    or_cut k old new (summary_text summary) Complete result P f whole cut)
    (λ (f : Finishes k old new no_memory_line NoMemory result). or_cut k old new no_memory_line NoMemory result P f out cut)
    prints

-- ---- the summary, line by line

pub first_of : (lines : List Line) (line : Line) → slice_get lines 0 ≡ Some line → lines ≡ line ∷ drop 1 lines
first_of [] line is = absurd (none_some line is)
  where
    none_some : (x : Line) → None ≡ Some x → ⊥
    none_some x e = cc
first_of (x ∷ lines) line is = ap (λ (y : Line). y ∷ lines) (same x line is)
  where
    same : (a b : Line) → Some a ≡ Some b → a ≡ b
    same a b e = cc

pub none_left : (lines : List Line) → slice_get lines 0 ≡ None → lines ≡ []
none_left [] is = refl
none_left (x ∷ lines) is = absurd (some_none x is)
  where
    some_none : (a : Line) → Some a ≡ None → ⊥
    some_none a e = cc

-- The answer to a line was counted.
pub counts_one : (t : State) (lines rest : List Line) (line : Line) (commits : Bool) (told : Answer) (s new whole : Summary)
    → lines ≡ line ∷ rest → commits ≡ script.is_commit line → IsPrinted told (answer_to t line) → new ≡ script.counted commits told s
    → whole ≡ summed s (exchanges_of t lines) → whole ≡ summed new (exchanges_of (state_after t line) rest)
counts_one t lines rest line commits told s new whole parts same is counts all =
    all ∙ ap (λ (xs : List Line). summed s (exchanges_of t xs)) parts
    ∙ ap (λ (x : Summary). summed x (exchanges_of (state_after t line) rest))
    (sym (counts ∙ ap (λ (b : Bool). script.counted b told s) same ∙ is_told_counts (script.is_commit line) told (answer_to t line) s is))
