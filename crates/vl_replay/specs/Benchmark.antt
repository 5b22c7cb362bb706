-- A benchmark: generated lines over an empty disk, and the summary of the answers to them.
use Rattle.std.specs.Prelude.{◌≡◌, ◌⊎◌, ℕ, Bool, if◌then◌else◌, List, [], ◌∷◌, length, map}
use Rattle.vl_io.specs.declared.sink.Sink as sink
use Rattle.vl_engine_model.specs.Store.Lines as store
use Rattle.vl_script.specs.Generator.{bench_lines}
use Rattle.vl_script.specs.Summary.{bytes_in, is_commit, live_in, none_counted, plus, summary_text}
use Rattle.vl_script.specs.declared.line.Line.{Line}
use Rattle.vl_script.specs.declared.summary.Summary.{Summary}
use Rattle.vl_script_model.specs.Endings.{no_memory_line, status_of}
use Rattle.vl_script_model.specs.Exchanges.{Exchange, exchanged}
use Rattle.vl_script_model.specs.Sequential.{State, state_after, segment_line}
use Rattle.vl_script_model.specs.Steps.{Finishes}
use Rattle.vl_script_model.specs.Trial.{begun}
use Rattle.vl_script_model.specs.declared.ending.Ending.{Ending}
use Rattle.vl_script_model.specs.declared.ending.Ending.TheVariants.{Complete, NoMemory}

-- the lines with their answers, from a state on
abbrev pub exchanges_of : State → List Line → List Exchange
exchanges_of s [] = []
exchanges_of s (line ∷ lines) = exchanged s line ∷ exchanges_of (state_after s line) lines

-- an answer of the store counts as the same answer of a script does
abbrev pub counted : (commits : Bool) → store.Answer → Summary → Summary
counted commits (store.Number number) s = if commits then record s { commits = plus s.commits 1 } else s
counted commits (store.Rows rows) s = record s { rows = plus s.rows (length rows) }
counted commits (store.Moved count) s = record s { moved = plus s.moved count }
counted commits (store.Segments stats) s = record s {
  bytes = plus s.bytes (bytes_in (map segment_line stats));
  live = plus s.live (live_in (map segment_line stats));
}
counted commits answer s = s

-- the answers to some lines counted, behind a summary of those before
abbrev pub summed : Summary → List Exchange → Summary
summed s [] = s
summed s (e ∷ later) = summed (counted (is_commit e.line) e.answer s) later

-- What the sequential store answers to the lines of a benchmark, on an empty disk, and the summary of that.
abbrev pub bench_exchanges : (seed count : ℕ) → List Exchange
bench_exchanges seed count = exchanges_of begun (bench_lines seed count)

abbrev pub summary_of : (seed count : ℕ) → Summary
summary_of seed count = summed none_counted (bench_exchanges seed count)

-- The summary was printed, and nothing else; or memory ran out, and the line of that was. Either may be cut by the sink.
abbrev pub PrintsSummary : {K : Type 0} → sink.Ghosts K → Summary → (old new : K) → Ending → Type 0
PrintsSummary k summary old new result =
    Finishes k old new (summary_text summary) Complete result ⊎ Finishes k old new no_memory_line NoMemory result

-- A benchmark has the status of its ending.
abbrev pub StatusOfBench : {K : Type 0} → sink.Ghosts K → Summary → (old new : K) → (status : ℕ) → Type 0
StatusOfBench k summary old new status = (ending : Ending) × (status ≡ status_of ending) × PrintsSummary k summary old new ending
