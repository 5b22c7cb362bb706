-- Lines that begin, read, write and end a transaction or a view.
use Rattle.std.specs.Prelude.{ℕ, ◌+◌, Bool, ◌&&◌, not, nat_le, if◌then◌else◌, List, [], ◌∷◌, ◌++◌, length, map, Option, Some, None}
use Rattle.std.specs.List.{sum_by}
use Rattle.std.specs.FinMap.{find, put, from_sorted}
use Rattle.vl_model.specs.Formats.{log_format}
use Rattle.vl_model.specs.History.{value_left}
use Rattle.vl_model.specs.Keys.{Stored, Row, key_cmp, value_bytes, is_key_length, is_value_length}
use Rattle.vl_model.specs.Limits.{max_key_bytes, max_transaction_keys, max_transaction_bytes}
use Rattle.vl_model.specs.Reads.{Scan, KeyRead, RangeRead, scanned}
use Rattle.vl_model.specs.declared.change.Change.{Change}
use Rattle.vl_model.specs.declared.way.Way.{Way}
use Rattle.vl_engine_model.specs.AtAnswer as at
use Rattle.vl_engine_model.specs.AtAnswer.{Beginning, AtAnswer, EmptyKey, KeyTooLong, Ahead, Found, beginning_of}
use Rattle.vl_engine_model.specs.Ruling.{Ruling}
use Rattle.vl_engine_model.specs.Rulings.Begin as begin
use Rattle.vl_engine_model.specs.Rulings.Begin.{BeginAnswer, begin_ruling}
use Rattle.vl_engine_model.specs.Rulings.Commit as commit
use Rattle.vl_engine_model.specs.Rulings.Commit.{Transaction, CommitAnswer, commit_unless}
use Rattle.vl_engine_model.specs.Store.Commits.{Changes, history_in, with_changes, value_in, rows_in, at_answer_in, conflict_in}
use Rattle.vl_engine_model.specs.Store.Lines.{Name, Answer, Done, Number, Value, ValueTagged, NoValue, Dropped, Rows, Taken}
use Rattle.vl_engine_model.specs.Store.Lines.{Unknown, ReadOnly, Invalid, TooBig, TooMany, Nothing, Conflict, Full}
use Rattle.vl_engine_model.specs.Store.Lines.{Exhausted, Halted}
use Rattle.vl_engine_model.specs.Store.Things.{Thing, ATransaction, AView, AJob, APass, State, Step, only, with_thing, without_thing}

-- ---- begin and view

abbrev pub begun_by : State → Name → (ℕ → ℕ → Thing) → Ruling BeginAnswer → BeginAnswer → Step
begun_by s name thing r begin.TooMany = only TooMany s
begun_by s name thing r (begin.Begun ticket number) =
    record { answer = Number number; state = with_thing s r.layout name (thing ticket number); calls = r.calls }

abbrev pub a_transaction : Beginning → ℕ → ℕ → Thing
a_transaction b ticket number = ATransaction (record { ticket = ticket; number = number; reads = []; writes = [] }) b

abbrev pub a_view : Beginning → ℕ → ℕ → Thing
a_view b ticket number = AView (record { ticket = ticket; number = number }) b

-- what is made where the name is free
abbrev pub begin_as : State → Name → (Beginning → ℕ → ℕ → Thing) → Option Thing → Step
begin_as s name thing (Some other) = only (Taken name) s
begin_as s name thing None =
    let r = begin_ruling s.layout (history_in s.commits) in
    begun_by s name (thing (beginning_of r.layout (history_in s.commits))) r r.answer

-- ---- reads

-- a value's bytes, and with its tag
abbrev pub answer_of : Option Stored → Answer
answer_of None = NoValue
answer_of (Some value) = Value value.bytes

abbrev pub answer_with_tag : Option Stored → Answer
answer_with_tag None = NoValue
answer_with_tag (Some value) = ValueTagged value

-- noted alike, whatever is told of it
abbrev pub noted : State → Name → (Option Stored → Answer) → Transaction → Beginning → List ℕ → Option Stored → Step
noted s name tell t b key value = record {
  answer = tell value;
  state = with_thing s s.layout name (ATransaction (record t { reads = t.reads ++ KeyRead key value ∷ [] }) b);
  calls = 0;
}

-- a key that the transaction has written has that write's value, and nothing is noted
abbrev pub get_own : State → Name → (Option Stored → Answer) → Transaction → Beginning → List ℕ → Option Change → Step
get_own s name tell t b key (Some change) = only (tell (value_left None (Some change))) s
get_own s name tell t b key None = noted s name tell t b key (value_in s.commits t.number key)

abbrev pub get_by : State → Name → (Option Stored → Answer) → List ℕ → Option Thing → Step
get_by s name tell key None = only (Unknown name) s
get_by s name tell key (Some (AJob job made)) = only (Unknown name) s
get_by s name tell key (Some (APass pass batch)) = only (Unknown name) s
get_by s name tell key (Some (AView v b)) =
    if is_key_length (length key) then only (tell (value_in s.commits v.number key)) s else only Invalid s
get_by s name tell key (Some (ATransaction t b)) =
    if is_key_length (length key) then get_own s name tell t b key (find key_cmp key t.writes) else only Invalid s

abbrev pub told_at : AtAnswer → Answer
told_at EmptyKey = Invalid
told_at KeyTooLong = Invalid
told_at (Ahead number) = Invalid
told_at (at.Dropped least) = Dropped least
told_at (Found value) = answer_of value

-- at an older number
abbrev pub get_old : State → List ℕ → ℕ → ℕ → Beginning → Step
get_old s key n number b = only (told_at (at_answer_in s.commits b number key n)) s

abbrev pub get_at_by : State → Name → List ℕ → ℕ → Option Thing → Step
get_at_by s name key n None = only (Unknown name) s
get_at_by s name key n (Some (AJob job made)) = only (Unknown name) s
get_at_by s name key n (Some (APass pass batch)) = only (Unknown name) s
get_at_by s name key n (Some (AView v b)) = get_old s key n v.number b
get_at_by s name key n (Some (ATransaction t b)) = get_old s key n t.number b

-- ---- scans

abbrev pub scan_of : Way → List ℕ → List ℕ → ℕ → Changes → Scan
scan_of way low high limit own =
    record { low = low; high = high; limit = limit; way = way; own = from_sorted own; rows = [] }

abbrev pub scanned_rows : State → Way → List ℕ → List ℕ → ℕ → Changes → ℕ → List Row
scanned_rows s way low high limit own number = scanned (scan_of way low high limit own) own (rows_in s.commits number)

abbrev pub rows_told : List Row → List (List ℕ × List ℕ)
rows_told rows = map (λ (row : Row). (row.0, row.1.bytes)) rows

abbrev pub noted_scan : State → Name → Transaction → Beginning → Scan → List Row → Step
noted_scan s name t b scan rows = record {
  answer = Rows (rows_told rows);
  state = with_thing s s.layout name (ATransaction (record t { reads = t.reads ++ RangeRead (record scan { rows = rows }) ∷ [] }) b);
  calls = 0;
}

abbrev pub scan_by : State → Way → Name → List ℕ → List ℕ → ℕ → Option Thing → Step
scan_by s way name low high limit None = only (Unknown name) s
scan_by s way name low high limit (Some (AJob job made)) = only (Unknown name) s
scan_by s way name low high limit (Some (APass pass batch)) = only (Unknown name) s
scan_by s way name low high limit (Some (AView v b)) =
    if nat_le (length low) max_key_bytes && nat_le (length high) max_key_bytes
    then only (Rows (rows_told (scanned_rows s way low high limit [] v.number))) s else only Invalid s
scan_by s way name low high limit (Some (ATransaction t b)) =
    if nat_le (length low) max_key_bytes && nat_le (length high) max_key_bytes
    then noted_scan s name t b (scan_of way low high limit t.writes) (scanned_rows s way low high limit t.writes t.number)
    else only Invalid s

-- ---- writes

-- whether one transaction may have these writes
abbrev pub is_small_enough : Changes → Bool
is_small_enough writes =
    nat_le (length writes) max_transaction_keys
    && nat_le (sum_by (λ (write : List ℕ × Change). length write.0 + length (value_bytes write.1)) writes) max_transaction_bytes

abbrev pub write_by : State → Name → List ℕ → Change → Option Thing → Step
write_by s name key change None = only (Unknown name) s
write_by s name key change (Some (AJob job made)) = only (Unknown name) s
write_by s name key change (Some (APass pass batch)) = only (Unknown name) s
write_by s name key change (Some (AView v b)) = only ReadOnly s
write_by s name key change (Some (ATransaction t b)) =
    let writes = put key_cmp key change t.writes in
    if not (is_key_length (length key) && is_value_length log_format (length (value_bytes change))) then only Invalid s
    else (if is_small_enough writes then record
    { answer = Done; state = with_thing s s.layout name (ATransaction (record t { writes = writes }) b); calls = 0 }
    else only TooBig s)

-- ---- commits

-- by what the commit answers: its name is free again where it has ended
abbrev pub committed_by : State → Name → Transaction → Ruling CommitAnswer → CommitAnswer → Step
committed_by s name t r (commit.At n) = record {
  answer = Number n;
  state = record (without_thing s r.layout name) { commits = with_changes s.commits t.writes };
  calls = r.calls;
}
committed_by s name t r commit.Nothing = record { answer = Nothing; state = without_thing s r.layout name; calls = r.calls }
committed_by s name t r (commit.Halted file) = record { answer = Halted file; state = without_thing s r.layout name; calls = r.calls }
committed_by s name t r (commit.Exhausted c) = only (Exhausted c) s
committed_by s name t r (commit.Conflict key n) = record { answer = Conflict key n; state = without_thing s r.layout name; calls = r.calls }
committed_by s name t r (commit.Full length frame) = only (Full length frame) s

-- the ruling on it, by the conflict that the plain lists give
abbrev pub ruled : State → Transaction → Ruling CommitAnswer
ruled s t = commit_unless s.layout.halted s.layout (history_in s.commits) t (conflict_in s.commits t.number t.reads)

abbrev pub commit_by : State → Name → Option Thing → Step
commit_by s name None = only (Unknown name) s
commit_by s name (Some (AJob job made)) = only (Unknown name) s
commit_by s name (Some (APass pass batch)) = only (Unknown name) s
commit_by s name (Some (AView v b)) = only ReadOnly s
commit_by s name (Some (ATransaction t b)) = committed_by s name t (ruled s t) (ruled s t).answer
