-- Which commits a line leaves, and how its answer is told.
use Rattle.std.proofs.Common.{◌≡◌, ◌⊎◌, inl, inr, ℕ, List, [], ◌∷◌, ◌++◌, map, length, suc, refl, ap, sym, ◌∙◌, subst}
use Rattle.std.specs.Prelude.{Option, None, Some, codes}
use Rattle.std.specs.FinMap.{from_sorted}
use Rattle.std.specs.List.{flat_map}
use Rattle.vl_engine_model.specs.Rulings.Drain.{drain_ruling}
use Rattle.vl_engine_model.specs.Rulings.Plan.{plan_ruling}
use Rattle.vl_engine_model.specs.Store.Commits.{Changes, history_in, with_changes}
use Rattle.vl_engine_model.specs.Store.Dispatch.{drop_by}
use Rattle.vl_engine_model.specs.Store.Lines as store
use Rattle.vl_engine_model.specs.Store.Lines.{Name}
use Rattle.vl_engine_model.specs.Store.Reading.{a_transaction, a_view, answer_of, answer_with_tag, rows_told}
use Rattle.vl_engine_model.specs.Store.Things as things
use Rattle.vl_engine_model.specs.Store.Things.{AJob, APass, ATransaction, AView, Thing, thing_of}
use Rattle.vl_model.specs.History.{Extends, History, with_commit}
use Rattle.vl_model.specs.Keys.{Row, tagged, untagged}
use Rattle.vl_model.specs.declared.change.Change.TheVariants.{Set as Put, Delete as Deleted}
use Rattle.vl_script_model.specs.Sequential.{IsPrinted, State, answer_text, answer_to, as_printed, history_of, state_after}
use Rattle.vl_script_model.specs.Sequential.{stat_of_line, step_to, row_line, segment_line, without_lengths}
use Rattle.vl_script_model.specs.laws.Growing.{batch_keeps, begin_keeps, commit_or, get_at_keeps, get_keeps, history_more}
use Rattle.vl_script_model.specs.laws.Growing.{install_commits, move_commits, pick_commits, plan_commits, scan_keeps, write_keeps}
use Rattle.vl_script.specs.Script.{as_line, row_text, rows_text, segments_text, text_of}
use Rattle.vl_script.specs.declared.answer.SegmentLine.{SegmentLine}
use Rattle.std.specs.Fmt.{decimal}
use Rattle.vl_script.specs.declared.answer.Answer.{Answer}
use Rattle.vl_script.specs.declared.answer.Answer.TheVariants as answers
use Rattle.vl_script.specs.declared.line.Line.{Line}
use Rattle.vl_script.specs.declared.line.Line.TheVariants.{Begin, View, Get, Set, SetTagged, GetTagged, GetAt, Scan}
use Rattle.vl_script.specs.declared.line.Line.TheVariants.{Delete, Commit, Drop, Rotate, Flush, Keep, Plan, Drain, Install}
use Rattle.vl_script.specs.declared.line.Line.TheVariants.{Sweep, Stats, Pick, Batch, Move}
use Rattle.vl_script_model.specs.laws.Betweens.{extends_itself}

-- ---- commits

-- it keeps the commits, or adds one and is answered by a number
abbrev KeepsOrAdds : State → Line → Type 0
KeepsOrAdds s line = ((step_to s line).state.commits ≡ s.store.commits)
    ⊎ ((changes : Changes) × (n : ℕ) × ((step_to s line).state.commits ≡ with_changes s.store.commits changes)
    × (answer_to s line ≡ store.Number n))

drop_commits : (s : things.State) (name : Name) (o : Option Thing) → (drop_by s name o).state.commits ≡ s.commits
drop_commits s name None = refl
drop_commits s name (Some (ATransaction t b)) = refl
drop_commits s name (Some (AView v b)) = refl
drop_commits s name (Some (AJob job made)) = refl
drop_commits s name (Some (APass pass batch)) = refl

line_adds : (s : State) (line : Line) → KeepsOrAdds s line
line_adds s (Begin name) = inl (begin_keeps s.store name a_transaction (thing_of s.store name)).commits
line_adds s (View name) = inl (begin_keeps s.store name a_view (thing_of s.store name)).commits
line_adds s (Get name key) = inl (get_keeps s.store name answer_of key (thing_of s.store name)).commits
line_adds s (GetTagged name key) = inl (get_keeps s.store name answer_with_tag key (thing_of s.store name)).commits
line_adds s (GetAt name key number) = inl (get_at_keeps s.store name key number (thing_of s.store name)).commits
line_adds s (Scan name low high limit way) = inl (scan_keeps s.store way name low high limit (thing_of s.store name)).commits
line_adds s (Set name key value) = inl (write_keeps s.store name key (Put (untagged value)) (thing_of s.store name)).commits
line_adds s (SetTagged name key value tag) = inl (write_keeps s.store name key (Put (tagged value tag)) (thing_of s.store name)).commits
line_adds s (Delete name key) = inl (write_keeps s.store name key Deleted (thing_of s.store name)).commits
line_adds s (Drop name) = inl (drop_commits s.store name (thing_of s.store name))
line_adds s Rotate = inl refl
line_adds s Flush = inl refl
line_adds s (Keep versions) = inl refl
line_adds s (Plan name) = inl (plan_commits s.store name (plan_ruling s.store.layout (history_of s)) (thing_of s.store name))
line_adds s (Drain name segment) =
    inl (plan_commits s.store name (drain_ruling s.store.layout (history_of s) segment) (thing_of s.store name))
line_adds s (Install name) = inl (install_commits s.store name (thing_of s.store name))
line_adds s Sweep = inl refl
line_adds s Stats = inl refl
line_adds s (Pick name percent) = inl (pick_commits s.store name percent (thing_of s.store name))
line_adds s (Batch name) = inl (batch_keeps s.store name (thing_of s.store name)).commits
line_adds s (Move name) = inl (move_commits s.store name (thing_of s.store name))
line_adds s (Commit name) = elim (commit_or s.store name (thing_of s.store name)) [
  | inl (keeps, none) ↦ inl keeps.commits
  | inr (t, b, is, adds) ↦ inr (t.writes, _, adds.commits, adds.answer)
]

one_extends : (h k : History) (changes : Changes) → k ≡ with_commit h (from_sorted changes) → Extends h k
one_extends h k changes is =
    subst (Extends h) (sym is) (record { first = refl; base = refl; later = from_sorted changes ∷ []; commits = refl })

-- no line takes a commit away
pub line_extends : (s : State) (line : Line) → Extends (history_of s) (history_of (state_after s line))
line_extends s line = elim (line_adds s line) [
  | inl kept ↦ subst (Extends (history_of s)) (sym (ap history_in kept)) (extends_itself (history_of s))
  | inr (changes, n, is, answered) ↦
      one_extends (history_of s) (history_of (state_after s line)) changes (ap history_in is ∙ history_more s.store.commits changes)
]

-- a line that gives no number makes no commit
pub line_keeps : (s : State) (line : Line) → ((n : ℕ) → answer_to s line ≡ store.Number n → ⊥)
    → history_of (state_after s line) ≡ history_of s
line_keeps s line none = elim (line_adds s line) [
  | inl kept ↦ ap history_in kept
  | inr (changes, n, is, answered) ↦ absurd (none n answered)
]

-- ---- answers

rows_alike : (rows : List Row) → flat_map row_text rows ≡ flat_map row_text (map row_line (rows_told rows))
rows_alike [] = refl
rows_alike (row ∷ rows) = ap (λ (text : List ℕ). row_text row ++ text) (rows_alike rows)

rows_many : (rows : List Row) → length rows ≡ length (map row_line (rows_told rows))
rows_many [] = refl
rows_many (row ∷ rows) = ap suc (rows_many rows)

segments_alike : (segments : List SegmentLine) → segments ≡ map segment_line (map stat_of_line segments)
segments_alike [] = refl
segments_alike (s ∷ segments) = ap (λ (rest : List SegmentLine). s ∷ rest) (segments_alike segments)

-- what is printed of an answer is what is printed of it as the store has it
printed_text : (answer : Answer) → text_of answer ≡ answer_text (as_printed answer)
printed_text answers.Done = refl
printed_text (answers.Number n) = refl
printed_text (answers.Found value) = refl
printed_text (answers.FoundTagged value) = refl
printed_text answers.NoValue = refl
printed_text (answers.Dropped least) = refl
printed_text (answers.Rows rows) = rows_text_alike rows.items
  where
    rows_text_alike : (rows : List Row) → rows_text rows ≡ rows_text (map row_line (rows_told rows))
    rows_text_alike rows = ap (λ (n : ℕ). as_line (codes "rows " ++ decimal n) ++ flat_map row_text rows) (rows_many rows)
        ∙ ap (λ (text : List ℕ). as_line (codes "rows " ++ decimal (length (map row_line (rows_told rows)))) ++ text) (rows_alike rows)
printed_text (answers.Taken name) = refl
printed_text (answers.Unknown name) = refl
printed_text answers.ReadOnly = refl
printed_text answers.Invalid = refl
printed_text answers.TooBig = refl
printed_text answers.TooMany = refl
printed_text answers.Nothing = refl
printed_text (answers.Conflict key number) = refl
printed_text answers.Full = refl
printed_text answers.Idle = refl
printed_text (answers.Exhausted counter) = refl
printed_text (answers.Raced key) = refl
printed_text (answers.Rejected segment) = refl
printed_text answers.NoRewrite = refl
printed_text (answers.FoundRecords count) = refl
printed_text answers.End = refl
printed_text (answers.Moved count) = refl
printed_text (answers.Removed count) = refl
printed_text (answers.Segments segments) = ap segments_text (segments_alike segments.items)

-- the lengths of a log aren't printed
lengths_untold : (answer : store.Answer) → answer_text (without_lengths answer) ≡ answer_text answer
lengths_untold (store.Full length frame) = refl
lengths_untold answer = refl

-- An answer that is told is printed as the store's.
pub is_printed_text : (told : Answer) (answer : store.Answer) → IsPrinted told answer → text_of told ≡ answer_text answer
is_printed_text told answer is = printed_text told ∙ ap answer_text is ∙ lengths_untold answer

-- What is told by a number is a number.
pub printed_number : (told : Answer) (answer : store.Answer) (n : ℕ) → IsPrinted told answer → answer ≡ store.Number n
    → told ≡ answers.Number n
printed_number told answer n is number = of told (is ∙ ap without_lengths number)
  where
    of : (told : Answer) → as_printed told ≡ store.Number n → told ≡ answers.Number n
    of (answers.Number m) e = cc
    of answers.Done e = absurd cc
    of (answers.Found value) e = absurd cc
    of (answers.FoundTagged value) e = absurd cc
    of answers.NoValue e = absurd cc
    of (answers.Dropped least) e = absurd cc
    of (answers.Rows rows) e = absurd cc
    of (answers.Taken name) e = absurd cc
    of (answers.Unknown name) e = absurd cc
    of answers.ReadOnly e = absurd cc
    of answers.Invalid e = absurd cc
    of answers.TooBig e = absurd cc
    of answers.TooMany e = absurd cc
    of answers.Nothing e = absurd cc
    of (answers.Conflict key number) e = absurd cc
    of answers.Full e = absurd cc
    of answers.Idle e = absurd cc
    of (answers.Exhausted counter) e = absurd cc
    of (answers.Raced key) e = absurd cc
    of (answers.Rejected segment) e = absurd cc
    of answers.NoRewrite e = absurd cc
    of (answers.FoundRecords count) e = absurd cc
    of answers.End e = absurd cc
    of (answers.Moved count) e = absurd cc
    of (answers.Removed count) e = absurd cc
    of (answers.Segments segments) e = absurd cc

-- And what is told by `ok` is that.
pub printed_done : (told : Answer) (answer : store.Answer) → IsPrinted told answer → answer ≡ store.Done → told ≡ answers.Done
printed_done told answer is done = of told (is ∙ ap without_lengths done)
  where
    of : (told : Answer) → as_printed told ≡ store.Done → told ≡ answers.Done
    of answers.Done e = refl
    of (answers.Number m) e = absurd cc
    of (answers.Found value) e = absurd cc
    of (answers.FoundTagged value) e = absurd cc
    of answers.NoValue e = absurd cc
    of (answers.Dropped least) e = absurd cc
    of (answers.Rows rows) e = absurd cc
    of (answers.Taken name) e = absurd cc
    of (answers.Unknown name) e = absurd cc
    of answers.ReadOnly e = absurd cc
    of answers.Invalid e = absurd cc
    of answers.TooBig e = absurd cc
    of answers.TooMany e = absurd cc
    of answers.Nothing e = absurd cc
    of (answers.Conflict key number) e = absurd cc
    of answers.Full e = absurd cc
    of answers.Idle e = absurd cc
    of (answers.Exhausted counter) e = absurd cc
    of (answers.Raced key) e = absurd cc
    of (answers.Rejected segment) e = absurd cc
    of answers.NoRewrite e = absurd cc
    of (answers.FoundRecords count) e = absurd cc
    of answers.End e = absurd cc
    of (answers.Moved count) e = absurd cc
    of (answers.Removed count) e = absurd cc
    of (answers.Segments segments) e = absurd cc

-- So it is with how many records were moved.
pub printed_moved : (told : Answer) (answer : store.Answer) (n : ℕ) → IsPrinted told answer → answer ≡ store.Moved n
    → told ≡ answers.Moved n
printed_moved told answer n is moved = of told (is ∙ ap without_lengths moved)
  where
    of : (told : Answer) → as_printed told ≡ store.Moved n → told ≡ answers.Moved n
    of (answers.Moved m) e = cc
    of answers.Done e = absurd cc
    of (answers.Number m) e = absurd cc
    of (answers.Found value) e = absurd cc
    of (answers.FoundTagged value) e = absurd cc
    of answers.NoValue e = absurd cc
    of (answers.Dropped least) e = absurd cc
    of (answers.Rows rows) e = absurd cc
    of (answers.Taken name) e = absurd cc
    of (answers.Unknown name) e = absurd cc
    of answers.ReadOnly e = absurd cc
    of answers.Invalid e = absurd cc
    of answers.TooBig e = absurd cc
    of answers.TooMany e = absurd cc
    of answers.Nothing e = absurd cc
    of (answers.Conflict key number) e = absurd cc
    of answers.Full e = absurd cc
    of answers.Idle e = absurd cc
    of (answers.Exhausted counter) e = absurd cc
    of (answers.Raced key) e = absurd cc
    of (answers.Rejected segment) e = absurd cc
    of answers.NoRewrite e = absurd cc
    of (answers.FoundRecords count) e = absurd cc
    of answers.End e = absurd cc
    of (answers.Removed count) e = absurd cc
    of (answers.Segments segments) e = absurd cc

-- So it is with how many files were removed.
pub printed_removed : (told : Answer) (answer : store.Answer) (n : ℕ) → IsPrinted told answer → answer ≡ store.Removed n
    → told ≡ answers.Removed n
printed_removed told answer n is removed = of told (is ∙ ap without_lengths removed)
  where
    of : (told : Answer) → as_printed told ≡ store.Removed n → told ≡ answers.Removed n
    of (answers.Removed m) e = cc
    of answers.Done e = absurd cc
    of (answers.Number m) e = absurd cc
    of (answers.Found value) e = absurd cc
    of (answers.FoundTagged value) e = absurd cc
    of answers.NoValue e = absurd cc
    of (answers.Dropped least) e = absurd cc
    of (answers.Rows rows) e = absurd cc
    of (answers.Taken name) e = absurd cc
    of (answers.Unknown name) e = absurd cc
    of answers.ReadOnly e = absurd cc
    of answers.Invalid e = absurd cc
    of answers.TooBig e = absurd cc
    of answers.TooMany e = absurd cc
    of answers.Nothing e = absurd cc
    of (answers.Conflict key number) e = absurd cc
    of answers.Full e = absurd cc
    of answers.Idle e = absurd cc
    of (answers.Exhausted counter) e = absurd cc
    of (answers.Raced key) e = absurd cc
    of (answers.Rejected segment) e = absurd cc
    of answers.NoRewrite e = absurd cc
    of (answers.FoundRecords count) e = absurd cc
    of answers.End e = absurd cc
    of (answers.Moved count) e = absurd cc
    of (answers.Segments segments) e = absurd cc
