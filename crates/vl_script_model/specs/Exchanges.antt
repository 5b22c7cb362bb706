-- A script's lines with their answers, up to the first line that is none of the language.
use Rattle.std.specs.Prelude.{◌≡◌, ◌⊎◌, ◌+◌, ◌≤◌, ℕ, ◌==◌, ◌&&◌, if◌then◌else◌, nat_le, List, [], ◌∷◌, length, count_by, Option, Some, None}
use Rattle.std.specs.List.{flat_map, AllByRecursion}
use Rattle.std.specs.FinMap.{find, from_sorted}
use Rattle.std.specs.Option.{option_map}
use Rattle.vl_engine_model.specs.Store.Commits.{Changes}
use Rattle.vl_engine_model.specs.Store.Lines.{Answer, Invalid, Number, Rows}
use Rattle.vl_engine_model.specs.Store.Reading.{answer_of, answer_with_tag, rows_told, scan_of}
use Rattle.vl_engine_model.specs.Store.Things.{AJob, APass, ATransaction, AView, Thing, thing_of}
use Rattle.vl_engine_model.specs.AtAnswer.{Beginning}
use Rattle.vl_engine_model.specs.Rulings.Commit.{Transaction}
use Rattle.vl_model.specs.Conflicts.{first_conflict}
use Rattle.vl_model.specs.History.{History, contents_at, last_number, value_at, with_commit}
use Rattle.vl_model.specs.Keys.{Stored, is_key_length, key_cmp}
use Rattle.vl_model.specs.Limits.{max_key_bytes}
use Rattle.vl_model.specs.Reads.{IsExplained, rows_of}
use Rattle.vl_model.specs.declared.way.Way.{Way}
use Rattle.vl_script_model.specs.Sequential.{State, answer_text, answer_to, history_of, state_after}
use Rattle.vl_script.specs.Script.{line_of}
use Rattle.vl_script.specs.declared.line.Line.{Line}
use Rattle.vl_script.specs.declared.line.Line.TheVariants.{Begin, View, Get, Set, SetTagged, GetTagged, Scan, Delete}
use Rattle.vl_script.specs.declared.line.Line.TheVariants.{Commit, Drop, Rotate, Flush, Keep, GetAt, Plan, Drain, Install}
use Rattle.vl_script.specs.declared.line.Line.TheVariants.{Sweep, Stats, Pick, Batch, Move}

-- a line with its answer, and the states before and after it
pub record Exchange : Type 0 where
  pub before : State
  pub line : Line
  pub answer : Answer
  pub after : State

-- what the sequential store makes of a line
abbrev pub exchanged : State → Line → Exchange
exchanged s line =
    record { before = s; line = line; answer = answer_to s line; after = state_after s line }

-- and of some text, where it is a line of the language
abbrev pub exchange_at : State → List ℕ → Option Exchange
exchange_at s text = option_map (exchanged s) (line_of text)

-- the state behind a text, which leaves it as it is where it is no line
abbrev pub state_behind : State → Option Exchange → State
state_behind s None = s
state_behind s (Some e) = e.after

-- an exchange, where there is one, and those behind it
abbrev pub and_later : (Exchange → List Exchange) → Option Exchange → List Exchange
and_later later None = []
and_later later (Some e) = e ∷ later e

-- the exchanges from a state on, up to the first bad line
abbrev pub exchanges_from : State → List (List ℕ) → List Exchange
exchanges_from s [] = []
exchanges_from s (text ∷ texts) = and_later (λ e. exchanges_from e.after texts) (exchange_at s text)

-- the state behind these exchanges, the first of which begins in this one
abbrev pub last_state : State → List Exchange → State
last_state s [] = s
last_state s (e ∷ later) = last_state e.after later

-- the text of their answers, each one whole
abbrev pub answers_text : List Exchange → List ℕ
answers_text exchanges = flat_map (λ e. answer_text e.answer) exchanges

-- how many lines end in these bytes
abbrev pub ended_lines : List ℕ → ℕ
ended_lines bytes = count_by (λ b. b == 10) bytes

-- A line's answer is put whole before the next line is read: when the source was last asked for bytes, no more lines had
-- ended in what it had given of these bytes than were answered. Those lines are the ones that ended in these bytes but not
-- in what it then had left.
abbrev pub KeepsUp : List ℕ → Option (List ℕ) → ℕ → Type 0
KeepsUp bytes asked answered =
    (earlier : List ℕ) × (asked ≡ Some earlier)
    × (ended_lines bytes ≤ answered + ended_lines earlier)

-- ---- what explains an answer, and the history behind it

-- what a read of a key is answered by the history at a number, where the key is within its limits
abbrev pub read_at : (Option Stored → Answer) → History → ℕ → List ℕ → Answer
read_at tell h number key = if is_key_length (length key) then tell (value_at h number key) else Invalid

-- and a scan under some writes, where its bounds are
abbrev pub rows_at : History → ℕ → Changes → (low high : List ℕ) → (limit : ℕ) → Way → Answer
rows_at h number own low high limit way =
    if nat_le (length low) max_key_bytes && nat_le (length high) max_key_bytes
    then Rows (rows_told (rows_of (contents_at h number) (scan_of way low high limit own))) else Invalid

-- this reads from the history, at this number: a view, or a transaction that hasn't written the key
abbrev pub ReadsAt : Option Thing → List ℕ → ℕ → Type 0
ReadsAt None key number = ⊥
ReadsAt (Some (AJob job made)) key number = ⊥
ReadsAt (Some (APass pass batch)) key number = ⊥
ReadsAt (Some (AView v b)) key number = number ≡ v.number
ReadsAt (Some (ATransaction t b)) key number = (number ≡ t.number) × (find key_cmp key t.writes ≡ None)

-- this scans it, under these writes
abbrev pub ScansAt : Option Thing → Changes → ℕ → Type 0
ScansAt None own number = ⊥
ScansAt (Some (AJob job made)) own number = ⊥
ScansAt (Some (APass pass batch)) own number = ⊥
ScansAt (Some (AView v b)) own number = (number ≡ v.number) × (own ≡ [])
ScansAt (Some (ATransaction t b)) own number = (number ≡ t.number) × (own ≡ t.writes)

-- a value was told, or that there is none
abbrev pub TellsValue : Answer → Type 0
TellsValue answer = (value : Option Stored) × (answer ≡ answer_of value)

-- the history stays as it was
abbrev pub KeepsHistory : Exchange → Type 0
KeepsHistory e = history_of e.after ≡ history_of e.before

-- no number was told
abbrev pub TellsNoNumber : Answer → Type 0
TellsNoNumber answer = (n : ℕ) → answer ≡ Number n → ⊥

-- A transaction's commit was accepted: just what it wrote, which is something, is the next commit, and that one's number is told.
-- None of its reads was overwritten before, so they are explained by the history at its own number, and at the last one before the
-- commit's.
pub record AddsCommit (t : Transaction) (e : Exchange) : Type 0 where
  pub writes : t.writes ≡ [] → ⊥
  pub added : history_of e.after ≡ with_commit (history_of e.before) (from_sorted t.writes)
  pub told : e.answer ≡ Number (last_number (history_of e.before) + 1)
  pub current : first_conflict (history_of e.before) t.number t.reads ≡ None
  pub began : IsExplained (history_of e.after) t.number t.reads
  pub last : IsExplained (history_of e.after) (last_number (history_of e.before)) t.reads

-- Each line leaves the history as it was, but for a commit that is accepted. What is read is explained by the history at the
-- reader's own number; a value at an older one by the history there, whatever the reader wrote.
abbrev pub IsExplainedExchange : Line → Exchange → Type 0
IsExplainedExchange (Begin name) e = KeepsHistory e
IsExplainedExchange (View name) e = KeepsHistory e
IsExplainedExchange (Get name key) e = KeepsHistory e × ((number : ℕ) → ReadsAt (thing_of e.before.store name) key number
    → e.answer ≡ read_at answer_of (history_of e.before) number key)
IsExplainedExchange (GetTagged name key) e = KeepsHistory e × ((number : ℕ) → ReadsAt (thing_of e.before.store name) key number
    → e.answer ≡ read_at answer_with_tag (history_of e.before) number key)
IsExplainedExchange (Scan name low high limit way) e =
    KeepsHistory e × ((number : ℕ) (own : Changes) → ScansAt (thing_of e.before.store name) own number
    → e.answer ≡ rows_at (history_of e.before) number own low high limit way)
IsExplainedExchange (SetTagged name key value tag) e = KeepsHistory e
IsExplainedExchange (Set name key value) e = KeepsHistory e
IsExplainedExchange (Delete name key) e = KeepsHistory e
IsExplainedExchange (Commit name) e = (KeepsHistory e × TellsNoNumber e.answer)
    ⊎ ((t : Transaction) × (b : Beginning) × (thing_of e.before.store name ≡ Some (ATransaction t b)) × AddsCommit t e)
IsExplainedExchange (Drop name) e = KeepsHistory e
IsExplainedExchange Rotate e = KeepsHistory e
IsExplainedExchange Flush e = KeepsHistory e
IsExplainedExchange (Keep versions) e = KeepsHistory e
IsExplainedExchange (Plan name) e = KeepsHistory e
IsExplainedExchange (Drain name segment) e = KeepsHistory e
IsExplainedExchange (Install name) e = KeepsHistory e
IsExplainedExchange Sweep e = KeepsHistory e
IsExplainedExchange Stats e = KeepsHistory e
IsExplainedExchange (Pick name percent) e = KeepsHistory e
IsExplainedExchange (Batch name) e = KeepsHistory e
IsExplainedExchange (Move name) e = KeepsHistory e
IsExplainedExchange (GetAt name key number) e =
    KeepsHistory e × (TellsValue e.answer → e.answer ≡ answer_of (value_at (history_of e.before) number key))

-- so it is in each of these exchanges
abbrev pub AreExplained : List Exchange → Type 0
AreExplained exchanges = AllByRecursion (λ e. IsExplainedExchange e.line e) exchanges
