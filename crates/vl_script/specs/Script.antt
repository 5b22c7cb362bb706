-- The script language: which bytes are a line, and the text of an answer.
use Rattle.std.specs.Prelude.{◌==◌, ◌&&◌, ◌||◌, ℕ, Bool, nat_le, if◌then◌else◌}
use Rattle.std.specs.Prelude.{List, [], ◌∷◌, ◌++◌, length, codes, Option, Some, None, Result, Ok, Err}
use Rattle.std.specs.List.{list_all, flat_map, slice_split, onto_first}
use Rattle.std.specs.Option.{option_map}
use Rattle.std.specs.Str.{bytes_eq}
use Rattle.std.specs.Fmt.{decimal}
use Rattle.hex.specs.Hex.{decode_of, encode_lower}
use Rattle.hex.specs.declared.error.FromHexError.{FromHexError}
use Rattle.vl_model.specs.declared.counter.Counter.{Counter}
use Rattle.vl_model.specs.declared.counter.Counter.TheVariants.{Commit as CommitNumber, Log, Table, Manifest, Version}
use Rattle.vl_model.specs.declared.way.Way.{Way}
use Rattle.vl_model.specs.declared.way.Way.TheVariants.{Up, Down}
use Rattle.vl_model.specs.Keys.{Row}
use Rattle.vl_script.specs.Numbers.{number_of}
use Rattle.vl_script.specs.declared.line.Line.{Line}
use Rattle.vl_script.specs.declared.line.Line.TheVariants.{Begin, View, Get, Set, SetTagged, GetTagged, GetAt, Scan, Delete, Commit, Drop}
use Rattle.vl_script.specs.declared.line.Line.TheVariants.{Rotate, Flush, Keep, Plan, Drain, Install, Sweep, Stats, Pick, Batch, Move}
use Rattle.vl_script.specs.declared.answer.Answer.{Answer}
use Rattle.vl_script.specs.declared.answer.Answer.TheVariants.{Done, Number, Found, FoundTagged, NoValue, Dropped, Rows, Taken, Unknown}
use Rattle.vl_script.specs.declared.answer.Answer.TheVariants.{ReadOnly, Invalid, TooBig, TooMany, Nothing, Conflict}
use Rattle.vl_script.specs.declared.answer.Answer.TheVariants.{Full, Idle, Exhausted, Raced}
use Rattle.vl_script.specs.declared.answer.Answer.TheVariants.{Rejected, NoRewrite, FoundRecords, End, Moved, Removed, Segments}
use Rattle.vl_script.specs.declared.answer.SegmentLine.{SegmentLine}

-- the longest line, in bytes without its end
abbrev pub longest_line : ℕ
longest_line = 17000000

-- the longest name, in bytes
abbrev pub longest_ident : ℕ
longest_ident = 16

-- a line ends with byte 10 or with the input; behind the last byte 10 there is none
abbrev pub lines_of : List ℕ → List (List ℕ)
lines_of [] = []
lines_of (b ∷ bytes) = if b == 10 then [] ∷ lines_of bytes else onto_first b (lines_of bytes)

-- words are separated by one space, so two spaces have an empty word between them
abbrev pub words_of : List ℕ → List (List ℕ)
words_of text = slice_split (λ b. b == 32) text

-- a to z and 0 to 9
abbrev pub is_ident_byte : ℕ → Bool
is_ident_byte b = (nat_le 97 b && nat_le b 122) || (nat_le 48 b && nat_le b 57)

abbrev pub ident_of : List ℕ → Option (List ℕ)
ident_of word =
    if nat_le 1 (length word) && nat_le (length word) longest_ident && list_all is_ident_byte word then Some word else None

abbrev pub decoded : Result (List ℕ) FromHexError → Option (List ℕ)
decoded (Ok bytes) = Some bytes
decoded (Err e) = None

-- a key or a value: pairs of hexadecimal digits of either case, or - for no bytes
abbrev pub bytes_of : List ℕ → Option (List ℕ)
bytes_of [] = None
bytes_of (b ∷ word) = if bytes_eq (b ∷ word) (codes "-") then Some [] else decoded (decode_of (b ∷ word))

infixl 10 ◌>>=◌
abbrev pub ◌>>=◌ : {A B : Type 0} → Option A → (A → Option B) → Option B
None >>= f = None
Some x >>= f = f x

-- no words stand behind rotate, flush, sweep and stats
abbrev pub alone : Line → List (List ℕ) → Option Line
alone line [] = Some line
alone line (word ∷ words) = None

-- the word behind begin, view, commit, drop, plan, install, batch and move
abbrev pub ident_alone : List (List ℕ) → Option (List ℕ)
ident_alone (name ∷ []) = ident_of name
ident_alone words = None

abbrev pub named_key : (name key : List ℕ) → Option (List ℕ × List ℕ)
named_key name key = ident_of name >>= λ t. bytes_of key >>= λ k. Some (t, k)

-- the words behind get, getb and del
abbrev pub ident_and_key : List (List ℕ) → Option (List ℕ × List ℕ)
ident_and_key (name ∷ key ∷ []) = named_key name key
ident_and_key words = None

-- the words behind getat, whose number is any of 64 bits
abbrev pub get_at_of : List (List ℕ) → Option Line
get_at_of (name ∷ key ∷ number ∷ []) =
    number_of 18446744073709551615 number >>= λ n. option_map (λ w. GetAt w.0 w.1 n) (named_key name key)
get_at_of words = None

-- the word behind keep
abbrev pub keep_of : List (List ℕ) → Option Line
keep_of (versions ∷ []) = option_map Keep (number_of 255 versions)
keep_of words = None

-- a name, and a number up to a limit
abbrev pub ident_and_number : (most : ℕ) → List (List ℕ) → Option (List ℕ × ℕ)
ident_and_number most (name ∷ number ∷ []) = number_of most number >>= λ n. option_map (λ t. (t, n)) (ident_of name)
ident_and_number most words = None

-- the words behind pick
abbrev pub pick_of : List (List ℕ) → Option Line
pick_of words = option_map (λ w. Pick w.0 w.1) (ident_and_number 255 words)

-- the words behind drain, with a log's number that may be any of 32 bits
abbrev pub drain_of : List (List ℕ) → Option Line
drain_of words = option_map (λ w. Drain w.0 w.1) (ident_and_number 4294967295 words)

-- a name and two strings of bytes
abbrev pub ident_and_two : (name first second : List ℕ) → Option (List ℕ × List ℕ × List ℕ)
ident_and_two name first second =
    ident_of name >>= λ t. bytes_of first >>= λ a. bytes_of second >>= λ b. Some (t, a, b)

-- the words behind set
abbrev pub set_of : List (List ℕ) → Option Line
set_of (name ∷ key ∷ value ∷ []) = option_map (λ w. Set w.0 w.1 w.2) (ident_and_two name key value)
set_of words = None

-- the same, and a number up to a limit
abbrev pub with_number : (most : ℕ) → List (List ℕ) → Option (List ℕ × List ℕ × List ℕ × ℕ)
with_number most (name ∷ first ∷ second ∷ number ∷ []) =
    number_of most number >>= λ n. option_map (λ w. (w.0, w.1, w.2, n)) (ident_and_two name first second)
with_number most words = None

-- the words behind setb
abbrev pub set_tagged_of : List (List ℕ) → Option Line
set_tagged_of words = option_map (λ w. SetTagged w.0 w.1 w.2 w.3) (with_number 255 words)

-- the words behind scan and rscan, which ask for one row at least
abbrev pub scan_of : Way → List (List ℕ) → Option Line
scan_of way words = with_number 65535 words >>= λ w. if w.3 == 0 then None else Some (Scan w.0 w.1 w.2 w.3 way)

-- a line that keeps the store's files, from its command and the words behind it
abbrev pub upkeep_of : (command : List ℕ) (words : List (List ℕ)) → Option Line
upkeep_of command words =
    if bytes_eq command (codes "rotate") then alone Rotate words
    else (if bytes_eq command (codes "flush") then alone Flush words
    else (if bytes_eq command (codes "keep") then keep_of words
    else (if bytes_eq command (codes "plan") then option_map Plan (ident_alone words)
    else (if bytes_eq command (codes "drain") then drain_of words
    else (if bytes_eq command (codes "install") then option_map Install (ident_alone words)
    else (if bytes_eq command (codes "sweep") then alone Sweep words
    else (if bytes_eq command (codes "stats") then alone Stats words
    else (if bytes_eq command (codes "pick") then pick_of words
    else (if bytes_eq command (codes "batch") then option_map Batch (ident_alone words)
    else (if bytes_eq command (codes "move") then option_map Move (ident_alone words)
    else None))))))))))

abbrev pub line_of_words : List (List ℕ) → Option Line
line_of_words [] = None
line_of_words (command ∷ words) =
    if bytes_eq command (codes "begin") then option_map Begin (ident_alone words)
    else (if bytes_eq command (codes "view") then option_map View (ident_alone words)
    else (if bytes_eq command (codes "get") then option_map (λ p. Get p.0 p.1) (ident_and_key words)
    else (if bytes_eq command (codes "set") then set_of words
    else (if bytes_eq command (codes "setb") then set_tagged_of words
    else (if bytes_eq command (codes "getb") then option_map (λ p. GetTagged p.0 p.1) (ident_and_key words)
    else (if bytes_eq command (codes "getat") then get_at_of words
    else (if bytes_eq command (codes "scan") then scan_of Up words
    else (if bytes_eq command (codes "rscan") then scan_of Down words
    else (if bytes_eq command (codes "del") then option_map (λ p. Delete p.0 p.1) (ident_and_key words)
    else (if bytes_eq command (codes "commit") then option_map Commit (ident_alone words)
    else (if bytes_eq command (codes "drop") then option_map Drop (ident_alone words)
    else upkeep_of command words)))))))))))

-- the line that these bytes are, without the line's end
abbrev pub line_of : List ℕ → Option Line
line_of text = if nat_le (length text) longest_line then line_of_words (words_of text) else None

-- pairs of lower case digits, or - for no bytes
abbrev pub bytes_text : List ℕ → List ℕ
bytes_text [] = codes "-"
bytes_text (b ∷ bytes) = encode_lower (b ∷ bytes)

abbrev pub counter_text : Counter → List ℕ
counter_text CommitNumber = codes "commit"
counter_text Log = codes "log"
counter_text Table = codes "table"
counter_text Manifest = codes "manifest"
counter_text Version = codes "version"

-- each printed line ends with byte 10
abbrev pub as_line : List ℕ → List ℕ
as_line text = text ++ (10 ∷ [])

-- a key and its value, with a space between them
abbrev pub row_text : Row → List ℕ
row_text row = as_line (bytes_text row.0 ++ (32 ∷ []) ++ bytes_text row.1.bytes)

-- how many rows there are, and a line for each
abbrev pub rows_text : List Row → List ℕ
rows_text rows = as_line (codes "rows " ++ decimal (length rows)) ++ flat_map row_text rows

-- a log's number, how long it is, and how much of it is live
abbrev pub segment_text : SegmentLine → List ℕ
segment_text s = as_line
    (codes "segment " ++ decimal s.segment ++ codes " bytes " ++ decimal s.bytes ++ codes " live " ++ decimal s.live)

-- how many logs there are, and a line for each
abbrev pub segments_text : List SegmentLine → List ℕ
segments_text segments = as_line (codes "segments " ++ decimal (length segments)) ++ flat_map segment_text segments

-- what is printed for an answer
abbrev pub text_of : Answer → List ℕ
text_of Done = as_line (codes "ok")
text_of (Number number) = as_line (codes "ok " ++ decimal number)
text_of (Found value) = as_line (codes "value " ++ bytes_text value.bytes)
text_of (FoundTagged value) = as_line (codes "value " ++ bytes_text value.bytes ++ codes " byte " ++ decimal value.tag)
text_of NoValue = as_line (codes "none")
text_of (Dropped low) = as_line (codes "dropped " ++ decimal low)
text_of (Rows rows) = rows_text rows.items
text_of (Taken name) = as_line (codes "taken " ++ name)
text_of (Unknown name) = as_line (codes "unknown " ++ name)
text_of ReadOnly = as_line (codes "readonly")
text_of Invalid = as_line (codes "invalid")
text_of TooBig = as_line (codes "toobig")
text_of TooMany = as_line (codes "toomany")
text_of Nothing = as_line (codes "nothing")
text_of (Conflict key number) = as_line (codes "conflict " ++ bytes_text key ++ (32 ∷ []) ++ decimal number)
text_of Full = as_line (codes "full")
text_of Idle = as_line (codes "idle")
text_of (Raced key) = as_line (codes "raced " ++ bytes_text key)
text_of (Exhausted counter) = as_line (codes "exhausted " ++ counter_text counter)
text_of (Rejected segment) = as_line (codes "rejected " ++ decimal segment)
text_of NoRewrite = as_line (codes "norewrite")
text_of (FoundRecords count) = as_line (codes "found " ++ decimal count)
text_of End = as_line (codes "end")
text_of (Moved count) = as_line (codes "moved " ++ decimal count)
text_of (Removed count) = as_line (codes "removed " ++ decimal count)
text_of (Segments segments) = segments_text segments.items
