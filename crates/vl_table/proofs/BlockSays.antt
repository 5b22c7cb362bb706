-- The bytes of a block say the entries that it spells.
use Rattle.std.specs.Prelude.{◌≡◌, ◌<◌, ◌≤◌, ℕ, Bool, true, false, List, [], ◌∷◌, ◌++◌, length, take, drop}
use Rattle.std.specs.List.{AllByRecursion}
use Rattle.std.proofs.Common.{cond, refl, ap, sym, ◌∙◌, append_assoc, length-append, arith}
use Rattle.std.proofs.lemmas.Bool.Decides.{nat_tests}
use Rattle.std.proofs.lemmas.List.{drop_at, take_at}
use Rattle.byteorder.specs.Endian.{big_bytes, big_number}
use Rattle.byteorder.specs.Numbers.{big_number-reads_back}
use Rattle.vl_model.specs.Keys.{is_key_length}
use Rattle.vl_model.specs.declared.value.Value.{Value}
use Rattle.vl_model.specs.declared.entry.Body.{Body}
use Rattle.vl_model.specs.declared.entry.Body.TheVariants.{Inline, Gone, Far, Logged}
use Rattle.vl_model.specs.declared.entry.Entry.{Entry}
use Rattle.vl_model.specs.declared.pointer.Pointer.{Pointer}
use Rattle.vl_table.specs.body.Lists.{items_bytes}
use Rattle.vl_table.specs.laws.BlockLaws.{entry_is_some}
use Rattle.vl_table.specs.body.Blocks.{entries, SpellsBlock}
use Rattle.vl_table.specs.body.Entries.{body_bytes, entry_bytes, inline_bytes, pointer_bytes, IsBody, IsEntry, IsInline, IsPointer}
use Rattle.vl_model.specs.Formats.{has_tags}
use Rattle.vl_table.specs.laws.EntryLaws.{entry-parts}
use Rattle.vl_table.specs.declared.body.index.BlockPlace.{BlockPlace}
use Rattle.vl_frame.specs.Frame.{check_of, frame_bytes}
use Rattle.vl_frame.specs.declared.kinds.FrameKind.TheVariants as kinds
use Rattle.vl_table.specs.Kept.{StandsBlock}
use Rattle.vl_table.specs.BlockEntries.{behind_key, block_entries, body_entries, body_in, entries_in, entry_in}
use Rattle.vl_table.specs.BlockEntries.{pointer_in, short_in, value_in}

-- ---- what the bytes say

-- ---- a spelling says what it spells

pointer_in-says : (p : Pointer) (x : List ℕ) → IsPointer p → pointer_in (pointer_bytes p ++ x) ≡ p
unfolding pointer_in
pointer_in-says p x fits =
    let segment = big_number-reads_back 4 p.segment (big_bytes 8 p.place ++ (big_bytes 4 p.length ++ x)) fits.segment in
    let place = big_number-reads_back 8 p.place (big_bytes 4 p.length ++ x) fits.place in
    let size = big_number-reads_back 4 p.length x fits.length in
    λ i. record { segment = segment i; place = place i; length = size i }

value_in-says : (format : ℕ) (value : Value) (x : List ℕ) → IsInline format value
    → value_in (has_tags format) (inline_bytes format value ++ x) ≡ value
unfolding value_in short_in
value_in-says format value x is = by (has_tags format) is.untagged
  where
    short : take (length value.bytes) (value.bytes ++ x) ≡ value.bytes
    short = take_at value.bytes x (length value.bytes) refl

    by : (t : Bool) → (t ≡ false → value.tag ≡ 0)
        → value_in t ((cond t (value.tag ∷ []) [] ++ length value.bytes ∷ value.bytes) ++ x) ≡ value
    by true zero = λ k. record { bytes = short k; tag = value.tag }
    by false zero = λ k. record { bytes = short k; tag = sym (zero refl) k }

body_in-says : (format : ℕ) (body : Body) (x : List ℕ) → IsBody format body → body_in format (body_bytes format body ++ x) ≡ body
unfolding body_in
body_in-says format (Inline value) x fits = ap Inline (value_in-says format value x fits)
body_in-says format Gone x fits = refl
body_in-says format (Far pointer) x fits = ap Far (pointer_in-says pointer x fits)
body_in-says format (Logged value pointer) x fits = absurd fits

key-fits : (n : ℕ) → is_key_length n ≡ true → n < 65536
key-fits n lawful = grind (arith, nat_tests)

pub entry_in-says : (format : ℕ) (e : Entry) (x : List ℕ) → IsEntry format e → entry_in format (entry_bytes format e ++ x) ≡ e
unfolding entry_in behind_key
entry_in-says format e x lawful =
    let rest : List ℕ = big_bytes 8 e.version ++ (body_bytes format e.body ++ x) in
    let parts : entry_bytes format e ++ x ≡ big_bytes 2 (length e.key) ++ (e.key ++ rest) = entry-parts format e x
    ∙ append_assoc (big_bytes 2 (length e.key)) e.key rest in
    let size : big_number 2 (entry_bytes format e ++ x) ≡ length e.key = ap (big_number 2) parts
    ∙ big_number-reads_back 2 (length e.key) (e.key ++ rest) (key-fits (length e.key) lawful.key) in
    let behind : drop 2 (entry_bytes format e ++ x) ≡ e.key ++ rest = ap (drop 2) parts in
    let key : take (big_number 2 (entry_bytes format e ++ x)) (drop 2 (entry_bytes format e ++ x)) ≡ e.key =
    ap (take (big_number 2 (entry_bytes format e ++ x))) behind
    ∙ take_at e.key rest (big_number 2 (entry_bytes format e ++ x)) (sym size) in
    let after : drop (big_number 2 (entry_bytes format e ++ x)) (drop 2 (entry_bytes format e ++ x)) ≡ rest =
    ap (drop (big_number 2 (entry_bytes format e ++ x))) behind
    ∙ drop_at e.key rest (big_number 2 (entry_bytes format e ++ x)) (sym size) in
    let version = ap (big_number 8) after ∙ big_number-reads_back 8 e.version (body_bytes format e.body ++ x) lawful.version in
    let body = ap (λ (l : List ℕ). body_in format (drop 8 l)) after ∙ body_in-says format e.body x lawful.body in
    λ i. record { key = key i; version = version i; body = body i }

entries_in-says : (format : ℕ) (es : List Entry) (x : List ℕ) → AllByRecursion (IsEntry format) es
    → entries_in format (length es) (items_bytes (entries format) es ++ x) ≡ es
unfolding entries_in
entries_in-says format [] x each = refl
entries_in-says format (e ∷ es) x each =
    let rest : List ℕ = items_bytes (entries format) es ++ x in
    let parts : items_bytes (entries format) (e ∷ es) ++ x ≡ entry_bytes format e ++ rest = append_assoc
    (entry_bytes format e) (items_bytes (entries format) es) x in
    let first : entry_in format (items_bytes (entries format) (e ∷ es) ++ x) ≡ e = ap (entry_in format) parts
    ∙ entry_in-says format e rest each.0 in
    let after : drop (length (entry_bytes format (entry_in format (items_bytes (entries format) (e ∷ es) ++ x))))
    (items_bytes (entries format) (e ∷ es) ++ x) ≡ rest =
    ap (λ (f : Entry). drop (length (entry_bytes format f)) (items_bytes (entries format) (e ∷ es) ++ x)) first
    ∙ ap (drop (length (entry_bytes format e))) parts
    ∙ drop_at (entry_bytes format e) rest (length (entry_bytes format e)) refl in
    let others = ap (entries_in format (length es)) after ∙ entries_in-says format es x each.1 in
    λ i. first i ∷ others i

-- of a block's body, and whatever stands behind it, the block's entries
pub body_entries-says : (format : ℕ) (body x : List ℕ) (es : List Entry) → SpellsBlock format body es → body_entries format (body ++ x) ≡ es
unfolding body_entries
body_entries-says format body x es says =
    let rest : List ℕ = items_bytes (entries format) es ++ x in
    let parts : body ++ x ≡ big_bytes 4 (length es) ++ rest = ap (λ (l : List ℕ). l ++ x) says.spelled
    ∙ append_assoc (big_bytes 4 (length es)) (items_bytes (entries format) es) x in
    let count : big_number 4 (body ++ x) ≡ length es = ap (big_number 4) parts ∙ big_number-reads_back 4 (length es) rest says.lawful.few in
    ap (λ (n : ℕ). entries_in format n (drop 4 (body ++ x))) count
    ∙ ap (λ (l : List ℕ). entries_in format (length es) (drop 4 l)) parts ∙ entries_in-says format es x says.lawful.each

-- a frame comes apart
pub framed : (number place : ℕ) (body rest : List ℕ) → frame_bytes number place kinds.Block body ++ rest
    ≡ 3 ∷ big_bytes 4 (length body) ++ ((body ++ check_of number place kinds.Block body) ++ rest)
unfolding frame_bytes
framed number place body rest = refl

-- where a block stands its entries are read
pub block_entries-says : (format number : ℕ) (bytes : List ℕ) (p : BlockPlace) (es : List Entry)
    → StandsBlock format number bytes p.place p.length es
    → block_entries format bytes p ≡ es
unfolding block_entries
block_entries-says format number bytes p es stands =
    let body = stands.body in
    let check = check_of number p.place kinds.Block body in
    let rest = stands.frame.frame.rest in
    ap (λ (l : List ℕ). body_entries format (drop 5 l)) (stands.frame.frame.spelled ∙ framed number p.place body rest)
    ∙ ap (body_entries format) (append_assoc body check rest) ∙ body_entries-says format body (check ++ rest) es stands.says

-- it has fewer entries than its frame has bytes
pub block-few : (format number : ℕ) (bytes : List ℕ) (place size : ℕ) (es : List Entry)
    → StandsBlock format number bytes place size es → length es < size
block-few format number bytes place size es stands =
    omega (
      arith,
      stands.frame.sized,
      ap length stands.says.spelled,
      length-append (big_bytes 4 (length es))
          (items_bytes (entries format) es),
      items-few es,
    )
  where
    items-few : (fs : List Entry) → length fs ≤ length (items_bytes (entries format) fs)
    items-few [] = omega arith
    items-few (f ∷ fs) = omega
        (arith, items-few fs, length-append (entry_bytes format f) (items_bytes (entries format) fs), entry_is_some format f)
