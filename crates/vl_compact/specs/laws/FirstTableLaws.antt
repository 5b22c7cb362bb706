-- Entries are cut into tables one after the other: the first table of some entries, and the tables of the rest.
use Rattle.std.proofs.Common.{◌≡◌, ◌⊎◌, inl, inr, ℕ, ◌+◌, ◌<◌, Bool, true, false, cond, not, ◌&&◌, List, [], ◌∷◌}
use Rattle.std.proofs.Common.{◌++◌, refl, ap, sym, ◌∙◌, subst, arith, append_assoc, append-nil, Some, Option}
use Rattle.std.proofs.lemmas.List.Elements.{filter-append}
use Rattle.std.proofs.lemmas.List.Sums.{sum_by-append, sum_by-cons}
use Rattle.std.specs.Cmp.Lexicographic.{nat_list_cmp_total}
use Rattle.std.specs.List.{AllByRecursion, filter, sum_by}
use Rattle.std.specs.Ordering.{is_eq, is_gt, is_lt, eq_by_cmp}
use Rattle.std.specs.Prelude.{nat_le}
use Rattle.std.specs.declared.cmp.Ordering.{Ordering}
use Rattle.std.specs.declared.cmp.Ordering.TheVariants.{Less, Equal, Greater}
use Rattle.vl_model.specs.Cutting.{around, begun_length, block_frame_length, blocks, blocks_from, entry_length, last_key, max_block_bytes}
use Rattle.vl_engine_model.specs.Tables.{cut_into_tables, full_table_bytes, tables_from}
use Rattle.vl_model.specs.Formats.{table_format}
use Rattle.vl_model.specs.Keys.{key_cmp}
use Rattle.vl_model.specs.declared.entry.Entry.{Entry}
use Rattle.vl_model.specs.laws.WinnerLaws.{key_tied}
use Rattle.vl_model.specs.EntryOrder.{IsInOrder}
use Rattle.vl_model.specs.laws.OrderLaws.{all-append, IsBefore, IsRising, rising}
use Rattle.vl_compact.specs.FirstTable.{closes, first_table, frames_length, table_and_rest}
use Rattle.vl_compact.specs.Walking.{is_behind}
use Rattle.vl_compact.specs.laws.BehindLaws.{behind_later, filter-all, is_less}
use Rattle.vl_compact.specs.laws.Counted.{less_parts}
use Rattle.vl_compact.specs.laws.Repeats.{true_false}

-- ---- frames of a table that grows

abbrev frames : List (List Entry) → ℕ
frames parts = sum_by (block_frame_length table_format) parts

abbrev bytes_of : Entry → ℕ
bytes_of e = entry_length table_format e

-- the blocks of what follows where the last block has these entries and so many bytes
abbrev blocks_on : List Entry → ℕ → List Entry → List (List Entry)
blocks_on open_block bytes es = blocks_from table_format open_block bytes es

-- the blocks with one entry more in the open one, or with that one closed
abbrev blocks_by : Bool → List Entry → ℕ → Entry → List Entry → List (List Entry)
blocks_by room open_block bytes e es =
    cond room (blocks_on (open_block ++ e ∷ []) (bytes + bytes_of e) es)
    (open_block ∷ blocks_on (e ∷ []) (begun_length table_format e) es)

-- what one goes on from: the last block of a table is open, and the frames of the others have so many bytes
abbrev IsOpenAt : List Entry → ℕ → ℕ → Type 0
IsOpenAt table closed open_bytes =
    (open_block : List Entry)
    × (open_bytes ≡ 4 + sum_by (entry_length table_format) open_block)
    × ((es : List Entry) → frames (blocks table_format (table ++ es)) ≡ closed + frames (blocks_on open_block open_bytes es))

begun : (e : Entry) → IsOpenAt (e ∷ []) 0 (begun_length table_format e)
begun e = (
  e ∷ [],
  omega (arith, sum_by-cons (entry_length table_format) e []),
  λ es. plain (frames (blocks_on (e ∷ []) (begun_length table_format e) es)),
)
  where
    plain : (m : ℕ) → m ≡ 0 + m
    plain m = omega arith

module _ (table : List Entry) (closed open_bytes : ℕ) (is : IsOpenAt table closed open_bytes) where
  frames-open : frames_length table ≡ closed + around open_bytes
  frames-open =
      ap (λ l. frames (blocks table_format l)) (sym (append-nil table)) ∙ is.2 []
      ∙ omega (arith, is.1, sum_by-cons (block_frame_length table_format) is.0 [])

  with_one : (e : Entry) (es : List Entry) (b : Bool) → nat_le (open_bytes + bytes_of e) max_block_bytes ≡ b
      → frames (blocks table_format ((table ++ e ∷ []) ++ es)) ≡ closed + frames (blocks_by b is.0 open_bytes e es)
  with_one e es b fits =
      ap (λ l. frames (blocks table_format l)) (append_assoc table (e ∷ []) es) ∙ is.2 (e ∷ es)
      ∙ ap (λ b. closed + frames (blocks_by b is.0 open_bytes e es)) fits

  grown : (e : Entry) → nat_le (open_bytes + bytes_of e) max_block_bytes ≡ true
      → IsOpenAt (table ++ e ∷ []) closed (open_bytes + bytes_of e)
  grown e room = (
    is.0 ++ e ∷ [],
    omega (arith, is.1, sum_by-append (entry_length table_format) is.0 (e ∷ []), sum_by-cons (entry_length table_format) e []),
    λ es. with_one e es true room,
  )

  begun_anew : (e : Entry) → nat_le (open_bytes + bytes_of e) max_block_bytes ≡ false
      → IsOpenAt (table ++ e ∷ []) (closed + around open_bytes) (begun_length table_format e)
  begun_anew e full = (
    e ∷ [],
    omega (arith, sum_by-cons (entry_length table_format) e []),
    λ es. with_one e es false full ∙ shifted (blocks_on (e ∷ []) (begun_length table_format e) es),
  )
    where
      shifted : (rest : List (List Entry)) → closed + frames (is.0 ∷ rest) ≡ closed + around open_bytes + frames rest
      shifted rest = omega (arith, is.1, sum_by-cons (block_frame_length table_format) is.0 rest)

-- ---- cut again and again

-- the first of two, and the tables of the second
abbrev tables_of : List Entry × List Entry → List (List Entry)
tables_of parts = parts.0 ∷ cut_into_tables parts.1

pub last-append : (table : List Entry) (e : Entry) → last_key (table ++ e ∷ []) ≡ e.key
last-append [] e = refl
last-append (f ∷ []) e = refl
last-append (f ∷ g ∷ gs) e = last-append (g ∷ gs) e

from-first : (table : List Entry) (key : List ℕ) (closed open_bytes : ℕ) (es : List Entry) → last_key table ≡ key
    → IsOpenAt table closed open_bytes → tables_from table key closed open_bytes es ≡ tables_of (table_and_rest table es)
from-first table key closed open_bytes [] ends is = refl
from-first table key closed open_bytes (e ∷ es) ends is =
    ap (λ k. cond (not (eq_by_cmp key_cmp k e.key) && nat_le full_table_bytes (closed + around open_bytes)) closing going) (sym ends)
    ∙ ap (λ n. cond (not (eq_by_cmp key_cmp (last_key table) e.key) && nat_le full_table_bytes n) closing going)
    (sym (frames-open table closed open_bytes is))
    ∙ ap (cond (closes table e) closing) (by (nat_le (open_bytes + bytes_of e) max_block_bytes) refl
    (λ o. from-first (table ++ e ∷ []) e.key closed (open_bytes + bytes_of e) es (last-append table e) o)
    (λ o. from-first (table ++ e ∷ []) e.key (closed + around open_bytes) (begun_length table_format e) es (last-append table e) o))
    ∙ parted (closes table e)
  where
    -- it goes on behind the entry from such a place
    goes : ℕ → ℕ → List (List Entry)
    goes closed open_bytes = tables_from (table ++ e ∷ []) e.key closed open_bytes es

    closing : List (List Entry)
    closing = table ∷ tables_from (e ∷ []) e.key 0 (begun_length table_format e) es

    going : List (List Entry)
    going =
        cond (nat_le (open_bytes + bytes_of e) max_block_bytes) (goes closed (open_bytes + bytes_of e))
        (goes (closed + around open_bytes) (begun_length table_format e))

    then : List Entry × List Entry
    then = table_and_rest (table ++ e ∷ []) es

    Goes : ℕ → ℕ → Type 0
    Goes closed open_bytes = IsOpenAt (table ++ e ∷ []) closed open_bytes → goes closed open_bytes ≡ tables_of then

    by : (b : Bool) → nat_le (open_bytes + bytes_of e) max_block_bytes ≡ b
        → Goes closed (open_bytes + bytes_of e) → Goes (closed + around open_bytes) (begun_length table_format e)
        → cond b (goes closed (open_bytes + bytes_of e)) (goes (closed + around open_bytes) (begun_length table_format e))
        ≡ tables_of then
    by true room more anew = more (grown table closed open_bytes is e room)
    by false full more anew = anew (begun_anew table closed open_bytes is e full)

    parted : (b : Bool) → cond b closing (tables_of then) ≡ tables_of (cond b (table, e ∷ es) then)
    parted true = refl
    parted false = refl

-- entries are cut into their first table and the tables of the rest
pub cut-first : (e : Entry) (es : List Entry)
    → cut_into_tables (e ∷ es) ≡ (first_table (e ∷ es)).0 ∷ cut_into_tables (first_table (e ∷ es)).1
cut-first e es = from-first (e ∷ []) e.key 0 (begun_length table_format e) es refl (begun e)

-- ---- all entries of a key go into one table

abbrev both : List Entry × List Entry → List Entry
both parts = parts.0 ++ parts.1

rest-whole : (table es : List Entry) → both (table_and_rest table es) ≡ table ++ es
rest-whole table [] = refl
rest-whole table (e ∷ es) = by (closes table e) (rest-whole (table ++ e ∷ []) es)
  where
    by : (b : Bool) → both (table_and_rest (table ++ e ∷ []) es) ≡ (table ++ e ∷ []) ++ es
        → both (cond b (table, e ∷ es) (table_and_rest (table ++ e ∷ []) es)) ≡ table ++ e ∷ es
    by true later = refl
    by false later = later ∙ append_assoc table (e ∷ []) es

-- the first table and the rest are all of them
pub first_table-whole : (es : List Entry) → (first_table es).0 ++ (first_table es).1 ≡ es
first_table-whole [] = refl
first_table-whole (e ∷ es) = rest-whole (e ∷ []) es

-- all of one side aren't behind the key, all of the other are
abbrev pub IsParted : List Entry × List Entry → Type 0
IsParted parts =
    AllByRecursion (λ (e : Entry). is_behind (Some (last_key parts.0)) e ≡ false) parts.0
    × AllByRecursion (λ (e : Entry). is_behind (Some (last_key parts.0)) e ≡ true) parts.1

not_after_last : (key q : List ℕ) → is_gt (key_cmp key q) ≡ false → eq_by_cmp key_cmp key q ≡ false → is_lt (key_cmp key q) ≡ true
not_after_last key q up other = by (key_cmp key q) up other
  where
    by : (r : Ordering) → is_gt r ≡ false → is_eq r ≡ false → is_lt r ≡ true
    by Less up other = refl
    by Equal up other = absurd (true_false other)
    by Greater up other = absurd (true_false up)

-- what isn't above a key isn't above one that isn't below that key
still_short : (key next q : List ℕ) → is_gt (key_cmp key next) ≡ false → is_lt (key_cmp key q) ≡ false → is_lt (key_cmp next q) ≡ false
still_short key next q up short = by (is_lt (key_cmp next q)) refl
  where
    then : (r : Ordering) → key_cmp key next ≡ r → is_gt r ≡ false → key_cmp next q ≡ Less → is_lt (key_cmp key q) ≡ true
    then Less is up below = ap is_lt (nat_list_cmp_total.trans key next q is below)
    then Equal is up below = ap is_lt (nat_list_cmp_total.congr key next q is ∙ below)
    then Greater is up below = absurd (true_false up)

    by : (b : Bool) → is_lt (key_cmp next q) ≡ b → b ≡ false
    by true is = absurd (true_false (sym (then (key_cmp key next) refl up (is_less (key_cmp next q) is)) ∙ short))
    by false is = refl

abbrev IsFrom : List ℕ → List Entry → Type 0
IsFrom key es = AllByRecursion (λ (e : Entry). is_gt (key_cmp key e.key) ≡ false) es

abbrev IsShort : List ℕ → List Entry → Type 0
IsShort key es = AllByRecursion (λ (e : Entry). is_behind (Some key) e ≡ false) es

short_all : (key next : List ℕ) (es : List Entry) → is_gt (key_cmp key next) ≡ false → IsShort key es → IsShort next es
short_all key next [] up short = tt
short_all key next (e ∷ es) up short = (still_short key next e.key up short.0, short_all key next es up short.1)

itself : (e : Entry) → is_lt (key_cmp e.key e.key) ≡ false
itself e = ap is_lt (key_tied e.key)

from_first : (e : Entry) (es : List Entry) → IsBefore e es → IsFrom e.key es
from_first e [] before = tt
from_first e (f ∷ fs) before = (by (less_parts e f before.0), from_first e fs before.1)
  where
    by : (key_cmp e.key f.key ≡ Less) ⊎ ((e.key ≡ f.key) × (f.version < e.version)) → is_gt (key_cmp e.key f.key) ≡ false
    by (inl lower) = ap is_gt lower
    by (inr same) = ap is_gt (ap (key_cmp e.key) (sym same.0) ∙ key_tied e.key)

-- those that come behind an entry that is behind a key are behind it too
pub all_later : (at : Option (List ℕ)) (e : Entry) (es : List Entry) → IsBefore e es → is_behind at e ≡ true
    → AllByRecursion (λ (f : Entry). is_behind at f ≡ true) es
all_later at e [] before behind = tt
all_later at e (f ∷ fs) before behind =
    (behind_later at e f (ap is_gt before.0) behind, all_later at e fs before.1 behind)

parted_from : (table es : List Entry) → IsShort (last_key table) table → IsFrom (last_key table) es → IsRising es
    → IsParted (table_and_rest table es)
parted_from table [] short from up = (short, tt)
parted_from table (e ∷ es) short from up =
    let short_now : IsShort e.key (table ++ e ∷ []) =
    all-append (λ (f : Entry). is_behind (Some e.key) f ≡ false) table (e ∷ [])
    (short_all (last_key table) e.key table from.0 short) (itself e, tt) in
    by (closes table e) refl (parted_from (table ++ e ∷ []) es
    (subst (λ (k : List ℕ). IsShort k (table ++ e ∷ [])) (sym (last-append table e)) short_now)
    (subst (λ (k : List ℕ). IsFrom k es) (sym (last-append table e)) (from_first e es up.0)) up.1)
  where
    new_key : (b c : Bool) → (not b && c) ≡ true → b ≡ false
    new_key true c is = absurd (true_false (sym is))
    new_key false c is = refl

    by : (b : Bool) → closes table e ≡ b → IsParted (table_and_rest (table ++ e ∷ []) es)
        → IsParted (cond b (table, e ∷ es) (table_and_rest (table ++ e ∷ []) es))
    by true is later =
        let is_new = new_key (eq_by_cmp key_cmp (last_key table) e.key) (nat_le full_table_bytes (frames_length table)) is in
        let behind = not_after_last (last_key table) e.key from.0 is_new in
        (short, (behind, all_later (Some (last_key table)) e es up.0 behind))
    by false is later = later

first-parted : (e : Entry) (es : List Entry) → IsInOrder (e ∷ es) → IsParted (first_table (e ∷ es))
first-parted e es are =
    let up = rising (e ∷ es) are in
    parted_from (e ∷ []) es (itself e, tt) (from_first e es up.0) up.1

pub none-pass : (p : Entry → Bool) (es : List Entry) → AllByRecursion (λ (e : Entry). p e ≡ false) es → filter p es ≡ []
none-pass p [] all = refl
none-pass p (e ∷ es) all = ap (λ b. cond b (e ∷ filter p es) (filter p es)) all.0 ∙ none-pass p es all.1

pub turned_all : (p : Entry → Bool) (b : Bool) (es : List Entry) → AllByRecursion (λ (e : Entry). p e ≡ b) es
    → AllByRecursion (λ (e : Entry). not (p e) ≡ not b) es
turned_all p b [] all = tt
turned_all p b (e ∷ es) all = (ap not all.0, turned_all p b es all.1)

-- the rest is what is behind the last key of the first table
pub rest-behind : (e : Entry) (es : List Entry) → IsInOrder (e ∷ es)
    → (first_table (e ∷ es)).1 ≡ filter (is_behind (Some (last_key (first_table (e ∷ es)).0))) (e ∷ es)
rest-behind e es are =
    let parts : List Entry × List Entry = first_table (e ∷ es) in
    let p : Entry → Bool = is_behind (Some (last_key parts.0)) in
    let parted = first-parted e es are in
    sym (ap (filter p) (sym (first_table-whole (e ∷ es))) ∙ filter-append p parts.0 parts.1
    ∙ ap (λ l. l ++ filter p parts.1) (none-pass p parts.0 parted.0) ∙ filter-all p parts.1 parted.1)

-- and the first table is what isn't
pub table-before : (e : Entry) (es : List Entry) → IsInOrder (e ∷ es)
    → (first_table (e ∷ es)).0 ≡ filter (λ (f : Entry). not (is_behind (Some (last_key (first_table (e ∷ es)).0)) f)) (e ∷ es)
table-before e es are =
    let parts : List Entry × List Entry = first_table (e ∷ es) in
    let p : Entry → Bool = is_behind (Some (last_key parts.0)) in
    let q : Entry → Bool = λ f. not (p f) in
    let parted = first-parted e es are in
    sym (ap (filter q) (sym (first_table-whole (e ∷ es))) ∙ filter-append q parts.0 parts.1
    ∙ ap (λ l. l ++ filter q parts.1) (filter-all q parts.0 (turned_all p false parts.0 parted.0))
    ∙ ap (λ l. parts.0 ++ l) (none-pass q parts.1 (turned_all p true parts.1 parted.1))
    ∙ append-nil parts.0)
