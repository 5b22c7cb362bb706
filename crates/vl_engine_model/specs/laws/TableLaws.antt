-- Tables hold the entries of their merge, all and in order; and what a job began with are the
-- sources of its layout.
use Rattle.std.proofs.Common.{◌≡◌, ℕ, ◌+◌, Bool, true, false, not, ◌&&◌, List, [], ◌∷◌, ◌++◌, length, refl, ap, ◌∙◌, append_assoc, arith}
use Rattle.std.specs.Prelude.{nat_le, if◌then◌else◌}
use Rattle.std.specs.List.{flat_map}
use Rattle.std.specs.Ordering.{eq_by_cmp}
use Rattle.vl_model.specs.Formats.{table_format}
use Rattle.vl_model.specs.Keys.{key_cmp}
use Rattle.vl_model.specs.declared.entry.Entry.{Entry}
use Rattle.vl_engine_model.specs.Levels.{is_among}
use Rattle.vl_engine_model.specs.Logs.{memtable}
use Rattle.vl_engine_model.specs.Merging.{Sourced, if_so, inputs_of, outside_of, is_dropped, kept_from, kept}
use Rattle.vl_engine_model.specs.Rulings.Plan.{marked_as, sourced}
use Rattle.vl_engine_model.specs.Sources.{sources, tables, table_entries}
use Rattle.vl_model.specs.Cutting.{joined, max_block_bytes, entry_length, begun_length, around}
use Rattle.vl_engine_model.specs.Jobs.{tables_made}
use Rattle.vl_engine_model.specs.Tables.{full_table_bytes, tables_from, cut_into_tables}
use Rattle.vl_engine_model.specs.declared.job.Job.{Job}
use Rattle.vl_engine_model.specs.declared.layout.Layout.{Layout}
use Rattle.vl_engine_model.specs.declared.table.Table.{Table}
use Rattle.vl_engine_model.specs.Marks.{Marked, marks_from, plain}

one_more : (open_part : List Entry) (e : Entry) (es : List Entry)
    → (open_part ++ e ∷ []) ++ es ≡ open_part ++ e ∷ es
one_more open_part e es = append_assoc open_part (e ∷ []) es

by_test : (P : List Entry) (b : Bool) (x y : List (List Entry)) → joined x ≡ P → joined y ≡ P
    → joined (if b then x else y) ≡ P
by_test P true x y one other = one
by_test P false x y one other = other

-- ---- tables

tables_from-whole : (table : List Entry) (key : List ℕ) (closed open_bytes : ℕ) (es : List Entry)
    → joined (tables_from table key closed open_bytes es) ≡ table ++ es
tables_from-whole table key closed open_bytes [] = refl
tables_from-whole table key closed open_bytes (e ∷ es) =
    let grown : List (List Entry) = tables_from (table ++ e ∷ []) e.key closed (open_bytes + entry_length table_format e) es in
    let next : List (List Entry) = tables_from (table ++ e ∷ []) e.key (closed + around open_bytes) (begun_length table_format e) es in
    by_test (table ++ e ∷ es) (not (eq_by_cmp key_cmp key e.key) && nat_le full_table_bytes (closed + around open_bytes))
    (table ∷ tables_from (e ∷ []) e.key 0 (begun_length table_format e) es)
    (if nat_le (open_bytes + entry_length table_format e) max_block_bytes then grown else next)
    (ap (λ xs. table ++ xs) (tables_from-whole (e ∷ []) e.key 0 (begun_length table_format e) es))
    (by_test (table ++ e ∷ es) (nat_le (open_bytes + entry_length table_format e) max_block_bytes) grown next
    (tables_from-whole (table ++ e ∷ []) e.key closed (open_bytes + entry_length table_format e) es ∙ one_more table e es)
    (tables_from-whole (table ++ e ∷ []) e.key (closed + around open_bytes) (begun_length table_format e) es ∙ one_more table e es))

pub cut-whole : (es : List Entry) → joined (cut_into_tables es) ≡ es
cut-whole [] = refl
cut-whole (e ∷ es) = tables_from-whole (e ∷ []) e.key 0 (begun_length table_format e) es

-- tables of some entries hold these
pub tables_made-entries : (numbers : List ℕ) (ess : List (List Entry)) → length numbers ≡ length ess
    → flat_map table_entries (tables_made numbers ess) ≡ joined ess
tables_made-entries [] [] are = refl
tables_made-entries [] (es ∷ ess) are = absurd (omega arith)
tables_made-entries (n ∷ ns) [] are = absurd (omega arith)
tables_made-entries (n ∷ ns) (es ∷ ess) are = ap (λ xs. es ++ xs) (tables_made-entries ns ess (omega arith))

-- ---- a job's base

plain-append : (ss ts : List Sourced) → plain (ss ++ ts) ≡ plain ss ++ plain ts
plain-append [] ts = refl
plain-append (s ∷ ss) ts = ap (λ xs. s.1 ∷ xs) (plain-append ss ts)

plain-marked : (input : Bool) (es : List Entry) → plain (marked_as input es) ≡ es
plain-marked input [] = refl
plain-marked input (e ∷ es) = ap (λ xs. e ∷ xs) (plain-marked input es)

plain-tables : (inputs : List ℕ) (ts : List Table)
    → plain (flat_map (λ (t : Table). marked_as (is_among inputs t) t.entries) ts) ≡ flat_map table_entries ts
plain-tables inputs [] = refl
plain-tables inputs (t ∷ ts) =
    plain-append (marked_as (is_among inputs t) t.entries) (flat_map (λ (u : Table). marked_as (is_among inputs u) u.entries) ts)
    ∙ ap (λ xs. xs ++ plain (flat_map (λ (u : Table). marked_as (is_among inputs u) u.entries) ts))
    (plain-marked (is_among inputs t) t.entries)
    ∙ ap (λ xs. t.entries ++ xs) (plain-tables inputs ts)

-- what a job begins with are the sources
pub plain-sourced : (l : Layout) (inputs : List ℕ) → plain (sourced l inputs) ≡ sources l
plain-sourced l inputs =
    plain-append (marked_as false (flat_map memtable (l.active ∷ l.frozen)))
    (flat_map (λ (t : Table). marked_as (is_among inputs t) t.entries) (tables l))
    ∙ ap (λ xs. xs ++ plain (flat_map (λ (t : Table). marked_as (is_among inputs t) t.entries) (tables l)))
    (plain-marked false (flat_map memtable (l.active ∷ l.frozen)))
    ∙ ap (λ xs. flat_map memtable (l.active ∷ l.frozen) ++ xs) (plain-tables inputs (tables l))
    ∙ append_assoc (memtable l.active) (flat_map memtable l.frozen) (flat_map table_entries (tables l))

-- ---- what a job keeps

-- the entries of inputs that are kept
abbrev pub kept_inputs : List Marked → List Entry
kept_inputs [] = []
kept_inputs (m ∷ ms) = if_so (m.input && m.kept) m.entry (kept_inputs ms)

both_ways : (i d : Bool) → (i && not (i && d)) ≡ (i && not d)
both_ways true d = refl
both_ways false d = refl

kept_from-marks : (keep : ℕ) (inputs outside : List Entry) (floor : ℕ) (newer : List Entry) (ss : List Sourced)
    → kept_inputs (marks_from keep inputs outside floor newer ss) ≡ kept_from keep inputs outside floor newer ss
kept_from-marks keep inputs outside floor newer [] = refl
kept_from-marks keep inputs outside floor newer (s ∷ ss) =
    ap (λ b. if_so b s.1 (kept_inputs (marks_from keep inputs outside floor (s.1 ∷ newer) ss)))
    (both_ways s.0 (is_dropped keep inputs outside floor newer s.1))
    ∙ ap (if_so (s.0 && not (is_dropped keep inputs outside floor newer s.1)) s.1)
    (kept_from-marks keep inputs outside floor (s.1 ∷ newer) ss)

-- what a job keeps of its inputs is what its marks keep of them
pub kept-marks : (job : Job)
    → kept_inputs (marks_from job.keep (inputs_of job.base) (outside_of job.base) job.floor [] job.base) ≡ kept job
kept-marks job = kept_from-marks job.keep (inputs_of job.base) (outside_of job.base) job.floor [] job.base
