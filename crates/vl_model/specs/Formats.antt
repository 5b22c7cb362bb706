-- The formats of files, each a number in the file's header. The greatest of each kind is the one that is
-- written, and no greater one is read.
use Rattle.std.specs.Prelude.{ℕ, Bool, nat_le, if◌then◌else◌}

-- from format 2 on a record has its value's tag
abbrev pub log_format : ℕ
log_format = 2

-- from format 2 on an inline value has its tag, and from format 3 on a table has a filter
abbrev pub table_format : ℕ
table_format = 3

-- from format 3 on a manifest says how many versions are kept, and from format 4 on below which number a
-- backup can't begin
abbrev pub manifest_format : ℕ
manifest_format = 4

-- How many bytes a record of a log has before its key: a flag, the value's tag, and the lengths of key and
-- value, of which format 1 has no tag
abbrev pub record_head : ℕ → ℕ
record_head format = if nat_le format 1 then 7 else 8

-- the tag that a file of a format keeps of a value's: in format 1 none, which reads as 0
abbrev pub tag_kept : ℕ → ℕ → ℕ
tag_kept format tag = if nat_le format 1 then 0 else tag

-- whether a value beside its key in a table of a format has its tag before it; where not, that byte is 0
abbrev pub has_tags : ℕ → Bool
has_tags format = nat_le 2 format

-- whether a filter of the keys stands between index and footer in a table of a format
abbrev pub has_filter : ℕ → Bool
has_filter format = nat_le 3 format
