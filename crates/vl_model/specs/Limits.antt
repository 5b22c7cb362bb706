-- The limits of a store, each as a number. The constants of the code are equal to them, which is a
-- law of this crate.
use Rattle.std.specs.Prelude.{ℕ, ◌-◌, ◌^◌, nat_le, if◌then◌else◌}

-- a key has at least one byte, and at most so many
abbrev pub max_key_bytes : ℕ
max_key_bytes = 4096

-- the longest value in a log of a format; a value may be empty
abbrev pub max_value_bytes : ℕ → ℕ
max_value_bytes format = if nat_le format 1 then 1048576 else 8388608

-- the longest value that stands beside its key in a table; a longer one stands in a log alone
abbrev pub max_inline_bytes : ℕ
max_inline_bytes = 64

-- how many different keys one transaction may write
abbrev pub max_transaction_keys : ℕ
max_transaction_keys = 4096

-- how many bytes these keys and their values may have together
abbrev pub max_transaction_bytes : ℕ
max_transaction_bytes = 16777216

-- how many transactions and views may be live at once
abbrev pub max_live : ℕ
max_live = 1024

-- a segment is one log file; its room is given to the store that is opened, within these bounds
abbrev pub min_room : ℕ
min_room = 16

abbrev pub max_room : ℕ
max_room = 1073741824

-- tables stand in the levels from 0 to this one
abbrev pub max_level : ℕ
max_level = 6

-- what one relocation may move: so many records, and so many bytes of their values, but always one
-- record
abbrev pub max_batch_records : ℕ
max_batch_records = 64

abbrev pub max_batch_bytes : ℕ
max_batch_bytes = 1048576

-- the greatest number of a commit; the first has 1
abbrev pub max_commit_number : ℕ
max_commit_number = 2 ^ 63 - 2

-- the greatest number of a log, a table and a manifest; the first has 1
abbrev pub max_file_number : ℕ
max_file_number = 4294967294

-- the greatest epoch
abbrev pub max_epoch : ℕ
max_epoch = 2 ^ 63 - 2

-- how many sessions one store may have; there is at least one
abbrev pub max_sessions : ℕ
max_sessions = 64
