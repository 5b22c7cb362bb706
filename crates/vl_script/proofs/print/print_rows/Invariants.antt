use Rattle.std.proofs.Common.{◌≡◌, ◌++◌, drop}
use Rattle.std.specs.List.{flat_map}
use Rattle.vl_script.specs.Script.{row_text, rows_text}
use Rattle.vl_script.proofs.print.print_rows.Given as goal

-- with the lines of the rows that are left the text is whole
abbrev pub invariant-loop-key : goal.invariant-loop-key
invariant-loop-key l = l.text.items ++ flat_map row_text (drop l.key-index l.rows) ≡ l.fn.text.items ++ rows_text l.rows
