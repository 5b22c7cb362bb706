use Rattle.std.proofs.Common.{◌≡◌, ◌++◌, drop}
use Rattle.vl_script.specs.Text.{contents_text, rows_text}
use Rattle.vl_script.proofs.text.contents_text.Given as goal

-- with the lines of the rows that are left the text is whole
abbrev pub invariant-loop-key : goal.invariant-loop-key
invariant-loop-key l = l.text.items ++ rows_text (drop l.key-index l.rows) ≡ contents_text l.number l.rows
