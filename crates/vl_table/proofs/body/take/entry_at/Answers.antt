use Rattle.std.proofs.Common.{◌≡◌, ◌-◌, ℕ, List, sym, ap, ◌∙◌, drop, take, length, length-drop}
use Rattle.std.proofs.Math.Seq.{take-length}
use Rattle.vl_table.specs.body.Entries.{entry_of}
use Rattle.vl_table.specs.laws.EntryLaws.{one_entry}
use Rattle.vl_table.proofs.body.take.entry_at.Goals as goal

all_behind : (bytes : List ℕ) (n : ℕ) → take (length bytes - n) (drop n bytes) ≡ drop n bytes
all_behind bytes n = ap (λ (k : ℕ). take k (drop n bytes)) (sym (length-drop n bytes)) ∙ take-length (drop n bytes)

pub returns-in-Some-clause-found : goal.returns-in-Some-clause-found
returns-in-Some-clause-found c = λ e lawful at.
    (one_entry c.args.format (entry_of c.in-Some.entry) e _ at.rest c.in-Some.ensures.lawful lawful
    (sym c.in-Some.ensures.found ∙ all_behind c.args.bytes.now c.args.start ∙ at.spelled)).0
