use Rattle.std.proofs.Common.{sym, ◌∙◌}
use Rattle.std.specs.Option.{option_copied}
use Rattle.vl_model.specs.Keys.{value_bytes, value_tag}
use Rattle.vl_seglog.specs.Record.{change_of, flag_of}
use Rattle.vl_seglog.specs.laws.RecordLaws.{spelled_apart}
use Rattle.vl_seglog.proofs.RecordParts.{agrees, is_spelled}
use Rattle.vl_seglog.proofs.record.read.read_record.Goals as goal
use Rattle.vl_seglog.proofs.record.read.read_record.Goals.{then-not-is_key_len-via-then-not-is_key_len}
use Rattle.vl_seglog.proofs.record.read.read_record.Goals.{then-not-is_key_len-via-else-not-is_key_len+then-not-is_value_len}

-- nothing comes apart
pub returns-in_err-parts-clause-none : goal.returns-in_err-parts-clause-none
returns-in_err-parts-clause-none c =
    rw c.from_residual.ensures (λ key change s.
    c.in_err-parts.ensures.none (flag_of change) (value_tag change) key (value_bytes change)
    (spelled_apart c.args.format c.args.bytes.now key change s))

-- a length isn't lawful
pub returns-then-not-is_key_len-clause-none : goal.returns-then-not-is_key_len-clause-none
returns-then-not-is_key_len-clause-none c = λ key change s.
    let parts = c.in_ok-parts.parts in
    let a = agrees c.args.format c.args.bytes.now parts.key.now parts.value.now parts.flag parts.tag key change
    c.in_ok-parts.ensures.found s in
    elim c.then-not-is_key_len.branch [
      | then-not-is_key_len-via-then-not-is_key_len w ↦ cc (a.key_length, c.is_key_len.ensures, w.if-not-is_key_len.true)
      | then-not-is_key_len-via-else-not-is_key_len+then-not-is_value_len w ↦ cc
          (a.value_length, w.is_value_len.ensures, w.if-not-is_value_len.true)
    ]

-- no change has the flag, the tag and the value
pub returns-in_err-value-clause-none : goal.returns-in_err-value-clause-none
returns-in_err-value-clause-none c =
    let parts = c.in_ok-parts.parts in
    rw c.from_residual-in_err-value.ensures (λ key change s.
    let a = agrees c.args.format c.args.bytes.now parts.key.now parts.value.now parts.flag parts.tag key change
    c.in_ok-parts.ensures.found s in
    c.in_err-value.ensures.none change a.flag_is a.tag_is a.value_is)

pub returns-clause-found : goal.returns-clause-found
returns-clause-found c =
    let parts = c.in_ok-parts.parts in
    is_spelled c.args.format c.args.bytes.now parts.key.now parts.value.now parts.flag parts.tag
    (change_of (option_copied c.in_ok-value.value) parts.tag) c.in_ok-parts.ensures.found
    c.in_ok-value.ensures.flag c.in_ok-value.ensures.tag c.in_ok-value.ensures.value
    (sym c.is_key_len.ensures ∙ c.if-not-is_key_len.false) (sym c.is_value_len.ensures ∙ c.if-not-is_value_len.false)
