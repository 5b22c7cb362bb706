use Rattle.std.proofs.Common.{refl}
use Rattle.std.proofs.Common.{ap}
use Rattle.std.specs.Prelude.{Err}
use Rattle.vl_table.proofs.WriterResults.{add_too_long, never_unlawful, one_error, too_long_added}
use Rattle.vl_table.specs.declared.writer.write_fail.WriteFail.TheVariants as why
use Rattle.vl_table.proofs.writer.table_writer.TableWriter.add.Goals as goal

pub returns-then-not-may_come-clause-refused : goal.returns-then-not-may_come-clause-refused
returns-then-not-may_come-clause-refused c = λ number es given is. (
  λ same comes. let yes = (c.may_come.ensures.comes number es given is).1 comes in let no = c.if-not-may_come.true in cc,
  λ no. refl,
)

pub returns-in_err-put-clause-refused : goal.returns-in_err-put-clause-refused
returns-in_err-put-clause-refused c = λ number es given is. (
  λ same comes. never_unlawful c.in_err-put.field-0.0 c.from_residual.result c.from_residual.ensures.1 same,
  λ no. absurd (no ((c.may_come.ensures.comes number es given is).0 c.if-not-may_come.false)),
)

pub returns-clause-added : goal.returns-clause-added
returns-clause-added c = λ number es given is.
    c.in_ok-put.ensures.put number es given is ((c.may_come.ensures.comes number es given is).0 c.if-not-may_come.false)

pub returns-clause-refused : goal.returns-clause-refused
returns-clause-refused c = λ number es given is. (
  λ same comes. cc,
  λ no. absurd (no ((c.may_come.ensures.comes number es given is).0 c.if-not-may_come.false)),
)

pub returns-then-not-may_come-clause-too_long : goal.returns-then-not-may_come-clause-too_long
returns-then-not-may_come-clause-too_long c = λ number es given is. (
  λ same. cc,
  λ both. let yes = (c.may_come.ensures.comes number es given is).1 both.0 in let no = c.if-not-may_come.true in cc,
)

pub returns-in_err-put-clause-too_long : goal.returns-in_err-put-clause-too_long
returns-in_err-put-clause-too_long c = λ number es given is.
    let e = c.in_err-put.field-0.0 in
    let put = c.in_err-put.ensures.too_long number es given is in (
      λ same. (
        (c.may_come.ensures.comes number es given is).0 c.if-not-may_come.false,
        put.0 (ap Err (add_too_long e c.from_residual.result c.from_residual.ensures.1 same)),
      ),
      λ both. too_long_added e c.from_residual.result c.from_residual.ensures.1
          (one_error e why.TooLong (Err e) refl (put.1 both.1)),
    )

pub returns-clause-too_long : goal.returns-clause-too_long
returns-clause-too_long c = λ number es given is. (
  λ same. cc,
  λ both. let no = (c.in_ok-put.ensures.too_long number es given is).1 both.1 in cc,
)
