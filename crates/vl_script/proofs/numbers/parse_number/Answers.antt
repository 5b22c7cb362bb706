use Rattle.std.proofs.Common.{sym, subst, arith}
use Rattle.std.specs.Str.{IsUtf8}
use Rattle.std.specs.Fmt.{decimal}
use Rattle.std.proofs.lemmas.Fmt.{IsAscii-decimal}
use Rattle.std.proofs.lemmas.Str.{IsUtf8-from_ascii}
use Rattle.vl_script.proofs.Spelling.{none_spelled}
use Rattle.vl_script.proofs.numbers.parse_number.Goals as goal

pub returns-in_default : goal.returns-in_default
returns-in_default c =
    sym (none_spelled c.args.word.now c.args.most
    (λ n is le. c.in_default.ensures.cases.0
    (subst IsUtf8 (sym is) (IsUtf8-from_ascii (decimal n) (IsAscii-decimal n (omega (arith, le, c.ranges.most.fits)))))))
