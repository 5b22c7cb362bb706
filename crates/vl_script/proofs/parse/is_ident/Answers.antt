use Rattle.std.proofs.Common.{rules, tests, arith}
use Rattle.std.proofs.lemmas.Iterator.{YieldsList-from_slice}
use Rattle.std.proofs.lemmas.Iterator.Search.{all_from_yields_List}
use Rattle.std.proofs.lemmas.Bool.Decides.{nat_tests}
use Rattle.vl_script.specs.Script.{is_ident_byte}
use Rattle.vl_script.proofs.parse.is_ident.Goals as goal

pub returns-then-word-le-MAX_IDENT_BYTES : goal.returns-then-word-le-MAX_IDENT_BYTES
returns-then-word-le-MAX_IDENT_BYTES c =
    let all = all_from_yields_List is_ident_byte _ _ c.all.result c.all.ensures.ran
    (YieldsList-from_slice c.args.word.now cc) (λ x b q k. search (rules, tests)) in
    grind (arith, nat_tests)
