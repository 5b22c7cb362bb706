-- The header of a stream, as it is read.
use Rattle.std.specs.Prelude.{◌≡◌, ◌<◌, ◌≤◌, ◌+◌, ℕ, List, [], ◌++◌, length, take, Option, None, Some, IfSome}
use Rattle.std.proofs.Common.{ap, subst, ◌∙◌, length-append, length-take, arith}
use Rattle.byteorder.specs.Endian.{big_bytes}
use Rattle.vl_stream.proofs.Filling.{hands_then}
use Rattle.vl_stream.specs.Streams.{IsNoBackup}
use Rattle.vl_frame.specs.Header.{HasFormat, letters}
use Rattle.vl_frame.specs.declared.kinds.FileKind.TheVariants.{Backup}
use Rattle.vl_io.specs.Source.{HandsOver}

long_enough : (input : List ℕ) (format : ℕ) → HasFormat Backup input format → 16 ≤ length input
long_enough input format has =
    let size : length input ≡ 8 + length has.rest =
    ap length has.spelled ∙ length-append (letters Backup ++ big_bytes 4 format) has.rest in
    omega (arith, size, has.long)

-- the input ended before its header did
pub no_header : (input : List ℕ) (left : Option (List ℕ)) (given : List ℕ) → HandsOver (Some input) left given
    → IfSome left (λ rest. rest ≡ []) → length given < 16 → IsNoBackup input
no_header input None given hands end short format has = absurd hands
no_header input (Some rest) given hands end short format has =
    let size : length input ≡ length given + length rest = ap length hands ∙ length-append given rest in
    let none : length rest ≡ 0 = ap length end in
    omega (arith, size, none, long_enough input format has, short)

-- so it is where its letters weren't filled,
pub no_letters : (input : List ℕ) (old left : Option (List ℕ)) (out : List ℕ) (n : ℕ) → old ≡ Some input
    → HandsOver old left (take n out) → n < 4 → length out ≡ 4 → (n < length out → IfSome left (λ rest. rest ≡ []))
    → IsNoBackup input
no_letters input old left out n is hands few four ended =
    no_header input left (take n out) (subst (λ (o : Option (List ℕ)). HandsOver o left (take n out)) is hands)
    (ended (omega (arith, few, four))) (omega (arith, few, length-take n out))

-- and where they were, but not what stands behind them
pub no_numbers : (input : List ℕ) (old mid left : Option (List ℕ)) (out more : List ℕ) (n m : ℕ) → old ≡ Some input
    → HandsOver old mid (take n out) → length out ≡ 4 → HandsOver mid left (take m more) → m < 12 → length more ≡ 12
    → (m < length more → IfSome left (λ rest. rest ≡ [])) → IsNoBackup input
no_numbers input old mid left out more n m is first four second few twelve ended =
    let given : List ℕ = take n out ++ take m more in
    no_header input left given
    (subst (λ (o : Option (List ℕ)). HandsOver o left given) is
    (hands_then old mid left (take n out) (take m more) first second))
    (ended (omega (arith, few, twelve)))
    (omega (arith, few, four, length-append (take n out) (take m more), length-take n out, length-take m more))
