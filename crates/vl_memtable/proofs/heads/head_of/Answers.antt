use Rattle.std.proofs.Common.{◌≡◌, ℕ, suc, ◌+◌, ◌-◌, ◌*◌, ◌<◌, drop, get_or, ap, sym, subst, ◌∙◌, arith}
use Rattle.vl_memtable.specs.Heads.{AreBytes, number_with}
use Rattle.vl_memtable.specs.laws.HeadLaws.{bytes-more, grown, number-more}
use Rattle.vl_memtable.proofs.heads.head_of.Goals as goal

pub overflow_mul-head : goal.overflow_mul-head
overflow_mul-head c =
    let more = grown c.loop-i.i c.loop-i.head 0 c.loop-i.invariant.fits (omega arith) (omega arith) in
    omega (arith, more.1)

pub overflow_add-head : goal.overflow_add-head
overflow_add-head c =
    let more = grown c.loop-i.i c.loop-i.head c.byte_at.result c.loop-i.invariant.fits (omega arith) (omega arith) in
    omega (arith, more.1)

pub loop-i-preserved : goal.loop-i-preserved
loop-i-preserved c =
    let key = c.args.key.now in
    let i = c.loop-i.i in
    let head = c.loop-i.head in
    let rest = 8 - (i + 1) in
    let next : i + 1 ≡ suc i = omega arith in
    let left : suc rest ≡ 8 - i = omega arith in
    let byte : get_or key i 0 < 256 = omega (arith, c.byte_at.ensures) in
    record {
      number =
          ap (λ (b : ℕ). number_with (head * 256 + b) rest (drop (i + 1) key)) c.byte_at.ensures
          ∙ ap (λ (n : ℕ). number_with (head * 256 + get_or key i 0) rest (drop n key)) next
          ∙ sym (number-more head rest i key) ∙ ap (λ (n : ℕ). number_with head n (drop i key)) left
          ∙ c.loop-i.invariant.number;
      bytes = subst (λ (n : ℕ). AreBytes n key) (sym next) (bytes-more i key c.loop-i.invariant.bytes byte);
      fits = (grown i head c.byte_at.result c.loop-i.invariant.fits (omega arith) (omega arith)).0;
    }
