-- What stands at the front of some bytes. Numbers have their highest byte first.
use Rattle.std.specs.Prelude.{◌≡◌, ◌<◌, ◌^◌, ℕ, List, ◌++◌, drop, length, take}
use Rattle.std.proofs.Common.{sym, ap, ◌∙◌, arith}
use Rattle.std.proofs.lemmas.List.{drop_at, take_at}
use Rattle.byteorder.specs.Endian.{big_bytes, big_number}
use Rattle.byteorder.specs.Numbers.{big_number-reads_back, length-bytes_high_first}

-- Two numbers in as many bytes at the front of the same bytes are one, and the same stands behind them.
pub one_number : (n a b : ℕ) (x y : List ℕ) → a < 256 ^ n → b < 256 ^ n → big_bytes n a ++ x ≡ big_bytes n b ++ y → (a ≡ b) × (x ≡ y)
one_number n a b x y a-fits b-fits e =
    let number : a ≡ b = sym (big_number-reads_back n a x a-fits) ∙ ap (big_number n) e ∙ big_number-reads_back n b y b-fits in
    let behind : x ≡ y = sym (drop_at (big_bytes n a) x n (length-bytes_high_first n a)) ∙ ap (drop n) e
    ∙ drop_at (big_bytes n b) y n (length-bytes_high_first n b) in
    (number, behind)

-- As many bytes at the front of the same bytes are the same, and the same stands behind them.
pub same_front : (a b x y : List ℕ) → length a ≡ length b → a ++ x ≡ b ++ y → (a ≡ b) × (x ≡ y)
same_front a b x y len e =
    let first : a ≡ b = sym (take_at a x (length a) (omega arith)) ∙ ap (take (length a)) e ∙ take_at b y (length a) (sym len) in
    let second : x ≡ y = sym (drop_at a x (length a) (omega arith)) ∙ ap (drop (length a)) e ∙ drop_at b y (length a) (sym len) in
    (first, second)
