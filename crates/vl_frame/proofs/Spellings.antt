-- Bytes that begin with a kind, a body and a check are read from the left.
use Rattle.std.proofs.Common.{◌≡◌, ℕ, ◌<◌, ◌^◌, ◌≤◌, List, ◌∷◌, ◌++◌, length, drop, sym, ap, ◌∙◌, append_assoc, arith}
use Rattle.std.proofs.lemmas.List.{drop_at, length-append}
use Rattle.byteorder.specs.Endian.{big_bytes}
use Rattle.vl_frame.specs.declared.kinds.FileKind.{FileKind}
use Rattle.vl_frame.specs.declared.kinds.FrameKind.{FrameKind}
use Rattle.vl_frame.specs.Frame.{frame_code, spelling, check_of, frame_bytes, frame_length, IsSpelled, file_of}
use Rattle.vl_frame.specs.laws.Laws.{length-frame_bytes, one_apart, spelled_apart}
use Rattle.vl_frame.specs.FrameFields.{IsApart}

-- what comes apart and has its check is spelled
pub apart_spelled : (file : FileKind) (number at : ℕ) (bytes : List ℕ) (kind : FrameKind) (body check : List ℕ)
    → IsApart bytes kind body check → file_of kind ≡ file → check ≡ check_of number at kind body
    → IsSpelled file number at bytes kind body
unfolding frame_bytes
apart_spelled file number at bytes kind body check apart in_file e =
    record {
      in_file = in_file;
      short = apart.short;
      rest = apart.rest;
      spelled = apart.spelled
          ∙ ap (λ c. spelling kind body c ++ apart.rest) e;
    }

-- a kind, a length, a body and a check, one behind the other
pub is_apart : (bytes : List ℕ) (kind : FrameKind) (code n : ℕ) (body check r1 r2 r3 r4 : List ℕ) → bytes ≡ code ∷ r1
    → frame_code kind ≡ code → r1 ≡ big_bytes 4 n ++ r2 → n < 2 ^ 32 → r2 ≡ body ++ r3 → length body ≡ n
    → r3 ≡ check ++ r4 → length check ≡ 8 → IsApart bytes kind body check
is_apart bytes kind code n body check r1 r2 r3 r4 e1 is_code e2 fits e3 size e4 check_length = record {
  short = rw size fits;
  check_length = check_length;
  rest = r4;
  spelled = e1 ∙ ap (λ (a : ℕ). a ∷ r1) (sym is_code)
      ∙ ap (λ (r : List ℕ). frame_code kind ∷ r) (e2 ∙ ap (λ (k : ℕ). big_bytes 4 k ++ r2) (sym size)
      ∙ ap (λ (r : List ℕ). big_bytes 4 (length body) ++ r) (e3 ∙ ap (λ (r : List ℕ). body ++ r) e4 ∙ sym (append_assoc body check r4)));
}

-- where some frame is spelled, what comes apart is that frame
pub comes_apart : (file : FileKind) (number at : ℕ) (bytes : List ℕ) (kind kind' : FrameKind)
    (body body' check : List ℕ) → IsApart bytes kind body check → IsSpelled file number at bytes kind' body'
    → (file_of kind ≡ file) × (check ≡ check_of number at kind body)
comes_apart file number at bytes kind kind' body body' check p s =
    let one = one_apart bytes kind kind' body body' check (check_of number at kind' body') p
    (spelled_apart file number at bytes kind' body' s) in
    (ap file_of one.0 ∙ s.in_file, one.2 ∙ sym (ap (λ k. check_of number at k body) one.0 ∙ ap (check_of number at kind') one.1))

-- behind a frame that is spelled stands the rest
pub rest_behind : (file : FileKind) (number at : ℕ) (bytes : List ℕ) (kind : FrameKind) (body : List ℕ)
    → IsSpelled file number at bytes kind body
    → (frame_length (length body) ≤ length bytes) × (bytes ≡ frame_bytes number at kind body ++ drop (frame_length (length body)) bytes)
rest_behind file number at bytes kind body s =
    let size = length-frame_bytes number at kind body in
    let n = frame_length (length body) in
    let tail : drop n bytes ≡ s.rest = ap (drop n) s.spelled ∙ drop_at (frame_bytes number at kind body) s.rest n size in (
      omega (arith, size, ap length s.spelled, length-append (frame_bytes number at kind body) s.rest),
      s.spelled
          ∙ ap (λ l. frame_bytes number at kind body ++ l) (sym tail),
    )
