-- What the definition of a frame says: how long a frame is, and that of one place and file one frame at most stands at the front of some bytes.
use Rattle.std.proofs.Common.{◌≡◌, ℕ, cond, nat_eq, List, ◌++◌, length, drop, get_or, refl, sym, ap, ◌∙◌, append_assoc, arith}
use Rattle.std.proofs.lemmas.List.{append_cancel_left, length-append, length-take-le}
use Rattle.byteorder.specs.Endian.{big_bytes}
use Rattle.sha2.specs.Sha256.{sha256}
use Rattle.sha2.proofs.Facts256.{length-sha256}
use Rattle.vl_frame.specs.declared.kinds.FileKind.{FileKind}
use Rattle.vl_frame.specs.declared.kinds.FrameKind.{FrameKind}
use Rattle.vl_frame.specs.declared.kinds.FrameKind.TheVariants.{Commit, Move, Block, Index, Footer, Edits, Filter, Changes, BackupEnd}
use Rattle.vl_frame.specs.Frame.{frame_code, head_bytes, spelling, check_of, frame_bytes, IsSpelled, file_of, frame_length, place_bytes}
use Rattle.vl_frame.specs.laws.NumberLaws.{one_number, same_front}
use Rattle.vl_frame.specs.FrameFields.{IsApart}

kind_at : ℕ → FrameKind
kind_at n = cond (nat_eq n 1) Commit
    (cond (nat_eq n 2) Move (cond (nat_eq n 3) Block (cond (nat_eq n 4) Index (cond (nat_eq n 5) Footer (cond (nat_eq n 6) Edits
    (cond (nat_eq n 7) Changes (cond (nat_eq n 8) BackupEnd Filter)))))))

kind_at-code : (kind : FrameKind) → kind_at (frame_code kind) ≡ kind
unfolding kind_at
kind_at-code Commit = refl
kind_at-code Move = refl
kind_at-code Block = refl
kind_at-code Index = refl
kind_at-code Footer = refl
kind_at-code Edits = refl
kind_at-code Filter = refl
kind_at-code Changes = refl
kind_at-code BackupEnd = refl

one_code : (kind kind' : FrameKind) → frame_code kind ≡ frame_code kind' → kind ≡ kind'
one_code kind kind' e = sym (kind_at-code kind) ∙ ap kind_at e ∙ kind_at-code kind'

length-check_of : (number at : ℕ) (kind : FrameKind) (body : List ℕ) → length (check_of number at kind body) ≡ 8
unfolding check_of
length-check_of number at kind body =
    let m = place_bytes (file_of kind) number at ++ head_bytes kind (length body) ++ body in
    length-take-le 8 (sha256 m) (omega (arith, length-sha256 m))

length-spelling : (kind : FrameKind) (body check : List ℕ) → length check ≡ 8
    → length (spelling kind body check) ≡ frame_length (length body)
length-spelling kind body check e = omega (arith, length-append body check)

-- A frame has 13 bytes more than its body.
pub length-frame_bytes : (number at : ℕ) (kind : FrameKind) (body : List ℕ)
    → length (frame_bytes number at kind body) ≡ frame_length (length body)
unfolding frame_bytes
length-frame_bytes number at kind body = length-spelling kind body (check_of number at kind body) (length-check_of number at kind body)

-- Bytes come apart into a kind, a body and a check in one way.
pub one_apart : (bytes : List ℕ) (kind kind' : FrameKind) (body body' check check' : List ℕ)
    → IsApart bytes kind body check → IsApart bytes kind' body' check'
    → (kind ≡ kind') × (body ≡ body') × (check ≡ check')
one_apart bytes kind kind' body body' check check' p q =
    let both = sym p.spelled ∙ q.spelled in
    let behind : big_bytes 4 (length body) ++ ((body ++ check) ++ p.rest) ≡ big_bytes 4 (length body')
    ++ ((body' ++ check') ++ q.rest) = ap (drop 1) both in
    let size = one_number 4 (length body) (length body') _ _ p.short q.short behind in
    let bodies = same_front body body' (check ++ p.rest) (check' ++ q.rest) size.0
    (sym (append_assoc body check p.rest) ∙ size.1 ∙ append_assoc body' check' q.rest) in
    let checks = same_front check check' p.rest q.rest (p.check_length ∙ sym q.check_length) bodies.1 in
    (one_code kind kind' (ap (λ (l : List ℕ). get_or l 0 0) both), bodies.0, checks.0)

-- A frame that stands comes apart into its kind, its body and its check.
pub spelled_apart : (file : FileKind) (number at : ℕ) (bytes : List ℕ) (kind : FrameKind) (body : List ℕ)
    → IsSpelled file number at bytes kind body → IsApart bytes kind body (check_of number at kind body)
unfolding frame_bytes
spelled_apart file number at bytes kind body s = record
    { short = s.short; check_length = length-check_of number at kind body; rest = s.rest; spelled = s.spelled }

-- At one place of one file no two frames stand at the front of the same bytes, and what stands behind the frame is the same.
pub one_frame : (file : FileKind) (number at : ℕ) (bytes : List ℕ) (kind other_kind : FrameKind) (body other_body : List ℕ)
    → (one : IsSpelled file number at bytes kind body) → (other : IsSpelled file number at bytes other_kind other_body)
    → (kind ≡ other_kind) × (body ≡ other_body) × (one.rest ≡ other.rest)
one_frame file number at bytes kind other_kind body other_body one other =
    let parts = one_apart bytes kind other_kind body other_body (check_of number at kind body) (check_of number at other_kind other_body)
    (spelled_apart file number at bytes kind body one) (spelled_apart file number at bytes other_kind other_body other) in
    let same : frame_bytes number at other_kind other_body ≡ frame_bytes number at kind body =
    ap (λ k. frame_bytes number at k other_body) (sym parts.0) ∙ ap (frame_bytes number at kind) (sym parts.1) in
    let behind : frame_bytes number at kind body ++ one.rest ≡ frame_bytes number at kind body ++ other.rest =
    sym one.spelled ∙ other.spelled ∙ ap (λ (front : List ℕ). front ++ other.rest) same in
    (parts.0, parts.1, append_cancel_left (frame_bytes number at kind body) one.rest other.rest behind)
