-- One frame of a table, cut out of its bytes.
use Rattle.std.specs.Prelude.{◌≡◌, ◌+◌, ◌-◌, ◌≤◌, ℕ, List, [], ◌∷◌, ◌++◌, take, drop, length}
use Rattle.std.proofs.Common.{refl, ap, sym, ◌∙◌, append-nil, length-append, arith, Vec}
use Rattle.std.proofs.lemmas.List.{drop-append-le, drop-drop, take_at, take-append-drop, take-append-le, length-drop}
use Rattle.std.proofs.lemmas.List.{length-take-le, with_items_is}
use Rattle.std.proofs.Math.Seq.{take-length}
use Rattle.std.specs.Vec.{with_items}
use Rattle.vl_disk.specs.DiskState.{bytes_at}
use Rattle.vl_frame.specs.Frame.{IsSpelled, check_of, frame_bytes, frame_length}
use Rattle.vl_frame.specs.laws.Laws.{length-frame_bytes}
use Rattle.vl_frame.specs.declared.kinds.FileKind.TheVariants as files
use Rattle.vl_frame.specs.declared.kinds.FrameKind.{FrameKind}
use Rattle.vl_table.specs.Begun.{FrameAt}

nothing_left : (rest : List ℕ) → length rest ≡ 0 → rest ≡ []
nothing_left [] none = refl
nothing_left (b ∷ rest) none = absurd (omega arith)

-- a frame that fills the bytes is all of them
pub fills : (number place : ℕ) (b : List ℕ) (kind : FrameKind) (body : List ℕ)
    → IsSpelled files.Table number place b kind body → length b ≡ frame_length (length body)
    → b ≡ frame_bytes number place kind body
fills number place b kind body s sized =
    let frame = frame_bytes number place kind body in
    let none : length s.rest ≡ 0 = omega
    (arith, sized, ap length s.spelled, length-append frame s.rest, length-frame_bytes number place kind body) in
    s.spelled ∙ ap (λ (r : List ℕ). frame ++ r) (nothing_left s.rest none) ∙ append-nil frame

-- what was cut out is a frame, so it stands there
pub stands : (number place size : ℕ) (kind : FrameKind) (bytes b body : List ℕ) → b ≡ bytes_at place size bytes
    → IsSpelled files.Table number place b kind body
    → length b ≡ frame_length (length body) → size ≡ length b → FrameAt number bytes place size kind body
stands number place size kind bytes b body cut s sized filled = record {
  frame = record {
    in_file = s.in_file;
    short = s.short;
    rest = drop size (drop place bytes);
    spelled = sym (take-append-drop size (drop place bytes))
        ∙ ap (λ (l : List ℕ). l ++ drop size (drop place bytes)) (sym cut ∙ fills number place b kind body s sized);
  };
  sized = filled ∙ sized;
}

-- what stands there is cut out
pub cut_out : (number place size : ℕ) (kind : FrameKind) (bytes body : List ℕ) → (at : FrameAt number bytes place size kind body)
    → bytes_at place size bytes ≡ frame_bytes number place kind body
cut_out number place size kind bytes body at =
    let frame = frame_bytes number place kind body in
    ap (take size) at.frame.spelled ∙ take_at frame at.frame.rest size (omega (arith, at.sized, length-frame_bytes number place kind body))

pub spelled_of : (number place size : ℕ) (kind : FrameKind) (bytes b body : List ℕ) → b ≡ bytes_at place size bytes
    → FrameAt number bytes place size kind body
    → IsSpelled files.Table number place b kind body × (length b ≡ frame_length (length body))
spelled_of number place size kind bytes b body cut at =
    let frame = frame_bytes number place kind body in
    let is : b ≡ frame = cut ∙ cut_out number place size kind bytes body at in (
      record { in_file = at.frame.in_file; short = at.frame.short; rest = []; spelled = is ∙ sym (append-nil frame) },
      ap length is ∙ length-frame_bytes number place kind body,
    )

-- and lies inside the file
pub lies_inside : (number place size : ℕ) (kind : FrameKind) (bytes body : List ℕ)
    → FrameAt number bytes place size kind body → place + size ≤ length bytes
lies_inside number place size kind bytes body at =
    let frame = frame_bytes number place kind body in
    omega (
      arith,
      at.sized,
      ap length at.frame.spelled,
      length-append frame at.frame.rest,
      length-frame_bytes number
          place kind body,
      length-drop place bytes,
    )

pub body_behind : (number place : ℕ) (kind : FrameKind) (body frame : List ℕ) → frame ≡ frame_bytes number place kind body
    → take (length frame - 8 - 5) (drop 5 frame) ≡ body
unfolding frame_bytes
body_behind number place kind body frame is =
    ap (λ (l : List ℕ). take (length l - 8 - 5) (drop 5 l)) is
    ∙ take_at body (check_of number place kind body) (length (frame_bytes number place kind body) - 8 - 5)
    (omega (arith, length-frame_bytes number place kind body))

pub length-cut : (place size : ℕ) (bytes : List ℕ) → place + size ≤ length bytes → length (bytes_at place size bytes) ≡ size
length-cut place size bytes inside = length-take-le size (drop place bytes) (omega (arith, inside, length-drop place bytes))

-- what was read into a buffer
pub cut_from : {Z : Type 0} (place size : ℕ) (bytes : List ℕ) (v : Vec ℕ Z) (read : List ℕ) (n : ℕ)
    → read ≡ bytes_at place n bytes → n ≡ size → n ≡ v.len → place + size ≤ length bytes
    → (with_items v read).items ≡ bytes_at place size bytes
cut_from place size bytes v read n is sized filled inside =
    let same : read ≡ bytes_at place size bytes = is ∙ ap (λ (k : ℕ). bytes_at place k bytes) sized in
    with_items_is v read (ap length same ∙ length-cut place size bytes inside ∙ sym sized ∙ filled) ∙ same

-- all bytes from a place on
pub whole_rest : (place size : ℕ) (bytes : List ℕ) → size ≡ length bytes - place → bytes_at place size bytes ≡ drop place bytes
whole_rest place size bytes is =
    ap (λ (n : ℕ). take n (drop place bytes)) (is ∙ sym (length-drop place bytes)) ∙ take-length (drop place bytes)

-- a part of the bytes that stand from a place on
pub part_of : (place from n : ℕ) (bytes items rest : List ℕ) → from ≤ place → (place - from) + n ≤ length items
    → drop from bytes ≡ items ++ rest
    → take n (drop (place - from) items) ≡ bytes_at place n bytes
part_of place from n bytes items rest le within is =
    let past = place - from in
    let there : place ≡ from + past = omega (arith, le) in
    let enough : n ≤ length (drop past items) = omega (arith, within, length-drop past items) in
    sym (ap (λ (k : ℕ). take n (drop k bytes)) there ∙ ap (take n) (sym (drop-drop past from bytes))
    ∙ ap (λ (l : List ℕ). take n (drop past l)) is
    ∙ ap (take n) (drop-append-le past items rest (omega (arith, within))) ∙ take-append-le n (drop past items) rest enough)
