-- A frame of a stream is spelled in one way, and none is longer than a batch may get.
use Rattle.std.specs.Prelude.{◌≡◌, ◌⊎◌, ◌<◌, ◌≤◌, ◌^◌, ◌+◌, ◌*◌, ℕ, List, [], ◌∷◌, ◌++◌, length, refl, nat_le}
use Rattle.std.proofs.Common.{ap, sym, ◌∙◌, ⊎_elim, append-nil, length-append, arith}
use Rattle.std.proofs.lemmas.Bool.{and_parts}
use Rattle.std.proofs.lemmas.Bool.Decides.{nat_tests}
use Rattle.byteorder.specs.Endian.{big_bytes}
use Rattle.vl_stream.specs.Batches.{Write, max_bytes, max_records, size_of, value_size}
use Rattle.vl_stream.specs.Pieces.{AreChanges, End, IsPiece, Piece, Records, changes_body, end_body, piece_body, piece_kind, record_format}
use Rattle.vl_frame.specs.Frame.{file_of}
use Rattle.vl_frame.specs.declared.kinds.FileKind.TheVariants as files
use Rattle.vl_frame.specs.declared.kinds.FrameKind.TheVariants as kinds
use Rattle.vl_frame.specs.laws.NumberLaws.{one_number}
use Rattle.vl_model.specs.Keys.{value_bytes}
use Rattle.vl_model.specs.Limits.{max_key_bytes}
use Rattle.vl_seglog.specs.Commit.{AreRecords, records_bytes, records_spelling}
use Rattle.vl_seglog.specs.Record.{IsRecord, record_bytes}
use Rattle.vl_seglog.specs.laws.RecordLaws.{length-record_bytes}
use Rattle.vl_seglog.specs.laws.SeriesLaws.{one_series}

pub in_backup : (piece : Piece) → file_of (piece_kind piece) ≡ files.Backup
in_backup (Records ws) = refl
in_backup (End number records) = refl

-- ---- lengths

-- a lawful record is as long as its head, its key and its value may be
record_short : (w : Write) → IsRecord record_format w.0 w.1
    → (length (record_bytes record_format w.0 w.1) ≤ 4104 + value_size w) × (value_size w ≤ 8388608)
record_short w is =
    let key = and_parts (nat_le 1 (length w.0)) (nat_le (length w.0) max_key_bytes) is.key_length in
    let key_short : length w.0 ≤ 4096 = grind (arith, nat_tests, key.1) in
    let value_short : length (value_bytes w.1) ≤ 8388608 = grind (arith, nat_tests, is.value_length) in
    (omega (arith, length-record_bytes record_format w.0 w.1, key_short), value_short)

records_short : (ws : List Write) → AreRecords record_format ws
    → length (records_bytes record_format ws) ≤ 4104 * length ws + size_of ws
records_short [] lawful = omega arith
records_short (w ∷ ws) lawful =
    omega (
      arith,
      length-append (record_bytes record_format w.0 w.1) (records_bytes record_format ws),
      (record_short w lawful.0).0,
      records_short ws lawful.1,
    )

alone_short : (ws : List Write) → length ws ≡ 1 → AreRecords record_format ws → size_of ws ≤ 8388608
alone_short [] one lawful = omega arith
alone_short (w ∷ []) one lawful = omega (arith, (record_short w lawful.0).1)
alone_short (w ∷ v ∷ ws) one lawful = absurd (omega (arith, one))

-- the longest body
abbrev pub max_body : ℕ
max_body = 8392716

-- A lawful batch's body isn't longer.
pub changes_short : (ws : List Write) → AreChanges ws → length (changes_body ws) ≤ max_body
unfolding changes_body
changes_short ws is =
    let all = records_short ws is.lawful in
    let size : length (big_bytes 4 (length ws) ++ records_bytes record_format ws) ≡ 4 + length (records_bytes record_format ws) =
    length-append (big_bytes 4 (length ws)) (records_bytes record_format ws) in
    ⊎_elim
    (λ (one : length ws ≡ 1). let alone = alone_short ws one is.lawful in omega (arith, size, all, one, alone))
    (λ (both : (length ws ≤ max_records) × (size_of ws ≤ max_bytes)).
    let few = both.0 in let light = both.1 in omega (arith, size, all, few, light)) is.batch.bounds

pub body_short : (piece : Piece) → IsPiece piece → length (piece_body piece) ≤ max_body
body_short (Records ws) is = changes_short ws is
body_short (End number records) is = omega arith

-- ---- one spelling

pub batch_few : (ws : List Write) → AreChanges ws → length ws ≤ 64
batch_few ws is = ⊎_elim
    (λ (one : length ws ≡ 1). omega (arith, one))
    (λ (both : (length ws ≤ max_records) × (size_of ws ≤ max_bytes)). let few = both.0 in omega (arith, few)) is.batch.bounds

pub one_changes : (ws vs : List Write) → AreChanges ws → AreChanges vs → changes_body ws ≡ changes_body vs → ws ≡ vs
unfolding changes_body
one_changes ws vs p q e =
    let counts = one_number 4 (length ws) (length vs) (records_bytes record_format ws) (records_bytes record_format vs)
    (omega (arith, batch_few ws p)) (omega (arith, batch_few vs q)) e in
    one_series (records_spelling record_format) ws vs p.lawful q.lawful counts.0 counts.1

one_end : (m n c d : ℕ) → IsPiece (End m c) → IsPiece (End n d) → end_body m c ≡ end_body n d → (m ≡ n) × (c ≡ d)
one_end m n c d p q e =
    let first = one_number 8 m n (big_bytes 8 c) (big_bytes 8 d) (omega (arith, p.0)) (omega (arith, q.0)) e in
    let behind : big_bytes 8 c ++ [] ≡ big_bytes 8 d ++ [] = append-nil (big_bytes 8 c) ∙ first.1 ∙ sym (append-nil (big_bytes 8 d)) in
    let second = one_number 8 c d [] [] (omega (arith, p.1)) (omega (arith, q.1)) behind in
    (first.0, second.0)

two_kinds : kinds.Changes ≡ kinds.BackupEnd → ⊥
two_kinds e = cc

pub one_spelling : (a b : Piece) → IsPiece a → IsPiece b → length (piece_body a) < 2 ^ 32 → piece_kind a ≡ piece_kind b
    → piece_body a ≡ piece_body b → a ≡ b
one_spelling (Records ws) (Records vs) p q short kind body = ap Records (one_changes ws vs p q body)
one_spelling (Records ws) (End n d) p q short kind body = absurd (two_kinds kind)
one_spelling (End m c) (Records vs) p q short kind body = absurd (two_kinds (sym kind))
one_spelling (End m c) (End n d) p q short kind body =
    let same = one_end m n c d p q body in
    ap (λ (x : ℕ). End x c) same.0 ∙ ap (End n) same.1
