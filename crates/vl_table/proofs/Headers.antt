-- A table's header is that of its first bytes.
use Rattle.std.specs.Prelude.{ℕ, List, [], ◌++◌, take, drop}
use Rattle.std.proofs.Common.{ap, sym, ◌∙◌, append_assoc, append-nil}
use Rattle.std.proofs.lemmas.List.{take-append-drop, take_at}
use Rattle.vl_disk.specs.DiskState.{bytes_at}
use Rattle.vl_frame.specs.Header.{header_bytes}
use Rattle.vl_frame.specs.laws.HeaderLaws.{length-header_bytes}
use Rattle.vl_frame.specs.declared.kinds.FileKind.TheVariants as files
use Rattle.vl_table.specs.Begun.{HasHeader}

pub header_more : (format number : ℕ) (bytes : List ℕ) → HasHeader format number (bytes_at 0 16 bytes) → HasHeader format number bytes
header_more format number bytes h = record {
  first = h.first;
  readable = h.readable;
  header = record {
    format_fits = h.header.format_fits;
    number_fits = h.header.number_fits;
    rest = h.header.rest ++ drop 16 bytes;
    spelled = sym (take-append-drop 16 bytes) ∙ ap (λ (l : List ℕ). l ++ drop 16 bytes) h.header.spelled
        ∙ append_assoc (header_bytes files.Table format number) h.header.rest (drop 16 bytes);
  };
}

-- and its first bytes have it
pub header_fewer : (format number : ℕ) (bytes : List ℕ) → HasHeader format number bytes → HasHeader format number (bytes_at 0 16 bytes)
header_fewer format number bytes h = record {
  first = h.first;
  readable = h.readable;
  header = record {
    format_fits = h.header.format_fits;
    number_fits = h.header.number_fits;
    rest = [];
    spelled = ap (take 16) h.header.spelled ∙ take_at (header_bytes files.Table format number) h.header.rest 16
        (sym (length-header_bytes files.Table format number))
        ∙ sym (append-nil (header_bytes files.Table format number));
  };
}
