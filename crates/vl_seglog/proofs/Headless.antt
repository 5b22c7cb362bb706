-- A log's header that was found, or wasn't.
use Rattle.std.proofs.Common.{ℕ, ◌<◌, ◌≤◌, ◌^◌, List, ◌++◌, take, drop, refl, sym, ap, ◌∙◌, arith}
use Rattle.std.proofs.lemmas.List.{take-append-drop, take_at}
use Rattle.std.specs.Prelude.{IfNone, IfSome, Option, None, Some}
use Rattle.vl_frame.specs.Header.{IsHeader}
use Rattle.vl_frame.specs.declared.kinds.FileKind.TheVariants as files
use Rattle.vl_model.specs.Formats.{log_format}
use Rattle.vl_seglog.specs.Frames.{log_header}
use Rattle.vl_seglog.specs.LogReading.{SaysFormat}

pub no_header : (number : ℕ) (bytes : List ℕ) → number < 2 ^ 32
    → ((format : ℕ) → 1 ≤ format → format ≤ log_format → IsHeader files.Log format number bytes → ⊥) → SaysFormat None number bytes
no_header number bytes fits none format is has =
    none format is.least is.greatest (record {
      format_fits = omega (arith, is.greatest);
      number_fits = fits;
      rest = drop 16 bytes;
      spelled = sym (take-append-drop 16 bytes) ∙ ap (λ (front : List ℕ). front ++ drop 16 bytes) has;
    })

pub says_format : (format number : ℕ) (bytes : List ℕ) → IsHeader files.Log format number bytes → 1 ≤ format
    → format ≤ log_format → SaysFormat (Some format) number bytes
says_format format number bytes header least greatest =
    (record { least = least; greatest = greatest }, ap (take 16) header.spelled ∙ take_at (log_header format number) header.rest 16 refl)

-- what was found is what the bytes say
pub heading_read : (number : ℕ) (bytes : List ℕ) → number < 2 ^ 32 → (header : Option ℕ)
    → IfSome header (λ format. IsHeader files.Log format number bytes)
    → IfSome header (λ format. (1 ≤ format) × (format ≤ log_format))
    → IfNone header ((format : ℕ) → 1 ≤ format → format ≤ log_format → IsHeader files.Log format number bytes → ⊥)
    → SaysFormat header number bytes
heading_read number bytes fits (Some format) found readable none =
    says_format format number bytes found readable.0 readable.1
heading_read number bytes fits None found readable none = no_header number bytes fits none
