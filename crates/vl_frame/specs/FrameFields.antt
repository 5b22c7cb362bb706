-- A frame taken apart before its check is compared.
use Rattle.std.specs.Prelude.{◌≡◌, ◌<◌, ◌^◌, ◌++◌, List, length, ℕ}
use Rattle.vl_frame.specs.Frame.{spelling}
use Rattle.vl_frame.specs.declared.kinds.FrameKind.{FrameKind}

-- The bytes begin with a kind, a body and some check of 8 bytes, and the rest follows.
pub record IsApart (bytes : List ℕ) (kind : FrameKind) (body check : List ℕ) : Type 0 where
  pub short : length body < 2 ^ 32
  pub check_length : length check ≡ 8
  pub rest : List ℕ
  pub spelled : bytes ≡ spelling kind body check ++ rest
