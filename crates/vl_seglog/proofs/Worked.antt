-- Logs, byte by byte.
use Rattle.std.specs.Prelude.{◌≡◌, [], ◌∷◌, refl}
use Rattle.sha2.specs.Sha256.{compress, digest_bytes, first_words, hash_after, rounds, schedule, sha256}
use Rattle.vl_frame.specs.Frame.{check_of, frame_bytes}
use Rattle.vl_model.specs.Keys.{tagged, untagged}
use Rattle.vl_model.specs.declared.change.Change.TheVariants.{Set}
use Rattle.vl_model.specs.declared.log_frame.LogFrame.TheVariants.{Committed, Relocated}
use Rattle.vl_seglog.specs.Commit.{commit_body}
use Rattle.vl_seglog.specs.Frames.{log_bytes}
use Rattle.vl_seglog.specs.Record.{record_bytes}
use Rattle.vl_seglog.specs.Relocation.{relocation_body}

-- Log 1 with commit 1, which sets key 61 to value 01 with tag 7, and a relocation, which writes that record again: the header, and
-- of each frame its kind, the body's length, the body, and the check, which another program computed.
pub worked_log : log_bytes 2 1
    (Committed 1 ((97 ∷ [], Set (tagged (1 ∷ []) 7)) ∷ []) ∷ Relocated
    (record { key = 97 ∷ []; version = 1; value = tagged (1 ∷ []) 7 } ∷ []) ∷ [])
    ≡ 0x56 ∷ 0x4c ∷ 0x4f ∷ 0x47 ∷ 0 ∷ 0 ∷ 0 ∷ 2 ∷ 0 ∷ 0 ∷ 0 ∷ 1 ∷ 0 ∷ 0 ∷ 0 ∷ 0
    ∷ 1 ∷ 0 ∷ 0 ∷ 0 ∷ 22
    ∷ 0 ∷ 0 ∷ 0 ∷ 0 ∷ 0 ∷ 0 ∷ 0 ∷ 1 ∷ 0 ∷ 0 ∷ 0 ∷ 1
    ∷ 0 ∷ 7 ∷ 0 ∷ 1 ∷ 0 ∷ 0 ∷ 0 ∷ 1 ∷ 0x61 ∷ 1
    ∷ 0x63 ∷ 0xf4 ∷ 0x6e ∷ 0x62 ∷ 0xcd ∷ 0x3a ∷ 0x7e ∷ 0x99
    ∷ 2 ∷ 0 ∷ 0 ∷ 0 ∷ 22
    ∷ 0 ∷ 0 ∷ 0 ∷ 1
    ∷ 0 ∷ 0 ∷ 0 ∷ 0 ∷ 0 ∷ 0 ∷ 0 ∷ 1 ∷ 0 ∷ 7 ∷ 0 ∷ 1 ∷ 0 ∷ 0 ∷ 0 ∷ 1 ∷ 0x61 ∷ 1
    ∷ 0x1a ∷ 0x6f ∷ 0x5b ∷ 0xd6 ∷ 0xa8 ∷ 0xc6 ∷ 0xb8 ∷ 0xb8 ∷ []
unfolding frame_bytes check_of sha256 digest_bytes hash_after compress rounds schedule first_words commit_body record_bytes relocation_body
worked_log = refl

-- The same commit in format 1, which has no tags.
pub worked_log_before_tags : log_bytes 1 1 (Committed 1 ((97 ∷ [], Set (untagged (1 ∷ []))) ∷ []) ∷ [])
    ≡ 0x56 ∷ 0x4c ∷ 0x4f ∷ 0x47 ∷ 0 ∷ 0 ∷ 0 ∷ 1 ∷ 0 ∷ 0 ∷ 0 ∷ 1 ∷ 0 ∷ 0 ∷ 0 ∷ 0
    ∷ 1 ∷ 0 ∷ 0 ∷ 0 ∷ 21
    ∷ 0 ∷ 0 ∷ 0 ∷ 0 ∷ 0 ∷ 0 ∷ 0 ∷ 1 ∷ 0 ∷ 0 ∷ 0 ∷ 1
    ∷ 0 ∷ 0 ∷ 1 ∷ 0 ∷ 0 ∷ 0 ∷ 1 ∷ 0x61 ∷ 1
    ∷ 0x4b ∷ 0x93 ∷ 0xa9 ∷ 0x61 ∷ 0xb6 ∷ 0xcc ∷ 0xa4 ∷ 0xb4 ∷ []
unfolding frame_bytes check_of sha256 digest_bytes hash_after compress rounds schedule first_words commit_body record_bytes
worked_log_before_tags = refl
