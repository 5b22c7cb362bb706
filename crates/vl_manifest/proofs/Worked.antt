-- Two manifests, byte by byte.
use Rattle.std.specs.Prelude.{◌≡◌, [], ◌∷◌, refl}
use Rattle.sha2.specs.Sha256.{compress, digest_bytes, first_words, hash_after, rounds, schedule, sha256}
use Rattle.vl_frame.specs.Frame.{check_of, frame_bytes}
use Rattle.vl_manifest.specs.Manifest.{manifest_bytes}
use Rattle.vl_manifest.specs.States.{fresh_state, whole_edits}

-- Manifest 1 of a store that has nothing yet: the header; kind and length of a frame; the count of its
-- edits; Head, by which log 1 is the first and commits up to 0 are in tables; Next, by which log 1 and
-- table 1 may be given; and the frame's check.
pub worked_manifest : manifest_bytes 1 (whole_edits fresh_state ∷ [])
    ≡ 0x56 ∷ 0x4d ∷ 0x41 ∷ 0x4e ∷ 0 ∷ 0 ∷ 0 ∷ 4 ∷ 0 ∷ 0 ∷ 0 ∷ 1 ∷ 0 ∷ 0 ∷ 0 ∷ 0
    ∷ 6 ∷ 0 ∷ 0 ∷ 0 ∷ 26
    ∷ 0 ∷ 0 ∷ 0 ∷ 2
    ∷ 3 ∷ 0 ∷ 0 ∷ 0 ∷ 1 ∷ 0 ∷ 0 ∷ 0 ∷ 0 ∷ 0 ∷ 0 ∷ 0 ∷ 0
    ∷ 4 ∷ 0 ∷ 0 ∷ 0 ∷ 1 ∷ 0 ∷ 0 ∷ 0 ∷ 1
    ∷ 0x8d ∷ 0xf1 ∷ 0xd8 ∷ 0x60 ∷ 0x1b ∷ 0xeb ∷ 0xe2 ∷ 0xd7 ∷ []
unfolding frame_bytes check_of sha256 digest_bytes hash_after compress rounds schedule first_words
worked_manifest = refl

-- Manifest 2 of a store that has flushed log 1, whose three commits are in table 1; it keeps two versions of each key
-- since commit 1, and the deletion 2 was dropped for good. Add, Head, Next, Keep and Gone.
pub worked_state : manifest_bytes 2 (whole_edits (record {
  levels = (1 ∷ []) ∷ [] ∷ [] ∷ [] ∷ [] ∷ [] ∷ [] ∷ [];
  head = 2;
  covered = 3;
  next_log = 3;
  next_table = 2;
  keep = 2;
  since = 1;
  gone = 2;
}) ∷ [])
    ≡ 0x56 ∷ 0x4d ∷ 0x41 ∷ 0x4e ∷ 0 ∷ 0 ∷ 0 ∷ 4 ∷ 0 ∷ 0 ∷ 0 ∷ 2 ∷ 0 ∷ 0 ∷ 0 ∷ 0
    ∷ 6 ∷ 0 ∷ 0 ∷ 0 ∷ 55
    ∷ 0 ∷ 0 ∷ 0 ∷ 5
    ∷ 1 ∷ 0 ∷ 0 ∷ 0 ∷ 0 ∷ 0 ∷ 0 ∷ 0 ∷ 0 ∷ 1
    ∷ 3 ∷ 0 ∷ 0 ∷ 0 ∷ 2 ∷ 0 ∷ 0 ∷ 0 ∷ 0 ∷ 0 ∷ 0 ∷ 0 ∷ 3
    ∷ 4 ∷ 0 ∷ 0 ∷ 0 ∷ 3 ∷ 0 ∷ 0 ∷ 0 ∷ 2
    ∷ 5 ∷ 2 ∷ 0 ∷ 0 ∷ 0 ∷ 0 ∷ 0 ∷ 0 ∷ 0 ∷ 1
    ∷ 6 ∷ 0 ∷ 0 ∷ 0 ∷ 0 ∷ 0 ∷ 0 ∷ 0 ∷ 2
    ∷ 0xb0 ∷ 0xaf ∷ 0xf5 ∷ 0x19 ∷ 0x9e ∷ 0x80 ∷ 0xe4 ∷ 0x57 ∷ []
unfolding frame_bytes check_of sha256 digest_bytes hash_after compress rounds schedule first_words
worked_state = refl
