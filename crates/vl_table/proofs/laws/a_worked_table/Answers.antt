use Rattle.std.specs.Prelude.{refl}
use Rattle.sha2.specs.Sha256.{compress, digest_bytes, first_words, hash_after, rounds, schedule, sha256}
use Rattle.vl_filter.specs.Places.{first_hash, second_hash}
use Rattle.vl_frame.specs.Frame.{check_of, frame_bytes}
use Rattle.vl_table.proofs.laws.a_worked_table.Goals as goal

pub returns-clause-first : goal.returns-clause-first
unfolding frame_bytes check_of sha256 digest_bytes hash_after compress rounds schedule first_words
returns-clause-first c = refl

pub returns-clause-last : goal.returns-clause-last
unfolding frame_bytes check_of first_hash second_hash sha256 digest_bytes hash_after compress rounds schedule first_words
returns-clause-last c = refl
