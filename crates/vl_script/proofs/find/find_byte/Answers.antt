use Rattle.std.proofs.Common.{◌==◌}
use Rattle.vl_script.proofs.FirstBytes.{first_byte-position}
use Rattle.vl_script.proofs.find.find_byte.Goals as goal

pub returns : goal.returns
returns c = first_byte-position (λ b. b == c.args.byte) c.args.bytes.now c.memchr.result c.memchr.ensures
