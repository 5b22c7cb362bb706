use Rattle.std.proofs.Common.{◌∙◌, refl}
use Rattle.vl_cache.proofs.CacheLaws.{found-is-of, hit_bytes}
use Rattle.vl_cache.proofs.cached.CachedReader.read.Goals as goal

pub returns-then-fill-clause-bytes : goal.returns-then-fill-clause-bytes
returns-then-fill-clause-bytes g c bytes tells =
    let hit = c.if-fill.ensures.hit refl in
    let of = found-is-of g.R.Held.HeldFile.bytes c.args.self.now.kept.entries _ hit.0 c.args.self.now.told hit.1.found in
    hit.2 ∙ hit_bytes g.R.Held.HeldFile.bytes _ c.args.held.now hit.0 g.met.R.Held.HeldFile.alike of hit.1.same bytes tells
