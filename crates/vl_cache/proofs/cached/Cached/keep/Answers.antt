use Rattle.std.proofs.Common.{◌≤◌, arith}
use Rattle.vl_cache.proofs.CacheLaws.{after_put, kept-is-of, may_be_put}
use Rattle.vl_cache.proofs.cached.Cached.keep.Goals as goal

pub invariant_of-self : goal.invariant_of-self
invariant_of-self g c =
    let shared = g.met.R.Held.HeldFile.shared c.args.held.now c.in-Ok.kept.held c.in-Ok.ensures.held in
    let is = kept-is-of g.R.Held.HeldFile.bytes c.args.held.now c.args.block c.args.bytes.now c.in-Ok.kept c.requires.size c.requires.told
    shared.0 c.in-Ok.ensures.bytes in
    record {
      told = after_put c.args.block c.in-Ok.kept c.args.self.now.kept c.put.new.self g.R.Held.HeldFile.bytes c.put.result
          c.put.ensures.entries c.put.ensures.err c.args.self.now.told is;
    }

pub returns-in-Ok-clause-kept : goal.returns-in-Ok-clause-kept
returns-in-Ok-clause-kept g c =
    let short : c.args.block.len ≤ 8192 = omega (arith, c.requires.size) in
    may_be_put c.args.block c.in-Ok.kept c.args.self.now.kept c.put.new.self g.R.Held.Clone.is_clone c.args.held.now c.args.bytes.now
    c.put.result c.put.ensures.entries c.put.ensures.err short c.in-Ok.ensures.held c.in-Ok.ensures.bytes
