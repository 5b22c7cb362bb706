use Rattle.std.proofs.Common.{◌∙◌, refl, sym, subst}
use Rattle.lru.specs.LruCache.{LruCache}
use Rattle.vl_cache.specs.Cache.{AreOf, block_eq}
use Rattle.vl_cache.specs.declared.block.Block.{Block}
use Rattle.vl_cache.specs.declared.kept.Kept.{Kept}
use Rattle.vl_cache.proofs.CacheLaws.{found-is-of, promoted-are-of}
use Rattle.vl_cache.proofs.cached.Cached.fill.Goals as goal

pub copy_from_slice-requires : goal.copy_from_slice-requires
copy_from_slice-requires g c =
    let of = found-is-of g.R.Held.HeldFile.bytes c.args.self.now.kept.entries c.args.block c.in-Some.kept.now c.args.self.now.told
    (sym c.in-Some.ensures) in
    rw c.deref.ensures.value (sym c.requires ∙ sym of.size)

pub invariant_of-self : goal.invariant_of-self
invariant_of-self g c = record {
  told = subst (λ (cache : LruCache Block (Kept g.row.R-Held.Denot)). AreOf g.R.Held.HeldFile.bytes cache.entries) (sym c.promote.ensures.entries)
      (promoted-are-of g.R.Held.HeldFile.bytes (block_eq c.args.block) c.args.self.now.kept.entries c.args.self.now.told);
}

pub returns-clause-hit : goal.returns-clause-hit
returns-clause-hit g c _ =
    let same = c.if-not-same.ensures.0 refl in (
      c.in-Some.kept.now,
      record { found = sym c.in-Some.ensures; name = same.0; same = same.1 },
      c.copy_from_slice.ensures.after ∙ c.deref.ensures.value,
      c.promote.ensures.entries,
    )
