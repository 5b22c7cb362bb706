use Rattle.std.proofs.Common.{List, ℕ, ap, arith, drop, subst, sym, take}
use Rattle.vl_table.specs.body.Starts.{AreStarts}
use Rattle.vl_table.specs.laws.WalkedLaws.{block_walked, walked_body}
use Rattle.vl_table.proofs.body.block.find_starts.Goals as goal

pub returns-then-not-are_entries-clause-none : goal.returns-then-not-are_entries-clause-none
returns-then-not-are_entries-clause-none c = λ es says.
    let yes = c.are_entries.ensures.whole es (block_walked c.args.tested c.args.format c.in_ok-count.count c.args.body.now c.in_ok-count.bytes.now
    c.in_ok-count.ensures.found c.in_ok-count.ensures.fits es says) in
    let no = c.if-not-are_entries.true in cc

pub returns-clause-found : goal.returns-clause-found
returns-clause-found c =
    let found = c.are_entries.ensures.found c.if-not-are_entries.false in (
      found.0,
      walked_body c.args.tested c.args.format c.in_ok-count.count c.args.body.now c.in_ok-count.bytes.now
          c.in_ok-count.ensures.found c.in_ok-count.ensures.fits found.0
          (omega (arith, c.if-body-gt-MAX_BODY_BYTES.false)) found.1,
      subst (λ (l : List ℕ). AreStarts c.args.format l (take c.in_ok-count.count c.are_entries.new.starts) found.0)
          (sym (ap (drop 4) c.in_ok-count.ensures.found)) found.2,
    )
