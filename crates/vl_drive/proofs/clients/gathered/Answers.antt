use Rattle.std.proofs.Common.{rules, ◌≡◌, ◌+◌, [], ◌∷◌, ◌++◌, length, ap, sym, ◌∙◌, subst, arith, append_assoc, length-append}
use Rattle.std.specs.List.{AllByRecursion}
use Rattle.std.specs.Vec.Iter.{into_iter_items}
use Rattle.vl_drive.proofs.Gathering.{commits_more, conflicts_more, last_more, map_more}
use Rattle.vl_drive.specs.Players.{IsFew, IsLast, commits_of, conflicts_of, shop_of}
use Rattle.vl_drive.proofs.clients.gathered.Goals as goal

pub added-trouble-requires : goal.added-trouble-requires
added-trouble-requires g c =
    let inv = c.loop-player.invariant in
    let met = inv.2 in
    let more : into_iter_items c.loop-player.player-iterator ≡ c.in-Some.player ∷ into_iter_items c.next.new.self = c.in-Some.ensures.steps.0 in
    let few = (subst (AllByRecursion IsFew) more inv.0).0 in
    let commits = met.3 in
    let conflicts = met.4 in
    let bound = met.6 in
    let all = sym (length-append met.0 (into_iter_items c.loop-player.player-iterator)) ∙ ap length met.1 in
    let most = c.requires.few in
    omega (arith, few, commits, conflicts, bound, all, most)

pub loop-player-preserved : goal.loop-player-preserved
loop-player-preserved g c =
    let inv = c.loop-player.invariant in
    let met = inv.2 in
    let p = c.in-Some.player in
    let left = into_iter_items c.next.new.self in
    let more : into_iter_items c.loop-player.player-iterator ≡ p ∷ left = c.in-Some.ensures.steps.0 in
    let few = subst (AllByRecursion IsFew) more inv.0 in
    let items : c.push.new.self.items ≡ c.loop-player.shops.items ++ p.shop ∷ [] = search rules in
    let commits = commits_more met.0 p in
    let conflicts = conflicts_more met.0 p in
    let bound = met.6 in
    let one = few.0 in
    let length_is = length-append met.0 (p ∷ []) in (
      few.1,
      let was = inv.1 in let gone = c.in-Some.ensures.steps.1 in let short = ap length more in omega arith,
      (
        met.0 ++ p ∷ [],
        append_assoc met.0 (p ∷ []) left ∙ (ap (λ xs. met.0 ++ xs) (sym more) ∙ met.1),
        items ∙ ap (λ xs. xs ++ p.shop ∷ []) met.2 ∙ sym (map_more shop_of met.0 p),
        c.added-trouble.ensures.commits ∙ ap (λ n. n + commits_of p.end) met.3 ∙ sym commits,
        c.added-trouble.ensures.conflicts ∙ ap (λ n. n + conflicts_of p.end) met.4 ∙ sym conflicts,
        subst (λ t. IsLast t (met.0 ++ p ∷ [])) (sym c.added-trouble.ensures.last) (last_more c.loop-player.trouble met.0 p met.5),
        omega (arith, commits, conflicts, bound, one, length_is),
      ),
    )
