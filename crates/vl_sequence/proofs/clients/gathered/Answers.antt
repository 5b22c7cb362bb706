use Rattle.std.proofs.Common.{rules, ◌≡◌, ◌+◌, [], ◌∷◌, ◌++◌, length, map, ap, sym, ◌∙◌, subst, arith, append_assoc, length-append}
use Rattle.std.specs.List.{AllByRecursion}
use Rattle.std.specs.Vec.Iter.{into_iter_items}
use Rattle.vl_sequence.proofs.Gathering.{given_more, last_more, leases_more, map_more}
use Rattle.vl_sequence.specs.Clients.{IsFew, IsLast, given_of, leases_of, shop_of}
use Rattle.vl_sequence.proofs.clients.gathered.Goals as goal

pub loop-client-preserved : goal.loop-client-preserved
loop-client-preserved g c =
    let inv = c.loop-client.invariant in
    let met = inv.2 in
    let p = c.in-Some.client in
    let left = into_iter_items c.next.new.self in
    let more : into_iter_items c.loop-client.client-iterator ≡ p ∷ left = c.in-Some.ensures.steps.0 in
    let few = subst (AllByRecursion IsFew) more inv.0 in
    let items : c.push.new.self.items ≡ c.loop-client.shops.items ++ c.into_shop.result ∷ [] = search rules in
    let given = given_more met.0 p in
    let leases = leases_more met.0 p in
    let given_bound = met.6 in
    let leases_bound = met.7 in
    let given_one = few.0.0 in
    let leases_one = few.0.1 in
    let length_is = length-append met.0 (p ∷ []) in (
      few.1,
      let was = inv.1 in let gone = c.in-Some.ensures.steps.1 in let short = ap length more in omega arith,
      (
        met.0 ++ p ∷ [],
        append_assoc met.0 (p ∷ []) left ∙ (ap (λ xs. met.0 ++ xs) (sym more) ∙ met.1),
        items ∙ (ap (λ xs. xs ++ c.into_shop.result ∷ []) met.2 ∙ (ap (λ x. map shop_of met.0 ++ x ∷ []) c.into_shop.ensures
            ∙ sym (map_more shop_of met.0 p))),
        c.added-last.ensures.given ∙ ap (λ n. n + given_of p.end) met.3 ∙ sym given,
        c.added-last.ensures.leases ∙ ap (λ n. n + leases_of p.end) met.4 ∙ sym leases,
        subst (λ t. IsLast t (met.0 ++ p ∷ [])) (sym c.added-last.ensures.last) (last_more c.loop-client.last met.0 p met.5),
        omega (arith, given, given_bound, given_one, length_is),
        omega (arith, leases, leases_bound, leases_one, length_is),
      ),
    )
