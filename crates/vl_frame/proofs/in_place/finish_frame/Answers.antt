use Rattle.std.proofs.Common.{◌≡◌, ◌∙◌, ◌++◌, ap, sym, drop}
use Rattle.std.proofs.lemmas.List.{with_items_is}
use Rattle.vl_frame.proofs.InPlace.{as_long, finishes}
use Rattle.vl_frame.proofs.in_place.finish_frame.Goals as goal

pub returns-clause-written : goal.returns-clause-written
returns-clause-written c = λ room body five is.
    let frame = c.extend_from_slice.new.self in
    let written = c.fill_head.new.frame in
    let fills : written ≡ c.head.result ++ drop 5 frame.items = c.fill_head.ensures
    ∙ ap (λ l. c.head.result ++ drop 5 l) c.deref_mut.ensures.value in
    with_items_is frame written
    (as_long c.args.number c.args.at c.args.kind room body _ frame.items _ c.head.result _ written five is
    c.in_ok-extend_from_slice.ensures.items c.deref.ensures.value c.head.ensures fills ∙ sym frame.ok.0)
    ∙ finishes c.args.number c.args.at c.args.kind room body _ frame.items _ c.head.result _ written five is
    c.in_ok-extend_from_slice.ensures.items c.deref.ensures.value c.head.ensures fills c.check-check.ensures
