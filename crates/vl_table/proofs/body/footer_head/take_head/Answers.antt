use Rattle.std.proofs.Common.{sym, ◌∙◌}
use Rattle.vl_table.specs.body.Footer.{Head}
use Rattle.vl_table.specs.laws.EntryLaws.{one_key}
use Rattle.vl_table.specs.laws.FooterLaws.{head-found, numbers-taken}
use Rattle.vl_table.proofs.body.footer_head.take_head.Goals as goal

pub returns-clause-found : goal.returns-clause-found
returns-clause-found c =
    head-found _ c.args.bytes.now c.in_ok-filter.rest.now c.in_ok-index_place.rest.now c.in_ok-index_length.rest.now c.in_ok-count.rest.now
    c.in_ok-greatest.rest.now c.in_ok-first.rest.now c.in_ok-last.rest.now c.in_ok-filter.ensures.found c.in_ok-index_place.ensures.found
    c.in_ok-index_length.ensures.found c.in_ok-count.ensures.found c.in_ok-greatest.ensures.found c.in_ok-first.ensures.found
    c.in_ok-last.ensures.found

pub returns-in_err-first-clause-none : goal.returns-in_err-first-clause-none
returns-in_err-first-clause-none c =
    rw c.from_residual-in_err-first.ensures (λ h rest lawful spelled.
    let g : Head = record {
      filter = c.in_ok-filter.filter;
      index_place = c.in_ok-index_place.index_place;
      index_length = c.in_ok-index_length.index_length;
      count = c.in_ok-count.count;
      greatest = c.in_ok-greatest.greatest;
      first = h.first;
      last = h.last;
    } in
    c.in_err-first.ensures.none h.first _ lawful.first
    (numbers-taken c.args.format g h c.args.bytes.now rest c.in_ok-filter.rest.now c.in_ok-index_place.rest.now
    c.in_ok-index_length.rest.now c.in_ok-count.rest.now c.in_ok-greatest.rest.now
    c.in_ok-filter.ensures.lawful c.in_ok-index_place.ensures.fits c.in_ok-index_length.ensures.fits
    c.in_ok-count.ensures.fits c.in_ok-greatest.ensures.fits lawful
    c.in_ok-filter.ensures.found c.in_ok-index_place.ensures.found c.in_ok-index_length.ensures.found
    c.in_ok-count.ensures.found c.in_ok-greatest.ensures.found spelled))

pub returns-in_err-last-clause-none : goal.returns-in_err-last-clause-none
returns-in_err-last-clause-none c =
    rw c.from_residual-in_err-last.ensures (λ h rest lawful spelled.
    let g : Head = record {
      filter = c.in_ok-filter.filter;
      index_place = c.in_ok-index_place.index_place;
      index_length = c.in_ok-index_length.index_length;
      count = c.in_ok-count.count;
      greatest = c.in_ok-greatest.greatest;
      first = h.first;
      last = h.last;
    } in
    let left = numbers-taken c.args.format g h c.args.bytes.now rest c.in_ok-filter.rest.now
    c.in_ok-index_place.rest.now c.in_ok-index_length.rest.now c.in_ok-count.rest.now c.in_ok-greatest.rest.now
    c.in_ok-filter.ensures.lawful c.in_ok-index_place.ensures.fits c.in_ok-index_length.ensures.fits
    c.in_ok-count.ensures.fits c.in_ok-greatest.ensures.fits lawful
    c.in_ok-filter.ensures.found c.in_ok-index_place.ensures.found c.in_ok-index_length.ensures.found
    c.in_ok-count.ensures.found c.in_ok-greatest.ensures.found spelled in
    let keys = one_key c.in_ok-first.first.now h.first c.in_ok-first.rest.now _ c.in_ok-first.ensures.lawful
    lawful.first (sym c.in_ok-first.ensures.found ∙ left) in
    c.in_err-last.ensures.none h.last rest lawful.last keys.1)
