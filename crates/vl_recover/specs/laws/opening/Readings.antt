-- What a table says is read in one way, and a damaged one is damaged first at one place.
use Rattle.std.specs.Prelude.{◌≡◌, ℕ, List, drop, Option, Some, None}
use Rattle.std.proofs.Common.{ap, sym, subst, ◌∙◌}
use Rattle.vl_filter.specs.Filters.{SpellsFilter}
use Rattle.vl_filter.specs.laws.Spelling.{one_filter}
use Rattle.vl_frame.specs.laws.HeaderLaws.{one_header}
use Rattle.vl_frame.specs.laws.Laws.{one_frame}
use Rattle.vl_frame.specs.declared.kinds.FileKind.TheVariants as files
use Rattle.vl_frame.specs.declared.kinds.FrameKind.TheVariants as kinds
use Rattle.vl_table.specs.body.Footer.{Foot, SpellsFooter}
use Rattle.vl_table.specs.laws.FooterLaws.{one_footer}
use Rattle.vl_table.specs.body.Index.{places}
use Rattle.vl_table.specs.laws.ListLaws.{one_list}
use Rattle.vl_table.specs.declared.body.footer_head.FramePlace.{FramePlace}
use Rattle.vl_table.specs.declared.body.index.BlockPlace.{BlockPlace}
use Rattle.vl_table.specs.Opening.{HasFooter, IsDamaged, IsRead, Said, StandsFilter, StandsFooter, StandsIndex}
use Rattle.vl_table.specs.Opening.{no_filter, no_footer, no_header, no_index, no_place}
use Rattle.vl_table.specs.Begun.{IsBegun, said_place}

-- ---- one reading

one_format : (format other number : ℕ) (bytes : List ℕ) → IsBegun format number bytes → IsBegun other number bytes → format ≡ other
one_format format other number bytes a b = (one_header bytes files.Table files.Table format other number number a.header.header
    b.header.header).1

one_foot : (format other number : ℕ) (bytes : List ℕ) (place : ℕ) (f g : Foot) → format ≡ other → StandsFooter format number bytes place f
    → StandsFooter other number bytes place g → f ≡ g
one_foot format other number bytes place f g formats a b =
    let feet = one_frame files.Table number place (drop place bytes) kinds.Footer kinds.Footer a.body b.body a.frame b.frame in
    one_footer other b.body f g (subst (λ (n : ℕ). SpellsFooter n b.body f) formats
    (subst (λ (l : List ℕ). SpellsFooter format l f) feet.1 a.says)) b.says

one_index : (number : ℕ) (bytes : List ℕ) (place size : ℕ) (ps qs : List BlockPlace) → StandsIndex number bytes place size ps
    → StandsIndex number bytes place size qs → ps ≡ qs
one_index number bytes place size ps qs a b =
    let same = one_frame files.Table number place (drop place bytes) kinds.Index kinds.Index a.body b.body a.frame.frame b.frame.frame in
    one_list places b.body ps qs a.says.lawful b.says.lawful (sym same.1 ∙ a.says.spelled) b.says.spelled

one_bits : (number : ℕ) (bytes : List ℕ) (o : Option FramePlace) (xs ys : List ℕ) → StandsFilter number bytes o xs
    → StandsFilter number bytes o ys → xs ≡ ys
one_bits number bytes None xs ys a b = a ∙ sym b
one_bits number bytes (Some p) xs ys a b =
    let same = one_frame files.Table number p.place (drop p.place bytes) kinds.Filter kinds.Filter a.body b.body a.frame.frame
    b.frame.frame in
    one_filter b.body xs ys (subst (λ (l : List ℕ). SpellsFilter l xs) same.1 a.says) b.says

pub one_read : (number : ℕ) (bytes : List ℕ) (said other : Said) → IsRead number bytes said → IsRead number bytes other → said ≡ other
one_read number bytes said other a b =
    let formats = one_format said.format other.format number bytes a.begun b.begun in
    let feet = one_foot said.format other.format number bytes (said_place bytes) said.foot other.foot formats a.footer b.footer in
    let index = subst (λ (h : Foot). StandsIndex number bytes h.head.index_place h.head.index_length other.places) (sym feet) b.index in
    let filter = subst (λ (h : Foot). StandsFilter number bytes h.head.filter other.bits) (sym feet) b.filter in
    let ps = one_index number bytes said.foot.head.index_place said.foot.head.index_length said.places other.places a.index index in
    let bits = one_bits number bytes said.foot.head.filter said.bits other.bits a.filter filter in
    let place = a.place ∙ sym b.place in
    λ k. record { format = formats k; foot = feet k; place = place k; places = ps k; bits = bits k }

same_foot : (number : ℕ) (bytes : List ℕ) (said : Said) (format : ℕ) (f : Foot) → IsRead number bytes said
    → HasFooter number bytes format f → said.foot ≡ f
same_foot number bytes said format f a b =
    one_foot said.format format number bytes (said_place bytes) said.foot f (one_format said.format format number bytes a.begun b.begun)
    a.footer b.footer

-- what can be read isn't damaged
pub not_damaged : (number : ℕ) (bytes : List ℕ) (said : Said) (place : ℕ) → IsRead number bytes said → IsDamaged number bytes place → ⊥
not_damaged number bytes said place is (no_header none at) = none said.format is.begun
not_damaged number bytes said place is (no_place format begun none at) = none is.inside
not_damaged number bytes said place is (no_footer format begun inside none at) =
    none said.foot (subst (λ (n : ℕ). StandsFooter n number bytes (said_place bytes) said.foot)
    (one_format said.format format number bytes is.begun begun) is.footer)
not_damaged number bytes said place is (no_index format f has none at) =
    none said.places (subst (λ (h : Foot). StandsIndex number bytes h.head.index_place h.head.index_length said.places)
    (same_foot number bytes said format f is has) is.index)
not_damaged number bytes said place is (no_filter format f has ps index p named none at) =
    none said.bits
    (subst (λ (o : Option FramePlace). StandsFilter number bytes o said.bits) named
    (subst (λ (h : Foot). StandsFilter number bytes h.head.filter said.bits) (same_foot number bytes said format f is has) is.filter))

-- ---- one damage

one_feet : (number : ℕ) (bytes : List ℕ) (format other : ℕ) (f g : Foot) → HasFooter number bytes format f
    → HasFooter number bytes other g → f ≡ g
one_feet number bytes format other f g a b =
    one_foot format other number bytes (said_place bytes) f g (one_format format other number bytes a.begun b.begun) a.footer b.footer

-- the footer in the format of the header
footer_in : (number : ℕ) (bytes : List ℕ) (format other : ℕ) (f : Foot) → IsBegun format number bytes → HasFooter number bytes other f
    → StandsFooter format number bytes (said_place bytes) f
footer_in number bytes format other f begun has =
    subst (λ (n : ℕ). StandsFooter n number bytes (said_place bytes) f) (one_format other format number bytes has.begun begun) has.footer

place_of : Option FramePlace → ℕ
place_of None = 0
place_of (Some p) = p.place

-- A table is damaged first at one place.
pub one_damage : (number : ℕ) (bytes : List ℕ) (x y : ℕ) → IsDamaged number bytes x → IsDamaged number bytes y → x ≡ y
unfolding place_of
one_damage number bytes x y (no_header none at) (no_header none' at') = at ∙ sym at'
one_damage number bytes x y (no_header none at) (no_place format' begun' none' at') = absurd (none format' begun')
one_damage number bytes x y (no_header none at) (no_footer format' begun' inside' none' at') = absurd (none format' begun')
one_damage number bytes x y (no_header none at) (no_index format' f' has' none' at') = absurd (none format' has'.begun)
one_damage number bytes x y (no_header none at) (no_filter format' f' has' ps' index' p' named' none' at') = absurd
    (none format' has'.begun)
one_damage number bytes x y (no_place format begun none at) (no_header none' at') = absurd (none' format begun)
one_damage number bytes x y (no_place format begun none at) (no_place format' begun' none' at') = at ∙ sym at'
one_damage number bytes x y (no_place format begun none at) (no_footer format' begun' inside' none' at') = absurd (none inside')
one_damage number bytes x y (no_place format begun none at) (no_index format' f' has' none' at') = absurd (none has'.inside)
one_damage number bytes x y (no_place format begun none at) (no_filter format' f' has' ps' index' p' named' none' at') = absurd
    (none has'.inside)
one_damage number bytes x y (no_footer format begun inside none at) (no_header none' at') = absurd (none' format begun)
one_damage number bytes x y (no_footer format begun inside none at) (no_place format' begun' none' at') = absurd (none' inside)
one_damage number bytes x y (no_footer format begun inside none at) (no_footer format' begun' inside' none' at') = at ∙ sym at'
one_damage number bytes x y (no_footer format begun inside none at) (no_index format' f' has' none' at') = absurd
    (none f' (footer_in number bytes format format' f' begun has'))
one_damage number bytes x y (no_footer format begun inside none at) (no_filter format' f' has' ps' index' p' named' none' at') = absurd
    (none f' (footer_in number bytes format format' f' begun has'))
one_damage number bytes x y (no_index format f has none at) (no_header none' at') = absurd (none' format has.begun)
one_damage number bytes x y (no_index format f has none at) (no_place format' begun' none' at') = absurd (none' has.inside)
one_damage number bytes x y (no_index format f has none at) (no_footer format' begun' inside' none' at') = absurd
    (none' f (footer_in number bytes format' format f begun' has))
one_damage number bytes x y (no_index format f has none at) (no_index format' f' has' none' at') =
    at ∙ ap (λ (h : Foot). h.head.index_place) (one_feet number bytes format format' f f' has has') ∙ sym at'
one_damage number bytes x y (no_index format f has none at) (no_filter format' f' has' ps' index' p' named' none' at') =
    absurd (none ps' (subst (λ (h : Foot). StandsIndex number bytes h.head.index_place h.head.index_length ps')
    (one_feet number bytes format' format f' f has' has) index'))
one_damage number bytes x y (no_filter format f has ps index p named none at) (no_header none' at') = absurd (none' format has.begun)
one_damage number bytes x y (no_filter format f has ps index p named none at) (no_place format' begun' none' at') = absurd
    (none' has.inside)
one_damage number bytes x y (no_filter format f has ps index p named none at) (no_footer format' begun' inside' none' at') = absurd
    (none' f (footer_in number bytes format' format f begun' has))
one_damage number bytes x y (no_filter format f has ps index p named none at) (no_index format' f' has' none' at') =
    absurd (none' ps (subst (λ (h : Foot). StandsIndex number bytes h.head.index_place h.head.index_length ps)
    (one_feet number bytes format format' f f' has has') index))
one_damage number bytes x y (no_filter format f has ps index p named none at) (no_filter format' f' has' ps' index' p' named' none' at') =
    at ∙ ap place_of (sym named ∙ ap (λ (h : Foot). h.head.filter) (one_feet number bytes format format' f f' has has') ∙ named') ∙ sym at'
