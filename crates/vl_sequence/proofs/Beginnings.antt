-- Beginnings of lists, sessions that go on, and errors that are passed up.
use Rattle.std.proofs.Common.{◌≡◌, List, ◌++◌, [], Result, Ok, Err, IfErr, IsErrAnd, refl, ap, sym, ◌∙◌, subst, append_assoc, append-nil, arith}
use Rattle.vl_drive.specs.Knowing.{GoesOn, Knows}
use mathlib.Core.List.{IsPrefix}

module _ {A : Type 0} where
  pub begins_itself : (list : List A) → IsPrefix list list
  begins_itself list = ([], append-nil list)

  pub begins_more : (xs ys zs : List A) → IsPrefix xs ys → IsPrefix ys zs → IsPrefix xs zs
  begins_more xs ys zs p q =
      let whole : (xs ++ p.0) ++ q.0 ≡ zs = ap (λ l. l ++ q.0) p.1 ∙ q.1 in
      (p.0 ++ q.0, sym (append_assoc xs p.0 q.0) ∙ whole)

pub on_itself : (v : Knows) → GoesOn v v
on_itself v = record {
  store = refl;
  origin = refl;
  session = refl;
  seen = begins_itself v.seen;
  own = begins_itself v.own;
  faults = omega arith;
  sure_is = refl;
  sure = λ is. refl;
}

pub on_then : (u v w : Knows) → GoesOn u v → GoesOn v w → GoesOn u w
on_then u v w p q = record {
  store = q.store ∙ p.store;
  origin = q.origin ∙ p.origin;
  session = q.session ∙ p.session;
  seen = begins_more u.seen v.seen w.seen p.seen q.seen;
  own = begins_more u.own v.own w.own p.own q.own;
  faults = let a = p.faults in let b = q.faults in omega (arith, a, b);
  sure_is = q.sure_is ∙ p.sure_is;
  sure = λ is. q.sure (p.sure_is ∙ is) ∙ p.sure is;
}

-- `?` passes an error up as it is
pub passed_up : {A E : Type 0} (r : Result A E) (e : E) (P : E → Type 0) → IsErrAnd r (λ f. f ≡ e) → P e → IfErr r P
passed_up (Ok a) e P is holds = tt
passed_up (Err f) e P is holds = subst P (sym is) holds
