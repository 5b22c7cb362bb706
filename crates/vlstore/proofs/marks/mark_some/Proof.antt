-- The call's ghost value is taken from what the function requires, where a pick has the arguments alone.
use mathlib.Core.List.{[], ◌∷◌}
use mathlib.Core.Path.{refl}
use mir.MapTy.{inst_fn}
use mir.Syntax.{Dict, Fn, a_type, dcons, dnil}
use contract.Running.{tables_of}
use denote.Param.{bounded}
use denote.Param.Laws.{Laws}
use denote.RattleType.{RattleType}
use borrow.Fn.Function.{plain_of}
use borrow.Fn.Run.{Over}
use borrow.Fn.World.{World}
use borrow.Fn.Written.{at_code, close}
use Rattle.atomic_table.specs.declared.shared.Seat.{Seat}
use Rattle.std.proofs.Common.{◌≡◌, IfOk, Result, Ok, Err, subst, sym}
use Rattle.std.specs.declared.alloc.AllocError.{AllocError}
use Rattle.vlstore.specs.contracts.marks.mark_some.Key as key
use Rattle.vlstore.specs.declared.locked.Origin.{Origin}
use Rattle.vlstore.specs.declared.marks.Asks.{Ghosts}
use Rattle.vlstore.proofs.ShopPicks.{known_some}
use Rattle.vlstore.proofs.marks.mark_of.Met.{met}
use Rattle.vlstore.proofs.marks.mark_of.Reads as called
use Rattle.vlstore.proofs.marks.mark_of.Symbol.{name as callee}
use Rattle.vlstore.proofs.marks.mark_some.Code as code
use Rattle.vlstore.proofs.marks.mark_some.Kinds as kinds
use Rattle.vlstore.proofs.marks.mark_some.Lts as lts
use Rattle.vlstore.proofs.marks.mark_some.Reads as reads
use Rattle.vlstore.proofs.marks.mark_some.Statement.{statement}

abbrev Mark : Type 0
Mark = Seat (Unit {0}) Origin

module _ (W : RattleType) (L : Laws W) (g : Ghosts W.Denot) (d : Dict) where
  -- an origin that suits
  abbrev Suits : Type 0
  Suits = (origin : Origin) × g.suits origin

  abbrev claims : lts.Claims W L d
  claims = (λ κs a. (i : Suits) × called.Asked-at i.0 κs a, λ κs a x e. (i : Suits) × called.Learnt-at i.0 κs a x e)

  asked : lts.Need-mark_of-requires W L d claims (reads.Pre W L g d) (reads.Post W L g d)
  asked c κs = (c.requires.1, tt)

  returns : lts.Need-returns W L d claims (reads.Pre W L g d) (reads.Post W L g d)
  returns c = of c.mark_of.result c.mark_of.ensures
    where
      of : (made : Result Mark AllocError) → (i : Suits) × IfOk made (λ m. m.me.0 ≡ i.0) → IfOk made (λ m. g.suits m.me.0)
      of (Ok m) is = subst g.suits (sym is.1) is.0.1
      of (Err e) is = tt

pub mark_some_spec : {M : Type 1} → statement M
unfolding tables_of
mark_some_spec 𝓤 𝓛 𝓜 𝓡 wired W L g d bound =
    let w : World = record { M = _; 𝓤 = 𝓤; 𝓛 = 𝓛; 𝓜 = 𝓜; 𝓡 = 𝓡 } in
    let E = Over 𝓛 𝓜 𝓡 𝓡.env in
    let types = bounded (a_type ∷ []) (W, tt) (dcons d dnil) in
    let fn : Fn = inst_fn types code.function in
    close 1 (kinds.ps W L) (kinds.r W L) (reads.Ghost W L g d) (reads.requires W L g d) (reads.ensures W L g d) (reads.pre_read W L g d)
    (reads.Pinned W L g d) (reads.Owned W L g d) (reads.post_read W L g d) w 𝓡.env (key.name types) fn
    (code.unfolded 𝓤 𝓛.H 𝓜 𝓡 wired (W, tt) d) (λ κs a x. tt) (λ κs. reads.owns W L g d κs w) (reads.passes W L g d w)
    (λ _. at_code 𝓤 𝓛.H E.C E.Λ (lts.function W L d) fn refl refl
    (plain_of 𝓛 1 (lts.ps W L d) (lts.r W L d) (reads.Pre W L g d) (reads.Post W L g d))
    (lts.spec W L d (claims W L g d) (reads.Pre W L g d) (reads.Post W L g d) (asked W L g d) (returns W L g d) 𝓤 𝓛 E
    (known_some 𝓛 E 0 (lts.ps-0 W L d) (lts.r-0 W L d) (Suits W L g d) (λ i. called.Asked-at i.0) (λ i. called.Learnt-at i.0) callee
    (λ i. called.known-at i.0 w 𝓡.env callee (𝓡.env callee) refl (met 𝓤 𝓛 𝓜 𝓡 (code.calls-vlstore::marks::mark_of 𝓡.env wired))))))
