-- A callee that is known at each ghost value is known where one of them is given beside what it asks.
use Prim.Native.Nat.{ℕ}
use mathlib.Core.List.{List, []}
use seplogic.Ra.Ura.{Ura}
use mir.Syntax.{Callee}
use base.Logic.{SProp, ex, ex_e, ex_i, mono_l, mono_r, sep, snd∗, via}
use prog.Wp.{Tables}
use types.Logic.{Logic, sem}
use contract.Lifetimes.{Lfts}
use contract.Monad.{fact, fact_mono, fact_use}
use denote.Triple.Clauses.{Lasts, at_exit, lasts}
use denote.Triple.Entry.{on_entry}
use denote.Triple.Spec.{Back}
use denote.Triple.Walked.{Fit}
use borrow.Fn.Function.{S, known_of}
use borrow.Fn.Kind.{ParamKind, ResultKind}
use borrow.Fn.Kinds.{Dens, In, Out, ended_of, res_t, stays}
use borrow.Fn.Plain.{Known}

module _ {M : Type 1} {𝓤 : Ura M} (𝓛 : Logic 𝓤) (𝓣 : Tables 𝓤 𝓛.H) (n : ℕ) (ps : List (ParamKind n)) (r : ResultKind n)
    (I : Type 0) (P : I → In n ps) (Q : I → Out n ps r) (k : Callee) where
  open 𝓛 use {H}

  abbrev pub Some : In n ps
  Some κs a = (i : I) × P i κs a

  abbrev pub Then : Out n ps r
  Then κs a x e = (i : I) × Q i κs a x e

  pub known_some : ((i : I) → Known 𝓛 𝓣 n ps r (P i) (Q i) k) → Known 𝓛 𝓣 n ps r Some Then k
  known_some known y =
      let κs : Lfts n = y.0.0 in
      let a : Dens κs ps = y.0.3 in
      let On : SProp 𝓤 = on_entry 𝓛 (S n ps r [] 0) κs y.0.1 a y.0.4 in
      let Fits : Lasts (ended_of n ps r) κs a → Type 0 = λ ws. Fit (ended_of n ps r) (stays ps) κs a ws in
      fact_use 𝓤 (Some κs a) (snd∗ 𝓤 On (fact 𝓤 (Some κs a))) (λ p.
      let at = known_of 𝓛 n ps r (P p.0) (Q p.0) in
      via 𝓤 (sep 𝓤 On (fact 𝓤 (P p.0 κs a))) (mono_r 𝓤 On (fact_mono 𝓤 (Some κs a) (P p.0 κs a) (λ _. p.1)))
      (via 𝓤 (𝓣.C k (at.args y) (at.post y)) (known p.0 y)
      (𝓣.mono k (at.args y) (at.post y) ((known_of 𝓛 n ps r Some Then).post y) (λ v.
      𝓛.laws.⇛_mono _ _ (ex_e 𝓤 _ (λ x. ex_e 𝓤 _ (λ ws.
      let After : (res_t r κs).Denot → Lasts (ended_of n ps r) κs a → SProp 𝓤 = λ z us.
      sep 𝓤 (sep 𝓤 (sem 𝓛 (lasts (ended_of n ps r) κs a us)) (fact 𝓤 (Fits us × Then κs a z (at_exit (ended_of n ps r) κs a us))))
      (Back 𝓛 (S n ps r [] 0) y.0 v z) in
      via 𝓤 (After x ws) (mono_l 𝓤 (Back 𝓛 (S n ps r [] 0) y.0 v x) (mono_r 𝓤 (sem 𝓛 (lasts (ended_of n ps r) κs a ws))
      (fact_mono 𝓤 (Fits ws × Q p.0 κs a x (at_exit (ended_of n ps r) κs a ws))
      (Fits ws × Then κs a x (at_exit (ended_of n ps r) κs a ws)) (λ q. (q.0, (p.0, q.1))))))
      (via 𝓤 (ex 𝓤 (After x)) (ex_i 𝓤 (After x) ws) (ex_i 𝓤 (λ z. ex 𝓤 (After z)) x)))))))))
