-- A frame that is completed where it stands.
use Rattle.std.specs.Prelude.{◌≡◌, ◌-◌, ℕ, List, ◌++◌, take, drop, length}
use Rattle.std.proofs.Common.{ap, ◌∙◌, append_assoc, length-append, arith}
use Rattle.std.proofs.lemmas.List.{drop_at}
use Rattle.std.proofs.Math.Seq.{take-length}
use Rattle.vl_frame.specs.Frame.{check_of, frame_bytes, head_bytes}
use Rattle.vl_frame.specs.declared.kinds.FrameKind.{FrameKind}

module _ (number at : ℕ) (kind : FrameKind) (room body old new lent head check written : List ℕ)
    (five : length room ≡ 5) (is : old ≡ room ++ body) (added : new ≡ old ++ check) (lends : lent ≡ old)
    (heads : head ≡ head_bytes kind (length (take (length lent - 5) (drop 5 lent))))
    (fills : written ≡ head ++ drop 5 new) where
  all : new ≡ room ++ (body ++ check)
  all = added ∙ ap (λ (l : List ℕ). l ++ check) is ∙ append_assoc room body check

  behind : written ≡ head ++ (body ++ check)
  behind = fills ∙ ap (λ (l : List ℕ). head ++ l) (ap (drop 5) all ∙ drop_at room (body ++ check) 5 five)

  same : take (length lent - 5) (drop 5 lent) ≡ body
  same =
      let front : drop 5 lent ≡ body = ap (drop 5) (lends ∙ is) ∙ drop_at room body 5 five in
      let sizes : length lent - 5 ≡ length body = omega (arith, ap length lends, ap length is, length-append room body, five) in
      (λ k. take (sizes k) (front k)) ∙ take-length body

  -- to fill the room leaves the length
  pub as_long : length written ≡ length new
  as_long =
      omega (
        arith,
        ap length behind,
        ap length all,
        ap length heads,
        length-append head (body ++ check),
        length-append room (body ++ check),
        five,
      )

  -- the room is filled, and the check stands behind the body
  pub finishes : check ≡ check_of number at kind (take (length lent - 5) (drop 5 lent)) → written ≡ frame_bytes number at kind body
  unfolding frame_bytes
  finishes checked =
      behind ∙ ap (λ (l : List ℕ). l ++ (body ++ check)) (heads ∙ ap (λ (l : List ℕ). head_bytes kind (length l)) same)
      ∙ ap (λ (l : List ℕ). head_bytes kind (length body) ++ (body ++ l)) (checked ∙ ap (check_of number at kind) same)
