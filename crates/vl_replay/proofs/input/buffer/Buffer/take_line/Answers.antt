use Rattle.std.proofs.Common.{◌≡◌, ◌+◌, ◌-◌, ℕ, List, ◌∷◌, ◌++◌, take, drop, arith, sym, ◌∙◌, ap, subst, length-take}
use Rattle.vl_script_model.specs.laws.ReadLines.{IsSplit, split_at, no_split, drop-window, empty_window}
use Rattle.vl_script_model.specs.Input.{HasNoLineEnd}
use Rattle.vl_replay.proofs.input.buffer.Buffer.take_line.Goals as goal

pub returns-in_ok-extend_from_slice-in-Some : goal.returns-in_ok-extend_from_slice-in-Some
returns-in_ok-extend_from_slice-in-Some c =
    let bytes = c.deref.result.now in
    let start = c.self.inside.start in
    let end = c.self.inside.end in
    let n = c.in-Some.length in
    let window : List ℕ = take (end - start) (drop start bytes) in
    let seen : window ≡ c.args.self.now = ap (λ (b : List ℕ). take (end - start) (drop start b)) c.deref.ensures.value ∙ c.self.view_is in
    let split : IsSplit window n = split_at window n (sym c.find_byte.ensures ∙ c.in-Some.is) in
    let behind : drop (n + 1) window ≡ take (end - (start + (n + 1))) (drop (start + (n + 1)) c.self.inside.bytes.items) =
    drop-window bytes start end (n + 1) (omega (arith, split.within, length-take (end - start) (drop start bytes), c.self.invariant))
    ∙ ap (λ (b : List ℕ). take (end - (start + (n + 1))) (drop (start + (n + 1)) b)) c.deref.ensures.value in (
      take n window,
      sym seen ∙ split.parts ∙ ap (λ (rest : List ℕ). take n window ++ 10 ∷ rest) behind,
      split.before,
      c.in_ok-extend_from_slice-in-Some.ensures.items,
    )

pub returns-in_ok-extend_from_slice-in-None : goal.returns-in_ok-extend_from_slice-in-None
returns-in_ok-extend_from_slice-in-None c =
    let bytes = c.deref.result.now in
    let start = c.self.inside.start in
    let end = c.self.inside.end in
    let window : List ℕ = take (end - start) (drop start bytes) in
    let seen : window ≡ c.args.self.now = ap (λ (b : List ℕ). take (end - start) (drop start b)) c.deref.ensures.value ∙ c.self.view_is in (
      empty_window c.self.inside.bytes.items end,
      subst HasNoLineEnd seen (no_split window (sym c.find_byte.ensures ∙ c.in-None.is)),
      subst (λ (more : List ℕ). c.extend_from_slice-in-None.new.self.items ≡ c.args.line.now.items ++ more) seen
          c.in_ok-extend_from_slice-in-None.ensures.items,
    )
