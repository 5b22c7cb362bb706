use Rattle.std.proofs.Common.{◌≡◌, ℕ, ◌≤◌, ◌<◌, Bool, cond, List, length, subst, sym, ap, ◌∙◌}
use Rattle.std.specs.List.{insert}
use Rattle.vl_stats.specs.Places.{IsPlaceOf}
use Rattle.vl_stats.proofs.Putting.{put_same, put_before, put_last}
use Rattle.vl_stats.proofs.logs.put_log.Goals as goal
use Rattle.vl_stats.proofs.logs.put_log.Goals.{else-at-len-via-then-at-len+else-index-log, else-at-len-via-else-at-len}

place : (xs ys : List (ℕ × ℕ)) (n at : ℕ) → ys ≡ xs → IsPlaceOf ys n at → IsPlaceOf xs n at
place xs ys n at same there = subst (λ (zs : List (ℕ × ℕ)). IsPlaceOf zs n at) same there

pub returns-then-index-log-clause-logs : goal.returns-then-index-log-clause-logs
returns-then-index-log-clause-logs c =
    let within = c.if-at-len.true in
    let len = c.len.ensures ∙ sym c.deref.ensures.len ∙ ap (λ (xs : List (ℕ × ℕ)). length xs) c.deref.ensures.value in
    put_same c.args.logs.now.items c.args.log c.place_of-at.result
    (place c.args.logs.now.items c.deref.result.now c.args.log.0 c.place_of-at.result c.deref.ensures.value c.place_of-at.ensures)
    c.index.result.now (subst (λ (n : ℕ). c.place_of-at.result < n) len within) c.index.ensures c.if-index-log.true

pub returns-else-at-len-clause-logs : goal.returns-else-at-len-clause-logs
returns-else-at-len-clause-logs c =
    let fine = c.insert.ensures.succeeds c.requires in
    let there =
    place c.args.logs.now.items c.deref.result.now c.args.log.0 c.place_of-at.result c.deref.ensures.value c.place_of-at.ensures in
    let len = c.len.ensures ∙ sym c.deref.ensures.len ∙ ap (λ (xs : List (ℕ × ℕ)). length xs) c.deref.ensures.value in
    c.insert.ensures.items
    ∙ ap (λ (b : Bool). cond b (insert c.args.logs.now.items c.place_of-at.result c.args.log) c.args.logs.now.items) fine
    ∙ elim c.else-at-len.branch [
      | else-at-len-via-then-at-len+else-index-log w ↦
          let within = w.if-at-len.true in
          put_before c.args.logs.now.items c.args.log c.place_of-at.result there w.index.result.now
          (subst (λ (n : ℕ). c.place_of-at.result < n) len within) w.index.ensures w.if-index-log.false
      | else-at-len-via-else-at-len w ↦
          let beyond = w.if-at-len.false in
          put_last c.args.logs.now.items c.args.log c.place_of-at.result there
          (subst (λ (n : ℕ). n ≤ c.place_of-at.result) len beyond)
    ]
