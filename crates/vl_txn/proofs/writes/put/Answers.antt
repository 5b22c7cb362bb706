use Rattle.std.proofs.Common.{◌≡◌, ℕ, List, true, false, sym, ap, ◌∙◌, ◌<◌, length, arith}
use Rattle.std.proofs.lemmas.List.{get_or_default}
use Rattle.std.specs.List.{insert, prefix_len}
use Rattle.std.specs.Str.{bytes_eq}
use Rattle.std.proofs.lemmas.List.Sums.{prefix_len-le-length}
use Rattle.vl_txn.specs.Writes.{is_above}
use Rattle.vl_txn.proofs.WriteEntries.{put-present, put-absent}
use Rattle.vl_txn.proofs.writes.put.Goals as goal
use Rattle.vl_txn.proofs.writes.put.Goals.{else-at-len-via-then-at-len+else-eq, else-at-len-via-else-at-len}

pub insert-requires : goal.insert-requires
insert-requires c = omega
    (arith, c.place-at.ensures, c.deref.ensures.len, prefix_len-le-length (is_above c.args.key.now) c.deref.result.now)

pub returns-then-eq-clause-ok : goal.returns-then-eq-clause-ok
returns-then-eq-clause-ok c =
    let key = c.args.key.now in
    let list = c.args.entries.now.items in
    let place : c.place-at.result ≡ prefix_len (is_above key) list = c.place-at.ensures
    ∙ ap (prefix_len (is_above key)) c.deref.ensures.value in
    let within : c.place-at.result < length list = omega (arith, c.len.ensures, c.if-at-len.true, c.args.entries.now.ok) in
    let held = c.index_mut.result.now in
    let read = c.index.result.now in
    let same_entry : read ≡ held = c.index.ensures ∙ get_or_default list c.place-at.result read held within
    ∙ sym c.index_mut.ensures.value in
    let same : bytes_eq key held.0 ≡ true = ap (bytes_eq key) (ap (λ e. e.0) (sym same_entry) ∙ sym c.as_slice.ensures)
    ∙ sym c.eq.ensures ∙ c.if-eq.true in
    put-present list key held.0 c.args.change c.place-at.result held place within (ap (λ e. e.0) c.index_mut.ensures.value) same

pub returns-in_ok-insert-clause-ok : goal.returns-in_ok-insert-clause-ok
returns-in_ok-insert-clause-ok c =
    let key = c.args.key.now in
    let list = c.args.entries.now.items in
    let place : c.place-at.result ≡ prefix_len (is_above key) list = c.place-at.ensures
    ∙ ap (prefix_len (is_above key)) c.deref.ensures.value in
    c.in_ok-insert.ensures.items
    ∙ ap (λ (k : List ℕ). insert list c.place-at.result (k, c.args.change)) c.in_ok-key.ensures
    ∙ put-absent list key c.args.change c.place-at.result place (λ within. elim c.else-at-len.branch [
      | else-at-len-via-then-at-len+else-eq w ↦
          let read = w.index.result.now in
          let other : bytes_eq key read.0 ≡ false = ap (bytes_eq key) (sym w.as_slice.ensures) ∙ sym w.eq.ensures ∙ w.if-eq.false in
          (read, ap (λ e. bytes_eq key e.0) (sym w.index.ensures) ∙ other)
      | else-at-len-via-else-at-len w ↦ absurd (omega (arith, c.len.ensures, w.if-at-len.false, c.args.entries.now.ok))
    ])
