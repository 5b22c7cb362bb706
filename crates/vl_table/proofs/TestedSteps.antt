-- A block that was tested is one that stands there.
use Rattle.std.specs.Prelude.{◌≡◌, ◌<◌, ◌^◌, ◌&&◌, ℕ, Bool, true, false, nat_eq, List, [], Option, Some, None, length}
use Rattle.std.proofs.Common.{ap, arith, append-nil, refl, subst, sym, ◌∙◌}
use Rattle.std.proofs.lemmas.Bool.Decides.{nat_tests}
use Rattle.vl_disk.specs.DiskState.{bytes_at}
use Rattle.vl_disk.specs.Held.{AgreeAt}
use Rattle.vl_frame.specs.Frame.{frame_bytes, frame_length}
use Rattle.vl_frame.specs.laws.Laws.{length-frame_bytes}
use Rattle.vl_frame.specs.declared.kinds.FrameKind.TheVariants as kinds
use Rattle.vl_table.specs.Begun.{FrameAt}
use Rattle.vl_table.specs.body.Blocks.{SpellsBlock}
use Rattle.vl_model.specs.declared.entry.Entry.{Entry}
use Rattle.vl_table.specs.Tested.{IsBlockFrame, IsFrameOf, IsTested, body_in}
use Rattle.vl_table.specs.declared.slot.BlockId.{BlockId}
use Rattle.vl_table.proofs.Parts.{body_behind, cut_out, stands}

module _ (id : BlockId) (bytes : List ℕ) where
  pub frame_stands : IsFrameOf id (bytes_at id.place id.length bytes)
      → FrameAt id.number bytes id.place id.length kinds.Block (body_in (bytes_at id.place id.length bytes))
  frame_stands is =
      let frame = bytes_at id.place id.length bytes in
      let body = body_in frame in
      let sized : length frame ≡ frame_length (length body) =
      ap length is.0 ∙ length-frame_bytes id.number id.place kinds.Block body in
      stands id.number id.place id.length kinds.Block bytes frame body refl
      (record { in_file = refl; short = is.1; rest = []; spelled = is.0 ∙ sym (append-nil (frame_bytes id.number id.place kinds.Block body)) })
      sized (is.2 ∙ sym sized)

  stands_frame : (body : List ℕ) → FrameAt id.number bytes id.place id.length kinds.Block body
      → IsFrameOf id (bytes_at id.place id.length bytes) × (body_in (bytes_at id.place id.length bytes) ≡ body)
  stands_frame body at =
      let frame = bytes_at id.place id.length bytes in
      let is : frame ≡ frame_bytes id.number id.place kinds.Block body =
      cut_out id.number id.place id.length kinds.Block bytes body at in
      let same : body_in frame ≡ body = body_behind id.number id.place kinds.Block body frame is in (
        (
          is ∙ ap (frame_bytes id.number id.place kinds.Block) (sym same),
          subst (λ (b : List ℕ). length b < 2 ^ 32) (sym same) at.frame.short,
          at.sized ∙ ap (λ (b : List ℕ). frame_length (length b)) (sym same),
        ),
        same,
      )

  -- a block that stands was tested
  pub stands_block : (body : List ℕ) (es : List Entry) → FrameAt id.number bytes id.place id.length kinds.Block body
      → SpellsBlock id.format body es → IsBlockFrame id (bytes_at id.place id.length bytes)
  stands_block body es at says =
      let is = stands_frame body at in
      (is.0, λ none. none es (subst (λ (b : List ℕ). SpellsBlock id.format b es) (sym is.1) says))

-- two files with the same bytes there have the same block there
pub tested_alike : {H : Type 0} (bytes_of : H → Option (List ℕ)) (held other : H) (id : BlockId)
    → (bytes_of other ≡ None → bytes_of held ≡ None)
    → AgreeAt id.place id.length (bytes_of held) (bytes_of other) → IsTested bytes_of other id → IsTested bytes_of held id
tested_alike bytes_of held other id alike agree tested = λ bytes told. by (bytes_of other) refl bytes told
  where
    by : (o : Option (List ℕ)) → bytes_of other ≡ o → (bytes : List ℕ) → bytes_of held ≡ Some bytes
        → IsBlockFrame id (bytes_at id.place id.length bytes)
    by None is bytes told = absurd (none (sym told ∙ alike is))
      where
        none : Some bytes ≡ None → ⊥
        none e = cc
    by (Some more) is bytes told =
        subst (IsBlockFrame id) (sym (agree bytes told more is)) (tested more is)

-- blocks that a test finds equal are one
pub equal_ids : (a b : BlockId)
    → (nat_eq a.format b.format && (nat_eq a.number b.number && (nat_eq a.place b.place && nat_eq a.length b.length))) ≡ true
    → a ≡ b
equal_ids a b is =
    let format = both (nat_eq a.format b.format) _ is in
    let number = both (nat_eq a.number b.number) _ format.1 in
    let place = both (nat_eq a.place b.place) _ number.1 in
    let formats = equal a.format b.format format.0 in
    let numbers = equal a.number b.number number.0 in
    let places = equal a.place b.place place.0 in
    let lengths = equal a.length b.length place.1 in
    λ k. record { format = formats k; number = numbers k; place = places k; length = lengths k }
  where
    both : (s t : Bool) → (s && t) ≡ true → (s ≡ true) × (t ≡ true)
    both true t is = (refl, is)
    both false t is = absurd cc

    equal : (m n : ℕ) → nat_eq m n ≡ true → m ≡ n
    equal m n is = grind (arith, nat_tests)
