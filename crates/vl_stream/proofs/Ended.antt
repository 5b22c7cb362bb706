-- What is behind the end of a stream, as a source gives it.
use Rattle.std.specs.Prelude.{◌≡◌, ◌≢◌, ◌<◌, ◌≤◌, ◌+◌, ℕ, List, [], ◌∷◌, length, take, Option, None, Some, IfNone, IfSome, refl}
use Rattle.std.proofs.Common.{sym, ap, subst, ◌∙◌, length-append, length-take, arith}
use Rattle.vl_stream.proofs.Framed.{ends_early, ends_whole, gave_batch, no_frame, no_piece}
use Rattle.vl_stream.specs.Grammar.{stream_grammar}
use Rattle.vl_stream.specs.Batches.{Write}
use Rattle.vl_stream.specs.Pieces.{End, Piece, Records}
use Rattle.vl_stream.specs.Reading.{Gave, GaveBatch, IsFrameLong}
use Rattle.vl_stream.specs.Streams.{DamagedAt, Holds, IsAbove, IsNext, Whole, last_key}
use Rattle.vl_frame.specs.Runs.{StandsAt, StandsNone}
use Rattle.vl_io.specs.Source.{HandsOver}

-- what is said of None, where nothing else is left
pub at_none : {A : Type 0} (o : Option A) (P : Type 0) → ((x : A) → o ≡ Some x → ⊥) → IfNone o P → P
at_none None P other p = p
at_none (Some x) P other p = absurd (other x refl)

-- a source that gave these bytes, and is at its end, had no others
nothing_left : (rest given : List ℕ) (left : Option (List ℕ)) → HandsOver (Some rest) left given → length given ≡ 0
    → IfSome left (λ r. r ≡ []) → rest ≡ []
nothing_left rest given None hands none end = absurd hands
nothing_left rest given (Some r) hands none end =
    empty rest (omega (arith, ap length hands, length-append given r, none, ap length end))
  where
    empty : (xs : List ℕ) → length xs ≡ 0 → xs ≡ []
    empty [] is = refl
    empty (x ∷ xs) is = absurd (omega (arith, is))

at_last : (rest given : List ℕ) (left : Option (List ℕ)) → HandsOver (Some rest) left given → IfSome left (λ r. r ≡ [])
    → left ≡ Some []
at_last rest given None hands end = absurd hands
at_last rest given (Some r) hands end = ap Some end

something_left : (rest given : List ℕ) (left : Option (List ℕ)) → HandsOver (Some rest) left given → 0 < length given
    → rest ≢ []
something_left rest given None hands some is = hands
something_left rest given (Some r) hands some is =
    omega (arith, ap length hands, length-append given r, some, ap length is)

-- ---- behind the end's frame

-- nothing follows
pub ends_so : (at : ℕ) (key : List ℕ) (count : ℕ) (bytes frame out : List ℕ) (mid left : Option (List ℕ)) (number n : ℕ)
    → (g : Gave bytes mid frame) → StandsAt stream_grammar 0 at frame (End number count) [] → HandsOver mid left (take n out)
    → n ≤ 0 → IfSome left (λ rest. rest ≡ []) → Holds stream_grammar at key count bytes [] Whole
ends_so at key count bytes frame out mid left number n g s hands none end =
    ends_whole at key count bytes frame mid number g s
    (nothing_left g.rest (take n out) left (subst (λ (o : Option (List ℕ)). HandsOver o left (take n out)) g.left_is hands)
    (omega (arith, none, length-take n out)) end)

pub drained_so : (bytes frame out : List ℕ) (mid left : Option (List ℕ)) (n : ℕ) → (g : Gave bytes mid frame)
    → HandsOver mid left (take n out) → IfSome left (λ rest. rest ≡ []) → left ≡ Some []
drained_so bytes frame out mid left n g hands end =
    at_last g.rest (take n out) left (subst (λ (o : Option (List ℕ)). HandsOver o left (take n out)) g.left_is hands) end

-- more follows
pub ends_behind : (at : ℕ) (key : List ℕ) (count : ℕ) (bytes frame out : List ℕ) (mid left : Option (List ℕ))
    (number n place : ℕ) → (g : Gave bytes mid frame) → StandsAt stream_grammar 0 at frame (End number count) []
    → HandsOver mid left (take n out) → 0 < n → n ≤ length out → place ≡ at + length frame
    → Holds stream_grammar at key count bytes [] (DamagedAt place)
ends_behind at key count bytes frame out mid left number n place g s hands some within is =
    ends_early at key count bytes frame mid number place g s
    (something_left g.rest (take n out) left (subst (λ (o : Option (List ℕ)). HandsOver o left (take n out)) g.left_is hands)
    (omega (arith, some, within, length-take n out))) is

-- no frame stands there
pub no_frame_so : (at place : ℕ) (key : List ℕ) (count : ℕ) (bytes : List ℕ) → at ≡ place → StandsNone stream_grammar 0 at bytes
    → Holds stream_grammar at key count bytes [] (DamagedAt place)
no_frame_so at place key count bytes is none =
    subst (λ (p : ℕ). Holds stream_grammar at key count bytes [] (DamagedAt p)) is (no_frame at key count bytes none)

-- ---- as the calls before give it: of what was borrowed as bytes, and at the place that was named

-- a frame stands there, but no piece that may be next
pub no_piece_so : (at place : ℕ) (key slice : List ℕ) (count : ℕ) (bytes frame part : List ℕ) (left : Option (List ℕ))
    → at ≡ place → slice ≡ key → part ≡ frame → IsFrameLong frame → Gave bytes left frame
    → ((piece : Piece) → StandsAt stream_grammar 0 at part piece [] → IsNext slice count piece → ⊥)
    → Holds stream_grammar at key count bytes [] (DamagedAt place)
no_piece_so at place key slice count bytes frame part left is same_key same long g none =
    subst (λ (p : ℕ). Holds stream_grammar at key count bytes [] (DamagedAt p)) is
    (no_piece at key count bytes frame left long g (λ piece s next. none piece
    (subst (λ (l : List ℕ). StandsAt stream_grammar 0 at l piece []) (sym same) s)
    (subst (λ (k : List ℕ). IsNext k count piece) (sym same_key) next)))

pub gave_batch_so : (at : ℕ) (key slice : List ℕ) (count : ℕ) (bytes frame part : List ℕ) (left : Option (List ℕ))
    (batch : List Write)
    (next : ℕ) (last : List ℕ) (total : ℕ) → slice ≡ key → part ≡ frame → Gave bytes left frame
    → StandsAt stream_grammar 0 at part (Records batch) [] × IsAbove slice batch × (last ≡ last_key slice batch)
    → next ≡ at + length frame → total ≡ count + length batch → GaveBatch at key count bytes next last total left batch
gave_batch_so at key slice count bytes frame part left batch next last total same_key same g says place counted =
    gave_batch at key count bytes frame left batch next last total g
    (subst (λ (l : List ℕ). StandsAt stream_grammar 0 at l (Records batch) []) same says.0)
    (subst (λ (k : List ℕ). IsAbove k batch) same_key says.1)
    (says.2 ∙ ap (λ (k : List ℕ). last_key k batch) same_key) place counted

-- the end stands in what was borrowed
pub end_in : (at count number : ℕ) (frame part : List ℕ) → part ≡ frame
    → StandsAt stream_grammar 0 at part (End number count) [] → StandsAt stream_grammar 0 at frame (End number count) []
end_in at count number frame part same s = subst (λ (l : List ℕ). StandsAt stream_grammar 0 at l (End number count) []) same s
