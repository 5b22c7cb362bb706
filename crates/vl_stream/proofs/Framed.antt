-- The bytes of one frame, cut out of a stream.
use Rattle.std.specs.Prelude.{◌≡◌, ◌≢◌, ◌<◌, ◌≤◌, ◌^◌, ◌+◌, ℕ, List, [], ◌∷◌, ◌++◌, length, drop, take, Option, None, Some}
use Rattle.std.specs.Prelude.{IfSome, refl}
use Rattle.std.proofs.lemmas.List.{take_all}
use Rattle.std.proofs.Common.{sym, ap, subst, ◌∙◌, inl, inr, append_assoc, append-nil, length-append, length-drop}
use Rattle.std.proofs.Common.{length-take, arith}
use Rattle.byteorder.specs.Endian.{big_bytes}
use Rattle.vl_stream.proofs.Filling.{hands_then}
use Rattle.vl_stream.specs.Batches.{Write}
use Rattle.vl_stream.specs.Grammar.{stream_grammar}
use Rattle.vl_stream.specs.Pieces.{AreChanges, End, IsPiece, Piece, Records, changes_body, end_body, piece_body, piece_kind}
use Rattle.vl_stream.specs.Reading.{Gave, GaveBatch, IsFrameLong, SaysLength}
use Rattle.vl_stream.specs.Streams.{DamagedAt, Ends, Holds, IsAbove, IsNext, Whole, last_key}
use Rattle.vl_stream.specs.laws.GrammarLaws.{body_short, max_body}
use Rattle.vl_frame.specs.Frame.{IsSpelled, check_of, frame_bytes, frame_code}
use Rattle.vl_frame.specs.Runs.{StandsAt, StandsNone, item_frame}
use Rattle.vl_frame.specs.declared.kinds.FileKind.TheVariants as files
use Rattle.vl_frame.specs.declared.kinds.FrameKind.{FrameKind}
use Rattle.vl_frame.specs.declared.kinds.FrameKind.TheVariants as kinds
use Rattle.vl_frame.specs.laws.Laws.{length-frame_bytes, one_frame}
use Rattle.vl_frame.specs.laws.NumberLaws.{one_number, same_front}
use Rattle.vl_frame.specs.laws.RunLaws.{frame_of}
use Rattle.vl_io.specs.Source.{HandsOver}

abbrev pub frame_at : ℕ → Piece → List ℕ
frame_at at piece = item_frame stream_grammar 0 at piece

-- ---- a frame's front

-- what stands behind a frame's head
pub record Headed (at : ℕ) (piece : Piece) : Type 0 where
  pub more : List ℕ
  pub is : frame_at at piece ≡ frame_code (piece_kind piece) ∷ (big_bytes 4 (length (piece_body piece)) ++ more)

pub headed : (at : ℕ) (piece : Piece) → Headed at piece
unfolding frame_bytes
headed at piece =
    let body : List ℕ = piece_body piece in
    let check : List ℕ = check_of 0 at (piece_kind piece) body in
    record {
      more = body ++ check;
      is = ap (λ (l : List ℕ). frame_code (piece_kind piece) ∷ l) (append_assoc (big_bytes 4 (length body)) body check);
    }

frame_long : (at : ℕ) (piece : Piece) → length (frame_at at piece) ≡ length (piece_body piece) + 13
frame_long at piece = length-frame_bytes 0 at (piece_kind piece) (piece_body piece)

-- a frame that stands has its own length in its head
pub says_own : (at : ℕ) (bytes : List ℕ) (piece : Piece) (rest : List ℕ) (kind n : ℕ) (behind : List ℕ) → n < 2 ^ 32
    → StandsAt stream_grammar 0 at bytes piece rest → bytes ≡ kind ∷ (big_bytes 4 n ++ behind)
    → (n ≡ length (piece_body piece)) × (length bytes ≡ n + 13 + length rest) × (n ≤ max_body)
says_own at bytes piece rest kind n behind fits s is =
    let h = headed at piece in
    let both : kind ∷ (big_bytes 4 n ++ behind)
    ≡ frame_code (piece_kind piece) ∷ (big_bytes 4 (length (piece_body piece)) ++ (h.more ++ rest)) =
    sym is ∙ s.spelled ∙ ap (λ (l : List ℕ). l ++ rest) h.is
    ∙ ap (λ (l : List ℕ). frame_code (piece_kind piece) ∷ l)
    (append_assoc (big_bytes 4 (length (piece_body piece))) h.more rest) in
    let same = one_number 4 n (length (piece_body piece)) behind (h.more ++ rest) fits s.short (ap (drop 1) both) in
    let long : length bytes ≡ length (frame_at at piece) + length rest =
    ap length s.spelled ∙ length-append (frame_at at piece) rest in
    (same.0, omega (arith, long, frame_long at piece, same.0), omega (arith, same.0, body_short piece s.lawful))

-- ---- where there is no frame

none_shorter : (at : ℕ) (bytes : List ℕ) → length bytes < 13 → StandsNone stream_grammar 0 at bytes
none_shorter at bytes short piece rest s =
    omega (arith, short, ap length s.spelled, length-append (frame_at at piece) rest, frame_long at piece)

-- what a source gave, where it tells its bytes
pub gave_so : (bytes : List ℕ) (left : Option (List ℕ)) (given : List ℕ) → HandsOver (Some bytes) left given
    → Gave bytes left given
gave_so bytes None given hands = absurd hands
gave_so bytes (Some rest) given hands = record { rest = rest; spelled = hands; left_is = refl }

-- the source was at its end before the head was full
pub none_in_head : (at : ℕ) (bytes head : List ℕ) (n : ℕ) (left : Option (List ℕ)) → n < 5
    → (g : Gave bytes left (take n head)) → g.rest ≡ [] → StandsNone stream_grammar 0 at bytes
none_in_head at bytes head n left few g end =
    none_shorter at bytes (omega (
      arith,
      few,
      ap length g.spelled,
      length-append (take n head) g.rest,
      ap length end,
      length-take n head,
    ))

front_says : (at : ℕ) (bytes head rest : List ℕ) (piece : Piece) (behind : List ℕ) → length head ≡ 5 → bytes ≡ head ++ rest
    → StandsAt stream_grammar 0 at bytes piece behind → SaysLength head (length (piece_body piece))
front_says at bytes head rest piece behind five is s =
    let h = headed at piece in
    let front : List ℕ = frame_code (piece_kind piece) ∷ big_bytes 4 (length (piece_body piece)) in
    let same : head ++ rest ≡ front ++ (h.more ++ behind) =
    sym is ∙ s.spelled ∙ ap (λ (l : List ℕ). l ++ behind) h.is
    ∙ ap (λ (l : List ℕ). frame_code (piece_kind piece) ∷ l)
    (append_assoc (big_bytes 4 (length (piece_body piece))) h.more behind) in
    let long : length head ≡ length front = omega (arith, five) in
    record {
      kind = frame_code (piece_kind piece);
      fits = s.short;
      spelled = (same_front head front rest (h.more ++ behind) long same).0;
    }

-- the head says that the body is too long
pub none_so_long : (at : ℕ) (bytes head rest : List ℕ) → length head ≡ 5 → bytes ≡ head ++ rest
    → ((n : ℕ) → SaysLength head n → n ≤ max_body → ⊥) → StandsNone stream_grammar 0 at bytes
none_so_long at bytes head rest five is none piece behind s =
    none (length (piece_body piece)) (front_says at bytes head rest piece behind five is s) (body_short piece s.lawful)

-- the source was at its end before the frame was full
pub none_cut_off : (at : ℕ) (bytes head given : List ℕ) (n : ℕ) → SaysLength head n → length given < n + 8
    → bytes ≡ head ++ given → StandsNone stream_grammar 0 at bytes
none_cut_off at bytes head given n says few is piece behind s =
    let front : bytes ≡ says.kind ∷ (big_bytes 4 n ++ given) = is ∙ ap (λ (l : List ℕ). l ++ given) says.spelled in
    let own = says_own at bytes piece behind says.kind n given says.fits s front in
    let five : length head ≡ 5 = omega (arith, ap length says.spelled) in
    omega (arith, own.1, few, five, ap length is, length-append head given)

-- ---- as a source fills a buffer

-- what was given to a source that told its bytes
pub gave_old : (bytes : List ℕ) (old left : Option (List ℕ)) (given : List ℕ) → old ≡ Some bytes → HandsOver old left given
    → Gave bytes left given
gave_old bytes old left given is hands =
    gave_so bytes left given (subst (λ (o : Option (List ℕ)). HandsOver o left given) is hands)

pub at_end : (bytes : List ℕ) (left : Option (List ℕ)) (given : List ℕ) (g : Gave bytes left given)
    → IfSome left (λ rest. rest ≡ []) → g.rest ≡ []
at_end bytes left given g end = subst (λ (o : Option (List ℕ)). IfSome o (λ (rest : List ℕ). rest ≡ [])) g.left_is end

-- The head wasn't filled.
pub none_filled : (at : ℕ) (bytes head : List ℕ) (n : ℕ) (old left : Option (List ℕ)) → old ≡ Some bytes
    → HandsOver old left (take n head) → n < 5 → length head ≡ 5 → (n < length head → IfSome left (λ rest. rest ≡ []))
    → StandsNone stream_grammar 0 at bytes
none_filled at bytes head n old left is hands few five ended =
    let g = gave_old bytes old left (take n head) is hands in
    none_in_head at bytes head n left few g (at_end bytes left (take n head) g (ended (omega (arith, few, five))))

-- It was, and no length that may be stands in it.
pub none_long : (at : ℕ) (bytes head : List ℕ) (n : ℕ) (old left : Option (List ℕ)) → old ≡ Some bytes
    → HandsOver old left (take n head) → 5 ≤ n → length head ≡ 5 → ((n : ℕ) → SaysLength head n → n ≤ max_body → ⊥)
    → StandsNone stream_grammar 0 at bytes
none_long at bytes head n old left is hands full five none =
    let g = gave_old bytes old left (take n head) is hands in
    none_so_long at bytes head g.rest five
    (g.spelled ∙ ap (λ (l : List ℕ). l ++ g.rest) (take_all n head (omega (arith, full, five)))) none

-- It says how long the body is, and the frame wasn't filled.
pub none_behind : (at : ℕ) (bytes head out : List ℕ) (n k body : ℕ) (old mid left : Option (List ℕ)) → old ≡ Some bytes
    → HandsOver old mid (take n head) → 5 ≤ n → length head ≡ 5 → SaysLength head body → HandsOver mid left (take k out)
    → k < body + 8 → length out ≡ body + 8 → (k < length out → IfSome left (λ rest. rest ≡ []))
    → StandsNone stream_grammar 0 at bytes
none_behind at bytes head out n k body old mid left is first full five says second few long ended =
    let given : List ℕ = take n head ++ take k out in
    let g = gave_old bytes old left given is (hands_then old mid left (take n head) (take k out) first second) in
    let end = at_end bytes left given g (ended (omega (arith, few, long))) in
    none_cut_off at bytes head (take k out) body says (omega (arith, few, length-take k out))
    (g.spelled ∙ ap (λ (l : List ℕ). given ++ l) end ∙ append-nil given
    ∙ ap (λ (l : List ℕ). l ++ take k out) (take_all n head (omega (arith, full, five))))

-- Both were filled.
pub gave_frame : (bytes head out : List ℕ) (n k : ℕ) (old mid left : Option (List ℕ)) → old ≡ Some bytes
    → HandsOver old mid (take n head) → length head ≤ n → HandsOver mid left (take k out) → length out ≤ k
    → Gave bytes left (head ++ out)
gave_frame bytes head out n k old mid left is first full second whole =
    subst (λ (l : List ℕ). Gave bytes left (l ++ out)) (take_all n head full)
    (subst (λ (l : List ℕ). Gave bytes left (take n head ++ l)) (take_all k out whole)
    (gave_old bytes old left (take n head ++ take k out) is (hands_then old mid left (take n head) (take k out) first second)))

pub frame_long_so : (head out : List ℕ) (body : ℕ) → SaysLength head body → length head ≡ 5 → length out ≡ body + 8
    → IsFrameLong (head ++ out)
frame_long_so head out body says five long = record {
  kind = says.kind;
  body = body;
  fits = says.fits;
  more = out;
  spelled = ap (λ (l : List ℕ). l ++ out) says.spelled;
  long = omega (arith, length-append head out, five, long);
}

-- ---- what stands in the bytes stands in the stream, and the other way round

pub stands_alone : (at : ℕ) (bytes frame rest : List ℕ) (piece : Piece) (behind : List ℕ) → IsFrameLong frame
    → bytes ≡ frame ++ rest → StandsAt stream_grammar 0 at bytes piece behind → StandsAt stream_grammar 0 at frame piece []
stands_alone at bytes frame rest piece behind long is s =
    let front : bytes ≡ long.kind ∷ (big_bytes 4 long.body ++ (long.more ++ rest)) =
    is ∙ ap (λ (l : List ℕ). l ++ rest) long.spelled
    ∙ ap (λ (l : List ℕ). long.kind ∷ l) (append_assoc (big_bytes 4 long.body) long.more rest) in
    let own = says_own at bytes piece behind long.kind long.body (long.more ++ rest) long.fits s front in
    let same = same_front frame (frame_at at piece) rest behind
    (omega (arith, long.long, frame_long at piece, own.0)) (sym is ∙ s.spelled) in
    record { lawful = s.lawful; short = s.short; spelled = same.0 ∙ sym (append-nil (frame_at at piece)) }

pub stands_within : (at : ℕ) (bytes frame rest : List ℕ) (piece : Piece) → bytes ≡ frame ++ rest
    → StandsAt stream_grammar 0 at frame piece [] → StandsAt stream_grammar 0 at bytes piece rest
stands_within at bytes frame rest piece is s = record {
  lawful = s.lawful;
  short = s.short;
  spelled = is ∙ ap (λ (l : List ℕ). l ++ rest) (s.spelled ∙ append-nil (frame_at at piece));
}

pub own_length : (at : ℕ) (frame : List ℕ) (piece : Piece) → StandsAt stream_grammar 0 at frame piece []
    → length frame ≡ length (frame_at at piece)
own_length at frame piece s = ap length (s.spelled ∙ append-nil (frame_at at piece))

-- ---- what comes next

pub no_frame : (at : ℕ) (key : List ℕ) (count : ℕ) (bytes : List ℕ) → StandsNone stream_grammar 0 at bytes
    → Holds stream_grammar at key count bytes [] (DamagedAt at)
no_frame at key count bytes none = inl (refl, λ piece rest s next. none piece rest s)

pub no_piece : (at : ℕ) (key : List ℕ) (count : ℕ) (bytes frame : List ℕ) (left : Option (List ℕ)) → IsFrameLong frame
    → Gave bytes left frame
    → ((piece : Piece) → StandsAt stream_grammar 0 at frame piece [] → IsNext key count piece → ⊥)
    → Holds stream_grammar at key count bytes [] (DamagedAt at)
no_piece at key count bytes frame left long g none =
    inl (refl, λ piece rest s next. none piece (stands_alone at bytes frame g.rest piece rest long g.spelled s) next)

pub gave_batch : (at : ℕ) (key : List ℕ) (count : ℕ) (bytes frame : List ℕ) (left : Option (List ℕ)) (batch : List Write)
    (next : ℕ) (last : List ℕ) (total : ℕ) → Gave bytes left frame
    → StandsAt stream_grammar 0 at frame (Records batch) [] → IsAbove key batch → last ≡ last_key key batch
    → next ≡ at + length frame → total ≡ count + length batch → GaveBatch at key count bytes next last total left batch
gave_batch at key count bytes frame left batch next last total g s above is place counted = record {
  rest = g.rest;
  stands = stands_within at bytes frame g.rest (Records batch) g.spelled s;
  above = above;
  next_is = place ∙ ap (λ (n : ℕ). at + n) (own_length at frame (Records batch) s);
  last_is = is;
  total_is = counted;
  left_is = g.left_is;
}

ends_there : (at count : ℕ) (bytes frame rest : List ℕ) (number : ℕ) → bytes ≡ frame ++ rest
    → StandsAt stream_grammar 0 at frame (End number count) [] → Ends stream_grammar at count bytes
ends_there at count bytes frame rest number is s =
    record { number = number; rest = rest; stands = stands_within at bytes frame rest (End number count) is s }

pub ends_whole : (at : ℕ) (key : List ℕ) (count : ℕ) (bytes frame : List ℕ) (left : Option (List ℕ)) (number : ℕ)
    → (g : Gave bytes left frame) → StandsAt stream_grammar 0 at frame (End number count) [] → g.rest ≡ []
    → Holds stream_grammar at key count bytes [] Whole
unfolding ends_there
ends_whole at key count bytes frame left number g s end =
    (ends_there at count bytes frame g.rest number g.spelled s, end)

pub ends_early : (at : ℕ) (key : List ℕ) (count : ℕ) (bytes frame : List ℕ) (left : Option (List ℕ)) (number place : ℕ)
    → (g : Gave bytes left frame) → StandsAt stream_grammar 0 at frame (End number count) [] → g.rest ≢ []
    → place ≡ at + length frame → Holds stream_grammar at key count bytes [] (DamagedAt place)
unfolding ends_there
ends_early at key count bytes frame left number place g s more is = inr (
  ends_there at count bytes frame g.rest number g.spelled s,
  more,
  is ∙ ap (λ (n : ℕ). at + n) (own_length at frame (End number count) s),
)

-- ---- what a frame says

-- a frame fills the bytes
pub fills : (at : ℕ) (frame : List ℕ) (kind : FrameKind) (body : List ℕ) (n : ℕ)
    → frame ≡ frame_bytes 0 at kind body ++ drop n frame → n ≡ length frame → frame ≡ frame_bytes 0 at kind body ++ []
fills at frame kind body n is whole =
    let none : drop n frame ≡ [] = nothing (drop n frame) (omega (arith, whole, length-drop n frame)) in
    is ∙ ap (λ (l : List ℕ). frame_bytes 0 at kind body ++ l) none
  where
    nothing : (xs : List ℕ) → length xs ≡ 0 → xs ≡ []
    nothing [] e = refl
    nothing (x ∷ xs) e = absurd (omega (arith, e))

pub says_end : (at : ℕ) (frame : List ℕ) (kind : FrameKind) (body : List ℕ) (n : ℕ) (number count : ℕ)
    → IsSpelled files.Backup 0 at frame kind body
    → frame ≡ frame_bytes 0 at kind body ++ drop n frame → n ≡ length frame → kind ≡ kinds.BackupEnd
    → number < 2 ^ 64 → count < 2 ^ 64 → body ≡ end_body number count
    → (number : ℕ) × StandsAt stream_grammar 0 at frame (End number count) []
says_end at frame kind body n number count s is whole kind_is fits counted spelled = (
  number,
  record {
    lawful = (fits, counted);
    short = subst (λ (b : List ℕ). length b < 2 ^ 32) spelled s.short;
    spelled = fills at frame kind body n is whole
        ∙ ap (λ (k : FrameKind). frame_bytes 0 at k body ++ []) kind_is
        ∙ ap (λ (b : List ℕ). frame_bytes 0 at kinds.BackupEnd b ++ []) spelled;
  },
)

-- what stands there is the frame that was found
pub record Agrees (kind : FrameKind) (body : List ℕ) (piece : Piece) : Type 0 where
  pub kind_is : kind ≡ piece_kind piece
  pub body_is : body ≡ piece_body piece

pub agrees : (at : ℕ) (frame : List ℕ) (kind : FrameKind) (body : List ℕ) (piece : Piece) (rest : List ℕ)
    → IsSpelled files.Backup 0 at frame kind body → StandsAt stream_grammar 0 at frame piece rest → Agrees kind body piece
agrees at frame kind body piece rest s p =
    let one = one_frame files.Backup 0 at frame kind (piece_kind piece) body (piece_body piece) s
    (frame_of stream_grammar 0 at frame piece rest p) in
    record { kind_is = one.0; body_is = one.1 }

-- no lawful changes are the body
pub no_changes : (kind : FrameKind) (body last : List ℕ) (count : ℕ) (piece : Piece) → kind ≡ kinds.Changes
    → ((ws : List Write) → AreChanges ws → IsAbove last ws → body ≡ changes_body ws → ⊥)
    → Agrees kind body piece → IsPiece piece → IsNext last count piece → ⊥
no_changes kind body last count (Records ws) kind_is none a lawful next = none ws lawful next a.body_is
no_changes kind body last count (End number records) kind_is none a lawful next = two_kinds (sym kind_is ∙ a.kind_is)
  where
    two_kinds : kinds.Changes ≡ kinds.BackupEnd → ⊥
    two_kinds e = cc

-- nor an end with this count
pub no_end : (kind : FrameKind) (body last : List ℕ) (count : ℕ) (piece : Piece) → kind ≡ kinds.BackupEnd
    → ((number : ℕ) → number < 2 ^ 64 → count < 2 ^ 64 → body ≡ end_body number count → ⊥)
    → Agrees kind body piece → IsPiece piece → IsNext last count piece → ⊥
no_end kind body last count (Records ws) kind_is none a lawful next = two_kinds (sym a.kind_is ∙ kind_is)
  where
    two_kinds : kinds.Changes ≡ kinds.BackupEnd → ⊥
    two_kinds e = cc
no_end kind body last count (End number records) kind_is none a lawful next =
    none number lawful.0 (subst (λ (n : ℕ). n < 2 ^ 64) next lawful.1) (a.body_is ∙ ap (end_body number) next)

-- A frame that stands alone is as long as the one that was found.
pub none_partly : (at : ℕ) (frame : List ℕ) (kind : FrameKind) (body : List ℕ) (n : ℕ)
    → IsSpelled files.Backup 0 at frame kind body → n ≡ length body + 13 → n ≢ length frame → (piece : Piece)
    → StandsAt stream_grammar 0 at frame piece [] → ⊥
none_partly at frame kind body n found long other piece s =
    let same = ap length (agrees at frame kind body piece [] found s).body_is in
    other (omega (arith, long, same, own_length at frame piece s, frame_long at piece))
