-- Lines of bytes: the first line's end, and the lines before and behind it.
use Rattle.std.proofs.Common.{append_assoc, append-nil, length-append, ◌≡◌, ◌≢◌, ◌+◌, ◌-◌, ◌<◌, ◌≤◌, ℕ, suc, List, []}
use Rattle.std.proofs.Common.{◌∷◌, ◌++◌, length, take, drop, refl, ap, sym, ◌∙◌, cond, Bool, true, false, not, arith}
use Rattle.std.proofs.Common.{subst, one-add, add-one}
use Rattle.std.proofs.lemmas.Grind.{common_steps}
use Rattle.std.proofs.lemmas.List.{drop-take, drop-drop}
use Rattle.std.proofs.lemmas.Bool.{ltb-true, ltb-false, ne_eqb}
use Rattle.std.specs.Prelude.{Option, Some, None, ◌==◌}
use Rattle.std.specs.List.{position, position_or_len, onto_first}
use Rattle.vl_script_model.specs.Input.{HasNoLineEnd, TakesLineEnd, Refills}
use Rattle.vl_script.specs.Script.{lines_of}

-- the index of the first line's end, or the length
abbrev pub end_at : List ℕ → ℕ
end_at bytes = position_or_len (λ b. b == 10) bytes

tested : (b n : ℕ) → (b == n) ≡ true → b ≡ n
tested b n e = grind (arith, common_steps)

untested : (b n : ℕ) → (b == n) ≡ false → b ≢ n
untested b n e = grind (arith, common_steps)

-- what a list of bytes is up to its first line's end and behind it
pub record IsSplit (bytes : List ℕ) (i : ℕ) : Type 0 where
  pub within : i < length bytes
  pub before : HasNoLineEnd (take i bytes)
  pub parts : bytes ≡ take i bytes ++ 10 ∷ drop (i + 1) bytes

one_further : (b : ℕ) (bytes : List ℕ) (i : ℕ) → b ≢ 10 → IsSplit bytes i → IsSplit (b ∷ bytes) (suc i)
one_further b bytes i other s = record {
  within = omega (arith, s.within);
  before = (other, s.before);
  parts = rw add-one (rw add-one at (ap (λ (l : List ℕ). b ∷ l) s.parts));
}

at_end_step : (b : ℕ) (bytes : List ℕ) (t : Bool) → (b == 10) ≡ t
    → cond (not t) (1 + end_at bytes) 0 < length (b ∷ bytes)
    → (end_at bytes < length bytes → IsSplit bytes (end_at bytes)) → IsSplit (b ∷ bytes) (cond (not t) (1 + end_at bytes) 0)
at_end_step b bytes true e h rest = record { within = omega arith; before = tt; parts = ap (λ (n : ℕ). n ∷ bytes) (tested b 10 e) }
at_end_step b bytes false e h rest = rw one-add (one_further b bytes (end_at bytes) (untested b 10 e) (rest (omega arith)))

at_end : (bytes : List ℕ) → end_at bytes < length bytes → IsSplit bytes (end_at bytes)
at_end [] h = absurd (omega arith)
at_end (b ∷ bytes) h = at_end_step b bytes (b == 10) refl h (at_end bytes)

none_step : (b : ℕ) (bytes : List ℕ) (t : Bool) → (b == 10) ≡ t → length (b ∷ bytes) ≤ cond (not t) (1 + end_at bytes) 0
    → (length bytes ≤ end_at bytes → HasNoLineEnd bytes) → HasNoLineEnd (b ∷ bytes)
none_step b bytes true e h rest = absurd (omega arith)
none_step b bytes false e h rest = (untested b 10 e, rest (omega arith))

none_at_end : (bytes : List ℕ) → length bytes ≤ end_at bytes → HasNoLineEnd bytes
none_at_end [] h = tt
none_at_end (b ∷ bytes) h = none_step b bytes (b == 10) refl h (none_at_end bytes)

chosen_some : (t : Bool) (n i : ℕ) → cond t (Some n) None ≡ Some i → (t ≡ true) × (n ≡ i)
chosen_some true n i e = (refl, cc)
chosen_some false n i e = (cc, cc)

chosen_none : (t : Bool) (n : ℕ) → cond t (Some n) None ≡ None → t ≡ false
chosen_none true n e = cc
chosen_none false n e = refl

pub split_at : (bytes : List ℕ) (i : ℕ) → position (λ b. b == 10) bytes ≡ Some i → IsSplit bytes i
split_at bytes i e =
    let c = chosen_some _ _ _ e in
    subst (IsSplit bytes) c.1 (at_end bytes (ltb-true (end_at bytes) (length bytes) c.0))

pub no_split : (bytes : List ℕ) → position (λ b. b == 10) bytes ≡ None → HasNoLineEnd bytes
no_split bytes e = none_at_end bytes (ltb-false (end_at bytes) (length bytes) (chosen_none _ _ e))

chosen_other : (t : Bool) (x y : List (List ℕ)) → t ≡ false → cond t x y ≡ y
chosen_other true x y e = absurd (cc)
chosen_other false x y e = refl

lines_of-other : (b : ℕ) (bytes : List ℕ) → b ≢ 10 → lines_of (b ∷ bytes) ≡ onto_first b (lines_of bytes)
lines_of-other b bytes other = chosen_other (b == 10) _ _ (ne_eqb b 10 other)

-- the first line and the lines behind it
pub lines_of-ended : (piece rest : List ℕ) → HasNoLineEnd piece → lines_of (piece ++ 10 ∷ rest) ≡ piece ∷ lines_of rest
lines_of-ended [] rest h = refl
lines_of-ended (b ∷ piece) rest h = lines_of-other b (piece ++ 10 ∷ rest) h.0 ∙ ap (onto_first b) (lines_of-ended piece rest h.1)

-- what a window onto bytes has behind its first n bytes
pub drop-window : (bytes : List ℕ) (start end n : ℕ) → start + n ≤ end
    → drop n (take (end - start) (drop start bytes)) ≡ take (end - (start + n)) (drop (start + n) bytes)
drop-window bytes start end n le =
    let e : end - start ≡ n + (end - (start + n)) = omega arith in
    ap (λ m. drop n (take m (drop start bytes))) e ∙ drop-take n (end - (start + n)) (drop start bytes)
    ∙ ap (take (end - (start + n))) (drop-drop n start bytes)

-- a window with equal ends is empty
pub empty_window : (bytes : List ℕ) (n : ℕ) → take (n - n) (drop n bytes) ≡ []
empty_window bytes n = let e : n - n ≡ 0 = omega arith in ap (λ m. take m (drop n bytes)) e

-- where there is no line's end, all the bytes are one line
pub lines_of-unended : (line : List ℕ) → HasNoLineEnd line → 0 < length line → lines_of line ≡ line ∷ []
lines_of-unended [] h some = absurd (omega arith)
lines_of-unended (b ∷ []) h some = lines_of-other b [] h.0
lines_of-unended (b ∷ c ∷ line) h some = lines_of-other b (c ∷ line) h.0 ∙ ap (onto_first b) (lines_of-unended (c ∷ line) h.1 (omega arith))

-- the first line begins with the bytes before any line's end
pub record BeginsWith (front bytes : List ℕ) : Type 0 where
  pub tail : List ℕ
  pub texts : List (List ℕ)
  pub lines : lines_of bytes ≡ (front ++ tail) ∷ texts

onto_front : (b : ℕ) (front bytes : List ℕ) → b ≢ 10 → BeginsWith front bytes → BeginsWith (b ∷ front) (b ∷ bytes)
onto_front b front bytes other s = record
    { tail = s.tail; texts = s.texts; lines = lines_of-other b bytes other ∙ ap (onto_first b) s.lines }

alone : (b : ℕ) (lines : List (List ℕ)) → (tail : List ℕ) × (texts : List (List ℕ)) × (onto_first b lines ≡ (b ∷ tail) ∷ texts)
alone b [] = ([], [], refl)
alone b (line ∷ lines) = (line, lines, refl)

pub begins_with : (front rest : List ℕ) → HasNoLineEnd front → 0 < length front → BeginsWith front (front ++ rest)
begins_with [] rest h some = absurd (omega arith)
begins_with (b ∷ []) rest h some =
    let a = alone b (lines_of rest) in
    record { tail = a.0; texts = a.1; lines = lines_of-other b rest h.0 ∙ a.2 }
begins_with (b ∷ c ∷ front) rest h some = onto_front b (c ∷ front) ((c ∷ front) ++ rest) h.0
    (begins_with (c ∷ front) rest h.1 (omega arith))

pub unended-append : (xs ys : List ℕ) → HasNoLineEnd xs → HasNoLineEnd ys → HasNoLineEnd (xs ++ ys)
unended-append [] ys p q = q
unended-append (x ∷ xs) ys p q = (p.0, unended-append xs ys p.1 q)

regrouped : (line piece new rest : List ℕ) → line ++ ((piece ++ 10 ∷ new) ++ rest) ≡ (line ++ piece) ++ 10 ∷ (new ++ rest)
regrouped line piece new rest = simp append_assoc

-- the bytes that are left, where the buffer has a line's end
pub read_to_end : (had line buffer rest new line' : List ℕ) → had ≡ line ++ (buffer ++ rest) → HasNoLineEnd line
    → TakesLineEnd true buffer new line line' → (had ≡ line' ++ 10 ∷ (new ++ rest)) × HasNoLineEnd line'
read_to_end had line buffer rest new line' e h (piece, parts, unended, taken) = (
  e ∙ ap (λ (b : List ℕ). line ++ (b ++ rest)) parts ∙ regrouped line piece new rest
      ∙ ap (λ (l : List ℕ). l ++ 10 ∷ (new ++ rest)) (sym taken),
  rw taken (unended-append line piece h unended),
)

-- the same, where it has none and all of it is taken
pub read_all : (had line buffer rest new line' : List ℕ) → had ≡ line ++ (buffer ++ rest) → HasNoLineEnd line
    → TakesLineEnd false buffer new line line' → (had ≡ line' ++ rest) × HasNoLineEnd line'
read_all had line buffer rest new line' e h (none, unended, taken) =
    (e ∙ sym (append_assoc line buffer rest) ∙ ap (λ (l : List ℕ). l ++ rest) (sym taken), rw taken (unended-append line buffer h unended))

-- the source gave more, which is behind the line so far
pub more_given : (had line rest given : List ℕ) (left' : Option (List ℕ)) → had ≡ line ++ rest
    → Refills true (Some rest) left' given → (more : List ℕ) × (left' ≡ Some more) × (had ≡ line ++ (given ++ more))
more_given had line rest given left' e (more, told, parts, some) = (more, told, e ∙ ap (λ (r : List ℕ). line ++ r) parts)

-- the line so far is longer than any of the language, and so is the whole line
pub too_long : (n : ℕ) (had line rest : List ℕ) → had ≡ line ++ rest → HasNoLineEnd line → n < length line
    → (text : List ℕ) × (texts : List (List ℕ)) × (lines_of had ≡ text ∷ texts) × (n < length text)
too_long n had line rest e h long =
    let first = begins_with line rest h (omega arith) in
    (line ++ first.tail, first.texts, ap lines_of e ∙ first.lines, omega (arith, length-append line first.tail))

-- the source is at its end, and the line so far is the last one
pub last_line_read : (had line rest given : List ℕ) (left' : Option (List ℕ)) → had ≡ line ++ rest
    → Refills false (Some rest) left' given → (left' ≡ Some []) × (had ≡ line)
last_line_read had line rest given left' e (none, was, no_more) = (none, e ∙ ap (λ (r : List ℕ). line ++ r) was ∙ append-nil line)
