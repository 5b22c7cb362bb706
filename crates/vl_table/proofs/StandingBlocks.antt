-- What is computed of the blocks that stand is what stands.
use Rattle.std.specs.Prelude.{◌≡◌, ◌<◌, ◌≤◌, ◌^◌, ℕ, Bool, true, false, ◌&&◌, ◌||◌, ◌==◌, nat_le, nat_lt, List, [], ◌∷◌, ◌++◌, drop, length}
use Rattle.std.specs.List.{AllByRecursion, list_all}
use Rattle.std.specs.Ordering.{eq_by_cmp, is_eq, is_lt}
use Rattle.std.specs.declared.cmp.Ordering.{Ordering}
use Rattle.std.specs.declared.cmp.Ordering.TheVariants.{Less, Equal, Greater}
use Rattle.std.proofs.Common.{cond, refl, ap, sym, subst, ◌∙◌, arith}
use Rattle.std.proofs.lemmas.Bool.Decides.{nat_tests}
use Rattle.std.proofs.lemmas.List.{take-append-drop}
use Rattle.vl_disk.specs.DiskState.{bytes_at}
use Rattle.vl_frame.specs.Frame.{frame_bytes, frame_length}
use Rattle.vl_frame.specs.declared.kinds.FrameKind.TheVariants as kinds
use Rattle.vl_model.specs.Cutting.{longest_body}
use Rattle.vl_model.specs.Entries.{entry_cmp}
use Rattle.vl_model.specs.Formats.{has_tags}
use Rattle.vl_model.specs.Keys.{is_key_length, key_cmp}
use Rattle.vl_model.specs.Limits.{max_inline_bytes}
use Rattle.vl_model.specs.laws.WinnerLaws.{key_tied, same_key}
use Rattle.vl_model.specs.declared.entry.Body.{Body}
use Rattle.vl_model.specs.declared.entry.Body.TheVariants.{Inline, Gone, Far, Logged}
use Rattle.vl_model.specs.declared.entry.Entry.{Entry}
use Rattle.vl_table.specs.BlockEntries.{block_entries}
use Rattle.vl_table.specs.Kept.{StandsBlock}
use Rattle.vl_table.specs.Standing.{are_ordered, is_block, is_body, is_entry, is_in_front, is_standing, standing_entries}
use Rattle.vl_table.specs.body.Blocks.{IsBlock, block_body, entries}
use Rattle.vl_table.specs.body.Entries.{IsBody, IsEntry, IsInline, IsPointer}
use Rattle.vl_table.specs.body.Lists.{AreOrdered, IsInFront}
use Rattle.vl_table.specs.declared.body.index.BlockPlace.{BlockPlace}
use Rattle.vl_table.proofs.BlockSays.{block_entries-says}
use Rattle.vl_table.proofs.Parts.{cut_out}

-- ---- tests and what they test

and_left : (a b : Bool) → a && b ≡ true → a ≡ true
and_left true b is = refl
and_left false b is = absurd cc

and_right : (a b : Bool) → a && b ≡ true → b ≡ true
and_right true b is = is
and_right false b is = absurd cc

both : (a b : Bool) → a ≡ true → b ≡ true → a && b ≡ true
both true b first second = second
both false b first second = absurd cc

or_right : (a b : Bool) → (a || b) ≡ true → a ≡ false → b ≡ true
or_right true b is off = absurd cc
or_right false b is off = is

either : (a b : Bool) → (a ≡ false → b ≡ true) → (a || b) ≡ true
either true b so = refl
either false b so = so refl

le_from : (m n : ℕ) → nat_le m n ≡ true → m ≤ n
le_from m n is = grind (arith, nat_tests, is)

le_to : (m n : ℕ) → m ≤ n → nat_le m n ≡ true
le_to m n is = grind (arith, nat_tests, is)

lt_from : (m n : ℕ) → nat_lt m n ≡ true → m < n
lt_from m n is = grind (arith, nat_tests, is)

lt_to : (m n : ℕ) → m < n → nat_lt m n ≡ true
lt_to m n is = grind (arith, nat_tests, is)

eq_from : (m n : ℕ) → (m == n) ≡ true → m ≡ n
eq_from m n is = grind (arith, nat_tests, is)

eq_to : (m n : ℕ) → m ≡ n → (m == n) ≡ true
eq_to m n is = grind (arith, nat_tests, is)

less_from : (r : Ordering) → is_lt r ≡ true → r ≡ Less
less_from Less is = refl
less_from Equal is = absurd cc
less_from Greater is = absurd cc

-- ---- a block's entries

body_from : (format : ℕ) (b : Body) → is_body format b ≡ true → IsBody format b
body_from format (Inline value) is =
    let short = nat_le (length value.bytes) max_inline_bytes in
    let tag = nat_lt value.tag (2 ^ 8) in
    let tagged = has_tags format || (value.tag == 0) in
    let rest = and_right short (tag && tagged) is in
    record {
      short = le_from (length value.bytes) max_inline_bytes (and_left short (tag && tagged) is);
      tag = lt_from value.tag (2 ^ 8) (and_left tag tagged rest);
      untagged = λ no. eq_from value.tag 0 (or_right (has_tags format) (value.tag == 0) (and_right tag tagged rest) no);
    }
body_from format Gone is = tt
body_from format (Far p) is =
    let segment = nat_lt p.segment (2 ^ 32) in
    let place = nat_lt p.place (2 ^ 64) in
    let size = nat_lt p.length (2 ^ 32) in
    let rest = and_right segment (place && size) is in
    record {
      segment = lt_from p.segment (2 ^ 32) (and_left segment (place && size) is);
      place = lt_from p.place (2 ^ 64) (and_left place size rest);
      length = lt_from p.length (2 ^ 32) (and_right place size rest);
    }
body_from format (Logged value pointer) is = absurd cc

body_to : (format : ℕ) (b : Body) → IsBody format b → is_body format b ≡ true
body_to format (Inline value) is =
    both (nat_le (length value.bytes) max_inline_bytes) (nat_lt value.tag (2 ^ 8) && (has_tags format || (value.tag == 0)))
    (le_to (length value.bytes) max_inline_bytes is.short)
    (both (nat_lt value.tag (2 ^ 8)) (has_tags format || (value.tag == 0)) (lt_to value.tag (2 ^ 8) is.tag)
    (either (has_tags format) (value.tag == 0) (λ no. eq_to value.tag 0 (is.untagged no))))
body_to format Gone is = refl
body_to format (Far p) is =
    both (nat_lt p.segment (2 ^ 32)) (nat_lt p.place (2 ^ 64) && nat_lt p.length (2 ^ 32)) (lt_to p.segment (2 ^ 32) is.segment)
    (both (nat_lt p.place (2 ^ 64)) (nat_lt p.length (2 ^ 32)) (lt_to p.place (2 ^ 64) is.place) (lt_to p.length (2 ^ 32) is.length))
body_to format (Logged value pointer) is = absurd is

entry_from : (format : ℕ) (e : Entry) → is_entry format e ≡ true → IsEntry format e
entry_from format e is =
    let key = is_key_length (length e.key) in
    let version = nat_lt e.version (2 ^ 64) in
    let rest = and_right key (version && is_body format e.body) is in
    record {
      key = and_left key (version && is_body format e.body) is;
      version = lt_from e.version (2 ^ 64) (and_left version (is_body format e.body) rest);
      body = body_from format e.body (and_right version (is_body format e.body) rest);
    }

entry_to : (format : ℕ) (e : Entry) → IsEntry format e → is_entry format e ≡ true
entry_to format e is =
    both (is_key_length (length e.key)) (nat_lt e.version (2 ^ 64) && is_body format e.body) is.key
    (both (nat_lt e.version (2 ^ 64)) (is_body format e.body) (lt_to e.version (2 ^ 64) is.version) (body_to format e.body is.body))

each_from : (format : ℕ) (es : List Entry) → list_all (is_entry format) es ≡ true → AllByRecursion (IsEntry format) es
each_from format [] is = tt
each_from format (e ∷ es) is = (
  entry_from format e (and_left (is_entry format e) (list_all (is_entry format) es) is),
  each_from format es (and_right (is_entry format e) (list_all (is_entry format) es) is),
)

each_to : (format : ℕ) (es : List Entry) → AllByRecursion (IsEntry format) es → list_all (is_entry format) es ≡ true
each_to format [] each = refl
each_to format (e ∷ es) each =
    both (is_entry format e) (list_all (is_entry format) es) (entry_to format e each.0) (each_to format es each.1)

front_from : (format : ℕ) (e : Entry) (es : List Entry) → is_in_front e es ≡ true → IsInFront (entries format) e es
front_from format e [] is = tt
front_from format e (f ∷ fs) is = less_from (entry_cmp e f) is

front_to : (format : ℕ) (e : Entry) (es : List Entry) → IsInFront (entries format) e es → is_in_front e es ≡ true
front_to format e [] is = refl
front_to format e (f ∷ fs) is = ap is_lt is

ordered_from : (format : ℕ) (es : List Entry) → are_ordered es ≡ true → AreOrdered (entries format) es
ordered_from format [] is = tt
ordered_from format (e ∷ es) is = (
  front_from format e es (and_left (is_in_front e es) (are_ordered es) is),
  ordered_from format es (and_right (is_in_front e es) (are_ordered es) is),
)

ordered_to : (format : ℕ) (es : List Entry) → AreOrdered (entries format) es → are_ordered es ≡ true
ordered_to format [] ordered = refl
ordered_to format (e ∷ es) ordered =
    both (is_in_front e es) (are_ordered es) (front_to format e es ordered.0) (ordered_to format es ordered.1)

block_from : (format : ℕ) (es : List Entry) → is_block format es ≡ true → IsBlock format es
block_from format es is =
    let few = nat_lt (length es) (2 ^ 32) in
    let each = list_all (is_entry format) es in
    let rest = and_right few (each && are_ordered es) is in
    record {
      few = lt_from (length es) (2 ^ 32) (and_left few (each && are_ordered es) is);
      each = each_from format es (and_left each (are_ordered es) rest);
      ordered = ordered_from format es (and_right each (are_ordered es) rest);
    }

block_to : (format : ℕ) (es : List Entry) → IsBlock format es → is_block format es ≡ true
block_to format es is =
    both (nat_lt (length es) (2 ^ 32)) (list_all (is_entry format) es && are_ordered es) (lt_to (length es) (2 ^ 32) is.few)
    (both (list_all (is_entry format) es) (are_ordered es) (each_to format es is.each) (ordered_to format es is.ordered))

-- ---- a block

same_bytes : (xs ys : List ℕ) → xs ≡ ys → eq_by_cmp key_cmp xs ys ≡ true
same_bytes xs ys same = subst (λ (l : List ℕ). eq_by_cmp key_cmp xs l ≡ true) same (ap is_eq (key_tied xs))

short_of : (n : ℕ) → n ≤ 4177 → n < 2 ^ 32
short_of n few = omega (arith, few)

module _ (format number : ℕ) (bytes : List ℕ) (p : BlockPlace) where
  stands_from : (es : List Entry) → is_standing format number bytes p es ≡ true → StandsBlock format number bytes p.place p.length es
  unfolding is_standing
  stands_from es is =
      let body = block_body format es in
      let frame = frame_bytes number p.place kinds.Block body in
      let lawful = is_block format es in
      let few = nat_le (length body) longest_body in
      let sized = p.length == frame_length (length body) in
      let alike = eq_by_cmp key_cmp (bytes_at p.place p.length bytes) frame in
      let rest = and_right lawful (few && (sized && alike)) is in
      let more = and_right few (sized && alike) rest in
      let short : length body ≤ 4177 = le_from (length body) longest_body (and_left few (sized && alike) rest) in
      record {
        body = body;
        frame = record {
          frame = record {
            in_file = refl;
            short = short_of (length body) short;
            rest = drop p.length (drop p.place bytes);
            spelled = sym (take-append-drop p.length (drop p.place bytes))
                ∙ ap (λ (l : List ℕ). l ++ drop p.length (drop p.place bytes))
                (same_key (bytes_at p.place p.length bytes) frame (and_right sized alike more));
          };
          sized = eq_from p.length (frame_length (length body)) (and_left sized alike more);
        };
        says = record {
          short = short;
          lawful = block_from format es (and_left lawful (few && (sized && alike)) is);
          spelled = refl;
        };
      }

  stands_to : (es : List Entry) → StandsBlock format number bytes p.place p.length es → is_standing format number bytes p es ≡ true
  unfolding is_standing
  stands_to es stands =
      let body = block_body format es in
      let frame = frame_bytes number p.place kinds.Block body in
      let lawful = is_block format es in
      let few = nat_le (length body) longest_body in
      let sized = p.length == frame_length (length body) in
      let alike = eq_by_cmp key_cmp (bytes_at p.place p.length bytes) frame in
      let is : stands.body ≡ body = stands.says.spelled in
      both lawful (few && (sized && alike)) (block_to format es stands.says.lawful)
      (both few (sized && alike) (le_to (length body) longest_body (subst (λ (l : List ℕ). length l ≤ longest_body) is stands.says.short))
      (both sized alike (eq_to p.length (frame_length (length body)) (stands.frame.sized ∙ ap (λ (l : List ℕ). frame_length (length l)) is))
      (same_bytes (bytes_at p.place p.length bytes) frame
      (cut_out number p.place p.length kinds.Block bytes stands.body stands.frame
      ∙ ap (λ (l : List ℕ). frame_bytes number p.place kinds.Block l) is))))

  -- of a block that stands these are its entries
  pub standing-says : (es : List Entry) → StandsBlock format number bytes p.place p.length es → standing_entries format number bytes p ≡ es
  unfolding standing_entries
  standing-says es stands =
      ap (λ (l : List Entry). cond (is_standing format number bytes p l) l []) (block_entries-says format number bytes p es stands)
      ∙ ap (λ (t : Bool). cond t es []) (stands_to es stands)

  -- and none stand where none does
  pub standing-none : ((es : List Entry) → StandsBlock format number bytes p.place p.length es → ⊥) → standing_entries format number bytes p ≡ []
  unfolding standing_entries
  standing-none none = by (is_standing format number bytes p (block_entries format bytes p)) refl
    where
      by : (t : Bool) → is_standing format number bytes p (block_entries format bytes p) ≡ t
          → cond t (block_entries format bytes p) [] ≡ []
      by true is = absurd (none (block_entries format bytes p) (stands_from (block_entries format bytes p) is))
      by false is = refl
