-- The entries of a block that was read into memory.
use Rattle.std.specs.Prelude.{◌≡◌, ◌-◌, ◌≤◌, ◌<◌, ℕ, zero, suc, Bool, List, [], ◌∷◌, ◌++◌, drop, get_or, length, take}
use Rattle.std.specs.List.{AllByRecursion}
use Rattle.std.proofs.Common.{ap, arith, length-append, length-drop, length-take, refl, subst, sym, append_assoc, ◌∙◌}
use Rattle.std.proofs.lemmas.List.{drop-append-le, drop-drop, get_or-map, get_or-take, length-map, take-append-drop}
use Rattle.vl_frame.specs.Frame.{check_of, frame_bytes}
use Rattle.vl_frame.specs.declared.kinds.FrameKind.TheVariants as kinds
use Rattle.vl_model.specs.declared.entry.Entry.{Entry}
use Rattle.vl_table.specs.body.Blocks.{SpellsBlock, SpellsWalked, entries}
use Rattle.vl_table.specs.body.Entries.{IsEntry, entry_bytes}
use Rattle.vl_table.specs.body.Lists.{items_bytes}
use Rattle.vl_table.specs.body.Starts.{AreStarts, StartsAt}
use Rattle.vl_table.specs.laws.BlockLaws.{entry_is_some}
use Rattle.vl_table.specs.laws.Lengths.{length-block_body}
use Rattle.vl_table.specs.BlockEntries.{entry_in}
use Rattle.vl_table.specs.Kept.{HasFrame, StandsBlock}
use Rattle.vl_table.specs.declared.slot.BlockId.{BlockId}
use Rattle.vl_table.specs.OpenBlocks.{Begins, IsOpen, said_at}
use Rattle.vl_table.specs.Tested.{body_in}
use Rattle.vl_table.proofs.BlockSays.{entry_in-says, framed}

-- more bytes behind those in which an entry starts make no difference
longer : (format : ℕ) (bytes more : List ℕ) (place : ℕ) (e : Entry) → StartsAt format bytes place e
    → StartsAt format (bytes ++ more) place e
longer format bytes more place e starts =
    let inside : place ≤ length bytes = omega (
      arith,
      length-drop place bytes,
      ap length starts.spelled,
      length-append (entry_bytes format e) starts.rest,
      entry_is_some format e,
    ) in
    record {
      rest = starts.rest ++ more;
      spelled = drop-append-le place bytes more inside ∙ ap (λ (l : List ℕ). l ++ more) starts.spelled
          ∙ append_assoc (entry_bytes format e) starts.rest more;
    }

all_longer : (format : ℕ) (bytes more : List ℕ) (places : List ℕ) (es : List Entry) → AreStarts format bytes places es
    → AreStarts format (bytes ++ more) places es
all_longer format bytes more [] [] are = tt
all_longer format bytes more [] (e ∷ es) are = absurd are
all_longer format bytes more (p ∷ ps) [] are = absurd are
all_longer format bytes more (p ∷ ps) (e ∷ es) are = (longer format bytes more p e are.0, all_longer format bytes more ps es are.1)

said_all : (format : ℕ) (bytes places : List ℕ) (es : List Entry) → AllByRecursion (IsEntry format) es
    → AreStarts format bytes places es → said_at format bytes places ≡ es
said_all format bytes [] [] each are = refl
said_all format bytes [] (e ∷ es) each are = absurd are
said_all format bytes (p ∷ ps) [] each are = absurd are
said_all format bytes (p ∷ ps) (e ∷ es) each are =
    let here : entry_in format (drop p bytes) ≡ e = ap (entry_in format) are.0.spelled ∙ entry_in-says format e are.0.rest each.0 in
    let others = said_all format bytes ps es each.1 are.1 in
    λ i. here i ∷ others i

begin_all : (format : ℕ) (bytes places : List ℕ) (es : List Entry) → AllByRecursion (IsEntry format) es → AreStarts format bytes places es
    → AllByRecursion (Begins format bytes) places
begin_all format bytes [] [] each are = tt
begin_all format bytes [] (e ∷ es) each are = absurd are
begin_all format bytes (p ∷ ps) [] each are = absurd are
begin_all format bytes (p ∷ ps) (e ∷ es) each are =
    (record { entry = e; lawful = each.0; starts = are.0 }, begin_all format bytes ps es each.1 are.1)

module _ (format number place : ℕ) (body rest : List ℕ) (es : List Entry) (starts : List ℕ) (says : SpellsBlock format body es)
    (are : AreStarts format (drop 4 body) starts es) where
  behind : drop 9 (frame_bytes number place kinds.Block body ++ rest) ≡ drop 4 body ++ (check_of number place kinds.Block body ++ rest)
  behind =
      let check = check_of number place kinds.Block body in
      let items = items_bytes (entries format) es in
      ap (drop 9) (framed number place body rest)
      ∙ ap (λ (b : List ℕ). drop 4 ((b ++ check) ++ rest)) says.spelled
      ∙ append_assoc items check rest
      ∙ ap (λ (b : List ℕ). drop 4 b ++ (check ++ rest)) (sym says.spelled)

  inside : AreStarts format (drop 9 (frame_bytes number place kinds.Block body ++ rest)) starts es
  inside =
      subst (λ (l : List ℕ). AreStarts format l starts es) (sym behind)
      (all_longer format (drop 4 body) (check_of number place kinds.Block body ++ rest) starts es are)

  pub said : said_at format (drop 9 (frame_bytes number place kinds.Block body ++ rest)) starts ≡ es
  said = said_all format (drop 9 (frame_bytes number place kinds.Block body ++ rest)) starts es says.lawful.each inside

-- Whatever frame it is: what is read of its body begins at these places, in all that stands behind head and count.
module _ (tested : Bool) (format : ℕ) (frame rest : List ℕ) (es : List Entry) (starts : List ℕ)
    (says : SpellsWalked tested format (body_in frame) es)
    (are : AreStarts format (drop 4 (body_in frame)) starts es) where
  behind_head : (tail : List ℕ) × (drop 9 (frame ++ rest) ≡ drop 4 (body_in frame) ++ tail)
  behind_head =
      let n = length frame - 8 - 5 in
      let tail = drop n (drop 5 frame) in
      let long : 4 ≤ length (body_in frame) = omega (arith, ap length says.spelled, length-block_body format es) in
      let enough : 5 ≤ length frame = omega (arith, long, length-take n (drop 5 frame), length-drop 5 frame) in
      let split : drop 5 (frame ++ rest) ≡ body_in frame ++ (tail ++ rest) =
      drop-append-le 5 frame rest enough ∙ ap (λ (l : List ℕ). l ++ rest) (sym (take-append-drop n (drop 5 frame)))
      ∙ append_assoc (body_in frame) tail rest in (
        tail ++ rest,
        sym (drop-drop 4 5 (frame ++ rest)) ∙ ap (drop 4) split ∙ drop-append-le 4 (body_in frame) (tail ++ rest) long,
      )

  pub begins : AllByRecursion (Begins format (drop 9 (frame ++ rest))) starts
  begins = begin_all format (drop 9 (frame ++ rest)) starts es says.each
      (subst (λ (l : List ℕ). AreStarts format l starts es) (sym behind_head.1)
      (all_longer format (drop 4 (body_in frame)) behind_head.0 starts es are))

-- ---- one of them

each_at : (P : ℕ → Type 0) (xs : List ℕ) (i d : ℕ) → AllByRecursion P xs → i < length xs → P (get_or xs i d)
each_at P [] i d all less = absurd (omega arith)
each_at P (x ∷ xs) zero d all less = all.0
each_at P (x ∷ xs) (suc i) d all less = each_at P xs i d all.1 (omega arith)

-- the entry that begins at the place with an index is the one that is said there
pub said_here : (format count index start : ℕ) (frame places : List ℕ) (e : Entry) → IsOpen format frame places count
    → index < length (said_at format (drop 9 frame) (take count places)) → start ≡ get_or places index start
    → ((f : Entry) → IsEntry format f → StartsAt format (drop 9 frame) start f → e ≡ f)
    → e ≡ get_or (said_at format (drop 9 frame) (take count places)) index e
said_here format count index start frame places e open_block within here found =
    let bytes = drop 9 frame in
    let xs = take count places in
    let say : ℕ → Entry = λ (p : ℕ). entry_in format (drop p bytes) in
    let inside : index < length xs = omega (arith, within, length-map xs say) in
    let few : index < count = omega (arith, inside, length-take count places) in
    let same : get_or xs index start ≡ start = get_or-take count places index start few ∙ sym here in
    let b : Begins format bytes start = subst (Begins format bytes) same
    (each_at (Begins format bytes) xs index start open_block.each inside) in
    found b.entry b.lawful b.starts
    ∙ sym (ap (entry_in format) b.starts.spelled ∙ entry_in-says format b.entry b.starts.rest b.lawful)
    ∙ ap say (sym same)
    ∙ sym (get_or-map say xs index start e inside)

-- ---- a block that was read

pub opens : (format count : ℕ) (frame places now now_places : List ℕ) → now ≡ frame → now_places ≡ places
    → length frame ≡ 4190 → length places ≡ 347
    → count ≤ 347 → AllByRecursion (Begins format (drop 9 frame)) (take count places) → IsOpen format now now_places count
opens format count frame places now now_places same same_places room places_room few each = record {
  room = ap length same ∙ room;
  places_room = ap length same_places ∙ places_room;
  within = few;
  each = subst (λ (l : List ℕ). AllByRecursion (Begins format (drop 9 l)) (take count now_places)) (sym same)
      (subst (λ (l : List ℕ). AllByRecursion (Begins format (drop 9 frame)) (take count l)) (sym same_places) each);
}

pub opened : (id : BlockId) (bytes frame places now now_places : List ℕ) (count : ℕ) (es : List Entry) → now ≡ frame → now_places ≡ places
    → HasFrame id bytes (take id.length frame) (take count places) es
    → StandsBlock id.format id.number bytes id.place id.length (said_at id.format (drop 9 now) (take count now_places))
opened id bytes frame places now now_places count es same same_places has =
    let whole : frame ≡ frame_bytes id.number id.place kinds.Block has.stands.body ++ drop id.length frame =
    sym (take-append-drop id.length frame) ∙ ap (λ (l : List ℕ). l ++ drop id.length frame) has.framed in
    let is : said_at id.format (drop 9 now) (take count now_places) ≡ es =
    (λ i. said_at id.format (drop 9 ((same ∙ whole) i)) (take count (same_places i)))
    ∙ said id.format id.number id.place has.stands.body (drop id.length frame) es (take count places) has.stands.says has.are in
    subst (StandsBlock id.format id.number bytes id.place id.length) (sym is) has.stands
