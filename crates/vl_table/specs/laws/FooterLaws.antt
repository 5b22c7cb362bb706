-- A footer's body spells one footer at most.
use Rattle.std.specs.Prelude.{◌≡◌, ◌<◌, ◌^◌, ℕ, Bool, true, false, Option, Some, None, List, ◌++◌, refl}
use Rattle.std.proofs.Common.{sym, ap, ◌∙◌, append_assoc}
use Rattle.byteorder.specs.Endian.{big_bytes}
use Rattle.vl_frame.specs.laws.NumberLaws.{one_number}
use Rattle.vl_table.specs.body.Entries.{key_bytes}
use Rattle.vl_table.specs.laws.EntryLaws.{one_key}
use Rattle.vl_table.specs.body.Footer.{Head, IsFramePlace, IsHead, frame_place_bytes, head_bytes, Foot, SpellsFooter, points}
use Rattle.vl_model.specs.Formats.{has_filter}
use Rattle.vl_table.specs.declared.body.footer_head.FramePlace.{FramePlace}
use Rattle.vl_table.specs.body.Lists.{counted_bytes}
use Rattle.vl_table.specs.laws.ListLaws.{one_list}

-- a frame's place, or none
one_frame_place : (there : Bool) (p q : Option FramePlace) (x y : List ℕ) → IsFramePlace there p → IsFramePlace there q
    → frame_place_bytes p ++ x ≡ frame_place_bytes q ++ y → (p ≡ q) × (x ≡ y)
one_frame_place true None q x y i j e = absurd i
one_frame_place true (Some p) None x y i j e = absurd j
one_frame_place true (Some p) (Some q) x y i j e =
    let both : big_bytes 8 p.place ++ (big_bytes 4 p.length ++ x) ≡ big_bytes 8 q.place ++ (big_bytes 4 q.length ++ y) = e in
    let a = one_number 8 p.place q.place (big_bytes 4 p.length ++ x) (big_bytes 4 q.length ++ y) i.0 j.0 both in
    let b = one_number 4 p.length q.length x y i.1 j.1 a.1 in
    ((λ k. Some (record { place = a.0 k; length = b.0 k })), b.1)
one_frame_place false None None x y i j e = (refl, e)
one_frame_place false None (Some q) x y i j e = absurd j
one_frame_place false (Some p) q x y i j e = absurd i

-- a head's bytes come apart
pub head-parts : (h : Head) (x : List ℕ)
    → head_bytes h ++ x
    ≡ frame_place_bytes h.filter
    ++ (big_bytes 8 h.index_place
    ++ (big_bytes 4 h.index_length
    ++ (big_bytes 8 h.count ++ (big_bytes 8 h.greatest ++ (key_bytes h.first ++ (key_bytes h.last ++ x))))))
head-parts h x =
    append_assoc (frame_place_bytes h.filter)
    (big_bytes 8 h.index_place
    ++ (big_bytes 4 h.index_length ++ (big_bytes 8 h.count ++ (big_bytes 8 h.greatest ++ (key_bytes h.first ++ key_bytes h.last))))) x
    ∙ ap (λ (l : List ℕ). frame_place_bytes h.filter
    ++ (big_bytes 8 h.index_place ++ (big_bytes 4 h.index_length ++ (big_bytes 8 h.count ++ (big_bytes 8 h.greatest ++ l)))))
    (append_assoc (key_bytes h.first) (key_bytes h.last) x)

-- what was taken one after the other is a head
pub head-found : (h : Head) (b r0 r1 r2 r3 r4 r5 r6 : List ℕ) → b ≡ frame_place_bytes h.filter ++ r0 → r0 ≡ big_bytes 8 h.index_place ++ r1
    → r1 ≡ big_bytes 4 h.index_length ++ r2 → r2 ≡ big_bytes 8 h.count ++ r3 → r3 ≡ big_bytes 8 h.greatest ++ r4
    → r4 ≡ key_bytes h.first ++ r5 → r5 ≡ key_bytes h.last ++ r6 → b ≡ head_bytes h ++ r6
head-found h b r0 r1 r2 r3 r4 r5 r6 e0 e1 e2 e3 e4 e5 e6 =
    e0 ∙ ap (λ (l : List ℕ). frame_place_bytes h.filter ++ l)
    (e1 ∙ ap (λ (l : List ℕ). big_bytes 8 h.index_place ++ l)
    (e2 ∙ ap (λ (l : List ℕ). big_bytes 4 h.index_length ++ l)
    (e3 ∙ ap (λ (l : List ℕ). big_bytes 8 h.count ++ l)
    (e4 ∙ ap (λ (l : List ℕ). big_bytes 8 h.greatest ++ l) (e5 ∙ ap (λ (l : List ℕ). key_bytes h.first ++ l) e6)))))
    ∙ sym (head-parts h r6)

-- of a head whose numbers were taken the keys are left
pub numbers-taken : (format : ℕ) (g h : Head) (b x r0 r1 r2 r3 r4 : List ℕ) → IsFramePlace (has_filter format) g.filter
    → g.index_place < 2 ^ 64 → g.index_length < 2 ^ 32 → g.count < 2 ^ 64 → g.greatest < 2 ^ 64 → IsHead format h
    → b ≡ frame_place_bytes g.filter ++ r0 → r0 ≡ big_bytes 8 g.index_place ++ r1 → r1 ≡ big_bytes 4 g.index_length ++ r2
    → r2 ≡ big_bytes 8 g.count ++ r3 → r3 ≡ big_bytes 8 g.greatest ++ r4
    → b ≡ head_bytes h ++ x → r4 ≡ key_bytes h.first ++ (key_bytes h.last ++ x)
numbers-taken format g h b x r0 r1 r2 r3 r4 filter place size count greatest j e0 e1 e2 e3 e4 spelled =
    let p = one_frame_place (has_filter format) g.filter h.filter r0 _ filter j.filter (sym e0 ∙ spelled ∙ head-parts h x) in
    let a = one_number 8 g.index_place h.index_place r1 _ place j.index_place (sym e1 ∙ p.1) in
    let l = one_number 4 g.index_length h.index_length r2 _ size j.index_length (sym e2 ∙ a.1) in
    let c = one_number 8 g.count h.count r3 _ count j.count (sym e3 ∙ l.1) in
    let d = one_number 8 g.greatest h.greatest r4 _ greatest j.greatest (sym e4 ∙ c.1) in
    d.1

pub one_head : (format : ℕ) (g h : Head) (x y : List ℕ) → IsHead format g → IsHead format h → head_bytes g ++ x ≡ head_bytes h ++ y
    → (g ≡ h) × (x ≡ y)
one_head format g h x y i j e =
    let both = sym (head-parts g x) ∙ e ∙ head-parts h y in
    let p = one_frame_place (has_filter format) g.filter h.filter _ _ i.filter j.filter both in
    let a = one_number 8 g.index_place h.index_place _ _ i.index_place j.index_place p.1 in
    let b = one_number 4 g.index_length h.index_length _ _ i.index_length j.index_length a.1 in
    let c = one_number 8 g.count h.count _ _ i.count j.count b.1 in
    let d = one_number 8 g.greatest h.greatest _ _ i.greatest j.greatest c.1 in
    let f = one_key g.first h.first _ _ i.first j.first d.1 in
    let l = one_key g.last h.last x y i.last j.last f.1 in (
      (λ k. record {
        filter = p.0 k;
        index_place = a.0 k;
        index_length = b.0 k;
        count = c.0 k;
        greatest = d.0 k;
        first = f.0 k;
        last = l.0 k;
      }),
      l.1,
    )

pub one_footer : (format : ℕ) (body : List ℕ) (f g : Foot) → SpellsFooter format body f → SpellsFooter format body g → f ≡ g
one_footer format body f g i j =
    let heads = one_head format f.head g.head (counted_bytes points f.points) (counted_bytes points g.points) i.head
    j.head (sym i.spelled ∙ j.spelled) in
    let lists = one_list points (counted_bytes points f.points) f.points g.points i.points j.points refl heads.1 in
    λ k. record { head = heads.0 k; points = lists k }
