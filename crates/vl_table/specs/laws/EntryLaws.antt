-- At the front of the same bytes one entry of a table is spelled at most.
use Rattle.std.specs.Prelude.{◌≡◌, ◌<◌, ℕ, Bool, true, false, List, [], ◌∷◌, ◌++◌, length, refl}
use Rattle.std.proofs.Common.{sym, ap, cond, ◌∙◌, append_assoc, arith}
use Rattle.std.proofs.lemmas.Bool.Decides.{nat_tests}
use Rattle.byteorder.specs.Endian.{big_bytes}
use Rattle.vl_frame.specs.laws.NumberLaws.{one_number, same_front}
use Rattle.vl_model.specs.Keys.{is_key_length}
use Rattle.vl_model.specs.declared.entry.Entry.{Entry}
use Rattle.vl_model.specs.declared.entry.Body.{Body}
use Rattle.vl_model.specs.declared.entry.Body.TheVariants.{Inline, Gone, Far, Logged}
use Rattle.vl_model.specs.declared.pointer.Pointer.{Pointer}
use Rattle.vl_model.specs.declared.value.Value.{Value}
use Rattle.vl_model.specs.Formats.{has_tags}
use Rattle.vl_table.specs.body.Entries.{key_bytes, pointer_bytes, inline_bytes, tag_bytes, body_bytes, entry_bytes}
use Rattle.vl_table.specs.body.Entries.{IsPointer, IsInline, IsBody, IsEntry}

key-fits : (n : ℕ) → is_key_length n ≡ true → n < 65536
key-fits n lawful = grind (arith, nat_tests)

-- Keys of lawful lengths.
pub one_key : (key other x y : List ℕ) → is_key_length (length key) ≡ true → is_key_length (length other) ≡ true
    → key_bytes key ++ x ≡ key_bytes other ++ y → (key ≡ other) × (x ≡ y)
one_key key other x y lawful also e =
    let both = sym (append_assoc (big_bytes 2 (length key)) key x) ∙ e ∙ append_assoc (big_bytes 2 (length other)) other y in
    let size = one_number 2 (length key) (length other) (key ++ x) (other ++ y) (key-fits _ lawful) (key-fits _ also) both in
    same_front key other x y size.0 size.1

pub one_pointer : (p q : Pointer) (x y : List ℕ) → IsPointer p → IsPointer q
    → pointer_bytes p ++ x ≡ pointer_bytes q ++ y → (p ≡ q) × (x ≡ y)
one_pointer p q x y fits also e =
    let both : big_bytes 4 p.segment ++ (big_bytes 8 p.place ++ (big_bytes 4 p.length ++ x)) ≡ big_bytes 4 q.segment
    ++ (big_bytes 8 q.place ++ (big_bytes 4 q.length ++ y)) = e in
    let a = one_number 4 p.segment q.segment _ _ fits.segment also.segment both in
    let b = one_number 8 p.place q.place _ _ fits.place also.place a.1 in
    let c = one_number 4 p.length q.length x y fits.length also.length b.1 in
    ((λ i. record { segment = a.0 i; place = b.0 i; length = c.0 i }), c.1)

first_byte : (a b : ℕ) (x y : List ℕ) → a ∷ x ≡ b ∷ y → a ≡ b
first_byte a b x y e = cc

rest_bytes : (a b : ℕ) (x y : List ℕ) → a ∷ x ≡ b ∷ y → x ≡ y
rest_bytes a b x y e = cc

-- one byte, or none
one_tag : (format tag other : ℕ) (x y : List ℕ) → (has_tags format ≡ false → tag ≡ 0) → (has_tags format ≡ false → other ≡ 0)
    → tag_bytes format tag ++ x ≡ tag_bytes format other ++ y → (tag ≡ other) × (x ≡ y)
one_tag format tag other x y zero also e = by (has_tags format) zero also e
  where
    by : (t : Bool) → (t ≡ false → tag ≡ 0) → (t ≡ false → other ≡ 0) → cond t (tag ∷ []) [] ++ x ≡ cond t (other ∷ []) [] ++ y
        → (tag ≡ other) × (x ≡ y)
    by true zero also e = (first_byte tag other x y e, rest_bytes tag other x y e)
    by false zero also e = (zero refl ∙ sym (also refl), e)

one_short : (value other x y : List ℕ) → length value ∷ value ++ x ≡ length other ∷ other ++ y
    → (value ≡ other) × (x ≡ y)
one_short value other x y e =
    same_front value other x y (first_byte (length value) (length other) (value ++ x) (other ++ y) e)
    (rest_bytes (length value) (length other) (value ++ x) (other ++ y) e)

pub inline-parts : (format : ℕ) (value : Value) (x : List ℕ)
    → inline_bytes format value ++ x ≡ tag_bytes format value.tag ++ (length value.bytes ∷ value.bytes ++ x)
inline-parts format value x = append_assoc (tag_bytes format value.tag) (length value.bytes ∷ value.bytes) x

pub one_inline : (format : ℕ) (value other : Value) (x y : List ℕ) → IsInline format value → IsInline format other
    → inline_bytes format value ++ x ≡ inline_bytes format other ++ y → (value ≡ other) × (x ≡ y)
one_inline format value other x y i j e =
    let tags = one_tag format value.tag other.tag (length value.bytes ∷ value.bytes ++ x) (length other.bytes ∷ other.bytes ++ y)
    i.untagged j.untagged (sym (inline-parts format value x) ∙ e ∙ inline-parts format other y) in
    let bytes = one_short value.bytes other.bytes x y tags.1 in
    ((λ k. record { bytes = bytes.0 k; tag = tags.0 k }), bytes.1)

pub one_body : (format : ℕ) (a b : Body) (x y : List ℕ) → IsBody format a → IsBody format b
    → body_bytes format a ++ x ≡ body_bytes format b ++ y → (a ≡ b) × (x ≡ y)
one_body format (Inline v) (Inline w) x y i j e =
    let one = one_inline format v w x y i j (rest_bytes 0 0 _ _ e) in (ap Inline one.0, one.1)
one_body format (Far p) (Far q) x y i j e =
    let one = one_pointer p q x y i j (rest_bytes 2 2 _ _ e) in (ap Far one.0, one.1)
one_body format Gone Gone x y i j e = (refl, rest_bytes 1 1 x y e)
one_body format (Logged v p) b x y i j e = absurd i
one_body format (Inline v) (Logged w q) x y i j e = absurd j
one_body format Gone (Logged w q) x y i j e = absurd j
one_body format (Far p) (Logged w q) x y i j e = absurd j
one_body format (Inline v) Gone x y i j e = let no = first_byte 0 1 _ _ e in absurd (omega (arith, no))
one_body format (Inline v) (Far q) x y i j e = let no = first_byte 0 2 _ _ e in absurd (omega (arith, no))
one_body format Gone (Inline w) x y i j e = let no = first_byte 1 0 _ _ e in absurd (omega (arith, no))
one_body format Gone (Far q) x y i j e = let no = first_byte 1 2 _ _ e in absurd (omega (arith, no))
one_body format (Far p) (Inline w) x y i j e = let no = first_byte 2 0 _ _ e in absurd (omega (arith, no))
one_body format (Far p) Gone x y i j e = let no = first_byte 2 1 _ _ e in absurd (omega (arith, no))

-- an entry's bytes come apart
pub entry-parts : (format : ℕ) (e : Entry) (x : List ℕ)
    → entry_bytes format e ++ x ≡ key_bytes e.key ++ (big_bytes 8 e.version ++ (body_bytes format e.body ++ x))
entry-parts format e x =
    let one : entry_bytes format e ++ x ≡ key_bytes e.key
    ++ ((big_bytes 8 e.version ++ body_bytes format e.body) ++ x) = append_assoc (key_bytes e.key)
    (big_bytes 8 e.version ++ body_bytes format e.body) x in
    let two : (big_bytes 8 e.version ++ body_bytes format e.body) ++ x ≡ big_bytes 8 e.version
    ++ (body_bytes format e.body ++ x) = append_assoc (big_bytes 8 e.version) (body_bytes format e.body) x in
    one ∙ ap (λ (l : List ℕ). key_bytes e.key ++ l) two

pub one_entry : (format : ℕ) (e f : Entry) (x y : List ℕ) → IsEntry format e → IsEntry format f
    → entry_bytes format e ++ x ≡ entry_bytes format f ++ y
    → (e ≡ f) × (x ≡ y)
one_entry format e f x y i j same =
    let both = sym (entry-parts format e x) ∙ same ∙ entry-parts format f y in
    let keys = one_key e.key f.key _ _ i.key j.key both in
    let versions = one_number 8 e.version f.version _ _ i.version j.version keys.1 in
    let bodies = one_body format e.body f.body x y i.body j.body versions.1 in
    ((λ k. record { key = keys.0 k; version = versions.0 k; body = bodies.0 k }), bodies.1)
