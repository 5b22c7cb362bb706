-- Bodies that are written.
use Rattle.vl_model.specs.Formats.{table_format}
use Rattle.std.specs.Prelude.{◌≡◌, ◌+◌, ℕ, List, [], ◌∷◌, ◌++◌, length, take, drop}
use Rattle.std.proofs.Common.{sym, ap, ◌∙◌, append_assoc, length-append, arith}
use Rattle.byteorder.specs.Endian.{big_bytes}
use Rattle.vl_model.specs.declared.entry.Entry.{Entry}
use Rattle.vl_table.specs.body.Blocks.{block_body, entries}
use Rattle.vl_table.specs.body.Entries.{entry_bytes, key_bytes}
use Rattle.vl_table.specs.body.Footer.{Head, frame_place_bytes, head_bytes}
use Rattle.vl_table.specs.laws.ListLaws.{items_bytes-push}
use Rattle.vl_table.specs.body.Lists.{items_bytes}

pub body_added : (n : ℕ) (es : List Entry) (e : Entry) (old with_entry new : List ℕ) → n ≡ length es
    → old ≡ 0 ∷ 0 ∷ 0 ∷ 0 ∷ 0 ∷ block_body table_format es
    → with_entry ≡ old ++ entry_bytes table_format e → new ≡ take 5 with_entry ++ (big_bytes 4 (n + 1) ++ drop 9 with_entry)
    → new ≡ 0 ∷ 0 ∷ 0 ∷ 0 ∷ 0 ∷ block_body table_format (es ++ e ∷ [])
body_added n es e old with_entry new counted is added counts =
    let whole : with_entry ≡ 0 ∷ 0 ∷ 0 ∷ 0 ∷ 0
    ∷ (big_bytes 4 (length es) ++ (items_bytes (entries table_format) es ++ entry_bytes table_format e)) =
    added ∙ ap (λ (l : List ℕ). l ++ entry_bytes table_format e) is in
    let behind : drop 9 with_entry ≡ items_bytes (entries table_format) (es ++ e ∷ []) = ap (drop 9) whole
    ∙ sym (items_bytes-push (entries table_format) es e) in
    let count : n + 1 ≡ length (es ++ e ∷ []) = omega (arith, counted, length-append es (e ∷ [])) in
    counts ∙ ap (λ (l : List ℕ). take 5 l ++ (big_bytes 4 (n + 1) ++ drop 9 with_entry)) whole
    ∙ ap (λ (l : List ℕ). 0 ∷ 0 ∷ 0 ∷ 0 ∷ 0 ∷ (big_bytes 4 (n + 1) ++ l)) behind
    ∙ ap (λ (m : ℕ). 0 ∷ 0 ∷ 0 ∷ 0 ∷ 0 ∷ (big_bytes 4 m ++ items_bytes (entries table_format) (es ++ e ∷ []))) count

-- a head, part by part
pub four_behind : (h : Head) (old one two three : List ℕ) → one ≡ old ++ frame_place_bytes h.filter
    → two ≡ one ++ (big_bytes 8 h.index_place ++ big_bytes 4 h.index_length ++ big_bytes 8 h.count ++ big_bytes 8 h.greatest)
    → three ≡ two ++ key_bytes h.first → three ++ key_bytes h.last ≡ old ++ head_bytes h
four_behind h old one two three first second third =
    let a = frame_place_bytes h.filter in
    let b = big_bytes 8 h.index_place ++ big_bytes 4 h.index_length ++ big_bytes 8 h.count ++ big_bytes 8 h.greatest in
    let c = key_bytes h.first in
    let d = key_bytes h.last in
    ap (λ (l : List ℕ). l ++ d) third ∙ ap (λ (l : List ℕ). (l ++ c) ++ d) second ∙ ap (λ (l : List ℕ). ((l ++ b) ++ c) ++ d) first
    ∙ append_assoc ((old ++ a) ++ b) c d ∙ append_assoc (old ++ a) b (c ++ d) ∙ append_assoc old a (b ++ (c ++ d))

-- a count written over the old one leaves the length
pub body_length : (es : List Entry) (e : Entry) (old with_entry new : List ℕ) (n : ℕ) → old ≡ 0 ∷ 0 ∷ 0 ∷ 0 ∷ 0 ∷ block_body table_format es
    → with_entry ≡ old ++ entry_bytes table_format e → new ≡ take 5 with_entry ++ (big_bytes 4 n ++ drop 9 with_entry)
    → length new ≡ length with_entry
body_length es e old with_entry new n is added counts =
    ap length (counts ∙ ap (λ (l : List ℕ). take 5 l ++ (big_bytes 4 n ++ drop 9 l)) whole) ∙ sym (ap length whole)
  where
    whole : with_entry ≡ 0 ∷ 0 ∷ 0 ∷ 0 ∷ 0
        ∷ (big_bytes 4 (length es) ++ (items_bytes (entries table_format) es ++ entry_bytes table_format e))
    whole = added ∙ ap (λ (l : List ℕ). l ++ entry_bytes table_format e) is
