-- A record that is read from the left.
use Rattle.std.proofs.Common.{◌≡◌, ◌<◌, ◌^◌, ℕ, List, ◌++◌, true, length, ap, subst, sym, ◌∙◌}
use Rattle.vl_model.specs.Keys.{is_key_length, is_value_length, value_bytes, value_tag}
use Rattle.vl_model.specs.declared.change.Change.{Change}
use Rattle.vl_seglog.specs.laws.RecordLaws.{grouped, one_apart, spelled_apart}
use Rattle.vl_seglog.specs.Record.{IsApart, IsSpelled, IsTag, flag_of, head_bytes, record_bytes}

-- a head, a key and a value, one behind the other
pub is_apart : (format : ℕ) (bytes key value r1 r2 r3 : List ℕ) (flag tag k v : ℕ)
    → bytes ≡ head_bytes format flag tag k v ++ r1 → IsTag format tag → k < 2 ^ 16 → v < 2 ^ 32
    → r1 ≡ key ++ r2 → length key ≡ k → r2 ≡ value ++ r3 → length value ≡ v → IsApart format bytes flag tag key value
is_apart format bytes key value r1 r2 r3 flag tag k v e1 kept k_fits v_fits e2 key_length e3 value_length = record {
  tag_kept = kept;
  key_fits = rw key_length k_fits;
  value_fits = rw value_length v_fits;
  rest = r3;
  spelled = e1 ∙ ap (λ (r : List ℕ). head_bytes format flag tag k v ++ r) (e2 ∙ ap (λ (r : List ℕ). key ++ r) e3)
      ∙ ap (λ (n : ℕ). head_bytes format flag tag n v ++ (key ++ (value ++ r3))) (sym key_length)
      ∙ ap (λ (n : ℕ). head_bytes format flag tag (length key) n ++ (key ++ (value ++ r3))) (sym value_length)
      ∙ sym (grouped format flag tag key value r3);
}

-- what comes apart, has a change's flag, tag and value, and lawful lengths is that change's record
pub is_spelled : (format : ℕ) (bytes key value : List ℕ) (flag tag : ℕ) (change : Change)
    → IsApart format bytes flag tag key value → flag ≡ flag_of change → tag ≡ value_tag change → value ≡ value_bytes change
    → is_key_length (length key) ≡ true → is_value_length format (length value) ≡ true → IsSpelled format bytes key change
unfolding record_bytes
is_spelled format bytes key value flag tag change apart flag_is tag_is value_is key_lawful value_lawful = record {
  lawful = record {
    key_length = key_lawful;
    value_length = rw (← value_is) value_lawful;
    tag = subst (IsTag format)
        tag_is apart.tag_kept;
  };
  rest = apart.rest;
  parts = apart.spelled ∙ ap (λ (f : ℕ). (head_bytes format f tag (length key) (length value) ++ key ++ value) ++ apart.rest) flag_is
      ∙ ap (λ (t : ℕ). (head_bytes format (flag_of change) t (length key) (length value) ++ key ++ value) ++ apart.rest) tag_is
      ∙ ap (λ (v : List ℕ). (head_bytes format (flag_of change) (value_tag change) (length key) (length v) ++ key ++ v)
      ++ apart.rest) value_is;
}

-- where a record stands, what comes apart is its own
pub record Agrees (format : ℕ) (key value : List ℕ) (flag tag : ℕ) (change : Change) : Type 0 where
  pub flag_is : flag ≡ flag_of change
  pub tag_is : tag ≡ value_tag change
  pub value_is : value ≡ value_bytes change
  pub key_length : is_key_length (length key) ≡ true
  pub value_length : is_value_length format (length value) ≡ true

pub agrees : (format : ℕ) (bytes key value : List ℕ) (flag tag : ℕ) (other : List ℕ) (change : Change)
    → IsApart format bytes flag tag key value → IsSpelled format bytes other change → Agrees format key value flag tag change
agrees format bytes key value flag tag other change apart s =
    let same = one_apart format bytes flag (flag_of change) tag (value_tag change) key other value (value_bytes change)
    apart (spelled_apart format bytes other change s) in
    record {
      flag_is = same.flag_is;
      tag_is = same.tag_is;
      value_is = same.value_is;
      key_length = ap (λ (l : List ℕ). is_key_length (length l)) same.key_is ∙ s.lawful.key_length;
      value_length = ap (λ (l : List ℕ). is_value_length format (length l)) same.value_is ∙ s.lawful.value_length;
    }
