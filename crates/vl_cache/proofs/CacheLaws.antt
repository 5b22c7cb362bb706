-- What is kept stays true of its files, whichever read is used or kept.
use Rattle.std.specs.Prelude.{◌≡◌, ◌==◌, ◌&&◌, ◌⊎◌, ◌≤◌, ℕ, Bool, true, false, List, length, Contains, refl}
use Rattle.std.specs.Prelude.{Option, None, Some, Result, Ok, Err, OnOk, OnErr}
use Rattle.std.specs.Map.{lookup}
use Rattle.std.specs.Ordering.{is_eq}
use Rattle.std.specs.declared.cmp.Ordering.{Ordering}
use Rattle.std.specs.declared.cmp.Ordering.TheVariants.{Less, Equal, Greater}
use Rattle.std.proofs.Common.{sym, ap, subst, ◌∙◌, inl, inr, arith}
use Rattle.std.proofs.lemmas.Bool.Decides.{nat_tests}
use Rattle.lru.specs.LruCache.{LruCache, lru_cache, promoted, put_entries}
use Rattle.lru.proofs.CallerLemmas.{Contains-lookup, Contains-promoted, Contains-put_entries}
use Rattle.vl_disk.specs.DiskState.{bytes_at}
use Rattle.vl_disk.specs.Held.{AgreeAt}
use Rattle.vl_disk.specs.Name.{name_cmp, name_cmp_exact, name_ties}
use Rattle.vl_cache.specs.declared.block.Block.{Block}
use Rattle.vl_cache.specs.declared.kept.Kept.{Kept}
use Rattle.vl_cache.specs.Cache.{AreOf, IsOf, block_eq}
use Rattle.vl_cache.specs.Reads.{MayKeep}

tied : (o : Ordering) → is_eq o ≡ true → o ≡ Equal
tied Less is = absurd cc
tied Equal is = refl
tied Greater is = absurd cc

same_number : (m n : ℕ) → (m == n) ≡ true → m ≡ n
same_number m n is = grind (arith, nat_tests)

and_parts : (s t : Bool) → (s && t) ≡ true → (s ≡ true) × (t ≡ true)
and_parts true true is = (refl, refl)
and_parts true false is = absurd cc
and_parts false t is = absurd cc

-- blocks are equal only where they are the same
pub block_exact : (a b : Block) → block_eq a b ≡ true → a ≡ b
block_exact a b is =
    let one = and_parts _ _ is in
    let two = and_parts (a.place == b.place) (a.len == b.len) one.1 in
    let name = name_cmp_exact a.name b.name (tied (name_cmp a.name b.name) (sym (name_ties a.name b.name) ∙ one.0)) in
    let place = same_number a.place b.place two.0 in
    let len = same_number a.len b.len two.1 in
    λ k. record { name = name k; place = place k; len = len k }

module _ {H : Type 0} (bytes_of : H → Option (List ℕ)) where
  -- what is found under a block is of that block
  pub found-is-of : (entries : List (Block × Kept H)) (block : Block) (kept : Kept H) → AreOf bytes_of entries
      → lookup (block_eq block) entries ≡ Some kept → IsOf bytes_of block kept
  found-is-of entries block kept all found =
      let at = Contains-lookup (block_eq block) entries kept found in
      subst (λ b. IsOf bytes_of b kept) (sym (block_exact block at.0 at.2)) (all at.0 kept at.1)

  pub promoted-are-of : (test : Block → Bool) (entries : List (Block × Kept H)) → AreOf bytes_of entries
      → AreOf bytes_of (promoted test entries)
  promoted-are-of test entries all block kept among =
      all block kept (Contains-promoted test entries (block, kept) among)

  under : (block b : Block) (old : LruCache Block (Kept H)) (kept : Kept H) → IsOf bytes_of block kept
      → (b ≡ block) ⊎ ((w : Kept H) × Contains old.entries (b, w) × (block_eq block b ≡ true)) → IsOf bytes_of b kept
  under block b old kept is (inl same) = subst (λ c. IsOf bytes_of c kept) (sym same) is
  under block b old kept is (inr there) = subst (λ c. IsOf bytes_of c kept) (block_exact block b there.2) is

  pub put-are-of : (old : LruCache Block (Kept H)) (block : Block) (kept : Kept H) → AreOf bytes_of old.entries
      → IsOf bytes_of block kept → AreOf bytes_of (put_entries block_eq old block kept)
  put-are-of old block kept all is b k among = elim (Contains-put_entries block_eq old block kept (b, k) among) [
    | inl was ↦ all b k was
    | inr put ↦ subst (IsOf bytes_of b) (sym put.0) (under block b old kept is put.1)
  ]

module _ {H : Type 0} (bytes_of : H → Option (List ℕ)) where
  -- what was read, with the file's clone, is what the file has there
  pub kept-is-of : (held : H) (block : Block) (bytes : List ℕ) (kept : Kept H) → block.len ≡ length bytes
      → ((all : List ℕ) → bytes_of held ≡ Some all → bytes ≡ bytes_at block.place block.len all)
      → bytes_of kept.held ≡ bytes_of held → kept.bytes.items ≡ bytes → IsOf bytes_of block kept
  kept-is-of held block bytes kept size told shared copied = record {
    size = ap length copied ∙ sym size;
    told = λ all tells. copied ∙ told all (sym shared ∙ tells);
  }

-- a hit gives the bytes of the file, where all files of its type tell theirs or none does
pub hit_bytes : {H : Type 0} (bytes_of : H → Option (List ℕ)) (block : Block) (held : H) (kept : Kept H)
    → ((one other : H) → bytes_of one ≡ None → bytes_of other ≡ None) → IsOf bytes_of block kept
    → AgreeAt block.place block.len (bytes_of held) (bytes_of kept.held)
    → (bytes : List ℕ) → bytes_of held ≡ Some bytes → kept.bytes.items ≡ bytes_at block.place block.len bytes
hit_bytes bytes_of block held kept alike is same bytes tells = by (bytes_of kept.held) refl
  where
    by : (other : Option (List ℕ)) → bytes_of kept.held ≡ other → kept.bytes.items ≡ bytes_at block.place block.len bytes
    by None none = absurd (no_some (sym tells ∙ alike kept.held held none))
      where
        no_some : Some bytes ≡ None → ⊥
        no_some e = cc
    by (Some theirs) told = is.told theirs told ∙ sym (same bytes tells theirs told)

module _ {H T E : Type 0} (block : Block) (kept : Kept H) (old new : LruCache Block (Kept H)) where
  -- all that is kept behind a put that may be refused is of its files
  pub after_put : (bytes_of : H → Option (List ℕ)) (result : Result T E)
      → OnOk result (new ≡ lru_cache (put_entries block_eq old block kept) old.cap) → OnErr result (new ≡ old)
      → AreOf bytes_of old.entries → IsOf bytes_of block kept → AreOf bytes_of new.entries
  after_put bytes_of (Ok done) put same all is =
      subst (λ (c : LruCache Block (Kept H)). AreOf bytes_of c.entries) (sym put) (put-are-of bytes_of old block kept all is)
  after_put bytes_of (Err e) put same all is = subst (λ (c : LruCache Block (Kept H)). AreOf bytes_of c.entries) (sym same) all

  pub may_be_put : (is_clone : H → H → Type 0) (held : H) (bytes : List ℕ) (result : Result T E)
      → OnOk result (new ≡ lru_cache (put_entries block_eq old block kept) old.cap) → OnErr result (new ≡ old)
      → block.len ≤ 8192 → is_clone held kept.held → kept.bytes.items ≡ bytes → MayKeep is_clone held block bytes old new
  may_be_put is_clone held bytes (Ok done) put same short cloned copied =
      inr (record { short = short; kept = kept; cloned = cloned; copied = copied; put = put })
  may_be_put is_clone held bytes (Err e) put same short cloned copied = inl same
