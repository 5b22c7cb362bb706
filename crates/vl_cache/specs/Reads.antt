-- What a read of a cache does.
use Rattle.std.specs.Prelude.{◌≡◌, ◌⊎◌, ℕ, ◌≤◌, List, Result, Ok, Err}
use Rattle.lru.specs.LruCache.{LruCache, lru_cache, promoted, put_entries}
use Rattle.vl_disk.specs.declared.errors.Failed.{Failed}
use Rattle.vl_disk.specs.declared.name.Name.{Name}
use Rattle.vl_cache.specs.Cache.{block_eq}
use Rattle.vl_cache.specs.declared.block.Block.{Block}
use Rattle.vl_cache.specs.declared.kept.Kept.{Kept}

module _ {H : Type 0} where
  -- so many bytes of the file from a place on
  abbrev pub block_of : (named : H → Name) (held : H) (place len : ℕ) → Block
  block_of named held place len = record { name = named held; place = place; len = len }

  -- the bytes of the read are kept behind a clone of its file, in front of all others; where all places are taken the last goes
  pub record Keeps (is_clone : H → H → Type 0) (held : H) (block : Block) (bytes : List ℕ) (old new : LruCache Block (Kept H))
      : Type 0 where
    pub short : block.len ≤ 8192
    pub kept : Kept H
    pub cloned : is_clone held kept.held
    pub copied : kept.bytes.items ≡ bytes
    pub put : new ≡ lru_cache (put_entries block_eq old block kept) old.cap

  -- where memory was found, and it isn't too long; else all that is kept stays
  abbrev pub MayKeep : (H → H → Type 0) → H → Block → List ℕ → (old new : LruCache Block (Kept H)) → Type 0
  MayKeep is_clone held block bytes old new = (new ≡ old) ⊎ Keeps is_clone held block bytes old new

  -- A hit gives what is kept, which is then the read that was used last. The reader below is as it was.
  pub record GivesKept {R : Type 0} (block : Block) (kept : Kept H) (old new : R × LruCache Block (Kept H)) (out : List ℕ)
      (result : Result (Unit {0}) Failed) : Type 0 where
    pub answer : result ≡ Ok tt
    pub bytes : out ≡ kept.bytes.items
    pub used : new.1 ≡ lru_cache (promoted (block_eq block) old.1.entries) old.1.cap
    pub unasked : new.0 ≡ old.0

  -- what is kept behind a read of the reader below: a failed one changes nothing
  abbrev pub Misses : (H → H → Type 0) → H → Block → List ℕ → (old new : LruCache Block (Kept H))
      → Result (Unit {0}) Failed → Type 0
  Misses is_clone held block out old new (Ok done) = MayKeep is_clone held block out old new
  Misses is_clone held block out old new (Err e) = new ≡ old
