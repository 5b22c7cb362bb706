-- A file that was told stays told, whatever was done with it.
use Rattle.std.proofs.Common.{◌≡◌, ℕ, List, length, true, ap, sym, ◌∙◌, Option, Some, None}
use Rattle.std.specs.Option.{ForSome, is_some, option_map, unwrap_or}
use Rattle.vl_disk.specs.DiskState.{File, lengthened, settled, synced_file}
use Rattle.vl_disk.specs.Lending.{Settles, TakesAll, TakesPart}

mapped : (f : File → File) (old new : Option File) → new ≡ option_map f old → is_some old ≡ true → is_some new ≡ true
mapped f None new is told = absurd cc
mapped f (Some x) new is told = ap is_some is

pub tells_all : (piece : List ℕ) (old new : Option File) → TakesAll piece old new → is_some old ≡ true → is_some new ≡ true
tells_all piece old new takes told = mapped (lengthened piece (length piece)) old new takes told

pub tells_part : (piece : List ℕ) (old new : Option File) → TakesPart piece old new → is_some old ≡ true → is_some new ≡ true
tells_part piece old new takes told = mapped (lengthened piece takes.0) old new takes.2 told

pub tells_settled : (old new : Option File) → Settles old new → is_some old ≡ true → is_some new ≡ true
tells_settled old new settles told = mapped synced_file old new settles told

-- what was synced is durable, whatever it has
pub durable_settled : (old new : Option File) → Settles old new → ForSome new (λ f. f ≡ settled f.bytes)
durable_settled None new settles = λ f told. absurd (let no_such : None ≡ Some f = sym settles ∙ told in cc)
durable_settled (Some x) new settles = λ f told.
    let same : settled x.bytes ≡ f = ap (λ o. unwrap_or o f) (sym settles ∙ told) in
    sym same ∙ ap (λ (y : File). settled y.bytes) same
