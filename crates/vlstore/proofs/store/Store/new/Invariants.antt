use Rattle.vlstore.proofs.store.Store.new.Given as goal

abbrev pub ghosts-opened : goal.ghosts-opened
ghosts-opened g a = record { origin = g.origin }
