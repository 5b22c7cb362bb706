use Rattle.vlstore.proofs.store.beginning.store_at.Given as goal

abbrev pub ghosts-opened : goal.ghosts-opened
ghosts-opened g a = record { origin = g.at }
