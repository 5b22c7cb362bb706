use Rattle.vlstore.proofs.store.beginning.store_from.Given as goal

abbrev pub ghost-store_at : goal.ghost-store_at
ghost-store_at g a = a.origin.now.me.0
