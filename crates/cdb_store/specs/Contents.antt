use Rattle.std.specs.Prelude.{ℕ, List}
use Rattle.cdb_store.specs.declared.memory.MemStore.{MemStore}

-- the bytes of a store in memory
abbrev pub contents : MemStore → List ℕ
contents m = m.bytes.items
