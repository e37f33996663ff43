use Rattle.cdb_make.proofs.Words.{WordPair, ap, arith, length, places_in, sym, ℕ, ◌<◌, ◌∙◌}
use Rattle.cdb_make.proofs.Tables.{get_or-entries_of, length-entries_of}
use Rattle.cdb_make.proofs.finish.gathered.Gathered.entry.Goals as goal

pub index-requires : goal.index-requires
index-requires g c =
    let s = c.args.self.now in
    omega (arith, length-entries_of s.hashes.items (places_in s.places) s.paired, s.hashes.ok.0, c.requires)

pub at-place-requires : goal.at-place-requires
at-place-requires g c =
    let s = c.args.self.now in
    omega (arith, length-entries_of s.hashes.items (places_in s.places) s.paired, s.paired, c.requires)

pub returns-clause-entry : goal.returns-clause-entry
returns-clause-entry g c =
    let s = c.args.self.now in
    let h : ℕ = c.index.result.now in
    let p : ℕ = c.at-place.result in
    let lt : c.args.n < length s.hashes.items = omega (arith, length-entries_of s.hashes.items (places_in s.places) s.paired, c.requires) in
    ap (λ (q : ℕ). let r : WordPair = record { first = q; second = p } in r) c.from-hash.ensures
    ∙ sym (get_or-entries_of s.hashes.items (places_in s.places) c.args.n h p _ s.paired lt c.index.ensures c.at-place.ensures.at)
