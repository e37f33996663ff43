use Rattle.cdb_make.proofs.Words.{List, [], ap, arith, entries_of, length, length-append, places_in, ℕ, ◌++◌, ◌+◌, ◌∙◌, ◌∷◌, ◌≡◌}
use Rattle.cdb_make.proofs.Tables.{entries_push, length-entries_of}
use Rattle.cdb_make.proofs.finish.gathered.Gathered.push.Goals as goal

pub push_reserved-requires : goal.push_reserved-requires
push_reserved-requires g c =
    let s = c.args.self.now in
    omega (arith, length-entries_of s.hashes.items (places_in s.places) s.paired, s.hashes.ok.0, c.requires.room)

pub push-requires-clause-room : goal.push-requires-clause-room
push-requires-clause-room g c =
    let s = c.args.self.now in
    omega (arith, length-entries_of s.hashes.items (places_in s.places) s.paired, s.paired, c.requires.room)

pub returns-clause-more : goal.returns-clause-more
returns-clause-more g c =
    let s = c.args.self.now in
    ap (λ (v : List ℕ). entries_of v (places_in c.push.new.self)) c.push_reserved.ensures.items
    ∙ ap (entries_of (s.hashes.items ++ c.args.hash ∷ [])) c.push.ensures.places
    ∙ entries_push s.hashes.items (places_in s.places) c.args.hash c.args.place s.paired

pub invariant_of-self : goal.invariant_of-self
invariant_of-self g c =
    let s = c.args.self.now in
    let long = length-entries_of s.hashes.items (places_in s.places) s.paired in
    let more : length c.push_reserved.new.self.items ≡ length s.hashes.items + 1 = ap length c.push_reserved.ensures.items ∙ length-append s.hashes.items (c.args.hash ∷ []) in
    let places : length (places_in c.push.new.self) ≡ length (places_in s.places) + 1 = ap length c.push.ensures.places ∙ length-append (places_in s.places) (c.args.place ∷ []) in
    record {
      paired = omega (arith, more, places, s.paired);
      hash_room = omega (arith, more, c.push_reserved.ensures.capacity, c.requires.room, long);
      place_room = omega (arith, places, c.push.ensures.room, c.requires.room, long, s.paired);
    }
