use Rattle.cdb_read.proofs.Words.{Bool, List, [], ap, entries_of, false, ℕ, ◌++◌, ◌∙◌, ◌∷◌, ◌≡◌}
use Rattle.cdb_read.proofs.Checks.Entered.{entries_of-push}
use Rattle.cdb_read.proofs.checking.table_records.TableRecords.push.Goals as goal

pub returns : goal.returns
returns c =
    let s = c.args.self.now in
    let places : c.push_reserved.new.self.items ≡ s.places.items ++ c.args.place ∷ [] =
    c.push_reserved.ensures.items ∙ ap (λ (v : List ℕ). v ++ c.args.place ∷ []) c.reserve.ensures.items in
    let hashes : c.push_reserved-2.new.self.items ≡ s.hashes.items ++ c.args.hash ∷ [] =
    c.push_reserved-2.ensures.items ∙ ap (λ (v : List ℕ). v ++ c.args.hash ∷ []) c.reserve-2.ensures.items in
    record {
      entries =
          ap (λ (v : List ℕ). entries_of v c.push_reserved-2.new.self.items) places
          ∙ ap (entries_of (s.places.items ++ c.args.place ∷ [])) hashes
          ∙ entries_of-push s.places.items s.hashes.items c.args.place c.args.hash s.paired;
      marks = c.push_reserved-3.ensures.items ∙ ap (λ (v : List Bool). v ++ false ∷ []) c.reserve-3.ensures.items;
    }
