use Rattle.cdb_make.proofs.Words.{WordPair, [], all_gathered, ap, gathered_in, gathered_room, get_or, get_or-map, map-set, map-set_same, slice_set, sym, ℕ, ◌++◌, ◌∙◌, ◌∷◌, ◌≡◌}
use Rattle.cdb_make.proofs.finish.gather.push.Goals as goal

pub returns-clause-more : goal.returns-clause-more
returns-clause-more g c =
    let ls = c.args.gathered.now in
    let n : ℕ = c.args.n in
    let x = c.index-gathered-n.result in
    let here : get_or (all_gathered ls) n [] ≡ gathered_in (get_or ls n x) = get_or-map gathered_in ls n x [] c.requires.within in
    map-set gathered_in ls n c.push.new.self
    ∙ ap (slice_set (all_gathered ls) n) (c.push.ensures.more ∙ ap (λ v. v ++ (let e : WordPair = record { first = c.args.hash; second = c.args.place } in e) ∷ []) (sym here))

pub returns-clause-rooms : goal.returns-clause-rooms
returns-clause-rooms g c = map-set_same gathered_room c.args.gathered.now c.args.n c.push.new.self c.index-gathered-n.result c.push.ensures.room
