use Rattle.cdb_store.proofs.Words.{AfterWrite, List, ap, arith, common_steps, inl, length, length-append, length-take, subst, take, ℕ, ◌++◌, ◌≡◌}
use Rattle.cdb_store.proofs.FuseLemmas.{taken_bytes, part_torn, whole_torn}
use Rattle.cdb_store.proofs.fuse.FuseStoreStore.write_parts.Goals as goal

pub returns-in-Ok-clause-torn : goal.returns-in-Ok-clause-torn
returns-in-Ok-clause-torn g c =
    let a = c.first_bytes.result in
    whole_torn c.args.self.now.part c.min-part.result c.args.first.now c.args.second.now c.args.third.now (a.0.now ++ (a.1.now ++ a.2.now)) (omega (arith, c.min-part.ensures)) c.first_bytes.ensures c.write_parts.ensures.torn

pub returns-in-Ok-clause-part_torn : goal.returns-in-Ok-clause-part_torn
returns-in-Ok-clause-part_torn g c = λ last.
    let a = c.first_bytes.result in
    part_torn c.args.self.now.part c.min-part.result c.args.first.now c.args.second.now c.args.third.now (a.0.now ++ (a.1.now ++ a.2.now)) (omega (arith, c.min-part.ensures)) c.first_bytes.ensures c.write_parts.ensures.torn

pub returns-in_default-clause-torn : goal.returns-in_default-clause-torn
returns-in_default-clause-torn g c =
    let a = c.first_bytes.result in
    whole_torn c.args.self.now.part c.min-part.result c.args.first.now c.args.second.now c.args.third.now (a.0.now ++ (a.1.now ++ a.2.now)) (omega (arith, c.min-part.ensures)) c.first_bytes.ensures c.write_parts.ensures.torn

pub returns-in_default-clause-part_torn : goal.returns-in_default-clause-part_torn
returns-in_default-clause-part_torn g c = λ last.
    let a = c.first_bytes.result in
    part_torn c.args.self.now.part c.min-part.result c.args.first.now c.args.second.now c.args.third.now (a.0.now ++ (a.1.now ++ a.2.now)) (omega (arith, c.min-part.ensures)) c.first_bytes.ensures c.write_parts.ensures.torn

pub returns-in-Ok-clause-part : goal.returns-in-Ok-clause-part
returns-in-Ok-clause-part g c = λ last.
    let a = c.first_bytes.result in
    let whole : List ℕ = c.args.first.now ++ (c.args.second.now ++ c.args.third.now) in
    let pieces : List ℕ = a.0.now ++ (a.1.now ++ a.2.now) in
    let taken : pieces ≡ take c.args.self.now.part whole =
    taken_bytes c.args.self.now.part c.min-part.result c.args.first.now c.args.second.now c.args.third.now pieces (omega (arith, c.min-part.ensures)) c.first_bytes.ensures in
    inl (
      subst (λ b. AfterWrite c.args.pos b (g.S.Store.image c.args.self.now.inner) (g.S.Store.image c.write_parts.new.self)) taken c.in-Ok.ensures.ok,
      omega (arith, c.saturating_add-self.ensures, c.min-part.ensures, length-append c.args.first.now (c.args.second.now ++ c.args.third.now), length-append c.args.second.now c.args.third.now, length-take {A = ℕ}),
    )

pub returns-in_default-clause-part : goal.returns-in_default-clause-part
returns-in_default-clause-part g c = λ last.
    let a = c.first_bytes.result in
    let whole : List ℕ = c.args.first.now ++ (c.args.second.now ++ c.args.third.now) in
    let pieces : List ℕ = a.0.now ++ (a.1.now ++ a.2.now) in
    let taken : pieces ≡ take c.args.self.now.part whole =
    taken_bytes c.args.self.now.part c.min-part.result c.args.first.now c.args.second.now c.args.third.now pieces (omega (arith, c.min-part.ensures)) c.first_bytes.ensures in
    let sized : length pieces ≡ length (take c.args.self.now.part whole) = ap length taken in grind (arith, common_steps, sized)

pub returns-in-Ok-clause-part_size : goal.returns-in-Ok-clause-part_size
returns-in-Ok-clause-part_size g c = grind (arith, common_steps)

pub returns-in_default-clause-unwritten : goal.returns-in_default-clause-unwritten
returns-in_default-clause-unwritten g c = grind (arith, common_steps)

pub write_parts-requires-clause-end : goal.write_parts-requires-clause-end
write_parts-requires-clause-end g c = grind (arith, common_steps)

pub returns-in-Ok-clause-cause : goal.returns-in-Ok-clause-cause
returns-in-Ok-clause-cause g c = grind (arith, common_steps)

pub returns-clause-count_ok : goal.returns-clause-count_ok
returns-clause-count_ok g c = grind (arith, common_steps)

pub returns-in_default-clause-not_past : goal.returns-in_default-clause-not_past
returns-in_default-clause-not_past g c = grind (arith, common_steps)

pub returns-clause-past_room : goal.returns-clause-past_room
returns-clause-past_room g c = grind (arith, common_steps)

pub returns-in_default-clause-cause : goal.returns-in_default-clause-cause
returns-in_default-clause-cause g c = grind (arith, common_steps)

pub returns-in_default-clause-part_written : goal.returns-in_default-clause-part_written
returns-in_default-clause-part_written g c = grind (arith, common_steps)

pub overflow_add-n-2 : goal.overflow_add-n-2
overflow_add-n-2 g c = grind (arith, common_steps)

pub returns-in_default-clause-at_most_written : goal.returns-in_default-clause-at_most_written
returns-in_default-clause-at_most_written g c = grind (arith, common_steps)

pub returns-in-Ok-clause-not_past : goal.returns-in-Ok-clause-not_past
returns-in-Ok-clause-not_past g c = grind (arith, common_steps)

pub returns-in_default-clause-part_size : goal.returns-in_default-clause-part_size
returns-in_default-clause-part_size g c = grind (arith, common_steps)

pub returns-in-Ok-clause-part_written : goal.returns-in-Ok-clause-part_written
returns-in-Ok-clause-part_written g c = grind (arith, common_steps)

pub returns-in_default-clause-past_room : goal.returns-in_default-clause-past_room
returns-in_default-clause-past_room g c = grind (arith, common_steps)

pub returns-in-Ok-clause-at_most_written : goal.returns-in-Ok-clause-at_most_written
returns-in-Ok-clause-at_most_written g c = grind (arith, common_steps)

pub returns-clause-part : goal.returns-clause-part
returns-clause-part g c = grind (arith, common_steps)

pub returns-in-Ok-clause-past_room : goal.returns-in-Ok-clause-past_room
returns-in-Ok-clause-past_room g c = grind (arith, common_steps)

pub returns-clause-part_torn : goal.returns-clause-part_torn
returns-clause-part_torn g c = grind (arith, common_steps)

pub returns-in-Ok-clause-unwritten : goal.returns-in-Ok-clause-unwritten
returns-in-Ok-clause-unwritten g c = grind (arith, common_steps)
