use Rattle.cdb_read.proofs.Words.{List, Spreads, StatsFail, err_from_is_err_and, head_pairs, statistics_damage, subst, sym, table_sizes, walk_of, ℕ, ◌∙◌, ◌≡◌}
use Rattle.cdb_read.proofs.Counting.StatsLaws.{damage_outside, damage_walk, walk_fails, slots_fail, still_inside, stats_are}
use Rattle.cdb_read.proofs.statistics.count.stats.Goals as goal

pub returns-in-Some-clause-fails : goal.returns-in-Some-clause-fails
returns-in-Some-clause-fails g c = λ b is.
    let size = g.met.S.Store.image_size c.args.reader.now.store b is ∙ sym c.len.ensures in
    damage_outside g.L.Width.WORD _ b _ (c.args.reader.now.known b is) (sym c.in-Some.is ∙ c.first_outside-outside.ensures.first b size)

pub returns-in_err-lengths-clause-fails : goal.returns-in_err-lengths-clause-fails
returns-in_err-lengths-clause-fails g c =
    let p = err_from_is_err_and c.from_residual.result c.from_residual.ensures.1 in
    let w = g.L.Width.WORD in
    let same : (b : List ℕ) → g.S.Store.image c.walk_lengths.new.reader.store b → statistics_damage w b ≡ (walk_of w b).damage = λ b is.
    let was = c.walk_lengths.ensures.reads.images b is in
    let size = g.met.S.Store.image_size c.args.reader.now.store b was ∙ sym c.len.ensures in
    damage_walk w b _ (c.args.reader.now.known b was) (sym c.in_default.is ∙ c.first_outside-outside.ensures.first b size) in
    let fails : StatsFail w g.S.Store c.args.reader.now.store c.walk_lengths.new.reader.store c.in_err-lengths.field-0.0 =
    walk_fails g.S.Store w _ _ c.in_err-lengths.field-0.0 same c.in_err-lengths.ensures.fails in
    rw (p.1, p.2) fails

pub count_slots-requires : goal.count_slots-requires
count_slots-requires g c = record {
  inside = still_inside g.L.Width.WORD _ _ _ _ c.walk_lengths.ensures.head (c.walk_lengths.ensures.reads.size ∙ sym c.len.ensures) c.in_default.ensures.inside;
}

pub returns-in_err-distances-clause-fails : goal.returns-in_err-distances-clause-fails
returns-in_err-distances-clause-fails g c =
    let p = err_from_is_err_and c.from_residual-in_err-distances.result c.from_residual-in_err-distances.ensures.1 in
    let fails : StatsFail g.L.Width.WORD g.S.Store c.args.reader.now.store c.count_slots.new.self.store c.in_err-distances.field-0.0 =
    slots_fail {s = g.S.Store} g.L.Width.WORD _ _ _ c.in_err-distances.field-0.0 c.walk_lengths.ensures.reads c.in_err-distances.ensures.fails in
    rw (p.1, p.2) fails

pub returns-clause-counts : goal.returns-clause-counts
returns-clause-counts g c = λ b is.
    let mid = c.count_slots.ensures.reads.images b is in
    let was = c.walk_lengths.ensures.reads.images b mid in
    let size = g.met.S.Store.image_size c.args.reader.now.store b was ∙ sym c.len.ensures in
    stats_are g.L.Width.WORD b _ _ _ _ _ (c.args.reader.now.known b was) (sym c.in_default.is ∙ c.first_outside-outside.ensures.first b size) (c.in_ok-lengths.ensures.lengths b mid)
    (subst (λ h. Spreads c.sizes_of-sizes.result (table_sizes (head_pairs h))) c.walk_lengths.ensures.head c.sizes_of-sizes.ensures)
    (c.in_ok-distances.ensures.counts b is)
    c.from_counts.ensures
