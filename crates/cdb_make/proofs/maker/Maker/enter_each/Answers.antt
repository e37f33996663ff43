use Rattle.cdb_make.proofs.Words.{AreBytes, AreBytes-drop, Bool, KeyValue, List, [], ap, arith, cond, drop, key_hash, length, prefix_record, prefix_size, record_bytes, record_size, refl, subst, sym, take, true, whole_size, ℕ, ◌++◌, ◌+◌, ◌-◌, ◌<◌, ◌∙◌, ◌∷◌, ◌≡◌, ◌≤◌}
use Rattle.std.specs.Prelude.{sum_by}
use Rattle.cdb_store.specs.Images.{ImagesHold as Stored}
use Rattle.cdb_form.proofs.Bytes.HeadLemmas.{rest_of}
use Rattle.cdb_make.specs.Chains.{second_hash}
use Rattle.cdb_make.specs.Views.Appending.{Enters, first_size, records_at}
use Rattle.cdb_make.proofs.Appends.{entered_size, enters_more, stops_entering}
use Rattle.cdb_make.proofs.Bytes.Fitting.{first_more, prefix_is_record, prefix_sized, next_fits, next_of, next_splits, next_stored, next_sums, next_within, sum_take}
use Rattle.cdb_make.proofs.Bytes.Written.{on_any_err}
use Rattle.cdb_make.proofs.maker.Maker.enter_each.Goals as goal

pub first_record-first-requires : goal.first_record-first-requires
first_record-first-requires g c =
    let w : ℕ = g.L.Width.WORD in
    let bytes : List ℕ = c.args.bytes.now in
    let i = c.loop.invariant in
    let more : c.loop.counter < length (records_at w bytes) = omega (arith, c.requires.first.few, c.loop-test.true) in
    subst (λ (v : List ℕ). prefix_size w v ≤ length v) (sym (rest_of c.loop.place (length bytes) bytes refl)) (next_fits w bytes c.loop.counter c.loop.place i.first more)

pub enter-requires-clause-inside : goal.enter-requires-clause-inside
enter-requires-clause-inside g c =
    let w : ℕ = g.L.Width.WORD in
    let bytes : List ℕ = c.args.bytes.now in
    let k : ℕ = c.loop.counter in
    let place : ℕ = c.loop.place in
    let i = c.loop.invariant in
    let some : 0 < g.L.Width.WORD = omega (arith, g.met.L.Width.four_or_eight) in
    let more : c.loop.counter < length (records_at w bytes) = omega (arith, c.requires.first.few, c.loop-test.true) in
    let is : length c.first_record-first.result.bytes.now ≡ prefix_size w (drop place bytes) = c.first_record-first.ensures.size ∙ ap (prefix_size w) (rest_of place (length bytes) bytes refl) in
    let within = next_within w bytes k place c.args.count (first_size w bytes c.args.count) some (λ k. omega (arith, c.type_inv.bytes k)) i.first c.requires.first c.loop-test.true in
    omega (arith, i.entered.end, i.first.sum, c.requires.inside, ap g.S.Store.size i.store)

pub enter-requires-clause-within : goal.enter-requires-clause-within
enter-requires-clause-within g c =
    let w : ℕ = g.L.Width.WORD in
    let bytes : List ℕ = c.args.bytes.now in
    let k : ℕ = c.loop.counter in
    let place : ℕ = c.loop.place in
    let all : List KeyValue = records_at w bytes in
    let i = c.loop.invariant in
    let some : 0 < g.L.Width.WORD = omega (arith, g.met.L.Width.four_or_eight) in
    let more : c.loop.counter < length (records_at w bytes) = omega (arith, c.requires.first.few, c.loop-test.true) in
    let is : length c.first_record-first.result.bytes.now ≡ prefix_size w (drop place bytes) = c.first_record-first.ensures.size ∙ ap (prefix_size w) (rest_of place (length bytes) bytes refl) in
    let sums = next_sums w bytes k place some i.first (next_fits w bytes k place i.first more) in
    let le = sum_take (whole_size w) all (k + 1) c.args.count (omega (arith, c.loop-test.true)) in
    omega (arith, entered_size c.args.self.now c.loop.self (take k all) i.entered, c.requires.room, i.entered.limit)

pub returns-in_err-enter-clause-some : goal.returns-in_err-enter-clause-some
returns-in_err-enter-clause-some g c =
    let w : ℕ = g.L.Width.WORD in
    let bytes : List ℕ = c.args.bytes.now in
    let k : ℕ = c.loop.counter in
    let place : ℕ = c.loop.place in
    let all : List KeyValue = records_at w bytes in
    let r : KeyValue = prefix_record w (drop place bytes) in
    let i = c.loop.invariant in
    let e = c.in_err-enter.ensures in
    let some : 0 < g.L.Width.WORD = omega (arith, g.met.L.Width.four_or_eight) in
    let more : c.loop.counter < length (records_at w bytes) = omega (arith, c.requires.first.few, c.loop-test.true) in
    let cut = next_splits w bytes k place some i.first (next_fits w bytes k place i.first more) in
    let le = sum_take (whole_size w) all (k + 1) c.args.count (omega (arith, c.loop-test.true)) in
    let same : sum_by (whole_size w) (take (k + 1) all) ≡ sum_by (whole_size w) (take k all ++ r ∷ []) = ap (sum_by (whole_size w)) cut.1 in
    on_any_err c.from_residual.result
    (stops_entering c.args.self.now c.loop.self c.enter.new.self (take c.args.count all) (take k all) (take (c.args.count - (k + 1)) (drop (k + 1) all)) r
    (next_of all k c.args.count r c.loop-test.true cut) g.met.L.Width.four_or_eight c.requires.whole i.entered e.stays (c.enter.ensures.store ∙ i.store) (omega (arith, c.requires.room)))

pub loop-preserved : goal.loop-preserved
loop-preserved g c =
    let w : ℕ = g.L.Width.WORD in
    let m = c.args.self.now in
    let bytes : List ℕ = c.args.bytes.now in
    let are : AreBytes bytes = λ k. omega (arith, c.type_inv.bytes k) in
    let k : ℕ = c.loop.counter in
    let place : ℕ = c.loop.place in
    let all : List KeyValue = records_at w bytes in
    let r : KeyValue = prefix_record w (drop place bytes) in
    let i = c.loop.invariant in
    let e = c.in_ok-enter.ensures in
    let some : 0 < g.L.Width.WORD = omega (arith, g.met.L.Width.four_or_eight) in
    let more : c.loop.counter < length (records_at w bytes) = omega (arith, c.requires.first.few, c.loop-test.true) in
    let fits : prefix_size w (drop place bytes) ≤ length (drop place bytes) = next_fits w bytes k place i.first more in
    let is : length c.first_record-first.result.bytes.now ≡ prefix_size w (drop place bytes) = c.first_record-first.ensures.size ∙ ap (prefix_size w) (rest_of place (length bytes) bytes refl) in
    let sized : length c.first_record-first.result.bytes.now ≡ record_size w r = is ∙ sym (prefix_sized w (drop place bytes) fits) in
    let cut = next_splits w bytes k place some i.first fits in
    let hashed : c.hash-hash.result ≡ key_hash r.key = c.hash-hash.ensures ∙ ap key_hash (c.first_record-first.ensures.key ∙ ap (λ (v : List ℕ). (prefix_record w v).key) (rest_of place (length bytes) bytes refl)) in
    let key : c.first_record-first.result.key.now ≡ r.key = c.first_record-first.ensures.key ∙ ap (λ (v : List ℕ). (prefix_record w v).key) (rest_of place (length bytes) bytes refl) in
    let numbered : c.loop.self.roll.tagged ≡ true → c.number_of-number.result ≡ second_hash r.key = λ yes.
    c.number_of-number.ensures ∙ ap (λ (v : Bool). cond v (second_hash c.first_record-first.result.key.now) c.hash-hash.result) (c.requires.tagged ∙ sym i.tagged ∙ yes) ∙ ap second_hash key in
    let here : c.loop.self.roll.end ≡ m.roll.end + place = i.entered.end ∙ ap (λ (n : ℕ). m.roll.end + n) (sym i.first.sum) in
    let was = next_stored w m.roll.end bytes k place c.args.count (first_size w bytes c.args.count) some are i.first c.requires.first c.loop-test.true c.requires.written in
    let stored : Stored c.loop.self.roll.end (record_bytes w r) (g.S.Store.image c.loop.self.store) =
    subst (λ (v : _). Stored c.loop.self.roll.end (record_bytes w r) (g.S.Store.image v)) (sym i.store) (subst (λ (n : ℕ). Stored n (record_bytes w r) (g.S.Store.image m.store)) (sym here) was) in
    record {
      first = first_more w bytes k place (length c.first_record-first.result.bytes.now) some are i.first is (omega arith);
      entered = subst (λ (v : List KeyValue). Enters m c.enter.new.self v) (sym cut.1)
          (enters_more m c.loop.self c.enter.new.self (take k all) r i.entered (e.enters r (prefix_is_record w (drop place bytes) (AreBytes-drop place bytes are)) hashed numbered sized stored));
      store = c.enter.ensures.store ∙ i.store;
      lazy = c.enter.ensures.lazy ∙ i.lazy;
      tagged = c.enter.ensures.tagged ∙ i.tagged;
    }

pub returns-clause-ok : goal.returns-clause-ok
returns-clause-ok g c =
    let all : List KeyValue = records_at g.L.Width.WORD c.args.bytes.now in
    let end : c.loop.counter ≡ c.args.count = omega (arith, c.loop-test.false) in
    subst (λ (n : ℕ). Enters c.args.self.now c.loop.self (take n all)) end c.loop.invariant.entered
