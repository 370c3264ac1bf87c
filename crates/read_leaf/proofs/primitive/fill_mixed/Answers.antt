use Rattle.std.proofs.Common.{◌≡◌, ◌-◌, ℕ, length, map, take, drop, arith, ap, ◌∙◌}
use Rattle.std.proofs.lemmas.List.{map-append, length-take, length-drop}
use Rattle.columns_core.specs.Bits.{word_bits}
use Rattle.read_walk.specs.Values.{ones}
use Rattle.read_leaf.proofs.Grouped.{mixed-then, put-whole, bits-parts, ones-parts}
use Rattle.read_leaf.proofs.NumberSlots.{outside-then, block-left}
use Rattle.read_leaf.proofs.primitive.fill_mixed.Goals as goal

pub fill_each-requires : goal.fill_each-requires
fill_each-requires g c =
    let size : ℕ = g.P.PlainNumber.byte_count in
    let done : ℕ = c.fill_fronts-done.result.0 in
    let word : ℕ = c.fill_fronts-done.result.1 in
    let xs = c.fill_fronts-done.new.places in
    let n : ℕ = length c.args.places.now in
    let m : ℕ = length (take (length xs - done) (drop done xs)) in
    let took = c.fill_fronts-done.ensures.took in
    let size-m : m ≡ n - done = length-take (length xs - done) (drop done xs) ∙ omega (arith, length-drop done xs, c.fill_fronts-done.auto.places) in
    let parts = ones-parts c.args.valid done n word m (omega (arith, c.fill_fronts-done.ensures.within, c.fill_fronts-done.auto.places)) c.fill_fronts-done.ensures.word size-m in
    record { enough = block-left g.T.FromStored.loaded g.P.StoredNumber.spelled size (ones (word_bits c.args.valid done)) (ones (word_bits word m)) (ones (word_bits c.args.valid n)) c.args.bytes.now c.fill_fronts-done.result.2.now (omega (arith, parts)) c.requires.enough took.took.behind }

pub returns-in-Some : goal.returns-in-Some
returns-in-Some g c =
    let number = g.T.FromStored.loaded_number in
    let done : ℕ = c.fill_fronts-done.result.0 in
    let word : ℕ = c.fill_fronts-done.result.1 in
    let xs = c.fill_fronts-done.new.places in
    let ys = c.fill_each.new.places in
    let n : ℕ = length c.args.places.now in
    let m : ℕ = length (take (length xs - done) (drop done xs)) in
    let size-m : m ≡ n - done = length-take (length xs - done) (drop done xs) ∙ omega (arith, length-drop done xs, c.fill_fronts-done.auto.places) in
    let bits = bits-parts c.args.valid done n word m (omega (arith, c.fill_fronts-done.ensures.within, c.fill_fronts-done.auto.places)) c.fill_fronts-done.ensures.word size-m in
    let places = ap (map number) (put-whole done (length xs - done) xs ys (omega arith)) ∙ map-append number (take done xs) ys in
    rw (bits, places) (mixed-then g.T.FromStored.loaded g.P.StoredNumber.spelled g.P.PlainNumber.byte_count (word_bits c.args.valid done) (word_bits word m) c.args.bytes.now c.fill_fronts-done.result.2.now c.in-Some.behind.now (map number (take done xs)) (map number ys) c.fill_fronts-done.ensures.took c.in-Some.ensures)

pub returns-in-None : goal.returns-in-None
returns-in-None g c =
    let done : ℕ = c.fill_fronts-done.result.0 in
    let word : ℕ = c.fill_fronts-done.result.1 in
    let xs = c.fill_fronts-done.new.places in
    let n : ℕ = length c.args.places.now in
    let m : ℕ = length (take (length xs - done) (drop done xs)) in
    let size-m : m ≡ n - done = length-take (length xs - done) (drop done xs) ∙ omega (arith, length-drop done xs, c.fill_fronts-done.auto.places) in
    let parts = ones-parts c.args.valid done n word m (omega (arith, c.fill_fronts-done.ensures.within, c.fill_fronts-done.auto.places)) c.fill_fronts-done.ensures.word size-m in
    outside-then g.T.FromStored.loaded g.P.StoredNumber.spelled g.P.PlainNumber.byte_count (ones (word_bits c.args.valid done)) (ones (word_bits word m)) (ones (word_bits c.args.valid n)) c.args.bytes.now c.fill_fronts-done.result.2.now _ _ (omega (arith, parts)) c.fill_fronts-done.ensures.took.took c.in-None.ensures
