use Rattle.std.proofs.Common.{◌≡◌, ◌+◌, ◌-◌, ◌*◌, ◌++◌, ℕ, [], length, map, take, drop, arith, ap, subst, ◌∙◌}
use Rattle.std.proofs.lemmas.List.{map-append, length-take, length-drop}
use Rattle.read_leaf.specs.Numbers.{TookNumbers}
use Rattle.read_leaf.proofs.Grouped.{put-whole}
use Rattle.read_leaf.proofs.NumberSlots.{numbers-after, outside-then}
use Rattle.read_leaf.proofs.primitive.fill_numbers.Goals as goal

pub returns-in-Some : goal.returns-in-Some
returns-in-Some g c =
    let number = g.T.FromStored.loaded_number in
    let size : ℕ = g.P.PlainNumber.byte_count in
    let done : ℕ = c.fill_blocks-done.result in
    let bytes = c.args.bytes.now in
    let xs = c.fill_blocks-done.new.places in
    let ys = c.fill_singly.new.places in
    let n : ℕ = length c.args.places.now in
    let m : ℕ = length (take (length xs - done) (drop done xs)) in
    let all : done + m ≡ n = omega (arith, length-take (length xs - done) (drop done xs), length-drop done xs, c.fill_blocks-done.auto.places, c.fill_blocks-done.ensures.within) in
    let places = ap (map number) (put-whole done (length xs - done) xs ys (omega arith)) ∙ map-append number (take done xs) ys in
    let source : c.skip.result.now ≡ drop (size * done) bytes = c.skip.ensures ∙ ap (λ (k : ℕ). drop (k * done) bytes) c.width.ensures in
    rw places (subst (λ (k : ℕ). TookNumbers g.T.FromStored.loaded g.P.StoredNumber.spelled size k bytes c.in-Some.rest.now [] (map number (take done xs) ++ map number ys)) all (numbers-after g.T.FromStored.loaded g.P.StoredNumber.spelled size done m bytes (drop (size * done) bytes) c.in-Some.rest.now (map number (take done xs)) (map number ys) c.fill_blocks-done.ensures.took (rw source at c.in-Some.ensures)))

pub returns-in-None : goal.returns-in-None
returns-in-None g c =
    let size : ℕ = g.P.PlainNumber.byte_count in
    let done : ℕ = c.fill_blocks-done.result in
    let bytes = c.args.bytes.now in
    let xs = c.fill_blocks-done.new.places in
    let n : ℕ = length c.args.places.now in
    let m : ℕ = length (take (length xs - done) (drop done xs)) in
    let all : done + m ≡ n = omega (arith, length-take (length xs - done) (drop done xs), length-drop done xs, c.fill_blocks-done.auto.places, c.fill_blocks-done.ensures.within) in
    let source : c.skip.result.now ≡ drop (size * done) bytes = c.skip.ensures ∙ ap (λ (k : ℕ). drop (k * done) bytes) c.width.ensures in
    outside-then g.T.FromStored.loaded g.P.StoredNumber.spelled size done m n bytes (drop (size * done) bytes) _ _ (omega (arith, all)) c.fill_blocks-done.ensures.took (rw source at c.in-None.ensures)
