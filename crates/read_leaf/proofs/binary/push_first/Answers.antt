use Rattle.std.proofs.Common.{◌≡◌, ◌+◌, ◌-◌, ◌++◌, ◌∙◌, List, ℕ, length, take, ap, ap₂, arith, length-append}
use Rattle.std.proofs.Math.Seq.{take-append-add, take-take}
use Rattle.std.proofs.lemmas.List.{length-take-le}
use Rattle.read_leaf.proofs.binary.push_first.Goals as goal

pub overflow_sub-len : goal.overflow_sub-len
overflow_sub-len c = omega (arith, c.len.ensures, c.in_ok-extend_from_slice.ensures.len, ap length c.front.ensures, length-take-le 32 c.args.bytes.now (omega (arith, c.if-bytes-ge-SHORT.true)))

pub returns-then-bytes-ge-SHORT-clause-ok : goal.returns-then-bytes-ge-SHORT-clause-ok
returns-then-bytes-ge-SHORT-clause-ok c =
    let xs : List ℕ = c.args.values.now.items in
    let bs : List ℕ = c.args.bytes.now in
    let items : c.extend_from_slice.new.self.items ≡ xs ++ take 32 bs = c.in_ok-extend_from_slice.ensures.items ∙ ap (λ (l : List ℕ). xs ++ l) c.front.ensures in
    let some = length-take-le 32 bs (omega (arith, c.if-bytes-ge-SHORT.true)) in
    let size : c.len.result - (32 - c.args.count) ≡ length xs + c.args.count =
    omega (arith, c.len.ensures, c.extend_from_slice.new.self.ok.0, ap length items, length-append xs (take 32 bs), some, c.if-count-le-SHORT.true) in
    c.truncate.ensures.items
    ∙ (ap₂ (λ (n : ℕ) (l : List ℕ). take n l) size items ∙ (take-append-add xs (take 32 bs) c.args.count ∙ ap (λ (l : List ℕ). xs ++ l) (take-take c.args.count 32 bs (omega (arith, c.if-count-le-SHORT.true)))))
