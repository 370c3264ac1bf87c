use Rattle.std.proofs.Common.{◌≡◌, ◌+◌, ◌*◌, ◌/◌, ◌%◌, ◌^◌, ◌++◌, ◌∙◌, ◌≤◌, List, ℕ, length, take, ap₂, arith, length-take}
use Rattle.std.specs.Int.{bytes_low_first}
use Rattle.std.proofs.Math.Seq.{take-append-add}
use Rattle.columns_core.proofs.Words.{word_put}
use Rattle.columns_core.proofs.mutable_bitmap.put_wide.Goals as goal

pub returns-clause-bits : goal.returns-clause-bits
returns-clause-bits c =
    let bs : List ℕ = c.args.bytes.now.items in
    let size : ℕ = c.args.size in
    let n : ℕ = (size % 8 + c.args.length + 7) / 8 in
    let bytes : List ℕ = bytes_low_first 0 16 (c.args.word * 2 ^ (size % 8) + c.open_bits-low.result) in
    let enough : size ≤ 8 * length bs = omega (arith, c.requires.below, c.args.bytes.now.ok.0) in
    let front : length (take (size / 8) bs) ≡ size / 8 = length-take (size / 8) bs ∙ omega (arith, enough) in
    let made : c.extend_from_slice.new.self.items ≡ take (size / 8) bs ++ bytes = rw (c.unwrap.ensures, c.truncate.ensures.items, c.sixteen_bytes-spelled.ensures, c.word_behind-joined.ensures) at c.extend_from_slice.ensures.items in
    let cut : size / 8 + n ≡ length (take (size / 8) bs) + n = omega (arith, front) in
    word_put bs _ size c.args.length n c.args.word c.open_bits-low.result (rw c.deref.ensures.value at c.open_bits-low.ensures) enough
    (omega (arith, c.requires.short)) (omega arith)
    (c.truncate-2.ensures.items ∙ (ap₂ (λ (k : ℕ) (l : List ℕ). take k l) cut made ∙ take-append-add (take (size / 8) bs) bytes n))
