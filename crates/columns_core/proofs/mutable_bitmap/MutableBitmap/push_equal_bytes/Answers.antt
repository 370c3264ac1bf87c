use Rattle.std.proofs.Common.{◌≡◌, ◌+◌, ◌-◌, ◌++◌, ◌∙◌, ℕ, List, replicate, ap, ap₂, arith}
use Rattle.std.proofs.lemmas.List.{take_all}
use Rattle.columns_core.proofs.Bits.{size_seen}
use Rattle.columns_core.proofs.Grown.{copies_more}
use Rattle.columns_core.proofs.mutable_bitmap.MutableBitmap.push_equal_bytes.Goals as goal

pub returns-clause-same : goal.returns-clause-same
returns-clause-same c =
    let bs : List ℕ = c.self.inside.bytes.items in
    let seen = ap (λ p. p.0) c.self.view_is in
    let count : c.len.result + c.args.count - c.self.inside.bytes.len ≡ c.args.count = omega (arith, c.len.ensures) in
    let made : c.resize.new.self.items ≡ bs ++ replicate c.args.count c.full_byte.result = rw c.unwrap.ensures at c.resize.ensures.items ∙ ap₂ (λ (xs : List ℕ) (n : ℕ). xs ++ replicate n c.full_byte.result) (take_all _ bs (omega (arith, c.len.ensures, c.self.inside.bytes.ok.0))) count in
    rw made (copies_more bs c.self.inside.size c.args.count c.full_byte.result c.args.value c.args.self.now.0 (λ h. omega (arith, size_seen _ _ _ _ seen, c.self.invariant, c.requires.filled h, c.self.inside.bytes.ok.0)) seen c.full_byte.ensures)
