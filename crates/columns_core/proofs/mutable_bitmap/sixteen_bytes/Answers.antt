use Rattle.std.proofs.Common.{◌++◌, ℕ, List, ap₂, sym, ◌∙◌}
use Rattle.columns_core.proofs.Words.{two_words}
use Rattle.columns_core.proofs.mutable_bitmap.sixteen_bytes.Goals as goal

pub returns : goal.returns
returns c = ap₂ (λ (xs ys : List ℕ). xs ++ ys) (c.copy_from_slice.ensures.after ∙ c.to_le_bytes.ensures) (c.copy_from_slice-2.ensures.after ∙ c.to_le_bytes-2.ensures) ∙ sym (two_words c.args.n)
