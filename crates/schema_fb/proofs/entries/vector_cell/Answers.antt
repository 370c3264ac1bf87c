use Rattle.std.proofs.Common.{◌≡◌, ℕ, ◌==◌, false, length, sym, ap, ◌∙◌}
use Rattle.schema_fb.proofs.Built.{some_vector}
use Rattle.schema_fb.proofs.Opened.{vector_opened, below_opened}
use Rattle.schema_fb.specs.Layout as layout
use Rattle.schema_fb.specs.declared.object.Object.{Vector}
use Rattle.schema_fb.proofs.entries.vector_cell.Goals as goal

pub returns : goal.returns
returns c m h =
    let entries = c.args.entries in
    let some : (length entries.items == 0) ≡ false = ap (λ (n : ℕ). n == 0) (sym entries.ok.0) ∙ sym c.is_empty.ensures ∙ c.if-is_empty.false in
    below_opened (Vector entries) ∙ ap layout.below (vector_opened entries) ∙ some_vector entries.items m some h
