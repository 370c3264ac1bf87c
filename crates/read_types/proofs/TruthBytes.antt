-- Truth values share their bytes.
use Rattle.std.proofs.Common.{◌≡◌, ℕ, true, false, true≢false, List, refl, sym, ◌∙◌}
use Rattle.read_leaf.specs.Truths.{stored_truths}
use Rattle.read_pieces.specs.Leaves.{AreEights, BeginsWithValue, in_bytes}
use Rattle.read_types.proofs.TruthsRead.{eights}

pub truths_share : false ≡ in_bytes (λ text. stored_truths text 0)
truths_share = refl

pub truths_are_eights : (text : List ℕ) → AreEights (λ text. stored_truths text 0) text
truths_are_eights text = let e = eights text in record { values = e.0; are = e.1; count = e.2 }

pub no_value_alone : (n : ℕ) (text : List ℕ) → in_bytes (λ text. stored_truths text 0) ≡ true → BeginsWithValue (λ text. stored_truths text 0) n text
no_value_alone n text h = absurd (true≢false (sym h ∙ sym truths_share))
