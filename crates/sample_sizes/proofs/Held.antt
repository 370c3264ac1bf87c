-- Groups of a file of the sample are its rows, laid out.
use Rattle.std.proofs.Common.{List, [], ◌∷◌}
use Rattle.std.specs.List.{AllZip}
use Rattle.shredding.specs.Slot.{Slots}
use Rattle.pq_files.specs.Layout.{OutGroup}
use Rattle.pq_headline.specs.Output.{Style}
use Rattle.sample_rows.specs.Fields.{sample_fields}
use Rattle.sample_sizes.specs.Laid.{IsLaidOut}
use Rattle.unique_rows.specs.Held.{AreRowsIn}

pub laid_out : (s : Style) (rows : List Slots) (out : OutGroup) → AreRowsIn s sample_fields rows out → IsLaidOut s rows out
laid_out s rows out h = record { encodings = _; entries = _; none = h.none; laid = h.laid }

pub all_laid_out : (s : Style) (rowss : List (List Slots)) (outs : List OutGroup) → AllZip (AreRowsIn s sample_fields) rowss outs → AllZip (IsLaidOut s) rowss outs
all_laid_out s [] [] h = tt
all_laid_out s [] (o ∷ os) h = absurd h
all_laid_out s (r ∷ rs) [] h = absurd h
all_laid_out s (r ∷ rs) (o ∷ os) h = (laid_out s r o h.0, all_laid_out s rs os h.1)
