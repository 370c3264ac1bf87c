use Rattle.std.proofs.Common.{subst, sym}
use Rattle.dictionary_leaves.specs.Stages.{IsReadingDictionary}
use Rattle.read_columns.specs.Columns.{IsReadingColumn}
use Rattle.read_columns.proofs.Pieces.{dictionary_gives, leaf_gives}
use Rattle.read_columns.proofs.column.Reader.next_piece.Goals as goal

pub returns-in-Leaf : goal.returns-in-Leaf
unfolding IsReadingColumn
returns-in-Leaf g c o t pieces r =
    let reads = rw c.in-Leaf.is at r in
    leaf_gives o t pieces _ _ c.next_piece.result reads (c.next_piece.ensures o t pieces reads)

pub returns-in-Dictionary : goal.returns-in-Dictionary
unfolding IsReadingColumn
returns-in-Dictionary g c o t pieces r =
    let reads = subst (λ x. IsReadingDictionary o t pieces x) (sym c.deref_mut.ensures.value) (rw c.in-Dictionary.is at r) in
    dictionary_gives o t pieces _ _ c.next_piece-in-Dictionary.result reads (c.next_piece-in-Dictionary.ensures o t pieces reads)
