use Rattle.dictionary_leaves.proofs.KeyPieces.{keys_given}
use Rattle.dictionary_leaves.proofs.key_column.KeyColumn.next_keys.Goals as goal

pub returns-in-Int8-clause-gives : goal.returns-in-Int8-clause-gives
returns-in-Int8-clause-gives g c = rw c.in-Int8.is (keys_given _ _ _ _ _ _ _ c.keys_among.ensures c.next_piece.ensures.gives c.next_piece.ensures.foreseen)

pub returns-in-Int16-clause-gives : goal.returns-in-Int16-clause-gives
returns-in-Int16-clause-gives g c = rw c.in-Int16.is (keys_given _ _ _ _ _ _ _ c.keys_among-in-Int16.ensures c.next_piece-in-Int16.ensures.gives c.next_piece-in-Int16.ensures.foreseen)

pub returns-in-Int32-clause-gives : goal.returns-in-Int32-clause-gives
returns-in-Int32-clause-gives g c = rw c.in-Int32.is (keys_given _ _ _ _ _ _ _ c.keys_among-in-Int32.ensures c.next_piece-in-Int32.ensures.gives c.next_piece-in-Int32.ensures.foreseen)

pub returns-in-Int64-clause-gives : goal.returns-in-Int64-clause-gives
returns-in-Int64-clause-gives g c = rw c.in-Int64.is (keys_given _ _ _ _ _ _ _ c.keys_among-in-Int64.ensures c.next_piece-in-Int64.ensures.gives c.next_piece-in-Int64.ensures.foreseen)

pub returns-in-UInt8-clause-gives : goal.returns-in-UInt8-clause-gives
returns-in-UInt8-clause-gives g c = rw c.in-UInt8.is (keys_given _ _ _ _ _ _ _ c.keys_among-in-UInt8.ensures c.next_piece-in-UInt8.ensures.gives c.next_piece-in-UInt8.ensures.foreseen)

pub returns-in-UInt16-clause-gives : goal.returns-in-UInt16-clause-gives
returns-in-UInt16-clause-gives g c = rw c.in-UInt16.is (keys_given _ _ _ _ _ _ _ c.keys_among-in-UInt16.ensures c.next_piece-in-UInt16.ensures.gives c.next_piece-in-UInt16.ensures.foreseen)

pub returns-in-UInt32-clause-gives : goal.returns-in-UInt32-clause-gives
returns-in-UInt32-clause-gives g c = rw c.in-UInt32.is (keys_given _ _ _ _ _ _ _ c.keys_among-in-UInt32.ensures c.next_piece-in-UInt32.ensures.gives c.next_piece-in-UInt32.ensures.foreseen)

pub returns-in-UInt64-clause-gives : goal.returns-in-UInt64-clause-gives
returns-in-UInt64-clause-gives g c = rw c.in-UInt64.is (keys_given _ _ _ _ _ _ _ c.keys_among-in-UInt64.ensures c.next_piece-in-UInt64.ensures.gives c.next_piece-in-UInt64.ensures.foreseen)
