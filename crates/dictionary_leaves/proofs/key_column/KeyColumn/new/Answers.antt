use Rattle.dictionary_leaves.proofs.key_column.KeyColumn.new.Goals.{in-Int8+in_ok-read-in-Int8, in-Int16+in_ok-read-in-Int16, in-Int32+in_ok-read-in-Int32, in-Int64+in_ok-read-in-Int64, in-UInt8+in_ok-read-in-UInt8, in-UInt16+in_ok-read-in-UInt16, in-UInt32+in_ok-read-in-UInt32, in-UInt64+in_ok-read-in-UInt64}
use Rattle.dictionary_leaves.proofs.key_column.KeyColumn.new.Goals as goal

pub returns-clause-reads : goal.returns-clause-reads
returns-clause-reads g c o readable physical outcomes way rows size = elim c.match-key.branch [
  | in-Int8+in_ok-read-in-Int8 w ↦ rw (w.in-Int8.is, w.result-is) (w.in_ok-read-in-Int8.ensures.reads o _ _ (rw w.in-Int8.is at readable) physical outcomes way rows size)
  | in-Int16+in_ok-read-in-Int16 w ↦ rw (w.in-Int16.is, w.result-is) (w.in_ok-read-in-Int16.ensures.reads o _ _ (rw w.in-Int16.is at readable) physical outcomes way rows size)
  | in-Int32+in_ok-read-in-Int32 w ↦ rw (w.in-Int32.is, w.result-is) (w.in_ok-read-in-Int32.ensures.reads o _ _ (rw w.in-Int32.is at readable) physical outcomes way rows size)
  | in-Int64+in_ok-read-in-Int64 w ↦ rw (w.in-Int64.is, w.result-is) (w.in_ok-read-in-Int64.ensures.reads o _ _ (rw w.in-Int64.is at readable) physical outcomes way rows size)
  | in-UInt8+in_ok-read-in-UInt8 w ↦ rw (w.in-UInt8.is, w.result-is) (w.in_ok-read-in-UInt8.ensures.reads o _ _ (rw w.in-UInt8.is at readable) physical outcomes way rows size)
  | in-UInt16+in_ok-read-in-UInt16 w ↦ rw (w.in-UInt16.is, w.result-is) (w.in_ok-read-in-UInt16.ensures.reads o _ _ (rw w.in-UInt16.is at readable) physical outcomes way rows size)
  | in-UInt32+in_ok-read-in-UInt32 w ↦ rw (w.in-UInt32.is, w.result-is) (w.in_ok-read-in-UInt32.ensures.reads o _ _ (rw w.in-UInt32.is at readable) physical outcomes way rows size)
  | in-UInt64+in_ok-read-in-UInt64 w ↦ rw (w.in-UInt64.is, w.result-is) (w.in_ok-read-in-UInt64.ensures.reads o _ _ (rw w.in-UInt64.is at readable) physical outcomes way rows size)
]

pub returns-clause-foreseen : goal.returns-clause-foreseen
returns-clause-foreseen g c o others readable physical outcomes way rows size = elim c.match-key.branch [
  | in-Int8+in_ok-read-in-Int8 w ↦ rw (w.in-Int8.is, w.result-is) (w.in_ok-read-in-Int8.ensures.foreseen o _ _ others (rw w.in-Int8.is at readable) physical outcomes way rows size)
  | in-Int16+in_ok-read-in-Int16 w ↦ rw (w.in-Int16.is, w.result-is) (w.in_ok-read-in-Int16.ensures.foreseen o _ _ others (rw w.in-Int16.is at readable) physical outcomes way rows size)
  | in-Int32+in_ok-read-in-Int32 w ↦ rw (w.in-Int32.is, w.result-is) (w.in_ok-read-in-Int32.ensures.foreseen o _ _ others (rw w.in-Int32.is at readable) physical outcomes way rows size)
  | in-Int64+in_ok-read-in-Int64 w ↦ rw (w.in-Int64.is, w.result-is) (w.in_ok-read-in-Int64.ensures.foreseen o _ _ others (rw w.in-Int64.is at readable) physical outcomes way rows size)
  | in-UInt8+in_ok-read-in-UInt8 w ↦ rw (w.in-UInt8.is, w.result-is) (w.in_ok-read-in-UInt8.ensures.foreseen o _ _ others (rw w.in-UInt8.is at readable) physical outcomes way rows size)
  | in-UInt16+in_ok-read-in-UInt16 w ↦ rw (w.in-UInt16.is, w.result-is) (w.in_ok-read-in-UInt16.ensures.foreseen o _ _ others (rw w.in-UInt16.is at readable) physical outcomes way rows size)
  | in-UInt32+in_ok-read-in-UInt32 w ↦ rw (w.in-UInt32.is, w.result-is) (w.in_ok-read-in-UInt32.ensures.foreseen o _ _ others (rw w.in-UInt32.is at readable) physical outcomes way rows size)
  | in-UInt64+in_ok-read-in-UInt64 w ↦ rw (w.in-UInt64.is, w.result-is) (w.in_ok-read-in-UInt64.ensures.foreseen o _ _ others (rw w.in-UInt64.is at readable) physical outcomes way rows size)
]
