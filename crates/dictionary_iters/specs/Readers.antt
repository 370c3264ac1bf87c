-- The reader of the column in each iterator.
use Rattle.std.specs.Prelude.{Option}
use Rattle.dictionary_leaves.specs.Stages.{DictionaryReading}
use Rattle.dictionary_iters.specs.declared.binary.NestedDictIter as Strings
use Rattle.dictionary_iters.specs.declared.fixed_size_binary.NestedDictIter as Chunks
use Rattle.dictionary_iters.specs.declared.primitive.NestedDictIter as Numbers

abbrev pub of_strings : {K2 O I : Type 0} → Strings.NestedDictIter K2 O I → Option DictionaryReading
of_strings it = it.pieces.column

abbrev pub of_chunks : {K2 I : Type 0} → Chunks.NestedDictIter K2 I → Option DictionaryReading
of_chunks it = it.pieces.column

abbrev pub of_numbers : {K2 T I P : Type 0} → Numbers.NestedDictIter K2 T I P → Option DictionaryReading
of_numbers it = it.pieces.column
